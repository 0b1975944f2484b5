use Rattle.std.proofs.Common.{Err, List, MatchResult, Result, Vec, ℕ, refl, sym, ap, ◌∙◌, subst, map}
use Rattle.std.specs.Global.{Global}
use Rattle.std.proofs.lemmas.Result.{err_from_is_err_and}
use Rattle.es_outside.specs.HostList.{names}
use Rattle.command_words.specs.Words.{rebuild}
use Rattle.edit_reading.specs.Reading.{AreEdits}
use Rattle.listed_builds.specs.declared.taken.Taken.{Taken}
use Rattle.listed_builds.specs.Doing.{step_of}
use Rattle.commands.specs.declared.fault.CommandFault.{CommandFault}
use Rattle.commands.specs.Outcome.{IsRebuilt}
use Rattle.commands.specs.Parts.{Fits}
use Rattle.commands.proofs.Outcomes.{builds_fit, edits_fit}
use Rattle.commands.proofs.rebuilding.rebuild.Goals as goal

pub returns-in_err-edits-clause-made : goal.returns-in_err-edits-clause-made
returns-in_err-edits-clause-made g c =
    let hosts = names c.args.hosts.now in
    let told = g.F.Files.files c.args.files.now in
    let old = g.F.Files.faults c.args.files.now in
    let new = g.F.Files.faults c.take_edits.new.files in
    let unread = c.in_err-edits.field-0.0 in
    let p = err_from_is_err_and c.from_residual-in_err-edits.result c.from_residual-in_err-edits.ensures.1 in
    let same = p.1 ∙ ap (λ f. Err f) p.2 in
    subst (λ (r : Result (Vec ℕ Global) CommandFault). MatchResult r (λ text. IsRebuilt hosts told c.args.entry.now c.args.list.now text.items) (Fits hosts (rebuild c.args.entry.now c.args.list.now) told old new)) (sym same)
    (edits_fit hosts told c.args.entry.now c.args.list.now old new unread c.in_err-edits.ensures.taken)

pub returns-clause-made : goal.returns-clause-made
returns-clause-made g c =
    let hosts = names c.args.hosts.now in
    let told = g.F.Files.files c.args.files.now in
    let old = g.F.Files.faults c.args.files.now in
    let new = g.F.Files.faults c.written_builds.new.files in
    let edits = subst (λ (taken : List Taken). AreEdits told c.args.list.now (map step_of taken)) (sym c.as_slice.ensures.value) c.in_ok-edits.ensures.taken in
    subst (λ (fault : CommandFault). Fits hosts (rebuild c.args.entry.now c.args.list.now) told old new fault) (sym c.ended.ensures)
    (builds_fit hosts told (g.F.Files.files c.take_edits.new.files) c.args.entry.now c.args.list.now old (g.F.Files.faults c.take_edits.new.files) new (map step_of c.as_slice.result.now)
    c.in-Err.fault (Vec ℕ Global) (Err c.in-Err.fault) refl c.in_ok-edits.ensures.kept c.in_ok-edits.ensures.no_fall edits c.in-Err.ensures.reads c.in-Err.ensures.failed)
