use Rattle.std.proofs.Common.{◌≡◌, ◌+◌, List, [], map, Err, MatchResult, Result, Vec, refl, sym, ap, ◌∙◌, subst}
use Rattle.std.specs.Global.{Global}
use Rattle.std.proofs.Math.Nat.{le_refl, le_trans}
use Rattle.std.proofs.lemmas.Result.{err_from_is_err_and}
use Rattle.edit_list.specs.Edits.{asked_of}
use Rattle.listed_builds.specs.Doing.{Step, step_of}
use Rattle.listed_builds.specs.declared.taken.Taken.{Taken}
use Rattle.module_loading.specs.Files.{Told}
use Rattle.edit_reading.specs.declared.fault.Unread.{Unread}
use Rattle.edit_reading.specs.Reading.{AreTaken, IsUntaken, IsUntakenAt, Takes, none}
use Rattle.edit_reading.proofs.TakenFiles.{took, untaken}
use Rattle.edit_reading.proofs.taking.take_all.Goals as goal

pub loop-edit-init : goal.loop-edit-init
loop-edit-init g c =
    let empty = ap (λ items. map step_of items) c.new-taken.ensures.items in
    (subst (λ (s : List Step). AreTaken (g.F.Files.files c.args.files.now) [] s) (sym empty) none, c.new-taken.ensures.len, refl, le_refl (g.F.Files.faults c.args.files.now))

pub loop-edit-preserved : goal.loop-edit-preserved
loop-edit-preserved g c =
    let i = c.loop-edit.invariant in
    let n = c.in_ok-next.ensures in
    let k = c.in_ok-keep.ensures in
    let told = g.F.Files.files c.args.files.now in
    let takes = subst (λ (t : Told). Takes t (asked_of c.edit-item.result) (step_of c.in_ok-next.next)) i.2 n.taken in (
      took told c.args.edits.now c.loop-edit.edit-index c.edit-item.result c.loop-edit.taken.items c.keep.new.taken.items c.in_ok-next.next c.loop-edit-test.true c.edit-item.is k.pushed i.0 takes,
      k.counted ∙ ap (λ m. m + 1) i.1,
      n.kept ∙ i.2,
      le_trans i.3 n.no_fall,
    )

pub returns-in_err-next-clause-taken : goal.returns-in_err-next-clause-taken
returns-in_err-next-clause-taken g c =
    let i = c.loop-edit.invariant in
    let e = c.in_err-next.ensures in
    let told = g.F.Files.files c.args.files.now in
    let old = g.F.Files.faults c.args.files.now in
    let middle = g.F.Files.faults c.loop-edit.files in
    let new = g.F.Files.faults c.take.new.files in
    let unread = c.in_err-next.field-0.0 in
    let p = err_from_is_err_and c.from_residual.result c.from_residual.ensures.1 in
    let same : c.from_residual.result ≡ Err unread = p.1 ∙ ap (λ f. Err f) p.2 in
    let at = subst (λ (t : Told). IsUntakenAt t (asked_of c.edit-item.result) c.len.result middle new unread) i.2 e.taken in
    let here = untaken told c.args.edits.now c.loop-edit.edit-index c.len.result c.edit-item.result (map step_of c.loop-edit.taken.items) old middle new unread c.loop-edit-test.true c.edit-item.is (c.len.ensures ∙ i.1) i.3 i.0 at in
    subst (λ (r : Result (Vec Taken Global) Unread). MatchResult r (λ taken. AreTaken told (map asked_of c.args.edits.now) (map step_of taken.items)) (IsUntaken told (map asked_of c.args.edits.now) old new)) (sym same) here
