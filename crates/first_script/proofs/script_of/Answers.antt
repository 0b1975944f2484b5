use Rattle.std.proofs.Common.{List, ℕ, sym, ◌∙◌, ap, subst}
use Rattle.first_script.specs.Pieces.{text_of, script_pieces}
use Rattle.first_script.specs.Script.{IsScriptOf}
use Rattle.first_script.proofs.Plain.{plain_module}
use Rattle.first_script.proofs.Whole.{written_script}
use Rattle.first_script.proofs.script_of.Goals as goal

pub print_script-requires : goal.print_script-requires
print_script-requires c = plain_module c.args.hosts.now c.args.source.now c.requires

pub returns : goal.returns
returns c =
    let suffix_is = c.as_slice.ensures.value ∙ c.in_ok-suffix.ensures in
    let text_is = c.in_ok-script.ensures ∙ ap (λ (s : List ℕ). text_of (script_pieces s c.args.source.now)) suffix_is in
    subst (λ (bytes : List ℕ). IsScriptOf c.args.hosts.now c.args.source.now bytes) (sym text_is) (written_script c.args.hosts.now c.args.source.now c.requires)
