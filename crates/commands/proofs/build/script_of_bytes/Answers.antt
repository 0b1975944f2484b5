use Rattle.std.proofs.Common.{◌≡◌, ◌∙◌, List, subst}
use Rattle.first_forms.specs.Lexing.{tokens_of}
use Rattle.first_forms.specs.Modules.{Spells}
use Rattle.first_forms.specs.declared.token.Token.{Token}
use Rattle.graph_refusals.specs.declared.fault.FileFault.TheVariants.{FileTooLong}
use Rattle.commands.specs.Parts.{bytes_too_long, formed, unformed}
use Rattle.commands.proofs.Outcomes.{fits_bytes, no_form}
use Rattle.commands.proofs.build.script_of_bytes.Goals as goal

pub returns-then-bytes : goal.returns-then-bytes
returns-then-bytes c = fits_bytes c.args.hosts.now c.args.path.now c.args.bytes.now FileTooLong c.entry_fault.result c.entry_fault.ensures (bytes_too_long c.if-bytes.true)

pub returns-in-Err-NotBuilt : goal.returns-in-Err-NotBuilt
returns-in-Err-NotBuilt c =
    let none = no_form c.args.hosts.now c.args.bytes.now c.as_slice.result.now c.in-Err-NotBuilt.field-0 c.in-Err-NotBuilt.field-0-0 (c.as_slice.ensures ∙ c.in_ok-tokens.ensures.exact) c.in-Err-NotBuilt.field-0-is c.in-Err-NotBuilt.ensures.complete in
    unformed c.if-bytes.false none

pub returns-in_ok-script_of-in-Ok : goal.returns-in_ok-script_of-in-Ok
returns-in_ok-script_of-in-Ok c =
    let same : c.as_slice.result.now ≡ tokens_of c.args.bytes.now = c.as_slice.ensures ∙ c.in_ok-tokens.ensures.exact in
    formed c.in-Ok.module c.if-bytes.false (subst (λ (ts : List Token). Spells c.args.hosts.now ts c.in-Ok.module) same c.in-Ok.ensures.spelled) c.in_ok-script_of-in-Ok.ensures
