-- Which label a jump goes to.
use Rattle.std.proofs.Common.{◌≡◌, ℕ, Bool, true, false, refl}
use Rattle.core_ast.specs.declared.tree.CoreStat.{CoreStat}
use Rattle.module_lowering.specs.declared.context.JumpForm.{JumpForm}
use Rattle.module_lowering.specs.declared.context.JumpForm.TheVariants.{Cases, Stays, Turns}
use Rattle.module_lowering.specs.Statements.{jump_to}
use Rattle.lowering_rules.specs.statement_rules.Statements.{body_label, exit_label, jump}
use Rattle.lower_flow.specs.Jumps.{leaves_body}

pub body_left : (goes_on : Bool) (at : ℕ) (form : JumpForm) → leaves_body goes_on form ≡ true → jump_to goes_on at form ≡ jump false (body_label at)
body_left true at (Turns true) e = refl
body_left true at (Turns false) e = absurd (cc)
body_left false at (Turns tests_last) e = absurd (cc)
body_left true at Cases e = absurd (cc)
body_left false at Cases e = absurd (cc)
body_left true at Stays e = absurd (cc)
body_left false at Stays e = absurd (cc)

pub body_not_left : (goes_on : Bool) (at : ℕ) (form : JumpForm) → leaves_body goes_on form ≡ false → jump_to goes_on at form ≡ jump goes_on (exit_label at)
body_not_left true at (Turns true) e = absurd (cc)
body_not_left true at (Turns false) e = refl
body_not_left false at (Turns tests_last) e = refl
body_not_left true at Cases e = refl
body_not_left false at Cases e = refl
body_not_left true at Stays e = refl
body_not_left false at Stays e = refl
