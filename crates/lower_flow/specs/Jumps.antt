-- Jumps.
use Rattle.std.specs.Prelude.{Bool, false, ◌&&◌}
use Rattle.module_lowering.specs.declared.context.JumpForm.{JumpForm}
use Rattle.module_lowering.specs.declared.context.JumpForm.TheVariants.{Cases, Stays, Turns}

-- whether a jump, to the next turn or out, leaves the body of a loop alone
abbrev pub leaves_body : Bool → JumpForm → Bool
leaves_body goes_on (Turns tests_last) = goes_on && tests_last
leaves_body goes_on Cases = false
leaves_body goes_on Stays = false
