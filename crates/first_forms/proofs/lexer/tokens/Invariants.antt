use Rattle.std.proofs.Common.{◌-◌, length}
use Rattle.first_forms.proofs.Texts.{HasRead}
use Rattle.first_forms.proofs.lexer.tokens.Given as goal

abbrev pub invariant-loop-place : goal.invariant-loop-place
invariant-loop-place l = HasRead l.bytes l.tokens l.place

abbrev pub decreases-loop-place : goal.decreases-loop-place
decreases-loop-place l = length l.bytes - l.place
