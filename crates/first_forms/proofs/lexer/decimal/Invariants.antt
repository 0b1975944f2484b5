use Rattle.std.proofs.Common.{◌≡◌, ◌+◌, min, take}
use Rattle.first_forms.specs.WellFormed.{max_integer}
use Rattle.first_forms.specs.Lexing.{decimal}
use Rattle.first_forms.proofs.lexer.decimal.Given as goal

abbrev pub invariant-loop-digit : goal.invariant-loop-digit
invariant-loop-digit l = l.value ≡ min (decimal (take l.digit-index l.digits)) (max_integer + 1)
