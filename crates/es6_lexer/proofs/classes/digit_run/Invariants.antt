use Rattle.std.proofs.Common.{◌≡◌, ◌+◌, drop}
use Rattle.es6_lexer.specs.Classes.{run_of, is_digit_of}
use Rattle.es6_lexer.proofs.classes.digit_run.Given as goal

abbrev pub invariant-loop-i : goal.invariant-loop-i
invariant-loop-i l = run_of (is_digit_of l.radix) l.rest ≡ l.i + run_of (is_digit_of l.radix) (drop l.i l.rest)
