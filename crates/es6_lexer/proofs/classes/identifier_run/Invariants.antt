use Rattle.std.proofs.Common.{◌≡◌, ◌+◌, drop}
use Rattle.es6_lexer.specs.Classes.{run_of, is_identifier_part}
use Rattle.es6_lexer.proofs.classes.identifier_run.Given as goal

abbrev pub invariant-loop-i : goal.invariant-loop-i
invariant-loop-i l = run_of is_identifier_part l.rest ≡ l.i + run_of is_identifier_part (drop l.i l.rest)
