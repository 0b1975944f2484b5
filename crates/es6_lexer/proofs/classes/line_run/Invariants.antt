use Rattle.std.proofs.Common.{◌≡◌, ◌+◌, drop}
use Rattle.es6_lexer.specs.Classes.{run_of, is_not_line_terminator}
use Rattle.es6_lexer.proofs.classes.line_run.Given as goal

abbrev pub invariant-loop-i : goal.invariant-loop-i
invariant-loop-i l = run_of is_not_line_terminator l.rest ≡ l.i + run_of is_not_line_terminator (drop l.i l.rest)
