use Rattle.std.proofs.Common.{◌≡◌, ◌+◌, drop}
use Rattle.std.specs.List.{prefix_len}
use Rattle.std.specs.Prelude.{not}
use Rattle.es5_ast.specs.Lexical.{is_line_terminator}
use Rattle.es5_tokens.proofs.classes.line_run.Given as goal

abbrev pub invariant-loop-i : goal.invariant-loop-i
invariant-loop-i l = prefix_len (λ c. not (is_line_terminator c)) l.rest ≡ l.i + prefix_len (λ c. not (is_line_terminator c)) (drop l.i l.rest)
