use Rattle.std.proofs.Common.{◌≡◌, ◌+◌, drop}
use Rattle.std.specs.List.{prefix_len}
use Rattle.es5_ast.specs.Lexical.{is_identifier_part}
use Rattle.es5_tokens.proofs.classes.identifier_run.Given as goal

abbrev pub invariant-loop-i : goal.invariant-loop-i
invariant-loop-i l = prefix_len is_identifier_part l.rest ≡ l.i + prefix_len is_identifier_part (drop l.i l.rest)
