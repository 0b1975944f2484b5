use Rattle.std.proofs.Common.{◌≡◌, ◌+◌, drop}
use Rattle.std.specs.List.{prefix_len}
use Rattle.std.specs.Char.{is_ascii_hexdigit}
use Rattle.es5_tokens.proofs.classes.hexadecimal_run.Given as goal

abbrev pub invariant-loop-i : goal.invariant-loop-i
invariant-loop-i l = prefix_len is_ascii_hexdigit l.rest ≡ l.i + prefix_len is_ascii_hexdigit (drop l.i l.rest)
