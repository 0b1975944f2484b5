use Rattle.std.proofs.Common.{◌≡◌, drop}
use Rattle.std.specs.List.{list_all}
use Rattle.es5_ast.specs.Lexical.{is_identifier_part}
use Rattle.es5_printable.proofs.names.are_parts.Given as goal

abbrev pub invariant-loop-byte : goal.invariant-loop-byte
invariant-loop-byte l = list_all is_identifier_part (drop l.byte-index l.bytes) ≡ list_all is_identifier_part l.bytes
