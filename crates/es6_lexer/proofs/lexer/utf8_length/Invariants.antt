use Rattle.std.proofs.Common.{◌≡◌, take}
use Rattle.es_text.specs.Places.{offset_at}
use Rattle.es6_lexer.proofs.lexer.utf8_length.Given as goal

abbrev pub invariant-loop-c : goal.invariant-loop-c
invariant-loop-c l = l.total ≡ offset_at l.text l.c-index
