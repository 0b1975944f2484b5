use Rattle.std.proofs.Common.{◌≡◌, take}
use Rattle.es5_tokens.proofs.element.name_of.Given as goal

abbrev pub invariant-loop-c : goal.invariant-loop-c
invariant-loop-c l = l.bytes.items ≡ take l.c-index l.parts
