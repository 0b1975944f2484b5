use Rattle.std.proofs.Common.{◌≡◌, ◌≤◌, drop}
use Rattle.es6_lexer.specs.Numbers.{digits_from}
use Rattle.es6_lexer.proofs.number.value_of.Given as goal

abbrev pub invariant-loop-c : goal.invariant-loop-c
invariant-loop-c l = record {
  same : digits_from l.radix l.value (drop l.c-index l.digits) ≡ digits_from l.radix 0 l.digits;
  small : l.value ≤ 9007199254740991;
}
