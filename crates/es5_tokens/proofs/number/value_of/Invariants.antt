use Rattle.std.proofs.Common.{◌≡◌, ◌+◌, ◌*◌, ◌≤◌, drop, fold}
use Rattle.std.specs.Char.{digit_value}
use Rattle.es5_tokens.specs.Numbers.{digits_value}
use Rattle.es5_tokens.proofs.number.value_of.Given as goal

abbrev pub invariant-loop-c : goal.invariant-loop-c
invariant-loop-c l = record {
  same : fold (λ n d. l.radix * n + digit_value d) l.value (drop l.c-index l.digits) ≡ digits_value l.radix l.digits;
  small : l.value ≤ 9007199254740991;
}
