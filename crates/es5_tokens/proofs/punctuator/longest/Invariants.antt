use Rattle.std.proofs.Common.{◌≡◌, ◌+◌, drop}
use Rattle.es5_tokens.specs.Punctuators.{grown}
use Rattle.es5_tokens.proofs.punctuator.longest.Given as goal

-- what has been read and what is left make the same punctuator
abbrev pub invariant-loop-c : goal.invariant-loop-c
invariant-loop-c l = record {
  same : grown l.punctuator l.length (drop l.c-index l.c-items) ≡ grown l.fn.first 1 (drop 1 l.rest);
  length : l.length ≡ l.c-index + 1;
}
