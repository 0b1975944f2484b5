use Rattle.std.proofs.Common.{◌≡◌, ◌+◌, ◌≤◌, drop, min}
use Rattle.std.specs.Prelude.{sum_by}
use Rattle.scope_analysis.specs.Answers.{uncertain_sum}
use Rattle.scope_analysis.proofs.scopes.Scopes.uncertain.Given as goal

abbrev pub invariant-loop-module : goal.invariant-loop-module
invariant-loop-module l = record {
  within : l.sum ≤ 18446744073709551615;
  total : min (l.sum + sum_by (λ m. m.uncertain) (drop l.module-index l.self.modules.items)) 18446744073709551615 ≡ min (uncertain_sum l.self) 18446744073709551615;
}
