use Rattle.std.proofs.Common.{◌≡◌, ◌++◌, length}
use Rattle.module_scopes.proofs.environment.Environment.enter.Given as goal

abbrev pub invariant-loop-binding : goal.invariant-loop-binding
invariant-loop-binding l = record { known : l.bindings ++ l.self.known ≡ l.initial.bindings ++ l.initial.self.known; in_object : l.self.in_object ≡ l.initial.self.in_object }

abbrev pub decreases-loop-binding : goal.decreases-loop-binding
decreases-loop-binding l = length l.bindings
