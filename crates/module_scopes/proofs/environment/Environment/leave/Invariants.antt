use Rattle.std.proofs.Common.{◌≡◌, ◌-◌, length, drop}
use Rattle.module_scopes.proofs.environment.Environment.leave.Given as goal

abbrev pub invariant-loop-self : goal.invariant-loop-self
invariant-loop-self l = record { known : drop (length l.self.known - l.mark) l.self.known ≡ drop (length l.initial.self.known - l.mark) l.initial.self.known; in_object : l.self.in_object ≡ l.initial.self.in_object }

abbrev pub decreases-loop-self : goal.decreases-loop-self
decreases-loop-self l = length l.self.known
