use Rattle.std.proofs.Common.{◌≡◌, ◌++◌, drop, map}
use Rattle.source_exports.proofs.names.add_own.Given as goal

abbrev pub invariant-loop-entry : goal.invariant-loop-entry
invariant-loop-entry l = l.names ++ map (λ e. e.name) (drop l.entry-index l.exports) ≡ l.initial.names ++ map (λ e. e.name) l.exports
