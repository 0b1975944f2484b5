use Rattle.std.proofs.Common.{◌≡◌, ◌++◌, reverse}
use Rattle.module_loading.specs.Requests.{waits}
use Rattle.module_loading.proofs.waiting.wait_for.Given as goal

abbrev pub invariant-loop-index : goal.invariant-loop-index
invariant-loop-index l = waits l.importer l.index ++ reverse l.waiting ≡ waits l.importer l.count ++ reverse l.initial.waiting

abbrev pub decreases-loop-index : goal.decreases-loop-index
decreases-loop-index l = l.index
