use Rattle.std.proofs.Common.{◌≡◌, ℕ, List, Option, length}
use Rattle.module_loading.specs.declared.waiting.Wait.{Wait}
use Rattle.module_loading.specs.Loading.{Comes, Loaded}
use Rattle.module_loading.specs.States.{AreWithin, Shows}
use Rattle.module_loading.proofs.following.next_of.Given as goal

abbrev pub invariant-loop-wait : goal.invariant-loop-wait
invariant-loop-wait g l =
    AreWithin g.R.ReadsModules.requests l.loading × (l.loading.modules ≡ l.initial.loading.modules)
    × ((told : Option (List ℕ → Option (List ℕ))) (entry : List ℕ) (modules : List (Loaded _)) (waiting : List Wait)
    → Comes told g.R.ReadsModules.reads g.R.ReadsModules.requests entry modules waiting → Shows modules waiting l.initial.loading
    → (rest : List Wait) × Comes told g.R.ReadsModules.reads g.R.ReadsModules.requests entry modules rest × Shows modules rest l.loading)

abbrev pub decreases-loop-wait : goal.decreases-loop-wait
decreases-loop-wait g l = length l.loading.waiting
