use Rattle.std.proofs.Common.{◌≡◌, ◌++◌, drop}
use Rattle.std.specs.List.{filter}
use Rattle.module_lowering.specs.Bindings.{declares_first}
use Rattle.lower_modules.proofs.scope.first_places.Given as goal

abbrev pub invariant-loop-place : goal.invariant-loop-place
invariant-loop-place l =
    l.out ++ filter (declares_first l.around.bindings.now l.around.context.now) (drop l.place-index l.places)
    ≡ filter (declares_first l.around.bindings.now l.around.context.now) l.places
