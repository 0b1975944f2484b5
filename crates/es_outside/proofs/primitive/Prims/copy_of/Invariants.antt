use Rattle.std.proofs.Common.{◌≡◌, take}
use Rattle.es_outside.proofs.primitive.Prims.copy_of.Given as goal

abbrev pub invariant-loop-prim : goal.invariant-loop-prim
invariant-loop-prim l = l.list ≡ take l.prim-index l.prims
