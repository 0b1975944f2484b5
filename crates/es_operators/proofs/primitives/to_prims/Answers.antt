use Rattle.std.proofs.Common.{◌∙◌, sym}
use Rattle.std.proofs.lemmas.List.{get_or_default}
use Rattle.es_value.specs.declared.value.Value.TheVariants.{Undefined}
use Rattle.es_operators.proofs.PrimLemmas.{prims_stopped}
use Rattle.es_operators.proofs.primitives.to_prims.Goals as goal

pub returns-in-None : goal.returns-in-None
returns-in-None c =
    prims_stopped c.args.values.now c.loop-value.value-index _ Undefined c.loop-value.list.items c.loop-value-test.true (c.value-item.is ∙ get_or_default c.args.values.now c.loop-value.value-index _ Undefined c.loop-value-test.true) c.loop-value.invariant
    (sym c.in_ok-prim.ensures ∙ c.in-None.is)
