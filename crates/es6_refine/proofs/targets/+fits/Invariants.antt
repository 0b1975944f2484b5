use Rattle.std.proofs.Common.{◌≡◌, drop}
use Rattle.es6_reading.specs.Refine.{array_parts_of, object_parts_of, refine}
use Rattle.es6_refine.specs.Fitting.{fit_of, part_of}
use Rattle.es6_refine.proofs.targets.+fits.Given as goal

abbrev pub invariant-elements_fit-loop-index : goal.invariant-elements_fit-loop-index
invariant-elements_fit-loop-index l = fit_of (array_parts_of l.binds l.ends_in_comma (refine l.binds l.depth) (part_of l.binds l.depth) (drop l.index l.elements)) ≡ fit_of (array_parts_of l.binds l.ends_in_comma (refine l.binds l.depth) (part_of l.binds l.depth) l.elements)

abbrev pub invariant-properties_fit-loop-property : goal.invariant-properties_fit-loop-property
invariant-properties_fit-loop-property l = fit_of (object_parts_of (part_of l.binds l.depth) (drop l.property-index l.properties)) ≡ fit_of (object_parts_of (part_of l.binds l.depth) l.properties)
