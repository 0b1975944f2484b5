use Rattle.std.proofs.Common.{◌≡◌, ◌-◌, suc, sym, ◌∙◌, arith}
use Rattle.es6_ast.specs.declared.tree.Property.{out-Property}
use Rattle.es6_reading.specs.Refine.{object_parts_of, property_part, refine}
use Rattle.es6_refine.specs.Fitting.{part_of}
use Rattle.es6_refine.proofs.Fitted.{array-fits, by_properties, elements_no_more, fits_no_more, keyed-fits, object-fits}
use Rattle.es6_refine.proofs.targets.+fits.Goals as goal

pub elements_fit-returns-then-not-fits : goal.elements_fit-returns-then-not-fits
elements_fit-returns-then-not-fits t c =
    elements_no_more c.args.binds c.args.ends_in_comma (refine c.args.binds c.args.depth) (part_of c.args.binds c.args.depth) c.args.elements.now c.loop-index.index c.index-elements-index.result c.element_fit-fit.result (c.loop-index-test.true, c.index-elements-index.is) c.element_fit-fit.ensures (sym c.fits.ensures ∙ c.if-not-fits.true)
    ∙ c.loop-index.invariant

pub properties_fit-returns-then-not-fits : goal.properties_fit-returns-then-not-fits
properties_fit-returns-then-not-fits t c =
    let part = part_of c.args.binds c.args.depth in
    fits_no_more (λ p. property_part part (out-Property p)) (object_parts_of part) (by_properties part) c.args.properties.now c.loop-property.property-index c.property-item.result c.property_fit-fit.result (c.loop-property-test.true, c.property-item.is) c.property_fit-fit.ensures (sym c.fits.ensures ∙ c.if-not-fits.true)
    ∙ c.loop-property.invariant

pub property_fit-returns-in-Plain : goal.property_fit-returns-in-Plain
property_fit-returns-in-Plain t c = keyed-fits (part_of c.args.binds c.args.depth) c.in-Plain.is c.part_fit.ensures

pub target_fit-returns-in-ArrayList : goal.target_fit-returns-in-ArrayList
target_fit-returns-in-ArrayList t c =
    let deep : c.args.depth ≡ suc (c.args.depth - 1) = omega arith in
    array-fits c.args.binds c.args.depth (c.args.depth - 1) c.as_slice.result.now deep c.in-ArrayList.is c.as_slice.ensures c.elements_fit.ensures

pub target_fit-returns-in-ObjectList : goal.target_fit-returns-in-ObjectList
target_fit-returns-in-ObjectList t c =
    let deep : c.args.depth ≡ suc (c.args.depth - 1) = omega arith in
    object-fits c.args.binds c.args.depth (c.args.depth - 1) c.as_slice-in-ObjectList.result.now deep c.in-ObjectList.is c.as_slice-in-ObjectList.ensures c.properties_fit.ensures
