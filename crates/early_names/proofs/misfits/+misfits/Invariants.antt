use Rattle.std.proofs.Common.{◌≡◌, drop, map}
use Rattle.es6_static_semantics.specs.Early.{element_found, property_found}
use Rattle.es6_ast.specs.Targets.{elements_misfit, first_misfit}
use Rattle.early_names.proofs.misfits.+misfits.Given as goal

abbrev pub invariant-elements_misfit-loop-index : goal.invariant-elements_misfit-loop-index
invariant-elements_misfit-loop-index l = elements_misfit l.ends_in_comma (map (λ e. e.element) (map element_found (drop l.index l.elements))) ≡ elements_misfit l.ends_in_comma (map (λ e. e.element) (map element_found l.elements))

abbrev pub invariant-properties_misfit-loop-property : goal.invariant-properties_misfit-loop-property
invariant-properties_misfit-loop-property l = first_misfit (map (λ p. p.misfit) (map property_found (drop l.property-index l.properties))) ≡ first_misfit (map (λ p. p.misfit) (map property_found l.properties))
