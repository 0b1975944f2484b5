use Rattle.std.proofs.Common.{◌≡◌, Some, ◌+◌, nat_eq, length, ◌&&◌, not, get_or, sym, ap, ◌∙◌}
use Rattle.es6_static_semantics.specs.Early.{ArgumentFound, element_found}
use Rattle.early_names.specs.Misfits.{element_misfit}
use Rattle.early_names.proofs.Fits.{elements_misfit-step, first-found}
use Rattle.early_names.proofs.misfits.+misfits.Goals as goal

pub elements_misfit-returns-in-Some : goal.elements_misfit-returns-in-Some
elements_misfit-returns-in-Some t c =
    let elements = c.args.elements.now in
    let i = c.loop-index.index in
    let element = c.index-elements-index.result in
    let is_rest = nat_eq (i + 1) (length elements) && not c.args.ends_in_comma in
    let here : element_misfit is_rest (element_found (get_or elements i element)).element ≡ Some c.in-Some.at =
    ap (λ e. element_misfit is_rest (element_found e).element) (sym c.index-elements-index.is) ∙ sym c.element_misfit.ensures ∙ c.in-Some.is in
    first-found _ c.in-Some.at _ here
    ∙ sym (elements_misfit-step (λ (x : ArgumentFound). x.element) element_found c.args.ends_in_comma elements i element c.loop-index-test.true)
    ∙ c.loop-index.invariant
