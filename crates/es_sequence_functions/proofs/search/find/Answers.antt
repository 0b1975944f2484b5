use Rattle.std.proofs.Common.{◌∙◌}
use Rattle.es_sequence_functions.proofs.SearchLemmas.{finds_units, finds_no_units}
use Rattle.es_sequence_functions.proofs.search.find.Goals as goal

pub returns-in-None : goal.returns-in-None
returns-in-None c = finds_no_units c.args.units.now c.args.search.now _ _ (c.as_slice.ensures.value ∙ c.in_ok-bytes.ensures) (c.as_slice-2.ensures.value ∙ c.in_ok-sought.ensures) c.in-None.ensures

pub returns : goal.returns
returns c = finds_units c.args.units.now c.args.search.now _ _ c.in-Some.at (c.as_slice.ensures.value ∙ c.in_ok-bytes.ensures) (c.as_slice-2.ensures.value ∙ c.in_ok-sought.ensures) c.in-Some.ensures
