use Rattle.std.proofs.Common.{rules, tests}
use Rattle.std.proofs.lemmas.Iterator.{YieldsList-from_slice}
use Rattle.std.proofs.lemmas.Iterator.Search.{all_from_yields_List}
use Rattle.first_forms.specs.WellFormed.{is_text_unit}
use Rattle.first_forms.proofs.reader.are_text_units.Goals as goal

pub returns : goal.returns
returns c =
    all_from_yields_List is_text_unit _ _ _ c.all.ensures.ran (YieldsList-from_slice c.args.units.now cc) (λ x b q k. search (rules, tests))
