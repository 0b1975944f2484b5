use Rattle.std.proofs.Common.{◌∙◌, sym}
use Rattle.std.proofs.lemmas.Bool.{eqb-true}
use Rattle.es5_tokens.proofs.Front.{result_inside, element_nil}
use Rattle.es5_tokens.proofs.element.element.Goals as goal

pub returns-then-is_empty-clause-value : goal.returns-then-is_empty-clause-value
returns-then-is_empty-clause-value c = element_nil c.args.rest.now (eqb-true _ 0 (sym c.is_empty.ensures ∙ c.if-is_empty.true))

pub returns-clause-within : goal.returns-clause-within
returns-clause-within c = result_inside c.args.rest.now c.element_by_character.result c.element_by_character.ensures
