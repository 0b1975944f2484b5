use Rattle.std.proofs.Common.{◌≡◌, [], refl, sym, ◌∙◌, subst, length, ◌≤◌, arith, ap}
use Rattle.es6_lexer.specs.declared.shape.Element.{Element}
use Rattle.es6_lexer.specs.declared.shape.Element.TheVariants.{Finished}
use Rattle.std.proofs.lemmas.Bool.{eqb-true}
use Rattle.es6_lexer.specs.Elements.{element, IsInside}
use Rattle.es6_lexer.proofs.Within.{element_inside, element_nil}
use Rattle.es6_lexer.proofs.element.element.Goals as goal

pub returns-then-is_empty-clause-value : goal.returns-then-is_empty-clause-value
returns-then-is_empty-clause-value c = element_nil c.args.closes c.args.rest.now (eqb-true _ 0 (sym c.is_empty.ensures ∙ c.if-is_empty.true))

pub returns-clause-within : goal.returns-clause-within
returns-clause-within c = subst (IsInside (length c.args.rest.now)) (sym c.element_by_character.ensures) (element_inside c.args.closes c.args.rest.now)
