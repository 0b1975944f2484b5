use Rattle.std.proofs.Common.{subst}
use Rattle.es6_lexer.specs.declared.shape.Element.{Element}
use Rattle.lexical_grammar.specs.Literals.{IsNumber}
use Rattle.lexical_grammar.proofs.NumberLemmas.{number_is, number_only}
use Rattle.lexical_grammar.proofs.laws.numbers.Goals as goal

pub returns : goal.returns
returns c = λ rest e. (λ h. subst (λ (x : Element). IsNumber rest x) h (number_is rest), λ h. number_only rest e h)
