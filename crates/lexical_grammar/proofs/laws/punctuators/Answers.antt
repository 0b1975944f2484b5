use Rattle.std.proofs.Common.{subst}
use Rattle.es6_lexer.specs.declared.shape.Element.{Element}
use Rattle.lexical_grammar.specs.Grammar.{IsPunctuator}
use Rattle.lexical_grammar.proofs.PunctuatorLemmas.{punctuator_is}
use Rattle.lexical_grammar.proofs.PunctuatorOnly.{punctuator_only}
use Rattle.lexical_grammar.proofs.laws.punctuators.Goals as goal

pub returns : goal.returns
returns c = λ rest e. (λ h. subst (λ (x : Element). IsPunctuator rest x) h (punctuator_is rest), λ h. punctuator_only rest e h)
