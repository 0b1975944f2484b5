use Rattle.std.proofs.Common.{subst}
use Rattle.es6_lexer.specs.declared.shape.Element.{Element}
use Rattle.lexical_grammar.specs.Grammar.{IsText}
use Rattle.lexical_grammar.proofs.TextLemmas.{text_element_is}
use Rattle.lexical_grammar.proofs.TextOnly.{text_only}
use Rattle.lexical_grammar.proofs.laws.texts.Goals as goal

pub returns : goal.returns
returns c = λ quote rest e q. (λ h. subst (λ (x : Element). IsText quote 1 rest x) h (text_element_is quote rest), λ h. text_only quote 1 rest e q h)
