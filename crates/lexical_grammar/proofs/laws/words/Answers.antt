use Rattle.std.proofs.Common.{subst}
use Rattle.es6_lexer.specs.declared.shape.Element.{Element}
use Rattle.lexical_grammar.specs.Grammar.{IsWordOrFault}
use Rattle.lexical_grammar.proofs.WordLemmas.{word_is}
use Rattle.lexical_grammar.proofs.WordOnly.{word_only}
use Rattle.lexical_grammar.proofs.laws.words.Goals as goal

pub returns : goal.returns
returns c = λ first rest e. (λ h. subst (λ (x : Element). IsWordOrFault rest x) h (word_is first rest), λ h. word_only first rest e h)
