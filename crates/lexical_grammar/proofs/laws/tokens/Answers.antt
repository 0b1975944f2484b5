use Rattle.lexical_grammar.proofs.FrontLemmas.{row}
use Rattle.lexical_grammar.proofs.FrontOnly.{row_only}
use Rattle.lexical_grammar.proofs.laws.tokens.Goals as goal

pub returns : goal.returns
returns c = λ text tokens. (λ d. row _ _ _ text tokens d, λ d. row_only _ _ _ text tokens d)
