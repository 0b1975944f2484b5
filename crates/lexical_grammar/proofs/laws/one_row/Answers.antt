use Rattle.es6_lexer.proofs.Unique.{same_tokens}
use Rattle.lexical_grammar.proofs.FrontOnly.{row_only}
use Rattle.lexical_grammar.proofs.laws.one_row.Goals as goal

pub returns : goal.returns
returns c = λ text a b p q. same_tokens _ _ _ text a b (row_only _ _ _ text a p) (row_only _ _ _ text b q)
