use Rattle.es6_lexer.proofs.Unique.{same_tokens}
use Rattle.es6_lexer.proofs.lexer.one_token_list.Goals as goal

pub returns : goal.returns
returns c = λ text a b p q. same_tokens _ _ _ _ a b p q
