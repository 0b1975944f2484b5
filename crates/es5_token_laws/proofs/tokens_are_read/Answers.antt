use Rattle.es5_token_laws.proofs.Lexed.{are_read}
use Rattle.es5_token_laws.proofs.tokens_are_read.Goals as goal

pub returns : goal.returns
returns c = λ text ts tokens end fault d l. are_read text ts tokens end fault d l
