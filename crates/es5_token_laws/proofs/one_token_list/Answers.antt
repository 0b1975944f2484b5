use Rattle.es5_token_laws.proofs.Lexed.{one_list}
use Rattle.es5_token_laws.proofs.one_token_list.Goals as goal

pub returns : goal.returns
returns c = λ text a b d e. one_list text a b d e
