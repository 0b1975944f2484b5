use Rattle.std.proofs.Common.{subst}
use Rattle.es6_lexer.specs.declared.shape.Element.{Element}
use Rattle.lexical_grammar.specs.Grammar.{IsComment}
use Rattle.std.specs.Prelude.{false}
use Rattle.lexical_grammar.proofs.CommentLemmas.{block_comment_is}
use Rattle.lexical_grammar.proofs.CommentOnly.{comment_only}
use Rattle.lexical_grammar.proofs.laws.comments.Goals as goal

pub returns : goal.returns
returns c = λ first second rest e. (λ h. subst (λ (x : Element). IsComment 2 false rest x) h (block_comment_is first second rest), λ h. comment_only 2 false rest e h)
