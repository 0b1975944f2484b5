use Rattle.std.proofs.Common.{◌+◌, ◌++◌, ◌≤◌, false, ℕ, List, length}
use Rattle.std.specs.Prelude.{Option}
use Rattle.es5_ast.specs.Lexical.{width}
use Rattle.es5_tokens.specs.declared.token.Token.{Token}
use Rattle.es5_tokens.specs.declared.token.TokenFault.{TokenFault}
use Rattle.es5_tokens.specs.Lexes.{LexesFrom}
use Rattle.es5_tokens.proofs.reader.tokens5.Given as goal

-- the tokens so far, with those of the rest, are those of the text
abbrev pub invariant-loop-list : goal.invariant-loop-list
invariant-loop-list l = record {
  lexes : (tokens : List Token) (end : ℕ) (fault : Option TokenFault) → LexesFrom l.after_line l.offset l.rest tokens end fault → LexesFrom false 0 l.text (l.list.items ++ tokens) end fault;
  size : l.offset + width l.rest ≤ 67108864;
}

abbrev pub decreases-loop-list : goal.decreases-loop-list
decreases-loop-list l = length l.rest
