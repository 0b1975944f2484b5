-- How a module is spelled: one line for each production (ECMA-262, 6th edition, 12 to 15), which says which tokens a node
-- has and then those that follow it. A node with a place has that of its first token.
use Rattle.std.specs.Prelude.{◌≡◌, ℕ, List, [], ◌∷◌, codes}
use Rattle.first_trees.specs.declared.Item.{Item}
use Rattle.first_trees.specs.declared.Item.TheVariants as item
use Rattle.first_trees.specs.declared.DeclarationKind.{DeclarationKind}
use Rattle.first_trees.specs.declared.DeclarationKind.TheVariants.{Let, Const}
use Rattle.first_trees.specs.declared.Expression.{Expression}
use Rattle.first_trees.specs.declared.Expression.TheVariants as expression
use Rattle.first_trees.specs.declared.Call.{Call}
use Rattle.first_trees.specs.declared.Sum.{Sum}
use Rattle.first_trees.specs.declared.Term.{Term}
use Rattle.first_trees.specs.declared.Term.TheVariants as term
use Rattle.first_forms.specs.declared.token.Token.{Token}
use Rattle.first_forms.specs.declared.token.TokenKind.{TokenKind}
use Rattle.first_forms.specs.declared.token.TokenKind.TheVariants as kind

-- what is asked of a token: its kind, and where a node begins with it, its place
pub data Pattern : Type 0 where
  anywhere : TokenKind → Pattern
  at : ℕ → TokenKind → Pattern

abbrev pub Matches : Token → Pattern → Type 0
Matches t (anywhere k) = t.kind ≡ k
Matches t (at place k) = (t.at ≡ place) × (t.kind ≡ k)

-- the tokens match the patterns, one by one
abbrev pub MatchesAll : List Token → List Pattern → Type 0
MatchesAll [] [] = Unit {0}
MatchesAll [] (p ∷ ps) = ⊥
MatchesAll (t ∷ ts) [] = ⊥
MatchesAll (t ∷ ts) (p ∷ ps) = Matches t p × MatchesAll ts ps

abbrev pub name_token : List ℕ → Pattern
name_token bytes = anywhere (kind.Name bytes)

-- 12.2: NAME, an integer or a text
abbrev pub term_token : Term → Pattern
term_token (term.Integer place value) = at place (kind.Integer value)
term_token (term.Text place units) = at place (kind.Text units)
term_token (term.Name place bytes) = at place (kind.Name bytes)

-- 12.7: TERM { + TERM }
abbrev pub added_tokens : List Term → List Pattern → List Pattern
added_tokens [] rest = rest
added_tokens (x ∷ xs) rest = anywhere kind.Plus ∷ term_token x ∷ added_tokens xs rest

abbrev pub sum_tokens : Sum → List Pattern → List Pattern
sum_tokens x rest = term_token x.first ∷ added_tokens x.rest rest

-- 12.3: NAME ( ), NAME ( SUM { , SUM } )
abbrev pub more_argument_tokens : List Sum → List Pattern → List Pattern
more_argument_tokens [] rest = anywhere kind.RightParen ∷ rest
more_argument_tokens (x ∷ xs) rest = anywhere kind.Comma ∷ sum_tokens x (more_argument_tokens xs rest)

abbrev pub argument_tokens : List Sum → List Pattern → List Pattern
argument_tokens [] rest = anywhere kind.RightParen ∷ rest
argument_tokens (x ∷ xs) rest = sum_tokens x (more_argument_tokens xs rest)

abbrev pub call_tokens : Call → List Pattern → List Pattern
call_tokens c rest = at c.at (kind.Name c.callee) ∷ anywhere kind.LeftParen ∷ argument_tokens c.args rest

abbrev pub initializer_tokens : Expression → List Pattern → List Pattern
initializer_tokens (expression.Sum x) rest = sum_tokens x rest
initializer_tokens (expression.Call c) rest = call_tokens c rest

-- 15.2.2: { NAME { , NAME } }
abbrev pub more_name_tokens : List (List ℕ) → List Pattern → List Pattern
more_name_tokens [] rest = anywhere kind.RightBrace ∷ rest
more_name_tokens (n ∷ ns) rest = anywhere kind.Comma ∷ name_token n ∷ more_name_tokens ns rest

abbrev pub name_tokens : List (List ℕ) → List Pattern → List Pattern
name_tokens [] rest = anywhere kind.RightBrace ∷ rest
name_tokens (n ∷ ns) rest = name_token n ∷ more_name_tokens ns rest

abbrev pub keyword : DeclarationKind → List ℕ
keyword Let = codes "let"
keyword Const = codes "const"

-- 15.2.2, 13.3.1 and 13.5
abbrev pub item_tokens : Item → List Pattern → List Pattern
item_tokens (item.Import imported) rest =
    name_token (codes "import") ∷ anywhere kind.LeftBrace
    ∷ name_tokens imported (name_token (codes "from") ∷ anywhere (kind.Text (codes "host")) ∷ anywhere kind.Semicolon ∷ rest)
item_tokens (item.Declaration word bytes init) rest =
    name_token (keyword word) ∷ name_token bytes ∷ anywhere kind.Equals ∷ initializer_tokens init (anywhere kind.Semicolon ∷ rest)
item_tokens (item.Expression c) rest = call_tokens c (anywhere kind.Semicolon ∷ rest)

-- 15.2: the items and the end
abbrev pub module_tokens : List Item → List Pattern
module_tokens [] = anywhere kind.End ∷ []
module_tokens (x ∷ xs) = item_tokens x (module_tokens xs)
