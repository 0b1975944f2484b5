-- What is written for each node of a module: the tokens, and the white space between them. Each definition says what
-- is written for its node and then what follows it.
use Rattle.std.specs.Prelude.{ℕ, Bool, true, ◌&&◌, not, ◌==◌, nat_le, List, [], ◌∷◌, ◌++◌, codes}
use Rattle.std.specs.List.{list_all}
use Rattle.std.specs.Fmt.{decimal}
use Rattle.first_trees.specs.declared.Module.{Module}
use Rattle.first_trees.specs.declared.Item.{Item}
use Rattle.first_trees.specs.declared.Item.TheVariants as item
use Rattle.first_trees.specs.declared.Expression.{Expression}
use Rattle.first_trees.specs.declared.Expression.TheVariants as expression
use Rattle.first_trees.specs.declared.Call.{Call}
use Rattle.first_trees.specs.declared.Sum.{Sum}
use Rattle.first_trees.specs.declared.Term.{Term}
use Rattle.first_trees.specs.declared.Term.TheVariants as term

-- A token that is written: a name, a decimal integer, a string, or a punctuator.
pub data Token : Type 0 where
  Name : List ℕ → Token
  Integer : ℕ → Token
  Text : List ℕ → Token
  LeftParen : Token
  RightParen : Token
  Comma : Token
  Semicolon : Token
  Plus : Token
  Equals : Token

-- what a token is written as
abbrev pub spelling : Token → List ℕ
spelling (Name name) = name
spelling (Integer value) = decimal value
spelling (Text units) = 34 ∷ units ++ 34 ∷ []
spelling LeftParen = 40 ∷ []
spelling RightParen = 41 ∷ []
spelling Comma = 44 ∷ []
spelling Semicolon = 59 ∷ []
spelling Plus = 43 ∷ []
spelling Equals = 61 ∷ []

-- a character that stands for itself in a string (7.8.4): printable ASCII but `"` and `\\`
abbrev pub is_plain_unit : ℕ → Bool
is_plain_unit u = nat_le 32 u && nat_le u 126 && not (u == 34) && not (u == 92)

-- a token, or a space or line feed
pub data Piece : Type 0 where
  Lexeme : Token → Piece
  Gap : ℕ → Piece

abbrev pub text_of : List Piece → List ℕ
text_of [] = []
text_of (Lexeme token ∷ pieces) = spelling token ++ text_of pieces
text_of (Gap b ∷ pieces) = b ∷ text_of pieces

abbrev pub term_token : List ℕ → Term → Token
term_token suffix (term.Integer at value) = Integer value
term_token suffix (term.Text at units) = Text units
term_token suffix (term.Name at name) = Name (name ++ suffix)

abbrev pub added_pieces : List ℕ → List Term → List Piece → List Piece
added_pieces suffix [] rest = rest
added_pieces suffix (x ∷ xs) rest = Gap 32 ∷ Lexeme Plus ∷ Gap 32 ∷ Lexeme (term_token suffix x) ∷ added_pieces suffix xs rest

abbrev pub sum_pieces : List ℕ → Sum → List Piece → List Piece
sum_pieces suffix x rest = Lexeme (term_token suffix x.first) ∷ added_pieces suffix x.rest rest

-- the arguments after the first
abbrev pub more_pieces : List ℕ → List Sum → List Piece → List Piece
more_pieces suffix [] rest = rest
more_pieces suffix (x ∷ xs) rest = Lexeme Comma ∷ Gap 32 ∷ sum_pieces suffix x (more_pieces suffix xs rest)

abbrev pub argument_pieces : List ℕ → List Sum → List Piece → List Piece
argument_pieces suffix [] rest = rest
argument_pieces suffix (x ∷ xs) rest = sum_pieces suffix x (more_pieces suffix xs rest)

abbrev pub call_pieces : List ℕ → Call → List Piece → List Piece
call_pieces suffix c rest = Lexeme (Name c.callee) ∷ Lexeme LeftParen ∷ argument_pieces suffix c.args (Lexeme RightParen ∷ rest)

abbrev pub expression_pieces : List ℕ → Expression → List Piece → List Piece
expression_pieces suffix (expression.Sum x) rest = sum_pieces suffix x rest
expression_pieces suffix (expression.Call c) rest = call_pieces suffix c rest

-- what ends a statement
abbrev pub end_pieces : List Piece → List Piece
end_pieces rest = Lexeme Semicolon ∷ Gap 10 ∷ rest

abbrev pub declaration_pieces : List ℕ → List ℕ → Expression → List Piece → List Piece
declaration_pieces suffix name init rest =
    Lexeme (Name (codes "var")) ∷ Gap 32 ∷ Lexeme (Name (name ++ suffix)) ∷ Gap 32 ∷ Lexeme Equals ∷ Gap 32 ∷ expression_pieces suffix init (end_pieces rest)

-- an import has no statement
abbrev pub item_pieces : List ℕ → Item → List Piece → List Piece
item_pieces suffix (item.Import names) rest = rest
item_pieces suffix (item.Declaration kind name init) rest = declaration_pieces suffix name init rest
item_pieces suffix (item.Expression c) rest = call_pieces suffix c (end_pieces rest)

abbrev pub items_pieces : List ℕ → List Item → List Piece → List Piece
items_pieces suffix [] rest = rest
items_pieces suffix (i ∷ items) rest = item_pieces suffix i (items_pieces suffix items rest)

-- the directive of strict code, and the items
abbrev pub script_pieces : List ℕ → Module → List Piece
script_pieces suffix m = Lexeme (Text (codes "use strict")) ∷ end_pieces (items_pieces suffix m.items [])

-- the texts of a module, which are written as they are, have no character that would need an escape
abbrev pub is_plain_term : Term → Bool
is_plain_term (term.Integer at value) = true
is_plain_term (term.Text at units) = list_all is_plain_unit units
is_plain_term (term.Name at name) = true

abbrev pub is_plain_sum : Sum → Bool
is_plain_sum x = is_plain_term x.first && list_all is_plain_term x.rest

abbrev pub is_plain_call : Call → Bool
is_plain_call c = list_all is_plain_sum c.args

abbrev pub is_plain_expression : Expression → Bool
is_plain_expression (expression.Sum x) = is_plain_sum x
is_plain_expression (expression.Call c) = is_plain_call c

abbrev pub is_plain_item : Item → Bool
is_plain_item (item.Import names) = true
is_plain_item (item.Declaration kind name init) = is_plain_expression init
is_plain_item (item.Expression c) = is_plain_call c
