-- Small modules, by their tokens with a space between any two, what is read of them, and where others stop.
use Rattle.std.specs.Prelude.{◌≡◌, ℕ, ◌+◌, Bool, true, false, pos, List, [], ◌∷◌, ◌++◌, length, map, cond, replicate, codes, Option, Some, None}
use Rattle.es6_lexer.specs.declared.token.Token.{Token}
use Rattle.es6_lexer.specs.declared.token.TokenKind.{TokenKind}
use Rattle.es6_lexer.specs.declared.token.TokenKind.TheVariants as kinds
use Rattle.es6_lexer.specs.declared.token.NumberToken.TheVariants.{Whole, TooLarge, Marked}
use Rattle.es6_lexer.specs.declared.token.LexicalKind.TheVariants.{BadCharacter}
use Rattle.es6_lexer.specs.declared.token.Punctuator.{Punctuator as Mark}
use Rattle.es6_lexer.specs.declared.token.Punctuator.TheVariants as marks
use Rattle.es6_lexer.specs.Punctuators.{spelling}
use Rattle.es6_ast.specs.declared.module.Module.{Module}
use Rattle.es6_ast.specs.declared.settings.Stop.{Stop}
use Rattle.es6_ast.specs.declared.settings.Stop.TheVariants.{Syntax, Lexical, Outside, Depth}
use Rattle.es6_ast.specs.Tokens.{read, begin_of}
use Rattle.es6_reading.specs.Parser.{Input, Outcome, Took, Fault}
use Rattle.es6_reading.specs.Modules.{read_module}

-- a token, how long it is, and whether a line terminator stands before it
pub record Piece : Type 0 where
  pub line : Bool
  pub width : ℕ
  pub kind : TokenKind

abbrev pub piece : ℕ → TokenKind → Piece
piece width kind = record { line = false; width = width; kind = kind }

abbrev pub w : List ℕ → Piece
w name = piece (length name) (kinds.Word name)

abbrev pub p : Mark → Piece
p mark = piece (length (spelling mark)) (kinds.Punctuator mark)

abbrev pub n : ℕ → Piece
n digit = piece 1 (kinds.Number (Whole (pos digit)))

abbrev pub text : List ℕ → Piece
text units = piece (length units + 2) (kinds.Text units)

abbrev pub stretch : List ℕ → Bool → Bool → Piece
stretch units first last = piece (length units + cond last 2 3) (kinds.Template units units first last)

abbrev pub marked_number : Piece
marked_number = piece 3 (kinds.Number Marked)

abbrev pub large_number : Piece
large_number = piece 17 (kinds.Number TooLarge)

abbrev pub bad_character : Piece
bad_character = piece 1 (kinds.Fault BadCharacter)

-- on a new line
abbrev pub line : Piece → Piece
line x = record { line = true; width = x.width; kind = x.kind }

abbrev placed : ℕ → Piece → Token
placed at x = record { kind = x.kind; span = record { begin = at; end = at + x.width }; newline = x.line }

abbrev end_of_text : ℕ → Token
end_of_text at = record { kind = kinds.End; span = record { begin = at; end = at }; newline = false }

abbrev pub laid : ℕ → List Piece → List Token
laid at [] = end_of_text at ∷ []
laid at (x ∷ []) = placed at x ∷ end_of_text (at + x.width) ∷ []
laid at (x ∷ y ∷ ys) = placed at x ∷ laid (at + x.width + 1) (y ∷ ys)

abbrev pub outcome : List Piece → Outcome Module
outcome pieces = read_module 100 (map read (laid 0 pieces))

-- these are the tokens of a module
abbrev pub IsRead : List Piece → Type 0
IsRead pieces = (m : Module) × (after : Input) × (outcome pieces ≡ Took m after)

abbrev pub fault_of : Outcome Module → Option (Stop × ℕ)
fault_of (Took m after) = None
fault_of (Fault stop rest) = Some (stop, begin_of rest)

-- the reader stops so at the offset
abbrev pub Stops : Stop → ℕ → List Piece → Type 0
Stops stop at pieces = fault_of (outcome pieces) ≡ Some (stop, at)

-- let x = 1 ;
abbrev pub a_declaration : List Piece
a_declaration =
    w (codes "let") ∷ w (codes "x") ∷ p marks.Assign ∷ n 1 ∷ p marks.Semicolon ∷ []

-- a semicolon goes in before the new line and at the end
abbrev pub an_insertion : List Piece
an_insertion =
    w (codes "a") ∷ p marks.Assign ∷ w (codes "b") ∷ line (w (codes "c")) ∷ p marks.PlusPlus ∷ []

-- const f = ({ a, b: [c] = [] }, d = 2, ...e) => a + c;
abbrev pub an_arrow : List Piece
an_arrow =
    w (codes "const") ∷ w (codes "f") ∷ p marks.Assign ∷ p marks.LeftParenthesis ∷ p marks.LeftBrace ∷ w (codes "a") ∷ p marks.Comma ∷ w (codes "b") ∷ p marks.Colon
    ∷ p marks.LeftBracket ∷ w (codes "c") ∷ p marks.RightBracket ∷ p marks.Assign ∷ p marks.LeftBracket ∷ p marks.RightBracket ∷ p marks.RightBrace ∷ p marks.Comma
    ∷ w (codes "d") ∷ p marks.Assign ∷ n 2 ∷ p marks.Comma ∷ p marks.Ellipsis ∷ w (codes "e") ∷ p marks.RightParenthesis ∷ p marks.Arrow ∷ w (codes "a")
    ∷ p marks.Plus ∷ w (codes "c") ∷ p marks.Semicolon ∷ []

-- [a.b, {c: d[0] = 1, e = 2}, ...f] = g;
abbrev pub a_destructuring : List Piece
a_destructuring =
    p marks.LeftBracket ∷ w (codes "a") ∷ p marks.Dot ∷ w (codes "b") ∷ p marks.Comma ∷ p marks.LeftBrace ∷ w (codes "c") ∷ p marks.Colon ∷ w (codes "d")
    ∷ p marks.LeftBracket ∷ n 0 ∷ p marks.RightBracket ∷ p marks.Assign ∷ n 1 ∷ p marks.Comma ∷ w (codes "e") ∷ p marks.Assign ∷ n 2 ∷ p marks.RightBrace
    ∷ p marks.Comma ∷ p marks.Ellipsis ∷ w (codes "f") ∷ p marks.RightBracket ∷ p marks.Assign ∷ w (codes "g") ∷ p marks.Semicolon ∷ []

-- class A extends (B) { static get x() { return super.y } constructor(...z) { super(...z) } *[k]() { yield* this; yield } }
abbrev pub a_class : List Piece
a_class =
    w (codes "class") ∷ w (codes "A") ∷ w (codes "extends") ∷ p marks.LeftParenthesis ∷ w (codes "B") ∷ p marks.RightParenthesis ∷ p marks.LeftBrace
    ∷ w (codes "static") ∷ w (codes "get") ∷ w (codes "x") ∷ p marks.LeftParenthesis ∷ p marks.RightParenthesis ∷ p marks.LeftBrace ∷ w (codes "return")
    ∷ w (codes "super") ∷ p marks.Dot ∷ w (codes "y") ∷ p marks.RightBrace ∷ w (codes "constructor") ∷ p marks.LeftParenthesis ∷ p marks.Ellipsis ∷ w (codes "z")
    ∷ p marks.RightParenthesis ∷ p marks.LeftBrace ∷ w (codes "super") ∷ p marks.LeftParenthesis ∷ p marks.Ellipsis ∷ w (codes "z") ∷ p marks.RightParenthesis
    ∷ p marks.RightBrace ∷ p marks.Star ∷ p marks.LeftBracket ∷ w (codes "k") ∷ p marks.RightBracket ∷ p marks.LeftParenthesis ∷ p marks.RightParenthesis
    ∷ p marks.LeftBrace ∷ w (codes "yield") ∷ p marks.Star ∷ w (codes "this") ∷ p marks.Semicolon ∷ w (codes "yield") ∷ p marks.RightBrace ∷ p marks.RightBrace ∷ []

-- with a tag and without
abbrev pub a_template : List Piece
a_template =
    w (codes "f") ∷ stretch (codes "a") true true ∷ p marks.LeftParenthesis ∷ stretch (codes "b") true false ∷ w (codes "c") ∷ stretch (codes "d") false false
    ∷ stretch (codes "e") true true ∷ stretch (codes "f") false true ∷ p marks.RightParenthesis ∷ p marks.Semicolon ∷ []

-- for (const [k, v] of m) l: while (k--) continue l; for (let i = 0, j; i < 9; i++); do x(); while (y) z()
abbrev pub loops : List Piece
loops =
    w (codes "for") ∷ p marks.LeftParenthesis ∷ w (codes "const") ∷ p marks.LeftBracket ∷ w (codes "k") ∷ p marks.Comma ∷ w (codes "v") ∷ p marks.RightBracket
    ∷ w (codes "of") ∷ w (codes "m") ∷ p marks.RightParenthesis ∷ w (codes "l") ∷ p marks.Colon ∷ w (codes "while") ∷ p marks.LeftParenthesis ∷ w (codes "k")
    ∷ p marks.MinusMinus ∷ p marks.RightParenthesis ∷ w (codes "continue") ∷ w (codes "l") ∷ p marks.Semicolon ∷ w (codes "for") ∷ p marks.LeftParenthesis
    ∷ w (codes "let") ∷ w (codes "i") ∷ p marks.Assign ∷ n 0 ∷ p marks.Comma ∷ w (codes "j") ∷ p marks.Semicolon ∷ w (codes "i") ∷ p marks.LessThan ∷ n 9
    ∷ p marks.Semicolon ∷ w (codes "i") ∷ p marks.PlusPlus ∷ p marks.RightParenthesis ∷ p marks.Semicolon ∷ w (codes "do") ∷ w (codes "x") ∷ p marks.LeftParenthesis
    ∷ p marks.RightParenthesis ∷ p marks.Semicolon ∷ w (codes "while") ∷ p marks.LeftParenthesis ∷ w (codes "y") ∷ p marks.RightParenthesis ∷ w (codes "z")
    ∷ p marks.LeftParenthesis ∷ p marks.RightParenthesis ∷ []

-- if (a) b; else if (c) { switch (d) { case 1: default: e } } else try { f } catch ({g}) { } finally { throw h }
abbrev pub conditions : List Piece
conditions =
    w (codes "if") ∷ p marks.LeftParenthesis ∷ w (codes "a") ∷ p marks.RightParenthesis ∷ w (codes "b") ∷ p marks.Semicolon ∷ w (codes "else") ∷ w (codes "if")
    ∷ p marks.LeftParenthesis ∷ w (codes "c") ∷ p marks.RightParenthesis ∷ p marks.LeftBrace ∷ w (codes "switch") ∷ p marks.LeftParenthesis ∷ w (codes "d")
    ∷ p marks.RightParenthesis ∷ p marks.LeftBrace ∷ w (codes "case") ∷ n 1 ∷ p marks.Colon ∷ w (codes "default") ∷ p marks.Colon ∷ w (codes "e")
    ∷ p marks.RightBrace ∷ p marks.RightBrace ∷ w (codes "else") ∷ w (codes "try") ∷ p marks.LeftBrace ∷ w (codes "f") ∷ p marks.RightBrace ∷ w (codes "catch")
    ∷ p marks.LeftParenthesis ∷ p marks.LeftBrace ∷ w (codes "g") ∷ p marks.RightBrace ∷ p marks.RightParenthesis ∷ p marks.LeftBrace ∷ p marks.RightBrace
    ∷ w (codes "finally") ∷ p marks.LeftBrace ∷ w (codes "throw") ∷ w (codes "h") ∷ p marks.RightBrace ∷ []

-- a ** (-b) ** c + typeof new d.e(f) * new.target ? !g : h += i, j
abbrev pub operators : List Piece
operators =
    w (codes "function") ∷ w (codes "q") ∷ p marks.LeftParenthesis ∷ p marks.RightParenthesis ∷ p marks.LeftBrace ∷ w (codes "return") ∷ w (codes "a")
    ∷ p marks.StarStar ∷ p marks.LeftParenthesis ∷ p marks.Minus ∷ w (codes "b") ∷ p marks.RightParenthesis ∷ p marks.StarStar ∷ w (codes "c") ∷ p marks.Plus
    ∷ w (codes "typeof") ∷ w (codes "new") ∷ w (codes "d") ∷ p marks.Dot ∷ w (codes "e") ∷ p marks.LeftParenthesis ∷ w (codes "f") ∷ p marks.RightParenthesis
    ∷ p marks.Star ∷ w (codes "new") ∷ p marks.Dot ∷ w (codes "target") ∷ p marks.Question ∷ p marks.Exclamation ∷ w (codes "g") ∷ p marks.Colon ∷ w (codes "h")
    ∷ p marks.PlusAssign ∷ w (codes "i") ∷ p marks.Comma ∷ w (codes "j") ∷ p marks.RightBrace ∷ []

-- ({ get a() { }, set: 1, "b": 2, 3: 4, if() { }, get, *[c]() { }, set d(e) { } });
abbrev pub an_object : List Piece
an_object =
    p marks.LeftParenthesis ∷ p marks.LeftBrace ∷ w (codes "get") ∷ w (codes "a") ∷ p marks.LeftParenthesis ∷ p marks.RightParenthesis ∷ p marks.LeftBrace
    ∷ p marks.RightBrace ∷ p marks.Comma ∷ w (codes "set") ∷ p marks.Colon ∷ n 1 ∷ p marks.Comma ∷ text (codes "b") ∷ p marks.Colon ∷ n 2 ∷ p marks.Comma ∷ n 3
    ∷ p marks.Colon ∷ n 4 ∷ p marks.Comma ∷ w (codes "if") ∷ p marks.LeftParenthesis ∷ p marks.RightParenthesis ∷ p marks.LeftBrace ∷ p marks.RightBrace
    ∷ p marks.Comma ∷ w (codes "get") ∷ p marks.Comma ∷ p marks.Star ∷ p marks.LeftBracket ∷ w (codes "c") ∷ p marks.RightBracket ∷ p marks.LeftParenthesis
    ∷ p marks.RightParenthesis ∷ p marks.LeftBrace ∷ p marks.RightBrace ∷ p marks.Comma ∷ w (codes "set") ∷ w (codes "d") ∷ p marks.LeftParenthesis ∷ w (codes "e")
    ∷ p marks.RightParenthesis ∷ p marks.LeftBrace ∷ p marks.RightBrace ∷ p marks.RightBrace ∷ p marks.RightParenthesis ∷ p marks.Semicolon ∷ []

-- import "a"; import b, { default as c, d } from "e"; import * as f from "g"; export { b as default }; export { if } from "h"; export * from "i"; export default (j) => ({ });
abbrev pub links : List Piece
links =
    w (codes "import") ∷ text (codes "a") ∷ p marks.Semicolon ∷ w (codes "import") ∷ w (codes "b") ∷ p marks.Comma ∷ p marks.LeftBrace ∷ w (codes "default")
    ∷ w (codes "as") ∷ w (codes "c") ∷ p marks.Comma ∷ w (codes "d") ∷ p marks.RightBrace ∷ w (codes "from") ∷ text (codes "e") ∷ p marks.Semicolon
    ∷ w (codes "import") ∷ p marks.Star ∷ w (codes "as") ∷ w (codes "f") ∷ w (codes "from") ∷ text (codes "g") ∷ p marks.Semicolon ∷ w (codes "export")
    ∷ p marks.LeftBrace ∷ w (codes "b") ∷ w (codes "as") ∷ w (codes "default") ∷ p marks.RightBrace ∷ p marks.Semicolon ∷ w (codes "export") ∷ p marks.LeftBrace
    ∷ w (codes "if") ∷ p marks.RightBrace ∷ w (codes "from") ∷ text (codes "h") ∷ p marks.Semicolon ∷ w (codes "export") ∷ p marks.Star ∷ w (codes "from")
    ∷ text (codes "i") ∷ p marks.Semicolon ∷ w (codes "export") ∷ w (codes "default") ∷ p marks.LeftParenthesis ∷ w (codes "j") ∷ p marks.RightParenthesis
    ∷ p marks.Arrow ∷ p marks.LeftParenthesis ∷ p marks.LeftBrace ∷ p marks.RightBrace ∷ p marks.RightParenthesis ∷ p marks.Semicolon ∷ []

-- `let x =`
abbrev pub no_value : List Piece
no_value =
    w (codes "let") ∷ w (codes "x") ∷ p marks.Assign ∷ []

-- `let o = { }, x; for (x in o) ;`
abbrev pub a_for_in : List Piece
a_for_in =
    w (codes "let") ∷ w (codes "o") ∷ p marks.Assign ∷ p marks.LeftBrace ∷ p marks.RightBrace ∷ p marks.Comma ∷ w (codes "x") ∷ p marks.Semicolon ∷ w (codes "for")
    ∷ p marks.LeftParenthesis ∷ w (codes "x") ∷ w (codes "in") ∷ w (codes "o") ∷ p marks.RightParenthesis ∷ p marks.Semicolon ∷ []

-- `for (let [a] in b) ;`
abbrev pub a_pattern_in : List Piece
a_pattern_in =
    w (codes "for") ∷ p marks.LeftParenthesis ∷ w (codes "let") ∷ p marks.LeftBracket ∷ w (codes "a") ∷ p marks.RightBracket ∷ w (codes "in") ∷ w (codes "b")
    ∷ p marks.RightParenthesis ∷ p marks.Semicolon ∷ []

-- `x` and on the next line `=> 1`
abbrev pub an_arrow_on_a_new_line : List Piece
an_arrow_on_a_new_line =
    w (codes "x") ∷ line (p marks.Arrow) ∷ n 1 ∷ []

-- `(a, 1) => a`
abbrev pub no_parameters : List Piece
no_parameters =
    p marks.LeftParenthesis ∷ w (codes "a") ∷ p marks.Comma ∷ n 1 ∷ p marks.RightParenthesis ∷ p marks.Arrow ∷ w (codes "a") ∷ []

-- `() + 1`
abbrev pub an_empty_group : List Piece
an_empty_group =
    p marks.LeftParenthesis ∷ p marks.RightParenthesis ∷ p marks.Plus ∷ n 1 ∷ []

-- `a + ( ) => 1`
abbrev pub no_arrow_here : List Piece
no_arrow_here =
    w (codes "a") ∷ p marks.Plus ∷ p marks.LeftParenthesis ∷ p marks.RightParenthesis ∷ p marks.Arrow ∷ n 1 ∷ []

-- `(a.b, ...c) => 1`
abbrev pub a_rest_after_no_parameter : List Piece
a_rest_after_no_parameter =
    p marks.LeftParenthesis ∷ w (codes "a") ∷ p marks.Dot ∷ w (codes "b") ∷ p marks.Comma ∷ p marks.Ellipsis ∷ w (codes "c") ∷ p marks.RightParenthesis
    ∷ p marks.Arrow ∷ n 1 ∷ []

-- `x = /`
abbrev pub a_regular_expression : List Piece
a_regular_expression =
    w (codes "x") ∷ p marks.Assign ∷ p marks.Slash ∷ []

-- `new /`
abbrev pub no_regular_expression : List Piece
no_regular_expression =
    w (codes "new") ∷ p marks.Slash ∷ []

-- `f(1.5)`
abbrev pub a_point : List Piece
a_point =
    w (codes "f") ∷ p marks.LeftParenthesis ∷ marked_number ∷ p marks.RightParenthesis ∷ []

-- `({ 90071992547409912 : 1 })`
abbrev pub a_large_number : List Piece
a_large_number =
    p marks.LeftParenthesis ∷ p marks.LeftBrace ∷ large_number ∷ p marks.Colon ∷ n 1 ∷ p marks.RightBrace ∷ p marks.RightParenthesis ∷ []

-- `if (a) with (b) ;`
abbrev pub a_with : List Piece
a_with =
    w (codes "if") ∷ p marks.LeftParenthesis ∷ w (codes "a") ∷ p marks.RightParenthesis ∷ w (codes "with") ∷ p marks.LeftParenthesis ∷ w (codes "b")
    ∷ p marks.RightParenthesis ∷ p marks.Semicolon ∷ []

-- `let a = #`
abbrev pub a_lexical_fault : List Piece
a_lexical_fault =
    w (codes "let") ∷ w (codes "a") ∷ p marks.Assign ∷ bad_character ∷ []

-- `- a ** b`
abbrev pub a_power_of_a_minus : List Piece
a_power_of_a_minus =
    p marks.Minus ∷ w (codes "a") ∷ p marks.StarStar ∷ w (codes "b") ∷ []

-- `if (a) let b`
abbrev pub a_declaration_under_if : List Piece
a_declaration_under_if =
    w (codes "if") ∷ p marks.LeftParenthesis ∷ w (codes "a") ∷ p marks.RightParenthesis ∷ w (codes "let") ∷ w (codes "b") ∷ []

-- `a : function * b() { }`
abbrev pub a_generator_under_a_label : List Piece
a_generator_under_a_label =
    w (codes "a") ∷ p marks.Colon ∷ w (codes "function") ∷ p marks.Star ∷ w (codes "b") ∷ p marks.LeftParenthesis ∷ p marks.RightParenthesis ∷ p marks.LeftBrace
    ∷ p marks.RightBrace ∷ []

-- `let { a } ;`
abbrev pub a_pattern_without_value : List Piece
a_pattern_without_value =
    w (codes "let") ∷ p marks.LeftBrace ∷ w (codes "a") ∷ p marks.RightBrace ∷ p marks.Semicolon ∷ []

-- `export { if } ;`
abbrev pub a_reserved_export : List Piece
a_reserved_export =
    w (codes "export") ∷ p marks.LeftBrace ∷ w (codes "if") ∷ p marks.RightBrace ∷ p marks.Semicolon ∷ []

-- `return 1`
abbrev pub a_return : List Piece
a_return =
    w (codes "return") ∷ n 1 ∷ []

-- `a b`
abbrev pub two_statements : List Piece
two_statements =
    w (codes "a") ∷ w (codes "b") ∷ []

-- `throw` and on the next line `a`
abbrev pub a_throw_on_a_new_line : List Piece
a_throw_on_a_new_line =
    w (codes "throw") ∷ line (w (codes "a")) ∷ []

-- so many opening parentheses
abbrev pub parentheses : ℕ → List Piece
parentheses count = replicate count (p marks.LeftParenthesis)

pub record AreRead : Type 0 where
  pub of_a_declaration : IsRead a_declaration
  pub of_an_insertion : IsRead an_insertion
  pub of_an_arrow : IsRead an_arrow
  pub of_a_destructuring : IsRead a_destructuring
  pub of_a_class : IsRead a_class
  pub of_a_template : IsRead a_template
  pub of_loops : IsRead loops
  pub of_conditions : IsRead conditions
  pub of_operators : IsRead operators
  pub of_an_object : IsRead an_object
  pub of_links : IsRead links

-- how the others stop
pub record AreStopped : Type 0 where
  pub of_no_value : Stops Syntax 7 no_value
  pub of_a_for_in : Stops (Outside 1) 26 a_for_in
  pub of_a_pattern_in : Stops (Outside 1) 16 a_pattern_in
  pub of_an_arrow_on_a_new_line : Stops Syntax 2 an_arrow_on_a_new_line
  pub of_no_parameters : Stops Syntax 10 no_parameters
  pub of_an_empty_group : Stops Syntax 4 an_empty_group
  pub of_no_arrow_here : Stops Syntax 6 no_arrow_here
  pub of_a_rest_after_no_parameter : Stops Syntax 10 a_rest_after_no_parameter
  pub of_a_regular_expression : Stops (Outside 2) 4 a_regular_expression
  pub of_no_regular_expression : Stops Syntax 4 no_regular_expression
  pub of_a_point : Stops (Outside 3) 4 a_point
  pub of_a_large_number : Stops (Outside 4) 4 a_large_number
  pub of_a_with : Stops (Outside 5) 9 a_with
  pub of_a_lexical_fault : Stops (Lexical BadCharacter) 8 a_lexical_fault
  pub of_a_power_of_a_minus : Stops Syntax 4 a_power_of_a_minus
  pub of_a_declaration_under_if : Stops Syntax 9 a_declaration_under_if
  pub of_a_generator_under_a_label : Stops Syntax 13 a_generator_under_a_label
  pub of_a_pattern_without_value : Stops Syntax 10 a_pattern_without_value
  pub of_a_reserved_export : Stops Syntax 14 a_reserved_export
  pub of_a_return : Stops Syntax 0 a_return
  pub of_two_statements : Stops Syntax 2 two_statements
  pub of_a_throw_on_a_new_line : Stops Syntax 6 a_throw_on_a_new_line

-- `a${b}c`
abbrev pub a_template_with_a_value : List Piece
a_template_with_a_value =
    stretch (codes "a") true false ∷ w (codes "b") ∷ stretch (codes "c") false true ∷ []

-- Of 256 open parentheses the text ends too early, and the 257th opens one construct too many. So does a template with a value
-- there, at its first token.
pub record IsDeepest : Type 0 where
  pub allowed : Stops Syntax 511 (parentheses 256)
  pub too_deep : Stops Depth 512 (parentheses 257)
  pub template_too_deep : Stops Depth 512 (parentheses 256 ++ a_template_with_a_value)
