-- Small scripts, by their tokens with a space between any two, and what is read of them.
use Rattle.std.specs.Prelude.{◌≡◌, ℕ, ◌+◌, Bool, true, false, List, [], ◌∷◌, length, drop, codes}
use Rattle.es5_ast.specs.declared.tree.Stat5.{Stat5}
use Rattle.es5_ast.specs.Lexical.{Kind5, Word, Integer, Text, Punctuator, Inserted, Token5}
use Rattle.es5_reading.specs.Parser.{Input5, Stop5, Syntax, Outside, Took, Fault}
use Rattle.es5_reading.specs.Programs.{script}

-- a token, and whether a line terminator stands before it
pub record Piece5 : Type 0 where
  pub line : Bool
  pub kind : Kind5

abbrev w : List ℕ → Piece5
w name = record { line = false; kind = Word name }

abbrev p : List ℕ → Piece5
p mark = record { line = false; kind = Punctuator mark }

abbrev n : ℕ → Piece5
n digit = record { line = false; kind = Integer digit }

abbrev on_new_line : Piece5 → Piece5
on_new_line piece = record { line = true; kind = piece.kind }

abbrev width : Kind5 → ℕ
width (Word name) = length name
width (Integer digit) = 1
width (Text units) = length units + 2
width (Punctuator mark) = length mark
width Inserted = 0

abbrev pub laid : ℕ → List Piece5 → List Token5
laid at [] = []
laid at (piece ∷ pieces) = record { begin = at; end = at + width piece.kind; after_line = piece.line; kind = piece.kind } ∷ laid (at + width piece.kind + 1) pieces

-- the directive, and then these
abbrev pub strict : List Piece5 → List Token5
strict pieces = laid 0 (record { line = false; kind = Text (codes "use strict") } ∷ pieces)

abbrev pub IsRead : List Token5 → Type 0
IsRead tokens = (statements : List Stat5) × (after : Input5) × (script 20 tokens ≡ Took statements after)

-- the fault, and how many tokens stand before it
abbrev pub Stops : Stop5 → ℕ → List Token5 → Type 0
Stops stop before tokens = script 20 tokens ≡ Fault stop (drop before tokens)

-- `; a ( 1 ) ;`
abbrev pub call : List Token5
call = strict (p (codes ";") ∷ w (codes "a") ∷ p (codes "(") ∷ n 1 ∷ p (codes ")") ∷ p (codes ";") ∷ [])

-- `if ( a ) b ; else if ( c ) d ; else { e ( ) }` on a line of its own, where a semicolon goes in before it and before `}`
abbrev pub condition : List Token5
condition = strict (on_new_line (w (codes "if")) ∷ p (codes "(") ∷ w (codes "a") ∷ p (codes ")") ∷ w (codes "b") ∷ p (codes ";") ∷ w (codes "else") ∷ w (codes "if") ∷ p (codes "(") ∷ w (codes "c") ∷ p (codes ")") ∷ w (codes "d") ∷ p (codes ";")
    ∷ w (codes "else") ∷ p (codes "{") ∷ w (codes "e") ∷ p (codes "(") ∷ p (codes ")") ∷ p (codes "}") ∷ [])

-- `; for ( var i = 0 , j ; i < 3 ; i ++ ) f ( i )`, where a semicolon goes in at the end
abbrev pub loop : List Token5
loop = strict (p (codes ";") ∷ w (codes "for") ∷ p (codes "(") ∷ w (codes "var") ∷ w (codes "i") ∷ p (codes "=") ∷ n 0 ∷ p (codes ",") ∷ w (codes "j") ∷ p (codes ";") ∷ w (codes "i") ∷ p (codes "<") ∷ n 3 ∷ p (codes ";") ∷ w (codes "i") ∷ p (codes "++") ∷ p (codes ")")
    ∷ w (codes "f") ∷ p (codes "(") ∷ w (codes "i") ∷ p (codes ")") ∷ [])

-- `; function f ( a ) { return` and on the next line `a }`, where a semicolon goes in after `return`
abbrev pub function : List Token5
function = strict (p (codes ";") ∷ w (codes "function") ∷ w (codes "f") ∷ p (codes "(") ∷ w (codes "a") ∷ p (codes ")") ∷ p (codes "{") ∷ w (codes "return") ∷ on_new_line (w (codes "a")) ∷ p (codes "}") ∷ [])

-- What is read of them; and of these: the directive with `+ a` on the next line, `; a b`, `; for ( a in b ) c`, `; with`, an
-- expression that has to begin with `/`, and no directive.
pub record AreRead : Type 0 where
  pub a_call : IsRead call
  pub a_condition : IsRead condition
  pub a_loop : IsRead loop
  pub a_function : IsRead function
  pub no_directive_alone : Stops Syntax 1 (strict (on_new_line (p (codes "+")) ∷ w (codes "a") ∷ []))
  pub no_semicolon : Stops Syntax 3 (strict (p (codes ";") ∷ w (codes "a") ∷ w (codes "b") ∷ []))
  pub a_for_in : Stops (Outside 3) 5 (strict (p (codes ";") ∷ w (codes "for") ∷ p (codes "(") ∷ w (codes "a") ∷ w (codes "in") ∷ w (codes "b") ∷ p (codes ")") ∷ w (codes "c") ∷ []))
  pub a_with : Stops (Outside 2) 2 (strict (p (codes ";") ∷ w (codes "with") ∷ []))
  pub a_regular_expression : Stops (Outside 4) 4 (strict (p (codes ";") ∷ w (codes "a") ∷ p (codes "=") ∷ p (codes "/") ∷ []))
  pub no_directive : Stops (Outside 1) 0 (laid 0 (w (codes "a") ∷ []))
