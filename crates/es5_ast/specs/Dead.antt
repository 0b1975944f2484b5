-- Where a reader of scripts stops, and at what: the first token with which no script goes on, or at which too many constructs
-- are open; of a script but for the pairs of tables F and V, which are found in its tree.
use Rattle.std.specs.Prelude.{◌≡◌, ℕ, ◌+◌, ◌<◌, ◌≤◌, ◌⊎◌, true, List, [], ◌∷◌, ◌++◌, length, take, codes, Some, slice_get}
use Rattle.es5_ast.specs.declared.tree.Declared5.{Declared5}
use Rattle.es5_ast.specs.declared.tree.Expr5.{Expr5}
use Rattle.es5_ast.specs.declared.tree.Stat5.{Stat5}
use Rattle.es5_ast.specs.Lexical.{Kind5, Word, Text, Punctuator, Token5}
use Rattle.es5_ast.specs.Grammar.{Aside, Exact, IsWord, IsMark, IsExpr, IsDeclared, IsProgram, level_left_hand_side}
use Rattle.es5_ast.specs.Script.{Fills, IsStrict}
use Rattle.es5_ast.specs.Depth.{most_open, open_constructs}

-- The tokens, with the semicolons that are inserted, begin with the directive and are these statements. No pair of tables F
-- and V is asked for.
pub record SpellsStatements (tokens : List Token5) (statements : List Stat5) : Type 0 where
  pub filled : List Token5
  pub fills : Fills [] tokens filled
  pub strict : IsStrict filled
  pub parsed : IsProgram Exact filled statements

-- some script begins with these tokens
abbrev pub IsAlive : List Token5 → Type 0
IsAlive tokens = (rest : List Token5) × (statements : List Stat5) × SpellsStatements (tokens ++ rest) statements

-- What comes behind the tokens of a text: its end, something that is no token, or a number that the profile leaves out.
pub data Behind5 : Type 0 where
  TheEnd : Behind5
  NoToken : Behind5
  LargeNumber : Behind5

-- No script begins with the tokens up to this one, or the text isn't a script's and ends behind its tokens. A fault of the
-- tokens begins nothing.
pub data IsDead (tokens : List Token5) (behind : Behind5) : ℕ → Type 0 where
  dead_token : {p : ℕ} → p < length tokens → (IsAlive (take (p + 1) tokens) → ⊥) → IsDead tokens behind p
  dead_end : {p : ℕ} → p ≡ length tokens → (behind ≡ TheEnd → (statements : List Stat5) → SpellsStatements tokens statements → ⊥) → IsDead tokens behind p

-- each token stands behind the one before it, and none is empty, as in a text
abbrev pub IsBefore : Token5 → List Token5 → Type 0
IsBefore t [] = Unit {0}
IsBefore t (u ∷ us) = t.end ≤ u.begin

abbrev pub AreInOrder : List Token5 → Type 0
AreInOrder [] = Unit {0}
AreInOrder (t ∷ ts) = (t.begin < t.end) × IsBefore t ts × AreInOrder ts

-- some script begins with the tokens up to this one, at which more of its constructs are open than may be
pub record IsTooDeep (tokens : List Token5) (p : ℕ) : Type 0 where
  pub inside : p < length tokens
  pub rest : List Token5
  pub placed : AreInOrder (take (p + 1) tokens ++ rest)
  pub statements : List Stat5
  pub spelled : SpellsStatements (take (p + 1) tokens ++ rest) statements
  pub deep : most_open < open_constructs (take (p + 1) tokens) statements

-- the first place that is dead or too deep
pub record IsStop (tokens : List Token5) (behind : Behind5) (p : ℕ) : Type 0 where
  pub stops : IsDead tokens behind p ⊎ IsTooDeep tokens p
  pub first : (q : ℕ) → q < p → (IsDead tokens behind q ⊎ IsTooDeep tokens q) → ⊥

-- in place of this token, after the tokens before it, a token of the kind would be alive
pub record WouldLive (tokens : List Token5) (p : ℕ) (t : Token5) (kind : Kind5) : Type 0 where
  pub alive : IsAlive (take p tokens ++ record t { kind = kind } ∷ [])

-- the directive of strict code (14.1), without escapes
abbrev pub IsDirective : Token5 → Type 0
IsDirective t = (t.kind ≡ Text (codes "use strict")) × (t.end ≡ t.begin + 12)

-- Before the `in`, with the semicolons that are inserted, stand `for (` and a whole left-hand-side expression, or `for ( var`,
-- one name and maybe its initializer (12.6.4).
pub data IsForIn (filled : List Token5) (t : Token5) : Type 0 where
  for_left_hand_side : (front middle : List Token5) (f open_ : Token5) (x : Expr5) → filled ≡ front ++ f ∷ open_ ∷ middle
      → IsWord (codes "for") f → IsMark (codes "(") open_ → IsExpr Aside true level_left_hand_side (middle ++ t ∷ []) x (t ∷ []) → IsForIn filled t
  for_variable : (front middle : List Token5) (f open_ v : Token5) (d : Declared5) → filled ≡ front ++ f ∷ open_ ∷ v ∷ middle
      → IsWord (codes "for") f → IsMark (codes "(") open_ → IsWord (codes "var") v → IsDeclared Aside true (middle ++ t ∷ []) d (t ∷ []) → IsForIn filled t

-- Rows V2 to V4 at a dead token: `with` (12.10), for-in, and a regular expression (7.8.5).
pub data IsLeftOut (tokens : List Token5) (p : ℕ) (t : Token5) : ℕ → Type 0 where
  with : t.kind ≡ Word (codes "with") → WouldLive tokens p t (Word (codes "debugger")) → IsLeftOut tokens p t 2
  for_in : (filled : List Token5) → t.kind ≡ Word (codes "in") → Fills [] (take p tokens) filled → IsForIn filled t → IsLeftOut tokens p t 3
  regular_expression : (t.kind ≡ Punctuator (codes "/")) ⊎ (t.kind ≡ Punctuator (codes "/=")) → WouldLive tokens p t (Punctuator (codes "!")) → IsLeftOut tokens p t 4

-- Rows V1 to V5 of what the profile leaves out. V1 goes before the others.
pub data IsOutside (tokens : List Token5) (behind : Behind5) : ℕ → ℕ → Type 0 where
  no_token : tokens ≡ [] → IsOutside tokens behind 0 1
  no_directive : (t : Token5) (ts : List Token5) → tokens ≡ t ∷ ts → (IsDirective t → ⊥) → IsOutside tokens behind 0 1
  left_out : {p rule : ℕ} (t : Token5) → slice_get tokens p ≡ Some t → IsLeftOut tokens p t rule → IsOutside tokens behind p rule
  number : {p : ℕ} → 0 < p → p ≡ length tokens → behind ≡ LargeNumber → IsOutside tokens behind p 5

-- What is reported: too many constructs are open, no token is spelled there, a row of table V, or that no script goes on.
pub data Report5 : Type 0 where
  Depth : Report5
  Lexical : Report5
  Outside : ℕ → Report5
  Syntax : Report5

-- a fault of the tokens stands there, behind all of them
abbrev pub IsNoToken : List Token5 → Behind5 → ℕ → Type 0
IsNoToken tokens behind p = (p ≡ length tokens) × (behind ≡ NoToken)

-- What is reported at the stop. No two of these hold.
pub data IsReported (tokens : List Token5) (behind : Behind5) (p : ℕ) : Report5 → Type 0 where
  too_deep : IsTooDeep tokens p → IsReported tokens behind p Depth
  lexical_fault : IsNoToken tokens behind p → IsReported tokens behind p Lexical
  outside_profile : {rule : ℕ} → IsDead tokens behind p → (IsNoToken tokens behind p → ⊥) → IsOutside tokens behind p rule → IsReported tokens behind p (Outside rule)
  syntax_fault : IsDead tokens behind p → (IsNoToken tokens behind p → ⊥) → ((rule : ℕ) → IsOutside tokens behind p rule → ⊥) → IsReported tokens behind p Syntax

-- the begin of the token at the place, or the offset behind them all
abbrev pub place_at : ℕ → List Token5 → ℕ
place_at end [] = end
place_at end (t ∷ ts) = t.begin

-- A reader of these tokens, behind which the text ends at an offset or goes on so, stops there and reports this.
pub record StopsAt (tokens : List Token5) (end : ℕ) (behind : Behind5) (at : ℕ) (report : Report5) : Type 0 where
  pub front : List Token5
  pub rest : List Token5
  pub parts : tokens ≡ front ++ rest
  pub stops : IsStop tokens behind (length front)
  pub reported : IsReported tokens behind (length front) report
  pub place : at ≡ place_at end rest
