-- The readers tied into one another, and the reader of a whole script (ECMA-262, 5.1 edition, 14).
use Rattle.std.specs.Prelude.{ℕ, zero, suc, ◌+◌, ◌==◌, Bool, true, false, ◌&&◌, ◌||◌, cond, List, [], ◌∷◌, Option, Some, None, codes}
use Rattle.std.specs.Str.{bytes_eq}
use Rattle.es5_ast.specs.declared.tree.Stat5.{Stat5}
use Rattle.es5_ast.specs.Lexical.{Kind5, Word, Integer, Text, Punctuator, Inserted, Token5}
use Rattle.es5_ast.specs.Grammar.{is_mark, binary_kind}
use Rattle.es5_ast.specs.Depth.{most_open}
use Rattle.es5_reading.specs.Parser.{Parser, Stop5, Syntax, Depth, Outside, Endless, Outcome5, Fault, returns, fails, ◌>>=◌, if_next, Inner5}
use Rattle.es5_reading.specs.Expressions.{is_some, sequence, assignment, unary, chain, one_property, after_at, assign_at, binary_operators, look_up, expression_at_limit, callee_at_limit}
use Rattle.es5_reading.specs.Statements.{one_declared, statement, statement_at_limit}

-- The readers for what stands inside one more construct, of which `room` may still open.
unfoldable pub readers : Bool → ℕ → ℕ → Inner5
readers inserting fuel zero = record {
  inserting = inserting;
  fuel = fuel;
  may_open = false;
  sequence = λ no_in. expression_at_limit;
  assignment = λ no_in. expression_at_limit;
  unary = expression_at_limit;
  callee = callee_at_limit;
  property = fails Depth;
  declared = λ no_in. fails Depth;
  statement = λ inside top. statement_at_limit inside;
}
readers inserting fuel (suc room) = record {
  inserting = inserting;
  fuel = fuel;
  may_open = true;
  sequence = λ no_in. sequence (readers inserting fuel room) no_in;
  assignment = λ no_in. assignment (readers inserting fuel room) no_in;
  unary = unary (readers inserting fuel room);
  callee = chain (readers inserting fuel room) false;
  property = one_property (readers inserting fuel room);
  declared = λ no_in. one_declared (readers inserting fuel room) no_in;
  statement = λ inside top. statement (readers inserting fuel room) inside top;
}

-- the statements up to the end
unfoldable pub program : Inner5 → ℕ → Parser (List Stat5)
program i zero = fails Endless
program i (suc turns) = if_next (λ t. true) (do
  s ← statement i false true
  ss ← program i turns
  returns (s ∷ ss)) (returns [])

-- ## The directive of strict code (14.1)

abbrev pub is_text : List ℕ → Kind5 → Bool
is_text units (Text other) = bytes_eq other units
is_text units (Word name) = false
is_text units (Integer value) = false
is_text units (Punctuator p) = false
is_text units Inserted = false

-- its literal has no escape: each would make it longer than its twelve characters
abbrev pub is_directive : Token5 → Bool
is_directive t = is_text (codes "use strict") t.kind && (t.end == t.begin + 12)

-- whether the token goes on with an expression of which a literal has been read
unfoldable pub continues : Token5 → Bool
continues t = is_mark (codes ".") t.kind || is_mark (codes "[") t.kind || is_mark (codes "(") t.kind || is_mark (codes "?") t.kind || is_mark (codes ",") t.kind
    || is_some (look_up binary_kind binary_operators t.kind) || is_some (assign_at t) || is_some (after_at t)

-- where a script that begins with these tokens stops before its statements are read
abbrev pub second_fault : List Token5 → Option (Stop5 × List Token5)
second_fault [] = None
second_fault (t ∷ ts) = cond (continues t) (Some (Syntax, t ∷ ts)) None

abbrev pub directive_fault : List Token5 → Option (Stop5 × List Token5)
directive_fault [] = Some (Outside 1, [])
directive_fault (t ∷ ts) = cond (is_directive t) (second_fault ts) (Some (Outside 1, t ∷ ts))

abbrev pub unless_fault : Option (Stop5 × List Token5) → Outcome5 (List Stat5) → Outcome5 (List Stat5)
unless_fault None outcome = outcome
unless_fault (Some fault) outcome = Fault fault.0 fault.1

-- A script of these tokens. Loops have `fuel` turns.
unfoldable pub script : ℕ → List Token5 → Outcome5 (List Stat5)
script fuel tokens = unless_fault (directive_fault tokens) (program (readers true fuel most_open) fuel (record { tokens = tokens; last = 0 }))
