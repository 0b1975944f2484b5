-- How operators of ten levels (ECMA-262, 5.1 edition, 11.5 to 11.11) are read with a stack of those that wait for their right
-- operand. Nobody has to believe this: the reader's contract is over the model.
use Rattle.std.specs.Prelude.{◌≡◌, ℕ, zero, suc, ◌+◌, ◌-◌, ◌<◌, ◌≤◌, Bool, ◌&&◌, List, [], ◌∷◌, ◌++◌, Option, None, Some}
use Rattle.es_text.specs.declared.Span.{Span}
use Rattle.es5_ast.specs.declared.operators.BinaryOperator5.{BinaryOperator5}
use Rattle.es5_ast.specs.declared.tree.Operand5.{Operand5, roll-Operand5}
use Rattle.es5_ast.specs.Grammar.{binary_level}
use Rattle.es5_reading.specs.Parser.{Input5, Inner5, Parser, Outcome5, Took, Read5, after, returns, made, ◌>>=◌}
use Rattle.es5_reading.specs.Expressions.{binary_from, operands, operated, binary_at}
use Rattle.es5_cursor.specs.Takes.{known_as}
use Rattle.es5_read_expressions.specs.declared.binary.Pending.{Pending}

-- goes on with an operand that was read from the offset on, at so many levels, of which the last is given; so many are above
unfoldable pub climb : Inner5 → Bool → ℕ → ℕ → ℕ → ℕ → Read5 → Parser Read5
climb i no_in at zero above level x = returns x
climb i no_in at (suc n) above level x = do
  rest ← operands (binary_from i no_in above (level + suc n)) no_in (level + n) i.fuel
  y ← made at (λ span. operated x rest span)
  climb i no_in at n (suc above) level y

-- what follows an operator of the level
abbrev pub operand_after : Inner5 → Bool → ℕ → Parser Read5
operand_after i no_in level = binary_from i no_in (12 - level) (level + 1)

abbrev pub with_operand : List Operand5 → BinaryOperator5 → Read5 → List Operand5
with_operand rest op x = rest ++ roll-Operand5 (record { operator = op; value = x.value }) ∷ []

abbrev pub closed : Pending → Read5 → ℕ → Read5
closed f x last = operated f.first (with_operand f.rest f.operator x) (record { begin = f.begin; end = last })

-- goes on with the operand that an operator waits for; the level of the operator under it is given
unfoldable pub completed : Inner5 → Bool → ℕ → Pending → Read5 → Parser Read5
completed i no_in floor f x = do
  rest ← operands (operand_after i no_in f.level) no_in f.level f.turns
  y ← made f.begin (λ span. operated f.first (with_operand f.rest f.operator x ++ rest) span)
  climb i no_in f.begin (f.level - (floor + 1)) (13 - f.level) (floor + 1) y

-- the same with all that wait, the last of which stands deepest
unfoldable pub resumed : Inner5 → Bool → ℕ → List Pending → Outcome5 Read5 → Outcome5 Read5
resumed i no_in floor [] o = o
resumed i no_in floor (f ∷ fs) o = after (resumed i no_in f.level fs o) (completed i no_in floor f)

abbrev pub top : ℕ → List Pending → ℕ
top floor [] = floor
top floor (f ∷ fs) = top f.level fs

-- the levels of those that wait rise, and each has turns left
abbrev pub IsRising : ℕ → List Pending → Type 0
IsRising floor [] = Unit {0}
IsRising floor (f ∷ fs) = (floor < f.level) × (f.level ≤ 12) × (0 < f.turns) × IsRising f.level fs

-- where no operator above the level is next, nothing happens above it
abbrev pub standing : Inner5 → Bool → ℕ → ℕ → ℕ → Read5 → Parser Read5
standing i no_in floor level at x = climb i no_in at (level - floor) (12 - (floor + (level - floor))) (floor + 1) x

-- no operator above the level is next
abbrev pub IsSilent : Bool → ℕ → Input5 → Type 0
IsSilent no_in level c = (l : ℕ) → level < l → known_as (binary_at no_in l) c.tokens ≡ None

abbrev pub level_of : Option BinaryOperator5 → ℕ
level_of None = 2
level_of (Some op) = binary_level op
