-- How operators of ten levels (ECMA-262, 6th edition, 12.6 to 12.12) are read with a stack of those that wait for their right
-- operand. Nobody has to believe this: the reader's contract is over the model.
use Rattle.std.specs.Prelude.{◌≡◌, ℕ, zero, suc, ◌+◌, ◌-◌, ◌<◌, ◌≤◌, List, [], ◌∷◌, ◌++◌, Option, None, Some}
use Rattle.es6_ast.specs.declared.operators.BinaryOperator.{BinaryOperator}
use Rattle.es6_ast.specs.declared.tree.Operand.{Operand, roll-Operand}
use Rattle.es6_ast.specs.declared.settings.Flags.{Flags}
use Rattle.es6_ast.specs.declared.settings.Role.{Role}
use Rattle.es6_ast.specs.declared.settings.Role.TheVariants.{Among}
use Rattle.es6_ast.specs.Grammar.{binary_level}
use Rattle.es6_reading.specs.Parser.{Input, Inner, Parser, Outcome, Reading, after, returns, made, ◌>>=◌}
use Rattle.es6_reading.specs.Expressions.{binary_from, operands, operated}
use Rattle.es6_reading.specs.Words.{binary_at}
use Rattle.es6_cursor.specs.Takes.{known_as}

-- an operand, those of the operators of one level that follow it, the last of these operators, whose right operand is being read,
-- and how many operators of the level may still come
pub record Waiting : Type 0 where
  pub begin : ℕ
  pub level : ℕ
  pub first : Reading
  pub rest : List Operand
  pub operator : BinaryOperator
  pub turns : ℕ

-- goes on with an operand that was read from the offset on, at so many levels, of which the last is given; so many are above
unfoldable pub climb : Inner → Flags → ℕ → ℕ → ℕ → ℕ → Reading → Parser Reading
climb i flags at zero above level x = returns x
climb i flags at (suc n) above level x = do
  rest ← operands (binary_from i flags Among above (level + suc n)) flags (level + n) i.fuel
  y ← made at (λ span. operated x rest span)
  climb i flags at n (suc above) level y

-- what follows an operator of the level
abbrev pub operand_after : Inner → Flags → Role → ℕ → Parser Reading
operand_after i flags role level = binary_from i flags role (12 - level) (level + 1)

abbrev pub with_operand : List Operand → BinaryOperator → Reading → List Operand
with_operand rest op x = rest ++ roll-Operand (record { operator = op; value = x.value }) ∷ []

abbrev pub closed : Waiting → Reading → ℕ → Reading
closed f x last = operated f.first (with_operand f.rest f.operator x) (record { begin = f.begin; end = last })

-- goes on with the operand that an operator waits for; the level of the operator under it is given
unfoldable pub completed : Inner → Flags → ℕ → Waiting → Reading → Parser Reading
completed i flags floor f x = do
  rest ← operands (operand_after i flags Among f.level) flags f.level f.turns
  y ← made f.begin (λ span. operated f.first (with_operand f.rest f.operator x ++ rest) span)
  climb i flags f.begin (f.level - (floor + 1)) (13 - f.level) (floor + 1) y

-- the same with all that wait, the last of which stands deepest
unfoldable pub resumed : Inner → Flags → ℕ → List Waiting → Outcome Reading → Outcome Reading
resumed i flags floor [] o = o
resumed i flags floor (f ∷ fs) o = after (resumed i flags f.level fs o) (completed i flags floor f)

abbrev pub top : ℕ → List Waiting → ℕ
top floor [] = floor
top floor (f ∷ fs) = top f.level fs

-- the levels of those that wait rise, and each has turns left
abbrev pub IsRising : ℕ → List Waiting → Type 0
IsRising floor [] = Unit {0}
IsRising floor (f ∷ fs) = (floor < f.level) × (f.level ≤ 12) × (0 < f.turns) × IsRising f.level fs

-- where no operator above the level is next, nothing happens above it
abbrev pub standing : Inner → Flags → ℕ → ℕ → ℕ → Reading → Parser Reading
standing i flags floor level at x = climb i flags at (level - floor) (12 - (floor + (level - floor))) (floor + 1) x

-- no operator above the level is next
abbrev pub IsSilent : Flags → ℕ → Input → Type 0
IsSilent flags level c = (l : ℕ) → level < l → known_as (binary_at flags l) c.tokens ≡ None

abbrev pub level_of : Option BinaryOperator → ℕ
level_of None = 2
level_of (Some op) = binary_level op
