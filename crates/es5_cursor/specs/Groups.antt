-- What opens a construct.
use Rattle.std.specs.Prelude.{◌≡◌, ℕ, Bool, true, List, Result, Ok, Err}
use Rattle.es5_reading.specs.Parser.{Input5, Inner5, next_mark, returns, on_group}
use Rattle.es5_cursor.specs.declared.halt.Halt.{Halt}
use Rattle.es5_cursor.specs.Takes.{Takes}
use Rattle.es5_cursor.specs.Reads.{Halts}

-- the answer says whether the mark is taken, which it is only where one more construct may open
pub record Enters (i : Inner5) (p : List ℕ) (before : Input5) (answer : Bool) (behind : Input5) : Type 0 where
  pub taken : Takes (next_mark p) before answer behind
  pub may : answer ≡ true → i.may_open ≡ true

abbrev pub Opens : Inner5 → List ℕ → Input5 → Result Bool Halt → Input5 → Type 0
Opens i p c (Ok answer) d = Enters i p c answer d
Opens i p c (Err halt) d = Halts (on_group i p (returns (tt {0})) (returns (tt {0})) c) halt d.tokens
