-- How often a name may be declared yet that comes once in its activation: by the code of each context, and by the bodies of modules that are ahead.
use Rattle.std.specs.Prelude.{◌≡◌, ◌≤◌, ◌<◌, ◌+◌, Bool, false, ◌&&◌, ◌||◌, if◌then◌else◌, nat_lt, List, Option, None, Some, slice_get, ℕ}
use Rattle.core_ast.specs.declared.parts.FunctionId.{FunctionId}
use Rattle.core_ast.specs.declared.parts.Var.{Var}
use Rattle.core_ast.specs.declared.tree.CoreStat.{CoreStat}
use Rattle.core_ast.specs.declared.whole.Core.{Core}
use Rattle.core_ast.specs.declared.whole.CoreFunction.{CoreFunction}
use Rattle.core_meaning.specs.Expressions.{function_at}
use Rattle.core_meaning.specs.Modules.{bodies_of}
use Rattle.core_meaning.specs.State.{Environment}
use Rattle.cells_keep_runs.specs.Alike.{Config}
use Rattle.cells_keep_runs.specs.Counted.{AllFits, Limit, total}
use Rattle.cells_keep_runs.specs.Declares.{declares}
use Rattle.cells_keep_runs.specs.Entering.{entered, is_this}
use Rattle.cells_keep_runs.specs.MayBeFlattened.{Whole}
use Rattle.cells_keep_runs.specs.Memory.{Seat, Seats}
use Rattle.cells_keep_runs.specs.Rounds.{activation_at}

-- how often bodies declare a name, together
abbrev pub declared_in : Var → List (List CoreStat) → ℕ
declared_in x bodies = total (declares x).stats bodies

-- a name that each function declares once at most, and so do all modules
pub record Single (core : Core) (x : Var) : Type 0 where
  pub functions : (f : FunctionId) (function : CoreFunction) → function_at core f ≡ Some function
      → (declares x).stats function.setup + (declares x).stats function.body ≤ 1
  pub modules : declared_in x (bodies_of core) ≤ 1

-- ---- what is left to declare

-- nothing, where a record of the activation has the name, or where it is that of modules and bodies ahead declare it
abbrev pub is_blocked : Whole → Seats → Var → ℕ → ℕ → Bool
is_blocked whole seats x n a = entered whole seats a x || (nat_lt a whole.modules && nat_lt 0 n)

abbrev pub blocked_in : Whole → Seats → Var → ℕ → Option ℕ → Bool
blocked_in whole seats x n None = false
blocked_in whole seats x n (Some a) = is_blocked whole seats x n a

abbrev pub left_in : Whole → Seats → Var → ℕ → Option ℕ → ℕ
left_in whole seats x n o = if blocked_in whole seats x n o then 0 else 1

-- of each context by its activation, where those of one activation count
abbrev pub limit_by : Whole → Seats → (Option ℕ → ℕ) → ℕ → Limit
limit_by whole seats left a = record {
  most = λ (e : Environment). left (activation_at whole seats e);
  counts = λ (e : Environment). if is_this (activation_at whole seats e) a then 1 else 0;
}

abbrev pub limit_with : Whole → Seats → Var → ℕ → ℕ → Limit
limit_with whole seats x n a = limit_by whole seats (left_in whole seats x n) a

abbrev pub ahead_least : Whole → Seats → Var → ℕ
ahead_least whole seats x = if nat_lt 0 whole.modules && entered whole seats 0 x then 0 else 1

pub record CountsOf (whole : Whole) (seats : Seats) (x : Var) (s : Config) : Type 0 where
  pub ahead : declared_in x s.state.ahead ≤ ahead_least whole seats x
  pub fits : (a : ℕ) → AllFits (declares x) (limit_with whole seats x (declared_in x s.state.ahead) a) s

-- ---- all of it

-- a record of a module
pub record HasHome (seats : Seats) (h : ℕ) : Type 0 where
  pub seat : Seat
  pub seated : slice_get seats h ≡ Some seat
  pub home : seat.home ≡ h

pub record AllCounts (core : Core) (whole : Whole) (seats : Seats) (s : Config) : Type 0 where
  pub names : (x : Var) → Single core x → CountsOf whole seats x s
  pub homes : (h : ℕ) → h < whole.modules → HasHome seats h
