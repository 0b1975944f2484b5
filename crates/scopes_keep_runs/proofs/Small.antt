-- Small facts of environments, limits, seats and tests.
use Rattle.std.proofs.Common.{◌≡◌, ◌≤◌, inl, ℕ, Bool, true, false, List, [], ◌∷◌, ◌++◌, length, suc, refl, ap, arith}
use Rattle.std.specs.Prelude.{if◌then◌else◌, ◌&&◌, ◌||◌, not}
use Rattle.std.proofs.lemmas.Bool.{and_parts}
use Rattle.core_ast.specs.declared.parts.Var.{Var}
use Rattle.core_ast.specs.declared.tree.CoreStat.{CoreStat, fold_out-CoreStat, out-CoreStat}
use Rattle.core_ast.specs.declared.parts.ScopedName.{ScopedName}
use Rattle.core_meaning.specs.Marks.{Mark}
use Rattle.core_meaning.specs.State.{Environment, EnvironmentRecord}
use Rattle.pass_rules.specs.Cells.{is_among}
use Rattle.pass_rules.specs.Scopes.{vars}
use Rattle.pass_rules.proofs.pass_laws.Related.{Fold, in_stat}
use Rattle.cells_keep_runs.specs.MayBeFlattened.{Round, Test, Whole, all_among, case_step, expr_step, link_step, may_come_often, none_among, scope_may, stat_may, stat_step}
use Rattle.cells_keep_runs.specs.Memory.{Seat, Seats}
use Rattle.cells_keep_runs.specs.Rounds.{IsTail, activation_at}
use Rattle.cells_keep_runs.specs.Found.{names_of}
use Rattle.cells_keep_runs.proofs.Renewed.{still_got}
use Rattle.cells_keep_runs.proofs.Rounds.{all_in, none_in}
use Rattle.scopes_keep_runs.specs.Counts.{HasHome, blocked_in, limit_with}

-- an environment is its own
pub tail_self : (e : Environment) → IsTail e e
tail_self [] = refl
tail_self (n ∷ e) = inl refl

pub left_most : (whole : Whole) (seats : Seats) (x : Var) (n a : ℕ) (e : Environment) → (limit_with whole seats x n a).most e ≤ 1
left_most whole seats x n a e = by_value (blocked_in whole seats x n (activation_at whole seats e))
  where
    by_value : (b : Bool) → (if b then 0 else 1) ≤ 1
    by_value true = omega arith
    by_value false = omega arith

-- a record of a module stays one
pub home_more : (seats : Seats) (new : Seat) (h : ℕ) → HasHome seats h → HasHome (seats ++ new ∷ []) h
home_more seats new h at = record { seat = at.seat; seated = still_got seats new h at.seat at.seated; home = at.home }

-- the tests of what is round code, as a fold
abbrev pub round_fold : Whole → Fold
round_fold whole = record {
  Link = Test;
  Stat = Test;
  Case = Test;
  Expr = Test;
  link_step = link_step whole;
  stat_step = stat_step whole;
  case_step = case_step whole;
  expr_step = expr_step whole;
}

pub stat_out : (whole : Whole) (x : CoreStat) (r : Round) → stat_may whole x r ≡ stat_step whole (in_stat (round_fold whole) (out-CoreStat x)) r
stat_out whole x r = ap (λ f. f r) (fold_out-CoreStat Test Test Test Test (link_step whole) (stat_step whole) (case_step whole) (expr_step whole) x)

-- the names of a scope are locals that aren't round it
pub scope_local : (whole : Whole) (names : List ScopedName) (r : Round) (y : Var) → scope_may whole names r ≡ true → is_among y (vars names) ≡ true → is_among y r.locals ≡ true
scope_local whole names r y may among =
    let both = and_parts (all_among (vars names) r.locals && none_among (vars names) r.names) (not r.in_loop || may_come_often whole (vars names)) may in
    let first = and_parts (all_among (vars names) r.locals) (none_among (vars names) r.names) both.0 in
    all_in (vars names) r.locals y first.0 among

pub scope_apart : (whole : Whole) (names : List ScopedName) (r : Round) (y : Var) → scope_may whole names r ≡ true → is_among y (vars names) ≡ true → is_among y r.names ≡ false
scope_apart whole names r y may among =
    let both = and_parts (all_among (vars names) r.locals && none_among (vars names) r.names) (not r.in_loop || may_come_often whole (vars names)) may in
    let first = and_parts (all_among (vars names) r.locals) (none_among (vars names) r.names) both.0 in
    none_in (vars names) r.names y first.1 among

pub same_length : (rs : List (EnvironmentRecord Mark)) → length (names_of rs) ≡ length rs
same_length [] = refl
same_length (r ∷ rs) = ap (λ n. suc n) (same_length rs)
