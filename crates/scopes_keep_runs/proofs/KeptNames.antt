-- The names further out that the functions of a core mention, and those whose cells their closures keep, as the lists of the core have them.
use Rattle.std.proofs.Common.{◌≡◌, ◌≤◌, ◌<◌, ◌+◌, ◌⊎◌, inl, inr, ℕ, zero, suc, Bool, true, false, not, ◌||◌, cond, List, [], ◌∷◌, flat_map, filter, replicate, set, get_or, Some, length, nat_eq, slice_get, refl, sym, ap, arith, subst, ◌∙◌}
use Rattle.std.proofs.lemmas.Bool.{and_parts, cases_lt, eqb-true}
use Rattle.std.proofs.lemmas.List.{get_or_past, length-replicate, length-set}
use Rattle.core_ast.specs.declared.gathering.Mentions.{Mentions}
use Rattle.core_ast.specs.declared.parts.FunctionId.{FunctionId}
use Rattle.core_ast.specs.declared.parts.Var.{Var}
use Rattle.core_ast.specs.declared.whole.Core.{Core}
use Rattle.core_ast.specs.declared.whole.CoreFunction.{CoreFunction}
use Rattle.pass_rules.specs.Cells.{all_free, all_holders, cells_at, found, holders, is_among, is_shared, owner, with_holder}
use Rattle.cells_keep_runs.specs.Callings.{outer_for}
use Rattle.cells_keep_runs.specs.Kept.{kept_of}
use Rattle.cells_keep_runs.specs.MayBeFlattened.{kept_from, whole_of}
use Rattle.cells_keep_runs.specs.Started.{owners_of}
use Rattle.cells_keep_runs.proofs.Apart.{kept_foreign}
use Rattle.cells_keep_runs.proofs.Rounds.{all_in, left_in, not_true, right_in}
use Rattle.cells_keep_runs.proofs.Writes.{differ, same_var}
use Rattle.scopes_keep_runs.proofs.NamesMay.{NamesMay, function_at_may, function_parts}

-- ---- what functions mention further out is captured

among_flat : (lists : List (List Var)) (n : ℕ) (x : Var) → is_among x (get_or lists n []) ≡ true → is_among x (flat_map (λ xs. xs) lists) ≡ true
among_flat [] n x among = cc
among_flat (xs ∷ lists) zero x among = left_in xs (flat_map (λ ys. ys) lists) x among
among_flat (xs ∷ lists) (suc n) x among = right_in xs (flat_map (λ ys. ys) lists) x (among_flat lists n x among)

pub captured : (core : Core) (f : FunctionId) (x : Var) → is_among x (outer_for (whole_of core) f.0) ≡ true → is_among x (whole_of core).captured ≡ true
captured core f x among = among_flat (whole_of core).outer f.0 x among

-- ---- the table of the names that functions keep

module _ (table holding : List ℕ) (all : List (List Var)) where
  kept_among : (place n : ℕ) (fs : List CoreFunction) (x : Var) → is_among x (get_or (kept_from table holding all place fs) n []) ≡ true → is_among x (cells_at table holding all (place + n)) ≡ true
  kept_among place n [] x among = cc
  kept_among place zero (f ∷ fs) x among =
      let here : place ≡ place + zero = omega arith in
      subst (λ k. is_among x (cells_at table holding all k) ≡ true) here among
  kept_among place (suc n) (f ∷ fs) x among =
      let next : place + 1 + n ≡ place + suc n = omega arith in
      subst (λ k. is_among x (cells_at table holding all k) ≡ true) next (kept_among (place + 1) n fs x among)

  kept_here : (place n : ℕ) (fs : List CoreFunction) → n < length fs → get_or (kept_from table holding all place fs) n [] ≡ cells_at table holding all (place + n)
  kept_here place n [] less = absurd (omega arith)
  kept_here place zero (f ∷ fs) less =
      let here : place ≡ place + zero = omega arith in
      ap (λ k. cells_at table holding all k) here
  kept_here place (suc n) (f ∷ fs) less =
      let fewer : n < length fs = omega arith in
      let next : place + 1 + n ≡ place + suc n = omega arith in
      kept_here (place + 1) n fs fewer ∙ ap (λ k. cells_at table holding all k) next

pub table_kept : (core : Core) (f : FunctionId) (x : Var) → is_among x (get_or (whole_of core).kept f.0 []) ≡ true → is_among x (kept_of core f) ≡ true
table_kept core f x among =
    let table = owners_of core in
    let holding = holders (length core.functions) (found core) in
    let all = all_free table [] (found core) in
    let same : 0 + f.0 ≡ f.0 = omega arith in
    subst (λ k. is_among x (cells_at table holding all k) ≡ true) same (kept_among table holding all 0 f.0 core.functions x among)

kept_table : (core : Core) (f : FunctionId) → f.0 < length core.functions → get_or (whole_of core).kept f.0 [] ≡ kept_of core f
kept_table core f less =
    let table = owners_of core in
    let holding = holders (length core.functions) (found core) in
    let all = all_free table [] (found core) in
    let same : 0 + f.0 ≡ f.0 = omega arith in
    kept_here table holding all 0 f.0 core.functions less ∙ ap (λ k. cells_at table holding all k) same

-- ---- they are shared, and those of a function of the core

of_filter : (p : Var → Bool) (xs : List Var) (x : Var) → is_among x (filter p xs) ≡ true → p x ≡ true
of_filter p [] x among = cc
of_filter p (y ∷ xs) x among = by_test (p y) refl among (λ on. of_filter p xs x on)
  where
    by_here : (b : Bool) → nat_eq y.0 x.0 ≡ b → b || is_among x (filter p xs) ≡ true → (is_among x (filter p xs) ≡ true → p x ≡ true) → p y ≡ true → p x ≡ true
    by_here true same h on is = ap (λ z. p z) (sym (same_var y x (eqb-true y.0 x.0 same))) ∙ is
    by_here false same h on is = on h

    by_test : (b : Bool) → p y ≡ b → is_among x (cond b (y ∷ filter p xs) (filter p xs)) ≡ true → (is_among x (filter p xs) ≡ true → p x ≡ true) → p x ≡ true
    by_test true is h on = by_here (nat_eq y.0 x.0) refl h on is
    by_test false is h on = on h

length_holder : (number : ℕ) (fs : List FunctionId) (table : List ℕ) → length (with_holder number fs table) ≡ length table
length_holder number [] table = refl
length_holder number (f ∷ fs) table = length_holder number fs (set table f.0 number) ∙ length-set table f.0 number

length_holders : (number : ℕ) (ms : List Mentions) (table : List ℕ) → length (all_holders number ms table) ≡ length table
length_holders number [] table = refl
length_holders number (m ∷ ms) table = length_holders (number + 1) ms (with_holder (number + 1) m.functions table) ∙ length_holder (number + 1) m.functions table

pub kept_shared : (core : Core) (f : FunctionId) (x : Var) → is_among x (kept_of core f) ≡ true → is_shared (owners_of core) x ≡ true
kept_shared core f x among = (and_parts (is_shared (owners_of core) x) (not (nat_eq (owner (owners_of core) x) (f.0 + 1))) (kept_foreign core f x among)).0

none_past : (core : Core) (f : FunctionId) (x : Var) → length core.functions ≤ f.0 → is_among x (kept_of core f) ≡ true → ⊥
none_past core f x past among =
    let n = length core.functions in
    let holding = holders n (found core) in
    let long : length holding ≡ n = length_holders 0 (found core) (replicate n 0) ∙ length-replicate n 0 in
    let none : get_or holding f.0 0 ≡ 0 = get_or_past holding f.0 0 (omega arith) in
    let is : nat_eq (owner (owners_of core) x) (get_or holding f.0 0) ≡ true = of_filter (λ y. nat_eq (owner (owners_of core) y) (get_or holding f.0 0)) (get_or (all_free (owners_of core) [] (found core)) f.0 []) x among in
    differ (nat_eq (owner (owners_of core) x) 0) (ap (λ k. nat_eq (owner (owners_of core) x) k) (sym none) ∙ is) (not_true (nat_eq (owner (owners_of core) x) 0) (kept_shared core f x among))

-- ---- and among those that it mentions further out

got_at : {A : Type 0} (xs : List A) (n : ℕ) → n < length xs → (x : A) × (slice_get xs n ≡ Some x)
got_at [] n less = absurd (omega arith)
got_at (x ∷ xs) zero less = (x, refl)
got_at (x ∷ xs) (suc n) less = let fewer : n < length xs = omega arith in got_at xs n fewer

pub kept_outer : (core : Core) → NamesMay core → (f : FunctionId) (x : Var) → is_among x (kept_of core f) ≡ true → is_among x (outer_for (whole_of core) f.0) ≡ true
kept_outer core may f x among = by_place (cases_lt f.0 (length core.functions))
  where
    by_place : (f.0 < length core.functions) ⊎ (length core.functions ≤ f.0) → is_among x (outer_for (whole_of core) f.0) ≡ true
    by_place (inl less) =
        let there = got_at core.functions f.0 less in
        let parts = function_parts (whole_of core) f.0 there.0 (function_at_may (whole_of core) core.functions f.0 there.0 may.functions there.1) in
        all_in (get_or (whole_of core).kept f.0 []) (outer_for (whole_of core) f.0) x parts.kept_outer (ap (λ ys. is_among x ys) (kept_table core f less) ∙ among)
    by_place (inr past) = absurd (none_past core f x past among)
