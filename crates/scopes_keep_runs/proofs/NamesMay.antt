-- What a core has whose scopes may be flattened by its names: of all of it, and of each function and module.
use Rattle.std.specs.List.{list_all}
use Rattle.std.proofs.Common.{◌≡◌, ◌+◌, ℕ, zero, suc, true, not, ◌&&◌, List, [], ◌∷◌, ◌++◌, Some, get_or, length, nat_eq, slice_get, refl, arith, subst}
use Rattle.std.proofs.lemmas.Bool.{and_parts}
use Rattle.core_ast.specs.Lawful.{all_differ}
use Rattle.core_ast.specs.declared.parts.Var.{Var}
use Rattle.core_ast.specs.declared.whole.Core.{Core}
use Rattle.core_ast.specs.declared.whole.CoreFunction.{CoreFunction}
use Rattle.core_ast.specs.declared.whole.CorePart.{CorePart}
use Rattle.pass_rules.specs.Cells.{is_shared}
use Rattle.cells_keep_runs.specs.Callings.{outer_for}
use Rattle.cells_keep_runs.specs.MayBeFlattened.{Round, Whole, all_among, all_names, function_may, functions_may, functions_once, modules_may, names_may_be_flattened, none_among, part_may, parts_once, round_of, scoped_of, stats_may, whole_of}
use Rattle.cells_keep_runs.specs.Named.{own_names, scoped_names}
use Rattle.cells_keep_runs.proofs.Writes.{one_value}

-- ---- all of it

pub record NamesMay (core : Core) : Type 0 where
  pub functions : functions_may (whole_of core) 0 core.functions ≡ true
  pub modules : modules_may (whole_of core) (length core.functions) core.parts ≡ true
  pub parts : list_all (part_may (whole_of core) (all_names core.parts) (length core.functions)) core.parts ≡ true
  pub order : all_differ core.order ≡ true
  pub functions_once_is : functions_once (whole_of core) core.functions ≡ true
  pub parts_once_is : parts_once (whole_of core) core.parts ≡ true

pub names_may : (core : Core) → names_may_be_flattened core ≡ true → NamesMay core
names_may core is =
    let whole = whole_of core in
    let a = functions_may whole 0 core.functions in
    let b = modules_may whole (length core.functions) core.parts in
    let c = list_all (part_may whole (all_names core.parts) (length core.functions)) core.parts in
    let d = all_differ core.order in
    let e = functions_once whole core.functions in
    let last = and_parts (a && b && c && d && e) (parts_once whole core.parts) is in
    let fifth = and_parts (a && b && c && d) e last.0 in
    let fourth = and_parts (a && b && c) d fifth.0 in
    let third = and_parts (a && b) c fourth.0 in
    let second = and_parts a b third.0 in
    record { functions = second.0; modules = second.1; parts = third.1; order = fourth.1; functions_once_is = fifth.1; parts_once_is = last.1 }

-- ---- functions

functions_from : (whole : Whole) (place n : ℕ) (fs : List CoreFunction) (f : CoreFunction) → functions_may whole place fs ≡ true → slice_get fs n ≡ Some f → function_may whole (place + n) f ≡ true
functions_from whole place n [] f is got = cc
functions_from whole place zero (g ∷ fs) f is got =
    let both = and_parts (function_may whole place g) (functions_may whole (place + 1) fs) is in
    let here : place ≡ place + zero = omega arith in
    subst (λ k. function_may whole k f ≡ true) here (subst (λ h. function_may whole place h ≡ true) (one_value (Some g) g f refl got) both.0)
functions_from whole place (suc n) (g ∷ fs) f is got =
    let both = and_parts (function_may whole place g) (functions_may whole (place + 1) fs) is in
    let next : place + 1 + n ≡ place + suc n = omega arith in
    subst (λ k. function_may whole k f ≡ true) next (functions_from whole (place + 1) n fs f both.1 got)

pub function_at_may : (whole : Whole) (fs : List CoreFunction) (n : ℕ) (f : CoreFunction) → functions_may whole 0 fs ≡ true → slice_get fs n ≡ Some f → function_may whole n f ≡ true
function_at_may whole fs n f is got =
    let same : 0 + n ≡ n = omega arith in
    subst (λ k. function_may whole k f ≡ true) same (functions_from whole 0 n fs f is got)

-- what is round the statements of a function
abbrev pub function_round : Whole → ℕ → CoreFunction → Round
function_round whole place f = round_of (own_names f ++ outer_for whole place) (scoped_names f) place

pub record FunctionMay (whole : Whole) (place : ℕ) (f : CoreFunction) : Type 0 where
  pub setup : stats_may whole f.setup (function_round whole place f) ≡ true
  pub body : stats_may whole f.body (function_round whole place f) ≡ true
  pub unshared : list_all (λ x. not (is_shared whole.owners x)) (own_names f) ≡ true
  pub outer_apart : none_among (outer_for whole place) (own_names f ++ scoped_names f) ≡ true
  pub own_apart : none_among (own_names f) (scoped_names f) ≡ true
  pub kept_outer : all_among (get_or whole.kept place []) (outer_for whole place) ≡ true
  pub declared : list_all (λ x. nat_eq (whole.declarer x) place) (own_names f ++ scoped_names f) ≡ true

pub function_parts : (whole : Whole) (place : ℕ) (f : CoreFunction) → function_may whole place f ≡ true → FunctionMay whole place f
function_parts whole place f is =
    let outer = outer_for whole place in
    let r = function_round whole place f in
    let a = stats_may whole f.setup r in
    let b = stats_may whole f.body r in
    let c = list_all (λ x. not (is_shared whole.owners x)) (own_names f) in
    let d = none_among outer (own_names f ++ scoped_names f) in
    let e = none_among (own_names f) (scoped_names f) in
    let g = all_among (get_or whole.kept place []) outer in
    let last = and_parts (a && b && c && d && e && g) (list_all (λ x. nat_eq (whole.declarer x) place) (own_names f ++ scoped_names f)) is in
    let sixth = and_parts (a && b && c && d && e) g last.0 in
    let fifth = and_parts (a && b && c && d) e sixth.0 in
    let fourth = and_parts (a && b && c) d fifth.0 in
    let third = and_parts (a && b) c fourth.0 in
    let second = and_parts a b third.0 in
    record { setup = second.0; body = second.1; unshared = third.1; outer_apart = fourth.1; own_apart = fifth.1; kept_outer = sixth.1; declared = last.1 }

-- ---- modules

pub part_at_may : (whole : Whole) (names : List Var) (functions : ℕ) (ps : List CorePart) (n : ℕ) (p : CorePart) → list_all (part_may whole names functions) ps ≡ true → slice_get ps n ≡ Some p
    → part_may whole names functions p ≡ true
part_at_may whole names functions [] n p is got = cc
part_at_may whole names functions (q ∷ ps) zero p is got =
    subst (λ z. part_may whole names functions z ≡ true) (one_value (Some q) q p refl got) (and_parts (part_may whole names functions q) (list_all (part_may whole names functions) ps) is).0
part_at_may whole names functions (q ∷ ps) (suc n) p is got =
    part_at_may whole names functions ps n p (and_parts (part_may whole names functions q) (list_all (part_may whole names functions) ps) is).1 got

-- what is round the statements of a module
abbrev pub part_round : Core → CorePart → Round
part_round core p = round_of (all_names core.parts) (scoped_of p) (length core.functions)

pub record PartMay (core : Core) (p : CorePart) : Type 0 where
  pub instantiate : stats_may (whole_of core) p.instantiate (part_round core p) ≡ true
  pub body : stats_may (whole_of core) p.body (part_round core p) ≡ true

pub part_parts : (core : Core) (n : ℕ) (p : CorePart) → NamesMay core → slice_get core.parts n ≡ Some p → PartMay core p
part_parts core n p may got =
    let r = part_round core p in
    let both = and_parts (stats_may (whole_of core) p.instantiate r) (stats_may (whole_of core) p.body r) (part_at_may (whole_of core) (all_names core.parts) (length core.functions) core.parts n p may.parts got) in
    record { instantiate = both.0; body = both.1 }
