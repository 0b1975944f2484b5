-- Which names are declared once at most by each function, and by all modules: those that come once in their activation, and one that is nowhere declared.
use Rattle.std.specs.List.{list_all}
use Rattle.std.proofs.Common.{◌≡◌, ◌≤◌, ◌+◌, ℕ, zero, suc, Bool, true, false, not, ◌&&◌, ◌||◌, List, [], ◌∷◌, ◌++◌, map, flat_map, Option, None, Some, length, nat_eq, nat_le, slice_get, refl, sym, ap, arith, subst, ◌∙◌}
use Rattle.std.proofs.lemmas.Bool.{and_parts, eq-eqb, eqb-true, leb-true}
use Rattle.core_ast.specs.Lawful.{all_differ, has_number}
use Rattle.core_ast.specs.declared.parts.Var.{Var}
use Rattle.core_ast.specs.declared.tree.CoreStat.{CoreStat}
use Rattle.core_ast.specs.declared.whole.Core.{Core}
use Rattle.core_ast.specs.declared.whole.CoreFunction.{CoreFunction}
use Rattle.core_ast.specs.declared.whole.CorePart.{CorePart}
use Rattle.core_meaning.specs.Modules.{bodies_of, body_in, part_body}
use Rattle.pass_rules.specs.Cells.{is_among, is_shared}
use Rattle.cells_keep_runs.specs.Counted.{total}
use Rattle.cells_keep_runs.specs.Declares.{declares}
use Rattle.cells_keep_runs.specs.Fitting.{IsFitting, Naming, all_assign, function_fits_in, functions_fit, list_fits, own_fits, parts_fit}
use Rattle.cells_keep_runs.specs.Floors.{AllOf}
use Rattle.cells_keep_runs.specs.MayBeFlattened.{all_names, all_scoped, comes_once, none_among, parts_apart, scoped_of, whole_of}
use Rattle.cells_keep_runs.specs.Named.{scoped_names}
use Rattle.cells_keep_runs.specs.Rounds.{once}
use Rattle.cells_keep_runs.proofs.Rounds.{apart_right, left_in, none_in, right_in}
use Rattle.cells_keep_runs.proofs.Writes.{differ, one_value, same_var}
use Rattle.scopes_keep_runs.specs.Counts.{Single, declared_in}
use Rattle.scopes_keep_runs.proofs.Declared.{none_declared}
use Rattle.scopes_keep_runs.proofs.NamesMay.{NamesMay, function_at_may, function_parts, function_round, part_parts, part_round}

-- ---- numbers

unlike : (a b : ℕ) → (a ≡ b → ⊥) → nat_eq a b ≡ false
unlike a b other = by_value (nat_eq a b) refl
  where
    by_value : (c : Bool) → nat_eq a b ≡ c → c ≡ false
    by_value true is = absurd (other (eqb-true a b is))
    by_value false is = refl

like_next : (a b : ℕ) → nat_eq (suc a) (suc b) ≡ nat_eq a b
like_next a b = by_value (nat_eq a b) refl
  where
    by_value : (c : Bool) → nat_eq a b ≡ c → nat_eq (suc a) (suc b) ≡ c
    by_value true is = eq-eqb (suc a) (suc b) (ap (λ n. suc n) (eqb-true a b is))
    by_value false is = unlike (suc a) (suc b) (λ same. (let h : a ≡ b = omega arith in differ (nat_eq a b) (eq-eqb a b h) is))

-- ---- sums over an order that has each number once

zeros : List ℕ → ℕ
zeros [] = 0
zeros (zero ∷ ns) = suc (zeros ns)
zeros (suc n ∷ ns) = zeros ns

preds : List ℕ → List ℕ
preds [] = []
preds (zero ∷ ns) = preds ns
preds (suc n ∷ ns) = n ∷ preds ns

has_preds : (m : ℕ) (ns : List ℕ) → has_number m (preds ns) ≡ has_number (suc m) ns
unfolding preds
has_preds m [] = refl
has_preds m (zero ∷ ns) = let none : suc m ≡ 0 → ⊥ = λ is. (absurd (omega arith)) in has_preds m ns ∙ sym (ap (λ b. b || has_number (suc m) ns) (unlike (suc m) zero none))
has_preds m (suc n ∷ ns) = ap (λ b. nat_eq m n || b) (has_preds m ns) ∙ ap (λ b. b || has_number (suc m) ns) (sym (like_next m n))

preds_differ : (ns : List ℕ) → all_differ ns ≡ true → all_differ (preds ns) ≡ true
unfolding preds
preds_differ [] d = refl
preds_differ (zero ∷ ns) d = preds_differ ns (and_parts (not (has_number zero ns)) (all_differ ns) d).1
preds_differ (suc n ∷ ns) d =
    let both = and_parts (not (has_number (suc n) ns)) (all_differ ns) d in
    ap (λ b. b && all_differ (preds ns)) (ap (λ b. not b) (has_preds n ns) ∙ both.0) ∙ preds_differ ns both.1

no_zeros : (ns : List ℕ) → has_number 0 ns ≡ false → zeros ns ≡ 0
unfolding zeros
no_zeros [] none = refl
no_zeros (zero ∷ ns) none = absurd (differ (nat_eq 0 zero || has_number 0 ns) (ap (λ b. b || has_number 0 ns) (eq-eqb 0 zero refl)) none)
no_zeros (suc n ∷ ns) none =
    let other : 0 ≡ suc n → ⊥ = λ is. (absurd (omega arith)) in
    no_zeros ns (sym (ap (λ b. b || has_number 0 ns) (unlike 0 (suc n) other)) ∙ none)

not_true : (b : Bool) → not b ≡ true → b ≡ false
not_true true is = cc
not_true false is = refl

one_zero : (ns : List ℕ) → all_differ ns ≡ true → zeros ns ≤ 1
unfolding zeros
one_zero [] d = omega arith
one_zero (zero ∷ ns) d =
    let both = and_parts (not (has_number zero ns)) (all_differ ns) d in
    let none : zeros ns ≡ 0 = no_zeros ns (not_true (has_number zero ns) both.0) in
    omega arith
one_zero (suc n ∷ ns) d = one_zero ns (and_parts (not (has_number (suc n) ns)) (all_differ ns) d).1

times : ℕ → ℕ → ℕ
times zero a = 0
times (suc n) a = a + times n a

times_one : (n a : ℕ) → n ≤ 1 → times n a ≤ a
unfolding times
times_one zero a h = omega arith
times_one (suc zero) a h = omega arith
times_one (suc (suc n)) a h = absurd (omega arith)

abbrev at_or : {A : Type 0} → (A → ℕ) → Option A → ℕ
at_or f None = 0
at_or f (Some p) = f p

abbrev ordered : {A : Type 0} → (A → ℕ) → List A → List ℕ → ℕ
ordered f ps ns = total (λ n. at_or f (slice_get ps n)) ns

ordered_none : {A : Type 0} (f : A → ℕ) (ns : List ℕ) → ordered f [] ns ≡ 0
ordered_none f [] = refl
ordered_none f (n ∷ ns) = let h : ordered f [] ns ≡ 0 = ordered_none f ns in omega arith

ordered_split : {A : Type 0} (f : A → ℕ) (p : A) (ps : List A) (ns : List ℕ) → ordered f (p ∷ ps) ns ≡ times (zeros ns) (f p) + ordered f ps (preds ns)
unfolding zeros preds times
ordered_split f p ps [] = omega arith
ordered_split f p ps (zero ∷ ns) = let h : ordered f (p ∷ ps) ns ≡ times (zeros ns) (f p) + ordered f ps (preds ns) = ordered_split f p ps ns in omega arith
ordered_split f p ps (suc n ∷ ns) = let h : ordered f (p ∷ ps) ns ≡ times (zeros ns) (f p) + ordered f ps (preds ns) = ordered_split f p ps ns in omega arith

ordered_least : {A : Type 0} (f : A → ℕ) (ps : List A) (ns : List ℕ) → all_differ ns ≡ true → ordered f ps ns ≤ total f ps
ordered_least f [] ns d = let h : ordered f [] ns ≡ 0 = ordered_none f ns in omega arith
ordered_least f (p ∷ ps) ns d =
    let h : ordered f (p ∷ ps) ns ≡ times (zeros ns) (f p) + ordered f ps (preds ns) = ordered_split f p ps ns in
    let one : times (zeros ns) (f p) ≤ f p = times_one (zeros ns) (f p) (one_zero ns d) in
    let rest : ordered f ps (preds ns) ≤ total f ps = ordered_least f ps (preds ns) (preds_differ ns d) in
    omega arith

-- ---- lists

total_append : {A : Type 0} (f : A → ℕ) (xs ys : List A) → total f (xs ++ ys) ≡ total f xs + total f ys
total_append f [] ys = omega arith
total_append f (x ∷ xs) ys = let h : total f (xs ++ ys) ≡ total f xs + total f ys = total_append f xs ys in omega arith

total_map : {A B : Type 0} (f : B → ℕ) (g : A → B) (xs : List A) → total f (map g xs) ≡ total (λ x. f (g x)) xs
total_map f g [] = refl
total_map f g (x ∷ xs) = ap (λ n. f (g x) + n) (total_map f g xs)

total_both : {A : Type 0} (f g : A → ℕ) (xs : List A) → total (λ x. f x + g x) xs ≡ total f xs + total g xs
total_both f g [] = omega arith
total_both f g (x ∷ xs) = let h : total (λ y. f y + g y) xs ≡ total f xs + total g xs = total_both f g xs in omega arith

total_same : {A : Type 0} (f g : A → ℕ) → ((x : A) → f x ≡ g x) → (xs : List A) → total f xs ≡ total g xs
total_same f g same [] = refl
total_same f g same (x ∷ xs) = let h : f x ≡ g x = same x in let t : total f xs ≡ total g xs = total_same f g same xs in omega arith

said_at : (said : Var → Bool) (xs : List Var) (x : Var) → list_all said xs ≡ true → is_among x xs ≡ true → said x ≡ true
said_at said [] x all among = cc
said_at said (y ∷ xs) x all among =
    let both = and_parts (said y) (list_all said xs) all in
    by_name (nat_eq y.0 x.0) refl among both.0 (λ further. said_at said xs x both.1 further)
  where
    by_name : (b : Bool) → nat_eq y.0 x.0 ≡ b → b || is_among x xs ≡ true → said y ≡ true → (is_among x xs ≡ true → said x ≡ true) → said x ≡ true
    by_name true e here is on = subst (λ z. said z ≡ true) (same_var y x (eqb-true y.0 x.0 e)) is
    by_name false e here is on = on here

all_got : {A : Type 0} (P : A → Type 0) (xs : List A) → ((n : ℕ) (x : A) → slice_get xs n ≡ Some x → P x) → AllOf P xs
all_got P [] h = tt
all_got P (x ∷ xs) h = (h 0 x refl, all_got P xs (λ n y got. h (suc n) y got))

list_got : {A : Type 0} (t : A → Bool) (xs : List A) (n : ℕ) (x : A) → list_all t xs ≡ true → slice_get xs n ≡ Some x → t x ≡ true
list_got t [] n x all got = cc
list_got t (y ∷ xs) zero x all got = subst (λ z. t z ≡ true) (one_value (Some y) y x refl got) (and_parts (t y) (list_all t xs) all).0
list_got t (y ∷ xs) (suc n) x all got = list_got t xs n x (and_parts (t y) (list_all t xs) all).1 got

-- ---- at most one module declares a name

-- what a module declares of it
abbrev of_part : Var → CorePart → ℕ
of_part x p = (declares x).stats p.instantiate + (declares x).stats p.body

abbrev PartSays : Var → CorePart → Type 0
PartSays x p = (is_among x (scoped_of p) ≡ true → of_part x p ≤ 1) × (is_among x (scoped_of p) ≡ false → of_part x p ≡ 0)

none_of_parts : (x : Var) (ps : List CorePart) → AllOf (PartSays x) ps → is_among x (all_scoped ps) ≡ false → total (of_part x) ps ≡ 0
none_of_parts x [] all away = refl
none_of_parts x (p ∷ ps) (here, all) away =
    let h : of_part x p ≡ 0 = here.1 (apart_left2 (scoped_of p) (all_scoped ps) x away) in
    let t : total (of_part x) ps ≡ 0 = none_of_parts x ps all (apart_right (scoped_of p) (all_scoped ps) x away) in
    omega arith
  where
    apart_left2 : (xs ys : List Var) (y : Var) → is_among y (xs ++ ys) ≡ false → is_among y xs ≡ false
    apart_left2 xs ys y none = by_there (is_among y xs) refl
      where
        by_there : (b : Bool) → is_among y xs ≡ b → b ≡ false
        by_there true is = absurd (differ (is_among y (xs ++ ys)) (left_in xs ys y is) none)
        by_there false is = refl

one_of_parts : (x : Var) (names : List Var) (ps : List CorePart) → parts_apart names ps ≡ true → AllOf (PartSays x) ps → total (of_part x) ps ≤ 1
one_of_parts x names [] apart all = omega arith
one_of_parts x names (p ∷ ps) apart (here, all) = by_there (is_among x (scoped_of p)) refl (λ rest. one_of_parts x names ps rest all)
  where
    by_there : (b : Bool) → is_among x (scoped_of p) ≡ b → (parts_apart names ps ≡ true → total (of_part x) ps ≤ 1) → of_part x p + total (of_part x) ps ≤ 1
    by_there true is on =
        let both = and_parts (none_among (scoped_of p) names && none_among (scoped_of p) (all_scoped ps)) (parts_apart names ps) apart in
        let first = and_parts (none_among (scoped_of p) names) (none_among (scoped_of p) (all_scoped ps)) both.0 in
        let h : of_part x p ≤ 1 = here.0 is in
        let t : total (of_part x) ps ≡ 0 = none_of_parts x ps all (none_in (scoped_of p) (all_scoped ps) x first.1 is) in
        omega arith
    by_there false is on =
        let both = and_parts (none_among (scoped_of p) names && none_among (scoped_of p) (all_scoped ps)) (parts_apart names ps) apart in
        let h : of_part x p ≡ 0 = here.1 is in
        let t : total (of_part x) ps ≤ 1 = on both.1 in
        omega arith

-- ---- a core's names

module _ (core : Core) (nm : Naming) (fitting : IsFitting core nm) (may : NamesMay core) where
  functions_in : (fs : List CoreFunction) (n : ℕ) (f : CoreFunction) → functions_fit core nm fs ≡ true → slice_get fs n ≡ Some f → function_fits_in core nm f ≡ true
  functions_in [] n f is at = cc
  functions_in (g ∷ fs) zero f is at = subst (λ h. function_fits_in core nm h ≡ true) (one_value (Some g) g f refl at) (and_parts (function_fits_in core nm g) (functions_fit core nm fs) is).0
  functions_in (g ∷ fs) (suc n) f is at = functions_in fs n f (and_parts (function_fits_in core nm g) (functions_fit core nm fs) is).1 at

  abbrev part_fits : CorePart → Bool
  part_fits p = all_assign nm p.names && (list_fits core nm p.instantiate false && list_fits core nm p.body false)

  parts_in : (ps : List CorePart) (n : ℕ) (p : CorePart) → parts_fit core nm ps ≡ true → slice_get ps n ≡ Some p → part_fits p ≡ true
  parts_in [] n p is at = cc
  parts_in (q ∷ ps) zero p is at = subst (λ h. part_fits h ≡ true) (one_value (Some q) q p refl at) (and_parts (part_fits q) (parts_fit core nm ps) is).0
  parts_in (q ∷ ps) (suc n) p is at = parts_in ps n p (and_parts (part_fits q) (parts_fit core nm ps) is).1 at

  module _ (x : Var) (in_functions : (n : ℕ) (f : CoreFunction) → slice_get core.functions n ≡ Some f → is_among x (scoped_names f) ≡ true → (declares x).stats f.setup + (declares x).stats f.body ≤ 1)
      (in_parts : (n : ℕ) (p : CorePart) → slice_get core.parts n ≡ Some p → is_among x (scoped_of p) ≡ true → of_part x p ≤ 1) where
    of_function : (n : ℕ) (f : CoreFunction) → slice_get core.functions n ≡ Some f → (declares x).stats f.setup + (declares x).stats f.body ≤ 1
    of_function n f at = by_there (is_among x (scoped_names f)) refl
      where
        by_there : (b : Bool) → is_among x (scoped_names f) ≡ b → (declares x).stats f.setup + (declares x).stats f.body ≤ 1
        by_there true is = in_functions n f at is
        by_there false is =
            let whole = whole_of core in
            let parts = function_parts whole n f (function_at_may whole core.functions n f may.functions at) in
            let fit = and_parts (own_fits nm f.own) (list_fits core nm f.setup false && list_fits core nm f.body false) (functions_in core.functions n f fitting.0 at) in
            let fits = and_parts (list_fits core nm f.setup false) (list_fits core nm f.body false) fit.1 in
            let a : (declares x).stats f.setup ≡ 0 = none_declared core nm whole x f.setup (function_round whole n f) is parts.setup false fits.0 in
            let b : (declares x).stats f.body ≡ 0 = none_declared core nm whole x f.body (function_round whole n f) is parts.body false fits.1 in
            omega arith

    says : (n : ℕ) (p : CorePart) → slice_get core.parts n ≡ Some p → PartSays x p
    says n p at = (
      in_parts n p at,
      λ away.
          (let whole = whole_of core in
          let parts = part_parts core n p may at in
          let fit = and_parts (all_assign nm p.names) (list_fits core nm p.instantiate false && list_fits core nm p.body false) (parts_in core.parts n p fitting.1 at) in
          let fits = and_parts (list_fits core nm p.instantiate false) (list_fits core nm p.body false) fit.1 in
          let a : (declares x).stats p.instantiate ≡ 0 = none_declared core nm whole x p.instantiate (part_round core p) away parts.instantiate false fits.0 in
          let b : (declares x).stats p.body ≡ 0 = none_declared core nm whole x p.body (part_round core p) away parts.body false fits.1 in
          omega arith),
    )

    apart : parts_apart (all_names core.parts) core.parts ≡ true
    apart =
        let whole = whole_of core in
        let first = and_parts (list_all (λ y. not (is_shared whole.owners y)) (all_names core.parts) && parts_apart (all_names core.parts) core.parts)
        (list_all (λ y. nat_le (length core.functions) (whole.declarer y)) (all_names core.parts ++ all_scoped core.parts)) may.modules in
        (and_parts (list_all (λ y. not (is_shared whole.owners y)) (all_names core.parts)) (parts_apart (all_names core.parts) core.parts) first.0).1

    body_is : (o : Option CorePart) → (declares x).stats (body_in o) ≡ at_or (λ (p : CorePart). (declares x).stats p.body) o
    body_is None = refl
    body_is (Some p) = refl

    modules_once : declared_in x (bodies_of core) ≤ 1
    modules_once =
        let first = map (λ (p : CorePart). p.instantiate) core.parts in
        let later = map (part_body core) core.order in
        let S = (declares x).stats in
        let whole_is : total S (first ++ later) ≡ total S first + total S later = total_append S first later in
        let first_is : total S first ≡ total (λ (p : CorePart). S p.instantiate) core.parts = total_map S (λ (p : CorePart). p.instantiate) core.parts in
        let later_is : total S later ≡ ordered (λ (p : CorePart). S p.body) core.parts core.order =
        total_map S (part_body core) core.order ∙ total_same (λ n. S (part_body core n)) (λ n. at_or (λ (p : CorePart). S p.body) (slice_get core.parts n)) (λ n. body_is (slice_get core.parts n)) core.order in
        let least : ordered (λ (p : CorePart). S p.body) core.parts core.order ≤ total (λ (p : CorePart). S p.body) core.parts = ordered_least (λ (p : CorePart). S p.body) core.parts core.order may.order in
        let sum : total (of_part x) core.parts ≡ total (λ (p : CorePart). S p.instantiate) core.parts + total (λ (p : CorePart). S p.body) core.parts =
        total_both (λ (p : CorePart). S p.instantiate) (λ (p : CorePart). S p.body) core.parts in
        let one : total (of_part x) core.parts ≤ 1 = one_of_parts x (all_names core.parts) core.parts apart (all_got (PartSays x) core.parts says) in
        let done : total S (first ++ later) ≤ 1 = omega arith in
        done

    single_by : Single core x
    single_by = record { functions = λ f function at. of_function f.0 function at; modules = modules_once }

  -- what comes once
  by_once : (x : Var) (first later : List CoreStat) (names : List Var) → is_shared (whole_of core).owners x ≡ false → once (whole_of core) x ≡ true → comes_once (whole_of core) names first later ≡ true → is_among x names ≡ true
      → (declares x).stats first + (declares x).stats later ≤ 1
  by_once x first later names unshared comes all among =
      let whole = whole_of core in
      let is = said_at (λ y. is_shared whole.owners y || not (is_among y whole.captured) || nat_le ((declares y).stats first + (declares y).stats later) 1) names x all among in
      leb-true ((declares x).stats first + (declares x).stats later) 1
      (third (is_shared whole.owners x) (is_among x whole.captured) (nat_le ((declares x).stats first + (declares x).stats later) 1) unshared comes is)
    where
      third : (a b c : Bool) → a ≡ false → b ≡ true → a || not b || c ≡ true → c ≡ true
      third true b c p q is = absurd (differ true refl p)
      third false true c p q is = is
      third false false c p q is = absurd (differ true refl (sym q))

  pub once_single : (x : Var) → is_shared (whole_of core).owners x ≡ false → once (whole_of core) x ≡ true → Single core x
  once_single x unshared comes =
      let whole = whole_of core in
      single_by x
      (λ n f at among. by_once x f.setup f.body (scoped_names f) unshared comes (list_got (λ g. comes_once whole (scoped_names g) g.setup g.body) core.functions n f may.functions_once_is at) among)
      (λ n p at among. by_once x p.instantiate p.body (scoped_of p) unshared comes (list_got (λ q. comes_once whole (scoped_of q) q.instantiate q.body) core.parts n p may.parts_once_is at) among)

  -- ---- a name that is nowhere declared

  abbrev big : List Var → ℕ
  big xs = total (λ (v : Var). v.0) xs

  small : (x : Var) (xs : List Var) → is_among x xs ≡ true → x.0 ≤ big xs
  small x [] among = cc
  small x (y ∷ xs) among = by_name (nat_eq y.0 x.0) refl among (λ further. small x xs further)
    where
      by_name : (b : Bool) → nat_eq y.0 x.0 ≡ b → b || is_among x xs ≡ true → (is_among x xs ≡ true → x.0 ≤ big xs) → x.0 ≤ y.0 + big xs
      by_name true e here on = let same : y.0 ≡ x.0 = eqb-true y.0 x.0 e in omega arith
      by_name false e here on = let h : x.0 ≤ big xs = on here in omega arith

  abbrev all_declared : List Var
  all_declared = flat_map scoped_names core.functions ++ all_scoped core.parts

  pub fresh : Var
  fresh = record { 0 = suc (big all_declared) }

  flat_got : {A : Type 0} (g : A → List Var) (xs : List A) (n : ℕ) (y : A) (x : Var) → slice_get xs n ≡ Some y → is_among x (g y) ≡ true → is_among x (flat_map g xs) ≡ true
  flat_got g [] n y x at among = cc
  flat_got g (z ∷ xs) zero y x at among = left_in (g z) (flat_map g xs) x (subst (λ w. is_among x (g w) ≡ true) (sym (one_value (Some z) z y refl at)) among)
  flat_got g (z ∷ xs) (suc n) y x at among = right_in (g z) (flat_map g xs) x (flat_got g xs n y x at among)

  nowhere : is_among fresh all_declared ≡ true → ⊥
  unfolding fresh
  nowhere among = let h : suc (big all_declared) ≤ big all_declared = small (record { 0 = suc (big all_declared) }) all_declared among in absurd (omega arith)

  pub fresh_single : Single core fresh
  fresh_single =
      single_by fresh
      (λ n f at among. absurd (nowhere (left_in (flat_map scoped_names core.functions) (all_scoped core.parts) fresh (flat_got scoped_names core.functions n f fresh at among))))
      (λ n p at among. absurd (nowhere (right_in (flat_map scoped_names core.functions) (all_scoped core.parts) fresh (flat_got scoped_of core.parts n p fresh at among))))
