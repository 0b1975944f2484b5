-- What is round the code of each module at the beginning of a run.
use Rattle.std.specs.List.{list_all}
use Rattle.std.proofs.Common.{◌≡◌, ◌⊎◌, inl, inr, ◌≤◌, ◌<◌, ◌+◌, ℕ, zero, suc, Bool, true, false, not, ◌&&◌, ◌||◌, List, [], ◌∷◌, ◌++◌, map, None, Some, length, nat_eq, nat_le, slice_get, refl, sym, ap, arith, subst, ◌∙◌}
use Rattle.std.specs.Prelude.{if◌then◌else◌}
use Rattle.std.proofs.lemmas.Bool.{and_parts, eqb-true, leb-true, lt-ltb}
use Rattle.core_ast.specs.Mentions.{part_mentions}
use Rattle.core_ast.specs.declared.parts.FunctionId.{FunctionId}
use Rattle.core_ast.specs.declared.parts.ScopedName.{ScopedName}
use Rattle.core_ast.specs.declared.parts.Var.{Var}
use Rattle.core_ast.specs.declared.whole.CorePart.{CorePart}
use Rattle.core_meaning.specs.Modules.{numbers_from, part_record}
use Rattle.core_meaning.specs.State.{Environment}
use Rattle.pass_rules.specs.Cells.{is_among, is_shared}
use Rattle.pass_rules.specs.Scopes.{local, vars}
use Rattle.cells_keep_runs.specs.Found.{Bound, bound_at, first_at, if_bound, lasts_unscoped, names_in, names_of}
use Rattle.cells_keep_runs.specs.MayBeFlattened.{all_names, all_scoped, none_among, parts_apart, scoped_of}
use Rattle.cells_keep_runs.specs.Memory.{Keeping, Seats, keeping_in, kept_along}
use Rattle.cells_keep_runs.specs.Outset.{ModulesAreRound}
use Rattle.cells_keep_runs.specs.Rounds.{IsAlong, activation_at, grouped}
use Rattle.cells_keep_runs.specs.Seen.{image_with, or_image, target_at}
use Rattle.cells_keep_runs.specs.Started.{part_seat, part_seats}
use Rattle.cells_keep_runs.proofs.Rounds.{apart_left, apart_right, left_in, none_back, not_true, or_cases, right_in}
use Rattle.cells_keep_runs.proofs.Writes.{differ, not_none, one_value, same_var}

-- ---- lists

at_end : {A : Type 0} (xs : List A) (x : A) (ys : List A) → slice_get (xs ++ x ∷ ys) (length xs) ≡ Some x
at_end [] x ys = refl
at_end (y ∷ xs) x ys = at_end xs x ys

further_on : {A : Type 0} (xs : List A) (x : A) (ys : List A) → (xs ++ x ∷ []) ++ ys ≡ xs ++ x ∷ ys
further_on [] x ys = refl
further_on (y ∷ xs) x ys = ap (λ zs. y ∷ zs) (further_on xs x ys)

one_longer : {A : Type 0} (xs : List A) (x : A) → length (xs ++ x ∷ []) ≡ suc (length xs)
one_longer [] x = refl
one_longer (y ∷ xs) x = ap (λ n. suc n) (one_longer xs x)

bound_end : (xs : Bound) (names : List Var) (ys : Bound) → bound_at (xs ++ names ∷ ys) (length xs) ≡ names
bound_end [] names ys = refl
bound_end (y ∷ xs) names ys = bound_end xs names ys

record_names : (names : List ScopedName) → names_in (part_record (record { names = names; instantiate = []; body = [] })) ≡ vars names
record_names [] = refl
record_names (n ∷ names) = ap (λ ys. n.var ∷ ys) (record_names names)

vars_locals : (names scoped : List ScopedName) → vars (names ++ map local scoped) ≡ vars names ++ vars scoped
vars_locals [] [] = refl
vars_locals [] (n ∷ scoped) = ap (λ ys. n.var ∷ ys) (vars_locals [] scoped)
vars_locals (n ∷ names) scoped = ap (λ ys. n.var ∷ ys) (vars_locals names scoped)

among_both : (xs ys : List Var) (x : Var) → is_among x xs ≡ false → is_among x ys ≡ false → is_among x (xs ++ ys) ≡ false
among_both xs ys x h k = by_there (is_among x (xs ++ ys)) refl
  where
    by_there : (b : Bool) → is_among x (xs ++ ys) ≡ b → b ≡ false
    by_there false e = refl
    by_there true e = by_case (or_cases xs ys x e)
      where
        by_case : (is_among x xs ≡ true) ⊎ (is_among x ys ≡ true) → true ≡ false
        by_case (inl is) = absurd (differ (is_among x xs) is h)
        by_case (inr is) = absurd (differ (is_among x ys) is k)

module _ (kept : Keeping) (table : List ℕ) where
  -- the seats and the names of modules, from a number on
  abbrev AllParts : Seats → Bound → ℕ → List CorePart → Type 0
  AllParts seats bound k [] = Unit {0}
  AllParts seats bound k (p ∷ ps) = (slice_get seats k ≡ Some (part_seat kept table k p)) × (bound_at bound k ≡ vars p.names) × AllParts seats bound (suc k) ps

  all_parts : (before : Seats) (bound : Bound) (k : ℕ) (ps : List CorePart) → length before ≡ k → length bound ≡ k
      → AllParts (before ++ part_seats kept table k ps) (bound ++ names_of (map part_record ps)) k ps
  all_parts before bound k [] long long2 = tt
  all_parts before bound k (p ∷ ps) long long2 =
      let seat = part_seat kept table k p in
      let names = names_in (part_record p) in
      let rest = part_seats kept table (suc k) ps in
      let more = names_of (map part_record ps) in (
        ap (λ n. slice_get (before ++ seat ∷ rest) n) (sym long) ∙ at_end before seat rest,
        ap (λ n. bound_at (bound ++ names ∷ more) n) (sym long2) ∙ bound_end bound names more ∙ record_names p.names,
        subst (λ seats. AllParts seats (bound ++ names ∷ more) (suc k) ps) (further_on before seat rest)
            (subst (λ b. AllParts ((before ++ seat ∷ []) ++ rest) b (suc k) ps) (further_on bound names more)
            (all_parts (before ++ seat ∷ []) (bound ++ names ∷ []) (suc k) ps (one_longer before seat ∙ ap (λ n. suc n) long) (one_longer bound names ∙ ap (λ n. suc n) long2))),
      )

  module _ (seats : Seats) (bound : Bound) where
    -- the names behind the pass of a module's record
    has_is : (p : CorePart) (k : ℕ) → (part_seat kept table k p).has ≡ vars p.names ++ scoped_of p
    has_is p k = vars_locals p.names (part_mentions p).scoped

    target_here : (p : CorePart) (k : ℕ) (e : Environment) (x : Var) → slice_get seats k ≡ Some (part_seat kept table k p) → is_among x (vars p.names ++ scoped_of p) ≡ true → target_at seats (k ∷ e) x ≡ Some k
    target_here p k e x at among =
        ap (λ o. image_with o x (target_at seats e x)) at ∙ ap (λ b. if b then or_image (Some k) (target_at seats e x) else target_at seats e x) (ap (λ ys. is_among x ys) (has_is p k) ∙ among)

    target_past : (p : CorePart) (k : ℕ) (e : Environment) (x : Var) → slice_get seats k ≡ Some (part_seat kept table k p) → is_among x (vars p.names ++ scoped_of p) ≡ false → target_at seats (k ∷ e) x ≡ target_at seats e x
    target_past p k e x at away =
        ap (λ o. image_with o x (target_at seats e x)) at ∙ ap (λ b. if b then or_image (Some k) (target_at seats e x) else target_at seats e x) (ap (λ ys. is_among x ys) (has_is p k) ∙ away)

    first_here : (p : CorePart) (k : ℕ) (e : Environment) (x : Var) (b : Bool) → bound_at bound k ≡ vars p.names → is_among x (vars p.names) ≡ b → first_at bound (k ∷ e) x ≡ if_bound b k (first_at bound e x)
    first_here p k e x b at is = ap (λ ys. if_bound (is_among x ys) k (first_at bound e x)) at ∙ ap (λ c. if_bound c k (first_at bound e x)) is

    -- the first module that has the name
    record FirstPart (e : Environment) (x : Var) : Type 0 where
      number : ℕ
      part : CorePart
      first : first_at bound e x ≡ Some number
      seated : slice_get seats number ≡ Some (part_seat kept table number part)
      target : target_at seats e x ≡ Some number

    first_part : (k : ℕ) (ps : List CorePart) (x : Var) → AllParts seats bound k ps → is_among x (all_scoped ps) ≡ false → is_among x (all_names ps) ≡ true → FirstPart (numbers_from k ps) x
    first_part k [] x all away among = cc
    first_part k (p ∷ ps) x (at, names, all) away among =
        by_name (is_among x (vars p.names)) refl (or_cases (vars p.names) (all_names ps) x among) (λ is. first_part (suc k) ps x all (apart_right (scoped_of p) (all_scoped ps) x away) is)
      where
        by_name : (b : Bool) → is_among x (vars p.names) ≡ b → (is_among x (vars p.names) ≡ true) ⊎ (is_among x (all_names ps) ≡ true) → (is_among x (all_names ps) ≡ true → FirstPart (numbers_from (suc k) ps) x)
            → FirstPart (k ∷ numbers_from (suc k) ps) x
        by_name true is here on = record {
          number = k;
          part = p;
          first = first_here p k (numbers_from (suc k) ps) x true names is;
          seated = at;
          target = target_here p k (numbers_from (suc k) ps) x at (left_in (vars p.names) (scoped_of p) x is);
        }
        by_name false is (inl here) on = absurd (differ (is_among x (vars p.names)) here is)
        by_name false is (inr here) on =
            let f : FirstPart (numbers_from (suc k) ps) x = on here in
            record {
              number = f.number;
              part = f.part;
              first = first_here p k (numbers_from (suc k) ps) x false names is ∙ f.first;
              seated = f.seated;
              target = target_past p k (numbers_from (suc k) ps) x at (among_both (vars p.names) (scoped_of p) x is (apart_left (scoped_of p) (all_scoped ps) x away)) ∙ f.target;
            }

    none_first : (k : ℕ) (ps : List CorePart) (x : Var) → AllParts seats bound k ps → is_among x (all_names ps) ≡ false → first_at bound (numbers_from k ps) x ≡ None
    none_first k [] x all away = refl
    none_first k (p ∷ ps) x (at, names, all) away =
        first_here p k (numbers_from (suc k) ps) x false names (apart_left (vars p.names) (all_names ps) x away) ∙ none_first (suc k) ps x all (apart_right (vars p.names) (all_names ps) x away)

    -- a module by its place
    record PartAt (k n : ℕ) (ps : List CorePart) (p : CorePart) : Type 0 where
      along : IsAlong (k + n) (numbers_from k ps)
      seated : slice_get seats (k + n) ≡ Some (part_seat kept table (k + n) p)
      scoped : (x : Var) → is_among x (scoped_of p) ≡ true → is_among x (all_scoped ps) ≡ true
      target : (x : Var) → is_among x (scoped_of p) ≡ true → is_among x (all_names ps) ≡ false → target_at seats (numbers_from k ps) x ≡ Some (k + n)

    part_at : (k n : ℕ) (ps : List CorePart) (names : List Var) (p : CorePart) → AllParts seats bound k ps → parts_apart names ps ≡ true → slice_get ps n ≡ Some p → PartAt k n ps p
    part_at k n [] names p all apart got = cc
    part_at k zero (q ∷ ps) names p (at, bound_is, all) apart got =
        let same : q ≡ p = one_value (Some q) q p refl got in
        let here : k + zero ≡ k = omega arith in
        record {
          along = inl (sym here);
          seated = ap (λ i. slice_get seats i) here ∙ at ∙ ap (λ z. Some (part_seat kept table k z)) same ∙ ap (λ i. Some (part_seat kept table i p)) (sym here);
          scoped = λ x is. left_in (scoped_of q) (all_scoped ps) x (ap (λ z. is_among x (scoped_of z)) same ∙ is);
          target = λ x is away. target_here q k (numbers_from (suc k) ps) x at (right_in (vars q.names) (scoped_of q) x (ap (λ z. is_among x (scoped_of z)) same ∙ is)) ∙ ap (λ i. Some i) (sym here);
        }
    part_at k (suc n) (q ∷ ps) names p (at, bound_is, all) apart got =
        let both = and_parts (none_among (scoped_of q) names && none_among (scoped_of q) (all_scoped ps)) (parts_apart names ps) apart in
        let first = and_parts (none_among (scoped_of q) names) (none_among (scoped_of q) (all_scoped ps)) both.0 in
        let rest : PartAt (suc k) n ps p = part_at (suc k) n ps names p all both.1 got in
        let next : suc k + n ≡ k + suc n = omega arith in
        record {
          along = inr (subst (λ i. IsAlong i (numbers_from (suc k) ps)) next rest.along);
          seated = subst (λ i. slice_get seats i ≡ Some (part_seat kept table i p)) next rest.seated;
          scoped = λ x is. right_in (scoped_of q) (all_scoped ps) x (rest.scoped x is);
          target = λ x is away.
              target_past q k (numbers_from (suc k) ps) x at
              (among_both (vars q.names) (scoped_of q) x (apart_left (vars q.names) (all_names ps) x away) (none_back (scoped_of q) (all_scoped ps) x first.1 (rest.scoped x is)))
              ∙ rest.target x is (apart_right (vars q.names) (all_names ps) x away) ∙ ap (λ i. Some i) next;
        }

    kept_by : (k : ℕ) (ps : List CorePart) (n : ℕ) (p : CorePart) (f : FunctionId) (x : Var) → AllParts seats bound k ps → slice_get ps n ≡ Some p → is_among x (kept f) ≡ true → kept_along seats (numbers_from k ps) f x ≡ true
    kept_by k [] n p f x all got is = cc
    kept_by k (q ∷ ps) n p f x (at, bound_is, all) got is =
        ap (λ o. is_among x (keeping_in o f) || kept_along seats (numbers_from (suc k) ps) f x) at ∙ ap (λ b. b || kept_along seats (numbers_from (suc k) ps) f x) is

-- no name of a module is one of a scope of a module
names_apart : (names : List Var) (ps : List CorePart) (x : Var) → parts_apart names ps ≡ true → is_among x names ≡ true → is_among x (all_scoped ps) ≡ false
names_apart names [] x apart among = refl
names_apart names (p ∷ ps) x apart among =
    let both = and_parts (none_among (scoped_of p) names && none_among (scoped_of p) (all_scoped ps)) (parts_apart names ps) apart in
    let first = and_parts (none_among (scoped_of p) names) (none_among (scoped_of p) (all_scoped ps)) both.0 in
    among_both (scoped_of p) (all_scoped ps) x (none_back (scoped_of p) names x first.0 among) (names_apart names ps x both.1 among)

scoped_apart : (names : List Var) (ps : List CorePart) (x : Var) → parts_apart names ps ≡ true → is_among x (all_scoped ps) ≡ true → is_among x names ≡ false
scoped_apart names ps x apart among = by_there (is_among x names) refl
  where
    by_there : (b : Bool) → is_among x names ≡ b → b ≡ false
    by_there true e = absurd (differ (is_among x (all_scoped ps)) among (names_apart names ps x apart e))
    by_there false e = refl

unshared_in : (owners : List ℕ) (xs : List Var) (x : Var) → list_all (λ y. not (is_shared owners y)) xs ≡ true → is_among x xs ≡ true → is_shared owners x ≡ false
unshared_in owners [] x all among = cc
unshared_in owners (y ∷ xs) x all among =
    let both = and_parts (not (is_shared owners y)) (list_all (λ z. not (is_shared owners z)) xs) all in
    by_name (nat_eq y.0 x.0) refl among (not_true (is_shared owners y) both.0) (λ further. unshared_in owners xs x both.1 further)
  where
    by_name : (b : Bool) → nat_eq y.0 x.0 ≡ b → b || is_among x xs ≡ true → is_shared owners y ≡ false → (is_among x xs ≡ true → is_shared owners x ≡ false) → is_shared owners x ≡ false
    by_name true same here is on = ap (λ z. is_shared owners z) (sym (same_var y x (eqb-true y.0 x.0 same))) ∙ is
    by_name false same here is on = on here

said_in : (said : Var → Bool) (xs : List Var) (x : Var) → list_all said xs ≡ true → is_among x xs ≡ true → said x ≡ true
said_in said [] x all among = cc
said_in said (y ∷ xs) x all among =
    let both = and_parts (said y) (list_all said xs) all in
    by_name (nat_eq y.0 x.0) refl among both.0 (λ further. said_in said xs x both.1 further)
  where
    by_name : (b : Bool) → nat_eq y.0 x.0 ≡ b → b || is_among x xs ≡ true → said y ≡ true → (is_among x xs ≡ true → said x ≡ true) → said x ≡ true
    by_name true same here is on = ap (λ z. said z) (sym (same_var y x (eqb-true y.0 x.0 same))) ∙ is
    by_name false same here is on = on here

pub modules_round : ModulesAreRound
modules_round whole kept declarer table ps n p functions got long may declared =
    let seats = part_seats kept table 0 ps in
    let bound = names_of (map part_record ps) in
    let e = numbers_from 0 ps in
    let all_parts1 = and_parts (list_all (λ x. not (is_shared whole.owners x)) (all_names ps) && parts_apart (all_names ps) ps) (list_all (λ x. nat_le functions (whole.declarer x)) (all_names ps ++ all_scoped ps)) may in
    let parts = and_parts (list_all (λ x. not (is_shared whole.owners x)) (all_names ps)) (parts_apart (all_names ps) ps) all_parts1.0 in
    let all : AllParts kept table seats bound 0 ps = all_parts kept table [] [] 0 ps refl refl in
    let here : PartAt kept table seats bound 0 n ps p = part_at kept table seats bound 0 n ps (all_names ps) p all parts.1 got in
    record {
      names = λ x among.
          (let f : FirstPart kept table seats bound e x = first_part kept table seats bound 0 ps x all (names_apart (all_names ps) ps x parts.1 among) among in
          inl (record {
            number = f.number;
            here = part_seat kept table f.number f.part;
            first = f.first;
            seated = f.seated;
            lasting = lasts_unscoped f.number (unshared_in whole.owners (all_names ps) x parts.0 among) refl refl f.target;
          }));
      base = record { number = 0 + n; seat = part_seat kept table (0 + n) p; home = 0 + n; along = here.along; seated = here.seated; image = refl };
      activation = activation_of ps n p 0 got long;
      at_home = λ x among. absurd (differ false among refl);
      locals = λ x local. record { target = here.target x local (scoped_apart (all_names ps) ps x parts.1 (here.scoped x local)); local = local; unkept = refl };
      unbound = λ x local away. none_first kept table seats bound 0 ps x all away;
      innermost = tt;
      above = λ x i first. above_by x i first (none_first kept table seats bound 0 ps x all) (λ is. declared_of all_parts1.1 x (left_in (all_names ps) (all_scoped ps) x is));
      declared = λ x local. declared_of all_parts1.1 x (right_in (all_names ps) (all_scoped ps) x (here.scoped x local));
      keeps = λ f x is. kept_by kept table seats bound 0 ps n p f x all got is;
    }
  where
    declared_of : list_all (λ x. nat_le functions (whole.declarer x)) (all_names ps ++ all_scoped ps) ≡ true → (x : Var) → is_among x (all_names ps ++ all_scoped ps) ≡ true → functions ≤ declarer x
    declared_of is x among = subst (λ n. functions ≤ n) (declared x) (leb-true functions (whole.declarer x) (said_in (λ y. nat_le functions (whole.declarer y)) (all_names ps ++ all_scoped ps) x is among))

    place_below : (qs : List CorePart) (m : ℕ) (q : CorePart) → slice_get qs m ≡ Some q → m < length qs
    place_below [] m q is = cc
    place_below (z ∷ qs) zero q is = omega arith
    place_below (z ∷ qs) (suc m) q is = let h : m < length qs = place_below qs m q is in omega arith

    -- the first record is that of a module, and so is this one
    of_modules : (h : ℕ) → h < whole.modules → grouped whole h ≡ 0
    of_modules h less = ap (λ b. if b then 0 else h) (lt-ltb h whole.modules less)

    activation_of : (qs : List CorePart) (m : ℕ) (q : CorePart) (k : ℕ) → slice_get qs m ≡ Some q → whole.modules ≡ length qs
        → activation_at whole (part_seats kept table 0 qs) (numbers_from 0 qs) ≡ Some (grouped whole (0 + m))
    activation_of [] m q k is same = cc
    activation_of (z ∷ qs) m q k is same =
        let h : m < length (z ∷ qs) = place_below (z ∷ qs) m q is in
        ap (λ n. Some n) (of_modules 0 (omega arith) ∙ sym (of_modules (0 + m) (omega arith)))

    above_by : (x : Var) (i : ℕ) → first_at (names_of (map part_record ps)) (numbers_from 0 ps) x ≡ Some i
        → (is_among x (all_names ps) ≡ false → first_at (names_of (map part_record ps)) (numbers_from 0 ps) x ≡ None) → (is_among x (all_names ps) ≡ true → functions ≤ declarer x) → functions ≤ declarer x
    above_by x i first none on = by_there (is_among x (all_names ps)) refl
      where
        by_there : (c : Bool) → is_among x (all_names ps) ≡ c → functions ≤ declarer x
        by_there true is = on is
        by_there false is = absurd (not_none (first_at (names_of (map part_record ps)) (numbers_from 0 ps) x) i first (none is))
