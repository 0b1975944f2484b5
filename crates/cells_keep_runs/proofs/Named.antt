-- The record of a call behind the pass, and before it.
use Rattle.std.proofs.Common.{◌≡◌, ℕ, Bool, true, false, ◌||◌, List, [], ◌∷◌, ◌++◌, map, Option, None, Some, nat_eq, refl, sym, ap, subst, ◌∙◌, ◌⊎◌, inl, inr}
use Rattle.std.specs.Prelude.{if◌then◌else◌, is_some}
use Rattle.std.proofs.lemmas.Bool.{eq-eqb, eqb-true}
use Rattle.std.proofs.lemmas.List.{append_assoc}
use Rattle.es_value.specs.declared.value.Value.{Value}
use Rattle.core_ast.specs.declared.parts.Var.{Var}
use Rattle.core_ast.specs.declared.whole.CoreFunction.{CoreFunction}
use Rattle.core_ast.specs.declared.whole.CoreKind.{CoreKind}
use Rattle.core_ast.specs.declared.whole.CoreKind.TheVariants as kind
use Rattle.core_meaning.specs.Calls.{binding, name_bound, own_name, passed, undefined_binding}
use Rattle.core_meaning.specs.Functions.{cell_names, entered, entered_by}
use Rattle.core_meaning.specs.Marks.{Cell, CoreState, KeptCell, Mark, Own}
use Rattle.core_meaning.specs.Names.{binding_in}
use Rattle.core_meaning.specs.State.{Binding, Call, Closure, EnvironmentRecord, Extra}
use Rattle.pass_rules.specs.Cells.{is_among}
use Rattle.pass_rules.specs.Scopes.{function_flat}
use Rattle.cells_keep_runs.specs.Called.{ArgumentsBound, bindings_of}
use Rattle.cells_keep_runs.specs.Entries.{BoundAlike, BoundCell, BoundOpen, NewCall}
use Rattle.cells_keep_runs.specs.Memory.{cell_found}
use Rattle.cells_keep_runs.specs.Named.{CallsHaveTheirNames, CellsOf, NamesApart, call_names, listed, own_names, scoped_names}
use Rattle.cells_keep_runs.proofs.Writes.{differ, one_value, same_var}

abbrev Record : Type 0
Record = EnvironmentRecord Mark

-- ---- one record before another

found_left : (xs ys : Record) (x : Var) (b : Binding Mark) → binding_in xs x ≡ Some b → binding_in (xs ++ ys) x ≡ Some b
found_left [] ys x b is = cc
found_left (c ∷ xs) ys x b is = by_name (nat_eq c.var.0 x.0) is (λ on. found_left xs ys x b on)
  where
    by_name : (same : Bool) → (if same then Some c else binding_in xs x) ≡ Some b → (binding_in xs x ≡ Some b → binding_in (xs ++ ys) x ≡ Some b) → (if same then Some c else binding_in (xs ++ ys) x) ≡ Some b
    by_name true here on = here
    by_name false here on = on here

found_right : (xs ys : Record) (x : Var) → binding_in xs x ≡ None → binding_in (xs ++ ys) x ≡ binding_in ys x
found_right [] ys x none = refl
found_right (c ∷ xs) ys x none = by_name (nat_eq c.var.0 x.0) none (λ on. found_right xs ys x on)
  where
    by_name : (same : Bool) → (if same then Some c else binding_in xs x) ≡ None → (binding_in xs x ≡ None → binding_in (xs ++ ys) x ≡ binding_in ys x) → (if same then Some c else binding_in (xs ++ ys) x) ≡ binding_in ys x
    by_name true here on = cc
    by_name false here on = on here

found_or_not : (o : Option (Binding Mark)) → ((b : Binding Mark) × (o ≡ Some b)) ⊎ (o ≡ None)
found_or_not None = inr refl
found_or_not (Some b) = inl (b, refl)

-- ---- which names a record has

has_names : (bs : Record) (x : Var) → is_some (binding_in bs x) ≡ is_among x (map (λ b. b.var) bs)
has_names [] x = refl
has_names (c ∷ bs) x = by_name (nat_eq c.var.0 x.0) (has_names bs x)
  where
    by_name : (same : Bool) → is_some (binding_in bs x) ≡ is_among x (map (λ b. b.var) bs) → is_some (if same then Some c else binding_in bs x) ≡ same || is_among x (map (λ b. b.var) bs)
    by_name true on = refl
    by_name false on = on

none_there : (bs : Record) (x : Var) → is_among x (map (λ b. b.var) bs) ≡ false → binding_in bs x ≡ None
none_there bs x away = by_found (binding_in bs x) (has_names bs x ∙ away)
  where
    by_found : (o : Option (Binding Mark)) → is_some o ≡ false → o ≡ None
    by_found None is = refl
    by_found (Some b) is = cc

pub some_there : (bs : Record) (x : Var) → is_among x (map (λ b. b.var) bs) ≡ true → (b : Binding Mark) × (binding_in bs x ≡ Some b)
some_there bs x here = by_found (binding_in bs x) (has_names bs x ∙ here)
  where
    by_found : (o : Option (Binding Mark)) → is_some o ≡ true → (b : Binding Mark) × (o ≡ Some b)
    by_found None is = cc
    by_found (Some b) is = (b, refl)

among_append : (xs ys : List Var) (x : Var) → is_among x (xs ++ ys) ≡ is_among x xs || is_among x ys
among_append [] ys x = refl
among_append (y ∷ xs) ys x = ap (λ b. nat_eq y.0 x.0 || b) (among_append xs ys x) ∙ assoc (nat_eq y.0 x.0) (is_among x xs) (is_among x ys)
  where
    assoc : (a b c : Bool) → a || (b || c) ≡ (a || b) || c
    assoc true b c = refl
    assoc false b c = refl

or_false : (a b : Bool) → a || b ≡ false → (a ≡ false) × (b ≡ false)
or_false true b is = cc
or_false false b is = (refl, is)

or_true : (a b : Bool) → b ≡ true → a || b ≡ true
or_true true b is = refl
or_true false b is = is

not_among : (xs ys : List Var) (x : Var) → is_among x (xs ++ ys) ≡ false → (is_among x xs ≡ false) × (is_among x ys ≡ false)
not_among xs ys x is = or_false (is_among x xs) (is_among x ys) (sym (among_append xs ys x) ∙ is)

among_right : (xs ys : List Var) (x : Var) → is_among x ys ≡ true → is_among x (xs ++ ys) ≡ true
among_right xs ys x is = among_append xs ys x ∙ or_true (is_among x xs) (is_among x ys) is

-- ---- the parts of a record of a call

abbrev pub names : Record → List Var
names bs = map (λ b. b.var) bs

abbrev pub undefined_all : List Var → Record
undefined_all xs = map (λ x. undefined_binding x) xs

pub names_append : (xs ys : Record) → names (xs ++ ys) ≡ names xs ++ names ys
names_append [] ys = refl
names_append (b ∷ xs) ys = ap (λ zs. b.var ∷ zs) (names_append xs ys)

pub names_passed : (xs : List Var) (vs : List Value) → names (passed xs vs) ≡ xs
names_passed [] vs = refl
names_passed (x ∷ xs) [] = ap (λ ys. x ∷ ys) (names_passed xs [])
names_passed (x ∷ xs) (v ∷ vs) = ap (λ ys. x ∷ ys) (names_passed xs vs)

pub names_undefined : (xs : List Var) → names (undefined_all xs) ≡ xs
names_undefined [] = refl
names_undefined (x ∷ xs) = ap (λ ys. x ∷ ys) (names_undefined xs)

pub names_bound : (o : Option Var) → names (name_bound o) ≡ listed o
names_bound None = refl
names_bound (Some x) = refl

pub names_own : (o : Option Var) (f : Value) → names (own_name o f) ≡ listed o
names_own None f = refl
names_own (Some x) f = refl

abbrev cell_record : List KeptCell → Record
cell_record ks = map (λ k. binding k.var (Extra (Cell k.cell))) ks

names_cells : (ks : List KeptCell) → names (cell_record ks) ≡ map (λ k. k.var) ks
names_cells [] = refl
names_cells (k ∷ ks) = ap (λ ys. k.var ∷ ys) (names_cells ks)

abbrev IsOpenIn : Record → Var → Type 0
IsOpenIn bs x = (b : Binding Mark) → binding_in bs x ≡ Some b → b.mutable ≡ true

open_one : (c : Binding Mark) (bs : Record) (x : Var) → c.mutable ≡ true → IsOpenIn bs x → IsOpenIn (c ∷ bs) x
open_one c bs x may on b is = by_name (nat_eq c.var.0 x.0) is
  where
    by_name : (same : Bool) → (if same then Some c else binding_in bs x) ≡ Some b → b.mutable ≡ true
    by_name true here = ap (λ a. a.mutable) (sym (one_value (Some c) c b refl here)) ∙ may
    by_name false here = on b here

open_none : (x : Var) → IsOpenIn [] x
open_none x b is = cc

open_passed : (xs : List Var) (vs : List Value) (x : Var) → IsOpenIn (passed xs vs) x
open_passed [] vs x = open_none x
open_passed (y ∷ xs) [] x = open_one (undefined_binding y) (passed xs []) x refl (open_passed xs [] x)
open_passed (y ∷ xs) (v ∷ vs) x = open_one _ (passed xs vs) x refl (open_passed xs vs x)

open_undefined : (xs : List Var) (x : Var) → IsOpenIn (undefined_all xs) x
open_undefined [] x = open_none x
open_undefined (y ∷ xs) x = open_one (undefined_binding y) (undefined_all xs) x refl (open_undefined xs x)

open_bound : (o : Option Var) (x : Var) → IsOpenIn (name_bound o) x
open_bound None x = open_none x
open_bound (Some y) x = open_one (undefined_binding y) [] x refl (open_none x)

-- what is found among names that are undefined
undefined_there : (xs : List Var) (x : Var) → is_among x xs ≡ true → binding_in (undefined_all xs) x ≡ Some (undefined_binding x)
undefined_there [] x is = cc
undefined_there (y ∷ xs) x is = by_name (nat_eq y.0 x.0) refl is (λ on. undefined_there xs x on)
  where
    by_name : (same : Bool) → nat_eq y.0 x.0 ≡ same → same || is_among x xs ≡ true → (is_among x xs ≡ true → binding_in (undefined_all xs) x ≡ Some (undefined_binding x))
        → (if same then Some (undefined_binding y) else binding_in (undefined_all xs) x) ≡ Some (undefined_binding x)
    by_name true e here on = ap (λ z. Some (undefined_binding z)) (same_var y x (eqb-true y.0 x.0 e))
    by_name false e here on = on here

cell_there : (ks : List KeptCell) (x : Var) (k : ℕ) → cell_found ks x ≡ Some k → BoundCell (cell_record ks) x k
cell_there [] x k is = cc
cell_there (c ∷ ks) x k is =
    let found = by_name (nat_eq c.var.0 x.0) is (λ on. cell_there ks x k on) in
    record { binding = found.0; there = found.1; value = found.2 }
  where
    by_name : (same : Bool) → (if same then Some c.cell else cell_found ks x) ≡ Some k → (cell_found ks x ≡ Some k → BoundCell (cell_record ks) x k)
        → (b : Binding Mark) × ((if same then Some (binding c.var (Extra (Cell c.cell))) else binding_in (cell_record ks) x) ≡ Some b) × (b.value ≡ Extra (Cell k))
    by_name true here on = (binding c.var (Extra (Cell c.cell)), refl, ap (λ j. Extra (Cell j)) (one_value (Some c.cell) c.cell k refl here))
    by_name false here on = ((on here).binding, (on here).there, (on here).value)

cell_none : (ks : List KeptCell) (x : Var) → cell_found ks x ≡ None → binding_in (cell_record ks) x ≡ None
cell_none [] x is = refl
cell_none (c ∷ ks) x is = by_name (nat_eq c.var.0 x.0) is (λ on. cell_none ks x on)
  where
    by_name : (same : Bool) → (if same then Some c.cell else cell_found ks x) ≡ None → (cell_found ks x ≡ None → binding_in (cell_record ks) x ≡ None)
        → (if same then Some (binding c.var (Extra (Cell c.cell))) else binding_in (cell_record ks) x) ≡ None
    by_name true here on = cc
    by_name false here on = on here

no_cell : (ks : List KeptCell) (x : Var) → ((k : ℕ) → cell_found ks x ≡ Some k → ⊥) → cell_found ks x ≡ None
no_cell ks x away = by_found (cell_found ks x) refl
  where
    by_found : (o : Option ℕ) → cell_found ks x ≡ o → o ≡ None
    by_found None is = refl
    by_found (Some k) is = absurd (away k is)

entered_names : (c : Closure Own) (now : Call) (st : CoreState) (k : CoreKind) → (entered_by c now st k).names ≡ cell_names c.own
entered_names c now st kind.Arrow = refl
entered_names c now st k = refl

-- ---- the two records

module _ (f : CoreFunction) (v : Value) (args : List Value) (owners : List ℕ) (number : ℕ) (cells : List KeptCell) (made : List (Option Value)) (apart : NamesApart owners number f) (of : CellsOf owners number cells made) where
  abbrev P : Record
  P = passed f.parameters args

  abbrev N : Record
  N = name_bound f.arguments

  abbrev L : Record
  L = undefined_all f.locals

  abbrev M : Record
  M = undefined_all (f.locals ++ scoped_names f)

  abbrev K : Record
  K = cell_record cells

  abbrev O : Record
  O = own_name f.own v

  abbrev before : Record
  before = P ++ (N ++ (L ++ O))

  abbrev behind : Record
  behind = P ++ (N ++ (M ++ (K ++ O)))

  -- what is found behind what has none of the name
  past_names : (x : Var) (rest : Record) (b : Binding Mark) → binding_in P x ≡ None → binding_in N x ≡ None → binding_in rest x ≡ Some b → binding_in (P ++ (N ++ rest)) x ≡ Some b
  past_names x rest b none none2 is = found_right P (N ++ rest) x none ∙ found_right N rest x none2 ∙ is

  alike_of : (x : Var) (p b : Binding Mark) → p ≡ b → binding_in behind x ≡ Some p → BoundAlike behind x b
  alike_of x p b is there = record { binding = p; there = there; same = record { value = ap (λ a. a.value) is; mutable = ap (λ a. a.mutable) is } }

  own_among : (x : Var) (b : Binding Mark) → binding_in O x ≡ Some b → is_among x (listed f.own) ≡ true
  own_among x b is = ap (λ ys. is_among x ys) (sym (names_own f.own v)) ∙ sym (has_names O x) ∙ ap (λ o. is_some o) is

  -- a name whose cell is kept is none of the function's
  foreign : (x : Var) (k : ℕ) → cell_found cells x ≡ Some k → (is_among x (own_names f) ≡ false) × (is_among x (scoped_names f) ≡ false)
  foreign x k found = not_among (own_names f) (scoped_names f) x (apart.others_apart x (of.foreign x k found))

  own_uncelled : (x : Var) → is_among x (listed f.own) ≡ true → (k : ℕ) → cell_found cells x ≡ Some k → ⊥
  own_uncelled x own k found =
      let all : is_among x (own_names f) ≡ true = among_right f.parameters (listed f.arguments ++ (f.locals ++ listed f.own)) x
      (among_right (listed f.arguments) (f.locals ++ listed f.own) x (among_right f.locals (listed f.own) x own)) in
      differ (is_among x (own_names f)) all (foreign x k found).0

  same_own : (x : Var) (b : Binding Mark) → binding_in P x ≡ None → binding_in N x ≡ None → binding_in L x ≡ None → binding_in O x ≡ Some b → BoundAlike behind x b
  same_own x b none none2 none3 is =
      let own : is_among x (listed f.own) ≡ true = own_among x b is in
      let away : is_among x f.locals ≡ false = ap (λ ys. is_among x ys) (sym (names_undefined f.locals)) ∙ sym (has_names L x) ∙ ap (λ o. is_some o) none3 in
      let both : is_among x (f.locals ++ scoped_names f) ≡ false = among_append f.locals (scoped_names f) x ∙ ap (λ a. a || is_among x (scoped_names f)) away ∙ apart.own_apart x own in
      let none4 : binding_in M x ≡ None = none_there M x (ap (λ ys. is_among x ys) (names_undefined (f.locals ++ scoped_names f)) ∙ both) in
      let none5 : binding_in K x ≡ None = cell_none cells x (no_cell cells x (own_uncelled x own)) in
      alike_of x b b refl (past_names x (M ++ (K ++ O)) b none none2 (found_right M (K ++ O) x none4 ∙ found_right K O x none5 ∙ is))

  same_local : (x : Var) (p b : Binding Mark) → binding_in P x ≡ None → binding_in N x ≡ None → binding_in L x ≡ Some p → p ≡ b → BoundAlike behind x b
  same_local x p b none none2 is same =
      let here : is_among x f.locals ≡ true = ap (λ ys. is_among x ys) (sym (names_undefined f.locals)) ∙ sym (has_names L x) ∙ ap (λ o. is_some o) is in
      let both : is_among x (f.locals ++ scoped_names f) ≡ true = among_append f.locals (scoped_names f) x ∙ ap (λ a. a || is_among x (scoped_names f)) here in
      let p_is : undefined_binding x ≡ p = one_value (binding_in L x) (undefined_binding x) p (undefined_there f.locals x here) is in
      alike_of x (undefined_binding x) b (p_is ∙ same)
      (past_names x (M ++ (K ++ O)) (undefined_binding x) none none2 (found_left M (K ++ O) x (undefined_binding x) (undefined_there (f.locals ++ scoped_names f) x both)))

  same_third : (x : Var) (b : Binding Mark) → binding_in P x ≡ None → binding_in N x ≡ None → binding_in (L ++ O) x ≡ Some b → ((p : Binding Mark) × (binding_in L x ≡ Some p)) ⊎ (binding_in L x ≡ None) → BoundAlike behind x b
  same_third x b none none2 is (inl (p, here)) = same_local x p b none none2 here (one_value (binding_in (L ++ O) x) p b (found_left L O x p here) is)
  same_third x b none none2 is (inr none3) = same_own x b none none2 none3 (sym (found_right L O x none3) ∙ is)

  same_second : (x : Var) (b : Binding Mark) → binding_in P x ≡ None → binding_in (N ++ (L ++ O)) x ≡ Some b → ((p : Binding Mark) × (binding_in N x ≡ Some p)) ⊎ (binding_in N x ≡ None) → BoundAlike behind x b
  same_second x b none is (inl (p, here)) =
      alike_of x p b (one_value (binding_in (N ++ (L ++ O)) x) p b (found_left N (L ++ O) x p here) is) (found_right P (N ++ (M ++ (K ++ O))) x none ∙ found_left N (M ++ (K ++ O)) x p here)
  same_second x b none is (inr none2) = same_third x b none none2 (sym (found_right N (L ++ O) x none2) ∙ is) (found_or_not (binding_in L x))

  same_first : (x : Var) (b : Binding Mark) → binding_in before x ≡ Some b → ((p : Binding Mark) × (binding_in P x ≡ Some p)) ⊎ (binding_in P x ≡ None) → BoundAlike behind x b
  same_first x b is (inl (p, here)) = alike_of x p b (one_value (binding_in before x) p b (found_left P (N ++ (L ++ O)) x p here) is) (found_left P (N ++ (M ++ (K ++ O))) x p here)
  same_first x b is (inr none) = same_second x b none (sym (found_right P (N ++ (L ++ O)) x none) ∙ is) (found_or_not (binding_in N x))

  same_all : (x : Var) (b : Binding Mark) → binding_in before x ≡ Some b → BoundAlike behind x b
  same_all x b is = same_first x b is (found_or_not (binding_in P x))

  -- the names that it has
  names_are : names behind ≡ call_names f cells
  names_are =
      names_append P (N ++ (M ++ (K ++ O))) ∙ ap (λ ys. ys ++ names (N ++ (M ++ (K ++ O)))) (names_passed f.parameters args)
      ∙ ap (λ ys. f.parameters ++ ys) (names_append N (M ++ (K ++ O)) ∙ ap (λ ys. ys ++ names (M ++ (K ++ O))) (names_bound f.arguments)
      ∙ ap (λ ys. listed f.arguments ++ ys) (names_append M (K ++ O) ∙ ap (λ ys. ys ++ names (K ++ O)) (names_undefined (f.locals ++ scoped_names f))
      ∙ ap (λ ys. (f.locals ++ scoped_names f) ++ ys) (names_append K O ∙ ap (λ ys. ys ++ names O) (names_cells cells) ∙ ap (λ ys. map (λ k. k.var) cells ++ ys) (names_own f.own v))))

  -- the names of scopes may be written
  open_local : (x : Var) → is_among x (scoped_names f) ≡ true → ((p : Binding Mark) × (binding_in P x ≡ Some p)) ⊎ (binding_in P x ≡ None) → ((p : Binding Mark) × (binding_in N x ≡ Some p)) ⊎ (binding_in N x ≡ None) → BoundOpen behind x
  open_local x local (inl (p, here)) n = record { binding = p; there = found_left P (N ++ (M ++ (K ++ O))) x p here; mutable = open_passed f.parameters args x p here }
  open_local x local (inr none) (inl (p, here)) = record { binding = p; there = found_right P (N ++ (M ++ (K ++ O))) x none ∙ found_left N (M ++ (K ++ O)) x p here; mutable = open_bound f.arguments x p here }
  open_local x local (inr none) (inr none2) = record {
    binding = undefined_binding x;
    there = past_names x (M ++ (K ++ O)) (undefined_binding x) none none2
        (found_left M (K ++ O) x (undefined_binding x) (undefined_there (f.locals ++ scoped_names f) x (among_right f.locals (scoped_names f) x local)));
    mutable = refl;
  }

  -- and a name whose cell is kept has it
  record Foreign (x : Var) : Type 0 where
    in_parameters : binding_in P x ≡ None
    in_arguments : binding_in N x ≡ None
    in_locals : binding_in L x ≡ None
    in_all_locals : binding_in M x ≡ None
    in_own : binding_in O x ≡ None

  foreign_to : (x : Var) (k : ℕ) → cell_found cells x ≡ Some k → Foreign x
  foreign_to x k found =
      let out = foreign x k found in
      let first = not_among f.parameters (listed f.arguments ++ (f.locals ++ listed f.own)) x out.0 in
      let second = not_among (listed f.arguments) (f.locals ++ listed f.own) x first.1 in
      let third = not_among f.locals (listed f.own) x second.1 in
      record {
        in_parameters = none_there P x (ap (λ ys. is_among x ys) (names_passed f.parameters args) ∙ first.0);
        in_arguments = none_there N x (ap (λ ys. is_among x ys) (names_bound f.arguments) ∙ second.0);
        in_locals = none_there L x (ap (λ ys. is_among x ys) (names_undefined f.locals) ∙ third.0);
        in_all_locals = none_there M x (ap (λ ys. is_among x ys) (names_undefined (f.locals ++ scoped_names f)) ∙ among_append f.locals (scoped_names f) x ∙ ap (λ a. a || is_among x (scoped_names f)) third.0 ∙ out.1);
        in_own = none_there O x (ap (λ ys. is_among x ys) (names_own f.own v) ∙ third.1);
      }

  holds_all : (x : Var) (k : ℕ) → cell_found cells x ≡ Some k → BoundCell behind x k
  holds_all x k found =
      let away = foreign_to x k found in
      let c = cell_there cells x k found in
      record {
        binding = c.binding;
        there = past_names x (M ++ (K ++ O)) c.binding away.in_parameters away.in_arguments (found_right M (K ++ O) x away.in_all_locals ∙ found_left K O x c.binding c.there);
        value = c.value;
      }

  foreign_before : (x : Var) (k : ℕ) → cell_found cells x ≡ Some k → binding_in before x ≡ None
  foreign_before x k found =
      let away = foreign_to x k found in
      found_right P (N ++ (L ++ O)) x away.in_parameters ∙ found_right N (L ++ O) x away.in_arguments ∙ found_right L O x away.in_locals ∙ away.in_own

  pub new_call : NewCall behind before made (scoped_names f) (call_names f cells) cells
  new_call = record {
    same = same_all;
    shape = λ x. has_names behind x ∙ ap (λ ys. is_among x ys) names_are;
    locals_open = λ x local. open_local x local (found_or_not (binding_in P x)) (found_or_not (binding_in N x));
    holds = holds_all;
    made = of.there;
    foreign = foreign_before;
  }

-- ---- as calls make them

regrouped : (a b c d e g : Record) → a ++ b ++ c ++ d ++ e ++ g ≡ a ++ (b ++ (c ++ (d ++ (e ++ g))))
regrouped a b c d e g =
    append_assoc (a ++ b ++ c ++ d) e g ∙ append_assoc (a ++ b ++ c) d (e ++ g) ∙ append_assoc (a ++ b) c (d ++ (e ++ g)) ∙ append_assoc a b (c ++ (d ++ (e ++ g)))

abbrev declared_of : CoreFunction → Record
declared_of f = map (λ d. undefined_binding d.var) f.declared

pub source_is : (f : CoreFunction) (a : Closure Own) (c : Call) (s : CoreState) → f.declared ≡ [] → a.own.cells ≡ []
    → bindings_of f a c s ≡ passed f.parameters c.args ++ (name_bound f.arguments ++ (undefined_all f.locals ++ own_name f.own c.function))
source_is f a c s undeclared unkept =
    regrouped (passed f.parameters c.args) (declared_of f) (name_bound f.arguments) (undefined_all f.locals) (entered a f c s).names (own_name f.own c.function)
    ∙ ap (λ ds. passed f.parameters c.args ++ (map (λ d. undefined_binding d.var) ds ++ (name_bound f.arguments ++ (undefined_all f.locals ++ ((entered a f c s).names ++ own_name f.own c.function))))) undeclared
    ∙ ap (λ zs. passed f.parameters c.args ++ (name_bound f.arguments ++ (undefined_all f.locals ++ (zs ++ own_name f.own c.function)))) (entered_names a c s f.kind ∙ ap (λ ks. cell_record ks) unkept)

target_is : (owners : List ℕ) (f : CoreFunction) (kept : List Var) (b : Closure Own) (c : Call) (t : CoreState) → f.declared ≡ []
    → bindings_of (function_flat owners kept f) b c t
    ≡ passed f.parameters c.args ++ (name_bound f.arguments ++ (undefined_all (f.locals ++ scoped_names f) ++ (cell_record b.own.cells ++ own_name f.own c.function)))
target_is owners f kept b c t undeclared =
    regrouped (passed f.parameters c.args) (declared_of f) (name_bound f.arguments) (undefined_all (f.locals ++ scoped_names f)) (entered b (function_flat owners kept f) c t).names (own_name f.own c.function)
    ∙ ap (λ ds. passed f.parameters c.args ++ (map (λ d. undefined_binding d.var) ds ++ (name_bound f.arguments ++ (undefined_all (f.locals ++ scoped_names f) ++ ((entered b (function_flat owners kept f) c t).names ++ own_name f.own c.function))))) undeclared
    ∙ ap (λ zs. passed f.parameters c.args ++ (name_bound f.arguments ++ (undefined_all (f.locals ++ scoped_names f) ++ (zs ++ own_name f.own c.function)))) (entered_names b c t f.kind)

calls_named : (owners : List ℕ) (number : ℕ) (f : CoreFunction) (kept : List Var) (a b : Closure Own) (c : Call) (s t : CoreState)
    → f.declared ≡ [] → a.own.cells ≡ [] → NamesApart owners number f → CellsOf owners number b.own.cells t.store.cells
    → NewCall (bindings_of (function_flat owners kept f) b c t) (bindings_of f a c s) t.store.cells (scoped_names f) (call_names f b.own.cells) b.own.cells
calls_named owners number f kept a b c s t undeclared unkept apart of =
    subst (λ bs. NewCall bs (bindings_of f a c s) t.store.cells (scoped_names f) (call_names f b.own.cells) b.own.cells) (sym (target_is owners f kept b c t undeclared))
    (subst (λ bs. NewCall (passed f.parameters c.args ++ (name_bound f.arguments ++ (undefined_all (f.locals ++ scoped_names f) ++ (cell_record b.own.cells ++ own_name f.own c.function)))) bs t.store.cells (scoped_names f) (call_names f b.own.cells) b.own.cells) (sym (source_is f a c s undeclared unkept))
    (new_call f c.function c.args owners number b.own.cells t.store.cells apart of))

-- the arguments object has its name
arguments_by : (o : Option Var) (first rest : Record) → ArgumentsBound (first ++ (name_bound o ++ rest)) o
arguments_by None first rest = tt
arguments_by (Some x) first rest =
    let here : is_among x (names (first ++ (name_bound (Some x) ++ rest))) ≡ true = ap (λ ys. is_among x ys) (names_append first (undefined_binding x ∷ rest))
    ∙ among_right (names first) (x ∷ names rest) x (ap (λ b. b || is_among x (names rest)) (eq-eqb x.0 x.0 refl)) in
    some_there (first ++ (name_bound (Some x) ++ rest)) x here

arguments_named : (f : CoreFunction) (a : Closure Own) (c : Call) (s : CoreState) → f.declared ≡ [] → ArgumentsBound (bindings_of f a c s) f.arguments
arguments_named f a c s undeclared =
    let rest : Record = undefined_all f.locals ++ ((entered a f c s).names ++ own_name f.own c.function) in
    let grouped = regrouped (passed f.parameters c.args) (declared_of f) (name_bound f.arguments) (undefined_all f.locals) (entered a f c s).names (own_name f.own c.function) in
    subst (λ bs. ArgumentsBound bs f.arguments)
    (sym (grouped ∙ ap (λ ds. passed f.parameters c.args ++ (map (λ d. undefined_binding d.var) ds ++ (name_bound f.arguments ++ rest))) undeclared))
    (arguments_by f.arguments (passed f.parameters c.args) rest)

pub calls_have_names : CallsHaveTheirNames
calls_have_names = record { called = calls_named; arguments = arguments_named }
