-- From what is asked of the source to what the laws of the steps ask of both.
use Rattle.std.proofs.Common.{◌≡◌, ◌<◌, ◌+◌, ℕ, zero, suc, Bool, true, false, ◌||◌, cond, List, [], ◌∷◌, map, Option, None, Some, length, nat_eq, slice_get, refl, sym, ap, subst, ◌∙◌, ◌⊎◌, inl, inr}
use Rattle.std.specs.Prelude.{if◌then◌else◌}
use Rattle.std.proofs.lemmas.Bool.{eq-eqb, eqb-true}
use Rattle.core_ast.specs.declared.parts.FunctionId.{FunctionId}
use Rattle.core_ast.specs.declared.parts.ScopedName.{ScopedName}
use Rattle.core_ast.specs.declared.parts.Var.{Var}
use Rattle.core_ast.specs.declared.tree.CoreLink.{CoreLink, out-CoreLink}
use Rattle.core_ast.specs.declared.whole.Core.{Core}
use Rattle.core_meaning.specs.Cells.{uninitialized}
use Rattle.core_meaning.specs.Expressions.{function_at}
use Rattle.core_meaning.specs.Marks.{CoreState, KeptCell, Mark, Own, Unmade, empty}
use Rattle.core_meaning.specs.Names.{binding_in, record_at}
use Rattle.core_meaning.specs.State.{Binding, Call, Closure, CoreValue, Environment, Extra, User}
use Rattle.pass_rules.specs.Cells.{is_among, is_shared}
use Rattle.pass_rules.specs.Scopes.{function_flat, vars}
use Rattle.cells_keep_runs.specs.Called.{ArgumentsBound, Enters, bindings_of}
use Rattle.cells_keep_runs.specs.Classed.{ClassSeen, SeenIn}
use Rattle.cells_keep_runs.specs.Entered.{reset_of}
use Rattle.cells_keep_runs.specs.Entries.{NewCall}
use Rattle.cells_keep_runs.specs.Memory.{Keeps, Memory, OpenAt, Seat, Seats, cell_along, cell_found}
use Rattle.cells_keep_runs.specs.Named.{CellsOf, call_names, scoped_names}
use Rattle.cells_keep_runs.specs.Opened.{AllHold, WriteHolds, write_in}
use Rattle.cells_keep_runs.specs.Ready.{AllAmong, AllMarked, AreApart, AreFlattened, ClosureCall, FunctionSeen, Keeping, ScopeReady, ValuesSeen, WriteSeen, WritesSeen}
use Rattle.cells_keep_runs.specs.Related.{All, Closures, IsCellIn, Kept, Stand}
use Rattle.cells_keep_runs.specs.Renewed.{AllNamed, Among, Gets, NewScope, NoValue, OwnCell, gets_cell, gets_none, renewed_name}
use Rattle.cells_keep_runs.specs.Ways.{Holds}
use Rattle.cells_keep_runs.proofs.Closed.{holds_along}
use Rattle.cells_keep_runs.proofs.Named.{calls_have_names}
use Rattle.cells_keep_runs.proofs.Writes.{not_none, one_value, same_var}

-- ---- the shared names that links write hold their cells

module _ (owners : List ℕ) (seats : Seats) (s t : CoreState) (stand : Stand owners seats s t) where
  write_holds : (w : Option Var) → WriteSeen owners seats s w → WriteHolds t (cell_along seats s.context.environment) w
  write_holds None seen = tt
  write_holds (Some x) seen =
      let h = holds_along owners seats s t stand x seen in
      subst (λ k. Holds t x k) (sym h.along) h.holds

  pub all_hold : (links : List CoreLink) → WritesSeen owners seats s links → AllHold t owners (cell_along seats s.context.environment) links
  all_hold [] seen = tt
  all_hold (l ∷ links) (seen, others) = (write_holds (write_in owners (out-CoreLink l)) seen, all_hold links others)

-- ---- functions

module _ (core core2 : Core) (kept : Keeping) (owners : List ℕ) (seats : Seats) (s : CoreState) (flattened : AreFlattened core core2 owners kept) (apart : AreApart core kept owners) where
  pub class_seen : (f : FunctionId) → FunctionSeen core kept owners seats s f → ClassSeen core core2 owners seats s f
  class_seen f x = record { function = x.function; kept = kept f; before = x.before; flat = flattened f x.function x.before; others = (apart f x.function x.before).others; seen = x.seen; all = x.all }

  pub seen_in : (vs : List (CoreValue Mark)) → ValuesSeen core kept owners seats s vs → SeenIn core core2 owners seats s vs
  seen_in (User heritage ∷ Extra (Unmade f) ∷ []) x = class_seen f x
  seen_in vs x = x

-- what is at a place of a related list
related_at : {A C : Type 0} (R : A → C → Type 0) (xs : List A) (ys : List C) (n : ℕ) (x : A) → All R xs ys → slice_get xs n ≡ Some x → (y : C) × (slice_get ys n ≡ Some y) × R x y
related_at R [] ys n x all is = cc
related_at R (a ∷ xs) [] n x all is = absurd all
related_at R (a ∷ xs) (b ∷ ys) zero x (r, all) is = (b, refl, subst (λ z. R z b) (one_value (Some a) a x refl is) r)
related_at R (a ∷ xs) (b ∷ ys) (suc n) x (r, all) is = related_at R xs ys n x all is

-- cells that are kept are made
kept_in : (seats : Seats) (e : Environment) (ks : List KeptCell) (x : Var) (k : ℕ) → Kept seats e ks → cell_found ks x ≡ Some k → IsCellIn seats x k
kept_in seats e [] x k kept is = cc
kept_in seats e (c ∷ ks) x k (along, at, kept) is = by_name (nat_eq c.var.0 x.0) refl is (λ on. kept_in seats e ks x k kept on)
  where
    by_name : (same : Bool) → nat_eq c.var.0 x.0 ≡ same → (if same then Some c.cell else cell_found ks x) ≡ Some k → (cell_found ks x ≡ Some k → IsCellIn seats x k) → IsCellIn seats x k
    by_name true e2 here on = subst (λ j. IsCellIn seats x j) (one_value (Some c.cell) c.cell k refl here) (subst (λ y. IsCellIn seats y c.cell) (same_var c.var x (eqb-true c.var.0 x.0 e2)) at)
    by_name false e2 here on = on here

module _ (core core2 : Core) (kept : Keeping) (owners : List ℕ) (seats : Seats) (c : Call) (s t : CoreState) (flattened : AreFlattened core core2 owners kept) (apart : AreApart core kept owners)
    (stand : Stand owners seats s t) (x : ClosureCall core c s) where
  undeclared : x.function.declared ≡ []
  undeclared = (apart x.closure.function x.function x.function_is).undeclared

  pub behind_all : (b : Closure Own) × (slice_get t.closures x.number ≡ Some b) × Closures owners seats x.closure b
  behind_all = related_at (Closures owners seats) s.closures t.closures x.number x.closure stand.states.closures x.closure_at

  abbrev pub behind_of : Closure Own
  behind_of = behind_all.0

  pub behind_at : slice_get t.closures x.number ≡ Some behind_of
  behind_at = behind_all.1

  pub closures_of : Closures owners seats x.closure behind_of
  closures_of = behind_all.2

  pub enters_of : Enters core core2 owners c s t x.closure behind_of x.function (kept x.closure.function)
  enters_of = record {
    id = x.id;
    number = x.number;
    object = x.object;
    class_is = x.class_is;
    before = x.closure_at;
    behind = behind_at;
    function = x.function_is;
    flat = ap (λ f. function_at core2 f) closures_of.function ∙ flattened x.closure.function x.function x.function_is;
    undeclared = undeclared;
  }

  made_at : (y : Var) (k : ℕ) → IsCellIn seats y k → k < length t.store.cells
  made_at y k (n, seat, at, found) = stand.states.memory.cells_made n k seat y at found

  pub cells_of : CellsOf owners (x.closure.function.0 + 1) behind_of.own.cells t.store.cells
  cells_of = record {
    foreign = closures_of.foreign;
    there = λ y k found. made_at y k (kept_in seats x.closure.environment behind_of.own.cells y k closures_of.cells found);
  }

  pub called_of : NewCall (bindings_of (function_flat owners (kept x.closure.function) x.function) behind_of c t) (bindings_of x.function x.closure c s) t.store.cells
      (scoped_names x.function) (call_names x.function behind_of.own.cells) behind_of.own.cells
  called_of = calls_have_names.called owners (x.closure.function.0 + 1) x.function (kept x.closure.function) x.closure behind_of c s t undeclared closures_of.uncelled (apart x.closure.function x.function x.function_is).names cells_of

  pub arguments_of : ArgumentsBound (bindings_of x.function x.closure c s) x.function.arguments
  arguments_of = calls_have_names.arguments x.function x.closure c s undeclared

-- ---- scopes

or_right : (a b : Bool) → b ≡ true → a || b ≡ true
or_right true b is = refl
or_right false b is = is

or_left : (a b : Bool) → a ≡ true → a || b ≡ true
or_left true b is = refl
or_left false b is = cc

name_of : (x : Var) (b : Bool) → renewed_name (cond b (OwnCell x None) (NoValue x)) ≡ x
name_of x true = refl
name_of x false = refl

module _ (owners : List ℕ) (seats : Seats) (s t : CoreState) (names : List ScopedName) (stand : Stand owners seats s t) (ready : ScopeReady owners seats s names) where
  abbrev mem : Memory owners seats s.records t.records t.store.cells
  mem = stand.states.memory

  abbrev Within : List ScopedName → Type 0
  Within ns = (x : Var) → is_among x (vars ns) ≡ true → is_among x (vars names) ≡ true

  all_named : (ns : List ScopedName) → Within ns → AllAmong ready.seat.locals ns → AllNamed t.records ready.home (vars names) (map reset_of ns)
  all_named [] within locals = tt
  all_named (n ∷ ns) within (local, locals) =
      let same : renewed_name (reset_of n) ≡ n.var = name_of n.var n.shared in
      let here : is_among n.var (vars (n ∷ ns)) ≡ true = or_left (nat_eq n.var.0 n.var.0) (is_among n.var (vars ns)) (eq-eqb n.var.0 n.var.0 refl) in
      let opened_at : OpenAt t.records ready.home n.var = mem.locals_open ready.number ready.home ready.seat n.var ready.seated ready.image local in (
        ap (λ y. is_among y (vars names)) same ∙ within n.var here,
        subst (λ y. OpenAt t.records ready.home y) (sym same) opened_at,
        all_named ns (λ x among. within x (or_right (nat_eq n.var.0 x.0) (is_among x (vars ns)) among)) locals,
      )

  abbrev bound_name : ScopedName → Binding Mark
  bound_name n = record { var = n.var; value = empty; mutable = n.mutable }

  named_by : (n : ScopedName) (ns : List ScopedName) (x : Var) (b : Binding Mark) (is : Bool) → (if is then Some (bound_name n) else binding_in (uninitialized ns) x) ≡ Some b
      → (binding_in (uninitialized ns) x ≡ Some b → is_among x (vars ns) ≡ true) → is || is_among x (vars ns) ≡ true
  named_by n ns x b true bound on = refl
  named_by n ns x b false bound on = on bound

  bound_among : (ns : List ScopedName) (x : Var) (b : Binding Mark) → binding_in (uninitialized ns) x ≡ Some b → is_among x (vars ns) ≡ true
  bound_among [] x b bound = cc
  bound_among (n ∷ ns) x b bound = named_by n ns x b (nat_eq n.var.0 x.0) bound (λ rest. bound_among ns x b rest)

  abbrev Got : List ScopedName → Var → Binding Mark → Type 0
  Got ns x b = (Among (OwnCell x None) (map reset_of ns) × (is_shared owners x ≡ true)) ⊎ (Among (NoValue x) (map reset_of ns) × (is_shared owners x ≡ false))

  got_here : (n : ScopedName) (ns : List ScopedName) (shared : Bool) → n.shared ≡ shared → is_shared owners n.var ≡ shared
      → (((cond shared (OwnCell n.var None) (NoValue n.var) ≡ OwnCell n.var None) ⊎ Among (OwnCell n.var None) (map reset_of ns)) × (is_shared owners n.var ≡ true))
      ⊎ (((cond shared (OwnCell n.var None) (NoValue n.var) ≡ NoValue n.var) ⊎ Among (NoValue n.var) (map reset_of ns)) × (is_shared owners n.var ≡ false))
  got_here n ns true is marked = inl (inl refl, marked)
  got_here n ns false is marked = inr (inl refl, marked)

  got_first : (n : ScopedName) (ns : List ScopedName) (x : Var) (b : Binding Mark) → n.var ≡ x → is_shared owners n.var ≡ n.shared → Got (n ∷ ns) x b
  got_first n ns x b is marked = subst (λ y. Got (n ∷ ns) y b) is (got_here n ns n.shared refl marked)

  got_later : (n : ScopedName) (ns : List ScopedName) (x : Var) (b : Binding Mark) → Got ns x b → Got (n ∷ ns) x b
  got_later n ns x b (inl (among, shared)) = inl (inr among, shared)
  got_later n ns x b (inr (among, unshared)) = inr (inr among, unshared)

  got_by : (n : ScopedName) (ns : List ScopedName) (x : Var) (b : Binding Mark) (is : Bool) → nat_eq n.var.0 x.0 ≡ is → (if is then Some (bound_name n) else binding_in (uninitialized ns) x) ≡ Some b
      → is_shared owners n.var ≡ n.shared → (binding_in (uninitialized ns) x ≡ Some b → Got ns x b × (b.value ≡ empty)) → Got (n ∷ ns) x b × (b.value ≡ empty)
  got_by n ns x b true same bound marked on =
      (got_first n ns x b (same_var n.var x (eqb-true n.var.0 x.0 same)) marked, ap (λ c. c.value) (sym (one_value (Some (bound_name n)) (bound_name n) b refl bound)))
  got_by n ns x b false same bound marked on = (got_later n ns x b (on bound).0, (on bound).1)

  got : (ns : List ScopedName) (x : Var) (b : Binding Mark) → AllMarked owners ns → binding_in (uninitialized ns) x ≡ Some b → Got ns x b × (b.value ≡ empty)
  got [] x b marked bound = cc
  got (n ∷ ns) x b (marked, others) bound = got_by n ns x b (nat_eq n.var.0 x.0) refl bound marked (λ rest. got ns x b others rest)

  gets_by : (x : Var) (b : Binding Mark) → Got names x b → b.value ≡ empty → Gets owners t.records ready.home (map reset_of names) x b
  gets_by x b (inl (among, shared)) is = gets_cell None among shared is
  gets_by x b (inr (among, unshared)) is = gets_none among unshared is

  same_record : (n : ℕ) (here : Seat) → slice_get seats n ≡ Some here → here.image ≡ Some ready.home → n ≡ ready.number
  same_record n here at image = mem.images_apart n ready.number ready.home here ready.seat at ready.seated image ready.image

  kept_by : (k : ℕ) (x : Var) (b : Bool) → is_among x (vars names) ≡ b → cell_found ready.seat.cells x ≡ Some k → is_among x (vars names) ≡ false
  kept_by k x true is found = absurd (not_none (cell_found ready.seat.cells x) k found (ready.unkept x is))
  kept_by k x false is found = is

  unkept_at : (n k : ℕ) (x : Var) → Keeps seats n ready.home x k → is_among x (vars names) ≡ false
  unkept_at n k x keeps =
      let at : n ≡ ready.number = same_record n keeps.seat keeps.seated keeps.image in
      let same : keeps.seat ≡ ready.seat = one_value (slice_get seats n) keeps.seat ready.seat keeps.seated (ap (λ i. slice_get seats i) at ∙ ready.seated) in
      kept_by k x (is_among x (vars names)) refl (ap (λ a. cell_found a.cells x) (sym same) ∙ keeps.found)

  pub new_scope : NewScope owners seats s.records t.records ready.home (vars names) (uninitialized names) (map reset_of names)
  new_scope = record {
    differ = ready.differ;
    named = all_named names (λ x among. among) ready.locals;
    bound = λ x b bound. bound_among names x b bound;
    gets = λ x b bound. gets_by x b (got names x b ready.marked bound).0 (got names x b ready.marked bound).1;
    home = mem.images_made ready.number ready.home ready.seat ready.seated ready.image;
    clear = λ n here x at image among. ap (λ i. binding_in (record_at s.records i) x) (same_record n here at image) ∙ ready.clear x among;
    unkept = unkept_at;
  }
