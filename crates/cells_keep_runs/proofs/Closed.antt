-- Closures are made alike.
use Rattle.std.specs.List.{flat_map}
use Rattle.std.proofs.Common.{◌≡◌, ℕ, suc, Bool, true, false, ◌||◌, List, [], ◌∷◌, ◌++◌, Option, None, Some, length, nat_eq, refl, sym, ap, subst, ◌∙◌}
use Rattle.std.specs.Prelude.{if◌then◌else◌}
use Rattle.es_outside.specs.declared.events.Site.{Site}
use Rattle.es_value.specs.declared.value.Value.TheVariants as value
use Rattle.es_heap.specs.Heaps.{Heap, next_id}
use Rattle.core_ast.specs.declared.parts.CoreHead.{CoreHead}
use Rattle.core_ast.specs.declared.parts.CoreHead.TheVariants as head
use Rattle.core_ast.specs.declared.parts.FunctionId.{FunctionId}
use Rattle.core_ast.specs.declared.parts.Var.{Var}
use Rattle.core_ast.specs.declared.tree.CoreExpr.{CoreExpr, out-CoreExpr, out-roll-CoreExpr}
use Rattle.core_ast.specs.declared.tree.CoreLink.{CoreLink}
use Rattle.core_ast.specs.declared.whole.Core.{Core}
use Rattle.core_ast.specs.declared.whole.CoreFunction.{CoreFunction}
use Rattle.core_ast.specs.declared.whole.CoreKind.{CoreKind}
use Rattle.core_ast.specs.declared.whole.CoreKind.TheVariants as kind
use Rattle.core_ast.specs.Made.{expression}
use Rattle.core_meaning.specs.Expressions.{begin_head, function_at, has_given}
use Rattle.core_meaning.specs.Functions.{cell_found, cell_in, closure_by, closure_of, function_heap, kept_by, with_closure}
use Rattle.core_meaning.specs.Marks.{Cell, CoreNext, CoreState, KeptCell, Mark, Own, Unmade}
use Rattle.core_meaning.specs.Modules.{core_step, rows}
use Rattle.core_meaning.specs.Names.{Resolved, resolve}
use Rattle.core_meaning.specs.Rows.{goes, with_control, with_heap, with_option}
use Rattle.core_meaning.specs.State.{Begin, CoreValue, Environment, Extra, Go, Has, User}
use Rattle.core_meaning.specs.Step.{step}
use Rattle.pass_rules.specs.Cells.{is_among, is_shared}
use Rattle.pass_rules.specs.Scopes.{expr_flat, function_flat}
use Rattle.cells_keep_runs.specs.Alike.{Alike, Along, Config}
use Rattle.cells_keep_runs.specs.Closed.{AllSeen, ClosuresAreMadeAlike, KeepsAll, KeepsOthers, SeenShared}
use Rattle.cells_keep_runs.specs.Memory.{CellAt, Names, Seats, cell_along, cell_found as found_in, images}
use Rattle.cells_keep_runs.specs.Opened.{begun_head, begun_links, flat_begun, opened, opening_steps, with_more_frames}
use Rattle.cells_keep_runs.specs.Related.{All, Closures, IsCellIn, Kept, Owns, Related, Stand, at_links, same_current}
use Rattle.cells_keep_runs.specs.Seen.{Sees, sees_home, sees_kept, sees_plain}
use Rattle.cells_keep_runs.specs.Ways.{Holds}
use Rattle.cells_keep_runs.proofs.Begun.{answered}
use Rattle.cells_keep_runs.proofs.Carried.{B, stand_frames}
use Rattle.cells_keep_runs.proofs.Opened.{begins}
use Rattle.cells_keep_runs.proofs.Seen.{FoundAt, found_at, holds_of, newest_by, resolved_on, state_bound}
use Rattle.cells_keep_runs.proofs.Writes.{differ}

-- ---- the cell of a name that both find

pub record HoldsAlong (seats : Seats) (s t : CoreState) (x : Var) : Type 0 where
  pub cell : ℕ
  pub holds : Holds t x cell
  pub along : cell_along seats s.context.environment x ≡ cell
  pub at : IsCellIn seats x cell

module _ (owners : List ℕ) (seats : Seats) (s t : CoreState) (stand : Stand owners seats s t) where
  held_by : (x : Var) (q : Resolved Mark) → is_shared owners x ≡ true → resolve s x ≡ Some q → Sees owners seats s.context.environment q.at x → HoldsAlong seats s t x
  held_by x q shared found (sees_plain m unshared place at) = absurd (differ (is_shared owners x) shared unshared)
  held_by x q shared found (sees_home k c along newest at) =
      let mem = stand.states.memory in
      let names : Names owners seats t.records t.store.cells q.at x q.binding = mem.names q.at x q.binding (state_bound s x q found) in
      let f : FoundAt t x c.seat.home = resolved_on t (images seats s.context.environment) x c.seat.home stand.environment (found_at owners seats s.records t.records t.store.cells mem s.context.environment x c.seat.home at) in
      let cell : CellAt t.records c.seat.home x k = newest_by owners seats s.records t.records t.store.cells mem q.at k x q.binding c newest names in
      record { cell = k; holds = holds_of t x c.seat.home k f cell; along = along; at = (q.at, c.seat, c.seated, c.found) }
  held_by x q shared found (sees_kept k j i c along keeps at) =
      let mem = stand.states.memory in
      let f : FoundAt t x i = resolved_on t (images seats s.context.environment) x i stand.environment (found_at owners seats s.records t.records t.store.cells mem s.context.environment x i at) in
      record { cell = k; holds = holds_of t x i k f (mem.kept j i k x keeps); along = along; at = (q.at, c.seat, c.seated, c.found) }

  pub holds_along : (x : Var) → SeenShared owners seats s x → HoldsAlong seats s t x
  holds_along x h = held_by x h.found h.shared h.is h.sees

-- ---- the cells that are kept

kept_append : (seats : Seats) (e : Environment) (xs ys : List KeptCell) → Kept seats e xs → Kept seats e ys → Kept seats e (xs ++ ys)
kept_append seats e [] ys h k = k
kept_append seats e (x ∷ xs) ys (is, at, h) k = (is, at, kept_append seats e xs ys h k)

kept_one : (seats : Seats) (s t : CoreState) (x : Var) → HoldsAlong seats s t x → Kept seats s.context.environment (cell_found x (resolve t x))
kept_one seats s t x h =
    let is : cell_found x (resolve t x) ≡ record { var = x; cell = h.cell } ∷ [] = ap (λ o. cell_found x o) h.holds.1 ∙ ap (λ v. cell_in x v) h.holds.2 in
    subst (λ ks. Kept seats s.context.environment ks) (sym is) (h.along, h.at, tt)

pub kept_all : (owners : List ℕ) (seats : Seats) (s t : CoreState) (stand : Stand owners seats s t) (xs : List Var) → AllSeen owners seats s xs → Kept seats s.context.environment (flat_map (λ x. cell_found x (resolve t x)) xs)
kept_all owners seats s t stand [] seen = tt
kept_all owners seats s t stand (x ∷ xs) (h, seen) =
    kept_append seats s.context.environment (cell_found x (resolve t x)) (flat_map (λ y. cell_found y (resolve t y)) xs) (kept_one seats s t x (holds_along owners seats s t stand x h)) (kept_all owners seats s t stand xs seen)

-- each of these names has its cell among them
found_one : (y : Var) (n : ℕ) (rest : List KeptCell) (x : Var) (more : Bool) → nat_eq y.0 x.0 || more ≡ true → (more ≡ true → (k : ℕ) × (found_in rest x ≡ Some k)) → (k : ℕ) × (found_in (record { var = y; cell = n } ∷ rest) x ≡ Some k)
found_one y n rest x more among on = by_name (nat_eq y.0 x.0) among
  where
    by_name : (b : Bool) → b || more ≡ true → (k : ℕ) × ((if b then Some n else found_in rest x) ≡ Some k)
    by_name true is = (n, refl)
    by_name false is = on is

pub found_all : (owners : List ℕ) (seats : Seats) (s t : CoreState) (stand : Stand owners seats s t) (xs : List Var) → AllSeen owners seats s xs → (x : Var) → is_among x xs ≡ true
    → (k : ℕ) × (found_in (flat_map (λ y. cell_found y (resolve t y)) xs) x ≡ Some k)
found_all owners seats s t stand [] seen x among = cc
found_all owners seats s t stand (y ∷ ys) (h, seen) x among =
    let hold : HoldsAlong seats s t y = holds_along owners seats s t stand y h in
    let is : cell_found y (resolve t y) ≡ record { var = y; cell = hold.cell } ∷ [] = ap (λ o. cell_found y o) hold.holds.1 ∙ ap (λ v. cell_in y v) hold.holds.2 in
    let rest = flat_map (λ z. cell_found z (resolve t z)) ys in
    subst (λ cs. (k : ℕ) × (found_in (cs ++ rest) x ≡ Some k)) (sym is)
    (found_one y hold.cell rest x (is_among x ys) among (λ in_ys. found_all owners seats s t stand ys seen x in_ys))

-- ---- closures

pub all_push : {A C : Type 0} (R : A → C → Type 0) (xs : List A) (ys : List C) (x : A) (y : C) → All R xs ys → R x y → All R (xs ++ x ∷ []) (ys ++ y ∷ [])
all_push R [] [] x y rs r = (r, tt)
all_push R [] (z ∷ ys) x y rs r = absurd rs
all_push R (z ∷ xs) [] x y rs r = absurd rs
all_push R (z ∷ xs) (w ∷ ys) x y (q, rs) r = (q, all_push R xs ys x y rs r)

pub all_length : {A C : Type 0} (R : A → C → Type 0) (xs : List A) (ys : List C) → All R xs ys → length ys ≡ length xs
all_length R [] [] rs = refl
all_length R [] (z ∷ ys) rs = absurd rs
all_length R (z ∷ xs) [] rs = absurd rs
all_length R (z ∷ xs) (w ∷ ys) (q, rs) = ap (λ n. suc n) (all_length R xs ys rs)

owns_kept : (k : CoreKind) (a b : Own) → Owns a b → Owns (kept_by k a) (kept_by k b)
owns_kept kind.Arrow a b x = x
owns_kept k a b x = record { this_record = refl; callee = refl; target = refl; home = refl; passed = refl }

-- ---- the names whose cells are kept

or_right : (a b : Bool) → b ≡ true → a || b ≡ true
or_right true b is = refl
or_right false b is = is

front_in : (y : Var) (v : CoreValue Mark) (rest : List KeptCell) (x : Var) (k : ℕ) (more : Bool) → found_in (cell_in y v ++ rest) x ≡ Some k → (found_in rest x ≡ Some k → more ≡ true) → nat_eq y.0 x.0 || more ≡ true
front_in y (Extra (Cell n)) rest x k more found on = by_name (nat_eq y.0 x.0) found
  where
    by_name : (b : Bool) → (if b then Some n else found_in rest x) ≡ Some k → b || more ≡ true
    by_name true here = refl
    by_name false here = on here
front_in y v rest x k more found on = or_right (nat_eq y.0 x.0) more (on found)

front_among : (y : Var) (o : Option (Resolved Mark)) (rest : List KeptCell) (x : Var) (k : ℕ) (more : Bool) → found_in (cell_found y o ++ rest) x ≡ Some k → (found_in rest x ≡ Some k → more ≡ true) → nat_eq y.0 x.0 || more ≡ true
front_among y None rest x k more found on = or_right (nat_eq y.0 x.0) more (on found)
front_among y (Some r) rest x k more found on = front_in y r.binding.value rest x k more found on

pub kept_among : (t : CoreState) (ys : List Var) (x : Var) (k : ℕ) → found_in (flat_map (λ y. cell_found y (resolve t y)) ys) x ≡ Some k → is_among x ys ≡ true
kept_among t [] x k found = cc
kept_among t (y ∷ ys) x k found =
    front_among y (resolve t y) (flat_map (λ z. cell_found z (resolve t z)) ys) x k (is_among x ys) found (λ here. kept_among t ys x k here)

module _ (owners : List ℕ) (seats : Seats) (f : FunctionId) (function : CoreFunction) (kept : List Var) (others : KeepsOthers owners f function kept) where
  abbrev R : Config → Config → Type 0
  R = Related owners seats

  abbrev A : CoreNext → CoreNext → Type 0
  A = Alike R

  abbrev g : CoreFunction
  g = function_flat owners kept function

  abbrev SeenAll : CoreState → Type 0
  SeenAll s = AllSeen owners seats s kept × KeepsAll seats s.context.environment f kept

  closures_of : (s t : CoreState) → Stand owners seats s t → SeenAll s → Closures owners seats (closure_of f function s) (closure_of f g t)
  closures_of s t stand seen =
      let own : Owns (kept_by function.kind s.context.own) (kept_by function.kind t.context.own) = owns_kept function.kind s.context.own t.context.own stand.own in
      record {
        function = refl;
        environment = stand.environment;
        below = stand.below;
        own = record { this_record = own.this_record; callee = own.callee; target = own.target; home = own.home; passed = own.passed };
        cells = kept_all owners seats s t stand kept seen.0;
        uncelled = ap (λ cs. flat_map (λ x. cell_found x (resolve s x)) cs) others.0;
        foreign = λ x k found. others.1 x (kept_among t kept x k found);
        whole = λ x along. found_all owners seats s t stand kept seen.0 x (seen.1 x along);
      }

  stand_closed : (s t : CoreState) (h : Heap) → Stand owners seats s t → SeenAll s → Stand owners seats (with_closure (closure_of f function s) (with_heap h s)) (with_closure (closure_of f g t) (with_heap h t))
  stand_closed s t h x seen = record {
    states = record {
      heap = refl;
      memory = x.states.memory;
      closures = all_push (Closures owners seats) s.closures t.closures (closure_of f function s) (closure_of f g t) x.states.closures (closures_of s t x seen);
      callers = x.states.callers;
      ahead = x.states.ahead;
      this_values = x.states.this_values;
      generators = x.states.generators;
      namespaces = x.states.namespaces;
      templates = x.states.templates;
      statics = x.states.statics;
    };
    environment = x.environment;
    below = x.below;
    receiver = x.receiver;
    site = x.site;
    own = x.own;
  }

  -- what the target does with its heap and the number of its closures
  abbrev made_with : CoreKind → Along → Heap → ℕ → CoreNext
  made_with k q h n = goes (Has (User (value.Object (next_id h)))) q.links (with_closure (closure_of f g q.state) (with_heap (function_heap k h n function.length) q.state))

  made_alike : (k : CoreKind) (p q : Along) → B owners seats p q → SeenAll p.state
      → A (goes (Has (User (value.Object (next_id p.state.heap)))) p.links (with_closure (closure_of f function p.state) (with_heap (function_heap k p.state.heap (length p.state.closures) function.length) p.state)))
      (made_with k q q.state.heap (length q.state.closures))
  made_alike k p q (stand, cells, is) seen =
      let s : CoreState = p.state in
      let h : Heap = function_heap k s.heap (length s.closures) function.length in
      let first : CoreNext = goes (Has (User (value.Object (next_id s.heap)))) p.links (with_closure (closure_of f function s) (with_heap h s)) in
      let here : A first (made_with k q s.heap (length s.closures)) = (
        _,
        refl,
        subst (λ ls. R (with_control (Go (Has (User (value.Object (next_id s.heap)))) p.links) (with_closure (closure_of f function s) (with_heap h s)))
            (with_control (Go (Has (User (value.Object (next_id s.heap)))) ls) (with_closure (closure_of f g q.state) (with_heap h q.state)))) (sym is)
            (at_links p.links same_current (stand_closed s q.state h stand seen) cells),
      ) in
      subst (λ heap. A first (made_with k q heap (length q.state.closures))) (sym stand.states.heap)
      (subst (λ n. A first (made_with k q s.heap n)) (sym (all_length (Closures owners seats) s.closures q.state.closures stand.states.closures)) here)

  closure_alike : (k : CoreKind) (p q : Along) → B owners seats p q → SeenAll p.state → A (has_given p.links (closure_by f function p.state k)) (has_given q.links (closure_by f g q.state k))
  closure_alike (kind.Class derived) p q (stand, cells, is) seen =
      (_, refl, subst (λ ls. R (with_control (Go (Has (Extra (Unmade f))) p.links) p.state) (with_control (Go (Has (Extra (Unmade f))) ls) q.state)) (sym is) (at_links p.links same_current stand cells))
  closure_alike kind.Plain p q b seen = made_alike function.kind p q b seen
  closure_alike kind.Arrow p q b seen = made_alike function.kind p q b seen
  closure_alike kind.Method p q b seen = made_alike function.kind p q b seen
  closure_alike kind.Accessor p q b seen = made_alike function.kind p q b seen
  closure_alike kind.Generator p q b seen = made_alike function.kind p q b seen

  -- ---- the head

  begin_is : (core : Core) (x : CoreExpr) (s : CoreState) → (out-CoreExpr x).head ≡ head.Function f → function_at core f ≡ Some function
      → core_step core (with_control (Begin x) s) ≡ has_given (out-CoreExpr x).links (closure_by f function s function.kind)
  unfolding step begin_head
  begin_is core x s is there =
      ap (λ h. begin_head (rows core) core h (out-CoreExpr x).links s) is
      ∙ ap (λ o. with_option o s (λ z. has_given (out-CoreExpr x).links (closure_by f z s z.kind))) there

  flat_head : (core2 : Core) (site : Option Site) (h : CoreHead) (ls : List CoreLink) (t : CoreState) → h ≡ head.Function f → function_at core2 f ≡ Some g
      → core_step core2 (with_control (Begin (expression site (begun_head h) (begun_links owners h ++ ls))) t) ≡ has_given ls (closure_by f g t g.kind)
  unfolding step begin_head begun_head begun_links
  flat_head core2 site h ls t is there =
      ap (λ y. begin_head (rows core2) core2 y.head y.links t) (out-roll-CoreExpr (record { site = site; head = begun_head h; links = begun_links owners h ++ ls }))
      ∙ ap (λ z. begin_head (rows core2) core2 (begun_head z) (begun_links owners z ++ ls) t) is
      ∙ ap (λ o. with_option o t (λ z. has_given ls (closure_by f z t z.kind))) there

pub closures_made : ClosuresAreMadeAlike
closures_made core core2 owners seats x f function kept s t is there there2 others seen all stand r held =
    let y = out-CoreExpr x in
    let o = opened owners (cell_along seats s.context.environment) y.links in
    let u : CoreState = with_more_frames o.frames t in
    let p : Along = record { links = y.links; state = s } in
    let q : Along = record { links = o.links; state = u } in
    let b : B owners seats p q = (stand_frames owners seats s t o.frames stand, (t.context.frames, r, refl), refl) in
    let g2 = function_flat owners kept function in
    let first = begin_is owners seats f function kept others core x s is there in
    let second = flat_head owners seats f function kept others core2 y.site y.head o.links u is there2 in
    let alike : Alike (Related owners seats) (core_step core (with_control (Begin x) s)) (core_step core2 (with_control (Begin (flat_begun owners x o.links)) u)) =
    subst (λ n. Alike (Related owners seats) n (core_step core2 (with_control (Begin (flat_begun owners x o.links)) u))) (sym first)
    (subst (λ n. Alike (Related owners seats) (has_given y.links (closure_by f function s function.kind)) n) (sym second) (closure_alike owners seats f function kept others function.kind p q b (seen, all))) in
    answered (Related owners seats) core2 (core_step core (with_control (Begin x) s)) (with_control (Begin (expr_flat owners x)) t) (with_control (Begin (flat_begun owners x o.links)) u) (opening_steps owners y.links)
    (begins core2 owners (cell_along seats s.context.environment) x t held) alike
