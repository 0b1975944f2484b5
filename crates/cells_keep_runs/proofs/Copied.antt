-- Copies begin alike.
use Rattle.std.proofs.Common.{◌≡◌, ℕ, suc, ◌+◌, ◌<◌, Bool, true, false, ◌||◌, cond, List, [], ◌∷◌, ◌++◌, Option, None, Some, length, nat_eq, slice_get, refl, sym, ap, arith, subst, ◌∙◌, inl, inr}
use Rattle.std.specs.Prelude.{if◌then◌else◌}
use Rattle.std.proofs.lemmas.Bool.{eqb-true}
use Rattle.std.proofs.lemmas.List.{length_push}
use Rattle.runs.specs.Run.{Goes}
use Rattle.runs.specs.Simulation.{Reaches}
use Rattle.es_outside.specs.declared.events.Site.{Site}
use Rattle.es_value.specs.declared.value.Value.{Value}
use Rattle.es_value.specs.declared.value.Value.TheVariants as value
use Rattle.core_ast.specs.declared.parts.Constant.TheVariants.{Undefined}
use Rattle.core_ast.specs.declared.parts.CoreHead.{CoreHead}
use Rattle.core_ast.specs.declared.parts.CoreHead.TheVariants as head
use Rattle.core_ast.specs.declared.parts.Var.{Var}
use Rattle.core_ast.specs.declared.tree.CoreExpr.{CoreExpr, out-CoreExpr}
use Rattle.core_ast.specs.declared.tree.CoreLink.{CoreLink, out-CoreLink}
use Rattle.core_ast.specs.declared.whole.Core.{Core}
use Rattle.core_ast.specs.Made.{expression}
use Rattle.core_meaning.specs.Cells.{copied}
use Rattle.core_meaning.specs.Expressions.{begin_head}
use Rattle.core_meaning.specs.Marks.{Cell, CoreState, CoreWork, Mark, value_in, value_or_empty}
use Rattle.core_meaning.specs.Modules.{core_step, rows}
use Rattle.core_meaning.specs.Names.{binding_in, record_at}
use Rattle.core_meaning.specs.Rows.{with_control}
use Rattle.core_meaning.specs.State.{Begin, Binding, CoreValue, Environment, EnvironmentRecord, Extra, Frame, Go, Has, User}
use Rattle.core_meaning.specs.Step.{step}
use Rattle.pass_rules.specs.Cells.{is_among, is_shared}
use Rattle.pass_rules.specs.Scopes.{copies, expr_flat}
use Rattle.cells_keep_runs.specs.Begun.{Matched}
use Rattle.cells_keep_runs.specs.Copied.{AllBound, CopiesBeginAlike, Copyable, NoWrites, content_in, content_of, copied_seats, copy_renewals}
use Rattle.cells_keep_runs.specs.Memory.{HasOpen, Memory, Names, OpenAt, Seat, Seats, cell_along, image_in, images, in_cell, in_home, in_image, is_scoped, with_image}
use Rattle.cells_keep_runs.specs.Opened.{AllApart, AllHold, AllHoldValues, Apart, HoldsValue, Opened, WriteHolds, all_copied, begun_head, begun_links, copy_given, copy_steps, flat_begun, link_in, opened, opened_by, opening_steps, with_more_frames, write_in}
use Rattle.cells_keep_runs.specs.Places.{Below, written}
use Rattle.cells_keep_runs.specs.Related.{Currents, Drops, Frames, IsScope, Related, Stand, a_scope, at_links, behind_copy, loop_update, rest, same_current}
use Rattle.cells_keep_runs.specs.Renewed.{AllDiffer, AllNamed, Among, ApartFrom, Gets, Held, NewScope, OwnCell, Renewal, all_renewed, gets_cell, renewed_by, scope_seat, stays}
use Rattle.cells_keep_runs.specs.Ways.{with_new_cell, with_own_cell}
use Rattle.cells_keep_runs.proofs.Entered.{found_written, held_of, initialized_is, open_at, with_held}
use Rattle.cells_keep_runs.proofs.Inside.{AtScope, at_scope, drops_then, in_body, in_update}
use Rattle.cells_keep_runs.proofs.Grown.{below_cons, below_more, below_rest, environments_stay, frames_stay, states_stay, tail_below, tail_stays}
use Rattle.cells_keep_runs.proofs.Opened.{begins, copies_made}
use Rattle.cells_keep_runs.proofs.Renewed.{got_last, scopes_remembered}
use Rattle.cells_keep_runs.proofs.Seen.{FoundAt, FoundIn, found_at, further, holds_of, resolved_on}
use Rattle.cells_keep_runs.proofs.Ways.{begin_at}
use Rattle.cells_keep_runs.proofs.Writes.{differ, not_none, one_value, same_var}

abbrev Records : Type 0
Records = List (EnvironmentRecord Mark)

abbrev Contents : Type 0
Contents = Var → Option Value

-- ---- the renewals of a copy

apart_by : (owners : List ℕ) (content : Contents) (z x : Var) (xs : List Var) (b : Bool) → (x.0 ≡ z.0 → ⊥) → ApartFrom z (copy_renewals owners content xs)
    → ApartFrom z (cond b (OwnCell x (content x) ∷ copy_renewals owners content xs) (copy_renewals owners content xs))
apart_by owners content z x xs true ne others = (ne, others)
apart_by owners content z x xs false ne others = others

apart_all : (owners : List ℕ) (content : Contents) (z : Var) (xs : List Var) → Apart z xs → ApartFrom z (copy_renewals owners content xs)
apart_all owners content z [] apart = tt
apart_all owners content z (x ∷ xs) (ne, apart) = apart_by owners content z x xs (is_shared owners x) ne (apart_all owners content z xs apart)

differ_by : (owners : List ℕ) (content : Contents) (x : Var) (xs : List Var) (b : Bool) → ApartFrom x (copy_renewals owners content xs) → AllDiffer (copy_renewals owners content xs)
    → AllDiffer (cond b (OwnCell x (content x) ∷ copy_renewals owners content xs) (copy_renewals owners content xs))
differ_by owners content x xs true apart others = (apart, others)
differ_by owners content x xs false apart others = others

all_differ : (owners : List ℕ) (content : Contents) (xs : List Var) → AllApart xs → AllDiffer (copy_renewals owners content xs)
all_differ owners content [] apart = tt
all_differ owners content (x ∷ xs) (one, apart) = differ_by owners content x xs (is_shared owners x) (apart_all owners content x xs one) (all_differ owners content xs apart)

-- an unshared name isn't renewed
unshared_by : (owners : List ℕ) (content : Contents) (z x : Var) (xs : List Var) (b : Bool) → is_shared owners x ≡ b → is_shared owners z ≡ false → ApartFrom z (copy_renewals owners content xs)
    → ApartFrom z (cond b (OwnCell x (content x) ∷ copy_renewals owners content xs) (copy_renewals owners content xs))
unshared_by owners content z x xs true is unshared others = (λ p. differ (is_shared owners x) is (ap (λ y. is_shared owners y) (same_var x z p) ∙ unshared), others)
unshared_by owners content z x xs false is unshared others = others

unshared_apart : (owners : List ℕ) (content : Contents) (z : Var) (xs : List Var) → is_shared owners z ≡ false → ApartFrom z (copy_renewals owners content xs)
unshared_apart owners content z [] unshared = tt
unshared_apart owners content z (x ∷ xs) unshared = unshared_by owners content z x xs (is_shared owners x) refl unshared (unshared_apart owners content z xs unshared)

-- a shared name that is listed is
later : (owners : List ℕ) (content : Contents) (r : Renewal) (x : Var) (xs : List Var) (b : Bool) → Among r (copy_renewals owners content xs)
    → Among r (cond b (OwnCell x (content x) ∷ copy_renewals owners content xs) (copy_renewals owners content xs))
later owners content r x xs true among = inr among
later owners content r x xs false among = among

first_here : (owners : List ℕ) (content : Contents) (z x : Var) (xs : List Var) (b : Bool) → is_shared owners x ≡ b → x ≡ z → is_shared owners z ≡ true
    → Among (OwnCell z (content z)) (cond b (OwnCell x (content x) ∷ copy_renewals owners content xs) (copy_renewals owners content xs))
first_here owners content z x xs true is same shared = inl (ap (λ y. OwnCell y (content y)) same)
first_here owners content z x xs false is same shared = absurd (differ (is_shared owners z) shared (ap (λ y. is_shared owners y) (sym same) ∙ is))

listed_by : (owners : List ℕ) (content : Contents) (z x : Var) (xs : List Var) (b : Bool) → nat_eq x.0 z.0 ≡ b → is_shared owners z ≡ true → (if b then true else is_among z xs) ≡ true
    → (is_among z xs ≡ true → Among (OwnCell z (content z)) (copy_renewals owners content xs)) → Among (OwnCell z (content z)) (copy_renewals owners content (x ∷ xs))
listed_by owners content z x xs true is shared listed others = first_here owners content z x xs (is_shared owners x) refl (same_var x z (eqb-true x.0 z.0 is)) shared
listed_by owners content z x xs false is shared listed others = later owners content (OwnCell z (content z)) x xs (is_shared owners x) (others listed)

or_if : (a b : Bool) → a || b ≡ (if a then true else b)
or_if true b = refl
or_if false b = refl

listed_among : (owners : List ℕ) (content : Contents) (z : Var) (xs : List Var) → is_shared owners z ≡ true → is_among z xs ≡ true → Among (OwnCell z (content z)) (copy_renewals owners content xs)
listed_among owners content z [] shared listed = absurd (differ false listed refl)
listed_among owners content z (x ∷ xs) shared listed =
    listed_by owners content z x xs (nat_eq x.0 z.0) refl shared (sym (or_if (nat_eq x.0 z.0) (is_among z xs)) ∙ listed) (λ on. listed_among owners content z xs shared on)

-- ---- the target's copies are these renewals

abbrev AllFoundHere : List ℕ → Records → Environment → ℕ → List Var → Type 0
AllFoundHere owners records e h [] = Unit {0}
AllFoundHere owners records e h (x ∷ xs) = (is_shared owners x ≡ true → FoundIn records e x h) × AllFoundHere owners records e h xs

found_on : (owners : List ℕ) (records : Records) (h : ℕ) (x : Var) (v : CoreValue Mark) (e : Environment) (xs : List Var) → AllFoundHere owners records e h xs → AllFoundHere owners (written h x v records) e h xs
found_on owners records h x v e [] f = tt
found_on owners records h x v e (y ∷ ys) (f, fs) = (λ shared. found_written records h x v e y h (f shared), found_on owners records h x v e ys fs)

module _ (core : Core) (owners : List ℕ) (content : Contents) where
  copied_by : (x : Var) (xs : List Var) (b : Bool) (h : ℕ) (m : Held) (t : CoreState) → (b ≡ true → FoundIn m.records t.context.environment x h) → AllFoundHere owners m.records t.context.environment h xs
      → ((m2 : Held) → AllFoundHere owners m2.records t.context.environment h xs → all_copied owners content xs (with_held m2 t) ≡ with_held (all_renewed h (copy_renewals owners content xs) m2) t)
      → all_copied owners content xs (cond b (with_own_cell x (content x) (with_held m t)) (with_held m t))
      ≡ with_held (all_renewed h (cond b (OwnCell x (content x) ∷ copy_renewals owners content xs) (copy_renewals owners content xs)) m) t
  copied_by x xs true h m t f fs others =
      ap (λ st. all_copied owners content xs st) (initialized_is core x (Extra (Cell (length m.cells))) (with_new_cell (content x) (with_held m t)) h (f refl))
      ∙ others (renewed_by h (OwnCell x (content x)) m) (found_on owners m.records h x (Extra (Cell (length m.cells))) t.context.environment xs fs)
  copied_by x xs false h m t f fs others = others m fs

  copied_is : (xs : List Var) (h : ℕ) (m : Held) (t : CoreState) → AllFoundHere owners m.records t.context.environment h xs → all_copied owners content xs (with_held m t) ≡ with_held (all_renewed h (copy_renewals owners content xs) m) t
  copied_is [] h m t f = refl
  copied_is (x ∷ xs) h m t (f, fs) = copied_by x xs (is_shared owners x) h m t f fs (λ m2 fs2. copied_is xs h m2 t fs2)

-- ---- what is copied

value_back : (v : Option Value) → value_in (value_or_empty v) ≡ v
value_back None = refl
value_back (Some v) = refl

open_of : (ts : Records) (h : ℕ) (x : Var) (v : CoreValue Mark) → HasOpen ts h x v → OpenAt ts h x
open_of ts h x v o = record { binding = o.binding; there = o.there; mutable = o.mutable }

module _ (owners : List ℕ) (seats : Seats) (n : ℕ) (all : List Var) (s t : CoreState) (c : Copyable owners seats s.records s.context.environment n all) (stand : Stand owners seats s t) where
  abbrev bindings : EnvironmentRecord Mark
  bindings = record_at s.records n

  abbrev content : Contents
  content = content_in bindings

  abbrev mem : Memory owners seats s.records t.records t.store.cells
  mem = stand.states.memory

  -- a shared name has a cell, and the home has it
  record SharedHere (x : Var) (b : Binding Mark) : Type 0 where
    cell : ℕ
    scoped : is_among x c.seat.scoped ≡ true
    held : slice_get t.store.cells cell ≡ Some (content x)
    value : b.value ≡ value_or_empty (content x)
    home : HasOpen t.records c.seat.home x (Extra (Cell cell))

  shared_by : (x : Var) (b : Binding Mark) → binding_in bindings x ≡ Some b → is_shared owners x ≡ true → Names owners seats t.records t.store.cells n x b → SharedHere x b
  shared_by x b bound shared (in_image here i d at image plain has same) =
      absurd (not_none here.image i image (ap (λ a. a.image) (one_value (slice_get seats n) here c.seat at c.seated) ∙ c.scope))
  shared_by x b bound shared (in_cell here k v at scoped shared2 found held is home) =
      let same : here ≡ c.seat = one_value (slice_get seats n) here c.seat at c.seated in
      let scoped2 : is_among x c.seat.scoped ≡ true = ap (λ a. is_scoped a x) (sym same) ∙ scoped in
      let content_is : content x ≡ v = ap (λ o. content_of o) bound ∙ ap (λ w. value_in w) is ∙ value_back v in
      record {
        cell = k;
        scoped = scoped2;
        held = held ∙ ap (λ w. Some w) (sym content_is);
        value = is ∙ ap (λ w. value_or_empty w) (sym content_is);
        home = subst (λ a. HasOpen t.records a.home x (Extra (Cell k))) same (home (c.newest x scoped2));
      }
  shared_by x b bound shared (in_home here at scoped unshared home) = absurd (differ (is_shared owners x) shared unshared)

  shared_here : (x : Var) (b : Binding Mark) → binding_in bindings x ≡ Some b → is_shared owners x ≡ true → SharedHere x b
  shared_here x b bound shared = shared_by x b bound shared (mem.names n x b bound)

  scoped_by : (x : Var) (b : Binding Mark) → Names owners seats t.records t.store.cells n x b → is_among x c.seat.scoped ≡ true
  scoped_by x b (in_image here i d at image plain has same) =
      absurd (not_none here.image i image (ap (λ a. a.image) (one_value (slice_get seats n) here c.seat at c.seated) ∙ c.scope))
  scoped_by x b (in_cell here k v at scoped shared found held is home) = ap (λ a. is_scoped a x) (one_value (slice_get seats n) c.seat here c.seated at) ∙ scoped
  scoped_by x b (in_home here at scoped unshared home) = ap (λ a. is_scoped a x) (one_value (slice_get seats n) c.seat here c.seated at) ∙ scoped

  gets_by : (x : Var) (b : Binding Mark) → binding_in bindings x ≡ Some b → Names owners seats t.records t.store.cells n x b → Gets owners t.records c.seat.home (copy_renewals owners content all) x b
  gets_by x b bound (in_image here i d at image plain has same) =
      absurd (not_none here.image i image (ap (λ a. a.image) (one_value (slice_get seats n) here c.seat at c.seated) ∙ c.scope))
  gets_by x b bound (in_cell here k v at scoped shared found held is home) =
      let h : SharedHere x b = shared_here x b bound shared in
      gets_cell (content x) (listed_among owners content x all shared (c.listed x h.scoped shared)) shared h.value
  gets_by x b bound (in_home here at scoped unshared home) =
      let same : here ≡ c.seat = one_value (slice_get seats n) here c.seat at c.seated in
      let scoped2 : is_among x c.seat.scoped ≡ true = ap (λ a. is_scoped a x) (sym same) ∙ scoped in
      stays (unshared_apart owners content x all unshared) unshared (subst (λ a. HasOpen t.records a.home x b.value) same (home (c.newest x scoped2)))

  named_by : (x : Var) (xs : List Var) (b : Bool) → is_shared owners x ≡ b → (is_shared owners x ≡ true → (d : Binding Mark) × (binding_in bindings x ≡ Some d))
      → AllNamed t.records c.seat.home c.seat.scoped (copy_renewals owners content xs)
      → AllNamed t.records c.seat.home c.seat.scoped (cond b (OwnCell x (content x) ∷ copy_renewals owners content xs) (copy_renewals owners content xs))
  named_by x xs true shared bound others =
      let d = bound shared in
      let h : SharedHere x d.0 = shared_here x d.0 d.1 shared in
      (h.scoped, open_of t.records c.seat.home x (Extra (Cell h.cell)) h.home, others)
  named_by x xs false shared bound others = others

  all_named : (xs : List Var) → AllBound owners bindings xs → AllNamed t.records c.seat.home c.seat.scoped (copy_renewals owners content xs)
  all_named [] bound = tt
  all_named (x ∷ xs) (b, bound) = named_by x xs (is_shared owners x) refl b (all_named xs bound)

  new_scope : NewScope owners seats s.records t.records c.seat.home c.seat.scoped bindings (copy_renewals owners content all)
  new_scope = record {
    differ = all_differ owners content all c.apart;
    named = all_named all c.bound;
    bound = λ x b bound. scoped_by x b (mem.names n x b bound);
    gets = λ x b bound. gets_by x b bound (mem.names n x b bound);
    home = mem.homes_made n c.seat c.seated;
    clear = λ m here x at image named. mem.homes_apart m n here c.seat x at c.seated image named;
    unkept = λ m k x keeps. mem.kept_apart m c.seat.home k n x c.seat keeps c.seated refl;
  }

  -- ---- what the target holds

  found_of : (x : Var) (b : Binding Mark) → binding_in bindings x ≡ Some b → is_shared owners x ≡ true → FoundIn t.records t.context.environment x c.seat.home
  found_of x b bound shared =
      let h : SharedHere x b = shared_here x b bound shared in
      subst (λ e. FoundIn t.records e x c.seat.home) (sym stand.environment) (found_at owners seats s.records t.records t.store.cells mem s.context.environment x c.seat.home (c.found x h.scoped))

  all_found : (xs : List Var) → AllBound owners bindings xs → AllFoundHere owners t.records t.context.environment c.seat.home xs
  all_found [] bound = tt
  all_found (x ∷ xs) (b, bound) = (λ shared. found_of x (b shared).0 (b shared).1 shared, all_found xs bound)

  holds_value : (x : Var) (b : Binding Mark) → binding_in bindings x ≡ Some b → is_shared owners x ≡ true → HoldsValue t x (content x)
  holds_value x b bound shared =
      let h : SharedHere x b = shared_here x b bound shared in
      let f : FoundAt t x c.seat.home = resolved_on t t.context.environment x c.seat.home refl (found_of x b bound shared) in
      record {
        cell = h.cell;
        held = holds_of t x c.seat.home h.cell f (record { binding = h.home.binding; there = h.home.there; value = h.home.value });
        there = h.held;
        is_open = open_at t x c.seat.home f (open_of t.records c.seat.home x (Extra (Cell h.cell)) h.home);
      }

  all_hold : (xs : List Var) → AllBound owners bindings xs → AllHoldValues owners t content xs
  all_hold [] bound = tt
  all_hold (x ∷ xs) (b, bound) = (λ shared. holds_value x (b shared).0 (b shared).1 shared, all_hold xs bound)

-- ---- links that write no shared name

opened_none : (cell cell2 : Var → ℕ) (w : Option Var) (l : CoreLink) (o o2 : Opened) → w ≡ None → o ≡ o2 → opened_by cell w l o ≡ opened_by cell2 w l o2
opened_none cell cell2 None l o o2 is same = ap (λ p. opened_by cell None l p) same
opened_none cell cell2 (Some x) l o o2 is same = cc

same_opened : (owners : List ℕ) (cell cell2 : Var → ℕ) (ls : List CoreLink) → NoWrites owners ls → opened owners cell ls ≡ opened owners cell2 ls
same_opened owners cell cell2 [] h = refl
same_opened owners cell cell2 (l ∷ ls) (is, h) = opened_none cell cell2 (write_in owners (out-CoreLink l)) (link_in owners (out-CoreLink l)) (opened owners cell ls) (opened owners cell2 ls) is (same_opened owners cell cell2 ls h)

no_frames_by : (cell : Var → ℕ) (w : Option Var) (l : CoreLink) (o : Opened) → w ≡ None → o.frames ≡ [] → (opened_by cell w l o).frames ≡ []
no_frames_by cell None l o is h = h
no_frames_by cell (Some x) l o is h = cc

no_frames : (owners : List ℕ) (cell : Var → ℕ) (ls : List CoreLink) → NoWrites owners ls → (opened owners cell ls).frames ≡ []
no_frames owners cell [] h = refl
no_frames owners cell (l ∷ ls) (is, h) = no_frames_by cell (write_in owners (out-CoreLink l)) (link_in owners (out-CoreLink l)) (opened owners cell ls) is (no_frames owners cell ls h)

holds_none : (owners : List ℕ) (cell : Var → ℕ) (ls : List CoreLink) (st : CoreState) → NoWrites owners ls → AllHold st owners cell ls
holds_none owners cell [] st h = tt
holds_none owners cell (l ∷ ls) st (is, h) = (subst (λ w. WriteHolds st cell w) (sym is) tt, holds_none owners cell ls st h)

-- what goes on is undefined, or a cell
one_given : (fs : List (Frame Mark CoreWork)) (links : List CoreLink) (st : CoreState) (w : CoreValue Mark) (b : Bool) → Drops fs links → Currents fs links (Has (User value.Undefined)) (Has w)
    → Currents fs links (Has (User value.Undefined)) (Has (cond b (Extra (Cell (length st.store.cells))) w))
one_given fs links st w true drops c = behind_copy drops
one_given fs links st w false drops c = c

given_by : (owners : List ℕ) (fs : List (Frame Mark CoreWork)) (links : List CoreLink) (content : Contents) (xs : List Var) (st : CoreState) (w : CoreValue Mark) → Drops fs links
    → Currents fs links (Has (User value.Undefined)) (Has w) → Currents fs links (Has (User value.Undefined)) (Has (copy_given owners content xs st w))
given_by owners fs links contents [] st w drops c = c
given_by owners fs links contents (x ∷ xs) st w drops c =
    given_by owners fs links contents xs (cond (is_shared owners x) (with_own_cell x (contents x) st) st) (cond (is_shared owners x) (Extra (Cell (length st.store.cells))) w) drops
    (one_given fs links st w (is_shared owners x) drops c)

-- ---- frames along the new record

module _ (owners : List ℕ) (seats more : Seats) (n : ℕ) (o : Environment) (below : Below (length seats) o) (is_scope : IsScope (seats ++ more) n) where
  over : (fs gs : List (Frame Mark CoreWork)) → AtScope owners seats o fs gs → Frames owners (seats ++ more) (n ∷ o) fs gs
  over fs gs (in_body {e = e} {fs = fs2} {fs2 = fs3} {gs = gs2} {ys = ys} xs xs2 tail r) =
      rest xs (a_scope xs2 is_scope (tail_stays owners seats more o e fs2 fs3 ys below tail))
      (frames_stay owners seats more e fs3 gs2 (tail_below owners seats more (length seats) o e fs2 fs3 ys tail below) r)
  over fs gs (in_update {fs = fs2} {gs = gs2} l r) = loop_update l (over fs2 gs2 r)

-- ---- the copy

flat_is : (owners : List ℕ) (site : Option Site) (h : CoreHead) (xs : List Var) (ls : List CoreLink) → h ≡ head.Copy xs → expression site (begun_head h) (begun_links owners h ++ ls) ≡ expression site (head.Constant Undefined) (copies owners xs ++ ls)
unfolding begun_head begun_links
flat_is owners site h xs ls is = ap (λ z. expression site (begun_head z) (begun_links owners z ++ ls)) is

begins_undefined : (core : Core) (site : Option Site) (ls : List CoreLink) (st : CoreState) → core_step core (with_control (Begin (expression site (head.Constant Undefined) ls)) st) ≡ Goes (with_control (Go (Has (User value.Undefined)) ls) st)
unfolding begin_head
begins_undefined core site ls st = begin_at core site (head.Constant Undefined) ls st

pub copies_step : (core : Core) (x : CoreExpr) (xs : List Var) (s : CoreState) → (out-CoreExpr x).head ≡ head.Copy xs → core_step core (with_control (Begin x) s) ≡ Goes (with_control (Go (Has (User value.Undefined)) (out-CoreExpr x).links) (copied s))
unfolding step begin_head
copies_step core x xs s is = ap (λ h. begin_head (rows core) core h (out-CoreExpr x).links s) is

pub copied_at : (s : CoreState) (n : ℕ) (o : Environment) → s.context.environment ≡ n ∷ o
    → copied s ≡ record s { records = s.records ++ record_at s.records n ∷ []; context = record s.context { environment = length s.records ∷ o } }
copied_at s n o is = ap (λ e. copied (record s { context = record s.context { environment = e } })) is

module _ (core2 : Core) (owners : List ℕ) (seats : Seats) (x : CoreExpr) (xs : List Var) (n : ℕ) (o : Environment) (s t : CoreState)
    (head_is : (out-CoreExpr x).head ≡ head.Copy xs) (no_writes : NoWrites owners (out-CoreExpr x).links) (env : s.context.environment ≡ n ∷ o)
    (c : Copyable owners seats s.records s.context.environment n xs) (stand : Stand owners seats s t) (at : AtScope owners seats o s.context.frames t.context.frames) (drops : Drops s.context.frames (out-CoreExpr x).links) where
  abbrev copies_of : Contents
  copies_of = content_in (record_at s.records n)

  abbrev seats2 : Seats
  seats2 = copied_seats owners seats c.seat (record_at s.records n) xs (length t.store.cells)

  abbrev seat2 : Seat
  seat2 = scope_seat c.seat.home c.seat.scoped (length t.store.cells) (copy_renewals owners copies_of xs)

  abbrev source : CoreState
  source = record s { records = s.records ++ record_at s.records n ∷ []; context = record s.context { environment = length s.records ∷ o } }

  abbrev after : CoreState
  after = with_held (all_renewed c.seat.home (copy_renewals owners copies_of xs) (held_of t)) t

  abbrev links : List CoreLink
  links = (out-CoreExpr x).links

  below_o : Below (length seats) o
  below_o = below_rest (length seats) n o (subst (λ e. Below (length seats) e) env stand.below)

  last_seat : slice_get seats2 (length s.records) ≡ Some seat2
  last_seat = ap (λ i. slice_get seats2 i) (sym stand.states.memory.seated) ∙ got_last seats seat2

  is_scope : IsScope seats2 (length s.records)
  is_scope = (seat2, last_seat, refl)

  same_images : images seats (n ∷ o) ≡ images seats2 (length s.records ∷ o)
  same_images =
      ap (λ a. with_image (image_in a) (images seats o)) c.seated ∙ ap (λ i. with_image i (images seats o)) c.scope
      ∙ sym (environments_stay seats (seat2 ∷ []) o below_o) ∙ sym (ap (λ a. with_image (image_in a) (images seats2 o)) last_seat)

  new_below : Below (length seats2) (length s.records ∷ o)
  new_below =
      let p : length seats2 ≡ length seats + 1 = length_push seats seat2 in
      let q : length seats ≡ length s.records = stand.states.memory.seated in
      let l : length s.records < length seats2 = omega arith in
      below_cons (length seats2) (length s.records) o l (below_more (length seats) (length seats2) o (omega arith) below_o)

  stand_after : Stand owners seats2 source after
  stand_after = record {
    states = states_stay owners seats (seat2 ∷ []) s t source.context t.context source.records after.records after.store.cells stand.states
        (scopes_remembered owners seats s.records t.records t.store.cells c.seat.home c.seat.scoped (record_at s.records n) (copy_renewals owners copies_of xs) stand.states.memory
        (new_scope owners seats n xs s t c stand));
    environment = stand.environment ∙ ap (λ e. images seats e) env ∙ same_images;
    below = new_below;
    receiver = stand.receiver;
    site = stand.site;
    own = stand.own;
  }

  abbrev cell_of : Var → ℕ
  cell_of = cell_along seats s.context.environment

  abbrev cell2_of : Var → ℕ
  cell2_of = cell_along seats2 (length s.records ∷ o)

  abbrev given : CoreValue Mark
  given = copy_given owners copies_of xs t (User value.Undefined)

  -- the target comes to its links
  way : Reaches (core_step core2) (suc (opening_steps owners links + (copy_steps owners xs))) (with_control (Begin (expr_flat owners x)) t) (with_control (Go (Has given) (opened owners cell_of links).links) after)
  way =
      let z = out-CoreExpr x in
      let os = opened owners cell_of links in
      let u : CoreState = with_more_frames os.frames t in
      let same : u ≡ t = ap (λ fs. with_more_frames fs t) (no_frames owners cell_of links no_writes) in
      let b = begins core2 owners cell_of x t (holds_none owners cell_of links t no_writes) in
      let b2 : Reaches (core_step core2) (opening_steps owners links) (with_control (Begin (expr_flat owners x)) t) (with_control (Begin (flat_begun owners x os.links)) t) =
      subst (λ v. Reaches (core_step core2) (opening_steps owners links) (with_control (Begin (expr_flat owners x)) t) (with_control (Begin (flat_begun owners x os.links)) v)) same b in
      let m = copies_made core2 owners copies_of xs (User value.Undefined) os.links t c.apart (all_hold owners seats n xs s t c stand xs c.bound) in
      let made : all_copied owners copies_of xs t ≡ after = copied_is core2 owners copies_of xs c.seat.home (held_of t) t (all_found owners seats n xs s t c stand xs c.bound) in
      let m2 : Reaches (core_step core2) (copy_steps owners xs) (with_control (Go (Has (User value.Undefined)) (copies owners xs ++ os.links)) t) (with_control (Go (Has given) os.links) after) =
      subst (λ v. Reaches (core_step core2) (copy_steps owners xs) (with_control (Go (Has (User value.Undefined)) (copies owners xs ++ os.links)) t) (with_control (Go (Has given) os.links) v)) made m in
      let m3 : Reaches (core_step core2) (suc (copy_steps owners xs)) (with_control (Begin (expression z.site (head.Constant Undefined) (copies owners xs ++ os.links))) t) (with_control (Go (Has given) os.links) after) =
      (_, begins_undefined core2 z.site (copies owners xs ++ os.links) t, m2) in
      let m4 : Reaches (core_step core2) (suc (copy_steps owners xs)) (with_control (Begin (flat_begun owners x os.links)) t) (with_control (Go (Has given) os.links) after) =
      subst (λ e. Reaches (core_step core2) (suc (copy_steps owners xs)) (with_control (Begin e) t) (with_control (Go (Has given) os.links) after)) (sym (flat_is owners z.site z.head xs os.links head_is)) m3 in
      further core2 (opening_steps owners links) (copy_steps owners xs) (with_control (Begin (expr_flat owners x)) t) (with_control (Begin (flat_begun owners x os.links)) t) (with_control (Go (Has given) os.links) after) b2 m4

  related : Related owners seats2 (with_control (Go (Has (User value.Undefined)) links) source) (with_control (Go (Has given) (opened owners cell_of links).links) after)
  related =
      let same = same_opened owners cell_of cell2_of links no_writes in
      let frames : Frames owners seats2 (length s.records ∷ o) s.context.frames t.context.frames = over owners seats (seat2 ∷ []) (length s.records) o below_o is_scope s.context.frames t.context.frames at in
      subst (λ os. Related owners seats2 (with_control (Go (Has (User value.Undefined)) links) source) (with_control (Go (Has given) os.links) after)) (sym same)
      (at_links links (given_by owners s.context.frames links copies_of xs t (User value.Undefined) drops same_current) stand_after
      (t.context.frames, frames, ap (λ fs. fs ++ t.context.frames) (sym (no_frames owners cell2_of links no_writes))))

pub copies_begin : CopiesBeginAlike
copies_begin core core2 owners seats x xs n o s t head_is no_writes goes env c inside stand r =
    let seats3 = copied_seats owners seats c.seat (record_at s.records n) xs (length t.store.cells) in
    let at : AtScope owners seats o s.context.frames t.context.frames = at_scope owners seats n o (c.seat, c.seated, c.scope) s.context.environment s.context.frames t.context.frames inside env r in
    let drops : Drops s.context.frames (out-CoreExpr x).links = drops_then s.context.frames (out-CoreExpr x).links inside goes in
    let source_is : core_step core (with_control (Begin x) s) ≡ Goes (with_control (Go (Has (User value.Undefined)) (out-CoreExpr x).links) (source core2 owners seats x xs n o s t head_is no_writes env c stand at drops)) =
    copies_step core x xs s head_is ∙ ap (λ u. Goes (with_control (Go (Has (User value.Undefined)) (out-CoreExpr x).links) u)) (copied_at s n o env) in
    subst (λ m. Matched (Related owners seats3) core2 m (with_control (Begin (expr_flat owners x)) t)) (sym source_is)
    (_, _, way core2 owners seats x xs n o s t head_is no_writes env c stand at drops, related core2 owners seats x xs n o s t head_is no_writes env c stand at drops)
