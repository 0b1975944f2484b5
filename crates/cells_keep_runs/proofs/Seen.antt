-- Names that both machines find are read and written alike.
use Rattle.std.proofs.Common.{◌≡◌, ℕ, suc, ◌+◌, Bool, true, false, cond, List, [], ◌∷◌, ◌++◌, Option, None, Some, slice_get, refl, sym, ap, arith, subst, ◌∙◌, inl, inr}
use Rattle.std.specs.Prelude.{if◌then◌else◌, is_some, slice_set}
use Rattle.runs.specs.Run.{Goes}
use Rattle.runs.specs.Simulation.{Reaches}
use Rattle.es_outside.specs.declared.events.Site.{Site}
use Rattle.es_value.specs.declared.value.Value.{Value}
use Rattle.core_ast.specs.declared.parts.CoreHead.{CoreHead}
use Rattle.core_ast.specs.declared.parts.CoreHead.TheVariants as head
use Rattle.core_ast.specs.declared.parts.CoreOp.TheVariants as op
use Rattle.core_ast.specs.declared.parts.Var.{Var}
use Rattle.core_ast.specs.declared.tree.CoreCase.{CoreCase}
use Rattle.core_ast.specs.declared.tree.CoreExpr.{CoreExpr, out-CoreExpr}
use Rattle.core_ast.specs.declared.tree.CoreLink.{CoreLink, out-CoreLink}
use Rattle.core_ast.specs.declared.tree.CoreLink.TheOpen as layer
use Rattle.core_ast.specs.declared.tree.CoreLink.TheOpen.{CoreLink-F}
use Rattle.core_ast.specs.declared.tree.CoreLink.TheVariants as link
use Rattle.core_ast.specs.declared.tree.CoreStat.{CoreStat}
use Rattle.core_ast.specs.declared.whole.Core.{Core}
use Rattle.core_ast.specs.Made.{act, expression}
use Rattle.core_meaning.specs.Cells.{with_cell}
use Rattle.core_meaning.specs.Expressions.{begin_head}
use Rattle.core_meaning.specs.Marks.{Cell, CoreState, CoreWork, Mark, value_in, value_or_empty}
use Rattle.core_meaning.specs.Modules.{core_step, rows}
use Rattle.core_meaning.specs.Names.{Resolved, binding_in, if_mutable, initialize_found, initialized, or_outer, read_found, record_at, resolve, resolved, stored_at, write, write_found}
use Rattle.core_meaning.specs.Rows.{controls, pushed, with_control, with_frames}
use Rattle.core_meaning.specs.State.{Begin, Binding, CoreValue, Environment, EnvironmentRecord, Extra, Frame, Gives, Go, Hand, Has, Part}
use Rattle.core_meaning.specs.Step.{act_by, go, go_value, step}
use Rattle.pass_rules.specs.Cells.{is_among, is_shared}
use Rattle.pass_rules.specs.Scopes.{expr_flat}
use Rattle.cells_keep_runs.specs.Alike.{Config}
use Rattle.cells_keep_runs.specs.Begun.{Matched}
use Rattle.cells_keep_runs.specs.Memory.{CellAt, HasOpen, Memory, IsNewest, Names, Seat, Seats, cell_along, cell_found, image_in, images, in_cell, in_home, in_image, is_scoped, with_image}
use Rattle.cells_keep_runs.specs.Opened.{AllHold, Opened, begun_head, begun_links, flat_begun, if_shared, link_in, opened, opened_by, opening_steps, with_more_frames, write_in, written_by}
use Rattle.cells_keep_runs.specs.Places.{written}
use Rattle.cells_keep_runs.specs.Related.{Frames, Related, Stand, States, at_links, same_current}
use Rattle.cells_keep_runs.specs.Seen.{Assigns, IsWrite, NamesAreRead, NamesAreWritten, Sees, image_with, or_image, sees_home, sees_kept, sees_plain, target_at}
use Rattle.cells_keep_runs.specs.Ways.{Holds, writing}
use Rattle.cells_keep_runs.specs.Writes.{CellOf, IsHeld, PlaceOf, at_home, at_image}
use Rattle.cells_keep_runs.proofs.Carried.{stand_frames}
use Rattle.cells_keep_runs.proofs.Opened.{begins}
use Rattle.cells_keep_runs.proofs.Ways.{begin_read, fill_cell, go_end, joined, read_cell}
use Rattle.cells_keep_runs.proofs.Writes.{differ, one_value, shared_written, unshared_written}

abbrev Records : Type 0
Records = List (EnvironmentRecord Mark)

-- ---- where a name is found

-- the target finds the name in this record
pub record FoundIn (records : Records) (e : Environment) (x : Var) (m : ℕ) : Type 0 where
  pub found : Resolved Mark
  pub is : resolved records e x ≡ Some found
  pub at : found.at ≡ m

bound_by : (rs : Records) (n : ℕ) (x : Var) (o : Option (Binding Mark)) (outer : Option (Resolved Mark)) (r : Resolved Mark) → binding_in (record_at rs n) x ≡ o → or_outer n o outer ≡ Some r
    → (outer ≡ Some r → binding_in (record_at rs r.at) x ≡ Some r.binding) → binding_in (record_at rs r.at) x ≡ Some r.binding
bound_by rs n x None outer r e h on = on h
bound_by rs n x (Some b) outer r e h on =
    let q : Resolved Mark = record { at = n; binding = b } in
    subst (λ z. binding_in (record_at rs z.at) x ≡ Some z.binding) (one_value (Some q) q r refl h) e

-- what is found is what its record has of the name
pub found_bound : (rs : Records) (e : Environment) (x : Var) (r : Resolved Mark) → resolved rs e x ≡ Some r → binding_in (record_at rs r.at) x ≡ Some r.binding
found_bound rs [] x r h = cc
found_bound rs (n ∷ e) x r h = bound_by rs n x (binding_in (record_at rs n) x) (resolved rs e x) r refl h (λ is. found_bound rs e x r is)

module _ (owners : List ℕ) (seats : Seats) (rs ts : Records) (cells : List (Option Value)) (mem : Memory owners seats rs ts cells) where
  first_has : (i m : ℕ) (x : Var) (has : Bool) (o : Option (Binding Mark)) (outer : Option ℕ) (more : Option (Resolved Mark)) (e : Environment)
      → is_some o ≡ has → (if has then Some i else outer) ≡ Some m → binding_in (record_at ts i) x ≡ o → resolved ts e x ≡ more
      → (outer ≡ Some m → FoundIn ts e x m) → FoundIn ts (i ∷ e) x m
  first_has i m x has None outer more e some is bound rest on =
      let f : FoundIn ts e x m = on (ap (λ b. if b then Some i else outer) some ∙ is) in
      record { found = f.found; is = ap (λ b. or_outer i b (resolved ts e x)) bound ∙ f.is; at = f.at }
  first_has i m x has (Some c) outer more e some is bound rest on =
      record { found = record { at = i; binding = c }; is = ap (λ b. or_outer i b (resolved ts e x)) bound; at = one_value (Some i) i m refl (ap (λ b. if b then Some i else outer) some ∙ is) }

  past_none : (b : Bool) (outer : Option ℕ) → (if b then or_image None outer else outer) ≡ outer
  past_none true outer = refl
  past_none false outer = refl

  by_image : (n : ℕ) (e : Environment) (x : Var) (m : ℕ) (seat : Seat) (image : Option ℕ) → slice_get seats n ≡ Some seat → seat.image ≡ image
      → (if is_among x seat.has then or_image image (target_at seats e x) else target_at seats e x) ≡ Some m
      → (target_at seats e x ≡ Some m → FoundIn ts (images seats e) x m) → FoundIn ts (with_image image (images seats e)) x m
  by_image n e x m seat None at image is on = on (sym (past_none (is_among x seat.has) (target_at seats e x)) ∙ is)
  by_image n e x m seat (Some i) at image is on =
      first_has i m x (is_among x seat.has) (binding_in (record_at ts i) x) (target_at seats e x) (resolved ts (images seats e) x) (images seats e) (mem.shapes n i seat x at image) is refl refl on

  by_seat : (n : ℕ) (e : Environment) (x : Var) (m : ℕ) (o : Option Seat) → slice_get seats n ≡ o → image_with o x (target_at seats e x) ≡ Some m
      → (target_at seats e x ≡ Some m → FoundIn ts (images seats e) x m) → FoundIn ts (with_image (image_in o) (images seats e)) x m
  by_seat n e x m None at is on = on is
  by_seat n e x m (Some seat) at is on = by_image n e x m seat seat.image at refl is on

  pub found_at : (e : Environment) (x : Var) (m : ℕ) → target_at seats e x ≡ Some m → FoundIn ts (images seats e) x m
  found_at [] x m is = cc
  found_at (n ∷ e) x m is = by_seat n e x m (slice_get seats n) refl is (λ on. found_at e x m on)

  -- ---- what is there

  -- an unshared name has the same value in its place, and may be written there if it may be written
  pub record Plain (m : ℕ) (x : Var) (b : Binding Mark) : Type 0 where
    pub binding : Binding Mark
    pub there : binding_in (record_at ts m) x ≡ Some binding
    pub value : binding.value ≡ b.value
    pub mutable : b.mutable ≡ true → binding.mutable ≡ true

  plain_by : (n m : ℕ) (x : Var) (b : Binding Mark) → PlaceOf owners seats n x m → Names owners seats ts cells n x b → Plain m x b
  plain_by n m x b (at_image here at image plain) (in_image there i c at2 image2 plain2 has same) =
      let is : i ≡ m = one_value there.image i m image2 (ap (λ s. s.image) (one_value (slice_get seats n) there here at2 at) ∙ image) in
      record { binding = c; there = ap (λ j. binding_in (record_at ts j) x) (sym is) ∙ has; value = same.value; mutable = λ h. same.mutable ∙ h }
  plain_by n m x b (at_image here at image plain) (in_cell there k w at2 scoped shared found held is home) =
      absurd (differ (is_scoped here x) (ap (λ s. is_scoped s x) (one_value (slice_get seats n) here there at at2) ∙ scoped) plain)
  plain_by n m x b (at_image here at image plain) (in_home there at2 scoped unshared home) =
      absurd (differ (is_scoped here x) (ap (λ s. is_scoped s x) (one_value (slice_get seats n) here there at at2) ∙ scoped) plain)
  plain_by n m x b (at_home here at home scoped unshared newest) (in_image there i c at2 image plain has same) =
      absurd (differ (is_scoped here x) scoped (ap (λ s. is_scoped s x) (one_value (slice_get seats n) here there at at2) ∙ plain))
  plain_by n m x b (at_home here at home scoped unshared newest) (in_cell there k w at2 scoped2 shared found held is home2) = absurd (differ (is_shared owners x) shared unshared)
  plain_by n m x b (at_home here at home scoped unshared newest) (in_home there at2 scoped2 unshared2 home2) =
      let same : there.home ≡ m = ap (λ s. s.home) (one_value (slice_get seats n) there here at2 at) ∙ home in
      let o : HasOpen ts m x b.value = subst (λ h. HasOpen ts h x b.value) same (home2 newest) in
      record { binding = o.binding; there = o.there; value = o.value; mutable = λ h. o.mutable }

  -- the cell of a shared name has its value
  pub record InCell (k : ℕ) (b : Binding Mark) : Type 0 where
    pub content : Option Value
    pub held : slice_get cells k ≡ Some content
    pub value : b.value ≡ value_or_empty content

  cell_by : (n k : ℕ) (x : Var) (b : Binding Mark) → CellOf owners seats n x k → Names owners seats ts cells n x b → InCell k b
  cell_by n k x b c (in_image there i d at image plain has same) =
      absurd (differ (is_scoped there x) (ap (λ s. is_scoped s x) (one_value (slice_get seats n) there c.seat at c.seated) ∙ c.scoped) plain)
  cell_by n k x b c (in_cell there i w at scoped shared found held is home) =
      let same : i ≡ k = one_value (cell_found there.cells x) i k found (ap (λ s. cell_found s.cells x) (one_value (slice_get seats n) there c.seat at c.seated) ∙ c.found) in
      record { content = w; held = ap (λ a. slice_get cells a) (sym same) ∙ held; value = is }
  cell_by n k x b c (in_home there at scoped unshared home) = absurd (differ (is_shared owners x) c.shared unshared)

  -- the home has the cell of the newest record
  pub newest_by : (n k : ℕ) (x : Var) (b : Binding Mark) (c : CellOf owners seats n x k) → IsNewest seats n x → Names owners seats ts cells n x b → CellAt ts c.seat.home x k
  newest_by n k x b c newest (in_image there i d at image plain has same) =
      absurd (differ (is_scoped there x) (ap (λ s. is_scoped s x) (one_value (slice_get seats n) there c.seat at c.seated) ∙ c.scoped) plain)
  newest_by n k x b c newest (in_cell there i w at scoped shared found held is home) =
      let seat : there ≡ c.seat = one_value (slice_get seats n) there c.seat at c.seated in
      let same : i ≡ k = one_value (cell_found there.cells x) i k found (ap (λ s. cell_found s.cells x) seat ∙ c.found) in
      let o : HasOpen ts there.home x (Extra (Cell i)) = home newest in
      record {
        binding = o.binding;
        there = ap (λ s. binding_in (record_at ts s.home) x) (sym seat) ∙ o.there;
        value = o.value ∙ ap (λ a. Extra (Cell a)) same;
      }
  newest_by n k x b c newest (in_home there at scoped unshared home) = absurd (differ (is_shared owners x) c.shared unshared)

-- ---- in a state

-- the machine finds the name in this record
pub record FoundAt (st : CoreState) (x : Var) (m : ℕ) : Type 0 where
  pub found : Resolved Mark
  pub is : resolve st x ≡ Some found
  pub at : found.at ≡ m
  pub bound : binding_in (record_at st.records m) x ≡ Some found.binding

pub state_bound : (st : CoreState) (x : Var) (r : Resolved Mark) → resolve st x ≡ Some r → binding_in (record_at st.records r.at) x ≡ Some r.binding
unfolding resolve
state_bound st x r is = found_bound st.records st.context.environment x r is

found_on : (st : CoreState) (x : Var) (m : ℕ) (r : Resolved Mark) → resolve st x ≡ Some r → r.at ≡ m → FoundAt st x m
found_on st x m r is at = record { found = r; is = is; at = at; bound = ap (λ j. binding_in (record_at st.records j) x) (sym at) ∙ state_bound st x r is }

pub resolved_on : (st : CoreState) (e : Environment) (x : Var) (m : ℕ) → st.context.environment ≡ e → FoundIn st.records e x m → FoundAt st x m
unfolding resolve
resolved_on st e x m is f = found_on st x m f.found (ap (λ a. resolved st.records a x) is ∙ f.is) f.at

pub holds_of : (st : CoreState) (x : Var) (m k : ℕ) → FoundAt st x m → CellAt st.records m x k → Holds st x k
holds_of st x m k f c =
    (f.found, f.is, ap (λ b. b.value) (one_value (binding_in (record_at st.records m) x) f.found.binding c.binding f.bound c.there) ∙ c.value)

frames_resolve : (fs : List (Frame Mark CoreWork)) (st : CoreState) (x : Var) → resolve (with_more_frames fs st) x ≡ resolve st x
unfolding resolve
frames_resolve fs st x = refl

holds_below : (fs : List (Frame Mark CoreWork)) (st : CoreState) (x : Var) (k : ℕ) → Holds st x k → Holds (with_more_frames fs st) x k
holds_below fs st x k (r, is, value) = (r, frames_resolve fs st x ∙ is, value)

-- the state with these records and cells, and these frames
abbrev pub remade : Records → List (Option Value) → List (Frame Mark CoreWork) → CoreState → CoreState
remade ts cells fs t = with_frames fs (record t { records = ts; store = record t.store { cells = cells } })

abbrev pub with_records : Records → CoreState → CoreState
with_records rs s = record s { records = rs }

pub states_remade : (owners : List ℕ) (seats : Seats) (s t : CoreState) (rs ts : Records) (cells : List (Option Value)) (fs : List (Frame Mark CoreWork)) → States owners seats s t → Memory owners seats rs ts cells
    → States owners seats (with_records rs s) (remade ts cells fs t)
states_remade owners seats s t rs ts cells fs x mem = record {
  heap = x.heap;
  memory = mem;
  closures = x.closures;
  callers = x.callers;
  ahead = x.ahead;
  this_values = x.this_values;
  generators = x.generators;
  namespaces = x.namespaces;
  templates = x.templates;
  statics = x.statics;
}

pub stand_remade : (owners : List ℕ) (seats : Seats) (s t : CoreState) (rs ts : Records) (cells : List (Option Value)) (fs : List (Frame Mark CoreWork)) → Stand owners seats s t → Memory owners seats rs ts cells
    → Stand owners seats (with_records rs s) (remade ts cells fs t)
stand_remade owners seats s t rs ts cells fs x mem = record {
  states = states_remade owners seats s t rs ts cells fs x.states mem;
  environment = x.environment;
  below = x.below;
  receiver = x.receiver;
  site = x.site;
  own = x.own;
}

-- ---- reading

pub further : (core : Core) (k j : ℕ) (a b c : Config) → Reaches (core_step core) k a b → Reaches (core_step core) (suc j) b c → Reaches (core_step core) (suc (k + j)) a c
further core k j a b c p q = let z : k + suc j ≡ suc (k + j) = omega arith in subst (λ n. Reaches (core_step core) n a c) z (joined core k (suc j) a b c p q)

module _ (owners : List ℕ) (seats : Seats) where
  abbrev R : Config → Config → Type 0
  R = Related owners seats

  abbrev cells_of : CoreState → Var → ℕ
  cells_of s = cell_along seats s.context.environment

  flat_links : Var → Bool → List CoreLink → List CoreLink
  flat_links y b ls = cond b (act op.Content ∷ []) [] ++ ls

  flat_is : (site : Option Site) (h : CoreHead) (y : Var) (b : Bool) (ls : List CoreLink) → h ≡ head.Variable y → is_shared owners y ≡ b
      → expression site (begun_head h) (begun_links owners h ++ ls) ≡ expression site (head.Variable y) (flat_links y b ls)
  unfolding begun_head begun_links flat_links
  flat_is site h y b ls is shared =
      ap (λ z. expression site (begun_head z) (begun_links owners z ++ ls)) is ∙ ap (λ c. expression site (head.Variable y) (cond c (act op.Content ∷ []) [] ++ ls)) shared

  -- the expression comes to its head, and from there in some steps to its links
  read_from : (core : Core) (x : CoreExpr) (y : Var) (b : Bool) (j : ℕ) (v : CoreValue Mark) (s t : CoreState)
      → (out-CoreExpr x).head ≡ head.Variable y → is_shared owners y ≡ b
      → Stand owners seats s t → Frames owners seats s.context.environment s.context.frames t.context.frames
      → AllHold t owners (cells_of s) (out-CoreExpr x).links
      → Reaches (core_step core) (suc j)
      (with_control (Begin (expression (out-CoreExpr x).site (head.Variable y) (flat_links y b (opened owners (cells_of s) (out-CoreExpr x).links).links))) (with_more_frames (opened owners (cells_of s) (out-CoreExpr x).links).frames t))
      (with_control (Go (Has v) (opened owners (cells_of s) (out-CoreExpr x).links).links) (with_more_frames (opened owners (cells_of s) (out-CoreExpr x).links).frames t))
      → Matched R core (Goes (with_control (Go (Has v) (out-CoreExpr x).links) s)) (with_control (Begin (expr_flat owners x)) t)
  read_from core x y b j v s t is shared stand r held way =
      let z = out-CoreExpr x in
      let o = opened owners (cells_of s) z.links in
      let u : CoreState = with_more_frames o.frames t in
      let to : Config = with_control (Go (Has v) o.links) u in
      let on : Reaches (core_step core) (suc j) (with_control (Begin (flat_begun owners x o.links)) u) to =
      subst (λ e. Reaches (core_step core) (suc j) (with_control (Begin e) u) to) (sym (flat_is z.site z.head y b o.links is shared)) way in (
        opening_steps owners z.links + j,
        to,
        further core (opening_steps owners z.links) j (with_control (Begin (expr_flat owners x)) t) (with_control (Begin (flat_begun owners x o.links)) u) to (begins core owners (cells_of s) x t held) on,
        at_links z.links same_current (stand_frames owners seats s t o.frames stand) (t.context.frames, r, refl),
      )

  -- a shared name is read from its cell
  read_held : (core : Core) (x : CoreExpr) (y : Var) (q : Resolved Mark) (k : ℕ) (s t : CoreState) → (out-CoreExpr x).head ≡ head.Variable y → resolve s y ≡ Some q
      → CellOf owners seats q.at y k → Holds t y k
      → Stand owners seats s t → Frames owners seats s.context.environment s.context.frames t.context.frames
      → AllHold t owners (cells_of s) (out-CoreExpr x).links
      → Matched R core (Goes (with_control (Go (Has q.binding.value) (out-CoreExpr x).links) s)) (with_control (Begin (expr_flat owners x)) t)
  unfolding flat_links
  read_held core x y q k s t is found c holds stand r held =
      let z = out-CoreExpr x in
      let o = opened owners (cells_of s) z.links in
      let u : CoreState = with_more_frames o.frames t in
      let mem = stand.states.memory in
      let i : InCell owners seats s.records t.records t.store.cells mem k q.binding = cell_by owners seats s.records t.records t.store.cells mem q.at k y q.binding c (mem.names q.at y q.binding (state_bound s y q found)) in
      let way = read_cell core u y k i.content z.site o.links (holds_below o.frames t y k holds) i.held in
      read_from core x y true 1 q.binding.value s t is c.shared stand r held
      (subst (λ v. Reaches (core_step core) 2 (with_control (Begin (expression z.site (head.Variable y) (act op.Content ∷ o.links))) u) (with_control (Go (Has v) o.links) u)) (sym i.value) way)

  read_seen : (core : Core) (x : CoreExpr) (y : Var) (q : Resolved Mark) (s t : CoreState) → (out-CoreExpr x).head ≡ head.Variable y → resolve s y ≡ Some q
      → Sees owners seats s.context.environment q.at y
      → Stand owners seats s t → Frames owners seats s.context.environment s.context.frames t.context.frames
      → AllHold t owners (cells_of s) (out-CoreExpr x).links
      → Matched R core (Goes (with_control (Go (Has q.binding.value) (out-CoreExpr x).links) s)) (with_control (Begin (expr_flat owners x)) t)
  unfolding flat_links
  read_seen core x y q s t is found (sees_plain m unshared place at) stand r held =
      let z = out-CoreExpr x in
      let o = opened owners (cells_of s) z.links in
      let u : CoreState = with_more_frames o.frames t in
      let mem = stand.states.memory in
      let p : Plain owners seats s.records t.records t.store.cells mem m y q.binding =
      plain_by owners seats s.records t.records t.store.cells mem q.at m y q.binding place (mem.names q.at y q.binding (state_bound s y q found)) in
      let f : FoundAt t y m = resolved_on t (images seats s.context.environment) y m stand.environment (found_at owners seats s.records t.records t.store.cells mem s.context.environment y m at) in
      let same : f.found.binding.value ≡ q.binding.value = ap (λ b. b.value) (one_value (binding_in (record_at t.records m) y) f.found.binding p.binding f.bound p.there) ∙ p.value in
      read_from core x y false 0 q.binding.value s t is unshared stand r held
      (_, begin_read core z.site y o.links u f.found q.binding.value (frames_resolve o.frames t y ∙ f.is) same, refl)
  read_seen core x y q s t is found (sees_home k c along newest at) stand r held =
      let mem = stand.states.memory in
      let names : Names owners seats t.records t.store.cells q.at y q.binding = mem.names q.at y q.binding (state_bound s y q found) in
      let f : FoundAt t y c.seat.home = resolved_on t (images seats s.context.environment) y c.seat.home stand.environment (found_at owners seats s.records t.records t.store.cells mem s.context.environment y c.seat.home at) in
      let cell : CellAt t.records c.seat.home y k = newest_by owners seats s.records t.records t.store.cells mem q.at k y q.binding c newest names in
      read_held core x y q k s t is found c (holds_of t y c.seat.home k f cell) stand r held
  read_seen core x y q s t is found (sees_kept k j i c along keeps at) stand r held =
      let mem = stand.states.memory in
      let f : FoundAt t y i = resolved_on t (images seats s.context.environment) y i stand.environment (found_at owners seats s.records t.records t.store.cells mem s.context.environment y i at) in
      read_held core x y q k s t is found c (holds_of t y i k f (mem.kept j i k y keeps)) stand r held

  read_by : (core core2 : Core) (x : CoreExpr) (y : Var) (o : Option (Resolved Mark)) (s t : CoreState) → (out-CoreExpr x).head ≡ head.Variable y → resolve s y ≡ o
      → ((q : Resolved Mark) → resolve s y ≡ Some q → Sees owners seats s.context.environment q.at y)
      → Stand owners seats s t → Frames owners seats s.context.environment s.context.frames t.context.frames
      → AllHold t owners (cells_of s) (out-CoreExpr x).links
      → Matched R core2 (read_found (rows core) y (out-CoreExpr x).links s o) (with_control (Begin (expr_flat owners x)) t)
  read_by core core2 x y None s t is found sees stand r held = tt
  read_by core core2 x y (Some q) s t is found sees stand r held = read_seen core2 x y q s t is found (sees q found) stand r held

  begin_is : (core : Core) (x : CoreExpr) (y : Var) (s : CoreState) → (out-CoreExpr x).head ≡ head.Variable y
      → core_step core (with_control (Begin x) s) ≡ read_found (rows core) y (out-CoreExpr x).links s (resolve s y)
  unfolding step begin_head
  begin_is core x y s is = ap (λ h. begin_head (rows core) core h (out-CoreExpr x).links s) is

pub names_read : NamesAreRead
names_read core core2 owners seats x y s t is sees stand r held =
    subst (λ n. Matched (Related owners seats) core2 n (with_control (Begin (expr_flat owners x)) t)) (sym (begin_is owners seats core x y s is))
    (read_by owners seats core core2 x y (resolve s y) s t is refl sees stand r held)

-- ---- writing

pub writes_step : (core : Core) (l : CoreLink) (ls : List CoreLink) (x : Var) (site : Option Site) (v : CoreValue Mark) (r : Resolved Mark) (st : CoreState)
    → IsWrite l x site → resolve st x ≡ Some r → (Assigns l x site → r.binding.mutable ≡ true)
    → core_step core (with_control (Go (Has v) (l ∷ ls)) st) ≡ controls (Go (Has v) ls) (stored_at r.at x v st)
unfolding step go act_by write initialized
writes_step core l ls x site v r st (inl is) e may =
    ap (λ y. go_value (rows core) core (Has v) ls st y) is
    ∙ ap (λ o. write_found (rows core) x v v ls st o) e
    ∙ ap (λ b. if_mutable b st (controls (Go (Has v) ls) (stored_at r.at x v st))) (may is)
writes_step core l ls x site v r st (inr is) e may =
    ap (λ y. go_value (rows core) core (Has v) ls st y) is ∙ ap (λ o. controls (Go (Has v) ls) (initialize_found x v st o)) e

module _ (owners : List ℕ) (l : CoreLink) (x : Var) (site : Option Site) where
  pub write_is : IsWrite l x site → write_in owners (out-CoreLink l) ≡ if_shared owners x
  unfolding written_by
  write_is (inl is) = ap (λ y. write_in owners y) is
  write_is (inr is) = ap (λ y. write_in owners y) is

  pub link_is : IsWrite l x site → IsWrite (link_in owners (out-CoreLink l)) x site
  link_is (inl is) = inl (ap (λ y. out-CoreLink (link_in owners y)) is ∙ link.outs-Strict (op.Set x) [] site)
  link_is (inr is) = inr (ap (λ y. out-CoreLink (link_in owners y)) is ∙ link.outs-Strict (op.Init x) [] site)

  no_set : (y : CoreLink-F CoreLink CoreStat CoreCase CoreExpr) → y ≡ layer.Strict (op.Init x) [] site → y ≡ layer.Strict (op.Set x) [] site → ⊥
  no_set y p q = cc

  -- what holds if the link writes the name holds if the flattened one does
  pub set_is : {P : Type 0} → IsWrite l x site → (Assigns l x site → P) → Assigns (link_in owners (out-CoreLink l)) x site → P
  set_is (inl is) may flat = may is
  set_is (inr is) may flat =
      absurd (no_set (out-CoreLink (link_in owners (out-CoreLink l))) (ap (λ y. out-CoreLink (link_in owners y)) is ∙ link.outs-Strict (op.Init x) [] site) flat)

module _ (core2 : Core) (owners : List ℕ) (seats : Seats) (links : List CoreLink) (x : Var) (v : CoreValue Mark) (r : Resolved Mark) (s t : CoreState) (stand : Stand owners seats s t) (found : resolve s x ≡ Some r) where
  abbrev along : Var → ℕ
  along = cell_along seats s.context.environment

  abbrev rest : Opened
  rest = opened owners along links

  abbrev BelowBy : Option Var → CoreLink → Type 0
  BelowBy w k = (gs : List (Frame Mark CoreWork)) × Frames owners seats s.context.environment s.context.frames gs × (t.context.frames ≡ (opened_by along w k rest).frames ++ gs)

  abbrev GoalBy : Option Var → CoreLink → Type 0
  GoalBy w k = Matched (Related owners seats) core2 (controls (Go (Has v) links) (stored_at r.at x v s)) (with_control (Go (Has v) (opened_by along w k rest).links) t)

  bound : binding_in (record_at s.records r.at) x ≡ Some r.binding
  bound = state_bound s x r found

  plain_written : (k : CoreLink) (site : Option Site) (m : ℕ) → IsWrite k x site → (Assigns k x site → r.binding.mutable ≡ true) → PlaceOf owners seats r.at x m → target_at seats s.context.environment x ≡ Some m → BelowBy None k → GoalBy None k
  plain_written k site m is may place at (gs, fr, below) =
      let mem = stand.states.memory in
      let p : Plain owners seats s.records t.records t.store.cells mem m x r.binding =
      plain_by owners seats s.records t.records t.store.cells mem r.at m x r.binding place (mem.names r.at x r.binding bound) in
      let f : FoundAt t x m = resolved_on t (images seats s.context.environment) x m stand.environment (found_at owners seats s.records t.records t.store.cells mem s.context.environment x m at) in
      let open2 : Assigns k x site → f.found.binding.mutable ≡ true = λ set. ap (λ b. b.mutable) (one_value (binding_in (record_at t.records m) x) f.found.binding p.binding f.bound p.there) ∙ p.mutable (may set) in
      let after : Memory owners seats (written r.at x v s.records) (written f.found.at x v t.records) t.store.cells =
      subst (λ j. Memory owners seats (written r.at x v s.records) (written j x v t.records) t.store.cells) (sym f.at)
      (unshared_written owners seats s.records t.records t.store.cells r.at m x v r.binding mem bound place) in
      let stand2 = stand_remade owners seats s t (written r.at x v s.records) (written f.found.at x v t.records) t.store.cells t.context.frames stand after in
      let u : Config = with_control (Go (Has v) rest.links) (stored_at f.found.at x v t) in
      (0, u, (u, writes_step core2 k rest.links x site v f.found t is f.is open2, refl), at_links links same_current stand2 (gs, fr, below))

  cell_written : (k : CoreLink) (n : ℕ) → CellOf owners seats r.at x n → along x ≡ n → IsHeld v → BelowBy (Some x) k → GoalBy (Some x) k
  cell_written k n c is held (gs, fr, below) =
      let mem = stand.states.memory in
      let fs : List (Frame Mark CoreWork) = rest.frames ++ gs in
      let st : CoreState = with_frames fs t in
      let place : CellOf owners seats r.at x (along x) = subst (λ j. CellOf owners seats r.at x j) (sym is) c in
      let after : Memory owners seats (written r.at x v s.records) t.records (slice_set t.store.cells (along x) (value_in v)) =
      shared_written owners seats s.records t.records t.store.cells r.at (along x) x v r.binding mem bound place held in
      let stand2 = stand_remade owners seats s t (written r.at x v s.records) t.records (slice_set t.store.cells (along x) (value_in v)) fs stand after in
      let here : t ≡ pushed (Part (writing (along x) rest.links)) st = ap (λ gs2. with_frames gs2 t) below in
      let u : Config = with_control (Go (Has v) rest.links) (with_cell (along x) (value_in v) st) in
      let fill : core_step core2 (with_control (Hand (Gives v)) t) ≡ Goes u = ap (λ z. core_step core2 (with_control (Hand (Gives v)) z)) here ∙ fill_cell core2 st (along x) rest.links v in
      (1, u, (with_control (Hand (Gives v)) t, go_end core2 v t, (u, fill, refl)), at_links links same_current stand2 (gs, fr, refl))

  written_by_sight : (k : CoreLink) (site : Option Site) → IsWrite k x site → (Assigns k x site → r.binding.mutable ≡ true) → (is_shared owners x ≡ true → IsHeld v) → Sees owners seats s.context.environment r.at x
      → BelowBy (if_shared owners x) k → GoalBy (if_shared owners x) k
  written_by_sight k site is may held (sees_plain m unshared place at) below =
      let w : if_shared owners x ≡ None = ap (λ b. cond b (Some x) None) unshared in
      subst (λ o. GoalBy o k) (sym w) (plain_written k site m is may place at (subst (λ o. BelowBy o k) w below))
  written_by_sight k site is may held (sees_home n c same newest at) below =
      let w : if_shared owners x ≡ Some x = ap (λ b. cond b (Some x) None) c.shared in
      subst (λ o. GoalBy o k) (sym w) (cell_written k n c same (held c.shared) (subst (λ o. BelowBy o k) w below))
  written_by_sight k site is may held (sees_kept n j i c same keeps at) below =
      let w : if_shared owners x ≡ Some x = ap (λ b. cond b (Some x) None) c.shared in
      subst (λ o. GoalBy o k) (sym w) (cell_written k n c same (held c.shared) (subst (λ o. BelowBy o k) w below))

pub names_written : NamesAreWritten
names_written core core2 owners seats l links x site v r s t is found may sees held stand below =
    let cell = cell_along seats s.context.environment in
    let k = link_in owners (out-CoreLink l) in
    let o = opened owners cell links in
    let w : write_in owners (out-CoreLink l) ≡ if_shared owners x = write_is owners l x site is in
    let below2 : BelowBy core2 owners seats links x v r s t stand found (if_shared owners x) k =
    subst (λ a. BelowBy core2 owners seats links x v r s t stand found a k) w below in
    let goal : GoalBy core2 owners seats links x v r s t stand found (write_in owners (out-CoreLink l)) k =
    subst (λ a. GoalBy core2 owners seats links x v r s t stand found a k) (sym w)
    (written_by_sight core2 owners seats links x v r s t stand found k site (link_is owners l x site is) (set_is owners l x site is may) held sees below2) in
    subst (λ n. Matched (Related owners seats) core2 n (with_control (Go (Has v) (opened owners cell (l ∷ links)).links) t)) (sym (writes_step core l links x site v r s is found may)) goal
