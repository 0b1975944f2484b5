-- Expressions begin alike where their heads name nothing.
use Rattle.std.proofs.Common.{◌≡◌, ℕ, suc, ◌+◌, List, [], ◌++◌, Some, refl, sym, ap, arith, subst, ◌∙◌}
use Rattle.runs.specs.Run.{Asks, Ends, Goes, Leaves}
use Rattle.runs.specs.Simulation.{Reaches}
use Rattle.es_value.specs.declared.value.Value.{Value}
use Rattle.es_value.specs.declared.value.Value.TheVariants as value
use Rattle.es_heap.specs.Heaps.{made, next_id}
use Rattle.es_heap.specs.declared.class.Class.{Class}
use Rattle.es_value.specs.declared.value.ObjId.{ObjId}
use Rattle.core_ast.specs.declared.parts.CoreHead.{CoreHead}
use Rattle.core_ast.specs.declared.parts.CoreHead.TheVariants as head
use Rattle.core_ast.specs.declared.tree.CoreExpr.{CoreExpr, out-CoreExpr, out-roll-CoreExpr}
use Rattle.core_ast.specs.declared.tree.CoreLink.{CoreLink}
use Rattle.core_ast.specs.declared.whole.Core.{Core}
use Rattle.core_meaning.specs.Expressions.{begin_head, constant_value, has_made}
use Rattle.core_meaning.specs.Functions.{this, this_at}
use Rattle.core_meaning.specs.Marks.{CoreNext, CoreState, Mark}
use Rattle.core_meaning.specs.Modules.{core_step, rows}
use Rattle.core_meaning.specs.Rows.{goes, has, with_control, with_heap}
use Rattle.core_meaning.specs.State.{Begin, Current, Has, User}
use Rattle.core_meaning.specs.Step.{step}
use Rattle.pass_rules.specs.Scopes.{expr_flat}
use Rattle.cells_keep_runs.specs.Alike.{Alike, Along, Config}
use Rattle.cells_keep_runs.specs.Begun.{IsUntouchedHead, Matched, UntouchedHeadsKeepRelated}
use Rattle.cells_keep_runs.specs.Opened.{AllHold, begun_head, begun_links, flat_begun, opened, opening_steps, with_more_frames}
use Rattle.cells_keep_runs.specs.Related.{Frames, Related, Seats, Stand, cell_along}
use Rattle.cells_keep_runs.proofs.Alike.{at_heap, maybe, went, went_heap}
use Rattle.cells_keep_runs.proofs.Carried.{B, U, carries, stand_frames}
use Rattle.cells_keep_runs.proofs.Opened.{begins}
use Rattle.cells_keep_runs.proofs.Ways.{joined}

-- what is alike behind some silent steps is matched
pub answered : (R : Config → Config → Type 0) (core : Core) (n : CoreNext) (t u : Config) (k : ℕ) → Reaches (core_step core) k t u → Alike R n (core_step core u) → Matched R core n t
answered R core (Goes s) t u k way (v, is, r) =
    let z : k + 1 ≡ suc k = omega arith in
    (k, v, subst (λ n. Reaches (core_step core) n t v) z (joined core k 1 t u v way (v, is, refl)), r)
answered R core (Asks e follow) t u k way (follow2, is, r) = (k, u, follow2, way, is, r)
answered R core (Ends o) t u k way is = (k, u, way, is)
answered R core (Leaves x) t u k way is = tt

module _ (owners : List ℕ) (seats : Seats) where
  abbrev R : Config → Config → Type 0
  R = Related owners seats

  same_this : (s t : CoreState) → Stand owners seats s t → this t ≡ this s
  same_this s t stand =
      ap (λ vs. this_at vs t.context.own.this_record) stand.states.this_values ∙ ap (λ n. this_at s.store.this_values n) stand.own.this_record

  abbrev has_at : Along → Value → CoreNext
  has_at p v = has v p.links p.state

  ways_on : (p q : Along) (c : Current Mark) → B owners seats p q → Alike R (goes c p.links p.state) (goes c q.links q.state)
  ways_on p q c b = went R (B owners seats) (U owners seats) (carries owners seats) p q c b

  made_alike : (p q : Along) (proto : ObjId) (class : Class) → B owners seats p q → Alike R (has_made proto class p.links p.state) (has_made proto class q.links q.state)
  made_alike p q proto class b =
      at_heap R (B owners seats) (U owners seats) (carries owners seats) p q b (has_made proto class p.links p.state)
      (λ h. goes (Has (User (value.Object (next_id h)))) q.links (with_heap (made h (Some proto) class) q.state))
      (went_heap R (B owners seats) (U owners seats) (carries owners seats) p q (Has (User (value.Object (next_id p.state.heap)))) (made p.state.heap (Some proto) class) b)

  heads : (core core2 : Core) (h : CoreHead) (p q : Along) → IsUntouchedHead h → B owners seats p q → Alike R (begin_head (rows core) core h p.links p.state) (begin_head (rows core2) core2 h q.links q.state)
  unfolding begin_head IsUntouchedHead
  heads core core2 (head.Constant c) p q is b =
      maybe R (B owners seats) (U owners seats) (carries owners seats) (constant_value c) p.state q.state (has_at p) (has_at q) (λ v. ways_on p q (Has (User v)) b)
  heads core core2 head.Empty p q is b = ways_on p q _ b
  heads core core2 (head.Global g) p q is b = ways_on p q _ b
  heads core core2 (head.Host h) p q is b = ways_on p q _ b
  heads core core2 head.This p q is b =
      subst (λ v. Alike R (goes (Has (this p.state)) p.links p.state) (goes (Has v) q.links q.state)) (sym (same_this p.state q.state b.0)) (ways_on p q (Has (this p.state)) b)
  heads core core2 head.ArrayList p q is b = made_alike p q _ _ b
  heads core core2 head.ObjectList p q is b = made_alike p q _ _ b
  heads core core2 head.ArgumentList p q is b = ways_on p q _ b
  heads core core2 (head.Variable x) p q is b = absurd is
  heads core core2 (head.TypeOf x) p q is b = absurd is
  heads core core2 (head.Function f) p q is b = absurd is
  heads core core2 (head.Primitive r) p q is b = absurd is
  heads core core2 (head.Copy xs) p q is b = absurd is

  -- the flattened expression has the same head, and the links until the first write of a shared name
  bare_head : (h : CoreHead) → IsUntouchedHead h → begun_head h ≡ h
  unfolding IsUntouchedHead begun_head
  bare_head (head.Copy xs) is = absurd is
  bare_head h is = refl

  bare_links : (h : CoreHead) → IsUntouchedHead h → begun_links owners h ≡ []
  unfolding IsUntouchedHead begun_links
  bare_links (head.Variable x) is = absurd is
  bare_links (head.Copy xs) is = absurd is
  bare_links h is = refl

  begin_is : (core : Core) (x : CoreExpr) (s : CoreState) → core_step core (with_control (Begin x) s) ≡ begin_head (rows core) core (out-CoreExpr x).head (out-CoreExpr x).links s
  unfolding step
  begin_is core x s = refl

  flat_is : (core : Core) (x : CoreExpr) (ls : List CoreLink) (t : CoreState) → IsUntouchedHead (out-CoreExpr x).head → core_step core (with_control (Begin (flat_begun owners x ls)) t) ≡ begin_head (rows core) core (out-CoreExpr x).head ls t
  unfolding step
  flat_is core x ls t is =
      let y = out-CoreExpr x in
      ap (λ z. begin_head (rows core) core z.head z.links t) (out-roll-CoreExpr (record { site = y.site; head = begun_head y.head; links = begun_links owners y.head ++ ls }))
      ∙ ap (λ h. begin_head (rows core) core h (begun_links owners y.head ++ ls) t) (bare_head y.head is)
      ∙ ap (λ ks. begin_head (rows core) core y.head (ks ++ ls) t) (bare_links y.head is)

  begun : (core core2 : Core) (x : CoreExpr) (s t : CoreState) → IsUntouchedHead (out-CoreExpr x).head → Stand owners seats s t
      → Frames owners seats s.context.environment s.context.frames t.context.frames
      → AllHold t owners (cell_along seats s.context.environment) (out-CoreExpr x).links
      → Matched R core2 (core_step core (with_control (Begin x) s)) (with_control (Begin (expr_flat owners x)) t)
  begun core core2 x s t is stand r held =
      let y = out-CoreExpr x in
      let cell = cell_along seats s.context.environment in
      let o = opened owners cell y.links in
      let u : CoreState = with_more_frames o.frames t in
      let p : Along = record { links = y.links; state = s } in
      let q : Along = record { links = o.links; state = u } in
      let b : B owners seats p q = (stand_frames owners seats s t o.frames stand, (t.context.frames, r, refl), refl) in
      let alike : Alike R (core_step core (with_control (Begin x) s)) (core_step core2 (with_control (Begin (flat_begun owners x o.links)) u)) =
      subst (λ n. Alike R n (core_step core2 (with_control (Begin (flat_begun owners x o.links)) u))) (sym (begin_is core x s))
      (subst (λ n. Alike R (begin_head (rows core) core y.head y.links s) n) (sym (flat_is core2 x o.links u is)) (heads core core2 y.head p q is b)) in
      answered R core2 (core_step core (with_control (Begin x) s)) (with_control (Begin (expr_flat owners x)) t) (with_control (Begin (flat_begun owners x o.links)) u) (opening_steps owners y.links)
      (begins core2 owners cell x t held) alike

pub heads_begin : UntouchedHeadsKeepRelated
heads_begin core core2 owners seats x s t is stand r held = begun owners seats core core2 x s t is stand r held
