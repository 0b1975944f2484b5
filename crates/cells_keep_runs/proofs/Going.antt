-- Operations go on alike, and primitives begin alike.
use Rattle.std.proofs.Common.{◌≡◌, ℕ, List, [], ◌∷◌, ◌++◌, map, Option, None, refl, sym, ap, subst, ◌∙◌}
use Rattle.std.specs.Prelude.{if◌then◌else◌}
use Rattle.es_outside.specs.declared.events.Site.{Site}
use Rattle.es_value.specs.declared.value.Value.{Value}
use Rattle.es_value.specs.declared.value.Value.TheVariants as value
use Rattle.es_heap.specs.Heaps.{Heap, next_id}
use Rattle.es_heap.specs.declared.key.Key.{Key}
use Rattle.es_realm.specs.declared.edition.Edition.TheVariants.{Sixth}
use Rattle.es_realm.specs.declared.errors.ErrorKind.TheVariants.{TypeError}
use Rattle.es_calls.specs.Calls.{is_undefined}
use Rattle.es_calls.specs.Making.{arguments_heap}
use Rattle.core_ast.specs.declared.parts.CoreHead.{CoreHead}
use Rattle.core_ast.specs.declared.parts.CoreHead.TheVariants as head
use Rattle.core_ast.specs.declared.parts.CoreOp.{CoreOp}
use Rattle.core_ast.specs.declared.parts.CoreOp.TheVariants as op
use Rattle.core_ast.specs.declared.parts.Primitive.{Primitive}
use Rattle.core_ast.specs.declared.parts.Primitive.TheVariants as primitive
use Rattle.core_ast.specs.declared.tree.CoreExpr.{CoreExpr, out-CoreExpr, out-roll-CoreExpr}
use Rattle.core_ast.specs.declared.tree.CoreLink.{CoreLink, out-CoreLink}
use Rattle.core_ast.specs.declared.tree.CoreLink.TheOpen as layer
use Rattle.core_ast.specs.declared.tree.CoreLink.TheVariants as link
use Rattle.core_ast.specs.declared.whole.Core.{Core}
use Rattle.core_ast.specs.Made.{expression}
use Rattle.core_meaning.specs.Expressions.{begin_head}
use Rattle.core_meaning.specs.Marks.{CoreNext, CoreState, Mark}
use Rattle.core_meaning.specs.Modules.{core_step, primitive_head, rows}
use Rattle.core_meaning.specs.Rows.{has, raises, with_control, with_heap}
use Rattle.core_meaning.specs.State.{After, Begin, Current, Fetch, Has, Hosted, Method, Old, Reference, User}
use Rattle.core_meaning.specs.Step.{AsPlace, AsValue, Taking, WithValue, go, go_link, go_reference, go_value, step, take, taking}
use Rattle.pass_rules.specs.Scopes.{expr_flat}
use Rattle.cells_keep_runs.specs.Acted.{IsAlikeOp, KindsAreKept}
use Rattle.cells_keep_runs.specs.Alike.{Alike, Along, Config, strict}
use Rattle.cells_keep_runs.specs.Going.{IsAlikeHead, OperationsGoOnAlike, PrimitivesBeginAlike}
use Rattle.cells_keep_runs.specs.Opened.{begun_head, begun_links, flat_begun, link_in, opened, opening_steps, with_more_frames, write_in, written_by}
use Rattle.cells_keep_runs.specs.Related.{Related, Seats, at_same, cell_along, same_part}
use Rattle.cells_keep_runs.proofs.Acted.{goes_on}
use Rattle.cells_keep_runs.proofs.Alike.{at_heap, either_way, raised, went_heap}
use Rattle.cells_keep_runs.proofs.Begun.{answered}
use Rattle.cells_keep_runs.proofs.Carried.{B, U, carries, stand_frames, stand_pushed}
use Rattle.cells_keep_runs.proofs.Links.{after_frames, fetch_frames}
use Rattle.cells_keep_runs.proofs.Opened.{begins}
use Rattle.cells_keep_runs.proofs.Taken.{next_part}

pub writes_none : (owners : List ℕ) (o : CoreOp) → IsAlikeOp o → written_by owners o ≡ None
unfolding IsAlikeOp written_by
writes_none owners (op.Set x) is = absurd is
writes_none owners (op.Init x) is = absurd is
writes_none owners o is = refl

module _ (core core2 : Core) (owners : List ℕ) (seats : Seats) where
  abbrev R : Config → Config → Type 0
  R = Related owners seats

  abbrev A : CoreNext → CoreNext → Type 0
  A = Alike R

  abbrev BB : Along → Along → Type 0
  BB = B owners seats

  take_alike : (kinds : KindsAreKept core core2) (p q : Along) (l : CoreLink) (base : Value) (k : Key) (o : CoreOp) (site : Option Site) (xs : List CoreExpr) (how : Taking)
      → IsAlikeOp o → write_in owners (out-CoreLink l) ≡ None → BB p q
      → A (take (rows core) core base k (strict o site (Reference base k) [] xs p.links) l p.state how)
      (take (rows core2) core2 base k (strict o site (Reference base k) [] (map (expr_flat owners) xs) q.links) (link_in owners (out-CoreLink l)) q.state how)
  take_alike kinds p q l base k o site xs AsPlace is nothing b = next_part core core2 owners seats kinds p q o site (Reference base k) (Reference base k) [] xs (same_part refl) is b
  take_alike kinds p q l base k o site xs WithValue is nothing b = (
    _,
    refl,
    at_same _ tt (stand_pushed owners seats p.state q.state (Fetch base k (strict o site (Reference base k) [] xs p.links)) (Fetch base k (strict o site (Reference base k) [] (map (expr_flat owners) xs) q.links)) b.0)
        (fetch_frames core core2 owners seats p q base k o site (Reference base k) xs b),
  )
  take_alike kinds p q l base k o site xs AsValue is nothing b =
      (_, refl, at_same _ tt (stand_pushed owners seats p.state q.state (After (l ∷ p.links)) (After (link_in owners (out-CoreLink l) ∷ q.links)) b.0) (after_frames core core2 owners seats p q l nothing b))

  flat_is : (l : CoreLink) (o : CoreOp) (xs : List CoreExpr) (site : Option Site) → out-CoreLink l ≡ layer.Strict o xs site → out-CoreLink (link_in owners (out-CoreLink l)) ≡ layer.Strict o (map (expr_flat owners) xs) site
  flat_is l o xs site is = ap (λ y. out-CoreLink (link_in owners y)) is ∙ link.outs-Strict o (map (expr_flat owners) xs) site

  value_with : (kinds : KindsAreKept core core2) (p q : Along) (l : CoreLink) (o : CoreOp) (xs : List CoreExpr) (site : Option Site) (c : Current Mark) → out-CoreLink l ≡ layer.Strict o xs site → IsAlikeOp o → BB p q
      → A (go_value (rows core) core c p.links p.state (out-CoreLink l)) (go_value (rows core2) core2 c q.links q.state (out-CoreLink (link_in owners (out-CoreLink l))))
  value_with kinds p q l o xs site c is alike b =
      subst (λ y. A (go_value (rows core) core c p.links p.state y) (go_value (rows core2) core2 c q.links q.state (out-CoreLink (link_in owners (out-CoreLink l))))) (sym is)
      (subst (λ y. A (go_value (rows core) core c p.links p.state (layer.Strict o xs site)) (go_value (rows core2) core2 c q.links q.state y)) (sym (flat_is l o xs site is))
      (next_part core core2 owners seats kinds p q o site c c [] xs (same_part refl) alike b))

  go_with : (kinds : KindsAreKept core core2) (p q : Along) (l : CoreLink) (o : CoreOp) (xs : List CoreExpr) (site : Option Site) (c : Current Mark) → out-CoreLink l ≡ layer.Strict o xs site → IsAlikeOp o → BB p q
      → A (go_link (rows core) core l p.links p.state c) (go_link (rows core2) core2 (link_in owners (out-CoreLink l)) q.links q.state c)
  go_with kinds p q l o xs site (Reference base k) is alike b =
      subst (λ y. A (go_reference (rows core) core base k l p.links p.state y) (go_reference (rows core2) core2 base k (link_in owners (out-CoreLink l)) q.links q.state (out-CoreLink (link_in owners (out-CoreLink l))))) (sym is)
      (subst (λ y. A (take (rows core) core base k (strict o site (Reference base k) [] xs p.links) l p.state (taking o)) (go_reference (rows core2) core2 base k (link_in owners (out-CoreLink l)) q.links q.state y)) (sym (flat_is l o xs site is))
      (take_alike kinds p q l base k o site xs (taking o) alike (ap (λ y. write_in owners y) is ∙ writes_none owners o alike) b))
  go_with kinds p q l o xs site (Has v) is alike b = value_with kinds p q l o xs site (Has v) is alike b
  go_with kinds p q l o xs site (Old base k v) is alike b = value_with kinds p q l o xs site (Old base k v) is alike b
  go_with kinds p q l o xs site (Method f v) is alike b = value_with kinds p q l o xs site (Method f v) is alike b
  go_with kinds p q l o xs site (Hosted n) is alike b = value_with kinds p q l o xs site (Hosted n) is alike b

  -- ---- primitives

  guard_alike : (p q : Along) → BB p q
      → A (if is_undefined p.state.context.own.target then raises TypeError p.state else has value.Undefined p.links p.state) (if is_undefined q.state.context.own.target then raises TypeError q.state else has value.Undefined q.links q.state)
  guard_alike p q b =
      subst (λ v. A (if is_undefined p.state.context.own.target then raises TypeError p.state else has value.Undefined p.links p.state) (if is_undefined v then raises TypeError q.state else has value.Undefined q.links q.state)) (sym b.0.own.target)
      (either_way R (B owners seats) (U owners seats) (carries owners seats) (is_undefined p.state.context.own.target) (raises TypeError p.state) (has value.Undefined p.links p.state) (raises TypeError q.state) (has value.Undefined q.links q.state)
      (raised R (B owners seats) (U owners seats) (carries owners seats) p q TypeError b) (goes_on core core2 owners seats p q (Has (User value.Undefined)) b))

  target_alike : (p q : Along) → BB p q → A (has p.state.context.own.target p.links p.state) (has q.state.context.own.target q.links q.state)
  target_alike p q b =
      subst (λ v. A (has p.state.context.own.target p.links p.state) (has v q.links q.state)) (sym b.0.own.target) (goes_on core core2 owners seats p q (Has (User p.state.context.own.target)) b)

  abbrev object_with : Along → Heap → List Value → CoreNext
  object_with p h vs = has (value.Object (next_id h)) p.links (with_heap (arguments_heap Sixth h vs) p.state)

  arguments_alike : (p q : Along) → BB p q → A (object_with p p.state.heap p.state.context.own.passed) (object_with q q.state.heap q.state.context.own.passed)
  arguments_alike p q b =
      let first : CoreNext = object_with p p.state.heap p.state.context.own.passed in
      subst (λ vs. A first (object_with q q.state.heap vs)) (sym b.0.own.passed)
      (at_heap R (B owners seats) (U owners seats) (carries owners seats) p q b first (λ h. object_with q h p.state.context.own.passed)
      (went_heap R (B owners seats) (U owners seats) (carries owners seats) p q (Has (User (value.Object (next_id p.state.heap)))) (arguments_heap Sixth p.state.heap p.state.context.own.passed) b))

  heads_alike : (r : Primitive) (p q : Along) → IsAlikeHead r → BB p q → A (primitive_head p.links p.state r) (primitive_head q.links q.state r)
  heads_alike primitive.RefuseConst p q is b = raised R (B owners seats) (U owners seats) (carries owners seats) p q TypeError b
  heads_alike primitive.ClassGuard p q is b = guard_alike p q b
  heads_alike primitive.NewTarget p q is b = target_alike p q b
  heads_alike primitive.ArgumentsPut p q is b = arguments_alike p q b
  heads_alike primitive.GeneratorMake p q is b = absurd is
  heads_alike primitive.IncludesPut p q is b = goes_on core core2 owners seats p q (Has (User value.Undefined)) b
  heads_alike r p q is b = tt

  begin_is : (x : Core) (e : CoreExpr) (r : Primitive) (st : CoreState) → (out-CoreExpr e).head ≡ head.Primitive r → core_step x (with_control (Begin e) st) ≡ primitive_head (out-CoreExpr e).links st r
  unfolding step begin_head
  begin_is x e r st is = ap (λ h. begin_head (rows x) x h (out-CoreExpr e).links st) is

  flat_head : (x : Core) (site : Option Site) (h : CoreHead) (ls : List CoreLink) (r : Primitive) (st : CoreState) → h ≡ head.Primitive r
      → core_step x (with_control (Begin (expression site (begun_head h) (begun_links owners h ++ ls))) st) ≡ primitive_head ls st r
  unfolding step begin_head begun_head begun_links
  flat_head x site h ls r st is =
      ap (λ y. begin_head (rows x) x y.head y.links st) (out-roll-CoreExpr (record { site = site; head = begun_head h; links = begun_links owners h ++ ls }))
      ∙ ap (λ z. begin_head (rows x) x (begun_head z) (begun_links owners z ++ ls) st) is

pub operations_go : OperationsGoOnAlike
unfolding step go
operations_go core core2 owners seats l links o xs site c s t kinds is alike stand below =
    let p : Along = record { links = links; state = s } in
    let q : Along = record { links = (opened owners (cell_along seats s.context.environment) links).links; state = t } in
    go_with core core2 owners seats kinds p q l o xs site c is alike (stand, below, refl)

pub primitives_begin : PrimitivesBeginAlike
primitives_begin core core2 owners seats x r s t is alike stand frames held =
    let y = out-CoreExpr x in
    let o = opened owners (cell_along seats s.context.environment) y.links in
    let u : CoreState = with_more_frames o.frames t in
    let p : Along = record { links = y.links; state = s } in
    let q : Along = record { links = o.links; state = u } in
    let b : B owners seats p q = (stand_frames owners seats s t o.frames stand, (t.context.frames, frames, refl), refl) in
    let first = begin_is core core2 owners seats core x r s is in
    let second = flat_head core core2 owners seats core2 y.site y.head o.links r u is in
    let same : Alike (Related owners seats) (core_step core (with_control (Begin x) s)) (core_step core2 (with_control (Begin (flat_begun owners x o.links)) u)) =
    subst (λ n. Alike (Related owners seats) n (core_step core2 (with_control (Begin (flat_begun owners x o.links)) u))) (sym first)
    (subst (λ n. Alike (Related owners seats) (primitive_head y.links s r) n) (sym second) (heads_alike core core2 owners seats r p q alike b)) in
    answered (Related owners seats) core2 (core_step core (with_control (Begin x) s)) (with_control (Begin (expr_flat owners x)) t) (with_control (Begin (flat_begun owners x o.links)) u) (opening_steps owners y.links)
    (begins core2 owners (cell_along seats s.context.environment) x t held) same
