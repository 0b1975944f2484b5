-- How a value goes one link on.
use Rattle.std.proofs.Common.{◌≡◌, ℕ, List, [], ◌∷◌, ◌++◌, map, Option, None, Some, refl, sym, subst}
use Rattle.std.proofs.lemmas.List.{append-nil}
use Rattle.es_outside.specs.declared.events.Site.{Site}
use Rattle.es_value.specs.declared.value.Value.{Value}
use Rattle.es_heap.specs.declared.key.Key.{Key}
use Rattle.es_operators.specs.Primitives.{truth_of}
use Rattle.es_operations.specs.Numbers.{get_number}
use Rattle.es_operations.specs.Steps.{operation}
use Rattle.es_operations.specs.Turning.{key_operand}
use Rattle.core_ast.specs.declared.parts.CoreOp.{CoreOp}
use Rattle.core_ast.specs.declared.parts.CoreOp.TheVariants as op
use Rattle.core_ast.specs.declared.parts.Var.{Var}
use Rattle.core_ast.specs.declared.parts.When.{When}
use Rattle.core_ast.specs.declared.parts.When.TheVariants as when
use Rattle.core_ast.specs.declared.tree.CoreCase.{CoreCase}
use Rattle.core_ast.specs.declared.tree.CoreExpr.{CoreExpr}
use Rattle.core_ast.specs.declared.tree.CoreLink.{CoreLink, out-CoreLink}
use Rattle.core_ast.specs.declared.tree.CoreLink.TheOpen as layer
use Rattle.core_ast.specs.declared.tree.CoreLink.TheOpen.{CoreLink-F}
use Rattle.core_ast.specs.declared.tree.CoreLink.TheVariants as link
use Rattle.core_ast.specs.declared.tree.CoreStat.{CoreStat}
use Rattle.core_ast.specs.declared.whole.Core.{Core}
use Rattle.core_meaning.specs.Expressions.{user_at}
use Rattle.core_meaning.specs.Marks.{CoreNext, CoreState, CoreWork, Mark}
use Rattle.core_meaning.specs.Modules.{core_step, rows}
use Rattle.core_meaning.specs.Rows.{begins, has, pushed, runs, with_control}
use Rattle.core_meaning.specs.State.{After, CoreValue, Current, Fetch, Frame, Go, Has, Hosted, Method, Old, Part, Reference, Run, Turn, User}
use Rattle.core_meaning.specs.Step.{AsPlace, AsValue, Taking, WithValue, go, go_link, go_reference, go_value, lazy, otherwise, parts, step, take, taking}
use Rattle.pass_rules.specs.Scopes.{expr_flat, stats_flat}
use Rattle.cells_keep_runs.specs.Alike.{Alike, Along, Config, IsUntouched, OfAfter, strict}
use Rattle.cells_keep_runs.specs.Links.{IsUntouchedLink, UntouchedLinksKeepRelated}
use Rattle.cells_keep_runs.specs.Opened.{link_in, opened, opened_by, write_in, written_by}
use Rattle.cells_keep_runs.specs.Related.{Frames, Related, Seats, WaitsAfter, at_expression, at_same, at_statements, cell_along, fetch, no_scope, part, same_part, waits}
use Rattle.cells_keep_runs.specs.Shapes.{option_flat}
use Rattle.cells_keep_runs.proofs.Alike.{acts, either_way, maybe, went}
use Rattle.cells_keep_runs.proofs.Carried.{B, U, carries, pushed_frames, stand_pushed}

-- a layer with its parts flattened
abbrev pub flat_layer : List ℕ → CoreLink-F CoreLink CoreStat CoreCase CoreExpr → CoreLink-F CoreLink CoreStat CoreCase CoreExpr
flat_layer owners (layer.Strict o xs site) = layer.Strict o (map (expr_flat owners) xs) site
flat_layer owners (layer.Lazy w taken other) = layer.Lazy w (expr_flat owners taken) (option_flat owners other)
flat_layer owners (layer.Run body) = layer.Run (stats_flat owners body)

pub layer_of : (owners : List ℕ) (y : CoreLink-F CoreLink CoreStat CoreCase CoreExpr) → out-CoreLink (link_in owners y) ≡ flat_layer owners y
layer_of owners (layer.Strict o xs site) = link.outs-Strict o (map (expr_flat owners) xs) site
layer_of owners (layer.Lazy w taken other) = link.outs-Lazy w (expr_flat owners taken) (option_flat owners other)
layer_of owners (layer.Run body) = link.outs-Run (stats_flat owners body)

writes_nothing : (owners : List ℕ) (o : CoreOp) → IsUntouched o → written_by owners o ≡ None
unfolding IsUntouched written_by
writes_nothing owners (op.Set x) is = absurd is
writes_nothing owners (op.Init x) is = absurd is
writes_nothing owners o is = refl

link_writes_nothing : (owners : List ℕ) (y : CoreLink-F CoreLink CoreStat CoreCase CoreExpr) → IsUntouchedLink y → write_in owners y ≡ None
link_writes_nothing owners (layer.Strict o xs site) is = writes_nothing owners o is
link_writes_nothing owners (layer.Lazy w taken other) is = refl
link_writes_nothing owners (layer.Run body) is = refl

module _ (core core2 : Core) (owners : List ℕ) (seats : Seats) where
  abbrev R : Config → Config → Type 0
  R = Related owners seats

  abbrev A : CoreNext → CoreNext → Type 0
  A = Alike R

  abbrev cells : CoreState → Var → ℕ
  cells s = cell_along seats s.context.environment

  -- ---- what is begun

  begun : (p q : Along) (x : CoreExpr) → B owners seats p q → A (begins (After p.links) x p.state) (begins (After q.links) (expr_flat owners x) q.state)
  begun p q x b = (_, refl, at_expression x (stand_pushed owners seats p.state q.state (After p.links) (After q.links) b.0) (pushed_frames owners seats p q OfAfter b))

  ran : (p q : Along) (body : List CoreStat) → B owners seats p q → A (runs (After p.links) body p.state) (runs (After q.links) (stats_flat owners body) q.state)
  ran p q body b =
      let s : CoreState = pushed (After p.links) p.state in
      let t : CoreState = pushed (After q.links) q.state in
      let r = at_statements body (stand_pushed owners seats p.state q.state (After p.links) (After q.links) b.0) (p.state.context.environment, s.context.frames, no_scope, pushed_frames owners seats p q OfAfter b) in
      (_, refl, subst (λ xs. R (with_control (Run body) s) (with_control (Run xs) t)) (append-nil (stats_flat owners body)) r)

  -- ---- the parts of an operation

  abbrev pub PartFrames : Along → Along → CoreOp → Option Site → Current Mark → List (CoreValue Mark) → List CoreExpr → Type 0
  PartFrames p q o site c vs xs = Frames owners seats p.state.context.environment
      (Part (strict o site c vs xs p.links) ∷ p.state.context.frames) (Part (strict o site c vs (map (expr_flat owners) xs) q.links) ∷ q.state.context.frames)

  pub part_frames : (p q : Along) (o : CoreOp) (site : Option Site) (c : Current Mark) (vs : List (CoreValue Mark)) (xs : List CoreExpr) → B owners seats p q → PartFrames p q o site c vs xs
  part_frames p q o site c vs xs (stand, (gs, r, below), is) =
      let o2 = opened owners (cells p.state) p.links in
      let w : Frames owners seats p.state.context.environment (Part (strict o site c vs xs p.links) ∷ p.state.context.frames) (Part (strict o site c vs (map (expr_flat owners) xs) o2.links) ∷ (o2.frames ++ gs)) = part (strict o site c vs xs p.links) (same_part refl) r in
      let a = subst (λ ls. Frames owners seats p.state.context.environment (Part (strict o site c vs xs p.links) ∷ p.state.context.frames) (Part (strict o site c vs (map (expr_flat owners) xs) ls) ∷ (o2.frames ++ gs))) (sym is) w in
      subst (λ hs. Frames owners seats p.state.context.environment (Part (strict o site c vs xs p.links) ∷ p.state.context.frames) (Part (strict o site c vs (map (expr_flat owners) xs) q.links) ∷ hs)) (sym below) a

  parts_alike : (p q : Along) (o : CoreOp) (site : Option Site) (c : Current Mark) (vs : List (CoreValue Mark)) (xs : List CoreExpr) → IsUntouched o → B owners seats p q
      → A (parts (rows core) core (strict o site c vs xs p.links) p.state) (parts (rows core2) core2 (strict o site c vs (map (expr_flat owners) xs) q.links) q.state)
  parts_alike p q o site c vs [] is b = acts R (B owners seats) (U owners seats) (carries owners seats) core core2 o site c vs [] p q is b
  parts_alike p q o site c vs (x ∷ xs) is b =
      (_, refl, at_expression x (stand_pushed owners seats p.state q.state (Part (strict o site c vs xs p.links)) (Part (strict o site c vs (map (expr_flat owners) xs) q.links)) b.0) (part_frames p q o site c vs xs b))

  -- ---- branches

  otherwise_alike : (p q : Along) (other : Option CoreExpr) → B owners seats p q → A (otherwise other p.links p.state) (otherwise (option_flat owners other) q.links q.state)
  otherwise_alike p q None b = went R (B owners seats) (U owners seats) (carries owners seats) p q _ b
  otherwise_alike p q (Some x) b = begun p q x b

  lazy_alike : (p q : Along) (x : CoreExpr) (other : Option CoreExpr) (v : Value) (w : When) → B owners seats p q
      → A (lazy x other p.links p.state v w) (lazy (expr_flat owners x) (option_flat owners other) q.links q.state v w)
  lazy_alike p q x other v when.Truthy b = either_way R (B owners seats) (U owners seats) (carries owners seats) (truth_of v) (begins (After p.links) x p.state) (has v p.links p.state) (begins (After q.links) (expr_flat owners x) q.state) (has v q.links q.state) (begun p q x b) (went R (B owners seats) (U owners seats) (carries owners seats) p q (Has (User v)) b)
  lazy_alike p q x other v when.Falsy b = either_way R (B owners seats) (U owners seats) (carries owners seats) (truth_of v) (has v p.links p.state) (begins (After p.links) x p.state) (has v q.links q.state) (begins (After q.links) (expr_flat owners x) q.state) (went R (B owners seats) (U owners seats) (carries owners seats) p q (Has (User v)) b) (begun p q x b)
  lazy_alike p q x other v when.Choice b = either_way R (B owners seats) (U owners seats) (carries owners seats) (truth_of v) (begins (After p.links) x p.state) (otherwise other p.links p.state) (begins (After q.links) (expr_flat owners x) q.state) (otherwise (option_flat owners other) q.links q.state) (begun p q x b) (otherwise_alike p q other b)

  abbrev lazy_at : When → CoreExpr → Option CoreExpr → Along → Value → CoreNext
  lazy_at w x other p v = lazy x other p.links p.state v w

  value_alike : (p q : Along) (c : Current Mark) (y : CoreLink-F CoreLink CoreStat CoreCase CoreExpr) → IsUntouchedLink y → B owners seats p q
      → A (go_value (rows core) core c p.links p.state y) (go_value (rows core2) core2 c q.links q.state (flat_layer owners y))
  value_alike p q c (layer.Strict o xs site) is b = parts_alike p q o site c [] xs is b
  value_alike p q c (layer.Lazy w x other) is b =
      maybe R (B owners seats) (U owners seats) (carries owners seats) (user_at c) p.state q.state (lazy_at w x other p) (lazy_at w (expr_flat owners x) (option_flat owners other) q) (λ v. lazy_alike p q x other v w b)
  value_alike p q c (layer.Run body) is b = ran p q body b

  -- ---- references

  abbrev reads_by : Frame Mark CoreWork → Value → Key → CoreState → Config
  reads_by f base k st = with_control (Turn None (operation get_number base (key_operand k ∷ []))) (pushed f st)

  abbrev pub AfterFrames : Along → Along → CoreLink → CoreLink → Type 0
  AfterFrames p q l l2 = Frames owners seats p.state.context.environment
      (After (l ∷ p.links) ∷ p.state.context.frames) (After (l2 ∷ q.links) ∷ q.state.context.frames)

  pub after_frames : (p q : Along) (l : CoreLink) → write_in owners (out-CoreLink l) ≡ None → B owners seats p q → AfterFrames p q l (link_in owners (out-CoreLink l))
  after_frames p q l nothing (stand, (gs, r, below), is) =
      let o2 = opened owners (cells p.state) p.links in
      let l2 = link_in owners (out-CoreLink l) in
      let fs : List (Frame Mark CoreWork) = After (l ∷ p.links) ∷ p.state.context.frames in
      let w : Frames owners seats p.state.context.environment fs (After (opened_by (cells p.state) (write_in owners (out-CoreLink l)) l2 o2).links ∷ ((opened_by (cells p.state) (write_in owners (out-CoreLink l)) l2 o2).frames ++ gs)) = waits WaitsAfter (l ∷ p.links) r in
      let a = subst (λ o. Frames owners seats p.state.context.environment fs (After (opened_by (cells p.state) o l2 o2).links ∷ ((opened_by (cells p.state) o l2 o2).frames ++ gs))) nothing w in
      let b = subst (λ ls. Frames owners seats p.state.context.environment fs (After (l2 ∷ ls) ∷ (o2.frames ++ gs))) (sym is) a in
      subst (λ hs. Frames owners seats p.state.context.environment fs (After (l2 ∷ q.links) ∷ hs)) (sym below) b

  read_after : (p q : Along) (l : CoreLink) (base : Value) (k : Key) → write_in owners (out-CoreLink l) ≡ None → B owners seats p q
      → R (reads_by (After (l ∷ p.links)) base k p.state) (reads_by (After (link_in owners (out-CoreLink l) ∷ q.links)) base k q.state)
  read_after p q l base k nothing b =
      at_same _ tt (stand_pushed owners seats p.state q.state (After (l ∷ p.links)) (After (link_in owners (out-CoreLink l) ∷ q.links)) b.0) (after_frames p q l nothing b)

  abbrev pub FetchFrames : Along → Along → Value → Key → CoreOp → Option Site → Current Mark → List CoreExpr → Type 0
  FetchFrames p q base k o site c xs = Frames owners seats p.state.context.environment
      (Fetch base k (strict o site c [] xs p.links) ∷ p.state.context.frames) (Fetch base k (strict o site c [] (map (expr_flat owners) xs) q.links) ∷ q.state.context.frames)

  pub fetch_frames : (p q : Along) (base : Value) (k : Key) (o : CoreOp) (site : Option Site) (c : Current Mark) (xs : List CoreExpr) → B owners seats p q → FetchFrames p q base k o site c xs
  fetch_frames p q base k o site c xs (stand, (gs, r, below), is) =
      let o2 = opened owners (cells p.state) p.links in
      let fs : List (Frame Mark CoreWork) = Fetch base k (strict o site c [] xs p.links) ∷ p.state.context.frames in
      let w : Frames owners seats p.state.context.environment fs (Fetch base k (strict o site c [] (map (expr_flat owners) xs) o2.links) ∷ (o2.frames ++ gs)) = fetch base k (strict o site c [] xs p.links) r in
      let a = subst (λ ls. Frames owners seats p.state.context.environment fs (Fetch base k (strict o site c [] (map (expr_flat owners) xs) ls) ∷ (o2.frames ++ gs))) (sym is) w in
      subst (λ hs. Frames owners seats p.state.context.environment fs (Fetch base k (strict o site c [] (map (expr_flat owners) xs) q.links) ∷ hs)) (sym below) a

  take_alike : (p q : Along) (l : CoreLink) (base : Value) (k : Key) (o : CoreOp) (site : Option Site) (xs : List CoreExpr) (how : Taking)
      → IsUntouched o → write_in owners (out-CoreLink l) ≡ None → B owners seats p q
      → A (take (rows core) core base k (strict o site (Reference base k) [] xs p.links) l p.state how)
      (take (rows core2) core2 base k (strict o site (Reference base k) [] (map (expr_flat owners) xs) q.links) (link_in owners (out-CoreLink l)) q.state how)
  take_alike p q l base k o site xs AsPlace is nothing b = parts_alike p q o site (Reference base k) [] xs is b
  take_alike p q l base k o site xs WithValue is nothing b =
      (_, refl, at_same _ tt (stand_pushed owners seats p.state q.state (Fetch base k (strict o site (Reference base k) [] xs p.links)) (Fetch base k (strict o site (Reference base k) [] (map (expr_flat owners) xs) q.links)) b.0) (fetch_frames p q base k o site (Reference base k) xs b))
  take_alike p q l base k o site xs AsValue is nothing b = (_, refl, read_after p q l base k nothing b)

  reference_alike : (p q : Along) (l : CoreLink) (base : Value) (k : Key) (y : CoreLink-F CoreLink CoreStat CoreCase CoreExpr)
      → IsUntouchedLink y → write_in owners (out-CoreLink l) ≡ None → B owners seats p q
      → A (go_reference (rows core) core base k l p.links p.state y) (go_reference (rows core2) core2 base k (link_in owners (out-CoreLink l)) q.links q.state (flat_layer owners y))
  reference_alike p q l base k (layer.Strict o xs site) is nothing b = take_alike p q l base k o site xs (taking o) is nothing b
  reference_alike p q l base k (layer.Lazy w x other) is nothing b = (_, refl, read_after p q l base k nothing b)
  reference_alike p q l base k (layer.Run body) is nothing b = (_, refl, read_after p q l base k nothing b)

  -- ---- one link

  value_link : (p q : Along) (l : CoreLink) (c : Current Mark) → IsUntouchedLink (out-CoreLink l) → B owners seats p q
      → A (go_value (rows core) core c p.links p.state (out-CoreLink l)) (go_value (rows core2) core2 c q.links q.state (out-CoreLink (link_in owners (out-CoreLink l))))
  value_link p q l c is b =
      subst (λ y. A (go_value (rows core) core c p.links p.state (out-CoreLink l)) (go_value (rows core2) core2 c q.links q.state y)) (sym (layer_of owners (out-CoreLink l))) (value_alike p q c (out-CoreLink l) is b)

  link_alike : (p q : Along) (l : CoreLink) (c : Current Mark) → IsUntouchedLink (out-CoreLink l) → B owners seats p q
      → A (go_link (rows core) core l p.links p.state c) (go_link (rows core2) core2 (link_in owners (out-CoreLink l)) q.links q.state c)
  link_alike p q l (Reference base k) is b =
      subst (λ y. A (go_reference (rows core) core base k l p.links p.state (out-CoreLink l)) (go_reference (rows core2) core2 base k (link_in owners (out-CoreLink l)) q.links q.state y)) (sym (layer_of owners (out-CoreLink l)))
      (reference_alike p q l base k (out-CoreLink l) is (link_writes_nothing owners (out-CoreLink l) is) b)
  link_alike p q l (Has v) is b = value_link p q l (Has v) is b
  link_alike p q l (Old base k v) is b = value_link p q l (Old base k v) is b
  link_alike p q l (Method f receiver) is b = value_link p q l (Method f receiver) is b
  link_alike p q l (Hosted n) is b = value_link p q l (Hosted n) is b

  step_alike : (p q : Along) (l : CoreLink) (c : Current Mark) → IsUntouchedLink (out-CoreLink l) → B owners seats p q
      → A (core_step core (with_control (Go c (l ∷ p.links)) p.state)) (core_step core2 (with_control (Go c (link_in owners (out-CoreLink l) ∷ q.links)) q.state))
  unfolding step go
  step_alike p q l c is b = link_alike p q l c is b

pub links_go : UntouchedLinksKeepRelated
links_go core core2 owners seats l links c s t is stand below =
    let p : Along = record { links = links; state = s } in
    let q : Along = record { links = (opened owners (cell_along seats s.context.environment) links).links; state = t } in
    step_alike core core2 owners seats p q l c is (stand, below, refl)
