-- How a flattened expression begins, and how names are copied.
use Rattle.std.proofs.Common.{◌≡◌, ℕ, zero, suc, ◌+◌, Bool, true, false, ◌&&◌, cond, List, [], ◌∷◌, ◌++◌, Option, None, Some, length, nat_eq, slice_get, refl, sym, ap, subst, ◌∙◌}
use Rattle.std.specs.Option.{option_map}
use Rattle.std.specs.Prelude.{if◌then◌else◌}
use Rattle.std.proofs.lemmas.Bool.{ne_eqb}
use Rattle.std.proofs.lemmas.List.{append-nil, append_assoc}
use Rattle.runs.specs.Simulation.{Reaches}
use Rattle.es_outside.specs.declared.events.Site.{Site}
use Rattle.es_value.specs.declared.value.Value.{Value}
use Rattle.core_ast.specs.declared.parts.CoreHead.{CoreHead}
use Rattle.core_ast.specs.declared.parts.CoreHead.TheVariants as head
use Rattle.core_ast.specs.declared.parts.CoreOp.{CoreOp}
use Rattle.core_ast.specs.declared.parts.CoreOp.TheVariants as op
use Rattle.core_ast.specs.declared.parts.Var.{Var}
use Rattle.core_ast.specs.declared.tree.CoreCase.{CoreCase}
use Rattle.core_ast.specs.declared.tree.CoreExpr.{CoreExpr, out-CoreExpr, out-roll-CoreExpr}
use Rattle.core_ast.specs.declared.tree.CoreLink.{CoreLink, out-CoreLink}
use Rattle.core_ast.specs.declared.tree.CoreLink.TheOpen as layer
use Rattle.core_ast.specs.declared.tree.CoreLink.TheOpen.{CoreLink-F}
use Rattle.core_ast.specs.declared.tree.CoreStat.{CoreStat}
use Rattle.core_ast.specs.declared.whole.Core.{Core}
use Rattle.core_ast.specs.Made.{acting, expression, linked}
use Rattle.core_meaning.specs.Marks.{Cell, CoreState, CoreWork, Mark}
use Rattle.core_meaning.specs.Modules.{core_step}
use Rattle.core_meaning.specs.Names.{Resolved, initialize_found, initialized, resolve}
use Rattle.core_meaning.specs.Rows.{pushed, with_control}
use Rattle.core_meaning.specs.State.{Begin, CoreValue, Extra, Frame, Go, Has, Part}
use Rattle.pass_rules.specs.Cells.{is_shared}
use Rattle.pass_rules.specs.Scopes.{begun, copied, copies, expr_flat, stored}
use Rattle.cells_keep_runs.specs.Opened.{AllApart, AllHold, AllHoldValues, Apart, HoldsValue, WriteHolds, all_copied, begun_head, begun_links, copy_given, copy_steps, link_in, opened, opened_by, opening_steps, with_more_frames, write_in, write_steps, written_by}
use Rattle.cells_keep_runs.specs.Places.{rebound}
use Rattle.cells_keep_runs.specs.Shapes.{all_behind, behind, strict_behind}
use Rattle.cells_keep_runs.specs.Ways.{Holds, with_new_cell, with_own_cell, writing}
use Rattle.cells_keep_runs.proofs.Places.{seen}
use Rattle.cells_keep_runs.proofs.Shapes.{begun_and_linked}
use Rattle.cells_keep_runs.proofs.Ways.{Config, begin_write, copy_made, joined, open_behind, new_cell_open}

-- ---- an expression with a link more

abbrev behind_by : Option Var → CoreLink → Option Site → CoreHead → List CoreLink → CoreExpr
behind_by None l site h hs = expression site h (hs ++ l ∷ [])
behind_by (Some x) l site h hs = stored x (expression site h hs)

linked_is : (l : CoreLink) (site : Option Site) (h : CoreHead) (hs : List CoreLink) → linked (expression site h hs) l ≡ expression site h (hs ++ l ∷ [])
linked_is l site h hs = ap (λ y. expression y.site y.head (y.links ++ l ∷ [])) (out-roll-CoreExpr (record { site = site; head = h; links = hs }))

shared_by : (b : Bool) (x : Var) (l : CoreLink) (site : Option Site) (h : CoreHead) (hs : List CoreLink) → cond b (stored x (expression site h hs)) (linked (expression site h hs) l) ≡ behind_by (cond b (Some x) None) l site h hs
shared_by true x l site h hs = refl
shared_by false x l site h hs = linked_is l site h hs

strict_one : (owners : List ℕ) (o : CoreOp) (parts : List CoreExpr) (l : CoreLink) (site : Option Site) (h : CoreHead) (hs : List CoreLink) → strict_behind owners (expression site h hs) o parts l ≡ behind_by (written_by owners o) l site h hs
unfolding strict_behind written_by
strict_one owners (op.Set x) parts l site h hs = shared_by (is_shared owners x) x l site h hs
strict_one owners (op.Init x) parts l site h hs = shared_by (is_shared owners x) x l site h hs
strict_one owners o parts l site h hs = linked_is l site h hs

behind_one : (owners : List ℕ) (y : CoreLink-F CoreLink CoreStat CoreCase CoreExpr) (site : Option Site) (h : CoreHead) (hs : List CoreLink) → behind owners (expression site h hs) y ≡ behind_by (write_in owners y) (link_in owners y) site h hs
unfolding behind
behind_one owners (layer.Strict o parts place) site h hs = strict_one owners o parts (link_in owners (layer.Strict o parts place)) site h hs
behind_one owners (layer.Lazy w taken other) site h hs = linked_is (link_in owners (layer.Lazy w taken other)) site h hs
behind_one owners (layer.Run body) site h hs = linked_is (link_in owners (layer.Run body)) site h hs

begun_is : (owners : List ℕ) (site : Option Site) (h : CoreHead) → begun owners site h ≡ expression site (begun_head h) (begun_links owners h)
unfolding begun begun_head begun_links
begun_is owners site (head.Variable x) = refl
begun_is owners site (head.Copy xs) = refl
begun_is owners site h = refl

-- ---- what is first read

holds_under : (fs : List (Frame Mark CoreWork)) (st : CoreState) (x : Var) (n : ℕ) → Holds st x n → Holds (with_more_frames fs st) x n
unfolding resolve
holds_under fs st x n h = h

module _ (core : Core) (owners : List ℕ) (cell : Var → ℕ) where
  abbrev Opens : List CoreLink → Type 0
  Opens ls = (site : Option Site) (h : CoreHead) (hs : List CoreLink) (st : CoreState) → AllHold st owners cell ls
      → Reaches (core_step core) (opening_steps owners ls) (with_control (Begin (all_behind owners (expression site h hs) ls)) st)
      (with_control (Begin (expression site h (hs ++ (opened owners cell ls).links))) (with_more_frames (opened owners cell ls).frames st))

  opens_by : (w : Option Var) (k : CoreLink) (ls : List CoreLink) → Opens ls
      → (site : Option Site) (h : CoreHead) (hs : List CoreLink) (st : CoreState) → WriteHolds st cell w → AllHold st owners cell ls
      → Reaches (core_step core) (opening_steps owners ls + write_steps w) (with_control (Begin (all_behind owners (behind_by w k site h hs) ls)) st)
      (with_control (Begin (expression site h (hs ++ (opened_by cell w k (opened owners cell ls)).links))) (with_more_frames (opened_by cell w k (opened owners cell ls)).frames st))
  opens_by None k ls ih site h hs st held all =
      let o = opened owners cell ls in
      let s : Config = with_control (Begin (all_behind owners (expression site h (hs ++ k ∷ [])) ls)) st in
      joined core (opening_steps owners ls) 0 s (with_control (Begin (expression site h ((hs ++ k ∷ []) ++ o.links))) (with_more_frames o.frames st)) (with_control (Begin (expression site h (hs ++ k ∷ o.links))) (with_more_frames o.frames st))
      (ih site h (hs ++ k ∷ []) st all)
      (ap (λ ks. with_control (Begin (expression site h ks)) (with_more_frames o.frames st)) (append_assoc hs (k ∷ []) o.links))
  opens_by (Some x) k ls ih site h hs st held all =
      let o = opened owners cell ls in
      let e = expression site h hs in
      let u : CoreState = with_more_frames o.frames st in
      let to : Config = with_control (Begin (expression site h (hs ++ []))) (pushed (Part (writing (cell x) o.links)) u) in
      let on = joined core 2 0 (with_control (Begin (expression None (head.Variable x) (acting op.SetContent e ∷ o.links))) u) (with_control (Begin e) (pushed (Part (writing (cell x) o.links)) u)) to
      (begin_write core u x (cell x) e o.links (holds_under o.frames st x (cell x) held))
      (ap (λ ks. with_control (Begin (expression site h ks)) (pushed (Part (writing (cell x) o.links)) u)) (sym (append-nil hs))) in
      joined core (opening_steps owners ls) 2 (with_control (Begin (all_behind owners (stored x e) ls)) st) (with_control (Begin (expression None (head.Variable x) (acting op.SetContent e ∷ o.links))) u) to
      (ih None (head.Variable x) (acting op.SetContent e ∷ []) st all) on

  opens : (ls : List CoreLink) → Opens ls
  opens [] site h hs st all = ap (λ ks. with_control (Begin (expression site h ks)) st) (sym (append-nil hs))
  opens (l ∷ ls) site h hs st (held, all) =
      let is = behind_one owners (out-CoreLink l) site h hs in
      subst (λ e. Reaches (core_step core) (opening_steps owners (l ∷ ls)) (with_control (Begin (all_behind owners e ls)) st) (with_control (Begin (expression site h (hs ++ (opened owners cell (l ∷ ls)).links))) (with_more_frames (opened owners cell (l ∷ ls)).frames st)))
      (sym is)
      (opens_by (write_in owners (out-CoreLink l)) (link_in owners (out-CoreLink l)) ls (opens ls) site h hs st held all)

  pub begins : (x : CoreExpr) (st : CoreState) → AllHold st owners cell (out-CoreExpr x).links
      → Reaches (core_step core) (opening_steps owners (out-CoreExpr x).links) (with_control (Begin (expr_flat owners x)) st)
      (with_control (Begin (expression (out-CoreExpr x).site (begun_head (out-CoreExpr x).head) (begun_links owners (out-CoreExpr x).head ++ (opened owners cell (out-CoreExpr x).links).links))) (with_more_frames (opened owners cell (out-CoreExpr x).links).frames st))
  begins x st all =
      let y = out-CoreExpr x in
      let is = begun_and_linked owners x ∙ ap (λ e. all_behind owners e y.links) (begun_is owners y.site y.head) in
      subst (λ e. Reaches (core_step core) (opening_steps owners y.links) (with_control (Begin e) st) (with_control (Begin (expression y.site (begun_head y.head) (begun_links owners y.head ++ (opened owners cell y.links).links))) (with_more_frames (opened owners cell y.links).frames st)))
      (sym is) (opens y.links y.site (begun_head y.head) (begun_links owners y.head) st all)

-- ---- copies

still_there : {A : Type 0} (xs ys : List A) (n : ℕ) (x : A) → slice_get xs n ≡ Some x → slice_get (xs ++ ys) n ≡ Some x
still_there [] ys n x e = cc
still_there (y ∷ xs) ys zero x e = e
still_there (y ∷ xs) ys (suc n) x e = still_there xs ys n x e

not_rebound : (n : ℕ) (x : Var) (v : CoreValue Mark) (y : Var) (r : Resolved Mark) → (y.0 ≡ x.0 → ⊥) → rebound n x v y r ≡ r
not_rebound n x v y r ne =
    ap (λ t. if t && nat_eq r.at n then record r { binding = record r.binding { value = v } } else r) (ne_eqb y.0 x.0 ne)

held_by : (x : Var) (v : CoreValue Mark) (st : CoreState) (y : Var) (n : ℕ) (o : Option (Resolved Mark)) → (y.0 ≡ x.0 → ⊥) → Holds st y n → Holds (initialize_found x v st o) y n
unfolding resolve
held_by x v st y n None ne h = h
held_by x v st y n (Some r) ne (q, e, is) =
    (q, seen st.records r.at x v st.context.environment y ∙ ap (λ o. option_map (rebound r.at x v y) o) e ∙ ap (λ z. Some z) (not_rebound r.at x v y q ne), is)

pub held_behind : (x : Var) (v : CoreValue Mark) (st : CoreState) (y : Var) (n : ℕ) → (y.0 ≡ x.0 → ⊥) → Holds st y n → Holds (initialized x v st) y n
unfolding initialized
held_behind x v st y n ne h = held_by x v st y n (resolve st x) ne h

new_cell_held : (v : Option Value) (st : CoreState) (y : Var) (n : ℕ) → Holds st y n → Holds (with_new_cell v st) y n
unfolding resolve
new_cell_held v st y n h = h

cells_kept : (x : Var) (v : CoreValue Mark) (st : CoreState) → (initialized x v st).store ≡ st.store
unfolding initialized
cells_kept x v st = by_found (resolve st x)
  where
    by_found : (o : Option (Resolved Mark)) → (initialize_found x v st o).store ≡ st.store
    by_found None = refl
    by_found (Some r) = refl

value_kept : (x : Var) (w : Option Value) (st : CoreState) (y : Var) (v : Option Value) → (y.0 ≡ x.0 → ⊥) → HoldsValue st y v → HoldsValue (with_own_cell x w st) y v
value_kept x w st y v ne h =
    let c : CoreValue Mark = Extra (Cell (length st.store.cells)) in
    record {
      cell = h.cell;
      held = held_behind x c (with_new_cell w st) y h.cell ne (new_cell_held w st y h.cell h.held);
      there = ap (λ s. slice_get s.cells h.cell) (cells_kept x c (with_new_cell w st)) ∙ still_there st.store.cells (w ∷ []) h.cell v h.there;
      is_open = open_behind x c (with_new_cell w st) y (new_cell_open w st y h.is_open);
    }

module _ (core : Core) (owners : List ℕ) (content : Var → Option Value) where
  values_by : (x : Var) (b : Bool) (ys : List Var) (st : CoreState) → Apart x ys → AllHoldValues owners st content ys → AllHoldValues owners (cond b (with_own_cell x (content x) st) st) content ys
  values_by x b [] st apart h = tt
  values_by x true (y ∷ ys) st (ne, apart) (h, hs) = (λ shared. value_kept x (content x) st y (content y) ne (h shared), values_by x true ys st apart hs)
  values_by x false (y ∷ ys) st (ne, apart) h = h

  abbrev copied_by : Bool → Var → List CoreLink → List CoreLink
  copied_by b x ls = cond b (copied x ∷ ls) ls

  copy_by : (x : Var) (b : Bool) (w : CoreValue Mark) (ls : List CoreLink) (st : CoreState) → (b ≡ true → HoldsValue st x (content x))
      → Reaches (core_step core) (cond b 7 0) (with_control (Go (Has w) (cond b (copied x ∷ ls) ls)) st) (with_control (Go (Has (cond b (Extra (Cell (length st.store.cells))) w)) ls) (cond b (with_own_cell x (content x) st) st))
  copy_by x true w ls st h = let v = h refl in copy_made core st x v.cell (content x) w ls v.held v.is_open v.there
  copy_by x false w ls st h = refl

  links_by : (b : Bool) (x : Var) (ls more : List CoreLink) → (cond b (copied x ∷ ls) ls) ++ more ≡ cond b (copied x ∷ (ls ++ more)) (ls ++ more)
  links_by true x ls more = refl
  links_by false x ls more = refl

  pub copies_made : (xs : List Var) (w : CoreValue Mark) (links : List CoreLink) (st : CoreState) → AllApart xs → AllHoldValues owners st content xs
      → Reaches (core_step core) (copy_steps owners xs) (with_control (Go (Has w) (copies owners xs ++ links)) st) (with_control (Go (Has (copy_given owners content xs st w)) links) (all_copied owners content xs st))
  copies_made [] w links st apart h = refl
  copies_made (x ∷ xs) w links st (one, apart) (h, hs) =
      let b = is_shared owners x in
      let next : CoreState = cond b (with_own_cell x (content x) st) st in
      let given : CoreValue Mark = cond b (Extra (Cell (length st.store.cells))) w in
      let to : Config = with_control (Go (Has (copy_given owners content xs next given)) links) (all_copied owners content xs next) in
      subst (λ ls. Reaches (core_step core) (copy_steps owners (x ∷ xs)) (with_control (Go (Has w) ls) st) to) (sym (links_by b x (copies owners xs) links))
      (joined core (cond b 7 0) (copy_steps owners xs) (with_control (Go (Has w) (cond b (copied x ∷ (copies owners xs ++ links)) (copies owners xs ++ links))) st) (with_control (Go (Has given) (copies owners xs ++ links)) next) to
      (copy_by x b w (copies owners xs ++ links) st h)
      (copies_made xs given links next apart (values_by x b xs st one hs)))
