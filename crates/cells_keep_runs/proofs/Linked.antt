-- Links end alike, and references are read alike.
use Rattle.std.proofs.Common.{◌≡◌, ℕ, suc, Bool, true, false, cond, List, [], ◌∷◌, ◌++◌, map, Option, None, Some, refl, sym, ap, subst, ◌∙◌, inl, inr}
use Rattle.runs.specs.Run.{Goes}
use Rattle.runs.specs.Simulation.{Reaches}
use Rattle.es_outside.specs.declared.events.Site.{Site}
use Rattle.es_value.specs.declared.value.Value.{Value}
use Rattle.es_value.specs.declared.value.Value.TheVariants as value
use Rattle.es_heap.specs.declared.key.Key.{Key}
use Rattle.es_operations.specs.Numbers.{get_number}
use Rattle.es_operations.specs.Steps.{operation}
use Rattle.es_operations.specs.Turning.{key_operand}
use Rattle.core_ast.specs.declared.parts.CoreOp.TheVariants as op
use Rattle.core_ast.specs.declared.parts.Var.{Var}
use Rattle.core_ast.specs.declared.tree.CoreExpr.{CoreExpr}
use Rattle.core_ast.specs.declared.tree.CoreLink.{CoreLink, out-CoreLink}
use Rattle.core_ast.specs.declared.tree.CoreLink.TheOpen as layer
use Rattle.core_ast.specs.declared.tree.CoreLink.TheVariants as link
use Rattle.core_ast.specs.declared.whole.Core.{Core}
use Rattle.core_meaning.specs.Marks.{Cell, CoreNext, CoreState, CoreWork, Mark}
use Rattle.core_meaning.specs.Modules.{core_step, rows}
use Rattle.core_meaning.specs.Names.{stored_at}
use Rattle.core_meaning.specs.Rows.{pushed, with_control, with_frames}
use Rattle.core_meaning.specs.State.{After, CoreValue, Current, Environment, Extra, Frame, Gives, Go, Hand, Has, Hosted, Made, Making, Method, Old, Operation, Part, Reference, Turn, User}
use Rattle.core_meaning.specs.Step.{given, go, go_end, go_reference, go_value, hand, step}
use Rattle.pass_rules.specs.Cells.{is_shared}
use Rattle.pass_rules.specs.Scopes.{expr_flat}
use Rattle.cells_keep_runs.specs.Alike.{Alike, Along, Config, IsPlain, strict}
use Rattle.cells_keep_runs.specs.Begun.{Matched}
use Rattle.cells_keep_runs.specs.Linked.{CellsTakeReads, CopiesAreDropped, CopiesGoOnAlike, LinksEndAlike, ReferencesAreReadAlike}
use Rattle.cells_keep_runs.specs.Opened.{Opened, if_shared, link_in, opened, opened_by, write_in}
use Rattle.cells_keep_runs.specs.Passed.{placed}
use Rattle.cells_keep_runs.specs.Related.{Currents, DropsHere, Frames, Related, Seats, Stand, at_copy, at_expression, at_same, at_statements, behind_copy, catching, cell_along, choice, derived, fetch, finishing, instantiates, loop_body, loop_test, loop_update, matching, none, part, pending, plain, prototype, rest, restore, resumes, returning, same_current, starts, subject, target, then_part, throwing, Waits, WaitsAfter, WaitsBehind, WaitsKeyed, WaitsToStore, WaitsToStep, WaitsSpread, WaitsSpreadStep, WaitsSpreadValue, WaitsHeritage, WaitsPrototype, WaitsYield, WaitsDelegate, WaitsDelegateStart, WaitsDelegateTurn, WaitsDelegateDone, WaitsDelegateValue, waiting, waits, waits_for_cell}
use Rattle.cells_keep_runs.specs.Seen.{IsWrite}
use Rattle.cells_keep_runs.proofs.Carried.{B, stand_pushed, stand_source}
use Rattle.cells_keep_runs.proofs.Ended.{stand_under}
use Rattle.cells_keep_runs.proofs.Links.{after_frames}
use Rattle.cells_keep_runs.proofs.Seen.{link_is, names_written, write_is, writes_step}
use Rattle.cells_keep_runs.proofs.Statements.{loop_alike}
use Rattle.cells_keep_runs.proofs.Taken.{part_pushed}
use Rattle.cells_keep_runs.proofs.Ways.{go_end as go_ends}

abbrev Frames1 : Type 0
Frames1 = List (Frame Mark CoreWork)

module _ (core core2 : Core) (owners : List ℕ) (seats : Seats) where
  abbrev R : Config → Config → Type 0
  R = Related owners seats

  abbrev A : CoreNext → CoreNext → Type 0
  A = Alike R

  abbrev At : CoreState → Frames1 → Frames1 → Type 0
  At s fs gs = Frames owners seats s.context.environment fs gs

  -- ---- the end of links

  ends_same : (c : Current Mark) (s t : CoreState) → Stand owners seats s t → At s s.context.frames t.context.frames → A (go_end s c) (go_end t c)
  ends_same (Has v) s t stand r = (_, refl, at_same (Hand (Gives v)) tt stand r)
  ends_same (Reference base k) s t stand r = (_, refl, at_same (Turn None (operation get_number base (key_operand k ∷ []))) tt stand r)
  ends_same (Old base k v) s t stand r = tt
  ends_same (Method f v) s t stand r = tt
  ends_same (Hosted n) s t stand r = tt

  ends_by : (c d : Current Mark) (s t : CoreState) → Currents s.context.frames [] c d → Stand owners seats s t → At s s.context.frames t.context.frames → A (go_end s c) (go_end t d)
  ends_by c d s t same_current stand r = ends_same c s t stand r
  ends_by c d s t (behind_copy {n = n} drops) stand r = (_, refl, at_copy n drops stand r)

  -- ---- behind a copy

  abbrev undefined : CoreValue Mark
  undefined = User value.Undefined

  abbrev cell : ℕ → CoreValue Mark
  cell n = Extra (Cell n)

  waits_keep : (w : Waits) (ls : List CoreLink) (fs : Frames1) → DropsHere (waiting w ls ∷ fs) → ⊥
  waits_keep WaitsAfter ls fs h = h
  waits_keep (WaitsBehind v) ls fs h = h
  waits_keep (WaitsKeyed base) ls fs h = h
  waits_keep (WaitsToStore base k) ls fs h = h
  waits_keep (WaitsToStep u base k) ls fs h = h
  waits_keep (WaitsSpread list) ls fs h = h
  waits_keep (WaitsSpreadStep list it) ls fs h = h
  waits_keep (WaitsSpreadValue list it) ls fs h = h
  waits_keep (WaitsHeritage f heritage) ls fs h = h
  waits_keep WaitsPrototype ls fs h = h
  waits_keep WaitsYield ls fs h = h
  waits_keep (WaitsDelegate it) ls fs h = h
  waits_keep WaitsDelegateStart ls fs h = h
  waits_keep (WaitsDelegateTurn it kind v) ls fs h = h
  waits_keep (WaitsDelegateDone it kind v) ls fs h = h
  waits_keep (WaitsDelegateValue kind) ls fs h = h

  plain_keeps : (f : Frame Mark CoreWork) (fs : Frames1) → IsPlain f → DropsHere (f ∷ fs) → ⊥
  plain_keeps (Operation site c) fs is h = h
  plain_keeps (Making f args new) fs is h = h
  plain_keeps (Made o) fs is h = h
  plain_keeps f fs is h = is

  dropped : (n : ℕ) (e : Environment) (fs gs : Frames1) (s t : CoreState) → DropsHere fs → Stand owners seats (placed e fs s) (with_frames gs t) → Frames owners seats e fs gs
      → A (hand (rows core) core (placed e fs s) (Gives undefined) fs) (hand (rows core2) core2 (with_frames gs t) (Gives (cell n)) gs)
  unfolding hand given
  dropped n e fs gs s t drops stand none = absurd drops
  dropped n e fs gs s t drops stand (rest {e = e2} {e2 = e3} {fs = fs2} {fs2 = fs3} {gs = gs2} {ys = ys} xs tail r) =
      (_, refl, at_statements xs (stand_under core core2 owners seats e2 fs gs fs2 gs2 s t stand) (e3, fs3, tail, r))
  dropped n e fs gs s t drops stand (loop_update {e = e2} {fs = fs2} {gs = gs2} l r) =
      loop_alike core core2 owners seats (placed e2 fs2 s) (with_frames gs2 t) l l.test (stand_under core core2 owners seats e2 fs gs fs2 gs2 s t stand) r
  dropped n e fs gs s t drops stand (plain {fs = fs2} {f = f} is r) = absurd (plain_keeps f fs2 is drops)
  dropped n e fs gs s t drops stand (waits {fs = fs2} w ls r) = absurd (waits_keep w ls fs2 drops)
  dropped n e fs gs s t drops stand (waits_for_cell x l ls w r) = absurd drops
  dropped n e fs gs s t drops stand (part p w r) = absurd drops
  dropped n e fs gs s t drops stand (fetch base k p r) = absurd drops
  dropped n e fs gs s t drops stand (choice body cases r) = absurd drops
  dropped n e fs gs s t drops stand (subject cases r) = absurd drops
  dropped n e fs gs s t drops stand (matching w cases all r) = absurd drops
  dropped n e fs gs s t drops stand (loop_test l r) = absurd drops
  dropped n e fs gs s t drops stand (loop_body l r) = absurd drops
  dropped n e fs gs s t drops stand (target label r) = absurd drops
  dropped n e fs gs s t drops stand (returning r) = absurd drops
  dropped n e fs gs s t drops stand (throwing r) = absurd drops
  dropped n e fs gs s t drops stand (catching x names handler r) = absurd drops
  dropped n e fs gs s t drops stand (finishing last r) = absurd drops
  dropped n e fs gs s t drops stand (pending w r) = absurd drops
  dropped n e fs gs s t drops stand (restore away r) = absurd drops
  dropped n e fs gs s t drops stand (derived m r) = absurd drops
  dropped n e fs gs s t drops stand (instantiates body r) = absurd drops
  dropped n e fs gs s t drops stand (prototype body r) = absurd drops
  dropped n e fs gs s t drops stand (starts body r) = absurd drops
  dropped n e fs gs s t drops stand (resumes m r) = absurd drops

  then_goes : (n : ℕ) (x : CoreExpr) (site : Option Site) (p q : Along) → B owners seats p q
      → A (go_value (rows core) core (Has undefined) p.links p.state (layer.Strict op.Then (x ∷ []) site)) (go_value (rows core2) core2 (Has (cell n)) q.links q.state (layer.Strict op.Then (map (expr_flat owners) (x ∷ [])) site))
  then_goes n x site p q b = (
    _,
    refl,
    at_expression x (stand_pushed owners seats p.state q.state (Part (strict op.Then site (Has undefined) [] [] p.links)) (Part (strict op.Then site (Has (cell n)) [] [] q.links)) b.0)
        (part_pushed core core2 owners seats p q op.Then site (Has undefined) (Has (cell n)) [] [] (then_part n refl refl) b),
  )

  -- ---- references

  abbrev get_of : Value → Key → CoreState → Config
  get_of base k st = with_control (Turn None (operation get_number base (key_operand k ∷ []))) st

  reads_step : (x : Core) (l : CoreLink) (ls : List CoreLink) (y : Var) (site : Option Site) (base : Value) (k : Key) (st : CoreState) → IsWrite l y site
      → core_step x (with_control (Go (Reference base k) (l ∷ ls)) st) ≡ Goes (get_of base k (pushed (After (l ∷ ls)) st))
  unfolding step go
  reads_step x l ls y site base k st (inl is) = ap (λ z. go_reference (rows x) x base k l ls st z) is
  reads_step x l ls y site base k st (inr is) = ap (λ z. go_reference (rows x) x base k l ls st z) is

  get_step : (x : Core) (base : Value) (k : Key) (st : CoreState) → core_step x (with_control (Go (Reference base k) []) st) ≡ Goes (get_of base k st)
  unfolding step go
  get_step x base k st = refl

module _ (core core2 : Core) (owners : List ℕ) (seats : Seats) (l : CoreLink) (links : List CoreLink) (x : Var) (site : Option Site) (base : Value) (k : Key) (s t : CoreState) (is : IsWrite l x site) (stand : Stand owners seats s t) where
  abbrev along : Var → ℕ
  along = cell_along seats s.context.environment

  abbrev others : Opened
  others = opened owners along links

  abbrev flat : CoreLink
  flat = link_in owners (out-CoreLink l)

  abbrev BelowBy : Option Var → Type 0
  BelowBy w = (gs : Frames1) × Frames owners seats s.context.environment s.context.frames gs × (t.context.frames ≡ (opened_by along w flat others).frames ++ gs)

  abbrev GoalBy : Option Var → Type 0
  GoalBy w = Alike (Related owners seats) (core_step core (with_control (Go (Reference base k) (l ∷ links)) s)) (core_step core2 (with_control (Go (Reference base k) (opened_by along w flat others).links) t))

  read_plain : write_in owners (out-CoreLink l) ≡ None → BelowBy None → GoalBy None
  read_plain nothing below =
      let p : Along = record { links = links; state = s } in
      let q : Along = record { links = others.links; state = t } in
      let b : B owners seats p q = (stand, below, refl) in
      let to : Config = get_of core core2 owners seats base k (pushed (After (flat ∷ others.links)) t) in
      let at : Related owners seats (get_of core core2 owners seats base k (pushed (After (l ∷ links)) s)) to =
      at_same _ tt (stand_pushed owners seats s t (After (l ∷ links)) (After (flat ∷ others.links)) stand) (after_frames core core2 owners seats p q l nothing b) in
      subst (λ n. Alike (Related owners seats) n (core_step core2 (with_control (Go (Reference base k) (flat ∷ others.links)) t))) (sym (reads_step core core2 owners seats core l links x site base k s is))
      (to, reads_step core core2 owners seats core2 flat others.links x site base k t (link_is owners l x site is), at)

  read_shared : write_in owners (out-CoreLink l) ≡ Some x → BelowBy (Some x) → GoalBy (Some x)
  read_shared writes (gs, r, below) =
      let to : Config = get_of core core2 owners seats base k t in
      let frames : Frames owners seats s.context.environment (After (l ∷ links) ∷ s.context.frames) t.context.frames =
      subst (λ hs. Frames owners seats s.context.environment (After (l ∷ links) ∷ s.context.frames) hs) (sym below) (waits_for_cell x l links writes r) in
      let at : Related owners seats (get_of core core2 owners seats base k (pushed (After (l ∷ links)) s)) to =
      at_same _ tt (stand_source owners seats s t (After (l ∷ links)) stand) frames in
      subst (λ n. Alike (Related owners seats) n (core_step core2 (with_control (Go (Reference base k) []) t))) (sym (reads_step core core2 owners seats core l links x site base k s is))
      (to, get_step core core2 owners seats core2 base k t, at)

  read_by : (b : Bool) → is_shared owners x ≡ b → BelowBy (cond b (Some x) None) → GoalBy (cond b (Some x) None)
  read_by true shared below = read_shared (write_is owners l x site is ∙ ap (λ b. cond b (Some x) None) shared) below
  read_by false shared below = read_plain (write_is owners l x site is ∙ ap (λ b. cond b (Some x) None) shared) below

pub links_end : LinksEndAlike
unfolding step go
links_end core core2 owners seats c d s t currents stand r = ends_by core core2 owners seats c d s t currents stand r

pub copies_dropped : CopiesAreDropped
unfolding step
copies_dropped core core2 owners seats n s t drops stand r = dropped core core2 owners seats n s.context.environment s.context.frames t.context.frames s t drops stand r

pub copies_go_on : CopiesGoOnAlike
unfolding step go
copies_go_on core core2 owners seats n l links x site s t is stand below =
    let ls2 = (opened owners (cell_along seats s.context.environment) links).links in
    let p : Along = record { links = links; state = s } in
    let q : Along = record { links = ls2; state = t } in
    let flat_is : out-CoreLink (link_in owners (out-CoreLink l)) ≡ layer.Strict op.Then (map (expr_flat owners) (x ∷ [])) site =
    ap (λ y. out-CoreLink (link_in owners y)) is ∙ link.outs-Strict op.Then (map (expr_flat owners) (x ∷ [])) site in
    subst (λ y. Alike (Related owners seats) (go_value (rows core) core (Has (User value.Undefined)) links s y) (core_step core2 (with_control (Go (Has (Extra (Cell n))) (link_in owners (out-CoreLink l) ∷ ls2)) t))) (sym is)
    (subst (λ y. Alike (Related owners seats) (go_value (rows core) core (Has (User value.Undefined)) links s (layer.Strict op.Then (x ∷ []) site)) (go_value (rows core2) core2 (Has (Extra (Cell n))) ls2 t y)) (sym flat_is)
    (then_goes core core2 owners seats n x site p q (stand, below, refl)))

pub references_read : ReferencesAreReadAlike
references_read core core2 owners seats l links x site base k s t is stand below =
    let w : write_in owners (out-CoreLink l) ≡ if_shared owners x = write_is owners l x site is in
    subst (λ o. GoalBy core core2 owners seats l links x site base k s t is stand o) (sym w)
    (read_by core core2 owners seats l links x site base k s t is stand (is_shared owners x) refl (subst (λ o. BelowBy core core2 owners seats l links x site base k s t is stand o) w below))

-- ---- a shared name that takes what was read

same_next : (a b : Config) (n : CoreNext) → n ≡ Goes a → n ≡ Goes b → a ≡ b
same_next a b n p q = cc

after_hand : (core : Core) (v : CoreValue Mark) (ls : List CoreLink) (st : CoreState) → core_step core (with_control (Hand (Gives v)) (pushed (After ls) st)) ≡ Goes (with_control (Go (Has v) ls) st)
unfolding step hand given
after_hand core v ls st = refl

pub cells_take : CellsTakeReads
cells_take core core2 owners seats l links x site v r s t is shared found may sees held stand below =
    let along2 = cell_along seats s.context.environment in
    let source_step = writes_step core l links x site v r s is found may in
    let to : Config = with_control (Go (Has v) links) (stored_at r.at x v s) in
    let m = names_written core core2 owners seats l links x site v r s t is found may sees (λ h. held) stand below in
    let m2 : Matched (Related owners seats) core2 (Goes to) (with_control (Go (Has v) (opened owners along2 (l ∷ links)).links) t) =
    subst (λ n. Matched (Related owners seats) core2 n (with_control (Go (Has v) (opened owners along2 (l ∷ links)).links) t)) source_step m in
    let w : write_in owners (out-CoreLink l) ≡ Some x = write_is owners l x site is ∙ ap (λ b. cond b (Some x) None) shared in
    let empty : (opened owners along2 (l ∷ links)).links ≡ [] = ap (λ o. (opened_by along2 o (link_in owners (out-CoreLink l)) (opened owners along2 links)).links) w in
    let way : Reaches (core_step core2) (suc m2.0) (with_control (Go (Has v) []) t) m2.1 = subst (λ ls. Reaches (core_step core2) (suc m2.0) (with_control (Go (Has v) ls) t) m2.1) empty m2.2 in
    let first : way.0 ≡ with_control (Hand (Gives v)) t = same_next way.0 (with_control (Hand (Gives v)) t) (core_step core2 (with_control (Go (Has v) []) t)) way.1 (go_ends core2 v t) in (
      m2.0,
      m2.1,
      (_, after_hand core v (l ∷ links) s, (_, source_step, refl)),
      subst (λ c. Reaches (core_step core2) m2.0 c m2.1) first way.2,
      m2.3,
    )
