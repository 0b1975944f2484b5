-- A configuration whose code fits is ready where both machines find the names, or its step leaves.
use Rattle.std.proofs.Common.{◌≡◌, ◌⊎◌, inl, inr, ℕ, Bool, true, false, List, [], ◌∷◌, ◌++◌, map, Option, None, Some, slice_get, refl, sym, subst, ap, ◌∙◌}
use Rattle.std.specs.Prelude.{◌&&◌, ◌||◌, cond, is_some, nat_eq, not}
use Rattle.std.proofs.lemmas.Bool.{and_parts, eq-eqb}
use Rattle.shared_meaning.specs.Ending.{Exit}
use Rattle.runs.specs.Run.{Leaves}
use Rattle.es_outside.specs.declared.events.Site.{Site}
use Rattle.es_value.specs.declared.value.ObjId.{ObjId}
use Rattle.es_value.specs.declared.value.Value.{Value}
use Rattle.es_value.specs.declared.value.Value.TheVariants as value
use Rattle.es_heap.specs.Heaps.{object_at}
use Rattle.es_heap.specs.declared.class.Class.{Class}
use Rattle.es_heap.specs.declared.class.Class.TheVariants as class
use Rattle.core_ast.specs.declared.parts.CoreHead.{CoreHead}
use Rattle.core_ast.specs.declared.parts.CoreHead.TheVariants as head
use Rattle.core_ast.specs.declared.parts.CoreOp.{CoreOp}
use Rattle.core_ast.specs.declared.parts.CoreOp.TheVariants as op
use Rattle.core_ast.specs.declared.parts.FunctionId.{FunctionId}
use Rattle.core_ast.specs.declared.parts.Primitive.{Primitive}
use Rattle.core_ast.specs.declared.parts.Primitive.TheVariants as primitive
use Rattle.core_ast.specs.declared.parts.ScopedName.{ScopedName}
use Rattle.core_ast.specs.declared.parts.Var.{Var}
use Rattle.core_ast.specs.declared.tree.CoreCase.{CoreCase}
use Rattle.core_ast.specs.declared.tree.CoreExpr.{CoreExpr, out-CoreExpr}
use Rattle.core_ast.specs.declared.tree.CoreLink.{CoreLink, out-CoreLink}
use Rattle.core_ast.specs.declared.tree.CoreLink.TheOpen as layer
use Rattle.core_ast.specs.declared.tree.CoreLink.TheOpen.{CoreLink-F, CoreStat-F}
use Rattle.core_ast.specs.declared.tree.CoreStat.{CoreStat, out-CoreStat}
use Rattle.core_ast.specs.declared.whole.Core.{Core}
use Rattle.core_ast.specs.declared.whole.CoreFunction.{CoreFunction}
use Rattle.core_meaning.specs.Calls.{call_class, call_value, enter, within_call}
use Rattle.core_meaning.specs.Expressions.{function_at}
use Rattle.core_meaning.specs.Generators.{run_body}
use Rattle.core_meaning.specs.Marks.{Arguments, Cell, CoreState, CoreWork, Empty, Heritage, Mark, Own, PrototypeFor, Resumed, Unmade}
use Rattle.core_meaning.specs.Modules.{rows}
use Rattle.core_meaning.specs.Rows.{with_frames, with_option}
use Rattle.core_meaning.specs.State.{After, Begin, Call, Calls, Catching, Closure, Completion, Control, CoreValue, Current, Done, Environment, Extra, Fetch, Frame, Gives, Go, Hand, Has, Jumps, Part, Returns, Run, Throws, Turn, User, Work}
use Rattle.core_meaning.specs.Step.{step, step_by}
use Rattle.pass_rules.specs.Cells.{is_among, is_shared}
use Rattle.pass_rules.specs.Scopes.{vars}
use Rattle.pass_rules.proofs.pass_laws.Related.{in_link, in_stat}
use Rattle.cells_keep_runs.specs.Acted.{IsAlikeOp}
use Rattle.cells_keep_runs.specs.Alike.{Config}
use Rattle.cells_keep_runs.specs.Copied.{GoesToThen, NoWrites}
use Rattle.cells_keep_runs.specs.Entered.{reset_of}
use Rattle.cells_keep_runs.specs.Fitting.{HasFunction, Joint, Naming, any_shapes, are_some, caught_fits, expr_fits, first_goes_on, fit_standing, head_fits, is_marked, is_one, joint_of, link_step, list_fits, may_assign, names_fit, none_writes, stat_fits, stat_step}
use Rattle.cells_keep_runs.specs.Floors.{ControlAt, CurrentFits, Fetches, Fits, FrameAt, FramesAt, HandAt, Holds, MayAssign, NotHeld, PartOp, RecordsFit, Standing, ToHold, ToMake, Wanted, floor_of, part_wanted, under, wanted_along, wanted_by, wanted_in}
use Rattle.cells_keep_runs.specs.Owed.{ControlFound, FittingIsReady, FunctionKept, GivesFound, GoesFound, HandFound, HeadFound, LinkFound, ListFound, NameFound, OpFound, PartsFound, ReadyOrLeaves, ScopeFound, StatFound, ThrowFound, ValuesFound}
use Rattle.cells_keep_runs.specs.Memory.{Keeping, Seats}
use Rattle.cells_keep_runs.specs.Opened.{write_in, written_by}
use Rattle.cells_keep_runs.specs.Ready.{AllMarked, CallReady, ControlReady, EndReady, FunctionSeen, GivesReady, GoesReady, HandReady, HandlerReady, HeadReady, LinkReady, ListReady, OpReady, PartsReady, ScopeReady, StatReady, ThrowReady, ValuesSeen, WriteReady, Writes}
use Rattle.cells_keep_runs.specs.Related.{IsThen}
use Rattle.cells_keep_runs.specs.Renewed.{AllDiffer, ApartFrom, NoValue, OwnCell, renewed_name}
use Rattle.cells_keep_runs.specs.Turned.{CallsNoClosure, IsNoClosure}
use Rattle.cells_keep_runs.specs.Writes.{IsHeld}
use Rattle.cells_keep_runs.proofs.Anew.{in_scope}
use Rattle.cells_keep_runs.proofs.Fitted.{expr_fitting, head_of, link_fitting, link_of, link_out, not_true, stat_fitting, test_fold}
use Rattle.cells_keep_runs.proofs.Floored.{FoundAt, LastFits, St, fits_held, found, last_fits}
use Rattle.cells_keep_runs.proofs.Writes.{differ}

-- ---- values and operations

held : (v : CoreValue Mark) → Holds v → IsHeld v
held (User v) at = refl
held (Extra Empty) at = refl
held (Extra (Arguments vs)) at = absurd at
held (Extra (Cell n)) at = absurd at
held (Extra (Unmade f)) at = absurd at
held (Extra (Resumed k v)) at = absurd at

primitive_ready : (q : Primitive) → PartOp (op.Primitive q) → OpReady (op.Primitive q)
unfolding IsAlikeOp
primitive_ready (primitive.CellMake x) at = absurd at
primitive_ready q at = tt

part_ready : (o : CoreOp) → PartOp o → OpReady o
unfolding IsAlikeOp
part_ready (op.Set x) at = absurd at
part_ready (op.Init x) at = absurd at
part_ready (op.StepVariable u x) at = absurd at
part_ready op.Content at = absurd at
part_ready op.SetContent at = absurd at
part_ready (op.Primitive q) at = primitive_ready q at
part_ready o at = tt

fetch_ready : (o : CoreOp) → Fetches o → IsAlikeOp o
unfolding IsAlikeOp
fetch_ready op.Call at = tt
fetch_ready (op.Update b) at = tt
fetch_ready (op.Step u) at = tt
fetch_ready o at = absurd at

-- ---- names of scopes

module _ (k : Naming) where
  marked_by : (shared is : Bool) → cond shared is (not is) ≡ true → is ≡ shared
  marked_by true is at = at
  marked_by false is at = not_true is at

  renewed_is : (n : ScopedName) (b : Bool) → renewed_name (cond b (OwnCell n.var None) (NoValue n.var)) ≡ n.var
  renewed_is n true = refl
  renewed_is n false = refl

  -- a name is none of those behind it
  abbrev Parted : ScopedName → List ScopedName → Type 0
  Parted n names = (is_marked k.owners n && may_assign k.fixed n ≡ true) × (is_among n.var (vars names) ≡ false) × (names_fit k names ≡ true)

  parted : (n : ScopedName) (names : List ScopedName) → names_fit k (n ∷ names) ≡ true → Parted n names
  parted n names is =
      let both = and_parts (is_marked k.owners n && may_assign k.fixed n) (not (is_among n.var (vars names)) && names_fit k names) is in
      let more = and_parts (not (is_among n.var (vars names))) (names_fit k names) both.1 in
      (both.0, not_true (is_among n.var (vars names)) more.0, more.1)

  pub all_marked : (names : List ScopedName) → names_fit k names ≡ true → AllMarked k.owners names
  all_marked [] is = tt
  all_marked (n ∷ names) is =
      let p = parted n names is in
      (marked_by n.shared (is_shared k.owners n.var) (and_parts (is_marked k.owners n) (may_assign k.fixed n) p.0).0, all_marked names p.2)

  neither : (a b : Bool) → a || b ≡ false → (a ≡ false) × (b ≡ false)
  neither true b is = cc
  neither false b is = (refl, is)

  differs : (n m : ℕ) → nat_eq m n ≡ false → m ≡ n → ⊥
  differs n m is same = absurd (differ (nat_eq m n) (eq-eqb m n same) is)

  apart_of : (x : Var) (names : List ScopedName) → is_among x (vars names) ≡ false → ApartFrom x (map reset_of names)
  apart_of x [] is = tt
  apart_of x (n ∷ names) is =
      let both = neither (nat_eq n.var.0 x.0) (is_among x (vars names)) is in
      let no : n.var.0 ≡ x.0 → ⊥ = differs x.0 n.var.0 both.0 in
      (subst (λ y. y.0 ≡ x.0 → ⊥) (sym (renewed_is n n.shared)) no, apart_of x names both.1)

  pub all_differ : (names : List ScopedName) → names_fit k names ≡ true → AllDiffer (map reset_of names)
  all_differ [] is = tt
  all_differ (n ∷ names) is =
      let p = parted n names is in
      (subst (λ y. ApartFrom y (map reset_of names)) (sym (renewed_is n n.shared)) (apart_of n.var names p.1), all_differ names p.2)

  scope_ready : (seats : Seats) (s : CoreState) (names : List ScopedName) → names_fit k names ≡ true → ScopeFound seats s names → ScopeReady k.owners seats s names
  scope_ready seats s names is f = record {
    number = f.number;
    seat = f.seat;
    home = f.home;
    seated = f.seated;
    image = f.image;
    at = f.at;
    differ = all_differ names is;
    marked = all_marked names is;
    locals = f.locals;
    clear = f.clear;
    unkept = f.unkept;
  }

  some_names : (names : List ScopedName) → are_some names ≡ true → names ≡ [] → ⊥
  some_names [] is none = absurd (differ false is refl)
  some_names (n ∷ names) is none = cc

  -- ---- what a link writes

  unwritten : (o : Option Var) → not (is_some o) ≡ true → o ≡ None
  unwritten None is = refl
  unwritten (Some x) is = cc

  shared_name : (x y : Var) (b : Bool) → cond b (Some x) None ≡ Some y → x ≡ y
  shared_name x y true is = cc
  shared_name x y false is = cc

module _ (core : Core) (k : Naming) (kept : Keeping) (seats : Seats) where
  abbrev K : Standing
  K = fit_standing core k

  abbrev Layer : Type 0
  Layer = CoreLink-F CoreLink CoreStat CoreCase CoreExpr

  -- what fits of a link
  abbrev LinkFits : Layer → Wanted → Type 0
  LinkFits y w = (link_step k (in_link (test_fold core k any_shapes) y)).fits w ≡ true

  -- a link that writes a name, and whether it assigns it
  pub record WriteFacts (y : Layer) (x : Var) : Type 0 where
    pub site : Option Site
    pub is : (y ≡ layer.Strict (op.Set x) [] site) ⊎ (y ≡ layer.Strict (op.Init x) [] site)
    pub may : (other : Option Site) → y ≡ layer.Strict (op.Set x) [] other → k.fixed x ≡ false

  set_facts : (x : Var) (parts : List CoreExpr) (site : Option Site) → (parts ≡ []) × (k.fixed x ≡ false) → WriteFacts (layer.Strict (op.Set x) parts site) x
  set_facts x parts site (none, fixed) = record { site = site; is = inl (ap (λ ps. layer.Strict (op.Set x) ps site) none); may = λ other is. fixed }

  no_set : (x : Var) (parts : List CoreExpr) (site other : Option Site) (y : Layer) → y ≡ layer.Strict (op.Init x) parts site → y ≡ layer.Strict (op.Set x) [] other → ⊥
  no_set x parts site other y is is2 = cc

  init_facts : (x : Var) (parts : List CoreExpr) (site : Option Site) → parts ≡ [] → WriteFacts (layer.Strict (op.Init x) parts site) x
  init_facts x parts site none = record {
    site = site;
    is = inr (ap (λ ps. layer.Strict (op.Init x) ps site) none);
    may = λ other is. absurd (no_set x parts site other (layer.Strict (op.Init x) parts site) refl is);
  }

  write_facts : (y : Layer) (w : Wanted) (x : Var) → LinkFits y w → write_in k.owners y ≡ Some x → WriteFacts y x
  unfolding written_by
  write_facts (layer.Strict (op.Set z) parts site) w x at is =
      let same : z ≡ x = shared_name k z x (is_shared k.owners z) is in
      subst (λ v. WriteFacts (layer.Strict (op.Set z) parts site) v) same (set_facts z parts site (link_of core k any_shapes [] w (layer.Strict (op.Set z) parts site) at).0)
  write_facts (layer.Strict (op.Init z) parts site) w x at is =
      let same : z ≡ x = shared_name k z x (is_shared k.owners z) is in
      subst (λ v. WriteFacts (layer.Strict (op.Init z) parts site) v) same (init_facts z parts site (link_of core k any_shapes [] w (layer.Strict (op.Init z) parts site) at).0)
  write_facts (layer.Strict o parts site) w x at is = cc
  write_facts (layer.Lazy when taken other) w x at is = cc
  write_facts (layer.Run body) w x at is = cc

  writes : (s : CoreState) (l : CoreLink) (x : Var) (v : CoreValue Mark) → WriteFacts (out-CoreLink l) x → NameFound k.owners seats s x → RecordsFit K s.records → Holds v → Writes k.owners seats s l x v
  writes s l x v facts f b holds =
      let there : Holds f.found.binding.value × MayAssign K x f.found.binding.mutable = subst (λ o. FoundAt core K x o) f.finds (found core K x s b) in
      record {
        site = facts.site;
        is = facts.is;
        found = f.found;
        finds = f.finds;
        may = λ assigns. there.1 (facts.may facts.site assigns);
        sees = f.sees;
        held = λ shared. held v holds;
      }

  wants_held : (y : Layer) (w : Wanted) (x : Var) → WriteFacts y x → wanted_in y w ≡ ToHold
  wants_held y w x facts = by_write facts.is
    where
      by_write : (y ≡ layer.Strict (op.Set x) [] facts.site) ⊎ (y ≡ layer.Strict (op.Init x) [] facts.site) → wanted_in y w ≡ ToHold
      by_write (inl is) = ap (λ z. wanted_in z w) is
      by_write (inr is) = ap (λ z. wanted_in z w) is

  -- ---- links

  write_ready : (s : CoreState) (l : CoreLink) (x : Var) (c : Current Mark) → WriteFacts (out-CoreLink l) x → CurrentFits K.unmade s.context.environment ToHold c → ((v : CoreValue Mark) → c ≡ Has v → NameFound k.owners seats s x) → RecordsFit K s.records
      → WriteReady k.owners seats s l x c
  write_ready s l x (Has v) facts at f b = writes s l x v facts (f v refl) b (fits_held core K s.context.environment v at)
  write_ready s l x c facts at f b = (facts.site, facts.is)

  goes_found : (s : CoreState) (c : Current Mark) (l : CoreLink) (ls : List CoreLink) → GoesFound k.owners seats s c (l ∷ ls) → (v : CoreValue Mark) → c ≡ Has v → LinkFound k.owners seats s (out-CoreLink l)
  goes_found s (Has u) l ls f v is = f
  goes_found s c l ls f v is = cc

  op_ready : (s : CoreState) (l : CoreLink) (c : Current Mark) (o : CoreOp) (parts : List CoreExpr) (site : Option Site) (w : Wanted) → out-CoreLink l ≡ layer.Strict o parts site → LinkFits (layer.Strict o parts site) w
      → CurrentFits K.unmade s.context.environment (wanted_by o w) c → ((v : CoreValue Mark) → c ≡ Has v → OpFound k.owners seats s o) → RecordsFit K s.records → GoesReady k.owners seats s c l o
  op_ready s l c (op.Set x) parts site w is at fits f b =
      write_ready s l x c (subst (λ y. WriteFacts y x) (sym is) (set_facts x parts site (link_of core k any_shapes [] w (layer.Strict (op.Set x) parts site) at).0)) fits f b
  op_ready s l c (op.Init x) parts site w is at fits f b =
      write_ready s l x c (subst (λ y. WriteFacts y x) (sym is) (init_facts x parts site (link_of core k any_shapes [] w (layer.Strict (op.Init x) parts site) at).0)) fits f b
  op_ready s l c (op.StepVariable u x) parts site w is at fits f b = absurd (link_of core k any_shapes [] w (layer.Strict (op.StepVariable u x) parts site) at).0
  op_ready s l c op.Content parts site w is at fits f b = absurd (link_of core k any_shapes [] w (layer.Strict op.Content parts site) at).0
  op_ready s l c op.SetContent parts site w is at fits f b = absurd (link_of core k any_shapes [] w (layer.Strict op.SetContent parts site) at).0
  op_ready s l c (op.Primitive q) parts site w is at fits f b = primitive_ready q (link_of core k any_shapes [] w (layer.Strict (op.Primitive q) parts site) at).0
  op_ready s l c o parts site w is at fits f b = part_ready o tt

  link_ready : (s : CoreState) (l : CoreLink) (c : Current Mark) (y : Layer) (w : Wanted) → out-CoreLink l ≡ y → LinkFits y w → CurrentFits K.unmade s.context.environment (wanted_in y w) c
      → ((v : CoreValue Mark) → c ≡ Has v → LinkFound k.owners seats s y) → RecordsFit K s.records → LinkReady k.owners seats s c l y
  link_ready s l c (layer.Strict o parts site) w is at fits f b = op_ready s l c o parts site w is at fits f b
  link_ready s l c (layer.Lazy when taken other) w is at fits f b = tt
  link_ready s l c (layer.Run body) w is at fits f b = tt

  go_ready : (s : CoreState) (c : Current Mark) (links : List CoreLink) → ControlAt K s.context.environment (floor_of s.context.frames) (Go c links) → GoesFound k.owners seats s c links → RecordsFit K s.records → ControlReady core kept k.owners seats s (Go c links)
  go_ready s c [] at f b = tt
  go_ready s c (l ∷ ls) at f b =
      let w = (floor_of s.context.frames).wanted in
      link_ready s l c (out-CoreLink l) (wanted_along ls w) refl (link_fitting core k any_shapes l ls w at.0) at.1 (goes_found s c l ls f) b

  -- ---- heads

  abbrev Joints : List CoreLink → List Joint
  Joints ls = map (joint_of core k) ls

  writes_of : (y : Layer) → (link_step k (in_link (test_fold core k any_shapes) y)).writes ≡ is_some (write_in k.owners y)
  writes_of (layer.Strict o parts site) = refl
  writes_of (layer.Lazy when taken other) = refl
  writes_of (layer.Run body) = refl

  none_written : (ls : List CoreLink) → none_writes (Joints ls) ≡ true → NoWrites k.owners ls
  none_written [] is = tt
  none_written (l ∷ ls) is =
      let both = and_parts (not (joint_of core k l).writes) (none_writes (Joints ls)) is in
      let same : (joint_of core k l).writes ≡ is_some (write_in k.owners (out-CoreLink l)) = ap (λ j. j.writes) (link_out core k any_shapes l) ∙ writes_of (out-CoreLink l) in
      (unwritten k (write_in k.owners (out-CoreLink l)) (ap (λ b. not b) (sym same) ∙ both.0), none_written ls both.1)

  one_part : (parts : List CoreExpr) (site : Option Site) → is_one (map (expr_fits core k) parts) ≡ true → IsThen (layer.Strict op.Then parts site)
  one_part [] site is = cc
  one_part (x ∷ []) site is = (x, site, refl)
  one_part (x ∷ y ∷ xs) site is = cc

  then_of : (y : Layer) → (link_step k (in_link (test_fold core k any_shapes) y)).goes_on ≡ true → IsThen y
  then_of (layer.Strict op.Then parts site) is = one_part parts site is
  then_of (layer.Strict o parts site) is = cc
  then_of (layer.Lazy when taken other) is = cc
  then_of (layer.Run body) is = cc

  goes_to : (ls : List CoreLink) → first_goes_on (Joints ls) ≡ true → GoesToThen ls
  goes_to [] is = tt
  goes_to (l ∷ ls) is = then_of (out-CoreLink l) (ap (λ j. j.goes_on) (sym (link_out core k any_shapes l)) ∙ is)

  function_seen : (s : CoreState) (f : FunctionId) → HasFunction core f → FunctionKept kept k.owners seats s f → FunctionSeen core kept k.owners seats s f
  function_seen s f (function, at) n = record { function = function; before = at; seen = n.seen; all = n.all }

  head_ready : (s : CoreState) (links : List CoreLink) (h : CoreHead) (w : Wanted) (scope : Bool) → (floor_of s.context.frames).in_scope ≡ scope → head_fits core w scope (Joints links) h ≡ true → HeadFound kept k.owners seats s h
      → HeadReady core kept k.owners seats s links h
  head_ready s links (head.Variable y) w scope same is f = f
  head_ready s links (head.TypeOf y) w scope same is f = cc
  head_ready s links (head.Function g) w scope same is f = function_seen s g (head_of core k any_shapes s.context.environment w scope (Joints links) (head.Function g) is).0 f
  head_ready s links (head.Primitive primitive.GeneratorMake) w scope same is f = cc
  head_ready s links (head.Primitive q) w scope same is f = tt
  head_ready s links (head.Copy xs) w scope same is f =
      let both = and_parts scope (none_writes (Joints links) && first_goes_on (Joints links)) is in
      let more = and_parts (none_writes (Joints links)) (first_goes_on (Joints links)) both.1 in
      record {
        number = f.number;
        outer = f.outer;
        innermost = f.innermost;
        unwritten = none_written links more.0;
        goes = goes_to links more.1;
        copyable = f.copyable;
        inside = in_scope s.context.frames (same ∙ both.0);
      }
  head_ready s links h w scope same is f = tt

  -- ---- statements

  stat_ready : (s : CoreState) (y : CoreStat-F CoreLink CoreStat CoreCase CoreExpr) (own : Bool) → stat_step k (in_stat (test_fold core k any_shapes) y) own ≡ true → StatFound seats s y → StatReady k.owners seats s y
  stat_ready s (layer.Scoped names body) own is f =
      let both = and_parts (are_some names) (names_fit k names && list_fits core k body true) is in
      let more = and_parts (names_fit k names) (list_fits core k body true) both.1 in
      (some_names k names both.0, scope_ready k seats s names more.0 f)
  stat_ready s (layer.Yield value kind result) own is f = cc
  stat_ready s y own is f = tt

  list_ready : (s : CoreState) (xs : List CoreStat) (own : Bool) → list_fits core k xs own ≡ true → ListFound seats s xs → ListReady k.owners seats s xs
  list_ready s [] own is f = tt
  list_ready s (x ∷ xs) own is f = stat_ready s (out-CoreStat x) own (stat_fitting core k any_shapes x xs own is) f

  -- ---- what is handed to frames

  after_ready : (s : CoreState) (v : CoreValue Mark) (l : CoreLink) (ls : List CoreLink) (w : Wanted) → K.links s.context.environment w (l ∷ ls) → Fits K.unmade s.context.environment (wanted_in (out-CoreLink l) (wanted_along ls w)) v → RecordsFit K s.records
      → (x : Var) → write_in k.owners (out-CoreLink l) ≡ Some x → NameFound k.owners seats s x → Writes k.owners seats s l x v
  after_ready s v l ls w at fits b x is f =
      let facts : WriteFacts (out-CoreLink l) x = write_facts (out-CoreLink l) (wanted_along ls w) x (link_fitting core k any_shapes l ls w at) is in
      let same : wanted_in (out-CoreLink l) (wanted_along ls w) ≡ ToHold = wants_held (out-CoreLink l) (wanted_along ls w) x facts in
      writes s l x v facts f b (fits_held core K s.context.environment v (subst (λ u. Fits K.unmade s.context.environment u v) same fits))

  values_ready : (s : CoreState) (vs : List (CoreValue Mark)) → LastFits core K s.context.environment ToMake vs → ValuesFound kept k.owners seats s vs → ValuesSeen core kept k.owners seats s vs
  values_ready s (User heritage ∷ Extra (Unmade f) ∷ []) at n = function_seen s f at n
  values_ready s vs at n = tt

  class_ready : (s : CoreState) (us : List (CoreValue Mark)) (v : CoreValue Mark) (parts : List CoreExpr) → Fits K.unmade s.context.environment ToMake v → PartsFound kept k.owners seats s (op.Primitive primitive.ClassMake) (us ++ v ∷ []) parts
      → PartsReady core kept k.owners seats s (op.Primitive primitive.ClassMake) (us ++ v ∷ []) parts
  class_ready s us v [] at n = values_ready s (us ++ v ∷ []) (last_fits core K s.context.environment ToMake us v at) n
  class_ready s us v (x ∷ xs) at n = tt

  made_ready : (s : CoreState) (q : Primitive) (us : List (CoreValue Mark)) (v : CoreValue Mark) (parts : List CoreExpr) (w : Wanted) → PartOp (op.Primitive q) → Fits K.unmade s.context.environment (part_wanted (op.Primitive q) w) v
      → PartsFound kept k.owners seats s (op.Primitive q) (us ++ v ∷ []) parts → PartsReady core kept k.owners seats s (op.Primitive q) (us ++ v ∷ []) parts
  made_ready s primitive.ClassMake us v parts w may at n = class_ready s us v parts at n
  made_ready s q us v parts w may at n = primitive_ready q may

  parts_ready : (s : CoreState) (o : CoreOp) (us : List (CoreValue Mark)) (v : CoreValue Mark) (parts : List CoreExpr) (w : Wanted) → PartOp o → Fits K.unmade s.context.environment (part_wanted o w) v
      → PartsFound kept k.owners seats s o (us ++ v ∷ []) parts → PartsReady core kept k.owners seats s o (us ++ v ∷ []) parts
  parts_ready s (op.Primitive q) us v parts w may at n = made_ready s q us v parts w may at n
  parts_ready s o us v parts w may at n = part_ready o may

  work_ready : (s : CoreState) (v : CoreValue Mark) (w : CoreWork) (fs : List (Frame Mark CoreWork)) → FrameAt K s.context.environment (floor_of fs) (Work w) → GivesFound kept k.owners seats v s (Work w ∷ fs)
      → GivesReady core kept k.owners seats v s (Work w ∷ fs)
  work_ready s v (Heritage f heritage links) fs at n = function_seen (with_frames fs s) f at.0 n
  work_ready s v (PrototypeFor links) fs at n = at
  work_ready s v w fs at n = tt

  gives_ready : (s : CoreState) (v : CoreValue Mark) (f : Frame Mark CoreWork) (fs : List (Frame Mark CoreWork)) → FrameAt K s.context.environment (floor_of fs) f → Fits K.unmade s.context.environment (under f (floor_of fs)).wanted v → RecordsFit K s.records
      → GivesFound kept k.owners seats v s (f ∷ fs) → GivesReady core kept k.owners seats v s (f ∷ fs)
  gives_ready s v (After []) fs at fits b n = tt
  gives_ready s v (After (l ∷ ls)) fs at fits b n = λ x is. after_ready (with_frames fs s) v l ls (floor_of fs).wanted at fits b x is (n x is)
  gives_ready s v (Part p) fs at fits b n = parts_ready (with_frames fs s) p.op p.values v p.parts (wanted_along p.links (floor_of fs).wanted) at.0 fits n
  gives_ready s v (Fetch base key p) fs at fits b n = fetch_ready p.op at.0
  gives_ready s v (Work w) fs at fits b n = work_ready s v w fs at n
  gives_ready s v f fs at fits b n = tt

  given_ready : (s : CoreState) (v : CoreValue Mark) (below : Environment → Type 0) (fs : List (Frame Mark CoreWork)) → FramesAt K below s.context.environment fs → Fits K.unmade s.context.environment (floor_of fs).wanted v → RecordsFit K s.records
      → GivesFound kept k.owners seats v s fs → GivesReady core kept k.owners seats v s fs
  given_ready s v below [] all fits b n = tt
  given_ready s v below (f ∷ fs) all fits b n = gives_ready s v f fs all.0 fits b n

  end_of : (y : Layer) (w : Wanted) → NotHeld (wanted_in y w) → write_in k.owners y ≡ None
  unfolding written_by
  end_of (layer.Strict (op.Set x) parts site) w free = absurd free
  end_of (layer.Strict (op.Init x) parts site) w free = absurd free
  end_of (layer.Strict o parts site) w free = refl
  end_of (layer.Lazy when taken other) w free = refl
  end_of (layer.Run body) w free = refl

  end_ready : (fs : List (Frame Mark CoreWork)) → NotHeld (floor_of fs).wanted → EndReady k.owners fs
  end_ready [] free = tt
  end_ready (After [] ∷ fs) free = tt
  end_ready (After (l ∷ ls) ∷ fs) free = end_of (out-CoreLink l) (wanted_along ls (floor_of fs).wanted) free
  end_ready (f ∷ fs) free = tt

  handler_ready : (s : CoreState) (x : Var) (names : List ScopedName) (handler : List CoreStat) → caught_fits k x names (map (stat_fits core k) handler) ≡ true → ScopeFound seats s names → HandlerReady k.owners seats s x names
  handler_ready s x names handler is f =
      let both = and_parts (names_fit k names) (not (is_among x (vars names)) && list_fits core k handler true) is in
      let more = and_parts (not (is_among x (vars names))) (list_fits core k handler true) both.1 in
      record { pattern = scope_ready k seats s names both.0 f; apart = not_true (is_among x (vars names)) more.0 }

  throw_ready : (s : CoreState) (below : Environment → Type 0) (fs : List (Frame Mark CoreWork)) → FramesAt K below s.context.environment fs → ThrowFound seats s fs → ThrowReady k.owners seats s fs
  throw_ready s below [] all n = tt
  throw_ready s below (Catching x names handler ∷ fs) all n = handler_ready s x names handler all.0.1 n
  throw_ready s below (f ∷ fs) all n = tt

  hand_ready : (s : CoreState) (c : Completion Mark) → St core K s → HandAt K s.context.environment (floor_of s.context.frames).wanted c → HandFound kept k.owners seats s c → HandReady core kept k.owners seats s c
  hand_ready s (Gives v) b at n = given_ready s v _ s.context.frames b.0 at b.2.records_fit n
  hand_ready s Done b at n = end_ready s.context.frames at
  hand_ready s (Throws v) b at n = throw_ready s _ s.context.frames b.0 n
  hand_ready s (Returns v) b at n = tt
  hand_ready s (Jumps goes_on label) b at n = tt

  -- ---- calls: where the closure isn't there the step leaves

  abbrev LeavesAt : CoreState → Control Mark → Type 0
  LeavesAt s c = (exit : Exit) × (step_by (rows core) core s c ≡ Leaves exit)

  function_by : (c : Call) (s : CoreState) (id : ObjId) (n : ℕ) (a : Closure Own) (o : Option CoreFunction) → c.function ≡ value.Object id → (object_at s.heap id).class ≡ class.Function n → slice_get s.closures n ≡ Some a → function_at core a.function ≡ o
      → CallReady core c s ⊎ LeavesAt s (Calls c)
  unfolding call_class
  function_by c s id n a None object is at none =
      inr (
        _,
        ap (λ v. call_value (rows core) core c s v) object ∙ ap (λ q. call_class (rows core) core c s q) is ∙ ap (λ x. with_option x s (λ b. enter (rows core) core b c s)) at
            ∙ ap (λ x. with_option x s (λ f. run_body f (within_call (rows core) core f a c s))) none,
      )
  function_by c s id n a (Some f) object is at there =
      inl (inr (record { closure = a; function = f; id = id; number = n; object = object; class_is = is; closure_at = at; function_is = there }))

  closure_by : (c : Call) (s : CoreState) (id : ObjId) (n : ℕ) (o : Option (Closure Own)) → c.function ≡ value.Object id → (object_at s.heap id).class ≡ class.Function n → slice_get s.closures n ≡ o → CallReady core c s ⊎ LeavesAt s (Calls c)
  unfolding call_class
  closure_by c s id n None object is none =
      inr (_, ap (λ v. call_value (rows core) core c s v) object ∙ ap (λ q. call_class (rows core) core c s q) is ∙ ap (λ x. with_option x s (λ b. enter (rows core) core b c s)) none)
  closure_by c s id n (Some a) object is at = function_by c s id n a (function_at core a.function) object is at refl

  no_closure : (c : Call) (s : CoreState) (id : ObjId) → c.function ≡ value.Object id → IsNoClosure (object_at s.heap id).class → CallReady core c s ⊎ LeavesAt s (Calls c)
  no_closure c s id object none = inl (inl (subst (λ v. CallsNoClosure s.heap v) (sym object) none))

  class_by : (c : Call) (s : CoreState) (id : ObjId) (q : Class) → c.function ≡ value.Object id → (object_at s.heap id).class ≡ q → CallReady core c s ⊎ LeavesAt s (Calls c)
  class_by c s id (class.Function n) object is = closure_by c s id n (slice_get s.closures n) object is refl
  class_by c s id q object is = no_closure c s id object (subst (λ x. IsNoClosure x) (sym is) tt)

  value_by : (c : Call) (s : CoreState) (v : Value) → c.function ≡ v → CallReady core c s ⊎ LeavesAt s (Calls c)
  value_by c s (value.Object id) is = class_by c s id (object_at s.heap id).class is refl
  value_by c s v is = inl (inl (subst (λ x. CallsNoClosure s.heap x) (sym is) tt))

  control_ready : (s : CoreState) (c : Control Mark) → St core K s → ControlAt K s.context.environment (floor_of s.context.frames) c → ControlFound kept k.owners seats s c → ControlReady core kept k.owners seats s c ⊎ LeavesAt s c
  control_ready s (Begin x) b at n =
      let w = (floor_of s.context.frames).wanted in
      let scope = (floor_of s.context.frames).in_scope in
      let ls = (out-CoreExpr x).links in
      inl (n.0, head_ready s ls (out-CoreExpr x).head (wanted_along ls w) scope refl (expr_fitting core k any_shapes x w scope at).0 n.1)
  control_ready s (Go c links) b at n = inl (go_ready s c links at n b.2.records_fit)
  control_ready s (Run xs) b at n = inl (list_ready s xs (floor_of s.context.frames).own at.1 n)
  control_ready s (Turn site c) b at n = inl tt
  control_ready s (Calls c) b at n = value_by c s c.function refl
  control_ready s (Hand c) b at n = inl (hand_ready s c b at n)

  by_step : (s : Config) → ControlReady core kept k.owners seats s.state s.control ⊎ LeavesAt s.state s.control → ReadyOrLeaves core kept k.owners seats s
  unfolding step
  by_step s (inl ready) = inl ready
  by_step s (inr (exit, is)) = inr (exit, is)

pub fitting_ready : FittingIsReady
fitting_ready core k kept seats s (b, at) n = by_step core k kept seats s (control_ready core k kept seats s.state s.control b at n)
