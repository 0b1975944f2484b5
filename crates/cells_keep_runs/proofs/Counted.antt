-- A step leaves as much of what code has, and as many contexts, where there may be one: heads, operations and links.
use Rattle.std.proofs.Common.{◌≡◌, ℕ, zero, suc, Bool, true, false, List, [], ◌∷◌, ◌++◌, Option, None, Some, slice_get, refl, sym, ap, subst, ◌≡◌, ◌≤◌, ◌+◌, arith}
use Rattle.std.specs.Prelude.{if◌then◌else◌, ℤ, pos, length, nat_eq, slice_index_or, slice_set}
use Rattle.es_outside.specs.declared.events.Site.{Site}
use Rattle.es_outside.specs.declared.host.Reply.{Reply}
use Rattle.es_outside.specs.declared.host.Reply.TheVariants as reply
use Rattle.es_outside.specs.declared.primitive.Primitive.{Primitive as Prim}
use Rattle.es_value.specs.declared.value.ObjId.{ObjId}
use Rattle.es_value.specs.declared.value.Value.{Value}
use Rattle.es_value.specs.declared.value.Value.TheVariants as value
use Rattle.es_heap.specs.Heaps.{object_at}
use Rattle.es_heap.specs.declared.class.Class.{Class}
use Rattle.es_heap.specs.declared.class.Class.TheVariants as class
use Rattle.es_heap.specs.declared.key.Key.{Key}
use Rattle.es_heap.specs.declared.prop.Prop.TheVariants.{Plain}
use Rattle.es_realm.specs.Access.{define_key}
use Rattle.es_realm.specs.Names.{function_prototype, object_prototype}
use Rattle.es_realm.specs.declared.edition.Edition.TheVariants.{Sixth}
use Rattle.es_realm.specs.declared.errors.ErrorKind.TheVariants.{TypeError}
use Rattle.es_calls.specs.Calls.{is_undefined}
use Rattle.es_operators.specs.Functions.{constructor_of}
use Rattle.es_operators.specs.Operators.{is_nothing}
use Rattle.es_operations.specs.Making.{with_half}
use Rattle.es_operators.specs.Primitives.{to_prims}
use Rattle.es_realm.specs.declared.access.Write.{Write}
use Rattle.es_realm.specs.declared.access.Write.TheVariants as answers
use Rattle.es_operators.specs.declared.functions.Constructor.{Constructor}
use Rattle.es_operators.specs.declared.functions.Constructor.TheVariants as constructor
use Rattle.core_ast.specs.declared.parts.Binary.{Binary}
use Rattle.core_ast.specs.declared.parts.Binary.TheVariants as binary
use Rattle.core_ast.specs.declared.parts.CoreHead.{CoreHead}
use Rattle.core_ast.specs.declared.parts.CoreHead.TheVariants as head
use Rattle.core_ast.specs.declared.parts.CoreOp.{CoreOp}
use Rattle.core_ast.specs.declared.parts.CoreOp.TheVariants as op
use Rattle.core_ast.specs.declared.parts.FunctionId.{FunctionId}
use Rattle.core_ast.specs.declared.parts.Primitive.{Primitive}
use Rattle.core_ast.specs.declared.parts.Primitive.TheVariants as primitive
use Rattle.core_ast.specs.declared.parts.Unary.{Unary}
use Rattle.core_ast.specs.declared.parts.Unary.TheVariants as unary
use Rattle.core_ast.specs.declared.parts.Update.{Update}
use Rattle.core_ast.specs.declared.parts.Var.{Var}
use Rattle.core_ast.specs.declared.tree.CoreLink.{CoreLink}
use Rattle.core_ast.specs.declared.whole.Core.{Core}
use Rattle.core_ast.specs.declared.whole.CoreFunction.{CoreFunction}
use Rattle.core_ast.specs.declared.whole.CoreKind.{CoreKind}
use Rattle.core_ast.specs.declared.whole.CoreKind.TheVariants as kind
use Rattle.core_meaning.specs.Calls.{reply_of, asks_host, call_current, call_with, construct_by, constructs}
use Rattle.core_meaning.specs.Classes.{accessor_put, bind_this, is_derived, named, class_by, class_make, construct_as, has_value, make_class, method_noted, method_put, parent_of, homed, homed_class, with_home, with_key}
use Rattle.core_meaning.specs.Cells.{cell_make, check_ready, content, set_content}
use Rattle.core_meaning.specs.Expressions.{begin_head, constant_value, function_at, has_given, initialize, operate, operate_one, set, single, single_user, user_at}
use Rattle.core_meaning.specs.Functions.{call_list_with, closure_by, grown, list_current, with_arguments_in, with_hole}
use Rattle.core_meaning.specs.Generators.{delegate_step, saved_with, yield_from, yield_to, yields}
use Rattle.core_meaning.specs.Iteration.{spread_by, spread_of}
use Rattle.core_meaning.specs.Marks.{Arguments, AtYield, Cell, CoreList, CoreNext, CoreState, CoreStrict, CoreWork, Empty, Generator, Mark, OfArguments, Derived, OfArray, Own, Resumes, Unmade, YieldsIn, with_store}
use Rattle.core_meaning.specs.Modules.{act_op, primitive_act, primitive_head, rows, template_by}
use Rattle.core_meaning.specs.Names.{Resolved, initialize_found, initialized, read_found, resolve, type_found, write, write_found, if_mutable}
use Rattle.core_meaning.specs.Properties.{accessor_defined, defined, key_units, delete, element, hole, put, step_at, update, with_object}
use Rattle.core_meaning.specs.Rows.{calls, goes, hands, has, pushed, raises, users, with_heap, with_option, with_user}
use Rattle.core_meaning.specs.State.{After, Closure, Context, CoreValue, Current, Extra, Frame, Has, Hosted, Method, Old, Reference, Store, User, Work}
use Rattle.core_meaning.specs.Step.{act_by}
use Rattle.cells_keep_runs.specs.Placing.{HeadPlain, below_frame}
use Rattle.cells_keep_runs.specs.Counted.{AllFit, AllGeneratorsFit, Fits, GeneratorFits, Limit, Measure, NextFits, OthersFit, bottom, counted, generator_counted, in_frames, in_head, total, with_frame}

module _ (m : Measure) (lim : Limit) where
  abbrev L : List CoreLink → ℕ
  L links = m.links links

  abbrev pub R : CoreState → Type 0
  R st = OthersFit m lim (counted lim st.context) st

  abbrev pub F : CoreState → ℕ
  F st = in_frames m st.context.frames

  abbrev pub D : CoreState → ℕ
  D st = lim.most (bottom st.context.environment st.context.frames)

  -- what goes on without code
  abbrev pub T : CoreState → Type 0
  T st = R st × (F st ≤ D st)

  -- and along links
  abbrev pub G : CoreState → List CoreLink → Type 0
  G st links = R st × (L links + F st ≤ D st)

  abbrev pub N : CoreNext → Type 0
  N next = NextFits m lim next

  pub drop : (a c d : ℕ) → a + c ≤ d → c ≤ d
  drop a c d h = omega arith

  -- ---- choices

  pub option_at : {A : Type 0} (o : Option A) (st : CoreState) (f : A → CoreNext) → ((x : A) → N (f x)) → N (with_option o st f)
  option_at None st f h = tt
  option_at (Some x) st f h = h x

  pub value_at : (v : CoreValue Mark) (st : CoreState) (f : Value → CoreNext) → ((w : Value) → N (f w)) → N (with_user v st f)
  value_at (User w) st f h = h w
  value_at (Extra m) st f h = tt

  pub either_at : (b : Bool) (n m : CoreNext) → N n → N m → N (if b then n else m)
  either_at true n m p q = p
  either_at false n m p q = q

  pub generators_set : (gs : List Generator) (n : ℕ) (g : Generator) → GeneratorFits m lim g → AllGeneratorsFit m lim gs → AllGeneratorsFit m lim (slice_set gs n g)
  generators_set [] n g at all = tt
  generators_set (x ∷ gs) zero g at (first, all) = (at, all)
  generators_set (x ∷ gs) (suc n) g at (first, all) = (first, generators_set gs n g at all)

  pub generators_more : (gs : List Generator) (g : Generator) → GeneratorFits m lim g → AllGeneratorsFit m lim gs → AllGeneratorsFit m lim (gs ++ g ∷ [])
  generators_more [] g at all = (at, tt)
  generators_more (x ∷ gs) g at (first, all) = (first, generators_more gs g at all)

  abbrev pub C : Generator → ℕ
  C g = generator_counted lim g

  pub count_set : (gs : List Generator) (n : ℕ) (g : Generator) → total C (slice_set gs n g) ≤ C g + total C gs
  count_set [] n g = omega arith
  count_set (x ∷ gs) zero g = omega arith
  count_set (x ∷ gs) (suc n) g = let h : total C (slice_set gs n g) ≤ C g + total C gs = count_set gs n g in omega arith

  pub count_more : (gs : List Generator) (g : Generator) → total C (gs ++ g ∷ []) ≡ C g + total C gs
  count_more [] g = refl
  count_more (x ∷ gs) g = let h : total C (gs ++ g ∷ []) ≡ C g + total C gs = count_more gs g in omega arith

  -- ---- heads

  read_at : (core : Core) (x : Var) (links : List CoreLink) (st : CoreState) (o : Option (Resolved Mark)) → R st → L links + F st ≤ D st → N (read_found (rows core) x links st o)
  read_at core x links st None b l = tt
  read_at core x links st (Some r) b l = (b, l)

  type_at : (core : Core) (x : Var) (links : List CoreLink) (st : CoreState) (o : Option (Resolved Mark)) → R st → L links + F st ≤ D st → N (type_found (rows core) x links st o)
  type_at core x links st None b l = tt
  type_at core x links st (Some r) b l = value_at r.binding.value st _ (λ v. (b, l))

  closures_at : (f : FunctionId) (function : CoreFunction) (links : List CoreLink) (st : CoreState) (k : CoreKind) → R st → L links + F st ≤ D st → N (has_given links (closure_by f function st k))
  closures_at f function links st (kind.Class derived) b l = (b, l)
  closures_at f function links st k b l = (b, l)

  primitive_at : (links : List CoreLink) (st : CoreState) (p : Primitive) → R st → (in_head (head.Primitive p) + L links) + F st ≤ D st → N (primitive_head links st p)
  primitive_at links st primitive.RefuseConst b l = (b, omega arith)
  primitive_at links st primitive.ClassGuard b l = either_at (is_undefined st.context.own.target) (raises TypeError st) (has value.Undefined links st) (b, omega arith) (b, omega arith)
  primitive_at links st primitive.NewTarget b l = (b, omega arith)
  primitive_at links st primitive.ArgumentsPut b l = (b, omega arith)
  primitive_at links st primitive.GeneratorMake b l = (b, omega arith)
  primitive_at links st primitive.IncludesPut b l = (b, omega arith)
  primitive_at links st p b l = tt

  pub heads_at : (core : Core) (h : CoreHead) (links : List CoreLink) (st : CoreState) → HeadPlain h → R st → (in_head h + L links) + F st ≤ D st → N (begin_head (rows core) core h links st)
  unfolding begin_head
  heads_at core (head.Constant c) links st is b l = option_at (constant_value c) st _ (λ v. (b, omega arith))
  heads_at core (head.Variable x) links st is b l = read_at core x links st (resolve st x) b (omega arith)
  heads_at core (head.TypeOf x) links st is b l = type_at core x links st (resolve st x) b (omega arith)
  heads_at core (head.Function f) links st is b l = option_at (function_at core f) st _ (λ function. closures_at f function links st function.kind b (omega arith))
  heads_at core (head.Primitive p) links st is b l = primitive_at links st p b l
  heads_at core (head.Copy xs) links st is b l = absurd is
  heads_at core h links st is b l = (b, omega arith)

  -- ---- operations of the language

  operate_at : (f : Frame Mark CoreWork) (o : Binary) (v w : Value) (st : CoreState) → T (pushed f st) → N (operate f o v w st)
  unfolding operate
  operate_at f binary.Same v w st b = b
  operate_at f binary.NotSame v w st b = b
  operate_at f o v w st b = b

  one_at : (links : List CoreLink) (u : Unary) (v : Value) (st : CoreState) → R st → L links + F st ≤ D st → N (operate_one links u v st)
  unfolding operate_one
  one_at links unary.Void v st b l = (b, l)
  one_at links unary.Typeof v st b l = (b, l)
  one_at links unary.Not v st b l = (b, l)
  one_at links u v st b l = (b, l)

  replied : (st : CoreState) (a : Reply) → T st → NextFits m lim (hands (reply_of a) st)
  replied st (reply.Give p) b = b
  replied st (reply.Throw p) b = b

  pub host_at : (n : ℕ) (site : Site) (st : CoreState) (o : Option (List Prim)) → T st → N (asks_host n site st o)
  host_at n site st None b = b
  host_at n site st (Some args) b = λ a. replied st a b

  current_at : (p : CoreStrict) (st : CoreState) (args : List Value) (c : Current Mark) → R st → L p.links + F st ≤ D st → N (call_current p st args c)
  current_at p st args (Has (User f)) b l = (b, l)
  current_at p st args (Method f receiver) b l = (b, l)
  current_at p st args (Hosted n) b l = host_at n _ (pushed (After p.links) st) (to_prims args) (b, l)
  current_at p st args c b l = tt

  with_at : (p : CoreStrict) (st : CoreState) (args : List Value) → R st → L p.links + F st ≤ D st → N (call_with p st args)
  with_at p st [] b l = tt
  with_at p st (receiver ∷ args) b l = option_at (user_at p.current) st _ (λ f. (b, l))

  construct_at : (f : Value) (args : List Value) (site : Option Site) (st : CoreState) (c : Constructor) → T st → N (construct_by f args site st c)
  unfolding construct_by
  construct_at f args site st (constructor.Runs id) b = b
  construct_at f args site st (constructor.MakesError n) b = b
  construct_at f args site st (constructor.Leaves x) b = tt
  construct_at f args site st constructor.Fails b = b

  put_at : (p : CoreStrict) (st : CoreState) (c : Current Mark) → R st → L p.links + F st ≤ D st → N (put p st c)
  put_at p st (Reference base k) b l = option_at (single_user p.values) st _ (λ v. (b, l))
  put_at p st c b l = tt

  delete_at : (p : CoreStrict) (st : CoreState) (c : Current Mark) → R st → L p.links + F st ≤ D st → N (delete p st c)
  delete_at p st (Reference base k) b l = (b, l)
  delete_at p st c b l = tt

  update_at : (o : Binary) (p : CoreStrict) (st : CoreState) (c : Current Mark) → R st → L p.links + F st ≤ D st → N (update o p st c)
  update_at o p st (Old base k v) b l = option_at (single_user p.values) st _ (λ w. operate_at (Store base k p.links) o v w st (b, l))
  update_at o p st c b l = tt

  step_to : (u : Update) (p : CoreStrict) (st : CoreState) (c : Current Mark) → R st → L p.links + F st ≤ D st → N (step_at u p st c)
  step_to u p st (Old base k v) b l = (b, l)
  step_to u p st c b l = tt

  object_at1 : (c : Current Mark) (st : CoreState) (f : ObjId → CoreNext) → ((id : ObjId) → N (f id)) → N (with_object c st f)
  object_at1 (Has (User (value.Object id))) st f h = h id
  object_at1 c st f h = tt

  defined_at : (c : Current Mark) (links : List CoreLink) (st : CoreState) (w : Write) → R st → L links + F st ≤ D st → N (defined c links st w)
  defined_at c links st answers.Done b l = (b, l)
  defined_at c links st (answers.Leaves x) b l = tt
  defined_at c links st answers.OutOfRange b l = (b, drop (L links) (F st) (D st) l)
  defined_at c links st w b l = (b, drop (L links) (F st) (D st) l)

  accessor_at : (core : Core) (id : ObjId) (units : List ℕ) (is_setter : Bool) (p : CoreStrict) (st : CoreState) (v : Value) → R st → L p.links + F st ≤ D st → N (accessor_defined (rows core) id units is_setter p st v)
  accessor_at core id units is_setter p st (value.Object f) b l = defined_at p.current p.links _ _ b l
  accessor_at core id units is_setter p st v b l = tt

  mutable_at : (b : Bool) (st : CoreState) (n : CoreNext) → T st → N n → N (if_mutable b st n)
  mutable_at true st n b on = on
  mutable_at false st n b on = b

  written_at : (core : Core) (x : Var) (v w : CoreValue Mark) (links : List CoreLink) (st : CoreState) (o : Option (Resolved Mark)) → R st → L links + F st ≤ D st → N (write_found (rows core) x v w links st o)
  written_at core x v w links st None b l = tt
  written_at core x v w links st (Some r) b l = mutable_at r.binding.mutable st _ (b, drop (L links) (F st) (D st) l) (b, l)

  set_at : (core : Core) (x : Var) (p : CoreStrict) (st : CoreState) (c : Current Mark) → R st → L p.links + F st ≤ D st → N (set (rows core) x p st c)
  unfolding write
  set_at core x p st (Has v) b l = written_at core x v v p.links st (resolve st x) b l
  set_at core x p st c b l = tt

  pub write_at : (core : Core) (x : Var) (v w : CoreValue Mark) (links : List CoreLink) (st : CoreState) → R st → L links + F st ≤ D st → N (write (rows core) x v w links st)
  unfolding write
  write_at core x v w links st b l = written_at core x v w links st (resolve st x) b l

  found_at : (x : Var) (v : CoreValue Mark) (c : Current Mark) (links : List CoreLink) (st : CoreState) (o : Option (Resolved Mark)) → R st → L links + F st ≤ D st → N (goes c links (initialize_found x v st o))
  found_at x v c links st None b l = (b, l)
  found_at x v c links st (Some r) b l = (b, l)

  init_at : (x : Var) (p : CoreStrict) (st : CoreState) (c : Current Mark) → R st → L p.links + F st ≤ D st → N (initialize x p st c)
  unfolding initialized
  init_at x p st (Has v) b l = found_at x v (Has v) p.links st (resolve st x) b l
  init_at x p st c b l = tt

  -- ---- operations of modules

  arguments_at : (vs : List (CoreValue Mark)) (st : CoreState) (f : List Value → CoreNext) → ((ws : List Value) → N (f ws)) → N (with_arguments_in vs st f)
  arguments_at (Extra (Arguments ws) ∷ []) st f h = h ws
  arguments_at vs st f h = tt

  listed_at : (p : CoreStrict) (st : CoreState) (vs : List (CoreValue Mark)) → R st → L p.links + F st ≤ D st → N (call_list_with p st vs)
  listed_at p st (User receiver ∷ Extra (Arguments args) ∷ []) b l = option_at (user_at p.current) st _ (λ f. (b, l))
  listed_at p st vs b l = tt

  constructs_at : (core : Core) (f : Value) (args : List Value) (target : Value) (st : CoreState) (c : Constructor) → T st → N (construct_as core f args target st c)
  constructs_at core f args target st (constructor.Runs id) b =
      either_at (is_derived core st f)
      (calls (Work (Derived (length st.store.this_values))) (record { function = f; receiver = value.Undefined; args = args; target = Some target; site = None }) st) (constructs f args target st)
      b b
  constructs_at core f args target st (constructor.MakesError n) b = b
  constructs_at core f args target st (constructor.Leaves x) b = tt
  constructs_at core f args target st constructor.Fails b = b

  grown_at : (list : CoreList) (v : Value) (links : List CoreLink) (st : CoreState) → R st → L links + F st ≤ D st → N (grown list v links st)
  grown_at (OfArray id) v links st b l = (b, l)
  grown_at (OfArguments vs) v links st b l = (b, l)

  hole_at : (list : CoreList) (links : List CoreLink) (st : CoreState) → R st → L links + F st ≤ D st → N (with_hole list links st)
  hole_at (OfArray id) links st b l = (b, l)
  hole_at (OfArguments vs) links st b l = tt

  content_at : (p : CoreStrict) (st : CoreState) (c : Current Mark) → R st → L p.links + F st ≤ D st → N (content p st c)
  content_at p st (Has (Extra (Cell n))) b l = option_at (slice_get st.store.cells n) st _ (λ v. (b, l))
  content_at p st c b l = tt

  contents_at : (p : CoreStrict) (st : CoreState) (c : Current Mark) (vs : List (CoreValue Mark)) → R st → L p.links + F st ≤ D st → N (set_content p st c vs)
  contents_at p st (Has (Extra (Cell n))) (v ∷ []) b l = (b, l)
  contents_at p st c vs b l = tt

  ready_at : (p : CoreStrict) (st : CoreState) (c : Current Mark) → R st → L p.links + F st ≤ D st → N (check_ready p st c)
  ready_at p st (Has (User v)) b l = (b, l)
  ready_at p st (Has (Extra Empty)) b l = (b, drop (L p.links) (F st) (D st) l)
  ready_at p st c b l = tt

  cell_at : (p : CoreStrict) (st : CoreState) (c : Current Mark) → R st → L p.links + F st ≤ D st → N (cell_make p st c)
  cell_at p st (Has v) b l = (b, l)
  cell_at p st c b l = tt

  spread_at : (list : CoreList) (v : Value) (n : ℤ) (p : CoreStrict) (st : CoreState) → R st → L p.links + F st ≤ D st → N (spread_by list v n p st)
  spread_at list v (pos n) p st b l = either_at (nat_eq n 0) _ _ (grown_at list v p.links st b l) (either_at (nat_eq n 2) _ _ (hole_at list p.links st b l) (b, l))
  spread_at list v n p st b l = tt

  spreads_at : (p : CoreStrict) (st : CoreState) (vs : List (CoreValue Mark)) → R st → L p.links + F st ≤ D st → N (spread_of p st vs)
  spreads_at p st (User v ∷ User (value.Number n) ∷ []) b l = option_at (list_current p.current) st _ (λ list. spread_at list v n p st b l)
  spreads_at p st vs b l = tt

  class_at : (core : Core) (f : FunctionId) (heritage : Value) (parent : ObjId) (above : Option ObjId) (links : List CoreLink) (st : CoreState) → R st → L links + F st ≤ D st → N (make_class core f heritage parent above links st)
  class_at core f heritage parent above links st b l = option_at (function_at core f) st _ (λ function. (b, l))

  heritage_at : (core : Core) (has_heritage : Bool) (heritage : Value) (f : FunctionId) (p : CoreStrict) (st : CoreState) → R st → L p.links + F st ≤ D st → N (class_by core has_heritage heritage f p st)
  heritage_at core true heritage f p st b l = (b, l)
  heritage_at core false heritage f p st b l = class_at core f value.Undefined function_prototype (Some object_prototype) p.links st b l

  classes_at : (core : Core) (p : CoreStrict) (st : CoreState) (c : Current Mark) (vs : List (CoreValue Mark)) → R st → L p.links + F st ≤ D st → N (class_make core p st c vs)
  classes_at core p st (Has (User (value.Bool has_heritage))) (User heritage ∷ Extra (Unmade f) ∷ []) b l = heritage_at core has_heritage heritage f p st b l
  classes_at core p st c vs b l = tt

  bind_at : (p : CoreStrict) (st : CoreState) (v : Value) (o : Option Value) → R st → L p.links + F st ≤ D st → N (bind_this p st v o)
  bind_at p st v None b l = (b, l)
  bind_at p st v (Some w) b l = (b, drop (L p.links) (F st) (D st) l)

  key_at : (v : Value) (st : CoreState) (f : Key → CoreNext) → ((k : Key) → N (f k)) → N (with_key v st f)
  key_at (value.Text units) st f h = h _
  key_at v st f h = tt

  -- closures and statics are no code
  home_at : (home : Value) (n : ℕ) (st : CoreState) (o : Option (Closure Own)) (links : List CoreLink) → G st links → G (with_home home n st o) links
  home_at home n st None links b = b
  home_at home n st (Some c) links b = b

  homed_by : (home : Value) (st : CoreState) (k : Class) (links : List CoreLink) → G st links → G (homed_class home st k) links
  homed_by home st (class.Function n) links b = home_at home n st (slice_get st.closures n) links b
  homed_by home st k links b = b

  homed_at : (home v : Value) (st : CoreState) (links : List CoreLink) → G st links → G (homed home v st) links
  homed_at home (value.Object f) st links b = homed_by home st (object_at st.heap f).class links b
  homed_at home v st links b = b

  note_at : (is : Bool) (id : ObjId) (k : Key) (st : CoreState) (links : List CoreLink) → G st links → G (if is then with_store (record st.store { statics = st.store.statics ++ record { class = id; key = k } ∷ [] }) st else st) links
  note_at true id k st links b = b
  note_at false id k st links b = b

  method_at : (is_method : Bool) (id : ObjId) (k : Key) (v : Value) (st : CoreState) (links : List CoreLink) → G st links → G (method_noted is_method id k v st) links
  method_at true id k v st links b = note_at _ id k (homed (value.Object id) v st) links (homed_at (value.Object id) v st links b)
  method_at false id k v st links b = b

  noted_next : (c : Current Mark) (is_method : Bool) (id : ObjId) (k : Key) (v : Value) (links : List CoreLink) (st : CoreState) (w : Write) → R st → L links + F st ≤ D st → N (defined c links (method_noted is_method id k v st) w)
  noted_next c is_method id k v links st w b l =
      let g : G (method_noted is_method id k v st) links = method_at is_method id k v st links (b, l) in
      defined_at c links (method_noted is_method id k v st) w g.0 g.1

  methods_at : (p : CoreStrict) (st : CoreState) (vs : List (CoreValue Mark)) → R st → L p.links + F st ≤ D st → N (method_put p st vs)
  methods_at p st (User key ∷ User v ∷ User (value.Bool is_method) ∷ []) b l =
      object_at1 p.current st _ (λ id. key_at key st _ (λ k. noted_next p.current is_method id k v p.links (with_heap (define_key Sixth st.heap id k (Plain v true true)).after st)
      (define_key Sixth st.heap id k (Plain v true true)).answer b l))
  methods_at p st vs b l = tt

  accessors_at : (p : CoreStrict) (st : CoreState) (vs : List (CoreValue Mark)) → R st → L p.links + F st ≤ D st → N (accessor_put p st vs)
  accessors_at p st (User key ∷ User (value.Object f) ∷ User (value.Bool is_setter) ∷ []) b l =
      object_at1 p.current st _ (λ id. key_at key st _ (λ k. noted_next p.current true id k (value.Object f) p.links (with_heap (define_key Sixth st.heap id k (with_half st.heap id k f is_setter)).after st)
      (define_key Sixth st.heap id k (with_half st.heap id k f is_setter)).answer b l))
  accessors_at p st vs b l = tt

  delegated_at : (p : CoreStrict) (st : CoreState) (vs : List (CoreValue Mark)) → R st → L p.links + F st ≤ D st → N (delegate_step p st vs)
  delegated_at p st (User (value.Number n) ∷ User v ∷ []) b l = option_at (user_at p.current) st _ (λ it. (b, l))
  delegated_at p st vs b l = tt

  template_at : (cooked raw : List Value) (links : List CoreLink) (st : CoreState) (o : Option Value) → R st → L links + F st ≤ D st → N (template_by cooked raw links st o)
  template_at cooked raw links st None b l = (b, l)
  template_at cooked raw links st (Some o) b l = (b, l)

  -- ---- a yield: the context is saved, and its caller goes on

  -- the context, with the frame that waits on top
  abbrev Saves : Frame Mark CoreWork → CoreState → Type 0
  Saves frame st = (below_frame st.context.environment frame ≡ st.context.environment) × (with_frame m frame st.context.frames (F st) ≤ D st)

  saved_bottom : (frame : Frame Mark CoreWork) (st : CoreState) → Saves frame st → bottom st.context.environment (frame ∷ st.context.frames) ≡ bottom st.context.environment st.context.frames
  saved_bottom frame st saves = ap (λ e. bottom e st.context.frames) saves.0

  saved_fits : (frame : Frame Mark CoreWork) (st : CoreState) → Saves frame st → Fits m lim (saved_with (frame ∷ st.context.frames) st)
  saved_fits frame st saves = subst (λ e. with_frame m frame st.context.frames (F st) ≤ lim.most e) (sym (saved_bottom frame st saves)) saves.1

  yield_on : (frame : Frame Mark CoreWork) (wraps : Bool) (v : Value) (st : CoreState) (k : Context Mark Own CoreWork) (ks : List (Context Mark Own CoreWork)) (fs : List (Frame Mark CoreWork))
      → Saves frame st → in_frames m fs ≤ lim.most (bottom k.environment fs) → AllFit m lim ks → AllGeneratorsFit m lim st.store.generators
      → counted lim st.context + ((lim.counts (bottom k.environment fs) + total (counted lim) ks) + total C st.store.generators) ≤ 1
      → N (yield_to frame wraps v st k ks fs)
  yield_on frame wraps v st k ks (Work (Resumes n) ∷ fs) saves at all gens most =
      let saved = saved_with (frame ∷ st.context.frames) st in
      let set : total C (slice_set st.store.generators n (AtYield saved)) ≤ C (AtYield saved) + total C st.store.generators = count_set st.store.generators n (AtYield saved) in
      let same : C (AtYield saved) ≡ counted lim st.context = ap (λ e. lim.counts e) (saved_bottom frame st saves) in
      let left : lim.counts (bottom k.environment fs) + (total (counted lim) ks + total C (slice_set st.store.generators n (AtYield saved))) ≤ 1 = omega arith in
      let kept : AllGeneratorsFit m lim (slice_set st.store.generators n (AtYield saved)) = generators_set st.store.generators n (AtYield saved) (saved_fits frame st saves) gens in
      either_at wraps _ _ ((all, kept, left), at) ((all, kept, left), at)
  yield_on frame wraps v st k ks fs saves at all gens most = tt

  yield_by : (frame : Frame Mark CoreWork) (wraps : Bool) (v : Value) (st : CoreState) (ks : List (Context Mark Own CoreWork)) → Saves frame st → AllFit m lim ks → AllGeneratorsFit m lim st.store.generators
      → counted lim st.context + (total (counted lim) ks + total C st.store.generators) ≤ 1 → N (yield_from frame wraps v st ks)
  yield_by frame wraps v st [] saves all gens most = tt
  yield_by frame wraps v st (k ∷ ks) saves (first, all) gens most = yield_on frame wraps v st k ks k.frames saves first all gens most

  pub yields_at : (frame : Frame Mark CoreWork) (wraps : Bool) (v : Value) (st : CoreState) → Saves frame st → R st → N (yields frame wraps v st)
  yields_at frame wraps v st saves (callers, gens, most) = yield_by frame wraps v st st.callers saves callers gens most

  -- ---- all operations

  primitives_at : (core : Core) (p : CoreStrict) (st : CoreState) (q : Primitive) → R st → L p.links + F st ≤ D st → N (primitive_act core p st q)
  unfolding primitive_act
  primitives_at core p st primitive.CheckReady b l = ready_at p st p.current b l
  primitives_at core p st (primitive.CellMake x) b l = cell_at p st p.current b l
  primitives_at core p st primitive.ToText b l = option_at (user_at p.current) st _ (λ v. (b, l))
  primitives_at core p st primitive.IterStart b l = option_at (user_at p.current) st _ (λ v. option_at (single_user p.values) st _ (λ w. (b, l)))
  primitives_at core p st primitive.IterStep b l = option_at (user_at p.current) st _ (λ v. (b, l))
  primitives_at core p st primitive.IterValue b l = option_at (user_at p.current) st _ (λ v. (b, l))
  primitives_at core p st primitive.IterClose b l = option_at (user_at p.current) st _ (λ v. (b, l))
  primitives_at core p st primitive.RestList b l = option_at (user_at p.current) st _ (λ v. (b, l))
  primitives_at core p st primitive.SpreadList b l = spreads_at p st p.values b l
  primitives_at core p st primitive.Construct b l =
      option_at (user_at p.current) st _ (λ f. arguments_at p.values st _ (λ args. constructs_at core f args f (pushed (After p.links) st) (constructor_of Sixth st.heap f) (b, l)))
  primitives_at core p st primitive.NamespaceMake b l = arguments_at (has_value p.current) st _ (λ vs. (b, l))
  primitives_at core p st primitive.ClassMake b l = classes_at core p st p.current p.values b l
  primitives_at core p st primitive.SuperConstruct b l = arguments_at (has_value p.current) st _ (λ args. constructs_at core (parent_of st.heap st.context.own.callee) args st.context.own.target (pushed (After p.links) st) (constructor_of Sixth st.heap (parent_of st.heap st.context.own.callee)) (b, l))
  primitives_at core p st primitive.ThisBind b l = option_at (user_at p.current) st _ (λ v. bind_at p st v (slice_index_or st.store.this_values st.context.own.this_record None) b l)
  primitives_at core p st primitive.SuperGet b l =
      option_at (user_at p.current) st _ (λ key. option_at (single_user p.values) st _ (λ receiver. key_at key st _ (λ k. (b, l))))
  primitives_at core p st primitive.MethodPut b l = methods_at p st p.values b l
  primitives_at core p st primitive.AccessorPut b l = accessors_at p st p.values b l
  primitives_at core p st primitive.DelegateStep b l = delegated_at p st p.values b l
  primitives_at core p st primitive.Power b l = option_at (user_at p.current) st _ (λ v. option_at (single_user p.values) st _ (λ w. (b, l)))
  primitives_at core p st primitive.TemplateObject b l = arguments_at (has_value p.current) st _ (λ cooked. arguments_at p.values st _ (λ raw. template_at cooked raw p.links st _ b l))
  primitives_at core p st q b l = tt

  rows_at : (core : Core) (p : CoreStrict) (st : CoreState) (o : CoreOp) → R st → L p.links + F st ≤ D st → N (act_op core p st o)
  rows_at core p st op.CallList b l = arguments_at p.values st _ (λ args. current_at p st args p.current b l)
  rows_at core p st op.CallListWith b l = listed_at p st p.values b l
  rows_at core p st op.NewList b l = option_at (user_at p.current) st _ (λ f. arguments_at p.values st _ (λ args. constructs_at core f args f (pushed (After p.links) st) (constructor_of Sixth st.heap f) (b, l)))
  rows_at core p st op.Element b l = option_at (list_current p.current) st _ (λ list. option_at (single_user p.values) st _ (λ v. grown_at list v p.links st b l))
  rows_at core p st op.Content b l = content_at p st p.current b l
  rows_at core p st op.SetContent b l = contents_at p st p.current p.values b l
  rows_at core p st (op.Primitive q) b l = primitives_at core p st q b l
  rows_at core p st op.Yield b l = option_at (user_at p.current) st _ (λ v. yields_at (Work (YieldsIn p.links)) true v st (refl, l) b)
  rows_at core p st op.Delegate b l = option_at (user_at p.current) st _ (λ v. (b, l))
  rows_at core p st o b l = tt

  element_at : (core : Core) (p : CoreStrict) (st : CoreState) (c : Current Mark) → R st → L p.links + F st ≤ D st → N (element (rows core) p st c)
  element_at core p st (Has (Extra m)) b l = rows_at core p st p.op b l
  element_at core p st (Has (User (value.Object id))) b l = option_at (single_user p.values) st _ (λ v. (b, l))
  element_at core p st c b l = tt

  hole_to : (core : Core) (p : CoreStrict) (st : CoreState) (c : Current Mark) → R st → L p.links + F st ≤ D st → N (hole (rows core) p st c)
  hole_to core p st (Has (Extra m)) b l = rows_at core p st p.op b l
  hole_to core p st (Has (User (value.Object id))) b l = (b, l)
  hole_to core p st c b l = tt

  pub acts_at : (core : Core) (p : CoreStrict) (st : CoreState) (o : CoreOp) → R st → L p.links + F st ≤ D st → N (act_by (rows core) core p st o)
  unfolding act_by
  acts_at core p st (op.Member k) b l =
      option_at (user_at p.current) st _ (λ v. either_at (is_nothing v) (raises TypeError st) (goes (named v (key_units k)) p.links st) (b, drop (L p.links) (F st) (D st) l) (b, l))
  acts_at core p st op.Index b l = option_at (user_at p.current) st _ (λ v. option_at (single_user p.values) st _ (λ k. (b, l)))
  acts_at core p st op.Call b l = option_at (users p.values) st _ (λ args. current_at p st args p.current b l)
  acts_at core p st op.CallWith b l = option_at (users p.values) st _ (λ args. with_at p st args b l)
  acts_at core p st op.New b l = option_at (user_at p.current) st _ (λ f. option_at (users p.values) st _ (λ args. construct_at f args p.site (pushed (After p.links) st) (constructor_of Sixth st.heap f) (b, l)))
  acts_at core p st op.Put b l = put_at p st p.current b l
  acts_at core p st op.Delete b l = delete_at p st p.current b l
  acts_at core p st (op.Update o) b l = update_at o p st p.current b l
  acts_at core p st (op.Step u) b l = step_to u p st p.current b l
  acts_at core p st (op.Operator o) b l = option_at (user_at p.current) st _ (λ v. option_at (single_user p.values) st _ (λ w. operate_at (After p.links) o v w st (b, l)))
  acts_at core p st (op.Unary u) b l = option_at (user_at p.current) st _ (λ v. one_at p.links u v st b l)
  acts_at core p st op.Then b l = option_at (single p.values) st _ (λ v. (b, l))
  acts_at core p st (op.Set x) b l = set_at core x p st p.current b l
  acts_at core p st (op.Init x) b l = init_at x p st p.current b l
  acts_at core p st (op.StepVariable u x) b l = option_at (user_at p.current) st _ (λ v. (b, l))
  acts_at core p st op.Element b l = element_at core p st p.current b l
  acts_at core p st op.Hole b l = hole_to core p st p.current b l
  acts_at core p st (op.Define k) b l = object_at1 p.current st _ (λ id. option_at (single_user p.values) st _ (λ v. defined_at p.current p.links _ _ b l))
  acts_at core p st (op.Getter k) b l = object_at1 p.current st _ (λ id. option_at (single_user p.values) st _ (λ v. accessor_at core id (key_units k) false p st v b l))
  acts_at core p st (op.Setter k) b l = object_at1 p.current st _ (λ id. option_at (single_user p.values) st _ (λ v. accessor_at core id (key_units k) true p st v b l))
  acts_at core p st o b l = rows_at core p st p.op b l
