-- A step that makes no record leaves code where it may stand: heads, operations and links.
use Rattle.std.proofs.Common.{◌≡◌, ℕ, zero, suc, Bool, true, false, List, [], ◌∷◌, ◌++◌, Option, None, Some, slice_get, refl, sym, subst, ◌∙◌}
use Rattle.std.specs.Prelude.{if◌then◌else◌, ℤ, pos, length, nat_eq, slice_index_or, slice_set}
use Rattle.es_outside.specs.declared.events.Site.{Site}
use Rattle.es_outside.specs.declared.primitive.Primitive.{Primitive as Prim}
use Rattle.es_value.specs.declared.value.ObjId.{ObjId}
use Rattle.es_value.specs.declared.value.Value.{Value}
use Rattle.es_value.specs.declared.value.Value.TheVariants as value
use Rattle.es_heap.specs.Heaps.{object_at}
use Rattle.es_heap.specs.declared.class.Class.{Class}
use Rattle.es_heap.specs.declared.class.Class.TheVariants as class
use Rattle.es_heap.specs.declared.key.Key.{Key}
use Rattle.es_heap.specs.declared.prop.Prop.TheVariants.{Plain}
use Rattle.es_realm.specs.Access.{define_key}
use Rattle.es_realm.specs.Names.{function_prototype, object_prototype}
use Rattle.es_realm.specs.declared.edition.Edition.TheVariants.{Sixth}
use Rattle.es_realm.specs.declared.errors.ErrorKind.TheVariants.{TypeError}
use Rattle.es_calls.specs.Calls.{is_undefined}
use Rattle.es_operators.specs.Functions.{constructor_of}
use Rattle.es_operators.specs.Operators.{is_nothing}
use Rattle.es_operations.specs.Making.{with_half}
use Rattle.es_operators.specs.Primitives.{to_prims}
use Rattle.es_realm.specs.declared.access.Write.{Write}
use Rattle.es_realm.specs.declared.access.Write.TheVariants as answers
use Rattle.es_operators.specs.declared.functions.Constructor.{Constructor}
use Rattle.es_operators.specs.declared.functions.Constructor.TheVariants as constructor
use Rattle.core_ast.specs.declared.parts.Binary.{Binary}
use Rattle.core_ast.specs.declared.parts.Binary.TheVariants as binary
use Rattle.core_ast.specs.declared.parts.CoreHead.{CoreHead}
use Rattle.core_ast.specs.declared.parts.CoreHead.TheVariants as head
use Rattle.core_ast.specs.declared.parts.CoreOp.{CoreOp}
use Rattle.core_ast.specs.declared.parts.CoreOp.TheVariants as op
use Rattle.core_ast.specs.declared.parts.FunctionId.{FunctionId}
use Rattle.core_ast.specs.declared.parts.Primitive.{Primitive}
use Rattle.core_ast.specs.declared.parts.Primitive.TheVariants as primitive
use Rattle.core_ast.specs.declared.parts.Unary.{Unary}
use Rattle.core_ast.specs.declared.parts.Unary.TheVariants as unary
use Rattle.core_ast.specs.declared.parts.Update.{Update}
use Rattle.core_ast.specs.declared.parts.Var.{Var}
use Rattle.core_ast.specs.declared.tree.CoreExpr.{CoreExpr}
use Rattle.core_ast.specs.declared.tree.CoreLink.{CoreLink}
use Rattle.core_ast.specs.declared.tree.CoreStat.{CoreStat}
use Rattle.core_ast.specs.declared.whole.Core.{Core}
use Rattle.core_ast.specs.declared.whole.CoreFunction.{CoreFunction}
use Rattle.core_ast.specs.declared.whole.CoreKind.{CoreKind}
use Rattle.core_ast.specs.declared.whole.CoreKind.TheVariants as kind
use Rattle.core_meaning.specs.Calls.{asks_host, call_current, call_with, construct_by, constructs}
use Rattle.core_meaning.specs.Classes.{accessor_put, bind_this, is_derived, named, class_by, class_make, construct_as, has_value, make_class, method_noted, method_put, parent_of, homed, homed_class, with_home, with_key}
use Rattle.core_meaning.specs.Cells.{cell_make, check_ready, content, set_content}
use Rattle.core_meaning.specs.Expressions.{begin_head, constant_value, function_at, has_given, initialize, operate, operate_one, set, single, single_user, user_at}
use Rattle.core_meaning.specs.Functions.{call_list_with, closure_by, grown, list_current, with_arguments_in, with_hole}
use Rattle.core_meaning.specs.Generators.{delegate_step, yield_from, yield_to, yields}
use Rattle.core_meaning.specs.Iteration.{spread_by, spread_of}
use Rattle.core_meaning.specs.Marks.{Arguments, Cell, CoreList, CoreNext, CoreState, CoreStrict, CoreWork, Empty, Generator, Mark, OfArguments, Derived, OfArray, Own, Resumes, Unmade, YieldsIn, with_store}
use Rattle.core_meaning.specs.Modules.{act_op, primitive_act, primitive_head, rows, template_by}
use Rattle.core_meaning.specs.Names.{Resolved, initialize_found, initialized, read_found, resolve, type_found, write, write_found, if_mutable}
use Rattle.core_meaning.specs.Properties.{accessor_defined, defined, key_units, delete, element, hole, put, step_at, update, with_object}
use Rattle.core_meaning.specs.Rows.{calls, goes, has, pushed, raises, users, with_heap, with_option, with_user}
use Rattle.core_meaning.specs.State.{After, Closure, Context, CoreValue, Current, Environment, Extra, Frame, Has, Hosted, Method, Old, Reference, Store, User, Work}
use Rattle.core_meaning.specs.Step.{act_by}
use Rattle.cells_keep_runs.specs.Placing.{AllContexts, AllGenerators, At, FrameAt, FramesAt, GeneratorAt, Handler, HeadMay, HeadPlain, NextAt, OpMay, StateAt, below_frame}

module _ (S : At (List CoreStat)) (E : At CoreExpr) (L : At (List CoreLink)) (H : At Handler) where
  abbrev pub St : CoreState → Type 0
  St = StateAt S E L H

  abbrev pub N : CoreNext → Type 0
  N = NextAt S E L H

  abbrev pub env : CoreState → Environment
  env st = st.context.environment

  -- ---- choices

  pub option_at : {A : Type 0} (o : Option A) (st : CoreState) (f : A → CoreNext) → ((x : A) → N (f x)) → N (with_option o st f)
  option_at None st f h = tt
  option_at (Some x) st f h = h x

  pub value_at : (v : CoreValue Mark) (st : CoreState) (f : Value → CoreNext) → ((w : Value) → N (f w)) → N (with_user v st f)
  value_at (User w) st f h = h w
  value_at (Extra m) st f h = tt

  pub either_at : (b : Bool) (n m : CoreNext) → N n → N m → N (if b then n else m)
  either_at true n m p q = p
  either_at false n m p q = q

  pub pushed_at : (f : Frame Mark CoreWork) (st : CoreState) → below_frame (env st) f ≡ env st → FrameAt S E L H (env st) f → St st → St (pushed f st)
  pushed_at f st same at b = ((at, subst (λ e. FramesAt S E L H e st.context.frames) (sym same) b.0), b.1, b.2)

  pub generator_set : (gs : List Generator) (n : ℕ) (g : Generator) → GeneratorAt S E L H g → AllGenerators S E L H gs → AllGenerators S E L H (slice_set gs n g)
  generator_set [] n g at all = tt
  generator_set (x ∷ gs) zero g at (first, all) = (at, all)
  generator_set (x ∷ gs) (suc n) g at (first, all) = (first, generator_set gs n g at all)

  pub generator_more : (gs : List Generator) (g : Generator) → GeneratorAt S E L H g → AllGenerators S E L H gs → AllGenerators S E L H (gs ++ g ∷ [])
  generator_more [] g at all = (at, tt)
  generator_more (x ∷ gs) g at (first, all) = (first, generator_more gs g at all)

  -- ---- heads

  read_at : (core : Core) (x : Var) (links : List CoreLink) (st : CoreState) (o : Option (Resolved Mark)) → St st → L (env st) links → N (read_found (rows core) x links st o)
  read_at core x links st None b l = tt
  read_at core x links st (Some r) b l = (b, l)

  type_at : (core : Core) (x : Var) (links : List CoreLink) (st : CoreState) (o : Option (Resolved Mark)) → St st → L (env st) links → N (type_found (rows core) x links st o)
  type_at core x links st None b l = tt
  type_at core x links st (Some r) b l = value_at r.binding.value st _ (λ v. (b, l))

  closures_at : (f : FunctionId) (function : CoreFunction) (links : List CoreLink) (st : CoreState) (k : CoreKind) → St st → L (env st) links → N (has_given links (closure_by f function st k))
  closures_at f function links st (kind.Class derived) b l = (b, l)
  closures_at f function links st k b l = (b, l)

  primitive_at : (links : List CoreLink) (st : CoreState) (p : Primitive) → HeadMay (head.Primitive p) → St st → L (env st) links → N (primitive_head links st p)
  primitive_at links st primitive.RefuseConst may b l = (b, tt)
  primitive_at links st primitive.ClassGuard may b l = either_at (is_undefined st.context.own.target) (raises TypeError st) (has value.Undefined links st) (b, tt) (b, l)
  primitive_at links st primitive.NewTarget may b l = (b, l)
  primitive_at links st primitive.ArgumentsPut may b l = (b, l)
  primitive_at links st primitive.GeneratorMake may b l = absurd may
  primitive_at links st primitive.IncludesPut may b l = (b, l)
  primitive_at links st p may b l = tt

  pub heads_at : (core : Core) (h : CoreHead) (links : List CoreLink) (st : CoreState) → HeadMay h → HeadPlain h → St st → L (env st) links → N (begin_head (rows core) core h links st)
  unfolding begin_head
  heads_at core (head.Constant c) links st may is b l = option_at (constant_value c) st _ (λ v. (b, l))
  heads_at core (head.Variable x) links st may is b l = read_at core x links st (resolve st x) b l
  heads_at core (head.TypeOf x) links st may is b l = type_at core x links st (resolve st x) b l
  heads_at core (head.Function f) links st may is b l = option_at (function_at core f) st _ (λ function. closures_at f function links st function.kind b l)
  heads_at core (head.Primitive p) links st may is b l = primitive_at links st p may b l
  heads_at core (head.Copy xs) links st may is b l = absurd is
  heads_at core h links st may is b l = (b, l)

  -- ---- operations of the language

  operate_at : (f : Frame Mark CoreWork) (o : Binary) (v w : Value) (st : CoreState) → St (pushed f st) → N (operate f o v w st)
  unfolding operate
  operate_at f binary.Same v w st b = (b, tt)
  operate_at f binary.NotSame v w st b = (b, tt)
  operate_at f o v w st b = (b, tt)

  one_at : (links : List CoreLink) (u : Unary) (v : Value) (st : CoreState) → St st → L (env st) links → N (operate_one links u v st)
  unfolding operate_one
  one_at links unary.Void v st b l = (b, l)
  one_at links unary.Typeof v st b l = (b, l)
  one_at links unary.Not v st b l = (b, l)
  one_at links u v st b l = (((l, b.0), b.1, b.2), tt)

  pub host_at : (n : ℕ) (site : Site) (st : CoreState) (o : Option (List Prim)) → St st → N (asks_host n site st o)
  host_at n site st None b = (b, tt)
  host_at n site st (Some args) b = λ a. (b, tt)

  current_at : (p : CoreStrict) (st : CoreState) (args : List Value) (c : Current Mark) → St st → L (env st) p.links → N (call_current p st args c)
  current_at p st args (Has (User f)) b l = (((l, b.0), b.1, b.2), tt)
  current_at p st args (Method f receiver) b l = (((l, b.0), b.1, b.2), tt)
  current_at p st args (Hosted n) b l = host_at n _ (pushed (After p.links) st) (to_prims args) ((l, b.0), b.1, b.2)
  current_at p st args c b l = tt

  with_at : (p : CoreStrict) (st : CoreState) (args : List Value) → St st → L (env st) p.links → N (call_with p st args)
  with_at p st [] b l = tt
  with_at p st (receiver ∷ args) b l = option_at (user_at p.current) st _ (λ f. (((l, b.0), b.1, b.2), tt))

  construct_at : (f : Value) (args : List Value) (site : Option Site) (st : CoreState) (c : Constructor) → St st → N (construct_by f args site st c)
  unfolding construct_by
  construct_at f args site st (constructor.Runs id) b = (((tt, b.0), b.1, b.2), tt)
  construct_at f args site st (constructor.MakesError n) b = (b, tt)
  construct_at f args site st (constructor.Leaves x) b = tt
  construct_at f args site st constructor.Fails b = (b, tt)

  put_at : (p : CoreStrict) (st : CoreState) (c : Current Mark) → St st → L (env st) p.links → N (put p st c)
  put_at p st (Reference base k) b l = option_at (single_user p.values) st _ (λ v. (((l, b.0), b.1, b.2), tt))
  put_at p st c b l = tt

  delete_at : (p : CoreStrict) (st : CoreState) (c : Current Mark) → St st → L (env st) p.links → N (delete p st c)
  delete_at p st (Reference base k) b l = (((l, b.0), b.1, b.2), tt)
  delete_at p st c b l = tt

  update_at : (o : Binary) (p : CoreStrict) (st : CoreState) (c : Current Mark) → St st → L (env st) p.links → N (update o p st c)
  update_at o p st (Old base k v) b l = option_at (single_user p.values) st _ (λ w. operate_at (Store base k p.links) o v w st ((l, b.0), b.1, b.2))
  update_at o p st c b l = tt

  step_to : (u : Update) (p : CoreStrict) (st : CoreState) (c : Current Mark) → St st → L (env st) p.links → N (step_at u p st c)
  step_to u p st (Old base k v) b l = (((l, b.0), b.1, b.2), tt)
  step_to u p st c b l = tt

  object_at1 : (c : Current Mark) (st : CoreState) (f : ObjId → CoreNext) → ((id : ObjId) → N (f id)) → N (with_object c st f)
  object_at1 (Has (User (value.Object id))) st f h = h id
  object_at1 c st f h = tt

  defined_at : (c : Current Mark) (links : List CoreLink) (st : CoreState) (w : Write) → St st → L (env st) links → N (defined c links st w)
  defined_at c links st answers.Done b l = (b, l)
  defined_at c links st (answers.Leaves x) b l = tt
  defined_at c links st answers.OutOfRange b l = (b, tt)
  defined_at c links st w b l = (b, tt)

  accessor_at : (core : Core) (id : ObjId) (units : List ℕ) (is_setter : Bool) (p : CoreStrict) (st : CoreState) (v : Value) → St st → L (env st) p.links → N (accessor_defined (rows core) id units is_setter p st v)
  accessor_at core id units is_setter p st (value.Object f) b l = defined_at p.current p.links _ _ b l
  accessor_at core id units is_setter p st v b l = tt

  mutable_at : (b : Bool) (st : CoreState) (n : CoreNext) → St st → N n → N (if_mutable b st n)
  mutable_at true st n b on = on
  mutable_at false st n b on = (b, tt)

  written_at : (core : Core) (x : Var) (v w : CoreValue Mark) (links : List CoreLink) (st : CoreState) (o : Option (Resolved Mark)) → St st → L (env st) links → N (write_found (rows core) x v w links st o)
  written_at core x v w links st None b l = tt
  written_at core x v w links st (Some r) b l = mutable_at r.binding.mutable st _ b (b, l)

  set_at : (core : Core) (x : Var) (p : CoreStrict) (st : CoreState) (c : Current Mark) → St st → L (env st) p.links → N (set (rows core) x p st c)
  unfolding write
  set_at core x p st (Has v) b l = written_at core x v v p.links st (resolve st x) b l
  set_at core x p st c b l = tt

  found_at : (x : Var) (v : CoreValue Mark) (c : Current Mark) (links : List CoreLink) (st : CoreState) (o : Option (Resolved Mark)) → St st → L (env st) links → N (goes c links (initialize_found x v st o))
  found_at x v c links st None b l = (b, l)
  found_at x v c links st (Some r) b l = (b, l)

  init_at : (x : Var) (p : CoreStrict) (st : CoreState) (c : Current Mark) → St st → L (env st) p.links → N (initialize x p st c)
  unfolding initialized
  init_at x p st (Has v) b l = found_at x v (Has v) p.links st (resolve st x) b l
  init_at x p st c b l = tt

  -- ---- operations of modules

  arguments_at : (vs : List (CoreValue Mark)) (st : CoreState) (f : List Value → CoreNext) → ((ws : List Value) → N (f ws)) → N (with_arguments_in vs st f)
  arguments_at (Extra (Arguments ws) ∷ []) st f h = h ws
  arguments_at vs st f h = tt

  listed_at : (p : CoreStrict) (st : CoreState) (vs : List (CoreValue Mark)) → St st → L (env st) p.links → N (call_list_with p st vs)
  listed_at p st (User receiver ∷ Extra (Arguments args) ∷ []) b l = option_at (user_at p.current) st _ (λ f. (((l, b.0), b.1, b.2), tt))
  listed_at p st vs b l = tt

  constructs_at : (core : Core) (f : Value) (args : List Value) (target : Value) (st : CoreState) (c : Constructor) → St st → N (construct_as core f args target st c)
  constructs_at core f args target st (constructor.Runs id) b =
      either_at (is_derived core st f)
      (calls (Work (Derived (length st.store.this_values))) (record { function = f; receiver = value.Undefined; args = args; target = Some target; site = None }) st) (constructs f args target st)
      (((tt, b.0), b.1, b.2), tt) (((tt, b.0), b.1, b.2), tt)
  constructs_at core f args target st (constructor.MakesError n) b = (b, tt)
  constructs_at core f args target st (constructor.Leaves x) b = tt
  constructs_at core f args target st constructor.Fails b = (b, tt)

  grown_at : (list : CoreList) (v : Value) (links : List CoreLink) (st : CoreState) → St st → L (env st) links → N (grown list v links st)
  grown_at (OfArray id) v links st b l = (b, l)
  grown_at (OfArguments vs) v links st b l = (b, l)

  hole_at : (list : CoreList) (links : List CoreLink) (st : CoreState) → St st → L (env st) links → N (with_hole list links st)
  hole_at (OfArray id) links st b l = (b, l)
  hole_at (OfArguments vs) links st b l = tt

  content_at : (p : CoreStrict) (st : CoreState) (c : Current Mark) → St st → L (env st) p.links → N (content p st c)
  content_at p st (Has (Extra (Cell n))) b l = option_at (slice_get st.store.cells n) st _ (λ v. (b, l))
  content_at p st c b l = tt

  contents_at : (p : CoreStrict) (st : CoreState) (c : Current Mark) (vs : List (CoreValue Mark)) → St st → L (env st) p.links → N (set_content p st c vs)
  contents_at p st (Has (Extra (Cell n))) (v ∷ []) b l = (b, l)
  contents_at p st c vs b l = tt

  ready_at : (p : CoreStrict) (st : CoreState) (c : Current Mark) → St st → L (env st) p.links → N (check_ready p st c)
  ready_at p st (Has (User v)) b l = (b, l)
  ready_at p st (Has (Extra Empty)) b l = (b, tt)
  ready_at p st c b l = tt

  cell_at : (p : CoreStrict) (st : CoreState) (c : Current Mark) → St st → L (env st) p.links → N (cell_make p st c)
  cell_at p st (Has v) b l = (b, l)
  cell_at p st c b l = tt

  spread_at : (list : CoreList) (v : Value) (n : ℤ) (p : CoreStrict) (st : CoreState) → St st → L (env st) p.links → N (spread_by list v n p st)
  spread_at list v (pos n) p st b l = either_at (nat_eq n 0) _ _ (grown_at list v p.links st b l) (either_at (nat_eq n 2) _ _ (hole_at list p.links st b l) (((l, b.0), b.1, b.2), tt))
  spread_at list v n p st b l = tt

  spreads_at : (p : CoreStrict) (st : CoreState) (vs : List (CoreValue Mark)) → St st → L (env st) p.links → N (spread_of p st vs)
  spreads_at p st (User v ∷ User (value.Number n) ∷ []) b l = option_at (list_current p.current) st _ (λ list. spread_at list v n p st b l)
  spreads_at p st vs b l = tt

  class_at : (core : Core) (f : FunctionId) (heritage : Value) (parent : ObjId) (above : Option ObjId) (links : List CoreLink) (st : CoreState) → St st → L (env st) links → N (make_class core f heritage parent above links st)
  class_at core f heritage parent above links st b l = option_at (function_at core f) st _ (λ function. (b, l))

  heritage_at : (core : Core) (has_heritage : Bool) (heritage : Value) (f : FunctionId) (p : CoreStrict) (st : CoreState) → St st → L (env st) p.links → N (class_by core has_heritage heritage f p st)
  heritage_at core true heritage f p st b l = (((l, b.0), b.1, b.2), tt)
  heritage_at core false heritage f p st b l = class_at core f value.Undefined function_prototype (Some object_prototype) p.links st b l

  classes_at : (core : Core) (p : CoreStrict) (st : CoreState) (c : Current Mark) (vs : List (CoreValue Mark)) → St st → L (env st) p.links → N (class_make core p st c vs)
  classes_at core p st (Has (User (value.Bool has_heritage))) (User heritage ∷ Extra (Unmade f) ∷ []) b l = heritage_at core has_heritage heritage f p st b l
  classes_at core p st c vs b l = tt

  bind_at : (p : CoreStrict) (st : CoreState) (v : Value) (o : Option Value) → St st → L (env st) p.links → N (bind_this p st v o)
  bind_at p st v None b l = (b, l)
  bind_at p st v (Some w) b l = (b, tt)

  key_at : (v : Value) (st : CoreState) (f : Key → CoreNext) → ((k : Key) → N (f k)) → N (with_key v st f)
  key_at (value.Text units) st f h = h _
  key_at v st f h = tt

  -- closures and statics are no code
  home_at : (home : Value) (n : ℕ) (st : CoreState) (o : Option (Closure Own)) → St st → St (with_home home n st o)
  home_at home n st None b = b
  home_at home n st (Some c) b = b

  homed_by : (home : Value) (st : CoreState) (k : Class) → St st → St (homed_class home st k)
  homed_by home st (class.Function n) b = home_at home n st (slice_get st.closures n) b
  homed_by home st k b = b

  homed_at : (home v : Value) (st : CoreState) → St st → St (homed home v st)
  homed_at home (value.Object f) st b = homed_by home st (object_at st.heap f).class b
  homed_at home v st b = b

  note_at : (is : Bool) (id : ObjId) (k : Key) (st : CoreState) → St st → St (if is then with_store (record st.store { statics = st.store.statics ++ record { class = id; key = k } ∷ [] }) st else st)
  note_at true id k st b = b
  note_at false id k st b = b

  method_at : (is_method : Bool) (id : ObjId) (k : Key) (v : Value) (st : CoreState) → St st → St (method_noted is_method id k v st)
  method_at true id k v st b = note_at _ id k (homed (value.Object id) v st) (homed_at (value.Object id) v st b)
  method_at false id k v st b = b

  -- the links stand along the same environment
  same_home : (home : Value) (n : ℕ) (st : CoreState) (o : Option (Closure Own)) → env (with_home home n st o) ≡ env st
  same_home home n st None = refl
  same_home home n st (Some c) = refl

  same_homed_by : (home : Value) (st : CoreState) (k : Class) → env (homed_class home st k) ≡ env st
  same_homed_by home st (class.Function n) = same_home home n st (slice_get st.closures n)
  same_homed_by home st k = refl

  same_homed : (home v : Value) (st : CoreState) → env (homed home v st) ≡ env st
  same_homed home (value.Object f) st = same_homed_by home st (object_at st.heap f).class
  same_homed home v st = refl

  same_note : (is : Bool) (id : ObjId) (k : Key) (st : CoreState) → env (if is then with_store (record st.store { statics = st.store.statics ++ record { class = id; key = k } ∷ [] }) st else st) ≡ env st
  same_note true id k st = refl
  same_note false id k st = refl

  same_method : (is_method : Bool) (id : ObjId) (k : Key) (v : Value) (st : CoreState) → env (method_noted is_method id k v st) ≡ env st
  same_method true id k v st = same_note _ id k (homed (value.Object id) v st) ∙ same_homed (value.Object id) v st
  same_method false id k v st = refl

  noted_next : (c : Current Mark) (is_method : Bool) (id : ObjId) (k : Key) (v : Value) (links : List CoreLink) (st : CoreState) (w : Write) → St st → L (env st) links → N (defined c links (method_noted is_method id k v st) w)
  noted_next c is_method id k v links st w b l =
      defined_at c links (method_noted is_method id k v st) w (method_at is_method id k v st b) (subst (λ e. L e links) (sym (same_method is_method id k v st)) l)

  methods_at : (p : CoreStrict) (st : CoreState) (vs : List (CoreValue Mark)) → St st → L (env st) p.links → N (method_put p st vs)
  methods_at p st (User key ∷ User v ∷ User (value.Bool is_method) ∷ []) b l =
      object_at1 p.current st _ (λ id. key_at key st _ (λ k. noted_next p.current is_method id k v p.links (with_heap (define_key Sixth st.heap id k (Plain v true true)).after st)
      (define_key Sixth st.heap id k (Plain v true true)).answer b l))
  methods_at p st vs b l = tt

  accessors_at : (p : CoreStrict) (st : CoreState) (vs : List (CoreValue Mark)) → St st → L (env st) p.links → N (accessor_put p st vs)
  accessors_at p st (User key ∷ User (value.Object f) ∷ User (value.Bool is_setter) ∷ []) b l =
      object_at1 p.current st _ (λ id. key_at key st _ (λ k. noted_next p.current true id k (value.Object f) p.links (with_heap (define_key Sixth st.heap id k (with_half st.heap id k f is_setter)).after st)
      (define_key Sixth st.heap id k (with_half st.heap id k f is_setter)).answer b l))
  accessors_at p st vs b l = tt

  delegated_at : (p : CoreStrict) (st : CoreState) (vs : List (CoreValue Mark)) → St st → L (env st) p.links → N (delegate_step p st vs)
  delegated_at p st (User (value.Number n) ∷ User v ∷ []) b l = option_at (user_at p.current) st _ (λ it. (((l, b.0), b.1, b.2), tt))
  delegated_at p st vs b l = tt

  template_at : (cooked raw : List Value) (links : List CoreLink) (st : CoreState) (o : Option Value) → St st → L (env st) links → N (template_by cooked raw links st o)
  template_at cooked raw links st None b l = (b, l)
  template_at cooked raw links st (Some o) b l = (b, l)

  -- ---- a yield: the context is saved, and its caller goes on

  yield_on : (frame : Frame Mark CoreWork) (wraps : Bool) (v : Value) (st : CoreState) (k : Context Mark Own CoreWork) (ks : List (Context Mark Own CoreWork)) (fs : List (Frame Mark CoreWork))
      → below_frame (env st) frame ≡ env st → FrameAt S E L H (env st) frame → St st → FramesAt S E L H k.environment fs → AllContexts S E L H ks → N (yield_to frame wraps v st k ks fs)
  yield_on frame wraps v st k ks (Work (Resumes n) ∷ fs) same at b (here, below) all =
      let saved = generator_set st.store.generators n _ (pushed_at frame st same at b).0 b.2 in
      either_at wraps _ _ ((below, all, saved), tt) ((below, all, saved), tt)
  yield_on frame wraps v st k ks fs same at b below all = tt

  yield_by : (frame : Frame Mark CoreWork) (wraps : Bool) (v : Value) (st : CoreState) (ks : List (Context Mark Own CoreWork)) → below_frame (env st) frame ≡ env st → FrameAt S E L H (env st) frame → St st → AllContexts S E L H ks
      → N (yield_from frame wraps v st ks)
  yield_by frame wraps v st [] same at b all = tt
  yield_by frame wraps v st (k ∷ ks) same at b (first, all) = yield_on frame wraps v st k ks k.frames same at b first all

  pub yields_at : (frame : Frame Mark CoreWork) (wraps : Bool) (v : Value) (st : CoreState) → below_frame (env st) frame ≡ env st → FrameAt S E L H (env st) frame → St st → N (yields frame wraps v st)
  yields_at frame wraps v st same at b = yield_by frame wraps v st st.callers same at b b.1

  -- ---- all operations

  primitives_at : (core : Core) (p : CoreStrict) (st : CoreState) (q : Primitive) → St st → L (env st) p.links → N (primitive_act core p st q)
  unfolding primitive_act
  primitives_at core p st primitive.CheckReady b l = ready_at p st p.current b l
  primitives_at core p st (primitive.CellMake x) b l = cell_at p st p.current b l
  primitives_at core p st primitive.ToText b l = option_at (user_at p.current) st _ (λ v. (((l, b.0), b.1, b.2), tt))
  primitives_at core p st primitive.IterStart b l = option_at (user_at p.current) st _ (λ v. option_at (single_user p.values) st _ (λ w. (((l, b.0), b.1, b.2), tt)))
  primitives_at core p st primitive.IterStep b l = option_at (user_at p.current) st _ (λ v. (((l, b.0), b.1, b.2), tt))
  primitives_at core p st primitive.IterValue b l = option_at (user_at p.current) st _ (λ v. (((l, b.0), b.1, b.2), tt))
  primitives_at core p st primitive.IterClose b l = option_at (user_at p.current) st _ (λ v. (((l, b.0), b.1, b.2), tt))
  primitives_at core p st primitive.RestList b l = option_at (user_at p.current) st _ (λ v. (b, l))
  primitives_at core p st primitive.SpreadList b l = spreads_at p st p.values b l
  primitives_at core p st primitive.Construct b l =
      option_at (user_at p.current) st _ (λ f. arguments_at p.values st _ (λ args. constructs_at core f args f (pushed (After p.links) st) (constructor_of Sixth st.heap f) ((l, b.0), b.1, b.2)))
  primitives_at core p st primitive.NamespaceMake b l = arguments_at (has_value p.current) st _ (λ vs. (b, l))
  primitives_at core p st primitive.ClassMake b l = classes_at core p st p.current p.values b l
  primitives_at core p st primitive.SuperConstruct b l = arguments_at (has_value p.current) st _ (λ args. constructs_at core (parent_of st.heap st.context.own.callee) args st.context.own.target (pushed (After p.links) st) (constructor_of Sixth st.heap (parent_of st.heap st.context.own.callee)) ((l, b.0), b.1, b.2))
  primitives_at core p st primitive.ThisBind b l = option_at (user_at p.current) st _ (λ v. bind_at p st v (slice_index_or st.store.this_values st.context.own.this_record None) b l)
  primitives_at core p st primitive.SuperGet b l =
      option_at (user_at p.current) st _ (λ key. option_at (single_user p.values) st _ (λ receiver. key_at key st _ (λ k. (((l, b.0), b.1, b.2), tt))))
  primitives_at core p st primitive.MethodPut b l = methods_at p st p.values b l
  primitives_at core p st primitive.AccessorPut b l = accessors_at p st p.values b l
  primitives_at core p st primitive.DelegateStep b l = delegated_at p st p.values b l
  primitives_at core p st primitive.Power b l = option_at (user_at p.current) st _ (λ v. option_at (single_user p.values) st _ (λ w. (((l, b.0), b.1, b.2), tt)))
  primitives_at core p st primitive.TemplateObject b l = arguments_at (has_value p.current) st _ (λ cooked. arguments_at p.values st _ (λ raw. template_at cooked raw p.links st _ b l))
  primitives_at core p st q b l = tt

  rows_at : (core : Core) (p : CoreStrict) (st : CoreState) (o : CoreOp) → St st → L (env st) p.links → N (act_op core p st o)
  rows_at core p st op.CallList b l = arguments_at p.values st _ (λ args. current_at p st args p.current b l)
  rows_at core p st op.CallListWith b l = listed_at p st p.values b l
  rows_at core p st op.NewList b l = option_at (user_at p.current) st _ (λ f. arguments_at p.values st _ (λ args. constructs_at core f args f (pushed (After p.links) st) (constructor_of Sixth st.heap f) ((l, b.0), b.1, b.2)))
  rows_at core p st op.Element b l = option_at (list_current p.current) st _ (λ list. option_at (single_user p.values) st _ (λ v. grown_at list v p.links st b l))
  rows_at core p st op.Content b l = content_at p st p.current b l
  rows_at core p st op.SetContent b l = contents_at p st p.current p.values b l
  rows_at core p st (op.Primitive q) b l = primitives_at core p st q b l
  rows_at core p st op.Yield b l = option_at (user_at p.current) st _ (λ v. yields_at (Work (YieldsIn p.links)) true v st refl l b)
  rows_at core p st op.Delegate b l = option_at (user_at p.current) st _ (λ v. (((l, b.0), b.1, b.2), tt))
  rows_at core p st o b l = tt

  element_at : (core : Core) (p : CoreStrict) (st : CoreState) (c : Current Mark) → St st → L (env st) p.links → N (element (rows core) p st c)
  element_at core p st (Has (Extra m)) b l = rows_at core p st p.op b l
  element_at core p st (Has (User (value.Object id))) b l = option_at (single_user p.values) st _ (λ v. (b, l))
  element_at core p st c b l = tt

  hole_to : (core : Core) (p : CoreStrict) (st : CoreState) (c : Current Mark) → St st → L (env st) p.links → N (hole (rows core) p st c)
  hole_to core p st (Has (Extra m)) b l = rows_at core p st p.op b l
  hole_to core p st (Has (User (value.Object id))) b l = (b, l)
  hole_to core p st c b l = tt

  pub acts_at : (core : Core) (p : CoreStrict) (st : CoreState) (o : CoreOp) → OpMay o → St st → L (env st) p.links → N (act_by (rows core) core p st o)
  unfolding act_by
  acts_at core p st (op.Member k) may b l =
      option_at (user_at p.current) st _ (λ v. either_at (is_nothing v) (raises TypeError st) (goes (named v (key_units k)) p.links st) (b, tt) (b, l))
  acts_at core p st op.Index may b l = option_at (user_at p.current) st _ (λ v. option_at (single_user p.values) st _ (λ k. (((l, b.0), b.1, b.2), tt)))
  acts_at core p st op.Call may b l = option_at (users p.values) st _ (λ args. current_at p st args p.current b l)
  acts_at core p st op.CallWith may b l = option_at (users p.values) st _ (λ args. with_at p st args b l)
  acts_at core p st op.New may b l = option_at (user_at p.current) st _ (λ f. option_at (users p.values) st _ (λ args. construct_at f args p.site (pushed (After p.links) st) (constructor_of Sixth st.heap f) ((l, b.0), b.1, b.2)))
  acts_at core p st op.Put may b l = put_at p st p.current b l
  acts_at core p st op.Delete may b l = delete_at p st p.current b l
  acts_at core p st (op.Update o) may b l = update_at o p st p.current b l
  acts_at core p st (op.Step u) may b l = step_to u p st p.current b l
  acts_at core p st (op.Operator o) may b l = option_at (user_at p.current) st _ (λ v. option_at (single_user p.values) st _ (λ w. operate_at (After p.links) o v w st ((l, b.0), b.1, b.2)))
  acts_at core p st (op.Unary u) may b l = option_at (user_at p.current) st _ (λ v. one_at p.links u v st b l)
  acts_at core p st op.Then may b l = option_at (single p.values) st _ (λ v. (b, l))
  acts_at core p st (op.Set x) may b l = set_at core x p st p.current b l
  acts_at core p st (op.Init x) may b l = init_at x p st p.current b l
  acts_at core p st (op.StepVariable u x) may b l = absurd may
  acts_at core p st op.Element may b l = element_at core p st p.current b l
  acts_at core p st op.Hole may b l = hole_to core p st p.current b l
  acts_at core p st (op.Define k) may b l = object_at1 p.current st _ (λ id. option_at (single_user p.values) st _ (λ v. defined_at p.current p.links _ _ b l))
  acts_at core p st (op.Getter k) may b l = object_at1 p.current st _ (λ id. option_at (single_user p.values) st _ (λ v. accessor_at core id (key_units k) false p st v b l))
  acts_at core p st (op.Setter k) may b l = object_at1 p.current st _ (λ id. option_at (single_user p.values) st _ (λ v. accessor_at core id (key_units k) true p st v b l))
  acts_at core p st o may b l = rows_at core p st p.op b l
