-- A step that makes no record leaves the bodies of modules that are ahead: heads and operations.
use Rattle.std.proofs.Common.{◌≡◌, ℕ, Bool, true, false, List, [], ◌∷◌, ◌++◌, Option, None, Some, slice_get}
use Rattle.std.specs.Prelude.{if◌then◌else◌, ℤ, pos, length, nat_eq, slice_index_or}
use Rattle.es_outside.specs.declared.events.Site.{Site}
use Rattle.es_outside.specs.declared.host.Reply.{Reply}
use Rattle.es_outside.specs.declared.host.Reply.TheVariants as reply
use Rattle.es_outside.specs.declared.primitive.Primitive.{Primitive as Prim}
use Rattle.es_value.specs.declared.value.ObjId.{ObjId}
use Rattle.es_value.specs.declared.value.Value.{Value}
use Rattle.es_value.specs.declared.value.Value.TheVariants as value
use Rattle.es_heap.specs.Heaps.{object_at}
use Rattle.es_heap.specs.declared.class.Class.{Class}
use Rattle.es_heap.specs.declared.class.Class.TheVariants as class
use Rattle.es_heap.specs.declared.key.Key.{Key}
use Rattle.es_heap.specs.declared.prop.Prop.TheVariants.{Plain}
use Rattle.es_realm.specs.Access.{define_key}
use Rattle.es_realm.specs.Names.{function_prototype, object_prototype}
use Rattle.es_realm.specs.declared.edition.Edition.TheVariants.{Sixth}
use Rattle.es_realm.specs.declared.errors.ErrorKind.TheVariants.{TypeError}
use Rattle.es_calls.specs.Calls.{is_undefined}
use Rattle.es_operators.specs.Functions.{constructor_of}
use Rattle.es_operators.specs.Operators.{is_nothing}
use Rattle.es_operations.specs.Making.{with_half}
use Rattle.es_operators.specs.Primitives.{to_prims}
use Rattle.es_realm.specs.declared.access.Write.{Write}
use Rattle.es_realm.specs.declared.access.Write.TheVariants as answers
use Rattle.es_operators.specs.declared.functions.Constructor.{Constructor}
use Rattle.es_operators.specs.declared.functions.Constructor.TheVariants as constructor
use Rattle.core_ast.specs.declared.parts.Binary.{Binary}
use Rattle.core_ast.specs.declared.parts.Binary.TheVariants as binary
use Rattle.core_ast.specs.declared.parts.CoreHead.{CoreHead}
use Rattle.core_ast.specs.declared.parts.CoreHead.TheVariants as head
use Rattle.core_ast.specs.declared.parts.CoreOp.{CoreOp}
use Rattle.core_ast.specs.declared.parts.CoreOp.TheVariants as op
use Rattle.core_ast.specs.declared.parts.FunctionId.{FunctionId}
use Rattle.core_ast.specs.declared.parts.Primitive.{Primitive}
use Rattle.core_ast.specs.declared.parts.Primitive.TheVariants as primitive
use Rattle.core_ast.specs.declared.parts.Unary.{Unary}
use Rattle.core_ast.specs.declared.parts.Unary.TheVariants as unary
use Rattle.core_ast.specs.declared.parts.Update.{Update}
use Rattle.core_ast.specs.declared.parts.Var.{Var}
use Rattle.core_ast.specs.declared.tree.CoreLink.{CoreLink}
use Rattle.core_ast.specs.declared.whole.Core.{Core}
use Rattle.core_ast.specs.declared.whole.CoreFunction.{CoreFunction}
use Rattle.core_ast.specs.declared.whole.CoreKind.{CoreKind}
use Rattle.core_ast.specs.declared.whole.CoreKind.TheVariants as kind
use Rattle.core_meaning.specs.Calls.{reply_of, asks_host, call_current, call_with, construct_by, constructs}
use Rattle.core_meaning.specs.Classes.{accessor_put, bind_this, is_derived, named, class_by, class_make, construct_as, has_value, make_class, method_noted, method_put, parent_of, homed, homed_class, with_home, with_key}
use Rattle.core_meaning.specs.Cells.{cell_make, check_ready, content, set_content}
use Rattle.core_meaning.specs.Expressions.{begin_head, constant_value, function_at, has_given, initialize, operate, operate_one, set, single, single_user, user_at}
use Rattle.core_meaning.specs.Functions.{call_list_with, closure_by, grown, list_current, with_arguments_in, with_hole}
use Rattle.core_meaning.specs.Generators.{delegate_step, yield_from, yield_to, yields}
use Rattle.core_meaning.specs.Iteration.{spread_by, spread_of}
use Rattle.core_meaning.specs.Marks.{Arguments, Cell, CoreList, CoreNext, CoreState, CoreStrict, CoreWork, Empty, Mark, OfArguments, Derived, OfArray, Own, Resumes, Unmade, YieldsIn, with_store}
use Rattle.core_meaning.specs.Modules.{act_op, primitive_act, primitive_head, rows, template_by}
use Rattle.core_meaning.specs.Names.{Resolved, initialize_found, initialized, read_found, resolve, type_found, write, write_found, if_mutable}
use Rattle.core_meaning.specs.Properties.{accessor_defined, defined, key_units, delete, element, hole, put, step_at, update, with_object}
use Rattle.core_meaning.specs.Rows.{calls, goes, hands, has, pushed, raises, users, with_heap, with_option, with_user}
use Rattle.core_meaning.specs.State.{After, Closure, Context, CoreValue, Current, Extra, Frame, Has, Hosted, Method, Old, Reference, Store, User, Work}
use Rattle.core_meaning.specs.Step.{act_by}
use Rattle.core_ast.specs.declared.tree.CoreStat.{CoreStat}
use Rattle.runs.specs.Run.{Asks, Ends, Goes, Leaves}
use Rattle.cells_keep_runs.specs.Placing.{HeadPlain}

-- the next configurations have these bodies ahead
abbrev pub NextKeeps : List (List CoreStat) → CoreNext → Type 0
NextKeeps a (Goes s) = s.state.ahead ≡ a
NextKeeps a (Asks event follow) = (r : Reply) → (follow r).state.ahead ≡ a
NextKeeps a (Ends ending) = Unit {0}
NextKeeps a (Leaves exit) = Unit {0}

module _ (a : List (List CoreStat)) where
  abbrev pub K : CoreState → Type 0
  K st = st.ahead ≡ a

  abbrev pub N : CoreNext → Type 0
  N next = NextKeeps a next

  -- ---- choices

  pub option_at : {A : Type 0} (o : Option A) (st : CoreState) (f : A → CoreNext) → ((x : A) → N (f x)) → N (with_option o st f)
  option_at None st f h = tt
  option_at (Some x) st f h = h x

  pub value_at : (v : CoreValue Mark) (st : CoreState) (f : Value → CoreNext) → ((w : Value) → N (f w)) → N (with_user v st f)
  value_at (User w) st f h = h w
  value_at (Extra m) st f h = tt

  pub either_at : (b : Bool) (n m : CoreNext) → N n → N m → N (if b then n else m)
  either_at true n m p q = p
  either_at false n m p q = q

  -- ---- heads

  read_at : (core : Core) (x : Var) (links : List CoreLink) (st : CoreState) (o : Option (Resolved Mark)) → K st → N (read_found (rows core) x links st o)
  read_at core x links st None b = tt
  read_at core x links st (Some r) b = b

  type_at : (core : Core) (x : Var) (links : List CoreLink) (st : CoreState) (o : Option (Resolved Mark)) → K st → N (type_found (rows core) x links st o)
  type_at core x links st None b = tt
  type_at core x links st (Some r) b = value_at r.binding.value st _ (λ v. b)

  closures_at : (f : FunctionId) (function : CoreFunction) (links : List CoreLink) (st : CoreState) (k : CoreKind) → K st → N (has_given links (closure_by f function st k))
  closures_at f function links st (kind.Class derived) b = b
  closures_at f function links st k b = b

  primitive_at : (links : List CoreLink) (st : CoreState) (p : Primitive) → K st → N (primitive_head links st p)
  primitive_at links st primitive.RefuseConst b = b
  primitive_at links st primitive.ClassGuard b = either_at (is_undefined st.context.own.target) (raises TypeError st) (has value.Undefined links st) b b
  primitive_at links st primitive.NewTarget b = b
  primitive_at links st primitive.ArgumentsPut b = b
  primitive_at links st primitive.GeneratorMake b = b
  primitive_at links st primitive.IncludesPut b = b
  primitive_at links st p b = tt

  pub heads_at : (core : Core) (h : CoreHead) (links : List CoreLink) (st : CoreState) → HeadPlain h → K st → N (begin_head (rows core) core h links st)
  unfolding begin_head
  heads_at core (head.Constant c) links st is b = option_at (constant_value c) st _ (λ v. b)
  heads_at core (head.Variable x) links st is b = read_at core x links st (resolve st x) b
  heads_at core (head.TypeOf x) links st is b = type_at core x links st (resolve st x) b
  heads_at core (head.Function f) links st is b = option_at (function_at core f) st _ (λ function. closures_at f function links st function.kind b)
  heads_at core (head.Primitive p) links st is b = primitive_at links st p b
  heads_at core (head.Copy xs) links st is b = absurd is
  heads_at core h links st is b = b

  -- ---- operations of the language

  operate_at : (f : Frame Mark CoreWork) (o : Binary) (v w : Value) (st : CoreState) → K (pushed f st) → N (operate f o v w st)
  unfolding operate
  operate_at f binary.Same v w st b = b
  operate_at f binary.NotSame v w st b = b
  operate_at f o v w st b = b

  one_at : (links : List CoreLink) (u : Unary) (v : Value) (st : CoreState) → K st → N (operate_one links u v st)
  unfolding operate_one
  one_at links unary.Void v st b = b
  one_at links unary.Typeof v st b = b
  one_at links unary.Not v st b = b
  one_at links u v st b = b

  replied : (st : CoreState) (a : Reply) → K st → N (hands (reply_of a) st)
  replied st (reply.Give p) b = b
  replied st (reply.Throw p) b = b

  pub host_at : (n : ℕ) (site : Site) (st : CoreState) (o : Option (List Prim)) → K st → N (asks_host n site st o)
  host_at n site st None b = b
  host_at n site st (Some args) b = λ a. replied st a b

  current_at : (p : CoreStrict) (st : CoreState) (args : List Value) (c : Current Mark) → K st → N (call_current p st args c)
  current_at p st args (Has (User f)) b = b
  current_at p st args (Method f receiver) b = b
  current_at p st args (Hosted n) b = host_at n _ (pushed (After p.links) st) (to_prims args) b
  current_at p st args c b = tt

  with_at : (p : CoreStrict) (st : CoreState) (args : List Value) → K st → N (call_with p st args)
  with_at p st [] b = tt
  with_at p st (receiver ∷ args) b = option_at (user_at p.current) st _ (λ f. b)

  construct_at : (f : Value) (args : List Value) (site : Option Site) (st : CoreState) (c : Constructor) → K st → N (construct_by f args site st c)
  unfolding construct_by
  construct_at f args site st (constructor.Runs id) b = b
  construct_at f args site st (constructor.MakesError n) b = b
  construct_at f args site st (constructor.Leaves x) b = tt
  construct_at f args site st constructor.Fails b = b

  put_at : (p : CoreStrict) (st : CoreState) (c : Current Mark) → K st → N (put p st c)
  put_at p st (Reference base k) b = option_at (single_user p.values) st _ (λ v. b)
  put_at p st c b = tt

  delete_at : (p : CoreStrict) (st : CoreState) (c : Current Mark) → K st → N (delete p st c)
  delete_at p st (Reference base k) b = b
  delete_at p st c b = tt

  update_at : (o : Binary) (p : CoreStrict) (st : CoreState) (c : Current Mark) → K st → N (update o p st c)
  update_at o p st (Old base k v) b = option_at (single_user p.values) st _ (λ w. operate_at (Store base k p.links) o v w st b)
  update_at o p st c b = tt

  step_to : (u : Update) (p : CoreStrict) (st : CoreState) (c : Current Mark) → K st → N (step_at u p st c)
  step_to u p st (Old base k v) b = b
  step_to u p st c b = tt

  object_at1 : (c : Current Mark) (st : CoreState) (f : ObjId → CoreNext) → ((id : ObjId) → N (f id)) → N (with_object c st f)
  object_at1 (Has (User (value.Object id))) st f h = h id
  object_at1 c st f h = tt

  defined_at : (c : Current Mark) (links : List CoreLink) (st : CoreState) (w : Write) → K st → N (defined c links st w)
  defined_at c links st answers.Done b = b
  defined_at c links st (answers.Leaves x) b = tt
  defined_at c links st answers.OutOfRange b = b
  defined_at c links st w b = b

  accessor_at : (core : Core) (id : ObjId) (units : List ℕ) (is_setter : Bool) (p : CoreStrict) (st : CoreState) (v : Value) → K st → N (accessor_defined (rows core) id units is_setter p st v)
  accessor_at core id units is_setter p st (value.Object f) b = defined_at p.current p.links _ _ b
  accessor_at core id units is_setter p st v b = tt

  mutable_at : (b : Bool) (st : CoreState) (n : CoreNext) → K st → N n → N (if_mutable b st n)
  mutable_at true st n b on = on
  mutable_at false st n b on = b

  written_at : (core : Core) (x : Var) (v w : CoreValue Mark) (links : List CoreLink) (st : CoreState) (o : Option (Resolved Mark)) → K st → N (write_found (rows core) x v w links st o)
  written_at core x v w links st None b = tt
  written_at core x v w links st (Some r) b = mutable_at r.binding.mutable st _ b b

  set_at : (core : Core) (x : Var) (p : CoreStrict) (st : CoreState) (c : Current Mark) → K st → N (set (rows core) x p st c)
  unfolding write
  set_at core x p st (Has v) b = written_at core x v v p.links st (resolve st x) b
  set_at core x p st c b = tt

  pub write_at : (core : Core) (x : Var) (v w : CoreValue Mark) (links : List CoreLink) (st : CoreState) → K st → N (write (rows core) x v w links st)
  unfolding write
  write_at core x v w links st b = written_at core x v w links st (resolve st x) b

  found_at : (x : Var) (v : CoreValue Mark) (c : Current Mark) (links : List CoreLink) (st : CoreState) (o : Option (Resolved Mark)) → K st → N (goes c links (initialize_found x v st o))
  found_at x v c links st None b = b
  found_at x v c links st (Some r) b = b

  init_at : (x : Var) (p : CoreStrict) (st : CoreState) (c : Current Mark) → K st → N (initialize x p st c)
  unfolding initialized
  init_at x p st (Has v) b = found_at x v (Has v) p.links st (resolve st x) b
  init_at x p st c b = tt

  -- ---- operations of modules

  arguments_at : (vs : List (CoreValue Mark)) (st : CoreState) (f : List Value → CoreNext) → ((ws : List Value) → N (f ws)) → N (with_arguments_in vs st f)
  arguments_at (Extra (Arguments ws) ∷ []) st f h = h ws
  arguments_at vs st f h = tt

  listed_at : (p : CoreStrict) (st : CoreState) (vs : List (CoreValue Mark)) → K st → N (call_list_with p st vs)
  listed_at p st (User receiver ∷ Extra (Arguments args) ∷ []) b = option_at (user_at p.current) st _ (λ f. b)
  listed_at p st vs b = tt

  constructs_at : (core : Core) (f : Value) (args : List Value) (target : Value) (st : CoreState) (c : Constructor) → K st → N (construct_as core f args target st c)
  constructs_at core f args target st (constructor.Runs id) b =
      either_at (is_derived core st f)
      (calls (Work (Derived (length st.store.this_values))) (record { function = f; receiver = value.Undefined; args = args; target = Some target; site = None }) st) (constructs f args target st)
      b b
  constructs_at core f args target st (constructor.MakesError n) b = b
  constructs_at core f args target st (constructor.Leaves x) b = tt
  constructs_at core f args target st constructor.Fails b = b

  grown_at : (list : CoreList) (v : Value) (links : List CoreLink) (st : CoreState) → K st → N (grown list v links st)
  grown_at (OfArray id) v links st b = b
  grown_at (OfArguments vs) v links st b = b

  hole_at : (list : CoreList) (links : List CoreLink) (st : CoreState) → K st → N (with_hole list links st)
  hole_at (OfArray id) links st b = b
  hole_at (OfArguments vs) links st b = tt

  content_at : (p : CoreStrict) (st : CoreState) (c : Current Mark) → K st → N (content p st c)
  content_at p st (Has (Extra (Cell n))) b = option_at (slice_get st.store.cells n) st _ (λ v. b)
  content_at p st c b = tt

  contents_at : (p : CoreStrict) (st : CoreState) (c : Current Mark) (vs : List (CoreValue Mark)) → K st → N (set_content p st c vs)
  contents_at p st (Has (Extra (Cell n))) (v ∷ []) b = b
  contents_at p st c vs b = tt

  ready_at : (p : CoreStrict) (st : CoreState) (c : Current Mark) → K st → N (check_ready p st c)
  ready_at p st (Has (User v)) b = b
  ready_at p st (Has (Extra Empty)) b = b
  ready_at p st c b = tt

  cell_at : (p : CoreStrict) (st : CoreState) (c : Current Mark) → K st → N (cell_make p st c)
  cell_at p st (Has v) b = b
  cell_at p st c b = tt

  spread_at : (list : CoreList) (v : Value) (n : ℤ) (p : CoreStrict) (st : CoreState) → K st → N (spread_by list v n p st)
  spread_at list v (pos n) p st b = either_at (nat_eq n 0) _ _ (grown_at list v p.links st b) (either_at (nat_eq n 2) _ _ (hole_at list p.links st b) b)
  spread_at list v n p st b = tt

  spreads_at : (p : CoreStrict) (st : CoreState) (vs : List (CoreValue Mark)) → K st → N (spread_of p st vs)
  spreads_at p st (User v ∷ User (value.Number n) ∷ []) b = option_at (list_current p.current) st _ (λ list. spread_at list v n p st b)
  spreads_at p st vs b = tt

  class_at : (core : Core) (f : FunctionId) (heritage : Value) (parent : ObjId) (above : Option ObjId) (links : List CoreLink) (st : CoreState) → K st → N (make_class core f heritage parent above links st)
  class_at core f heritage parent above links st b = option_at (function_at core f) st _ (λ function. b)

  heritage_at : (core : Core) (has_heritage : Bool) (heritage : Value) (f : FunctionId) (p : CoreStrict) (st : CoreState) → K st → N (class_by core has_heritage heritage f p st)
  heritage_at core true heritage f p st b = b
  heritage_at core false heritage f p st b = class_at core f value.Undefined function_prototype (Some object_prototype) p.links st b

  classes_at : (core : Core) (p : CoreStrict) (st : CoreState) (c : Current Mark) (vs : List (CoreValue Mark)) → K st → N (class_make core p st c vs)
  classes_at core p st (Has (User (value.Bool has_heritage))) (User heritage ∷ Extra (Unmade f) ∷ []) b = heritage_at core has_heritage heritage f p st b
  classes_at core p st c vs b = tt

  bind_at : (p : CoreStrict) (st : CoreState) (v : Value) (o : Option Value) → K st → N (bind_this p st v o)
  bind_at p st v None b = b
  bind_at p st v (Some w) b = b

  key_at : (v : Value) (st : CoreState) (f : Key → CoreNext) → ((k : Key) → N (f k)) → N (with_key v st f)
  key_at (value.Text units) st f h = h _
  key_at v st f h = tt

  -- closures and statics are no code
  home_at : (home : Value) (n : ℕ) (st : CoreState) (o : Option (Closure Own)) → K st → K (with_home home n st o)
  home_at home n st None b = b
  home_at home n st (Some c) b = b

  homed_by : (home : Value) (st : CoreState) (k : Class) → K st → K (homed_class home st k)
  homed_by home st (class.Function n) b = home_at home n st (slice_get st.closures n) b
  homed_by home st k b = b

  homed_at : (home v : Value) (st : CoreState) → K st → K (homed home v st)
  homed_at home (value.Object f) st b = homed_by home st (object_at st.heap f).class b
  homed_at home v st b = b

  note_at : (is : Bool) (id : ObjId) (k : Key) (st : CoreState) → K st → K (if is then with_store (record st.store { statics = st.store.statics ++ record { class = id; key = k } ∷ [] }) st else st)
  note_at true id k st b = b
  note_at false id k st b = b

  method_at : (is_method : Bool) (id : ObjId) (k : Key) (v : Value) (st : CoreState) → K st → K (method_noted is_method id k v st)
  method_at true id k v st b = note_at _ id k (homed (value.Object id) v st) (homed_at (value.Object id) v st b)
  method_at false id k v st b = b

  noted_next : (c : Current Mark) (is_method : Bool) (id : ObjId) (k : Key) (v : Value) (links : List CoreLink) (st : CoreState) (w : Write) → K st → N (defined c links (method_noted is_method id k v st) w)
  noted_next c is_method id k v links st w b = defined_at c links (method_noted is_method id k v st) w (method_at is_method id k v st b)

  methods_at : (p : CoreStrict) (st : CoreState) (vs : List (CoreValue Mark)) → K st → N (method_put p st vs)
  methods_at p st (User key ∷ User v ∷ User (value.Bool is_method) ∷ []) b =
      object_at1 p.current st _ (λ id. key_at key st _ (λ k. noted_next p.current is_method id k v p.links (with_heap (define_key Sixth st.heap id k (Plain v true true)).after st)
      (define_key Sixth st.heap id k (Plain v true true)).answer b))
  methods_at p st vs b = tt

  accessors_at : (p : CoreStrict) (st : CoreState) (vs : List (CoreValue Mark)) → K st → N (accessor_put p st vs)
  accessors_at p st (User key ∷ User (value.Object f) ∷ User (value.Bool is_setter) ∷ []) b =
      object_at1 p.current st _ (λ id. key_at key st _ (λ k. noted_next p.current true id k (value.Object f) p.links (with_heap (define_key Sixth st.heap id k (with_half st.heap id k f is_setter)).after st)
      (define_key Sixth st.heap id k (with_half st.heap id k f is_setter)).answer b))
  accessors_at p st vs b = tt

  delegated_at : (p : CoreStrict) (st : CoreState) (vs : List (CoreValue Mark)) → K st → N (delegate_step p st vs)
  delegated_at p st (User (value.Number n) ∷ User v ∷ []) b = option_at (user_at p.current) st _ (λ it. b)
  delegated_at p st vs b = tt

  template_at : (cooked raw : List Value) (links : List CoreLink) (st : CoreState) (o : Option Value) → K st → N (template_by cooked raw links st o)
  template_at cooked raw links st None b = b
  template_at cooked raw links st (Some o) b = b

  -- ---- a yield: the context is saved, and its caller goes on

  yield_on : (frame : Frame Mark CoreWork) (wraps : Bool) (v : Value) (st : CoreState) (k : Context Mark Own CoreWork) (ks : List (Context Mark Own CoreWork)) (fs : List (Frame Mark CoreWork)) → K st → N (yield_to frame wraps v st k ks fs)
  yield_on frame wraps v st k ks (Work (Resumes n) ∷ fs) b = either_at wraps _ _ b b
  yield_on frame wraps v st k ks fs b = tt

  yield_by : (frame : Frame Mark CoreWork) (wraps : Bool) (v : Value) (st : CoreState) (ks : List (Context Mark Own CoreWork)) → K st → N (yield_from frame wraps v st ks)
  yield_by frame wraps v st [] b = tt
  yield_by frame wraps v st (k ∷ ks) b = yield_on frame wraps v st k ks k.frames b

  pub yields_at : (frame : Frame Mark CoreWork) (wraps : Bool) (v : Value) (st : CoreState) → K st → N (yields frame wraps v st)
  yields_at frame wraps v st b = yield_by frame wraps v st st.callers b

  -- ---- all operations

  primitives_at : (core : Core) (p : CoreStrict) (st : CoreState) (q : Primitive) → K st → N (primitive_act core p st q)
  unfolding primitive_act
  primitives_at core p st primitive.CheckReady b = ready_at p st p.current b
  primitives_at core p st (primitive.CellMake x) b = cell_at p st p.current b
  primitives_at core p st primitive.ToText b = option_at (user_at p.current) st _ (λ v. b)
  primitives_at core p st primitive.IterStart b = option_at (user_at p.current) st _ (λ v. option_at (single_user p.values) st _ (λ w. b))
  primitives_at core p st primitive.IterStep b = option_at (user_at p.current) st _ (λ v. b)
  primitives_at core p st primitive.IterValue b = option_at (user_at p.current) st _ (λ v. b)
  primitives_at core p st primitive.IterClose b = option_at (user_at p.current) st _ (λ v. b)
  primitives_at core p st primitive.RestList b = option_at (user_at p.current) st _ (λ v. b)
  primitives_at core p st primitive.SpreadList b = spreads_at p st p.values b
  primitives_at core p st primitive.Construct b =
      option_at (user_at p.current) st _ (λ f. arguments_at p.values st _ (λ args. constructs_at core f args f (pushed (After p.links) st) (constructor_of Sixth st.heap f) b))
  primitives_at core p st primitive.NamespaceMake b = arguments_at (has_value p.current) st _ (λ vs. b)
  primitives_at core p st primitive.ClassMake b = classes_at core p st p.current p.values b
  primitives_at core p st primitive.SuperConstruct b = arguments_at (has_value p.current) st _ (λ args. constructs_at core (parent_of st.heap st.context.own.callee) args st.context.own.target (pushed (After p.links) st) (constructor_of Sixth st.heap (parent_of st.heap st.context.own.callee)) b)
  primitives_at core p st primitive.ThisBind b = option_at (user_at p.current) st _ (λ v. bind_at p st v (slice_index_or st.store.this_values st.context.own.this_record None) b)
  primitives_at core p st primitive.SuperGet b =
      option_at (user_at p.current) st _ (λ key. option_at (single_user p.values) st _ (λ receiver. key_at key st _ (λ k. b)))
  primitives_at core p st primitive.MethodPut b = methods_at p st p.values b
  primitives_at core p st primitive.AccessorPut b = accessors_at p st p.values b
  primitives_at core p st primitive.DelegateStep b = delegated_at p st p.values b
  primitives_at core p st primitive.Power b = option_at (user_at p.current) st _ (λ v. option_at (single_user p.values) st _ (λ w. b))
  primitives_at core p st primitive.TemplateObject b = arguments_at (has_value p.current) st _ (λ cooked. arguments_at p.values st _ (λ raw. template_at cooked raw p.links st _ b))
  primitives_at core p st q b = tt

  rows_at : (core : Core) (p : CoreStrict) (st : CoreState) (o : CoreOp) → K st → N (act_op core p st o)
  rows_at core p st op.CallList b = arguments_at p.values st _ (λ args. current_at p st args p.current b)
  rows_at core p st op.CallListWith b = listed_at p st p.values b
  rows_at core p st op.NewList b = option_at (user_at p.current) st _ (λ f. arguments_at p.values st _ (λ args. constructs_at core f args f (pushed (After p.links) st) (constructor_of Sixth st.heap f) b))
  rows_at core p st op.Element b = option_at (list_current p.current) st _ (λ list. option_at (single_user p.values) st _ (λ v. grown_at list v p.links st b))
  rows_at core p st op.Content b = content_at p st p.current b
  rows_at core p st op.SetContent b = contents_at p st p.current p.values b
  rows_at core p st (op.Primitive q) b = primitives_at core p st q b
  rows_at core p st op.Yield b = option_at (user_at p.current) st _ (λ v. yields_at (Work (YieldsIn p.links)) true v st b)
  rows_at core p st op.Delegate b = option_at (user_at p.current) st _ (λ v. b)
  rows_at core p st o b = tt

  element_at : (core : Core) (p : CoreStrict) (st : CoreState) (c : Current Mark) → K st → N (element (rows core) p st c)
  element_at core p st (Has (Extra m)) b = rows_at core p st p.op b
  element_at core p st (Has (User (value.Object id))) b = option_at (single_user p.values) st _ (λ v. b)
  element_at core p st c b = tt

  hole_to : (core : Core) (p : CoreStrict) (st : CoreState) (c : Current Mark) → K st → N (hole (rows core) p st c)
  hole_to core p st (Has (Extra m)) b = rows_at core p st p.op b
  hole_to core p st (Has (User (value.Object id))) b = b
  hole_to core p st c b = tt

  pub acts_at : (core : Core) (p : CoreStrict) (st : CoreState) (o : CoreOp) → K st → N (act_by (rows core) core p st o)
  unfolding act_by
  acts_at core p st (op.Member k) b =
      option_at (user_at p.current) st _ (λ v. either_at (is_nothing v) (raises TypeError st) (goes (named v (key_units k)) p.links st) b b)
  acts_at core p st op.Index b = option_at (user_at p.current) st _ (λ v. option_at (single_user p.values) st _ (λ k. b))
  acts_at core p st op.Call b = option_at (users p.values) st _ (λ args. current_at p st args p.current b)
  acts_at core p st op.CallWith b = option_at (users p.values) st _ (λ args. with_at p st args b)
  acts_at core p st op.New b = option_at (user_at p.current) st _ (λ f. option_at (users p.values) st _ (λ args. construct_at f args p.site (pushed (After p.links) st) (constructor_of Sixth st.heap f) b))
  acts_at core p st op.Put b = put_at p st p.current b
  acts_at core p st op.Delete b = delete_at p st p.current b
  acts_at core p st (op.Update o) b = update_at o p st p.current b
  acts_at core p st (op.Step u) b = step_to u p st p.current b
  acts_at core p st (op.Operator o) b = option_at (user_at p.current) st _ (λ v. option_at (single_user p.values) st _ (λ w. operate_at (After p.links) o v w st b))
  acts_at core p st (op.Unary u) b = option_at (user_at p.current) st _ (λ v. one_at p.links u v st b)
  acts_at core p st op.Then b = option_at (single p.values) st _ (λ v. b)
  acts_at core p st (op.Set x) b = set_at core x p st p.current b
  acts_at core p st (op.Init x) b = init_at x p st p.current b
  acts_at core p st (op.StepVariable u x) b = option_at (user_at p.current) st _ (λ v. b)
  acts_at core p st op.Element b = element_at core p st p.current b
  acts_at core p st op.Hole b = hole_to core p st p.current b
  acts_at core p st (op.Define k) b = object_at1 p.current st _ (λ id. option_at (single_user p.values) st _ (λ v. defined_at p.current p.links _ _ b))
  acts_at core p st (op.Getter k) b = object_at1 p.current st _ (λ id. option_at (single_user p.values) st _ (λ v. accessor_at core id (key_units k) false p st v b))
  acts_at core p st (op.Setter k) b = object_at1 p.current st _ (λ id. option_at (single_user p.values) st _ (λ v. accessor_at core id (key_units k) true p st v b))
  acts_at core p st o b = rows_at core p st p.op b
