-- A step leaves code where it may stand: values, records, heads and operations.
use Rattle.std.proofs.Common.{◌≡◌, ℕ, zero, suc, Bool, true, false, List, [], ◌∷◌, ◌++◌, Option, None, Some, slice_get, refl, sym, subst, ap, ◌∙◌}
use Rattle.std.specs.Prelude.{if◌then◌else◌, ℤ, pos, length, map, nat_eq, slice_index_or, slice_set}
use Rattle.std.proofs.lemmas.Bool.{eqb-true}
use Rattle.std.specs.List.{flat_map}
use Rattle.es_outside.specs.declared.events.Site.{Site}
use Rattle.es_outside.specs.declared.host.Reply.{Reply}
use Rattle.es_outside.specs.declared.host.Reply.TheVariants as reply
use Rattle.es_outside.specs.declared.primitive.Primitive.{Primitive as Prim}
use Rattle.es_value.specs.declared.value.ObjId.{ObjId}
use Rattle.es_value.specs.declared.value.Value.{Value}
use Rattle.es_value.specs.declared.value.Value.TheVariants as value
use Rattle.es_heap.specs.Heaps.{object_at}
use Rattle.es_heap.specs.declared.class.Class.{Class}
use Rattle.es_heap.specs.declared.class.Class.TheVariants as class
use Rattle.es_heap.specs.declared.key.Key.{Key}
use Rattle.es_heap.specs.declared.prop.Prop.TheVariants.{Plain}
use Rattle.es_realm.specs.Access.{define_key}
use Rattle.es_realm.specs.Names.{function_prototype, object_prototype}
use Rattle.es_realm.specs.declared.edition.Edition.TheVariants.{Sixth}
use Rattle.es_realm.specs.declared.errors.ErrorKind.TheVariants.{TypeError}
use Rattle.es_calls.specs.Calls.{is_undefined}
use Rattle.es_operators.specs.Functions.{constructor_of}
use Rattle.es_operators.specs.Operators.{is_nothing}
use Rattle.es_operations.specs.Making.{class_prototype, with_half}
use Rattle.es_operators.specs.Primitives.{to_prims}
use Rattle.es_realm.specs.declared.access.Write.{Write}
use Rattle.es_realm.specs.declared.access.Write.TheVariants as answers
use Rattle.es_operators.specs.declared.functions.Constructor.{Constructor}
use Rattle.es_operators.specs.declared.functions.Constructor.TheVariants as constructor
use Rattle.core_ast.specs.declared.parts.Binary.{Binary}
use Rattle.core_ast.specs.declared.parts.Binary.TheVariants as binary
use Rattle.core_ast.specs.declared.parts.CoreHead.{CoreHead}
use Rattle.core_ast.specs.declared.parts.CoreHead.TheVariants as head
use Rattle.core_ast.specs.declared.parts.CoreOp.{CoreOp}
use Rattle.core_ast.specs.declared.parts.CoreOp.TheVariants as op
use Rattle.core_ast.specs.declared.parts.FunctionId.{FunctionId}
use Rattle.core_ast.specs.declared.parts.Primitive.{Primitive}
use Rattle.core_ast.specs.declared.parts.Primitive.TheVariants as primitive
use Rattle.core_ast.specs.declared.parts.Unary.{Unary}
use Rattle.core_ast.specs.declared.parts.Unary.TheVariants as unary
use Rattle.core_ast.specs.declared.parts.Update.{Update}
use Rattle.core_ast.specs.declared.parts.Var.{Var}
use Rattle.core_ast.specs.declared.tree.CoreLink.{CoreLink}
use Rattle.core_ast.specs.declared.whole.Core.{Core}
use Rattle.core_ast.specs.declared.whole.CoreFunction.{CoreFunction}
use Rattle.core_ast.specs.declared.whole.CoreKind.{CoreKind}
use Rattle.core_ast.specs.declared.whole.CoreKind.TheVariants as kind
use Rattle.core_meaning.specs.Calls.{asks_host, call_current, call_with, construct_by, constructs, reply_of}
use Rattle.core_meaning.specs.Classes.{accessor_put, bind_this, class_closure, is_derived, named, class_by, class_make, construct_as, has_value, make_class, method_noted, method_put, parent_of, homed, homed_class, with_home, with_key}
use Rattle.core_meaning.specs.Cells.{check_ready}
use Rattle.core_meaning.specs.Expressions.{begin_head, constant_value, function_at, has_given, initialize, operate, operate_one, set, single, single_user, user_at}
use Rattle.core_meaning.specs.Functions.{call_list_with, cell_found, closure_by, closure_of, grown, kept_cells, list_current, list_in, with_arguments_in, with_hole}
use Rattle.core_meaning.specs.Generators.{delegate_step, saved_with, yield_from, yield_to, yields}
use Rattle.core_meaning.specs.Iteration.{spread_by, spread_of}
use Rattle.core_meaning.specs.Marks.{Arguments, AtYield, Cell, CoreList, CoreNext, CoreState, CoreStrict, CoreWork, Empty, Mark, OfArguments, Derived, OfArray, Own, Resumed, Resumes, Unmade, YieldsIn, value_or_empty, with_store}
use Rattle.core_meaning.specs.Modules.{act_op, primitive_act, primitive_head, rows, template_by}
use Rattle.core_meaning.specs.Names.{Resolved, binding_in, initialize_found, initialized, or_outer, read_found, record_at, resolve, resolved, stored_at, type_found, with_value, write, write_found, if_mutable}
use Rattle.core_meaning.specs.Properties.{accessor_defined, defined, key_units, delete, element, hole, put, step_at, update, with_object}
use Rattle.core_meaning.specs.Rows.{calls, goes, has, pushed, raises, users, with_heap, with_option, with_user}
use Rattle.core_meaning.specs.State.{After, Binding, Closure, Context, CoreValue, Current, Environment, EnvironmentRecord, Extra, Frame, Has, Hosted, Method, Old, Reference, Store, User, Work}
use Rattle.core_meaning.specs.Step.{act_by}
use Rattle.cells_keep_runs.specs.Floors.{AllContexts, AllOf, BindingFits, Bottom, ClosureAt, CurrentFits, Fits, FrameAt, FramesAt, GeneratorAt, HandAt, HeadAt, Holds, KindFits, ListFits, MarkFits, MayAssign, NextAt, NoCells, NotHeld, PartOp, RecordsFit, Standing, StateAt, Stored, ToHold, ToMake, ToUse, Wanted, anywhere, floor_of, names_in, of_list, under, wanted_along, wanted_by}
use Rattle.cells_keep_runs.specs.Placing.{HeadPlain, below_frame}
use Rattle.cells_keep_runs.proofs.Writes.{same_var}

-- ---- lists

pub all_more : {A : Type 0} (P : A → Type 0) (xs : List A) (y : A) → AllOf P xs → P y → AllOf P (xs ++ y ∷ [])
all_more P [] y all at = (at, tt)
all_more P (x ∷ xs) y (first, all) at = (first, all_more P xs y all at)

pub all_joined : {A : Type 0} (P : A → Type 0) (xs ys : List A) → AllOf P xs → AllOf P ys → AllOf P (xs ++ ys)
all_joined P [] ys all at = at
all_joined P (x ∷ xs) ys (first, all) at = (first, all_joined P xs ys all at)

pub all_set : {A : Type 0} (P : A → Type 0) (xs : List A) (n : ℕ) (y : A) → P y → AllOf P xs → AllOf P (slice_set xs n y)
all_set P [] n y at all = tt
all_set P (x ∷ xs) zero y at (first, all) = (at, all)
all_set P (x ∷ xs) (suc n) y at (first, all) = (first, all_set P xs n y at all)

pub all_index : {A : Type 0} (P : A → Type 0) (xs : List A) (n : ℕ) (d : A) → P d → AllOf P xs → P (slice_index_or xs n d)
all_index P [] n d at all = at
all_index P (x ∷ xs) zero d at (first, all) = first
all_index P (x ∷ xs) (suc n) d at (first, all) = all_index P xs n d at all

pub some_is : {A : Type 0} (x y : A) → Some x ≡ Some y → x ≡ y
some_is x y is = cc

-- ---- the names of records

name_by : (x : Var) (v : CoreValue Mark) (b : Binding Mark) (bs : EnvironmentRecord Mark) (is : Bool) → names_in (with_value bs x v) ≡ names_in bs → names_in (if is then record b { value = v } ∷ bs else b ∷ with_value bs x v) ≡ names_in (b ∷ bs)
name_by x v b bs true on = refl
name_by x v b bs false on = ap (λ ys. b.var ∷ ys) on

same_names : (x : Var) (v : CoreValue Mark) (bs : EnvironmentRecord Mark) → names_in (with_value bs x v) ≡ names_in bs
same_names x v [] = refl
same_names x v (b ∷ bs) = name_by x v b bs (nat_eq b.var.0 x.0) (same_names x v bs)

same_shapes : (x : Var) (v : CoreValue Mark) (rs : List (EnvironmentRecord Mark)) (n : ℕ) → map names_in (slice_set rs n (with_value (record_at rs n) x v)) ≡ map names_in rs
same_shapes x v [] n = refl
same_shapes x v (r ∷ rs) zero = ap (λ ys. ys ∷ map names_in rs) (same_names x v r)
same_shapes x v (r ∷ rs) (suc n) = ap (λ yss. names_in r ∷ yss) (same_shapes x v rs n)

module _ (core : Core) (K : Standing) where
  abbrev pub St : CoreState → Type 0
  St = StateAt K

  abbrev pub N : CoreNext → Type 0
  N = NextAt K

  abbrev pub env : CoreState → Environment
  env st = st.context.environment

  abbrev pub want : CoreState → Wanted
  want st = (floor_of st.context.frames).wanted

  -- links that stand there, and what is wanted of the value that goes on along them
  abbrev pub Links : CoreState → List CoreLink → Type 0
  Links st links = K.links (env st) (want st) links

  abbrev pub along : CoreState → List CoreLink → Wanted
  along st links = wanted_along links (want st)

  -- ---- values

  pub mark_held : (e : Environment) (w : Wanted) (m : Mark) → Holds (Extra m) → MarkFits K.unmade e w m
  mark_held e w Empty at = tt
  mark_held e w (Arguments vs) at = absurd at
  mark_held e w (Cell n) at = absurd at
  mark_held e w (Unmade f) at = absurd at
  mark_held e w (Resumed k v) at = absurd at

  pub held_fits : (e : Environment) (w : Wanted) (v : CoreValue Mark) → Holds v → Fits K.unmade e w v
  held_fits e w (User v) at = tt
  held_fits e w (Extra m) at = mark_held e w m at

  held_mark : (e : Environment) (m : Mark) → MarkFits K.unmade e ToHold m → Holds (Extra m)
  held_mark e Empty at = tt
  held_mark e (Arguments vs) at = at
  held_mark e (Cell n) at = at
  held_mark e (Unmade f) at = at
  held_mark e (Resumed k v) at = at

  pub fits_held : (e : Environment) (v : CoreValue Mark) → Fits K.unmade e ToHold v → Holds v
  fits_held e (User v) at = tt
  fits_held e (Extra m) at = held_mark e m at

  pub or_empty_fits : (e : Environment) (w : Wanted) (o : Option Value) → Fits K.unmade e w (value_or_empty o)
  or_empty_fits e w None = tt
  or_empty_fits e w (Some v) = tt

  abbrev pub MaybeList : Wanted → Option CoreList → Type 0
  MaybeList w None = Unit {0}
  MaybeList w (Some list) = ListFits w list

  held_list : (w : Wanted) → NotHeld (of_list w) → NotHeld w
  held_list ToHold at = at
  held_list ToUse at = tt
  held_list ToMake at = tt

  mark_list : (e : Environment) (w : Wanted) (m : Mark) → MarkFits K.unmade e (of_list w) m → MaybeList w (list_in (Extra m))
  mark_list e w (Arguments vs) at = held_list w at
  mark_list e w m at = tt

  value_list : (w : Wanted) (v : Value) → MaybeList w (list_in (User v))
  value_list w (value.Object id) = tt
  value_list w v = tt

  list_at : (e : Environment) (w : Wanted) (v : CoreValue Mark) → Fits K.unmade e (of_list w) v → MaybeList w (list_in v)
  list_at e w (User v) at = value_list w v
  list_at e w (Extra m) at = mark_list e w m at

  pub list_of_current : (e : Environment) (w : Wanted) (c : Current Mark) → CurrentFits K.unmade e (of_list w) c → MaybeList w (list_current c)
  list_of_current e w (Has v) at = list_at e w v at
  list_of_current e w c at = tt

  -- ---- what an operation wants of its last part

  abbrev pub LastFits : Environment → Wanted → List (CoreValue Mark) → Type 0
  LastFits e w [] = Unit {0}
  LastFits e w (v ∷ []) = Fits K.unmade e w v
  LastFits e w (v ∷ u ∷ vs) = LastFits e w (u ∷ vs)

  pub last_fits : (e : Environment) (w : Wanted) (vs : List (CoreValue Mark)) (v : CoreValue Mark) → Fits K.unmade e w v → LastFits e w (vs ++ v ∷ [])
  last_fits e w [] v at = at
  last_fits e w (u ∷ []) v at = at
  last_fits e w (u ∷ x ∷ vs) v at = last_fits e w (x ∷ vs) v at

  abbrev pub LastOfPrimitive : Environment → Primitive → List (CoreValue Mark) → Type 0
  LastOfPrimitive e primitive.ClassMake vs = LastFits e ToMake vs
  LastOfPrimitive e p vs = Unit {0}

  abbrev pub LastAt : Environment → CoreOp → Wanted → List (CoreValue Mark) → Type 0
  LastAt e op.Then w vs = LastFits e w vs
  LastAt e (op.Primitive p) w vs = LastOfPrimitive e p vs
  LastAt e o w vs = Unit {0}

  abbrev pub MayAct : CoreOp → Type 0
  MayAct (op.Set x) = K.fixed x ≡ false
  MayAct (op.Init x) = Unit {0}
  MayAct o = PartOp o

  -- an operation that may be done there
  abbrev pub Acting : CoreState → CoreStrict → CoreOp → Type 0
  Acting st p o = MayAct o × CurrentFits K.unmade (env st) (wanted_by o (along st p.links)) p.current × LastAt (env st) o (along st p.links) p.values

  -- ---- names

  abbrev pub FoundAt : Var → Option (Resolved Mark) → Type 0
  FoundAt x None = Unit {0}
  FoundAt x (Some r) = Holds r.binding.value × MayAssign K x r.binding.mutable

  abbrev pub BoundAt : Var → Option (Binding Mark) → Type 0
  BoundAt x None = Unit {0}
  BoundAt x (Some b) = Holds b.value × MayAssign K x b.mutable

  bound_by : (x : Var) (b : Binding Mark) (o : Option (Binding Mark)) (is : Bool) → nat_eq b.var.0 x.0 ≡ is → BindingFits K b → BoundAt x o → BoundAt x (if is then Some b else o)
  bound_by x b o true same (holds, may) on = (holds, subst (λ y. MayAssign K y b.mutable) (same_var b.var x (eqb-true b.var.0 x.0 same)) may)
  bound_by x b o false same at on = on

  pub bound_at : (x : Var) (bs : EnvironmentRecord Mark) → AllOf (BindingFits K) bs → BoundAt x (binding_in bs x)
  bound_at x [] all = tt
  bound_at x (b ∷ bs) (first, all) = bound_by x b (binding_in bs x) (nat_eq b.var.0 x.0) refl first (bound_at x bs all)

  found_by : (x : Var) (n : ℕ) (o : Option (Binding Mark)) (outer : Option (Resolved Mark)) → BoundAt x o → FoundAt x outer → FoundAt x (or_outer n o outer)
  found_by x n None outer at on = on
  found_by x n (Some b) outer at on = at

  found_in : (x : Var) (rs : List (EnvironmentRecord Mark)) (e : Environment) → RecordsFit K rs → FoundAt x (resolved rs e x)
  found_in x rs [] all = tt
  found_in x rs (n ∷ e) all = found_by x n (binding_in (record_at rs n) x) (resolved rs e x) (bound_at x (record_at rs n) (all_index (AllOf (BindingFits K)) rs n [] tt all)) (found_in x rs e all)

  pub found : (x : Var) (st : CoreState) → RecordsFit K st.records → FoundAt x (resolve st x)
  unfolding resolve
  found x st all = found_in x st.records (env st) all

  value_by : (x : Var) (v : CoreValue Mark) (b : Binding Mark) (bs : EnvironmentRecord Mark) (is : Bool) → Holds v → BindingFits K b → AllOf (BindingFits K) bs → AllOf (BindingFits K) (with_value bs x v)
      → AllOf (BindingFits K) (if is then record b { value = v } ∷ bs else b ∷ with_value bs x v)
  value_by x v b bs true holds at all on = ((holds, at.1), all)
  value_by x v b bs false holds at all on = (at, on)

  value_in : (x : Var) (v : CoreValue Mark) (bs : EnvironmentRecord Mark) → Holds v → AllOf (BindingFits K) bs → AllOf (BindingFits K) (with_value bs x v)
  value_in x v [] holds all = tt
  value_in x v (b ∷ bs) holds (first, all) = value_by x v b bs (nat_eq b.var.0 x.0) holds first all (value_in x v bs holds all)

  pub stored : (n : ℕ) (x : Var) (v : CoreValue Mark) (st : CoreState) → Holds v → St st → St (stored_at n x v st)
  stored n x v st holds b =
      let all : RecordsFit K st.records = b.2.records_fit in
      let here : AllOf (BindingFits K) (record_at st.records n) = all_index (AllOf (BindingFits K)) st.records n [] tt all in (
        b.0,
        b.1,
        record {
          inside = b.2.inside;
          generators_at = b.2.generators_at;
          records_fit = all_set (AllOf (BindingFits K)) st.records n (with_value (record_at st.records n) x v) (value_in x v (record_at st.records n) holds here) all;
          shapes = subst (λ a. K.shapes a) (sym (same_shapes x v st.records n)) b.2.shapes;
          closures_at = b.2.closures_at;
          ahead_at = b.2.ahead_at;
        },
      )

  pub initialized_by : (x : Var) (v : CoreValue Mark) (st : CoreState) (o : Option (Resolved Mark)) → Holds v → St st → St (initialize_found x v st o)
  initialized_by x v st None holds b = b
  initialized_by x v st (Some r) holds b = stored r.at x v st holds b

  -- ---- choices

  pub option_at : {A : Type 0} (o : Option A) (st : CoreState) (f : A → CoreNext) → ((x : A) → N (f x)) → N (with_option o st f)
  option_at None st f h = tt
  option_at (Some x) st f h = h x

  pub option_by : {A : Type 0} (o : Option A) (st : CoreState) (f : A → CoreNext) → ((x : A) → o ≡ Some x → N (f x)) → N (with_option o st f)
  option_by None st f h = tt
  option_by (Some x) st f h = h x refl

  pub option_list : (w : Wanted) (o : Option CoreList) (st : CoreState) (f : CoreList → CoreNext) → MaybeList w o → ((list : CoreList) → ListFits w list → N (f list)) → N (with_option o st f)
  option_list w None st f at h = tt
  option_list w (Some list) st f at h = h list at

  pub value_at : (v : CoreValue Mark) (st : CoreState) (f : Value → CoreNext) → ((w : Value) → N (f w)) → N (with_user v st f)
  value_at (User w) st f h = h w
  value_at (Extra m) st f h = tt

  pub either_at : (b : Bool) (n m : CoreNext) → N n → N m → N (if b then n else m)
  either_at true n m p q = p
  either_at false n m p q = q

  pub frames_anywhere : (below : Environment → Type 0) (e : Environment) (fs : List (Frame Mark CoreWork)) → FramesAt K below e fs → FramesAt K anywhere e fs
  frames_anywhere below e [] at = tt
  frames_anywhere below e (f ∷ fs) (at, all) = (at, frames_anywhere below (below_frame e f) fs all)

  -- ---- heads

  read_at : (x : Var) (links : List CoreLink) (st : CoreState) (o : Option (Resolved Mark)) → FoundAt x o → St st → Links st links → N (read_found (rows core) x links st o)
  read_at x links st None at b l = tt
  read_at x links st (Some r) at b l = (b, (l, held_fits (env st) (along st links) r.binding.value at.0))

  type_at : (x : Var) (links : List CoreLink) (st : CoreState) (o : Option (Resolved Mark)) → St st → Links st links → N (type_found (rows core) x links st o)
  type_at x links st None b l = tt
  type_at x links st (Some r) b l = value_at r.binding.value st _ (λ v. (b, (l, tt)))

  -- no function keeps cells, and what is made was unmade there
  abbrev pub Makings : Type 0
  Makings = NoCells core × ((e : Environment) (f : FunctionId) → K.unmade e f → K.makes e f)

  -- a closure more
  abbrev pub One : CoreState → Closure Own → CoreState
  One st c = record st { closures = st.closures ++ c ∷ [] }

  kept_none : (f : FunctionId) (function : CoreFunction) (st : CoreState) → function.cells ≡ [] → kept_cells function st ≡ []
  kept_none f function st is = ap (λ xs. flat_map (λ (x : Var). cell_found x (resolve st x)) xs) is

  closure_more : (c : Closure Own) (st : CoreState) → ClosureAt K c → St st → St (One st c)
  closure_more c st at b = (
    b.0,
    b.1,
    record {
      inside = b.2.inside;
      generators_at = b.2.generators_at;
      records_fit = b.2.records_fit;
      shapes = b.2.shapes;
      closures_at = all_more (ClosureAt K) st.closures c b.2.closures_at at;
      ahead_at = b.2.ahead_at;
    },
  )

  makes_in : (e : Environment) (f : FunctionId) (w : Wanted) (derived : Bool) → KindFits w (kind.Class derived) → K.unmade e f → MarkFits K.unmade e w (Unmade f)
  makes_in e f ToMake derived fits at = at
  makes_in e f ToUse derived fits at = fits
  makes_in e f ToHold derived fits at = fits

  closures_at : (none : Makings) (f : FunctionId) (function : CoreFunction) (links : List CoreLink) (st : CoreState) (k : CoreKind) → function_at core f ≡ Some function → K.unmade (env st) f → KindFits (along st links) k → St st → Links st links → N (has_given links (closure_by f function st k))
  closures_at none f function links st (kind.Class derived) there at fits b l = (b, (l, makes_in (env st) f (along st links) derived fits at))
  closures_at none f function links st k there at fits b l = (closure_more (closure_of f function st) st (none.1 (env st) f at, kept_none f function st (none.0 f function there)) b, (l, tt))

  primitive_at : (links : List CoreLink) (st : CoreState) (in_scope : Bool) (p : Primitive) → HeadAt K core (env st) (along st links) in_scope (head.Primitive p) → St st → Links st links → N (primitive_head links st p)
  primitive_at links st c primitive.RefuseConst may b l = (b, tt)
  primitive_at links st c primitive.ClassGuard may b l = either_at (is_undefined st.context.own.target) (raises TypeError st) (has value.Undefined links st) (b, tt) (b, (l, tt))
  primitive_at links st c primitive.NewTarget may b l = (b, (l, tt))
  primitive_at links st c primitive.ArgumentsPut may b l = (b, (l, tt))
  primitive_at links st c primitive.GeneratorMake may b l = absurd may
  primitive_at links st c primitive.IncludesPut may b l = (b, (l, tt))
  primitive_at links st c p may b l = tt

  pub heads_at : (none : Makings) (h : CoreHead) (links : List CoreLink) (st : CoreState) (in_scope : Bool) → HeadAt K core (env st) (along st links) in_scope h → HeadPlain h → St st → Links st links → N (begin_head (rows core) core h links st)
  unfolding begin_head
  heads_at none (head.Constant c) links st s may is b l = option_at (constant_value c) st _ (λ v. (b, (l, tt)))
  heads_at none (head.Variable x) links st s may is b l = read_at x links st (resolve st x) (found x st b.2.records_fit) b l
  heads_at none (head.TypeOf x) links st s may is b l = type_at x links st (resolve st x) b l
  heads_at none (head.Function f) links st s may is b l =
      option_by (function_at core f) st _ (λ function there. closures_at none f function links st function.kind there may.0 (may.1 function there) b l)
  heads_at none (head.Primitive p) links st s may is b l = primitive_at links st s p may b l
  heads_at none (head.Copy xs) links st s may is b l = absurd is
  heads_at none head.This links st s may is b l = (b, (l, or_empty_fits (env st) (along st links) _))
  heads_at none head.ArgumentList links st s may is b l = (b, (l, may))
  heads_at none h links st s may is b l = (b, (l, tt))

  -- ---- operations of the language

  operate_at : (f : Frame Mark CoreWork) (o : Binary) (v w : Value) (st : CoreState) → St (pushed f st) → N (operate f o v w st)
  unfolding operate
  operate_at f binary.Same v w st b = (b, tt)
  operate_at f binary.NotSame v w st b = (b, tt)
  operate_at f o v w st b = (b, tt)

  one_at : (links : List CoreLink) (u : Unary) (v : Value) (st : CoreState) → St st → Links st links → N (operate_one links u v st)
  unfolding operate_one
  one_at links unary.Void v st b l = (b, (l, tt))
  one_at links unary.Typeof v st b l = (b, (l, tt))
  one_at links unary.Not v st b l = (b, (l, tt))
  one_at links u v st b l = (((l, b.0), b.1, b.2), tt)

  reply_at : (e : Environment) (w : Wanted) (a : Reply) → HandAt K e w (reply_of a)
  reply_at e w (reply.Give p) = tt
  reply_at e w (reply.Throw p) = tt

  pub host_at : (n : ℕ) (site : Site) (st : CoreState) (o : Option (List Prim)) → St st → N (asks_host n site st o)
  host_at n site st None b = (b, tt)
  host_at n site st (Some args) b = λ a. (b, reply_at (env st) (want st) a)

  current_at : (p : CoreStrict) (st : CoreState) (args : List Value) (c : Current Mark) → St st → Links st p.links → N (call_current p st args c)
  current_at p st args (Has (User f)) b l = (((l, b.0), b.1, b.2), tt)
  current_at p st args (Method f receiver) b l = (((l, b.0), b.1, b.2), tt)
  current_at p st args (Hosted n) b l = host_at n _ (pushed (After p.links) st) (to_prims args) ((l, b.0), b.1, b.2)
  current_at p st args c b l = tt

  with_at : (p : CoreStrict) (st : CoreState) (args : List Value) → St st → Links st p.links → N (call_with p st args)
  with_at p st [] b l = tt
  with_at p st (receiver ∷ args) b l = option_at (user_at p.current) st _ (λ f. (((l, b.0), b.1, b.2), tt))

  construct_at : (f : Value) (args : List Value) (site : Option Site) (st : CoreState) (c : Constructor) → St st → N (construct_by f args site st c)
  unfolding construct_by
  construct_at f args site st (constructor.Runs id) b = (((tt, b.0), b.1, b.2), tt)
  construct_at f args site st (constructor.MakesError n) b = (b, tt)
  construct_at f args site st (constructor.Leaves x) b = tt
  construct_at f args site st constructor.Fails b = (b, tt)

  put_at : (p : CoreStrict) (st : CoreState) (c : Current Mark) → St st → Links st p.links → N (put p st c)
  put_at p st (Reference base k) b l = option_at (single_user p.values) st _ (λ v. ((((l, tt), b.0), b.1, b.2), tt))
  put_at p st c b l = tt

  delete_at : (p : CoreStrict) (st : CoreState) (c : Current Mark) → St st → Links st p.links → N (delete p st c)
  delete_at p st (Reference base k) b l = (((l, b.0), b.1, b.2), tt)
  delete_at p st c b l = tt

  update_at : (o : Binary) (p : CoreStrict) (st : CoreState) (c : Current Mark) → St st → Links st p.links → N (update o p st c)
  update_at o p st (Old base k v) b l = option_at (single_user p.values) st _ (λ w. operate_at (Store base k p.links) o v w st ((l, b.0), b.1, b.2))
  update_at o p st c b l = tt

  step_to : (u : Update) (p : CoreStrict) (st : CoreState) (c : Current Mark) → St st → Links st p.links → N (step_at u p st c)
  step_to u p st (Old base k v) b l = (((l, b.0), b.1, b.2), tt)
  step_to u p st c b l = tt

  abbrev Object : ObjId → Current Mark
  Object id = Has (User (value.Object id))

  object_at1 : (c : Current Mark) (st : CoreState) (f : ObjId → CoreNext) → ((id : ObjId) → c ≡ Object id → N (f id)) → N (with_object c st f)
  object_at1 (Has (User (value.Object id))) st f h = h id refl
  object_at1 c st f h = tt

  object_fits : (e : Environment) (w : Wanted) (c : Current Mark) (id : ObjId) → c ≡ Object id → CurrentFits K.unmade e w c
  object_fits e w c id is = subst (λ d. CurrentFits K.unmade e w d) (sym is) tt

  defined_at : (c : Current Mark) (links : List CoreLink) (st : CoreState) (w : Write) → CurrentFits K.unmade (env st) (along st links) c → St st → Links st links → N (defined c links st w)
  defined_at c links st answers.Done fits b l = (b, (l, fits))
  defined_at c links st (answers.Leaves x) fits b l = tt
  defined_at c links st answers.OutOfRange fits b l = (b, tt)
  defined_at c links st w fits b l = (b, tt)

  accessor_at : (id : ObjId) (units : List ℕ) (is_setter : Bool) (p : CoreStrict) (st : CoreState) (v : Value) → CurrentFits K.unmade (env st) (along st p.links) p.current → St st → Links st p.links
      → N (accessor_defined (rows core) id units is_setter p st v)
  accessor_at id units is_setter p st (value.Object f) fits b l = defined_at p.current p.links _ _ fits b l
  accessor_at id units is_setter p st v fits b l = tt

  mutable_at : (b : Bool) (st : CoreState) (n : CoreNext) → St st → N n → N (if_mutable b st n)
  mutable_at true st n b on = on
  mutable_at false st n b on = (b, tt)

  written_at : (x : Var) (v : CoreValue Mark) (links : List CoreLink) (st : CoreState) (o : Option (Resolved Mark)) → Holds v → St st → Links st links → N (write_found (rows core) x v v links st o)
  written_at x v links st None holds b l = tt
  written_at x v links st (Some r) holds b l = mutable_at r.binding.mutable st _ b (stored r.at x v st holds b, (l, held_fits (env st) (along st links) v holds))

  set_at : (x : Var) (p : CoreStrict) (st : CoreState) (c : Current Mark) → CurrentFits K.unmade (env st) ToHold c → St st → Links st p.links → N (set (rows core) x p st c)
  unfolding write
  set_at x p st (Has v) fits b l = written_at x v p.links st (resolve st x) (fits_held (env st) v fits) b l
  set_at x p st c fits b l = tt

  found_at : (x : Var) (v : CoreValue Mark) (links : List CoreLink) (st : CoreState) (o : Option (Resolved Mark)) → Holds v → St st → Links st links → N (goes (Has v) links (initialize_found x v st o))
  found_at x v links st None holds b l = (b, (l, held_fits (env st) (along st links) v holds))
  found_at x v links st (Some r) holds b l = (stored r.at x v st holds b, (l, held_fits (env st) (along st links) v holds))

  init_at : (x : Var) (p : CoreStrict) (st : CoreState) (c : Current Mark) → CurrentFits K.unmade (env st) ToHold c → St st → Links st p.links → N (initialize x p st c)
  unfolding initialized
  init_at x p st (Has v) fits b l = found_at x v p.links st (resolve st x) (fits_held (env st) v fits) b l
  init_at x p st c fits b l = tt

  then_at : (p : CoreStrict) (st : CoreState) (vs : List (CoreValue Mark)) → LastFits (env st) (along st p.links) vs → St st → Links st p.links → N (with_option (single vs) st (λ v. goes (Has v) p.links st))
  then_at p st [] last b l = tt
  then_at p st (v ∷ []) last b l = (b, (l, last))
  then_at p st (v ∷ u ∷ vs) last b l = tt

  named_by : (e : Environment) (w : Wanted) (is : Bool) (v : Value) (k : Key) → CurrentFits K.unmade e w (if is then Has (User value.Undefined) else Reference v k)
  named_by e w true v k = tt
  named_by e w false v k = tt

  -- ---- operations of modules

  arguments_at : (vs : List (CoreValue Mark)) (st : CoreState) (f : List Value → CoreNext) → ((ws : List Value) → N (f ws)) → N (with_arguments_in vs st f)
  arguments_at (Extra (Arguments ws) ∷ []) st f h = h ws
  arguments_at vs st f h = tt

  listed_at : (p : CoreStrict) (st : CoreState) (vs : List (CoreValue Mark)) → St st → Links st p.links → N (call_list_with p st vs)
  listed_at p st (User receiver ∷ Extra (Arguments args) ∷ []) b l = option_at (user_at p.current) st _ (λ f. (((l, b.0), b.1, b.2), tt))
  listed_at p st vs b l = tt

  constructs_at : (f : Value) (args : List Value) (target : Value) (st : CoreState) (c : Constructor) → St st → N (construct_as core f args target st c)
  constructs_at f args target st (constructor.Runs id) b =
      either_at (is_derived core st f)
      (calls (Work (Derived (length st.store.this_values))) (record { function = f; receiver = value.Undefined; args = args; target = Some target; site = None }) st) (constructs f args target st)
      (((tt, b.0), b.1, b.2), tt) (((tt, b.0), b.1, b.2), tt)
  constructs_at f args target st (constructor.MakesError n) b = (b, tt)
  constructs_at f args target st (constructor.Leaves x) b = tt
  constructs_at f args target st constructor.Fails b = (b, tt)

  grown_at : (list : CoreList) (v : Value) (links : List CoreLink) (st : CoreState) → ListFits (along st links) list → St st → Links st links → N (grown list v links st)
  grown_at (OfArray id) v links st fits b l = (b, (l, tt))
  grown_at (OfArguments vs) v links st fits b l = (b, (l, fits))

  hole_at : (list : CoreList) (links : List CoreLink) (st : CoreState) → St st → Links st links → N (with_hole list links st)
  hole_at (OfArray id) links st b l = (b, (l, tt))
  hole_at (OfArguments vs) links st b l = tt

  ready_at : (p : CoreStrict) (st : CoreState) (c : Current Mark) → St st → Links st p.links → N (check_ready p st c)
  ready_at p st (Has (User v)) b l = (b, (l, tt))
  ready_at p st (Has (Extra Empty)) b l = (b, tt)
  ready_at p st c b l = tt

  spread_at : (list : CoreList) (v : Value) (n : ℤ) (p : CoreStrict) (st : CoreState) → ListFits (along st p.links) list → St st → Links st p.links → N (spread_by list v n p st)
  spread_at list v (pos n) p st fits b l =
      either_at (nat_eq n 0) _ _ (grown_at list v p.links st fits b l) (either_at (nat_eq n 2) _ _ (hole_at list p.links st b l) ((((fits, l), b.0), b.1, b.2), tt))
  spread_at list v n p st fits b l = tt

  spreads_at : (p : CoreStrict) (st : CoreState) (vs : List (CoreValue Mark)) → CurrentFits K.unmade (env st) (of_list (along st p.links)) p.current → St st → Links st p.links → N (spread_of p st vs)
  spreads_at p st (User v ∷ User (value.Number n) ∷ []) fits b l =
      option_list (along st p.links) (list_current p.current) st _ (list_of_current (env st) (along st p.links) p.current fits) (λ list at. spread_at list v n p st at b l)
  spreads_at p st vs fits b l = tt

  pub class_at : (none : Makings) (f : FunctionId) (heritage : Value) (parent : ObjId) (above : Option ObjId) (links : List CoreLink) (st : CoreState) → K.unmade (env st) f → St st → Links st links → N (make_class core f heritage parent above links st)
  class_at none f heritage parent above links st at b l =
      option_by (function_at core f) st _ (λ function there. (closure_more (class_closure f function (value.Object (class_prototype st.heap)) st) st (none.1 (env st) f at, kept_none f function st (none.0 f function there)) b, (l, tt)))

  heritage_at : (none : Makings) (has_heritage : Bool) (heritage : Value) (f : FunctionId) (p : CoreStrict) (st : CoreState) → K.unmade (env st) f → St st → Links st p.links → N (class_by core has_heritage heritage f p st)
  heritage_at none true heritage f p st at b l = ((((at, l), b.0), b.1, b.2), tt)
  heritage_at none false heritage f p st at b l = class_at none f value.Undefined function_prototype (Some object_prototype) p.links st at b l

  classes_at : (none : Makings) (p : CoreStrict) (st : CoreState) (c : Current Mark) (vs : List (CoreValue Mark)) → LastFits (env st) ToMake vs → St st → Links st p.links → N (class_make core p st c vs)
  classes_at none p st (Has (User (value.Bool has_heritage))) (User heritage ∷ Extra (Unmade f) ∷ []) last b l = heritage_at none has_heritage heritage f p st last b l
  classes_at none p st c vs last b l = tt

  bind_at : (p : CoreStrict) (st : CoreState) (v : Value) (o : Option Value) → St st → Links st p.links → N (bind_this p st v o)
  bind_at p st v None b l = (b, (l, tt))
  bind_at p st v (Some w) b l = (b, tt)

  key_at : (v : Value) (st : CoreState) (f : Key → CoreNext) → ((k : Key) → N (f k)) → N (with_key v st f)
  key_at (value.Text units) st f h = h _
  key_at v st f h = tt

  -- a home object is no code, and nor are statics
  home_set : (home : Value) (n : ℕ) (cs : List (Closure Own)) (c : Closure Own) → slice_get cs n ≡ Some c → AllOf (ClosureAt K) cs
      → AllOf (ClosureAt K) (slice_set cs n (record c { own = record c.own { home = home } }))
  home_set home n [] c is all = tt
  home_set home zero (d ∷ cs) c is (first, all) = (subst (λ k. ClosureAt K k) (some_is d c is) first, all)
  home_set home (suc n) (d ∷ cs) c is (first, all) = (first, home_set home n cs c is all)

  home_at : (home : Value) (n : ℕ) (st : CoreState) (o : Option (Closure Own)) → slice_get st.closures n ≡ o → St st → St (with_home home n st o)
  home_at home n st None is b = b
  home_at home n st (Some c) is b = (
    b.0,
    b.1,
    record {
      inside = b.2.inside;
      generators_at = b.2.generators_at;
      records_fit = b.2.records_fit;
      shapes = b.2.shapes;
      closures_at = home_set home n st.closures c is b.2.closures_at;
      ahead_at = b.2.ahead_at;
    },
  )

  homed_by : (home : Value) (st : CoreState) (k : Class) → St st → St (homed_class home st k)
  homed_by home st (class.Function n) b = home_at home n st (slice_get st.closures n) refl b
  homed_by home st k b = b

  homed_at : (home v : Value) (st : CoreState) → St st → St (homed home v st)
  homed_at home (value.Object f) st b = homed_by home st (object_at st.heap f).class b
  homed_at home v st b = b

  note_at : (is : Bool) (id : ObjId) (k : Key) (st : CoreState) → St st → St (if is then with_store (record st.store { statics = st.store.statics ++ record { class = id; key = k } ∷ [] }) st else st)
  note_at true id k st b = b
  note_at false id k st b = b

  method_at : (is_method : Bool) (id : ObjId) (k : Key) (v : Value) (st : CoreState) → St st → St (method_noted is_method id k v st)
  method_at true id k v st b = note_at _ id k (homed (value.Object id) v st) (homed_at (value.Object id) v st b)
  method_at false id k v st b = b

  -- the links stand in the same context
  same_home : (home : Value) (n : ℕ) (st : CoreState) (o : Option (Closure Own)) → (with_home home n st o).context ≡ st.context
  same_home home n st None = refl
  same_home home n st (Some c) = refl

  same_homed_by : (home : Value) (st : CoreState) (k : Class) → (homed_class home st k).context ≡ st.context
  same_homed_by home st (class.Function n) = same_home home n st (slice_get st.closures n)
  same_homed_by home st k = refl

  same_homed : (home v : Value) (st : CoreState) → (homed home v st).context ≡ st.context
  same_homed home (value.Object f) st = same_homed_by home st (object_at st.heap f).class
  same_homed home v st = refl

  same_note : (is : Bool) (id : ObjId) (k : Key) (st : CoreState) → (if is then with_store (record st.store { statics = st.store.statics ++ record { class = id; key = k } ∷ [] }) st else st).context ≡ st.context
  same_note true id k st = refl
  same_note false id k st = refl

  same_method : (is_method : Bool) (id : ObjId) (k : Key) (v : Value) (st : CoreState) → (method_noted is_method id k v st).context ≡ st.context
  same_method true id k v st = same_note _ id k (homed (value.Object id) v st) ∙ same_homed (value.Object id) v st
  same_method false id k v st = refl

  abbrev LinksIn : Context Mark Own CoreWork → List CoreLink → Type 0
  LinksIn k links = K.links k.environment (floor_of k.frames).wanted links

  noted_next : (c : Current Mark) (object : ObjId) (is_method : Bool) (id : ObjId) (k : Key) (v : Value) (links : List CoreLink) (st : CoreState) (w : Write) → c ≡ Object object → St st → Links st links
      → N (defined c links (method_noted is_method id k v st) w)
  noted_next c object is_method id k v links st w is b l =
      let after = method_noted is_method id k v st in
      defined_at c links after w (object_fits (env after) (along after links) c object is) (method_at is_method id k v st b) (subst (λ k. LinksIn k links) (sym (same_method is_method id k v st)) l)

  methods_at : (p : CoreStrict) (st : CoreState) (vs : List (CoreValue Mark)) → St st → Links st p.links → N (method_put p st vs)
  methods_at p st (User key ∷ User v ∷ User (value.Bool is_method) ∷ []) b l =
      object_at1 p.current st _ (λ id is. key_at key st _ (λ k. noted_next p.current id is_method id k v p.links (with_heap (define_key Sixth st.heap id k (Plain v true true)).after st)
      (define_key Sixth st.heap id k (Plain v true true)).answer is b l))
  methods_at p st vs b l = tt

  accessors_at : (p : CoreStrict) (st : CoreState) (vs : List (CoreValue Mark)) → St st → Links st p.links → N (accessor_put p st vs)
  accessors_at p st (User key ∷ User (value.Object f) ∷ User (value.Bool is_setter) ∷ []) b l =
      object_at1 p.current st _ (λ id is. key_at key st _ (λ k. noted_next p.current id true id k (value.Object f) p.links (with_heap (define_key Sixth st.heap id k (with_half st.heap id k f is_setter)).after st)
      (define_key Sixth st.heap id k (with_half st.heap id k f is_setter)).answer is b l))
  accessors_at p st vs b l = tt

  delegated_at : (p : CoreStrict) (st : CoreState) (vs : List (CoreValue Mark)) → St st → Links st p.links → N (delegate_step p st vs)
  delegated_at p st (User (value.Number n) ∷ User v ∷ []) b l = option_at (user_at p.current) st _ (λ it. (((l, b.0), b.1, b.2), tt))
  delegated_at p st vs b l = tt

  template_at : (cooked raw : List Value) (links : List CoreLink) (st : CoreState) (o : Option Value) → St st → Links st links → N (template_by cooked raw links st o)
  template_at cooked raw links st None b l = (b, (l, tt))
  template_at cooked raw links st (Some o) b l = (b, (l, tt))

  -- ---- a yield: the context is saved, and its caller goes on

  -- a frame that may be saved
  abbrev pub Yields : CoreState → Frame Mark CoreWork → Type 0
  Yields st frame = (below_frame (env st) frame ≡ env st) × NotHeld (under frame (floor_of st.context.frames)).wanted × FrameAt K (env st) (floor_of st.context.frames) frame

  saved_at : (frame : Frame Mark CoreWork) (st : CoreState) → Yields st frame → St st → FramesAt K anywhere (env st) (frame ∷ st.context.frames)
  saved_at frame st (same, free, at) b = (at, subst (λ e. FramesAt K anywhere e st.context.frames) (sym same) (frames_anywhere _ (env st) st.context.frames b.0))

  yield_on : (frame : Frame Mark CoreWork) (wraps : Bool) (v : Value) (st : CoreState) (k : Context Mark Own CoreWork) (ks : List (Context Mark Own CoreWork)) (fs : List (Frame Mark CoreWork))
      → Yields st frame → St st → FramesAt K (Bottom K ks) k.environment fs → K.inside k.environment → AllContexts K ks → N (yield_to frame wraps v st k ks fs)
  yield_on frame wraps v st k ks (Work (Resumes n) ∷ fs) y b (here, below) inside all =
      let saved : Stored K k.environment (slice_set st.store.generators n (AtYield (saved_with (frame ∷ st.context.frames) st))) st.records st.closures st.ahead = record {
        inside = inside;
        generators_at = all_set (GeneratorAt K) st.store.generators n (AtYield (saved_with (frame ∷ st.context.frames) st)) (saved_at frame st y b, y.1, b.2.inside) b.2.generators_at;
        records_fit = b.2.records_fit;
        shapes = b.2.shapes;
        closures_at = b.2.closures_at;
        ahead_at = b.2.ahead_at;
      } in
      either_at wraps _ _ ((below, all, saved), tt) ((below, all, saved), tt)
  yield_on frame wraps v st k ks fs y b below inside all = tt

  yield_by : (frame : Frame Mark CoreWork) (wraps : Bool) (v : Value) (st : CoreState) (ks : List (Context Mark Own CoreWork)) → Yields st frame → St st → AllContexts K ks → N (yield_from frame wraps v st ks)
  yield_by frame wraps v st [] y b all = tt
  yield_by frame wraps v st (k ∷ ks) y b ((frames, inside), all) = yield_on frame wraps v st k ks k.frames y b frames inside all

  pub yields_at : (frame : Frame Mark CoreWork) (wraps : Bool) (v : Value) (st : CoreState) → Yields st frame → St st → N (yields frame wraps v st)
  yields_at frame wraps v st y b = yield_by frame wraps v st st.callers y b b.1

  -- ---- all operations

  primitives_at : (none : Makings) (p : CoreStrict) (st : CoreState) (q : Primitive) → Acting st p (op.Primitive q) → St st → Links st p.links → N (primitive_act core p st q)
  unfolding primitive_act
  primitives_at none p st primitive.CheckReady a b l = ready_at p st p.current b l
  primitives_at none p st (primitive.CellMake x) a b l = absurd a.0
  primitives_at none p st primitive.ToText a b l = option_at (user_at p.current) st _ (λ v. (((l, b.0), b.1, b.2), tt))
  primitives_at none p st primitive.IterStart a b l = option_at (user_at p.current) st _ (λ v. option_at (single_user p.values) st _ (λ w. (((l, b.0), b.1, b.2), tt)))
  primitives_at none p st primitive.IterStep a b l = option_at (user_at p.current) st _ (λ v. (((l, b.0), b.1, b.2), tt))
  primitives_at none p st primitive.IterValue a b l = option_at (user_at p.current) st _ (λ v. (((l, b.0), b.1, b.2), tt))
  primitives_at none p st primitive.IterClose a b l = option_at (user_at p.current) st _ (λ v. (((l, b.0), b.1, b.2), tt))
  primitives_at none p st primitive.RestList a b l = option_at (user_at p.current) st _ (λ v. (b, (l, tt)))
  primitives_at none p st primitive.SpreadList a b l = spreads_at p st p.values a.1 b l
  primitives_at none p st primitive.Construct a b l =
      option_at (user_at p.current) st _ (λ f. arguments_at p.values st _ (λ args. constructs_at f args f (pushed (After p.links) st) (constructor_of Sixth st.heap f) ((l, b.0), b.1, b.2)))
  primitives_at none p st primitive.NamespaceMake a b l = arguments_at (has_value p.current) st _ (λ vs. (b, (l, tt)))
  primitives_at none p st primitive.ClassMake a b l = classes_at none p st p.current p.values a.2 b l
  primitives_at none p st primitive.SuperConstruct a b l = arguments_at (has_value p.current) st _ (λ args. constructs_at (parent_of st.heap st.context.own.callee) args st.context.own.target (pushed (After p.links) st) (constructor_of Sixth st.heap (parent_of st.heap st.context.own.callee)) ((l, b.0), b.1, b.2))
  primitives_at none p st primitive.ThisBind a b l = option_at (user_at p.current) st _ (λ v. bind_at p st v (slice_index_or st.store.this_values st.context.own.this_record None) b l)
  primitives_at none p st primitive.SuperGet a b l =
      option_at (user_at p.current) st _ (λ key. option_at (single_user p.values) st _ (λ receiver. key_at key st _ (λ k. (((l, b.0), b.1, b.2), tt))))
  primitives_at none p st primitive.MethodPut a b l = methods_at p st p.values b l
  primitives_at none p st primitive.AccessorPut a b l = accessors_at p st p.values b l
  primitives_at none p st primitive.DelegateStep a b l = delegated_at p st p.values b l
  primitives_at none p st primitive.Power a b l = option_at (user_at p.current) st _ (λ v. option_at (single_user p.values) st _ (λ w. (((l, b.0), b.1, b.2), tt)))
  primitives_at none p st primitive.TemplateObject a b l = arguments_at (has_value p.current) st _ (λ cooked. arguments_at p.values st _ (λ raw. template_at cooked raw p.links st _ b l))
  primitives_at none p st q a b l = tt

  rows_at : (none : Makings) (p : CoreStrict) (st : CoreState) (o : CoreOp) → Acting st p o → St st → Links st p.links → N (act_op core p st o)
  rows_at none p st op.CallList a b l = arguments_at p.values st _ (λ args. current_at p st args p.current b l)
  rows_at none p st op.CallListWith a b l = listed_at p st p.values b l
  rows_at none p st op.NewList a b l = option_at (user_at p.current) st _ (λ f. arguments_at p.values st _ (λ args. constructs_at f args f (pushed (After p.links) st) (constructor_of Sixth st.heap f) ((l, b.0), b.1, b.2)))
  rows_at none p st op.Element a b l =
      option_list (along st p.links) (list_current p.current) st _ (list_of_current (env st) (along st p.links) p.current a.1) (λ list at. option_at (single_user p.values) st _ (λ v. grown_at list v p.links st at b l))
  rows_at none p st op.Content a b l = absurd a.0
  rows_at none p st op.SetContent a b l = absurd a.0
  rows_at none p st (op.Primitive q) a b l = primitives_at none p st q a b l
  rows_at none p st op.Yield a b l = option_at (user_at p.current) st _ (λ v. yields_at (Work (YieldsIn p.links)) true v st (refl, tt, l) b)
  rows_at none p st op.Delegate a b l = option_at (user_at p.current) st _ (λ v. (((l, b.0), b.1, b.2), tt))
  rows_at none p st o a b l = tt

  element_at : (none : Makings) (p : CoreStrict) (st : CoreState) (c : Current Mark) → p.current ≡ c → Acting st p p.op → St st → Links st p.links → N (element (rows core) p st c)
  element_at none p st (Has (Extra m)) is a b l = rows_at none p st p.op a b l
  element_at none p st (Has (User (value.Object id))) is a b l = option_at (single_user p.values) st _ (λ v. (b, (l, object_fits (env st) (along st p.links) p.current id is)))
  element_at none p st c is a b l = tt

  hole_to : (none : Makings) (p : CoreStrict) (st : CoreState) (c : Current Mark) → p.current ≡ c → Acting st p p.op → St st → Links st p.links → N (hole (rows core) p st c)
  hole_to none p st (Has (Extra m)) is a b l = rows_at none p st p.op a b l
  hole_to none p st (Has (User (value.Object id))) is a b l = (b, (l, object_fits (env st) (along st p.links) p.current id is))
  hole_to none p st c is a b l = tt

  pub acts_at : (none : Makings) (p : CoreStrict) (st : CoreState) (o : CoreOp) → Acting st p o → Acting st p p.op → St st → Links st p.links → N (act_by (rows core) core p st o)
  unfolding act_by
  acts_at none p st (op.Member k) a a2 b l = option_at (user_at p.current) st _ (λ v. either_at (is_nothing v) (raises TypeError st) (goes (named v (key_units k)) p.links st) (b, tt) (b, (l, named_by (env st) (along st p.links) _ v _)))
  acts_at none p st op.Index a a2 b l = option_at (user_at p.current) st _ (λ v. option_at (single_user p.values) st _ (λ k. (((l, b.0), b.1, b.2), tt)))
  acts_at none p st op.Call a a2 b l = option_at (users p.values) st _ (λ args. current_at p st args p.current b l)
  acts_at none p st op.CallWith a a2 b l = option_at (users p.values) st _ (λ args. with_at p st args b l)
  acts_at none p st op.New a a2 b l = option_at (user_at p.current) st _ (λ f. option_at (users p.values) st _ (λ args. construct_at f args p.site (pushed (After p.links) st) (constructor_of Sixth st.heap f) ((l, b.0), b.1, b.2)))
  acts_at none p st op.Put a a2 b l = put_at p st p.current b l
  acts_at none p st op.Delete a a2 b l = delete_at p st p.current b l
  acts_at none p st (op.Update o) a a2 b l = update_at o p st p.current b l
  acts_at none p st (op.Step u) a a2 b l = step_to u p st p.current b l
  acts_at none p st (op.Operator o) a a2 b l = option_at (user_at p.current) st _ (λ v. option_at (single_user p.values) st _ (λ w. operate_at (After p.links) o v w st ((l, b.0), b.1, b.2)))
  acts_at none p st (op.Unary u) a a2 b l = option_at (user_at p.current) st _ (λ v. one_at p.links u v st b l)
  acts_at none p st op.Then a a2 b l = then_at p st p.values a.2 b l
  acts_at none p st (op.Set x) a a2 b l = set_at x p st p.current a.1 b l
  acts_at none p st (op.Init x) a a2 b l = init_at x p st p.current a.1 b l
  acts_at none p st (op.StepVariable u x) a a2 b l = absurd a.0
  acts_at none p st op.Element a a2 b l = element_at none p st p.current refl a2 b l
  acts_at none p st op.Hole a a2 b l = hole_to none p st p.current refl a2 b l
  acts_at none p st (op.Define k) a a2 b l =
      object_at1 p.current st _ (λ id is. option_at (single_user p.values) st _ (λ v. defined_at p.current p.links _ _ (object_fits (env st) (along st p.links) p.current id is) b l))
  acts_at none p st (op.Getter k) a a2 b l =
      object_at1 p.current st _ (λ id is. option_at (single_user p.values) st _ (λ v. accessor_at id (key_units k) false p st v (object_fits (env st) (along st p.links) p.current id is) b l))
  acts_at none p st (op.Setter k) a a2 b l =
      object_at1 p.current st _ (λ id is. option_at (single_user p.values) st _ (λ v. accessor_at id (key_units k) true p st v (object_fits (env st) (along st p.links) p.current id is) b l))
  acts_at none p st o a a2 b l = rows_at none p st p.op a2 b l
