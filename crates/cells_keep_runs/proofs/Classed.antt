-- Classes and their members are made alike.
use Rattle.std.specs.List.{filter_map, flat_map}
use Rattle.std.proofs.Common.{◌≡◌, ℕ, zero, suc, Bool, true, false, List, [], ◌∷◌, ◌++◌, Option, None, Some, length, slice_get, refl, sym, ap, subst, ◌∙◌, ◌⊎◌, inl, inr}
use Rattle.std.specs.Prelude.{if◌then◌else◌}
use Rattle.es_outside.specs.declared.events.Site.{Site}
use Rattle.es_value.specs.declared.value.ObjId.{ObjId}
use Rattle.es_value.specs.declared.value.Value.{Value}
use Rattle.es_value.specs.declared.value.Value.TheVariants as value
use Rattle.es_heap.specs.Heaps.{Heap, next_id, object_at}
use Rattle.es_heap.specs.declared.class.Class.{Class}
use Rattle.es_heap.specs.declared.class.Class.TheVariants as class
use Rattle.es_heap.specs.declared.key.Key.{Key}
use Rattle.es_heap.specs.declared.prop.Prop.{Prop}
use Rattle.es_heap.specs.declared.prop.Prop.TheVariants.{Plain}
use Rattle.es_realm.specs.Access.{define_key}
use Rattle.es_realm.specs.Look.{is_closure}
use Rattle.es_realm.specs.Names.{function_prototype, object_prototype}
use Rattle.es_realm.specs.declared.access.Write.{Write}
use Rattle.es_realm.specs.declared.access.Write.TheVariants as write
use Rattle.es_realm.specs.declared.edition.Edition.TheVariants.{Sixth}
use Rattle.es_realm.specs.declared.errors.ErrorKind.TheVariants.{RangeError, TypeError}
use Rattle.es_operations.specs.Making.{class_function, class_prototype, with_half, with_recorded}
use Rattle.es_operations.specs.Numbers as number
use Rattle.core_ast.specs.declared.parts.CoreOp.{CoreOp}
use Rattle.core_ast.specs.declared.parts.CoreOp.TheVariants as op
use Rattle.core_ast.specs.declared.parts.FunctionId.{FunctionId}
use Rattle.core_ast.specs.declared.parts.Primitive.{Primitive}
use Rattle.core_ast.specs.declared.parts.Primitive.TheVariants as primitive
use Rattle.core_ast.specs.declared.parts.Var.{Var}
use Rattle.core_ast.specs.declared.tree.CoreExpr.{CoreExpr}
use Rattle.core_ast.specs.declared.whole.Core.{Core}
use Rattle.core_ast.specs.declared.whole.CoreFunction.{CoreFunction}
use Rattle.core_meaning.specs.Classes.{accessor_put, class_by, class_closure, class_made, class_make, heritage_given, homed, homed_class, make_class, method_noted, method_put, noted, put_accessor, put_member, recorded_for, still_there, with_home, with_key}
use Rattle.core_meaning.specs.Expressions.{has_given}
use Rattle.core_meaning.specs.Functions.{cell_found, with_closure}
use Rattle.core_meaning.specs.Names.{resolve}
use Rattle.core_meaning.specs.Marks.{CoreNext, CoreState, CoreStrict, Mark, Own, Unmade, with_store}
use Rattle.core_meaning.specs.Modules.{primitive_act, rows, work_given}
use Rattle.core_meaning.specs.Properties.{defined, with_object}
use Rattle.core_meaning.specs.Rows.{goes, with_control, with_heap, with_option, with_user}
use Rattle.core_meaning.specs.State.{Closure, CoreValue, Current, Extra, Go, Has, User}
use Rattle.core_meaning.specs.Step.{act, act_by, given, hand, step}
use Rattle.pass_rules.specs.Scopes.{function_flat}
use Rattle.cells_keep_runs.specs.Alike.{Alike, Along, Config, strict}
use Rattle.cells_keep_runs.specs.Classed.{ClassSeen, ClassesAreMadeAlike, HeritagesAreTakenAlike, MembersArePutAlike, SeenIn}
use Rattle.cells_keep_runs.specs.Closed.{AllSeen, KeepsAll, KeepsOthers}
use Rattle.cells_keep_runs.specs.Opened.{opened}
use Rattle.cells_keep_runs.specs.Related.{All, BelowCells, Closures, Related, Seats, Stand, WaitsHeritage, at_links, cell_along, same_current}
use Rattle.cells_keep_runs.proofs.Acted.{goes_on, works_on}
use Rattle.cells_keep_runs.proofs.Alike.{an_object, at_heap, raised}
use Rattle.cells_keep_runs.proofs.Carried.{B, U, carries, stand_heap}
use Rattle.cells_keep_runs.proofs.Closed.{all_length, all_push, found_all, kept_all, kept_among}
use Rattle.cells_keep_runs.proofs.Ended.{set_all}

module _ (core core2 : Core) (owners : List ℕ) (seats : Seats) where
  abbrev R : Config → Config → Type 0
  R = Related owners seats

  abbrev A : CoreNext → CoreNext → Type 0
  A = Alike R

  abbrev BB : Along → Along → Type 0
  BB = B owners seats

  -- links in other states, with the same contexts
  moved : (p q : Along) (s t : CoreState) → BB p q → Stand owners seats s t → s.context ≡ p.state.context → t.context ≡ q.state.context → BB (record { links = p.links; state = s }) (record { links = q.links; state = t })
  moved p q s t (stand, below, is) stand2 same same2 =
      let below2 : BelowCells owners seats s p.links t =
      subst (λ k. BelowCells owners seats (record s { context = k }) p.links t) (sym same) (subst (λ k. BelowCells owners seats (record s { context = p.state.context }) p.links (record t { context = k })) (sym same2) below) in
      (stand2, below2, is ∙ ap (λ k. (opened owners (cell_along seats k.environment) p.links).links) (sym same))

  -- ---- classes

  recorded_is : (v : Value) (s t : CoreState) → Stand owners seats s t → recorded_for t v ≡ recorded_for s v
  recorded_is (value.Object parent) s t x =
      ap (λ h. filter_map (still_there h parent) t.store.statics ++ (object_at h parent).recorded) x.states.heap
      ∙ ap (λ ss. filter_map (still_there s.heap parent) ss ++ (object_at s.heap parent).recorded) x.states.statics
  recorded_is value.Undefined s t x = refl
  recorded_is value.Null s t x = refl
  recorded_is (value.Bool b) s t x = refl
  recorded_is (value.Number n) s t x = refl
  recorded_is (value.Text us) s t x = refl

  stand_class : (f : FunctionId) (function : CoreFunction) (kept : List Var) (home : Value) (h : Heap) (s t : CoreState) → KeepsOthers owners f function kept → Stand owners seats s t → AllSeen owners seats s kept → KeepsAll seats s.context.environment f kept
      → Stand owners seats (with_closure (class_closure f function home s) (with_heap h s)) (with_closure (class_closure f (function_flat owners kept function) home t) (with_heap h t))
  stand_class f function kept home h s t others x seen all = record {
    states = record {
      heap = refl;
      memory = x.states.memory;
      closures = all_push (Closures owners seats) s.closures t.closures (class_closure f function home s) (class_closure f (function_flat owners kept function) home t) x.states.closures
          (record {
            function = refl;
            environment = x.environment;
            below = x.below;
            own = record { this_record = refl; callee = refl; target = refl; home = refl; passed = refl };
            cells = kept_all owners seats s t x kept seen;
            uncelled = ap (λ cs. flat_map (λ y. cell_found y (resolve s y)) cs) others.0;
            foreign = λ y k found. others.1 y (kept_among t kept y k found);
            whole = λ y along. found_all owners seats s t x kept seen y (all y along);
          });
      callers = x.states.callers;
      ahead = x.states.ahead;
      this_values = x.states.this_values;
      generators = x.states.generators;
      namespaces = x.states.namespaces;
      templates = x.states.templates;
      statics = x.states.statics;
    };
    environment = x.environment;
    below = x.below;
    receiver = x.receiver;
    site = x.site;
    own = x.own;
  }

  abbrev class_with : FunctionId → CoreFunction → ℕ → ObjId → Option ObjId → Along → Heap → ℕ → List Key → CoreNext
  class_with f g count parent above q h n keys =
      goes (Has (User (value.Object (next_id h)))) q.links
      (with_closure (class_closure f g (value.Object (class_prototype h)) q.state) (with_heap (with_recorded (class_function Sixth h n count parent above) (next_id h) keys) q.state))

  class_alike : (f : FunctionId) (function : CoreFunction) (kept : List Var) (heritage : Value) (parent : ObjId) (above : Option ObjId) (p q : Along) → KeepsOthers owners f function kept → AllSeen owners seats p.state kept → KeepsAll seats p.state.context.environment f kept → BB p q
      → A (has_given p.links (class_made f function heritage parent above p.state)) (has_given q.links (class_made f (function_flat owners kept function) heritage parent above q.state))
  class_alike f function kept heritage parent above p q others seen all (stand, below, is) =
      let s : CoreState = p.state in
      let t : CoreState = q.state in
      let g = function_flat owners kept function in
      let n = length s.closures in
      let keys = recorded_for s heritage in
      let count = function.length in
      let first : CoreNext = has_given p.links (class_made f function heritage parent above s) in
      let home : Value = value.Object (class_prototype s.heap) in
      let h : Heap = with_recorded (class_function Sixth s.heap n count parent above) (next_id s.heap) keys in
      let here : A first (class_with f g count parent above q s.heap n keys) = (
        _,
        refl,
        subst (λ ls. R (with_control (Go (Has (User (value.Object (next_id s.heap)))) p.links) (with_closure (class_closure f function home s) (with_heap h s)))
            (with_control (Go (Has (User (value.Object (next_id s.heap)))) ls) (with_closure (class_closure f g home t) (with_heap h t)))) (sym is)
            (at_links p.links same_current (stand_class f function kept home h s t others stand seen all) below),
      ) in
      subst (λ heap. A first (class_with f g count parent above q heap (length t.closures) (recorded_for t heritage))) (sym stand.states.heap)
      (subst (λ m. A first (class_with f g count parent above q s.heap m (recorded_for t heritage))) (sym (all_length (Closures owners seats) s.closures t.closures stand.states.closures))
      (subst (λ ks. A first (class_with f g count parent above q s.heap n ks)) (sym (recorded_is heritage s t stand)) here))

  made_alike : (f : FunctionId) (heritage : Value) (parent : ObjId) (above : Option ObjId) (p q : Along) → ClassSeen core core2 owners seats p.state f → BB p q → A (make_class core f heritage parent above p.links p.state) (make_class core2 f heritage parent above q.links q.state)
  made_alike f heritage parent above p q c b =
      subst (λ o. A (with_option o p.state (λ function. has_given p.links (class_made f function heritage parent above p.state))) (make_class core2 f heritage parent above q.links q.state)) (sym c.before)
      (subst (λ o. A (has_given p.links (class_made f c.function heritage parent above p.state)) (with_option o q.state (λ function. has_given q.links (class_made f function heritage parent above q.state)))) (sym c.flat)
      (class_alike f c.function c.kept heritage parent above p q c.others c.seen c.all b))

  abbrev making : Option Site → Current Mark → List (CoreValue Mark) → List CoreExpr → Along → CoreStrict
  making site c vs xs p = strict (op.Primitive primitive.ClassMake) site c vs xs p.links

  by_heritage : (has_heritage : Bool) (heritage : Value) (f : FunctionId) (site : Option Site) (c : Current Mark) (vs : List (CoreValue Mark)) (xs : List CoreExpr) (p q : Along) → ClassSeen core core2 owners seats p.state f → BB p q
      → A (class_by core has_heritage heritage f (making site c vs xs p) p.state) (class_by core2 has_heritage heritage f (making site c vs xs q) q.state)
  by_heritage true heritage f site c vs xs p q seen b = works_on core core2 owners seats p q (WaitsHeritage f heritage) number.heritage_prototype_number heritage [] b
  by_heritage false heritage f site c vs xs p q seen b = made_alike f value.Undefined function_prototype (Some object_prototype) p q seen b

  by_values : (site : Option Site) (c d : Current Mark) (vs ws : List (CoreValue Mark)) (xs : List CoreExpr) (p q : Along) → SeenIn core core2 owners seats p.state vs → BB p q
      → A (class_make core (making site d ws xs p) p.state c vs) (class_make core2 (making site d ws xs q) q.state c vs)
  by_values site (Has (User (value.Bool has_heritage))) d (User heritage ∷ Extra (Unmade f) ∷ []) ws xs p q seen b = by_heritage has_heritage heritage f site d ws xs p q seen b
  by_values site c d vs ws xs p q seen b = tt

  heritage_alike : (f : FunctionId) (heritage v : Value) (p q : Along) → ClassSeen core core2 owners seats p.state f → BB p q → A (heritage_given core f heritage p.links p.state v) (heritage_given core2 f heritage q.links q.state v)
  heritage_alike f (value.Object parent) (value.Object above) p q seen b = made_alike f (value.Object parent) parent (Some above) p q seen b
  heritage_alike f (value.Object parent) value.Null p q seen b = made_alike f (value.Object parent) parent None p q seen b
  heritage_alike f heritage v p q seen b = tt

  given_alike : (f : FunctionId) (heritage : Value) (v : CoreValue Mark) (p q : Along) → ClassSeen core core2 owners seats p.state f → BB p q
      → A (with_user v p.state (heritage_given core f heritage p.links p.state)) (with_user v q.state (heritage_given core2 f heritage q.links q.state))
  given_alike f heritage (User w) p q seen b = heritage_alike f heritage w p q seen b
  given_alike f heritage (Extra m) p q seen b = tt

  -- ---- members

  -- closures and statics are others, in related states
  record Changed (p q : Along) (s t : CoreState) : Type 0 where
    stood : Stand owners seats s t
    same : s.context ≡ p.state.context
    same2 : t.context ≡ q.state.context

  data BothGot : Option (Closure Own) → Option (Closure Own) → Type 0 where
    got_none : BothGot None None
    got_both : {a b : Closure Own} → Closures owners seats a b → BothGot (Some a) (Some b)

  both_got : (xs ys : List (Closure Own)) (n : ℕ) → All (Closures owners seats) xs ys → BothGot (slice_get xs n) (slice_get ys n)
  both_got [] [] n rs = got_none
  both_got [] (y ∷ ys) n rs = absurd rs
  both_got (x ∷ xs) [] n rs = absurd rs
  both_got (x ∷ xs) (y ∷ ys) zero (r, rs) = got_both r
  both_got (x ∷ xs) (y ∷ ys) (suc n) (r, rs) = both_got xs ys n rs

  homes_by : (home : Value) (n : ℕ) (p q : Along) (s t : CoreState) (o o2 : Option (Closure Own)) → BothGot o o2 → Changed p q s t → Changed p q (with_home home n s o) (with_home home n t o2)
  homes_by home n p q s t o o2 got_none x = x
  homes_by home n p q s t o o2 (got_both {a = a} {b = b} r) x = record {
    stood = record {
      states = record {
        heap = x.stood.states.heap;
        memory = x.stood.states.memory;
        closures = set_all (Closures owners seats) s.closures t.closures n (record a { own = record a.own { home = home } }) (record b { own = record b.own { home = home } })
            (record {
              function = r.function;
              environment = r.environment;
              below = r.below;
              own = record { this_record = r.own.this_record; callee = r.own.callee; target = r.own.target; home = refl; passed = r.own.passed };
              cells = r.cells;
              uncelled = r.uncelled;
              foreign = r.foreign;
              whole = r.whole;
            })
            x.stood.states.closures;
        callers = x.stood.states.callers;
        ahead = x.stood.states.ahead;
        this_values = x.stood.states.this_values;
        generators = x.stood.states.generators;
        namespaces = x.stood.states.namespaces;
        templates = x.stood.states.templates;
        statics = x.stood.states.statics;
      };
      environment = x.stood.environment;
      below = x.stood.below;
      receiver = x.stood.receiver;
      site = x.stood.site;
      own = x.stood.own;
    };
    same = x.same;
    same2 = x.same2;
  }

  class_homed : (home : Value) (p q : Along) (s t : CoreState) (k : Class) → Changed p q s t → Changed p q (homed_class home s k) (homed_class home t k)
  class_homed home p q s t (class.Function n) x = homes_by home n p q s t (slice_get s.closures n) (slice_get t.closures n) (both_got s.closures t.closures n x.stood.states.closures) x
  class_homed home p q s t k x = x

  homed_alike : (home v : Value) (p q : Along) (s t : CoreState) → Changed p q s t → Changed p q (homed home v s) (homed home v t)
  homed_alike home (value.Object f) p q s t x =
      subst (λ h. Changed p q (homed home (value.Object f) s) (homed_class home t (object_at h f).class)) (sym x.stood.states.heap) (class_homed home p q s t (object_at s.heap f).class x)
  homed_alike home v p q s t x = x

  abbrev note : ObjId → Key → CoreState → CoreState
  note id k st = with_store (record st.store { statics = st.store.statics ++ record { class = id; key = k } ∷ [] }) st

  note_if : (is : Bool) (id : ObjId) (k : Key) (p q : Along) (s t : CoreState) → Changed p q s t → Changed p q (if is then note id k s else s) (if is then note id k t else t)
  note_if false id k p q s t x = x
  note_if true id k p q s t x = record {
    stood = record {
      states = record {
        heap = x.stood.states.heap;
        memory = x.stood.states.memory;
        closures = x.stood.states.closures;
        callers = x.stood.states.callers;
        ahead = x.stood.states.ahead;
        this_values = x.stood.states.this_values;
        generators = x.stood.states.generators;
        namespaces = x.stood.states.namespaces;
        templates = x.stood.states.templates;
        statics = ap (λ ss. ss ++ record { class = id; key = k } ∷ []) x.stood.states.statics;
      };
      environment = x.stood.environment;
      below = x.stood.below;
      receiver = x.stood.receiver;
      site = x.stood.site;
      own = x.stood.own;
    };
    same = x.same;
    same2 = x.same2;
  }

  noted_alike : (id : ObjId) (k : Key) (p q : Along) (s t : CoreState) → Changed p q s t → Changed p q (noted id k s) (noted id k t)
  noted_alike id k p q s t x =
      subst (λ h. Changed p q (noted id k s) (if is_closure (object_at h id).class then note id k t else t)) (sym x.stood.states.heap) (note_if (is_closure (object_at s.heap id).class) id k p q s t x)

  method_alike : (is_method : Bool) (id : ObjId) (k : Key) (v : Value) (p q : Along) (s t : CoreState) → Changed p q s t → Changed p q (method_noted is_method id k v s) (method_noted is_method id k v t)
  method_alike false id k v p q s t x = x
  method_alike true id k v p q s t x = noted_alike id k p q (homed (value.Object id) v s) (homed (value.Object id) v t) (homed_alike (value.Object id) v p q s t x)

  defined_alike : (c : Current Mark) (a : Write) (p q : Along) (s t : CoreState) → BB p q → Changed p q s t → A (defined c p.links s a) (defined c q.links t a)
  defined_alike c write.Done p q s t b x = goes_on core core2 owners seats (record { links = p.links; state = s }) (record { links = q.links; state = t }) c (moved p q s t b x.stood x.same x.same2)
  defined_alike c (write.Leaves n) p q s t b x = tt
  defined_alike c write.OutOfRange p q s t b x =
      raised R (B owners seats) (U owners seats) (carries owners seats) (record { links = p.links; state = s }) (record { links = q.links; state = t }) RangeError (moved p q s t b x.stood x.same x.same2)
  defined_alike c a p q s t b x =
      raised R (B owners seats) (U owners seats) (carries owners seats) (record { links = p.links; state = s }) (record { links = q.links; state = t }) TypeError (moved p q s t b x.stood x.same x.same2)

  abbrev put_with : ObjId → Key → Prop → Value → Bool → Current Mark → Along → Heap → CoreNext
  put_with id k property v is_method c p h =
      let w = define_key Sixth h id k property in
      defined c p.links (method_noted is_method id k v (with_heap w.after p.state)) w.answer

  puts_alike : (id : ObjId) (k : Key) (property : Prop) (v : Value) (is_method : Bool) (c : Current Mark) (p q : Along) → BB p q → A (put_with id k property v is_method c p p.state.heap) (put_with id k property v is_method c q p.state.heap)
  puts_alike id k property v is_method c p q b =
      let w = define_key Sixth p.state.heap id k property in
      let s : CoreState = with_heap w.after p.state in
      let t : CoreState = with_heap w.after q.state in
      defined_alike c w.answer p q (method_noted is_method id k v s) (method_noted is_method id k v t) b
      (method_alike is_method id k v p q s t (record { stood = stand_heap owners seats p.state q.state w.after b.0; same = refl; same2 = refl }))

  member_alike : (id : ObjId) (k : Key) (v : Value) (is_method : Bool) (o : CoreOp) (site : Option Site) (c : Current Mark) (vs : List (CoreValue Mark)) (xs : List CoreExpr) (p q : Along) → BB p q
      → A (put_member id k v is_method (strict o site c vs xs p.links) p.state) (put_member id k v is_method (strict o site c vs xs q.links) q.state)
  member_alike id k v is_method o site c vs xs p q b =
      at_heap R (B owners seats) (U owners seats) (carries owners seats) p q b (put_with id k (Plain v true true) v is_method c p p.state.heap) (λ h. put_with id k (Plain v true true) v is_method c q h)
      (puts_alike id k (Plain v true true) v is_method c p q b)

  half_alike : (id : ObjId) (k : Key) (f : ObjId) (is_setter : Bool) (o : CoreOp) (site : Option Site) (c : Current Mark) (vs : List (CoreValue Mark)) (xs : List CoreExpr) (p q : Along) → BB p q
      → A (put_accessor id k f is_setter (strict o site c vs xs p.links) p.state) (put_accessor id k f is_setter (strict o site c vs xs q.links) q.state)
  half_alike id k f is_setter o site c vs xs p q b =
      at_heap R (B owners seats) (U owners seats) (carries owners seats) p q b (put_accessor id k f is_setter (strict o site c vs xs p.links) p.state)
      (λ h. put_with id k (with_half h id k f is_setter) (value.Object f) true c q h) (puts_alike id k (with_half p.state.heap id k f is_setter) (value.Object f) true c p q b)

  key_by : (v : Value) (s u : CoreState) (f g : Key → CoreNext) → ((k : Key) → A (f k) (g k)) → A (with_key v s f) (with_key v u g)
  key_by (value.Text units) s u f g h = h _
  key_by v s u f g h = tt

  object_by : (c : Current Mark) (s u : CoreState) (f g : ObjId → CoreNext) → ((id : ObjId) → A (f id) (g id)) → A (with_object c s f) (with_object c u g)
  object_by c s u f g h = an_object R (B owners seats) (U owners seats) (carries owners seats) c s u f g h

  methods : (o : CoreOp) (site : Option Site) (c : Current Mark) (ws : List (CoreValue Mark)) (xs : List CoreExpr) (vs : List (CoreValue Mark)) (p q : Along) → BB p q
      → A (method_put (strict o site c ws xs p.links) p.state vs) (method_put (strict o site c ws xs q.links) q.state vs)
  methods o site c ws xs (User key ∷ User v ∷ User (value.Bool is_method) ∷ []) p q b =
      object_by c p.state q.state (λ id. with_key key p.state (λ k. put_member id k v is_method (strict o site c ws xs p.links) p.state)) (λ id. with_key key q.state (λ k. put_member id k v is_method (strict o site c ws xs q.links) q.state))
      (λ id. key_by key p.state q.state (λ k. put_member id k v is_method (strict o site c ws xs p.links) p.state) (λ k. put_member id k v is_method (strict o site c ws xs q.links) q.state)
      (λ k. member_alike id k v is_method o site c ws xs p q b))
  methods o site c ws xs vs p q b = tt

  accessors : (o : CoreOp) (site : Option Site) (c : Current Mark) (ws : List (CoreValue Mark)) (xs : List CoreExpr) (vs : List (CoreValue Mark)) (p q : Along) → BB p q
      → A (accessor_put (strict o site c ws xs p.links) p.state vs) (accessor_put (strict o site c ws xs q.links) q.state vs)
  accessors o site c ws xs (User key ∷ User (value.Object f) ∷ User (value.Bool is_setter) ∷ []) p q b =
      object_by c p.state q.state (λ id. with_key key p.state (λ k. put_accessor id k f is_setter (strict o site c ws xs p.links) p.state)) (λ id. with_key key q.state (λ k. put_accessor id k f is_setter (strict o site c ws xs q.links) q.state))
      (λ id. key_by key p.state q.state (λ k. put_accessor id k f is_setter (strict o site c ws xs p.links) p.state) (λ k. put_accessor id k f is_setter (strict o site c ws xs q.links) q.state)
      (λ k. half_alike id k f is_setter o site c ws xs p q b))
  accessors o site c ws xs vs p q b = tt

  abbrev acted : Core → Primitive → Option Site → Current Mark → List (CoreValue Mark) → List CoreExpr → Along → CoreNext
  acted x r site c vs xs p = act (rows x) x (strict (op.Primitive r) site c vs xs p.links) p.state

  members : (r : Primitive) (site : Option Site) (c : Current Mark) (vs : List (CoreValue Mark)) (xs : List CoreExpr) (p q : Along) → ((r ≡ primitive.MethodPut) ⊎ (r ≡ primitive.AccessorPut)) → BB p q → A (acted core r site c vs xs p) (acted core2 r site c vs xs q)
  unfolding act_by primitive_act
  members r site c vs xs p q (inl is) b = subst (λ z. A (acted core z site c vs xs p) (acted core2 z site c vs xs q)) (sym is) (methods (op.Primitive primitive.MethodPut) site c vs xs vs p q b)
  members r site c vs xs p q (inr is) b = subst (λ z. A (acted core z site c vs xs p) (acted core2 z site c vs xs q)) (sym is) (accessors (op.Primitive primitive.AccessorPut) site c vs xs vs p q b)

  classes : (site : Option Site) (c : Current Mark) (vs : List (CoreValue Mark)) (xs : List CoreExpr) (p q : Along) → SeenIn core core2 owners seats p.state vs → BB p q → A (acted core primitive.ClassMake site c vs xs p) (acted core2 primitive.ClassMake site c vs xs q)
  unfolding act_by primitive_act
  classes site c vs xs p q seen b = by_values site c c vs vs xs p q seen b

pub classes_made : ClassesAreMadeAlike
classes_made core core2 owners seats site c values parts links s t seen stand below =
    let p : Along = record { links = links; state = s } in
    let q : Along = record { links = (opened owners (cell_along seats s.context.environment) links).links; state = t } in
    classes core core2 owners seats site c values parts p q seen (stand, below, refl)

pub heritages_taken : HeritagesAreTakenAlike
unfolding step hand given work_given
heritages_taken core core2 owners seats f heritage v links s t seen stand below =
    let p : Along = record { links = links; state = s } in
    let q : Along = record { links = (opened owners (cell_along seats s.context.environment) links).links; state = t } in
    given_alike core core2 owners seats f heritage v p q seen (stand, below, refl)

pub members_put : MembersArePutAlike
members_put core core2 owners seats r site c values parts links s t is stand below =
    let p : Along = record { links = links; state = s } in
    let q : Along = record { links = (opened owners (cell_along seats s.context.environment) links).links; state = t } in
    members core core2 owners seats r site c values parts p q is (stand, below, refl)
