-- Operations that name no variable do the same on two cores.
use Rattle.std.proofs.Common.{ℕ, Bool, true, false, List, [], ◌∷◌, Option, None, Some, refl, sym, ap, subst}
use Rattle.std.specs.Prelude.{if◌then◌else◌}
use Rattle.es_outside.specs.declared.events.Site.{Site}
use Rattle.es_outside.specs.declared.host.Reply.{Reply}
use Rattle.es_outside.specs.declared.host.Reply.TheVariants as reply
use Rattle.es_outside.specs.declared.primitive.Primitive.{Primitive}
use Rattle.es_value.specs.declared.value.ObjId.{ObjId}
use Rattle.es_value.specs.declared.value.Value.{Value}
use Rattle.es_value.specs.declared.value.Value.TheVariants as value
use Rattle.es_heap.specs.Heaps.{Heap, next_id}
use Rattle.es_heap.specs.declared.key.Key.{Key as PropertyKey}
use Rattle.es_heap.specs.declared.prop.Prop.{Prop}
use Rattle.es_heap.specs.declared.prop.Prop.TheVariants.{Plain}
use Rattle.es_realm.specs.Access.{define_key}
use Rattle.es_realm.specs.Errors.{with_error}
use Rattle.es_realm.specs.Names.{object_prototype}
use Rattle.es_realm.specs.declared.access.Write.{Write}
use Rattle.es_realm.specs.declared.access.Write.TheVariants as write
use Rattle.es_realm.specs.declared.edition.Edition.TheVariants.{Sixth}
use Rattle.es_realm.specs.declared.errors.ErrorKind.{ErrorKind}
use Rattle.es_realm.specs.declared.errors.ErrorKind.TheVariants.{RangeError, TypeError}
use Rattle.es_calls.specs.Calls.{begun}
use Rattle.es_operators.specs.Functions.{constructor_of}
use Rattle.es_operators.specs.Operators.{is_nothing}
use Rattle.es_operators.specs.Primitives.{of_prim, to_prims, type_name}
use Rattle.es_operators.specs.declared.functions.Constructor.{Constructor}
use Rattle.es_operators.specs.declared.functions.Constructor.TheVariants as constructor
use Rattle.es_operations.specs.Making.{with_half}
use Rattle.es_operations.specs.Numbers as number
use Rattle.es_operations.specs.Steps.{operation}
use Rattle.es_operations.specs.Turning.{key_operand}
use Rattle.core_ast.specs.declared.parts.Binary.{Binary}
use Rattle.core_ast.specs.declared.parts.Binary.TheVariants as binary
use Rattle.core_ast.specs.declared.parts.CoreOp.{CoreOp}
use Rattle.core_ast.specs.declared.parts.CoreOp.TheVariants as op
use Rattle.core_ast.specs.declared.parts.Unary.{Unary}
use Rattle.core_ast.specs.declared.parts.Unary.TheVariants as unary
use Rattle.core_ast.specs.declared.parts.Update.{Update}
use Rattle.core_ast.specs.declared.tree.CoreExpr.{CoreExpr}
use Rattle.core_ast.specs.declared.whole.Core.{Core}
use Rattle.core_meaning.specs.Calls.{asks_host, call_current, call_with, construct_by, due, reply_of}
use Rattle.core_meaning.specs.Classes.{named}
use Rattle.core_meaning.specs.Expressions.{binary_number, operate, operate_one, single, single_user, user_at}
use Rattle.core_meaning.specs.Functions.{grown, list_current}
use Rattle.core_meaning.specs.Marks.{CoreList, CoreNext, CoreState, Mark, OfArguments, OfArray}
use Rattle.core_meaning.specs.Modules.{rows}
use Rattle.core_meaning.specs.Properties.{accessor_defined, add_element, add_hole, defined, defines, delete, element, hole, key_named, key_units, put, puts, step_at, update, with_object}
use Rattle.core_meaning.specs.Rows.{calls, goes, hands, operates, or_else, place_of, pushed, raises, users, with_control, with_heap, with_option}
use Rattle.core_meaning.specs.State.{After, Call, CoreValue, Current, Extra, Gives, Hand, Has, Hosted, Keyed, Making, Method, Old, Reference, Store, Throws, User}
use Rattle.core_meaning.specs.Step.{act_by}
use Rattle.cells_keep_runs.specs.Alike.{Alike, Along, Carries, Config, IsUntouched, LinkFrame, OfAfter, OfBehind, OfKeyed, OfStepAt, OfStore, along_heap, link_frame, strict}

module _ (R : Config → Config → Type 0) (B : Along → Along → Type 0) (U : CoreState → CoreState → Type 0) (k : Carries R B U) where
  abbrev A : CoreNext → CoreNext → Type 0
  A = Alike R

  -- ---- what may not be there, and choices

  pub maybe : {X : Type 0} (o : Option X) (s u : CoreState) (f g : X → CoreNext) → ((x : X) → A (f x) (g x)) → A (with_option o s f) (with_option o u g)
  maybe None s u f g h = tt
  maybe (Some x) s u f g h = h x

  pub either_way : (b : Bool) (x y x2 y2 : CoreNext) → A x x2 → A y y2 → A (if b then x else y) (if b then x2 else y2)
  either_way true x y x2 y2 h j = h
  either_way false x y x2 y2 h j = j

  pub an_object : (c : Current Mark) (s u : CoreState) (f g : ObjId → CoreNext) → ((id : ObjId) → A (f id) (g id)) → A (with_object c s f) (with_object c u g)
  an_object (Has (User (value.Object id))) s u f g h = h id
  an_object c s u f g h = tt

  -- what the second step does with its heap, it does with the first one's
  pub at_heap : (p q : Along) (b : B p q) (x : CoreNext) (f : Heap → CoreNext) → A x (f p.state.heap) → A x (f q.state.heap)
  at_heap p q b x f h = subst (λ heap. A x (f heap)) (sym (k.heap p q b)) h

  pub under_at_heap : (s u : CoreState) (b : U s u) (x : CoreNext) (f : Heap → CoreNext) → A x (f s.heap) → A x (f u.heap)
  under_at_heap s u b x f h = subst (λ heap. A x (f heap)) (sym (k.under_heap s u b)) h

  -- ---- ways on

  pub went : (p q : Along) (c : Current Mark) → B p q → A (goes c p.links p.state) (goes c q.links q.state)
  went p q c b = (_, refl, k.goes p q c b)

  pub went_heap : (p q : Along) (c : Current Mark) (h : Heap) → B p q → A (goes c p.links (with_heap h p.state)) (goes c q.links (with_heap h q.state))
  went_heap p q c h b = went (along_heap h p) (along_heap h q) c (k.heaps p q h b)

  pub raised : (p q : Along) (kind : ErrorKind) → B p q → A (raises kind p.state) (raises kind q.state)
  raised p q kind b = at_heap p q b (raises kind p.state) (λ h. hands (Throws (value.Object (next_id h))) (with_heap (with_error h kind) q.state))
      (_, refl, k.throws (along_heap (with_error p.state.heap kind) p) (along_heap (with_error p.state.heap kind) q) (value.Object (next_id p.state.heap)) (k.heaps p q (with_error p.state.heap kind) b))

  pub under_raised : (s u : CoreState) (kind : ErrorKind) → U s u → A (raises kind s) (raises kind u)
  under_raised s u kind b = under_at_heap s u b (raises kind s) (λ h. hands (Throws (value.Object (next_id h))) (with_heap (with_error h kind) u))
      (_, refl, k.under_throws (with_heap (with_error s.heap kind) s) (with_heap (with_error s.heap kind) u) (value.Object (next_id s.heap)) (k.under_heaps s u (with_error s.heap kind) b))

  pub operated : (p q : Along) (f : LinkFrame) (n : ℕ) (base : Value) (vs : List Value) → B p q → A (operates (link_frame f p.links) n base vs p.state) (operates (link_frame f q.links) n base vs q.state)
  operated p q f n base vs b = (_, refl, k.turns _ _ None (operation n base vs) (k.frames p q f b))

  pub gave : (p q : Along) (f : LinkFrame) (v : CoreValue Mark) → B p q → A (hands (Gives v) (pushed (link_frame f p.links) p.state)) (hands (Gives v) (pushed (link_frame f q.links) q.state))
  gave p q f v b = (_, refl, k.gives _ _ v (k.frames p q f b))

  pub called : (p q : Along) (c : Call) → B p q → A (calls (link_frame OfAfter p.links) c p.state) (calls (link_frame OfAfter q.links) c q.state)
  called p q c b = (_, refl, k.calls _ _ c (k.frames p q OfAfter b))

  pub reply_given : (s u : CoreState) (r : Reply) → U s u → R (with_control (Hand (reply_of r)) s) (with_control (Hand (reply_of r)) u)
  reply_given s u (reply.Give p) b = k.gives s u (User (of_prim p)) b
  reply_given s u (reply.Throw p) b = k.under_throws s u (of_prim p) b

  pub hosted : (s u : CoreState) (n : ℕ) (site : Option Site) (o : Option (List Primitive)) → U s u → A (asks_host n (or_else site (place_of s)) s o) (asks_host n (or_else site (place_of u)) u o)
  hosted s u n site None b = under_raised s u TypeError b
  hosted s u n site (Some args) b =
      (_, ap (λ at. asks_host n (or_else site at) u (Some args)) (k.under_place s u b), λ r. reply_given s u r b)

  -- ---- operators

  operate_alike : (p q : Along) (f : LinkFrame) (o : Binary) (v w : Value) → B p q → A (operate (link_frame f p.links) o v w p.state) (operate (link_frame f q.links) o v w q.state)
  unfolding operate
  operate_alike p q f binary.Same v w b = gave p q f _ b
  operate_alike p q f binary.NotSame v w b = gave p q f _ b
  operate_alike p q f o v w b = operated p q f (binary_number o) v (w ∷ []) b

  one_alike : (p q : Along) (o : Unary) (v : Value) → B p q → A (operate_one p.links o v p.state) (operate_one q.links o v q.state)
  unfolding operate_one
  one_alike p q unary.Void v b = went p q _ b
  one_alike p q unary.Typeof v b = at_heap p q b (goes (Has (User (value.Text (type_name p.state.heap v)))) p.links p.state) (λ h. goes (Has (User (value.Text (type_name h v)))) q.links q.state) (went p q (Has (User (value.Text (type_name p.state.heap v)))) b)
  one_alike p q unary.Not v b = went p q _ b
  one_alike p q unary.Plus v b = operated p q OfAfter number.to_number_number v [] b
  one_alike p q unary.Minus v b = operated p q OfAfter number.negate_number v [] b
  one_alike p q unary.BitNot v b = operated p q OfAfter number.invert_number v [] b

  abbrev two_at : Binary → Value → Along → Value → CoreNext
  two_at o v p w = operate (After p.links) o v w p.state

  abbrev operator_at : Binary → List (CoreValue Mark) → Along → Value → CoreNext
  operator_at o vs p v = with_option (single_user vs) p.state (two_at o v p)

  operator_alike : (p q : Along) (o : Binary) (vs : List (CoreValue Mark)) (v : Value) → B p q → A (operator_at o vs p v) (operator_at o vs q v)
  operator_alike p q o vs v b = maybe (single_user vs) p.state q.state (two_at o v p) (two_at o v q) (λ w. operate_alike p q OfAfter o v w b)

  abbrev one_at : Unary → Along → Value → CoreNext
  one_at o p v = operate_one p.links o v p.state

  abbrev on_at : Along → CoreValue Mark → CoreNext
  on_at p v = goes (Has v) p.links p.state

  -- ---- calls and constructions

  pub call_alike : (p q : Along) (o : CoreOp) (site : Option Site) (c d : Current Mark) (vs : List (CoreValue Mark)) (xs : List CoreExpr) (args : List Value) → B p q
      → A (call_current (strict o site d vs xs p.links) p.state args c) (call_current (strict o site d vs xs q.links) q.state args c)
  call_alike p q o site (Has (User f)) d vs xs args b = called p q (due f value.Undefined args site) b
  call_alike p q o site (Method f receiver) d vs xs args b = called p q (due f receiver args site) b
  call_alike p q o site (Hosted n) d vs xs args b = hosted (pushed (After p.links) p.state) (pushed (After q.links) q.state) n site (to_prims args) (k.frames p q OfAfter b)
  call_alike p q o site (Has (Extra m)) d vs xs args b = tt
  call_alike p q o site (Reference base key) d vs xs args b = tt
  call_alike p q o site (Old base key v) d vs xs args b = tt

  abbrev call_at : CoreOp → Option Site → Current Mark → List (CoreValue Mark) → List CoreExpr → Along → List Value → CoreNext
  call_at o site c vs xs p args = call_current (strict o site c vs xs p.links) p.state args c

  abbrev due_at : Value → List Value → Option Site → Along → Value → CoreNext
  due_at receiver args site p f = calls (After p.links) (due f receiver args site) p.state

  with_alike : (p q : Along) (o : CoreOp) (site : Option Site) (c : Current Mark) (vs : List (CoreValue Mark)) (xs : List CoreExpr) (args : List Value) → B p q
      → A (call_with (strict o site c vs xs p.links) p.state args) (call_with (strict o site c vs xs q.links) q.state args)
  with_alike p q o site c vs xs [] b = tt
  with_alike p q o site c vs xs (receiver ∷ args) b =
      maybe (user_at c) p.state q.state (due_at receiver args site p) (due_at receiver args site q) (λ f. called p q (due f receiver args site) b)

  pub construct_alike : (s u : CoreState) (f : Value) (args : List Value) (site : Option Site) (c : Constructor) → U s u → A (construct_by f args site s c) (construct_by f args site u c)
  unfolding construct_by
  construct_alike s u f args site (constructor.Runs id) b =
      (_, refl, k.turns (pushed (Making f args f) s) (pushed (Making f args f) u) None (operation number.prototype_of_number f (value.Object object_prototype ∷ [])) (k.under_frames s u (Making f args f) tt b))
  construct_alike s u f args site (constructor.MakesError n) b = (_, refl, k.turns s u site (begun n value.Undefined args) b)
  construct_alike s u f args site (constructor.Leaves x) b = tt
  construct_alike s u f args site constructor.Fails b = under_raised s u TypeError b

  abbrev construct_at : Value → Option Site → Along → List Value → CoreNext
  construct_at f site p args = construct_by f args site (pushed (After p.links) p.state) (constructor_of Sixth p.state.heap f)

  abbrev new_at : List (CoreValue Mark) → Option Site → Along → Value → CoreNext
  new_at vs site p f = with_option (users vs) p.state (construct_at f site p)

  new_alike : (p q : Along) (vs : List (CoreValue Mark)) (site : Option Site) (f : Value) → B p q → A (new_at vs site p f) (new_at vs site q f)
  new_alike p q vs site f b = maybe (users vs) p.state q.state (construct_at f site p) (construct_at f site q) (λ args.
      at_heap p q b (construct_at f site p args) (λ heap. construct_by f args site (pushed (After q.links) q.state) (constructor_of Sixth heap f))
      (construct_alike (pushed (After p.links) p.state) (pushed (After q.links) q.state) f args site (constructor_of Sixth p.state.heap f) (k.frames p q OfAfter b)))

  -- ---- properties

  abbrev member_at : List ℕ → Along → Value → CoreNext
  member_at units p v = if is_nothing v then raises TypeError p.state else goes (named v units) p.links p.state

  member_alike : (p q : Along) (units : List ℕ) (v : Value) → B p q → A (member_at units p v) (member_at units q v)
  member_alike p q units v b = either_way (is_nothing v) (raises TypeError p.state) (goes (named v units) p.links p.state) (raises TypeError q.state) (goes (named v units) q.links q.state) (raised p q TypeError b) (went p q (named v units) b)

  abbrev keyed_at : Value → Along → Value → CoreNext
  keyed_at v p w = operates (Keyed v p.links) number.to_key_number v (w ∷ []) p.state

  abbrev index_at : List (CoreValue Mark) → Along → Value → CoreNext
  index_at vs p v = with_option (single_user vs) p.state (keyed_at v p)

  index_alike : (p q : Along) (vs : List (CoreValue Mark)) (v : Value) → B p q → A (index_at vs p v) (index_at vs q v)
  index_alike p q vs v b = maybe (single_user vs) p.state q.state (keyed_at v p) (keyed_at v q) (λ w. operated p q (OfKeyed v) number.to_key_number v (w ∷ []) b)

  abbrev put_at : Value → PropertyKey → Along → Value → CoreNext
  put_at base key p v = puts v base key v p.links p.state

  put_alike : (p q : Along) (o : CoreOp) (site : Option Site) (c d : Current Mark) (vs : List (CoreValue Mark)) (xs : List CoreExpr) → B p q
      → A (put (strict o site d vs xs p.links) p.state c) (put (strict o site d vs xs q.links) q.state c)
  put_alike p q o site (Reference base key) d vs xs b =
      maybe (single_user vs) p.state q.state (put_at base key p) (put_at base key q) (λ v. operated p q (OfBehind (User v)) number.put_number base (key_operand key ∷ v ∷ []) b)
  put_alike p q o site c d vs xs b = tt

  delete_alike : (p q : Along) (o : CoreOp) (site : Option Site) (c d : Current Mark) (vs : List (CoreValue Mark)) (xs : List CoreExpr) → B p q
      → A (delete (strict o site d vs xs p.links) p.state c) (delete (strict o site d vs xs q.links) q.state c)
  delete_alike p q o site (Reference base key) d vs xs b = operated p q OfAfter number.delete_number base (key_operand key ∷ []) b
  delete_alike p q o site c d vs xs b = tt

  abbrev update_at : Binary → Value → PropertyKey → Value → Along → Value → CoreNext
  update_at two base key v p w = operate (Store base key p.links) two v w p.state

  update_alike : (p q : Along) (two : Binary) (o : CoreOp) (site : Option Site) (c d : Current Mark) (vs : List (CoreValue Mark)) (xs : List CoreExpr) → B p q
      → A (update two (strict o site d vs xs p.links) p.state c) (update two (strict o site d vs xs q.links) q.state c)
  update_alike p q two o site (Old base key v) d vs xs b =
      maybe (single_user vs) p.state q.state (update_at two base key v p) (update_at two base key v q) (λ w. operate_alike p q (OfStore base key) two v w b)
  update_alike p q two o site c d vs xs b = tt

  step_alike : (p q : Along) (one : Update) (o : CoreOp) (site : Option Site) (c d : Current Mark) (vs : List (CoreValue Mark)) (xs : List CoreExpr) → B p q
      → A (step_at one (strict o site d vs xs p.links) p.state c) (step_at one (strict o site d vs xs q.links) q.state c)
  step_alike p q one o site (Old base key v) d vs xs b = operated p q (OfStepAt one base key) number.to_number_number v [] b
  step_alike p q one o site c d vs xs b = tt

  defined_alike : (p q : Along) (c : Current Mark) (w : Write) → B p q → A (defined c p.links p.state w) (defined c q.links q.state w)
  defined_alike p q c write.Done b = went p q c b
  defined_alike p q c (write.Leaves x) b = tt
  defined_alike p q c write.OutOfRange b = raised p q RangeError b
  defined_alike p q c w b = raised p q TypeError b

  defines_alike : (core core2 : Core) (p q : Along) (id : ObjId) (key : PropertyKey) (property : Heap → Prop) (c : Current Mark) → B p q
      → A (defines (rows core) id key (property p.state.heap) c p.links p.state) (defines (rows core2) id key (property q.state.heap) c q.links q.state)
  defines_alike core core2 p q id key property c b =
      let w = define_key Sixth p.state.heap id key (property p.state.heap) in
      at_heap p q b (defines (rows core) id key (property p.state.heap) c p.links p.state)
      (λ h. defined c q.links (with_heap (define_key Sixth h id key (property h)).after q.state) (define_key Sixth h id key (property h)).answer)
      (defined_alike (along_heap w.after p) (along_heap w.after q) c w.answer (k.heaps p q w.after b))

  abbrev define_at : Core → List ℕ → Current Mark → ObjId → Along → Value → CoreNext
  define_at core units c id p v = defines (rows core) id (key_named (rows core) id units) (Plain v true true) c p.links p.state

  abbrev defines_at : Core → List ℕ → List (CoreValue Mark) → Current Mark → Along → ObjId → CoreNext
  defines_at core units vs c p id = with_option (single_user vs) p.state (define_at core units c id p)

  define_alike : (core core2 : Core) (p q : Along) (units : List ℕ) (vs : List (CoreValue Mark)) (c : Current Mark) (id : ObjId) → B p q → A (defines_at core units vs c p id) (defines_at core2 units vs c q id)
  define_alike core core2 p q units vs c id b =
      maybe (single_user vs) p.state q.state (define_at core units c id p) (define_at core2 units c id q) (λ v. defines_alike core core2 p q id (key_named (rows core) id units) (λ heap. Plain v true true) c b)

  abbrev half_at : Core → List ℕ → Bool → CoreOp → Option Site → Current Mark → List (CoreValue Mark) → List CoreExpr → ObjId → Along → Value → CoreNext
  half_at core units is_setter o site c vs xs id p v = accessor_defined (rows core) id units is_setter (strict o site c vs xs p.links) p.state v

  half_alike : (core core2 : Core) (p q : Along) (id : ObjId) (units : List ℕ) (is_setter : Bool) (o : CoreOp) (site : Option Site) (c : Current Mark) (vs : List (CoreValue Mark)) (xs : List CoreExpr) (v : Value) → B p q
      → A (half_at core units is_setter o site c vs xs id p v) (half_at core2 units is_setter o site c vs xs id q v)
  half_alike core core2 p q id units is_setter o site c vs xs (value.Object f) b =
      let key = key_named (rows core) id units in
      defines_alike core core2 p q id key (λ h. with_half h id key f is_setter) c b
  half_alike core core2 p q id units is_setter o site c vs xs v b = tt

  abbrev accessor_at : Core → List ℕ → Bool → CoreOp → Option Site → Current Mark → List (CoreValue Mark) → List CoreExpr → Along → ObjId → CoreNext
  accessor_at core units is_setter o site c vs xs p id = with_option (single_user vs) p.state (half_at core units is_setter o site c vs xs id p)

  accessor_alike : (core core2 : Core) (p q : Along) (units : List ℕ) (is_setter : Bool) (o : CoreOp) (site : Option Site) (c : Current Mark) (vs : List (CoreValue Mark)) (xs : List CoreExpr) (id : ObjId) → B p q
      → A (accessor_at core units is_setter o site c vs xs p id) (accessor_at core2 units is_setter o site c vs xs q id)
  accessor_alike core core2 p q units is_setter o site c vs xs id b =
      maybe (single_user vs) p.state q.state (half_at core units is_setter o site c vs xs id p) (half_at core2 units is_setter o site c vs xs id q) (λ v. half_alike core core2 p q id units is_setter o site c vs xs v b)

  -- ---- literals

  grown_alike : (p q : Along) (list : CoreList) (v : Value) → B p q → A (grown list v p.links p.state) (grown list v q.links q.state)
  grown_alike p q (OfArray id) v b = at_heap p q b (grown (OfArray id) v p.links p.state) (λ h. goes (Has (User (value.Object id))) q.links (with_heap (add_element h id v) q.state))
      (went_heap p q (Has (User (value.Object id))) (add_element p.state.heap id v) b)
  grown_alike p q (OfArguments vs) v b = went p q _ b

  abbrev grown_at : CoreList → Along → Value → CoreNext
  grown_at list p v = grown list v p.links p.state

  abbrev row_at : List (CoreValue Mark) → Along → CoreList → CoreNext
  row_at vs p list = with_option (single_user vs) p.state (grown_at list p)

  row_alike : (p q : Along) (c : Current Mark) (vs : List (CoreValue Mark)) → B p q → A (with_option (list_current c) p.state (row_at vs p)) (with_option (list_current c) q.state (row_at vs q))
  row_alike p q c vs b = maybe (list_current c) p.state q.state (row_at vs p) (row_at vs q) (λ list. maybe (single_user vs) p.state q.state (grown_at list p) (grown_at list q) (λ v. grown_alike p q list v b))

  abbrev add_at : Current Mark → ObjId → Along → Value → CoreNext
  add_at c id p v = goes c p.links (with_heap (add_element p.state.heap id v) p.state)

  abbrev adds_at : List (CoreValue Mark) → Current Mark → Along → ObjId → CoreNext
  adds_at vs c p id = with_option (single_user vs) p.state (add_at c id p)

  add_alike : (p q : Along) (c : Current Mark) (vs : List (CoreValue Mark)) (id : ObjId) → B p q → A (adds_at vs c p id) (adds_at vs c q id)
  add_alike p q c vs id b = maybe (single_user vs) p.state q.state (add_at c id p) (add_at c id q) (λ v.
      at_heap p q b (add_at c id p v) (λ h. goes c q.links (with_heap (add_element h id v) q.state)) (went_heap p q c (add_element p.state.heap id v) b))

  abbrev hole_at : Current Mark → Along → ObjId → CoreNext
  hole_at c p id = goes c p.links (with_heap (add_hole p.state.heap id) p.state)

  holed : (p q : Along) (c : Current Mark) (id : ObjId) → B p q → A (hole_at c p id) (hole_at c q id)
  holed p q c id b = at_heap p q b (hole_at c p id) (λ h. goes c q.links (with_heap (add_hole h id) q.state)) (went_heap p q c (add_hole p.state.heap id) b)

  element_alike : (core core2 : Core) (p q : Along) (site : Option Site) (c : Current Mark) (vs : List (CoreValue Mark)) (xs : List CoreExpr) → B p q
      → A (element (rows core) (strict op.Element site c vs xs p.links) p.state c) (element (rows core2) (strict op.Element site c vs xs q.links) q.state c)
  element_alike core core2 p q site (Has (Extra m)) vs xs b = row_alike p q (Has (Extra m)) vs b
  element_alike core core2 p q site c vs xs b = an_object c p.state q.state (adds_at vs c p) (adds_at vs c q) (λ id. add_alike p q c vs id b)

  hole_alike : (core core2 : Core) (p q : Along) (site : Option Site) (c : Current Mark) (vs : List (CoreValue Mark)) (xs : List CoreExpr) → B p q
      → A (hole (rows core) (strict op.Hole site c vs xs p.links) p.state c) (hole (rows core2) (strict op.Hole site c vs xs q.links) q.state c)
  hole_alike core core2 p q site (Has (Extra m)) vs xs b = tt
  hole_alike core core2 p q site c vs xs b = an_object c p.state q.state (hole_at c p) (hole_at c q) (λ id. holed p q c id b)

  -- ---- each operation

  pub acts : (core core2 : Core) (o : CoreOp) (site : Option Site) (c : Current Mark) (vs : List (CoreValue Mark)) (xs : List CoreExpr) (p q : Along) → IsUntouched o → B p q
      → A (act_by (rows core) core (strict o site c vs xs p.links) p.state o) (act_by (rows core2) core2 (strict o site c vs xs q.links) q.state o)
  unfolding act_by IsUntouched
  acts core core2 (op.Member key) site c vs xs p q h b = maybe (user_at c) p.state q.state (member_at (key_units key) p) (member_at (key_units key) q) (λ v. member_alike p q (key_units key) v b)
  acts core core2 op.Index site c vs xs p q h b = maybe (user_at c) p.state q.state (index_at vs p) (index_at vs q) (λ v. index_alike p q vs v b)
  acts core core2 op.Call site c vs xs p q h b = maybe (users vs) p.state q.state (call_at op.Call site c vs xs p) (call_at op.Call site c vs xs q) (λ args. call_alike p q op.Call site c c vs xs args b)
  acts core core2 op.CallWith site c vs xs p q h b = maybe (users vs) p.state q.state (call_with (strict op.CallWith site c vs xs p.links) p.state) (call_with (strict op.CallWith site c vs xs q.links) q.state) (λ args. with_alike p q op.CallWith site c vs xs args b)
  acts core core2 op.New site c vs xs p q h b = maybe (user_at c) p.state q.state (new_at vs site p) (new_at vs site q) (λ f. new_alike p q vs site f b)
  acts core core2 op.Put site c vs xs p q h b = put_alike p q op.Put site c c vs xs b
  acts core core2 op.Delete site c vs xs p q h b = delete_alike p q op.Delete site c c vs xs b
  acts core core2 (op.Update two) site c vs xs p q h b = update_alike p q two (op.Update two) site c c vs xs b
  acts core core2 (op.Step one) site c vs xs p q h b = step_alike p q one (op.Step one) site c c vs xs b
  acts core core2 (op.Operator two) site c vs xs p q h b = maybe (user_at c) p.state q.state (operator_at two vs p) (operator_at two vs q) (λ v. operator_alike p q two vs v b)
  acts core core2 (op.Unary one) site c vs xs p q h b = maybe (user_at c) p.state q.state (one_at one p) (one_at one q) (λ v. one_alike p q one v b)
  acts core core2 op.Then site c vs xs p q h b = maybe (single vs) p.state q.state (on_at p) (on_at q) (λ v. went p q (Has v) b)
  acts core core2 op.Element site c vs xs p q h b = element_alike core core2 p q site c vs xs b
  acts core core2 op.Hole site c vs xs p q h b = hole_alike core core2 p q site c vs xs b
  acts core core2 (op.Define key) site c vs xs p q h b = an_object c p.state q.state (defines_at core (key_units key) vs c p) (defines_at core2 (key_units key) vs c q) (λ id. define_alike core core2 p q (key_units key) vs c id b)
  acts core core2 (op.Getter key) site c vs xs p q h b = an_object c p.state q.state (accessor_at core (key_units key) false (op.Getter key) site c vs xs p) (accessor_at core2 (key_units key) false (op.Getter key) site c vs xs q) (λ id. accessor_alike core core2 p q (key_units key) false (op.Getter key) site c vs xs id b)
  acts core core2 (op.Setter key) site c vs xs p q h b = an_object c p.state q.state (accessor_at core (key_units key) true (op.Setter key) site c vs xs p) (accessor_at core2 (key_units key) true (op.Setter key) site c vs xs q) (λ id. accessor_alike core core2 p q (key_units key) true (op.Setter key) site c vs xs id b)
  acts core core2 op.CallList site c vs xs p q h b = absurd h
  acts core core2 op.CallListWith site c vs xs p q h b = absurd h
  acts core core2 op.NewList site c vs xs p q h b = absurd h
  acts core core2 (op.Set x) site c vs xs p q h b = absurd h
  acts core core2 (op.Init x) site c vs xs p q h b = absurd h
  acts core core2 (op.StepVariable u x) site c vs xs p q h b = absurd h
  acts core core2 op.Content site c vs xs p q h b = absurd h
  acts core core2 op.SetContent site c vs xs p q h b = absurd h
  acts core core2 (op.Primitive r) site c vs xs p q h b = absurd h
  acts core core2 op.Yield site c vs xs p q h b = absurd h
  acts core core2 op.Delegate site c vs xs p q h b = absurd h
