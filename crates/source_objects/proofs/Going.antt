-- What a definition of a property is by its parts, and what goes on behind it: whatever comes next, the properties that are left.
use Rattle.std.proofs.Common.{◌≡◌, Err, List, None, Ok, Option, Result, Some, ◌∙◌, ◌∷◌, refl, subst, sym, true, ℕ}
use Rattle.es_value.specs.declared.value.ObjId.{ObjId}
use Rattle.es_value.specs.declared.value.Value.{Value}
use Rattle.es_value.specs.declared.value.Value.TheVariants as value
use Rattle.es_heap.specs.declared.key.Key.{Key as PropertyKey}
use Rattle.es_heap.specs.declared.key.Key.TheVariants.{Text}
use Rattle.es_heap.specs.declared.prop.Prop.{Prop}
use Rattle.es_heap.specs.declared.prop.Prop.TheVariants.{Plain}
use Rattle.es_realm.specs.Access.{define_key}
use Rattle.es_realm.specs.declared.access.Write.{Write}
use Rattle.es_realm.specs.declared.edition.Edition.TheVariants.{Sixth}
use Rattle.es_text.specs.declared.Span.{Span}
use Rattle.es6_ast.specs.declared.tree.Argument.TheOpen as layer
use Rattle.es6_ast.specs.declared.tree.Expression.{Expression}
use Rattle.es6_ast.specs.declared.tree.Identifier.{Identifier}
use Rattle.es6_ast.specs.declared.tree.Key.{Key, out-Key}
use Rattle.es6_ast.specs.declared.tree.Method.{Method, out-Method}
use Rattle.es6_ast.specs.declared.tree.Property.{Property, out-Property}
use Rattle.source_keys.proofs.FoundKeys.{with_computed, with_known}
use Rattle.source_keys.specs.Keys.{found_key}
use Rattle.source_keys.specs.declared.keys.FoundKey.TheVariants.{Computed, Known}
use Rattle.source_meaning.specs.Functions.{Given, closed}
use Rattle.source_meaning.specs.Objects.{after_definition, define_method, defines, method_closed, method_named, method_property, properties_on, property_valued, value_named}
use Rattle.source_meaning.specs.References.{reads, with_key}
use Rattle.source_meaning.specs.State.{KeyValue, MethodCode, OfMethod, OfName, OfValue, PropertyValue, State, Work}
use Rattle.source_meaning.specs.Steps.{Next, begins, impossible, with_heap}
use Rattle.source_meaning.specs.Trees.{name_units}
use Rattle.source_moves.specs.Moves.{next_of}
use Rattle.source_moves.specs.declared.moves.Move.{Move}
use Rattle.source_objects.specs.Definitions.{Defines, method_first, property_first}
use Rattle.source_state.specs.declared.state.State.{State as StateOf}

module _ {W E : Type 0} (seen : W → Work) (r : Result (Option Move) E) (st : StateOf W) where
  pub defined_by : (id : ObjId) (k : PropertyKey) (p : Prop) (s after : State) (write : Write) → write ≡ (define_key Sixth s.heap id k p).answer → after ≡ with_heap (define_key Sixth s.heap id k p).after s → Defines seen r st (after_definition write after) → Defines seen r st (defines id k p s)
  defined_by id k p s after write e f h =
      let w = define_key Sixth s.heap id k p in
      let P : Write → Type 0 = λ x. Defines seen r st (after_definition x (with_heap w.after s)) in
      let Q : State → Type 0 = λ x. Defines seen r st (after_definition write x) in
      subst P e (subst Q f h)

  pub method_by : (m : Method) (id : ObjId) (k : PropertyKey) (s : State) (g : Given) → g ≡ closed (MethodCode (out-Method m).function) (value.Object id) s → Defines seen r st (defines id k (method_property (out-Method m).kind id k g.value g.state) g.state) → Defines seen r st (define_method m id k s)
  method_by m id k s g e h =
      let P : Given → Type 0 = λ x. Defines seen r st (method_closed (out-Method m).kind id k x) in
      subst P e h

  pub method_known : (id : ObjId) (m : Method) (ps : List Property) (s : State) (p : PropertyKey) → Known p ≡ found_key s (out-Key (out-Method m).key) → Defines seen r st (define_method m id p s) → Defines seen r st (method_first id m ps s)
  unfolding method_first
  method_known id m ps s p e h = known r h
    where
      on_known : (next : State → Next) → with_key (out-Method m).key (OfMethod id m ps) s (λ k named. define_method m id k named next) ≡ define_method m id p s next
      on_known next = with_known (out-Method m).key (OfMethod id m ps) s (λ k named. define_method m id k named next) p e

      known : (o : Result (Option Move) E) → Defines seen o st (define_method m id p s) → Defines seen o st (λ next. with_key (out-Method m).key (OfMethod id m ps) s (λ k named. define_method m id k named next))
      known (Ok None) d = λ next. on_known next ∙ d next
      known (Ok (Some n)) d = λ next. on_known next ∙ d next
      known (Err x) d = tt

pub method_computed : (id : ObjId) (m : Method) (ps : List Property) (s : State) (x : Expression) (next : State → Next) → Computed x ≡ found_key s (out-Key (out-Method m).key) → method_first id m ps s next ≡ begins (KeyValue (OfMethod id m ps)) x s
unfolding method_first
method_computed id m ps s x next e =
    with_computed (out-Method m).key (OfMethod id m ps) s (λ k named. define_method m id k named next) x e

-- ---- the properties that are left

pub property_ends : (id : ObjId) (left : List Property) (p : Property) (ps : List Property) (s : State) (m : Move) (after : State) → left ≡ p ∷ ps → ((next : State → Next) → property_first id (out-Property p) ps s next ≡ next_of m after) → next_of m after ≡ properties_on id left s
unfolding property_first
property_ends id left p ps s m after e h = rw e (sym (h (properties_on id ps)))

pub property_done : (id : ObjId) (left : List Property) (p : Property) (ps : List Property) (s after : State) → left ≡ p ∷ ps → ((next : State → Next) → property_first id (out-Property p) ps s next ≡ next after) → properties_on id ps after ≡ properties_on id left s
unfolding property_first
property_done id left p ps s after e h = rw e (sym (h (properties_on id ps)))

pub method_ends : (id : ObjId) (m : Method) (ps : List Property) (k : PropertyKey) (s : State) (end : Move) (after : State) → ((next : State → Next) → define_method m id k s next ≡ next_of end after) → next_of end after ≡ method_named id m ps k s
method_ends id m ps k s end after h = sym (h (properties_on id ps))

pub method_done : (id : ObjId) (m : Method) (ps : List Property) (k : PropertyKey) (st after : State) → ((next : State → Next) → define_method m id k st next ≡ next after) → properties_on id ps after ≡ method_named id m ps k st
method_done id m ps k st after h = sym (h (properties_on id ps))

pub value_ends : (id : ObjId) (k : PropertyKey) (ps : List Property) (st : State) (v : Value) (end : Move) (after : State) → ((next : State → Next) → defines id k (Plain v true true) st next ≡ next_of end after) → next_of end after ≡ property_valued id k ps st v
value_ends id k ps st v end after h = sym (h (properties_on id ps))

pub value_done : (id : ObjId) (k : PropertyKey) (ps : List Property) (st : State) (v : Value) (after : State) → ((next : State → Next) → defines id k (Plain v true true) st next ≡ next after) → properties_on id ps after ≡ property_valued id k ps st v
value_done id k ps st v after h = sym (h (properties_on id ps))
