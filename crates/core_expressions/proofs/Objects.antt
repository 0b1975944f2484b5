-- The object that links add to, as code finds it.
use Rattle.std.proofs.Common.{◌≡◌, ◌∙◌, ℕ, Bool, List, None, Option, Some, false, refl}
use Rattle.es_value.specs.declared.value.ObjId.{ObjId}
use Rattle.es_value.specs.declared.value.Value.{Value}
use Rattle.es_value.specs.declared.value.Value.TheVariants as value
use Rattle.core_meaning.specs.Expressions.{single_user, with_part}
use Rattle.core_meaning.specs.Properties.{accessor, accessor_defined, add_element, add_hole, element, has_object, hole, with_object}
use Rattle.core_meaning.specs.Rows.{Next, Rows, with_option}
use Rattle.core_meaning.specs.State.{Current, Extra, Has, Hosted, Method, Old, Reference, Sorts, State, Strict, User}
use Rattle.core_expressions.specs.Objects.{half_given, is_extra, object_of}

pub object_by : {s : Sorts} {S : Type 0} (c : Current s.Mark) (st : State s S) (f : ObjId → Next s S) → with_object c st f ≡ with_option (object_of c) st f
object_by (Has (User value.Undefined)) st f = refl
object_by (Has (User value.Null)) st f = refl
object_by (Has (User (value.Bool b))) st f = refl
object_by (Has (User (value.Number n))) st f = refl
object_by (Has (User (value.Text us))) st f = refl
object_by (Has (User (value.Object id))) st f = refl
object_by (Has (Extra m)) st f = refl
object_by (Reference b k) st f = refl
object_by (Old b k v) st f = refl
object_by (Method g v) st f = refl
object_by (Hosted n) st f = refl

element_of : {s : Sorts} {S : Type 0} (rows : Rows s S) (p : Strict s.Mark) (st : State s S) (c : Current s.Mark) → is_extra c ≡ false → element rows p st c ≡ with_object c st (λ id. with_part p st (λ v. has_object p st (add_element st.heap id v)))
element_of rows p st (Has (User v)) e = refl
element_of rows p st (Has (Extra m)) e = cc
element_of rows p st (Reference b k) e = refl
element_of rows p st (Old b k v) e = refl
element_of rows p st (Method g v) e = refl
element_of rows p st (Hosted n) e = refl

pub element_by : {s : Sorts} {S : Type 0} (rows : Rows s S) (p : Strict s.Mark) (st : State s S) (c : Current s.Mark) → is_extra c ≡ false → element rows p st c ≡ with_option (object_of c) st (λ id. with_part p st (λ v. has_object p st (add_element st.heap id v)))
element_by rows p st c e = rw (element_of rows p st c e) (object_by c st (λ id. with_part p st (λ v. has_object p st (add_element st.heap id v))))

hole_of : {s : Sorts} {S : Type 0} (rows : Rows s S) (p : Strict s.Mark) (st : State s S) (c : Current s.Mark) → is_extra c ≡ false → hole rows p st c ≡ with_object c st (λ id. has_object p st (add_hole st.heap id))
hole_of rows p st (Has (User v)) e = refl
hole_of rows p st (Has (Extra m)) e = cc
hole_of rows p st (Reference b k) e = refl
hole_of rows p st (Old b k v) e = refl
hole_of rows p st (Method g v) e = refl
hole_of rows p st (Hosted n) e = refl

pub hole_by : {s : Sorts} {S : Type 0} (rows : Rows s S) (p : Strict s.Mark) (st : State s S) (c : Current s.Mark) → is_extra c ≡ false → hole rows p st c ≡ with_option (object_of c) st (λ id. has_object p st (add_hole st.heap id))
hole_by rows p st c e = rw (hole_of rows p st c e) (object_by c st (λ id. has_object p st (add_hole st.heap id)))

-- the same with equal continuations
option_by : {s : Sorts} {S A : Type 0} (o : Option A) (st : State s S) (f g : A → Next s S) → ((x : A) → f x ≡ g x) → with_option o st f ≡ with_option o st g
option_by None st f g e = refl
option_by (Some x) st f g e = e x

half_by : {s : Sorts} {S : Type 0} (rows : Rows s S) (id : ObjId) (units : List ℕ) (is_setter : Bool) (p : Strict s.Mark) (st : State s S) (v : Value) → accessor_defined rows id units is_setter p st v ≡ half_given rows id units is_setter p.current p.links st v
half_by rows id units is_setter p st value.Undefined = refl
half_by rows id units is_setter p st value.Null = refl
half_by rows id units is_setter p st (value.Bool b) = refl
half_by rows id units is_setter p st (value.Number n) = refl
half_by rows id units is_setter p st (value.Text us) = refl
half_by rows id units is_setter p st (value.Object f) = refl

pub accessor_by : {s : Sorts} {S : Type 0} (rows : Rows s S) (units : List ℕ) (is_setter : Bool) (p : Strict s.Mark) (st : State s S) → accessor rows units is_setter p st ≡ with_option (object_of p.current) st (λ id. with_part p st (half_given rows id units is_setter p.current p.links st))
accessor_by rows units is_setter p st =
    object_by p.current st (λ id. with_part p st (accessor_defined rows id units is_setter p st))
    ∙ option_by (object_of p.current) st (λ id. with_part p st (accessor_defined rows id units is_setter p st)) (λ id. with_part p st (half_given rows id units is_setter p.current p.links st)) (λ id. option_by (single_user p.values) st (accessor_defined rows id units is_setter p st) (half_given rows id units is_setter p.current p.links st) (half_by rows id units is_setter p st))
