-- The object that links add to, as code finds it.
use Rattle.std.specs.Prelude.{Bool, List, None, Option, Some, false, true, ℕ}
use Rattle.es_value.specs.declared.value.ObjId.{ObjId}
use Rattle.es_value.specs.declared.value.Value.{Value}
use Rattle.es_value.specs.declared.value.Value.TheVariants as value
use Rattle.es_operations.specs.Making.{with_half}
use Rattle.core_ast.specs.declared.tree.CoreLink.{CoreLink}
use Rattle.core_meaning.specs.Properties.{defines, key_named}
use Rattle.core_meaning.specs.Rows.{Next, Rows, unlawful}
use Rattle.core_meaning.specs.State.{Current, Extra, Has, Sorts, State, User}

abbrev pub object_of : {M : Type 0} → Current M → Option ObjId
object_of (Has (User (value.Object id))) = Some id
object_of c = None

abbrev pub is_extra : {M : Type 0} → Current M → Bool
is_extra (Has (Extra m)) = true
is_extra c = false

-- a half of an accessor is defined, and the value goes on
abbrev pub half_defined : {s : Sorts} {S : Type 0} → Rows s S → ObjId → List ℕ → Bool → ObjId → Current s.Mark → List CoreLink → State s S → Next s S
half_defined rows id units is_setter f current links st =
    let k = key_named rows id units in
    defines rows id k (with_half st.heap id k f is_setter) current links st

abbrev pub half_given : {s : Sorts} {S : Type 0} → Rows s S → ObjId → List ℕ → Bool → Current s.Mark → List CoreLink → State s S → Value → Next s S
half_given rows id units is_setter current links st (value.Object f) = half_defined rows id units is_setter f current links st
half_given rows id units is_setter current links st v = unlawful st
