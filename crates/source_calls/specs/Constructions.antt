-- Constructions by a function of the program (ECMA-262, 6th edition, 9.2.2, step 5).
use Rattle.std.specs.Prelude.{List, Some, [], length, ◌∷◌}
use Rattle.es_value.specs.declared.value.Value.{Value}
use Rattle.es_value.specs.declared.value.Value.TheVariants as value
use Rattle.es_realm.specs.Names.{object_prototype}
use Rattle.es_operations.specs.Numbers.{prototype_of_number}
use Rattle.source_meaning.specs.State.{Derived, Making, State}
use Rattle.source_meaning.specs.Steps.{Next, calls, due, operates}

-- a derived constructor is called, and its parent makes the object
abbrev pub constructs_derived : Value → List Value → Value → State → Next
constructs_derived f args target st = calls (Derived (length st.records)) (due f value.Undefined args (Some target)) st

-- the prototype is read of the object that is made here
abbrev pub constructs_base : Value → List Value → Value → State → Next
constructs_base f args target st =
    operates (Making f args target) prototype_of_number target (value.Object object_prototype ∷ []) st
