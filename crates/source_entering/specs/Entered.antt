-- How a function of the program is entered (ECMA-262, 6th edition, 8.1.1.3, 9.2.1, 14.4.11).
use Rattle.std.specs.Prelude.{List, [], length, ◌∷◌}
use Rattle.es_value.specs.declared.value.Value.{Value}
use Rattle.es_value.specs.declared.value.Value.TheVariants as value
use Rattle.es_realm.specs.Names.{generator_prototype}
use Rattle.es_operations.specs.Numbers.{prototype_of_number}
use Rattle.es6_ast.specs.declared.tree.Statement.{Statement}
use Rattle.source_meaning.specs.Calls.{value_of_target}
use Rattle.source_meaning.specs.State.{Call, GeneratorPrototype, Own, State}
use Rattle.source_meaning.specs.Steps.{Next, operates}

-- what a function that is no arrow has as its own
abbrev pub own_anew : Value → Call → State → Own
own_anew home c st =
    record { this_record = length st.records; callee = c.function; home = home; target = value_of_target c.target }

-- behind the parameters of a generator
abbrev pub reads_prototype : List Statement → State → Next
reads_prototype body st =
    operates (GeneratorPrototype body) prototype_of_number st.context.own.callee
    (value.Object generator_prototype ∷ []) st
