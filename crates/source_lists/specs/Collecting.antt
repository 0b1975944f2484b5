-- Lists as code adds to them (ECMA-262, 6th edition, 12.2.5.2, 12.3.6.1).
use Rattle.std.specs.Prelude.{List, None, Option, Some, [], ◌++◌, ◌∷◌}
use Rattle.es_value.specs.declared.value.Value.{Value}
use Rattle.es6_ast.specs.declared.tree.Argument.{Argument, out-Argument}
use Rattle.source_meaning.specs.Lists.{add_element, begin_part}
use Rattle.source_meaning.specs.State.{Collected, Listing, OfArguments, OfArray, State}
use Rattle.source_meaning.specs.Steps.{Next, impossible, with_heap}

-- the list with a value more, and the state with it: an array's elements stand in the heap
abbrev pub collected_with : Collected → Value → Collected
collected_with (OfArray id) v = OfArray id
collected_with (OfArguments use_ args) v = OfArguments use_ (args ++ v ∷ [])

abbrev pub state_with : Collected → Value → State → State
state_with (OfArray id) v st = with_heap (add_element st.heap id v) st
state_with (OfArguments use_ args) v st = st

-- a part that is there is begun
abbrev pub part_begun : Listing → State → Option Argument → Next
part_begun l st None = impossible st
part_begun l st (Some x) = begin_part l st (out-Argument x)
