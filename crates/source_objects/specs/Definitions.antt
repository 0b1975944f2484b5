-- How a definition of a property goes on.
use Rattle.std.specs.Prelude.{◌≡◌, Err, List, None, Ok, Option, Result, Some}
use Rattle.es_value.specs.declared.value.ObjId.{ObjId}
use Rattle.es6_ast.specs.Spans.{Open}
use Rattle.es6_ast.specs.declared.tree.Argument.TheOpen.{Property-F}
use Rattle.es6_ast.specs.declared.tree.ClassMember.{ClassMember, out-ClassMember}
use Rattle.es6_ast.specs.declared.tree.Method.{Method, out-Method}
use Rattle.es6_ast.specs.declared.tree.Property.{Property}
use Rattle.source_meaning.specs.Classes.{member_defined}
use Rattle.source_meaning.specs.Objects.{define_method, one_property}
use Rattle.source_meaning.specs.References.{with_key}
use Rattle.source_meaning.specs.State.{Defining, OfMember, OfMethod, State, Work}
use Rattle.source_meaning.specs.Steps.{Next}
use Rattle.source_moves.specs.Moves.{next_of}
use Rattle.source_moves.specs.Seen.{state_of}
use Rattle.source_moves.specs.declared.moves.Move.{Move}
use Rattle.source_state.specs.declared.state.State.{State as StateOf}

-- The property is defined, and whatever comes next goes on from this state; or the step ends with this answer, whatever were next; or
-- there was no memory.
abbrev pub Defines : {W E : Type 0} → (W → Work) → Result (Option Move) E → StateOf W → ((State → Next) → Next) → Type 0
Defines seen (Ok None) st definition = (next : State → Next) → definition next ≡ next (state_of seen st)
Defines seen (Ok (Some m)) st definition = (next : State → Next) → definition next ≡ next_of m (state_of seen st)
Defines seen (Err e) st definition = Unit {0}

-- a property, a method and a member, each with those that follow, and then what comes next
unfoldable pub property_first : ObjId → Open Property-F → List Property → State → (State → Next) → Next
property_first id p ps st next = one_property id ps st next p

unfoldable pub method_first : ObjId → Method → List Property → State → (State → Next) → Next
method_first id m ps st next =
    with_key (out-Method m).key (OfMethod id m ps) st (λ k named. define_method m id k named next)

unfoldable pub member_first : Defining → ClassMember → List ClassMember → State → (State → Next) → Next
member_first d m ms st next =
    with_key (out-Method (out-ClassMember m).method).key (OfMember d m ms) st
    (λ k named. member_defined d m k named next)
