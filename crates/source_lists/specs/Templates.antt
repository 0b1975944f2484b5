-- How a step goes on with a template's object (ECMA-262, 6th edition, 12.2.9.3).
use Rattle.std.specs.Prelude.{Err, Ok, Option, Result, [], ◌≡◌, ◌∷◌}
use Rattle.es_value.specs.declared.value.Value.{Value}
use Rattle.es6_ast.specs.declared.tree.Template.{Template}
use Rattle.source_meaning.specs.Lists.{list_on, template_by, template_values, with_template}
use Rattle.source_meaning.specs.State.{OfArguments, State, Use, Work}
use Rattle.source_meaning.specs.Steps.{Next}
use Rattle.source_moves.specs.Seen.{state_of}
use Rattle.source_state.specs.declared.state.State.{State as StateOf}

-- whatever comes next goes on with this object, from this state
abbrev pub IsTemplate : {W E : Type 0} → (W → Work) → Result Value E → StateOf W → ((Value → State → Next) → Next) → Type 0
IsTemplate seen (Ok object) st made = (next : Value → State → Next) → made next ≡ next object (state_of seen st)
IsTemplate seen (Err e) st made = Unit {0}

-- whatever comes next, by what was found of the template's object
unfoldable pub template_of : Template → Option Value → State → (Value → State → Next) → Next
template_of t found st next = template_by t st next found

-- a template's object and its values are passed
unfoldable pub template_passed : Use → Template → State → Next
template_passed user t st =
    with_template t st (λ o after. list_on (OfArguments user (o ∷ [])) (template_values t) after)
