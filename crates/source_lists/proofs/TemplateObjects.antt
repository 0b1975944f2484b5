-- A step goes on with a template's object, whatever comes next.
use Rattle.std.proofs.Common.{◌≡◌, Bool, List, None, Option, Result, [], ◌∷◌, refl, sym}
use Rattle.es_value.specs.declared.value.Value.{Value}
use Rattle.es6_ast.specs.declared.tree.Link.{Link}
use Rattle.es6_ast.specs.declared.tree.Template.{Template}
use Rattle.source_lists.specs.Templates.{IsTemplate, template_of, template_passed}
use Rattle.source_meaning.specs.Lists.{list_on, new_template, passes, raw_texts, template_in, template_values, with_template}
use Rattle.source_meaning.specs.State.{Callee, ForCall, OfArguments, Passing, PassesTemplate, State, Use, Work}
use Rattle.source_meaning.specs.Steps.{Next}
use Rattle.source_state.specs.declared.state.State.{State as StateOf}

pub absent : {W E : Type 0} (seen : W → Work) (r : Result Value E) (after : StateOf W) (t : Template) (st : State) (found : Option Value) → found ≡ None → IsTemplate seen r after (new_template t st) → IsTemplate seen r after (template_of t found st)
unfolding template_of
absent seen r after t st found e h = rw e h

pub of_found : (t : Template) (st : State) (found : Option Value) → found ≡ template_in st.templates (raw_texts t) → template_of t found st ≡ with_template t st
unfolding template_of
of_found t st found e = rw e refl

pub passed : (user : Use) (t : Template) (st after : State) (o : Value) → ((next : Value → State → Next) → with_template t st next ≡ next o after) → list_on (OfArguments user (o ∷ [])) (template_values t) after ≡ template_passed user t st
unfolding template_passed
passed user t st after o h = sym (h (λ o after. list_on (OfArguments user (o ∷ [])) (template_values t) after))

pub passes_template : (callee : Callee) (passing : Passing) (t : Template) (wanted : Bool) (links : List Link) (st : State) → passing ≡ PassesTemplate t → template_passed (ForCall callee wanted links) t st ≡ passes callee passing wanted links st
unfolding template_passed
passes_template callee passing t wanted links st e = rw e refl
