-- Declared variables from the first that asks for something.
use Rattle.std.proofs.Common.{◌≡◌, Bool, true, false, if◌then◌else◌, ◌&&◌, is_none, List, [], ◌∷◌, None, Option, Some, refl, ap, ◌∙◌}
use Rattle.es6_ast.specs.declared.operators.VariableKind.{VariableKind}
use Rattle.es6_ast.specs.declared.operators.VariableKind.TheVariants as variable
use Rattle.es6_ast.specs.declared.tree.Expression.{Expression}
use Rattle.es6_ast.specs.declared.tree.Part.{Part, out-Part}
use Rattle.es6_ast.specs.declared.tree.Pattern.{Pattern}
use Rattle.source_meaning.specs.State.{Done, State}
use Rattle.source_meaning.specs.Statements.{one_variable, variables_on}
use Rattle.source_meaning.specs.Steps.{Next, hands}
use Rattle.source_statements.specs.Variables.{is_var, variable_begun, variable_by, variables_from}

abbrev variables_at : VariableKind → State → List Part → Next
variables_at k st [] = hands Done st
variables_at k st (p ∷ ps) = variable_begun k p ps st

one_by : (k : VariableKind) (p : Pattern) (ps : List Part) (st : State) (rest : Next) (x : Option Expression) → one_variable k p ps st rest x ≡ (if is_var k && is_none x then rest else variable_by k p ps st x)
one_by variable.Var p ps st rest None = refl
one_by variable.Var p ps st rest (Some x) = refl
one_by variable.Let p ps st rest None = refl
one_by variable.Let p ps st rest (Some x) = refl
one_by variable.Const p ps st rest None = refl
one_by variable.Const p ps st rest (Some x) = refl

one_more : (k : VariableKind) (p : Part) (ps : List Part) (st : State) (here : Bool) → variables_on k ps st ≡ variables_at k st (variables_from k ps) → (if here then variables_on k ps st else variable_begun k p ps st) ≡ variables_at k st (if here then variables_from k ps else p ∷ ps)
one_more k p ps st true ih = ih
one_more k p ps st false ih = refl

variables_by : (k : VariableKind) (ps : List Part) (st : State) → variables_on k ps st ≡ variables_at k st (variables_from k ps)
variables_by k [] st = refl
variables_by k (p ∷ ps) st =
    one_by k (out-Part p).pattern ps st (variables_on k ps st) (out-Part p).default
    ∙ one_more k p ps st (is_var k && is_none (out-Part p).default) (variables_by k ps st)

pub variables_none : (k : VariableKind) (ps : List Part) (st : State) → variables_from k ps ≡ [] → variables_on k ps st ≡ hands Done st
variables_none k ps st e = variables_by k ps st ∙ ap (variables_at k st) e

pub variables_some : (k : VariableKind) (ps : List Part) (st : State) (q : Part) (qs : List Part) → variables_from k ps ≡ q ∷ qs → variables_on k ps st ≡ variable_begun k q qs st
variables_some k ps st q qs e = variables_by k ps st ∙ ap (variables_at k st) e
