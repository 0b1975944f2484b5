-- Declared variables as code goes along them: a `var` without an initializer asks for nothing.
use Rattle.std.specs.Prelude.{Bool, List, None, Option, Some, [], false, if◌then◌else◌, is_none, true, ◌&&◌, ◌∷◌}
use Rattle.es_value.specs.declared.value.Value.TheVariants as value
use Rattle.es6_ast.specs.declared.operators.VariableKind.{VariableKind}
use Rattle.es6_ast.specs.declared.operators.VariableKind.TheVariants as variable
use Rattle.es6_ast.specs.declared.tree.Expression.{Expression}
use Rattle.es6_ast.specs.declared.tree.Part.{Part, out-Part}
use Rattle.es6_ast.specs.declared.tree.Pattern.{Pattern}
use Rattle.source_meaning.specs.Loops.{is_copied, lexical_first, names_of_kind}
use Rattle.source_meaning.specs.State.{Loop, LoopBegin, State, VariableValue}
use Rattle.source_meaning.specs.Statements.{variable_matched, variables_on}
use Rattle.source_meaning.specs.Steps.{Next, begins, pushed}

abbrev pub is_var : VariableKind → Bool
is_var variable.Var = true
is_var k = false

-- the variables from the first that asks for something
abbrev pub variables_from : VariableKind → List Part → List Part
variables_from k [] = []
variables_from k (p ∷ ps) = if is_var k && is_none (out-Part p).default then variables_from k ps else p ∷ ps

-- what such a variable begins
abbrev pub variable_by : VariableKind → Pattern → List Part → State → Option Expression → Next
variable_by k p ps st (Some x) = begins (VariableValue k p ps) x st
variable_by k p ps st None = variable_matched k p ps st value.Undefined

abbrev pub variable_begun : VariableKind → Part → List Part → State → Next
variable_begun k p ps st = variable_by k (out-Part p).pattern ps st (out-Part p).default

-- a loop behind the declaration before it
abbrev pub loop_declared : Loop → VariableKind → List Part → State → Next
loop_declared l k ps st =
    variables_on k ps (pushed (LoopBegin (record l { copies = is_copied k })) (lexical_first (names_of_kind k ps) st))
