-- Scopes as code enters them, where the names of a record come without values.
use Rattle.std.specs.Prelude.{Bool, List, [], false, if◌then◌else◌, true, ◌∷◌}
use Rattle.es6_ast.specs.declared.tree.Statement.{Statement}
use Rattle.source_meaning.specs.Environments.{with_bindings}
use Rattle.source_meaning.specs.Functions.{with_functions}
use Rattle.source_meaning.specs.State.{Binding, Restore, State}
use Rattle.source_meaning.specs.Steps.{pushed}
use Rattle.source_meaning.specs.Trees.{functions_in}

abbrev pub have_names : List Binding → Bool
have_names [] = false
have_names (b ∷ bs) = true

-- a record of these names, which is left behind what follows
abbrev pub names_entered : List Binding → State → State
names_entered bs st = with_bindings bs (pushed (Restore st.context.environment) st)

-- the same where there are names
abbrev pub scope_begun : List Binding → State → State
scope_begun bs st = if have_names bs then names_entered bs st else st

-- the same with the functions of a block
abbrev pub block_entered : List Binding → List Statement → State → State
block_entered bs ss st = with_functions (functions_in ss) (names_entered bs st)

abbrev pub block_with : List Binding → List Statement → State → State
block_with bs ss st = if have_names bs then block_entered bs ss st else st
