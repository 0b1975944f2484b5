-- Scopes by the names of their records.
use Rattle.std.proofs.Common.{◌≡◌, List, [], ◌∷◌, map, refl}
use Rattle.es6_ast.specs.declared.tree.Statement.{Statement}
use Rattle.source_meaning.specs.Environments.{unbound}
use Rattle.source_meaning.specs.Loops.{lexical_first}
use Rattle.source_meaning.specs.State.{Binding, State}
use Rattle.source_meaning.specs.Statements.{block_begun}
use Rattle.source_meaning.specs.Trees.{Lexical}
use Rattle.source_statements.specs.Scopes.{block_with, scope_begun}

lexical_by : (names : List Lexical) (st : State) → lexical_first names st ≡ scope_begun (map unbound names) st
lexical_by [] st = refl
lexical_by (n ∷ ns) st = refl

block_by : (names : List Lexical) (ss : List Statement) (st : State) → block_begun names ss st ≡ block_with (map unbound names) ss st
block_by [] ss st = refl
block_by (n ∷ ns) ss st = refl

pub lexical_scope : (names : List Lexical) (st : State) (bs : List Binding) → bs ≡ map unbound names → lexical_first names st ≡ scope_begun bs st
lexical_scope names st bs e = rw e (lexical_by names st)

pub block_scope : (names : List Lexical) (ss : List Statement) (st : State) (bs : List Binding) → bs ≡ map unbound names → block_begun names ss st ≡ block_with bs ss st
block_scope names ss st bs e = rw e (block_by names ss st)
