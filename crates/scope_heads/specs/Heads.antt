-- What begins a scope that stands round marks or not, and what ends it.
use Rattle.std.specs.Prelude.{ℕ, Bool, true, false, List, [], ◌∷◌, Option, Some, None}
use Rattle.es6_ast.specs.declared.tree.Identifier.{Identifier}
use Rattle.scope_rules.specs.Marks.{declares}
use Rattle.scope_rules.specs.declared.mark.Mark.{Mark}
use Rattle.scope_rules.specs.declared.mark.Mark.TheVariants.{ScopeBegins, ScopeEnds}
use Rattle.scope_rules.specs.declared.kinds.ScopeKind.TheVariants as scope
use Rattle.scope_rules.specs.declared.kinds.Kind.{Kind}

-- the scope of a name by itself, if there is one (14.1.20, 14.5.14)
abbrev pub own_begins : Kind → ℕ → Option Identifier → List Mark
own_begins k end None = []
own_begins k end (Some x) = ScopeBegins scope.Block x.span.begin ∷ declares k end x ∷ []

abbrev pub own_ends : Option Identifier → List Mark
own_ends None = []
own_ends (Some x) = ScopeEnds ∷ []

-- the scope of a body that has its own (9.2.12, steps 27 and 28)
abbrev pub body_begins : Bool → ℕ → List Mark
body_begins true end = ScopeBegins scope.Body end ∷ []
body_begins false end = []

abbrev pub body_ends : Bool → List Mark
body_ends true = ScopeEnds ∷ []
body_ends false = []
