-- What is asked of names, of jumps and of parameters.
use Rattle.std.specs.Prelude.{ℕ, Bool, true, false, cond, List, [], ◌∷◌, ◌++◌, Option, None, Some}
use Rattle.module_lowering.specs.Bindings.{Bindings, Found, declared_var, meaning}
use Rattle.module_lowering.specs.Nodes.{Parametered}
use Rattle.module_lowering.specs.declared.context.Context.{Context}
use Rattle.es6_ast.specs.declared.tree.Identifier.{Identifier}
use Rattle.module_lowering.specs.declared.meaning.Meaning.{Meaning}
use Rattle.module_lowering.specs.declared.meaning.Meaning.TheVariants.{Elsewhere, Itself, NamespaceOf, OfHost}
use Rattle.module_lowering.specs.Statements.{is_target}
use Rattle.module_lowering.specs.declared.context.JumpForm.{JumpForm}
use Rattle.module_lowering.specs.declared.context.JumpForm.TheVariants.{Cases, Stays, Turns}
use Rattle.module_lowering.specs.declared.context.JumpTarget.{JumpTarget}

abbrev pub is_host : Meaning → Bool
is_host Itself = false
is_host (Elsewhere x) = false
is_host (NamespaceOf x) = false
is_host (OfHost h) = true

-- whether what a name finds is a function of the host
abbrev pub finds_host : Bindings → Option Found → Bool
finds_host b None = false
finds_host b (Some f) = is_host (meaning b f.var)

-- whether a continue may go to it (13.8.1): only to a loop
abbrev pub takes : Bool → JumpForm → Bool
takes false form = true
takes true (Turns tests_last) = true
takes true Cases = false
takes true Stays = false

-- of the statements round a jump, the innermost first
abbrev pub finds_loop : Bool → Option (List ℕ) → List JumpTarget → Bool
finds_loop goes_on label [] = true
finds_loop goes_on label (t ∷ ts) = cond (is_target goes_on label t) (takes goes_on t.form) (finds_loop goes_on label ts)

-- the variables that the first names of parameters stand for, and whether they differ (14.1.2)
abbrev pub first_number : Bindings → Context → List Identifier → List ℕ
first_number b c [] = []
first_number b c (x ∷ xs) = (declared_var b c x.span.begin).0 ∷ []

abbrev pub parameter_numbers : Bindings → Context → List Parametered → List ℕ
parameter_numbers b c [] = []
parameter_numbers b c (p ∷ ps) = first_number b c p.part.pattern.names ++ parameter_numbers b c ps
