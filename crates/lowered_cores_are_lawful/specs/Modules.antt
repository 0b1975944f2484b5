-- Laws: modules and graphs are lowered to lawful ones, where their parts are.
use Rattle.std.specs.Prelude.{ℕ, length, List}
use Rattle.es6_ast.specs.declared.graph.Graph.{Graph}
use Rattle.module_lowering.specs.Modules as m
use Rattle.module_lowering.specs.declared.meaning.NamespaceEntries.{NamespaceEntries}
use Rattle.scope_analysis.specs.declared.scopes.Scopes.{Scopes}
use Rattle.lowered_cores_are_lawful.specs.Parts.{CoreIs, ModulesAre}
use Rattle.lowered_cores_are_lawful.specs.Standing.{BindingsAreDrawn}

abbrev pub LoweredLaw : Type 0
LoweredLaw = (g : Graph) (t : Scopes) (es : List NamespaceEntries) (order : List ℕ) (hosts : ℕ)
    → (let names = length (m.first_names g t).hints in let b = m.bindings_of g t in BindingsAreDrawn b hosts names
    → ModulesAre b hosts names 0 g.modules es → CoreIs hosts (m.lowered g t es order))
