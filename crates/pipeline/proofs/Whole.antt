-- A script of a core is the script of its graph.
use Rattle.std.proofs.Common.{◌≡◌, List, ℕ, ap, subst, ◌∙◌}
use Rattle.std.specs.Prelude.{Result, Ok, Err, IfOk}
use Rattle.core_ast.specs.declared.whole.Core.{Core}
use Rattle.es6_ast.specs.declared.graph.Graph.{Graph}
use Rattle.es6_ast.specs.declared.graph.LoadedModule.{LoadedModule}
use Rattle.module_lowering.specs.declared.meaning.NamespaceEntries.{NamespaceEntries}
use Rattle.module_lowering.specs.Namespaces.{AreNamespaces}
use Rattle.pipeline.specs.Compiled.{core_of, IsCompiled, IsWrittenOf}
use Rattle.scope_analysis.specs.Answers.{AreScopes}
use Rattle.scope_analysis.specs.declared.scopes.Scopes.{Scopes}

-- what is written of the graph's modules and of its core
written_of
    : {modules : List LoadedModule} (g : Graph) (hosts : List (List ℕ)) (s : Scopes) {entries : List NamespaceEntries} (es : List NamespaceEntries) {core : Core} (bytes : List ℕ)
    → AreScopes g s
    → AreNamespaces g hosts 0 g.modules es
    → modules ≡ g.modules
    → entries ≡ es
    → core ≡ core_of g s entries
    → IsWrittenOf modules core hosts bytes
    → IsCompiled g hosts bytes
written_of {modules = modules} g hosts s {entries = entries} es {core = core} bytes are named m e c written =
    let of_modules : IsWrittenOf g.modules core hosts bytes = subst (λ (ms : List LoadedModule). IsWrittenOf ms core hosts bytes) m written in
    let of_core : IsWrittenOf g.modules (core_of g s es) hosts bytes =
    subst (λ (k : Core). IsWrittenOf g.modules k hosts bytes) (c ∙ ap (core_of g s) e) of_modules in
    record { scopes = s; are_scopes = are; namespaces = es; are_namespaces = named; written = of_core }

-- of an answer
pub compiled
    : {A E : Type 0} {modules : List LoadedModule} (items : A → List ℕ) (g : Graph) (hosts : List (List ℕ)) (s : Scopes) {entries : List NamespaceEntries} (es : List NamespaceEntries) {core : Core} (r : Result A E)
    → AreScopes g s
    → AreNamespaces g hosts 0 g.modules es
    → modules ≡ g.modules
    → entries ≡ es
    → core ≡ core_of g s entries
    → IfOk r (λ a. IsWrittenOf modules core hosts (items a))
    → IfOk r (λ a. IsCompiled g hosts (items a))
compiled items g hosts s es (Ok a) are named m e c written = written_of g hosts s es (items a) are named m e c written
compiled items g hosts s es (Err fault) are named m e c written = tt
