-- Scripts of a core are the scripts of its graph.
use Rattle.std.proofs.Common.{◌≡◌, List, ℕ, ap, subst, ◌∙◌}
use Rattle.std.specs.Prelude.{Result, Ok, Err, IfOk}
use Rattle.core_ast.specs.declared.whole.Core.{Core}
use Rattle.es6_ast.specs.declared.graph.Graph.{Graph}
use Rattle.es6_ast.specs.declared.graph.LoadedModule.{LoadedModule}
use Rattle.module_lowering.specs.declared.meaning.NamespaceEntries.{NamespaceEntries}
use Rattle.module_lowering.specs.Namespaces.{AreNamespaces}
use Rattle.scope_analysis.specs.Answers.{AreScopes}
use Rattle.scope_analysis.specs.declared.scopes.Scopes.{Scopes}
use Rattle.split_emit.specs.declared.scripts.SplitScript.{SplitScript}
use Rattle.split_emit.specs.Split.{core_of, AreSplit, AreWrittenOf}

-- what is written of the graph's modules and of its core
written_of
    : {modules : List LoadedModule} (g : Graph) (hosts : List (List ℕ)) (s : Scopes) {entries : List NamespaceEntries} (es : List NamespaceEntries) {core : Core} (ss : List SplitScript)
    → AreScopes g s
    → AreNamespaces g hosts 0 g.modules es
    → modules ≡ g.modules
    → entries ≡ es
    → core ≡ core_of g s entries
    → AreWrittenOf modules core hosts ss
    → AreSplit g hosts ss
written_of {modules = modules} g hosts s {entries = entries} es {core = core} ss are named m e c written =
    let of_modules : AreWrittenOf g.modules core hosts ss = subst (λ (ms : List LoadedModule). AreWrittenOf ms core hosts ss) m written in
    let of_core : AreWrittenOf g.modules (core_of g s es) hosts ss =
    subst (λ (k : Core). AreWrittenOf g.modules k hosts ss) (c ∙ ap (core_of g s) e) of_modules in
    record { scopes = s; are_scopes = are; namespaces = es; are_namespaces = named; written = of_core }

-- of an answer
pub split_of
    : {A E : Type 0} {modules : List LoadedModule} (items : A → List SplitScript) (g : Graph) (hosts : List (List ℕ)) (s : Scopes) {entries : List NamespaceEntries} (es : List NamespaceEntries) {core : Core} (r : Result A E)
    → AreScopes g s
    → AreNamespaces g hosts 0 g.modules es
    → modules ≡ g.modules
    → entries ≡ es
    → core ≡ core_of g s entries
    → IfOk r (λ a. AreWrittenOf modules core hosts (items a))
    → IfOk r (λ a. AreSplit g hosts (items a))
split_of items g hosts s es (Ok a) are named m e c written = written_of g hosts s es (items a) are named m e c written
split_of items g hosts s es (Err fault) are named m e c written = tt
