-- Parts of a script.
use Rattle.std.specs.Prelude.{ℕ, ◌++◌, ◌∷◌, codes, List, [], None}
use Rattle.core_ast.specs.declared.whole.Core.{Core}
use Rattle.core_ast.specs.declared.whole.CoreFunction.{CoreFunction}
use Rattle.es5_ast.specs.declared.tree.Identifier5.{Identifier5}
use Rattle.es5_ast.specs.declared.tree.Script.{Script}
use Rattle.es5_ast.specs.declared.tree.Stat5.{Stat5}
use Rattle.emission_rules.specs.declared.scene.Scene.{Scene}
use Rattle.emission_rules.specs.Emission.{stats_emitted}
use Rattle.emission_rules.specs.Functions.{bodies, entered, instantiations, is_framed, keeps_apart, module_names, own_declarations, stepped, handed}
use Rattle.emission_rules.specs.Nodes.{called, expression, function, nowhere, text, variables}
use Rattle.emission_rules.specs.Scenes.{Emits}

-- what a function begins with, and its body
abbrev pub function_body : CoreFunction → Emits (List Stat5)
function_body f s =
    let begun = stepped f.resumption f.step (entered (is_framed f.kind) (keeps_apart f) s) in
    let setup = stats_emitted f.setup [] begun in
    stats_emitted f.body setup.value setup.scene

-- all modules begin, and then their bodies are called
abbrev pub modules_run : Core → Emits (List Stat5)
modules_run core s =
    let begun = instantiations core.parts [] s in
    bodies core.parts core.order begun.value begun.scene

abbrev pub script_body : Core → List Stat5 → Scene → List Stat5
script_body core helpers s =
    variables (own_declarations ++ module_names s core.parts) ++ helpers ++ (modules_run core s).value

abbrev pub script_by : List Identifier5 → List (List ℕ) → List Stat5 → Script
script_by parameters hosts body = record {
  span = nowhere;
  statements = expression (text (codes "use strict"))
      ∷ expression (called (function None parameters body) (handed hosts) None) ∷ [];
}
