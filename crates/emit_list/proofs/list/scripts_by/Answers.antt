-- The scene behind the functions is the same for the helpers as they were handed in.
use Rattle.std.proofs.Common.{◌≡◌, ℕ, List, ap, subst, ◌∙◌}
use Rattle.std.specs.Prelude.{Result, IfOk}
use Rattle.core_ast.specs.declared.whole.Core.{Core}
use Rattle.es5_ast.specs.declared.tree.Script.{Script}
use Rattle.es5_ast.specs.declared.tree.Stat5.{Stat5}
use Rattle.emission_rules.specs.declared.scene.Scene.{Scene}
use Rattle.emission_rules.specs.Functions.{functions_emitted, scene_by}
use Rattle.emit_list.specs.Scripts.{scripts_in}
use Rattle.emit_list.proofs.list.scripts_by.Goals as goal

in_scene
    : {E : Type 0} (core : Core) (hosts : List (List ℕ)) (helpers : List Stat5) (table : List ℕ) (names : List (List ℕ)) (s t : Scene) (r : Result (List Script) E)
    → s ≡ t
    → IfOk r (λ ss. ss ≡ scripts_in core hosts helpers table names s)
    → IfOk r (λ ss. ss ≡ scripts_in core hosts helpers table names t)
in_scene core hosts helpers table names s t r e made =
    subst (λ (z : Scene). IfOk r (λ ss. ss ≡ scripts_in core hosts helpers table names z)) e made

pub returns : goal.returns
returns c =
    let core = c.args.core.now in
    let hosts = c.args.hosts.now in
    let behind = λ (helpers : List Stat5). functions_emitted core.functions (scene_by core.fresh.hints hosts helpers) in
    in_scene core hosts c.args.helpers c.args.table.now c.args.names.now c.in_ok-scene.scene (behind c.args.helpers) c.scripts_in.result
    (c.in_ok-scene.ensures ∙ ap behind c.as_slice.ensures) c.scripts_in.ensures
