-- The state before anything is instantiated, by its parts.
use Rattle.std.proofs.Common.{◌≡◌, List, [], ◌∷◌, ap, map, refl, ◌∙◌}
use Rattle.es_heap.specs.Heaps.{Heap}
use Rattle.es_realm.specs.Realms.{fresh6}
use Rattle.es6_ast.specs.declared.graph.Graph.{Graph}
use Rattle.es6_ast.specs.declared.graph.LoadedModule.{LoadedModule}
use Rattle.source_meaning.specs.Modules.{bare, bare_context, module_record}
use Rattle.source_meaning.specs.State.{Closure, Context, Due, EnvironmentRecord, Exported, State, Static, TemplateObject, Work}
use Rattle.source_moves.specs.Seen.{context_of, state_of}
use Rattle.source_state.specs.declared.state.Context.{Context as ContextOf}
use Rattle.source_state.specs.declared.state.Generator.{Generator as GeneratorOf}
use Rattle.source_state.specs.declared.state.State.{State as StateOf}
use Rattle.source_modules.specs.Instances.{due_in, record_made}

pub records_made : (ms : List LoadedModule) → map record_made ms ≡ map module_record ms
unfolding record_made
records_made [] = refl
records_made (m ∷ ms) = ap (λ rs. module_record m ∷ rs) (records_made ms)

pub bare_made : {W : Type 0} (seen : W → Work) (g : Graph) (heap : Heap) (records : List EnvironmentRecord) (closures : List Closure) (generators : List (GeneratorOf W)) (namespaces : List (List Exported)) (templates : List TemplateObject) (statics : List Static) (k : ContextOf W) (callers : List (ContextOf W)) (due : List Due) → heap ≡ fresh6 → records ≡ map record_made g.modules → closures ≡ [] → generators ≡ [] → namespaces ≡ [] → templates ≡ [] → statics ≡ [] → context_of seen k ≡ bare_context → callers ≡ [] → due ≡ due_in g → state_of seen (record { heap = heap; records = records; closures = closures; generators = generators; namespaces = namespaces; templates = templates; statics = statics; context = k; callers = callers; due = due }) ≡ bare g
bare_made seen g heap records closures generators namespaces templates statics k callers due eh er ec eg en et es ek ea ed =
    let f : Context → State = λ (c : Context). record { heap = fresh6; records = map module_record g.modules; closures = []; generators = []; namespaces = []; templates = []; statics = []; context = c; callers = []; due = due_in g } in
    let made : records ≡ map module_record g.modules = er ∙ records_made g.modules in
    rw (eh, made, ec, eg, en, et, es, ea, ed) (ap f ek)
