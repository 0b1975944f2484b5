use Rattle.std.proofs.Common.{◌+◌, [], ◌∷◌, ◌++◌, ap, ap₂, sym, ◌∙◌, append_assoc}
use Rattle.std.specs.Prelude.{map}
use Rattle.std.proofs.lemmas.List.{map-append}
use Rattle.sample_graph.specs.Listed.{path_and_bytes}
use Rattle.sample_graph.specs.Sample.{module_lines, module_path, sample_modules, text_of}
use Rattle.sample_graph.proofs.TextLemmas.{map-numbers_more}
use Rattle.sample_graph.proofs.push_modules.Goals as goal

pub loop-before-preserved : goal.loop-before-preserved
loop-before-preserved c =
    let n = c.loop-before.before in
    let front = map path_and_bytes c.args.list.now.items in
    ap (λ all. map path_and_bytes all) c.in_ok-push.ensures.items
    ∙ map-append path_and_bytes c.loop-before.list.items ((c.in_ok-path.path, c.in_ok-text.text) ∷ [])
    ∙ ap₂ (λ all one. all ++ one ∷ []) c.loop-before.invariant (ap₂ (λ path bytes. (path, bytes)) c.in_ok-path.ensures c.in_ok-text.ensures)
    ∙ append_assoc front (sample_modules n) ((module_path (n + 1), text_of module_lines) ∷ [])
    ∙ ap (λ rest. front ++ rest) (sym (map-numbers_more (λ i. (module_path i, text_of module_lines)) n))
