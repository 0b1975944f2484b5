use Rattle.std.proofs.Common.{◌++◌, ap₂, sym, ◌∙◌}
use Rattle.sample_graph.specs.Sample.{import_line}
use Rattle.sample_graph.proofs.TextLemmas.{text_of-map_more}
use Rattle.sample_graph.proofs.push_imports.Goals as goal

pub loop-before-preserved : goal.loop-before-preserved
loop-before-preserved c = c.in_ok-extend_from_slice.ensures.items
    ∙ ap₂ (λ front line. front ++ line) c.loop-before.invariant (c.as_bytes.ensures.value ∙ c.in_ok-line.ensures)
    ∙ sym (text_of-map_more import_line c.args.text.now.items c.loop-before.before)
