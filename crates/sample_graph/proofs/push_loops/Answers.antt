use Rattle.std.proofs.Common.{◌++◌, ap₂, sym, ◌∙◌}
use Rattle.sample_graph.specs.Sample.{loop_lines}
use Rattle.sample_graph.proofs.TextLemmas.{text_of-flat_map_more}
use Rattle.sample_graph.proofs.push_loops.Goals as goal

pub loop-before-preserved : goal.loop-before-preserved
loop-before-preserved c = c.in_ok-extend_from_slice.ensures.items
    ∙ ap₂ (λ front lines. front ++ lines) c.loop-before.invariant (c.as_bytes.ensures.value ∙ c.in_ok-lines.ensures)
    ∙ sym (text_of-flat_map_more loop_lines c.args.text.now.items c.loop-before.before)
