use Rattle.std.proofs.Common.{ap, ◌∙◌}
use Rattle.graph_bindings.specs.declared.numbering.Numbering.{Numbering}
use Rattle.graph_bindings.specs.declared.counts.Offsets.{Offsets}
use Rattle.graph_bindings.proofs.Laws.{bound}
use Rattle.graph_bindings.proofs.known.bindings_of.Goals as goal

pub returns : goal.returns
returns c =
    let x : Numbering = record { scopes = c.args.scopes; offsets = c.as_slice.result; count = c.args.offsets.count; spaces = c.args.spaces } in
    c.new.ensures
    ∙ bound c.args.graph.now x c.args.offsets.offsets c.in_ok-meanings.meanings
    (record {
      offsets = c.as_slice.ensures ∙ ap (λ (o : Offsets). o.offsets) c.requires.offsets;
      count = ap (λ (o : Offsets). o.count) c.requires.offsets;
      spaces = c.requires.spaces;
    })
    (ap (λ (o : Offsets). o.offsets) c.requires.offsets)
    c.in_ok-meanings.ensures
