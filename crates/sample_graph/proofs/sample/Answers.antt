use Rattle.std.proofs.Common.{ap, ◌∙◌}
use Rattle.std.proofs.lemmas.Result.{IfOk-weaker}
use Rattle.sample_graph.specs.Listed.{file_listed}
use Rattle.sample_graph.proofs.ListedLemmas.{file_listed-map}
use Rattle.sample_graph.proofs.sample.Goals as goal

pub returns : goal.returns
returns c = IfOk-weaker c.new.result _ _
    (λ files given path. given path ∙ file_listed-map c.in_ok-list.list.items path ∙ ap (λ all. file_listed all path) c.in_ok-list.ensures)
    c.new.ensures
