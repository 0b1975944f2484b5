use Rattle.std.proofs.Common.{refl}
use Rattle.source_meaning.specs.Modules.{start}
use Rattle.source_meaning.specs.Step.{step}
use Rattle.graph_runs.specs.Sites.{sites_of}
use Rattle.graph_runs.proofs.Unstarted.{begun_at, unstarted}
use Rattle.graph_runs.proofs.running.run_graph.Goals as goal

pub run_begun-requires : goal.run_begun-requires
run_begun-requires g c = begun_at _ (start c.args.graph.now) _ c.new-begun.ensures

pub returns-in-Ok-clause-outcome : goal.returns-in-Ok-clause-outcome
returns-in-Ok-clause-outcome g c = c.run_begun.ensures.outcome step (start c.args.graph.now) (λ run. refl) c.new-begun.ensures

pub returns-in-Err-clause-outcome : goal.returns-in-Err-clause-outcome
returns-in-Err-clause-outcome g c = unstarted step (start c.args.graph.now) c.args.steps (sites_of c.args.graph.now) _
