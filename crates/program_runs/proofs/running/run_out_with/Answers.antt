use Rattle.std.proofs.Common.{◌∙◌, arith, rules}
use Rattle.std.proofs.lemmas.Grind.{common_steps}
use Rattle.es_outside.specs.HostList.{entries}
use Rattle.program_runs.proofs.Endings.{of_lists}
use Rattle.program_runs.proofs.running.run_out_with.Goals as goal

pub returns-clause-outcome : goal.returns-clause-outcome
returns-clause-outcome g c = λ start at.
    of_lists _ _ _ c.args.steps (g.P.Places.sites c.args.places.now) c.as_mut_slice.result.now (entries c.args.hosts) c.run_out-end.new.hosts (entries c.put_back.result) _ _ _
    (c.as_mut_slice.ensures.value ∙ c.into_list-list.ensures) (first_of (search rules, grind (arith, common_steps))) (c.run_out-end.ensures.outcome start at)
