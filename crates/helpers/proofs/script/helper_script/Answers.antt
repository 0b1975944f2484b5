-- The names that are wanted are those of which the definitions are answered.
use Rattle.std.proofs.Common.{◌∙◌}
use Rattle.helpers.specs.Wanted.{wanted}
use Rattle.helpers.proofs.Made.{answers_moved}
use Rattle.helpers.proofs.script.helper_script.Goals as goal

pub returns-clause-accepted : goal.returns-clause-accepted
returns-clause-accepted c =
    answers_moved c.as_slice.result.now (wanted c.args.used.now) c.definitions.result (c.as_slice.ensures ∙ c.in_ok-names.ensures)
    c.definitions.ensures.accepted
