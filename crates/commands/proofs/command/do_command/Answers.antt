use Rattle.std.proofs.Common.{◌∙◌, ap, sym}
use Rattle.command_words.specs.Words.{asked_of, run, run5}
use Rattle.commands.proofs.Outcomes.{asked_as}
use Rattle.commands.proofs.command.do_command.Goals as goal

pub returns-in-Run-clause-outcome : goal.returns-in-Run-clause-outcome
returns-in-Run-clause-outcome g c =
    asked_as _ _ _ _ _ _ _ _ _ _ _ (ap (λ path. run path c.in-Run.steps) c.as_str.ensures.value ∙ sym (ap asked_of c.in-Run.is)) c.run.ensures.outcome

pub returns-in-Run5-clause-outcome : goal.returns-in-Run5-clause-outcome
returns-in-Run5-clause-outcome g c =
    asked_as _ _ _ _ _ _ _ _ _ _ _ (ap (λ path. run5 path c.in-Run5.steps) c.as_str-in-Run5.ensures.value ∙ sym (ap asked_of c.in-Run5.is)) c.run5.ensures.outcome
