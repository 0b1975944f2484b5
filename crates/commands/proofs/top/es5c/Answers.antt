use Rattle.std.proofs.Common.{inl, map, refl, string_bytes}
use Rattle.commands.proofs.Asking.{command_within}
use Rattle.commands.proofs.Due.{comes_when_due}
use Rattle.commands.proofs.Outcomes.{adds_nothing, done, misused}
use Rattle.command_words.specs.Words.{asked_of}
use Rattle.commands.proofs.top.es5c.Goals as goal

pub do_command-requires : goal.do_command-requires
do_command-requires g c = record { within = command_within (map string_bytes c.args.words.now) (asked_of c.in-Ok.command) c.in-Ok.ensures }

pub returns-in-Ok-clause-outcome : goal.returns-in-Ok-clause-outcome
returns-in-Ok-clause-outcome g c = done _ (asked_of c.in-Ok.command) _ c.in-Ok.ensures c.do_command.ensures.outcome

pub returns-in-Ok-clause-due : goal.returns-in-Ok-clause-due
returns-in-Ok-clause-due g c = comes_when_due _ _ (returns-in-Ok-clause-outcome g c)

pub returns-in-Err-clause-outcome : goal.returns-in-Err-clause-outcome
returns-in-Err-clause-outcome g c = inl (misused _ c.in-Err.fault _ c.in-Err.ensures (adds_nothing _) c.misuse.ensures.outcome, refl)

pub returns-in-Err-clause-due : goal.returns-in-Err-clause-due
returns-in-Err-clause-due g c = comes_when_due _ _ (returns-in-Err-clause-outcome g c)
