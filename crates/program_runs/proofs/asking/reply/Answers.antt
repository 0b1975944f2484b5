use Rattle.std.proofs.Common.{refl, ◌∙◌}
use Rattle.es_outside.specs.declared.host.Reply.TheVariants.{Give, Throw}
use Rattle.program_runs.specs.Turns.{failed, unheard}
use Rattle.program_runs.proofs.Talking.{heard_nothing, of_resumed}
use Rattle.program_runs.proofs.asking.reply.Goals as goal

pub returns-in-Give-clause-replies : goal.returns-in-Give-clause-replies
returns-in-Give-clause-replies g c = λ follow is.
    of_resumed c.args.event.now follow _ _ _ (Give c.in-Give.value) _ c.in-Give.ensures.talks (c.resume.ensures.resumes follow is)

pub returns-in-Throw-clause-replies : goal.returns-in-Throw-clause-replies
returns-in-Throw-clause-replies g c = λ follow is.
    of_resumed c.args.event.now follow _ _ _ (Throw c.in-Throw.value) _ c.in-Throw.ensures.talks (c.resume-in-Throw.ensures.resumes follow is)

pub returns-in-Failed-clause-replies : goal.returns-in-Failed-clause-replies
returns-in-Failed-clause-replies g c = λ follow is. failed c.in-Failed.ensures.talks (c.in-Failed.ensures.failed refl)

pub returns-in-OutOfMemory-clause-replies : goal.returns-in-OutOfMemory-clause-replies
returns-in-OutOfMemory-clause-replies g c = λ follow is. unheard (c.in-OutOfMemory.ensures.talks ∙ heard_nothing c.args.event.now _)
