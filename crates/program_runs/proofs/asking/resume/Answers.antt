use Rattle.program_runs.specs.Turns.{resumed, unresumed}
use Rattle.program_runs.proofs.asking.resume.Goals as goal

pub returns-in-Ok-clause-resumes : goal.returns-in-Ok-clause-resumes
returns-in-Ok-clause-resumes g c = λ follow is. resumed (c.in-Ok.ensures.resumes follow is)

pub returns-in-Err-clause-resumes : goal.returns-in-Err-clause-resumes
returns-in-Err-clause-resumes g c = λ follow is. unresumed
