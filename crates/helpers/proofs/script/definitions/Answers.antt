-- What is read of the text, and which of its statements are kept.
use Rattle.helpers.proofs.Made.{answers_fault, answers_kept}
use Rattle.helpers.proofs.script.definitions.Goals as goal

pub returns-in-Ok-clause-accepted : goal.returns-in-Ok-clause-accepted
returns-in-Ok-clause-accepted c =
    answers_kept c.args.names.now c.read_text.result c.in-Ok.script c.kept.result c.in-Ok.is c.read_text.ensures.accepted c.kept.ensures

pub returns-in-Err-clause-accepted : goal.returns-in-Err-clause-accepted
returns-in-Err-clause-accepted c = answers_fault c.args.names.now c.read_text.result c.in-Err.fault c.in-Err.is c.read_text.ensures.accepted
