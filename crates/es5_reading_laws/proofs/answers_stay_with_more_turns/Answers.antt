use Rattle.es5_reading_laws.proofs.DeadFaults.{answers-last}
use Rattle.es5_reading_laws.proofs.answers_stay_with_more_turns.Goals as goal

pub returns : goal.returns
returns c = answers-last
