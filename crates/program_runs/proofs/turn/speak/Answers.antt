use Rattle.std.proofs.Common.{refl}
use Rattle.std.proofs.lemmas.List.{length-map}
use Rattle.program_runs.specs.Turns.{told_and_asked, told_only}
use Rattle.program_runs.proofs.Talking.{of_untold}
use Rattle.program_runs.proofs.turn.speak.Goals as goal

pub returns-in-Ok-clause-tells : goal.returns-in-Ok-clause-tells
returns-in-Ok-clause-tells g c = λ follow is.
    told_and_asked c.if-asks.true (simp length-map c.in-Ok.ensures.within) c.in-Ok.ensures.writes (c.reply.ensures.replies follow is)

pub returns-in-Ok-2-clause-tells : goal.returns-in-Ok-2-clause-tells
returns-in-Ok-2-clause-tells g c = λ follow is. told_only c.if-asks.false c.in-Ok-2.ensures.writes refl

pub returns-in-Err-clause-tells : goal.returns-in-Err-clause-tells
returns-in-Err-clause-tells g c = λ follow is. of_untold _ c.args.event.now _ _ _ _ c.in-Err.halt c.in-Err.ensures.writes refl
