use Rattle.lowering_laws.proofs.Statements.{do_while_is_lawful, for_is_lawful, for_of_is_lawful, while_is_lawful}
use Rattle.lowering_laws.proofs.loops_are_lawful.Goals as goal

pub returns : goal.returns
returns c = record { while_loops = while_is_lawful; do_while = do_while_is_lawful; for_loops = for_is_lawful; for_of = for_of_is_lawful }
