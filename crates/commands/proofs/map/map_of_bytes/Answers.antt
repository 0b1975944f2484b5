use Rattle.commands.specs.Outcome.{script_too_long}
use Rattle.commands.proofs.map.map_of_bytes.Goals as goal

pub returns-then-script : goal.returns-then-script
returns-then-script c = script_too_long c.if-script.true
