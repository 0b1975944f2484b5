use Rattle.script_runs.proofs.Refused.{unread}
use Rattle.script_runs.proofs.reading.parsed.Goals as goal

pub returns-in-Err : goal.returns-in-Err
returns-in-Err c = unread c.args.bytes.now c.args.lines.now c.in-Err.fault c.unparsed.result c.requires.within c.requires.utf8 c.in-Err.ensures.read c.requires.lines c.unparsed.ensures
