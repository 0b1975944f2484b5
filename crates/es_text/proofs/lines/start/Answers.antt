use Rattle.es_text.proofs.Marked.{start_mark}
use Rattle.es_text.proofs.lines.start.Goals as goal

pub returns-clause-mark : goal.returns-clause-mark
returns-clause-mark c = start_mark c.args.text.now
