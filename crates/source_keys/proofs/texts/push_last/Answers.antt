use Rattle.source_keys.proofs.Units.{limit_whole}
use Rattle.source_keys.proofs.texts.push_last.Goals as goal

pub push_units-requires : goal.push_units-requires
push_units-requires c = limit_whole c.args.begun.left c.args.begun.code c.requires
