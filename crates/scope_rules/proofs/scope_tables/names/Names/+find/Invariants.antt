use Rattle.std.proofs.Common.{length}
use Rattle.scope_rules.proofs.scope_tables.names.Names.+find.Given as goal

abbrev pub decreases-find : goal.decreases-find
decreases-find l = length l.places.now
