use Rattle.std.proofs.Common.{length}
use Rattle.es_realm.proofs.left_out.+is_word.Given as goal

abbrev pub decreases-is_word : goal.decreases-is_word
decreases-is_word l = length l.units.now
