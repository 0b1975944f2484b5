use Rattle.std.proofs.Common.{◌≡◌, drop}
use Rattle.std.specs.List.{list_any}
use Rattle.source_meaning.specs.Modules.{is_pair}
use Rattle.source_exports.proofs.ends.is_among.Given as goal

abbrev pub invariant-loop-one : goal.invariant-loop-one
invariant-loop-one l = list_any (is_pair l.pair) (drop l.one-index l.pairs) ≡ list_any (is_pair l.pair) l.pairs
