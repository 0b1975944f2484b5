use Rattle.std.proofs.Common.{◌≡◌, drop}
use Rattle.std.specs.List.{list_all}
use Rattle.source_meaning.specs.Modules.{is_pair}
use Rattle.source_exports.proofs.ends.are_all.Given as goal

abbrev pub invariant-loop-one : goal.invariant-loop-one
invariant-loop-one l = list_all (is_pair l.pair) (drop l.one-index l.pairs) ≡ list_all (is_pair l.pair) l.pairs
