use Rattle.std.proofs.Common.{rules}
use Rattle.source_exports.proofs.Entries.{endings_all}
use Rattle.source_exports.proofs.ends.+endings.Goals as goal

pub add_endings-returns-clause-ends : goal.add_endings-returns-clause-ends
add_endings-returns-clause-ends t c =
    endings_all c.args.ends.now c.add_ends.new.ends c.add_all_endings.new.ends c.args.depth c.args.known.now c.args.seen.now c.push.new.self c.args.pair.now c.in_ok-pairs.pairs
    (search rules) (search rules) (search rules) (search rules) (search rules) (search rules)
