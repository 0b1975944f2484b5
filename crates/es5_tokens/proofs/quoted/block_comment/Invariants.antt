use Rattle.std.proofs.Common.{◌≡◌, ◌≤◌, ◌-◌, drop, length}
use Rattle.es5_tokens.specs.Quoted.{block_from, block_comment}
use Rattle.es5_tokens.proofs.quoted.block_comment.Given as goal

abbrev pub invariant-loop-at : goal.invariant-loop-at
invariant-loop-at l = record { same : block_from l.at l.line (drop l.at l.rest) ≡ block_comment l.rest; inside : l.at ≤ length l.rest }

abbrev pub decreases-loop-at : goal.decreases-loop-at
decreases-loop-at l = length l.rest - l.at
