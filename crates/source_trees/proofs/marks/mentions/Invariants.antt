use Rattle.std.proofs.Common.{◌≡◌, ◌≤◌, None, drop}
use Rattle.source_meaning.specs.Trees.{mentions}
use Rattle.source_trees.specs.Mentions.{inside}
use Rattle.source_trees.proofs.marks.mentions.Given as goal

abbrev pub invariant-loop-mark : goal.invariant-loop-mark
invariant-loop-mark l = record {
  within : l.depth ≤ l.mark-index;
  same : mentions (inside l.depth) (drop l.mark-index l.marks) ≡ mentions None l.marks;
}
