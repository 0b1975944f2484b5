use Rattle.std.proofs.Common.{◌≡◌, ◌++◌, drop}
use Rattle.split_emit.specs.Split.{split_text}
use Rattle.split_emit.proofs.text.text_of.Given as goal

abbrev pub invariant-loop-script : goal.invariant-loop-script
invariant-loop-script l = l.out.items ++ split_text (drop l.script-index l.scripts) ≡ split_text l.scripts
