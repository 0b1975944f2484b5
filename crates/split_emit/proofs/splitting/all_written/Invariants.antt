use Rattle.std.proofs.Common.{◌≡◌, take}
use Rattle.split_emit.specs.Split.{AreScriptsFrom}
use Rattle.split_emit.proofs.splitting.all_written.Given as goal

abbrev pub invariant-loop-script : goal.invariant-loop-script
invariant-loop-script l = AreScriptsFrom l.modules 0 (take l.script-index l.scripts) l.made.items × (l.place ≡ l.script-index)
