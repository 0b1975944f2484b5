use Rattle.std.proofs.Common.{◌≡◌, drop}
use Rattle.source_modules.specs.Found.{found_in}
use Rattle.source_modules.proofs.reads.text_in.Given as goal

abbrev pub invariant-loop-exported : goal.invariant-loop-exported
invariant-loop-exported l = found_in (drop l.exported-index l.exports) l.units ≡ found_in l.exports l.units
