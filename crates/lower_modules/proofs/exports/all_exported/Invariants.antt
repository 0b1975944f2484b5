use Rattle.std.proofs.Common.{◌≡◌, drop}
use Rattle.lower_walk.specs.Handed.{done_at}
use Rattle.module_lowering.specs.Lowering.{each_by, each_by_onto}
use Rattle.module_lowering.specs.Modules.{exported}
use Rattle.lower_modules.proofs.exports.all_exported.Given as goal

abbrev pub invariant-loop-entry : goal.invariant-loop-entry
invariant-loop-entry l =
    done_at l.around (each_by_onto exported l.made (drop l.entry-index l.entries)) l.state
    ≡ done_at l.around (each_by exported l.entries) l.initial.state
