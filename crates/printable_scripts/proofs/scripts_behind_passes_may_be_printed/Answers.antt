use Rattle.printable_scripts.proofs.Ready.{helped_are_printable, ready_are_printable}
use Rattle.printable_scripts.proofs.scripts_behind_passes_may_be_printed.Goals as goal

pub returns : goal.returns
returns c = record { ready = ready_are_printable; helped = helped_are_printable }
