use Rattle.std.proofs.Common.{◌≡◌, ◌++◌, take}
use Rattle.first_script.proofs.print.print_text.Given as goal

abbrev pub invariant-loop-unit : goal.invariant-loop-unit
invariant-loop-unit l = l.out.items ≡ l.initial.out.items ++ take l.unit-index l.unit-items
