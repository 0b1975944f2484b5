use Rattle.std.proofs.Common.{take}
use Rattle.module_endings.specs.Webs.{FitAll}
use Rattle.module_endings.proofs.answers.answers.Given as goal

abbrev pub invariant-loop-number : goal.invariant-loop-number
invariant-loop-number l = FitAll l.hosts l.web l.found (take l.number-index l.numbers) l.all
