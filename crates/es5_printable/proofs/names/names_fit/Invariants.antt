use Rattle.std.proofs.Common.{◌≡◌, drop}
use Rattle.es5_printable.specs.Printable.{names_fit}
use Rattle.es5_printable.proofs.names.names_fit.Given as goal

abbrev pub invariant-loop-name : goal.invariant-loop-name
invariant-loop-name l = names_fit (drop l.name-index l.names) ≡ names_fit l.names
