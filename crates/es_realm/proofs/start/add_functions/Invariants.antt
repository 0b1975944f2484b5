use Rattle.std.proofs.Common.{◌≡◌, fold, take}
use Rattle.es_realm.specs.Tables.{with_function}
use Rattle.es_realm.proofs.start.add_functions.Given as goal

abbrev pub invariant-loop-number : goal.invariant-loop-number
invariant-loop-number l = l.heap ≡ fold (with_function l.fn.edition) l.fn.heap (take l.number-index l.numbers)
