use Rattle.std.proofs.Common.{◌≡◌, ◌≤◌, drop, length}
use Rattle.es_sequence_functions.specs.Strings.{index_in, search_from}
use Rattle.es_sequence_functions.proofs.search.index_in.Given as goal

abbrev pub invariant-loop : goal.invariant-loop
invariant-loop l = record {
  within : l.from ≤ length l.units;
  on : search_from l.from (drop l.from l.units) l.search ≡ index_in l.units l.search l.fn.start;
}
