use Rattle.std.proofs.Common.{◌≡◌, fold, map, take}
use Rattle.es_realm.specs.Tables.{with_entry}
use Rattle.es_realm.specs.Entries.{entry_of}
use Rattle.es_realm.proofs.start.add_entries.Given as goal

abbrev pub invariant-loop-kept : goal.invariant-loop-kept
invariant-loop-kept l = l.heap ≡ fold with_entry l.fn.heap (map entry_of (take l.kept-index l.entries))
