use Rattle.std.proofs.Common.{◌≡◌, ◌++◌, [], drop, length, suc}
use Rattle.std.specs.List.{filter_map}
use Rattle.source_exports.specs.Known.{ends_alone, exported_by, names_within}
use Rattle.source_exports.proofs.exported.namespace_known.Given as goal

abbrev pub invariant-loop-name : goal.invariant-loop-name
invariant-loop-name l =
    l.exports ++ filter_map (λ name. exported_by name (ends_alone l.known l.number name)) (drop l.name-index l.name-items)
    ≡ filter_map (λ name. exported_by name (ends_alone l.known l.number name)) (names_within (suc (length l.known)) l.known [] l.number)
