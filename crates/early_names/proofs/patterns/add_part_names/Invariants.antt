use Rattle.std.proofs.Common.{◌≡◌, ◌++◌, drop, map}
use Rattle.es6_static_semantics.specs.Early.{parameter_names, part_found}
use Rattle.early_names.proofs.patterns.add_part_names.Given as goal

abbrev pub invariant-loop-part : goal.invariant-loop-part
invariant-loop-part l = l.names.items ++ parameter_names (map part_found (drop l.part-index l.parts)) ≡ l.initial.names.items ++ parameter_names (map part_found l.parts)
