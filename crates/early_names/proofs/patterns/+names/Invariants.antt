use Rattle.std.proofs.Common.{◌≡◌, ◌++◌, drop, map}
use Rattle.es6_static_semantics.specs.Early.{array_part_found, object_part_found, parameter_names}
use Rattle.early_names.proofs.patterns.+names.Given as goal

abbrev pub invariant-add_array_names-loop-part : goal.invariant-add_array_names-loop-part
invariant-add_array_names-loop-part l = l.names.items ++ parameter_names (map array_part_found (drop l.part-index l.parts)) ≡ l.initial.names.items ++ parameter_names (map array_part_found l.parts)

abbrev pub invariant-add_object_names-loop-part : goal.invariant-add_object_names-loop-part
invariant-add_object_names-loop-part l = l.names.items ++ parameter_names (map object_part_found (drop l.part-index l.parts)) ≡ l.initial.names.items ++ parameter_names (map object_part_found l.parts)
