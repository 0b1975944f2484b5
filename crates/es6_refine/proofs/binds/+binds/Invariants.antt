use Rattle.std.proofs.Common.{◌≡◌, drop}
use Rattle.es6_ast.specs.declared.tree.ArrayPart.{out-ArrayPart}
use Rattle.es6_ast.specs.declared.tree.ObjectPart.{out-ObjectPart}
use Rattle.es6_reading.specs.Refine.{all_bind, array_part_binds, binds_names, object_part_binds}
use Rattle.es6_refine.specs.Fitting.{fit_of}
use Rattle.es6_refine.proofs.binds.+binds.Given as goal

abbrev pub invariant-array_parts_bind-loop-part : goal.invariant-array_parts_bind-loop-part
invariant-array_parts_bind-loop-part l = fit_of (all_bind (λ e. array_part_binds (binds_names l.depth) (out-ArrayPart e)) (drop l.part-index l.parts)) ≡ fit_of (all_bind (λ e. array_part_binds (binds_names l.depth) (out-ArrayPart e)) l.parts)

abbrev pub invariant-object_parts_bind-loop-part : goal.invariant-object_parts_bind-loop-part
invariant-object_parts_bind-loop-part l = fit_of (all_bind (λ e. object_part_binds (binds_names l.depth) (out-ObjectPart e)) (drop l.part-index l.parts)) ≡ fit_of (all_bind (λ e. object_part_binds (binds_names l.depth) (out-ObjectPart e)) l.parts)
