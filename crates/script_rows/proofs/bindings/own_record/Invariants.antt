use Rattle.std.proofs.Common.{◌≡◌, ◌++◌, drop}
use Rattle.std.specs.List.{flat_map}
use Rattle.script_core.specs.Meaning.{own_record}
use Rattle.script_rows.proofs.bindings.own_record.Given as goal

abbrev pub invariant-loop-part : goal.invariant-loop-part
invariant-loop-part l = l.made ++ flat_map own_record (drop l.part-index l.parts) ≡ flat_map own_record l.parts
