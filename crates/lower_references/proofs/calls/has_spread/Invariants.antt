use Rattle.std.proofs.Common.{◌≡◌, drop}
use Rattle.std.specs.List.{list_any}
use Rattle.lowering_rules.specs.reference_rules.References.{is_spread}
use Rattle.lower_references.proofs.calls.has_spread.Given as goal

abbrev pub invariant-loop-part : goal.invariant-loop-part
invariant-loop-part l = list_any is_spread (drop l.part-index l.parts) ≡ list_any is_spread l.parts
