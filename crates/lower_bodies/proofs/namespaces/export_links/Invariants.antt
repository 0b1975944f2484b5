use Rattle.std.proofs.Common.{◌≡◌, ◌++◌, drop}
use Rattle.std.specs.List.{flat_map}
use Rattle.lowering_rules.specs.statement_rules.Bodies.{export_links}
use Rattle.lower_bodies.proofs.namespaces.export_links.Given as goal

abbrev pub invariant-loop-one : goal.invariant-loop-one
invariant-loop-one l = l.links ++ flat_map export_links (drop l.one-index l.exports) ≡ flat_map export_links l.exports
