use Rattle.std.proofs.Common.{◌≡◌, ◌++◌, drop, map}
use Rattle.graph_namespaces.specs.Asked.{asked_names, name_at}
use Rattle.graph_namespaces.proofs.reached.add_names.Given as goal

abbrev pub invariant-loop-export : goal.invariant-loop-export
invariant-loop-export l = l.names ++ map (name_at l.index) (drop l.export-index l.exports) ≡ asked_names l.index l.initial.names l.exports
