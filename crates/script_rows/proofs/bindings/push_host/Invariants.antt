use Rattle.std.proofs.Common.{◌≡◌, drop}
use Rattle.script_core.specs.Meaning.{host_binding}
use Rattle.script_rows.proofs.bindings.push_host.Given as goal

abbrev pub invariant-loop-at : goal.invariant-loop-at
invariant-loop-at l = record {
  unwritten : l.bindings ≡ l.initial.bindings;
  same : host_binding l.var l.name (drop l.at l.hosts) (drop l.at l.functions) ≡ host_binding l.var l.name l.hosts l.functions;
}
