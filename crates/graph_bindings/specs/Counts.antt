-- Where the bindings of modules begin.
use Rattle.scope_analysis.specs.declared.scopes.Scopes.{Scopes}
use Rattle.module_lowering.specs.Modules.{bindings_count, offsets_from}
use Rattle.graph_bindings.specs.declared.counts.Offsets.{Offsets}

abbrev pub offsets_at : Scopes → Offsets
offsets_at s = record { offsets = offsets_from 0 s.modules.items; count = bindings_count s }
