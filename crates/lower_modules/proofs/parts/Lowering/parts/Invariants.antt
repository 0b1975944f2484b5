use Rattle.std.proofs.Common.{◌≡◌, drop, nat_eq}
use Rattle.indexmap.specs.IndexSet.{contains}
use Rattle.module_lowering.specs.Lowering.{each, each_onto}
use Rattle.module_lowering.specs.Modules.{in_module}
use Rattle.lower_modules.specs.Parts.{parts_by}
use Rattle.lower_modules.proofs.parts.Lowering.parts.Given as goal

abbrev pub invariant-loop-loaded : goal.invariant-loop-loaded
invariant-loop-loaded g l =
    each_onto l.made (parts_by (contains nat_eq l.self.wanted.now) l.self.count l.home (drop l.loaded-index l.modules) l.rest) l.self.bindings.now (in_module 0) l.state
    ≡ each (parts_by (contains nat_eq l.self.wanted.now) l.self.count 0 l.modules l.namespaces) l.self.bindings.now (in_module 0) l.initial.state
