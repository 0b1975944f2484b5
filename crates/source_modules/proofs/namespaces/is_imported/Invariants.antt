use Rattle.std.proofs.Common.{◌≡◌, drop}
use Rattle.std.specs.List.{list_any}
use Rattle.source_meaning.specs.Modules.{imports_namespace}
use Rattle.source_modules.proofs.namespaces.is_imported.Given as goal

abbrev pub invariant-loop-loaded : goal.invariant-loop-loaded
invariant-loop-loaded l = list_any (imports_namespace l.number) (drop l.loaded-index l.modules) ≡ list_any (imports_namespace l.number) l.modules
