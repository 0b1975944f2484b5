use Rattle.std.proofs.Common.{◌≡◌, drop}
use Rattle.std.specs.List.{list_any}
use Rattle.source_modules.specs.Importing.{namespace_imported}
use Rattle.source_modules.proofs.namespaces.imports_namespace.Given as goal

abbrev pub invariant-loop-item : goal.invariant-loop-item
invariant-loop-item l =
    list_any (namespace_imported l.number l.loaded.requests) (drop l.item-index l.loaded.tree.items)
    ≡ list_any (namespace_imported l.number l.loaded.requests) l.loaded.tree.items
