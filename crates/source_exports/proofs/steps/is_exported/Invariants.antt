use Rattle.std.proofs.Common.{◌≡◌, drop}
use Rattle.std.specs.List.{list_any}
use Rattle.std.specs.Str.{bytes_eq}
use Rattle.source_exports.proofs.steps.is_exported.Given as goal

abbrev pub invariant-loop-entry : goal.invariant-loop-entry
invariant-loop-entry l =
    list_any (λ e. bytes_eq e.name l.name) (drop l.entry-index l.exports) ≡ list_any (λ e. bytes_eq e.name l.name) l.exports
