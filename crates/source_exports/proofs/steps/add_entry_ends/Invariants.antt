use Rattle.std.proofs.Common.{◌≡◌, ◌++◌, drop}
use Rattle.std.specs.List.{filter}
use Rattle.std.specs.Str.{bytes_eq}
use Rattle.source_exports.specs.Known.{entry_ends}
use Rattle.source_exports.proofs.steps.add_entry_ends.Given as goal

abbrev pub invariant-loop-entry : goal.invariant-loop-entry
invariant-loop-entry l =
    l.ends ++ entry_ends (filter (λ e. bytes_eq e.name l.name) (drop l.entry-index l.exports))
    ≡ l.initial.ends ++ entry_ends (filter (λ e. bytes_eq e.name l.name) l.exports)
