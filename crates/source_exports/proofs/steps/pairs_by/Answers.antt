use Rattle.std.proofs.Common.{◌≡◌, ◌∙◌, IfOk, false, rules, subst, sym, true}
use Rattle.std.specs.List.{filter, list_any}
use Rattle.std.specs.Str.{bytes_eq}
use Rattle.source_exports.specs.Known.{entry_pairs}
use Rattle.source_exports.proofs.Entries.{none_named, some_named}
use Rattle.source_exports.proofs.steps.pairs_by.Goals as goal

pub returns-then-not-is_exported : goal.returns-then-not-is_exported
returns-then-not-is_exported c =
    let none : list_any (λ e. bytes_eq e.name c.args.name.now) c.args.exports.now ≡ false = search rules in
    subst (λ xs. IfOk c.star_pairs.result (λ pairs. pairs ≡ xs)) (sym (none_named c.args.known.now c.args.home c.args.name.now c.args.exports.now none)) c.star_pairs.ensures

pub returns : goal.returns
returns c =
    let some : list_any (λ e. bytes_eq e.name c.args.name.now) c.args.exports.now ≡ true = search rules in
    let made : c.add_entry_pairs.new.pairs ≡ entry_pairs (filter (λ e. bytes_eq e.name c.args.name.now) c.args.exports.now) = search rules in
    made ∙ sym (some_named c.args.known.now c.args.home c.args.name.now c.args.exports.now some)
