use Rattle.std.proofs.Common.{◌≡◌, ◌∷◌, ◌++◌, ◌-◌, get_or, length, map, reverse, take, drop, rules, ap, sym, ◌∙◌}
use Rattle.std.proofs.lemmas.List.Elements.{same_from_all_zip}
use Rattle.es5_early.proofs.Stacks.{view_more, newest_view}
use Rattle.es5_early.proofs.names.Names.push_newest.Goals as goal

pub loop-name-preserved : goal.loop-name-preserved
loop-name-preserved c =
    let stack = c.as_slice.result.now in
    let start = c.saturating_sub-start.result in
    let newest = take (length stack - start) (drop start stack) in
    let item = get_or newest c.loop-name.name-index c.name-item.result in
    let same : c.in_ok-clone.field-0.items ≡ c.name-item.result.items = search (rules, same_from_all_zip) in
    c.in_ok-push.ensures ∙ ap (λ name. name ∷ c.loop-name.self) (same ∙ ap (λ v. v.items) c.name-item.is)
    ∙ ap (λ names. item.items ∷ names) c.loop-name.invariant
    ∙ ap (λ names. names ++ c.args.self.now) (sym (view_more (λ v. v.items) newest c.loop-name.name-index c.name-item.result c.loop-name-test.true))

pub returns : goal.returns
returns c =
    let stack = c.as_slice.result.now in
    let start : c.saturating_sub-start.result ≡ length stack - c.args.count =
    c.saturating_sub-start.ensures ∙ ap (λ n. n - c.args.count) (c.len.ensures ∙ sym c.as_slice.ensures.len) in
    c.loop-name.invariant
    ∙ ap (λ names. names ++ c.args.self.now) (newest_view (λ v. v.items) stack c.args.count c.saturating_sub-start.result c.loop-name.name-index start c.loop-name-test.false ∙ ap (λ vs. take c.args.count (reverse (map (λ v. v.items) vs))) c.as_slice.ensures.value ∙ ap (take c.args.count) c.others.view_is)
