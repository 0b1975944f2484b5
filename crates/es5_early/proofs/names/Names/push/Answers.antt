use Rattle.std.proofs.Common.{◌≡◌, ◌+◌, cond, count_by, rules, ap, sym, ◌∙◌}
use Rattle.std.specs.Str.{bytes_eq}
use Rattle.std.proofs.lemmas.List.Elements.{same_from_all_zip}
use Rattle.es5_early.specs.Counts.{count_of, is_name}
use Rattle.es5_early.proofs.Stacks.{pushed}
use Rattle.es5_early.proofs.names.Names.push.Goals as goal

pub invariant_of-self-in_default : goal.invariant_of-self-in_default
invariant_of-self-in_default c = λ name.
    let counts = c.self.inside.counts in
    let count = c.count_of-count.result in
    let same : c.in_ok-key.key.items ≡ c.args.name.items = search (rules, same_from_all_zip) in
    let here : count ≡ count_of counts c.args.name.items =
    c.count_of-count.ensures ∙ ap (count_of counts) (c.as_slice.ensures.value ∙ same) in
    c.in_default.ensures.ok name ∙ ap (λ key. cond (bytes_eq key name) (count + 1) (count_of counts name)) same
    ∙ pushed (count_of counts) c.self.inside.stack.items c.args.name count c.self.invariant here name
    ∙ ap (count_by (is_name name)) (sym c.in_ok-push.ensures.items)
