use Rattle.std.proofs.Common.{map, [], ap, sym, ◌∙◌}
use Rattle.std.proofs.lemmas.List.{drop_all}
use Rattle.std.proofs.lemmas.List.Sums.{fold-append}
use Rattle.es5_ast.specs.Early.{F, earlier, stat_pairs, under_label, when}
use Rattle.es5_ast.specs.Lexical.{is_one_of}
use Rattle.es5_early.specs.Pairs.{least_with}
use Rattle.es5_early.specs.Parts.{held}
use Rattle.es5_early.specs.Rounds.{round}
use Rattle.es5_early.proofs.Walked.{named_pairs, property_pairs-names, round-pushed}
use Rattle.es5_early.proofs.finder.Finder.+walk.Goals as goal

pub labelled-returns-clause-pairs : goal.labelled-returns-clause-pairs
labelled-returns-clause-pairs t c =
    let labels = c.args.labels.now in
    let label = c.args.label.now in
    let body = stat_pairs c.args.body.now in
    let behind = under_label label.name (round labels c.args.place) in
    let within = round-pushed labels c.args.place c.under_label.result label.name c.in_ok-name.name.items c.push.new.self c.len-count.result c.in_ok-name.ensures c.in_ok-push.ensures c.len-count.ensures c.under_label.ensures in
    c.in_ok-statement.ensures.pairs ∙ ap (λ r. least_with c.when.new.self (body r)) within
    ∙ ap (λ least. least_with least (body behind)) (c.when.ensures ∙ ap (λ b. least_with c.args.self.now (when b (F 6) label.span.begin)) (c.contains.ensures ∙ ap (λ name. is_one_of name labels.all) (c.as_slice.ensures.value ∙ c.in_ok-name.ensures)))
    ∙ sym (fold-append earlier c.args.self.now (when (is_one_of label.name labels.all) (F 6) label.span.begin) (body behind))

pub properties-returns : goal.properties-returns
properties-returns t c =
    let ps = c.args.properties.now in
    let old = c.args.self.now in
    sym (ap (λ rest. least_with c.loop-property.self (named_pairs c.loop-property.names (map held rest) c.args.inside)) (drop_all c.loop-property.property-index ps c.loop-property-test.false))
    ∙ c.loop-property.invariant ∙ ap (λ names. least_with old (named_pairs names (map held ps) c.args.inside)) c.new-names.ensures
    ∙ ap (least_with old) (sym (property_pairs-names [] (map held ps) c.args.inside))
