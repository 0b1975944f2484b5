use Rattle.std.proofs.Common.{[], None, map, sym, ap, ◌∙◌}
use Rattle.std.specs.Option.{option_map}
use Rattle.es5_ast.specs.Early.{IsFirst, joined, least_pair, script_pairs, stat_pairs}
use Rattle.es5_early.specs.Pairs.{least_with, pair_of}
use Rattle.es5_early.specs.Rounds.{round}
use Rattle.es5_early.proofs.Least.{least_pair-first, least_pair-none, view-first, view-none}
use Rattle.es5_early.proofs.Walked.{joined-map}
use Rattle.es5_early.proofs.first_pair.Goals as goal

pub returns-clause-least : goal.returns-clause-least
returns-clause-least c =
    let around = round c.new-labels.result c.of_script.result in
    let statements = c.args.script.now.statements in
    c.least.ensures ∙ c.in_ok-statements.ensures.pairs
    ∙ ap (λ least. least_with least (joined (λ s. s around) (map stat_pairs c.as_slice.result.now))) c.new-finder.ensures
    ∙ ap (λ list. least_with None (joined (λ s. s around) (map stat_pairs list))) c.as_slice.ensures
    ∙ ap (least_with None) (joined-map (λ s. s around) stat_pairs statements)
    ∙ ap (λ labels. least_with None (joined (λ s. stat_pairs s (round labels c.of_script.result)) statements)) c.new-labels.ensures
    ∙ ap (λ place. least_with None (joined (λ s. stat_pairs s (round (record { all = []; loops = [] }) place)) statements)) c.of_script.ensures

pub returns-clause-none : goal.returns-clause-none
returns-clause-none c =
    let pairs = script_pairs c.args.script.now.statements in
    let same = returns-clause-least c in (
      λ none. least_pair-none pairs (sym same ∙ ap (option_map pair_of) none),
      λ empty. view-none pair_of c.least.result (same ∙ ap least_pair empty),
    )

pub returns-clause-first : goal.returns-clause-first
returns-clause-first c =
    let pairs = script_pairs c.args.script.now.statements in
    view-first pair_of c.least.result (λ p. IsFirst p pairs) (λ p some. least_pair-first pairs p (sym (returns-clause-least c) ∙ some))
