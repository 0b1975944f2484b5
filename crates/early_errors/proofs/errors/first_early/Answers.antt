use Rattle.std.proofs.Common.{◌≡◌, sym, ap, ◌∙◌}
use Rattle.std.specs.Option.{option_map}
use Rattle.es6_static_semantics.specs.Findings.{IsFirst, least_pair}
use Rattle.es6_static_semantics.specs.Early.{early_pairs}
use Rattle.early_findings.specs.Pairs.{pair_of}
use Rattle.early_findings.proofs.Least.{least_pair-first, least_pair-none, view-first}
use Rattle.early_errors.proofs.errors.first_early.Goals as goal

pub returns-clause-first : goal.returns-clause-first
returns-clause-first c =
    let pairs = early_pairs c.args.tree.now in
    let least : option_map pair_of c.least.result ≡ least_pair pairs = c.least.ensures ∙ c.in_ok-finder.ensures in
    view-first pair_of c.least.result (λ p. IsFirst p pairs) (λ p e. least_pair-first pairs p (sym least ∙ e))

pub returns-clause-none : goal.returns-clause-none
returns-clause-none c =
    let pairs = early_pairs c.args.tree.now in
    let least : option_map pair_of c.least.result ≡ least_pair pairs = c.least.ensures ∙ c.in_ok-finder.ensures in
    λ e. least_pair-none pairs (sym least ∙ ap (option_map pair_of) e)
