-- What the least pair of a list says, of an answer that the program has.
use Rattle.std.proofs.Common.{◌≡◌, [], List, Option, None, Result, Ok, Err, IfOk, IfSome, sym, ap, ◌∙◌}
use Rattle.std.specs.Option.{option_map}
use Rattle.early_findings.proofs.Least.{least_pair-first, least_pair-none, view-first}
use Rattle.early_findings.specs.Pairs.{pair_of}
use Rattle.early_findings.specs.declared.finding.Finding.{Finding}
use Rattle.es6_static_semantics.specs.Findings.{IsFirst, Pair, least_pair}

pub first_of : {E : Type 0} (r : Result (Option Finding) E) (ps : List Pair) → IfOk r (λ found. option_map pair_of found ≡ least_pair ps)
    → IfOk r (λ found. IfSome found (λ finding. IsFirst (pair_of finding) ps))
first_of (Ok found) ps e = view-first pair_of found (λ p. IsFirst p ps) (λ p some. least_pair-first ps p (sym e ∙ some))
first_of (Err failed) ps e = tt

pub none_of : {E : Type 0} (r : Result (Option Finding) E) (ps : List Pair) → IfOk r (λ found. option_map pair_of found ≡ least_pair ps)
    → IfOk r (λ found. found ≡ None → ps ≡ [])
none_of (Ok found) ps e = λ none. least_pair-none ps (sym e ∙ ap (option_map pair_of) none)
none_of (Err failed) ps e = tt
