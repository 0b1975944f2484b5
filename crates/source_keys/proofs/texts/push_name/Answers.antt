use Rattle.std.proofs.Common.{◌≡◌, ℕ, List, ◌++◌, sym, ap, ◌∙◌, append-nil}
use Rattle.source_keys.proofs.Units.{units_none}
use Rattle.source_keys.proofs.texts.push_name.Goals as goal

pub returns-in-None : goal.returns-in-None
returns-in-None c =
    let items : List ℕ = c.args.units.now.items in
    sym (ap (λ (us : List ℕ). items ++ us) (units_none c.args.name.now c.in-None.ensures.cases) ∙ append-nil items)
