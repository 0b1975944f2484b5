use Rattle.std.proofs.Common.{◌≡◌, ℕ, List, ◌++◌, sym, ap, ◌∙◌, append-nil}
use Rattle.lower_listed.proofs.Blocks.{block_lexicals}
use Rattle.lower_listed.proofs.lexicals.+push_lexicals.Goals as goal

pub returns-in-Block : goal.returns-in-Block
returns-in-Block t c =
    let out : List ℕ = c.args.out.now in
    sym (ap (λ (ats : List ℕ). out ++ ats) (block_lexicals c.args.statement.now _ c.in-Block.is) ∙ append-nil out)
