use Rattle.std.proofs.Common.{subst₂}
use Rattle.runs.specs.Laws.{spanned}
use Rattle.runs.proofs.Monotone.{same_wider}
use Rattle.runs.proofs.same_is_monotone.Goals as goal

pub returns : goal.returns
returns g c = λ l1 r1 l2 r2 holds a b same. same_wider (spanned l1 r1) (spanned l2 r2) (λ e f related. subst₂ (λ x y. spanned l2 r2 x y) related.1 related.2 (holds related.0)) a b same
