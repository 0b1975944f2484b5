use Rattle.std.proofs.Common.{◌∙◌, sym, subst₂}
use Rattle.runs.specs.Laws.{spanned}
use Rattle.runs.proofs.Monotone.{same_chain}
use Rattle.runs.proofs.same_is_transitive.Goals as goal

pub returns : goal.returns
returns g c = λ l1 r1 l2 r2 l3 r3 leads a b d x y. same_chain (spanned l1 r1) (spanned l2 r2) (spanned l3 r3) (λ e f h p q. subst₂ (λ u v. spanned l3 r3 u v) p.1 q.2 (leads p.0 q.0 (p.2 ∙ sym q.1))) a b d x y
