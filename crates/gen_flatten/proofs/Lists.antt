-- One slot more.
use Rattle.std.proofs.Common.{◌≡◌, ℕ, ◌+◌, suc, ap, arith}
use Rattle.core_ast.specs.declared.naming.Fresh.{Fresh}
use Rattle.pass_rules.specs.yield_rules.Yields.{drawn, one_drawn}

pub drawn_more : (n : ℕ) (fresh : Fresh) → drawn (n + 1) fresh ≡ one_drawn (drawn n fresh)
drawn_more n fresh = let e : n + 1 ≡ suc n = omega arith in ap (λ k. drawn k fresh) e
