use Rattle.std.proofs.Common.{◌≡◌, ◌≤◌, length, ap, arith}
use Rattle.scope_analysis.proofs.Sums.{all_summed}
use Rattle.scope_analysis.proofs.scopes.Scopes.uncertain.Goals as goal

pub returns : goal.returns
returns c =
    let items = c.args.self.now.modules.items in
    let size : length c.deref-module-items.result.now ≡ length items = ap length c.deref-module-items.ensures.value in
    let past : length items ≤ c.loop-module.module-index = omega (arith, size, c.loop-module-test.false) in
    all_summed (λ m. m.uncertain) items c.loop-module.module-index c.loop-module.sum 18446744073709551615 past c.loop-module.invariant.within c.loop-module.invariant.total
