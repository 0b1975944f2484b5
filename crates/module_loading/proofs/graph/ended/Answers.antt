use Rattle.std.proofs.Common.{◌≡◌, suc, [], ◌∷◌, length, reverse, Some, sym, ap, ◌∙◌, ◌++◌, arith}
use Rattle.std.specs.Prelude.{slice_get}
use Rattle.module_loading.specs.Requests.{renumbered, zipped}
use Rattle.module_loading.proofs.Lists.{length-push, zipped-moved}
use Rattle.module_loading.proofs.graph.ended.Goals as goal

pub loop-made-preserved : goal.loop-made-preserved
loop-made-preserved g c =
    let f = renumbered g.R.ReadsModules.requests g.R.ReadsModules.requested c.args.loading.paths in
    let paths = c.args.loading.paths in
    let left = c.pop.new.self in
    let popped : length c.loop-made.modules ≡ suc (length left) = ap length c.in-Some.ensures ∙ length-push left c.in-Some.made in
    let there : slice_get paths (length left) ≡ Some c.path-base.result.now = ap (λ n. slice_get paths n) (sym c.len.ensures) ∙ c.path-base.ensures in
    let grown : c.push.new.self.items ≡ c.loop-made.back.items ++ f c.in-Some.made c.path-base.result.now ∷ []
    = c.in_ok-push.ensures.items ∙ ap (λ z. c.loop-made.back.items ++ z ∷ []) c.in_ok-renumbered.ensures in (
      omega (arith, popped, c.loop-made.invariant.0),
      zipped-moved f left paths c.in-Some.made c.path-base.result.now c.loop-made.back.items c.push.new.self.items _ there grown
          (ap (λ list. zipped f list paths ++ reverse c.loop-made.back.items) (sym c.in-Some.ensures) ∙ c.loop-made.invariant.1),
    )
