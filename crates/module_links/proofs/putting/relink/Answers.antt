use Rattle.std.proofs.Common.{◌≡◌, suc, ◌∷◌, ◌++◌, [], length, reverse, sym, ap, ◌∙◌, arith}
use Rattle.module_links.specs.Zips.{zipped}
use Rattle.module_links.proofs.Lists.{zipped-moved}
use Rattle.module_summaries.proofs.Growing.{length-push}
use Rattle.module_links.proofs.putting.relink.Goals as goal

pub loop-module-preserved-in-Some-pop : goal.loop-module-preserved-in-Some-pop
loop-module-preserved-in-Some-pop g c =
    let f = g.L.Links.linked_to in
    let ms = c.pop.new.self in
    let es = c.pop-in-Some.new.self in
    let m : length c.loop-module.modules ≡ suc (length ms) = ap length c.in-Some.ensures ∙ length-push ms c.in-Some.module in
    let e : length c.loop-module.endings ≡ suc (length es) = ap length c.in-Some-pop.ensures ∙ length-push es c.in-Some-pop.own in
    let size : length es ≡ length ms = omega (arith, m, e, c.loop-module.invariant.0) in (
      size,
      omega (arith, m, c.loop-module.invariant.1, c.push_reserved.ensures.len, c.push_reserved.ensures.capacity),
      zipped-moved f ms es c.in-Some.module c.in-Some-pop.own c.loop-module.room.items c.push_reserved.new.self.items _ size
          (c.push_reserved.ensures.items ∙ ap (λ z. c.loop-module.room.items ++ z ∷ []) c.linked.ensures)
          (ap (λ list. zipped f list (es ++ c.in-Some-pop.own ∷ []) ++ reverse c.loop-module.room.items) (sym c.in-Some.ensures)
          ∙ ap (λ list. zipped f c.loop-module.modules list ++ reverse c.loop-module.room.items) (sym c.in-Some-pop.ensures)
          ∙ c.loop-module.invariant.2),
    )
