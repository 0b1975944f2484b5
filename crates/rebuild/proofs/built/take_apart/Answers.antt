use Rattle.std.proofs.Common.{[], ◌∷◌, ◌++◌, ap, sym, map, reverse, append_assoc, ◌∙◌}
use Rattle.module_loading.proofs.Lists.{map-push, reverse-push}
use Rattle.rebuild.proofs.built.take_apart.Goals as goal

pub loop-made-preserved : goal.loop-made-preserved
loop-made-preserved g c =
    let f = g.G.RelinksModules.opened in
    let left = c.pop.new.self in
    let one = f c.in-Some.made in
    let behind = reverse c.loop-made.back.items in
    ap (λ list. map f left ++ reverse list) (c.in_ok-push.ensures.items ∙ ap (λ z. c.loop-made.back.items ++ z ∷ []) c.in_ok-opened.ensures)
    ∙ ap (λ list. map f left ++ list) (reverse-push c.loop-made.back.items one)
    ∙ sym (append_assoc (map f left) (one ∷ []) behind)
    ∙ ap (λ list. list ++ behind) (sym (map-push f left c.in-Some.made)) ∙ ap (λ list. map f list ++ behind) (sym c.in-Some.ensures)
    ∙ c.loop-made.invariant
