use Rattle.std.proofs.Common.{List, map, sym, ap, subst, ◌∙◌}
use Rattle.rebuild.specs.Files.{AreReadOf}
use Rattle.rebuild.proofs.building.Rebuild.accept.Goals as goal

pub hold-requires : goal.hold-requires
hold-requires g c =
    let r = c.requires.read in
    let A : List _ → Type 0 = λ made. AreReadOf g.G.ReadsModules.reads c.args.shelf.out made in
    subst A (sym (c.in-Ok.ensures.apart ∙ c.graph-graph.ensures.apart r.loaded.told r.loaded.entry r.loaded.is_graph)) r.read

pub keep-requires-clause-read : goal.keep-requires-clause-read
keep-requires-clause-read g c =
    let r = c.requires.read in
    let l = g.G.RelinksModules in
    let A : List _ → Type 0 = λ made. AreReadOf g.G.ReadsModules.reads c.args.shelf.out made in
    subst A
    (sym (c.in_ok-modules-in-Err-Refused.ensures ∙ ap (λ graph. map l.opened (l.modules_in graph)) c.in-Err-Refused.ensures.unchanged ∙ c.graph-graph.ensures.apart r.loaded.told r.loaded.entry r.loaded.is_graph))
    r.read
