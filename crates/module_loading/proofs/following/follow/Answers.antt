use Rattle.std.proofs.Common.{ℕ, List, subst}
use Rattle.module_loading.specs.States.{Picks}
use Rattle.module_loading.proofs.Follow.{follow, picks-no_read}
use Rattle.module_loading.proofs.following.follow.Goals as goal

pub returns-clause-follows : goal.returns-clause-follows
returns-clause-follows g c = λ told entry modules rest comes kept.
    let r = g.R.ReadsModules in
    let asked = c.asked_of-asked.result in
    let P : List (List ℕ) → Type 0 = λ paths. Picks paths asked.base.now asked.place asked.request.now c.picked.result in
    follow r.reads r.requests r.shows r.refuses told entry modules c.args.wait rest asked.base.now asked.place asked.request.now c.picked.result comes
    (c.asked_of-asked.ensures modules rest kept) (subst P kept.paths_are c.picked.ensures)

pub returns-clause-no_read : goal.returns-clause-no_read
returns-clause-no_read g c =
    let asked = c.asked_of-asked.result in
    picks-no_read c.args.loading.now.paths asked.base.now asked.place asked.request.now c.picked.result c.picked.ensures
