use Rattle.std.proofs.Common.{List, ℕ, sym, ◌∙◌, subst}
use Rattle.es6_ast.specs.declared.graph.LoadedModule.{LoadedModule}
use Rattle.module_endings.specs.declared.answers.Outcome.{Outcome}
use Rattle.module_endings.specs.declared.summary.Summary.{Summary}
use Rattle.module_endings.specs.Ends.{AreOutcomes, all_wants}
use Rattle.module_links.specs.Links.{IsLinkable, LinksTo, graph_of}
use Rattle.module_links.proofs.links.endings_of.Goals as goal

pub returns : goal.returns
returns g c =
    let sums = c.in_ok-known.known.summaries in
    let H : List (List ℕ) → Type 0 = λ hosts. AreOutcomes c.as_slice.result.now hosts (all_wants c.as_slice.result.now) c.in_ok-all.all in
    let S : List Summary → Type 0 = λ list. AreOutcomes list c.args.hosts.now (all_wants list) c.in_ok-all.all in
    let O : List Outcome → Type 0 = λ list. AreOutcomes sums c.args.hosts.now (all_wants sums) list in
    let are : AreOutcomes sums c.args.hosts.now (all_wants sums) c.as_slice-3.result.now
    = subst O (sym c.as_slice-3.ensures) (subst S c.as_slice.ensures (subst H (c.as_slice-2.ensures ∙ c.in_ok-names.ensures) c.in_ok-all.ensures)) in
    let L : List LoadedModule → Type 0 = λ list. IsLinkable (graph_of list) in
    let M : List LoadedModule → Type 0 = λ list. LinksTo (graph_of list) c.args.hosts.now c.share.result in
    subst M c.as_slice-modules.ensures (c.share.ensures c.args.hosts.now (subst L (sym c.as_slice-modules.ensures) c.requires) are)
