use Rattle.std.proofs.Common.{◌≡◌, ◌++◌, List, ℕ, sym, ◌∙◌, subst}
use Rattle.es6_ast.specs.declared.graph.LoadedModule.{LoadedModule}
use Rattle.module_endings.specs.declared.answers.Outcome.{Outcome}
use Rattle.module_endings.specs.declared.summary.Summary.{Summary}
use Rattle.module_endings.specs.Ends.{AreOutcomes, all_wants}
use Rattle.module_endings.specs.Webs.{AreDistinct}
use Rattle.module_links.proofs.Shared.{distinct-hosts}
use Rattle.module_resolution.specs.Summaries.{AreSummaries}
use Rattle.graph_namespaces.specs.Asked.{AskAll}
use Rattle.graph_namespaces.specs.Entries.{AreSharedOut}
use Rattle.graph_namespaces.proofs.Spaces.{namespaces}
use Rattle.graph_namespaces.proofs.namespaces.namespaces_of.Goals as goal

pub outcomes-requires : goal.outcomes-requires
outcomes-requires g c = subst (λ hs. AreDistinct hs) (sym (c.as_slice-4.ensures ∙ c.in_ok-names.ensures)) (distinct-hosts c.args.hosts.now c.len-count.ensures.are_host_names)

pub returns : goal.returns
returns g c =
    let known = c.in_ok-known.known in
    let asked = c.in_ok-asked.asked in
    let hosts = c.args.hosts.now in
    let both : List Summary = known ++ asked in
    let third : c.as_slice-3.result.now ≡ both = c.as_slice-3.ensures ∙ c.in_ok-append.ensures in
    let fifth : c.as_slice-5.result.now ≡ both = c.as_slice-5.ensures ∙ c.in_ok-append.ensures in
    let K : List Summary → Type 0 = λ ks. AreOutcomes ks c.as_slice-4.result.now (all_wants ks) c.in_ok-all.all in
    let H : List (List ℕ) → Type 0 = λ hs. AreOutcomes both hs (all_wants both) c.in_ok-all.all in
    let W : List Summary → Type 0 = λ ks. AreOutcomes both hosts (all_wants ks) c.in_ok-all.all in
    let O : List Outcome → Type 0 = λ os. AreOutcomes both hosts (all_wants c.as_slice-5.result.now) os in
    let are : AreOutcomes both hosts (all_wants c.as_slice-5.result.now) c.as_slice-6.result.now
    = subst O (sym c.as_slice-6.ensures) (subst W (sym fifth) (subst H (c.as_slice-4.ensures ∙ c.in_ok-names.ensures) (subst K third c.in_ok-all.ensures))) in
    let A : List Summary → Type 0 = λ ks. AreSharedOut both hosts c.len-count-2.result ks c.in_ok-namespaces.namespaces in
    let N : ℕ → Type 0 = λ n. AreSharedOut both hosts n both c.in_ok-namespaces.namespaces in
    let M : List LoadedModule → Type 0 = λ ms. AreSummaries ms known in
    let Q : List Summary → Type 0 = λ ks. AskAll ks asked in
    namespaces c.args.graph.now hosts known asked c.in_ok-namespaces.namespaces c.requires (subst M c.as_slice.ensures c.in_ok-known.ensures) (subst Q c.as_slice-2.ensures c.in_ok-asked.ensures)
    (subst N c.len-count-2.ensures (subst A fifth (c.in_ok-namespaces.ensures both hosts are)))
