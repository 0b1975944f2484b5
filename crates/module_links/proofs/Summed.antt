-- The summaries of one module more.
use Rattle.std.proofs.Common.{◌≡◌, ℕ, suc, ◌+◌, List, [], ◌∷◌, ◌++◌, length, map, take, Some, sym, ap, ◌∙◌, subst}
use Rattle.std.specs.Prelude.{slice_get}
use Rattle.es6_ast.specs.declared.graph.LoadedModule.{LoadedModule}
use Rattle.es6_static_semantics.specs.Endings.{wants}
use Rattle.module_endings.specs.declared.summary.Summary.{Summary}
use Rattle.module_links.specs.Links.{AreSummed}
use Rattle.module_resolution.specs.Summaries.{AreSummaries, summary_of}
use Rattle.module_summaries.proofs.Growing.{each-more, length-push, length-taken, take-one}

pub summed-more : (ms : List LoadedModule) (i : ℕ) (m : LoadedModule) (sums sums2 : List Summary) (offs offs2 : List (List ℕ)) (s : Summary) (o : List ℕ) → slice_get ms i ≡ Some m
    → AreSummed (take i ms) (record { summaries = sums; offsets = offs }) → s ≡ summary_of i m → o ≡ map (λ w. w.at) (wants m.tree) → sums2 ≡ sums ++ s ∷ [] → offs2 ≡ offs ++ o ∷ []
    → AreSummed (take (i + 1) ms) (record { summaries = sums2; offsets = offs2 })
summed-more ms i m sums sums2 offs offs2 s o there before is offsets sums-grown offs-grown =
    let xs : List LoadedModule = take i ms in
    let at : length xs ≡ i = length-taken ms i m there in
    let S : List Summary → Type 0 = λ list. AreSummaries (xs ++ m ∷ []) list in
    let O : List (List ℕ) → Type 0 = λ list. (k : ℕ) (n : LoadedModule) → slice_get (xs ++ m ∷ []) k ≡ Some n → slice_get list k ≡ Some (map (λ w. w.at) (wants n.tree)) in
    let P : List LoadedModule → Type 0 = λ list. AreSummed list (record { summaries = sums2; offsets = offs2 }) in
    subst P (sym (take-one ms i m there)) (record {
      summaries = subst S (sym sums-grown) (record {
        size = length-push sums s ∙ ap suc before.summaries.size ∙ sym (length-push xs m);
        each = each-more summary_of xs sums m s before.summaries.size before.summaries.each (is ∙ ap (λ k. summary_of k m) (sym at));
      });
      size = ap length offs-grown ∙ length-push offs o ∙ ap suc before.size ∙ sym (length-push xs m);
      offsets = subst O (sym offs-grown) (each-more (λ k n. map (λ w. w.at) (wants n.tree)) xs offs m o before.size before.offsets offsets);
    })
