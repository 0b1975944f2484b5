-- Lists to which one element more is added, and the summaries of one module more.
use Rattle.std.proofs.Common.{◌≡◌, ℕ, zero, suc, ◌+◌, List, [], ◌∷◌, ◌++◌, length, take, Some, refl, sym, ap, ◌∙◌, subst, inl, inr, add-one}
use Rattle.std.specs.Prelude.{slice_get}
use Rattle.es6_ast.specs.declared.graph.LoadedModule.{LoadedModule}
use Rattle.module_endings.specs.declared.summary.Summary.{Summary}
use Rattle.module_endings.proofs.Gets.{get-left, get-push_cases, some-same}
use Rattle.module_resolution.specs.Summaries.{AreSummaries, summary_of}

pub get-last : {A : Type 0} (xs : List A) (x : A) → slice_get (xs ++ x ∷ []) (length xs) ≡ Some x
get-last [] x = refl
get-last (y ∷ xs) x = get-last xs x

-- what stands at an index is the last of those up to it
pub take-one : {A : Type 0} (xs : List A) (i : ℕ) (x : A) → slice_get xs i ≡ Some x → take (i + 1) xs ≡ take i xs ++ x ∷ []
take-one xs i x there = ap (λ n. take n xs) (add-one i) ∙ taken xs i x there
  where
    taken : {A : Type 0} (xs : List A) (i : ℕ) (x : A) → slice_get xs i ≡ Some x → take (suc i) xs ≡ take i xs ++ x ∷ []
    taken [] i x e = absurd (cc)
    taken (y ∷ xs) zero x e = ap (λ z. z ∷ []) (some-same e)
    taken (y ∷ xs) (suc i) x e = ap (λ rest. y ∷ rest) (taken xs i x e)

pub length-taken : {A : Type 0} (xs : List A) (i : ℕ) (x : A) → slice_get xs i ≡ Some x → length (take i xs) ≡ i
length-taken [] i x e = absurd (cc)
length-taken (y ∷ xs) zero x e = refl
length-taken (y ∷ xs) (suc i) x e = ap suc (length-taken xs i x e)

pub length-push : {A : Type 0} (xs : List A) (x : A) → length (xs ++ x ∷ []) ≡ suc (length xs)
length-push [] x = refl
length-push (y ∷ xs) x = ap suc (length-push xs x)

-- two lists, of which the second follows from the first, with one element more
pub each-more : {A B : Type 0} (f : ℕ → A → B) (xs : List A) (ys : List B) (x : A) (y : B) → length ys ≡ length xs → ((i : ℕ) (z : A) → slice_get xs i ≡ Some z → slice_get ys i ≡ Some (f i z))
    → y ≡ f (length xs) x → (i : ℕ) (z : A) → slice_get (xs ++ x ∷ []) i ≡ Some z → slice_get (ys ++ y ∷ []) i ≡ Some (f i z)
each-more f xs ys x y size each is i z there = elim (get-push_cases xs x i z there) [
  | inl old ↦ get-left ys (y ∷ []) i (f i z) (each i z old)
  | inr last ↦
      ap (λ k. slice_get (ys ++ y ∷ []) k) (last.0 ∙ sym size) ∙ get-last ys y ∙ ap (λ v. Some v) is ∙ ap (λ k. Some (f k x)) (sym last.0) ∙ ap (λ v. Some (f i v)) (sym last.1)
]

-- one summary more
pub summaries-more : (ms : List LoadedModule) (i : ℕ) (m : LoadedModule) (old new : List Summary) (s : Summary) → slice_get ms i ≡ Some m → AreSummaries (take i ms) old → s ≡ summary_of i m → new ≡ old ++ s ∷ [] → AreSummaries (take (i + 1) ms) new
summaries-more ms i m old new s there before is grown =
    let xs : List LoadedModule = take i ms in
    let at : length xs ≡ i = length-taken ms i m there in
    let P : List LoadedModule → Type 0 = λ list. AreSummaries list new in
    let S : List Summary → Type 0 = λ list. AreSummaries (xs ++ m ∷ []) list in
    subst P (sym (take-one ms i m there)) (subst S (sym grown) (record {
      size = length-push old s ∙ ap suc before.size ∙ sym (length-push xs m);
      each = each-more summary_of xs old m s before.size before.each (is ∙ ap (λ k. summary_of k m) (sym at));
    }))
