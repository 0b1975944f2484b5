-- What is built of the items of a list, which are taken from its end.
use Rattle.std.proofs.Common.{◌≡◌, List, [], ◌∷◌, ◌++◌, reverse, sym, ap, subst, ◌∙◌, append_assoc, append-nil}
use Rattle.std.proofs.lemmas.List.{reverse-append}
use Rattle.es6_trees.proofs.Putting.{Added, added}

-- these were taken, and that was built of them, with the last first
pub data Taken {A B : Type 0} (Are : List A → List B → Type 0) (all left : List A) (back : List B) : Type 0 where
  taken : (es : List A) → all ≡ left ++ es → Are es (reverse back) → Taken Are all left back

pub none_taken : {A B : Type 0} (Are : List A → List B → Type 0) (all : List A) (back : List B) → back ≡ [] → Are [] [] → Taken Are all all back
none_taken Are all back e h = taken [] (sym (append-nil all)) (rw e h)

pub back_first : {B : Type 0} (back : List B) (b : B) → b ∷ reverse back ≡ reverse (back ++ b ∷ [])
back_first back b = sym (reverse-append back (b ∷ []))

pub one_taken : {A B : Type 0} {Are : List A → List B → Type 0} (Is : A → B → Type 0) {all left rest : List A} {back more : List B} {e : A} {b : B} → ((es : List A) (bs : List B) → Is e b → Are es bs → Are (e ∷ es) (b ∷ bs))
    → Taken Are all left back → left ≡ rest ++ e ∷ [] → Is e b → more ≡ back ++ b ∷ [] → Taken Are all rest more
one_taken {Are = Are} Is {all = all} {rest = rest} {back = back} {e = e} {b = b} put (taken es k hs) l h m =
    taken (e ∷ es)
    (k ∙ ap (λ xs. xs ++ es) l ∙ append_assoc rest (e ∷ []) es)
    (subst (λ bs. Are (e ∷ es) bs) (back_first back b ∙ sym (ap reverse m)) (put es (reverse back) h hs))

pub one_added : {A B : Type 0} {Are : List A → List B → Type 0} (Is : A → B → Type 0) {all left rest : List A} {back more : List B} {e : A} → ((es : List A) (b : B) (bs : List B) → Is e b → Are es bs → Are (e ∷ es) (b ∷ bs))
    → Taken Are all left back → left ≡ rest ++ e ∷ [] → Added (Is e) back more → Taken Are all rest more
one_added Is put t l (added b h m) = one_taken Is (λ es bs k ks. put es b bs k ks) t l h m

pub all_taken : {A B : Type 0} {Are : List A → List B → Type 0} {all : List A} {back : List B} → Taken Are all [] back → Are all (reverse back)
all_taken {Are = Are} {back = back} (taken es k hs) = subst (λ xs. Are xs (reverse back)) (sym k) hs
