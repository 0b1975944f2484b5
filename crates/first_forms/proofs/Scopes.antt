-- Sets of names, as lists: who is among them, and how many there are.
use Rattle.std.proofs.Common.{◌≡◌, ℕ, zero, suc, ◌+◌, ◌<◌, ◌≤◌, ◌⊎◌, Bool, true, false, cond, not, ◌||◌, ◌&&◌, List, [], ◌∷◌, ◌++◌, length, refl, sym, ap, subst, ◌∙◌, arith, inl, inr, ⊎_elim, length-append, append_assoc}
use Rattle.std.specs.Prelude.{fold}
use Rattle.std.specs.List.{list_all}
use Rattle.std.specs.Str.{bytes_eq}
use Rattle.std.proofs.lemmas.Slice.Eq.{bytes_eq-Decides}
use Rattle.std.proofs.lemmas.List.Folds.{list_any-append}
use Rattle.std.proofs.lemmas.List.{append-nil}
use Rattle.first_forms.specs.Names.{is_one_of, is_identifier_name, is_name_part, unbindable_names, IsBindable}
use Rattle.first_forms.specs.Reading.{importable, with_host, with_name, is_bindable}
use Rattle.first_forms.specs.WellFormed.{AreImports}

-- ## Tests

pub bool_cases : (b : Bool) → (b ≡ true) ⊎ (b ≡ false)
bool_cases true = inl refl
bool_cases false = inr refl

or_cases : (a b : Bool) → (a || b) ≡ true → (a ≡ true) ⊎ (b ≡ true)
or_cases true b h = inl refl
or_cases false b h = inr h

or_false : (a b : Bool) → (a || b) ≡ false → (a ≡ false) × (b ≡ false)
or_false true b h = absurd (cc)
or_false false b h = (refl, h)

or_both : (a b : Bool) → a ≡ false → b ≡ false → (a || b) ≡ false
or_both a b p q = rw (p, q) refl

or_first : (a b : Bool) → a ≡ true → (a || b) ≡ true
or_first a b p = rw p refl

or_second : (a b : Bool) → b ≡ true → (a || b) ≡ true
or_second true b p = refl
or_second false b p = p

pub and_cases : (a b : Bool) → (a && b) ≡ true → (a ≡ true) × (b ≡ true)
and_cases true b h = (refl, h)
and_cases false b h = absurd (cc)

pub and_both : (a b : Bool) → a ≡ true → b ≡ true → (a && b) ≡ true
and_both a b p q = rw (p, q) refl

pub not_cases : (a : Bool) → not a ≡ true → a ≡ false
not_cases true h = absurd (cc)
not_cases false h = refl

pub same_bytes : (a b : List ℕ) → bytes_eq a b ≡ true → a ≡ b
same_bytes a b h = (bytes_eq-Decides a b).0 h

pub bytes_eq-refl : (a : List ℕ) → bytes_eq a a ≡ true
bytes_eq-refl a = (bytes_eq-Decides a a).1 refl

cond-true : {A : Type 0} {b : Bool} → b ≡ true → (x y : A) → cond b x y ≡ x
cond-true h x y = rw h refl

cond-false : {A : Type 0} {b : Bool} → b ≡ false → (x y : A) → cond b x y ≡ y
cond-false h x y = rw h refl

-- ## One more name

pub is_one_of-push : (q n : List ℕ) (ns : List (List ℕ)) → is_one_of q (ns ++ n ∷ []) ≡ (is_one_of q ns || (bytes_eq q n || false))
is_one_of-push q n ns = list_any-append (bytes_eq q) ns (n ∷ [])

pub push-cases : (q n : List ℕ) (ns : List (List ℕ)) → is_one_of q (ns ++ n ∷ []) ≡ true → (is_one_of q ns ≡ true) ⊎ (q ≡ n)
push-cases q n ns h =
    ⊎_elim (λ a. inl a) (λ b. ⊎_elim (λ e. inr (same_bytes q n e)) (λ e. absurd (cc)) (or_cases (bytes_eq q n) false b))
    (or_cases (is_one_of q ns) (bytes_eq q n || false) (sym (is_one_of-push q n ns) ∙ h))

pub push-old : (q n : List ℕ) (ns : List (List ℕ)) → is_one_of q ns ≡ true → is_one_of q (ns ++ n ∷ []) ≡ true
push-old q n ns h = is_one_of-push q n ns ∙ or_first (is_one_of q ns) (bytes_eq q n || false) h

pub push-new : (n : List ℕ) (ns : List (List ℕ)) → is_one_of n (ns ++ n ∷ []) ≡ true
push-new n ns = is_one_of-push n n ns ∙ or_second (is_one_of n ns) (bytes_eq n n || false) (or_first (bytes_eq n n) false (bytes_eq-refl n))

pub push-none : (q n : List ℕ) (ns : List (List ℕ)) → is_one_of q (ns ++ n ∷ []) ≡ false → is_one_of q ns ≡ false
push-none q n ns h = (or_false (is_one_of q ns) (bytes_eq q n || false) (sym (is_one_of-push q n ns) ∙ h)).0

pub with_name-new : (ns : List (List ℕ)) (n : List ℕ) → is_one_of n ns ≡ false → with_name ns n ≡ ns ++ n ∷ []
with_name-new ns n h = rw h refl

-- ## What can be imported

with_host-new : (acc : List (List ℕ)) (h : List ℕ) → is_bindable h ≡ true → is_one_of h acc ≡ false → with_host acc h ≡ acc ++ h ∷ []
with_host-new acc h b m = cond-true b _ _ ∙ with_name-new acc h m

with_host-old : (acc : List (List ℕ)) (h : List ℕ) → is_bindable h ≡ true → is_one_of h acc ≡ true → with_host acc h ≡ acc
with_host-old acc h b m = cond-true b _ _ ∙ cond-true m _ _

with_host-bad : (acc : List (List ℕ)) (h : List ℕ) → is_bindable h ≡ false → with_host acc h ≡ acc
with_host-bad acc h b = cond-false b _ _

module _ (acc : List (List ℕ)) (h : List ℕ) (P : List (List ℕ) → Type 0) where
  -- cases on what with_host gives
  with_host-elim : (is_bindable h ≡ true → is_one_of h acc ≡ false → P (acc ++ h ∷ [])) → (is_bindable h ≡ true → is_one_of h acc ≡ true → P acc)
      → (is_bindable h ≡ false → P acc) → P (with_host acc h)
  with_host-elim new old bad =
      ⊎_elim
      (λ (b : is_bindable h ≡ true). ⊎_elim
      (λ (m : is_one_of h acc ≡ true). subst P (sym (with_host-old acc h b m)) (old b m))
      (λ (m : is_one_of h acc ≡ false). subst P (sym (with_host-new acc h b m)) (new b m))
      (bool_cases (is_one_of h acc)))
      (λ (b : is_bindable h ≡ false). subst P (sym (with_host-bad acc h b)) (bad b))
      (bool_cases (is_bindable h))

-- whoever can be imported is a host that can be bound, or was there before
importable-cases : (q : List ℕ) (hs acc : List (List ℕ)) → is_one_of q (fold with_host acc hs) ≡ true
    → (is_one_of q acc ≡ true) ⊎ ((is_one_of q hs ≡ true) × (is_bindable q ≡ true))
importable-cases q [] acc e = inl e
importable-cases q (h ∷ hs) acc e =
    ⊎_elim
    (λ (m : is_one_of q (with_host acc h) ≡ true).
    with_host-elim acc h (λ ns. is_one_of q ns ≡ true → (is_one_of q acc ≡ true) ⊎ ((is_one_of q (h ∷ hs) ≡ true) × (is_bindable q ≡ true)))
    (λ b _ e. ⊎_elim (λ (a : is_one_of q acc ≡ true). inl a)
    (λ (s : q ≡ h). inr (or_first (bytes_eq q h) (is_one_of q hs) (subst (λ n. bytes_eq q n ≡ true) s (bytes_eq-refl q)), subst (λ n. is_bindable n ≡ true) (sym s) b))
    (push-cases q h acc e))
    (λ _ _ e. inl e) (λ _ e. inl e) m)
    (λ (m : (is_one_of q hs ≡ true) × (is_bindable q ≡ true)). inr (or_second (bytes_eq q h) (is_one_of q hs) m.0, m.1))
    (importable-cases q hs (with_host acc h) e)

with_host-keeps : (q h : List ℕ) (acc : List (List ℕ)) → is_one_of q acc ≡ true → is_one_of q (with_host acc h) ≡ true
with_host-keeps q h acc m = with_host-elim acc h (λ ns. is_one_of q ns ≡ true) (λ _ _. push-old q h acc m) (λ _ _. m) (λ _. m)

with_host-has : (h : List ℕ) (acc : List (List ℕ)) → is_bindable h ≡ true → is_one_of h (with_host acc h) ≡ true
with_host-has h acc b =
    with_host-elim acc h (λ ns. is_one_of h ns ≡ true) (λ _ _. push-new h acc) (λ _ m. m) (λ (n : is_bindable h ≡ false). absurd (cc))

importable-keeps : (q : List ℕ) (hs acc : List (List ℕ)) → is_one_of q acc ≡ true → is_one_of q (fold with_host acc hs) ≡ true
importable-keeps q [] acc m = m
importable-keeps q (h ∷ hs) acc m = importable-keeps q hs (with_host acc h) (with_host-keeps q h acc m)

importable-has : (q : List ℕ) (hs acc : List (List ℕ)) → is_one_of q hs ≡ true → is_bindable q ≡ true → is_one_of q (fold with_host acc hs) ≡ true
importable-has q [] acc m b = absurd (cc)
importable-has q (h ∷ hs) acc m b =
    ⊎_elim
    (λ (e : bytes_eq q h ≡ true). importable-keeps q hs (with_host acc h)
    (subst (λ n. is_one_of q (with_host acc n) ≡ true) (same_bytes q h e) (with_host-has q acc b)))
    (λ (e : is_one_of q hs ≡ true). importable-has q hs (with_host acc h) e b)
    (or_cases (bytes_eq q h) (is_one_of q hs) m)

pub importable-host : (q : List ℕ) (hosts : List (List ℕ)) → is_one_of q (importable hosts) ≡ true → (is_one_of q hosts ≡ true) × (is_bindable q ≡ true)
unfolding importable
importable-host q hosts e = ⊎_elim (λ (a : false ≡ true). absurd (cc)) (λ m. m) (importable-cases q hosts [] e)

pub host-importable : (q : List ℕ) (hosts : List (List ℕ)) → is_one_of q hosts ≡ true → is_bindable q ≡ true → is_one_of q (importable hosts) ≡ true
unfolding importable
host-importable q hosts m b = importable-has q hosts [] m b

-- ## Names that stand once

-- no name is among those before it, and `before` stands before all
abbrev pub AllNew : List (List ℕ) → List (List ℕ) → Type 0
AllNew before [] = Unit {0}
AllNew before (n ∷ ns) = (is_one_of n before ≡ false) × AllNew (before ++ n ∷ []) ns

pub AllNew-push : (xs before : List (List ℕ)) (x : List ℕ) → AllNew before xs → is_one_of x (before ++ xs) ≡ false → AllNew before (xs ++ x ∷ [])
AllNew-push [] before x h m = (subst (λ ns. is_one_of x ns ≡ false) (append-nil before) m, tt)
AllNew-push (y ∷ xs) before x h m =
    (h.0, AllNew-push xs (before ++ y ∷ []) x h.1 (subst (λ ns. is_one_of x ns ≡ false) (sym (append_assoc before (y ∷ []) xs)) m))

AllNew-importable : (hs acc : List (List ℕ)) → AllNew [] acc → AllNew [] (fold with_host acc hs)
AllNew-importable [] acc h = h
AllNew-importable (n ∷ hs) acc h =
    AllNew-importable hs (with_host acc n)
    (with_host-elim acc n (λ ns. AllNew [] ns) (λ _ m. AllNew-push acc [] n h m) (λ _ _. h) (λ _. h))

pub importable-new : (hosts : List (List ℕ)) → AllNew [] (importable hosts)
unfolding importable
importable-new hosts = AllNew-importable hosts [] tt

AllNew-apart : (xs before : List (List ℕ)) (q : List ℕ) → AllNew before xs → is_one_of q xs ≡ true → is_one_of q before ≡ false
AllNew-apart [] before q h m = absurd (cc)
AllNew-apart (x ∷ xs) before q h m =
    ⊎_elim
    (λ (e : bytes_eq q x ≡ true). subst (λ n. is_one_of n before ≡ false) (sym (same_bytes q x e)) h.0)
    (λ (e : is_one_of q xs ≡ true). push-none q x before (AllNew-apart xs (before ++ x ∷ []) q h.1 e))
    (or_cases (bytes_eq q x) (is_one_of q xs) m)

-- ## How many

without : List ℕ → List (List ℕ) → List (List ℕ)
without x [] = []
without x (y ∷ ys) = cond (bytes_eq x y) (without x ys) (y ∷ without x ys)

without-cons : (x y : List ℕ) (ys : List (List ℕ)) (P : List (List ℕ) → Type 0) → (x ≡ y → P (without x ys)) → (bytes_eq x y ≡ false → P (y ∷ without x ys)) → P (without x (y ∷ ys))
unfolding without
without-cons x y ys P same other =
    ⊎_elim
    (λ (e : bytes_eq x y ≡ true). subst P (sym (cond-true e _ _)) (same (same_bytes x y e)))
    (λ (e : bytes_eq x y ≡ false). subst P (sym (cond-false e _ _)) (other e))
    (bool_cases (bytes_eq x y))

without-shorter : (x : List ℕ) (ys : List (List ℕ)) → length (without x ys) ≤ length ys
unfolding without
without-shorter x [] = omega arith
without-shorter x (y ∷ ys) =
    let ih : length (without x ys) ≤ length ys = without-shorter x ys in
    without-cons x y ys (λ ns. length ns ≤ suc (length ys)) (λ _. omega arith) (λ _. omega arith)

without-less : (x : List ℕ) (ys : List (List ℕ)) → is_one_of x ys ≡ true → length (without x ys) < length ys
without-less x [] m = absurd (cc)
without-less x (y ∷ ys) m =
    let ih : length (without x ys) ≤ length ys = without-shorter x ys in
    without-cons x y ys (λ ns. length ns < suc (length ys)) (λ _. omega arith)
    (λ (o : bytes_eq x y ≡ false).
    ⊎_elim (λ (e : bytes_eq x y ≡ true). absurd (cc)) (λ (e : is_one_of x ys ≡ true). let l : length (without x ys) < length ys = without-less x ys e in omega arith)
    (or_cases (bytes_eq x y) (is_one_of x ys) m))

without-keeps : (q x : List ℕ) (ys : List (List ℕ)) → bytes_eq q x ≡ false → is_one_of q ys ≡ true → is_one_of q (without x ys) ≡ true
without-keeps q x [] o m = absurd (cc)
without-keeps q x (y ∷ ys) o m =
    without-cons x y ys (λ ns. is_one_of q ns ≡ true)
    (λ (e : x ≡ y). ⊎_elim (λ (s : bytes_eq q y ≡ true). let d : bytes_eq q y ≡ false = subst (λ n. bytes_eq q n ≡ false) e o in absurd (cc))
    (λ (s : is_one_of q ys ≡ true). without-keeps q x ys o s) (or_cases (bytes_eq q y) (is_one_of q ys) m))
    (λ _. ⊎_elim (λ (s : bytes_eq q y ≡ true). or_first (bytes_eq q y) (is_one_of q (without x ys)) s)
    (λ (s : is_one_of q ys ≡ true). or_second (bytes_eq q y) (is_one_of q (without x ys)) (without-keeps q x ys o s)) (or_cases (bytes_eq q y) (is_one_of q ys) m))

-- each name of the first list is in the second
abbrev pub AreAmong : List (List ℕ) → List (List ℕ) → Type 0
AreAmong xs ys = (q : List ℕ) → is_one_of q xs ≡ true → is_one_of q ys ≡ true

-- names that stand once are no more than the names that they are among
pub count-among : (xs before ys : List (List ℕ)) → AllNew before xs → AreAmong xs ys → length xs ≤ length ys
count-among [] before ys h m = omega arith
count-among (x ∷ xs) before ys h m =
    let here : is_one_of x (x ∷ xs) ≡ true = or_first (bytes_eq x x) (is_one_of x xs) (bytes_eq-refl x) in
    let less : length (without x ys) < length ys = without-less x ys (m x here) in
    let rest : AreAmong xs (without x ys) =
    λ q e.
    ⊎_elim
    (λ (s : bytes_eq q x ≡ true).
    let a : is_one_of q (before ++ x ∷ []) ≡ false = AllNew-apart xs (before ++ x ∷ []) q h.1 e in
    let b : is_one_of q (before ++ x ∷ []) ≡ true = subst (λ n. is_one_of n (before ++ x ∷ []) ≡ true) (sym (same_bytes q x s)) (push-new x before) in
    absurd (cc))
    (λ (o : bytes_eq q x ≡ false). without-keeps q x ys o (m q (or_second (bytes_eq q x) (is_one_of q xs) e)))
    (bool_cases (bytes_eq q x)) in
    let ih : length xs ≤ length (without x ys) = count-among xs (before ++ x ∷ []) (without x ys) h.1 rest in
    omega arith

-- a name that isn't among those makes one more
pub count-room : (xs ys : List (List ℕ)) (x : List ℕ) → AllNew [] xs → AreAmong xs ys → is_one_of x ys ≡ true → is_one_of x xs ≡ false → length xs < length ys
count-room xs ys x h m a n =
    let all : AreAmong (xs ++ x ∷ []) ys =
    λ q e. ⊎_elim (λ (s : is_one_of q xs ≡ true). m q s) (λ (s : q ≡ x). subst (λ w. is_one_of w ys ≡ true) (sym s) a) (push-cases q x xs e) in
    let more : length (xs ++ x ∷ []) ≤ length ys = count-among (xs ++ x ∷ []) [] ys (AllNew-push xs [] x h n) all in
    omega (arith, more, length-append xs (x ∷ []))

-- some name is left, or none is
left-over : (xs ys : List (List ℕ)) → ((q : List ℕ) × (is_one_of q ys ≡ true) × (is_one_of q xs ≡ false)) ⊎ AreAmong ys xs
left-over xs [] = inr (λ q e. absurd (cc))
left-over xs (y ∷ ys) =
    ⊎_elim
    (λ (m : is_one_of y xs ≡ true).
    ⊎_elim
    (λ (f : (q : List ℕ) × (is_one_of q ys ≡ true) × (is_one_of q xs ≡ false)). inl (f.0, or_second (bytes_eq f.0 y) (is_one_of f.0 ys) f.1, f.2))
    (λ (f : AreAmong ys xs). inr (λ q e. ⊎_elim (λ (s : bytes_eq q y ≡ true). subst (λ w. is_one_of w xs ≡ true) (sym (same_bytes q y s)) m) (λ (s : is_one_of q ys ≡ true). f q s) (or_cases (bytes_eq q y) (is_one_of q ys) e)))
    (left-over xs ys))
    (λ (m : is_one_of y xs ≡ false). inl (y, or_first (bytes_eq y y) (is_one_of y ys) (bytes_eq-refl y), m))
    (bool_cases (is_one_of y xs))

-- where there are more, one of them is new
pub some-left : (xs ys : List (List ℕ)) → AllNew [] ys → length xs < length ys → (q : List ℕ) × (is_one_of q ys ≡ true) × (is_one_of q xs ≡ false)
some-left xs ys h less =
    ⊎_elim (λ f. f)
    (λ (m : AreAmong ys xs). let no : length ys ≤ length xs = count-among ys [] xs h m in absurd (omega arith))
    (left-over xs ys)

-- ## A new name

-- `$`, and so many more
dollars : ℕ → List ℕ
dollars zero = 36 ∷ []
dollars (suc k) = 36 ∷ dollars k

dollars-length : (k : ℕ) → length (dollars k) ≡ suc k
unfolding dollars
dollars-length zero = refl
dollars-length (suc k) = ap suc (dollars-length k)

dollars-parts : (k : ℕ) → list_all is_name_part (dollars k) ≡ true
unfolding dollars
dollars-parts zero = refl
dollars-parts (suc k) = dollars-parts k

dollars-bindable : (k : ℕ) → is_bindable (dollars k) ≡ true
unfolding dollars unbindable_names
dollars-bindable zero = refl
dollars-bindable (suc k) = rw (dollars-parts k) refl

longest : List (List ℕ) → ℕ
longest [] = 0
longest (n ∷ ns) = length n + longest ns

longer-new : (q : List ℕ) (ns : List (List ℕ)) → longest ns < length q → is_one_of q ns ≡ false
unfolding longest
longer-new q [] h = refl
longer-new q (n ∷ ns) h =
    or_both (bytes_eq q n) (is_one_of q ns)
    (⊎_elim (λ (e : bytes_eq q n ≡ true). absurd (omega (arith, ap length (same_bytes q n e)))) (λ (e : bytes_eq q n ≡ false). e) (bool_cases (bytes_eq q n)))
    (longer-new q ns (omega arith))

-- a name that can be bound and is in neither list
pub fresh : (xs ys : List (List ℕ)) → (q : List ℕ) × (is_bindable q ≡ true) × (is_one_of q xs ≡ false) × (is_one_of q ys ≡ false)
fresh xs ys =
    let k : ℕ = longest xs + longest ys in
    (dollars k, dollars-bindable k, longer-new (dollars k) xs (omega (arith, dollars-length k)), longer-new (dollars k) ys (omega (arith, dollars-length k)))

-- ## What the definitions say, as tests

pub bindable-test : (n : List ℕ) → IsBindable n → is_bindable n ≡ true
bindable-test n h = and_both (is_identifier_name n) (not (is_one_of n unbindable_names)) h.identifier (ap not h.free)

pub test-bindable : (n : List ℕ) → is_bindable n ≡ true → IsBindable n
test-bindable n h =
    let both : (is_identifier_name n ≡ true) × (not (is_one_of n unbindable_names) ≡ true) = and_cases (is_identifier_name n) (not (is_one_of n unbindable_names)) h in
    record { identifier = both.0; free = not_cases (is_one_of n unbindable_names) both.1 }

pub AllNew-imports : (hosts ns before : List (List ℕ)) → AreImports hosts before ns → AllNew before ns
AllNew-imports hosts [] before h = tt
AllNew-imports hosts (n ∷ ns) before h = (h.0.once, AllNew-imports hosts ns (before ++ n ∷ []) h.1)

-- what is imported can be
pub imports-importable : (hosts ns before : List (List ℕ)) → AreImports hosts before ns → AreAmong ns (importable hosts)
imports-importable hosts [] before h = λ q e. absurd (cc)
imports-importable hosts (n ∷ ns) before h =
    λ q e. ⊎_elim
    (λ (s : bytes_eq q n ≡ true). subst (λ w. is_one_of w (importable hosts) ≡ true) (sym (same_bytes q n s)) (host-importable n hosts h.0.host (bindable-test n h.0.bindable)))
    (λ (s : is_one_of q ns ≡ true). imports-importable hosts ns (before ++ n ∷ []) h.1 q s)
    (or_cases (bytes_eq q n) (is_one_of q ns) e)
