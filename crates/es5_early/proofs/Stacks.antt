-- Stacks of names: lists with the newest first, of vectors with the newest last, and how often each name is there.
use Rattle.std.proofs.Common.{◌≡◌, ℕ, ◌+◌, ◌-◌, ◌<◌, ◌≤◌, Bool, true, false, cond, ◌||◌, List, [], ◌∷◌, ◌++◌, length, get_or, take, drop, map, reverse, nat_lt, count_by, unwrap_or, Option, Some, Result, OnOk, OnErr, Ok, Err, refl, sym, ap, subst, ◌∙◌, inl, inr, zero-add, arith}
use Rattle.std.specs.List.{list_any}
use Rattle.std.specs.Str.{bytes_eq}
use Rattle.std.specs.Cmp.Lexicographic.{bytes_decides, nat_list_eq_equiv}
use Rattle.std.specs.Map.{lookup, IsKeyTest, AreApart, KeepsOthers}
use Rattle.std.specs.HashMap.{UpdatesBy, get_by}
use Rattle.std.proofs.lemmas.Bool.{cases_Bool, cond-true, cond-false, cases_lt}
use Rattle.std.proofs.lemmas.Bool.Decides.{nat_tests}
use Rattle.std.proofs.lemmas.List.{take_more, take_all, map-append, reverse-append, take-append-drop, length-drop, length-reverse, length-map, drop-drop, drop-map, take_rest}
use Rattle.std.proofs.lemmas.List.Sums.{sum_by-append}
use Rattle.std.proofs.lemmas.List.Sorted.{list_any-IsPermutation, IsPermutation-reverse}
use Rattle.std.proofs.Math.Seq.{take-append_seam}
use Rattle.es5_early.specs.Counts.{Counts, Key, is_name}

-- a count is above 0 where the test passes somewhere
any_step : (b : Bool) (n : ℕ) (rest : Bool) → nat_lt 0 n ≡ rest → nat_lt 0 (cond b 1 0 + n) ≡ (b || rest)
any_step true n rest e = grind (arith, nat_tests)
any_step false n rest e = grind (arith, nat_tests)

pub count_by-any : {X : Type 0} (p : X → Bool) (xs : List X) → nat_lt 0 (count_by p xs) ≡ list_any p xs
count_by-any p [] = refl
count_by-any p (x ∷ xs) =
    ap (nat_lt 0) (sum_by-append (λ y. cond (p y) 1 0) (x ∷ []) xs ∙ ap (λ n. n + count_by p xs) (zero-add (cond (p x) 1 0)))
    ∙ any_step (p x) (count_by p xs) (list_any p xs) (count_by-any p xs)

list_any-map : {X Y : Type 0} (p : X → Bool) (h : Y → X) (ys : List Y) → list_any p (map h ys) ≡ list_any (λ y. p (h y)) ys
list_any-map p h [] = refl
list_any-map p h (y ∷ ys) = ap (λ b. p (h y) || b) (list_any-map p h ys)

-- a stack has the names of its vectors
pub list_any-view : {X Y : Type 0} (p : X → Bool) (h : Y → X) (ys : List Y) → list_any p (reverse (map h ys)) ≡ list_any (λ y. p (h y)) ys
list_any-view p h ys =
    sym (list_any-IsPermutation p (map h ys) (reverse (map h ys)) (IsPermutation-reverse (map h ys))) ∙ list_any-map p h ys

-- ---- counts

other_entries : {K X : Type 0} (eq : K → K → Bool) (test : K → Bool) (old new : List (K × X)) → KeepsOthers eq test old new → (other : K → Bool) → IsKeyTest eq other → AreApart test other → lookup other new ≡ lookup other old
unfolding KeepsOthers
other_entries eq test old new h = h

apart : (key q : List ℕ) → bytes_eq key q ≡ false → (k : Key) → is_name key k ≡ true → is_name q k ≡ false
apart key q n k y = nat_list_eq_equiv.symm q k.items ∙ sym (nat_list_eq_equiv.congr key k.items q y) ∙ n

-- what is found at a name after a change at another
pub get_by-updates : (key : List ℕ) (m n : Counts) (w : Option ℕ) → UpdatesBy (λ x y. bytes_eq x.items y.items) (is_name key) m n w → (q : List ℕ) → get_by (is_name q) n ≡ cond (bytes_eq key q) w (get_by (is_name q) m)
get_by-updates key m n w h q =
    elim (cases_Bool (bytes_eq key q)) [
      | inl y ↦ subst (λ l. get_by (is_name l) n ≡ w) ((bytes_decides key q).0 y) h.1 ∙ sym (cond-true (bytes_eq key q) w (get_by (is_name q) m) y)
      | inr e ↦ other_entries _ _ _ _ h.3 _ (λ x y. nat_list_eq_equiv.congr q x.items y.items) (apart key q e) ∙ sym (cond-false (bytes_eq key q) w (get_by (is_name q) m) e)
    ]

pub unwrap_or-cond : (b : Bool) (count : ℕ) (found : Option ℕ) → unwrap_or (cond b (Some count) found) 0 ≡ cond b count (unwrap_or found 0)
unwrap_or-cond true count found = refl
unwrap_or-cond false count found = refl

count_by-push : (q : List ℕ) (vs : List Key) (v : Key) → count_by (is_name q) (vs ++ v ∷ []) ≡ count_by (is_name q) vs + cond (bytes_eq v.items q) 1 0
count_by-push q vs v =
    sum_by-append (λ x. cond (is_name q x) 1 0) vs (v ∷ []) ∙ ap (λ n. count_by (is_name q) vs + n) (zero-add (cond (bytes_eq q v.items) 1 0))
    ∙ ap (λ b. count_by (is_name q) vs + cond b 1 0) (nat_list_eq_equiv.symm q v.items)

-- the counts after a name is pushed, and after it is popped
pub pushed : (old : List ℕ → ℕ) (vs : List Key) (v : Key) (count : ℕ) → ((q : List ℕ) → old q ≡ count_by (is_name q) vs) → count ≡ old v.items
    → (q : List ℕ) → cond (bytes_eq v.items q) (count + 1) (old q) ≡ count_by (is_name q) (vs ++ v ∷ [])
pushed old vs v count h e q =
    let more = count_by-push q vs v in
    elim (cases_Bool (bytes_eq v.items q)) [
      | inl y ↦
          let same : old v.items ≡ old q = ap old ((bytes_decides v.items q).0 y) in
          let one = cond-true {A = ℕ} (bytes_eq v.items q) 1 0 y in
          cond-true (bytes_eq v.items q) (count + 1) (old q) y ∙ omega (arith, more, same, one, e, h q)
      | inr n ↦
          let none = cond-false {A = ℕ} (bytes_eq v.items q) 1 0 n in
          cond-false (bytes_eq v.items q) (count + 1) (old q) n ∙ omega (arith, more, none, h q)
    ]

pub popped : (old : List ℕ → ℕ) (vs : List Key) (v : Key) (count : ℕ) → ((q : List ℕ) → old q ≡ count_by (is_name q) (vs ++ v ∷ [])) → count ≡ old v.items
    → (q : List ℕ) → cond (bytes_eq v.items q) (count - 1) (old q) ≡ count_by (is_name q) vs
popped old vs v count h e q =
    let more = count_by-push q vs v in
    elim (cases_Bool (bytes_eq v.items q)) [
      | inl y ↦
          let same : old v.items ≡ old q = ap old ((bytes_decides v.items q).0 y) in
          let one = cond-true {A = ℕ} (bytes_eq v.items q) 1 0 y in
          cond-true (bytes_eq v.items q) (count - 1) (old q) y ∙ omega (arith, more, same, one, e, h q)
      | inr n ↦
          let none = cond-false {A = ℕ} (bytes_eq v.items q) 1 0 n in
          cond-false (bytes_eq v.items q) (count - 1) (old q) n ∙ omega (arith, more, none, h q)
    ]

-- a name that was on top is counted
pub counted : (old : List ℕ → ℕ) (vs : List Key) (v : Key) → ((q : List ℕ) → old q ≡ count_by (is_name q) (vs ++ v ∷ [])) → 1 ≤ old v.items
counted old vs v h =
    let more = count_by-push v.items vs v in
    let one = cond-true {A = ℕ} (bytes_eq v.items v.items) 1 0 ((bytes_decides v.items v.items).1 refl) in
    omega (arith, more, one, h v.items)

-- a fact of the good outcome holds where the bad one can't be
pub holds_unless : {T E : Type 0} (r : Result T E) (P : Type 0) (n : ℕ) → OnOk r P → OnErr r (n ≡ 0) → 1 ≤ n → P
holds_unless (Ok x) P n h none some = h
holds_unless (Err e) P n h none some = absurd (omega arith)

-- ---- lists

pub drop-pop : (s : List (List ℕ)) (len : ℕ) → len < length s → drop (length (drop 1 s) - len) (drop 1 s) ≡ drop (length s - len) s
drop-pop s len h =
    let n : 1 + (length (drop 1 s) - len) ≡ length s - len = omega (arith, length-drop 1 s) in
    drop-drop (length (drop 1 s) - len) 1 s ∙ ap (λ k. drop k s) n

pub view_more : {X Y : Type 0} (h : Y → X) (ys : List Y) (i : ℕ) (d : Y) → i < length ys → reverse (map h (take (i + 1) ys)) ≡ h (get_or ys i d) ∷ reverse (map h (take i ys))
view_more h ys i d l =
    ap (λ zs. reverse (map h zs)) (take_more ys i d l) ∙ ap reverse (map-append h (take i ys) (get_or ys i d ∷ []))
    ∙ reverse-append (map h (take i ys)) (h (get_or ys i d) ∷ [])

-- the newest of a stack are the last of its vectors
pub reverse-drop : {X : Type 0} (xs : List X) (count : ℕ) → reverse (drop (length xs - count) xs) ≡ take count (reverse xs)
reverse-drop xs count =
    let k = length xs - count in
    let whole : reverse xs ≡ reverse (drop k xs) ++ reverse (take k xs) =
    ap reverse (sym (take-append-drop k xs)) ∙ reverse-append (take k xs) (drop k xs) in
    let len : length (reverse (drop k xs)) ≡ length xs - k = length-reverse (drop k xs) ∙ length-drop k xs in
    elim (cases_lt count (length xs)) [
      | inl less ↦
          let same : length (reverse (drop k xs)) ≡ count = omega (arith, len) in
          sym (take-append_seam (reverse (drop k xs)) (reverse (take k xs))) ∙ ap (λ n. take n (reverse (drop k xs) ++ reverse (take k xs))) same
          ∙ ap (take count) (sym whole)
      | inr more ↦
          let all : length (reverse xs) ≤ count = omega (arith, length-reverse xs) in
          let none : k ≡ 0 = omega arith in
          ap (λ n. reverse (drop n xs)) none ∙ sym (take_all count (reverse xs) all)
    ]

pub newest_view : {X Y : Type 0} (h : Y → X) (ys : List Y) (count start end : ℕ) → start ≡ length ys - count → length (take (length ys - start) (drop start ys)) ≤ end
    → reverse (map h (take end (take (length ys - start) (drop start ys)))) ≡ take count (reverse (map h ys))
newest_view h ys count start end e last =
    ap (λ zs. reverse (map h zs)) (take_all end (take (length ys - start) (drop start ys)) last ∙ take_rest ys start) ∙ ap reverse (sym (drop-map h start ys))
    ∙ ap (λ n. reverse (drop n (map h ys))) (e ∙ ap (λ n. n - count) (sym (length-map ys h))) ∙ reverse-drop (map h ys) count
