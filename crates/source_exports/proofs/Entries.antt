-- What a module exports under a name, and lists that are searched from their other end.
use Rattle.std.proofs.Common.{◌≡◌, ◌<◌, ◌-◌, ℕ, zero, suc, arith, map, ◌++◌, append_assoc, sym, Bool, true, false, ◌||◌, List, [], ◌∷◌, refl, reverse, subst, ap, ◌∙◌}
use Rattle.std.proofs.lemmas.List.Sorted.{IsPermutation-reverse, list_any-IsPermutation}
use Rattle.std.specs.List.{filter, list_any}
use Rattle.std.specs.Prelude.{nat_eq}
use Rattle.std.specs.Str.{bytes_eq}
use Rattle.es6_static_semantics.specs.Findings.{joined}
use Rattle.module_endings.specs.declared.summary.Export.{Export}
use Rattle.module_endings.specs.declared.summary.Summary.{Summary}
use Rattle.source_exports.specs.Known.{endings_within, entries_named, entry_ends, entry_pairs, exports_of, names_within, other_names, pair, pairs_by, star_pairs, stars_of}
use Rattle.source_meaning.specs.Modules.{Pair, is_number, is_pair}

none_by : {A : Type 0} (f : A → Bool) (x : A) (xs : List A) (b : Bool) → f x ≡ b → list_any f (x ∷ xs) ≡ false → (list_any f xs ≡ false → filter f xs ≡ []) → filter f (x ∷ xs) ≡ []
none_by f x xs true is e ih =
    let no : true ≡ false = subst (λ b. (b || list_any f xs) ≡ false) is e in
    cc
none_by f x xs false is e ih = rw is (ih (subst (λ b. (b || list_any f xs) ≡ false) is e))

none_found : {A : Type 0} (f : A → Bool) (xs : List A) → list_any f xs ≡ false → filter f xs ≡ []
none_found f [] e = refl
none_found f (x ∷ xs) e = none_by f x xs (f x) refl e (none_found f xs)

some_by : {A : Type 0} (f : A → Bool) (x : A) (xs : List A) (b : Bool) → f x ≡ b → list_any f (x ∷ xs) ≡ true → (list_any f xs ≡ true → filter f xs ≡ [] → ⊥) → filter f (x ∷ xs) ≡ [] → ⊥
some_by f x xs true is e ih h =
    let no : x ∷ filter f xs ≡ [] = rw is at h in
    cc
some_by f x xs false is e ih h = ih (subst (λ b. (b || list_any f xs) ≡ true) is e) (rw is at h)

some_found : {A : Type 0} (f : A → Bool) (xs : List A) → list_any f xs ≡ true → filter f xs ≡ [] → ⊥
some_found f [] e h = cc
some_found f (x ∷ xs) e h = some_by f x xs (f x) refl e (some_found f xs) h

pairs_of_some : (known : List Summary) (p : Pair) (es : List Export) → (es ≡ [] → ⊥) → pairs_by known p es ≡ entry_pairs es
pairs_of_some known p [] h = absurd (h refl)
pairs_of_some known p (e ∷ es) h = refl

-- a module's own exports hide its stars
pub none_named : (known : List Summary) (home : ℕ) (name : List ℕ) (es : List Export) → list_any (λ e. bytes_eq e.name name) es ≡ false → pairs_by known (pair home name) (filter (λ e. bytes_eq e.name name) es) ≡ star_pairs known home name
none_named known home name es e = ap (pairs_by known (pair home name)) (none_found (λ e. bytes_eq e.name name) es e)

pub some_named : (known : List Summary) (home : ℕ) (name : List ℕ) (es : List Export) → list_any (λ e. bytes_eq e.name name) es ≡ true → pairs_by known (pair home name) (filter (λ e. bytes_eq e.name name) es) ≡ entry_pairs (filter (λ e. bytes_eq e.name name) es)
some_named known home name es e = pairs_of_some known (pair home name) (filter (λ e. bytes_eq e.name name) es) (some_found (λ e. bytes_eq e.name name) es e)

any_backwards : {A : Type 0} (f : A → Bool) (xs : List A) → list_any f xs ≡ list_any f (reverse xs)
any_backwards f xs = list_any-IsPermutation f xs (reverse xs) (IsPermutation-reverse xs)

pub any_reverse : (p : Pair) (ps qs : List Pair) → reverse ps ≡ qs → list_any (is_pair p) ps ≡ list_any (is_pair p) qs
any_reverse p ps qs e = any_backwards (is_pair p) ps ∙ ap (list_any (is_pair p)) e

pub number_reverse : (n : ℕ) (ms ns : List ℕ) → reverse ms ≡ ns → is_number n ms ≡ is_number n ns
number_reverse n ms ns e = any_backwards (nat_eq n) ms ∙ ap (is_number n) e

-- one step of a path
endings_at : (depth : ℕ) (known : List Summary) (seen : List Pair) (p : Pair) → 0 < depth → list_any (is_pair p) seen ≡ false → endings_within depth known seen p ≡ entry_ends (entries_named known p) ++ joined (endings_within (depth - 1) known (p ∷ seen)) (pairs_by known p (entries_named known p))
endings_at zero known seen p h e = absurd (omega arith)
endings_at (suc depth) known seen p h e =
    let back : suc depth - 1 ≡ depth = omega arith in
    rw (e, back) refl

pub endings_all : (old mid new : List Pair) (depth : ℕ) (known : List Summary) (seen inside : List Pair) (p : Pair) (pairs : List Pair) → 0 < depth → list_any (is_pair p) seen ≡ false → inside ≡ p ∷ seen → mid ≡ old ++ entry_ends (entries_named known p) → pairs ≡ pairs_by known p (entries_named known p) → new ≡ mid ++ joined (endings_within (depth - 1) known inside) pairs → new ≡ old ++ endings_within depth known seen p
endings_all old mid new depth known seen inside p pairs h e in-is mid-is pairs-is new-is =
    let rest : joined (endings_within (depth - 1) known inside) pairs ≡ joined (endings_within (depth - 1) known (p ∷ seen)) (pairs_by known p (entries_named known p)) =
    ap (λ s. joined (endings_within (depth - 1) known s) pairs) in-is ∙ ap (joined (endings_within (depth - 1) known (p ∷ seen))) pairs-is in
    new-is
    ∙ ap (λ m. m ++ joined (endings_within (depth - 1) known inside) pairs) mid-is
    ∙ append_assoc old (entry_ends (entries_named known p)) (joined (endings_within (depth - 1) known inside) pairs)
    ∙ ap (λ r. old ++ (entry_ends (entries_named known p) ++ r)) rest
    ∙ sym (ap (λ r. old ++ r) (endings_at depth known seen p h e))

-- one step of a chain
names_at : (depth : ℕ) (known : List Summary) (seen : List ℕ) (n : ℕ) → 0 < depth → is_number n seen ≡ false → names_within depth known seen n ≡ map (λ e. e.name) (exports_of known n) ++ other_names (joined (names_within (depth - 1) known (n ∷ seen)) (stars_of known n))
names_at zero known seen n h e = absurd (omega arith)
names_at (suc depth) known seen n h e =
    let back : suc depth - 1 ≡ depth = omega arith in
    rw (e, back) refl

pub names_all : (old mid below new : List (List ℕ)) (depth : ℕ) (known : List Summary) (seen inside : List ℕ) (n : ℕ) (stars : List ℕ) → 0 < depth → is_number n seen ≡ false → inside ≡ n ∷ seen → mid ≡ old ++ map (λ e. e.name) (exports_of known n) → stars ≡ stars_of known n → below ≡ joined (names_within (depth - 1) known inside) stars → new ≡ mid ++ other_names below → new ≡ old ++ names_within depth known seen n
names_all old mid below new depth known seen inside n stars h e in-is mid-is stars-is below-is new-is =
    let rest : below ≡ joined (names_within (depth - 1) known (n ∷ seen)) (stars_of known n) =
    below-is ∙ ap (λ s. joined (names_within (depth - 1) known s) stars) in-is ∙ ap (joined (names_within (depth - 1) known (n ∷ seen))) stars-is in
    new-is
    ∙ ap (λ m. m ++ other_names below) mid-is
    ∙ append_assoc old (map (λ e. e.name) (exports_of known n)) (other_names below)
    ∙ ap (λ r. old ++ (map (λ e. e.name) (exports_of known n) ++ other_names r)) rest
    ∙ sym (ap (λ r. old ++ r) (names_at depth known seen n h e))
