-- Names of scripts: each is an identifier that may be bound, and they differ.
use Rattle.std.specs.Char.{is_ascii_alphabetic}
use Rattle.std.specs.Int.{is_in_range}
use Rattle.std.specs.List.{list_all, list_any, position_or_len}
use Rattle.std.specs.Str.{bytes_eq}
use Rattle.std.specs.Cmp.Lexicographic.{bytes_decides}
use Rattle.std.proofs.Common.{◌≡◌, ℕ, zero, suc, ◌+◌, ◌≤◌, ◌<◌, ◌^◌, max, Bool, true, false, ◌||◌, not, cond, nat_eq, nat_lt, codes, decimal, replicate, List, [], ◌∷◌, ◌++◌, length, Option, refl, sym, ap, arith, subst, ◌∙◌}
use Rattle.std.proofs.lemmas.Bool.{false≢true, eqb-true, ltb-true, ltb-false}
use Rattle.std.proofs.lemmas.Fmt.{decimal_is_IsNumeral, decimal_injective}
use Rattle.std.proofs.lemmas.Str.Parse.{digit_from_value}
use Rattle.std.specs.Str.Parse.{AllDigits}
use Rattle.binding_tables.specs.Names.{number_of_name, with_name}
use Rattle.es_outside.specs.HostNames as o
use Rattle.es_outside.specs.HostNames.{is_ascii_identifier, is_among, is_host_name, starts_identifier, continues_identifier}
use Rattle.es5_ast.specs.Early as e
use Rattle.es5_ast.specs.Lexical as lexical
use Rattle.es5_ast.specs.Lexical.{is_identifier_name, is_identifier_part, is_identifier_start, is_one_of}
use Rattle.emission_rules.specs.Naming.{has_dollar, hint_name, hint_text, hosts_from, is_free, is_taken, is_word, longest_run, most_dollars, names_from, numbered, sign, stem, with_hint}
use Rattle.emission_rules.specs.Scenes.{text_at}
use Rattle.emission_laws.specs.Laws.{names_differ}
use Rattle.pass_rules.proofs.pass_laws.Within.{left, right, both}
use Rattle.pass_rules.proofs.pass_laws.YieldMarks.{by_test}
use Rattle.emission_laws.proofs.Good.{GoodName, GoodNames}
use Rattle.emission_laws.proofs.Texts.{or_both, or_left, or_right, or_first, or_second, unnot, no_by, mark_behind, marked_name, marked_unrestricted, decimal_parts, decimal_marked, parts_more}

-- ## Identifiers in ASCII that are no words

turned : (a b c : Bool) → ((a || b) || c) ≡ true → ((a || c) || b) ≡ true
turned true b c h = refl
turned false true true h = refl
turned false true false h = refl
turned false false true h = refl
turned false false false h = h

-- a digit, an upper or a lower letter, `$` or `_`
turned_five : (d u l s b : Bool) → ((((d || u) || l) || s) || b) ≡ true → ((((u || l) || b) || s) || d) ≡ true
turned_five true u l s b h = or_second (((u || l) || b) || s) true refl
turned_five false true l s b h = refl
turned_five false false true s b h = refl
turned_five false false false true true h = refl
turned_five false false false true false h = refl
turned_five false false false false true h = refl
turned_five false false false false false h = h

start_is : (c : ℕ) → starts_identifier c ≡ true → is_identifier_start c ≡ true
start_is c h = turned (is_ascii_alphabetic c) (nat_eq c 36) (nat_eq c 95) h

part_is : (c : ℕ) → continues_identifier c ≡ true → is_identifier_part c ≡ true
part_is c h = turned_five (is_in_range 48 57 c) (is_in_range 65 90 c) (is_in_range 97 122 c) (nat_eq c 36) (nat_eq c 95) h

parts_are : (cs : List ℕ) → list_all continues_identifier cs ≡ true → list_all is_identifier_part cs ≡ true
parts_are [] h = refl
parts_are (c ∷ cs) h = both (part_is c (left _ _ h)) (parts_are cs (right _ _ h))

identifier_is : (t : List ℕ) → is_ascii_identifier t ≡ true → is_identifier_name t ≡ true
identifier_is [] h = h
identifier_is (c ∷ cs) h = both (start_is c (left _ _ h)) (parts_are cs (right _ _ h))

-- words that are all among others
none_of : (t : List ℕ) (ws vs : List (List ℕ)) → list_all (is_among vs) ws ≡ true → is_among vs t ≡ false → is_one_of t ws ≡ false
none_of t [] vs h k = refl
none_of t (v ∷ ws) vs h k = or_both _ _ (no_by (bytes_eq t v) (λ s. false≢true (sym k ∙ ap (is_among vs) ((bytes_decides t v).0 s) ∙ left _ _ h))) (none_of t ws vs (right _ _ h) k)

not_reserved : (t : List ℕ) → is_among o.reserved_words t ≡ false → is_one_of t lexical.reserved_words ≡ false
unfolding o.reserved_words lexical.reserved_words
not_reserved t h = none_of t lexical.reserved_words o.reserved_words refl h

not_restricted : (t : List ℕ) → is_among o.special_names t ≡ false → e.is_restricted t ≡ false
unfolding o.special_names
not_restricted t h = none_of t (codes "eval" ∷ codes "arguments" ∷ []) o.special_names refl h

no_word_good : (t : List ℕ) → is_ascii_identifier t ≡ true → is_word t ≡ false → GoodName t
no_word_good t h k = record {
  is = both (identifier_is t h) (ap not (not_reserved t (or_left _ _ (or_left _ _ (or_left _ _ k)))));
  free = not_restricted t (or_right (is_among o.reserved_words t) _ (or_left _ _ (or_left _ _ k)));
}

pub host_good : (t : List ℕ) → is_host_name t ≡ true → GoodName t
unfolding is_host_name
host_good t h = no_word_good t (left _ _ h) (unnot _ (right _ _ h))

-- ## Names with a number

dollars_parts : (k : ℕ) → list_all is_identifier_part (replicate k 36) ≡ true
dollars_parts zero = refl
dollars_parts (suc k) = both refl (dollars_parts k)

stem_by : (hint : List ℕ) (c : Bool) → is_ascii_identifier hint ≡ c → is_identifier_name (cond c hint (codes "v")) ≡ true
stem_by hint true h = identifier_is hint h
stem_by hint false h = refl

name_more : (t ys : List ℕ) → is_identifier_name t ≡ true → list_all is_identifier_part ys ≡ true → is_identifier_name (t ++ ys) ≡ true
name_more [] ys h k = absurd (false≢true h)
name_more (c ∷ cs) ys h k = both (left _ _ h) (parts_more cs ys (right _ _ h) k)

pub numbered_good : (taken : List (List ℕ)) (hint : List ℕ) (i : ℕ) → i < 2 ^ 64 → GoodName (numbered (sign taken) hint i)
numbered_good taken hint i h =
    let d = stem hint ++ sign taken in
    let marked = mark_behind d (decimal i) (decimal_marked i h) in
    record {
      is = marked_name (d ++ decimal i) (name_more d (decimal i) (name_more (stem hint) (sign taken) (stem_by hint (is_ascii_identifier hint) refl) (dollars_parts (most_dollars 0 taken + 1))) (decimal_parts i h)) marked;
      free = marked_unrestricted (d ++ decimal i) marked;
    }

-- what stands behind the last `$`
abbrev last : List ℕ → List ℕ
last [] = []
last (c ∷ cs) = cond (has_dollar cs) (last cs) (cond (nat_eq c 36) cs (c ∷ cs))

dollar_behind : (xs ys : List ℕ) → has_dollar ys ≡ true → has_dollar (xs ++ ys) ≡ true
dollar_behind [] ys h = h
dollar_behind (x ∷ xs) ys h = or_second (nat_eq x 36) _ (dollar_behind xs ys h)

last_dollars : (k : ℕ) (ys : List ℕ) → has_dollar ys ≡ false → last (replicate (suc k) 36 ++ ys) ≡ ys
last_dollars zero ys h = ap (λ b. cond b (last ys) ys) h
last_dollars (suc k) ys h = last_dollars k ys h

last_behind : (xs ys : List ℕ) → has_dollar ys ≡ true → last (xs ++ ys) ≡ last ys
last_behind [] ys h = refl
last_behind (x ∷ xs) ys h = ap (λ b. cond b (last (xs ++ ys)) (cond (nat_eq x 36) (xs ++ ys) (x ∷ xs ++ ys))) (dollar_behind xs ys h) ∙ last_behind xs ys h

no_dollar : (t : List ℕ) → list_all (λ c. not (nat_eq c 36)) t ≡ true → has_dollar t ≡ false
no_dollar [] h = refl
no_dollar (c ∷ cs) h = or_both _ _ (unnot _ (left _ _ h)) (no_dollar cs (right _ _ h))

digits_no_dollar : (ds : List ℕ) → AllDigits 10 ds → has_dollar ds ≡ false
digits_no_dollar [] h = refl
digits_no_dollar (d ∷ ds) h = let i = digit_from_value d h.0 in or_both _ _ (no_by (nat_eq d 36) (λ s. let a = eqb-true d 36 s in let b = i.0 in let z : ⊥ = omega arith in z)) (digits_no_dollar ds h.1)

decimal_no_dollar : (i : ℕ) → i < 2 ^ 64 → has_dollar (decimal i) ≡ false
decimal_no_dollar i h = digits_no_dollar (decimal i) (decimal_is_IsNumeral i h).0.1

sign_is : (taken : List (List ℕ)) → sign taken ≡ replicate (suc (most_dollars 0 taken)) 36
sign_is taken = ap (λ k. replicate k 36) (let a : most_dollars 0 taken + 1 ≡ suc (most_dollars 0 taken) = omega arith in a)

sign_dollar : (taken : List (List ℕ)) (ys : List ℕ) → has_dollar (sign taken ++ ys) ≡ true
sign_dollar taken ys = ap (λ ds. has_dollar (ds ++ ys)) (sign_is taken)

assoc : (xs ys zs : List ℕ) → (xs ++ ys) ++ zs ≡ xs ++ (ys ++ zs)
assoc [] ys zs = refl
assoc (x ∷ xs) ys zs = ap (λ vs. x ∷ vs) (assoc xs ys zs)

numbered_is : (taken : List (List ℕ)) (hint : List ℕ) (i : ℕ) → numbered (sign taken) hint i ≡ stem hint ++ (sign taken ++ decimal i)
numbered_is taken hint i = assoc (stem hint) (sign taken) (decimal i)

numbered_dollar : (taken : List (List ℕ)) (hint : List ℕ) (i : ℕ) → has_dollar (numbered (sign taken) hint i) ≡ true
numbered_dollar taken hint i = ap has_dollar (numbered_is taken hint i) ∙ dollar_behind (stem hint) (sign taken ++ decimal i) (sign_dollar taken (decimal i))

numbered_last : (taken : List (List ℕ)) (hint : List ℕ) (i : ℕ) → i < 2 ^ 64 → last (numbered (sign taken) hint i) ≡ decimal i
numbered_last taken hint i h = ap last (numbered_is taken hint i) ∙ last_behind (stem hint) (sign taken ++ decimal i) (sign_dollar taken (decimal i)) ∙ ap (λ ds. last (ds ++ decimal i)) (sign_is taken) ∙ last_dollars (most_dollars 0 taken) (decimal i) (decimal_no_dollar i h)

pub numbered_differ : (taken : List (List ℕ)) (g h : List ℕ) (i j : ℕ) → i < 2 ^ 64 → j < 2 ^ 64 → numbered (sign taken) g i ≡ numbered (sign taken) h j → i ≡ j
numbered_differ taken g h i j a b same = decimal_injective i j a b (sym (numbered_last taken g i a) ∙ ap last same ∙ numbered_last taken h j b)

-- ## Names that are taken

abbrev has : List (List ℕ) → List ℕ → Bool
has names t = list_any (bytes_eq t) names

-- two texts that come first at one place of a list are the same
first_same : (names : List (List ℕ)) (s t : List ℕ) → position_or_len (bytes_eq s) names ≡ position_or_len (bytes_eq t) names → has names s ≡ true → s ≡ t
first_same [] s t h k = absurd (false≢true k)
first_same (v ∷ names) s t h k = by_two (bytes_eq s v) (bytes_eq t v) refl refl (position_or_len (bytes_eq s) names) (position_or_len (bytes_eq t) names) h k (first_same names s t)
  where
    by_two : (b c : Bool) → bytes_eq s v ≡ b → bytes_eq t v ≡ c → (i j : ℕ) → cond (not b) (1 + i) 0 ≡ cond (not c) (1 + j) 0 → (b || has names s) ≡ true → (i ≡ j → has names s ≡ true → s ≡ t) → s ≡ t
    by_two true true u w i j h k f = (bytes_decides s v).0 u ∙ sym ((bytes_decides t v).0 w)
    by_two true false u w i j h k f = absurd (let g : 0 ≡ 1 + j = h in let z : ⊥ = omega arith in z)
    by_two false true u w i j h k f = absurd (let g : 1 + i ≡ 0 = h in let z : ⊥ = omega arith in z)
    by_two false false u w i j h k f = f (let g : 1 + i ≡ 1 + j = h in omega arith) k

-- a name that is there is taken
taken_there : (taken : List (List ℕ)) (t : List ℕ) → has taken t ≡ true → is_ascii_identifier t ≡ true → is_taken taken t ≡ true
taken_there taken t h k = ap not (no_by (nat_eq (number_of_name taken t) (number_of_name taken [])) (λ s. false≢true (ap is_ascii_identifier (sym (first_same taken t [] (eqb-true _ _ s) h)) ∙ k)))

not_there : (taken : List (List ℕ)) (t : List ℕ) → is_taken taken t ≡ false → is_ascii_identifier t ≡ true → has taken t ≡ false
not_there taken t h k = no_by (has taken t) (λ s. false≢true (sym h ∙ taken_there taken t s k))

has_one : (taken : List (List ℕ)) (t : List ℕ) → has (taken ++ t ∷ []) t ≡ true
has_one [] t = or_first _ _ ((bytes_decides t t).1 refl)
has_one (v ∷ taken) t = or_second (bytes_eq t v) _ (has_one taken t)

has_before : (taken : List (List ℕ)) (t v : List ℕ) → has (taken ++ v ∷ []) t ≡ false → has taken t ≡ false
has_before [] t v h = refl
has_before (a ∷ taken) t v h = or_both _ _ (or_left _ _ h) (has_before taken t v (or_right (bytes_eq t a) _ h))

with_name_has : (taken : List (List ℕ)) (t : List ℕ) → has (with_name taken t) t ≡ true
with_name_has taken t = by_test (λ ns. has ns t ≡ true) (has taken t) taken (taken ++ t ∷ []) (λ h. h) (λ h. has_one taken t)

with_name_less : (taken : List (List ℕ)) (v t : List ℕ) → has (with_name taken v) t ≡ false → has taken t ≡ false
with_name_less taken v t h = less_by (has taken v) h
  where
    less_by : (c : Bool) → has (cond c taken (taken ++ v ∷ [])) t ≡ false → has taken t ≡ false
    less_by true h = h
    less_by false h = has_before taken t v h

with_hint_less : (taken : List (List ℕ)) (v t : List ℕ) → has (with_hint taken v) t ≡ false → has taken t ≡ false
with_hint_less taken v t h = less_by (is_free taken v) h
  where
    less_by : (c : Bool) → has (cond c (with_name taken v) taken) t ≡ false → has taken t ≡ false
    less_by true h = with_name_less taken v t h
    less_by false h = h

-- ## The names of a core

-- a hint that wasn't taken, or a numbered name
data Entry (own : List (List ℕ)) (taken : List (List ℕ)) (i : ℕ) (t : List ℕ) : Type 0 where
  hinted : has_dollar t ≡ false → has taken t ≡ false → Entry own taken i t
  counted : (hint : List ℕ) → t ≡ numbered (sign own) hint i → Entry own taken i t

earlier : (own taken more : List (List ℕ)) (i : ℕ) (t : List ℕ) → (has more t ≡ false → has taken t ≡ false) → Entry own more i t → Entry own taken i t
earlier own taken more i t f (hinted d h) = hinted d (f h)
earlier own taken more i t f (counted hint e) = counted hint e

name_entry : (own taken : List (List ℕ)) (i : ℕ) (hint : List ℕ) → Entry own taken i (hint_name (sign own) taken i hint)
name_entry own taken i hint = by_test (Entry own taken i) (is_free taken hint) hint (numbered (sign own) hint i)
    (λ h. let a = left _ _ h in let c = left _ _ a in hinted (unnot _ (right _ _ c)) (not_there taken hint (unnot _ (right _ _ a)) (left _ _ c)))
    (λ h. counted hint refl)

entry_at : (own taken : List (List ℕ)) (n : ℕ) (hints : List (Option (List ℕ))) (i : ℕ) → i < length hints → Entry own taken (n + i) (text_at (names_from (sign own) taken n hints) i)
entry_at own taken n [] i h = let z : ⊥ = omega arith in absurd z
entry_at own taken n (hint ∷ hints) zero h = subst (λ k. Entry own taken k (hint_name (sign own) taken n (hint_text hint))) (omega arith) (name_entry own taken n (hint_text hint))
entry_at own taken n (hint ∷ hints) (suc i) h =
    earlier own taken (with_hint taken (hint_text hint)) (n + suc i) _ (with_hint_less taken (hint_text hint) _)
    (subst (λ k. Entry own (with_hint taken (hint_text hint)) k (text_at (names_from (sign own) (with_hint taken (hint_text hint)) (n + 1) hints) i)) (let a : (n + 1) + i ≡ n + suc i = omega arith in a)
    (entry_at own (with_hint taken (hint_text hint)) (n + 1) hints i (omega arith)))

-- a hint that is used is taken behind
used_by : (own taken : List (List ℕ)) (n : ℕ) (hint : List ℕ) (t : List ℕ) (j : ℕ) → n < j → n < 2 ^ 64 → j < 2 ^ 64 → Entry own (with_hint taken hint) j t → hint_name (sign own) taken n hint ≡ t → ⊥
used_by own taken n hint t j l a c k same = free_by (is_free taken hint) refl k same
  where
    free_by : (f : Bool) → is_free taken hint ≡ f → Entry own (cond f (with_name taken hint) taken) j t → cond f hint (numbered (sign own) hint n) ≡ t → ⊥
    free_by true h (hinted d u) same = false≢true (sym u ∙ ap (has (with_name taken hint)) (sym same) ∙ with_name_has taken hint)
    free_by true h (counted g e) same = false≢true (sym (unnot _ (right _ _ (left _ _ (left _ _ h)))) ∙ ap has_dollar (same ∙ e) ∙ numbered_dollar own g j)
    free_by false h (hinted d u) same = false≢true (sym d ∙ ap has_dollar (sym same) ∙ numbered_dollar own hint n)
    free_by false h (counted g e) same = let z = numbered_differ own hint g n j a c (same ∙ e) in let w : ⊥ = omega arith in w

later_differ : (own taken : List (List ℕ)) (n : ℕ) (hints : List (Option (List ℕ))) (i j : ℕ) → n + length hints ≤ 2 ^ 64 → i < j → j < length hints → text_at (names_from (sign own) taken n hints) i ≡ text_at (names_from (sign own) taken n hints) j → ⊥
later_differ own taken n [] i j m l h same = let z : ⊥ = omega arith in z
later_differ own taken n (hint ∷ hints) i zero m l h same = let z : ⊥ = omega arith in z
later_differ own taken n (hint ∷ hints) zero (suc j) m l h same = used_by own taken n (hint_text hint) _ ((n + 1) + j) (omega arith) (omega arith) (omega arith) (entry_at own (with_hint taken (hint_text hint)) (n + 1) hints j (omega arith)) same
later_differ own taken n (hint ∷ hints) (suc i) (suc j) m l h same = later_differ own (with_hint taken (hint_text hint)) (n + 1) hints i j (omega arith) (omega arith) (omega arith) same

pub names_apart : (own taken : List (List ℕ)) (hints : List (Option (List ℕ))) (i j : ℕ) → length hints < 2 ^ 64 → i < length hints → j < length hints → text_at (names_from (sign own) taken 0 hints) i ≡ text_at (names_from (sign own) taken 0 hints) j → i ≡ j
names_apart own taken hints i j m h k same = by_order (nat_lt i j) (nat_lt j i) refl refl
  where
    by_order : (b c : Bool) → nat_lt i j ≡ b → nat_lt j i ≡ c → i ≡ j
    by_order true c u v = absurd (later_differ own taken 0 hints i j (omega arith) (ltb-true i j u) k same)
    by_order false true u v = absurd (later_differ own taken 0 hints j i (omega arith) (ltb-true j i v) h (sym same))
    by_order false false u v = let a = ltb-false i j u in let c = ltb-false j i v in omega arith

name_good : (own taken : List (List ℕ)) (i : ℕ) (hint : List ℕ) → i < 2 ^ 64 → GoodName (hint_name (sign own) taken i hint)
name_good own taken i hint h = by_test GoodName (is_free taken hint) hint (numbered (sign own) hint i)
    (λ f. no_word_good hint (left _ _ (left _ _ (left _ _ f))) (unnot _ (right _ _ f))) (λ f. numbered_good own hint i h)

pub names_good : (own taken : List (List ℕ)) (n : ℕ) (hints : List (Option (List ℕ))) (i : ℕ) → n + length hints ≤ 2 ^ 64 → i < length hints → GoodName (text_at (names_from (sign own) taken n hints) i)
names_good own taken n [] i m h = let z : ⊥ = omega arith in absurd z
names_good own taken n (hint ∷ hints) zero m h = name_good own taken n (hint_text hint) (omega arith)
names_good own taken n (hint ∷ hints) (suc i) m h = names_good own (with_hint taken (hint_text hint)) (n + 1) hints i (omega arith) (omega arith)

-- ## The names of hosts

pub name_at : (ts : List (List ℕ)) (i : ℕ) → i < length ts → GoodNames ts → GoodName (text_at ts i)
name_at [] i h k = let z : ⊥ = omega arith in absurd z
name_at (t ∷ ts) zero h k = k.0
name_at (t ∷ ts) (suc i) h k = name_at ts i (omega arith) k.1

pub hosts_good : (own taken : List (List ℕ)) (n : ℕ) (hosts : List (List ℕ)) → n + length hosts ≤ 2 ^ 64 → list_all is_host_name hosts ≡ true → GoodNames (hosts_from (sign own) taken n hosts)
hosts_good own taken n [] m h = tt
hosts_good own taken n (t ∷ hosts) m h = (
  by_test GoodName (is_taken taken t) (numbered (sign own) t n) t (λ f. numbered_good own t n (omega arith)) (λ f. host_good t (left _ _ h)),
  hosts_good own taken (n + 1) hosts (omega arith) (right _ _ h),
)

-- the signs are longer than any `$` in these names
run_least : (best run : ℕ) (t : List ℕ) → best ≤ longest_run best run t
run_least best run [] = omega arith
run_least best run (c ∷ cs) = let now = cond (nat_eq c 36) (run + 1) 0 in let a = run_least (max best now) now cs in omega arith

run_more : (a best run : ℕ) (t : List ℕ) → a ≤ best → longest_run a run t ≤ longest_run best run t
run_more a best run [] h = h
run_more a best run (c ∷ cs) h = let now = cond (nat_eq c 36) (run + 1) 0 in run_more (max a now) (max best now) now cs (omega arith)

most_least : (best : ℕ) (names : List (List ℕ)) → best ≤ most_dollars best names
most_least best [] = omega arith
most_least best (t ∷ names) = let a = run_least best 0 t in let b = most_least (longest_run best 0 t) names in omega arith

most_there : (best : ℕ) (names : List (List ℕ)) (t : List ℕ) → has names t ≡ true → longest_run 0 0 t ≤ most_dollars best names
most_there best [] t h = absurd (false≢true h)
most_there best (v ∷ names) t h = there_by (bytes_eq t v) refl h (most_there (longest_run best 0 v) names t)
  where
    there_by : (b : Bool) → bytes_eq t v ≡ b → (b || has names t) ≡ true → (has names t ≡ true → longest_run 0 0 t ≤ most_dollars (longest_run best 0 v) names) → longest_run 0 0 t ≤ most_dollars (longest_run best 0 v) names
    there_by true i h f = let a = run_more 0 best 0 t (omega arith) in let b = most_least (longest_run best 0 v) names in let c = ap (λ u. longest_run best 0 u) ((bytes_decides t v).0 i) in omega arith
    there_by false i h f = f h

-- a run of dollars counts
run_of : (best run k : ℕ) (ys : List ℕ) → run + k ≤ longest_run (max best run) run (replicate k 36 ++ ys)
run_of best run zero ys = let a = run_least (max best run) run ys in omega arith
run_of best run (suc k) ys =
    let a = run_of (max best run) (run + 1) k ys in omega arith

run_behind : (best run k : ℕ) (xs ys : List ℕ) → k ≤ longest_run (max best run) run (xs ++ (replicate k 36 ++ ys))
run_behind best run k [] ys = let a = run_of best run k ys in omega arith
run_behind best run k (x ∷ xs) ys = run_behind (max best run) (cond (nat_eq x 36) (run + 1) 0) k xs ys

numbered_run : (own : List (List ℕ)) (hint : List ℕ) (i : ℕ) → most_dollars 0 own + 1 ≤ longest_run 0 0 (numbered (sign own) hint i)
numbered_run own hint i = let a = run_behind 0 0 (most_dollars 0 own + 1) (stem hint) (decimal i) in let c = ap (longest_run 0 0) (numbered_is own hint i) in omega arith

-- a host's name is none of these that were numbered
host_not_numbered : (own : List (List ℕ)) (t hint : List ℕ) (i : ℕ) → has own t ≡ true → t ≡ numbered (sign own) hint i → ⊥
host_not_numbered own t hint i h same = let a = most_there 0 own t h in let b = numbered_run own hint i in let c = ap (longest_run 0 0) same in let z : ⊥ = omega arith in z

abbrev pub all_there : List (List ℕ) → List (List ℕ) → Type 0
all_there own [] = Unit {0}
all_there own (t ∷ ts) = (has own t ≡ true) × all_there own ts

-- a name that no host behind it is, and no numbered name
numbered_absent : (own taken : List (List ℕ)) (n i : ℕ) (hint : List ℕ) (hosts : List (List ℕ)) → i < n → n + length hosts ≤ 2 ^ 64 → all_there own hosts → is_one_of (numbered (sign own) hint i) (hosts_from (sign own) taken n hosts) ≡ false
numbered_absent own taken n i hint [] l m a = refl
numbered_absent own taken n i hint (t ∷ hosts) l m a = or_both _ _ (no_by _ (λ s. differ_by (is_taken taken t) ((bytes_decides _ _).0 s))) (numbered_absent own taken (n + 1) i hint hosts (omega arith) (omega arith) a.1)
  where
    differ_by : (b : Bool) → numbered (sign own) hint i ≡ cond b (numbered (sign own) t n) t → ⊥
    differ_by true s = let d = numbered_differ own hint t i n (omega arith) (omega arith) s in let z : ⊥ = omega arith in z
    differ_by false s = host_not_numbered own t hint i a.0 (sym s)

kept_absent : (own taken : List (List ℕ)) (n : ℕ) (t : List ℕ) (hosts : List (List ℕ)) → has own t ≡ true → is_one_of t hosts ≡ false → is_one_of t (hosts_from (sign own) taken n hosts) ≡ false
kept_absent own taken n t [] h k = refl
kept_absent own taken n t (u ∷ hosts) h k = or_both _ _ (no_by _ (λ s. differ_by (is_taken taken u) ((bytes_decides _ _).0 s))) (kept_absent own taken (n + 1) t hosts h (or_right (bytes_eq t u) _ k))
  where
    differ_by : (b : Bool) → t ≡ cond b (numbered (sign own) u n) u → ⊥
    differ_by true s = host_not_numbered own t u n h s
    differ_by false s = false≢true (sym (or_left _ _ k) ∙ (bytes_decides t u).1 s)

pub hosts_differ : (own taken : List (List ℕ)) (n : ℕ) (hosts : List (List ℕ)) → n + length hosts ≤ 2 ^ 64 → all_there own hosts → names_differ hosts ≡ true → names_differ (hosts_from (sign own) taken n hosts) ≡ true
hosts_differ own taken n [] m a h = refl
hosts_differ own taken n (t ∷ hosts) m a h = both (ap not (absent_by (is_taken taken t))) (hosts_differ own taken (n + 1) hosts (omega arith) a.1 (right _ _ h))
  where
    absent_by : (b : Bool) → is_one_of (cond b (numbered (sign own) t n) t) (hosts_from (sign own) taken (n + 1) hosts) ≡ false
    absent_by true = numbered_absent own taken (n + 1) n t hosts (omega arith) (omega arith) a.1
    absent_by false = kept_absent own taken (n + 1) t hosts a.0 (unnot _ (left _ _ h))

has_behind : (xs ys : List (List ℕ)) (t : List ℕ) → has ys t ≡ true → has (xs ++ ys) t ≡ true
has_behind [] ys t h = h
has_behind (x ∷ xs) ys t h = or_second (bytes_eq t x) _ (has_behind xs ys t h)

all_there_by : (own hosts : List (List ℕ)) → ((t : List ℕ) → has hosts t ≡ true → has own t ≡ true) → all_there own hosts
all_there_by own [] f = tt
all_there_by own (t ∷ hosts) f = (f t (or_first _ _ ((bytes_decides t t).1 refl)), all_there_by own hosts (λ u h. f u (or_second (bytes_eq u t) _ h)))

pub there_behind : (xs hosts : List (List ℕ)) → all_there (xs ++ hosts) hosts
there_behind xs hosts = all_there_by (xs ++ hosts) hosts (λ t h. has_behind xs hosts t h)

pub hosts_length : (own taken : List (List ℕ)) (n : ℕ) (hosts : List (List ℕ)) → length (hosts_from (sign own) taken n hosts) ≡ length hosts
hosts_length own taken n [] = refl
hosts_length own taken n (t ∷ hosts) = ap suc (hosts_length own taken (n + 1) hosts)
