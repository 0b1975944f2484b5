-- Texts that are no words: those with a digit or a `$`; and the labels of scripts.
use Rattle.std.specs.List.{list_all, list_any}
use Rattle.std.specs.Str.{bytes_eq}
use Rattle.std.specs.Str.Parse.{AllDigits}
use Rattle.std.specs.Cmp.Lexicographic.{bytes_decides}
use Rattle.std.proofs.Common.{◌≡◌, ℕ, ◌≤◌, ◌<◌, ◌^◌, Bool, true, false, ◌&&◌, ◌||◌, not, nat_eq, nat_le, codes, decimal, drop, List, [], ◌∷◌, ◌++◌, map, length, refl, sym, ap, arith, ◌∙◌}
use Rattle.std.proofs.lemmas.Bool.{false≢true, eqb-true, eq-eqb, ltb-true, le-leb}
use Rattle.std.proofs.lemmas.Fmt.{decimal_is_IsNumeral, decimal_injective}
use Rattle.std.proofs.lemmas.Str.Parse.{digit_from_value}
use Rattle.core_ast.specs.declared.parts.Label.{Label}
use Rattle.core_ast.specs.Lawful.{has_label}
use Rattle.es5_ast.specs.Early as e
use Rattle.es5_ast.specs.Lexical as lexical
use Rattle.es5_ast.specs.Lexical.{is_identifier_name, is_identifier_part, is_one_of}
use Rattle.es5_printable.specs.Printable as p
use Rattle.emission_rules.specs.Emission.{label_text}
use Rattle.emission_laws.specs.Writable as w
use Rattle.pass_rules.proofs.pass_laws.Within.{left, right, both}

-- ## Truths

pub or_both : (a b : Bool) → a ≡ false → b ≡ false → (a || b) ≡ false
or_both a b h k = ap (λ c. c || b) h ∙ k

pub or_left : (a b : Bool) → (a || b) ≡ false → a ≡ false
or_left true b h = h
or_left false b h = refl

pub or_right : (a b : Bool) → (a || b) ≡ false → b ≡ false
or_right true b h = absurd (false≢true (sym h))
or_right false b h = h

pub or_first : (a b : Bool) → a ≡ true → (a || b) ≡ true
or_first a b h = ap (λ c. c || b) h

pub or_second : (a b : Bool) → b ≡ true → (a || b) ≡ true
or_second true b h = refl
or_second false b h = h

pub or_map : (c a b : Bool) → (a ≡ true → b ≡ true) → (c || a) ≡ true → (c || b) ≡ true
or_map true a b f h = refl
or_map false a b f h = f h

pub unnot : (a : Bool) → not a ≡ true → a ≡ false
unnot true h = sym h
unnot false h = refl

pub no_by : (a : Bool) → (a ≡ true → ⊥) → a ≡ false
no_by true h = absurd (h refl)
no_by false h = refl

-- ## Marks

abbrev pub is_mark : ℕ → Bool
is_mark c = nat_eq c 36 || (nat_le 48 c && nat_le c 57)

abbrev pub has_mark : List ℕ → Bool
has_mark t = list_any is_mark t

pub mark_behind : (xs ys : List ℕ) → has_mark ys ≡ true → has_mark (xs ++ ys) ≡ true
mark_behind [] ys h = h
mark_behind (x ∷ xs) ys h = or_second (is_mark x) _ (mark_behind xs ys h)

pub mark_before : (xs ys : List ℕ) → has_mark xs ≡ true → has_mark (xs ++ ys) ≡ true
mark_before [] ys h = absurd (false≢true h)
mark_before (x ∷ xs) ys h = or_map (is_mark x) _ _ (mark_before xs ys) h

-- what has a mark is none of the words that have none
pub no_word : (t : List ℕ) (words : List (List ℕ)) → list_all (λ v. not (has_mark v)) words ≡ true → has_mark t ≡ true → is_one_of t words ≡ false
no_word t [] h k = refl
no_word t (v ∷ words) h k = or_both _ _ (no_by (bytes_eq t v) (λ s. false≢true (sym (unnot (has_mark v) (left _ _ h)) ∙ ap has_mark (sym ((bytes_decides t v).0 s)) ∙ k))) (no_word t words (right _ _ h) k)

marked_free : (t : List ℕ) → has_mark t ≡ true → is_one_of t lexical.reserved_words ≡ false
unfolding lexical.reserved_words
marked_free t h = no_word t lexical.reserved_words refl h

pub marked_name : (t : List ℕ) → is_identifier_name t ≡ true → has_mark t ≡ true → p.is_name t ≡ true
marked_name t h k = both h (ap not (marked_free t k))

pub marked_unrestricted : (t : List ℕ) → has_mark t ≡ true → e.is_restricted t ≡ false
marked_unrestricted t h = no_word t (codes "eval" ∷ codes "arguments" ∷ []) refl h

-- ## Numbers

digit_part : (c : ℕ) → 48 ≤ c → c ≤ 57 → is_identifier_part c ≡ true
digit_part c h k = or_second _ _ (both (le-leb 48 c h) (le-leb c 57 k))

digits_part : (ds : List ℕ) → AllDigits 10 ds → list_all is_identifier_part ds ≡ true
digits_part [] h = refl
digits_part (d ∷ ds) h = let i = digit_from_value d h.0 in both (digit_part d i.0 i.1) (digits_part ds h.1)

digits_marked : (ds : List ℕ) → AllDigits 10 ds → 0 < length ds → has_mark ds ≡ true
digits_marked [] h k = absurd (let a : ⊥ = omega arith in a)
digits_marked (d ∷ ds) h k = let i = digit_from_value d h.0 in or_first _ _ (or_second (nat_eq d 36) _ (both (le-leb 48 d i.0) (le-leb d 57 i.1)))

pub decimal_parts : (m : ℕ) → m < 2 ^ 64 → list_all is_identifier_part (decimal m) ≡ true
decimal_parts m h = digits_part (decimal m) (decimal_is_IsNumeral m h).0.1

pub decimal_marked : (m : ℕ) → m < 2 ^ 64 → has_mark (decimal m) ≡ true
decimal_marked m h = let i = (decimal_is_IsNumeral m h).0 in digits_marked (decimal m) i.1 i.0

pub parts_more : (xs ys : List ℕ) → list_all is_identifier_part xs ≡ true → list_all is_identifier_part ys ≡ true → list_all is_identifier_part (xs ++ ys) ≡ true
parts_more [] ys h k = k
parts_more (x ∷ xs) ys h k = both (left _ _ h) (parts_more xs ys (right _ _ h) k)

-- ## Labels

small : (l : Label) → w.label_fits l ≡ true → l.0 < 2 ^ 64
small l h = let a = ltb-true l.0 18446744073709551616 h in omega arith

pub label_name : (l : Label) → w.label_fits l ≡ true → p.is_name (label_text l) ≡ true
label_name l h = marked_name (label_text l) (both refl (decimal_parts l.0 (small l h))) (mark_behind (codes "l") (decimal l.0) (decimal_marked l.0 (small l h)))

label_same : (l m : Label) → nat_eq l.0 m.0 ≡ true → bytes_eq (label_text l) (label_text m) ≡ true
label_same l m h = (bytes_decides (label_text l) (label_text m)).1 (ap (λ k. codes "l" ++ decimal k) (eqb-true l.0 m.0 h))

label_other : (l m : Label) → w.label_fits l ≡ true → w.label_fits m ≡ true → nat_eq l.0 m.0 ≡ false → bytes_eq (label_text l) (label_text m) ≡ false
label_other l m h k d = no_by _ (λ s. false≢true (sym d ∙ eq-eqb l.0 m.0 (decimal_injective l.0 m.0 (small l h) (small m k) (ap (drop 1) ((bytes_decides (label_text l) (label_text m)).0 s)))))

abbrev pub texts : List Label → List (List ℕ)
texts ls = map label_text ls

pub label_there : (l : Label) (ls : List Label) → has_label l ls ≡ true → is_one_of (label_text l) (texts ls) ≡ true
label_there l [] h = h
label_there l (m ∷ ls) h = there_by (nat_eq l.0 m.0) refl h (label_there l ls)
  where
    there_by : (c : Bool) → nat_eq l.0 m.0 ≡ c → (c || has_label l ls) ≡ true → (has_label l ls ≡ true → is_one_of (label_text l) (texts ls) ≡ true) → is_one_of (label_text l) (texts (m ∷ ls)) ≡ true
    there_by true i h f = or_first _ _ (label_same l m i)
    there_by false i h f = or_second (bytes_eq (label_text l) (label_text m)) _ (f h)

pub label_absent : (l : Label) (ls : List Label) → w.label_fits l ≡ true → list_all w.label_fits ls ≡ true → has_label l ls ≡ false → is_one_of (label_text l) (texts ls) ≡ false
label_absent l [] h k d = refl
label_absent l (m ∷ ls) h k d = or_both _ _ (label_other l m h (left _ _ k) (or_left _ _ d)) (label_absent l ls h (right _ _ k) (or_right (nat_eq l.0 m.0) _ d))
