-- Property keys (ECMA-262, 6th edition, 6.1.7), and which of them are array indices.
use Rattle.std.specs.Prelude.{◌≡◌, ℕ, Bool, [], ◌∷◌, true, false, not, ◌&&◌, nat_eq, nat_lt, if◌then◌else◌, codes, List, Option, None, Some}
use Rattle.std.specs.Bool.{Decides}
use Rattle.std.specs.Cmp.{IsEquivalence, IsPartialEquivalence, decided, partial_equiv_from_equiv}
use Rattle.std.specs.Cmp.Lexicographic.{pointwise}
use Rattle.std.specs.Fmt.{decimal}
use Rattle.std.specs.Hash.{HashWrites, slice, u8, u16}
use Rattle.std.specs.List.{list_all}
use Rattle.std.proofs.Common.{true≢false, sym, refl, ap}
use Rattle.std.proofs.lemmas.Slice.Eq.{bytes_eq-Decides}
use Rattle.es_value.specs.Convert.{is_digit, digits_value}
use Rattle.es_heap.specs.declared.key.Key.{Key}
use Rattle.es_heap.specs.declared.key.Key.TheVariants.{Text, Iterator}

abbrev pub same_key : Key → Key → Bool
same_key (Text a) (Text b) = pointwise nat_eq a b
same_key (Text a) Iterator = false
same_key Iterator (Text b) = false
same_key Iterator Iterator = true

pub same_key-Decides : (a b : Key) → Decides (same_key a b) (a ≡ b)
same_key-Decides (Text a) (Text b) = (λ e. ap Text ((bytes_eq-Decides a b).0 e), λ e. (bytes_eq-Decides a b).1 (cc e))
same_key-Decides (Text a) Iterator = (λ e. absurd (true≢false (sym e)), λ e. cc)
same_key-Decides Iterator (Text b) = (λ e. absurd (true≢false (sym e)), λ e. cc)
same_key-Decides Iterator Iterator = (λ e. refl, λ e. refl)

pub same_key-equivalence : IsEquivalence same_key
same_key-equivalence = decided same_key same_key-Decides

pub same_key-laws : IsPartialEquivalence same_key
same_key-laws = partial_equiv_from_equiv same_key-equivalence

-- what a key feeds a hasher
abbrev pub key_input : Key → HashWrites
key_input (Text units) = slice u16 units
key_input Iterator = u8 1

pub key_input-respects : (a b : Key) → same_key a b ≡ true → key_input a ≡ key_input b
key_input-respects a b e = ap key_input ((same_key-Decides a b).0 e)

-- the units are the decimal text of the number that they spell
abbrev pub is_canonical : List ℕ → Bool
is_canonical units = list_all is_digit units && pointwise nat_eq units (decimal (digits_value units))

-- there is a first unit, and it is no leading zero
abbrev pub starts_well : List ℕ → Bool
starts_well [] = false
starts_well (u ∷ []) = true
starts_well (u ∷ v ∷ us) = not (nat_eq u 48)

-- the array index that the units spell: they are the decimal text of a number below 2^32 - 1
abbrev pub index_of_units : List ℕ → Option ℕ
index_of_units units = if is_canonical units && nat_lt (digits_value units) 4294967295 then Some (digits_value units) else None

-- the array index that a key spells
abbrev pub array_index : Key → Option ℕ
array_index (Text units) = index_of_units units
array_index Iterator = None

-- the key `length`
abbrev pub length_key : Key
length_key = Text (codes "length")
