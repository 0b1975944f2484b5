-- Which texts are array indices.
use Rattle.std.proofs.Common.{◌≡◌, ◌<◌, ◌≤◌, ◌^◌, ◌+◌, ◌*◌, ◌-◌, ℕ, zero, suc, Bool, true, false, cond, ◌&&◌, nat_lt, length, get_or, List, [], ◌∷◌, Option, None, Some, refl, sym, ap, ◌∙◌, subst, arith, rules, true≢false, fold, ltb-true}
use Rattle.std.proofs.lemmas.Bool.Decides.{nat_tests}
use Rattle.std.proofs.lemmas.Fmt.{decimal-digits_value, first_decimal, length-decimal-le, decimal_nonempty, decimal_digit}
use Rattle.std.proofs.lemmas.Slice.Eq.{bytes_eq-Decides}
use Rattle.std.proofs.lemmas.Str.Parse.{IsNumeralModel, numerals_by_fold}
use Rattle.std.specs.Fmt.{decimal}
use Rattle.std.specs.List.{list_all}
use Rattle.es_value.specs.Convert.{is_digit, digits_value}
use Rattle.es_heap.specs.declared.key.Key.{Key}
use Rattle.es_heap.specs.declared.key.Key.TheVariants.{Text, Iterator}
use Rattle.es_heap.specs.Keys.{array_index, index_of_units, is_canonical, starts_well}

pub numerals : IsNumeralModel (λ us. list_all is_digit us ≡ true) digits_value
numerals = numerals_by_fold _ (search rules) (λ n us. fold (λ m u. m * 10 + (u - 48)) n us) (search rules)

-- what an index's text is
pub index_is : (us : List ℕ) (i : ℕ) → index_of_units us ≡ Some i → (us ≡ decimal i) × (i < 4294967295)
index_is us i e = by (is_canonical us) refl (nat_lt (digits_value us) 4294967295) refl e
  where
    canon : (a b : Bool) → a && b ≡ true → b ≡ true
    canon true true h = refl
    canon true false h = h
    canon false b h = absurd (true≢false (sym h))

    by : (c : Bool) → is_canonical us ≡ c → (d : Bool) → nat_lt (digits_value us) 4294967295 ≡ d → cond (c && d) (Some (digits_value us)) None ≡ Some i → (us ≡ decimal i) × (i < 4294967295)
    by true p true q h =
        let n : digits_value us ≡ i = cc in
        (((bytes_eq-Decides us (decimal (digits_value us))).0 (canon (list_all is_digit us) _ p)) ∙ ap decimal n, subst (λ m. m < 4294967295) n (ltb-true _ _ q))
    by true p false q h = cc
    by false p true q h = cc
    by false p false q h = cc

-- two keys with one index are one key
pub index_injective : (a b : Key) (i : ℕ) → array_index a ≡ Some i → array_index b ≡ Some i → a ≡ b
index_injective (Text us) (Text vs) i p q = ap Text ((index_is us i p).0 ∙ sym (index_is vs i q).0)
index_injective (Text us) Iterator i p q = cc
index_injective Iterator b i p q = cc

-- digits that start well are the text of their value
pub canonical : (us : List ℕ) → list_all is_digit us ≡ true → starts_well us ≡ true → digits_value us < 2 ^ 64 → is_canonical us ≡ true
canonical us digits start small =
    let e : decimal (digits_value us) ≡ us = decimal-digits_value numerals us digits (long us start) (zero us start) small in
    cc ((bytes_eq-Decides us (decimal (digits_value us))).1 (sym e), digits)
  where
    long : (us : List ℕ) → starts_well us ≡ true → 0 < length us
    long [] s = absurd (true≢false (sym s))
    long (u ∷ us) s = omega arith

    zero : (us : List ℕ) → starts_well us ≡ true → get_or us 0 0 ≡ 48 → length us ≡ 1
    zero [] s e = absurd (true≢false (sym s))
    zero (u ∷ []) s e = refl
    zero (u ∷ v ∷ us) s e = grind (arith, nat_tests)

-- a text of more than ten units is no index
pub index_of_long : (us : List ℕ) → 10 < length us → index_of_units us ≡ None
index_of_long us long = by (index_of_units us) refl
  where
    by : (o : Option ℕ) → index_of_units us ≡ o → index_of_units us ≡ None
    by None e = e
    by (Some i) e =
        let p = index_is us i e in
        let short : length (decimal i) ≤ 10 = length-decimal-le 10 i (omega arith) (omega (arith, p.1)) (omega (arith, p.1)) in
        absurd (omega (arith, ap length p.0, short))

-- nor is one that starts with a zero before other units, or has none
pub index_of_badly_started : (us : List ℕ) → starts_well us ≡ false → index_of_units us ≡ None
index_of_badly_started us bad = by (index_of_units us) refl
  where
    starts : (i : ℕ) (ds : List ℕ) → ds ≡ decimal i → i < 4294967295 → starts_well ds ≡ true
    starts i [] e small = absurd (omega (arith, ap length e, decimal_nonempty i (omega arith)))
    starts i (u ∷ []) e small = refl
    starts zero (u ∷ v ∷ ds) e small = absurd (omega (arith, ap length e, ap length (decimal_digit 0 (omega arith))))
    starts (suc i) (u ∷ v ∷ ds) e small =
        let first : 48 < get_or (decimal (suc i)) 0 0 = first_decimal (suc i) (omega arith) (omega arith) in
        let same : u ≡ get_or (decimal (suc i)) 0 0 = ap (λ xs. get_or xs 0 0) e in
        grind (arith, nat_tests, first, same)

    by : (o : Option ℕ) → index_of_units us ≡ o → index_of_units us ≡ None
    by None e = e
    by (Some i) e =
        let p = index_is us i e in
        absurd (true≢false (sym (starts i us p.0 p.1) ∙ bad))

-- digits that start well are an index if their value is small
pub index_of_digits : (us : List ℕ) → list_all is_digit us ≡ true → starts_well us ≡ true → digits_value us < 4294967295 → index_of_units us ≡ Some (digits_value us)
index_of_digits us digits start small =
    let c : is_canonical us ≡ true = canonical us digits start (omega arith) in
    let l : nat_lt (digits_value us) 4294967295 ≡ true = grind (arith, nat_tests) in
    ap (λ a. cond (a && nat_lt (digits_value us) 4294967295) (Some (digits_value us)) None) c ∙ ap (λ a. cond a (Some (digits_value us)) None) l
