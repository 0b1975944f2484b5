-- A sample that words ask for has from 1 to 1000 modules beside its entry.
use Rattle.std.proofs.Common.{◌≡◌, ℕ, ◌≤◌, ◌&&◌, Bool, true, false, cond, List, [], ◌∷◌, Option, Some, None, option_map, option_and_then, subst, refl, nat_le}
use Rattle.std.specs.Prelude.{codes}
use Rattle.std.proofs.lemmas.Bool.{leb-true}
use Rattle.std.specs.Str.{bytes_eq}
use Rattle.std.specs.Str.Parse.{digits_value}
use Rattle.module_paths.specs.Paths.{form_of}
use Rattle.command_words.specs.Numbers.{is_numeral, number_of}
use Rattle.command_words.specs.Said.{Parts, said}
use Rattle.command_words.specs.Words.{Asked, asked, command_of, build, split, rebuild, run, run5, map_of, sample, one_word, path_and_steps, two_paths}
use Rattle.commands.specs.Outcome.{IsWithin}

same_some : {A : Type 0} {x y : A} → Some x ≡ Some y → x ≡ y
same_some e = cc

-- what holds of both sides of a choice
either : {A : Type 0} (P : Option A → Type 0) (b : Bool) (x y : Option A) → P x → P y → P (cond b x y)
either P true x y p q = p
either P false x y p q = q

abbrev AsksWithin : Option Asked → Type 0
AsksWithin o = (a : Asked) → o ≡ Some a → IsWithin a

none_asked : AsksWithin None
none_asked a e = absurd (cc)

-- what is asked for by something that is there
mapped : {X : Type 0} (ask : X → Asked) → ((x : X) → IsWithin (ask x)) → (o : Option X) → AsksWithin (option_map ask o)
mapped ask within None a e = absurd (cc)
mapped ask within (Some x) a e = subst IsWithin (same_some e) (within x)

chained : {X : Type 0} (f : X → Option Asked) → ((x : X) → AsksWithin (f x)) → (o : Option X) → AsksWithin (option_and_then f o)
chained f within None a e = absurd (cc)
chained f within (Some x) a e = within x a e

two : (plain steps : List (List ℕ)) → AsksWithin (two_paths plain steps)
two [] steps a e = absurd (cc)
two (entry ∷ []) steps a e = absurd (cc)
two (entry ∷ list ∷ []) [] a e = chained (λ p. option_map (rebuild p) (form_of list)) (λ p. mapped (rebuild p) (λ q. tt) (form_of list)) (form_of entry) a e
two (entry ∷ list ∷ []) (step ∷ steps) a e = absurd (cc)
two (entry ∷ list ∷ more ∷ plain) steps a e = absurd (cc)

-- the number of a word
one_to : (digits low high : Bool) (value n : ℕ) → nat_le 1 value ≡ low → nat_le value 1000 ≡ high → cond (digits && (low && high)) (Some value) None ≡ Some n → (1 ≤ n) × (n ≤ 1000)
one_to false low high value n l h e = absurd (cc)
one_to true false high value n l h e = absurd (cc)
one_to true true false value n l h e = absurd (cc)
one_to true true true value n l h e = subst (λ (k : ℕ). (1 ≤ k) × (k ≤ 1000)) (same_some e) (leb-true 1 value l, leb-true value 1000 h)

numbered : (word : List ℕ) (n : ℕ) → number_of 1000 word ≡ Some n → (1 ≤ n) × (n ≤ 1000)
numbered word n e = one_to (is_numeral word) (nat_le 1 (digits_value 10 word)) (nat_le (digits_value 10 word) 1000) (digits_value 10 word) n refl refl e

sampled : (o : Option ℕ) → ((n : ℕ) → o ≡ Some n → (1 ≤ n) × (n ≤ 1000)) → AsksWithin (option_map sample o)
sampled None within a e = absurd (cc)
sampled (Some n) within a e = subst IsWithin (same_some e) (within n refl)

one_sampled : (o : Option (List ℕ)) (n : ℕ) → option_and_then (number_of 1000) o ≡ Some n → (1 ≤ n) × (n ≤ 1000)
one_sampled None n e = absurd (cc)
one_sampled (Some word) n e = numbered word n e

asked_within : (name : List ℕ) (parts : Parts) → AsksWithin (asked name parts)
asked_within name parts =
    either AsksWithin (bytes_eq name (codes "build")) _ _ (mapped build (λ p. tt) _)
    (either AsksWithin (bytes_eq name (codes "split")) _ _ (mapped split (λ p. tt) _)
    (either AsksWithin (bytes_eq name (codes "rebuild")) _ _ (two parts.plain parts.steps)
    (either AsksWithin (bytes_eq name (codes "run")) _ _ (mapped (λ p. run p.0 p.1) (λ p. tt) (path_and_steps parts))
    (either AsksWithin (bytes_eq name (codes "run5")) _ _ (mapped (λ p. run5 p.0 p.1) (λ p. tt) (path_and_steps parts))
    (either AsksWithin (bytes_eq name (codes "map")) _ _ (mapped map_of (λ p. tt) _)
    (either AsksWithin (bytes_eq name (codes "sample")) _ _ (sampled _ (one_sampled (one_word parts.plain parts.steps))) none_asked))))))

pub command_within : (words : List (List ℕ)) (a : Asked) → command_of words ≡ Some a → IsWithin a
command_within [] a e = absurd (cc)
command_within (name ∷ words) a e = chained (asked name) (asked_within name) (said false words) a e
