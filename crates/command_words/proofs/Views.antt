-- What a word looks like to the parser, and to the rule of words.
use Rattle.std.proofs.Common.{◌≡◌, ◌==◌, ℕ, true, false, refl, sym, subst, arith, List, [], ◌∷◌, Option, Some, None, inl, inr, codes}
use Rattle.std.specs.Prelude.{slice_get}
use Rattle.std.specs.Str.{bytes_eq, chars, encode_utf8_all, IsUtf8}
use Rattle.std.proofs.lemmas.Str.{encodes-chars, IsCharBoundary-after_ascii, IsUtf8-drop}
use Rattle.std.proofs.lemmas.Bool.{cases_Bool, eqb-true}
use Rattle.clap.specs.Lexer.{long_of, short_of, name_and_value}
use Rattle.command_words.specs.Said.{is_option, steps_of}

pub data View (x : List ℕ) : Type 0 where
  -- `--`
  dashes : bytes_eq x (codes "--") ≡ true → is_option x ≡ true → View x
  -- `--steps`, with a text or without
  steps : (name : List ℕ) (text : Option (List ℕ)) → bytes_eq x (codes "--") ≡ false → is_option x ≡ true → steps_of x ≡ Some text
      → long_of x ≡ Some (name, text) → bytes_eq (codes "steps") name ≡ true → View x
  -- another name behind two hyphens
  long : (name : List ℕ) (text : Option (List ℕ)) → bytes_eq x (codes "--") ≡ false → is_option x ≡ true → steps_of x ≡ None
      → long_of x ≡ Some (name, text) → bytes_eq (codes "steps") name ≡ false → View x
  -- something behind one hyphen
  short : (f : ℕ) (fs : List ℕ) → x ≡ 45 ∷ f ∷ fs → bytes_eq x (codes "--") ≡ false → is_option x ≡ true → steps_of x ≡ None
      → long_of x ≡ None → short_of x ≡ Some (f ∷ fs) → View x
  -- a plain word
  plain : bytes_eq x (codes "--") ≡ false → is_option x ≡ false → steps_of x ≡ None → long_of x ≡ None → short_of x ≡ None → View x

named : (d : ℕ) (ds : List ℕ) → View (45 ∷ 45 ∷ d ∷ ds)
named d ds = elim (cases_Bool (bytes_eq (codes "steps") (name_and_value (d ∷ ds)).0)) [
  | inl t ↦ steps (name_and_value (d ∷ ds)).0 (name_and_value (d ∷ ds)).1 refl refl (rw t refl) refl t
  | inr f ↦ long (name_and_value (d ∷ ds)).0 (name_and_value (d ∷ ds)).1 refl refl (rw f refl) refl f
]

twice : (bs : List ℕ) → View (45 ∷ 45 ∷ bs)
twice [] = dashes refl refl
twice (d ∷ ds) = named d ds

once : (c : ℕ) (bs : List ℕ) → (c == 45) ≡ false → View (45 ∷ c ∷ bs)
once c bs f = short c bs refl (rw f refl) refl (rw f refl) (rw f refl) (rw f refl)

hyphened : (c : ℕ) (bs : List ℕ) → View (45 ∷ c ∷ bs)
hyphened c bs = elim (cases_Bool (c == 45)) [
  | inl t ↦ let P : ℕ → Type 0 = λ z. View (45 ∷ z ∷ bs) in subst P (sym (eqb-true c 45 t)) (twice bs)
  | inr f ↦ once c bs f
]

alone : (b : ℕ) → View (b ∷ [])
alone b = elim (cases_Bool (b == 45)) [
  | inl t ↦ let P : ℕ → Type 0 = λ z. View (z ∷ []) in subst P (sym (eqb-true b 45 t)) (plain refl refl refl refl refl)
  | inr f ↦ plain (rw f refl) refl refl (rw f refl) (rw f refl)
]

pub view : (x : List ℕ) → View x
view [] = plain refl refl refl refl refl
view (b ∷ []) = alone b
view (b ∷ c ∷ bs) = elim (cases_Bool (b == 45)) [
  | inl t ↦ let P : ℕ → Type 0 = λ z. View (z ∷ c ∷ bs) in subst P (sym (eqb-true b 45 t)) (hyphened c bs)
  | inr f ↦ plain (rw f refl) f (rw f refl) (rw f refl) (rw f refl)
]

-- a text that begins with a hyphen has a character behind it
pub first_char : (f : ℕ) (fs : List ℕ) → IsUtf8 (45 ∷ f ∷ fs) → (c : ℕ) × (slice_get (chars (f ∷ fs)) 0 ≡ Some c)
first_char f fs u = go (chars (f ∷ fs)) (encodes-chars (f ∷ fs) (IsUtf8-drop (45 ∷ f ∷ fs) 1 u (IsCharBoundary-after_ascii (45 ∷ f ∷ fs) 0 u (omega arith) (omega arith))))
  where
    go : (cs : List ℕ) → encode_utf8_all cs ≡ f ∷ fs → (c : ℕ) × (slice_get cs 0 ≡ Some c)
    go [] e = absurd (cc)
    go (c ∷ cs) e = (c, refl)
