-- What the words behind a command's name say, read from left to right.
use Rattle.std.specs.Prelude.{◌≡◌, ℕ, Bool, true, false, ◌==◌, cond, List, [], ◌∷◌, codes, map, Option, Some, None, option_and_then, option_map}
use Rattle.std.specs.List.{before_first, after_first, list_any}
use Rattle.std.specs.Str.{bytes_eq}
use Rattle.command_words.specs.declared.said.Said.{Said}
use Rattle.command_words.specs.declared.command.WordsFault.{WordsFault}
use Rattle.command_words.specs.declared.command.WordsFault.TheVariants.{Usage, OutOfMemory}

-- the plain words, and the texts that `--steps` was given, each in order
pub record Parts : Type 0 where
  pub plain : List (List ℕ)
  pub steps : List (List ℕ)

abbrev pub with_plain : List ℕ → Parts → Parts
with_plain word parts = record { plain = word ∷ parts.plain; steps = parts.steps }

abbrev pub with_steps : List ℕ → Parts → Parts
with_steps text parts = record { plain = parts.plain; steps = text ∷ parts.steps }

-- the word begins with `-` (45) and is longer
abbrev pub is_option : List ℕ → Bool
is_option [] = false
is_option (b ∷ []) = false
is_option (b ∷ c ∷ bs) = b == 45

-- what stands behind two hyphens
abbrev pub behind_hyphens : List ℕ → Option (List ℕ)
behind_hyphens (b ∷ c ∷ rest) = cond (b == 45) (cond (c == 45) (Some rest) None) None
behind_hyphens _ = None

-- Of what stands behind two hyphens: whether it is `steps` or begins with `steps=`, and what stands behind its first `=` (61), if it has one.
abbrev pub text_of : List ℕ → Option (Option (List ℕ))
text_of rest = cond (bytes_eq (codes "steps") (before_first (λ b. b == 61) rest)) (Some (text rest)) None
  where
    text : List ℕ → Option (List ℕ)
    text r = cond (list_any (λ b. b == 61) r) (Some (after_first (λ b. b == 61) r)) None

abbrev pub steps_of : List ℕ → Option (Option (List ℕ))
steps_of word = option_and_then text_of (behind_hyphens word)

-- One word, and what is said from there on, where `--steps` wants its text or not.
abbrev pub spoken : Option (Option (List ℕ)) → List ℕ → (Bool → Option Parts) → Option Parts
spoken (Some (Some text)) word rest = option_map (with_steps text) (rest false)
spoken (Some None) word rest = rest true
spoken None word rest = cond (is_option word) None (option_map (with_plain word) (rest false))

-- What words say. The text behind `--steps` is a number, so it is no word that begins with `-`; behind `--` every word is plain.
abbrev pub said : Bool → List (List ℕ) → Option Parts
said wants [] = cond wants None (Some (record { plain = []; steps = [] }))
said true (word ∷ words) = cond (is_option word) None (option_map (with_steps word) (said false words))
said false (word ∷ words) =
    cond (bytes_eq word (codes "--")) (Some (record { plain = words; steps = [] })) (spoken (steps_of word) word (λ wants. said wants words))

abbrev pub parts_of : Said → Parts
parts_of s = record { plain = map (λ w. w.now) s.plain.items; steps = map (λ w. w.now) s.steps.items }

abbrev pub IsSaid : List (List ℕ) → Said → Type 0
IsSaid words s = said false words ≡ Some (parts_of s)

-- Nothing is wanted where words are wrong. Memory that runs out says nothing.
abbrev pub IsRefused : {T : Type 0} → Option T → WordsFault → Type 0
IsRefused wanted Usage = wanted ≡ None
IsRefused wanted OutOfMemory = Unit {0}
