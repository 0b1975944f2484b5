-- Numbers and their digits.
use Rattle.std.proofs.Common.{◌≡◌, ℕ, zero, suc, ◌+◌, ◌/◌, ◌%◌, ◌^◌, ◌<◌, ◌≤◌, List, [], ◌∷◌, ◌++◌, refl, sym, ap, ◌∙◌, arith, append_assoc}
use Rattle.std.proofs.lemmas.Bool.{le-ltb, lt-ltb}
use Rattle.source_map.specs.Digits.{letter}
use Rattle.source_map.specs.Written.{digits_text}

-- the number has at most so many digits more than one
abbrev pub IsShort : ℕ → ℕ → Type 0
IsShort zero n = n < 32
IsShort (suc k) n = IsShort k (n / 32)

pub IsShort-six : (n : ℕ) → n < 2 ^ 32 → IsShort 6 n
IsShort-six n h = omega arith

pub digits_text-last : (k n : ℕ) → n < 32 → digits_text k n ≡ letter n ∷ []
unfolding digits_text
digits_text-last zero n h = refl
digits_text-last (suc k) n h = rw (lt-ltb n 32 h) refl

-- one digit, and the rest
pub digits_text-more : (k n : ℕ) → IsShort k n → 32 ≤ n → (j : ℕ) × IsShort j (n / 32) × (digits_text k n ≡ letter (32 + n % 32) ∷ digits_text j (n / 32))
unfolding digits_text
digits_text-more zero n short h = absurd (omega arith)
digits_text-more (suc k) n short h = (k, short, rw (le-ltb n 32 h) refl)

-- ---- a text that grows by a number's digits

pub digits_pushed : (old so_far new : List ℕ) (k n : ℕ) → IsShort k n → 32 ≤ n → so_far ++ digits_text k n ≡ old → new ≡ so_far ++ letter (32 + n % 32) ∷ []
    → (j : ℕ) × IsShort j (n / 32) × (new ++ digits_text j (n / 32) ≡ old)
digits_pushed old so_far new k n short some before is =
    let m = digits_text-more k n short some in
    (m.0, m.1, ap (λ s. s ++ digits_text m.0 (n / 32)) is ∙ append_assoc so_far _ _ ∙ sym (ap (λ s. so_far ++ s) m.2) ∙ before)

pub digits_ended : (old so_far new : List ℕ) (k n : ℕ) → n < 32 → so_far ++ digits_text k n ≡ old → new ≡ so_far ++ letter n ∷ [] → new ≡ old
digits_ended old so_far new k n last before is = is ∙ sym (ap (λ s. so_far ++ s) (digits_text-last k n last)) ∙ before
