-- Powers of whole numbers.
use Rattle.std.proofs.Common.{◌≡◌, ◌<◌, ◌≤◌, ◌+◌, ◌-◌, ◌*◌, ◌%◌, ℕ, zero, suc, ℤ, pos, negsuc, unsigned_abs, refl, sym, ap, ◌∙◌, arith, ◌*ℤ◌, ◌≤ℤ◌, ◌<ℤ◌, Ok, Err, ◌≢◌}
use Rattle.std.proofs.lemmas.Bool.Decides.{nat_tests}
use Rattle.std.proofs.lemmas.Int.{unsigned_abs-mul, ints}
use Rattle.std.proofs.Math.Nat.{mul-le-mul_left}
use Rattle.es_value.specs.Arithmetic.{times, whole, power, product}
use Rattle.es_value.specs.declared.arithmetic.Exit.{Exit}
use Rattle.es_value.specs.declared.arithmetic.Exit.TheVariants.{X1}

-- the absolute value of a power grows with the exponent
pub times_grows : (a : ℤ) (n : ℕ) → 1 ≤ unsigned_abs a → unsigned_abs (times a n) ≤ unsigned_abs (times a (suc n))
times_grows a n h =
    let m : unsigned_abs (times a n) * 1 ≤ unsigned_abs (times a n) * unsigned_abs a = mul-le-mul_left (unsigned_abs (times a n)) h in
    omega (arith, unsigned_abs-mul (times a n) a, m)

pub times_mono : (a : ℤ) (n k : ℕ) → 1 ≤ unsigned_abs a → unsigned_abs (times a n) ≤ unsigned_abs (times a (k + n))
times_mono a n zero h =
    let e : 0 + n ≡ n = omega arith in
    omega (arith, ap (λ m. unsigned_abs (times a m)) e)
times_mono a n (suc k) h =
    let e : suc k + n ≡ suc (k + n) = omega arith in
    omega (arith, ap (λ m. unsigned_abs (times a m)) e, times_mono a n k h, times_grows a (k + n) h)

pub whole_err : (z : ℤ) (e : Exit) → whole z ≡ Err e → 9007199254740991 < unsigned_abs z
whole_err z e h = grind (arith, nat_tests)

pub whole_err_is : (z : ℤ) (e : Exit) → whole z ≡ Err e → e ≡ X1
whole_err_is z e h = grind (arith, nat_tests)

pub whole_large : (z : ℤ) → 9007199254740991 < unsigned_abs z → whole z ≡ Err X1
whole_large z h = grind (arith, nat_tests)

-- once a power is no safe number, none with a larger exponent is
pub times_unsafe : (a : ℤ) (i n : ℕ) (e : Exit) → 2 ≤ unsigned_abs a → i < n → product (times a i) a ≡ Err e → Err e ≡ whole (times a n)
times_unsafe a i n e large below h =
    let past : 9007199254740991 < unsigned_abs (times a (suc i)) = whole_err (times a (suc i)) e h in
    let k : ℕ = n - suc i in
    let more : unsigned_abs (times a (suc i)) ≤ unsigned_abs (times a (k + suc i)) = times_mono a (suc i) k (omega arith) in
    let at : k + suc i ≡ n = omega arith in
    let far : 9007199254740991 < unsigned_abs (times a (k + suc i)) = omega (arith, past, more) in
    ap Err (whole_err_is (times a (suc i)) e h) ∙ sym (whole_large (times a (k + suc i)) far) ∙ ap (λ m. whole (times a m)) at

pub times_one : (n : ℕ) → times (pos 1) n ≡ pos 1
times_one zero = refl
times_one (suc n) = ap (λ z. z *ℤ pos 1) (times_one n)

pub times_zero : (n : ℕ) → times (pos 0) (suc n) ≡ pos 0
times_zero zero = refl
times_zero (suc n) = ap (λ z. z *ℤ pos 0) (times_zero n)

pub record Alternates (n : ℕ) : Type 0 where
  pub even : n % 2 ≡ 0 → times (negsuc 0) n ≡ pos 1
  pub odd : n % 2 ≢ 0 → times (negsuc 0) n ≡ negsuc 0

pub alternates : (n : ℕ) → Alternates n
alternates zero = record { even = λ _. refl; odd = λ h. absurd (omega (arith, h)) }
alternates (suc n) = record {
  even = λ h. ap (λ z. z *ℤ negsuc 0) ((alternates n).odd (omega arith));
  odd = λ h. ap (λ z. z *ℤ negsuc 0) ((alternates n).even (omega arith));
}

-- the powers of 1, of 0 and of -1, and those with a negative exponent
pub power_one : (a b : ℤ) → a ≡ pos 1 → power a b ≡ Ok (pos 1)
power_one a b e = ap (λ z. power z b) e ∙ by b
  where
    by : (b : ℤ) → power (pos 1) b ≡ Ok (pos 1)
    by (pos n) = ap whole (times_one n)
    by (negsuc n) = ap whole (times_one (suc n))

pub power_even : (a b : ℤ) → a ≡ negsuc 0 → unsigned_abs b % 2 ≡ 0 → power a b ≡ Ok (pos 1)
power_even a b e even = ap (λ z. power z b) e ∙ by b even
  where
    by : (b : ℤ) → unsigned_abs b % 2 ≡ 0 → power (negsuc 0) b ≡ Ok (pos 1)
    by (pos n) h = ap whole ((alternates n).even h)
    by (negsuc n) h = ap whole ((alternates (suc n)).even h)

pub power_odd : (a b : ℤ) → a ≡ negsuc 0 → unsigned_abs b % 2 ≢ 0 → power a b ≡ Ok (negsuc 0)
power_odd a b e odd = ap (λ z. power z b) e ∙ by b odd
  where
    by : (b : ℤ) → unsigned_abs b % 2 ≢ 0 → power (negsuc 0) b ≡ Ok (negsuc 0)
    by (pos n) h = ap whole ((alternates n).odd h)
    by (negsuc n) h = ap whole ((alternates (suc n)).odd h)

pub power_zero : (a b : ℤ) → a ≡ pos 0 → pos 0 ≤ℤ b → b ≢ pos 0 → power a b ≡ Ok (pos 0)
power_zero a b e low other = ap (λ z. power z b) e ∙ by b low other
  where
    by : (b : ℤ) → pos 0 ≤ℤ b → b ≢ pos 0 → power (pos 0) b ≡ Ok (pos 0)
    by (pos zero) l h = absurd (h refl)
    by (pos (suc n)) l h = ap whole (times_zero n)
    by (negsuc n) l h = absurd (omega arith)

pub power_large : (a b : ℤ) → pos 0 ≤ℤ b → power a b ≡ whole (times a (unsigned_abs b))
power_large a (pos n) low = refl
power_large a (negsuc n) low = absurd (omega arith)

pub power_negative : (a b : ℤ) → a ≢ pos 1 → a ≢ negsuc 0 → b <ℤ pos 0 → power a b ≡ Err X1
power_negative a (pos n) one other low = absurd (omega (arith, ints))
power_negative (pos n) (negsuc k) one other low = grind (arith, nat_tests)
power_negative (negsuc n) (negsuc k) one other low = grind (arith, nat_tests)
