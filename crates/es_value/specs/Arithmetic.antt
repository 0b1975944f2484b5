-- Arithmetic on whole and safe numbers: what the operators of ECMA-262, 6th edition, 12.6 and 12.7, and those of the
-- 7th edition, 12.6, give where their exact result is such a number, and the exit X1 elsewhere.
use Rattle.std.specs.Prelude.{ℕ, zero, suc, ℤ, pos, negsuc, ◌+ℤ◌, ◌-ℤ◌, ◌*ℤ◌, unsigned_abs, int_div, int_rem, Bool, ◌&&◌, not, if◌then◌else◌, nat_le, nat_eq, Result, Ok, Err}
use Rattle.es_value.specs.declared.arithmetic.Exit.{Exit}
use Rattle.es_value.specs.declared.arithmetic.Exit.TheVariants.{X1, X2}

-- the number of an exit among all those at which a run leaves
abbrev pub exit_number : Exit → ℕ
exit_number X1 = 1
exit_number X2 = 2

-- whether z is safe: at most 2^53 - 1, and no less than its opposite (20.1.2.6 and 20.1.2.8)
abbrev pub is_safe : ℤ → Bool
is_safe z = nat_le (unsigned_abs z) 9007199254740991

-- the exact result z as the operator gives it
abbrev pub whole : ℤ → Result ℤ Exit
whole z = if is_safe z then Ok z else Err X1

abbrev pub is_zero : ℤ → Bool
is_zero z = nat_eq (unsigned_abs z) 0

abbrev pub sum : ℤ → ℤ → Result ℤ Exit
sum a b = whole (a +ℤ b)

abbrev pub difference : ℤ → ℤ → Result ℤ Exit
difference a b = whole (a -ℤ b)

abbrev pub product : ℤ → ℤ → Result ℤ Exit
product a b = whole (a *ℤ b)

-- whether a / b is whole
abbrev pub divides : ℤ → ℤ → Bool
divides b a = not (is_zero b) && is_zero (int_rem a b)

abbrev pub quotient : ℤ → ℤ → Result ℤ Exit
quotient a b = if divides b a then whole (int_div a b) else Err X1

-- the remainder has the sign of a
abbrev pub remainder : ℤ → ℤ → Result ℤ Exit
remainder a b = if is_zero b then Err X1 else whole (int_rem a b)

-- a multiplied by itself n times
abbrev pub times : ℤ → ℕ → ℤ
times a zero = pos 1
times a (suc n) = times a n *ℤ a

-- the power: a negative exponent gives a whole number for the bases 1 and -1 alone
abbrev pub power : ℤ → ℤ → Result ℤ Exit
power a (pos n) = whole (times a n)
power a (negsuc n) = if nat_eq (unsigned_abs a) 1 then whole (times a (suc n)) else Err X1
