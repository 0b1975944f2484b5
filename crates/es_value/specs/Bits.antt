-- The operators on 32-bit numbers (ECMA-262, 6th edition, 12.5.11, 12.8 and 12.11).
use Rattle.std.specs.Prelude.{ℕ, ℤ, pos, ◌*◌, ◌/◌, ◌%◌, ◌-◌, ◌^◌, unsigned_abs, bit_and, bit_or, bit_xor}
use Rattle.std.specs.Int.{w32, cast_signed, int_rem_euclid, int_shr}

-- ToUint32 (7.1.6): the number modulo 2^32
abbrev pub to_uint32 : ℤ → ℕ
to_uint32 z = unsigned_abs (int_rem_euclid z (pos 4294967296))

-- ToInt32 (7.1.5), of a number from 0 to 2^32 - 1: from 2^31 on, 2^32 less
abbrev pub signed_of : ℕ → ℤ
signed_of n = cast_signed w32 n

abbrev pub bitwise_and : ℤ → ℤ → ℤ
bitwise_and a b = signed_of (bit_and (to_uint32 a) (to_uint32 b))

abbrev pub bitwise_or : ℤ → ℤ → ℤ
bitwise_or a b = signed_of (bit_or (to_uint32 a) (to_uint32 b))

abbrev pub bitwise_xor : ℤ → ℤ → ℤ
bitwise_xor a b = signed_of (bit_xor (to_uint32 a) (to_uint32 b))

abbrev pub bitwise_not : ℤ → ℤ
bitwise_not a = signed_of (4294967295 - to_uint32 a)

-- only the lowest five bits of the right operand count
abbrev pub shift_count : ℤ → ℕ
shift_count b = to_uint32 b % 32

abbrev pub left_shift : ℤ → ℤ → ℤ
left_shift a b = signed_of ((to_uint32 a * 2 ^ shift_count b) % 2 ^ 32)

-- the sign bit fills the places that become free
abbrev pub signed_right_shift : ℤ → ℤ → ℤ
signed_right_shift a b = int_shr (signed_of (to_uint32 a)) (shift_count b)

abbrev pub unsigned_right_shift : ℤ → ℤ → ℤ
unsigned_right_shift a b = pos (to_uint32 a / 2 ^ shift_count b)
