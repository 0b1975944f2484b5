-- The addition of primitive values (ECMA-262, 6th edition, 12.7.3.1), which is the same in the 5.1 edition (11.6.1).
use Rattle.std.specs.Prelude.{ℕ, Bool, true, false, ◌&&◌, if◌then◌else◌, List, ◌++◌, Option, Some, None, codes, ℤ, pos, negsuc, ◌+ℤ◌, nat_le}
use Rattle.std.specs.Fmt.{signed_decimal}
use Rattle.es_outside.specs.declared.primitive.Primitive.{Primitive}
use Rattle.es_outside.specs.declared.primitive.Primitive.TheVariants as prim

-- ToString (7.1.12)
abbrev pub to_text : Primitive → List ℕ
to_text prim.Undefined = codes "undefined"
to_text prim.Null = codes "null"
to_text (prim.Bool true) = codes "true"
to_text (prim.Bool false) = codes "false"
to_text (prim.Number n) = signed_decimal n
to_text (prim.Text units) = units

-- ToNumber (7.1.3) of a value that is no text: of undefined it is no number of this profile
abbrev pub to_number : Primitive → Option ℤ
to_number prim.Undefined = None
to_number prim.Null = Some (pos 0)
to_number (prim.Bool true) = Some (pos 1)
to_number (prim.Bool false) = Some (pos 0)
to_number (prim.Number n) = Some n
to_number (prim.Text units) = None

-- 2^53 - 1, the greatest safe integer (20.1.2.6)
abbrev pub max_safe : ℕ
max_safe = 9007199254740991

abbrev pub is_safe : ℤ → Bool
is_safe (pos n) = nat_le n max_safe
is_safe (negsuc n) = nat_le n 9007199254740990

-- a number of this profile, or none where the result isn't safe
abbrev pub safe_sum : Option ℤ → Option ℤ → Option Primitive
safe_sum (Some a) (Some b) = if is_safe (a +ℤ b) then Some (prim.Number (a +ℤ b)) else None
safe_sum _ _ = None

-- The sum of two values: one text after the other where either is a text, and else the sum of their numbers.
abbrev pub added : Primitive → Primitive → Option Primitive
added (prim.Text a) b = Some (prim.Text (a ++ to_text b))
added a (prim.Text b) = Some (prim.Text (to_text a ++ b))
added a b = safe_sum (to_number a) (to_number b)
