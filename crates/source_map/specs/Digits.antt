-- The digits of `mappings`: A to Z, a to z, 0 to 9, + and / stand for 0 to 63.
use Rattle.std.specs.Prelude.{ℕ, ◌+◌, ◌-◌, ◌&&◌, ◌==◌, nat_le, if◌then◌else◌, Option, Some, None}

-- the digit that a character stands for
unfoldable pub digit_of : ℕ → Option ℕ
digit_of c =
    if nat_le 65 c && nat_le c 90 then Some (c - 65) else (
    if nat_le 97 c && nat_le c 122 then Some (c - 97 + 26) else (
    if nat_le 48 c && nat_le c 57 then Some (c - 48 + 52) else (
    if c == 43 then Some 62 else (
    if c == 47 then Some 63 else None))))

-- the character of a digit
unfoldable pub letter : ℕ → ℕ
letter d =
    if nat_le d 25 then 65 + d else (
    if nat_le d 51 then 97 + (d - 26) else (
    if nat_le d 61 then 48 + (d - 52) else (
    if d == 62 then 43 else 47)))
