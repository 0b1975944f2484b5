-- What a look-up by hash says of specifiers.
use denote.Ref.{Bor}
use Rattle.std.specs.Prelude.{ℕ, Bool, List, Option}
use Rattle.std.specs.Str.{bytes_eq}
use Rattle.std.specs.HashMap.{HashMap, get_by}
use Rattle.std.specs.declared.hash.FoldHasher.{FoldHasher}
use Rattle.std.specs.declared.hash.BuildHasherDefault.{BuildHasherDefault}

abbrev pub Table : Type 0 → Type 0
Table V = HashMap (Bor (List ℕ)) V (BuildHasherDefault FoldHasher)

abbrev pub is_key : List ℕ → Bor (List ℕ) → Bool
is_key text key = bytes_eq text key.now

abbrev pub asked : Table (Option ℕ) → List ℕ → Option (Option ℕ)
asked index from = get_by (is_key from) index
