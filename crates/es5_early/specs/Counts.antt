-- How often a name is in a map of counts.
use Rattle.std.specs.Prelude.{ℕ, Bool, List, unwrap_or}
use Rattle.std.specs.Str.{bytes_eq}
use Rattle.std.specs.HashMap.{HashMap, get_by}
use Rattle.std.specs.declared.vec.Vec.{Vec}
use Rattle.std.specs.declared.alloc.Global.{Global}
use Rattle.std.specs.declared.hash.FoldHasher.{FoldHasher}
use Rattle.std.specs.declared.hash.BuildHasherDefault.{BuildHasherDefault}

abbrev pub Key : Type 0
Key = Vec ℕ Global

abbrev pub Counts : Type 0
Counts = HashMap Key ℕ (BuildHasherDefault FoldHasher)

abbrev pub is_name : List ℕ → Key → Bool
is_name name v = bytes_eq name v.items

abbrev pub count_of : Counts → List ℕ → ℕ
count_of counts name = unwrap_or (get_by (is_name name) counts) 0
