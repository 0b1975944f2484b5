-- Where names last stand in a list, and what that says of the rest of the list from any place on.
use Rattle.std.specs.Prelude.{◌≡◌, ℕ, Bool, false, List, Option, Some, None, drop, nat_lt, not}
use Rattle.std.specs.Borrow.{Bor}
use Rattle.std.specs.Str.{bytes_eq}
use Rattle.std.specs.HashMap.{HashMap, get_by}
use Rattle.std.specs.declared.hash.FoldHasher.{FoldHasher}
use Rattle.std.specs.declared.hash.BuildHasherDefault.{BuildHasherDefault}
use Rattle.es6_ast.specs.declared.tree.Identifier.{Identifier}
use Rattle.es6_static_semantics.specs.Findings.{is_name_of}

abbrev pub Table : Type 0
Table = HashMap (Bor (List ℕ)) ℕ (BuildHasherDefault FoldHasher)

abbrev pub is_key : List ℕ → Bor (List ℕ) → Bool
is_key name key = bytes_eq name key.now

-- the index at which a name last stands
abbrev pub last_of : Table → List ℕ → Option ℕ
last_of table name = get_by (is_key name) table

-- whether a name stands at an index or after it
abbrev pub is_since : ℕ → Option ℕ → Bool
is_since mark None = false
is_since mark (Some at) = not (nat_lt at mark)

abbrev pub AgreeWith : (List ℕ → Option ℕ) → List Identifier → Type 0
AgreeWith last names = (name : List ℕ) (mark : ℕ) → is_since mark (last name) ≡ is_name_of name (drop mark names)
