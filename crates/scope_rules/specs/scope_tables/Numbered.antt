-- Numbers of bindings that are looked up by hash.
use denote.Ref.{Bor}
use Rattle.std.specs.Prelude.{◌≡◌, ℕ, ◌&&◌, nat_eq, Bool, List, Option}
use Rattle.std.specs.Str.{bytes_eq}
use Rattle.std.specs.HashMap.{HashMap, get_by}
use Rattle.std.specs.declared.hash.FoldHasher.{FoldHasher}
use Rattle.std.specs.declared.hash.BuildHasherDefault.{BuildHasherDefault}
use Rattle.scope_rules.specs.declared.scope_tables.binding.Binding.{Binding}
use Rattle.scope_rules.specs.scope_tables.Scoping.{number_of}

abbrev pub Key : Type 0
Key = ℕ × Bor (List ℕ)

abbrev pub Table : Type 0
Table = HashMap Key ℕ (BuildHasherDefault FoldHasher)

abbrev pub is_key : ℕ → List ℕ → Key → Bool
is_key scope name key = nat_eq scope key.0 && bytes_eq name key.1.now

abbrev pub number_in : Table → ℕ → List ℕ → Option ℕ
number_in numbers scope name = get_by (is_key scope name) numbers

abbrev pub Numbered : (ℕ → List ℕ → Option ℕ) → List Binding → Type 0
Numbered number bindings = (scope : ℕ) (name : List ℕ) → number scope name ≡ number_of scope name bindings
