-- What bindings stand for, by what is known of them once for all modules.
use Rattle.std.specs.Prelude.{ℕ, ◌+◌, get_or, List, [], ◌∷◌, ◌++◌, Option, Some, None, slice_get}
use Rattle.binding_tables.specs.declared.ids.BindingId.{BindingId}
use Rattle.binding_tables.specs.declared.ids.BindingId.TheVariants.{Global, Host, Own}
use Rattle.core_ast.specs.declared.parts.Var.{Var}
use Rattle.scope_analysis.specs.declared.tables.ModuleScopes.{ModuleScopes}
use Rattle.scope_analysis.specs.Answers.{end_ids, own_binding}
use Rattle.scope_rules.specs.declared.scope_tables.binding.Binding.{Binding}
use Rattle.module_lowering.specs.declared.meaning.Meaning.{Meaning}
use Rattle.module_lowering.specs.declared.meaning.Meaning.TheVariants.{Itself, NamespaceOf, OfHost}
use Rattle.module_lowering.specs.Bindings.{first_id}
use Rattle.module_lowering.specs.Modules.{if_import, is_import, unless_itself}
use Rattle.graph_bindings.specs.declared.numbering.Numbering.{Numbering}
use Rattle.graph_bindings.specs.Spaces.{space_among}

abbrev pub var_by : Numbering → ℕ → ℕ → Var
var_by x home number = record { 0 = get_or x.offsets.now home 0 + number }

abbrev pub namespace_by : Numbering → ℕ → Var
namespace_by x home = record { 0 = x.count + home }

abbrev pub space_by : Numbering → ℕ → ℕ → Option ℕ
space_by x home at = space_among at (slice_get x.spaces.now home)

abbrev pub namespace_meaning : Numbering → Option ℕ → Meaning
namespace_meaning x None = Itself
namespace_meaning x (Some n) = NamespaceOf (namespace_by x n)

abbrev pub own_meaning_by : Numbering → ℕ → Option Binding → Meaning
own_meaning_by x home None = Itself
own_meaning_by x home (Some b) = namespace_meaning x (space_by x home b.at)

abbrev pub name_meaning_by : Numbering → ℕ → ℕ → Meaning
name_meaning_by x home number =
    if_import (is_import (own_binding x.scopes.now (Own home number))) (own_meaning_by x home (own_binding x.scopes.now (Own home number)))

abbrev pub ended_by : Numbering → ℕ → ℕ → Option BindingId → Meaning
ended_by x home number None = name_meaning_by x home number
ended_by x home number (Some (Own h n)) = unless_itself (var_by x h n) (name_meaning_by x h n)
ended_by x home number (Some (Global n)) = Itself
ended_by x home number (Some (Host host)) = OfHost host

abbrev pub meaning_by : Numbering → ℕ → ℕ → Meaning
meaning_by x home number = ended_by x home number (first_id (end_ids x.scopes.now (Own home number)))

abbrev pub meanings_by : Numbering → ℕ → ℕ → List Binding → List Meaning
meanings_by x home number [] = []
meanings_by x home number (b ∷ bs) = meaning_by x home number ∷ meanings_by x home (number + 1) bs

abbrev pub all_meanings_by : Numbering → ℕ → List ModuleScopes → List Meaning
all_meanings_by x home [] = []
all_meanings_by x home (m ∷ ms) = meanings_by x home 0 m.names ++ all_meanings_by x (home + 1) ms
