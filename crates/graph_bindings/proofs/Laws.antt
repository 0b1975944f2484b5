-- What is known once for all modules is what is said of each.
use Rattle.std.proofs.Common.{◌≡◌, ℕ, zero, suc, ◌+◌, ◌++◌, Bool, List, [], ◌∷◌, map, get_or, Option, Some, None, refl, ap, ◌∙◌}
use Rattle.std.specs.Prelude.{slice_get}
use Rattle.std.specs.List.{list_any}
use Rattle.es6_static_semantics.specs.Findings.{joined}
use Rattle.es6_ast.specs.declared.graph.Graph.{Graph}
use Rattle.es6_ast.specs.declared.graph.LoadedModule.{LoadedModule}
use Rattle.binding_tables.specs.declared.ids.BindingId.{BindingId}
use Rattle.binding_tables.specs.declared.ids.BindingId.TheVariants.{Global, Host, Own}
use Rattle.scope_analysis.specs.declared.scopes.Scopes.{Scopes}
use Rattle.scope_analysis.specs.declared.tables.ModuleScopes.{ModuleScopes}
use Rattle.scope_analysis.specs.Answers.{end_ids, own_binding}
use Rattle.scope_rules.specs.declared.scope_tables.binding.Binding.{Binding}
use Rattle.module_lowering.specs.declared.meaning.Meaning.{Meaning}
use Rattle.module_lowering.specs.declared.meaning.Meaning.TheVariants.{NamespaceOf}
use Rattle.module_lowering.specs.Bindings.{Bindings, first_id}
use Rattle.module_lowering.specs.Modules.{ImportedSpace, all_meanings, bindings_count, bindings_of, ended_at, if_import, imported_spaces, is_import, is_module, is_wanted, meaning_of, meanings_from, name_meaning, offsets_from, own_meaning, space_in, space_of, unless_itself}
use Rattle.graph_bindings.specs.declared.numbering.Numbering.{Numbering}
use Rattle.graph_bindings.specs.Meanings.{all_meanings_by, ended_by, meaning_by, meanings_by, name_meaning_by, namespace_meaning, own_meaning_by, space_by, var_by}
use Rattle.graph_bindings.specs.Spaces.{space_among}
use Rattle.graph_bindings.specs.Wanted.{are_wanted}

-- ---- namespaces that are imported

space_map : (at n : ℕ) (ms : List LoadedModule) → space_among at (slice_get (map imported_spaces ms) n) ≡ space_in at (slice_get ms n)
space_map at n [] = refl
space_map at zero (m ∷ ms) = refl
space_map at (suc n) (m ∷ ms) = space_map at n ms

joined_map : (ms : List LoadedModule) → joined (λ (ss : List ImportedSpace). ss) (map imported_spaces ms) ≡ joined imported_spaces ms
joined_map [] = refl
joined_map (m ∷ ms) = ap (λ (ss : List ImportedSpace). imported_spaces m ++ ss) (joined_map ms)

pub wanted_by : (n : ℕ) (ms : List LoadedModule) → are_wanted n (map imported_spaces ms) ≡ is_wanted ms n
wanted_by n ms = ap (λ (ss : List ImportedSpace). list_any (λ s. is_module n s.home) ss) (joined_map ms)

-- ---- what bindings stand for

pub record IsNumbered (g : Graph) (x : Numbering) : Type 0 where
  pub offsets : x.offsets.now ≡ offsets_from 0 x.scopes.now.modules.items
  pub count : x.count ≡ bindings_count x.scopes.now
  pub spaces : x.spaces.now ≡ map imported_spaces g.modules

same_space : (g : Graph) (x : Numbering) → IsNumbered g x → (home at : ℕ) → space_by x home at ≡ space_in at (slice_get g.modules home)
same_space g x is home at = ap (λ (ss : List (List ImportedSpace)). space_among at (slice_get ss home)) is.spaces ∙ space_map at home g.modules

same_namespace : (g : Graph) (x : Numbering) → IsNumbered g x → (o : Option ℕ) → namespace_meaning x o ≡ space_of x.scopes.now o
same_namespace g x is None = refl
same_namespace g x is (Some n) = ap (λ (c : ℕ). NamespaceOf (record { 0 = c + n })) is.count

same_own : (g : Graph) (x : Numbering) → IsNumbered g x → (home : ℕ) (b : Option Binding) → own_meaning_by x home b ≡ own_meaning g x.scopes.now home b
same_own g x is home None = refl
same_own g x is home (Some b) =
    same_namespace g x is (space_by x home b.at) ∙ ap (λ (o : Option ℕ). space_of x.scopes.now o) (same_space g x is home b.at)

same_name : (g : Graph) (x : Numbering) → IsNumbered g x → (home number : ℕ) → name_meaning_by x home number ≡ name_meaning g x.scopes.now home number
same_name g x is home number =
    let b : Option Binding = own_binding x.scopes.now (Own home number) in
    ap (λ (m : Meaning). if_import (is_import b) m) (same_own g x is home b)

same_ended : (g : Graph) (x : Numbering) → IsNumbered g x → (home number : ℕ) (end : Option BindingId) → ended_by x home number end ≡ ended_at g x.scopes.now home number end
same_ended g x is home number None = same_name g x is home number
same_ended g x is home number (Some (Own h n)) =
    ap (λ (m : Meaning). unless_itself (var_by x h n) m) (same_name g x is h n)
    ∙ ap (λ (os : List ℕ). unless_itself (record { 0 = get_or os h 0 + n }) (name_meaning g x.scopes.now h n)) is.offsets
same_ended g x is home number (Some (Global n)) = refl
same_ended g x is home number (Some (Host host)) = refl

same_meaning : (g : Graph) (x : Numbering) → IsNumbered g x → (home number : ℕ) → meaning_by x home number ≡ meaning_of g x.scopes.now home number
same_meaning g x is home number = same_ended g x is home number (first_id (end_ids x.scopes.now (Own home number)))

same_meanings : (g : Graph) (x : Numbering) → IsNumbered g x → (home number : ℕ) (bs : List Binding) → meanings_by x home number bs ≡ meanings_from g x.scopes.now home number bs
same_meanings g x is home number [] = refl
same_meanings g x is home number (b ∷ bs) =
    ap (λ (m : Meaning). m ∷ meanings_by x home (number + 1) bs) (same_meaning g x is home number)
    ∙ ap (λ (ms : List Meaning). meaning_of g x.scopes.now home number ∷ ms) (same_meanings g x is home (number + 1) bs)

pub same_all : (g : Graph) (x : Numbering) → IsNumbered g x → (home : ℕ) (ms : List ModuleScopes) → all_meanings_by x home ms ≡ all_meanings g x.scopes.now home ms
same_all g x is home [] = refl
same_all g x is home (m ∷ ms) =
    ap (λ (made : List Meaning). made ++ all_meanings_by x (home + 1) ms) (same_meanings g x is home 0 m.names)
    ∙ ap (λ (made : List Meaning). meanings_from g x.scopes.now home 0 m.names ++ made) (same_all g x is (home + 1) ms)

-- what names stand for, by the parts that are made
abbrev pub made_of : Scopes → List ℕ → List Meaning → Bindings
made_of s offsets meanings = record { scopes = s; offsets = offsets; meanings = meanings }

pub bound : (g : Graph) (x : Numbering) (offsets : List ℕ) (meanings : List Meaning) → IsNumbered g x → offsets ≡ offsets_from 0 x.scopes.now.modules.items → meanings ≡ all_meanings_by x 0 x.scopes.now.modules.items
    → made_of x.scopes.now offsets meanings ≡ bindings_of g x.scopes.now
bound g x offsets meanings is from made =
    ap (λ (os : List ℕ). made_of x.scopes.now os meanings) from
    ∙ ap (λ (ms : List Meaning). made_of x.scopes.now (offsets_from 0 x.scopes.now.modules.items) ms) (made ∙ same_all g x is 0 x.scopes.now.modules.items)
