-- Which names the namespace objects of a linked graph have (ECMA-262, 6th edition, 9.4.6 and 15.2.1.18).
use Rattle.std.specs.Prelude.{◌≡◌, ℕ, ◌+◌, IsTrue, List, [], ◌∷◌, map, All, AllPairs, Contains}
use Rattle.std.specs.Cmp.Lexicographic.{slice_cmp}
use Rattle.std.specs.Ordering.{is_lt, nat_cmp}
use Rattle.es6_ast.specs.declared.graph.EndOf.{EndOf}
use Rattle.es6_ast.specs.declared.graph.EndOf.TheVariants.{Local}
use Rattle.es6_ast.specs.declared.graph.Graph.{Graph}
use Rattle.es6_ast.specs.declared.graph.LoadedModule.{LoadedModule}
use Rattle.es6_static_semantics.specs.Endings.{Ends}
use Rattle.module_lowering.specs.declared.meaning.Entry.{Entry}
use Rattle.module_lowering.specs.declared.meaning.NamespaceEntries.{NamespaceEntries}
use Rattle.module_lowering.specs.Names.{units_of}

-- where a name that the module of this number exports ends, if it isn't ambiguous
pub record EndsAlone (g : Graph) (hosts : List (List ℕ)) (n : ℕ) (name : List ℕ) (end : EndOf) : Type 0 where
  pub ends : Ends g hosts n name end
  pub alone : (other : EndOf) → Ends g hosts n name other → other ≡ end

-- in the order of code units (9.4.6.12, 22.1.3.24.1)
abbrev pub IsBefore : Entry → Entry → Type 0
IsBefore a b = IsTrue (is_lt (slice_cmp nat_cmp (units_of a.name) (units_of b.name)))

pub record AreEntries (g : Graph) (hosts : List (List ℕ)) (n : ℕ) (es : List Entry) : Type 0 where
  pub ordered : AllPairs IsBefore es
  pub ends : All (λ e. EndsAlone g hosts n e.name (Local e.home e.local)) es
  pub all : (name : List ℕ) (home : ℕ) (local : List ℕ) → EndsAlone g hosts n name (Local home local) → Contains (map (λ e. e.name) es) name

-- of the modules from this number on
pub data AreNamespaces (g : Graph) (hosts : List (List ℕ)) : ℕ → List LoadedModule → List NamespaceEntries → Type 0 where
  no_module : {n : ℕ} → AreNamespaces g hosts n [] []
  one_module : {n : ℕ} {m : LoadedModule} {ms : List LoadedModule} {e : NamespaceEntries} {es : List NamespaceEntries} → AreEntries g hosts n e.entries → AreNamespaces g hosts (n + 1) ms es → AreNamespaces g hosts n (m ∷ ms) (e ∷ es)
