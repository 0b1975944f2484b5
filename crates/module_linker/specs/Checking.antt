-- What all checks of an entry's graph answer, and what is made of a graph that passes.
use Rattle.std.specs.Prelude.{◌≡◌, ℕ, List, Result, Ok, Err}
use Rattle.es6_ast.specs.declared.graph.Graph.{Graph}
use Rattle.module_links.specs.declared.fault.LinkFault.{LinkFault}
use Rattle.module_links.specs.Links.{IsRefusal}
use Rattle.module_loading.specs.declared.fault.LoadFault.TheVariants.{ReadFault}
use Rattle.module_loading.specs.Files.{Told}
use Rattle.module_linker.specs.declared.checking.CheckFault.{CheckFault}
use Rattle.module_linker.specs.declared.checking.CheckFault.TheVariants.{Load, Link}
use Rattle.module_linker.specs.Linking.{IsRelinked}
use Rattle.module_linker.specs.Loading.{IsFaultOf, IsGraphOf}

-- it is made of the graph that the loaded graph is linked to
pub record IsMadeLinked {A : Type 0} (makes : Graph → List (List ℕ) → A → Type 0) (loaded : Graph) (hosts : List (List ℕ)) (made : A) : Type 0 where
  pub linked : Graph
  pub relinked : IsRelinked loaded hosts linked
  pub is_made : makes linked hosts made

-- the graph of the entry passes every check, and it is made of that graph
pub record IsMadeOf {A : Type 0} (makes : Graph → List (List ℕ) → A → Type 0) (told : Told) (entry : List ℕ) (hosts : List (List ℕ)) (made : A) : Type 0 where
  pub graph : Graph
  pub loads : IsGraphOf told entry graph
  pub is_made : IsMadeLinked makes graph hosts made

-- the graph of the entry is loaded, and then refused for this
pub record IsUnlinked (told : Told) (entry : List ℕ) (hosts : List (List ℕ)) (fault : LinkFault) : Type 0 where
  pub graph : Graph
  pub loads : IsGraphOf told entry graph
  pub refused : IsRefusal graph hosts fault

abbrev pub HasCheckFault : Told → List ℕ → List (List ℕ) → CheckFault → Type 0
HasCheckFault told entry hosts (Load fault) = IsFaultOf told entry fault
HasCheckFault told entry hosts (Link fault) = IsUnlinked told entry hosts fault

-- a read that failed
abbrev pub HasFailedRead : {A : Type 0} → Result A CheckFault → Type 0
HasFailedRead result = (path : List ℕ) × (result ≡ Err (Load (ReadFault path)))
