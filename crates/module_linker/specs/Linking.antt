-- A graph before and after it is linked.
use Rattle.std.specs.Prelude.{◌≡◌, ℕ, List, length}
use Rattle.es6_ast.specs.declared.graph.EndOf.{EndOf}
use Rattle.es6_ast.specs.declared.graph.Graph.{Graph}
use Rattle.module_links.specs.Links.{AreLinked, linked_with}
use Rattle.module_links.specs.Zips.{zipped}

-- the same modules, each with its own endings, of which the rule gives each name that the module wants exactly one
pub record IsRelinked (loaded : Graph) (hosts : List (List ℕ)) (linked : Graph) : Type 0 where
  pub endings : List (List EndOf)
  pub ends : AreLinked loaded hosts (length loaded.modules) endings
  pub put : linked.modules ≡ zipped linked_with loaded.modules endings
