-- Which items import the namespace of a module.
use Rattle.std.specs.Prelude.{Bool, List, false, ℕ}
use Rattle.es6_ast.specs.declared.graph.Request.{Request}
use Rattle.es6_ast.specs.declared.module.ImportedNames.TheVariants.{Namespace}
use Rattle.es6_ast.specs.declared.module.Item.{Item}
use Rattle.es6_ast.specs.declared.module.Item.TheVariants as item
use Rattle.es6_static_semantics.specs.Endings.{requested}
use Rattle.source_meaning.specs.Modules.{home_in, is_number}

abbrev pub namespace_imported : ℕ → List Request → Item → Bool
namespace_imported n rs (item.Import span default_ (Namespace x) from) = is_number n (home_in (requested rs from.text))
namespace_imported n rs i = false
