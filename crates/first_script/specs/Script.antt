-- When bytes are the script of a module.
use Rattle.std.specs.Prelude.{ℕ, List}
use Rattle.first_trees.specs.declared.Module.{Module}
use Rattle.es5_ast.specs.declared.tree.Script.{Script}
use Rattle.es5_ast.specs.Script.{Spells5}
use Rattle.first_target.specs.declared.Script.{Script as Part}
use Rattle.first_target.specs.Parts.{IsPart}
use Rattle.first_target.specs.Step.{run5}
use Rattle.meaning6.specs.Step.{run6}
use Rattle.shared_meaning.specs.Ending.{DoesTheSame}

-- The bytes spell a script of strict ES5, by the whole grammar. It is of the forms that have a meaning here, and does what
-- the module means, where the program has these hosts.
pub record IsScriptOf (hosts : List (List ℕ)) (m : Module) (bytes : List ℕ) : Type 0 where
  pub script : Script
  pub spelled : Spells5 bytes script
  pub part : Part
  pub is_part : IsPart part script
  pub same : DoesTheSame (run6 hosts m) (run5 hosts part)
