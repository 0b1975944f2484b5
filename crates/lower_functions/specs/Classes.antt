-- Classes, step by step.
use Rattle.std.specs.Prelude.{List, Option, is_some}
use Rattle.lower_functions.specs.declared.classes.ClassParts.{ClassParts}
use Rattle.lower_functions.specs.Pieces.{PiecesMade}
use Rattle.lowering_rules.specs.declared.classes.ClassNames.{ClassNames}
use Rattle.module_lowering.specs.Classes.{constructor_of, further_member}
use Rattle.module_lowering.specs.Expressions.{optional}
use Rattle.module_lowering.specs.Lowering.{all_by, option, pure, temporary, Lowering, ◌>>=◌}
use Rattle.module_lowering.specs.Nodes.{ClassMade, Expressed, Membered}

-- what code gives for a class
abbrev pub class_parts_made : ClassParts → ClassMade
class_parts_made c = record { class = c.class; statements = c.statements }

-- the variables that keep a class and its prototype
abbrev pub class_names : Lowering ClassNames
class_names = do
  class ← temporary
  prototype ← temporary
  pure (record { class = class; prototype = prototype })

-- its heritage, its constructor, and its other members
abbrev pub class_pieces : Option Expressed → List Membered → Lowering PiecesMade
class_pieces x members = do
  heritage ← option (optional x)
  f ← constructor_of (is_some x) members
  ms ← all_by further_member members
  pure (record { heritage = heritage; constructor = f; members = ms })
