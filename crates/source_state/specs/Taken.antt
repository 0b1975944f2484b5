-- What code takes from a list of parts.
use Rattle.std.specs.Prelude.{None, Option, Some}
use Rattle.es6_ast.specs.declared.tree.Argument.{Argument, roll-Argument}
use Rattle.es6_ast.specs.declared.tree.Argument.TheOpen as layer
use Rattle.source_state.specs.declared.lists.ListPart.{ListPart}
use Rattle.source_state.specs.declared.lists.ListPart.TheVariants.{Hole, One, Valued}

abbrev pub part_of : ListPart → Option Argument
part_of Hole = None
part_of (One a) = Some a
part_of (Valued x) = Some (roll-Argument (layer.Single x))
