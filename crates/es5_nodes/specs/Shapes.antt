-- The shapes of expressions as the model has them.
use Rattle.es5_reading.specs.Parser.{Shape5, Bare, LeftHandSide, Other}
use Rattle.es5_nodes.specs.declared.read.Shape.{Shape}
use Rattle.es5_nodes.specs.declared.read.Shape.TheVariants as shape

abbrev pub shape5 : Shape → Shape5
shape5 shape.Bare = Bare
shape5 shape.LeftHandSide = LeftHandSide
shape5 shape.Other = Other
