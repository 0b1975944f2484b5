-- The parts of a list of elements or arguments (ECMA-262, 6th edition, 12.2.5, 12.3.6), and of the values of a template (12.2.9); None is
-- a hole.
use Rattle.std.specs.Prelude.{List, None, Option, Some, map}
use Rattle.es6_ast.specs.Spans.{Open}
use Rattle.es6_ast.specs.declared.tree.Argument.{Argument, roll-Argument}
use Rattle.es6_ast.specs.declared.tree.Argument.TheOpen as layer
use Rattle.es6_ast.specs.declared.tree.Argument.TheOpen.{Element-F}
use Rattle.es6_ast.specs.declared.tree.Element.{Element, out-Element}
use Rattle.es6_ast.specs.declared.tree.TemplatePart.{TemplatePart, out-TemplatePart}

abbrev pub element_argument : Open Element-F → Option Argument
element_argument layer.Hole = None
element_argument (layer.Present a) = Some a

abbrev pub elements_parts : List Element → List (Option Argument)
elements_parts es = map (λ e. element_argument (out-Element e)) es

abbrev pub arguments_parts : List Argument → List (Option Argument)
arguments_parts xs = map (λ a. Some a) xs

abbrev pub values_parts : List TemplatePart → List (Option Argument)
values_parts ps = map (λ p. Some (roll-Argument (layer.Single (out-TemplatePart p).value))) ps
