-- The first part of an element that no pattern spells, by whether the element may be a rest (ECMA-262, 6th edition, 12.14.5).
use Rattle.std.specs.Prelude.{ℕ, Bool, Option, Some, None, cond}
use Rattle.es6_ast.specs.Targets.{AsElement, NoElement, OneElement, LastElement}

abbrev pub element_misfit : Bool → AsElement → Option ℕ
element_misfit is_rest NoElement = None
element_misfit is_rest (OneElement m) = m
element_misfit is_rest (LastElement at m) = cond is_rest m (Some at)
