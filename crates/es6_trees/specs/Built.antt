-- What is built of expressions, in the terms of the model: where something is refined, it is refined to that.
use Rattle.std.specs.Prelude.{◌≡◌, ℕ, Bool, true, List, [], ◌∷◌, ◌++◌, Option, Some, None}
use Rattle.es6_ast.specs.declared.operators.AssignOperator.TheVariants as assign
use Rattle.es6_ast.specs.declared.tree.Argument.TheOpen as layer
use Rattle.es6_ast.specs.declared.tree.Argument.TheOpen.{Expression-F}
use Rattle.es6_ast.specs.declared.tree.Expression.{Expression}
use Rattle.es6_ast.specs.declared.tree.Pattern.{Pattern, out-Pattern}
use Rattle.es6_ast.specs.declared.tree.Pattern.TheVariants as pattern
use Rattle.es6_ast.specs.declared.tree.Part.{Part}
use Rattle.es6_ast.specs.declared.tree.ArrayPart.{ArrayPart}
use Rattle.es6_ast.specs.declared.tree.ObjectPart.{ObjectPart}
use Rattle.es6_ast.specs.declared.tree.Element.{Element, out-Element}
use Rattle.es6_ast.specs.declared.tree.Parameter.{Parameter}
use Rattle.es6_ast.specs.declared.tree.Parameter.TheVariants.{SingleParameter}
use Rattle.es6_ast.specs.declared.tree.Rest.{Rest}
use Rattle.es6_ast.specs.declared.tree.Property.{Property, out-Property}
use Rattle.es6_ast.specs.Spans.{Open}
use Rattle.es6_reading.specs.Refine.{Refined, Fits, Misfit, TooNested, refined_map, is_name, target_of_default, element_part, array_parts_of, property_part, object_parts_of, refine, parameters_of, parts_of, rest_parameter}
use Rattle.es6_refine.specs.Fitting.{part_of}

-- where something is refined, it is refined to this
pub data Becomes {A : Type 0} : Refined A → A → Type 0 where
  fits_so : {x : A} → Becomes (Fits x) x
  misfits : {at : ℕ} {x : A} → Becomes (Misfit at) x
  too_nested : {x : A} → Becomes TooNested x

-- an expression, down to the depth; a name is a target by itself
pub record IsPatternOf (n : ℕ) (x : Expression) (p : Pattern) : Type 0 where
  pub becomes : (binds : Bool) → Becomes (refine binds n x) p
  pub named : is_name x ≡ true → p ≡ pattern.Target x

pub record IsPartOf (n : ℕ) (x : Expression) (q : Part) : Type 0 where
  pub becomes : (binds : Bool) → Becomes (part_of binds n x) q

-- what stands before a default
pub record IsTargetOf (n : ℕ) (p q : Pattern) : Type 0 where
  pub becomes : (binds : Bool) → Becomes (target_of_default binds n (refine binds n) p (out-Pattern p)) q

-- elements, and one that may be a rest or not
pub record IsArrayPartOf (n : ℕ) (e : Element) (a : ArrayPart) : Type 0 where
  pub becomes : (binds may_rest : Bool) → Becomes (element_part binds may_rest (refine binds n) (part_of binds n) (out-Element e)) a

pub record AreArrayPartsOf (n : ℕ) (es : List Element) (parts : List ArrayPart) : Type 0 where
  pub becomes : (binds comma : Bool) → Becomes (array_parts_of binds comma (refine binds n) (part_of binds n) es) parts

pub record IsObjectPartOf (n : ℕ) (p : Property) (o : ObjectPart) : Type 0 where
  pub becomes : (binds : Bool) → Becomes (property_part (part_of binds n) (out-Property p)) o

pub record AreObjectPartsOf (n : ℕ) (ps : List Property) (parts : List ObjectPart) : Type 0 where
  pub becomes : (binds : Bool) → Becomes (object_parts_of (part_of binds n) ps) parts

-- no `=` after a target
abbrev pub HasNoDefault : Open Expression-F → Type 0
HasNoDefault (layer.Assign span assign.Assign target value) = ⊥
HasNoDefault _ = Unit {0}

pub record IsParameterOf (n : ℕ) (x : Expression) (parameter : Parameter) : Type 0 where
  pub becomes : Becomes (refined_map SingleParameter (part_of true n x)) parameter

-- the parameters between commas
pub record AreParametersOf (n : ℕ) (xs : List Expression) (parameters : List Parameter) : Type 0 where
  pub becomes : Becomes (parameters_of n xs) parameters

-- the parameters before a rest, and the rest
pub data IsRestedOf (n : ℕ) (held : Option Expression) (rest : Rest) (parameters : List Parameter) : Type 0 where
  rest_alone : held ≡ None → parameters ≡ rest_parameter rest ∷ [] → IsRestedOf n held rest parameters
  rest_after : (x : Expression) (es : List Parameter) → held ≡ Some x → AreParametersOf n (parts_of x) es → parameters ≡ es ++ rest_parameter rest ∷ [] → IsRestedOf n held rest parameters
