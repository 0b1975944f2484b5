-- Expressions as patterns and as an arrow's parameters, after the fact: which pattern the same tokens spell, or the first part
-- that no pattern spells (ECMA-262, 6th edition, 12.14.5, 13.3.3, 14.2).
use Rattle.std.specs.Prelude.{ℕ, zero, suc, Bool, true, false, List, [], ◌∷◌, ◌++◌, cond, map, Option, Some, None}
use Rattle.es_text.specs.declared.Span.{Span}
use Rattle.es6_ast.specs.declared.operators.AssignOperator.{AssignOperator}
use Rattle.es6_ast.specs.declared.operators.AssignOperator.TheVariants as assign
use Rattle.es6_ast.specs.declared.tree.Expression.{Expression, out-Expression}
use Rattle.es6_ast.specs.declared.tree.Pattern.{Pattern, out-Pattern}
use Rattle.es6_ast.specs.declared.tree.Pattern.TheVariants as pattern
use Rattle.es6_ast.specs.declared.tree.ArrayPart.{ArrayPart, out-ArrayPart}
use Rattle.es6_ast.specs.declared.tree.ArrayPart.TheVariants.{SkippedPart, SinglePart, RestPart}
use Rattle.es6_ast.specs.declared.tree.ObjectPart.{ObjectPart, out-ObjectPart}
use Rattle.es6_ast.specs.declared.tree.ObjectPart.TheVariants.{NamedPart, KeyedPart}
use Rattle.es6_ast.specs.declared.tree.Parameter.{Parameter}
use Rattle.es6_ast.specs.declared.tree.Parameter.TheVariants.{SingleParameter, RestParameter}
use Rattle.es6_ast.specs.declared.tree.Element.{Element, out-Element}
use Rattle.es6_ast.specs.declared.tree.Argument.{out-Argument}
use Rattle.es6_ast.specs.declared.tree.Property.{Property, out-Property}
use Rattle.es6_ast.specs.declared.tree.Link.{Link, out-Link}
use Rattle.es6_ast.specs.declared.tree.Method.{out-Method}
use Rattle.es6_ast.specs.declared.tree.Rest.{Rest}
use Rattle.es6_ast.specs.declared.tree.Part.{Part, roll-Part}
use Rattle.es6_ast.specs.declared.tree.Argument.TheOpen as layer
use Rattle.es6_ast.specs.declared.tree.Argument.TheOpen.{Argument-F, ArrayPart-F, Element-F, Expression-F, Link-F, ObjectPart-F, Pattern-F, Property-F}
use Rattle.es6_ast.specs.Grammar.{name_target, name_alone}
use Rattle.es6_ast.specs.Spans.{Open, span_in, span_of}
use Rattle.es6_ast.specs.Targets.{ends_in_access}

-- what an expression is spelled as, or where its first part stands that isn't so, or that it is nested more than looked at
pub data Refined (A : Type 0) : Type 0 where
  Fits : A → Refined A
  Misfit : ℕ → Refined A
  TooNested : Refined A

abbrev pub refined_map : {A B : Type 0} → (A → B) → Refined A → Refined B
refined_map f (Fits x) = Fits (f x)
refined_map f (Misfit at) = Misfit at
refined_map f TooNested = TooNested

-- a part before others
abbrev pub refined_cons : {A : Type 0} → Refined A → Refined (List A) → Refined (List A)
refined_cons (Fits x) xs = refined_map (λ ys. x ∷ ys) xs
refined_cons (Misfit at) xs = Misfit at
refined_cons TooNested xs = TooNested

-- the second where the first fits
abbrev pub refined_then : {A B : Type 0} → Refined A → Refined B → Refined B
refined_then (Fits x) y = y
refined_then (Misfit at) y = Misfit at
refined_then TooNested y = TooNested

abbrev pub fits_if : Bool → ℕ → Refined (Unit {0})
fits_if true at = Fits tt
fits_if false at = Misfit at

-- ## Spans

abbrev pub begin_of_expression : Expression → ℕ
begin_of_expression x = (span_of x).begin

-- ## Targets by themselves

abbrev pub is_name_in : Open Expression-F → Bool
is_name_in (layer.Name span name) = true
is_name_in _ = false

abbrev pub is_name : Expression → Bool
is_name x = is_name_in (out-Expression x)

-- where names are bound, a name (13.3.3)
abbrev pub bound : Expression → Refined (Unit {0})
bound x = fits_if (is_name x) (begin_of_expression x)

abbrev pub is_access_in : Open Link-F → Bool
is_access_in (layer.Member span name) = true
is_access_in (layer.Index span index) = true
is_access_in (layer.Call span arguments) = false
is_access_in (layer.Tagged m) = false

abbrev pub is_access : Link → Bool
is_access l = is_access_in (out-Link l)

-- what holds an expression that is one, or none, is one at its own place
abbrev pub held_at : ℕ → Refined (Unit {0}) → Refined (Unit {0})
held_at at (Fits x) = Fits x
held_at at (Misfit place) = Misfit at
held_at at TooNested = TooNested

abbrev pub simple_in : (Expression → Refined (Unit {0})) → Open Expression-F → Refined (Unit {0})
simple_in simple (layer.Name span name) = Fits tt
simple_in simple (layer.SuperMember span name) = Fits tt
simple_in simple (layer.SuperIndex span index) = Fits tt
simple_in simple (layer.Chain span head links) = fits_if (ends_in_access (map is_access links)) span.begin
simple_in simple (layer.Group span held) = held_at span.begin (simple held)
simple_in simple x = Misfit (span_in x).begin

-- where something is assigned, a simple target (12.14.1), with groups in one another down to a depth
abbrev pub simple : ℕ → Expression → Refined (Unit {0})
simple zero x = TooNested
simple (suc n) x = simple_in (simple n) (out-Expression x)

-- the expression by itself
abbrev pub alone : Bool → ℕ → Expression → Refined Pattern
alone true n x = refined_map (λ u. pattern.Target x) (bound x)
alone false n x = refined_map (λ u. pattern.Target x) (simple n x)

-- ## Patterns that were assigned, where they bind (13.3.3)

abbrev pub all_bind : {A : Type 0} → (A → Refined (Unit {0})) → List A → Refined (Unit {0})
all_bind f [] = Fits tt
all_bind f (x ∷ xs) = refined_then (f x) (all_bind f xs)

-- a rest is a name
abbrev pub rest_binds : Open Pattern-F → Refined (Unit {0})
rest_binds (layer.Target x) = bound x
rest_binds (layer.ArrayPattern span parts) = Misfit span.begin
rest_binds (layer.ObjectPattern span parts) = Misfit span.begin

abbrev pub array_part_binds : (Pattern → Refined (Unit {0})) → Open ArrayPart-F → Refined (Unit {0})
array_part_binds f layer.SkippedPart = Fits tt
array_part_binds f (layer.SinglePart q) = f q.pattern
array_part_binds f (layer.RestPart span p) = rest_binds (out-Pattern p)

abbrev pub object_part_binds : (Pattern → Refined (Unit {0})) → Open ObjectPart-F → Refined (Unit {0})
object_part_binds f (layer.NamedPart q) = Fits tt
object_part_binds f (layer.KeyedPart span key q) = f q.pattern

abbrev pub binds_in : (Pattern → Refined (Unit {0})) → Open Pattern-F → Refined (Unit {0})
binds_in f (layer.Target x) = bound x
binds_in f (layer.ArrayPattern span parts) = all_bind (λ e. array_part_binds f (out-ArrayPart e)) parts
binds_in f (layer.ObjectPattern span parts) = all_bind (λ e. object_part_binds f (out-ObjectPart e)) parts

-- whether all targets of a pattern are names
abbrev pub binds_names : ℕ → Pattern → Refined (Unit {0})
binds_names zero p = TooNested
binds_names (suc n) p = binds_in (binds_names n) (out-Pattern p)

-- ## Expressions as patterns

abbrev pub made_part : Span → Option Expression → Pattern → Part
made_part span default_ p = roll-Part (record { span = span; pattern = p; default = default_ })

-- what a pattern in an assignment is where it stands before a default, by what reads an expression as a target
abbrev pub target_of_default : Bool → ℕ → (Expression → Refined Pattern) → Pattern → Open Pattern-F → Refined Pattern
target_of_default true n target p q = refined_map (λ u. p) (binds_names n p)
target_of_default false n target p (layer.Target x) = target x
target_of_default false n target p _ = Fits p

-- a part, with its default or without one, by what reads the target
abbrev pub part_in : Bool → ℕ → (Expression → Refined Pattern) → Expression → Open Expression-F → Refined Part
part_in binds n target x (layer.Assign span assign.Assign p value) = refined_map (made_part span (Some value)) (target_of_default binds n target p (out-Pattern p))
part_in binds n target x _ = refined_map (made_part (span_of x) None) (target x)

abbrev pub rest_of : Bool → (Expression → Refined Pattern) → Expression → Refined Pattern
rest_of true target x = alone true 0 x
rest_of false target x = target x

-- an element of an array literal; a rest is the last one and no comma follows it
abbrev pub argument_part : Bool → Bool → (Expression → Refined Pattern) → (Expression → Refined Part) → Open Argument-F → Refined ArrayPart
argument_part binds may_rest target part (layer.Single x) = refined_map SinglePart (part x)
argument_part binds true target part (layer.Spread span x) = refined_map (RestPart span) (rest_of binds target x)
argument_part binds false target part (layer.Spread span x) = Misfit span.begin

abbrev pub element_part : Bool → Bool → (Expression → Refined Pattern) → (Expression → Refined Part) → Open Element-F → Refined ArrayPart
element_part binds may_rest target part layer.Hole = Fits SkippedPart
element_part binds may_rest target part (layer.Present a) = argument_part binds may_rest target part (out-Argument a)

abbrev pub is_last : {A : Type 0} → List A → Bool → Bool
is_last [] comma = cond comma false true
is_last (x ∷ xs) comma = false

abbrev pub array_parts_of : Bool → Bool → (Expression → Refined Pattern) → (Expression → Refined Part) → List Element → Refined (List ArrayPart)
array_parts_of binds comma target part [] = Fits []
array_parts_of binds comma target part (e ∷ es) = refined_cons (element_part binds (is_last es comma) target part (out-Element e)) (array_parts_of binds comma target part es)

abbrev pub property_part : (Expression → Refined Part) → Open Property-F → Refined ObjectPart
property_part part (layer.Plain span key value) = refined_map (KeyedPart span key) (part value)
property_part part (layer.Shorthand span name) = Fits (NamedPart (name_alone (record { span = span; name = name })))
property_part part (layer.Initialized span name equals value) = Fits (NamedPart (made_part span (Some value) (name_target name)))
property_part part (layer.Defined m) = Misfit (out-Method m).span.begin

abbrev pub object_parts_of : (Expression → Refined Part) → List Property → Refined (List ObjectPart)
object_parts_of part [] = Fits []
object_parts_of part (p ∷ ps) = refined_cons (property_part part (out-Property p)) (object_parts_of part ps)

-- an array or object literal as a pattern, and any other expression by itself, by what reads its parts
abbrev pub target_in : Bool → ℕ → (Expression → Refined Pattern) → (Expression → Refined Part) → Expression → Open Expression-F → Refined Pattern
target_in binds n target part x (layer.ArrayList span elements comma) = refined_map (pattern.ArrayPattern span) (array_parts_of binds comma target part elements)
target_in binds n target part x (layer.ObjectList span properties) = refined_map (pattern.ObjectPattern span) (object_parts_of part properties)
target_in binds n target part x _ = alone binds n x

-- The pattern that an expression is, where it binds or is assigned, with literals and groups in one another down to a depth.
abbrev pub refine : Bool → ℕ → Expression → Refined Pattern
refine binds zero x = TooNested
refine binds (suc n) x = target_in binds n (refine binds n) (λ y. part_in binds n (refine binds n) y (out-Expression y)) x (out-Expression x)

-- AssignmentPattern, or a simple target
unfoldable pub refine_pattern : ℕ → Expression → Refined Pattern
refine_pattern n x = refine false n x

-- BindingElement
unfoldable pub refine_part : ℕ → Expression → Refined Part
refine_part n x = part_in true n (refine true n) x (out-Expression x)

-- What is assigned before `=`: the pattern that the expression is, or the expression itself. Where it is neither a simple
-- target nor a pattern, that is an early error.
abbrev pub else_itself : Expression → Refined Pattern → Refined Pattern
else_itself x (Fits p) = Fits p
else_itself x (Misfit at) = Fits (pattern.Target x)
else_itself x TooNested = TooNested

unfoldable pub target_before : ℕ → AssignOperator → Expression → Refined Pattern
target_before n assign.Assign x = else_itself x (refine_pattern n x)
target_before n _ x = Fits (pattern.Target x)

-- ## Parameters (14.2)

abbrev pub parameters_of : ℕ → List Expression → Refined (List Parameter)
parameters_of n [] = Fits []
parameters_of n (x ∷ xs) = refined_cons (refined_map SingleParameter (refine_part n x)) (parameters_of n xs)

abbrev pub parts_in : Expression → Open Expression-F → List Expression
parts_in x (layer.Sequence span first rest) = first ∷ rest
parts_in x _ = x ∷ []

-- the parts that commas separate
abbrev pub parts_of : Expression → List Expression
parts_of x = parts_in x (out-Expression x)

abbrev pub rest_parameter : Rest → Parameter
rest_parameter rest = RestParameter rest.span (name_target rest.name)

abbrev pub parameters_in : ℕ → Open Expression-F → Refined (List Parameter)
parameters_in n (layer.Name span name) = Fits (SingleParameter (name_alone (record { span = span; name = name })) ∷ [])
parameters_in n (layer.Group span held) = parameters_of n (parts_of held)
parameters_in n (layer.Cover span None None) = Fits []
parameters_in n (layer.Cover span None (Some rest)) = Fits (rest_parameter rest ∷ [])
parameters_in n (layer.Cover span (Some held) (Some rest)) = refined_map (λ es. es ++ rest_parameter rest ∷ []) (parameters_of n (parts_of held))
parameters_in n x = Misfit (span_in x).begin

-- the parameters that a name or parentheses before `=>` are
unfoldable pub refine_parameters : ℕ → Expression → Refined (List Parameter)
refine_parameters n x = parameters_in n (out-Expression x)
