-- What an expression is refined to stays so where more of its nesting is looked at.
use Rattle.std.proofs.Common.{ℕ, zero, suc, Bool, true, false, List, [], ◌∷◌, ◌++◌, Some, None}
use Rattle.es6_ast.specs.declared.operators.AssignOperator.{AssignOperator}
use Rattle.es6_ast.specs.declared.operators.AssignOperator.TheVariants as assign
use Rattle.es6_ast.specs.declared.tree.Expression.{Expression, out-Expression}
use Rattle.es6_ast.specs.declared.tree.Pattern.{Pattern, out-Pattern}
use Rattle.es6_ast.specs.declared.tree.Pattern.TheVariants as pattern
use Rattle.es6_ast.specs.declared.tree.ArrayPart.{out-ArrayPart}
use Rattle.es6_ast.specs.declared.tree.ArrayPart.TheVariants.{SinglePart, RestPart}
use Rattle.es6_ast.specs.declared.tree.ObjectPart.{out-ObjectPart}
use Rattle.es6_ast.specs.declared.tree.ObjectPart.TheVariants.{KeyedPart}
use Rattle.es6_ast.specs.declared.tree.Parameter.TheVariants.{SingleParameter}
use Rattle.es6_ast.specs.declared.tree.Element.{Element, out-Element}
use Rattle.es6_ast.specs.declared.tree.Argument.{out-Argument}
use Rattle.es6_ast.specs.declared.tree.Property.{Property, out-Property}
use Rattle.es6_ast.specs.declared.tree.Part.{Part}
use Rattle.es6_ast.specs.declared.tree.Argument.TheOpen as layer
use Rattle.es6_ast.specs.declared.tree.Argument.TheOpen.{Argument-F, ArrayPart-F, Element-F, Expression-F, ObjectPart-F, Pattern-F, Property-F}
use Rattle.es6_ast.specs.declared.settings.Shape.{Shape}
use Rattle.es6_ast.specs.declared.settings.Shape.TheVariants.{Bare, Grouped, Covered, LeftHandSide, Other}
use Rattle.es6_ast.specs.Spans.{Open, span_of}
use Rattle.es6_reading.specs.Refine.{Refined, Fits, Misfit, TooNested, refined_map, refined_cons, refined_then, held_at, simple_in, simple, alone, all_bind, array_part_binds, object_part_binds, binds_in, binds_names, made_part, target_of_default, part_in, rest_of, argument_part, element_part, is_last, array_parts_of, property_part, object_parts_of, target_in, refine, refine_pattern, refine_part, else_itself, target_before, parameters_of, parts_of, rest_parameter, parameters_in, refine_parameters}
use Rattle.es6_reading.specs.Expressions.{parameters_before}
use Rattle.es6_reading.proofs.Follows.{plus}

-- the second is the first, unless that was nested too far
pub data Kept {A : Type 0} : Refined A → Refined A → Type 0 where
  as_it_was : {r : Refined A} → Kept r r
  was_too_nested : {r : Refined A} → Kept TooNested r

kept-map : {A B : Type 0} (f : A → B) {r r' : Refined A} → Kept r r' → Kept (refined_map f r) (refined_map f r')
kept-map f as_it_was = as_it_was
kept-map f was_too_nested = was_too_nested

kept-cons : {A : Type 0} {r r' : Refined A} {rs rs' : Refined (List A)} → Kept r r' → Kept rs rs' → Kept (refined_cons r rs) (refined_cons r' rs')
kept-cons {r = Fits x} as_it_was h = kept-map (λ ys. x ∷ ys) h
kept-cons {r = Misfit at} as_it_was h = as_it_was
kept-cons {r = TooNested} as_it_was h = as_it_was
kept-cons was_too_nested h = was_too_nested

kept-then : {A B : Type 0} {r r' : Refined A} {s s' : Refined B} → Kept r r' → Kept s s' → Kept (refined_then r s) (refined_then r' s')
kept-then {r = Fits x} as_it_was h = h
kept-then {r = Misfit at} as_it_was h = as_it_was
kept-then {r = TooNested} as_it_was h = as_it_was
kept-then was_too_nested h = was_too_nested

kept-held : (at : ℕ) {r r' : Refined (Unit {0})} → Kept r r' → Kept (held_at at r) (held_at at r')
kept-held at as_it_was = as_it_was
kept-held at was_too_nested = was_too_nested

-- ## Targets by themselves

kept-simple-in : (f g : Expression → Refined (Unit {0})) → ((x : Expression) → Kept (f x) (g x)) → (o : Open Expression-F) → Kept (simple_in f o) (simple_in g o)
kept-simple-in f g h (layer.Group span held) = kept-held span.begin (h held)
kept-simple-in f g h o = as_it_was

kept-simple : (n l : ℕ) (x : Expression) → Kept (simple n x) (simple (plus n l) x)
kept-simple zero l x = was_too_nested
kept-simple (suc n) l x = kept-simple-in (simple n) (simple (plus n l)) (kept-simple n l) (out-Expression x)

kept-alone : (binds : Bool) (n l : ℕ) (x : Expression) → Kept (alone binds n x) (alone binds (plus n l) x)
kept-alone true n l x = as_it_was
kept-alone false n l x = kept-map (λ u. pattern.Target x) (kept-simple n l x)

-- ## Patterns that bind

kept-all : {A : Type 0} (f g : A → Refined (Unit {0})) → ((x : A) → Kept (f x) (g x)) → (xs : List A) → Kept (all_bind f xs) (all_bind g xs)
kept-all f g h [] = as_it_was
kept-all f g h (x ∷ xs) = kept-then (h x) (kept-all f g h xs)

kept-array-part : (f g : Pattern → Refined (Unit {0})) → ((p : Pattern) → Kept (f p) (g p)) → (o : Open ArrayPart-F) → Kept (array_part_binds f o) (array_part_binds g o)
kept-array-part f g h layer.SkippedPart = as_it_was
kept-array-part f g h (layer.SinglePart q) = h q.pattern
kept-array-part f g h (layer.RestPart span p) = as_it_was

kept-object-part : (f g : Pattern → Refined (Unit {0})) → ((p : Pattern) → Kept (f p) (g p)) → (o : Open ObjectPart-F) → Kept (object_part_binds f o) (object_part_binds g o)
kept-object-part f g h (layer.NamedPart q) = as_it_was
kept-object-part f g h (layer.KeyedPart span key q) = h q.pattern

kept-binds-in : (f g : Pattern → Refined (Unit {0})) → ((p : Pattern) → Kept (f p) (g p)) → (o : Open Pattern-F) → Kept (binds_in f o) (binds_in g o)
kept-binds-in f g h (layer.Target x) = as_it_was
kept-binds-in f g h (layer.ArrayPattern span parts) = kept-all _ _ (λ e. kept-array-part f g h (out-ArrayPart e)) parts
kept-binds-in f g h (layer.ObjectPattern span parts) = kept-all _ _ (λ e. kept-object-part f g h (out-ObjectPart e)) parts

kept-binds : (n l : ℕ) (p : Pattern) → Kept (binds_names n p) (binds_names (plus n l) p)
kept-binds zero l p = was_too_nested
kept-binds (suc n) l p = kept-binds-in (binds_names n) (binds_names (plus n l)) (kept-binds n l) (out-Pattern p)

-- ## Expressions as patterns

abbrev KeptAll : {A B : Type 0} → (A → Refined B) → (A → Refined B) → Type 0
KeptAll {A = A} f g = (x : A) → Kept (f x) (g x)

kept-default : (binds : Bool) (n l : ℕ) (f g : Expression → Refined Pattern) → KeptAll f g → (p : Pattern) (o : Open Pattern-F) → Kept (target_of_default binds n f p o) (target_of_default binds (plus n l) g p o)
kept-default true n l f g h p o = kept-map (λ u. p) (kept-binds n l p)
kept-default false n l f g h p (layer.Target x) = h x
kept-default false n l f g h p (layer.ArrayPattern span parts) = as_it_was
kept-default false n l f g h p (layer.ObjectPattern span parts) = as_it_was

kept-part-in : (binds : Bool) (n l : ℕ) (f g : Expression → Refined Pattern) → KeptAll f g → (x : Expression) (o : Open Expression-F) → Kept (part_in binds n f x o) (part_in binds (plus n l) g x o)
kept-part-in binds n l f g h x (layer.Assign span assign.Assign p value) = kept-map (made_part span (Some value)) (kept-default binds n l f g h p (out-Pattern p))
kept-part-in binds n l f g h x o = kept-map (made_part (span_of x) None) (h x)

kept-rest : (binds : Bool) (f g : Expression → Refined Pattern) → KeptAll f g → (x : Expression) → Kept (rest_of binds f x) (rest_of binds g x)
kept-rest true f g h x = as_it_was
kept-rest false f g h x = h x

kept-argument : (binds may : Bool) (f g : Expression → Refined Pattern) (p q : Expression → Refined Part) → KeptAll f g → KeptAll p q → (o : Open Argument-F) → Kept (argument_part binds may f p o) (argument_part binds may g q o)
kept-argument binds true f g p q h k (layer.Single x) = kept-map SinglePart (k x)
kept-argument binds false f g p q h k (layer.Single x) = kept-map SinglePart (k x)
kept-argument binds true f g p q h k (layer.Spread span x) = kept-map (RestPart span) (kept-rest binds f g h x)
kept-argument binds false f g p q h k (layer.Spread span x) = as_it_was

kept-element : (binds may : Bool) (f g : Expression → Refined Pattern) (p q : Expression → Refined Part) → KeptAll f g → KeptAll p q → (o : Open Element-F) → Kept (element_part binds may f p o) (element_part binds may g q o)
kept-element binds may f g p q h k layer.Hole = as_it_was
kept-element binds may f g p q h k (layer.Present a) = kept-argument binds may f g p q h k (out-Argument a)

kept-array : (binds comma : Bool) (f g : Expression → Refined Pattern) (p q : Expression → Refined Part) → KeptAll f g → KeptAll p q → (es : List Element) → Kept (array_parts_of binds comma f p es) (array_parts_of binds comma g q es)
kept-array binds comma f g p q h k [] = as_it_was
kept-array binds comma f g p q h k (e ∷ es) = kept-cons (kept-element binds (is_last es comma) f g p q h k (out-Element e)) (kept-array binds comma f g p q h k es)

kept-property : (p q : Expression → Refined Part) → KeptAll p q → (o : Open Property-F) → Kept (property_part p o) (property_part q o)
kept-property p q k (layer.Plain span key value) = kept-map (KeyedPart span key) (k value)
kept-property p q k (layer.Shorthand span name) = as_it_was
kept-property p q k (layer.Initialized span name equals value) = as_it_was
kept-property p q k (layer.Defined m) = as_it_was

kept-object : (p q : Expression → Refined Part) → KeptAll p q → (xs : List Property) → Kept (object_parts_of p xs) (object_parts_of q xs)
kept-object p q k [] = as_it_was
kept-object p q k (x ∷ xs) = kept-cons (kept-property p q k (out-Property x)) (kept-object p q k xs)

kept-target : (binds : Bool) (n l : ℕ) (f g : Expression → Refined Pattern) (p q : Expression → Refined Part) → KeptAll f g → KeptAll p q → (x : Expression) (o : Open Expression-F) → Kept (target_in binds n f p x o) (target_in binds (plus n l) g q x o)
kept-target binds n l f g p q h k x (layer.ArrayList span elements comma) = kept-map (pattern.ArrayPattern span) (kept-array binds comma f g p q h k elements)
kept-target binds n l f g p q h k x (layer.ObjectList span properties) = kept-map (pattern.ObjectPattern span) (kept-object p q k properties)
kept-target binds n l f g p q h k x o = kept-alone binds n l x

kept-refine : (binds : Bool) (n l : ℕ) (x : Expression) → Kept (refine binds n x) (refine binds (plus n l) x)
kept-refine binds zero l x = was_too_nested
kept-refine binds (suc n) l x =
    let deeper : KeptAll (refine binds n) (refine binds (plus n l)) = kept-refine binds n l in
    kept-target binds n l (refine binds n) (refine binds (plus n l)) _ _ deeper (λ y. kept-part-in binds n l (refine binds n) (refine binds (plus n l)) deeper y (out-Expression y)) x (out-Expression x)

kept-itself : (x : Expression) {r r' : Refined Pattern} → Kept r r' → Kept (else_itself x r) (else_itself x r')
kept-itself x as_it_was = as_it_was
kept-itself x was_too_nested = was_too_nested

pub kept-before : (n l : ℕ) (operator : AssignOperator) (x : Expression) → Kept (target_before n operator x) (target_before (plus n l) operator x)
unfolding target_before refine_pattern
kept-before n l assign.Assign x = kept-itself x (kept-refine false n l x)
kept-before n l operator x = as_it_was

-- ## Parameters

kept-part : (n l : ℕ) (x : Expression) → Kept (refine_part n x) (refine_part (plus n l) x)
unfolding refine_part
kept-part n l x = kept-part-in true n l (refine true n) (refine true (plus n l)) (kept-refine true n l) x (out-Expression x)

pub kept-parameters-of : (n l : ℕ) (xs : List Expression) → Kept (parameters_of n xs) (parameters_of (plus n l) xs)
kept-parameters-of n l [] = as_it_was
kept-parameters-of n l (x ∷ xs) = kept-cons (kept-map SingleParameter (kept-part n l x)) (kept-parameters-of n l xs)

kept-parameters-in : (n l : ℕ) (o : Open Expression-F) → Kept (parameters_in n o) (parameters_in (plus n l) o)
kept-parameters-in n l (layer.Group span held) = kept-parameters-of n l (parts_of held)
kept-parameters-in n l (layer.Cover span None None) = as_it_was
kept-parameters-in n l (layer.Cover span None (Some rest)) = as_it_was
kept-parameters-in n l (layer.Cover span (Some held) None) = as_it_was
kept-parameters-in n l (layer.Cover span (Some held) (Some rest)) = kept-map (λ es. es ++ rest_parameter rest ∷ []) (kept-parameters-of n l (parts_of held))
kept-parameters-in n l o = as_it_was

kept-parameters : (n l : ℕ) (x : Expression) → Kept (refine_parameters n x) (refine_parameters (plus n l) x)
unfolding refine_parameters
kept-parameters n l x = kept-parameters-in n l (out-Expression x)

pub kept-parameters-before : (n l : ℕ) (shape : Shape) (x : Expression) → Kept (parameters_before n shape x) (parameters_before (plus n l) shape x)
kept-parameters-before n l Bare x = kept-parameters n l x
kept-parameters-before n l Grouped x = kept-parameters n l x
kept-parameters-before n l Covered x = kept-parameters n l x
kept-parameters-before n l LeftHandSide x = as_it_was
kept-parameters-before n l Other x = as_it_was
