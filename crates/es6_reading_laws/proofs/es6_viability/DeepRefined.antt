-- As many spans lie round a place in what an expression is refined to as in the expression.
use Rattle.std.proofs.Common.{◌≡◌, ◌∙◌, ℕ, zero, suc, ◌+◌, Bool, true, false, List, [], ◌∷◌, ◌++◌, Some, None, ap, sym, refl, arith}
use Rattle.es6_ast.specs.declared.operators.AssignOperator.{AssignOperator}
use Rattle.es6_ast.specs.declared.operators.AssignOperator.TheVariants as assign
use Rattle.es6_ast.specs.declared.tree.Argument.{Argument, out-Argument, roll-Argument, roll-out-Argument}
use Rattle.es6_ast.specs.declared.tree.Argument.TheVariants as argument
use Rattle.es6_ast.specs.declared.tree.ArrayPart.TheVariants.{SinglePart, RestPart}
use Rattle.es6_ast.specs.declared.tree.Element.{Element, out-Element, roll-Element, roll-out-Element}
use Rattle.es6_ast.specs.declared.tree.Element.TheVariants as element
use Rattle.es6_ast.specs.declared.tree.Expression.{Expression, out-Expression, roll-Expression, roll-out-Expression}
use Rattle.es6_ast.specs.declared.tree.Expression.TheVariants as expr
use Rattle.es6_ast.specs.declared.tree.Identifier.{Identifier}
use Rattle.es6_ast.specs.declared.tree.ObjectPart.TheVariants.{KeyedPart}
use Rattle.es6_ast.specs.declared.tree.Parameter.TheVariants.{SingleParameter}
use Rattle.es6_ast.specs.declared.tree.Part.{Part}
use Rattle.es6_ast.specs.declared.tree.Pattern.{Pattern, out-Pattern, roll-Pattern, roll-out-Pattern}
use Rattle.es6_ast.specs.declared.tree.Pattern.TheVariants as pattern
use Rattle.es6_ast.specs.declared.tree.Property.{Property, out-Property, roll-Property, roll-out-Property}
use Rattle.es6_ast.specs.declared.tree.Property.TheVariants as property
use Rattle.es6_ast.specs.declared.tree.Rest.{Rest}
use Rattle.es6_ast.specs.declared.tree.Argument.TheOpen as layer
use Rattle.es6_ast.specs.declared.tree.Argument.TheOpen.{Argument-F, Element-F, Expression-F, Pattern-F, Property-F}
use Rattle.es6_ast.specs.declared.settings.Shape.{Shape}
use Rattle.es6_ast.specs.declared.settings.Shape.TheVariants.{Bare, Grouped, Covered, LeftHandSide, Other}
use Rattle.es6_ast.specs.Grammar.{name_target, name_alone}
use Rattle.es6_ast.specs.Spans.{Open, span_of}
use Rattle.es6_reading.specs.Refine.{Refined, Fits, Misfit, TooNested, refined_map, refined_cons, bound, simple, alone, binds_names, made_part, target_of_default, part_in, rest_of, argument_part, element_part, is_last, array_parts_of, property_part, object_parts_of, target_in, refine, refine_pattern, refine_part, else_itself, target_before, parameters_of, parts_in, parts_of, rest_parameter, parameters_in, refine_parameters}
use Rattle.es6_reading.specs.Expressions.{parameters_before}
use Rattle.es6_reading.proofs.SpanCounts.{sum_of, in_argument, in_array_part, in_element, in_expression, in_object_part, in_parameter, in_part, in_pattern, in_property}
use Rattle.es6_reading.proofs.SpanSums.{in-single, in-spread, in-skipped_part, in-single_part, in-rest_part, in-present, in-array_list, in-object_list, in-assign, in-sequence, in-group, in-cover, in-named_part, in-keyed_part, in-single_parameter, in-rest_parameter, in-target, in-array_pattern, in-object_pattern, in-plain, in-initialized, in-part, in-hole, in-shorthand, in-name}
use Rattle.es6_reading_laws.proofs.es6_viability.DeepParts.{in-name_target}

-- where it fits, there are as many
abbrev pub Recounted : {A : Type 0} → (A → ℕ → ℕ) → Refined A → (ℕ → ℕ) → Type 0
Recounted f (Fits x) D = (at : ℕ) → D at ≡ f x at
Recounted f (Misfit place) D = Unit {0}
Recounted f TooNested D = Unit {0}

recounted-map : {A B : Type 0} {D E : ℕ → ℕ} (f : A → ℕ → ℕ) (g : B → ℕ → ℕ) (k : A → B) (r : Refined A) → ((x : A) (at : ℕ) → D at ≡ f x at → E at ≡ g (k x) at) → Recounted f r D → Recounted g (refined_map k r) E
recounted-map f g k (Fits x) h b = λ at. h x at (b at)
recounted-map f g k (Misfit place) h b = tt
recounted-map f g k TooNested h b = tt

-- whatever is refined
recounted-any : {A B : Type 0} {E : ℕ → ℕ} (g : B → ℕ → ℕ) (k : A → B) (r : Refined A) → ((x : A) (at : ℕ) → E at ≡ g (k x) at) → Recounted g (refined_map k r) E
recounted-any g k (Fits x) h = h x
recounted-any g k (Misfit place) h = tt
recounted-any g k TooNested h = tt

recounted-cons : {A : Type 0} (D E : ℕ → ℕ) (f : A → ℕ → ℕ) (r : Refined A) (rs : Refined (List A)) → Recounted f r D → Recounted (sum_of f) rs E → Recounted (sum_of f) (refined_cons r rs) (λ at. D at + E at)
recounted-cons D E f (Fits x) (Fits xs) b c = λ at. omega (arith, b at, c at)
recounted-cons D E f (Fits x) (Misfit place) b c = tt
recounted-cons D E f (Fits x) TooNested b c = tt
recounted-cons D E f (Misfit place) rs b c = tt
recounted-cons D E f TooNested rs b c = tt

recounted-more : {A : Type 0} {D E : ℕ → ℕ} (f : A → ℕ → ℕ) (r : Refined A) → ((at : ℕ) → E at ≡ D at) → Recounted f r D → Recounted f r E
recounted-more f (Fits x) h b = λ at. omega (arith, b at, h at)
recounted-more f (Misfit place) h b = tt
recounted-more f TooNested h b = tt

-- ## Trees by their layers

pub expression-is : (x : Expression) {y : Expression} {l : Open Expression-F} → out-Expression x ≡ l → roll-Expression l ≡ y → (at : ℕ) → in_expression x at ≡ in_expression y at
expression-is x e r at = ap (λ z. in_expression z at) (sym (roll-out-Expression x) ∙ ap roll-Expression e ∙ r)

argument-is : (x : Argument) {y : Argument} {l : Open Argument-F} → out-Argument x ≡ l → roll-Argument l ≡ y → (at : ℕ) → in_argument x at ≡ in_argument y at
argument-is x e r at = ap (λ z. in_argument z at) (sym (roll-out-Argument x) ∙ ap roll-Argument e ∙ r)

element-is : (x : Element) {y : Element} {l : Open Element-F} → out-Element x ≡ l → roll-Element l ≡ y → (at : ℕ) → in_element x at ≡ in_element y at
element-is x e r at = ap (λ z. in_element z at) (sym (roll-out-Element x) ∙ ap roll-Element e ∙ r)

pattern-is : (x : Pattern) {y : Pattern} {l : Open Pattern-F} → out-Pattern x ≡ l → roll-Pattern l ≡ y → (at : ℕ) → in_pattern x at ≡ in_pattern y at
pattern-is x e r at = ap (λ z. in_pattern z at) (sym (roll-out-Pattern x) ∙ ap roll-Pattern e ∙ r)

property-is : (x : Property) {y : Property} {l : Open Property-F} → out-Property x ≡ l → roll-Property l ≡ y → (at : ℕ) → in_property x at ≡ in_property y at
property-is x e r at = ap (λ z. in_property z at) (sym (roll-out-Property x) ∙ ap roll-Property e ∙ r)

-- ## Patterns

in-name_alone : (n : Identifier) (at : ℕ) → in_part (name_alone n) at ≡ 0
in-name_alone n at = omega (arith, in-part n.span (name_target n) None at, in-name_target n at)

target-recounted : (x : Expression) (at : ℕ) → in_expression x at ≡ in_pattern (pattern.Target x) at
target-recounted x at = omega (arith, in-target x at)

alone-recounted : (binds : Bool) (n : ℕ) (x : Expression) → Recounted in_pattern (alone binds n x) (in_expression x)
alone-recounted true n x = recounted-any in_pattern (λ u. pattern.Target x) (bound x) (λ u at. target-recounted x at)
alone-recounted false n x = recounted-any in_pattern (λ u. pattern.Target x) (simple n x) (λ u at. target-recounted x at)

module _ (binds : Bool) (n : ℕ) (target : Expression → Refined Pattern) (h : (x : Expression) → Recounted in_pattern (target x) (in_expression x)) where
  default-recounted : (b : Bool) (p : Pattern) (q : Open Pattern-F) → out-Pattern p ≡ q → Recounted in_pattern (target_of_default b n target p q) (in_pattern p)
  default-recounted true p q e = recounted-any in_pattern (λ u. p) (binds_names n p) (λ u at. omega arith)
  default-recounted false p (layer.Target x) e = recounted-more in_pattern (target x) (λ at. omega (arith, pattern-is p e (pattern.rolls-Target x) at, in-target x at)) (h x)
  default-recounted false p q e = λ at. omega arith

  alone-part : (x : Expression) → Recounted in_part (refined_map (made_part (span_of x) None) (target x)) (in_expression x)
  alone-part x = recounted-map in_pattern in_part (made_part (span_of x) None) (target x) (λ p at b. omega (arith, b, in-part (span_of x) p None at)) (h x)

  part-recounted : (x : Expression) (l : Open Expression-F) → out-Expression x ≡ l → Recounted in_part (part_in binds n target x l) (in_expression x)
  part-recounted x (layer.Assign span assign.Assign p value) e =
      recounted-map in_pattern in_part (made_part span (Some value)) (target_of_default binds n target p (out-Pattern p)) (λ q at b. omega (arith, b, in-part span q (Some value) at, expression-is x e (expr.rolls-Assign span assign.Assign p value) at, in-assign span assign.Assign p value at)) (default-recounted binds p (out-Pattern p) refl)
  part-recounted x l e = alone-part x

  rest-recounted : (b : Bool) (x : Expression) → Recounted in_pattern (rest_of b target x) (in_expression x)
  rest-recounted true x = alone-recounted true 0 x
  rest-recounted false x = h x

  module _ (part : Expression → Refined Part) (k : (x : Expression) → Recounted in_part (part x) (in_expression x)) where
    argument-recounted : (may_rest : Bool) (a : Argument) (l : Open Argument-F) → out-Argument a ≡ l → Recounted in_array_part (argument_part binds may_rest target part l) (in_argument a)
    argument-recounted may_rest a (layer.Single x) e = recounted-map in_part in_array_part SinglePart (part x) (λ q at b. omega (arith, b, in-single_part q at, argument-is a e (argument.rolls-Single x) at, in-single x at)) (k x)
    argument-recounted true a (layer.Spread span x) e = recounted-map in_pattern in_array_part (RestPart span) (rest_of binds target x) (λ q at b. omega (arith, b, in-rest_part span q at, argument-is a e (argument.rolls-Spread span x) at, in-spread span x at)) (rest-recounted binds x)
    argument-recounted false a (layer.Spread span x) e = tt

    element-recounted : (may_rest : Bool) (x : Element) (l : Open Element-F) → out-Element x ≡ l → Recounted in_array_part (element_part binds may_rest target part l) (in_element x)
    element-recounted may_rest x layer.Hole e = λ at. omega (arith, in-skipped_part at, element-is x e element.rolls-Hole at, in-hole at)
    element-recounted may_rest x (layer.Present a) e = recounted-more in_array_part (argument_part binds may_rest target part (out-Argument a)) (λ at. omega (arith, element-is x e (element.rolls-Present a) at, in-present a at)) (argument-recounted may_rest a (out-Argument a) refl)

    array-recounted : (comma : Bool) (xs : List Element) → Recounted (sum_of in_array_part) (array_parts_of binds comma target part xs) (sum_of in_element xs)
    array-recounted comma [] = λ at. omega arith
    array-recounted comma (x ∷ xs) = recounted-cons (in_element x) (sum_of in_element xs) in_array_part (element_part binds (is_last xs comma) target part (out-Element x)) (array_parts_of binds comma target part xs) (element-recounted (is_last xs comma) x (out-Element x) refl) (array-recounted comma xs)

    property-recounted : (x : Property) (l : Open Property-F) → out-Property x ≡ l → Recounted in_object_part (property_part part l) (in_property x)
    property-recounted x (layer.Plain span key value) e = recounted-map in_part in_object_part (KeyedPart span key) (part value) (λ q at b. omega (arith, b, in-keyed_part span key q at, property-is x e (property.rolls-Plain span key value) at, in-plain span key value at)) (k value)
    property-recounted x (layer.Shorthand span name) e = λ at. omega (arith, in-named_part (name_alone (record { span = span; name = name })) at, in-name_alone (record { span = span; name = name }) at, property-is x e (property.rolls-Shorthand span name) at, in-shorthand span name at)
    property-recounted x (layer.Initialized span name equals value) e = λ at. omega (
      arith,
      in-named_part (made_part span (Some value) (name_target name)) at,
      in-part span (name_target name) (Some value) at,
      in-name_target name at,
      property-is x e (property.rolls-Initialized span name equals value) at,
      in-initialized span name equals value at,
    )
    property-recounted x (layer.Defined m) e = tt

    object-recounted : (xs : List Property) → Recounted (sum_of in_object_part) (object_parts_of part xs) (sum_of in_property xs)
    object-recounted [] = λ at. omega arith
    object-recounted (x ∷ xs) = recounted-cons (in_property x) (sum_of in_property xs) in_object_part (property_part part (out-Property x)) (object_parts_of part xs) (property-recounted x (out-Property x) refl) (object-recounted xs)

    layer-recounted : (x : Expression) (l : Open Expression-F) → out-Expression x ≡ l → Recounted in_pattern (target_in binds n target part x l) (in_expression x)
    layer-recounted x (layer.ArrayList span elements comma) e = recounted-map (sum_of in_array_part) in_pattern (pattern.ArrayPattern span) (array_parts_of binds comma target part elements) (λ q at b. omega (arith, b, in-array_pattern span q at, expression-is x e (expr.rolls-ArrayList span elements comma) at, in-array_list span elements comma at)) (array-recounted comma elements)
    layer-recounted x (layer.ObjectList span properties) e = recounted-map (sum_of in_object_part) in_pattern (pattern.ObjectPattern span) (object_parts_of part properties) (λ q at b. omega (arith, b, in-object_pattern span q at, expression-is x e (expr.rolls-ObjectList span properties) at, in-object_list span properties at)) (object-recounted properties)
    layer-recounted x l e = alone-recounted binds n x

refine-recounted : (binds : Bool) (n : ℕ) (x : Expression) → Recounted in_pattern (refine binds n x) (in_expression x)
refine-recounted binds zero x = tt
refine-recounted binds (suc n) x = layer-recounted binds n (refine binds n) (refine-recounted binds n) (λ y. part_in binds n (refine binds n) y (out-Expression y)) (λ y. part-recounted binds n (refine binds n) (refine-recounted binds n) y (out-Expression y) refl) x (out-Expression x) refl

itself-recounted : (x : Expression) (r : Refined Pattern) → Recounted in_pattern r (in_expression x) → Recounted in_pattern (else_itself x r) (in_expression x)
itself-recounted x (Fits p) b = b
itself-recounted x (Misfit place) b = target-recounted x
itself-recounted x TooNested b = tt

pub before-recounted : (n : ℕ) (operator : AssignOperator) (x : Expression) → Recounted in_pattern (target_before n operator x) (in_expression x)
unfolding target_before refine_pattern
before-recounted n assign.Assign x = itself-recounted x (refine false n x) (refine-recounted false n x)
before-recounted n operator x = target-recounted x

-- ## Parameters

parameter-recounted : (n : ℕ) (x : Expression) → Recounted in_parameter (refined_map SingleParameter (refine_part n x)) (in_expression x)
unfolding refine_part
parameter-recounted n x = recounted-map in_part in_parameter SingleParameter (part_in true n (refine true n) x (out-Expression x)) (λ q at b. omega (arith, b, in-single_parameter q at)) (part-recounted true n (refine true n) (refine-recounted true n) x (out-Expression x) refl)

parameters-recounted : (n : ℕ) (xs : List Expression) → Recounted (sum_of in_parameter) (parameters_of n xs) (sum_of in_expression xs)
parameters-recounted n [] = λ at. omega arith
parameters-recounted n (x ∷ xs) = recounted-cons (in_expression x) (sum_of in_expression xs) in_parameter (refined_map SingleParameter (refine_part n x)) (parameters_of n xs) (parameter-recounted n x) (parameters-recounted n xs)

parts-are : (x : Expression) (l : Open Expression-F) → out-Expression x ≡ l → (at : ℕ) → in_expression x at ≡ sum_of in_expression (parts_in x l) at
parts-are x (layer.Sequence span y rest) e at = omega (arith, expression-is x e (expr.rolls-Sequence span y rest) at, in-sequence span y rest at)
parts-are x l e at = omega arith

held-recounted : (n : ℕ) (x : Expression) → Recounted (sum_of in_parameter) (parameters_of n (parts_of x)) (in_expression x)
held-recounted n x = recounted-more (sum_of in_parameter) (parameters_of n (parts_of x)) (parts-are x (out-Expression x) refl) (parameters-recounted n (parts_of x))

in-rest_of_parameters : (rest : Rest) (at : ℕ) → in_parameter (rest_parameter rest) at ≡ 0
in-rest_of_parameters rest at = omega (arith, in-rest_parameter rest.span (name_target rest.name) at, in-name_target rest.name at)

sum-append : {A : Type 0} (f : A → ℕ → ℕ) (xs ys : List A) (at : ℕ) → sum_of f (xs ++ ys) at ≡ sum_of f xs at + sum_of f ys at
sum-append f [] ys at = omega arith
sum-append f (x ∷ xs) ys at = omega (arith, sum-append f xs ys at)

layer-parameters : (n : ℕ) (x : Expression) (l : Open Expression-F) → out-Expression x ≡ l → Recounted (sum_of in_parameter) (parameters_in n l) (in_expression x)
layer-parameters n x (layer.Name span name) e = λ at. omega (arith, in-single_parameter (name_alone (record { span = span; name = name })) at, in-name_alone (record { span = span; name = name }) at, expression-is x e (expr.rolls-Name span name) at, in-name span name at)
layer-parameters n x (layer.Group span held) e = recounted-more (sum_of in_parameter) (parameters_of n (parts_of held)) (λ at. omega (arith, expression-is x e (expr.rolls-Group span held) at, in-group span held at)) (held-recounted n held)
layer-parameters n x (layer.Cover span None None) e = λ at. omega (arith, expression-is x e (expr.rolls-Cover span None None) at, in-cover span None None at)
layer-parameters n x (layer.Cover span None (Some rest)) e = λ at. omega (arith, in-rest_of_parameters rest at, expression-is x e (expr.rolls-Cover span None (Some rest)) at, in-cover span None (Some rest) at)
layer-parameters n x (layer.Cover span (Some held) (Some rest)) e = recounted-map (sum_of in_parameter) (sum_of in_parameter) (λ es. es ++ rest_parameter rest ∷ []) (parameters_of n (parts_of held)) (λ es at b. omega (
  arith,
  b,
  sum-append in_parameter es (rest_parameter rest ∷ []) at,
  in-rest_of_parameters rest at,
  expression-is x e (expr.rolls-Cover span (Some held) (Some rest)) at,
  in-cover span (Some held) (Some rest) at,
)) (held-recounted n held)
layer-parameters n x l e = tt

arrow-recounted : (n : ℕ) (x : Expression) → Recounted (sum_of in_parameter) (refine_parameters n x) (in_expression x)
unfolding refine_parameters
arrow-recounted n x = layer-parameters n x (out-Expression x) refl

pub parameters-before : (n : ℕ) (shape : Shape) (x : Expression) → Recounted (sum_of in_parameter) (parameters_before n shape x) (in_expression x)
parameters-before n Bare x = arrow-recounted n x
parameters-before n Grouped x = arrow-recounted n x
parameters-before n Covered x = arrow-recounted n x
parameters-before n LeftHandSide x = tt
parameters-before n Other x = tt
