-- An expression is refined to a pattern where no part of it is a misfit, and else stops at the first one; so what is none stands
-- before `=` by itself.
use Rattle.std.proofs.Common.{◌≡◌, ℕ, zero, suc, Bool, true, false, ◌&&◌, List, [], ◌∷◌, Option, Some, None, cond, map, refl, sym, ap, ◌∙◌, subst}
use Rattle.std.specs.Prelude.{is_none}
use Rattle.es_text.specs.declared.Span.{Span}
use Rattle.es6_ast.specs.declared.operators.AssignOperator.{AssignOperator}
use Rattle.es6_ast.specs.declared.operators.AssignOperator.TheVariants as assign
use Rattle.es6_ast.specs.declared.tree.Expression.{Expression, out-Expression}
use Rattle.es6_ast.specs.declared.tree.Pattern.{Pattern, out-Pattern, roll-Pattern, roll-out-Pattern, fold-roll-Pattern}
use Rattle.es6_ast.specs.declared.tree.Pattern.TheVariants as pattern
use Rattle.es6_ast.specs.declared.tree.ArrayPart.TheVariants.{SinglePart, RestPart}
use Rattle.es6_ast.specs.declared.tree.ObjectPart.TheVariants.{KeyedPart}
use Rattle.es6_ast.specs.declared.tree.Element.{Element, out-Element, roll-Element, roll-out-Element, fold-roll-Element}
use Rattle.es6_ast.specs.declared.tree.Argument.{Argument, out-Argument, roll-Argument, roll-out-Argument, fold-roll-Argument}
use Rattle.es6_ast.specs.declared.tree.Property.{Property, out-Property, roll-Property, roll-out-Property, fold-roll-Property}
use Rattle.es6_ast.specs.declared.tree.Arrow.{Arrow, out-Arrow, roll-out-Arrow, fold-roll-Arrow}
use Rattle.es6_ast.specs.declared.tree.Class.{Class, out-Class, roll-out-Class, fold-roll-Class}
use Rattle.es6_ast.specs.declared.tree.Function.{Function, out-Function, roll-out-Function, fold-roll-Function}
use Rattle.es6_ast.specs.declared.tree.Method.{Method, out-Method, roll-out-Method, fold-Method, fold-roll-Method}
use Rattle.es6_ast.specs.declared.tree.Template.{Template, out-Template, roll-out-Template, fold-roll-Template}
use Rattle.es6_ast.specs.declared.tree.Argument.TheOpen as layer
use Rattle.es6_ast.specs.declared.tree.Argument.TheOpen.{Expression-F, Pattern-F, Element-F, Argument-F, Property-F}
use Rattle.es6_ast.specs.declared.settings.Flags.{Flags}
use Rattle.es6_ast.specs.Tokens.{Filled}
use Rattle.es6_ast.specs.Targets.{AsTarget, AsElement, as_target, is_pattern, misfit, with_default, no_target, property_target, first_of_two, first_misfit, elements_misfit, argument_target, element_target, expression_target, link_target, pattern_target, property_target_of, ends_in_access}
use Rattle.es6_ast.specs.Grammar as g
use Rattle.es6_ast.specs.Grammar.{level_left_hand_side, IsExpression, IsAssigned, IsTarget}
use Rattle.es6_ast.proofs.TargetLaws.{is_access as is_access', as_argument, as_element, pattern_misfit, property_misfit}
use Rattle.es6_ast.specs.Spans.{Open, span_of}
use Rattle.es6_reading.specs.Refine.{Refined, Fits, refined_map, refined_cons, fits_if, held_at, is_access, simple, simple_in, alone, made_part, target_of_default, is_last, argument_part, element_part, array_parts_of, property_part, object_parts_of, target_in, part_in, refine, refine_pattern, else_itself, target_before}
use Rattle.es6_reading.specs.Refinements.{IfFits, fits, misfits, too_nested, Places, no_misfit, first_misfit_at, too_deep}
use Rattle.es6_reading.proofs.RefineTargetOf.{arrow_place, class_place, function_place, template_place, layer_target, as_target-is, accesses-are, Decides, it_is, it_is_not, unknown, simple-decides, simple-is-no-literal}
use Rattle.es6_reading.proofs.RefineTargets.{reads_part, IsAlone, HasNoDefault, part-alone, targets}

-- ## Put together along the parts

map-places : {A B : Type 0} {m : Option ℕ} {r : Refined A} (k : A → B) → Places m r → Places m (refined_map k r)
map-places k (no_misfit e) = no_misfit e
map-places k (first_misfit_at e) = first_misfit_at e
map-places k too_deep = too_deep

cons-places : {A : Type 0} {m n : Option ℕ} {r : Refined A} {rs : Refined (List A)} → Places m r → Places n rs → Places (first_of_two m n) (refined_cons r rs)
cons-places {n = n} (no_misfit e) (no_misfit h) = no_misfit (ap (λ o. first_of_two o n) e ∙ h)
cons-places {n = n} (no_misfit e) (first_misfit_at h) = first_misfit_at (ap (λ o. first_of_two o n) e ∙ h)
cons-places (no_misfit e) too_deep = too_deep
cons-places {n = n} (first_misfit_at e) h = first_misfit_at (ap (λ o. first_of_two o n) e)
cons-places too_deep h = too_deep

-- ## Where the other nodes stand

method_place : Method → ℕ
method_place =
    fold-Method AsElement (Unit {0}) (Unit {0}) AsElement AsTarget (Unit {0}) (Unit {0}) (Unit {0}) Bool (Unit {0}) (Unit {0}) (Option ℕ) (Option ℕ) (Unit {0}) ℕ (Unit {0}) (Unit {0}) (Unit {0}) ℕ (Unit {0}) (Unit {0}) ℕ ℕ (Unit {0}) (Unit {0}) ℕ (Unit {0})
    (argument_target (λ x. x)) (λ x. tt) (λ x. tt) (element_target (λ x. x)) (expression_target (λ x. x) (λ x. x) (λ x. x) (λ x. x) (λ x. x) (λ x. x) (λ x. x) (λ x. x) (λ x. x)) (λ x. tt) (λ x. tt) (λ x. tt) link_target (λ x. tt) (λ x. tt) (pattern_target (λ x. x)) (property_target_of (λ x. x) (λ x. x)) (λ x. tt) (λ x. x.span.begin) (λ x. tt) (λ x. tt) (λ x. tt) (λ x. x.span.begin) (λ x. tt) (λ x. tt) (λ x. x.span.begin) (λ x. x.span.begin) (λ x. tt) (λ x. tt) (λ x. x.span.begin) (λ x. tt)

arrow-place-is : (a : Arrow) → arrow_place a ≡ (out-Arrow a).span.begin
arrow-place-is a = ap arrow_place (sym (roll-out-Arrow a)) ∙ fold-roll-Arrow AsElement (Unit {0}) (Unit {0}) AsElement AsTarget (Unit {0}) (Unit {0}) (Unit {0}) Bool (Unit {0}) (Unit {0}) (Option ℕ) (Option ℕ) (Unit {0}) ℕ (Unit {0}) (Unit {0}) (Unit {0}) ℕ (Unit {0}) (Unit {0}) ℕ ℕ (Unit {0}) (Unit {0}) ℕ (Unit {0})
    (argument_target (λ x. x)) (λ x. tt) (λ x. tt) (element_target (λ x. x)) (expression_target (λ x. x) (λ x. x) (λ x. x) (λ x. x) (λ x. x) (λ x. x) (λ x. x) (λ x. x) (λ x. x)) (λ x. tt) (λ x. tt) (λ x. tt) link_target (λ x. tt) (λ x. tt) (pattern_target (λ x. x)) (property_target_of (λ x. x) (λ x. x)) (λ x. tt) (λ x. x.span.begin) (λ x. tt) (λ x. tt) (λ x. tt) (λ x. x.span.begin) (λ x. tt) (λ x. tt) (λ x. x.span.begin) (λ x. x.span.begin) (λ x. tt) (λ x. tt) (λ x. x.span.begin) (λ x. tt) (out-Arrow a)

class-place-is : (a : Class) → class_place a ≡ (out-Class a).span.begin
class-place-is a = ap class_place (sym (roll-out-Class a)) ∙ fold-roll-Class AsElement (Unit {0}) (Unit {0}) AsElement AsTarget (Unit {0}) (Unit {0}) (Unit {0}) Bool (Unit {0}) (Unit {0}) (Option ℕ) (Option ℕ) (Unit {0}) ℕ (Unit {0}) (Unit {0}) (Unit {0}) ℕ (Unit {0}) (Unit {0}) ℕ ℕ (Unit {0}) (Unit {0}) ℕ (Unit {0})
    (argument_target (λ x. x)) (λ x. tt) (λ x. tt) (element_target (λ x. x)) (expression_target (λ x. x) (λ x. x) (λ x. x) (λ x. x) (λ x. x) (λ x. x) (λ x. x) (λ x. x) (λ x. x)) (λ x. tt) (λ x. tt) (λ x. tt) link_target (λ x. tt) (λ x. tt) (pattern_target (λ x. x)) (property_target_of (λ x. x) (λ x. x)) (λ x. tt) (λ x. x.span.begin) (λ x. tt) (λ x. tt) (λ x. tt) (λ x. x.span.begin) (λ x. tt) (λ x. tt) (λ x. x.span.begin) (λ x. x.span.begin) (λ x. tt) (λ x. tt) (λ x. x.span.begin) (λ x. tt) (out-Class a)

function-place-is : (a : Function) → function_place a ≡ (out-Function a).span.begin
function-place-is a = ap function_place (sym (roll-out-Function a)) ∙ fold-roll-Function AsElement (Unit {0}) (Unit {0}) AsElement AsTarget (Unit {0}) (Unit {0}) (Unit {0}) Bool (Unit {0}) (Unit {0}) (Option ℕ) (Option ℕ) (Unit {0}) ℕ (Unit {0}) (Unit {0}) (Unit {0}) ℕ (Unit {0}) (Unit {0}) ℕ ℕ (Unit {0}) (Unit {0}) ℕ (Unit {0})
    (argument_target (λ x. x)) (λ x. tt) (λ x. tt) (element_target (λ x. x)) (expression_target (λ x. x) (λ x. x) (λ x. x) (λ x. x) (λ x. x) (λ x. x) (λ x. x) (λ x. x) (λ x. x)) (λ x. tt) (λ x. tt) (λ x. tt) link_target (λ x. tt) (λ x. tt) (pattern_target (λ x. x)) (property_target_of (λ x. x) (λ x. x)) (λ x. tt) (λ x. x.span.begin) (λ x. tt) (λ x. tt) (λ x. tt) (λ x. x.span.begin) (λ x. tt) (λ x. tt) (λ x. x.span.begin) (λ x. x.span.begin) (λ x. tt) (λ x. tt) (λ x. x.span.begin) (λ x. tt) (out-Function a)

template-place-is : (a : Template) → template_place a ≡ (out-Template a).span.begin
template-place-is a = ap template_place (sym (roll-out-Template a)) ∙ fold-roll-Template AsElement (Unit {0}) (Unit {0}) AsElement AsTarget (Unit {0}) (Unit {0}) (Unit {0}) Bool (Unit {0}) (Unit {0}) (Option ℕ) (Option ℕ) (Unit {0}) ℕ (Unit {0}) (Unit {0}) (Unit {0}) ℕ (Unit {0}) (Unit {0}) ℕ ℕ (Unit {0}) (Unit {0}) ℕ (Unit {0})
    (argument_target (λ x. x)) (λ x. tt) (λ x. tt) (element_target (λ x. x)) (expression_target (λ x. x) (λ x. x) (λ x. x) (λ x. x) (λ x. x) (λ x. x) (λ x. x) (λ x. x) (λ x. x)) (λ x. tt) (λ x. tt) (λ x. tt) link_target (λ x. tt) (λ x. tt) (pattern_target (λ x. x)) (property_target_of (λ x. x) (λ x. x)) (λ x. tt) (λ x. x.span.begin) (λ x. tt) (λ x. tt) (λ x. tt) (λ x. x.span.begin) (λ x. tt) (λ x. tt) (λ x. x.span.begin) (λ x. x.span.begin) (λ x. tt) (λ x. tt) (λ x. x.span.begin) (λ x. tt) (out-Template a)

method-place-is : (a : Method) → method_place a ≡ (out-Method a).span.begin
unfolding method_place
method-place-is a = ap method_place (sym (roll-out-Method a)) ∙ fold-roll-Method AsElement (Unit {0}) (Unit {0}) AsElement AsTarget (Unit {0}) (Unit {0}) (Unit {0}) Bool (Unit {0}) (Unit {0}) (Option ℕ) (Option ℕ) (Unit {0}) ℕ (Unit {0}) (Unit {0}) (Unit {0}) ℕ (Unit {0}) (Unit {0}) ℕ ℕ (Unit {0}) (Unit {0}) ℕ (Unit {0})
    (argument_target (λ x. x)) (λ x. tt) (λ x. tt) (element_target (λ x. x)) (expression_target (λ x. x) (λ x. x) (λ x. x) (λ x. x) (λ x. x) (λ x. x) (λ x. x) (λ x. x) (λ x. x)) (λ x. tt) (λ x. tt) (λ x. tt) link_target (λ x. tt) (λ x. tt) (pattern_target (λ x. x)) (property_target_of (λ x. x) (λ x. x)) (λ x. tt) (λ x. x.span.begin) (λ x. tt) (λ x. tt) (λ x. tt) (λ x. x.span.begin) (λ x. tt) (λ x. tt) (λ x. x.span.begin) (λ x. x.span.begin) (λ x. tt) (λ x. tt) (λ x. x.span.begin) (λ x. tt) (out-Method a)

-- ## Layers of the parts

abbrev pattern_layer : Open Pattern-F → Option ℕ
pattern_layer l = pattern_target as_target l

roll-pattern : (l : Open Pattern-F) → pattern_misfit (roll-Pattern l) ≡ pattern_layer l
roll-pattern (layer.Target x) = fold-roll-Pattern AsElement (Unit {0}) (Unit {0}) AsElement AsTarget (Unit {0}) (Unit {0}) (Unit {0}) Bool (Unit {0}) (Unit {0}) (Option ℕ) (Option ℕ) (Unit {0}) ℕ (Unit {0}) (Unit {0}) (Unit {0}) ℕ (Unit {0}) (Unit {0}) ℕ ℕ (Unit {0}) (Unit {0}) ℕ (Unit {0})
    (argument_target (λ x. x)) (λ x. tt) (λ x. tt) (element_target (λ x. x)) (expression_target (λ x. x) (λ x. x) (λ x. x) (λ x. x) (λ x. x) (λ x. x) (λ x. x) (λ x. x) (λ x. x)) (λ x. tt) (λ x. tt) (λ x. tt) link_target (λ x. tt) (λ x. tt) (pattern_target (λ x. x)) (property_target_of (λ x. x) (λ x. x)) (λ x. tt) (λ x. x.span.begin) (λ x. tt) (λ x. tt) (λ x. tt) (λ x. x.span.begin) (λ x. tt) (λ x. tt) (λ x. x.span.begin) (λ x. x.span.begin) (λ x. tt) (λ x. tt) (λ x. x.span.begin) (λ x. tt) (layer.Target x)
roll-pattern l = fold-roll-Pattern AsElement (Unit {0}) (Unit {0}) AsElement AsTarget (Unit {0}) (Unit {0}) (Unit {0}) Bool (Unit {0}) (Unit {0}) (Option ℕ) (Option ℕ) (Unit {0}) ℕ (Unit {0}) (Unit {0}) (Unit {0}) ℕ (Unit {0}) (Unit {0}) ℕ ℕ (Unit {0}) (Unit {0}) ℕ (Unit {0})
    (argument_target (λ x. x)) (λ x. tt) (λ x. tt) (element_target (λ x. x)) (expression_target (λ x. x) (λ x. x) (λ x. x) (λ x. x) (λ x. x) (λ x. x) (λ x. x) (λ x. x) (λ x. x)) (λ x. tt) (λ x. tt) (λ x. tt) link_target (λ x. tt) (λ x. tt) (pattern_target (λ x. x)) (property_target_of (λ x. x) (λ x. x)) (λ x. tt) (λ x. x.span.begin) (λ x. tt) (λ x. tt) (λ x. tt) (λ x. x.span.begin) (λ x. tt) (λ x. tt) (λ x. x.span.begin) (λ x. x.span.begin) (λ x. tt) (λ x. tt) (λ x. x.span.begin) (λ x. tt) l

pattern-is : (p : Pattern) → pattern_misfit p ≡ pattern_layer (out-Pattern p)
pattern-is p = ap pattern_misfit (sym (roll-out-Pattern p)) ∙ roll-pattern (out-Pattern p)

abbrev argument_layer : Open Argument-F → AsElement
argument_layer l = argument_target as_target l

roll-argument : (l : Open Argument-F) → as_argument (roll-Argument l) ≡ argument_layer l
roll-argument (layer.Single x) = fold-roll-Argument AsElement (Unit {0}) (Unit {0}) AsElement AsTarget (Unit {0}) (Unit {0}) (Unit {0}) Bool (Unit {0}) (Unit {0}) (Option ℕ) (Option ℕ) (Unit {0}) ℕ (Unit {0}) (Unit {0}) (Unit {0}) ℕ (Unit {0}) (Unit {0}) ℕ ℕ (Unit {0}) (Unit {0}) ℕ (Unit {0})
    (argument_target (λ x. x)) (λ x. tt) (λ x. tt) (element_target (λ x. x)) (expression_target (λ x. x) (λ x. x) (λ x. x) (λ x. x) (λ x. x) (λ x. x) (λ x. x) (λ x. x) (λ x. x)) (λ x. tt) (λ x. tt) (λ x. tt) link_target (λ x. tt) (λ x. tt) (pattern_target (λ x. x)) (property_target_of (λ x. x) (λ x. x)) (λ x. tt) (λ x. x.span.begin) (λ x. tt) (λ x. tt) (λ x. tt) (λ x. x.span.begin) (λ x. tt) (λ x. tt) (λ x. x.span.begin) (λ x. x.span.begin) (λ x. tt) (λ x. tt) (λ x. x.span.begin) (λ x. tt) (layer.Single x)
roll-argument l = fold-roll-Argument AsElement (Unit {0}) (Unit {0}) AsElement AsTarget (Unit {0}) (Unit {0}) (Unit {0}) Bool (Unit {0}) (Unit {0}) (Option ℕ) (Option ℕ) (Unit {0}) ℕ (Unit {0}) (Unit {0}) (Unit {0}) ℕ (Unit {0}) (Unit {0}) ℕ ℕ (Unit {0}) (Unit {0}) ℕ (Unit {0})
    (argument_target (λ x. x)) (λ x. tt) (λ x. tt) (element_target (λ x. x)) (expression_target (λ x. x) (λ x. x) (λ x. x) (λ x. x) (λ x. x) (λ x. x) (λ x. x) (λ x. x) (λ x. x)) (λ x. tt) (λ x. tt) (λ x. tt) link_target (λ x. tt) (λ x. tt) (pattern_target (λ x. x)) (property_target_of (λ x. x) (λ x. x)) (λ x. tt) (λ x. x.span.begin) (λ x. tt) (λ x. tt) (λ x. tt) (λ x. x.span.begin) (λ x. tt) (λ x. tt) (λ x. x.span.begin) (λ x. x.span.begin) (λ x. tt) (λ x. tt) (λ x. x.span.begin) (λ x. tt) l

argument-is : (a : Argument) → as_argument a ≡ argument_layer (out-Argument a)
argument-is a = ap as_argument (sym (roll-out-Argument a)) ∙ roll-argument (out-Argument a)

abbrev element_layer : Open Element-F → AsElement
element_layer l = element_target as_argument l

roll-element : (l : Open Element-F) → as_element (roll-Element l) ≡ element_layer l
roll-element (layer.Present a) = fold-roll-Element AsElement (Unit {0}) (Unit {0}) AsElement AsTarget (Unit {0}) (Unit {0}) (Unit {0}) Bool (Unit {0}) (Unit {0}) (Option ℕ) (Option ℕ) (Unit {0}) ℕ (Unit {0}) (Unit {0}) (Unit {0}) ℕ (Unit {0}) (Unit {0}) ℕ ℕ (Unit {0}) (Unit {0}) ℕ (Unit {0})
    (argument_target (λ x. x)) (λ x. tt) (λ x. tt) (element_target (λ x. x)) (expression_target (λ x. x) (λ x. x) (λ x. x) (λ x. x) (λ x. x) (λ x. x) (λ x. x) (λ x. x) (λ x. x)) (λ x. tt) (λ x. tt) (λ x. tt) link_target (λ x. tt) (λ x. tt) (pattern_target (λ x. x)) (property_target_of (λ x. x) (λ x. x)) (λ x. tt) (λ x. x.span.begin) (λ x. tt) (λ x. tt) (λ x. tt) (λ x. x.span.begin) (λ x. tt) (λ x. tt) (λ x. x.span.begin) (λ x. x.span.begin) (λ x. tt) (λ x. tt) (λ x. x.span.begin) (λ x. tt) (layer.Present a)
roll-element l = fold-roll-Element AsElement (Unit {0}) (Unit {0}) AsElement AsTarget (Unit {0}) (Unit {0}) (Unit {0}) Bool (Unit {0}) (Unit {0}) (Option ℕ) (Option ℕ) (Unit {0}) ℕ (Unit {0}) (Unit {0}) (Unit {0}) ℕ (Unit {0}) (Unit {0}) ℕ ℕ (Unit {0}) (Unit {0}) ℕ (Unit {0})
    (argument_target (λ x. x)) (λ x. tt) (λ x. tt) (element_target (λ x. x)) (expression_target (λ x. x) (λ x. x) (λ x. x) (λ x. x) (λ x. x) (λ x. x) (λ x. x) (λ x. x) (λ x. x)) (λ x. tt) (λ x. tt) (λ x. tt) link_target (λ x. tt) (λ x. tt) (pattern_target (λ x. x)) (property_target_of (λ x. x) (λ x. x)) (λ x. tt) (λ x. x.span.begin) (λ x. tt) (λ x. tt) (λ x. tt) (λ x. x.span.begin) (λ x. tt) (λ x. tt) (λ x. x.span.begin) (λ x. x.span.begin) (λ x. tt) (λ x. tt) (λ x. x.span.begin) (λ x. tt) l

element-is : (e : Element) → as_element e ≡ element_layer (out-Element e)
element-is e = ap as_element (sym (roll-out-Element e)) ∙ roll-element (out-Element e)

abbrev property_layer : Open Property-F → Option ℕ
property_layer l = property_target_of as_target method_place l

roll-property : (l : Open Property-F) → property_misfit (roll-Property l) ≡ property_layer l
unfolding method_place
roll-property (layer.Defined m) = fold-roll-Property AsElement (Unit {0}) (Unit {0}) AsElement AsTarget (Unit {0}) (Unit {0}) (Unit {0}) Bool (Unit {0}) (Unit {0}) (Option ℕ) (Option ℕ) (Unit {0}) ℕ (Unit {0}) (Unit {0}) (Unit {0}) ℕ (Unit {0}) (Unit {0}) ℕ ℕ (Unit {0}) (Unit {0}) ℕ (Unit {0})
    (argument_target (λ x. x)) (λ x. tt) (λ x. tt) (element_target (λ x. x)) (expression_target (λ x. x) (λ x. x) (λ x. x) (λ x. x) (λ x. x) (λ x. x) (λ x. x) (λ x. x) (λ x. x)) (λ x. tt) (λ x. tt) (λ x. tt) link_target (λ x. tt) (λ x. tt) (pattern_target (λ x. x)) (property_target_of (λ x. x) (λ x. x)) (λ x. tt) (λ x. x.span.begin) (λ x. tt) (λ x. tt) (λ x. tt) (λ x. x.span.begin) (λ x. tt) (λ x. tt) (λ x. x.span.begin) (λ x. x.span.begin) (λ x. tt) (λ x. tt) (λ x. x.span.begin) (λ x. tt) (layer.Defined m)
roll-property l = fold-roll-Property AsElement (Unit {0}) (Unit {0}) AsElement AsTarget (Unit {0}) (Unit {0}) (Unit {0}) Bool (Unit {0}) (Unit {0}) (Option ℕ) (Option ℕ) (Unit {0}) ℕ (Unit {0}) (Unit {0}) (Unit {0}) ℕ (Unit {0}) (Unit {0}) ℕ ℕ (Unit {0}) (Unit {0}) ℕ (Unit {0})
    (argument_target (λ x. x)) (λ x. tt) (λ x. tt) (element_target (λ x. x)) (expression_target (λ x. x) (λ x. x) (λ x. x) (λ x. x) (λ x. x) (λ x. x) (λ x. x) (λ x. x) (λ x. x)) (λ x. tt) (λ x. tt) (λ x. tt) link_target (λ x. tt) (λ x. tt) (pattern_target (λ x. x)) (property_target_of (λ x. x) (λ x. x)) (λ x. tt) (λ x. x.span.begin) (λ x. tt) (λ x. tt) (λ x. tt) (λ x. x.span.begin) (λ x. tt) (λ x. tt) (λ x. x.span.begin) (λ x. x.span.begin) (λ x. tt) (λ x. tt) (λ x. x.span.begin) (λ x. tt) l

property-is : (q : Property) → property_misfit q ≡ property_layer (out-Property q)
property-is q = ap property_misfit (sym (roll-out-Property q)) ∙ roll-property (out-Property q)

-- ## Expressions by themselves

if-places : (b : Bool) (span : Span) → Places (cond b (property_target span) (no_target span.begin)).target_misfit (fits_if b span.begin)
if-places true span = no_misfit refl
if-places false span = first_misfit_at refl

held-places : {b : Bool} {r : Refined (Unit {0})} (at : ℕ) → Decides b r → Places (cond b None (Some at)) (held_at at r)
held-places at (it_is h) = no_misfit (rw h refl)
held-places at (it_is_not h) = first_misfit_at (rw h refl)
held-places at unknown = too_deep

default-misfit : (operator : AssignOperator) (x : AsTarget) (m : Option ℕ) → (with_default operator x m).target_misfit ≡ x.target_misfit
default-misfit assign.Assign x m = refl
default-misfit operator x m = refl

simple-places : (n : ℕ) (l : Open Expression-F) → IsAlone l → Places (layer_target l).target_misfit (simple_in (simple n) l)
simple-places n (layer.Name span name) h = no_misfit refl
simple-places n (layer.SuperMember span name) h = no_misfit refl
simple-places n (layer.SuperIndex span index) h = no_misfit refl
simple-places n (layer.ArrayList span elements comma) h = absurd h
simple-places n (layer.ObjectList span properties) h = absurd h
simple-places n (layer.Chain span head links) h = rw (accesses-are links) (if-places (ends_in_access (map is_access links)) span)
simple-places n (layer.Group span held) h = held-places span.begin (simple-decides n held)
simple-places n (layer.Template m) h = first_misfit_at (ap Some (template-place-is m))
simple-places n (layer.Function k) h = first_misfit_at (ap Some (function-place-is k))
simple-places n (layer.Arrow a) h = first_misfit_at (ap Some (arrow-place-is a))
simple-places n (layer.Class k) h = first_misfit_at (ap Some (class-place-is k))
simple-places n (layer.Assign span operator target value) h = first_misfit_at (default-misfit operator (no_target span.begin) (pattern_misfit target))
simple-places n l h = first_misfit_at refl

alone-places : (n : ℕ) (x : Expression) → IsAlone (out-Expression x) → Places (layer_target (out-Expression x)).target_misfit (alone false n x)
alone-places zero x h = too_deep
alone-places (suc n) x h = map-places (λ u. pattern.Target x) (simple-places n (out-Expression x) h)

abbrev AllPlaced : ℕ → Type 0
AllPlaced n = (x : Expression) → Places (misfit x) (refine false n x)

-- ## Parts

chain-part : (b : Bool) (x y : AsTarget) → x.part_misfit ≡ x.target_misfit → y.part_misfit ≡ y.target_misfit → (cond b x y).part_misfit ≡ (cond b x y).target_misfit
chain-part true x y h k = h
chain-part false x y h k = k

layer-part : (l : Open Expression-F) → HasNoDefault l → (layer_target l).part_misfit ≡ (layer_target l).target_misfit
layer-part (layer.Assign span operator target value) h = absurd h
layer-part (layer.Chain span head links) h = chain-part (ends_in_access (map is_access' links)) (property_target span) (no_target span.begin) refl refl
layer-part l h = refl

default-places : (n : ℕ) → AllPlaced n → (p : Pattern) (l : Open Pattern-F) → Places (pattern_layer l) (target_of_default false n (refine false n) p l)
default-places n ih p (layer.Target x) = ih x
default-places n ih p l = no_misfit refl

plain-places : (n : ℕ) → AllPlaced n → (x : Expression) (l : Open Expression-F) → misfit x ≡ (layer_target l).target_misfit → HasNoDefault l → Places (layer_target l).part_misfit (part_in false n (refine false n) x l)
plain-places n ih x l o h = rw (layer-part l h, part-alone false n (refine false n) x l h) (rw (← o) (map-places (made_part (span_of x) None) (ih x)))

assignment-places : (n : ℕ) → AllPlaced n → (x : Expression) (span : Span) (operator : AssignOperator) (target : Pattern) (value : _) → misfit x ≡ (layer_target (layer.Assign span operator target value)).target_misfit → Places (layer_target (layer.Assign span operator target value)).part_misfit (part_in false n (refine false n) x (layer.Assign span operator target value))
assignment-places n ih x span assign.Assign target value o = rw (pattern-is target) (map-places (made_part span (Some value)) (default-places n ih target (out-Pattern target)))
assignment-places n ih x span operator target value o = rw (← o) (map-places (made_part (span_of x) None) (ih x))

part-layer-places : (n : ℕ) → AllPlaced n → (x : Expression) (l : Open Expression-F) → misfit x ≡ (layer_target l).target_misfit → Places (layer_target l).part_misfit (part_in false n (refine false n) x l)
part-layer-places n ih x (layer.Assign span operator target value) o = assignment-places n ih x span operator target value o
part-layer-places n ih x l o = plain-places n ih x l o tt

misfit-is : (x : Expression) → misfit x ≡ (layer_target (out-Expression x)).target_misfit
misfit-is x = ap (λ t. t.target_misfit) (as_target-is x)

part-places : (n : ℕ) → AllPlaced n → (x : Expression) → Places (as_target x).part_misfit (reads_part false n x)
part-places n ih x = rw (as_target-is x) (part-layer-places n ih x (out-Expression x) (misfit-is x))

-- ## Elements and properties

rest-places : {A : Type 0} {m : Option ℕ} {r : Refined A} → Places m r → Places m (refined_cons r (Fits []))
rest-places (no_misfit e) = no_misfit e
rest-places (first_misfit_at e) = first_misfit_at e
rest-places too_deep = too_deep

-- an element, before those of which this holds
argument-places : (n : ℕ) → AllPlaced n → (comma : Bool) (l : Open Argument-F) (es : List Element) → Places (elements_misfit comma (map as_element es)) (array_parts_of false comma (refine false n) (reads_part false n) es)
    → Places (elements_misfit comma (argument_layer l ∷ map as_element es)) (refined_cons (argument_part false (is_last es comma) (refine false n) (reads_part false n) l) (array_parts_of false comma (refine false n) (reads_part false n) es))
argument-places n ih comma (layer.Single x) es h = cons-places (map-places SinglePart (part-places n ih x)) h
argument-places n ih true (layer.Spread span x) [] h = first_misfit_at refl
argument-places n ih false (layer.Spread span x) [] h = rest-places (map-places (RestPart span) (ih x))
argument-places n ih comma (layer.Spread span x) (e ∷ es) h = first_misfit_at refl

element-places : (n : ℕ) → AllPlaced n → (comma : Bool) (l : Open Element-F) (es : List Element) → Places (elements_misfit comma (map as_element es)) (array_parts_of false comma (refine false n) (reads_part false n) es)
    → Places (elements_misfit comma (element_layer l ∷ map as_element es)) (refined_cons (element_part false (is_last es comma) (refine false n) (reads_part false n) l) (array_parts_of false comma (refine false n) (reads_part false n) es))
element-places n ih comma layer.Hole es h = map-places _ h
element-places n ih comma (layer.Present a) es h = rw (argument-is a) (argument-places n ih comma (out-Argument a) es h)

elements-places : (n : ℕ) → AllPlaced n → (comma : Bool) (es : List Element) → Places (elements_misfit comma (map as_element es)) (array_parts_of false comma (refine false n) (reads_part false n) es)
elements-places n ih comma [] = no_misfit refl
elements-places n ih comma (e ∷ es) = rw (element-is e) (element-places n ih comma (out-Element e) es (elements-places n ih comma es))

property-places : (n : ℕ) → AllPlaced n → (l : Open Property-F) → Places (property_layer l) (property_part (reads_part false n) l)
property-places n ih (layer.Plain span key x) = map-places (KeyedPart span key) (part-places n ih x)
property-places n ih (layer.Defined m) = first_misfit_at (ap Some (method-place-is m))
property-places n ih l = no_misfit refl

properties-places : (n : ℕ) → AllPlaced n → (qs : List Property) → Places (first_misfit (map property_misfit qs)) (object_parts_of (reads_part false n) qs)
properties-places n ih [] = no_misfit refl
properties-places n ih (q ∷ qs) = rw (property-is q) (cons-places (property-places n ih (out-Property q)) (properties-places n ih qs))

-- ## Targets

target-places : (n : ℕ) → AllPlaced n → (x : Expression) (l : Open Expression-F) → out-Expression x ≡ l → Places (layer_target l).target_misfit (target_in false n (refine false n) (reads_part false n) x l)
target-places n ih x (layer.ArrayList span elements comma) o = map-places (pattern.ArrayPattern span) (elements-places n ih comma elements)
target-places n ih x (layer.ObjectList span properties) o = map-places (pattern.ObjectPattern span) (properties-places n ih properties)
target-places n ih x l o = subst (λ k. Places (layer_target k).target_misfit (alone false n x)) o (alone-places n x (rw o tt))

pub places : (n : ℕ) (x : Expression) → Places (misfit x) (refine false n x)
places zero x = too_deep
places (suc n) x = rw (misfit-is x) (target-places n (places n) x (out-Expression x) refl)

-- ## Before an assignment operator

no-pattern : (b c : Bool) → c ≡ false → (b && c) ≡ false
no-pattern true c h = h
no-pattern false c h = refl

target-assigned : {f : Flags} {ts us : List Filled} {p : Pattern} → IsTarget f false ts p us → IsAssigned f assign.Assign ts p us
target-assigned (g.simple_target y p d s e) = g.assigned_target y p d (rw (is_pattern, simple-is-no-literal y s) refl) e
target-assigned (g.nested_pattern p d) = g.assigned_pattern p d

itself : {f : Flags} {ts us : List Filled} {x : Expression} {r : Refined Pattern} → IsExpression f level_left_hand_side ts x us → IfFits (λ p. IsTarget f false ts p us) r → Places (misfit x) r → IfFits (λ p. IsAssigned f assign.Assign ts p us) (else_itself x r)
itself d (fits h) m = fits (target-assigned h)
itself {x = x} d misfits (first_misfit_at e) = fits (g.assigned_target x _ d (no-pattern (as_target x).literal (is_none (misfit x)) (ap is_none e)) refl)
itself d too_nested m = too_nested

pub assigned : (n : ℕ) (f : Flags) (operator : AssignOperator) (ts us : List Filled) (x : Expression) → IsExpression f level_left_hand_side ts x us → IfFits (λ p. IsAssigned f operator ts p us) (target_before n operator x)
unfolding target_before refine_pattern
assigned n f assign.Assign ts us x d = itself d (targets false n f _ ts us x d) (places n x)
assigned n f operator ts us x d = fits (g.updated_target _ x _ refl d refl)
