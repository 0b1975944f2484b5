-- What every expression is as a target, by its own layer, and when it is a simple one.
use Rattle.std.proofs.Common.{◌≡◌, ℕ, zero, suc, Bool, true, false, List, [], ◌∷◌, Option, cond, map, refl, sym, ap, ◌∙◌}
use Rattle.es6_ast.specs.declared.operators.AssignOperator.{AssignOperator}
use Rattle.es6_ast.specs.declared.operators.AssignOperator.TheVariants as assign
use Rattle.es6_ast.specs.declared.tree.Arrow.{Arrow, fold-Arrow}
use Rattle.es6_ast.specs.declared.tree.Class.{Class, fold-Class}
use Rattle.es6_ast.specs.declared.tree.Function.{Function, fold-Function}
use Rattle.es6_ast.specs.declared.tree.Template.{Template, fold-Template}
use Rattle.es6_ast.specs.declared.tree.Expression.{Expression, out-Expression, roll-Expression, roll-out-Expression, fold-roll-Expression}
use Rattle.es6_ast.specs.declared.tree.Link.{Link, out-Link, roll-Link, roll-out-Link, fold-roll-Link}
use Rattle.es6_ast.specs.declared.tree.Argument.TheOpen as layer
use Rattle.es6_ast.specs.declared.tree.Argument.TheOpen.{Expression-F, Link-F}
use Rattle.es6_ast.specs.Targets.{AsTarget, AsElement, as_target, is_simple, with_default, no_target, property_target, argument_target, element_target, expression_target, link_target, pattern_target, property_target_of, ends_in_access}
use Rattle.es6_ast.proofs.TargetLaws.{is_access as is_access', as_element, pattern_misfit, property_misfit}
use Rattle.es6_ast.specs.Spans.{Open}
use Rattle.es6_reading.specs.Refine.{Refined, Fits, Misfit, TooNested, is_access, is_access_in, held_at, fits_if, simple, simple_in}

abbrev pub arrow_place : Arrow → ℕ
arrow_place =
    fold-Arrow AsElement (Unit {0}) (Unit {0}) AsElement AsTarget (Unit {0}) (Unit {0}) (Unit {0}) Bool (Unit {0}) (Unit {0}) (Option ℕ) (Option ℕ) (Unit {0}) ℕ (Unit {0}) (Unit {0}) (Unit {0}) ℕ (Unit {0}) (Unit {0}) ℕ ℕ (Unit {0}) (Unit {0}) ℕ (Unit {0})
    (argument_target (λ x. x)) (λ x. tt) (λ x. tt) (element_target (λ x. x)) (expression_target (λ x. x) (λ x. x) (λ x. x) (λ x. x) (λ x. x) (λ x. x) (λ x. x) (λ x. x) (λ x. x)) (λ x. tt) (λ x. tt) (λ x. tt) link_target (λ x. tt) (λ x. tt) (pattern_target (λ x. x)) (property_target_of (λ x. x) (λ x. x)) (λ x. tt) (λ x. x.span.begin) (λ x. tt) (λ x. tt) (λ x. tt) (λ x. x.span.begin) (λ x. tt) (λ x. tt) (λ x. x.span.begin) (λ x. x.span.begin) (λ x. tt) (λ x. tt) (λ x. x.span.begin) (λ x. tt)

abbrev pub class_place : Class → ℕ
class_place =
    fold-Class AsElement (Unit {0}) (Unit {0}) AsElement AsTarget (Unit {0}) (Unit {0}) (Unit {0}) Bool (Unit {0}) (Unit {0}) (Option ℕ) (Option ℕ) (Unit {0}) ℕ (Unit {0}) (Unit {0}) (Unit {0}) ℕ (Unit {0}) (Unit {0}) ℕ ℕ (Unit {0}) (Unit {0}) ℕ (Unit {0})
    (argument_target (λ x. x)) (λ x. tt) (λ x. tt) (element_target (λ x. x)) (expression_target (λ x. x) (λ x. x) (λ x. x) (λ x. x) (λ x. x) (λ x. x) (λ x. x) (λ x. x) (λ x. x)) (λ x. tt) (λ x. tt) (λ x. tt) link_target (λ x. tt) (λ x. tt) (pattern_target (λ x. x)) (property_target_of (λ x. x) (λ x. x)) (λ x. tt) (λ x. x.span.begin) (λ x. tt) (λ x. tt) (λ x. tt) (λ x. x.span.begin) (λ x. tt) (λ x. tt) (λ x. x.span.begin) (λ x. x.span.begin) (λ x. tt) (λ x. tt) (λ x. x.span.begin) (λ x. tt)

abbrev pub function_place : Function → ℕ
function_place =
    fold-Function AsElement (Unit {0}) (Unit {0}) AsElement AsTarget (Unit {0}) (Unit {0}) (Unit {0}) Bool (Unit {0}) (Unit {0}) (Option ℕ) (Option ℕ) (Unit {0}) ℕ (Unit {0}) (Unit {0}) (Unit {0}) ℕ (Unit {0}) (Unit {0}) ℕ ℕ (Unit {0}) (Unit {0}) ℕ (Unit {0})
    (argument_target (λ x. x)) (λ x. tt) (λ x. tt) (element_target (λ x. x)) (expression_target (λ x. x) (λ x. x) (λ x. x) (λ x. x) (λ x. x) (λ x. x) (λ x. x) (λ x. x) (λ x. x)) (λ x. tt) (λ x. tt) (λ x. tt) link_target (λ x. tt) (λ x. tt) (pattern_target (λ x. x)) (property_target_of (λ x. x) (λ x. x)) (λ x. tt) (λ x. x.span.begin) (λ x. tt) (λ x. tt) (λ x. tt) (λ x. x.span.begin) (λ x. tt) (λ x. tt) (λ x. x.span.begin) (λ x. x.span.begin) (λ x. tt) (λ x. tt) (λ x. x.span.begin) (λ x. tt)

abbrev pub template_place : Template → ℕ
template_place =
    fold-Template AsElement (Unit {0}) (Unit {0}) AsElement AsTarget (Unit {0}) (Unit {0}) (Unit {0}) Bool (Unit {0}) (Unit {0}) (Option ℕ) (Option ℕ) (Unit {0}) ℕ (Unit {0}) (Unit {0}) (Unit {0}) ℕ (Unit {0}) (Unit {0}) ℕ ℕ (Unit {0}) (Unit {0}) ℕ (Unit {0})
    (argument_target (λ x. x)) (λ x. tt) (λ x. tt) (element_target (λ x. x)) (expression_target (λ x. x) (λ x. x) (λ x. x) (λ x. x) (λ x. x) (λ x. x) (λ x. x) (λ x. x) (λ x. x)) (λ x. tt) (λ x. tt) (λ x. tt) link_target (λ x. tt) (λ x. tt) (pattern_target (λ x. x)) (property_target_of (λ x. x) (λ x. x)) (λ x. tt) (λ x. x.span.begin) (λ x. tt) (λ x. tt) (λ x. tt) (λ x. x.span.begin) (λ x. tt) (λ x. tt) (λ x. x.span.begin) (λ x. x.span.begin) (λ x. tt) (λ x. tt) (λ x. x.span.begin) (λ x. tt)

-- the layer, with what the trees below it give
abbrev pub layer_target : Open Expression-F → AsTarget
layer_target l = expression_target as_element as_target is_access' pattern_misfit property_misfit arrow_place class_place function_place template_place l

map-same : {A : Type 0} (xs : List A) → map (λ x. x) xs ≡ xs
map-same [] = refl
map-same (x ∷ xs) = ap (λ ys. x ∷ ys) (map-same xs)

roll-target : (l : Open Expression-F) → as_target (roll-Expression l) ≡ layer_target l
roll-target (layer.ArrayList span elements comma) =
    (fold-roll-Expression AsElement (Unit {0}) (Unit {0}) AsElement AsTarget (Unit {0}) (Unit {0}) (Unit {0}) Bool (Unit {0}) (Unit {0}) (Option ℕ) (Option ℕ) (Unit {0}) ℕ (Unit {0}) (Unit {0}) (Unit {0}) ℕ (Unit {0}) (Unit {0}) ℕ ℕ (Unit {0}) (Unit {0}) ℕ (Unit {0})
    (argument_target (λ x. x)) (λ x. tt) (λ x. tt) (element_target (λ x. x)) (expression_target (λ x. x) (λ x. x) (λ x. x) (λ x. x) (λ x. x) (λ x. x) (λ x. x) (λ x. x) (λ x. x)) (λ x. tt) (λ x. tt) (λ x. tt) link_target (λ x. tt) (λ x. tt) (pattern_target (λ x. x)) (property_target_of (λ x. x) (λ x. x)) (λ x. tt) (λ x. x.span.begin) (λ x. tt) (λ x. tt) (λ x. tt) (λ x. x.span.begin) (λ x. tt) (λ x. tt) (λ x. x.span.begin) (λ x. x.span.begin) (λ x. tt) (λ x. tt) (λ x. x.span.begin) (λ x. tt) (layer.ArrayList span elements comma)) ∙ rw (map-same (map as_element elements)) refl
roll-target (layer.ObjectList span properties) =
    (fold-roll-Expression AsElement (Unit {0}) (Unit {0}) AsElement AsTarget (Unit {0}) (Unit {0}) (Unit {0}) Bool (Unit {0}) (Unit {0}) (Option ℕ) (Option ℕ) (Unit {0}) ℕ (Unit {0}) (Unit {0}) (Unit {0}) ℕ (Unit {0}) (Unit {0}) ℕ ℕ (Unit {0}) (Unit {0}) ℕ (Unit {0})
    (argument_target (λ x. x)) (λ x. tt) (λ x. tt) (element_target (λ x. x)) (expression_target (λ x. x) (λ x. x) (λ x. x) (λ x. x) (λ x. x) (λ x. x) (λ x. x) (λ x. x) (λ x. x)) (λ x. tt) (λ x. tt) (λ x. tt) link_target (λ x. tt) (λ x. tt) (pattern_target (λ x. x)) (property_target_of (λ x. x) (λ x. x)) (λ x. tt) (λ x. x.span.begin) (λ x. tt) (λ x. tt) (λ x. tt) (λ x. x.span.begin) (λ x. tt) (λ x. tt) (λ x. x.span.begin) (λ x. x.span.begin) (λ x. tt) (λ x. tt) (λ x. x.span.begin) (λ x. tt) (layer.ObjectList span properties)) ∙ rw (map-same (map property_misfit properties)) refl
roll-target (layer.Chain span head links) =
    (fold-roll-Expression AsElement (Unit {0}) (Unit {0}) AsElement AsTarget (Unit {0}) (Unit {0}) (Unit {0}) Bool (Unit {0}) (Unit {0}) (Option ℕ) (Option ℕ) (Unit {0}) ℕ (Unit {0}) (Unit {0}) (Unit {0}) ℕ (Unit {0}) (Unit {0}) ℕ ℕ (Unit {0}) (Unit {0}) ℕ (Unit {0})
    (argument_target (λ x. x)) (λ x. tt) (λ x. tt) (element_target (λ x. x)) (expression_target (λ x. x) (λ x. x) (λ x. x) (λ x. x) (λ x. x) (λ x. x) (λ x. x) (λ x. x) (λ x. x)) (λ x. tt) (λ x. tt) (λ x. tt) link_target (λ x. tt) (λ x. tt) (pattern_target (λ x. x)) (property_target_of (λ x. x) (λ x. x)) (λ x. tt) (λ x. x.span.begin) (λ x. tt) (λ x. tt) (λ x. tt) (λ x. x.span.begin) (λ x. tt) (λ x. tt) (λ x. x.span.begin) (λ x. x.span.begin) (λ x. tt) (λ x. tt) (λ x. x.span.begin) (λ x. tt) (layer.Chain span head links)) ∙ rw (map-same (map is_access' links)) refl
roll-target l = fold-roll-Expression AsElement (Unit {0}) (Unit {0}) AsElement AsTarget (Unit {0}) (Unit {0}) (Unit {0}) Bool (Unit {0}) (Unit {0}) (Option ℕ) (Option ℕ) (Unit {0}) ℕ (Unit {0}) (Unit {0}) (Unit {0}) ℕ (Unit {0}) (Unit {0}) ℕ ℕ (Unit {0}) (Unit {0}) ℕ (Unit {0})
    (argument_target (λ x. x)) (λ x. tt) (λ x. tt) (element_target (λ x. x)) (expression_target (λ x. x) (λ x. x) (λ x. x) (λ x. x) (λ x. x) (λ x. x) (λ x. x) (λ x. x) (λ x. x)) (λ x. tt) (λ x. tt) (λ x. tt) link_target (λ x. tt) (λ x. tt) (pattern_target (λ x. x)) (property_target_of (λ x. x) (λ x. x)) (λ x. tt) (λ x. x.span.begin) (λ x. tt) (λ x. tt) (λ x. tt) (λ x. x.span.begin) (λ x. tt) (λ x. tt) (λ x. x.span.begin) (λ x. x.span.begin) (λ x. tt) (λ x. tt) (λ x. x.span.begin) (λ x. tt) l

pub as_target-is : (x : Expression) → as_target x ≡ layer_target (out-Expression x)
as_target-is x = ap as_target (sym (roll-out-Expression x)) ∙ roll-target (out-Expression x)

roll-access : (l : Open Link-F) → is_access' (roll-Link l) ≡ is_access_in l
roll-access (layer.Member span name) = fold-roll-Link AsElement (Unit {0}) (Unit {0}) AsElement AsTarget (Unit {0}) (Unit {0}) (Unit {0}) Bool (Unit {0}) (Unit {0}) (Option ℕ) (Option ℕ) (Unit {0}) ℕ (Unit {0}) (Unit {0}) (Unit {0}) ℕ (Unit {0}) (Unit {0}) ℕ ℕ (Unit {0}) (Unit {0}) ℕ (Unit {0})
    (argument_target (λ x. x)) (λ x. tt) (λ x. tt) (element_target (λ x. x)) (expression_target (λ x. x) (λ x. x) (λ x. x) (λ x. x) (λ x. x) (λ x. x) (λ x. x) (λ x. x) (λ x. x)) (λ x. tt) (λ x. tt) (λ x. tt) link_target (λ x. tt) (λ x. tt) (pattern_target (λ x. x)) (property_target_of (λ x. x) (λ x. x)) (λ x. tt) (λ x. x.span.begin) (λ x. tt) (λ x. tt) (λ x. tt) (λ x. x.span.begin) (λ x. tt) (λ x. tt) (λ x. x.span.begin) (λ x. x.span.begin) (λ x. tt) (λ x. tt) (λ x. x.span.begin) (λ x. tt) (layer.Member span name)
roll-access l = fold-roll-Link AsElement (Unit {0}) (Unit {0}) AsElement AsTarget (Unit {0}) (Unit {0}) (Unit {0}) Bool (Unit {0}) (Unit {0}) (Option ℕ) (Option ℕ) (Unit {0}) ℕ (Unit {0}) (Unit {0}) (Unit {0}) ℕ (Unit {0}) (Unit {0}) ℕ ℕ (Unit {0}) (Unit {0}) ℕ (Unit {0})
    (argument_target (λ x. x)) (λ x. tt) (λ x. tt) (element_target (λ x. x)) (expression_target (λ x. x) (λ x. x) (λ x. x) (λ x. x) (λ x. x) (λ x. x) (λ x. x) (λ x. x) (λ x. x)) (λ x. tt) (λ x. tt) (λ x. tt) link_target (λ x. tt) (λ x. tt) (pattern_target (λ x. x)) (property_target_of (λ x. x) (λ x. x)) (λ x. tt) (λ x. x.span.begin) (λ x. tt) (λ x. tt) (λ x. tt) (λ x. x.span.begin) (λ x. tt) (λ x. tt) (λ x. x.span.begin) (λ x. x.span.begin) (λ x. tt) (λ x. tt) (λ x. x.span.begin) (λ x. tt) l

access-is : (l : Link) → is_access' l ≡ is_access l
access-is l = ap is_access' (sym (roll-out-Link l)) ∙ roll-access (out-Link l)

pub accesses-are : (ls : List Link) → map is_access' ls ≡ map is_access ls
accesses-are [] = refl
accesses-are (l ∷ ls) = rw (access-is l) (ap (λ bs. is_access l ∷ bs) (accesses-are ls))

-- ## Simple targets

-- whether it is so is the boolean, where it is not nested too far
pub data Decides (b : Bool) : Refined (Unit {0}) → Type 0 where
  it_is : b ≡ true → Decides b (Fits tt)
  it_is_not : {at : ℕ} → b ≡ false → Decides b (Misfit at)
  unknown : Decides b TooNested

decides-if : (b : Bool) (at : ℕ) → Decides b (fits_if b at)
decides-if true at = it_is refl
decides-if false at = it_is_not refl

decides-held : {b : Bool} {r : Refined (Unit {0})} (at : ℕ) → Decides b r → Decides b (held_at at r)
decides-held at (it_is h) = it_is h
decides-held at (it_is_not h) = it_is_not h
decides-held at unknown = unknown

access-simple : (b : Bool) (x y : AsTarget) → x.simple ≡ true → y.simple ≡ false → (cond b x y).simple ≡ b
access-simple true x y h k = h
access-simple false x y h k = k

pub not-by-default : (operator : AssignOperator) (x : AsTarget) (m : Option ℕ) → x.simple ≡ false → (with_default operator x m).simple ≡ false
not-by-default assign.Assign x m h = h
not-by-default operator x m h = h

simple-layer : (n : ℕ) (ih : (x : Expression) → Decides (is_simple x) (simple n x)) (l : Open Expression-F) → Decides (layer_target l).simple (simple_in (simple n) l)
simple-layer n ih (layer.Name span name) = it_is refl
simple-layer n ih (layer.SuperMember span name) = it_is refl
simple-layer n ih (layer.SuperIndex span index) = it_is refl
simple-layer n ih (layer.Chain span head links) = rw (access-simple (ends_in_access (map is_access' links)) (property_target span) (no_target span.begin) refl refl) (rw (accesses-are links) (decides-if (ends_in_access (map is_access links)) span.begin))
simple-layer n ih (layer.Group span held) = decides-held span.begin (ih held)
simple-layer n ih (layer.Assign span operator target value) = it_is_not (not-by-default operator (no_target span.begin) (pattern_misfit target) refl)
simple-layer n ih l = it_is_not refl

pub simple-decides : (n : ℕ) (x : Expression) → Decides (is_simple x) (simple n x)
simple-decides zero x = unknown
simple-decides (suc n) x = rw (is_simple, as_target-is x) (simple-layer n (simple-decides n) (out-Expression x))

-- ## Literals

literal-by-default : (operator : AssignOperator) (x : AsTarget) (m : Option ℕ) → x.literal ≡ false → (with_default operator x m).literal ≡ false
literal-by-default assign.Assign x m h = h
literal-by-default operator x m h = h

access-literal : (b : Bool) (x y : AsTarget) → x.literal ≡ false → y.literal ≡ false → (cond b x y).literal ≡ false
access-literal true x y h k = h
access-literal false x y h k = k

simple-layer-is-no-literal : (l : Open Expression-F) → (layer_target l).simple ≡ true → (layer_target l).literal ≡ false
simple-layer-is-no-literal (layer.ArrayList span elements comma) h = absurd (cc)
simple-layer-is-no-literal (layer.ObjectList span properties) h = absurd (cc)
simple-layer-is-no-literal (layer.Chain span head links) h = access-literal (ends_in_access (map is_access' links)) (property_target span) (no_target span.begin) refl refl
simple-layer-is-no-literal (layer.Assign span operator target value) h = literal-by-default operator (no_target span.begin) (pattern_misfit target) refl
simple-layer-is-no-literal l h = refl

pub simple-is-no-literal : (x : Expression) → is_simple x ≡ true → (as_target x).literal ≡ false
simple-is-no-literal x h = rw (as_target-is x) (simple-layer-is-no-literal (out-Expression x) (rw (is_simple, as_target-is x) at h))
