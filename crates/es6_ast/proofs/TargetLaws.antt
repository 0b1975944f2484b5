-- What the kinds of expressions are as targets, as equations.
use Rattle.std.proofs.Common.{◌≡◌, ℕ, Bool, true, false, None, List, Option, cond, map, ap, sym, ◌∙◌}
use Rattle.es_text.specs.declared.Span.{Span}
use Rattle.es6_ast.specs.declared.operators.Literal.{Literal}
use Rattle.es6_ast.specs.declared.tree.Identifier.{Identifier}
use Rattle.es6_ast.specs.declared.tree.Expression.{Expression, fold-roll-Expression}
use Rattle.es6_ast.specs.declared.tree.Expression.TheVariants as expr
use Rattle.es6_ast.specs.declared.tree.Link.{Link, fold-Link, fold-roll-Link}
use Rattle.es6_ast.specs.declared.tree.Element.{Element, fold-Element, fold-roll-Element}
use Rattle.es6_ast.specs.declared.tree.Property.{Property, fold-Property, fold-roll-Property}
use Rattle.es6_ast.specs.declared.tree.Argument.{Argument, fold-Argument, fold-roll-Argument}
use Rattle.es6_ast.specs.declared.tree.Pattern.{Pattern, fold-Pattern, fold-roll-Pattern}
use Rattle.es6_ast.specs.declared.tree.Key.{Key}
use Rattle.es6_ast.specs.declared.tree.Link.TheVariants as link
use Rattle.es6_ast.specs.declared.tree.Argument.TheVariants as argument
use Rattle.es6_ast.specs.declared.tree.Element.TheVariants as element
use Rattle.es6_ast.specs.declared.tree.Pattern.TheVariants as pattern
use Rattle.es6_ast.specs.declared.tree.Property.TheVariants as property
use Rattle.es6_ast.specs.declared.tree.Argument.TheOpen as layer
use Rattle.es6_ast.specs.Targets.{AsTarget, AsElement, NoElement, OneElement, LastElement, as_target, name_target, group_target, super_target, no_target, property_target, literal_target, ends_in_access, elements_misfit, first_misfit, argument_target, element_target, expression_target, link_target, pattern_target, property_target_of}

abbrev pub is_access : Link → Bool
is_access =
    fold-Link AsElement (Unit {0}) (Unit {0}) AsElement AsTarget (Unit {0}) (Unit {0}) (Unit {0}) Bool (Unit {0}) (Unit {0}) (Option ℕ) (Option ℕ) (Unit {0}) ℕ (Unit {0}) (Unit {0}) (Unit {0}) ℕ (Unit {0}) (Unit {0}) ℕ ℕ (Unit {0}) (Unit {0}) ℕ (Unit {0})
    (argument_target (λ x. x)) (λ x. tt) (λ x. tt) (element_target (λ x. x)) (expression_target (λ x. x) (λ x. x) (λ x. x) (λ x. x) (λ x. x) (λ x. x) (λ x. x) (λ x. x) (λ x. x)) (λ x. tt) (λ x. tt) (λ x. tt) link_target (λ x. tt) (λ x. tt) (pattern_target (λ x. x)) (property_target_of (λ x. x) (λ x. x)) (λ x. tt) (λ x. x.span.begin) (λ x. tt) (λ x. tt) (λ x. tt) (λ x. x.span.begin) (λ x. tt) (λ x. tt) (λ x. x.span.begin) (λ x. x.span.begin) (λ x. tt) (λ x. tt) (λ x. x.span.begin) (λ x. tt)

abbrev pub as_argument : Argument → AsElement
as_argument =
    fold-Argument AsElement (Unit {0}) (Unit {0}) AsElement AsTarget (Unit {0}) (Unit {0}) (Unit {0}) Bool (Unit {0}) (Unit {0}) (Option ℕ) (Option ℕ) (Unit {0}) ℕ (Unit {0}) (Unit {0}) (Unit {0}) ℕ (Unit {0}) (Unit {0}) ℕ ℕ (Unit {0}) (Unit {0}) ℕ (Unit {0})
    (argument_target (λ x. x)) (λ x. tt) (λ x. tt) (element_target (λ x. x)) (expression_target (λ x. x) (λ x. x) (λ x. x) (λ x. x) (λ x. x) (λ x. x) (λ x. x) (λ x. x) (λ x. x)) (λ x. tt) (λ x. tt) (λ x. tt) link_target (λ x. tt) (λ x. tt) (pattern_target (λ x. x)) (property_target_of (λ x. x) (λ x. x)) (λ x. tt) (λ x. x.span.begin) (λ x. tt) (λ x. tt) (λ x. tt) (λ x. x.span.begin) (λ x. tt) (λ x. tt) (λ x. x.span.begin) (λ x. x.span.begin) (λ x. tt) (λ x. tt) (λ x. x.span.begin) (λ x. tt)

abbrev pub as_element : Element → AsElement
as_element =
    fold-Element AsElement (Unit {0}) (Unit {0}) AsElement AsTarget (Unit {0}) (Unit {0}) (Unit {0}) Bool (Unit {0}) (Unit {0}) (Option ℕ) (Option ℕ) (Unit {0}) ℕ (Unit {0}) (Unit {0}) (Unit {0}) ℕ (Unit {0}) (Unit {0}) ℕ ℕ (Unit {0}) (Unit {0}) ℕ (Unit {0})
    (argument_target (λ x. x)) (λ x. tt) (λ x. tt) (element_target (λ x. x)) (expression_target (λ x. x) (λ x. x) (λ x. x) (λ x. x) (λ x. x) (λ x. x) (λ x. x) (λ x. x) (λ x. x)) (λ x. tt) (λ x. tt) (λ x. tt) link_target (λ x. tt) (λ x. tt) (pattern_target (λ x. x)) (property_target_of (λ x. x) (λ x. x)) (λ x. tt) (λ x. x.span.begin) (λ x. tt) (λ x. tt) (λ x. tt) (λ x. x.span.begin) (λ x. tt) (λ x. tt) (λ x. x.span.begin) (λ x. x.span.begin) (λ x. tt) (λ x. tt) (λ x. x.span.begin) (λ x. tt)

abbrev pub pattern_misfit : Pattern → Option ℕ
pattern_misfit =
    fold-Pattern AsElement (Unit {0}) (Unit {0}) AsElement AsTarget (Unit {0}) (Unit {0}) (Unit {0}) Bool (Unit {0}) (Unit {0}) (Option ℕ) (Option ℕ) (Unit {0}) ℕ (Unit {0}) (Unit {0}) (Unit {0}) ℕ (Unit {0}) (Unit {0}) ℕ ℕ (Unit {0}) (Unit {0}) ℕ (Unit {0})
    (argument_target (λ x. x)) (λ x. tt) (λ x. tt) (element_target (λ x. x)) (expression_target (λ x. x) (λ x. x) (λ x. x) (λ x. x) (λ x. x) (λ x. x) (λ x. x) (λ x. x) (λ x. x)) (λ x. tt) (λ x. tt) (λ x. tt) link_target (λ x. tt) (λ x. tt) (pattern_target (λ x. x)) (property_target_of (λ x. x) (λ x. x)) (λ x. tt) (λ x. x.span.begin) (λ x. tt) (λ x. tt) (λ x. tt) (λ x. x.span.begin) (λ x. tt) (λ x. tt) (λ x. x.span.begin) (λ x. x.span.begin) (λ x. tt) (λ x. tt) (λ x. x.span.begin) (λ x. tt)

abbrev pub property_misfit : Property → Option ℕ
property_misfit =
    fold-Property AsElement (Unit {0}) (Unit {0}) AsElement AsTarget (Unit {0}) (Unit {0}) (Unit {0}) Bool (Unit {0}) (Unit {0}) (Option ℕ) (Option ℕ) (Unit {0}) ℕ (Unit {0}) (Unit {0}) (Unit {0}) ℕ (Unit {0}) (Unit {0}) ℕ ℕ (Unit {0}) (Unit {0}) ℕ (Unit {0})
    (argument_target (λ x. x)) (λ x. tt) (λ x. tt) (element_target (λ x. x)) (expression_target (λ x. x) (λ x. x) (λ x. x) (λ x. x) (λ x. x) (λ x. x) (λ x. x) (λ x. x) (λ x. x)) (λ x. tt) (λ x. tt) (λ x. tt) link_target (λ x. tt) (λ x. tt) (pattern_target (λ x. x)) (property_target_of (λ x. x) (λ x. x)) (λ x. tt) (λ x. x.span.begin) (λ x. tt) (λ x. tt) (λ x. tt) (λ x. x.span.begin) (λ x. tt) (λ x. tt) (λ x. x.span.begin) (λ x. x.span.begin) (λ x. tt) (λ x. tt) (λ x. x.span.begin) (λ x. tt)

pub as_target-Name : (span : Span) (name : List ℕ) → as_target (expr.Name span name) ≡ name_target span name
as_target-Name span name =
    ap as_target (sym (expr.rolls-Name span name)) ∙ fold-roll-Expression AsElement (Unit {0}) (Unit {0}) AsElement AsTarget (Unit {0}) (Unit {0}) (Unit {0}) Bool (Unit {0}) (Unit {0}) (Option ℕ) (Option ℕ) (Unit {0}) ℕ (Unit {0}) (Unit {0}) (Unit {0}) ℕ (Unit {0}) (Unit {0}) ℕ ℕ (Unit {0}) (Unit {0}) ℕ (Unit {0})
    (argument_target (λ x. x)) (λ x. tt) (λ x. tt) (element_target (λ x. x)) (expression_target (λ x. x) (λ x. x) (λ x. x) (λ x. x) (λ x. x) (λ x. x) (λ x. x) (λ x. x) (λ x. x)) (λ x. tt) (λ x. tt) (λ x. tt) link_target (λ x. tt) (λ x. tt) (pattern_target (λ x. x)) (property_target_of (λ x. x) (λ x. x)) (λ x. tt) (λ x. x.span.begin) (λ x. tt) (λ x. tt) (λ x. tt) (λ x. x.span.begin) (λ x. tt) (λ x. tt) (λ x. x.span.begin) (λ x. x.span.begin) (λ x. tt) (λ x. tt) (λ x. x.span.begin) (λ x. tt) (layer.Name span name)

pub as_target-Group : (span : Span) (held : Expression) → as_target (expr.Group span held) ≡ group_target span (as_target held)
as_target-Group span held =
    ap as_target (sym (expr.rolls-Group span held)) ∙ fold-roll-Expression AsElement (Unit {0}) (Unit {0}) AsElement AsTarget (Unit {0}) (Unit {0}) (Unit {0}) Bool (Unit {0}) (Unit {0}) (Option ℕ) (Option ℕ) (Unit {0}) ℕ (Unit {0}) (Unit {0}) (Unit {0}) ℕ (Unit {0}) (Unit {0}) ℕ ℕ (Unit {0}) (Unit {0}) ℕ (Unit {0})
    (argument_target (λ x. x)) (λ x. tt) (λ x. tt) (element_target (λ x. x)) (expression_target (λ x. x) (λ x. x) (λ x. x) (λ x. x) (λ x. x) (λ x. x) (λ x. x) (λ x. x) (λ x. x)) (λ x. tt) (λ x. tt) (λ x. tt) link_target (λ x. tt) (λ x. tt) (pattern_target (λ x. x)) (property_target_of (λ x. x) (λ x. x)) (λ x. tt) (λ x. x.span.begin) (λ x. tt) (λ x. tt) (λ x. tt) (λ x. x.span.begin) (λ x. tt) (λ x. tt) (λ x. x.span.begin) (λ x. x.span.begin) (λ x. tt) (λ x. tt) (λ x. x.span.begin) (λ x. tt) (layer.Group span held)

pub as_target-SuperMember : (span : Span) (name : Identifier) → as_target (expr.SuperMember span name) ≡ super_target span
as_target-SuperMember span name =
    ap as_target (sym (expr.rolls-SuperMember span name)) ∙ fold-roll-Expression AsElement (Unit {0}) (Unit {0}) AsElement AsTarget (Unit {0}) (Unit {0}) (Unit {0}) Bool (Unit {0}) (Unit {0}) (Option ℕ) (Option ℕ) (Unit {0}) ℕ (Unit {0}) (Unit {0}) (Unit {0}) ℕ (Unit {0}) (Unit {0}) ℕ ℕ (Unit {0}) (Unit {0}) ℕ (Unit {0})
    (argument_target (λ x. x)) (λ x. tt) (λ x. tt) (element_target (λ x. x)) (expression_target (λ x. x) (λ x. x) (λ x. x) (λ x. x) (λ x. x) (λ x. x) (λ x. x) (λ x. x) (λ x. x)) (λ x. tt) (λ x. tt) (λ x. tt) link_target (λ x. tt) (λ x. tt) (pattern_target (λ x. x)) (property_target_of (λ x. x) (λ x. x)) (λ x. tt) (λ x. x.span.begin) (λ x. tt) (λ x. tt) (λ x. tt) (λ x. x.span.begin) (λ x. tt) (λ x. tt) (λ x. x.span.begin) (λ x. x.span.begin) (λ x. tt) (λ x. tt) (λ x. x.span.begin) (λ x. tt) (layer.SuperMember span name)

pub as_target-Literal : (span : Span) (value : Literal) → as_target (expr.Literal span value) ≡ no_target span.begin
as_target-Literal span value =
    ap as_target (sym (expr.rolls-Literal span value)) ∙ fold-roll-Expression AsElement (Unit {0}) (Unit {0}) AsElement AsTarget (Unit {0}) (Unit {0}) (Unit {0}) Bool (Unit {0}) (Unit {0}) (Option ℕ) (Option ℕ) (Unit {0}) ℕ (Unit {0}) (Unit {0}) (Unit {0}) ℕ (Unit {0}) (Unit {0}) ℕ ℕ (Unit {0}) (Unit {0}) ℕ (Unit {0})
    (argument_target (λ x. x)) (λ x. tt) (λ x. tt) (element_target (λ x. x)) (expression_target (λ x. x) (λ x. x) (λ x. x) (λ x. x) (λ x. x) (λ x. x) (λ x. x) (λ x. x) (λ x. x)) (λ x. tt) (λ x. tt) (λ x. tt) link_target (λ x. tt) (λ x. tt) (pattern_target (λ x. x)) (property_target_of (λ x. x) (λ x. x)) (λ x. tt) (λ x. x.span.begin) (λ x. tt) (λ x. tt) (λ x. tt) (λ x. x.span.begin) (λ x. tt) (λ x. tt) (λ x. x.span.begin) (λ x. x.span.begin) (λ x. tt) (λ x. tt) (λ x. x.span.begin) (λ x. tt) (layer.Literal span value)

pub as_target-Chain : (span : Span) (head : Expression) (links : List Link) → as_target (expr.Chain span head links) ≡ cond (ends_in_access (map (λ x. x) (map is_access links))) (property_target span) (no_target span.begin)
as_target-Chain span head links =
    ap as_target (sym (expr.rolls-Chain span head links)) ∙ fold-roll-Expression AsElement (Unit {0}) (Unit {0}) AsElement AsTarget (Unit {0}) (Unit {0}) (Unit {0}) Bool (Unit {0}) (Unit {0}) (Option ℕ) (Option ℕ) (Unit {0}) ℕ (Unit {0}) (Unit {0}) (Unit {0}) ℕ (Unit {0}) (Unit {0}) ℕ ℕ (Unit {0}) (Unit {0}) ℕ (Unit {0})
    (argument_target (λ x. x)) (λ x. tt) (λ x. tt) (element_target (λ x. x)) (expression_target (λ x. x) (λ x. x) (λ x. x) (λ x. x) (λ x. x) (λ x. x) (λ x. x) (λ x. x) (λ x. x)) (λ x. tt) (λ x. tt) (λ x. tt) link_target (λ x. tt) (λ x. tt) (pattern_target (λ x. x)) (property_target_of (λ x. x) (λ x. x)) (λ x. tt) (λ x. x.span.begin) (λ x. tt) (λ x. tt) (λ x. tt) (λ x. x.span.begin) (λ x. tt) (λ x. tt) (λ x. x.span.begin) (λ x. x.span.begin) (λ x. tt) (λ x. tt) (λ x. x.span.begin) (λ x. tt) (layer.Chain span head links)

pub as_target-ArrayList : (span : Span) (elements : List Element) (comma : Bool) → as_target (expr.ArrayList span elements comma) ≡ literal_target span (elements_misfit comma (map (λ x. x) (map as_element elements)))
as_target-ArrayList span elements comma =
    ap as_target (sym (expr.rolls-ArrayList span elements comma)) ∙ fold-roll-Expression AsElement (Unit {0}) (Unit {0}) AsElement AsTarget (Unit {0}) (Unit {0}) (Unit {0}) Bool (Unit {0}) (Unit {0}) (Option ℕ) (Option ℕ) (Unit {0}) ℕ (Unit {0}) (Unit {0}) (Unit {0}) ℕ (Unit {0}) (Unit {0}) ℕ ℕ (Unit {0}) (Unit {0}) ℕ (Unit {0})
    (argument_target (λ x. x)) (λ x. tt) (λ x. tt) (element_target (λ x. x)) (expression_target (λ x. x) (λ x. x) (λ x. x) (λ x. x) (λ x. x) (λ x. x) (λ x. x) (λ x. x) (λ x. x)) (λ x. tt) (λ x. tt) (λ x. tt) link_target (λ x. tt) (λ x. tt) (pattern_target (λ x. x)) (property_target_of (λ x. x) (λ x. x)) (λ x. tt) (λ x. x.span.begin) (λ x. tt) (λ x. tt) (λ x. tt) (λ x. x.span.begin) (λ x. tt) (λ x. tt) (λ x. x.span.begin) (λ x. x.span.begin) (λ x. tt) (λ x. tt) (λ x. x.span.begin) (λ x. tt) (layer.ArrayList span elements comma)

pub as_target-ObjectList : (span : Span) (properties : List Property) → as_target (expr.ObjectList span properties) ≡ literal_target span (first_misfit (map (λ x. x) (map property_misfit properties)))
as_target-ObjectList span properties =
    ap as_target (sym (expr.rolls-ObjectList span properties)) ∙ fold-roll-Expression AsElement (Unit {0}) (Unit {0}) AsElement AsTarget (Unit {0}) (Unit {0}) (Unit {0}) Bool (Unit {0}) (Unit {0}) (Option ℕ) (Option ℕ) (Unit {0}) ℕ (Unit {0}) (Unit {0}) (Unit {0}) ℕ (Unit {0}) (Unit {0}) ℕ ℕ (Unit {0}) (Unit {0}) ℕ (Unit {0})
    (argument_target (λ x. x)) (λ x. tt) (λ x. tt) (element_target (λ x. x)) (expression_target (λ x. x) (λ x. x) (λ x. x) (λ x. x) (λ x. x) (λ x. x) (λ x. x) (λ x. x) (λ x. x)) (λ x. tt) (λ x. tt) (λ x. tt) link_target (λ x. tt) (λ x. tt) (pattern_target (λ x. x)) (property_target_of (λ x. x) (λ x. x)) (λ x. tt) (λ x. x.span.begin) (λ x. tt) (λ x. tt) (λ x. tt) (λ x. x.span.begin) (λ x. tt) (λ x. tt) (λ x. x.span.begin) (λ x. x.span.begin) (λ x. tt) (λ x. tt) (λ x. x.span.begin) (λ x. tt) (layer.ObjectList span properties)

pub is_access-Member : (span : Span) (name : Identifier) → is_access (link.Member span name) ≡ true
is_access-Member span name =
    ap is_access (sym (link.rolls-Member span name)) ∙ fold-roll-Link AsElement (Unit {0}) (Unit {0}) AsElement AsTarget (Unit {0}) (Unit {0}) (Unit {0}) Bool (Unit {0}) (Unit {0}) (Option ℕ) (Option ℕ) (Unit {0}) ℕ (Unit {0}) (Unit {0}) (Unit {0}) ℕ (Unit {0}) (Unit {0}) ℕ ℕ (Unit {0}) (Unit {0}) ℕ (Unit {0})
    (argument_target (λ x. x)) (λ x. tt) (λ x. tt) (element_target (λ x. x)) (expression_target (λ x. x) (λ x. x) (λ x. x) (λ x. x) (λ x. x) (λ x. x) (λ x. x) (λ x. x) (λ x. x)) (λ x. tt) (λ x. tt) (λ x. tt) link_target (λ x. tt) (λ x. tt) (pattern_target (λ x. x)) (property_target_of (λ x. x) (λ x. x)) (λ x. tt) (λ x. x.span.begin) (λ x. tt) (λ x. tt) (λ x. tt) (λ x. x.span.begin) (λ x. tt) (λ x. tt) (λ x. x.span.begin) (λ x. x.span.begin) (λ x. tt) (λ x. tt) (λ x. x.span.begin) (λ x. tt) (layer.Member span name)

pub is_access-Index : (span : Span) (x : Expression) → is_access (link.Index span x) ≡ true
is_access-Index span x =
    ap is_access (sym (link.rolls-Index span x)) ∙ fold-roll-Link AsElement (Unit {0}) (Unit {0}) AsElement AsTarget (Unit {0}) (Unit {0}) (Unit {0}) Bool (Unit {0}) (Unit {0}) (Option ℕ) (Option ℕ) (Unit {0}) ℕ (Unit {0}) (Unit {0}) (Unit {0}) ℕ (Unit {0}) (Unit {0}) ℕ ℕ (Unit {0}) (Unit {0}) ℕ (Unit {0})
    (argument_target (λ x. x)) (λ x. tt) (λ x. tt) (element_target (λ x. x)) (expression_target (λ x. x) (λ x. x) (λ x. x) (λ x. x) (λ x. x) (λ x. x) (λ x. x) (λ x. x) (λ x. x)) (λ x. tt) (λ x. tt) (λ x. tt) link_target (λ x. tt) (λ x. tt) (pattern_target (λ x. x)) (property_target_of (λ x. x) (λ x. x)) (λ x. tt) (λ x. x.span.begin) (λ x. tt) (λ x. tt) (λ x. tt) (λ x. x.span.begin) (λ x. tt) (λ x. tt) (λ x. x.span.begin) (λ x. x.span.begin) (λ x. tt) (λ x. tt) (λ x. x.span.begin) (λ x. tt) (layer.Index span x)

pub is_access-Call : (span : Span) (xs : List Argument) → is_access (link.Call span xs) ≡ false
is_access-Call span xs =
    ap is_access (sym (link.rolls-Call span xs)) ∙ fold-roll-Link AsElement (Unit {0}) (Unit {0}) AsElement AsTarget (Unit {0}) (Unit {0}) (Unit {0}) Bool (Unit {0}) (Unit {0}) (Option ℕ) (Option ℕ) (Unit {0}) ℕ (Unit {0}) (Unit {0}) (Unit {0}) ℕ (Unit {0}) (Unit {0}) ℕ ℕ (Unit {0}) (Unit {0}) ℕ (Unit {0})
    (argument_target (λ x. x)) (λ x. tt) (λ x. tt) (element_target (λ x. x)) (expression_target (λ x. x) (λ x. x) (λ x. x) (λ x. x) (λ x. x) (λ x. x) (λ x. x) (λ x. x) (λ x. x)) (λ x. tt) (λ x. tt) (λ x. tt) link_target (λ x. tt) (λ x. tt) (pattern_target (λ x. x)) (property_target_of (λ x. x) (λ x. x)) (λ x. tt) (λ x. x.span.begin) (λ x. tt) (λ x. tt) (λ x. tt) (λ x. x.span.begin) (λ x. tt) (λ x. tt) (λ x. x.span.begin) (λ x. x.span.begin) (λ x. tt) (λ x. tt) (λ x. x.span.begin) (λ x. tt) (layer.Call span xs)

pub as_argument-Single : (x : Expression) → as_argument (argument.Single x) ≡ OneElement (as_target x).part_misfit
as_argument-Single x =
    ap as_argument (sym (argument.rolls-Single x)) ∙ fold-roll-Argument AsElement (Unit {0}) (Unit {0}) AsElement AsTarget (Unit {0}) (Unit {0}) (Unit {0}) Bool (Unit {0}) (Unit {0}) (Option ℕ) (Option ℕ) (Unit {0}) ℕ (Unit {0}) (Unit {0}) (Unit {0}) ℕ (Unit {0}) (Unit {0}) ℕ ℕ (Unit {0}) (Unit {0}) ℕ (Unit {0})
    (argument_target (λ x. x)) (λ x. tt) (λ x. tt) (element_target (λ x. x)) (expression_target (λ x. x) (λ x. x) (λ x. x) (λ x. x) (λ x. x) (λ x. x) (λ x. x) (λ x. x) (λ x. x)) (λ x. tt) (λ x. tt) (λ x. tt) link_target (λ x. tt) (λ x. tt) (pattern_target (λ x. x)) (property_target_of (λ x. x) (λ x. x)) (λ x. tt) (λ x. x.span.begin) (λ x. tt) (λ x. tt) (λ x. tt) (λ x. x.span.begin) (λ x. tt) (λ x. tt) (λ x. x.span.begin) (λ x. x.span.begin) (λ x. tt) (λ x. tt) (λ x. x.span.begin) (λ x. tt) (layer.Single x)

pub as_argument-Spread : (span : Span) (x : Expression) → as_argument (argument.Spread span x) ≡ LastElement span.begin (as_target x).target_misfit
as_argument-Spread span x =
    ap as_argument (sym (argument.rolls-Spread span x)) ∙ fold-roll-Argument AsElement (Unit {0}) (Unit {0}) AsElement AsTarget (Unit {0}) (Unit {0}) (Unit {0}) Bool (Unit {0}) (Unit {0}) (Option ℕ) (Option ℕ) (Unit {0}) ℕ (Unit {0}) (Unit {0}) (Unit {0}) ℕ (Unit {0}) (Unit {0}) ℕ ℕ (Unit {0}) (Unit {0}) ℕ (Unit {0})
    (argument_target (λ x. x)) (λ x. tt) (λ x. tt) (element_target (λ x. x)) (expression_target (λ x. x) (λ x. x) (λ x. x) (λ x. x) (λ x. x) (λ x. x) (λ x. x) (λ x. x) (λ x. x)) (λ x. tt) (λ x. tt) (λ x. tt) link_target (λ x. tt) (λ x. tt) (pattern_target (λ x. x)) (property_target_of (λ x. x) (λ x. x)) (λ x. tt) (λ x. x.span.begin) (λ x. tt) (λ x. tt) (λ x. tt) (λ x. x.span.begin) (λ x. tt) (λ x. tt) (λ x. x.span.begin) (λ x. x.span.begin) (λ x. tt) (λ x. tt) (λ x. x.span.begin) (λ x. tt) (layer.Spread span x)

pub as_element-Hole : as_element (element.Hole) ≡ NoElement
as_element-Hole =
    ap as_element (sym element.rolls-Hole) ∙ fold-roll-Element AsElement (Unit {0}) (Unit {0}) AsElement AsTarget (Unit {0}) (Unit {0}) (Unit {0}) Bool (Unit {0}) (Unit {0}) (Option ℕ) (Option ℕ) (Unit {0}) ℕ (Unit {0}) (Unit {0}) (Unit {0}) ℕ (Unit {0}) (Unit {0}) ℕ ℕ (Unit {0}) (Unit {0}) ℕ (Unit {0})
    (argument_target (λ x. x)) (λ x. tt) (λ x. tt) (element_target (λ x. x)) (expression_target (λ x. x) (λ x. x) (λ x. x) (λ x. x) (λ x. x) (λ x. x) (λ x. x) (λ x. x) (λ x. x)) (λ x. tt) (λ x. tt) (λ x. tt) link_target (λ x. tt) (λ x. tt) (pattern_target (λ x. x)) (property_target_of (λ x. x) (λ x. x)) (λ x. tt) (λ x. x.span.begin) (λ x. tt) (λ x. tt) (λ x. tt) (λ x. x.span.begin) (λ x. tt) (λ x. tt) (λ x. x.span.begin) (λ x. x.span.begin) (λ x. tt) (λ x. tt) (λ x. x.span.begin) (λ x. tt) layer.Hole

pub as_element-Present : (x : Argument) → as_element (element.Present x) ≡ as_argument x
as_element-Present x =
    ap as_element (sym (element.rolls-Present x)) ∙ fold-roll-Element AsElement (Unit {0}) (Unit {0}) AsElement AsTarget (Unit {0}) (Unit {0}) (Unit {0}) Bool (Unit {0}) (Unit {0}) (Option ℕ) (Option ℕ) (Unit {0}) ℕ (Unit {0}) (Unit {0}) (Unit {0}) ℕ (Unit {0}) (Unit {0}) ℕ ℕ (Unit {0}) (Unit {0}) ℕ (Unit {0})
    (argument_target (λ x. x)) (λ x. tt) (λ x. tt) (element_target (λ x. x)) (expression_target (λ x. x) (λ x. x) (λ x. x) (λ x. x) (λ x. x) (λ x. x) (λ x. x) (λ x. x) (λ x. x)) (λ x. tt) (λ x. tt) (λ x. tt) link_target (λ x. tt) (λ x. tt) (pattern_target (λ x. x)) (property_target_of (λ x. x) (λ x. x)) (λ x. tt) (λ x. x.span.begin) (λ x. tt) (λ x. tt) (λ x. tt) (λ x. x.span.begin) (λ x. tt) (λ x. tt) (λ x. x.span.begin) (λ x. x.span.begin) (λ x. tt) (λ x. tt) (λ x. x.span.begin) (λ x. tt) (layer.Present x)

pub pattern_misfit-Target : (x : Expression) → pattern_misfit (pattern.Target x) ≡ (as_target x).target_misfit
pattern_misfit-Target x =
    ap pattern_misfit (sym (pattern.rolls-Target x)) ∙ fold-roll-Pattern AsElement (Unit {0}) (Unit {0}) AsElement AsTarget (Unit {0}) (Unit {0}) (Unit {0}) Bool (Unit {0}) (Unit {0}) (Option ℕ) (Option ℕ) (Unit {0}) ℕ (Unit {0}) (Unit {0}) (Unit {0}) ℕ (Unit {0}) (Unit {0}) ℕ ℕ (Unit {0}) (Unit {0}) ℕ (Unit {0})
    (argument_target (λ x. x)) (λ x. tt) (λ x. tt) (element_target (λ x. x)) (expression_target (λ x. x) (λ x. x) (λ x. x) (λ x. x) (λ x. x) (λ x. x) (λ x. x) (λ x. x) (λ x. x)) (λ x. tt) (λ x. tt) (λ x. tt) link_target (λ x. tt) (λ x. tt) (pattern_target (λ x. x)) (property_target_of (λ x. x) (λ x. x)) (λ x. tt) (λ x. x.span.begin) (λ x. tt) (λ x. tt) (λ x. tt) (λ x. x.span.begin) (λ x. tt) (λ x. tt) (λ x. x.span.begin) (λ x. x.span.begin) (λ x. tt) (λ x. tt) (λ x. x.span.begin) (λ x. tt) (layer.Target x)

pub property_misfit-Plain : (span : Span) (key : Key) (x : Expression) → property_misfit (property.Plain span key x) ≡ (as_target x).part_misfit
property_misfit-Plain span key x =
    ap property_misfit (sym (property.rolls-Plain span key x)) ∙ fold-roll-Property AsElement (Unit {0}) (Unit {0}) AsElement AsTarget (Unit {0}) (Unit {0}) (Unit {0}) Bool (Unit {0}) (Unit {0}) (Option ℕ) (Option ℕ) (Unit {0}) ℕ (Unit {0}) (Unit {0}) (Unit {0}) ℕ (Unit {0}) (Unit {0}) ℕ ℕ (Unit {0}) (Unit {0}) ℕ (Unit {0})
    (argument_target (λ x. x)) (λ x. tt) (λ x. tt) (element_target (λ x. x)) (expression_target (λ x. x) (λ x. x) (λ x. x) (λ x. x) (λ x. x) (λ x. x) (λ x. x) (λ x. x) (λ x. x)) (λ x. tt) (λ x. tt) (λ x. tt) link_target (λ x. tt) (λ x. tt) (pattern_target (λ x. x)) (property_target_of (λ x. x) (λ x. x)) (λ x. tt) (λ x. x.span.begin) (λ x. tt) (λ x. tt) (λ x. tt) (λ x. x.span.begin) (λ x. tt) (λ x. tt) (λ x. x.span.begin) (λ x. x.span.begin) (λ x. tt) (λ x. tt) (λ x. x.span.begin) (λ x. tt) (layer.Plain span key x)

pub property_misfit-Shorthand : (span : Span) (name : List ℕ) → property_misfit (property.Shorthand span name) ≡ None
property_misfit-Shorthand span name =
    ap property_misfit (sym (property.rolls-Shorthand span name)) ∙ fold-roll-Property AsElement (Unit {0}) (Unit {0}) AsElement AsTarget (Unit {0}) (Unit {0}) (Unit {0}) Bool (Unit {0}) (Unit {0}) (Option ℕ) (Option ℕ) (Unit {0}) ℕ (Unit {0}) (Unit {0}) (Unit {0}) ℕ (Unit {0}) (Unit {0}) ℕ ℕ (Unit {0}) (Unit {0}) ℕ (Unit {0})
    (argument_target (λ x. x)) (λ x. tt) (λ x. tt) (element_target (λ x. x)) (expression_target (λ x. x) (λ x. x) (λ x. x) (λ x. x) (λ x. x) (λ x. x) (λ x. x) (λ x. x) (λ x. x)) (λ x. tt) (λ x. tt) (λ x. tt) link_target (λ x. tt) (λ x. tt) (pattern_target (λ x. x)) (property_target_of (λ x. x) (λ x. x)) (λ x. tt) (λ x. x.span.begin) (λ x. tt) (λ x. tt) (λ x. tt) (λ x. x.span.begin) (λ x. tt) (λ x. tt) (λ x. x.span.begin) (λ x. x.span.begin) (λ x. tt) (λ x. tt) (λ x. x.span.begin) (λ x. tt) (layer.Shorthand span name)
