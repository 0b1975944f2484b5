-- What an expression is as a target: whether it is a simple one (ECMA-262, 6th edition, 12.14.1 and the rules that it cites),
-- and which of its parts no AssignmentPattern spells (12.14.5).
use Rattle.std.specs.Prelude.{ℕ, Bool, true, false, ◌&&◌, List, [], ◌∷◌, cond, Option, Some, None, is_none, map}
use Rattle.es_text.specs.declared.Span.{Span}
use Rattle.es6_ast.specs.declared.operators.AssignOperator.{AssignOperator}
use Rattle.es6_ast.specs.declared.operators.AssignOperator.TheVariants as assign
use Rattle.es6_ast.specs.declared.tree.Identifier.{Identifier}
use Rattle.es6_ast.specs.declared.tree.Expression.{Expression, fold-Expression}
use Rattle.es6_ast.specs.declared.tree.Argument.TheOpen as layer
use Rattle.es6_ast.specs.declared.tree.Argument.TheOpen.{Argument-F, Element-F, Expression-F, Link-F, Pattern-F, Property-F, Arrow-F, Class-F, Function-F, Method-F, Template-F}

-- An expression: where it begins, whether it is a simple target, whether it is an array or object literal, the name or the
-- `super` that it is, in parentheses too, and the first part that no pattern spells, without a default of its own and with one.
pub record AsTarget : Type 0 where
  pub begin : ℕ
  pub simple : Bool
  pub literal : Bool
  pub name : Option Identifier
  pub of_super : Option ℕ
  pub target_misfit : Option ℕ
  pub part_misfit : Option ℕ

-- an element of an array literal: a hole, an element with its first misfit, or a spread with its place and first misfit
pub data AsElement : Type 0 where
  NoElement : AsElement
  OneElement : Option ℕ → AsElement
  LastElement : ℕ → Option ℕ → AsElement

abbrev pub property_target : Span → AsTarget
property_target span = record { begin = span.begin; simple = true; literal = false; name = None; of_super = None; target_misfit = None; part_misfit = None }

abbrev pub name_target : Span → List ℕ → AsTarget
name_target span name = record (property_target span) { name = Some (record { span = span; name = name }) }

abbrev pub super_target : Span → AsTarget
super_target span = record (property_target span) { of_super = Some span.begin }

abbrev pub no_target : ℕ → AsTarget
no_target at = record { begin = at; simple = false; literal = false; name = None; of_super = None; target_misfit = Some at; part_misfit = Some at }

abbrev pub literal_target : Span → Option ℕ → AsTarget
literal_target span misfit = record { begin = span.begin; simple = false; literal = true; name = None; of_super = None; target_misfit = misfit; part_misfit = misfit }

abbrev pub group_target : Span → AsTarget → AsTarget
group_target span held =
    let misfit = cond held.simple None (Some span.begin) in
    record { begin = span.begin; simple = held.simple; literal = false; name = held.name; of_super = held.of_super; target_misfit = misfit; part_misfit = misfit }

abbrev pub first_of_two : Option ℕ → Option ℕ → Option ℕ
first_of_two None later = later
first_of_two (Some at) later = Some at

abbrev pub first_misfit : List (Option ℕ) → Option ℕ
first_misfit [] = None
first_misfit (m ∷ ms) = first_of_two m (first_misfit ms)

-- a spread fits as the last element alone, and no comma follows it
abbrev pub elements_misfit : Bool → List AsElement → Option ℕ
elements_misfit comma [] = None
elements_misfit comma (NoElement ∷ es) = elements_misfit comma es
elements_misfit comma (OneElement m ∷ es) = first_of_two m (elements_misfit comma es)
elements_misfit comma (LastElement at m ∷ []) = cond comma (Some at) m
elements_misfit comma (LastElement at m ∷ e ∷ es) = Some at

-- whether the last link is an access
abbrev pub ends_in_access : List Bool → Bool
ends_in_access [] = false
ends_in_access (l ∷ []) = l
ends_in_access (l ∷ m ∷ ls) = ends_in_access (m ∷ ls)

abbrev pub with_default : AssignOperator → AsTarget → Option ℕ → AsTarget
with_default assign.Assign x misfit = record x { part_misfit = misfit }
with_default _ x misfit = x

-- What an expression is, by what its parts give: elements, expressions, links (whether they are accesses), patterns and
-- properties (their first misfit), and arrows, classes, functions and templates (where they begin).
abbrev pub expression_target : {A1 A2 A3 A4 A5 A6 A7 A8 A9 A10 A11 A12 A13 A14 A15 A16 A17 A18 A19 A20 A21 A22 A23 A24 A25 A26 A27 : Type 0} → (A4 → AsElement) → (A5 → AsTarget) → (A9 → Bool) → (A12 → Option ℕ) → (A13 → Option ℕ) → (A15 → ℕ) → (A19 → ℕ) → (A22 → ℕ) → (A26 → ℕ) → Expression-F A1 A2 A3 A4 A5 A6 A7 A8 A9 A10 A11 A12 A13 A14 A15 A16 A17 A18 A19 A20 A21 A22 A23 A24 A25 A26 A27 → AsTarget
expression_target el ex li pa pr ar cl fu te (layer.This span) = no_target span.begin
expression_target el ex li pa pr ar cl fu te (layer.Name span name) = name_target span name
expression_target el ex li pa pr ar cl fu te (layer.Literal span value) = no_target span.begin
expression_target el ex li pa pr ar cl fu te (layer.Template x) = no_target (te x)
expression_target el ex li pa pr ar cl fu te (layer.ArrayList span elements comma) = literal_target span (elements_misfit comma (map el elements))
expression_target el ex li pa pr ar cl fu te (layer.ObjectList span properties) = literal_target span (first_misfit (map pr properties))
expression_target el ex li pa pr ar cl fu te (layer.Function x) = no_target (fu x)
expression_target el ex li pa pr ar cl fu te (layer.Arrow x) = no_target (ar x)
expression_target el ex li pa pr ar cl fu te (layer.Class x) = no_target (cl x)
expression_target el ex li pa pr ar cl fu te (layer.Chain span head links) = cond (ends_in_access (map li links)) (property_target span) (no_target span.begin)
expression_target el ex li pa pr ar cl fu te (layer.SuperMember span name) = super_target span
expression_target el ex li pa pr ar cl fu te (layer.SuperIndex span index) = super_target span
expression_target el ex li pa pr ar cl fu te (layer.SuperCall span arguments) = no_target span.begin
expression_target el ex li pa pr ar cl fu te (layer.NewTarget span) = no_target span.begin
expression_target el ex li pa pr ar cl fu te (layer.New span callee arguments) = no_target span.begin
expression_target el ex li pa pr ar cl fu te (layer.Update span operator target) = no_target span.begin
expression_target el ex li pa pr ar cl fu te (layer.Unary span operator operand) = no_target span.begin
expression_target el ex li pa pr ar cl fu te (layer.Power span base exponent) = no_target span.begin
expression_target el ex li pa pr ar cl fu te (layer.Binary span first rest) = no_target span.begin
expression_target el ex li pa pr ar cl fu te (layer.Conditional span test yes_ no_) = no_target span.begin
expression_target el ex li pa pr ar cl fu te (layer.Assign span operator target value) = with_default operator (no_target span.begin) (pa target)
expression_target el ex li pa pr ar cl fu te (layer.Sequence span first rest) = no_target span.begin
expression_target el ex li pa pr ar cl fu te (layer.Yield span value) = no_target span.begin
expression_target el ex li pa pr ar cl fu te (layer.Delegate span value) = no_target span.begin
expression_target el ex li pa pr ar cl fu te (layer.Group span held) = group_target span (ex held)
expression_target el ex li pa pr ar cl fu te (layer.Cover span held rest) = no_target span.begin

-- the other parts
abbrev pub argument_target : {A1 A2 A3 A4 A5 A6 A7 A8 A9 A10 A11 A12 A13 A14 A15 A16 A17 A18 A19 A20 A21 A22 A23 A24 A25 A26 A27 : Type 0} → (A5 → AsTarget) → Argument-F A1 A2 A3 A4 A5 A6 A7 A8 A9 A10 A11 A12 A13 A14 A15 A16 A17 A18 A19 A20 A21 A22 A23 A24 A25 A26 A27 → AsElement
argument_target ex (layer.Single x) = OneElement (ex x).part_misfit
argument_target ex (layer.Spread span x) = LastElement span.begin (ex x).target_misfit

abbrev pub element_target : {A1 A2 A3 A4 A5 A6 A7 A8 A9 A10 A11 A12 A13 A14 A15 A16 A17 A18 A19 A20 A21 A22 A23 A24 A25 A26 A27 : Type 0} → (A1 → AsElement) → Element-F A1 A2 A3 A4 A5 A6 A7 A8 A9 A10 A11 A12 A13 A14 A15 A16 A17 A18 A19 A20 A21 A22 A23 A24 A25 A26 A27 → AsElement
element_target ar layer.Hole = NoElement
element_target ar (layer.Present a) = ar a

abbrev pub link_target : {A1 A2 A3 A4 A5 A6 A7 A8 A9 A10 A11 A12 A13 A14 A15 A16 A17 A18 A19 A20 A21 A22 A23 A24 A25 A26 A27 : Type 0} → Link-F A1 A2 A3 A4 A5 A6 A7 A8 A9 A10 A11 A12 A13 A14 A15 A16 A17 A18 A19 A20 A21 A22 A23 A24 A25 A26 A27 → Bool
link_target (layer.Member span name) = true
link_target (layer.Index span index) = true
link_target (layer.Call span arguments) = false
link_target (layer.Tagged m) = false

abbrev pub pattern_target : {A1 A2 A3 A4 A5 A6 A7 A8 A9 A10 A11 A12 A13 A14 A15 A16 A17 A18 A19 A20 A21 A22 A23 A24 A25 A26 A27 : Type 0} → (A5 → AsTarget) → Pattern-F A1 A2 A3 A4 A5 A6 A7 A8 A9 A10 A11 A12 A13 A14 A15 A16 A17 A18 A19 A20 A21 A22 A23 A24 A25 A26 A27 → Option ℕ
pattern_target ex (layer.Target x) = (ex x).target_misfit
pattern_target ex (layer.ArrayPattern span parts) = None
pattern_target ex (layer.ObjectPattern span parts) = None

abbrev pub property_target_of : {A1 A2 A3 A4 A5 A6 A7 A8 A9 A10 A11 A12 A13 A14 A15 A16 A17 A18 A19 A20 A21 A22 A23 A24 A25 A26 A27 : Type 0} → (A5 → AsTarget) → (A23 → ℕ) → Property-F A1 A2 A3 A4 A5 A6 A7 A8 A9 A10 A11 A12 A13 A14 A15 A16 A17 A18 A19 A20 A21 A22 A23 A24 A25 A26 A27 → Option ℕ
property_target_of ex me (layer.Plain span key value) = (ex value).part_misfit
property_target_of ex me (layer.Shorthand span name) = None
property_target_of ex me (layer.Initialized span name equals value) = None
property_target_of ex me (layer.Defined m) = Some (me m)

-- What each node of a tree gives; those that are no part of a target give nothing.
abbrev pub as_target : Expression → AsTarget
as_target =
    fold-Expression AsElement (Unit {0}) (Unit {0}) AsElement AsTarget (Unit {0}) (Unit {0}) (Unit {0}) Bool (Unit {0}) (Unit {0}) (Option ℕ) (Option ℕ) (Unit {0}) ℕ (Unit {0}) (Unit {0}) (Unit {0}) ℕ (Unit {0}) (Unit {0}) ℕ ℕ (Unit {0}) (Unit {0}) ℕ (Unit {0})
    (argument_target (λ x. x)) (λ x. tt) (λ x. tt) (element_target (λ x. x))
    (expression_target (λ x. x) (λ x. x) (λ x. x) (λ x. x) (λ x. x) (λ x. x) (λ x. x) (λ x. x) (λ x. x))
    (λ x. tt) (λ x. tt) (λ x. tt) link_target (λ x. tt) (λ x. tt) (pattern_target (λ x. x)) (property_target_of (λ x. x) (λ x. x)) (λ x. tt)
    (λ x. x.span.begin) (λ x. tt) (λ x. tt) (λ x. tt) (λ x. x.span.begin) (λ x. tt) (λ x. tt) (λ x. x.span.begin) (λ x. x.span.begin) (λ x. tt) (λ x. tt) (λ x. x.span.begin) (λ x. tt)

-- IsValidSimpleAssignmentTarget, groups included
abbrev pub is_simple : Expression → Bool
is_simple x = (as_target x).simple

-- the first part that no pattern spells, if there is one
abbrev pub misfit : Expression → Option ℕ
misfit x = (as_target x).target_misfit

-- an array or object literal that a pattern spells too
abbrev pub is_pattern : Expression → Bool
is_pattern x = (as_target x).literal && is_none (misfit x)
