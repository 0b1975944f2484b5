-- Expressions in which no function, class or object literal and no pattern with parts stands are lowered to lawful ones.
use Rattle.std.proofs.Common.{◌≡◌, ℕ, Bool, true, false, List, ◌∷◌, map, Option, None, Some, refl, sym, subst}
use Rattle.std.proofs.lemmas.Bool.{false≢true}
use Rattle.es6_ast.specs.declared.operators.Literal.{Literal}
use Rattle.es6_ast.specs.declared.operators.Literal.TheVariants as literal
use Rattle.es6_ast.specs.declared.tree.Argument.{Argument, roll-Argument}
use Rattle.es6_ast.specs.declared.tree.Argument.TheOpen as layer
use Rattle.es6_ast.specs.declared.tree.Argument.TheOpen.{Argument-F, Element-F, Expression-F, Link-F, Pattern-F}
use Rattle.es6_ast.specs.declared.tree.Argument.TheVariants as argument
use Rattle.es6_ast.specs.declared.tree.Element.{Element, roll-Element}
use Rattle.es6_ast.specs.declared.tree.Element.TheVariants as element
use Rattle.es6_ast.specs.declared.tree.Expression.{Expression, roll-Expression}
use Rattle.es6_ast.specs.declared.tree.Expression.TheVariants as x
use Rattle.es6_ast.specs.declared.tree.Identifier.{Identifier}
use Rattle.es6_ast.specs.declared.tree.Link.{Link, roll-Link}
use Rattle.es6_ast.specs.declared.tree.Link.TheVariants as link
use Rattle.es6_ast.specs.declared.tree.Operand.{Operand}
use Rattle.es6_ast.specs.declared.tree.Pattern.{Pattern, roll-Pattern}
use Rattle.es6_ast.specs.declared.tree.Pattern.TheVariants as pattern
use Rattle.es6_ast.specs.declared.tree.Template.{roll-Template}
use Rattle.es6_ast.specs.declared.tree.TemplatePart.{TemplatePart}
use Rattle.core_ast.specs.declared.parts.CoreHead.TheVariants as head
use Rattle.core_ast.specs.Lawful.{Round, head_lawful}
use Rattle.lowering_laws.specs.InRound.{part_lawful}
use Rattle.lowering_rules.specs.declared.expressions.ListPart.{ListPart}
use Rattle.lowering_rules.specs.declared.reference_rules.references.Reached.{Reached}
use Rattle.module_lowering.specs.Bindings.{Bindings, found}
use Rattle.module_lowering.specs.Expressions as m
use Rattle.module_lowering.specs.Lowered.{argument_lowered, element_lowered, expression_lowered, link_lowered, operand_lowered, pattern_lowered, template_part_lowered}
use Rattle.module_lowering.specs.Lowering.{Lowering}
use Rattle.module_lowering.specs.Names.{name_lowered, units_of}
use Rattle.module_lowering.specs.Nodes.{Expressed, Linked, Operated, Templated, TemplateParted}
use Rattle.module_lowering.specs.Patterns.{pattern_step}
use Rattle.module_lowering.specs.declared.context.Context.{Context}
use Rattle.lowered_cores_are_lawful.specs.Conditions.{finds_host}
use Rattle.lowered_cores_are_lawful.specs.Fits as fits
use Rattle.lowered_cores_are_lawful.specs.Fits.{AllFit, ArgumentFits, ArgumentsFit, ElementsFit, FitLaw, Fits, LinksFit, OperandsFit, PartsFit, literal_safe}
use Rattle.lowered_cores_are_lawful.specs.Nodes.{ExpressedIs, FormIs, LinkedIs, MayBeCalled, OperatedIs, PatternedIs, ReachedIs, Reaches, ValueMakes, a_value}
use Rattle.lowered_cores_are_lawful.specs.Standing.{Every, IfThere, Makes, Of}
use Rattle.lowered_cores_are_lawful.proofs.Expressions as e
use Rattle.lowered_cores_are_lawful.proofs.Patterns.{one_target_is}
use Rattle.lowered_cores_are_lawful.proofs.Making.{giving}
use Rattle.lowered_cores_are_lawful.proofs.Rolled.{Trees, argument_rolled, element_rolled, expression_rolled, in_argument, in_element, in_expression, in_link, in_pattern, link_rolled, operand_rolled, pattern_rolled, template_part_rolled, template_rolled}

-- ## By their layers

over : (b : Bindings) (c : Context) (r : Round) (i : Bool) (y : Trees Expression-F) (v : Expression) → roll-Expression y ≡ v → ExpressedIs b c r i (m.expression_step (in_expression y)) → ExpressedIs b c r i (expression_lowered v)
over b c r i y v p h = subst (λ w. ExpressedIs b c r i (expression_lowered w)) p (subst (λ w. ExpressedIs b c r i w) (sym (expression_rolled y)) h)

argument_over : (b : Bindings) (c : Context) (r : Round) (y : Trees Argument-F) (v : Argument) → roll-Argument y ≡ v → Makes (Of part_lawful) b c r (m.argument_step (in_argument y)) → Makes (Of part_lawful) b c r (argument_lowered v)
argument_over b c r y v p h = subst (λ w. Makes (Of part_lawful) b c r (argument_lowered w)) p (subst (λ w. Makes (Of part_lawful) b c r w) (sym (argument_rolled y)) h)

element_over : (b : Bindings) (c : Context) (r : Round) (y : Trees Element-F) (v : Element) → roll-Element y ≡ v → Makes (Of part_lawful) b c r (m.element_step (in_element y)) → Makes (Of part_lawful) b c r (element_lowered v)
element_over b c r y v p h = subst (λ w. Makes (Of part_lawful) b c r (element_lowered w)) p (subst (λ w. Makes (Of part_lawful) b c r w) (sym (element_rolled y)) h)

link_over : (b : Bindings) (c : Context) (r : Round) (i : Bool) (y : Trees Link-F) (v : Link) → roll-Link y ≡ v → LinkedIs b c r i (m.link_step (in_link y)) → LinkedIs b c r i (link_lowered v)
link_over b c r i y v p h = subst (λ w. LinkedIs b c r i (link_lowered w)) p (subst (λ w. LinkedIs b c r i w) (sym (link_rolled y)) h)

pattern_over : (b : Bindings) (c : Context) (r : Round) (y : Trees Pattern-F) (v : Pattern) → roll-Pattern y ≡ v → PatternedIs b c r (pattern_step (in_pattern y)) → PatternedIs b c r (pattern_lowered v)
pattern_over b c r y v p h = subst (λ w. PatternedIs b c r (pattern_lowered w)) p (subst (λ w. PatternedIs b c r w) (sym (pattern_rolled y)) h)

literal_lawful : (l : Literal) (q : Round) → literal_safe l ≡ true → head_lawful (head.Constant (m.constant_of l)) q ≡ true
literal_lawful literal.Null q h = refl
literal_lawful (literal.Truth b) q h = refl
literal_lawful (literal.Integer n) q h = h
literal_lawful (literal.Text units) q h = refl

form_is : (b : Bindings) (c : Context) (r : Round) (n : Option Identifier) (reached : Lowering Reached) → Makes ReachedIs b c r reached → IfThere (λ (x : Identifier). Makes ReachedIs b c r (name_lowered x)) n → FormIs b c r (m.form_of n reached)
form_is b c r None reached h k = h
form_is b c r (Some x) reached h k = k

target_is : (b : Bindings) (c : Context) (r : Round) (v : Expression) → Reaches b c r (expression_lowered v) → PatternedIs b c r (pattern_lowered (pattern.Target v))
target_is b c r v h =
    let X = expression_lowered v in
    pattern_over b c r (layer.Target v) _ (pattern.rolls-Target v) (one_target_is b c r X.name (m.form_of X.name X.reached) (form_is b c r X.name X.reached h.value h.name))

no_host : {A : Type 0} → false ≡ true → A
no_host h = absurd (false≢true h)

name_link : (b : Bindings) (c : Context) (r : Round) (name : List ℕ) → LinkedIs b c r false (record { member = Some name; lowered = m.member_with name })
name_link b c r name = record { behind = e.member_is b c r name; on_host = no_host }

call_link : (b : Bindings) (c : Context) (r : Round) (xs : List (Lowering ListPart)) → Every (Makes (Of part_lawful) b c r) xs → LinkedIs b c r true (m.link_of (m.called_with xs))
call_link b c r xs h = record { behind = e.call_is b c r xs h; on_host = λ i. e.host_call_is b c r xs h }

chained : (b : Bindings) (c : Context) (r : Round) (begin : ℕ) (head_ : Expressed) (ls : List Linked) → Makes ReachedIs b c r (m.chain_reached begin head_ ls) → ExpressedIs b c r false (m.chain begin head_ ls)
chained b c r begin head_ ls h = record {
  called = λ s k. giving ReachedIs MayBeCalled b c r s (m.chain_reached begin head_ ls b c s) (m.chain_reached begin head_ ls b c s).0 (h s k) (a_value (h s k).lawful);
  reaches = λ q. record { value = h; name = tt };
}

known : (b : Bindings) (c : Context) (r : Round) (i : Bool) (v : Expressed) → i ≡ false → ExpressedIs b c r i v → ExpressedIs b c r false v
known b c r i v p k = record { called = k.called; reaches = λ q. k.reaches p }

-- ## Expressions

mutual
  fit : (b : Bindings) (c : Context) (r : Round) {i : Bool} {v : Expression} → Fits b c r i v → ExpressedIs b c r i (expression_lowered v)
  fit b c r (fits.this span) = over b c r false (layer.This span) _ (x.rolls-This span) (e.value_is b c r m.this_lowered (e.this_is b c r) false)
  fit b c r (fits.name span name h) = over b c r false (layer.Name span name) _ (x.rolls-Name span name) (known b c r (finds_host b (found b c span.begin)) (m.named (record { span = span; name = name })) h (e.named_is b c r (record { span = span; name = name })))
  fit b c r (fits.host span name) =
      over b c r true (layer.Name span name) _ (x.rolls-Name span name) (record { called = (e.named_is b c r (record { span = span; name = name })).called; reaches = λ q. absurd (false≢true (sym q)) })
  fit b c r (fits.written span l h) = over b c r false (layer.Literal span l) _ (x.rolls-Literal span l) (e.value_is b c r _ (e.literal_is b c r l (λ q. literal_lawful l q h)) false)
  fit b c r (fits.template span first rest h) =
      over b c r false (layer.Template (roll-Template (record { span = span; first = first; rest = rest }))) _ (x.rolls-Template (roll-Template (record { span = span; first = first; rest = rest })))
      (subst (λ (w : Templated). ExpressedIs b c r false (m.value (m.template_value w))) (sym (template_rolled (record { span = span; first = first; rest = rest }))) (e.value_is b c r _ (e.template_is b c r (record { first = first; rest = map template_part_lowered rest }) (parts b c r h)) false))
  fit b c r (fits.array span es comma h) = over b c r false (layer.ArrayList span es comma) _ (x.rolls-ArrayList span es comma) (e.value_is b c r _ (e.array_is b c r (map element_lowered es) (elements b c r h)) false)
  fit b c r (fits.chain span v ls h k) = over b c r false (layer.Chain span v ls) _ (x.rolls-Chain span v ls) (chained b c r span.begin (expression_lowered v) (map link_lowered ls) (e.chain_is b c r span.begin (expression_lowered v) (map link_lowered ls) ((fit b c r h).reaches refl) (links b c r k)))
  fit b c r (fits.called span v at as_ ls h a k) =
      let H = expression_lowered v in let l = m.link_of (m.called_with (map argument_lowered as_)) in let Ls = map link_lowered ls in
      over b c r false (layer.Chain span v (link.Call at as_ ∷ ls)) _ (x.rolls-Chain span v (link.Call at as_ ∷ ls)) (chained b c r span.begin H (link_lowered (link.Call at as_) ∷ Ls)
      (e.called_chain_is b c r span.begin H (link_lowered (link.Call at as_)) Ls (fit b c r h).called (link_over b c r true (layer.Call at as_) _ (link.rolls-Call at as_) (call_link b c r (map argument_lowered as_) (arguments b c r a))) (links b c r k)))
  fit b c r (fits.super_member span name) = over b c r false (layer.SuperMember span name) _ (x.rolls-SuperMember span name) (e.reaching_is b c r _ (e.super_member_is b c r (units_of name.name)) false)
  fit b c r (fits.super_index span v h) = over b c r false (layer.SuperIndex span v) _ (x.rolls-SuperIndex span v) (e.reaching_is b c r _ (e.super_index_is b c r (expression_lowered v) ((fit b c r h).reaches refl)) false)
  fit b c r (fits.super_call span as_ a) = over b c r false (layer.SuperCall span as_) _ (x.rolls-SuperCall span as_) (e.value_is b c r _ (e.super_called_is b c r (map argument_lowered as_) (arguments b c r a)) false)
  fit b c r (fits.new_target span) = over b c r false (layer.NewTarget span) _ (x.rolls-NewTarget span) (e.value_is b c r _ (e.new_target_is b c r) false)
  fit b c r (fits.new_value span v as_ h a) = over b c r false (layer.New span v as_) _ (x.rolls-New span v as_) (e.value_is b c r _ (e.new_value_is b c r span.begin (expression_lowered v) (map argument_lowered as_) ((fit b c r h).reaches refl) (arguments b c r a)) false)
  fit b c r (fits.update span o v h) = over b c r false (layer.Update span o v) _ (x.rolls-Update span o v) (e.value_is b c r _ (e.update_is b c r (m.update_of o) (expression_lowered v) ((fit b c r h).reaches refl)) false)
  fit b c r (fits.unary span o v h) = over b c r false (layer.Unary span o v) _ (x.rolls-Unary span o v) (e.value_is b c r _ (e.unary_is b c r o (expression_lowered v) ((fit b c r h).reaches refl)) false)
  fit b c r (fits.power span v w h k) = over b c r false (layer.Power span v w) _ (x.rolls-Power span v w) (e.value_is b c r _ (e.power_is b c r (expression_lowered v) (expression_lowered w) ((fit b c r h).reaches refl) ((fit b c r k).reaches refl)) false)
  fit b c r (fits.binary span v os h k) = over b c r false (layer.Binary span v os) _ (x.rolls-Binary span v os) (e.value_is b c r _ (e.binary_is b c r (expression_lowered v) (map operand_lowered os) ((fit b c r h).reaches refl) (operands b c r k)) false)
  fit b c r (fits.conditional span u v w h k l) = over b c r false (layer.Conditional span u v w) _ (x.rolls-Conditional span u v w) (e.value_is b c r _ (e.conditional_is b c r (expression_lowered u) (expression_lowered v) (expression_lowered w) ((fit b c r h).reaches refl) ((fit b c r k).reaches refl) ((fit b c r l).reaches refl)) false)
  fit b c r (fits.assign span o v w h k) = over b c r false (layer.Assign span o (pattern.Target v) w) _ (x.rolls-Assign span o (pattern.Target v) w)
      (e.value_is b c r _ (e.assignment_is b c r (m.compound_of o) (pattern_lowered (pattern.Target v)) (expression_lowered w) (target_is b c r v ((fit b c r h).reaches refl)) ((fit b c r k).reaches refl)) false)
  fit b c r (fits.sequence span v vs h k) = over b c r false (layer.Sequence span v vs) _ (x.rolls-Sequence span v vs) (e.value_is b c r _ (e.sequence_is b c r (expression_lowered v) (map expression_lowered vs) ((fit b c r h).reaches refl) (all b c r k)) false)
  fit b c r (fits.yield_nothing span y) = over b c r false (layer.Yield span None) _ (x.rolls-Yield span None) (e.value_is b c r _ (e.yielded_is b c r None y tt) false)
  fit b c r (fits.yield_value span v y h) = over b c r false (layer.Yield span (Some v)) _ (x.rolls-Yield span (Some v)) (e.value_is b c r _ (e.yielded_is b c r (Some (expression_lowered v)) y ((fit b c r h).reaches refl)) false)
  fit b c r (fits.delegate span v y h) = over b c r false (layer.Delegate span v) _ (x.rolls-Delegate span v) (e.value_is b c r _ (e.delegated_is b c r (expression_lowered v) y ((fit b c r h).reaches refl)) false)
  fit b c r (fits.group {i = i} span v h) = over b c r i (layer.Group span v) _ (x.rolls-Group span v) (e.grouped_is b c r i (expression_lowered v) (fit b c r h))

  all : (b : Bindings) (c : Context) (r : Round) {vs : List Expression} → AllFit b c r vs → Every (Reaches b c r) (map expression_lowered vs)
  all b c r fits.no_expression = tt
  all b c r (fits.one_expression h k) = ((fit b c r h).reaches refl, all b c r k)

  parts : (b : Bindings) (c : Context) (r : Round) {ps : List TemplatePart} → PartsFit b c r ps → Every (λ (p : TemplateParted). ValueMakes b c r p.value) (map template_part_lowered ps)
  parts b c r fits.no_part = tt
  parts b c r (fits.one_part v text h k) = (
    subst (λ (w : TemplateParted). ValueMakes b c r w.value) (sym (template_part_rolled (record { value = v; after = text }))) (e.valued_is b c r (expression_lowered v) ((fit b c r h).reaches refl)),
    parts b c r k,
  )

  argument_fits : (b : Bindings) (c : Context) (r : Round) {a : Argument} → ArgumentFits b c r a → Makes (Of part_lawful) b c r (argument_lowered a)
  argument_fits b c r (fits.single v h) = argument_over b c r (layer.Single v) _ (argument.rolls-Single v) (e.single_is b c r (expression_lowered v) ((fit b c r h).reaches refl))
  argument_fits b c r (fits.spread span v h) = argument_over b c r (layer.Spread span v) _ (argument.rolls-Spread span v) (e.spread_is b c r span (expression_lowered v) ((fit b c r h).reaches refl))

  arguments : (b : Bindings) (c : Context) (r : Round) {as_ : List Argument} → ArgumentsFit b c r as_ → Every (Makes (Of part_lawful) b c r) (map argument_lowered as_)
  arguments b c r fits.no_argument = tt
  arguments b c r (fits.one_argument h k) = (argument_fits b c r h, arguments b c r k)

  elements : (b : Bindings) (c : Context) (r : Round) {es : List Element} → ElementsFit b c r es → Every (Makes (Of part_lawful) b c r) (map element_lowered es)
  elements b c r fits.no_element = tt
  elements b c r (fits.hole k) = (element_over b c r layer.Hole _ element.rolls-Hole (e.hole_is b c r), elements b c r k)
  elements b c r (fits.present a h k) = (element_over b c r (layer.Present a) _ (element.rolls-Present a) (argument_fits b c r h), elements b c r k)

  links : (b : Bindings) (c : Context) (r : Round) {ls : List Link} → LinksFit b c r ls → Every (λ l. (i : Bool) × LinkedIs b c r i l) (map link_lowered ls)
  links b c r fits.no_link = tt
  links b c r (fits.member span name k) = ((false, link_over b c r false (layer.Member span name) _ (link.rolls-Member span name) (name_link b c r name.name)), links b c r k)
  links b c r (fits.index span v h k) =
      ((false, link_over b c r false (layer.Index span v) _ (link.rolls-Index span v) (record { behind = e.index_is b c r (expression_lowered v) ((fit b c r h).reaches refl); on_host = no_host })), links b c r k)
  links b c r (fits.call span as_ a k) = ((true, link_over b c r true (layer.Call span as_) _ (link.rolls-Call span as_) (call_link b c r (map argument_lowered as_) (arguments b c r a))), links b c r k)

  operands : (b : Bindings) (c : Context) (r : Round) {os : List Operand} → OperandsFit b c r os → Every (OperatedIs b c r) (map operand_lowered os)
  operands b c r fits.no_operand = tt
  operands b c r (fits.one_operand o v h k) = (
    subst (λ (w : Operated). OperatedIs b c r w) (sym (operand_rolled (record { operator = o; value = v }))) (e.operand_is b c r o (expression_lowered v) ((fit b c r h).reaches refl)),
    operands b c r k,
  )

pub fit_is : FitLaw
fit_is b c r i v h = fit b c r h
