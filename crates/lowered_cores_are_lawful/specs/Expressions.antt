-- Laws: values of expressions, names, literals, chains, operators, assignments, functions and classes as values are lowered to lawful ones, where their parts are.
use Rattle.std.specs.Prelude.{◌≡◌, ℕ, Bool, true, nat_lt, List, ◌∷◌, Option}
use Rattle.es_text.specs.declared.Span.{Span}
use Rattle.es6_ast.specs.declared.operators.BinaryOperator.{BinaryOperator}
use Rattle.es6_ast.specs.declared.operators.Literal.{Literal}
use Rattle.es6_ast.specs.declared.operators.UnaryOperator.{UnaryOperator}
use Rattle.es6_ast.specs.declared.tree.Identifier.{Identifier}
use Rattle.es6_ast.specs.declared.tree.Argument.TheOpen as layer
use Rattle.core_ast.specs.declared.parts.CoreHead.TheVariants as head
use Rattle.core_ast.specs.declared.parts.FunctionId.{FunctionId}
use Rattle.core_ast.specs.declared.parts.Update.{Update}
use Rattle.core_ast.specs.declared.tree.CoreExpr.{CoreExpr}
use Rattle.core_ast.specs.Lawful.{Round, head_lawful}
use Rattle.core_ast.specs.Made.{constant}
use Rattle.lowering_laws.specs.Classes.{object_member_lawful}
use Rattle.lowering_laws.specs.InRound.{part_lawful}
use Rattle.lowering_rules.specs.declared.expressions.ListPart.{ListPart}
use Rattle.lowering_rules.specs.declared.reference_rules.objects.ObjectMember.{ObjectMember}
use Rattle.lowering_rules.specs.declared.reference_rules.references.Compound.{Compound}
use Rattle.lowering_rules.specs.declared.reference_rules.references.NamedValue.TheVariants.{HostName}
use Rattle.lowering_rules.specs.declared.reference_rules.references.Reached.{Reached}
use Rattle.lowering_rules.specs.reference_rules.References as references
use Rattle.lowering_rules.specs.Making.{text}
use Rattle.module_lowering.specs.Bindings.{Bindings, found}
use Rattle.lowered_cores_are_lawful.specs.Conditions.{finds_host}
use Rattle.module_lowering.specs.Expressions as m
use Rattle.module_lowering.specs.Lowering.{Lowering, asks, pure}
use Rattle.module_lowering.specs.Nodes.{Chained, Classed, Expressed, Functioned, Linked, Operated, Patterned, Templated}
use Rattle.module_lowering.specs.declared.context.Context.{Context}
use Rattle.module_lowering.specs.declared.lowerer.Lowerer.{Lowerer}
use Rattle.lowered_cores_are_lawful.specs.Nodes.{ChainedIs, ClassMadeIs, ExpressedIs, FunctionedIs, PatternedIs, IdIs, LinkedIs, MayBeCalled, OperatedIs, ReachedIs, Reaches, TemplatedIs, ValueMakes}
use Rattle.lowered_cores_are_lawful.specs.Standing.{Every, IfThere, Made, Makes, Of, Stands, here}

abbrev pub ReachingLaw : Type 0
ReachingLaw = (b : Bindings) (c : Context) (r : Round) (reached : Lowering Reached) → Makes ReachedIs b c r reached
    → (is_host : Bool) → ExpressedIs b c r is_host (m.reaching reached)

abbrev pub ValueLaw : Type 0
ValueLaw = (b : Bindings) (c : Context) (r : Round) (a : Lowering CoreExpr) → ValueMakes b c r a → (is_host : Bool)
    → ExpressedIs b c r is_host (m.value a)

abbrev pub ValuedLaw : Type 0
ValuedLaw = (b : Bindings) (c : Context) (r : Round) (x : Expressed) → Reaches b c r x → ValueMakes b c r (m.valued x)

abbrev pub ThisLaw : Type 0
ThisLaw = (b : Bindings) (c : Context) (r : Round) → ValueMakes b c r m.this_lowered

abbrev pub NewTargetLaw : Type 0
NewTargetLaw = (b : Bindings) (c : Context) (r : Round) → ValueMakes b c r (asks (λ b c. m.new_target c.this))

abbrev pub LiteralLaw : Type 0
LiteralLaw = (b : Bindings) (c : Context) (r : Round) (x : Literal) → ((q : Round)
    → head_lawful (head.Constant (m.constant_of x)) q ≡ true) → ValueMakes b c r (pure (constant (m.constant_of x)))

abbrev pub TemplateLaw : Type 0
TemplateLaw = (b : Bindings) (c : Context) (r : Round) (t : Templated) → TemplatedIs b c r t
    → ValueMakes b c r (m.template_value t)

abbrev pub SingleLaw : Type 0
SingleLaw = (b : Bindings) (c : Context) (r : Round) (x : Expressed) → Reaches b c r x
    → Makes (Of part_lawful) b c r (m.argument_step (layer.Single x))

abbrev pub SpreadLaw : Type 0
SpreadLaw = (b : Bindings) (c : Context) (r : Round) (span : Span) (x : Expressed) → Reaches b c r x
    → Makes (Of part_lawful) b c r (m.argument_step (layer.Spread span x))

abbrev pub HoleLaw : Type 0
HoleLaw = (b : Bindings) (c : Context) (r : Round) → Makes (Of part_lawful) b c r (m.element_step layer.Hole)

abbrev pub ArrayLaw : Type 0
ArrayLaw = (b : Bindings) (c : Context) (r : Round) (xs : List (Lowering ListPart)) → Every (Makes (Of part_lawful) b c r) xs
    → ValueMakes b c r (m.array_lowered xs)

abbrev pub MemberLaw : Type 0
MemberLaw = (b : Bindings) (c : Context) (r : Round) (name : List ℕ) (begin : ℕ) (x : Chained) (s : Lowerer)
    → Stands b c r.hosts s → ChainedIs (here s r) x → Made ChainedIs b c r s (m.member_with name begin x b c s)

abbrev pub IndexLaw : Type 0
IndexLaw = (b : Bindings) (c : Context) (r : Round) (y : Expressed) → Reaches b c r y → (begin : ℕ) (x : Chained) (s : Lowerer)
    → Stands b c r.hosts s → ChainedIs (here s r) x → Made ChainedIs b c r s (m.indexed_with y begin x b c s)

abbrev pub CallLaw : Type 0
CallLaw = (b : Bindings) (c : Context) (r : Round) (xs : List (Lowering ListPart)) → Every (Makes (Of part_lawful) b c r) xs
    → (begin : ℕ) (x : Chained) (s : Lowerer) → Stands b c r.hosts s → ChainedIs (here s r) x
    → Made ChainedIs b c r s (m.called_with xs begin x b c s)

abbrev pub HostCallLaw : Type 0
HostCallLaw = (b : Bindings) (c : Context) (r : Round) (xs : List (Lowering ListPart)) → Every (Makes (Of part_lawful) b c r) xs
    → (begin h : ℕ) (sited : Bool) (s : Lowerer) → Stands b c r.hosts s → nat_lt h r.hosts ≡ true
    → Made ChainedIs b c r s (m.called_with xs begin (record { reached = references.found (HostName h); sited = sited }) b c s)

abbrev pub TaggedLaw : Type 0
TaggedLaw = (b : Bindings) (c : Context) (r : Round) (t : Templated) → TemplatedIs b c r t
    → (begin : ℕ) (x : Chained) (s : Lowerer) → Stands b c r.hosts s → ChainedIs (here s r) x
    → Made ChainedIs b c r s (m.tagged_with t begin x b c s)

abbrev pub ChainLaw : Type 0
ChainLaw = (b : Bindings) (c : Context) (r : Round) (begin : ℕ) (head_ : Expressed) (ls : List Linked) → Reaches b c r head_
    → Every (λ l. (i : Bool) × LinkedIs b c r i l) ls → Makes ReachedIs b c r (m.chain_reached begin head_ ls)

abbrev pub CalledChainLaw : Type 0
CalledChainLaw = (b : Bindings) (c : Context) (r : Round) (begin : ℕ) (head_ : Expressed) (l : Linked) (ls : List Linked)
    → Makes MayBeCalled b c r head_.reached → LinkedIs b c r true l → Every (λ l. (i : Bool) × LinkedIs b c r i l) ls
    → Makes ReachedIs b c r (m.chain_reached begin head_ (l ∷ ls))

abbrev pub NewValueLaw : Type 0
NewValueLaw = (b : Bindings) (c : Context) (r : Round) (begin : ℕ) (callee : Expressed) (xs : List (Lowering ListPart))
    → Reaches b c r callee → Every (Makes (Of part_lawful) b c r) xs → ValueMakes b c r (m.new_value begin callee xs)

abbrev pub SuperMemberLaw : Type 0
SuperMemberLaw = (b : Bindings) (c : Context) (r : Round) (units : List ℕ)
    → Makes ReachedIs b c r (m.inherited (pure (text units)))

abbrev pub SuperIndexLaw : Type 0
SuperIndexLaw = (b : Bindings) (c : Context) (r : Round) (x : Expressed) → Reaches b c r x
    → Makes ReachedIs b c r (m.inherited (m.index_key x))

abbrev pub SuperCalledLaw : Type 0
SuperCalledLaw = (b : Bindings) (c : Context) (r : Round) (xs : List (Lowering ListPart))
    → Every (Makes (Of part_lawful) b c r) xs → ValueMakes b c r (m.super_called xs)

abbrev pub UnaryLaw : Type 0
UnaryLaw = (b : Bindings) (c : Context) (r : Round) (o : UnaryOperator) (x : Expressed) → Reaches b c r x
    → ValueMakes b c r (m.unary_lowered o x)

abbrev pub OperandLaw : Type 0
OperandLaw = (b : Bindings) (c : Context) (r : Round) (o : BinaryOperator) (x : Expressed) → Reaches b c r x
    → OperatedIs b c r (m.operand_step (record { operator = o; value = x }))

abbrev pub BinaryLaw : Type 0
BinaryLaw = (b : Bindings) (c : Context) (r : Round) (first : Expressed) (rest : List Operated) → Reaches b c r first
    → Every (OperatedIs b c r) rest → ValueMakes b c r (m.binary_lowered first rest)

abbrev pub PowerLaw : Type 0
PowerLaw = (b : Bindings) (c : Context) (r : Round) (base exponent : Expressed) → Reaches b c r base → Reaches b c r exponent
    → ValueMakes b c r (m.power base exponent)

abbrev pub ConditionalLaw : Type 0
ConditionalLaw = (b : Bindings) (c : Context) (r : Round) (test yes_ no_ : Expressed) → Reaches b c r test → Reaches b c r yes_
    → Reaches b c r no_ → ValueMakes b c r (m.conditional test yes_ no_)

abbrev pub SequenceLaw : Type 0
SequenceLaw = (b : Bindings) (c : Context) (r : Round) (first : Expressed) (rest : List Expressed) → Reaches b c r first
    → Every (Reaches b c r) rest → ValueMakes b c r (m.sequence first rest)

abbrev pub YieldedLaw : Type 0
YieldedLaw = (b : Bindings) (c : Context) (r : Round) (x : Option Expressed) → r.yields ≡ true → IfThere (Reaches b c r) x
    → ValueMakes b c r (m.yielded x)

abbrev pub DelegatedLaw : Type 0
DelegatedLaw = (b : Bindings) (c : Context) (r : Round) (x : Expressed) → r.yields ≡ true → Reaches b c r x
    → ValueMakes b c r (m.delegated x)

abbrev pub UpdateLaw : Type 0
UpdateLaw = (b : Bindings) (c : Context) (r : Round) (u : Update) (x : Expressed) → Reaches b c r x
    → ValueMakes b c r (m.update_lowered u x)

abbrev pub AssignmentLaw : Type 0
AssignmentLaw = (b : Bindings) (c : Context) (r : Round) (o : Option Compound) (p : Patterned) (x : Expressed)
    → PatternedIs b c r p → Reaches b c r x → ValueMakes b c r (m.assignment o p x)

abbrev pub ClosedLaw : Type 0
ClosedLaw = (b : Bindings) (c : Context) (r : Round) (a : Lowering FunctionId) → Makes IdIs b c r a
    → ValueMakes b c r (m.closed a)

abbrev pub FunctionValueLaw : Type 0
FunctionValueLaw = (b : Bindings) (c : Context) (r : Round) (f : Functioned) (name : Option Identifier)
    → FunctionedIs b c.home f.lowered → ValueMakes b c r (m.function_value f name)

abbrev pub ClassValueLaw : Type 0
ClassValueLaw = (b : Bindings) (c : Context) (r : Round) (x : Classed) → Makes ClassMadeIs b c r x.lowered
    → ValueMakes b c r (m.class_value x)

abbrev pub ObjectLaw : Type 0
ObjectLaw = (b : Bindings) (c : Context) (r : Round) (xs : List (Lowering ObjectMember))
    → Every (Makes (Of object_member_lawful) b c r) xs → ValueMakes b c r (m.object_lowered xs)

abbrev pub NamedLaw : Type 0
NamedLaw = (b : Bindings) (c : Context) (r : Round) (x : Identifier)
    → ExpressedIs b c r (finds_host b (found b c x.span.begin)) (m.named x)

abbrev pub GroupedLaw : Type 0
GroupedLaw = (b : Bindings) (c : Context) (r : Round) (is_host : Bool) (x : Expressed) → ExpressedIs b c r is_host x
    → ExpressedIs b c r is_host (m.grouped x)
