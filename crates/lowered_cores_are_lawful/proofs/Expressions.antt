-- Expressions are lowered to lawful ones, where their parts are.
use Rattle.std.proofs.Common.{◌≡◌, ℕ, ◌≤◌, Bool, true, false, nat_lt, List, [], ◌∷◌, map, Option, None, Some, refl, sym, arith, subst}
use Rattle.std.proofs.lemmas.Bool.{false≢true}
use Rattle.es_outside.specs.declared.events.Site.{Site}
use Rattle.es_text.specs.declared.Span.{Span}
use Rattle.es6_ast.specs.declared.operators.BinaryOperator.{BinaryOperator}
use Rattle.es6_ast.specs.declared.operators.BinaryOperator.TheVariants as operator
use Rattle.es6_ast.specs.declared.operators.Literal.{Literal}
use Rattle.es6_ast.specs.declared.operators.UnaryOperator.{UnaryOperator}
use Rattle.es6_ast.specs.declared.operators.UnaryOperator.TheVariants as unary
use Rattle.es6_ast.specs.declared.tree.Identifier.{Identifier}
use Rattle.es6_ast.specs.declared.tree.Argument.TheOpen as layer
use Rattle.core_ast.specs.declared.parts.Binary.{Binary}
use Rattle.core_ast.specs.declared.parts.Constant.TheVariants.{Undefined}
use Rattle.core_ast.specs.declared.parts.CoreHead.TheVariants as head
use Rattle.core_ast.specs.declared.parts.CoreOp.TheVariants as op
use Rattle.core_ast.specs.declared.parts.Key.TheVariants.{WordKey}
use Rattle.core_ast.specs.declared.parts.Primitive.TheVariants.{Power, SuperGet}
use Rattle.core_ast.specs.declared.parts.Unary.TheVariants as plain
use Rattle.core_ast.specs.declared.parts.FunctionId.{FunctionId}
use Rattle.core_ast.specs.declared.parts.Update.{Update}
use Rattle.core_ast.specs.declared.parts.When.TheVariants.{Choice, Falsy, Truthy}
use Rattle.core_ast.specs.declared.tree.CoreExpr.{CoreExpr}
use Rattle.core_ast.specs.Lawful.{Round, head_lawful}
use Rattle.core_ast.specs.Made.{act, constant, linked, undefined, variable}
use Rattle.core_ast.specs.declared.tree.CoreLink.TheVariants as link
use Rattle.lawful_passes.proofs.Far.{variable_is}
use Rattle.lowering_laws.specs.Classes.{object_key_lawful, object_member_lawful}
use Rattle.lowering_laws.specs.InRound.{AreLawful, IsLawful, PartsAreLawful, expr_lawful, part_lawful}
use Rattle.lowering_laws.specs.References.{name_lawful}
use Rattle.lowering_laws.proofs.Classes.{closure_is, objects_are_lawful, super_is_lawful, this_is_lawful}
use Rattle.lowering_laws.proofs.Expressions.{acted, behind, lists_are_lawful, plainly, template_objects_are_lawful, templates_are_lawful, text_is}
use Rattle.lowering_laws.proofs.Operators.{conditions_are_lawful, constants_are_lawful, yields_are_lawful}
use Rattle.lowering_laws.proofs.References.{accesses_are_lawful, assignments_are_lawful, compounds_are_lawful, found_hosts_are_called, new_are_lawful, reached_calls_are_lawful, reached_tags_are_lawful, reads_are_lawful, updates_are_lawful}
use Rattle.lowering_laws.proofs.Statements.{then_is, undefined_is}
use Rattle.lowering_laws.proofs.Patterns.{to_text_is}
use Rattle.lowering_rules.specs.declared.expressions.ListPart.{ListPart}
use Rattle.lowering_rules.specs.declared.expressions.ListPart.TheVariants.{Missing, Single, Spread}
use Rattle.lowering_rules.specs.declared.expressions.TemplatePart.{TemplatePart}
use Rattle.lowering_rules.specs.declared.reference_rules.objects.ObjectKey.{ObjectKey}
use Rattle.lowering_rules.specs.declared.reference_rules.objects.ObjectKey.TheVariants.{Evaluated, Written}
use Rattle.lowering_rules.specs.declared.reference_rules.objects.ObjectMember.{ObjectMember}
use Rattle.lowering_rules.specs.declared.reference_rules.objects.ObjectMember.TheVariants.{Defined, Valued}
use Rattle.lowering_rules.specs.declared.reference_rules.references.Compound.{Compound}
use Rattle.lowering_rules.specs.declared.reference_rules.references.MemberName.{MemberName}
use Rattle.lowering_rules.specs.declared.reference_rules.references.MemberName.TheVariants.{AtIterator, Indexed, Named}
use Rattle.lowering_rules.specs.declared.reference_rules.references.NamedValue.TheVariants.{HostName}
use Rattle.lowering_rules.specs.declared.reference_rules.references.Reached.{Reached}
use Rattle.lowering_rules.specs.declared.reference_rules.references.Reached.TheVariants.{Inherited, Property, Value, Variable}
use Rattle.lowering_rules.specs.reference_rules.References as references
use Rattle.lowering_rules.specs.reference_rules.Objects.{object}
use Rattle.lowering_rules.specs.Expressions as e
use Rattle.lowering_rules.specs.Making.{text, then, through_with}
use Rattle.lowering_rules.specs.Patterns.{iterator_name}
use Rattle.lowering_rules.specs.Classes as classes
use Rattle.module_lowering.specs.Bindings.{Bindings, found, scoped_name}
use Rattle.lowering_rules.specs.statement_rules.Bodies.{after_running, named_function}
use Rattle.lowering_laws.proofs.Bodies.{named_functions_are_lawful, run_are_lawful}
use Rattle.lowered_cores_are_lawful.specs.Conditions.{finds_host}
use Rattle.lowered_cores_are_lawful.proofs.Naming.{name_called, name_reached, scoped_drawn}
use Rattle.lowered_cores_are_lawful.proofs.Grown.{grown}
use Rattle.module_lowering.specs.Expressions as m
use Rattle.module_lowering.specs.Lowering.{Lowering, temporary, along, along_by, asks, drawing, each, each_by, option, pure}
use Rattle.module_lowering.specs.Names.{is_global, name_lowered, site_at}
use Rattle.module_lowering.specs.Nodes.{Chained, Classed, Expressed, Form, Functioned, Linked, MemberForm, NameForm, Operated, PartsForm, Patterned, Templated, TemplateParted}
use Rattle.module_lowering.specs.declared.context.FunctionForm.TheVariants.{PlainForm}
use Rattle.module_lowering.specs.declared.context.Role.TheVariants.{Assigns}
use Rattle.module_lowering.specs.declared.context.Context.{Context}
use Rattle.module_lowering.specs.declared.context.ThisKind.{ThisKind}
use Rattle.module_lowering.specs.declared.context.ThisKind.TheVariants.{OfConstructor, OfFunction, OfGenerator, OfMethod, OfModule}
use Rattle.module_lowering.specs.declared.lowerer.Lowerer.{Lowerer}
use Rattle.pass_rules.proofs.pass_laws.Within.{left, right, both}
use Rattle.lowered_cores_are_lawful.specs.Nodes.{ChainedIs, ClassMadeIs, ExpressedIs, FormIs, FunctionedIs, PatternedIs, IdIs, LinkedIs, MayBeCalled, OperatedIs, ReachedIs, Reaches, TemplatedIs, ValueMakes, VarIs, a_host, a_value}
use Rattle.lowered_cores_are_lawful.specs.Standing.{AllOf, Every, IfOf, IfThere, Made, Makes, Of, Stands, here, size, this_drawn}
use Rattle.lowered_cores_are_lawful.proofs.Calls.{called_is, new_is, tag_is, access_unsited}
use Rattle.lowered_cores_are_lawful.proofs.Drawing.{assigned_more, called_more, object_more, operated_more, tag_more, updated_more}
use Rattle.lowered_cores_are_lawful.proofs.Making.{Grows, ids_grow, temporary_is, after, along_by_is, drawing_is, each_by_is, each_is, exprs_grow, giving, later, option_is, stay, vars_grow}

-- ## Values

pub valued_is : (b : Bindings) (c : Context) (r : Round) (x : Expressed) → Reaches b c r x → ValueMakes b c r (m.valued x)
valued_is b c r x h s k =
    let y = x.reached b c s in let q = h.value s k in
    giving ReachedIs IsLawful b c r s y (references.value_of y.0) q (reads_are_lawful (here y.1 r) y.0 q.lawful).0

-- what gives a value reaches one, and is no host
abbrev pub ExpressionIs : Bindings → Context → Round → Expressed → Type 0
ExpressionIs b c r x = ExpressedIs b c r false x

pub reaching_is : (b : Bindings) (c : Context) (r : Round) (reached : Lowering Reached) → Makes ReachedIs b c r reached → (is_host : Bool) → ExpressedIs b c r is_host (m.reaching reached)
reaching_is b c r reached h is_host = record {
  called = λ s k. giving ReachedIs MayBeCalled b c r s (reached b c s) (reached b c s).0 (h s k) (a_value (h s k).lawful);
  reaches = λ e. record { value = h; name = tt };
}

pub gives_is : (b : Bindings) (c : Context) (r : Round) (a : Lowering CoreExpr) → ValueMakes b c r a → Makes ReachedIs b c r (m.gives a)
gives_is b c r a h s k = let x = a b c s in let q = h s k in giving IsLawful ReachedIs b c r s x (Value x.0) q q.lawful

pub value_is : (b : Bindings) (c : Context) (r : Round) (a : Lowering CoreExpr) → ValueMakes b c r a → (is_host : Bool) → ExpressedIs b c r is_host (m.value a)
value_is b c r a h is_host = reaching_is b c r (m.gives a) (gives_is b c r a h) is_host

pub pure_is : {A : Type 0} (Q : Round → A → Type 0) (b : Bindings) (c : Context) (r : Round) (x : A) → ((q : Round) → Q q x) → Makes Q b c r (pure x)
pure_is Q b c r x h s k = stay Q b c r s x k (h (here s r))

-- ## `this` and `new.target`

this_by : (b : Bindings) (c : Context) (r : Round) (t : ThisKind) (s : Lowerer) → this_drawn (size s) t ≡ true → Stands b c r.hosts s → Made IsLawful b c r s (m.this_of t s)
this_by b c r OfModule s d k = stay IsLawful b c r s undefined k (undefined_is (here s r))
this_by b c r OfFunction s d k = stay IsLawful b c r s (classes.this false) k (this_is_lawful (here s r) false)
this_by b c r OfMethod s d k = stay IsLawful b c r s (classes.this false) k (this_is_lawful (here s r) false)
this_by b c r (OfConstructor derived) s d k = stay IsLawful b c r s (classes.this derived) k (this_is_lawful (here s r) derived)
this_by b c r (OfGenerator kept) s d k =
    record { names = omega arith; functions = omega arith; stands = record { bindings = k.bindings; this = k.this; dead = k.dead; locals = k.locals; functions = k.functions }; lawful = variable_is (here s r) kept d }

pub this_is : (b : Bindings) (c : Context) (r : Round) → ValueMakes b c r m.this_lowered
this_is b c r s k = this_by b c r c.this s k.this k

target_is : (t : ThisKind) (q : Round) → IsLawful q (m.new_target t)
target_is OfModule q = undefined_is q
target_is OfFunction q = (constants_are_lawful q Undefined refl).1
target_is OfMethod q = undefined_is q
target_is (OfConstructor derived) q = (constants_are_lawful q Undefined refl).1
target_is (OfGenerator kept) q = undefined_is q

pub new_target_is : (b : Bindings) (c : Context) (r : Round) → ValueMakes b c r (asks (λ b c. m.new_target c.this))
new_target_is b c r s k = stay IsLawful b c r s (m.new_target c.this) k (target_is c.this (here s r))

-- ## Literals, templates and lists

pub literal_is : (b : Bindings) (c : Context) (r : Round) (x : Literal) → ((q : Round) → head_lawful (head.Constant (m.constant_of x)) q ≡ true) → ValueMakes b c r (pure (constant (m.constant_of x)))
literal_is b c r x h = pure_is IsLawful b c r (constant (m.constant_of x)) (λ q. (constants_are_lawful q (m.constant_of x) (h q)).0)

part_is : (b : Bindings) (c : Context) (r : Round) (p : TemplateParted) → ValueMakes b c r p.value → Makes (Of (λ r (q : TemplatePart). expr_lawful q.value r)) b c r (m.part_of p)
part_is b c r p h s k = let x = p.value b c s in let q = h s k in giving IsLawful (Of (λ r (q : TemplatePart). expr_lawful q.value r)) b c r s x (record { value = x.0; text = p.after.cooked }) q q.lawful

parts_are : (b : Bindings) (c : Context) (r : Round) (ps : List TemplateParted) → Every (λ (p : TemplateParted). ValueMakes b c r p.value) ps → Every (λ p. Makes (Of (λ r (q : TemplatePart). expr_lawful q.value r)) b c r (m.part_of p)) ps
parts_are b c r [] h = tt
parts_are b c r (p ∷ ps) h = (part_is b c r p h.0, parts_are b c r ps h.1)

template_part_grows : Grows (Of (λ r (q : TemplatePart). expr_lawful q.value r))
template_part_grows r n g x l k h = exprs_grow r n g x.value l k h

pub template_is : (b : Bindings) (c : Context) (r : Round) (t : Templated) → TemplatedIs b c r t → ValueMakes b c r (m.template_value t)
template_is b c r t h s k =
    let T : Round → TemplatePart → Bool = λ r q. expr_lawful q.value r in
    let x = each_by m.part_of t.rest b c s in
    let q = each_by_is T b c r template_part_grows m.part_of t.rest (parts_are b c r t.rest h) s k in
    giving (AllOf T) IsLawful b c r s x (e.template t.first.cooked x.0) q (templates_are_lawful (here x.1 r) t.first.cooked x.0 q.lawful)

pub single_is : (b : Bindings) (c : Context) (r : Round) (x : Expressed) → Reaches b c r x → Makes (Of part_lawful) b c r (m.argument_step (layer.Single x))
single_is b c r x h s k = let y = m.valued x b c s in let q = valued_is b c r x h s k in giving IsLawful (Of part_lawful) b c r s y (Single y.0) q q.lawful

pub spread_is : (b : Bindings) (c : Context) (r : Round) (span : Span) (x : Expressed) → Reaches b c r x → Makes (Of part_lawful) b c r (m.argument_step (layer.Spread span x))
spread_is b c r span x h s k = let y = m.valued x b c s in let q = valued_is b c r x h s k in giving IsLawful (Of part_lawful) b c r s y (Spread y.0) q q.lawful

pub hole_is : (b : Bindings) (c : Context) (r : Round) → Makes (Of part_lawful) b c r (m.element_step layer.Hole)
hole_is b c r s k = stay (Of part_lawful) b c r s Missing k refl

pub list_part_grows : Grows (Of part_lawful)
list_part_grows r n g (Single x) l k h = exprs_grow r n g x l k h
list_part_grows r n g (Spread x) l k h = exprs_grow r n g x l k h
list_part_grows r n g Missing l k h = refl

pub array_is : (b : Bindings) (c : Context) (r : Round) (xs : List (Lowering ListPart)) → Every (Makes (Of part_lawful) b c r) xs → ValueMakes b c r (m.array_lowered xs)
array_is b c r xs h s k =
    let x = each xs b c s in let q = each_is part_lawful b c r list_part_grows xs h s k in
    giving (AllOf part_lawful) IsLawful b c r s x (e.array x.0) q (lists_are_lawful (here x.1 r) x.0 q.lawful).0

-- ## Chains of accesses and calls

member_name_grows : Grows (Of name_lawful)
member_name_grows r n g (Named key) l k h = h
member_name_grows r n g (Indexed x) l k h = exprs_grow r n g x l k h
member_name_grows r n g AtIterator l k h = refl

pub reached_grows : Grows ReachedIs
reached_grows r n g (Value x) l k h = exprs_grow r n g x l k h
reached_grows r n g (Variable t imported) l k h = vars_grow r n g t.var l k h
reached_grows r n g (Property object name) l k h = both (exprs_grow r n g object l k (left _ _ h)) (member_name_grows r n g name l k (right _ _ h))
reached_grows r n g (Inherited x this) l k h = both (exprs_grow r n g x l k (left _ _ h)) (exprs_grow r n g this l k (right _ _ h))

pub chained_grows : Grows ChainedIs
chained_grows r n g x l k h = record { lawful = reached_grows r n g x.reached l k h.lawful; sites = h.sites }

indexed_by_is : (b : Bindings) (c : Context) (r : Round) (x : Expressed) (is_iterator : Bool) → Reaches b c r x → Makes (Of name_lawful) b c r (m.indexed_by x is_iterator)
indexed_by_is b c r x true h s k = stay (Of name_lawful) b c r s AtIterator k refl
indexed_by_is b c r x false h s k = let y = m.valued x b c s in let q = valued_is b c r x h s k in giving IsLawful (Of name_lawful) b c r s y (Indexed y.0) q q.lawful

symbol_by : (b : Bindings) (c : Context) (r : Round) (x : Expressed) (symbol : Option ℕ) (s : Lowerer) → Reaches b c r x → Stands b c r.hosts s
    → (let i = m.may_be_iterator symbol b c s in Made (Of name_lawful) b c r s (m.indexed_by x i.0 b c i.1))
symbol_by b c r x None s h k = indexed_by_is b c r x false h s k
symbol_by b c r x (Some at) s h k = indexed_by_is b c r x (is_global at b c s).0 h s k

pub indexed_is : (b : Bindings) (c : Context) (r : Round) (x : Expressed) → Reaches b c r x → Makes (Of name_lawful) b c r (m.indexed x)
indexed_is b c r x h s k = symbol_by b c r x x.symbol s h k

access_is : (r : Round) (x : Chained) (name : MemberName) → ChainedIs r x → name_lawful r name ≡ true → ChainedIs r (record { reached = references.accessed x.reached name; sited = x.sited })
access_is r x name h k = record { lawful = accesses_are_lawful r x.reached name h.lawful k; sites = λ e. access_unsited x.reached name (h.sites e) }

pub member_is : (b : Bindings) (c : Context) (r : Round) (name : List ℕ) (begin : ℕ) (x : Chained) (s : Lowerer) → Stands b c r.hosts s → ChainedIs (here s r) x → Made ChainedIs b c r s (m.member_with name begin x b c s)
member_is b c r name begin x s k h = stay ChainedIs b c r s (record { reached = references.accessed x.reached (Named (WordKey name)); sited = x.sited }) k (access_is (here s r) x (Named (WordKey name)) h refl)

pub index_is : (b : Bindings) (c : Context) (r : Round) (y : Expressed) → Reaches b c r y → (begin : ℕ) (x : Chained) (s : Lowerer) → Stands b c r.hosts s → ChainedIs (here s r) x → Made ChainedIs b c r s (m.indexed_with y begin x b c s)
index_is b c r y d begin x s k h =
    let z = m.indexed y b c s in let q = indexed_is b c r y d s k in
    giving (Of name_lawful) ChainedIs b c r s z (record { reached = references.accessed x.reached z.0; sited = x.sited }) q (access_is (here z.1 r) x z.0 (later ChainedIs (Of name_lawful) b c r s x z chained_grows q h) q.lawful)

-- a call has its place where none before it has
sited_call : (b : Bindings) (c : Context) (r : Round) (x : Reached) (parts : List ListPart) (sited : Bool) (begin : ℕ) (s : Lowerer) → Stands b c r.hosts s → ReachedIs (here s r) x → (sited ≡ false → m.reached_sited x ≡ false) → AllOf part_lawful (here s r) parts
    → Made ChainedIs b c r s (let y = drawing (references.called x parts (site_at sited begin c)) b c s in (record { reached = Value y.0; sited = true }, y.1))
sited_call b c r x parts true begin s k h u q =
    let y = drawing (references.called x parts None) b c s in
    giving IsLawful ChainedIs b c r s y (record { reached = Value y.0; sited = true }) (drawing_is IsLawful b c r (references.called x parts None) s k (called_more x parts None s.names) (reached_calls_are_lawful (here s r) x parts s.names h q))
    (record { lawful = reached_calls_are_lawful (here s r) x parts s.names h q; sites = λ e. absurd (false≢true (sym e)) })
sited_call b c r x parts false begin s k h u q =
    let at : Site = record { «module» = c.home; at = begin } in
    let y = drawing (references.called x parts (Some at)) b c s in
    giving IsLawful ChainedIs b c r s y (record { reached = Value y.0; sited = true }) (drawing_is IsLawful b c r (references.called x parts (Some at)) s k (called_more x parts (Some at) s.names) (called_is (here s r) x parts at s.names (u refl) h q))
    (record { lawful = called_is (here s r) x parts at s.names (u refl) h q; sites = λ e. absurd (false≢true (sym e)) })

pub call_is : (b : Bindings) (c : Context) (r : Round) (xs : List (Lowering ListPart)) → Every (Makes (Of part_lawful) b c r) xs → (begin : ℕ) (x : Chained) (s : Lowerer) → Stands b c r.hosts s → ChainedIs (here s r) x → Made ChainedIs b c r s (m.called_with xs begin x b c s)
call_is b c r xs d begin x s k h =
    let z = each xs b c s in let q = each_is part_lawful b c r list_part_grows xs d s k in let i = later ChainedIs (AllOf part_lawful) b c r s x z chained_grows q h in
    after (AllOf part_lawful) ChainedIs b c r s z (m.called_with xs begin x b c s) q (sited_call b c r x.reached z.0 x.sited begin z.1 q.stands i.lawful i.sites q.lawful)

pub host_call_is : (b : Bindings) (c : Context) (r : Round) (xs : List (Lowering ListPart)) → Every (Makes (Of part_lawful) b c r) xs → (begin h : ℕ) (sited : Bool) (s : Lowerer) → Stands b c r.hosts s → nat_lt h r.hosts ≡ true
    → Made ChainedIs b c r s (m.called_with xs begin (record { reached = references.found (HostName h); sited = sited }) b c s)
host_call_is b c r xs d begin h sited s k i =
    let z = each xs b c s in let q = each_is part_lawful b c r list_part_grows xs d s k in
    let place = site_at sited begin c in let x = references.found (HostName h) in
    let y = drawing (references.called x z.0 place) b c z.1 in
    let law = found_hosts_are_called (here z.1 r) h z.0 place z.1.names i q.lawful in
    after (AllOf part_lawful) ChainedIs b c r s z (m.called_with xs begin (record { reached = x; sited = sited }) b c s) q
    (giving IsLawful ChainedIs b c r z.1 y (record { reached = Value y.0; sited = true }) (drawing_is IsLawful b c r (references.called x z.0 place) z.1 q.stands (called_more x z.0 place z.1.names) law)
    (record { lawful = law; sites = λ e. absurd (false≢true (sym e)) }))

sited_tag : (b : Bindings) (c : Context) (r : Round) (x : Reached) (object : CoreExpr) (values : List CoreExpr) (sited : Bool) (begin : ℕ) (s : Lowerer) → Stands b c r.hosts s → ReachedIs (here s r) x → (sited ≡ false → m.reached_sited x ≡ false) → IsLawful (here s r) object → PartsAreLawful (here s r) values
    → Made ChainedIs b c r s (let y = drawing (references.called_as_tag x object values (site_at sited begin c)) b c s in (record { reached = Value y.0; sited = true }, y.1))
sited_tag b c r x object values true begin s k h u o q =
    let y = drawing (references.called_as_tag x object values None) b c s in let law = reached_tags_are_lawful (here s r) x object values s.names h o q in
    giving IsLawful ChainedIs b c r s y (record { reached = Value y.0; sited = true }) (drawing_is IsLawful b c r (references.called_as_tag x object values None) s k (tag_more x object values None s.names) law)
    (record { lawful = law; sites = λ e. absurd (false≢true (sym e)) })
sited_tag b c r x object values false begin s k h u o q =
    let at : Site = record { «module» = c.home; at = begin } in
    let y = drawing (references.called_as_tag x object values (Some at)) b c s in let law = tag_is (here s r) x object values at s.names (u refl) h o q in
    giving IsLawful ChainedIs b c r s y (record { reached = Value y.0; sited = true }) (drawing_is IsLawful b c r (references.called_as_tag x object values (Some at)) s k (tag_more x object values (Some at) s.names) law)
    (record { lawful = law; sites = λ e. absurd (false≢true (sym e)) })

pub tagged_is : (b : Bindings) (c : Context) (r : Round) (t : Templated) → TemplatedIs b c r t → (begin : ℕ) (x : Chained) (s : Lowerer) → Stands b c r.hosts s → ChainedIs (here s r) x → Made ChainedIs b c r s (m.tagged_with t begin x b c s)
tagged_is b c r t d begin x s k h =
    let T : Round → CoreExpr → Bool = λ r y. expr_lawful y r in
    let f : TemplateParted → Lowering CoreExpr = λ p. p.value in
    let z = each_by f t.rest b c s in let q = each_by_is T b c r exprs_grow f t.rest d s k in let i = later ChainedIs (AllOf T) b c r s x z chained_grows q h in
    after (AllOf T) ChainedIs b c r s z (m.tagged_with t begin x b c s) q
    (sited_tag b c r x.reached (m.template_object_of t) z.0 x.sited begin z.1 q.stands i.lawful i.sites (template_objects_are_lawful (here z.1 r) (t.first.cooked ∷ map (λ p. p.after.cooked) t.rest) (t.first.raw ∷ map (λ p. p.after.raw) t.rest)) q.lawful)

links_are : (b : Bindings) (c : Context) (r : Round) (begin : ℕ) (ls : List Linked) → Every (λ l. (i : Bool) × LinkedIs b c r i l) ls
    → Every (λ l. (x : Chained) (s : Lowerer) → Stands b c r.hosts s → ChainedIs (here s r) x → Made ChainedIs b c r s (m.linked_at begin l x b c s)) ls
links_are b c r begin [] h = tt
links_are b c r begin (l ∷ ls) h = (h.0.1.behind begin, links_are b c r begin ls h.1)

reached_chain : (b : Bindings) (c : Context) (r : Round) (begin : ℕ) (ls : List Linked) → Every (λ l. (i : Bool) × LinkedIs b c r i l) ls → (x : Chained) (s : Lowerer) → Stands b c r.hosts s → ChainedIs (here s r) x → Made ChainedIs b c r s (along_by (m.linked_at begin) ls x b c s)
reached_chain b c r begin ls h = along_by_is ChainedIs b c r (m.linked_at begin) ls (links_are b c r begin ls h)

chained_end : (b : Bindings) (c : Context) (r : Round) (s : Lowerer) (x : Chained × Lowerer) → Made ChainedIs b c r s x → Made ReachedIs b c r s (x.0.reached, x.1)
chained_end b c r s x h = giving ChainedIs ReachedIs b c r s x x.0.reached h h.lawful.lawful

-- behind a value
pub chain_is : (b : Bindings) (c : Context) (r : Round) (begin : ℕ) (head_ : Expressed) (ls : List Linked) → Reaches b c r head_ → Every (λ l. (i : Bool) × LinkedIs b c r i l) ls → Makes ReachedIs b c r (m.chain_reached begin head_ ls)
chain_is b c r begin head_ ls h d s k =
    let y = head_.reached b c s in let q = h.value s k in
    let x : Chained = record { reached = y.0; sited = m.reached_sited y.0 } in
    let z = along_by (m.linked_at begin) ls x b c y.1 in
    after ReachedIs ReachedIs b c r s y (z.0.reached, z.1) q (chained_end b c r y.1 z (reached_chain b c r begin ls d x y.1 q.stands (record { lawful = q.lawful; sites = λ e. e })))

host_chain : (b : Bindings) (c : Context) (r : Round) (begin : ℕ) (y : Reached × Lowerer) (l : Linked) (ls : List Linked) → Stands b c r.hosts y.1 → MayBeCalled (here y.1 r) y.0 → LinkedIs b c r true l → Every (λ l. (i : Bool) × LinkedIs b c r i l) ls
    → (let z = along_by (m.linked_at begin) (l ∷ ls) (record { reached = y.0; sited = m.reached_sited y.0 }) b c y.1 in Made ReachedIs b c r y.1 (z.0.reached, z.1))
host_chain b c r begin y l ls k (a_value v) d e = chained_end b c r y.1 _ (reached_chain b c r begin (l ∷ ls) ((true, d), e) (record { reached = y.0; sited = m.reached_sited y.0 }) y.1 k (record { lawful = v; sites = λ i. i }))
host_chain b c r begin y l ls k (a_host h i is) d e =
    let sited = m.reached_sited y.0 in
    let first : Made ChainedIs b c r y.1 (l.lowered begin (record { reached = y.0; sited = sited }) b c y.1) =
    subst (λ v. Made ChainedIs b c r y.1 (l.lowered begin (record { reached = v; sited = sited }) b c y.1)) (sym is) (d.on_host refl begin h sited y.1 k i) in
    let x = l.lowered begin (record { reached = y.0; sited = sited }) b c y.1 in
    chained_end b c r y.1 _ (after ChainedIs ChainedIs b c r y.1 x _ first (reached_chain b c r begin ls e x.0 x.1 first.stands first.lawful))

-- behind what is called at once
pub called_chain_is : (b : Bindings) (c : Context) (r : Round) (begin : ℕ) (head_ : Expressed) (l : Linked) (ls : List Linked) → Makes MayBeCalled b c r head_.reached → LinkedIs b c r true l → Every (λ l. (i : Bool) × LinkedIs b c r i l) ls
    → Makes ReachedIs b c r (m.chain_reached begin head_ (l ∷ ls))
called_chain_is b c r begin head_ l ls h d e s k =
    let y = head_.reached b c s in let q = h s k in
    after MayBeCalled ReachedIs b c r s y (m.chain_reached begin head_ (l ∷ ls) b c s) q (host_chain b c r begin y l ls q.stands q.lawful d e)

-- ## `new` and `super`

new_by : (b : Bindings) (c : Context) (r : Round) (x : CoreExpr) (parts : List ListPart) (sited : Bool) (begin : ℕ) (q : Round) → m.is_sited x ≡ sited → IsLawful q x → AllOf part_lawful q parts → IsLawful q (m.constructed x parts (site_at sited begin c))
unfolding references.value_of
new_by b c r x parts true begin q e h k = new_are_lawful q (Value x) parts h k
new_by b c r x parts false begin q e h k = new_is q x parts (record { «module» = c.home; at = begin }) e h k

pub new_value_is : (b : Bindings) (c : Context) (r : Round) (begin : ℕ) (callee : Expressed) (xs : List (Lowering ListPart)) → Reaches b c r callee → Every (Makes (Of part_lawful) b c r) xs → ValueMakes b c r (m.new_value begin callee xs)
new_value_is b c r begin callee xs h d s k =
    let x = m.valued callee b c s in let p = valued_is b c r callee h s k in
    let z = each xs b c x.1 in let q = each_is part_lawful b c r list_part_grows xs d x.1 p.stands in
    after IsLawful IsLawful b c r s x _ p (giving (AllOf part_lawful) IsLawful b c r x.1 z (m.constructed x.0 z.0 (site_at (m.is_sited x.0) begin c)) q
    (new_by b c r x.0 z.0 (m.is_sited x.0) begin (here z.1 r) refl (later IsLawful (AllOf part_lawful) b c r x.1 x.0 z exprs_grow q p.lawful) q.lawful))

pub inherited_is : (b : Bindings) (c : Context) (r : Round) (key : Lowering CoreExpr) → ValueMakes b c r key → Makes ReachedIs b c r (m.inherited key)
inherited_is b c r key h s k =
    let x = key b c s in let p = h s k in let y = m.this_lowered b c x.1 in let q = this_is b c r x.1 p.stands in
    let kept = later IsLawful IsLawful b c r x.1 x.0 y exprs_grow q p.lawful in
    after IsLawful ReachedIs b c r s x _ p (giving IsLawful ReachedIs b c r x.1 y (Inherited (through_with x.0 SuperGet y.0) y.0) q
    (both (behind (here y.1 r) (op.Primitive SuperGet) (y.0 ∷ []) x.0 plainly refl refl refl (both q.lawful refl) kept) q.lawful))

pub super_member_is : (b : Bindings) (c : Context) (r : Round) (units : List ℕ) → Makes ReachedIs b c r (m.inherited (pure (text units)))
super_member_is b c r units = inherited_is b c r (pure (text units)) (pure_is IsLawful b c r (text units) (λ q. text_is q units))

key_value_is : (q : Round) (name : MemberName) → name_lawful q name ≡ true → IsLawful q (m.key_value name)
unfolding m.key_value
key_value_is q (Named key) h = undefined_is q
key_value_is q (Indexed x) h = to_text_is q x h
key_value_is q AtIterator h = text_is q iterator_name

index_key_is : (b : Bindings) (c : Context) (r : Round) (x : Expressed) → Reaches b c r x → ValueMakes b c r (m.index_key x)
index_key_is b c r x h s k = let y = m.indexed x b c s in let q = indexed_is b c r x h s k in giving (Of name_lawful) IsLawful b c r s y (m.key_value y.0) q (key_value_is (here y.1 r) y.0 q.lawful)

pub super_index_is : (b : Bindings) (c : Context) (r : Round) (x : Expressed) → Reaches b c r x → Makes ReachedIs b c r (m.inherited (m.index_key x))
super_index_is b c r x h = inherited_is b c r (m.index_key x) (index_key_is b c r x h)

pub super_called_is : (b : Bindings) (c : Context) (r : Round) (xs : List (Lowering ListPart)) → Every (Makes (Of part_lawful) b c r) xs → ValueMakes b c r (m.super_called xs)
super_called_is b c r xs d s k =
    let z = each xs b c s in let q = each_is part_lawful b c r list_part_grows xs d s k in
    giving (AllOf part_lawful) IsLawful b c r s z (classes.super_call z.0) q ((super_is_lawful (here z.1 r) z.0 undefined false).0 q.lawful)

-- ## Operators

pub unary_is : (b : Bindings) (c : Context) (r : Round) (o : UnaryOperator) (x : Expressed) → Reaches b c r x → ValueMakes b c r (m.unary_lowered o x)
unary_is b c r o x h s k =
    let y = x.reached b c s in let q = h.value s k in
    giving ReachedIs IsLawful b c r s y (m.unary_value o y.0) q (by_operator o (here y.1 r) y.0 q.lawful)
  where
    by_operator : (w : UnaryOperator) (p : Round) (v : Reached) → ReachedIs p v → IsLawful p (m.unary_value w v)
    by_operator unary.Delete p v i = (reads_are_lawful p v i).1
    by_operator unary.Void p v i = acted p (op.Unary plain.Void) (references.value_of v) plainly refl refl refl (reads_are_lawful p v i).0
    by_operator unary.Typeof p v i = acted p (op.Unary plain.Typeof) (references.value_of v) plainly refl refl refl (reads_are_lawful p v i).0
    by_operator unary.Plus p v i = acted p (op.Unary plain.Plus) (references.value_of v) plainly refl refl refl (reads_are_lawful p v i).0
    by_operator unary.Minus p v i = acted p (op.Unary plain.Minus) (references.value_of v) plainly refl refl refl (reads_are_lawful p v i).0
    by_operator unary.BitNot p v i = acted p (op.Unary plain.BitNot) (references.value_of v) plainly refl refl refl (reads_are_lawful p v i).0
    by_operator unary.Not p v i = acted p (op.Unary plain.Not) (references.value_of v) plainly refl refl refl (reads_are_lawful p v i).0

strict_operand : (q : Round) (o : Binary) (x y : CoreExpr) → IsLawful q x → IsLawful q y → IsLawful q (linked x (link.Strict (op.Operator o) (y ∷ []) None))
strict_operand q o x y h k = behind q (op.Operator o) (y ∷ []) x plainly refl refl refl (both k refl) h

operand_link_is : (q : Round) (o : BinaryOperator) (x y : CoreExpr) → IsLawful q x → IsLawful q y → IsLawful q (linked x (m.operand_link o y))
operand_link_is q operator.Or x y h k = conditions_are_lawful q x y Falsy None h k refl
operand_link_is q operator.And x y h k = conditions_are_lawful q x y Truthy None h k refl
operand_link_is q o x y h k = strict_operand q (m.binary_of o) x y h k

pub operand_is : (b : Bindings) (c : Context) (r : Round) (o : BinaryOperator) (x : Expressed) → Reaches b c r x → OperatedIs b c r (m.operand_step (record { operator = o; value = x }))
operand_is b c r o x h before s k i =
    let y = m.valued x b c s in let q = valued_is b c r x h s k in
    giving IsLawful IsLawful b c r s y (linked before (m.operand_link o y.0)) q (operand_link_is (here y.1 r) o before y.0 (later IsLawful IsLawful b c r s before y exprs_grow q i) q.lawful)

along_is : (b : Bindings) (c : Context) (r : Round) (os : List Operated) → Every (OperatedIs b c r) os → (x : CoreExpr) (s : Lowerer) → Stands b c r.hosts s → IsLawful (here s r) x → Made IsLawful b c r s (along os x b c s)
along_is b c r [] h x s k i = stay IsLawful b c r s x k i
along_is b c r (o ∷ os) h x s k i = let y = o x b c s in let q = h.0 x s k i in after IsLawful IsLawful b c r s y _ q (along_is b c r os h.1 y.0 y.1 q.stands q.lawful)

pub binary_is : (b : Bindings) (c : Context) (r : Round) (first : Expressed) (rest : List Operated) → Reaches b c r first → Every (OperatedIs b c r) rest → ValueMakes b c r (m.binary_lowered first rest)
binary_is b c r first rest h d s k =
    let x = m.valued first b c s in let q = valued_is b c r first h s k in
    after IsLawful IsLawful b c r s x _ q (along_is b c r rest d x.0 x.1 q.stands q.lawful)

pub power_is : (b : Bindings) (c : Context) (r : Round) (base exponent : Expressed) → Reaches b c r base → Reaches b c r exponent → ValueMakes b c r (m.power base exponent)
power_is b c r base exponent h d s k =
    let x = m.valued base b c s in let p = valued_is b c r base h s k in
    let y = m.valued exponent b c x.1 in let q = valued_is b c r exponent d x.1 p.stands in
    after IsLawful IsLawful b c r s x _ p (giving IsLawful IsLawful b c r x.1 y (through_with x.0 Power y.0) q
    (behind (here y.1 r) (op.Primitive Power) (y.0 ∷ []) x.0 plainly refl refl refl (both q.lawful refl) (later IsLawful IsLawful b c r x.1 x.0 y exprs_grow q p.lawful)))

pub conditional_is : (b : Bindings) (c : Context) (r : Round) (test yes_ no_ : Expressed) → Reaches b c r test → Reaches b c r yes_ → Reaches b c r no_ → ValueMakes b c r (m.conditional test yes_ no_)
conditional_is b c r test yes_ no_ h d e s k =
    let x = m.valued test b c s in let p = valued_is b c r test h s k in
    let y = m.valued yes_ b c x.1 in let q = valued_is b c r yes_ d x.1 p.stands in
    let z = m.valued no_ b c y.1 in let w = valued_is b c r no_ e y.1 q.stands in
    let x1 = later IsLawful IsLawful b c r x.1 x.0 y exprs_grow q p.lawful in
    after IsLawful IsLawful b c r s x _ p (after IsLawful IsLawful b c r x.1 y _ q (giving IsLawful IsLawful b c r y.1 z (linked x.0 (link.Lazy Choice y.0 (Some z.0))) w
    (conditions_are_lawful (here z.1 r) x.0 y.0 Choice (Some z.0) (later IsLawful IsLawful b c r y.1 x.0 z exprs_grow w x1) (later IsLawful IsLawful b c r y.1 y.0 z exprs_grow w q.lawful) w.lawful)))

next_is : (b : Bindings) (c : Context) (r : Round) (x : Expressed) → Reaches b c r x → (before : CoreExpr) (s : Lowerer) → Stands b c r.hosts s → IsLawful (here s r) before → Made IsLawful b c r s (m.next_of x before b c s)
next_is b c r x h before s k i =
    let y = m.valued x b c s in let q = valued_is b c r x h s k in
    giving IsLawful IsLawful b c r s y (then before y.0) q (then_is (here y.1 r) before y.0 (later IsLawful IsLawful b c r s before y exprs_grow q i) q.lawful)

nexts_are : (b : Bindings) (c : Context) (r : Round) (xs : List Expressed) → Every (Reaches b c r) xs → Every (λ x. (y : CoreExpr) (s : Lowerer) → Stands b c r.hosts s → IsLawful (here s r) y → Made IsLawful b c r s (m.next_of x y b c s)) xs
nexts_are b c r [] h = tt
nexts_are b c r (x ∷ xs) h = (next_is b c r x h.0, nexts_are b c r xs h.1)

pub sequence_is : (b : Bindings) (c : Context) (r : Round) (first : Expressed) (rest : List Expressed) → Reaches b c r first → Every (Reaches b c r) rest → ValueMakes b c r (m.sequence first rest)
sequence_is b c r first rest h d s k =
    let x = m.valued first b c s in let q = valued_is b c r first h s k in
    after IsLawful IsLawful b c r s x _ q (along_by_is IsLawful b c r m.next_of rest (nexts_are b c r rest d) x.0 x.1 q.stands q.lawful)

-- ## `yield`, in a generator's body

pub optional_is : (b : Bindings) (c : Context) (r : Round) (x : Option Expressed) → IfThere (Reaches b c r) x → IfThere (ValueMakes b c r) (m.optional x)
optional_is b c r None h = tt
optional_is b c r (Some x) h = valued_is b c r x h

or_undefined_is : (q : Round) (x : Option CoreExpr) → IfOf IsLawful q x → IsLawful q (m.or_undefined x)
unfolding m.or_undefined
or_undefined_is q None h = undefined_is q
or_undefined_is q (Some x) h = h

pub yielded_is : (b : Bindings) (c : Context) (r : Round) (x : Option Expressed) → r.yields ≡ true → IfThere (Reaches b c r) x → ValueMakes b c r (m.yielded x)
yielded_is b c r x y h s k =
    let z = option (m.optional x) b c s in let q = option_is IsLawful b c r (m.optional x) (optional_is b c r x h) s k in
    giving (IfOf IsLawful) IsLawful b c r s z (linked (m.or_undefined z.0) (act op.Yield)) q (yields_are_lawful (here z.1 r) (m.or_undefined z.0) y (or_undefined_is (here z.1 r) z.0 q.lawful)).0

pub delegated_is : (b : Bindings) (c : Context) (r : Round) (x : Expressed) → r.yields ≡ true → Reaches b c r x → ValueMakes b c r (m.delegated x)
delegated_is b c r x y h s k =
    let z = m.valued x b c s in let q = valued_is b c r x h s k in
    giving IsLawful IsLawful b c r s z (linked z.0 (act op.Delegate)) q (yields_are_lawful (here z.1 r) z.0 y q.lawful).1

-- ## Updates and assignments

pub update_is : (b : Bindings) (c : Context) (r : Round) (u : Update) (x : Expressed) → Reaches b c r x → ValueMakes b c r (m.update_lowered u x)
update_is b c r u x h s k =
    let y = x.reached b c s in let q = h.value s k in
    after ReachedIs IsLawful b c r s y _ q (drawing_is IsLawful b c r (references.updated y.0 u) y.1 q.stands (updated_more y.0 u y.1.names) (updates_are_lawful (here y.1 r) y.0 u y.1.names q.lawful))

pub assigned_to_is : (b : Bindings) (c : Context) (r : Round) (reached : Lowering Reached) (x : Expressed) → Makes ReachedIs b c r reached → Reaches b c r x → ValueMakes b c r (m.assigned_to reached x)
assigned_to_is b c r reached x h d s k =
    let y = reached b c s in let p = h s k in let z = m.valued x b c y.1 in let q = valued_is b c r x d y.1 p.stands in
    after ReachedIs IsLawful b c r s y _ p (after IsLawful IsLawful b c r y.1 z _ q
    (drawing_is IsLawful b c r (references.assigned y.0 z.0) z.1 q.stands (assigned_more y.0 z.0 z.1.names)
    (assignments_are_lawful (here z.1 r) y.0 z.0 z.1.names (later ReachedIs IsLawful b c r y.1 y.0 z reached_grows q p.lawful) q.lawful)))

operated_on_is : (b : Bindings) (c : Context) (r : Round) (o : Compound) (reached : Lowering Reached) (x : Expressed) → Makes ReachedIs b c r reached → Reaches b c r x → ValueMakes b c r (m.operated_on o reached x)
operated_on_is b c r o reached x h d s k =
    let y = reached b c s in let p = h s k in let z = m.valued x b c y.1 in let q = valued_is b c r x d y.1 p.stands in
    after ReachedIs IsLawful b c r s y _ p (after IsLawful IsLawful b c r y.1 z _ q
    (drawing_is IsLawful b c r (references.operated_at y.0 o z.0) z.1 q.stands (operated_more y.0 o z.0 z.1.names)
    (compounds_are_lawful (here z.1 r) y.0 o z.0 z.1.names (later ReachedIs IsLawful b c r y.1 y.0 z reached_grows q p.lawful) q.lawful)))

-- the right side is evaluated first, and then the parts of the pattern take its value
pattern_value_is : (b : Bindings) (c : Context) (r : Round) (p : Patterned) (x : Expressed) → PatternedIs b c r p → Reaches b c r x → ValueMakes b c r (m.pattern_value p x)
pattern_value_is b c r p x h d s k =
    let y = m.valued x b c s in let q = valued_is b c r x d s k in
    let v = temporary b c y.1 in let w = temporary_is b c r y.1 q.stands in
    let z = p.bound Assigns (variable v.0) b c v.1 in let i = h.bound Assigns (variable v.0) v.1 w.stands (variable_is (here v.1 r) v.0 w.lawful) in
    let y1 = later IsLawful VarIs b c r y.1 y.0 v exprs_grow w q.lawful in
    after IsLawful IsLawful b c r s y _ q (after VarIs IsLawful b c r y.1 v _ w (giving AreLawful IsLawful b c r v.1 z (references.pattern_assigned y.0 v.0 z.0) i
    ((run_are_lawful (here z.1 r) z.0 y.0 v.0 i.lawful (later IsLawful AreLawful b c r v.1 y.0 z exprs_grow i y1)).1 (later VarIs AreLawful b c r v.1 v.0 z vars_grow i w.lawful))))

assigned_is : (b : Bindings) (c : Context) (r : Round) (p : Patterned) (x : Expressed) (form : Form) → PatternedIs b c r p → FormIs b c r form → Reaches b c r x → ValueMakes b c r (m.assigned p x form)
assigned_is b c r p x (NameForm n) h f d = assigned_to_is b c r (name_lowered n) x f d
assigned_is b c r p x (MemberForm reached) h f d = assigned_to_is b c r reached x f d
assigned_is b c r p x PartsForm h f d = pattern_value_is b c r p x h d

operated_is : (b : Bindings) (c : Context) (r : Round) (o : Compound) (x : Expressed) (form : Form) → FormIs b c r form → Reaches b c r x → ValueMakes b c r (m.operated o x form)
operated_is b c r o x (NameForm n) f d = operated_on_is b c r o (name_lowered n) x f d
operated_is b c r o x (MemberForm reached) f d = operated_on_is b c r o reached x f d
operated_is b c r o x PartsForm f d = valued_is b c r x d

pub assignment_is : (b : Bindings) (c : Context) (r : Round) (o : Option Compound) (p : Patterned) (x : Expressed) → PatternedIs b c r p → Reaches b c r x → ValueMakes b c r (m.assignment o p x)
assignment_is b c r None p x h d = assigned_is b c r p x p.form h h.form d
assignment_is b c r (Some o) p x h d = operated_is b c r o x p.form h.form d

-- ## Functions, classes and objects as values

pub closed_is : (b : Bindings) (c : Context) (r : Round) (a : Lowering FunctionId) → Makes IdIs b c r a → ValueMakes b c r (m.closed a)
closed_is b c r a h s k = let x = a b c s in let q = h s k in giving IdIs IsLawful b c r s x (classes.closure x.0) q (closure_is (here x.1 r) x.0 q.lawful)

pub function_value_is : (b : Bindings) (c : Context) (r : Round) (f : Functioned) (name : Option Identifier) → FunctionedIs b c.home f.lowered → ValueMakes b c r (m.function_value f name)
function_value_is b c r f None h s k = let x = f.lowered PlainForm b c s in let q = h PlainForm c r refl s k in giving IdIs IsLawful b c r s x (classes.closure x.0) q (closure_is (here x.1 r) x.0 q.lawful)
function_value_is b c r f (Some name) h s k =
    let x = f.lowered PlainForm b c s in let q = h PlainForm c r refl s k in
    let v = temporary b c x.1 in let w = temporary_is b c r x.1 q.stands in
    let own = scoped_name b c name.span.begin in
    after IdIs IsLawful b c r s x _ q (giving VarIs IsLawful b c r x.1 v (named_function v.0 own x.0) w
    (named_functions_are_lawful (here v.1 r) v.0 own x.0 w.lawful (scoped_drawn b c r.hosts (size v.1) name.span.begin w.stands.bindings) (later IdIs VarIs b c r x.1 x.0 v ids_grow w q.lawful)))

pub class_value_is : (b : Bindings) (c : Context) (r : Round) (x : Classed) → Makes ClassMadeIs b c r x.lowered → ValueMakes b c r (m.class_value x)
class_value_is b c r x h s k =
    let y = x.lowered b c s in let q = h s k in let p = q.lawful in
    giving ClassMadeIs IsLawful b c r s y (after_running y.0.statements (variable y.0.class)) q (run_are_lawful (here y.1 r) y.0.statements (variable y.0.class) y.0.class p.statements (variable_is (here y.1 r) y.0.class p.class)).0

pub key_grows : (q : Round) (n g : ℕ) (x : ObjectKey) → q.names ≤ n → q.functions ≤ g → object_key_lawful q x ≡ true → object_key_lawful (grown n g q) x ≡ true
key_grows q n g (Written key units) l k h = h
key_grows q n g (Evaluated x) l k h = exprs_grow q n g x l k h

pub object_member_grows : Grows (Of object_member_lawful)
object_member_grows q n g (Valued key value) l k h = both (key_grows q n g key l k (left _ _ h)) (exprs_grow q n g value l k (right _ _ h))
object_member_grows q n g (Defined key kind f) l k h = both (key_grows q n g key l k (left _ _ h)) (ids_grow q n g f l k (right _ _ h))

pub object_is : (b : Bindings) (c : Context) (r : Round) (xs : List (Lowering ObjectMember)) → Every (Makes (Of object_member_lawful) b c r) xs → ValueMakes b c r (m.object_lowered xs)
object_is b c r xs h s k =
    let x = each xs b c s in let q = each_is object_member_lawful b c r object_member_grows xs h s k in
    after (AllOf object_member_lawful) IsLawful b c r s x _ q (drawing_is IsLawful b c r (object x.0) x.1 q.stands (object_more x.0 x.1.names) (objects_are_lawful (here x.1 r) x.0 x.1.names q.lawful))

-- ## Names and groups

pub named_is : (b : Bindings) (c : Context) (r : Round) (x : Identifier) → ExpressedIs b c r (finds_host b (found b c x.span.begin)) (m.named x)
named_is b c r x = record {
  called = name_called b c r x;
  reaches = λ e. record { value = name_reached b c r x e; name = name_reached b c r x e };
}

pub grouped_is : (b : Bindings) (c : Context) (r : Round) (is_host : Bool) (x : Expressed) → ExpressedIs b c r is_host x → ExpressedIs b c r is_host (m.grouped x)
grouped_is b c r is_host x h = record { called = h.called; reaches = λ e. record { value = (h.reaches e).value; name = (h.reaches e).name } }
