-- Parts of patterns, property names, members of object literals and classes are lowered to lawful ones, where their parts are.
use Rattle.std.proofs.Common.{◌≡◌, ℕ, ◌≤◌, Bool, true, false, is_some, List, [], ◌∷◌, Option, None, Some, refl, arith}
use Rattle.es_text.specs.declared.Span.{Span}
use Rattle.es6_ast.specs.declared.tree.Identifier.{Identifier}
use Rattle.es6_ast.specs.declared.tree.Argument.TheOpen.{Class-F}
use Rattle.core_ast.specs.declared.parts.Key.TheVariants.{WordKey}
use Rattle.core_ast.specs.declared.parts.Var.{Var}
use Rattle.lowering_rules.specs.Patterns.{iterator_name}
use Rattle.core_ast.specs.declared.tree.CoreExpr.{CoreExpr}
use Rattle.core_ast.specs.Lawful.{Round}
use Rattle.lowering_laws.specs.Classes.{class_key_lawful, class_member_lawful, if_drawn, object_key_lawful, object_member_lawful}
use Rattle.lowering_laws.specs.InRound.{IsLawful, if_lawful}
use Rattle.lowering_laws.specs.Patterns.{array_part_lawful, object_part_lawful, property_lawful, target_lawful}
use Rattle.lowering_laws.specs.References.{name_lawful}
use Rattle.lowering_laws.proofs.Bodies.{default_constructors_are_lawful}
use Rattle.lowering_laws.proofs.Classes.{classes_are_lawful}
use Rattle.lowering_laws.proofs.References.{reads_are_lawful}
use Rattle.lowering_rules.specs.Naming.{with_temporary}
use Rattle.lowering_rules.specs.declared.classes.ClassKey.{ClassKey}
use Rattle.lowering_rules.specs.declared.classes.ClassKey.TheVariants.{ComputedName, TextName}
use Rattle.lowering_rules.specs.declared.patterns.ArrayPart.TheVariants.{Element, Rest}
use Rattle.lowering_rules.specs.declared.patterns.PropertyName.TheVariants.{Iterator, Literal}
use Rattle.lowering_rules.specs.declared.reference_rules.objects.ObjectKey.TheVariants.{Written}
use Rattle.lowering_rules.specs.declared.reference_rules.objects.ObjectMember.TheVariants.{Defined, Valued}
use Rattle.lowering_rules.specs.declared.reference_rules.references.MemberName.{MemberName}
use Rattle.lowering_rules.specs.declared.reference_rules.references.MemberName.TheVariants.{AtIterator, Indexed, Named}
use Rattle.lowering_rules.specs.reference_rules.References.{value_of}
use Rattle.module_lowering.specs.Bindings.{Bindings, found}
use Rattle.module_lowering.specs.Classes as rules
use Rattle.module_lowering.specs.Expressions.{indexed, optional}
use Rattle.module_lowering.specs.Lowering.{Lowering, all_by, drawing, option, temporary}
use Rattle.module_lowering.specs.Names.{name_lowered, units_of}
use Rattle.module_lowering.specs.Nodes.{BracketKey, Expressed, Keyed, Layer, Membered, Methoded, Parted, Patterned, WrittenKey}
use Rattle.module_lowering.specs.Patterns as m
use Rattle.module_lowering.specs.declared.context.Context.{Context}
use Rattle.module_lowering.specs.declared.context.FunctionForm.TheVariants.{ConstructorForm}
use Rattle.module_lowering.specs.declared.context.Role.{Role}
use Rattle.module_lowering.specs.declared.lowerer.Lowerer.{Lowerer}
use Rattle.pass_rules.proofs.pass_laws.Within.{left, right, both}
use Rattle.lowered_cores_are_lawful.specs.Conditions.{finds_host}
use Rattle.lowered_cores_are_lawful.specs.Nodes.{ArrayPartedIs, ClassMadeIs, IdIs, KeyedIs, MethodedIs, PartedIs, PatternedIs, ReachedIs, Reaches, ValueMakes, VarIs}
use Rattle.lowered_cores_are_lawful.specs.Standing.{AllOf, Every, IfOf, IfThere, Made, Makes, Of, Stands, held, here, size}
use Rattle.lowered_cores_are_lawful.proofs.Drawing.{class_key_more, property_more}
use Rattle.lowered_cores_are_lawful.proofs.Expressions.{indexed_is, key_grows, optional_is}
use Rattle.lowered_cores_are_lawful.proofs.Grown.{grown}
use Rattle.lowered_cores_are_lawful.proofs.Making.{Grows, after, choose_is, define_is, drawing_is, exprs_grow, extends_one, giving, ids_grow, if_grow, later, lists_by_is, newest, option_is, stay, temporary_is, vars_grow}
use Rattle.lowered_cores_are_lawful.proofs.Naming.{inner_drawn, name_reached}
use Rattle.lowered_cores_are_lawful.proofs.Patterns.{property_grows}
use Rattle.lowered_cores_are_lawful.proofs.Statements.{if_some}

-- ## Parts of patterns

property_by : (b : Bindings) (c : Context) (r : Round) (name : MemberName) (s : Lowerer) → Stands b c r.hosts s → name_lawful (here s r) name ≡ true → Made (Of property_lawful) b c r s (drawing (m.property_of name) b c s)
property_by b c r (Named key) s k h = stay (Of property_lawful) b c r s (Literal key) k h
property_by b c r (Indexed x) s k h =
    let q = with_temporary s.names in let e = extends_one s.names in
    drawing_is (Of property_lawful) b c r (m.property_of (Indexed x)) s k (property_more (Indexed x) s.names) (both (newest s.names) (exprs_grow (here s r) (size (record s { names = q })) _ x e.more (omega arith) h))
property_by b c r AtIterator s k h = stay (Of property_lawful) b c r s Iterator k refl

property_name_is : (b : Bindings) (c : Context) (r : Round) (key : Keyed) → KeyedIs b c r key → Makes (Of property_lawful) b c r (m.property_name key)
property_name_is b c r (WrittenKey key units) h s k = stay (Of property_lawful) b c r s (Literal key) k h
property_name_is b c r (BracketKey x) h s k =
    let y = indexed x b c s in let q = indexed_is b c r x h s k in after (Of name_lawful) (Of property_lawful) b c r s y _ q (property_by b c r y.0 y.1 q.stands q.lawful)

pub part_is : (b : Bindings) (c : Context) (r : Round) (p : Patterned) (default : Option Expressed) → PatternedIs b c r p → IfThere (Reaches b c r) default → PartedIs b c r (record { pattern = p; default = optional default })
part_is b c r p default h d = record { pattern = h; default = optional_is b c r default d }

pub element_taken_is : (b : Bindings) (c : Context) (r : Round) (p : Parted) → PartedIs b c r p → ArrayPartedIs b c r (record { names = p.pattern.names; has_expression = m.part_expression p; lowered = m.element_taken p })
element_taken_is b c r p h role i s k d =
    let t = m.part_taken p role i.value b c s in let q = h.pattern.taken role p.default h.default i.value s k d.3 in giving (Of target_lawful) (Of array_part_lawful) b c r s t (Element t.0) q q.lawful

pub rest_taken_is : (b : Bindings) (c : Context) (r : Round) (p : Patterned) → PatternedIs b c r p → ArrayPartedIs b c r (record { names = p.names; has_expression = p.has_expression; lowered = m.rest_taken p })
rest_taken_is b c r p h role i s k d =
    let t = p.taken role None i.value b c s in let q = h.taken role None tt i.value s k d.3 in giving (Of target_lawful) (Of array_part_lawful) b c r s t (Rest t.0) q q.lawful

pub property_taken_is : (b : Bindings) (c : Context) (r : Round) (key : Keyed) (p : Parted) → KeyedIs b c r key → PartedIs b c r p → (role : Role) (v : Var) (s : Lowerer) → Stands b c r.hosts s → VarIs (here s r) v → Made (Of object_part_lawful) b c r s (m.property_taken key p role v b c s)
property_taken_is b c r key p h d role v s k w =
    let x = m.property_name key b c s in let q = property_name_is b c r key h s k in
    let t = m.part_taken p role v b c x.1 in let i = d.pattern.taken role p.default d.default v x.1 q.stands (later VarIs (Of property_lawful) b c r s v x vars_grow q w) in
    after (Of property_lawful) (Of object_part_lawful) b c r s x _ q (giving (Of target_lawful) (Of object_part_lawful) b c r x.1 t (record { name = x.0; target = t.0 }) i
    (both (later (Of property_lawful) (Of target_lawful) b c r x.1 x.0 t property_grows i q.lawful) i.lawful))

-- ## Members of object literals

object_key_by : (q : Round) (name : MemberName) → name_lawful q name ≡ true → object_key_lawful q (m.object_key_of name) ≡ true
unfolding m.object_key_of
object_key_by q (Named key) h = h
object_key_by q (Indexed x) h = h
object_key_by q AtIterator h = refl

object_key_is : (b : Bindings) (c : Context) (r : Round) (key : Keyed) → KeyedIs b c r key → Makes (Of object_key_lawful) b c r (m.object_key key)
object_key_is b c r (WrittenKey key units) h s k = stay (Of object_key_lawful) b c r s (Written key units) k h
object_key_is b c r (BracketKey x) h s k = let y = indexed x b c s in let q = indexed_is b c r x h s k in giving (Of name_lawful) (Of object_key_lawful) b c r s y (m.object_key_of y.0) q (object_key_by (here y.1 r) y.0 q.lawful)

pub valued_member_is : (b : Bindings) (c : Context) (r : Round) (key : Keyed) (a : Lowering CoreExpr) → KeyedIs b c r key → ValueMakes b c r a → Makes (Of object_member_lawful) b c r (m.valued_member key a)
valued_member_is b c r key a h d s k =
    let x = m.object_key key b c s in let p = object_key_is b c r key h s k in let y = a b c x.1 in let q = d x.1 p.stands in
    after (Of object_key_lawful) (Of object_member_lawful) b c r s x _ p (giving IsLawful (Of object_member_lawful) b c r x.1 y (Valued x.0 y.0) q (both (later (Of object_key_lawful) IsLawful b c r x.1 x.0 y key_grows q p.lawful) q.lawful))

pub defined_member_is : (b : Bindings) (c : Context) (r : Round) (x : Methoded) → MethodedIs b c r x → Makes (Of object_member_lawful) b c r (m.defined_member x)
defined_member_is b c r x h s k =
    let y = m.object_key x.key b c s in let p = object_key_is b c r x.key h.key s k in
    let f = x.lowered (m.member_form x.kind) b c y.1 in let q = h.function (m.member_form x.kind) c r refl y.1 p.stands in
    after (Of object_key_lawful) (Of object_member_lawful) b c r s y _ p (giving IdIs (Of object_member_lawful) b c r y.1 f (Defined y.0 (m.member_kind x.kind) f.0) q (both (later (Of object_key_lawful) IdIs b c r y.1 y.0 f key_grows q p.lawful) q.lawful))

name_valued_is : (b : Bindings) (c : Context) (r : Round) (x : Identifier) → finds_host b (found b c x.span.begin) ≡ false → ValueMakes b c r (m.name_valued x)
name_valued_is b c r x e s k = let y = name_lowered x b c s in let q = name_reached b c r x e s k in giving ReachedIs IsLawful b c r s y (value_of y.0) q (reads_are_lawful (here y.1 r) y.0 q.lawful).0

pub shorthand_is : (b : Bindings) (c : Context) (r : Round) (span : Span) (name : List ℕ) → finds_host b (found b c span.begin) ≡ false → Makes (Of object_member_lawful) b c r (m.shorthand span name)
shorthand_is b c r span name e = valued_member_is b c r (WrittenKey (WordKey name) (units_of name)) (m.name_valued (record { span = span; name = name })) refl (name_valued_is b c r (record { span = span; name = name }) e)

-- ## Classes

class_key_by : (b : Bindings) (c : Context) (r : Round) (name : MemberName) (s : Lowerer) → Stands b c r.hosts s → name_lawful (here s r) name ≡ true → Made (Of class_key_lawful) b c r s (drawing (rules.class_key_of name) b c s)
class_key_by b c r (Named key) s j h = stay (Of class_key_lawful) b c r s (TextName []) j refl
class_key_by b c r (Indexed x) s j h =
    let q = with_temporary s.names in let e = extends_one s.names in
    drawing_is (Of class_key_lawful) b c r (rules.class_key_of (Indexed x)) s j (class_key_more (Indexed x) s.names) (both (newest s.names) (exprs_grow (here s r) (size (record s { names = q })) _ x e.more (omega arith) h))
class_key_by b c r AtIterator s j h = stay (Of class_key_lawful) b c r s (TextName iterator_name) j refl

class_key_is : (b : Bindings) (c : Context) (r : Round) (key : Keyed) → KeyedIs b c r key → Makes (Of class_key_lawful) b c r (rules.class_key key)
class_key_is b c r (WrittenKey key units) h s j = stay (Of class_key_lawful) b c r s (TextName units) j refl
class_key_is b c r (BracketKey x) h s j =
    let y = indexed x b c s in let q = indexed_is b c r x h s j in after (Of name_lawful) (Of class_key_lawful) b c r s y _ q (class_key_by b c r y.0 y.1 q.stands q.lawful)

class_key_grows : (q : Round) (n g : ℕ) (x : ClassKey) → q.names ≤ n → q.functions ≤ g → class_key_lawful q x ≡ true → class_key_lawful (grown n g q) x ≡ true
class_key_grows q n g (TextName units) l i h = refl
class_key_grows q n g (ComputedName kept key) l i h = both (vars_grow q n g kept l i (left _ _ h)) (exprs_grow q n g key l i (right _ _ h))

class_member_grows : Grows (Of class_member_lawful)
class_member_grows q n g x l i h = both (class_key_grows q n g x.key l i (left _ _ h)) (ids_grow q n g x.function l i (right _ _ h))

member_is : (b : Bindings) (c : Context) (r : Round) (x : Membered) → MethodedIs b c r x.method → Makes (Of class_member_lawful) b c r (rules.member_lowered x)
member_is b c r x h s j =
    let y = rules.class_key x.method.key b c s in let p = class_key_is b c r x.method.key h.key s j in let form = m.member_form x.method.kind in
    let f = x.method.lowered form b c y.1 in let q = h.function form c r refl y.1 p.stands in
    after (Of class_key_lawful) (Of class_member_lawful) b c r s y _ p (giving IdIs (Of class_member_lawful) b c r y.1 f (record { is_static = x.is_static; kind = m.member_kind x.method.kind; key = y.0; function = f.0 }) q
    (both (later (Of class_key_lawful) IdIs b c r y.1 y.0 f class_key_grows q p.lawful) q.lawful))

further_is : (b : Bindings) (c : Context) (r : Round) (x : Membered) → MethodedIs b c r x.method → Makes (AllOf class_member_lawful) b c r (rules.further_member x)
further_is b c r x h = choose_is (AllOf class_member_lawful) b c r (rules.is_constructor x) _ _ (λ e s j. stay (AllOf class_member_lawful) b c r s [] j refl)
    (λ e s j. let y = rules.member_lowered x b c s in let q = member_is b c r x h s j in giving (Of class_member_lawful) (AllOf class_member_lawful) b c r s y (y.0 ∷ []) q (both q.lawful refl))

further_are : (b : Bindings) (c : Context) (r : Round) (xs : List Membered) → Every (λ (x : Membered). MethodedIs b c r x.method) xs → Every (λ x. Makes (AllOf class_member_lawful) b c r (rules.further_member x)) xs
further_are b c r [] h = tt
further_are b c r (x ∷ xs) h = (further_is b c r x h.0, further_are b c r xs h.1)

constructor_is : (b : Bindings) (c : Context) (r : Round) (derived : Bool) (xs : List Membered) → Every (λ (x : Membered). MethodedIs b c r x.method) xs → Makes IdIs b c r (rules.constructor_of derived xs)
constructor_is b c r derived [] h s j = define_is b c r (rules.default_constructor derived) s j (default_constructors_are_lawful (size s) r.hosts (held s) derived)
constructor_is b c r derived (x ∷ xs) h s j = choose_is IdIs b c r (rules.is_constructor x) _ _ (λ e. h.0.function (ConstructorForm derived) c r refl) (λ e. constructor_is b c r derived xs h.1) s j

inner_is : (b : Bindings) (c : Context) (r : Round) (name : Option Identifier) (s : Lowerer) → Stands b c r.hosts s → if_drawn (here s r) (rules.inner_of name b c) ≡ true
inner_is b c r None s j = refl
inner_is b c r (Some x) s j = inner_drawn b c r.hosts (size s) x.span.begin j.bindings

pub class_is : (b : Bindings) (c : Context) (r : Round) (x : Layer Class-F) → IfThere (Reaches b c r) x.heritage → Every (λ (y : Membered). MethodedIs b c r y.method) x.members → Makes ClassMadeIs b c r (rules.class_definition x)
class_is b c r x h d s j =
    let derived = is_some x.heritage in
    let v = temporary b c s in let p1 = temporary_is b c r s j in let w = temporary b c v.1 in let p2 = temporary_is b c r v.1 p1.stands in
    let y = option (optional x.heritage) b c w.1 in let p3 = option_is IsLawful b c r (optional x.heritage) (optional_is b c r x.heritage h) w.1 p2.stands in
    let f = rules.constructor_of derived x.members b c y.1 in let p4 = constructor_is b c r derived x.members d y.1 p3.stands in
    let z = all_by rules.further_member x.members b c f.1 in let p5 = lists_by_is class_member_lawful b c r class_member_grows rules.further_member x.members (further_are b c r x.members d) f.1 p4.stands in
    let I : Round → Option CoreExpr → Type 0 = Of (λ q e. if_lawful e q) in let M = AllOf class_member_lawful in
    let v2 = later VarIs M b c r f.1 v.0 z vars_grow p5 (later VarIs IdIs b c r y.1 v.0 f vars_grow p4 (later VarIs (IfOf IsLawful) b c r w.1 v.0 y vars_grow p3 (later VarIs VarIs b c r v.1 v.0 w vars_grow p2 p1.lawful))) in
    let w2 = later VarIs M b c r f.1 w.0 z vars_grow p5 (later VarIs IdIs b c r y.1 w.0 f vars_grow p4 (later VarIs (IfOf IsLawful) b c r w.1 w.0 y vars_grow p3 p2.lawful)) in
    let y2 = later I M b c r f.1 y.0 z if_grow p5 (later I IdIs b c r y.1 y.0 f if_grow p4 (if_some (here y.1 r) y.0 p3.lawful)) in
    let f2 = later IdIs M b c r f.1 f.0 z ids_grow p5 p4.lawful in
    record {
      names = let a = p1.names in let e = p2.names in let g = p3.names in let o = p4.names in let q = p5.names in omega arith;
      functions = let a = p1.functions in let e = p2.functions in let g = p3.functions in let o = p4.functions in let q = p5.functions in omega arith;
      stands = p5.stands;
      lawful = record {
        class = v2;
        statements = classes_are_lawful (here z.1 r) (record { class = v.0; prototype = w.0 }) (rules.inner_of x.name b c) y.0 f.0 z.0 v2 w2 (inner_is b c r x.name z.1 p5.stands) y2 f2 p5.lawful;
      };
    }
