-- The rules that draw names only draw more.
use Rattle.std.specs.List.{list_any}
use Rattle.std.proofs.Common.{Bool, true, false, ◌||◌, List, Option}
use Rattle.es_outside.specs.declared.events.Site.{Site}
use Rattle.core_ast.specs.declared.parts.Update.{Update}
use Rattle.core_ast.specs.declared.tree.CoreExpr.{CoreExpr}
use Rattle.core_ast.specs.Lawful.{is_empty}
use Rattle.lowering_rules.specs.Naming.{Drawn, drawn_iteration, with_raw, with_temporary}
use Rattle.lowering_rules.specs.declared.expressions.ListPart.{ListPart}
use Rattle.lowering_rules.specs.declared.naming.Names.{Names}
use Rattle.lowering_rules.specs.declared.patterns.VariableTarget.{VariableTarget}
use Rattle.lowering_rules.specs.declared.reference_rules.objects.ObjectMember.{ObjectMember}
use Rattle.lowering_rules.specs.declared.reference_rules.references.Compound.{Compound}
use Rattle.lowering_rules.specs.declared.reference_rules.references.Compound.TheVariants.{Operates, Powers}
use Rattle.lowering_rules.specs.declared.reference_rules.references.MemberName.{MemberName}
use Rattle.lowering_rules.specs.declared.reference_rules.references.MemberName.TheVariants.{AtIterator, Indexed, Named}
use Rattle.lowering_rules.specs.declared.reference_rules.references.Reached.{Reached}
use Rattle.lowering_rules.specs.declared.reference_rules.references.Reached.TheVariants.{Inherited, Property, Value, Variable}
use Rattle.lowering_rules.specs.reference_rules.Objects as o
use Rattle.lowering_rules.specs.reference_rules.References as s
use Rattle.module_lowering.specs.Classes.{class_key_of}
use Rattle.module_lowering.specs.Patterns.{member_reached, property_of}
use Rattle.pass_rules.proofs.pass_laws.Within.{either}
use Rattle.lowered_cores_are_lawful.proofs.Making.{Extends, extends_more, extends_one, extends_raw, extends_same}

abbrev Extended : {A : Type 0} → Names → Drawn A → Type 0
Extended n d = Extends n d.names

-- ## Names and properties

name_assigned_more : (t : VariableTarget) (e : CoreExpr) (n : Names) → Extended n (s.name_assigned t e n)
name_assigned_more t e n = either (Extended n) t.checked (either (Extended n) t.constant (extends_same n) (extends_one n)) (extends_same n)

name_updated_more : (t : VariableTarget) (u : Update) (n : Names) → Extended n (s.name_updated t u n)
name_updated_more t u n = either (Extended n) (s.gives_old u) (extends_one n) (extends_same n)

pub drawn_member_more : (object : CoreExpr) (name : MemberName) (n : Names) → Extended n (s.drawn_member object name n)
unfolding s.drawn_name
drawn_member_more object (Named key) n = extends_one n
drawn_member_more object (Indexed key) n = extends_more n (with_temporary n) (with_temporary (with_temporary n)) (extends_one n) (extends_one (with_temporary n))
drawn_member_more object AtIterator n = extends_one n

member_assigned_more : (object : CoreExpr) (name : MemberName) (e : CoreExpr) (n : Names) → Extended n (s.member_assigned object name e n)
member_assigned_more object name e n = either (Extended n) (s.is_direct name e) (extends_same n) (drawn_member_more object name n)

pub assigned_more : (x : Reached) (e : CoreExpr) (n : Names) → Extended n (s.assigned x e n)
unfolding s.assigned
assigned_more (Value x) e n = extends_same n
assigned_more (Variable t imported) e n = name_assigned_more (s.plain_target t imported) e n
assigned_more (Property object name) e n = member_assigned_more object name e n
assigned_more (Inherited x this) e n = extends_same n

member_operated_more : (object : CoreExpr) (name : MemberName) (c : Compound) (e : CoreExpr) (n : Names) → Extended n (s.member_operated object name c e n)
unfolding s.member_operated
member_operated_more object (Named key) (Operates b) e n = extends_same n
member_operated_more object (Named key) Powers e n = drawn_member_more object (Named key) n
member_operated_more object (Indexed key) c e n = drawn_member_more object (Indexed key) n
member_operated_more object AtIterator c e n = drawn_member_more object AtIterator n

pub operated_more : (x : Reached) (c : Compound) (e : CoreExpr) (n : Names) → Extended n (s.operated_at x c e n)
unfolding s.operated_at
operated_more (Value x) c e n = extends_same n
operated_more (Variable t imported) c e n = extends_same n
operated_more (Property object name) c e n = member_operated_more object name c e n
operated_more (Inherited x this) c e n = extends_same n

settled_updated_more : (object : CoreExpr) (name : MemberName) (u : Update) (n : Names) → Extended n (s.settled_updated object name u n)
settled_updated_more object name u n =
    let m = (s.drawn_member object name n).names in let q = drawn_member_more object name n in
    either (Extended n) (s.gives_old u) (extends_more n m (with_temporary m) q (extends_one m)) q

member_updated_more : (object : CoreExpr) (name : MemberName) (u : Update) (n : Names) → Extended n (s.member_updated object name u n)
unfolding s.member_updated
member_updated_more object (Named key) u n = extends_same n
member_updated_more object (Indexed key) u n = settled_updated_more object (Indexed key) u n
member_updated_more object AtIterator u n = settled_updated_more object AtIterator u n

pub updated_more : (x : Reached) (u : Update) (n : Names) → Extended n (s.updated x u n)
unfolding s.updated
updated_more (Value x) u n = extends_same n
updated_more (Variable t imported) u n = name_updated_more t u n
updated_more (Property object name) u n = member_updated_more object name u n
updated_more (Inherited x this) u n = extends_same n

-- ## Calls and object literals

pub callee_more : (listed : Bool) (x : Reached) (n : Names) → Extended n (s.callee listed x n)
unfolding s.callee
callee_more listed (Value x) n = extends_same n
callee_more listed (Variable t imported) n = extends_same n
callee_more listed (Inherited x this) n = extends_same n
callee_more listed (Property object name) n = either (Extended n) (listed || s.is_iterator name) (extends_one n) (extends_same n)

pub called_more : (x : Reached) (parts : List ListPart) (site : Option Site) (n : Names) → Extended n (s.called x parts site n)
called_more x parts site n = either (Extended n) (list_any s.is_spread parts) (callee_more true x n) (callee_more false x n)

pub tag_more : (x : Reached) (object : CoreExpr) (values : List CoreExpr) (site : Option Site) (n : Names) → Extended n (s.called_as_tag x object values site n)
tag_more x object values site n = callee_more false x n

pub object_with_more : (first : CoreExpr) (rest : List ObjectMember) (n : Names) → Extended n (o.object_with first rest n)
object_with_more first rest n = either (Extended n) (is_empty rest) (extends_same n) (extends_one n)

pub object_more : (ms : List ObjectMember) (n : Names) → Extended n (o.object ms n)
object_more ms n = object_with_more _ _ n

-- ## Iterations, and names of properties that are kept

pub iteration_more : (n : Names) → Extended n (drawn_iteration n)
iteration_more n =
    let n1 = with_temporary n in let n2 = with_temporary n1 in let n3 = with_temporary n2 in let n4 = with_temporary n3 in
    extends_more n n1 (with_raw n4) (extends_one n) (extends_more n1 n2 (with_raw n4) (extends_one n1) (extends_more n2 n3 (with_raw n4) (extends_one n2) (extends_more n3 n4 (with_raw n4) (extends_one n3) (extends_raw n4))))

pub property_more : (x : MemberName) (n : Names) → Extended n (property_of x n)
property_more (Named key) n = extends_same n
property_more (Indexed x) n = extends_one n
property_more AtIterator n = extends_same n

pub class_key_more : (x : MemberName) (n : Names) → Extended n (class_key_of x n)
class_key_more (Named key) n = extends_same n
class_key_more (Indexed x) n = extends_one n
class_key_more AtIterator n = extends_same n

pub member_reached_more : (x : Reached) (n : Names) → Extended n (member_reached x n)
member_reached_more (Value x) n = extends_same n
member_reached_more (Variable t imported) n = extends_same n
member_reached_more (Property object name) n = drawn_member_more object name n
member_reached_more (Inherited x this) n = extends_same n
