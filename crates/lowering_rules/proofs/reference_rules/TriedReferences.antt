-- Small references, with what the definitions give of them.
use Rattle.std.proofs.Common.{◌≡◌, Bool, List, [], ◌∷◌, ◌++◌, true, false, None, refl}
use Rattle.core_ast.specs.declared.parts.Binary.TheVariants.{Add}
use Rattle.core_ast.specs.declared.parts.CoreHead.TheVariants as head
use Rattle.core_ast.specs.declared.parts.CoreOp.TheVariants as op
use Rattle.core_ast.specs.declared.parts.Key.{Key}
use Rattle.core_ast.specs.declared.parts.Key.TheVariants.{TextKey}
use Rattle.core_ast.specs.declared.parts.Primitive.TheVariants.{CheckReady, IterStart, RefuseConst, SpreadList, ToText}
use Rattle.core_ast.specs.declared.parts.Unary.TheVariants.{Plus}
use Rattle.core_ast.specs.declared.parts.Update.TheVariants.{IncrementAfter, IncrementBefore}
use Rattle.core_ast.specs.declared.parts.Var.{Var}
use Rattle.core_ast.specs.declared.tree.CoreExpr.{CoreExpr}
use Rattle.core_ast.specs.declared.tree.CoreLink.{CoreLink}
use Rattle.core_ast.specs.declared.tree.CoreLink.TheVariants as link
use Rattle.core_ast.specs.declared.tree.CoreStat.TheVariants as stat
use Rattle.core_ast.specs.Made.{act, acting, expression, linked, variable}
use Rattle.core_ast.specs.Names.{next}
use Rattle.lowering_rules.specs.declared.expressions.ListPart.TheVariants.{Single, Spread}
use Rattle.lowering_rules.specs.declared.naming.Names.{Names}
use Rattle.lowering_rules.specs.declared.patterns.PropertyName.TheVariants.{Computed}
use Rattle.lowering_rules.specs.declared.patterns.VariableTarget.{VariableTarget}
use Rattle.lowering_rules.specs.declared.reference_rules.references.Compound.TheVariants.{Operates}
use Rattle.lowering_rules.specs.declared.reference_rules.references.MemberName.TheVariants.{AtIterator, Indexed, Named}
use Rattle.lowering_rules.specs.declared.reference_rules.references.Reached.TheVariants.{Property, Value, Variable}
use Rattle.lowering_rules.specs.Expressions as expressions
use Rattle.lowering_rules.specs.Making.{flag, number, primitive, set}
use Rattle.lowering_rules.specs.Naming.{with_temporary}
use Rattle.lowering_rules.specs.reference_rules.Drawing.{drawn}
use Rattle.lowering_rules.specs.Patterns as patterns
use Rattle.lowering_rules.specs.reference_rules.References as references

abbrev target : Var → Bool → Bool → VariableTarget
target x checked constant = record { var = x; checked = checked; constant = constant }

-- `f()`
abbrev calling : Var → CoreExpr
calling f = linked (variable f) (link.Strict op.Call [] None)

abbrev ready : Var → CoreExpr
ready x = linked (variable x) (act (op.Primitive CheckReady))

-- ---- names

-- x = f(), where x may be uninitialized
pub unsure_name_assigned : (x f : Var) (n : Names) →
    references.assigned (Variable (target x true false) false) (calling f) n
    ≡ drawn
    (expression None (head.Variable f)
    (link.Strict op.Call [] None
    ∷ act (op.Set (next n.fresh))
    ∷ acting op.Then (ready x)
    ∷ acting op.Then (linked (variable (next n.fresh)) (act (op.Set x)))
    ∷ []))
    (with_temporary n)
unfolding references.assigned
unsure_name_assigned x f n = refl

-- the same where it has its value
pub sure_name_assigned : (x f : Var) (n : Names) →
    references.assigned (Variable (target x false false) false) (calling f) n
    ≡ drawn (linked (calling f) (act (op.Set x))) n
unfolding references.assigned
sure_name_assigned x f n = refl

-- c = f(), a constant that may be uninitialized
pub constant_assigned : (c f : Var) (n : Names) →
    references.assigned (Variable (target c true true) false) (calling f) n
    ≡ drawn (linked (linked (calling f) (acting op.Then (ready c))) (acting op.Then (primitive RefuseConst))) n
unfolding references.assigned
constant_assigned c f n = refl

-- i = f() and i += f(), of an import that may end at what is uninitialized
pub import_assigned : (i f : Var) (n : Names) →
    references.assigned (Variable (target i true true) true) (calling f) n
    ≡ drawn (linked (calling f) (acting op.Then (primitive RefuseConst))) n
unfolding references.assigned
import_assigned i f n = refl

pub import_operated : (i f : Var) (n : Names) →
    references.operated_at (Variable (target i true true) true) (Operates Add) (calling f) n
    ≡ drawn (linked (linked (ready i) (acting (op.Operator Add) (calling f))) (acting op.Then (primitive RefuseConst))) n
unfolding references.operated_at references.operation
import_operated i f n = refl

-- x++ and ++x
pub name_updated_after : (x : Var) (n : Names) →
    references.updated (Variable (target x true false) false) IncrementAfter n
    ≡ drawn
    (expression None (head.Variable x)
    (act (op.Primitive CheckReady)
    ∷ act (op.Unary Plus)
    ∷ act (op.Set (next n.fresh))
    ∷ acting op.Then (linked (linked (variable (next n.fresh)) (acting (op.Operator Add) (number 1))) (act (op.Set x)))
    ∷ acting op.Then (variable (next n.fresh))
    ∷ []))
    (with_temporary n)
unfolding references.updated references.gives_old references.by_one
name_updated_after x n = refl

pub name_updated_before : (x : Var) (n : Names) →
    references.updated (Variable (target x false false) false) IncrementBefore n
    ≡ drawn
    (expression None (head.Variable x)
    (act (op.Unary Plus) ∷ acting (op.Operator Add) (number 1) ∷ act (op.Set x) ∷ []))
    n
unfolding references.updated references.gives_old references.by_one
name_updated_before x n = refl

-- ---- properties

abbrev based : Var → CoreExpr
based x = linked (variable x) (act (op.Member (TextKey patterns.base_name)))

-- behind o: the temporaries b and c keep it and the key k
abbrev settling : Var → Var → Var → List CoreLink
settling b c k =
    act (op.Set b)
    ∷ acting op.Then (linked (variable k) (act (op.Set c)))
    ∷ acting op.Then (based b)
    ∷ acting op.Then (linked (linked (variable c) (act (op.Primitive ToText))) (act (op.Set c)))
    ∷ []

abbrev at : Var → Var → CoreExpr
at b c = linked (variable b) (acting op.Index (variable c))

abbrev second : Names → Var
second n = next (with_temporary n).fresh

-- o.k = 5
pub member_assigned_at_once : (o : Var) (k : Key) (n : Names) →
    references.assigned (Property (variable o) (Named k)) (number 5) n
    ≡ drawn (expression None (head.Variable o) (act (op.Member k) ∷ acting op.Put (number 5) ∷ [])) n
unfolding references.assigned references.is_direct references.is_still_head references.member
member_assigned_at_once o k n = refl

-- o.k = f()
pub member_assigned_late : (o f : Var) (k : Key) (n : Names) →
    references.assigned (Property (variable o) (Named k)) (calling f) n
    ≡ drawn
    (expression None (head.Variable o)
    (act (op.Set (next n.fresh))
    ∷ acting op.Then (based (next n.fresh))
    ∷ acting op.Then (linked (linked (variable (next n.fresh)) (act (op.Member k))) (acting op.Put (calling f)))
    ∷ []))
    (with_temporary n)
unfolding references.assigned references.is_direct references.is_still_head references.drawn_name references.settled patterns.member_at
member_assigned_late o f k n = refl

-- o[k] = f()
pub index_assigned : (o k f : Var) (n : Names) →
    references.assigned (Property (variable o) (Indexed (variable k))) (calling f) n
    ≡ drawn
    (expression None (head.Variable o)
    (settling (next n.fresh) (second n) k
    ++ acting op.Then (linked (at (next n.fresh) (second n)) (acting op.Put (calling f)))
    ∷ []))
    (with_temporary (with_temporary n))
unfolding references.assigned references.is_direct references.drawn_name references.settled patterns.member_at
index_assigned o k f n = refl

-- o.k += f() and o[k] += f()
pub member_operated : (o f : Var) (k : Key) (n : Names) →
    references.operated_at (Property (variable o) (Named k)) (Operates Add) (calling f) n
    ≡ drawn (expression None (head.Variable o) (act (op.Member k) ∷ acting (op.Update Add) (calling f) ∷ [])) n
unfolding references.operated_at references.member_operated
member_operated o f k n = refl

pub index_operated : (o k f : Var) (n : Names) →
    references.operated_at (Property (variable o) (Indexed (variable k))) (Operates Add) (calling f) n
    ≡ drawn
    (expression None (head.Variable o)
    (settling (next n.fresh) (second n) k
    ++ acting op.Then (linked (at (next n.fresh) (second n))
    (acting op.Put (linked (at (next n.fresh) (second n)) (acting (op.Operator Add) (calling f)))))
    ∷ []))
    (with_temporary (with_temporary n))
unfolding references.operated_at references.member_operated references.operation references.drawn_name references.settled patterns.member_at patterns.property_read
index_operated o k f n = refl

-- o[k]++: a third temporary keeps the old number
pub index_updated : (o k : Var) (n : Names) →
    references.updated (Property (variable o) (Indexed (variable k))) IncrementAfter n
    ≡ drawn
    (expression None (head.Variable o)
    (settling (next n.fresh) (second n) k
    ++ acting op.Then (linked (linked (at (next n.fresh) (second n)) (act (op.Unary Plus))) (act (op.Set (second (with_temporary n)))))
    ∷ acting op.Then (linked (at (next n.fresh) (second n))
    (acting op.Put (linked (variable (second (with_temporary n))) (acting (op.Operator Add) (number 1)))))
    ∷ acting op.Then (variable (second (with_temporary n)))
    ∷ []))
    (with_temporary (with_temporary (with_temporary n)))
unfolding references.updated references.member_updated references.gives_old references.by_one references.drawn_name references.settled patterns.member_at patterns.property_read
index_updated o k n = refl

-- delete o[k] and delete f()
pub index_deleted : (o k : Var) →
    references.deleted (Property (variable o) (Indexed (variable k))) ≡ linked (at o k) (act op.Delete)
unfolding references.deleted references.member
index_deleted o k = refl

pub value_deleted : (f : Var) → references.deleted (Value (calling f)) ≡ linked (calling f) (acting op.Then (flag true))
unfolding references.deleted
value_deleted f = refl

-- the statements that settle a target of a pattern do the same as the expression here, one after the other
pub settled_as_statements : (b c : Var) (o k : CoreExpr) →
    patterns.member_before (record { base = b; object = o; name = Computed c k })
    ≡ set b o
    ∷ set c k
    ∷ stat.Do (based b)
    ∷ set c (linked (variable c) (act (op.Primitive ToText)))
    ∷ []
unfolding patterns.member_found
settled_as_statements b c o k = refl

-- ---- calls

-- o.k(f())
pub method_called : (o f : Var) (k : Key) (n : Names) →
    references.called (Property (variable o) (Named k)) (Single (calling f) ∷ []) None n
    ≡ drawn (expression None (head.Variable o) (act (op.Member k) ∷ acting op.Call (calling f) ∷ [])) n
unfolding references.callee references.is_spread references.single references.is_iterator references.member expressions.call
method_called o f k n = refl

-- o.k(...f())
pub method_called_with_list : (o f : Var) (k : Key) (n : Names) →
    references.called (Property (variable o) (Named k)) (Spread (calling f) ∷ []) None n
    ≡ drawn
    (expression None (head.Variable o)
    (act (op.Set (next n.fresh))
    ∷ act (op.Member k)
    ∷ link.Strict op.CallListWith
    (variable (next n.fresh)
    ∷ expression None head.ArgumentList (link.Strict (op.Primitive SpreadList) (calling f ∷ number 1 ∷ []) None ∷ [])
    ∷ [])
    None
    ∷ []))
    (with_temporary n)
unfolding references.callee references.is_spread references.is_iterator references.member_read expressions.spread_call expressions.list_link
method_called_with_list o f k n = refl

-- o[Symbol.iterator]()
pub iterator_called : (o : Var) (n : Names) →
    references.called (Property (variable o) AtIterator) [] None n
    ≡ drawn
    (expression None (head.Variable o)
    (act (op.Set (next n.fresh))
    ∷ acting (op.Primitive IterStart) (number 1)
    ∷ acting op.CallWith (variable (next n.fresh))
    ∷ []))
    (with_temporary n)
unfolding references.callee references.is_iterator references.member_read expressions.call
iterator_called o n = refl

-- (0, o.k)(): no receiver
pub value_called : (o : Var) (k : Key) (n : Names) →
    references.called (Value (linked (number 0) (acting op.Then (linked (variable o) (act (op.Member k)))))) [] None n
    ≡ drawn (linked (linked (number 0) (acting op.Then (linked (variable o) (act (op.Member k))))) (link.Strict op.Call [] None)) n
unfolding references.callee expressions.call
value_called o k n = refl
