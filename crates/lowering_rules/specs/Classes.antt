-- Classes and super (ECMA-262, 6th edition, 12.3.5 and 14.5).
use Rattle.std.specs.Prelude.{ℕ, Bool, true, false, cond, List, [], ◌∷◌, ◌++◌, Option, None, Some}
use Rattle.std.specs.List.{flat_map}
use Rattle.core_ast.specs.declared.parts.CoreHead.TheVariants as head
use Rattle.core_ast.specs.declared.parts.CoreOp.TheVariants as op
use Rattle.core_ast.specs.declared.parts.FunctionId.{FunctionId}
use Rattle.core_ast.specs.declared.parts.Key.TheVariants.{WordKey}
use Rattle.core_ast.specs.declared.parts.Primitive.TheVariants.{AccessorPut, CheckReady, ClassGuard, ClassMake, MethodPut, RestList, SuperConstruct, SuperGet, ThisBind}
use Rattle.core_ast.specs.declared.parts.ScopedName.{ScopedName}
use Rattle.core_ast.specs.declared.parts.Var.{Var}
use Rattle.core_ast.specs.declared.tree.CoreExpr.{CoreExpr}
use Rattle.core_ast.specs.declared.tree.CoreLink.TheVariants as link
use Rattle.core_ast.specs.declared.tree.CoreStat.{CoreStat}
use Rattle.core_ast.specs.declared.tree.CoreStat.TheVariants as stat
use Rattle.core_ast.specs.declared.whole.CoreFunction.{CoreFunction}
use Rattle.core_ast.specs.declared.whole.CoreKind.TheVariants.{Class}
use Rattle.core_ast.specs.Made.{act, expression, linked, undefined, variable}
use Rattle.lowering_rules.specs.declared.classes.ClassKey.{ClassKey}
use Rattle.lowering_rules.specs.declared.classes.ClassKey.TheVariants.{ComputedName, TextName}
use Rattle.lowering_rules.specs.declared.classes.ClassMember.{ClassMember}
use Rattle.lowering_rules.specs.declared.classes.ClassNames.{ClassNames}
use Rattle.lowering_rules.specs.declared.classes.MemberKind.{MemberKind}
use Rattle.lowering_rules.specs.declared.classes.MemberKind.TheVariants.{Getter, Method, Setter}
use Rattle.lowering_rules.specs.declared.expressions.ListPart.{ListPart}
use Rattle.lowering_rules.specs.declared.expressions.ListPart.TheVariants.{Spread}
use Rattle.lowering_rules.specs.Expressions.{arguments}
use Rattle.lowering_rules.specs.Making.{flag, initialize, number, primitive, set, text, through, through_with, to_text}

-- ---- `this` and super

-- in the constructor of a derived class, and in an arrow there, `this` may be uninitialized (8.1.1.3.4)
abbrev pub this : Bool → CoreExpr
this derived = expression None head.This (cond derived (act (op.Primitive CheckReady) ∷ []) [])

-- `super(..)` (12.3.5.1): the parent is called with the present new.target, and what it gives becomes `this`
abbrev pub super_call : List ListPart → CoreExpr
super_call parts = through (through (arguments parts) SuperConstruct) ThisBind

-- `super.k` (12.3.5.3): the name, then `this`, and then the prototype of the home object
abbrev pub super_get : CoreExpr → Bool → CoreExpr
super_get key derived = through_with key SuperGet (this derived)

-- ---- constructors

-- a call without new throws before anything else (9.2.1)
abbrev pub constructor : Bool → CoreFunction → CoreFunction
constructor derived f = record f {
  kind = Class derived;
  setup = stat.Do (primitive ClassGuard) ∷ f.setup;
}

-- the body of a constructor that isn't written (14.5.14, step 10): that of a derived class is `super(...arguments)`
abbrev pub default_body : Bool → List CoreStat
default_body derived = cond derived (stat.Do (super_call (Spread (through (number 0) RestList) ∷ [])) ∷ []) []

-- ---- members (14.3.9): on the class where they are static, else on its prototype

unfoldable pub key_kept : ClassKey → List CoreStat
key_kept (TextName units) = []
key_kept (ComputedName kept key) = set kept (to_text key) ∷ []

unfoldable pub key_of : ClassKey → CoreExpr
key_of (TextName units) = text units
key_of (ComputedName kept key) = variable kept

abbrev pub closure : FunctionId → CoreExpr
closure f = expression None (head.Function f) []

-- a method remembers its home object; an accessor keeps the other half
unfoldable pub put : MemberKind → CoreExpr → FunctionId → CoreExpr → CoreExpr
put Method key f object = linked object (link.Strict (op.Primitive MethodPut) (key ∷ closure f ∷ flag true ∷ []) None)
put Getter key f object = linked object (link.Strict (op.Primitive AccessorPut) (key ∷ closure f ∷ flag false ∷ []) None)
put Setter key f object = linked object (link.Strict (op.Primitive AccessorPut) (key ∷ closure f ∷ flag true ∷ []) None)

abbrev pub home : ClassNames → Bool → Var
home c is_static = cond is_static c.class c.prototype

abbrev pub member : ClassNames → ClassMember → List CoreStat
member c m = key_kept m.key ++ stat.Do (put m.kind (key_of m.key) m.function (variable (home c m.is_static))) ∷ []

-- ---- the class (14.5.14): the heritage, the constructor, the members, and at last its inner name

unfoldable pub made : Option CoreExpr → FunctionId → CoreExpr
made None f = linked (flag false) (link.Strict (op.Primitive ClassMake) (undefined ∷ closure f ∷ []) None)
made (Some heritage) f = linked (flag true) (link.Strict (op.Primitive ClassMake) (heritage ∷ closure f ∷ []) None)

abbrev pub prototype_name : List ℕ
prototype_name = 112 ∷ 114 ∷ 111 ∷ 116 ∷ 111 ∷ 116 ∷ 121 ∷ 112 ∷ 101 ∷ []

abbrev pub prototype : ClassNames → CoreStat
prototype c = set c.prototype (linked (variable c.class) (act (op.Member (WordKey prototype_name))))

abbrev pub defined : ClassNames → Option CoreExpr → FunctionId → List ClassMember → List CoreStat
defined c heritage f members = set c.class (made heritage f) ∷ prototype c ∷ flat_map (member c) members

-- the inner name is uninitialized until the class is made, in the heritage and the names of members too
unfoldable pub class_statements : ClassNames → Option ScopedName → Option CoreExpr → FunctionId → List ClassMember → List CoreStat
class_statements c None heritage f members = defined c heritage f members
class_statements c (Some name) heritage f members =
    stat.Scoped (name ∷ []) (defined c heritage f members ++ initialize name.var (variable c.class) ∷ []) ∷ []
