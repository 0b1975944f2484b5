-- Small object literals, with what the definitions give of them.
use Rattle.std.proofs.Common.{◌≡◌, ℕ, List, [], ◌∷◌, true, false, None, refl}
use Rattle.core_ast.specs.declared.parts.CoreHead.TheVariants as head
use Rattle.core_ast.specs.declared.parts.CoreOp.TheVariants as op
use Rattle.core_ast.specs.declared.parts.FunctionId.{FunctionId}
use Rattle.core_ast.specs.declared.parts.Key.{Key}
use Rattle.core_ast.specs.declared.parts.Primitive.TheVariants.{AccessorPut, MethodPut, ToText}
use Rattle.core_ast.specs.declared.tree.CoreExpr.{CoreExpr}
use Rattle.core_ast.specs.declared.tree.CoreLink.{CoreLink}
use Rattle.core_ast.specs.declared.tree.CoreLink.TheVariants as link
use Rattle.core_ast.specs.Made.{act, acting, expression, linked, variable}
use Rattle.core_ast.specs.Names.{next}
use Rattle.lowering_rules.specs.declared.classes.MemberKind.TheVariants.{Getter, Method}
use Rattle.lowering_rules.specs.declared.naming.Names.{Names}
use Rattle.lowering_rules.specs.declared.reference_rules.objects.ObjectKey.TheVariants.{Evaluated, Written}
use Rattle.lowering_rules.specs.declared.reference_rules.objects.ObjectMember.TheVariants.{Defined, Valued}
use Rattle.lowering_rules.specs.Classes as classes
use Rattle.lowering_rules.specs.Making.{flag, text}
use Rattle.lowering_rules.specs.Naming.{with_temporary}
use Rattle.lowering_rules.specs.reference_rules.Drawing.{drawn}
use Rattle.lowering_rules.specs.reference_rules.Objects as objects

abbrev a : List ℕ
a = 97 ∷ []

abbrev b : List ℕ
b = 98 ∷ []

-- {a: x, b: y}
pub names_alone : (k j : Key) (x y : CoreExpr) (n : Names) →
    objects.object (Valued (Written k a) x ∷ Valued (Written j b) y ∷ []) n
    ≡ drawn (expression None head.ObjectList (acting (op.Define k) x ∷ acting (op.Define j) y ∷ [])) n
unfolding objects.fits objects.seen_with objects.defining
names_alone k j x y n = refl

-- on the object that the name keeps
abbrev putting : Names → CoreExpr → CoreExpr → CoreLink
putting n key value = acting op.Then (linked (variable (next n.fresh))
    (link.Strict (op.Primitive MethodPut) (key ∷ value ∷ flag false ∷ []) None))

-- {a: x, a: y, [z]: y, b: y}: from the second a on each member is put
pub name_twice : (k j : Key) (x y z : CoreExpr) (n : Names) →
    objects.object (Valued (Written k a) x ∷ Valued (Written k a) y ∷ Valued (Evaluated z) y ∷ Valued (Written j b) y ∷ []) n
    ≡ drawn
    (expression None head.ObjectList
    (acting (op.Define k) x
    ∷ act (op.Set (next n.fresh))
    ∷ putting n (text a) y
    ∷ putting n (linked z (act (op.Primitive ToText))) y
    ∷ putting n (text b) y
    ∷ acting op.Then (variable (next n.fresh))
    ∷ []))
    (with_temporary n)
unfolding objects.fits objects.seen_with objects.defining objects.member_put objects.key_part
name_twice k j x y z n = refl

-- {a() {}, get b() {}}
pub functions_alone : (k j : Key) (f g : FunctionId) (n : Names) →
    objects.object (Defined (Written k a) Method f ∷ Defined (Written j b) Getter g ∷ []) n
    ≡ drawn
    (expression None head.ObjectList
    (act (op.Set (next n.fresh))
    ∷ acting op.Then (linked (variable (next n.fresh))
    (link.Strict (op.Primitive MethodPut) (text a ∷ classes.closure f ∷ flag true ∷ []) None))
    ∷ acting op.Then (linked (variable (next n.fresh))
    (link.Strict (op.Primitive AccessorPut) (text b ∷ classes.closure g ∷ flag false ∷ []) None))
    ∷ acting op.Then (variable (next n.fresh))
    ∷ []))
    (with_temporary n)
unfolding objects.fits objects.seen_with objects.defining objects.member_put objects.key_part classes.put
functions_alone k j f g n = refl
