-- Object literals (ECMA-262, 6th edition, 12.2.6). Functions have no name that a module could read, so no value is named here.
use Rattle.std.specs.Prelude.{ℕ, ◌+◌, Bool, false, not, cond, nat_eq, List, [], ◌∷◌, ◌++◌, map, drop, take, None}
use Rattle.std.specs.List.{flat_map, list_any}
use Rattle.std.specs.Cmp.Lexicographic.{pointwise}
use Rattle.core_ast.specs.declared.parts.CoreHead.TheVariants as head
use Rattle.core_ast.specs.declared.parts.CoreOp.TheVariants as op
use Rattle.core_ast.specs.declared.parts.Primitive.TheVariants.{MethodPut}
use Rattle.core_ast.specs.declared.parts.Var.{Var}
use Rattle.core_ast.specs.declared.tree.CoreExpr.{CoreExpr, out-CoreExpr}
use Rattle.core_ast.specs.declared.tree.CoreLink.{CoreLink}
use Rattle.core_ast.specs.declared.tree.CoreLink.TheVariants as link
use Rattle.core_ast.specs.Lawful.{is_empty}
use Rattle.core_ast.specs.Made.{acting, expression, linked, variable}
use Rattle.lowering_rules.specs.declared.naming.Names.{Names}
use Rattle.lowering_rules.specs.declared.reference_rules.objects.ObjectKey.{ObjectKey}
use Rattle.lowering_rules.specs.declared.reference_rules.objects.ObjectKey.TheVariants.{Evaluated, Written}
use Rattle.lowering_rules.specs.declared.reference_rules.objects.ObjectMember.{ObjectMember}
use Rattle.lowering_rules.specs.declared.reference_rules.objects.ObjectMember.TheVariants.{Defined, Valued}
use Rattle.lowering_rules.specs.Classes.{put}
use Rattle.lowering_rules.specs.Making.{flag, stored, text, then, to_text}
use Rattle.lowering_rules.specs.Naming.{Drawn}
use Rattle.lowering_rules.specs.reference_rules.Drawing.{drawn, with_one}

-- ---- members (12.2.6.8, 14.3.9), each put when it is reached

-- what is computed is converted to a key before the member's value is evaluated
unfoldable pub key_part : ObjectKey → CoreExpr
key_part (Written key units) = text units
key_part (Evaluated x) = to_text x

-- CreateDataPropertyOrThrow for a value, and DefineMethod or its like for a function
unfoldable pub member_put : CoreExpr → ObjectMember → CoreExpr
member_put object (Valued key value) =
    linked object (link.Strict (op.Primitive MethodPut) (key_part key ∷ value ∷ flag false ∷ []) None)
member_put object (Defined key kind f) = put kind (key_part key) f object

-- ---- the members in front that a literal of a script can hold: values of names that are written, none of them twice

abbrev pub has_text : List ℕ → List (List ℕ) → Bool
has_text units seen = list_any (pointwise nat_eq units) seen

abbrev pub with_text : List (List ℕ) → List ℕ → List (List ℕ)
with_text seen units = cond (has_text units seen) seen (seen ++ units ∷ [])

unfoldable pub fits : List (List ℕ) → ObjectMember → Bool
fits seen (Valued (Written key units) value) = not (has_text units seen)
fits seen (Valued (Evaluated x) value) = false
fits seen (Defined key kind f) = false

unfoldable pub seen_with : List (List ℕ) → ObjectMember → List (List ℕ)
seen_with seen (Valued (Written key units) value) = with_text seen units
seen_with seen (Valued (Evaluated x) value) = seen
seen_with seen (Defined key kind f) = seen

-- how many there are behind those of these texts
abbrev pub front : List (List ℕ) → List ObjectMember → ℕ
front seen [] = 0
front seen (m ∷ ms) = cond (fits seen m) (1 + front (seen_with seen m) ms) 0

unfoldable pub defining : ObjectMember → List CoreLink
defining (Valued (Written key units) value) = acting (op.Define key) value ∷ []
defining (Valued (Evaluated x) value) = []
defining (Defined key kind f) = []

abbrev pub literal : List ObjectMember → CoreExpr
literal ms = expression None head.ObjectList (flat_map defining ms)

-- ---- the object, which stands in a temporary where further members are put

abbrev pub putting : Var → ObjectMember → CoreLink
putting t m = acting op.Then (member_put (variable t) m)

abbrev pub behind : CoreExpr → List CoreLink → CoreExpr
behind x more = expression (out-CoreExpr x).site (out-CoreExpr x).head ((out-CoreExpr x).links ++ more)

abbrev pub completed : CoreExpr → List ObjectMember → Var → CoreExpr
completed first rest t = then (behind (stored t first) (map (putting t) rest)) (variable t)

abbrev pub object_with : CoreExpr → List ObjectMember → Names → Drawn CoreExpr
object_with first rest n = cond (is_empty rest) (drawn first n) (with_one (completed first rest) n)

abbrev pub object : List ObjectMember → Names → Drawn CoreExpr
object ms n = object_with (literal (take (front [] ms) ms)) (drop (front [] ms) ms) n
