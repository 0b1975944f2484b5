-- The scripts of these forms among those of the whole grammar (es5_ast): which tree there has the nodes of a script here. A
-- place here is where the node's span begins there.
use Rattle.std.specs.Prelude.{◌≡◌, ℕ, List, [], ◌∷◌, Some, None}
use Rattle.es_text.specs.declared.Span.{Span}
use Rattle.es5_ast.specs.declared.operators.BinaryOperator5.TheVariants.{Add}
use Rattle.es5_ast.specs.declared.operators.Literal5.TheVariants as literal
use Rattle.es5_ast.specs.declared.tree.Script.{Script as WholeScript}
use Rattle.es5_ast.specs.declared.tree.Stat5.{Stat5 as WholeStat}
use Rattle.es5_ast.specs.declared.tree.Stat5.TheVariants as whole_stat
use Rattle.es5_ast.specs.declared.tree.Declared5.{roll-Declared5}
use Rattle.es5_ast.specs.declared.tree.Expr5.{Expr5 as WholeExpr}
use Rattle.es5_ast.specs.declared.tree.Expr5.TheVariants as whole
use Rattle.es5_ast.specs.declared.tree.Link5.TheVariants as link
use Rattle.es5_ast.specs.declared.tree.Operand5.{Operand5, roll-Operand5}
use Rattle.first_target.specs.declared.Script.{Script}
use Rattle.first_target.specs.declared.Stat5.{Stat5}
use Rattle.first_target.specs.declared.Stat5.TheVariants as stat
use Rattle.first_target.specs.declared.Expr5.{Expr5}
use Rattle.first_target.specs.declared.Expr5.TheVariants as expr
use Rattle.first_target.specs.declared.Call5.{Call5}
use Rattle.first_target.specs.declared.Sum5.{Sum5}
use Rattle.first_target.specs.declared.Term5.{Term5}
use Rattle.first_target.specs.declared.Term5.TheVariants as term

abbrev pub from : ℕ → ℕ → Span
from at end = record { begin = at; end = end }

-- an operand that begins at this place: a literal or a name (11.1)
abbrev pub IsTermOf : ℕ → Term5 → WholeExpr → Type 0
IsTermOf at (term.Integer value) x = (end : ℕ) × (x ≡ whole.Literal (from at end) (literal.Integer value))
IsTermOf at (term.Text units) x = (end : ℕ) × (x ≡ whole.Literal (from at end) (literal.Text units))
IsTermOf at (term.Name place name) x = (end : ℕ) × (place ≡ at) × (x ≡ whole.Name (from at end) name)

-- the operands after the first (11.6)
abbrev pub AreAddedOf : List Term5 → List Operand5 → Type 0
AreAddedOf [] [] = Unit {0}
AreAddedOf [] (o ∷ os) = ⊥
AreAddedOf (t ∷ ts) [] = ⊥
AreAddedOf (t ∷ ts) (o ∷ os) =
    ((at : ℕ) × (x : WholeExpr) × (o ≡ roll-Operand5 (record { operator = Add; value = x })) × IsTermOf at t x) × AreAddedOf ts os

-- a sum, which without operands after the first is that one
abbrev pub IsSumOf : ℕ → Term5 → List Term5 → WholeExpr → Type 0
IsSumOf at t [] x = IsTermOf at t x
IsSumOf at t (u ∷ us) x =
    (end : ℕ) × (first : WholeExpr) × (os : List Operand5) × (x ≡ whole.Binary (from at end) first os) × IsTermOf at t first × AreAddedOf (u ∷ us) os

abbrev pub AreArgumentsOf : List Sum5 → List WholeExpr → Type 0
AreArgumentsOf [] [] = Unit {0}
AreArgumentsOf [] (x ∷ xs) = ⊥
AreArgumentsOf (s ∷ ss) [] = ⊥
AreArgumentsOf (s ∷ ss) (x ∷ xs) = IsSumOf s.at s.first s.rest x × AreArgumentsOf ss xs

-- a call of a function by its name (11.2)
abbrev pub IsCallOf : Call5 → WholeExpr → Type 0
IsCallOf c x =
    (end : ℕ) × (after : ℕ) × (span : Span) × (arguments : List WholeExpr)
    × (x ≡ whole.Chain (from c.at end) (whole.Name (from c.at after) c.callee) (link.Call span arguments None ∷ [])) × AreArgumentsOf c.args arguments

abbrev pub IsExprOf : Expr5 → WholeExpr → Type 0
IsExprOf (expr.Sum s) x = IsSumOf s.at s.first s.rest x
IsExprOf (expr.Call c) x = IsCallOf c x

-- a statement (12.2 with one declaration, 12.4)
abbrev pub IsStatOf : Stat5 → WholeStat → Type 0
IsStatOf (stat.Var at name init) s =
    (end : ℕ) × (span : Span) × (place : Span) × (x : WholeExpr)
    × (s ≡ whole_stat.Var (from at end) (roll-Declared5 (record { span = span; name = record { span = place; name = name }; init = Some x }) ∷ [])) × IsExprOf init x
IsStatOf (stat.Expression e) s = (span : Span) × (x : WholeExpr) × (s ≡ whole_stat.Expression span x) × IsExprOf e x

abbrev pub AreStatsOf : List Stat5 → List WholeStat → Type 0
AreStatsOf [] [] = Unit {0}
AreStatsOf [] (s ∷ ss) = ⊥
AreStatsOf (t ∷ ts) [] = ⊥
AreStatsOf (t ∷ ts) (s ∷ ss) = IsStatOf t s × AreStatsOf ts ss

-- the script of the whole grammar has the nodes of this one
abbrev pub IsPart : Script → WholeScript → Type 0
IsPart part script = AreStatsOf part.statements script.statements
