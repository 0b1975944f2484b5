-- Small expressions and statements.
use Rattle.std.specs.Prelude.{ℕ, Bool, cond, List, [], ◌∷◌, Option, None, Some}
use Rattle.core_ast.specs.declared.parts.Binary.TheVariants.{NotSame, Same}
use Rattle.core_ast.specs.declared.parts.Constant.TheVariants.{Integer, Text, Truth}
use Rattle.core_ast.specs.declared.parts.CoreHead.TheVariants as head
use Rattle.core_ast.specs.declared.parts.CoreOp.{CoreOp}
use Rattle.core_ast.specs.declared.parts.CoreOp.TheVariants as op
use Rattle.core_ast.specs.declared.parts.Primitive.{Primitive}
use Rattle.core_ast.specs.declared.parts.Primitive.TheVariants.{ToText}
use Rattle.core_ast.specs.declared.parts.ScopedName.{ScopedName}
use Rattle.core_ast.specs.declared.parts.Var.{Var}
use Rattle.core_ast.specs.declared.tree.CoreCase.{roll-CoreCase}
use Rattle.core_ast.specs.declared.tree.CoreExpr.{CoreExpr}
use Rattle.core_ast.specs.declared.tree.CoreStat.{CoreStat}
use Rattle.core_ast.specs.declared.tree.CoreStat.TheVariants as stat
use Rattle.core_ast.specs.Lawful.{is_empty}
use Rattle.core_ast.specs.Made.{act, acting, constant, expression, linked, undefined, variable}

-- ---- expressions

abbrev pub text : List ℕ → CoreExpr
text units = constant (Text units)

abbrev pub number : ℕ → CoreExpr
number n = constant (Integer n)

abbrev pub flag : Bool → CoreExpr
flag b = constant (Truth b)

abbrev pub primitive : Primitive → CoreExpr
primitive p = expression None (head.Primitive p) []

abbrev pub two : CoreExpr → CoreOp → CoreExpr → CoreExpr
two x o y = linked x (acting o y)

abbrev pub then : CoreExpr → CoreExpr → CoreExpr
then x y = two x op.Then y

abbrev pub is_same : CoreExpr → CoreExpr → CoreExpr
is_same x y = two x (op.Operator Same) y

abbrev pub differs : CoreExpr → CoreExpr → CoreExpr
differs x y = two x (op.Operator NotSame) y

-- a value that a primitive makes of this one alone, and of this one and another
abbrev pub through : CoreExpr → Primitive → CoreExpr
through x p = linked x (act (op.Primitive p))

abbrev pub through_with : CoreExpr → Primitive → CoreExpr → CoreExpr
through_with x p y = two x (op.Primitive p) y

-- 7.1.12 and 7.1.14: as a text, or as the key of a property
abbrev pub to_text : CoreExpr → CoreExpr
to_text x = through x ToText

-- the variable takes the value, which is that of the expression
abbrev pub stored : Var → CoreExpr → CoreExpr
stored x e = linked e (act (op.Set x))

-- ---- statements

abbrev pub set : Var → CoreExpr → CoreStat
set x e = stat.Do (stored x e)

abbrev pub initialize : Var → CoreExpr → CoreStat
initialize x e = stat.Do (linked e (act (op.Init x)))

-- a name that isn't initialized
abbrev pub uninitialized : Var → CoreStat
uninitialized x = stat.Do (expression None head.Empty (act (op.Init x) ∷ []))

abbrev pub when : CoreExpr → List CoreStat → CoreStat
when test body = stat.If (roll-CoreCase (record { test = Some test; body = body }) ∷ [])

-- the default takes the place of undefined
unfoldable pub defaulted : Var → Option CoreExpr → List CoreStat
defaulted x None = []
defaulted x (Some e) = when (is_same (variable x) undefined) (set x e ∷ []) ∷ []

-- a record for the names, if there are some
abbrev pub scoped : List ScopedName → List CoreStat → List CoreStat
scoped names body = cond (is_empty names) body (stat.Scoped names body ∷ [])
