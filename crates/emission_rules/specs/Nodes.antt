-- Small nodes of scripts (ECMA-262, 5.1 edition, 11 to 13). Nothing that is made has a place in a text.
use Rattle.std.specs.Prelude.{ℕ, Bool, cond, nat_eq, nat_lt, codes, List, [], ◌∷◌, ◌++◌, Option, None}
use Rattle.std.specs.List.{list_all}
use Rattle.std.specs.Str.{chars}
use Rattle.es_text.specs.declared.Span.{Span}
use Rattle.es_text.specs.Units.{units}
use Rattle.es_outside.specs.declared.events.Site.{Site}
use Rattle.core_ast.specs.declared.parts.Key.{Key}
use Rattle.core_ast.specs.declared.parts.Key.TheVariants as key
use Rattle.es5_ast.specs.declared.operators.AssignOperator5.{AssignOperator5}
use Rattle.es5_ast.specs.declared.operators.AssignOperator5.TheVariants.{Assign}
use Rattle.es5_ast.specs.declared.operators.BinaryOperator5.{BinaryOperator5}
use Rattle.es5_ast.specs.declared.operators.UnaryOperator5.TheVariants.{Void}
use Rattle.es5_ast.specs.declared.operators.Literal5.TheVariants as literal
use Rattle.es5_ast.specs.declared.operators.Key5.{Key5}
use Rattle.es5_ast.specs.declared.operators.Key5.TheVariants as key5
use Rattle.es5_ast.specs.declared.tree.Identifier5.{Identifier5}
use Rattle.es5_ast.specs.declared.tree.Element5.{Element5}
use Rattle.es5_ast.specs.declared.tree.Expr5.{Expr5, out-Expr5}
use Rattle.es5_ast.specs.declared.tree.Expr5.TheVariants as expr
use Rattle.es5_ast.specs.declared.tree.ForFirst5.{ForFirst5}
use Rattle.es5_ast.specs.declared.tree.Link5.{Link5}
use Rattle.es5_ast.specs.declared.tree.Link5.TheVariants as link
use Rattle.es5_ast.specs.declared.tree.Property5.{Property5}
use Rattle.es5_ast.specs.declared.tree.Property5.TheVariants as property
use Rattle.es5_ast.specs.declared.tree.Stat5.{Stat5}
use Rattle.es5_ast.specs.declared.tree.Stat5.TheVariants as stat
use Rattle.es5_ast.specs.declared.tree.Block5.{Block5, roll-Block5}
use Rattle.es5_ast.specs.declared.tree.Case5.{Case5}
use Rattle.es5_ast.specs.declared.tree.Catch5.{Catch5}
use Rattle.es5_ast.specs.declared.tree.Condition5.{Condition5}
use Rattle.es5_ast.specs.declared.tree.Declared5.{Declared5, roll-Declared5}
use Rattle.es5_ast.specs.declared.tree.Function5.{Function5, roll-Function5}
use Rattle.es5_ast.specs.declared.tree.Operand5.{Operand5, roll-Operand5, out-Operand5}
use Rattle.es5_ast.specs.declared.tree.Element5.TheOpen as layer
use Rattle.es5_ast.specs.declared.tree.Element5.TheOpen.{Expr5-F}
use Rattle.es5_ast.specs.Grammar.{binary_level}

abbrev pub nowhere : Span
nowhere = record { begin = 0; end = 0 }

-- ---- leaves

abbrev pub identifier : List ℕ → Identifier5
identifier text = record { span = nowhere; name = text }

abbrev pub name : List ℕ → Expr5
name text = expr.Name nowhere text

abbrev pub integer : ℕ → Expr5
integer n = expr.Literal nowhere (literal.Integer n)

abbrev pub text : List ℕ → Expr5
text units = expr.Literal nowhere (literal.Text units)

-- `void 0`, since `undefined` is a name
abbrev pub nothing : Expr5
nothing = expr.Unary nowhere Void (integer 0)

abbrev pub this : Expr5
this = expr.This nowhere

-- ---- accesses and calls (11.2): one more of a chain, or the first

abbrev pub Layer5 : Type 0
Layer5 = Expr5-F Element5 Expr5 ForFirst5 Link5 Property5 Stat5 Block5 Case5 Catch5 Condition5 Declared5 Function5 Operand5

abbrev pub chained_layer : Expr5 → Link5 → Layer5 → Expr5
chained_layer x l (layer.Chain span head links) = expr.Chain span head (links ++ l ∷ [])
chained_layer x l y = expr.Chain nowhere x (l ∷ [])

unfoldable pub chained : Expr5 → Link5 → Expr5
chained x l = chained_layer x l (out-Expr5 x)

abbrev pub member : Expr5 → List ℕ → Expr5
member x text = chained x (link.Member nowhere text)

abbrev pub index : Expr5 → Expr5 → Expr5
index x at = chained x (link.Index nowhere at)

abbrev pub called : Expr5 → List Expr5 → Option Site → Expr5
called x arguments site = chained x (link.Call nowhere arguments site)

-- what has these accesses and calls from a name on
abbrev pub from_name : List ℕ → List Link5 → Expr5
from_name text links = expr.Chain nowhere (name text) links

-- a call of what has this name
abbrev pub applied : List ℕ → List Expr5 → Expr5
applied text arguments = from_name text (link.Call nowhere arguments None ∷ [])

-- a call of a function's own method `call` (15.3.4.3, 15.3.4.4)
abbrev pub called_by : List ℕ → List Expr5 → Option Site → Expr5
called_by text arguments site =
    from_name text (link.Member nowhere (codes "call") ∷ link.Call nowhere arguments site ∷ [])

-- ---- keys: a word beyond ASCII is no identifier of scripts, so its text stands for it

abbrev pub is_ascii : List ℕ → Bool
is_ascii word = list_all (λ byte. nat_lt byte 128) word

-- the units of a word, which is UTF-8
abbrev pub word_units : List ℕ → List ℕ
word_units word = units (chars word)

unfoldable pub keyed : Key → Link5
keyed (key.WordKey word) = cond (is_ascii word) (link.Member nowhere word) (link.Index nowhere (text (word_units word)))
keyed (key.TextKey units) = link.Index nowhere (text units)
keyed (key.IntegerKey n) = link.Index nowhere (integer n)

unfoldable pub key_value : Key → Expr5
key_value (key.WordKey word) = text (cond (is_ascii word) word (word_units word))
key_value (key.TextKey units) = text units
key_value (key.IntegerKey n) = integer n

unfoldable pub key_name : Key → Key5
key_name (key.WordKey word) = cond (is_ascii word) (key5.WordKey word) (key5.TextKey (word_units word))
key_name (key.TextKey units) = key5.TextKey units
key_name (key.IntegerKey n) = key5.IntegerKey n

abbrev pub plain : Key5 → Expr5 → Property5
plain k value = property.Plain nowhere (record { span = nowhere; key = k }) value

-- ---- operators: those of one level stand side by side (11.5 to 11.11), and so do the parts of a sequence (11.14)

abbrev pub operand : BinaryOperator5 → Expr5 → Operand5
operand o y = roll-Operand5 (record { operator = o; value = y })

abbrev pub first_level : List Operand5 → ℕ
first_level [] = 0
first_level (o ∷ os) = binary_level (out-Operand5 o).operator

abbrev pub operated_layer : Expr5 → BinaryOperator5 → Expr5 → Layer5 → Expr5
operated_layer x o y (layer.Binary span first rest) = cond (nat_eq (first_level rest) (binary_level o))
    (expr.Binary span first (rest ++ operand o y ∷ [])) (expr.Binary nowhere x (operand o y ∷ []))
operated_layer x o y z = expr.Binary nowhere x (operand o y ∷ [])

unfoldable pub operated : Expr5 → BinaryOperator5 → Expr5 → Expr5
operated x o y = operated_layer x o y (out-Expr5 x)

abbrev pub then_layer : Expr5 → Expr5 → Layer5 → Expr5
then_layer x y (layer.Sequence span first rest) = expr.Sequence span first (rest ++ y ∷ [])
then_layer x y z = expr.Sequence nowhere x (y ∷ [])

unfoldable pub then : Expr5 → Expr5 → Expr5
then x y = then_layer x y (out-Expr5 x)

abbrev pub assigned : AssignOperator5 → Expr5 → Expr5 → Expr5
assigned o target value = expr.Assign nowhere o target value

abbrev pub stored : Expr5 → Expr5 → Expr5
stored target value = assigned Assign target value

-- ---- statements and functions

abbrev pub block : List Stat5 → Block5
block stats = roll-Block5 (record { span = nowhere; statements = stats })

abbrev pub expression : Expr5 → Stat5
expression x = stat.Expression nowhere x

abbrev pub declared : List ℕ → Option Expr5 → Declared5
declared text init = roll-Declared5 (record { span = nowhere; name = identifier text; init = init })

-- 12.2: at least one name
abbrev pub variables : List Declared5 → List Stat5
variables [] = []
variables (d ∷ ds) = stat.Var nowhere (d ∷ ds) ∷ []

abbrev pub function : Option Identifier5 → List Identifier5 → List Stat5 → Expr5
function own parameters body =
    expr.Function (roll-Function5 (record { span = nowhere; name = own; parameters = parameters; body = body }))
