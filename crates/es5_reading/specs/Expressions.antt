-- The readers of expressions (ECMA-262, 5.1 edition, 11), one for each level of the grammar.
use Rattle.std.specs.Prelude.{ℕ, zero, suc, ◌+◌, ◌==◌, Bool, true, false, ◌&&◌, ◌||◌, not, cond, List, [], ◌∷◌, Option, Some, None, codes}
use Rattle.std.specs.Str.{bytes_eq}
use Rattle.es_text.specs.declared.Span.{Span}
use Rattle.es5_ast.specs.declared.operators.UnaryOperator5.{UnaryOperator5}
use Rattle.es5_ast.specs.declared.operators.UnaryOperator5.TheVariants.{Delete, Void, Typeof, Plus, Minus, BitNot, Not}
use Rattle.es5_ast.specs.declared.operators.UpdateOperator5.{UpdateOperator5}
use Rattle.es5_ast.specs.declared.operators.UpdateOperator5.TheVariants.{IncrementBefore, DecrementBefore, IncrementAfter, DecrementAfter}
use Rattle.es5_ast.specs.declared.operators.BinaryOperator5.{BinaryOperator5}
use Rattle.es5_ast.specs.declared.operators.BinaryOperator5.TheVariants as binary
use Rattle.es5_ast.specs.declared.operators.AssignOperator5.{AssignOperator5}
use Rattle.es5_ast.specs.declared.operators.AssignOperator5.TheVariants as assign
use Rattle.es5_ast.specs.declared.operators.Literal5.{Literal5}
use Rattle.es5_ast.specs.declared.operators.Literal5.TheVariants as literals
use Rattle.es5_ast.specs.declared.operators.Key5.{Key5}
use Rattle.es5_ast.specs.declared.operators.Key5.TheVariants as keys
use Rattle.es5_ast.specs.declared.tree.Identifier5.{Identifier5}
use Rattle.es5_ast.specs.declared.tree.PlacedKey5.{PlacedKey5}
use Rattle.es5_ast.specs.declared.tree.Stat5.{Stat5}
use Rattle.es5_ast.specs.declared.tree.Function5.{Function5, roll-Function5}
use Rattle.es5_ast.specs.declared.tree.Expr5.{Expr5}
use Rattle.es5_ast.specs.declared.tree.Expr5.TheVariants as expr
use Rattle.es5_ast.specs.declared.tree.Element5.{Element5}
use Rattle.es5_ast.specs.declared.tree.Element5.TheVariants as element
use Rattle.es5_ast.specs.declared.tree.Property5.{Property5}
use Rattle.es5_ast.specs.declared.tree.Property5.TheVariants as property
use Rattle.es5_ast.specs.declared.tree.Link5.{Link5}
use Rattle.es5_ast.specs.declared.tree.Link5.TheVariants as link
use Rattle.es5_ast.specs.declared.tree.Operand5.{Operand5, roll-Operand5}
use Rattle.es5_ast.specs.Lexical.{Kind5, Word, Integer, Text, Punctuator, Inserted, Token5}
use Rattle.es5_ast.specs.Grammar.{is_word, is_mark, is_identifier, is_in, unary_kind, update_kind, assign_kind, binary_kind, binary_level}
use Rattle.es5_reading.specs.Parser.{Parser, Syntax, Depth, Outside, Endless, returns, fails, ◌>>=◌, on, choose, if_next, take_as, mark, word, next_mark, from, made, Bare, LeftHandSide, Other, Read5, is_left, Inner5, on_group, group}

-- ## What single tokens stand for

abbrev pub name_if : Bool → List ℕ → Option (List ℕ)
name_if true name = Some name
name_if false name = None

-- IdentifierName, and Identifier (7.6)
abbrev pub any_name_in : Kind5 → Option (List ℕ)
any_name_in (Word name) = Some name
any_name_in (Integer value) = None
any_name_in (Text units) = None
any_name_in (Punctuator p) = None
any_name_in Inserted = None

abbrev pub any_name : Token5 → Option (List ℕ)
any_name t = any_name_in t.kind

abbrev pub free_name_in : Kind5 → Option (List ℕ)
free_name_in (Word name) = name_if (is_identifier name) name
free_name_in (Integer value) = None
free_name_in (Text units) = None
free_name_in (Punctuator p) = None
free_name_in Inserted = None

abbrev pub free_name : Token5 → Option (List ℕ)
free_name t = free_name_in t.kind

-- The first of a table's values whose token has the kind. Tokens are compared by what they spell.
abbrev pub same_kind : Kind5 → Kind5 → Bool
same_kind (Word v) k = is_word v k
same_kind (Punctuator p) k = is_mark p k
same_kind (Integer n) k = false
same_kind (Text us) k = false
same_kind Inserted k = false

abbrev pub look_up : {A : Type 0} → (A → Kind5) → List A → Kind5 → Option A
look_up kind_of [] k = None
look_up kind_of (x ∷ xs) k = cond (same_kind (kind_of x) k) (Some x) (look_up kind_of xs k)

abbrev pub literal_word : List ℕ → Option Literal5
literal_word name = cond (bytes_eq name (codes "null")) (Some literals.Null) (cond (bytes_eq name (codes "true")) (Some (literals.Truth true)) (cond (bytes_eq name (codes "false")) (Some (literals.Truth false)) None))

abbrev pub literal_in : Kind5 → Option Literal5
literal_in (Word name) = literal_word name
literal_in (Integer value) = Some (literals.Integer value)
literal_in (Text units) = Some (literals.Text units)
literal_in (Punctuator p) = None
literal_in Inserted = None

abbrev pub literal_at : Token5 → Option Literal5
literal_at t = literal_in t.kind

abbrev pub key_in : Kind5 → Option Key5
key_in (Word name) = Some (keys.WordKey name)
key_in (Integer value) = Some (keys.IntegerKey value)
key_in (Text units) = Some (keys.TextKey units)
key_in (Punctuator p) = None
key_in Inserted = None

abbrev pub key_at : Token5 → Option Key5
key_at t = key_in t.kind

-- `get` and `set` before an accessor's name
abbrev pub accessor_word : List ℕ → Option Bool
accessor_word name = cond (bytes_eq name (codes "get")) (Some false) (cond (bytes_eq name (codes "set")) (Some true) None)

abbrev pub accessor_in : Kind5 → Option Bool
accessor_in (Word name) = accessor_word name
accessor_in (Integer value) = None
accessor_in (Text units) = None
accessor_in (Punctuator p) = None
accessor_in Inserted = None

abbrev pub accessor_at : Token5 → Option Bool
accessor_at t = accessor_in t.kind

abbrev pub accessor_name : Bool → List ℕ
accessor_name true = codes "set"
accessor_name false = codes "get"

unfoldable pub unary_operators : List UnaryOperator5
unary_operators = Delete ∷ Void ∷ Typeof ∷ Plus ∷ Minus ∷ BitNot ∷ Not ∷ []

abbrev pub unary_at : Token5 → Option UnaryOperator5
unary_at t = look_up unary_kind unary_operators t.kind

abbrev pub before_at : Token5 → Option UpdateOperator5
before_at t = look_up update_kind (IncrementBefore ∷ DecrementBefore ∷ []) t.kind

-- no line terminator stands before a postfix operator (11.3)
abbrev pub unless : {A : Type 0} → Bool → Option A → Option A
unless true x = None
unless false x = x

abbrev pub after_at : Token5 → Option UpdateOperator5
after_at t = unless t.after_line (look_up update_kind (IncrementAfter ∷ DecrementAfter ∷ []) t.kind)

unfoldable pub assign_operators : List AssignOperator5
assign_operators =
    assign.Assign ∷ assign.MultiplyAssign ∷ assign.DivideAssign ∷ assign.RemainderAssign ∷ assign.AddAssign ∷ assign.SubtractAssign
    ∷ assign.ShiftLeftAssign ∷ assign.ShiftRightAssign ∷ assign.ShiftRightUnsignedAssign ∷ assign.BitAndAssign ∷ assign.BitXorAssign ∷ assign.BitOrAssign ∷ []

abbrev pub assign_at : Token5 → Option AssignOperator5
assign_at t = look_up assign_kind assign_operators t.kind

unfoldable pub binary_operators : List BinaryOperator5
binary_operators =
    binary.Or ∷ binary.And ∷ binary.BitOr ∷ binary.BitXor ∷ binary.BitAnd ∷ binary.Equal ∷ binary.NotEqual ∷ binary.Same ∷ binary.NotSame
    ∷ binary.Less ∷ binary.Greater ∷ binary.AtMost ∷ binary.AtLeast ∷ binary.InstanceOf ∷ binary.In ∷ binary.ShiftLeft ∷ binary.ShiftRight ∷ binary.ShiftRightUnsigned
    ∷ binary.Add ∷ binary.Subtract ∷ binary.Multiply ∷ binary.Divide ∷ binary.Remainder ∷ []

abbrev pub operator_of_level : Bool → ℕ → Option BinaryOperator5 → Option BinaryOperator5
operator_of_level no_in level None = None
operator_of_level no_in level (Some op) = unless (not (binary_level op == level) || (no_in && is_in op)) (Some op)

-- an operator of the level; where the expression has no `in`, that is none
abbrev pub binary_at : Bool → ℕ → Token5 → Option BinaryOperator5
binary_at no_in level t = operator_of_level no_in level (look_up binary_kind binary_operators t.kind)

-- ## Identifiers, names of properties, parameters

unfoldable pub identifier : Parser Identifier5
identifier = from λ at. do
  name ← take_as free_name
  made at (λ span. record { span = span; name = name })

unfoldable pub key : Parser PlacedKey5
key = from λ at. do
  k ← take_as key_at
  made at (λ span. record { span = span; key = k })

-- the parameters after the first opening parenthesis or comma, and the closing parenthesis
unfoldable pub more_parameters : ℕ → Parser (List Identifier5)
more_parameters zero = fails Endless
more_parameters (suc turns) = do
  x ← identifier
  on (mark (codes ",")) (λ _. do
    xs ← more_parameters turns
    returns (x ∷ xs)) (do
      _ ← take_as (mark (codes ")"))
      returns (x ∷ []))

unfoldable pub parameters : Inner5 → Parser (List Identifier5)
parameters i = on (mark (codes ")")) (λ _. returns []) (more_parameters i.fuel)

-- ## Functions (13)

-- the statements of a block or a function after the opening brace, and the closing brace
unfoldable pub statements : Inner5 → Bool → Bool → ℕ → Parser (List Stat5)
statements i inside top zero = fails Endless
statements i inside top (suc turns) = on (mark (codes "}")) (λ _. returns []) (do
  s ← i.statement inside top
  ss ← statements i inside top turns
  returns (s ∷ ss))

unfoldable pub body : Inner5 → Parser (List Stat5)
body i = group i (codes "{") (statements i true true i.fuel)

-- what follows the name of a function
unfoldable pub rest_of_function : Inner5 → ℕ → Option Identifier5 → Parser Function5
rest_of_function i at name = do
  xs ← group i (codes "(") (parameters i)
  ss ← body i
  made at (λ span. roll-Function5 (record { span = span; name = name; parameters = xs; body = ss }))

-- what follows `function`, which begins at the place, in an expression
unfoldable pub function_expression : Inner5 → ℕ → Parser Function5
function_expression i at = if_next (next_mark (codes "(")) (rest_of_function i at None) (do
  name ← identifier
  rest_of_function i at (Some name))

-- ## Accessors (11.1.5)

unfoldable pub no_parameter : Parser (List Identifier5)
no_parameter = do
  _ ← take_as (mark (codes ")"))
  returns []

unfoldable pub one_parameter : Parser (List Identifier5)
one_parameter = do
  x ← identifier
  _ ← take_as (mark (codes ")"))
  returns (x ∷ [])

unfoldable pub accessor_parameters : Bool → Parser (List Identifier5)
accessor_parameters true = one_parameter
accessor_parameters false = no_parameter

-- what follows the name of an accessor
unfoldable pub accessor_function : Inner5 → Bool → Parser Function5
accessor_function i setter = from λ at. do
  xs ← group i (codes "(") (accessor_parameters setter)
  ss ← body i
  made at (λ span. roll-Function5 (record { span = span; name = None; parameters = xs; body = ss }))

abbrev pub accessor_of : Bool → Span → PlacedKey5 → Function5 → Property5
accessor_of true span k f = property.Setter span k f
accessor_of false span k f = property.Getter span k f

unfoldable pub accessor : Inner5 → ℕ → Bool → Parser Property5
accessor i at setter = do
  k ← key
  f ← accessor_function i setter
  made at (λ span. accessor_of setter span k f)

-- ## Object literals (11.1.5)

-- the properties after the opening brace or a comma, and the closing brace
unfoldable pub properties : Inner5 → ℕ → Parser (List Property5)
properties i zero = fails Endless
properties i (suc turns) = on (mark (codes "}")) (λ _. returns []) (do
  x ← i.property
  on (mark (codes ",")) (λ _. do
    xs ← properties i turns
    returns (x ∷ xs)) (do
      _ ← take_as (mark (codes "}"))
      returns (x ∷ [])))

-- ## Array literals (11.1.4) and arguments (11.2)

-- the elements after the opening bracket or a comma, and the closing bracket
unfoldable pub elements : Inner5 → ℕ → Parser (List Element5)
elements i zero = fails Endless
elements i (suc turns) = on (mark (codes "]")) (λ _. returns []) (on (mark (codes ",")) (λ _. do
  xs ← elements i turns
  returns (element.Hole ∷ xs)) (do
    x ← i.assignment false
    on (mark (codes ",")) (λ _. do
      xs ← elements i turns
      returns (element.Element x.value ∷ xs)) (do
        _ ← take_as (mark (codes "]"))
        returns (element.Element x.value ∷ []))))

unfoldable pub more_arguments : Inner5 → ℕ → Parser (List Expr5)
more_arguments i zero = fails Endless
more_arguments i (suc turns) = do
  x ← i.assignment false
  on (mark (codes ",")) (λ _. do
    xs ← more_arguments i turns
    returns (x.value ∷ xs)) (do
      _ ← take_as (mark (codes ")"))
      returns (x.value ∷ []))

unfoldable pub arguments : Inner5 → Parser (List Expr5)
arguments i = on (mark (codes ")")) (λ _. returns []) (more_arguments i i.fuel)

-- ## Primary expressions (11.1)

abbrev pub left : Expr5 → Read5
left x = record { value = x; shape = LeftHandSide }

abbrev pub other : Expr5 → Read5
other x = record { value = x; shape = Other }

unfoldable pub grouped : Inner5 → Parser Read5
grouped i = do
  x ← i.sequence false
  _ ← take_as (mark (codes ")"))
  returns (left x.value)

-- a regular expression is outside the profile
abbrev pub begins_division : Token5 → Bool
begins_division t = is_mark (codes "/") t.kind || is_mark (codes "/=") t.kind

unfoldable pub no_expression : Parser Read5
no_expression = if_next begins_division (fails (Outside 4)) (fails Syntax)

unfoldable pub bracketed : Inner5 → ℕ → Parser Read5
bracketed i at = on_group i (codes "[") (do
  xs ← elements i i.fuel
  made at (λ span. left (expr.ArrayList span xs))) (on_group i (codes "{") (do
    xs ← properties i i.fuel
    made at (λ span. left (expr.ObjectList span xs))) no_expression)

unfoldable pub primary : Inner5 → ℕ → Parser Read5
primary i at = on (word (codes "this")) (λ _. made at (λ span. left (expr.This span)))
    (on free_name (λ name. made at (λ span. record { value = expr.Name span name; shape = Bare }))
    (on literal_at (λ value. made at (λ span. left (expr.Literal span value)))
    (on (word (codes "function")) (λ _. do
      f ← function_expression i at
      returns (left (expr.Function f)))
    (on_group i (codes "(") (grouped i) (bracketed i at)))))

-- ## Left-hand-side expressions (11.2)

-- the arguments of `new`, if there are any
unfoldable pub after_callee : Inner5 → ℕ → Expr5 → Parser Read5
after_callee i at callee = on_group i (codes "(") (do
  xs ← arguments i
  made at (λ span. left (expr.New span callee xs))) (made at (λ span. left (expr.New span callee [])))

-- what accesses and calls begin with
unfoldable pub head : Inner5 → ℕ → Parser Read5
head i at = on (word (codes "new")) (λ _. do
  callee ← i.callee
  after_callee i at callee.value) (primary i at)

unfoldable pub member_link : ℕ → Parser Link5
member_link at = do
  name ← take_as any_name
  made at (λ span. link.Member span name)

unfoldable pub index_link : Inner5 → ℕ → Parser Link5
index_link i at = do
  x ← i.sequence false
  _ ← take_as (mark (codes "]"))
  made at (λ span. link.Index span x.value)

unfoldable pub call_link : Inner5 → ℕ → Parser Link5
call_link i at = do
  xs ← arguments i
  made at (λ span. link.Call span xs None)

-- accesses, and calls where the mark says so
unfoldable pub links : Inner5 → Bool → ℕ → Parser (List Link5)
links i calls zero = fails Endless
links i calls (suc turns) = from λ at. on (mark (codes ".")) (λ _. do
  l ← member_link at
  ls ← links i calls turns
  returns (l ∷ ls)) (on_group i (codes "[") (do
    l ← index_link i at
    ls ← links i calls turns
    returns (l ∷ ls)) (choose calls (on_group i (codes "(") (do
      l ← call_link i at
      ls ← links i calls turns
      returns (l ∷ ls)) (returns [])) (returns [])))

-- a head, or a chain where there are links
abbrev pub chained : Read5 → List Link5 → Span → Read5
chained x [] span = x
chained x (l ∷ ls) span = left (expr.Chain span x.value (l ∷ ls))

unfoldable pub chain : Inner5 → Bool → Parser Read5
chain i calls = from λ at. do
  x ← head i at
  ls ← links i calls i.fuel
  made at (λ span. chained x ls span)

-- ## Operators (11.3 to 11.14)

unfoldable pub postfix : Inner5 → Parser Read5
postfix i = from λ at. do
  x ← chain i true
  on after_at (λ op. made at (λ span. other (expr.Update span op x.value))) (returns x)

unfoldable pub prefixed : Inner5 → ℕ → UnaryOperator5 → Parser Read5
prefixed i at op = do
  x ← i.unary
  made at (λ span. other (expr.Unary span op x.value))

unfoldable pub updated : Inner5 → ℕ → UpdateOperator5 → Parser Read5
updated i at op = do
  x ← i.unary
  made at (λ span. other (expr.Update span op x.value))

unfoldable pub unary : Inner5 → Parser Read5
unary i = from λ at. on unary_at (λ op. prefixed i at op) (on before_at (λ op. updated i at op) (postfix i))

-- operators of a level, each with an operand that the reader reads
unfoldable pub operands : Parser Read5 → Bool → ℕ → ℕ → Parser (List Operand5)
operands operand no_in level zero = fails Endless
operands operand no_in level (suc turns) = on (binary_at no_in level) (λ op. do
  x ← operand
  rest ← operands operand no_in level turns
  returns (roll-Operand5 (record { operator = op; value = x.value }) ∷ rest)) (returns [])

abbrev pub operated : Read5 → List Operand5 → Span → Read5
operated x [] span = x
operated x (o ∷ rest) span = other (expr.Binary span x.value (o ∷ rest))

-- The operators from a level on (11.5 to 11.11). The first number says how many levels there are up to those of operands.
unfoldable pub binary_from : Inner5 → Bool → ℕ → ℕ → Parser Read5
binary_from i no_in zero level = unary i
binary_from i no_in (suc above) level = from λ at. do
  x ← binary_from i no_in above (level + 1)
  rest ← operands (binary_from i no_in above (level + 1)) no_in level i.fuel
  made at (λ span. operated x rest span)

unfoldable pub branches : Inner5 → Bool → ℕ → Expr5 → Parser Read5
branches i no_in at test = do
  x ← i.assignment false
  _ ← take_as (mark (codes ":"))
  y ← i.assignment no_in
  made at (λ span. other (expr.Conditional span test x.value y.value))

unfoldable pub conditional : Inner5 → Bool → Parser Read5
conditional i no_in = from λ at. do
  x ← binary_from i no_in 10 3
  on (mark (codes "?")) (λ _. branches i no_in at x.value) (returns x)

unfoldable pub assigned : Inner5 → Bool → ℕ → Expr5 → AssignOperator5 → Parser Read5
assigned i no_in at target op = do
  x ← i.assignment no_in
  made at (λ span. other (expr.Assign span op target x.value))

unfoldable pub assignment : Inner5 → Bool → Parser Read5
assignment i no_in = from λ at. do
  x ← conditional i no_in
  choose (is_left x.shape) (on assign_at (λ op. assigned i no_in at x.value op) (returns x)) (returns x)

-- the parts of an expression after its first comma
unfoldable pub parts : Inner5 → Bool → ℕ → Parser (List Expr5)
parts i no_in zero = fails Endless
parts i no_in (suc turns) = do
  x ← assignment i no_in
  on (mark (codes ",")) (λ _. do
    xs ← parts i no_in turns
    returns (x.value ∷ xs)) (returns (x.value ∷ []))

unfoldable pub more_parts : Inner5 → Bool → ℕ → Expr5 → Parser Read5
more_parts i no_in at first = do
  xs ← parts i no_in i.fuel
  made at (λ span. other (expr.Sequence span first xs))

unfoldable pub sequence : Inner5 → Bool → Parser Read5
sequence i no_in = from λ at. do
  x ← assignment i no_in
  on (mark (codes ",")) (λ _. more_parts i no_in at x.value) (returns x)

-- ## Properties of object literals (11.1.5)

unfoldable pub value_of_key : Inner5 → ℕ → PlacedKey5 → Parser Property5
value_of_key i at k = do
  x ← assignment i false
  made at (λ span. property.Plain span k x.value)

unfoldable pub plain_property : Inner5 → ℕ → Parser Property5
plain_property i at = do
  k ← key
  _ ← take_as (mark (codes ":"))
  value_of_key i at k

-- after `get` or `set`: a name of its own before a colon, else an accessor
unfoldable pub after_accessor_word : Inner5 → ℕ → Bool → Parser Property5
after_accessor_word i at setter = do
  k ← made at (λ span. record { span = span; key = keys.WordKey (accessor_name setter) })
  on (mark (codes ":")) (λ _. value_of_key i at k) (accessor i at setter)

unfoldable pub one_property : Inner5 → Parser Property5
one_property i = from λ at. on accessor_at (λ setter. after_accessor_word i at setter) (plain_property i at)

-- ## Where no construct may open any more

-- what begins an expression
abbrev pub is_some : {A : Type 0} → Option A → Bool
is_some None = false
is_some (Some x) = true

unfoldable pub begins_operand : Token5 → Bool
begins_operand t = is_some (free_name t) || is_some (literal_at t) || is_word (codes "this") t.kind || is_word (codes "function") t.kind || is_word (codes "new") t.kind
    || is_mark (codes "(") t.kind || is_mark (codes "[") t.kind || is_mark (codes "{") t.kind

unfoldable pub begins_expression : Token5 → Bool
begins_expression t = begins_operand t || is_some (unary_at t) || is_some (before_at t)

unfoldable pub expression_at_limit : Parser Read5
expression_at_limit = if_next begins_expression (fails Depth) no_expression

unfoldable pub callee_at_limit : Parser Read5
callee_at_limit = if_next begins_operand (fails Depth) no_expression
