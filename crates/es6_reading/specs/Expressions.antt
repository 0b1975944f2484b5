-- The readers of expressions (ECMA-262, 6th edition, 12, and for `**` the 7th edition, 12.6), one for each level of the grammar.
use Rattle.std.specs.Prelude.{ℕ, zero, suc, ◌+◌, Bool, true, false, ◌&&◌, ◌||◌, not, cond, List, [], ◌∷◌, Option, Some, None, codes}
use Rattle.es_text.specs.declared.Span.{Span}
use Rattle.es6_lexer.specs.declared.token.TokenKind.TheVariants as kinds
use Rattle.es6_lexer.specs.declared.token.Punctuator.TheVariants as marks
use Rattle.es6_ast.specs.declared.operators.UnaryOperator.{UnaryOperator}
use Rattle.es6_ast.specs.declared.operators.UpdateOperator.{UpdateOperator}
use Rattle.es6_ast.specs.declared.operators.AssignOperator.{AssignOperator}
use Rattle.es6_ast.specs.declared.operators.MethodKind.TheVariants.{PlainMethod}
use Rattle.es6_ast.specs.declared.tree.Identifier.{Identifier}
use Rattle.es6_ast.specs.declared.tree.Expression.{Expression}
use Rattle.es6_ast.specs.declared.tree.Expression.TheVariants as expr
use Rattle.es6_ast.specs.declared.tree.Parameter.{Parameter}
use Rattle.es6_ast.specs.declared.tree.Element.{Element}
use Rattle.es6_ast.specs.declared.tree.Element.TheVariants.{Hole, Present}
use Rattle.es6_ast.specs.declared.tree.Argument.{Argument}
use Rattle.es6_ast.specs.declared.tree.Argument.TheVariants.{Single, Spread}
use Rattle.es6_ast.specs.declared.tree.Property.{Property}
use Rattle.es6_ast.specs.declared.tree.Property.TheVariants as property
use Rattle.es6_ast.specs.declared.tree.Key.{Key}
use Rattle.es6_ast.specs.declared.tree.Key.TheVariants.{WordKey}
use Rattle.es6_ast.specs.declared.tree.Link.{Link}
use Rattle.es6_ast.specs.declared.tree.Link.TheVariants as link
use Rattle.es6_ast.specs.declared.tree.ArrowBody.TheVariants.{ValueBody, BlockBody}
use Rattle.es6_ast.specs.declared.tree.Arrow.{roll-Arrow}
use Rattle.es6_ast.specs.declared.tree.Operand.{Operand, roll-Operand}
use Rattle.es6_ast.specs.declared.tree.Rest.{Rest}
use Rattle.es6_ast.specs.declared.settings.Flags.{Flags}
use Rattle.es6_ast.specs.declared.settings.Role.{Role}
use Rattle.es6_ast.specs.declared.settings.Role.TheVariants.{Leading, Among, Heritage, Callee}
use Rattle.es6_ast.specs.declared.settings.Shape.{Shape}
use Rattle.es6_ast.specs.declared.settings.Shape.TheVariants.{Bare, Grouped, Covered, LeftHandSide, Other}
use Rattle.es6_ast.specs.declared.settings.Stop.TheVariants.{Endless, Depth}
use Rattle.es6_ast.specs.Settings.{is_leading, has_calls}
use Rattle.es6_ast.specs.Tokens.{Filling, Read, Inserted, Filled}
use Rattle.es6_ast.specs.Grammar.{with_in, of_function, of_arrow}
use Rattle.es6_reading.specs.Parser.{Parser, returns, fails, ◌>>=◌, refused, no_number, no_expression, on, choose, if_next, take_as, is_mark, mark, word, next_mark, from, last_end, made, Reading, is_left, is_covered, Inner, on_group, group}
use Rattle.es6_reading.specs.Words.{free_name, literal_at, accessor_at, accessor_name, unary_at, before_at, after_at, assign_at, binary_at, is_arrow, arrow_at, begins_operand}
use Rattle.es6_reading.specs.Refine.{Refined, Fits, Misfit, TooNested, parameters_of, refine_parameters, target_before}
use Rattle.es6_reading.specs.Parts.{identifier, name_of_any_kind, key, function_after_word, method_after_key, accessor, generator_method, class_after_word, on_template}

abbrev pub left : Expression → Reading
left x = record { value = x; shape = LeftHandSide }

abbrev pub other : Expression → Reading
other x = record { value = x; shape = Other }

-- where no operand begins: a regular expression is reported only where an operator might stand
abbrev pub no_operand : {A : Type 0} → Role → Parser A
no_operand Leading = no_expression
no_operand Among = no_expression
no_operand Heritage = no_number
no_operand Callee = no_number

-- ## Array literals (12.2.5) and arguments (12.3)

-- AssignmentExpression, or SpreadElement
unfoldable pub argument : Inner → Flags → Parser Argument
argument i f = from λ at. on (mark marks.Ellipsis) (λ _. do
  x ← i.assignment (with_in f)
  made at (λ span. Spread span x.value)) (do
    x ← i.assignment (with_in f)
    returns (Single x.value))

-- elements, and whether a comma follows the last one
pub record Listing : Type 0 where
  pub elements : List Element
  pub ends_in_comma : Bool

abbrev pub with_element : Element → Listing → Listing
with_element e l = record { elements = e ∷ l.elements; ends_in_comma = l.ends_in_comma }

-- the elements after the opening bracket or a comma, and the closing bracket
unfoldable pub elements : Inner → Flags → ℕ → Parser Listing
elements i f zero = fails Endless
elements i f (suc turns) = on (mark marks.RightBracket) (λ _. returns (record { elements = []; ends_in_comma = false })) (on (mark marks.Comma) (λ _. do
  l ← elements i f turns
  returns (with_element Hole l)) (do
    a ← argument i f
    on (mark marks.Comma) (λ _. on (mark marks.RightBracket) (λ _. returns (record { elements = Present a ∷ []; ends_in_comma = true })) (do
      l ← elements i f turns
      returns (with_element (Present a) l))) (do
        _ ← take_as (mark marks.RightBracket)
        returns (record { elements = Present a ∷ []; ends_in_comma = false }))))

unfoldable pub more_arguments : Inner → Flags → ℕ → Parser (List Argument)
more_arguments i f zero = fails Endless
more_arguments i f (suc turns) = do
  a ← argument i f
  on (mark marks.Comma) (λ _. do
    xs ← more_arguments i f turns
    returns (a ∷ xs)) (do
      _ ← take_as (mark marks.RightParenthesis)
      returns (a ∷ []))

unfoldable pub arguments : Inner → Flags → Parser (List Argument)
arguments i f = on (mark marks.RightParenthesis) (λ _. returns []) (more_arguments i f i.fuel)

-- ## Object literals (12.2.6)

-- the properties after the opening brace or a comma, and the closing brace
unfoldable pub properties : Inner → Flags → ℕ → Parser (List Property)
properties i f zero = fails Endless
properties i f (suc turns) = on (mark marks.RightBrace) (λ _. returns []) (do
  x ← i.property f
  on (mark marks.Comma) (λ _. do
    xs ← properties i f turns
    returns (x ∷ xs)) (do
      _ ← take_as (mark marks.RightBrace)
      returns (x ∷ [])))

-- ## Groups (12.2.10), and the parentheses that only an arrow's parameters have (14.2)

-- Such parentheses stand before `=>`.
unfoldable pub covered : ℕ → Option Expression → Option Rest → Parser Reading
covered at held rest = if_next is_arrow (made at (λ span. record { value = expr.Cover span held rest; shape = Covered })) refused

-- the name after the `...` at the second place, and the closing parenthesis
unfoldable pub covered_rest : ℕ → ℕ → Option Expression → Parser Reading
covered_rest at dots held = do
  n ← identifier
  rest ← made dots (λ span. record { span = span; name = n })
  _ ← take_as (mark marks.RightParenthesis)
  covered at held (Some rest)

-- a rest may stand here if what stands before it is parameters
abbrev pub rest_after : ℕ → ℕ → Expression → Refined (List Parameter) → Parser Reading
rest_after at dots held (Fits parameters) = on (mark marks.Ellipsis) (λ _. covered_rest at dots (Some held)) refused
rest_after at dots held (Misfit place) = refused
rest_after at dots held TooNested = fails Endless

-- the parts of a group, where the last of them ends, and whether a comma after it stands before a rest
pub record Held : Type 0 where
  pub first : Expression
  pub more : List Expression
  pub end : ℕ
  pub before_rest : Bool

abbrev pub held_alone : Expression → ℕ → Bool → Held
held_alone x end before_rest = record { first = x; more = []; end = end; before_rest = before_rest }

abbrev pub held_first : Expression → Held → Held
held_first x h = record { first = x; more = h.first ∷ h.more; end = h.end; before_rest = h.before_rest }

unfoldable pub held_parts : Inner → Flags → Role → ℕ → Parser Held
held_parts i f role zero = fails Endless
held_parts i f role (suc turns) = do
  x ← i.assignment (with_in f)
  end ← last_end
  on (mark marks.Comma) (λ _. if_next (λ t. is_leading role && next_mark marks.Ellipsis t) (returns (held_alone x.value end true)) (do
    h ← held_parts i f role turns
    returns (held_first x.value h))) (returns (held_alone x.value end false))

abbrev pub sequenced : Expression → List Expression → Span → Expression
sequenced x [] span = x
sequenced x (y ∷ rest) span = expr.Sequence span x (y ∷ rest)

unfoldable pub closed_group : ℕ → Expression → Parser Reading
closed_group at held = do
  _ ← take_as (mark marks.RightParenthesis)
  made at (λ span. record { value = expr.Group span held; shape = Grouped })

-- what stands at the second place
abbrev pub whole : ℕ → Held → Expression
whole inside h = sequenced h.first h.more (record { begin = inside; end = h.end })

unfoldable pub held_group : Inner → Flags → Role → ℕ → Parser Reading
held_group i f role at = from λ inside. do
  h ← held_parts i f role i.fuel
  choose h.before_rest (from λ dots. rest_after at dots (whole inside h) (parameters_of i.fuel (h.first ∷ h.more))) (closed_group at (whole inside h))

-- what follows the opening parenthesis at the place
unfoldable pub grouped : Inner → Flags → Role → ℕ → Parser Reading
grouped i f role at = choose (is_leading role) (on (mark marks.RightParenthesis) (λ _. covered at None None) (from λ dots. on (mark marks.Ellipsis) (λ _. covered_rest at dots None) (held_group i f role at))) (held_group i f role at)

-- ## Primary expressions (12.2)

unfoldable pub bracketed : Inner → Flags → Role → ℕ → Parser Reading
bracketed i f role at = on_group i marks.LeftBracket (do
  l ← elements i f i.fuel
  made at (λ span. left (expr.ArrayList span l.elements l.ends_in_comma))) (on_group i marks.LeftBrace (do
    xs ← properties i f i.fuel
    made at (λ span. left (expr.ObjectList span xs))) (no_operand role))

-- functions, classes and templates, and what parentheses, brackets and braces hold
unfoldable pub composed : Inner → Flags → Role → ℕ → Parser Reading
composed i f role at = on (word (codes "function")) (λ _. do
  g ← function_after_word i true at
  returns (left (expr.Function g))) (on (word (codes "class")) (λ _. do
    c ← class_after_word i f true at
    returns (left (expr.Class c))) (on_template i f at (λ m. returns (left (expr.Template m))) (on_group i marks.LeftParenthesis (grouped i f role at) (bracketed i f role at))))

unfoldable pub primary : Inner → Flags → Role → ℕ → Parser Reading
primary i f role at = on (word (codes "this")) (λ _. made at (λ span. left (expr.This span)))
    (on free_name (λ name. made at (λ span. record { value = expr.Name span name; shape = Bare }))
    (on literal_at (λ value. made at (λ span. left (expr.Literal span value))) (composed i f role at)))

-- ## Left-hand-side expressions (12.3)

-- the arguments of `new`, if there are any
unfoldable pub after_callee : Inner → Flags → ℕ → Expression → Parser Reading
after_callee i f at callee = on_group i marks.LeftParenthesis (do
  xs ← arguments i f
  made at (λ span. left (expr.New span callee xs))) (made at (λ span. left (expr.New span callee [])))

-- after `new`: `.target`, or what is constructed
unfoldable pub after_new : Inner → Flags → ℕ → Parser Reading
after_new i f at = on (mark marks.Dot) (λ _. do
  _ ← take_as (word (codes "target"))
  made at (λ span. left (expr.NewTarget span))) (do
    callee ← i.callee f
    after_callee i f at callee.value)

unfoldable pub super_call : Inner → Flags → Role → ℕ → Parser Reading
super_call i f role at = choose (has_calls role) (group i marks.LeftParenthesis (do
  xs ← arguments i f
  made at (λ span. left (expr.SuperCall span xs)))) refused

unfoldable pub after_super : Inner → Flags → Role → ℕ → Parser Reading
after_super i f role at = on (mark marks.Dot) (λ _. do
  n ← name_of_any_kind
  made at (λ span. left (expr.SuperMember span n))) (on_group i marks.LeftBracket (do
    x ← i.sequence (with_in f)
    _ ← take_as (mark marks.RightBracket)
    made at (λ span. left (expr.SuperIndex span x.value))) (super_call i f role at))

-- what accesses and calls begin with
unfoldable pub head : Inner → Flags → Role → ℕ → Parser Reading
head i f role at = on (word (codes "new")) (λ _. after_new i f at) (on (word (codes "super")) (λ _. after_super i f role at) (primary i f role at))

unfoldable pub member_link : ℕ → Parser Link
member_link at = do
  n ← name_of_any_kind
  made at (λ span. link.Member span n)

unfoldable pub index_link : Inner → Flags → ℕ → Parser Link
index_link i f at = do
  x ← i.sequence (with_in f)
  _ ← take_as (mark marks.RightBracket)
  made at (λ span. link.Index span x.value)

unfoldable pub call_link : Inner → Flags → ℕ → Parser Link
call_link i f at = do
  xs ← arguments i f
  made at (λ span. link.Call span xs)

-- an access or a call, and what goes on from it, or what is read where there is none
abbrev pub on_link : Inner → Flags → Bool → ℕ → (Link → Parser (List Link)) → Parser (List Link) → Parser (List Link)
on_link i f calls at p q = on (mark marks.Dot) (λ _. do
  l ← member_link at
  p l) (on_group i marks.LeftBracket (do
    l ← index_link i f at
    p l) (on_template i f at (λ m. p (link.Tagged m)) (choose calls (on_group i marks.LeftParenthesis (do
      l ← call_link i f at
      p l) q) q)))

-- accesses, and calls where the mark says so
unfoldable pub links : Inner → Flags → Bool → ℕ → Parser (List Link)
links i f calls zero = fails Endless
links i f calls (suc turns) = from λ at. on_link i f calls at (λ l. do
  ls ← links i f calls turns
  returns (l ∷ ls)) (returns [])

-- a head, or a chain where there are links
abbrev pub chained : Reading → List Link → Span → Reading
chained x [] span = x
chained x (l ∷ ls) span = left (expr.Chain span x.value (l ∷ ls))

unfoldable pub chain : Inner → Flags → Role → Parser Reading
chain i f role = from λ at. do
  x ← head i f role at
  ls ← links i f (has_calls role) i.fuel
  made at (chained x ls)

-- ## Operators (12.4 to 12.13)

unfoldable pub postfix : Inner → Flags → Role → Parser Reading
postfix i f role = from λ at. do
  x ← chain i f role
  on after_at (λ op. made at (λ span. other (expr.Update span op x.value))) (returns x)

unfoldable pub prefixed : Inner → Flags → ℕ → UnaryOperator → Parser Reading
prefixed i f at op = do
  x ← i.unary f
  made at (λ span. other (expr.Unary span op x.value))

unfoldable pub updated : Inner → Flags → ℕ → UpdateOperator → Parser Reading
updated i f at op = do
  x ← i.unary f
  made at (λ span. other (expr.Update span op x.value))

-- UpdateExpression
unfoldable pub update : Inner → Flags → Role → Parser Reading
update i f role = from λ at. on before_at (λ op. updated i f at op) (postfix i f role)

-- UnaryExpression
unfoldable pub unary : Inner → Flags → Parser Reading
unary i f = from λ at. on unary_at (λ op. prefixed i f at op) (update i f Among)

unfoldable pub raised : Inner → Flags → ℕ → Reading → Parser Reading
raised i f at x = on (mark marks.StarStar) (λ _. do
  y ← i.power f
  made at (λ span. other (expr.Power span x.value y.value))) (returns x)

-- ExponentiationExpression: its base has no unary operator
unfoldable pub power : Inner → Flags → Role → Parser Reading
power i f role = from λ at. on unary_at (λ op. prefixed i f at op) (do
  x ← update i f role
  raised i f at x)

-- operators of a level, each with an operand that the reader reads
unfoldable pub operands : Parser Reading → Flags → ℕ → ℕ → Parser (List Operand)
operands operand f level zero = fails Endless
operands operand f level (suc turns) = on (binary_at f level) (λ op. do
  x ← operand
  rest ← operands operand f level turns
  returns (roll-Operand (record { operator = op; value = x.value }) ∷ rest)) (returns [])

abbrev pub operated : Reading → List Operand → Span → Reading
operated x [] span = x
operated x (o ∷ rest) span = other (expr.Binary span x.value (o ∷ rest))

-- The operators from a level on (12.6 to 12.12). The first number says how many levels there are up to those of operands.
unfoldable pub binary_from : Inner → Flags → Role → ℕ → ℕ → Parser Reading
binary_from i f role zero level = power i f role
binary_from i f role (suc above) level = from λ at. do
  x ← binary_from i f role above (level + 1)
  rest ← operands (binary_from i f Among above (level + 1)) f level i.fuel
  made at (operated x rest)

unfoldable pub branches : Inner → Flags → ℕ → Expression → Parser Reading
branches i f at test = do
  x ← i.assignment (with_in f)
  _ ← take_as (mark marks.Colon)
  y ← i.assignment f
  made at (λ span. other (expr.Conditional span test x.value y.value))

unfoldable pub conditional : Inner → Flags → Parser Reading
conditional i f = from λ at. do
  x ← binary_from i f Leading 10 3
  on (mark marks.Question) (λ _. branches i f at x.value) (returns x)

-- ## Arrow functions (14.2)

-- the parameters that stand before `=>`
abbrev pub parameters_before : ℕ → Shape → Expression → Refined (List Parameter)
parameters_before n Bare x = refine_parameters n x
parameters_before n Grouped x = refine_parameters n x
parameters_before n Covered x = refine_parameters n x
parameters_before n LeftHandSide x = Misfit 0
parameters_before n Other x = Misfit 0

unfoldable pub arrow_body : Inner → Flags → ℕ → List Parameter → Parser Reading
arrow_body i f at parameters = if_next (next_mark marks.LeftBrace) (do
  b ← i.block (of_function false)
  made at (λ span. other (expr.Arrow (roll-Arrow (record { span = span; parameters = parameters; body = BlockBody b }))))) (do
    x ← i.assignment (of_arrow f)
    made at (λ span. other (expr.Arrow (roll-Arrow (record { span = span; parameters = parameters; body = ValueBody x.value })))))

-- what stands before `=>` and is no parameters ends there, if it is an expression by itself
abbrev pub before_arrow : Reading → Parser Reading
before_arrow x = choose (is_covered x.shape) refused (returns x)

abbrev pub arrow_if : Inner → Flags → ℕ → Reading → Refined (List Parameter) → Parser Reading
arrow_if i f at x (Fits parameters) = on arrow_at (λ _. arrow_body i f at parameters) refused
arrow_if i f at x (Misfit place) = before_arrow x
arrow_if i f at x TooNested = fails Endless

-- ## Assignment and yield (12.14, 14.4)

-- what a refinement gives; it fits
abbrev pub fitting : {A : Type 0} → Refined A → Parser A
fitting (Fits x) = returns x
fitting (Misfit place) = refused
fitting TooNested = fails Endless

unfoldable pub assigned_with : Inner → Flags → ℕ → Expression → AssignOperator → Parser Reading
assigned_with i f at x op = do
  p ← fitting (target_before i.fuel op x)
  y ← i.assignment f
  made at (λ span. other (expr.Assign span op p y.value))

unfoldable pub after_conditional : Inner → Flags → ℕ → Reading → Parser Reading
after_conditional i f at x = if_next is_arrow (from λ place. arrow_if i f at x (parameters_before i.fuel x.shape x.value)) (choose (is_left x.shape) (on assign_at (λ op. assigned_with i f at x.value op) (returns x)) (returns x))

-- `*` on the line of `yield`
abbrev pub star_at : Filled → Option Filled
star_at t = cond t.newline None (mark marks.Star t)

abbrev pub ends_value : Filling → Bool
ends_value (Inserted do_while) = true
ends_value (Read kinds.End) = true
ends_value (Read (kinds.Template cooked raw first last)) = not first
ends_value k = is_mark marks.RightParenthesis k || is_mark marks.RightBracket k || is_mark marks.RightBrace k || is_mark marks.Comma k || is_mark marks.Semicolon k || is_mark marks.Colon k

-- what may follow a `yield` that has no value
unfoldable pub ends_yield : Filled → Bool
ends_yield t = t.newline || ends_value t.kind

unfoldable pub after_yield : Inner → Flags → ℕ → Parser Reading
after_yield i f at = on star_at (λ _. do
  x ← i.assignment f
  made at (λ span. other (expr.Delegate span x.value))) (if_next (λ t. not (ends_yield t)) (do
    x ← i.assignment f
    made at (λ span. other (expr.Yield span (Some x.value)))) (made at (λ span. other (expr.Yield span None))))

unfoldable pub without_yield : Inner → Flags → ℕ → Parser Reading
without_yield i f at = do
  x ← conditional i f
  after_conditional i f at x

-- AssignmentExpression
unfoldable pub assignment : Inner → Flags → Parser Reading
assignment i f = from λ at. choose f.has_yield (on (word (codes "yield")) (λ _. after_yield i f at) (without_yield i f at)) (without_yield i f at)

-- ## Expression (12.15)

-- the parts after the first comma
unfoldable pub parts : Inner → Flags → ℕ → Parser (List Expression)
parts i f zero = fails Endless
parts i f (suc turns) = do
  x ← assignment i f
  on (mark marks.Comma) (λ _. do
    xs ← parts i f turns
    returns (x.value ∷ xs)) (returns (x.value ∷ []))

unfoldable pub more_parts : Inner → Flags → ℕ → Expression → Parser Reading
more_parts i f at first = do
  xs ← parts i f i.fuel
  made at (λ span. other (expr.Sequence span first xs))

unfoldable pub sequence : Inner → Flags → Parser Reading
sequence i f = from λ at. do
  x ← assignment i f
  on (mark marks.Comma) (λ _. more_parts i f at x.value) (returns x)

-- ## Properties of object literals (12.2.6)

unfoldable pub value_of_key : Inner → Flags → ℕ → Key → Parser Property
value_of_key i f at k = do
  x ← assignment i (with_in f)
  made at (λ span. property.Plain span k x.value)

unfoldable pub method_of_key : Inner → ℕ → Key → Parser Property
method_of_key i at k = do
  m ← method_after_key i PlainMethod false at k
  returns (property.Defined m)

unfoldable pub after_key : Inner → Flags → ℕ → Key → Parser Property
after_key i f at k = on (mark marks.Colon) (λ _. value_of_key i f at k) (method_of_key i at k)

unfoldable pub shorthand : Inner → Flags → ℕ → Identifier → Parser Property
shorthand i f at n = on (mark marks.Assign) (λ equals. do
  x ← i.assignment (with_in f)
  made at (λ span. property.Initialized span n equals.span x.value)) (returns (property.Shorthand n.span n.name))

-- after a name that may stand alone
unfoldable pub after_name : Inner → Flags → ℕ → Identifier → Parser Property
after_name i f at n = if_next (λ t. next_mark marks.Colon t || next_mark marks.LeftParenthesis t) (after_key i f at (WordKey n.span n.name)) (shorthand i f at n)

-- what follows the name of a property, and no `get` or `set` before another name
abbrev pub ends_name : Filled → Bool
ends_name t = next_mark marks.Colon t || next_mark marks.LeftParenthesis t || next_mark marks.Comma t || next_mark marks.RightBrace t || next_mark marks.Assign t

unfoldable pub after_accessor_word : Inner → Flags → ℕ → Bool → Parser Property
after_accessor_word i f at setter = do
  n ← made at (λ span. record { span = span; name = accessor_name setter })
  if_next ends_name (after_name i f at n) (do
    m ← accessor i f at setter
    returns (property.Defined m))

unfoldable pub one_property : Inner → Flags → Parser Property
one_property i f = from λ at. on (mark marks.Star) (λ _. do
  m ← generator_method i f at
  returns (property.Defined m)) (on accessor_at (λ setter. after_accessor_word i f at setter) (on free_name (λ name. do
    n ← made at (λ span. record { span = span; name = name })
    after_name i f at n) (do
      k ← key i f
      after_key i f at k)))

-- ## Where no construct may open any more

unfoldable pub expression_at_limit : (Filled → Bool) → Parser Reading
expression_at_limit begins = if_next begins (fails Depth) no_expression

unfoldable pub operand_at_limit : Parser Reading
operand_at_limit = if_next begins_operand (fails Depth) no_number
