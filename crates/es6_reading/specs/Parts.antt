-- The readers of names, keys, patterns that bind, parameters, functions, methods, classes and templates (ECMA-262, 6th edition,
-- 12.2.6, 12.2.9, 13.3.3, 14).
use Rattle.std.specs.Prelude.{ℕ, zero, suc, Bool, true, false, ◌||◌, List, [], ◌∷◌, Option, Some, None, codes, is_some}
use Rattle.es_text.specs.declared.Span.{Span}
use Rattle.es6_lexer.specs.declared.token.Punctuator.TheVariants as marks
use Rattle.es6_ast.specs.declared.operators.MethodKind.{MethodKind}
use Rattle.es6_ast.specs.declared.operators.MethodKind.TheVariants.{PlainMethod, GetterMethod, SetterMethod, GeneratorMethod}
use Rattle.es6_ast.specs.declared.tree.Identifier.{Identifier}
use Rattle.es6_ast.specs.declared.tree.Expression.{Expression}
use Rattle.es6_ast.specs.declared.tree.Statement.{Statement}
use Rattle.es6_ast.specs.declared.tree.Pattern.{Pattern}
use Rattle.es6_ast.specs.declared.tree.Pattern.TheVariants as pattern
use Rattle.es6_ast.specs.declared.tree.ArrayPart.{ArrayPart}
use Rattle.es6_ast.specs.declared.tree.ArrayPart.TheVariants.{SkippedPart, SinglePart, RestPart}
use Rattle.es6_ast.specs.declared.tree.ObjectPart.{ObjectPart}
use Rattle.es6_ast.specs.declared.tree.ObjectPart.TheVariants.{NamedPart, KeyedPart}
use Rattle.es6_ast.specs.declared.tree.Parameter.{Parameter}
use Rattle.es6_ast.specs.declared.tree.Parameter.TheVariants.{SingleParameter, RestParameter}
use Rattle.es6_ast.specs.declared.tree.Key.{Key}
use Rattle.es6_ast.specs.declared.tree.Key.TheVariants.{WordKey, TextKey, IntegerKey, ComputedKey}
use Rattle.es6_ast.specs.declared.tree.Block.{Block, roll-Block}
use Rattle.es6_ast.specs.declared.tree.Class.{Class, roll-Class}
use Rattle.es6_ast.specs.declared.tree.ClassMember.{ClassMember, roll-ClassMember}
use Rattle.es6_ast.specs.declared.tree.Function.{Function, roll-Function}
use Rattle.es6_ast.specs.declared.tree.Method.{Method}
use Rattle.es6_ast.specs.declared.tree.Part.{Part, roll-Part}
use Rattle.es6_ast.specs.declared.tree.Stretch.{Stretch}
use Rattle.es6_ast.specs.declared.tree.Template.{Template, roll-Template}
use Rattle.es6_ast.specs.declared.tree.TemplatePart.{TemplatePart, roll-TemplatePart}
use Rattle.es6_ast.specs.declared.settings.Flags.{Flags}
use Rattle.es6_ast.specs.declared.settings.Stand.TheVariants.{Listed}
use Rattle.es6_ast.specs.declared.settings.Stop.TheVariants.{Endless, Depth}
use Rattle.es6_ast.specs.Tokens.{Filled}
use Rattle.es6_ast.specs.Grammar.{with_in, of_function, name_target, name_alone, method_of}
use Rattle.es6_reading.specs.Parser.{Parser, returns, fails, ◌>>=◌, no_number, on, choose, if_next, take_as, mark, word, next_mark, next_word, from, made, Inner, on_group, group}
use Rattle.es6_reading.specs.Words.{any_name, free_name, KeyToken, WordToken, TextToken, IntegerToken, key_at, accessor_at, accessor_name, stretch_at}

-- ## Names and keys (12.1, 12.2.6)

unfoldable pub identifier : Parser Identifier
identifier = from λ at. do
  name ← take_as free_name
  made at (λ span. record { span = span; name = name })

-- IdentifierName
unfoldable pub name_of_any_kind : Parser Identifier
name_of_any_kind = from λ at. do
  name ← take_as any_name
  made at (λ span. record { span = span; name = name })

abbrev pub key_of : Span → KeyToken → Key
key_of span (WordToken name) = WordKey span name
key_of span (TextToken units) = TextKey span units
key_of span (IntegerToken value) = IntegerKey span value

unfoldable pub computed_key : Inner → Flags → ℕ → Parser Key
computed_key i f at = do
  x ← i.assignment (with_in f)
  _ ← take_as (mark marks.RightBracket)
  made at (λ span. ComputedKey span x.value)

unfoldable pub key : Inner → Flags → Parser Key
key i f = from λ at. on key_at (λ k. made at (λ span. key_of span k)) (on_group i marks.LeftBracket (computed_key i f at) no_number)

-- ## Patterns that bind (13.3.3)

-- what follows the `...` of a rest, up to the closing mark
unfoldable pub rest_part : ℕ → Parser (List ArrayPart)
rest_part at = do
  n ← identifier
  e ← made at (λ span. RestPart span (name_target n))
  _ ← take_as (mark marks.RightBracket)
  returns (e ∷ [])

-- the parts after the opening bracket or a comma, and the closing bracket
unfoldable pub array_parts : Inner → Flags → ℕ → Parser (List ArrayPart)
array_parts i f zero = fails Endless
array_parts i f (suc turns) = from λ at. on (mark marks.RightBracket) (λ _. returns []) (on (mark marks.Comma) (λ _. do
  es ← array_parts i f turns
  returns (SkippedPart ∷ es)) (on (mark marks.Ellipsis) (λ _. rest_part at) (do
    q ← i.part f
    on (mark marks.Comma) (λ _. do
      es ← array_parts i f turns
      returns (SinglePart q ∷ es)) (do
        _ ← take_as (mark marks.RightBracket)
        returns (SinglePart q ∷ [])))))

-- the properties after the opening brace or a comma, and the closing brace
unfoldable pub object_parts : Inner → Flags → ℕ → Parser (List ObjectPart)
object_parts i f zero = fails Endless
object_parts i f (suc turns) = on (mark marks.RightBrace) (λ _. returns []) (do
  e ← i.object_part f
  on (mark marks.Comma) (λ _. do
    es ← object_parts i f turns
    returns (e ∷ es)) (do
      _ ← take_as (mark marks.RightBrace)
      returns (e ∷ [])))

-- BindingPattern, which begins at the place
unfoldable pub binding_pattern : Inner → Flags → ℕ → Parser Pattern
binding_pattern i f at = on_group i marks.LeftBracket (do
  es ← array_parts i f i.fuel
  made at (λ span. pattern.ArrayPattern span es)) (group i marks.LeftBrace (do
    es ← object_parts i f i.fuel
    made at (λ span. pattern.ObjectPattern span es)))

unfoldable pub binding : Inner → Flags → Parser Pattern
binding i f = from λ at. on free_name (λ name. made at (λ span. name_target (record { span = span; name = name }))) (binding_pattern i f at)

-- a pattern, and the initializer that may follow it, with these flags
unfoldable pub initialized : Inner → Flags → Flags → Parser Part
initialized i f g = from λ at. do
  p ← binding i f
  on (mark marks.Assign) (λ _. do
    x ← i.assignment g
    made at (λ span. roll-Part (record { span = span; pattern = p; default = Some x.value }))) (made at (λ span. roll-Part (record { span = span; pattern = p; default = None })))

-- BindingElement
unfoldable pub one_part : Inner → Flags → Parser Part
one_part i f = initialized i f (with_in f)

unfoldable pub keyed_part : Inner → Flags → ℕ → Key → Parser ObjectPart
keyed_part i f at k = do
  q ← one_part i f
  made at (λ span. KeyedPart span k q)

-- a name alone or with its default
unfoldable pub named_part : Inner → Flags → ℕ → Identifier → Parser ObjectPart
named_part i f at n = on (mark marks.Assign) (λ _. do
  x ← i.assignment (with_in f)
  made at (λ span. NamedPart (roll-Part (record { span = span; pattern = name_target n; default = Some x.value })))) (returns (NamedPart (name_alone n)))

-- BindingProperty
unfoldable pub one_object_part : Inner → Flags → Parser ObjectPart
one_object_part i f = from λ at. on free_name (λ name. do
  n ← made at (λ span. record { span = span; name = name })
  on (mark marks.Colon) (λ _. keyed_part i f at (WordKey n.span n.name)) (named_part i f at n)) (do
    k ← key i f
    _ ← take_as (mark marks.Colon)
    keyed_part i f at k)

-- ## Parameters (14.1)

unfoldable pub rest_parameter : ℕ → Parser Parameter
rest_parameter at = do
  n ← identifier
  e ← made at (λ span. RestParameter span (name_target n))
  _ ← take_as (mark marks.RightParenthesis)
  returns e

-- the parameters after the opening parenthesis or a comma, and the closing parenthesis
unfoldable pub more_parameters : Inner → Flags → ℕ → Parser (List Parameter)
more_parameters i f zero = fails Endless
more_parameters i f (suc turns) = from λ at. on (mark marks.Ellipsis) (λ _. do
  e ← rest_parameter at
  returns (e ∷ [])) (do
    q ← i.part f
    on (mark marks.Comma) (λ _. do
      es ← more_parameters i f turns
      returns (SingleParameter q ∷ es)) (do
        _ ← take_as (mark marks.RightParenthesis)
        returns (SingleParameter q ∷ [])))

unfoldable pub parameters : Inner → Flags → Parser (List Parameter)
parameters i f = on (mark marks.RightParenthesis) (λ _. returns []) (more_parameters i f i.fuel)

-- ## Functions (14.1, 14.4)

-- the statements of a block or a function after the opening brace, and the closing brace
unfoldable pub statements : Inner → Flags → ℕ → Parser (List Statement)
statements i f zero = fails Endless
statements i f (suc turns) = on (mark marks.RightBrace) (λ _. returns []) (do
  s ← i.statement f Listed
  ss ← statements i f turns
  returns (s ∷ ss))

-- Block (13.2)
unfoldable pub block : Inner → Flags → Parser Block
block i f = from λ at. group i marks.LeftBrace (do
  ss ← statements i f i.fuel
  made at (λ span. roll-Block (record { span = span; statements = ss })))

unfoldable pub function_body : Inner → Bool → Parser (List Statement)
function_body i generator = group i marks.LeftBrace (statements i (of_function generator) i.fuel)

pub record Signature : Type 0 where
  pub parameters : List Parameter
  pub body : List Statement

unfoldable pub signature : Inner → Bool → Parser Signature
signature i generator = do
  es ← group i marks.LeftParenthesis (parameters i (of_function generator))
  ss ← function_body i generator
  returns (record { parameters = es; body = ss })

-- the `*` of a generator, or none
unfoldable pub star : Parser Bool
star = on (mark marks.Star) (λ _. returns true) (returns false)

unfoldable pub rest_of_function : Inner → ℕ → Bool → Option Identifier → Parser Function
rest_of_function i at generator name = do
  s ← signature i generator
  made at (λ span. roll-Function (record { span = span; is_generator = generator; name = name; parameters = s.parameters; body = s.body }))

unfoldable pub named_function : Inner → ℕ → Bool → Parser Function
named_function i at generator = do
  n ← identifier
  rest_of_function i at generator (Some n)

-- What follows `function`, which begins at the place. The mark says that the name may be absent.
unfoldable pub function_after_word : Inner → Bool → ℕ → Parser Function
function_after_word i lacks at = do
  generator ← star
  choose lacks (if_next (next_mark marks.LeftParenthesis) (rest_of_function i at generator None) (named_function i at generator)) (named_function i at generator)

-- ## Methods (14.3)

-- what follows the name of a method
unfoldable pub method_after_key : Inner → MethodKind → Bool → ℕ → Key → Parser Method
method_after_key i kind generator at k = from λ from_parameters. do
  s ← signature i generator
  c ← made from_parameters (λ span. span)
  made at (λ span. method_of span kind k c s.parameters s.body)

unfoldable pub no_parameter : Parser (List Parameter)
no_parameter = do
  _ ← take_as (mark marks.RightParenthesis)
  returns []

unfoldable pub one_parameter : Inner → Parser (List Parameter)
one_parameter i = do
  q ← i.part (of_function false)
  _ ← take_as (mark marks.RightParenthesis)
  returns (SingleParameter q ∷ [])

unfoldable pub accessor_parameters : Inner → Bool → Parser (List Parameter)
accessor_parameters i true = one_parameter i
accessor_parameters i false = no_parameter

abbrev pub accessor_kind : Bool → MethodKind
accessor_kind true = SetterMethod
accessor_kind false = GetterMethod

-- what follows `get` or `set`
unfoldable pub accessor : Inner → Flags → ℕ → Bool → Parser Method
accessor i f at setter = do
  k ← key i f
  from λ from_parameters. do
    es ← group i marks.LeftParenthesis (accessor_parameters i setter)
    ss ← function_body i false
    c ← made from_parameters (λ span. span)
    made at (λ span. method_of span (accessor_kind setter) k c es ss)

unfoldable pub generator_method : Inner → Flags → ℕ → Parser Method
generator_method i f at = do
  k ← key i f
  method_after_key i GeneratorMethod true at k

-- after `get` or `set`: a method of that name, else an accessor
unfoldable pub method_after_accessor_word : Inner → Flags → ℕ → Bool → Parser Method
method_after_accessor_word i f at setter = do
  k ← made at (λ span. WordKey span (accessor_name setter))
  if_next (next_mark marks.LeftParenthesis) (method_after_key i PlainMethod false at k) (accessor i f at setter)

-- MethodDefinition
unfoldable pub method : Inner → Flags → Parser Method
method i f = from λ at. on (mark marks.Star) (λ _. generator_method i f at)
    (on accessor_at (λ setter. method_after_accessor_word i f at setter) (do
      k ← key i f
      method_after_key i PlainMethod false at k))

-- ## Classes (14.5)

abbrev pub member_of : Bool → Method → Span → ClassMember
member_of is_static m span = roll-ClassMember (record { span = span; is_static = is_static; method = m })

-- after `static`: a method of that name, else a static one
unfoldable pub member_after_static : Inner → Flags → ℕ → Parser ClassMember
member_after_static i f at = do
  k ← made at (λ span. WordKey span (codes "static"))
  if_next (next_mark marks.LeftParenthesis) (do
    m ← method_after_key i PlainMethod false at k
    made at (member_of false m)) (do
      m ← method i f
      made at (member_of true m))

unfoldable pub one_member : Inner → Flags → Parser ClassMember
one_member i f = from λ at. on (word (codes "static")) (λ _. member_after_static i f at) (do
  m ← method i f
  made at (member_of false m))

-- the members after the opening brace or a member, and the closing brace
unfoldable pub members : Inner → Flags → ℕ → Parser (List ClassMember)
members i f zero = fails Endless
members i f (suc turns) = on (mark marks.RightBrace) (λ _. returns []) (on (mark marks.Semicolon) (λ _. members i f turns) (do
  m ← i.member f
  ms ← members i f turns
  returns (m ∷ ms)))

unfoldable pub heritage : Inner → Flags → Parser (Option Expression)
heritage i f = on (word (codes "extends")) (λ _. do
  x ← i.heritage f
  returns (Some x.value)) (returns None)

unfoldable pub rest_of_class : Inner → Flags → ℕ → Option Identifier → Parser Class
rest_of_class i f at name = do
  h ← heritage i f
  ms ← group i marks.LeftBrace (members i f i.fuel)
  made at (λ span. roll-Class (record { span = span; name = name; heritage = h; members = ms }))

unfoldable pub named_class : Inner → Flags → ℕ → Parser Class
named_class i f at = do
  n ← identifier
  rest_of_class i f at (Some n)

abbrev pub begins_class_tail : Filled → Bool
begins_class_tail t = next_mark marks.LeftBrace t || next_word (codes "extends") t

-- What follows `class`, which begins at the place. The mark says that the name may be absent.
unfoldable pub class_after_word : Inner → Flags → Bool → ℕ → Parser Class
class_after_word i f lacks at = choose lacks (if_next begins_class_tail (rest_of_class i f at None) (named_class i f at)) (named_class i f at)

-- ## Templates (12.2.9)

abbrev pub template_part : Expression → Stretch → TemplatePart
template_part x s = roll-TemplatePart (record { value = x; after = s })

-- the values after the first stretch, each with the stretch after it
unfoldable pub template_parts : Inner → Flags → ℕ → Parser (List TemplatePart)
template_parts i f zero = fails Endless
template_parts i f (suc turns) = do
  x ← i.sequence (with_in f)
  on (stretch_at false true) (λ s. returns (template_part x.value s ∷ [])) (do
    s ← take_as (stretch_at false false)
    ms ← template_parts i f turns
    returns (template_part x.value s ∷ ms))

unfoldable pub parted_template : Inner → Flags → ℕ → Stretch → Parser Template
parted_template i f at s = do
  ms ← template_parts i f i.fuel
  made at (λ span. roll-Template (record { span = span; first = s; rest = ms }))

-- takes a token that the test knows and goes on inside the construct that it opens
abbrev pub on_opening : {A B : Type 0} → Inner → (Filled → Option B) → (B → Parser A) → Parser A → Parser A
on_opening i test inside otherwise = if_next (λ t. is_some (test t)) (choose i.may_open (on test inside otherwise) (fails Depth)) otherwise

-- A template and what goes on from it, or what is read where none begins. One with values is a construct, which its first stretch
-- opens.
abbrev pub on_template : {A : Type 0} → Inner → Flags → ℕ → (Template → Parser A) → Parser A → Parser A
on_template i f at p q = on (stretch_at true true) (λ s. do
  m ← made at (λ span. roll-Template (record { span = span; first = s; rest = [] }))
  p m) (on_opening i (stretch_at true false) (λ s. do
    m ← parted_template i f at s
    p m) q)
