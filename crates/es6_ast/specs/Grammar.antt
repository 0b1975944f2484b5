-- The grammar of module code (ECMA-262, 6th edition, 12 to 15, without annex B, and for `**` the 7th edition, 12.6) over
-- tokens among which every semicolon stands. Each relation says which tokens spell a node, and which follow it:
-- `IsStatement f ts s us` says that `ts` begin with tokens that spell `s`, and go on with `us`.
use Rattle.std.specs.Prelude.{◌≡◌, ℕ, ℤ, ◌+◌, ◌≤◌, Bool, true, false, ◌||◌, not, List, [], ◌∷◌, codes, Option, Some, None}
use Rattle.es_text.specs.declared.Span.{Span}
use Rattle.es6_lexer.specs.declared.token.TokenKind.{TokenKind}
use Rattle.es6_lexer.specs.declared.token.TokenKind.TheVariants.{Word, Punctuator, Number, Text, Template}
use Rattle.es6_lexer.specs.declared.token.NumberToken.TheVariants.{Whole}
use Rattle.es6_lexer.specs.declared.token.Punctuator.TheVariants as mark
use Rattle.es6_ast.specs.declared.operators.UnaryOperator.{UnaryOperator}
use Rattle.es6_ast.specs.declared.operators.UnaryOperator.TheVariants as unaries
use Rattle.es6_ast.specs.declared.operators.UpdateOperator.{UpdateOperator}
use Rattle.es6_ast.specs.declared.operators.UpdateOperator.TheVariants as update
use Rattle.es6_ast.specs.declared.operators.BinaryOperator.{BinaryOperator}
use Rattle.es6_ast.specs.declared.operators.BinaryOperator.TheVariants as binary
use Rattle.es6_ast.specs.declared.operators.AssignOperator.{AssignOperator}
use Rattle.es6_ast.specs.declared.operators.AssignOperator.TheVariants as assign
use Rattle.es6_ast.specs.declared.operators.Literal.{Literal}
use Rattle.es6_ast.specs.declared.operators.Literal.TheVariants as literals
use Rattle.es6_ast.specs.declared.operators.VariableKind.{VariableKind}
use Rattle.es6_ast.specs.declared.operators.VariableKind.TheVariants.{Var, Let, Const}
use Rattle.es6_ast.specs.declared.operators.MethodKind.{MethodKind}
use Rattle.es6_ast.specs.declared.operators.MethodKind.TheVariants.{PlainMethod, GetterMethod, SetterMethod, GeneratorMethod}
use Rattle.es6_ast.specs.declared.tree.Identifier.{Identifier}
use Rattle.es6_ast.specs.declared.tree.Expression.{Expression}
use Rattle.es6_ast.specs.declared.tree.Expression.TheVariants as expr
use Rattle.es6_ast.specs.declared.tree.Statement.{Statement}
use Rattle.es6_ast.specs.declared.tree.Statement.TheVariants as stat
use Rattle.es6_ast.specs.declared.tree.Pattern.{Pattern}
use Rattle.es6_ast.specs.declared.tree.Pattern.TheVariants as pattern
use Rattle.es6_ast.specs.declared.tree.ArrayPart.{ArrayPart}
use Rattle.es6_ast.specs.declared.tree.ArrayPart.TheVariants.{SkippedPart, SinglePart, RestPart}
use Rattle.es6_ast.specs.declared.tree.ObjectPart.{ObjectPart}
use Rattle.es6_ast.specs.declared.tree.ObjectPart.TheVariants.{NamedPart, KeyedPart}
use Rattle.es6_ast.specs.declared.tree.Parameter.{Parameter}
use Rattle.es6_ast.specs.declared.tree.Parameter.TheVariants.{SingleParameter, RestParameter}
use Rattle.es6_ast.specs.declared.tree.Element.{Element}
use Rattle.es6_ast.specs.declared.tree.Element.TheVariants.{Hole, Present}
use Rattle.es6_ast.specs.declared.tree.Argument.{Argument}
use Rattle.es6_ast.specs.declared.tree.Argument.TheVariants.{Single, Spread}
use Rattle.es6_ast.specs.declared.tree.Property.{Property}
use Rattle.es6_ast.specs.declared.tree.Property.TheVariants as property
use Rattle.es6_ast.specs.declared.tree.Key.{Key}
use Rattle.es6_ast.specs.declared.tree.Key.TheVariants.{WordKey, TextKey, IntegerKey, ComputedKey}
use Rattle.es6_ast.specs.declared.tree.Link.{Link}
use Rattle.es6_ast.specs.declared.tree.Link.TheVariants as link
use Rattle.es6_ast.specs.declared.tree.ArrowBody.{ArrowBody}
use Rattle.es6_ast.specs.declared.tree.ArrowBody.TheVariants.{ValueBody, BlockBody}
use Rattle.es6_ast.specs.declared.tree.ForFirst.{ForFirst}
use Rattle.es6_ast.specs.declared.tree.ForFirst.TheVariants.{NoFirst, FirstVariables, FirstExpression}
use Rattle.es6_ast.specs.declared.tree.ForTarget.{ForTarget}
use Rattle.es6_ast.specs.declared.tree.ForTarget.TheVariants.{Declared, Assigned}
use Rattle.es6_ast.specs.declared.tree.Arrow.{roll-Arrow}
use Rattle.es6_ast.specs.declared.tree.Block.{Block, roll-Block}
use Rattle.es6_ast.specs.declared.tree.Case.{Case, roll-Case}
use Rattle.es6_ast.specs.declared.tree.Catch.{Catch, roll-Catch}
use Rattle.es6_ast.specs.declared.tree.Class.{Class, roll-Class}
use Rattle.es6_ast.specs.declared.tree.ClassMember.{ClassMember, roll-ClassMember}
use Rattle.es6_ast.specs.declared.tree.Condition.{Condition, roll-Condition}
use Rattle.es6_ast.specs.declared.tree.Function.{Function, roll-Function}
use Rattle.es6_ast.specs.declared.tree.Method.{Method, roll-Method}
use Rattle.es6_ast.specs.declared.tree.Operand.{Operand, roll-Operand}
use Rattle.es6_ast.specs.declared.tree.Part.{Part, roll-Part}
use Rattle.es6_ast.specs.declared.tree.Template.{Template as Template', roll-Template}
use Rattle.es6_ast.specs.declared.tree.TemplatePart.{TemplatePart, roll-TemplatePart}
use Rattle.es6_ast.specs.declared.settings.Flags.{Flags}
use Rattle.es6_ast.specs.Tokens.{Filling, Read, Inserted, Filled, IsWord, IsMark, IsOnLine, is_word, is_left_brace, is_star, begins, across, is_identifier}
use Rattle.es6_ast.specs.Targets.{is_simple, is_pattern}

-- The parameters of productions (5.1.5)
abbrev pub of_module : Flags
of_module = record { has_in = true; has_yield = false; has_return = false }

-- in a function, and in a generator function
abbrev pub of_function : Bool → Flags
of_function generator = record { has_in = true; has_yield = generator; has_return = true }

abbrev pub with_in : Flags → Flags
with_in f = record f { has_in = true }

abbrev pub without_in : Flags → Flags
without_in f = record f { has_in = false }

-- an arrow's body that is an expression has the `in` of the arrow, and no `yield` (14.2)
abbrev pub of_arrow : Flags → Flags
of_arrow f = record f { has_yield = false }

-- The levels of expressions, each of which includes the next: Expression (12.15), AssignmentExpression (12.14),
-- ConditionalExpression (12.13), those with binary operators (12.12 to 12.6), the 7th edition's ExponentiationExpression
-- (12.6), UnaryExpression (12.5) and UpdateExpression (12.4), LeftHandSideExpression, CallExpression and MemberExpression
-- (12.3), and what accesses begin with.
abbrev pub level_sequence : ℕ
level_sequence = 0

abbrev pub level_assignment : ℕ
level_assignment = 1

abbrev pub level_conditional : ℕ
level_conditional = 2

abbrev pub level_power : ℕ
level_power = 13

abbrev pub level_unary : ℕ
level_unary = 14

abbrev pub level_update : ℕ
level_update = 15

abbrev pub level_left_hand_side : ℕ
level_left_hand_side = 16

abbrev pub level_call : ℕ
level_call = 17

abbrev pub level_member : ℕ
level_member = 18

abbrev pub level_primary : ℕ
level_primary = 19

abbrev pub binary_level : BinaryOperator → ℕ
binary_level binary.Or = 3
binary_level binary.And = 4
binary_level binary.BitOr = 5
binary_level binary.BitXor = 6
binary_level binary.BitAnd = 7
binary_level binary.Equal = 8
binary_level binary.NotEqual = 8
binary_level binary.Same = 8
binary_level binary.NotSame = 8
binary_level binary.Less = 9
binary_level binary.Greater = 9
binary_level binary.AtMost = 9
binary_level binary.AtLeast = 9
binary_level binary.InstanceOf = 9
binary_level binary.In = 9
binary_level binary.ShiftLeft = 10
binary_level binary.ShiftRight = 10
binary_level binary.ShiftRightUnsigned = 10
binary_level binary.Add = 11
binary_level binary.Subtract = 11
binary_level binary.Multiply = 12
binary_level binary.Divide = 12
binary_level binary.Remainder = 12

abbrev pub binary_kind : BinaryOperator → TokenKind
binary_kind binary.Or = Punctuator mark.BarBar
binary_kind binary.And = Punctuator mark.AmpersandAmpersand
binary_kind binary.BitOr = Punctuator mark.Bar
binary_kind binary.BitXor = Punctuator mark.Caret
binary_kind binary.BitAnd = Punctuator mark.Ampersand
binary_kind binary.Equal = Punctuator mark.Equals
binary_kind binary.NotEqual = Punctuator mark.NotEquals
binary_kind binary.Same = Punctuator mark.StrictEquals
binary_kind binary.NotSame = Punctuator mark.StrictNotEquals
binary_kind binary.Less = Punctuator mark.LessThan
binary_kind binary.Greater = Punctuator mark.GreaterThan
binary_kind binary.AtMost = Punctuator mark.LessOrEqual
binary_kind binary.AtLeast = Punctuator mark.GreaterOrEqual
binary_kind binary.InstanceOf = Word (codes "instanceof")
binary_kind binary.In = Word (codes "in")
binary_kind binary.ShiftLeft = Punctuator mark.ShiftLeft
binary_kind binary.ShiftRight = Punctuator mark.ShiftRight
binary_kind binary.ShiftRightUnsigned = Punctuator mark.ShiftRightUnsigned
binary_kind binary.Add = Punctuator mark.Plus
binary_kind binary.Subtract = Punctuator mark.Minus
binary_kind binary.Multiply = Punctuator mark.Star
binary_kind binary.Divide = Punctuator mark.Slash
binary_kind binary.Remainder = Punctuator mark.Percent

-- the operator that the forms without [In] leave out
abbrev pub is_in : BinaryOperator → Bool
is_in operator = is_word (codes "in") (Read (binary_kind operator))

abbrev pub unary_kind : UnaryOperator → TokenKind
unary_kind unaries.Delete = Word (codes "delete")
unary_kind unaries.Void = Word (codes "void")
unary_kind unaries.Typeof = Word (codes "typeof")
unary_kind unaries.Plus = Punctuator mark.Plus
unary_kind unaries.Minus = Punctuator mark.Minus
unary_kind unaries.BitNot = Punctuator mark.Tilde
unary_kind unaries.Not = Punctuator mark.Exclamation

abbrev pub update_kind : UpdateOperator → TokenKind
update_kind update.IncrementBefore = Punctuator mark.PlusPlus
update_kind update.DecrementBefore = Punctuator mark.MinusMinus
update_kind update.IncrementAfter = Punctuator mark.PlusPlus
update_kind update.DecrementAfter = Punctuator mark.MinusMinus

abbrev pub is_before : UpdateOperator → Bool
is_before update.IncrementBefore = true
is_before update.DecrementBefore = true
is_before update.IncrementAfter = false
is_before update.DecrementAfter = false

abbrev pub assign_kind : AssignOperator → TokenKind
assign_kind assign.Assign = Punctuator mark.Assign
assign_kind assign.MultiplyAssign = Punctuator mark.StarAssign
assign_kind assign.DivideAssign = Punctuator mark.SlashAssign
assign_kind assign.RemainderAssign = Punctuator mark.PercentAssign
assign_kind assign.AddAssign = Punctuator mark.PlusAssign
assign_kind assign.SubtractAssign = Punctuator mark.MinusAssign
assign_kind assign.ShiftLeftAssign = Punctuator mark.ShiftLeftAssign
assign_kind assign.ShiftRightAssign = Punctuator mark.ShiftRightAssign
assign_kind assign.ShiftRightUnsignedAssign = Punctuator mark.ShiftRightUnsignedAssign
assign_kind assign.BitAndAssign = Punctuator mark.AmpersandAssign
assign_kind assign.BitXorAssign = Punctuator mark.CaretAssign
assign_kind assign.BitOrAssign = Punctuator mark.BarAssign
assign_kind assign.PowerAssign = Punctuator mark.StarStarAssign

-- Literal (12.2.4)
abbrev pub literal_kind : Literal → TokenKind
literal_kind literals.Null = Word (codes "null")
literal_kind (literals.Truth true) = Word (codes "true")
literal_kind (literals.Truth false) = Word (codes "false")
literal_kind (literals.Integer value) = Number (Whole value)
literal_kind (literals.Text units) = Text units

abbrev pub kind_word : VariableKind → List ℕ
kind_word Var = codes "var"
kind_word Let = codes "let"
kind_word Const = codes "const"

-- `let` and `const` (13.3.1)
abbrev pub is_lexical : VariableKind → Bool
is_lexical Var = false
is_lexical Let = true
is_lexical Const = true

-- `=` alone
abbrev pub is_plain : AssignOperator → Bool
is_plain assign.Assign = true
is_plain _ = false

abbrev pub is_generator_method : MethodKind → Bool
is_generator_method PlainMethod = false
is_generator_method GetterMethod = false
is_generator_method SetterMethod = false
is_generator_method GeneratorMethod = true

-- a chain with a call is a CallExpression, and one without a MemberExpression (12.3)
abbrev pub chain_level : Bool → ℕ
chain_level true = level_call
chain_level false = level_member

-- What ends a statement: a semicolon, or one that is inserted. One that ends a do-while has a mark of its own.
abbrev pub ends : Bool → Filling → Bool
ends do_while (Read (Punctuator mark.Semicolon)) = true
ends do_while (Read _) = false
ends false (Inserted other) = not other
ends true (Inserted other) = other

abbrev pub IsEnd : Filled → Type 0
IsEnd t = ends false t.kind ≡ true

abbrev pub IsDoWhileEnd : Filled → Type 0
IsDoWhileEnd t = ends true t.kind ≡ true

-- the row goes on with no `{`, no `*` and no such word
abbrev pub NotBrace : List Filled → Type 0
NotBrace ts = begins is_left_brace ts ≡ false

abbrev pub NotStar : List Filled → Type 0
NotStar ts = begins is_star ts ≡ false

abbrev pub NotWord : List ℕ → List Filled → Type 0
NotWord name ts = begins (is_word name) ts ≡ false

-- BindingIdentifier, IdentifierReference and LabelIdentifier (12.1)
pub data IsName : List Filled → Identifier → List Filled → Type 0 where
  name : {t : Filled} {ts : List Filled} {x : Identifier} (word : List ℕ) → IsWord word t → is_identifier word ≡ true → x ≡ record { span = t.span; name = word } → IsName (t ∷ ts) x ts

-- IdentifierName (11.6), reserved words too
pub data IsAnyName : List Filled → Identifier → List Filled → Type 0 where
  any_name : {t : Filled} {ts : List Filled} {x : Identifier} (word : List ℕ) → IsWord word t → x ≡ record { span = t.span; name = word } → IsAnyName (t ∷ ts) x ts

-- the `*` of a generator, or none (14.4)
pub data IsStar : Bool → List Filled → List Filled → Type 0 where
  no_star : {ts : List Filled} → IsStar false ts ts
  star : {t : Filled} {ts : List Filled} → IsMark mark.Star t → IsStar true (t ∷ ts) ts

-- a name as what is bound, and as a whole part
abbrev pub name_target : Identifier → Pattern
name_target n = pattern.Target (expr.Name n.span n.name)

abbrev pub name_alone : Identifier → Part
name_alone n = roll-Part (record { span = n.span; pattern = name_target n; default = None })

-- a method's function begins at its `(`
abbrev pub method_of : Span → MethodKind → Key → Span → List Parameter → List Statement → Method
method_of span kind key from_parameters parameters body =
    roll-Method (record { span = span; kind = kind; key = key; function = roll-Function (record { span = from_parameters; is_generator = is_generator_method kind; name = None; parameters = parameters; body = body }) })

mutual
  -- Expressions (12). In `IsExpression` the number is the least level that the place takes, in `IsNode` the level of the
  -- node itself.
  pub data IsExpression : Flags → ℕ → List Filled → Expression → List Filled → Type 0 where
    at_level : {f : Flags} {least : ℕ} {ts us : List Filled} (level : ℕ) (x : Expression) → least ≤ level → IsNode f level ts x us → IsExpression f least ts x us

  pub data IsNode : Flags → ℕ → List Filled → Expression → List Filled → Type 0 where
    -- 12.2.2
    this : {f : Flags} {t : Filled} {ts : List Filled} (x : Expression) → IsWord (codes "this") t → x ≡ expr.This t.span → IsNode f level_primary (t ∷ ts) x ts
    -- 12.2.3
    reference : {f : Flags} {ts us : List Filled} (n : Identifier) (x : Expression) → IsName ts n us → x ≡ expr.Name n.span n.name → IsNode f level_primary ts x us
    -- 12.2.4
    literal : {f : Flags} {t : Filled} {ts : List Filled} (value : Literal) (x : Expression) → t.kind ≡ Read (literal_kind value) → x ≡ expr.Literal t.span value → IsNode f level_primary (t ∷ ts) x ts
    -- 12.2.5
    array : {f : Flags} {comma_after : Bool} {t : Filled} {ts us : List Filled} (elements : List Element) (x : Expression) → IsMark mark.LeftBracket t → AreElements f comma_after ts elements us → x ≡ expr.ArrayList (across (t ∷ ts) us) elements comma_after → IsNode f level_primary (t ∷ ts) x us
    -- 12.2.6
    object : {f : Flags} {t : Filled} {ts us : List Filled} (properties : List Property) (x : Expression) → IsMark mark.LeftBrace t → AreProperties f ts properties us → x ≡ expr.ObjectList (across (t ∷ ts) us) properties → IsNode f level_primary (t ∷ ts) x us
    -- 12.2.9
    template : {f : Flags} {ts us : List Filled} (m : Template') (x : Expression) → IsTemplate f ts m us → x ≡ expr.Template m → IsNode f level_primary ts x us
    -- 12.2.10
    group : {f : Flags} {open_ close : Filled} {ts us : List Filled} (held : Expression) (x : Expression) → IsMark mark.LeftParenthesis open_ → IsExpression (with_in f) level_sequence ts held (close ∷ us) → IsMark mark.RightParenthesis close → x ≡ expr.Group (across (open_ ∷ ts) us) held → IsNode f level_primary (open_ ∷ ts) x us
    -- FunctionExpression and GeneratorExpression (14.1, 14.4), ClassExpression (14.5)
    function : {f : Flags} {ts us : List Filled} (g : Function) (x : Expression) → IsFunction true ts g us → x ≡ expr.Function g → IsNode f level_primary ts x us
    class : {f : Flags} {ts us : List Filled} (c : Class) (x : Expression) → IsClass f true ts c us → x ≡ expr.Class c → IsNode f level_primary ts x us
    -- SuperProperty and NewTarget (12.3)
    super_member : {f : Flags} {t dot : Filled} {ts us : List Filled} (n : Identifier) (x : Expression) → IsWord (codes "super") t → IsMark mark.Dot dot → IsAnyName ts n us → x ≡ expr.SuperMember (across (t ∷ dot ∷ ts) us) n → IsNode f level_primary (t ∷ dot ∷ ts) x us
    super_index : {f : Flags} {t open_ close : Filled} {ts us : List Filled} (index : Expression) (x : Expression) → IsWord (codes "super") t → IsMark mark.LeftBracket open_ → IsExpression (with_in f) level_sequence ts index (close ∷ us) → IsMark mark.RightBracket close → x ≡ expr.SuperIndex (across (t ∷ open_ ∷ ts) us) index → IsNode f level_primary (t ∷ open_ ∷ ts) x us
    new_target : {f : Flags} {t u dot : Filled} {ts : List Filled} (x : Expression) → IsWord (codes "new") t → IsMark mark.Dot dot → IsWord (codes "target") u → x ≡ expr.NewTarget (across (t ∷ dot ∷ u ∷ ts) ts) → IsNode f level_primary (t ∷ dot ∷ u ∷ ts) x ts
    -- `new` with arguments, which accesses may follow, and without (12.3)
    new_call : {f : Flags} {t open_ : Filled} {ts us vs : List Filled} (callee : Expression) (arguments : List Argument) (x : Expression) → IsWord (codes "new") t → IsExpression f level_member ts callee (open_ ∷ us) → IsMark mark.LeftParenthesis open_ → AreArguments f us arguments vs → x ≡ expr.New (across (t ∷ ts) vs) callee arguments → IsNode f level_primary (t ∷ ts) x vs
    new_bare : {f : Flags} {t : Filled} {ts us : List Filled} (callee : Expression) (x : Expression) → IsWord (codes "new") t → IsNewCallee f ts callee us → x ≡ expr.New (across (t ∷ ts) us) callee [] → IsNode f level_left_hand_side (t ∷ ts) x us
    -- SuperCall, and the accesses and calls of a MemberExpression or a CallExpression (12.3)
    super_call_alone : {f : Flags} {ts us : List Filled} (x : Expression) → IsSuperCall f ts x us → IsNode f level_call ts x us
    chain : {f : Flags} {calls : Bool} {ts us vs : List Filled} (head : Expression) (l : Link) (links : List Link) (x : Expression) → IsExpression f level_primary ts head us → AreLinks f calls us (l ∷ links) vs → x ≡ expr.Chain (across ts vs) head (l ∷ links) → IsNode f (chain_level calls) ts x vs
    super_chain : {f : Flags} {calls : Bool} {ts us vs : List Filled} (head : Expression) (l : Link) (links : List Link) (x : Expression) → IsSuperCall f ts head us → AreLinks f calls us (l ∷ links) vs → x ≡ expr.Chain (across ts vs) head (l ∷ links) → IsNode f level_call ts x vs
    -- 12.4, 12.5.7, 12.5.8
    update_after : {f : Flags} {t : Filled} {ts us : List Filled} (operator : UpdateOperator) (target : Expression) (x : Expression) → is_before operator ≡ false → IsExpression f level_left_hand_side ts target (t ∷ us) → t.kind ≡ Read (update_kind operator) → IsOnLine t → x ≡ expr.Update (across ts us) operator target → IsNode f level_update ts x us
    update_before : {f : Flags} {t : Filled} {ts us : List Filled} (operator : UpdateOperator) (target : Expression) (x : Expression) → is_before operator ≡ true → t.kind ≡ Read (update_kind operator) → IsExpression f level_unary ts target us → x ≡ expr.Update (across (t ∷ ts) us) operator target → IsNode f level_update (t ∷ ts) x us
    -- 12.5
    unary : {f : Flags} {t : Filled} {ts us : List Filled} (operator : UnaryOperator) (operand : Expression) (x : Expression) → t.kind ≡ Read (unary_kind operator) → IsExpression f level_unary ts operand us → x ≡ expr.Unary (across (t ∷ ts) us) operator operand → IsNode f level_unary (t ∷ ts) x us
    -- the 7th edition, 12.6: the operator groups to the right
    power : {f : Flags} {t : Filled} {ts us vs : List Filled} (base exponent : Expression) (x : Expression) → IsExpression f level_update ts base (t ∷ us) → IsMark mark.StarStar t → IsExpression f level_power us exponent vs → x ≡ expr.Power (across ts vs) base exponent → IsNode f level_power ts x vs
    -- 12.6 to 12.12: operators of one level, from left to right
    binary_chain : {f : Flags} {level : ℕ} {ts us vs : List Filled} (first : Expression) (o : Operand) (rest : List Operand) (x : Expression) → IsExpression f (level + 1) ts first us → AreOperands f level us (o ∷ rest) vs → x ≡ expr.Binary (across ts vs) first (o ∷ rest) → IsNode f level ts x vs
    -- 12.13
    conditional : {f : Flags} {colon question : Filled} {ts us vs ws : List Filled} (test yes_ no_ : Expression) (x : Expression) → IsExpression f (level_conditional + 1) ts test (question ∷ us) → IsMark mark.Question question → IsExpression (with_in f) level_assignment us yes_ (colon ∷ vs) → IsMark mark.Colon colon → IsExpression f level_assignment vs no_ ws → x ≡ expr.Conditional (across ts ws) test yes_ no_ → IsNode f level_conditional ts x ws
    -- 12.14
    assignment : {f : Flags} {t : Filled} {ts us vs : List Filled} (operator : AssignOperator) (target : Pattern) (value : Expression) (x : Expression) → IsAssigned f operator ts target (t ∷ us) → t.kind ≡ Read (assign_kind operator) → IsExpression f level_assignment us value vs → x ≡ expr.Assign (across ts vs) operator target value → IsNode f level_assignment ts x vs
    -- 14.2
    arrow : {f : Flags} {arrow : Filled} {ts us vs : List Filled} (parameters : List Parameter) (body : ArrowBody) (x : Expression) → AreArrowParameters f ts parameters (arrow ∷ us) → IsMark mark.Arrow arrow → IsOnLine arrow → IsArrowBody f us body vs → x ≡ expr.Arrow (roll-Arrow (record { span = across ts vs; parameters = parameters; body = body })) → IsNode f level_assignment ts x vs
    -- YieldExpression (14.4), only in a generator
    yield : {f : Flags} {t : Filled} {ts : List Filled} (x : Expression) → f.has_yield ≡ true → IsWord (codes "yield") t → x ≡ expr.Yield t.span None → IsNode f level_assignment (t ∷ ts) x ts
    yield_value : {f : Flags} {t u : Filled} {ts us : List Filled} (value : Expression) (x : Expression) → f.has_yield ≡ true → IsWord (codes "yield") t → IsOnLine u → IsExpression f level_assignment (u ∷ ts) value us → x ≡ expr.Yield (across (t ∷ u ∷ ts) us) (Some value) → IsNode f level_assignment (t ∷ u ∷ ts) x us
    delegate : {f : Flags} {t star : Filled} {ts us : List Filled} (value : Expression) (x : Expression) → f.has_yield ≡ true → IsWord (codes "yield") t → IsMark mark.Star star → IsOnLine star → IsExpression f level_assignment ts value us → x ≡ expr.Delegate (across (t ∷ star ∷ ts) us) value → IsNode f level_assignment (t ∷ star ∷ ts) x us
    -- 12.15
    sequence : {f : Flags} {ts us vs : List Filled} (first y : Expression) (rest : List Expression) (x : Expression) → IsExpression f level_assignment ts first us → AreMore f us (y ∷ rest) vs → x ≡ expr.Sequence (across ts vs) first (y ∷ rest) → IsNode f level_sequence ts x vs

  pub data IsSuperCall : Flags → List Filled → Expression → List Filled → Type 0 where
    super_call : {f : Flags} {t open_ : Filled} {ts us : List Filled} (arguments : List Argument) (x : Expression) → IsWord (codes "super") t → IsMark mark.LeftParenthesis open_ → AreArguments f ts arguments us → x ≡ expr.SuperCall (across (t ∷ open_ ∷ ts) us) arguments → IsSuperCall f (t ∷ open_ ∷ ts) x us

  -- NewExpression after `new` (12.3): another one, or a MemberExpression
  pub data IsNewCallee : Flags → List Filled → Expression → List Filled → Type 0 where
    another_new : {f : Flags} {ts us : List Filled} (x : Expression) → IsNode f level_left_hand_side ts x us → IsNewCallee f ts x us
    member_callee : {f : Flags} {ts us : List Filled} (x : Expression) → IsExpression f level_member ts x us → IsNewCallee f ts x us

  -- ElementList with Elision (12.2.5), and the closing bracket: a comma after the last element adds no hole
  pub data AreElements : Flags → Bool → List Filled → List Element → List Filled → Type 0 where
    no_element : {f : Flags} {close : Filled} {ts : List Filled} → IsMark mark.RightBracket close → AreElements f false (close ∷ ts) [] ts
    hole : {f : Flags} {comma_after : Bool} {comma : Filled} {ts us : List Filled} (e : Element) (es : List Element) → IsMark mark.Comma comma → e ≡ Hole → AreElements f comma_after ts es us → AreElements f comma_after (comma ∷ ts) (e ∷ es) us
    last_element : {f : Flags} {close : Filled} {ts us : List Filled} (e : Element) (a : Argument) → IsArgument f ts a (close ∷ us) → IsMark mark.RightBracket close → e ≡ Present a → AreElements f false ts (e ∷ []) us
    comma_element : {f : Flags} {close comma : Filled} {ts us : List Filled} (e : Element) (a : Argument) → IsArgument f ts a (comma ∷ close ∷ us) → IsMark mark.Comma comma → IsMark mark.RightBracket close → e ≡ Present a → AreElements f true ts (e ∷ []) us
    next_element : {f : Flags} {comma_after : Bool} {comma : Filled} {ts us vs : List Filled} (e d : Element) (es : List Element) (a : Argument) → IsArgument f ts a (comma ∷ us) → IsMark mark.Comma comma → e ≡ Present a → AreElements f comma_after us (d ∷ es) vs → AreElements f comma_after ts (e ∷ d ∷ es) vs

  -- an argument, or SpreadElement (12.2.5, 12.3)
  pub data IsArgument : Flags → List Filled → Argument → List Filled → Type 0 where
    single_argument : {f : Flags} {ts us : List Filled} (value : Expression) (x : Argument) → IsExpression (with_in f) level_assignment ts value us → x ≡ Single value → IsArgument f ts x us
    spread_argument : {f : Flags} {t : Filled} {ts us : List Filled} (value : Expression) (x : Argument) → IsMark mark.Ellipsis t → IsExpression (with_in f) level_assignment ts value us → x ≡ Spread (across (t ∷ ts) us) value → IsArgument f (t ∷ ts) x us

  -- Arguments (12.3) after the opening parenthesis
  pub data AreArguments : Flags → List Filled → List Argument → List Filled → Type 0 where
    no_argument : {f : Flags} {close : Filled} {ts : List Filled} → IsMark mark.RightParenthesis close → AreArguments f (close ∷ ts) [] ts
    last_argument : {f : Flags} {close : Filled} {ts us : List Filled} (a : Argument) → IsArgument f ts a (close ∷ us) → IsMark mark.RightParenthesis close → AreArguments f ts (a ∷ []) us
    next_argument : {f : Flags} {comma : Filled} {ts us vs : List Filled} (a b : Argument) (as_ : List Argument) → IsArgument f ts a (comma ∷ us) → IsMark mark.Comma comma → AreArguments f us (b ∷ as_) vs → AreArguments f ts (a ∷ b ∷ as_) vs

  -- accesses and calls (12.3), and whether one of them is a call
  pub data AreLinks : Flags → Bool → List Filled → List Link → List Filled → Type 0 where
    no_link : {f : Flags} {ts : List Filled} → AreLinks f false ts [] ts
    member_link : {f : Flags} {calls : Bool} {dot : Filled} {ts us vs : List Filled} (n : Identifier) (l : Link) (links : List Link) → IsMark mark.Dot dot → IsAnyName ts n us → l ≡ link.Member (across (dot ∷ ts) us) n → AreLinks f calls us links vs → AreLinks f calls (dot ∷ ts) (l ∷ links) vs
    index_link : {f : Flags} {calls : Bool} {open_ close : Filled} {ts us vs : List Filled} (index : Expression) (l : Link) (links : List Link) → IsMark mark.LeftBracket open_ → IsExpression (with_in f) level_sequence ts index (close ∷ us) → IsMark mark.RightBracket close → l ≡ link.Index (across (open_ ∷ ts) us) index → AreLinks f calls us links vs → AreLinks f calls (open_ ∷ ts) (l ∷ links) vs
    tag_link : {f : Flags} {calls : Bool} {ts us vs : List Filled} (m : Template') (l : Link) (links : List Link) → IsTemplate f ts m us → l ≡ link.Tagged m → AreLinks f calls us links vs → AreLinks f calls ts (l ∷ links) vs
    call_link : {f : Flags} {calls : Bool} {open_ : Filled} {ts us vs : List Filled} (arguments : List Argument) (l : Link) (links : List Link) → IsMark mark.LeftParenthesis open_ → AreArguments f ts arguments us → l ≡ link.Call (across (open_ ∷ ts) us) arguments → AreLinks f calls us links vs → AreLinks f true (open_ ∷ ts) (l ∷ links) vs

  -- operators of a level, each with its operand
  pub data AreOperands : Flags → ℕ → List Filled → List Operand → List Filled → Type 0 where
    no_operand : {f : Flags} {level : ℕ} {ts : List Filled} → AreOperands f level ts [] ts
    next_operand : {f : Flags} {level : ℕ} {t : Filled} {ts us vs : List Filled} (operator : BinaryOperator) (value : Expression) (o : Operand) (rest : List Operand) → binary_level operator ≡ level → f.has_in || not (is_in operator) ≡ true → t.kind ≡ Read (binary_kind operator) → IsExpression f (level + 1) ts value us → o ≡ roll-Operand (record { operator = operator; value = value }) → AreOperands f level us rest vs → AreOperands f level (t ∷ ts) (o ∷ rest) vs

  -- the parts of an Expression after its first (12.15)
  pub data AreMore : Flags → List Filled → List Expression → List Filled → Type 0 where
    no_more_parts : {f : Flags} {ts : List Filled} → AreMore f ts [] ts
    one_more_part : {f : Flags} {comma : Filled} {ts us vs : List Filled} (y : Expression) (rest : List Expression) → IsMark mark.Comma comma → IsExpression f level_assignment ts y us → AreMore f us rest vs → AreMore f (comma ∷ ts) (y ∷ rest) vs

  -- TemplateLiteral (12.2.9)
  pub data IsTemplate : Flags → List Filled → Template' → List Filled → Type 0 where
    whole_template : {f : Flags} {t : Filled} {ts : List Filled} (cooked raw : List ℕ) (x : Template') → t.kind ≡ Read (Template cooked raw true true) → x ≡ roll-Template (record { span = t.span; first = record { span = t.span; cooked = cooked; raw = raw }; rest = [] }) → IsTemplate f (t ∷ ts) x ts
    parted_template : {f : Flags} {t : Filled} {ts us : List Filled} (cooked raw : List ℕ) (rest : List TemplatePart) (x : Template') → t.kind ≡ Read (Template cooked raw true false) → AreTemplateParts f ts rest us → x ≡ roll-Template (record { span = across (t ∷ ts) us; first = record { span = t.span; cooked = cooked; raw = raw }; rest = rest }) → IsTemplate f (t ∷ ts) x us

  pub data AreTemplateParts : Flags → List Filled → List TemplatePart → List Filled → Type 0 where
    last_template_part : {f : Flags} {t : Filled} {ts us : List Filled} (value : Expression) (cooked raw : List ℕ) (m : TemplatePart) → IsExpression (with_in f) level_sequence ts value (t ∷ us) → t.kind ≡ Read (Template cooked raw false true) → m ≡ roll-TemplatePart (record { value = value; after = record { span = t.span; cooked = cooked; raw = raw } }) → AreTemplateParts f ts (m ∷ []) us
    next_template_part : {f : Flags} {t : Filled} {ts us vs : List Filled} (value : Expression) (cooked raw : List ℕ) (m : TemplatePart) (rest : List TemplatePart) → IsExpression (with_in f) level_sequence ts value (t ∷ us) → t.kind ≡ Read (Template cooked raw false false) → m ≡ roll-TemplatePart (record { value = value; after = record { span = t.span; cooked = cooked; raw = raw } }) → AreTemplateParts f us rest vs → AreTemplateParts f ts (m ∷ rest) vs

  -- PropertyDefinitionList (12.2.6), and the closing brace
  pub data AreProperties : Flags → List Filled → List Property → List Filled → Type 0 where
    no_property : {f : Flags} {close : Filled} {ts : List Filled} → IsMark mark.RightBrace close → AreProperties f (close ∷ ts) [] ts
    last_property : {f : Flags} {close : Filled} {ts us : List Filled} (q : Property) → IsProperty f ts q (close ∷ us) → IsMark mark.RightBrace close → AreProperties f ts (q ∷ []) us
    next_property : {f : Flags} {comma : Filled} {ts us vs : List Filled} (q : Property) (qs : List Property) → IsProperty f ts q (comma ∷ us) → IsMark mark.Comma comma → AreProperties f us qs vs → AreProperties f ts (q ∷ qs) vs

  -- PropertyDefinition (12.2.6), CoverInitializedName included
  pub data IsProperty : Flags → List Filled → Property → List Filled → Type 0 where
    plain_property : {f : Flags} {colon : Filled} {ts us vs : List Filled} (k : Key) (value : Expression) (x : Property) → IsKey f ts k (colon ∷ us) → IsMark mark.Colon colon → IsExpression (with_in f) level_assignment us value vs → x ≡ property.Plain (across ts vs) k value → IsProperty f ts x vs
    shorthand_property : {f : Flags} {ts us : List Filled} (n : Identifier) (x : Property) → IsName ts n us → x ≡ property.Shorthand n.span n.name → IsProperty f ts x us
    initialized_property : {f : Flags} {equals : Filled} {ts us vs : List Filled} (n : Identifier) (value : Expression) (x : Property) → IsName ts n (equals ∷ us) → IsMark mark.Assign equals → IsExpression (with_in f) level_assignment us value vs → x ≡ property.Initialized (across ts vs) n equals.span value → IsProperty f ts x vs
    method_property : {f : Flags} {ts us : List Filled} (m : Method) (x : Property) → IsMethod f ts m us → x ≡ property.Defined m → IsProperty f ts x us

  -- PropertyName (12.2.6)
  pub data IsKey : Flags → List Filled → Key → List Filled → Type 0 where
    word_key : {f : Flags} {t : Filled} {ts : List Filled} (word : List ℕ) (x : Key) → IsWord word t → x ≡ WordKey t.span word → IsKey f (t ∷ ts) x ts
    text_key : {f : Flags} {t : Filled} {ts : List Filled} (units : List ℕ) (x : Key) → t.kind ≡ Read (Text units) → x ≡ TextKey t.span units → IsKey f (t ∷ ts) x ts
    integer_key : {f : Flags} {t : Filled} {ts : List Filled} (value : ℤ) (x : Key) → t.kind ≡ Read (Number (Whole value)) → x ≡ IntegerKey t.span value → IsKey f (t ∷ ts) x ts
    computed_key : {f : Flags} {open_ close : Filled} {ts us : List Filled} (value : Expression) (x : Key) → IsMark mark.LeftBracket open_ → IsExpression (with_in f) level_assignment ts value (close ∷ us) → IsMark mark.RightBracket close → x ≡ ComputedKey (across (open_ ∷ ts) us) value → IsKey f (open_ ∷ ts) x us

  -- What is assigned before `=`: a pattern, or by itself a LeftHandSideExpression that no pattern spells. Any other operator has
  -- the latter alone (12.14).
  pub data IsAssigned : Flags → AssignOperator → List Filled → Pattern → List Filled → Type 0 where
    assigned_pattern : {f : Flags} {ts us : List Filled} (x : Pattern) → IsPattern f false ts x us → IsAssigned f assign.Assign ts x us
    assigned_target : {f : Flags} {ts us : List Filled} (y : Expression) (x : Pattern) → IsExpression f level_left_hand_side ts y us → is_pattern y ≡ false → x ≡ pattern.Target y → IsAssigned f assign.Assign ts x us
    updated_target : {f : Flags} {ts us : List Filled} (operator : AssignOperator) (y : Expression) (x : Pattern) → is_plain operator ≡ false → IsExpression f level_left_hand_side ts y us → x ≡ pattern.Target y → IsAssigned f operator ts x us

  -- BindingPattern (13.3.3), where `binds` is true, and AssignmentPattern (12.14.5); in its brackets or braces `in` is an operator
  pub data IsPattern : Flags → Bool → List Filled → Pattern → List Filled → Type 0 where
    array_pattern : {f : Flags} {binds : Bool} {t : Filled} {ts us : List Filled} (parts : List ArrayPart) (x : Pattern) → IsMark mark.LeftBracket t → AreArrayParts (with_in f) binds ts parts us → x ≡ pattern.ArrayPattern (across (t ∷ ts) us) parts → IsPattern f binds (t ∷ ts) x us
    object_pattern : {f : Flags} {binds : Bool} {t : Filled} {ts us : List Filled} (parts : List ObjectPart) (x : Pattern) → IsMark mark.LeftBrace t → AreObjectParts (with_in f) binds ts parts us → x ≡ pattern.ObjectPattern (across (t ∷ ts) us) parts → IsPattern f binds (t ∷ ts) x us

  -- what a part of a pattern binds or assigns: a name, a simple target (12.14.1), or a pattern
  pub data IsTarget : Flags → Bool → List Filled → Pattern → List Filled → Type 0 where
    bound_name : {f : Flags} {ts us : List Filled} (n : Identifier) (x : Pattern) → IsName ts n us → x ≡ name_target n → IsTarget f true ts x us
    simple_target : {f : Flags} {ts us : List Filled} (y : Expression) (x : Pattern) → IsExpression f level_left_hand_side ts y us → is_simple y ≡ true → x ≡ pattern.Target y → IsTarget f false ts x us
    nested_pattern : {f : Flags} {binds : Bool} {ts us : List Filled} (x : Pattern) → IsPattern f binds ts x us → IsTarget f binds ts x us

  -- a part with its Initializer or without one: BindingElement and AssignmentElement
  pub data IsPart : Flags → Bool → List Filled → Part → List Filled → Type 0 where
    part_alone : {f : Flags} {binds : Bool} {ts us : List Filled} (x : Pattern) (q : Part) → IsTarget f binds ts x us → q ≡ roll-Part (record { span = across ts us; pattern = x; default = None }) → IsPart f binds ts q us
    part_with_default : {f : Flags} {binds : Bool} {equals : Filled} {ts us vs : List Filled} (x : Pattern) (value : Expression) (q : Part) → IsTarget f binds ts x (equals ∷ us) → IsMark mark.Assign equals → IsExpression (with_in f) level_assignment us value vs → q ≡ roll-Part (record { span = across ts vs; pattern = x; default = Some value }) → IsPart f binds ts q vs

  -- the parts of an array pattern, and the closing bracket: a comma after the last part adds no hole, and none follows a rest
  pub data AreArrayParts : Flags → Bool → List Filled → List ArrayPart → List Filled → Type 0 where
    no_array_part : {f : Flags} {binds : Bool} {close : Filled} {ts : List Filled} → IsMark mark.RightBracket close → AreArrayParts f binds (close ∷ ts) [] ts
    skipped_part : {f : Flags} {binds : Bool} {comma : Filled} {ts us : List Filled} (e : ArrayPart) (es : List ArrayPart) → IsMark mark.Comma comma → e ≡ SkippedPart → AreArrayParts f binds ts es us → AreArrayParts f binds (comma ∷ ts) (e ∷ es) us
    rest_part : {f : Flags} {binds : Bool} {t close : Filled} {ts us : List Filled} (x : Pattern) (e : ArrayPart) → IsMark mark.Ellipsis t → IsRest f binds ts x (close ∷ us) → IsMark mark.RightBracket close → e ≡ RestPart (across (t ∷ ts) (close ∷ us)) x → AreArrayParts f binds (t ∷ ts) (e ∷ []) us
    last_array_part : {f : Flags} {binds : Bool} {close : Filled} {ts us : List Filled} (q : Part) (e : ArrayPart) → IsPart f binds ts q (close ∷ us) → IsMark mark.RightBracket close → e ≡ SinglePart q → AreArrayParts f binds ts (e ∷ []) us
    next_array_part : {f : Flags} {binds : Bool} {comma : Filled} {ts us vs : List Filled} (q : Part) (e : ArrayPart) (es : List ArrayPart) → IsPart f binds ts q (comma ∷ us) → IsMark mark.Comma comma → e ≡ SinglePart q → AreArrayParts f binds us es vs → AreArrayParts f binds ts (e ∷ es) vs

  -- BindingRestElement, which is a name, and AssignmentRestElement
  pub data IsRest : Flags → Bool → List Filled → Pattern → List Filled → Type 0 where
    bound_rest : {f : Flags} {ts us : List Filled} (n : Identifier) (x : Pattern) → IsName ts n us → x ≡ name_target n → IsRest f true ts x us
    assigned_rest : {f : Flags} {ts us : List Filled} (x : Pattern) → IsTarget f false ts x us → IsRest f false ts x us

  -- the properties of an object pattern, and the closing brace
  pub data AreObjectParts : Flags → Bool → List Filled → List ObjectPart → List Filled → Type 0 where
    no_object_part : {f : Flags} {binds : Bool} {close : Filled} {ts : List Filled} → IsMark mark.RightBrace close → AreObjectParts f binds (close ∷ ts) [] ts
    last_object_part : {f : Flags} {binds : Bool} {close : Filled} {ts us : List Filled} (e : ObjectPart) → IsObjectPart f binds ts e (close ∷ us) → IsMark mark.RightBrace close → AreObjectParts f binds ts (e ∷ []) us
    next_object_part : {f : Flags} {binds : Bool} {comma : Filled} {ts us vs : List Filled} (e : ObjectPart) (es : List ObjectPart) → IsObjectPart f binds ts e (comma ∷ us) → IsMark mark.Comma comma → AreObjectParts f binds us es vs → AreObjectParts f binds ts (e ∷ es) vs

  -- BindingProperty and AssignmentProperty
  pub data IsObjectPart : Flags → Bool → List Filled → ObjectPart → List Filled → Type 0 where
    named_part : {f : Flags} {binds : Bool} {ts us : List Filled} (n : Identifier) (e : ObjectPart) → IsName ts n us → e ≡ NamedPart (name_alone n) → IsObjectPart f binds ts e us
    named_part_with_default : {f : Flags} {binds : Bool} {equals : Filled} {ts us vs : List Filled} (n : Identifier) (value : Expression) (e : ObjectPart) → IsName ts n (equals ∷ us) → IsMark mark.Assign equals → IsExpression (with_in f) level_assignment us value vs → e ≡ NamedPart (roll-Part (record { span = across ts vs; pattern = name_target n; default = Some value })) → IsObjectPart f binds ts e vs
    keyed_part : {f : Flags} {binds : Bool} {colon : Filled} {ts us vs : List Filled} (k : Key) (q : Part) (e : ObjectPart) → IsKey f ts k (colon ∷ us) → IsMark mark.Colon colon → IsPart f binds us q vs → e ≡ KeyedPart (across ts vs) k q → IsObjectPart f binds ts e vs

  -- FormalParameters (14.1) with the closing parenthesis: BindingElements, and as the last a BindingRestElement
  pub data AreParameters : Flags → List Filled → List Parameter → List Filled → Type 0 where
    no_parameter : {f : Flags} {close : Filled} {ts : List Filled} → IsMark mark.RightParenthesis close → AreParameters f (close ∷ ts) [] ts
    rest_parameter : {f : Flags} {t close : Filled} {ts us : List Filled} (n : Identifier) (e : Parameter) → IsMark mark.Ellipsis t → IsName ts n (close ∷ us) → IsMark mark.RightParenthesis close → e ≡ RestParameter (across (t ∷ ts) (close ∷ us)) (name_target n) → AreParameters f (t ∷ ts) (e ∷ []) us
    last_parameter : {f : Flags} {close : Filled} {ts us : List Filled} (q : Part) (e : Parameter) → IsPart f true ts q (close ∷ us) → IsMark mark.RightParenthesis close → e ≡ SingleParameter q → AreParameters f ts (e ∷ []) us
    next_parameter : {f : Flags} {comma : Filled} {ts us vs : List Filled} (q : Part) (e d : Parameter) (es : List Parameter) → IsPart f true ts q (comma ∷ us) → IsMark mark.Comma comma → e ≡ SingleParameter q → AreParameters f us (d ∷ es) vs → AreParameters f ts (e ∷ d ∷ es) vs

  -- ArrowParameters and ConciseBody (14.2)
  pub data AreArrowParameters : Flags → List Filled → List Parameter → List Filled → Type 0 where
    one_name : {f : Flags} {ts us : List Filled} (n : Identifier) (e : Parameter) → IsName ts n us → e ≡ SingleParameter (name_alone n) → AreArrowParameters f ts (e ∷ []) us
    parenthesized : {f : Flags} {open_ : Filled} {ts us : List Filled} (es : List Parameter) → IsMark mark.LeftParenthesis open_ → AreParameters (with_in f) ts es us → AreArrowParameters f (open_ ∷ ts) es us

  pub data IsArrowBody : Flags → List Filled → ArrowBody → List Filled → Type 0 where
    value_body : {f : Flags} {ts us : List Filled} (value : Expression) (x : ArrowBody) → NotBrace ts → IsExpression (of_arrow f) level_assignment ts value us → x ≡ ValueBody value → IsArrowBody f ts x us
    block_body : {f : Flags} {ts us : List Filled} (b : Block) (x : ArrowBody) → IsBlock (of_function false) ts b us → x ≡ BlockBody b → IsArrowBody f ts x us

  -- FunctionDeclaration, FunctionExpression, GeneratorDeclaration and GeneratorExpression (14.1, 14.4). `lacks` says that the
  -- name may be absent.
  pub data IsFunction : Bool → List Filled → Function → List Filled → Type 0 where
    named_function : {lacks generator : Bool} {t : Filled} {ts us vs ws : List Filled} (n : Identifier) (parameters : List Parameter) (body : List Statement) (x : Function) → IsWord (codes "function") t → IsStar generator ts us → IsName us n vs → IsSignature generator vs parameters body ws → x ≡ roll-Function (record { span = across (t ∷ ts) ws; is_generator = generator; name = Some n; parameters = parameters; body = body }) → IsFunction lacks (t ∷ ts) x ws
    unnamed_function : {generator : Bool} {t : Filled} {ts us vs : List Filled} (parameters : List Parameter) (body : List Statement) (x : Function) → IsWord (codes "function") t → IsStar generator ts us → IsSignature generator us parameters body vs → x ≡ roll-Function (record { span = across (t ∷ ts) vs; is_generator = generator; name = None; parameters = parameters; body = body }) → IsFunction true (t ∷ ts) x vs

  -- the parameters in parentheses and the body in braces
  pub data IsSignature : Bool → List Filled → List Parameter → List Statement → List Filled → Type 0 where
    signature : {generator : Bool} {open_ brace : Filled} {ts us vs : List Filled} (parameters : List Parameter) (body : List Statement) → IsMark mark.LeftParenthesis open_ → AreParameters (of_function generator) ts parameters (brace ∷ us) → IsMark mark.LeftBrace brace → AreStatements (of_function generator) us body vs → IsSignature generator (open_ ∷ ts) parameters body vs

  -- MethodDefinition (14.3, 14.4)
  pub data IsMethod : Flags → List Filled → Method → List Filled → Type 0 where
    plain_method : {f : Flags} {ts us vs : List Filled} (k : Key) (parameters : List Parameter) (body : List Statement) (x : Method) → IsKey f ts k us → IsSignature false us parameters body vs → x ≡ method_of (across ts vs) PlainMethod k (across us vs) parameters body → IsMethod f ts x vs
    generator_method : {f : Flags} {star : Filled} {ts us vs : List Filled} (k : Key) (parameters : List Parameter) (body : List Statement) (x : Method) → IsMark mark.Star star → IsKey f ts k us → IsSignature true us parameters body vs → x ≡ method_of (across (star ∷ ts) vs) GeneratorMethod k (across us vs) parameters body → IsMethod f (star ∷ ts) x vs
    getter : {f : Flags} {t : Filled} {ts us vs : List Filled} (k : Key) (body : List Statement) (x : Method) → IsWord (codes "get") t → IsKey f ts k us → IsSignature false us [] body vs → x ≡ method_of (across (t ∷ ts) vs) GetterMethod k (across us vs) [] body → IsMethod f (t ∷ ts) x vs
    setter : {f : Flags} {t : Filled} {ts us vs : List Filled} (k : Key) (q : Part) (e : Parameter) (body : List Statement) (x : Method) → IsWord (codes "set") t → IsKey f ts k us → IsSignature false us (e ∷ []) body vs → e ≡ SingleParameter q → x ≡ method_of (across (t ∷ ts) vs) SetterMethod k (across us vs) (e ∷ []) body → IsMethod f (t ∷ ts) x vs

  -- ClassDeclaration and ClassExpression (14.5). `lacks` says that the name may be absent.
  pub data IsClass : Flags → Bool → List Filled → Class → List Filled → Type 0 where
    named_class : {f : Flags} {lacks : Bool} {t : Filled} {ts us vs : List Filled} (n : Identifier) (heritage : Option Expression) (members : List ClassMember) (x : Class) → IsWord (codes "class") t → IsName ts n us → IsClassTail f us heritage members vs → x ≡ roll-Class (record { span = across (t ∷ ts) vs; name = Some n; heritage = heritage; members = members }) → IsClass f lacks (t ∷ ts) x vs
    unnamed_class : {f : Flags} {t : Filled} {ts us : List Filled} (heritage : Option Expression) (members : List ClassMember) (x : Class) → IsWord (codes "class") t → IsClassTail f ts heritage members us → x ≡ roll-Class (record { span = across (t ∷ ts) us; name = None; heritage = heritage; members = members }) → IsClass f true (t ∷ ts) x us

  pub data IsClassTail : Flags → List Filled → Option Expression → List ClassMember → List Filled → Type 0 where
    base_class : {f : Flags} {open_ : Filled} {ts us : List Filled} (members : List ClassMember) → IsMark mark.LeftBrace open_ → AreMembers f ts members us → IsClassTail f (open_ ∷ ts) None members us
    derived_class : {f : Flags} {t open_ : Filled} {ts us vs : List Filled} (heritage : Expression) (members : List ClassMember) → IsWord (codes "extends") t → IsExpression f level_left_hand_side ts heritage (open_ ∷ us) → IsMark mark.LeftBrace open_ → AreMembers f us members vs → IsClassTail f (t ∷ ts) (Some heritage) members vs

  -- ClassElementList (14.5), and the closing brace; a semicolon between the members is none
  pub data AreMembers : Flags → List Filled → List ClassMember → List Filled → Type 0 where
    no_member : {f : Flags} {close : Filled} {ts : List Filled} → IsMark mark.RightBrace close → AreMembers f (close ∷ ts) [] ts
    semicolon_member : {f : Flags} {end : Filled} {ts us : List Filled} (members : List ClassMember) → IsMark mark.Semicolon end → AreMembers f ts members us → AreMembers f (end ∷ ts) members us
    instance_member : {f : Flags} {ts us vs : List Filled} (m : Method) (c : ClassMember) (members : List ClassMember) → IsMethod f ts m us → c ≡ roll-ClassMember (record { span = across ts us; is_static = false; method = m }) → AreMembers f us members vs → AreMembers f ts (c ∷ members) vs
    static_member : {f : Flags} {t : Filled} {ts us vs : List Filled} (m : Method) (c : ClassMember) (members : List ClassMember) → IsWord (codes "static") t → IsMethod f ts m us → c ≡ roll-ClassMember (record { span = across (t ∷ ts) us; is_static = true; method = m }) → AreMembers f us members vs → AreMembers f (t ∷ ts) (c ∷ members) vs

  -- StatementList (13.2), and the closing brace
  pub data AreStatements : Flags → List Filled → List Statement → List Filled → Type 0 where
    no_statement : {f : Flags} {close : Filled} {ts : List Filled} → IsMark mark.RightBrace close → AreStatements f (close ∷ ts) [] ts
    next_statement : {f : Flags} {ts us vs : List Filled} (s : Statement) (ss : List Statement) → IsListed f ts s us → AreStatements f us ss vs → AreStatements f ts (s ∷ ss) vs

  -- StatementListItem: Statement and Declaration (13, 13.2)
  pub data IsListed : Flags → List Filled → Statement → List Filled → Type 0 where
    listed_statement : {f : Flags} {ts us : List Filled} (x : Statement) → IsStatement f ts x us → IsListed f ts x us
    listed_declaration : {f : Flags} {ts us : List Filled} (x : Statement) → IsDeclaration f ts x us → IsListed f ts x us

  -- HoistableDeclaration, ClassDeclaration and LexicalDeclaration (13.3.1, 14.1, 14.4, 14.5)
  pub data IsDeclaration : Flags → List Filled → Statement → List Filled → Type 0 where
    function_declaration : {f : Flags} {ts us : List Filled} (g : Function) (x : Statement) → IsFunction false ts g us → x ≡ stat.FunctionDeclaration g → IsDeclaration f ts x us
    class_declaration : {f : Flags} {ts us : List Filled} (c : Class) (x : Statement) → IsClass f false ts c us → x ≡ stat.ClassDeclaration c → IsDeclaration f ts x us
    lexical_declaration : {f : Flags} {t end : Filled} {ts us : List Filled} (kind : VariableKind) (parts : List Part) (x : Statement) → is_lexical kind ≡ true → IsWord (kind_word kind) t → AreVariables f ts parts (end ∷ us) → IsEnd end → x ≡ stat.Variables (across (t ∷ ts) us) kind parts → IsDeclaration f (t ∷ ts) x us

  -- VariableDeclarationList and BindingList (13.3): a pattern has an initializer
  pub data AreVariables : Flags → List Filled → List Part → List Filled → Type 0 where
    last_variable : {f : Flags} {ts us : List Filled} (q : Part) → IsVariable f ts q us → AreVariables f ts (q ∷ []) us
    next_variable : {f : Flags} {comma : Filled} {ts us vs : List Filled} (q r : Part) (qs : List Part) → IsVariable f ts q (comma ∷ us) → IsMark mark.Comma comma → AreVariables f us (r ∷ qs) vs → AreVariables f ts (q ∷ r ∷ qs) vs

  pub data IsVariable : Flags → List Filled → Part → List Filled → Type 0 where
    bare_variable : {f : Flags} {ts us : List Filled} (n : Identifier) (q : Part) → IsName ts n us → q ≡ name_alone n → IsVariable f ts q us
    initialized_variable : {f : Flags} {equals : Filled} {ts us vs : List Filled} (y : Pattern) (value : Expression) (q : Part) → IsTarget f true ts y (equals ∷ us) → IsMark mark.Assign equals → IsExpression f level_assignment us value vs → q ≡ roll-Part (record { span = across ts vs; pattern = y; default = Some value }) → IsVariable f ts q vs

  -- Statement (13)
  pub data IsStatement : Flags → List Filled → Statement → List Filled → Type 0 where
    -- 13.2
    block : {f : Flags} {ts us : List Filled} (b : Block) (x : Statement) → IsBlock f ts b us → x ≡ stat.Block b → IsStatement f ts x us
    -- 13.3.2
    var : {f : Flags} {t end : Filled} {ts us : List Filled} (parts : List Part) (x : Statement) → IsWord (codes "var") t → AreVariables f ts parts (end ∷ us) → IsEnd end → x ≡ stat.Variables (across (t ∷ ts) us) Var parts → IsStatement f (t ∷ ts) x us
    -- 13.4: no semicolon is inserted as an empty statement
    empty : {f : Flags} {t : Filled} {ts : List Filled} (x : Statement) → IsMark mark.Semicolon t → x ≡ stat.Empty t.span → IsStatement f (t ∷ ts) x ts
    -- 13.5
    expression : {f : Flags} {end : Filled} {ts us : List Filled} (y : Expression) (x : Statement) → NotBrace ts → NotWord (codes "function") ts → NotWord (codes "class") ts → IsExpression f level_sequence ts y (end ∷ us) → IsEnd end → x ≡ stat.Expression (across ts us) y → IsStatement f ts x us
    -- 13.6
    if : {f : Flags} {ts us : List Filled} (first : Condition) (more : List Condition) (otherwise : Option Statement) (x : Statement) → IsIf f ts first more otherwise us → x ≡ stat.If (across ts us) first more otherwise → IsStatement f ts x us
    -- 13.7.2
    do_while : {f : Flags} {t u open_ close end : Filled} {ts us vs : List Filled} (body : Statement) (test : Expression) (x : Statement) → IsWord (codes "do") t → IsStatement f ts body (u ∷ open_ ∷ us) → IsWord (codes "while") u → IsMark mark.LeftParenthesis open_ → IsExpression (with_in f) level_sequence us test (close ∷ end ∷ vs) → IsMark mark.RightParenthesis close → IsDoWhileEnd end → x ≡ stat.DoWhile (across (t ∷ ts) vs) body test → IsStatement f (t ∷ ts) x vs
    -- 13.7.3
    while : {f : Flags} {t open_ close : Filled} {ts us vs : List Filled} (test : Expression) (body : Statement) (x : Statement) → IsWord (codes "while") t → IsMark mark.LeftParenthesis open_ → IsExpression (with_in f) level_sequence ts test (close ∷ us) → IsMark mark.RightParenthesis close → IsStatement f us body vs → x ≡ stat.While (across (t ∷ open_ ∷ ts) vs) test body → IsStatement f (t ∷ open_ ∷ ts) x vs
    -- 13.7.4: no semicolon is inserted in the header
    for : {f : Flags} {t open_ close end : Filled} {ts us vs ws ys : List Filled} (first : ForFirst) (test update : Option Expression) (body : Statement) (x : Statement) → IsWord (codes "for") t → IsMark mark.LeftParenthesis open_ → IsForFirst f ts first us → IsOptional f us test (end ∷ vs) → IsMark mark.Semicolon end → IsOptional f vs update (close ∷ ws) → IsMark mark.RightParenthesis close → IsStatement f ws body ys → x ≡ stat.For (across (t ∷ open_ ∷ ts) ys) first test update body → IsStatement f (t ∷ open_ ∷ ts) x ys
    -- 13.7.5
    for_of : {f : Flags} {t u open_ close : Filled} {ts us vs ws : List Filled} (target : ForTarget) (subject : Expression) (body : Statement) (x : Statement) → IsWord (codes "for") t → IsMark mark.LeftParenthesis open_ → IsForTarget f ts target (u ∷ us) → IsWord (codes "of") u → IsExpression (with_in f) level_assignment us subject (close ∷ vs) → IsMark mark.RightParenthesis close → IsStatement f vs body ws → x ≡ stat.ForOf (across (t ∷ open_ ∷ ts) ws) target subject body → IsStatement f (t ∷ open_ ∷ ts) x ws
    -- 13.8, 13.9
    continue : {f : Flags} {t end : Filled} {ts us : List Filled} (label : Option Identifier) (x : Statement) → IsWord (codes "continue") t → IsLabel ts label (end ∷ us) → IsEnd end → x ≡ stat.Continue (across (t ∷ ts) us) label → IsStatement f (t ∷ ts) x us
    break : {f : Flags} {t end : Filled} {ts us : List Filled} (label : Option Identifier) (x : Statement) → IsWord (codes "break") t → IsLabel ts label (end ∷ us) → IsEnd end → x ≡ stat.Break (across (t ∷ ts) us) label → IsStatement f (t ∷ ts) x us
    -- 13.10: only in a function
    return_bare : {f : Flags} {t end : Filled} {ts : List Filled} (x : Statement) → f.has_return ≡ true → IsWord (codes "return") t → IsEnd end → x ≡ stat.Return (across (t ∷ end ∷ ts) ts) None → IsStatement f (t ∷ end ∷ ts) x ts
    return_value : {f : Flags} {t u end : Filled} {ts us : List Filled} (value : Expression) (x : Statement) → f.has_return ≡ true → IsWord (codes "return") t → IsOnLine u → IsExpression (with_in f) level_sequence (u ∷ ts) value (end ∷ us) → IsEnd end → x ≡ stat.Return (across (t ∷ u ∷ ts) us) (Some value) → IsStatement f (t ∷ u ∷ ts) x us
    -- 13.12
    switch : {f : Flags} {t open_ close brace : Filled} {ts us vs : List Filled} (subject : Expression) (cases : List Case) (x : Statement) → IsWord (codes "switch") t → IsMark mark.LeftParenthesis open_ → IsExpression (with_in f) level_sequence ts subject (close ∷ brace ∷ us) → IsMark mark.RightParenthesis close → IsMark mark.LeftBrace brace → AreCases f true us cases vs → x ≡ stat.Switch (across (t ∷ open_ ∷ ts) vs) subject cases → IsStatement f (t ∷ open_ ∷ ts) x vs
    -- 13.13, with a function declaration as a LabelledItem
    labelled : {f : Flags} {colon : Filled} {ts us vs : List Filled} (label : Identifier) (body : Statement) (x : Statement) → IsName ts label (colon ∷ us) → IsMark mark.Colon colon → IsStatement f us body vs → x ≡ stat.Labelled (across ts vs) label body → IsStatement f ts x vs
    labelled_function : {f : Flags} {t colon : Filled} {ts us vs : List Filled} (label : Identifier) (g : Function) (x : Statement) → IsName ts label (colon ∷ t ∷ us) → IsMark mark.Colon colon → NotStar us → IsFunction false (t ∷ us) g vs → x ≡ stat.Labelled (across ts vs) label (stat.FunctionDeclaration g) → IsStatement f ts x vs
    -- 13.14
    throw : {f : Flags} {t u end : Filled} {ts us : List Filled} (value : Expression) (x : Statement) → IsWord (codes "throw") t → IsOnLine u → IsExpression (with_in f) level_sequence (u ∷ ts) value (end ∷ us) → IsEnd end → x ≡ stat.Throw (across (t ∷ u ∷ ts) us) value → IsStatement f (t ∷ u ∷ ts) x us
    -- 13.15
    try_catch : {f : Flags} {t : Filled} {ts us vs : List Filled} (b : Block) (handler : Catch) (x : Statement) → IsWord (codes "try") t → IsBlock f ts b us → IsCatch f us handler vs → x ≡ stat.Try (across (t ∷ ts) vs) b (Some handler) None → IsStatement f (t ∷ ts) x vs
    try_finally : {f : Flags} {t u : Filled} {ts us vs : List Filled} (b last : Block) (x : Statement) → IsWord (codes "try") t → IsBlock f ts b (u ∷ us) → IsWord (codes "finally") u → IsBlock f us last vs → x ≡ stat.Try (across (t ∷ ts) vs) b None (Some last) → IsStatement f (t ∷ ts) x vs
    try_both : {f : Flags} {t u : Filled} {ts us vs ws : List Filled} (b last : Block) (handler : Catch) (x : Statement) → IsWord (codes "try") t → IsBlock f ts b us → IsCatch f us handler (u ∷ vs) → IsWord (codes "finally") u → IsBlock f vs last ws → x ≡ stat.Try (across (t ∷ ts) ws) b (Some handler) (Some last) → IsStatement f (t ∷ ts) x ws
    -- 13.16
    debugger : {f : Flags} {t end : Filled} {ts : List Filled} (x : Statement) → IsWord (codes "debugger") t → IsEnd end → x ≡ stat.Debugger (across (t ∷ end ∷ ts) ts) → IsStatement f (t ∷ end ∷ ts) x ts

  pub data IsBlock : Flags → List Filled → Block → List Filled → Type 0 where
    braces : {f : Flags} {t : Filled} {ts us : List Filled} (body : List Statement) (b : Block) → IsMark mark.LeftBrace t → AreStatements f ts body us → b ≡ roll-Block (record { span = across (t ∷ ts) us; statements = body }) → IsBlock f (t ∷ ts) b us

  -- An `else` belongs to the nearest `if` before it that can have one, so an `if` without one stands only before what begins with
  -- no `else` (13.6).
  pub data IsIf : Flags → List Filled → Condition → List Condition → Option Statement → List Filled → Type 0 where
    no_else : {f : Flags} {ts us : List Filled} (c : Condition) → IsCondition f ts c us → NotWord (codes "else") us → IsIf f ts c [] None us
    last_else : {f : Flags} {t : Filled} {ts us vs : List Filled} (c : Condition) (s : Statement) → IsCondition f ts c (t ∷ us) → IsWord (codes "else") t → NotWord (codes "if") us → IsStatement f us s vs → IsIf f ts c [] (Some s) vs
    else_if : {f : Flags} {t : Filled} {ts us vs : List Filled} (c d : Condition) (more : List Condition) (otherwise : Option Statement) → IsCondition f ts c (t ∷ us) → IsWord (codes "else") t → IsIf f us d more otherwise vs → IsIf f ts c (d ∷ more) otherwise vs

  pub data IsCondition : Flags → List Filled → Condition → List Filled → Type 0 where
    condition : {f : Flags} {t open_ close : Filled} {ts us vs : List Filled} (test : Expression) (body : Statement) (c : Condition) → IsWord (codes "if") t → IsMark mark.LeftParenthesis open_ → IsExpression (with_in f) level_sequence ts test (close ∷ us) → IsMark mark.RightParenthesis close → IsStatement f us body vs → c ≡ roll-Condition (record { span = across (t ∷ open_ ∷ ts) vs; test = test; body = body }) → IsCondition f (t ∷ open_ ∷ ts) c vs

  -- what stands before the first semicolon of a for header, and that semicolon (13.7.4)
  pub data IsForFirst : Flags → List Filled → ForFirst → List Filled → Type 0 where
    nothing_first : {f : Flags} {end : Filled} {ts : List Filled} (x : ForFirst) → IsMark mark.Semicolon end → x ≡ NoFirst → IsForFirst f (end ∷ ts) x ts
    variables_first : {f : Flags} {t end : Filled} {ts us : List Filled} (kind : VariableKind) (parts : List Part) (x : ForFirst) → IsWord (kind_word kind) t → AreVariables (without_in f) ts parts (end ∷ us) → IsMark mark.Semicolon end → x ≡ FirstVariables (across (t ∷ ts) (end ∷ us)) kind parts → IsForFirst f (t ∷ ts) x us
    expression_first : {f : Flags} {end : Filled} {ts us : List Filled} (y : Expression) (x : ForFirst) → IsExpression (without_in f) level_sequence ts y (end ∷ us) → IsMark mark.Semicolon end → x ≡ FirstExpression y → IsForFirst f ts x us

  -- What stands before `of` (13.7.5): ForBinding with its word, or what is assigned. No `in` at its own level is an operator, which
  -- a LeftHandSideExpression has none of.
  pub data IsForTarget : Flags → List Filled → ForTarget → List Filled → Type 0 where
    declared_target : {f : Flags} {t : Filled} {ts us : List Filled} (kind : VariableKind) (y : Pattern) (x : ForTarget) → IsWord (kind_word kind) t → IsTarget f true ts y us → x ≡ Declared (across (t ∷ ts) us) kind y → IsForTarget f (t ∷ ts) x us
    assigned_in_turn : {f : Flags} {ts us : List Filled} (y : Pattern) (x : ForTarget) → IsAssigned (without_in f) assign.Assign ts y us → x ≡ Assigned y → IsForTarget f ts x us

  -- an expression that may be absent
  pub data IsOptional : Flags → List Filled → Option Expression → List Filled → Type 0 where
    absent : {f : Flags} {ts : List Filled} → IsOptional f ts None ts
    present : {f : Flags} {ts us : List Filled} (y : Expression) → IsExpression (with_in f) level_sequence ts y us → IsOptional f ts (Some y) us

  -- the label of a continue or a break, on its line (13.8, 13.9)
  pub data IsLabel : List Filled → Option Identifier → List Filled → Type 0 where
    no_label : {ts : List Filled} → IsLabel ts None ts
    label : {t : Filled} {ts us : List Filled} (n : Identifier) → IsOnLine t → IsName (t ∷ ts) n us → IsLabel (t ∷ ts) (Some n) us

  -- CaseBlock (13.12) after its opening brace. The mark says that a default clause may still come.
  pub data AreCases : Flags → Bool → List Filled → List Case → List Filled → Type 0 where
    no_case : {f : Flags} {may : Bool} {close : Filled} {ts : List Filled} → IsMark mark.RightBrace close → AreCases f may (close ∷ ts) [] ts
    case_clause : {f : Flags} {may : Bool} {t colon : Filled} {ts us vs ws : List Filled} (test : Expression) (body : List Statement) (c : Case) (cs : List Case) → IsWord (codes "case") t → IsExpression (with_in f) level_sequence ts test (colon ∷ us) → IsMark mark.Colon colon → AreInCase f us body vs → c ≡ roll-Case (record { span = across (t ∷ ts) vs; test = Some test; body = body }) → AreCases f may vs cs ws → AreCases f may (t ∷ ts) (c ∷ cs) ws
    default_clause : {f : Flags} {t colon : Filled} {ts us vs : List Filled} (body : List Statement) (c : Case) (cs : List Case) → IsWord (codes "default") t → IsMark mark.Colon colon → AreInCase f ts body us → c ≡ roll-Case (record { span = across (t ∷ colon ∷ ts) us; test = None; body = body }) → AreCases f false us cs vs → AreCases f true (t ∷ colon ∷ ts) (c ∷ cs) vs

  pub data AreInCase : Flags → List Filled → List Statement → List Filled → Type 0 where
    no_more_in_case : {f : Flags} {ts : List Filled} → AreInCase f ts [] ts
    next_in_case : {f : Flags} {ts us vs : List Filled} (s : Statement) (ss : List Statement) → IsListed f ts s us → AreInCase f us ss vs → AreInCase f ts (s ∷ ss) vs

  -- 13.15
  pub data IsCatch : Flags → List Filled → Catch → List Filled → Type 0 where
    handler : {f : Flags} {t open_ close : Filled} {ts us vs : List Filled} (y : Pattern) (b : Block) (c : Catch) → IsWord (codes "catch") t → IsMark mark.LeftParenthesis open_ → IsTarget (with_in f) true ts y (close ∷ us) → IsMark mark.RightParenthesis close → IsBlock f us b vs → c ≡ roll-Catch (record { span = across (t ∷ open_ ∷ ts) vs; parameter = y; body = b }) → IsCatch f (t ∷ open_ ∷ ts) c vs
