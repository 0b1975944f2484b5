-- What single tokens stand for.
use Rattle.std.specs.Prelude.{ℕ, ℤ, ◌==◌, Bool, true, false, ◌&&◌, ◌||◌, not, cond, List, [], ◌∷◌, Option, Some, None, codes, is_some}
use Rattle.std.specs.Str.{bytes_eq}
use Rattle.es_text.specs.declared.Span.{Span}
use Rattle.es_outside.specs.HostNames.{is_among}
use Rattle.es6_lexer.specs.declared.token.TokenKind.{TokenKind}
use Rattle.es6_lexer.specs.declared.token.TokenKind.TheVariants as kinds
use Rattle.es6_lexer.specs.declared.token.NumberToken.TheVariants.{Whole}
use Rattle.es6_lexer.specs.declared.token.Punctuator.TheVariants as marks
use Rattle.es6_ast.specs.declared.operators.UnaryOperator.{UnaryOperator}
use Rattle.es6_ast.specs.declared.operators.UnaryOperator.TheVariants as unaries
use Rattle.es6_ast.specs.declared.operators.UpdateOperator.{UpdateOperator}
use Rattle.es6_ast.specs.declared.operators.UpdateOperator.TheVariants.{IncrementBefore, DecrementBefore, IncrementAfter, DecrementAfter}
use Rattle.es6_ast.specs.declared.operators.BinaryOperator.{BinaryOperator}
use Rattle.es6_ast.specs.declared.operators.BinaryOperator.TheVariants as binary
use Rattle.es6_ast.specs.declared.operators.AssignOperator.{AssignOperator}
use Rattle.es6_ast.specs.declared.operators.AssignOperator.TheVariants as assign
use Rattle.es6_ast.specs.declared.operators.Literal.{Literal}
use Rattle.es6_ast.specs.declared.operators.Literal.TheVariants as literals
use Rattle.es6_ast.specs.declared.operators.VariableKind.{VariableKind}
use Rattle.es6_ast.specs.declared.operators.VariableKind.TheVariants.{Var, Let, Const}
use Rattle.es6_ast.specs.declared.tree.Stretch.{Stretch}
use Rattle.es6_ast.specs.declared.settings.Flags.{Flags}
use Rattle.es6_ast.specs.Tokens.{Filling, Read, Filled, is_word, is_identifier}
use Rattle.es6_ast.specs.Grammar.{unary_kind, update_kind, assign_kind, binary_kind, binary_level, is_in, kind_word}
use Rattle.es6_reading.specs.Parser.{is_mark}

-- ## Names (11.6, 12.1)

abbrev pub name_if : Bool → List ℕ → Option (List ℕ)
name_if true name = Some name
name_if false name = None

abbrev pub any_name_in : Filling → Option (List ℕ)
any_name_in (Read (kinds.Word name)) = Some name
any_name_in _ = None

-- IdentifierName, and one that is not reserved
abbrev pub any_name : Filled → Option (List ℕ)
any_name t = any_name_in t.kind

abbrev pub free_name_in : Filling → Option (List ℕ)
free_name_in (Read (kinds.Word name)) = name_if (is_identifier name) name
free_name_in _ = None

abbrev pub free_name : Filled → Option (List ℕ)
free_name t = free_name_in t.kind

-- ## Literals (12.2.4)

abbrev pub literal_word : List ℕ → Option Literal
literal_word name = cond (bytes_eq name (codes "null")) (Some literals.Null) (cond (bytes_eq name (codes "true")) (Some (literals.Truth true)) (cond (bytes_eq name (codes "false")) (Some (literals.Truth false)) None))

abbrev pub literal_in : Filling → Option Literal
literal_in (Read (kinds.Word name)) = literal_word name
literal_in (Read (kinds.Number (Whole value))) = Some (literals.Integer value)
literal_in (Read (kinds.Text units)) = Some (literals.Text units)
literal_in _ = None

abbrev pub literal_at : Filled → Option Literal
literal_at t = literal_in t.kind

abbrev pub text_in : Filling → Option (List ℕ)
text_in (Read (kinds.Text units)) = Some units
text_in _ = None

abbrev pub text_at : Filled → Option (List ℕ)
text_at t = text_in t.kind

-- a name or literal as the name of a property (12.2.6)
pub data KeyToken : Type 0 where
  WordToken : List ℕ → KeyToken
  TextToken : List ℕ → KeyToken
  IntegerToken : ℤ → KeyToken

abbrev pub key_in : Filling → Option KeyToken
key_in (Read (kinds.Word name)) = Some (WordToken name)
key_in (Read (kinds.Text units)) = Some (TextToken units)
key_in (Read (kinds.Number (Whole value))) = Some (IntegerToken value)
key_in _ = None

abbrev pub key_at : Filled → Option KeyToken
key_at t = key_in t.kind

-- `get` and `set` before an accessor's name
abbrev pub accessor_word : List ℕ → Option Bool
accessor_word name = cond (bytes_eq name (codes "get")) (Some false) (cond (bytes_eq name (codes "set")) (Some true) None)

abbrev pub accessor_in : Filling → Option Bool
accessor_in (Read (kinds.Word name)) = accessor_word name
accessor_in _ = None

abbrev pub accessor_at : Filled → Option Bool
accessor_at t = accessor_in t.kind

abbrev pub accessor_name : Bool → List ℕ
accessor_name true = codes "set"
accessor_name false = codes "get"

-- ## Templates (11.8.6): a stretch, by whether the template begins and whether it ends with it

abbrev pub same_truth : Bool → Bool → Bool
same_truth true b = b
same_truth false b = not b

abbrev pub stretch_if : Bool → Span → List ℕ → List ℕ → Option Stretch
stretch_if true span cooked raw = Some (record { span = span; cooked = cooked; raw = raw })
stretch_if false span cooked raw = None

abbrev pub stretch_in : Bool → Bool → Span → Filling → Option Stretch
stretch_in first last span (Read (kinds.Template cooked raw begins_ ends_)) = stretch_if (same_truth first begins_ && same_truth last ends_) span cooked raw
stretch_in first last span _ = None

abbrev pub stretch_at : Bool → Bool → Filled → Option Stretch
stretch_at first last t = stretch_in first last t.span t.kind

-- ## Operators

abbrev pub same_kind : TokenKind → Filling → Bool
same_kind (kinds.Word v) k = is_word v k
same_kind (kinds.Punctuator p) k = is_mark p k
same_kind _ k = false

-- the first of a table's values whose token has the kind
abbrev pub look_up : {A : Type 0} → (A → TokenKind) → List A → Filling → Option A
look_up kind_of [] k = None
look_up kind_of (x ∷ xs) k = cond (same_kind (kind_of x) k) (Some x) (look_up kind_of xs k)

unfoldable pub unary_operators : List UnaryOperator
unary_operators = unaries.Delete ∷ unaries.Void ∷ unaries.Typeof ∷ unaries.Plus ∷ unaries.Minus ∷ unaries.BitNot ∷ unaries.Not ∷ []

abbrev pub unary_at : Filled → Option UnaryOperator
unary_at t = look_up unary_kind unary_operators t.kind

abbrev pub before_at : Filled → Option UpdateOperator
before_at t = look_up update_kind (IncrementBefore ∷ DecrementBefore ∷ []) t.kind

-- no line terminator stands before a postfix operator (12.4)
abbrev pub unless : {A : Type 0} → Bool → Option A → Option A
unless true x = None
unless false x = x

abbrev pub after_at : Filled → Option UpdateOperator
after_at t = unless t.newline (look_up update_kind (IncrementAfter ∷ DecrementAfter ∷ []) t.kind)

unfoldable pub assign_operators : List AssignOperator
assign_operators =
    assign.Assign ∷ assign.MultiplyAssign ∷ assign.DivideAssign ∷ assign.RemainderAssign ∷ assign.AddAssign ∷ assign.SubtractAssign ∷ assign.ShiftLeftAssign
    ∷ assign.ShiftRightAssign ∷ assign.ShiftRightUnsignedAssign ∷ assign.BitAndAssign ∷ assign.BitXorAssign ∷ assign.BitOrAssign ∷ assign.PowerAssign ∷ []

abbrev pub assign_at : Filled → Option AssignOperator
assign_at t = look_up assign_kind assign_operators t.kind

unfoldable pub binary_operators : List BinaryOperator
binary_operators =
    binary.Or ∷ binary.And ∷ binary.BitOr ∷ binary.BitXor ∷ binary.BitAnd ∷ binary.Equal ∷ binary.NotEqual ∷ binary.Same ∷ binary.NotSame
    ∷ binary.Less ∷ binary.Greater ∷ binary.AtMost ∷ binary.AtLeast ∷ binary.InstanceOf ∷ binary.In ∷ binary.ShiftLeft ∷ binary.ShiftRight ∷ binary.ShiftRightUnsigned
    ∷ binary.Add ∷ binary.Subtract ∷ binary.Multiply ∷ binary.Divide ∷ binary.Remainder ∷ []

abbrev pub operator_of_level : Flags → ℕ → Option BinaryOperator → Option BinaryOperator
operator_of_level f level None = None
operator_of_level f level (Some op) = unless (not (binary_level op == level) || not (f.has_in || not (is_in op))) (Some op)

-- an operator of the level; where the expression has no `in`, that is none
abbrev pub binary_at : Flags → ℕ → Filled → Option BinaryOperator
binary_at f level t = operator_of_level f level (look_up binary_kind binary_operators t.kind)

-- `=>` on the line of the token before it (14.2)
abbrev pub is_arrow : Filled → Bool
is_arrow t = is_mark marks.Arrow t.kind && not t.newline

abbrev pub arrow_at : Filled → Option Filled
arrow_at t = unless t.newline (cond (is_mark marks.Arrow t.kind) (Some t) None)

-- the word of a declaration of variables (13.3)
abbrev pub kind_at : Filled → Option VariableKind
kind_at t = look_up (λ kind. kinds.Word (kind_word kind)) (Var ∷ Let ∷ Const ∷ []) t.kind

abbrev pub lexical_kind_at : Filled → Option VariableKind
lexical_kind_at t = look_up (λ kind. kinds.Word (kind_word kind)) (Let ∷ Const ∷ []) t.kind

-- ## What begins an expression

abbrev pub is_template_head : Filling → Bool
is_template_head (Read (kinds.Template cooked raw first last)) = first
is_template_head _ = false

unfoldable pub operand_words : List (List ℕ)
operand_words = codes "this" ∷ codes "function" ∷ codes "class" ∷ codes "new" ∷ codes "super" ∷ []

abbrev pub is_any_word : List (List ℕ) → Filling → Bool
is_any_word words (Read (kinds.Word name)) = is_among words name
is_any_word words _ = false

unfoldable pub begins_operand : Filled → Bool
begins_operand t = is_some (free_name t) || is_some (literal_at t) || is_any_word operand_words t.kind || is_template_head t.kind
    || is_mark marks.LeftParenthesis t.kind || is_mark marks.LeftBracket t.kind || is_mark marks.LeftBrace t.kind

unfoldable pub begins_unary : Filled → Bool
begins_unary t = begins_operand t || is_some (unary_at t) || is_some (before_at t)

-- `yield` begins an expression in a generator (14.4)
unfoldable pub begins_expression : Flags → Filled → Bool
begins_expression f t = begins_unary t || (f.has_yield && is_word (codes "yield") t.kind)
