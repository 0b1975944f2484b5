-- The operators that punctuators and words are.
use Rattle.std.specs.Prelude.{ℕ, Bool, true, false, ◌||◌, cond, List, Option, Some, None, codes}
use Rattle.std.specs.Str.{bytes_eq}
use Rattle.es5_ast.specs.Grammar.{is_identifier}
use Rattle.es5_reading.specs.Expressions.{is_some, literal_word}
use Rattle.es5_tokens.specs.declared.token.Punctuator.{Punctuator}
use Rattle.es5_tokens.specs.declared.token.Punctuator.TheVariants as marks
use Rattle.es5_ast.specs.declared.operators.UnaryOperator5.{UnaryOperator5}
use Rattle.es5_ast.specs.declared.operators.UnaryOperator5.TheVariants as unary
use Rattle.es5_ast.specs.declared.operators.UpdateOperator5.{UpdateOperator5}
use Rattle.es5_ast.specs.declared.operators.UpdateOperator5.TheVariants as update
use Rattle.es5_ast.specs.declared.operators.BinaryOperator5.{BinaryOperator5}
use Rattle.es5_ast.specs.declared.operators.BinaryOperator5.TheVariants as binary
use Rattle.es5_ast.specs.declared.operators.AssignOperator5.{AssignOperator5}
use Rattle.es5_ast.specs.declared.operators.AssignOperator5.TheVariants as assign

abbrev pub unary_mark : Punctuator → Option UnaryOperator5
unary_mark marks.Plus = Some unary.Plus
unary_mark marks.Minus = Some unary.Minus
unary_mark marks.Tilde = Some unary.BitNot
unary_mark marks.Exclamation = Some unary.Not
unary_mark _ = None

abbrev pub before_mark : Punctuator → Option UpdateOperator5
before_mark marks.PlusPlus = Some update.IncrementBefore
before_mark marks.MinusMinus = Some update.DecrementBefore
before_mark _ = None

abbrev pub after_mark : Punctuator → Option UpdateOperator5
after_mark marks.PlusPlus = Some update.IncrementAfter
after_mark marks.MinusMinus = Some update.DecrementAfter
after_mark _ = None

abbrev pub assign_mark : Punctuator → Option AssignOperator5
assign_mark marks.Assign = Some assign.Assign
assign_mark marks.StarAssign = Some assign.MultiplyAssign
assign_mark marks.SlashAssign = Some assign.DivideAssign
assign_mark marks.PercentAssign = Some assign.RemainderAssign
assign_mark marks.PlusAssign = Some assign.AddAssign
assign_mark marks.MinusAssign = Some assign.SubtractAssign
assign_mark marks.ShiftLeftAssign = Some assign.ShiftLeftAssign
assign_mark marks.ShiftRightAssign = Some assign.ShiftRightAssign
assign_mark marks.ShiftRightUnsignedAssign = Some assign.ShiftRightUnsignedAssign
assign_mark marks.AmpersandAssign = Some assign.BitAndAssign
assign_mark marks.CaretAssign = Some assign.BitXorAssign
assign_mark marks.BarAssign = Some assign.BitOrAssign
assign_mark _ = None

abbrev pub binary_mark : Punctuator → Option BinaryOperator5
binary_mark marks.BarBar = Some binary.Or
binary_mark marks.AmpersandAmpersand = Some binary.And
binary_mark marks.Bar = Some binary.BitOr
binary_mark marks.Caret = Some binary.BitXor
binary_mark marks.Ampersand = Some binary.BitAnd
binary_mark marks.Equals = Some binary.Equal
binary_mark marks.NotEquals = Some binary.NotEqual
binary_mark marks.StrictEquals = Some binary.Same
binary_mark marks.StrictNotEquals = Some binary.NotSame
binary_mark marks.LessThan = Some binary.Less
binary_mark marks.GreaterThan = Some binary.Greater
binary_mark marks.LessOrEqual = Some binary.AtMost
binary_mark marks.GreaterOrEqual = Some binary.AtLeast
binary_mark marks.ShiftLeft = Some binary.ShiftLeft
binary_mark marks.ShiftRight = Some binary.ShiftRight
binary_mark marks.ShiftRightUnsigned = Some binary.ShiftRightUnsigned
binary_mark marks.Plus = Some binary.Add
binary_mark marks.Minus = Some binary.Subtract
binary_mark marks.Star = Some binary.Multiply
binary_mark marks.Slash = Some binary.Divide
binary_mark marks.Percent = Some binary.Remainder
binary_mark _ = None

abbrev pub unary_word : List ℕ → Option UnaryOperator5
unary_word name = cond (bytes_eq name (codes "delete")) (Some unary.Delete) (cond (bytes_eq name (codes "void")) (Some unary.Void) (cond (bytes_eq name (codes "typeof")) (Some unary.Typeof) None))

abbrev pub binary_word : List ℕ → Option BinaryOperator5
binary_word name = cond (bytes_eq name (codes "instanceof")) (Some binary.InstanceOf) (cond (bytes_eq name (codes "in")) (Some binary.In) None)

-- what begins an expression after `new` (11.2)
abbrev pub begins_operand_mark : Punctuator → Bool
begins_operand_mark marks.LeftParenthesis = true
begins_operand_mark marks.LeftBracket = true
begins_operand_mark marks.LeftBrace = true
begins_operand_mark _ = false

abbrev pub begins_operand_word : List ℕ → Bool
begins_operand_word name = is_identifier name || is_some (literal_word name) || bytes_eq name (codes "this") || bytes_eq name (codes "function") || bytes_eq name (codes "new")
