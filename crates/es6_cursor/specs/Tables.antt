-- The operators that punctuators and words are.
use Rattle.std.specs.Prelude.{ℕ, cond, List, Option, Some, None, codes}
use Rattle.std.specs.Str.{bytes_eq}
use Rattle.es6_lexer.specs.declared.token.Punctuator.{Punctuator}
use Rattle.es6_lexer.specs.declared.token.Punctuator.TheVariants as marks
use Rattle.es6_ast.specs.declared.operators.UnaryOperator.{UnaryOperator}
use Rattle.es6_ast.specs.declared.operators.UnaryOperator.TheVariants as unary
use Rattle.es6_ast.specs.declared.operators.UpdateOperator.{UpdateOperator}
use Rattle.es6_ast.specs.declared.operators.UpdateOperator.TheVariants as update
use Rattle.es6_ast.specs.declared.operators.BinaryOperator.{BinaryOperator}
use Rattle.es6_ast.specs.declared.operators.BinaryOperator.TheVariants as binary
use Rattle.es6_ast.specs.declared.operators.AssignOperator.{AssignOperator}
use Rattle.es6_ast.specs.declared.operators.AssignOperator.TheVariants as assign
use Rattle.es6_ast.specs.declared.operators.VariableKind.{VariableKind}
use Rattle.es6_ast.specs.declared.operators.VariableKind.TheVariants.{Var, Let, Const}

abbrev pub unary_mark : Punctuator → Option UnaryOperator
unary_mark marks.Plus = Some unary.Plus
unary_mark marks.Minus = Some unary.Minus
unary_mark marks.Tilde = Some unary.BitNot
unary_mark marks.Exclamation = Some unary.Not
unary_mark _ = None

abbrev pub before_mark : Punctuator → Option UpdateOperator
before_mark marks.PlusPlus = Some update.IncrementBefore
before_mark marks.MinusMinus = Some update.DecrementBefore
before_mark _ = None

abbrev pub after_mark : Punctuator → Option UpdateOperator
after_mark marks.PlusPlus = Some update.IncrementAfter
after_mark marks.MinusMinus = Some update.DecrementAfter
after_mark _ = None

abbrev pub assign_mark : Punctuator → Option AssignOperator
assign_mark marks.Assign = Some assign.Assign
assign_mark marks.StarAssign = Some assign.MultiplyAssign
assign_mark marks.SlashAssign = Some assign.DivideAssign
assign_mark marks.PercentAssign = Some assign.RemainderAssign
assign_mark marks.PlusAssign = Some assign.AddAssign
assign_mark marks.MinusAssign = Some assign.SubtractAssign
assign_mark marks.ShiftLeftAssign = Some assign.ShiftLeftAssign
assign_mark marks.ShiftRightAssign = Some assign.ShiftRightAssign
assign_mark marks.ShiftRightUnsignedAssign = Some assign.ShiftRightUnsignedAssign
assign_mark marks.AmpersandAssign = Some assign.BitAndAssign
assign_mark marks.CaretAssign = Some assign.BitXorAssign
assign_mark marks.BarAssign = Some assign.BitOrAssign
assign_mark marks.StarStarAssign = Some assign.PowerAssign
assign_mark _ = None

abbrev pub binary_mark : Punctuator → Option BinaryOperator
binary_mark marks.BarBar = Some binary.Or
binary_mark marks.AmpersandAmpersand = Some binary.And
binary_mark marks.Bar = Some binary.BitOr
binary_mark marks.Caret = Some binary.BitXor
binary_mark marks.Ampersand = Some binary.BitAnd
binary_mark marks.Equals = Some binary.Equal
binary_mark marks.NotEquals = Some binary.NotEqual
binary_mark marks.StrictEquals = Some binary.Same
binary_mark marks.StrictNotEquals = Some binary.NotSame
binary_mark marks.LessThan = Some binary.Less
binary_mark marks.GreaterThan = Some binary.Greater
binary_mark marks.LessOrEqual = Some binary.AtMost
binary_mark marks.GreaterOrEqual = Some binary.AtLeast
binary_mark marks.ShiftLeft = Some binary.ShiftLeft
binary_mark marks.ShiftRight = Some binary.ShiftRight
binary_mark marks.ShiftRightUnsigned = Some binary.ShiftRightUnsigned
binary_mark marks.Plus = Some binary.Add
binary_mark marks.Minus = Some binary.Subtract
binary_mark marks.Star = Some binary.Multiply
binary_mark marks.Slash = Some binary.Divide
binary_mark marks.Percent = Some binary.Remainder
binary_mark _ = None

abbrev pub unary_word : List ℕ → Option UnaryOperator
unary_word name = cond (bytes_eq name (codes "delete")) (Some unary.Delete) (cond (bytes_eq name (codes "void")) (Some unary.Void) (cond (bytes_eq name (codes "typeof")) (Some unary.Typeof) None))

abbrev pub binary_word : List ℕ → Option BinaryOperator
binary_word name = cond (bytes_eq name (codes "instanceof")) (Some binary.InstanceOf) (cond (bytes_eq name (codes "in")) (Some binary.In) None)

-- the word of a declaration of variables (13.3)
abbrev pub kind_word_of : List ℕ → Option VariableKind
kind_word_of name = cond (bytes_eq name (codes "var")) (Some Var) (cond (bytes_eq name (codes "let")) (Some Let) (cond (bytes_eq name (codes "const")) (Some Const) None))

abbrev pub lexical_word_of : List ℕ → Option VariableKind
lexical_word_of name = cond (bytes_eq name (codes "let")) (Some Let) (cond (bytes_eq name (codes "const")) (Some Const) None)
