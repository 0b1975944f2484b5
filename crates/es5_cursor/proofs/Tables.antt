-- The tables of operators are those of the grammar.
use Rattle.std.proofs.Common.{◌≡◌, ℕ, List, refl}
use Rattle.es5_tokens.specs.declared.token.Punctuator.{Punctuator}
use Rattle.es5_tokens.specs.declared.token.Punctuator.TheVariants.{LeftBrace, RightBrace, LeftParenthesis, RightParenthesis, LeftBracket, RightBracket, Dot, Semicolon, Comma, LessThan, GreaterThan, LessOrEqual, GreaterOrEqual, Equals, NotEquals, StrictEquals, StrictNotEquals, Plus, Minus, Star, Percent, PlusPlus, MinusMinus, ShiftLeft, ShiftRight, ShiftRightUnsigned, Ampersand, Bar, Caret, Exclamation, Tilde, AmpersandAmpersand, BarBar, Question, Colon, Assign, PlusAssign, MinusAssign, StarAssign, PercentAssign, ShiftLeftAssign, ShiftRightAssign, ShiftRightUnsignedAssign, AmpersandAssign, BarAssign, CaretAssign, Slash, SlashAssign}
use Rattle.es5_tokens.specs.Punctuators.{spelling}
use Rattle.es5_ast.specs.declared.operators.UpdateOperator5.TheVariants.{IncrementBefore, DecrementBefore, IncrementAfter, DecrementAfter}
use Rattle.std.specs.Prelude.{◌∷◌, [], ◌||◌, codes}
use Rattle.es5_ast.specs.Lexical as lexical
use Rattle.es5_ast.specs.Grammar.{is_mark, unary_kind, update_kind, assign_kind, binary_kind}
use Rattle.es5_reading.specs.Expressions.{look_up, unary_operators, assign_operators, binary_operators}
use Rattle.es5_cursor.specs.Tables.{unary_mark, before_mark, after_mark, assign_mark, binary_mark, unary_word, binary_word, begins_operand_mark}

pub unary_marks : (p : Punctuator) → unary_mark p ≡ look_up unary_kind unary_operators (lexical.Punctuator (spelling p))
unfolding unary_operators
unary_marks LeftBrace = refl
unary_marks _ = refl

pub before_marks : (p : Punctuator) → before_mark p ≡ look_up update_kind (IncrementBefore ∷ DecrementBefore ∷ []) (lexical.Punctuator (spelling p))
before_marks LeftBrace = refl
before_marks _ = refl

pub after_marks : (p : Punctuator) → after_mark p ≡ look_up update_kind (IncrementAfter ∷ DecrementAfter ∷ []) (lexical.Punctuator (spelling p))
after_marks LeftBrace = refl
after_marks _ = refl

pub assign_marks : (p : Punctuator) → assign_mark p ≡ look_up assign_kind assign_operators (lexical.Punctuator (spelling p))
unfolding assign_operators
assign_marks LeftBrace = refl
assign_marks _ = refl

pub binary_marks : (p : Punctuator) → binary_mark p ≡ look_up binary_kind binary_operators (lexical.Punctuator (spelling p))
unfolding binary_operators
binary_marks LeftBrace = refl
binary_marks _ = refl

pub unary_words : (name : List ℕ) → unary_word name ≡ look_up unary_kind unary_operators (lexical.Word name)
unfolding unary_operators
unary_words name = refl

pub binary_words : (name : List ℕ) → binary_word name ≡ look_up binary_kind binary_operators (lexical.Word name)
unfolding binary_operators
binary_words name = refl

pub operand_marks : (p : Punctuator) → begins_operand_mark p ≡ (is_mark (codes "(") (lexical.Punctuator (spelling p)) || is_mark (codes "[") (lexical.Punctuator (spelling p)) || is_mark (codes "{") (lexical.Punctuator (spelling p)))
operand_marks LeftBrace = refl
operand_marks _ = refl
