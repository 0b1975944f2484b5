-- The groups that the tokens open and close which the readers know.
use Rattle.std.proofs.Common.{◌≡◌, ℕ, Bool, true, false, List, Some, None, refl}
use Rattle.std.specs.Prelude.{cond}
use Rattle.es6_lexer.specs.declared.token.TokenKind.TheVariants as kinds
use Rattle.es6_lexer.specs.declared.token.Punctuator.TheVariants as marks
use Rattle.es6_ast.specs.declared.operators.UnaryOperator.{UnaryOperator}
use Rattle.es6_ast.specs.declared.operators.UnaryOperator.TheVariants as unaries
use Rattle.es6_ast.specs.declared.operators.UpdateOperator.{UpdateOperator}
use Rattle.es6_ast.specs.declared.operators.UpdateOperator.TheVariants.{IncrementBefore, DecrementBefore, IncrementAfter, DecrementAfter}
use Rattle.es6_ast.specs.declared.operators.BinaryOperator.{BinaryOperator}
use Rattle.es6_ast.specs.declared.operators.BinaryOperator.TheVariants as binary
use Rattle.es6_ast.specs.declared.operators.AssignOperator.{AssignOperator}
use Rattle.es6_ast.specs.declared.operators.AssignOperator.TheVariants as assign
use Rattle.es6_ast.specs.declared.operators.Literal.{Literal}
use Rattle.es6_ast.specs.declared.operators.Literal.TheVariants as literals
use Rattle.es6_ast.specs.declared.settings.Flags.{Flags}
use Rattle.es6_ast.specs.Tokens.{Filling, Read, Inserted}
use Rattle.es6_ast.specs.Grammar.{ends, unary_kind, update_kind, assign_kind, binary_kind, literal_kind, kind_word}
use Rattle.es6_reading.specs.Parser.{mark, word, ending}
use Rattle.es6_reading.specs.Words.{KeyToken, WordToken, TextToken, IntegerToken, any_name, free_name, literal_at, text_at, key_at, accessor_at, accessor_name, stretch_at, unary_at, before_at, after_at, assign_at, binary_at, arrow_at, kind_at, lexical_kind_at}
use Rattle.es6_reading.specs.Expressions.{star_at}
use Rattle.es6_reading.specs.Statements.{label_at, label_if}
use Rattle.es6_reading.proofs.Meanings.{word-means, ending-means, do-while-ending-means, any-name-means, free-name-means, literal-means, text-means, key_kind, key-means, accessor-means, stretch-means, unary-means, assign-means, before-means, after-means, binary-means, arrow-means, kind-means, lexical-kind-means}
use Rattle.es6_reading.proofs.Shallow.{Groups, Knows, of-kind, of-mark}

pub a-word : (w : List ℕ) → Knows 0 0 (word w)
a-word w t u e = of-kind t (Read (kinds.Word w)) (word-means w t u e).0 (refl, refl, refl)

pub comma : Knows 0 0 (mark marks.Comma)
comma = of-mark marks.Comma (refl, refl, refl)

pub colon : Knows 0 0 (mark marks.Colon)
colon = of-mark marks.Colon (refl, refl, refl)

pub semicolon-mark : Knows 0 0 (mark marks.Semicolon)
semicolon-mark = of-mark marks.Semicolon (refl, refl, refl)

pub ellipsis : Knows 0 0 (mark marks.Ellipsis)
ellipsis = of-mark marks.Ellipsis (refl, refl, refl)

pub equals : Knows 0 0 (mark marks.Assign)
equals = of-mark marks.Assign (refl, refl, refl)

pub a-star : Knows 0 0 (mark marks.Star)
a-star = of-mark marks.Star (refl, refl, refl)

pub dot : Knows 0 0 (mark marks.Dot)
dot = of-mark marks.Dot (refl, refl, refl)

pub power-mark : Knows 0 0 (mark marks.StarStar)
power-mark = of-mark marks.StarStar (refl, refl, refl)

pub question : Knows 0 0 (mark marks.Question)
question = of-mark marks.Question (refl, refl, refl)

pub right-parenthesis : Knows 0 1 (mark marks.RightParenthesis)
right-parenthesis = of-mark marks.RightParenthesis (refl, refl, refl)

pub right-bracket : Knows 0 1 (mark marks.RightBracket)
right-bracket = of-mark marks.RightBracket (refl, refl, refl)

pub right-brace : Knows 0 1 (mark marks.RightBrace)
right-brace = of-mark marks.RightBrace (refl, refl, refl)

pub any-name : Knows 0 0 any_name
any-name t name e = of-kind t (Read (kinds.Word name)) (any-name-means name t e) (refl, refl, refl)

pub free-name : Knows 0 0 free_name
free-name t name e = of-kind t (Read (kinds.Word name)) (free-name-means name t e).0 (refl, refl, refl)

pub label : Knows 0 0 label_at
label t name e = by-line t.newline e
  where
    by-line : (b : Bool) → label_if b (free_name t) ≡ Some name → Groups 0 0 t.kind
    by-line true h = absurd (cc)
    by-line false h = free-name t name h

of-literal : (value : Literal) → Groups 0 0 (Read (literal_kind value))
of-literal literals.Null = (refl, refl, refl)
of-literal (literals.Truth true) = (refl, refl, refl)
of-literal (literals.Truth false) = (refl, refl, refl)
of-literal (literals.Integer value) = (refl, refl, refl)
of-literal (literals.Text units) = (refl, refl, refl)

pub literal : Knows 0 0 literal_at
literal t value e = of-kind t (Read (literal_kind value)) (literal-means value t e) (of-literal value)

pub text : Knows 0 0 text_at
text t units e = of-kind t (Read (kinds.Text units)) (text-means units t e) (refl, refl, refl)

of-key : (value : KeyToken) → Groups 0 0 (Read (key_kind value))
of-key (WordToken name) = (refl, refl, refl)
of-key (TextToken units) = (refl, refl, refl)
of-key (IntegerToken value) = (refl, refl, refl)

pub key-token : Knows 0 0 key_at
key-token t value e = of-kind t (Read (key_kind value)) (key-means value t e) (of-key value)

pub accessor-word : Knows 0 0 accessor_at
accessor-word t setter e = of-kind t (Read (kinds.Word (accessor_name setter))) (accessor-means setter t e) (refl, refl, refl)

pub whole-template : Knows 0 0 (stretch_at true true)
whole-template t s e = of-kind t (Read (kinds.Template s.cooked s.raw true true)) (stretch-means true true s t e).0 (refl, refl, refl)

pub template-head : Knows 1 0 (stretch_at true false)
template-head t s e = of-kind t (Read (kinds.Template s.cooked s.raw true false)) (stretch-means true false s t e).0 (refl, refl, refl)

pub template-middle : Knows 0 0 (stretch_at false false)
template-middle t s e = of-kind t (Read (kinds.Template s.cooked s.raw false false)) (stretch-means false false s t e).0 (refl, refl, refl)

pub template-tail : Knows 0 1 (stretch_at false true)
template-tail t s e = of-kind t (Read (kinds.Template s.cooked s.raw false true)) (stretch-means false true s t e).0 (refl, refl, refl)

-- ## Operators

of-unary : (op : UnaryOperator) → Groups 0 0 (Read (unary_kind op))
of-unary unaries.Delete = (refl, refl, refl)
of-unary unaries.Void = (refl, refl, refl)
of-unary unaries.Typeof = (refl, refl, refl)
of-unary unaries.Plus = (refl, refl, refl)
of-unary unaries.Minus = (refl, refl, refl)
of-unary unaries.BitNot = (refl, refl, refl)
of-unary unaries.Not = (refl, refl, refl)

pub unary-operator : Knows 0 0 unary_at
unary-operator t op e = of-kind t (Read (unary_kind op)) (unary-means op t e) (of-unary op)

of-update : (op : UpdateOperator) → Groups 0 0 (Read (update_kind op))
of-update IncrementBefore = (refl, refl, refl)
of-update DecrementBefore = (refl, refl, refl)
of-update IncrementAfter = (refl, refl, refl)
of-update DecrementAfter = (refl, refl, refl)

pub update-before : Knows 0 0 before_at
update-before t op e = of-kind t (Read (update_kind op)) (before-means op t e).0 (of-update op)

pub update-after : Knows 0 0 after_at
update-after t op e = of-kind t (Read (update_kind op)) (after-means op t e).0 (of-update op)

of-assign : (op : AssignOperator) → Groups 0 0 (Read (assign_kind op))
of-assign assign.Assign = (refl, refl, refl)
of-assign assign.MultiplyAssign = (refl, refl, refl)
of-assign assign.DivideAssign = (refl, refl, refl)
of-assign assign.RemainderAssign = (refl, refl, refl)
of-assign assign.AddAssign = (refl, refl, refl)
of-assign assign.SubtractAssign = (refl, refl, refl)
of-assign assign.ShiftLeftAssign = (refl, refl, refl)
of-assign assign.ShiftRightAssign = (refl, refl, refl)
of-assign assign.ShiftRightUnsignedAssign = (refl, refl, refl)
of-assign assign.BitAndAssign = (refl, refl, refl)
of-assign assign.BitXorAssign = (refl, refl, refl)
of-assign assign.BitOrAssign = (refl, refl, refl)
of-assign assign.PowerAssign = (refl, refl, refl)

pub assign-operator : Knows 0 0 assign_at
assign-operator t op e = of-kind t (Read (assign_kind op)) (assign-means op t e) (of-assign op)

of-binary : (op : BinaryOperator) → Groups 0 0 (Read (binary_kind op))
of-binary binary.Or = (refl, refl, refl)
of-binary binary.And = (refl, refl, refl)
of-binary binary.BitOr = (refl, refl, refl)
of-binary binary.BitXor = (refl, refl, refl)
of-binary binary.BitAnd = (refl, refl, refl)
of-binary binary.Equal = (refl, refl, refl)
of-binary binary.NotEqual = (refl, refl, refl)
of-binary binary.Same = (refl, refl, refl)
of-binary binary.NotSame = (refl, refl, refl)
of-binary binary.Less = (refl, refl, refl)
of-binary binary.Greater = (refl, refl, refl)
of-binary binary.AtMost = (refl, refl, refl)
of-binary binary.AtLeast = (refl, refl, refl)
of-binary binary.InstanceOf = (refl, refl, refl)
of-binary binary.In = (refl, refl, refl)
of-binary binary.ShiftLeft = (refl, refl, refl)
of-binary binary.ShiftRight = (refl, refl, refl)
of-binary binary.ShiftRightUnsigned = (refl, refl, refl)
of-binary binary.Add = (refl, refl, refl)
of-binary binary.Subtract = (refl, refl, refl)
of-binary binary.Multiply = (refl, refl, refl)
of-binary binary.Divide = (refl, refl, refl)
of-binary binary.Remainder = (refl, refl, refl)

pub binary-operator : (f : Flags) (level : ℕ) → Knows 0 0 (binary_at f level)
binary-operator f level t op e = of-kind t (Read (binary_kind op)) (binary-means f level op t e).0 (of-binary op)

pub arrow : Knows 0 0 arrow_at
arrow t u e = of-kind t (Read (kinds.Punctuator marks.Arrow)) (arrow-means t u e).0 (refl, refl, refl)

pub line-star : Knows 0 0 star_at
line-star t u e = by-line t.newline e
  where
    by-line : (b : Bool) → cond b None (mark marks.Star t) ≡ Some u → Groups 0 0 t.kind
    by-line true h = absurd (cc)
    by-line false h = a-star t u h

pub kind-word : Knows 0 0 kind_at
kind-word t kind e = of-kind t (Read (kinds.Word (kind_word kind))) (kind-means kind t e) (refl, refl, refl)

pub lexical-word : Knows 0 0 lexical_kind_at
lexical-word t kind e = of-kind t (Read (kinds.Word (kind_word kind))) (lexical-kind-means kind t e).0 (refl, refl, refl)

-- ## Semicolons

of-end : (do_while : Bool) (k : Filling) → ends do_while k ≡ true → Groups 0 0 k
of-end do_while (Read (kinds.Punctuator marks.Semicolon)) h = (refl, refl, refl)
of-end do_while (Inserted other) h = (refl, refl, refl)
of-end do_while (Read k) h = absurd (cc)

pub statement-end : Knows 0 0 (ending false)
statement-end t u e = of-end false t.kind (ending-means t u e)

pub do-while-end : Knows 0 0 (ending true)
do-while-end t u e = of-end true t.kind (do-while-ending-means t u e)
