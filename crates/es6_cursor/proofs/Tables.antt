-- The tables of operators are those of the grammar.
use Rattle.std.proofs.Common.{◌≡◌, ℕ, List, refl}
use Rattle.es6_lexer.specs.declared.token.Punctuator.{Punctuator}
use Rattle.es6_lexer.specs.declared.token.Punctuator.TheVariants.{LeftBrace}
use Rattle.es6_ast.specs.declared.operators.UpdateOperator.TheVariants.{IncrementBefore, DecrementBefore, IncrementAfter, DecrementAfter}
use Rattle.std.specs.Prelude.{◌∷◌, []}
use Rattle.es6_lexer.specs.declared.token.TokenKind.TheVariants as kinds
use Rattle.es6_ast.specs.declared.operators.VariableKind.TheVariants.{Var, Let, Const}
use Rattle.es6_ast.specs.Tokens.{Read}
use Rattle.es6_ast.specs.Grammar.{kind_word, unary_kind, update_kind, assign_kind, binary_kind}
use Rattle.es6_reading.specs.Words.{look_up, unary_operators, assign_operators, binary_operators}
use Rattle.es6_cursor.specs.Tables.{unary_mark, before_mark, after_mark, assign_mark, binary_mark, unary_word, binary_word, kind_word_of, lexical_word_of}

pub unary_marks : (p : Punctuator) → unary_mark p ≡ look_up unary_kind unary_operators (Read (kinds.Punctuator p))
unfolding unary_operators
unary_marks LeftBrace = refl
unary_marks _ = refl

pub before_marks : (p : Punctuator) → before_mark p ≡ look_up update_kind (IncrementBefore ∷ DecrementBefore ∷ []) (Read (kinds.Punctuator p))
before_marks LeftBrace = refl
before_marks _ = refl

pub after_marks : (p : Punctuator) → after_mark p ≡ look_up update_kind (IncrementAfter ∷ DecrementAfter ∷ []) (Read (kinds.Punctuator p))
after_marks LeftBrace = refl
after_marks _ = refl

pub assign_marks : (p : Punctuator) → assign_mark p ≡ look_up assign_kind assign_operators (Read (kinds.Punctuator p))
unfolding assign_operators
assign_marks LeftBrace = refl
assign_marks _ = refl

pub binary_marks : (p : Punctuator) → binary_mark p ≡ look_up binary_kind binary_operators (Read (kinds.Punctuator p))
unfolding binary_operators
binary_marks LeftBrace = refl
binary_marks _ = refl

pub unary_words : (name : List ℕ) → unary_word name ≡ look_up unary_kind unary_operators (Read (kinds.Word name))
unfolding unary_operators
unary_words name = refl

pub binary_words : (name : List ℕ) → binary_word name ≡ look_up binary_kind binary_operators (Read (kinds.Word name))
unfolding binary_operators
binary_words name = refl

pub kind_words : (name : List ℕ) → kind_word_of name ≡ look_up (λ kind. kinds.Word (kind_word kind)) (Var ∷ Let ∷ Const ∷ []) (Read (kinds.Word name))
kind_words name = refl

pub lexical_words : (name : List ℕ) → lexical_word_of name ≡ look_up (λ kind. kinds.Word (kind_word kind)) (Let ∷ Const ∷ []) (Read (kinds.Word name))
lexical_words name = refl
