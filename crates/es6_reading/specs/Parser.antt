-- What readers are made of. A reader takes tokens from the front of the input and gives a value, or stops at a fault.
-- Each choice is by the next token alone.
use Rattle.std.specs.Prelude.{ℕ, Bool, true, false, ◌||◌, List, [], ◌∷◌, Option, Some, None}
use Rattle.std.specs.Str.{bytes_eq}
use Rattle.es_text.specs.declared.Span.{Span}
use Rattle.es6_lexer.specs.declared.token.TokenKind.TheVariants as kinds
use Rattle.es6_lexer.specs.declared.token.NumberToken.TheVariants.{TooLarge, Marked}
use Rattle.es6_lexer.specs.declared.token.Punctuator.{Punctuator as Mark}
use Rattle.es6_lexer.specs.declared.token.Punctuator.TheVariants as marks
use Rattle.es6_lexer.specs.Punctuators.{spelling}
use Rattle.es6_ast.specs.declared.tree.Block.{Block}
use Rattle.es6_ast.specs.declared.tree.ClassMember.{ClassMember}
use Rattle.es6_ast.specs.declared.tree.Expression.{Expression}
use Rattle.es6_ast.specs.declared.tree.ObjectPart.{ObjectPart}
use Rattle.es6_ast.specs.declared.tree.Part.{Part}
use Rattle.es6_ast.specs.declared.tree.Pattern.{Pattern}
use Rattle.es6_ast.specs.declared.tree.Property.{Property}
use Rattle.es6_ast.specs.declared.tree.Statement.{Statement}
use Rattle.es6_ast.specs.declared.settings.Flags.{Flags}
use Rattle.es6_ast.specs.declared.settings.Stand.{Stand}
use Rattle.es6_ast.specs.declared.settings.Shape.{Shape}
use Rattle.es6_ast.specs.declared.settings.Shape.TheVariants.{Bare, Grouped, Covered, LeftHandSide, Other}
use Rattle.es6_ast.specs.declared.settings.Stop.{Stop}
use Rattle.es6_ast.specs.declared.settings.Stop.TheVariants.{Syntax, Lexical, Outside, Depth}
use Rattle.es6_ast.specs.Tokens.{Filling, Read, Inserted, Filled, is_word, begin_of}
use Rattle.es6_ast.specs.Grammar.{ends}
use Rattle.es6_ast.specs.Semicolons.{ends_group}

-- the tokens that are left, and the end of the last one that was taken
pub record Input : Type 0 where
  pub tokens : List Filled
  pub last : ℕ

-- what was read and the input after it, or a fault and the tokens from it on
pub data Outcome (A : Type 0) : Type 0 where
  Took : A → Input → Outcome A
  Fault : Stop → List Filled → Outcome A

abbrev pub Parser : Type 0 → Type 0
Parser A = Input → Outcome A

abbrev pub returns : {A : Type 0} → A → Parser A
returns x c = Took x c

abbrev pub fails : {A : Type 0} → Stop → Parser A
fails stop c = Fault stop c.tokens

abbrev pub after : {A B : Type 0} → Outcome A → (A → Parser B) → Outcome B
after (Took x c) q = q x c
after (Fault stop tokens) q = Fault stop tokens

abbrev pub ◌>>=◌ : {A B : Type 0} → Parser A → (A → Parser B) → Parser B
◌>>=◌ p q c = after (p c) q

abbrev pub ◌>>◌ : {A B : Type 0} → Parser A → Parser B → Parser B
◌>>◌ p q c = after (p c) (λ x. q)

-- ## Faults

-- what stops a reader at a token with which nothing goes on there
abbrev pub stop_in : Filling → Stop
stop_in (Read (kinds.Fault kind)) = Lexical kind
stop_in _ = Syntax

-- where a number may stand
abbrev pub number_stop_in : Filling → Stop
number_stop_in (Read (kinds.Number TooLarge)) = Outside 4
number_stop_in (Read (kinds.Number Marked)) = Outside 3
number_stop_in k = stop_in k

-- where an expression may begin: a regular expression is outside the profile
abbrev pub expression_stop_in : Filling → Stop
expression_stop_in (Read (kinds.Punctuator marks.Slash)) = Outside 2
expression_stop_in (Read (kinds.Punctuator marks.SlashAssign)) = Outside 2
expression_stop_in k = number_stop_in k

abbrev pub stop_at : (Filling → Stop) → List Filled → Stop
stop_at stop [] = Syntax
stop_at stop (t ∷ ts) = stop t.kind

-- Stops at the next token: where no number, a number, or an expression may stand.
unfoldable pub refused : {A : Type 0} → Parser A
refused c = Fault (stop_at stop_in c.tokens) c.tokens

unfoldable pub no_number : {A : Type 0} → Parser A
no_number c = Fault (stop_at number_stop_in c.tokens) c.tokens

unfoldable pub no_expression : {A : Type 0} → Parser A
no_expression c = Fault (stop_at expression_stop_in c.tokens) c.tokens

-- ## Choices

-- takes the next token if it is one of those that the test knows, and goes on by what the test makes of it
abbrev pub on_taken : {A B : Type 0} → Option B → Filled → List Filled → (B → Parser A) → Parser A → Parser A
on_taken (Some x) t ts p q c = p x (record { tokens = ts; last = t.span.end })
on_taken None t ts p q c = q c

abbrev pub on_next : {A B : Type 0} → (Filled → Option B) → (B → Parser A) → Parser A → List Filled → Parser A
on_next test p q [] c = q c
on_next test p q (t ∷ ts) c = on_taken (test t) t ts p q c

abbrev pub on : {A B : Type 0} → (Filled → Option B) → (B → Parser A) → Parser A → Parser A
on test p q c = on_next test p q c.tokens c

-- looks at the next token and takes nothing
abbrev pub choose : {A : Type 0} → Bool → Parser A → Parser A → Parser A
choose true p q c = p c
choose false p q c = q c

abbrev pub next_is : (Filled → Bool) → List Filled → Bool
next_is test [] = false
next_is test (t ∷ ts) = test t

abbrev pub if_next : {A : Type 0} → (Filled → Bool) → Parser A → Parser A → Parser A
if_next test p q c = choose (next_is test c.tokens) p q c

-- takes a token that the test knows
abbrev pub take_as : {B : Type 0} → (Filled → Option B) → Parser B
take_as test = on test (λ x. returns x) refused

-- ## Tests

abbrev pub kept_if : Bool → Filled → Option Filled
kept_if true t = Some t
kept_if false t = None

-- tokens are compared by what they spell
abbrev pub is_mark : Mark → Filling → Bool
is_mark p (Read (kinds.Punctuator q)) = bytes_eq (spelling q) (spelling p)
is_mark p _ = false

abbrev pub mark : Mark → Filled → Option Filled
mark p t = kept_if (is_mark p t.kind) t

abbrev pub word : List ℕ → Filled → Option Filled
word w t = kept_if (is_word w t.kind) t

abbrev pub next_mark : Mark → Filled → Bool
next_mark p t = is_mark p t.kind

abbrev pub next_word : List ℕ → Filled → Bool
next_word w t = is_word w t.kind

-- ## Places

-- the begin of the next token
abbrev pub from : {A : Type 0} → (ℕ → Parser A) → Parser A
from p c = p (begin_of c.tokens) c

-- the end of the last token that was taken
abbrev pub last_end : Parser ℕ
last_end c = Took c.last c

-- what is made of the span that goes from there to the last token that was taken
abbrev pub made : {A : Type 0} → ℕ → (Span → A) → Parser A
made at make c = Took (make (record { begin = at; end = c.last })) c

-- ## Readers of what stands one construct deeper

pub record Reading : Type 0 where
  pub value : Expression
  pub shape : Shape

abbrev pub is_left : Shape → Bool
is_left Bare = true
is_left Grouped = true
is_left Covered = false
is_left LeftHandSide = true
is_left Other = false

abbrev pub is_covered : Shape → Bool
is_covered Bare = false
is_covered Grouped = false
is_covered Covered = true
is_covered LeftHandSide = false
is_covered Other = false

-- How a reader is set: whether it inserts semicolons, how many turns a loop has, whether one more construct may open, and
-- the readers for what stands inside that construct. Their marks are the grammar's.
pub record Inner : Type 0 where
  pub inserting : Bool
  pub fuel : ℕ
  pub may_open : Bool
  pub sequence : Flags → Parser Reading
  pub assignment : Flags → Parser Reading
  pub power : Flags → Parser Reading
  pub unary : Flags → Parser Reading
  pub callee : Flags → Parser Reading
  pub heritage : Flags → Parser Reading
  pub block : Flags → Parser Block
  pub property : Flags → Parser Property
  pub target : Flags → Parser Pattern
  pub part : Flags → Parser Part
  pub object_part : Flags → Parser ObjectPart
  pub variable : Flags → Parser Part
  pub member : Flags → Parser ClassMember
  pub statement : Flags → Stand → Parser Statement

-- takes an opening mark and goes on inside the construct that it opens
abbrev pub on_group : {A : Type 0} → Inner → Mark → Parser A → Parser A → Parser A
on_group i p inside otherwise = if_next (next_mark p) (choose i.may_open (on (mark p) (λ t. inside) otherwise) (fails Depth)) otherwise

abbrev pub group : {A : Type 0} → Inner → Mark → Parser A → Parser A
group i p inside = on_group i p inside refused

-- ## Semicolons (11.9)

-- whether a semicolon may be inserted before these tokens
abbrev pub ends_block : Filling → Bool
ends_block (Read k) = ends_group k
ends_block (Inserted do_while) = false

abbrev pub is_insertable : List Filled → Bool
is_insertable [] = false
is_insertable (t ∷ ts) = t.newline || ends_block t.kind

abbrev pub inserts : Parser (Unit {0})
inserts c = choose (is_insertable c.tokens) (returns tt) refused c

abbrev pub ending : Bool → Filled → Option Filled
ending do_while t = kept_if (ends do_while t.kind) t

-- The semicolon that ends a statement. Where one is inserted, nothing is taken.
unfoldable pub semicolon : Inner → Parser (Unit {0})
semicolon i = on (ending false) (λ t. returns tt) (choose i.inserting inserts refused)

-- the one that ends a do-while, which is inserted before any token
abbrev pub inserts_anywhere : Parser (Unit {0})
inserts_anywhere = if_next (λ t. true) (returns tt) refused

unfoldable pub semicolon_of_do_while : Inner → Parser (Unit {0})
semicolon_of_do_while i = on (ending true) (λ t. returns tt) (choose i.inserting inserts_anywhere refused)
