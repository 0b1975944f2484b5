-- What readers are made of. A reader takes tokens from the front of the input and gives a value, or stops at a fault.
-- Each choice is by the next token alone.
use Rattle.std.specs.Prelude.{ℕ, Bool, true, false, ◌||◌, List, [], ◌∷◌, Option, Some, None, codes}
use Rattle.es_text.specs.declared.Span.{Span}
use Rattle.es5_ast.specs.declared.tree.Property5.{Property5}
use Rattle.es5_ast.specs.declared.tree.Declared5.{Declared5}
use Rattle.es5_ast.specs.declared.tree.Expr5.{Expr5}
use Rattle.es5_ast.specs.declared.tree.Stat5.{Stat5}
use Rattle.es5_ast.specs.Lexical.{Token5}
use Rattle.es5_ast.specs.Grammar.{is_word, is_mark, ends, begin_of}

-- the tokens that are left, and the end of the last one that was taken
pub record Input5 : Type 0 where
  pub tokens : List Token5
  pub last : ℕ

-- What stops a reader: no script goes on so, one construct too many opens, a rule of the profile, or a loop that has used
-- up its turns, which no text of the allowed length makes happen.
pub data Stop5 : Type 0 where
  Syntax : Stop5
  Depth : Stop5
  Outside : ℕ → Stop5
  Endless : Stop5

-- what was read and the input after it, or a fault and the tokens from it on
pub data Outcome5 (A : Type 0) : Type 0 where
  Took : A → Input5 → Outcome5 A
  Fault : Stop5 → List Token5 → Outcome5 A

abbrev pub Parser : Type 0 → Type 0
Parser A = Input5 → Outcome5 A

abbrev pub returns : {A : Type 0} → A → Parser A
returns x c = Took x c

abbrev pub fails : {A : Type 0} → Stop5 → Parser A
fails stop c = Fault stop c.tokens

abbrev pub after : {A B : Type 0} → Outcome5 A → (A → Parser B) → Outcome5 B
after (Took x c) q = q x c
after (Fault stop tokens) q = Fault stop tokens

abbrev pub ◌>>=◌ : {A B : Type 0} → Parser A → (A → Parser B) → Parser B
◌>>=◌ p q c = after (p c) q

abbrev pub ◌>>◌ : {A B : Type 0} → Parser A → Parser B → Parser B
◌>>◌ p q c = after (p c) (λ x. q)

-- ## Choices

-- takes the next token if it is one of those that the test knows, and goes on by what the test makes of it
abbrev pub on_taken : {A B : Type 0} → Option B → Token5 → List Token5 → (B → Parser A) → Parser A → Parser A
on_taken (Some x) t ts p q c = p x (record { tokens = ts; last = t.end })
on_taken None t ts p q c = q c

abbrev pub on_next : {A B : Type 0} → (Token5 → Option B) → (B → Parser A) → Parser A → List Token5 → Parser A
on_next test p q [] c = q c
on_next test p q (t ∷ ts) c = on_taken (test t) t ts p q c

abbrev pub on : {A B : Type 0} → (Token5 → Option B) → (B → Parser A) → Parser A → Parser A
on test p q c = on_next test p q c.tokens c

-- looks at the next token and takes nothing
abbrev pub choose : {A : Type 0} → Bool → Parser A → Parser A → Parser A
choose true p q c = p c
choose false p q c = q c

abbrev pub next_is : (Token5 → Bool) → List Token5 → Bool
next_is test [] = false
next_is test (t ∷ ts) = test t

abbrev pub if_next : {A : Type 0} → (Token5 → Bool) → Parser A → Parser A → Parser A
if_next test p q c = choose (next_is test c.tokens) p q c

-- takes a token that the test knows
abbrev pub take_as : {B : Type 0} → (Token5 → Option B) → Parser B
take_as test = on test (λ x. returns x) (fails Syntax)

-- ## Tests

abbrev pub kept_if : Bool → Token5 → Option Token5
kept_if true t = Some t
kept_if false t = None

abbrev pub mark : List ℕ → Token5 → Option Token5
mark p t = kept_if (is_mark p t.kind) t

abbrev pub word : List ℕ → Token5 → Option Token5
word w t = kept_if (is_word w t.kind) t

abbrev pub next_mark : List ℕ → Token5 → Bool
next_mark p t = is_mark p t.kind

abbrev pub next_word : List ℕ → Token5 → Bool
next_word w t = is_word w t.kind

-- ## Places

-- the begin of the next token
abbrev pub from : {A : Type 0} → (ℕ → Parser A) → Parser A
from p c = p (begin_of c.tokens) c

-- what is made of the span that goes from there to the last token that was taken
abbrev pub made : {A : Type 0} → ℕ → (Span → A) → Parser A
made at make c = Took (make (record { begin = at; end = c.last })) c

-- ## Readers of what stands one construct deeper

-- What an expression is besides its tree: an identifier and nothing round it, another left-hand-side expression (11.2), or
-- none of these.
pub data Shape5 : Type 0 where
  Bare : Shape5
  LeftHandSide : Shape5
  Other : Shape5

pub record Read5 : Type 0 where
  pub value : Expr5
  pub shape : Shape5

abbrev pub is_left : Shape5 → Bool
is_left Bare = true
is_left LeftHandSide = true
is_left Other = false

-- How a reader is set: whether it inserts semicolons, how many turns a loop has, whether one more construct may open, and
-- the readers for what stands inside that construct. The first mark of an expression says that it has no `in`; those of a
-- statement are the grammar's.
pub record Inner5 : Type 0 where
  pub inserting : Bool
  pub fuel : ℕ
  pub may_open : Bool
  pub sequence : Bool → Parser Read5
  pub assignment : Bool → Parser Read5
  pub unary : Parser Read5
  pub callee : Parser Read5
  pub property : Parser Property5
  pub declared : Bool → Parser Declared5
  pub statement : Bool → Bool → Parser Stat5

-- takes an opening mark and goes on inside the construct that it opens
abbrev pub on_group : {A : Type 0} → Inner5 → List ℕ → Parser A → Parser A → Parser A
on_group i p inside otherwise = if_next (next_mark p) (choose i.may_open (on (mark p) (λ t. inside) otherwise) (fails Depth)) otherwise

abbrev pub group : {A : Type 0} → Inner5 → List ℕ → Parser A → Parser A
group i p inside = on_group i p inside (fails Syntax)

-- ## Semicolons (7.9)

-- whether a semicolon may be inserted before these tokens
abbrev pub is_insertable : List Token5 → Bool
is_insertable [] = true
is_insertable (t ∷ ts) = t.after_line || is_mark (codes "}") t.kind

abbrev pub inserts : Parser (Unit {0})
inserts c = choose (is_insertable c.tokens) (returns tt) (fails Syntax) c

abbrev pub ending : Token5 → Option Token5
ending t = kept_if (ends t.kind) t

-- The semicolon that ends a statement. Where one is inserted, nothing is taken.
unfoldable pub semicolon : Inner5 → Parser (Unit {0})
semicolon i = on ending (λ t. returns tt) (choose i.inserting inserts (fails Syntax))
