-- The tokens of what is written, wherever they stand: for each number of pieces that follow a token, a `Spot` says where it
-- begins and ends, and for a marked call, whether its line is broken before it.
use Rattle.std.proofs.Common.{◌≡◌, ℕ, ◌≤◌, Bool, true, false, ◌||◌, not, List, [], ◌∷◌, length, refl, sym, ap, subst, ◌∙◌}
use Rattle.std.specs.Prelude.{codes, nat_lt}
use Rattle.std.specs.List.{Contains, list_all}
use Rattle.std.specs.Str.{bytes_eq}
use Rattle.std.proofs.lemmas.Slice.Eq.{bytes_eq-Decides}
use Rattle.std.proofs.lemmas.Bool.{false≢true}
use Rattle.es_outside.specs.declared.events.Site.{Site}
use Rattle.es5_ast.specs.declared.operators.UnaryOperator5.{UnaryOperator5}
use Rattle.es5_ast.specs.declared.operators.UnaryOperator5.TheVariants.{Delete, Void, Typeof, Plus, Minus, BitNot, Not}
use Rattle.es5_ast.specs.declared.operators.UpdateOperator5.{UpdateOperator5}
use Rattle.es5_ast.specs.declared.operators.UpdateOperator5.TheVariants.{IncrementBefore, DecrementBefore, IncrementAfter, DecrementAfter}
use Rattle.es5_ast.specs.declared.operators.BinaryOperator5.{BinaryOperator5}
use Rattle.es5_ast.specs.declared.operators.BinaryOperator5.TheVariants as binary
use Rattle.es5_ast.specs.declared.operators.AssignOperator5.{AssignOperator5}
use Rattle.es5_ast.specs.declared.operators.AssignOperator5.TheVariants as assign
use Rattle.es5_ast.specs.declared.operators.Literal5.{Literal5}
use Rattle.es5_ast.specs.declared.operators.Literal5.TheVariants as literals
use Rattle.es5_ast.specs.declared.operators.Key5.{Key5}
use Rattle.es5_ast.specs.declared.operators.Key5.TheVariants as keys
use Rattle.es5_ast.specs.Lexical.{Kind5, Word, Integer, Text, Punctuator, Inserted, Token5, is_one_of, is_identifier_name, punctuators, reserved_words}
use Rattle.es5_ast.specs.Grammar.{begin_of, is_identifier, literal_kind, key_kind, unary_kind, update_kind, binary_kind, assign_kind}
use Rattle.es5_printer.specs.Pieces.{Piece, Lexeme, Begins, LineEnd}

pub record Spot : Type 0 where
  pub begin : ℕ
  pub end : ℕ
  pub broken : Bool

abbrev pub Spots : Type 0
Spots = ℕ → Spot

abbrev pub tokens : Spots → Bool → List Piece → List Token5
tokens spots line [] = []
tokens spots line (Lexeme kind ∷ ps) = record { begin = (spots (length ps)).begin; end = (spots (length ps)).end; after_line = line; kind = kind } ∷ tokens spots false ps
tokens spots line (Begins site ∷ ps) = tokens spots (line || (spots (length ps)).broken) ps
tokens spots line (LineEnd ∷ ps) = tokens spots true ps

-- each call with a site is in the list, with the place of its first token
abbrev pub AreMarked : Spots → List (ℕ × Site) → List Piece → Type 0
AreMarked spots marks [] = Unit {0}
AreMarked spots marks (Lexeme kind ∷ ps) = AreMarked spots marks ps
AreMarked spots marks (Begins site ∷ ps) = Contains marks (begin_of (tokens spots false ps), site) × AreMarked spots marks ps
AreMarked spots marks (LineEnd ∷ ps) = AreMarked spots marks ps

-- a token of a text has a kind that characters spell
abbrev pub IsSpelled : Kind5 → Type 0
IsSpelled (Word name) = is_identifier_name name ≡ true
IsSpelled (Integer value) = value ≤ 9007199254740991
IsSpelled (Text units) = list_all (λ u. nat_lt u 65536) units ≡ true
IsSpelled (Punctuator p) = is_one_of p punctuators ≡ true
IsSpelled Inserted = ⊥

-- the same, or the token is inserted
abbrev pub IsKnown : Kind5 → Type 0
IsKnown (Word name) = is_identifier_name name ≡ true
IsKnown (Integer value) = value ≤ 9007199254740991
IsKnown (Text units) = list_all (λ u. nat_lt u 65536) units ≡ true
IsKnown (Punctuator p) = is_one_of p punctuators ≡ true
IsKnown Inserted = Unit {0}

abbrev pub AreKnown : List Token5 → Type 0
AreKnown [] = Unit {0}
AreKnown (t ∷ ts) = IsKnown t.kind × AreKnown ts

-- whether a token comes first
abbrev pub is_token_first : List Piece → Bool
is_token_first [] = false
is_token_first (Lexeme kind ∷ ps) = true
is_token_first (Begins site ∷ ps) = false
is_token_first (LineEnd ∷ ps) = false

-- Characters spell each token, each mark stands before a token, and a line ends last. The flag says that a line has just
-- ended.
abbrev pub AreSpelled : Bool → List Piece → Type 0
AreSpelled true [] = Unit {0}
AreSpelled false [] = ⊥
AreSpelled ended (Lexeme kind ∷ ps) = IsSpelled kind × AreSpelled false ps
AreSpelled ended (Begins site ∷ ps) = (is_token_first ps ≡ true) × AreSpelled false ps
AreSpelled ended (LineEnd ∷ ps) = AreSpelled true ps

pub after_line : (ps : List Piece) → AreSpelled false ps → AreSpelled true ps
after_line [] q = absurd q
after_line (Lexeme kind ∷ ps) q = q
after_line (Begins site ∷ ps) q = q
after_line (LineEnd ∷ ps) q = q

pub known_word : (t : Token5) (name : List ℕ) → t.kind ≡ Word name → IsKnown t.kind → is_identifier_name name ≡ true
known_word t name e k = subst IsKnown e k

known_literal : (value : Literal5) → IsKnown (literal_kind value) → IsSpelled (literal_kind value)
known_literal literals.Null k = k
known_literal (literals.Truth true) k = k
known_literal (literals.Truth false) k = k
known_literal (literals.Integer value) k = k
known_literal (literals.Text units) k = k

pub literal_spelled : (t : Token5) (value : Literal5) → t.kind ≡ literal_kind value → IsKnown t.kind → IsSpelled (literal_kind value)
literal_spelled t value e k = known_literal value (subst IsKnown e k)

known_key : (key : Key5) → IsKnown (key_kind key) → IsSpelled (key_kind key)
known_key (keys.WordKey name) k = k
known_key (keys.TextKey units) k = k
known_key (keys.IntegerKey value) k = k

pub key_spelled : (t : Token5) (key : Key5) → t.kind ≡ key_kind key → IsKnown t.kind → IsSpelled (key_kind key)
key_spelled t key e k = known_key key (subst IsKnown e k)

pub unary_spelled : (op : UnaryOperator5) → IsSpelled (unary_kind op)
unfolding punctuators
unary_spelled Delete = refl
unary_spelled Void = refl
unary_spelled Typeof = refl
unary_spelled Plus = refl
unary_spelled Minus = refl
unary_spelled BitNot = refl
unary_spelled Not = refl

pub update_spelled : (op : UpdateOperator5) → IsSpelled (update_kind op)
unfolding punctuators
update_spelled IncrementBefore = refl
update_spelled DecrementBefore = refl
update_spelled IncrementAfter = refl
update_spelled DecrementAfter = refl

pub binary_spelled : (op : BinaryOperator5) → IsSpelled (binary_kind op)
unfolding punctuators
binary_spelled binary.Or = refl
binary_spelled binary.And = refl
binary_spelled binary.BitOr = refl
binary_spelled binary.BitXor = refl
binary_spelled binary.BitAnd = refl
binary_spelled binary.Equal = refl
binary_spelled binary.NotEqual = refl
binary_spelled binary.Same = refl
binary_spelled binary.NotSame = refl
binary_spelled binary.Less = refl
binary_spelled binary.Greater = refl
binary_spelled binary.AtMost = refl
binary_spelled binary.AtLeast = refl
binary_spelled binary.InstanceOf = refl
binary_spelled binary.In = refl
binary_spelled binary.ShiftLeft = refl
binary_spelled binary.ShiftRight = refl
binary_spelled binary.ShiftRightUnsigned = refl
binary_spelled binary.Add = refl
binary_spelled binary.Subtract = refl
binary_spelled binary.Multiply = refl
binary_spelled binary.Divide = refl
binary_spelled binary.Remainder = refl

pub assign_spelled : (op : AssignOperator5) → IsSpelled (assign_kind op)
unfolding punctuators
assign_spelled assign.Assign = refl
assign_spelled assign.MultiplyAssign = refl
assign_spelled assign.DivideAssign = refl
assign_spelled assign.RemainderAssign = refl
assign_spelled assign.AddAssign = refl
assign_spelled assign.SubtractAssign = refl
assign_spelled assign.ShiftLeftAssign = refl
assign_spelled assign.ShiftRightAssign = refl
assign_spelled assign.ShiftRightUnsignedAssign = refl
assign_spelled assign.BitAndAssign = refl
assign_spelled assign.BitXorAssign = refl
assign_spelled assign.BitOrAssign = refl

-- the punctuators that are written for the nodes themselves
pub record Signs : Type 0 where
  pub left_paren : is_one_of (codes "(") punctuators ≡ true
  pub right_paren : is_one_of (codes ")") punctuators ≡ true
  pub left_bracket : is_one_of (codes "[") punctuators ≡ true
  pub right_bracket : is_one_of (codes "]") punctuators ≡ true
  pub left_brace : is_one_of (codes "{") punctuators ≡ true
  pub right_brace : is_one_of (codes "}") punctuators ≡ true
  pub point : is_one_of (codes ".") punctuators ≡ true
  pub comma : is_one_of (codes ",") punctuators ≡ true
  pub semicolon : is_one_of (codes ";") punctuators ≡ true
  pub colon : is_one_of (codes ":") punctuators ≡ true
  pub question : is_one_of (codes "?") punctuators ≡ true
  pub equals : is_one_of (codes "=") punctuators ≡ true

pub sign : Signs
unfolding punctuators
sign = record { left_paren = refl; right_paren = refl; left_bracket = refl; right_bracket = refl; left_brace = refl; right_brace = refl; point = refl; comma = refl; semicolon = refl; colon = refl; question = refl; equals = refl }

pub or_false : (a b : Bool) → (a || b) ≡ false → (a ≡ false) × (b ≡ false)
or_false false b e = (refl, e)
or_false true b e = (e, absurd (false≢true (sym e)))

equal_bytes : (xs ys : List ℕ) → bytes_eq xs ys ≡ true → xs ≡ ys
equal_bytes xs ys e = (bytes_eq-Decides xs ys).0 e

differs_by : (name w v : List ℕ) (b : Bool) → bytes_eq w v ≡ b → bytes_eq name v ≡ false → (bytes_eq w v ≡ false → bytes_eq name w ≡ false) → bytes_eq name w ≡ false
differs_by name w v true e d later = subst (λ z. bytes_eq name z ≡ false) (sym (equal_bytes w v e)) d
differs_by name w v false e d later = later e

-- a name that is none of some words differs from each of them
pub differs : (name w : List ℕ) (ws : List (List ℕ)) → is_one_of w ws ≡ true → is_one_of name ws ≡ false → bytes_eq name w ≡ false
differs name w [] m free = absurd (false≢true m)
differs name w (v ∷ ws) m free =
    let (here, there) = or_false (bytes_eq name v) (is_one_of name ws) free in
    differs_by name w v (bytes_eq w v) refl here (λ e. differs name w ws (sym (ap (λ b. b || is_one_of w ws) e) ∙ m) there)

not_true : (b : Bool) → not b ≡ true → b ≡ false
not_true true e = sym e
not_true false e = refl

-- an identifier is no reserved word
pub free_else : (name : List ℕ) → is_identifier name ≡ true → bytes_eq name (codes "else") ≡ false
unfolding reserved_words
free_else name i = differs name (codes "else") reserved_words refl (not_true (is_one_of name reserved_words) i)

pub free_if : (name : List ℕ) → is_identifier name ≡ true → bytes_eq name (codes "if") ≡ false
unfolding reserved_words
free_if name i = differs name (codes "if") reserved_words refl (not_true (is_one_of name reserved_words) i)
