-- The punctuators (ECMA-262, 5.1 edition, 7.7) and how the longest of them is found.
use Rattle.std.specs.Prelude.{ℕ, ◌+◌, ◌==◌, List, [], ◌∷◌, Option, None, Some, drop, slice_index, codes, if◌then◌else◌}
use Rattle.es5_tokens.specs.declared.token.Punctuator.{Punctuator}
use Rattle.es5_tokens.specs.declared.token.Punctuator.TheVariants.{LeftBrace, RightBrace, LeftParenthesis, RightParenthesis, LeftBracket, RightBracket, Dot, Semicolon, Comma, LessThan, GreaterThan, LessOrEqual, GreaterOrEqual, Equals, NotEquals, StrictEquals, StrictNotEquals, Plus, Minus, Star, Percent, PlusPlus, MinusMinus, ShiftLeft, ShiftRight, ShiftRightUnsigned, Ampersand, Bar, Caret, Exclamation, Tilde, AmpersandAmpersand, BarBar, Question, Colon, Assign, PlusAssign, MinusAssign, StarAssign, PercentAssign, ShiftLeftAssign, ShiftRightAssign, ShiftRightUnsignedAssign, AmpersandAssign, BarAssign, CaretAssign, Slash, SlashAssign}
use Rattle.es5_tokens.specs.declared.token.TokenKind.TheVariants as kinds
use Rattle.es5_tokens.specs.declared.token.TokenFault.TheVariants.{Lexical}
use Rattle.es5_tokens.specs.declared.shape.Element.{Element}
use Rattle.es5_tokens.specs.declared.shape.Element.TheVariants.{Take, Stop}

-- how each punctuator is written
abbrev pub spelling : Punctuator → List ℕ
spelling LeftBrace = codes "{"
spelling RightBrace = codes "}"
spelling LeftParenthesis = codes "("
spelling RightParenthesis = codes ")"
spelling LeftBracket = codes "["
spelling RightBracket = codes "]"
spelling Dot = codes "."
spelling Semicolon = codes ";"
spelling Comma = codes ","
spelling LessThan = codes "<"
spelling GreaterThan = codes ">"
spelling LessOrEqual = codes "<="
spelling GreaterOrEqual = codes ">="
spelling Equals = codes "=="
spelling NotEquals = codes "!="
spelling StrictEquals = codes "==="
spelling StrictNotEquals = codes "!=="
spelling Plus = codes "+"
spelling Minus = codes "-"
spelling Star = codes "*"
spelling Slash = codes "/"
spelling Percent = codes "%"
spelling PlusPlus = codes "++"
spelling MinusMinus = codes "--"
spelling ShiftLeft = codes "<<"
spelling ShiftRight = codes ">>"
spelling ShiftRightUnsigned = codes ">>>"
spelling Ampersand = codes "&"
spelling Bar = codes "|"
spelling Caret = codes "^"
spelling Exclamation = codes "!"
spelling Tilde = codes "~"
spelling AmpersandAmpersand = codes "&&"
spelling BarBar = codes "||"
spelling Question = codes "?"
spelling Colon = codes ":"
spelling Assign = codes "="
spelling PlusAssign = codes "+="
spelling MinusAssign = codes "-="
spelling StarAssign = codes "*="
spelling SlashAssign = codes "/="
spelling PercentAssign = codes "%="
spelling ShiftLeftAssign = codes "<<="
spelling ShiftRightAssign = codes ">>="
spelling ShiftRightUnsignedAssign = codes ">>>="
spelling AmpersandAssign = codes "&="
spelling BarAssign = codes "|="
spelling CaretAssign = codes "^="

-- the punctuator beside a character in a list
abbrev pub beside : ℕ → List (ℕ × Punctuator) → Option Punctuator
beside c [] = None
beside c (row ∷ rows) = if c == row.0 then Some row.1 else beside c rows

-- the punctuators of one character
abbrev pub singles : List (ℕ × Punctuator)
singles =
    (123, LeftBrace) ∷ (125, RightBrace) ∷ (40, LeftParenthesis) ∷ (41, RightParenthesis) ∷ (91, LeftBracket) ∷ (93, RightBracket)
    ∷ (46, Dot) ∷ (59, Semicolon) ∷ (44, Comma) ∷ (60, LessThan) ∷ (62, GreaterThan) ∷ (61, Assign) ∷ (43, Plus) ∷ (45, Minus)
    ∷ (42, Star) ∷ (47, Slash) ∷ (37, Percent) ∷ (38, Ampersand) ∷ (124, Bar) ∷ (94, Caret) ∷ (33, Exclamation) ∷ (126, Tilde)
    ∷ (63, Question) ∷ (58, Colon) ∷ []

abbrev pub single : ℕ → Option Punctuator
single c = beside c singles

-- the punctuators of one character more
abbrev pub extensions : Punctuator → List (ℕ × Punctuator)
extensions LessThan = (61, LessOrEqual) ∷ (60, ShiftLeft) ∷ []
extensions GreaterThan = (61, GreaterOrEqual) ∷ (62, ShiftRight) ∷ []
extensions Assign = (61, Equals) ∷ []
extensions Plus = (43, PlusPlus) ∷ (61, PlusAssign) ∷ []
extensions Minus = (45, MinusMinus) ∷ (61, MinusAssign) ∷ []
extensions Star = (61, StarAssign) ∷ []
extensions Ampersand = (38, AmpersandAmpersand) ∷ (61, AmpersandAssign) ∷ []
extensions Bar = (124, BarBar) ∷ (61, BarAssign) ∷ []
extensions ShiftRight = (62, ShiftRightUnsigned) ∷ (61, ShiftRightAssign) ∷ []
extensions Slash = (61, SlashAssign) ∷ []
extensions Percent = (61, PercentAssign) ∷ []
extensions Caret = (61, CaretAssign) ∷ []
extensions Exclamation = (61, NotEquals) ∷ []
extensions Equals = (61, StrictEquals) ∷ []
extensions NotEquals = (61, StrictNotEquals) ∷ []
extensions ShiftLeft = (61, ShiftLeftAssign) ∷ []
extensions ShiftRightUnsigned = (61, ShiftRightUnsignedAssign) ∷ []
extensions _ = []

abbrev pub extended : Punctuator → ℕ → Option Punctuator
extended p c = beside c (extensions p)

-- the punctuators that have no other extension than by `=`
abbrev pub with_equals : Punctuator → Option Punctuator
with_equals Assign = Some Equals
with_equals Star = Some StarAssign
with_equals Slash = Some SlashAssign
with_equals Percent = Some PercentAssign
with_equals Caret = Some CaretAssign
with_equals Exclamation = Some NotEquals
with_equals Equals = Some StrictEquals
with_equals NotEquals = Some StrictNotEquals
with_equals ShiftLeft = Some ShiftLeftAssign
with_equals ShiftRightUnsigned = Some ShiftRightUnsignedAssign
with_equals _ = None

abbrev pub taken : Punctuator → ℕ → Element
taken p n = Take (kinds.Punctuator p) n

-- the longest punctuator that p, of n characters, and what follows spell
abbrev pub grown : Punctuator → ℕ → List ℕ → Element
grown p n [] = taken p n
grown p n (c ∷ cs) = elim (extended p c) [ None ↦ taken p n | Some q ↦ grown q (n + 1) cs ]

abbrev pub longest_from : Option Punctuator → List ℕ → Element
longest_from None cs = Stop Lexical 0
longest_from (Some p) cs = grown p 1 (drop 1 cs)

-- the longest punctuator at the front
abbrev pub punctuator_element : List ℕ → Element
punctuator_element cs = longest_from (single (slice_index cs 0)) cs
