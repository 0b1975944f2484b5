-- The punctuator that is the longest spelled in front is read.
use Rattle.std.proofs.Common.{◌≡◌, ℕ, ◌≤◌, List, ◌++◌, length, refl, sym, ap, ◌∙◌, arith}
use Rattle.es6_lexer.specs.declared.token.Punctuator.{Punctuator}
use Rattle.es6_lexer.specs.declared.token.Punctuator.TheVariants.{LeftBrace, RightBrace, LeftParenthesis, RightParenthesis, LeftBracket, RightBracket, Dot, Ellipsis, Semicolon, Comma, LessThan, GreaterThan, LessOrEqual, GreaterOrEqual, Equals, NotEquals, StrictEquals, StrictNotEquals, Plus, Minus, Star, Slash, Percent, StarStar, PlusPlus, MinusMinus, ShiftLeft, ShiftRight, ShiftRightUnsigned, Ampersand, Bar, Caret, Exclamation, Tilde, AmpersandAmpersand, BarBar, Question, Colon, Assign, PlusAssign, MinusAssign, StarAssign, SlashAssign, PercentAssign, StarStarAssign, ShiftLeftAssign, ShiftRightAssign, ShiftRightUnsignedAssign, AmpersandAssign, BarAssign, CaretAssign, Arrow}
use Rattle.es6_lexer.specs.declared.shape.Element.{Element}
use Rattle.es6_lexer.specs.declared.shape.Element.TheVariants.{Finished, Skip, Take, Stop}
use Rattle.es6_lexer.specs.declared.shape.Shape.TheVariants.{OfWord, OfPunctuator, OfNumber, OfText, OfTemplate}
use Rattle.std.proofs.lemmas.List.{take_at}
use Rattle.std.specs.Prelude.{take}
use Rattle.es6_lexer.specs.Punctuators.{spelling, punctuator_element}
use Rattle.lexical_grammar.specs.Grammar.{IsPunctuator}
use Rattle.lexical_grammar.proofs.PunctuatorLemmas.{punctuator_is}

-- a spelling alone is read as its punctuator
reads_alone : (p : Punctuator) → punctuator_element (spelling p) ≡ Take (OfPunctuator p) (length (spelling p))
reads_alone LeftBrace = refl
reads_alone RightBrace = refl
reads_alone LeftParenthesis = refl
reads_alone RightParenthesis = refl
reads_alone LeftBracket = refl
reads_alone RightBracket = refl
reads_alone Dot = refl
reads_alone Ellipsis = refl
reads_alone Semicolon = refl
reads_alone Comma = refl
reads_alone LessThan = refl
reads_alone GreaterThan = refl
reads_alone LessOrEqual = refl
reads_alone GreaterOrEqual = refl
reads_alone Equals = refl
reads_alone NotEquals = refl
reads_alone StrictEquals = refl
reads_alone StrictNotEquals = refl
reads_alone Plus = refl
reads_alone Minus = refl
reads_alone Star = refl
reads_alone Slash = refl
reads_alone Percent = refl
reads_alone StarStar = refl
reads_alone PlusPlus = refl
reads_alone MinusMinus = refl
reads_alone ShiftLeft = refl
reads_alone ShiftRight = refl
reads_alone ShiftRightUnsigned = refl
reads_alone Ampersand = refl
reads_alone Bar = refl
reads_alone Caret = refl
reads_alone Exclamation = refl
reads_alone Tilde = refl
reads_alone AmpersandAmpersand = refl
reads_alone BarBar = refl
reads_alone Question = refl
reads_alone Colon = refl
reads_alone Assign = refl
reads_alone PlusAssign = refl
reads_alone MinusAssign = refl
reads_alone StarAssign = refl
reads_alone SlashAssign = refl
reads_alone PercentAssign = refl
reads_alone StarStarAssign = refl
reads_alone ShiftLeftAssign = refl
reads_alone ShiftRightAssign = refl
reads_alone ShiftRightUnsignedAssign = refl
reads_alone AmpersandAssign = refl
reads_alone BarAssign = refl
reads_alone CaretAssign = refl
reads_alone Arrow = refl

same_spelling : (p q : Punctuator) → spelling p ≡ spelling q → p ≡ q
same_spelling p q e = let a = reads_alone p in let b = reads_alone q in let same = ap punctuator_element e in cc

-- fronts of one text that have one length are one
same_fronts : (a b x y : List ℕ) → a ++ x ≡ b ++ y → length a ≡ length b → a ≡ b
same_fronts a b x y e l = sym (take_at a x (length b) l) ∙ ap (take (length b)) e ∙ take_at b y (length b) refl

both_read : (rest : List ℕ) (d e : Element) → IsPunctuator rest d → IsPunctuator rest e → d ≡ e
both_read rest (Take (OfPunctuator p) n) (Take (OfPunctuator q) m) (x, s, a, l) (y, t, b, k) =
    let pq : length (spelling p) ≤ m = k p x s in
    let qp : length (spelling q) ≤ n = l q y t in
    let same_length : length (spelling p) ≡ length (spelling q) = omega arith in
    let same = same_spelling p q (same_fronts (spelling p) (spelling q) x y (sym s ∙ t) same_length) in
    let size : n ≡ m = omega arith in
    ap (λ r. Take (OfPunctuator r) n) same ∙ ap (Take (OfPunctuator q)) size
both_read rest (Take (OfPunctuator p) n) (Stop kind at) (x, s, a, l) (k, z, none) = absurd (none p x s)
both_read rest (Stop kind at) (Take (OfPunctuator p) n) (k, z, none) (x, s, a, l) = absurd (none p x s)
both_read rest (Stop kind at) (Stop kind' at') (k, z, none) (k', z', none') = cc
both_read rest Finished e h t = absurd h
both_read rest (Skip n line) e h t = absurd h
both_read rest (Take OfWord n) e h t = absurd h
both_read rest (Take OfText n) e h t = absurd h
both_read rest (Take (OfNumber v) n) e h t = absurd h
both_read rest (Take (OfTemplate last) n) e h t = absurd h
both_read rest (Take (OfPunctuator p) m) Finished h t = absurd t
both_read rest (Take (OfPunctuator p) m) (Skip n line) h t = absurd t
both_read rest (Take (OfPunctuator p) m) (Take OfWord n) h t = absurd t
both_read rest (Take (OfPunctuator p) m) (Take OfText n) h t = absurd t
both_read rest (Take (OfPunctuator p) m) (Take (OfNumber v) n) h t = absurd t
both_read rest (Take (OfPunctuator p) m) (Take (OfTemplate last) n) h t = absurd t
both_read rest (Stop kind at) Finished h t = absurd t
both_read rest (Stop kind at) (Skip n line) h t = absurd t
both_read rest (Stop kind at) (Take OfWord n) h t = absurd t
both_read rest (Stop kind at) (Take OfText n) h t = absurd t
both_read rest (Stop kind at) (Take (OfNumber v) n) h t = absurd t
both_read rest (Stop kind at) (Take (OfTemplate last) n) h t = absurd t

pub punctuator_only : (rest : List ℕ) (e : Element) → IsPunctuator rest e → punctuator_element rest ≡ e
punctuator_only rest e h = both_read rest (punctuator_element rest) e (punctuator_is rest) h
