-- Punctuators are told apart by how they are written.
use Rattle.std.proofs.Common.{◌≡◌, Bool, true, false, refl, ap, length}
use Rattle.std.specs.Str.{bytes_eq}
use Rattle.std.proofs.lemmas.Slice.Eq.{bytes_eq-Decides}
use denote.Enum.Bare.{sameb, true_same, false_same}
use Rattle.es6_lexer.specs.contracts.token.Punctuator.{the_type}
use Rattle.es6_lexer.specs.declared.token.Punctuator.{Punctuator}
use Rattle.es6_lexer.specs.declared.token.Punctuator.TheVariants.{LeftBrace, RightBrace, LeftParenthesis, RightParenthesis, LeftBracket, RightBracket, Dot, Ellipsis, Semicolon, Comma, LessThan, GreaterThan, LessOrEqual, GreaterOrEqual, Equals, NotEquals, StrictEquals, StrictNotEquals, Plus, Minus, Star, Slash, Percent, StarStar, PlusPlus, MinusMinus, ShiftLeft, ShiftRight, ShiftRightUnsigned, Ampersand, Bar, Caret, Exclamation, Tilde, AmpersandAmpersand, BarBar, Question, Colon, Assign, PlusAssign, MinusAssign, StarAssign, SlashAssign, PercentAssign, StarStarAssign, ShiftLeftAssign, ShiftRightAssign, ShiftRightUnsignedAssign, AmpersandAssign, BarAssign, CaretAssign, Arrow}
use Rattle.es6_lexer.specs.declared.shape.Shape.TheVariants.{OfPunctuator}
use Rattle.es6_lexer.specs.declared.shape.Element.TheVariants.{Take}
use Rattle.es6_lexer.specs.Punctuators.{spelling, punctuator_element}

-- what is read of a punctuator's spelling
reread : (p : Punctuator) → punctuator_element (spelling p) ≡ Take (OfPunctuator p) (length (spelling p))
reread LeftBrace = refl
reread RightBrace = refl
reread LeftParenthesis = refl
reread RightParenthesis = refl
reread LeftBracket = refl
reread RightBracket = refl
reread Dot = refl
reread Ellipsis = refl
reread Semicolon = refl
reread Comma = refl
reread LessThan = refl
reread GreaterThan = refl
reread LessOrEqual = refl
reread GreaterOrEqual = refl
reread Equals = refl
reread NotEquals = refl
reread StrictEquals = refl
reread StrictNotEquals = refl
reread Plus = refl
reread Minus = refl
reread Star = refl
reread Slash = refl
reread Percent = refl
reread StarStar = refl
reread PlusPlus = refl
reread MinusMinus = refl
reread ShiftLeft = refl
reread ShiftRight = refl
reread ShiftRightUnsigned = refl
reread Ampersand = refl
reread Bar = refl
reread Caret = refl
reread Exclamation = refl
reread Tilde = refl
reread AmpersandAmpersand = refl
reread BarBar = refl
reread Question = refl
reread Colon = refl
reread Assign = refl
reread PlusAssign = refl
reread MinusAssign = refl
reread StarAssign = refl
reread SlashAssign = refl
reread PercentAssign = refl
reread StarStarAssign = refl
reread ShiftLeftAssign = refl
reread ShiftRightAssign = refl
reread ShiftRightUnsignedAssign = refl
reread AmpersandAssign = refl
reread BarAssign = refl
reread CaretAssign = refl
reread Arrow = refl

one_spelling : (p q : Punctuator) → spelling p ≡ spelling q → p ≡ q
one_spelling p q h =
    let a = reread p in
    let b = reread q in
    let e = ap punctuator_element h in
    cc

pub marks_tested : (p q : Punctuator) → sameb the_type p q ≡ bytes_eq (spelling p) (spelling q)
marks_tested p q = at (bytes_eq (spelling p) (spelling q)) refl
  where
    at : (b : Bool) → bytes_eq (spelling p) (spelling q) ≡ b → sameb the_type p q ≡ b
    at true e = true_same the_type p q (one_spelling p q ((bytes_eq-Decides (spelling p) (spelling q)).0 e))
    at false e = false_same the_type tt p q (λ same. differ (ap spelling same) e)
      where
        differ : spelling p ≡ spelling q → bytes_eq (spelling p) (spelling q) ≡ false → ⊥
        differ s f = let g = (bytes_eq-Decides (spelling p) (spelling q)).1 s in cc
