-- The lexical grammar in its productions (11), each with what follows its text.
use Rattle.std.specs.Prelude.{◌≡◌, ℕ, ◌+◌, ◌≤◌, ◌⊎◌, Bool, true, false, not, ◌&&◌, ◌||◌, ◌==◌, List, [], ◌∷◌, ◌++◌, length, slice_index}
use Rattle.std.specs.List.{list_all, list_any}
use Rattle.es6_lexer.specs.declared.token.LexicalKind.{LexicalKind}
use Rattle.es6_lexer.specs.declared.token.LexicalKind.TheVariants.{OpenString, OpenTemplate, OpenComment, IdentifierEscape, BadCharacter}
use Rattle.es6_lexer.specs.declared.shape.Element.{Element}
use Rattle.es6_lexer.specs.declared.shape.Element.TheVariants.{Finished, Skip, Take, Stop}
use Rattle.es6_lexer.specs.declared.shape.Shape.TheVariants.{OfWord, OfPunctuator, OfNumber, OfText, OfTemplate}
use Rattle.es6_lexer.specs.declared.shape.EscapeEnd.TheVariants.{Spelled, Wrong}
use Rattle.es6_lexer.specs.Classes.{is_line_terminator, is_identifier_part, goes_on}
use Rattle.es6_lexer.specs.declared.token.Punctuator.{Punctuator}
use Rattle.es6_lexer.specs.Punctuators.{spelling}
use Rattle.es6_lexer.specs.Quoted.{escape}

-- characters and escapes, none of which stops the literal, and what follows them
pub data Characters (stops : List ℕ → Bool) : List ℕ → List ℕ → Type 0 where
  none : (after : List ℕ) → Characters stops [] after
  plain : (c : ℕ) (cs after : List ℕ) → stops (c ∷ (cs ++ after)) ≡ false → (c ≡ 92 → ⊥) → Characters stops cs after → Characters stops (c ∷ cs) after
  escaped : (e cs after : List ℕ) → escape (e ++ (cs ++ after)) ≡ Spelled (length e) → Characters stops cs after → Characters stops (92 ∷ (e ++ cs)) after

-- a string literal stops at its quote and at a line terminator (11.8.4)
abbrev pub text_stops : ℕ → List ℕ → Bool
text_stops quote cs = slice_index cs 0 == quote || is_line_terminator (slice_index cs 0)

-- a template stops at a `` ` `` and at a `${` (11.8.6)
abbrev pub template_stops : List ℕ → Bool
template_stops cs = slice_index cs 0 == 96 || (slice_index cs 0 == 36 && slice_index cs 1 == 123)

-- behind so many characters of a literal stands an escape that is none
abbrev pub IsWrongEscape : LexicalKind → ℕ → ℕ → List ℕ → Type 0
IsWrongEscape kind at n after = (e : List ℕ) × (after ≡ 92 ∷ e) × (escape e ≡ Wrong kind) × (at ≡ n)

-- a literal meets the end, or a `\` that is the last character
abbrev pub IsAtEnd : List ℕ → Type 0
IsAtEnd after = (after ≡ []) ⊎ (after ≡ 92 ∷ [])

-- the text behind a quote: characters up to the quote, or up to what stops them first; i characters stand before
abbrev pub IsText : ℕ → ℕ → List ℕ → Element → Type 0
IsText quote i rest (Take OfText n) = (body : List ℕ) × (after : List ℕ) × (rest ≡ body ++ (quote ∷ after)) × (n ≡ i + length body + 1) × Characters (text_stops quote) body (quote ∷ after)
IsText quote i rest (Stop kind at) = (body : List ℕ) × (after : List ℕ) × (rest ≡ body ++ after) × Characters (text_stops quote) body after
    × (((kind ≡ OpenString) × (at ≡ 0) × (IsAtEnd after ⊎ (goes_on is_line_terminator after ≡ true))) ⊎ IsWrongEscape kind at (i + length body) after)
IsText quote i rest Finished = ⊥
IsText quote i rest (Skip n line) = ⊥
IsText quote i rest (Take OfWord n) = ⊥
IsText quote i rest (Take (OfPunctuator p) n) = ⊥
IsText quote i rest (Take (OfNumber v) n) = ⊥
IsText quote i rest (Take (OfTemplate last) n) = ⊥

-- what ends a stretch
abbrev pub stretch_end : Bool → List ℕ
stretch_end true = 96 ∷ []
stretch_end false = 36 ∷ 123 ∷ []

abbrev pub IsTemplate : ℕ → List ℕ → Element → Type 0
IsTemplate i rest (Take (OfTemplate last) n) = (body : List ℕ) × (after : List ℕ) × (rest ≡ body ++ (stretch_end last ++ after)) × (n ≡ i + length body + length (stretch_end last)) × Characters template_stops body (stretch_end last ++ after)
IsTemplate i rest (Stop kind at) = (body : List ℕ) × (after : List ℕ) × (rest ≡ body ++ after) × Characters template_stops body after
    × (((kind ≡ OpenTemplate) × (at ≡ 0) × IsAtEnd after) ⊎ IsWrongEscape kind at (i + length body) after)
IsTemplate i rest Finished = ⊥
IsTemplate i rest (Skip n line) = ⊥
IsTemplate i rest (Take OfWord n) = ⊥
IsTemplate i rest (Take (OfPunctuator p) n) = ⊥
IsTemplate i rest (Take (OfNumber v) n) = ⊥
IsTemplate i rest (Take OfText n) = ⊥

-- the parts of an identifier, all that there are, and no `\` behind them but at the fault (11.6)
abbrev pub IsWordOrFault : List ℕ → Element → Type 0
IsWordOrFault rest (Take OfWord n) = (parts : List ℕ) × (after : List ℕ) × (rest ≡ parts ++ after) × (n ≡ 1 + length parts) × (list_all is_identifier_part parts ≡ true)
    × (goes_on is_identifier_part after ≡ false) × (slice_index after 0 ≡ 92 → ⊥)
IsWordOrFault rest (Stop kind at) = (parts : List ℕ) × (after : List ℕ) × (rest ≡ parts ++ (92 ∷ after)) × (at ≡ 1 + length parts) × (list_all is_identifier_part parts ≡ true) × (kind ≡ IdentifierEscape)
IsWordOrFault rest Finished = ⊥
IsWordOrFault rest (Skip n line) = ⊥
IsWordOrFault rest (Take OfText n) = ⊥
IsWordOrFault rest (Take (OfPunctuator p) n) = ⊥
IsWordOrFault rest (Take (OfNumber v) n) = ⊥
IsWordOrFault rest (Take (OfTemplate last) n) = ⊥

-- a punctuator is spelled in front, and no longer one; or none is (11.7)
abbrev pub IsPunctuator : List ℕ → Element → Type 0
IsPunctuator rest (Take (OfPunctuator p) n) = (after : List ℕ) × (rest ≡ spelling p ++ after) × (n ≡ length (spelling p)) × ((q : Punctuator) (more : List ℕ) → rest ≡ spelling q ++ more → length (spelling q) ≤ n)
IsPunctuator rest (Stop kind at) = (kind ≡ BadCharacter) × (at ≡ 0) × ((q : Punctuator) (more : List ℕ) → rest ≡ spelling q ++ more → ⊥)
IsPunctuator rest Finished = ⊥
IsPunctuator rest (Skip n line) = ⊥
IsPunctuator rest (Take OfWord n) = ⊥
IsPunctuator rest (Take OfText n) = ⊥
IsPunctuator rest (Take (OfNumber v) n) = ⊥
IsPunctuator rest (Take (OfTemplate last) n) = ⊥

-- no `*/` is in the text (11.4)
abbrev pub has_no_close : List ℕ → Bool
has_no_close [] = true
has_no_close (c ∷ cs) = not (c == 42 && slice_index cs 0 == 47) && has_no_close cs

-- behind `/*`, of which n characters were read: up to the first `*/`, with a mark for a line terminator among the characters; or no `*/` comes
abbrev pub IsComment : ℕ → Bool → List ℕ → Element → Type 0
IsComment i newline rest (Skip n line) = (body : List ℕ) × (after : List ℕ) × (rest ≡ body ++ (42 ∷ 47 ∷ after)) × (n ≡ i + length body + 2) × (has_no_close (body ++ (42 ∷ [])) ≡ true) × (line ≡ (newline || list_any is_line_terminator body))
IsComment i newline rest (Stop kind at) = (kind ≡ OpenComment) × (at ≡ 0) × (has_no_close rest ≡ true)
IsComment i newline rest Finished = ⊥
IsComment i newline rest (Take shape n) = ⊥
