-- What it means that an element is read at the front of a text.
use Rattle.std.proofs.Common.{◌≡◌, ℕ, ◌≤◌, Bool, true, false, List, [], ◌∷◌, ◌++◌, length, codes}
use Rattle.std.specs.List.{list_any}
use Rattle.es5_ast.specs.Lexical.{SpellsToken, is_whole, is_white_space, is_line_terminator, next_is, has_no_end}
use Rattle.es5_tokens.specs.declared.shape.Element.{Element}
use Rattle.es5_tokens.specs.declared.shape.Element.TheVariants.{Finished, Skip, Take, Stop}
use Rattle.es5_tokens.specs.Tokens.{kind5, IsFaultAt}

-- white space, a line terminator or a comment, and whether a line terminator is in it
pub data IsGap : List ℕ → List ℕ → Bool → Type 0 where
  white_space : (c : ℕ) (rest : List ℕ) → is_white_space c ≡ true → IsGap (c ∷ []) rest false
  line_terminator : (c : ℕ) (rest : List ℕ) → is_line_terminator c ≡ true → IsGap (c ∷ []) rest true
  single_line_comment : (text body rest : List ℕ) → text ≡ codes "//" ++ body → list_any is_line_terminator body ≡ false → (next_is is_line_terminator rest ≡ false → rest ≡ []) → IsGap text rest false
  multi_line_comment : (text body rest : List ℕ) → text ≡ codes "/*" ++ body ++ codes "*/" → has_no_end (body ++ codes "*") ≡ true → IsGap text rest (list_any is_line_terminator body)

abbrev pub IsRead : List ℕ → Element → Type 0
IsRead cs Finished = cs ≡ []
IsRead cs (Skip n line) = (text : List ℕ) × (rest : List ℕ) × (cs ≡ text ++ rest) × (n ≡ length text) × (1 ≤ n) × IsGap text rest line
IsRead cs (Take kind n) = (text : List ℕ) × (rest : List ℕ) × (cs ≡ text ++ rest) × (n ≡ length text) × (1 ≤ n) × SpellsToken (kind5 kind) text × (is_whole (kind5 kind) text rest ≡ true)
IsRead cs (Stop fault at) = IsFaultAt fault at cs
