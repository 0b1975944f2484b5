-- What stands at the front of a text (11): how it is read.
use Rattle.std.specs.Prelude.{◌≡◌, ℕ, ◌+◌, ◌<◌, ◌≤◌, Bool, true, false, ◌&&◌, ◌||◌, ◌==◌, List, [], ◌∷◌, drop, slice_index, if◌then◌else◌}
use Rattle.es6_lexer.specs.declared.token.LexicalKind.TheVariants.{IdentifierEscape}
use Rattle.es6_lexer.specs.declared.shape.Element.{Element}
use Rattle.es6_lexer.specs.declared.shape.Element.TheVariants.{Finished, Skip, Take, Stop}
use Rattle.es6_lexer.specs.declared.shape.Shape.TheVariants.{OfWord}
use Rattle.es6_lexer.specs.Classes.{is_white_space, is_line_terminator, is_not_line_terminator, is_identifier_start, is_identifier_part, is_decimal_digit, is_quote, run_of}
use Rattle.es6_lexer.specs.Punctuators.{punctuator_element}
use Rattle.es6_lexer.specs.Numbers.{number_element}
use Rattle.es6_lexer.specs.Quoted.{text_element, template_element, block_comment}

abbrev pub word_element : List ℕ → Element
word_element cs =
    let n = 1 + run_of is_identifier_part (drop 1 cs) in
    if slice_index cs n == 92 then Stop IdentifierEscape n else Take OfWord n

abbrev pub slash_element : List ℕ → Element
slash_element cs =
    if slice_index cs 1 == 47 then Skip (1 + run_of is_not_line_terminator (drop 1 cs)) false
    else (if slice_index cs 1 == 42 then block_comment cs
    else punctuator_element cs)

unfoldable pub marked_element : Bool → List ℕ → Element
marked_element closes cs =
    let c = slice_index cs 0 in
    if c == 96 || (closes && c == 125) then template_element cs
    else (if c == 92 then Stop IdentifierEscape 0
    else (if c == 47 then slash_element cs
    else (if c == 46 && is_decimal_digit (slice_index cs 1) then number_element cs
    else punctuator_element cs)))

-- what stands at the front, where a `}` may close a `${`
unfoldable pub element : Bool → List ℕ → Element
element closes [] = Finished
element closes (c ∷ cs) =
    if is_identifier_start c then word_element (c ∷ cs)
    else (if is_white_space c then Skip 1 false
    else (if is_line_terminator c then Skip 1 true
    else (if is_decimal_digit c then number_element (c ∷ cs)
    else (if is_quote c then text_element (c ∷ cs)
    else marked_element closes (c ∷ cs)))))

-- an element has a character and no more than there are, and a fault is at one of them
abbrev pub IsInside : ℕ → Element → Type 0
IsInside m Finished = Unit {0}
IsInside m (Skip n line) = (1 ≤ n) × (n ≤ m)
IsInside m (Take shape n) = (1 ≤ n) × (n ≤ m)
IsInside m (Stop kind at) = at < m
