-- What stands at the front of a text (ECMA-262, 5.1 edition, 7): how it is read.
use Rattle.std.specs.Prelude.{ℕ, ◌+◌, ◌<◌, ◌≤◌, true, false, not, ◌&&◌, ◌==◌, List, [], ◌∷◌, take, drop, slice_index, if◌then◌else◌}
use Rattle.std.specs.List.{prefix_len}
use Rattle.std.specs.Char.{is_ascii_digit}
use Rattle.es5_ast.specs.Lexical.{is_white_space, is_line_terminator, is_identifier_start, is_identifier_part}
use Rattle.es5_tokens.specs.declared.token.TokenKind.TheVariants.{Word}
use Rattle.es5_tokens.specs.declared.shape.Element.{Element}
use Rattle.es5_tokens.specs.declared.shape.Element.TheVariants.{Finished, Skip, Take, Stop}
use Rattle.es5_tokens.specs.Punctuators.{punctuator_element}
use Rattle.es5_tokens.specs.Numbers.{number_element}
use Rattle.es5_tokens.specs.Quoted.{is_quote, text_element, block_comment}

abbrev pub word_element : List ℕ → Element
word_element cs =
    let n = prefix_len is_identifier_part cs in
    Take (Word (take n cs)) n

abbrev pub slash_element : List ℕ → Element
slash_element cs =
    if slice_index cs 1 == 47 then Skip (1 + prefix_len (λ c. not (is_line_terminator c)) (drop 1 cs)) false
    else (if slice_index cs 1 == 42 then block_comment cs
    else punctuator_element cs)

unfoldable pub marked_element : List ℕ → Element
marked_element cs =
    let c = slice_index cs 0 in
    if c == 47 then slash_element cs
    else (if c == 46 && is_ascii_digit (slice_index cs 1) then number_element cs
    else punctuator_element cs)

-- what stands at the front
unfoldable pub element : List ℕ → Element
element [] = Finished
element (c ∷ cs) =
    if is_identifier_start c then word_element (c ∷ cs)
    else (if is_white_space c then Skip 1 false
    else (if is_line_terminator c then Skip 1 true
    else (if is_ascii_digit c then number_element (c ∷ cs)
    else (if is_quote c then text_element (c ∷ cs)
    else marked_element (c ∷ cs)))))

-- an element has a character and no more than there are, and a fault is at one of them
abbrev pub IsInside : ℕ → Element → Type 0
IsInside m Finished = Unit {0}
IsInside m (Skip n line) = (1 ≤ n) × (n ≤ m)
IsInside m (Take kind n) = (1 ≤ n) × (n ≤ m)
IsInside m (Stop fault at) = at < m
