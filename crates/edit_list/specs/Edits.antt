-- Which texts are lists of edits, and of which.
use Rattle.std.specs.Prelude.{ℕ, ◌+◌, ◌-◌, ◌==◌, ◌||◌, Bool, true, false, cond, nat_lt, List, [], ◌∷◌, ◌++◌, codes, count_by, fold, length, slice_index, take, Option, Some, None, option_map, option_and_then, Result, Ok, Err, string_bytes}
use Rattle.std.specs.List.{slice_split}
use Rattle.std.specs.Str.{bytes_eq}
use Rattle.module_paths.specs.Paths.{form_of}
use Rattle.edit_list.specs.declared.edit.Edit.{Edit}
use Rattle.edit_list.specs.declared.edit.Edit.TheVariants.{Put, Drop, Build}

-- what a line asks for, with paths in normal form
pub data Asked : Type 0 where
  put : List ℕ → List ℕ → Asked
  dropped : List ℕ → Asked
  build : Asked

abbrev pub asked_of : Edit → Asked
asked_of (Put path from) = put (string_bytes path) (string_bytes from)
asked_of (Drop path) = dropped (string_bytes path)
asked_of Build = build

abbrev pub is_build : Asked → Bool
is_build build = true
is_build _ = false

-- the words of a line, between single spaces
abbrev pub words : List ℕ → List (List ℕ)
words line = slice_split (λ b. b == 32) line

-- this text, if it is that of a path
abbrev pub unchanged : List ℕ → List ℕ → Option (List ℕ)
unchanged path text = cond (bytes_eq path text) (Some path) None

-- a word that is a path in normal form
abbrev pub path_of : List ℕ → Option (List ℕ)
path_of word = option_and_then (λ path. unchanged path word) (form_of word)

abbrev pub one_word_of : List ℕ → Option Asked
one_word_of name = cond (bytes_eq name (codes "build")) (Some build) None

abbrev pub dropped_of : List ℕ → List ℕ → Option Asked
dropped_of name path = cond (bytes_eq name (codes "drop")) (option_map dropped (path_of path)) None

abbrev pub put_of : List ℕ → List ℕ → List ℕ → Option Asked
put_of name path from =
    cond (bytes_eq name (codes "put")) (option_and_then (λ p. option_map (put p) (path_of from)) (path_of path)) None

-- what these words ask for
abbrev pub edit_of : List (List ℕ) → Option Asked
edit_of (name ∷ []) = one_word_of name
edit_of (name ∷ path ∷ []) = dropped_of name path
edit_of (name ∷ path ∷ from ∷ []) = put_of name path from
edit_of _ = None

-- The number of a line is one more than that of the lines before, each of which is an edit.
abbrev pub refused_after : List Asked → Result (List Asked) ℕ
refused_after edits = Err (length edits + 1)

-- the edits of the lines so far, and what the next one asks for, unless that is nothing or a build after a hundred
abbrev pub added : List Asked → Option Asked → Result (List Asked) ℕ
added edits None = refused_after edits
added edits (Some build) = cond (nat_lt (count_by is_build edits) 100) (Ok (edits ++ build ∷ [])) (refused_after edits)
added edits (Some (put path from)) = Ok (edits ++ put path from ∷ [])
added edits (Some (dropped path)) = Ok (edits ++ dropped path ∷ [])

-- one line more: the first one that is no edit counts
abbrev pub read_line : Result (List Asked) ℕ → List ℕ → Result (List Asked) ℕ
read_line (Ok edits) line = added edits (edit_of (words line))
read_line (Err number) line = Err number

-- the edits of these lines, or the number of the first one, from 1, that is none
abbrev pub read : List (List ℕ) → Result (List Asked) ℕ
read lines = fold read_line (Ok []) lines

-- what stands before, between and behind the LFs of a text
abbrev pub pieces : List ℕ → List (List ℕ)
pieces text = slice_split (λ b. b == 10) text

-- the lines of a text that end with LF: all pieces but the last
abbrev pub lines : List ℕ → List (List ℕ)
lines text = take (length (pieces text) - 1) (pieces text)

-- each line of the text ends with LF
abbrev pub ends_line : List ℕ → Bool
ends_line text = (length text == 0) || (slice_index text (length text - 1) == 10)

-- a line that doesn't end is no edit
abbrev pub closed : Bool → Result (List Asked) ℕ → Result (List Asked) ℕ
closed true answer = answer
closed false (Ok edits) = refused_after edits
closed false (Err number) = Err number

-- the edits that a text lists, or the number of the first line, from 1, that is none
abbrev pub edits_of : List ℕ → Result (List Asked) ℕ
edits_of text = closed (ends_line text) (read (lines text))
