-- The command that the parser of command lines is given.
use Rattle.std.specs.Prelude.{◌≡◌, ℕ, true, false, List, [], ◌∷◌, codes, option_map, unwrap_or, Some}
use Rattle.clap.specs.Simple.{App, Shape, new_rule, new_shape}
use Rattle.clap.specs.Walk.{Rule}
use Rattle.clap.specs.Matches.{found_of, matched_of, raw_values}
use Rattle.clap.specs.declared.parser.matches.ArgMatches.{ArgMatches}
use Rattle.clap.specs.declared.parser.matches.Found.{Found}
use Rattle.clap.specs.declared.builder.action.ArgAction.TheVariants.{Append}
use Rattle.clap.specs.declared.error.kind.ErrorKind.{ErrorKind}
use Rattle.clap.specs.declared.error.kind.ErrorKind.TheVariants as kind
use Rattle.command_words.specs.Said.{Parts, said}
use Rattle.command_words.specs.declared.command.WordsFault.{WordsFault}
use Rattle.command_words.specs.declared.command.WordsFault.TheVariants.{Usage, OutOfMemory}

-- plain words
abbrev pub word_rule : Rule
word_rule = record (new_rule (codes "word")) { action = Some Append }

-- `--steps` with a text
abbrev pub steps_rule : Rule
steps_rule = record (new_rule (codes "steps")) { long = Some (codes "steps"); action = Some Append }

abbrev pub shape : Shape
shape = record (new_shape (codes "es5c")) {
  rules = word_rule ∷ steps_rule ∷ [];
  no_binary_name = true;
  disable_help_flag = true;
  disable_version_flag = true;
}

abbrev pub grammar : App
grammar = record { top = shape; subs = [] }

-- what the parser found for an argument
abbrev pub values_or_none : Found → List ℕ → List (List ℕ)
values_or_none found id = unwrap_or (option_map raw_values (matched_of found id)) []

abbrev pub parts_found : ArgMatches → Parts
parts_found m = record { plain = values_or_none (found_of m) (codes "word"); steps = values_or_none (found_of m) (codes "steps") }

-- The parser found what the words say.
abbrev pub IsMatched : List (List ℕ) → ArgMatches → Type 0
IsMatched words m = said false words ≡ Some (parts_found m)

abbrev pub fault_of_kind : ErrorKind → WordsFault
fault_of_kind kind.OutOfMemory = OutOfMemory
fault_of_kind _ = Usage
