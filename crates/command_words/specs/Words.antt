-- Which words are a command.
use Rattle.std.specs.Prelude.{◌≡◌, ℕ, false, cond, List, [], ◌∷◌, codes, Option, Some, None, option_map, option_and_then, String, string_bytes}
use Rattle.std.specs.Global.{Global}
use Rattle.std.specs.Str.{bytes_eq}
use Rattle.module_paths.specs.Paths.{form_of}
use Rattle.command_words.specs.Numbers.{number_of}
use Rattle.command_words.specs.Said.{Parts, said}
use Rattle.command_words.specs.declared.command.Command.{Command}
use Rattle.command_words.specs.declared.command.Command.TheVariants.{Build, Split, Rebuild, Run, Run5, Map, Sample}

-- What is asked for, with paths in normal form.
pub data Asked : Type 0 where
  build : List ℕ → Asked
  split : List ℕ → Asked
  rebuild : List ℕ → List ℕ → Asked
  run : List ℕ → ℕ → Asked
  run5 : List ℕ → ℕ → Asked
  map_of : List ℕ → Asked
  sample : ℕ → Asked

abbrev pub default_steps : ℕ
default_steps = 10000000

abbrev pub most_steps : ℕ
most_steps = 1099511627776

abbrev pub most_modules : ℕ
most_modules = 1000

-- the one word that is said, where `--steps` isn't
abbrev pub one_word : List (List ℕ) → List (List ℕ) → Option (List ℕ)
one_word (word ∷ []) [] = Some word
one_word _ _ = None

abbrev pub steps_said : List (List ℕ) → Option ℕ
steps_said [] = Some default_steps
steps_said (text ∷ []) = number_of most_steps text
steps_said _ = None

abbrev pub one_path : (List ℕ → Asked) → Parts → Option Asked
one_path ask parts = option_map ask (option_and_then form_of (one_word parts.plain parts.steps))

abbrev pub two_paths : List (List ℕ) → List (List ℕ) → Option Asked
two_paths (entry ∷ list ∷ []) [] = option_and_then (λ e. option_map (rebuild e) (form_of list)) (form_of entry)
two_paths _ _ = None

-- a path in normal form, and the steps of a run
abbrev pub path_and_steps : Parts → Option (List ℕ × ℕ)
path_and_steps parts = option_and_then (λ path. option_map (λ n. (path, n)) (steps_said parts.steps)) (option_and_then form_of (one_word parts.plain []))

abbrev pub a_run : (List ℕ → ℕ → Asked) → Parts → Option Asked
a_run ask parts = option_map (λ p. ask p.0 p.1) (path_and_steps parts)

abbrev pub one_number : Parts → Option Asked
one_number parts = option_map sample (option_and_then (number_of most_modules) (one_word parts.plain parts.steps))

-- what is asked for by a command's name and what the words behind it say
abbrev pub asked : List ℕ → Parts → Option Asked
asked name parts =
    cond (bytes_eq name (codes "build")) (one_path build parts)
    (cond (bytes_eq name (codes "split")) (one_path split parts)
    (cond (bytes_eq name (codes "rebuild")) (two_paths parts.plain parts.steps)
    (cond (bytes_eq name (codes "run")) (a_run run parts)
    (cond (bytes_eq name (codes "run5")) (a_run run5 parts)
    (cond (bytes_eq name (codes "map")) (one_path map_of parts)
    (cond (bytes_eq name (codes "sample")) (one_number parts) None))))))

-- The command that words are, if they are one.
abbrev pub command_of : List (List ℕ) → Option Asked
command_of [] = None
command_of (name ∷ words) = option_and_then (asked name) (said false words)

abbrev pub asked_of : Command → Asked
asked_of (Build entry) = build (string_bytes entry)
asked_of (Split entry) = split (string_bytes entry)
asked_of (Rebuild entry list) = rebuild (string_bytes entry) (string_bytes list)
asked_of (Run entry steps) = run (string_bytes entry) steps
asked_of (Run5 script steps) = run5 (string_bytes script) steps
asked_of (Map script) = map_of (string_bytes script)
asked_of (Sample n) = sample n

abbrev pub IsAsked : Option Asked → Command → Type 0
IsAsked wanted command = wanted ≡ Some (asked_of command)

abbrev pub IsPath : Option (List ℕ) → String Global → Type 0
IsPath wanted path = wanted ≡ Some (string_bytes path)

abbrev pub ArePathAndSteps : Option (List ℕ × ℕ) → String Global × ℕ → Type 0
ArePathAndSteps wanted p = wanted ≡ Some (string_bytes p.0, p.1)
