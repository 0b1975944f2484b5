-- What a read of a file answers where the files are told.
use Rattle.std.specs.Prelude.{◌≡◌, ◌≢◌, ℕ, ◌+◌, Bool, true, false, List, take, reverse, Option, Some, None, option_map, String, Vec, string_bytes}
use Rattle.std.specs.List.{find}
use Rattle.std.specs.Str.{bytes_eq}
use Rattle.es_outside.specs.declared.files.FileAnswer.{FileAnswer}
use Rattle.es_outside.specs.declared.files.FileAnswer.TheVariants.{Found, Missing, Failed, OutOfMemory}

-- what is read of a file under a limit: all of it, or one byte more than the limit
abbrev pub read_of : ℕ → List ℕ → List ℕ
read_of limit bytes = take (limit + 1) bytes

-- the answer fits what its path stands for
abbrev pub AnswersFor : Option (List ℕ) → ℕ → FileAnswer → Type 0
AnswersFor file limit (Found read) = option_map (read_of limit) file ≡ Some read.items
AnswersFor file limit Missing = file ≡ None
AnswersFor file limit Failed = Unit {0}
AnswersFor file limit OutOfMemory = Unit {0}

-- the bytes that these pairs give a path: those of the last pair that has it
abbrev pub file_of : {A B : Type 0} → List (String A × Vec ℕ B) → List ℕ → Option (List ℕ)
file_of pairs path = option_map (λ pair. pair.1.items) (find (λ pair. bytes_eq (string_bytes pair.0) path) (reverse pairs))

-- the answer where a call fails exactly if its number is listed
abbrev pub AnswersExactly : Bool → Option (List ℕ) → ℕ → FileAnswer → Type 0
AnswersExactly true file limit answer = answer ≡ Failed
AnswersExactly false file limit answer = AnswersFor file limit answer × (answer ≢ Failed)
