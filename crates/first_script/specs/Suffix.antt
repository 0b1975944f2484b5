-- What is put after each declared name, so that no name of the script is a host's.
use Rattle.std.specs.Prelude.{ℕ, ◌+◌, ◌==◌, if◌then◌else◌, max, replicate, List, [], ◌∷◌}

-- how many `$` a name ends with, where as many stand before it
abbrev pub trailing_dollars : ℕ → List ℕ → ℕ
trailing_dollars run [] = run
trailing_dollars run (b ∷ bs) = trailing_dollars (if b == 36 then run + 1 else 0) bs

-- the most `$` that a name of these ends with
abbrev pub most_dollars : List (List ℕ) → ℕ
most_dollars [] = 0
most_dollars (name ∷ names) = max (trailing_dollars 0 name) (most_dollars names)

-- one `$` more than any host's name ends with
abbrev pub suffix_for : List (List ℕ) → List ℕ
suffix_for hosts = replicate (most_dollars hosts + 1) 36
