-- What is written of a build.
use Rattle.std.specs.Prelude.{ℕ, List, [], ◌∷◌, ◌++◌, codes, length}
use Rattle.std.specs.Fmt.{decimal}

abbrev pub built_line : ℕ → ℕ → ℕ → List ℕ
built_line modules parsed bytes =
    codes "build: modules " ++ (decimal modules ++ (codes ", parsed " ++ (decimal parsed ++ (codes ", bytes " ++ (decimal bytes ++ 10 ∷ [])))))

-- of a graph of so many modules, of which so many were read: a line, and the script
abbrev pub built_text : ℕ → ℕ → List ℕ → List ℕ
built_text modules parsed script = built_line modules parsed (length script) ++ script

-- of one that is refused, by the line that says why
abbrev pub refused_text : List ℕ → List ℕ
refused_text line = codes "refused " ++ line
