-- The sample graph with n modules beside its entry, main.js.
use Rattle.std.specs.Prelude.{ℕ, ◌%◌, List, [], ◌∷◌, ◌++◌, map, codes, decimal}
use Rattle.std.specs.List.{flat_map, range_with_len}

-- the text of these lines, each with its line feed
abbrev pub text_of : List (List ℕ) → List ℕ
text_of lines = flat_map (λ line. line ++ codes "\n") lines

-- the numbers of the modules, from 1 to n
abbrev pub numbers : ℕ → List ℕ
numbers n = range_with_len 1 n

unfoldable pub module_lines : List (List ℕ)
module_lines =
    codes "export let c = 0;" ∷
    codes "export class K {" ∷
    codes "  constructor(k) { this.k = k; }" ∷
    codes "  [Symbol.iterator]() {" ∷
    codes "    let i = 0, k = this.k;" ∷
    codes "    return { next: () => { c = c + 1; return { value: i, done: i++ >= k }; } };" ∷
    codes "  }" ∷
    codes "}" ∷ []

abbrev pub module_path : ℕ → List ℕ
module_path i = codes "m" ++ decimal i ++ codes ".js"

unfoldable pub named_imports : ℕ → List ℕ
named_imports i = codes "{K as K" ++ decimal i ++ codes ", c as c" ++ decimal i ++ codes "}"

unfoldable pub import_line : ℕ → List ℕ
import_line i = codes "import " ++ named_imports i ++ codes " from \"./" ++ module_path i ++ codes "\";"

-- the iterator of the i-th module gives i mod 5 values
unfoldable pub loop_line : ℕ → List ℕ
loop_line i = codes "for (const v of new K" ++ decimal i ++ codes "(" ++ decimal (i % 5) ++ codes ")) print(v);"

unfoldable pub counter_line : ℕ → List ℕ
counter_line i = codes "print(c" ++ decimal i ++ codes ");"

abbrev pub loop_lines : ℕ → List (List ℕ)
loop_lines i = loop_line i ∷ counter_line i ∷ []

abbrev pub main_lines : ℕ → List (List ℕ)
main_lines n = codes "import {print} from \"host\";" ∷ (map import_line (numbers n) ++ flat_map loop_lines (numbers n))

abbrev pub sample_modules : ℕ → List (List ℕ × List ℕ)
sample_modules n = map (λ i. (module_path i, text_of module_lines)) (numbers n)

-- the files, each with its path
abbrev pub sample_files : ℕ → List (List ℕ × List ℕ)
sample_files n = (codes "main.js", text_of (main_lines n)) ∷ sample_modules n
