-- Reading lines one after another, up to the first that is no edit.
use Rattle.std.proofs.Common.{◌≡◌, ℕ, suc, ◌<◌, List, [], ◌∷◌, ◌++◌, length, map, get_or, take, drop, Ok, Err, refl, sym, ap, ◌∙◌, drop-cons}
use Rattle.std.specs.Prelude.{fold}
use Rattle.std.proofs.lemmas.List.{take-append-drop}
use Rattle.std.proofs.lemmas.List.Sums.{fold-append}
use Rattle.edit_list.specs.declared.fault.ListFault.{ListFault}
use Rattle.edit_list.specs.declared.fault.ListFault.TheVariants.{BadEdit, OutOfMemory}
use Rattle.edit_list.specs.Edits.{Asked, added, edit_of, read, read_line, words}
use Rattle.edit_list.specs.Reading.{IsRefused}

-- after a line that is no edit nothing is read
stopped : (number : ℕ) (rest : List (List ℕ)) → fold read_line (Err number) rest ≡ Err number
stopped number [] = refl
stopped number (line ∷ rest) = stopped number rest

map-both : {A B : Type 0} (f : A → B) (xs ys : List A) → map f (xs ++ ys) ≡ map f xs ++ map f ys
map-both f [] ys = refl
map-both f (x ∷ xs) ys = ap (λ list. f x ∷ list) (map-both f xs ys)

-- a line that is refused behind lines that are edits
pub refused-read : {A : Type 0} (f : A → List ℕ) (xs : List A) (k : ℕ) (d : A) (edits : List Asked) (fault : ListFault) → k < length xs → read (map f (take k xs)) ≡ Ok edits
    → IsRefused (added edits (edit_of (words (f (get_or xs k d))))) fault → IsRefused (read (map f xs)) fault
refused-read f xs k d edits OutOfMemory within before refused = tt
refused-read f xs k d edits (BadEdit number) within before refused =
    let x = get_or xs k d in
    let rest : List (List ℕ) = map f (drop (suc k) xs) in
    let split : map f xs ≡ map f (take k xs) ++ (f x ∷ rest)
    = sym (ap (map f) (take-append-drop k xs)) ∙ map-both f (take k xs) (drop k xs) ∙ ap (λ more. map f (take k xs) ++ map f more) (drop-cons xs k d within) in
    ap read split ∙ fold-append read_line (Ok []) (map f (take k xs)) (f x ∷ rest)
    ∙ ap (λ state. fold read_line state (f x ∷ rest)) before
    ∙ ap (λ state. fold read_line state rest) refused ∙ stopped number rest
