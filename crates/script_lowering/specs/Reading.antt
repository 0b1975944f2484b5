-- What is gathered on the way through a script: its names, which are numbered as they are met, its functions, which stand in front of those
-- that hold them, and what the function at hand declares (5.1 edition, 10.5).
use Rattle.std.specs.Prelude.{List, None, Option, Some, [], if◌then◌else◌, length, nat_lt, suc, ℕ, ◌++◌, ◌∷◌}
use Rattle.std.specs.Str.{bytes_eq}
use Rattle.core_ast.specs.declared.parts.FunctionId.{FunctionId}
use Rattle.core_ast.specs.declared.parts.Label.{Label}
use Rattle.core_ast.specs.declared.parts.Var.{Var}
use Rattle.script_lowering.specs.declared.gathered.Gathered.{Gathered}

abbrev pub nothing_gathered : Gathered
nothing_gathered = record { names = []; functions = []; vars = []; declared = [] }

-- what is read, and what is gathered then
pub record Taken (A : Type 0) : Type 0 where
  pub value : A
  pub after : Gathered

abbrev pub Reads : Type 0 → Type 0
Reads A = Gathered → Taken A

abbrev pub gives : {A : Type 0} → A → Reads A
gives x g = record { value = x; after = g }

abbrev pub reads_then : {A B : Type 0} → Reads A → (A → Reads B) → Reads B
reads_then first next g = let t = first g in next t.value t.after

abbrev pub reads_both : {A B C : Type 0} → Reads A → Reads B → (A → B → C) → Reads C
reads_both first second made = reads_then first (λ x. reads_then second (λ y. gives (made x y)))

abbrev pub reads_one : {A B : Type 0} → Reads A → (A → B) → Reads B
reads_one first made = reads_then first (λ x. gives (made x))

abbrev pub reads_onto : {A : Type 0} → List A → List (Reads A) → Reads (List A)
reads_onto ys [] = gives ys
reads_onto ys (x ∷ xs) = reads_then x (λ y. reads_onto (ys ++ y ∷ []) xs)

abbrev pub reads_each : {A : Type 0} → List (Reads A) → Reads (List A)
reads_each xs = reads_onto [] xs

abbrev pub reads_perhaps : {A : Type 0} → Option (Reads A) → Reads (Option A)
reads_perhaps None = gives None
reads_perhaps (Some x) = reads_one x (λ y. Some y)

-- ---- names

abbrev pub place_in : List (List ℕ) → List ℕ → ℕ
place_in [] name = 0
place_in (n ∷ ns) name = if bytes_eq name n then 0 else suc (place_in ns name)

abbrev pub with_name : List ℕ → List (List ℕ) → List (List ℕ)
with_name name names = if nat_lt (place_in names name) (length names) then names else names ++ name ∷ []

abbrev pub named : List ℕ → Reads Var
named name g = record { value = record { 0 = place_in g.names name }; after = record g { names = with_name name g.names } }

abbrev pub label_of : Var → Label
label_of x = record { 0 = x.0 }

abbrev pub label_named : List ℕ → Reads Label
label_named name = reads_one (named name) label_of

-- a name that a `var` declares
abbrev pub variable_named : List ℕ → Reads Var
variable_named name g =
    let x = named name g in
    record { value = x.value; after = record x.after { vars = x.after.vars ++ x.value ∷ [] } }

abbrev pub declares : Var → FunctionId → Gathered → Gathered
declares x f g = record g { declared = g.declared ++ record { var = x; function = f } ∷ [] }

-- the name of no variable: it keeps whether the body of a do-while was run yet
abbrev pub first_turn : Reads Var
first_turn = variable_named []
