-- Which cells a closure keeps. A name that is marked as shared holds a cell from the flattening of scopes on. A closure
-- keeps the cells of the shared names that it or a function in it mentions, and that the function declares which holds it
-- directly: what is declared further out is among the cells that this one keeps itself.
use Rattle.std.specs.Prelude.{ℕ, ◌+◌, Bool, cond, not, ◌&&◌, nat_eq, length, get_or, set, replicate, List, [], ◌∷◌, ◌++◌, map}
use Rattle.std.specs.List.{filter, list_any}
use Rattle.core_ast.specs.declared.gathering.Mentions.{Mentions}
use Rattle.core_ast.specs.declared.parts.FunctionId.{FunctionId}
use Rattle.core_ast.specs.declared.parts.ScopedName.{ScopedName}
use Rattle.core_ast.specs.declared.parts.Var.{Var}
use Rattle.core_ast.specs.declared.whole.Core.{Core}
use Rattle.core_ast.specs.Mentions.{function_mentions, part_mentions}

-- what stands in each function, and behind these in each part; the place of one here, plus one, is its number below
abbrev pub found : Core → List Mentions
found core = map function_mentions core.functions ++ map part_mentions core.parts

-- a table with this number at these places, if it has them
abbrev pub with_owner : ℕ → ScopedName → List ℕ → List ℕ
with_owner number name table = cond name.shared (set table name.var.0 number) table

abbrev pub with_owners : ℕ → List ScopedName → List ℕ → List ℕ
with_owners number [] table = table
with_owners number (name ∷ names) table = with_owners number names (with_owner number name table)

abbrev pub with_holder : ℕ → List FunctionId → List ℕ → List ℕ
with_holder number [] table = table
with_holder number (f ∷ fs) table = with_holder number fs (set table f.0 number)

-- of each shared name the number of what declares it, and 0 of the others
abbrev pub all_owners : ℕ → List Mentions → List ℕ → List ℕ
all_owners number [] table = table
all_owners number (m ∷ ms) table = all_owners (number + 1) ms (with_owners (number + 1) m.scoped table)

abbrev pub owners : ℕ → List Mentions → List ℕ
owners names ms = all_owners 0 ms (replicate names 0)

-- of each function the number of what holds it
abbrev pub all_holders : ℕ → List Mentions → List ℕ → List ℕ
all_holders number [] table = table
all_holders number (m ∷ ms) table = all_holders (number + 1) ms (with_holder (number + 1) m.functions table)

abbrev pub holders : ℕ → List Mentions → List ℕ
holders functions ms = all_holders 0 ms (replicate functions 0)

abbrev pub owner : List ℕ → Var → ℕ
owner owners x = get_or owners x.0 0

abbrev pub is_shared : List ℕ → Var → Bool
is_shared owners x = not (nat_eq (owner owners x) 0)

-- ---- the shared names that are free in each

abbrev pub is_among : Var → List Var → Bool
is_among x xs = list_any (λ y. nat_eq y.0 x.0) xs

-- whether the name is a shared one of another than this one
abbrev pub is_foreign : List ℕ → ℕ → Var → Bool
is_foreign owners number x = is_shared owners x && not (nat_eq (owner owners x) number)

abbrev pub noted : List ℕ → ℕ → Var → List Var → List Var
noted owners number x xs = cond (is_foreign owners number x && not (is_among x xs)) (xs ++ x ∷ []) xs

abbrev pub all_noted : List ℕ → ℕ → List Var → List Var → List Var
all_noted owners number [] xs = xs
all_noted owners number (y ∷ ys) xs = all_noted owners number ys (noted owners number y xs)

-- those that are free in the functions that it holds, which stand before it
abbrev pub all_held : List ℕ → ℕ → List (List Var) → List FunctionId → List Var → List Var
all_held owners number before [] xs = xs
all_held owners number before (f ∷ fs) xs = all_held owners number before fs (all_noted owners number (get_or before f.0 []) xs)

-- each once, in the order in which they are met
abbrev pub free : List ℕ → List (List Var) → Mentions → List Var
free owners before m =
    let number = length before + 1 in
    all_held owners number before m.functions (all_noted owners number m.uses [])

abbrev pub all_free : List ℕ → List (List Var) → List Mentions → List (List Var)
all_free owners before [] = before
all_free owners before (m ∷ ms) = all_free owners (before ++ free owners before m ∷ []) ms

-- ---- the cells of a closure: those of its free names that its holder declares

abbrev pub cells : List ℕ → ℕ → List Var → List Var
cells owners holder free_names = filter (λ x. nat_eq (owner owners x) holder) free_names

-- the cells of the function at this place
abbrev pub cells_at : List ℕ → List ℕ → List (List Var) → ℕ → List Var
cells_at owners holders all place = cells owners (get_or holders place 0) (get_or all place [])
