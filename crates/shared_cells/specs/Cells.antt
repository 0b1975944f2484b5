-- The names of modules that several parts of a core mention. In a list of scripts each holds a cell, which all of these parts have.
use Rattle.std.specs.Prelude.{ℕ, ◌+◌, Bool, true, false, cond, length, get_or, set, replicate, List, [], ◌∷◌, ◌++◌, map}
use Rattle.std.specs.List.{filter, flat_map}
use Rattle.core_ast.specs.declared.gathering.Mentions.{Mentions}
use Rattle.core_ast.specs.declared.parts.FunctionId.{FunctionId}
use Rattle.core_ast.specs.declared.parts.ScopedName.{ScopedName}
use Rattle.core_ast.specs.declared.parts.Var.{Var}
use Rattle.core_ast.specs.declared.tree.CoreStat.TheVariants as stat
use Rattle.core_ast.specs.declared.whole.Core.{Core}
use Rattle.core_ast.specs.declared.whole.CoreFunction.{CoreFunction}
use Rattle.core_ast.specs.declared.whole.CorePart.{CorePart}
use Rattle.core_ast.specs.Mentions.{function_mentions, part_mentions}
use Rattle.pass_rules.specs.Cells.{all_noted, is_shared}

-- ---- what each part mentions of the names of others

-- of each name the number of the part that declares it, from 1, and 0 of the others
abbrev pub with_home : ℕ → List ScopedName → List ℕ → List ℕ
with_home number [] table = table
with_home number (n ∷ ns) table = with_home number ns (set table n.var.0 number)

abbrev pub with_homes : ℕ → List CorePart → List ℕ → List ℕ
with_homes number [] table = table
with_homes number (p ∷ ps) table = with_homes (number + 1) ps (with_home (number + 1) p.names table)

abbrev pub homes : ℕ → List CorePart → List ℕ
homes names parts = with_homes 0 parts (replicate names 0)

-- the names of parts that stand in it, and in the functions that it holds, which stand before it
abbrev pub held : List (List Var) → List FunctionId → List Var → List Var
held before [] xs = xs
held before (f ∷ fs) xs = held before fs (xs ++ get_or before f.0 [])

abbrev pub inside : List ℕ → List (List Var) → Mentions → List Var
inside homes before m = held before m.functions (filter (is_shared homes) m.uses)

abbrev pub all_inside : List ℕ → List (List Var) → List CoreFunction → List (List Var)
all_inside homes before [] = before
all_inside homes before (f ∷ fs) = all_inside homes (before ++ inside homes before (function_mentions f) ∷ []) fs

-- those that another part declares than the one with this number, each once
abbrev pub foreign : List ℕ → List (List Var) → ℕ → CorePart → List Var
foreign homes before number p = all_noted homes number (inside homes before (part_mentions p)) []

-- behind the part with this number
abbrev pub all_foreign : List ℕ → List (List Var) → ℕ → List CorePart → List (List Var)
all_foreign homes before number [] = []
all_foreign homes before number (p ∷ ps) = foreign homes before (number + 1) p ∷ all_foreign homes before (number + 1) ps

abbrev pub foreign_by : List ℕ → List CoreFunction → List CorePart → List (List Var)
foreign_by homes functions parts = all_foreign homes (all_inside homes [] functions) 0 parts

abbrev pub foreign_names : Core → List (List Var)
foreign_names core = foreign_by (homes (length core.fresh.hints) core.parts) core.functions core.parts

-- ---- the names that hold cells: those that stand in one of these lists

abbrev pub with_marks : List Var → List ℕ → List ℕ
with_marks [] table = table
with_marks (x ∷ xs) table = with_marks xs (set table x.0 1)

abbrev pub all_marks : List (List Var) → List ℕ → List ℕ
all_marks [] table = table
all_marks (xs ∷ xss) table = all_marks xss (with_marks xs table)

abbrev pub marks : ℕ → List (List Var) → List ℕ
marks names xss = all_marks xss (replicate names 0)

-- ---- the parts have them

-- the part that declares the name may write it
abbrev pub cell : Bool → Var → ScopedName
cell own x = record { var = x; shared = true; mutable = own }

abbrev pub own_name : List ℕ → ScopedName → ScopedName
own_name marks n = cond (is_shared marks n.var) (cell true n.var) (record n { shared = false })

abbrev pub with_cells : List ℕ → List Var → CorePart → CorePart
with_cells marks xs p = record p { names = map (own_name marks) p.names ++ map (cell false) xs }

-- from the part with this number on, behind those that are made
abbrev pub all_with_cells : List ℕ → List (List Var) → ℕ → List CorePart → List CorePart → List CorePart
all_with_cells marks xss number [] made = made
all_with_cells marks xss number (p ∷ ps) made =
    all_with_cells marks xss (number + 1) ps (made ++ with_cells marks (get_or xss number []) p ∷ [])

-- ---- Until scopes are flattened, a part of its own is the scope of all cells, so that what reads or writes them is given their contents.

abbrev pub cells_of : List ℕ → List ScopedName → List ScopedName
cells_of marks names = map (λ n. cell true n.var) (filter (λ n. is_shared marks n.var) names)

abbrev pub all_cells : List ℕ → List CorePart → List ScopedName
all_cells marks parts = flat_map (λ p. cells_of marks p.names) parts

abbrev pub holder : List ScopedName → CorePart
holder names = record { names = []; instantiate = []; body = stat.Scoped names [] ∷ [] }

abbrev pub parts_shared : List ℕ → List (List Var) → List CorePart → List CorePart
parts_shared marks xss parts = all_with_cells marks xss 0 parts [] ++ holder (all_cells marks parts) ∷ []

abbrev pub shared : Core → Core
shared core =
    let xss = foreign_names core in
    record core { parts = parts_shared (marks (length core.fresh.hints) xss) xss core.parts }

-- all but the last
abbrev pub fronts : {A : Type 0} → List A → List A
fronts [] = []
fronts (x ∷ []) = []
fronts (x ∷ y ∷ ys) = x ∷ fronts (y ∷ ys)

abbrev pub without_holder : Core → Core
without_holder core = record core { parts = fronts core.parts }
