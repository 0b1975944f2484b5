-- What a loop has gathered when nothing is left, and the tables of that.
use Rattle.std.proofs.Common.{◌≡◌, ℕ, ◌≤◌, List, [], ◌∷◌, ◌++◌, length, drop, sym, ap, ◌∙◌, subst, append-nil, arith}
use Rattle.std.specs.Prelude.{Option, Result, IfOk}
use Rattle.std.proofs.lemmas.List.{drop_all}
use Rattle.binding_tables.specs.Rows.{rows_of}
use Rattle.binding_tables.specs.declared.ids.Row.{Row}
use Rattle.es6_ast.specs.declared.graph.EndOf.{EndOf}
use Rattle.scope_analysis.specs.Ends.{end_rows}
use Rattle.scope_analysis.specs.declared.tables.ModuleScopes.{ModuleScopes}

pub all_rows : {A : Type 0} (f : List A → List Row) (xs : List A) (i : ℕ) (rows : List Row) → f [] ≡ [] → length xs ≤ i → rows ++ f (drop i xs) ≡ f xs → rows ≡ f xs
all_rows f xs i rows none past before = sym (append-nil rows) ∙ ap (λ list. rows ++ list) (sym none) ∙ ap (λ ys. rows ++ f ys) (sym (drop_all i xs past)) ∙ before

pub table_of : {E : Type 0} (r : Result (List Row) E) (rows wanted : List Row) → rows ≡ wanted → IfOk r (λ t. (at : ℕ) → rows_of at t ≡ rows_of at rows)
    → IfOk r (λ t. (at : ℕ) → rows_of at t ≡ rows_of at wanted)
table_of r rows wanted are is =
    let P : List Row → Type 0 = λ list. IfOk r (λ t. (at : ℕ) → rows_of at t ≡ rows_of at list) in
    subst P are is

-- names that are wanted beyond the last ending have no row
pub no_more_ends : (all : List ModuleScopes) (ps : List (Option ℕ)) (es : List EndOf) (rows whole : List Row) → length es ≡ 0 → rows ++ end_rows all ps es ≡ whole → rows ≡ whole
no_more_ends all [] es rows whole none before = sym (append-nil rows) ∙ before
no_more_ends all (p ∷ ps) [] rows whole none before = sym (append-nil rows) ∙ before
no_more_ends all (p ∷ ps) (e ∷ es) rows whole none before = absurd (omega (arith, none))
