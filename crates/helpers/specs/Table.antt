-- What each definition of the text uses of the others, the last definition first.
use Rattle.std.specs.Prelude.{ℕ, List, map}
use denote.Ref.{Bor}
use Rattle.helpers.specs.declared.table.TheConstants.{CLASSES, GENERATORS, ITERATORS, LISTS, TEMPLATES, VALUES}

-- the name of a definition, and those of the ones that it uses
abbrev pub row_names : List (Bor (List ℕ)) → List (List ℕ)
row_names row = map (λ name. name.now) row

abbrev pub table_rows : List (Bor (List (Bor (List ℕ)))) → List (List (List ℕ))
table_rows table = map (λ row. row_names row.now) table

unfoldable pub templates : List (List (List ℕ))
templates = map (λ row. map (λ name. name.now) row.now) TEMPLATES

unfoldable pub generators : List (List (List ℕ))
generators = map (λ row. map (λ name. name.now) row.now) GENERATORS

unfoldable pub classes : List (List (List ℕ))
classes = map (λ row. map (λ name. name.now) row.now) CLASSES

unfoldable pub lists : List (List (List ℕ))
lists = map (λ row. map (λ name. name.now) row.now) LISTS

unfoldable pub iterators : List (List (List ℕ))
iterators = map (λ row. map (λ name. name.now) row.now) ITERATORS

unfoldable pub values : List (List (List ℕ))
values = map (λ row. map (λ name. name.now) row.now) VALUES
