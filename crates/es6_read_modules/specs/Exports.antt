-- Parts of exports (ECMA-262, 6th edition, 15.2.3).
use Rattle.std.specs.Prelude.{ℕ, List, Some, codes, true}
use Rattle.es_text.specs.declared.Span.{Span}
use Rattle.es6_ast.specs.declared.module.DefaultExport.TheVariants.{DefaultFunction, DefaultClass}
use Rattle.es6_ast.specs.declared.module.Item.{Item}
use Rattle.es6_ast.specs.declared.module.Item.TheVariants as item
use Rattle.es6_ast.specs.Grammar.{of_module}
use Rattle.es6_ast.specs.declared.module.ExportName.{ExportName}
use Rattle.es6_reading.specs.Modules.{from_clause, own_names}
use Rattle.es6_reading.specs.Parser.{Inner, Parser, ◌>>=◌, if_next, made, next_word}
use Rattle.es6_reading.specs.Parts.{class_after_word, function_after_word}

-- what follows `function`, which begins at the second place
unfoldable pub default_function : Inner → ℕ → Span → ℕ → Parser Item
default_function i at word inside = do
  g ← function_after_word i true inside
  made at (λ span. item.ExportDefault span word (DefaultFunction g))

-- what follows `class`
unfoldable pub default_class : Inner → ℕ → Span → ℕ → Parser Item
default_class i at word inside = do
  c ← class_after_word i of_module true inside
  made at (λ span. item.ExportDefault span word (DefaultClass c))

-- what follows the names of an export
unfoldable pub after_names : Inner → ℕ → List ExportName → Parser Item
after_names i at ns = if_next (next_word (codes "from")) (do
  s ← from_clause i
  made at (λ span. item.ExportNames span ns (Some s))) (own_names i at ns)
