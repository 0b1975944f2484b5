-- NamedImports (ECMA-262, 6th edition, 15.2.2).
use Rattle.es6_lexer.specs.declared.token.Punctuator.TheVariants as marks
use Rattle.es6_ast.specs.declared.module.ImportedNames.{ImportedNames}
use Rattle.es6_ast.specs.declared.module.ImportedNames.TheVariants.{Listed}
use Rattle.es6_reading.specs.Modules.{imports}
use Rattle.es6_reading.specs.Parser.{Inner, Parser, returns, ◌>>=◌, group}

-- the names that are imported, in braces
unfoldable pub listed_names : Inner → Parser ImportedNames
listed_names i = group i marks.LeftBrace (do
  ns ← imports i.fuel
  returns (Listed ns))
