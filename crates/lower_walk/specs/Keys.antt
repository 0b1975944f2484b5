-- Property names.
use Rattle.std.specs.Prelude.{ℕ, List, []}
use Rattle.core_ast.specs.declared.parts.Key.{Key}
use Rattle.core_ast.specs.declared.parts.Key.TheVariants.{WordKey}
use Rattle.module_lowering.specs.Nodes.{BracketKey, Keyed, WrittenKey}

-- a written name as a key and as a text
abbrev pub key_in : Keyed → Key
key_in (WrittenKey key units) = key
key_in (BracketKey x) = WordKey []

abbrev pub units_in : Keyed → List ℕ
units_in (WrittenKey key units) = units
units_in (BracketKey x) = []
