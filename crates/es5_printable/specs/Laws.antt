-- What is proved of scripts that may be printed.
use Rattle.std.specs.Prelude.{◌≡◌, true}
use Rattle.es5_ast.specs.declared.tree.Script.{Script}
use Rattle.es5_ast.specs.Script.{IsTree}
use Rattle.es5_printable.specs.Printable.{is_printable}

-- such a script is, spans and sites aside, the tree of some text
abbrev pub PrintableAreTrees : Type 0
PrintableAreTrees = (script : Script) → is_printable script ≡ true → IsTree script

-- and no other is
abbrev pub TreesArePrintable : Type 0
TreesArePrintable = (script : Script) → IsTree script → is_printable script ≡ true
