-- What is proved of the bytes of scripts.
use Rattle.std.specs.Prelude.{◌≡◌, ℕ, List}
use Rattle.es5_ast.specs.declared.tree.Script.{Script}
use Rattle.es5_ast.specs.Grammar.{Mode5}
use Rattle.es5_ast.specs.Script.{Spells, Spells5}
use Rattle.es5_ast.specs.Bare.{bare_statements}

-- No bytes spell two scripts.
abbrev pub AreUnique : Type 0
AreUnique = (bytes : List ℕ) (a b : Script) → Spells5 bytes a → Spells5 bytes b → a ≡ b

-- Scripts that the same bytes spell, in any modes, are the same but for spans and sites.
abbrev pub AreAlike : Type 0
AreAlike = (mode other : Mode5) (bytes : List ℕ) (a b : Script) → Spells mode bytes a → Spells other bytes b → bare_statements a.statements ≡ bare_statements b.statements
