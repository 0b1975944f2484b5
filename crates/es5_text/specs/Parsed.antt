-- What is read of a text that is a script of the profile.
use Rattle.std.specs.Prelude.{ℕ, false, List, []}
use Rattle.std.specs.Str.{chars, IsUtf8}
use Rattle.es5_ast.specs.declared.tree.Script.{Script}
use Rattle.es5_ast.specs.Lexical.{Token5, Tokens5}
use Rattle.es5_ast.specs.Grammar.{Exact, Spans, IsProgram}
use Rattle.es5_ast.specs.Within.{ProgramWithin}
use Rattle.es5_ast.specs.Script.{Fills, IsStrict, Spells5, IsTree}
use Rattle.es5_ast.specs.Depth.{most_open}

-- The bytes are UTF-8, their tokens, with the semicolons that are inserted, begin with the directive and are the script's
-- statements, with their spans and without sites, and no more constructs are open at once than may be. The pairs of tables
-- F and V are left open.
pub record IsDerived (bytes : List ℕ) (script : Script) : Type 0 where
  pub utf8 : IsUtf8 bytes
  pub tokens : List Token5
  pub lexed : Tokens5 0 false (chars bytes) tokens
  pub filled : List Token5
  pub fills : Fills [] tokens filled
  pub strict : IsStrict filled
  pub parsed : IsProgram Exact filled script.statements
  pub spans : Spans Exact tokens [] script.span
  pub within : ProgramWithin parsed most_open

-- The bytes spell the script, no more constructs are open at once than may be, and so the script may be printed.
pub record IsParsed (bytes : List ℕ) (script : Script) : Type 0 where
  pub spelled : Spells5 bytes script
  pub within : ProgramWithin spelled.parsed most_open
  pub tree : IsTree script
