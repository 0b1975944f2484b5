-- The module that the bytes of a file are read as.
use Rattle.std.specs.Prelude.{◌≡◌, ℕ, ◌≤◌, List, [], length, map, Ok}
use Rattle.std.specs.Str.{chars, IsUtf8}
use Rattle.es6_lexer.specs.declared.token.Token.{Token}
use Rattle.es6_lexer.specs.Lexes.{Lexes}
use Rattle.es6_ast.specs.declared.graph.LoadedModule.{LoadedModule}
use Rattle.es6_ast.specs.declared.module.Module.{Module}
use Rattle.es6_ast.specs.Tokens.{read}
use Rattle.es6_reading.specs.Modules.{read_module}
use Rattle.es6_cursor.specs.Readers.{turns}
use Rattle.es6_expr.specs.es6_module.Parsed.{Answers, IsParsed}
use Rattle.es6_static_semantics.specs.Early.{early_pairs}
use Rattle.es6_static_semantics.specs.Graphs.{specifiers}
use Rattle.es6_static_semantics.specs.Outside.{outside_pairs}
use Rattle.module_requests.specs.Requests.{open_request}

-- bytes that are few enough and a text, and its tokens
pub record IsLexed (bytes : List ℕ) (tokens : List Token) : Type 0 where
  pub short : length bytes ≤ 4194304
  pub utf8 : IsUtf8 bytes
  pub lexed : Lexes (chars bytes) tokens

-- the module that they spell, as the model of the reader reads it
pub record IsSpelled (bytes : List ℕ) (tree : Module) : Type 0 where
  pub tokens : List Token
  pub lexed : IsLexed bytes tokens
  pub parsed : IsParsed tokens tree
  pub reads : Answers tokens (read_module turns (map read tokens)) (Ok tree)

-- A module that passes all checks, loaded of these bytes. It isn't known yet which modules it requests, nor where its names end.
pub record IsRead (path bytes : List ℕ) (m : LoadedModule) : Type 0 where
  pub path_is : m.path ≡ path
  pub lines_are : m.lines ≡ chars bytes
  pub spelled : IsSpelled bytes m.tree
  pub legal : early_pairs m.tree ≡ []
  pub inside : outside_pairs m.tree ≡ []
  pub requests_are : m.requests ≡ map open_request (specifiers m.tree)
  pub unlinked : m.endings ≡ []
