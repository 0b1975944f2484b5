-- What is answered for a text, by what the model of es5_reading reads of its tokens.
use Rattle.std.specs.Prelude.{◌≡◌, ℕ, List, [], map, Result, Ok, Err}
use Rattle.std.specs.Str.{IsValidUpTo}
use Rattle.es5_ast.specs.declared.tree.Script.{Script}
use Rattle.es5_ast.specs.declared.tree.Stat5.{Stat5}
use Rattle.es5_ast.specs.Grammar.{across}
use Rattle.es5_ast.specs.Early.{IsFirst, script_pairs}
use Rattle.es5_tokens.specs.Tokens.{token5}
use Rattle.es5_reading.specs.Programs.{script}
use Rattle.es5_early.specs.declared.pair.Pair.{Pair}
use Rattle.es5_early.specs.Pairs.{pair_of}
use Rattle.es5_text.specs.declared.fault.Fault5.{Fault5}
use Rattle.es5_text.specs.declared.fault.Fault5.TheVariants.{Lexical5, OutOfMemory}
use Rattle.es5_text.specs.Answer.{answer_of, of_pair}
use Rattle.es5_text.specs.Faults.{Lexed5}
use Rattle.es5_cursor.specs.Readers.{turns}

-- the statements that the model reads of the tokens, or the fault
abbrev pub statements_of : {bytes : List ℕ} → Lexed5 bytes → Result (List Stat5) Fault5
statements_of l = answer_of (script turns (map token5 l.tokens)) l.end l.fault

-- The script is what is read, and it has no pair of tables F and V.
pub record IsAccepted (bytes : List ℕ) (tree : Script) : Type 0 where
  pub lexed : Lexed5 bytes
  pub read : statements_of lexed ≡ Ok tree.statements
  pub span : tree.span ≡ across (map token5 lexed.tokens) []
  pub legal : script_pairs tree.statements ≡ []

-- A text is refused where it isn't UTF-8, where no script is read of its tokens, and for the first pair of what is read. Memory
-- that runs out says nothing.
pub data IsRefused (bytes : List ℕ) (fault : Fault5) : Type 0 where
  out_of_memory : fault ≡ OutOfMemory → IsRefused bytes fault
  not_utf8 : (at : ℕ) → IsValidUpTo bytes at → fault ≡ Lexical5 at → IsRefused bytes fault
  unread : (lexed : Lexed5 bytes) → statements_of lexed ≡ Err fault → IsRefused bytes fault
  paired : (lexed : Lexed5 bytes) (statements : List Stat5) (pair : Pair) → statements_of lexed ≡ Ok statements
      → IsFirst (pair_of pair) (script_pairs statements) → fault ≡ of_pair pair → IsRefused bytes fault

abbrev pub IsRead : List ℕ → Result Script Fault5 → Type 0
IsRead bytes (Ok tree) = IsAccepted bytes tree
IsRead bytes (Err fault) = IsRefused bytes fault
