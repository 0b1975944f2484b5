-- A script that the model reads is one of the text's.
use Rattle.std.proofs.Common.{◌≡◌, ℕ, List, [], map}
use Rattle.std.specs.Prelude.{None}
use Rattle.std.specs.Str.{chars, IsUtf8}
use Rattle.es_text.specs.declared.Span.{Span}
use Rattle.es5_ast.specs.declared.tree.Script.{Script}
use Rattle.es5_ast.specs.declared.tree.Stat5.{Stat5}
use Rattle.es5_ast.specs.Grammar.{across}
use Rattle.es5_ast.specs.Early.{script_pairs}
use Rattle.es5_ast.specs.Script.{Spells5}
use Rattle.es5_tokens.specs.declared.token.Token.{Token}
use Rattle.es5_tokens.specs.Tokens.{token5, Reads}
use Rattle.es5_reading.specs.Parser.{Input5, Took}
use Rattle.es5_reading.specs.Programs.{script}
use Rattle.es5_reading.proofs.Scripts.{scripts}
use Rattle.es5_text.specs.Parsed.{IsDerived, IsParsed}
use Rattle.es5_text.proofs.Aside.{exact_is_aside}

-- what is read of all tokens of a text
pub derived_of : (bytes : List ℕ) (tokens : List Token) (end fuel : ℕ) (statements : List Stat5) (after : Input5) (span : Span)
    → IsUtf8 bytes → Reads (chars bytes) tokens end None → script fuel (map token5 tokens) ≡ Took statements after → span ≡ across (map token5 tokens) []
    → IsDerived bytes (record { span = span; statements = statements })
derived_of bytes tokens end fuel statements after span utf8 lexed read spans =
    let r = scripts fuel (map token5 tokens) statements after read in
    record {
      utf8 = utf8;
      tokens = map token5 tokens;
      lexed = lexed.1;
      filled = r.filled;
      fills = r.fills;
      strict = r.strict;
      parsed = r.derived;
      spans = spans;
      within = r.within;
    }

-- where it has no pair of tables F and V
pub parsed_of : (bytes : List ℕ) (script : Script) → IsDerived bytes script → script_pairs script.statements ≡ [] → IsParsed bytes script
parsed_of bytes tree d legal =
    let spelled : Spells5 bytes tree = record {
      utf8 = d.utf8;
      tokens = d.tokens;
      lexed = d.lexed;
      filled = d.filled;
      fills = d.fills;
      strict = d.strict;
      parsed = d.parsed;
      spans = d.spans;
      legal = legal;
    } in
    record { spelled = spelled; within = d.within; tree = (bytes, exact_is_aside spelled) }
