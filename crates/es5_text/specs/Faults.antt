-- Why a text is no script of the profile (docs/ES5_PROFILE.md).
use Rattle.std.specs.Prelude.{◌≡◌, ℕ, ◌⊎◌, false, List, [], ◌∷◌, ◌++◌, map, Option, Some}
use Rattle.std.specs.Str.{chars, IsUtf8, IsValidUpTo}
use Rattle.es5_ast.specs.declared.tree.Script.{Script}
use Rattle.es5_ast.specs.Lexical.{Token5}
use Rattle.es5_ast.specs.Early.{Rule5, F, V, IsFirst, script_pairs}
use Rattle.es5_tokens.specs.declared.token.Token.{Token}
use Rattle.es5_tokens.specs.declared.token.TokenFault.{TokenFault}
use Rattle.es5_tokens.specs.declared.token.TokenFault.TheVariants.{Lexical, Number}
use Rattle.es5_tokens.specs.Lexes.{LexesFrom}
use Rattle.es5_tokens.specs.Tokens.{token5, Reads}
use Rattle.es5_text.specs.declared.fault.Fault5.{Fault5}
use Rattle.es5_text.specs.declared.fault.Fault5.TheVariants.{Lexical5, Syntax5, Early5, Outside5, Depth5, OutOfMemory}
use Rattle.es5_reading_laws.specs.Laws.{IsRow}
use Rattle.es5_text.specs.Accepted.{NoneGoesOn}
use Rattle.es5_text.specs.Parsed.{IsDerived}

-- The tokens of a text up to its end, or to the first fault of theirs, which is exactly there.
pub record Lexed5 (bytes : List ℕ) : Type 0 where
  pub utf8 : IsUtf8 bytes
  pub tokens : List Token
  pub end : ℕ
  pub fault : Option TokenFault
  pub lexes : LexesFrom false 0 (chars bytes) tokens end fault
  pub reads : Reads (chars bytes) tokens end fault

-- the begin of the first of the tokens, or where they end
abbrev pub place_of : ℕ → List Token5 → ℕ
place_of end [] = end
place_of end (t ∷ ts) = t.begin

-- one of the tokens begins at the offset, or they end there
pub record IsReached (bytes : List ℕ) (at : ℕ) : Type 0 where
  pub lexed : Lexed5 bytes
  pub front : List Token5
  pub rest : List Token5
  pub parts : map token5 lexed.tokens ≡ front ++ rest
  pub place : at ≡ place_of lexed.end rest

-- and no script goes on there
pub record IsDead (bytes : List ℕ) (at : ℕ) : Type 0 where
  pub reached : IsReached bytes at
  pub dead : NoneGoesOn reached.front reached.rest

-- and the row of table V stands there: no directive, `with`, the `in` of a for-in statement, or a regular expression
pub record IsLeftOutAt (bytes : List ℕ) (rule at : ℕ) : Type 0 where
  pub dead : IsDead bytes at
  pub row : IsRow rule dead.reached.rest

-- the tokens end there with this fault
pub record IsTokenFault (bytes : List ℕ) (fault : TokenFault) (at : ℕ) : Type 0 where
  pub lexed : Lexed5 bytes
  pub ended : lexed.fault ≡ Some fault
  pub place : at ≡ lexed.end

-- the text is a script's but for the pairs of tables F and V, of which this one comes first
pub record IsFirstPair (bytes : List ℕ) (rule : Rule5) (at : ℕ) : Type 0 where
  pub script : Script
  pub derived : IsDerived bytes script
  pub first : IsFirst (record { rule = rule; at = at }) (script_pairs script.statements)

-- What a fault says of the text.
abbrev pub IsFault : List ℕ → Fault5 → Type 0
IsFault bytes (Lexical5 at) = IsValidUpTo bytes at ⊎ IsTokenFault bytes Lexical at
IsFault bytes (Syntax5 at) = IsDead bytes at
IsFault bytes (Early5 rule at) = IsFirstPair bytes (F rule) at
IsFault bytes (Outside5 rule at) = IsFirstPair bytes (V rule) at ⊎ (IsLeftOutAt bytes rule at ⊎ ((rule ≡ 5) × IsTokenFault bytes Number at))
IsFault bytes (Depth5 at) = IsReached bytes at
IsFault bytes OutOfMemory = Unit {0}
