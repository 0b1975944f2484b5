-- What the checks of one module find, in their order: its length, its encoding, its syntax, its early errors, and what in it is
-- outside the profile. Each is found only where the checks before it find nothing.
use Rattle.std.specs.Prelude.{◌≡◌, ℕ, ◌<◌, ◌≤◌, List, [], length, map, Option, Some, None, Err}
use Rattle.std.specs.Str.{chars, IsValidUpTo}
use Rattle.es_text.specs.declared.Place.{Place}
use Rattle.es_text.specs.declared.units.TextFault.{TextFault}
use Rattle.es_text.specs.declared.units.TextFault.TheVariants as texts
use Rattle.es_text.specs.Places.{IsPlace}
use Rattle.es6_lexer.specs.declared.token.Token.{Token}
use Rattle.es6_ast.specs.declared.module.Module.{Module}
use Rattle.es6_ast.specs.Tokens.{read}
use Rattle.es6_reading.specs.Modules.{read_module}
use Rattle.es6_cursor.specs.Readers.{turns}
use Rattle.es6_expr.specs.declared.fault.ParseFault.{ParseFault}
use Rattle.es6_expr.specs.declared.fault.ParseFault.TheVariants as parses
use Rattle.es6_expr.specs.es6_module.Parsed.{Answers, IsFault}
use Rattle.es6_static_semantics.specs.Early.{early_pairs}
use Rattle.es6_static_semantics.specs.Findings.{IsFirst, Pair}
use Rattle.es6_static_semantics.specs.Outside.{outside_pairs}
use Rattle.module_linker.specs.declared.module_checks.fault.ModuleFault.{ModuleFault}
use Rattle.module_linker.specs.declared.module_checks.fault.ModuleFault.TheVariants.{FileTooLong, NotUtf8, Parse, Early, Outside, OutOfMemory}
use Rattle.module_linker.specs.module_checks.Reading.{IsLexed, IsSpelled}

-- the place that is told for an offset in a text: that of the character that begins there, or of the end
abbrev pub IsToldFor : List ℕ → ℕ → Place → Type 0
IsToldFor text offset place = (p : Place) → IsPlace text offset p → place ≡ p

abbrev pub of_text : TextFault → ModuleFault
of_text (texts.NotUtf8 at) = NotUtf8 at
of_text texts.OutOfMemory = OutOfMemory

-- where a fault of the reader stands; want of memory stands nowhere
abbrev pub offset_of : ParseFault → Option ℕ
offset_of (parses.Syntax at) = Some at
offset_of (parses.Lexical at kind) = Some at
offset_of (parses.Outside rule at) = Some at
offset_of (parses.Depth at) = Some at
offset_of parses.OutOfMemory = None

-- the reader's fault, told at its place
pub record IsUnparsed (lines : List ℕ) (fault told : ParseFault) (place : Place) : Type 0 where
  pub same : told ≡ fault
  pub at : ℕ
  pub stands : offset_of fault ≡ Some at
  pub place_is : IsToldFor lines at place

-- what is told of a fault of the reader
abbrev pub IsPlaced : List ℕ → ParseFault → ModuleFault → Type 0
IsPlaced lines fault (Parse place told) = IsUnparsed lines fault told place
IsPlaced lines fault OutOfMemory = fault ≡ parses.OutOfMemory
IsPlaced lines fault _ = ⊥

-- the tokens are no module, which the reader stops at first where the fault stands
pub record IsNoModule (bytes : List ℕ) (fault : ParseFault) (place : Place) : Type 0 where
  pub tokens : List Token
  pub lexed : IsLexed bytes tokens
  pub stops : IsFault tokens fault
  pub reads : Answers tokens (read_module turns (map read tokens)) (Err fault)
  pub at : ℕ
  pub stands : offset_of fault ≡ Some at
  pub place_is : IsPlace (chars bytes) at place

-- the finding that comes first of these
pub record IsFound (lines : List ℕ) (pairs : List Pair) (rule : ℕ) (place : Place) : Type 0 where
  pub at : ℕ
  pub first : IsFirst (record { rule = rule; at = at }) pairs
  pub place_is : IsToldFor lines at place

abbrev pub IsEarly : List ℕ → Module → ModuleFault → Type 0
IsEarly lines tree (Early place rule) = IsFound lines (early_pairs tree) rule place
IsEarly lines tree OutOfMemory = Unit {0}
IsEarly lines tree _ = ⊥

abbrev pub IsOutside : List ℕ → Module → ModuleFault → Type 0
IsOutside lines tree (Outside place rule) = IsFound lines (outside_pairs tree) rule place
IsOutside lines tree OutOfMemory = Unit {0}
IsOutside lines tree _ = ⊥

-- a fault of a tree that is spelled
abbrev pub IsMisfit : List ℕ → Module → ModuleFault → Type 0
IsMisfit lines tree (Early place rule) = IsFound lines (early_pairs tree) rule place
IsMisfit lines tree (Outside place rule) = (early_pairs tree ≡ []) × IsFound lines (outside_pairs tree) rule place
IsMisfit lines tree OutOfMemory = Unit {0}
IsMisfit lines tree _ = ⊥

pub record HasMisfit (bytes : List ℕ) (fault : ModuleFault) : Type 0 where
  pub tree : Module
  pub spelled : IsSpelled bytes tree
  pub misfit : IsMisfit (chars bytes) tree fault

-- the fault of a module's bytes
abbrev pub HasFault : List ℕ → ModuleFault → Type 0
HasFault bytes FileTooLong = 4194304 < length bytes
HasFault bytes (NotUtf8 at) = (length bytes ≤ 4194304) × IsValidUpTo bytes at
HasFault bytes (Parse place fault) = IsNoModule bytes fault place
HasFault bytes (Early place rule) = HasMisfit bytes (Early place rule)
HasFault bytes (Outside place rule) = HasMisfit bytes (Outside place rule)
HasFault bytes OutOfMemory = ⊥

-- what is answered where no module is read: memory that runs out says nothing
abbrev pub Refuses : List ℕ → ModuleFault → Type 0
Refuses bytes OutOfMemory = Unit {0}
Refuses bytes fault = HasFault bytes fault
