-- The lines that say why a graph is refused.
use Rattle.std.specs.Prelude.{ℕ, ◌+◌, Bool, true, false, List, [], ◌∷◌, ◌++◌, codes}
use Rattle.std.specs.Fmt.{decimal}
use Rattle.es_text.specs.declared.Place.{Place}
use Rattle.es6_lexer.specs.declared.token.LexicalKind.{LexicalKind}
use Rattle.es6_lexer.specs.declared.token.LexicalKind.TheVariants.{BadCharacter, IdentifierEscape, OpenString, OpenTemplate, OpenComment, BadEscape, LegacyOctal, BadNumber}
use Rattle.graph_refusals.specs.declared.fault.FileFault.{FileFault}
use Rattle.graph_refusals.specs.declared.fault.FileFault.TheVariants.{Missing, ReadFailed, FileTooLong, GraphTooLong, NotUtf8, At}
use Rattle.graph_refusals.specs.declared.fault.PlacedFault.{PlacedFault}
use Rattle.graph_refusals.specs.declared.fault.PlacedFault.TheVariants.{Lexical, Syntax, TooDeep, Early, Outside, TooManyModules, BadSpecifier, MissingModule, Unresolved, Ambiguous}
use Rattle.graph_refusals.specs.declared.fault.Refusal.{Refusal}
use Rattle.graph_refusals.specs.Quoted.{quoted, name_units}

abbrev pub kind_text : LexicalKind → List ℕ
kind_text BadCharacter = codes "BadCharacter"
kind_text IdentifierEscape = codes "IdentifierEscape"
kind_text OpenString = codes "OpenString"
kind_text OpenTemplate = codes "OpenTemplate"
kind_text OpenComment = codes "OpenComment"
kind_text BadEscape = codes "BadEscape"
kind_text LegacyOctal = codes "LegacyOctal"
kind_text BadNumber = codes "BadNumber"

-- a place as it is printed, from 1
abbrev pub place_text : Place → List ℕ
place_text place = codes ":" ++ decimal (place.line + 1) ++ codes ":" ++ decimal (place.column + 1)

-- what stands at the place
abbrev pub finding_text : PlacedFault → List ℕ
finding_text (Lexical kind) = codes "lexical fault " ++ kind_text kind
finding_text Syntax = codes "syntax fault"
finding_text TooDeep = codes "too deep"
finding_text (Early rule) = codes "early error E" ++ decimal rule
finding_text (Outside rule) = codes "outside the profile U" ++ decimal rule
finding_text TooManyModules = codes "too many modules"
finding_text (BadSpecifier specifier) = codes "bad specifier " ++ quoted specifier
finding_text (MissingModule specifier) = codes "missing module " ++ quoted specifier
finding_text (Unresolved name) = codes "unresolved name " ++ quoted (name_units name)
finding_text (Ambiguous name) = codes "ambiguous name " ++ quoted (name_units name)

-- what stands behind the path
abbrev pub fault_text : FileFault → List ℕ
fault_text Missing = codes ": missing"
fault_text ReadFailed = codes ": read fault"
fault_text FileTooLong = codes ": file too long"
fault_text GraphTooLong = codes ": graph too long"
fault_text (NotUtf8 at) = codes ": not UTF-8 at byte " ++ decimal at
fault_text (At place fault) = place_text place ++ (codes ": " ++ finding_text fault)

abbrev pub line_of : Refusal → List ℕ
line_of refusal = refusal.path ++ fault_text refusal.fault ++ 10 ∷ []

-- the faults of a module that is beyond a limit
abbrev pub is_placed_limit : PlacedFault → Bool
is_placed_limit TooDeep = true
is_placed_limit TooManyModules = true
is_placed_limit _ = false

abbrev pub is_limit : FileFault → Bool
is_limit FileTooLong = true
is_limit GraphTooLong = true
is_limit (At place fault) = is_placed_limit fault
is_limit _ = false
