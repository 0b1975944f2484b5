-- What is read behind the mark that opens a construct.
use Rattle.std.proofs.Common.{◌≡◌, ℕ, Bool, false}
use Rattle.es6_lexer.specs.declared.token.Punctuator.TheVariants as marks
use Rattle.es6_ast.specs.declared.settings.Flags.{Flags}
use Rattle.es6_ast.specs.Grammar.{of_function}
use Rattle.es6_reading.specs.Parser.{Input, Inner, Took, returns, group}
use Rattle.es6_reading.specs.Parts.{accessor_parameters, binding_pattern, function_body, members, statements}
use Rattle.es6_read_parts.specs.Accessors.{enclosed_parameters}
use Rattle.es6_read_parts.specs.Classes.{class_body}
use Rattle.es6_read_parts.specs.Patterns.{object_pattern}
use Rattle.es6_cursor.specs.Groups.{Enters}
use Rattle.es6_cursor.proofs.Groups.{entered, off_open}

pub in_body : (i : Inner) (generator : Bool) (c d : Input) (u : Unit {0}) → group i marks.LeftBrace (returns (tt {0})) c ≡ Took u d → function_body i generator c ≡ statements i (of_function generator) i.fuel d
unfolding function_body
in_body i generator c d u h = entered i marks.LeftBrace _ c d u h

pub in_parameters : (i : Inner) (setter : Bool) (c d : Input) (u : Unit {0}) → group i marks.LeftParenthesis (returns (tt {0})) c ≡ Took u d → enclosed_parameters i setter c ≡ accessor_parameters i setter d
unfolding enclosed_parameters
in_parameters i setter c d u h = entered i marks.LeftParenthesis _ c d u h

pub in_class : (i : Inner) (f : Flags) (c d : Input) (u : Unit {0}) → group i marks.LeftBrace (returns (tt {0})) c ≡ Took u d → class_body i f c ≡ members i f i.fuel d
unfolding class_body
in_class i f c d u h = entered i marks.LeftBrace _ c d u h

pub no_array : (i : Inner) (f : Flags) (at : ℕ) (c d : Input) → Enters i marks.LeftBracket c false d → binding_pattern i f at c ≡ object_pattern i f at d
unfolding binding_pattern object_pattern
no_array i f at c d h = off_open i marks.LeftBracket _ _ c d h
