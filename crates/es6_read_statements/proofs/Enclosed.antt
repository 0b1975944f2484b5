-- What is read behind the bracket that opens a construct.
use Rattle.std.proofs.Common.{◌≡◌, true, List, ap, ◌∙◌}
use Rattle.es6_lexer.specs.declared.token.Punctuator.{Punctuator as Mark}
use Rattle.es6_lexer.specs.declared.token.Punctuator.TheVariants as marks
use Rattle.es6_ast.specs.declared.settings.Flags.{Flags}
use Rattle.es6_ast.specs.Tokens.{Filled}
use Rattle.es6_reading.specs.Parser.{Input, Inner, Parser, Took, returns, group}
use Rattle.es6_reading.specs.Statements.{cases, catch_parameter, for_header, parenthesized}
use Rattle.es6_cursor.specs.declared.halt.Halt.{Halt}
use Rattle.es6_cursor.specs.declared.halt.Halt.TheVariants.{Stopped, OutOfMemory}
use Rattle.es6_cursor.specs.Reads.{Halts}
use Rattle.es6_cursor.proofs.Groups.{entered, refused}
use Rattle.es6_read_statements.specs.Enclosed.{case_block, closed_expression, enclosed_header, enclosed_parameter}

shut : {A : Type 0} (i : Inner) (p : Mark) (r : Parser A) (c : Input) (halt : Halt) (ts : List Filled) → Halts (group i p (returns (tt {0})) c) halt ts → Halts (group i p r c) halt ts
shut i p r c (Stopped stop) ts h = refused i p r c stop ts h
shut i p r c OutOfMemory ts h = tt

pub in_parentheses : (i : Inner) (f : Flags) (c d : Input) (u : Unit {0}) → group i marks.LeftParenthesis (returns (tt {0})) c ≡ Took u d → parenthesized i f c ≡ closed_expression i f d
unfolding parenthesized closed_expression
in_parentheses i f c d u h = entered i marks.LeftParenthesis _ c d u h

pub no_parentheses : (i : Inner) (f : Flags) (c : Input) (halt : Halt) (ts : List Filled) → Halts (group i marks.LeftParenthesis (returns (tt {0})) c) halt ts → Halts (parenthesized i f c) halt ts
unfolding parenthesized
no_parentheses i f c halt ts h = shut i marks.LeftParenthesis _ c halt ts h

pub in_header : (i : Inner) (f : Flags) (c d : Input) (u : Unit {0}) → group i marks.LeftParenthesis (returns (tt {0})) c ≡ Took u d → enclosed_header i f c ≡ for_header i f d
unfolding enclosed_header
in_header i f c d u h = entered i marks.LeftParenthesis (for_header i f) c d u h

pub no_header : (i : Inner) (f : Flags) (c : Input) (halt : Halt) (ts : List Filled) → Halts (group i marks.LeftParenthesis (returns (tt {0})) c) halt ts → Halts (enclosed_header i f c) halt ts
unfolding enclosed_header
no_header i f c halt ts h = shut i marks.LeftParenthesis (for_header i f) c halt ts h

pub in_block : (i : Inner) (f : Flags) (c d : Input) (u : Unit {0}) → group i marks.LeftBrace (returns (tt {0})) c ≡ Took u d → case_block i f c ≡ cases i f true i.fuel d
unfolding case_block
in_block i f c d u h = entered i marks.LeftBrace (cases i f true i.fuel) c d u h

pub no_block : (i : Inner) (f : Flags) (c : Input) (halt : Halt) (ts : List Filled) → Halts (group i marks.LeftBrace (returns (tt {0})) c) halt ts → Halts (case_block i f c) halt ts
unfolding case_block
no_block i f c halt ts h = shut i marks.LeftBrace (cases i f true i.fuel) c halt ts h

pub in_parameter : (i : Inner) (f : Flags) (c d : Input) (u : Unit {0}) → group i marks.LeftParenthesis (returns (tt {0})) c ≡ Took u d → enclosed_parameter i f c ≡ catch_parameter i f d
unfolding enclosed_parameter
in_parameter i f c d u h = entered i marks.LeftParenthesis (catch_parameter i f) c d u h

pub no_parameter : (i : Inner) (f : Flags) (c : Input) (halt : Halt) (ts : List Filled) → Halts (group i marks.LeftParenthesis (returns (tt {0})) c) halt ts → Halts (enclosed_parameter i f c) halt ts
unfolding enclosed_parameter
no_parameter i f c halt ts h = shut i marks.LeftParenthesis (catch_parameter i f) c halt ts h
