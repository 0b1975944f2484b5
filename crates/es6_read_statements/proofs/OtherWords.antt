-- What follows the words of jumps other than `return` (ECMA-262, 6th edition, 13.8, 13.9, 13.14, 13.16).
use Rattle.std.proofs.Common.{◌≡◌, ◌∙◌, ℕ, false}
use Rattle.std.specs.Prelude.{codes}
use Rattle.es6_ast.specs.declared.settings.Flags.{Flags}
use Rattle.es6_ast.specs.declared.settings.Stand.{Stand}
use Rattle.es6_reading.specs.Parser.{Input, Inner, next_word}
use Rattle.es6_reading.specs.Statements.{jump_statement}
use Rattle.es6_cursor.specs.Takes.{Takes}
use Rattle.es6_cursor.proofs.Choices.{off_word}
use Rattle.es6_read_statements.specs.Variables.{return_or_more}

pub no_jump : (i : Inner) (f : Flags) (stand : Stand) (at : ℕ) (c d e g h : Input) → Takes (next_word (codes "continue")) c false d → Takes (next_word (codes "break")) d false e → Takes (next_word (codes "throw")) e false g → Takes (next_word (codes "debugger")) g false h → jump_statement i f stand at c ≡ return_or_more i f stand at h
unfolding jump_statement
no_jump i f stand at c d e g h no_continue no_break no_throw no_debugger = off_word (codes "continue") _ _ c d no_continue ∙ off_word (codes "break") _ _ d e no_break ∙ off_word (codes "throw") _ _ e g no_throw ∙ off_word (codes "debugger") _ _ g h no_debugger
