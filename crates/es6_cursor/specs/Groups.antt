-- What opens a construct.
use Rattle.std.specs.Prelude.{◌≡◌, Bool, true, false, Option, Some, None, Result, Ok, Err}
use Rattle.es6_lexer.specs.declared.token.Punctuator.{Punctuator as Mark}
use Rattle.es6_ast.specs.declared.tree.Stretch.{Stretch}
use Rattle.es6_reading.specs.Parser.{Input, Inner, Parser, next_mark, returns, on_group}
use Rattle.es6_reading.specs.Words.{stretch_at}
use Rattle.es6_reading.specs.Parts.{on_opening}
use Rattle.es6_cursor.specs.declared.halt.Halt.{Halt}
use Rattle.es6_cursor.specs.Takes.{Takes}
use Rattle.es6_cursor.specs.Reads.{Halts}

-- the answer says whether the mark is taken, which it is only where one more construct may open
pub record Enters (i : Inner) (p : Mark) (before : Input) (answer : Bool) (behind : Input) : Type 0 where
  pub taken : Takes (next_mark p) before answer behind
  pub may : answer ≡ true → i.may_open ≡ true

abbrev pub Opens : Inner → Mark → Input → Result Bool Halt → Input → Type 0
Opens i p c (Ok answer) d = Enters i p c answer d
Opens i p c (Err halt) d = Halts (on_group i p (returns (tt {0})) (returns (tt {0})) c) halt d.tokens

-- takes the first stretch of a template with values, if it is next (12.2.9)
abbrev pub opened_template : Inner → Parser (Option Stretch)
opened_template i = on_opening i (stretch_at true false) (λ s. returns (Some s)) (returns None)
