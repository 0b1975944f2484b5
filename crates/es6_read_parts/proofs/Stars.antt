-- The `*` of a generator (ECMA-262, 6th edition, 14.4).
use Rattle.std.proofs.Common.{◌≡◌, Bool, true, false}
use Rattle.es6_lexer.specs.declared.token.Punctuator.TheVariants as marks
use Rattle.es6_reading.specs.Parser.{Input, Took, next_mark}
use Rattle.es6_reading.specs.Parts.{star}
use Rattle.es6_cursor.specs.Takes.{Takes}
use Rattle.es6_cursor.proofs.Choices.{on_mark, off_mark}

pub star_is : (c d : Input) (found : Bool) → Takes (next_mark marks.Star) c found d → star c ≡ Took found d
unfolding star
star_is c d true h = on_mark marks.Star _ _ c d h
star_is c d false h = off_mark marks.Star _ _ c d h
