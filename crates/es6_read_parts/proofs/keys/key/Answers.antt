use Rattle.std.proofs.Common.{◌∙◌, ap, sym}
use Rattle.std.proofs.lemmas.Result.{err_from_is_err_and}
use Rattle.es6_lexer.specs.declared.token.Punctuator.TheVariants as marks
use Rattle.es6_ast.specs.Tokens.{begin_of}
use Rattle.es6_reading.specs.Parser.{Took, no_number}
use Rattle.es6_reading.specs.Parts.{key, computed_key}
use Rattle.es6_cursor.specs.Readers.{inner}
use Rattle.es6_cursor.specs.Reads.{Halts}
use Rattle.es6_cursor.proofs.Groups.{on_open}
use Rattle.es6_read_parts.proofs.PlacedKeys.{on_key, off_key, shut_key, no_key}
use Rattle.es6_read_parts.proofs.keys.key.Goals as goal

pub returns-in-Some : goal.returns-in-Some
returns-in-Some g c = on_key (inner c.args.room) c.args.flags c.args.cursor.now c.take_key.new.self c.in-Some.key (rw c.in-Some.is at c.in_ok-key.ensures) ∙ ap (λ k. Took k c.take_key.new.self) (sym c.placed_key.ensures)

pub returns-in_err-open : goal.returns-in_err-open
returns-in_err-open g c =
    let fault : Halts (key (inner c.args.room) c.args.flags c.args.cursor.now) c.in_err-open.field-0.0 c.open.new.cursor.tokens = shut_key (inner c.args.room) c.args.flags c.args.cursor.now c.take_key.new.self c.in_err-open.field-0.0 c.open.new.cursor.tokens (rw c.in_default.is at c.in_ok-key.ensures) c.in_err-open.ensures in
    let p = err_from_is_err_and c.from_residual-in_err-open.result c.from_residual-in_err-open.ensures.1 in
    rw (p.1, p.2) fault

pub returns-then-branch : goal.returns-then-branch
returns-then-branch g c =
    let i = inner c.args.room in
    let f = c.args.flags in
    let e = off_key i f c.args.cursor.now c.take_key.new.self (rw c.in_default.is at c.in_ok-key.ensures) in
    let o = on_open i marks.LeftBracket (computed_key i f (begin_of c.args.cursor.now.tokens)) no_number c.take_key.new.self c.open.new.cursor (rw c.if-branch.true at c.in_ok-open.ensures) in
    rw (e ∙ o) (rw c.begin-begin.ensures at c.computed_key.ensures)

pub returns : goal.returns
returns g c = no_key (inner c.args.room) c.args.flags c.args.cursor.now c.take_key.new.self c.open.new.cursor _ (rw c.in_default.is at c.in_ok-key.ensures) (rw c.if-branch.false at c.in_ok-open.ensures) c.no_number.ensures
