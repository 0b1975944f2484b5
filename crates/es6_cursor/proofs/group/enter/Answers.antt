use Rattle.std.proofs.lemmas.Result.{err_from_is_err_and}
use Rattle.es6_reading.specs.Parser.{group, returns}
use Rattle.es6_cursor.specs.Readers.{inner}
use Rattle.es6_cursor.specs.Reads.{Halts}
use Rattle.es6_cursor.proofs.Groups.{shut_group}
use Rattle.es6_cursor.proofs.group.enter.Goals as goal

pub returns-in_err-open : goal.returns-in_err-open
returns-in_err-open c =
    let fault : Halts (group (inner c.args.room) c.args.punctuator (returns (tt {0})) c.args.cursor.now) c.in_err-open.field-0.0 c.open.new.cursor.tokens = shut_group (inner c.args.room) c.args.punctuator c.args.cursor.now c.in_err-open.field-0.0 c.open.new.cursor.tokens c.in_err-open.ensures in
    let p = err_from_is_err_and c.from_residual.result c.from_residual.ensures.1 in
    rw (p.1, p.2) fault
