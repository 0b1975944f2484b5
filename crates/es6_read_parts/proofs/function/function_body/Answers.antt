use Rattle.es6_cursor.specs.Readers.{inner}
use Rattle.es6_read_parts.proofs.Entered.{in_body}
use Rattle.es6_read_parts.proofs.function.function_body.Goals as goal

pub returns : goal.returns
returns g c = rw (in_body (inner c.args.room) c.args.generator c.args.cursor.now c.enter.new.cursor c.in_ok-enter.field-0 c.in_ok-enter.ensures) (rw c.of_function.ensures at c.statements.ensures)
