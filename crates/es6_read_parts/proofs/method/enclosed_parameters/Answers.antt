use Rattle.es6_cursor.specs.Readers.{inner}
use Rattle.es6_read_parts.proofs.Entered.{in_parameters}
use Rattle.es6_read_parts.proofs.method.enclosed_parameters.Goals as goal

pub returns : goal.returns
returns g c = rw (in_parameters (inner c.args.room) c.args.setter c.args.cursor.now c.enter.new.cursor c.in_ok-enter.field-0 c.in_ok-enter.ensures) c.accessor_parameters.ensures
