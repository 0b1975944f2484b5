use Rattle.es6_cursor.specs.Readers.{inner}
use Rattle.es6_read_parts.proofs.Entered.{in_class}
use Rattle.es6_read_parts.proofs.class.class_body.Goals as goal

pub returns : goal.returns
returns g c = rw (in_class (inner c.args.room) c.args.flags c.args.cursor.now c.enter.new.cursor c.in_ok-enter.field-0 c.in_ok-enter.ensures) c.members.ensures
