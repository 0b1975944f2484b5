use Rattle.es6_cursor.specs.Readers.{inner}
use Rattle.es6_read_statements.proofs.Enclosed.{in_block}
use Rattle.es6_read_statements.proofs.readers.Statements.case_block.Goals as goal

pub returns : goal.returns
returns g c = rw (in_block (inner c.args.self.now.here.room) c.args.self.now.here.flags c.args.cursor.now c.enter.new.cursor c.in_ok-enter.field-0 c.in_ok-enter.ensures) c.cases.ensures
