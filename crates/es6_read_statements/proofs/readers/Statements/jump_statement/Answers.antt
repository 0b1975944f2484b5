use Rattle.es6_cursor.specs.Readers.{inner}
use Rattle.es6_read_statements.proofs.OtherWords.{no_jump}
use Rattle.es6_read_statements.proofs.readers.Statements.jump_statement.Goals as goal

pub returns : goal.returns
returns g c = rw (no_jump (inner c.args.self.now.here.room) c.args.self.now.here.flags c.args.stand c.args.begin c.args.cursor.now c.take_word.new.self c.take_word-2.new.self c.take_word-3.new.self c.take_word-4.new.self (rw c.if-take_word.false at c.take_word.ensures) (rw c.if-take_word-2.false at c.take_word-2.ensures) (rw c.if-take_word-3.false at c.take_word-3.ensures) (rw c.if-take_word-4.false at c.take_word-4.ensures)) c.return_or_other.ensures
