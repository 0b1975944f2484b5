use Rattle.std.proofs.Common.{◌+◌, arith}
use Rattle.es6_lexer.proofs.Spans.{sizes}
use Rattle.es6_lexer.proofs.lexer.fault.Goals as goal

pub utf8_length-requires : goal.utf8_length-requires
utf8_length-requires c = omega (arith, sizes c.args.rest.now c.args.at, c.requires.fits)

pub overflow_add-begin : goal.overflow_add-begin
overflow_add-begin c = omega (arith, sizes c.args.rest.now c.args.at, c.requires.fits, c.utf8_length.ensures)

pub utf8_length-requires-2 : goal.utf8_length-requires-2
utf8_length-requires-2 c = omega (arith, sizes c.args.rest.now (c.args.at + 1), c.requires.fits)

pub overflow_add-end : goal.overflow_add-end
overflow_add-end c = omega (arith, sizes c.args.rest.now (c.args.at + 1), c.requires.fits, c.utf8_length-2.ensures)
