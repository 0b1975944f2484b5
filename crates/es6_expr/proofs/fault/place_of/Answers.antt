use Rattle.std.proofs.Common.{sym}
use Rattle.es6_expr.proofs.LastToken.{end_place}
use Rattle.es6_expr.proofs.fault.place_of.Goals as goal

pub returns-in-None-Some : goal.returns-in-None-Some
returns-in-None-Some c = end_place c.args.tokens.now c.args.rest.now c.in-None-Some.last.now (sym c.in-None-Some.ensures.value) (sym c.in-None-Some.ensures'.value)
