use Rattle.std.proofs.Common.{refl, sym}
use Rattle.es5_text.proofs.LastToken.{from_first_to_last}
use Rattle.es5_text.proofs.parse.whole_span.Goals as goal

pub returns-in-Some-Some : goal.returns-in-Some-Some
returns-in-Some-Some c = from_first_to_last c.args.tokens.now c.in-Some-Some.first.now c.in-Some-Some.last.now _ (sym c.in-Some-Some.ensures.value) (sym c.in-Some-Some.ensures'.value) refl
