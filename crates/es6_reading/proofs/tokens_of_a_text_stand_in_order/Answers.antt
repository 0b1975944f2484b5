use Rattle.es6_reading.proofs.Ordered.{order}
use Rattle.es6_reading.proofs.tokens_of_a_text_stand_in_order.Goals as goal

pub returns : goal.returns
returns c = order
