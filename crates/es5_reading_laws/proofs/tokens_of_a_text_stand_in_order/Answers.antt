use Rattle.es5_reading_laws.proofs.Ordered.{in-order}
use Rattle.es5_reading_laws.proofs.tokens_of_a_text_stand_in_order.Goals as goal

pub returns : goal.returns
returns c = in-order
