use Rattle.es6_reading.proofs.Examples.{are-stopped}
use Rattle.es6_reading.proofs.other_texts_stop_where_no_module_goes_on.Goals as goal

pub returns : goal.returns
returns c = are-stopped
