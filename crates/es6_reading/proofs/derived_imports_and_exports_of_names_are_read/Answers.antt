use Rattle.es6_reading.proofs.CompleteExports.{links-are-read}
use Rattle.es6_reading.proofs.derived_imports_and_exports_of_names_are_read.Goals as goal

pub returns : goal.returns
returns c = links-are-read
