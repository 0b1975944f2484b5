use Rattle.emission_laws.proofs.Script.{emitted_are_printable}
use Rattle.emission_laws.proofs.emitted_scripts_may_be_printed.Goals as goal

pub returns : goal.returns
returns c = emitted_are_printable
