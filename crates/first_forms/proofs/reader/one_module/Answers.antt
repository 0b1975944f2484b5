use Rattle.first_forms.proofs.Completeness.{one-module}
use Rattle.first_forms.proofs.reader.one_module.Goals as goal

pub returns : goal.returns
returns c = one-module
