use Rattle.std.proofs.Common.{◌∙◌}
use Rattle.std.proofs.lemmas.Result.{on_ok_weaker}
use Rattle.scope_rules.proofs.marks.Marks.declare_arguments.Goals as goal

pub returns : goal.returns
returns c = on_ok_weaker c.declare.result (λ e. e ∙ rw c.as_slice.ensures) c.declare.ensures
