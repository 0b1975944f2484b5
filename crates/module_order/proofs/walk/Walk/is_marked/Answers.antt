use Rattle.std.proofs.Common.{Bool, true, List, get_or, ap, ◌∙◌}
use Rattle.module_order.proofs.Gets.{default_read, item_read}
use Rattle.module_order.proofs.walk.Walk.is_marked.Goals as goal

pub returns-in-None : goal.returns-in-None
returns-in-None c =
    default_read c.as_slice.result.now c.args.number true c.in-None.ensures
    ∙ ap (λ (marks : List Bool). get_or marks c.args.number true) c.as_slice.ensures

pub returns-in-Some : goal.returns-in-Some
returns-in-Some c =
    item_read c.as_slice.result.now c.args.number c.in-Some.mark.now true c.in-Some.ensures
    ∙ ap (λ (marks : List Bool). get_or marks c.args.number true) c.as_slice.ensures
