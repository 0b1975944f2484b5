use Rattle.std.proofs.lemmas.Result.{on_ok_weaker}
use Rattle.scope_rules.specs.declared.kinds.Kind.TheVariants as kind
use Rattle.scope_walk.proofs.Parts.{own_met}
use Rattle.scope_walk.proofs.+walk.Goals as goal

pub functions::own_function-returns : goal.functions::own_function-returns
functions::own_function-returns t c = on_ok_weaker c.end_own.result (λ e. own_met kind.OwnFunction c.args.node.now c.args.marks.now c.begin_own.new.marks c.function.new.marks c.end_own.new.marks c.in_ok-begin_own.ensures c.in_ok-function.ensures e) c.end_own.ensures
