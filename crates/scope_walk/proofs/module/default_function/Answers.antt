use Rattle.std.proofs.lemmas.Result.{on_ok_weaker}
use Rattle.scope_rules.specs.declared.kinds.Kind.TheVariants as kind
use Rattle.scope_walk.proofs.Parts.{default_met}
use Rattle.scope_walk.proofs.module.default_function.Goals as goal

pub returns : goal.returns
returns c = on_ok_weaker c.function.result (λ e. default_met kind.Function c.args.node.now c.args.word c.args.marks.now c.declare_default.new.self c.function.new.marks c.in_ok-declare_default.ensures e) c.function.ensures
