use Rattle.std.proofs.Common.{◌≡◌, List, ◌++◌, drop, append-nil, sym, ap, ◌∙◌}
use Rattle.core_ast.specs.declared.parts.ScopedName.{ScopedName}
use Rattle.lower_flow.proofs.StandIns.{no_dead}
use Rattle.lower_flow.proofs.for_of.stand_ins.Goals as goal

pub returns-in_default : goal.returns-in_default
returns-in_default c =
    let made : List ScopedName = c.loop-name.made in
    sym (append-nil made)
    ∙ ap (λ (xs : List ScopedName). made ++ xs) (sym (no_dead (drop c.loop-name.name-index c.args.names.now) c.loop-name.rest.now c.in_default.ensures.cases))
    ∙ c.loop-name.invariant
