use Rattle.std.proofs.Common.{ℕ, List, ap, subst, ◌∙◌}
use Rattle.core_ast.specs.declared.tree.CoreStat.{CoreStat}
use Rattle.script_lowering.specs.Gathering.{Gathers}
use Rattle.script_lowering.specs.Reading.{Taken, variable_named}
use Rattle.script_lowering.proofs.Declarations.{initialized_behind}
use Rattle.script_lowering.proofs.+walk.Goals as goal

pub walk::declaration-returns : goal.walk::declaration-returns
walk::declaration-returns t c =
    let P : Taken (List CoreStat) → Type 0 = λ taken. Gathers c.initialized.result c.initialized.new.reading taken in
    let var = c.in_ok-var.ensures ∙ ap (λ (name : List ℕ). variable_named name c.args.reading.now) c.bytes.ensures in
    subst P
    (initialized_behind c.args.sites c.args.source.now c.args.before c.in_ok-var.var c.args.reading.now c.variable_named.new.self var)
    c.initialized.ensures
