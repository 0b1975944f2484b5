use Rattle.std.proofs.Common.{sym, subst}
use Rattle.std.proofs.lemmas.Result.{err_from_is_err_and}
use Rattle.first_forms.specs.Modules.{Spells}
use Rattle.first_forms.proofs.Faults.{spelled-memory, closed-spelled}
use Rattle.first_forms.proofs.Completeness.{one-module}
use Rattle.first_forms.proofs.reader.read_module.Goals as goal

pub returns-in_err-reader-clause-complete : goal.returns-in_err-reader-clause-complete
returns-in_err-reader-clause-complete c =
    λ m s.
    let p = err_from_is_err_and c.from_residual.result c.from_residual.ensures.1 in
    rw (p.1, p.2) (spelled-memory c.args.hosts.now c.args.tokens.now m c.in_err-reader.field-0.0 c.in_err-reader.ensures.fault s)

pub returns-clause-spelled : goal.returns-clause-spelled
returns-clause-spelled c =
    subst (Spells c.args.hosts.now c.args.tokens.now) (sym c.in_ok-into_module.ensures)
    (closed-spelled c.args.hosts.now c.args.tokens.now c.in_ok-reader.reader c.requires c.in_ok-reader.ensures.read)

pub returns-clause-complete : goal.returns-clause-complete
returns-clause-complete c =
    λ m s. one-module c.args.hosts.now c.args.tokens.now c.in_ok-into_module.field-0 m
    (subst (Spells c.args.hosts.now c.args.tokens.now) (sym c.in_ok-into_module.ensures)
    (closed-spelled c.args.hosts.now c.args.tokens.now c.in_ok-reader.reader c.requires c.in_ok-reader.ensures.read))
    s
