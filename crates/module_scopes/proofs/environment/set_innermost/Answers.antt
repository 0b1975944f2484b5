use Rattle.std.proofs.Common.{Some, None, unwrap_or, ap, ◌∙◌}
use Rattle.std.specs.HashMap.{get_by}
use Rattle.std.specs.Str.{bytes_eq}
use Rattle.module_scopes.specs.Lookup.{is_name}
use Rattle.module_scopes.proofs.Stacks.{get_by-updates, unwrap_or-cond}
use Rattle.module_scopes.proofs.environment.set_innermost.Goals as goal

pub returns-clause-ok : goal.returns-clause-ok
returns-clause-ok c = λ other.
    let name = c.args.name.items in
    ap (λ found. unwrap_or found None) (get_by-updates name c.args.innermost.now c.insert.new.self (Some c.args.is_host) c.in_ok-insert.ensures.updates other)
    ∙ unwrap_or-cond (bytes_eq name other) c.args.is_host (get_by (is_name other) c.args.innermost.now)
