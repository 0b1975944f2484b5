use Rattle.std.proofs.Common.{Some, unwrap_or, ap, ◌∙◌}
use Rattle.std.specs.HashMap.{get_by}
use Rattle.std.specs.Str.{bytes_eq}
use Rattle.es5_early.specs.Counts.{is_name}
use Rattle.es5_early.proofs.Stacks.{get_by-updates, unwrap_or-cond}
use Rattle.es5_early.proofs.names.set_count.Goals as goal

pub returns-clause-ok : goal.returns-clause-ok
returns-clause-ok c = λ other.
    let name = c.args.name.items in
    ap (λ found. unwrap_or found 0) (get_by-updates name c.args.counts.now c.insert.new.self (Some c.args.count) c.in_ok-insert.ensures.updates other)
    ∙ unwrap_or-cond (bytes_eq name other) c.args.count (get_by (is_name other) c.args.counts.now)
