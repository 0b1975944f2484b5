use Rattle.std.proofs.Common.{◌≡◌, ℕ, ◌-◌, ◌<◌, suc, arith}
use Rattle.source_keys.proofs.Units.{limit_next, limit_whole}
use Rattle.source_keys.proofs.texts.followed.Goals as goal

pub push_units-requires : goal.push_units-requires
push_units-requires c = limit_whole c.args.begun.left c.args.begun.code c.requires

pub overflow_mul-result : goal.overflow_mul-result
overflow_mul-result c =
    let whole : c.args.begun.code < 4460608 = limit_whole c.args.begun.left c.args.begun.code c.requires in
    omega arith

pub overflow_add-result : goal.overflow_add-result
overflow_add-result c =
    let whole : c.args.begun.code < 4460608 = limit_whole c.args.begun.left c.args.begun.code c.requires in
    omega arith

pub returns-clause-within : goal.returns-clause-within
returns-clause-within c =
    let back : c.args.begun.left ≡ suc (c.args.begun.left - 1) = omega arith in
    let low : c.saturating_sub.result < 128 = omega arith in
    limit_next c.args.begun.left (c.args.begun.left - 1) c.args.begun.code c.saturating_sub.result back c.requires low
