use Rattle.std.proofs.Common.{◌∙◌, ap}
use Rattle.core_moves.proofs.UserLists.{users_whole}
use Rattle.core_moves.specs.Values.{users_behind}
use Rattle.core_moves.proofs.values.users.Goals as goal

pub loop-value-init : goal.loop-value-init
loop-value-init g c = ap (λ vs. users_behind vs c.args.values.now) c.new-list.ensures ∙ users_whole c.args.values.now
