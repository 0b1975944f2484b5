use Rattle.std.proofs.Common.{◌≡◌, drop}
use Rattle.core_meaning.specs.Rows.{users}
use Rattle.core_moves.specs.Values.{users_behind}
use Rattle.core_moves.proofs.values.users.Given as goal

abbrev pub invariant-loop-value : goal.invariant-loop-value
invariant-loop-value g l = users_behind l.list (drop l.value-index l.values) ≡ users l.values
