use Rattle.std.proofs.Common.{◌≡◌, ◌-◌, take, length, vec_len}
use Rattle.es_outside.specs.HostList.{names}
use Rattle.commands.proofs.build.host_list.Given as goal

abbrev pub invariant-loop-name : goal.invariant-loop-name
invariant-loop-name g l = l.list.items ≡ take (vec_len l.list) (names l.hosts)

abbrev pub decreases-loop-name : goal.decreases-loop-name
decreases-loop-name g l = length (names l.hosts) - vec_len l.list
