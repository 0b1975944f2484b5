use Rattle.std.proofs.Common.{◌≡◌, map, take, string_bytes}
use Rattle.es_outside.specs.NamedList.{names_of}
use Rattle.es_outside.proofs.hosts.Hosts.names.Given as goal

abbrev pub invariant-loop-name : goal.invariant-loop-name
invariant-loop-name g l = map (λ name. string_bytes name) l.list.items ≡ take l.name-index (names_of l.self.list.items)
