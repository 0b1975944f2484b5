use Rattle.lowering_laws.proofs.Expressions.{calls_are_lawful, constructions_are_lawful, host_calls_are_lawful, spread_calls_are_lawful, spread_host_calls_are_lawful, tags_are_lawful}
use Rattle.lowering_laws.proofs.calls_are_lawful.Goals as goal

pub returns : goal.returns
returns c = record { calls = calls_are_lawful; spread = spread_calls_are_lawful; hosts = host_calls_are_lawful; spread_hosts = spread_host_calls_are_lawful; constructions = constructions_are_lawful; tags = tags_are_lawful }
