use Rattle.es_outside.specs.HostList.{names}
use Rattle.commands.proofs.Outcomes.{split_at}
use Rattle.commands.proofs.split.split.Goals as goal

pub returns-clause-made : goal.returns-clause-made
returns-clause-made g c =
    split_at (names c.args.hosts.now) c.in_ok-host_names.host_names (g.F.Files.files c.args.files.now) c.args.path.now c.in_ok-text.text
    c.in_ok-host_names.ensures c.in_ok-text.ensures.made
