use Rattle.std.proofs.Common.{refl}
use Rattle.program_runs.proofs.HostLists.{put_event, put_rose, put_keeps}
use Rattle.program_runs.proofs.asking.ask.Goals as goal

pub returns-clause-talks : goal.returns-clause-talks
returns-clause-talks g c =
    put_event _ c.args.hosts.now c.args.event.now.host c.ask_one.new.entry c.index-hosts-event.result c.requires
    c.args.event.now c.list.result.now c.ask_one.result refl c.list.ensures c.ask_one.ensures.told

pub returns-clause-failed : goal.returns-clause-failed
returns-clause-failed g c = λ is.
    put_rose _ c.args.hosts.now c.args.event.now.host c.ask_one.new.entry c.index-hosts-event.result c.requires (c.ask_one.ensures.failed is)

pub returns-clause-keeps : goal.returns-clause-keeps
returns-clause-keeps g c =
    put_keeps _ _ c.args.hosts.now c.args.event.now.host c.ask_one.new.entry c.index-hosts-event.result c.requires c.ask_one.ensures.name
    c.ask_one.ensures.no_fall
