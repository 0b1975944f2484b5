use Rattle.module_links.proofs.Alike.{linkable, relinked}
use Rattle.module_linker.proofs.linking.link.Goals as goal

pub endings_of-requires : goal.endings_of-requires
endings_of-requires c = linkable c.args.graph.now c.requires

pub returns-clause-linked : goal.returns-clause-linked
returns-clause-linked c =
    relinked c.args.graph.now (record { modules = c.relink.new.modules }) c.args.hosts.now _ c.requires c.in_ok-endings.ensures c.relink.ensures
