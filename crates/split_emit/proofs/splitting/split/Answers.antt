-- What is written is written of the core of the scopes and the namespaces that were found.
use Rattle.split_emit.proofs.Whole.{split_of}
use Rattle.split_emit.proofs.splitting.split.Goals as goal

pub returns : goal.returns
returns c =
    split_of (λ ss. ss.items) c.args.graph.now c.args.hosts.now c.in_ok-scopes.scopes c.in_ok-namespaces.namespaces c.written_core.result
    c.in_ok-scopes.ensures c.in_ok-namespaces.ensures c.as_slice-2.ensures c.as_slice.ensures c.in_ok-core.ensures c.written_core.ensures
