use Rattle.std.proofs.Common.{sym, ◌∙◌, arith}
use Rattle.std.proofs.lemmas.List.{take_all}
use Rattle.module_links.proofs.Lists.{taken-more}
use Rattle.graph_namespaces.proofs.hosts.names_of.Goals as goal

pub loop-index-preserved : goal.loop-index-preserved
loop-index-preserved c = (
  taken-more c.args.hosts.now c.loop-index.index c.in-Some.name.now c.in_ok-of_bytes.field-0 c.loop-index.names c.push.new.self (sym c.in-Some.ensures)
      (c.in_ok-of_bytes.ensures ∙ c.as_bytes.ensures.value) c.in_ok-push.ensures.ok c.loop-index.invariant.0,
  omega arith,
)

pub returns : goal.returns
returns c = c.loop-index.invariant.0 ∙ take_all c.loop-index.index c.args.hosts.now (omega arith)
