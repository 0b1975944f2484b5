use Rattle.std.proofs.Common.{◌≡◌, drop}
use Rattle.std.specs.List.{list_any}
use Rattle.module_lowering.specs.Expressions.{has_site}
use Rattle.lower_chains.proofs.sites.is_sited.Given as goal

abbrev pub invariant-loop-link : goal.invariant-loop-link
invariant-loop-link l = list_any has_site (drop l.link-index l.links) ≡ list_any has_site l.links
