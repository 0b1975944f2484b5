use Rattle.std.proofs.Common.{◌≡◌, ◌+◌, drop, map, cond}
use Rattle.es5_printable.specs.Printable.{link_fit, sites_in}
use Rattle.es5_printable.proofs.expression_forms.has_one_site.Given as goal

abbrev pub invariant-loop-link : goal.invariant-loop-link
invariant-loop-link l = sites_in (map link_fit l.links) ≡ cond l.found 1 0 + sites_in (map link_fit (drop l.link-index l.links))
