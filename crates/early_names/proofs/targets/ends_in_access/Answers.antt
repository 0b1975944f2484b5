use Rattle.std.proofs.Common.{◌∙◌}
use Rattle.es6_static_semantics.specs.Early.{LinkFound, link_found}
use Rattle.early_names.proofs.Fits.{ends_in_access-last}
use Rattle.early_names.proofs.targets.ends_in_access.Goals as goal

pub returns-in-Some : goal.returns-in-Some
returns-in-Some c =
    c.is_access.ensures ∙ ends_in_access-last (λ (l : LinkFound). l.access) link_found c.args.links.now c.in-Some.link.now c.in-Some.ensures.value
