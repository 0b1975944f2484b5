use Rattle.std.proofs.Common.{◌≡◌, drop}
use Rattle.source_meaning.specs.Lists.{template_in}
use Rattle.source_lists.proofs.templates.template_in.Given as goal

abbrev pub invariant-loop-template : goal.invariant-loop-template
invariant-loop-template l = template_in (drop l.template-index l.templates) l.raw ≡ template_in l.templates l.raw
