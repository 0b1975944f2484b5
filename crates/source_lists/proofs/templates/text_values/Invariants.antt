use Rattle.std.proofs.Common.{◌≡◌, take}
use Rattle.source_meaning.specs.Lists.{text_values}
use Rattle.source_lists.proofs.templates.text_values.Given as goal

abbrev pub invariant-loop-text : goal.invariant-loop-text
invariant-loop-text l = l.values ≡ text_values (take l.text-index l.texts)
