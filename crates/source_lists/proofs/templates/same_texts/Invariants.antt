use Rattle.std.proofs.Common.{◌≡◌, drop}
use Rattle.std.specs.Cmp.Lexicographic.{pointwise}
use Rattle.std.specs.Str.{bytes_eq}
use Rattle.source_lists.proofs.templates.same_texts.Given as goal

abbrev pub invariant-loop-index : goal.invariant-loop-index
invariant-loop-index l = pointwise bytes_eq (drop l.index l.one) (drop l.index l.other) ≡ pointwise bytes_eq l.one l.other
