use Rattle.std.proofs.Common.{◌≡◌, map, drop}
use Rattle.first_forms.specs.Names.{is_one_of}
use Rattle.first_forms.proofs.names.is_among.Given as goal

abbrev pub invariant-loop-word : goal.invariant-loop-word
invariant-loop-word l = is_one_of l.name (map (λ w. w.now) (drop l.word-index l.words)) ≡ is_one_of l.name (map (λ w. w.now) l.words)
