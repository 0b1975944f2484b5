use Rattle.std.proofs.Common.{◌≡◌, ◌++◌, drop}
use Rattle.lower_walk.proofs.written.text_of.Given as goal

abbrev pub invariant-loop-character : goal.invariant-loop-character
invariant-loop-character l = l.units.items ++ drop l.character-index l.characters ≡ l.characters
