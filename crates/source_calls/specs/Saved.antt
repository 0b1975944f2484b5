-- A context as it is saved where a generator is made (ECMA-262, 6th edition, 25.3.3.1).
use Rattle.std.specs.Prelude.{[], ◌∷◌}
use Rattle.source_meaning.specs.State.{Context, Work}

-- this work alone is pending
abbrev pub context_alone : Work → Context → Context
context_alone w k = record k { frames = record { place = k.place; work = w } ∷ [] }
