use Rattle.std.proofs.Common.{List, ◌++◌, take}
use Rattle.module_endings.specs.declared.place.Place.{Place}
use Rattle.module_endings.specs.Webs.{AreWanted, IsSized}
use Rattle.module_endings.proofs.wanted.Wanted.want.Given as goal

abbrev pub invariant-loop-place : goal.invariant-loop-place
invariant-loop-place l =
    IsSized l.self.web × ((before : List Place) → AreWanted before l.initial.self → AreWanted (before ++ take l.place-index l.places) l.self)
