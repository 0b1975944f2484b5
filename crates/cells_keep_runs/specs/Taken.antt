-- What a value does that is handed to the top frame of related states.
use Rattle.std.specs.Prelude.{◌≡◌, List, [], ◌∷◌, None, ℕ}
use Rattle.core_ast.specs.declared.tree.CoreLink.{out-CoreLink}
use Rattle.core_ast.specs.declared.whole.Core.{Core}
use Rattle.core_meaning.specs.Marks.{CoreState, CoreWork, Heritage, Mark, PrototypeFor}
use Rattle.core_meaning.specs.Modules.{core_step}
use Rattle.core_meaning.specs.Rows.{with_control}
use Rattle.core_meaning.specs.State.{After, CoreValue, Fetch, Frame, Gives, Hand, Part, Work}
use Rattle.cells_keep_runs.specs.Acted.{IsAlikeOp, KindsAreKept}
use Rattle.cells_keep_runs.specs.Alike.{Alike}
use Rattle.cells_keep_runs.specs.Memory.{Seats}
use Rattle.cells_keep_runs.specs.Opened.{write_in}
use Rattle.cells_keep_runs.specs.Related.{Frames, Related, Stand}

-- neither a class whose heritage is read, nor a generator that its body makes
abbrev pub TakesWork : CoreWork → Type 0
TakesWork (Heritage f heritage links) = ⊥
TakesWork (PrototypeFor links) = ⊥
TakesWork w = Unit {0}

-- A frame is there: no shared name waits for the value, and what takes it is no operation on a name or a cell, and none that makes one, a
-- class or a member.
abbrev pub TakesHere : List ℕ → List (Frame Mark CoreWork) → Type 0
TakesHere owners [] = ⊥
TakesHere owners (After (l ∷ ls) ∷ fs) = write_in owners (out-CoreLink l) ≡ None
TakesHere owners (Part p ∷ fs) = IsAlikeOp p.op
TakesHere owners (Fetch base k p ∷ fs) = IsAlikeOp p.op
TakesHere owners (Work w ∷ fs) = TakesWork w
TakesHere owners (f ∷ fs) = Unit {0}

-- Such a frame takes the value alike.
abbrev pub ValuesAreTakenAlike : Type 0
ValuesAreTakenAlike = (core core2 : Core) (owners : List ℕ) (seats : Seats) (v : CoreValue Mark) (s t : CoreState)
    → KindsAreKept core core2 → TakesHere owners s.context.frames
    → Stand owners seats s t → Frames owners seats s.context.environment s.context.frames t.context.frames
    → Alike (Related owners seats) (core_step core (with_control (Hand (Gives v)) s)) (core_step core2 (with_control (Hand (Gives v)) t))
