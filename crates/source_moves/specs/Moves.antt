-- What code answers for a step, and what that is to the definitions.
use Rattle.std.specs.Prelude.{◌≡◌, Err, Ok, Result}
use Rattle.runs.specs.Run.{Asks, Ends, Leaves}
use Rattle.shared_meaning.specs.Ending as ending
use Rattle.source_meaning.specs.Calls.{reply_of}
use Rattle.source_state.specs.declared.state.State.{State as StateOf}
use Rattle.source_meaning.specs.State.{Hand, State, Work}
use Rattle.source_meaning.specs.Steps.{Next, controls, with_control}
use Rattle.source_moves.specs.Seen.{state_of}
use Rattle.source_moves.specs.declared.moves.Finish.{Finish}
use Rattle.source_moves.specs.declared.moves.Finish.TheVariants as finish
use Rattle.source_moves.specs.declared.moves.Move.{Move}
use Rattle.source_moves.specs.declared.moves.Move.TheVariants as move

abbrev pub finish_of : Finish → ending.Finish
finish_of finish.Ended = ending.Ended
finish_of (finish.Threw seen) = ending.Threw seen

-- What the definitions say where code gives this answer and leaves this state: the answer of a host is handed in.
abbrev pub next_of : Move → State → Next
next_of (move.Goes control) st = controls control st
next_of (move.Asks event) st = Asks event (λ reply. with_control (Hand (reply_of reply)) st)
next_of (move.Ends end) st = Ends (finish_of end)
next_of (move.Leaves number site) st = Leaves (record { number = number; site = site })

-- a step did what its definition says, or found no memory
abbrev pub Steps : {W E : Type 0} → (W → Work) → Result Move E → StateOf W → Next → Type 0
Steps seen (Ok m) st next = next_of m (state_of seen st) ≡ next
Steps seen (Err e) st next = Unit {0}
