-- What code answers for a step, and what that is to the definitions.
use Rattle.std.specs.Prelude.{◌≡◌, Err, Ok, Result}
use Rattle.runs.specs.Run.{Asks, Ends, Leaves}
use Rattle.shared_meaning.specs.Ending as ending
use Rattle.core_state.specs.declared.state.State.{State as StateOf}
use Rattle.core_meaning.specs.Calls.{reply_of}
use Rattle.core_meaning.specs.Rows.{Entered as EnteredBy, Given, Next, controls, with_control}
use Rattle.core_meaning.specs.State.{CoreValue, Hand, Sorts}
use Rattle.core_moves.specs.declared.moves.Finish.{Finish}
use Rattle.core_moves.specs.declared.moves.Finish.TheVariants as finish
use Rattle.core_moves.specs.declared.moves.Move.{Move}
use Rattle.core_moves.specs.declared.moves.Move.TheVariants as move
use Rattle.core_moves.specs.declared.moves.Entered.{Entered}

-- the types of what a core of modules has besides, as the definitions take them
abbrev pub sorts : Type 0 → Type 0 → Type 0 → Sorts
sorts M O W = record { Mark = M; Own = O; Work = W }

abbrev pub finish_of : Finish → ending.Finish
finish_of finish.Ended = ending.Ended
finish_of (finish.Threw seen) = ending.Threw seen

-- What the definitions say where code gives this answer and leaves this state: the answer of a host is handed in.
abbrev pub next_of : {M O W S : Type 0} → Move M → StateOf M O W S → Next (sorts M O W) S
next_of (move.Goes control) st = controls control st
next_of (move.Asks event) st = Asks event (λ reply. with_control (Hand (reply_of reply)) st)
next_of (move.Ends end) st = Ends (finish_of end)
next_of (move.Leaves number site) st = Leaves (record { number = number; site = site })

-- a step did what its definition says, or found no memory
abbrev pub Steps : {M O W S E : Type 0} → Result (Move M) E → StateOf M O W S → Next (sorts M O W) S → Type 0
Steps (Ok m) st next = next_of m st ≡ next
Steps (Err e) st next = Unit {0}

-- a value was made, and the state is what its making leaves
abbrev pub Makes : {M O W S E : Type 0} → Result (CoreValue M) E → StateOf M O W S → Given (sorts M O W) S → Type 0
Makes (Ok v) st given = (v ≡ given.value) × (st ≡ given.state)
Makes (Err e) st given = Unit {0}

-- what a call begins with was found, and the state is what entering leaves
abbrev pub Enters : {M O W S E : Type 0} → Result (Entered M O) E → StateOf M O W S → EnteredBy (sorts M O W) S → Type 0
Enters (Ok e) st entered = (e.own ≡ entered.own) × (e.names ≡ entered.names) × (st ≡ entered.state)
Enters (Err e) st entered = Unit {0}
