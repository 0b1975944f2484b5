-- Calls as code enters them.
use Rattle.std.specs.Prelude.{None, Option, Some, [], ◌∷◌}
use Rattle.es_outside.specs.declared.events.Site.{Site}
use Rattle.es_value.specs.declared.value.Value.{Value}
use Rattle.core_ast.specs.declared.parts.Var.{Var}
use Rattle.core_state.specs.declared.state.State.{State as StateOf}
use Rattle.core_meaning.specs.Calls.{binding, undefined_binding}
use Rattle.core_meaning.specs.Rows.{Entered as EnteredBy, or_else, place_of}
use Rattle.core_meaning.specs.State.{Binding, Context, Environment, Sorts, User}
use Rattle.core_moves.specs.Moves.{sorts}
use Rattle.core_moves.specs.declared.moves.Entered.{Entered}

-- a parameter with its argument, if there is one
abbrev pub passed_at : {M : Type 0} → Var → Option Value → Binding M
passed_at x None = undefined_binding x
passed_at x (Some v) = binding x (User v)

-- what a call begins with, and the state beside it
abbrev pub entered_as : {M O W S : Type 0} → Entered M O → StateOf M O W S → EnteredBy (sorts M O W) S
entered_as e st = record { own = e.own; names = e.names; state = st }

-- the context of a call, which has no frames yet
abbrev pub context_of : {M O W S : Type 0} → Environment → Value → Option Site → O → StateOf M O W S → Context M O W
context_of {M} {O} {W} e receiver site own st =
    let s : Sorts = sorts M O W in
    record { environment = e; receiver = receiver; site = or_else site (place_of {s = s} st); own = own; frames = [] }

-- a new context, above the present one
abbrev pub context_entered : {M O W S : Type 0} → Context M O W → StateOf M O W S → StateOf M O W S
context_entered context st = record st { callers = st.context ∷ st.callers; context = context }
