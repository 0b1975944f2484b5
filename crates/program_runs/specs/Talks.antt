-- What hosts tell of their talks with a run, one host after the other.
use Rattle.std.specs.Prelude.{ℕ, List, [], ◌∷◌, map, Option, None, option_map, slice_index_or, slice_set}
use Rattle.es_outside.specs.declared.primitive.Primitive.{Primitive}
use Rattle.es_outside.specs.declared.events.Event.{Event}
use Rattle.es_outside.specs.declared.host.HostAnswer.{HostAnswer}
use Rattle.es_outside.specs.declared.host.HostAnswer.TheVariants as answer
use Rattle.es_outside.specs.declared.host.Reply.{Reply}
use Rattle.es_outside.specs.declared.host.Reply.TheVariants.{Give, Throw}
use Rattle.es_outside.specs.declared.talk.Talk.{Talk}
use Rattle.es_outside.specs.Talk.{talk_after}

-- what each host tells, where it tells something
abbrev pub Talks : Type 0
Talks = List (Option Talk)

-- after a call of the host with this number, and its answer
abbrev pub talks_after : ℕ → List Primitive → HostAnswer → Talks → Talks
talks_after host args answer talks =
    slice_set talks host (option_map (talk_after args answer) (slice_index_or talks host None))

-- an event, and the reply of its host
pub record Turn : Type 0 where
  pub event : Event
  pub reply : Reply

abbrev pub events_of : List Turn → List Event
events_of turns = map (λ turn. turn.event) turns

abbrev pub replies_of : List Turn → List Reply
replies_of turns = map (λ turn. turn.reply) turns

abbrev pub answer_of : Reply → HostAnswer
answer_of (Give value) = answer.Give value
answer_of (Throw value) = answer.Throw value

-- after one event and its answer
abbrev pub asked : Event → HostAnswer → Talks → Talks
asked event answer talks = talks_after event.host event.args answer talks

-- after these turns: each host heard the arguments of its own events in order, and gave the replies to them
abbrev pub talked : List Turn → Talks → Talks
talked [] talks = talks
talked (turn ∷ turns) talks = talked turns (asked turn.event (answer_of turn.reply) talks)
