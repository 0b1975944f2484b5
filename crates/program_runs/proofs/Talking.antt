-- What comes of a talk.
use Rattle.std.proofs.Common.{◌≡◌, refl, ap, sym, ◌∙◌, ℕ, Bool, List, [], append-nil, Option, None, Some, Result, Err, option_map, slice_index_or, slice_set}
use Rattle.std.proofs.lemmas.List.{set-get_or}
use Rattle.es_outside.specs.Sinks.{Adds}
use Rattle.es_outside.specs.Talk.{talk_after}
use Rattle.es_outside.specs.declared.primitive.Primitive.{Primitive}
use Rattle.es_outside.specs.declared.host.HostAnswer.TheVariants as answer
use Rattle.es_outside.specs.declared.talk.Talk.{Talk}
use Rattle.es_outside.specs.declared.events.Event.{Event}
use Rattle.es_outside.specs.declared.events.Ending.{Ending}
use Rattle.es_outside.specs.declared.host.Reply.{Reply}
use Rattle.program_runs.specs.declared.end.Halt.{Halt}
use Rattle.program_runs.specs.declared.end.Halt.TheVariants as halt
use Rattle.program_runs.specs.Around.{Around, Hosted}
use Rattle.program_runs.specs.Positions.{Position}
use Rattle.program_runs.specs.Talks.{Talks, answer_of, asked}
use Rattle.program_runs.specs.Turns.{Replies, replied, unhanded, Resumes, resumed, unresumed, Tells, cut_off, untold, Writes, line_of}

-- the reply is handed in
pub of_resumed : {S : Type 0} (event : Event) (follow : Reply → S) (old new : Hosted) (after : Position S) (reply : Reply) (r : Result (Option Ending) Halt)
    → new.talks ≡ asked event (answer_of reply) old.talks → Resumes reply follow after r → Replies event follow old new after r
of_resumed event follow old new after reply _ talks (resumed at) = replied reply talks at
of_resumed event follow old new after reply _ talks unresumed = unhanded reply talks

same_talk : (args : List Primitive) (told : Option Talk) → option_map (talk_after args answer.OutOfMemory) told ≡ told
same_talk args None = refl
same_talk args (Some talk) = refl

-- a host that found no memory heard nothing
pub heard_nothing : (event : Event) (talks : Talks) → asked event answer.OutOfMemory talks ≡ talks
heard_nothing event talks =
    ap (λ told. slice_set talks event.host told) (same_talk event.args (slice_index_or talks event.host None))
    ∙ set-get_or talks event.host None

-- nothing is added where nothing was done
pub adds_nothing : (bytes : Option (List ℕ)) → Adds [] bytes bytes
adds_nothing None = tt
adds_nothing (Some bytes) = sym (append-nil bytes)

-- the line of an event wasn't written
pub of_untold : {S : Type 0} (asks : Bool) (event : Event) (follow : Reply → S) (old new : Around) (after : Position S) (halt : Halt)
    → Writes {T = Unit {0}} (line_of old.hosts.names event) old.output new.output (Err halt) → new.hosts.talks ≡ old.hosts.talks
    → Tells asks event follow old new after (Err halt)
of_untold asks event follow old new after (halt.HostFailed host) written same = absurd written
of_untold asks event follow old new after halt.WriteFailed written same = cut_off written same
of_untold asks event follow old new after halt.OutOfMemory written same = untold written same
