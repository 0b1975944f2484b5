-- What a host tells of the calls that it heard and the replies that it gave.
use Rattle.std.specs.Prelude.{List, [], ◌∷◌, ◌++◌}
use Rattle.es_outside.specs.declared.primitive.Primitive.{Primitive}
use Rattle.es_outside.specs.declared.talk.Talk.{Talk}
use Rattle.es_outside.specs.declared.host.Reply.TheVariants as reply
use Rattle.es_outside.specs.declared.host.HostAnswer.{HostAnswer}
use Rattle.es_outside.specs.declared.host.HostAnswer.TheVariants.{Give, Throw, Failed, OutOfMemory}

-- Each call is heard but one that found no memory, and a value that is given or thrown is a reply.
abbrev pub talk_after : List Primitive → HostAnswer → Talk → Talk
talk_after args (Give value) talk = record { heard = talk.heard ++ args ∷ []; replies = talk.replies ++ reply.Give value ∷ [] }
talk_after args (Throw value) talk = record { heard = talk.heard ++ args ∷ []; replies = talk.replies ++ reply.Throw value ∷ [] }
talk_after args Failed talk = record { heard = talk.heard ++ args ∷ []; replies = talk.replies }
talk_after args OutOfMemory talk = talk
