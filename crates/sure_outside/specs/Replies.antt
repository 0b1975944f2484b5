-- The answers of a host that only replies.
use Rattle.es_outside.specs.declared.host.Reply.{Reply}
use Rattle.es_outside.specs.declared.host.Reply.TheVariants as reply
use Rattle.es_outside.specs.declared.host.HostAnswer.{HostAnswer}
use Rattle.es_outside.specs.declared.host.HostAnswer.TheVariants.{Give, Throw}

-- the answer that gives this reply
abbrev pub answer_of : Reply → HostAnswer
answer_of (reply.Give value) = Give value
answer_of (reply.Throw value) = Throw value
