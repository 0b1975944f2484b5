-- A host in memory, which gives its answers in order.
use Rattle.std.specs.Prelude.{ℕ, List, [], ◌∷◌, drop}
use Rattle.es_outside.specs.declared.primitive.Primitive.{Primitive}
use Rattle.es_outside.specs.declared.primitive.Primitive.TheVariants.{Undefined}
use Rattle.es_outside.specs.declared.host.HostAnswer.{HostAnswer}
use Rattle.es_outside.specs.declared.host.HostAnswer.TheVariants.{Give, Throw, Failed, OutOfMemory}
use Rattle.es_outside.specs.Counts.{counted}
use Rattle.es_outside.specs.Talk.{talk_after}
use Rattle.es_outside.specs.declared.talk.Talk.{Talk}

-- the answers that are left, what was heard and replied, and the faults
pub record Listed : Type 0 where
  pub answers : List HostAnswer
  pub talk : Talk
  pub faults : ℕ

-- before the first call
abbrev pub listed : List HostAnswer → Listed
listed answers = record { answers = answers; talk = record { heard = []; replies = [] }; faults = 0 }

-- the answer whose turn it is, and undefined once none is left
abbrev pub next_answer : List HostAnswer → HostAnswer
next_answer [] = Give Undefined
next_answer (answer ∷ answers) = answer

-- the count of faults after an answer
abbrev pub faults_after : HostAnswer → ℕ → ℕ
faults_after (Give value) faults = faults
faults_after (Throw value) faults = faults
faults_after Failed faults = counted faults
faults_after OutOfMemory faults = faults

-- after a call with these arguments
abbrev pub after_answer : Listed → List Primitive → Listed
after_answer host args = let answer = next_answer host.answers in record {
  answers = drop 1 host.answers;
  talk = talk_after args answer host.talk;
  faults = faults_after answer host.faults;
}
