-- What asking one of several hosts does.
use Rattle.std.specs.Prelude.{◌≡◌, ℕ, ◌≤◌, Bool, false, List, Option, option_map, slice_index_or, slice_set, String}
use Rattle.es_outside.specs.Counts.{CountRose}
use Rattle.es_outside.specs.Talk.{talk_after}
use Rattle.es_outside.specs.declared.primitive.Primitive.{Primitive}
use Rattle.es_outside.specs.declared.host.HostAnswer.{HostAnswer}
use Rattle.es_outside.specs.declared.host.HostAnswer.TheVariants.{Failed}
use Rattle.es_outside.specs.declared.talk.Talk.{Talk}

-- The host at this index was asked with these arguments and gave this answer, and no other changed. What is told of a host, its faults
-- and whether it is sure are given.
pub record IsAsked {A H : Type 0} (talk : H → Option Talk) (faults : H → ℕ) (sure : H → Bool) (index : ℕ) (args : List Primitive) (answer : HostAnswer) (old new : List (String A × H)) : Type 0 where
  pub before : String A × H
  pub after : String A × H
  pub stood : before ≡ slice_index_or old index before
  pub others : new ≡ slice_set old index after
  pub name : after.0 ≡ before.0
  pub told : talk after.1 ≡ option_map (talk_after args answer) (talk before.1)
  pub no_fall : faults before.1 ≤ faults after.1
  pub failed : answer ≡ Failed → CountRose (faults before.1) (faults after.1)
  pub mark : sure after.1 ≡ sure before.1
  pub unsure : answer ≡ Failed → sure before.1 ≡ false
