use Rattle.lowered_cores_are_lawful.proofs.Patterns.{array_pattern_is, object_pattern_is, one_target_is}
use Rattle.lowered_cores_are_lawful.proofs.patterns_are_lowered_to_lawful_ones.Goals as goal

pub returns : goal.returns
returns c = record {
  one_target = one_target_is;
  object_pattern = object_pattern_is;
  array_pattern = array_pattern_is;
}
