use Rattle.std.proofs.Common.{arith}
use Rattle.std.proofs.lemmas.Grind.{common_steps}
use Rattle.source_map.proofs.Texts.{map_of-read, map_of-refused}
use Rattle.source_map.proofs.Valid.{valid_if_given}
use Rattle.source_map.proofs.document.read_map.Goals as goal

pub returns-in-Ok : goal.returns-in-Ok
returns-in-Ok c = record {
  exact = rw (map_of-read _ _ c.in-Ok.ensures.ok.0 c.in-Ok.ensures.ok.1) c.map_in.ensures;
  valid = valid_if_given _ _ c.map_in.ensures;
}

pub returns-in-Err-2 : goal.returns-in-Err-2
returns-in-Err-2 c = record {
  exact = map_of-refused _ (c.in-Err.ensures.err (λ m. grind (arith, common_steps)));
  valid = tt;
}
