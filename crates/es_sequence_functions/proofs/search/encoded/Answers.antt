use Rattle.std.proofs.Common.{get_or, take}
use Rattle.std.proofs.lemmas.List.{take_more}
use Rattle.es_sequence_functions.proofs.SearchLemmas.{encoded_push}
use Rattle.es_sequence_functions.proofs.search.encoded.Goals as goal

pub loop-unit-preserved : goal.loop-unit-preserved
loop-unit-preserved c =
    let more = take_more c.args.units.now c.loop-unit.unit-index 0 c.loop-unit-test.true in
    let pushed = encoded_push (take c.loop-unit.unit-index c.args.units.now) (get_or c.args.units.now c.loop-unit.unit-index 0) in
    cc (c.unit_bytes.ensures, c.in_ok-extend_from_slice.ensures.items)
