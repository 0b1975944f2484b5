-- Offsets and places both go up along a text.
use Rattle.es_text.proofs.Walk.{one_place, one_offset}
use Rattle.es_text.proofs.lines.offsets_and_places.Goals as goal

pub returns-clause-one_place : goal.returns-clause-one_place
returns-clause-one_place c = one_place

pub returns-clause-one_offset : goal.returns-clause-one_offset
returns-clause-one_offset c = one_offset
