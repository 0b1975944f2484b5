use Rattle.std.proofs.lemmas.Result.{err_from_is_err_and}
use Rattle.source_map.proofs.Steps.{characters_from-passed, segments_of-character, segments_of-end, segments_of-whole}
use Rattle.source_map.proofs.reading.read_segments.Goals as goal

pub loop-at-preserved : goal.loop-at-preserved
loop-at-preserved c = record {
  left = characters_from-passed _ _ _ _ _ c.loop-at-test.true c.loop-at.invariant.left c.in_ok-character.ensures.exact;
  number = c.in_ok-character.ensures.number;
  weight = c.in_ok-character.ensures.weight;
  line = c.in_ok-character.ensures.line;
}

pub returns-in_err-character : goal.returns-in_err-character
returns-in_err-character c =
    let p = err_from_is_err_and c.from_residual.result c.from_residual.ensures.1 in
    rw (p.1, p.2) (segments_of-character _ _ _ _ _ _ c.loop-at-test.true c.loop-at.invariant.left c.in_err-character.ensures.exact)

pub returns-in_err-end_line : goal.returns-in_err-end_line
returns-in_err-end_line c =
    let p = err_from_is_err_and c.from_residual-in_err-end_line.result c.from_residual-in_err-end_line.ensures.1 in
    rw (p.1, p.2) (segments_of-end _ _ _ _ _ _ c.loop-at-test.false c.loop-at.invariant.left c.in_err-end_line.ensures.exact)

pub returns : goal.returns
returns c = segments_of-whole _ _ _ _ _ _ c.loop-at-test.false c.loop-at.invariant.left c.in_ok-end_line.ensures.exact
