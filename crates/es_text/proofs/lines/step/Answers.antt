-- The numbers of a mark are bounded by the bytes of the text.
use Rattle.std.proofs.Common.{◌+◌, ◌≤◌, length, ap, ◌∙◌, arith}
use Rattle.std.proofs.lemmas.List.{get_or_read}
use Rattle.std.specs.Char.{len_utf8}
use Rattle.es_text.proofs.Walk.{offset_more, offset_within}
use Rattle.es_text.proofs.Marked.{small_mark, next_mark}
use Rattle.es_text.proofs.lines.step.Goals as goal

pub overflow_add-result-2 : goal.overflow_add-result-2
overflow_add-result-2 c =
    let read = get_or_read c.args.text.now c.args.mark.index c.index-text-mark.result c.requires.inside c.index-text-mark.is 0 in
    let e = c.len_utf8.ensures.value ∙ ap len_utf8 read in
    let less : c.args.mark.index + 1 ≤ length c.args.text.now = omega arith in
    omega (arith, e, c.requires.mark.offset_is, offset_more c.args.text.now c.args.mark.index c.requires.inside, offset_within c.args.text.now (c.args.mark.index + 1) less, c.requires.fits)

pub place_after-requires-clause-line : goal.place_after-requires-clause-line
place_after-requires-clause-line c = omega (arith, small_mark c.args.text.now c.args.mark c.requires.mark)

pub place_after-requires-clause-column : goal.place_after-requires-clause-column
place_after-requires-clause-column c = omega (arith, small_mark c.args.text.now c.args.mark c.requires.mark)

pub returns-clause-mark : goal.returns-clause-mark
returns-clause-mark c =
    let read = get_or_read c.args.text.now c.args.mark.index c.index-text-mark.result c.requires.inside c.index-text-mark.is 0 in
    rw (c.place_after.ensures, c.len_utf8.ensures.value, read) (next_mark c.args.text.now c.args.mark c.requires.mark c.requires.inside)
