use Rattle.std.proofs.Common.{◌∙◌, ap, arith}
use Rattle.std.specs.Char.{len_utf8}
use Rattle.std.proofs.lemmas.List.{get_or_read}
use Rattle.std.proofs.lemmas.List.Sums.{sum_by_more_le}
use Rattle.es5_tokens.proofs.reader.width.Goals as goal

pub overflow_add-total : goal.overflow_add-total
overflow_add-total c =
    let text = c.args.text.now in
    let i = c.loop-c.c-index in
    let e = c.len_utf8.ensures.value ∙ ap len_utf8 (get_or_read text i c.c-item.result c.loop-c-test.true c.c-item.is 0) in
    omega (arith, e, c.loop-c.invariant, sum_by_more_le len_utf8 text i 0 c.loop-c-test.true, c.requires)
