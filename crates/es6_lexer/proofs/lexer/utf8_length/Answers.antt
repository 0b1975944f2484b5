use Rattle.std.proofs.Common.{◌≤◌, ◌+◌, ◌∙◌, sym, ap, length, arith}
use Rattle.std.proofs.lemmas.List.{get_or_read}
use Rattle.std.specs.Char.{len_utf8}
use Rattle.es_text.proofs.Walk.{offset_more, offset_within}
use Rattle.es6_lexer.proofs.lexer.utf8_length.Goals as goal

pub overflow_add-total : goal.overflow_add-total
overflow_add-total c =
    let text = c.args.text.now in
    let i = c.loop-c.c-index in
    let e = c.len_utf8.ensures.value ∙ ap len_utf8 (get_or_read text i c.c-item.result c.loop-c-test.true c.c-item.is 0) in
    let next : i + 1 ≤ length text = omega arith in
    omega (arith, e, c.loop-c.invariant, offset_more text i c.loop-c-test.true, offset_within text (i + 1) next, c.requires)

pub loop-c-preserved : goal.loop-c-preserved
loop-c-preserved c =
    let text = c.args.text.now in
    let i = c.loop-c.c-index in
    let e = c.len_utf8.ensures.value ∙ ap len_utf8 (get_or_read text i c.c-item.result c.loop-c-test.true c.c-item.is 0) in
    omega (arith, e, c.loop-c.invariant, offset_more text i c.loop-c-test.true)
