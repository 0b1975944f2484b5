use Rattle.std.proofs.Common.{Some, sym, ap, ◌∙◌, arith}
use Rattle.std.proofs.lemmas.Option.{slice_get-get_or}
use Rattle.graph_namespaces.proofs.Booking.{book-more, book-none, picked}
use Rattle.graph_namespaces.proofs.entries.entries_of.Goals as goal

pub loop-at-init : goal.loop-at-init
loop-at-init c = book-none c.args.names.now c.args.outcomes.now c.new-book.result.entries c.new-book.ensures.empty

pub loop-at-preserved : goal.loop-at-preserved
loop-at-preserved c =
    book-more c.args.names.now c.args.outcomes.now c.loop-at.at c.index-names-at.result c.index-outcomes-at.result c.loop-at.book.entries c.add_outcome.new.book.entries
    (slice_get-get_or c.args.names.now c.loop-at.at c.index-names-at.result (omega arith) ∙ ap (λ z. Some z) (sym c.index-names-at.is))
    (slice_get-get_or c.args.outcomes.now c.loop-at.at c.index-outcomes-at.result (omega arith) ∙ ap (λ z. Some z) (sym c.index-outcomes-at.is)) c.in_ok-add_outcome.ensures c.loop-at.invariant

pub returns : goal.returns
returns c = picked c.args.names.now c.args.outcomes.now c.loop-at.at c.loop-at.book.entries c.in_ok-entries.entries (omega arith) c.len-count.ensures.ordered c.loop-at.invariant c.in_ok-entries.ensures
