use Rattle.std.proofs.Common.{ℕ, List, [], map}
use Rattle.std.specs.Borrow.{Bor}
use Rattle.std.proofs.lemmas.Result.{err_from_is_err_and}
use Rattle.edit_list.specs.Edits.{asked_of}
use Rattle.edit_list.proofs.Stopping.{refused-read}
use Rattle.edit_list.proofs.lines.read.Goals as goal

pub returns-in_err-add : goal.returns-in_err-add
returns-in_err-add c =
    let p = err_from_is_err_and c.from_residual.result c.from_residual.ensures.1 in
    let text : Bor (List ℕ) → List ℕ = λ s. s.now in
    rw (p.1, p.2) (refused-read text c.args.lines.now c.loop-line.line-index (record { ref_ptr = (0, 0); now = [] }) (map asked_of c.loop-line.reading.edits.items) c.in_err-add.field-0.0
    c.loop-line-test.true c.loop-line.invariant c.in_err-add.ensures)
