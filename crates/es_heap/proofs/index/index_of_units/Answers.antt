use Rattle.std.proofs.Common.{arith, sym, ◌∙◌, ap, Some}
use Rattle.es_heap.proofs.Indices.{index_of_long, index_of_badly_started, index_of_digits}
use Rattle.es_heap.proofs.index.index_of_units.Goals as goal
use Rattle.es_heap.proofs.index.index_of_units.Goals.{then-units-gt10-via-then-units-gt10, then-units-gt10-via-else-units-gt10+then-not-starts_well}

pub returns-then-units-gt10 : goal.returns-then-units-gt10
returns-then-units-gt10 c = elim c.then-units-gt10.branch [
  | then-units-gt10-via-then-units-gt10 w ↦ sym (index_of_long c.args.units.now w.if-units-gt10.true)
  | then-units-gt10-via-else-units-gt10+then-not-starts_well w ↦ sym (index_of_badly_started c.args.units.now (sym w.if-not-starts_well.ensures))
]

pub returns-then-value-lt4294967295 : goal.returns-then-value-lt4294967295
returns-then-value-lt4294967295 c =
    let e = c.in_ok-value.ensures in
    ap Some e.1 ∙ sym (index_of_digits c.args.units.now e.0 (sym c.if-not-starts_well.ensures) (omega (arith, e.1, c.if-value-lt4294967295.true)))
