use Rattle.std.proofs.Common.{◌≡◌, ◌++◌, sym, ap, ◌∙◌}
use Rattle.module_lowering.specs.Names.{units_of}
use Rattle.graph_namespaces.proofs.Booking.{adds-known, adds-new, not-there}
use Rattle.graph_namespaces.proofs.entries.add.Goals as goal

pub returns-then-is : goal.returns-then-is
returns-then-is c =
    adds-known c.args.entry c.in-Some.known.now _ c.args.book.now.entries (sym c.in-Some.ensures.value) (c.is.ensures.0 c.if-is.true ∙ c.bytes-in-Some.ensures)

pub returns : goal.returns
returns c =
    let items : c.extend_from_slice.new.self.items ≡ c.in_ok-units.units = c.in_ok-extend_from_slice.ensures.items ∙ ap (λ z. z ++ c.units-3.result.now) c.new-key.ensures.items ∙ c.units-3.ensures in
    adds-new c.args.entry c.extend_from_slice.new.self c.units-2.result.now c.args.book.now.entries c.insert.new.self.entries
    (items ∙ c.in_ok-units.ensures ∙ ap units_of c.bytes.ensures) (c.units-2.ensures ∙ sym items) (not-there c.get.result _ c.in_default.not-Some c.get.ensures.value) c.in_ok-insert.ensures.entries
