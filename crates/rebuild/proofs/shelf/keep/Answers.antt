use Rattle.std.proofs.Common.{◌∙◌}
use Rattle.std.specs.Prelude.{string_bytes}
use Rattle.rebuild.proofs.Keeping.{kept-put, pair-same}
use Rattle.rebuild.proofs.shelf.keep.Goals as goal

pub returns : goal.returns
returns g c =
    kept-put (string_bytes c.in_ok-key.key) c.new.result c.args.source c.args.kept.now c.insert.new.self (rw c.in_ok-insert.was at c.insert.ensures.updates) (c.in_ok-key.ensures.ok ∙ c.path.ensures)
    (c.new.ensures ∙ pair-same c.into_parts-path.ensures.path c.into_parts-path.ensures.bytes)
