use Rattle.std.proofs.Common.{◌≡◌, ◌∙◌, sym}
use Rattle.source_moves.specs.Seen.{state_of}
use Rattle.source_objects.proofs.Going.{method_known}
use Rattle.source_objects.proofs.literals.keyed_method.Goals as goal

pub returns-in-Known : goal.returns-in-Known
returns-in-Known g c =
    let seen = g.W.PendingWork.seen in
    method_known seen c.define_method.result c.define_method.new.st c.args.object c.args.method.now c.args.rest (state_of seen c.args.st.now)
    c.in-Known.key (sym c.in-Known.is ∙ c.in_ok-key.ensures) c.define_method.ensures
