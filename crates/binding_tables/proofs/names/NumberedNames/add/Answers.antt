use Rattle.std.proofs.Common.{ℕ, List, ap, ◌∙◌}
use Rattle.binding_tables.specs.Names.{with_name}
use Rattle.binding_tables.proofs.Keys.{names_of, names_with}
use Rattle.binding_tables.proofs.names.NumberedNames.add.Goals as goal

pub returns : goal.returns
returns c =
    ap names_of c.in_ok-insert.ensures.keys
    ∙ names_with c.self.inside.names.keys c.args.name
    ∙ ap (λ (ns : List (List ℕ)). with_name ns c.args.name.now) c.self.view_is
