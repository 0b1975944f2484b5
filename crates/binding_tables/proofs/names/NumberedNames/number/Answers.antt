use Rattle.std.proofs.Common.{ℕ, List, Option, ap, ◌∙◌}
use Rattle.std.specs.List.{position}
use Rattle.std.specs.Option.{unwrap_or}
use Rattle.std.specs.Str.{bytes_eq}
use Rattle.binding_tables.specs.Names.{number_of_name}
use Rattle.binding_tables.proofs.Keys.{Name, name_at}
use Rattle.binding_tables.proofs.names.NumberedNames.number.Goals as goal

pub returns : goal.returns
returns c =
    c.unwrap_or.ensures
    ∙ ap (λ (o : Option ℕ). unwrap_or o c.len-count.result) c.get_index_of.ensures.index
    ∙ ap (λ (n : ℕ). unwrap_or (position (λ (x : Name). bytes_eq c.args.name.now x.now) c.self.inside.names.keys) n) c.len-count.ensures.len
    ∙ name_at c.self.inside.names.keys c.args.name
    ∙ ap (λ (ns : List (List ℕ)). number_of_name ns c.args.name.now) c.self.view_is
