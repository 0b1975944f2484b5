use Rattle.std.proofs.Common.{List, map, ap, ◌∙◌}
use Rattle.module_endings.specs.Ends.{first_source}
use Rattle.module_endings.specs.declared.summary.Export.{Export}
use Rattle.module_summaries.specs.Homes.{home_in}
use Rattle.module_summaries.specs.Parts.{import_at}
use Rattle.module_summaries.proofs.Looking.{known_source, own_source}
use Rattle.module_summaries.proofs.exports.Exporter.source.Goals as goal

pub returns-in_ok-binding-in-None : goal.returns-in_ok-binding-in-None
returns-in_ok-binding-in-None c = λ known knows.
    let imports : List Export = map (import_at (home_in c.args.self.now.homes)) known in
    c.in_ok-binding-in-None.ensures ∙ own_source c.args.self.now known c.args.name.now (c.in-None.ensures imports knows ∙ ap (λ n. first_source imports n) c.bytes.ensures)

pub returns-in_ok-copy-in-Some : goal.returns-in_ok-copy-in-Some
returns-in_ok-copy-in-Some c = λ known knows.
    let imports : List Export = map (import_at (home_in c.args.self.now.homes)) known in
    c.in_ok-copy-in-Some.ensures ∙ known_source c.args.self.now known c.args.name.now c.in-Some.place.now (c.in-Some.ensures imports knows ∙ ap (λ n. first_source imports n) c.bytes.ensures)
