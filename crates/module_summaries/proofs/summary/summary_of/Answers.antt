use Rattle.std.proofs.Common.{ap, ◌∙◌}
use Rattle.es6_static_semantics.specs.Findings.{joined}
use Rattle.es6_static_semantics.specs.Endings.{item_wants}
use Rattle.module_resolution.specs.Summaries.{requested_home}
use Rattle.module_summaries.specs.declared.exports.Exporter.{Exporter}
use Rattle.module_summaries.specs.Parts.{want_offsets}
use Rattle.module_requests.proofs.Joined.{joined_mapped}
use Rattle.module_summaries.proofs.Maps.{from-empty}
use Rattle.module_summaries.proofs.Summing.{summary-is}
use Rattle.module_summaries.proofs.summary.summary_of.Goals as goal

pub returns-clause-summary : goal.returns-clause-summary
returns-clause-summary g c =
    let x : Exporter = record { alloc = c.args.alloc; number = c.args.number; homes = c.in_ok-homes.homes; imports = c.in_ok-of.field-0 } in
    summary-is x c.args.module.now c.as_slice-items.result.now c.as_slice-2.result.now c.add.new.all c.add_stars.new.all c.add_wants.new.all.places c.as_slice-items.ensures
    (λ from. c.in_ok-homes.ensures from ∙ ap (λ rs. requested_home rs from) c.as_slice.ensures)
    c.in_ok-of.ensures
    (c.as_slice-2.ensures ∙ from-empty _ c.add_imports.new.all _ c.in_ok-add_imports.ensures c.new-imports.ensures)
    (λ known knows. from-empty _ c.add.new.all _ (c.in_ok-add.ensures known knows) c.new-exports.ensures)
    (from-empty _ c.add_stars.new.all _ c.in_ok-add_stars.ensures c.new-stars.ensures)
    (from-empty _ c.add_wants.new.all.places _ c.in_ok-add_wants.ensures.places c.new-wants.ensures.places)

pub returns-clause-offsets : goal.returns-clause-offsets
returns-clause-offsets g c =
    from-empty _ c.add_wants.new.all.offsets _ c.in_ok-add_wants.ensures.offsets c.new-wants.ensures.offsets
    ∙ ap (λ list. joined want_offsets list) c.as_slice-items.ensures ∙ joined_mapped (λ w. w.at) item_wants c.args.module.now.tree.items
