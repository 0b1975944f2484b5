use Rattle.std.proofs.Common.{◌∙◌, subst}
use Rattle.script_maps.specs.Mapped.{AreSegmentsOf}
use Rattle.script_maps.proofs.Valid.{is_map}
use Rattle.script_maps.proofs.line.map_of_marks.Goals as goal

pub returns-clause-valid : goal.returns-clause-valid
returns-clause-valid c = is_map c.args.modules.now c.args.marks.now _ (record {
  sources_are = c.in_ok-sources.ensures;
  names_are = c.new-names.ensures;
  segments_are = subst (λ ms. AreSegmentsOf c.args.modules.now ms c.in_ok-segments.segments) (c.as_slice.ensures ∙ c.in_ok-kept.ensures) c.in_ok-segments.ensures;
})
