use Rattle.std.proofs.Common.{◌≡◌, drop, map}
use Rattle.script_lowering.specs.Expressions.{adds_each, adds_operand, adds_part}
use Rattle.script_lowering.specs.Nodes.{case_read, condition_read, declared_read, element_read, expr_read, link_read, operand_read, property_read, stat_read}
use Rattle.script_lowering.specs.Reading.{reads_onto}
use Rattle.script_lowering.specs.Statements.{joined_onto, stats_onto}
use Rattle.script_lowering.proofs.+walk.Given as goal

abbrev pub invariant-expressions::exprs-loop-one : goal.invariant-expressions::exprs-loop-one
invariant-expressions::exprs-loop-one l =
    reads_onto l.made (map (expr_read l.sites) (drop l.one-index l.source)) l.reading
    ≡ reads_onto l.initial.made (map (expr_read l.sites) l.source) l.initial.reading

abbrev pub invariant-expressions::elements-loop-one : goal.invariant-expressions::elements-loop-one
invariant-expressions::elements-loop-one l =
    adds_each (map (element_read l.sites) (drop l.one-index l.source)) l.value l.reading
    ≡ adds_each (map (element_read l.sites) l.source) l.initial.value l.initial.reading

abbrev pub invariant-expressions::properties-loop-one : goal.invariant-expressions::properties-loop-one
invariant-expressions::properties-loop-one l =
    adds_each (map (property_read l.sites) (drop l.one-index l.source)) l.value l.reading
    ≡ adds_each (map (property_read l.sites) l.source) l.initial.value l.initial.reading

abbrev pub invariant-expressions::links-loop-one : goal.invariant-expressions::links-loop-one
invariant-expressions::links-loop-one l =
    adds_each (map (λ k. k l.span) (map (link_read l.sites) (drop l.one-index l.source))) l.value l.reading
    ≡ adds_each (map (λ k. k l.span) (map (link_read l.sites) l.source)) l.initial.value l.initial.reading

abbrev pub invariant-expressions::operands-loop-one : goal.invariant-expressions::operands-loop-one
invariant-expressions::operands-loop-one l =
    adds_each (map adds_operand (map (operand_read l.sites) (drop l.one-index l.source))) l.value l.reading
    ≡ adds_each (map adds_operand (map (operand_read l.sites) l.source)) l.initial.value l.initial.reading

abbrev pub invariant-expressions::parts-loop-one : goal.invariant-expressions::parts-loop-one
invariant-expressions::parts-loop-one l =
    adds_each (map adds_part (map (expr_read l.sites) (drop l.one-index l.source))) l.value l.reading
    ≡ adds_each (map adds_part (map (expr_read l.sites) l.source)) l.initial.value l.initial.reading

abbrev pub invariant-walk::body-loop-one : goal.invariant-walk::body-loop-one
invariant-walk::body-loop-one l =
    stats_onto l.made (map (stat_read l.sites) (drop l.one-index l.source)) l.reading
    ≡ stats_onto l.initial.made (map (stat_read l.sites) l.source) l.initial.reading

abbrev pub invariant-walk::conditions-loop-one : goal.invariant-walk::conditions-loop-one
invariant-walk::conditions-loop-one l =
    reads_onto l.made (map (condition_read l.sites) (drop l.one-index l.source)) l.reading
    ≡ reads_onto l.initial.made (map (condition_read l.sites) l.source) l.initial.reading

abbrev pub invariant-walk::cases-loop-one : goal.invariant-walk::cases-loop-one
invariant-walk::cases-loop-one l =
    reads_onto l.made (map (case_read l.sites) (drop l.one-index l.source)) l.reading
    ≡ reads_onto l.initial.made (map (case_read l.sites) l.source) l.initial.reading

abbrev pub invariant-walk::declarations-loop-one : goal.invariant-walk::declarations-loop-one
invariant-walk::declarations-loop-one l =
    joined_onto l.made (map (declared_read l.sites) (drop l.one-index l.source)) l.reading
    ≡ joined_onto l.initial.made (map (declared_read l.sites) l.source) l.initial.reading
