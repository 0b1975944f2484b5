use Rattle.std.proofs.Common.{drop, false, map, true}
use Rattle.es6_static_semantics.specs.Findings.{joined}
use Rattle.es6_static_semantics.specs.Early.{argument_found, array_part_found, class_member_found, condition_found, element_found, expression_found, link_found, members_pairs, object_part_found, operand_found, parameter_found, part_found, parts_pairs, property_found, statement_found, statements_pairs, template_part_found, variables_pairs}
use Rattle.early_errors.specs.Walked.{Meeting, MeetingInside, clauses_pairs}
use Rattle.early_errors.proofs.walk.Walk.+early.Given as goal

abbrev pub invariant-expressions-loop-expression : goal.invariant-expressions-loop-expression
invariant-expressions-loop-expression l = MeetingInside (λ r. joined (λ x. x.pairs r) (map expression_found (drop l.expression-index l.expressions))) (λ r. joined (λ x. x.pairs r) (map expression_found l.expressions)) l.place l.self l.initial.self

abbrev pub invariant-elements-loop-element : goal.invariant-elements-loop-element
invariant-elements-loop-element l = MeetingInside (λ r. joined (λ x. x.pairs r) (map element_found (drop l.element-index l.elements))) (λ r. joined (λ x. x.pairs r) (map element_found l.elements)) l.place l.self l.initial.self

abbrev pub invariant-arguments-loop-argument : goal.invariant-arguments-loop-argument
invariant-arguments-loop-argument l = MeetingInside (λ r. joined (λ x. x.pairs r) (map argument_found (drop l.argument-index l.arguments))) (λ r. joined (λ x. x.pairs r) (map argument_found l.arguments)) l.place l.self l.initial.self

abbrev pub invariant-operands-loop-operand : goal.invariant-operands-loop-operand
invariant-operands-loop-operand l = MeetingInside (λ r. joined (λ x. x r) (map operand_found (drop l.operand-index l.operands))) (λ r. joined (λ x. x r) (map operand_found l.operands)) l.place l.self l.initial.self

abbrev pub invariant-template_parts-loop-part : goal.invariant-template_parts-loop-part
invariant-template_parts-loop-part l = MeetingInside (λ r. joined (λ x. x r) (map template_part_found (drop l.part-index l.parts))) (λ r. joined (λ x. x r) (map template_part_found l.parts)) l.place l.self l.initial.self

abbrev pub invariant-links-loop-link : goal.invariant-links-loop-link
invariant-links-loop-link l = MeetingInside (λ r. joined (λ x. x.pairs r) (map link_found (drop l.link-index l.links))) (λ r. joined (λ x. x.pairs r) (map link_found l.links)) l.place l.self l.initial.self

abbrev pub invariant-properties-loop-property : goal.invariant-properties-loop-property
invariant-properties-loop-property l = MeetingInside (λ r. joined (λ x. x.pairs r) (map property_found (drop l.property-index l.properties))) (λ r. joined (λ x. x.pairs r) (map property_found l.properties)) l.place l.self l.initial.self

abbrev pub invariant-array_parts-loop-part : goal.invariant-array_parts-loop-part
invariant-array_parts-loop-part l = MeetingInside (parts_pairs l.binds (map array_part_found (drop l.part-index l.parts))) (parts_pairs l.binds (map array_part_found l.parts)) l.place l.self l.initial.self

abbrev pub invariant-object_parts-loop-part : goal.invariant-object_parts-loop-part
invariant-object_parts-loop-part l = MeetingInside (parts_pairs l.binds (map object_part_found (drop l.part-index l.parts))) (parts_pairs l.binds (map object_part_found l.parts)) l.place l.self l.initial.self

abbrev pub invariant-parameters-loop-parameter : goal.invariant-parameters-loop-parameter
invariant-parameters-loop-parameter l = MeetingInside (parts_pairs true (map parameter_found (drop l.parameter-index l.parameters))) (parts_pairs true (map parameter_found l.parameters)) l.place l.self l.initial.self

abbrev pub invariant-variables-loop-part : goal.invariant-variables-loop-part
invariant-variables-loop-part l = MeetingInside (variables_pairs l.kind (map part_found (drop l.part-index l.parts))) (variables_pairs l.kind (map part_found l.parts)) l.place l.self l.initial.self

abbrev pub invariant-members-loop-member : goal.invariant-members-loop-member
invariant-members-loop-member l = MeetingInside (members_pairs l.derived l.seen (map class_member_found (drop l.member-index l.members))) (members_pairs l.derived false (map class_member_found l.members)) l.place l.self l.initial.self

abbrev pub invariant-statements-loop-statement : goal.invariant-statements-loop-statement
invariant-statements-loop-statement l = Meeting (statements_pairs (map statement_found (drop l.statement-index l.statements))) (statements_pairs (map statement_found l.statements)) l.place l.self l.initial.self

abbrev pub invariant-conditions-loop-condition : goal.invariant-conditions-loop-condition
invariant-conditions-loop-condition l = Meeting (λ r. joined (λ k. k.pairs r) (map condition_found (drop l.condition-index l.conditions))) (λ r. joined (λ k. k.pairs r) (map condition_found l.conditions)) l.place l.self l.initial.self

abbrev pub invariant-clauses-loop-case : goal.invariant-clauses-loop-case
invariant-clauses-loop-case l = Meeting (clauses_pairs (drop l.case-index l.cases)) (clauses_pairs l.cases) l.place l.self l.initial.self
