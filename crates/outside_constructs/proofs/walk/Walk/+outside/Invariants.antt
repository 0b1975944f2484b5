use Rattle.std.proofs.Common.{drop, map, true}
use Rattle.es6_static_semantics.specs.Findings.{joined}
use Rattle.es6_static_semantics.specs.Outside.{argument_found, array_part_found, case_found, class_member_found, condition_found, element_found, expression_found, link_found, object_part_found, operand_found, parameter_found, part_found, parts_pairs, property_found, statement_found, statements_pairs, template_part_found}
use Rattle.outside_constructs.specs.Walked.{Meeting}
use Rattle.outside_constructs.proofs.walk.Walk.+outside.Given as goal

abbrev pub invariant-expressions-loop-expression : goal.invariant-expressions-loop-expression
invariant-expressions-loop-expression l = Meeting (λ scope. joined (λ x. x.pairs scope) (map expression_found (drop l.expression-index l.expressions))) (λ scope. joined (λ x. x.pairs scope) (map expression_found l.expressions)) l.self l.initial.self

abbrev pub invariant-elements-loop-element : goal.invariant-elements-loop-element
invariant-elements-loop-element l = Meeting (λ scope. joined (λ x. x scope) (map element_found (drop l.element-index l.elements))) (λ scope. joined (λ x. x scope) (map element_found l.elements)) l.self l.initial.self

abbrev pub invariant-arguments-loop-argument : goal.invariant-arguments-loop-argument
invariant-arguments-loop-argument l = Meeting (λ scope. joined (λ x. x scope) (map argument_found (drop l.argument-index l.arguments))) (λ scope. joined (λ x. x scope) (map argument_found l.arguments)) l.self l.initial.self

abbrev pub invariant-operands-loop-operand : goal.invariant-operands-loop-operand
invariant-operands-loop-operand l = Meeting (λ scope. joined (λ x. x scope) (map operand_found (drop l.operand-index l.operands))) (λ scope. joined (λ x. x scope) (map operand_found l.operands)) l.self l.initial.self

abbrev pub invariant-template_parts-loop-part : goal.invariant-template_parts-loop-part
invariant-template_parts-loop-part l = Meeting (λ scope. joined (λ x. x scope) (map template_part_found (drop l.part-index l.parts))) (λ scope. joined (λ x. x scope) (map template_part_found l.parts)) l.self l.initial.self

abbrev pub invariant-links-loop-link : goal.invariant-links-loop-link
invariant-links-loop-link l = Meeting (λ scope. joined (λ x. x.pairs scope) (map link_found (drop l.link-index l.links))) (λ scope. joined (λ x. x.pairs scope) (map link_found l.links)) l.self l.initial.self

abbrev pub invariant-properties-loop-property : goal.invariant-properties-loop-property
invariant-properties-loop-property l = Meeting (λ scope. joined (λ x. x scope) (map property_found (drop l.property-index l.properties))) (λ scope. joined (λ x. x scope) (map property_found l.properties)) l.self l.initial.self

abbrev pub invariant-array_parts-loop-part : goal.invariant-array_parts-loop-part
invariant-array_parts-loop-part l = Meeting (parts_pairs l.declares (map array_part_found (drop l.part-index l.parts))) (parts_pairs l.declares (map array_part_found l.parts)) l.self l.initial.self

abbrev pub invariant-object_parts-loop-part : goal.invariant-object_parts-loop-part
invariant-object_parts-loop-part l = Meeting (parts_pairs l.declares (map object_part_found (drop l.part-index l.parts))) (parts_pairs l.declares (map object_part_found l.parts)) l.self l.initial.self

abbrev pub invariant-parts-loop-part : goal.invariant-parts-loop-part
invariant-parts-loop-part l = Meeting (parts_pairs true (map part_found (drop l.part-index l.parts))) (parts_pairs true (map part_found l.parts)) l.self l.initial.self

abbrev pub invariant-parameters-loop-parameter : goal.invariant-parameters-loop-parameter
invariant-parameters-loop-parameter l = Meeting (parts_pairs true (map parameter_found (drop l.parameter-index l.parameters))) (parts_pairs true (map parameter_found l.parameters)) l.self l.initial.self

abbrev pub invariant-members-loop-member : goal.invariant-members-loop-member
invariant-members-loop-member l = Meeting (λ scope. joined (λ x. x scope) (map class_member_found (drop l.member-index l.members))) (λ scope. joined (λ x. x scope) (map class_member_found l.members)) l.self l.initial.self

abbrev pub invariant-statements-loop-statement : goal.invariant-statements-loop-statement
invariant-statements-loop-statement l = Meeting (statements_pairs (map statement_found (drop l.statement-index l.statements))) (statements_pairs (map statement_found l.statements)) l.self l.initial.self

abbrev pub invariant-conditions-loop-condition : goal.invariant-conditions-loop-condition
invariant-conditions-loop-condition l = Meeting (λ scope. joined (λ x. x.pairs scope) (map condition_found (drop l.condition-index l.conditions))) (λ scope. joined (λ x. x.pairs scope) (map condition_found l.conditions)) l.self l.initial.self

abbrev pub invariant-case_tests-loop-case : goal.invariant-case_tests-loop-case
invariant-case_tests-loop-case l = Meeting (λ scope. joined (λ k. k.test scope) (map case_found (drop l.case-index l.cases))) (λ scope. joined (λ k. k.test scope) (map case_found l.cases)) l.self l.initial.self

abbrev pub invariant-case_bodies-loop-case : goal.invariant-case_bodies-loop-case
invariant-case_bodies-loop-case l = Meeting (statements_pairs (joined (λ k. k.body) (map case_found (drop l.case-index l.cases)))) (statements_pairs (joined (λ k. k.body) (map case_found l.cases))) l.self l.initial.self
