use Rattle.std.proofs.Common.{◌≡◌, ◌++◌, drop, map}
use Rattle.es6_static_semantics.specs.Findings.{joined}
use Rattle.scope_rules.specs.Marks.{argument_marked, array_part_marked, case_marked, class_member_marked, condition_marked, declarators, element_marked, expression_marked, link_marked, object_part_marked, operand_marked, parameter_marked, part_marked, parts_marks, property_marked, statement_marked, template_part_marked}
use Rattle.scope_rules.specs.declared.kinds.Kind.TheVariants as kind
use Rattle.scope_walk.proofs.+walk.Given as goal

abbrev pub invariant-expressions::expressions-loop-value : goal.invariant-expressions::expressions-loop-value
invariant-expressions::expressions-loop-value l = l.marks ++ joined (λ x. x.marks) (map expression_marked (drop l.value-index l.expressions)) ≡ l.initial.marks ++ joined (λ x. x.marks) (map expression_marked l.expressions)

abbrev pub invariant-expressions::elements-loop-item : goal.invariant-expressions::elements-loop-item
invariant-expressions::elements-loop-item l = l.marks ++ joined (λ e. e) (map element_marked (drop l.item-index l.elements)) ≡ l.initial.marks ++ joined (λ e. e) (map element_marked l.elements)

abbrev pub invariant-expressions::arguments-loop-item : goal.invariant-expressions::arguments-loop-item
invariant-expressions::arguments-loop-item l = l.marks ++ joined (λ a. a) (map argument_marked (drop l.item-index l.arguments)) ≡ l.initial.marks ++ joined (λ a. a) (map argument_marked l.arguments)

abbrev pub invariant-expressions::links-loop-item : goal.invariant-expressions::links-loop-item
invariant-expressions::links-loop-item l = l.marks ++ joined (λ l. l) (map link_marked (drop l.item-index l.links)) ≡ l.initial.marks ++ joined (λ l. l) (map link_marked l.links)

abbrev pub invariant-expressions::operands-loop-operand : goal.invariant-expressions::operands-loop-operand
invariant-expressions::operands-loop-operand l = l.marks ++ joined (λ o. o) (map operand_marked (drop l.operand-index l.operands)) ≡ l.initial.marks ++ joined (λ o. o) (map operand_marked l.operands)

abbrev pub invariant-expressions::template_parts-loop-part : goal.invariant-expressions::template_parts-loop-part
invariant-expressions::template_parts-loop-part l = l.marks ++ joined (λ p. p) (map template_part_marked (drop l.part-index l.template_parts)) ≡ l.initial.marks ++ joined (λ p. p) (map template_part_marked l.template_parts)

abbrev pub invariant-objects::properties-loop-item : goal.invariant-objects::properties-loop-item
invariant-objects::properties-loop-item l = l.marks ++ joined (λ p. p) (map property_marked (drop l.item-index l.properties)) ≡ l.initial.marks ++ joined (λ p. p) (map property_marked l.properties)

abbrev pub invariant-patterns::array_parts-loop-part : goal.invariant-patterns::array_parts-loop-part
invariant-patterns::array_parts-loop-part l = l.marks ++ parts_marks l.role (map array_part_marked (drop l.part-index l.parts)) ≡ l.initial.marks ++ parts_marks l.role (map array_part_marked l.parts)

abbrev pub invariant-patterns::object_parts-loop-part : goal.invariant-patterns::object_parts-loop-part
invariant-patterns::object_parts-loop-part l = l.marks ++ parts_marks l.role (map object_part_marked (drop l.part-index l.parts)) ≡ l.initial.marks ++ parts_marks l.role (map object_part_marked l.parts)

abbrev pub invariant-patterns::variables-loop-item : goal.invariant-patterns::variables-loop-item
invariant-patterns::variables-loop-item l = l.marks ++ declarators l.kind (map part_marked (drop l.item-index l.parts)) ≡ l.initial.marks ++ declarators l.kind (map part_marked l.parts)

abbrev pub invariant-functions::parameters-loop-item : goal.invariant-functions::parameters-loop-item
invariant-functions::parameters-loop-item l = l.marks ++ declarators kind.Parameter (map parameter_marked (drop l.item-index l.list)) ≡ l.initial.marks ++ declarators kind.Parameter (map parameter_marked l.list)

abbrev pub invariant-functions::members-loop-member : goal.invariant-functions::members-loop-member
invariant-functions::members-loop-member l = l.marks ++ joined (λ m. m) (map class_member_marked (drop l.member-index l.members)) ≡ l.initial.marks ++ joined (λ m. m) (map class_member_marked l.members)

abbrev pub invariant-statements::statements-loop-item : goal.invariant-statements::statements-loop-item
invariant-statements::statements-loop-item l = l.marks ++ joined (λ s. s) (map statement_marked (drop l.item-index l.list)) ≡ l.initial.marks ++ joined (λ s. s) (map statement_marked l.list)

abbrev pub invariant-statements::conditions-loop-item : goal.invariant-statements::conditions-loop-item
invariant-statements::conditions-loop-item l = l.marks ++ joined (λ c. c) (map condition_marked (drop l.item-index l.conditions)) ≡ l.initial.marks ++ joined (λ c. c) (map condition_marked l.conditions)

abbrev pub invariant-statements::cases-loop-item : goal.invariant-statements::cases-loop-item
invariant-statements::cases-loop-item l = l.marks ++ joined (λ c. c) (map case_marked (drop l.item-index l.list)) ≡ l.initial.marks ++ joined (λ c. c) (map case_marked l.list)
