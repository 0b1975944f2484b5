use Rattle.std.proofs.Common.{◌≡◌, ◌&&◌, ◌==◌, drop, map, true}
use Rattle.std.specs.List.{list_all}
use Rattle.es5_printable.specs.Printable.{case_fit, cases_fit, condition_fit, declared_fit, element_fit, every, expr_fit, exprs_fit, link_fit, operand_fit, property_fit, stat_fit, stats_fit}
use Rattle.es5_printable.proofs.+walk.Given as goal

abbrev pub invariant-expression_forms::expressions_fit-loop-expression : goal.invariant-expression_forms::expressions_fit-loop-expression
invariant-expression_forms::expressions_fit-loop-expression l = exprs_fit (map expr_fit (drop l.expression-index l.expressions)) ≡ exprs_fit (map expr_fit l.expressions)

abbrev pub invariant-expression_forms::elements_fit-loop-element : goal.invariant-expression_forms::elements_fit-loop-element
invariant-expression_forms::elements_fit-loop-element l = every (map element_fit (drop l.element-index l.elements)) ≡ every (map element_fit l.elements)

abbrev pub invariant-expression_forms::properties_fit-loop-property : goal.invariant-expression_forms::properties_fit-loop-property
invariant-expression_forms::properties_fit-loop-property l = every (map property_fit (drop l.property-index l.properties)) ≡ every (map property_fit l.properties)

abbrev pub invariant-expression_forms::each_link_fits-loop-link : goal.invariant-expression_forms::each_link_fits-loop-link
invariant-expression_forms::each_link_fits-loop-link l = list_all (λ k. k.fits) (map link_fit (drop l.link-index l.links)) ≡ list_all (λ k. k.fits) (map link_fit l.links)

abbrev pub invariant-expression_forms::operands_fit_at-loop-operand : goal.invariant-expression_forms::operands_fit_at-loop-operand
invariant-expression_forms::operands_fit_at-loop-operand l = list_all (λ o. o.fits && (o.level == l.level)) (map operand_fit (drop l.operand-index l.operands)) ≡ list_all (λ o. o.fits && (o.level == l.level)) (map operand_fit l.operands)

abbrev pub invariant-statement_forms::statements_fit-loop-statement : goal.invariant-statement_forms::statements_fit-loop-statement
invariant-statement_forms::statements_fit-loop-statement l = stats_fit l.inside l.top (map stat_fit (drop l.statement-index l.statements)) ≡ stats_fit l.inside l.top (map stat_fit l.statements)

abbrev pub invariant-statement_forms::conditions_fit-loop-condition : goal.invariant-statement_forms::conditions_fit-loop-condition
invariant-statement_forms::conditions_fit-loop-condition l = list_all (λ c. c.fits l.inside) (map condition_fit (drop l.condition-index l.conditions)) ≡ list_all (λ c. c.fits l.inside) (map condition_fit l.conditions)

abbrev pub invariant-statement_forms::each_declaration_fits-loop-one : goal.invariant-statement_forms::each_declaration_fits-loop-one
invariant-statement_forms::each_declaration_fits-loop-one l = every (map declared_fit (drop l.one-index l.declared)) ≡ every (map declared_fit l.declared)

abbrev pub invariant-statement_forms::cases_fit-loop-case : goal.invariant-statement_forms::cases_fit-loop-case
invariant-statement_forms::cases_fit-loop-case l = cases_fit l.inside l.may (map case_fit (drop l.case-index l.cases)) ≡ cases_fit l.inside true (map case_fit l.cases)
