use Rattle.std.proofs.Common.{◌≡◌, map, drop}
use Rattle.es5_ast.specs.Early.{joined, stat_pairs}
use Rattle.es5_early.specs.Pairs.{least_with}
use Rattle.es5_early.specs.Parts.{case_pairs, condition_pairs, declared_pairs, element_pairs, found, held, linked, operand_pairs}
use Rattle.es5_early.specs.Rounds.{round}
use Rattle.es5_early.proofs.Walked.{named_pairs}
use Rattle.es5_early.proofs.finder.Finder.+walk.Given as goal

abbrev pub invariant-cases-loop-case : goal.invariant-cases-loop-case
invariant-cases-loop-case l = record { pairs : least_with l.self (joined (λ c. c (round l.labels l.place)) (map case_pairs (drop l.case-index l.cases))) ≡ least_with l.initial.self (joined (λ c. c (round l.labels l.place)) (map case_pairs (l.cases))); labels : l.labels ≡ l.initial.labels }

abbrev pub invariant-conditions-loop-condition : goal.invariant-conditions-loop-condition
invariant-conditions-loop-condition l = record { pairs : least_with l.self (joined (λ c. c (round l.labels l.place)) (map condition_pairs (drop l.condition-index l.conditions))) ≡ least_with l.initial.self (joined (λ c. c (round l.labels l.place)) (map condition_pairs (l.conditions))); labels : l.labels ≡ l.initial.labels }

abbrev pub invariant-declarations-loop-variable : goal.invariant-declarations-loop-variable
invariant-declarations-loop-variable l = least_with l.self (joined (λ d. d l.inside) (map declared_pairs (drop l.variable-index l.declared))) ≡ least_with l.initial.self (joined (λ d. d l.inside) (map declared_pairs (l.declared)))

abbrev pub invariant-elements-loop-element : goal.invariant-elements-loop-element
invariant-elements-loop-element l = least_with l.self (joined (λ e. e l.inside) (map element_pairs (drop l.element-index l.elements))) ≡ least_with l.initial.self (joined (λ e. e l.inside) (map element_pairs (l.elements)))

abbrev pub invariant-expressions-loop-expression : goal.invariant-expressions-loop-expression
invariant-expressions-loop-expression l = least_with l.self (joined (λ x. x.pairs l.inside) (map found (drop l.expression-index l.expressions))) ≡ least_with l.initial.self (joined (λ x. x.pairs l.inside) (map found (l.expressions)))

abbrev pub invariant-links-loop-link : goal.invariant-links-loop-link
invariant-links-loop-link l = least_with l.self (joined (λ k. k.1 l.inside) (map linked (drop l.link-index l.links))) ≡ least_with l.initial.self (joined (λ k. k.1 l.inside) (map linked (l.links)))

abbrev pub invariant-operands-loop-operand : goal.invariant-operands-loop-operand
invariant-operands-loop-operand l = least_with l.self (joined (λ o. o l.inside) (map operand_pairs (drop l.operand-index l.operands))) ≡ least_with l.initial.self (joined (λ o. o l.inside) (map operand_pairs (l.operands)))

abbrev pub invariant-statements-loop-statement : goal.invariant-statements-loop-statement
invariant-statements-loop-statement l = record { pairs : least_with l.self (joined (λ s. s (round l.labels l.place)) (map stat_pairs (drop l.statement-index l.statements))) ≡ least_with l.initial.self (joined (λ s. s (round l.labels l.place)) (map stat_pairs (l.statements))); labels : l.labels ≡ l.initial.labels }

abbrev pub invariant-properties-loop-property : goal.invariant-properties-loop-property
invariant-properties-loop-property l = least_with l.self (named_pairs l.names (map held (drop l.property-index l.properties)) l.inside) ≡ least_with l.initial.self (named_pairs l.initial.names (map held l.properties) l.inside)
