use Rattle.std.proofs.Common.{◌≡◌, List, drop, map, false}
use Rattle.es5_printer.specs.Pieces.{Piece, all, separated, elements_of, links_of, operands_of, arguments_of, parts_of, declared_of, more_of, element_shown, shown, link_shown, property_shown, stat_shown, case_shown, condition_shown, declared_shown, operand_shown}
use Rattle.es5_printer.specs.Layout.{written}
use Rattle.es5_printer.proofs.print.+print.Given as goal

abbrev pub invariant-print_argument_list-loop-argument : goal.invariant-print_argument_list-loop-argument
invariant-print_argument_list-loop-argument l = (rest : List Piece) → written l.out (arguments_of l.again (map shown (drop l.argument-index l.arguments)) rest) ≡ written l.initial.out (arguments_of false (map shown l.arguments) rest)

abbrev pub invariant-print_case_list-loop-case : goal.invariant-print_case_list-loop-case
invariant-print_case_list-loop-case l = (rest : List Piece) → written l.out (all (map case_shown (drop l.case-index l.cases)) rest) ≡ written l.initial.out (all (map case_shown l.cases) rest)

abbrev pub invariant-print_declared_list-loop-one : goal.invariant-print_declared_list-loop-one
invariant-print_declared_list-loop-one l = (rest : List Piece) → written l.out (declared_of l.no_in l.again (map declared_shown (drop l.one-index l.declared)) rest) ≡ written l.initial.out (declared_of l.no_in false (map declared_shown l.declared) rest)

abbrev pub invariant-print_elements-loop-element : goal.invariant-print_elements-loop-element
invariant-print_elements-loop-element l = (rest : List Piece) → written l.out (elements_of l.again (map element_shown (drop l.element-index l.elements)) rest) ≡ written l.initial.out (elements_of false (map element_shown l.elements) rest)

abbrev pub invariant-print_links-loop-link : goal.invariant-print_links-loop-link
invariant-print_links-loop-link l = (rest : List Piece) → written l.out (links_of (map link_shown (drop l.link-index l.links)) rest) ≡ written l.initial.out (links_of (map link_shown l.links) rest)

abbrev pub invariant-print_more-loop-condition : goal.invariant-print_more-loop-condition
invariant-print_more-loop-condition l = (rest : List Piece) → written l.out (more_of (map condition_shown (drop l.condition-index l.more)) rest) ≡ written l.initial.out (more_of (map condition_shown l.more) rest)

abbrev pub invariant-print_operands-loop-operand : goal.invariant-print_operands-loop-operand
invariant-print_operands-loop-operand l = (rest : List Piece) → written l.out (operands_of l.no_in l.level (map operand_shown (drop l.operand-index l.operands)) rest) ≡ written l.initial.out (operands_of l.no_in l.level (map operand_shown l.operands) rest)

abbrev pub invariant-print_parts-loop-part : goal.invariant-print_parts-loop-part
invariant-print_parts-loop-part l = (rest : List Piece) → written l.out (parts_of l.no_in (map shown (drop l.part-index l.parts)) rest) ≡ written l.initial.out (parts_of l.no_in (map shown l.parts) rest)

abbrev pub invariant-print_properties-loop-property : goal.invariant-print_properties-loop-property
invariant-print_properties-loop-property l = (rest : List Piece) → written l.out (separated l.again (map property_shown (drop l.property-index l.properties)) rest) ≡ written l.initial.out (separated false (map property_shown l.properties) rest)

abbrev pub invariant-print_stats-loop-stat : goal.invariant-print_stats-loop-stat
invariant-print_stats-loop-stat l = (rest : List Piece) → written l.out (all (map stat_shown (drop l.stat-index l.stats)) rest) ≡ written l.initial.out (all (map stat_shown l.stats) rest)
