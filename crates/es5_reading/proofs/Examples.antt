-- The small scripts are read so, by running the model.
use Rattle.std.proofs.Common.{refl}
use Rattle.es5_ast.specs.declared.tree.Expr5 as x5
use denote.Hole.Carrier as carrier
use Rattle.es5_ast.specs.Lexical.{reserved_words}
use Rattle.es5_reading.specs.Parser.{semicolon}
use Rattle.es5_reading.specs.Expressions as e
use Rattle.es5_reading.specs.Statements as s
use Rattle.es5_reading.specs.Programs.{readers, program, script, continues}
use Rattle.es5_reading.specs.Examples.{AreRead}

pub are-read : AreRead
unfolding carrier.out x5.out-Expr5 readers program script continues semicolon reserved_words e.unary_operators e.assign_operators e.binary_operators e.identifier e.key e.more_parameters e.parameters e.statements e.body e.rest_of_function e.function_expression e.no_parameter e.one_parameter e.accessor_parameters e.accessor_function e.accessor e.properties e.elements e.more_arguments e.arguments e.grouped e.no_expression e.bracketed e.primary e.after_callee e.head e.member_link e.index_link e.call_link e.links e.chain e.postfix e.prefixed e.updated e.unary e.operands e.binary_from e.branches e.conditional e.assigned e.assignment e.parts e.more_parts e.sequence e.value_of_key e.plain_property e.after_accessor_word e.one_property e.begins_operand e.begins_expression e.expression_at_limit e.callee_at_limit s.block s.initialized s.one_declared s.declared_list s.var_statement s.parenthesized s.condition s.otherwise s.if_statement s.do_statement s.while_statement s.after_first_declared s.for_var s.for_expression s.for_first_part s.optional s.for_header s.for_statement s.optional_label s.continue_statement s.break_statement s.returned s.return_statement s.throw_statement s.in_case s.case_clause s.default_clause s.cases s.switch_statement s.catch_parameter s.handler s.after_handler s.only_finally s.try_statement s.debugger_statement s.declaration s.expression_end s.labelled s.expression_statement s.plain_statement s.jump_statement s.compound_statement s.block_statement s.statement s.statement_words s.begins_statement s.statement_at_limit
are-read = record {
  a_call = (_, _, refl);
  a_condition = (_, _, refl);
  a_loop = (_, _, refl);
  a_function = (_, _, refl);
  no_directive_alone = refl;
  no_semicolon = refl;
  a_for_in = refl;
  a_with = refl;
  a_regular_expression = refl;
  no_directive = refl;
}
