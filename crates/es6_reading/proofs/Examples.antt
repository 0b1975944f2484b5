-- The small modules are read so, and the others stop there, by running the model.
use Rattle.std.proofs.Common.{refl}
use denote.Hole.Carrier as carrier
use Rattle.es_outside.specs.HostNames.{reserved_words}
use Rattle.es6_ast.specs.declared.tree.Expression as tree_Expression
use Rattle.es6_ast.specs.declared.tree.Pattern as tree_Pattern
use Rattle.es6_ast.specs.declared.tree.ArrayPart as tree_ArrayPart
use Rattle.es6_ast.specs.declared.tree.ObjectPart as tree_ObjectPart
use Rattle.es6_ast.specs.declared.tree.Element as tree_Element
use Rattle.es6_ast.specs.declared.tree.Argument as tree_Argument
use Rattle.es6_ast.specs.declared.tree.Property as tree_Property
use Rattle.es6_ast.specs.declared.tree.Method as tree_Method
use Rattle.es6_ast.specs.declared.tree.Template as tree_Template
use Rattle.es6_ast.specs.declared.tree.Class as tree_Class
use Rattle.es6_ast.specs.declared.tree.Link as tree_Link
use Rattle.es6_ast.specs.declared.tree.Argument.TheBlock as block
use Rattle.es6_reading.specs.Parser as parser_
use Rattle.es6_reading.specs.Words as words_
use Rattle.es6_reading.specs.Refine as refine_
use Rattle.es6_reading.specs.Parts as parts_
use Rattle.es6_reading.specs.Expressions as expressions_
use Rattle.es6_reading.specs.Statements as statements_
use Rattle.es6_reading.specs.Modules as modules_
use Rattle.es6_reading.specs.Examples.{AreRead, AreStopped, IsDeepest}
use Rattle.es6_reading.specs.Program.{IsProgramRead}

pub are-read : AreRead
unfolding carrier.out carrier.shown carrier.hidden reserved_words block.shown-the_row-Argument-9 block.shown-the_row-ArrayPart-13 block.shown-the_row-Element-2 block.shown-the_row-Expression-0 block.shown-the_row-Expression-11 block.shown-the_row-Link-8 block.shown-the_row-ObjectPart-14 block.shown-the_row-Part-12 block.shown-the_row-Property-3 tree_Expression.out-Expression tree_Pattern.out-Pattern tree_ArrayPart.out-ArrayPart tree_ObjectPart.out-ObjectPart tree_Element.out-Element tree_Argument.out-Argument tree_Property.out-Property tree_Method.out-Method tree_Template.out-Template tree_Class.out-Class tree_Link.out-Link parser_.refused parser_.no_number parser_.no_expression parser_.semicolon parser_.semicolon_of_do_while words_.unary_operators words_.assign_operators words_.binary_operators words_.operand_words words_.begins_operand words_.begins_unary words_.begins_expression refine_.refine_pattern refine_.refine_part refine_.target_before refine_.refine_parameters parts_.identifier parts_.name_of_any_kind parts_.computed_key parts_.key parts_.rest_part parts_.array_parts parts_.object_parts parts_.binding_pattern parts_.binding parts_.initialized parts_.one_part parts_.keyed_part parts_.named_part parts_.one_object_part parts_.rest_parameter parts_.more_parameters parts_.parameters parts_.statements parts_.block parts_.function_body parts_.signature parts_.star parts_.rest_of_function parts_.named_function parts_.function_after_word parts_.method_after_key parts_.no_parameter parts_.one_parameter parts_.accessor_parameters parts_.accessor parts_.generator_method parts_.method_after_accessor_word parts_.method parts_.member_after_static parts_.one_member parts_.members parts_.heritage parts_.rest_of_class parts_.named_class parts_.class_after_word parts_.template_parts parts_.parted_template expressions_.argument expressions_.elements expressions_.more_arguments expressions_.arguments expressions_.properties expressions_.covered expressions_.covered_rest expressions_.held_parts expressions_.closed_group expressions_.held_group expressions_.grouped expressions_.bracketed expressions_.composed expressions_.primary expressions_.after_callee expressions_.after_new expressions_.super_call expressions_.after_super expressions_.head expressions_.member_link expressions_.index_link expressions_.call_link expressions_.links expressions_.chain expressions_.postfix expressions_.prefixed expressions_.updated expressions_.update expressions_.unary expressions_.raised expressions_.power expressions_.operands expressions_.binary_from expressions_.branches expressions_.conditional expressions_.arrow_body expressions_.assigned_with expressions_.after_conditional expressions_.ends_yield expressions_.after_yield expressions_.without_yield expressions_.assignment expressions_.parts expressions_.more_parts expressions_.sequence expressions_.value_of_key expressions_.method_of_key expressions_.after_key expressions_.shorthand expressions_.after_name expressions_.after_accessor_word expressions_.one_property expressions_.expression_at_limit expressions_.operand_at_limit statements_.one_variable statements_.variables statements_.variables_statement statements_.parenthesized statements_.condition statements_.otherwise statements_.if_statement statements_.do_statement statements_.while_statement statements_.optional statements_.rest_of_for statements_.rest_of_of statements_.first_variables statements_.after_first_variable statements_.after_bare_variable statements_.for_variables statements_.first_expression statements_.assigned_in_turn statements_.for_expression statements_.for_header statements_.for_statement statements_.optional_label statements_.continue_statement statements_.break_statement statements_.returned statements_.return_statement statements_.throw_statement statements_.in_case statements_.case_clause statements_.default_clause statements_.cases statements_.switch_statement statements_.catch_parameter statements_.handler statements_.after_handler statements_.only_finally statements_.try_statement statements_.debugger_statement statements_.expression_end statements_.labelled statements_.expression_statement statements_.function_declaration statements_.class_declaration statements_.labelled_function statements_.plain_statement statements_.jump_statement statements_.compound_statement statements_.block_statement statements_.statement statements_.statement_words statements_.begins_statement statements_.statement_at_limit modules_.readers modules_.specifier modules_.from_clause modules_.one_import modules_.imports modules_.namespace modules_.imported_names modules_.rest_of_import modules_.default_import modules_.import_alone modules_.import_item modules_.one_export modules_.exports modules_.own_names modules_.export_names modules_.export_all modules_.default_value modules_.export_default modules_.exported_declaration modules_.export_declaration modules_.export_item modules_.statement_item modules_.one_item modules_.items modules_.whole_module modules_.read_module
are-read = record {
  of_a_declaration = (_, _, refl);
  of_an_insertion = (_, _, refl);
  of_an_arrow = (_, _, refl);
  of_a_destructuring = (_, _, refl);
  of_a_class = (_, _, refl);
  of_a_template = (_, _, refl);
  of_loops = (_, _, refl);
  of_conditions = (_, _, refl);
  of_operators = (_, _, refl);
  of_an_object = (_, _, refl);
  of_links = (_, _, refl);
}

pub are-stopped : AreStopped
unfolding carrier.out carrier.shown carrier.hidden reserved_words block.shown-the_row-Argument-9 block.shown-the_row-ArrayPart-13 block.shown-the_row-Element-2 block.shown-the_row-Expression-0 block.shown-the_row-Expression-11 block.shown-the_row-Link-8 block.shown-the_row-ObjectPart-14 block.shown-the_row-Part-12 block.shown-the_row-Property-3 tree_Expression.out-Expression tree_Pattern.out-Pattern tree_ArrayPart.out-ArrayPart tree_ObjectPart.out-ObjectPart tree_Element.out-Element tree_Argument.out-Argument tree_Property.out-Property tree_Method.out-Method tree_Template.out-Template tree_Class.out-Class tree_Link.out-Link parser_.refused parser_.no_number parser_.no_expression parser_.semicolon parser_.semicolon_of_do_while words_.unary_operators words_.assign_operators words_.binary_operators words_.operand_words words_.begins_operand words_.begins_unary words_.begins_expression refine_.refine_pattern refine_.refine_part refine_.target_before refine_.refine_parameters parts_.identifier parts_.name_of_any_kind parts_.computed_key parts_.key parts_.rest_part parts_.array_parts parts_.object_parts parts_.binding_pattern parts_.binding parts_.initialized parts_.one_part parts_.keyed_part parts_.named_part parts_.one_object_part parts_.rest_parameter parts_.more_parameters parts_.parameters parts_.statements parts_.block parts_.function_body parts_.signature parts_.star parts_.rest_of_function parts_.named_function parts_.function_after_word parts_.method_after_key parts_.no_parameter parts_.one_parameter parts_.accessor_parameters parts_.accessor parts_.generator_method parts_.method_after_accessor_word parts_.method parts_.member_after_static parts_.one_member parts_.members parts_.heritage parts_.rest_of_class parts_.named_class parts_.class_after_word parts_.template_parts parts_.parted_template expressions_.argument expressions_.elements expressions_.more_arguments expressions_.arguments expressions_.properties expressions_.covered expressions_.covered_rest expressions_.held_parts expressions_.closed_group expressions_.held_group expressions_.grouped expressions_.bracketed expressions_.composed expressions_.primary expressions_.after_callee expressions_.after_new expressions_.super_call expressions_.after_super expressions_.head expressions_.member_link expressions_.index_link expressions_.call_link expressions_.links expressions_.chain expressions_.postfix expressions_.prefixed expressions_.updated expressions_.update expressions_.unary expressions_.raised expressions_.power expressions_.operands expressions_.binary_from expressions_.branches expressions_.conditional expressions_.arrow_body expressions_.assigned_with expressions_.after_conditional expressions_.ends_yield expressions_.after_yield expressions_.without_yield expressions_.assignment expressions_.parts expressions_.more_parts expressions_.sequence expressions_.value_of_key expressions_.method_of_key expressions_.after_key expressions_.shorthand expressions_.after_name expressions_.after_accessor_word expressions_.one_property expressions_.expression_at_limit expressions_.operand_at_limit statements_.one_variable statements_.variables statements_.variables_statement statements_.parenthesized statements_.condition statements_.otherwise statements_.if_statement statements_.do_statement statements_.while_statement statements_.optional statements_.rest_of_for statements_.rest_of_of statements_.first_variables statements_.after_first_variable statements_.after_bare_variable statements_.for_variables statements_.first_expression statements_.assigned_in_turn statements_.for_expression statements_.for_header statements_.for_statement statements_.optional_label statements_.continue_statement statements_.break_statement statements_.returned statements_.return_statement statements_.throw_statement statements_.in_case statements_.case_clause statements_.default_clause statements_.cases statements_.switch_statement statements_.catch_parameter statements_.handler statements_.after_handler statements_.only_finally statements_.try_statement statements_.debugger_statement statements_.expression_end statements_.labelled statements_.expression_statement statements_.function_declaration statements_.class_declaration statements_.labelled_function statements_.plain_statement statements_.jump_statement statements_.compound_statement statements_.block_statement statements_.statement statements_.statement_words statements_.begins_statement statements_.statement_at_limit modules_.readers modules_.specifier modules_.from_clause modules_.one_import modules_.imports modules_.namespace modules_.imported_names modules_.rest_of_import modules_.default_import modules_.import_alone modules_.import_item modules_.one_export modules_.exports modules_.own_names modules_.export_names modules_.export_all modules_.default_value modules_.export_default modules_.exported_declaration modules_.export_declaration modules_.export_item modules_.statement_item modules_.one_item modules_.items modules_.whole_module modules_.read_module
are-stopped = record {
  of_no_value = refl;
  of_a_for_in = refl;
  of_a_pattern_in = refl;
  of_an_arrow_on_a_new_line = refl;
  of_no_parameters = refl;
  of_an_empty_group = refl;
  of_no_arrow_here = refl;
  of_a_rest_after_no_parameter = refl;
  of_a_regular_expression = refl;
  of_no_regular_expression = refl;
  of_a_point = refl;
  of_a_large_number = refl;
  of_a_with = refl;
  of_a_lexical_fault = refl;
  of_a_power_of_a_minus = refl;
  of_a_declaration_under_if = refl;
  of_a_generator_under_a_label = refl;
  of_a_pattern_without_value = refl;
  of_a_reserved_export = refl;
  of_a_return = refl;
  of_two_statements = refl;
  of_a_throw_on_a_new_line = refl;
}

pub is-deepest : IsDeepest
unfolding carrier.out carrier.shown carrier.hidden reserved_words block.shown-the_row-Argument-9 block.shown-the_row-ArrayPart-13 block.shown-the_row-Element-2 block.shown-the_row-Expression-0 block.shown-the_row-Expression-11 block.shown-the_row-Link-8 block.shown-the_row-ObjectPart-14 block.shown-the_row-Part-12 block.shown-the_row-Property-3 tree_Expression.out-Expression tree_Pattern.out-Pattern tree_ArrayPart.out-ArrayPart tree_ObjectPart.out-ObjectPart tree_Element.out-Element tree_Argument.out-Argument tree_Property.out-Property tree_Method.out-Method tree_Template.out-Template tree_Class.out-Class tree_Link.out-Link parser_.refused parser_.no_number parser_.no_expression parser_.semicolon parser_.semicolon_of_do_while words_.unary_operators words_.assign_operators words_.binary_operators words_.operand_words words_.begins_operand words_.begins_unary words_.begins_expression refine_.refine_pattern refine_.refine_part refine_.target_before refine_.refine_parameters parts_.identifier parts_.name_of_any_kind parts_.computed_key parts_.key parts_.rest_part parts_.array_parts parts_.object_parts parts_.binding_pattern parts_.binding parts_.initialized parts_.one_part parts_.keyed_part parts_.named_part parts_.one_object_part parts_.rest_parameter parts_.more_parameters parts_.parameters parts_.statements parts_.block parts_.function_body parts_.signature parts_.star parts_.rest_of_function parts_.named_function parts_.function_after_word parts_.method_after_key parts_.no_parameter parts_.one_parameter parts_.accessor_parameters parts_.accessor parts_.generator_method parts_.method_after_accessor_word parts_.method parts_.member_after_static parts_.one_member parts_.members parts_.heritage parts_.rest_of_class parts_.named_class parts_.class_after_word parts_.template_parts parts_.parted_template expressions_.argument expressions_.elements expressions_.more_arguments expressions_.arguments expressions_.properties expressions_.covered expressions_.covered_rest expressions_.held_parts expressions_.closed_group expressions_.held_group expressions_.grouped expressions_.bracketed expressions_.composed expressions_.primary expressions_.after_callee expressions_.after_new expressions_.super_call expressions_.after_super expressions_.head expressions_.member_link expressions_.index_link expressions_.call_link expressions_.links expressions_.chain expressions_.postfix expressions_.prefixed expressions_.updated expressions_.update expressions_.unary expressions_.raised expressions_.power expressions_.operands expressions_.binary_from expressions_.branches expressions_.conditional expressions_.arrow_body expressions_.assigned_with expressions_.after_conditional expressions_.ends_yield expressions_.after_yield expressions_.without_yield expressions_.assignment expressions_.parts expressions_.more_parts expressions_.sequence expressions_.value_of_key expressions_.method_of_key expressions_.after_key expressions_.shorthand expressions_.after_name expressions_.after_accessor_word expressions_.one_property expressions_.expression_at_limit expressions_.operand_at_limit statements_.one_variable statements_.variables statements_.variables_statement statements_.parenthesized statements_.condition statements_.otherwise statements_.if_statement statements_.do_statement statements_.while_statement statements_.optional statements_.rest_of_for statements_.rest_of_of statements_.first_variables statements_.after_first_variable statements_.after_bare_variable statements_.for_variables statements_.first_expression statements_.assigned_in_turn statements_.for_expression statements_.for_header statements_.for_statement statements_.optional_label statements_.continue_statement statements_.break_statement statements_.returned statements_.return_statement statements_.throw_statement statements_.in_case statements_.case_clause statements_.default_clause statements_.cases statements_.switch_statement statements_.catch_parameter statements_.handler statements_.after_handler statements_.only_finally statements_.try_statement statements_.debugger_statement statements_.expression_end statements_.labelled statements_.expression_statement statements_.function_declaration statements_.class_declaration statements_.labelled_function statements_.plain_statement statements_.jump_statement statements_.compound_statement statements_.block_statement statements_.statement statements_.statement_words statements_.begins_statement statements_.statement_at_limit modules_.readers modules_.specifier modules_.from_clause modules_.one_import modules_.imports modules_.namespace modules_.imported_names modules_.rest_of_import modules_.default_import modules_.import_alone modules_.import_item modules_.one_export modules_.exports modules_.own_names modules_.export_names modules_.export_all modules_.default_value modules_.export_default modules_.exported_declaration modules_.export_declaration modules_.export_item modules_.statement_item modules_.one_item modules_.items modules_.whole_module modules_.read_module
is-deepest = record {
  allowed = refl;
  too_deep = refl;
  template_too_deep = refl;
}

pub is-program-read : IsProgramRead
unfolding carrier.out carrier.shown carrier.hidden reserved_words block.shown-the_row-Argument-9 block.shown-the_row-ArrayPart-13 block.shown-the_row-Element-2 block.shown-the_row-Expression-0 block.shown-the_row-Expression-11 block.shown-the_row-Link-8 block.shown-the_row-ObjectPart-14 block.shown-the_row-Part-12 block.shown-the_row-Property-3 tree_Expression.out-Expression tree_Pattern.out-Pattern tree_ArrayPart.out-ArrayPart tree_ObjectPart.out-ObjectPart tree_Element.out-Element tree_Argument.out-Argument tree_Property.out-Property tree_Method.out-Method tree_Template.out-Template tree_Class.out-Class tree_Link.out-Link parser_.refused parser_.no_number parser_.no_expression parser_.semicolon parser_.semicolon_of_do_while words_.unary_operators words_.assign_operators words_.binary_operators words_.operand_words words_.begins_operand words_.begins_unary words_.begins_expression refine_.refine_pattern refine_.refine_part refine_.target_before refine_.refine_parameters parts_.identifier parts_.name_of_any_kind parts_.computed_key parts_.key parts_.rest_part parts_.array_parts parts_.object_parts parts_.binding_pattern parts_.binding parts_.initialized parts_.one_part parts_.keyed_part parts_.named_part parts_.one_object_part parts_.rest_parameter parts_.more_parameters parts_.parameters parts_.statements parts_.block parts_.function_body parts_.signature parts_.star parts_.rest_of_function parts_.named_function parts_.function_after_word parts_.method_after_key parts_.no_parameter parts_.one_parameter parts_.accessor_parameters parts_.accessor parts_.generator_method parts_.method_after_accessor_word parts_.method parts_.member_after_static parts_.one_member parts_.members parts_.heritage parts_.rest_of_class parts_.named_class parts_.class_after_word parts_.template_parts parts_.parted_template expressions_.argument expressions_.elements expressions_.more_arguments expressions_.arguments expressions_.properties expressions_.covered expressions_.covered_rest expressions_.held_parts expressions_.closed_group expressions_.held_group expressions_.grouped expressions_.bracketed expressions_.composed expressions_.primary expressions_.after_callee expressions_.after_new expressions_.super_call expressions_.after_super expressions_.head expressions_.member_link expressions_.index_link expressions_.call_link expressions_.links expressions_.chain expressions_.postfix expressions_.prefixed expressions_.updated expressions_.update expressions_.unary expressions_.raised expressions_.power expressions_.operands expressions_.binary_from expressions_.branches expressions_.conditional expressions_.arrow_body expressions_.assigned_with expressions_.after_conditional expressions_.ends_yield expressions_.after_yield expressions_.without_yield expressions_.assignment expressions_.parts expressions_.more_parts expressions_.sequence expressions_.value_of_key expressions_.method_of_key expressions_.after_key expressions_.shorthand expressions_.after_name expressions_.after_accessor_word expressions_.one_property expressions_.expression_at_limit expressions_.operand_at_limit statements_.one_variable statements_.variables statements_.variables_statement statements_.parenthesized statements_.condition statements_.otherwise statements_.if_statement statements_.do_statement statements_.while_statement statements_.optional statements_.rest_of_for statements_.rest_of_of statements_.first_variables statements_.after_first_variable statements_.after_bare_variable statements_.for_variables statements_.first_expression statements_.assigned_in_turn statements_.for_expression statements_.for_header statements_.for_statement statements_.optional_label statements_.continue_statement statements_.break_statement statements_.returned statements_.return_statement statements_.throw_statement statements_.in_case statements_.case_clause statements_.default_clause statements_.cases statements_.switch_statement statements_.catch_parameter statements_.handler statements_.after_handler statements_.only_finally statements_.try_statement statements_.debugger_statement statements_.expression_end statements_.labelled statements_.expression_statement statements_.function_declaration statements_.class_declaration statements_.labelled_function statements_.plain_statement statements_.jump_statement statements_.compound_statement statements_.block_statement statements_.statement statements_.statement_words statements_.begins_statement statements_.statement_at_limit modules_.readers modules_.specifier modules_.from_clause modules_.one_import modules_.imports modules_.namespace modules_.imported_names modules_.rest_of_import modules_.default_import modules_.import_alone modules_.import_item modules_.one_export modules_.exports modules_.own_names modules_.export_names modules_.export_all modules_.default_value modules_.export_default modules_.exported_declaration modules_.export_declaration modules_.export_item modules_.statement_item modules_.one_item modules_.items modules_.whole_module modules_.read_module
is-program-read = record {
  main = (_, _, refl);
  queue = (_, _, refl);
  tree = (_, _, refl);
  texts = (_, _, refl);
}
