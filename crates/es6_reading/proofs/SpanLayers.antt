-- What the spans of a tree are, by its own layer.
use Rattle.std.proofs.Common.{◌≡◌, List}
use Rattle.es_text.specs.declared.Span.{Span}
use Rattle.es6_ast.specs.declared.tree.Argument.{Argument, roll-Argument, fold-roll-Argument}
use Rattle.es6_ast.specs.declared.tree.ArrayPart.{ArrayPart, roll-ArrayPart, fold-roll-ArrayPart}
use Rattle.es6_ast.specs.declared.tree.ArrowBody.{ArrowBody, roll-ArrowBody, fold-roll-ArrowBody}
use Rattle.es6_ast.specs.declared.tree.Element.{Element, roll-Element, fold-roll-Element}
use Rattle.es6_ast.specs.declared.tree.Expression.{Expression, roll-Expression, fold-roll-Expression}
use Rattle.es6_ast.specs.declared.tree.ForFirst.{ForFirst, roll-ForFirst, fold-roll-ForFirst}
use Rattle.es6_ast.specs.declared.tree.ForTarget.{ForTarget, roll-ForTarget, fold-roll-ForTarget}
use Rattle.es6_ast.specs.declared.tree.Key.{Key, roll-Key, fold-roll-Key}
use Rattle.es6_ast.specs.declared.tree.Link.{Link, roll-Link, fold-roll-Link}
use Rattle.es6_ast.specs.declared.tree.ObjectPart.{ObjectPart, roll-ObjectPart, fold-roll-ObjectPart}
use Rattle.es6_ast.specs.declared.tree.Parameter.{Parameter, roll-Parameter, fold-roll-Parameter}
use Rattle.es6_ast.specs.declared.tree.Pattern.{Pattern, roll-Pattern, fold-roll-Pattern}
use Rattle.es6_ast.specs.declared.tree.Property.{Property, roll-Property, fold-roll-Property}
use Rattle.es6_ast.specs.declared.tree.Statement.{Statement, roll-Statement, fold-roll-Statement}
use Rattle.es6_ast.specs.declared.tree.Arrow.{Arrow, roll-Arrow, fold-roll-Arrow}
use Rattle.es6_ast.specs.declared.tree.Block.{Block, roll-Block, fold-roll-Block}
use Rattle.es6_ast.specs.declared.tree.Case.{Case, roll-Case, fold-roll-Case}
use Rattle.es6_ast.specs.declared.tree.Catch.{Catch, roll-Catch, fold-roll-Catch}
use Rattle.es6_ast.specs.declared.tree.Class.{Class, roll-Class, fold-roll-Class}
use Rattle.es6_ast.specs.declared.tree.ClassMember.{ClassMember, roll-ClassMember, fold-roll-ClassMember}
use Rattle.es6_ast.specs.declared.tree.Condition.{Condition, roll-Condition, fold-roll-Condition}
use Rattle.es6_ast.specs.declared.tree.Function.{Function, roll-Function, fold-roll-Function}
use Rattle.es6_ast.specs.declared.tree.Method.{Method, roll-Method, fold-roll-Method}
use Rattle.es6_ast.specs.declared.tree.Operand.{Operand, roll-Operand, fold-roll-Operand}
use Rattle.es6_ast.specs.declared.tree.Part.{Part, roll-Part, fold-roll-Part}
use Rattle.es6_ast.specs.declared.tree.Template.{Template, roll-Template, fold-roll-Template}
use Rattle.es6_ast.specs.declared.tree.TemplatePart.{TemplatePart, roll-TemplatePart, fold-roll-TemplatePart}
use Rattle.es6_ast.specs.declared.tree.Argument.TheOpen.{Argument-F, ArrayPart-F, ArrowBody-F, Element-F, Expression-F, ForFirst-F, ForTarget-F, Key-F, Link-F, ObjectPart-F, Parameter-F, Pattern-F, Property-F, Statement-F, Arrow-F, Block-F, Case-F, Catch-F, Class-F, ClassMember-F, Condition-F, Function-F, Method-F, Operand-F, Part-F, Template-F, TemplatePart-F}
use Rattle.es6_ast.specs.declared.tree.Argument.TheFolds.{map-Argument, map-ArrayPart, map-ArrowBody, map-Element, map-Expression, map-ForFirst, map-ForTarget, map-Key, map-Link, map-ObjectPart, map-Parameter, map-Pattern, map-Property, map-Statement, map-Arrow, map-Block, map-Case, map-Catch, map-Class, map-ClassMember, map-Condition, map-Function, map-Method, map-Operand, map-Part, map-Template, map-TemplatePart}
use Rattle.es6_ast.specs.Depth.{Spanned, argument_step, array_part_step, arrow_body_step, element_step, expression_step, for_first_step, for_target_step, key_step, link_step, object_part_step, parameter_step, pattern_step, property_step, statement_step, arrow_step, block_step, case_step, catch_step, class_step, class_member_step, condition_step, function_step, method_step, operand_step, part_step, template_step, template_part_step}
use Rattle.es6_reading.proofs.SpanCounts.{spans_argument, spans_array_part, spans_arrow_body, spans_element, spans_expression, spans_for_first, spans_for_target, spans_key, spans_link, spans_object_part, spans_parameter, spans_pattern, spans_property, spans_statement, spans_arrow, spans_block, spans_case, spans_catch, spans_class, spans_class_member, spans_condition, spans_function, spans_method, spans_operand, spans_part, spans_template, spans_template_part}
use Rattle.es6_ast.specs.Spans.{Open}

abbrev pub layer_argument : Open Argument-F → List Span
layer_argument l =
    argument_step (map-Argument Argument ArrayPart ArrowBody Element Expression ForFirst ForTarget Key Link ObjectPart Parameter Pattern Property Statement Arrow Block Case Catch Class ClassMember Condition Function Method Operand Part Template TemplatePart
    (List Span) (List Span) Spanned (List Span) Spanned (List Span) (List Span) (List Span) (List Span) (List Span) (List Span) (List Span) (List Span) Spanned Spanned Spanned (List Span) (List Span) Spanned (List Span) (List Span) Spanned (List Span) (List Span) (List Span) Spanned (List Span)
    spans_argument spans_array_part spans_arrow_body spans_element spans_expression spans_for_first spans_for_target spans_key spans_link spans_object_part spans_parameter spans_pattern spans_property spans_statement spans_arrow spans_block spans_case spans_catch spans_class spans_class_member spans_condition spans_function spans_method spans_operand spans_part spans_template spans_template_part l)

pub rolled_argument : (l : Open Argument-F) → spans_argument (roll-Argument l) ≡ layer_argument l
rolled_argument l =
    fold-roll-Argument (List Span) (List Span) Spanned (List Span) Spanned (List Span) (List Span) (List Span) (List Span) (List Span) (List Span) (List Span) (List Span) Spanned Spanned Spanned (List Span) (List Span) Spanned (List Span) (List Span) Spanned (List Span) (List Span) (List Span) Spanned (List Span)
    argument_step array_part_step arrow_body_step element_step expression_step for_first_step for_target_step key_step link_step object_part_step parameter_step pattern_step property_step statement_step arrow_step block_step case_step catch_step class_step class_member_step condition_step function_step method_step operand_step part_step template_step template_part_step l

abbrev pub layer_array_part : Open ArrayPart-F → List Span
layer_array_part l =
    array_part_step (map-ArrayPart Argument ArrayPart ArrowBody Element Expression ForFirst ForTarget Key Link ObjectPart Parameter Pattern Property Statement Arrow Block Case Catch Class ClassMember Condition Function Method Operand Part Template TemplatePart
    (List Span) (List Span) Spanned (List Span) Spanned (List Span) (List Span) (List Span) (List Span) (List Span) (List Span) (List Span) (List Span) Spanned Spanned Spanned (List Span) (List Span) Spanned (List Span) (List Span) Spanned (List Span) (List Span) (List Span) Spanned (List Span)
    spans_argument spans_array_part spans_arrow_body spans_element spans_expression spans_for_first spans_for_target spans_key spans_link spans_object_part spans_parameter spans_pattern spans_property spans_statement spans_arrow spans_block spans_case spans_catch spans_class spans_class_member spans_condition spans_function spans_method spans_operand spans_part spans_template spans_template_part l)

pub rolled_array_part : (l : Open ArrayPart-F) → spans_array_part (roll-ArrayPart l) ≡ layer_array_part l
rolled_array_part l =
    fold-roll-ArrayPart (List Span) (List Span) Spanned (List Span) Spanned (List Span) (List Span) (List Span) (List Span) (List Span) (List Span) (List Span) (List Span) Spanned Spanned Spanned (List Span) (List Span) Spanned (List Span) (List Span) Spanned (List Span) (List Span) (List Span) Spanned (List Span)
    argument_step array_part_step arrow_body_step element_step expression_step for_first_step for_target_step key_step link_step object_part_step parameter_step pattern_step property_step statement_step arrow_step block_step case_step catch_step class_step class_member_step condition_step function_step method_step operand_step part_step template_step template_part_step l

abbrev pub layer_arrow_body : Open ArrowBody-F → Spanned
layer_arrow_body l =
    arrow_body_step (map-ArrowBody Argument ArrayPart ArrowBody Element Expression ForFirst ForTarget Key Link ObjectPart Parameter Pattern Property Statement Arrow Block Case Catch Class ClassMember Condition Function Method Operand Part Template TemplatePart
    (List Span) (List Span) Spanned (List Span) Spanned (List Span) (List Span) (List Span) (List Span) (List Span) (List Span) (List Span) (List Span) Spanned Spanned Spanned (List Span) (List Span) Spanned (List Span) (List Span) Spanned (List Span) (List Span) (List Span) Spanned (List Span)
    spans_argument spans_array_part spans_arrow_body spans_element spans_expression spans_for_first spans_for_target spans_key spans_link spans_object_part spans_parameter spans_pattern spans_property spans_statement spans_arrow spans_block spans_case spans_catch spans_class spans_class_member spans_condition spans_function spans_method spans_operand spans_part spans_template spans_template_part l)

pub rolled_arrow_body : (l : Open ArrowBody-F) → spans_arrow_body (roll-ArrowBody l) ≡ layer_arrow_body l
rolled_arrow_body l =
    fold-roll-ArrowBody (List Span) (List Span) Spanned (List Span) Spanned (List Span) (List Span) (List Span) (List Span) (List Span) (List Span) (List Span) (List Span) Spanned Spanned Spanned (List Span) (List Span) Spanned (List Span) (List Span) Spanned (List Span) (List Span) (List Span) Spanned (List Span)
    argument_step array_part_step arrow_body_step element_step expression_step for_first_step for_target_step key_step link_step object_part_step parameter_step pattern_step property_step statement_step arrow_step block_step case_step catch_step class_step class_member_step condition_step function_step method_step operand_step part_step template_step template_part_step l

abbrev pub layer_element : Open Element-F → List Span
layer_element l =
    element_step (map-Element Argument ArrayPart ArrowBody Element Expression ForFirst ForTarget Key Link ObjectPart Parameter Pattern Property Statement Arrow Block Case Catch Class ClassMember Condition Function Method Operand Part Template TemplatePart
    (List Span) (List Span) Spanned (List Span) Spanned (List Span) (List Span) (List Span) (List Span) (List Span) (List Span) (List Span) (List Span) Spanned Spanned Spanned (List Span) (List Span) Spanned (List Span) (List Span) Spanned (List Span) (List Span) (List Span) Spanned (List Span)
    spans_argument spans_array_part spans_arrow_body spans_element spans_expression spans_for_first spans_for_target spans_key spans_link spans_object_part spans_parameter spans_pattern spans_property spans_statement spans_arrow spans_block spans_case spans_catch spans_class spans_class_member spans_condition spans_function spans_method spans_operand spans_part spans_template spans_template_part l)

pub rolled_element : (l : Open Element-F) → spans_element (roll-Element l) ≡ layer_element l
rolled_element l =
    fold-roll-Element (List Span) (List Span) Spanned (List Span) Spanned (List Span) (List Span) (List Span) (List Span) (List Span) (List Span) (List Span) (List Span) Spanned Spanned Spanned (List Span) (List Span) Spanned (List Span) (List Span) Spanned (List Span) (List Span) (List Span) Spanned (List Span)
    argument_step array_part_step arrow_body_step element_step expression_step for_first_step for_target_step key_step link_step object_part_step parameter_step pattern_step property_step statement_step arrow_step block_step case_step catch_step class_step class_member_step condition_step function_step method_step operand_step part_step template_step template_part_step l

abbrev pub layer_expression : Open Expression-F → Spanned
layer_expression l =
    expression_step (map-Expression Argument ArrayPart ArrowBody Element Expression ForFirst ForTarget Key Link ObjectPart Parameter Pattern Property Statement Arrow Block Case Catch Class ClassMember Condition Function Method Operand Part Template TemplatePart
    (List Span) (List Span) Spanned (List Span) Spanned (List Span) (List Span) (List Span) (List Span) (List Span) (List Span) (List Span) (List Span) Spanned Spanned Spanned (List Span) (List Span) Spanned (List Span) (List Span) Spanned (List Span) (List Span) (List Span) Spanned (List Span)
    spans_argument spans_array_part spans_arrow_body spans_element spans_expression spans_for_first spans_for_target spans_key spans_link spans_object_part spans_parameter spans_pattern spans_property spans_statement spans_arrow spans_block spans_case spans_catch spans_class spans_class_member spans_condition spans_function spans_method spans_operand spans_part spans_template spans_template_part l)

pub rolled_expression : (l : Open Expression-F) → spans_expression (roll-Expression l) ≡ layer_expression l
rolled_expression l =
    fold-roll-Expression (List Span) (List Span) Spanned (List Span) Spanned (List Span) (List Span) (List Span) (List Span) (List Span) (List Span) (List Span) (List Span) Spanned Spanned Spanned (List Span) (List Span) Spanned (List Span) (List Span) Spanned (List Span) (List Span) (List Span) Spanned (List Span)
    argument_step array_part_step arrow_body_step element_step expression_step for_first_step for_target_step key_step link_step object_part_step parameter_step pattern_step property_step statement_step arrow_step block_step case_step catch_step class_step class_member_step condition_step function_step method_step operand_step part_step template_step template_part_step l

abbrev pub layer_for_first : Open ForFirst-F → List Span
layer_for_first l =
    for_first_step (map-ForFirst Argument ArrayPart ArrowBody Element Expression ForFirst ForTarget Key Link ObjectPart Parameter Pattern Property Statement Arrow Block Case Catch Class ClassMember Condition Function Method Operand Part Template TemplatePart
    (List Span) (List Span) Spanned (List Span) Spanned (List Span) (List Span) (List Span) (List Span) (List Span) (List Span) (List Span) (List Span) Spanned Spanned Spanned (List Span) (List Span) Spanned (List Span) (List Span) Spanned (List Span) (List Span) (List Span) Spanned (List Span)
    spans_argument spans_array_part spans_arrow_body spans_element spans_expression spans_for_first spans_for_target spans_key spans_link spans_object_part spans_parameter spans_pattern spans_property spans_statement spans_arrow spans_block spans_case spans_catch spans_class spans_class_member spans_condition spans_function spans_method spans_operand spans_part spans_template spans_template_part l)

pub rolled_for_first : (l : Open ForFirst-F) → spans_for_first (roll-ForFirst l) ≡ layer_for_first l
rolled_for_first l =
    fold-roll-ForFirst (List Span) (List Span) Spanned (List Span) Spanned (List Span) (List Span) (List Span) (List Span) (List Span) (List Span) (List Span) (List Span) Spanned Spanned Spanned (List Span) (List Span) Spanned (List Span) (List Span) Spanned (List Span) (List Span) (List Span) Spanned (List Span)
    argument_step array_part_step arrow_body_step element_step expression_step for_first_step for_target_step key_step link_step object_part_step parameter_step pattern_step property_step statement_step arrow_step block_step case_step catch_step class_step class_member_step condition_step function_step method_step operand_step part_step template_step template_part_step l

abbrev pub layer_for_target : Open ForTarget-F → List Span
layer_for_target l =
    for_target_step (map-ForTarget Argument ArrayPart ArrowBody Element Expression ForFirst ForTarget Key Link ObjectPart Parameter Pattern Property Statement Arrow Block Case Catch Class ClassMember Condition Function Method Operand Part Template TemplatePart
    (List Span) (List Span) Spanned (List Span) Spanned (List Span) (List Span) (List Span) (List Span) (List Span) (List Span) (List Span) (List Span) Spanned Spanned Spanned (List Span) (List Span) Spanned (List Span) (List Span) Spanned (List Span) (List Span) (List Span) Spanned (List Span)
    spans_argument spans_array_part spans_arrow_body spans_element spans_expression spans_for_first spans_for_target spans_key spans_link spans_object_part spans_parameter spans_pattern spans_property spans_statement spans_arrow spans_block spans_case spans_catch spans_class spans_class_member spans_condition spans_function spans_method spans_operand spans_part spans_template spans_template_part l)

pub rolled_for_target : (l : Open ForTarget-F) → spans_for_target (roll-ForTarget l) ≡ layer_for_target l
rolled_for_target l =
    fold-roll-ForTarget (List Span) (List Span) Spanned (List Span) Spanned (List Span) (List Span) (List Span) (List Span) (List Span) (List Span) (List Span) (List Span) Spanned Spanned Spanned (List Span) (List Span) Spanned (List Span) (List Span) Spanned (List Span) (List Span) (List Span) Spanned (List Span)
    argument_step array_part_step arrow_body_step element_step expression_step for_first_step for_target_step key_step link_step object_part_step parameter_step pattern_step property_step statement_step arrow_step block_step case_step catch_step class_step class_member_step condition_step function_step method_step operand_step part_step template_step template_part_step l

abbrev pub layer_key : Open Key-F → List Span
layer_key l =
    key_step (map-Key Argument ArrayPart ArrowBody Element Expression ForFirst ForTarget Key Link ObjectPart Parameter Pattern Property Statement Arrow Block Case Catch Class ClassMember Condition Function Method Operand Part Template TemplatePart
    (List Span) (List Span) Spanned (List Span) Spanned (List Span) (List Span) (List Span) (List Span) (List Span) (List Span) (List Span) (List Span) Spanned Spanned Spanned (List Span) (List Span) Spanned (List Span) (List Span) Spanned (List Span) (List Span) (List Span) Spanned (List Span)
    spans_argument spans_array_part spans_arrow_body spans_element spans_expression spans_for_first spans_for_target spans_key spans_link spans_object_part spans_parameter spans_pattern spans_property spans_statement spans_arrow spans_block spans_case spans_catch spans_class spans_class_member spans_condition spans_function spans_method spans_operand spans_part spans_template spans_template_part l)

pub rolled_key : (l : Open Key-F) → spans_key (roll-Key l) ≡ layer_key l
rolled_key l =
    fold-roll-Key (List Span) (List Span) Spanned (List Span) Spanned (List Span) (List Span) (List Span) (List Span) (List Span) (List Span) (List Span) (List Span) Spanned Spanned Spanned (List Span) (List Span) Spanned (List Span) (List Span) Spanned (List Span) (List Span) (List Span) Spanned (List Span)
    argument_step array_part_step arrow_body_step element_step expression_step for_first_step for_target_step key_step link_step object_part_step parameter_step pattern_step property_step statement_step arrow_step block_step case_step catch_step class_step class_member_step condition_step function_step method_step operand_step part_step template_step template_part_step l

abbrev pub layer_link : Open Link-F → List Span
layer_link l =
    link_step (map-Link Argument ArrayPart ArrowBody Element Expression ForFirst ForTarget Key Link ObjectPart Parameter Pattern Property Statement Arrow Block Case Catch Class ClassMember Condition Function Method Operand Part Template TemplatePart
    (List Span) (List Span) Spanned (List Span) Spanned (List Span) (List Span) (List Span) (List Span) (List Span) (List Span) (List Span) (List Span) Spanned Spanned Spanned (List Span) (List Span) Spanned (List Span) (List Span) Spanned (List Span) (List Span) (List Span) Spanned (List Span)
    spans_argument spans_array_part spans_arrow_body spans_element spans_expression spans_for_first spans_for_target spans_key spans_link spans_object_part spans_parameter spans_pattern spans_property spans_statement spans_arrow spans_block spans_case spans_catch spans_class spans_class_member spans_condition spans_function spans_method spans_operand spans_part spans_template spans_template_part l)

pub rolled_link : (l : Open Link-F) → spans_link (roll-Link l) ≡ layer_link l
rolled_link l =
    fold-roll-Link (List Span) (List Span) Spanned (List Span) Spanned (List Span) (List Span) (List Span) (List Span) (List Span) (List Span) (List Span) (List Span) Spanned Spanned Spanned (List Span) (List Span) Spanned (List Span) (List Span) Spanned (List Span) (List Span) (List Span) Spanned (List Span)
    argument_step array_part_step arrow_body_step element_step expression_step for_first_step for_target_step key_step link_step object_part_step parameter_step pattern_step property_step statement_step arrow_step block_step case_step catch_step class_step class_member_step condition_step function_step method_step operand_step part_step template_step template_part_step l

abbrev pub layer_object_part : Open ObjectPart-F → List Span
layer_object_part l =
    object_part_step (map-ObjectPart Argument ArrayPart ArrowBody Element Expression ForFirst ForTarget Key Link ObjectPart Parameter Pattern Property Statement Arrow Block Case Catch Class ClassMember Condition Function Method Operand Part Template TemplatePart
    (List Span) (List Span) Spanned (List Span) Spanned (List Span) (List Span) (List Span) (List Span) (List Span) (List Span) (List Span) (List Span) Spanned Spanned Spanned (List Span) (List Span) Spanned (List Span) (List Span) Spanned (List Span) (List Span) (List Span) Spanned (List Span)
    spans_argument spans_array_part spans_arrow_body spans_element spans_expression spans_for_first spans_for_target spans_key spans_link spans_object_part spans_parameter spans_pattern spans_property spans_statement spans_arrow spans_block spans_case spans_catch spans_class spans_class_member spans_condition spans_function spans_method spans_operand spans_part spans_template spans_template_part l)

pub rolled_object_part : (l : Open ObjectPart-F) → spans_object_part (roll-ObjectPart l) ≡ layer_object_part l
rolled_object_part l =
    fold-roll-ObjectPart (List Span) (List Span) Spanned (List Span) Spanned (List Span) (List Span) (List Span) (List Span) (List Span) (List Span) (List Span) (List Span) Spanned Spanned Spanned (List Span) (List Span) Spanned (List Span) (List Span) Spanned (List Span) (List Span) (List Span) Spanned (List Span)
    argument_step array_part_step arrow_body_step element_step expression_step for_first_step for_target_step key_step link_step object_part_step parameter_step pattern_step property_step statement_step arrow_step block_step case_step catch_step class_step class_member_step condition_step function_step method_step operand_step part_step template_step template_part_step l

abbrev pub layer_parameter : Open Parameter-F → List Span
layer_parameter l =
    parameter_step (map-Parameter Argument ArrayPart ArrowBody Element Expression ForFirst ForTarget Key Link ObjectPart Parameter Pattern Property Statement Arrow Block Case Catch Class ClassMember Condition Function Method Operand Part Template TemplatePart
    (List Span) (List Span) Spanned (List Span) Spanned (List Span) (List Span) (List Span) (List Span) (List Span) (List Span) (List Span) (List Span) Spanned Spanned Spanned (List Span) (List Span) Spanned (List Span) (List Span) Spanned (List Span) (List Span) (List Span) Spanned (List Span)
    spans_argument spans_array_part spans_arrow_body spans_element spans_expression spans_for_first spans_for_target spans_key spans_link spans_object_part spans_parameter spans_pattern spans_property spans_statement spans_arrow spans_block spans_case spans_catch spans_class spans_class_member spans_condition spans_function spans_method spans_operand spans_part spans_template spans_template_part l)

pub rolled_parameter : (l : Open Parameter-F) → spans_parameter (roll-Parameter l) ≡ layer_parameter l
rolled_parameter l =
    fold-roll-Parameter (List Span) (List Span) Spanned (List Span) Spanned (List Span) (List Span) (List Span) (List Span) (List Span) (List Span) (List Span) (List Span) Spanned Spanned Spanned (List Span) (List Span) Spanned (List Span) (List Span) Spanned (List Span) (List Span) (List Span) Spanned (List Span)
    argument_step array_part_step arrow_body_step element_step expression_step for_first_step for_target_step key_step link_step object_part_step parameter_step pattern_step property_step statement_step arrow_step block_step case_step catch_step class_step class_member_step condition_step function_step method_step operand_step part_step template_step template_part_step l

abbrev pub layer_pattern : Open Pattern-F → List Span
layer_pattern l =
    pattern_step (map-Pattern Argument ArrayPart ArrowBody Element Expression ForFirst ForTarget Key Link ObjectPart Parameter Pattern Property Statement Arrow Block Case Catch Class ClassMember Condition Function Method Operand Part Template TemplatePart
    (List Span) (List Span) Spanned (List Span) Spanned (List Span) (List Span) (List Span) (List Span) (List Span) (List Span) (List Span) (List Span) Spanned Spanned Spanned (List Span) (List Span) Spanned (List Span) (List Span) Spanned (List Span) (List Span) (List Span) Spanned (List Span)
    spans_argument spans_array_part spans_arrow_body spans_element spans_expression spans_for_first spans_for_target spans_key spans_link spans_object_part spans_parameter spans_pattern spans_property spans_statement spans_arrow spans_block spans_case spans_catch spans_class spans_class_member spans_condition spans_function spans_method spans_operand spans_part spans_template spans_template_part l)

pub rolled_pattern : (l : Open Pattern-F) → spans_pattern (roll-Pattern l) ≡ layer_pattern l
rolled_pattern l =
    fold-roll-Pattern (List Span) (List Span) Spanned (List Span) Spanned (List Span) (List Span) (List Span) (List Span) (List Span) (List Span) (List Span) (List Span) Spanned Spanned Spanned (List Span) (List Span) Spanned (List Span) (List Span) Spanned (List Span) (List Span) (List Span) Spanned (List Span)
    argument_step array_part_step arrow_body_step element_step expression_step for_first_step for_target_step key_step link_step object_part_step parameter_step pattern_step property_step statement_step arrow_step block_step case_step catch_step class_step class_member_step condition_step function_step method_step operand_step part_step template_step template_part_step l

abbrev pub layer_property : Open Property-F → List Span
layer_property l =
    property_step (map-Property Argument ArrayPart ArrowBody Element Expression ForFirst ForTarget Key Link ObjectPart Parameter Pattern Property Statement Arrow Block Case Catch Class ClassMember Condition Function Method Operand Part Template TemplatePart
    (List Span) (List Span) Spanned (List Span) Spanned (List Span) (List Span) (List Span) (List Span) (List Span) (List Span) (List Span) (List Span) Spanned Spanned Spanned (List Span) (List Span) Spanned (List Span) (List Span) Spanned (List Span) (List Span) (List Span) Spanned (List Span)
    spans_argument spans_array_part spans_arrow_body spans_element spans_expression spans_for_first spans_for_target spans_key spans_link spans_object_part spans_parameter spans_pattern spans_property spans_statement spans_arrow spans_block spans_case spans_catch spans_class spans_class_member spans_condition spans_function spans_method spans_operand spans_part spans_template spans_template_part l)

pub rolled_property : (l : Open Property-F) → spans_property (roll-Property l) ≡ layer_property l
rolled_property l =
    fold-roll-Property (List Span) (List Span) Spanned (List Span) Spanned (List Span) (List Span) (List Span) (List Span) (List Span) (List Span) (List Span) (List Span) Spanned Spanned Spanned (List Span) (List Span) Spanned (List Span) (List Span) Spanned (List Span) (List Span) (List Span) Spanned (List Span)
    argument_step array_part_step arrow_body_step element_step expression_step for_first_step for_target_step key_step link_step object_part_step parameter_step pattern_step property_step statement_step arrow_step block_step case_step catch_step class_step class_member_step condition_step function_step method_step operand_step part_step template_step template_part_step l

abbrev pub layer_statement : Open Statement-F → Spanned
layer_statement l =
    statement_step (map-Statement Argument ArrayPart ArrowBody Element Expression ForFirst ForTarget Key Link ObjectPart Parameter Pattern Property Statement Arrow Block Case Catch Class ClassMember Condition Function Method Operand Part Template TemplatePart
    (List Span) (List Span) Spanned (List Span) Spanned (List Span) (List Span) (List Span) (List Span) (List Span) (List Span) (List Span) (List Span) Spanned Spanned Spanned (List Span) (List Span) Spanned (List Span) (List Span) Spanned (List Span) (List Span) (List Span) Spanned (List Span)
    spans_argument spans_array_part spans_arrow_body spans_element spans_expression spans_for_first spans_for_target spans_key spans_link spans_object_part spans_parameter spans_pattern spans_property spans_statement spans_arrow spans_block spans_case spans_catch spans_class spans_class_member spans_condition spans_function spans_method spans_operand spans_part spans_template spans_template_part l)

pub rolled_statement : (l : Open Statement-F) → spans_statement (roll-Statement l) ≡ layer_statement l
rolled_statement l =
    fold-roll-Statement (List Span) (List Span) Spanned (List Span) Spanned (List Span) (List Span) (List Span) (List Span) (List Span) (List Span) (List Span) (List Span) Spanned Spanned Spanned (List Span) (List Span) Spanned (List Span) (List Span) Spanned (List Span) (List Span) (List Span) Spanned (List Span)
    argument_step array_part_step arrow_body_step element_step expression_step for_first_step for_target_step key_step link_step object_part_step parameter_step pattern_step property_step statement_step arrow_step block_step case_step catch_step class_step class_member_step condition_step function_step method_step operand_step part_step template_step template_part_step l

abbrev pub layer_arrow : Open Arrow-F → Spanned
layer_arrow l =
    arrow_step (map-Arrow Argument ArrayPart ArrowBody Element Expression ForFirst ForTarget Key Link ObjectPart Parameter Pattern Property Statement Arrow Block Case Catch Class ClassMember Condition Function Method Operand Part Template TemplatePart
    (List Span) (List Span) Spanned (List Span) Spanned (List Span) (List Span) (List Span) (List Span) (List Span) (List Span) (List Span) (List Span) Spanned Spanned Spanned (List Span) (List Span) Spanned (List Span) (List Span) Spanned (List Span) (List Span) (List Span) Spanned (List Span)
    spans_argument spans_array_part spans_arrow_body spans_element spans_expression spans_for_first spans_for_target spans_key spans_link spans_object_part spans_parameter spans_pattern spans_property spans_statement spans_arrow spans_block spans_case spans_catch spans_class spans_class_member spans_condition spans_function spans_method spans_operand spans_part spans_template spans_template_part l)

pub rolled_arrow : (l : Open Arrow-F) → spans_arrow (roll-Arrow l) ≡ layer_arrow l
rolled_arrow l =
    fold-roll-Arrow (List Span) (List Span) Spanned (List Span) Spanned (List Span) (List Span) (List Span) (List Span) (List Span) (List Span) (List Span) (List Span) Spanned Spanned Spanned (List Span) (List Span) Spanned (List Span) (List Span) Spanned (List Span) (List Span) (List Span) Spanned (List Span)
    argument_step array_part_step arrow_body_step element_step expression_step for_first_step for_target_step key_step link_step object_part_step parameter_step pattern_step property_step statement_step arrow_step block_step case_step catch_step class_step class_member_step condition_step function_step method_step operand_step part_step template_step template_part_step l

abbrev pub layer_block : Open Block-F → Spanned
layer_block l =
    block_step (map-Block Argument ArrayPart ArrowBody Element Expression ForFirst ForTarget Key Link ObjectPart Parameter Pattern Property Statement Arrow Block Case Catch Class ClassMember Condition Function Method Operand Part Template TemplatePart
    (List Span) (List Span) Spanned (List Span) Spanned (List Span) (List Span) (List Span) (List Span) (List Span) (List Span) (List Span) (List Span) Spanned Spanned Spanned (List Span) (List Span) Spanned (List Span) (List Span) Spanned (List Span) (List Span) (List Span) Spanned (List Span)
    spans_argument spans_array_part spans_arrow_body spans_element spans_expression spans_for_first spans_for_target spans_key spans_link spans_object_part spans_parameter spans_pattern spans_property spans_statement spans_arrow spans_block spans_case spans_catch spans_class spans_class_member spans_condition spans_function spans_method spans_operand spans_part spans_template spans_template_part l)

pub rolled_block : (l : Open Block-F) → spans_block (roll-Block l) ≡ layer_block l
rolled_block l =
    fold-roll-Block (List Span) (List Span) Spanned (List Span) Spanned (List Span) (List Span) (List Span) (List Span) (List Span) (List Span) (List Span) (List Span) Spanned Spanned Spanned (List Span) (List Span) Spanned (List Span) (List Span) Spanned (List Span) (List Span) (List Span) Spanned (List Span)
    argument_step array_part_step arrow_body_step element_step expression_step for_first_step for_target_step key_step link_step object_part_step parameter_step pattern_step property_step statement_step arrow_step block_step case_step catch_step class_step class_member_step condition_step function_step method_step operand_step part_step template_step template_part_step l

abbrev pub layer_case : Open Case-F → List Span
layer_case l =
    case_step (map-Case Argument ArrayPart ArrowBody Element Expression ForFirst ForTarget Key Link ObjectPart Parameter Pattern Property Statement Arrow Block Case Catch Class ClassMember Condition Function Method Operand Part Template TemplatePart
    (List Span) (List Span) Spanned (List Span) Spanned (List Span) (List Span) (List Span) (List Span) (List Span) (List Span) (List Span) (List Span) Spanned Spanned Spanned (List Span) (List Span) Spanned (List Span) (List Span) Spanned (List Span) (List Span) (List Span) Spanned (List Span)
    spans_argument spans_array_part spans_arrow_body spans_element spans_expression spans_for_first spans_for_target spans_key spans_link spans_object_part spans_parameter spans_pattern spans_property spans_statement spans_arrow spans_block spans_case spans_catch spans_class spans_class_member spans_condition spans_function spans_method spans_operand spans_part spans_template spans_template_part l)

pub rolled_case : (l : Open Case-F) → spans_case (roll-Case l) ≡ layer_case l
rolled_case l =
    fold-roll-Case (List Span) (List Span) Spanned (List Span) Spanned (List Span) (List Span) (List Span) (List Span) (List Span) (List Span) (List Span) (List Span) Spanned Spanned Spanned (List Span) (List Span) Spanned (List Span) (List Span) Spanned (List Span) (List Span) (List Span) Spanned (List Span)
    argument_step array_part_step arrow_body_step element_step expression_step for_first_step for_target_step key_step link_step object_part_step parameter_step pattern_step property_step statement_step arrow_step block_step case_step catch_step class_step class_member_step condition_step function_step method_step operand_step part_step template_step template_part_step l

abbrev pub layer_catch : Open Catch-F → List Span
layer_catch l =
    catch_step (map-Catch Argument ArrayPart ArrowBody Element Expression ForFirst ForTarget Key Link ObjectPart Parameter Pattern Property Statement Arrow Block Case Catch Class ClassMember Condition Function Method Operand Part Template TemplatePart
    (List Span) (List Span) Spanned (List Span) Spanned (List Span) (List Span) (List Span) (List Span) (List Span) (List Span) (List Span) (List Span) Spanned Spanned Spanned (List Span) (List Span) Spanned (List Span) (List Span) Spanned (List Span) (List Span) (List Span) Spanned (List Span)
    spans_argument spans_array_part spans_arrow_body spans_element spans_expression spans_for_first spans_for_target spans_key spans_link spans_object_part spans_parameter spans_pattern spans_property spans_statement spans_arrow spans_block spans_case spans_catch spans_class spans_class_member spans_condition spans_function spans_method spans_operand spans_part spans_template spans_template_part l)

pub rolled_catch : (l : Open Catch-F) → spans_catch (roll-Catch l) ≡ layer_catch l
rolled_catch l =
    fold-roll-Catch (List Span) (List Span) Spanned (List Span) Spanned (List Span) (List Span) (List Span) (List Span) (List Span) (List Span) (List Span) (List Span) Spanned Spanned Spanned (List Span) (List Span) Spanned (List Span) (List Span) Spanned (List Span) (List Span) (List Span) Spanned (List Span)
    argument_step array_part_step arrow_body_step element_step expression_step for_first_step for_target_step key_step link_step object_part_step parameter_step pattern_step property_step statement_step arrow_step block_step case_step catch_step class_step class_member_step condition_step function_step method_step operand_step part_step template_step template_part_step l

abbrev pub layer_class : Open Class-F → Spanned
layer_class l =
    class_step (map-Class Argument ArrayPart ArrowBody Element Expression ForFirst ForTarget Key Link ObjectPart Parameter Pattern Property Statement Arrow Block Case Catch Class ClassMember Condition Function Method Operand Part Template TemplatePart
    (List Span) (List Span) Spanned (List Span) Spanned (List Span) (List Span) (List Span) (List Span) (List Span) (List Span) (List Span) (List Span) Spanned Spanned Spanned (List Span) (List Span) Spanned (List Span) (List Span) Spanned (List Span) (List Span) (List Span) Spanned (List Span)
    spans_argument spans_array_part spans_arrow_body spans_element spans_expression spans_for_first spans_for_target spans_key spans_link spans_object_part spans_parameter spans_pattern spans_property spans_statement spans_arrow spans_block spans_case spans_catch spans_class spans_class_member spans_condition spans_function spans_method spans_operand spans_part spans_template spans_template_part l)

pub rolled_class : (l : Open Class-F) → spans_class (roll-Class l) ≡ layer_class l
rolled_class l =
    fold-roll-Class (List Span) (List Span) Spanned (List Span) Spanned (List Span) (List Span) (List Span) (List Span) (List Span) (List Span) (List Span) (List Span) Spanned Spanned Spanned (List Span) (List Span) Spanned (List Span) (List Span) Spanned (List Span) (List Span) (List Span) Spanned (List Span)
    argument_step array_part_step arrow_body_step element_step expression_step for_first_step for_target_step key_step link_step object_part_step parameter_step pattern_step property_step statement_step arrow_step block_step case_step catch_step class_step class_member_step condition_step function_step method_step operand_step part_step template_step template_part_step l

abbrev pub layer_class_member : Open ClassMember-F → List Span
layer_class_member l =
    class_member_step (map-ClassMember Argument ArrayPart ArrowBody Element Expression ForFirst ForTarget Key Link ObjectPart Parameter Pattern Property Statement Arrow Block Case Catch Class ClassMember Condition Function Method Operand Part Template TemplatePart
    (List Span) (List Span) Spanned (List Span) Spanned (List Span) (List Span) (List Span) (List Span) (List Span) (List Span) (List Span) (List Span) Spanned Spanned Spanned (List Span) (List Span) Spanned (List Span) (List Span) Spanned (List Span) (List Span) (List Span) Spanned (List Span)
    spans_argument spans_array_part spans_arrow_body spans_element spans_expression spans_for_first spans_for_target spans_key spans_link spans_object_part spans_parameter spans_pattern spans_property spans_statement spans_arrow spans_block spans_case spans_catch spans_class spans_class_member spans_condition spans_function spans_method spans_operand spans_part spans_template spans_template_part l)

pub rolled_class_member : (l : Open ClassMember-F) → spans_class_member (roll-ClassMember l) ≡ layer_class_member l
rolled_class_member l =
    fold-roll-ClassMember (List Span) (List Span) Spanned (List Span) Spanned (List Span) (List Span) (List Span) (List Span) (List Span) (List Span) (List Span) (List Span) Spanned Spanned Spanned (List Span) (List Span) Spanned (List Span) (List Span) Spanned (List Span) (List Span) (List Span) Spanned (List Span)
    argument_step array_part_step arrow_body_step element_step expression_step for_first_step for_target_step key_step link_step object_part_step parameter_step pattern_step property_step statement_step arrow_step block_step case_step catch_step class_step class_member_step condition_step function_step method_step operand_step part_step template_step template_part_step l

abbrev pub layer_condition : Open Condition-F → List Span
layer_condition l =
    condition_step (map-Condition Argument ArrayPart ArrowBody Element Expression ForFirst ForTarget Key Link ObjectPart Parameter Pattern Property Statement Arrow Block Case Catch Class ClassMember Condition Function Method Operand Part Template TemplatePart
    (List Span) (List Span) Spanned (List Span) Spanned (List Span) (List Span) (List Span) (List Span) (List Span) (List Span) (List Span) (List Span) Spanned Spanned Spanned (List Span) (List Span) Spanned (List Span) (List Span) Spanned (List Span) (List Span) (List Span) Spanned (List Span)
    spans_argument spans_array_part spans_arrow_body spans_element spans_expression spans_for_first spans_for_target spans_key spans_link spans_object_part spans_parameter spans_pattern spans_property spans_statement spans_arrow spans_block spans_case spans_catch spans_class spans_class_member spans_condition spans_function spans_method spans_operand spans_part spans_template spans_template_part l)

pub rolled_condition : (l : Open Condition-F) → spans_condition (roll-Condition l) ≡ layer_condition l
rolled_condition l =
    fold-roll-Condition (List Span) (List Span) Spanned (List Span) Spanned (List Span) (List Span) (List Span) (List Span) (List Span) (List Span) (List Span) (List Span) Spanned Spanned Spanned (List Span) (List Span) Spanned (List Span) (List Span) Spanned (List Span) (List Span) (List Span) Spanned (List Span)
    argument_step array_part_step arrow_body_step element_step expression_step for_first_step for_target_step key_step link_step object_part_step parameter_step pattern_step property_step statement_step arrow_step block_step case_step catch_step class_step class_member_step condition_step function_step method_step operand_step part_step template_step template_part_step l

abbrev pub layer_function : Open Function-F → Spanned
layer_function l =
    function_step (map-Function Argument ArrayPart ArrowBody Element Expression ForFirst ForTarget Key Link ObjectPart Parameter Pattern Property Statement Arrow Block Case Catch Class ClassMember Condition Function Method Operand Part Template TemplatePart
    (List Span) (List Span) Spanned (List Span) Spanned (List Span) (List Span) (List Span) (List Span) (List Span) (List Span) (List Span) (List Span) Spanned Spanned Spanned (List Span) (List Span) Spanned (List Span) (List Span) Spanned (List Span) (List Span) (List Span) Spanned (List Span)
    spans_argument spans_array_part spans_arrow_body spans_element spans_expression spans_for_first spans_for_target spans_key spans_link spans_object_part spans_parameter spans_pattern spans_property spans_statement spans_arrow spans_block spans_case spans_catch spans_class spans_class_member spans_condition spans_function spans_method spans_operand spans_part spans_template spans_template_part l)

pub rolled_function : (l : Open Function-F) → spans_function (roll-Function l) ≡ layer_function l
rolled_function l =
    fold-roll-Function (List Span) (List Span) Spanned (List Span) Spanned (List Span) (List Span) (List Span) (List Span) (List Span) (List Span) (List Span) (List Span) Spanned Spanned Spanned (List Span) (List Span) Spanned (List Span) (List Span) Spanned (List Span) (List Span) (List Span) Spanned (List Span)
    argument_step array_part_step arrow_body_step element_step expression_step for_first_step for_target_step key_step link_step object_part_step parameter_step pattern_step property_step statement_step arrow_step block_step case_step catch_step class_step class_member_step condition_step function_step method_step operand_step part_step template_step template_part_step l

abbrev pub layer_method : Open Method-F → List Span
layer_method l =
    method_step (map-Method Argument ArrayPart ArrowBody Element Expression ForFirst ForTarget Key Link ObjectPart Parameter Pattern Property Statement Arrow Block Case Catch Class ClassMember Condition Function Method Operand Part Template TemplatePart
    (List Span) (List Span) Spanned (List Span) Spanned (List Span) (List Span) (List Span) (List Span) (List Span) (List Span) (List Span) (List Span) Spanned Spanned Spanned (List Span) (List Span) Spanned (List Span) (List Span) Spanned (List Span) (List Span) (List Span) Spanned (List Span)
    spans_argument spans_array_part spans_arrow_body spans_element spans_expression spans_for_first spans_for_target spans_key spans_link spans_object_part spans_parameter spans_pattern spans_property spans_statement spans_arrow spans_block spans_case spans_catch spans_class spans_class_member spans_condition spans_function spans_method spans_operand spans_part spans_template spans_template_part l)

pub rolled_method : (l : Open Method-F) → spans_method (roll-Method l) ≡ layer_method l
rolled_method l =
    fold-roll-Method (List Span) (List Span) Spanned (List Span) Spanned (List Span) (List Span) (List Span) (List Span) (List Span) (List Span) (List Span) (List Span) Spanned Spanned Spanned (List Span) (List Span) Spanned (List Span) (List Span) Spanned (List Span) (List Span) (List Span) Spanned (List Span)
    argument_step array_part_step arrow_body_step element_step expression_step for_first_step for_target_step key_step link_step object_part_step parameter_step pattern_step property_step statement_step arrow_step block_step case_step catch_step class_step class_member_step condition_step function_step method_step operand_step part_step template_step template_part_step l

abbrev pub layer_operand : Open Operand-F → List Span
layer_operand l =
    operand_step (map-Operand Argument ArrayPart ArrowBody Element Expression ForFirst ForTarget Key Link ObjectPart Parameter Pattern Property Statement Arrow Block Case Catch Class ClassMember Condition Function Method Operand Part Template TemplatePart
    (List Span) (List Span) Spanned (List Span) Spanned (List Span) (List Span) (List Span) (List Span) (List Span) (List Span) (List Span) (List Span) Spanned Spanned Spanned (List Span) (List Span) Spanned (List Span) (List Span) Spanned (List Span) (List Span) (List Span) Spanned (List Span)
    spans_argument spans_array_part spans_arrow_body spans_element spans_expression spans_for_first spans_for_target spans_key spans_link spans_object_part spans_parameter spans_pattern spans_property spans_statement spans_arrow spans_block spans_case spans_catch spans_class spans_class_member spans_condition spans_function spans_method spans_operand spans_part spans_template spans_template_part l)

pub rolled_operand : (l : Open Operand-F) → spans_operand (roll-Operand l) ≡ layer_operand l
rolled_operand l =
    fold-roll-Operand (List Span) (List Span) Spanned (List Span) Spanned (List Span) (List Span) (List Span) (List Span) (List Span) (List Span) (List Span) (List Span) Spanned Spanned Spanned (List Span) (List Span) Spanned (List Span) (List Span) Spanned (List Span) (List Span) (List Span) Spanned (List Span)
    argument_step array_part_step arrow_body_step element_step expression_step for_first_step for_target_step key_step link_step object_part_step parameter_step pattern_step property_step statement_step arrow_step block_step case_step catch_step class_step class_member_step condition_step function_step method_step operand_step part_step template_step template_part_step l

abbrev pub layer_part : Open Part-F → List Span
layer_part l =
    part_step (map-Part Argument ArrayPart ArrowBody Element Expression ForFirst ForTarget Key Link ObjectPart Parameter Pattern Property Statement Arrow Block Case Catch Class ClassMember Condition Function Method Operand Part Template TemplatePart
    (List Span) (List Span) Spanned (List Span) Spanned (List Span) (List Span) (List Span) (List Span) (List Span) (List Span) (List Span) (List Span) Spanned Spanned Spanned (List Span) (List Span) Spanned (List Span) (List Span) Spanned (List Span) (List Span) (List Span) Spanned (List Span)
    spans_argument spans_array_part spans_arrow_body spans_element spans_expression spans_for_first spans_for_target spans_key spans_link spans_object_part spans_parameter spans_pattern spans_property spans_statement spans_arrow spans_block spans_case spans_catch spans_class spans_class_member spans_condition spans_function spans_method spans_operand spans_part spans_template spans_template_part l)

pub rolled_part : (l : Open Part-F) → spans_part (roll-Part l) ≡ layer_part l
rolled_part l =
    fold-roll-Part (List Span) (List Span) Spanned (List Span) Spanned (List Span) (List Span) (List Span) (List Span) (List Span) (List Span) (List Span) (List Span) Spanned Spanned Spanned (List Span) (List Span) Spanned (List Span) (List Span) Spanned (List Span) (List Span) (List Span) Spanned (List Span)
    argument_step array_part_step arrow_body_step element_step expression_step for_first_step for_target_step key_step link_step object_part_step parameter_step pattern_step property_step statement_step arrow_step block_step case_step catch_step class_step class_member_step condition_step function_step method_step operand_step part_step template_step template_part_step l

abbrev pub layer_template : Open Template-F → Spanned
layer_template l =
    template_step (map-Template Argument ArrayPart ArrowBody Element Expression ForFirst ForTarget Key Link ObjectPart Parameter Pattern Property Statement Arrow Block Case Catch Class ClassMember Condition Function Method Operand Part Template TemplatePart
    (List Span) (List Span) Spanned (List Span) Spanned (List Span) (List Span) (List Span) (List Span) (List Span) (List Span) (List Span) (List Span) Spanned Spanned Spanned (List Span) (List Span) Spanned (List Span) (List Span) Spanned (List Span) (List Span) (List Span) Spanned (List Span)
    spans_argument spans_array_part spans_arrow_body spans_element spans_expression spans_for_first spans_for_target spans_key spans_link spans_object_part spans_parameter spans_pattern spans_property spans_statement spans_arrow spans_block spans_case spans_catch spans_class spans_class_member spans_condition spans_function spans_method spans_operand spans_part spans_template spans_template_part l)

pub rolled_template : (l : Open Template-F) → spans_template (roll-Template l) ≡ layer_template l
rolled_template l =
    fold-roll-Template (List Span) (List Span) Spanned (List Span) Spanned (List Span) (List Span) (List Span) (List Span) (List Span) (List Span) (List Span) (List Span) Spanned Spanned Spanned (List Span) (List Span) Spanned (List Span) (List Span) Spanned (List Span) (List Span) (List Span) Spanned (List Span)
    argument_step array_part_step arrow_body_step element_step expression_step for_first_step for_target_step key_step link_step object_part_step parameter_step pattern_step property_step statement_step arrow_step block_step case_step catch_step class_step class_member_step condition_step function_step method_step operand_step part_step template_step template_part_step l

abbrev pub layer_template_part : Open TemplatePart-F → List Span
layer_template_part l =
    template_part_step (map-TemplatePart Argument ArrayPart ArrowBody Element Expression ForFirst ForTarget Key Link ObjectPart Parameter Pattern Property Statement Arrow Block Case Catch Class ClassMember Condition Function Method Operand Part Template TemplatePart
    (List Span) (List Span) Spanned (List Span) Spanned (List Span) (List Span) (List Span) (List Span) (List Span) (List Span) (List Span) (List Span) Spanned Spanned Spanned (List Span) (List Span) Spanned (List Span) (List Span) Spanned (List Span) (List Span) (List Span) Spanned (List Span)
    spans_argument spans_array_part spans_arrow_body spans_element spans_expression spans_for_first spans_for_target spans_key spans_link spans_object_part spans_parameter spans_pattern spans_property spans_statement spans_arrow spans_block spans_case spans_catch spans_class spans_class_member spans_condition spans_function spans_method spans_operand spans_part spans_template spans_template_part l)

pub rolled_template_part : (l : Open TemplatePart-F) → spans_template_part (roll-TemplatePart l) ≡ layer_template_part l
rolled_template_part l =
    fold-roll-TemplatePart (List Span) (List Span) Spanned (List Span) Spanned (List Span) (List Span) (List Span) (List Span) (List Span) (List Span) (List Span) (List Span) Spanned Spanned Spanned (List Span) (List Span) Spanned (List Span) (List Span) Spanned (List Span) (List Span) (List Span) Spanned (List Span)
    argument_step array_part_step arrow_body_step element_step expression_step for_first_step for_target_step key_step link_step object_part_step parameter_step pattern_step property_step statement_step arrow_step block_step case_step catch_step class_step class_member_step condition_step function_step method_step operand_step part_step template_step template_part_step l
