-- What the fold gives of a node is its step of what the fold gives of the node's parts.
use Rattle.std.proofs.Common.{◌≡◌}
use Rattle.es6_ast.specs.declared.tree.Argument.{Argument, fold-roll-Argument, map-Argument, roll-Argument}
use Rattle.es6_ast.specs.declared.tree.ArrayPart.{ArrayPart, fold-roll-ArrayPart, map-ArrayPart, roll-ArrayPart}
use Rattle.es6_ast.specs.declared.tree.ArrowBody.{ArrowBody, fold-roll-ArrowBody, map-ArrowBody, roll-ArrowBody}
use Rattle.es6_ast.specs.declared.tree.Element.{Element, fold-roll-Element, map-Element, roll-Element}
use Rattle.es6_ast.specs.declared.tree.Expression.{Expression, fold-roll-Expression, map-Expression, roll-Expression}
use Rattle.es6_ast.specs.declared.tree.ForFirst.{ForFirst, fold-roll-ForFirst, map-ForFirst, roll-ForFirst}
use Rattle.es6_ast.specs.declared.tree.ForTarget.{ForTarget, fold-roll-ForTarget, map-ForTarget, roll-ForTarget}
use Rattle.es6_ast.specs.declared.tree.Key.{Key, fold-roll-Key, map-Key, roll-Key}
use Rattle.es6_ast.specs.declared.tree.Link.{Link, fold-roll-Link, map-Link, roll-Link}
use Rattle.es6_ast.specs.declared.tree.ObjectPart.{ObjectPart, fold-roll-ObjectPart, map-ObjectPart, roll-ObjectPart}
use Rattle.es6_ast.specs.declared.tree.Parameter.{Parameter, fold-roll-Parameter, map-Parameter, roll-Parameter}
use Rattle.es6_ast.specs.declared.tree.Pattern.{Pattern, fold-roll-Pattern, map-Pattern, roll-Pattern}
use Rattle.es6_ast.specs.declared.tree.Property.{Property, fold-roll-Property, map-Property, roll-Property}
use Rattle.es6_ast.specs.declared.tree.Statement.{Statement, fold-roll-Statement, map-Statement, roll-Statement}
use Rattle.es6_ast.specs.declared.tree.Arrow.{Arrow, fold-roll-Arrow, map-Arrow, roll-Arrow}
use Rattle.es6_ast.specs.declared.tree.Block.{Block, fold-roll-Block, map-Block, roll-Block}
use Rattle.es6_ast.specs.declared.tree.Case.{Case, fold-roll-Case, map-Case, roll-Case}
use Rattle.es6_ast.specs.declared.tree.Catch.{Catch, fold-roll-Catch, map-Catch, roll-Catch}
use Rattle.es6_ast.specs.declared.tree.Class.{Class, fold-roll-Class, map-Class, roll-Class}
use Rattle.es6_ast.specs.declared.tree.ClassMember.{ClassMember, fold-roll-ClassMember, map-ClassMember, roll-ClassMember}
use Rattle.es6_ast.specs.declared.tree.Condition.{Condition, fold-roll-Condition, map-Condition, roll-Condition}
use Rattle.es6_ast.specs.declared.tree.Function.{Function, fold-roll-Function, map-Function, roll-Function}
use Rattle.es6_ast.specs.declared.tree.Method.{Method, fold-roll-Method, map-Method, roll-Method}
use Rattle.es6_ast.specs.declared.tree.Operand.{Operand, fold-roll-Operand, map-Operand, roll-Operand}
use Rattle.es6_ast.specs.declared.tree.Part.{Part, fold-roll-Part, map-Part, roll-Part}
use Rattle.es6_ast.specs.declared.tree.Template.{Template, fold-roll-Template, map-Template, roll-Template}
use Rattle.es6_ast.specs.declared.tree.TemplatePart.{TemplatePart, fold-roll-TemplatePart, map-TemplatePart, roll-TemplatePart}
use Rattle.es6_ast.specs.declared.tree.Argument.TheOpen.{Argument-F, ArrayPart-F, Arrow-F, ArrowBody-F, Block-F, Case-F, Catch-F, Class-F, ClassMember-F, Condition-F, Element-F, Expression-F, ForFirst-F, ForTarget-F, Function-F, Key-F, Link-F, Method-F, ObjectPart-F, Operand-F, Parameter-F, Part-F, Pattern-F, Property-F, Statement-F, Template-F, TemplatePart-F}
use Rattle.core_ast.specs.declared.parts.FunctionId.{FunctionId}
use Rattle.lowering_rules.specs.declared.expressions.ListPart.{ListPart}
use Rattle.lowering_rules.specs.declared.reference_rules.objects.ObjectMember.{ObjectMember}
use Rattle.module_lowering.specs.Lowering.{Lowering}
use Rattle.module_lowering.specs.Nodes.{ArrayParted, Cased, Caught, Classed, Conditioned, Expressed, ForBegun, ForTargeted, Functioned, Keyed, Linked, Listed, Membered, Methoded, ObjectParted, Operated, Parametered, Parted, Patterned, Stated, TemplateParted, Templated}
use Rattle.module_lowering.specs.Nodes as nodes
use Rattle.module_lowering.specs.Expressions.{argument_step, element_step, expression_step, link_step, operand_step, template_part_step, template_step}
use Rattle.module_lowering.specs.Patterns.{array_part_step, key_step, object_part_step, part_step, pattern_step, property_step}
use Rattle.module_lowering.specs.Functions.{arrow_body_step, arrow_step, parameter_step}
use Rattle.module_lowering.specs.Classes.{class_member_step, class_step, function_step, method_step}
use Rattle.module_lowering.specs.Statements.{block_step, case_step, catch_step, condition_step, for_first_step, for_target_step, statement_step}
use Rattle.module_lowering.specs.Lowered.{argument_lowered, array_part_lowered, arrow_body_lowered, arrow_lowered, block_lowered, case_lowered, catch_lowered, class_lowered, class_member_lowered, condition_lowered, element_lowered, expression_lowered, for_first_lowered, for_target_lowered, function_lowered, key_lowered, link_lowered, method_lowered, object_part_lowered, operand_lowered, parameter_lowered, part_lowered, pattern_lowered, property_lowered, statement_lowered, template_lowered, template_part_lowered}

-- a layer with trees, and one with what the fold gives of them

abbrev pub Trees : (Type 0 → Type 0 → Type 0 → Type 0 → Type 0 → Type 0 → Type 0 → Type 0 → Type 0 → Type 0 → Type 0 → Type 0 → Type 0 → Type 0 → Type 0 → Type 0 → Type 0 → Type 0 → Type 0 → Type 0 → Type 0 → Type 0 → Type 0 → Type 0 → Type 0 → Type 0 → Type 0 → Type 0) → Type 0
Trees Of = Of Argument ArrayPart ArrowBody Element Expression ForFirst ForTarget Key Link ObjectPart Parameter Pattern Property Statement Arrow Block Case Catch Class ClassMember Condition Function Method Operand Part Template TemplatePart

abbrev pub in_argument : Trees Argument-F → nodes.Layer Argument-F
in_argument = map-Argument Argument ArrayPart ArrowBody Element Expression ForFirst ForTarget Key Link ObjectPart Parameter Pattern Property Statement Arrow Block Case Catch Class ClassMember Condition Function Method Operand Part Template TemplatePart
    (Lowering ListPart) ArrayParted Listed (Lowering ListPart) Expressed ForBegun ForTargeted Keyed Linked ObjectParted Parametered Patterned (Lowering ObjectMember) Stated (Lowering FunctionId) Listed Cased Caught Classed Membered Conditioned Functioned Methoded Operated Parted Templated TemplateParted
    argument_lowered array_part_lowered arrow_body_lowered element_lowered expression_lowered for_first_lowered for_target_lowered key_lowered link_lowered object_part_lowered parameter_lowered pattern_lowered property_lowered statement_lowered arrow_lowered block_lowered case_lowered catch_lowered class_lowered class_member_lowered condition_lowered function_lowered method_lowered operand_lowered part_lowered template_lowered template_part_lowered

pub argument_rolled : (y : Trees Argument-F) → argument_lowered (roll-Argument y) ≡ argument_step (in_argument y)
unfolding argument_lowered array_part_lowered arrow_body_lowered element_lowered expression_lowered for_first_lowered for_target_lowered key_lowered link_lowered object_part_lowered parameter_lowered pattern_lowered property_lowered statement_lowered arrow_lowered block_lowered case_lowered catch_lowered class_lowered class_member_lowered condition_lowered function_lowered method_lowered operand_lowered part_lowered template_lowered template_part_lowered
argument_rolled = fold-roll-Argument (Lowering ListPart) ArrayParted Listed (Lowering ListPart) Expressed ForBegun ForTargeted Keyed Linked ObjectParted Parametered Patterned (Lowering ObjectMember) Stated (Lowering FunctionId) Listed Cased Caught Classed Membered Conditioned Functioned Methoded Operated Parted Templated TemplateParted
    argument_step array_part_step arrow_body_step element_step expression_step for_first_step for_target_step key_step link_step object_part_step parameter_step pattern_step property_step statement_step arrow_step block_step case_step catch_step class_step class_member_step condition_step function_step method_step operand_step part_step template_step template_part_step

abbrev pub in_array_part : Trees ArrayPart-F → nodes.Layer ArrayPart-F
in_array_part = map-ArrayPart Argument ArrayPart ArrowBody Element Expression ForFirst ForTarget Key Link ObjectPart Parameter Pattern Property Statement Arrow Block Case Catch Class ClassMember Condition Function Method Operand Part Template TemplatePart
    (Lowering ListPart) ArrayParted Listed (Lowering ListPart) Expressed ForBegun ForTargeted Keyed Linked ObjectParted Parametered Patterned (Lowering ObjectMember) Stated (Lowering FunctionId) Listed Cased Caught Classed Membered Conditioned Functioned Methoded Operated Parted Templated TemplateParted
    argument_lowered array_part_lowered arrow_body_lowered element_lowered expression_lowered for_first_lowered for_target_lowered key_lowered link_lowered object_part_lowered parameter_lowered pattern_lowered property_lowered statement_lowered arrow_lowered block_lowered case_lowered catch_lowered class_lowered class_member_lowered condition_lowered function_lowered method_lowered operand_lowered part_lowered template_lowered template_part_lowered

pub array_part_rolled : (y : Trees ArrayPart-F) → array_part_lowered (roll-ArrayPart y) ≡ array_part_step (in_array_part y)
unfolding argument_lowered array_part_lowered arrow_body_lowered element_lowered expression_lowered for_first_lowered for_target_lowered key_lowered link_lowered object_part_lowered parameter_lowered pattern_lowered property_lowered statement_lowered arrow_lowered block_lowered case_lowered catch_lowered class_lowered class_member_lowered condition_lowered function_lowered method_lowered operand_lowered part_lowered template_lowered template_part_lowered
array_part_rolled = fold-roll-ArrayPart (Lowering ListPart) ArrayParted Listed (Lowering ListPart) Expressed ForBegun ForTargeted Keyed Linked ObjectParted Parametered Patterned (Lowering ObjectMember) Stated (Lowering FunctionId) Listed Cased Caught Classed Membered Conditioned Functioned Methoded Operated Parted Templated TemplateParted
    argument_step array_part_step arrow_body_step element_step expression_step for_first_step for_target_step key_step link_step object_part_step parameter_step pattern_step property_step statement_step arrow_step block_step case_step catch_step class_step class_member_step condition_step function_step method_step operand_step part_step template_step template_part_step

abbrev pub in_arrow_body : Trees ArrowBody-F → nodes.Layer ArrowBody-F
in_arrow_body = map-ArrowBody Argument ArrayPart ArrowBody Element Expression ForFirst ForTarget Key Link ObjectPart Parameter Pattern Property Statement Arrow Block Case Catch Class ClassMember Condition Function Method Operand Part Template TemplatePart
    (Lowering ListPart) ArrayParted Listed (Lowering ListPart) Expressed ForBegun ForTargeted Keyed Linked ObjectParted Parametered Patterned (Lowering ObjectMember) Stated (Lowering FunctionId) Listed Cased Caught Classed Membered Conditioned Functioned Methoded Operated Parted Templated TemplateParted
    argument_lowered array_part_lowered arrow_body_lowered element_lowered expression_lowered for_first_lowered for_target_lowered key_lowered link_lowered object_part_lowered parameter_lowered pattern_lowered property_lowered statement_lowered arrow_lowered block_lowered case_lowered catch_lowered class_lowered class_member_lowered condition_lowered function_lowered method_lowered operand_lowered part_lowered template_lowered template_part_lowered

pub arrow_body_rolled : (y : Trees ArrowBody-F) → arrow_body_lowered (roll-ArrowBody y) ≡ arrow_body_step (in_arrow_body y)
unfolding argument_lowered array_part_lowered arrow_body_lowered element_lowered expression_lowered for_first_lowered for_target_lowered key_lowered link_lowered object_part_lowered parameter_lowered pattern_lowered property_lowered statement_lowered arrow_lowered block_lowered case_lowered catch_lowered class_lowered class_member_lowered condition_lowered function_lowered method_lowered operand_lowered part_lowered template_lowered template_part_lowered
arrow_body_rolled = fold-roll-ArrowBody (Lowering ListPart) ArrayParted Listed (Lowering ListPart) Expressed ForBegun ForTargeted Keyed Linked ObjectParted Parametered Patterned (Lowering ObjectMember) Stated (Lowering FunctionId) Listed Cased Caught Classed Membered Conditioned Functioned Methoded Operated Parted Templated TemplateParted
    argument_step array_part_step arrow_body_step element_step expression_step for_first_step for_target_step key_step link_step object_part_step parameter_step pattern_step property_step statement_step arrow_step block_step case_step catch_step class_step class_member_step condition_step function_step method_step operand_step part_step template_step template_part_step

abbrev pub in_element : Trees Element-F → nodes.Layer Element-F
in_element = map-Element Argument ArrayPart ArrowBody Element Expression ForFirst ForTarget Key Link ObjectPart Parameter Pattern Property Statement Arrow Block Case Catch Class ClassMember Condition Function Method Operand Part Template TemplatePart
    (Lowering ListPart) ArrayParted Listed (Lowering ListPart) Expressed ForBegun ForTargeted Keyed Linked ObjectParted Parametered Patterned (Lowering ObjectMember) Stated (Lowering FunctionId) Listed Cased Caught Classed Membered Conditioned Functioned Methoded Operated Parted Templated TemplateParted
    argument_lowered array_part_lowered arrow_body_lowered element_lowered expression_lowered for_first_lowered for_target_lowered key_lowered link_lowered object_part_lowered parameter_lowered pattern_lowered property_lowered statement_lowered arrow_lowered block_lowered case_lowered catch_lowered class_lowered class_member_lowered condition_lowered function_lowered method_lowered operand_lowered part_lowered template_lowered template_part_lowered

pub element_rolled : (y : Trees Element-F) → element_lowered (roll-Element y) ≡ element_step (in_element y)
unfolding argument_lowered array_part_lowered arrow_body_lowered element_lowered expression_lowered for_first_lowered for_target_lowered key_lowered link_lowered object_part_lowered parameter_lowered pattern_lowered property_lowered statement_lowered arrow_lowered block_lowered case_lowered catch_lowered class_lowered class_member_lowered condition_lowered function_lowered method_lowered operand_lowered part_lowered template_lowered template_part_lowered
element_rolled = fold-roll-Element (Lowering ListPart) ArrayParted Listed (Lowering ListPart) Expressed ForBegun ForTargeted Keyed Linked ObjectParted Parametered Patterned (Lowering ObjectMember) Stated (Lowering FunctionId) Listed Cased Caught Classed Membered Conditioned Functioned Methoded Operated Parted Templated TemplateParted
    argument_step array_part_step arrow_body_step element_step expression_step for_first_step for_target_step key_step link_step object_part_step parameter_step pattern_step property_step statement_step arrow_step block_step case_step catch_step class_step class_member_step condition_step function_step method_step operand_step part_step template_step template_part_step

abbrev pub in_expression : Trees Expression-F → nodes.Layer Expression-F
in_expression = map-Expression Argument ArrayPart ArrowBody Element Expression ForFirst ForTarget Key Link ObjectPart Parameter Pattern Property Statement Arrow Block Case Catch Class ClassMember Condition Function Method Operand Part Template TemplatePart
    (Lowering ListPart) ArrayParted Listed (Lowering ListPart) Expressed ForBegun ForTargeted Keyed Linked ObjectParted Parametered Patterned (Lowering ObjectMember) Stated (Lowering FunctionId) Listed Cased Caught Classed Membered Conditioned Functioned Methoded Operated Parted Templated TemplateParted
    argument_lowered array_part_lowered arrow_body_lowered element_lowered expression_lowered for_first_lowered for_target_lowered key_lowered link_lowered object_part_lowered parameter_lowered pattern_lowered property_lowered statement_lowered arrow_lowered block_lowered case_lowered catch_lowered class_lowered class_member_lowered condition_lowered function_lowered method_lowered operand_lowered part_lowered template_lowered template_part_lowered

pub expression_rolled : (y : Trees Expression-F) → expression_lowered (roll-Expression y) ≡ expression_step (in_expression y)
unfolding argument_lowered array_part_lowered arrow_body_lowered element_lowered expression_lowered for_first_lowered for_target_lowered key_lowered link_lowered object_part_lowered parameter_lowered pattern_lowered property_lowered statement_lowered arrow_lowered block_lowered case_lowered catch_lowered class_lowered class_member_lowered condition_lowered function_lowered method_lowered operand_lowered part_lowered template_lowered template_part_lowered
expression_rolled = fold-roll-Expression (Lowering ListPart) ArrayParted Listed (Lowering ListPart) Expressed ForBegun ForTargeted Keyed Linked ObjectParted Parametered Patterned (Lowering ObjectMember) Stated (Lowering FunctionId) Listed Cased Caught Classed Membered Conditioned Functioned Methoded Operated Parted Templated TemplateParted
    argument_step array_part_step arrow_body_step element_step expression_step for_first_step for_target_step key_step link_step object_part_step parameter_step pattern_step property_step statement_step arrow_step block_step case_step catch_step class_step class_member_step condition_step function_step method_step operand_step part_step template_step template_part_step

abbrev pub in_for_first : Trees ForFirst-F → nodes.Layer ForFirst-F
in_for_first = map-ForFirst Argument ArrayPart ArrowBody Element Expression ForFirst ForTarget Key Link ObjectPart Parameter Pattern Property Statement Arrow Block Case Catch Class ClassMember Condition Function Method Operand Part Template TemplatePart
    (Lowering ListPart) ArrayParted Listed (Lowering ListPart) Expressed ForBegun ForTargeted Keyed Linked ObjectParted Parametered Patterned (Lowering ObjectMember) Stated (Lowering FunctionId) Listed Cased Caught Classed Membered Conditioned Functioned Methoded Operated Parted Templated TemplateParted
    argument_lowered array_part_lowered arrow_body_lowered element_lowered expression_lowered for_first_lowered for_target_lowered key_lowered link_lowered object_part_lowered parameter_lowered pattern_lowered property_lowered statement_lowered arrow_lowered block_lowered case_lowered catch_lowered class_lowered class_member_lowered condition_lowered function_lowered method_lowered operand_lowered part_lowered template_lowered template_part_lowered

pub for_first_rolled : (y : Trees ForFirst-F) → for_first_lowered (roll-ForFirst y) ≡ for_first_step (in_for_first y)
unfolding argument_lowered array_part_lowered arrow_body_lowered element_lowered expression_lowered for_first_lowered for_target_lowered key_lowered link_lowered object_part_lowered parameter_lowered pattern_lowered property_lowered statement_lowered arrow_lowered block_lowered case_lowered catch_lowered class_lowered class_member_lowered condition_lowered function_lowered method_lowered operand_lowered part_lowered template_lowered template_part_lowered
for_first_rolled = fold-roll-ForFirst (Lowering ListPart) ArrayParted Listed (Lowering ListPart) Expressed ForBegun ForTargeted Keyed Linked ObjectParted Parametered Patterned (Lowering ObjectMember) Stated (Lowering FunctionId) Listed Cased Caught Classed Membered Conditioned Functioned Methoded Operated Parted Templated TemplateParted
    argument_step array_part_step arrow_body_step element_step expression_step for_first_step for_target_step key_step link_step object_part_step parameter_step pattern_step property_step statement_step arrow_step block_step case_step catch_step class_step class_member_step condition_step function_step method_step operand_step part_step template_step template_part_step

abbrev pub in_for_target : Trees ForTarget-F → nodes.Layer ForTarget-F
in_for_target = map-ForTarget Argument ArrayPart ArrowBody Element Expression ForFirst ForTarget Key Link ObjectPart Parameter Pattern Property Statement Arrow Block Case Catch Class ClassMember Condition Function Method Operand Part Template TemplatePart
    (Lowering ListPart) ArrayParted Listed (Lowering ListPart) Expressed ForBegun ForTargeted Keyed Linked ObjectParted Parametered Patterned (Lowering ObjectMember) Stated (Lowering FunctionId) Listed Cased Caught Classed Membered Conditioned Functioned Methoded Operated Parted Templated TemplateParted
    argument_lowered array_part_lowered arrow_body_lowered element_lowered expression_lowered for_first_lowered for_target_lowered key_lowered link_lowered object_part_lowered parameter_lowered pattern_lowered property_lowered statement_lowered arrow_lowered block_lowered case_lowered catch_lowered class_lowered class_member_lowered condition_lowered function_lowered method_lowered operand_lowered part_lowered template_lowered template_part_lowered

pub for_target_rolled : (y : Trees ForTarget-F) → for_target_lowered (roll-ForTarget y) ≡ for_target_step (in_for_target y)
unfolding argument_lowered array_part_lowered arrow_body_lowered element_lowered expression_lowered for_first_lowered for_target_lowered key_lowered link_lowered object_part_lowered parameter_lowered pattern_lowered property_lowered statement_lowered arrow_lowered block_lowered case_lowered catch_lowered class_lowered class_member_lowered condition_lowered function_lowered method_lowered operand_lowered part_lowered template_lowered template_part_lowered
for_target_rolled = fold-roll-ForTarget (Lowering ListPart) ArrayParted Listed (Lowering ListPart) Expressed ForBegun ForTargeted Keyed Linked ObjectParted Parametered Patterned (Lowering ObjectMember) Stated (Lowering FunctionId) Listed Cased Caught Classed Membered Conditioned Functioned Methoded Operated Parted Templated TemplateParted
    argument_step array_part_step arrow_body_step element_step expression_step for_first_step for_target_step key_step link_step object_part_step parameter_step pattern_step property_step statement_step arrow_step block_step case_step catch_step class_step class_member_step condition_step function_step method_step operand_step part_step template_step template_part_step

abbrev pub in_key : Trees Key-F → nodes.Layer Key-F
in_key = map-Key Argument ArrayPart ArrowBody Element Expression ForFirst ForTarget Key Link ObjectPart Parameter Pattern Property Statement Arrow Block Case Catch Class ClassMember Condition Function Method Operand Part Template TemplatePart
    (Lowering ListPart) ArrayParted Listed (Lowering ListPart) Expressed ForBegun ForTargeted Keyed Linked ObjectParted Parametered Patterned (Lowering ObjectMember) Stated (Lowering FunctionId) Listed Cased Caught Classed Membered Conditioned Functioned Methoded Operated Parted Templated TemplateParted
    argument_lowered array_part_lowered arrow_body_lowered element_lowered expression_lowered for_first_lowered for_target_lowered key_lowered link_lowered object_part_lowered parameter_lowered pattern_lowered property_lowered statement_lowered arrow_lowered block_lowered case_lowered catch_lowered class_lowered class_member_lowered condition_lowered function_lowered method_lowered operand_lowered part_lowered template_lowered template_part_lowered

pub key_rolled : (y : Trees Key-F) → key_lowered (roll-Key y) ≡ key_step (in_key y)
unfolding argument_lowered array_part_lowered arrow_body_lowered element_lowered expression_lowered for_first_lowered for_target_lowered key_lowered link_lowered object_part_lowered parameter_lowered pattern_lowered property_lowered statement_lowered arrow_lowered block_lowered case_lowered catch_lowered class_lowered class_member_lowered condition_lowered function_lowered method_lowered operand_lowered part_lowered template_lowered template_part_lowered
key_rolled = fold-roll-Key (Lowering ListPart) ArrayParted Listed (Lowering ListPart) Expressed ForBegun ForTargeted Keyed Linked ObjectParted Parametered Patterned (Lowering ObjectMember) Stated (Lowering FunctionId) Listed Cased Caught Classed Membered Conditioned Functioned Methoded Operated Parted Templated TemplateParted
    argument_step array_part_step arrow_body_step element_step expression_step for_first_step for_target_step key_step link_step object_part_step parameter_step pattern_step property_step statement_step arrow_step block_step case_step catch_step class_step class_member_step condition_step function_step method_step operand_step part_step template_step template_part_step

abbrev pub in_link : Trees Link-F → nodes.Layer Link-F
in_link = map-Link Argument ArrayPart ArrowBody Element Expression ForFirst ForTarget Key Link ObjectPart Parameter Pattern Property Statement Arrow Block Case Catch Class ClassMember Condition Function Method Operand Part Template TemplatePart
    (Lowering ListPart) ArrayParted Listed (Lowering ListPart) Expressed ForBegun ForTargeted Keyed Linked ObjectParted Parametered Patterned (Lowering ObjectMember) Stated (Lowering FunctionId) Listed Cased Caught Classed Membered Conditioned Functioned Methoded Operated Parted Templated TemplateParted
    argument_lowered array_part_lowered arrow_body_lowered element_lowered expression_lowered for_first_lowered for_target_lowered key_lowered link_lowered object_part_lowered parameter_lowered pattern_lowered property_lowered statement_lowered arrow_lowered block_lowered case_lowered catch_lowered class_lowered class_member_lowered condition_lowered function_lowered method_lowered operand_lowered part_lowered template_lowered template_part_lowered

pub link_rolled : (y : Trees Link-F) → link_lowered (roll-Link y) ≡ link_step (in_link y)
unfolding argument_lowered array_part_lowered arrow_body_lowered element_lowered expression_lowered for_first_lowered for_target_lowered key_lowered link_lowered object_part_lowered parameter_lowered pattern_lowered property_lowered statement_lowered arrow_lowered block_lowered case_lowered catch_lowered class_lowered class_member_lowered condition_lowered function_lowered method_lowered operand_lowered part_lowered template_lowered template_part_lowered
link_rolled = fold-roll-Link (Lowering ListPart) ArrayParted Listed (Lowering ListPart) Expressed ForBegun ForTargeted Keyed Linked ObjectParted Parametered Patterned (Lowering ObjectMember) Stated (Lowering FunctionId) Listed Cased Caught Classed Membered Conditioned Functioned Methoded Operated Parted Templated TemplateParted
    argument_step array_part_step arrow_body_step element_step expression_step for_first_step for_target_step key_step link_step object_part_step parameter_step pattern_step property_step statement_step arrow_step block_step case_step catch_step class_step class_member_step condition_step function_step method_step operand_step part_step template_step template_part_step

abbrev pub in_object_part : Trees ObjectPart-F → nodes.Layer ObjectPart-F
in_object_part = map-ObjectPart Argument ArrayPart ArrowBody Element Expression ForFirst ForTarget Key Link ObjectPart Parameter Pattern Property Statement Arrow Block Case Catch Class ClassMember Condition Function Method Operand Part Template TemplatePart
    (Lowering ListPart) ArrayParted Listed (Lowering ListPart) Expressed ForBegun ForTargeted Keyed Linked ObjectParted Parametered Patterned (Lowering ObjectMember) Stated (Lowering FunctionId) Listed Cased Caught Classed Membered Conditioned Functioned Methoded Operated Parted Templated TemplateParted
    argument_lowered array_part_lowered arrow_body_lowered element_lowered expression_lowered for_first_lowered for_target_lowered key_lowered link_lowered object_part_lowered parameter_lowered pattern_lowered property_lowered statement_lowered arrow_lowered block_lowered case_lowered catch_lowered class_lowered class_member_lowered condition_lowered function_lowered method_lowered operand_lowered part_lowered template_lowered template_part_lowered

pub object_part_rolled : (y : Trees ObjectPart-F) → object_part_lowered (roll-ObjectPart y) ≡ object_part_step (in_object_part y)
unfolding argument_lowered array_part_lowered arrow_body_lowered element_lowered expression_lowered for_first_lowered for_target_lowered key_lowered link_lowered object_part_lowered parameter_lowered pattern_lowered property_lowered statement_lowered arrow_lowered block_lowered case_lowered catch_lowered class_lowered class_member_lowered condition_lowered function_lowered method_lowered operand_lowered part_lowered template_lowered template_part_lowered
object_part_rolled = fold-roll-ObjectPart (Lowering ListPart) ArrayParted Listed (Lowering ListPart) Expressed ForBegun ForTargeted Keyed Linked ObjectParted Parametered Patterned (Lowering ObjectMember) Stated (Lowering FunctionId) Listed Cased Caught Classed Membered Conditioned Functioned Methoded Operated Parted Templated TemplateParted
    argument_step array_part_step arrow_body_step element_step expression_step for_first_step for_target_step key_step link_step object_part_step parameter_step pattern_step property_step statement_step arrow_step block_step case_step catch_step class_step class_member_step condition_step function_step method_step operand_step part_step template_step template_part_step

abbrev pub in_parameter : Trees Parameter-F → nodes.Layer Parameter-F
in_parameter = map-Parameter Argument ArrayPart ArrowBody Element Expression ForFirst ForTarget Key Link ObjectPart Parameter Pattern Property Statement Arrow Block Case Catch Class ClassMember Condition Function Method Operand Part Template TemplatePart
    (Lowering ListPart) ArrayParted Listed (Lowering ListPart) Expressed ForBegun ForTargeted Keyed Linked ObjectParted Parametered Patterned (Lowering ObjectMember) Stated (Lowering FunctionId) Listed Cased Caught Classed Membered Conditioned Functioned Methoded Operated Parted Templated TemplateParted
    argument_lowered array_part_lowered arrow_body_lowered element_lowered expression_lowered for_first_lowered for_target_lowered key_lowered link_lowered object_part_lowered parameter_lowered pattern_lowered property_lowered statement_lowered arrow_lowered block_lowered case_lowered catch_lowered class_lowered class_member_lowered condition_lowered function_lowered method_lowered operand_lowered part_lowered template_lowered template_part_lowered

pub parameter_rolled : (y : Trees Parameter-F) → parameter_lowered (roll-Parameter y) ≡ parameter_step (in_parameter y)
unfolding argument_lowered array_part_lowered arrow_body_lowered element_lowered expression_lowered for_first_lowered for_target_lowered key_lowered link_lowered object_part_lowered parameter_lowered pattern_lowered property_lowered statement_lowered arrow_lowered block_lowered case_lowered catch_lowered class_lowered class_member_lowered condition_lowered function_lowered method_lowered operand_lowered part_lowered template_lowered template_part_lowered
parameter_rolled = fold-roll-Parameter (Lowering ListPart) ArrayParted Listed (Lowering ListPart) Expressed ForBegun ForTargeted Keyed Linked ObjectParted Parametered Patterned (Lowering ObjectMember) Stated (Lowering FunctionId) Listed Cased Caught Classed Membered Conditioned Functioned Methoded Operated Parted Templated TemplateParted
    argument_step array_part_step arrow_body_step element_step expression_step for_first_step for_target_step key_step link_step object_part_step parameter_step pattern_step property_step statement_step arrow_step block_step case_step catch_step class_step class_member_step condition_step function_step method_step operand_step part_step template_step template_part_step

abbrev pub in_pattern : Trees Pattern-F → nodes.Layer Pattern-F
in_pattern = map-Pattern Argument ArrayPart ArrowBody Element Expression ForFirst ForTarget Key Link ObjectPart Parameter Pattern Property Statement Arrow Block Case Catch Class ClassMember Condition Function Method Operand Part Template TemplatePart
    (Lowering ListPart) ArrayParted Listed (Lowering ListPart) Expressed ForBegun ForTargeted Keyed Linked ObjectParted Parametered Patterned (Lowering ObjectMember) Stated (Lowering FunctionId) Listed Cased Caught Classed Membered Conditioned Functioned Methoded Operated Parted Templated TemplateParted
    argument_lowered array_part_lowered arrow_body_lowered element_lowered expression_lowered for_first_lowered for_target_lowered key_lowered link_lowered object_part_lowered parameter_lowered pattern_lowered property_lowered statement_lowered arrow_lowered block_lowered case_lowered catch_lowered class_lowered class_member_lowered condition_lowered function_lowered method_lowered operand_lowered part_lowered template_lowered template_part_lowered

pub pattern_rolled : (y : Trees Pattern-F) → pattern_lowered (roll-Pattern y) ≡ pattern_step (in_pattern y)
unfolding argument_lowered array_part_lowered arrow_body_lowered element_lowered expression_lowered for_first_lowered for_target_lowered key_lowered link_lowered object_part_lowered parameter_lowered pattern_lowered property_lowered statement_lowered arrow_lowered block_lowered case_lowered catch_lowered class_lowered class_member_lowered condition_lowered function_lowered method_lowered operand_lowered part_lowered template_lowered template_part_lowered
pattern_rolled = fold-roll-Pattern (Lowering ListPart) ArrayParted Listed (Lowering ListPart) Expressed ForBegun ForTargeted Keyed Linked ObjectParted Parametered Patterned (Lowering ObjectMember) Stated (Lowering FunctionId) Listed Cased Caught Classed Membered Conditioned Functioned Methoded Operated Parted Templated TemplateParted
    argument_step array_part_step arrow_body_step element_step expression_step for_first_step for_target_step key_step link_step object_part_step parameter_step pattern_step property_step statement_step arrow_step block_step case_step catch_step class_step class_member_step condition_step function_step method_step operand_step part_step template_step template_part_step

abbrev pub in_property : Trees Property-F → nodes.Layer Property-F
in_property = map-Property Argument ArrayPart ArrowBody Element Expression ForFirst ForTarget Key Link ObjectPart Parameter Pattern Property Statement Arrow Block Case Catch Class ClassMember Condition Function Method Operand Part Template TemplatePart
    (Lowering ListPart) ArrayParted Listed (Lowering ListPart) Expressed ForBegun ForTargeted Keyed Linked ObjectParted Parametered Patterned (Lowering ObjectMember) Stated (Lowering FunctionId) Listed Cased Caught Classed Membered Conditioned Functioned Methoded Operated Parted Templated TemplateParted
    argument_lowered array_part_lowered arrow_body_lowered element_lowered expression_lowered for_first_lowered for_target_lowered key_lowered link_lowered object_part_lowered parameter_lowered pattern_lowered property_lowered statement_lowered arrow_lowered block_lowered case_lowered catch_lowered class_lowered class_member_lowered condition_lowered function_lowered method_lowered operand_lowered part_lowered template_lowered template_part_lowered

pub property_rolled : (y : Trees Property-F) → property_lowered (roll-Property y) ≡ property_step (in_property y)
unfolding argument_lowered array_part_lowered arrow_body_lowered element_lowered expression_lowered for_first_lowered for_target_lowered key_lowered link_lowered object_part_lowered parameter_lowered pattern_lowered property_lowered statement_lowered arrow_lowered block_lowered case_lowered catch_lowered class_lowered class_member_lowered condition_lowered function_lowered method_lowered operand_lowered part_lowered template_lowered template_part_lowered
property_rolled = fold-roll-Property (Lowering ListPart) ArrayParted Listed (Lowering ListPart) Expressed ForBegun ForTargeted Keyed Linked ObjectParted Parametered Patterned (Lowering ObjectMember) Stated (Lowering FunctionId) Listed Cased Caught Classed Membered Conditioned Functioned Methoded Operated Parted Templated TemplateParted
    argument_step array_part_step arrow_body_step element_step expression_step for_first_step for_target_step key_step link_step object_part_step parameter_step pattern_step property_step statement_step arrow_step block_step case_step catch_step class_step class_member_step condition_step function_step method_step operand_step part_step template_step template_part_step

abbrev pub in_statement : Trees Statement-F → nodes.Layer Statement-F
in_statement = map-Statement Argument ArrayPart ArrowBody Element Expression ForFirst ForTarget Key Link ObjectPart Parameter Pattern Property Statement Arrow Block Case Catch Class ClassMember Condition Function Method Operand Part Template TemplatePart
    (Lowering ListPart) ArrayParted Listed (Lowering ListPart) Expressed ForBegun ForTargeted Keyed Linked ObjectParted Parametered Patterned (Lowering ObjectMember) Stated (Lowering FunctionId) Listed Cased Caught Classed Membered Conditioned Functioned Methoded Operated Parted Templated TemplateParted
    argument_lowered array_part_lowered arrow_body_lowered element_lowered expression_lowered for_first_lowered for_target_lowered key_lowered link_lowered object_part_lowered parameter_lowered pattern_lowered property_lowered statement_lowered arrow_lowered block_lowered case_lowered catch_lowered class_lowered class_member_lowered condition_lowered function_lowered method_lowered operand_lowered part_lowered template_lowered template_part_lowered

pub statement_rolled : (y : Trees Statement-F) → statement_lowered (roll-Statement y) ≡ statement_step (in_statement y)
unfolding argument_lowered array_part_lowered arrow_body_lowered element_lowered expression_lowered for_first_lowered for_target_lowered key_lowered link_lowered object_part_lowered parameter_lowered pattern_lowered property_lowered statement_lowered arrow_lowered block_lowered case_lowered catch_lowered class_lowered class_member_lowered condition_lowered function_lowered method_lowered operand_lowered part_lowered template_lowered template_part_lowered
statement_rolled = fold-roll-Statement (Lowering ListPart) ArrayParted Listed (Lowering ListPart) Expressed ForBegun ForTargeted Keyed Linked ObjectParted Parametered Patterned (Lowering ObjectMember) Stated (Lowering FunctionId) Listed Cased Caught Classed Membered Conditioned Functioned Methoded Operated Parted Templated TemplateParted
    argument_step array_part_step arrow_body_step element_step expression_step for_first_step for_target_step key_step link_step object_part_step parameter_step pattern_step property_step statement_step arrow_step block_step case_step catch_step class_step class_member_step condition_step function_step method_step operand_step part_step template_step template_part_step

abbrev pub in_arrow : Trees Arrow-F → nodes.Layer Arrow-F
in_arrow = map-Arrow Argument ArrayPart ArrowBody Element Expression ForFirst ForTarget Key Link ObjectPart Parameter Pattern Property Statement Arrow Block Case Catch Class ClassMember Condition Function Method Operand Part Template TemplatePart
    (Lowering ListPart) ArrayParted Listed (Lowering ListPart) Expressed ForBegun ForTargeted Keyed Linked ObjectParted Parametered Patterned (Lowering ObjectMember) Stated (Lowering FunctionId) Listed Cased Caught Classed Membered Conditioned Functioned Methoded Operated Parted Templated TemplateParted
    argument_lowered array_part_lowered arrow_body_lowered element_lowered expression_lowered for_first_lowered for_target_lowered key_lowered link_lowered object_part_lowered parameter_lowered pattern_lowered property_lowered statement_lowered arrow_lowered block_lowered case_lowered catch_lowered class_lowered class_member_lowered condition_lowered function_lowered method_lowered operand_lowered part_lowered template_lowered template_part_lowered

pub arrow_rolled : (y : Trees Arrow-F) → arrow_lowered (roll-Arrow y) ≡ arrow_step (in_arrow y)
unfolding argument_lowered array_part_lowered arrow_body_lowered element_lowered expression_lowered for_first_lowered for_target_lowered key_lowered link_lowered object_part_lowered parameter_lowered pattern_lowered property_lowered statement_lowered arrow_lowered block_lowered case_lowered catch_lowered class_lowered class_member_lowered condition_lowered function_lowered method_lowered operand_lowered part_lowered template_lowered template_part_lowered
arrow_rolled = fold-roll-Arrow (Lowering ListPart) ArrayParted Listed (Lowering ListPart) Expressed ForBegun ForTargeted Keyed Linked ObjectParted Parametered Patterned (Lowering ObjectMember) Stated (Lowering FunctionId) Listed Cased Caught Classed Membered Conditioned Functioned Methoded Operated Parted Templated TemplateParted
    argument_step array_part_step arrow_body_step element_step expression_step for_first_step for_target_step key_step link_step object_part_step parameter_step pattern_step property_step statement_step arrow_step block_step case_step catch_step class_step class_member_step condition_step function_step method_step operand_step part_step template_step template_part_step

abbrev pub in_block : Trees Block-F → nodes.Layer Block-F
in_block = map-Block Argument ArrayPart ArrowBody Element Expression ForFirst ForTarget Key Link ObjectPart Parameter Pattern Property Statement Arrow Block Case Catch Class ClassMember Condition Function Method Operand Part Template TemplatePart
    (Lowering ListPart) ArrayParted Listed (Lowering ListPart) Expressed ForBegun ForTargeted Keyed Linked ObjectParted Parametered Patterned (Lowering ObjectMember) Stated (Lowering FunctionId) Listed Cased Caught Classed Membered Conditioned Functioned Methoded Operated Parted Templated TemplateParted
    argument_lowered array_part_lowered arrow_body_lowered element_lowered expression_lowered for_first_lowered for_target_lowered key_lowered link_lowered object_part_lowered parameter_lowered pattern_lowered property_lowered statement_lowered arrow_lowered block_lowered case_lowered catch_lowered class_lowered class_member_lowered condition_lowered function_lowered method_lowered operand_lowered part_lowered template_lowered template_part_lowered

pub block_rolled : (y : Trees Block-F) → block_lowered (roll-Block y) ≡ block_step (in_block y)
unfolding argument_lowered array_part_lowered arrow_body_lowered element_lowered expression_lowered for_first_lowered for_target_lowered key_lowered link_lowered object_part_lowered parameter_lowered pattern_lowered property_lowered statement_lowered arrow_lowered block_lowered case_lowered catch_lowered class_lowered class_member_lowered condition_lowered function_lowered method_lowered operand_lowered part_lowered template_lowered template_part_lowered
block_rolled = fold-roll-Block (Lowering ListPart) ArrayParted Listed (Lowering ListPart) Expressed ForBegun ForTargeted Keyed Linked ObjectParted Parametered Patterned (Lowering ObjectMember) Stated (Lowering FunctionId) Listed Cased Caught Classed Membered Conditioned Functioned Methoded Operated Parted Templated TemplateParted
    argument_step array_part_step arrow_body_step element_step expression_step for_first_step for_target_step key_step link_step object_part_step parameter_step pattern_step property_step statement_step arrow_step block_step case_step catch_step class_step class_member_step condition_step function_step method_step operand_step part_step template_step template_part_step

abbrev pub in_case : Trees Case-F → nodes.Layer Case-F
in_case = map-Case Argument ArrayPart ArrowBody Element Expression ForFirst ForTarget Key Link ObjectPart Parameter Pattern Property Statement Arrow Block Case Catch Class ClassMember Condition Function Method Operand Part Template TemplatePart
    (Lowering ListPart) ArrayParted Listed (Lowering ListPart) Expressed ForBegun ForTargeted Keyed Linked ObjectParted Parametered Patterned (Lowering ObjectMember) Stated (Lowering FunctionId) Listed Cased Caught Classed Membered Conditioned Functioned Methoded Operated Parted Templated TemplateParted
    argument_lowered array_part_lowered arrow_body_lowered element_lowered expression_lowered for_first_lowered for_target_lowered key_lowered link_lowered object_part_lowered parameter_lowered pattern_lowered property_lowered statement_lowered arrow_lowered block_lowered case_lowered catch_lowered class_lowered class_member_lowered condition_lowered function_lowered method_lowered operand_lowered part_lowered template_lowered template_part_lowered

pub case_rolled : (y : Trees Case-F) → case_lowered (roll-Case y) ≡ case_step (in_case y)
unfolding argument_lowered array_part_lowered arrow_body_lowered element_lowered expression_lowered for_first_lowered for_target_lowered key_lowered link_lowered object_part_lowered parameter_lowered pattern_lowered property_lowered statement_lowered arrow_lowered block_lowered case_lowered catch_lowered class_lowered class_member_lowered condition_lowered function_lowered method_lowered operand_lowered part_lowered template_lowered template_part_lowered
case_rolled = fold-roll-Case (Lowering ListPart) ArrayParted Listed (Lowering ListPart) Expressed ForBegun ForTargeted Keyed Linked ObjectParted Parametered Patterned (Lowering ObjectMember) Stated (Lowering FunctionId) Listed Cased Caught Classed Membered Conditioned Functioned Methoded Operated Parted Templated TemplateParted
    argument_step array_part_step arrow_body_step element_step expression_step for_first_step for_target_step key_step link_step object_part_step parameter_step pattern_step property_step statement_step arrow_step block_step case_step catch_step class_step class_member_step condition_step function_step method_step operand_step part_step template_step template_part_step

abbrev pub in_catch : Trees Catch-F → nodes.Layer Catch-F
in_catch = map-Catch Argument ArrayPart ArrowBody Element Expression ForFirst ForTarget Key Link ObjectPart Parameter Pattern Property Statement Arrow Block Case Catch Class ClassMember Condition Function Method Operand Part Template TemplatePart
    (Lowering ListPart) ArrayParted Listed (Lowering ListPart) Expressed ForBegun ForTargeted Keyed Linked ObjectParted Parametered Patterned (Lowering ObjectMember) Stated (Lowering FunctionId) Listed Cased Caught Classed Membered Conditioned Functioned Methoded Operated Parted Templated TemplateParted
    argument_lowered array_part_lowered arrow_body_lowered element_lowered expression_lowered for_first_lowered for_target_lowered key_lowered link_lowered object_part_lowered parameter_lowered pattern_lowered property_lowered statement_lowered arrow_lowered block_lowered case_lowered catch_lowered class_lowered class_member_lowered condition_lowered function_lowered method_lowered operand_lowered part_lowered template_lowered template_part_lowered

pub catch_rolled : (y : Trees Catch-F) → catch_lowered (roll-Catch y) ≡ catch_step (in_catch y)
unfolding argument_lowered array_part_lowered arrow_body_lowered element_lowered expression_lowered for_first_lowered for_target_lowered key_lowered link_lowered object_part_lowered parameter_lowered pattern_lowered property_lowered statement_lowered arrow_lowered block_lowered case_lowered catch_lowered class_lowered class_member_lowered condition_lowered function_lowered method_lowered operand_lowered part_lowered template_lowered template_part_lowered
catch_rolled = fold-roll-Catch (Lowering ListPart) ArrayParted Listed (Lowering ListPart) Expressed ForBegun ForTargeted Keyed Linked ObjectParted Parametered Patterned (Lowering ObjectMember) Stated (Lowering FunctionId) Listed Cased Caught Classed Membered Conditioned Functioned Methoded Operated Parted Templated TemplateParted
    argument_step array_part_step arrow_body_step element_step expression_step for_first_step for_target_step key_step link_step object_part_step parameter_step pattern_step property_step statement_step arrow_step block_step case_step catch_step class_step class_member_step condition_step function_step method_step operand_step part_step template_step template_part_step

abbrev pub in_class : Trees Class-F → nodes.Layer Class-F
in_class = map-Class Argument ArrayPart ArrowBody Element Expression ForFirst ForTarget Key Link ObjectPart Parameter Pattern Property Statement Arrow Block Case Catch Class ClassMember Condition Function Method Operand Part Template TemplatePart
    (Lowering ListPart) ArrayParted Listed (Lowering ListPart) Expressed ForBegun ForTargeted Keyed Linked ObjectParted Parametered Patterned (Lowering ObjectMember) Stated (Lowering FunctionId) Listed Cased Caught Classed Membered Conditioned Functioned Methoded Operated Parted Templated TemplateParted
    argument_lowered array_part_lowered arrow_body_lowered element_lowered expression_lowered for_first_lowered for_target_lowered key_lowered link_lowered object_part_lowered parameter_lowered pattern_lowered property_lowered statement_lowered arrow_lowered block_lowered case_lowered catch_lowered class_lowered class_member_lowered condition_lowered function_lowered method_lowered operand_lowered part_lowered template_lowered template_part_lowered

pub class_rolled : (y : Trees Class-F) → class_lowered (roll-Class y) ≡ class_step (in_class y)
unfolding argument_lowered array_part_lowered arrow_body_lowered element_lowered expression_lowered for_first_lowered for_target_lowered key_lowered link_lowered object_part_lowered parameter_lowered pattern_lowered property_lowered statement_lowered arrow_lowered block_lowered case_lowered catch_lowered class_lowered class_member_lowered condition_lowered function_lowered method_lowered operand_lowered part_lowered template_lowered template_part_lowered
class_rolled = fold-roll-Class (Lowering ListPart) ArrayParted Listed (Lowering ListPart) Expressed ForBegun ForTargeted Keyed Linked ObjectParted Parametered Patterned (Lowering ObjectMember) Stated (Lowering FunctionId) Listed Cased Caught Classed Membered Conditioned Functioned Methoded Operated Parted Templated TemplateParted
    argument_step array_part_step arrow_body_step element_step expression_step for_first_step for_target_step key_step link_step object_part_step parameter_step pattern_step property_step statement_step arrow_step block_step case_step catch_step class_step class_member_step condition_step function_step method_step operand_step part_step template_step template_part_step

abbrev pub in_class_member : Trees ClassMember-F → nodes.Layer ClassMember-F
in_class_member = map-ClassMember Argument ArrayPart ArrowBody Element Expression ForFirst ForTarget Key Link ObjectPart Parameter Pattern Property Statement Arrow Block Case Catch Class ClassMember Condition Function Method Operand Part Template TemplatePart
    (Lowering ListPart) ArrayParted Listed (Lowering ListPart) Expressed ForBegun ForTargeted Keyed Linked ObjectParted Parametered Patterned (Lowering ObjectMember) Stated (Lowering FunctionId) Listed Cased Caught Classed Membered Conditioned Functioned Methoded Operated Parted Templated TemplateParted
    argument_lowered array_part_lowered arrow_body_lowered element_lowered expression_lowered for_first_lowered for_target_lowered key_lowered link_lowered object_part_lowered parameter_lowered pattern_lowered property_lowered statement_lowered arrow_lowered block_lowered case_lowered catch_lowered class_lowered class_member_lowered condition_lowered function_lowered method_lowered operand_lowered part_lowered template_lowered template_part_lowered

pub class_member_rolled : (y : Trees ClassMember-F) → class_member_lowered (roll-ClassMember y) ≡ class_member_step (in_class_member y)
unfolding argument_lowered array_part_lowered arrow_body_lowered element_lowered expression_lowered for_first_lowered for_target_lowered key_lowered link_lowered object_part_lowered parameter_lowered pattern_lowered property_lowered statement_lowered arrow_lowered block_lowered case_lowered catch_lowered class_lowered class_member_lowered condition_lowered function_lowered method_lowered operand_lowered part_lowered template_lowered template_part_lowered
class_member_rolled = fold-roll-ClassMember (Lowering ListPart) ArrayParted Listed (Lowering ListPart) Expressed ForBegun ForTargeted Keyed Linked ObjectParted Parametered Patterned (Lowering ObjectMember) Stated (Lowering FunctionId) Listed Cased Caught Classed Membered Conditioned Functioned Methoded Operated Parted Templated TemplateParted
    argument_step array_part_step arrow_body_step element_step expression_step for_first_step for_target_step key_step link_step object_part_step parameter_step pattern_step property_step statement_step arrow_step block_step case_step catch_step class_step class_member_step condition_step function_step method_step operand_step part_step template_step template_part_step

abbrev pub in_condition : Trees Condition-F → nodes.Layer Condition-F
in_condition = map-Condition Argument ArrayPart ArrowBody Element Expression ForFirst ForTarget Key Link ObjectPart Parameter Pattern Property Statement Arrow Block Case Catch Class ClassMember Condition Function Method Operand Part Template TemplatePart
    (Lowering ListPart) ArrayParted Listed (Lowering ListPart) Expressed ForBegun ForTargeted Keyed Linked ObjectParted Parametered Patterned (Lowering ObjectMember) Stated (Lowering FunctionId) Listed Cased Caught Classed Membered Conditioned Functioned Methoded Operated Parted Templated TemplateParted
    argument_lowered array_part_lowered arrow_body_lowered element_lowered expression_lowered for_first_lowered for_target_lowered key_lowered link_lowered object_part_lowered parameter_lowered pattern_lowered property_lowered statement_lowered arrow_lowered block_lowered case_lowered catch_lowered class_lowered class_member_lowered condition_lowered function_lowered method_lowered operand_lowered part_lowered template_lowered template_part_lowered

pub condition_rolled : (y : Trees Condition-F) → condition_lowered (roll-Condition y) ≡ condition_step (in_condition y)
unfolding argument_lowered array_part_lowered arrow_body_lowered element_lowered expression_lowered for_first_lowered for_target_lowered key_lowered link_lowered object_part_lowered parameter_lowered pattern_lowered property_lowered statement_lowered arrow_lowered block_lowered case_lowered catch_lowered class_lowered class_member_lowered condition_lowered function_lowered method_lowered operand_lowered part_lowered template_lowered template_part_lowered
condition_rolled = fold-roll-Condition (Lowering ListPart) ArrayParted Listed (Lowering ListPart) Expressed ForBegun ForTargeted Keyed Linked ObjectParted Parametered Patterned (Lowering ObjectMember) Stated (Lowering FunctionId) Listed Cased Caught Classed Membered Conditioned Functioned Methoded Operated Parted Templated TemplateParted
    argument_step array_part_step arrow_body_step element_step expression_step for_first_step for_target_step key_step link_step object_part_step parameter_step pattern_step property_step statement_step arrow_step block_step case_step catch_step class_step class_member_step condition_step function_step method_step operand_step part_step template_step template_part_step

abbrev pub in_function : Trees Function-F → nodes.Layer Function-F
in_function = map-Function Argument ArrayPart ArrowBody Element Expression ForFirst ForTarget Key Link ObjectPart Parameter Pattern Property Statement Arrow Block Case Catch Class ClassMember Condition Function Method Operand Part Template TemplatePart
    (Lowering ListPart) ArrayParted Listed (Lowering ListPart) Expressed ForBegun ForTargeted Keyed Linked ObjectParted Parametered Patterned (Lowering ObjectMember) Stated (Lowering FunctionId) Listed Cased Caught Classed Membered Conditioned Functioned Methoded Operated Parted Templated TemplateParted
    argument_lowered array_part_lowered arrow_body_lowered element_lowered expression_lowered for_first_lowered for_target_lowered key_lowered link_lowered object_part_lowered parameter_lowered pattern_lowered property_lowered statement_lowered arrow_lowered block_lowered case_lowered catch_lowered class_lowered class_member_lowered condition_lowered function_lowered method_lowered operand_lowered part_lowered template_lowered template_part_lowered

pub function_rolled : (y : Trees Function-F) → function_lowered (roll-Function y) ≡ function_step (in_function y)
unfolding argument_lowered array_part_lowered arrow_body_lowered element_lowered expression_lowered for_first_lowered for_target_lowered key_lowered link_lowered object_part_lowered parameter_lowered pattern_lowered property_lowered statement_lowered arrow_lowered block_lowered case_lowered catch_lowered class_lowered class_member_lowered condition_lowered function_lowered method_lowered operand_lowered part_lowered template_lowered template_part_lowered
function_rolled = fold-roll-Function (Lowering ListPart) ArrayParted Listed (Lowering ListPart) Expressed ForBegun ForTargeted Keyed Linked ObjectParted Parametered Patterned (Lowering ObjectMember) Stated (Lowering FunctionId) Listed Cased Caught Classed Membered Conditioned Functioned Methoded Operated Parted Templated TemplateParted
    argument_step array_part_step arrow_body_step element_step expression_step for_first_step for_target_step key_step link_step object_part_step parameter_step pattern_step property_step statement_step arrow_step block_step case_step catch_step class_step class_member_step condition_step function_step method_step operand_step part_step template_step template_part_step

abbrev pub in_method : Trees Method-F → nodes.Layer Method-F
in_method = map-Method Argument ArrayPart ArrowBody Element Expression ForFirst ForTarget Key Link ObjectPart Parameter Pattern Property Statement Arrow Block Case Catch Class ClassMember Condition Function Method Operand Part Template TemplatePart
    (Lowering ListPart) ArrayParted Listed (Lowering ListPart) Expressed ForBegun ForTargeted Keyed Linked ObjectParted Parametered Patterned (Lowering ObjectMember) Stated (Lowering FunctionId) Listed Cased Caught Classed Membered Conditioned Functioned Methoded Operated Parted Templated TemplateParted
    argument_lowered array_part_lowered arrow_body_lowered element_lowered expression_lowered for_first_lowered for_target_lowered key_lowered link_lowered object_part_lowered parameter_lowered pattern_lowered property_lowered statement_lowered arrow_lowered block_lowered case_lowered catch_lowered class_lowered class_member_lowered condition_lowered function_lowered method_lowered operand_lowered part_lowered template_lowered template_part_lowered

pub method_rolled : (y : Trees Method-F) → method_lowered (roll-Method y) ≡ method_step (in_method y)
unfolding argument_lowered array_part_lowered arrow_body_lowered element_lowered expression_lowered for_first_lowered for_target_lowered key_lowered link_lowered object_part_lowered parameter_lowered pattern_lowered property_lowered statement_lowered arrow_lowered block_lowered case_lowered catch_lowered class_lowered class_member_lowered condition_lowered function_lowered method_lowered operand_lowered part_lowered template_lowered template_part_lowered
method_rolled = fold-roll-Method (Lowering ListPart) ArrayParted Listed (Lowering ListPart) Expressed ForBegun ForTargeted Keyed Linked ObjectParted Parametered Patterned (Lowering ObjectMember) Stated (Lowering FunctionId) Listed Cased Caught Classed Membered Conditioned Functioned Methoded Operated Parted Templated TemplateParted
    argument_step array_part_step arrow_body_step element_step expression_step for_first_step for_target_step key_step link_step object_part_step parameter_step pattern_step property_step statement_step arrow_step block_step case_step catch_step class_step class_member_step condition_step function_step method_step operand_step part_step template_step template_part_step

abbrev pub in_operand : Trees Operand-F → nodes.Layer Operand-F
in_operand = map-Operand Argument ArrayPart ArrowBody Element Expression ForFirst ForTarget Key Link ObjectPart Parameter Pattern Property Statement Arrow Block Case Catch Class ClassMember Condition Function Method Operand Part Template TemplatePart
    (Lowering ListPart) ArrayParted Listed (Lowering ListPart) Expressed ForBegun ForTargeted Keyed Linked ObjectParted Parametered Patterned (Lowering ObjectMember) Stated (Lowering FunctionId) Listed Cased Caught Classed Membered Conditioned Functioned Methoded Operated Parted Templated TemplateParted
    argument_lowered array_part_lowered arrow_body_lowered element_lowered expression_lowered for_first_lowered for_target_lowered key_lowered link_lowered object_part_lowered parameter_lowered pattern_lowered property_lowered statement_lowered arrow_lowered block_lowered case_lowered catch_lowered class_lowered class_member_lowered condition_lowered function_lowered method_lowered operand_lowered part_lowered template_lowered template_part_lowered

pub operand_rolled : (y : Trees Operand-F) → operand_lowered (roll-Operand y) ≡ operand_step (in_operand y)
unfolding argument_lowered array_part_lowered arrow_body_lowered element_lowered expression_lowered for_first_lowered for_target_lowered key_lowered link_lowered object_part_lowered parameter_lowered pattern_lowered property_lowered statement_lowered arrow_lowered block_lowered case_lowered catch_lowered class_lowered class_member_lowered condition_lowered function_lowered method_lowered operand_lowered part_lowered template_lowered template_part_lowered
operand_rolled = fold-roll-Operand (Lowering ListPart) ArrayParted Listed (Lowering ListPart) Expressed ForBegun ForTargeted Keyed Linked ObjectParted Parametered Patterned (Lowering ObjectMember) Stated (Lowering FunctionId) Listed Cased Caught Classed Membered Conditioned Functioned Methoded Operated Parted Templated TemplateParted
    argument_step array_part_step arrow_body_step element_step expression_step for_first_step for_target_step key_step link_step object_part_step parameter_step pattern_step property_step statement_step arrow_step block_step case_step catch_step class_step class_member_step condition_step function_step method_step operand_step part_step template_step template_part_step

abbrev pub in_part : Trees Part-F → nodes.Layer Part-F
in_part = map-Part Argument ArrayPart ArrowBody Element Expression ForFirst ForTarget Key Link ObjectPart Parameter Pattern Property Statement Arrow Block Case Catch Class ClassMember Condition Function Method Operand Part Template TemplatePart
    (Lowering ListPart) ArrayParted Listed (Lowering ListPart) Expressed ForBegun ForTargeted Keyed Linked ObjectParted Parametered Patterned (Lowering ObjectMember) Stated (Lowering FunctionId) Listed Cased Caught Classed Membered Conditioned Functioned Methoded Operated Parted Templated TemplateParted
    argument_lowered array_part_lowered arrow_body_lowered element_lowered expression_lowered for_first_lowered for_target_lowered key_lowered link_lowered object_part_lowered parameter_lowered pattern_lowered property_lowered statement_lowered arrow_lowered block_lowered case_lowered catch_lowered class_lowered class_member_lowered condition_lowered function_lowered method_lowered operand_lowered part_lowered template_lowered template_part_lowered

pub part_rolled : (y : Trees Part-F) → part_lowered (roll-Part y) ≡ part_step (in_part y)
unfolding argument_lowered array_part_lowered arrow_body_lowered element_lowered expression_lowered for_first_lowered for_target_lowered key_lowered link_lowered object_part_lowered parameter_lowered pattern_lowered property_lowered statement_lowered arrow_lowered block_lowered case_lowered catch_lowered class_lowered class_member_lowered condition_lowered function_lowered method_lowered operand_lowered part_lowered template_lowered template_part_lowered
part_rolled = fold-roll-Part (Lowering ListPart) ArrayParted Listed (Lowering ListPart) Expressed ForBegun ForTargeted Keyed Linked ObjectParted Parametered Patterned (Lowering ObjectMember) Stated (Lowering FunctionId) Listed Cased Caught Classed Membered Conditioned Functioned Methoded Operated Parted Templated TemplateParted
    argument_step array_part_step arrow_body_step element_step expression_step for_first_step for_target_step key_step link_step object_part_step parameter_step pattern_step property_step statement_step arrow_step block_step case_step catch_step class_step class_member_step condition_step function_step method_step operand_step part_step template_step template_part_step

abbrev pub in_template : Trees Template-F → nodes.Layer Template-F
in_template = map-Template Argument ArrayPart ArrowBody Element Expression ForFirst ForTarget Key Link ObjectPart Parameter Pattern Property Statement Arrow Block Case Catch Class ClassMember Condition Function Method Operand Part Template TemplatePart
    (Lowering ListPart) ArrayParted Listed (Lowering ListPart) Expressed ForBegun ForTargeted Keyed Linked ObjectParted Parametered Patterned (Lowering ObjectMember) Stated (Lowering FunctionId) Listed Cased Caught Classed Membered Conditioned Functioned Methoded Operated Parted Templated TemplateParted
    argument_lowered array_part_lowered arrow_body_lowered element_lowered expression_lowered for_first_lowered for_target_lowered key_lowered link_lowered object_part_lowered parameter_lowered pattern_lowered property_lowered statement_lowered arrow_lowered block_lowered case_lowered catch_lowered class_lowered class_member_lowered condition_lowered function_lowered method_lowered operand_lowered part_lowered template_lowered template_part_lowered

pub template_rolled : (y : Trees Template-F) → template_lowered (roll-Template y) ≡ template_step (in_template y)
unfolding argument_lowered array_part_lowered arrow_body_lowered element_lowered expression_lowered for_first_lowered for_target_lowered key_lowered link_lowered object_part_lowered parameter_lowered pattern_lowered property_lowered statement_lowered arrow_lowered block_lowered case_lowered catch_lowered class_lowered class_member_lowered condition_lowered function_lowered method_lowered operand_lowered part_lowered template_lowered template_part_lowered
template_rolled = fold-roll-Template (Lowering ListPart) ArrayParted Listed (Lowering ListPart) Expressed ForBegun ForTargeted Keyed Linked ObjectParted Parametered Patterned (Lowering ObjectMember) Stated (Lowering FunctionId) Listed Cased Caught Classed Membered Conditioned Functioned Methoded Operated Parted Templated TemplateParted
    argument_step array_part_step arrow_body_step element_step expression_step for_first_step for_target_step key_step link_step object_part_step parameter_step pattern_step property_step statement_step arrow_step block_step case_step catch_step class_step class_member_step condition_step function_step method_step operand_step part_step template_step template_part_step

abbrev pub in_template_part : Trees TemplatePart-F → nodes.Layer TemplatePart-F
in_template_part = map-TemplatePart Argument ArrayPart ArrowBody Element Expression ForFirst ForTarget Key Link ObjectPart Parameter Pattern Property Statement Arrow Block Case Catch Class ClassMember Condition Function Method Operand Part Template TemplatePart
    (Lowering ListPart) ArrayParted Listed (Lowering ListPart) Expressed ForBegun ForTargeted Keyed Linked ObjectParted Parametered Patterned (Lowering ObjectMember) Stated (Lowering FunctionId) Listed Cased Caught Classed Membered Conditioned Functioned Methoded Operated Parted Templated TemplateParted
    argument_lowered array_part_lowered arrow_body_lowered element_lowered expression_lowered for_first_lowered for_target_lowered key_lowered link_lowered object_part_lowered parameter_lowered pattern_lowered property_lowered statement_lowered arrow_lowered block_lowered case_lowered catch_lowered class_lowered class_member_lowered condition_lowered function_lowered method_lowered operand_lowered part_lowered template_lowered template_part_lowered

pub template_part_rolled : (y : Trees TemplatePart-F) → template_part_lowered (roll-TemplatePart y) ≡ template_part_step (in_template_part y)
unfolding argument_lowered array_part_lowered arrow_body_lowered element_lowered expression_lowered for_first_lowered for_target_lowered key_lowered link_lowered object_part_lowered parameter_lowered pattern_lowered property_lowered statement_lowered arrow_lowered block_lowered case_lowered catch_lowered class_lowered class_member_lowered condition_lowered function_lowered method_lowered operand_lowered part_lowered template_lowered template_part_lowered
template_part_rolled = fold-roll-TemplatePart (Lowering ListPart) ArrayParted Listed (Lowering ListPart) Expressed ForBegun ForTargeted Keyed Linked ObjectParted Parametered Patterned (Lowering ObjectMember) Stated (Lowering FunctionId) Listed Cased Caught Classed Membered Conditioned Functioned Methoded Operated Parted Templated TemplateParted
    argument_step array_part_step arrow_body_step element_step expression_step for_first_step for_target_step key_step link_step object_part_step parameter_step pattern_step property_step statement_step arrow_step block_step case_step catch_step class_step class_member_step condition_step function_step method_step operand_step part_step template_step template_part_step
