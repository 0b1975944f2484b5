-- What each kind of node becomes, by the steps of the other files.
use Rattle.es6_ast.specs.declared.tree.Argument.{Argument, fold-Argument}
use Rattle.es6_ast.specs.declared.tree.ArrayPart.{ArrayPart, fold-ArrayPart}
use Rattle.es6_ast.specs.declared.tree.ArrowBody.{ArrowBody, fold-ArrowBody}
use Rattle.es6_ast.specs.declared.tree.Element.{Element, fold-Element}
use Rattle.es6_ast.specs.declared.tree.Expression.{Expression, fold-Expression}
use Rattle.es6_ast.specs.declared.tree.ForFirst.{ForFirst, fold-ForFirst}
use Rattle.es6_ast.specs.declared.tree.ForTarget.{ForTarget, fold-ForTarget}
use Rattle.es6_ast.specs.declared.tree.Key.{Key, fold-Key}
use Rattle.es6_ast.specs.declared.tree.Link.{Link, fold-Link}
use Rattle.es6_ast.specs.declared.tree.ObjectPart.{ObjectPart, fold-ObjectPart}
use Rattle.es6_ast.specs.declared.tree.Parameter.{Parameter, fold-Parameter}
use Rattle.es6_ast.specs.declared.tree.Pattern.{Pattern, fold-Pattern}
use Rattle.es6_ast.specs.declared.tree.Property.{Property, fold-Property}
use Rattle.es6_ast.specs.declared.tree.Statement.{Statement, fold-Statement}
use Rattle.es6_ast.specs.declared.tree.Arrow.{Arrow, fold-Arrow}
use Rattle.es6_ast.specs.declared.tree.Block.{Block, fold-Block}
use Rattle.es6_ast.specs.declared.tree.Case.{Case, fold-Case}
use Rattle.es6_ast.specs.declared.tree.Catch.{Catch, fold-Catch}
use Rattle.es6_ast.specs.declared.tree.Class.{Class, fold-Class}
use Rattle.es6_ast.specs.declared.tree.ClassMember.{ClassMember, fold-ClassMember}
use Rattle.es6_ast.specs.declared.tree.Condition.{Condition, fold-Condition}
use Rattle.es6_ast.specs.declared.tree.Function.{Function, fold-Function}
use Rattle.es6_ast.specs.declared.tree.Method.{Method, fold-Method}
use Rattle.es6_ast.specs.declared.tree.Operand.{Operand, fold-Operand}
use Rattle.es6_ast.specs.declared.tree.Part.{Part, fold-Part}
use Rattle.es6_ast.specs.declared.tree.Template.{Template, fold-Template}
use Rattle.es6_ast.specs.declared.tree.TemplatePart.{TemplatePart, fold-TemplatePart}
use Rattle.core_ast.specs.declared.parts.FunctionId.{FunctionId}
use Rattle.lowering_rules.specs.declared.expressions.ListPart.{ListPart}
use Rattle.lowering_rules.specs.declared.reference_rules.objects.ObjectMember.{ObjectMember}
use Rattle.module_lowering.specs.Lowering.{Lowering}
use Rattle.module_lowering.specs.Nodes.{ArrayParted, Cased, Caught, Classed, Conditioned, Expressed, ForBegun, ForTargeted, Functioned, Keyed, Linked, Listed, Membered, Methoded, ObjectParted, Operated, Parametered, Parted, Patterned, Stated, TemplateParted, Templated}
use Rattle.module_lowering.specs.Expressions.{argument_step, element_step, expression_step, link_step, operand_step, template_part_step, template_step}
use Rattle.module_lowering.specs.Patterns.{array_part_step, key_step, object_part_step, part_step, pattern_step, property_step}
use Rattle.module_lowering.specs.Functions.{arrow_body_step, arrow_step, parameter_step}
use Rattle.module_lowering.specs.Classes.{class_member_step, class_step, function_step, method_step}
use Rattle.module_lowering.specs.Statements.{block_step, case_step, catch_step, condition_step, for_first_step, for_target_step, statement_step}

unfoldable pub argument_lowered : Argument → Lowering ListPart
argument_lowered =
    fold-Argument (Lowering ListPart) ArrayParted Listed (Lowering ListPart) Expressed ForBegun ForTargeted Keyed
    Linked ObjectParted Parametered Patterned (Lowering ObjectMember) Stated (Lowering FunctionId) Listed Cased
    Caught Classed Membered Conditioned Functioned Methoded Operated Parted Templated TemplateParted
    argument_step array_part_step arrow_body_step element_step expression_step for_first_step for_target_step
    key_step link_step object_part_step parameter_step pattern_step property_step statement_step arrow_step
    block_step case_step catch_step class_step class_member_step condition_step function_step method_step
    operand_step part_step template_step template_part_step

unfoldable pub array_part_lowered : ArrayPart → ArrayParted
array_part_lowered =
    fold-ArrayPart (Lowering ListPart) ArrayParted Listed (Lowering ListPart) Expressed ForBegun ForTargeted Keyed
    Linked ObjectParted Parametered Patterned (Lowering ObjectMember) Stated (Lowering FunctionId) Listed Cased
    Caught Classed Membered Conditioned Functioned Methoded Operated Parted Templated TemplateParted
    argument_step array_part_step arrow_body_step element_step expression_step for_first_step for_target_step
    key_step link_step object_part_step parameter_step pattern_step property_step statement_step arrow_step
    block_step case_step catch_step class_step class_member_step condition_step function_step method_step
    operand_step part_step template_step template_part_step

unfoldable pub arrow_body_lowered : ArrowBody → Listed
arrow_body_lowered =
    fold-ArrowBody (Lowering ListPart) ArrayParted Listed (Lowering ListPart) Expressed ForBegun ForTargeted Keyed
    Linked ObjectParted Parametered Patterned (Lowering ObjectMember) Stated (Lowering FunctionId) Listed Cased
    Caught Classed Membered Conditioned Functioned Methoded Operated Parted Templated TemplateParted
    argument_step array_part_step arrow_body_step element_step expression_step for_first_step for_target_step
    key_step link_step object_part_step parameter_step pattern_step property_step statement_step arrow_step
    block_step case_step catch_step class_step class_member_step condition_step function_step method_step
    operand_step part_step template_step template_part_step

unfoldable pub element_lowered : Element → Lowering ListPart
element_lowered =
    fold-Element (Lowering ListPart) ArrayParted Listed (Lowering ListPart) Expressed ForBegun ForTargeted Keyed
    Linked ObjectParted Parametered Patterned (Lowering ObjectMember) Stated (Lowering FunctionId) Listed Cased
    Caught Classed Membered Conditioned Functioned Methoded Operated Parted Templated TemplateParted
    argument_step array_part_step arrow_body_step element_step expression_step for_first_step for_target_step
    key_step link_step object_part_step parameter_step pattern_step property_step statement_step arrow_step
    block_step case_step catch_step class_step class_member_step condition_step function_step method_step
    operand_step part_step template_step template_part_step

unfoldable pub expression_lowered : Expression → Expressed
expression_lowered =
    fold-Expression (Lowering ListPart) ArrayParted Listed (Lowering ListPart) Expressed ForBegun ForTargeted Keyed
    Linked ObjectParted Parametered Patterned (Lowering ObjectMember) Stated (Lowering FunctionId) Listed Cased
    Caught Classed Membered Conditioned Functioned Methoded Operated Parted Templated TemplateParted
    argument_step array_part_step arrow_body_step element_step expression_step for_first_step for_target_step
    key_step link_step object_part_step parameter_step pattern_step property_step statement_step arrow_step
    block_step case_step catch_step class_step class_member_step condition_step function_step method_step
    operand_step part_step template_step template_part_step

unfoldable pub for_first_lowered : ForFirst → ForBegun
for_first_lowered =
    fold-ForFirst (Lowering ListPart) ArrayParted Listed (Lowering ListPart) Expressed ForBegun ForTargeted Keyed
    Linked ObjectParted Parametered Patterned (Lowering ObjectMember) Stated (Lowering FunctionId) Listed Cased
    Caught Classed Membered Conditioned Functioned Methoded Operated Parted Templated TemplateParted
    argument_step array_part_step arrow_body_step element_step expression_step for_first_step for_target_step
    key_step link_step object_part_step parameter_step pattern_step property_step statement_step arrow_step
    block_step case_step catch_step class_step class_member_step condition_step function_step method_step
    operand_step part_step template_step template_part_step

unfoldable pub for_target_lowered : ForTarget → ForTargeted
for_target_lowered =
    fold-ForTarget (Lowering ListPart) ArrayParted Listed (Lowering ListPart) Expressed ForBegun ForTargeted Keyed
    Linked ObjectParted Parametered Patterned (Lowering ObjectMember) Stated (Lowering FunctionId) Listed Cased
    Caught Classed Membered Conditioned Functioned Methoded Operated Parted Templated TemplateParted
    argument_step array_part_step arrow_body_step element_step expression_step for_first_step for_target_step
    key_step link_step object_part_step parameter_step pattern_step property_step statement_step arrow_step
    block_step case_step catch_step class_step class_member_step condition_step function_step method_step
    operand_step part_step template_step template_part_step

unfoldable pub key_lowered : Key → Keyed
key_lowered =
    fold-Key (Lowering ListPart) ArrayParted Listed (Lowering ListPart) Expressed ForBegun ForTargeted Keyed Linked
    ObjectParted Parametered Patterned (Lowering ObjectMember) Stated (Lowering FunctionId) Listed Cased Caught
    Classed Membered Conditioned Functioned Methoded Operated Parted Templated TemplateParted
    argument_step array_part_step arrow_body_step element_step expression_step for_first_step for_target_step
    key_step link_step object_part_step parameter_step pattern_step property_step statement_step arrow_step
    block_step case_step catch_step class_step class_member_step condition_step function_step method_step
    operand_step part_step template_step template_part_step

unfoldable pub link_lowered : Link → Linked
link_lowered =
    fold-Link (Lowering ListPart) ArrayParted Listed (Lowering ListPart) Expressed ForBegun ForTargeted Keyed Linked
    ObjectParted Parametered Patterned (Lowering ObjectMember) Stated (Lowering FunctionId) Listed Cased Caught
    Classed Membered Conditioned Functioned Methoded Operated Parted Templated TemplateParted
    argument_step array_part_step arrow_body_step element_step expression_step for_first_step for_target_step
    key_step link_step object_part_step parameter_step pattern_step property_step statement_step arrow_step
    block_step case_step catch_step class_step class_member_step condition_step function_step method_step
    operand_step part_step template_step template_part_step

unfoldable pub object_part_lowered : ObjectPart → ObjectParted
object_part_lowered =
    fold-ObjectPart (Lowering ListPart) ArrayParted Listed (Lowering ListPart) Expressed ForBegun ForTargeted Keyed
    Linked ObjectParted Parametered Patterned (Lowering ObjectMember) Stated (Lowering FunctionId) Listed Cased
    Caught Classed Membered Conditioned Functioned Methoded Operated Parted Templated TemplateParted
    argument_step array_part_step arrow_body_step element_step expression_step for_first_step for_target_step
    key_step link_step object_part_step parameter_step pattern_step property_step statement_step arrow_step
    block_step case_step catch_step class_step class_member_step condition_step function_step method_step
    operand_step part_step template_step template_part_step

unfoldable pub parameter_lowered : Parameter → Parametered
parameter_lowered =
    fold-Parameter (Lowering ListPart) ArrayParted Listed (Lowering ListPart) Expressed ForBegun ForTargeted Keyed
    Linked ObjectParted Parametered Patterned (Lowering ObjectMember) Stated (Lowering FunctionId) Listed Cased
    Caught Classed Membered Conditioned Functioned Methoded Operated Parted Templated TemplateParted
    argument_step array_part_step arrow_body_step element_step expression_step for_first_step for_target_step
    key_step link_step object_part_step parameter_step pattern_step property_step statement_step arrow_step
    block_step case_step catch_step class_step class_member_step condition_step function_step method_step
    operand_step part_step template_step template_part_step

unfoldable pub pattern_lowered : Pattern → Patterned
pattern_lowered =
    fold-Pattern (Lowering ListPart) ArrayParted Listed (Lowering ListPart) Expressed ForBegun ForTargeted Keyed
    Linked ObjectParted Parametered Patterned (Lowering ObjectMember) Stated (Lowering FunctionId) Listed Cased
    Caught Classed Membered Conditioned Functioned Methoded Operated Parted Templated TemplateParted
    argument_step array_part_step arrow_body_step element_step expression_step for_first_step for_target_step
    key_step link_step object_part_step parameter_step pattern_step property_step statement_step arrow_step
    block_step case_step catch_step class_step class_member_step condition_step function_step method_step
    operand_step part_step template_step template_part_step

unfoldable pub property_lowered : Property → Lowering ObjectMember
property_lowered =
    fold-Property (Lowering ListPart) ArrayParted Listed (Lowering ListPart) Expressed ForBegun ForTargeted Keyed
    Linked ObjectParted Parametered Patterned (Lowering ObjectMember) Stated (Lowering FunctionId) Listed Cased
    Caught Classed Membered Conditioned Functioned Methoded Operated Parted Templated TemplateParted
    argument_step array_part_step arrow_body_step element_step expression_step for_first_step for_target_step
    key_step link_step object_part_step parameter_step pattern_step property_step statement_step arrow_step
    block_step case_step catch_step class_step class_member_step condition_step function_step method_step
    operand_step part_step template_step template_part_step

unfoldable pub statement_lowered : Statement → Stated
statement_lowered =
    fold-Statement (Lowering ListPart) ArrayParted Listed (Lowering ListPart) Expressed ForBegun ForTargeted Keyed
    Linked ObjectParted Parametered Patterned (Lowering ObjectMember) Stated (Lowering FunctionId) Listed Cased
    Caught Classed Membered Conditioned Functioned Methoded Operated Parted Templated TemplateParted
    argument_step array_part_step arrow_body_step element_step expression_step for_first_step for_target_step
    key_step link_step object_part_step parameter_step pattern_step property_step statement_step arrow_step
    block_step case_step catch_step class_step class_member_step condition_step function_step method_step
    operand_step part_step template_step template_part_step

unfoldable pub arrow_lowered : Arrow → Lowering FunctionId
arrow_lowered =
    fold-Arrow (Lowering ListPart) ArrayParted Listed (Lowering ListPart) Expressed ForBegun ForTargeted Keyed Linked
    ObjectParted Parametered Patterned (Lowering ObjectMember) Stated (Lowering FunctionId) Listed Cased Caught
    Classed Membered Conditioned Functioned Methoded Operated Parted Templated TemplateParted
    argument_step array_part_step arrow_body_step element_step expression_step for_first_step for_target_step
    key_step link_step object_part_step parameter_step pattern_step property_step statement_step arrow_step
    block_step case_step catch_step class_step class_member_step condition_step function_step method_step
    operand_step part_step template_step template_part_step

unfoldable pub block_lowered : Block → Listed
block_lowered =
    fold-Block (Lowering ListPart) ArrayParted Listed (Lowering ListPart) Expressed ForBegun ForTargeted Keyed Linked
    ObjectParted Parametered Patterned (Lowering ObjectMember) Stated (Lowering FunctionId) Listed Cased Caught
    Classed Membered Conditioned Functioned Methoded Operated Parted Templated TemplateParted
    argument_step array_part_step arrow_body_step element_step expression_step for_first_step for_target_step
    key_step link_step object_part_step parameter_step pattern_step property_step statement_step arrow_step
    block_step case_step catch_step class_step class_member_step condition_step function_step method_step
    operand_step part_step template_step template_part_step

unfoldable pub case_lowered : Case → Cased
case_lowered =
    fold-Case (Lowering ListPart) ArrayParted Listed (Lowering ListPart) Expressed ForBegun ForTargeted Keyed Linked
    ObjectParted Parametered Patterned (Lowering ObjectMember) Stated (Lowering FunctionId) Listed Cased Caught
    Classed Membered Conditioned Functioned Methoded Operated Parted Templated TemplateParted
    argument_step array_part_step arrow_body_step element_step expression_step for_first_step for_target_step
    key_step link_step object_part_step parameter_step pattern_step property_step statement_step arrow_step
    block_step case_step catch_step class_step class_member_step condition_step function_step method_step
    operand_step part_step template_step template_part_step

unfoldable pub catch_lowered : Catch → Caught
catch_lowered =
    fold-Catch (Lowering ListPart) ArrayParted Listed (Lowering ListPart) Expressed ForBegun ForTargeted Keyed Linked
    ObjectParted Parametered Patterned (Lowering ObjectMember) Stated (Lowering FunctionId) Listed Cased Caught
    Classed Membered Conditioned Functioned Methoded Operated Parted Templated TemplateParted
    argument_step array_part_step arrow_body_step element_step expression_step for_first_step for_target_step
    key_step link_step object_part_step parameter_step pattern_step property_step statement_step arrow_step
    block_step case_step catch_step class_step class_member_step condition_step function_step method_step
    operand_step part_step template_step template_part_step

unfoldable pub class_lowered : Class → Classed
class_lowered =
    fold-Class (Lowering ListPart) ArrayParted Listed (Lowering ListPart) Expressed ForBegun ForTargeted Keyed Linked
    ObjectParted Parametered Patterned (Lowering ObjectMember) Stated (Lowering FunctionId) Listed Cased Caught
    Classed Membered Conditioned Functioned Methoded Operated Parted Templated TemplateParted
    argument_step array_part_step arrow_body_step element_step expression_step for_first_step for_target_step
    key_step link_step object_part_step parameter_step pattern_step property_step statement_step arrow_step
    block_step case_step catch_step class_step class_member_step condition_step function_step method_step
    operand_step part_step template_step template_part_step

unfoldable pub class_member_lowered : ClassMember → Membered
class_member_lowered =
    fold-ClassMember (Lowering ListPart) ArrayParted Listed (Lowering ListPart) Expressed ForBegun ForTargeted Keyed
    Linked ObjectParted Parametered Patterned (Lowering ObjectMember) Stated (Lowering FunctionId) Listed Cased
    Caught Classed Membered Conditioned Functioned Methoded Operated Parted Templated TemplateParted
    argument_step array_part_step arrow_body_step element_step expression_step for_first_step for_target_step
    key_step link_step object_part_step parameter_step pattern_step property_step statement_step arrow_step
    block_step case_step catch_step class_step class_member_step condition_step function_step method_step
    operand_step part_step template_step template_part_step

unfoldable pub condition_lowered : Condition → Conditioned
condition_lowered =
    fold-Condition (Lowering ListPart) ArrayParted Listed (Lowering ListPart) Expressed ForBegun ForTargeted Keyed
    Linked ObjectParted Parametered Patterned (Lowering ObjectMember) Stated (Lowering FunctionId) Listed Cased
    Caught Classed Membered Conditioned Functioned Methoded Operated Parted Templated TemplateParted
    argument_step array_part_step arrow_body_step element_step expression_step for_first_step for_target_step
    key_step link_step object_part_step parameter_step pattern_step property_step statement_step arrow_step
    block_step case_step catch_step class_step class_member_step condition_step function_step method_step
    operand_step part_step template_step template_part_step

unfoldable pub function_lowered : Function → Functioned
function_lowered =
    fold-Function (Lowering ListPart) ArrayParted Listed (Lowering ListPart) Expressed ForBegun ForTargeted Keyed
    Linked ObjectParted Parametered Patterned (Lowering ObjectMember) Stated (Lowering FunctionId) Listed Cased
    Caught Classed Membered Conditioned Functioned Methoded Operated Parted Templated TemplateParted
    argument_step array_part_step arrow_body_step element_step expression_step for_first_step for_target_step
    key_step link_step object_part_step parameter_step pattern_step property_step statement_step arrow_step
    block_step case_step catch_step class_step class_member_step condition_step function_step method_step
    operand_step part_step template_step template_part_step

unfoldable pub method_lowered : Method → Methoded
method_lowered =
    fold-Method (Lowering ListPart) ArrayParted Listed (Lowering ListPart) Expressed ForBegun ForTargeted Keyed
    Linked ObjectParted Parametered Patterned (Lowering ObjectMember) Stated (Lowering FunctionId) Listed Cased
    Caught Classed Membered Conditioned Functioned Methoded Operated Parted Templated TemplateParted
    argument_step array_part_step arrow_body_step element_step expression_step for_first_step for_target_step
    key_step link_step object_part_step parameter_step pattern_step property_step statement_step arrow_step
    block_step case_step catch_step class_step class_member_step condition_step function_step method_step
    operand_step part_step template_step template_part_step

unfoldable pub operand_lowered : Operand → Operated
operand_lowered =
    fold-Operand (Lowering ListPart) ArrayParted Listed (Lowering ListPart) Expressed ForBegun ForTargeted Keyed
    Linked ObjectParted Parametered Patterned (Lowering ObjectMember) Stated (Lowering FunctionId) Listed Cased
    Caught Classed Membered Conditioned Functioned Methoded Operated Parted Templated TemplateParted
    argument_step array_part_step arrow_body_step element_step expression_step for_first_step for_target_step
    key_step link_step object_part_step parameter_step pattern_step property_step statement_step arrow_step
    block_step case_step catch_step class_step class_member_step condition_step function_step method_step
    operand_step part_step template_step template_part_step

unfoldable pub part_lowered : Part → Parted
part_lowered =
    fold-Part (Lowering ListPart) ArrayParted Listed (Lowering ListPart) Expressed ForBegun ForTargeted Keyed Linked
    ObjectParted Parametered Patterned (Lowering ObjectMember) Stated (Lowering FunctionId) Listed Cased Caught
    Classed Membered Conditioned Functioned Methoded Operated Parted Templated TemplateParted
    argument_step array_part_step arrow_body_step element_step expression_step for_first_step for_target_step
    key_step link_step object_part_step parameter_step pattern_step property_step statement_step arrow_step
    block_step case_step catch_step class_step class_member_step condition_step function_step method_step
    operand_step part_step template_step template_part_step

unfoldable pub template_lowered : Template → Templated
template_lowered =
    fold-Template (Lowering ListPart) ArrayParted Listed (Lowering ListPart) Expressed ForBegun ForTargeted Keyed
    Linked ObjectParted Parametered Patterned (Lowering ObjectMember) Stated (Lowering FunctionId) Listed Cased
    Caught Classed Membered Conditioned Functioned Methoded Operated Parted Templated TemplateParted
    argument_step array_part_step arrow_body_step element_step expression_step for_first_step for_target_step
    key_step link_step object_part_step parameter_step pattern_step property_step statement_step arrow_step
    block_step case_step catch_step class_step class_member_step condition_step function_step method_step
    operand_step part_step template_step template_part_step

unfoldable pub template_part_lowered : TemplatePart → TemplateParted
template_part_lowered =
    fold-TemplatePart (Lowering ListPart) ArrayParted Listed (Lowering ListPart) Expressed ForBegun ForTargeted Keyed
    Linked ObjectParted Parametered Patterned (Lowering ObjectMember) Stated (Lowering FunctionId) Listed Cased
    Caught Classed Membered Conditioned Functioned Methoded Operated Parted Templated TemplateParted
    argument_step array_part_step arrow_body_step element_step expression_step for_first_step for_target_step
    key_step link_step object_part_step parameter_step pattern_step property_step statement_step arrow_step
    block_step case_step catch_step class_step class_member_step condition_step function_step method_step
    operand_step part_step template_step template_part_step
