-- How many of the spans of constructs in a tree lie round a place: in it, and, for what may be a construct of its own, with it.
use Rattle.std.proofs.Common.{◌≡◌, ℕ, ◌+◌, Bool, true, false, List, [], ◌∷◌, ◌++◌, map, Option, Some, None, refl, arith}
use Rattle.std.specs.Prelude.{count_by, cond}
use Rattle.std.proofs.lemmas.List.Recursion.{is_count_by}
use Rattle.es_text.specs.declared.Span.{Span}
use Rattle.es6_ast.specs.declared.tree.Argument.{Argument, fold-Argument}
use Rattle.es6_ast.specs.declared.tree.ArrayPart.{ArrayPart, fold-ArrayPart}
use Rattle.es6_ast.specs.declared.tree.ArrowBody.{ArrowBody, fold-ArrowBody}
use Rattle.es6_ast.specs.declared.tree.Element.{Element, fold-Element}
use Rattle.es6_ast.specs.declared.tree.Expression.{Expression, fold-Expression}
use Rattle.es6_ast.specs.declared.tree.ForFirst.{ForFirst, fold-ForFirst}
use Rattle.es6_ast.specs.declared.tree.ForTarget.{ForTarget, fold-ForTarget}
use Rattle.es6_ast.specs.declared.tree.Key.{Key, fold-Key}
use Rattle.es6_ast.specs.declared.tree.Link.{Link, fold-Link}
use Rattle.es6_ast.specs.declared.tree.ObjectPart.{ObjectPart, fold-ObjectPart}
use Rattle.es6_ast.specs.declared.tree.Parameter.{Parameter, fold-Parameter}
use Rattle.es6_ast.specs.declared.tree.Pattern.{Pattern, fold-Pattern}
use Rattle.es6_ast.specs.declared.tree.Property.{Property, fold-Property}
use Rattle.es6_ast.specs.declared.tree.Statement.{Statement, fold-Statement}
use Rattle.es6_ast.specs.declared.tree.Arrow.{Arrow, fold-Arrow}
use Rattle.es6_ast.specs.declared.tree.Block.{Block, fold-Block}
use Rattle.es6_ast.specs.declared.tree.Case.{Case, fold-Case}
use Rattle.es6_ast.specs.declared.tree.Catch.{Catch, fold-Catch}
use Rattle.es6_ast.specs.declared.tree.Class.{Class, fold-Class}
use Rattle.es6_ast.specs.declared.tree.ClassMember.{ClassMember, fold-ClassMember}
use Rattle.es6_ast.specs.declared.tree.Condition.{Condition, fold-Condition}
use Rattle.es6_ast.specs.declared.tree.Function.{Function, fold-Function}
use Rattle.es6_ast.specs.declared.tree.Method.{Method, fold-Method}
use Rattle.es6_ast.specs.declared.tree.Operand.{Operand, fold-Operand}
use Rattle.es6_ast.specs.declared.tree.Part.{Part, fold-Part}
use Rattle.es6_ast.specs.declared.tree.Template.{Template, fold-Template}
use Rattle.es6_ast.specs.declared.tree.TemplatePart.{TemplatePart, fold-TemplatePart}
use Rattle.es6_ast.specs.Depth.{Spanned, counted, maybe, joined, all_of, is_around, argument_step, array_part_step, arrow_body_step, element_step, expression_step, for_first_step, for_target_step, key_step, link_step, object_part_step, parameter_step, pattern_step, property_step, statement_step, arrow_step, block_step, case_step, catch_step, class_step, class_member_step, condition_step, function_step, method_step, operand_step, part_step, template_step, template_part_step}

abbrev pub one : Span → ℕ → ℕ
one span at = cond (is_around at span) 1 0

-- how many of the spans lie round the place
abbrev pub around : List Span → ℕ → ℕ
around [] at = 0
around (span ∷ xs) at = one span at + around xs at

pub around-is : (xs : List Span) (at : ℕ) → around xs at ≡ count_by (is_around at) xs
around-is xs at = is_count_by (λ ys. around ys at) (is_around at) refl (λ span ys. one-more (is_around at span) (around ys at)) xs
  where
    one-more : (b : Bool) (n : ℕ) → cond b 1 0 + n ≡ cond b (1 + n) n
    one-more true n = refl
    one-more false n = omega arith

-- ## What the parts of a tree give

abbrev pub spans_argument : Argument → List Span
spans_argument =
    fold-Argument (List Span) (List Span) Spanned (List Span) Spanned (List Span) (List Span) (List Span) (List Span) (List Span) (List Span) (List Span) (List Span) Spanned Spanned Spanned (List Span) (List Span) Spanned (List Span) (List Span) Spanned (List Span) (List Span) (List Span) Spanned (List Span)
    argument_step array_part_step arrow_body_step element_step expression_step for_first_step for_target_step key_step link_step object_part_step parameter_step pattern_step property_step statement_step arrow_step block_step case_step catch_step class_step class_member_step condition_step function_step method_step operand_step part_step template_step template_part_step

abbrev pub spans_array_part : ArrayPart → List Span
spans_array_part =
    fold-ArrayPart (List Span) (List Span) Spanned (List Span) Spanned (List Span) (List Span) (List Span) (List Span) (List Span) (List Span) (List Span) (List Span) Spanned Spanned Spanned (List Span) (List Span) Spanned (List Span) (List Span) Spanned (List Span) (List Span) (List Span) Spanned (List Span)
    argument_step array_part_step arrow_body_step element_step expression_step for_first_step for_target_step key_step link_step object_part_step parameter_step pattern_step property_step statement_step arrow_step block_step case_step catch_step class_step class_member_step condition_step function_step method_step operand_step part_step template_step template_part_step

abbrev pub spans_arrow_body : ArrowBody → Spanned
spans_arrow_body =
    fold-ArrowBody (List Span) (List Span) Spanned (List Span) Spanned (List Span) (List Span) (List Span) (List Span) (List Span) (List Span) (List Span) (List Span) Spanned Spanned Spanned (List Span) (List Span) Spanned (List Span) (List Span) Spanned (List Span) (List Span) (List Span) Spanned (List Span)
    argument_step array_part_step arrow_body_step element_step expression_step for_first_step for_target_step key_step link_step object_part_step parameter_step pattern_step property_step statement_step arrow_step block_step case_step catch_step class_step class_member_step condition_step function_step method_step operand_step part_step template_step template_part_step

abbrev pub spans_element : Element → List Span
spans_element =
    fold-Element (List Span) (List Span) Spanned (List Span) Spanned (List Span) (List Span) (List Span) (List Span) (List Span) (List Span) (List Span) (List Span) Spanned Spanned Spanned (List Span) (List Span) Spanned (List Span) (List Span) Spanned (List Span) (List Span) (List Span) Spanned (List Span)
    argument_step array_part_step arrow_body_step element_step expression_step for_first_step for_target_step key_step link_step object_part_step parameter_step pattern_step property_step statement_step arrow_step block_step case_step catch_step class_step class_member_step condition_step function_step method_step operand_step part_step template_step template_part_step

abbrev pub spans_expression : Expression → Spanned
spans_expression =
    fold-Expression (List Span) (List Span) Spanned (List Span) Spanned (List Span) (List Span) (List Span) (List Span) (List Span) (List Span) (List Span) (List Span) Spanned Spanned Spanned (List Span) (List Span) Spanned (List Span) (List Span) Spanned (List Span) (List Span) (List Span) Spanned (List Span)
    argument_step array_part_step arrow_body_step element_step expression_step for_first_step for_target_step key_step link_step object_part_step parameter_step pattern_step property_step statement_step arrow_step block_step case_step catch_step class_step class_member_step condition_step function_step method_step operand_step part_step template_step template_part_step

abbrev pub spans_for_first : ForFirst → List Span
spans_for_first =
    fold-ForFirst (List Span) (List Span) Spanned (List Span) Spanned (List Span) (List Span) (List Span) (List Span) (List Span) (List Span) (List Span) (List Span) Spanned Spanned Spanned (List Span) (List Span) Spanned (List Span) (List Span) Spanned (List Span) (List Span) (List Span) Spanned (List Span)
    argument_step array_part_step arrow_body_step element_step expression_step for_first_step for_target_step key_step link_step object_part_step parameter_step pattern_step property_step statement_step arrow_step block_step case_step catch_step class_step class_member_step condition_step function_step method_step operand_step part_step template_step template_part_step

abbrev pub spans_for_target : ForTarget → List Span
spans_for_target =
    fold-ForTarget (List Span) (List Span) Spanned (List Span) Spanned (List Span) (List Span) (List Span) (List Span) (List Span) (List Span) (List Span) (List Span) Spanned Spanned Spanned (List Span) (List Span) Spanned (List Span) (List Span) Spanned (List Span) (List Span) (List Span) Spanned (List Span)
    argument_step array_part_step arrow_body_step element_step expression_step for_first_step for_target_step key_step link_step object_part_step parameter_step pattern_step property_step statement_step arrow_step block_step case_step catch_step class_step class_member_step condition_step function_step method_step operand_step part_step template_step template_part_step

abbrev pub spans_key : Key → List Span
spans_key =
    fold-Key (List Span) (List Span) Spanned (List Span) Spanned (List Span) (List Span) (List Span) (List Span) (List Span) (List Span) (List Span) (List Span) Spanned Spanned Spanned (List Span) (List Span) Spanned (List Span) (List Span) Spanned (List Span) (List Span) (List Span) Spanned (List Span)
    argument_step array_part_step arrow_body_step element_step expression_step for_first_step for_target_step key_step link_step object_part_step parameter_step pattern_step property_step statement_step arrow_step block_step case_step catch_step class_step class_member_step condition_step function_step method_step operand_step part_step template_step template_part_step

abbrev pub spans_link : Link → List Span
spans_link =
    fold-Link (List Span) (List Span) Spanned (List Span) Spanned (List Span) (List Span) (List Span) (List Span) (List Span) (List Span) (List Span) (List Span) Spanned Spanned Spanned (List Span) (List Span) Spanned (List Span) (List Span) Spanned (List Span) (List Span) (List Span) Spanned (List Span)
    argument_step array_part_step arrow_body_step element_step expression_step for_first_step for_target_step key_step link_step object_part_step parameter_step pattern_step property_step statement_step arrow_step block_step case_step catch_step class_step class_member_step condition_step function_step method_step operand_step part_step template_step template_part_step

abbrev pub spans_object_part : ObjectPart → List Span
spans_object_part =
    fold-ObjectPart (List Span) (List Span) Spanned (List Span) Spanned (List Span) (List Span) (List Span) (List Span) (List Span) (List Span) (List Span) (List Span) Spanned Spanned Spanned (List Span) (List Span) Spanned (List Span) (List Span) Spanned (List Span) (List Span) (List Span) Spanned (List Span)
    argument_step array_part_step arrow_body_step element_step expression_step for_first_step for_target_step key_step link_step object_part_step parameter_step pattern_step property_step statement_step arrow_step block_step case_step catch_step class_step class_member_step condition_step function_step method_step operand_step part_step template_step template_part_step

abbrev pub spans_parameter : Parameter → List Span
spans_parameter =
    fold-Parameter (List Span) (List Span) Spanned (List Span) Spanned (List Span) (List Span) (List Span) (List Span) (List Span) (List Span) (List Span) (List Span) Spanned Spanned Spanned (List Span) (List Span) Spanned (List Span) (List Span) Spanned (List Span) (List Span) (List Span) Spanned (List Span)
    argument_step array_part_step arrow_body_step element_step expression_step for_first_step for_target_step key_step link_step object_part_step parameter_step pattern_step property_step statement_step arrow_step block_step case_step catch_step class_step class_member_step condition_step function_step method_step operand_step part_step template_step template_part_step

abbrev pub spans_pattern : Pattern → List Span
spans_pattern =
    fold-Pattern (List Span) (List Span) Spanned (List Span) Spanned (List Span) (List Span) (List Span) (List Span) (List Span) (List Span) (List Span) (List Span) Spanned Spanned Spanned (List Span) (List Span) Spanned (List Span) (List Span) Spanned (List Span) (List Span) (List Span) Spanned (List Span)
    argument_step array_part_step arrow_body_step element_step expression_step for_first_step for_target_step key_step link_step object_part_step parameter_step pattern_step property_step statement_step arrow_step block_step case_step catch_step class_step class_member_step condition_step function_step method_step operand_step part_step template_step template_part_step

abbrev pub spans_property : Property → List Span
spans_property =
    fold-Property (List Span) (List Span) Spanned (List Span) Spanned (List Span) (List Span) (List Span) (List Span) (List Span) (List Span) (List Span) (List Span) Spanned Spanned Spanned (List Span) (List Span) Spanned (List Span) (List Span) Spanned (List Span) (List Span) (List Span) Spanned (List Span)
    argument_step array_part_step arrow_body_step element_step expression_step for_first_step for_target_step key_step link_step object_part_step parameter_step pattern_step property_step statement_step arrow_step block_step case_step catch_step class_step class_member_step condition_step function_step method_step operand_step part_step template_step template_part_step

abbrev pub spans_statement : Statement → Spanned
spans_statement =
    fold-Statement (List Span) (List Span) Spanned (List Span) Spanned (List Span) (List Span) (List Span) (List Span) (List Span) (List Span) (List Span) (List Span) Spanned Spanned Spanned (List Span) (List Span) Spanned (List Span) (List Span) Spanned (List Span) (List Span) (List Span) Spanned (List Span)
    argument_step array_part_step arrow_body_step element_step expression_step for_first_step for_target_step key_step link_step object_part_step parameter_step pattern_step property_step statement_step arrow_step block_step case_step catch_step class_step class_member_step condition_step function_step method_step operand_step part_step template_step template_part_step

abbrev pub spans_arrow : Arrow → Spanned
spans_arrow =
    fold-Arrow (List Span) (List Span) Spanned (List Span) Spanned (List Span) (List Span) (List Span) (List Span) (List Span) (List Span) (List Span) (List Span) Spanned Spanned Spanned (List Span) (List Span) Spanned (List Span) (List Span) Spanned (List Span) (List Span) (List Span) Spanned (List Span)
    argument_step array_part_step arrow_body_step element_step expression_step for_first_step for_target_step key_step link_step object_part_step parameter_step pattern_step property_step statement_step arrow_step block_step case_step catch_step class_step class_member_step condition_step function_step method_step operand_step part_step template_step template_part_step

abbrev pub spans_block : Block → Spanned
spans_block =
    fold-Block (List Span) (List Span) Spanned (List Span) Spanned (List Span) (List Span) (List Span) (List Span) (List Span) (List Span) (List Span) (List Span) Spanned Spanned Spanned (List Span) (List Span) Spanned (List Span) (List Span) Spanned (List Span) (List Span) (List Span) Spanned (List Span)
    argument_step array_part_step arrow_body_step element_step expression_step for_first_step for_target_step key_step link_step object_part_step parameter_step pattern_step property_step statement_step arrow_step block_step case_step catch_step class_step class_member_step condition_step function_step method_step operand_step part_step template_step template_part_step

abbrev pub spans_case : Case → List Span
spans_case =
    fold-Case (List Span) (List Span) Spanned (List Span) Spanned (List Span) (List Span) (List Span) (List Span) (List Span) (List Span) (List Span) (List Span) Spanned Spanned Spanned (List Span) (List Span) Spanned (List Span) (List Span) Spanned (List Span) (List Span) (List Span) Spanned (List Span)
    argument_step array_part_step arrow_body_step element_step expression_step for_first_step for_target_step key_step link_step object_part_step parameter_step pattern_step property_step statement_step arrow_step block_step case_step catch_step class_step class_member_step condition_step function_step method_step operand_step part_step template_step template_part_step

abbrev pub spans_catch : Catch → List Span
spans_catch =
    fold-Catch (List Span) (List Span) Spanned (List Span) Spanned (List Span) (List Span) (List Span) (List Span) (List Span) (List Span) (List Span) (List Span) Spanned Spanned Spanned (List Span) (List Span) Spanned (List Span) (List Span) Spanned (List Span) (List Span) (List Span) Spanned (List Span)
    argument_step array_part_step arrow_body_step element_step expression_step for_first_step for_target_step key_step link_step object_part_step parameter_step pattern_step property_step statement_step arrow_step block_step case_step catch_step class_step class_member_step condition_step function_step method_step operand_step part_step template_step template_part_step

abbrev pub spans_class : Class → Spanned
spans_class =
    fold-Class (List Span) (List Span) Spanned (List Span) Spanned (List Span) (List Span) (List Span) (List Span) (List Span) (List Span) (List Span) (List Span) Spanned Spanned Spanned (List Span) (List Span) Spanned (List Span) (List Span) Spanned (List Span) (List Span) (List Span) Spanned (List Span)
    argument_step array_part_step arrow_body_step element_step expression_step for_first_step for_target_step key_step link_step object_part_step parameter_step pattern_step property_step statement_step arrow_step block_step case_step catch_step class_step class_member_step condition_step function_step method_step operand_step part_step template_step template_part_step

abbrev pub spans_class_member : ClassMember → List Span
spans_class_member =
    fold-ClassMember (List Span) (List Span) Spanned (List Span) Spanned (List Span) (List Span) (List Span) (List Span) (List Span) (List Span) (List Span) (List Span) Spanned Spanned Spanned (List Span) (List Span) Spanned (List Span) (List Span) Spanned (List Span) (List Span) (List Span) Spanned (List Span)
    argument_step array_part_step arrow_body_step element_step expression_step for_first_step for_target_step key_step link_step object_part_step parameter_step pattern_step property_step statement_step arrow_step block_step case_step catch_step class_step class_member_step condition_step function_step method_step operand_step part_step template_step template_part_step

abbrev pub spans_condition : Condition → List Span
spans_condition =
    fold-Condition (List Span) (List Span) Spanned (List Span) Spanned (List Span) (List Span) (List Span) (List Span) (List Span) (List Span) (List Span) (List Span) Spanned Spanned Spanned (List Span) (List Span) Spanned (List Span) (List Span) Spanned (List Span) (List Span) (List Span) Spanned (List Span)
    argument_step array_part_step arrow_body_step element_step expression_step for_first_step for_target_step key_step link_step object_part_step parameter_step pattern_step property_step statement_step arrow_step block_step case_step catch_step class_step class_member_step condition_step function_step method_step operand_step part_step template_step template_part_step

abbrev pub spans_function : Function → Spanned
spans_function =
    fold-Function (List Span) (List Span) Spanned (List Span) Spanned (List Span) (List Span) (List Span) (List Span) (List Span) (List Span) (List Span) (List Span) Spanned Spanned Spanned (List Span) (List Span) Spanned (List Span) (List Span) Spanned (List Span) (List Span) (List Span) Spanned (List Span)
    argument_step array_part_step arrow_body_step element_step expression_step for_first_step for_target_step key_step link_step object_part_step parameter_step pattern_step property_step statement_step arrow_step block_step case_step catch_step class_step class_member_step condition_step function_step method_step operand_step part_step template_step template_part_step

abbrev pub spans_method : Method → List Span
spans_method =
    fold-Method (List Span) (List Span) Spanned (List Span) Spanned (List Span) (List Span) (List Span) (List Span) (List Span) (List Span) (List Span) (List Span) Spanned Spanned Spanned (List Span) (List Span) Spanned (List Span) (List Span) Spanned (List Span) (List Span) (List Span) Spanned (List Span)
    argument_step array_part_step arrow_body_step element_step expression_step for_first_step for_target_step key_step link_step object_part_step parameter_step pattern_step property_step statement_step arrow_step block_step case_step catch_step class_step class_member_step condition_step function_step method_step operand_step part_step template_step template_part_step

abbrev pub spans_operand : Operand → List Span
spans_operand =
    fold-Operand (List Span) (List Span) Spanned (List Span) Spanned (List Span) (List Span) (List Span) (List Span) (List Span) (List Span) (List Span) (List Span) Spanned Spanned Spanned (List Span) (List Span) Spanned (List Span) (List Span) Spanned (List Span) (List Span) (List Span) Spanned (List Span)
    argument_step array_part_step arrow_body_step element_step expression_step for_first_step for_target_step key_step link_step object_part_step parameter_step pattern_step property_step statement_step arrow_step block_step case_step catch_step class_step class_member_step condition_step function_step method_step operand_step part_step template_step template_part_step

abbrev pub spans_part : Part → List Span
spans_part =
    fold-Part (List Span) (List Span) Spanned (List Span) Spanned (List Span) (List Span) (List Span) (List Span) (List Span) (List Span) (List Span) (List Span) Spanned Spanned Spanned (List Span) (List Span) Spanned (List Span) (List Span) Spanned (List Span) (List Span) (List Span) Spanned (List Span)
    argument_step array_part_step arrow_body_step element_step expression_step for_first_step for_target_step key_step link_step object_part_step parameter_step pattern_step property_step statement_step arrow_step block_step case_step catch_step class_step class_member_step condition_step function_step method_step operand_step part_step template_step template_part_step

abbrev pub spans_template : Template → Spanned
spans_template =
    fold-Template (List Span) (List Span) Spanned (List Span) Spanned (List Span) (List Span) (List Span) (List Span) (List Span) (List Span) (List Span) (List Span) Spanned Spanned Spanned (List Span) (List Span) Spanned (List Span) (List Span) Spanned (List Span) (List Span) (List Span) Spanned (List Span)
    argument_step array_part_step arrow_body_step element_step expression_step for_first_step for_target_step key_step link_step object_part_step parameter_step pattern_step property_step statement_step arrow_step block_step case_step catch_step class_step class_member_step condition_step function_step method_step operand_step part_step template_step template_part_step

abbrev pub spans_template_part : TemplatePart → List Span
spans_template_part =
    fold-TemplatePart (List Span) (List Span) Spanned (List Span) Spanned (List Span) (List Span) (List Span) (List Span) (List Span) (List Span) (List Span) (List Span) Spanned Spanned Spanned (List Span) (List Span) Spanned (List Span) (List Span) Spanned (List Span) (List Span) (List Span) Spanned (List Span)
    argument_step array_part_step arrow_body_step element_step expression_step for_first_step for_target_step key_step link_step object_part_step parameter_step pattern_step property_step statement_step arrow_step block_step case_step catch_step class_step class_member_step condition_step function_step method_step operand_step part_step template_step template_part_step

abbrev pub in_argument : Argument → ℕ → ℕ
in_argument x at = around (spans_argument x) at

abbrev pub in_array_part : ArrayPart → ℕ → ℕ
in_array_part x at = around (spans_array_part x) at

abbrev pub in_arrow_body : ArrowBody → ℕ → ℕ
in_arrow_body x at = around (spans_arrow_body x).inner at

abbrev pub with_arrow_body : ArrowBody → ℕ → ℕ
with_arrow_body x at = one (spans_arrow_body x).span at + in_arrow_body x at

abbrev pub in_element : Element → ℕ → ℕ
in_element x at = around (spans_element x) at

abbrev pub in_expression : Expression → ℕ → ℕ
in_expression x at = around (spans_expression x).inner at

abbrev pub with_expression : Expression → ℕ → ℕ
with_expression x at = one (spans_expression x).span at + in_expression x at

abbrev pub in_for_first : ForFirst → ℕ → ℕ
in_for_first x at = around (spans_for_first x) at

abbrev pub in_for_target : ForTarget → ℕ → ℕ
in_for_target x at = around (spans_for_target x) at

abbrev pub in_key : Key → ℕ → ℕ
in_key x at = around (spans_key x) at

abbrev pub in_link : Link → ℕ → ℕ
in_link x at = around (spans_link x) at

abbrev pub in_object_part : ObjectPart → ℕ → ℕ
in_object_part x at = around (spans_object_part x) at

abbrev pub in_parameter : Parameter → ℕ → ℕ
in_parameter x at = around (spans_parameter x) at

abbrev pub in_pattern : Pattern → ℕ → ℕ
in_pattern x at = around (spans_pattern x) at

abbrev pub in_property : Property → ℕ → ℕ
in_property x at = around (spans_property x) at

abbrev pub in_statement : Statement → ℕ → ℕ
in_statement x at = around (spans_statement x).inner at

abbrev pub with_statement : Statement → ℕ → ℕ
with_statement x at = one (spans_statement x).span at + in_statement x at

abbrev pub in_arrow : Arrow → ℕ → ℕ
in_arrow x at = around (spans_arrow x).inner at

abbrev pub with_arrow : Arrow → ℕ → ℕ
with_arrow x at = one (spans_arrow x).span at + in_arrow x at

abbrev pub in_block : Block → ℕ → ℕ
in_block x at = around (spans_block x).inner at

abbrev pub with_block : Block → ℕ → ℕ
with_block x at = one (spans_block x).span at + in_block x at

abbrev pub in_case : Case → ℕ → ℕ
in_case x at = around (spans_case x) at

abbrev pub in_catch : Catch → ℕ → ℕ
in_catch x at = around (spans_catch x) at

abbrev pub in_class : Class → ℕ → ℕ
in_class x at = around (spans_class x).inner at

abbrev pub with_class : Class → ℕ → ℕ
with_class x at = one (spans_class x).span at + in_class x at

abbrev pub in_class_member : ClassMember → ℕ → ℕ
in_class_member x at = around (spans_class_member x) at

abbrev pub in_condition : Condition → ℕ → ℕ
in_condition x at = around (spans_condition x) at

abbrev pub in_function : Function → ℕ → ℕ
in_function x at = around (spans_function x).inner at

abbrev pub with_function : Function → ℕ → ℕ
with_function x at = one (spans_function x).span at + in_function x at

abbrev pub in_method : Method → ℕ → ℕ
in_method x at = around (spans_method x) at

abbrev pub in_operand : Operand → ℕ → ℕ
in_operand x at = around (spans_operand x) at

abbrev pub in_part : Part → ℕ → ℕ
in_part x at = around (spans_part x) at

abbrev pub in_template : Template → ℕ → ℕ
in_template x at = around (spans_template x).inner at

abbrev pub with_template : Template → ℕ → ℕ
with_template x at = one (spans_template x).span at + in_template x at

abbrev pub in_template_part : TemplatePart → ℕ → ℕ
in_template_part x at = around (spans_template_part x) at

abbrev pub sum_of : {A : Type 0} → (A → ℕ → ℕ) → List A → ℕ → ℕ
sum_of f [] at = 0
sum_of f (x ∷ xs) at = f x at + sum_of f xs at

abbrev pub in_some : {A : Type 0} → (A → ℕ → ℕ) → Option A → ℕ → ℕ
in_some f None at = 0
in_some f (Some x) at = f x at

abbrev pub mapped : {A B : Type 0} → (A → B) → Option A → Option B
mapped f None = None
mapped f (Some x) = Some (f x)

pub around-append : (xs ys : List Span) (at : ℕ) → around (xs ++ ys) at ≡ around xs at + around ys at
around-append [] ys at = omega arith
around-append (span ∷ xs) ys at = omega (arith, around-append xs ys at)

pub plus : (at : ℕ) (xs ys : List Span) {m n : ℕ} → around xs at ≡ m → around ys at ≡ n → around (xs ++ ys) at ≡ m + n
plus at xs ys {m = m} {n = n} d e = omega (arith, around-append xs ys at, d, e)

pub all-in : {A : Type 0} (at : ℕ) (f : A → List Span) (xs : List A) → around (all_of (map f xs)) at ≡ sum_of (λ x. around (f x)) xs at
all-in at f [] = refl
all-in at f (x ∷ xs) = plus at (f x) _ refl (all-in at f xs)

pub joined-in : {A : Type 0} (at : ℕ) (f : A → Spanned) (xs : List A) → around (joined (λ y. y.inner) (map f xs)) at ≡ sum_of (λ x. around (f x).inner) xs at
joined-in at f [] = refl
joined-in at f (x ∷ xs) = plus at (f x).inner _ refl (joined-in at f xs)

pub maybe-with : {A : Type 0} (at : ℕ) (f : A → Spanned) (o : Option A) → around (maybe counted (mapped f o)) at ≡ in_some (λ x k. one (f x).span k + around (f x).inner k) o at
maybe-with at f None = refl
maybe-with at f (Some x) = refl

pub maybe-in : {A : Type 0} (at : ℕ) (f : A → Spanned) (o : Option A) → around (maybe (λ y. y.inner) (mapped f o)) at ≡ in_some (λ x. around (f x).inner) o at
maybe-in at f None = refl
maybe-in at f (Some x) = refl

pub maybe-all : {A : Type 0} (at : ℕ) (f : A → List Span) (o : Option A) → around (maybe (λ y. y) (mapped f o)) at ≡ in_some (λ x. around (f x)) o at
maybe-all at f None = refl
maybe-all at f (Some x) = refl
