-- What the nodes that are structs give, by their fields.
use Rattle.std.proofs.Common.{◌≡◌, ◌∙◌, Bool, List, ap, ◌∷◌, ◌++◌, map, true, false, is_some, refl, rules}
use Rattle.std.specs.Option.{option_map}
use Rattle.es6_ast.specs.declared.tree.Argument.TheFolds.{the_lemmas}
use Rattle.es6_ast.specs.declared.tree.Arrow.{Arrow, out-Arrow, fold_out-Arrow}
use Rattle.es6_ast.specs.declared.tree.Block.{Block, out-Block, fold_out-Block}
use Rattle.es6_ast.specs.declared.tree.Case.{Case, out-Case, fold_out-Case}
use Rattle.es6_ast.specs.declared.tree.Catch.{Catch, out-Catch, fold_out-Catch}
use Rattle.es6_ast.specs.declared.tree.Class.{Class, out-Class, fold_out-Class}
use Rattle.es6_ast.specs.declared.tree.ClassMember.{ClassMember, out-ClassMember, fold_out-ClassMember}
use Rattle.es6_ast.specs.declared.tree.Condition.{Condition, out-Condition, fold_out-Condition}
use Rattle.es6_ast.specs.declared.tree.Function.{Function, out-Function, fold_out-Function}
use Rattle.es6_ast.specs.declared.tree.Method.{Method, out-Method, fold_out-Method}
use Rattle.es6_ast.specs.declared.tree.Operand.{Operand, out-Operand, fold_out-Operand}
use Rattle.es6_ast.specs.declared.tree.Part.{Part, out-Part, fold_out-Part}
use Rattle.es6_ast.specs.declared.tree.Template.{Template, out-Template, fold_out-Template}
use Rattle.es6_ast.specs.declared.tree.TemplatePart.{TemplatePart, out-TemplatePart, fold_out-TemplatePart}
use Rattle.es6_static_semantics.specs.Findings.{Pair, joined, maybe}
use Rattle.es6_static_semantics.specs.Early.{Around, Inside, Outer, Rights, arrow_body_found, arrow_found, block_found, body_pairs, bound, case_found, catch_found, class_found, class_member_found, condition_found, expression_found, function_found, key_found, members_pairs, method_found, operand_found, parameter_found, parameters_pairs, part_found, pattern_found, rights_of_function, some_name, statement_found, statements_pairs, template_found, template_part_found, with_parameters}

pub template_out : (x : Template) → (template_found x).pairs ≡ (λ r. joined (λ p. p r) (map template_part_found (out-Template x).rest))
template_out x = rw fold_out-Template

pub template_part_out : (x : TemplatePart) → template_part_found x ≡ (expression_found (out-TemplatePart x).value).pairs
template_part_out x = rw fold_out-TemplatePart

pub operand_out : (x : Operand) → operand_found x ≡ (expression_found (out-Operand x).value).pairs
operand_out x = rw fold_out-Operand

pub method_out : (x : Method) (super_call : Bool) → (method_found x).pairs super_call ≡ (λ r. (key_found (out-Method x).key).pairs r ++ (function_found (out-Method x).function).pairs (rights_of_function super_call true))
method_out x super_call = rw fold_out-Method

pub part_out : (x : Part) (binds : Bool) (r : Rights) → (part_found x).pairs binds r ≡ (pattern_found (out-Part x).pattern).pairs binds r ++ maybe (λ y. y.pairs r) (option_map expression_found (out-Part x).default)
part_out x binds r = search (rules, the_lemmas)

pub function_out : (x : Function) → (function_found x).pairs ≡ (λ r. joined bound (some_name (out-Function x).name) ++ parameters_pairs (map parameter_found (out-Function x).parameters) (with_parameters (out-Function x).is_generator r) ++ body_pairs (map parameter_found (out-Function x).parameters) (map statement_found (out-Function x).body) r)
function_out x = rw fold_out-Function

pub arrow_out : (x : Arrow) → (arrow_found x).pairs ≡ (λ r. parameters_pairs (map parameter_found (out-Arrow x).parameters) (with_parameters true r) ++ (arrow_body_found (out-Arrow x).body).pairs (map parameter_found (out-Arrow x).parameters) (with_parameters false r))
arrow_out x = rw fold_out-Arrow

pub block_out : (x : Block) → block_found x ≡ map statement_found (out-Block x).statements
block_out x = rw fold_out-Block

pub class_out : (x : Class) (r : Rights) → (class_found x).pairs r ≡ joined bound (some_name (out-Class x).name) ++ maybe (λ h. h.pairs r) (option_map expression_found (out-Class x).heritage) ++ members_pairs (is_some (out-Class x).heritage) false (map class_member_found (out-Class x).members) r
class_out x r = search (rules, the_lemmas)

pub is_static_out : (x : ClassMember) → (class_member_found x).is_static ≡ (out-ClassMember x).is_static
is_static_out x = rw fold_out-ClassMember

pub method_of_out : (x : ClassMember) → (class_member_found x).method ≡ method_found (out-ClassMember x).method
method_of_out x = rw fold_out-ClassMember

pub kind_out : (x : Method) → (method_found x).kind ≡ (out-Method x).kind
kind_out x = rw fold_out-Method

pub key_out : (x : Method) → (method_found x).key ≡ key_found (out-Method x).key
key_out x = rw fold_out-Method

pub condition_out : (x : Condition) → (condition_found x).pairs ≡ (λ r. (expression_found (out-Condition x).test).pairs r.rights ++ (statement_found (out-Condition x).body).pairs r)
condition_out x = rw fold_out-Condition

pub catch_out : (x : Catch) → (catch_found x).pairs ≡ (λ r. (pattern_found (out-Catch x).parameter).pairs true r.rights ++ statements_pairs (block_found (out-Catch x).body) r)
catch_out x = rw fold_out-Catch

pub case_test_out : (x : Case) (r : Rights) → (case_found x).test r ≡ maybe (λ y. y.pairs r) (option_map expression_found (out-Case x).test)
case_test_out x r = search (rules, the_lemmas)

pub case_body_out : (x : Case) → (case_found x).body ≡ map statement_found (out-Case x).body
case_body_out x = rw fold_out-Case

-- a member of a class
pub ruleset members_out = (is_static_out, method_of_out, kind_out, key_out)
