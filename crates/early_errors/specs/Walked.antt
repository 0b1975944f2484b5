-- What is round a place as the walk has it, a walk after it has met pairs, and parts that are met one after another.
use Rattle.std.specs.Option.{option_map}
use Rattle.std.specs.Prelude.{◌≡◌, ◌++◌, List, map}
use Rattle.es6_ast.specs.declared.tree.Argument.{Argument}
use Rattle.es6_ast.specs.declared.tree.ArrayPart.{ArrayPart}
use Rattle.es6_ast.specs.declared.tree.ArrowBody.{ArrowBody}
use Rattle.es6_ast.specs.declared.tree.Element.{Element}
use Rattle.es6_ast.specs.declared.tree.Expression.{Expression}
use Rattle.es6_ast.specs.declared.tree.ForFirst.{ForFirst}
use Rattle.es6_ast.specs.declared.tree.ForTarget.{ForTarget}
use Rattle.es6_ast.specs.declared.tree.Key.{Key}
use Rattle.es6_ast.specs.declared.tree.Link.{Link}
use Rattle.es6_ast.specs.declared.tree.ObjectPart.{ObjectPart}
use Rattle.es6_ast.specs.declared.tree.Parameter.{Parameter}
use Rattle.es6_ast.specs.declared.tree.Pattern.{Pattern}
use Rattle.es6_ast.specs.declared.tree.Property.{Property}
use Rattle.es6_ast.specs.declared.tree.Statement.{Statement, out-Statement}
use Rattle.es6_ast.specs.declared.tree.Arrow.{Arrow}
use Rattle.es6_ast.specs.declared.tree.Block.{Block}
use Rattle.es6_ast.specs.declared.tree.Case.{Case}
use Rattle.es6_ast.specs.declared.tree.Catch.{Catch}
use Rattle.es6_ast.specs.declared.tree.Class.{Class}
use Rattle.es6_ast.specs.declared.tree.ClassMember.{ClassMember}
use Rattle.es6_ast.specs.declared.tree.Condition.{Condition}
use Rattle.es6_ast.specs.declared.tree.Function.{Function}
use Rattle.es6_ast.specs.declared.tree.Method.{Method}
use Rattle.es6_ast.specs.declared.tree.Operand.{Operand}
use Rattle.es6_ast.specs.declared.tree.Part.{Part}
use Rattle.es6_ast.specs.declared.tree.Template.{Template}
use Rattle.es6_ast.specs.declared.tree.TemplatePart.{TemplatePart}
use Rattle.es6_ast.specs.declared.tree.Argument.TheOpen as layer
use Rattle.es6_ast.specs.declared.tree.Argument.TheOpen.{Statement-F}
use Rattle.early_findings.specs.Pairs.{least_with}
use Rattle.es6_static_semantics.specs.Findings.{Pair, joined, maybe}
use Rattle.es6_static_semantics.specs.Early.{Around, CaseFound, Inside, Label, Outer, Rights, block_found, by_rights, case_found, catch_found, expression_found, for_first_found, for_target_found, nothing, statement_found, statements_pairs, under_loop, under_switch}
use Rattle.early_errors.specs.declared.place.Place.{Place}
use Rattle.early_errors.specs.declared.walk.Walk.{Walk}

abbrev pub rights_at : Place → Rights
rights_at p = record { super_call = p.super_call; super_property = p.super_property; new_target = p.new_target; in_parameters = p.in_parameters }

-- with the labels round the place
abbrev pub around : Place → List Label → Around
around p labels = record { rights = rights_at p; labels = labels; in_loop = p.in_loop; in_switch = p.in_switch }

abbrev pub met : List Pair → Walk → Walk
met pairs w = record w { finder = least_with w.finder pairs }

-- the pairs of a part on which the rights at its place bear alone, and of one on which all bears that is round it
abbrev pub meets_inside : Inside → Place → Walk → Walk
meets_inside pairs p w = met (pairs (rights_at p)) w

abbrev pub meets : Outer → Place → Walk → Walk
meets pairs p w = met (pairs (around p w.labels)) w

-- The invariants of loops: what is left to meet.
abbrev pub MeetingInside : Inside → Inside → Place → Walk → Walk → Type 0
MeetingInside rest all p now initial = record { least : least_with now.finder (rest (rights_at p)) ≡ least_with initial.finder (all (rights_at p)); labels : now.labels ≡ initial.labels }

abbrev pub Meeting : Outer → Outer → Place → Walk → Walk → Type 0
Meeting rest all p now initial = record { least : least_with now.finder (rest (around p initial.labels)) ≡ least_with initial.finder (all (around p initial.labels)); labels : now.labels ≡ initial.labels }

-- a clause of a switch
unfoldable pub clause_pairs : CaseFound → Outer
clause_pairs c r = c.test r.rights ++ statements_pairs c.body (under_switch r)

abbrev pub clauses_pairs : List Case → Outer
clauses_pairs cases r = joined (λ c. clause_pairs c r) (map case_found cases)

-- the pairs of the parts of a statement of many parts
abbrev pub parts_in : Statement-F Argument ArrayPart ArrowBody Element Expression ForFirst ForTarget Key Link ObjectPart Parameter Pattern Property Statement Arrow Block Case Catch Class ClassMember Condition Function Method Operand Part Template TemplatePart → Outer
parts_in (layer.For span first test update body) = λ r. (for_first_found first).pairs r.rights ++ maybe (λ x. x.pairs r.rights) (option_map expression_found test) ++ maybe (λ x. x.pairs r.rights) (option_map expression_found update) ++ (statement_found body).pairs (under_loop r)
parts_in (layer.ForOf span target subject body) = λ r. (for_target_found target).pairs r.rights ++ (expression_found subject).pairs r.rights ++ (statement_found body).pairs (under_loop r)
parts_in (layer.Switch span subject cases) = λ r. (expression_found subject).pairs r.rights ++ clauses_pairs cases r
parts_in (layer.Try span block handler last) = λ r. statements_pairs (block_found block) r ++ maybe (λ h. h.pairs r) (option_map catch_found handler) ++ maybe (λ b. statements_pairs b r) (option_map block_found last)
parts_in _ = by_rights nothing

abbrev pub statement_parts : Statement → Outer
statement_parts s = parts_in (out-Statement s)
