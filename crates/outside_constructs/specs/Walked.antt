-- A walk after it has met pairs, and as it enters a scope and leaves it again.
use Rattle.std.specs.Option.{option_map}
use Rattle.std.specs.Prelude.{◌≡◌, ℕ, ◌-◌, ◌++◌, List, drop, length, map, true}
use Rattle.early_findings.specs.Pairs.{least_with}
use Rattle.es6_ast.specs.declared.tree.Argument.{Argument}
use Rattle.es6_ast.specs.declared.tree.ArrayPart.{ArrayPart}
use Rattle.es6_ast.specs.declared.tree.ArrowBody.{ArrowBody, out-ArrowBody}
use Rattle.es6_ast.specs.declared.tree.Element.{Element}
use Rattle.es6_ast.specs.declared.tree.Expression.{Expression}
use Rattle.es6_ast.specs.declared.tree.ForFirst.{ForFirst}
use Rattle.es6_ast.specs.declared.tree.ForTarget.{ForTarget}
use Rattle.es6_ast.specs.declared.tree.Key.{Key}
use Rattle.es6_ast.specs.declared.tree.Link.{Link}
use Rattle.es6_ast.specs.declared.tree.ObjectPart.{ObjectPart}
use Rattle.es6_ast.specs.declared.tree.Parameter.{Parameter}
use Rattle.es6_ast.specs.declared.tree.Pattern.{Pattern}
use Rattle.es6_ast.specs.declared.tree.Property.{Property}
use Rattle.es6_ast.specs.declared.tree.Statement.{Statement, out-Statement}
use Rattle.es6_ast.specs.declared.tree.Arrow.{Arrow, out-Arrow}
use Rattle.es6_ast.specs.declared.tree.Block.{Block, out-Block}
use Rattle.es6_ast.specs.declared.tree.Case.{Case}
use Rattle.es6_ast.specs.declared.tree.Catch.{Catch}
use Rattle.es6_ast.specs.declared.tree.Class.{Class}
use Rattle.es6_ast.specs.declared.tree.ClassMember.{ClassMember}
use Rattle.es6_ast.specs.declared.tree.Condition.{Condition}
use Rattle.es6_ast.specs.declared.tree.Function.{Function}
use Rattle.es6_ast.specs.declared.tree.Method.{Method}
use Rattle.es6_ast.specs.declared.tree.Operand.{Operand}
use Rattle.es6_ast.specs.declared.tree.Part.{Part}
use Rattle.es6_ast.specs.declared.tree.Template.{Template}
use Rattle.es6_ast.specs.declared.tree.TemplatePart.{TemplatePart}
use Rattle.es6_ast.specs.declared.tree.Argument.TheOpen as layer
use Rattle.es6_ast.specs.declared.tree.Argument.TheOpen.{ArrowBody-F, Statement-F}
use Rattle.es6_ast.specs.declared.tree.Identifier.{Identifier}
use Rattle.es6_static_semantics.specs.Findings.{joined, maybe}
use Rattle.es6_static_semantics.specs.Outside.{BodyFound, Inside, StatementFound, block_found, block_names, block_pairs, body_names, case_found, catch_found, declaring, expression_found, for_first_found, for_target_found, nothing, parameter_found, parts_names, parts_pairs, statement_found, statements_pairs}
use Rattle.outside_constructs.specs.declared.walk.Walk.{Walk}

abbrev pub meets : Inside → Walk → Walk
meets pairs w = record w { finder = least_with w.finder (pairs w.environment) }

-- in a scope that declares these names
abbrev pub entered : List Identifier → Walk → Walk
entered names w = record w { environment = declaring names w.environment }

-- where so many names are declared again
abbrev pub left : ℕ → Walk → Walk
left mark w = record w { environment = record w.environment { known = drop (length w.environment.known - mark) w.environment.known } }

-- a body in the scope round its function's own names
abbrev pub inside_body : BodyFound → Inside
inside_body body scope = body.pairs (declaring body.names scope)

abbrev pub statements_body : List StatementFound → BodyFound
statements_body ss = record { names = body_names ss; pairs = statements_pairs ss }

-- the statements of all clauses of a switch
unfoldable pub cases_statements : List Case → List StatementFound
cases_statements cases = joined (λ c. c.body) (map case_found cases)

-- the clauses of a switch in the scope round it
abbrev pub cases_pairs : List Case → Inside
cases_pairs cases scope =
    let ss = cases_statements cases in
    joined (λ c. c.test (declaring (block_names ss) scope)) (map case_found cases) ++ block_pairs ss scope

-- the body of an arrow in the scope of its parameters
abbrev pub arrow_body_in : ArrowBody-F Argument ArrayPart ArrowBody Element Expression ForFirst ForTarget Key Link ObjectPart Parameter Pattern Property Statement Arrow Block Case Catch Class ClassMember Condition Function Method Operand Part Template TemplatePart → Inside
arrow_body_in (layer.ValueBody x) = (expression_found x).pairs
arrow_body_in (layer.BlockBody x) = inside_body (statements_body (map statement_found (out-Block x).statements))

abbrev pub arrow_body_parts : ArrowBody → Inside
arrow_body_parts x = arrow_body_in (out-ArrowBody x)

-- the parameters and the body of an arrow in the scope that its parameters declare
abbrev pub arrow_parts : Arrow → Inside
arrow_parts x scope =
    let ps = map parameter_found (out-Arrow x).parameters in
    let inside = declaring (parts_names ps) scope in
    parts_pairs true ps inside ++ arrow_body_parts (out-Arrow x).body inside

-- the invariant of a loop: what is left to meet, in the scope in which the loop began
abbrev pub Meeting : Inside → Inside → Walk → Walk → Type 0
Meeting rest all now initial = record { least : least_with now.finder (rest initial.environment) ≡ least_with initial.finder (all initial.environment); environment : now.environment ≡ initial.environment }

-- The pairs of the parts of a statement of many parts: of a loop's, in the scope that its head declares.
abbrev pub parts_in : Statement-F Argument ArrayPart ArrowBody Element Expression ForFirst ForTarget Key Link ObjectPart Parameter Pattern Property Statement Arrow Block Case Catch Class ClassMember Condition Function Method Operand Part Template TemplatePart → Inside
parts_in (layer.For span first test update body) = λ scope. (for_first_found first).pairs scope ++ maybe (λ x. x.pairs scope) (option_map expression_found test) ++ maybe (λ x. x.pairs scope) (option_map expression_found update) ++ (statement_found body).pairs scope
parts_in (layer.ForOf span target subject body) = λ scope. (for_target_found target).pairs scope ++ (expression_found subject).pairs scope ++ (statement_found body).pairs scope
parts_in (layer.Switch span subject cases) = λ scope. (expression_found subject).pairs scope ++ cases_pairs cases scope
parts_in (layer.Try span block handler last) = λ scope. block_pairs (block_found block) scope ++ maybe (λ h. h.pairs scope) (option_map catch_found handler) ++ maybe (λ b. block_pairs b scope) (option_map block_found last)
parts_in _ = nothing

abbrev pub statement_parts : Statement → Inside
statement_parts s = parts_in (out-Statement s)
