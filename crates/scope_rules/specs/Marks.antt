-- What a module says of scopes and names, as a list of marks in text order (ECMA-262, 6th edition, 8.1, 13 to 15): where scopes,
-- loops and heads begin and end, which names are declared, and which are referred to.
use Rattle.std.specs.Prelude.{ℕ, Bool, true, false, ◌||◌, List, [], ◌∷◌, ◌++◌, codes, map, Option, Some, None, is_some}
use Rattle.std.specs.List.{list_any}
use Rattle.es_text.specs.declared.Span.{Span}
use Rattle.es6_ast.specs.declared.operators.VariableKind.{VariableKind}
use Rattle.es6_ast.specs.declared.operators.VariableKind.TheVariants as variable
use Rattle.es6_ast.specs.declared.tree.Identifier.{Identifier}
use Rattle.es6_ast.specs.declared.tree.Argument.{Argument, fold-Argument}
use Rattle.es6_ast.specs.declared.tree.ArrayPart.{ArrayPart, fold-ArrayPart}
use Rattle.es6_ast.specs.declared.tree.ArrowBody.{ArrowBody, fold-ArrowBody}
use Rattle.es6_ast.specs.declared.tree.Element.{Element, fold-Element}
use Rattle.es6_ast.specs.declared.tree.Expression.{Expression, fold-Expression}
use Rattle.es6_ast.specs.declared.tree.ForFirst.{ForFirst, fold-ForFirst}
use Rattle.es6_ast.specs.declared.tree.ForTarget.{ForTarget, fold-ForTarget}
use Rattle.es6_ast.specs.declared.tree.Key.{Key, fold-Key}
use Rattle.es6_ast.specs.declared.tree.Link.{Link, fold-Link}
use Rattle.es6_ast.specs.declared.tree.ObjectPart.{ObjectPart, fold-ObjectPart}
use Rattle.es6_ast.specs.declared.tree.Parameter.{Parameter, fold-Parameter}
use Rattle.es6_ast.specs.declared.tree.Pattern.{Pattern, fold-Pattern}
use Rattle.es6_ast.specs.declared.tree.Property.{Property, fold-Property}
use Rattle.es6_ast.specs.declared.tree.Statement.{Statement, fold-Statement}
use Rattle.es6_ast.specs.declared.tree.Arrow.{Arrow, fold-Arrow}
use Rattle.es6_ast.specs.declared.tree.Block.{Block, fold-Block}
use Rattle.es6_ast.specs.declared.tree.Case.{Case, fold-Case}
use Rattle.es6_ast.specs.declared.tree.Catch.{Catch, fold-Catch}
use Rattle.es6_ast.specs.declared.tree.Class.{Class, fold-Class}
use Rattle.es6_ast.specs.declared.tree.ClassMember.{ClassMember, fold-ClassMember}
use Rattle.es6_ast.specs.declared.tree.Condition.{Condition, fold-Condition}
use Rattle.es6_ast.specs.declared.tree.Function.{Function, fold-Function}
use Rattle.es6_ast.specs.declared.tree.Method.{Method, fold-Method}
use Rattle.es6_ast.specs.declared.tree.Operand.{Operand, fold-Operand}
use Rattle.es6_ast.specs.declared.tree.Part.{Part, fold-Part}
use Rattle.es6_ast.specs.declared.tree.Template.{Template, fold-Template}
use Rattle.es6_ast.specs.declared.tree.TemplatePart.{TemplatePart, fold-TemplatePart}
use Rattle.es6_ast.specs.declared.tree.Argument.TheOpen as layer
use Rattle.es6_ast.specs.declared.tree.Argument.TheOpen.{Argument-F, ArrayPart-F, ArrowBody-F, Element-F, Expression-F, ForFirst-F, ForTarget-F, Key-F, Link-F, ObjectPart-F, Parameter-F, Pattern-F, Property-F, Statement-F, Arrow-F, Block-F, Case-F, Catch-F, Class-F, ClassMember-F, Condition-F, Function-F, Method-F, Operand-F, Part-F, Template-F, TemplatePart-F}
use Rattle.es6_ast.specs.declared.module.Module.{Module}
use Rattle.es6_ast.specs.declared.module.Item.{Item}
use Rattle.es6_ast.specs.declared.module.Item.TheVariants as item
use Rattle.es6_ast.specs.declared.module.ImportedNames.{ImportedNames}
use Rattle.es6_ast.specs.declared.module.DefaultExport.{DefaultExport}
use Rattle.es6_ast.specs.declared.module.DefaultExport.TheVariants.{DefaultFunction, DefaultClass, DefaultValue}
use Rattle.es6_static_semantics.specs.Findings.{joined, maybe}
use Rattle.es6_static_semantics.specs.Outside.{is_host, more_names, some_name}
use Rattle.scope_rules.specs.declared.mark.Mark.{Mark}
use Rattle.scope_rules.specs.declared.mark.Mark.TheVariants.{ScopeBegins, ScopeEnds, LoopBegins, LoopEnds, HeadBegins, HeadEnds, Declares, Refers}
use Rattle.scope_rules.specs.declared.kinds.ScopeKind.{ScopeKind}
use Rattle.scope_rules.specs.declared.kinds.ScopeKind.TheVariants as scope
use Rattle.scope_rules.specs.declared.kinds.Kind.{Kind}
use Rattle.scope_rules.specs.declared.kinds.Kind.TheVariants as kind
use Rattle.scope_rules.specs.declared.kinds.Role.{Role}
use Rattle.scope_rules.specs.declared.kinds.Role.TheVariants.{Assigned, Declared}

-- What each node gives. An expression: the name that it is, in parentheses too, and its marks.
pub record ExpressionMarked : Type 0 where
  pub name : Option Identifier
  pub marks : List Mark

-- A pattern or a part of one: whether an expression stands in it (14.1.5), where it ends as a declarator, and its marks by
-- whether something is assigned or names are declared.
pub record TargetsMarked : Type 0 where
  pub has_expression : Bool
  pub end : ℕ
  pub marks : Role → List Mark

pub record KeyMarked : Type 0 where
  pub is_computed : Bool
  pub marks : List Mark

pub record BlockMarked : Type 0 where
  pub begin : ℕ
  pub inner : List Mark

-- what follows an arrow
pub record BodyMarked : Type 0 where
  pub marks : List Mark

-- a function or a class: its name, where it begins and ends, and its marks but for the name
pub record FunctionMarked : Type 0 where
  pub name : Option Identifier
  pub end : ℕ
  pub marks : List Mark

pub record ClassMarked : Type 0 where
  pub name : Option Identifier
  pub end : ℕ
  pub marks : List Mark

abbrev pub value : List Mark → ExpressionMarked
value marks = record { name = None; marks = marks }

abbrev pub declares : Kind → ℕ → Identifier → Mark
declares k end x = Declares k x.name x.span.begin end

-- the name that is a target, where it is declared
abbrev pub declared_name : Kind → ℕ → Option Identifier → List Mark
declared_name k end x = map (declares k end) (some_name x)

abbrev pub in_scope : ScopeKind → ℕ → List Mark → List Mark
in_scope k begin marks = ScopeBegins k begin ∷ marks ++ ScopeEnds ∷ []

abbrev pub in_loop : List Mark → List Mark
in_loop marks = LoopBegins ∷ marks ++ LoopEnds ∷ []

-- what stands where not all names of the scope round it have their values: parameters, and the subject of a for-of
abbrev pub in_head : List Mark → List Mark
in_head marks = HeadBegins ∷ marks ++ HeadEnds ∷ []

abbrev pub kind_of : VariableKind → Kind
kind_of variable.Var = kind.Variable
kind_of variable.Let = kind.Let
kind_of variable.Const = kind.Constant

-- declarators, each of which ends where it ends
abbrev pub declarators : Kind → List TargetsMarked → List Mark
declarators k parts = joined (λ p. p.marks (Declared k p.end)) parts

abbrev pub parts_marks : Role → List TargetsMarked → List Mark
parts_marks role parts = joined (λ p. p.marks role) parts

abbrev pub have_expression : List TargetsMarked → Bool
have_expression parts = list_any (λ p. p.has_expression) parts

-- A body has a scope of its own where an expression stands among the parameters (9.2.12, steps 27 and 28), else the
-- parameters' one.
abbrev pub body_scope : Bool → ℕ → List Mark → List Mark
body_scope true end marks = in_scope scope.Body end marks
body_scope false end marks = marks

-- a function: what it declares besides, its parameters and its body (9.2.12)
abbrev pub function_scope : Span → List Mark → List TargetsMarked → List Mark → List Mark
function_scope span own parameters body = in_scope scope.Function span.begin (own ++ in_head (declarators kind.Parameter parameters) ++ body_scope (have_expression parameters) span.end body)

-- every function but an arrow has `arguments` (9.2.12, steps 15 to 18)
abbrev pub arguments_mark : ℕ → Mark
arguments_mark begin = Declares kind.Arguments (codes "arguments") begin begin

-- a function or a class whose name is declared round it alone (14.1.20, 14.5.14)
abbrev pub own_scope : Kind → ℕ → Option Identifier → List Mark → List Mark
own_scope k end None marks = marks
own_scope k end (Some x) marks = in_scope scope.Block x.span.begin (declares k end x ∷ marks)

abbrev pub class_marks : ClassMarked → List Mark
class_marks c = own_scope kind.OwnClass c.end c.name c.marks

abbrev pub block_marks : BlockMarked → List Mark
block_marks b = in_scope scope.Block b.begin b.inner

abbrev pub Layer : (Type 0 → Type 0 → Type 0 → Type 0 → Type 0 → Type 0 → Type 0 → Type 0 → Type 0 → Type 0 → Type 0 → Type 0 → Type 0 → Type 0 → Type 0 → Type 0 → Type 0 → Type 0 → Type 0 → Type 0 → Type 0 → Type 0 → Type 0 → Type 0 → Type 0 → Type 0 → Type 0 → Type 0) → Type 0
Layer Of = Of (List Mark) TargetsMarked BodyMarked (List Mark) ExpressionMarked (List Mark) (List Mark) KeyMarked (List Mark) TargetsMarked TargetsMarked TargetsMarked (List Mark) (List Mark) (List Mark) BlockMarked (List Mark) (List Mark) ClassMarked (List Mark) (List Mark) FunctionMarked (List Mark) (List Mark) TargetsMarked (List Mark) (List Mark)

abbrev pub argument_step : Layer Argument-F → List Mark
argument_step (layer.Single x) = x.marks
argument_step (layer.Spread span x) = x.marks

abbrev pub array_part_step : Layer ArrayPart-F → TargetsMarked
array_part_step layer.SkippedPart = record { has_expression = false; end = 0; marks = λ role. [] }
array_part_step (layer.SinglePart x) = x
array_part_step (layer.RestPart span x) = x

abbrev pub arrow_body_step : Layer ArrowBody-F → BodyMarked
arrow_body_step (layer.ValueBody x) = record { marks = x.marks }
arrow_body_step (layer.BlockBody b) = record { marks = b.inner }

abbrev pub element_step : Layer Element-F → List Mark
element_step layer.Hole = []
element_step (layer.Present x) = x

abbrev pub expression_step : Layer Expression-F → ExpressionMarked
expression_step (layer.This span) = value []
expression_step (layer.Name span name) = record { name = Some (record { span = span; name = name }); marks = Refers name span.begin ∷ [] }
expression_step (layer.Literal span x) = value []
expression_step (layer.Template x) = value x
expression_step (layer.ArrayList span elements comma) = value (joined (λ e. e) elements)
expression_step (layer.ObjectList span properties) = value (joined (λ p. p) properties)
expression_step (layer.Function f) = value (own_scope kind.OwnFunction f.end f.name f.marks)
expression_step (layer.Arrow x) = value x
expression_step (layer.Class c) = value (class_marks c)
expression_step (layer.Chain span head links) = value (head.marks ++ joined (λ l. l) links)
expression_step (layer.SuperMember span name) = value []
expression_step (layer.SuperIndex span index) = value index.marks
expression_step (layer.SuperCall span arguments) = value (joined (λ a. a) arguments)
expression_step (layer.NewTarget span) = value []
expression_step (layer.New span callee arguments) = value (callee.marks ++ joined (λ a. a) arguments)
expression_step (layer.Update span operator x) = value x.marks
expression_step (layer.Unary span operator x) = value x.marks
expression_step (layer.Power span base exponent) = value (base.marks ++ exponent.marks)
expression_step (layer.Binary span first rest) = value (first.marks ++ joined (λ o. o) rest)
expression_step (layer.Conditional span test yes_ no_) = value (test.marks ++ yes_.marks ++ no_.marks)
expression_step (layer.Assign span operator target x) = value (target.marks Assigned ++ x.marks)
expression_step (layer.Sequence span first rest) = value (first.marks ++ joined (λ x. x.marks) rest)
expression_step (layer.Yield span x) = value (maybe (λ y. y.marks) x)
expression_step (layer.Delegate span x) = value x.marks
expression_step (layer.Group span held) = held
expression_step (layer.Cover span held rest) = value (maybe (λ x. x.marks) held)

abbrev pub for_first_step : Layer ForFirst-F → List Mark
for_first_step layer.NoFirst = []
for_first_step (layer.FirstVariables span k parts) = declarators (kind_of k) parts
for_first_step (layer.FirstExpression x) = x.marks

abbrev pub for_target_step : Layer ForTarget-F → List Mark
for_target_step (layer.Declared span k x) = x.marks (Declared (kind_of k) span.end)
for_target_step (layer.Assigned x) = x.marks Assigned

abbrev pub key_step : Layer Key-F → KeyMarked
key_step (layer.WordKey span name) = record { is_computed = false; marks = [] }
key_step (layer.TextKey span units) = record { is_computed = false; marks = [] }
key_step (layer.IntegerKey span value) = record { is_computed = false; marks = [] }
key_step (layer.ComputedKey span x) = record { is_computed = true; marks = x.marks }

abbrev pub link_step : Layer Link-F → List Mark
link_step (layer.Member span name) = []
link_step (layer.Index span x) = x.marks
link_step (layer.Call span arguments) = joined (λ a. a) arguments
link_step (layer.Tagged x) = x

abbrev pub object_part_step : Layer ObjectPart-F → TargetsMarked
object_part_step (layer.NamedPart x) = x
object_part_step (layer.KeyedPart span key x) = record { has_expression = key.is_computed || x.has_expression; end = span.end; marks = λ role. key.marks ++ x.marks role }

abbrev pub parameter_step : Layer Parameter-F → TargetsMarked
parameter_step (layer.SingleParameter x) = x
parameter_step (layer.RestParameter span x) = record x { end = span.end }

abbrev pub all_parts : Span → List TargetsMarked → TargetsMarked
all_parts span parts = record { has_expression = have_expression parts; end = span.end; marks = λ role. parts_marks role parts }

abbrev pub target_marks : ExpressionMarked → Role → List Mark
target_marks x Assigned = x.marks
target_marks x (Declared k end) = declared_name k end x.name

abbrev pub pattern_step : Layer Pattern-F → TargetsMarked
pattern_step (layer.Target x) = record { has_expression = false; end = 0; marks = target_marks x }
pattern_step (layer.ArrayPattern span parts) = all_parts span parts
pattern_step (layer.ObjectPattern span parts) = all_parts span parts

abbrev pub property_step : Layer Property-F → List Mark
property_step (layer.Plain span key x) = key.marks ++ x.marks
property_step (layer.Shorthand span name) = Refers name span.begin ∷ []
property_step (layer.Initialized span name equals x) = Refers name.name name.span.begin ∷ x.marks
property_step (layer.Defined m) = m

abbrev pub statement_step : Layer Statement-F → List Mark
statement_step (layer.Block b) = block_marks b
statement_step (layer.Variables span k parts) = declarators (kind_of k) parts
statement_step (layer.Empty span) = []
statement_step (layer.Expression span x) = x.marks
statement_step (layer.If span first more otherwise) = first ++ joined (λ c. c) more ++ maybe (λ s. s) otherwise
statement_step (layer.DoWhile span body test) = in_loop (body ++ test.marks)
statement_step (layer.While span test body) = in_loop (test.marks ++ body)
statement_step (layer.For span first test update body) = in_loop (in_scope scope.Block span.begin (first ++ maybe (λ x. x.marks) test ++ maybe (λ x. x.marks) update ++ body))
statement_step (layer.ForOf span target subject body) = in_loop (in_scope scope.Block span.begin (target ++ in_head subject.marks ++ body))
statement_step (layer.Continue span label) = []
statement_step (layer.Break span label) = []
statement_step (layer.Return span x) = maybe (λ y. y.marks) x
statement_step (layer.Switch span subject cases) = subject.marks ++ in_scope scope.Cases span.begin (joined (λ c. c) cases)
statement_step (layer.Labelled span label body) = body
statement_step (layer.Throw span x) = x.marks
statement_step (layer.Try span block handler last) = block_marks block ++ maybe (λ h. h) handler ++ maybe block_marks last
statement_step (layer.Debugger span) = []
statement_step (layer.FunctionDeclaration f) = declared_name kind.Function f.end f.name ++ f.marks
statement_step (layer.ClassDeclaration c) = declared_name kind.Class c.end c.name ++ class_marks c

abbrev pub arrow_step : Layer Arrow-F → List Mark
arrow_step x = function_scope x.span [] x.parameters x.body.marks

abbrev pub block_step : Layer Block-F → BlockMarked
block_step x = record { begin = x.span.begin; inner = joined (λ s. s) x.statements }

abbrev pub case_step : Layer Case-F → List Mark
case_step x = maybe (λ y. y.marks) x.test ++ joined (λ s. s) x.body

-- the parameter's declarator ends where the block begins (13.15.7)

abbrev pub catch_step : Layer Catch-F → List Mark
catch_step x = in_scope scope.Block x.span.begin (in_head (x.parameter.marks (Declared kind.Caught x.body.begin)) ++ block_marks x.body)

abbrev pub class_step : Layer Class-F → ClassMarked
class_step x = record { name = x.name; end = x.span.end; marks = maybe (λ h. h.marks) x.heritage ++ joined (λ m. m) x.members }

abbrev pub class_member_step : Layer ClassMember-F → List Mark
class_member_step x = x.method

abbrev pub condition_step : Layer Condition-F → List Mark
condition_step x = x.test.marks ++ x.body

abbrev pub function_step : Layer Function-F → FunctionMarked
function_step x = record { name = x.name; end = x.span.end; marks = function_scope x.span (arguments_mark x.span.begin ∷ []) x.parameters (joined (λ s. s) x.body) }

abbrev pub method_step : Layer Method-F → List Mark
method_step x = x.key.marks ++ x.function.marks

abbrev pub operand_step : Layer Operand-F → List Mark
operand_step x = x.value.marks

abbrev pub part_step : Layer Part-F → TargetsMarked
part_step x = record { has_expression = x.pattern.has_expression || is_some x.default; end = x.span.end; marks = λ role. x.pattern.marks role ++ maybe (λ y. y.marks) x.default }

abbrev pub template_step : Layer Template-F → List Mark
template_step x = joined (λ p. p) x.rest

abbrev pub template_part_step : Layer TemplatePart-F → List Mark
template_part_step x = x.value.marks

-- what each kind of node gives, by the steps above
abbrev pub by_steps : {Node Result : Type 0} → ((Layer Argument-F → (List Mark)) → (Layer ArrayPart-F → TargetsMarked) → (Layer ArrowBody-F → BodyMarked) → (Layer Element-F → (List Mark)) → (Layer Expression-F → ExpressionMarked) → (Layer ForFirst-F → (List Mark)) → (Layer ForTarget-F → (List Mark)) → (Layer Key-F → KeyMarked) → (Layer Link-F → (List Mark)) → (Layer ObjectPart-F → TargetsMarked) → (Layer Parameter-F → TargetsMarked) → (Layer Pattern-F → TargetsMarked) → (Layer Property-F → (List Mark)) → (Layer Statement-F → (List Mark)) → (Layer Arrow-F → (List Mark)) → (Layer Block-F → BlockMarked) → (Layer Case-F → (List Mark)) → (Layer Catch-F → (List Mark)) → (Layer Class-F → ClassMarked) → (Layer ClassMember-F → (List Mark)) → (Layer Condition-F → (List Mark)) → (Layer Function-F → FunctionMarked) → (Layer Method-F → (List Mark)) → (Layer Operand-F → (List Mark)) → (Layer Part-F → TargetsMarked) → (Layer Template-F → (List Mark)) → (Layer TemplatePart-F → (List Mark)) → Node → Result) → Node → Result
by_steps fold_ = fold_ argument_step array_part_step arrow_body_step element_step expression_step for_first_step for_target_step key_step link_step object_part_step parameter_step pattern_step property_step statement_step arrow_step block_step case_step catch_step class_step class_member_step condition_step function_step method_step operand_step part_step template_step template_part_step

abbrev pub argument_marked : Argument → List Mark
argument_marked = by_steps (fold-Argument (List Mark) TargetsMarked BodyMarked (List Mark) ExpressionMarked (List Mark) (List Mark) KeyMarked (List Mark) TargetsMarked TargetsMarked TargetsMarked (List Mark) (List Mark) (List Mark) BlockMarked (List Mark) (List Mark) ClassMarked (List Mark) (List Mark) FunctionMarked (List Mark) (List Mark) TargetsMarked (List Mark) (List Mark))

abbrev pub array_part_marked : ArrayPart → TargetsMarked
array_part_marked = by_steps (fold-ArrayPart (List Mark) TargetsMarked BodyMarked (List Mark) ExpressionMarked (List Mark) (List Mark) KeyMarked (List Mark) TargetsMarked TargetsMarked TargetsMarked (List Mark) (List Mark) (List Mark) BlockMarked (List Mark) (List Mark) ClassMarked (List Mark) (List Mark) FunctionMarked (List Mark) (List Mark) TargetsMarked (List Mark) (List Mark))

abbrev pub arrow_body_marked : ArrowBody → BodyMarked
arrow_body_marked = by_steps (fold-ArrowBody (List Mark) TargetsMarked BodyMarked (List Mark) ExpressionMarked (List Mark) (List Mark) KeyMarked (List Mark) TargetsMarked TargetsMarked TargetsMarked (List Mark) (List Mark) (List Mark) BlockMarked (List Mark) (List Mark) ClassMarked (List Mark) (List Mark) FunctionMarked (List Mark) (List Mark) TargetsMarked (List Mark) (List Mark))

abbrev pub element_marked : Element → List Mark
element_marked = by_steps (fold-Element (List Mark) TargetsMarked BodyMarked (List Mark) ExpressionMarked (List Mark) (List Mark) KeyMarked (List Mark) TargetsMarked TargetsMarked TargetsMarked (List Mark) (List Mark) (List Mark) BlockMarked (List Mark) (List Mark) ClassMarked (List Mark) (List Mark) FunctionMarked (List Mark) (List Mark) TargetsMarked (List Mark) (List Mark))

abbrev pub expression_marked : Expression → ExpressionMarked
expression_marked = by_steps (fold-Expression (List Mark) TargetsMarked BodyMarked (List Mark) ExpressionMarked (List Mark) (List Mark) KeyMarked (List Mark) TargetsMarked TargetsMarked TargetsMarked (List Mark) (List Mark) (List Mark) BlockMarked (List Mark) (List Mark) ClassMarked (List Mark) (List Mark) FunctionMarked (List Mark) (List Mark) TargetsMarked (List Mark) (List Mark))

abbrev pub for_first_marked : ForFirst → List Mark
for_first_marked = by_steps (fold-ForFirst (List Mark) TargetsMarked BodyMarked (List Mark) ExpressionMarked (List Mark) (List Mark) KeyMarked (List Mark) TargetsMarked TargetsMarked TargetsMarked (List Mark) (List Mark) (List Mark) BlockMarked (List Mark) (List Mark) ClassMarked (List Mark) (List Mark) FunctionMarked (List Mark) (List Mark) TargetsMarked (List Mark) (List Mark))

abbrev pub for_target_marked : ForTarget → List Mark
for_target_marked = by_steps (fold-ForTarget (List Mark) TargetsMarked BodyMarked (List Mark) ExpressionMarked (List Mark) (List Mark) KeyMarked (List Mark) TargetsMarked TargetsMarked TargetsMarked (List Mark) (List Mark) (List Mark) BlockMarked (List Mark) (List Mark) ClassMarked (List Mark) (List Mark) FunctionMarked (List Mark) (List Mark) TargetsMarked (List Mark) (List Mark))

abbrev pub key_marked : Key → KeyMarked
key_marked = by_steps (fold-Key (List Mark) TargetsMarked BodyMarked (List Mark) ExpressionMarked (List Mark) (List Mark) KeyMarked (List Mark) TargetsMarked TargetsMarked TargetsMarked (List Mark) (List Mark) (List Mark) BlockMarked (List Mark) (List Mark) ClassMarked (List Mark) (List Mark) FunctionMarked (List Mark) (List Mark) TargetsMarked (List Mark) (List Mark))

abbrev pub link_marked : Link → List Mark
link_marked = by_steps (fold-Link (List Mark) TargetsMarked BodyMarked (List Mark) ExpressionMarked (List Mark) (List Mark) KeyMarked (List Mark) TargetsMarked TargetsMarked TargetsMarked (List Mark) (List Mark) (List Mark) BlockMarked (List Mark) (List Mark) ClassMarked (List Mark) (List Mark) FunctionMarked (List Mark) (List Mark) TargetsMarked (List Mark) (List Mark))

abbrev pub object_part_marked : ObjectPart → TargetsMarked
object_part_marked = by_steps (fold-ObjectPart (List Mark) TargetsMarked BodyMarked (List Mark) ExpressionMarked (List Mark) (List Mark) KeyMarked (List Mark) TargetsMarked TargetsMarked TargetsMarked (List Mark) (List Mark) (List Mark) BlockMarked (List Mark) (List Mark) ClassMarked (List Mark) (List Mark) FunctionMarked (List Mark) (List Mark) TargetsMarked (List Mark) (List Mark))

abbrev pub parameter_marked : Parameter → TargetsMarked
parameter_marked = by_steps (fold-Parameter (List Mark) TargetsMarked BodyMarked (List Mark) ExpressionMarked (List Mark) (List Mark) KeyMarked (List Mark) TargetsMarked TargetsMarked TargetsMarked (List Mark) (List Mark) (List Mark) BlockMarked (List Mark) (List Mark) ClassMarked (List Mark) (List Mark) FunctionMarked (List Mark) (List Mark) TargetsMarked (List Mark) (List Mark))

abbrev pub pattern_marked : Pattern → TargetsMarked
pattern_marked = by_steps (fold-Pattern (List Mark) TargetsMarked BodyMarked (List Mark) ExpressionMarked (List Mark) (List Mark) KeyMarked (List Mark) TargetsMarked TargetsMarked TargetsMarked (List Mark) (List Mark) (List Mark) BlockMarked (List Mark) (List Mark) ClassMarked (List Mark) (List Mark) FunctionMarked (List Mark) (List Mark) TargetsMarked (List Mark) (List Mark))

abbrev pub property_marked : Property → List Mark
property_marked = by_steps (fold-Property (List Mark) TargetsMarked BodyMarked (List Mark) ExpressionMarked (List Mark) (List Mark) KeyMarked (List Mark) TargetsMarked TargetsMarked TargetsMarked (List Mark) (List Mark) (List Mark) BlockMarked (List Mark) (List Mark) ClassMarked (List Mark) (List Mark) FunctionMarked (List Mark) (List Mark) TargetsMarked (List Mark) (List Mark))

abbrev pub statement_marked : Statement → List Mark
statement_marked = by_steps (fold-Statement (List Mark) TargetsMarked BodyMarked (List Mark) ExpressionMarked (List Mark) (List Mark) KeyMarked (List Mark) TargetsMarked TargetsMarked TargetsMarked (List Mark) (List Mark) (List Mark) BlockMarked (List Mark) (List Mark) ClassMarked (List Mark) (List Mark) FunctionMarked (List Mark) (List Mark) TargetsMarked (List Mark) (List Mark))

abbrev pub arrow_marked : Arrow → List Mark
arrow_marked = by_steps (fold-Arrow (List Mark) TargetsMarked BodyMarked (List Mark) ExpressionMarked (List Mark) (List Mark) KeyMarked (List Mark) TargetsMarked TargetsMarked TargetsMarked (List Mark) (List Mark) (List Mark) BlockMarked (List Mark) (List Mark) ClassMarked (List Mark) (List Mark) FunctionMarked (List Mark) (List Mark) TargetsMarked (List Mark) (List Mark))

abbrev pub block_marked : Block → BlockMarked
block_marked = by_steps (fold-Block (List Mark) TargetsMarked BodyMarked (List Mark) ExpressionMarked (List Mark) (List Mark) KeyMarked (List Mark) TargetsMarked TargetsMarked TargetsMarked (List Mark) (List Mark) (List Mark) BlockMarked (List Mark) (List Mark) ClassMarked (List Mark) (List Mark) FunctionMarked (List Mark) (List Mark) TargetsMarked (List Mark) (List Mark))

abbrev pub case_marked : Case → List Mark
case_marked = by_steps (fold-Case (List Mark) TargetsMarked BodyMarked (List Mark) ExpressionMarked (List Mark) (List Mark) KeyMarked (List Mark) TargetsMarked TargetsMarked TargetsMarked (List Mark) (List Mark) (List Mark) BlockMarked (List Mark) (List Mark) ClassMarked (List Mark) (List Mark) FunctionMarked (List Mark) (List Mark) TargetsMarked (List Mark) (List Mark))

abbrev pub catch_marked : Catch → List Mark
catch_marked = by_steps (fold-Catch (List Mark) TargetsMarked BodyMarked (List Mark) ExpressionMarked (List Mark) (List Mark) KeyMarked (List Mark) TargetsMarked TargetsMarked TargetsMarked (List Mark) (List Mark) (List Mark) BlockMarked (List Mark) (List Mark) ClassMarked (List Mark) (List Mark) FunctionMarked (List Mark) (List Mark) TargetsMarked (List Mark) (List Mark))

abbrev pub class_marked : Class → ClassMarked
class_marked = by_steps (fold-Class (List Mark) TargetsMarked BodyMarked (List Mark) ExpressionMarked (List Mark) (List Mark) KeyMarked (List Mark) TargetsMarked TargetsMarked TargetsMarked (List Mark) (List Mark) (List Mark) BlockMarked (List Mark) (List Mark) ClassMarked (List Mark) (List Mark) FunctionMarked (List Mark) (List Mark) TargetsMarked (List Mark) (List Mark))

abbrev pub class_member_marked : ClassMember → List Mark
class_member_marked = by_steps (fold-ClassMember (List Mark) TargetsMarked BodyMarked (List Mark) ExpressionMarked (List Mark) (List Mark) KeyMarked (List Mark) TargetsMarked TargetsMarked TargetsMarked (List Mark) (List Mark) (List Mark) BlockMarked (List Mark) (List Mark) ClassMarked (List Mark) (List Mark) FunctionMarked (List Mark) (List Mark) TargetsMarked (List Mark) (List Mark))

abbrev pub condition_marked : Condition → List Mark
condition_marked = by_steps (fold-Condition (List Mark) TargetsMarked BodyMarked (List Mark) ExpressionMarked (List Mark) (List Mark) KeyMarked (List Mark) TargetsMarked TargetsMarked TargetsMarked (List Mark) (List Mark) (List Mark) BlockMarked (List Mark) (List Mark) ClassMarked (List Mark) (List Mark) FunctionMarked (List Mark) (List Mark) TargetsMarked (List Mark) (List Mark))

abbrev pub function_marked : Function → FunctionMarked
function_marked = by_steps (fold-Function (List Mark) TargetsMarked BodyMarked (List Mark) ExpressionMarked (List Mark) (List Mark) KeyMarked (List Mark) TargetsMarked TargetsMarked TargetsMarked (List Mark) (List Mark) (List Mark) BlockMarked (List Mark) (List Mark) ClassMarked (List Mark) (List Mark) FunctionMarked (List Mark) (List Mark) TargetsMarked (List Mark) (List Mark))

abbrev pub method_marked : Method → List Mark
method_marked = by_steps (fold-Method (List Mark) TargetsMarked BodyMarked (List Mark) ExpressionMarked (List Mark) (List Mark) KeyMarked (List Mark) TargetsMarked TargetsMarked TargetsMarked (List Mark) (List Mark) (List Mark) BlockMarked (List Mark) (List Mark) ClassMarked (List Mark) (List Mark) FunctionMarked (List Mark) (List Mark) TargetsMarked (List Mark) (List Mark))

abbrev pub operand_marked : Operand → List Mark
operand_marked = by_steps (fold-Operand (List Mark) TargetsMarked BodyMarked (List Mark) ExpressionMarked (List Mark) (List Mark) KeyMarked (List Mark) TargetsMarked TargetsMarked TargetsMarked (List Mark) (List Mark) (List Mark) BlockMarked (List Mark) (List Mark) ClassMarked (List Mark) (List Mark) FunctionMarked (List Mark) (List Mark) TargetsMarked (List Mark) (List Mark))

abbrev pub part_marked : Part → TargetsMarked
part_marked = by_steps (fold-Part (List Mark) TargetsMarked BodyMarked (List Mark) ExpressionMarked (List Mark) (List Mark) KeyMarked (List Mark) TargetsMarked TargetsMarked TargetsMarked (List Mark) (List Mark) (List Mark) BlockMarked (List Mark) (List Mark) ClassMarked (List Mark) (List Mark) FunctionMarked (List Mark) (List Mark) TargetsMarked (List Mark) (List Mark))

abbrev pub template_marked : Template → List Mark
template_marked = by_steps (fold-Template (List Mark) TargetsMarked BodyMarked (List Mark) ExpressionMarked (List Mark) (List Mark) KeyMarked (List Mark) TargetsMarked TargetsMarked TargetsMarked (List Mark) (List Mark) (List Mark) BlockMarked (List Mark) (List Mark) ClassMarked (List Mark) (List Mark) FunctionMarked (List Mark) (List Mark) TargetsMarked (List Mark) (List Mark))

abbrev pub template_part_marked : TemplatePart → List Mark
template_part_marked = by_steps (fold-TemplatePart (List Mark) TargetsMarked BodyMarked (List Mark) ExpressionMarked (List Mark) (List Mark) KeyMarked (List Mark) TargetsMarked TargetsMarked TargetsMarked (List Mark) (List Mark) (List Mark) BlockMarked (List Mark) (List Mark) ClassMarked (List Mark) (List Mark) FunctionMarked (List Mark) (List Mark) TargetsMarked (List Mark) (List Mark))

-- names that an import binds, from the host or from a module (15.2.2)
abbrev pub import_kind : Bool → Kind
import_kind true = kind.HostImport
import_kind false = kind.Import

abbrev pub import_marks : Kind → ℕ → Option Identifier → ImportedNames → List Mark
import_marks k end default_ names = map (declares k end) (some_name default_ ++ more_names names)

-- a default export without a name has the binding that the standard calls *default* (15.2.3.2)
abbrev pub default_mark : Kind → ℕ → Span → Option Identifier → Mark
default_mark k end word None = Declares k (codes "*default*") word.begin end
default_mark k end word (Some x) = declares k end x

abbrev pub default_marks : ℕ → Span → DefaultExport → List Mark
default_marks end word (DefaultFunction f) = default_mark kind.Function (function_marked f).end word (function_marked f).name ∷ (function_marked f).marks
default_marks end word (DefaultClass c) = default_mark kind.Class (class_marked c).end word (class_marked c).name ∷ class_marks (class_marked c)
default_marks end word (DefaultValue x) = default_mark kind.Default end word None ∷ (expression_marked x).marks

abbrev pub item_marked : Item → List Mark
item_marked (item.Import span default_ names from) = import_marks (import_kind (is_host from)) span.end default_ names
item_marked (item.ExportNames span names from) = []
item_marked (item.ExportAll span from) = []
item_marked (item.ExportDeclaration span s) = statement_marked s
item_marked (item.ExportDefault span word x) = default_marks span.end word x
item_marked (item.Statement s) = statement_marked s

-- the marks of a module (15.2.1.16.4)
abbrev pub module_marked : Module → List Mark
module_marked m = in_scope scope.Module m.span.begin (joined item_marked m.items)
