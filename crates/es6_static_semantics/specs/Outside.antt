-- The constructs outside the profile that are found on trees, as pairs of a rule and a place. docs/PROFILE.md has the table. Which
-- names are free follows the scopes of ECMA-262, 6th edition, 8.1, 13, 14 and 15.2.
use Rattle.std.specs.Prelude.{ℕ, Bool, true, false, ◌&&◌, ◌||◌, not, List, [], ◌∷◌, ◌++◌, codes, cond, map, nat_eq, Option, Some, None, is_some}
use Rattle.std.specs.List.{starts_with}
use Rattle.std.specs.Str.{bytes_eq}
use Rattle.es_text.specs.declared.Span.{Span}
use Rattle.es_outside.specs.HostNames.{is_among, kept_globals}
use Rattle.es6_ast.specs.declared.operators.UnaryOperator.{UnaryOperator}
use Rattle.es6_ast.specs.declared.operators.UnaryOperator.TheVariants as unaries
use Rattle.es6_ast.specs.declared.operators.Literal.{Literal}
use Rattle.es6_ast.specs.declared.operators.Literal.TheVariants as literals
use Rattle.es6_ast.specs.declared.operators.VariableKind.{VariableKind}
use Rattle.es6_ast.specs.declared.operators.VariableKind.TheVariants.{Var, Let, Const}
use Rattle.es6_ast.specs.declared.tree.Identifier.{Identifier}
use Rattle.es6_ast.specs.declared.tree.Argument.{Argument, fold-Argument}
use Rattle.es6_ast.specs.declared.tree.ArrayPart.{ArrayPart, fold-ArrayPart}
use Rattle.es6_ast.specs.declared.tree.ArrowBody.{ArrowBody, fold-ArrowBody}
use Rattle.es6_ast.specs.declared.tree.Element.{Element, fold-Element}
use Rattle.es6_ast.specs.declared.tree.Expression.{Expression, fold-Expression}
use Rattle.es6_ast.specs.declared.tree.ForFirst.{ForFirst, fold-ForFirst}
use Rattle.es6_ast.specs.declared.tree.ForTarget.{ForTarget, fold-ForTarget}
use Rattle.es6_ast.specs.declared.tree.Key.{Key, fold-Key}
use Rattle.es6_ast.specs.declared.tree.Link.{Link, fold-Link}
use Rattle.es6_ast.specs.declared.tree.ObjectPart.{ObjectPart, fold-ObjectPart}
use Rattle.es6_ast.specs.declared.tree.Parameter.{Parameter, fold-Parameter}
use Rattle.es6_ast.specs.declared.tree.Pattern.{Pattern, fold-Pattern}
use Rattle.es6_ast.specs.declared.tree.Property.{Property, fold-Property}
use Rattle.es6_ast.specs.declared.tree.Statement.{Statement, fold-Statement}
use Rattle.es6_ast.specs.declared.tree.Arrow.{Arrow, fold-Arrow}
use Rattle.es6_ast.specs.declared.tree.Block.{Block, fold-Block}
use Rattle.es6_ast.specs.declared.tree.Case.{Case, fold-Case}
use Rattle.es6_ast.specs.declared.tree.Catch.{Catch, fold-Catch}
use Rattle.es6_ast.specs.declared.tree.Class.{Class, fold-Class}
use Rattle.es6_ast.specs.declared.tree.ClassMember.{ClassMember, fold-ClassMember}
use Rattle.es6_ast.specs.declared.tree.Condition.{Condition, fold-Condition}
use Rattle.es6_ast.specs.declared.tree.Function.{Function, fold-Function}
use Rattle.es6_ast.specs.declared.tree.Method.{Method, fold-Method}
use Rattle.es6_ast.specs.declared.tree.Operand.{Operand, fold-Operand}
use Rattle.es6_ast.specs.declared.tree.Part.{Part, fold-Part}
use Rattle.es6_ast.specs.declared.tree.Template.{Template, fold-Template}
use Rattle.es6_ast.specs.declared.tree.TemplatePart.{TemplatePart, fold-TemplatePart}
use Rattle.es6_ast.specs.declared.tree.Argument.TheOpen as layer
use Rattle.es6_ast.specs.declared.tree.Argument.TheOpen.{Argument-F, ArrayPart-F, ArrowBody-F, Element-F, Expression-F, ForFirst-F, ForTarget-F, Key-F, Link-F, ObjectPart-F, Parameter-F, Pattern-F, Property-F, Statement-F, Arrow-F, Block-F, Case-F, Catch-F, Class-F, ClassMember-F, Condition-F, Function-F, Method-F, Operand-F, Part-F, Template-F, TemplatePart-F}
use Rattle.es6_ast.specs.declared.module.Module.{Module}
use Rattle.es6_ast.specs.declared.module.Item.{Item}
use Rattle.es6_ast.specs.declared.module.Item.TheVariants as item
use Rattle.es6_ast.specs.declared.module.ImportedNames.{ImportedNames}
use Rattle.es6_ast.specs.declared.module.ImportedNames.TheVariants.{NoNames, Namespace, Listed}
use Rattle.es6_ast.specs.declared.module.ExportName.{ExportName}
use Rattle.es6_ast.specs.declared.module.DefaultExport.{DefaultExport}
use Rattle.es6_ast.specs.declared.module.DefaultExport.TheVariants.{DefaultFunction, DefaultClass, DefaultValue}
use Rattle.es6_ast.specs.declared.module.Specifier.{Specifier}
use Rattle.es6_static_semantics.specs.Findings.{Pair, when, joined, maybe}

-- a name that is declared, and whether it is imported from the host
pub record Known : Type 0 where
  pub name : List ℕ
  pub is_host : Bool

-- the names that are declared round a place, the innermost first, and whether it is in a method of an object literal
pub record Scope : Type 0 where
  pub known : List Known
  pub in_object : Bool

abbrev pub Inside : Type 0
Inside = Scope → List Pair

abbrev pub knows : Bool → Identifier → Known
knows is_host x = record { name = x.name; is_host = is_host }

abbrev pub declaring : List Identifier → Scope → Scope
declaring names scope = record scope { known = map (knows false) names ++ scope.known }

-- whether the name is declared, and then whether its innermost declaration is an import from the host
abbrev pub declared_as : List ℕ → List Known → Option Bool
declared_as name [] = None
declared_as name (k ∷ ks) = cond (bytes_eq k.name name) (Some k.is_host) (declared_as name ks)

abbrev pub is_free : List ℕ → Scope → Bool
is_free name scope = not (is_some (declared_as name scope.known))

abbrev pub is_host_import : List ℕ → Scope → Bool
is_host_import name scope = host (declared_as name scope.known)
  where
    host : Option Bool → Bool
    host None = false
    host (Some is_host) = is_host

abbrev pub is_proto : List ℕ → Bool
is_proto name = bytes_eq name (codes "__proto__")

-- U10 at an identifier or a property name
abbrev pub named : Identifier → List Pair
named x = when (is_proto x.name) 10 x.span.begin

abbrev pub all_named : List Identifier → List Pair
all_named xs = joined named xs

-- U6, U7, U9 and U10 at a reference
abbrev pub reference_pairs : List ℕ → ℕ → Inside
reference_pairs name at scope =
    when (bytes_eq name (codes "eval")) 6 at
    ++ when (is_free name scope && not (is_among (codes "Symbol" ∷ kept_globals) name)) 7 at
    ++ when (is_free name scope && bytes_eq name (codes "Symbol")) 9 at
    ++ when (is_proto name) 10 at

-- U14, where the reference is no bare callee
abbrev pub host_pairs : List ℕ → ℕ → Inside
host_pairs name at scope = when (is_host_import name scope) 14 at

-- U8 at a name that is a target
abbrev pub global_pairs : Option Identifier → Inside
global_pairs x scope = maybe (λ n. when (is_free n.name scope && is_among kept_globals n.name) 8 n.span.begin) x

-- U13
abbrev pub super_pairs : Option ℕ → List Pair
super_pairs x = maybe (λ at. when true 13 at) x

-- What each node gives. An expression: the name or the `super` of a property that it is, in parentheses too; the name that it is
-- without; whether it is `null`, in parentheses too; and its pairs by itself, as a callee, and as a key.
pub record Found : Type 0 where
  pub name : Option Identifier
  pub of_super : Option ℕ
  pub bare : Option (List ℕ)
  pub is_null : Bool
  pub begin : ℕ
  pub pairs : Inside
  pub callee : Inside
  pub key : Inside

-- an access or a call: the name of a member, and whether it is a call
pub record LinkFound : Type 0 where
  pub member : Option (List ℕ)
  pub is_call : Bool
  pub pairs : Inside

-- a pattern or a part of one: the names that it binds, and its pairs by whether it declares them or something is assigned
pub record TargetsFound : Type 0 where
  pub names : List Identifier
  pub pairs : Bool → Inside

-- a statement: the lexical names that it declares, the function that it declares, the var names in it, and its pairs
pub record StatementFound : Type 0 where
  pub lexical : List Identifier
  pub functions : List Identifier
  pub vars : List Identifier
  pub pairs : Inside

pub record HeadFound : Type 0 where
  pub lexical : List Identifier
  pub vars : List Identifier
  pub pairs : Inside

pub record PartFound : Type 0 where
  pub vars : List Identifier
  pub pairs : Inside

pub record CaseFound : Type 0 where
  pub body : List StatementFound
  pub test : Inside

pub record BodyFound : Type 0 where
  pub names : List Identifier
  pub pairs : Inside

pub record ClassFound : Type 0 where
  pub names : List Identifier
  pub pairs : Inside

-- a function, and a method, by whether it is a method of an object literal
pub record FunctionFound : Type 0 where
  pub name : List Identifier
  pub pairs : Bool → Inside

pub record MethodFound : Type 0 where
  pub pairs : Bool → Inside

abbrev pub nothing : Inside
nothing scope = []

abbrev pub some_name : Option Identifier → List Identifier
some_name None = []
some_name (Some x) = x ∷ []

abbrev pub value_at : ℕ → Inside → Found
value_at at pairs = record { name = None; of_super = None; bare = None; is_null = false; begin = at; pairs = pairs; callee = pairs; key = pairs }

abbrev pub value : Span → Inside → Found
value span pairs = value_at span.begin pairs

abbrev pub name_found : Span → List ℕ → Found
name_found span name =
    let plain : Inside = reference_pairs name span.begin in
    let whole : Inside = λ scope. plain scope ++ host_pairs name span.begin scope in
    record { name = Some (record { span = span; name = name }); of_super = None; bare = Some name; is_null = false; begin = span.begin; pairs = whole; callee = plain; key = whole }

-- U12
abbrev pub in_object_pairs : Span → Inside
in_object_pairs span scope = when scope.in_object 12 span.begin

abbrev pub super_found : Span → Inside → Found
super_found span pairs = record (value span (λ scope. in_object_pairs span scope ++ pairs scope)) { of_super = Some span.begin }

abbrev pub literal_found : Span → Literal → Found
literal_found span literals.Null = record (value span nothing) { is_null = true }
literal_found span _ = value span nothing

abbrev pub first_is_call : List LinkFound → Bool
first_is_call [] = false
first_is_call (l ∷ ls) = l.is_call

abbrev pub is_text : List ℕ → Option (List ℕ) → Bool
is_text text None = false
is_text text (Some other) = bytes_eq text other

-- `.iterator` and nothing else
abbrev pub are_iterator : List LinkFound → Bool
are_iterator [] = false
are_iterator (l ∷ []) = is_text (codes "iterator") l.member
are_iterator (l ∷ m ∷ ls) = false

abbrev pub chain_pairs : Found → List LinkFound → Inside
chain_pairs head links scope = cond (first_is_call links) (head.callee scope) (head.pairs scope) ++ joined (λ l. l.pairs scope) links

abbrev pub is_iterator_key : Found → List LinkFound → Scope → Bool
is_iterator_key head links scope = is_text (codes "Symbol") head.bare && are_iterator links && is_free (codes "Symbol") scope

abbrev pub chain_found : Span → Found → List LinkFound → Found
chain_found span head links =
    let pairs : Inside = chain_pairs head links in
    record (value span pairs) { key = λ scope. cond (is_iterator_key head links scope) [] (pairs scope) }

-- a group is what it holds, but for a callee and a key
abbrev pub group_found : Span → Found → Found
group_found span held = record { name = held.name; of_super = held.of_super; bare = None; is_null = held.is_null; begin = span.begin; pairs = held.pairs; callee = held.pairs; key = held.pairs }

abbrev pub deleted : UnaryOperator → Found → List Pair
deleted unaries.Delete x = super_pairs x.of_super
deleted _ x = []

abbrev pub target_pairs : Found → Inside
target_pairs x scope = global_pairs x.name scope ++ super_pairs x.of_super ++ x.pairs scope

-- statements as a block's and as a body's
abbrev pub block_names : List StatementFound → List Identifier
block_names ss = joined (λ s. s.lexical ++ s.functions) ss

abbrev pub block_vars : List StatementFound → List Identifier
block_vars ss = joined (λ s. s.vars) ss

abbrev pub statements_pairs : List StatementFound → Inside
statements_pairs ss scope = joined (λ s. s.pairs scope) ss

abbrev pub block_pairs : List StatementFound → Inside
block_pairs ss scope = statements_pairs ss (declaring (block_names ss) scope)

abbrev pub parts_names : List TargetsFound → List Identifier
parts_names ps = joined (λ p. p.names) ps

abbrev pub parts_pairs : Bool → List TargetsFound → Inside
parts_pairs declares ps scope = joined (λ p. p.pairs declares scope) ps

abbrev pub body_names : List StatementFound → List Identifier
body_names ss = block_names ss ++ block_vars ss

-- parameters see themselves, and the body its own names too
abbrev pub function_pairs : List Identifier → List TargetsFound → BodyFound → Inside
function_pairs own ps body scope =
    let inside = declaring (parts_names ps ++ own) scope in
    parts_pairs true ps inside ++ body.pairs (declaring body.names inside)

abbrev pub lexical_names : VariableKind → List Identifier → List Identifier
lexical_names Var names = []
lexical_names Let names = names
lexical_names Const names = names

abbrev pub var_names : VariableKind → List Identifier → List Identifier
var_names Var names = names
var_names Let names = []
var_names Const names = []

abbrev pub plain : Inside → StatementFound
plain pairs = record { lexical = []; functions = []; vars = []; pairs = pairs }

abbrev pub with_vars : List Identifier → Inside → StatementFound
with_vars vars pairs = record (plain pairs) { vars = vars }

abbrev pub arguments_name : Identifier
arguments_name = record { span = record { begin = 0; end = 0 }; name = codes "arguments" }

-- U11
abbrev pub heritage_pairs : Found → Inside
heritage_pairs x scope = when (x.is_null || is_global x.name) 11 x.begin
  where
    is_global : Option Identifier → Bool
    is_global None = false
    is_global (Some n) = is_free n.name scope && is_among kept_globals n.name

abbrev pub Layer : (Type 0 → Type 0 → Type 0 → Type 0 → Type 0 → Type 0 → Type 0 → Type 0 → Type 0 → Type 0 → Type 0 → Type 0 → Type 0 → Type 0 → Type 0 → Type 0 → Type 0 → Type 0 → Type 0 → Type 0 → Type 0 → Type 0 → Type 0 → Type 0 → Type 0 → Type 0 → Type 0 → Type 0) → Type 0
Layer Of = Of Inside TargetsFound BodyFound Inside Found HeadFound HeadFound Inside LinkFound TargetsFound TargetsFound TargetsFound Inside StatementFound Inside (List StatementFound) CaseFound PartFound ClassFound Inside PartFound FunctionFound MethodFound Inside TargetsFound Inside Inside

abbrev pub argument_step : Layer Argument-F → Inside
argument_step (layer.Single x) = x.pairs
argument_step (layer.Spread span x) = x.pairs

abbrev pub array_part_step : Layer ArrayPart-F → TargetsFound
array_part_step layer.SkippedPart = record { names = []; pairs = λ declares scope. [] }
array_part_step (layer.SinglePart x) = x
array_part_step (layer.RestPart span x) = x

abbrev pub arrow_body_step : Layer ArrowBody-F → BodyFound
arrow_body_step (layer.ValueBody x) = record { names = []; pairs = x.pairs }
arrow_body_step (layer.BlockBody ss) = record { names = body_names ss; pairs = statements_pairs ss }

abbrev pub element_step : Layer Element-F → Inside
element_step layer.Hole = nothing
element_step (layer.Present x) = x

abbrev pub expression_step : Layer Expression-F → Found
expression_step (layer.This span) = value span nothing
expression_step (layer.Name span name) = name_found span name
expression_step (layer.Literal span x) = literal_found span x
expression_step (layer.Template x) = value_at 0 x
expression_step (layer.ArrayList span elements comma) = value span (λ scope. joined (λ e. e scope) elements)
expression_step (layer.ObjectList span properties) = value span (λ scope. joined (λ p. p scope) properties)
expression_step (layer.Function f) = value_at 0 (λ scope. f.pairs false scope)
expression_step (layer.Arrow x) = value_at 0 x
expression_step (layer.Class c) = value_at 0 c.pairs
expression_step (layer.Chain span head links) = chain_found span head links
expression_step (layer.SuperMember span name) = super_found span (λ scope. named name)
expression_step (layer.SuperIndex span index) = super_found span index.key
expression_step (layer.SuperCall span arguments) = value span (λ scope. in_object_pairs span scope ++ joined (λ a. a scope) arguments)
expression_step (layer.NewTarget span) = value span nothing
expression_step (layer.New span callee arguments) = value span (λ scope. callee.pairs scope ++ joined (λ a. a scope) arguments)
expression_step (layer.Update span operator x) = value span (target_pairs x)
expression_step (layer.Unary span operator x) = value span (λ scope. deleted operator x ++ x.pairs scope)
expression_step (layer.Power span base exponent) = value span (λ scope. base.pairs scope ++ exponent.pairs scope)
expression_step (layer.Binary span first rest) = value span (λ scope. first.pairs scope ++ joined (λ o. o scope) rest)
expression_step (layer.Conditional span test yes_ no_) = value span (λ scope. test.pairs scope ++ yes_.pairs scope ++ no_.pairs scope)
expression_step (layer.Assign span operator target x) = value span (λ scope. target.pairs false scope ++ x.pairs scope)
expression_step (layer.Sequence span first rest) = value span (λ scope. first.pairs scope ++ joined (λ x. x.pairs scope) rest)
expression_step (layer.Yield span x) = value span (λ scope. maybe (λ y. y.pairs scope) x)
expression_step (layer.Delegate span x) = value span x.pairs
expression_step (layer.Group span held) = group_found span held
expression_step (layer.Cover span held rest) = value span (λ scope. maybe (λ x. x.pairs scope) held)

abbrev pub for_first_step : Layer ForFirst-F → HeadFound
for_first_step layer.NoFirst = record { lexical = []; vars = []; pairs = nothing }
for_first_step (layer.FirstVariables span kind parts) = record { lexical = lexical_names kind (parts_names parts); vars = var_names kind (parts_names parts); pairs = parts_pairs true parts }
for_first_step (layer.FirstExpression x) = record { lexical = []; vars = []; pairs = x.pairs }

abbrev pub for_target_step : Layer ForTarget-F → HeadFound
for_target_step (layer.Declared span kind x) = record { lexical = lexical_names kind x.names; vars = var_names kind x.names; pairs = x.pairs true }
for_target_step (layer.Assigned x) = record { lexical = []; vars = []; pairs = x.pairs false }

-- U10 at a literal name, and U9 but in a key
abbrev pub key_step : Layer Key-F → Inside
key_step (layer.WordKey span name) = λ scope. when (is_proto name) 10 span.begin
key_step (layer.TextKey span units) = λ scope. when (is_proto units || starts_with nat_eq units (codes "@@")) 10 span.begin
key_step (layer.IntegerKey span value) = nothing
key_step (layer.ComputedKey span x) = x.key

abbrev pub link_step : Layer Link-F → LinkFound
link_step (layer.Member span name) = record { member = Some name.name; is_call = false; pairs = λ scope. named name }
link_step (layer.Index span x) = record { member = None; is_call = false; pairs = x.key }
link_step (layer.Call span arguments) = record { member = None; is_call = true; pairs = λ scope. joined (λ a. a scope) arguments }
link_step (layer.Tagged x) = record { member = None; is_call = false; pairs = x }

abbrev pub object_part_step : Layer ObjectPart-F → TargetsFound
object_part_step (layer.NamedPart x) = x
object_part_step (layer.KeyedPart span key x) = record { names = x.names; pairs = λ declares scope. key scope ++ x.pairs declares scope }

abbrev pub parameter_step : Layer Parameter-F → TargetsFound
parameter_step (layer.SingleParameter x) = x
parameter_step (layer.RestParameter span x) = x

abbrev pub all_parts : List TargetsFound → TargetsFound
all_parts parts = record { names = parts_names parts; pairs = λ declares. parts_pairs declares parts }

abbrev pub pattern_step : Layer Pattern-F → TargetsFound
pattern_step (layer.Target x) = record { names = some_name x.name; pairs = λ declares scope. cond declares (all_named (some_name x.name)) (target_pairs x scope) }
pattern_step (layer.ArrayPattern span parts) = all_parts parts
pattern_step (layer.ObjectPattern span parts) = all_parts parts

abbrev pub property_step : Layer Property-F → Inside
property_step (layer.Plain span key x) = λ scope. key scope ++ x.pairs scope
property_step (layer.Shorthand span name) = (name_found span name).pairs
property_step (layer.Initialized span name equals x) = λ scope. (name_found name.span name.name).pairs scope ++ x.pairs scope
property_step (layer.Defined m) = m.pairs true

abbrev pub statement_step : Layer Statement-F → StatementFound
statement_step (layer.Block ss) = with_vars (block_vars ss) (block_pairs ss)
statement_step (layer.Variables span kind parts) = record { lexical = lexical_names kind (parts_names parts); functions = []; vars = var_names kind (parts_names parts); pairs = parts_pairs true parts }
statement_step (layer.Empty span) = plain nothing
statement_step (layer.Expression span x) = plain x.pairs
statement_step (layer.If span first more otherwise) = with_vars (first.vars ++ joined (λ c. c.vars) more ++ maybe (λ s. s.vars) otherwise) (λ scope. first.pairs scope ++ joined (λ c. c.pairs scope) more ++ maybe (λ s. s.pairs scope) otherwise)
statement_step (layer.DoWhile span body test) = with_vars body.vars (λ scope. body.pairs scope ++ test.pairs scope)
statement_step (layer.While span test body) = with_vars body.vars (λ scope. test.pairs scope ++ body.pairs scope)
statement_step (layer.For span first test update body) = with_vars (first.vars ++ body.vars) (λ scope. let inside = declaring first.lexical scope in first.pairs inside ++ maybe (λ x. x.pairs inside) test ++ maybe (λ x. x.pairs inside) update ++ body.pairs inside)
statement_step (layer.ForOf span target subject body) = with_vars (target.vars ++ body.vars) (λ scope. let inside = declaring target.lexical scope in target.pairs inside ++ subject.pairs inside ++ body.pairs inside)
statement_step (layer.Continue span label) = plain (λ scope. all_named (some_name label))
statement_step (layer.Break span label) = plain (λ scope. all_named (some_name label))
statement_step (layer.Return span x) = plain (λ scope. maybe (λ y. y.pairs scope) x)
statement_step (layer.Switch span subject cases) = let ss = joined (λ c. c.body) cases in with_vars (block_vars ss) (λ scope. subject.pairs scope ++ joined (λ c. c.test (declaring (block_names ss) scope)) cases ++ block_pairs ss scope)
statement_step (layer.Labelled span label body) = with_vars body.vars (λ scope. named label ++ body.pairs scope)
statement_step (layer.Throw span x) = plain x.pairs
statement_step (layer.Try span block handler last) = with_vars (block_vars block ++ maybe (λ h. h.vars) handler ++ maybe block_vars last) (λ scope. block_pairs block scope ++ maybe (λ h. h.pairs scope) handler ++ maybe (λ b. block_pairs b scope) last)
statement_step (layer.Debugger span) = plain nothing
statement_step (layer.FunctionDeclaration f) = record (plain (λ scope. f.pairs false scope)) { functions = f.name }
statement_step (layer.ClassDeclaration c) = record (plain c.pairs) { lexical = c.names }

abbrev pub arrow_step : Layer Arrow-F → Inside
arrow_step x = λ scope. function_pairs [] x.parameters x.body scope

abbrev pub block_step : Layer Block-F → List StatementFound
block_step x = x.statements

abbrev pub case_step : Layer Case-F → CaseFound
case_step x = record { body = x.body; test = λ scope. maybe (λ y. y.pairs scope) x.test }

abbrev pub catch_step : Layer Catch-F → PartFound
catch_step x = record { vars = block_vars x.body; pairs = λ scope. let inside = declaring x.parameter.names scope in x.parameter.pairs true inside ++ block_pairs x.body inside }

-- the name of a class is declared in its heritage and its members (14.5.14)
abbrev pub class_step : Layer Class-F → ClassFound
class_step x = record { names = some_name x.name; pairs = λ scope. let inside = declaring (some_name x.name) scope in all_named (some_name x.name) ++ maybe (λ h. heritage_pairs h inside ++ h.pairs inside) x.heritage ++ joined (λ m. m inside) x.members }

abbrev pub class_member_step : Layer ClassMember-F → Inside
class_member_step x = x.method.pairs false

abbrev pub condition_step : Layer Condition-F → PartFound
condition_step x = record { vars = x.body.vars; pairs = λ scope. x.test.pairs scope ++ x.body.pairs scope }

abbrev pub function_step : Layer Function-F → FunctionFound
function_step x = record { name = some_name x.name; pairs = λ in_object scope. all_named (some_name x.name) ++ function_pairs (arguments_name ∷ some_name x.name) x.parameters (record { names = body_names x.body; pairs = statements_pairs x.body }) (record scope { in_object = in_object }) }

abbrev pub method_step : Layer Method-F → MethodFound
method_step x = record { pairs = λ in_object scope. x.key scope ++ x.function.pairs in_object scope }

abbrev pub operand_step : Layer Operand-F → Inside
operand_step x = x.value.pairs

abbrev pub part_step : Layer Part-F → TargetsFound
part_step x = record { names = x.pattern.names; pairs = λ declares scope. x.pattern.pairs declares scope ++ maybe (λ y. y.pairs scope) x.default }

abbrev pub template_step : Layer Template-F → Inside
template_step x = λ scope. joined (λ p. p scope) x.rest

abbrev pub template_part_step : Layer TemplatePart-F → Inside
template_part_step x = x.value.pairs

-- what each kind of node gives, by the steps above
abbrev pub by_steps : {Node Result : Type 0} → ((Layer Argument-F → Inside) → (Layer ArrayPart-F → TargetsFound) → (Layer ArrowBody-F → BodyFound) → (Layer Element-F → Inside) → (Layer Expression-F → Found) → (Layer ForFirst-F → HeadFound) → (Layer ForTarget-F → HeadFound) → (Layer Key-F → Inside) → (Layer Link-F → LinkFound) → (Layer ObjectPart-F → TargetsFound) → (Layer Parameter-F → TargetsFound) → (Layer Pattern-F → TargetsFound) → (Layer Property-F → Inside) → (Layer Statement-F → StatementFound) → (Layer Arrow-F → Inside) → (Layer Block-F → (List StatementFound)) → (Layer Case-F → CaseFound) → (Layer Catch-F → PartFound) → (Layer Class-F → ClassFound) → (Layer ClassMember-F → Inside) → (Layer Condition-F → PartFound) → (Layer Function-F → FunctionFound) → (Layer Method-F → MethodFound) → (Layer Operand-F → Inside) → (Layer Part-F → TargetsFound) → (Layer Template-F → Inside) → (Layer TemplatePart-F → Inside) → Node → Result) → Node → Result
by_steps fold_ = fold_ argument_step array_part_step arrow_body_step element_step expression_step for_first_step for_target_step key_step link_step object_part_step parameter_step pattern_step property_step statement_step arrow_step block_step case_step catch_step class_step class_member_step condition_step function_step method_step operand_step part_step template_step template_part_step

abbrev pub argument_found : Argument → Inside
argument_found = by_steps (fold-Argument Inside TargetsFound BodyFound Inside Found HeadFound HeadFound Inside LinkFound TargetsFound TargetsFound TargetsFound Inside StatementFound Inside (List StatementFound) CaseFound PartFound ClassFound Inside PartFound FunctionFound MethodFound Inside TargetsFound Inside Inside)

abbrev pub array_part_found : ArrayPart → TargetsFound
array_part_found = by_steps (fold-ArrayPart Inside TargetsFound BodyFound Inside Found HeadFound HeadFound Inside LinkFound TargetsFound TargetsFound TargetsFound Inside StatementFound Inside (List StatementFound) CaseFound PartFound ClassFound Inside PartFound FunctionFound MethodFound Inside TargetsFound Inside Inside)

abbrev pub arrow_body_found : ArrowBody → BodyFound
arrow_body_found = by_steps (fold-ArrowBody Inside TargetsFound BodyFound Inside Found HeadFound HeadFound Inside LinkFound TargetsFound TargetsFound TargetsFound Inside StatementFound Inside (List StatementFound) CaseFound PartFound ClassFound Inside PartFound FunctionFound MethodFound Inside TargetsFound Inside Inside)

abbrev pub element_found : Element → Inside
element_found = by_steps (fold-Element Inside TargetsFound BodyFound Inside Found HeadFound HeadFound Inside LinkFound TargetsFound TargetsFound TargetsFound Inside StatementFound Inside (List StatementFound) CaseFound PartFound ClassFound Inside PartFound FunctionFound MethodFound Inside TargetsFound Inside Inside)

abbrev pub expression_found : Expression → Found
expression_found = by_steps (fold-Expression Inside TargetsFound BodyFound Inside Found HeadFound HeadFound Inside LinkFound TargetsFound TargetsFound TargetsFound Inside StatementFound Inside (List StatementFound) CaseFound PartFound ClassFound Inside PartFound FunctionFound MethodFound Inside TargetsFound Inside Inside)

abbrev pub for_first_found : ForFirst → HeadFound
for_first_found = by_steps (fold-ForFirst Inside TargetsFound BodyFound Inside Found HeadFound HeadFound Inside LinkFound TargetsFound TargetsFound TargetsFound Inside StatementFound Inside (List StatementFound) CaseFound PartFound ClassFound Inside PartFound FunctionFound MethodFound Inside TargetsFound Inside Inside)

abbrev pub for_target_found : ForTarget → HeadFound
for_target_found = by_steps (fold-ForTarget Inside TargetsFound BodyFound Inside Found HeadFound HeadFound Inside LinkFound TargetsFound TargetsFound TargetsFound Inside StatementFound Inside (List StatementFound) CaseFound PartFound ClassFound Inside PartFound FunctionFound MethodFound Inside TargetsFound Inside Inside)

abbrev pub key_found : Key → Inside
key_found = by_steps (fold-Key Inside TargetsFound BodyFound Inside Found HeadFound HeadFound Inside LinkFound TargetsFound TargetsFound TargetsFound Inside StatementFound Inside (List StatementFound) CaseFound PartFound ClassFound Inside PartFound FunctionFound MethodFound Inside TargetsFound Inside Inside)

abbrev pub link_found : Link → LinkFound
link_found = by_steps (fold-Link Inside TargetsFound BodyFound Inside Found HeadFound HeadFound Inside LinkFound TargetsFound TargetsFound TargetsFound Inside StatementFound Inside (List StatementFound) CaseFound PartFound ClassFound Inside PartFound FunctionFound MethodFound Inside TargetsFound Inside Inside)

abbrev pub object_part_found : ObjectPart → TargetsFound
object_part_found = by_steps (fold-ObjectPart Inside TargetsFound BodyFound Inside Found HeadFound HeadFound Inside LinkFound TargetsFound TargetsFound TargetsFound Inside StatementFound Inside (List StatementFound) CaseFound PartFound ClassFound Inside PartFound FunctionFound MethodFound Inside TargetsFound Inside Inside)

abbrev pub parameter_found : Parameter → TargetsFound
parameter_found = by_steps (fold-Parameter Inside TargetsFound BodyFound Inside Found HeadFound HeadFound Inside LinkFound TargetsFound TargetsFound TargetsFound Inside StatementFound Inside (List StatementFound) CaseFound PartFound ClassFound Inside PartFound FunctionFound MethodFound Inside TargetsFound Inside Inside)

abbrev pub pattern_found : Pattern → TargetsFound
pattern_found = by_steps (fold-Pattern Inside TargetsFound BodyFound Inside Found HeadFound HeadFound Inside LinkFound TargetsFound TargetsFound TargetsFound Inside StatementFound Inside (List StatementFound) CaseFound PartFound ClassFound Inside PartFound FunctionFound MethodFound Inside TargetsFound Inside Inside)

abbrev pub property_found : Property → Inside
property_found = by_steps (fold-Property Inside TargetsFound BodyFound Inside Found HeadFound HeadFound Inside LinkFound TargetsFound TargetsFound TargetsFound Inside StatementFound Inside (List StatementFound) CaseFound PartFound ClassFound Inside PartFound FunctionFound MethodFound Inside TargetsFound Inside Inside)

abbrev pub statement_found : Statement → StatementFound
statement_found = by_steps (fold-Statement Inside TargetsFound BodyFound Inside Found HeadFound HeadFound Inside LinkFound TargetsFound TargetsFound TargetsFound Inside StatementFound Inside (List StatementFound) CaseFound PartFound ClassFound Inside PartFound FunctionFound MethodFound Inside TargetsFound Inside Inside)

abbrev pub arrow_found : Arrow → Inside
arrow_found = by_steps (fold-Arrow Inside TargetsFound BodyFound Inside Found HeadFound HeadFound Inside LinkFound TargetsFound TargetsFound TargetsFound Inside StatementFound Inside (List StatementFound) CaseFound PartFound ClassFound Inside PartFound FunctionFound MethodFound Inside TargetsFound Inside Inside)

abbrev pub block_found : Block → List StatementFound
block_found = by_steps (fold-Block Inside TargetsFound BodyFound Inside Found HeadFound HeadFound Inside LinkFound TargetsFound TargetsFound TargetsFound Inside StatementFound Inside (List StatementFound) CaseFound PartFound ClassFound Inside PartFound FunctionFound MethodFound Inside TargetsFound Inside Inside)

abbrev pub case_found : Case → CaseFound
case_found = by_steps (fold-Case Inside TargetsFound BodyFound Inside Found HeadFound HeadFound Inside LinkFound TargetsFound TargetsFound TargetsFound Inside StatementFound Inside (List StatementFound) CaseFound PartFound ClassFound Inside PartFound FunctionFound MethodFound Inside TargetsFound Inside Inside)

abbrev pub catch_found : Catch → PartFound
catch_found = by_steps (fold-Catch Inside TargetsFound BodyFound Inside Found HeadFound HeadFound Inside LinkFound TargetsFound TargetsFound TargetsFound Inside StatementFound Inside (List StatementFound) CaseFound PartFound ClassFound Inside PartFound FunctionFound MethodFound Inside TargetsFound Inside Inside)

abbrev pub class_found : Class → ClassFound
class_found = by_steps (fold-Class Inside TargetsFound BodyFound Inside Found HeadFound HeadFound Inside LinkFound TargetsFound TargetsFound TargetsFound Inside StatementFound Inside (List StatementFound) CaseFound PartFound ClassFound Inside PartFound FunctionFound MethodFound Inside TargetsFound Inside Inside)

abbrev pub class_member_found : ClassMember → Inside
class_member_found = by_steps (fold-ClassMember Inside TargetsFound BodyFound Inside Found HeadFound HeadFound Inside LinkFound TargetsFound TargetsFound TargetsFound Inside StatementFound Inside (List StatementFound) CaseFound PartFound ClassFound Inside PartFound FunctionFound MethodFound Inside TargetsFound Inside Inside)

abbrev pub condition_found : Condition → PartFound
condition_found = by_steps (fold-Condition Inside TargetsFound BodyFound Inside Found HeadFound HeadFound Inside LinkFound TargetsFound TargetsFound TargetsFound Inside StatementFound Inside (List StatementFound) CaseFound PartFound ClassFound Inside PartFound FunctionFound MethodFound Inside TargetsFound Inside Inside)

abbrev pub function_found : Function → FunctionFound
function_found = by_steps (fold-Function Inside TargetsFound BodyFound Inside Found HeadFound HeadFound Inside LinkFound TargetsFound TargetsFound TargetsFound Inside StatementFound Inside (List StatementFound) CaseFound PartFound ClassFound Inside PartFound FunctionFound MethodFound Inside TargetsFound Inside Inside)

abbrev pub method_found : Method → MethodFound
method_found = by_steps (fold-Method Inside TargetsFound BodyFound Inside Found HeadFound HeadFound Inside LinkFound TargetsFound TargetsFound TargetsFound Inside StatementFound Inside (List StatementFound) CaseFound PartFound ClassFound Inside PartFound FunctionFound MethodFound Inside TargetsFound Inside Inside)

abbrev pub operand_found : Operand → Inside
operand_found = by_steps (fold-Operand Inside TargetsFound BodyFound Inside Found HeadFound HeadFound Inside LinkFound TargetsFound TargetsFound TargetsFound Inside StatementFound Inside (List StatementFound) CaseFound PartFound ClassFound Inside PartFound FunctionFound MethodFound Inside TargetsFound Inside Inside)

abbrev pub part_found : Part → TargetsFound
part_found = by_steps (fold-Part Inside TargetsFound BodyFound Inside Found HeadFound HeadFound Inside LinkFound TargetsFound TargetsFound TargetsFound Inside StatementFound Inside (List StatementFound) CaseFound PartFound ClassFound Inside PartFound FunctionFound MethodFound Inside TargetsFound Inside Inside)

abbrev pub template_found : Template → Inside
template_found = by_steps (fold-Template Inside TargetsFound BodyFound Inside Found HeadFound HeadFound Inside LinkFound TargetsFound TargetsFound TargetsFound Inside StatementFound Inside (List StatementFound) CaseFound PartFound ClassFound Inside PartFound FunctionFound MethodFound Inside TargetsFound Inside Inside)

abbrev pub template_part_found : TemplatePart → Inside
template_part_found = by_steps (fold-TemplatePart Inside TargetsFound BodyFound Inside Found HeadFound HeadFound Inside LinkFound TargetsFound TargetsFound TargetsFound Inside StatementFound Inside (List StatementFound) CaseFound PartFound ClassFound Inside PartFound FunctionFound MethodFound Inside TargetsFound Inside Inside)

abbrev pub is_host : Specifier → Bool
is_host from = bytes_eq from.text (codes "host")

-- the names that an import binds (15.2.2)
abbrev pub more_names : ImportedNames → List Identifier
more_names NoNames = []
more_names (Namespace n) = n ∷ []
more_names (Listed ns) = joined (λ n. n.local ∷ []) ns

-- an import with no default, and no names or a list
abbrev pub is_bare_or_list : Option Identifier → ImportedNames → Bool
is_bare_or_list default_ NoNames = not (is_some default_)
is_bare_or_list default_ (Namespace n) = false
is_bare_or_list default_ (Listed ns) = not (is_some default_)

-- what an item declares, and its pairs in the module's scope
pub record ItemFound : Type 0 where
  pub known : List Known
  pub pairs : Inside

abbrev pub of_statement : StatementFound → ItemFound
of_statement s = record { known = map (knows false) (s.lexical ++ s.functions ++ s.vars); pairs = s.pairs }

abbrev pub default_found : DefaultExport → ItemFound
default_found (DefaultFunction f) = record { known = map (knows false) (function_found f).name; pairs = (function_found f).pairs false }
default_found (DefaultClass c) = record { known = map (knows false) (class_found c).names; pairs = (class_found c).pairs }
default_found (DefaultValue x) = record { known = []; pairs = (expression_found x).pairs }

-- U14 at a name of the host that is exported
abbrev pub export_pairs : Option Specifier → List ExportName → Inside
export_pairs None ns scope = joined (λ n. named n.local ++ named n.exported ++ host_pairs n.local.name n.local.span.begin scope) ns
export_pairs (Some from) ns scope = joined (λ n. named n.local ++ named n.exported) ns ++ when (is_host from) 15 from.span.begin

abbrev pub imported_names : ImportedNames → List Identifier
imported_names NoNames = []
imported_names (Namespace n) = []
imported_names (Listed ns) = joined (λ n. n.imported ∷ []) ns

-- U15 among them
abbrev pub item_found : Item → ItemFound
item_found (item.Import span default_ names from) =
    let locals = some_name default_ ++ more_names names in
    record { known = map (knows (is_host from)) locals; pairs = λ scope. all_named (locals ++ imported_names names) ++ when (is_host from && not (is_bare_or_list default_ names)) 15 from.span.begin }
item_found (item.ExportNames span names from) = record { known = []; pairs = export_pairs from names }
item_found (item.ExportAll span from) = record { known = []; pairs = λ scope. when (is_host from) 15 from.span.begin }
item_found (item.ExportDeclaration span s) = of_statement (statement_found s)
item_found (item.ExportDefault span word x) = default_found x
item_found (item.Statement s) = of_statement (statement_found s)

-- the pairs of a module by its items, in no order of their own
abbrev pub module_pairs : List ItemFound → List Pair
module_pairs found = joined (λ x. x.pairs (record { known = joined (λ y. y.known) found; in_object = false })) found

abbrev pub outside_pairs : Module → List Pair
outside_pairs m = module_pairs (map item_found m.items)
