-- The early errors of modules (ECMA-262, 6th edition, 12 to 15, each row with its section), as pairs of a rule and a place.
-- docs/PROFILE.md has the table.
use Rattle.std.specs.Prelude.{ℕ, ◌-◌, Bool, true, false, ◌&&◌, ◌||◌, not, ◌==◌, List, [], ◌∷◌, ◌++◌, codes, cond, Option, Some, None, is_some, map}
use Rattle.std.specs.List.{list_any}
use Rattle.std.specs.Str.{bytes_eq}
use Rattle.es_text.specs.declared.Span.{Span}
use Rattle.es_outside.specs.HostNames.{is_among}
use Rattle.es6_ast.specs.declared.operators.UnaryOperator.{UnaryOperator}
use Rattle.es6_ast.specs.declared.operators.UnaryOperator.TheVariants as unaries
use Rattle.es6_ast.specs.declared.operators.AssignOperator.{AssignOperator}
use Rattle.es6_ast.specs.declared.operators.AssignOperator.TheVariants as assign
use Rattle.es6_ast.specs.declared.operators.Literal.{Literal}
use Rattle.es6_ast.specs.declared.operators.Literal.TheVariants as literals
use Rattle.es6_ast.specs.declared.operators.VariableKind.{VariableKind}
use Rattle.es6_ast.specs.declared.operators.VariableKind.TheVariants.{Var, Let, Const}
use Rattle.es6_ast.specs.declared.operators.MethodKind.{MethodKind}
use Rattle.es6_ast.specs.declared.operators.MethodKind.TheVariants.{PlainMethod}
use Rattle.es6_ast.specs.declared.tree.Identifier.{Identifier}
use Rattle.es6_ast.specs.declared.tree.Argument.{Argument, fold-Argument}
use Rattle.es6_ast.specs.declared.tree.ArrayPart.{ArrayPart, fold-ArrayPart}
use Rattle.es6_ast.specs.declared.tree.ArrowBody.{ArrowBody, fold-ArrowBody}
use Rattle.es6_ast.specs.declared.tree.Element.{Element, fold-Element}
use Rattle.es6_ast.specs.declared.tree.Expression.{Expression, fold-Expression}
use Rattle.es6_ast.specs.declared.tree.ForFirst.{ForFirst, fold-ForFirst}
use Rattle.es6_ast.specs.declared.tree.ForTarget.{ForTarget, fold-ForTarget}
use Rattle.es6_ast.specs.declared.tree.Key.{Key, fold-Key}
use Rattle.es6_ast.specs.declared.tree.Link.{Link, fold-Link}
use Rattle.es6_ast.specs.declared.tree.ObjectPart.{ObjectPart, fold-ObjectPart}
use Rattle.es6_ast.specs.declared.tree.Parameter.{Parameter, fold-Parameter}
use Rattle.es6_ast.specs.declared.tree.Pattern.{Pattern, fold-Pattern}
use Rattle.es6_ast.specs.declared.tree.Property.{Property, fold-Property}
use Rattle.es6_ast.specs.declared.tree.Statement.{Statement, fold-Statement}
use Rattle.es6_ast.specs.declared.tree.Arrow.{Arrow, fold-Arrow}
use Rattle.es6_ast.specs.declared.tree.Block.{Block, fold-Block}
use Rattle.es6_ast.specs.declared.tree.Case.{Case, fold-Case}
use Rattle.es6_ast.specs.declared.tree.Catch.{Catch, fold-Catch}
use Rattle.es6_ast.specs.declared.tree.Class.{Class, fold-Class}
use Rattle.es6_ast.specs.declared.tree.ClassMember.{ClassMember, fold-ClassMember}
use Rattle.es6_ast.specs.declared.tree.Condition.{Condition, fold-Condition}
use Rattle.es6_ast.specs.declared.tree.Function.{Function, fold-Function}
use Rattle.es6_ast.specs.declared.tree.Method.{Method, fold-Method}
use Rattle.es6_ast.specs.declared.tree.Operand.{Operand, fold-Operand}
use Rattle.es6_ast.specs.declared.tree.Part.{Part, fold-Part}
use Rattle.es6_ast.specs.declared.tree.Template.{Template, fold-Template}
use Rattle.es6_ast.specs.declared.tree.TemplatePart.{TemplatePart, fold-TemplatePart}
use Rattle.es6_ast.specs.declared.tree.Argument.TheOpen as layer
use Rattle.es6_ast.specs.declared.tree.Argument.TheOpen.{Argument-F, ArrayPart-F, ArrowBody-F, Element-F, Expression-F, ForFirst-F, ForTarget-F, Key-F, Link-F, ObjectPart-F, Parameter-F, Pattern-F, Property-F, Statement-F, Arrow-F, Block-F, Case-F, Catch-F, Class-F, ClassMember-F, Condition-F, Function-F, Method-F, Operand-F, Part-F, Template-F, TemplatePart-F}
use Rattle.es6_ast.specs.declared.module.Module.{Module}
use Rattle.es6_ast.specs.declared.module.Item.{Item}
use Rattle.es6_ast.specs.declared.module.Item.TheVariants as item
use Rattle.es6_ast.specs.declared.module.ImportedNames.{ImportedNames}
use Rattle.es6_ast.specs.declared.module.ImportedNames.TheVariants.{NoNames, Namespace, Listed}
use Rattle.es6_ast.specs.declared.module.ExportName.{ExportName}
use Rattle.es6_ast.specs.declared.module.DefaultExport.{DefaultExport}
use Rattle.es6_ast.specs.declared.module.DefaultExport.TheVariants.{DefaultFunction, DefaultClass, DefaultValue}
use Rattle.es6_ast.specs.declared.module.Specifier.{Specifier}
use Rattle.es6_static_semantics.specs.Findings.{Pair, when, joined, maybe, is_name_of, repeated, shared, clashes}
use Rattle.es6_ast.specs.Targets.{AsTarget, AsElement, NoElement, OneElement, LastElement, expression_target}

-- a label, and whether it labels a loop
pub record Label : Type 0 where
  pub name : List ℕ
  pub is_loop : Bool

-- Whether a super call, a super property and `new.target` may stand at a place, and whether it is in parameters.
pub record Rights : Type 0 where
  pub super_call : Bool
  pub super_property : Bool
  pub new_target : Bool
  pub in_parameters : Bool

-- What is round a statement, inside the innermost function, arrow, method or accessor: the rights there, the labels, and whether
-- it is in a loop, or in a switch.
pub record Around : Type 0 where
  pub rights : Rights
  pub labels : List Label
  pub in_loop : Bool
  pub in_switch : Bool

abbrev pub Inside : Type 0
Inside = Rights → List Pair

abbrev pub Outer : Type 0
Outer = Around → List Pair

abbrev pub rights_of_function : Bool → Bool → Rights
rights_of_function super_call super_property = record { super_call = super_call; super_property = super_property; new_target = true; in_parameters = false }

abbrev pub rights_at_top : Rights
rights_at_top = record { super_call = false; super_property = false; new_target = false; in_parameters = false }

-- an arrow has the rights of what is round it
abbrev pub with_parameters : Bool → Rights → Rights
with_parameters in_parameters r = record r { in_parameters = in_parameters }

-- the statements of a body
abbrev pub in_body : Rights → Around
in_body rights = record { rights = rights; labels = []; in_loop = false; in_switch = false }

abbrev pub under_loop : Around → Around
under_loop r = record r { in_loop = true }

abbrev pub under_switch : Around → Around
under_switch r = record r { in_switch = true }

abbrev pub under_label : List ℕ → Bool → Around → Around
under_label name is_loop r = record r { labels = record { name = name; is_loop = is_loop } ∷ r.labels }

abbrev pub has_label : List ℕ → List Label → Bool
has_label name labels = list_any (λ l. bytes_eq l.name name) labels

abbrev pub has_loop_label : List ℕ → List Label → Bool
has_loop_label name labels = list_any (λ l. l.is_loop && bytes_eq l.name name) labels

-- whether a statement is a directive (14.1.1), and the one of strict code, without escapes: its token has twelve characters
pub data Directive : Type 0 where
  NoDirective : Directive
  OtherDirective : Directive
  StrictDirective : ℕ → Directive

-- What each node gives. An expression: what it is as a target, whether it is a directive, and the pairs in it.
pub record Found : Type 0 where
  pub target : AsTarget
  pub directive : Directive
  pub pairs : Inside

pub record ArgumentFound : Type 0 where
  pub element : AsElement
  pub pairs : Inside

pub record LinkFound : Type 0 where
  pub access : Bool
  pub pairs : Inside

pub record PropertyFound : Type 0 where
  pub misfit : Option ℕ
  pub pairs : Inside

-- an arrow or a template, where it begins, and a class with its name
pub record ClassFound : Type 0 where
  pub begin : ℕ
  pub names : List Identifier
  pub pairs : Inside

pub record PlacedFound : Type 0 where
  pub begin : ℕ
  pub pairs : Inside

-- a pattern or a part of one: the names that it binds; the pairs by whether it binds them or something is assigned, and where
-- it is updated; its first misfit; whether it is a name by itself, and whether it has a default
pub record TargetsFound : Type 0 where
  pub names : List Identifier
  pub pairs : Bool → Inside
  pub updated : Inside
  pub misfit : Option ℕ
  pub is_name : Bool
  pub has_default : Bool

-- a statement: whether it is a loop, labelled or not, or a function; the lexical names that it declares, the function that it
-- declares, labelled or not, and the var names in it; the pairs of the scopes in it, on which nothing round it bears, and its
-- other pairs
pub record StatementFound : Type 0 where
  pub is_loop : Bool
  pub is_function : Bool
  pub lexical : List Identifier
  pub functions : List Identifier
  pub vars : List Identifier
  pub directive : Directive
  pub scopes : List Pair
  pub pairs : Outer

-- the head of a loop
pub record HeadFound : Type 0 where
  pub lexical : List Identifier
  pub vars : List Identifier
  pub pairs : Inside

pub record PartFound : Type 0 where
  pub vars : List Identifier
  pub scopes : List Pair
  pub pairs : Outer

pub record CaseFound : Type 0 where
  pub body : List StatementFound
  pub test : Inside

-- an arrow's body, by the arrow's parameters
pub record BodyFound : Type 0 where
  pub pairs : List TargetsFound → Inside

-- a property name: the name that is written, and where
pub record KeyFound : Type 0 where
  pub name : Option (List ℕ)
  pub at : ℕ
  pub pairs : Inside

-- a function by the rights that it has
pub record FunctionFound : Type 0 where
  pub begin : ℕ
  pub name : Option Identifier
  pub pairs : Inside

-- a method by whether a super call may stand in it
pub record MethodFound : Type 0 where
  pub begin : ℕ
  pub kind : MethodKind
  pub key : KeyFound
  pub pairs : Bool → Inside

pub record MemberFound : Type 0 where
  pub is_static : Bool
  pub method : MethodFound

-- 12.1.1, 14.1.2: `eval` and `arguments` are neither bound nor assigned
abbrev pub is_restricted : List ℕ → Bool
is_restricted name = is_among (codes "eval" ∷ codes "arguments" ∷ []) name

-- E7 (12.1.1, 13.3.1.1, 14.1.2, 14.2.1)
abbrev pub bound : Identifier → List Pair
bound x = when (is_restricted x.name) 7 x.span.begin

-- E8 (12.14.1, 12.14.5.1, 12.4.1, 12.5.1, 13.7.5.1)
abbrev pub restricted : AsTarget → List Pair
restricted x = maybe (λ n. when (is_restricted n.name) 8 n.span.begin) x.name

-- E10 (12.14.1, 12.14.5.1, 12.4.1, 12.5.1, 13.7.5.1): the first part that no pattern spells, or where none may stand the target
abbrev pub misfits : Option ℕ → List Pair
misfits m = maybe (λ at. when true 10 at) m

abbrev pub no_simple : AsTarget → List Pair
no_simple x = when (not x.simple) 10 x.begin

-- E9 (12.5.4.1)
abbrev pub deleted : UnaryOperator → AsTarget → Span → List Pair
deleted unaries.Delete x span = when (is_some x.name) 9 span.begin
deleted _ x span = []

-- E1 and E2 (13.2.1, 13.12.1, 14.1.2, 14.2.1, 15.2.1.1)
abbrev pub scope_pairs : List Identifier → List Identifier → List Pair
scope_pairs lexical vars = repeated 1 [] lexical ++ clashes 2 lexical vars

-- statements as a block's: a function is a lexical name, behind labels too (13.2.5, 13.13.6)
abbrev pub block_lexical : List StatementFound → List Identifier
block_lexical ss = joined (λ s. s.lexical ++ s.functions) ss

abbrev pub block_vars : List StatementFound → List Identifier
block_vars ss = joined (λ s. s.vars) ss

abbrev pub statements_pairs : List StatementFound → Outer
statements_pairs ss r = joined (λ s. s.pairs r) ss

abbrev pub statements_scopes : List StatementFound → List Pair
statements_scopes ss = joined (λ s. s.scopes) ss

abbrev pub block_scopes : List StatementFound → List Pair
block_scopes ss = statements_scopes ss ++ scope_pairs (block_lexical ss) (block_vars ss)

-- the first directive of strict code at the statements' start
abbrev pub strict_directive : List StatementFound → Option ℕ
strict_directive [] = None
strict_directive (s ∷ ss) = here s.directive (strict_directive ss)
  where
    here : Directive → Option ℕ → Option ℕ
    here NoDirective later = None
    here OtherDirective later = later
    here (StrictDirective at) later = Some at

abbrev pub is_plain : TargetsFound → Bool
is_plain p = p.is_name && not p.has_default

abbrev pub are_plain : List TargetsFound → Bool
are_plain [] = true
are_plain (p ∷ ps) = is_plain p && are_plain ps

abbrev pub parameter_names : List TargetsFound → List Identifier
parameter_names ps = joined (λ p. p.names) ps

abbrev pub parts_pairs : Bool → List TargetsFound → Inside
parts_pairs binds ps r = joined (λ p. p.pairs binds r) ps

-- parameters with E4 (14.1.2, 14.2.1)
abbrev pub parameters_pairs : List TargetsFound → Inside
parameters_pairs ps r = parts_pairs true ps r ++ repeated 4 [] (parameter_names ps)

-- The scopes of a function's body with its parameters: a function that it declares, behind labels too, is a var name (14.1,
-- TopLevelVarDeclaredNames). E3 (14.1.2, 14.2.1), and E25 (the 7th edition, 14.1.2, 14.2.1, 14.3.1).
abbrev pub body_scopes : List TargetsFound → List StatementFound → List Pair
body_scopes ps ss =
    let lexical = joined (λ s. s.lexical) ss in
    statements_scopes ss ++ scope_pairs lexical (joined (λ s. s.functions ++ s.vars) ss) ++ shared 3 (parameter_names ps) lexical ++ maybe (λ at. when (not (are_plain ps)) 25 at) (strict_directive ss)

abbrev pub body_pairs : List TargetsFound → List StatementFound → Inside
body_pairs ps ss r = statements_pairs ss (in_body r) ++ body_scopes ps ss

-- E14 and E15 (13.8.1, 13.9.1)
abbrev pub jump_pairs : Option Identifier → (List ℕ → Bool) → Bool → Span → List Pair
jump_pairs None is_label allowed span = when (not allowed) 15 span.begin
jump_pairs (Some x) is_label allowed span = when (not (is_label x.name)) 14 x.span.begin

-- E12 (13.3.1.1) at a variable that is a name alone
abbrev pub const_pairs : VariableKind → TargetsFound → List Pair
const_pairs Var p = []
const_pairs Let p = []
const_pairs Const p = cond (is_plain p) (joined (λ n. when true 12 n.span.begin) p.names) []

abbrev pub variables_pairs : VariableKind → List TargetsFound → Inside
variables_pairs kind ps r = joined (λ p. const_pairs kind p ++ p.pairs true r) ps

abbrev pub lexical_names : VariableKind → List Identifier → List Identifier
lexical_names Var names = []
lexical_names Let names = names
lexical_names Const names = names

abbrev pub var_names : VariableKind → List Identifier → List Identifier
var_names Var names = names
var_names Let names = []
var_names Const names = []

-- the lexical names of a loop's head with E1 and E6 (13.7.4.1, 13.7.5.1)
abbrev pub head_pairs : List Identifier → List Identifier → List Pair
head_pairs lexical body_vars = repeated 1 [] lexical ++ shared 6 lexical body_vars

-- the members of a class with E20, E21 and E22 (14.5.1)
abbrev pub is_named : List ℕ → KeyFound → Bool
is_named name key = maybe_is key.name
  where
    maybe_is : Option (List ℕ) → Bool
    maybe_is None = false
    maybe_is (Some other) = bytes_eq other name

abbrev pub is_plain_method : MethodKind → Bool
is_plain_method PlainMethod = true
is_plain_method _ = false

-- a method, an accessor or a generator of the class's prototype that is named `constructor`
abbrev pub is_constructor : MemberFound → Bool
is_constructor c = not c.is_static && is_named (codes "constructor") c.method.key

abbrev pub member_pairs : Bool → MemberFound → Inside
member_pairs derived c r =
    when (is_constructor c && not (is_plain_method c.method.kind)) 21 c.method.key.at
    ++ when (c.is_static && is_named (codes "prototype") c.method.key) 22 c.method.key.at
    ++ c.method.pairs (derived && is_constructor c && is_plain_method c.method.kind) r

abbrev pub members_pairs : Bool → Bool → List MemberFound → Inside
members_pairs derived seen [] r = []
members_pairs derived seen (c ∷ cs) r = when (seen && is_constructor c) 20 c.method.key.at ++ member_pairs derived c r ++ members_pairs derived (seen || is_constructor c) cs r

abbrev pub nothing : Inside
nothing r = []

-- pairs that what is round a statement changes by its rights alone
abbrev pub by_rights : Inside → Outer
by_rights pairs r = pairs r.rights

abbrev pub plain : Outer → StatementFound
plain pairs = record { is_loop = false; is_function = false; lexical = []; functions = []; vars = []; directive = NoDirective; scopes = []; pairs = pairs }

abbrev pub with_vars : List Identifier → List Pair → Outer → StatementFound
with_vars vars scopes pairs = record (plain pairs) { vars = vars; scopes = scopes }

abbrev pub loop_with : List Identifier → List Pair → Outer → StatementFound
loop_with vars scopes pairs = record (with_vars vars scopes pairs) { is_loop = true }

abbrev pub some_name : Option Identifier → List Identifier
some_name None = []
some_name (Some x) = x ∷ []

abbrev pub assigned_by : AssignOperator → TargetsFound → Inside
assigned_by assign.Assign t = t.pairs false
assigned_by _ t = t.updated

abbrev pub is_strict_text : List ℕ → Span → Bool
is_strict_text units span = bytes_eq units (codes "use strict") && span.end - span.begin == 12

abbrev pub literal_directive : Literal → Span → Directive
literal_directive (literals.Text units) span = cond (is_strict_text units span) (StrictDirective span.begin) OtherDirective
literal_directive _ span = NoDirective

abbrev pub Layer : (Type 0 → Type 0 → Type 0 → Type 0 → Type 0 → Type 0 → Type 0 → Type 0 → Type 0 → Type 0 → Type 0 → Type 0 → Type 0 → Type 0 → Type 0 → Type 0 → Type 0 → Type 0 → Type 0 → Type 0 → Type 0 → Type 0 → Type 0 → Type 0 → Type 0 → Type 0 → Type 0 → Type 0) → Type 0
Layer Of = Of ArgumentFound TargetsFound BodyFound ArgumentFound Found HeadFound HeadFound KeyFound LinkFound TargetsFound TargetsFound TargetsFound PropertyFound StatementFound PlacedFound (List StatementFound) CaseFound PartFound ClassFound MemberFound PartFound FunctionFound MethodFound Inside TargetsFound PlacedFound Inside

abbrev pub argument_step : Layer Argument-F → ArgumentFound
argument_step (layer.Single x) = record { element = OneElement x.target.part_misfit; pairs = x.pairs }
argument_step (layer.Spread span x) = record { element = LastElement span.begin x.target.target_misfit; pairs = x.pairs }

abbrev pub array_part_step : Layer ArrayPart-F → TargetsFound
array_part_step layer.SkippedPart = record { names = []; pairs = λ binds. nothing; updated = nothing; misfit = None; is_name = false; has_default = false }
array_part_step (layer.SinglePart x) = x
array_part_step (layer.RestPart span x) = record x { is_name = false }

abbrev pub arrow_body_step : Layer ArrowBody-F → BodyFound
arrow_body_step (layer.ValueBody x) = record { pairs = λ ps r. x.pairs r }
arrow_body_step (layer.BlockBody ss) = record { pairs = λ ps r. body_pairs ps ss r }

abbrev pub element_step : Layer Element-F → ArgumentFound
element_step layer.Hole = record { element = NoElement; pairs = nothing }
element_step (layer.Present x) = x

-- the pairs of an expression: E16 (14.4.1, 14.2.1), E17 and E18 (12.2.6.1, 14.1.2, 14.3.1, 14.5.1, 15.2.1.1) and E19 (14.1.2,
-- 15.2.1.1) among them
abbrev pub expression_pairs : Layer Expression-F → Inside
expression_pairs (layer.This span) = nothing
expression_pairs (layer.Name span name) = nothing
expression_pairs (layer.Literal span value) = nothing
expression_pairs (layer.Template x) = x.pairs
expression_pairs (layer.ArrayList span elements comma) = λ r. joined (λ e. e.pairs r) elements
expression_pairs (layer.ObjectList span properties) = λ r. joined (λ p. p.pairs r) properties
expression_pairs (layer.Function x) = λ r. x.pairs (rights_of_function false false)
expression_pairs (layer.Arrow x) = x.pairs
expression_pairs (layer.Class x) = x.pairs
expression_pairs (layer.Chain span head links) = λ r. head.pairs r ++ joined (λ l. l.pairs r) links
expression_pairs (layer.SuperMember span name) = λ r. when (not r.super_property) 18 span.begin
expression_pairs (layer.SuperIndex span index) = λ r. when (not r.super_property) 18 span.begin ++ index.pairs r
expression_pairs (layer.SuperCall span arguments) = λ r. when (not r.super_call) 17 span.begin ++ joined (λ a. a.pairs r) arguments
expression_pairs (layer.NewTarget span) = λ r. when (not r.new_target) 19 span.begin
expression_pairs (layer.New span callee arguments) = λ r. callee.pairs r ++ joined (λ a. a.pairs r) arguments
expression_pairs (layer.Update span operator target) = λ r. no_simple target.target ++ restricted target.target ++ target.pairs r
expression_pairs (layer.Unary span operator operand) = λ r. deleted operator operand.target span ++ operand.pairs r
expression_pairs (layer.Power span base exponent) = λ r. base.pairs r ++ exponent.pairs r
expression_pairs (layer.Binary span first rest) = λ r. first.pairs r ++ joined (λ o. o r) rest
expression_pairs (layer.Conditional span test yes_ no_) = λ r. test.pairs r ++ yes_.pairs r ++ no_.pairs r
expression_pairs (layer.Assign span operator target value) = λ r. assigned_by operator target r ++ value.pairs r
expression_pairs (layer.Sequence span first rest) = λ r. first.pairs r ++ joined (λ x. x.pairs r) rest
expression_pairs (layer.Yield span value) = λ r. when r.in_parameters 16 span.begin ++ maybe (λ x. x.pairs r) value
expression_pairs (layer.Delegate span value) = λ r. when r.in_parameters 16 span.begin ++ value.pairs r
expression_pairs (layer.Group span held) = held.pairs
expression_pairs (layer.Cover span held rest) = λ r. maybe (λ x. x.pairs r) held

abbrev pub expression_directive : Layer Expression-F → Directive
expression_directive (layer.Literal span value) = literal_directive value span
expression_directive _ = NoDirective

abbrev pub expression_step : Layer Expression-F → Found
expression_step x = record { target = expression_target (λ y. y.element) (λ y. y.target) (λ y. y.access) (λ y. y.misfit) (λ y. y.misfit) (λ y. y.begin) (λ y. y.begin) (λ y. y.begin) (λ y. y.begin) x; directive = expression_directive x; pairs = expression_pairs x }

abbrev pub for_first_step : Layer ForFirst-F → HeadFound
for_first_step layer.NoFirst = record { lexical = []; vars = []; pairs = nothing }
for_first_step (layer.FirstVariables span kind parts) = record { lexical = lexical_names kind (parameter_names parts); vars = var_names kind (parameter_names parts); pairs = variables_pairs kind parts }
for_first_step (layer.FirstExpression x) = record { lexical = []; vars = []; pairs = x.pairs }

abbrev pub for_target_step : Layer ForTarget-F → HeadFound
for_target_step (layer.Declared span kind x) = record { lexical = lexical_names kind x.names; vars = var_names kind x.names; pairs = x.pairs true }
for_target_step (layer.Assigned x) = record { lexical = []; vars = []; pairs = x.pairs false }

abbrev pub key_step : Layer Key-F → KeyFound
key_step (layer.WordKey span name) = record { name = Some name; at = span.begin; pairs = nothing }
key_step (layer.TextKey span units) = record { name = Some units; at = span.begin; pairs = nothing }
key_step (layer.IntegerKey span value) = record { name = None; at = span.begin; pairs = nothing }
key_step (layer.ComputedKey span x) = record { name = None; at = span.begin; pairs = x.pairs }

abbrev pub link_step : Layer Link-F → LinkFound
link_step (layer.Member span name) = record { access = true; pairs = nothing }
link_step (layer.Index span x) = record { access = true; pairs = x.pairs }
link_step (layer.Call span arguments) = record { access = false; pairs = λ r. joined (λ a. a.pairs r) arguments }
link_step (layer.Tagged x) = record { access = false; pairs = x.pairs }

abbrev pub object_part_step : Layer ObjectPart-F → TargetsFound
object_part_step (layer.NamedPart x) = x
object_part_step (layer.KeyedPart span key x) = record x { pairs = λ binds r. key.pairs r ++ x.pairs binds r }

abbrev pub parameter_step : Layer Parameter-F → TargetsFound
parameter_step (layer.SingleParameter x) = x
parameter_step (layer.RestParameter span x) = record x { is_name = false }

-- what a list of parts gives for each of its uses
abbrev pub all_parts : Span → List TargetsFound → TargetsFound
all_parts span parts = record { names = parameter_names parts; pairs = λ binds. parts_pairs binds parts; updated = λ r. when true 10 span.begin ++ parts_pairs false parts r; misfit = None; is_name = false; has_default = false }

abbrev pub target_name : AsTarget → List Identifier
target_name x = some_name x.name

abbrev pub pattern_step : Layer Pattern-F → TargetsFound
pattern_step (layer.Target x) = record { names = target_name x.target; pairs = λ binds r. cond binds (joined bound (target_name x.target)) (misfits x.target.target_misfit ++ restricted x.target ++ x.pairs r); updated = λ r. no_simple x.target ++ restricted x.target ++ x.pairs r; misfit = x.target.target_misfit; is_name = is_some x.target.name; has_default = false }
pattern_step (layer.ArrayPattern span parts) = all_parts span parts
pattern_step (layer.ObjectPattern span parts) = all_parts span parts

-- E11 (12.2.6.1)
abbrev pub property_step : Layer Property-F → PropertyFound
property_step (layer.Plain span key x) = record { misfit = x.target.part_misfit; pairs = λ r. key.pairs r ++ x.pairs r }
property_step (layer.Shorthand span name) = record { misfit = None; pairs = nothing }
property_step (layer.Initialized span name equals x) = record { misfit = None; pairs = λ r. when true 11 equals.begin ++ x.pairs r }
property_step (layer.Defined m) = record { misfit = Some m.begin; pairs = m.pairs false }

-- E13 (13.13.1) among them
abbrev pub statement_step : Layer Statement-F → StatementFound
statement_step (layer.Block ss) = with_vars (block_vars ss) (block_scopes ss) (statements_pairs ss)
statement_step (layer.Variables span kind parts) = record (plain (by_rights (variables_pairs kind parts))) { lexical = lexical_names kind (parameter_names parts); vars = var_names kind (parameter_names parts) }
statement_step (layer.Empty span) = plain (by_rights nothing)
statement_step (layer.Expression span x) = record (plain (by_rights x.pairs)) { directive = x.directive }
statement_step (layer.If span first more otherwise) =
    with_vars (first.vars ++ joined (λ c. c.vars) more ++ maybe (λ s. s.vars) otherwise) (first.scopes ++ joined (λ c. c.scopes) more ++ maybe (λ s. s.scopes) otherwise)
    (λ r. first.pairs r ++ joined (λ c. c.pairs r) more ++ maybe (λ s. s.pairs r) otherwise)
statement_step (layer.DoWhile span body test) = loop_with body.vars body.scopes (λ r. body.pairs (under_loop r) ++ test.pairs r.rights)
statement_step (layer.While span test body) = loop_with body.vars body.scopes (λ r. test.pairs r.rights ++ body.pairs (under_loop r))
statement_step (layer.For span first test update body) =
    loop_with (first.vars ++ body.vars) (body.scopes ++ head_pairs first.lexical body.vars)
    (λ r. first.pairs r.rights ++ maybe (λ x. x.pairs r.rights) test ++ maybe (λ x. x.pairs r.rights) update ++ body.pairs (under_loop r))
statement_step (layer.ForOf span target subject body) =
    loop_with (target.vars ++ body.vars) (body.scopes ++ head_pairs target.lexical body.vars) (λ r. target.pairs r.rights ++ subject.pairs r.rights ++ body.pairs (under_loop r))
statement_step (layer.Continue span label) = plain (λ r. jump_pairs label (λ name. has_loop_label name r.labels) r.in_loop span)
statement_step (layer.Break span label) = plain (λ r. jump_pairs label (λ name. has_label name r.labels) (r.in_loop || r.in_switch) span)
statement_step (layer.Return span value) = plain (λ r. maybe (λ x. x.pairs r.rights) value)
statement_step (layer.Switch span subject cases) =
    let ss = joined (λ c. c.body) cases in
    with_vars (block_vars ss) (block_scopes ss) (λ r. subject.pairs r.rights ++ joined (λ c. c.test r.rights ++ statements_pairs c.body (under_switch r)) cases)
statement_step (layer.Labelled span label body) =
    record (with_vars body.vars body.scopes (λ r. when (has_label label.name r.labels || body.is_function) 13 label.span.begin ++ body.pairs (under_label label.name body.is_loop r)))
    { is_loop = body.is_loop; functions = body.functions }
statement_step (layer.Throw span x) = plain (by_rights x.pairs)
statement_step (layer.Try span block handler last) =
    with_vars (block_vars block ++ maybe (λ h. h.vars) handler ++ maybe block_vars last) (block_scopes block ++ maybe (λ h. h.scopes) handler ++ maybe block_scopes last)
    (λ r. statements_pairs block r ++ maybe (λ h. h.pairs r) handler ++ maybe (λ b. statements_pairs b r) last)
statement_step (layer.Debugger span) = plain (by_rights nothing)
statement_step (layer.FunctionDeclaration f) = record (plain (λ r. f.pairs (rights_of_function false false))) { is_function = true; functions = some_name f.name }
statement_step (layer.ClassDeclaration c) = record (plain (by_rights c.pairs)) { lexical = c.names }

abbrev pub arrow_step : Layer Arrow-F → PlacedFound
arrow_step x = record { begin = x.span.begin; pairs = λ r. parameters_pairs x.parameters (with_parameters true r) ++ x.body.pairs x.parameters (with_parameters false r) }

abbrev pub block_step : Layer Block-F → List StatementFound
block_step x = x.statements

abbrev pub case_step : Layer Case-F → CaseFound
case_step x = record { body = x.body; test = λ r. maybe (λ y. y.pairs r) x.test }

-- E5 (13.15.1): a name of the parameter stands twice in it, or is a lexical or var name of the block
abbrev pub catch_scopes : TargetsFound → List StatementFound → List Pair
catch_scopes parameter ss = block_scopes ss ++ repeated 5 [] parameter.names ++ shared 5 parameter.names (block_lexical ss ++ block_vars ss)

abbrev pub catch_step : Layer Catch-F → PartFound
catch_step x = record { vars = block_vars x.body; scopes = catch_scopes x.parameter x.body; pairs = λ r. x.parameter.pairs true r.rights ++ statements_pairs x.body r }

abbrev pub class_step : Layer Class-F → ClassFound
class_step x = record { begin = x.span.begin; names = some_name x.name; pairs = λ r. joined bound (some_name x.name) ++ maybe (λ h. h.pairs r) x.heritage ++ members_pairs (is_some x.heritage) false x.members r }

abbrev pub class_member_step : Layer ClassMember-F → MemberFound
class_member_step x = record { is_static = x.is_static; method = x.method }

abbrev pub condition_step : Layer Condition-F → PartFound
condition_step x = record { vars = x.body.vars; scopes = x.body.scopes; pairs = λ r. x.test.pairs r.rights ++ x.body.pairs r }

abbrev pub function_step : Layer Function-F → FunctionFound
function_step x = record { begin = x.span.begin; name = x.name; pairs = λ r. joined bound (some_name x.name) ++ parameters_pairs x.parameters (with_parameters x.is_generator r) ++ body_pairs x.parameters x.body r }

abbrev pub method_step : Layer Method-F → MethodFound
method_step x = record { begin = x.span.begin; kind = x.kind; key = x.key; pairs = λ super_call r. x.key.pairs r ++ x.function.pairs (rights_of_function super_call true) }

abbrev pub operand_step : Layer Operand-F → Inside
operand_step x = x.value.pairs

abbrev pub part_step : Layer Part-F → TargetsFound
part_step x = record { names = x.pattern.names; pairs = λ binds r. x.pattern.pairs binds r ++ maybe (λ y. y.pairs r) x.default; updated = x.pattern.updated; misfit = x.pattern.misfit; is_name = x.pattern.is_name; has_default = is_some x.default }

abbrev pub template_step : Layer Template-F → PlacedFound
template_step x = record { begin = x.span.begin; pairs = λ r. joined (λ p. p r) x.rest }

abbrev pub template_part_step : Layer TemplatePart-F → Inside
template_part_step x = x.value.pairs

-- what each kind of node gives, by the steps above
abbrev pub by_steps : {Node Result : Type 0} → ((Layer Argument-F → ArgumentFound) → (Layer ArrayPart-F → TargetsFound) → (Layer ArrowBody-F → BodyFound) → (Layer Element-F → ArgumentFound) → (Layer Expression-F → Found) → (Layer ForFirst-F → HeadFound) → (Layer ForTarget-F → HeadFound) → (Layer Key-F → KeyFound) → (Layer Link-F → LinkFound) → (Layer ObjectPart-F → TargetsFound) → (Layer Parameter-F → TargetsFound) → (Layer Pattern-F → TargetsFound) → (Layer Property-F → PropertyFound) → (Layer Statement-F → StatementFound) → (Layer Arrow-F → PlacedFound) → (Layer Block-F → List StatementFound) → (Layer Case-F → CaseFound) → (Layer Catch-F → PartFound) → (Layer Class-F → ClassFound) → (Layer ClassMember-F → MemberFound) → (Layer Condition-F → PartFound) → (Layer Function-F → FunctionFound) → (Layer Method-F → MethodFound) → (Layer Operand-F → Inside) → (Layer Part-F → TargetsFound) → (Layer Template-F → PlacedFound) → (Layer TemplatePart-F → Inside) → Node → Result) → Node → Result
by_steps fold_ = fold_ argument_step array_part_step arrow_body_step element_step expression_step for_first_step for_target_step key_step link_step object_part_step parameter_step pattern_step property_step statement_step arrow_step block_step case_step catch_step class_step class_member_step condition_step function_step method_step operand_step part_step template_step template_part_step

abbrev pub argument_found : Argument → ArgumentFound
argument_found = by_steps (fold-Argument ArgumentFound TargetsFound BodyFound ArgumentFound Found HeadFound HeadFound KeyFound LinkFound TargetsFound TargetsFound TargetsFound PropertyFound StatementFound PlacedFound (List StatementFound) CaseFound PartFound ClassFound MemberFound PartFound FunctionFound MethodFound Inside TargetsFound PlacedFound Inside)

abbrev pub array_part_found : ArrayPart → TargetsFound
array_part_found = by_steps (fold-ArrayPart ArgumentFound TargetsFound BodyFound ArgumentFound Found HeadFound HeadFound KeyFound LinkFound TargetsFound TargetsFound TargetsFound PropertyFound StatementFound PlacedFound (List StatementFound) CaseFound PartFound ClassFound MemberFound PartFound FunctionFound MethodFound Inside TargetsFound PlacedFound Inside)

abbrev pub arrow_body_found : ArrowBody → BodyFound
arrow_body_found = by_steps (fold-ArrowBody ArgumentFound TargetsFound BodyFound ArgumentFound Found HeadFound HeadFound KeyFound LinkFound TargetsFound TargetsFound TargetsFound PropertyFound StatementFound PlacedFound (List StatementFound) CaseFound PartFound ClassFound MemberFound PartFound FunctionFound MethodFound Inside TargetsFound PlacedFound Inside)

abbrev pub element_found : Element → ArgumentFound
element_found = by_steps (fold-Element ArgumentFound TargetsFound BodyFound ArgumentFound Found HeadFound HeadFound KeyFound LinkFound TargetsFound TargetsFound TargetsFound PropertyFound StatementFound PlacedFound (List StatementFound) CaseFound PartFound ClassFound MemberFound PartFound FunctionFound MethodFound Inside TargetsFound PlacedFound Inside)

abbrev pub expression_found : Expression → Found
expression_found = by_steps (fold-Expression ArgumentFound TargetsFound BodyFound ArgumentFound Found HeadFound HeadFound KeyFound LinkFound TargetsFound TargetsFound TargetsFound PropertyFound StatementFound PlacedFound (List StatementFound) CaseFound PartFound ClassFound MemberFound PartFound FunctionFound MethodFound Inside TargetsFound PlacedFound Inside)

abbrev pub for_first_found : ForFirst → HeadFound
for_first_found = by_steps (fold-ForFirst ArgumentFound TargetsFound BodyFound ArgumentFound Found HeadFound HeadFound KeyFound LinkFound TargetsFound TargetsFound TargetsFound PropertyFound StatementFound PlacedFound (List StatementFound) CaseFound PartFound ClassFound MemberFound PartFound FunctionFound MethodFound Inside TargetsFound PlacedFound Inside)

abbrev pub for_target_found : ForTarget → HeadFound
for_target_found = by_steps (fold-ForTarget ArgumentFound TargetsFound BodyFound ArgumentFound Found HeadFound HeadFound KeyFound LinkFound TargetsFound TargetsFound TargetsFound PropertyFound StatementFound PlacedFound (List StatementFound) CaseFound PartFound ClassFound MemberFound PartFound FunctionFound MethodFound Inside TargetsFound PlacedFound Inside)

abbrev pub key_found : Key → KeyFound
key_found = by_steps (fold-Key ArgumentFound TargetsFound BodyFound ArgumentFound Found HeadFound HeadFound KeyFound LinkFound TargetsFound TargetsFound TargetsFound PropertyFound StatementFound PlacedFound (List StatementFound) CaseFound PartFound ClassFound MemberFound PartFound FunctionFound MethodFound Inside TargetsFound PlacedFound Inside)

abbrev pub link_found : Link → LinkFound
link_found = by_steps (fold-Link ArgumentFound TargetsFound BodyFound ArgumentFound Found HeadFound HeadFound KeyFound LinkFound TargetsFound TargetsFound TargetsFound PropertyFound StatementFound PlacedFound (List StatementFound) CaseFound PartFound ClassFound MemberFound PartFound FunctionFound MethodFound Inside TargetsFound PlacedFound Inside)

abbrev pub object_part_found : ObjectPart → TargetsFound
object_part_found = by_steps (fold-ObjectPart ArgumentFound TargetsFound BodyFound ArgumentFound Found HeadFound HeadFound KeyFound LinkFound TargetsFound TargetsFound TargetsFound PropertyFound StatementFound PlacedFound (List StatementFound) CaseFound PartFound ClassFound MemberFound PartFound FunctionFound MethodFound Inside TargetsFound PlacedFound Inside)

abbrev pub parameter_found : Parameter → TargetsFound
parameter_found = by_steps (fold-Parameter ArgumentFound TargetsFound BodyFound ArgumentFound Found HeadFound HeadFound KeyFound LinkFound TargetsFound TargetsFound TargetsFound PropertyFound StatementFound PlacedFound (List StatementFound) CaseFound PartFound ClassFound MemberFound PartFound FunctionFound MethodFound Inside TargetsFound PlacedFound Inside)

abbrev pub pattern_found : Pattern → TargetsFound
pattern_found = by_steps (fold-Pattern ArgumentFound TargetsFound BodyFound ArgumentFound Found HeadFound HeadFound KeyFound LinkFound TargetsFound TargetsFound TargetsFound PropertyFound StatementFound PlacedFound (List StatementFound) CaseFound PartFound ClassFound MemberFound PartFound FunctionFound MethodFound Inside TargetsFound PlacedFound Inside)

abbrev pub property_found : Property → PropertyFound
property_found = by_steps (fold-Property ArgumentFound TargetsFound BodyFound ArgumentFound Found HeadFound HeadFound KeyFound LinkFound TargetsFound TargetsFound TargetsFound PropertyFound StatementFound PlacedFound (List StatementFound) CaseFound PartFound ClassFound MemberFound PartFound FunctionFound MethodFound Inside TargetsFound PlacedFound Inside)

abbrev pub statement_found : Statement → StatementFound
statement_found = by_steps (fold-Statement ArgumentFound TargetsFound BodyFound ArgumentFound Found HeadFound HeadFound KeyFound LinkFound TargetsFound TargetsFound TargetsFound PropertyFound StatementFound PlacedFound (List StatementFound) CaseFound PartFound ClassFound MemberFound PartFound FunctionFound MethodFound Inside TargetsFound PlacedFound Inside)

abbrev pub arrow_found : Arrow → PlacedFound
arrow_found = by_steps (fold-Arrow ArgumentFound TargetsFound BodyFound ArgumentFound Found HeadFound HeadFound KeyFound LinkFound TargetsFound TargetsFound TargetsFound PropertyFound StatementFound PlacedFound (List StatementFound) CaseFound PartFound ClassFound MemberFound PartFound FunctionFound MethodFound Inside TargetsFound PlacedFound Inside)

abbrev pub block_found : Block → List StatementFound
block_found = by_steps (fold-Block ArgumentFound TargetsFound BodyFound ArgumentFound Found HeadFound HeadFound KeyFound LinkFound TargetsFound TargetsFound TargetsFound PropertyFound StatementFound PlacedFound (List StatementFound) CaseFound PartFound ClassFound MemberFound PartFound FunctionFound MethodFound Inside TargetsFound PlacedFound Inside)

abbrev pub case_found : Case → CaseFound
case_found = by_steps (fold-Case ArgumentFound TargetsFound BodyFound ArgumentFound Found HeadFound HeadFound KeyFound LinkFound TargetsFound TargetsFound TargetsFound PropertyFound StatementFound PlacedFound (List StatementFound) CaseFound PartFound ClassFound MemberFound PartFound FunctionFound MethodFound Inside TargetsFound PlacedFound Inside)

abbrev pub catch_found : Catch → PartFound
catch_found = by_steps (fold-Catch ArgumentFound TargetsFound BodyFound ArgumentFound Found HeadFound HeadFound KeyFound LinkFound TargetsFound TargetsFound TargetsFound PropertyFound StatementFound PlacedFound (List StatementFound) CaseFound PartFound ClassFound MemberFound PartFound FunctionFound MethodFound Inside TargetsFound PlacedFound Inside)

abbrev pub class_found : Class → ClassFound
class_found = by_steps (fold-Class ArgumentFound TargetsFound BodyFound ArgumentFound Found HeadFound HeadFound KeyFound LinkFound TargetsFound TargetsFound TargetsFound PropertyFound StatementFound PlacedFound (List StatementFound) CaseFound PartFound ClassFound MemberFound PartFound FunctionFound MethodFound Inside TargetsFound PlacedFound Inside)

abbrev pub class_member_found : ClassMember → MemberFound
class_member_found = by_steps (fold-ClassMember ArgumentFound TargetsFound BodyFound ArgumentFound Found HeadFound HeadFound KeyFound LinkFound TargetsFound TargetsFound TargetsFound PropertyFound StatementFound PlacedFound (List StatementFound) CaseFound PartFound ClassFound MemberFound PartFound FunctionFound MethodFound Inside TargetsFound PlacedFound Inside)

abbrev pub condition_found : Condition → PartFound
condition_found = by_steps (fold-Condition ArgumentFound TargetsFound BodyFound ArgumentFound Found HeadFound HeadFound KeyFound LinkFound TargetsFound TargetsFound TargetsFound PropertyFound StatementFound PlacedFound (List StatementFound) CaseFound PartFound ClassFound MemberFound PartFound FunctionFound MethodFound Inside TargetsFound PlacedFound Inside)

abbrev pub function_found : Function → FunctionFound
function_found = by_steps (fold-Function ArgumentFound TargetsFound BodyFound ArgumentFound Found HeadFound HeadFound KeyFound LinkFound TargetsFound TargetsFound TargetsFound PropertyFound StatementFound PlacedFound (List StatementFound) CaseFound PartFound ClassFound MemberFound PartFound FunctionFound MethodFound Inside TargetsFound PlacedFound Inside)

abbrev pub method_found : Method → MethodFound
method_found = by_steps (fold-Method ArgumentFound TargetsFound BodyFound ArgumentFound Found HeadFound HeadFound KeyFound LinkFound TargetsFound TargetsFound TargetsFound PropertyFound StatementFound PlacedFound (List StatementFound) CaseFound PartFound ClassFound MemberFound PartFound FunctionFound MethodFound Inside TargetsFound PlacedFound Inside)

abbrev pub operand_found : Operand → Inside
operand_found = by_steps (fold-Operand ArgumentFound TargetsFound BodyFound ArgumentFound Found HeadFound HeadFound KeyFound LinkFound TargetsFound TargetsFound TargetsFound PropertyFound StatementFound PlacedFound (List StatementFound) CaseFound PartFound ClassFound MemberFound PartFound FunctionFound MethodFound Inside TargetsFound PlacedFound Inside)

abbrev pub part_found : Part → TargetsFound
part_found = by_steps (fold-Part ArgumentFound TargetsFound BodyFound ArgumentFound Found HeadFound HeadFound KeyFound LinkFound TargetsFound TargetsFound TargetsFound PropertyFound StatementFound PlacedFound (List StatementFound) CaseFound PartFound ClassFound MemberFound PartFound FunctionFound MethodFound Inside TargetsFound PlacedFound Inside)

abbrev pub template_found : Template → PlacedFound
template_found = by_steps (fold-Template ArgumentFound TargetsFound BodyFound ArgumentFound Found HeadFound HeadFound KeyFound LinkFound TargetsFound TargetsFound TargetsFound PropertyFound StatementFound PlacedFound (List StatementFound) CaseFound PartFound ClassFound MemberFound PartFound FunctionFound MethodFound Inside TargetsFound PlacedFound Inside)

abbrev pub template_part_found : TemplatePart → Inside
template_part_found = by_steps (fold-TemplatePart ArgumentFound TargetsFound BodyFound ArgumentFound Found HeadFound HeadFound KeyFound LinkFound TargetsFound TargetsFound TargetsFound PropertyFound StatementFound PlacedFound (List StatementFound) CaseFound PartFound ClassFound MemberFound PartFound FunctionFound MethodFound Inside TargetsFound PlacedFound Inside)

-- the names that an import binds (15.2.2)
abbrev pub more_names : ImportedNames → List Identifier
more_names NoNames = []
more_names (Namespace n) = n ∷ []
more_names (Listed ns) = joined (λ n. n.local ∷ []) ns

-- What an item gives: the lexical and var names that it declares, the names that it exports, the local names that it exports,
-- the pairs of the scopes in it and its other pairs. At the top level of a module a function is a lexical name (15.2.1.11).
pub record ItemFound : Type 0 where
  pub lexical : List Identifier
  pub vars : List Identifier
  pub exported : List Identifier
  pub local : List Identifier
  pub scopes : List Pair
  pub pairs : List Pair

abbrev pub of_statement : StatementFound → ItemFound
of_statement s = record { lexical = s.lexical ++ s.functions; vars = s.vars; exported = []; local = []; scopes = s.scopes; pairs = s.pairs (in_body rights_at_top) }

-- what `export` before a declaration exports
abbrev pub exporting : ItemFound → ItemFound
exporting x = record x { exported = x.lexical ++ x.vars }

abbrev pub default_item : List Identifier → List Pair → Span → ItemFound
default_item names pairs word = record { lexical = names; vars = []; exported = record { span = word; name = codes "default" } ∷ []; local = []; scopes = []; pairs = pairs }

abbrev pub default_found : DefaultExport → Span → ItemFound
default_found (DefaultFunction f) word = default_item (some_name (function_found f).name) ((function_found f).pairs (rights_of_function false false)) word
default_found (DefaultClass c) word = default_item (class_found c).names ((class_found c).pairs rights_at_top) word
default_found (DefaultValue x) word = default_item [] ((expression_found x).pairs rights_at_top) word

abbrev pub own_names : Option Specifier → List ExportName → List Identifier
own_names None ns = joined (λ n. n.local ∷ []) ns
own_names (Some from) ns = []

abbrev pub item_found : Item → ItemFound
item_found (item.Import span default_ names from) = let locals = some_name default_ ++ more_names names in record { lexical = locals; vars = []; exported = []; local = []; scopes = []; pairs = joined bound locals }
item_found (item.ExportNames span names from) = record { lexical = []; vars = []; exported = joined (λ n. n.exported ∷ []) names; local = own_names from names; scopes = []; pairs = [] }
item_found (item.ExportAll span from) = record { lexical = []; vars = []; exported = []; local = []; scopes = []; pairs = [] }
item_found (item.ExportDeclaration span s) = exporting (of_statement (statement_found s))
item_found (item.ExportDefault span word x) = default_found x word
item_found (item.Statement s) = of_statement (statement_found s)

-- E24 (15.2.1.1): a local name that is exported and not declared
abbrev pub undeclared : List Identifier → List Identifier → List Pair
undeclared declared xs = joined (λ x. when (not (is_name_of x.name declared)) 24 x.span.begin) xs

-- the pairs of a module by its items, in no order of their own; E23 (15.2.1.1)
abbrev pub module_pairs : List ItemFound → List Pair
module_pairs found =
    let lexical = joined (λ x. x.lexical) found in
    let vars = joined (λ x. x.vars) found in
    joined (λ x. x.pairs) found ++ (joined (λ x. x.scopes) found ++ scope_pairs lexical vars) ++ repeated 23 [] (joined (λ x. x.exported) found) ++ undeclared (lexical ++ vars) (joined (λ x. x.local) found)

abbrev pub early_pairs : Module → List Pair
early_pairs m = module_pairs (map item_found m.items)
