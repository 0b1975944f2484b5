-- Functions (ECMA-262, 6th edition, 9.2.12, 14.1, 14.2 and 14.4).
use Rattle.std.specs.Prelude.{ℕ, Bool, true, false, ◌&&◌, List, [], ◌∷◌, ◌++◌, map, Option, Some, None}
use Rattle.es6_ast.specs.declared.tree.Identifier.{Identifier}
use Rattle.es6_ast.specs.declared.tree.Argument.TheOpen as layer
use Rattle.es6_ast.specs.declared.tree.Argument.TheOpen.{Arrow-F, ArrowBody-F, Parameter-F}
use Rattle.es6_static_semantics.specs.Findings.{joined}
use Rattle.core_ast.specs.declared.parts.FunctionId.{FunctionId}
use Rattle.core_ast.specs.declared.parts.Var.{Var}
use Rattle.core_ast.specs.declared.tree.CoreExpr.{CoreExpr}
use Rattle.core_ast.specs.declared.tree.CoreStat.{CoreStat}
use Rattle.core_ast.specs.declared.whole.CoreFunction.{CoreFunction}
use Rattle.core_ast.specs.declared.whole.CoreKind.{CoreKind}
use Rattle.core_ast.specs.declared.whole.CoreKind.TheVariants as kind
use Rattle.core_ast.specs.declared.whole.Declared.{Declared}
use Rattle.core_ast.specs.Made.{variable}
use Rattle.lowering_rules.specs.declared.statement_rules.bodies.BodyNames.{BodyNames}
use Rattle.lowering_rules.specs.declared.statement_rules.bodies.Receiver.{Receiver}
use Rattle.lowering_rules.specs.declared.functions.BodyVar.{BodyVar}
use Rattle.lowering_rules.specs.declared.functions.Parameter.{Parameter}
use Rattle.lowering_rules.specs.declared.functions.RestParameter.{RestParameter}
use Rattle.lowering_rules.specs.statement_rules.Bodies.{begun, with_body}
use Rattle.lowering_rules.specs.Classes.{constructor}
use Rattle.lowering_rules.specs.Functions.{arrow, concise, with_parameters}
use Rattle.module_lowering.specs.declared.context.Context.{Context}
use Rattle.module_lowering.specs.declared.context.FunctionForm.{FunctionForm}
use Rattle.module_lowering.specs.declared.context.FunctionForm.TheVariants.{AccessorForm, ConstructorForm, MethodForm, PlainForm}
use Rattle.module_lowering.specs.declared.context.Role.TheVariants.{Initializes}
use Rattle.module_lowering.specs.declared.context.ThisKind.{ThisKind}
use Rattle.module_lowering.specs.declared.context.ThisKind.TheVariants.{OfConstructor, OfFunction, OfGenerator, OfMethod}
use Rattle.module_lowering.specs.declared.lowerer.Seen.{Seen}
use Rattle.module_lowering.specs.Bindings.{Bindings}
use Rattle.module_lowering.specs.Expressions.{valued}
use Rattle.module_lowering.specs.Lowering.{along_by, asks, define, each_by, inside, inside_arrow, option, pure, raw, temporary, within, Lowering, ◌>>=◌}
use Rattle.module_lowering.specs.Names.{body_vars, declared_at, first_vars, last_ones, places, scoped_names, vars_at}
use Rattle.module_lowering.specs.Nodes.{Form, Hoisted, Layer, Listed, MemberForm, NameForm, Parametered, Parted, PartsForm, Patterned, nothing}

-- ---- functions that declarations make before any statement runs

abbrev pub hoisted : Hoisted → Lowering Declared
hoisted h = do
  f ← h.made
  x ← declared_at h.at
  pure (record { var = x; function = f })

abbrev pub all_hoisted : List Hoisted → Lowering (List Declared)
all_hoisted hs = each_by hoisted hs

-- those of a body, in which a name may stand for several
abbrev pub body_hoisted : List Hoisted → Lowering (List Declared)
body_hoisted hs = do
  counting ← asks (λ b c. last_ones b c hs)
  all_hoisted counting

-- ---- parameters (14.1)

-- what is made of the parameters so far: the last names the variables that are no parameters of the core themselves, and whether
-- a further plain name may be one
pub record Parameters : Type 0 where
  pub list : List Parameter
  pub rest : Option RestParameter
  pub names : List Var
  pub direct : Bool

abbrev pub no_parameters : Parameters
no_parameters = record { list = []; rest = None; names = []; direct = true }

abbrev pub is_name : Form → Bool
is_name (NameForm x) = true
is_name (MemberForm reached) = false
is_name PartsForm = false

abbrev pub is_plain : Parted → Bool
is_plain p = is_name p.pattern.form && not_there p.default
  where
    not_there : Option (Lowering CoreExpr) → Bool
    not_there None = true
    not_there (Some x) = false

abbrev pub with_parameter : Parameters → Bool → List Var → Parameter → Parameters
with_parameter ps direct names p = record { list = ps.list ++ p ∷ []; rest = ps.rest; names = ps.names ++ names; direct = direct }

-- the variable of its name
abbrev pub plain_parameter : Parameters → List Var → Parameters
plain_parameter ps [] = ps
plain_parameter ps (x ∷ xs) = with_parameter ps true [] (record { formal = x; default = None; bound = [] })

abbrev pub plain_added : Parted → Parameters → Lowering Parameters
plain_added p ps = do
  xs ← asks (vars_at (places p.pattern.names))
  pure (plain_parameter ps xs)

-- a variable of its own, of which the names take the value
abbrev pub bound_added : Parted → Parameters → Lowering Parameters
bound_added p ps = do
  formal ← raw
  d ← option p.default
  ss ← p.pattern.bound Initializes (variable formal)
  xs ← asks (vars_at (places p.pattern.names))
  pure (with_parameter ps false xs (record { formal = formal; default = d; bound = ss }))

-- the rest takes a list; that of a name is the name's own
abbrev pub with_rest : Parameters → List Var → RestParameter → Parameters
with_rest ps names r = record { list = ps.list; rest = Some r; names = ps.names ++ names; direct = false }

abbrev pub rest_named : Parameters → List Var → Parameters
rest_named ps [] = ps
rest_named ps (x ∷ xs) = with_rest ps (x ∷ xs) (record { list = x; bound = [] })

abbrev pub rest_added : Patterned → Parameters → Form → Lowering Parameters
rest_added p ps (NameForm x) = do
  xs ← asks (vars_at (places p.names))
  pure (rest_named ps xs)
rest_added p ps (MemberForm reached) = pure ps
rest_added p ps PartsForm = do
  list ← temporary
  ss ← p.bound Initializes (variable list)
  xs ← asks (vars_at (places p.names))
  pure (with_rest ps xs (record { list = list; bound = ss }))

abbrev pub single_added : Parted → Bool → Parameters → Lowering Parameters
single_added p true ps = plain_added p ps
single_added p false ps = bound_added p ps

abbrev pub parameter_added : Parametered → Parameters → Lowering Parameters
parameter_added p ps = by_kind p.is_rest
  where
    by_kind : Bool → Lowering Parameters
    by_kind true = rest_added p.part.pattern ps p.part.pattern.form
    by_kind false = single_added p.part (ps.direct && is_plain p.part) ps

abbrev pub parameter_step : Layer Parameter-F → Parametered
parameter_step (layer.SingleParameter p) = record { part = p; is_rest = false }
parameter_step (layer.RestParameter span p) = record { part = record { pattern = p; default = None }; is_rest = true }

abbrev pub parameter_names : List Parametered → List Identifier
parameter_names ps = joined (λ p. p.part.pattern.names) ps

-- ---- what stands round the parts of a function

-- among the parameters their names may be uninitialized
abbrev pub in_parameters : List Parametered → Context → Context
in_parameters ps c = record c { heads = places (parameter_names ps) ++ c.heads }

abbrev pub in_function : ThisKind → Context → Context
in_function this c = record c { this = this; targets = [] }

abbrev pub in_arrow : Context → Context
in_arrow c = record c { targets = [] }

-- ---- bodies (9.2.12)

-- the parts of a function
pub record FunctionParts : Type 0 where
  pub parameters : Parameters
  pub body_vars : List BodyVar
  pub names : BodyNames
  pub statements : List CoreStat

abbrev pub body_names : Listed → List Declared → Bindings → Context → BodyNames
body_names body functions b c = record {
  variables = first_vars (places body.variables ++ map (λ h. h.at) body.functions) b c;
  lexical = scoped_names body.lexicals b c;
  functions = functions;
}

abbrev pub function_parts : List Parametered → Listed → Lowering FunctionParts
function_parts parameters body = do
  ps ← within (in_parameters parameters) (along_by parameter_added parameters no_parameters)
  functions ← body_hoisted body.functions
  statements ← body.statements
  own ← asks (body_vars (parameter_names parameters) body.variables)
  names ← asks (body_names body functions)
  pure (record { parameters = ps; body_vars = own; names = names; statements = statements })

abbrev pub assembled : FunctionParts → List Var → CoreFunction → CoreFunction
assembled p locals f =
    with_body p.names p.statements locals
    (with_parameters p.parameters.list p.parameters.rest (record { names = p.parameters.names; body = p.body_vars }) f)

-- ---- functions that are no arrows

abbrev pub kind_of : FunctionForm → CoreKind
kind_of PlainForm = kind.Plain
kind_of MethodForm = kind.Method
kind_of AccessorForm = kind.Accessor
kind_of (ConstructorForm derived) = kind.Class derived

abbrev pub this_kind : FunctionForm → ThisKind
this_kind PlainForm = OfFunction
this_kind MethodForm = OfMethod
this_kind AccessorForm = OfMethod
this_kind (ConstructorForm derived) = OfConstructor derived

abbrev pub if_seen : {A : Type 0} → Bool → A → Option A
if_seen true x = Some x
if_seen false x = None

abbrev pub completed : FunctionForm → CoreFunction → CoreFunction
completed PlainForm f = f
completed MethodForm f = f
completed AccessorForm f = f
completed (ConstructorForm derived) f = constructor derived f

abbrev pub no_receiver : Receiver
no_receiver = record { arguments = None; this = None; target = None }

abbrev pub plain_receiver : Seen → Var → Receiver
plain_receiver seen arguments = record { arguments = if_seen seen.arguments arguments; this = None; target = None }

abbrev pub generator_receiver : Seen → Var → Var → Receiver
generator_receiver seen arguments this =
    record { arguments = if_seen seen.arguments arguments; this = if_seen seen.this this; target = None }

-- the arguments object is declared where the function begins
abbrev pub function_made : ℕ → List Parametered → Listed → FunctionForm → Lowering FunctionId
function_made begin parameters body form = do
  x ← inside (within (in_function (this_kind form)) (function_parts parameters body))
  arguments ← declared_at begin
  define (completed form (assembled x.value x.locals (begun (kind_of form) (plain_receiver x.seen arguments))))

-- a generator keeps `this` where it is mentioned, since its body runs in a function of its own (14.4)
abbrev pub generator_made : ℕ → List Parametered → Listed → Lowering FunctionId
generator_made begin parameters body = do
  this ← raw
  x ← inside (within (in_function (OfGenerator this)) (function_parts parameters body))
  arguments ← declared_at begin
  define (assembled x.value x.locals (begun kind.Generator (generator_receiver x.seen arguments this)))

abbrev pub made : Bool → ℕ → List Parametered → Listed → FunctionForm → Lowering FunctionId
made true begin parameters body form = generator_made begin parameters body
made false begin parameters body form = function_made begin parameters body form

-- ---- arrows (14.2.16)

abbrev pub arrow_made : List Parametered → Listed → Lowering FunctionId
arrow_made parameters body = do
  x ← inside_arrow (within in_arrow (function_parts parameters body))
  define (arrow (assembled x.value x.locals (begun kind.Arrow no_receiver)))

abbrev pub value_returned : Lowering CoreExpr → Lowering (List CoreStat)
value_returned a = do
  x ← a
  pure (concise x)

abbrev pub arrow_body_step : Layer ArrowBody-F → Listed
arrow_body_step (layer.ValueBody x) = record nothing { statements = value_returned (valued x) }
arrow_body_step (layer.BlockBody b) = b

abbrev pub arrow_step : Layer Arrow-F → Lowering FunctionId
arrow_step x = arrow_made x.parameters x.body
