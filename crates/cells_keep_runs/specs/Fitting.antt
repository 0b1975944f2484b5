-- What the code of a core is like, so that the flattening of scopes keeps its runs where both machines find the names. Meant are cores of which the
-- lowering is the maker.
use Rattle.std.specs.Prelude.{◌≡◌, Bool, true, false, ◌&&◌, not, cond, List, [], ◌∷◌, map, Option, None, Some, is_some, ℕ}
use Rattle.core_ast.specs.declared.parts.CoreHead.{CoreHead}
use Rattle.core_ast.specs.declared.parts.CoreHead.TheVariants as head
use Rattle.core_ast.specs.declared.parts.CoreOp.{CoreOp}
use Rattle.core_ast.specs.declared.parts.CoreOp.TheVariants as op
use Rattle.core_ast.specs.declared.parts.FunctionId.{FunctionId}
use Rattle.core_ast.specs.declared.parts.Primitive.{Primitive}
use Rattle.core_ast.specs.declared.parts.Primitive.TheVariants as primitive
use Rattle.core_ast.specs.declared.parts.ScopedName.{ScopedName}
use Rattle.core_ast.specs.declared.parts.Var.{Var}
use Rattle.core_ast.specs.declared.tree.CoreExpr.{fold-CoreExpr, CoreExpr}
use Rattle.core_ast.specs.declared.tree.CoreLink.{fold-CoreLink, CoreLink}
use Rattle.core_ast.specs.declared.tree.CoreLink.TheOpen as layer
use Rattle.core_ast.specs.declared.tree.CoreLink.TheOpen.{CoreCase-F, CoreExpr-F, CoreLink-F, CoreStat-F}
use Rattle.core_ast.specs.declared.tree.CoreStat.{fold-CoreStat, CoreStat}
use Rattle.core_ast.specs.declared.tree.CoreCase.{fold-CoreCase, CoreCase}
use Rattle.core_ast.specs.declared.whole.Core.{Core}
use Rattle.core_ast.specs.declared.whole.CoreFunction.{CoreFunction}
use Rattle.core_ast.specs.declared.whole.CoreKind.{CoreKind}
use Rattle.core_ast.specs.declared.whole.CoreKind.TheVariants as kind
use Rattle.core_ast.specs.declared.whole.CorePart.{CorePart}
use Rattle.core_meaning.specs.Expressions.{function_at}
use Rattle.core_meaning.specs.State.{Environment}
use Rattle.pass_rules.specs.Cells.{is_among, is_shared}
use Rattle.pass_rules.specs.Scopes.{vars}
use Rattle.cells_keep_runs.specs.Floors.{Standing, ToHold, ToMake, ToUse, Wanted, part_wanted, wanted_by}
use Rattle.cells_keep_runs.specs.Opened.{written_by}
use Rattle.cells_keep_runs.specs.Placing.{Handler}

-- whose names are shared, and which names aren't assigned
pub record Naming : Type 0 where
  pub owners : List ℕ
  pub fixed : Var → Bool

abbrev pub is_held : Wanted → Bool
is_held ToHold = true
is_held w = false

abbrev pub is_made : Wanted → Bool
is_made ToMake = true
is_made w = false

-- ---- what of a node says whether it fits: of an expression by what is wanted of its value, and whether it stands in the statements of a scope;
-- of a statement or a case by whether it is one of a scope's; of a link by what is wanted behind it

abbrev pub ExprTest : Type 0
ExprTest = Wanted → Bool → Bool

abbrev pub ListTest : Type 0
ListTest = Bool → Bool

pub record Joint : Type 0 where
  pub wants : Wanted → Wanted
  pub writes : Bool
  pub goes_on : Bool
  pub fits : Wanted → Bool

abbrev pub Layer : (Type 0 → Type 0 → Type 0 → Type 0 → Type 0) → Type 0
Layer Of = Of Joint ListTest ListTest ExprTest

abbrev pub all_at : List ListTest → Bool → Bool
all_at [] own = true
all_at (t ∷ ts) own = t own && all_at ts own

abbrev pub exprs_at : List ExprTest → Wanted → Bool
exprs_at [] w = true
exprs_at (t ∷ ts) w = t w false && exprs_at ts w

abbrev pub perhaps_at : Option ExprTest → Wanted → Bool → Bool
perhaps_at None w in_scope = true
perhaps_at (Some t) w in_scope = t w in_scope

-- ---- names: those of a scope differ, are marked as shared where they are, and may be written if they are assigned

abbrev pub is_marked : List ℕ → ScopedName → Bool
is_marked owners n = cond n.shared (is_shared owners n.var) (not (is_shared owners n.var))

abbrev pub may_assign : (Var → Bool) → ScopedName → Bool
may_assign fixed n = cond (fixed n.var) true n.mutable

abbrev pub names_fit : Naming → List ScopedName → Bool
names_fit k [] = true
names_fit k (n ∷ names) =
    (is_marked k.owners n && may_assign k.fixed n) && (not (is_among n.var (vars names)) && names_fit k names)

abbrev pub are_some : List ScopedName → Bool
are_some [] = false
are_some (n ∷ names) = true

-- ---- links

abbrev pub wanted_of : List Joint → Wanted → Wanted
wanted_of [] w = w
wanted_of (j ∷ js) w = j.wants (wanted_of js w)

abbrev pub joints_fit : List Joint → Wanted → Bool
joints_fit [] w = true
joints_fit (j ∷ js) w = j.fits (wanted_of js w) && joints_fit js w

-- what a copy gives isn't written to a shared name, and goes on to another expression or is dropped
abbrev pub none_writes : List Joint → Bool
none_writes [] = true
none_writes (j ∷ js) = not j.writes && none_writes js

abbrev pub first_goes_on : List Joint → Bool
first_goes_on [] = true
first_goes_on (j ∷ js) = j.goes_on

abbrev pub is_none : {A : Type 0} → List A → Bool
is_none [] = true
is_none (x ∷ xs) = false

abbrev pub is_one : {A : Type 0} → List A → Bool
is_one (x ∷ []) = true
is_one xs = false

abbrev pub primitive_fits : Primitive → Bool
primitive_fits (primitive.CellMake x) = false
primitive_fits p = true

-- names are written without parts, and assigned if they may be; there are no operations on cells
abbrev pub op_fits : (Var → Bool) → CoreOp → Bool → Bool
op_fits fixed (op.Set x) none = none && not (fixed x)
op_fits fixed (op.Init x) none = none
op_fits fixed (op.StepVariable u x) none = false
op_fits fixed op.Content none = false
op_fits fixed op.SetContent none = false
op_fits fixed (op.Primitive p) none = primitive_fits p
op_fits fixed o none = true

abbrev pub is_then : CoreOp → Bool → Bool
is_then op.Then one = one
is_then o one = false

abbrev pub link_step : Naming → Layer CoreLink-F → Joint
link_step k (layer.Strict o parts site) = record {
  wants = wanted_by o;
  writes = is_some (written_by k.owners o);
  goes_on = is_then o (is_one parts);
  fits = λ (w : Wanted). op_fits k.fixed o (is_none parts) && exprs_at parts (part_wanted o w);
}
link_step k (layer.Lazy when taken other) = record {
  wants = λ (w : Wanted). ToUse;
  writes = false;
  goes_on = false;
  fits = λ (w : Wanted). taken w false && perhaps_at other w false;
}
link_step k (layer.Run body) = record {
  wants = λ (w : Wanted). ToUse;
  writes = false;
  goes_on = false;
  fits = λ (w : Wanted). not (is_held w) && all_at body false;
}

-- ---- heads: the function of a class is a part of what makes the class

abbrev pub kind_fits : Wanted → CoreKind → Bool
kind_fits w (kind.Class derived) = is_made w
kind_fits w k = true

abbrev pub function_fits : Wanted → Option CoreFunction → Bool
function_fits w None = false
function_fits w (Some f) = kind_fits w f.kind

abbrev pub head_fits : Core → Wanted → Bool → List Joint → CoreHead → Bool
head_fits core w in_scope js (head.Function f) = function_fits w (function_at core f)
head_fits core w in_scope js head.ArgumentList = not (is_held w)
head_fits core w in_scope js (head.Primitive primitive.GeneratorMake) = false
head_fits core w in_scope js (head.TypeOf x) = false
head_fits core w in_scope js (head.Copy xs) = in_scope && (none_writes js && first_goes_on js)
head_fits core w in_scope js h = true

abbrev pub expr_step : Core → Layer CoreExpr-F → ExprTest
expr_step core x w in_scope = head_fits core (wanted_of x.links w) in_scope x.links x.head && joints_fit x.links w

-- ---- statements

abbrev pub case_step : Layer CoreCase-F → ListTest
case_step x own = perhaps_at x.test ToUse false && all_at x.body own

abbrev pub caught_fits : Naming → Var → List ScopedName → List ListTest → Bool
caught_fits k x names handler = names_fit k names && (not (is_among x (vars names)) && all_at handler true)

abbrev pub stat_step : Naming → Layer CoreStat-F → ListTest
stat_step k (layer.Do x) own = x ToUse own
stat_step k (layer.If cases) own = all_at cases false
stat_step k (layer.Switch subject cases) own = subject ToUse false && all_at cases false
stat_step k (layer.Loop labels test update body) own =
    perhaps_at test ToUse false && (perhaps_at update ToUse own && all_at body false)
stat_step k (layer.Labelled label body) own = all_at body false
stat_step k (layer.Jump goes_on label) own = true
stat_step k (layer.Return x) own = x ToHold false
stat_step k (layer.Throw x) own = x ToUse false
stat_step k (layer.TryCatch block x names handler) own = all_at block false && caught_fits k x names handler
stat_step k (layer.TryFinally block last) own = all_at block false && all_at last false
stat_step k (layer.Scoped names body) own = are_some names && (names_fit k names && all_at body true)
stat_step k (layer.Yield value kind result) own = false

-- ---- all of it

abbrev pub expr_fits : Core → Naming → CoreExpr → ExprTest
expr_fits core k = fold-CoreExpr Joint ListTest ListTest ExprTest (link_step k) (stat_step k) case_step (expr_step core)

abbrev pub joint_of : Core → Naming → CoreLink → Joint
joint_of core k = fold-CoreLink Joint ListTest ListTest ExprTest (link_step k) (stat_step k) case_step (expr_step core)

abbrev pub stat_fits : Core → Naming → CoreStat → ListTest
stat_fits core k = fold-CoreStat Joint ListTest ListTest ExprTest (link_step k) (stat_step k) case_step (expr_step core)

abbrev pub case_fits : Core → Naming → CoreCase → ListTest
case_fits core k = fold-CoreCase Joint ListTest ListTest ExprTest (link_step k) (stat_step k) case_step (expr_step core)

-- a list of statements, by whether it is that of a scope
abbrev pub list_fits : Core → Naming → List CoreStat → Bool → Bool
list_fits core k xs own = all_at (map (stat_fits core k) xs) own

abbrev pub own_fits : Naming → Option Var → Bool
own_fits k None = true
own_fits k (Some x) = k.fixed x

abbrev pub function_fits_in : Core → Naming → CoreFunction → Bool
function_fits_in core k f = own_fits k f.own && (list_fits core k f.setup false && list_fits core k f.body false)

abbrev pub functions_fit : Core → Naming → List CoreFunction → Bool
functions_fit core k [] = true
functions_fit core k (f ∷ fs) = function_fits_in core k f && functions_fit core k fs

-- the names of a module, and its statements
abbrev pub all_assign : Naming → List ScopedName → Bool
all_assign k [] = true
all_assign k (n ∷ names) = may_assign k.fixed n && all_assign k names

abbrev pub parts_fit : Core → Naming → List CorePart → Bool
parts_fit core k [] = true
parts_fit core k (p ∷ ps) =
    (all_assign k p.names && (list_fits core k p.instantiate false && list_fits core k p.body false)) && parts_fit core k ps

abbrev pub IsFitting : Core → Naming → Type 0
IsFitting core k = (functions_fit core k core.functions ≡ true) × (parts_fit core k core.parts ≡ true)

-- ---- code that fits, whatever the environment

abbrev pub HasFunction : Core → FunctionId → Type 0
HasFunction core f = (function : CoreFunction) × (function_at core f ≡ Some function)

abbrev pub fit_with : Core → Naming → (List (List Var) → Type 0) → Standing
fit_with core k shapes = record {
  stats = λ (e : Environment) (own : Bool) (xs : List CoreStat). list_fits core k xs own ≡ true;
  expr = λ (e : Environment) (w : Wanted) (in_scope : Bool) (x : CoreExpr). expr_fits core k x w in_scope ≡ true;
  links = λ (e : Environment) (w : Wanted) (ls : List CoreLink). joints_fit (map (joint_of core k) ls) w ≡ true;
  handler = λ (e : Environment) (h : Handler). caught_fits k h.parameter h.names (map (stat_fits core k) h.body) ≡ true;
  unmade = λ (e : Environment) (f : FunctionId). HasFunction core f;
  makes = λ (e : Environment) (f : FunctionId). HasFunction core f;
  inside = λ (e : Environment). Unit {0};
  leads = λ (e o : Environment). Unit {0};
  outermost = λ (e : Environment). Unit {0};
  shapes = shapes;
  fixed = k.fixed;
}

-- whatever the names of records
abbrev pub any_shapes : List (List Var) → Type 0
any_shapes bound = Unit {0}

abbrev pub fit_standing : Core → Naming → Standing
fit_standing core k = fit_with core k any_shapes
