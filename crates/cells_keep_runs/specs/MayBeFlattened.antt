-- When scopes may be flattened, of the core alone: names stand in their scopes, a name that a function further in mentions comes once in its activation
-- or is shared, and a copy copies no such name that isn't.
use Rattle.std.specs.Prelude.{ℕ, ◌+◌, Bool, true, false, not, ◌&&◌, ◌||◌, if◌then◌else◌, nat_eq, nat_le, nat_lt, List, [], ◌∷◌, ◌++◌, map, get_or, length, Option, None, Some}
use Rattle.std.specs.List.{filter, flat_map, list_all}
use Rattle.core_ast.specs.Lawful.{all_differ}
use Rattle.core_ast.specs.Mentions.{function_mentions, part_mentions}
use Rattle.core_ast.specs.declared.parts.CoreHead.{CoreHead}
use Rattle.core_ast.specs.declared.parts.CoreHead.TheVariants as head
use Rattle.core_ast.specs.declared.parts.CoreOp.{CoreOp}
use Rattle.core_ast.specs.declared.parts.CoreOp.TheVariants as op
use Rattle.core_ast.specs.declared.parts.FunctionId.{FunctionId}
use Rattle.core_ast.specs.declared.parts.ScopedName.{ScopedName}
use Rattle.core_ast.specs.declared.parts.Var.{Var}
use Rattle.core_ast.specs.declared.tree.CoreLink.TheOpen as layer
use Rattle.core_ast.specs.declared.tree.CoreLink.TheOpen.{CoreCase-F, CoreExpr-F, CoreLink-F, CoreStat-F}
use Rattle.core_ast.specs.declared.tree.CoreCase.{CoreCase, fold-CoreCase}
use Rattle.core_ast.specs.declared.tree.CoreExpr.{CoreExpr, fold-CoreExpr}
use Rattle.core_ast.specs.declared.tree.CoreLink.{CoreLink, fold-CoreLink}
use Rattle.core_ast.specs.declared.tree.CoreStat.{CoreStat, fold-CoreStat}
use Rattle.core_ast.specs.declared.whole.Core.{Core}
use Rattle.core_ast.specs.declared.whole.CoreFunction.{CoreFunction}
use Rattle.core_ast.specs.declared.whole.CorePart.{CorePart}
use Rattle.pass_rules.specs.Cells.{all_free, cells_at, found, holders, is_among, is_shared}
use Rattle.pass_rules.specs.Scopes.{vars}
use Rattle.cells_keep_runs.specs.Declares.{declares}
use Rattle.cells_keep_runs.specs.Named.{listed, own_names, scoped_names}
use Rattle.cells_keep_runs.specs.Started.{owners_of}

-- ---- the names further out that a function mentions, or one in it

abbrev pub without : List Var → List Var → List Var
without ys xs = filter (λ x. not (is_among x ys)) xs

-- that a function declares
abbrev pub declared_by : CoreFunction → List Var
declared_by f = own_names f ++ (vars (function_mentions f).scoped ++ (function_mentions f).caught)

-- those of the functions that it holds stand before
abbrev pub outer_of : List (List Var) → CoreFunction → List Var
outer_of before f =
    without (declared_by f) ((function_mentions f).uses ++ flat_map (λ g. get_or before g.0 []) (function_mentions f).functions)

abbrev pub all_outer : List (List Var) → List CoreFunction → List (List Var)
all_outer before [] = before
all_outer before (f ∷ fs) = all_outer (before ++ outer_of before f ∷ []) fs

-- by the number of the function
abbrev pub outer_names : Core → List (List Var)
outer_names core = all_outer [] core.functions

-- ---- what is round a part of code: the names of its scopes and of those further out; those of the scopes in its function, and all that scopes in it
-- declare; the names of the innermost scope, if that is no handler; whether a loop is round it in its function; and below which number a held
-- function's is

pub record Round : Type 0 where
  pub names : List Var
  pub here : List Var
  pub locals : List Var
  pub innermost : Option (List ScopedName)
  pub in_loop : Bool
  pub functions : ℕ

-- of the whole core: the owners of shared names; of each function the names further out that it mentions, and those whose cells it keeps; and all names
-- that functions further in mention; how many modules there
-- are; and the number of the function that declares a name, or one that is none's
pub record Whole : Type 0 where
  pub owners : List ℕ
  pub outer : List (List Var)
  pub kept : List (List Var)
  pub captured : List Var
  pub modules : ℕ
  pub declarer : Var → ℕ

abbrev pub Test : Type 0
Test = Round → Bool

abbrev pub Layer : (Type 0 → Type 0 → Type 0 → Type 0 → Type 0) → Type 0
Layer Of = Of Test Test Test Test

abbrev pub each : List Test → Test
each tests round = list_all (λ t. t round) tests

abbrev pub if_there : Option Test → Test
if_there None round = true
if_there (Some t) round = t round

abbrev pub all_among : List Var → List Var → Bool
all_among xs ys = list_all (λ x. is_among x ys) xs

abbrev pub none_among : List Var → List Var → Bool
none_among xs ys = list_all (λ x. not (is_among x ys)) xs

-- a name that comes several times in an activation is a shared one, if a function further in mentions it
abbrev pub may_come_often : Whole → List Var → Bool
may_come_often whole names = list_all (λ x. is_shared whole.owners x || not (is_among x whole.captured)) names

-- ---- heads and operations

abbrev pub none_twice : List Var → Bool
none_twice [] = true
none_twice (x ∷ xs) = not (is_among x xs) && none_twice xs

-- the shared ones of the first names are among the second
abbrev pub shared_among : Whole → List Var → List Var → Bool
shared_among whole names xs = list_all (λ x. not (is_shared whole.owners x) || is_among x xs) names

-- a copy names the shared names of the innermost scope
abbrev pub copy_may : Whole → List Var → Option (List ScopedName) → Bool
copy_may whole xs None = false
copy_may whole xs (Some names) =
    all_among xs (vars names) && none_twice xs && may_come_often whole (vars names) && shared_among whole (vars names) xs

-- of the names that a function mentions further out its closure keeps the shared ones of the scopes here
abbrev pub closure_may : Whole → FunctionId → Test
closure_may whole f round =
    nat_lt f.0 round.functions
    && list_all (λ x. is_among x round.names && (not (is_among x round.here && is_shared whole.owners x) || is_among x (get_or whole.kept f.0 [])))
    (get_or whole.outer f.0 [])

abbrev pub head_may : Whole → CoreHead → Test
head_may whole (head.Variable x) round = is_among x round.names
head_may whole (head.TypeOf x) round = is_among x round.names
head_may whole (head.Copy xs) round = copy_may whole xs round.innermost
head_may whole (head.Function f) round = closure_may whole f round
head_may whole h round = true

abbrev pub op_may : CoreOp → Test
op_may (op.Set x) round = is_among x round.names
op_may (op.Init x) round = is_among x round.names
op_may (op.StepVariable update x) round = is_among x round.names
op_may o round = true

-- ---- the walk

abbrev pub link_step : Whole → Layer CoreLink-F → Test
link_step whole (layer.Strict o parts site) round = op_may o round && each parts round
link_step whole (layer.Lazy when taken other) round = taken round && if_there other round
link_step whole (layer.Run body) round = each body round

abbrev pub expr_step : Whole → Layer CoreExpr-F → Test
expr_step whole x round = head_may whole x.head round && each x.links round

abbrev pub case_step : Whole → Layer CoreCase-F → Test
case_step whole x round = if_there x.test round && each x.body round

abbrev pub within : List ScopedName → Round → Round
within names round = record round { names = vars names ++ round.names; here = vars names ++ round.here; innermost = Some names }

abbrev pub in_handler : Var → List ScopedName → Round → Round
in_handler x names round = record round { names = x ∷ vars names ++ round.names; here = vars names ++ round.here; innermost = None }

abbrev pub looped : Round → Round
looped round = record round { in_loop = true }

-- the names of a scope are new, and among those of its function
abbrev pub scope_may : Whole → List ScopedName → Test
scope_may whole names round =
    all_among (vars names) round.locals && none_among (vars names) round.names && (not round.in_loop || may_come_often whole (vars names))

-- and so is a handler's parameter, which no scope has
abbrev pub parameter_may : Whole → Var → List ScopedName → Test
parameter_may whole x names round =
    not (is_among x round.locals) && not (is_among x round.names) && not (is_shared whole.owners x) && not (is_among x (vars names))
    && nat_le round.functions (whole.declarer x)

abbrev pub stat_step : Whole → Layer CoreStat-F → Test
stat_step whole (layer.Do x) round = x round
stat_step whole (layer.If cases) round = each cases round
stat_step whole (layer.Switch subject cases) round = subject round && each cases round
stat_step whole (layer.Loop labels test update body) round =
    if_there test (looped round) && if_there update (looped round) && each body (looped round)
stat_step whole (layer.Labelled label body) round = each body round
stat_step whole (layer.Jump goes_on label) round = true
stat_step whole (layer.Return x) round = x round
stat_step whole (layer.Throw x) round = x round
stat_step whole (layer.TryCatch block x names handler) round =
    each block round && parameter_may whole x names round && scope_may whole names round && each handler (in_handler x names round)
stat_step whole (layer.TryFinally block last) round = each block round && each last round
stat_step whole (layer.Scoped names body) round = scope_may whole names round && each body (within names round)
stat_step whole (layer.Yield value kind result) round = value round && all_among (listed kind ++ result ∷ []) round.names

abbrev pub stat_may : Whole → CoreStat → Test
stat_may whole = fold-CoreStat Test Test Test Test (link_step whole) (stat_step whole) (case_step whole) (expr_step whole)

abbrev pub expr_may : Whole → CoreExpr → Test
expr_may whole = fold-CoreExpr Test Test Test Test (link_step whole) (stat_step whole) (case_step whole) (expr_step whole)

abbrev pub case_may : Whole → CoreCase → Test
case_may whole = fold-CoreCase Test Test Test Test (link_step whole) (stat_step whole) (case_step whole) (expr_step whole)

abbrev pub link_may : Whole → CoreLink → Test
link_may whole = fold-CoreLink Test Test Test Test (link_step whole) (stat_step whole) (case_step whole) (expr_step whole)

abbrev pub stats_may : Whole → List CoreStat → Test
stats_may whole stats round = each (map (stat_may whole) stats) round

-- ---- functions, parts and the core

abbrev pub round_of : List Var → List Var → ℕ → Round
round_of names locals functions = record { names = names; here = []; locals = locals; innermost = None; in_loop = false; functions = functions }

-- a function's own names aren't shared, and those further out are neither its own nor of its scopes, and it keeps such alone
abbrev pub function_may : Whole → ℕ → CoreFunction → Bool
function_may whole place f =
    let outer = get_or whole.outer place [] in
    let round = round_of (own_names f ++ outer) (scoped_names f) place in
    stats_may whole f.setup round && stats_may whole f.body round
    && list_all (λ x. not (is_shared whole.owners x)) (own_names f) && none_among outer (own_names f ++ scoped_names f)
    && none_among (own_names f) (scoped_names f) && all_among (get_or whole.kept place []) outer
    && list_all (λ x. nat_eq (whole.declarer x) place) (own_names f ++ scoped_names f)

abbrev pub functions_may : Whole → ℕ → List CoreFunction → Bool
functions_may whole place [] = true
functions_may whole place (f ∷ fs) = function_may whole place f && functions_may whole (place + 1) fs

-- the names of all modules are seen in each
abbrev pub all_names : List CorePart → List Var
all_names ps = flat_map (λ p. vars p.names) ps

abbrev pub scoped_of : CorePart → List Var
scoped_of p = vars (part_mentions p).scoped

abbrev pub all_scoped : List CorePart → List Var
all_scoped ps = flat_map scoped_of ps

-- those of scopes are others than those of modules, and than those of another module's scopes
abbrev pub parts_apart : List Var → List CorePart → Bool
parts_apart names [] = true
parts_apart names (p ∷ ps) = none_among (scoped_of p) names && none_among (scoped_of p) (all_scoped ps) && parts_apart names ps

-- the names of modules aren't shared, and no function declares them or those of their scopes
abbrev pub modules_may : Whole → ℕ → List CorePart → Bool
modules_may whole functions ps =
    list_all (λ x. not (is_shared whole.owners x)) (all_names ps) && parts_apart (all_names ps) ps
    && list_all (λ x. nat_le functions (whole.declarer x)) (all_names ps ++ all_scoped ps)

abbrev pub part_may : Whole → List Var → ℕ → CorePart → Bool
part_may whole names functions p =
    let round = round_of names (scoped_of p) functions in
    stats_may whole p.instantiate round && stats_may whole p.body round

-- the names whose cells each function keeps, as the pass has them
abbrev pub kept_from : List ℕ → List ℕ → List (List Var) → ℕ → List CoreFunction → List (List Var)
kept_from owners holders all place [] = []
kept_from owners holders all place (f ∷ fs) = cells_at owners holders all place ∷ kept_from owners holders all (place + 1) fs

abbrev pub all_kept : Core → List (List Var)
all_kept core =
    let table = owners_of core in
    kept_from table (holders (length core.functions) (found core)) (all_free table [] (found core)) 0 core.functions

-- the first of these lists that has the name, from a number on
abbrev pub declarer_in : List (List Var) → ℕ → Var → ℕ
declarer_in [] n x = n
declarer_in (ys ∷ yss) n x = if is_among x ys then n else declarer_in yss (n + 1) x

abbrev pub whole_of : Core → Whole
whole_of core =
    let table = outer_names core in
    record { owners = owners_of core; outer = table; kept = all_kept core; captured = flat_map (λ xs. xs) table; modules = length core.parts; declarer = declarer_in (map declared_by core.functions) 0 }

-- such a name is declared once in its activation, if it isn't shared
abbrev pub comes_once : Whole → List Var → List CoreStat → List CoreStat → Bool
comes_once whole names first later =
    list_all (λ x. is_shared whole.owners x || not (is_among x whole.captured) || nat_le ((declares x).stats first + (declares x).stats later) 1) names

abbrev pub functions_once : Whole → List CoreFunction → Bool
functions_once whole fs = list_all (λ f. comes_once whole (scoped_names f) f.setup f.body) fs

abbrev pub parts_once : Whole → List CorePart → Bool
parts_once whole ps = list_all (λ p. comes_once whole (scoped_of p) p.instantiate p.body) ps

-- each name that is mentioned stands in its scope; what a function further in mentions comes once in its activation, or is shared; and each module
-- runs once
abbrev pub names_may_be_flattened : Core → Bool
names_may_be_flattened core =
    let whole = whole_of core in
    functions_may whole 0 core.functions && modules_may whole (length core.functions) core.parts
    && list_all (part_may whole (all_names core.parts) (length core.functions)) core.parts && all_differ core.order
    && functions_once whole core.functions && parts_once whole core.parts
