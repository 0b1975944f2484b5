-- Which nodes stand in a core: those that the passes take out of it.
use Rattle.std.specs.Prelude.{◌≡◌, Bool, true, false, ◌&&◌, ◌||◌, cond, List, [], ◌∷◌, map, Option, None, Some}
use Rattle.std.specs.List.{list_all}
use Rattle.core_ast.specs.declared.parts.CoreHead.{CoreHead}
use Rattle.core_ast.specs.declared.parts.CoreHead.TheVariants as head
use Rattle.core_ast.specs.declared.parts.CoreOp.{CoreOp}
use Rattle.core_ast.specs.declared.parts.CoreOp.TheVariants as op
use Rattle.core_ast.specs.declared.tree.CoreExpr.{CoreExpr, fold-CoreExpr}
use Rattle.core_ast.specs.declared.tree.CoreCase.{CoreCase, fold-CoreCase}
use Rattle.core_ast.specs.declared.tree.CoreLink.{CoreLink, fold-CoreLink}
use Rattle.core_ast.specs.declared.tree.CoreStat.{CoreStat, fold-CoreStat}
use Rattle.core_ast.specs.declared.tree.CoreLink.TheOpen as layer
use Rattle.core_ast.specs.declared.tree.CoreLink.TheOpen.{CoreLink-F, CoreStat-F, CoreCase-F, CoreExpr-F}
use Rattle.core_ast.specs.declared.whole.Core.{Core}
use Rattle.core_ast.specs.declared.whole.CoreFunction.{CoreFunction}
use Rattle.core_ast.specs.declared.whole.CorePart.{CorePart}
use Rattle.core_ast.specs.Lawful.{is_generator}

-- Whether there may be scopes (statements with names of their own, names of handlers, copies of bindings), statements in expressions,
-- yields in expressions, such that have parts, and yields that are statements.
pub record Level : Type 0 where
  pub scopes : Bool
  pub runs : Bool
  pub links : Bool
  pub parted : Bool
  pub yields : Bool

abbrev pub Test : Type 0
Test = Level → Bool

abbrev pub Layer : (Type 0 → Type 0 → Type 0 → Type 0 → Type 0) → Type 0
Layer Of = Of Test Test Test Test

abbrev pub all_within : List Test → Test
all_within [] l = true
all_within (t ∷ ts) l = t l && all_within ts l

abbrev pub is_bare : {A : Type 0} → List A → Bool
is_bare [] = true
is_bare (x ∷ xs) = false

abbrev pub if_there : Option Test → Test
if_there None l = true
if_there (Some t) l = t l

abbrev pub head_within : CoreHead → Test
head_within (head.Copy xs) l = l.scopes
head_within h l = true

-- with parts or without
abbrev pub op_within : CoreOp → Bool → Test
op_within op.Yield bare l = l.links && (bare || l.parted)
op_within op.Delegate bare l = l.links && (bare || l.parted)
op_within o bare l = true

abbrev pub link_step : Layer CoreLink-F → Test
link_step (layer.Strict o parts site) l = op_within o (is_bare parts) l && all_within parts l
link_step (layer.Lazy when taken other) l = taken l && if_there other l
link_step (layer.Run body) l = l.runs && all_within body l

abbrev pub expr_step : Layer CoreExpr-F → Test
expr_step x l = head_within x.head l && all_within x.links l

abbrev pub case_step : Layer CoreCase-F → Test
case_step x l = if_there x.test l && all_within x.body l

abbrev pub stat_step : Layer CoreStat-F → Test
stat_step (layer.Do x) l = x l
stat_step (layer.If cases) l = all_within cases l
stat_step (layer.Switch subject cases) l = subject l && all_within cases l
stat_step (layer.Loop labels test update body) l = if_there test l && if_there update l && all_within body l
stat_step (layer.Labelled label body) l = all_within body l
stat_step (layer.Jump goes_on label) l = true
stat_step (layer.Return x) l = x l
stat_step (layer.Throw x) l = x l
stat_step (layer.TryCatch block parameter names handler) l =
    (is_bare names || l.scopes) && all_within block l && all_within handler l
stat_step (layer.TryFinally block last) l = all_within block l && all_within last l
stat_step (layer.Scoped names body) l = l.scopes && all_within body l
stat_step (layer.Yield value kind result) l = l.yields && value l

abbrev pub expr_within : CoreExpr → Test
expr_within = fold-CoreExpr Test Test Test Test link_step stat_step case_step expr_step

abbrev pub link_within : CoreLink → Test
link_within = fold-CoreLink Test Test Test Test link_step stat_step case_step expr_step

abbrev pub stat_within : CoreStat → Test
stat_within = fold-CoreStat Test Test Test Test link_step stat_step case_step expr_step

abbrev pub case_within : CoreCase → Test
case_within = fold-CoreCase Test Test Test Test link_step stat_step case_step expr_step

abbrev pub stats_within : List CoreStat → Test
stats_within stats l = all_within (map stat_within stats) l

-- ---- functions, parts and the core: yields may stand in the bodies of generators alone, so these have a level of their own

abbrev pub body_level : Level → Level → CoreFunction → Level
body_level inside outside f = cond (is_generator f.kind) inside outside

abbrev pub function_within : Level → Level → CoreFunction → Bool
function_within inside outside f =
    stats_within f.setup outside && stats_within f.body (body_level inside outside f) && stats_within f.step outside

abbrev pub part_within : Level → CorePart → Bool
part_within outside p = stats_within p.instantiate outside && stats_within p.body outside

abbrev pub IsWithin : Level → Level → Core → Type 0
IsWithin inside outside core =
    (list_all (function_within inside outside) core.functions ≡ true) × (list_all (part_within outside) core.parts ≡ true)

-- ---- levels

abbrev pub anything : Level
anything = record { scopes = true; runs = true; links = true; parted = true; yields = true }

abbrev pub nothing : Level
nothing = record { scopes = false; runs = false; links = false; parted = false; yields = false }

-- what is left of a level when scopes are flat
abbrev pub unscoped : Level → Level
unscoped l = record l { scopes = false }

-- and when yields are, none of which may have parts: those in expressions are statements then
abbrev pub unparted : Level → Level
unparted l = record l { parted = false }

abbrev pub spilled : Level → Level
spilled l = record l { runs = false; links = false; parted = false; yields = l.yields || l.links }

-- generators hand values out by statements, and then by their steps
abbrev pub yielding : Level → Level
yielding l = record l { runs = false; yields = true }

abbrev pub stepped : Level → Level
stepped l = record l { runs = false; yields = false }

-- the levels of a lawful core: of the bodies of generators, and of all else
abbrev pub unyielding : Level → Level
unyielding l = record l { links = false; yields = false }

abbrev pub lawful_inside : Level
lawful_inside = unparted anything

abbrev pub lawful_outside : Level
lawful_outside = unyielding lawful_inside
