-- The marks of calls: the places that they carry.
use Rattle.std.specs.Prelude.{◌≡◌, ℕ, ◌+◌, ◌≤◌, Bool, true, false, ◌&&◌, cond, List, [], ◌∷◌, map, Option, None, Some}
use Rattle.es_outside.specs.declared.events.Site.{Site}
use Rattle.core_ast.specs.declared.parts.CoreOp.{CoreOp}
use Rattle.core_ast.specs.declared.parts.CoreOp.TheVariants as op
use Rattle.core_ast.specs.declared.tree.CoreExpr.{CoreExpr, fold-CoreExpr}
use Rattle.core_ast.specs.declared.tree.CoreCase.{CoreCase, fold-CoreCase}
use Rattle.core_ast.specs.declared.tree.CoreLink.{CoreLink, fold-CoreLink}
use Rattle.core_ast.specs.declared.tree.CoreStat.{CoreStat, fold-CoreStat}
use Rattle.core_ast.specs.declared.tree.CoreLink.TheOpen as layer
use Rattle.core_ast.specs.declared.tree.CoreLink.TheOpen.{CoreLink-F, CoreStat-F, CoreCase-F, CoreExpr-F}
use Rattle.core_ast.specs.declared.whole.Core.{Core}
use Rattle.core_ast.specs.declared.whole.CoreFunction.{CoreFunction}
use Rattle.core_ast.specs.declared.whole.CorePart.{CorePart}
use Rattle.core_ast.specs.Lawful.{IsLawful}
use Rattle.pass_rules.specs.Scopes.{without_scopes}
use Rattle.pass_rules.specs.pass_laws.Operations.{AllSuch, no_content}
use Rattle.pass_rules.specs.state_rules.States.{with_machines}
use Rattle.pass_rules.specs.yield_rules.Yields.{with_yields_flat}

abbrev pub is_call : CoreOp → Bool
is_call op.Call = true
is_call op.CallList = true
is_call op.CallWith = true
is_call op.CallListWith = true
is_call op.New = true
is_call op.NewList = true
is_call o = false

-- how many calls there are with such a mark
abbrev pub mark : (Site → Bool) → CoreOp → Option Site → ℕ
mark such o None = 0
mark such o (Some site) = cond (is_call o && such site) 1 0

abbrev pub total : List ℕ → ℕ
total [] = 0
total (n ∷ ns) = n + total ns

abbrev pub if_any : Option ℕ → ℕ
if_any None = 0
if_any (Some n) = n

abbrev pub Layer : (Type 0 → Type 0 → Type 0 → Type 0 → Type 0) → Type 0
Layer Of = Of ℕ ℕ ℕ ℕ

abbrev pub link_step : (Site → Bool) → Layer CoreLink-F → ℕ
link_step such (layer.Strict o parts site) = total parts + mark such o site
link_step such (layer.Lazy when taken other) = taken + if_any other
link_step such (layer.Run body) = total body

abbrev pub expr_step : Layer CoreExpr-F → ℕ
expr_step x = total x.links

abbrev pub case_step : Layer CoreCase-F → ℕ
case_step x = if_any x.test + total x.body

abbrev pub stat_step : Layer CoreStat-F → ℕ
stat_step (layer.Do x) = x
stat_step (layer.If cases) = total cases
stat_step (layer.Switch subject cases) = subject + total cases
stat_step (layer.Loop labels test update body) = if_any test + if_any update + total body
stat_step (layer.Labelled label body) = total body
stat_step (layer.Jump goes_on label) = 0
stat_step (layer.Return x) = x
stat_step (layer.Throw x) = x
stat_step (layer.TryCatch block parameter names handler) = total block + total handler
stat_step (layer.TryFinally block last) = total block + total last
stat_step (layer.Scoped names body) = total body
stat_step (layer.Yield value kind result) = value

abbrev pub expr_marks : (Site → Bool) → CoreExpr → ℕ
expr_marks such = fold-CoreExpr ℕ ℕ ℕ ℕ (link_step such) stat_step case_step expr_step

abbrev pub link_marks : (Site → Bool) → CoreLink → ℕ
link_marks such = fold-CoreLink ℕ ℕ ℕ ℕ (link_step such) stat_step case_step expr_step

abbrev pub stat_marks : (Site → Bool) → CoreStat → ℕ
stat_marks such = fold-CoreStat ℕ ℕ ℕ ℕ (link_step such) stat_step case_step expr_step

abbrev pub case_marks : (Site → Bool) → CoreCase → ℕ
case_marks such = fold-CoreCase ℕ ℕ ℕ ℕ (link_step such) stat_step case_step expr_step

abbrev pub stats_marks : (Site → Bool) → List CoreStat → ℕ
stats_marks such stats = total (map (stat_marks such) stats)

abbrev pub function_marks : (Site → Bool) → CoreFunction → ℕ
function_marks such f = stats_marks such f.setup + stats_marks such f.body + stats_marks such f.step

abbrev pub part_marks : (Site → Bool) → CorePart → ℕ
part_marks such p = stats_marks such p.instantiate + stats_marks such p.body

abbrev pub marks : (Site → Bool) → Core → ℕ
marks such core = total (map (function_marks such) core.functions) + total (map (part_marks such) core.parts)

-- Whatever the marks, as many calls carry such a one behind the flattening of scopes as before.
abbrev pub ScopesKeepMarks : Type 0
ScopesKeepMarks = (such : Site → Bool) (core : Core)
    → IsLawful core → marks such (without_scopes core) ≡ marks such core

-- Behind the states of generators no more calls do than before: what stands behind a jump is left out.
abbrev pub MachinesMakeNoMarks : Type 0
MachinesMakeNoMarks = (such : Site → Bool) (core : Core) → marks such (with_machines core) ≤ marks such core

-- As many behind the flattening of yields.
abbrev pub YieldsKeepMarks : Type 0
YieldsKeepMarks = (such : Site → Bool) (core : Core)
    → IsLawful core → marks such (with_yields_flat core) ≡ marks such core

-- So no more behind all three, if no operation was on the content of a cell.
abbrev pub AllMakeNoMarks : Type 0
AllMakeNoMarks = (such : Site → Bool) (core : Core)
    → IsLawful core → AllSuch no_content core
    → marks such (with_machines (with_yields_flat (without_scopes core))) ≤ marks such core
