-- What makes a record leaves code where it may stand too, if what runs along the new environment may stand there.
use Rattle.std.specs.Prelude.{◌≡◌, List, [], ◌∷◌, length, ℕ}
use Rattle.runs.specs.Laws.{spanned}
use Rattle.es_value.specs.declared.value.Value.{Value}
use Rattle.core_ast.specs.declared.parts.CoreHead.TheVariants as head
use Rattle.core_ast.specs.declared.parts.ScopedName.{ScopedName}
use Rattle.core_ast.specs.declared.parts.Var.{Var}
use Rattle.core_ast.specs.declared.tree.CoreExpr.{CoreExpr, out-CoreExpr}
use Rattle.core_ast.specs.declared.tree.CoreLink.{CoreLink}
use Rattle.core_ast.specs.declared.tree.CoreLink.TheOpen as layer
use Rattle.core_ast.specs.declared.tree.CoreStat.{CoreStat, out-CoreStat}
use Rattle.core_ast.specs.declared.whole.Core.{Core}
use Rattle.core_meaning.specs.Marks.{CoreState}
use Rattle.core_meaning.specs.Modules.{core_step}
use Rattle.core_meaning.specs.Rows.{pushed, with_control}
use Rattle.core_meaning.specs.State.{Begin, Call, Calls, Catching, Done, Environment, Hand, Run, Throws}
use Rattle.cells_keep_runs.specs.Copied.{InScope}
use Rattle.cells_keep_runs.specs.Placing.{At, Everywhere, Handler, NextAt, Placing}
use Rattle.cells_keep_runs.specs.Ready.{ClosureCall}

-- the environment with the next record
abbrev pub inner : CoreState → Environment → Environment
inner st e = length st.records ∷ e

-- A scope is entered,
abbrev pub ScopesStay : At (List CoreStat) → At CoreExpr → At (List CoreLink) → At Handler → Type 0
ScopesStay S E L H = (core : Core) (s : CoreState) (x : CoreStat) (xs body : List CoreStat) (names : List ScopedName)
    → out-CoreStat x ≡ layer.Scoped names body → S (inner s s.context.environment) body
    → Everywhere S E L H (with_control (Run (x ∷ xs)) s) → NextAt S E L H (core_step core (with_control (Run (x ∷ xs)) s))

-- a handler takes a throw,
abbrev pub HandlersStay : At (List CoreStat) → At CoreExpr → At (List CoreLink) → At Handler → Type 0
HandlersStay S E L H = (core : Core) (s : CoreState) (x : Var) (names : List ScopedName) (handler : List CoreStat) (v : Value)
    → S (inner s s.context.environment) handler
    → Everywhere S E L H (with_control (Hand (Throws v)) (pushed (Catching x names handler) s))
    → NextAt S E L H (core_step core (with_control (Hand (Throws v)) (pushed (Catching x names handler) s)))

-- a loop's names are copied: what may stand along the old environment may stand along the new one,
abbrev pub CopiesStay : At (List CoreStat) → At CoreExpr → At (List CoreLink) → At Handler → Type 0
CopiesStay S E L H = (core : Core) (s : CoreState) (x : CoreExpr) (xs : List Var) (n : ℕ) (o : Environment)
    → (out-CoreExpr x).head ≡ head.Copy xs → s.context.environment ≡ n ∷ o → InScope s.context.frames
    → ((ys : List CoreStat) → S (n ∷ o) ys → S (inner s o) ys) → ((y : CoreExpr) → E (n ∷ o) y → E (inner s o) y)
    → ((ls : List CoreLink) → L (n ∷ o) ls → L (inner s o) ls)
    → Everywhere S E L H (with_control (Begin x) s) → NextAt S E L H (core_step core (with_control (Begin x) s))

-- a closure is called,
abbrev pub CallsStay : At (List CoreStat) → At CoreExpr → At (List CoreLink) → At Handler → Type 0
CallsStay S E L H = (core : Core) (s : CoreState) (c : Call) (r : ClosureCall core c s) → r.function.declared ≡ []
    → S (inner s r.closure.environment) r.function.setup → S (inner s r.closure.environment) r.function.body
    → Everywhere S E L H (with_control (Calls c) s) → NextAt S E L H (core_step core (with_control (Calls c) s))

-- and the next body of a module runs.
abbrev pub BodiesStay : At (List CoreStat) → At CoreExpr → At (List CoreLink) → At Handler → Type 0
BodiesStay S E L H = (core : Core) (s : CoreState) (b : List CoreStat) (bs : List (List CoreStat))
    → s.context.frames ≡ [] → s.callers ≡ [] → s.ahead ≡ b ∷ bs → S s.context.environment b
    → Everywhere S E L H (with_control (Hand Done) s) → NextAt S E L H (core_step core (with_control (Hand Done) s))

pub record RecordsStay (S : At (List CoreStat)) (E : At CoreExpr) (L : At (List CoreLink)) (H : At Handler) : Type 0 where
  pub scopes : ScopesStay S E L H
  pub handlers : HandlersStay S E L H
  pub copies : CopiesStay S E L H
  pub calls : CallsStay S E L H
  pub bodies : BodiesStay S E L H

abbrev pub CodeStaysInRecords : Type 0 → Type 0 → Type 0 → Type 0 → Type 0
CodeStaysInRecords V W X Y = (env : V → Environment) (stats : V → List CoreStat) (env2 : W → Environment) (expr : W → CoreExpr)
    (env3 : X → Environment) (links : X → List CoreLink) (env4 : Y → Environment) (handler : Y → Handler)
    → Placing (spanned env stats) (spanned env2 expr) (spanned env3 links) (spanned env4 handler)
    → RecordsStay (spanned env stats) (spanned env2 expr) (spanned env3 links) (spanned env4 handler)
