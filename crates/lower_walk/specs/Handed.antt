-- The walkers that are handed in, and what they do: exactly what the fold says of each node.
use Rattle.std.specs.Prelude.{ℕ, ◌≡◌, ◌≤◌, ⊤, List, Result, Ok, Err}
use Rattle.std.specs.declared.alloc.AllocError.{AllocError}
use denote.Ref.{Bor, MutBor}
use Rattle.std.specs.declared.vec.Vec.{Vec}
use Rattle.std.specs.declared.alloc.Global.{Global}
use Rattle.es6_ast.specs.declared.tree.Expression.{Expression}
use Rattle.es6_ast.specs.declared.tree.Pattern.{Pattern}
use Rattle.es6_ast.specs.declared.tree.Statement.{Statement}
use Rattle.es6_ast.specs.declared.tree.Function.{Function}
use Rattle.core_ast.specs.declared.parts.FunctionId.{FunctionId}
use Rattle.core_ast.specs.declared.tree.CoreExpr.{CoreExpr}
use Rattle.core_ast.specs.declared.tree.CoreStat.{CoreStat}
use Rattle.lowering_rules.specs.declared.reference_rules.references.Reached.{Reached}
use Rattle.module_lowering.specs.declared.context.FunctionForm.{FunctionForm}
use Rattle.module_lowering.specs.declared.context.Role.{Role}
use Rattle.module_lowering.specs.declared.lowerer.Lowerer.{Lowerer}
use Rattle.module_lowering.specs.Lowered.{expression_lowered, function_lowered, pattern_lowered, statement_lowered}
use Rattle.module_lowering.specs.Lowering.{Lowering, Lowers}
use Rattle.lower_walk.specs.declared.around.Around.{Around}
use Rattle.lower_walk.specs.declared.here.Here.{Here}

-- what is made there
abbrev pub done_at : {A : Type 0} → Around → Lowering A → Lowerer → A × Lowerer
done_at around a state = a around.bindings.now around.context.now state

-- what code gives where it is seen as something else: exactly that, or nothing where memory is out
abbrev pub LowersAs : {A B E : Type 0} → (B → A) → A × Lowerer → Result B E → Lowerer → Type 0
LowersAs seen outcome (Ok x) state = outcome ≡ (seen x, state)
LowersAs seen outcome (Err e) state = ⊤

-- what it gives in a vector
abbrev pub LowersItems : {A E : Type 0} → List A × Lowerer → Result (Vec A Global) E → Lowerer → Type 0
LowersItems outcome (Ok x) state = outcome ≡ (x.items, state)
LowersItems outcome (Err e) state = ⊤

-- each may be called where no more nodes may stand inside one another than here
pub record WalksExpressions (room : ℕ)
    (pre : Around → Bor Expression → MutBor Lowerer → Type 0)
    (post : Around → Bor Expression → MutBor Lowerer → Result Reached AllocError → MutBor Lowerer → Type 0) : Type 0 where
  pub callable : (a : Around) (x : Bor Expression) (s : MutBor Lowerer) → a.room ≤ room → pre a x s
  pub walks : (a : Around) (x : Bor Expression) (s : MutBor Lowerer) (y : Result Reached AllocError) (t : MutBor Lowerer)
      → a.room ≤ room → post a x s y t → Lowers (done_at a (expression_lowered x.now).reached s.now) y t.now

pub record WalksPatterns (room : ℕ)
    (pre : Around → Bor Pattern → Role → CoreExpr → MutBor Lowerer → Type 0)
    (post : Around → Bor Pattern → Role → CoreExpr → MutBor Lowerer → Result (List CoreStat) AllocError → MutBor Lowerer → Type 0) : Type 0 where
  pub callable : (a : Around) (x : Bor Pattern) (r : Role) (e : CoreExpr) (s : MutBor Lowerer) → a.room ≤ room → pre a x r e s
  pub walks : (a : Around) (x : Bor Pattern) (r : Role) (e : CoreExpr) (s : MutBor Lowerer) (y : Result (List CoreStat) AllocError) (t : MutBor Lowerer)
      → a.room ≤ room → post a x r e s y t → Lowers (done_at a ((pattern_lowered x.now).bound r e) s.now) y t.now

pub record WalksStatements (room : ℕ)
    (pre : Around → Bor Statement → MutBor Lowerer → Type 0)
    (post : Around → Bor Statement → MutBor Lowerer → Result (List CoreStat) AllocError → MutBor Lowerer → Type 0) : Type 0 where
  pub callable : (a : Around) (x : Bor Statement) (s : MutBor Lowerer) → a.room ≤ room → pre a x s
  pub walks : (a : Around) (x : Bor Statement) (s : MutBor Lowerer) (y : Result (List CoreStat) AllocError) (t : MutBor Lowerer)
      → a.room ≤ room → post a x s y t → Lowers (done_at a (statement_lowered x.now).listed.statements s.now) y t.now

pub record WalksFunctions (room : ℕ)
    (pre : Around → Bor Function → FunctionForm → MutBor Lowerer → Type 0)
    (post : Around → Bor Function → FunctionForm → MutBor Lowerer → Result FunctionId AllocError → MutBor Lowerer → Type 0) : Type 0 where
  pub callable : (a : Around) (x : Bor Function) (f : FunctionForm) (s : MutBor Lowerer) → a.room ≤ room → pre a x f s
  pub walks : (a : Around) (x : Bor Function) (f : FunctionForm) (s : MutBor Lowerer) (y : Result FunctionId AllocError) (t : MutBor Lowerer)
      → a.room ≤ room → post a x f s y t → Lowers (done_at a ((function_lowered x.now).lowered f) s.now) y t.now

-- the walkers where a node stands
module _ {E P S F : Type 0} where
  abbrev pub HasExpressions : (E → Around → Bor Expression → MutBor Lowerer → Type 0)
      → (E → Around → Bor Expression → MutBor Lowerer → Result Reached AllocError → MutBor Lowerer → Type 0) → Here E P S F → Type 0
  HasExpressions pre post here = WalksExpressions here.around.room (pre here.expression.now) (post here.expression.now)

  abbrev pub HasPatterns : (P → Around → Bor Pattern → Role → CoreExpr → MutBor Lowerer → Type 0)
      → (P → Around → Bor Pattern → Role → CoreExpr → MutBor Lowerer → Result (List CoreStat) AllocError → MutBor Lowerer → Type 0)
      → Here E P S F → Type 0
  HasPatterns pre post here = WalksPatterns here.around.room (pre here.pattern.now) (post here.pattern.now)

  abbrev pub HasStatements : (S → Around → Bor Statement → MutBor Lowerer → Type 0)
      → (S → Around → Bor Statement → MutBor Lowerer → Result (List CoreStat) AllocError → MutBor Lowerer → Type 0) → Here E P S F → Type 0
  HasStatements pre post here = WalksStatements here.around.room (pre here.statement.now) (post here.statement.now)

  abbrev pub HasFunctions : (F → Around → Bor Function → FunctionForm → MutBor Lowerer → Type 0)
      → (F → Around → Bor Function → FunctionForm → MutBor Lowerer → Result FunctionId AllocError → MutBor Lowerer → Type 0) → Here E P S F → Type 0
  HasFunctions pre post here = WalksFunctions here.around.room (pre here.function.now) (post here.function.now)
