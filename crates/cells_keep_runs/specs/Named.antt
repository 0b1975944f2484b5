-- When the record of a call has behind the pass what it has before: the names of the function's scopes are its own or of none, and those
-- whose cells it keeps are others.
use Rattle.std.specs.Prelude.{◌≡◌, ◌<◌, true, false, List, [], ◌∷◌, ◌++◌, map, Option, None, Some, length, ℕ}
use Rattle.es_value.specs.declared.value.Value.{Value}
use Rattle.core_ast.specs.Mentions.{function_mentions}
use Rattle.core_ast.specs.declared.parts.Var.{Var}
use Rattle.core_ast.specs.declared.whole.CoreFunction.{CoreFunction}
use Rattle.core_meaning.specs.Marks.{CoreState, KeptCell, Own}
use Rattle.core_meaning.specs.State.{Call, Closure}
use Rattle.pass_rules.specs.Cells.{is_among, is_foreign}
use Rattle.pass_rules.specs.Scopes.{function_flat, vars}
use Rattle.cells_keep_runs.specs.Called.{ArgumentsBound, bindings_of}
use Rattle.cells_keep_runs.specs.Entries.{NewCall}
use Rattle.cells_keep_runs.specs.Memory.{cell_found}

abbrev pub listed : Option Var → List Var
listed None = []
listed (Some x) = x ∷ []

-- the names of the scopes in it, which are locals behind the pass
abbrev pub scoped_names : CoreFunction → List Var
scoped_names f = vars (function_mentions f).scoped

-- the names that a call binds before the pass, and behind it
abbrev pub own_names : CoreFunction → List Var
own_names f = f.parameters ++ (listed f.arguments ++ (f.locals ++ listed f.own))

abbrev pub call_names : CoreFunction → List KeptCell → List Var
call_names f cells =
    f.parameters ++ (listed f.arguments ++ ((f.locals ++ scoped_names f) ++ (map (λ k. k.var) cells ++ listed f.own)))

-- its own name is none of its scopes', and a shared name of others is neither its own nor of its scopes
pub record NamesApart (owners : List ℕ) (number : ℕ) (f : CoreFunction) : Type 0 where
  pub own_apart : (x : Var) → is_among x (listed f.own) ≡ true → is_among x (scoped_names f) ≡ false
  pub others_apart : (x : Var) → is_foreign owners number x ≡ true → is_among x (own_names f ++ scoped_names f) ≡ false

-- cells of shared names of others, each of which is made
pub record CellsOf (owners : List ℕ) (number : ℕ) (cells : List KeptCell) (made : List (Option Value)) : Type 0 where
  pub foreign : (x : Var) (k : ℕ) → cell_found cells x ≡ Some k → is_foreign owners number x ≡ true
  pub there : (x : Var) (k : ℕ) → cell_found cells x ≡ Some k → k < length made

-- Then the target's record of a call has what the source's has, and its arguments object has a name there.
pub record CallsHaveTheirNames : Type 0 where
  pub called : (owners : List ℕ) (number : ℕ) (f : CoreFunction) (kept : List Var) (a b : Closure Own) (c : Call) (s t : CoreState)
      → f.declared ≡ [] → a.own.cells ≡ [] → NamesApart owners number f → CellsOf owners number b.own.cells t.store.cells
      → NewCall (bindings_of (function_flat owners kept f) b c t) (bindings_of f a c s) t.store.cells (scoped_names f) (call_names f b.own.cells) b.own.cells
  pub arguments : (f : CoreFunction) (a : Closure Own) (c : Call) (s : CoreState) → f.declared ≡ [] → ArgumentsBound (bindings_of f a c s) f.arguments
