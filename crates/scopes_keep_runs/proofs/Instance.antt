-- The standing of the names of a core by the seats and the names of records, and what has to go on along the two runs.
use Rattle.std.proofs.Common.{◌≡◌, ℕ, suc, Bool, false, List, [], ◌∷◌, ◌++◌, length}
use Rattle.runs.specs.Run.{Asks, Goes}
use Rattle.runs.specs.Simulation.{Reaches}
use Rattle.es_outside.specs.declared.events.Event.{Event}
use Rattle.es_outside.specs.declared.host.Reply.{Reply}
use Rattle.es_value.specs.declared.value.Value.{Value}
use Rattle.core_ast.specs.declared.parts.FunctionId.{FunctionId}
use Rattle.core_ast.specs.declared.parts.ScopedName.{ScopedName}
use Rattle.core_ast.specs.declared.parts.Var.{Var}
use Rattle.core_ast.specs.declared.tree.CoreStat.{CoreStat}
use Rattle.core_ast.specs.declared.whole.Core.{Core}
use Rattle.core_meaning.specs.Marks.{CoreWork, Mark}
use Rattle.core_meaning.specs.Modules.{core_step, start}
use Rattle.core_meaning.specs.State.{Catching, Control, Environment, Frame, Hand, Throws}
use Rattle.pass_rules.specs.Cells.{is_among}
use Rattle.pass_rules.specs.Scopes.{without_scopes}
use Rattle.cells_keep_runs.specs.Alike.{Config}
use Rattle.cells_keep_runs.specs.Course.{NewSeats}
use Rattle.cells_keep_runs.specs.Fitting.{any_shapes, fit_standing}
use Rattle.cells_keep_runs.specs.Floors.{Everywhere, Standing}
use Rattle.cells_keep_runs.specs.Found.{Bound}
use Rattle.cells_keep_runs.specs.Kept.{first_seats, kept_of}
use Rattle.cells_keep_runs.specs.KeptFound.{naming}
use Rattle.cells_keep_runs.specs.Memory.{Seat, Seats}
use Rattle.cells_keep_runs.specs.Places.{Below}
use Rattle.cells_keep_runs.specs.Related.{Related}
use Rattle.cells_keep_runs.specs.Standings.{Around, Known, MadeAt, UnmadeAt}
use Rattle.cells_keep_runs.specs.Started.{owners_of}
use Rattle.cells_keep_runs.proofs.GoingOn.{Stands}
use Rattle.cells_keep_runs.proofs.Lasting.{HandMakes, MakesRecord}
use Rattle.cells_keep_runs.proofs.RoundParts.{Besides, round_standing}
use Rattle.scopes_keep_runs.specs.Instance.{LeadsOn, ends_of, known_of}

-- ---- the standing

abbrev pub besides_on : Known → Environment → Seats → Bound → (List (List Var) → Type 0) → (Var → Bool) → Besides
besides_on k ends seats bound shapes fixed = record {
  unmade = λ (e : Environment) (f : FunctionId). UnmadeAt k seats bound e f;
  makes = λ (e : Environment) (f : FunctionId). MadeAt k seats bound e f;
  inside = λ (e : Environment). Below (length seats) e;
  leads = λ (e o : Environment). LeadsOn k seats bound e o;
  outermost = λ (e : Environment). e ≡ ends;
  shapes = shapes;
  fixed = fixed;
}

abbrev pub names_on : Known → Environment → Seats → Bound → (List (List Var) → Type 0) → (Var → Bool) → Standing
names_on k ends seats bound shapes fixed = round_standing k.whole (Around k seats bound) (besides_on k ends seats bound shapes fixed)

abbrev pub names_by : Core → (Var → Bool) → Seats → List (List Var) → Standing
names_by core fixed seats bound = names_on (known_of core) (ends_of core) seats bound any_shapes fixed

-- code stands where it may, and there is a seat for each record
abbrev pub StandsBy : Core → (Var → Bool) → Seats → Config → Type 0
StandsBy core fixed seats s = Stands (names_by core fixed) core (naming core fixed) seats s

abbrev pub At : Core → (Var → Bool) → Seats → Config → Type 0
At core fixed seats s = StandsBy core fixed seats s × (length seats ≡ length s.state.records)

abbrev pub Fitting : Core → (Var → Bool) → Config → Type 0
Fitting core fixed s = Everywhere (fit_standing core (naming core fixed)) s

-- ---- a handler that takes a throw

abbrev pub Catches : Control Mark → List (Frame Mark CoreWork) → Type 0
Catches (Hand c) fs = HandMakes c fs
Catches c fs = ⊥

-- both machines take it, and there is a seat more, by which code stands
pub record HandlerMatched (core : Core) (fixed : Var → Bool) (C : Seats → Config → Type 0) (seats : Seats) (s t : Config) : Type 0 where
  pub new : Seat
  pub behind : Config
  pub target : Config
  pub steps : ℕ
  pub is : core_step core s ≡ Goes behind
  pub way : Reaches (core_step (without_scopes core)) (suc steps) t target
  pub related : Related (owners_of core) (seats ++ new ∷ []) behind target
  pub standing : StandsBy core fixed (seats ++ new ∷ []) behind
  pub counts : C (seats ++ new ∷ []) behind
  pub unkeeping : (f : FunctionId) (x : Var) → is_among x (new.keeps f) ≡ false

-- ---- what goes on: counts, and where code stands behind a step that makes a record

pub record GoesOn (core : Core) (fixed : Var → Bool) (C : Seats → Config → Type 0) : Type 0 where
  pub first : C (first_seats core) (start core)
  pub quiet : (seats : Seats) (s v : Config) → core_step core s ≡ Goes v → (MakesRecord core s.state s.control → ⊥) → Fitting core fixed s → At core fixed seats s → C seats s → C seats v
  pub asked : (seats : Seats) (s : Config) (e : Event) (follow : Reply → Config) (a : Reply) → core_step core s ≡ Asks e follow → Fitting core fixed s → At core fixed seats s → C seats s → C seats (follow a)
  pub made : (seats seats2 : Seats) (s t v : Config) → Related (owners_of core) seats s t → core_step core s ≡ Goes v → MakesRecord core s.state s.control → length seats2 ≡ suc (length seats) → (Catches s.control s.state.context.frames → ⊥)
      → NewSeats core (kept_of core) (owners_of core) seats s t seats2 → Fitting core fixed s → At core fixed seats s → C seats s → StandsBy core fixed seats2 v × C seats2 v
  pub caught : (seats : Seats) (s t : Config) (v : Value) (x : Var) (names : List ScopedName) (handler : List CoreStat) (fs : List (Frame Mark CoreWork)) → Related (owners_of core) seats s t
      → s.control ≡ Hand (Throws v) → s.state.context.frames ≡ Catching x names handler ∷ fs → Fitting core fixed s → At core fixed seats s → C seats s → HandlerMatched core fixed C seats s t
