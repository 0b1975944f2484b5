-- The two runs of a core whose code fits, from a standing of names that goes on along them.
use Rattle.std.proofs.Common.{◌≡◌, ℕ, suc, Bool, List, [], ◌∷◌, ◌++◌, length, refl, sym, subst, ap, arith}
use Rattle.runs.specs.Run.{Asks}
use Rattle.runs.specs.Same.{Same}
use Rattle.runs.specs.Simulation.{Reaches}
use Rattle.es_outside.specs.declared.events.Event.{Event}
use Rattle.es_outside.specs.declared.host.Reply.{Reply}
use Rattle.core_ast.specs.Lawful.{IsLawful}
use Rattle.core_ast.specs.declared.parts.ScopedName.{ScopedName}
use Rattle.core_ast.specs.declared.parts.Var.{Var}
use Rattle.core_ast.specs.declared.tree.CoreLink.TheOpen as layer
use Rattle.core_ast.specs.declared.tree.CoreStat.{CoreStat, out-CoreStat}
use Rattle.core_ast.specs.declared.whole.Core.{Core}
use Rattle.core_meaning.specs.Modules.{core_step, runc, start}
use Rattle.core_meaning.specs.State.{Run, Throws}
use Rattle.pass_rules.specs.Scopes.{without_scopes}
use Rattle.cells_keep_runs.specs.Alike.{Config}
use Rattle.cells_keep_runs.specs.Course.{NewSeats, a_call_more, a_copy_more, a_handler_more, a_scope_more, answered, begun, gone_on, no_more}
use Rattle.cells_keep_runs.specs.Fitting.{IsFitting}
use Rattle.cells_keep_runs.specs.Floors.{Anew, Everywhere, Placed, Standing}
use Rattle.cells_keep_runs.specs.Kept.{IsReached, NoneKept, first_seats, kept_of}
use Rattle.cells_keep_runs.specs.KeptFound.{naming}
use Rattle.cells_keep_runs.specs.Memory.{Seat, Seats}
use Rattle.cells_keep_runs.specs.Owed.{ControlFound}
use Rattle.cells_keep_runs.specs.Related.{Related, at_copy, at_exit, at_expression, at_links, at_same, at_statements, past_cells}
use Rattle.cells_keep_runs.specs.Started.{owners_of}
use Rattle.cells_keep_runs.proofs.Apart.{modules_apart, none_declared}
use Rattle.cells_keep_runs.proofs.FitRuns.{Undeclared}
use Rattle.cells_keep_runs.proofs.GoingOn.{OneOf, Stands, asked, beside, bound_in, one_made, quiet}
use Rattle.cells_keep_runs.proofs.KeptFound.{code_goes_on, kept_where_found}
use Rattle.cells_keep_runs.proofs.Lasting.{HandMakes, HeadMakes, MakesRecord, StatMakes, asks_none}
use Rattle.cells_keep_runs.proofs.Started.{beginnings}

-- there is a seat for each record
pub seated : (owners : List ℕ) (seats : Seats) (s t : Config) → Related owners seats s t → length seats ≡ length s.state.records
seated owners seats s t (at_same c bare stand frames) = stand.states.memory.seated
seated owners seats s t (at_copy n drops stand frames) = stand.states.memory.seated
seated owners seats s t (at_expression x stand frames) = stand.states.memory.seated
seated owners seats s t (at_links ls currents stand below) = stand.states.memory.seated
seated owners seats s t (at_statements xs stand below) = stand.states.memory.seated
seated owners seats s t (at_exit c early stand below) = stand.states.memory.seated
seated owners seats s t (past_cells c ls early stand below) = stand.states.memory.seated

module _ (core : Core) (fixed : Var → Bool) (lawful : IsLawful core) (none_kept : NoneKept core) (fitting : IsFitting core (naming core fixed)) (N : Seats → List (List Var) → Standing) where
  -- code stands by the new seats where a step is to make a record, and so does what runs along the new environment
  pub record More (seats2 : Seats) (s : Config) : Type 0 where
    pub bound : List (List Var)
    pub longer : length bound ≡ suc (length s.state.records)
    pub standing : Everywhere (beside N core (naming core fixed) seats2 bound (OneOf (bound_in s) bound)) s
    pub anew : Anew core (beside N core (naming core fixed) seats2 bound (OneOf (bound_in s) bound)) s.state s.control

  abbrev pub Here : Seats → Config → Type 0
  Here seats s = Stands N core (naming core fixed) seats s

  -- a standing of names that goes on along the course, and by which both machines find them
  pub record Assembly : Type 1 where
    pub placed : (seats : Seats) (bound : List (List Var)) (shapes : List (List Var) → Type 0) → Placed core (beside N core (naming core fixed) seats bound shapes)
    pub first : Here (first_seats core) (start core)
    pub more : (seats seats2 : Seats) (s t : Config) → IsReached core seats s t → Here seats s → NewSeats core (kept_of core) (owners_of core) seats s t seats2 → MakesRecord core s.state s.control → More seats2 s
    pub found : (seats : Seats) (s t : Config) → IsReached core seats s t → Here seats s → ControlFound (kept_of core) (owners_of core) seats s.state s.control

  undeclared : Undeclared core
  undeclared f function at = none_declared core f function lawful at

  module _ (a : Assembly) where
    abbrev count : Config → ℕ
    count s = length s.state.records

    one_longer : (seats : Seats) (x : Seat) → length (seats ++ x ∷ []) ≡ suc (length seats)
    one_longer [] x = refl
    one_longer (y ∷ seats) x = ap (λ n. suc n) (one_longer seats x)

    -- what new seats say of the step: there is none more, or it makes a record
    pub data Kinds (seats seats2 : Seats) (s : Config) : Type 0 where
      stays : seats2 ≡ seats → Kinds seats seats2 s
      makes : MakesRecord core s.state s.control → length seats2 ≡ suc (length seats) → Kinds seats seats2 s

    scope_makes : (s : Config) (x : CoreStat) (xs body : List CoreStat) (names : List ScopedName) → s.control ≡ Run (x ∷ xs) → out-CoreStat x ≡ layer.Scoped names body → MakesRecord core s.state s.control
    scope_makes s x xs body names is out = subst (λ c. MakesRecord core s.state c) (sym is) (subst (λ y. StatMakes y) (sym out) tt)

    kinds : (seats : Seats) (s t : Config) (seats2 : Seats) → NewSeats core (kept_of core) (owners_of core) seats s t seats2 → Kinds seats seats2 s
    kinds seats s t seats2 no_more = stays refl
    kinds seats s t seats2 (a_scope_more x xs body names r is out) = makes (scope_makes s x xs body names is out) (one_longer seats _)
    kinds seats s t seats2 (a_copy_more x xs r is head_is) = makes (subst (λ c. MakesRecord core s.state c) (sym is) (subst (λ h. HeadMakes h) (sym head_is) tt)) (one_longer seats _)
    kinds seats s t seats2 (a_call_more c r behind is at) = makes (subst (λ c. MakesRecord core s.state c) (sym is) r) (one_longer seats _)
    kinds seats s t seats2 (a_handler_more v x names handler fs r is frames) = makes (subst (λ c. MakesRecord core s.state c) (sym is) (subst (λ fs. HandMakes (Throws v) fs) (sym frames) tt)) (one_longer seats _)

    -- code stands by the seats, of which there is one for each record
    abbrev At : Seats → Config → Type 0
    At seats s = Here seats s × (length seats ≡ count s)

    goes_at : (seats seats2 : Seats) (s t s2 t2 : Config) (n : ℕ) → IsReached core seats s t → Reaches (core_step core) (suc n) s s2 → NewSeats core (kept_of core) (owners_of core) seats s t seats2 → Related (owners_of core) seats2 s2 t2 → At seats s
        → Kinds seats seats2 s → At seats2 s2
    goes_at seats seats2 s t s2 t2 n reached way new related (here, same) (stays is) =
        let there : length seats2 ≡ count s2 = seated (owners_of core) seats2 s2 t2 related in
        let lengths : length seats2 ≡ length seats = ap (λ xs. length xs) is in
        let fits = code_goes_on core fixed seats s t lawful none_kept fitting reached in
        (subst (λ xs. Here xs s2) (sym is) (quiet core (naming core fixed) fitting none_kept undeclared N a.placed seats (suc n) s s2 way (omega arith) fits here), there)
    goes_at seats seats2 s t s2 t2 n reached way new related (here, same) (makes at longer) =
        let there : length seats2 ≡ count s2 = seated (owners_of core) seats2 s2 t2 related in
        let fits = code_goes_on core fixed seats s t lawful none_kept fitting reached in
        let more = a.more seats seats2 s t reached here new at in
        (one_made core (naming core fixed) fitting none_kept undeclared N a.placed seats2 more.bound n s s2 way at (omega arith) more.longer fits more.standing more.anew, there)

    asks_at : (seats seats2 : Seats) (s t s2 t2 : Config) (e : Event) (follow : Reply → Config) (answer : Reply) → core_step core s ≡ Asks e follow → Related (owners_of core) seats2 (follow answer) t2 → At seats s → Kinds seats seats2 s → At seats2 (follow answer)
    asks_at seats seats2 s t s2 t2 e follow answer asks related (here, same) (stays is) =
        (subst (λ xs. Here xs (follow answer)) (sym is) (asked core (naming core fixed) fitting none_kept undeclared N a.placed seats s e follow answer asks here), seated (owners_of core) seats2 (follow answer) t2 related)
    asks_at seats seats2 s t s2 t2 e follow answer asks related (here, same) (makes at longer) =
        absurd (asks_none core (naming core fixed) fitting none_kept undeclared (beside N core (naming core fixed) seats (bound_in s) (OneOf (bound_in s) (bound_in s))) (a.placed seats (bound_in s) _) s e follow at asks)

    pub stands_at : (seats : Seats) (s t : Config) → IsReached core seats s t → At seats s
    stands_at seats s t begun = (a.first, seated (owners_of core) (first_seats core) (start core) (start (without_scopes core)) (beginnings core (kept_of core) (modules_apart core lawful)))
    stands_at seats s t (gone_on {seats = seats0} {s = s0} {t = t0} n j reached way way2 new related) =
        goes_at seats0 seats s0 t0 s t n reached way new related (stands_at seats0 s0 t0 reached) (kinds seats0 s0 t0 seats new)
    stands_at seats s t (answered {seats = seats0} {s = s0} {t = t0} {e = e} {follow = follow} j u answer reached is way is2 new related) =
        asks_at seats0 seats s0 t0 s t e follow answer is related (stands_at seats0 s0 t0 reached) (kinds seats0 s0 t0 seats new)

    pub runs_assembled : Same (λ (e f : Event). e ≡ f) (runc core) (runc (without_scopes core))
    runs_assembled = kept_where_found core fixed lawful none_kept fitting (λ seats s t reached. a.found seats s t reached (stands_at seats s t reached).0)
