-- How a run whose last line is written, or isn't, ends.
use Rattle.std.proofs.Common.{◌≡◌, ℕ, ◌≤◌, refl, sym, ◌∙◌, ap, subst, List, [], ◌++◌, append-nil, Option, String, Result, Ok, Err, true, take, inl, inr, arith}
use Rattle.runs.specs.Run.{trace}
use Rattle.shared_meaning.specs.Ending.{ProgramBehaviour}
use Rattle.es_outside.proofs.SinkLemmas.{Adds-then}
use Rattle.es_outside.specs.HostNames.{is_host_name}
use Rattle.es_outside.specs.NamedList.{name_at}
use Rattle.es_outside.specs.Refusals.{AreHostNames, IsRefused}
use Rattle.es_outside.specs.declared.events.Ending.{Ending}
use Rattle.es_outside.specs.declared.talk.Talk.{Talk}
use Rattle.program_runs.specs.declared.end.Halt.{Halt}
use Rattle.program_runs.specs.declared.end.Halt.TheVariants as halt
use Rattle.program_runs.specs.declared.end.RunEnd.{RunEnd}
use Rattle.program_runs.specs.declared.end.RunEnd.TheVariants as run_end
use Rattle.program_runs.specs.Around.{Around, Hosted, Output, around, hosted}
use Rattle.program_runs.specs.Turns.{HasAdded, Writes}
use Rattle.program_runs.specs.Outcomes.{ProgramView, Sites, lines_of, ending_of, last_line, end_of, end_of_halt, IsTold, HasCut, IsHalted, no_memory, IsOutcome, over, last_cut, halted, Runs, stopped, stopped_before, Finishes, finished, cut_off, unsaid}
use Rattle.program_runs.proofs.Courses.{rose_from}

unwritten : (line : List ℕ) (e : RunEnd) (old new : Output) (halt : Halt) → Writes {T = Unit {0}} line old new (Err halt)
    → Finishes line e old new (end_of_halt halt)
unwritten line e old new (halt.HostFailed host) written = absurd written
unwritten line e old new halt.WriteFailed written = cut_off written
unwritten line e old new halt.OutOfMemory written = unsaid written

-- the last line wasn't written
pub of_unwritten : (line : List ℕ) (e : RunEnd) (old new : Output) (halt : Halt) (r : RunEnd) → r ≡ end_of_halt halt
    → Writes {T = Unit {0}} line old new (Err halt) → Finishes line e old new r
of_unwritten line e old new halt r is written = subst (λ (end : RunEnd). Finishes line e old new end) (sym is) (unwritten line e old new halt written)

-- names that hosts have are not refused
pub not_refused : (names : List (List ℕ)) (number at : ℕ) → AreHostNames names → IsRefused names number at → ⊥
not_refused names number at are refused = elim refused.reason [
  | inl unlawful ↦ cc (are.lawful at refused.within, unlawful.1)
  | inr twice ↦ are.distinct at refused.within twice.2.0 twice.2.1 twice.2.2
]

module _ (does : ProgramBehaviour) (steps : ℕ) (sites : Sites) (old mid : Around) (written : Output) (rises : old.output.faults ≤ mid.output.faults) where
  finishes_over : (found : Option Ending) (r : RunEnd) (view : ProgramView) → IsTold does steps old.hosts mid.hosts view
      → HasAdded (lines_of old.hosts.names (trace view)) old.output mid.output → ending_of view ≡ found
      → Finishes (last_line sites steps found) (end_of found) mid.output written r
      → IsOutcome does steps sites old (around mid.hosts written) r
  finishes_over found _ view is_told lines ends (finished added) =
      over view is_told
      (subst (λ (o : Option Ending). HasAdded (lines_of old.hosts.names (trace view) ++ last_line sites steps o) old.output written) (sym ends)
      (Adds-then (lines_of old.hosts.names (trace view)) (last_line sites steps found) old.output.bytes mid.output.bytes written.bytes lines added))
      (ap (λ (o : Option Ending). end_of o) (sym ends))
  finishes_over found _ view is_told lines ends (cut_off cut) =
      last_cut view is_told
      (subst (λ (o : Option Ending). HasCut (lines_of old.hosts.names (trace view)) (last_line sites steps o) old.output written) (sym ends) (
        cut.0.0,
        cut.0.1,
        Adds-then (lines_of old.hosts.names (trace view)) (take cut.0.0 (last_line sites steps found)) old.output.bytes mid.output.bytes written.bytes lines cut.0.2,
        rose_from old.output.faults mid.output.faults written.faults rises cut.1,
      ))
      refl
  finishes_over found _ view is_told lines ends (unsaid added) =
      halted (no_memory view steps (omega arith) is_told
      (subst (λ (bytes : List ℕ). HasAdded bytes old.output written) (append-nil (lines_of old.hosts.names (trace view)))
      (Adds-then (lines_of old.hosts.names (trace view)) [] old.output.bytes mid.output.bytes written.bytes lines added)))

  -- where the run came to its end, its last line is written
  abbrev Ends : Result (Option Ending) Halt → RunEnd → Type 0
  Ends (Ok found) r = Finishes (last_line sites steps found) (end_of found) mid.output written r
  Ends (Err halt) r = ⊥

  outcome : (came : Result (Option Ending) Halt) (r : RunEnd) → Runs does steps old mid came → Ends came r → IsOutcome does steps sites old (around mid.hosts written) r
  outcome _ r (stopped view is_told lines ends) finish = finishes_over _ r view is_told lines ends finish
  outcome _ r (stopped_before is_halted) finish = absurd finish

  pub finishes : (found : Option Ending) (r : RunEnd) → Runs does steps old mid (Ok found)
      → Finishes (last_line sites steps found) (end_of found) mid.output written r
      → IsOutcome does steps sites old (around mid.hosts written) r
  finishes found r runs is = outcome (Ok found) r runs is

-- where the run was stopped before its end, this is how it ends
abbrev Stops : Result (Option Ending) Halt → RunEnd → Type 0
Stops (Ok found) r = ⊥
Stops (Err halt) r = r ≡ end_of_halt halt

of_halt : (does : ProgramBehaviour) (steps : ℕ) (sites : Sites) (old new : Around) (came : Result (Option Ending) Halt) (r : RunEnd) → Runs does steps old new came
    → Stops came r → IsOutcome does steps sites old new r
of_halt does steps sites old new _ r (stopped view is_told lines ends) stops = absurd stops
of_halt does steps sites old new _ r (stopped_before is_halted) stops =
    halted (subst (λ (e : RunEnd). IsHalted does steps old new e) (sym stops) is_halted)

pub halts : (does : ProgramBehaviour) (steps : ℕ) (sites : Sites) (old new : Around) (halt : Halt) (r : RunEnd) → Runs does steps old new (Err halt)
    → r ≡ end_of_halt halt → IsOutcome does steps sites old new r
halts does steps sites old new halt r runs is = of_halt does steps sites old new (Err halt) r runs is

-- the outcome around equal lists of hosts
pub of_lists : {A H : Type 0} (talk : H → Option Talk) (faults : H → ℕ) (does : ProgramBehaviour) (steps : ℕ) (sites : Sites)
    (old old_list new new_list : List (String A × H)) (before after : Output) (r : RunEnd) → old ≡ old_list → new ≡ new_list
    → IsOutcome does steps sites (around (hosted old talk faults) before) (around (hosted new talk faults) after) r
    → IsOutcome does steps sites (around (hosted old_list talk faults) before) (around (hosted new_list talk faults) after) r
of_lists talk faults does steps sites old old_list new new_list before after r same_old same_new is =
    subst (λ l. IsOutcome does steps sites (around (hosted l talk faults) before) (around (hosted new_list talk faults) after) r) same_old
    (subst (λ l. IsOutcome does steps sites (around (hosted old talk faults) before) (around (hosted l talk faults) after) r) same_new is)
