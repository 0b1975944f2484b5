-- A run that isn't begun for want of memory: nothing of it is seen.
use Rattle.std.proofs.Common.{◌≡◌, ℕ, [], Result, Ok, Err, IfOk, refl, subst, sym, arith}
use Rattle.runs.specs.Run.{Running}
use Rattle.program_runs.specs.Around.{Around}
use Rattle.program_runs.specs.Outcomes.{IsOutcome, Sites, answered, behaviour, halted, no_memory}
use Rattle.program_runs.specs.Positions.{At, IsAt, Next, Position}
use Rattle.program_runs.specs.declared.end.RunEnd.{RunEnd}
use Rattle.program_runs.specs.declared.end.RunEnd.TheVariants.{OutOfMemory}
use Rattle.program_runs.proofs.Talking.{adds_nothing}

pub unstarted : {S : Type 0} (machine : S → Next S) (start : S) (steps : ℕ) (sites : Sites) (a : Around) → IsOutcome (behaviour machine start) steps sites a a OutOfMemory
unstarted machine start steps sites a =
    halted (no_memory (Running []) 0 (omega arith) (record { turns = []; seen = answered refl refl; talks = refl }) (adds_nothing a.output.bytes))

-- one that is begun stands somewhere
pub begun_at : {R E S : Type 0} (position : R → Position S) (start : S) (r : Result R E) → IfOk r (λ run. position run ≡ At start) → IfOk r (λ run. IsAt (position run))
begun_at position start (Ok run) e = subst IsAt (sym e) tt
begun_at position start (Err error) e = tt

-- and its outcome is that of its machine
pub by_machine : {S : Type 0} (one other : S → Next S) (start : S) (steps : ℕ) (sites : Sites) (old new : Around) (e : RunEnd) → one ≡ other → IsOutcome (behaviour one start) steps sites old new e → IsOutcome (behaviour other start) steps sites old new e
by_machine one other start steps sites old new e same h = subst (λ m. IsOutcome (behaviour m start) steps sites old new e) same h
