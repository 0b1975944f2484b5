-- The states of the machine of the small tree: those of core_state, by the types of what a core of modules has besides what a
-- script has. The rows that handle it fill them (specs/Marks.antt), and the meaning of scripts fills them with nothing.
use Rattle.std.specs.Prelude.{List, ℕ}
use Rattle.core_state.specs.declared.state.State.{State as StateOf}
pub use Rattle.core_state.specs.declared.value.Binding.{Binding}
pub use Rattle.core_state.specs.declared.value.Call.{Call}
pub use Rattle.core_state.specs.declared.value.Closure.{Closure}
pub use Rattle.core_state.specs.declared.value.Completion.{Completion}
pub use Rattle.core_state.specs.declared.value.Completion.TheVariants.{Done, Gives, Jumps, Returns, Throws}
pub use Rattle.core_state.specs.declared.value.CoreValue.{CoreValue}
pub use Rattle.core_state.specs.declared.value.CoreValue.TheVariants.{Extra, User}
pub use Rattle.core_state.specs.declared.value.Current.{Current}
pub use Rattle.core_state.specs.declared.value.Current.TheVariants.{Has, Hosted, Method, Old, Reference}
pub use Rattle.core_state.specs.declared.frame.Control.{Control}
pub use Rattle.core_state.specs.declared.frame.Control.TheVariants.{Begin, Calls, Go, Hand, Run, Turn}
pub use Rattle.core_state.specs.declared.frame.Frame.{Frame}
pub use Rattle.core_state.specs.declared.frame.Frame.TheVariants.{After, Behind, Catching, Choice, Fetch, Finishing, Keyed, LoopBody, LoopTest, LoopUpdate, Made, Making, Matching, Operation, Part, Pending, Rest, Restore, Returning, StepAt, StepName, Store, Subject, Target, Throwing, Work}
pub use Rattle.core_state.specs.declared.frame.Loop.{Loop}
pub use Rattle.core_state.specs.declared.frame.Strict.{Strict}
pub use Rattle.core_state.specs.declared.state.Context.{Context}

-- the types of values that no program sees, of what contexts and closures keep besides, and of work that is pending besides
pub record Sorts : Type 1 where
  pub Mark : Type 0
  pub Own : Type 0
  pub Work : Type 0

-- ---- environments (8.1; 5.1 edition, 10.2)

abbrev pub EnvironmentRecord : Type 0 → Type 0
EnvironmentRecord M = List (Binding M)

-- the numbers of the records of a scope, innermost first
abbrev pub Environment : Type 0
Environment = List ℕ

-- ---- states

abbrev pub State : Sorts → Type 0 → Type 0
State s S = StateOf s.Mark s.Own s.Work S

-- a state, and what the next step does there
pub record Configuration (s : Sorts) (S : Type 0) : Type 0 where
  pub state : State s S
  pub control : Control s.Mark
