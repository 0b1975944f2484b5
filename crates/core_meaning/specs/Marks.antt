-- What a core of modules has besides what a script has, by type: the values that no program sees, what contexts keep, what is
-- pending, and what is stored beside the heap. The types are those of core_marks.
use Rattle.std.specs.Prelude.{Bool, List, None, Option, Some, [], false, ◌∷◌}
use Rattle.es_value.specs.declared.value.Value.{Value}
use Rattle.es_value.specs.declared.value.Value.TheVariants as value
use Rattle.core_meaning.specs.Rows.{Next}
use Rattle.core_meaning.specs.State.{CoreValue, Extra, Sorts, State, Strict, User}
pub use Rattle.core_marks.specs.declared.marks.KeptCell.{KeptCell}
pub use Rattle.core_marks.specs.declared.marks.Mark.{Mark}
pub use Rattle.core_marks.specs.declared.marks.Mark.TheVariants.{Arguments, Cell, Empty, Resumed, Unmade}
pub use Rattle.core_marks.specs.declared.marks.Own.{Own}
pub use Rattle.core_marks.specs.declared.work.CoreList.{CoreList}
pub use Rattle.core_marks.specs.declared.work.CoreList.TheVariants.{OfArguments, OfArray}
pub use Rattle.core_marks.specs.declared.work.CoreWork.{CoreWork}
pub use Rattle.core_marks.specs.declared.work.CoreWork.TheVariants.{DelegateDone, DelegateStart, DelegateTurn, DelegateValue, Delegates, Derived, Heritage, Instantiates, Prototype, PrototypeFor, Resumes, SpreadStart, SpreadStep, SpreadValue, Starts, Stepping, Steps, YieldValue, YieldsAt, YieldsIn}
pub use Rattle.core_marks.specs.declared.store.CoreStore.{CoreStore}
pub use Rattle.core_marks.specs.declared.store.Exported.{Exported}
pub use Rattle.core_marks.specs.declared.store.Generator.{Generator}
pub use Rattle.core_marks.specs.declared.store.Generator.TheVariants.{AtStart, AtYield, Completed, Executing}
pub use Rattle.core_marks.specs.declared.store.Static.{Static}
pub use Rattle.core_marks.specs.declared.store.Template.{Template}

abbrev pub sorts : Sorts
sorts = record { Mark = Mark; Own = Own; Work = CoreWork }

abbrev pub CoreState : Type 0
CoreState = State sorts CoreStore

abbrev pub CoreNext : Type 0
CoreNext = Next sorts CoreStore

abbrev pub CoreStrict : Type 0
CoreStrict = Strict Mark

abbrev pub with_store : CoreStore → CoreState → CoreState
with_store store st = record st { store = store }

abbrev pub empty : CoreValue Mark
empty = Extra Empty

-- a value that may be uninitialized
abbrev pub value_or_empty : Option Value → CoreValue Mark
value_or_empty None = empty
value_or_empty (Some v) = User v

abbrev pub value_in : CoreValue Mark → Option Value
value_in (User v) = Some v
value_in (Extra m) = None

abbrev pub truth_in : List (CoreValue Mark) → Bool
truth_in (User (value.Bool b) ∷ []) = b
truth_in vs = false
