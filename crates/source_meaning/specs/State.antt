-- The states of a run of modules (ECMA-262, 6th edition, 8.1, 8.3, 9.2, 25.3): those of crates/source_state, where what each type is is said
-- beside it. What the next step does stands beside a state.
use Rattle.std.specs.Prelude.{List, ℕ}
use Rattle.source_state.specs.declared.state.Context.{Context as ContextOf}
use Rattle.source_state.specs.declared.state.Generator.{Generator as GeneratorOf}
use Rattle.source_state.specs.declared.state.State.{State as StateOf}
use Rattle.source_state.specs.declared.state.Frame.{Frame as FrameOf}
pub use Rattle.source_state.specs.declared.completion.Call.{Call}
pub use Rattle.source_state.specs.declared.completion.Completion.{Completion}
pub use Rattle.source_state.specs.declared.completion.Completion.TheVariants.{Breaks, Continues, Done, Gives, Refers, Resumes, Returns, Throws}
pub use Rattle.source_state.specs.declared.completion.Reference.{Reference}
pub use Rattle.source_state.specs.declared.completion.Reference.TheVariants.{OfName, OfProperty, OfSuper}
pub use Rattle.source_state.specs.declared.control.Control.{Control}
pub use Rattle.source_state.specs.declared.control.Control.TheVariants.{Begin, Calls, Destructure, Hand, Refer, Run, RunItems, Start, Turn}
pub use Rattle.source_state.specs.declared.environment.Binding.{Binding}
pub use Rattle.source_state.specs.declared.environment.EnvironmentRecord.{EnvironmentRecord}
pub use Rattle.source_state.specs.declared.environment.Held.{Held}
pub use Rattle.source_state.specs.declared.environment.Held.TheVariants.{Holds, Imported, OfHost, Uninitialized}
pub use Rattle.source_state.specs.declared.function.Closure.{Closure}
pub use Rattle.source_state.specs.declared.function.Code.{Code}
pub use Rattle.source_state.specs.declared.function.Code.TheVariants.{ArrowCode, ConstructorCode, MethodCode, PlainCode}
pub use Rattle.source_state.specs.declared.function.Own.{Own}
pub use Rattle.source_state.specs.declared.partial.Binds.{Binds}
pub use Rattle.source_state.specs.declared.partial.Binds.TheVariants.{Assigns, Initializes}
pub use Rattle.source_state.specs.declared.partial.Callee.{Callee}
pub use Rattle.source_state.specs.declared.partial.Callee.TheVariants.{Calling, Hosting}
pub use Rattle.source_state.specs.declared.partial.Collected.{Collected}
pub use Rattle.source_state.specs.declared.partial.Collected.TheVariants.{OfArguments, OfArray}
pub use Rattle.source_state.specs.declared.partial.Defining.{Defining}
pub use Rattle.source_state.specs.declared.partial.ForOfLoop.{ForOfLoop}
pub use Rattle.source_state.specs.declared.partial.Listing.{Listing}
pub use Rattle.source_state.specs.declared.partial.Loop.{Loop}
pub use Rattle.source_state.specs.declared.partial.Naming.{Naming}
pub use Rattle.source_state.specs.declared.partial.Naming.TheVariants.{OfMember, OfMethod, OfPart, OfValue}
pub use Rattle.source_state.specs.declared.partial.Passing.{Passing}
pub use Rattle.source_state.specs.declared.partial.Passing.TheVariants.{PassesArguments, PassesTemplate}
pub use Rattle.source_state.specs.declared.partial.Slot.{Slot}
pub use Rattle.source_state.specs.declared.partial.Slot.TheVariants.{AtReference, InPattern}
pub use Rattle.source_state.specs.declared.partial.Taking.{Taking}
pub use Rattle.source_state.specs.declared.partial.Use.{Use}
pub use Rattle.source_state.specs.declared.partial.Use.TheVariants.{ForCall, ForNew, ForSuper}
pub use Rattle.source_state.specs.declared.state.Due.{Due}
pub use Rattle.source_state.specs.declared.state.Exported.{Exported}
pub use Rattle.source_state.specs.declared.state.Generator.TheVariants.{AtStart, AtYield, Completed, Executing}
pub use Rattle.source_state.specs.declared.state.Static.{Static}
pub use Rattle.source_state.specs.declared.state.TemplateObject.{TemplateObject}
pub use Rattle.source_state.specs.declared.work.Work.{Work}
pub use Rattle.source_state.specs.declared.work.Work.TheVariants.{AssignOld, AssignPattern, AssignReference, AssignRight, AssignValue, Behind, Branches, CatchBlock, Catching, Chosen, Closing, Defaulted, DelegateDone, DelegateIterator, DelegateResult, DelegateValue, Delegated, Delegating, Deleting, Derived, ElementStep, ElementTarget, ElementValue, ElementsRest, Finishing, ForOfBody, ForOfBound, ForOfIterator, ForOfStep, ForOfSubject, ForOfValue, GeneratorPrototype, GeneratorStart, Generates, Heritage, HeritagePrototype, Ignoring, ItemsRest, KeyText, KeyValue, Labelling, LinkIndex, LinkKey, LinkMethod, Links, ListValue, LoopBegin, LoopBody, LoopTest, LoopUpdate, Made, Making, Matching, MemberTarget, MemberValue, MembersRest, NameGiven, NewCallee, OperandRight, Operands, Operation, ParameterDefault, ParametersBound, ParametersRest, PatternIterator, Pending, PowerBase, PowerExponent, PropertyValue, PutTo, RestStep, RestTarget, RestValue, Restore, Returning, SequenceRest, SkipStep, SpreadIterator, SpreadPart, SpreadStep, SpreadValue, StatementsRest, Subject, SuperKey, SuperKeyed, SuperMade, SwitchBody, TemplateText, TemplateValue, Throwing, UnaryValue, UpdateNumber, UpdateOld, UpdateReference, VariableValue, VariablesRest, YieldValue, Yielded}

-- the numbers of the records of a scope, innermost first: the chain of outer records (8.1)
abbrev pub Environment : Type 0
Environment = List ℕ

-- frames, contexts, generators and states, with this pending work
abbrev pub Frame : Type 0
Frame = FrameOf Work

abbrev pub Context : Type 0
Context = ContextOf Work

abbrev pub Generator : Type 0
Generator = GeneratorOf Work

abbrev pub State : Type 0
State = StateOf Work

-- a state, and what the next step does there
pub record Configuration : Type 0 where
  pub state : State
  pub control : Control
