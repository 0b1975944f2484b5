-- The state of the definitions that a state with other pending work is, where each piece of work is one of theirs.
use Rattle.std.specs.Prelude.{List, map}
use Rattle.source_state.specs.declared.state.Context.{Context as ContextOf}
use Rattle.source_state.specs.declared.state.Frame.{Frame as FrameOf}
use Rattle.source_state.specs.declared.state.Generator.{Generator as GeneratorOf}
use Rattle.source_state.specs.declared.state.State.{State as StateOf}
use Rattle.source_meaning.specs.State.{AtStart, AtYield, Completed, Context, Executing, Frame, Generator, State, Work}

abbrev pub frame_of : {W : Type 0} → (W → Work) → FrameOf W → Frame
frame_of seen f = record { place = f.place; work = seen f.work }

abbrev pub context_of : {W : Type 0} → (W → Work) → ContextOf W → Context
context_of seen k = record {
  environment = k.environment;
  home = k.home;
  own = k.own;
  place = k.place;
  frames = map (frame_of seen) k.frames;
}

abbrev pub generator_of : {W : Type 0} → (W → Work) → GeneratorOf W → Generator
generator_of seen (AtStart k) = AtStart (context_of seen k)
generator_of seen (AtYield k) = AtYield (context_of seen k)
generator_of seen Executing = Executing
generator_of seen Completed = Completed

abbrev pub state_of : {W : Type 0} → (W → Work) → StateOf W → State
state_of seen st = record {
  heap = st.heap;
  records = st.records;
  closures = st.closures;
  generators = map (generator_of seen) st.generators;
  namespaces = st.namespaces;
  templates = st.templates;
  statics = st.statics;
  context = context_of seen st.context;
  callers = map (context_of seen) st.callers;
  due = st.due;
}
