-- What is lawful of each kind of node: what its lowering makes, where its parts' do.
use Rattle.std.specs.Prelude.{◌≡◌, ℕ, ◌&&◌, Bool, true, false, nat_lt, List, Option, None, Some, IsTrue}
use Rattle.es6_ast.specs.declared.tree.Identifier.{Identifier}
use Rattle.core_ast.specs.declared.parts.FunctionId.{FunctionId}
use Rattle.core_ast.specs.declared.parts.Label.{Label}
use Rattle.core_ast.specs.declared.parts.Var.{Var}
use Rattle.core_ast.specs.declared.tree.CoreExpr.{CoreExpr}
use Rattle.core_ast.specs.declared.tree.CoreStat.{CoreStat}
use Rattle.core_ast.specs.Lawful.{Round, has_label, is_drawn, key_lawful, round_function}
use Rattle.lowering_laws.specs.InRound.{AreLawful, IsLawful, case_lawful}
use Rattle.lowering_laws.specs.Patterns.{array_part_lawful, object_part_lawful, target_lawful}
use Rattle.lowering_laws.specs.References.{reached_lawful}
use Rattle.lowering_laws.specs.Statements.{IterationIsDrawn}
use Rattle.lowering_rules.specs.declared.naming.Iteration.{Iteration}
use Rattle.lowering_rules.specs.declared.reference_rules.references.NamedValue.TheVariants.{HostName}
use Rattle.lowering_rules.specs.declared.reference_rules.references.Reached.{Reached}
use Rattle.lowering_rules.specs.reference_rules.References.{found}
use Rattle.lowering_rules.specs.statement_rules.Statements.{body_label, exit_label}
use Rattle.module_lowering.specs.Bindings.{Bindings}
use Rattle.module_lowering.specs.Expressions.{reached_sited}
use Rattle.module_lowering.specs.Functions.{in_parameters}
use Rattle.module_lowering.specs.Lowering.{Lowering}
use Rattle.module_lowering.specs.Names.{name_lowered}
use Rattle.module_lowering.specs.Nodes.{ArrayParted, BracketKey, Cased, Caught, Chained, ClassMade, Conditioned, Exited, Expressed, ForTargeted, Form, Hoisted, Keyed, Linked, Listed, MemberForm, Methoded, NameForm, ObjectParted, Operated, Parametered, Parted, PartsForm, Patterned, Stated, Templated, WrittenKey}
use Rattle.module_lowering.specs.Statements.{in_catch}
use Rattle.module_lowering.specs.declared.context.Context.{Context}
use Rattle.module_lowering.specs.declared.context.FunctionForm.{FunctionForm}
use Rattle.module_lowering.specs.declared.context.JumpForm.{JumpForm}
use Rattle.module_lowering.specs.declared.context.JumpForm.TheVariants.{Cases, Stays, Turns}
use Rattle.module_lowering.specs.declared.context.JumpTarget.{JumpTarget}
use Rattle.module_lowering.specs.declared.context.Role.{Role}
use Rattle.module_lowering.specs.declared.lowerer.Lowerer.{Lowerer}
use Rattle.lowered_cores_are_lawful.specs.Standing.{Every, IfThere, Made, Makes, Of, Stands, here}

abbrev pub VarIs : Round → Var → Type 0
VarIs r x = IsTrue (is_drawn r x)

abbrev pub IdIs : Round → FunctionId → Type 0
IdIs r f = IsTrue (nat_lt f.0 r.functions)

abbrev pub ReachedIs : Round → Reached → Type 0
ReachedIs r x = IsTrue (reached_lawful r x)

abbrev pub ValueMakes : Bindings → Context → Round → Lowering CoreExpr → Type 0
ValueMakes b c r a = Makes IsLawful b c r a

-- ---- expressions: a host is only called

pub data MayBeCalled (r : Round) (x : Reached) : Type 0 where
  a_value : IsTrue (reached_lawful r x) → MayBeCalled r x
  a_host : (h : ℕ) → IsTrue (nat_lt h r.hosts) → x ≡ found (HostName h) → MayBeCalled r x

pub record Reaches (b : Bindings) (c : Context) (r : Round) (x : Expressed) : Type 0 where
  pub value : Makes ReachedIs b c r x.reached
  pub name : IfThere (λ (n : Identifier). Makes ReachedIs b c r (name_lowered n)) x.name

pub record ExpressedIs (b : Bindings) (c : Context) (r : Round) (is_host : Bool) (x : Expressed) : Type 0 where
  pub called : Makes MayBeCalled b c r x.reached
  pub reaches : is_host ≡ false → Reaches b c r x

-- a chain so far, which has no place yet where it says so
pub record ChainedIs (r : Round) (x : Chained) : Type 0 where
  pub lawful : IsTrue (reached_lawful r x.reached)
  pub sites : x.sited ≡ false → reached_sited x.reached ≡ false

pub record LinkedIs (b : Bindings) (c : Context) (r : Round) (is_call : Bool) (l : Linked) : Type 0 where
  pub behind : (begin : ℕ) (x : Chained) (s : Lowerer) → Stands b c r.hosts s → ChainedIs (here s r) x → Made ChainedIs b c r s (l.lowered begin x b c s)
  pub on_host : is_call ≡ true → (begin h : ℕ) (sited : Bool) (s : Lowerer) → Stands b c r.hosts s → IsTrue (nat_lt h r.hosts)
      → Made ChainedIs b c r s (l.lowered begin (record { reached = found (HostName h); sited = sited }) b c s)

abbrev pub TemplatedIs : Bindings → Context → Round → Templated → Type 0
TemplatedIs b c r t = Every (λ p. ValueMakes b c r p.value) t.rest

abbrev pub OperatedIs : Bindings → Context → Round → Operated → Type 0
OperatedIs b c r o = (x : CoreExpr) (s : Lowerer) → Stands b c r.hosts s → IsLawful (here s r) x → Made IsLawful b c r s (o x b c s)

abbrev pub KeyedIs : Bindings → Context → Round → Keyed → Type 0
KeyedIs b c r (WrittenKey key units) = IsTrue (key_lawful key)
KeyedIs b c r (BracketKey x) = Reaches b c r x

-- ---- patterns, by the values that go to them

abbrev pub FormIs : Bindings → Context → Round → Form → Type 0
FormIs b c r (NameForm n) = Makes ReachedIs b c r (name_lowered n)
FormIs b c r (MemberForm reached) = Makes ReachedIs b c r reached
FormIs b c r PartsForm = Unit {0}

pub record PatternedIs (b : Bindings) (c : Context) (r : Round) (p : Patterned) : Type 0 where
  pub form : FormIs b c r p.form
  pub taken : (role : Role) (default : Option (Lowering CoreExpr)) → IfThere (ValueMakes b c r) default → (v : Var) (s : Lowerer) → Stands b c r.hosts s → VarIs (here s r) v
      → Made (Of target_lawful) b c r s (p.taken role default v b c s)
  pub bound : (role : Role) (e : CoreExpr) (s : Lowerer) → Stands b c r.hosts s → IsLawful (here s r) e → Made AreLawful b c r s (p.bound role e b c s)

pub record PartedIs (b : Bindings) (c : Context) (r : Round) (p : Parted) : Type 0 where
  pub pattern : PatternedIs b c r p.pattern
  pub default : IfThere (ValueMakes b c r) p.default

abbrev pub ArrayPartedIs : Bindings → Context → Round → ArrayParted → Type 0
ArrayPartedIs b c r p =
    (role : Role) (i : Iteration) (s : Lowerer) → Stands b c r.hosts s → IterationIsDrawn (here s r) i → Made (Of array_part_lawful) b c r s (p.lowered role i b c s)

abbrev pub ObjectPartedIs : Bindings → Context → Round → ObjectParted → Type 0
ObjectPartedIs b c r p =
    (role : Role) (v : Var) (s : Lowerer) → Stands b c r.hosts s → VarIs (here s r) v → Made (Of object_part_lawful) b c r s (p.lowered role v b c s)

-- ---- functions and classes: what stands round a function doesn't bear on it, but for its module

abbrev pub HoistedIs : Bindings → ℕ → Hoisted → Type 0
HoistedIs b home h = (c : Context) (r : Round) → c.home ≡ home → Makes IdIs b c r h.made

abbrev pub FunctionedIs : Bindings → ℕ → (FunctionForm → Lowering FunctionId) → Type 0
FunctionedIs b home lowered = (form : FunctionForm) (c : Context) (r : Round) → c.home ≡ home → Makes IdIs b c r (lowered form)

pub record MethodedIs (b : Bindings) (c : Context) (r : Round) (m : Methoded) : Type 0 where
  pub key : KeyedIs b c r m.key
  pub function : FunctionedIs b c.home m.lowered

pub record ClassMadeIs (r : Round) (m : ClassMade) : Type 0 where
  pub class : VarIs r m.class
  pub statements : AreLawful r m.statements

-- ---- statements: what jumps may go to stands round them, or is a loop that is about to

-- the labels of such a place are among those of statements, and those of loops
abbrev pub form_stands : List Label → List Label → ℕ → JumpForm → Bool
form_stands labels loops at (Turns true) = has_label (exit_label at) labels && has_label (exit_label at) loops && has_label (body_label at) labels
form_stands labels loops at (Turns false) = has_label (exit_label at) labels && has_label (exit_label at) loops
form_stands labels loops at Cases = has_label (exit_label at) labels
form_stands labels loops at Stays = has_label (exit_label at) labels

abbrev pub Pends : Option Exited → JumpTarget → Type 0
Pends None t = ⊥
Pends (Some e) t = (t.at ≡ e.at) × (t.form ≡ e.form)

pub data TargetIs (labels loops : List Label) (pending : Option Exited) (t : JumpTarget) : Type 0 where
  stands : IsTrue (form_stands labels loops t.at t.form) → TargetIs labels loops pending t
  pends : Pends pending t → TargetIs labels loops pending t

abbrev pub TargetsAre : Round → Option Exited → List JumpTarget → Type 0
TargetsAre r pending ts = Every (TargetIs r.labels r.loops pending) ts

pub record ListedIs (b : Bindings) (c : Context) (r : Round) (l : Listed) : Type 0 where
  pub functions : Every (HoistedIs b c.home) l.functions
  pub statements : TargetsAre r None c.targets → Makes AreLawful b c r l.statements

-- where a jump with a label before it goes to
abbrev pub Entered : Bindings → Context → Round → Lowering (List CoreStat) → Option Exited → Type 0
Entered b c r a None = Unit {0}
Entered b c r a (Some e) = TargetsAre r (Some e) c.targets → Makes AreLawful b c r a

pub record StatedIs (b : Bindings) (c : Context) (r : Round) (x : Stated) : Type 0 where
  pub functions : Every (HoistedIs b c.home) x.listed.functions
  pub statements : TargetsAre r None c.targets → Makes AreLawful b c r x.listed.statements
  pub entered : Entered b c r x.listed.statements x.exit

pub record CasedIs (b : Bindings) (c : Context) (r : Round) (x : Cased) : Type 0 where
  pub test : IfThere (ValueMakes b c r) x.test
  pub body : ListedIs b c r x.body

abbrev pub ConditionedIs : Bindings → Context → Round → Conditioned → Type 0
ConditionedIs b c r x = TargetsAre r None c.targets → Makes (Of (λ r k. case_lawful k r)) b c r x.lowered

pub record CaughtIs (b : Bindings) (c : Context) (r : Round) (x : Caught) : Type 0 where
  pub parameter : PatternedIs b (in_catch x.parameter c) r x.parameter
  pub block : ListedIs b c r x.block

abbrev pub ForTargetedIs : Bindings → Context → Round → ForTargeted → Type 0
ForTargetedIs b c r x = (v : Var) (s : Lowerer) → Stands b c r.hosts s → VarIs (here s r) v → Made AreLawful b c r s (x.bound v b c s)

-- ---- the parts of a function: nothing yields in its parameters, and its body does where it is a generator's
abbrev pub FunctionPartsAre : Bindings → Context → ℕ → Bool → List Parametered → Listed → Type 0
FunctionPartsAre b c hosts yields xs body =
    Every (λ (p : Parametered). PartedIs b (in_parameters xs c) (round_function 0 hosts 0 false) p.part) xs × ListedIs b c (round_function 0 hosts 0 yields) body
