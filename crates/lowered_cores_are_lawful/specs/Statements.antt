-- Laws: lists of statements, declarations, jumps, labels, and `while` are lowered to lawful ones, where their parts are.
use Rattle.std.specs.Option.{option_map}
use Rattle.std.specs.Prelude.{◌≡◌, ℕ, Bool, true, false, List, [], ◌∷◌, Option, None, Some}
use Rattle.es6_ast.specs.declared.tree.Identifier.{Identifier}
use Rattle.core_ast.specs.declared.tree.CoreStat.{CoreStat}
use Rattle.core_ast.specs.declared.tree.CoreStat.TheVariants as stat
use Rattle.core_ast.specs.Lawful.{Round, in_loop, is_new, under}
use Rattle.lowering_laws.specs.InRound.{AreLawful, case_lawful, declared_lawful}
use Rattle.lowering_rules.specs.statement_rules.Statements.{exit_label}
use Rattle.module_lowering.specs.Bindings.{Bindings}
use Rattle.module_lowering.specs.Expressions.{valued}
use Rattle.module_lowering.specs.Functions.{hoisted}
use Rattle.module_lowering.specs.Lowering.{Lowering}
use Rattle.module_lowering.specs.Nodes.{Classed, Exited, Expressed, Hoisted, Listed, Parted, Stated}
use Rattle.module_lowering.specs.Statements as m
use Rattle.module_lowering.specs.declared.context.Context.{Context}
use Rattle.module_lowering.specs.declared.context.JumpForm.TheVariants.{Stays, Turns}
use Rattle.module_lowering.specs.declared.context.Role.{Role}
use Rattle.lowered_cores_are_lawful.specs.Conditions.{finds_loop}
use Rattle.lowered_cores_are_lawful.specs.Nodes.{ClassMadeIs, Entered, HoistedIs, ListedIs, PartedIs, Reaches, StatedIs, TargetsAre}
use Rattle.lowered_cores_are_lawful.specs.Standing.{Every, IfThere, Makes, Of}

abbrev pub ListedLaw : Type 0
ListedLaw = (b : Bindings) (c : Context) (r : Round) (xs : List Stated) → Every (StatedIs b c r) xs → ListedIs b c r (m.listed xs)

abbrev pub HoistedLaw : Type 0
HoistedLaw = (b : Bindings) (c : Context) (r : Round) (h : Hoisted) → HoistedIs b c.home h
    → Makes (Of declared_lawful) b c r (hoisted h)

abbrev pub BlockLaw : Type 0
BlockLaw = (b : Bindings) (c : Context) (r : Round) (l : Listed) → ListedIs b c r l → TargetsAre r None c.targets
    → Makes AreLawful b c r (m.block_made l)

abbrev pub RunningLaw : Type 0
RunningLaw = (b : Bindings) (c : Context) (r : Round) (variables : List Identifier) (a : Lowering (List CoreStat))
    → (TargetsAre r None c.targets → Makes AreLawful b c r a) → StatedIs b c r (m.running variables a)

abbrev pub DeclaringLaw : Type 0
DeclaringLaw = (b : Bindings) (c : Context) (r : Round) (l : Listed) → ListedIs b c r l → StatedIs b c r (m.declaring l)

abbrev pub EvaluatedLaw : Type 0
EvaluatedLaw = (b : Bindings) (c : Context) (r : Round) (x : Expressed) → Reaches b c r x
    → Makes AreLawful b c r (m.one_of stat.Do (valued x))

abbrev pub ThrownLaw : Type 0
ThrownLaw = (b : Bindings) (c : Context) (r : Round) (x : Expressed) → Reaches b c r x
    → Makes AreLawful b c r (m.one_of stat.Throw (valued x))

abbrev pub ReturningLaw : Type 0
ReturningLaw = (b : Bindings) (c : Context) (r : Round) (x : Option Expressed) → r.returns ≡ true → IfThere (Reaches b c r) x
    → Makes AreLawful b c r (m.returning x)

abbrev pub DeclaratorsLaw : Type 0
DeclaratorsLaw = (b : Bindings) (c : Context) (r : Round) (role : Role) (ps : List Parted) → Every (PartedIs b c r) ps
    → Makes AreLawful b c r (m.declarators role ps)

abbrev pub ClassAtLaw : Type 0
ClassAtLaw = (b : Bindings) (c : Context) (r : Round) (at : ℕ) (x : Classed) → Makes ClassMadeIs b c r x.lowered
    → Makes AreLawful b c r (m.class_at at x)

abbrev pub JumpingLaw : Type 0
JumpingLaw = (b : Bindings) (c : Context) (r : Round) (goes_on : Bool) (label : Option Identifier)
    → finds_loop goes_on (option_map (λ (x : Identifier). x.name) label) c.targets ≡ true
    → StatedIs b c r (m.jumping goes_on label)

abbrev pub LabelledLoopLaw : Type 0
LabelledLoopLaw = (b : Bindings) (c : Context) (r : Round) (at : ℕ) (name : List ℕ) (l : Listed) (e : Exited)
    → Every (HoistedIs b c.home) l.functions → Entered b (m.targeting (Some name) e c) r l.statements (Some e)
    → StatedIs b c r (m.with_label at name l (Some e))

abbrev pub LabelledLaw : Type 0
LabelledLaw = (b : Bindings) (c : Context) (r : Round) (at : ℕ) (name : List ℕ) (l : Listed) → is_new r (exit_label at) ≡ true
    → Every (HoistedIs b c.home) l.functions
    → (let e : Exited = record { at = at; form = Stays } in let c1 = m.targeting (Some name) e c in let r1 = under (exit_label at) r in TargetsAre r1 None c1.targets
    → Makes AreLawful b c1 r1 l.statements) → StatedIs b c r (m.with_label at name l None)

abbrev pub WhileLaw : Type 0
WhileLaw = (b : Bindings) (c : Context) (r : Round) (at : ℕ) (test : Expressed) (body : Stated) → is_new r (exit_label at) ≡ true
    → (let e : Exited = record { at = at; form = Turns false } in let c1 = m.targeting None e c in Reaches b c1 r test
    → StatedIs b c1 (in_loop (exit_label at ∷ []) r) body
    → StatedIs b c r (m.loop at false body.listed.variables (m.while_lowered at test body)))

abbrev pub ConditionLaw : Type 0
ConditionLaw = (b : Bindings) (c : Context) (r : Round) (test : Expressed) (body : Stated) → Reaches b c r test
    → StatedIs b c r body → TargetsAre r None c.targets
    → Makes (Of (λ r k. case_lawful k r)) b c r (m.case_of (valued test) (m.under body))
