-- Laws: `do`, `if` and `try` are lowered to lawful ones, where their parts are.
use Rattle.std.specs.Prelude.{◌≡◌, ℕ, true, List, [], ◌∷◌, Option, None}
use Rattle.core_ast.specs.Lawful.{Round, in_loop, is_new, under}
use Rattle.lowering_rules.specs.statement_rules.Statements.{body_label, exit_label}
use Rattle.module_lowering.specs.Bindings.{Bindings}
use Rattle.module_lowering.specs.Nodes.{Caught, Conditioned, Exited, Expressed, Listed, Stated}
use Rattle.module_lowering.specs.Statements as m
use Rattle.module_lowering.specs.declared.context.Context.{Context}
use Rattle.module_lowering.specs.declared.context.JumpForm.TheVariants.{Turns}
use Rattle.lowered_cores_are_lawful.specs.Nodes.{CaughtIs, ConditionedIs, ListedIs, Reaches, StatedIs}
use Rattle.lowered_cores_are_lawful.specs.Standing.{Every, IfThere}

abbrev pub DoWhileLaw : Type 0
DoWhileLaw = (b : Bindings) (c : Context) (r : Round) (at : ℕ) (body : Stated) (test : Expressed)
    → is_new r (exit_label at) ≡ true → is_new r (body_label at) ≡ true
    → (let e : Exited = record { at = at; form = Turns true } in let c1 = m.targeting None e c in let r1 = in_loop (exit_label at ∷ []) r in StatedIs b c1 (under (body_label at) r1) body
    → Reaches b c1 r1 test → StatedIs b c r (m.loop at true body.listed.variables (m.do_while_lowered at body test)))

abbrev pub IfLaw : Type 0
IfLaw = (b : Bindings) (c : Context) (r : Round) (first : Conditioned) (more : List Conditioned) (otherwise : Option Stated)
    → ConditionedIs b c r first → Every (ConditionedIs b c r) more → IfThere (StatedIs b c r) otherwise
    → StatedIs b c r (m.running (m.if_variables first more otherwise) (m.if_lowered first more otherwise))

abbrev pub TryLaw : Type 0
TryLaw = (b : Bindings) (c : Context) (r : Round) (tried : Listed) (caught : Option Caught) (last : Option Listed)
    → ListedIs b c r tried → IfThere (CaughtIs b c r) caught → IfThere (ListedIs b c r) last
    → StatedIs b c r (m.running (m.try_variables tried caught last) (m.try_lowered tried caught last))
