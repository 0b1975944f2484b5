-- Laws: `for`, for-of and `switch` are lowered to lawful ones, where their parts are.
use Rattle.std.specs.Prelude.{◌≡◌, ℕ, true, false, List, [], ◌∷◌, ◌++◌, Option, None}
use Rattle.es6_static_semantics.specs.Findings.{joined}
use Rattle.core_ast.specs.Lawful.{Round, in_loop, is_new, under}
use Rattle.lowering_laws.specs.InRound.{AreLawful}
use Rattle.lowering_rules.specs.statement_rules.Statements.{exit_label}
use Rattle.module_lowering.specs.Bindings.{Bindings}
use Rattle.module_lowering.specs.Nodes.{Cased, Exited, Expressed, ForBegun, ForTargeted, Stated}
use Rattle.module_lowering.specs.Statements as m
use Rattle.module_lowering.specs.declared.context.Context.{Context}
use Rattle.module_lowering.specs.declared.context.Dead.{Dead}
use Rattle.module_lowering.specs.declared.context.JumpForm.TheVariants.{Cases, Turns}
use Rattle.lowered_cores_are_lawful.specs.Nodes.{CasedIs, ForTargetedIs, Reaches, StatedIs}
use Rattle.lowered_cores_are_lawful.specs.Standing.{Every, IfThere, Makes}

abbrev pub ForLaw : Type 0
ForLaw = (b : Bindings) (c : Context) (r : Round) (at : ℕ) (first : ForBegun) (test update : Option Expressed) (body : Stated)
    → is_new r (exit_label at) ≡ true
    → (let e : Exited = record { at = at; form = Turns false } in let c1 = m.targeting None e c in Makes AreLawful b c1 r first.statements
    → IfThere (Reaches b c1 r) test → IfThere (Reaches b c1 r) update → StatedIs b c1 (in_loop (exit_label at ∷ []) r) body
    → StatedIs b c r (m.loop at false (first.variables ++ body.listed.variables) (m.for_lowered at first test update body)))

abbrev pub ForOfLaw : Type 0
ForOfLaw = (b : Bindings) (c : Context) (r : Round) (at : ℕ) (target : ForTargeted) (subject : Expressed) (body : Stated)
    → is_new r (exit_label at) ≡ true
    → (let e : Exited = record { at = at; form = Turns false } in let c1 = m.targeting None e c in let r1 = in_loop (exit_label at ∷ []) r in ForTargetedIs b c1 r1 target
    → ((ds : List Dead) → Reaches b (m.in_subject ds c1) r subject) → StatedIs b c1 r1 body
    → StatedIs b c r (m.loop at false (target.variables ++ body.listed.variables) (m.for_of_lowered at target subject body)))

abbrev pub SwitchLaw : Type 0
SwitchLaw = (b : Bindings) (c : Context) (r : Round) (at : ℕ) (subject : Expressed) (xs : List Cased)
    → is_new r (exit_label at) ≡ true → Reaches b c r subject
    → (let e : Exited = record { at = at; form = Cases } in Every (CasedIs b (m.targeting None e c) (under (exit_label at) r)) xs
    → StatedIs b c r (m.running (joined (λ (x : Cased). x.body.variables) xs) (m.switch_lowered at subject xs)))
