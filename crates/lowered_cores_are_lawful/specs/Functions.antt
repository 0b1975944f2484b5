-- Laws: functions, generators and arrows are lowered to lawful ones, where their parts are.
use Rattle.std.specs.Prelude.{◌≡◌, ℕ, true, false, length, List}
use Rattle.core_ast.specs.declared.parts.Var.{Var}
use Rattle.core_ast.specs.Lawful.{Round, all_differ, is_safe}
use Rattle.lowering_laws.specs.InRound.{AreLawful}
use Rattle.module_lowering.specs.Bindings.{Bindings}
use Rattle.module_lowering.specs.Expressions.{valued}
use Rattle.module_lowering.specs.Functions as m
use Rattle.module_lowering.specs.Nodes.{Expressed, Listed, Parametered}
use Rattle.module_lowering.specs.declared.context.Context.{Context}
use Rattle.module_lowering.specs.declared.context.FunctionForm.{FunctionForm}
use Rattle.module_lowering.specs.declared.context.ThisKind.TheVariants.{OfGenerator}
use Rattle.lowered_cores_are_lawful.specs.Conditions.{parameter_numbers}
use Rattle.lowered_cores_are_lawful.specs.Nodes.{FunctionPartsAre, IdIs, Reaches}
use Rattle.lowered_cores_are_lawful.specs.Standing.{Makes}

abbrev pub FunctionMadeLaw : Type 0
FunctionMadeLaw = (b : Bindings) (c : Context) (r : Round) (begin : ℕ) (xs : List Parametered) (body : Listed) (form : FunctionForm)
    → all_differ (parameter_numbers b c xs) ≡ true → is_safe (length xs) ≡ true
    → FunctionPartsAre b (m.in_function (m.this_kind form) c) r.hosts false xs body
    → Makes IdIs b c r (m.function_made begin xs body form)

abbrev pub GeneratorMadeLaw : Type 0
GeneratorMadeLaw = (b : Bindings) (c : Context) (r : Round) (begin : ℕ) (xs : List Parametered) (body : Listed)
    → all_differ (parameter_numbers b c xs) ≡ true → is_safe (length xs) ≡ true → ((this : Var)
    → FunctionPartsAre b (m.in_function (OfGenerator this) c) r.hosts true xs body)
    → Makes IdIs b c r (m.generator_made begin xs body)

abbrev pub ArrowMadeLaw : Type 0
ArrowMadeLaw = (b : Bindings) (c : Context) (r : Round) (xs : List Parametered) (body : Listed)
    → all_differ (parameter_numbers b c xs) ≡ true → is_safe (length xs) ≡ true
    → FunctionPartsAre b (m.in_arrow c) r.hosts false xs body → Makes IdIs b c r (m.arrow_made xs body)

abbrev pub ValueReturnedLaw : Type 0
ValueReturnedLaw = (b : Bindings) (c : Context) (r : Round) (x : Expressed) → r.returns ≡ true → Reaches b c r x
    → Makes AreLawful b c r (m.value_returned (valued x))
