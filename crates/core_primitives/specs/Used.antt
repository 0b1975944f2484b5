-- Which primitives the script of a core calls: those that stand in it, and those that are called for nodes which a script
-- can't say.
use Rattle.std.specs.Prelude.{true, false, List, map, Option, None, Some}
use Rattle.std.specs.Option.{option_map}
use Rattle.core_ast.specs.declared.whole.Core.{Core}
use Rattle.core_ast.specs.declared.whole.CoreFunction.{CoreFunction}
use Rattle.core_ast.specs.declared.whole.CoreKind.{CoreKind}
use Rattle.core_ast.specs.declared.whole.CoreKind.TheVariants.{Generator}
use Rattle.core_ast.specs.declared.whole.CorePart.{CorePart}
use Rattle.core_ast.specs.declared.parts.Var.{Var}
use Rattle.core_ast.specs.declared.parts.CoreHead.{CoreHead}
use Rattle.core_ast.specs.declared.parts.CoreHead.TheVariants as head
use Rattle.core_ast.specs.declared.parts.CoreOp.{CoreOp}
use Rattle.core_ast.specs.declared.parts.CoreOp.TheVariants as op
use Rattle.core_ast.specs.declared.parts.Primitive.{Primitive}
use Rattle.core_ast.specs.declared.tree.CoreExpr.{CoreExpr, fold-CoreExpr}
use Rattle.core_ast.specs.declared.tree.CoreCase.{CoreCase, fold-CoreCase}
use Rattle.core_ast.specs.declared.tree.CoreLink.{CoreLink, fold-CoreLink}
use Rattle.core_ast.specs.declared.tree.CoreStat.{CoreStat, fold-CoreStat, out-CoreStat}
use Rattle.core_ast.specs.declared.tree.CoreLink.TheOpen as layer
use Rattle.core_ast.specs.declared.tree.CoreLink.TheOpen.{CoreLink-F, CoreStat-F, CoreCase-F, CoreExpr-F}
use Rattle.core_ast.specs.Walks.{along, perhaps}
use Rattle.core_ast.specs.declared.parts.Primitive.TheVariants as primitive
use Rattle.core_primitives.specs.declared.literal.Literal.{Literal}
use Rattle.core_primitives.specs.declared.literal.Literal.TheVariants.{ListLiteral, ObjectLiteral, NoLiteral}
use Rattle.core_primitives.specs.declared.literal.Met.{Met}
use Rattle.core_primitives.specs.declared.used.UsedPrimitives.{UsedPrimitives}

-- what is met so far, and what is met then
abbrev pub Adds : Type 0
Adds = UsedPrimitives → UsedPrimitives

abbrev pub none : UsedPrimitives
none = record {
  check_ready = false;
  refuse_const = false;
  cell_make = false;
  to_text = false;
  iter_start = false;
  iter_step = false;
  iter_value = false;
  iter_close = false;
  rest_list = false;
  spread_list = false;
  construct = false;
  namespace_make = false;
  class_make = false;
  class_guard = false;
  new_target = false;
  super_construct = false;
  this_bind = false;
  super_get = false;
  method_put = false;
  accessor_put = false;
  arguments_put = false;
  generator_make = false;
  generator_resume = false;
  delegate_step = false;
  power = false;
  template_object = false;
  includes_put = false;
}

unfoldable pub of_primitive : Primitive → Adds
of_primitive primitive.CheckReady u = record u { check_ready = true }
of_primitive primitive.RefuseConst u = record u { refuse_const = true }
of_primitive (primitive.CellMake x) u = record u { cell_make = true }
of_primitive primitive.ToText u = record u { to_text = true }
of_primitive primitive.IterStart u = record u { iter_start = true }
of_primitive primitive.IterStep u = record u { iter_step = true }
of_primitive primitive.IterValue u = record u { iter_value = true }
of_primitive primitive.IterClose u = record u { iter_close = true }
of_primitive primitive.RestList u = record u { rest_list = true }
of_primitive primitive.SpreadList u = record u { spread_list = true }
of_primitive primitive.Construct u = record u { construct = true }
of_primitive primitive.NamespaceMake u = record u { namespace_make = true }
of_primitive primitive.ClassMake u = record u { class_make = true }
of_primitive primitive.ClassGuard u = record u { class_guard = true }
of_primitive primitive.NewTarget u = record u { new_target = true }
of_primitive primitive.SuperConstruct u = record u { super_construct = true }
of_primitive primitive.ThisBind u = record u { this_bind = true }
of_primitive primitive.SuperGet u = record u { super_get = true }
of_primitive primitive.MethodPut u = record u { method_put = true }
of_primitive primitive.AccessorPut u = record u { accessor_put = true }
of_primitive primitive.ArgumentsPut u = record u { arguments_put = true }
of_primitive primitive.GeneratorMake u = record u { generator_make = true }
of_primitive primitive.GeneratorResume u = record u { generator_resume = true }
of_primitive primitive.DelegateStep u = record u { delegate_step = true }
of_primitive primitive.Power u = record u { power = true }
of_primitive primitive.TemplateObject u = record u { template_object = true }
of_primitive primitive.IncludesPut u = record u { includes_put = true }

unfoldable pub of_head : CoreHead → Adds
of_head (head.Primitive p) u = of_primitive p u
of_head h u = u

-- ---- literals: behind its head an element of a list and a property of an object stand in the literal; behind anything else they
-- are put to a value that is there already

-- what is met along an expression, and whether its current value is still a literal
abbrev pub Meets : Type 0
Meets = Met → Met

unfoldable pub literal_of : CoreHead → Literal
literal_of head.ArrayList = ListLiteral
literal_of head.ArgumentList = ListLiteral
literal_of head.ObjectList = ObjectLiteral
literal_of h = NoLiteral

abbrev pub no_literal : UsedPrimitives → Met
no_literal u = record { literal = NoLiteral; used = u }

abbrev pub calls : Primitive → Meets
calls p m = no_literal (of_primitive p m.used)

unfoldable pub element : Literal → Meets
element ListLiteral m = m
element l m = calls primitive.SpreadList m

unfoldable pub property : Literal → Meets
property ObjectLiteral m = m
property l m = calls primitive.MethodPut m

-- engines differ in what a hole of a literal is, and in a data property beside an accessor of the same name
unfoldable pub of_op : CoreOp → Meets
of_op (op.Primitive p) m = calls p m
of_op op.Element m = element m.literal m
of_op op.Hole m = calls primitive.SpreadList m
of_op (op.Define k) m = property m.literal m
of_op (op.Getter k) m = calls primitive.AccessorPut m
of_op (op.Setter k) m = calls primitive.AccessorPut m
of_op op.NewList m = calls primitive.Construct m
of_op o m = no_literal m.used

-- ---- functions: a generator's is made for its generators, and an arguments object can be gone over

unfoldable pub of_kind : CoreKind → Adds
of_kind Generator u = of_primitive primitive.GeneratorMake u
of_kind k u = u

unfoldable pub of_arguments : Option Var → Adds
of_arguments None u = u
of_arguments (Some x) u = of_primitive primitive.ArgumentsPut u

-- ---- the walk

abbrev pub Layer : (Type 0 → Type 0 → Type 0 → Type 0 → Type 0) → Type 0
Layer Of = Of Meets Adds Adds Adds

abbrev pub link_step : Layer CoreLink-F → Meets
link_step (layer.Strict o parts site) m = of_op o (record m { used = along parts m.used })
link_step (layer.Lazy when taken other) m = no_literal (perhaps other (taken m.used))
link_step (layer.Run body) m = no_literal (along body m.used)

abbrev pub expr_step : Layer CoreExpr-F → Adds
expr_step x u = (along x.links (record { literal = literal_of x.head; used = of_head x.head u })).used

abbrev pub case_step : Layer CoreCase-F → Adds
case_step x u = along x.body (perhaps x.test u)

abbrev pub stat_step : Layer CoreStat-F → Adds
stat_step (layer.Do x) u = x u
stat_step (layer.If cases) u = along cases u
stat_step (layer.Switch subject cases) u = along cases (subject u)
stat_step (layer.Loop labels test update body) u = along body (perhaps update (perhaps test u))
stat_step (layer.Labelled label body) u = along body u
stat_step (layer.Jump goes_on label) u = u
stat_step (layer.Return x) u = x u
stat_step (layer.Throw x) u = x u
stat_step (layer.TryCatch block parameter names handler) u = along handler (along block u)
stat_step (layer.TryFinally block last) u = along last (along block u)
stat_step (layer.Scoped names body) u = along body u
stat_step (layer.Yield value kind result) u = value u

abbrev pub expr_used : CoreExpr → Adds
expr_used = fold-CoreExpr Meets Adds Adds Adds link_step stat_step case_step expr_step

abbrev pub link_used : CoreLink → Meets
link_used = fold-CoreLink Meets Adds Adds Adds link_step stat_step case_step expr_step

abbrev pub stat_used : CoreStat → Adds
stat_used = fold-CoreStat Meets Adds Adds Adds link_step stat_step case_step expr_step

abbrev pub case_used : CoreCase → Adds
case_used = fold-CoreCase Meets Adds Adds Adds link_step stat_step case_step expr_step

-- of a loop the test and the update, and the body
abbrev pub loop_tests_in : CoreStat-F CoreLink CoreStat CoreCase CoreExpr → Adds
loop_tests_in (layer.Loop labels test update body) u = perhaps (option_map expr_used update) (perhaps (option_map expr_used test) u)
loop_tests_in s u = u

abbrev pub loop_tests_used : CoreStat → Adds
loop_tests_used s u = loop_tests_in (out-CoreStat s) u

abbrev pub loop_body_in : CoreStat-F CoreLink CoreStat CoreCase CoreExpr → Adds
loop_body_in (layer.Loop labels test update body) u = along (map stat_used body) u
loop_body_in s u = u

abbrev pub loop_body_used : CoreStat → Adds
loop_body_used s u = loop_body_in (out-CoreStat s) u

abbrev pub stats_used : List CoreStat → Adds
stats_used stats u = along (map stat_used stats) u

abbrev pub function_used : CoreFunction → Adds
function_used f u =
    stats_used f.step (stats_used f.body (stats_used f.setup (of_arguments f.arguments (of_kind f.kind u))))

abbrev pub part_used : CorePart → Adds
part_used p u = stats_used p.body (stats_used p.instantiate u)

-- the primitives that the script of a core calls
abbrev pub used_primitives : Core → UsedPrimitives
used_primitives core = along (map part_used core.parts) (along (map function_used core.functions) none)
