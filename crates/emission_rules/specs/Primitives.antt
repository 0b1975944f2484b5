-- What the script's helpers are called, and what they are handed: first what a function gives to what stands in it, then the operands.
use Rattle.std.specs.Prelude.{ℕ, cond, true, false, codes, List, ◌∷◌, Option, None, Some}
use Rattle.core_ast.specs.declared.parts.Primitive.{Primitive}
use Rattle.core_ast.specs.declared.parts.Primitive.TheVariants as primitive
use Rattle.es5_ast.specs.declared.tree.Expr5.{Expr5}
use Rattle.emission_rules.specs.declared.scene.Current.{Current}
use Rattle.emission_rules.specs.declared.scene.Scene.{Scene}
use Rattle.emission_rules.specs.Nodes.{applied, member, name, nothing, stored}
use Rattle.emission_rules.specs.Scenes.{Emits, asking, frame_used, gives, guard_used, own_used, passed_used, target_used}

-- ---- names of the script's own: the mark of an uninitialized name, Function.prototype.call and apply, the function itself, its frame,
-- its arguments, and what keeps these apart

abbrev pub empty_name : List ℕ
empty_name = codes "empty"

abbrev pub call_name : List ℕ
call_name = codes "call"

abbrev pub apply_name : List ℕ
apply_name = codes "apply"

abbrev pub callee_name : List ℕ
callee_name = codes "callee"

abbrev pub frame_name : List ℕ
frame_name = codes "frame"

abbrev pub arguments_name : List ℕ
arguments_name = codes "arguments"

abbrev pub passed_name : List ℕ
passed_name = codes "passed"

abbrev pub self_key : List ℕ
self_key = codes "self"

abbrev pub target_key : List ℕ
target_key = codes "target"

abbrev pub cell_key : List ℕ
cell_key = codes "v"

unfoldable pub helper_name : Primitive → List ℕ
helper_name primitive.CheckReady = codes "check_ready"
helper_name primitive.RefuseConst = codes "refuse_const"
helper_name (primitive.CellMake x) = codes "cell_make"
helper_name primitive.ToText = codes "to_text"
helper_name primitive.IterStart = codes "iter_start"
helper_name primitive.IterStep = codes "iter_step"
helper_name primitive.IterValue = codes "iter_value"
helper_name primitive.IterClose = codes "iter_close"
helper_name primitive.RestList = codes "rest_list"
helper_name primitive.SpreadList = codes "spread_list"
helper_name primitive.Construct = codes "construct"
helper_name primitive.NamespaceMake = codes "namespace_make"
helper_name primitive.ClassMake = codes "class_make"
helper_name primitive.ClassGuard = codes "class_guard"
helper_name primitive.NewTarget = codes "new_target"
helper_name primitive.SuperConstruct = codes "super_construct"
helper_name primitive.ThisBind = codes "this_bind"
helper_name primitive.SuperGet = codes "super_get"
helper_name primitive.MethodPut = codes "method_put"
helper_name primitive.AccessorPut = codes "accessor_put"
helper_name primitive.ArgumentsPut = codes "arguments_put"
helper_name primitive.GeneratorMake = codes "generator_make"
helper_name primitive.GeneratorResume = codes "generator_resume"
helper_name primitive.DelegateStep = codes "delegate_step"
helper_name primitive.Power = codes "power"
helper_name primitive.TemplateObject = codes "template_object"
helper_name primitive.IncludesPut = codes "includes_put"

-- ---- what is made of a primitive and its operands

abbrev pub shown : Expr5 → Current
shown x = record { value = x; hidden = false }

abbrev pub concealed : Expr5 → Current
concealed x = record { value = x; hidden = true }

-- a property of the frame
abbrev pub framed : List ℕ → Current
framed k = concealed (member (name frame_name) k)

abbrev pub helped : Primitive → List Expr5 → Current
helped p operands = shown (applied (helper_name p) operands)

-- the frame is what the guard gives
abbrev pub guarded : List Expr5 → Expr5
guarded operands = stored (name frame_name) (applied (helper_name primitive.ClassGuard) (name callee_name ∷ operands))

abbrev pub or_nothing : Option Expr5 → Expr5
or_nothing None = nothing
or_nothing (Some x) = x

abbrev pub without_step : Scene → Scene
without_step s = record s { step = None }

-- a generator is made of its function and of the step
abbrev pub generator_made : List Expr5 → Emits Current
generator_made operands s =
    gives (helped primitive.GeneratorMake (name callee_name ∷ or_nothing s.step ∷ operands)) (asking own_used (without_step s))

abbrev pub with_frame : Primitive → List Expr5 → Emits Current
with_frame p operands s = gives (helped p (name frame_name ∷ operands)) (asking frame_used s)

abbrev pub with_own : Primitive → List Expr5 → Emits Current
with_own p operands s = gives (helped p (name callee_name ∷ operands)) (asking own_used s)

-- where its arguments are kept apart, a function has them under a name
abbrev pub arguments_given : Scene → List ℕ
arguments_given s = cond s.keeps passed_name arguments_name

abbrev pub rest_listed : List Expr5 → Emits Current
rest_listed operands s =
    gives (helped primitive.RestList (name (arguments_given s) ∷ operands)) (asking passed_used s)

abbrev pub with_arguments : Primitive → List Expr5 → Emits Current
with_arguments p operands s = gives (helped p (name arguments_name ∷ operands)) s

unfoldable pub primitive_emitted : Primitive → List Expr5 → Emits Current
primitive_emitted primitive.ClassGuard operands s = gives (shown (guarded operands)) (asking guard_used s)
primitive_emitted primitive.NewTarget operands s = gives (framed target_key) (asking target_used s)
primitive_emitted primitive.SuperConstruct operands s = with_frame primitive.SuperConstruct operands s
primitive_emitted primitive.ThisBind operands s = with_frame primitive.ThisBind operands s
primitive_emitted primitive.SuperGet operands s = with_own primitive.SuperGet operands s
primitive_emitted primitive.RestList operands s = rest_listed operands s
primitive_emitted primitive.ArgumentsPut operands s = with_arguments primitive.ArgumentsPut operands s
primitive_emitted primitive.GeneratorMake operands s = generator_made operands s
primitive_emitted p operands s = gives (helped p operands) s
