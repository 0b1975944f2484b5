-- Methods and classes (ECMA-262, 6th edition, 14.3 and 14.5).
use Rattle.std.specs.Prelude.{ℕ, Bool, true, false, ◌&&◌, codes, not, is_some, List, [], ◌∷◌, nat_eq, Option, Some, None}
use Rattle.std.specs.Cmp.Lexicographic.{pointwise}
use Rattle.es6_ast.specs.declared.operators.MethodKind.{MethodKind}
use Rattle.es6_ast.specs.declared.operators.MethodKind.TheVariants as method
use Rattle.es6_ast.specs.declared.tree.Identifier.{Identifier}
use Rattle.es6_ast.specs.declared.tree.Argument.TheOpen.{Class-F, ClassMember-F, Function-F, Method-F}
use Rattle.core_ast.specs.declared.parts.FunctionId.{FunctionId}
use Rattle.core_ast.specs.declared.parts.ScopedName.{ScopedName}
use Rattle.core_ast.specs.declared.tree.CoreExpr.{CoreExpr}
use Rattle.core_ast.specs.declared.whole.CoreFunction.{CoreFunction}
use Rattle.core_ast.specs.declared.whole.CoreKind.TheVariants.{Class}
use Rattle.lowering_rules.specs.declared.classes.ClassKey.{ClassKey}
use Rattle.lowering_rules.specs.declared.classes.ClassKey.TheVariants.{ComputedName, TextName}
use Rattle.lowering_rules.specs.declared.classes.ClassMember.{ClassMember}
use Rattle.lowering_rules.specs.declared.classes.ClassNames.{ClassNames}
use Rattle.lowering_rules.specs.declared.naming.Names.{Names}
use Rattle.lowering_rules.specs.declared.reference_rules.references.MemberName.{MemberName}
use Rattle.lowering_rules.specs.declared.reference_rules.references.MemberName.TheVariants.{AtIterator, Indexed, Named}
use Rattle.lowering_rules.specs.statement_rules.Bodies.{begun_with, with_statements}
use Rattle.lowering_rules.specs.Classes.{class_statements, constructor, default_body}
use Rattle.lowering_rules.specs.Naming.{Drawn}
use Rattle.lowering_rules.specs.reference_rules.Drawing.{drawn, with_one}
use Rattle.lowering_rules.specs.Patterns.{iterator_name}
use Rattle.module_lowering.specs.declared.context.Context.{Context}
use Rattle.module_lowering.specs.declared.context.FunctionForm.TheVariants.{ConstructorForm}
use Rattle.module_lowering.specs.Bindings.{Bindings, inner_name}
use Rattle.module_lowering.specs.Expressions.{indexed, optional}
use Rattle.module_lowering.specs.Functions.{made}
use Rattle.module_lowering.specs.Lowering.{all_by, asks, choose, define, drawing, option, pure, temporary, Lowering, ◌>>=◌}
use Rattle.module_lowering.specs.Nodes.{BracketKey, ClassMade, Classed, Functioned, Keyed, Layer, Membered, Methoded, WrittenKey}
use Rattle.module_lowering.specs.Patterns.{member_form, member_kind}
use Rattle.module_lowering.specs.Statements.{listed}

abbrev pub function_step : Layer Function-F → Functioned
function_step x = record { name = x.name; lowered = made x.is_generator x.span.begin x.parameters (listed x.body) }

abbrev pub method_step : Layer Method-F → Methoded
method_step x = record { kind = x.kind; key = x.key; lowered = x.function.lowered }

abbrev pub class_member_step : Layer ClassMember-F → Membered
class_member_step x = record { is_static = x.is_static; method = x.method }

-- ---- members (14.5.14, steps 20 to 21)

abbrev pub class_key_of : MemberName → Names → Drawn ClassKey
class_key_of (Named key) n = drawn (TextName []) n
class_key_of (Indexed x) n = with_one (λ kept. ComputedName kept x) n
class_key_of AtIterator n = drawn (TextName iterator_name) n

abbrev pub class_key : Keyed → Lowering ClassKey
class_key (WrittenKey key units) = pure (TextName units)
class_key (BracketKey x) = do
  name ← indexed x
  drawing (class_key_of name)

abbrev pub member_lowered : Membered → Lowering ClassMember
member_lowered m = do
  key ← class_key m.method.key
  f ← m.method.lowered (member_form m.method.kind)
  pure (record { is_static = m.is_static; kind = member_kind m.method.kind; key = key; function = f })

-- ---- the constructor (14.5.3)

abbrev pub is_plain_method : MethodKind → Bool
is_plain_method method.PlainMethod = true
is_plain_method k = false

abbrev pub is_written : List ℕ → Keyed → Bool
is_written text (WrittenKey key units) = pointwise nat_eq text units
is_written text (BracketKey x) = false

abbrev pub is_constructor : Membered → Bool
is_constructor m = not m.is_static && is_plain_method m.method.kind && is_written (codes "constructor") m.method.key

-- one that isn't written passes its arguments on, where the class has a heritage (14.5.14, step 10)
abbrev pub further_member : Membered → Lowering (List ClassMember)
further_member m = choose (is_constructor m) (pure []) (one_member m)
  where
    one_member : Membered → Lowering (List ClassMember)
    one_member n = do
      x ← member_lowered n
      pure (x ∷ [])

abbrev pub default_constructor : Bool → CoreFunction
default_constructor derived =
    constructor derived (with_statements (default_body derived) [] (begun_with (Class derived) None [] []))

abbrev pub constructor_of : Bool → List Membered → Lowering FunctionId
constructor_of derived [] = define (default_constructor derived)
constructor_of derived (m ∷ ms) =
    choose (is_constructor m) (m.method.lowered (ConstructorForm derived)) (constructor_of derived ms)

-- ---- classes (14.5.14)

abbrev pub inner_of : Option Identifier → Bindings → Context → Option ScopedName
inner_of None b c = None
inner_of (Some x) b c = Some (inner_name b c x.span.begin)

abbrev pub class_made : ClassNames → Option ScopedName → Option CoreExpr → FunctionId → List ClassMember → ClassMade
class_made c inner heritage f members =
    record { class = c.class; statements = class_statements c inner heritage f members }

abbrev pub class_definition : Layer Class-F → Lowering ClassMade
class_definition x = do
  class ← temporary
  prototype ← temporary
  heritage ← option (optional x.heritage)
  f ← constructor_of (is_some x.heritage) x.members
  members ← all_by further_member x.members
  inner ← asks (inner_of x.name)
  pure (class_made (record { class = class; prototype = prototype }) inner heritage f members)

abbrev pub class_step : Layer Class-F → Classed
class_step x = record { name = x.name; lowered = class_definition x }
