-- Patterns and property names (ECMA-262, 6th edition, 12.2.6, 12.14.5 and 13.3.3).
use Rattle.std.specs.Prelude.{ℕ, Bool, true, false, ◌||◌, is_some, List, [], ◌∷◌, ◌++◌, Option, Some, None}
use Rattle.std.specs.Fmt.{decimal}
use Rattle.std.specs.List.{list_any}
use Rattle.es_text.specs.declared.Span.{Span}
use Rattle.es6_ast.specs.declared.operators.MethodKind.{MethodKind}
use Rattle.es6_ast.specs.declared.operators.MethodKind.TheVariants as method
use Rattle.es6_ast.specs.declared.tree.Identifier.{Identifier}
use Rattle.es6_ast.specs.declared.tree.Argument.TheOpen as layer
use Rattle.es6_ast.specs.declared.tree.Argument.TheOpen.{ArrayPart-F, Key-F, ObjectPart-F, Part-F, Pattern-F, Property-F}
use Rattle.es6_static_semantics.specs.Findings.{joined}
use Rattle.core_ast.specs.declared.parts.Key.TheVariants.{IntegerKey, TextKey, WordKey}
use Rattle.core_ast.specs.declared.parts.Var.{Var}
use Rattle.core_ast.specs.declared.tree.CoreExpr.{CoreExpr}
use Rattle.core_ast.specs.declared.tree.CoreStat.{CoreStat}
use Rattle.core_ast.specs.declared.tree.CoreStat.TheVariants as stat
use Rattle.core_ast.specs.Made.{variable}
use Rattle.lowering_rules.specs.declared.classes.MemberKind.{MemberKind}
use Rattle.lowering_rules.specs.declared.classes.MemberKind.TheVariants.{Getter, Method, Setter}
use Rattle.lowering_rules.specs.declared.naming.Iteration.{Iteration}
use Rattle.lowering_rules.specs.declared.naming.Names.{Names}
use Rattle.lowering_rules.specs.declared.reference_rules.objects.ObjectKey.{ObjectKey}
use Rattle.lowering_rules.specs.declared.reference_rules.objects.ObjectKey.TheVariants.{Evaluated, Written}
use Rattle.lowering_rules.specs.declared.reference_rules.objects.ObjectMember.{ObjectMember}
use Rattle.lowering_rules.specs.declared.reference_rules.objects.ObjectMember.TheVariants.{Defined, Valued}
use Rattle.lowering_rules.specs.declared.patterns.ArrayPart.{ArrayPart}
use Rattle.lowering_rules.specs.declared.patterns.ArrayPart.TheVariants.{Element, Elision, Rest}
use Rattle.lowering_rules.specs.declared.patterns.MemberTarget.{MemberTarget}
use Rattle.lowering_rules.specs.declared.patterns.ObjectPart.{ObjectPart}
use Rattle.lowering_rules.specs.declared.patterns.PropertyName.{PropertyName}
use Rattle.lowering_rules.specs.declared.patterns.PropertyName.TheVariants.{Computed, Iterator, Literal}
use Rattle.lowering_rules.specs.declared.patterns.Target.{Target}
use Rattle.lowering_rules.specs.declared.reference_rules.references.MemberName.{MemberName}
use Rattle.lowering_rules.specs.declared.reference_rules.references.MemberName.TheVariants.{AtIterator, Indexed, Named}
use Rattle.lowering_rules.specs.declared.reference_rules.references.Reached.{Reached}
use Rattle.lowering_rules.specs.declared.reference_rules.references.Reached.TheVariants.{Inherited, Property, Value, Variable}
use Rattle.lowering_rules.specs.Making.{initialize, set}
use Rattle.lowering_rules.specs.Naming.{Drawn, drawn_iteration}
use Rattle.lowering_rules.specs.reference_rules.Drawing.{drawn, made_of, with_one}
use Rattle.lowering_rules.specs.Patterns.{array_pattern, assigned_target, declared_target, iterator_name, member_target, object_pattern}
use Rattle.lowering_rules.specs.reference_rules.References.{assigned, drawn_member, value_of}
use Rattle.module_lowering.specs.declared.context.FunctionForm.{FunctionForm}
use Rattle.module_lowering.specs.declared.context.FunctionForm.TheVariants.{AccessorForm, MethodForm}
use Rattle.module_lowering.specs.declared.context.Role.{Role}
use Rattle.module_lowering.specs.declared.context.Role.TheVariants.{Assigns, Initializes, Sets}
use Rattle.module_lowering.specs.Expressions.{form_of, indexed, optional, valued, whole}
use Rattle.module_lowering.specs.Lowering.{drawing, each_by, option, pure, temporary, Lowering, ◌>>=◌}
use Rattle.module_lowering.specs.Names.{declared_at, name_lowered, name_target, units_of}
use Rattle.module_lowering.specs.Nodes.{ArrayParted, BracketKey, Form, Keyed, Layer, MemberForm, Methoded, NameForm, ObjectParted, Parted, PartsForm, Patterned, WrittenKey}

-- ---- property names (12.2.6)

abbrev pub key_step : Layer Key-F → Keyed
key_step (layer.WordKey span name) = WrittenKey (WordKey name) (units_of name)
key_step (layer.TextKey span units) = WrittenKey (TextKey units) units
key_step (layer.IntegerKey span n) = WrittenKey (IntegerKey (whole n)) (decimal (whole n))
key_step (layer.ComputedKey span x) = BracketKey x

-- a name that is evaluated is kept as a key
abbrev pub property_of : MemberName → Names → Drawn PropertyName
property_of (Named key) n = drawn (Literal key) n
property_of (Indexed x) n = with_one (λ kept. Computed kept x) n
property_of AtIterator n = drawn Iterator n

abbrev pub property_name : Keyed → Lowering PropertyName
property_name (WrittenKey key units) = pure (Literal key)
property_name (BracketKey x) = do
  name ← indexed x
  drawing (property_of name)

unfoldable pub object_key_of : MemberName → ObjectKey
object_key_of (Named key) = Written key []
object_key_of (Indexed x) = Evaluated x
object_key_of AtIterator = Written (TextKey iterator_name) iterator_name

abbrev pub object_key : Keyed → Lowering ObjectKey
object_key (WrittenKey key units) = pure (Written key units)
object_key (BracketKey x) = do
  name ← indexed x
  pure (object_key_of name)

-- ---- members of object literals (12.2.6.8, 14.3.9)

abbrev pub member_kind : MethodKind → MemberKind
member_kind method.PlainMethod = Method
member_kind method.GetterMethod = Getter
member_kind method.SetterMethod = Setter
member_kind method.GeneratorMethod = Method

abbrev pub member_form : MethodKind → FunctionForm
member_form method.PlainMethod = MethodForm
member_form method.GetterMethod = AccessorForm
member_form method.SetterMethod = AccessorForm
member_form method.GeneratorMethod = MethodForm

abbrev pub valued_member : Keyed → Lowering CoreExpr → Lowering ObjectMember
valued_member key a = do
  k ← object_key key
  x ← a
  pure (Valued k x)

abbrev pub defined_member : Methoded → Lowering ObjectMember
defined_member m = do
  k ← object_key m.key
  f ← m.lowered (member_form m.kind)
  pure (Defined k (member_kind m.kind) f)

abbrev pub name_valued : Identifier → Lowering CoreExpr
name_valued x = do
  r ← name_lowered x
  pure (value_of r)

abbrev pub shorthand : Span → List ℕ → Lowering ObjectMember
shorthand span name =
    valued_member (WrittenKey (WordKey name) (units_of name)) (name_valued (record { span = span; name = name }))

abbrev pub property_step : Layer Property-F → Lowering ObjectMember
property_step (layer.Plain span key x) = valued_member key (valued x)
property_step (layer.Shorthand span name) = shorthand span name
property_step (layer.Initialized span name equals x) = shorthand name.span name.name
property_step (layer.Defined m) = defined_member m

-- ---- what a value goes to

-- a name
abbrev pub name_taken : Identifier → Role → Option (Lowering CoreExpr) → Var → Lowering Target
name_taken x Assigns default v = do
  t ← name_target x
  d ← option default
  pure (assigned_target t d v)
name_taken x Initializes default v = do
  y ← declared_at x.span.begin
  d ← option default
  pure (declared_target y d v)
name_taken x Sets default v = do
  y ← declared_at x.span.begin
  d ← option default
  pure (assigned_target (record { var = y; checked = false; constant = false }) d v)

-- a property; no other expression is a target (12.14.5.1)
abbrev pub put_nowhere : Option CoreExpr → Var → Target
put_nowhere d v = record { before = []; default = d; after = [] }

abbrev pub member_reached : Reached → Names → Drawn (Option MemberTarget)
member_reached (Value x) n = drawn None n
member_reached (Variable t imported) n = drawn None n
member_reached (Property object name) n = made_of Some (drawn_member object name n)
member_reached (Inherited x this) n = drawn None n

abbrev pub member_or_none : Option MemberTarget → Option CoreExpr → Var → Target
member_or_none None d v = put_nowhere d v
member_or_none (Some t) d v = member_target t d v

abbrev pub member_taken : Lowering Reached → Option (Lowering CoreExpr) → Var → Lowering Target
member_taken reached default v = do
  r ← reached
  t ← drawing (member_reached r)
  d ← option default
  pure (member_or_none t d v)

abbrev pub form_taken : Form → Role → Option (Lowering CoreExpr) → Var → Lowering Target
form_taken (NameForm x) role default v = name_taken x role default v
form_taken (MemberForm reached) role default v = member_taken reached default v
form_taken PartsForm role default v = pure (put_nowhere None v)

-- a pattern: its parts take the value when it is there
abbrev pub parts_taken : (CoreExpr → Lowering (List CoreStat)) → Option (Lowering CoreExpr) → Var → Lowering Target
parts_taken bound default v = do
  d ← option default
  ss ← bound (variable v)
  pure (record { before = []; default = d; after = ss })

-- ---- a value that goes to a name or to what isn't a part (13.3.1.4, 13.3.2.4, 12.14.5.2)

abbrev pub name_bound : Identifier → Role → CoreExpr → Lowering (List CoreStat)
name_bound x Assigns e = do
  r ← name_lowered x
  y ← drawing (assigned r e)
  pure (stat.Do y ∷ [])
name_bound x Initializes e = do
  y ← declared_at x.span.begin
  pure (initialize y e ∷ [])
name_bound x Sets e = do
  y ← declared_at x.span.begin
  pure (set y e ∷ [])

-- a property of which the object is evaluated before the value is taken
abbrev pub target_statements : Var → CoreExpr → Target → List CoreStat
target_statements v e t = t.before ++ set v e ∷ t.after

abbrev pub member_bound : Lowering Reached → CoreExpr → Lowering (List CoreStat)
member_bound reached e = do
  v ← temporary
  t ← member_taken reached None v
  pure (target_statements v e t)

abbrev pub form_bound : Form → Role → CoreExpr → Lowering (List CoreStat)
form_bound (NameForm x) role e = name_bound x role e
form_bound (MemberForm reached) role e = member_bound reached e
form_bound PartsForm role e = pure []

-- ---- patterns with parts

abbrev pub object_bound : List ObjectParted → Role → CoreExpr → Lowering (List CoreStat)
object_bound parts role e = do
  s ← temporary
  v ← temporary
  ps ← each_by (λ p. p.lowered role v) parts
  pure (set s e ∷ object_pattern s v ps)

abbrev pub array_bound : List ArrayParted → Role → CoreExpr → Lowering (List CoreStat)
array_bound parts role e = do
  i ← drawing drawn_iteration
  ps ← each_by (λ p. p.lowered role i) parts
  pure (array_pattern i e ps)

abbrev pub with_parts : List Identifier → Bool → (Role → CoreExpr → Lowering (List CoreStat)) → Patterned
with_parts names has_expression bound = record {
  names = names;
  has_expression = has_expression;
  form = PartsForm;
  taken = λ role. parts_taken (bound role);
  bound = bound;
}

abbrev pub identifiers : Option Identifier → List Identifier
identifiers None = []
identifiers (Some x) = x ∷ []

abbrev pub one_target : Option Identifier → Form → Patterned
one_target x form = record {
  names = identifiers x;
  has_expression = false;
  form = form;
  taken = form_taken form;
  bound = form_bound form;
}

abbrev pub pattern_step : Layer Pattern-F → Patterned
pattern_step (layer.Target x) = one_target x.name (form_of x.name x.reached)
pattern_step (layer.ArrayPattern span parts) =
    with_parts (joined (λ p. p.names) parts) (list_any (λ p. p.has_expression) parts) (array_bound parts)
pattern_step (layer.ObjectPattern span parts) =
    with_parts (joined (λ p. p.names) parts) (list_any (λ p. p.has_expression) parts) (object_bound parts)

-- ---- parts

abbrev pub part_step : Layer Part-F → Parted
part_step x = record { pattern = x.pattern; default = optional x.default }

-- whether an expression stands in it (14.1.5)
abbrev pub part_expression : Parted → Bool
part_expression p = p.pattern.has_expression || is_some p.default

abbrev pub part_taken : Parted → Role → Var → Lowering Target
part_taken p role v = p.pattern.taken role p.default v

abbrev pub element_taken : Parted → Role → Iteration → Lowering ArrayPart
element_taken p role i = do
  t ← part_taken p role i.value
  pure (Element t)

abbrev pub rest_taken : Patterned → Role → Iteration → Lowering ArrayPart
rest_taken p role i = do
  t ← p.taken role None i.value
  pure (Rest t)

abbrev pub array_part_step : Layer ArrayPart-F → ArrayParted
array_part_step layer.SkippedPart = record { names = []; has_expression = false; lowered = λ role i. pure Elision }
array_part_step (layer.SinglePart p) =
    record { names = p.pattern.names; has_expression = part_expression p; lowered = element_taken p }
array_part_step (layer.RestPart span p) =
    record { names = p.names; has_expression = p.has_expression; lowered = rest_taken p }

abbrev pub property_taken : Keyed → Parted → Role → Var → Lowering ObjectPart
property_taken key p role v = do
  name ← property_name key
  t ← part_taken p role v
  pure (record { name = name; target = t })

-- the key of a part that is a name alone
abbrev pub named_key : List Identifier → Keyed
named_key [] = WrittenKey (WordKey []) []
named_key (x ∷ xs) = WrittenKey (WordKey x.name) (units_of x.name)

abbrev pub is_computed : Keyed → Bool
is_computed (WrittenKey key units) = false
is_computed (BracketKey x) = true

abbrev pub object_part_step : Layer ObjectPart-F → ObjectParted
object_part_step (layer.NamedPart p) = record {
  names = p.pattern.names;
  has_expression = part_expression p;
  lowered = property_taken (named_key p.pattern.names) p;
}
object_part_step (layer.KeyedPart span key p) = record {
  names = p.pattern.names;
  has_expression = is_computed key || part_expression p;
  lowered = property_taken key p;
}
