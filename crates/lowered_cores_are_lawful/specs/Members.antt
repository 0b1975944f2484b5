-- Laws: parts of patterns, members of object literals, and classes are lowered to lawful ones, where their parts are.
use Rattle.std.specs.Prelude.{◌≡◌, ℕ, false, List, Option}
use Rattle.es_text.specs.declared.Span.{Span}
use Rattle.es6_ast.specs.declared.tree.Argument.TheOpen.{Class-F}
use Rattle.core_ast.specs.declared.parts.Var.{Var}
use Rattle.core_ast.specs.declared.tree.CoreExpr.{CoreExpr}
use Rattle.core_ast.specs.Lawful.{Round}
use Rattle.lowering_laws.specs.Classes.{object_member_lawful}
use Rattle.lowering_laws.specs.Patterns.{object_part_lawful}
use Rattle.module_lowering.specs.Bindings.{Bindings, found}
use Rattle.module_lowering.specs.Classes as rules
use Rattle.module_lowering.specs.Expressions.{optional}
use Rattle.module_lowering.specs.Lowering.{Lowering}
use Rattle.module_lowering.specs.Nodes.{Expressed, Keyed, Layer, Membered, Methoded, Parted, Patterned}
use Rattle.module_lowering.specs.Patterns as m
use Rattle.module_lowering.specs.declared.context.Context.{Context}
use Rattle.module_lowering.specs.declared.context.Role.{Role}
use Rattle.module_lowering.specs.declared.lowerer.Lowerer.{Lowerer}
use Rattle.lowered_cores_are_lawful.specs.Conditions.{finds_host}
use Rattle.lowered_cores_are_lawful.specs.Nodes.{ArrayPartedIs, ClassMadeIs, KeyedIs, MethodedIs, PartedIs, PatternedIs, Reaches, ValueMakes, VarIs}
use Rattle.lowered_cores_are_lawful.specs.Standing.{Every, IfThere, Made, Makes, Of, Stands, here}

abbrev pub PartLaw : Type 0
PartLaw = (b : Bindings) (c : Context) (r : Round) (p : Patterned) (default : Option Expressed) → PatternedIs b c r p
    → IfThere (Reaches b c r) default → PartedIs b c r (record { pattern = p; default = optional default })

abbrev pub ElementTakenLaw : Type 0
ElementTakenLaw = (b : Bindings) (c : Context) (r : Round) (p : Parted) → PartedIs b c r p
    → ArrayPartedIs b c r (record { names = p.pattern.names; has_expression = m.part_expression p; lowered = m.element_taken p })

abbrev pub RestTakenLaw : Type 0
RestTakenLaw = (b : Bindings) (c : Context) (r : Round) (p : Patterned) → PatternedIs b c r p
    → ArrayPartedIs b c r (record { names = p.names; has_expression = p.has_expression; lowered = m.rest_taken p })

abbrev pub PropertyTakenLaw : Type 0
PropertyTakenLaw = (b : Bindings) (c : Context) (r : Round) (key : Keyed) (p : Parted) → KeyedIs b c r key → PartedIs b c r p
    → (role : Role) (v : Var) (s : Lowerer) → Stands b c r.hosts s → VarIs (here s r) v
    → Made (Of object_part_lawful) b c r s (m.property_taken key p role v b c s)

abbrev pub ValuedMemberLaw : Type 0
ValuedMemberLaw = (b : Bindings) (c : Context) (r : Round) (key : Keyed) (a : Lowering CoreExpr) → KeyedIs b c r key
    → ValueMakes b c r a → Makes (Of object_member_lawful) b c r (m.valued_member key a)

abbrev pub DefinedMemberLaw : Type 0
DefinedMemberLaw = (b : Bindings) (c : Context) (r : Round) (x : Methoded) → MethodedIs b c r x
    → Makes (Of object_member_lawful) b c r (m.defined_member x)

abbrev pub ShorthandLaw : Type 0
ShorthandLaw = (b : Bindings) (c : Context) (r : Round) (span : Span) (name : List ℕ)
    → finds_host b (found b c span.begin) ≡ false → Makes (Of object_member_lawful) b c r (m.shorthand span name)

abbrev pub ClassLaw : Type 0
ClassLaw = (b : Bindings) (c : Context) (r : Round) (x : Layer Class-F) → IfThere (Reaches b c r) x.heritage
    → Every (λ (y : Membered). MethodedIs b c r y.method) x.members → Makes ClassMadeIs b c r (rules.class_definition x)
