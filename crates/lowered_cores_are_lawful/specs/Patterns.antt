-- Laws: patterns are lowered to lawful ones, where their parts are.
use Rattle.std.specs.Prelude.{Bool, List, Option}
use Rattle.es6_ast.specs.declared.tree.Identifier.{Identifier}
use Rattle.core_ast.specs.Lawful.{Round}
use Rattle.module_lowering.specs.Bindings.{Bindings}
use Rattle.module_lowering.specs.Nodes.{ArrayParted, Form, ObjectParted}
use Rattle.module_lowering.specs.Patterns as m
use Rattle.module_lowering.specs.declared.context.Context.{Context}
use Rattle.lowered_cores_are_lawful.specs.Nodes.{ArrayPartedIs, FormIs, ObjectPartedIs, PatternedIs}
use Rattle.lowered_cores_are_lawful.specs.Standing.{Every}

abbrev pub OneTargetLaw : Type 0
OneTargetLaw = (b : Bindings) (c : Context) (r : Round) (x : Option Identifier) (form : Form) → FormIs b c r form
    → PatternedIs b c r (m.one_target x form)

abbrev pub ObjectPatternLaw : Type 0
ObjectPatternLaw = (b : Bindings) (c : Context) (r : Round) (names : List Identifier) (has_expression : Bool) (ps : List ObjectParted)
    → Every (ObjectPartedIs b c r) ps → PatternedIs b c r (m.with_parts names has_expression (m.object_bound ps))

abbrev pub ArrayPatternLaw : Type 0
ArrayPatternLaw = (b : Bindings) (c : Context) (r : Round) (names : List Identifier) (has_expression : Bool) (ps : List ArrayParted)
    → Every (ArrayPartedIs b c r) ps → PatternedIs b c r (m.with_parts names has_expression (m.array_bound ps))
