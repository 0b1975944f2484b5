-- Templates, lists, calls and tagged templates of lawful parts are lawful.
use Rattle.std.specs.Prelude.{ℕ, nat_lt, List, [], Option, None, IsTrue}
use Rattle.std.specs.List.{list_all}
use Rattle.es_outside.specs.declared.events.Site.{Site}
use Rattle.core_ast.specs.declared.parts.CoreHead.TheVariants as head
use Rattle.core_ast.specs.declared.tree.CoreExpr.{CoreExpr}
use Rattle.core_ast.specs.Lawful.{Round}
use Rattle.core_ast.specs.Made.{expression}
use Rattle.lowering_laws.specs.InRound.{IsLawful, IsLawfulIfThere, PartsAreLawful, expr_lawful, part_lawful}
use Rattle.lowering_rules.specs.Expressions.{arguments, array, call, construction, spread_call, tagged, template, template_object}
use Rattle.lowering_rules.specs.declared.expressions.ListPart.{ListPart}
use Rattle.lowering_rules.specs.declared.expressions.TemplatePart.{TemplatePart}

abbrev pub TemplatesAreLawful : Type 0
TemplatesAreLawful = (r : Round) (first : List ℕ) (parts : List TemplatePart)
    → IsTrue (list_all (λ p. expr_lawful p.value r) parts) → IsLawful r (template first parts)

abbrev pub ListsAreLawful : Type 0
ListsAreLawful = (r : Round) (parts : List ListPart)
    → IsTrue (list_all (part_lawful r) parts) → IsLawful r (array parts) × IsLawful r (arguments parts)

-- without a place, as all but those of hosts
abbrev pub CallsAreLawful : Type 0
CallsAreLawful = (r : Round) (callee : CoreExpr) (receiver : Option CoreExpr) (parts : List CoreExpr)
    → IsLawful r callee → IsLawfulIfThere r receiver → PartsAreLawful r parts → IsLawful r (call callee receiver parts None)

abbrev pub SpreadCallsAreLawful : Type 0
SpreadCallsAreLawful = (r : Round) (callee : CoreExpr) (receiver : Option CoreExpr) (parts : List ListPart)
    → IsLawful r callee → IsLawfulIfThere r receiver → IsTrue (list_all (part_lawful r) parts)
    → IsLawful r (spread_call callee receiver parts None)

-- a host is no value, but it may be called
abbrev pub host : ℕ → CoreExpr
host h = expression None (head.Host h) []

abbrev pub HostCallsAreLawful : Type 0
HostCallsAreLawful = (r : Round) (h : ℕ) (parts : List CoreExpr) (site : Option Site)
    → IsTrue (nat_lt h r.hosts) → PartsAreLawful r parts → IsLawful r (call (host h) None parts site)

abbrev pub SpreadHostCallsAreLawful : Type 0
SpreadHostCallsAreLawful = (r : Round) (h : ℕ) (parts : List ListPart) (site : Option Site)
    → IsTrue (nat_lt h r.hosts) → IsTrue (list_all (part_lawful r) parts) → IsLawful r (spread_call (host h) None parts site)

abbrev pub ConstructionsAreLawful : Type 0
ConstructionsAreLawful = (r : Round) (callee : CoreExpr) (parts : List ListPart)
    → IsLawful r callee → IsTrue (list_all (part_lawful r) parts) → IsLawful r (construction callee parts)

abbrev pub TagsAreLawful : Type 0
TagsAreLawful = (r : Round) (callee : CoreExpr) (receiver : Option CoreExpr) (object : CoreExpr) (values : List CoreExpr)
    → IsLawful r callee → IsLawfulIfThere r receiver → IsLawful r object → PartsAreLawful r values
    → IsLawful r (tagged callee receiver object values None)

abbrev pub TemplateObjectsAreLawful : Type 0
TemplateObjectsAreLawful = (r : Round) (cooked raw : List (List ℕ)) → IsLawful r (template_object cooked raw)
