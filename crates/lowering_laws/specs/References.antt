-- What is done to what a lawful expression comes to is lawful, in the round of the names that are drawn by then.
use Rattle.std.specs.Prelude.{ℕ, Bool, true, false, ◌&&◌, nat_lt, length, List, Option, None, IsTrue}
use Rattle.std.specs.List.{list_all}
use Rattle.es_outside.specs.declared.events.Site.{Site}
use Rattle.core_ast.specs.declared.parts.Update.{Update}
use Rattle.core_ast.specs.declared.tree.CoreExpr.{CoreExpr}
use Rattle.core_ast.specs.Lawful.{Round, is_drawn, key_lawful}
use Rattle.lowering_laws.specs.InRound.{IsLawful, PartsAreLawful, expr_lawful, part_lawful}
use Rattle.lowering_laws.specs.Patterns.{member_lawful}
use Rattle.lowering_rules.specs.Naming.{Drawn}
use Rattle.lowering_rules.specs.declared.expressions.ListPart.{ListPart}
use Rattle.lowering_rules.specs.declared.naming.Names.{Names}
use Rattle.lowering_rules.specs.declared.reference_rules.references.Compound.{Compound}
use Rattle.lowering_rules.specs.declared.reference_rules.references.MemberName.{MemberName}
use Rattle.lowering_rules.specs.declared.reference_rules.references.MemberName.TheVariants.{AtIterator, Indexed, Named}
use Rattle.lowering_rules.specs.declared.reference_rules.references.NamedValue.{NamedValue}
use Rattle.lowering_rules.specs.declared.reference_rules.references.NamedValue.TheVariants.{GlobalName, HostName, UndefinedName, VariableName}
use Rattle.lowering_rules.specs.declared.reference_rules.references.Reached.{Reached}
use Rattle.lowering_rules.specs.declared.reference_rules.references.Reached.TheVariants.{Inherited, Property, Value, Variable}
use Rattle.lowering_rules.specs.reference_rules.References.{accessed, assigned, called, called_as_tag, constructed, deleted, drawn_member, found, operated_at, updated, value_of}

abbrev pub name_lawful : Round → MemberName → Bool
name_lawful r (Named key) = key_lawful key
name_lawful r (Indexed key) = expr_lawful key r
name_lawful r AtIterator = true

abbrev pub reached_lawful : Round → Reached → Bool
reached_lawful r (Value x) = expr_lawful x r
reached_lawful r (Variable t imported) = is_drawn r t.var
reached_lawful r (Property object name) = expr_lawful object r && name_lawful r name
reached_lawful r (Inherited x this) = expr_lawful x r && expr_lawful this r

-- with the names so far
abbrev pub with_names : Names → Round → Round
with_names n r = record r { names = length n.fresh.hints }

abbrev pub MakesLawful : Round → Drawn CoreExpr → Type 0
MakesLawful r d = IsLawful (with_names d.names r) d.value

-- what names come to: a host alone is no value
abbrev pub named_lawful : Round → NamedValue → Bool
named_lawful r UndefinedName = true
named_lawful r (GlobalName g) = true
named_lawful r (HostName h) = false
named_lawful r (VariableName t imported) = is_drawn r t.var

abbrev pub FoundAreLawful : Type 0
FoundAreLawful = (r : Round) (v : NamedValue) → IsTrue (named_lawful r v) → IsTrue (reached_lawful r (found v))

abbrev pub FoundHostsAreCalled : Type 0
FoundHostsAreCalled = (r : Round) (h : ℕ) (parts : List ListPart) (site : Option Site) (n : Names)
    → IsTrue (nat_lt h r.hosts) → IsTrue (list_all (part_lawful (with_names n r)) parts)
    → MakesLawful r (called (found (HostName h)) parts site n)

abbrev pub AccessesAreLawful : Type 0
AccessesAreLawful = (r : Round) (x : Reached) (name : MemberName)
    → IsTrue (reached_lawful r x) → IsTrue (name_lawful r name) → IsTrue (reached_lawful r (accessed x name))

-- a property that patterns go to
abbrev pub MembersAreLawful : Type 0
MembersAreLawful = (r : Round) (object : CoreExpr) (name : MemberName) (n : Names)
    → let d = drawn_member object name n in
    IsLawful (with_names n r) object → IsTrue (name_lawful (with_names n r) name)
    → IsTrue (member_lawful (with_names d.names r) d.value)

abbrev pub ReadsAreLawful : Type 0
ReadsAreLawful = (r : Round) (x : Reached) → IsTrue (reached_lawful r x) → IsLawful r (value_of x) × IsLawful r (deleted x)

abbrev pub NewAreLawful : Type 0
NewAreLawful = (r : Round) (x : Reached) (parts : List ListPart)
    → IsTrue (reached_lawful r x) → IsTrue (list_all (part_lawful r) parts) → IsLawful r (constructed x parts None)

abbrev pub AssignmentsAreLawful : Type 0
AssignmentsAreLawful = (r : Round) (x : Reached) (e : CoreExpr) (n : Names)
    → IsTrue (reached_lawful (with_names n r) x) → IsLawful (with_names n r) e → MakesLawful r (assigned x e n)

abbrev pub CompoundsAreLawful : Type 0
CompoundsAreLawful = (r : Round) (x : Reached) (c : Compound) (e : CoreExpr) (n : Names)
    → IsTrue (reached_lawful (with_names n r) x) → IsLawful (with_names n r) e → MakesLawful r (operated_at x c e n)

abbrev pub UpdatesAreLawful : Type 0
UpdatesAreLawful = (r : Round) (x : Reached) (u : Update) (n : Names)
    → IsTrue (reached_lawful (with_names n r) x) → MakesLawful r (updated x u n)

abbrev pub ReachedCallsAreLawful : Type 0
ReachedCallsAreLawful = (r : Round) (x : Reached) (parts : List ListPart) (n : Names)
    → IsTrue (reached_lawful (with_names n r) x) → IsTrue (list_all (part_lawful (with_names n r)) parts)
    → MakesLawful r (called x parts None n)

abbrev pub ReachedTagsAreLawful : Type 0
ReachedTagsAreLawful = (r : Round) (x : Reached) (object : CoreExpr) (values : List CoreExpr) (n : Names)
    → IsTrue (reached_lawful (with_names n r) x) → IsLawful (with_names n r) object → PartsAreLawful (with_names n r) values
    → MakesLawful r (called_as_tag x object values None n)
