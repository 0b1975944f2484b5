-- A graph whose modules' items are lowered to lawful ones is lowered to lawful functions and parts.
use Rattle.std.specs.List.{list_all}
use Rattle.std.proofs.Common.{◌≡◌, ℕ, ◌+◌, ◌≤◌, ◌<◌, Bool, true, false, not, nat_lt, length, List, [], ◌∷◌, map, slice_get, Option, None, Some, refl, sym, subst, length-append, replicate, sum_by, arith}
use Rattle.std.proofs.lemmas.Bool.{false≢true, lt-ltb}
use Rattle.std.proofs.lemmas.List.{length-map, length-replicate}
use Rattle.std.proofs.lemmas.List.Sums.{sum_by-cons}
use Rattle.es6_ast.specs.declared.graph.Graph.{Graph}
use Rattle.es6_ast.specs.declared.graph.LoadedModule.{LoadedModule}
use Rattle.core_ast.specs.declared.parts.ScopedName.{ScopedName}
use Rattle.core_ast.specs.declared.parts.Var.{Var}
use Rattle.core_ast.specs.declared.whole.CorePart.{CorePart}
use Rattle.scope_analysis.specs.declared.tables.ModuleScopes.{ModuleScopes}
use Rattle.core_ast.specs.Lawful.{Round, names_drawn, part_lawful, round_part}
use Rattle.lowering_laws.specs.Bodies.{namespace_lawful, outer}
use Rattle.lowering_laws.specs.InRound.{AreLawful, declared_lawful}
use Rattle.lowering_laws.specs.References.{named_lawful}
use Rattle.lowering_laws.proofs.Bodies.{getters_are_lawful, parts_are_lawful}
use Rattle.lowering_laws.proofs.References.{found_are_lawful, reads_are_lawful}
use Rattle.lowering_rules.specs.declared.statement_rules.bodies.Export.{Export}
use Rattle.lowering_rules.specs.declared.statement_rules.bodies.Namespace.{Namespace}
use Rattle.lowering_rules.specs.reference_rules.References as references
use Rattle.lowering_rules.specs.statement_rules.Bodies.{export_getter}
use Rattle.module_lowering.specs.Bindings.{Bindings, meaning, own_var}
use Rattle.module_lowering.specs.Functions.{all_hoisted}
use Rattle.module_lowering.specs.Lowering.{define, each_by, entered, unseen}
use Rattle.module_lowering.specs.Modules as m
use Rattle.module_lowering.specs.Names.{scoped_names, units_of}
use Rattle.module_lowering.specs.Nodes.{Listed}
use Rattle.module_lowering.specs.declared.context.Context.{Context}
use Rattle.module_lowering.specs.declared.lowerer.Lowerer.{Lowerer}
use Rattle.module_lowering.specs.declared.meaning.Entry.{Entry}
use Rattle.module_lowering.specs.declared.meaning.Meaning.{Meaning}
use Rattle.module_lowering.specs.declared.meaning.Meaning.TheVariants.{Elsewhere, Itself, NamespaceOf, OfHost}
use Rattle.module_lowering.specs.declared.meaning.NamespaceEntries.{NamespaceEntries}
use Rattle.scope_analysis.specs.Answers.{own_binding}
use Rattle.scope_analysis.specs.Ends.{named_in}
use Rattle.scope_analysis.specs.declared.scopes.Scopes.{Scopes}
use Rattle.scope_rules.specs.declared.scope_tables.binding.Binding.{Binding}
use Rattle.binding_tables.specs.declared.ids.BindingId.TheVariants.{Own}
use Rattle.pass_rules.proofs.pass_laws.Within.{left, right, both}
use Rattle.lowered_cores_are_lawful.specs.Conditions.{is_host}
use Rattle.lowered_cores_are_lawful.specs.Nodes.{HoistedIs, IdIs, ListedIs, TargetsAre}
use Rattle.lowered_cores_are_lawful.specs.Parts.{CoreIs, ModulesAre, ends_well, entry_ends_well}
use Rattle.lowered_cores_are_lawful.specs.Standing.{AllOf, BindingsAreDrawn, Every, Made, Makes, Of, Stands, held, here, meaning_drawn, size}
use Rattle.lowered_cores_are_lawful.proofs.Functions.{goes_on}
use Rattle.lowered_cores_are_lawful.proofs.Grown.{stats_grown}
use Rattle.lowered_cores_are_lawful.proofs.Making.{Grows, all_grow, below_more, declared_grow, define_is, each_while_is, each_with_is, giving, ids_grow, later, list_both, scoped_grow, stay, vars_grow}
use Rattle.lowered_cores_are_lawful.proofs.Naming.{meaning_at, scopes_drawn}
use Rattle.lowered_cores_are_lawful.proofs.Statements.{all_hoisted_is}

-- ## Namespace objects

abbrev ExportIs : Round → Export → Bool
ExportIs r e = nat_lt e.getter.0 r.functions

ended_by : (b : Bindings) (r : Round) (x : Var) (y : Option Binding) (v : Meaning) → nat_lt x.0 r.names ≡ true → is_host v ≡ false → meaning_drawn r.hosts r.names v ≡ true → named_lawful r (m.exported_by b x y v) ≡ true
ended_by b r x None v d h k = refl
ended_by b r x (Some y) Itself d h k = d
ended_by b r x (Some y) (Elsewhere z) d h k = k
ended_by b r x (Some y) (NamespaceOf z) d h k = k
ended_by b r x (Some y) (OfHost z) d h k = absurd (false≢true (sym h))

unnot : (a : Bool) → not a ≡ true → a ≡ false
unnot true h = sym h
unnot false h = refl

ended : (b : Bindings) (r : Round) (names home : ℕ) (n : Option ℕ) → names ≤ r.names → ends_well b names home n ≡ true → BindingsAreDrawn b r.hosts r.names → named_lawful r (m.exported_own b home n) ≡ true
ended b r names home None l h k = refl
ended b r names home (Some n) l h k =
    let x = own_var b home n in
    ended_by b r x (own_binding b.scopes (Own home n)) (meaning b x) (below_more x.0 names r.names l (left _ _ h)) (unnot _ (right _ _ h)) (meaning_at r.hosts r.names b.meanings x.0 k.meanings)

abbrev Above : Round → ℕ → Type 0
Above r n = n ≤ r.names

above_grows : Grows Above
above_grows r n g x l k h = omega arith

exported_is : (b : Bindings) (c : Context) (r : Round) (names : ℕ) (e : Entry) → entry_ends_well b names e ≡ true → (s : Lowerer) → Stands b c r.hosts s → Above (here s r) names → Made (Of ExportIs) b c r s (m.exported e b c s)
exported_is b c r names e h s k l =
    let v = m.exported_value e b c in let q = outer (size s) r.hosts (held s) in
    let law : named_lawful q v ≡ true = ended b q names e.home (named_in e.local (slice_get b.scopes.modules.items e.home)) l h k.bindings in
    let f = export_getter (references.value_of (references.found v)) in
    let x = define f b c s in let p = define_is b c r f s k (getters_are_lawful (size s) r.hosts (held s) _ (reads_are_lawful q (references.found v) (found_are_lawful q v law)).0) in
    giving IdIs (Of ExportIs) b c r s x (record { name = units_of e.name; getter = x.0 }) p p.lawful

exports_are : (b : Bindings) (c : Context) (r : Round) (names : ℕ) (es : List Entry) → list_all (entry_ends_well b names) es ≡ true → Every (λ e. (s : Lowerer) → Stands b c r.hosts s → Above (here s r) names → Made (Of ExportIs) b c r s (m.exported e b c s)) es
exports_are b c r names [] h = tt
exports_are b c r names (e ∷ es) h = (exported_is b c r names e (left _ _ h), exports_are b c r names es (right _ _ h))

export_grows : Grows (Of ExportIs)
export_grows r n g e l k h = ids_grow r n g e.getter l k h

namespace_grows : Grows (Of namespace_lawful)
namespace_grows r n g x l k h = both (vars_grow r n g x.var l k (left _ _ h)) (all_grow ExportIs export_grows r n g x.exports l k (right _ _ h))

namespaces_are : (b : Bindings) (c : Context) (r : Round) (is_wanted : Bool) (x : Var) (names : ℕ) (es : List Entry) → nat_lt x.0 names ≡ true → list_all (entry_ends_well b names) es ≡ true → (s : Lowerer) → Stands b c r.hosts s → names ≤ size s → Made (AllOf namespace_lawful) b c r s (m.namespace_objects is_wanted x es b c s)
namespaces_are b c r false x names es d h s k l = stay (AllOf namespace_lawful) b c r s [] k refl
namespaces_are b c r true x names es d h s k l =
    let y = each_by m.exported es b c s in let p = each_with_is Above ExportIs b c r names above_grows export_grows m.exported es (exports_are b c r names es h) s k l in
    giving (AllOf ExportIs) (AllOf namespace_lawful) b c r s y (record { var = x; exports = y.0 } ∷ []) p (both (both (below_more x.0 names (size y.1) (let i = p.names in omega arith) d) p.lawful) refl)

-- ## The part of a module

namespace_names : (r : Round) (f : Namespace → ScopedName) → ((n : Namespace) → (f n).var ≡ n.var) → (ns : List Namespace) → list_all (namespace_lawful r) ns ≡ true → names_drawn (map f ns) r ≡ true
namespace_names r f e [] h = refl
namespace_names r f e (n ∷ ns) h = both (subst (λ (x : Var). nat_lt x.0 r.names ≡ true) (sym (e n)) (left _ _ (left (namespace_lawful r n) (list_all (namespace_lawful r) ns) h))) (namespace_names r f e ns (right (namespace_lawful r n) (list_all (namespace_lawful r) ns) h))

record PartsAre (r : Round) (p : m.ModuleParts) : Type 0 where
  names : names_drawn p.scope.names r ≡ true
  lexical : names_drawn p.scope.lexical r ≡ true
  functions : list_all (declared_lawful r) p.scope.functions ≡ true
  namespaces : list_all (namespace_lawful r) p.scope.namespaces ≡ true
  statements : AreLawful r p.statements

parts_are : (b : Bindings) (c : Context) (r : Round) (is_wanted : Bool) (x : Var) (names : ℕ) (es : List Entry) (l : Listed) → nat_lt x.0 names ≡ true → list_all (entry_ends_well b names) es ≡ true → Every (HoistedIs b c.home) l.functions → Makes AreLawful b c r l.statements → (s : Lowerer) → Stands b c r.hosts s → names ≤ size s
    → Made PartsAre b c r s (m.module_parts is_wanted x es l b c s)
parts_are b c r is_wanted x names es l d h f st s k above =
    let own = m.own_places l b c in
    let y = all_hoisted l.functions b c s in let p1 = all_hoisted_is b c r l.functions f s k in
    let z = m.namespace_objects is_wanted x es b c y.1 in let p2 = namespaces_are b c r is_wanted x names es d h y.1 p1.stands (let i = p1.names in omega arith) in
    let w = l.statements b c z.1 in let p3 = st z.1 p2.stands in let q = here w.1 r in
    let ns = later (AllOf namespace_lawful) AreLawful b c r z.1 z.0 w (all_grow namespace_lawful namespace_grows) p3 p2.lawful in
    let fs = later (AllOf declared_lawful) AreLawful b c r z.1 y.0 w (all_grow declared_lawful declared_grow) p3 (later (AllOf declared_lawful) (AllOf namespace_lawful) b c r y.1 y.0 z (all_grow declared_lawful declared_grow) p2 p1.lawful) in
    record {
      names = let a = p1.names in let e = p2.names in let g = p3.names in omega arith;
      functions = let a = p1.functions in let e = p2.functions in let g = p3.functions in omega arith;
      stands = p3.stands;
      lawful = record {
        names = list_both (λ (n : ScopedName). nat_lt n.var.0 q.names) (scoped_names own b c) _ (scopes_drawn b c r.hosts own q p3.stands.bindings) (namespace_names q _ (λ n. refl) z.0 ns);
        lexical = scopes_drawn b c r.hosts l.lexicals q p3.stands.bindings;
        functions = fs;
        namespaces = ns;
        statements = p3.lawful;
      };
    }

abbrev PartIs : Round → CorePart → Bool
PartIs r p = part_lawful r.names r.hosts r.functions p

part_grows : Grows (Of PartIs)
part_grows r n g p l k h =
    let q = round_part r.names r.hosts r.functions in
    both (both (scoped_grow q n g p.names l k (left _ _ (left _ _ h))) (stats_grown n g p.instantiate q l k (right _ _ (left _ _ h)))) (stats_grown n g p.body q l k (right _ _ h))

module_part_is : (b : Bindings) (c : Context) (hosts : ℕ) (is_entry is_wanted : Bool) (x : Var) (names : ℕ) (es : List Entry) (l : Listed) → nat_lt x.0 names ≡ true → list_all (entry_ends_well b names) es ≡ true → ListedIs b c (round_part 0 hosts 0) l → TargetsAre (round_part 0 hosts 0) None c.targets
    → (s : Lowerer) → Stands b c hosts s → names ≤ size s → Made (Of PartIs) b c (round_part 0 hosts 0) s (m.module_part is_entry is_wanted x es l b c s)
module_part_is b c hosts is_entry is_wanted x names es l d h i t s k above =
    let r = round_part 0 hosts 0 in let s0 = entered unseen s in
    let k0 : Stands b c hosts s0 = record { bindings = k.bindings; this = k.this; dead = k.dead; locals = refl; functions = k.functions } in
    let y = m.module_parts is_wanted x es l b c s0 in let p = parts_are b c r is_wanted x names es l d h i.functions (i.statements t) s0 k0 above in
    let k1 = goes_on b c hosts s y.1 s.seen k p.names p.stands.bindings p.stands.functions in let o = p.lawful in
    record {
      names = p.names;
      functions = p.functions;
      stands = k1;
      lawful = parts_are_lawful (size y.1) hosts (held y.1) is_entry y.0.scope y.0.statements y.1.names.locals o.names o.lexical o.functions o.namespaces o.statements p.stands.locals;
    }

-- ## The core of a graph

all_parts : (g : Graph) (t : Scopes) (b : Bindings) (hosts names n : ℕ) (ms : List LoadedModule) (es : List NamespaceEntries) → ModulesAre b hosts names n ms es → ((i : ℕ) → i < n + length ms → nat_lt (m.namespace_var t i).0 names ≡ true)
    → Every (λ a. (s : Lowerer) → Stands b (m.in_module 0) hosts s → Above (here s (round_part 0 hosts 0)) names → Made (Of PartIs) b (m.in_module 0) (round_part 0 hosts 0) s (a b (m.in_module 0) s)) (m.parts_from g t n ms es)
all_parts g t b hosts names n [] es h d = tt
all_parts g t b hosts names n (x ∷ ms) [] h d = tt
all_parts g t b hosts names n (x ∷ ms) (e ∷ es) h d = (
  λ s k above. let q = module_part_is b (m.in_module n) hosts (m.is_zero n) (m.is_wanted g.modules n) (m.namespace_var t n) names e.entries (m.module_listed x.tree) (d n (omega arith)) h.1 h.0 tt s k above in
      record { names = q.names; functions = q.functions; stands = q.stands; lawful = q.lawful },
  all_parts g t b hosts names (n + 1) ms es h.2 (λ i l. d i (let f : (n + 1) + length ms ≡ n + length (x ∷ ms) = omega arith in omega arith)),
)

pub hints_count : (ms : List ModuleScopes) → length (m.hints ms) ≡ sum_by (λ (x : ModuleScopes). length x.names) ms
hints_count [] = refl
hints_count (x ∷ ms) =
    let a = length-append (map (λ (y : Binding). Some y.name) x.names) (m.hints ms) in let d = length-map x.names (λ (y : Binding). Some y.name) in let e = hints_count ms in
    let f : sum_by (λ (y : ModuleScopes). length y.names) (x ∷ ms) ≡ length x.names + sum_by (λ (y : ModuleScopes). length y.names) ms = sum_by-cons (λ (y : ModuleScopes). length y.names) x ms in omega arith

pub space_drawn : (g : Graph) (t : Scopes) (i : ℕ) → i < 0 + length g.modules → nat_lt (m.namespace_var t i).0 (length (m.first_names g t).hints) ≡ true
space_drawn g t i l =
    let none : Option (List ℕ) = None in
    let a : length (m.first_names g t).hints ≡ length (m.hints t.modules.items) + length (replicate (length g.modules) none) = length-append (m.hints t.modules.items) (replicate (length g.modules) none) in
    let d : length (replicate (length g.modules) none) ≡ length g.modules = length-replicate (length g.modules) none in
    let e : length (m.hints t.modules.items) ≡ m.bindings_count t = hints_count t.modules.items in
    lt-ltb (m.bindings_count t + i) (length (m.first_names g t).hints) (omega arith)

pub lowered_is : (g : Graph) (t : Scopes) (es : List NamespaceEntries) (order : List ℕ) (hosts : ℕ) → (let names = length (m.first_names g t).hints in let b = m.bindings_of g t in BindingsAreDrawn b hosts names → ModulesAre b hosts names 0 g.modules es → CoreIs hosts (m.lowered g t es order))
lowered_is g t es order hosts drawn h =
    let names = length (m.first_names g t).hints in let b = m.bindings_of g t in let c = m.in_module 0 in let r = round_part 0 hosts 0 in let s = m.start g t in
    let k : Stands b c hosts s = record { bindings = drawn; this = refl; dead = refl; locals = refl; functions = refl } in
    let p = each_while_is Above PartIs b c r names above_grows part_grows (m.parts_from g t 0 g.modules es) (all_parts g t b hosts names 0 g.modules es h (space_drawn g t)) s k (omega arith) in
    (p.stands.functions, p.lawful)
