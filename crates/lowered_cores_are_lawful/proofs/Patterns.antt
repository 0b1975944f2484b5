-- Patterns, property names and members of object literals are lowered to lawful ones, where their parts are.
use Rattle.std.proofs.Common.{◌≡◌, ℕ, ◌≤◌, Bool, true, false, List, [], ◌∷◌, Option, None, Some, refl, arith}
use Rattle.es6_ast.specs.declared.tree.Identifier.{Identifier}
use Rattle.core_ast.specs.declared.parts.Var.{Var}
use Rattle.core_ast.specs.declared.tree.CoreExpr.{CoreExpr}
use Rattle.core_ast.specs.declared.tree.CoreStat.{CoreStat}
use Rattle.core_ast.specs.declared.tree.CoreStat.TheVariants as stat
use Rattle.std.proofs.lemmas.Bool.{lt-ltb}
use Rattle.lowering_rules.specs.Making.{set}
use Rattle.core_ast.specs.Lawful.{Round}
use Rattle.core_ast.specs.Made.{variable}
use Rattle.lawful_passes.proofs.Far.{do_is, variable_is}
use Rattle.lowering_laws.specs.InRound.{AreLawful, IsLawful, if_lawful}
use Rattle.lowering_laws.specs.Patterns.{array_part_lawful, member_lawful, object_part_lawful, property_lawful, target_lawful}
use Rattle.lowering_laws.specs.Statements.{IterationIsDrawn}
use Rattle.lowering_laws.proofs.Patterns.{array_patterns_are_lawful, assigned_targets_are_lawful, declared_targets_are_lawful, member_targets_are_lawful, object_patterns_are_lawful}
use Rattle.lowering_laws.proofs.References.{assignments_are_lawful, members_are_lawful}
use Rattle.lowering_laws.proofs.Statements.{initialize_is, set_is}
use Rattle.lowering_rules.specs.Naming.{drawn_iteration, with_temporary}
use Rattle.lowering_rules.specs.declared.naming.Iteration.{Iteration}
use Rattle.lowering_rules.specs.declared.patterns.ArrayPart.{ArrayPart}
use Rattle.lowering_rules.specs.declared.patterns.ArrayPart.TheVariants.{Element, Elision, Rest}
use Rattle.lowering_rules.specs.declared.patterns.MemberTarget.{MemberTarget}
use Rattle.lowering_rules.specs.declared.patterns.ObjectPart.{ObjectPart}
use Rattle.lowering_rules.specs.declared.patterns.PropertyName.{PropertyName}
use Rattle.lowering_rules.specs.declared.patterns.PropertyName.TheVariants.{Computed, Iterator, Literal}
use Rattle.lowering_rules.specs.declared.patterns.VariableTarget.{VariableTarget}
use Rattle.lowering_rules.specs.declared.reference_rules.references.Reached.{Reached}
use Rattle.lowering_rules.specs.declared.reference_rules.references.Reached.TheVariants.{Inherited, Property, Value, Variable}
use Rattle.lowering_rules.specs.reference_rules.References as references
use Rattle.lowering_rules.specs.Patterns as p
use Rattle.module_lowering.specs.Bindings.{Bindings, declared_var}
use Rattle.module_lowering.specs.Lowering.{Lowering, drawing, each_by, option, temporary}
use Rattle.module_lowering.specs.Names.{name_lowered, name_target}
use Rattle.module_lowering.specs.Nodes.{ArrayParted, Form, MemberForm, NameForm, ObjectParted, PartsForm}
use Rattle.module_lowering.specs.Patterns as m
use Rattle.module_lowering.specs.declared.context.Context.{Context}
use Rattle.module_lowering.specs.declared.context.Role.{Role}
use Rattle.module_lowering.specs.declared.context.Role.TheVariants.{Assigns, Initializes, Sets}
use Rattle.module_lowering.specs.declared.lowerer.Lowerer.{Lowerer}
use Rattle.pass_rules.proofs.pass_laws.Within.{left, right, both}
use Rattle.lowered_cores_are_lawful.specs.Nodes.{ArrayPartedIs, FormIs, ObjectPartedIs, PatternedIs, ReachedIs, ValueMakes, VarIs}
use Rattle.lowered_cores_are_lawful.specs.Standing.{AllOf, Every, IfOf, IfThere, Made, Makes, Of, Stands, here}
use Rattle.lowered_cores_are_lawful.proofs.Drawing.{assigned_more, drawn_member_more, iteration_more}
use Rattle.lowered_cores_are_lawful.proofs.Grown.{grown}
use Rattle.lowered_cores_are_lawful.proofs.Making.{Grows, after, below_more, drawing_is, each_with_is, exprs_grow, giving, hint_more, if_grow, later, newest, option_is, stats_both, stats_grow, stay, temporary_is, vars_grow}
use Rattle.lowered_cores_are_lawful.proofs.Naming.{declared_is, target_is}

-- ## What a value goes to, in a variable

pub property_grows : (q : Round) (n g : ℕ) (x : PropertyName) → q.names ≤ n → q.functions ≤ g → property_lawful q x ≡ true → property_lawful (grown n g q) x ≡ true
property_grows q n g (Literal key) l k h = h
property_grows q n g (Computed kept key) l k h = both (vars_grow q n g kept l k (left _ _ h)) (exprs_grow q n g key l k (right _ _ h))
property_grows q n g Iterator l k h = refl

pub target_grows : Grows (Of target_lawful)
target_grows q n g t l k h = both (both (stats_grow q n g t.before l k (left _ _ (left _ _ h))) (if_grow q n g t.default l k (right _ _ (left _ _ h)))) (stats_grow q n g t.after l k (right _ _ h))

if_is : (q : Round) (d : Option CoreExpr) → IfOf IsLawful q d → if_lawful d q ≡ true
if_is q None h = refl
if_is q (Some d) h = h

name_taken_is : (b : Bindings) (c : Context) (r : Round) (x : Identifier) (role : Role) (d : Option (Lowering CoreExpr)) → IfThere (ValueMakes b c r) d → (v : Var) (s : Lowerer) → Stands b c r.hosts s → VarIs (here s r) v → Made (Of target_lawful) b c r s (m.name_taken x role d v b c s)
name_taken_is b c r x Assigns d h v s k w =
    let T : Round → VariableTarget → Type 0 = λ q t. VarIs q t.var in
    let t = name_target x b c s in let i = target_is b c r x s k in let e = option d b c t.1 in let j = option_is IsLawful b c r d h t.1 i.stands in
    after T (Of target_lawful) b c r s t _ i (giving (IfOf IsLawful) (Of target_lawful) b c r t.1 e (p.assigned_target t.0 e.0 v) j
    (assigned_targets_are_lawful (here e.1 r) t.0 e.0 v (later VarIs (IfOf IsLawful) b c r t.1 t.0.var e vars_grow j i.lawful) (if_is (here e.1 r) e.0 j.lawful) (later VarIs (IfOf IsLawful) b c r t.1 v e vars_grow j (later VarIs T b c r s v t vars_grow i w))))
name_taken_is b c r x Initializes d h v s k w =
    let y = declared_var b c x.span.begin in let i = declared_is b c r x.span.begin s k in let e = option d b c s in let j = option_is IsLawful b c r d h s k in
    giving (IfOf IsLawful) (Of target_lawful) b c r s e (p.declared_target y e.0 v) j
    (declared_targets_are_lawful (here e.1 r) y e.0 v (later VarIs (IfOf IsLawful) b c r s y e vars_grow j i.lawful) (if_is (here e.1 r) e.0 j.lawful) (later VarIs (IfOf IsLawful) b c r s v e vars_grow j w))
name_taken_is b c r x Sets d h v s k w =
    let y = declared_var b c x.span.begin in let i = declared_is b c r x.span.begin s k in let e = option d b c s in let j = option_is IsLawful b c r d h s k in
    giving (IfOf IsLawful) (Of target_lawful) b c r s e (p.assigned_target (record { var = y; checked = false; constant = false }) e.0 v) j
    (assigned_targets_are_lawful (here e.1 r) (record { var = y; checked = false; constant = false }) e.0 v (later VarIs (IfOf IsLawful) b c r s y e vars_grow j i.lawful) (if_is (here e.1 r) e.0 j.lawful) (later VarIs (IfOf IsLawful) b c r s v e vars_grow j w))

-- a property, if it is one
abbrev MemberIs : Round → Option MemberTarget → Type 0
MemberIs q t = IfOf (Of member_lawful) q t

member_grows : Grows MemberIs
member_grows q n g None l k h = tt
member_grows q n g (Some t) l k h = both (both (vars_grow q n g t.base l k (left _ _ (left _ _ h))) (exprs_grow q n g t.object l k (right _ _ (left _ _ h)))) (property_grows q n g t.name l k (right _ _ h))

member_by : (b : Bindings) (c : Context) (r : Round) (x : Reached) (s : Lowerer) → Stands b c r.hosts s → ReachedIs (here s r) x → Made MemberIs b c r s (drawing (m.member_reached x) b c s)
member_by b c r (Value x) s k h = stay MemberIs b c r s None k tt
member_by b c r (Variable t imported) s k h = stay MemberIs b c r s None k tt
member_by b c r (Property object name) s k h = drawing_is MemberIs b c r (m.member_reached (Property object name)) s k (drawn_member_more object name s.names) (members_are_lawful (here s r) object name s.names (left _ _ h) (right _ _ h))
member_by b c r (Inherited x this) s k h = stay MemberIs b c r s None k tt

member_or_none_is : (q : Round) (t : Option MemberTarget) (d : Option CoreExpr) (v : Var) → MemberIs q t → if_lawful d q ≡ true → VarIs q v → target_lawful q (m.member_or_none t d v) ≡ true
member_or_none_is q None d v h k w = both (both refl k) refl
member_or_none_is q (Some t) d v h k w = member_targets_are_lawful q t d v h k w

member_taken_is : (b : Bindings) (c : Context) (r : Round) (reached : Lowering Reached) → Makes ReachedIs b c r reached → (d : Option (Lowering CoreExpr)) → IfThere (ValueMakes b c r) d → (v : Var) (s : Lowerer) → Stands b c r.hosts s → VarIs (here s r) v → Made (Of target_lawful) b c r s (m.member_taken reached d v b c s)
member_taken_is b c r reached f d h v s k w =
    let x = reached b c s in let i = f s k in
    let t = drawing (m.member_reached x.0) b c x.1 in let j = member_by b c r x.0 x.1 i.stands i.lawful in
    let e = option d b c t.1 in let o = option_is IsLawful b c r d h t.1 j.stands in
    after ReachedIs (Of target_lawful) b c r s x _ i (after MemberIs (Of target_lawful) b c r x.1 t _ j (giving (IfOf IsLawful) (Of target_lawful) b c r t.1 e (m.member_or_none t.0 e.0 v) o
    (member_or_none_is (here e.1 r) t.0 e.0 v (later MemberIs (IfOf IsLawful) b c r t.1 t.0 e member_grows o j.lawful) (if_is (here e.1 r) e.0 o.lawful)
    (later VarIs (IfOf IsLawful) b c r t.1 v e vars_grow o (later VarIs MemberIs b c r x.1 v t vars_grow j (later VarIs ReachedIs b c r s v x vars_grow i w))))))

form_taken_is : (b : Bindings) (c : Context) (r : Round) (form : Form) → FormIs b c r form → (role : Role) (d : Option (Lowering CoreExpr)) → IfThere (ValueMakes b c r) d → (v : Var) (s : Lowerer) → Stands b c r.hosts s → VarIs (here s r) v → Made (Of target_lawful) b c r s (m.form_taken form role d v b c s)
form_taken_is b c r (NameForm x) f role d h v s k w = name_taken_is b c r x role d h v s k w
form_taken_is b c r (MemberForm reached) f role d h v s k w = member_taken_is b c r reached f d h v s k w
form_taken_is b c r PartsForm f role d h v s k w = stay (Of target_lawful) b c r s (m.put_nowhere None v) k refl

-- ## A value that goes to a name, or to what isn't a part

name_bound_is : (b : Bindings) (c : Context) (r : Round) (x : Identifier) → Makes ReachedIs b c r (name_lowered x) → (role : Role) (e : CoreExpr) (s : Lowerer) → Stands b c r.hosts s → IsLawful (here s r) e → Made AreLawful b c r s (m.name_bound x role e b c s)
name_bound_is b c r x f Assigns e s k h =
    let y = name_lowered x b c s in let i = f s k in
    let z = drawing (references.assigned y.0 e) b c y.1 in
    let j = drawing_is IsLawful b c r (references.assigned y.0 e) y.1 i.stands (assigned_more y.0 e y.1.names) (assignments_are_lawful (here y.1 r) y.0 e y.1.names i.lawful (later IsLawful ReachedIs b c r s e y exprs_grow i h)) in
    after ReachedIs AreLawful b c r s y _ i (giving IsLawful AreLawful b c r y.1 z (stat.Do z.0 ∷ []) j (both (do_is (here z.1 r) z.0 j.lawful) refl))
name_bound_is b c r x f Initializes e s k h = stay AreLawful b c r s _ k (both (initialize_is (here s r) (declared_var b c x.span.begin) e (declared_is b c r x.span.begin s k).lawful h) refl)
name_bound_is b c r x f Sets e s k h = stay AreLawful b c r s _ k (both (set_is (here s r) (declared_var b c x.span.begin) e (declared_is b c r x.span.begin s k).lawful h) refl)

member_bound_is : (b : Bindings) (c : Context) (r : Round) (reached : Lowering Reached) → Makes ReachedIs b c r reached → (e : CoreExpr) (s : Lowerer) → Stands b c r.hosts s → IsLawful (here s r) e → Made AreLawful b c r s (m.member_bound reached e b c s)
member_bound_is b c r reached f e s k h =
    let v = temporary b c s in let i = temporary_is b c r s k in
    let t = m.member_taken reached None v.0 b c v.1 in let j = member_taken_is b c r reached f None tt v.0 v.1 i.stands i.lawful in let l = j.lawful in
    let e1 = later IsLawful (Of target_lawful) b c r v.1 e t exprs_grow j (later IsLawful VarIs b c r s e v exprs_grow i h) in
    let v1 = later VarIs (Of target_lawful) b c r v.1 v.0 t vars_grow j i.lawful in
    after VarIs AreLawful b c r s v _ i (giving (Of target_lawful) AreLawful b c r v.1 t (m.target_statements v.0 e t.0) j
    (stats_both (here t.1 r) t.0.before _ (left _ _ (left _ _ l)) (both (set_is (here t.1 r) v.0 e v1 e1) (right _ _ l))))

form_bound_is : (b : Bindings) (c : Context) (r : Round) (form : Form) → FormIs b c r form → (role : Role) (e : CoreExpr) (s : Lowerer) → Stands b c r.hosts s → IsLawful (here s r) e → Made AreLawful b c r s (m.form_bound form role e b c s)
form_bound_is b c r (NameForm x) f role e s k h = name_bound_is b c r x f role e s k h
form_bound_is b c r (MemberForm reached) f role e s k h = member_bound_is b c r reached f e s k h
form_bound_is b c r PartsForm f role e s k h = stay AreLawful b c r s [] k refl

pub one_target_is : (b : Bindings) (c : Context) (r : Round) (x : Option Identifier) (form : Form) → FormIs b c r form → PatternedIs b c r (m.one_target x form)
one_target_is b c r x form f = record { form = f; taken = form_taken_is b c r form f; bound = form_bound_is b c r form f }

-- ## Patterns with parts

object_part_grows : Grows (Of object_part_lawful)
object_part_grows q n g x l k h = both (property_grows q n g x.name l k (left _ _ h)) (target_grows q n g x.target l k (right _ _ h))

array_part_grows : Grows (Of array_part_lawful)
array_part_grows q n g Elision l k h = refl
array_part_grows q n g (Element t) l k h = target_grows q n g t l k h
array_part_grows q n g (Rest t) l k h = target_grows q n g t l k h

pub iteration_grows : Grows IterationIsDrawn
iteration_grows q n g i l k h = (below_more i.iterator.0 q.names n l h.0, below_more i.is_open.0 q.names n l h.1, below_more i.result.0 q.names n l h.2, below_more i.value.0 q.names n l h.3, below_more i.thrown.0 q.names n l h.4)

pub iteration_is : (b : Bindings) (c : Context) (r : Round) → Makes IterationIsDrawn b c r (drawing drawn_iteration)
iteration_is b c r s k =
    let n = s.names in let n1 = with_temporary n in let n2 = with_temporary n1 in let n3 = with_temporary n2 in let n4 = with_temporary n3 in
    let a = hint_more n in let d = hint_more n1 in let e = hint_more n2 in let f = hint_more n3 in let g = hint_more n4 in
    drawing_is IterationIsDrawn b c r drawn_iteration s k (iteration_more n)
    (lt-ltb _ _ (omega arith), lt-ltb _ _ (omega arith), lt-ltb _ _ (omega arith), lt-ltb _ _ (omega arith), newest n4)

object_parts : (b : Bindings) (c : Context) (r : Round) (role : Role) (v : Var) (ps : List ObjectParted) → Every (ObjectPartedIs b c r) ps → Every (λ x. (s : Lowerer) → Stands b c r.hosts s → VarIs (here s r) v → Made (Of object_part_lawful) b c r s (x.lowered role v b c s)) ps
object_parts b c r role v [] h = tt
object_parts b c r role v (x ∷ ps) h = (h.0 role v, object_parts b c r role v ps h.1)

array_parts : (b : Bindings) (c : Context) (r : Round) (role : Role) (i : Iteration) (ps : List ArrayParted) → Every (ArrayPartedIs b c r) ps → Every (λ x. (s : Lowerer) → Stands b c r.hosts s → IterationIsDrawn (here s r) i → Made (Of array_part_lawful) b c r s (x.lowered role i b c s)) ps
array_parts b c r role i [] h = tt
array_parts b c r role i (x ∷ ps) h = (h.0 role i, array_parts b c r role i ps h.1)

object_bound_is : (b : Bindings) (c : Context) (r : Round) (ps : List ObjectParted) → Every (ObjectPartedIs b c r) ps → (role : Role) (e : CoreExpr) (s : Lowerer) → Stands b c r.hosts s → IsLawful (here s r) e → Made AreLawful b c r s (m.object_bound ps role e b c s)
object_bound_is b c r ps d role e s k h =
    let x = temporary b c s in let i = temporary_is b c r s k in let v = temporary b c x.1 in let j = temporary_is b c r x.1 i.stands in
    let f : ObjectParted → Lowering ObjectPart = λ p. p.lowered role v.0 in
    let z = each_by f ps b c v.1 in let q = each_with_is VarIs object_part_lawful b c r v.0 vars_grow object_part_grows f ps (object_parts b c r role v.0 ps d) v.1 j.stands j.lawful in
    let x1 = later VarIs (AllOf object_part_lawful) b c r v.1 x.0 z vars_grow q (later VarIs VarIs b c r x.1 x.0 v vars_grow j i.lawful) in
    let e1 = later IsLawful (AllOf object_part_lawful) b c r v.1 e z exprs_grow q (later IsLawful VarIs b c r x.1 e v exprs_grow j (later IsLawful VarIs b c r s e x exprs_grow i h)) in
    let v1 = later VarIs (AllOf object_part_lawful) b c r v.1 v.0 z vars_grow q j.lawful in
    after VarIs AreLawful b c r s x _ i (after VarIs AreLawful b c r x.1 v _ j (giving (AllOf object_part_lawful) AreLawful b c r v.1 z (set x.0 e ∷ p.object_pattern x.0 v.0 z.0) q
    (both (set_is (here z.1 r) x.0 e x1 e1) (object_patterns_are_lawful (here z.1 r) x.0 v.0 z.0 x1 v1 q.lawful))))

array_bound_is : (b : Bindings) (c : Context) (r : Round) (ps : List ArrayParted) → Every (ArrayPartedIs b c r) ps → (role : Role) (e : CoreExpr) (s : Lowerer) → Stands b c r.hosts s → IsLawful (here s r) e → Made AreLawful b c r s (m.array_bound ps role e b c s)
array_bound_is b c r ps d role e s k h =
    let x = drawing drawn_iteration b c s in let i = iteration_is b c r s k in
    let f : ArrayParted → Lowering ArrayPart = λ p. p.lowered role x.0 in
    let z = each_by f ps b c x.1 in let q = each_with_is IterationIsDrawn array_part_lawful b c r x.0 iteration_grows array_part_grows f ps (array_parts b c r role x.0 ps d) x.1 i.stands i.lawful in
    let e1 = later IsLawful (AllOf array_part_lawful) b c r x.1 e z exprs_grow q (later IsLawful IterationIsDrawn b c r s e x exprs_grow i h) in
    after IterationIsDrawn AreLawful b c r s x _ i (giving (AllOf array_part_lawful) AreLawful b c r x.1 z (p.array_pattern x.0 e z.0) q
    (array_patterns_are_lawful (here z.1 r) x.0 e z.0 (later IterationIsDrawn (AllOf array_part_lawful) b c r x.1 x.0 z iteration_grows q i.lawful) e1 q.lawful))

parts_taken_is : (b : Bindings) (c : Context) (r : Round) (bound : CoreExpr → Lowering (List CoreStat)) → ((e : CoreExpr) (s : Lowerer) → Stands b c r.hosts s → IsLawful (here s r) e → Made AreLawful b c r s (bound e b c s))
    → (d : Option (Lowering CoreExpr)) → IfThere (ValueMakes b c r) d → (v : Var) (s : Lowerer) → Stands b c r.hosts s → VarIs (here s r) v → Made (Of target_lawful) b c r s (m.parts_taken bound d v b c s)
parts_taken_is b c r bound f d h v s k w =
    let e = option d b c s in let i = option_is IsLawful b c r d h s k in
    let z = bound (variable v) b c e.1 in let q = f (variable v) e.1 i.stands (variable_is (here e.1 r) v (later VarIs (IfOf IsLawful) b c r s v e vars_grow i w)) in
    let T : Round → Option CoreExpr → Type 0 = Of (λ p x. if_lawful x p) in
    after (IfOf IsLawful) (Of target_lawful) b c r s e _ i (giving AreLawful (Of target_lawful) b c r e.1 z (record { before = []; default = e.0; after = z.0 }) q
    (both (both refl (later T AreLawful b c r e.1 e.0 z if_grow q (if_is (here e.1 r) e.0 i.lawful))) q.lawful))

pub object_pattern_is : (b : Bindings) (c : Context) (r : Round) (names : List Identifier) (has_expression : Bool) (ps : List ObjectParted) → Every (ObjectPartedIs b c r) ps → PatternedIs b c r (m.with_parts names has_expression (m.object_bound ps))
object_pattern_is b c r names has ps d = record { form = tt; taken = λ role. parts_taken_is b c r (m.object_bound ps role) (object_bound_is b c r ps d role); bound = object_bound_is b c r ps d }

pub array_pattern_is : (b : Bindings) (c : Context) (r : Round) (names : List Identifier) (has_expression : Bool) (ps : List ArrayParted) → Every (ArrayPartedIs b c r) ps → PatternedIs b c r (m.with_parts names has_expression (m.array_bound ps))
array_pattern_is b c r names has ps d = record { form = tt; taken = λ role. parts_taken_is b c r (m.array_bound ps role) (array_bound_is b c r ps d role); bound = array_bound_is b c r ps d }
