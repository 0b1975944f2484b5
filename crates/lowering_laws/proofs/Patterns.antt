-- Patterns of lawful parts are lawful.
use Rattle.std.specs.List.{flat_map, list_all}
use Rattle.std.proofs.Common.{◌≡◌, ℕ, true, false, List, [], ◌∷◌, ◌++◌, Option, None, Some, refl}
use Rattle.core_ast.specs.declared.parts.Binary.TheVariants.{NotSame, Same}
use Rattle.core_ast.specs.declared.parts.CoreHead.TheVariants as head
use Rattle.core_ast.specs.declared.parts.CoreOp.TheVariants as op
use Rattle.core_ast.specs.declared.parts.Key.{Key}
use Rattle.core_ast.specs.declared.parts.Key.TheVariants.{TextKey}
use Rattle.core_ast.specs.declared.parts.Primitive.TheVariants.{CheckReady, IterStart, IterValue, RefuseConst, ToText}
use Rattle.core_ast.specs.declared.parts.Var.{Var}
use Rattle.core_ast.specs.declared.tree.CoreExpr.{CoreExpr}
use Rattle.core_ast.specs.declared.tree.CoreStat.{CoreStat}
use Rattle.core_ast.specs.declared.tree.CoreStat.TheVariants as stat
use Rattle.core_ast.specs.Lawful as lawful
use Rattle.core_ast.specs.Lawful.{Named, Plain, Property, Round}
use Rattle.core_ast.specs.Made.{act, acting, linked, undefined, variable}
use Rattle.lawful_passes.proofs.Far.{Are, Is, SoFar, act_far, acting_far, do_is, done_is, joined, number_is, variable_is, when_is}
use Rattle.lawful_passes.proofs.Spilling.{Sound}
use Rattle.lawful_passes.proofs.Stepping.{sound_whole}
use Rattle.lowering_laws.specs.InRound.{Drawn, IsLawfulIfThere}
use Rattle.lowering_laws.specs.Patterns.{ArrayPatternsAreLawful, AssignedTargetsAreLawful, DeclaredTargetsAreLawful, MemberTargetsAreLawful, ObjectPatternsAreLawful, array_part_lawful, object_part_lawful, property_lawful, target_lawful}
use Rattle.lowering_laws.specs.Statements.{IterationIsDrawn}
use Rattle.lowering_laws.proofs.Expressions.{acted, behind, list_is, plainly}
use Rattle.lowering_laws.proofs.Statements.{closing_is, flag_is, initialize_is, loop_is, set_is, stepped_is, undefined_is}
use Rattle.lowering_rules.specs.Iteration as i
use Rattle.lowering_rules.specs.Making.{defaulted, flag, number, primitive, set, two}
use Rattle.lowering_rules.specs.Patterns as p
use Rattle.lowering_rules.specs.declared.naming.Iteration.{Iteration}
use Rattle.lowering_rules.specs.declared.patterns.ArrayPart.{ArrayPart}
use Rattle.lowering_rules.specs.declared.patterns.ArrayPart.TheVariants.{Element, Elision, Rest}
use Rattle.lowering_rules.specs.declared.patterns.ObjectPart.{ObjectPart}
use Rattle.lowering_rules.specs.declared.patterns.PropertyName.{PropertyName}
use Rattle.lowering_rules.specs.declared.patterns.PropertyName.TheVariants.{Computed, Iterator, Literal}
use Rattle.lowering_rules.specs.declared.patterns.VariableTarget.{VariableTarget}
use Rattle.pass_rules.proofs.pass_laws.Within.{left, right, both, either}

-- ## Properties: references to which something may be done

pub name_far : (r : Round) (x : CoreExpr) (key : Key) → Sound r x → lawful.key_lawful key ≡ true → SoFar r Property 1 (p.at_name x key)
name_far r x key h k = let w = sound_whole r x h in act_far r w.at 1 (op.Member key) x (plainly w.at w.plain) refl k w.far

pub index_far : (r : Round) (x key : CoreExpr) → Sound r x → Sound r key → SoFar r Property 1 (linked x (acting op.Index key))
index_far r x key h k = let w = sound_whole r x h in acting_far r w.at 1 op.Index key x (plainly w.at w.plain) refl refl k w.far

pub property_sound : (r : Round) (x : CoreExpr) → SoFar r Property 1 x → Sound r x
property_sound r x h = done_is r Property x h refl

pub started_is : (r : Round) (x : CoreExpr) (n : ℕ) → lawful.is_safe n ≡ true → Sound r x → Sound r (linked x (acting (op.Primitive IterStart) (number n)))
started_is r x n k h = behind r (op.Primitive IterStart) (number n ∷ []) x plainly refl refl refl (both (number_is r n k) refl) h

pub member_far : (r : Round) (base : Var) (name : PropertyName) → Drawn r base → property_lawful r name ≡ true → SoFar r Property 1 (p.member_at base name)
unfolding p.member_at
member_far r base (Literal key) d h = name_far r (variable base) key (variable_is r base d) h
member_far r base (Computed kept key) d h = index_far r (variable base) (variable kept) (variable_is r base d) (variable_is r kept (left _ _ h))
member_far r base Iterator d h = name_far r (variable base) (TextKey p.iterator_name) (variable_is r base d) refl

pub read_is : (r : Round) (x : Var) (name : PropertyName) → Drawn r x → property_lawful r name ≡ true → Sound r (p.property_read x name)
unfolding p.property_read
read_is r x (Literal key) d h = property_sound r _ (name_far r (variable x) key (variable_is r x d) h)
read_is r x (Computed kept key) d h = property_sound r _ (index_far r (variable x) (variable kept) (variable_is r x d) (variable_is r kept (left _ _ h)))
read_is r x Iterator d h = started_is r (variable x) 1 refl (variable_is r x d)

pub put_is : (r : Round) (x e : CoreExpr) → SoFar r Property 1 x → Sound r e → Sound r (linked x (acting op.Put e))
put_is r x e h k = done_is r Plain _ (acting_far r Property 1 op.Put e x refl refl refl k h) refl

pub to_text_is : (r : Round) (x : CoreExpr) → Sound r x → Sound r (linked x (act (op.Primitive ToText)))
to_text_is r x h = acted r (op.Primitive ToText) x plainly refl refl refl h

base_check_is : (r : Round) (x : Var) → Drawn r x → Is r (p.base_check x)
base_check_is r x d = do_is r _ (property_sound r _ (name_far r (variable x) (TextKey p.base_name) (variable_is r x d) refl))

-- ## Targets

pub defaulted_are : (r : Round) (x : Var) (default : Option CoreExpr) → Drawn r x → IsLawfulIfThere r default → Are r (defaulted x default)
unfolding defaulted
defaulted_are r x None d h = refl
defaulted_are r x (Some e) d h = both (when_is r _ _ (behind r (op.Operator Same) (undefined ∷ []) (variable x) plainly refl refl refl (both (undefined_is r) refl) (variable_is r x d)) (both (set_is r x e d h) refl)) refl

pub declared_targets_are_lawful : DeclaredTargetsAreLawful
declared_targets_are_lawful r x default v d h e = both (both refl h) (both (initialize_is r x (variable v) d (variable_is r v e)) refl)

pub refused_is : (r : Round) → Sound r (primitive RefuseConst)
refused_is r = list_is r (head.Primitive RefuseConst) [] refl refl tt

checked_are : (r : Round) (t : VariableTarget) → Drawn r t.var → Are r (p.name_checked t)
checked_are r t d = either (Are r) t.checked {x = stat.Do (linked (variable t.var) (act (op.Primitive CheckReady))) ∷ []} {y = []} (both (do_is r _ (acted r (op.Primitive CheckReady) (variable t.var) plainly refl refl refl (variable_is r t.var d))) refl) refl

pub assigned_targets_are_lawful : AssignedTargetsAreLawful
assigned_targets_are_lawful r t default v d h e = both (both refl h) (joined r (p.name_checked t) (p.name_put t v ∷ []) (checked_are r t d)
    (both (either (Is r) t.constant {x = stat.Do (primitive RefuseConst)} {y = set t.var (variable v)} (do_is r _ (refused_is r)) (set_is r t.var (variable v) d (variable_is r v e))) refl))

found_are : (r : Round) (base : Var) (name : PropertyName) → Drawn r base → property_lawful r name ≡ true → Are r (p.member_found base name)
unfolding p.member_found
found_are r base (Literal key) d h = both (base_check_is r base d) refl
found_are r base (Computed kept key) d h = both (set_is r kept key (left _ _ h) (right _ _ h)) (both (base_check_is r base d) (both (set_is r kept _ (left _ _ h) (to_text_is r (variable kept) (variable_is r kept (left _ _ h)))) refl))
found_are r base Iterator d h = both (base_check_is r base d) refl

pub member_targets_are_lawful : MemberTargetsAreLawful
member_targets_are_lawful r t default v h k e =
    let base = left _ _ (left _ _ h) in
    both (both (both (set_is r t.base t.object base (right _ _ (left _ _ h))) (found_are r t.base t.name base (right _ _ h))) k)
    (both (do_is r _ (put_is r _ (variable v) (member_far r t.base t.name base (right _ _ h)) (variable_is r v e))) refl)

-- ## Object patterns

kept_are : (r : Round) (name : PropertyName) → property_lawful r name ≡ true → Are r (p.name_kept name)
unfolding p.name_kept
kept_are r (Literal key) h = refl
kept_are r (Computed kept key) h = both (set_is r kept _ (left _ _ h) (to_text_is r key (right _ _ h))) refl
kept_are r Iterator h = refl

object_part_are : (r : Round) (s v : Var) (q : ObjectPart) → Drawn r s → Drawn r v → object_part_lawful r q ≡ true → Are r (p.object_part s v q)
object_part_are r s v q d e h =
    let target = right (property_lawful r q.name) (target_lawful r q.target) h in let name = left (property_lawful r q.name) (target_lawful r q.target) h in
    let front = p.name_kept q.name ++ q.target.before in let taken = set v (p.property_read s q.name) ∷ defaulted v q.target.default in
    joined r (front ++ taken) q.target.after (joined r front taken (joined r (p.name_kept q.name) q.target.before (kept_are r q.name name) (left _ _ (left _ _ target)))
    (both (set_is r v _ e (read_is r s q.name d name)) (defaulted_are r v q.target.default e (right _ _ (left _ _ target))))) (right _ _ target)

object_parts_are : (r : Round) (s v : Var) (parts : List ObjectPart) → Drawn r s → Drawn r v → list_all (object_part_lawful r) parts ≡ true → Are r (flat_map (p.object_part s v) parts)
object_parts_are r s v [] d e h = refl
object_parts_are r s v (q ∷ parts) d e h = joined r (p.object_part s v q) (flat_map (p.object_part s v) parts) (object_part_are r s v q d e (left _ _ h)) (object_parts_are r s v parts d e (right _ _ h))

pub object_patterns_are_lawful : ObjectPatternsAreLawful
object_patterns_are_lawful r s v parts d e h = both (base_check_is r s d) (object_parts_are r s v parts d e h)

-- ## Array patterns

one_more : (r : Round) (xs : List CoreStat) (x : CoreStat) → Are r xs → Is r x → Are r (xs ++ x ∷ [])
one_more r xs x h k = joined r xs (x ∷ []) h (both k refl)

step_then_are : (r : Round) (q : Iteration) (body : List CoreStat) → IterationIsDrawn r q → Are r body → Are r (p.step_then q body)
step_then_are r q body d h = both (set_is r q.is_open (flag false) d.1 (flag_is r false)) (both (do_is r _ (stepped_is r q d)) (both (when_is r _ _
    (behind r (op.Operator NotSame) (flag false ∷ []) (variable q.result) plainly refl refl refl (both (flag_is r false) refl) (variable_is r q.result d.2)) (one_more r body _ h (set_is r q.is_open (flag true) d.1 (flag_is r true)))) refl))

value_is : (r : Round) (q : Iteration) → IterationIsDrawn r q → Sound r (i.value_of q)
value_is r q d = acted r (op.Primitive IterValue) (variable q.result) plainly refl refl refl (variable_is r q.result d.2)

open_is : (r : Round) (q : Iteration) → IterationIsDrawn r q → Sound r (variable q.is_open)
open_is r q d = variable_is r q.is_open d.1

element_are : (r : Round) (q : Iteration) → IterationIsDrawn r q → Are r (p.element_taken q)
element_are r q d = both (set_is r q.value undefined d.3 (undefined_is r)) (both (when_is r _ _ (open_is r q d) (step_then_are r q (set q.value (i.value_of q) ∷ []) d (both (set_is r q.value _ d.3 (value_is r q d)) refl))) refl)

rest_are : (r : Round) (q : Iteration) → IterationIsDrawn r q → Are r (p.rest_taken q)
rest_are r q d = both (set_is r q.value _ d.3 (list_is r head.ArrayList [] refl refl tt)) (both (loop_is r [] (Some (variable q.is_open)) None _ refl (open_is r q d) refl
    (step_then_are (lawful.in_loop [] r) q (stat.Do (two (variable q.value) op.Element (i.value_of q)) ∷ []) d (both (do_is (lawful.in_loop [] r) _ (behind (lawful.in_loop [] r) op.Element (i.value_of q ∷ []) (variable q.value) plainly refl refl refl (both (value_is (lawful.in_loop [] r) q d) refl) (variable_is (lawful.in_loop [] r) q.value d.3))) refl))) refl)

array_part_are : (r : Round) (q : Iteration) (x : ArrayPart) → IterationIsDrawn r q → array_part_lawful r x ≡ true → Are r (p.array_part q x)
unfolding p.array_part
array_part_are r q Elision d h = both (when_is r _ _ (open_is r q d) (step_then_are r q [] d refl)) refl
array_part_are r q (Element t) d h =
    joined r _ t.after (joined r _ (defaulted q.value t.default) (joined r t.before (p.element_taken q) (left _ _ (left _ _ h)) (element_are r q d)) (defaulted_are r q.value t.default d.3 (right _ _ (left _ _ h)))) (right _ _ h)
array_part_are r q (Rest t) d h = joined r _ t.after (joined r t.before (p.rest_taken q) (left _ _ (left _ _ h)) (rest_are r q d)) (right _ _ h)

array_parts_are : (r : Round) (q : Iteration) (parts : List ArrayPart) → IterationIsDrawn r q → list_all (array_part_lawful r) parts ≡ true → Are r (flat_map (p.array_part q) parts)
array_parts_are r q [] d h = refl
array_parts_are r q (x ∷ parts) d h = joined r (p.array_part q x) (flat_map (p.array_part q) parts) (array_part_are r q x d (left _ _ h)) (array_parts_are r q parts d (right _ _ h))

pub array_patterns_are_lawful : ArrayPatternsAreLawful
array_patterns_are_lawful r q subject parts d h k = both (set_is r q.iterator _ d.0 (started_is r subject 0 refl h)) (both (set_is r q.is_open (flag true) d.1 (flag_is r true)) (both (closing_is r q _ d (array_parts_are r q parts d k)) refl))
