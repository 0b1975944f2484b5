-- What is done to what a lawful expression comes to is lawful.
use Rattle.std.specs.List.{flat_map, list_all, list_any}
use Rattle.std.proofs.Common.{◌≡◌, ℕ, ◌+◌, ◌≤◌, ◌<◌, Bool, true, false, ◌||◌, length, length-append, List, [], ◌∷◌, None, refl, arith}
use Rattle.std.proofs.lemmas.Bool.{false≢true, lt-ltb, ltb-true}
use Rattle.core_ast.specs.declared.parts.CoreHead.TheVariants as head
use Rattle.core_ast.specs.declared.parts.CoreOp.TheVariants as op
use Rattle.core_ast.specs.declared.parts.Constant.TheVariants.{Undefined}
use Rattle.core_ast.specs.declared.parts.Key.TheVariants.{TextKey}
use Rattle.core_ast.specs.declared.parts.Primitive.TheVariants.{CheckReady, RefuseConst}
use Rattle.core_ast.specs.declared.parts.Unary.TheVariants.{Plus}
use Rattle.core_ast.specs.declared.parts.Update.{Update}
use Rattle.core_ast.specs.declared.parts.Var.{Var}
use Rattle.core_ast.specs.declared.tree.CoreExpr.{CoreExpr}
use Rattle.core_ast.specs.Lawful.{Plain, Property, Round}
use Rattle.core_ast.specs.Made.{act, expression, variable}
use Rattle.core_ast.specs.Names.{next}
use Rattle.lawful_passes.proofs.Far.{SoFar, act_far, acting_far, done_is, number_is, variable_is}
use Rattle.lawful_passes.proofs.Raised.{expr_raised}
use Rattle.lawful_passes.proofs.Spilling.{Sound}
use Rattle.lowering_laws.specs.InRound as lawfully
use Rattle.lowering_laws.specs.InRound.{Drawn, PartsAreLawful, expr_lawful, part_lawful}
use Rattle.lowering_laws.specs.Patterns.{member_lawful, property_lawful}
use Rattle.lowering_laws.specs.References.{AccessesAreLawful, AssignmentsAreLawful, CompoundsAreLawful, FoundAreLawful, FoundHostsAreCalled, MakesLawful, MembersAreLawful, NewAreLawful, ReachedCallsAreLawful, ReachedTagsAreLawful, ReadsAreLawful, UpdatesAreLawful, name_lawful, reached_lawful, with_names}
use Rattle.lowering_laws.proofs.Expressions.{acted, behind, calls_are_lawful, constructions_are_lawful, host_calls_are_lawful, list_is, plainly, spread_calls_are_lawful, spread_host_calls_are_lawful, tags_are_lawful}
use Rattle.lowering_laws.proofs.Patterns.{index_far, member_far, name_far, property_sound, put_is, read_is, refused_is, started_is, to_text_is}
use Rattle.lowering_laws.proofs.Statements.{flag_is, stored_is, then_is}
use Rattle.lowering_rules.specs.Making.{flag, number, primitive, stored}
use Rattle.lowering_rules.specs.Naming as naming
use Rattle.lowering_rules.specs.Naming.{with_temporary}
use Rattle.lowering_rules.specs.Patterns as p
use Rattle.lowering_rules.specs.declared.expressions.ListPart.{ListPart}
use Rattle.lowering_rules.specs.declared.expressions.ListPart.TheVariants.{Missing, Single, Spread}
use Rattle.lowering_rules.specs.declared.naming.Names.{Names}
use Rattle.lowering_rules.specs.declared.patterns.MemberTarget.{MemberTarget}
use Rattle.lowering_rules.specs.declared.patterns.PropertyName.{PropertyName}
use Rattle.lowering_rules.specs.declared.patterns.PropertyName.TheVariants.{Computed, Iterator, Literal}
use Rattle.lowering_rules.specs.declared.patterns.VariableTarget.{VariableTarget}
use Rattle.lowering_rules.specs.declared.reference_rules.references.Callee.{Callee}
use Rattle.lowering_rules.specs.declared.reference_rules.references.Compound.{Compound}
use Rattle.lowering_rules.specs.declared.reference_rules.references.Compound.TheVariants.{Operates, Powers}
use Rattle.lowering_rules.specs.declared.reference_rules.references.MemberName.{MemberName}
use Rattle.lowering_rules.specs.declared.reference_rules.references.MemberName.TheVariants.{AtIterator, Indexed, Named}
use Rattle.lowering_rules.specs.declared.reference_rules.references.NamedValue.TheVariants.{GlobalName, HostName, UndefinedName, VariableName}
use Rattle.lowering_rules.specs.declared.reference_rules.references.Reached.{Reached}
use Rattle.lowering_rules.specs.declared.reference_rules.references.Reached.TheVariants.{Inherited, Property as OfProperty, Value, Variable}
use Rattle.lowering_rules.specs.reference_rules.References as s
use Rattle.pass_rules.proofs.pass_laws.Within.{left, right, both, either}

-- ## Names that are drawn

abbrev pub size : Names → ℕ
size n = length n.fresh.hints

pub one_more : (n : Names) → size (with_temporary n) ≡ size n + 1
one_more n = let a = length-append n.fresh.hints (None ∷ []) in omega arith

-- with more names
pub raise : (r : Round) (n m : Names) (x : CoreExpr) → size n ≤ size m → Sound (with_names n r) x → Sound (with_names m r) x
raise r n m x l h = expr_raised (size m) x (with_names n r) l h

raise_var : (r : Round) (n m : Names) (x : Var) → size n ≤ size m → Drawn (with_names n r) x → Drawn (with_names m r) x
raise_var r n m x l h = let a = ltb-true x.0 (size n) h in lt-ltb x.0 (size m) (omega arith)

pub new_drawn : (r : Round) (n m : Names) → size n < size m → Drawn (with_names m r) (next n.fresh)
new_drawn r n m l = lt-ltb (size n) (size m) l

raise_name : (r : Round) (n m : Names) (x : MemberName) → size n ≤ size m → name_lawful (with_names n r) x ≡ true → name_lawful (with_names m r) x ≡ true
raise_name r n m (Named key) l h = h
raise_name r n m (Indexed key) l h = raise r n m key l h
raise_name r n m AtIterator l h = refl

-- ## Names

variable_read_is : (r : Round) (x : Var) (checked : Bool) → Drawn r x → Sound r (s.variable_read x checked)
variable_read_is r x checked d = either (λ ls. Sound r (expression None (head.Variable x) ls)) checked {x = act (op.Primitive CheckReady) ∷ []} {y = []} (acted r (op.Primitive CheckReady) (variable x) plainly refl refl refl (variable_is r x d)) (variable_is r x d)

old_is : (r : Round) (t : VariableTarget) → Drawn r t.var → Sound r (s.old_value t)
old_is r t d = variable_read_is r t.var t.checked d

refused_so : (r : Round) (e : CoreExpr) → Sound r e → Sound r (s.refused e)
refused_so r e h = then_is r e (primitive RefuseConst) h (refused_is r)

written_is : (r : Round) (t : VariableTarget) (e : CoreExpr) → Drawn r t.var → Sound r e → Sound r (s.written t e)
written_is r t e d h = either (Sound r) t.constant {x = s.refused e} {y = stored t.var e} (refused_so r e h) (stored_is r t.var e d h)

operated_is : (r : Round) (x : CoreExpr) (c : Compound) (y : CoreExpr) → Sound r x → Sound r y → Sound r (s.operated x c y)
unfolding s.operation
operated_is r x (Operates b) y h k = behind r (op.Operator b) (y ∷ []) x plainly refl refl refl (both k refl) h
operated_is r x Powers y h k = behind r (s.operation Powers) (y ∷ []) x plainly refl refl refl (both k refl) h

number_of : (r : Round) (x : CoreExpr) → Sound r x → Sound r (s.as_number x)
number_of r x h = acted r (op.Unary Plus) x plainly refl refl refl h

further_is : (r : Round) (u : Update) (x : CoreExpr) → Sound r x → Sound r (s.one_further u x)
further_is r u x h = behind r (op.Operator (s.by_one u)) (number 1 ∷ []) x plainly refl refl refl (both (number_is r 1 refl) refl) h

checked_is : (r : Round) (t : VariableTarget) (e : CoreExpr) (n : Names) → Drawn (with_names n r) t.var → Sound (with_names n r) e → MakesLawful r (s.checked_written t e n)
checked_is r t e n d h =
    let m = with_temporary n in let l = one_more n in let after = with_names m r in let v = next n.fresh in let dv = new_drawn r n m (omega arith) in let dt = raise_var r n m t.var (omega arith) d in
    either (MakesLawful r) t.constant
    (refused_so (with_names n r) _ (then_is (with_names n r) e _ h (variable_read_is (with_names n r) t.var true d)))
    (then_is after _ _ (then_is after _ _ (stored_is after v e dv (raise r n m e (omega arith) h)) (variable_read_is after t.var true dt)) (stored_is after t.var (variable v) dt (variable_is after v dv)))

name_assigned_is : (r : Round) (t : VariableTarget) (e : CoreExpr) (n : Names) → Drawn (with_names n r) t.var → Sound (with_names n r) e → MakesLawful r (s.name_assigned t e n)
name_assigned_is r t e n d h = either (MakesLawful r) t.checked (checked_is r t e n d h) (written_is (with_names n r) t e d h)

name_updated_is : (r : Round) (t : VariableTarget) (u : Update) (n : Names) → Drawn (with_names n r) t.var → MakesLawful r (s.name_updated t u n)
name_updated_is r t u n d =
    let m = with_temporary n in let l = one_more n in let after = with_names m r in let before = with_names n r in let v = next n.fresh in let dv = new_drawn r n m (omega arith) in let dt = raise_var r n m t.var (omega arith) d in
    either (MakesLawful r) (s.gives_old u)
    (then_is after _ _ (then_is after _ _ (stored_is after v _ dv (number_of after _ (old_is after t dt))) (written_is after t _ dt (further_is after u (variable v) (variable_is after v dv)))) (variable_is after v dv))
    (written_is before t _ d (further_is before u _ (number_of before _ (old_is before t d))))

-- ## Properties

reference_far : (r : Round) (object : CoreExpr) (name : MemberName) → Sound r object → name_lawful r name ≡ true → SoFar r Property 1 (s.member object name)
unfolding s.member
reference_far r object (Named key) h k = name_far r object key h k
reference_far r object (Indexed key) h k = index_far r object key h k
reference_far r object AtIterator h k = name_far r object (TextKey p.iterator_name) h refl

read_of : (r : Round) (object : CoreExpr) (name : MemberName) → Sound r object → name_lawful r name ≡ true → Sound r (s.member_read object name)
unfolding s.member_read
read_of r object (Named key) h k = property_sound r _ (name_far r object key h k)
read_of r object (Indexed key) h k = property_sound r _ (index_far r object key h k)
read_of r object AtIterator h k = started_is r object 1 refl h

deleted_of : (r : Round) (object : CoreExpr) (name : MemberName) → Sound r object → name_lawful r name ≡ true → Sound r (s.member_deleted object name)
deleted_of r object name h k = done_is r Plain _ (act_far r Property 1 op.Delete _ refl refl refl (reference_far r object name h k)) refl

value_deleted_is : (r : Round) (x : CoreExpr) → Sound r x → Sound r (s.value_deleted x)
value_deleted_is r x h = then_is r x (flag true) h (flag_is r true)

pub reads_are_lawful : ReadsAreLawful
unfolding s.value_of s.deleted
reads_are_lawful r (Value x) h = (h, value_deleted_is r x h)
reads_are_lawful r (Variable t imported) h = (old_is r t h, value_deleted_is r _ (old_is r t h))
reads_are_lawful r (OfProperty object name) h = (read_of r object name (left _ _ h) (right _ _ h), deleted_of r object name (left _ _ h) (right _ _ h))
reads_are_lawful r (Inherited x this) h = (left _ _ h, value_deleted_is r x (left _ _ h))

pub found_are_lawful : FoundAreLawful
unfolding s.found
found_are_lawful r UndefinedName h = list_is r (head.Constant Undefined) [] refl refl tt
found_are_lawful r (GlobalName g) h = list_is r (head.Global g) [] refl refl tt
found_are_lawful r (HostName i) h = absurd (false≢true h)
found_are_lawful r (VariableName t imported) h = h

pub accesses_are_lawful : AccessesAreLawful
accesses_are_lawful r x name h k = both (reads_are_lawful r x h).0 k

pub new_are_lawful : NewAreLawful
new_are_lawful r x parts h k = constructions_are_lawful r (s.value_of x) parts (reads_are_lawful r x h).0 k

-- ## Properties in temporaries

-- what is drawn of a property, in the round behind it
record Kept (r : Round) (n : Names) (t : MemberTarget) (m : Names) : Type 0 where
  more : size n ≤ size m
  target : member_lawful (with_names m r) t ≡ true

kept_is : (r : Round) (object : CoreExpr) (name : MemberName) (n : Names) → Sound (with_names n r) object → name_lawful (with_names n r) name ≡ true → Kept r n (s.drawn_member object name n).value (s.drawn_member object name n).names
unfolding s.drawn_name
kept_is r object (Named key) n h k = let m = with_temporary n in let l = one_more n in record { more = omega arith; target = both (both (new_drawn r n m (omega arith)) (raise r n m object (omega arith) h)) k }
kept_is r object (Indexed key) n h k =
    let m = with_temporary n in let l = one_more n in let q = with_temporary m in let o = one_more m in
    record { more = omega arith; target = both (both (new_drawn r n q (omega arith)) (raise r n q object (omega arith) h)) (both (new_drawn r m q (omega arith)) (raise r n q key (omega arith) k)) }
kept_is r object AtIterator n h k = let m = with_temporary n in let l = one_more n in record { more = omega arith; target = both (both (new_drawn r n m (omega arith)) (raise r n m object (omega arith) h)) refl }

pub members_are_lawful : MembersAreLawful
members_are_lawful r object name n h k = (kept_is r object name n h k).target

base_is : (r : Round) (x : Var) → Drawn r x → Sound r (s.base_checked x)
base_is r x d = property_sound r _ (name_far r (variable x) (TextKey p.base_name) (variable_is r x d) refl)

settled_by : (r : Round) (base : Var) (object : CoreExpr) (name : PropertyName) → Drawn r base → Sound r object → property_lawful r name ≡ true → Sound r (s.settled base object name)
unfolding s.settled
settled_by r base object (Literal key) d h k = then_is r _ _ (stored_is r base object d h) (base_is r base d)
settled_by r base object (Computed kept key) d h k =
    then_is r _ _ (then_is r _ _ (then_is r _ _ (stored_is r base object d h) (stored_is r kept key (left _ _ k) (right _ _ k))) (base_is r base d)) (stored_is r kept _ (left _ _ k) (to_text_is r (variable kept) (variable_is r kept (left _ _ k))))
settled_by r base object Iterator d h k = then_is r _ _ (stored_is r base object d h) (base_is r base d)

settled_is : (r : Round) (t : MemberTarget) → member_lawful r t ≡ true → Sound r (s.settled t.base t.object t.name)
settled_is r t h = settled_by r t.base t.object t.name (left _ _ (left _ _ h)) (right _ _ (left _ _ h)) (right _ _ h)

put_at_is : (r : Round) (t : MemberTarget) (e : CoreExpr) → member_lawful r t ≡ true → Sound r e → Sound r (s.put_at t e)
put_at_is r t e h k = put_is r _ e (member_far r t.base t.name (left _ _ (left _ _ h)) (right _ _ h)) k

old_at_is : (r : Round) (t : MemberTarget) → member_lawful r t ≡ true → Sound r (s.old_at t)
old_at_is r t h = read_is r t.base t.name (left _ _ (left _ _ h)) (right _ _ h)

member_assigned_is : (r : Round) (object : CoreExpr) (name : MemberName) (e : CoreExpr) (n : Names) → Sound (with_names n r) object → name_lawful (with_names n r) name ≡ true → Sound (with_names n r) e → MakesLawful r (s.member_assigned object name e n)
member_assigned_is r object name e n h k m =
    let d = s.drawn_member object name n in let q = kept_is r object name n h k in let after = with_names d.names r in
    either (MakesLawful r) (s.is_direct name e) (put_is (with_names n r) _ e (reference_far (with_names n r) object name h k) m)
    (then_is after _ _ (settled_is after d.value q.target) (put_at_is after d.value e q.target (raise r n d.names e q.more m)))

settled_operated_is : (r : Round) (object : CoreExpr) (name : MemberName) (c : Compound) (e : CoreExpr) (n : Names) → Sound (with_names n r) object → name_lawful (with_names n r) name ≡ true → Sound (with_names n r) e → MakesLawful r (s.settled_operated object name c e n)
settled_operated_is r object name c e n h k m =
    let d = s.drawn_member object name n in let q = kept_is r object name n h k in let after = with_names d.names r in
    then_is after _ _ (settled_is after d.value q.target) (put_at_is after d.value _ q.target (operated_is after _ c e (old_at_is after d.value q.target) (raise r n d.names e q.more m)))

member_operated_is : (r : Round) (object : CoreExpr) (name : MemberName) (c : Compound) (e : CoreExpr) (n : Names) → Sound (with_names n r) object → name_lawful (with_names n r) name ≡ true → Sound (with_names n r) e → MakesLawful r (s.member_operated object name c e n)
unfolding s.member_operated
member_operated_is r object (Named key) (Operates b) e n h k m = done_is (with_names n r) Plain _ (acting_far (with_names n r) Property 1 (op.Update b) e _ refl refl refl m (name_far (with_names n r) object key h k)) refl
member_operated_is r object (Named key) Powers e n h k m = settled_operated_is r object (Named key) Powers e n h k m
member_operated_is r object (Indexed key) c e n h k m = settled_operated_is r object (Indexed key) c e n h k m
member_operated_is r object AtIterator c e n h k m = settled_operated_is r object AtIterator c e n h k m

raise_property : (r : Round) (n m : Names) (name : PropertyName) → size n ≤ size m → property_lawful (with_names n r) name ≡ true → property_lawful (with_names m r) name ≡ true
raise_property r n m (Literal key) l h = h
raise_property r n m (Computed kept key) l h = both (raise_var r n m kept l (left _ _ h)) (raise r n m key l (right _ _ h))
raise_property r n m Iterator l h = refl

raise_member : (r : Round) (n m : Names) (t : MemberTarget) → size n ≤ size m → member_lawful (with_names n r) t ≡ true → member_lawful (with_names m r) t ≡ true
raise_member r n m t l h = both (both (raise_var r n m t.base l (left _ _ (left _ _ h))) (raise r n m t.object l (right _ _ (left _ _ h)))) (raise_property r n m t.name l (right _ _ h))

settled_updated_is : (r : Round) (object : CoreExpr) (name : MemberName) (u : Update) (n : Names) → Sound (with_names n r) object → name_lawful (with_names n r) name ≡ true → MakesLawful r (s.settled_updated object name u n)
settled_updated_is r object name u n h k =
    let d = s.drawn_member object name n in let q = kept_is r object name n h k in let t = d.value in let before = with_names d.names r in
    let m = with_temporary d.names in let l = one_more d.names in let after = with_names m r in let v = next d.names.fresh in let dv = new_drawn r d.names m (omega arith) in
    let target = raise_member r d.names m t (omega arith) q.target in
    either (MakesLawful r) (s.gives_old u)
    (then_is after _ _ (then_is after _ _ (then_is after _ _ (settled_is after t target) (stored_is after v _ dv (number_of after _ (old_at_is after t target)))) (put_at_is after t _ target (further_is after u (variable v) (variable_is after v dv)))) (variable_is after v dv))
    (then_is before _ _ (settled_is before t q.target) (put_at_is before t _ q.target (further_is before u _ (number_of before _ (old_at_is before t q.target)))))

member_updated_is : (r : Round) (object : CoreExpr) (name : MemberName) (u : Update) (n : Names) → Sound (with_names n r) object → name_lawful (with_names n r) name ≡ true → MakesLawful r (s.member_updated object name u n)
unfolding s.member_updated
member_updated_is r object (Named key) u n h k = done_is (with_names n r) Plain _ (act_far (with_names n r) Property 1 (op.Step u) _ refl refl refl (name_far (with_names n r) object key h k)) refl
member_updated_is r object (Indexed key) u n h k = settled_updated_is r object (Indexed key) u n h k
member_updated_is r object AtIterator u n h k = settled_updated_is r object AtIterator u n h k

-- ## What is done to it

pub assignments_are_lawful : AssignmentsAreLawful
unfolding s.assigned
assignments_are_lawful r (Value x) e n h k = then_is (with_names n r) x e h k
assignments_are_lawful r (Variable t imported) e n h k = name_assigned_is r (s.plain_target t imported) e n h k
assignments_are_lawful r (OfProperty object name) e n h k = member_assigned_is r object name e n (left _ _ h) (right _ _ h) k
assignments_are_lawful r (Inherited x this) e n h k = then_is (with_names n r) x e (left _ _ h) k

pub compounds_are_lawful : CompoundsAreLawful
unfolding s.operated_at
compounds_are_lawful r (Value x) c e n h k = operated_is (with_names n r) x c e h k
compounds_are_lawful r (Variable t imported) c e n h k = written_is (with_names n r) t _ h (operated_is (with_names n r) _ c e (old_is (with_names n r) t h) k)
compounds_are_lawful r (OfProperty object name) c e n h k = member_operated_is r object name c e n (left _ _ h) (right _ _ h) k
compounds_are_lawful r (Inherited x this) c e n h k = operated_is (with_names n r) x c e (left _ _ h) k

pub updates_are_lawful : UpdatesAreLawful
unfolding s.updated
updates_are_lawful r (Value x) u n h = number_of (with_names n r) x h
updates_are_lawful r (Variable t imported) u n h = name_updated_is r t u n h
updates_are_lawful r (OfProperty object name) u n h = member_updated_is r object name u n (left _ _ h) (right _ _ h)
updates_are_lawful r (Inherited x this) u n h = number_of (with_names n r) x (left _ _ h)

-- ## Calls

record CalleeIs (r : Round) (n : Names) (c : Callee) (m : Names) : Type 0 where
  more : size n ≤ size m
  function : Sound (with_names m r) c.function
  receiver : lawfully.if_lawful c.receiver (with_names m r) ≡ true

callee_is : (r : Round) (listed : Bool) (x : Reached) (n : Names) → reached_lawful (with_names n r) x ≡ true → CalleeIs r n (s.callee listed x n).value (s.callee listed x n).names
unfolding s.callee
callee_is r listed (Value x) n h = record { more = omega arith; function = h; receiver = refl }
callee_is r listed (Variable t imported) n h = record { more = omega arith; function = old_is (with_names n r) t h; receiver = refl }
callee_is r listed (Inherited x this) n h = record { more = omega arith; function = left _ _ h; receiver = right _ _ h }
callee_is r listed (OfProperty object name) n h =
    let m = with_temporary n in let l = one_more n in let after = with_names m r in let d = new_drawn r n m (omega arith) in let v = next n.fresh in
    let same : size n ≤ size n = omega arith in
    let kept : CalleeIs r n (s.callee_kept object name n).value (s.callee_kept object name n).names = record {
      more = omega arith;
      function = read_of after (stored v object) name (stored_is after v object d (raise r n m object (omega arith) (left _ _ h))) (raise_name r n m name (omega arith) (right _ _ h));
      receiver = variable_is after v d;
    } in
    either (λ (q : naming.Drawn Callee). CalleeIs r n q.value q.names) (listed || s.is_iterator name) kept
    (record { more = same; function = property_sound (with_names n r) _ (reference_far (with_names n r) object name (left _ _ h) (right _ _ h)); receiver = refl })

raise_part : (r : Round) (n m : Names) (x : ListPart) → size n ≤ size m → part_lawful (with_names n r) x ≡ true → part_lawful (with_names m r) x ≡ true
raise_part r n m (Single x) l h = raise r n m x l h
raise_part r n m (Spread x) l h = raise r n m x l h
raise_part r n m Missing l h = refl

raise_list : (r : Round) (n m : Names) (xs : List ListPart) → size n ≤ size m → list_all (part_lawful (with_names n r)) xs ≡ true → list_all (part_lawful (with_names m r)) xs ≡ true
raise_list r n m [] l h = refl
raise_list r n m (x ∷ xs) l h = both (raise_part r n m x l (left _ _ h)) (raise_list r n m xs l (right _ _ h))

raise_parts : (r : Round) (n m : Names) (xs : List CoreExpr) → size n ≤ size m → PartsAreLawful (with_names n r) xs → PartsAreLawful (with_names m r) xs
raise_parts r n m [] l h = refl
raise_parts r n m (x ∷ xs) l h = both (raise r n m x l (left _ _ h)) (raise_parts r n m xs l (right _ _ h))

singles_are : (r : Round) (xs : List ListPart) → list_all (part_lawful r) xs ≡ true → PartsAreLawful r (flat_map s.single xs)
unfolding s.single
singles_are r [] h = refl
singles_are r (Single x ∷ xs) h = both (left _ _ h) (singles_are r xs (right _ _ h))
singles_are r (Spread x ∷ xs) h = singles_are r xs (right _ _ h)
singles_are r (Missing ∷ xs) h = singles_are r xs h

pub reached_calls_are_lawful : ReachedCallsAreLawful
reached_calls_are_lawful r x parts n h k =
    let c = s.callee true x n in let a = callee_is r true x n h in let d = s.callee false x n in let b = callee_is r false x n h in
    either (MakesLawful r) (list_any s.is_spread parts)
    (spread_calls_are_lawful (with_names c.names r) c.value.function c.value.receiver parts a.function a.receiver (raise_list r n c.names parts a.more k))
    (calls_are_lawful (with_names d.names r) d.value.function d.value.receiver (flat_map s.single parts) b.function b.receiver (singles_are (with_names d.names r) parts (raise_list r n d.names parts b.more k)))

pub found_hosts_are_called : FoundHostsAreCalled
unfolding s.found s.callee
found_hosts_are_called r h parts site n k m =
    let before = with_names n r in
    either (MakesLawful r) (list_any s.is_spread parts) (spread_host_calls_are_lawful before h parts site k m) (host_calls_are_lawful before h (flat_map s.single parts) site k (singles_are before parts m))

pub reached_tags_are_lawful : ReachedTagsAreLawful
reached_tags_are_lawful r x object values n h k m =
    let d = s.callee false x n in let b = callee_is r false x n h in
    tags_are_lawful (with_names d.names r) d.value.function d.value.receiver object values b.function b.receiver (raise r n d.names object b.more k) (raise_parts r n d.names values b.more m)
