-- The flattening of yields leaves none inside expressions, nor statements there, and brings nothing back.
use Rattle.std.specs.List.{list_all}
use Rattle.std.proofs.Common.{◌≡◌, ℕ, ◌+◌, Bool, true, false, ◌||◌, cond, nat_lt, List, [], ◌∷◌, ◌++◌, map, length, Option, None, Some, refl, sym, ◌∙◌}
use Rattle.std.proofs.lemmas.Bool.{false≢true}
use Rattle.es_outside.specs.declared.events.Site.{Site}
use Rattle.core_ast.specs.declared.naming.Fresh.{Fresh}
use Rattle.core_ast.specs.declared.parts.Label.{Label}
use Rattle.core_ast.specs.declared.parts.Binary.{Binary}
use Rattle.core_ast.specs.declared.parts.Binary.TheVariants.{Same}
use Rattle.core_ast.specs.declared.parts.Unary.TheVariants.{Not}
use Rattle.core_ast.specs.declared.parts.Key.TheVariants.{WordKey}
use Rattle.core_ast.specs.declared.parts.When.{When}
use Rattle.core_ast.specs.declared.parts.When.TheVariants.{Falsy}
use Rattle.core_ast.specs.declared.parts.Constant.TheVariants.{Truth}
use Rattle.core_ast.specs.declared.parts.CoreHead.{CoreHead}
use Rattle.core_ast.specs.declared.parts.CoreHead.TheVariants as head
use Rattle.core_ast.specs.declared.parts.CoreOp.{CoreOp}
use Rattle.core_ast.specs.declared.parts.CoreOp.TheVariants as op
use Rattle.core_ast.specs.declared.parts.Primitive.TheVariants.{DelegateStep, IterStart, ToText}
use Rattle.core_ast.specs.declared.tree.CoreStat.{CoreStat}
use Rattle.core_ast.specs.declared.tree.CoreCase.{CoreCase}
use Rattle.core_ast.specs.declared.tree.CoreExpr.{CoreExpr}
use Rattle.core_ast.specs.declared.tree.CoreLink.TheVariants as link
use Rattle.core_ast.specs.declared.tree.CoreStat.TheVariants as stat
use Rattle.core_ast.specs.declared.tree.CoreLink.TheOpen as layer
use Rattle.core_ast.specs.declared.whole.Core.{Core}
use Rattle.core_ast.specs.declared.whole.CoreFunction.{CoreFunction}
use Rattle.core_ast.specs.declared.whole.CorePart.{CorePart}
use Rattle.core_ast.specs.Lawful.{is_empty, is_generator}
use Rattle.core_ast.specs.Mentions.{function_mentions, part_mentions}
use Rattle.core_ast.specs.Made.{linked}
use Rattle.pass_rules.specs.declared.yield_rules.spilling.Chain.{Chain}
use Rattle.pass_rules.specs.declared.yield_rules.spilling.Matching.{Matching}
use Rattle.pass_rules.specs.declared.yield_rules.spilling.Place.{Place}
use Rattle.pass_rules.specs.declared.yield_rules.spilling.Reference.{Reference}
use Rattle.pass_rules.specs.declared.yield_rules.spilling.Reference.TheVariants.{Named, Keyed}
use Rattle.pass_rules.specs.declared.yield_rules.spilling.Settled.{Settled}
use Rattle.pass_rules.specs.declared.yield_rules.spilling.Spilled.{Spilled}
use Rattle.pass_rules.specs.declared.yield_rules.spilling.SpilledCase.{SpilledCase}
use Rattle.pass_rules.specs.yield_rules.Yields as s
use Rattle.pass_rules.specs.yield_rules.Yields.{Spills, Turns, Adds, Cased, number, two, when}
use Rattle.pass_rules.specs.pass_laws.Levels.{Level, Test, all_within, is_bare, head_within, op_within, link_within, stat_within, case_within, expr_within, unparted, spilled, function_within, part_within, IsWithin}
use Rattle.pass_rules.proofs.pass_laws.Related.{Fold, Relates, Keeps, Pair, Links, Stats, Cases, Exprs, link_first, link_second, stat_first, stat_second, case_first, case_second, expr_first, expr_second, stat_related}
use Rattle.pass_rules.proofs.pass_laws.Within.{within, left, right, both, either, Are, Is, AreParts, AreCases, IsThere, and_more, and_one, strict_is, lazy_is, expression_is, case_is, do_is, if_is, switch_is, loop_is, labelled_is, jump_is, return_is, throw_is, catch_is, finally_is, scoped_is, yield_is, linked_is, act_is, variable_is, constant_is, set_is, number_is, two_is, when_is, undefined_is, more}

abbrev pub spills : Fold
spills = record {
  Link = Turns;
  Stat = Adds;
  Case = Cased;
  Expr = Spills;
  link_step = s.link_step;
  stat_step = s.stat_step;
  case_step = s.case_step;
  expr_step = s.expr_step;
}

-- ## What is within a level

record SpilledIs (l : Level) (x : Spilled) : Type 0 where
  before : Are l x.before
  rest : Is l x.rest

record SettledIs (l : Level) (x : Settled) : Type 0 where
  before : Are l x.before
  parts : AreParts l x.parts

abbrev RefersIn : Level → Reference → Type 0
RefersIn l (Named key site) = true ≡ true
RefersIn l (Keyed keys site) = AreParts l keys

abbrev MaybeRefers : Level → Option Reference → Type 0
MaybeRefers l None = true ≡ true
MaybeRefers l (Some r) = RefersIn l r

record ChainIs (l : Level) (c : Chain) : Type 0 where
  before : Are l c.before
  base : Is l c.base
  reference : MaybeRefers l c.reference

record CaseIs (l : Level) (c : SpilledCase) : Type 0 where
  before : Are l c.before
  test : IsThere l c.test
  body : Are l c.body

abbrev OfLink : Level → Test → Turns → Type 0
OfLink l t f = t (unparted l) ≡ true → (p : Place) (c : Chain) → ChainIs (spilled l) c → ChainIs (spilled l) (f p c)

abbrev OfStat : Level → Test → Adds → Type 0
OfStat l t f = t (unparted l) ≡ true → (p : Place) (xs : List CoreStat) → Are (spilled l) xs → Are (spilled l) (f p xs)

abbrev OfCase : Level → Test → Cased → Type 0
OfCase l t f = t (unparted l) ≡ true → (q p : Place) → CaseIs (spilled l) (f q p)

abbrev OfExpr : Level → Test → Spills → Type 0
OfExpr l t f = t (unparted l) ≡ true → (p : Place) → SpilledIs (spilled l) (f p)

abbrev relation : (l : Level) → Relates within spills
relation l = record { Link = OfLink l; Stat = OfStat l; Case = OfCase l; Expr = OfExpr l }

-- ## Slots and what is left

-- a statement more
one : (l : Level) (xs : List CoreStat) (x : CoreStat) → Are l xs → stat_within x l ≡ true → Are l (xs ++ x ∷ [])
one l xs x h k = and_one stat_within l xs x h k

joined : (l : Level) (xs ys : List CoreStat) → Are l xs → Are l ys → Are l (xs ++ ys)
joined l xs ys h k = and_more stat_within l xs ys h k

kept_is : (l : Level) (p : Place) (x : CoreExpr) → Is l x → stat_within (s.kept p x) l ≡ true
kept_is l p x h = set_is l (s.slot p) x h

slot_is : (l : Level) (p : Place) → Is l (s.in_slot p)
slot_is l p = variable_is l (s.slot p)

referring_is : (l : Level) (r : Reference) → RefersIn l r → link_within (s.referring r) l ≡ true
referring_is l (Named key site) h = strict_is l (op.Member key) [] site refl refl
referring_is l (Keyed keys site) h = strict_is l op.Index keys site refl h

rest_by : (l : Level) (x : CoreExpr) (r : Option Reference) → Is l x → MaybeRefers l r → Is l (s.whole x r)
rest_by l x None h k = h
rest_by l x (Some r) h k = linked_is l x _ h (referring_is l r k)

rest_is : (l : Level) (c : Chain) → ChainIs l c → Is l (s.rest c)
rest_is l c h = rest_by l c.base c.reference h.base h.reference

goes_on_is : (l : Level) (before : List CoreStat) (x : CoreExpr) → Are l before → Is l x → ChainIs l (s.going_on before x)
goes_on_is l before x h k = record { before = h; base = k; reference = refl }

effects_are : (l : Level) (x : CoreExpr) (xs : List CoreStat) → Is l x → Are l xs → Are l (s.with_effects x xs)
effects_are l x xs h k = either (Are l) (s.is_bare_constant x) {x = xs} {y = xs ++ stat.Do x ∷ []} k (one l xs _ k (do_is l x h))

-- ## Parts

abbrev AllSpilled : Level → List Spilled → Type 0
AllSpilled l [] = true ≡ true
AllSpilled l (x ∷ xs) = SpilledIs l x × AllSpilled l xs

settle_one_is : (l : Level) (p : Place) (goes_on : Bool) (x : Spilled) (t : Settled) → SpilledIs l x → SettledIs l t → SettledIs l (s.settle_one p goes_on x t)
settle_one_is l p true x t h k = record { before = one l _ _ (joined l t.before x.before k.before h.before) (kept_is l p x.rest h.rest); parts = and_one expr_within l t.parts _ k.parts (slot_is l p) }
settle_one_is l p false x t h k = record { before = joined l t.before x.before k.before h.before; parts = and_one expr_within l t.parts _ k.parts h.rest }

settle_is : (l : Level) (p : Place) (i last : ℕ) (xs : List Spilled) (t : Settled) → AllSpilled l xs → SettledIs l t → SettledIs l (s.settle p i last xs t)
settle_is l p i last [] t h k = k
settle_is l p i last (x ∷ xs) t h k = settle_is l (s.deeper 1 p) (i + 1) last xs _ h.1 (settle_one_is l p (nat_lt (i + 1) last) x t h.0 k)

settled_is : (l : Level) (p : Place) (xs : List Spilled) → AllSpilled l xs → SettledIs l (s.settled p xs)
settled_is l p xs h = settle_is l p 0 (s.behind_last 0 0 xs) xs _ h (record { before = refl; parts = refl })

each_are : (l : Level) (ps : List (Pair (OfExpr l))) → all_within (map (λ q. q.0) ps) (unparted l) ≡ true → (p : Place) → AllSpilled (spilled l) (s.each_at (map (λ q. q.1) ps) p)
each_are l [] h p = refl
each_are l (q ∷ ps) h p = (q.2 (left _ _ h) p, each_are l ps (right _ _ h) (s.deeper 1 p))

-- ## Strict links

behind_slot_is : (l : Level) (p : Place) (o : CoreOp) (t : Settled) (site : Option Site) (c : Chain) → op_within o (is_bare (map expr_within t.parts)) l ≡ true → SettledIs l t → ChainIs l c → ChainIs l (s.behind_slot p o t site c)
behind_slot_is l p o t site c h k m = goes_on_is l _ _ (joined l _ _ (one l c.before _ m.before (kept_is l p _ (rest_is l c m))) k.before) (linked_is l _ _ (slot_is l p) (strict_is l o t.parts site h k.parts))

base_check_is : (l : Level) (p : Place) → stat_within (s.base_check p) l ≡ true
base_check_is l p = do_is l _ (linked_is l _ _ (slot_is l p) (act_is l _ refl))

last_is : (l : Level) (keys : List CoreExpr) → AreParts l keys → IsThere l (s.last_of keys)
last_is l [] h = refl
last_is l (x ∷ []) h = left _ _ h
last_is l (x ∷ y ∷ ys) h = last_is l (y ∷ ys) (right _ _ h)

key_kept_are : (l : Level) (p : Place) (key : Option CoreExpr) (xs : List CoreStat) → IsThere l key → Are l xs → Are l (s.key_kept p key xs)
key_kept_are l p None xs h k = k
key_kept_are l p (Some key) xs h k = one l xs _ k (kept_is l (s.deeper 1 p) _ (linked_is l key _ h (act_is l (op.Primitive ToText) refl)))

fixed_are : (l : Level) (p : Place) (r : Reference) (xs : List CoreStat) → RefersIn l r → Are l xs → Are l (s.fixed p r xs)
unfolding s.fixed
fixed_are l p (Named key site) xs h k = one l xs _ k (base_check_is l p)
fixed_are l p (Keyed keys site) xs h k = key_kept_are l p (s.last_of keys) _ (last_is l keys h) (one l xs _ k (base_check_is l p))

target_is : (l : Level) (p : Place) (r : Reference) → Is l (s.target p r)
unfolding s.target
target_is l p (Named key site) = linked_is l _ _ (slot_is l p) (strict_is l (op.Member key) [] site refl refl)
target_is l p (Keyed keys site) = linked_is l _ _ (slot_is l p) (strict_is l op.Index _ site refl (both (slot_is l (s.deeper 1 p)) refl))

called_host_is : (l : Level) (o : CoreOp) (t : Settled) (site : Option Site) (c : Chain) → op_within o (is_bare (map expr_within t.parts)) l ≡ true → SettledIs l t → ChainIs l c → ChainIs l (s.called_host o t site c)
called_host_is l o t site c h k m = goes_on_is l _ _ (joined l c.before _ m.before k.before) (linked_is l _ _ m.base (strict_is l o t.parts site h k.parts))

method_kept_are : (l : Level) (p : Place) (base : CoreExpr) (r : Reference) (xs : List CoreStat) → Is l base → RefersIn l r → Are l xs → Are l (s.method_kept p base r xs)
method_kept_are l p base r xs h k m = one l _ _ (one l xs _ m (kept_is l p base h)) (kept_is l (s.deeper 1 p) _ (linked_is l _ _ (slot_is l p) (referring_is l r k)))

called_method_is : (l : Level) (p : Place) (t : Settled) (site : Option Site) (before : List CoreStat) (base : CoreExpr) (r : Reference) → SettledIs l t → Are l before → Is l base → RefersIn l r → ChainIs l (s.called_method p t site before base r)
called_method_is l p t site before base r k h m n = goes_on_is l _ _ (joined l _ _ (method_kept_are l p base r before m n h) k.before)
    (linked_is l _ _ (slot_is l (s.deeper 1 p)) (strict_is l op.CallWith _ site refl (both (slot_is l p) k.parts)))

called_function_is : (l : Level) (p : Place) (o : CoreOp) (t : Settled) (site : Option Site) (c : Chain) → op_within o (is_bare (map expr_within t.parts)) l ≡ true → SettledIs l t → ChainIs l c → ChainIs l (s.called_function p o t site c)
called_function_is l p o t site c h k m = either (ChainIs l) (s.is_bare_host c.base) {x = s.called_host o t site c} {y = s.behind_slot p o t site c} (called_host_is l o t site c h k m) (behind_slot_is l p o t site c h k m)

called_is : (l : Level) (p : Place) (t : Settled) (site : Option Site) (c : Chain) (r : Option Reference) → SettledIs l t → ChainIs l c → MaybeRefers l r → ChainIs l (s.called p t site c r)
called_is l p t site c None k m n = called_function_is l p op.Call t site c refl k m
called_is l p t site c (Some r) k m n = called_method_is l p t site c.before c.base r k m.before m.base n

reference_kept_are : (l : Level) (p : Place) (base : CoreExpr) (r : Reference) (xs : List CoreStat) → Is l base → RefersIn l r → Are l xs → Are l (s.reference_kept p base r xs)
reference_kept_are l p base r xs h k m = fixed_are l p r _ k (one l xs _ m (kept_is l p base h))

put_is : (l : Level) (p : Place) (t : Settled) (site : Option Site) (c : Chain) (r : Option Reference) → SettledIs l t → ChainIs l c → MaybeRefers l r → ChainIs l (s.put p t site c r)
put_is l p t site c None k m n = behind_slot_is l p op.Put t site c refl k m
put_is l p t site c (Some r) k m n = goes_on_is l _ _ (joined l _ _ (reference_kept_are l p c.base r c.before m.base n m.before) k.before) (linked_is l _ _ (target_is l p r) (strict_is l op.Put t.parts site refl k.parts))

old_kept_are : (l : Level) (p : Place) (base : CoreExpr) (r : Reference) (xs : List CoreStat) → Is l base → RefersIn l r → Are l xs → Are l (s.old_kept p base r xs)
old_kept_are l p base r xs h k m = one l _ _ (reference_kept_are l p base r xs h k m) (kept_is l (s.deeper 2 p) _ (target_is l p r))

updated_is : (l : Level) (p : Place) (b : Binary) (t : Settled) (site : Option Site) (c : Chain) (r : Option Reference) → SettledIs l t → ChainIs l c → MaybeRefers l r → ChainIs l (s.updated p b t site c r)
updated_is l p b t site c None k m n = behind_slot_is l p (op.Update b) t site c refl k m
updated_is l p b t site c (Some r) k m n = goes_on_is l _ _ (joined l _ _ (old_kept_are l p c.base r c.before m.base n m.before) k.before)
    (linked_is l _ _ (target_is l p r) (strict_is l op.Put _ site refl (both (linked_is l _ _ (slot_is l (s.deeper 2 p)) (strict_is l (op.Operator b) t.parts None refl k.parts)) refl)))

then_part_is : (l : Level) (t : Settled) (site : Option Site) (c : Chain) → SettledIs l t → ChainIs l c → ChainIs l (s.then_part t site c)
then_part_is l t site c k m = goes_on_is l _ _ (joined l _ _ (effects_are l (s.rest c) c.before (rest_is l c m) m.before) k.before) (linked_is l _ _ (undefined_is l) (strict_is l op.Then t.parts site refl k.parts))

indexed_is : (l : Level) (p : Place) (t : Settled) (site : Option Site) (c : Chain) → SettledIs l t → ChainIs l c → ChainIs l (s.indexed p t site c)
indexed_is l p t site c k m = record { before = joined l _ _ (one l c.before _ m.before (kept_is l p _ (rest_is l c m))) k.before; base = slot_is l p; reference = k.parts }

statements_is : (l : Level) (p : Place) (o : CoreOp) (t : Settled) (site : Option Site) (c : Chain) → op_within o false (unparted l) ≡ true → SettledIs (spilled l) t → ChainIs (spilled l) c → ChainIs (spilled l) (s.behind_statements p o t site c)
unfolding s.behind_statements
statements_is l p op.Index t site c h k m = indexed_is (spilled l) p t site c k m
statements_is l p op.Call t site c h k m = called_is (spilled l) p t site c c.reference k m m.reference
statements_is l p op.CallList t site c h k m = called_function_is (spilled l) p op.CallList t site c refl k m
statements_is l p op.Put t site c h k m = put_is (spilled l) p t site c c.reference k m m.reference
statements_is l p (op.Update b) t site c h k m = updated_is (spilled l) p b t site c c.reference k m m.reference
statements_is l p op.Then t site c h k m = then_part_is (spilled l) t site c k m
statements_is l p op.Yield t site c h k m = absurd (false≢true (right l.links false h))
statements_is l p op.Delegate t site c h k m = absurd (false≢true (right l.links false h))
statements_is l p o t site c h k m = behind_slot_is (spilled l) p o t site c refl k m

-- ## Yields

or_right : (a b : Bool) → b ≡ true → (a || b) ≡ true
or_right true b h = refl
or_right false b h = h

or_left : (a b : Bool) → a ≡ true → (a || b) ≡ true
or_left true b h = refl
or_left false true h = refl
or_left false false h = h

yielded_is : (l : Level) (p : Place) (c : Chain) → l.yields ≡ true → ChainIs l c → ChainIs l (s.yielded p c)
yielded_is l p c h m = goes_on_is l _ _ (one l c.before _ m.before (yield_is l _ None (s.slot p) h (rest_is l c m))) (slot_is l p)

same_is : (l : Level) (x y : CoreExpr) → Is l x → Is l y → Is l (s.is_same x y)
same_is l x y h k = two_is l x (op.Operator Same) y refl h k

property_is : (l : Level) (p : Place) (name : List ℕ) → Is l (s.property p name)
property_is l p name = linked_is l _ _ (slot_is l p) (act_is l (op.Member (WordKey name)) refl)

leave_is : (l : Level) (p : Place) → stat_within (s.leave p) l ≡ true
leave_is l p = jump_is l false (Some (s.label p))

delegate_step_is : (l : Level) (p : Place) → Is l (s.delegate_step p)
delegate_step_is l p = linked_is l _ _ (slot_is l p) (strict_is l (op.Primitive DelegateStep) _ None refl (both (slot_is l (s.deeper 1 p)) (both (slot_is l (s.deeper 2 p)) refl)))

no_return_is : (l : Level) (p : Place) → stat_within (s.no_return p) l ≡ true
no_return_is l p = when_is l _ _ (same_is l _ _ (slot_is l (s.deeper 3 p)) (undefined_is l)) (both (return_is l _ (slot_is l (s.deeper 2 p))) refl)

returned_is : (l : Level) (p : Place) → stat_within (s.returned p) l ≡ true
returned_is l p = when_is l _ _ (same_is l _ _ (slot_is l (s.deeper 1 p)) (number_is l 2)) (both (return_is l _ (property_is l (s.deeper 3 p) s.value_name)) refl)

is_done_is : (l : Level) (p : Place) → stat_within (s.is_done p) l ≡ true
is_done_is l p = when_is l _ _ (property_is l (s.deeper 3 p) s.done_name) (both (returned_is l p) (both (leave_is l p) refl))

delegate_loop_is : (l : Level) (p : Place) → l.yields ≡ true → stat_within (s.delegate_loop p) l ≡ true
delegate_loop_is l p h = loop_is l _ None None _ refl refl (both (kept_is l (s.deeper 3 p) _ (delegate_step_is l p)) (both (no_return_is l p) (both (is_done_is l p)
    (both (yield_is l _ (Some (s.slot (s.deeper 1 p))) (s.slot (s.deeper 2 p)) h (slot_is l (s.deeper 3 p))) refl))))

delegate_begin_are : (l : Level) (p : Place) (x : CoreExpr) (xs : List CoreStat) → Is l x → Are l xs → Are l (s.delegate_begin p x xs)
delegate_begin_are l p x xs h k = one l _ _ (one l _ _
    (one l xs _ k (kept_is l p _ (two_is l x (op.Primitive IterStart) (number 0) refl h (number_is l 0))))
    (kept_is l (s.deeper 1 p) _ (number_is l 0))) (kept_is l (s.deeper 2 p) _ (undefined_is l))

delegated_is : (l : Level) (p : Place) (c : Chain) → l.yields ≡ true → ChainIs l c → ChainIs l (s.delegated p c)
delegated_is l p c h m = goes_on_is l _ _ (one l _ _ (delegate_begin_are l p (s.rest c) c.before (rest_is l c m) m.before) (delegate_loop_is l p h)) (property_is l (s.deeper 3 p) s.value_name)

-- ## Links

plain_is : (l : Level) (o : CoreOp) (parts : List CoreExpr) (site : Option Site) (c : Chain) → op_within o (is_bare (map expr_within parts)) l ≡ true → AreParts l parts → ChainIs l c → ChainIs l (s.plain o parts site c)
plain_is l o parts site c h k m = goes_on_is l c.before _ m.before (linked_is l _ _ (rest_is l c m) (strict_is l o parts site h k))

refers_is : (l : Level) (c : Chain) (r : Reference) → RefersIn l r → ChainIs l c → ChainIs l (s.refers c r)
refers_is l c r h m = record { before = m.before; base = rest_is l c m; reference = h }

value_is : (l : Level) (p : Place) (o : CoreOp) (bare : Bool) (parts : List CoreExpr) (site : Option Site) (c : Chain) → op_within o bare (unparted l) ≡ true → AreParts (spilled l) parts → ChainIs (spilled l) c → ChainIs (spilled l) (s.behind_value p o parts site c)
unfolding s.behind_value
value_is l p op.Yield bare parts site c h k m = yielded_is (spilled l) p c (or_right l.yields l.links (left l.links _ h)) m
value_is l p op.Delegate bare parts site c h k m = delegated_is (spilled l) p c (or_right l.yields l.links (left l.links _ h)) m
value_is l p (op.Member key) bare parts site c h k m = either (ChainIs (spilled l)) (is_empty parts) {x = s.refers c (Named key site)} {y = s.plain (op.Member key) parts site c} (refers_is (spilled l) c (Named key site) refl m) (plain_is (spilled l) (op.Member key) parts site c refl k m)
value_is l p op.Index bare parts site c h k m = refers_is (spilled l) c (Keyed parts site) k m
value_is l p o bare parts site c h k m = plain_is (spilled l) o parts site c refl k m

strict_kept : (l : Level) (p : Place) (o : CoreOp) (parts : List (Pair (OfExpr l))) (site : Option Site) (c : Chain) → op_within o (is_bare (map (λ q. q.0) parts)) (unparted l) ≡ true → all_within (map (λ q. q.0) parts) (unparted l) ≡ true → ChainIs (spilled l) c → ChainIs (spilled l) (s.strict p o (s.parts_settled p o (map (λ q. q.1) parts)) site c)
strict_kept l p o [] site c h k m = value_is l p o true [] site c h refl m
strict_kept l p o (x ∷ xs) site c h k m =
    let t = s.parts_settled p o (map (λ q. q.1) (x ∷ xs)) in
    let q = settled_is (spilled l) (s.deeper (s.room o) p) (s.each_at (map (λ q. q.1) (x ∷ xs)) (s.deeper (s.room o) p)) (each_are l (x ∷ xs) k (s.deeper (s.room o) p)) in
    either (ChainIs (spilled l)) (is_empty t.before) {x = s.behind_value p o t.parts site c} {y = s.behind_statements p o t site c}
    (value_is l p o false t.parts site c h q.parts m) (statements_is l p o t site c h q m)

branch_are : (l : Level) (p : Place) (x : Spilled) → SpilledIs l x → Are l (s.branch p x)
branch_are l p x h = one l x.before _ h.before (kept_is l p x.rest h.rest)

branched_is : (l : Level) (p : Place) (cases : List CoreCase) (c : Chain) → AreCases l cases → ChainIs l c → ChainIs l (s.branched p cases c)
branched_is l p cases c h m = goes_on_is l _ _ (one l _ _ (one l c.before _ m.before (kept_is l p _ (rest_is l c m))) (if_is l cases h)) (slot_is l p)

test_is : (l : Level) (p : Place) (w : When) → Is l (s.test_of p w)
unfolding s.test_of
test_is l p Falsy = linked_is l _ _ (slot_is l p) (act_is l (op.Unary Not) refl)
test_is l p w = slot_is l p

first_case_is : (l : Level) (p : Place) (w : When) (x : Spilled) → SpilledIs l x → case_within (s.first_case p w x) l ≡ true
first_case_is l p w x h = case_is l (Some (s.test_of p w)) _ (test_is l p w) (branch_are l p x h)

one_branch_is : (l : Level) (p : Place) (w : When) (x : Spilled) (c : Chain) → SpilledIs l x → ChainIs l c → ChainIs l (s.one_branch p w x c)
one_branch_is l p w x c h m = either (ChainIs l) (s.has x) {x = s.branched p (s.first_case p w x ∷ []) c} {y = s.going_on c.before (linked (s.rest c) (link.Lazy w x.rest None))}
    (branched_is l p _ c (both (first_case_is l p w x h) refl) m)
    (goes_on_is l _ _ m.before (linked_is l _ _ (rest_is l c m) (lazy_is l w x.rest None h.rest refl)))

two_branches_is : (l : Level) (p : Place) (w : When) (x y : Spilled) (c : Chain) → SpilledIs l x → SpilledIs l y → ChainIs l c → ChainIs l (s.two_branches p w x y c)
two_branches_is l p w x y c h k m = either (ChainIs l) (s.has x || s.has y) {x = s.branched p (s.two_cases p w x y) c} {y = s.going_on c.before (linked (s.rest c) (link.Lazy w x.rest (Some y.rest)))}
    (branched_is l p _ c (both (first_case_is l p w x h) (both (case_is l None _ refl (branch_are l p y k)) refl)) m)
    (goes_on_is l _ _ m.before (linked_is l _ _ (rest_is l c m) (lazy_is l w x.rest (Some y.rest) h.rest k.rest)))

-- ## The steps of expressions

stats_kept : (l : Level) (ps : List (Pair (OfStat l))) → all_within (map (λ q. q.0) ps) (unparted l) ≡ true → (p : Place) (xs : List CoreStat) → Are (spilled l) xs → Are (spilled l) (s.all_at (map (λ q. q.1) ps) p xs)
stats_kept l [] h p xs k = k
stats_kept l (q ∷ ps) h p xs k = stats_kept l ps (right _ _ h) p (q.1 p xs) (q.2 (left _ _ h) p xs k)

links_kept : (l : Level) (ps : List (Pair (OfLink l))) → all_within (map (λ q. q.0) ps) (unparted l) ≡ true → (p : Place) (c : Chain) → ChainIs (spilled l) c → ChainIs (spilled l) (s.all_at (map (λ q. q.1) ps) p c)
links_kept l [] h p c k = k
links_kept l (q ∷ ps) h p c k = links_kept l ps (right _ _ h) p (q.1 p c) (q.2 (left _ _ h) p c k)

head_kept : (l : Level) (h : CoreHead) → head_within h (unparted l) ≡ head_within h (spilled l)
head_kept l (head.Copy xs) = refl
head_kept l h = refl

link_kept : (l : Level) (z : Links (relation l)) → OfLink l (within.link_step (link_first (relation l) z)) (spills.link_step (link_second (relation l) z))
link_kept l (layer.Strict o parts site) h p c m = strict_kept l p o parts site c (left _ _ h) (right _ _ h) m
link_kept l (layer.Lazy w taken None) h p c m = one_branch_is (spilled l) p w _ c (taken.2 (left _ _ h) (s.deeper 1 p)) m
link_kept l (layer.Lazy w taken (Some other)) h p c m = two_branches_is (spilled l) p w _ _ c (taken.2 (left _ _ h) (s.deeper 1 p)) (other.2 (right _ _ h) (s.deeper 1 p)) m
link_kept l (layer.Run body) h p c m = goes_on_is (spilled l) _ _ (stats_kept l body (right _ _ h) p _ (effects_are (spilled l) (s.rest c) c.before (rest_is (spilled l) c m) m.before)) (undefined_is (spilled l))

expr_kept : (l : Level) (z : Exprs (relation l)) → OfExpr l (within.expr_step (expr_first (relation l) z)) (spills.expr_step (expr_second (relation l) z))
expr_kept l z h p =
    let c = links_kept l z.links (right _ _ h) p (s.begun z.site z.head) (goes_on_is (spilled l) [] _ refl (expression_is (spilled l) z.site z.head [] (sym (head_kept l z.head) ∙ left _ _ h) refl)) in
    record { before = c.before; rest = rest_is (spilled l) _ c }

case_of_parts : (l : Level) (test : Option (Pair (OfExpr l))) (body : List (Pair (OfStat l))) → OfCase l (within.case_step (case_first (relation l) (record { test = test; body = body }))) (spills.case_step (case_second (relation l) (record { test = test; body = body })))
case_of_parts l None body h q p = record { before = refl; test = refl; body = stats_kept l body h p [] refl }
case_of_parts l (Some t) body h q p = let x = t.2 (left _ _ h) q in record { before = x.before; test = x.rest; body = stats_kept l body (right _ _ h) p [] refl }

case_kept : (l : Level) (z : Cases (relation l)) → OfCase l (within.case_step (case_first (relation l) z)) (spills.case_step (case_second (relation l) z))
case_kept l z = case_of_parts l z.test z.body

-- ## Cases of statements

said_are : (l : Level) (f : CoreExpr → CoreStat) (x : Spilled) (xs : List CoreStat) → SpilledIs l x → ((e : CoreExpr) → Is l e → stat_within (f e) l ≡ true) → Are l xs → Are l (s.said f x xs)
said_are l f x xs h g k = one l _ _ (joined l xs x.before k h.before) (g x.rest h.rest)

abbrev AllCases : Level → List SpilledCase → Type 0
AllCases l [] = true ≡ true
AllCases l (c ∷ cs) = CaseIs l c × AllCases l cs

cases_at_are : (l : Level) (ps : List (Pair (OfCase l))) → all_within (map (λ q. q.0) ps) (unparted l) ≡ true → (q p : Place) → AllCases (spilled l) (s.cases_at (map (λ q. q.1) ps) q p)
cases_at_are l [] h q p = refl
cases_at_are l (c ∷ ps) h q p = (c.2 (left _ _ h) q p, cases_at_are l ps (right _ _ h) q p)

cases_left_are : (l : Level) (cs : List SpilledCase) → AllCases l cs → AreCases l (s.cases_left cs)
cases_left_are l [] h = refl
cases_left_are l (c ∷ cs) h = both (case_is l c.test c.body h.0.test h.0.body) (cases_left_are l cs h.1)

cases_before_are : (l : Level) (cs : List SpilledCase) (xs : List CoreStat) → AllCases l cs → Are l xs → Are l (s.cases_before cs xs)
cases_before_are l [] xs h k = k
cases_before_are l (c ∷ cs) xs h k = cases_before_are l cs _ h.1 (joined l xs c.before k h.0.before)

tested_are : (l : Level) (p : Place) (c : SpilledCase) (test : Option CoreExpr) (xs : List CoreStat) → CaseIs l c → IsThere l test → Are l xs → Are l (s.tested p c test xs)
tested_are l p c None xs h k m = joined l xs c.body m h.body
tested_are l p c (Some t) xs h k m = one l _ _ (joined l xs c.before m h.before) (when_is l t _ k (one l c.body _ h.body (leave_is l p)))

all_tested_are : (l : Level) (p : Place) (cs : List SpilledCase) (xs : List CoreStat) → AllCases l cs → Are l xs → Are l (s.all_tested p cs xs)
all_tested_are l p [] xs h k = k
all_tested_are l p (c ∷ cs) xs h k = all_tested_are l p cs _ h.1 (tested_are l p c c.test xs h.0 h.0.test k)

chosen_are : (l : Level) (p : Place) (cs : List SpilledCase) (xs : List CoreStat) → AllCases l cs → Are l xs → Are l (s.chosen p cs xs)
chosen_are l p cs xs h k = either (Are l) (s.later_has cs) {x = xs ++ stat.Labelled (s.label p) (s.all_tested p cs []) ∷ []} {y = s.cases_before cs xs ++ stat.If (s.cases_left cs) ∷ []}
    (one l xs _ k (labelled_is l _ _ (all_tested_are l p cs [] h refl)))
    (one l _ _ (cases_before_are l cs xs h k) (if_is l _ (cases_left_are l cs h)))

record MatchingIs (l : Level) (m : Matching) : Type 0 where
  tests : Are l m.tests
  cases : AreCases l m.cases

numbered_is : (l : Level) (n : ℕ) (ss : List CoreStat) → Are l ss → case_within (s.case_of (Some (number n)) ss) l ≡ true
numbered_is l n ss h = case_is l (Some (number n)) ss (number_is l n) h

matched_is : (l : Level) (p : Place) (i : ℕ) (c : SpilledCase) (test : Option CoreExpr) (m : Matching) → CaseIs l c → IsThere l test → MatchingIs l m → MatchingIs l (s.matched_test p i c test m)
matched_is l p i c None m h k n = record { tests = n.tests; cases = and_one case_within l m.cases _ n.cases (numbered_is l i c.body h.body) }
matched_is l p i c (Some t) m h k n = record {
  tests = one l _ _ (joined l m.tests c.before n.tests h.before)
      (when_is l _ _ (same_is l _ t (slot_is l p) k) (both (kept_is l (s.deeper 1 p) _ (number_is l i)) (both (leave_is l p) refl)));
  cases = and_one case_within l m.cases _ n.cases (numbered_is l i c.body h.body);
}

all_matched_is : (l : Level) (p : Place) (i : ℕ) (cs : List SpilledCase) (m : Matching) → AllCases l cs → MatchingIs l m → MatchingIs l (s.all_matched p i cs m)
all_matched_is l p i [] m h k = k
all_matched_is l p i (c ∷ cs) m h k = all_matched_is l p (i + 1) cs _ h.1 (matched_is l p i c c.test m h.0 h.0.test k)

late_are : (l : Level) (p : Place) (m : Matching) (count : ℕ) → MatchingIs l m → Are l (s.switched_late p m count)
late_are l p m count h = both (labelled_is l _ _ (one l m.tests _ h.tests (kept_is l (s.deeper 1 p) _ (number_is l (s.default_number count m.default)))))
    (both (switch_is l _ m.cases (slot_is l (s.deeper 1 p)) h.cases) refl)

switched_are : (l : Level) (p : Place) (x : Spilled) (cs : List SpilledCase) (xs : List CoreStat) → SpilledIs l x → AllCases l cs → Are l xs → Are l (s.switched p x cs xs)
switched_are l p x cs xs h k m = either (Are l) (s.any_case_has cs)
    {x = xs ++ x.before ++ s.kept p x.rest ∷ [] ++ s.switched_late p (s.all_matched p 0 cs s.no_match) (length cs)}
    {y = s.cases_before cs (xs ++ x.before) ++ stat.Switch x.rest (s.cases_left cs) ∷ []}
    (joined l _ _ (one l _ _ (joined l xs x.before m h.before) (kept_is l p x.rest h.rest)) (late_are l p _ (length cs) (all_matched_is l p 0 cs s.no_match k (record { tests = refl; cases = refl }))))
    (one l _ _ (cases_before_are l cs _ k (joined l xs x.before m h.before)) (switch_is l x.rest _ h.rest (cases_left_are l cs k)))

-- ## Loops

abbrev MaybeIs : Level → Option Spilled → Type 0
MaybeIs l None = true ≡ true
MaybeIs l (Some x) = SpilledIs l x

rest_maybe_is : (l : Level) (x : Option Spilled) → MaybeIs l x → IsThere l (s.rest_maybe x)
rest_maybe_is l None h = refl
rest_maybe_is l (Some x) h = h.rest

flag_is : (l : Level) (b : Bool) → Is l (s.flag b)
flag_is l b = constant_is l (Truth b)

exit_are : (l : Level) (p : Place) (x : Option Spilled) → MaybeIs l x → Are l (s.exit p x)
exit_are l p None h = refl
exit_are l p (Some x) h = one l x.before _ h.before (when_is l _ _ (linked_is l x.rest _ h.rest (act_is l (op.Unary Not) refl)) (both (leave_is l p) refl))

turn_are : (l : Level) (p : Place) (x : Option Spilled) → MaybeIs l x → Are l (s.turn p x)
turn_are l p None h = refl
turn_are l p (Some x) h = both (when_is l _ _ (slot_is l p) (one l x.before _ h.before (do_is l x.rest h.rest))) (both (kept_is l p _ (flag_is l true)) refl)

headed_is : (l : Level) (p : Place) (labels : List Label) (t : Option Spilled) (u : Option CoreExpr) (body : List CoreStat) → MaybeIs l t → IsThere l u → Are l body → stat_within (s.headed p labels t u body) l ≡ true
headed_is l p labels t u body h k m = loop_is l _ None u _ refl k (joined l (s.exit p t) body (exit_are l p t h) m)

turned_is : (l : Level) (p : Place) (labels : List Label) (t u : Option Spilled) (body : List CoreStat) → MaybeIs l t → MaybeIs l u → Are l body → stat_within (s.turned p labels t u body) l ≡ true
turned_is l p labels t u body h k m = loop_is l _ None None _ refl refl (joined l _ body (joined l (s.turn p u) (s.exit p t) (turn_are l p u k) (exit_are l p t h)) m)

looped_are : (l : Level) (p : Place) (labels : List Label) (t u : Option Spilled) (body xs : List CoreStat) → MaybeIs l t → MaybeIs l u → Are l body → Are l xs → Are l (s.looped p labels t u body xs)
looped_are l p labels t u body xs h k m n =
    let inner = cond (s.has_maybe t) (xs ++ s.headed p labels t (s.rest_maybe u) body ∷ []) (xs ++ stat.Loop labels (s.rest_maybe t) (s.rest_maybe u) body ∷ []) in
    either (Are l) (s.has_maybe u) {x = xs ++ s.kept p (s.flag false) ∷ [] ++ s.turned p labels t u body ∷ []} {y = inner}
    (one l _ _ (one l xs _ n (kept_is l p _ (flag_is l false))) (turned_is l p labels t u body h k m))
    (either (Are l) (s.has_maybe t) {x = xs ++ s.headed p labels t (s.rest_maybe u) body ∷ []} {y = xs ++ stat.Loop labels (s.rest_maybe t) (s.rest_maybe u) body ∷ []}
    (one l xs _ n (headed_is l p labels t (s.rest_maybe u) body h (rest_maybe_is l u k) m))
    (one l xs _ n (loop_is l labels (s.rest_maybe t) (s.rest_maybe u) body (rest_maybe_is l t h) (rest_maybe_is l u k) m)))

-- ## Statements

stat_kept : (l : Level) (z : Stats (relation l)) → OfStat l (within.stat_step (stat_first (relation l) z)) (spills.stat_step (stat_second (relation l) z))
stat_kept l (layer.Do x) h p xs k = said_are (spilled l) _ _ xs (x.2 h p) (λ e. do_is (spilled l) e) k
stat_kept l (layer.If cases) h p xs k = chosen_are (spilled l) p _ xs (cases_at_are l cases h (s.under p) (s.under p)) k
stat_kept l (layer.Switch subject cases) h p xs k = switched_are (spilled l) p _ _ xs (subject.2 (left _ _ h) p) (cases_at_are l cases (right _ _ h) (s.deeper 2 (s.under p)) (s.under p)) k
stat_kept l (layer.Loop labels None None body) h p xs k = looped_are (spilled l) p labels None None _ xs refl refl (stats_kept l body h (s.under p) [] refl) k
stat_kept l (layer.Loop labels None (Some u) body) h p xs k =
    let v = u.1 (s.deeper 1 (s.under p)) in
    looped_are (spilled l) p labels None (Some v) _ xs refl (u.2 (left _ _ h) (s.deeper 1 (s.under p))) (stats_kept l body (right _ _ h) (s.loop_place p (Some v)) [] refl) k
stat_kept l (layer.Loop labels (Some t) None body) h p xs k =
    looped_are (spilled l) p labels (Some (t.1 (s.under p))) None _ xs (t.2 (left _ _ (left _ _ h)) (s.under p)) refl (stats_kept l body (right _ _ h) (s.under p) [] refl) k
stat_kept l (layer.Loop labels (Some t) (Some u) body) h p xs k =
    let v = u.1 (s.deeper 1 (s.under p)) in
    looped_are (spilled l) p labels (Some (t.1 (s.loop_place p (Some v)))) (Some v) _ xs (t.2 (left _ _ (left _ _ h)) (s.loop_place p (Some v)))
    (u.2 (right _ _ (left _ _ h)) (s.deeper 1 (s.under p))) (stats_kept l body (right _ _ h) (s.loop_place p (Some v)) [] refl) k
stat_kept l (layer.Labelled label body) h p xs k = one (spilled l) xs _ k (labelled_is (spilled l) label _ (stats_kept l body h p [] refl))
stat_kept l (layer.Jump goes_on label) h p xs k = one (spilled l) xs _ k (jump_is (spilled l) goes_on label)
stat_kept l (layer.Return x) h p xs k = said_are (spilled l) _ _ xs (x.2 h p) (λ e. return_is (spilled l) e) k
stat_kept l (layer.Throw x) h p xs k = said_are (spilled l) _ _ xs (x.2 h p) (λ e. throw_is (spilled l) e) k
stat_kept l (layer.TryCatch block parameter names handler) h p xs k = one (spilled l) xs _ k (catch_is (spilled l) _ parameter names _ (left _ _ (left _ _ h))
    (stats_kept l block (right _ _ (left _ _ h)) p [] refl) (stats_kept l handler (right _ _ h) p [] refl))
stat_kept l (layer.TryFinally block last) h p xs k = one (spilled l) xs _ k (finally_is (spilled l) _ _ (stats_kept l block (left _ _ h) p [] refl) (stats_kept l last (right _ _ h) p [] refl))
stat_kept l (layer.Scoped names body) h p xs k = one (spilled l) xs _ k (scoped_is (spilled l) names _ (left _ _ h) (stats_kept l body (right _ _ h) p [] refl))
stat_kept l (layer.Yield value kind result) h p xs k = said_are (spilled l) _ _ xs (value.2 (right _ _ h) p) (λ e. yield_is (spilled l) e kind result (or_left l.yields l.links (left _ _ h))) k

kept : (l : Level) → Keeps (relation l)
kept l = record { link = link_kept l; stat = stat_kept l; case = case_kept l; expr = expr_kept l }

-- ## Functions, parts and the core

stats_are : (l : Level) (p : Place) (ss xs : List CoreStat) → Are (unparted l) ss → Are (spilled l) xs → Are (spilled l) (s.all_at (map s.stat_spilled ss) p xs)
stats_are l p [] xs h k = k
stats_are l p (x ∷ ss) xs h k = stats_are l p ss _ (right _ _ h) (stat_related (relation l) (kept l) x (left _ _ h) p xs k)

of_unparted : (g e : Level) (b : Bool) (ss : List CoreStat) → Are (cond b (unparted g) (unparted e)) ss → Are (unparted (cond b g e)) ss
of_unparted g e true ss h = h
of_unparted g e false ss h = h

of_spilled : (g e : Level) (b : Bool) (ss : List CoreStat) → Are (spilled (cond b g e)) ss → Are (cond b (spilled g) (spilled e)) ss
of_spilled g e true ss h = h
of_spilled g e false ss h = h

function_is : (g e : Level) (f : CoreFunction) (fresh : Fresh) → function_within (unparted g) (unparted e) f ≡ true → function_within (spilled g) (spilled e) (s.one_function f fresh).made ≡ true
function_is g e f fresh h =
    let p = s.begins (function_mentions f) fresh in
    let b = is_generator f.kind in
    both (both (stats_are e p f.setup [] (left _ _ (left _ _ h)) refl)
    (of_spilled g e b (s.stats_spilled f.body p) (stats_are (cond b g e) p f.body [] (of_unparted g e b f.body (right _ _ (left _ _ h))) refl)))
    (stats_are e p f.step [] (right _ _ h) refl)

functions_are : (g e : Level) (fs made : List CoreFunction) (fresh : Fresh) → list_all (function_within (unparted g) (unparted e)) fs ≡ true → list_all (function_within (spilled g) (spilled e)) made ≡ true → list_all (function_within (spilled g) (spilled e)) (s.all_functions fs made fresh).made ≡ true
functions_are g e [] made fresh h k = k
functions_are g e (f ∷ fs) made fresh h k = functions_are g e fs _ _ (right _ _ h) (more (function_within (spilled g) (spilled e)) made _ k (function_is g e f fresh (left _ _ h)))

part_is : (e : Level) (x : CorePart) (fresh : Fresh) → part_within (unparted e) x ≡ true → part_within (spilled e) (s.one_part x fresh).made ≡ true
part_is e x fresh h =
    let p = s.begins (part_mentions x) fresh in
    both (stats_are e p x.instantiate [] (left _ _ h) refl) (stats_are e p x.body [] (right _ _ h) refl)

parts_are : (e : Level) (xs made : List CorePart) (fresh : Fresh) → list_all (part_within (unparted e)) xs ≡ true → list_all (part_within (spilled e)) made ≡ true → list_all (part_within (spilled e)) (s.all_parts xs made fresh).made ≡ true
parts_are e [] made fresh h k = k
parts_are e (x ∷ xs) made fresh h k = parts_are e xs _ _ (right _ _ h) (more (part_within (spilled e)) made _ k (part_is e x fresh (left _ _ h)))

pub yields_out : (g e : Level) (core : Core) → IsWithin (unparted g) (unparted e) core → IsWithin (spilled g) (spilled e) (s.with_yields_flat core)
yields_out g e core h = (functions_are g e core.functions [] core.fresh h.0 refl, parts_are e core.parts [] _ h.1 refl)
