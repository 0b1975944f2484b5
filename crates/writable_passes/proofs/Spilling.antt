-- What the flattening of yields makes of what can be written, so can be.
use Rattle.std.specs.List.{list_all}
use Rattle.std.proofs.Common.{◌≡◌, ℕ, ◌+◌, ◌≤◌, ◌<◌, Bool, true, false, ◌&&◌, ◌||◌, not, cond, nat_lt, length, List, [], ◌∷◌, ◌++◌, map, Option, None, Some, is_none, refl, sym, ap, arith, subst, ◌∙◌}
use Rattle.std.proofs.lemmas.Bool.{lt-ltb}
use Rattle.es_outside.specs.declared.events.Site.{Site}
use Rattle.core_ast.specs.declared.parts.Binary.{Binary}
use Rattle.core_ast.specs.declared.parts.Binary.TheVariants.{Same}
use Rattle.core_ast.specs.declared.parts.Constant.TheVariants.{Truth}
use Rattle.core_ast.specs.declared.parts.CoreHead.TheVariants as head
use Rattle.core_ast.specs.declared.parts.CoreOp.{CoreOp}
use Rattle.core_ast.specs.declared.parts.CoreOp.TheVariants as op
use Rattle.core_ast.specs.declared.parts.Key.TheVariants.{WordKey}
use Rattle.core_ast.specs.declared.parts.Label.{Label}
use Rattle.core_ast.specs.declared.parts.Primitive.TheVariants.{DelegateStep, IterStart, ToText}
use Rattle.core_ast.specs.declared.parts.Unary.TheVariants.{Not}
use Rattle.core_ast.specs.declared.parts.When.{When}
use Rattle.core_ast.specs.declared.parts.When.TheVariants.{Falsy}
use Rattle.core_ast.specs.declared.tree.CoreCase.{CoreCase}
use Rattle.core_ast.specs.declared.tree.CoreExpr.{CoreExpr}
use Rattle.core_ast.specs.declared.tree.CoreLink.TheVariants as link
use Rattle.core_ast.specs.declared.tree.CoreStat.{CoreStat}
use Rattle.core_ast.specs.declared.tree.CoreStat.TheVariants as stat
use Rattle.core_ast.specs.Lawful.{is_empty}
use Rattle.core_ast.specs.Made.{linked, undefined}
use Rattle.emission_laws.specs.Writable as w
use Rattle.emission_laws.specs.Writable.{Choice, Piece}
use Rattle.pass_rules.specs.declared.yield_rules.spilling.Chain.{Chain}
use Rattle.pass_rules.specs.declared.yield_rules.spilling.Matching.{Matching}
use Rattle.pass_rules.specs.declared.yield_rules.spilling.Place.{Place}
use Rattle.pass_rules.specs.declared.yield_rules.spilling.Reference.{Reference}
use Rattle.pass_rules.specs.declared.yield_rules.spilling.Reference.TheVariants.{Named, Keyed}
use Rattle.pass_rules.specs.declared.yield_rules.spilling.Settled.{Settled}
use Rattle.pass_rules.specs.declared.yield_rules.spilling.Spilled.{Spilled}
use Rattle.pass_rules.specs.declared.yield_rules.spilling.SpilledCase.{SpilledCase}
use Rattle.pass_rules.specs.yield_rules.Yields as s
use Rattle.pass_rules.specs.yield_rules.Yields.{number, two, when}
use Rattle.pass_rules.proofs.pass_laws.Related.{of_case}
use Rattle.pass_rules.proofs.pass_laws.Within.{left, right, both, either}
use Rattle.lawful_passes.specs.StatesBefore.{of_op}
use Rattle.writable_passes.proofs.Fits.{Are, AreCases, AreParts, Far, Fits, Is, Keys, MaybeFits, act_fits, acting_fits, begun_far, below, case_is, case_no_default, default_choice, default_is, do_is, far_fits, if_is, jump_is, key_among, labelled_is, lazy_piece, lazy_pieces, linked_far, loop_is, more, more_keys, nothing_among, number_fits, one, part_one, return_is, set_is, strict_far, strict_fits, switch_is, undefined_far, undefined_fits, variable_far, variable_fits, when_is, writes, yield_is}

-- ## Expressions so far

pub record SpilledIs (n : ℕ) (x : Spilled) : Type 0 where
  pub before : Are n x.before
  pub rest : Fits n x.rest

pub record SettledIs (n : ℕ) (x : Settled) : Type 0 where
  pub before : Are n x.before
  pub parts : AreParts n x.parts

abbrev pub RefersIn : ℕ → Reference → Type 0
RefersIn n (Named key site) = w.key_fits key ≡ true
RefersIn n (Keyed keys site) = AreParts n keys

abbrev pub MaybeRefers : ℕ → Option Reference → Type 0
MaybeRefers n None = Unit {0}
MaybeRefers n (Some r) = RefersIn n r

-- with keys among these
pub record ChainIs (n : ℕ) (keys : Keys) (c : Chain) : Type 0 where
  pub before : Are n c.before
  pub base : Far n keys c.base
  pub reference : MaybeRefers n c.reference

kept_is : (n : ℕ) (p : Place) (x : CoreExpr) → Fits n x → Is n (s.kept p x)
kept_is n p x h = set_is n (s.slot p) x h

slot_far : (n : ℕ) (keys : Keys) (p : Place) → Far n keys (s.in_slot p)
slot_far n keys p = variable_far n keys (s.slot p)

slot_fits : (n : ℕ) (p : Place) → Fits n (s.in_slot p)
slot_fits n p = variable_fits n (s.slot p)

rest_by : (n : ℕ) (keys : Keys) (x : CoreExpr) (r : Option Reference) → Far n keys x → MaybeRefers n r → Far n keys (s.whole x r)
rest_by n keys x None h k = h
rest_by n keys x (Some (Named key site)) h k = strict_far n keys x (op.Member key) [] site h k refl refl
rest_by n keys x (Some (Keyed ks site)) h k = strict_far n keys x op.Index ks site h refl k refl

pub rest_far : (n : ℕ) (keys : Keys) (c : Chain) → ChainIs n keys c → Far n keys (s.rest c)
rest_far n keys c h = rest_by n keys c.base c.reference h.base h.reference

pub rest_fits : (n : ℕ) (keys : Keys) (c : Chain) → ChainIs n keys c → Fits n (s.rest c)
rest_fits n keys c h = far_fits n keys (s.rest c) (rest_far n keys c h)

pub goes_on_is : (n : ℕ) (keys : Keys) (before : List CoreStat) (x : CoreExpr) → Are n before → Far n keys x → ChainIs n keys (s.going_on before x)
goes_on_is n keys before x h k = record { before = h; base = k; reference = tt }

pub effects_are : (n : ℕ) (x : CoreExpr) (xs : List CoreStat) → Fits n x → Are n xs → Are n (s.with_effects x xs)
effects_are n x xs h k = either (Are n) (s.is_bare_constant x) {x = xs} {y = xs ++ stat.Do x ∷ []} k (one n xs _ k (do_is n x h))

-- ## Parts

abbrev pub AllSpilled : ℕ → List Spilled → Type 0
AllSpilled n [] = Unit {0}
AllSpilled n (x ∷ xs) = SpilledIs n x × AllSpilled n xs

settle_one_is : (n : ℕ) (p : Place) (goes_on : Bool) (x : Spilled) (t : Settled) → SpilledIs n x → SettledIs n t → SettledIs n (s.settle_one p goes_on x t)
settle_one_is n p true x t h k = record { before = one n _ _ (more n t.before x.before k.before h.before) (kept_is n p x.rest h.rest); parts = part_one n t.parts _ k.parts (slot_fits n p) }
settle_one_is n p false x t h k = record { before = more n t.before x.before k.before h.before; parts = part_one n t.parts _ k.parts h.rest }

settle_is : (n : ℕ) (p : Place) (i last : ℕ) (xs : List Spilled) (t : Settled) → AllSpilled n xs → SettledIs n t → SettledIs n (s.settle p i last xs t)
settle_is n p i last [] t h k = k
settle_is n p i last (x ∷ xs) t h k = settle_is n (s.deeper 1 p) (i + 1) last xs _ h.1 (settle_one_is n p (nat_lt (i + 1) last) x t h.0 k)

pub settled_is : (n : ℕ) (p : Place) (xs : List Spilled) → AllSpilled n xs → SettledIs n (s.settled p xs)
settled_is n p xs h = settle_is n p 0 (s.behind_last 0 0 xs) xs _ h (record { before = refl; parts = refl })

-- ## Strict links

-- an operation with its parts behind a slot, or behind what it stood behind
slot_link : (n : ℕ) (keys : Keys) (p : Place) (o : CoreOp) (parts : List CoreExpr) (site : Option Site) → w.op_fits o ≡ true → AreParts n parts → Far n (w.with_key keys (w.defined o)) (linked (s.in_slot p) (link.Strict o parts site))
slot_link n keys p o parts site h k = more_keys n (w.with_key [] (w.defined o)) (w.with_key keys (w.defined o)) _ (key_among [] keys (w.defined o) (nothing_among keys)) (strict_far n [] (s.in_slot p) o parts site (slot_far n [] p) h k (new_first (w.defined o)))
  where
    new_first : (key : Option (List ℕ)) → w.is_new [] key ≡ true
    new_first None = refl
    new_first (Some key) = refl

behind_slot_is : (n : ℕ) (keys : Keys) (p : Place) (o : CoreOp) (t : Settled) (site : Option Site) (c : Chain) → w.op_fits o ≡ true → SettledIs n t → ChainIs n keys c → ChainIs n (w.with_key keys (w.defined o)) (s.behind_slot p o t site c)
behind_slot_is n keys p o t site c h k m = goes_on_is n _ _ _ (more n _ _ (one n c.before _ m.before (kept_is n p _ (rest_fits n keys c m))) k.before) (slot_link n keys p o t.parts site h k.parts)

base_check_is : (n : ℕ) (p : Place) → Is n (s.base_check p)
base_check_is n p = do_is n _ (act_fits n _ _ refl refl (slot_fits n p))

last_is : (n : ℕ) (keys : List CoreExpr) → AreParts n keys → MaybeFits n (s.last_of keys)
last_is n [] h = tt
last_is n (x ∷ []) h = left _ _ h
last_is n (x ∷ y ∷ ys) h = last_is n (y ∷ ys) (right _ _ h)

key_kept_are : (n : ℕ) (p : Place) (key : Option CoreExpr) (xs : List CoreStat) → MaybeFits n key → Are n xs → Are n (s.key_kept p key xs)
key_kept_are n p None xs h k = k
key_kept_are n p (Some key) xs h k = one n xs _ k (kept_is n (s.deeper 1 p) _ (act_fits n key (op.Primitive ToText) refl refl h))

fixed_are : (n : ℕ) (p : Place) (r : Reference) (xs : List CoreStat) → RefersIn n r → Are n xs → Are n (s.fixed p r xs)
unfolding s.fixed
fixed_are n p (Named key site) xs h k = one n xs _ k (base_check_is n p)
fixed_are n p (Keyed keys site) xs h k = key_kept_are n p (s.last_of keys) _ (last_is n keys h) (one n xs _ k (base_check_is n p))

target_far : (n : ℕ) (keys : Keys) (p : Place) (r : Reference) → RefersIn n r → Far n keys (s.target p r)
unfolding s.target
target_far n keys p (Named key site) h = strict_far n keys (s.in_slot p) (op.Member key) [] site (slot_far n keys p) h refl refl
target_far n keys p (Keyed ks site) h = strict_far n keys (s.in_slot p) op.Index _ site (slot_far n keys p) refl (both (slot_fits n (s.deeper 1 p)) refl) refl

referred_fits : (n : ℕ) (p : Place) (r : Reference) → RefersIn n r → Fits n (linked (s.in_slot p) (s.referring r))
referred_fits n p (Named key site) h = strict_fits n _ (op.Member key) [] site refl h refl (slot_fits n p)
referred_fits n p (Keyed ks site) h = strict_fits n _ op.Index ks site refl refl h (slot_fits n p)

method_kept_are : (n : ℕ) (p : Place) (base : CoreExpr) (r : Reference) (xs : List CoreStat) → Fits n base → RefersIn n r → Are n xs → Are n (s.method_kept p base r xs)
method_kept_are n p base r xs h k m = one n _ _ (one n xs _ m (kept_is n p base h)) (kept_is n (s.deeper 1 p) _ (referred_fits n p r k))

called_method_is : (n : ℕ) (keys : Keys) (p : Place) (t : Settled) (site : Option Site) (before : List CoreStat) (base : CoreExpr) (r : Reference) → SettledIs n t → Are n before → Fits n base → RefersIn n r → ChainIs n keys (s.called_method p t site before base r)
called_method_is n keys p t site before base r k h m e = goes_on_is n keys _ _ (more n _ _ (method_kept_are n p base r before m e h) k.before)
    (strict_far n keys _ op.CallWith _ site (slot_far n keys (s.deeper 1 p)) refl (both (slot_fits n p) k.parts) refl)

called_function_is : (n : ℕ) (keys : Keys) (p : Place) (o : CoreOp) (t : Settled) (site : Option Site) (c : Chain) → w.defined o ≡ None → w.op_fits o ≡ true → SettledIs n t → ChainIs n keys c → ChainIs n (w.with_key keys (w.defined o)) (s.called_function p o t site c)
called_function_is n keys p o t site c d h k m = either (ChainIs n (w.with_key keys (w.defined o))) (s.is_bare_host c.base) {x = s.called_host o t site c} {y = s.behind_slot p o t site c}
    (goes_on_is n _ _ _ (more n c.before _ m.before k.before) (strict_far n keys c.base o t.parts site m.base h k.parts (ap (w.is_new keys) d))) (behind_slot_is n keys p o t site c h k m)

called_is : (n : ℕ) (keys : Keys) (p : Place) (t : Settled) (site : Option Site) (c : Chain) (r : Option Reference) → SettledIs n t → ChainIs n keys c → MaybeRefers n r → ChainIs n keys (s.called p t site c r)
called_is n keys p t site c None k m e = called_function_is n keys p op.Call t site c refl refl k m
called_is n keys p t site c (Some r) k m e = called_method_is n keys p t site c.before c.base r k m.before (far_fits n keys c.base m.base) e

reference_kept_are : (n : ℕ) (p : Place) (base : CoreExpr) (r : Reference) (xs : List CoreStat) → Fits n base → RefersIn n r → Are n xs → Are n (s.reference_kept p base r xs)
reference_kept_are n p base r xs h k m = fixed_are n p r _ k (one n xs _ m (kept_is n p base h))

put_is : (n : ℕ) (keys : Keys) (p : Place) (t : Settled) (site : Option Site) (c : Chain) (r : Option Reference) → SettledIs n t → ChainIs n keys c → MaybeRefers n r → ChainIs n keys (s.put p t site c r)
put_is n keys p t site c None k m e = behind_slot_is n keys p op.Put t site c refl k m
put_is n keys p t site c (Some r) k m e = goes_on_is n keys _ _ (more n _ _ (reference_kept_are n p c.base r c.before (far_fits n keys c.base m.base) e m.before) k.before) (strict_far n keys _ op.Put t.parts site (target_far n keys p r e) refl k.parts refl)

updated_is : (n : ℕ) (keys : Keys) (p : Place) (b : Binary) (t : Settled) (site : Option Site) (c : Chain) (r : Option Reference) → SettledIs n t → ChainIs n keys c → MaybeRefers n r → ChainIs n keys (s.updated p b t site c r)
updated_is n keys p b t site c None k m e = behind_slot_is n keys p (op.Update b) t site c refl k m
updated_is n keys p b t site c (Some r) k m e =
    let base = far_fits n keys c.base m.base in
    goes_on_is n keys _ _ (more n _ _ (one n _ _ (reference_kept_are n p c.base r c.before base e m.before) (kept_is n (s.deeper 2 p) _ (far_fits n keys _ (target_far n keys p r e)))) k.before)
    (strict_far n keys _ op.Put _ site (target_far n keys p r e) refl (both (strict_fits n _ (op.Operator b) t.parts None refl refl k.parts (slot_fits n (s.deeper 2 p))) refl) refl)

then_part_is : (n : ℕ) (keys : Keys) (t : Settled) (site : Option Site) (c : Chain) → SettledIs n t → ChainIs n keys c → ChainIs n keys (s.then_part t site c)
then_part_is n keys t site c k m = goes_on_is n keys _ _ (more n _ _ (effects_are n (s.rest c) c.before (rest_fits n keys c m) m.before) k.before) (strict_far n keys undefined op.Then t.parts site (undefined_far n keys) refl k.parts refl)

indexed_is : (n : ℕ) (keys : Keys) (p : Place) (t : Settled) (site : Option Site) (c : Chain) → SettledIs n t → ChainIs n keys c → ChainIs n keys (s.indexed p t site c)
indexed_is n keys p t site c k m = record { before = more n _ _ (one n c.before _ m.before (kept_is n p _ (rest_fits n keys c m))) k.before; base = slot_far n keys p; reference = k.parts }

pub statements_is : (n : ℕ) (keys : Keys) (p : Place) (o : CoreOp) (t : Settled) (site : Option Site) (c : Chain) → w.op_fits o ≡ true → SettledIs n t → ChainIs n keys c → ChainIs n (w.with_key keys (w.defined o)) (s.behind_statements p o t site c)
unfolding s.behind_statements
statements_is n keys p op.Index t site c h k m = indexed_is n keys p t site c k m
statements_is n keys p op.Call t site c h k m = called_is n keys p t site c c.reference k m m.reference
statements_is n keys p op.CallList t site c h k m = called_function_is n keys p op.CallList t site c refl refl k m
statements_is n keys p op.Put t site c h k m = put_is n keys p t site c c.reference k m m.reference
statements_is n keys p (op.Update b) t site c h k m = updated_is n keys p b t site c c.reference k m m.reference
statements_is n keys p op.Then t site c h k m = then_part_is n keys t site c k m
statements_is n keys p o t site c h k m = behind_slot_is n keys p o t site c h k m

-- ## Yields

yielded_is : (n : ℕ) (keys : Keys) (p : Place) (c : Chain) → ChainIs n keys c → ChainIs n keys (s.yielded p c)
yielded_is n keys p c m = goes_on_is n keys _ _ (one n c.before _ m.before (yield_is n _ None (s.slot p) (rest_fits n keys c m))) (slot_far n keys p)

same_fits : (n : ℕ) (x y : CoreExpr) → Fits n x → Fits n y → Fits n (s.is_same x y)
same_fits n x y h k = acting_fits n x (op.Operator Same) y refl refl h k

leave_is : (n : ℕ) (p : Place) → Is n (s.leave p)
leave_is n p = jump_is n false (Some (s.label p))

value_fits : (n : ℕ) (p : Place) → Fits n (s.property p s.value_name)
value_fits n p = act_fits n _ (op.Member (WordKey s.value_name)) refl refl (slot_fits n p)

done_fits : (n : ℕ) (p : Place) → Fits n (s.property p s.done_name)
done_fits n p = act_fits n _ (op.Member (WordKey s.done_name)) refl refl (slot_fits n p)

delegate_step_fits : (n : ℕ) (p : Place) → Fits n (s.delegate_step p)
delegate_step_fits n p = strict_fits n _ (op.Primitive DelegateStep) _ None refl refl (both (slot_fits n (s.deeper 1 p)) (both (slot_fits n (s.deeper 2 p)) refl)) (slot_fits n p)

delegate_loop_is : (n : ℕ) (p : Place) → p.label < n → Is n (s.delegate_loop p)
delegate_loop_is n p l = loop_is n (s.label p ∷ []) None None _ (both (lt-ltb p.label n l) refl) tt tt
    (both (kept_is n (s.deeper 3 p) _ (delegate_step_fits n p))
    (both (when_is n _ _ (same_fits n _ _ (slot_fits n (s.deeper 3 p)) (undefined_fits n)) (both (return_is n _ (slot_fits n (s.deeper 2 p))) refl))
    (both (when_is n _ _ (done_fits n (s.deeper 3 p)) (both (when_is n _ _ (same_fits n _ _ (slot_fits n (s.deeper 1 p)) (number_fits n 2)) (both (return_is n _ (value_fits n (s.deeper 3 p))) refl)) (both (leave_is n p) refl)))
    (both (yield_is n _ (Some (s.slot (s.deeper 1 p))) (s.slot (s.deeper 2 p)) (slot_fits n (s.deeper 3 p))) refl))))

delegated_is : (n : ℕ) (keys : Keys) (p : Place) (c : Chain) → p.label < n → ChainIs n keys c → ChainIs n keys (s.delegated p c)
delegated_is n keys p c l m = goes_on_is n keys _ _
    (one n _ _ (one n _ _ (one n _ _ (one n c.before _ m.before (kept_is n p _ (acting_fits n _ (op.Primitive IterStart) (number 0) refl refl (rest_fits n keys c m) (number_fits n 0))))
    (kept_is n (s.deeper 1 p) _ (number_fits n 0))) (kept_is n (s.deeper 2 p) _ (undefined_fits n))) (delegate_loop_is n p l))
    (strict_far n keys _ (op.Member (WordKey s.value_name)) [] None (slot_far n keys (s.deeper 3 p)) refl refl refl)

-- ## Links without statements

plain_is : (n : ℕ) (keys : Keys) (o : CoreOp) (parts : List CoreExpr) (site : Option Site) (c : Chain) → w.op_fits o ≡ true → AreParts n parts → w.is_new keys (w.defined o) ≡ true → ChainIs n keys c → ChainIs n (w.with_key keys (w.defined o)) (s.plain o parts site c)
plain_is n keys o parts site c h k e m = goes_on_is n _ c.before _ m.before (strict_far n keys (s.rest c) o parts site (rest_far n keys c m) h k e)

refers_is : (n : ℕ) (keys : Keys) (c : Chain) (r : Reference) → RefersIn n r → ChainIs n keys c → ChainIs n keys (s.refers c r)
refers_is n keys c r h m = record { before = m.before; base = rest_far n keys c m; reference = h }

pub value_is : (n : ℕ) (keys : Keys) (p : Place) (o : CoreOp) (parts : List CoreExpr) (site : Option Site) (c : Chain) → p.label + of_op o ≤ n → w.op_fits o ≡ true → AreParts n parts → w.is_new keys (w.defined o) ≡ true → ChainIs n keys c → ChainIs n (w.with_key keys (w.defined o)) (s.behind_value p o parts site c)
unfolding s.behind_value
value_is n keys p op.Yield parts site c l h k e m = yielded_is n keys p c m
value_is n keys p op.Delegate parts site c l h k e m = delegated_is n keys p c (omega arith) m
value_is n keys p (op.Member key) parts site c l h k e m = either (ChainIs n keys) (is_empty parts) {x = s.refers c (Named key site)} {y = s.plain (op.Member key) parts site c} (refers_is n keys c (Named key site) h m) (plain_is n keys (op.Member key) parts site c h k refl m)
value_is n keys p op.Index parts site c l h k e m = refers_is n keys c (Keyed parts site) k m
value_is n keys p o parts site c l h k e m = plain_is n keys o parts site c h k e m

-- ## Branches

branch_are : (n : ℕ) (p : Place) (x : Spilled) → SpilledIs n x → Are n (s.branch p x)
branch_are n p x h = one n x.before _ h.before (kept_is n p x.rest h.rest)

branched_is : (n : ℕ) (keys : Keys) (p : Place) (cases : List CoreCase) (c : Chain) → AreCases n cases → ChainIs n keys c → ChainIs n keys (s.branched p cases c)
branched_is n keys p cases c h m = goes_on_is n keys _ _ (one n _ _ (one n c.before _ m.before (kept_is n p _ (rest_fits n keys c m))) (if_is n cases h)) (slot_far n keys p)

test_fits : (n : ℕ) (p : Place) (x : When) → Fits n (s.test_of p x)
unfolding s.test_of
test_fits n p Falsy = act_fits n _ (op.Unary Not) refl refl (slot_fits n p)
test_fits n p x = slot_fits n p

pub one_branch_is : (n : ℕ) (keys : Keys) (p : Place) (o : When) (x : Spilled) (c : Chain) → SpilledIs n x → ChainIs n keys c → ChainIs n keys (s.one_branch p o x c)
one_branch_is n keys p o x c h m = either (ChainIs n keys) (s.has x) {x = s.branched p (s.first_case p o x ∷ []) c} {y = s.going_on c.before (linked (s.rest c) (link.Lazy o x.rest None))}
    (branched_is n keys p _ c (both (case_is n (s.test_of p o) _ (test_fits n p o) (branch_are n p x h)) refl) m)
    (goes_on_is n keys _ _ m.before (linked_far n keys (s.rest c) _ _ (lazy_piece n o x.rest) (rest_far n keys c m) (both h.rest refl) refl))

pub two_branches_is : (n : ℕ) (keys : Keys) (p : Place) (o : When) (x y : Spilled) (c : Chain) → SpilledIs n x → SpilledIs n y → ChainIs n keys c → ChainIs n keys (s.two_branches p o x y c)
two_branches_is n keys p o x y c h k m = either (ChainIs n keys) (s.has x || s.has y) {x = s.branched p (s.two_cases p o x y) c} {y = s.going_on c.before (linked (s.rest c) (link.Lazy o x.rest (Some y.rest)))}
    (branched_is n keys p _ c (both (case_is n (s.test_of p o) _ (test_fits n p o) (branch_are n p x h)) (both (default_is n _ (branch_are n p y k)) refl)) m)
    (goes_on_is n keys _ _ m.before (linked_far n keys (s.rest c) _ _ (lazy_pieces n o x.rest y.rest) (rest_far n keys c m) (both h.rest k.rest) refl))

-- ## Statements

pub said_are : (n : ℕ) (f : CoreExpr → CoreStat) (x : Spilled) (xs : List CoreStat) → SpilledIs n x → ((e : CoreExpr) → Fits n e → Is n (f e)) → Are n xs → Are n (s.said f x xs)
said_are n f x xs h g k = one n _ _ (more n xs x.before k h.before) (g x.rest h.rest)

pub record CaseIs (n : ℕ) (is_default : Bool) (c : SpilledCase) : Type 0 where
  pub before : Are n c.before
  pub test : MaybeFits n c.test
  pub mark : is_none c.test ≡ is_default
  pub body : Are n c.body

abbrev pub AllCases : ℕ → List Choice → List SpilledCase → Type 0
AllCases n ds [] = ds ≡ []
AllCases n [] (c ∷ cs) = ⊥
AllCases n (d ∷ ds) (c ∷ cs) = CaseIs n d.is_default c × AllCases n ds cs

case_left : (n : ℕ) (test : Option CoreExpr) (body : List CoreStat) → MaybeFits n test → Are n body → (of_case (writes n) (s.case_of test body)).fits ≡ true
case_left n None body h k = default_is n body k
case_left n (Some x) body h k = case_is n x body h k

case_mark : (n : ℕ) (test : Option CoreExpr) (body : List CoreStat) → (of_case (writes n) (s.case_of test body)).is_default ≡ is_none test
case_mark n None body = ap (λ c. c.is_default) (default_choice n body)
case_mark n (Some x) body = case_no_default n x body

cases_left_are : (n : ℕ) (ds : List Choice) (cs : List SpilledCase) → AllCases n ds cs → AreCases n (s.cases_left cs)
cases_left_are n ds [] h = refl
cases_left_are n [] (c ∷ cs) h = absurd h
cases_left_are n (d ∷ ds) (c ∷ cs) h = both (case_left n c.test c.body h.0.test h.0.body) (cases_left_are n ds cs h.1)

left_default : (n : ℕ) (ds : List Choice) (cs : List SpilledCase) (may : Bool) → AllCases n ds cs → w.one_default may ds ≡ true → w.one_default may (map (of_case (writes n)) (s.cases_left cs)) ≡ true
left_default n ds [] may h k = refl
left_default n [] (c ∷ cs) may h k = absurd h
left_default n (d ∷ ds) (c ∷ cs) may h k = subst (λ b. ((not b || may) && w.one_default (not b && may) (map (of_case (writes n)) (s.cases_left cs))) ≡ true) (sym (case_mark n c.test c.body ∙ h.0.mark))
    (both (left _ _ k) (left_default n ds cs _ h.1 (right _ _ k)))

cases_before_are : (n : ℕ) (ds : List Choice) (cs : List SpilledCase) (xs : List CoreStat) → AllCases n ds cs → Are n xs → Are n (s.cases_before cs xs)
cases_before_are n ds [] xs h k = k
cases_before_are n [] (c ∷ cs) xs h k = absurd h
cases_before_are n (d ∷ ds) (c ∷ cs) xs h k = cases_before_are n ds cs _ h.1 (more n xs c.before k h.0.before)

tested_are : (n : ℕ) (p : Place) (c : SpilledCase) (test : Option CoreExpr) (xs : List CoreStat) → Are n c.before → Are n c.body → MaybeFits n test → Are n xs → Are n (s.tested p c test xs)
tested_are n p c None xs h b k m = more n xs c.body m b
tested_are n p c (Some t) xs h b k m = one n _ _ (more n xs c.before m h) (when_is n t _ k (one n c.body _ b (leave_is n p)))

all_tested_are : (n : ℕ) (p : Place) (ds : List Choice) (cs : List SpilledCase) (xs : List CoreStat) → AllCases n ds cs → Are n xs → Are n (s.all_tested p cs xs)
all_tested_are n p ds [] xs h k = k
all_tested_are n p [] (c ∷ cs) xs h k = absurd h
all_tested_are n p (d ∷ ds) (c ∷ cs) xs h k = all_tested_are n p ds cs _ h.1 (tested_are n p c c.test xs h.0.before h.0.body h.0.test k)

pub chosen_are : (n : ℕ) (p : Place) (ds : List Choice) (cs : List SpilledCase) (xs : List CoreStat) → p.label < n → AllCases n ds cs → Are n xs → Are n (s.chosen p cs xs)
chosen_are n p ds cs xs l h k = either (Are n) (s.later_has cs) {x = xs ++ stat.Labelled (s.label p) (s.all_tested p cs []) ∷ []} {y = s.cases_before cs xs ++ stat.If (s.cases_left cs) ∷ []}
    (one n xs _ k (labelled_is n (s.label p) _ (lt-ltb p.label n l) (all_tested_are n p ds cs [] h refl)))
    (one n _ _ (cases_before_are n ds cs xs h k) (if_is n _ (cases_left_are n ds cs h)))

-- cases by their numbers
record MatchingIs (n : ℕ) (m : Matching) : Type 0 where
  tests : Are n m.tests
  cases : AreCases n m.cases
  tested : list_all (λ (c : Choice). not c.is_default) (map (of_case (writes n)) m.cases) ≡ true

cases_one : (n : ℕ) (cs : List CoreCase) (c : CoreCase) → AreCases n cs → (of_case (writes n) c).fits ≡ true → AreCases n (cs ++ c ∷ [])
cases_one n [] c h k = both k refl
cases_one n (x ∷ cs) c h k = both (left _ _ h) (cases_one n cs c (right _ _ h) k)

tested_one : (n : ℕ) (cs : List CoreCase) (c : CoreCase) → list_all (λ (x : Choice). not x.is_default) (map (of_case (writes n)) cs) ≡ true → (of_case (writes n) c).is_default ≡ false → list_all (λ (x : Choice). not x.is_default) (map (of_case (writes n)) (cs ++ c ∷ [])) ≡ true
tested_one n [] c h k = both (ap not k) refl
tested_one n (x ∷ cs) c h k = both (left _ _ h) (tested_one n cs c (right _ _ h) k)

tested_default : (n : ℕ) (cs : List CoreCase) (may : Bool) → list_all (λ (x : Choice). not x.is_default) (map (of_case (writes n)) cs) ≡ true → w.one_default may (map (of_case (writes n)) cs) ≡ true
tested_default n [] may h = refl
tested_default n (c ∷ cs) may h = both (ap (λ x. x || may) (left _ _ h)) (tested_default n cs _ (right _ _ h))

matched_is : (n : ℕ) (p : Place) (i : ℕ) (c : SpilledCase) (test : Option CoreExpr) (m : Matching) → Are n c.before → Are n c.body → MaybeFits n test → MatchingIs n m → MatchingIs n (s.matched_test p i c test m)
matched_is n p i c None m h b k g = record { tests = g.tests; cases = cases_one n m.cases _ g.cases (case_is n (number i) c.body (number_fits n i) b); tested = tested_one n m.cases _ g.tested (case_no_default n (number i) c.body) }
matched_is n p i c (Some t) m h b k g = record {
  tests = one n _ _ (more n m.tests c.before g.tests h) (when_is n _ _ (same_fits n _ t (slot_fits n p) k) (both (kept_is n (s.deeper 1 p) _ (number_fits n i)) (both (leave_is n p) refl)));
  cases = cases_one n m.cases _ g.cases (case_is n (number i) c.body (number_fits n i) b);
  tested = tested_one n m.cases _ g.tested (case_no_default n (number i) c.body);
}

all_matched_is : (n : ℕ) (p : Place) (i : ℕ) (ds : List Choice) (cs : List SpilledCase) (m : Matching) → AllCases n ds cs → MatchingIs n m → MatchingIs n (s.all_matched p i cs m)
all_matched_is n p i ds [] m h k = k
all_matched_is n p i [] (c ∷ cs) m h k = absurd h
all_matched_is n p i (d ∷ ds) (c ∷ cs) m h k = all_matched_is n p (i + 1) ds cs _ h.1 (matched_is n p i c c.test m h.0.before h.0.body h.0.test k)

late_are : (n : ℕ) (p : Place) (m : Matching) (count : ℕ) → p.label < n → MatchingIs n m → Are n (s.switched_late p m count)
late_are n p m count l h = both (labelled_is n (s.label p) _ (lt-ltb p.label n l) (one n m.tests _ h.tests (kept_is n (s.deeper 1 p) _ (number_fits n (s.default_number count m.default)))))
    (both (switch_is n _ m.cases (slot_fits n (s.deeper 1 p)) h.cases (tested_default n m.cases true h.tested)) refl)

pub switched_are : (n : ℕ) (p : Place) (x : Spilled) (ds : List Choice) (cs : List SpilledCase) (xs : List CoreStat) → p.label < n → SpilledIs n x → AllCases n ds cs → w.one_default true ds ≡ true → Are n xs → Are n (s.switched p x cs xs)
switched_are n p x ds cs xs l h k d m = either (Are n) (s.any_case_has cs)
    {x = xs ++ x.before ++ s.kept p x.rest ∷ [] ++ s.switched_late p (s.all_matched p 0 cs s.no_match) (length cs)}
    {y = s.cases_before cs (xs ++ x.before) ++ stat.Switch x.rest (s.cases_left cs) ∷ []}
    (more n _ _ (one n _ _ (more n xs x.before m h.before) (kept_is n p x.rest h.rest)) (late_are n p _ (length cs) l (all_matched_is n p 0 ds cs s.no_match k (record { tests = refl; cases = refl; tested = refl }))))
    (one n _ _ (cases_before_are n ds cs _ k (more n xs x.before m h.before)) (switch_is n x.rest _ h.rest (cases_left_are n ds cs k) (left_default n ds cs true k d)))

-- ## Loops

abbrev pub MaybeIs : ℕ → Option Spilled → Type 0
MaybeIs n None = Unit {0}
MaybeIs n (Some x) = SpilledIs n x

rest_maybe_fits : (n : ℕ) (x : Option Spilled) → MaybeIs n x → MaybeFits n (s.rest_maybe x)
rest_maybe_fits n None h = tt
rest_maybe_fits n (Some x) h = h.rest

flag_fits : (n : ℕ) (b : Bool) → Fits n (s.flag b)
flag_fits n b = far_fits n [] (s.flag b) (begun_far n [] None (head.Constant (Truth b)) refl)

exit_are : (n : ℕ) (p : Place) (x : Option Spilled) → MaybeIs n x → Are n (s.exit p x)
exit_are n p None h = refl
exit_are n p (Some x) h = one n x.before _ h.before (when_is n _ _ (act_fits n x.rest (op.Unary Not) refl refl h.rest) (both (leave_is n p) refl))

turn_are : (n : ℕ) (p : Place) (x : Option Spilled) → MaybeIs n x → Are n (s.turn p x)
turn_are n p None h = refl
turn_are n p (Some x) h = both (when_is n _ _ (slot_fits n p) (one n x.before _ h.before (do_is n x.rest h.rest))) (both (kept_is n p _ (flag_fits n true)) refl)

labels_one : (n : ℕ) (ls : List Label) (l : Label) → list_all (below n) ls ≡ true → below n l ≡ true → list_all (below n) (ls ++ l ∷ []) ≡ true
labels_one n [] l h k = both k refl
labels_one n (x ∷ ls) l h k = both (left _ _ h) (labels_one n ls l (right _ _ h) k)

pub looped_are : (n : ℕ) (p : Place) (labels : List Label) (t u : Option Spilled) (body xs : List CoreStat) → p.label < n → list_all (below n) labels ≡ true → MaybeIs n t → MaybeIs n u → Are n body → Are n xs → Are n (s.looped p labels t u body xs)
looped_are n p labels t u body xs l ls h k m e =
    let inner = cond (s.has_maybe t) (xs ++ s.headed p labels t (s.rest_maybe u) body ∷ []) (xs ++ stat.Loop labels (s.rest_maybe t) (s.rest_maybe u) body ∷ []) in
    let own = labels_one n labels (s.label p) ls (lt-ltb p.label n l) in
    either (Are n) (s.has_maybe u) {x = xs ++ s.kept p (s.flag false) ∷ [] ++ s.turned p labels t u body ∷ []} {y = inner}
    (one n _ _ (one n xs _ e (kept_is n p _ (flag_fits n false))) (loop_is n _ None None _ own tt tt (more n _ body (more n (s.turn p u) (s.exit p t) (turn_are n p u k) (exit_are n p t h)) m)))
    (either (Are n) (s.has_maybe t) {x = xs ++ s.headed p labels t (s.rest_maybe u) body ∷ []} {y = xs ++ stat.Loop labels (s.rest_maybe t) (s.rest_maybe u) body ∷ []}
    (one n xs _ e (loop_is n _ None (s.rest_maybe u) _ own tt (rest_maybe_fits n u k) (more n (s.exit p t) body (exit_are n p t h) m)))
    (one n xs _ e (loop_is n labels (s.rest_maybe t) (s.rest_maybe u) body ls (rest_maybe_fits n t h) (rest_maybe_fits n u k) m)))
