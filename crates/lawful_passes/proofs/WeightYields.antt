-- The flattening of yields keeps what nodes weigh: expressions.
use Rattle.std.proofs.Common.{◌≡◌, ℕ, ◌+◌, Bool, true, false, ◌&&◌, ◌||◌, cond, not, nat_eq, nat_lt, suc, List, [], ◌∷◌, ◌++◌, map, length, Option, None, Some, refl, sym, ap, arith, subst, ◌∙◌}
use Rattle.std.proofs.lemmas.Bool.{eqb-true, false≢true}
use Rattle.pass_rules.proofs.pass_laws.Within.{left, right}
use Rattle.es_outside.specs.declared.events.Site.{Site}
use Rattle.core_ast.specs.declared.parts.Binary.{Binary}
use Rattle.core_ast.specs.declared.parts.Binary.TheVariants as binary
use Rattle.core_ast.specs.declared.parts.Unary.TheVariants.{Not}
use Rattle.core_ast.specs.declared.parts.When.{When}
use Rattle.core_ast.specs.declared.parts.When.TheVariants.{Falsy}
use Rattle.core_ast.specs.declared.parts.Key.TheVariants.{WordKey, TextKey}
use Rattle.core_ast.specs.declared.parts.Constant.TheVariants.{Undefined}
use Rattle.core_ast.specs.declared.parts.CoreHead.{CoreHead}
use Rattle.core_ast.specs.declared.parts.CoreHead.TheVariants as head
use Rattle.core_ast.specs.declared.parts.CoreOp.{CoreOp}
use Rattle.core_ast.specs.declared.parts.CoreOp.TheVariants as op
use Rattle.core_ast.specs.declared.parts.Primitive.TheVariants.{DelegateStep, IterStart, ToText}
use Rattle.core_ast.specs.declared.tree.CoreLink.{CoreLink}
use Rattle.core_ast.specs.declared.tree.CoreCase.{CoreCase}
use Rattle.core_ast.specs.declared.tree.CoreStat.{CoreStat}
use Rattle.core_ast.specs.declared.tree.CoreExpr.{CoreExpr, out-CoreExpr, fold_out-CoreExpr}
use Rattle.core_ast.specs.declared.tree.CoreLink.TheVariants as link
use Rattle.core_ast.specs.declared.tree.CoreStat.TheVariants as stat
use Rattle.core_ast.specs.Lawful.{is_empty}
use Rattle.core_ast.specs.Made.{act, linked, undefined}
use Rattle.pass_rules.specs.declared.yield_rules.spilling.Chain.{Chain}
use Rattle.pass_rules.specs.declared.yield_rules.spilling.Place.{Place}
use Rattle.pass_rules.specs.declared.yield_rules.spilling.Reference.{Reference}
use Rattle.pass_rules.specs.declared.yield_rules.spilling.Reference.TheVariants.{Named, Keyed}
use Rattle.pass_rules.specs.declared.yield_rules.spilling.Settled.{Settled}
use Rattle.pass_rules.specs.declared.yield_rules.spilling.Spilled.{Spilled}
use Rattle.pass_rules.specs.yield_rules.Yields as s
use Rattle.pass_rules.specs.yield_rules.Yields.{number, two, when}
use Rattle.lawful_passes.proofs.Weights.{Such, is_quiet, mark, total, link_step, stat_step, case_step, expr_step, link_marks, case_marks, stat_marks, expr_marks, stats_marks}
use Rattle.lawful_passes.proofs.WeightCounts.{links_marks, exprs_marks, cases_marks, option_marks, total_one, stats_one, stats_more, strict_of, lazy_of, case_of, do_of, if_of, loop_of, jump_of, return_of, yield_of, linked_of, variable_of, constant_of, number_of, two_of, acted_of, set_of, when_of}

-- ## Truths

pub by_test : {A : Type 0} (P : A → Type 0) (b : Bool) (x y : A) → (b ≡ true → P x) → (b ≡ false → P y) → P (cond b x y)
by_test P true x y f g = f refl
by_test P false x y f g = g refl

by_false : (b : Bool) → (b ≡ true → ⊥) → b ≡ false
by_false true h = absurd (h refl)
by_false false h = refl

not_zero : (n : ℕ) → nat_eq (suc n) 0 ≡ false
not_zero n = by_false (nat_eq (suc n) 0) (λ h. let e : suc n ≡ 0 = eqb-true (suc n) 0 h in omega arith)

pub empty_is : {A : Type 0} (xs : List A) → is_empty xs ≡ true → xs ≡ []
empty_is [] h = refl
empty_is (x ∷ xs) h = absurd (false≢true (sym (not_zero (length xs)) ∙ h))

not_empty : {A : Type 0} (xs : List A) (y : A) → is_empty (xs ++ y ∷ []) ≡ false
not_empty [] y = refl
not_empty (x ∷ xs) y = not_zero _

and_false : (a b : Bool) → b ≡ false → (a && b) ≡ false
and_false true b h = h
and_false false b h = refl

pub or_false : (a b : Bool) → (a || b) ≡ false → (a ≡ false) × (b ≡ false)
or_false true b h = absurd (false≢true (sym h))
or_false false b h = (refl, h)

pub not_false : (b : Bool) → not b ≡ false → b ≡ true
not_false true h = refl
not_false false h = absurd (false≢true (sym h))

-- ## Marks of chains

pub unmarked : (such : Such) (o : CoreOp) (site : Option Site) → is_quiet o ≡ true → mark such o site ≡ 0
unmarked such o site h = such.quiet o h

abbrev pub reference_marks : Such → Option Reference → ℕ
reference_marks such None = 0
reference_marks such (Some (Named key site)) = 0
reference_marks such (Some (Keyed keys site)) = exprs_marks such keys

abbrev pub chain_marks : Such → Chain → ℕ
chain_marks such c = stats_marks such c.before + expr_marks such c.base + reference_marks such c.reference

-- a key stands behind no bare host, and is the only part
abbrev pub IsKeyed : Such → CoreExpr → Option Reference → Type 0
IsKeyed such x None = true ≡ true
IsKeyed such x (Some (Named key site)) = true ≡ true
IsKeyed such x (Some (Keyed keys site)) = (s.is_bare_host x ≡ false) × (option_marks such (s.last_of keys) ≡ exprs_marks such keys)

pub record ChainOf (such : Such) (n : ℕ) (c : Chain) : Type 0 where
  pub count : chain_marks such c ≡ n
  pub bare : s.is_bare_host (s.rest c) ≡ false
  pub keyed : IsKeyed such c.base c.reference

pub linked_bare : (x : CoreExpr) (k : CoreLink) → s.is_bare_host (linked x k) ≡ false
linked_bare x k = and_false (s.is_host (out-CoreExpr x).head) _ (not_empty (out-CoreExpr x).links k)

slot_bare : (p : Place) → s.is_bare_host (s.in_slot p) ≡ false
unfolding s.is_host
slot_bare p = refl

pub undefined_bare : s.is_bare_host undefined ≡ false
unfolding s.is_host
undefined_bare = refl

referring_of : (such : Such) (r : Reference) → link_marks such (s.referring r) ≡ reference_marks such (Some r)
referring_of such (Named key site) = let a = strict_of such (op.Member key) [] site in let b = unmarked such (op.Member key) site refl in omega arith
referring_of such (Keyed keys site) = let a = strict_of such op.Index keys site in let b = unmarked such op.Index site refl in omega arith

whole_of : (such : Such) (x : CoreExpr) (r : Option Reference) → expr_marks such (s.whole x r) ≡ expr_marks such x + reference_marks such r
whole_of such x None = omega arith
whole_of such x (Some r) = linked_of such x (s.referring r) ∙ ap (λ n. expr_marks such x + n) (referring_of such r)

pub rest_of : (such : Such) (c : Chain) → expr_marks such (s.rest c) ≡ expr_marks such c.base + reference_marks such c.reference
rest_of such c = whole_of such c.base c.reference

slot_of : (such : Such) (p : Place) → expr_marks such (s.in_slot p) ≡ 0
slot_of such p = variable_of such (s.slot p)

pub kept_of : (such : Such) (p : Place) (x : CoreExpr) → stat_marks such (s.kept p x) ≡ expr_marks such x
kept_of such p x = set_of such (s.slot p) x

-- what goes on with an expression that is no bare host
pub goes_on_of : (such : Such) (before : List CoreStat) (x : CoreExpr) (n : ℕ) → stats_marks such before + expr_marks such x ≡ n → s.is_bare_host x ≡ false → ChainOf such n (s.going_on before x)
goes_on_of such before x n h b = record { count = omega arith; bare = b; keyed = refl }

-- the same of one link more
pub goes_linked : (such : Such) (before : List CoreStat) (x : CoreExpr) (k : CoreLink) (n : ℕ) → stats_marks such before + (expr_marks such x + link_marks such k) ≡ n → ChainOf such n (s.going_on before (linked x k))
goes_linked such before x k n h = goes_on_of such before (linked x k) n (ap (λ m. stats_marks such before + m) (linked_of such x k) ∙ h) (linked_bare x k)

constant_head : (such : Such) (h : CoreHead) → s.is_constant h ≡ true → such.weighs h ≡ 0
unfolding s.is_constant
constant_head such (head.Constant c) k = such.constant c
constant_head such h k = absurd (false≢true k)

constant_marks : (such : Such) (x : CoreExpr) → s.is_bare_constant x ≡ true → expr_marks such x ≡ 0
constant_marks such x h =
    let o = fold_out-CoreExpr ℕ ℕ ℕ ℕ (link_step such) (stat_step such) case_step (expr_step such) x in
    let a = ap (links_marks such) (empty_is (out-CoreExpr x).links (right (s.is_constant (out-CoreExpr x).head) _ h)) in
    let b = constant_head such (out-CoreExpr x).head (left (s.is_constant (out-CoreExpr x).head) _ h) in omega arith

pub effects_of : (such : Such) (x : CoreExpr) (xs : List CoreStat) → stats_marks such (s.with_effects x xs) ≡ stats_marks such xs + expr_marks such x
effects_of such x xs = by_test (λ ys. stats_marks such ys ≡ stats_marks such xs + expr_marks such x) (s.is_bare_constant x) xs (xs ++ stat.Do x ∷ [])
    (λ h. let a = constant_marks such x h in omega arith) (λ h. let a = stats_one such xs (stat.Do x) in let b = do_of such x in omega arith)

-- ## Parts

abbrev pub spilled_marks : Such → Spilled → ℕ
spilled_marks such x = stats_marks such x.before + expr_marks such x.rest

abbrev pub settled_marks : Such → Settled → ℕ
settled_marks such t = stats_marks such t.before + exprs_marks such t.parts

settle_one_of : (such : Such) (p : Place) (goes_on : Bool) (x : Spilled) (t : Settled) → settled_marks such (s.settle_one p goes_on x t) ≡ settled_marks such t + spilled_marks such x
settle_one_of such p true x t =
    let a = stats_one such (t.before ++ x.before) (s.kept p x.rest) in let b = stats_more such t.before x.before in let c = kept_of such p x.rest in
    let d = total_one (expr_marks such) t.parts (s.in_slot p) in let e = slot_of such p in omega arith
settle_one_of such p false x t = let b = stats_more such t.before x.before in let d = total_one (expr_marks such) t.parts x.rest in omega arith

settle_of : (such : Such) (p : Place) (i last : ℕ) (xs : List Spilled) (t : Settled) → settled_marks such (s.settle p i last xs t) ≡ settled_marks such t + total (map (spilled_marks such) xs)
settle_of such p i last [] t = omega arith
settle_of such p i last (x ∷ xs) t =
    let a = settle_of such (s.deeper 1 p) (i + 1) last xs (s.settle_one p (nat_lt (i + 1) last) x t) in let b = settle_one_of such p (nat_lt (i + 1) last) x t in omega arith

pub settled_of : (such : Such) (p : Place) (xs : List Spilled) → settled_marks such (s.settled p xs) ≡ total (map (spilled_marks such) xs)
settled_of such p xs = let a = settle_of such p 0 (s.behind_last 0 0 xs) xs (record { before = []; parts = [] }) in omega arith

-- of one part
only_of : (such : Such) (p : Place) (b : Bool) (x : Spilled) → option_marks such (s.last_of (s.settle_one p b x (record { before = []; parts = [] })).parts) ≡ exprs_marks such (s.settle_one p b x (record { before = []; parts = [] })).parts
only_of such p true x = omega arith
only_of such p false x = omega arith

pub only_part : (such : Such) (p : Place) (x : Spilled) → option_marks such (s.last_of (s.settled p (x ∷ [])).parts) ≡ exprs_marks such (s.settled p (x ∷ [])).parts
only_part such p x = only_of such p (nat_lt (0 + 1) (s.behind_last 0 0 (x ∷ []))) x

-- ## Strict links

behind_slot_of : (such : Such) (p : Place) (o : CoreOp) (t : Settled) (site : Option Site) (c : Chain) → ChainOf such (chain_marks such c + settled_marks such t + mark such o site) (s.behind_slot p o t site c)
behind_slot_of such p o t site c = goes_linked such (c.before ++ s.kept p (s.rest c) ∷ [] ++ t.before) (s.in_slot p) (link.Strict o t.parts site) _
    (let a = stats_more such (c.before ++ s.kept p (s.rest c) ∷ []) t.before in let b = stats_one such c.before (s.kept p (s.rest c)) in let d = kept_of such p (s.rest c) in let e = rest_of such c in
    let g = slot_of such p in let h = strict_of such o t.parts site in omega arith)

base_check_of : (such : Such) (p : Place) → stat_marks such (s.base_check p) ≡ 0
base_check_of such p = do_of such _ ∙ acted_of such (s.in_slot p) (op.Member (TextKey (64 ∷ 64 ∷ 98 ∷ 97 ∷ 115 ∷ 101 ∷ []))) refl ∙ slot_of such p

key_kept_of : (such : Such) (p : Place) (key : Option CoreExpr) (xs : List CoreStat) → stats_marks such (s.key_kept p key xs) ≡ stats_marks such xs + option_marks such key
key_kept_of such p None xs = omega arith
key_kept_of such p (Some key) xs = let a = stats_one such xs (s.kept (s.deeper 1 p) (linked key (act (op.Primitive ToText)))) in let b = kept_of such (s.deeper 1 p) (linked key (act (op.Primitive ToText))) in let d = acted_of such key (op.Primitive ToText) refl in omega arith

fixed_of : (such : Such) (p : Place) (x : CoreExpr) (r : Reference) (xs : List CoreStat) → IsKeyed such x (Some r) → stats_marks such (s.fixed p r xs) ≡ stats_marks such xs + reference_marks such (Some r)
unfolding s.fixed
fixed_of such p x (Named key site) xs h = let a = stats_one such xs (s.base_check p) in let b = base_check_of such p in omega arith
fixed_of such p x (Keyed keys site) xs h =
    let d = key_kept_of such p (s.last_of keys) (xs ++ s.base_check p ∷ []) in let a = stats_one such xs (s.base_check p) in let b = base_check_of such p in let e = h.1 in omega arith

target_of : (such : Such) (p : Place) (r : Reference) → expr_marks such (s.target p r) ≡ 0
unfolding s.target
target_of such p (Named key site) = let a = linked_of such (s.in_slot p) (link.Strict (op.Member key) [] site) in let b = slot_of such p in let c = strict_of such (op.Member key) [] site in let d = unmarked such (op.Member key) site refl in omega arith
target_of such p (Keyed keys site) =
    let a = linked_of such (s.in_slot p) (link.Strict op.Index (s.in_slot (s.deeper 1 p) ∷ []) site) in let b = slot_of such p in let c = strict_of such op.Index (s.in_slot (s.deeper 1 p) ∷ []) site in
    let d = unmarked such op.Index site refl in let e = slot_of such (s.deeper 1 p) in omega arith

-- nothing of a reference is lost where a bare host is called
no_keys : (such : Such) (x : CoreExpr) (r : Option Reference) → IsKeyed such x r → s.is_bare_host x ≡ true → reference_marks such r ≡ 0
no_keys such x None h b = refl
no_keys such x (Some (Named key site)) h b = refl
no_keys such x (Some (Keyed keys site)) h b = absurd (false≢true (sym h.0 ∙ b))

called_function_of : (such : Such) (p : Place) (o : CoreOp) (t : Settled) (site : Option Site) (c : Chain) → IsKeyed such c.base c.reference → ChainOf such (chain_marks such c + settled_marks such t + mark such o site) (s.called_function p o t site c)
called_function_of such p o t site c k = by_test (ChainOf such (chain_marks such c + settled_marks such t + mark such o site)) (s.is_bare_host c.base) (s.called_host o t site c) (s.behind_slot p o t site c)
    (λ h. goes_linked such (c.before ++ t.before) c.base (link.Strict o t.parts site) _ (let a = stats_more such c.before t.before in let d = strict_of such o t.parts site in let e = no_keys such c.base c.reference k h in omega arith))
    (λ h. behind_slot_of such p o t site c)

same_mark : (such : Such) (site : Option Site) → mark such op.CallWith site ≡ mark such op.Call site
same_mark such site = such.quiet op.CallWith refl ∙ sym (such.quiet op.Call refl)

called_method_of : (such : Such) (p : Place) (t : Settled) (site : Option Site) (before : List CoreStat) (x : CoreExpr) (r : Reference) → ChainOf such (stats_marks such before + expr_marks such x + reference_marks such (Some r) + settled_marks such t + mark such op.Call site) (s.called_method p t site before x r)
called_method_of such p t site before x r = goes_linked such (s.method_kept p x r before ++ t.before) (s.in_slot (s.deeper 1 p)) (link.Strict op.CallWith (s.in_slot p ∷ t.parts) site) _
    (let a = stats_more such (s.method_kept p x r before) t.before in
    let b = stats_one such (before ++ s.kept p x ∷ []) (s.kept (s.deeper 1 p) (linked (s.in_slot p) (s.referring r))) in let d = stats_one such before (s.kept p x) in
    let e = kept_of such p x in let f = kept_of such (s.deeper 1 p) (linked (s.in_slot p) (s.referring r)) in let g = linked_of such (s.in_slot p) (s.referring r) in let h = slot_of such p in let i = referring_of such r in
    let k = slot_of such (s.deeper 1 p) in let l = strict_of such op.CallWith (s.in_slot p ∷ t.parts) site in
    let m = same_mark such site in omega arith)

-- what is put to a reference
put_of : (such : Such) (p : Place) (t : Settled) (site : Option Site) (c : Chain) (r : Option Reference) → c.reference ≡ r → IsKeyed such c.base r → ChainOf such (stats_marks such c.before + expr_marks such c.base + reference_marks such r + settled_marks such t + mark such op.Put site) (s.put p t site c r)
put_of such p t site c None e k = subst (λ r. ChainOf such (stats_marks such c.before + expr_marks such c.base + reference_marks such r + settled_marks such t + mark such op.Put site) (s.behind_slot p op.Put t site c)) e (behind_slot_of such p op.Put t site c)
put_of such p t site c (Some r) e k = goes_linked such (s.reference_kept p c.base r c.before ++ t.before) (s.target p r) (link.Strict op.Put t.parts site) _
    (let a = stats_more such (s.reference_kept p c.base r c.before) t.before in let b = fixed_of such p c.base r (c.before ++ s.kept p c.base ∷ []) k in let d = stats_one such c.before (s.kept p c.base) in
    let f = kept_of such p c.base in let g = target_of such p r in let h = strict_of such op.Put t.parts site in omega arith)

updated_of : (such : Such) (p : Place) (b : Binary) (t : Settled) (site : Option Site) (c : Chain) (r : Option Reference) → c.reference ≡ r → IsKeyed such c.base r → ChainOf such (stats_marks such c.before + expr_marks such c.base + reference_marks such r + settled_marks such t + mark such (op.Update b) site) (s.updated p b t site c r)
updated_of such p b t site c None e k = subst (λ r. ChainOf such (stats_marks such c.before + expr_marks such c.base + reference_marks such r + settled_marks such t + mark such (op.Update b) site) (s.behind_slot p (op.Update b) t site c)) e (behind_slot_of such p (op.Update b) t site c)
updated_of such p b t site c (Some r) e k =
    goes_linked such (s.old_kept p c.base r c.before ++ t.before) (s.target p r) (link.Strict op.Put (s.changed p b t.parts ∷ []) site) _
    (let a = stats_more such (s.old_kept p c.base r c.before) t.before in let i = stats_one such (s.reference_kept p c.base r c.before) (s.kept (s.deeper 2 p) (s.target p r)) in let j = kept_of such (s.deeper 2 p) (s.target p r) in
    let l = fixed_of such p c.base r (c.before ++ s.kept p c.base ∷ []) k in let d = stats_one such c.before (s.kept p c.base) in
    let f = kept_of such p c.base in let g = target_of such p r in let h = strict_of such op.Put (s.changed p b t.parts ∷ []) site in
    let m = linked_of such (s.in_slot (s.deeper 2 p)) (link.Strict (op.Operator b) t.parts None) in let n = slot_of such (s.deeper 2 p) in let o = strict_of such (op.Operator b) t.parts None in
    let q = unmarked such op.Put site refl in let u = unmarked such (op.Update b) site refl in let y = unmarked such (op.Operator b) site refl in omega arith)

called_of : (such : Such) (p : Place) (t : Settled) (site : Option Site) (c : Chain) (r : Option Reference) → c.reference ≡ r → IsKeyed such c.base c.reference → ChainOf such (stats_marks such c.before + expr_marks such c.base + reference_marks such r + settled_marks such t + mark such op.Call site) (s.called p t site c r)
called_of such p t site c None e k = subst (λ r. ChainOf such (stats_marks such c.before + expr_marks such c.base + reference_marks such r + settled_marks such t + mark such op.Call site) (s.called_function p op.Call t site c)) e (called_function_of such p op.Call t site c k)
called_of such p t site c (Some r) e k = called_method_of such p t site c.before c.base r

then_part_of : (such : Such) (t : Settled) (site : Option Site) (c : Chain) → ChainOf such (chain_marks such c + settled_marks such t + mark such op.Then site) (s.then_part t site c)
then_part_of such t site c = goes_linked such (s.with_effects (s.rest c) c.before ++ t.before) undefined (link.Strict op.Then t.parts site) _
    (let a = stats_more such (s.with_effects (s.rest c) c.before) t.before in let b = effects_of such (s.rest c) c.before in let d = rest_of such c in let e = constant_of such Undefined in let f = strict_of such op.Then t.parts site in omega arith)

-- a key is the only part
abbrev pub IsOnly : Such → CoreOp → Settled → Type 0
IsOnly such o t = o ≡ op.Index → option_marks such (s.last_of t.parts) ≡ exprs_marks such t.parts

indexed_of : (such : Such) (p : Place) (t : Settled) (site : Option Site) (c : Chain) → option_marks such (s.last_of t.parts) ≡ exprs_marks such t.parts → ChainOf such (chain_marks such c + settled_marks such t + mark such op.Index site) (s.indexed p t site c)
indexed_of such p t site c h = record {
  count = let a = stats_more such (c.before ++ s.kept p (s.rest c) ∷ []) t.before in let b = stats_one such c.before (s.kept p (s.rest c)) in let d = kept_of such p (s.rest c) in let e = rest_of such c in
      let f = slot_of such p in let g = unmarked such op.Index site refl in omega arith;
  bare = linked_bare (s.in_slot p) (s.referring (Keyed t.parts site));
  keyed = (slot_bare p, h);
}

pub statements_of : (such : Such) (p : Place) (o : CoreOp) (t : Settled) (site : Option Site) (c : Chain) → IsOnly such o t → IsKeyed such c.base c.reference → ChainOf such (chain_marks such c + settled_marks such t + mark such o site) (s.behind_statements p o t site c)
unfolding s.behind_statements
statements_of such p op.Index t site c h k = indexed_of such p t site c (h refl)
statements_of such p op.Call t site c h k = called_of such p t site c c.reference refl k
statements_of such p op.CallList t site c h k = called_function_of such p op.CallList t site c k
statements_of such p op.Put t site c h k = put_of such p t site c c.reference refl k
statements_of such p (op.Update b) t site c h k = updated_of such p b t site c c.reference refl k
statements_of such p op.Then t site c h k = then_part_of such t site c
statements_of such p o t site c h k = behind_slot_of such p o t site c

-- ## Yields

yielded_of : (such : Such) (p : Place) (c : Chain) → ChainOf such (chain_marks such c) (s.yielded p c)
yielded_of such p c = goes_on_of such (c.before ++ stat.Yield (s.rest c) None (s.slot p) ∷ []) (s.in_slot p) _
    (let a = stats_one such c.before (stat.Yield (s.rest c) None (s.slot p)) in let b = yield_of such (s.rest c) None (s.slot p) in let d = rest_of such c in let e = slot_of such p in omega arith) (slot_bare p)

property_of : (such : Such) (p : Place) (name : List ℕ) → expr_marks such (s.property p name) ≡ 0
property_of such p name = acted_of such (s.in_slot p) (op.Member (WordKey name)) refl ∙ slot_of such p

leave_of : (such : Such) (p : Place) → stat_marks such (s.leave p) ≡ 0
leave_of such p = jump_of such false (Some (s.label p))

delegate_step_of : (such : Such) (p : Place) → expr_marks such (s.delegate_step p) ≡ 0
delegate_step_of such p =
    let a = linked_of such (s.in_slot p) (link.Strict (op.Primitive DelegateStep) (s.in_slot (s.deeper 1 p) ∷ s.in_slot (s.deeper 2 p) ∷ []) None) in let b = slot_of such p in
    let c = strict_of such (op.Primitive DelegateStep) (s.in_slot (s.deeper 1 p) ∷ s.in_slot (s.deeper 2 p) ∷ []) None in let d = slot_of such (s.deeper 1 p) in let e = slot_of such (s.deeper 2 p) in let f = such.quiet (op.Primitive DelegateStep) refl in omega arith

no_return_of : (such : Such) (p : Place) → stat_marks such (s.no_return p) ≡ 0
no_return_of such p =
    let a = when_of such (s.is_same (s.in_slot (s.deeper 3 p)) undefined) (stat.Return (s.in_slot (s.deeper 2 p)) ∷ []) in let b = two_of such (s.in_slot (s.deeper 3 p)) (op.Operator binary.Same) undefined refl in
    let c = slot_of such (s.deeper 3 p) in let d = constant_of such Undefined in let e = return_of such (s.in_slot (s.deeper 2 p)) in let f = slot_of such (s.deeper 2 p) in omega arith

returned_of : (such : Such) (p : Place) → stat_marks such (s.returned p) ≡ 0
returned_of such p =
    let a = when_of such (s.is_same (s.in_slot (s.deeper 1 p)) (number 2)) (stat.Return (s.property (s.deeper 3 p) s.value_name) ∷ []) in let b = two_of such (s.in_slot (s.deeper 1 p)) (op.Operator binary.Same) (number 2) refl in
    let c = slot_of such (s.deeper 1 p) in let d = number_of such 2 in let e = return_of such (s.property (s.deeper 3 p) s.value_name) in let f = property_of such (s.deeper 3 p) s.value_name in omega arith

is_done_of : (such : Such) (p : Place) → stat_marks such (s.is_done p) ≡ 0
is_done_of such p =
    let a = when_of such (s.property (s.deeper 3 p) s.done_name) (s.returned p ∷ s.leave p ∷ []) in let b = property_of such (s.deeper 3 p) s.done_name in
    let c = returned_of such p in let d = leave_of such p in omega arith

delegate_loop_of : (such : Such) (p : Place) → stat_marks such (s.delegate_loop p) ≡ 0
delegate_loop_of such p =
    let a = loop_of such (s.label p ∷ []) None None (s.delegate_body p) in
    let b = kept_of such (s.deeper 3 p) (s.delegate_step p) in let c = delegate_step_of such p in let d = no_return_of such p in let e = is_done_of such p in
    let f = yield_of such (s.in_slot (s.deeper 3 p)) (Some (s.slot (s.deeper 1 p))) (s.slot (s.deeper 2 p)) in let g = slot_of such (s.deeper 3 p) in omega arith

delegate_begin_of : (such : Such) (p : Place) (x : CoreExpr) (xs : List CoreStat) → stats_marks such (s.delegate_begin p x xs) ≡ stats_marks such xs + expr_marks such x
delegate_begin_of such p x xs =
    let first = s.kept p (two x (op.Primitive IterStart) (number 0)) in let second = s.kept (s.deeper 1 p) (number 0) in let third = s.kept (s.deeper 2 p) undefined in
    let a = stats_one such ((xs ++ first ∷ []) ++ second ∷ []) third in let b = stats_one such (xs ++ first ∷ []) second in let c = stats_one such xs first in
    let d = kept_of such p (two x (op.Primitive IterStart) (number 0)) in let e = two_of such x (op.Primitive IterStart) (number 0) refl in let f = number_of such 0 in
    let g = kept_of such (s.deeper 1 p) (number 0) in let h = kept_of such (s.deeper 2 p) undefined in let i = constant_of such Undefined in omega arith

delegated_of : (such : Such) (p : Place) (c : Chain) → ChainOf such (chain_marks such c) (s.delegated p c)
delegated_of such p c = goes_on_of such (s.delegate_begin p (s.rest c) c.before ++ s.delegate_loop p ∷ []) (s.property (s.deeper 3 p) s.value_name) _
    (let a = stats_one such (s.delegate_begin p (s.rest c) c.before) (s.delegate_loop p) in let b = delegate_loop_of such p in let d = delegate_begin_of such p (s.rest c) c.before in let e = rest_of such c in
    let f = property_of such (s.deeper 3 p) s.value_name in omega arith) (linked_bare (s.in_slot (s.deeper 3 p)) (act (op.Member (WordKey s.value_name))))

-- ## Links

refers_of : (such : Such) (c : Chain) (r : Reference) (n : ℕ) → chain_marks such c + reference_marks such (Some r) ≡ n → IsKeyed such (s.rest c) (Some r) → ChainOf such n (s.refers c r)
refers_of such c r n h k = record { count = let a = rest_of such c in omega arith; bare = linked_bare (s.rest c) (s.referring r); keyed = k }

plain_of : (such : Such) (o : CoreOp) (parts : List CoreExpr) (site : Option Site) (c : Chain) → ChainOf such (chain_marks such c + exprs_marks such parts + mark such o site) (s.plain o parts site c)
plain_of such o parts site c = goes_linked such c.before (s.rest c) (link.Strict o parts site) _ (let a = rest_of such c in let b = strict_of such o parts site in omega arith)

abbrev pub is_yield : CoreOp → Bool
is_yield op.Yield = true
is_yield op.Delegate = true
is_yield o = false

abbrev pub HasNone : Such → CoreOp → List CoreExpr → Type 0
HasNone such o parts = is_yield o ≡ true → exprs_marks such parts ≡ 0

pub value_of : (such : Such) (p : Place) (o : CoreOp) (parts : List CoreExpr) (site : Option Site) (c : Chain) → HasNone such o parts → (o ≡ op.Index → (s.is_bare_host (s.rest c) ≡ false) × (option_marks such (s.last_of parts) ≡ exprs_marks such parts))
    → ChainOf such (chain_marks such c + exprs_marks such parts + mark such o site) (s.behind_value p o parts site c)
unfolding s.behind_value
value_of such p op.Yield parts site c h k = subst (λ n. ChainOf such n (s.yielded p c)) (let a = h refl in let b = unmarked such op.Yield site refl in omega arith) (yielded_of such p c)
value_of such p op.Delegate parts site c h k = subst (λ n. ChainOf such n (s.delegated p c)) (let a = h refl in let b = unmarked such op.Delegate site refl in omega arith) (delegated_of such p c)
value_of such p (op.Member key) parts site c h k = by_test (ChainOf such (chain_marks such c + exprs_marks such parts + mark such (op.Member key) site)) (is_empty parts) (s.refers c (Named key site)) (s.plain (op.Member key) parts site c)
    (λ e. refers_of such c (Named key site) _ (let a = ap (exprs_marks such) (empty_is parts e) in let b = unmarked such (op.Member key) site refl in omega arith) refl)
    (λ e. plain_of such (op.Member key) parts site c)
value_of such p op.Index parts site c h k = refers_of such c (Keyed parts site) _ (let b = unmarked such op.Index site refl in omega arith) (k refl)
value_of such p o parts site c h k = plain_of such o parts site c

-- ## Branches

branch_of : (such : Such) (p : Place) (x : Spilled) → stats_marks such (s.branch p x) ≡ spilled_marks such x
branch_of such p x = let a = stats_one such x.before (s.kept p x.rest) in let b = kept_of such p x.rest in omega arith

test_of : (such : Such) (p : Place) (w : When) → expr_marks such (s.test_of p w) ≡ 0
unfolding s.test_of
test_of such p Falsy = acted_of such (s.in_slot p) (op.Unary Not) refl ∙ slot_of such p
test_of such p w = slot_of such p

first_of : (such : Such) (p : Place) (w : When) (x : Spilled) → case_marks such (s.first_case p w x) ≡ spilled_marks such x
first_of such p w x = let a = case_of such (Some (s.test_of p w)) (s.branch p x) in let b = test_of such p w in let c = branch_of such p x in omega arith

branched_of : (such : Such) (p : Place) (cases : List CoreCase) (c : Chain) → ChainOf such (chain_marks such c + cases_marks such cases) (s.branched p cases c)
branched_of such p cases c = goes_on_of such (c.before ++ s.kept p (s.rest c) ∷ [] ++ stat.If cases ∷ []) (s.in_slot p) _
    (let a = stats_one such (c.before ++ s.kept p (s.rest c) ∷ []) (stat.If cases) in let b = stats_one such c.before (s.kept p (s.rest c)) in let d = kept_of such p (s.rest c) in let e = rest_of such c in
    let f = if_of such cases in let g = slot_of such p in omega arith) (slot_bare p)

-- what has no statements has no marks in them
pub has_none : (such : Such) (x : Spilled) → s.has x ≡ false → stats_marks such x.before ≡ 0
has_none such x h = ap (stats_marks such) (empty_is x.before (not_false _ h))

pub one_branch_of : (such : Such) (p : Place) (w : When) (x : Spilled) (c : Chain) → ChainOf such (chain_marks such c + spilled_marks such x) (s.one_branch p w x c)
one_branch_of such p w x c = by_test (ChainOf such (chain_marks such c + spilled_marks such x)) (s.has x) (s.branched p (s.first_case p w x ∷ []) c) (s.going_on c.before (linked (s.rest c) (link.Lazy w x.rest None)))
    (λ e. subst (λ n. ChainOf such n (s.branched p (s.first_case p w x ∷ []) c)) (let a = first_of such p w x in omega arith) (branched_of such p (s.first_case p w x ∷ []) c))
    (λ e. goes_linked such c.before (s.rest c) (link.Lazy w x.rest None) _ (let a = rest_of such c in let b = lazy_of such w x.rest None in let d = has_none such x e in omega arith))

pub two_branches_of : (such : Such) (p : Place) (w : When) (x z : Spilled) (c : Chain) → ChainOf such (chain_marks such c + (spilled_marks such x + spilled_marks such z)) (s.two_branches p w x z c)
two_branches_of such p w x z c = by_test (ChainOf such (chain_marks such c + (spilled_marks such x + spilled_marks such z))) (s.has x || s.has z) (s.branched p (s.two_cases p w x z) c) (s.going_on c.before (linked (s.rest c) (link.Lazy w x.rest (Some z.rest))))
    (λ e. subst (λ n. ChainOf such n (s.branched p (s.two_cases p w x z) c)) (let a = first_of such p w x in let b = case_of such None (s.branch p z) in let d = branch_of such p z in omega arith) (branched_of such p (s.two_cases p w x z) c))
    (λ e. let f = or_false (s.has x) (s.has z) e in goes_linked such c.before (s.rest c) (link.Lazy w x.rest (Some z.rest)) _
    (let a = rest_of such c in let b = lazy_of such w x.rest (Some z.rest) in let d = has_none such x f.0 in let g = has_none such z f.1 in omega arith))
