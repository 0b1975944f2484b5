-- The flattening of yields makes no more states of generators than are counted before it.
use Rattle.std.proofs.Common.{◌≡◌, ℕ, ◌+◌, ◌≤◌, Bool, true, false, ◌||◌, cond, nat_lt, length, List, [], ◌∷◌, ◌++◌, map, Option, None, Some, refl, sym, ap, arith, ◌∙◌}
use Rattle.es_outside.specs.declared.events.Site.{Site}
use Rattle.core_ast.specs.declared.parts.Binary.{Binary}
use Rattle.core_ast.specs.declared.parts.CoreOp.{CoreOp}
use Rattle.core_ast.specs.declared.parts.CoreOp.TheVariants as op
use Rattle.core_ast.specs.declared.parts.Key.{Key}
use Rattle.core_ast.specs.declared.parts.Label.{Label}
use Rattle.core_ast.specs.declared.parts.Primitive.TheVariants.{IterStart, ToText}
use Rattle.core_ast.specs.declared.parts.ScopedName.{ScopedName}
use Rattle.core_ast.specs.declared.parts.Unary.TheVariants.{Not}
use Rattle.core_ast.specs.declared.parts.Var.{Var}
use Rattle.core_ast.specs.declared.parts.When.{When}
use Rattle.core_ast.specs.declared.tree.CoreCase.{CoreCase}
use Rattle.core_ast.specs.declared.tree.CoreExpr.{CoreExpr}
use Rattle.core_ast.specs.declared.tree.CoreLink.TheVariants as link
use Rattle.core_ast.specs.declared.tree.CoreLink.TheOpen as layer
use Rattle.core_ast.specs.declared.tree.CoreStat.{CoreStat}
use Rattle.core_ast.specs.declared.tree.CoreStat.TheVariants as stat
use Rattle.core_ast.specs.Lawful.{is_empty}
use Rattle.core_ast.specs.Made.{act, linked, undefined}
use Rattle.pass_rules.specs.declared.yield_rules.spilling.Chain.{Chain}
use Rattle.pass_rules.specs.declared.yield_rules.spilling.Matching.{Matching}
use Rattle.pass_rules.specs.declared.yield_rules.spilling.Place.{Place}
use Rattle.pass_rules.specs.declared.yield_rules.spilling.Reference.{Reference}
use Rattle.pass_rules.specs.declared.yield_rules.spilling.Reference.TheVariants.{Named, Keyed}
use Rattle.pass_rules.specs.declared.yield_rules.spilling.Settled.{Settled}
use Rattle.pass_rules.specs.declared.yield_rules.spilling.Spilled.{Spilled}
use Rattle.pass_rules.specs.declared.yield_rules.spilling.SpilledCase.{SpilledCase}
use Rattle.pass_rules.specs.pass_laws.Marks.{total}
use Rattle.pass_rules.specs.yield_rules.Yields as s
use Rattle.pass_rules.specs.yield_rules.Yields.{Adds, Cased, Spills, Turns, number, when}
use Rattle.pass_rules.proofs.pass_laws.Related.{Fold, Relates, Keeps, Pair, Links, Stats, Exprs, link_first, link_second, stat_first, stat_second, case_first, case_second, expr_first, expr_second, of_case, of_stat, stat_related, case_rolled, stat_rolled}
use Rattle.pass_rules.proofs.pass_laws.Within.{either}
use Rattle.pass_rules.proofs.pass_laws.Yields.{spills}
use Rattle.lawful_passes.specs.StatesBefore as before
use Rattle.lawful_passes.proofs.Bodies.{needs}

abbrev pub counts_before : Fold
counts_before = record { Link = ℕ; Stat = ℕ; Case = ℕ; Expr = ℕ; link_step = before.link_step; stat_step = before.stat_step; case_step = before.case_step; expr_step = before.expr_step }

-- ## States of statements

abbrev states : List CoreStat → ℕ
states ss = total (map (of_stat needs) ss)

abbrev cases_states : List CoreCase → ℕ
cases_states cs = total (map (of_case needs) cs)

more : (xs ys : List CoreStat) → states (xs ++ ys) ≡ states xs + states ys
more [] ys = omega arith
more (x ∷ xs) ys = let e = more xs ys in omega arith

one : (xs : List CoreStat) (x : CoreStat) → states (xs ++ x ∷ []) ≡ states xs + of_stat needs x
one xs x = let e = more xs (x ∷ []) in omega arith

do_of : (x : CoreExpr) → of_stat needs (stat.Do x) ≡ 0
do_of x = ap (of_stat needs) (sym (stat.rolls-Do x)) ∙ stat_rolled needs (layer.Do x)

return_of : (x : CoreExpr) → of_stat needs (stat.Return x) ≡ 0
return_of x = ap (of_stat needs) (sym (stat.rolls-Return x)) ∙ stat_rolled needs (layer.Return x)

throw_of : (x : CoreExpr) → of_stat needs (stat.Throw x) ≡ 0
throw_of x = ap (of_stat needs) (sym (stat.rolls-Throw x)) ∙ stat_rolled needs (layer.Throw x)

jump_of : (goes_on : Bool) (label : Option Label) → of_stat needs (stat.Jump goes_on label) ≡ 0
jump_of goes_on label = ap (of_stat needs) (sym (stat.rolls-Jump goes_on label)) ∙ stat_rolled needs (layer.Jump goes_on label)

yield_of : (x : CoreExpr) (kind : Option Var) (result : Var) → of_stat needs (stat.Yield x kind result) ≡ 1
yield_of x kind result = ap (of_stat needs) (sym (stat.rolls-Yield x kind result)) ∙ stat_rolled needs (layer.Yield x kind result)

labelled_of : (label : Label) (body : List CoreStat) → of_stat needs (stat.Labelled label body) ≡ 1 + states body
labelled_of label body = ap (of_stat needs) (sym (stat.rolls-Labelled label body)) ∙ stat_rolled needs (layer.Labelled label body)

loop_of : (labels : List Label) (test update : Option CoreExpr) (body : List CoreStat) → of_stat needs (stat.Loop labels test update body) ≡ 3 + states body
loop_of labels test update body = ap (of_stat needs) (sym (stat.rolls-Loop labels test update body)) ∙ stat_rolled needs (layer.Loop labels test update body)

catch_of : (block : List CoreStat) (parameter : Var) (names : List ScopedName) (handler : List CoreStat) → of_stat needs (stat.TryCatch block parameter names handler) ≡ 2 + (states block + states handler)
catch_of block parameter names handler = ap (of_stat needs) (sym (stat.rolls-TryCatch block parameter names handler)) ∙ stat_rolled needs (layer.TryCatch block parameter names handler)

finally_of : (block last : List CoreStat) → of_stat needs (stat.TryFinally block last) ≡ 2 + (states block + states last)
finally_of block last = ap (of_stat needs) (sym (stat.rolls-TryFinally block last)) ∙ stat_rolled needs (layer.TryFinally block last)

scoped_of : (names : List ScopedName) (body : List CoreStat) → of_stat needs (stat.Scoped names body) ≡ states body
scoped_of names body = ap (of_stat needs) (sym (stat.rolls-Scoped names body)) ∙ stat_rolled needs (layer.Scoped names body)

needs_length : (cs : List CoreCase) → length (map (of_case needs) cs) ≡ length cs
needs_length [] = refl
needs_length (c ∷ cs) = let e = needs_length cs in omega arith

if_of : (cs : List CoreCase) → of_stat needs (stat.If cs) ≡ length cs + 1 + cases_states cs
if_of cs = let a = ap (of_stat needs) (sym (stat.rolls-If cs)) ∙ stat_rolled needs (layer.If cs) in let b = needs_length cs in omega arith

switch_of : (x : CoreExpr) (cs : List CoreCase) → of_stat needs (stat.Switch x cs) ≡ length cs + 1 + cases_states cs
switch_of x cs = let a = ap (of_stat needs) (sym (stat.rolls-Switch x cs)) ∙ stat_rolled needs (layer.Switch x cs) in let b = needs_length cs in omega arith

case_of : (test : Option CoreExpr) (body : List CoreStat) → of_case needs (s.case_of test body) ≡ states body
case_of test body = case_rolled needs (record { test = test; body = body })

when_of : (test : CoreExpr) (body : List CoreStat) → of_stat needs (when test body) ≡ 2 + states body
when_of test body = let a = if_of (s.case_of (Some test) body ∷ []) in let b = case_of (Some test) body in omega arith

kept_of : (p : Place) (x : CoreExpr) → of_stat needs (s.kept p x) ≡ 0
kept_of p x = do_of _

-- ## What is shown: no more states before than are counted

abbrev OfLink : ℕ → Turns → Type 0
OfLink k f = (p : Place) (c : Chain) → states (f p c).before ≤ states c.before + k

abbrev OfStat : ℕ → Adds → Type 0
OfStat k f = (p : Place) (xs : List CoreStat) → states (f p xs) ≤ states xs + k

abbrev OfCase : ℕ → Cased → Type 0
OfCase k f = (q p : Place) → states (f q p).before + states (f q p).body ≤ k

abbrev OfExpr : ℕ → Spills → Type 0
OfExpr k f = (p : Place) → states (f p).before ≤ k

abbrev relation : Relates counts_before spills
relation = record { Link = OfLink; Stat = OfStat; Case = OfCase; Expr = OfExpr }

effects_below : (x : CoreExpr) (xs : List CoreStat) → states (s.with_effects x xs) ≤ states xs
effects_below x xs = either (λ ss. states ss ≤ states xs) (s.is_bare_constant x) {x = xs} {y = xs ++ stat.Do x ∷ []} (omega arith) (let a = one xs (stat.Do x) in let b = do_of x in omega arith)

-- ## Parts

abbrev spilled_states : List Spilled → ℕ
spilled_states [] = 0
spilled_states (x ∷ xs) = states x.before + spilled_states xs

settle_one_below : (p : Place) (goes_on : Bool) (x : Spilled) (t : Settled) → states (s.settle_one p goes_on x t).before ≤ states t.before + states x.before
settle_one_below p true x t = let a = one (t.before ++ x.before) (s.kept p x.rest) in let b = more t.before x.before in let c = kept_of p x.rest in omega arith
settle_one_below p false x t = let b = more t.before x.before in omega arith

settle_below : (p : Place) (i last : ℕ) (xs : List Spilled) (t : Settled) → states (s.settle p i last xs t).before ≤ states t.before + spilled_states xs
settle_below p i last [] t = omega arith
settle_below p i last (x ∷ xs) t = let a = settle_one_below p (nat_lt (i + 1) last) x t in let b = settle_below (s.deeper 1 p) (i + 1) last xs (s.settle_one p (nat_lt (i + 1) last) x t) in omega arith

settled_below : (p : Place) (xs : List Spilled) → states (s.settled p xs).before ≤ spilled_states xs
settled_below p xs = let a = settle_below p 0 (s.behind_last 0 0 xs) xs (record { before = []; parts = [] }) in omega arith

each_below : (ps : List (Pair OfExpr)) (p : Place) → spilled_states (s.each_at (map (λ q. q.1) ps) p) ≤ total (map (λ q. q.0) ps)
each_below [] p = omega arith
each_below (y ∷ ps) p = let a = y.2 p in let b = each_below ps (s.deeper 1 p) in omega arith

-- ## Links

base_check_of : (p : Place) → of_stat needs (s.base_check p) ≡ 0
base_check_of p = do_of _

key_kept_of : (p : Place) (key : Option CoreExpr) (xs : List CoreStat) → states (s.key_kept p key xs) ≡ states xs
key_kept_of p None xs = refl
key_kept_of p (Some key) xs = let x = linked key (act (op.Primitive ToText)) in let a = one xs (s.kept (s.deeper 1 p) x) in let b = kept_of (s.deeper 1 p) x in omega arith

fixed_of : (p : Place) (r : Reference) (xs : List CoreStat) → states (s.fixed p r xs) ≡ states xs
unfolding s.fixed
fixed_of p (Named key site) xs = let a = one xs (s.base_check p) in let b = base_check_of p in omega arith
fixed_of p (Keyed keys site) xs = let a = key_kept_of p (s.last_of keys) (xs ++ s.base_check p ∷ []) in let b = one xs (s.base_check p) in let c = base_check_of p in omega arith

behind_slot_below : (p : Place) (o : CoreOp) (t : Settled) (site : Option Site) (c : Chain) → states (s.behind_slot p o t site c).before ≤ states c.before + states t.before
behind_slot_below p o t site c = let a = more (c.before ++ s.kept p (s.rest c) ∷ []) t.before in let b = one c.before (s.kept p (s.rest c)) in let d = kept_of p (s.rest c) in omega arith

method_below : (p : Place) (t : Settled) (site : Option Site) (xs : List CoreStat) (base : CoreExpr) (r : Reference) → states (s.called_method p t site xs base r).before ≤ states xs + states t.before
method_below p t site xs base r =
    let y = linked (s.in_slot p) (s.referring r) in
    let a = more (s.method_kept p base r xs) t.before in let b = one (xs ++ s.kept p base ∷ []) (s.kept (s.deeper 1 p) y) in let c = one xs (s.kept p base) in let d = kept_of p base in let e = kept_of (s.deeper 1 p) y in omega arith

function_below : (p : Place) (o : CoreOp) (t : Settled) (site : Option Site) (c : Chain) → states (s.called_function p o t site c).before ≤ states c.before + states t.before
function_below p o t site c = either (λ (d : Chain). states d.before ≤ states c.before + states t.before) (s.is_bare_host c.base) {x = s.called_host o t site c} {y = s.behind_slot p o t site c} (let a = more c.before t.before in omega arith) (behind_slot_below p o t site c)

called_below : (p : Place) (t : Settled) (site : Option Site) (c : Chain) (r : Option Reference) → states (s.called p t site c r).before ≤ states c.before + states t.before
called_below p t site c None = function_below p op.Call t site c
called_below p t site c (Some r) = method_below p t site c.before c.base r

reference_of : (p : Place) (base : CoreExpr) (r : Reference) (xs : List CoreStat) → states (s.reference_kept p base r xs) ≡ states xs
reference_of p base r xs = let a = fixed_of p r (xs ++ s.kept p base ∷ []) in let b = one xs (s.kept p base) in let c = kept_of p base in omega arith

put_below : (p : Place) (t : Settled) (site : Option Site) (c : Chain) (r : Option Reference) → states (s.put p t site c r).before ≤ states c.before + states t.before
put_below p t site c None = behind_slot_below p op.Put t site c
put_below p t site c (Some r) = let a = more (s.reference_kept p c.base r c.before) t.before in let b = reference_of p c.base r c.before in omega arith

updated_below : (p : Place) (b : Binary) (t : Settled) (site : Option Site) (c : Chain) (r : Option Reference) → states (s.updated p b t site c r).before ≤ states c.before + states t.before
updated_below p b t site c None = behind_slot_below p (op.Update b) t site c
updated_below p b t site c (Some r) =
    let a = more (s.old_kept p c.base r c.before) t.before in let d = one (s.reference_kept p c.base r c.before) (s.kept (s.deeper 2 p) (s.target p r)) in
    let e = kept_of (s.deeper 2 p) (s.target p r) in let f = reference_of p c.base r c.before in omega arith

statements_below : (p : Place) (o : CoreOp) (t : Settled) (site : Option Site) (c : Chain) → states (s.behind_statements p o t site c).before ≤ states c.before + states t.before
unfolding s.behind_statements
statements_below p op.Index t site c = let a = more (c.before ++ s.kept p (s.rest c) ∷ []) t.before in let b = one c.before (s.kept p (s.rest c)) in let d = kept_of p (s.rest c) in omega arith
statements_below p op.Call t site c = called_below p t site c c.reference
statements_below p op.CallList t site c = function_below p op.CallList t site c
statements_below p op.Put t site c = put_below p t site c c.reference
statements_below p (op.Update b) t site c = updated_below p b t site c c.reference
statements_below p op.Then t site c = let a = more (s.with_effects (s.rest c) c.before) t.before in let b = effects_below (s.rest c) c.before in omega arith
statements_below p o t site c = behind_slot_below p o t site c

delegate_of : (p : Place) → of_stat needs (s.delegate_loop p) ≡ 10
delegate_of p =
    let a = loop_of (s.label p ∷ []) None None (s.delegate_body p) in let b = kept_of (s.deeper 3 p) (s.delegate_step p) in
    let c = when_of (s.is_same (s.in_slot (s.deeper 3 p)) undefined) (stat.Return (s.in_slot (s.deeper 2 p)) ∷ []) in let d = return_of (s.in_slot (s.deeper 2 p)) in
    let e = when_of (s.property (s.deeper 3 p) s.done_name) (s.returned p ∷ s.leave p ∷ []) in
    let f = when_of (s.is_same (s.in_slot (s.deeper 1 p)) (number 2)) (stat.Return (s.property (s.deeper 3 p) s.value_name) ∷ []) in let g = return_of (s.property (s.deeper 3 p) s.value_name) in
    let h = jump_of false (Some (s.label p)) in let i = yield_of (s.in_slot (s.deeper 3 p)) (Some (s.slot (s.deeper 1 p))) (s.slot (s.deeper 2 p)) in omega arith

delegated_below : (p : Place) (c : Chain) → states (s.delegated p c).before ≤ states c.before + 10
delegated_below p c =
    let start = s.two (s.rest c) (op.Primitive IterStart) (number 0) in
    let xs = c.before ++ s.kept p start ∷ [] in let ys = xs ++ s.kept (s.deeper 1 p) (number 0) ∷ [] in
    let a = one (s.delegate_begin p (s.rest c) c.before) (s.delegate_loop p) in let b = delegate_of p in
    let d = one ys (s.kept (s.deeper 2 p) undefined) in let e = one xs (s.kept (s.deeper 1 p) (number 0)) in let f = one c.before (s.kept p start) in
    let g = kept_of (s.deeper 2 p) undefined in let h = kept_of (s.deeper 1 p) (number 0) in let i = kept_of p start in omega arith

member_below : (key : Key) (parts : List CoreExpr) (site : Option Site) (c : Chain) → states (s.member key parts site c).before ≤ states c.before
member_below key parts site c = either (λ (d : Chain). states d.before ≤ states c.before) (is_empty parts) {x = s.refers c (Named key site)} {y = s.plain (op.Member key) parts site c} (omega arith) (omega arith)

value_below : (p : Place) (o : CoreOp) (parts : List CoreExpr) (site : Option Site) (c : Chain) → states (s.behind_value p o parts site c).before ≤ states c.before + before.of_op o
unfolding s.behind_value
value_below p op.Yield parts site c = let a = one c.before (stat.Yield (s.rest c) None (s.slot p)) in let b = yield_of (s.rest c) None (s.slot p) in omega arith
value_below p op.Delegate parts site c = delegated_below p c
value_below p (op.Member key) parts site c = let a = member_below key parts site c in omega arith
value_below p op.Index parts site c = omega arith
value_below p o parts site c = omega arith

strict_below : (p : Place) (o : CoreOp) (t : Settled) (site : Option Site) (c : Chain) → states (s.strict p o t site c).before ≤ states c.before + (before.of_op o + states t.before)
strict_below p o t site c = either (λ (d : Chain). states d.before ≤ states c.before + (before.of_op o + states t.before)) (is_empty t.before) {x = s.behind_value p o t.parts site c} {y = s.behind_statements p o t site c}
    (let a = value_below p o t.parts site c in omega arith) (let a = statements_below p o t site c in omega arith)

branch_of : (p : Place) (x : Spilled) → states (s.branch p x) ≡ states x.before
branch_of p x = let a = one x.before (s.kept p x.rest) in let b = kept_of p x.rest in omega arith

branched_of : (p : Place) (cs : List CoreCase) (c : Chain) → states (s.branched p cs c).before ≡ states c.before + of_stat needs (stat.If cs)
branched_of p cs c = let a = one (c.before ++ s.kept p (s.rest c) ∷ []) (stat.If cs) in let b = one c.before (s.kept p (s.rest c)) in let d = kept_of p (s.rest c) in omega arith

one_branch_below : (p : Place) (o : When) (x : Spilled) (c : Chain) → states (s.one_branch p o x c).before ≤ states c.before + (3 + states x.before)
one_branch_below p o x c = either (λ (d : Chain). states d.before ≤ states c.before + (3 + states x.before)) (s.has x) {x = s.branched p (s.first_case p o x ∷ []) c} {y = s.going_on c.before (linked (s.rest c) (link.Lazy o x.rest None))}
    (let a = branched_of p (s.first_case p o x ∷ []) c in let b = if_of (s.first_case p o x ∷ []) in let d = case_of (Some (s.test_of p o)) (s.branch p x) in let e = branch_of p x in omega arith) (omega arith)

two_branches_below : (p : Place) (o : When) (x y : Spilled) (c : Chain) → states (s.two_branches p o x y c).before ≤ states c.before + (3 + (states x.before + states y.before))
two_branches_below p o x y c = either (λ (d : Chain). states d.before ≤ states c.before + (3 + (states x.before + states y.before))) (s.has x || s.has y) {x = s.branched p (s.two_cases p o x y) c} {y = s.going_on c.before (linked (s.rest c) (link.Lazy o x.rest (Some y.rest)))}
    (let a = branched_of p (s.two_cases p o x y) c in let b = if_of (s.two_cases p o x y) in let d = case_of (Some (s.test_of p o)) (s.branch p x) in let e = branch_of p x in let f = case_of None (s.branch p y) in let g = branch_of p y in omega arith) (omega arith)

-- ## Lists

stats_below : (ps : List (Pair OfStat)) (p : Place) (xs : List CoreStat) → states (s.all_at (map (λ q. q.1) ps) p xs) ≤ states xs + total (map (λ q. q.0) ps)
stats_below [] p xs = omega arith
stats_below (y ∷ ps) p xs = let a = y.2 p xs in let b = stats_below ps p (y.1 p xs) in omega arith

links_below : (ps : List (Pair OfLink)) (p : Place) (c : Chain) → states (s.all_at (map (λ q. q.1) ps) p c).before ≤ states c.before + total (map (λ q. q.0) ps)
links_below [] p c = omega arith
links_below (y ∷ ps) p c = let a = y.2 p c in let b = links_below ps p (y.1 p c) in omega arith

link_kept : (z : Links relation) → OfLink (before.link_step (link_first relation z)) (s.link_step (link_second relation z))
link_kept (layer.Strict o parts site) p c =
    let q = s.deeper (s.room o) p in let xs = s.each_at (map (λ x. x.1) parts) q in
    let a = strict_below p o (s.settled q xs) site c in let b = settled_below q xs in let d = each_below parts q in omega arith
link_kept (layer.Lazy w taken None) p c = let a = one_branch_below p w (taken.1 (s.deeper 1 p)) c in let b = taken.2 (s.deeper 1 p) in omega arith
link_kept (layer.Lazy w taken (Some other)) p c = let a = two_branches_below p w (taken.1 (s.deeper 1 p)) (other.1 (s.deeper 1 p)) c in let b = taken.2 (s.deeper 1 p) in let d = other.2 (s.deeper 1 p) in omega arith
link_kept (layer.Run body) p c = let a = stats_below body p (s.with_effects (s.rest c) c.before) in let b = effects_below (s.rest c) c.before in omega arith

expr_kept : (z : Exprs relation) → OfExpr (before.expr_step (expr_first relation z)) (s.expr_step (expr_second relation z))
expr_kept z p = let a = links_below z.links p (s.begun z.site z.head) in omega arith

case_by : (test : Option (Pair OfExpr)) (body : List (Pair OfStat)) → OfCase (before.case_step (case_first relation (record { test = test; body = body }))) (s.case_step (case_second relation (record { test = test; body = body })))
case_by None body q p = let a = stats_below body p [] in omega arith
case_by (Some x) body q p = let a = stats_below body p [] in let b = x.2 q in omega arith

-- ## Statements

said_below : (f : CoreExpr → CoreStat) (x : Spilled) (xs : List CoreStat) (k : ℕ) → of_stat needs (f x.rest) ≤ k → states (s.said f x xs) ≤ states xs + (k + states x.before)
said_below f x xs k l = let a = one (xs ++ x.before) (f x.rest) in let b = more xs x.before in omega arith

abbrev before_states : List SpilledCase → ℕ
before_states [] = 0
before_states (c ∷ cs) = states c.before + before_states cs

abbrev body_states : List SpilledCase → ℕ
body_states [] = 0
body_states (c ∷ cs) = states c.body + body_states cs

cases_at_below : (ps : List (Pair OfCase)) (q p : Place) → before_states (s.cases_at (map (λ x. x.1) ps) q p) + body_states (s.cases_at (map (λ x. x.1) ps) q p) ≤ total (map (λ x. x.0) ps)
cases_at_below [] q p = omega arith
cases_at_below (y ∷ ps) q p = let a = y.2 q p in let b = cases_at_below ps q p in omega arith

cases_length : (ps : List (Pair OfCase)) (q p : Place) → length (s.cases_at (map (λ x. x.1) ps) q p) ≡ length (map (λ x. x.0) ps)
cases_length [] q p = refl
cases_length (y ∷ ps) q p = let a = cases_length ps q p in omega arith

left_states : (cs : List SpilledCase) → cases_states (s.cases_left cs) ≡ body_states cs
left_states [] = refl
left_states (c ∷ cs) = let a = case_of c.test c.body in let b = left_states cs in omega arith

left_length : (cs : List SpilledCase) → length (s.cases_left cs) ≡ length cs
left_length [] = refl
left_length (c ∷ cs) = let b = left_length cs in omega arith

cases_before_of : (cs : List SpilledCase) (xs : List CoreStat) → states (s.cases_before cs xs) ≡ states xs + before_states cs
cases_before_of [] xs = omega arith
cases_before_of (c ∷ cs) xs = let a = cases_before_of cs (xs ++ c.before) in let b = more xs c.before in omega arith

leave_of : (p : Place) → of_stat needs (s.leave p) ≡ 0
leave_of p = jump_of false (Some (s.label p))

tested_below : (p : Place) (c : SpilledCase) (test : Option CoreExpr) (xs : List CoreStat) → states (s.tested p c test xs) ≤ states xs + (2 + (states c.before + states c.body))
tested_below p c None xs = let a = more xs c.body in omega arith
tested_below p c (Some x) xs =
    let a = one (xs ++ c.before) (when x (c.body ++ s.leave p ∷ [])) in let b = more xs c.before in let d = when_of x (c.body ++ s.leave p ∷ []) in let e = one c.body (s.leave p) in let f = leave_of p in omega arith

all_tested_below : (p : Place) (cs : List SpilledCase) (xs : List CoreStat) → states (s.all_tested p cs xs) ≤ states xs + (length cs + length cs + (before_states cs + body_states cs))
all_tested_below p [] xs = omega arith
all_tested_below p (c ∷ cs) xs = let a = tested_below p c c.test xs in let b = all_tested_below p cs (s.tested p c c.test xs) in omega arith

chosen_below : (p : Place) (cs : List SpilledCase) (xs : List CoreStat) → states (s.chosen p cs xs) ≤ states xs + (1 + (length cs + length cs) + (before_states cs + body_states cs))
chosen_below p cs xs = either (λ ss. states ss ≤ states xs + (1 + (length cs + length cs) + (before_states cs + body_states cs))) (s.later_has cs)
    {x = xs ++ stat.Labelled (s.label p) (s.all_tested p cs []) ∷ []} {y = s.cases_before cs xs ++ stat.If (s.cases_left cs) ∷ []}
    (let a = one xs (stat.Labelled (s.label p) (s.all_tested p cs [])) in let b = labelled_of (s.label p) (s.all_tested p cs []) in let c = all_tested_below p cs [] in omega arith)
    (let a = one (s.cases_before cs xs) (stat.If (s.cases_left cs)) in let b = cases_before_of cs xs in let c = if_of (s.cases_left cs) in let d = left_states cs in let e = left_length cs in omega arith)

-- of the numbers and the cases so far
record Matched (m : Matching) (u v w : ℕ) : Type 0 where
  tests : states m.tests ≤ u
  cases : cases_states m.cases ≤ v
  count : length m.cases ≤ w

cases_one : (cs : List CoreCase) (c : CoreCase) → cases_states (cs ++ c ∷ []) ≡ cases_states cs + of_case needs c
cases_one [] c = omega arith
cases_one (x ∷ cs) c = let a = cases_one cs c in omega arith

length_one : (cs : List CoreCase) (c : CoreCase) → length (cs ++ c ∷ []) ≡ length cs + 1
length_one [] c = refl
length_one (x ∷ cs) c = let a = length_one cs c in omega arith

matched_below : (p : Place) (i : ℕ) (c : SpilledCase) (test : Option CoreExpr) (m : Matching) (u v w : ℕ) → Matched m u v w → Matched (s.matched_test p i c test m) (u + (2 + states c.before)) (v + states c.body) (w + 1)
matched_below p i c None m u v w h =
    let n = s.case_of (Some (number i)) c.body in let a = h.tests in let b = h.cases in let d = h.count in let e = cases_one m.cases n in let f = case_of (Some (number i)) c.body in let g = length_one m.cases n in
    record { tests = omega arith; cases = omega arith; count = omega arith }
matched_below p i c (Some x) m u v w h =
    let n = s.case_of (Some (number i)) c.body in let a = h.tests in let b = h.cases in let d = h.count in let e = cases_one m.cases n in let f = case_of (Some (number i)) c.body in let g = length_one m.cases n in
    let inner = s.kept (s.deeper 1 p) (number i) ∷ s.leave p ∷ [] in let test = s.is_same (s.in_slot p) x in
    let j = one (m.tests ++ c.before) (when test inner) in let k = more m.tests c.before in let l = when_of test inner in let q = kept_of (s.deeper 1 p) (number i) in let r = leave_of p in
    record { tests = omega arith; cases = omega arith; count = omega arith }

all_matched_below : (p : Place) (i : ℕ) (cs : List SpilledCase) (m : Matching) (u v w : ℕ) → Matched m u v w → Matched (s.all_matched p i cs m) (u + (length cs + length cs + before_states cs)) (v + body_states cs) (w + length cs)
all_matched_below p i [] m u v w h = let a = h.tests in let b = h.cases in let d = h.count in record { tests = omega arith; cases = omega arith; count = omega arith }
all_matched_below p i (c ∷ cs) m u v w h =
    let q = all_matched_below p (i + 1) cs (s.matched_test p i c c.test m) (u + (2 + states c.before)) (v + states c.body) (w + 1) (matched_below p i c c.test m u v w h) in
    let a = q.tests in let b = q.cases in let d = q.count in record { tests = omega arith; cases = omega arith; count = omega arith }

switched_below : (p : Place) (x : Spilled) (cs : List SpilledCase) (xs : List CoreStat) → states (s.switched p x cs xs) ≤ states xs + (2 + (length cs + length cs + length cs) + (states x.before + (before_states cs + body_states cs)))
switched_below p x cs xs = either (λ ss. states ss ≤ states xs + (2 + (length cs + length cs + length cs) + (states x.before + (before_states cs + body_states cs)))) (s.any_case_has cs)
    {x = xs ++ x.before ++ s.kept p x.rest ∷ [] ++ s.switched_late p m (length cs)} {y = s.cases_before cs (xs ++ x.before) ++ stat.Switch x.rest (s.cases_left cs) ∷ []}
    (let a = more ((xs ++ x.before) ++ s.kept p x.rest ∷ []) (s.switched_late p m (length cs)) in let b = one (xs ++ x.before) (s.kept p x.rest) in let c = more xs x.before in let d = kept_of p x.rest in
    let e = labelled_of (s.label p) (m.tests ++ set ∷ []) in let f = one m.tests set in let g = kept_of (s.deeper 1 p) (number (s.default_number (length cs) m.default)) in
    let h = switch_of (s.in_slot (s.deeper 1 p)) m.cases in let i = q.tests in let j = q.cases in let k = q.count in omega arith)
    (let a = one (s.cases_before cs (xs ++ x.before)) (stat.Switch x.rest (s.cases_left cs)) in let b = cases_before_of cs (xs ++ x.before) in let c = more xs x.before in
    let d = switch_of x.rest (s.cases_left cs) in let e = left_states cs in let f = left_length cs in omega arith)
  where
    m : Matching
    m = s.all_matched p 0 cs s.no_match

    set : CoreStat
    set = s.kept (s.deeper 1 p) (number (s.default_number (length cs) (s.all_matched p 0 cs s.no_match).default))

    q : Matched (s.all_matched p 0 cs s.no_match) (0 + (length cs + length cs + before_states cs)) (0 + body_states cs) (0 + length cs)
    q = all_matched_below p 0 cs s.no_match 0 0 0 (record { tests = omega arith; cases = omega arith; count = omega arith })

abbrev maybe_states : Option Spilled → ℕ
maybe_states None = 0
maybe_states (Some x) = states x.before

exit_below : (p : Place) (x : Option Spilled) → states (s.exit p x) ≤ 2 + maybe_states x
exit_below p None = omega arith
exit_below p (Some x) = let t = linked x.rest (act (op.Unary Not)) in let a = one x.before (when t (s.leave p ∷ [])) in let b = when_of t (s.leave p ∷ []) in let c = leave_of p in omega arith

turn_below : (p : Place) (x : Option Spilled) → states (s.turn p x) ≤ 2 + maybe_states x
turn_below p None = omega arith
turn_below p (Some x) = let ss = x.before ++ stat.Do x.rest ∷ [] in let a = when_of (s.in_slot p) ss in let b = one x.before (stat.Do x.rest) in let c = do_of x.rest in let d = kept_of p (s.flag true) in omega arith

looped_below : (p : Place) (labels : List Label) (t u : Option Spilled) (body xs : List CoreStat) → states (s.looped p labels t u body xs) ≤ states xs + (7 + (maybe_states t + maybe_states u + states body))
looped_below p labels t u body xs =
    let most = states xs + (7 + (maybe_states t + maybe_states u + states body)) in let own = labels ++ s.label p ∷ [] in
    let inner = cond (s.has_maybe t) (xs ++ s.headed p labels t (s.rest_maybe u) body ∷ []) (xs ++ stat.Loop labels (s.rest_maybe t) (s.rest_maybe u) body ∷ []) in
    either (λ ss. states ss ≤ most) (s.has_maybe u) {x = xs ++ s.kept p (s.flag false) ∷ [] ++ s.turned p labels t u body ∷ []} {y = inner}
    (let a = one (xs ++ s.kept p (s.flag false) ∷ []) (s.turned p labels t u body) in let b = one xs (s.kept p (s.flag false)) in let c = kept_of p (s.flag false) in
    let d = loop_of own None None ((s.turn p u ++ s.exit p t) ++ body) in let e = more (s.turn p u ++ s.exit p t) body in let f = more (s.turn p u) (s.exit p t) in let g = turn_below p u in let h = exit_below p t in omega arith)
    (either (λ ss. states ss ≤ most) (s.has_maybe t) {x = xs ++ s.headed p labels t (s.rest_maybe u) body ∷ []} {y = xs ++ stat.Loop labels (s.rest_maybe t) (s.rest_maybe u) body ∷ []}
    (let a = one xs (s.headed p labels t (s.rest_maybe u) body) in let d = loop_of own None (s.rest_maybe u) (s.exit p t ++ body) in let e = more (s.exit p t) body in let h = exit_below p t in omega arith)
    (let a = one xs (stat.Loop labels (s.rest_maybe t) (s.rest_maybe u) body) in let d = loop_of labels (s.rest_maybe t) (s.rest_maybe u) body in omega arith))

stat_kept : (z : Stats relation) → OfStat (before.stat_step (stat_first relation z)) (s.stat_step (stat_second relation z))
stat_kept (layer.Do x) p xs = let a = said_below (λ e. stat.Do e) (x.1 p) xs 0 (let b = do_of (x.1 p).rest in omega arith) in let c = x.2 p in omega arith
stat_kept (layer.If cases) p xs =
    let q = s.under p in let cs = s.cases_at (map (λ x. x.1) cases) q q in
    let a = chosen_below p cs xs in let b = cases_at_below cases q q in let c = cases_length cases q q in omega arith
stat_kept (layer.Switch subject cases) p xs =
    let q = s.deeper 2 (s.under p) in let r = s.under p in let cs = s.cases_at (map (λ x. x.1) cases) q r in
    let a = switched_below p (subject.1 p) cs xs in let b = cases_at_below cases q r in let c = cases_length cases q r in let d = subject.2 p in omega arith
stat_kept (layer.Loop labels None None body) p xs =
    let ss = s.all_at (map (λ x. x.1) body) (s.under p) [] in let a = looped_below p labels None None ss xs in let b = stats_below body (s.under p) [] in omega arith
stat_kept (layer.Loop labels None (Some y) body) p xs =
    let u = Some (y.1 (s.deeper 1 (s.under p))) in let q = s.loop_place p u in let ss = s.all_at (map (λ x. x.1) body) q [] in
    let a = looped_below p labels None u ss xs in let b = stats_below body q [] in let c = y.2 (s.deeper 1 (s.under p)) in omega arith
stat_kept (layer.Loop labels (Some x) None body) p xs =
    let ss = s.all_at (map (λ y. y.1) body) (s.under p) [] in let a = looped_below p labels (Some (x.1 (s.under p))) None ss xs in let b = stats_below body (s.under p) [] in let c = x.2 (s.under p) in omega arith
stat_kept (layer.Loop labels (Some x) (Some y) body) p xs =
    let u = Some (y.1 (s.deeper 1 (s.under p))) in let q = s.loop_place p u in let ss = s.all_at (map (λ z. z.1) body) q [] in
    let a = looped_below p labels (Some (x.1 q)) u ss xs in let b = stats_below body q [] in let c = y.2 (s.deeper 1 (s.under p)) in let d = x.2 q in omega arith
stat_kept (layer.Labelled label body) p xs = let ss = s.all_at (map (λ x. x.1) body) p [] in let a = one xs (stat.Labelled label ss) in let b = labelled_of label ss in let c = stats_below body p [] in omega arith
stat_kept (layer.Jump goes_on label) p xs = let a = one xs (stat.Jump goes_on label) in let b = jump_of goes_on label in omega arith
stat_kept (layer.Return x) p xs = let a = said_below (λ e. stat.Return e) (x.1 p) xs 0 (let b = return_of (x.1 p).rest in omega arith) in let c = x.2 p in omega arith
stat_kept (layer.Throw x) p xs = let a = said_below (λ e. stat.Throw e) (x.1 p) xs 0 (let b = throw_of (x.1 p).rest in omega arith) in let c = x.2 p in omega arith
stat_kept (layer.TryCatch block parameter names handler) p xs =
    let ss = s.all_at (map (λ x. x.1) block) p [] in let ts = s.all_at (map (λ x. x.1) handler) p [] in
    let a = one xs (stat.TryCatch ss parameter names ts) in let b = catch_of ss parameter names ts in let c = stats_below block p [] in let d = stats_below handler p [] in omega arith
stat_kept (layer.TryFinally block last) p xs =
    let ss = s.all_at (map (λ x. x.1) block) p [] in let ts = s.all_at (map (λ x. x.1) last) p [] in
    let a = one xs (stat.TryFinally ss ts) in let b = finally_of ss ts in let c = stats_below block p [] in let d = stats_below last p [] in omega arith
stat_kept (layer.Scoped names body) p xs = let ss = s.all_at (map (λ x. x.1) body) p [] in let a = one xs (stat.Scoped names ss) in let b = scoped_of names ss in let c = stats_below body p [] in omega arith
stat_kept (layer.Yield value kind result) p xs = let a = said_below (λ e. stat.Yield e kind result) (value.1 p) xs 1 (let b = yield_of (value.1 p).rest kind result in omega arith) in let c = value.2 p in omega arith

kept : Keeps relation
kept = record { link = link_kept; stat = stat_kept; case = λ z. case_by z.test z.body; expr = expr_kept }

pub states_below : (ss : List CoreStat) (p : Place) (xs : List CoreStat) → states (s.all_at (map s.stat_spilled ss) p xs) ≤ states xs + before.stats_states ss
states_below [] p xs = omega arith
states_below (y ∷ ss) p xs = let a = stat_related relation kept y p xs in let b = states_below ss p (s.stat_spilled y p xs) in omega arith
