-- The flattening of yields makes lawful parts of lawful ones: links, cases, statements with cases and loops.
use Rattle.std.specs.List.{list_all}
use Rattle.std.proofs.Common.{◌≡◌, ℕ, ◌+◌, ◌≤◌, Bool, true, false, ◌||◌, not, cond, List, [], ◌∷◌, ◌++◌, length, Option, None, Some, refl, ap, arith, subst, ◌∙◌}
use Rattle.std.proofs.lemmas.Bool.{le-leb, leb-true}
use Rattle.core_ast.specs.declared.parts.Label.{Label}
use Rattle.core_ast.specs.declared.parts.Unary.TheVariants.{Not}
use Rattle.core_ast.specs.declared.parts.When.{When}
use Rattle.core_ast.specs.declared.parts.When.TheVariants as w
use Rattle.core_ast.specs.declared.parts.Constant.TheVariants.{Truth}
use Rattle.core_ast.specs.declared.parts.CoreOp.TheVariants as op
use Rattle.core_ast.specs.declared.tree.CoreLink.{CoreLink}
use Rattle.core_ast.specs.declared.tree.CoreCase.{CoreCase}
use Rattle.core_ast.specs.declared.tree.CoreStat.{CoreStat}
use Rattle.core_ast.specs.declared.tree.CoreExpr.{CoreExpr}
use Rattle.core_ast.specs.declared.tree.CoreLink.TheVariants as link
use Rattle.core_ast.specs.declared.tree.CoreStat.TheVariants as stat
use Rattle.core_ast.specs.declared.tree.CoreLink.TheOpen as layer
use Rattle.core_ast.specs.Lawful as lawful
use Rattle.core_ast.specs.Lawful.{Round, Joint, Current, Plain, Property, Named, Hosted, is_empty, all_differ}
use Rattle.core_ast.specs.Made.{linked}
use Rattle.pass_rules.specs.declared.yield_rules.spilling.Chain.{Chain}
use Rattle.pass_rules.specs.declared.yield_rules.spilling.Matching.{Matching}
use Rattle.pass_rules.specs.declared.yield_rules.spilling.Place.{Place}
use Rattle.pass_rules.specs.declared.yield_rules.spilling.Spilled.{Spilled}
use Rattle.pass_rules.specs.declared.yield_rules.spilling.SpilledCase.{SpilledCase}
use Rattle.pass_rules.specs.yield_rules.Yields as s
use Rattle.pass_rules.specs.yield_rules.Yields.{number, when, case_of}
use Rattle.pass_rules.proofs.pass_laws.Related.{of_case}
use Rattle.pass_rules.proofs.pass_laws.Starts.{laws}
use Rattle.pass_rules.proofs.pass_laws.Within.{left, right, both}
use Rattle.pass_rules.proofs.pass_laws.YieldMarks.{by_test}
use Rattle.lawful_passes.proofs.Far.{SoFar, Are, Is, AreCases, joint, site_count, lazy_one, lazy_two, linked_far, more_sites, done_is, act_far, constant_far, number_is, one, joined, rolled_is, do_is, case_is, default_is, if_is, switch_is, when_is, labelled_is}
use Rattle.lawful_passes.proofs.Labels.{differ_one, label_left, label_right, numbers_of, numbers_one}
use Rattle.lawful_passes.proofs.Spilling.{Drawn, Sound, Whole, IfWhole, SpilledIs, ChainFar, own_label, slot_far, slot_is, kept_whole, kept_is, whole_sound, rest_is, rest_whole, gone_far, fits_hosted, slot_same, leave_is}

-- ## Lazy links

branch_are : (r : Round) (p : Place) (x : Spilled) → Drawn r p → SpilledIs r x → Are r (s.branch p x)
branch_are r p x d h = one r x.before _ h.before (kept_whole r p x.rest d h.rest)

branched_is : (r : Round) (p : Place) (cases : List CoreCase) (at : Current) (n : ℕ) (c : Chain) → n ≤ 1 → lawful.is_hosted at ≡ false → Drawn r p → AreCases r cases → ChainFar r at n c → ChainFar r Plain n (s.branched p cases c)
branched_is r p cases at n c l a d k h =
    gone_far r n _ _ Named refl (one r (c.before ++ s.kept p (s.rest c) ∷ []) _ (one r c.before _ h.before (kept_whole r p (s.rest c) d (rest_whole r at n c l a h))) (if_is r cases k)) (more_sites r Named 0 n _ (omega arith) (slot_far r p d))

test_is : (r : Round) (p : Place) (o : When) → Drawn r p → Sound r (s.test_of p o)
unfolding s.test_of
test_is r p w.Falsy d = done_is r Plain _ (act_far r Named 1 (op.Unary Not) (s.in_slot p) refl refl refl (more_sites r Named 0 1 _ (omega arith) (slot_far r p d))) refl
test_is r p o d = slot_is r p d

first_case_is : (r : Round) (p : Place) (o : When) (x : Spilled) → Drawn r p → SpilledIs r x → of_case laws (s.first_case p o x) r ≡ true
first_case_is r p o x d h = case_is r (s.test_of p o) (s.branch p x) (test_is r p o d) (branch_are r p x d h)

lazy_far : (r : Round) (at : Current) (n : ℕ) (e : CoreExpr) (k : CoreLink) (j : Joint) → joint k ≡ j → j.ends ≡ None → j.site ≡ None → lawful.is_hosted at ≡ false → j.lawful r ≡ true → SoFar r at n e → SoFar r Plain n (linked e k)
lazy_far r at n e k j d a c b m h =
    let e2 = ap (λ i. i.ends) d ∙ a in let c2 = ap (λ i. i.site) d ∙ c in
    more_sites r Plain (n + 0) n _ (omega arith)
    (subst (λ o. SoFar r (lawful.after o) (n + 0) (linked e k)) e2 (subst (λ o. SoFar r (lawful.after (joint k).ends) (n + site_count o) (linked e k)) c2
    (linked_far r at n e k h (ap (λ o. lawful.behind at o) e2 ∙ ap not b) (ap (λ i. i.lawful r) d ∙ m))))

pub one_branch_is : (r : Round) (p : Place) (o : When) (x : Spilled) (at : Current) (n : ℕ) (c : Chain) → n ≤ 1 → lawful.is_hosted at ≡ false → Drawn r p → SpilledIs r x → ChainFar r at n c → ChainFar r Plain n (s.one_branch p o x c)
one_branch_is r p o x at n c l a d k h = by_test (ChainFar r Plain n) (s.has x) (s.branched p (s.first_case p o x ∷ []) c) (s.going_on c.before (linked (s.rest c) (link.Lazy o x.rest None)))
    (λ b. branched_is r p _ at n c l a d (both (first_case_is r p o x d k) refl) h)
    (λ b. let e = rest_is r at n c h in gone_far r n c.before _ Plain refl h.before (lazy_far r e.current n (s.rest c) _ _ (lazy_one o x.rest) refl refl (fits_hosted at e.current e.fits a) (both (whole_sound r x.rest k.rest) refl) e.far))

pub two_branches_is : (r : Round) (p : Place) (o : When) (x y : Spilled) (at : Current) (n : ℕ) (c : Chain) → n ≤ 1 → lawful.is_hosted at ≡ false → Drawn r p → SpilledIs r x → SpilledIs r y → ChainFar r at n c → ChainFar r Plain n (s.two_branches p o x y c)
two_branches_is r p o x y at n c l a d k m h = by_test (ChainFar r Plain n) (s.has x || s.has y) (s.branched p (s.two_cases p o x y) c) (s.going_on c.before (linked (s.rest c) (link.Lazy o x.rest (Some y.rest))))
    (λ b. branched_is r p _ at n c l a d (both (first_case_is r p o x d k) (both (default_is r (s.branch p y) (branch_are r p y d m)) refl)) h)
    (λ b. let e = rest_is r at n c h in gone_far r n c.before _ Plain refl h.before (lazy_far r e.current n (s.rest c) _ _ (lazy_two o x.rest y.rest) refl refl (fits_hosted at e.current e.fits a) (both (whole_sound r x.rest k.rest) (whole_sound r y.rest m.rest)) e.far))

-- ## Statements

pub said_are : (r : Round) (f : CoreExpr → CoreStat) (x : Spilled) (xs : List CoreStat) → SpilledIs r x → ((e : CoreExpr) → Sound r e → Is r (f e)) → Are r xs → Are r (s.said f x xs)
said_are r f x xs h g k = one r (xs ++ x.before) _ (joined r xs x.before k h.before) (g x.rest (whole_sound r x.rest h.rest))

pub record CaseSound (r : Round) (c : SpilledCase) : Type 0 where
  pub before : Are r c.before
  pub test : IfWhole r c.test
  pub body : Are r c.body

abbrev pub CasesSound : Round → List SpilledCase → Type 0
CasesSound r [] = Unit {0}
CasesSound r (c ∷ cs) = CaseSound r c × CasesSound r cs

case_left : (r : Round) (test : Option CoreExpr) (body : List CoreStat) → IfWhole r test → Are r body → of_case laws (case_of test body) r ≡ true
case_left r None body h k = default_is r body k
case_left r (Some x) body h k = case_is r x body (whole_sound r x h) k

cases_left_are : (r : Round) (cs : List SpilledCase) → CasesSound r cs → AreCases r (s.cases_left cs)
cases_left_are r [] h = refl
cases_left_are r (c ∷ cs) h = both (case_left r c.test c.body h.0.test h.0.body) (cases_left_are r cs h.1)

cases_before_are : (r : Round) (cs : List SpilledCase) (xs : List CoreStat) → CasesSound r cs → Are r xs → Are r (s.cases_before cs xs)
cases_before_are r [] xs h k = k
cases_before_are r (c ∷ cs) xs h k = cases_before_are r cs _ h.1 (joined r xs c.before k h.0.before)

tested_are : (r : Round) (p : Place) (c : SpilledCase) (test : Option CoreExpr) (xs : List CoreStat) → lawful.has_label (s.label p) r.labels ≡ true → CaseSound r c → IfWhole r test → Are r xs → Are r (s.tested p c test xs)
tested_are r p c None xs l h t k = joined r xs c.body k h.body
tested_are r p c (Some x) xs l h t k = one r (xs ++ c.before) _ (joined r xs c.before k h.before) (when_is r x _ (whole_sound r x t) (one r c.body _ h.body (leave_is r p l)))

all_tested_are : (r : Round) (p : Place) (cs : List SpilledCase) (xs : List CoreStat) → lawful.has_label (s.label p) r.labels ≡ true → CasesSound r cs → Are r xs → Are r (s.all_tested p cs xs)
all_tested_are r p [] xs l h k = k
all_tested_are r p (c ∷ cs) xs l h k = all_tested_are r p cs _ l h.1 (tested_are r p c c.test xs l h.0 h.0.test k)

pub chosen_are : (r : Round) (p : Place) (cs : List SpilledCase) (xs : List CoreStat) → lawful.is_new r (s.label p) ≡ true → CasesSound r cs → CasesSound (lawful.under (s.label p) r) cs → Are r xs → Are r (s.chosen p cs xs)
chosen_are r p cs xs l h i k = by_test (Are r) (s.later_has cs) (xs ++ stat.Labelled (s.label p) (s.all_tested p cs []) ∷ []) (s.cases_before cs xs ++ stat.If (s.cases_left cs) ∷ [])
    (λ b. one r xs _ k (labelled_is r (s.label p) _ l (all_tested_are (lawful.under (s.label p) r) p cs [] (own_label (s.label p) r.labels) i refl)))
    (λ b. one r (s.cases_before cs xs) _ (cases_before_are r cs xs h k) (if_is r _ (cases_left_are r cs h)))

-- a switch: tests under the label, and cases with numbers outside
pub record MatchingIs (r inside : Round) (count : ℕ) (m : Matching) : Type 0 where
  pub tests : Are inside m.tests
  pub cases : AreCases r m.cases
  pub default : s.default_number count m.default ≤ count

match_case_are : (r : Round) (p : Place) (i : ℕ) (before : List CoreStat) (t : CoreExpr) (xs : List CoreStat) → lawful.has_label (s.label p) r.labels ≡ true → lawful.is_safe i ≡ true → Drawn r p → Drawn r (s.deeper 1 p) → Are r before → Whole r t → Are r xs → Are r (s.match_case p i before t xs)
match_case_are r p i before t xs l n d e b h k =
    one r (xs ++ before) _ (joined r xs before k b) (when_is r _ _ (slot_same r p t d (whole_sound r t h)) (both (kept_is r Plain (s.deeper 1 p) _ refl e (more_sites r Plain 0 1 _ (omega arith) (constant_far r _ n))) (both (leave_is r p l) refl)))

cases_more : (r : Round) (cs : List CoreCase) (c : CoreCase) → AreCases r cs → of_case laws c r ≡ true → AreCases r (cs ++ c ∷ [])
cases_more r [] c h k = both k refl
cases_more r (d ∷ cs) c h k = both (left _ _ h) (cases_more r cs c (right _ _ h) k)

matched_is : (r inside : Round) (p : Place) (count i : ℕ) (c : SpilledCase) (test : Option CoreExpr) (m : Matching) → lawful.has_label (s.label p) inside.labels ≡ true → i ≤ count → lawful.is_safe i ≡ true → Drawn inside p → Drawn inside (s.deeper 1 p) → CaseSound r c → CaseSound inside c → IfWhole inside test → MatchingIs r inside count m → MatchingIs r inside count (s.matched_test p i c test m)
matched_is r inside p count i c None m l z n d e h k t g = record { tests = g.tests; cases = cases_more r m.cases _ g.cases (case_is r (number i) c.body (number_is r i n) h.body); default = z }
matched_is r inside p count i c (Some x) m l z n d e h k t g = record { tests = match_case_are inside p i c.before x m.tests l n d e k.before t g.tests; cases = cases_more r m.cases _ g.cases (case_is r (number i) c.body (number_is r i n) h.body); default = g.default }

safe_below : (i n : ℕ) → i ≤ n → lawful.is_safe n ≡ true → lawful.is_safe i ≡ true
safe_below i n l h = let a = leb-true n 9007199254740991 h in le-leb i 9007199254740991 (omega arith)

all_matched_is : (r inside : Round) (p : Place) (count i : ℕ) (cs : List SpilledCase) (m : Matching) → lawful.has_label (s.label p) inside.labels ≡ true → i + length cs ≤ count → lawful.is_safe count ≡ true → Drawn inside p → Drawn inside (s.deeper 1 p) → CasesSound r cs → CasesSound inside cs → MatchingIs r inside count m → MatchingIs r inside count (s.all_matched p i cs m)
all_matched_is r inside p count i [] m l z n d e h k g = g
all_matched_is r inside p count i (c ∷ cs) m l z n d e h k g = all_matched_is r inside p count (i + 1) cs _ l (omega arith) n d e h.1 k.1 (matched_is r inside p count i c c.test m l (omega arith) (safe_below i count (omega arith) n) d e h.0 k.0 k.0.test g)

late_are : (r : Round) (p : Place) (m : Matching) (count : ℕ) → lawful.is_new r (s.label p) ≡ true → lawful.is_safe count ≡ true → Drawn r p → Drawn r (s.deeper 1 p) → MatchingIs r (lawful.under (s.label p) r) count m → Are r (s.switched_late p m count)
late_are r p m count l n d e g =
    let inside = lawful.under (s.label p) r in let i = s.default_number count m.default in
    both (labelled_is r (s.label p) _ l (one inside m.tests _ g.tests (kept_is inside Plain (s.deeper 1 p) (number i) refl e (more_sites inside Plain 0 1 _ (omega arith) (constant_far inside _ (safe_below i count g.default n))))))
    (both (switch_is r (s.in_slot (s.deeper 1 p)) m.cases (slot_is r (s.deeper 1 p) e) g.cases) refl)

pub switched_are : (r : Round) (p : Place) (x : Spilled) (cs : List SpilledCase) (xs : List CoreStat) → lawful.is_new r (s.label p) ≡ true → lawful.is_safe (length cs) ≡ true → Drawn r p → Drawn r (s.deeper 1 p) → SpilledIs r x → CasesSound r cs → CasesSound (lawful.under (s.label p) r) cs → Are r xs → Are r (s.switched p x cs xs)
switched_are r p x cs xs l n d e g h i k =
    let inside = lawful.under (s.label p) r in let front = joined r xs x.before k g.before in
    by_test (Are r) (s.any_case_has cs)
    ((((xs ++ x.before) ++ s.kept p x.rest ∷ [])) ++ s.switched_late p (s.all_matched p 0 cs s.no_match) (length cs)) (s.cases_before cs (xs ++ x.before) ++ stat.Switch x.rest (s.cases_left cs) ∷ [])
    (λ b. joined r _ _ (one r (xs ++ x.before) _ front (kept_whole r p x.rest d g.rest))
    (late_are r p _ (length cs) l n d e (all_matched_is r inside p (length cs) 0 cs s.no_match (own_label (s.label p) r.labels) (omega arith) n d e h i (record { tests = refl; cases = refl; default = omega arith }))))
    (λ b. one r (s.cases_before cs (xs ++ x.before)) _ (cases_before_are r cs _ h front) (switch_is r x.rest _ (whole_sound r x.rest g.rest) (cases_left_are r cs h)))

-- ## Loops

abbrev pub MaybeIs : Round → Option Spilled → Type 0
MaybeIs r None = Unit {0}
MaybeIs r (Some x) = SpilledIs r x

rest_maybe_is : (r : Round) (x : Option Spilled) → MaybeIs r x → IfWhole r (s.rest_maybe x)
rest_maybe_is r None h = tt
rest_maybe_is r (Some x) h = h.rest

flag_kept : (r : Round) (p : Place) (b : Bool) → Drawn r p → Is r (s.kept p (s.flag b))
flag_kept r p b d = kept_is r Plain p (s.flag b) refl d (more_sites r Plain 0 1 _ (omega arith) (constant_far r (Truth b) refl))

exit_are : (r : Round) (p : Place) (x : Option Spilled) → lawful.has_label (s.label p) r.labels ≡ true → MaybeIs r x → Are r (s.exit p x)
exit_are r p None l h = refl
exit_are r p (Some x) l h = one r x.before _ h.before (when_is r _ _ (done_is r Plain _ (act_far r h.rest.at 1 (op.Unary Not) x.rest (ap not h.rest.plain) refl refl h.rest.far) refl) (both (leave_is r p l) refl))

turn_are : (r : Round) (p : Place) (x : Option Spilled) → Drawn r p → MaybeIs r x → Are r (s.turn p x)
turn_are r p None d h = refl
turn_are r p (Some x) d h = both (when_is r _ _ (slot_is r p d) (one r x.before _ h.before (do_is r x.rest (whole_sound r x.rest h.rest)))) (both (flag_kept r p true d) refl)

loop_by : (r : Round) (labels : List Label) (test update : Option CoreExpr) (body : List CoreStat) → list_all (lawful.is_new r) labels ≡ true → all_differ (numbers_of labels) ≡ true → IfWhole r test → IfWhole r update → Are (lawful.in_loop labels r) body → Is r (stat.Loop labels test update body)
loop_by r labels None None body a b t u h = rolled_is r _ (layer.Loop labels None None body) (stat.rolls-Loop labels None None body) (both (both (both (both a b) refl) refl) h)
loop_by r labels None (Some y) body a b t u h = rolled_is r _ (layer.Loop labels None (Some y) body) (stat.rolls-Loop labels None (Some y) body) (both (both (both (both a b) refl) (whole_sound r y u)) h)
loop_by r labels (Some x) None body a b t u h = rolled_is r _ (layer.Loop labels (Some x) None body) (stat.rolls-Loop labels (Some x) None body) (both (both (both (both a b) (whole_sound r x t)) refl) h)
loop_by r labels (Some x) (Some y) body a b t u h = rolled_is r _ (layer.Loop labels (Some x) (Some y) body) (stat.rolls-Loop labels (Some x) (Some y) body) (both (both (both (both a b) (whole_sound r x t)) (whole_sound r y u)) h)

new_more : (r : Round) (ls : List Label) (l : Label) → list_all (lawful.is_new r) ls ≡ true → lawful.is_new r l ≡ true → list_all (lawful.is_new r) (ls ++ l ∷ []) ≡ true
new_more r [] l h k = both k refl
new_more r (x ∷ ls) l h k = both (left _ _ h) (new_more r ls l (right _ _ h) k)

-- what a loop is turned of: parts that are lawful where they stand and in the body, and a body that is lawful without the new label and with it
pub record LoopParts (r : Round) (p : Place) (labels : List Label) (t u : Option Spilled) (ss : List CoreStat) : Type 0 where
  pub new : list_all (lawful.is_new r) labels ≡ true
  pub own : lawful.is_new r (s.label p) ≡ true
  pub differ : all_differ (numbers_of labels) ≡ true
  pub other : lawful.has_number p.label (numbers_of labels) ≡ false
  pub drawn : Drawn r p
  pub test : MaybeIs r t
  pub update : MaybeIs r u
  pub test_inside : MaybeIs (lawful.in_loop (labels ++ s.label p ∷ []) r) t
  pub update_inside : MaybeIs (lawful.in_loop (labels ++ s.label p ∷ []) r) u
  pub body : Are (lawful.in_loop labels r) ss
  pub body_inside : Are (lawful.in_loop (labels ++ s.label p ∷ []) r) ss

pub looped_are : (r : Round) (p : Place) (labels : List Label) (t u : Option Spilled) (body xs : List CoreStat) → LoopParts r p labels t u body → Are r xs → Are r (s.looped p labels t u body xs)
looped_are r p labels t u body xs h k =
    let more = labels ++ s.label p ∷ [] in let inside = lawful.in_loop more r in
    let new = new_more r labels (s.label p) h.new h.own in
    let differ = ap all_differ (numbers_one labels (s.label p)) ∙ differ_one p.label (numbers_of labels) h.differ h.other in
    let mine = label_left (s.label p) more r.labels (label_right (s.label p) labels (s.label p ∷ []) (own_label (s.label p) [])) in
    let headed = xs ++ s.headed p labels t (s.rest_maybe u) body ∷ [] in
    let plain = xs ++ stat.Loop labels (s.rest_maybe t) (s.rest_maybe u) body ∷ [] in
    by_test (Are r) (s.has_maybe u) ((xs ++ s.kept p (s.flag false) ∷ []) ++ s.turned p labels t u body ∷ []) (cond (s.has_maybe t) headed plain)
    (λ e. one r (xs ++ s.kept p (s.flag false) ∷ []) _ (one r xs _ k (flag_kept r p false h.drawn))
    (loop_by r more None None ((s.turn p u ++ s.exit p t) ++ body) new differ tt tt
    (joined inside (s.turn p u ++ s.exit p t) body (joined inside (s.turn p u) (s.exit p t) (turn_are inside p u h.drawn h.update_inside) (exit_are inside p t mine h.test_inside)) h.body_inside)))
    (λ e. by_test (Are r) (s.has_maybe t) headed plain
    (λ y. one r xs _ k (loop_by r more None (s.rest_maybe u) (s.exit p t ++ body) new differ tt (rest_maybe_is r u h.update) (joined inside (s.exit p t) body (exit_are inside p t mine h.test_inside) h.body_inside)))
    (λ y. one r xs _ k (loop_by r labels (s.rest_maybe t) (s.rest_maybe u) body h.new h.differ (rest_maybe_is r t h.test) (rest_maybe_is r u h.update) h.body)))
