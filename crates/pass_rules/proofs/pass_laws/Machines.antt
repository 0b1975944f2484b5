-- The states of generators leave no yields, and bring nothing back.
use Rattle.std.specs.List.{list_all}
use Rattle.std.proofs.Common.{◌≡◌, ℕ, ◌+◌, Bool, true, false, cond, nat_eq, List, [], ◌∷◌, ◌++◌, map, length, Option, None, Some, refl, sym, subst, ◌∙◌}
use Rattle.std.proofs.lemmas.Bool.{false≢true}
use Rattle.core_ast.specs.declared.naming.Fresh.{Fresh}
use Rattle.core_ast.specs.declared.parts.Var.{Var}
use Rattle.core_ast.specs.declared.parts.Label.{Label}
use Rattle.core_ast.specs.declared.parts.CoreHead.{CoreHead}
use Rattle.core_ast.specs.declared.parts.CoreHead.TheVariants as head
use Rattle.core_ast.specs.declared.parts.Binary.TheVariants.{Add, NotSame, Same}
use Rattle.core_ast.specs.declared.parts.Unary.TheVariants.{Not}
use Rattle.core_ast.specs.declared.parts.CoreOp.{CoreOp}
use Rattle.core_ast.specs.declared.parts.CoreOp.TheVariants as op
use Rattle.core_ast.specs.declared.parts.Primitive.TheVariants.{GeneratorMake}
use Rattle.core_ast.specs.declared.tree.CoreLink.{CoreLink}
use Rattle.core_ast.specs.declared.tree.CoreStat.{CoreStat}
use Rattle.core_ast.specs.declared.tree.CoreCase.{CoreCase}
use Rattle.core_ast.specs.declared.tree.CoreExpr.{CoreExpr}
use Rattle.core_ast.specs.declared.tree.CoreLink.TheOpen as layer
use Rattle.core_ast.specs.declared.whole.Core.{Core}
use Rattle.core_ast.specs.declared.whole.CoreFunction.{CoreFunction}
use Rattle.core_ast.specs.Lawful.{is_generator}
use Rattle.core_ast.specs.Made.{undefined, variable}
use Rattle.pass_rules.specs.yield_rules.Yields.{case_of, number}
use Rattle.pass_rules.specs.declared.state_rules.states.Completion.{Completion}
use Rattle.pass_rules.specs.declared.state_rules.states.Machine.{Machine}
use Rattle.pass_rules.specs.declared.state_rules.states.Place.{Place}
use Rattle.pass_rules.specs.declared.state_rules.states.Registers.{Registers}
use Rattle.pass_rules.specs.declared.state_rules.states.Target.{Target}
use Rattle.pass_rules.specs.state_rules.States as s
use Rattle.pass_rules.specs.state_rules.States.{Part, Branch}
use Rattle.pass_rules.specs.pass_laws.Levels.{Level, Test, all_within, is_bare, head_within, op_within, link_within, stat_within, case_within, expr_within, yielding, stepped, function_within, IsWithin}
use Rattle.pass_rules.proofs.pass_laws.Related.{Fold, Relates, Keeps, Pair, Links, Stats, Cases, Exprs, link_first, link_second, stat_first, stat_second, case_first, case_second, expr_first, expr_second, stat_related}
use Rattle.pass_rules.proofs.pass_laws.Within.{within, left, right, both, either, Are, Is, AreParts, AreCases, AreLinks, IsThere, and_more, and_one, strict_is, lazy_is, expression_is, case_is, do_is, if_is, switch_is, loop_is, labelled_is, jump_is, return_is, throw_is, catch_is, finally_is, scoped_is, linked_is, act_is, acting_is, variable_is, set_is, number_is, two_is, when_is, undefined_is, more}

abbrev pub machines : Fold
machines = record {
  Link = CoreLink;
  Stat = Part;
  Case = Branch;
  Expr = CoreExpr;
  link_step = s.link_step;
  stat_step = s.stat_step;
  case_step = s.case_step;
  expr_step = s.expr_step;
}

-- ## Machines within a level

record Holds (l : Level) (m : Machine) : Type 0 where
  states : AreCases l m.states
  stats : Are l m.stats
  rows : AreCases l m.rows

-- it says the same however far it is
abbrev Grows : Level → (Machine → Machine) → Type 0
Grows l f = (m : Machine) → Holds l m → Holds l (f m)

record PartIs (l : Level) (x : Part) : Type 0 where
  whole : (inside : List Label) → x.stays inside ≡ true → stat_within x.whole l ≡ true
  adds : (p : Place) → Grows l (x.adds p)

record BranchIs (l : Level) (x : Branch) : Type 0 where
  whole : (inside : List Label) → x.stays inside ≡ true → case_within x.whole l ≡ true
  test : IsThere l x.test
  adds : (p : Place) → Grows l (x.adds p)

abbrev OfLink : Level → Test → CoreLink → Type 0
OfLink l t x = t (yielding l) ≡ true → link_within x (stepped l) ≡ true

abbrev OfStat : Level → Test → Part → Type 0
OfStat l t x = t (yielding l) ≡ true → PartIs (stepped l) x

abbrev OfCase : Level → Test → Branch → Type 0
OfCase l t x = t (yielding l) ≡ true → BranchIs (stepped l) x

abbrev OfExpr : Level → Test → CoreExpr → Type 0
OfExpr l t x = t (yielding l) ≡ true → Is (stepped l) x

abbrev relation : (l : Level) → Relates within machines
relation l = record { Link = OfLink l; Stat = OfStat l; Case = OfCase l; Expr = OfExpr l }

-- ## Small statements

set_number_is : (l : Level) (x : Var) (n : ℕ) → stat_within (s.set_number x n) l ≡ true
set_number_is l x n = set_is l x (number n) (number_is l n)

moved_is : (l : Level) (x y : Var) → stat_within (s.moved x y) l ≡ true
moved_is l x y = set_is l x (variable y) (variable_is l y)

holds_number_is : (l : Level) (x : Var) (n : ℕ) → Is l (s.holds_number x n)
holds_number_is l x n = two_is l (variable x) (op.Operator Same) (number n) refl (variable_is l x) (number_is l n)

given_is : (l : Level) (how : ℕ) (x : CoreExpr) → Is l x → stat_within (s.given how x) l ≡ true
given_is l how x h = return_is l _ (expression_is l None head.ArgumentList _ refl (both (acting_is l op.Element (number how) refl (number_is l how)) (both (acting_is l op.Element x refl h) refl)))

again_is : (l : Level) (p : Place) → stat_within (s.again p) l ≡ true
again_is l p = jump_is l true (Some p.registers.turn)

goes_are : (l : Level) (p : Place) (n : ℕ) → Are l (s.goes p n)
goes_are l p n = both (set_number_is l p.registers.state n) (both (again_is l p) refl)

moves_are : (l : Level) (p : Place) (region n : ℕ) → Are l (s.moves p region n)
moves_are l p region n = both (set_number_is l p.registers.region region) (goes_are l p n)

goes_to_are : (l : Level) (p : Place) (region n : ℕ) → Are l (s.goes_to p region n)
goes_to_are l p region n = either (Are l) (nat_eq region p.region) {x = s.goes p n} {y = s.moves p region n} (goes_are l p n) (moves_are l p region n)

unwinds_are : (l : Level) (p : Place) (kind : ℕ) (x : CoreExpr) → Is l x → Are l (s.unwinds p kind x)
unwinds_are l p kind x h = both (set_is l p.registers.ending.value x h) (both (set_number_is l p.registers.ending.kind kind) (both (again_is l p) refl))

is_there_is : (l : Level) (c : Completion) → Is l (s.is_there c)
is_there_is l c = two_is l (variable c.kind) (op.Operator NotSame) (number 0) refl (variable_is l c.kind) (number_is l 0)

handed_on_is : (l : Level) (p : Place) (c : Completion) → stat_within (s.handed_on p c) l ≡ true
handed_on_is l p c = when_is l _ _ (is_there_is l c) (both (moved_is l p.registers.ending.kind c.kind) (both (moved_is l p.registers.ending.value c.value) (both (again_is l p) refl)))

-- ## What grows a machine

says_holds : (l : Level) (x : CoreStat) → stat_within x l ≡ true → Grows l (s.says x)
says_holds l x h m k = either (Holds l) m.over k (record { states = k.states; stats = and_one stat_within l m.stats x k.stats h; rows = k.rows })

ends_holds : (l : Level) (ss : List CoreStat) → Are l ss → Grows l (s.ends ss)
ends_holds l ss h m k = either (Holds l) m.over k (record { states = k.states; stats = and_more stat_within l m.stats ss k.stats h; rows = k.rows })

numbered_is : (l : Level) (n : ℕ) (ss : List CoreStat) → Are l ss → case_within (case_of (Some (number n)) ss) l ≡ true
numbered_is l n ss h = case_is l (Some (number n)) ss (number_is l n) h

begins_holds : (l : Level) (n : ℕ) → Grows l (s.begins n)
begins_holds l n m k = record { states = and_one case_within l m.states _ k.states (numbered_is l m.here m.stats k.stats); stats = refl; rows = k.rows }

draws_holds : (l : Level) (n : ℕ) → Grows l (s.draws n)
draws_holds l n m k = record { states = k.states; stats = k.stats; rows = k.rows }

goes_then_holds : (l : Level) (p : Place) (n here : ℕ) → Grows l (s.goes_then p n here)
goes_then_holds l p n here m k = begins_holds l here _ (ends_holds l _ (goes_are l p n) m k)

hands_out_holds : (l : Level) (p : Place) (how : ℕ) (x : CoreExpr) → Is l x → Grows l (s.hands_out p how x)
hands_out_holds l p how x h m k = begins_holds l m.next _ (draws_holds l 1 _ (ends_holds l _ (both (set_number_is l p.registers.state m.next) (both (given_is l how x h) refl)) m k))

yielded_holds : (l : Level) (p : Place) (x : CoreExpr) (kind : Option Var) (result : Var) → Is l x → Grows l (s.yielded p x kind result)
yielded_holds l p x None result h m k = says_holds l _ (moved_is l result p.registers.resumption.value) _ (says_holds l _ (handed_on_is l p p.registers.resumption) _ (hands_out_holds l p 0 x h m k))
yielded_holds l p x (Some kind) result h m k = says_holds l _ (moved_is l result p.registers.resumption.value) _ (says_holds l _ (moved_is l kind p.registers.resumption.kind) _ (hands_out_holds l p 1 x h m k))

jumps_to_are : (l : Level) (p : Place) (goes_on : Bool) (label : Label) (t : Option Target) → Are l (s.jumps_to p goes_on label t)
jumps_to_are l p goes_on label None = both (jump_is l goes_on (Some label)) refl
jumps_to_are l p goes_on label (Some t) = either (Are l) (nat_eq t.finals p.finals) {x = s.goes_to p t.region (s.state_of goes_on t)} {y = s.unwinds p (t.region + 3) (number (s.state_of goes_on t))} (goes_to_are l p t.region (s.state_of goes_on t)) (unwinds_are l p (t.region + 3) _ (number_is l (s.state_of goes_on t)))

jumped_holds : (l : Level) (p : Place) (goes_on : Bool) (label : Option Label) → Grows l (s.jumped p goes_on label)
jumped_holds l p goes_on None m k = ends_holds l _ (both (jump_is l goes_on None) refl) m k
jumped_holds l p goes_on (Some label) m k = ends_holds l _ (jumps_to_are l p goes_on label (s.found label p.targets)) m k

-- ## Lists of parts

add_by : (l : Level) (p : Place) (x : Part) (m : Machine) (b : Bool) → (b ≡ true → Holds l (s.says x.whole m)) → Holds l (x.adds p m) → Holds l (cond b (s.says x.whole m) (x.adds p m))
add_by l p x m true f y = f refl
add_by l p x m false f y = y

add_holds : (l : Level) (p : Place) (x : Part) → PartIs l x → Grows l (s.add p x)
add_holds l p x h m k = add_by l p x m (x.stays []) (λ e. says_holds l x.whole (h.whole [] e) m k) (h.adds p m k)

add_all_holds : (l : Level) (p : Place) (ps : List (Pair (OfStat l))) → all_within (map (λ q. q.0) ps) (yielding l) ≡ true → Grows (stepped l) (s.add_all p (map (λ q. q.1) ps))
add_all_holds l p [] h m k = k
add_all_holds l p (q ∷ ps) h m k = add_all_holds l p ps (right _ _ h) (s.add p q.1 m) (add_holds (stepped l) p q.1 (q.2 (left _ _ h)) m k)

wholes_are : (l : Level) (ps : List (Pair (OfStat l))) → all_within (map (λ q. q.0) ps) (yielding l) ≡ true → (inside : List Label) → s.all_stay (map (λ q. q.1) ps) inside ≡ true → Are (stepped l) (s.wholes (map (λ q. q.1) ps))
wholes_are l [] h inside k = refl
wholes_are l (q ∷ ps) h inside k = both ((q.2 (left _ _ h)).whole inside (left _ _ k)) (wholes_are l ps (right _ _ h) inside (right _ _ k))

whole_cases_are : (l : Level) (cs : List (Pair (OfCase l))) → all_within (map (λ q. q.0) cs) (yielding l) ≡ true → (inside : List Label) → s.cases_stay (map (λ q. q.1) cs) inside ≡ true → AreCases (stepped l) (s.whole_cases (map (λ q. q.1) cs))
whole_cases_are l [] h inside k = refl
whole_cases_are l (q ∷ cs) h inside k = both ((q.2 (left _ _ h)).whole inside (left _ _ k)) (whole_cases_are l cs (right _ _ h) inside (right _ _ k))

exprs_are : (l : Level) (ps : List (Pair (OfExpr l))) → all_within (map (λ q. q.0) ps) (yielding l) ≡ true → AreParts (stepped l) (map (λ q. q.1) ps)
exprs_are l [] h = refl
exprs_are l (q ∷ ps) h = both (q.2 (left _ _ h)) (exprs_are l ps (right _ _ h))

links_are : (l : Level) (ps : List (Pair (OfLink l))) → all_within (map (λ q. q.0) ps) (yielding l) ≡ true → AreLinks (stepped l) (map (λ q. q.1) ps)
links_are l [] h = refl
links_are l (q ∷ ps) h = both (q.2 (left _ _ h)) (links_are l ps (right _ _ h))

-- ## Cases

dispatched_are : (l : Level) (p : Place) (n : ℕ) (cs : List (Pair (OfCase l))) → all_within (map (λ q. q.0) cs) (yielding l) ≡ true → AreCases (stepped l) (s.dispatched p n (map (λ q. q.1) cs))
dispatched_are l p n [] h = refl
dispatched_are l p n (q ∷ cs) h = both (case_is (stepped l) _ _ ((q.2 (left _ _ h)).test) (goes_are (stepped l) p n)) (dispatched_are l p (n + 1) cs (right _ _ h))

add_cases_holds : (l : Level) (p : Place) (falls : Bool) (after n : ℕ) (cs : List (Pair (OfCase l))) → all_within (map (λ q. q.0) cs) (yielding l) ≡ true → Grows (stepped l) (s.add_cases p falls after n (map (λ q. q.1) cs))
add_cases_holds l p falls after n [] h m k = k
add_cases_holds l p falls after n (q ∷ cs) h m k = add_cases_holds l p falls after (n + 1) cs (right _ _ h) _
    (ends_holds (stepped l) _ (goes_are (stepped l) p (cond falls (n + 1) after)) _ ((q.2 (left _ _ h)).adds p _ (begins_holds (stepped l) n m k)))

dispatching_holds : (l : Level) (p : Place) (choice : CoreStat) (count after : ℕ) → stat_within choice l ≡ true → Grows l (s.dispatching p choice count after)
dispatching_holds l p choice count after h m k = ends_holds l _ (both h (goes_are l p after)) _ (draws_holds l 1 _ (draws_holds l count m k))

chosen_holds : (l : Level) (p : Place) (cs : List (Pair (OfCase l))) → all_within (map (λ q. q.0) cs) (yielding l) ≡ true → Grows (stepped l) (s.chosen p (map (λ q. q.1) cs))
chosen_holds l p cs h m k =
    let after = m.next + length (map (λ q. q.1) cs) in
    begins_holds (stepped l) after _ (add_cases_holds l p false after m.next cs h _
    (dispatching_holds (stepped l) p _ (length (map (λ q. q.1) cs)) after (if_is (stepped l) _ (dispatched_are l p m.next cs h)) m k))

switched_holds : (l : Level) (p : Place) (subject : CoreExpr) (cs : List (Pair (OfCase l))) → Is (stepped l) subject → all_within (map (λ q. q.0) cs) (yielding l) ≡ true → Grows (stepped l) (s.switched p subject (map (λ q. q.1) cs))
switched_holds l p subject cs e h m k =
    let after = m.next + length (map (λ q. q.1) cs) in
    begins_holds (stepped l) after _ (add_cases_holds l p true after m.next cs h _
    (dispatching_holds (stepped l) p _ (length (map (λ q. q.1) cs)) after (switch_is (stepped l) subject _ e (dispatched_are l p m.next cs h)) m k))

-- ## Loops

tested_holds : (l : Level) (p : Place) (after : ℕ) (test : Option CoreExpr) → IsThere l test → Grows l (s.tested p after test)
tested_holds l p after None h m k = k
tested_holds l p after (Some t) h m k = says_holds l _ (when_is l _ _ (linked_is l t _ h (act_is l (op.Unary Not) refl)) (goes_are l p after)) m k

updated_holds : (l : Level) (update : Option CoreExpr) → IsThere l update → Grows l (s.updated update)
updated_holds l None h m k = k
updated_holds l (Some u) h m k = says_holds l _ (do_is l u h) m k

headed_holds : (l : Level) (p : Place) (test : Option CoreExpr) (at : ℕ) → IsThere l test → Grows l (s.headed p test at)
headed_holds l p test at h m k = tested_holds l p (at + 2) test h _ (goes_then_holds l p at at _ (draws_holds l 3 m k))

turned_holds : (l : Level) (p : Place) (update : Option CoreExpr) (at : ℕ) → IsThere l update → Grows l (s.turned p update at)
turned_holds l p update at h m k = goes_then_holds l p at (at + 2) _ (updated_holds l update h _ (goes_then_holds l p (at + 1) (at + 1) m k))

looped_holds : (l : Level) (p : Place) (labels : List Label) (test update : Option CoreExpr) (body : List (Pair (OfStat l))) → IsThere (stepped l) test → IsThere (stepped l) update → all_within (map (λ q. q.0) body) (yielding l) ≡ true → Grows (stepped l) (s.looped p labels test update (map (λ q. q.1) body))
looped_holds l p labels test update body t u h m k =
    turned_holds (stepped l) p update m.next u _ (add_all_holds l (s.under p (m.next + 2) (m.next + 1) labels) body h _ (headed_holds (stepped l) p test m.next t m k))

labelled_holds : (l : Level) (p : Place) (label : Label) (body : List (Pair (OfStat l))) → all_within (map (λ q. q.0) body) (yielding l) ≡ true → Grows (stepped l) (s.labelled p label (map (λ q. q.1) body))
labelled_holds l p label body h m k =
    goes_then_holds (stepped l) p m.next m.next _ (add_all_holds l (s.under p m.next m.next (label ∷ [])) body h _ (draws_holds (stepped l) 1 m k))

-- ## Regions

region_with_holds : (l : Level) (p : Place) (row : List CoreStat) (locals : List Var) → Are l row → Grows l (s.region_with p row locals)
region_with_holds l p row locals h m k = says_holds l _ (set_number_is l p.registers.region m.regions) _
    (record { states = k.states; stats = k.stats; rows = and_one case_within l m.rows _ k.rows (numbered_is l m.regions row h) })

catching_are : (l : Level) (p : Place) (parameter : Var) (handler : ℕ) → Are l (s.catching p parameter handler)
catching_are l p parameter handler = both (set_number_is l p.registers.region p.region) (both
    (when_is l _ _ (holds_number_is l p.registers.ending.kind 1) (both (set_number_is l p.registers.ending.kind 0) (both (moved_is l parameter p.registers.ending.value) (both (set_number_is l p.registers.state handler) refl))))
    (both (again_is l p) refl))

guarded_holds : (l : Level) (p : Place) (parameter : Var) → Grows l (s.guarded p parameter)
guarded_holds l p parameter m k = region_with_holds l p _ (parameter ∷ []) (catching_are l p parameter m.next) m k

handled_holds : (l : Level) (p : Place) (handler : List (Pair (OfStat l))) (n : ℕ) → all_within (map (λ q. q.0) handler) (yielding l) ≡ true → Grows (stepped l) (s.handled p (map (λ q. q.1) handler) n)
handled_holds l p handler n h m k = goes_then_holds (stepped l) p (n + 1) (n + 1) _ (add_all_holds l p handler h _ (begins_holds (stepped l) n _ (ends_holds (stepped l) _ (moves_are (stepped l) p p.region (n + 1)) m k)))

caught_holds : (l : Level) (p : Place) (block : List (Pair (OfStat l))) (parameter : Var) (handler : List (Pair (OfStat l))) → all_within (map (λ q. q.0) block) (yielding l) ≡ true → all_within (map (λ q. q.0) handler) (yielding l) ≡ true → Grows (stepped l) (s.caught p (map (λ q. q.1) block) parameter (map (λ q. q.1) handler))
caught_holds l p block parameter handler g h m k =
    handled_holds l p handler m.next h _ (add_all_holds l (s.within p m.regions p.finals) block g _ (guarded_holds (stepped l) p parameter m k))

keeping_are : (l : Level) (p : Place) (c : Completion) (last : ℕ) → Are l (s.keeping p c last)
keeping_are l p c last = both (moved_is l c.kind p.registers.ending.kind) (both (moved_is l c.value p.registers.ending.value) (both (set_number_is l p.registers.ending.kind 0) (moves_are l p p.region last)))

kept_region_holds : (l : Level) (p : Place) (c : Completion) → Grows l (s.kept_region p c)
kept_region_holds l p c m k = region_with_holds l p _ (c.kind ∷ c.value ∷ []) (keeping_are l p c m.next) (record m { fresh = s.after_pair m.fresh }) (record { states = k.states; stats = k.stats; rows = k.rows })

finished_holds : (l : Level) (p : Place) (c : Completion) (last : List (Pair (OfStat l))) (n : ℕ) → all_within (map (λ q. q.0) last) (yielding l) ≡ true → Grows (stepped l) (s.finished p c (map (λ q. q.1) last) n)
finished_holds l p c last n h m k = goes_then_holds (stepped l) p (n + 1) (n + 1) _ (says_holds (stepped l) _ (handed_on_is (stepped l) p c) _
    (add_all_holds l p last h _ (begins_holds (stepped l) n _ (ends_holds (stepped l) _ (both (set_number_is (stepped l) c.kind 0) (moves_are (stepped l) p p.region n)) m k))))

ensured_holds : (l : Level) (p : Place) (block last : List (Pair (OfStat l))) → all_within (map (λ q. q.0) block) (yielding l) ≡ true → all_within (map (λ q. q.0) last) (yielding l) ≡ true → Grows (stepped l) (s.ensured p (map (λ q. q.1) block) (map (λ q. q.1) last))
ensured_holds l p block last g h m k =
    finished_holds l p (s.pair m.fresh) last m.next h _ (add_all_holds l (s.within p m.regions (p.finals + 1)) block g _ (kept_region_holds (stepped l) p (s.pair m.fresh) m k))

-- ## The steps

op_kept : (l : Level) (o : CoreOp) (bare : Bool) → op_within o bare (yielding l) ≡ op_within o bare (stepped l)
op_kept l op.Yield bare = refl
op_kept l op.Delegate bare = refl
op_kept l o bare = refl

head_kept : (l : Level) (h : CoreHead) → head_within h (yielding l) ≡ head_within h (stepped l)
head_kept l (head.Copy xs) = refl
head_kept l h = refl

bare_parts : (l : Level) (ps : List (Pair (OfExpr l))) → is_bare (map (λ q. q.0) ps) ≡ is_bare (map expr_within (map (λ q. q.1) ps))
bare_parts l [] = refl
bare_parts l (q ∷ ps) = refl

link_kept : (l : Level) (z : Links (relation l)) → OfLink l (within.link_step (link_first (relation l) z)) (machines.link_step (link_second (relation l) z))
link_kept l (layer.Strict o parts site) h = strict_is (stepped l) o (map (λ q. q.1) parts) site
    (subst (λ b. op_within o b (stepped l) ≡ true) (bare_parts l parts) (sym (op_kept l o (is_bare (map (λ q. q.0) parts))) ∙ left _ _ h))
    (exprs_are l parts (right _ _ h))
link_kept l (layer.Lazy w taken None) h = lazy_is (stepped l) w taken.1 None (taken.2 (left _ _ h)) refl
link_kept l (layer.Lazy w taken (Some other)) h = lazy_is (stepped l) w taken.1 (Some other.1) (taken.2 (left _ _ h)) (other.2 (right _ _ h))
link_kept l (layer.Run body) h = absurd (false≢true h)

expr_kept : (l : Level) (z : Exprs (relation l)) → OfExpr l (within.expr_step (expr_first (relation l) z)) (machines.expr_step (expr_second (relation l) z))
expr_kept l z h = expression_is (stepped l) z.site z.head _ (sym (head_kept l z.head) ∙ left _ _ h) (links_are l z.links (right _ _ h))

case_of_parts : (l : Level) (test : Option (Pair (OfExpr l))) (body : List (Pair (OfStat l))) → OfCase l (within.case_step (case_first (relation l) (record { test = test; body = body }))) (machines.case_step (case_second (relation l) (record { test = test; body = body })))
case_of_parts l None body h = record {
  whole = λ inside k. case_is (stepped l) None _ refl (wholes_are l body h inside k);
  test = refl;
  adds = λ p m k. add_all_holds l p body h m k;
}
case_of_parts l (Some t) body h = record {
  whole = λ inside k. case_is (stepped l) (Some t.1) _ (t.2 (left _ _ h)) (wholes_are l body (right _ _ h) inside k);
  test = t.2 (left _ _ h);
  adds = λ p m k. add_all_holds l p body (right _ _ h) m k;
}

case_kept : (l : Level) (z : Cases (relation l)) → OfCase l (within.case_step (case_first (relation l) z)) (machines.case_step (case_second (relation l) z))
case_kept l z = case_of_parts l z.test z.body

stat_kept : (l : Level) (z : Stats (relation l)) → OfStat l (within.stat_step (stat_first (relation l) z)) (machines.stat_step (stat_second (relation l) z))
stat_kept l (layer.Do x) h = record { whole = λ inside k. do_is _ _ (x.2 h); adds = λ p. says_holds (stepped l) _ (do_is _ _ (x.2 h)) }
stat_kept l (layer.If cases) h = record { whole = λ inside k. if_is _ _ (whole_cases_are l cases h inside k); adds = λ p. chosen_holds l p cases h }
stat_kept l (layer.Switch subject cases) h = record {
  whole = λ inside k. switch_is _ _ _ (subject.2 (left _ _ h)) (whole_cases_are l cases (right _ _ h) inside k);
  adds = λ p. switched_holds l p subject.1 cases (subject.2 (left _ _ h)) (right _ _ h);
}
stat_kept l (layer.Loop labels None None body) h = record {
  whole = λ inside k. loop_is _ labels None None _ refl refl (wholes_are l body h (labels ++ inside) k);
  adds = λ p. looped_holds l p labels None None body refl refl h;
}
stat_kept l (layer.Loop labels None (Some u) body) h = record {
  whole = λ inside k. loop_is _ labels None (Some u.1) _ refl (u.2 (left _ _ h)) (wholes_are l body (right _ _ h) (labels ++ inside) k);
  adds = λ p. looped_holds l p labels None (Some u.1) body refl (u.2 (left _ _ h)) (right _ _ h);
}
stat_kept l (layer.Loop labels (Some t) None body) h = record {
  whole = λ inside k. loop_is _ labels (Some t.1) None _ (t.2 (left _ _ (left _ _ h))) refl (wholes_are l body (right _ _ h) (labels ++ inside) k);
  adds = λ p. looped_holds l p labels (Some t.1) None body (t.2 (left _ _ (left _ _ h))) refl (right _ _ h);
}
stat_kept l (layer.Loop labels (Some t) (Some u) body) h = record {
  whole = λ inside k. loop_is _ labels (Some t.1) (Some u.1) _ (t.2 (left _ _ (left _ _ h))) (u.2 (right _ _ (left _ _ h))) (wholes_are l body (right _ _ h) (labels ++ inside) k);
  adds = λ p. looped_holds l p labels (Some t.1) (Some u.1) body (t.2 (left _ _ (left _ _ h))) (u.2 (right _ _ (left _ _ h))) (right _ _ h);
}
stat_kept l (layer.Labelled label body) h = record { whole = λ inside k. labelled_is _ label _ (wholes_are l body h (label ∷ inside) k); adds = λ p. labelled_holds l p label body h }
stat_kept l (layer.Jump goes_on label) h = record { whole = λ inside k. jump_is _ goes_on label; adds = λ p. jumped_holds (stepped l) p goes_on label }
stat_kept l (layer.Return x) h = record { whole = λ inside k. return_is _ _ (x.2 h); adds = λ p. ends_holds (stepped l) _ (unwinds_are (stepped l) p 2 x.1 (x.2 h)) }
stat_kept l (layer.Throw x) h = record { whole = λ inside k. throw_is _ _ (x.2 h); adds = λ p. says_holds (stepped l) _ (throw_is _ _ (x.2 h)) }
stat_kept l (layer.TryCatch block parameter names handler) h = record {
  whole = λ inside k. catch_is _ _ parameter names _ (left _ _ (left _ _ h)) (wholes_are l block (right _ _ (left _ _ h)) inside (left _ _ k)) (wholes_are l handler (right _ _ h) inside (right _ _ k));
  adds = λ p. caught_holds l p block parameter handler (right _ _ (left _ _ h)) (right _ _ h);
}
stat_kept l (layer.TryFinally block last) h = record {
  whole = λ inside k. finally_is _ _ _ (wholes_are l block (left _ _ h) inside (left _ _ k)) (wholes_are l last (right _ _ h) inside (right _ _ k));
  adds = λ p. ensured_holds l p block last (left _ _ h) (right _ _ h);
}
stat_kept l (layer.Scoped names body) h = record { whole = λ inside k. scoped_is _ names _ (left _ _ h) (wholes_are l body (right _ _ h) inside k); adds = λ p. add_all_holds l p body (right _ _ h) }
stat_kept l (layer.Yield value kind result) h = record { whole = λ inside k. absurd (false≢true k); adds = λ p. yielded_holds (stepped l) p value.1 kind result (value.2 h) }

kept : (l : Level) → Keeps (relation l)
kept l = record { link = link_kept l; stat = stat_kept l; case = case_kept l; expr = expr_kept l }

-- ## Functions and the core

parts_of : (l : Level) (p : Place) (ss : List CoreStat) → Are (yielding l) ss → Grows (stepped l) (s.add_stats p ss)
parts_of l p [] h m k = k
parts_of l p (x ∷ ss) h m k = parts_of l p ss (right _ _ h) (s.add p (s.part x) m) (add_holds (stepped l) p (s.part x) (stat_related (relation l) (kept l) x (left _ _ h)) m k)

last_row_is : (l : Level) (r : Registers) → case_within (s.last_row r) l ≡ true
last_row_is l r = numbered_is l 0 _ (both (when_is l _ _ (holds_number_is l r.ending.kind 1) (both (throw_is l _ (variable_is l r.ending.value)) refl)) (both (given_is l 2 _ (variable_is l r.ending.value)) refl))

started_holds : (l : Level) (r : Registers) (fresh : Fresh) → Holds l (s.started r fresh)
started_holds l r fresh = record { states = refl; stats = refl; rows = both (last_row_is l r) refl }

machine_holds : (l : Level) (r : Registers) (body : List CoreStat) (fresh : Fresh) → Are (yielding l) body → Holds (stepped l) (s.machine r body fresh)
machine_holds l r body fresh h = begins_holds (stepped l) 0 _ (ends_holds (stepped l) _ (unwinds_are (stepped l) (s.outermost r) 2 undefined (undefined_is (stepped l))) _
    (parts_of l (s.outermost r) body h _ (started_holds (stepped l) r fresh)))

arrival_is : (l : Level) (r : Registers) → stat_within (s.arrival r) l ≡ true
arrival_is l r = when_is l _ _
    (two_is l (variable r.ending.kind) (op.Operator Same) _ refl (variable_is l r.ending.kind) (two_is l (variable r.region) (op.Operator Add) (number 3) refl (variable_is l r.region) (number_is l 3)))
    (both (moved_is l r.state r.ending.value) (both (set_number_is l r.ending.kind 0) (both (again_is l (s.outermost r)) refl)))

unwinder_is : (l : Level) (r : Registers) (rows : List CoreCase) → AreCases l rows → stat_within (s.unwinder r rows) l ≡ true
unwinder_is l r rows h = when_is l _ _ (is_there_is l r.ending) (both (arrival_is l r) (both (switch_is l _ rows (variable_is l r.region) h) refl))

passed_on_is : (l : Level) (r : Registers) → stat_within (s.passed_on r) l ≡ true
passed_on_is l r = when_is l _ _ (holds_number_is l r.ending.kind 1) (both (when_is l _ _ (holds_number_is l r.region 0) (both (throw_is l _ (variable_is l r.thrown)) refl)) refl)

step_are : (l : Level) (r : Registers) (rows states : List CoreCase) → AreCases l rows → AreCases l states → Are l (s.step r rows states)
step_are l r rows states h k = both (loop_is l (r.turn ∷ []) None None _ refl refl (both
    (catch_is l _ r.thrown [] _ refl
    (both (unwinder_is l r rows h) (both (switch_is l _ states (variable_is l r.state) k) refl))
    (both (passed_on_is l r) (both (moved_is l r.ending.value r.thrown) (both (set_number_is l r.ending.kind 1) refl))))
    refl)) refl

making_are : (l : Level) (r : Registers) → Are l (s.making r)
making_are l r = both (set_number_is l r.ending.kind 0) (both (set_number_is l r.state 0) (both (set_number_is l r.region 0)
    (both (return_is l _ (expression_is l None (head.Primitive GeneratorMake) [] refl refl)) refl)))

-- the level of a body, where it is one and the same
one_level : (l : Level) (b : Bool) (ss : List CoreStat) → Are l ss → Are (cond b l l) ss
one_level l true ss h = h
one_level l false ss h = h

generator_is : (l : Level) (f : CoreFunction) (fresh : Fresh) → Are (stepped l) f.setup → Are (yielding l) f.body → function_within (stepped l) (stepped l) (s.generator f fresh).made ≡ true
generator_is l f fresh h k =
    let r = s.registers fresh (s.turn_label f) in
    let m = machine_holds l r f.body (s.after_registers fresh) k in
    both (both h (one_level (stepped l) (is_generator f.kind) (s.making r) (making_are (stepped l) r))) (step_are (stepped l) r _ _ m.rows m.states)

function_by : (l : Level) (f : CoreFunction) (fresh : Fresh) (b : Bool) → Are (stepped l) f.setup → Are (cond b (yielding l) (stepped l)) f.body → Are (stepped l) f.step
    → function_within (stepped l) (stepped l) (cond b (s.generator f fresh) (record { made = f; fresh = fresh })).made ≡ true
function_by l f fresh true h k m = generator_is l f fresh h k
function_by l f fresh false h k m = both (both h (one_level (stepped l) (is_generator f.kind) f.body k)) m

function_is : (l : Level) (f : CoreFunction) (fresh : Fresh) → function_within (yielding l) (stepped l) f ≡ true → function_within (stepped l) (stepped l) (s.one_function f fresh).made ≡ true
function_is l f fresh h = function_by l f fresh (is_generator f.kind) (left _ _ (left _ _ h)) (right _ _ (left _ _ h)) (right _ _ h)

functions_are : (l : Level) (fs made : List CoreFunction) (fresh : Fresh) → list_all (function_within (yielding l) (stepped l)) fs ≡ true → list_all (function_within (stepped l) (stepped l)) made ≡ true → list_all (function_within (stepped l) (stepped l)) (s.all_functions fs made fresh).made ≡ true
functions_are l [] made fresh h k = k
functions_are l (f ∷ fs) made fresh h k = functions_are l fs _ _ (right _ _ h) (more (function_within (stepped l) (stepped l)) made _ k (function_is l f fresh (left _ _ h)))

pub machines_out : (l : Level) (core : Core) → IsWithin (yielding l) (stepped l) core → IsWithin (stepped l) (stepped l) (s.with_machines core)
machines_out l core h = (functions_are l core.functions [] core.fresh h.0 refl, h.1)
