-- A core that can be written can be so where generators become machines.
use Rattle.std.specs.List.{list_all}
use Rattle.std.proofs.Common.{◌≡◌, ℕ, ◌+◌, Bool, true, false, ◌&&◌, ◌||◌, not, cond, nat_eq, length, List, [], ◌∷◌, ◌++◌, map, Option, None, Some, is_none, refl, sym, ap, subst, ◌∙◌}
use Rattle.core_ast.specs.declared.naming.Fresh.{Fresh}
use Rattle.core_ast.specs.declared.parts.Binary.TheVariants.{Add, NotSame, Same}
use Rattle.core_ast.specs.declared.parts.CoreHead.TheVariants as head
use Rattle.core_ast.specs.declared.parts.CoreOp.{CoreOp}
use Rattle.core_ast.specs.declared.parts.CoreOp.TheVariants as op
use Rattle.core_ast.specs.declared.parts.Label.{Label}
use Rattle.core_ast.specs.declared.parts.Primitive.TheVariants.{GeneratorMake}
use Rattle.core_ast.specs.declared.parts.Unary.TheVariants.{Not}
use Rattle.core_ast.specs.declared.parts.Var.{Var}
use Rattle.core_ast.specs.declared.tree.CoreCase.{CoreCase}
use Rattle.core_ast.specs.declared.tree.CoreExpr.{CoreExpr}
use Rattle.core_ast.specs.declared.tree.CoreLink.{CoreLink}
use Rattle.core_ast.specs.declared.tree.CoreLink.TheOpen as layer
use Rattle.core_ast.specs.declared.tree.CoreStat.{CoreStat}
use Rattle.core_ast.specs.declared.tree.CoreStat.TheVariants as stat
use Rattle.core_ast.specs.declared.whole.CoreFunction.{CoreFunction}
use Rattle.core_ast.specs.Lawful.{is_generator}
use Rattle.core_ast.specs.Made.{acting, expression, undefined, variable}
use Rattle.emission_laws.specs.Writable as w
use Rattle.emission_laws.specs.Writable.{Choice, Piece}
use Rattle.pass_rules.specs.declared.state_rules.states.Completion.{Completion}
use Rattle.pass_rules.specs.declared.state_rules.states.Machine.{Machine}
use Rattle.pass_rules.specs.declared.state_rules.states.Place.{Place}
use Rattle.pass_rules.specs.declared.state_rules.states.Registers.{Registers}
use Rattle.pass_rules.specs.declared.state_rules.states.Target.{Target}
use Rattle.pass_rules.specs.state_rules.States as s
use Rattle.pass_rules.specs.state_rules.States.{Branch, Part}
use Rattle.pass_rules.specs.yield_rules.Yields.{case_of, number, two, when}
use Rattle.pass_rules.proofs.pass_laws.Machines.{machines}
use Rattle.pass_rules.proofs.pass_laws.Related.{Relates, Keeps, Pair, Links, Stats, Exprs, link_first, link_second, stat_first, stat_second, case_first, case_second, expr_first, expr_second, stat_related, of_case, of_expr}
use Rattle.pass_rules.proofs.pass_laws.Within as b
use Rattle.pass_rules.proofs.pass_laws.Within.{left, right, both, either}
use Rattle.writable_passes.specs.Laws.{MachinesKeepWritable}
use Rattle.writable_passes.specs.Rooms.{turn_fits}
use Rattle.writable_passes.proofs.Fits.{Are, AreCases, AreParts, Fits, Is, Keys, MaybeFits, act_fits, acting_fits, below, case_is, case_no_default, catch_is, default_choice, default_is, do_is, expression_fits, finally_is, if_is, joined, jump_is, labelled_is, lazy_piece, lazy_pieces, loop_is, more, number_fits, one, parted, piece, pieces, return_is, run_piece, scoped_is, set_is, strict_piece, switch_is, throw_is, top, undefined_fits, variable_fits, when_is, writes, yield_is}

-- ## Small statements

set_number_is : (l : ℕ) (x : Var) (n : ℕ) → Is l (s.set_number x n)
set_number_is l x n = set_is l x (number n) (number_fits l n)

moved_is : (l : ℕ) (x y : Var) → Is l (s.moved x y)
moved_is l x y = set_is l x (variable y) (variable_fits l y)

two_fits : (l : ℕ) (x : CoreExpr) (o : CoreOp) (y : CoreExpr) → w.defined o ≡ None → w.op_fits o ≡ true → Fits l x → Fits l y → Fits l (two x o y)
two_fits l x o y d k h m = acting_fits l x o y d k h m

holds_number_is : (l : ℕ) (x : Var) (n : ℕ) → Fits l (s.holds_number x n)
holds_number_is l x n = two_fits l (variable x) (op.Operator Same) (number n) refl refl (variable_fits l x) (number_fits l n)

-- a list of two elements, whose links define no key
elements_fit : (l : ℕ) (x y : CoreExpr) → Fits l x → Fits l y → Fits l (expression None head.ArgumentList (acting op.Element x ∷ acting op.Element y ∷ []))
elements_fit l x y h k =
    let p = λ (z : CoreExpr). strict_piece l op.Element (z ∷ []) None in let q = λ (z : CoreExpr) (e : Fits l z). both {b = true} e refl in
    expression_fits l None head.ArgumentList _ refl (subst (λ a. w.links_fit [] (a ∷ piece l (acting op.Element y) ∷ []) ≡ true) (sym (p x)) (subst (λ b. w.links_fit [] (element x ∷ b ∷ []) ≡ true) (sym (p y)) (both (both (q x h) refl) (both (both (q y k) refl) refl))))
  where
    element : CoreExpr → Piece
    element z = record { key = None; fits = true && (of_expr (writes l) z && true) }

given_is : (l : ℕ) (how : ℕ) (x : CoreExpr) → Fits l x → Is l (s.given how x)
given_is l how x h = return_is l _ (elements_fit l (number how) x (number_fits l how) h)

again_is : (l : ℕ) (p : Place) → Is l (s.again p)
again_is l p = jump_is l true (Some p.registers.turn)

goes_are : (l : ℕ) (p : Place) (n : ℕ) → Are l (s.goes p n)
goes_are l p n = both (set_number_is l p.registers.state n) (both (again_is l p) refl)

moves_are : (l : ℕ) (p : Place) (region n : ℕ) → Are l (s.moves p region n)
moves_are l p region n = both (set_number_is l p.registers.region region) (goes_are l p n)

goes_to_are : (l : ℕ) (p : Place) (region n : ℕ) → Are l (s.goes_to p region n)
goes_to_are l p region n = either (Are l) (nat_eq region p.region) {x = s.goes p n} {y = s.moves p region n} (goes_are l p n) (moves_are l p region n)

unwinds_are : (l : ℕ) (p : Place) (kind : ℕ) (x : CoreExpr) → Fits l x → Are l (s.unwinds p kind x)
unwinds_are l p kind x h = both (set_is l p.registers.ending.value x h) (both (set_number_is l p.registers.ending.kind kind) (both (again_is l p) refl))

is_there_is : (l : ℕ) (c : Completion) → Fits l (s.is_there c)
is_there_is l c = two_fits l (variable c.kind) (op.Operator NotSame) (number 0) refl refl (variable_fits l c.kind) (number_fits l 0)

handed_on_is : (l : ℕ) (p : Place) (c : Completion) → Is l (s.handed_on p c)
handed_on_is l p c = when_is l _ _ (is_there_is l c) (both (moved_is l p.registers.ending.kind c.kind) (both (moved_is l p.registers.ending.value c.value) (both (again_is l p) refl)))

-- ## Machines whose statements can be written; each state and each row has a test

abbrev AllTested : ℕ → List CoreCase → Type 0
AllTested l cs = list_all (λ (c : Choice). not c.is_default) (map (of_case (writes l)) cs) ≡ true

record Holds (l : ℕ) (m : Machine) : Type 0 where
  states : AreCases l m.states
  tested : AllTested l m.states
  stats : Are l m.stats
  rows : AreCases l m.rows
  row_tested : AllTested l m.rows

abbrev Grows : ℕ → (Machine → Machine) → Type 0
Grows l f = (m : Machine) → Holds l m → Holds l (f m)

tested_default : (l : ℕ) (cs : List CoreCase) (may : Bool) → AllTested l cs → w.one_default may (map (of_case (writes l)) cs) ≡ true
tested_default l [] may h = refl
tested_default l (c ∷ cs) may h = both (either_or (not (of_case (writes l) c).is_default) may (left _ _ h)) (tested_default l cs _ (right _ _ h))
  where
    either_or : (a b : Bool) → a ≡ true → (a || b) ≡ true
    either_or a b e = ap (λ x. x || b) e

cases_one : (l : ℕ) (cs : List CoreCase) (c : CoreCase) → AreCases l cs → (of_case (writes l) c).fits ≡ true → AreCases l (cs ++ c ∷ [])
cases_one l [] c h k = both k refl
cases_one l (x ∷ cs) c h k = both (left _ _ h) (cases_one l cs c (right _ _ h) k)

tested_one : (l : ℕ) (cs : List CoreCase) (c : CoreCase) → AllTested l cs → (of_case (writes l) c).is_default ≡ false → AllTested l (cs ++ c ∷ [])
tested_one l [] c h k = both (ap not k) refl
tested_one l (x ∷ cs) c h k = both (left _ _ h) (tested_one l cs c (right _ _ h) k)

numbered_is : (l : ℕ) (n : ℕ) (ss : List CoreStat) → Are l ss → (of_case (writes l) (case_of (Some (number n)) ss)).fits ≡ true
numbered_is l n ss h = case_is l (number n) ss (number_fits l n) h

says_holds : (l : ℕ) (x : CoreStat) → Is l x → Grows l (s.says x)
says_holds l x h m k = either (Holds l) m.over k (record { states = k.states; tested = k.tested; stats = one l m.stats x k.stats h; rows = k.rows; row_tested = k.row_tested })

ends_holds : (l : ℕ) (ss : List CoreStat) → Are l ss → Grows l (s.ends ss)
ends_holds l ss h m k = either (Holds l) m.over k (record { states = k.states; tested = k.tested; stats = more l m.stats ss k.stats h; rows = k.rows; row_tested = k.row_tested })

begins_holds : (l : ℕ) (n : ℕ) → Grows l (s.begins n)
begins_holds l n m k = record {
  states = cases_one l m.states _ k.states (numbered_is l m.here m.stats k.stats);
  tested = tested_one l m.states _ k.tested (case_no_default l (number m.here) m.stats);
  stats = refl;
  rows = k.rows;
  row_tested = k.row_tested;
}

draws_holds : (l : ℕ) (n : ℕ) → Grows l (s.draws n)
draws_holds l n m k = record { states = k.states; tested = k.tested; stats = k.stats; rows = k.rows; row_tested = k.row_tested }

goes_then_holds : (l : ℕ) (p : Place) (n here : ℕ) → Grows l (s.goes_then p n here)
goes_then_holds l p n here m k = begins_holds l here _ (ends_holds l _ (goes_are l p n) m k)

hands_out_holds : (l : ℕ) (p : Place) (how : ℕ) (x : CoreExpr) → Fits l x → Grows l (s.hands_out p how x)
hands_out_holds l p how x h m k = begins_holds l m.next _ (draws_holds l 1 _ (ends_holds l _ (both (set_number_is l p.registers.state m.next) (both (given_is l how x h) refl)) m k))

yielded_holds : (l : ℕ) (p : Place) (x : CoreExpr) (kind : Option Var) (result : Var) → Fits l x → Grows l (s.yielded p x kind result)
yielded_holds l p x None result h m k = says_holds l _ (moved_is l result p.registers.resumption.value) _ (says_holds l _ (handed_on_is l p p.registers.resumption) _ (hands_out_holds l p 0 x h m k))
yielded_holds l p x (Some kind) result h m k = says_holds l _ (moved_is l result p.registers.resumption.value) _ (says_holds l _ (moved_is l kind p.registers.resumption.kind) _ (hands_out_holds l p 1 x h m k))

jumps_to_are : (l : ℕ) (p : Place) (goes_on : Bool) (label : Label) (t : Option Target) → Are l (s.jumps_to p goes_on label t)
jumps_to_are l p goes_on label None = both (jump_is l goes_on (Some label)) refl
jumps_to_are l p goes_on label (Some t) = either (Are l) (nat_eq t.finals p.finals) {x = s.goes_to p t.region (s.state_of goes_on t)} {y = s.unwinds p (t.region + 3) (number (s.state_of goes_on t))} (goes_to_are l p t.region (s.state_of goes_on t)) (unwinds_are l p (t.region + 3) _ (number_fits l (s.state_of goes_on t)))

jumped_holds : (l : ℕ) (p : Place) (goes_on : Bool) (label : Option Label) → Grows l (s.jumped p goes_on label)
jumped_holds l p goes_on None m k = ends_holds l _ (both (jump_is l goes_on None) refl) m k
jumped_holds l p goes_on (Some label) m k = ends_holds l _ (jumps_to_are l p goes_on label (s.found label p.targets)) m k

-- ## Loops and regions

tested_holds : (l : ℕ) (p : Place) (after : ℕ) (test : Option CoreExpr) → MaybeFits l test → Grows l (s.tested p after test)
tested_holds l p after None h m k = k
tested_holds l p after (Some t) h m k = says_holds l _ (when_is l _ _ (act_fits l t (op.Unary Not) refl refl h) (goes_are l p after)) m k

updated_holds : (l : ℕ) (update : Option CoreExpr) → MaybeFits l update → Grows l (s.updated update)
updated_holds l None h m k = k
updated_holds l (Some u) h m k = says_holds l _ (do_is l u h) m k

headed_holds : (l : ℕ) (p : Place) (test : Option CoreExpr) (at : ℕ) → MaybeFits l test → Grows l (s.headed p test at)
headed_holds l p test at h m k = tested_holds l p (at + 2) test h _ (goes_then_holds l p at at _ (draws_holds l 3 m k))

turned_holds : (l : ℕ) (p : Place) (update : Option CoreExpr) (at : ℕ) → MaybeFits l update → Grows l (s.turned p update at)
turned_holds l p update at h m k = goes_then_holds l p at (at + 2) _ (updated_holds l update h _ (goes_then_holds l p (at + 1) (at + 1) m k))

region_with_holds : (l : ℕ) (p : Place) (row : List CoreStat) (locals : List Var) → Are l row → Grows l (s.region_with p row locals)
region_with_holds l p row locals h m k = says_holds l _ (set_number_is l p.registers.region m.regions) _ (record {
  states = k.states;
  tested = k.tested;
  stats = k.stats;
  rows = cases_one l m.rows _ k.rows (numbered_is l m.regions row h);
  row_tested = tested_one l m.rows _ k.row_tested (case_no_default l (number m.regions) row);
})

catching_are : (l : ℕ) (p : Place) (parameter : Var) (handler : ℕ) → Are l (s.catching p parameter handler)
catching_are l p parameter handler = both (set_number_is l p.registers.region p.region) (both
    (when_is l _ _ (holds_number_is l p.registers.ending.kind 1) (both (set_number_is l p.registers.ending.kind 0) (both (moved_is l parameter p.registers.ending.value) (both (set_number_is l p.registers.state handler) refl))))
    (both (again_is l p) refl))

keeping_are : (l : ℕ) (p : Place) (c : Completion) (last : ℕ) → Are l (s.keeping p c last)
keeping_are l p c last = both (moved_is l c.kind p.registers.ending.kind) (both (moved_is l c.value p.registers.ending.value) (both (set_number_is l p.registers.ending.kind 0) (moves_are l p p.region last)))

kept_region_holds : (l : ℕ) (p : Place) (c : Completion) → Grows l (s.kept_region p c)
kept_region_holds l p c m k = region_with_holds l p _ (c.kind ∷ c.value ∷ []) (keeping_are l p c m.next) (record m { fresh = s.after_pair m.fresh }) (record { states = k.states; tested = k.tested; stats = k.stats; rows = k.rows; row_tested = k.row_tested })

-- ## What is shown of nodes

record PartIs (l : ℕ) (x : Part) : Type 0 where
  whole : Is l x.whole
  adds : (p : Place) → Grows l (x.adds p)

record BranchIs (l : ℕ) (c : Choice) (x : Branch) : Type 0 where
  whole : (of_case (writes l) x.whole).fits ≡ true
  default : (of_case (writes l) x.whole).is_default ≡ c.is_default
  test : MaybeFits l x.test
  is_test : is_none x.test ≡ c.is_default
  adds : (p : Place) → Grows l (x.adds p)

record LinkIs (l : ℕ) (p : Piece) (x : CoreLink) : Type 0 where
  key : (piece l x).key ≡ p.key
  fits : (piece l x).fits ≡ true

abbrev OfLink : ℕ → Piece → CoreLink → Type 0
OfLink l p x = p.fits ≡ true → LinkIs l p x

abbrev OfStat : ℕ → Bool → Part → Type 0
OfStat l b x = b ≡ true → PartIs l x

abbrev OfCase : ℕ → Choice → Branch → Type 0
OfCase l c x = c.fits ≡ true → BranchIs l c x

abbrev OfExpr : ℕ → Bool → CoreExpr → Type 0
OfExpr l b x = b ≡ true → Fits l x

abbrev relation : (l : ℕ) → Relates (writes l) machines
relation l = record { Link = OfLink l; Stat = OfStat l; Case = OfCase l; Expr = OfExpr l }

-- ## Lists

add_holds : (l : ℕ) (p : Place) (x : Part) → PartIs l x → Grows l (s.add p x)
add_holds l p x h m k = either (Holds l) (x.stays []) {x = s.says x.whole m} {y = x.adds p m} (says_holds l x.whole h.whole m k) (h.adds p m k)

add_all_holds : (l : ℕ) (p : Place) (ps : List (Pair (OfStat l))) → w.every (map (λ q. q.0) ps) ≡ true → Grows l (s.add_all p (map (λ q. q.1) ps))
add_all_holds l p [] h m k = k
add_all_holds l p (q ∷ ps) h m k = add_all_holds l p ps (right _ _ h) (s.add p q.1 m) (add_holds l p q.1 (q.2 (left _ _ h)) m k)

wholes_are : (l : ℕ) (ps : List (Pair (OfStat l))) → w.every (map (λ q. q.0) ps) ≡ true → Are l (s.wholes (map (λ q. q.1) ps))
wholes_are l [] h = refl
wholes_are l (q ∷ ps) h = both (q.2 (left _ _ h)).whole (wholes_are l ps (right _ _ h))

whole_cases_are : (l : ℕ) (cs : List (Pair (OfCase l))) → w.choices_fit (map (λ q. q.0) cs) ≡ true → AreCases l (s.whole_cases (map (λ q. q.1) cs))
whole_cases_are l [] h = refl
whole_cases_are l (q ∷ cs) h = both (q.2 (left _ _ h)).whole (whole_cases_are l cs (right _ _ h))

-- one default at most, by the marks
marked : (l : ℕ) (c : CoreCase) (cs : List CoreCase) (d may : Bool) → (of_case (writes l) c).is_default ≡ d → (not d || may) ≡ true → w.one_default (not d && may) (map (of_case (writes l)) cs) ≡ true → w.one_default may (map (of_case (writes l)) (c ∷ cs)) ≡ true
marked l c cs d may e h k = subst (λ x. ((not x || may) && w.one_default (not x && may) (map (of_case (writes l)) cs)) ≡ true) (sym e) (both h k)

whole_default : (l : ℕ) (cs : List (Pair (OfCase l))) (may : Bool) → w.choices_fit (map (λ q. q.0) cs) ≡ true → w.one_default may (map (λ q. q.0) cs) ≡ true → w.one_default may (map (of_case (writes l)) (s.whole_cases (map (λ q. q.1) cs))) ≡ true
whole_default l [] may h k = refl
whole_default l (q ∷ cs) may h k = marked l q.1.whole (s.whole_cases (map (λ q. q.1) cs)) q.0.is_default may (q.2 (left _ _ h)).default (left _ _ k) (whole_default l cs _ (right _ _ h) (right _ _ k))

exprs_are : (l : ℕ) (ps : List (Pair (OfExpr l))) → w.every (map (λ q. q.0) ps) ≡ true → AreParts l (map (λ q. q.1) ps)
exprs_are l [] h = refl
exprs_are l (q ∷ ps) h = both (q.2 (left _ _ h)) (exprs_are l ps (right _ _ h))

links_are : (l : ℕ) (ps : List (Pair (OfLink l))) (keys : Keys) → w.links_fit keys (map (λ q. q.0) ps) ≡ true → w.links_fit keys (pieces l (map (λ q. q.1) ps)) ≡ true
links_are l [] keys h = refl
links_are l (q ∷ ps) keys h =
    let k = q.2 (left _ _ (left _ _ h)) in let rest = pieces l (map (λ p. p.1) ps) in
    both (both k.fits (ap (w.is_new keys) k.key ∙ right _ _ (left _ _ h))) (subst (λ key. w.links_fit (w.with_key keys key) rest ≡ true) (sym k.key) (links_are l ps _ (right _ _ h)))

-- ## Cases

dispatched_is : (l : ℕ) (p : Place) (n : ℕ) (test : Option CoreExpr) → MaybeFits l test → (of_case (writes l) (case_of test (s.goes p n))).fits ≡ true
dispatched_is l p n None h = default_is l (s.goes p n) (goes_are l p n)
dispatched_is l p n (Some t) h = case_is l t (s.goes p n) h (goes_are l p n)

dispatched_mark : (l : ℕ) (p : Place) (n : ℕ) (test : Option CoreExpr) → (of_case (writes l) (case_of test (s.goes p n))).is_default ≡ is_none test
dispatched_mark l p n None = ap (λ c. c.is_default) (default_choice l (s.goes p n))
dispatched_mark l p n (Some t) = case_no_default l t (s.goes p n)

dispatched_are : (l : ℕ) (p : Place) (n : ℕ) (cs : List (Pair (OfCase l))) → w.choices_fit (map (λ q. q.0) cs) ≡ true → AreCases l (s.dispatched p n (map (λ q. q.1) cs))
dispatched_are l p n [] h = refl
dispatched_are l p n (q ∷ cs) h = both (dispatched_is l p n q.1.test (q.2 (left _ _ h)).test) (dispatched_are l p (n + 1) cs (right _ _ h))

dispatched_default : (l : ℕ) (p : Place) (n : ℕ) (cs : List (Pair (OfCase l))) (may : Bool) → w.choices_fit (map (λ q. q.0) cs) ≡ true → w.one_default may (map (λ q. q.0) cs) ≡ true → w.one_default may (map (of_case (writes l)) (s.dispatched p n (map (λ q. q.1) cs))) ≡ true
dispatched_default l p n [] may h k = refl
dispatched_default l p n (q ∷ cs) may h k = marked l _ (s.dispatched p (n + 1) (map (λ q. q.1) cs)) q.0.is_default may (dispatched_mark l p n q.1.test ∙ (q.2 (left _ _ h)).is_test) (left _ _ k) (dispatched_default l p (n + 1) cs _ (right _ _ h) (right _ _ k))

add_cases_holds : (l : ℕ) (p : Place) (falls : Bool) (after n : ℕ) (cs : List (Pair (OfCase l))) → w.choices_fit (map (λ q. q.0) cs) ≡ true → Grows l (s.add_cases p falls after n (map (λ q. q.1) cs))
add_cases_holds l p falls after n [] h m k = k
add_cases_holds l p falls after n (q ∷ cs) h m k = add_cases_holds l p falls after (n + 1) cs (right _ _ h) _
    (ends_holds l _ (goes_are l p (cond falls (n + 1) after)) _ ((q.2 (left _ _ h)).adds p _ (begins_holds l n m k)))

dispatching_holds : (l : ℕ) (p : Place) (choice : CoreStat) (count after : ℕ) → Is l choice → Grows l (s.dispatching p choice count after)
dispatching_holds l p choice count after h m k = ends_holds l _ (both h (goes_are l p after)) _ (draws_holds l 1 _ (draws_holds l count m k))

chosen_holds : (l : ℕ) (p : Place) (cs : List (Pair (OfCase l))) → w.choices_fit (map (λ q. q.0) cs) ≡ true → Grows l (s.chosen p (map (λ q. q.1) cs))
chosen_holds l p cs h m k =
    let after = m.next + length (map (λ q. q.1) cs) in
    begins_holds l after _ (add_cases_holds l p false after m.next cs h _
    (dispatching_holds l p _ (length (map (λ q. q.1) cs)) after (if_is l _ (dispatched_are l p m.next cs h)) m k))

switched_holds : (l : ℕ) (p : Place) (subject : CoreExpr) (cs : List (Pair (OfCase l))) → Fits l subject → w.choices_fit (map (λ q. q.0) cs) ≡ true → w.one_default true (map (λ q. q.0) cs) ≡ true → Grows l (s.switched p subject (map (λ q. q.1) cs))
switched_holds l p subject cs e h d m k =
    let after = m.next + length (map (λ q. q.1) cs) in
    begins_holds l after _ (add_cases_holds l p true after m.next cs h _
    (dispatching_holds l p _ (length (map (λ q. q.1) cs)) after (switch_is l subject _ e (dispatched_are l p m.next cs h) (dispatched_default l p m.next cs true h d)) m k))

looped_holds : (l : ℕ) (p : Place) (labels : List Label) (test update : Option CoreExpr) (body : List (Pair (OfStat l))) → MaybeFits l test → MaybeFits l update → w.every (map (λ q. q.0) body) ≡ true → Grows l (s.looped p labels test update (map (λ q. q.1) body))
looped_holds l p labels test update body t u h m k =
    turned_holds l p update m.next u _ (add_all_holds l (s.under p (m.next + 2) (m.next + 1) labels) body h _ (headed_holds l p test m.next t m k))

labelled_holds : (l : ℕ) (p : Place) (label : Label) (body : List (Pair (OfStat l))) → w.every (map (λ q. q.0) body) ≡ true → Grows l (s.labelled p label (map (λ q. q.1) body))
labelled_holds l p label body h m k = goes_then_holds l p m.next m.next _ (add_all_holds l (s.under p m.next m.next (label ∷ [])) body h _ (draws_holds l 1 m k))

handled_holds : (l : ℕ) (p : Place) (handler : List (Pair (OfStat l))) (n : ℕ) → w.every (map (λ q. q.0) handler) ≡ true → Grows l (s.handled p (map (λ q. q.1) handler) n)
handled_holds l p handler n h m k = goes_then_holds l p (n + 1) (n + 1) _ (add_all_holds l p handler h _ (begins_holds l n _ (ends_holds l _ (moves_are l p p.region (n + 1)) m k)))

caught_holds : (l : ℕ) (p : Place) (block : List (Pair (OfStat l))) (parameter : Var) (handler : List (Pair (OfStat l))) → w.every (map (λ q. q.0) block) ≡ true → w.every (map (λ q. q.0) handler) ≡ true → Grows l (s.caught p (map (λ q. q.1) block) parameter (map (λ q. q.1) handler))
caught_holds l p block parameter handler g h m k =
    handled_holds l p handler m.next h _ (add_all_holds l (s.within p m.regions p.finals) block g _ (region_with_holds l p _ (parameter ∷ []) (catching_are l p parameter m.next) m k))

finished_holds : (l : ℕ) (p : Place) (c : Completion) (last : List (Pair (OfStat l))) (n : ℕ) → w.every (map (λ q. q.0) last) ≡ true → Grows l (s.finished p c (map (λ q. q.1) last) n)
finished_holds l p c last n h m k = goes_then_holds l p (n + 1) (n + 1) _ (says_holds l _ (handed_on_is l p c) _
    (add_all_holds l p last h _ (begins_holds l n _ (ends_holds l _ (both (set_number_is l c.kind 0) (moves_are l p p.region n)) m k))))

ensured_holds : (l : ℕ) (p : Place) (block last : List (Pair (OfStat l))) → w.every (map (λ q. q.0) block) ≡ true → w.every (map (λ q. q.0) last) ≡ true → Grows l (s.ensured p (map (λ q. q.1) block) (map (λ q. q.1) last))
ensured_holds l p block last g h m k =
    finished_holds l p (s.pair m.fresh) last m.next h _ (add_all_holds l (s.within p m.regions (p.finals + 1)) block g _ (kept_region_holds l p (s.pair m.fresh) m k))

-- ## The steps

link_by : (l : ℕ) (x : CoreLink) (p : Piece) (key : Option (List ℕ)) (f : Bool) → piece l x ≡ record { key = key; fits = f } → f ≡ true → key ≡ p.key → LinkIs l p x
link_by l x p key f e k m = record { key = ap (λ q. q.key) e ∙ m; fits = ap (λ q. q.fits) e ∙ k }

link_kept : (l : ℕ) (z : Links (relation l)) → OfLink l ((writes l).link_step (link_first (relation l) z)) (machines.link_step (link_second (relation l) z))
link_kept l (layer.Strict o parts site) h = link_by l _ _ _ _ (strict_piece l o (map (λ q. q.1) parts) site) (both (left _ _ h) (exprs_are l parts (right _ _ h))) refl
link_kept l (layer.Lazy x taken None) h = link_by l _ _ _ _ (lazy_piece l x taken.1) (both (taken.2 (left _ _ h)) refl) refl
link_kept l (layer.Lazy x taken (Some other)) h = link_by l _ _ _ _ (lazy_pieces l x taken.1 other.1) (both (taken.2 (left _ _ h)) (other.2 (right _ _ h))) refl
link_kept l (layer.Run body) h = link_by l _ _ _ _ (run_piece l (s.wholes (map (λ q. q.1) body))) (wholes_are l body h) refl

expr_kept : (l : ℕ) (z : Exprs (relation l)) → OfExpr l ((writes l).expr_step (expr_first (relation l) z)) (machines.expr_step (expr_second (relation l) z))
expr_kept l z h = expression_fits l z.site z.head _ (left _ _ h) (links_are l z.links [] (right _ _ h))

case_by : (l : ℕ) (test : Option (Pair (OfExpr l))) (body : List (Pair (OfStat l))) → OfCase l ((writes l).case_step (case_first (relation l) (record { test = test; body = body }))) (machines.case_step (case_second (relation l) (record { test = test; body = body })))
case_by l None body h =
    let b = s.wholes (map (λ q. q.1) body) in
    record { whole = default_is l b (wholes_are l body h); default = ap (λ c. c.is_default) (default_choice l b); test = tt; is_test = refl; adds = λ p m k. add_all_holds l p body h m k }
case_by l (Some t) body h =
    let b = s.wholes (map (λ q. q.1) body) in
    record { whole = case_is l t.1 b (t.2 (left _ _ h)) (wholes_are l body (right _ _ h)); default = case_no_default l t.1 b; test = t.2 (left _ _ h); is_test = refl; adds = λ p m k. add_all_holds l p body (right _ _ h) m k }

stat_kept : (l : ℕ) (z : Stats (relation l)) → OfStat l ((writes l).stat_step (stat_first (relation l) z)) (machines.stat_step (stat_second (relation l) z))
stat_kept l (layer.Do x) h = record { whole = do_is l _ (x.2 h); adds = λ p. says_holds l _ (do_is l _ (x.2 h)) }
stat_kept l (layer.If cases) h = record { whole = if_is l _ (whole_cases_are l cases h); adds = λ p. chosen_holds l p cases h }
stat_kept l (layer.Switch subject cases) h = record {
  whole = switch_is l _ _ (subject.2 (left _ _ (left _ _ h))) (whole_cases_are l cases (right _ _ (left _ _ h))) (whole_default l cases true (right _ _ (left _ _ h)) (right _ _ h));
  adds = λ p. switched_holds l p subject.1 cases (subject.2 (left _ _ (left _ _ h))) (right _ _ (left _ _ h)) (right _ _ h);
}
stat_kept l (layer.Loop labels None None body) h = record {
  whole = loop_is l labels None None _ (left _ _ (left _ _ (left _ _ h))) tt tt (wholes_are l body (right _ _ h));
  adds = λ p. looped_holds l p labels None None body tt tt (right _ _ h);
}
stat_kept l (layer.Loop labels None (Some u) body) h = record {
  whole = loop_is l labels None (Some u.1) _ (left _ _ (left _ _ (left _ _ h))) tt (u.2 (right _ _ (left _ _ h))) (wholes_are l body (right _ _ h));
  adds = λ p. looped_holds l p labels None (Some u.1) body tt (u.2 (right _ _ (left _ _ h))) (right _ _ h);
}
stat_kept l (layer.Loop labels (Some t) None body) h = record {
  whole = loop_is l labels (Some t.1) None _ (left _ _ (left _ _ (left _ _ h))) (t.2 (right _ _ (left _ _ (left _ _ h)))) tt (wholes_are l body (right _ _ h));
  adds = λ p. looped_holds l p labels (Some t.1) None body (t.2 (right _ _ (left _ _ (left _ _ h)))) tt (right _ _ h);
}
stat_kept l (layer.Loop labels (Some t) (Some u) body) h = record {
  whole = loop_is l labels (Some t.1) (Some u.1) _ (left _ _ (left _ _ (left _ _ h))) (t.2 (right _ _ (left _ _ (left _ _ h)))) (u.2 (right _ _ (left _ _ h))) (wholes_are l body (right _ _ h));
  adds = λ p. looped_holds l p labels (Some t.1) (Some u.1) body (t.2 (right _ _ (left _ _ (left _ _ h)))) (u.2 (right _ _ (left _ _ h))) (right _ _ h);
}
stat_kept l (layer.Labelled label body) h = record { whole = labelled_is l label _ (left _ _ h) (wholes_are l body (right _ _ h)); adds = λ p. labelled_holds l p label body (right _ _ h) }
stat_kept l (layer.Jump goes_on label) h = record { whole = jump_is l goes_on label; adds = λ p. jumped_holds l p goes_on label }
stat_kept l (layer.Return x) h = record { whole = return_is l _ (x.2 h); adds = λ p. ends_holds l _ (unwinds_are l p 2 x.1 (x.2 h)) }
stat_kept l (layer.Throw x) h = record { whole = throw_is l _ (x.2 h); adds = λ p. says_holds l _ (throw_is l _ (x.2 h)) }
stat_kept l (layer.TryCatch block parameter names handler) h = record { whole = catch_is l _ parameter names _ (wholes_are l block (left _ _ h)) (wholes_are l handler (right _ _ h)); adds = λ p. caught_holds l p block parameter handler (left _ _ h) (right _ _ h) }
stat_kept l (layer.TryFinally block last) h = record { whole = finally_is l _ _ (wholes_are l block (left _ _ h)) (wholes_are l last (right _ _ h)); adds = λ p. ensured_holds l p block last (left _ _ h) (right _ _ h) }
stat_kept l (layer.Scoped names body) h = record { whole = scoped_is l names _ (wholes_are l body h); adds = λ p. add_all_holds l p body h }
stat_kept l (layer.Yield value kind result) h = record { whole = yield_is l _ kind result (value.2 h); adds = λ p. yielded_holds l p value.1 kind result (value.2 h) }

kept : (l : ℕ) → Keeps (relation l)
kept l = record { link = link_kept l; stat = stat_kept l; case = λ z. case_by l z.test z.body; expr = expr_kept l }

-- ## The step

body_holds : (l : ℕ) (p : Place) (ss : List CoreStat) → Are l ss → Grows l (s.add_stats p ss)
body_holds l p [] h m k = k
body_holds l p (x ∷ ss) h m k = body_holds l p ss (right _ _ h) (s.add p (s.part x) m) (add_holds l p (s.part x) (stat_related (relation l) (kept l) x (left _ _ h)) m k)

last_row_is : (l : ℕ) (r : Registers) → (of_case (writes l) (s.last_row r)).fits ≡ true
last_row_is l r = numbered_is l 0 _ (both (when_is l _ _ (holds_number_is l r.ending.kind 1) (both (throw_is l _ (variable_fits l r.ending.value)) refl)) (both (given_is l 2 _ (variable_fits l r.ending.value)) refl))

started_holds : (l : ℕ) (r : Registers) (fresh : Fresh) → Holds l (s.started r fresh)
started_holds l r fresh = record {
  states = refl;
  tested = refl;
  stats = refl;
  rows = both (last_row_is l r) refl;
  row_tested = both (ap not (case_no_default l (number 0) (when (s.holds_number r.ending.kind 1) (stat.Throw (variable r.ending.value) ∷ []) ∷ s.given 2 (variable r.ending.value) ∷ []))) refl;
}

machine_holds : (l : ℕ) (r : Registers) (body : List CoreStat) (fresh : Fresh) → Are l body → Holds l (s.machine r body fresh)
machine_holds l r body fresh h = begins_holds l 0 _ (ends_holds l _ (unwinds_are l (s.outermost r) 2 undefined (undefined_fits l)) _ (body_holds l (s.outermost r) body h _ (started_holds l r fresh)))

arrival_is : (l : ℕ) (r : Registers) → Is l (s.arrival r)
arrival_is l r = when_is l _ _
    (two_fits l (variable r.ending.kind) (op.Operator Same) _ refl refl (variable_fits l r.ending.kind) (two_fits l (variable r.region) (op.Operator Add) (number 3) refl refl (variable_fits l r.region) (number_fits l 3)))
    (both (moved_is l r.state r.ending.value) (both (set_number_is l r.ending.kind 0) (both (again_is l (s.outermost r)) refl)))

unwinder_is : (l : ℕ) (r : Registers) (rows : List CoreCase) → AreCases l rows → AllTested l rows → Is l (s.unwinder r rows)
unwinder_is l r rows h t = when_is l _ _ (is_there_is l r.ending) (both (arrival_is l r) (both (switch_is l _ rows (variable_fits l r.region) h (tested_default l rows true t)) refl))

passed_on_is : (l : ℕ) (r : Registers) → Is l (s.passed_on r)
passed_on_is l r = when_is l _ _ (holds_number_is l r.ending.kind 1) (both (when_is l _ _ (holds_number_is l r.region 0) (both (throw_is l _ (variable_fits l r.thrown)) refl)) refl)

step_are : (l : ℕ) (r : Registers) (m : Machine) → below l r.turn ≡ true → Holds l m → Are l (s.step r m.rows m.states)
step_are l r m t h = both (loop_is l (r.turn ∷ []) None None _ (both t refl) tt tt (both
    (catch_is l _ r.thrown [] _
    (both (unwinder_is l r m.rows h.rows h.row_tested) (both (switch_is l _ m.states (variable_fits l r.state) h.states (tested_default l m.states true h.tested)) refl))
    (both (passed_on_is l r) (both (moved_is l r.ending.value r.thrown) (both (set_number_is l r.ending.kind 1) refl))))
    refl)) refl

making_are : (l : ℕ) (r : Registers) → Are l (s.making r)
making_are l r = both (set_number_is l r.ending.kind 0) (both (set_number_is l r.state 0) (both (set_number_is l r.region 0)
    (both (return_is l _ (expression_fits l None (head.Primitive GeneratorMake) [] refl refl)) refl)))

-- ## Functions

function_by : (f : CoreFunction) (fresh : Fresh) (b : Bool) → (not b || w.label_fits (s.turn_label f)) ≡ true → w.function_fits f ≡ true → w.function_fits (cond b (s.generator f fresh) (record { made = f; fresh = fresh })).made ≡ true
function_by f fresh true t h =
    let r = s.registers fresh (s.turn_label f) in let q = parted f h in let m = s.machine r f.body (s.after_registers fresh) in
    joined (s.with_machine f r m) (record { cells = q.cells; parameters = q.parameters; setup = q.setup; body = making_are top r; step = step_are top r m t (machine_holds top r f.body (s.after_registers fresh) q.body) })
function_by f fresh false t h = h

functions_are : (fs made : List CoreFunction) (fresh : Fresh) → list_all turn_fits fs ≡ true → list_all w.function_fits fs ≡ true → list_all w.function_fits made ≡ true → list_all w.function_fits (s.all_functions fs made fresh).made ≡ true
functions_are [] made fresh t h k = k
functions_are (f ∷ fs) made fresh t h k =
    let g = s.one_function f fresh in
    functions_are fs (made ++ g.made ∷ []) g.fresh (right _ _ t) (right _ _ h) (b.more w.function_fits made g.made k (function_by f fresh (is_generator f.kind) (left _ _ t) (left _ _ h)))

pub machines_keep_writable : MachinesKeepWritable
machines_keep_writable hosts core h turns names = (functions_are core.functions [] core.fresh turns h.0 refl, h.1, names)
