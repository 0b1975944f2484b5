-- Lawful statements that a machine is made of.
use Rattle.std.proofs.Common.{◌≡◌, ℕ, ◌+◌, Bool, true, false, ◌&&◌, ◌||◌, cond, not, nat_eq, length, List, [], ◌∷◌, None, Some, refl, sym, ap, arith, ◌∙◌}
use Rattle.std.proofs.lemmas.Bool.{false≢true, leb-true}
use Rattle.std.specs.List.{filter_map, list_all, list_any}
use Rattle.core_ast.specs.declared.parts.Binary.TheVariants.{Add, NotSame, Same}
use Rattle.core_ast.specs.declared.parts.Constant.TheVariants.{Integer}
use Rattle.core_ast.specs.declared.parts.CoreHead.TheVariants as head
use Rattle.core_ast.specs.declared.parts.CoreOp.{CoreOp}
use Rattle.core_ast.specs.declared.parts.CoreOp.TheVariants as op
use Rattle.core_ast.specs.declared.parts.Label.{Label}
use Rattle.core_ast.specs.declared.parts.Primitive.TheVariants.{GeneratorMake}
use Rattle.core_ast.specs.declared.parts.Unary.TheVariants.{Not}
use Rattle.core_ast.specs.declared.parts.Var.{Var}
use Rattle.core_ast.specs.declared.tree.CoreCase.{CoreCase}
use Rattle.core_ast.specs.declared.tree.CoreExpr.{CoreExpr, out-CoreExpr, fold_out-CoreExpr}
use Rattle.core_ast.specs.declared.tree.CoreLink.TheOpen as layer
use Rattle.core_ast.specs.declared.tree.CoreStat.{CoreStat}
use Rattle.core_ast.specs.declared.tree.CoreStat.TheVariants as stat
use Rattle.core_ast.specs.Lawful as lawful
use Rattle.core_ast.specs.Lawful.{Round, Joint, Current, Plain, Property, Named, Hosted}
use Rattle.core_ast.specs.Made.{act, acting, expression, linked, variable}
use Rattle.pass_rules.specs.declared.state_rules.states.Completion.{Completion}
use Rattle.pass_rules.specs.declared.state_rules.states.Place.{Place}
use Rattle.pass_rules.specs.declared.state_rules.states.Registers.{Registers}
use Rattle.pass_rules.specs.declared.state_rules.states.Target.{Target}
use Rattle.pass_rules.specs.state_rules.States as s
use Rattle.pass_rules.specs.yield_rules.Yields.{case_of, number, two}
use Rattle.pass_rules.proofs.pass_laws.Related.{of_expr, of_case, expr_rolled}
use Rattle.pass_rules.proofs.pass_laws.Starts.{laws}
use Rattle.pass_rules.proofs.pass_laws.Within.{left, right, both, either}
use Rattle.lawful_passes.proofs.Far.{Are, AreCases, Is, act_far, acting_far, case_is, constant_far, done_is, ends_at, joint, joints, more_sites, number_is, return_is, rolled_is, runs, set_is, strict_joint, switch_is, variable_far, variable_is, when_is}
use Rattle.lawful_passes.proofs.Spilling.{Sound, Whole, not_hosted}

-- ## An expression that is lawful may be gone on with

links_run : (c : Current) (ls : List Joint) (round : Round) → lawful.links_lawful c ls round ≡ true → runs c ls round ≡ true
links_run c [] round h = refl
links_run c (l ∷ ls) round h = both (left _ _ h) (links_run (lawful.after l.ends) ls round (right _ _ h))

links_end : (c : Current) (ls : List Joint) (round : Round) → lawful.links_lawful c ls round ≡ true → lawful.is_hosted (ends_at c ls) ≡ false
links_end c [] round h = not_hosted c h
links_end c (l ∷ ls) round h = links_end (lawful.after l.ends) ls round (right _ _ h)

pub sound_whole : (r : Round) (x : CoreExpr) → Sound r x → Whole r x
sound_whole r x k =
    let c = lawful.begins (out-CoreExpr x).head in let ls = (out-CoreExpr x).links in
    let h = sym (ap (λ t. t r) (fold_out-CoreExpr laws.Link laws.Stat laws.Case laws.Expr laws.link_step laws.stat_step laws.case_step laws.expr_step x)) ∙ k in
    record {
      at = ends_at c (joints ls);
      plain = links_end c (joints ls) r (right _ _ (left _ _ h));
      far = record {
        site = left _ _ (left _ _ (left _ _ h));
        head = right _ _ (left _ _ (left _ _ h));
        links = links_run c (joints ls) r (right _ _ (left _ _ h));
        ends = refl;
        sites = leb-true (length (filter_map (λ l. l.site) (joints ls))) 1 (right _ _ h);
      };
    }

-- ## Small expressions and statements

abbrev pub Drawn : Round → Var → Type 0
Drawn r x = lawful.is_drawn r x ≡ true

abbrev pub Safe : ℕ → Type 0
Safe n = lawful.is_safe n ≡ true

set_sound : (r : Round) (x : Var) (e : CoreExpr) → Drawn r x → Sound r e → Is r (s.set x e)
set_sound r x e d h = let w = sound_whole r e h in set_is r w.at x e w.plain d w.far

pub set_number_is : (r : Round) (x : Var) (n : ℕ) → Drawn r x → Safe n → Is r (s.set_number x n)
set_number_is r x n d k = set_is r Plain x (number n) refl d (more_sites r Plain 0 1 _ (omega arith) (constant_far r (Integer n) k))

pub moved_is : (r : Round) (x y : Var) → Drawn r x → Drawn r y → Is r (s.moved x y)
moved_is r x y d e = set_is r Named x (variable y) refl d (more_sites r Named 0 1 _ (omega arith) (variable_far r y e))

two_is : (r : Round) (x : Var) (o : CoreOp) (y : CoreExpr) → lawful.may_stand_behind Named o ≡ true → lawful.is_hosted (lawful.gives o) ≡ false → lawful.takes o 1 ≡ true → lawful.op_lawful o r ≡ true → Drawn r x → Sound r y → Sound r (two (variable x) o y)
two_is r x o y b g t m d k = done_is r (lawful.gives o) _ (acting_far r Named 1 o y (variable x) b t m k (more_sites r Named 0 1 _ (omega arith) (variable_far r x d))) g

pub holds_number_is : (r : Round) (x : Var) (n : ℕ) → Drawn r x → Safe n → Sound r (s.holds_number x n)
holds_number_is r x n d k = two_is r x (op.Operator Same) (number n) refl refl refl refl d (number_is r n k)

is_there_is : (r : Round) (c : Completion) → Drawn r c.kind → Sound r (s.is_there c)
is_there_is r c d = two_is r c.kind (op.Operator NotSame) (number 0) refl refl refl refl d (number_is r 0 refl)

pub negated_is : (r : Round) (x : CoreExpr) → Sound r x → Sound r (linked x (act (op.Unary Not)))
negated_is r x h = let w = sound_whole r x h in done_is r Plain _ (act_far r w.at 1 (op.Unary Not) x (ap not w.plain) refl refl w.far) refl

throw_is : (r : Round) (x : CoreExpr) → Sound r x → Is r (stat.Throw x)
throw_is r x h = rolled_is r _ (layer.Throw x) (stat.rolls-Throw x) h

-- a list of two elements
element_is : (r : Round) (x : CoreExpr) → Sound r x → (lawful.link_step (layer.Strict op.Element (of_expr laws x ∷ []) None)).lawful r ≡ true
element_is r x h = both refl (both h refl)

elements_are : (r : Round) (x y : CoreExpr) → Sound r x → Sound r y → Sound r (expression None head.ArgumentList (acting op.Element x ∷ acting op.Element y ∷ []))
elements_are r x y h k =
    let given = λ (a b : Joint). lawful.expr_step (record { site = None; head = head.ArgumentList; links = a ∷ b ∷ [] }) r in
    let e = λ (z : CoreExpr). lawful.link_step (layer.Strict op.Element (of_expr laws z ∷ []) None) in
    ap (λ t. t r) (expr_rolled laws (record { site = None; head = head.ArgumentList; links = acting op.Element x ∷ acting op.Element y ∷ [] }))
    ∙ ap (λ a. given a (joint (acting op.Element y))) (strict_joint op.Element (x ∷ []) None)
    ∙ ap (λ b. given (e x) b) (strict_joint op.Element (y ∷ []) None)
    ∙ both (both refl (both (both refl (element_is r x h)) (both (both refl (element_is r y k)) refl))) refl

pub given_is : (r : Round) (how : ℕ) (x : CoreExpr) → r.returns ≡ true → Safe how → Sound r x → Is r (s.given how x)
given_is r how x e k h = return_is r _ e (elements_are r (number how) x (number_is r how k) h)

-- ## With registers

-- the names of registers are drawn, and a turn may begin again
pub record Fit (r : Round) (g : Registers) : Type 0 where
  pub resumed_kind : Drawn r g.resumption.kind
  pub resumed_value : Drawn r g.resumption.value
  pub ending_kind : Drawn r g.ending.kind
  pub ending_value : Drawn r g.ending.value
  pub state : Drawn r g.state
  pub region : Drawn r g.region
  pub thrown : Drawn r g.thrown
  pub turn : lawful.has_label g.turn r.loops ≡ true
  pub returns : r.returns ≡ true

pub again_is : (r : Round) (p : Place) → Fit r p.registers → Is r (s.again p)
again_is r p f = rolled_is r _ (layer.Jump true (Some p.registers.turn)) (stat.rolls-Jump true (Some p.registers.turn)) f.turn

pub goes_are : (r : Round) (p : Place) (n : ℕ) → Fit r p.registers → Safe n → Are r (s.goes p n)
goes_are r p n f k = both (set_number_is r p.registers.state n f.state k) (both (again_is r p f) refl)

pub moves_are : (r : Round) (p : Place) (region n : ℕ) → Fit r p.registers → Safe region → Safe n → Are r (s.moves p region n)
moves_are r p region n f j k = both (set_number_is r p.registers.region region f.region j) (goes_are r p n f k)

goes_to_are : (r : Round) (p : Place) (region n : ℕ) → Fit r p.registers → Safe region → Safe n → Are r (s.goes_to p region n)
goes_to_are r p region n f j k = either (Are r) (nat_eq region p.region) {x = s.goes p n} {y = s.moves p region n} (goes_are r p n f k) (moves_are r p region n f j k)

pub unwinds_are : (r : Round) (p : Place) (kind : ℕ) (x : CoreExpr) → Fit r p.registers → Safe kind → Sound r x → Are r (s.unwinds p kind x)
unwinds_are r p kind x f k h = both (set_sound r p.registers.ending.value x f.ending_value h) (both (set_number_is r p.registers.ending.kind kind f.ending_kind k) (both (again_is r p f) refl))

pub handed_on_is : (r : Round) (p : Place) (c : Completion) → Fit r p.registers → Drawn r c.kind → Drawn r c.value → Is r (s.handed_on p c)
handed_on_is r p c f d e = when_is r _ _ (is_there_is r c d) (both (moved_is r p.registers.ending.kind c.kind f.ending_kind d) (both (moved_is r p.registers.ending.value c.value f.ending_value e) (both (again_is r p f) refl)))

pub handing_are : (r : Round) (p : Place) (how : ℕ) (x : CoreExpr) (n : ℕ) → Fit r p.registers → Safe how → Safe n → Sound r x → Are r (s.handing p how x n)
handing_are r p how x n f j k h = both (set_number_is r p.registers.state n f.state k) (both (given_is r how x f.returns j h) refl)

-- ## Jumps to targets

abbrev target_safe : Target → Bool
target_safe t = (lawful.is_safe t.region && lawful.is_safe (t.region + 3)) && (lawful.is_safe t.leaves && lawful.is_safe t.goes_on)

abbrev pub TargetsSafe : List Target → Type 0
TargetsSafe ts = list_all target_safe ts ≡ true

abbrev pub has_target : Label → List Target → Bool
has_target l ts = list_any (λ (t : Target). nat_eq t.label.0 l.0) ts

state_safe : (goes_on : Bool) (t : Target) → target_safe t ≡ true → Safe (s.state_of goes_on t)
state_safe true t h = right _ _ (right _ _ h)
state_safe false t h = left _ _ (right _ _ h)

reaches_are : (r : Round) (p : Place) (n : ℕ) (t : Target) → Fit r p.registers → target_safe t ≡ true → Safe n → Are r (s.reaches p n t)
reaches_are r p n t f h k = either (Are r) (nat_eq t.finals p.finals) {x = s.goes_to p t.region n} {y = s.unwinds p (t.region + 3) (number n)}
    (goes_to_are r p t.region n f (left _ _ (left _ _ h)) k)
    (unwinds_are r p (t.region + 3) (number n) f (right _ _ (left _ _ h)) (number_is r n k))

pub jumps_are : (r : Round) (p : Place) (goes_on : Bool) (l : Label) (ts : List Target) → Fit r p.registers → TargetsSafe ts → has_target l ts ≡ true → Are r (s.jumps_to p goes_on l (s.found l ts))
jumps_are r p goes_on l [] f h k = absurd (false≢true k)
jumps_are r p goes_on l (t ∷ ts) f h k = by_first (nat_eq t.label.0 l.0) k (jumps_are r p goes_on l ts f (right _ _ h))
  where
    by_first : (b : Bool) → (b || has_target l ts) ≡ true → (has_target l ts ≡ true → Are r (s.jumps_to p goes_on l (s.found l ts))) → Are r (s.jumps_to p goes_on l (cond b (Some t) (s.found l ts)))
    by_first true k g = reaches_are r p (s.state_of goes_on t) t f (left _ _ h) (state_safe goes_on t (left _ _ h))
    by_first false k g = g k

-- ## Regions

pub catching_are : (r : Round) (p : Place) (parameter : Var) (handler : ℕ) → Fit r p.registers → Safe p.region → Drawn r parameter → Safe handler → Are r (s.catching p parameter handler)
catching_are r p parameter handler f j d k = both (set_number_is r p.registers.region p.region f.region j) (both
    (when_is r _ _ (holds_number_is r p.registers.ending.kind 1 f.ending_kind refl)
    (both (set_number_is r p.registers.ending.kind 0 f.ending_kind refl) (both (moved_is r parameter p.registers.ending.value d f.ending_value) (both (set_number_is r p.registers.state handler f.state k) refl))))
    (both (again_is r p f) refl))

pub keeping_are : (r : Round) (p : Place) (c : Completion) (last : ℕ) → Fit r p.registers → Safe p.region → Drawn r c.kind → Drawn r c.value → Safe last → Are r (s.keeping p c last)
keeping_are r p c last f j d e k = both (moved_is r c.kind p.registers.ending.kind d f.ending_kind) (both (moved_is r c.value p.registers.ending.value e f.ending_value)
    (both (set_number_is r p.registers.ending.kind 0 f.ending_kind refl) (moves_are r p p.region last f j k)))

pub nothing_kept_are : (r : Round) (p : Place) (c : Completion) (n : ℕ) → Fit r p.registers → Safe p.region → Drawn r c.kind → Safe n → Are r (s.nothing_kept p c n)
nothing_kept_are r p c n f j d k = both (set_number_is r c.kind 0 d refl) (moves_are r p p.region n f j k)

-- ## Cases by number, and the step

pub numbered_is : (r : Round) (n : ℕ) (ss : List CoreStat) → Safe n → Are r ss → of_case laws (case_of (Some (number n)) ss) r ≡ true
numbered_is r n ss k h = case_is r (number n) ss (number_is r n k) h

pub last_row_is : (r : Round) (g : Registers) → Fit r g → of_case laws (s.last_row g) r ≡ true
last_row_is r g f = numbered_is r 0 _ refl (both (when_is r _ _ (holds_number_is r g.ending.kind 1 f.ending_kind refl) (both (throw_is r _ (variable_is r g.ending.value f.ending_value)) refl))
    (both (given_is r 2 _ f.returns refl (variable_is r g.ending.value f.ending_value)) refl))

has_arrived_is : (r : Round) (g : Registers) → Fit r g → Sound r (s.has_arrived g)
has_arrived_is r g f = two_is r g.ending.kind (op.Operator Same) _ refl refl refl refl f.ending_kind (two_is r g.region (op.Operator Add) (number 3) refl refl refl refl f.region (number_is r 3 refl))

arrival_is : (r : Round) (g : Registers) → Fit r g → Is r (s.arrival g)
arrival_is r g f = when_is r _ _ (has_arrived_is r g f) (both (moved_is r g.state g.ending.value f.state f.ending_value) (both (set_number_is r g.ending.kind 0 f.ending_kind refl) (both (again_is r (s.outermost g) f) refl)))

unwinder_is : (r : Round) (g : Registers) (rows : List CoreCase) → Fit r g → AreCases r rows → Is r (s.unwinder g rows)
unwinder_is r g rows f h = when_is r _ _ (is_there_is r g.ending f.ending_kind) (both (arrival_is r g f) (both (switch_is r _ rows (variable_is r g.region f.region) h) refl))

passed_on_is : (r : Round) (g : Registers) → Fit r g → Is r (s.passed_on g)
passed_on_is r g f = when_is r _ _ (holds_number_is r g.ending.kind 1 f.ending_kind refl) (both (when_is r _ _ (holds_number_is r g.region 0 f.region refl) (both (throw_is r _ (variable_is r g.thrown f.thrown)) refl)) refl)

caught_step_are : (r : Round) (g : Registers) → Fit r g → Are r (s.caught_step g)
caught_step_are r g f = both (passed_on_is r g f) (both (moved_is r g.ending.value g.thrown f.ending_value f.thrown) (both (set_number_is r g.ending.kind 1 f.ending_kind refl) refl))

pub guarded_step_is : (r : Round) (g : Registers) (rows states : List CoreCase) → Fit r g → AreCases r rows → AreCases r states → Is r (s.guarded_step g rows states)
guarded_step_is r g rows states f h k =
    let block = s.unwinder g rows ∷ stat.Switch (variable g.state) states ∷ [] in
    rolled_is r _ (layer.TryCatch block g.thrown [] (s.caught_step g)) (stat.rolls-TryCatch block g.thrown [] (s.caught_step g))
    (both (both (both (both (unwinder_is r g rows f h) (both (switch_is r _ states (variable_is r g.state f.state) k) refl)) f.thrown) refl) (caught_step_are r g f))

-- the body makes the generator
pub making_are : (r : Round) (g : Registers) → Drawn r g.ending.kind → Drawn r g.state → Drawn r g.region → r.returns ≡ true → Are r (s.making g)
making_are r g d e f k = both (set_number_is r g.ending.kind 0 d refl) (both (set_number_is r g.state 0 e refl) (both (set_number_is r g.region 0 f refl)
    (both (return_is r _ k (ap (λ t. t r) (expr_rolled laws (record { site = None; head = head.Primitive GeneratorMake; links = [] })))) refl)))
