-- A machine whose statements are lawful in its step stays so as it grows, as long as states can be numbered.
use Rattle.std.specs.List.{list_all}
use Rattle.std.proofs.Common.{◌≡◌, ℕ, ◌+◌, ◌≤◌, ◌<◌, Bool, true, false, ◌||◌, nat_eq, nat_lt, length, length-append, List, [], ◌∷◌, ◌++◌, map, Option, None, Some, refl, sym, ap, arith}
use Rattle.std.proofs.lemmas.Bool.{false≢true, le-leb, lt-ltb, ltb-true, eq-eqb, eqb-true}
use Rattle.core_ast.specs.declared.naming.Fresh.{Fresh}
use Rattle.core_ast.specs.declared.parts.Label.{Label}
use Rattle.core_ast.specs.declared.parts.Var.{Var}
use Rattle.core_ast.specs.declared.tree.CoreCase.{CoreCase}
use Rattle.core_ast.specs.declared.tree.CoreExpr.{CoreExpr}
use Rattle.core_ast.specs.declared.tree.CoreStat.{CoreStat}
use Rattle.core_ast.specs.Lawful as lawful
use Rattle.core_ast.specs.Lawful.{Round, has_label}
use Rattle.pass_rules.specs.declared.state_rules.states.Machine.{Machine}
use Rattle.pass_rules.specs.declared.state_rules.states.Place.{Place}
use Rattle.pass_rules.specs.declared.state_rules.states.Registers.{Registers}
use Rattle.pass_rules.specs.declared.state_rules.states.Target.{Target}
use Rattle.pass_rules.specs.state_rules.States as s
use Rattle.pass_rules.proofs.pass_laws.Related.{of_case}
use Rattle.pass_rules.proofs.pass_laws.Starts.{laws}
use Rattle.pass_rules.proofs.pass_laws.Within.{left, right, both, either}
use Rattle.lawful_passes.proofs.Far.{Are, AreCases, Is, do_is, joined, one, when_is}
use Rattle.lawful_passes.proofs.Inside.{Inside, Same}
use Rattle.lawful_passes.proofs.Labels.{label_split, or_map, or_second}
use Rattle.lawful_passes.proofs.Raised.{cases_raised, stats_raised}
use Rattle.lawful_passes.proofs.Rebound.{renamed}
use Rattle.lawful_passes.proofs.Spilling.{Sound}
use Rattle.lawful_passes.proofs.Stepping.{Fit, Safe, TargetsSafe, catching_are, goes_are, handed_on_is, handing_are, has_target, jumps_are, keeping_are, moved_is, negated_is, numbered_is, set_number_is}

abbrev pub size : Fresh → ℕ
size fresh = length fresh.hints

abbrev pub VarsBelow : ℕ → List Var → Type 0
VarsBelow top xs = list_all (λ (x : Var). nat_lt x.0 top) xs ≡ true

vars_more : (top : ℕ) (xs ys : List Var) → VarsBelow top xs → VarsBelow top ys → VarsBelow top (xs ++ ys)
vars_more top [] ys h k = k
vars_more top (x ∷ xs) ys h k = both (left _ _ h) (vars_more top xs ys (right _ _ h) k)

pub vars_rise : (top more : ℕ) (xs : List Var) → top ≤ more → VarsBelow top xs → VarsBelow more xs
vars_rise top more [] l h = refl
vars_rise top more (x ∷ xs) l h = both (let a = ltb-true x.0 top (left _ _ h) in lt-ltb x.0 more (omega arith)) (vars_rise top more xs l (right _ _ h))

pub safe : (n : ℕ) → n ≤ 9007199254740991 → Safe n
safe n l = le-leb n 9007199254740991 l

-- ## With so many names at least

abbrev pub SoundFrom : Round → ℕ → CoreExpr → Type 0
SoundFrom r base x = (b : ℕ) → base ≤ b → Sound (renamed b r) x

abbrev pub IsFrom : Round → ℕ → CoreStat → Type 0
IsFrom r base x = (b : ℕ) → base ≤ b → Is (renamed b r) x

abbrev pub AreFrom : Round → ℕ → List CoreStat → Type 0
AreFrom r base ss = (b : ℕ) → base ≤ b → Are (renamed b r) ss

abbrev pub DrawnFrom : ℕ → Var → Type 0
DrawnFrom base x = x.0 < base

pub drawn_from : (base b : ℕ) (x : Var) → base ≤ b → DrawnFrom base x → nat_lt x.0 b ≡ true
drawn_from base b x l h = lt-ltb x.0 b (omega arith)

-- ## Machines

-- lawful in the step so far, with these names at least and so many states at most
pub record Holds (r : Round) (base n : ℕ) (m : Machine) : Type 0 where
  pub states : AreCases (renamed (size m.fresh) r) m.states
  pub stats : Are (renamed (size m.fresh) r) m.stats
  pub rows : AreCases (renamed (size m.fresh) r) m.rows
  pub here : m.here ≤ 9007199254740991
  pub next : m.next ≤ n
  pub regions : m.regions + m.regions ≤ n + 1
  pub names : base ≤ size m.fresh
  pub locals : VarsBelow (size m.fresh) m.locals

-- with so many states more
abbrev pub Grows : Round → ℕ → ℕ → (Machine → Machine) → Type 0
Grows r base k f = (n : ℕ) (m : Machine) → n + k ≤ 9007199254740992 → Holds r base n m → Holds r base (n + k) (f m)

pub with_room : (r : Round) (base n k : ℕ) (m : Machine) → n ≤ k → Holds r base n m → Holds r base k m
with_room r base n k m l h = record {
  states = h.states;
  stats = h.stats;
  rows = h.rows;
  here = h.here;
  next = let a = h.next in omega arith;
  regions = let a = h.regions in omega arith;
  names = h.names;
  locals = h.locals;
}

pub with_fewer : (r : Round) (base less n : ℕ) (m : Machine) → less ≤ base → Holds r base n m → Holds r less n m
with_fewer r base less n m l h = record {
  states = h.states;
  stats = h.stats;
  rows = h.rows;
  here = h.here;
  next = h.next;
  regions = h.regions;
  names = let a = h.names in omega arith;
  locals = h.locals;
}

cases_one : (r : Round) (cs : List CoreCase) (c : CoreCase) → AreCases r cs → of_case laws c r ≡ true → AreCases r (cs ++ c ∷ [])
cases_one r [] c h k = both k refl
cases_one r (x ∷ cs) c h k = both (left _ _ h) (cases_one r cs c (right _ _ h) k)

pub says_holds : (r : Round) (base n : ℕ) (x : CoreStat) (m : Machine) → IsFrom r base x → Holds r base n m → Holds r base n (s.says x m)
says_holds r base n x m k h = either (Holds r base n) m.over h (record {
  states = h.states;
  stats = one (renamed (size m.fresh) r) m.stats x h.stats (k (size m.fresh) h.names);
  rows = h.rows;
  here = h.here;
  next = h.next;
  regions = h.regions;
  names = h.names;
  locals = h.locals;
})

pub ends_holds : (r : Round) (base n : ℕ) (ss : List CoreStat) (m : Machine) → AreFrom r base ss → Holds r base n m → Holds r base n (s.ends ss m)
ends_holds r base n ss m k h = either (Holds r base n) m.over h (record {
  states = h.states;
  stats = joined (renamed (size m.fresh) r) m.stats ss h.stats (k (size m.fresh) h.names);
  rows = h.rows;
  here = h.here;
  next = h.next;
  regions = h.regions;
  names = h.names;
  locals = h.locals;
})

pub begins_holds : (r : Round) (base n here : ℕ) (m : Machine) → here ≤ 9007199254740991 → Holds r base n m → Holds r base n (s.begins here m)
begins_holds r base n here m l h = record {
  states = cases_one (renamed (size m.fresh) r) m.states _ h.states (numbered_is (renamed (size m.fresh) r) m.here m.stats (safe m.here h.here) h.stats);
  stats = refl;
  rows = h.rows;
  here = l;
  next = h.next;
  regions = h.regions;
  names = h.names;
  locals = h.locals;
}

pub draws_holds : (r : Round) (base n k : ℕ) (m : Machine) → Holds r base n m → Holds r base (n + k) (s.draws k m)
draws_holds r base n k m h = record {
  states = h.states;
  stats = h.stats;
  rows = h.rows;
  here = h.here;
  next = let a = h.next in omega arith;
  regions = let a = h.regions in omega arith;
  names = h.names;
  locals = h.locals;
}

-- ## Places

pub record Known (base : ℕ) (g : Registers) : Type 0 where
  pub resumed_kind : DrawnFrom base g.resumption.kind
  pub resumed_value : DrawnFrom base g.resumption.value
  pub ending_kind : DrawnFrom base g.ending.kind
  pub ending_value : DrawnFrom base g.ending.value
  pub state : DrawnFrom base g.state
  pub region : DrawnFrom base g.region
  pub thrown : DrawnFrom base g.thrown

-- The place of a statement that is lawful in the first round; the second is that of the step, where there is but the label of its turns. The
-- labels round the statement have their targets.
pub record At (base : ℕ) (round r : Round) (p : Place) : Type 0 where
  pub hosts : r.hosts ≡ round.hosts
  pub functions : r.functions ≡ round.functions
  pub names : round.names ≤ base
  pub registers : Known base p.registers
  pub returns : r.returns ≡ true
  pub turn : has_label p.registers.turn r.loops ≡ true
  pub only : (l : Label) → has_label l r.labels ≡ true → l.0 ≡ p.registers.turn.0
  pub sub : (l : Label) → has_label l round.loops ≡ true → has_label l round.labels ≡ true
  pub region : p.region + 3 ≤ 9007199254740991
  pub targets : TargetsSafe p.targets
  pub covers : (l : Label) → has_label l round.labels ≡ true → has_target l p.targets ≡ true

pub fit : (base : ℕ) (round r : Round) (p : Place) → At base round r p → (b : ℕ) → base ≤ b → Fit (renamed b r) p.registers
fit base round r p h b l = record {
  resumed_kind = drawn_from base b p.registers.resumption.kind l h.registers.resumed_kind;
  resumed_value = drawn_from base b p.registers.resumption.value l h.registers.resumed_value;
  ending_kind = drawn_from base b p.registers.ending.kind l h.registers.ending_kind;
  ending_value = drawn_from base b p.registers.ending.value l h.registers.ending_value;
  state = drawn_from base b p.registers.state l h.registers.state;
  region = drawn_from base b p.registers.region l h.registers.region;
  thrown = drawn_from base b p.registers.thrown l h.registers.thrown;
  turn = h.turn;
  returns = h.returns;
}

pub same_from : (base : ℕ) (round r : Round) (p : Place) → At base round r p → (b : ℕ) → base ≤ b → Same round (renamed b r)
same_from base round r p h b l = record { hosts = h.hosts; functions = h.functions; names = let a = h.names in omega arith }

-- where nothing is inside a statement that stays yet
pub inside_from : (base : ℕ) (round r : Round) (p : Place) → At base round r p → (b : ℕ) → base ≤ b → Inside p.registers.turn.0 round (renamed b r) []
inside_from base round r p h b l = record {
  same = same_from base round r p h b l;
  sub = h.sub;
  labels = λ k e. absurd (false≢true e);
  loops = λ k e d. absurd (false≢true e);
  back = λ k i e. (let a = h.only k e in let z : ⊥ = omega arith in absurd z);
}

-- with more names
pub at_from : (base more : ℕ) (round r : Round) (p : Place) → base ≤ more → At base round r p → At more round r p
at_from base more round r p l h = record {
  hosts = h.hosts;
  functions = h.functions;
  names = let a = h.names in omega arith;
  registers = record {
    resumed_kind = let a = h.registers.resumed_kind in omega arith;
    resumed_value = let a = h.registers.resumed_value in omega arith;
    ending_kind = let a = h.registers.ending_kind in omega arith;
    ending_value = let a = h.registers.ending_value in omega arith;
    state = let a = h.registers.state in omega arith;
    region = let a = h.registers.region in omega arith;
    thrown = let a = h.registers.thrown in omega arith;
  };
  returns = h.returns;
  turn = h.turn;
  only = h.only;
  sub = h.sub;
  region = h.region;
  targets = h.targets;
  covers = h.covers;
}

pub at_region : (base : ℕ) (round r : Round) (p : Place) (region finals : ℕ) → region + 3 ≤ 9007199254740991 → At base round r p → At base round r (s.within p region finals)
at_region base round r p region finals l h = record {
  hosts = h.hosts;
  functions = h.functions;
  names = h.names;
  registers = h.registers;
  returns = h.returns;
  turn = h.turn;
  only = h.only;
  sub = h.sub;
  region = l;
  targets = h.targets;
  covers = h.covers;
}

target_left : (l : Label) (xs ys : List Target) → has_target l xs ≡ true → has_target l (xs ++ ys) ≡ true
target_left l [] ys h = absurd (false≢true h)
target_left l (x ∷ xs) ys h = or_map (nat_eq x.label.0 l.0) _ _ (target_left l xs ys) h

target_right : (l : Label) (xs ys : List Target) → has_target l ys ≡ true → has_target l (xs ++ ys) ≡ true
target_right l [] ys h = h
target_right l (x ∷ xs) ys h = or_second (nat_eq x.label.0 l.0) _ (target_right l xs ys h)

label_target : (p : Place) (leaves goes_on : ℕ) (l : Label) (ls : List Label) → has_label l ls ≡ true → has_target l (map (s.target p leaves goes_on) ls) ≡ true
label_target p leaves goes_on l [] h = absurd (false≢true h)
label_target p leaves goes_on l (k ∷ ls) h = by_first (nat_eq l.0 k.0) refl h (label_target p leaves goes_on l ls)
  where
    by_first : (c : Bool) → nat_eq l.0 k.0 ≡ c → (c || has_label l ls) ≡ true → (has_label l ls ≡ true → has_target l (map (s.target p leaves goes_on) ls) ≡ true) → (nat_eq k.0 l.0 || has_target l (map (s.target p leaves goes_on) ls)) ≡ true
    by_first true e h f = ap (λ c. c || has_target l (map (s.target p leaves goes_on) ls)) (eq-eqb k.0 l.0 (sym (eqb-true l.0 k.0 e)))
    by_first false e h f = or_second (nat_eq k.0 l.0) _ (f h)

targets_more : (xs ys : List Target) → TargetsSafe xs → TargetsSafe ys → TargetsSafe (xs ++ ys)
targets_more [] ys h k = k
targets_more (x ∷ xs) ys h k = both (left _ _ h) (targets_more xs ys (right _ _ h) k)

targets_safe : (p : Place) (leaves goes_on : ℕ) (ls : List Label) → p.region + 3 ≤ 9007199254740991 → leaves ≤ 9007199254740991 → goes_on ≤ 9007199254740991 → TargetsSafe (map (s.target p leaves goes_on) ls)
targets_safe p leaves goes_on [] l j k = refl
targets_safe p leaves goes_on (x ∷ ls) l j k = both (both (both (safe p.region (omega arith)) (safe (p.region + 3) l)) (both (safe leaves j) (safe goes_on k))) (targets_safe p leaves goes_on ls l j k)

-- under labels, which are those of a loop or not
pub at_under : (base : ℕ) (round r : Round) (p : Place) (leaves goes_on : ℕ) (ls lps : List Label) → leaves ≤ 9007199254740991 → goes_on ≤ 9007199254740991 → ((l : Label) → has_label l lps ≡ true → has_label l (ls ++ round.labels) ≡ true) → At base round r p
    → At base (record round { labels = ls ++ round.labels; loops = lps }) r (s.under p leaves goes_on ls)
at_under base round r p leaves goes_on ls lps j k sub h = record {
  hosts = h.hosts;
  functions = h.functions;
  names = h.names;
  registers = h.registers;
  returns = h.returns;
  turn = h.turn;
  only = h.only;
  sub = sub;
  region = h.region;
  targets = targets_more p.targets _ h.targets (targets_safe p leaves goes_on ls h.region j k);
  covers = λ l e. label_split l ls round.labels (λ d. target_right l p.targets _ (label_target p leaves goes_on l ls d)) (λ d. target_left l p.targets _ (h.covers l d)) e;
}

-- ## What grows a machine at a place

region_safe : (base : ℕ) (round r : Round) (p : Place) → At base round r p → Safe p.region
region_safe base round r p h = safe p.region (let a = h.region in omega arith)

pub goes_then_holds : (base : ℕ) (round r : Round) (p : Place) → At base round r p → (to here n : ℕ) (m : Machine) → to ≤ 9007199254740991 → here ≤ 9007199254740991 → Holds r base n m → Holds r base n (s.goes_then p to here m)
goes_then_holds base round r p a to here n m j k h = begins_holds r base n here _ k (ends_holds r base n (s.goes p to) m (λ b l. goes_are (renamed b r) p to (fit base round r p a b l) (safe to j)) h)

hands_out_holds : (base : ℕ) (round r : Round) (p : Place) → At base round r p → (how : ℕ) (x : CoreExpr) → Safe how → SoundFrom r base x → Grows r base 1 (s.hands_out p how x)
hands_out_holds base round r p a how x i e n m l h =
    let z = h.next in
    begins_holds r base (n + 1) m.next _ (omega arith) (draws_holds r base n 1 _ (ends_holds r base n (s.handing p how x m.next) m (λ b k. handing_are (renamed b r) p how x m.next (fit base round r p a b k) i (safe m.next (omega arith)) (e b k)) h))

abbrev pub KindFrom : ℕ → Option Var → Type 0
KindFrom base None = Unit {0}
KindFrom base (Some x) = DrawnFrom base x

pub yielded_holds : (base : ℕ) (round r : Round) (p : Place) → At base round r p → (x : CoreExpr) (kind : Option Var) (result : Var) → SoundFrom r base x → KindFrom base kind → DrawnFrom base result → Grows r base 1 (s.yielded p x kind result)
yielded_holds base round r p a x None result e i d n m l h =
    let f = fit base round r p a in
    says_holds r base (n + 1) _ _ (λ b k. moved_is (renamed b r) result p.registers.resumption.value (drawn_from base b result k d) (f b k).resumed_value)
    (says_holds r base (n + 1) _ _ (λ b k. handed_on_is (renamed b r) p p.registers.resumption (f b k) (f b k).resumed_kind (f b k).resumed_value) (hands_out_holds base round r p a 0 x refl e n m l h))
yielded_holds base round r p a x (Some kind) result e i d n m l h =
    let f = fit base round r p a in
    says_holds r base (n + 1) _ _ (λ b k. moved_is (renamed b r) result p.registers.resumption.value (drawn_from base b result k d) (f b k).resumed_value)
    (says_holds r base (n + 1) _ _ (λ b k. moved_is (renamed b r) kind p.registers.resumption.kind (drawn_from base b kind k i) (f b k).resumed_kind) (hands_out_holds base round r p a 1 x refl e n m l h))

pub jumped_holds : (base : ℕ) (round r : Round) (p : Place) → At base round r p → (goes_on : Bool) (label : Option Label) → lawful.jump_lawful goes_on label round ≡ true → (n : ℕ) (m : Machine) → Holds r base n m → Holds r base n (s.jumped p goes_on label m)
jumped_holds base round r p a goes_on None j n m h = absurd (false≢true j)
jumped_holds base round r p a true (Some label) j n m h = ends_holds r base n _ m (λ b k. jumps_are (renamed b r) p true label p.targets (fit base round r p a b k) a.targets (a.covers label (a.sub label j))) h
jumped_holds base round r p a false (Some label) j n m h = ends_holds r base n _ m (λ b k. jumps_are (renamed b r) p false label p.targets (fit base round r p a b k) a.targets (a.covers label j)) h

-- ## Loops

abbrev pub MaybeFrom : Round → ℕ → Option CoreExpr → Type 0
MaybeFrom r base None = Unit {0}
MaybeFrom r base (Some x) = SoundFrom r base x

tested_holds : (base : ℕ) (round r : Round) (p : Place) → At base round r p → (after : ℕ) (test : Option CoreExpr) → after ≤ 9007199254740991 → MaybeFrom r base test → (n : ℕ) (m : Machine) → Holds r base n m → Holds r base n (s.tested p after test m)
tested_holds base round r p a after None j e n m h = h
tested_holds base round r p a after (Some t) j e n m h = says_holds r base n _ m (λ b k. when_is (renamed b r) _ _ (negated_is (renamed b r) t (e b k)) (goes_are (renamed b r) p after (fit base round r p a b k) (safe after j))) h

updated_holds : (r : Round) (base : ℕ) (update : Option CoreExpr) → MaybeFrom r base update → (n : ℕ) (m : Machine) → Holds r base n m → Holds r base n (s.updated update m)
updated_holds r base None e n m h = h
updated_holds r base (Some u) e n m h = says_holds r base n _ m (λ b k. do_is (renamed b r) u (e b k)) h

pub headed_holds : (base : ℕ) (round r : Round) (p : Place) → At base round r p → (test : Option CoreExpr) (at : ℕ) → at + 2 ≤ 9007199254740991 → MaybeFrom r base test → (n : ℕ) (m : Machine) → Holds r base n m → Holds r base (n + 3) (s.headed p test at m)
headed_holds base round r p a test at j e n m h = tested_holds base round r p a (at + 2) test j e (n + 3) _ (goes_then_holds base round r p a at at (n + 3) _ (omega arith) (omega arith) (draws_holds r base n 3 m h))

pub turned_holds : (base : ℕ) (round r : Round) (p : Place) → At base round r p → (update : Option CoreExpr) (at : ℕ) → at + 2 ≤ 9007199254740991 → MaybeFrom r base update → (n : ℕ) (m : Machine) → Holds r base n m → Holds r base n (s.turned p update at m)
turned_holds base round r p a update at j e n m h = goes_then_holds base round r p a at (at + 2) n _ (omega arith) j (updated_holds r base update e n _ (goes_then_holds base round r p a (at + 1) (at + 1) n m (omega arith) (omega arith) h))

-- ## Regions

region_with_holds : (base : ℕ) (round r : Round) (p : Place) → At base round r p → (row : List CoreStat) (locals : List Var) → AreFrom r base row → VarsBelow base locals → Grows r base 2 (s.region_with p row locals)
region_with_holds base round r p a row locals e d n m l h =
    let z = h.regions in let k = safe m.regions (omega arith) in let here = renamed (size m.fresh) r in
    says_holds r base (n + 2) _ _ (λ b j. set_number_is (renamed b r) p.registers.region m.regions (fit base round r p a b j).region k) (record {
      states = h.states;
      stats = h.stats;
      rows = cases_one here m.rows _ h.rows (numbered_is here m.regions row k (e (size m.fresh) h.names));
      here = h.here;
      next = let y = h.next in omega arith;
      regions = omega arith;
      names = h.names;
      locals = vars_more (size m.fresh) m.locals locals h.locals (vars_rise base (size m.fresh) locals h.names d);
    })

pub guarded_holds : (base : ℕ) (round r : Round) (p : Place) → At base round r p → (parameter : Var) → DrawnFrom base parameter → Grows r base 2 (s.guarded p parameter)
guarded_holds base round r p a parameter d n m l h =
    let z = h.next in
    region_with_holds base round r p a (s.catching p parameter m.next) (parameter ∷ [])
    (λ b k. catching_are (renamed b r) p parameter m.next (fit base round r p a b k) (region_safe base round r p a) (drawn_from base b parameter k d) (safe m.next (omega arith)))
    (both (lt-ltb parameter.0 base d) refl) n m l h

pub pair_size : (fresh : Fresh) → size (s.after_pair fresh) ≡ size fresh + 2
pair_size fresh = let a = length-append fresh.hints (None ∷ []) in let b = length-append (fresh.hints ++ None ∷ []) (None ∷ []) in omega arith

pub second_name : (fresh : Fresh) → (s.pair fresh).value.0 ≡ size fresh + 1
second_name fresh = let a = length-append fresh.hints (None ∷ []) in omega arith

-- the names of a pair are drawn behind it
pub pair_drawn : (fresh : Fresh) → (DrawnFrom (size (s.after_pair fresh)) (s.pair fresh).kind) × (DrawnFrom (size (s.after_pair fresh)) (s.pair fresh).value)
pair_drawn fresh = let a = pair_size fresh in let b = second_name fresh in (omega arith, omega arith)

drawn_pair_holds : (r : Round) (base n : ℕ) (m : Machine) → Holds r base n m → Holds r (size (s.after_pair m.fresh)) n (record m { fresh = s.after_pair m.fresh })
drawn_pair_holds r base n m h =
    let old = size m.fresh in let new = size (s.after_pair m.fresh) in
    let e = pair_size m.fresh in let l : old ≤ new = omega arith in
    record {
      states = cases_raised new m.states (renamed old r) l h.states;
      stats = stats_raised new m.stats (renamed old r) l h.stats;
      rows = cases_raised new m.rows (renamed old r) l h.rows;
      here = h.here;
      next = h.next;
      regions = h.regions;
      names = omega arith;
      locals = vars_rise old new m.locals l h.locals;
    }

-- with the names of the pair, too
pub kept_region_holds : (base : ℕ) (round r : Round) (p : Place) → At base round r p → (n : ℕ) (m : Machine) → n + 2 ≤ 9007199254740992 → Holds r base n m → Holds r (size (s.after_pair m.fresh)) (n + 2) (s.kept_region p (s.pair m.fresh) m)
kept_region_holds base round r p a n m l h =
    let c = s.pair m.fresh in let new = size (s.after_pair m.fresh) in let e = pair_size m.fresh in let z = h.names in let y = h.next in
    let d = pair_drawn m.fresh in let at = at_from base new round r p (omega arith) a in
    region_with_holds new round r p at (s.keeping p c m.next) (c.kind ∷ c.value ∷ [])
    (λ b k. keeping_are (renamed b r) p c m.next (fit new round r p at b k) (region_safe new round r p at) (drawn_from new b c.kind k d.0) (drawn_from new b c.value k d.1) (safe m.next (omega arith)))
    (both (lt-ltb c.kind.0 new d.0) (both (lt-ltb c.value.0 new d.1) refl)) n (record m { fresh = s.after_pair m.fresh }) l (drawn_pair_holds r base n m h)
