-- A lawful core is lawful behind the flattening of yields, if its labels differ.
use Rattle.std.specs.List.{list_all, flat_map}
use Rattle.std.proofs.Common.{◌≡◌, ℕ, zero, suc, ◌+◌, ◌≤◌, ◌<◌, Bool, true, false, nat_eq, nat_lt, List, [], ◌∷◌, ◌++◌, map, length, length-append, None, refl, sym, ap, arith, subst, ◌∙◌}
use Rattle.std.proofs.lemmas.Bool.{false≢true, ltb-true, lt-ltb, ltb-false, eqb-true}
use Rattle.core_ast.specs.declared.gathering.Mentions.{Mentions}
use Rattle.core_ast.specs.declared.naming.Fresh.{Fresh}
use Rattle.core_ast.specs.declared.parts.Label.{Label}
use Rattle.core_ast.specs.declared.parts.ScopedName.{ScopedName}
use Rattle.core_ast.specs.declared.parts.Var.{Var}
use Rattle.core_ast.specs.declared.tree.CoreStat.{CoreStat}
use Rattle.core_ast.specs.declared.whole.CoreFunction.{CoreFunction}
use Rattle.core_ast.specs.declared.whole.CorePart.{CorePart}
use Rattle.core_ast.specs.Lawful as lawful
use Rattle.core_ast.specs.Lawful.{Round, all_differ, declared_in, has_label, has_number, held_in, is_generator, number_of, numbers, own_names, resumed, scoped_numbers}
use Rattle.core_ast.specs.Mentions.{function_mentions, none, part_mentions, stats_mentions}
use Rattle.pass_rules.specs.declared.yield_rules.spilling.Place.{Place}
use Rattle.pass_rules.specs.yield_rules.Yields as s
use Rattle.pass_rules.proofs.pass_laws.Distinct.{count, count_more, each_once, all_differ_by}
use Rattle.pass_rules.proofs.pass_laws.Faces.{yields_keep}
use Rattle.pass_rules.proofs.pass_laws.Within.{left, right, both}
use Rattle.lawful_passes.specs.Laws.{YieldsKeepLaw}
use Rattle.lawful_passes.specs.Told as t
use Rattle.lawful_passes.specs.Told.{Told, function_told, part_told, tells_apart}
use Rattle.lawful_passes.proofs.Bounds.{beyond_spares, declaring_spares, not_declared, stats_spared}
use Rattle.lawful_passes.proofs.Labels.{differ_left, differ_right, has_left, has_right}
use Rattle.lawful_passes.proofs.Mentioned.{function_labels, label_below, names_below, names_least, part_labels}
use Rattle.lawful_passes.proofs.Places.{At}
use Rattle.lawful_passes.proofs.Rebound.{Below, beyond, renamed, stats_rebound}
use Rattle.lawful_passes.proofs.Tallies.{declaring, function_declared, function_holding, holding, one_by, one_of, part_declared, part_holding}
use Rattle.lawful_passes.proofs.Turned.{stats_turned}
use Rattle.lawful_passes.proofs.Weights.{Such, function_marks, part_marks}
use Rattle.lawful_passes.proofs.WeightOut.{weights_kept}

-- ## Slots: names behind those that are there

abbrev size : Fresh → ℕ
size fresh = length fresh.hints

drawn_size : (k : ℕ) (fresh : Fresh) → size (s.drawn k fresh).fresh ≡ size fresh + k
drawn_size zero fresh = omega arith
drawn_size (suc k) fresh = let a = drawn_size k fresh in let b = length-append (s.drawn k fresh).fresh.hints (None ∷ []) in omega arith

abbrev pub VarsBelow : ℕ → List Var → Type 0
VarsBelow top xs = list_all (λ (x : Var). nat_lt x.0 top) xs ≡ true

vars_one : (top : ℕ) (xs : List Var) (x : Var) → VarsBelow top xs → nat_lt x.0 top ≡ true → VarsBelow top (xs ++ x ∷ [])
vars_one top [] x h k = both k refl
vars_one top (y ∷ xs) x h k = both (left _ _ h) (vars_one top xs x (right _ _ h) k)

drawn_below : (k : ℕ) (fresh : Fresh) (top : ℕ) → size fresh + k ≤ top → VarsBelow top (s.drawn k fresh).names
drawn_below zero fresh top l = refl
drawn_below (suc k) fresh top l = vars_one top (s.drawn k fresh).names _ (drawn_below k fresh top (omega arith)) (let a = drawn_size k fresh in lt-ltb (size (s.drawn k fresh).fresh) top (omega arith))

-- a number stands at most once, and only among those from the one on to the other
record Between (i lo hi c : ℕ) : Type 0 where
  once : c ≤ 1
  before : i < lo → c ≡ 0
  behind : hi ≤ i → c ≡ 0

between_none : (i lo : ℕ) → Between i lo lo 0
between_none i lo = record { once = omega arith; before = λ l. refl; behind = λ l. refl }

between_one : (i n : ℕ) → Between i n (n + 1) (one_of i n)
between_one i n = by_eq (nat_eq i n) refl
  where
    by_eq : (b : Bool) → nat_eq i n ≡ b → Between i n (n + 1) (one_by b)
    by_eq true e = let a = eqb-true i n e in record { once = omega arith; before = λ l. (let z : ⊥ = omega arith in absurd z); behind = λ l. (let z : ⊥ = omega arith in absurd z) }
    by_eq false e = record { once = omega arith; before = λ l. refl; behind = λ l. refl }

between_both : (i lo mid hi c d : ℕ) → lo ≤ mid → mid ≤ hi → Between i lo mid c → Between i mid hi d → Between i lo hi (c + d)
between_both i lo mid hi c d l m h k = by_side (nat_lt i mid) refl
  where
    by_side : (b : Bool) → nat_lt i mid ≡ b → Between i lo hi (c + d)
    by_side true e = let a = k.before (ltb-true i mid e) in let o = h.once in record { once = omega arith; before = λ n. (let z = h.before n in omega arith); behind = λ n. (let y = ltb-true i mid e in let z : ⊥ = omega arith in absurd z) }
    by_side false e = let a = h.behind (ltb-false i mid e) in let o = k.once in record { once = omega arith; before = λ n. (let y = ltb-false i mid e in let z : ⊥ = omega arith in absurd z); behind = λ n. (let z = k.behind n in omega arith) }

pub numbers_more : (xs ys : List Var) → numbers (xs ++ ys) ≡ numbers xs ++ numbers ys
numbers_more [] ys = refl
numbers_more (x ∷ xs) ys = ap (λ ns. x.0 ∷ ns) (numbers_more xs ys)

numbers_count : (i : ℕ) (xs ys : List Var) → count i (numbers (xs ++ ys)) ≡ count i (numbers xs) + count i (numbers ys)
numbers_count i xs ys = ap (count i) (numbers_more xs ys) ∙ count_more i (numbers xs) (numbers ys)

drawn_between : (i k : ℕ) (fresh : Fresh) → Between i (size fresh) (size fresh + k) (count i (numbers (s.drawn k fresh).names))
drawn_between i zero fresh = subst (λ hi. Between i (size fresh) hi 0) (let a : size fresh ≡ size fresh + 0 = omega arith in a) (between_none i (size fresh))
drawn_between i (suc k) fresh =
    let d = s.drawn k fresh in let n = size d.fresh in let e = drawn_size k fresh in
    let a = numbers_count i d.names (record { 0 = n } ∷ []) in
    let one : count i (n ∷ []) ≡ one_of i n = (let y : count i (n ∷ []) ≡ one_of i n + 0 = refl in omega arith) in
    subst (λ c. Between i (size fresh) (size fresh + suc k) c) (sym (a ∙ ap (λ c. count i (numbers d.names) + c) one))
    (between_both i (size fresh) (size fresh + k) (size fresh + suc k) (count i (numbers d.names)) (one_of i n) (omega arith) (omega arith) (drawn_between i k fresh)
    (subst (λ hi. Between i (size fresh + k) hi (one_of i n)) (let y : (size fresh + k) + 1 ≡ size fresh + suc k = omega arith in y) (subst (λ lo. Between i lo (lo + 1) (one_of i n)) e (between_one i n))))

-- ## Statements

-- statements that are turned at a place behind all names and labels, in a function or a part
record Turned (ss : List CoreStat) (round : Round) (p : Place) (top : ℕ) (a : Mentions) : Type 0 where
  below : Below top a
  lawful : lawful.stats_lawful (s.stats_spilled ss p) (renamed top round) ≡ true

record Fresh_round (round : Round) : Type 0 where
  labels : round.labels ≡ []
  loops : round.loops ≡ []
  hands : round.yields ≡ true → round.returns ≡ true

turned : (ss : List CoreStat) (round : Round) (p : Place) (top : ℕ) (a : Mentions) → Fresh_round round → round.names ≤ p.slot → round.names ≤ top → all_differ (t.stats_told ss).labels ≡ true → (t.stats_told ss).few ≡ true → ((i : ℕ) → has_number i (t.stats_told ss).labels ≡ true → i < p.label)
    → lawful.stats_lawful ss round ≡ true → Below top (stats_mentions (s.stats_spilled ss p) a) → Turned ss round p top a
turned ss round p top a f l n differ few under h b =
    let big = round.names + (p.slot + (t.stats_told ss).slots) in let r = renamed big round in
    let no_label = λ (k : Label). ap (has_label k) f.labels in
    let at : At round r (t.stats_told ss) p = record {
      hosts = refl;
      functions = refl;
      returns = λ e. e;
      yields = λ e. e;
      hands = f.hands;
      names = omega arith;
      slots = omega arith;
      labels = λ k e. e;
      loops = λ k e. e;
      below = λ k e. absurd (false≢true (sym (no_label k) ∙ e));
      apart = λ k e. no_label k;
      under = under;
      differ = differ;
      few = few;
    } in
    let are = stats_turned ss round r p at h [] refl in
    let kept = weights_kept (beyond top) p ss [] round h in let none_over = stats_spared top (beyond top) (beyond_spares top) ss round n h in
    let moved = stats_rebound top (s.stats_spilled ss p) a b (omega arith) in
    record { below = moved.below; lawful = moved.moves r are }

-- ## Functions

pub all_raised : (names top : ℕ) (is : List ℕ) → names ≤ top → list_all (λ i. nat_lt i names) is ≡ true → list_all (λ i. nat_lt i top) is ≡ true
all_raised names top [] l h = refl
all_raised names top (i ∷ is) l h = both (let a = ltb-true i names (left _ _ h) in lt-ltb i top (omega arith)) (all_raised names top is l (right _ _ h))

pub all_left : (top : ℕ) (is js : List ℕ) → list_all (λ i. nat_lt i top) (is ++ js) ≡ true → list_all (λ i. nat_lt i top) is ≡ true
all_left top [] js h = refl
all_left top (i ∷ is) js h = both (left _ _ h) (all_left top is js (right _ _ h))

pub all_right : (top : ℕ) (is js : List ℕ) → list_all (λ i. nat_lt i top) (is ++ js) ≡ true → list_all (λ i. nat_lt i top) js ≡ true
all_right top [] js h = h
all_right top (i ∷ is) js h = all_right top is js (right _ _ h)

pub all_both : (top : ℕ) (is js : List ℕ) → list_all (λ i. nat_lt i top) is ≡ true → list_all (λ i. nat_lt i top) js ≡ true → list_all (λ i. nat_lt i top) (is ++ js) ≡ true
all_both top [] js h k = k
all_both top (i ∷ is) js h k = both (left _ _ h) (all_both top is js (right _ _ h) k)

pub vars_numbers : (top : ℕ) (xs : List Var) → VarsBelow top xs → list_all (λ i. nat_lt i top) (numbers xs) ≡ true
vars_numbers top [] h = refl
vars_numbers top (x ∷ xs) h = both (left _ _ h) (vars_numbers top xs (right _ _ h))

own_below : (top : ℕ) (f : CoreFunction) (names : List Var) → VarsBelow top names → list_all (λ i. nat_lt i top) (own_names f ++ numbers f.cells) ≡ true → list_all (λ i. nat_lt i top) (own_names (s.with_slots f names) ++ numbers f.cells) ≡ true
own_below top f names d h =
    let front = (number_of f.own ++ numbers f.parameters) ++ number_of f.arguments in let ls = numbers f.locals in let rs = resumed f.resumption in
    let own = all_left top (own_names f) (numbers f.cells) h in let locals = all_left top (front ++ ls) rs own in
    all_both top (own_names (s.with_slots f names)) (numbers f.cells)
    (all_both top (front ++ numbers (f.locals ++ names)) rs
    (all_both top front (numbers (f.locals ++ names)) (all_left top front ls locals) (subst (λ ns. list_all (λ i. nat_lt i top) ns ≡ true) (sym (numbers_more f.locals names)) (all_both top ls (numbers names) (all_right top front ls locals) (vars_numbers top names d))))
    (all_right top (front ++ ls) rs own))
    (all_right top (own_names f) (numbers f.cells) h)

slots_enough : (m : Mentions) (fresh : Fresh) (top : ℕ) → size fresh + s.slots m fresh ≤ top → s.name_behind m.uses (size fresh) ≤ top
slots_enough m fresh top h = let a = names_least m.uses (size fresh) in omega arith

function_kept : (names hosts number top : ℕ) (f : CoreFunction) (fresh : Fresh) → lawful.function_lawful names hosts number f ≡ true → tells_apart (function_told f) ≡ true → names ≤ size fresh → size (s.one_function f fresh).fresh ≤ top → lawful.function_lawful top hosts number (s.one_function f fresh).made ≡ true
function_kept names hosts number top f fresh h apart l m =
    let p = s.begins (function_mentions f) fresh in let g = s.function_at p f in let k = s.slots (function_mentions g) fresh in
    let size_is = drawn_size k fresh in
    let below = names_below (function_mentions g).uses (size fresh) top (slots_enough (function_mentions g) fresh top (omega arith)) in
    let told = function_told f in let differ = left _ _ apart in let few = right _ _ apart in
    let u = t.stats_told f.setup in let v = t.stats_told f.body in let w = t.stats_told f.step in
    let under = λ (i : ℕ) (e : has_number i told.labels ≡ true). label_below (function_mentions f).labels 0 i (ap (has_number i) (function_labels f) ∙ e) in
    let plain = lawful.round_function names hosts number false in let inner = lawful.round_function names hosts number (is_generator f.kind) in
    let h5 = h in let h4 = left _ _ h in let h3 = left _ _ h4 in let h2 = left _ _ h3 in let h1 = left _ _ h2 in
    let step = turned f.step plain p top (stats_mentions g.body (stats_mentions g.setup none)) (record { labels = refl; loops = refl; hands = λ e. refl }) (omega arith) (omega arith) (differ_right (u.labels ++ v.labels) w.labels differ) (right _ _ few)
    (λ i e. under i (has_right i (u.labels ++ v.labels) w.labels e)) (right _ _ h) below in
    let body = turned f.body inner p top (stats_mentions g.setup none) (record { labels = refl; loops = refl; hands = λ e. refl }) (omega arith) (omega arith) (differ_right u.labels v.labels (differ_left (u.labels ++ v.labels) w.labels differ)) (right _ _ (left _ _ few))
    (λ i e. under i (has_left i (u.labels ++ v.labels) w.labels (has_right i u.labels v.labels e))) (right _ _ h4) step.below in
    let setup = turned f.setup plain p top none (record { labels = refl; loops = refl; hands = λ e. refl }) (omega arith) (omega arith) (differ_left u.labels v.labels (differ_left (u.labels ++ v.labels) w.labels differ)) (left _ _ (left _ _ few))
    (λ i e. under i (has_left i (u.labels ++ v.labels) w.labels (has_left i u.labels v.labels e))) (right _ _ h3) body.below in
    both (both (both (both (both (own_below top f (s.drawn k fresh).names (drawn_below k fresh top (omega arith)) (all_raised names top _ (omega arith) (left _ _ h1))) (right _ _ h1)) (right _ _ h2)) setup.lawful) body.lawful) step.lawful

part_kept : (names hosts functions top : ℕ) (x : CorePart) (fresh : Fresh) → lawful.part_lawful names hosts functions x ≡ true → tells_apart (part_told x) ≡ true → names ≤ size fresh → size (s.one_part x fresh).fresh ≤ top → lawful.part_lawful top hosts functions (s.one_part x fresh).made ≡ true
part_kept names hosts functions top x fresh h apart l m =
    let p = s.begins (part_mentions x) fresh in let g = s.part_at p x in let k = s.slots (part_mentions g) fresh in
    let size_is = drawn_size k fresh in
    let below = names_below (part_mentions g).uses (size fresh) top (slots_enough (part_mentions g) fresh top (omega arith)) in
    let told = part_told x in let differ = left _ _ apart in let few = right _ _ apart in
    let u = t.stats_told x.instantiate in let v = t.stats_told x.body in
    let under = λ (i : ℕ) (e : has_number i told.labels ≡ true). label_below (part_mentions x).labels 0 i (ap (has_number i) (part_labels x) ∙ e) in
    let plain = lawful.round_part names hosts functions in
    let body = turned x.body plain p top (stats_mentions g.instantiate none) (record { labels = refl; loops = refl; hands = λ e. absurd (false≢true e) }) (omega arith) (omega arith) (differ_right u.labels v.labels differ) (right _ _ few) (λ i e. under i (has_right i u.labels v.labels e)) (right _ _ h) below in
    let begun = turned x.instantiate plain p top none (record { labels = refl; loops = refl; hands = λ e. absurd (false≢true e) }) (omega arith) (omega arith) (differ_left u.labels v.labels differ) (left _ _ few) (λ i e. under i (has_left i u.labels v.labels e)) (right _ _ (left _ _ h)) body.below in
    both (both (names_more (s.drawn k fresh).names x.names (drawn_below k fresh top (omega arith)) (left _ _ (left _ _ h))) begun.lawful) body.lawful
  where
    slots_drawn : (ys : List Var) → VarsBelow top ys → lawful.names_drawn (map s.slot_name ys) (lawful.round_part top hosts functions) ≡ true
    slots_drawn [] d = refl
    slots_drawn (y ∷ ys) d = both (left _ _ d) (slots_drawn ys (right _ _ d))

    names_more : (ys : List Var) (xs : List ScopedName) → VarsBelow top ys → lawful.names_drawn xs (lawful.round_part names hosts functions) ≡ true → lawful.names_drawn (xs ++ map s.slot_name ys) (lawful.round_part top hosts functions) ≡ true
    names_more ys [] d e = slots_drawn ys d
    names_more ys (y ∷ xs) d e = both (let a = ltb-true y.var.0 names (left _ _ e) in let b = drawn_size (s.slots (part_mentions (s.part_at (s.begins (part_mentions x) fresh) x)) fresh) fresh in lt-ltb y.var.0 top (omega arith)) (names_more ys xs d (right _ _ e))

-- ## All functions and parts

function_grows : (f : CoreFunction) (fresh : Fresh) → size fresh ≤ size (s.one_function f fresh).fresh
function_grows f fresh = let a = drawn_size (s.slots (function_mentions (s.function_at (s.begins (function_mentions f) fresh) f)) fresh) fresh in omega arith

part_grows : (x : CorePart) (fresh : Fresh) → size fresh ≤ size (s.one_part x fresh).fresh
part_grows x fresh = let a = drawn_size (s.slots (part_mentions (s.part_at (s.begins (part_mentions x) fresh) x)) fresh) fresh in omega arith

functions_grow : (fs made : List CoreFunction) (fresh : Fresh) → size fresh ≤ size (s.all_functions fs made fresh).fresh
functions_grow [] made fresh = omega arith
functions_grow (f ∷ fs) made fresh = let m = s.one_function f fresh in let a = function_grows f fresh in let b = functions_grow fs (made ++ m.made ∷ []) m.fresh in omega arith

parts_grow : (xs made : List CorePart) (fresh : Fresh) → size fresh ≤ size (s.all_parts xs made fresh).fresh
parts_grow [] made fresh = omega arith
parts_grow (x ∷ xs) made fresh = let m = s.one_part x fresh in let a = part_grows x fresh in let b = parts_grow xs (made ++ m.made ∷ []) m.fresh in omega arith

pub functions_one : (top hosts number : ℕ) (fs : List CoreFunction) (f : CoreFunction) → lawful.functions_lawful top hosts number fs ≡ true → lawful.function_lawful top hosts (number + length fs) f ≡ true → lawful.functions_lawful top hosts number (fs ++ f ∷ []) ≡ true
functions_one top hosts number [] f h k = both (subst (λ n. lawful.function_lawful top hosts n f ≡ true) (let a : number + 0 ≡ number = omega arith in a) k) refl
functions_one top hosts number (g ∷ fs) f h k = both (left _ _ h) (functions_one top hosts (number + 1) fs f (right _ _ h) (subst (λ n. lawful.function_lawful top hosts n f ≡ true) (let a : number + suc (length fs) ≡ (number + 1) + length fs = omega arith in a) k))

functions_kept : (names hosts number top : ℕ) (fs made : List CoreFunction) (fresh : Fresh) → lawful.functions_lawful names hosts number fs ≡ true → list_all (λ f. tells_apart (function_told f)) fs ≡ true → names ≤ size fresh → size (s.all_functions fs made fresh).fresh ≤ top
    → length made ≡ number → lawful.functions_lawful top hosts 0 made ≡ true → lawful.functions_lawful top hosts 0 (s.all_functions fs made fresh).made ≡ true
functions_kept names hosts number top [] made fresh h apart l m e k = k
functions_kept names hosts number top (f ∷ fs) made fresh h apart l m e k =
    let g = s.one_function f fresh in let grows = function_grows f fresh in let rest = functions_grow fs (made ++ g.made ∷ []) g.fresh in
    let one = function_kept names hosts number top f fresh (left _ _ h) (left _ _ apart) l (omega arith) in
    functions_kept names hosts (number + 1) top fs (made ++ g.made ∷ []) g.fresh (right _ _ h) (right _ _ apart) (omega arith) m (let a = length-append made (g.made ∷ []) in omega arith)
    (functions_one top hosts 0 made g.made k (subst (λ n. lawful.function_lawful top hosts n g.made ≡ true) (let a : number ≡ 0 + length made = omega arith in a) one))

parts_one : (top hosts functions : ℕ) (xs : List CorePart) (x : CorePart) → list_all (lawful.part_lawful top hosts functions) xs ≡ true → lawful.part_lawful top hosts functions x ≡ true → list_all (lawful.part_lawful top hosts functions) (xs ++ x ∷ []) ≡ true
parts_one top hosts functions [] x h k = both k refl
parts_one top hosts functions (y ∷ xs) x h k = both (left _ _ h) (parts_one top hosts functions xs x (right _ _ h) k)

pub parts_kept : (names hosts functions top : ℕ) (xs made : List CorePart) (fresh : Fresh) → list_all (lawful.part_lawful names hosts functions) xs ≡ true → list_all (λ p. tells_apart (part_told p)) xs ≡ true → names ≤ size fresh → size (s.all_parts xs made fresh).fresh ≤ top
    → list_all (lawful.part_lawful top hosts functions) made ≡ true → list_all (lawful.part_lawful top hosts functions) (s.all_parts xs made fresh).made ≡ true
parts_kept names hosts functions top [] made fresh h apart l m k = k
parts_kept names hosts functions top (x ∷ xs) made fresh h apart l m k =
    let g = s.one_part x fresh in let grows = part_grows x fresh in let rest = parts_grow xs (made ++ g.made ∷ []) g.fresh in
    parts_kept names hosts functions top xs (made ++ g.made ∷ []) g.fresh (right _ _ h) (right _ _ apart) (omega arith) m
    (parts_one top hosts functions made g.made k (part_kept names hosts functions top x fresh (left _ _ h) (left _ _ apart) l (omega arith)))

-- ## How often a name is declared, and a function held

function_weights : (such : Such) (names hosts number : ℕ) (f : CoreFunction) (fresh : Fresh) → lawful.function_lawful names hosts number f ≡ true → function_marks such (s.one_function f fresh).made ≡ function_marks such f
function_weights such names hosts number f fresh h =
    let p = s.begins (function_mentions f) fresh in
    let a = weights_kept such p f.setup [] (lawful.round_function names hosts number false) (right _ _ (left _ _ (left _ _ h))) in
    let b = weights_kept such p f.body [] (lawful.round_function names hosts number (is_generator f.kind)) (right _ _ (left _ _ h)) in
    let c = weights_kept such p f.step [] (lawful.round_function names hosts number false) (right _ _ h) in omega arith

part_weights : (such : Such) (names hosts functions : ℕ) (x : CorePart) (fresh : Fresh) → lawful.part_lawful names hosts functions x ≡ true → part_marks such (s.one_part x fresh).made ≡ part_marks such x
part_weights such names hosts functions x fresh h =
    let p = s.begins (part_mentions x) fresh in
    let a = weights_kept such p x.instantiate [] (lawful.round_part names hosts functions) (right _ _ (left _ _ h)) in
    let b = weights_kept such p x.body [] (lawful.round_part names hosts functions) (right _ _ h) in omega arith

abbrev pub function_declares : CoreFunction → List ℕ
function_declares f = own_names f ++ declared_in (function_mentions f)

abbrev pub part_declares : CorePart → List ℕ
part_declares x = scoped_numbers x.names ++ declared_in (part_mentions x)

abbrev pub function_holds : CoreFunction → List ℕ
function_holds f = held_in (function_mentions f)

abbrev pub part_holds : CorePart → List ℕ
part_holds x = held_in (part_mentions x)

own_more : (i : ℕ) (f : CoreFunction) (names : List Var) → count i (own_names (s.with_slots f names)) ≡ count i (own_names f) + count i (numbers names)
own_more i f names =
    let front = (number_of f.own ++ numbers f.parameters) ++ number_of f.arguments in
    let a = count_more i (front ++ numbers (f.locals ++ names)) (resumed f.resumption) in let b = count_more i front (numbers (f.locals ++ names)) in let c = numbers_count i f.locals names in
    let d = count_more i (front ++ numbers f.locals) (resumed f.resumption) in let e = count_more i front (numbers f.locals) in omega arith

abbrev function_slots : CoreFunction → Fresh → List Var
function_slots f fresh = (s.drawn (s.slots (function_mentions (s.function_at (s.begins (function_mentions f) fresh) f)) fresh) fresh).names

abbrev part_slots : CorePart → Fresh → List Var
part_slots x fresh = (s.drawn (s.slots (part_mentions (s.part_at (s.begins (part_mentions x) fresh) x)) fresh) fresh).names

function_counted : (i names hosts number : ℕ) (f : CoreFunction) (fresh : Fresh) → lawful.function_lawful names hosts number f ≡ true → count i (function_declares (s.one_function f fresh).made) ≡ count i (function_declares f) + count i (numbers (function_slots f fresh))
function_counted i names hosts number f fresh h =
    let g = (s.one_function f fresh).made in
    let a = count_more i (own_names g) (declared_in (function_mentions g)) in let b = count_more i (own_names f) (declared_in (function_mentions f)) in
    let c = own_more i (s.function_at (s.begins (function_mentions f) fresh) f) (function_slots f fresh) in
    let d = function_declared i g in let e = function_declared i f in
    let w = function_weights (declaring i) names hosts number f fresh h in omega arith

scoped_more : (xs ys : List ScopedName) → scoped_numbers (xs ++ ys) ≡ scoped_numbers xs ++ scoped_numbers ys
scoped_more [] ys = refl
scoped_more (x ∷ xs) ys = ap (λ ns. x.var.0 ∷ ns) (scoped_more xs ys)

slots_numbers : (ys : List Var) → scoped_numbers (map s.slot_name ys) ≡ numbers ys
slots_numbers [] = refl
slots_numbers (y ∷ ys) = ap (λ ns. y.0 ∷ ns) (slots_numbers ys)

part_counted : (i names hosts functions : ℕ) (x : CorePart) (fresh : Fresh) → lawful.part_lawful names hosts functions x ≡ true → count i (part_declares (s.one_part x fresh).made) ≡ count i (part_declares x) + count i (numbers (part_slots x fresh))
part_counted i names hosts functions x fresh h =
    let g = (s.one_part x fresh).made in
    let a = count_more i (scoped_numbers g.names) (declared_in (part_mentions g)) in let b = count_more i (scoped_numbers x.names) (declared_in (part_mentions x)) in
    let c = ap (count i) (scoped_more x.names (map s.slot_name (part_slots x fresh))) in let o = count_more i (scoped_numbers x.names) (scoped_numbers (map s.slot_name (part_slots x fresh))) in let q = ap (count i) (slots_numbers (part_slots x fresh)) in
    let d = part_declared i g in let e = part_declared i x in
    let w = part_weights (declaring i) names hosts functions x fresh h in omega arith

pub flat_one : {A : Type 0} (i : ℕ) (f : A → List ℕ) (xs : List A) (y : A) → count i (flat_map f (xs ++ y ∷ [])) ≡ count i (flat_map f xs) + count i (f y)
flat_one i f [] y = let a = count_more i (f y) [] in omega arith
flat_one i f (x ∷ xs) y = let a = count_more i (f x) (flat_map f (xs ++ y ∷ [])) in let b = count_more i (f x) (flat_map f xs) in let c = flat_one i f xs y in omega arith

-- with slots, each of which is new
record Counted (i lo hi first last : ℕ) : Type 0 where
  slots : ℕ
  sum : last ≡ first + slots
  between : Between i lo hi slots

slots_between : (i : ℕ) (fresh : Fresh) (k : ℕ) → Between i (size fresh) (size (s.drawn k fresh).fresh) (count i (numbers (s.drawn k fresh).names))
slots_between i fresh k = subst (λ hi. Between i (size fresh) hi (count i (numbers (s.drawn k fresh).names))) (sym (drawn_size k fresh)) (drawn_between i k fresh)

functions_counted : (i names hosts number : ℕ) (fs made : List CoreFunction) (fresh : Fresh) → lawful.functions_lawful names hosts number fs ≡ true
    → Counted i (size fresh) (size (s.all_functions fs made fresh).fresh) (count i (flat_map function_declares made) + count i (flat_map function_declares fs)) (count i (flat_map function_declares (s.all_functions fs made fresh).made))
functions_counted i names hosts number [] made fresh h = record { slots = 0; sum = omega arith; between = between_none i (size fresh) }
functions_counted i names hosts number (f ∷ fs) made fresh h =
    let g = s.one_function f fresh in let c = count i (numbers (function_slots f fresh)) in
    let rest = functions_counted i names hosts (number + 1) fs (made ++ g.made ∷ []) g.fresh (right (lawful.function_lawful names hosts number f) (lawful.functions_lawful names hosts (number + 1) fs) h) in
    let a = flat_one i function_declares made g.made in let b = function_counted i names hosts number f fresh (left (lawful.function_lawful names hosts number f) (lawful.functions_lawful names hosts (number + 1) fs) h) in let d = count_more i (function_declares f) (flat_map function_declares fs) in let e = rest.sum in
    record {
      slots = c + rest.slots;
      sum = omega arith;
      between = between_both i (size fresh) (size g.fresh) (size (s.all_functions fs (made ++ g.made ∷ []) g.fresh).fresh) c rest.slots (function_grows f fresh) (functions_grow fs (made ++ g.made ∷ []) g.fresh)
          (slots_between i fresh (s.slots (function_mentions (s.function_at (s.begins (function_mentions f) fresh) f)) fresh)) rest.between;
    }

parts_counted : (i names hosts functions : ℕ) (xs made : List CorePart) (fresh : Fresh) → list_all (lawful.part_lawful names hosts functions) xs ≡ true
    → Counted i (size fresh) (size (s.all_parts xs made fresh).fresh) (count i (flat_map part_declares made) + count i (flat_map part_declares xs)) (count i (flat_map part_declares (s.all_parts xs made fresh).made))
parts_counted i names hosts functions [] made fresh h = record { slots = 0; sum = omega arith; between = between_none i (size fresh) }
parts_counted i names hosts functions (x ∷ xs) made fresh h =
    let g = s.one_part x fresh in let c = count i (numbers (part_slots x fresh)) in
    let rest = parts_counted i names hosts functions xs (made ++ g.made ∷ []) g.fresh (right (lawful.part_lawful names hosts functions x) (list_all (lawful.part_lawful names hosts functions) xs) h) in
    let a = flat_one i part_declares made g.made in let b = part_counted i names hosts functions x fresh (left (lawful.part_lawful names hosts functions x) (list_all (lawful.part_lawful names hosts functions) xs) h) in let d = count_more i (part_declares x) (flat_map part_declares xs) in let e = rest.sum in
    record {
      slots = c + rest.slots;
      sum = omega arith;
      between = between_both i (size fresh) (size g.fresh) (size (s.all_parts xs (made ++ g.made ∷ []) g.fresh).fresh) c rest.slots (part_grows x fresh) (parts_grow xs (made ++ g.made ∷ []) g.fresh)
          (slots_between i fresh (s.slots (part_mentions (s.part_at (s.begins (part_mentions x) fresh) x)) fresh)) rest.between;
    }

-- no name behind those that are drawn is declared before
count_none : (i n : ℕ) (is : List ℕ) → n ≤ i → list_all (λ k. nat_lt k n) is ≡ true → count i is ≡ 0
count_none i n [] l h = refl
count_none i n (k ∷ is) l h = let a = not_declared i n k l (ltb-true k n (left _ _ h)) in let b = count_none i n is l (right _ _ h) in omega arith

function_none : (i names hosts number : ℕ) (f : CoreFunction) → names ≤ i → lawful.function_lawful names hosts number f ≡ true → count i (function_declares f) ≡ 0
function_none i names hosts number f l h =
    let k = declaring_spares i names l in let n : names ≤ names = omega arith in
    let a = count_more i (own_names f) (declared_in (function_mentions f)) in let b = count_none i names (own_names f) l (all_left names (own_names f) (numbers f.cells) (left _ _ (left _ _ (left _ _ (left _ _ (left _ _ h)))))) in
    let c = function_declared i f in
    let d = stats_spared names (declaring i) k f.setup (lawful.round_function names hosts number false) n (right _ _ (left _ _ (left _ _ h))) in
    let e = stats_spared names (declaring i) k f.body (lawful.round_function names hosts number (is_generator f.kind)) n (right _ _ (left _ _ h)) in
    let g = stats_spared names (declaring i) k f.step (lawful.round_function names hosts number false) n (right _ _ h) in omega arith

pub functions_none : (i names hosts number : ℕ) (fs : List CoreFunction) → names ≤ i → lawful.functions_lawful names hosts number fs ≡ true → count i (flat_map function_declares fs) ≡ 0
functions_none i names hosts number [] l h = refl
functions_none i names hosts number (f ∷ fs) l h = let a = count_more i (function_declares f) (flat_map function_declares fs) in let b = function_none i names hosts number f l (left _ _ h) in let c = functions_none i names hosts (number + 1) fs l (right _ _ h) in omega arith

part_none : (i names hosts functions : ℕ) (x : CorePart) → names ≤ i → lawful.part_lawful names hosts functions x ≡ true → count i (part_declares x) ≡ 0
part_none i names hosts functions x l h =
    let k = declaring_spares i names l in let n : names ≤ names = omega arith in let r = lawful.round_part names hosts functions in
    let a = count_more i (scoped_numbers x.names) (declared_in (part_mentions x)) in let b : count i (scoped_numbers x.names) ≡ 0 = k.scopes x.names r n (left _ _ (left _ _ h)) in
    let c = part_declared i x in
    let d = stats_spared names (declaring i) k x.instantiate r n (right _ _ (left _ _ h)) in let e = stats_spared names (declaring i) k x.body r n (right _ _ h) in omega arith

pub parts_none : (i names hosts functions : ℕ) (xs : List CorePart) → names ≤ i → list_all (lawful.part_lawful names hosts functions) xs ≡ true → count i (flat_map part_declares xs) ≡ 0
parts_none i names hosts functions [] l h = refl
parts_none i names hosts functions (x ∷ xs) l h = let a = count_more i (part_declares x) (flat_map part_declares xs) in let b = part_none i names hosts functions x l (left _ _ h) in let c = parts_none i names hosts functions xs l (right _ _ h) in omega arith

function_held : (i names hosts number : ℕ) (f : CoreFunction) (fresh : Fresh) → lawful.function_lawful names hosts number f ≡ true → count i (function_holds (s.one_function f fresh).made) ≡ count i (function_holds f)
function_held i names hosts number f fresh h =
    let d = function_holding i (s.one_function f fresh).made in let e = function_holding i f in let w = function_weights (holding i) names hosts number f fresh h in omega arith

part_held : (i names hosts functions : ℕ) (x : CorePart) (fresh : Fresh) → lawful.part_lawful names hosts functions x ≡ true → count i (part_holds (s.one_part x fresh).made) ≡ count i (part_holds x)
part_held i names hosts functions x fresh h =
    let d = part_holding i (s.one_part x fresh).made in let e = part_holding i x in let w = part_weights (holding i) names hosts functions x fresh h in omega arith

functions_held : (i names hosts number : ℕ) (fs made : List CoreFunction) (fresh : Fresh) → lawful.functions_lawful names hosts number fs ≡ true → count i (flat_map function_holds (s.all_functions fs made fresh).made) ≡ count i (flat_map function_holds made) + count i (flat_map function_holds fs)
functions_held i names hosts number [] made fresh h = omega arith
functions_held i names hosts number (f ∷ fs) made fresh h =
    let g = s.one_function f fresh in
    let a = functions_held i names hosts (number + 1) fs (made ++ g.made ∷ []) g.fresh (right _ _ h) in let b = flat_one i function_holds made g.made in
    let c = function_held i names hosts number f fresh (left _ _ h) in let d = count_more i (function_holds f) (flat_map function_holds fs) in omega arith

parts_held : (i names hosts functions : ℕ) (xs made : List CorePart) (fresh : Fresh) → list_all (lawful.part_lawful names hosts functions) xs ≡ true → count i (flat_map part_holds (s.all_parts xs made fresh).made) ≡ count i (flat_map part_holds made) + count i (flat_map part_holds xs)
parts_held i names hosts functions [] made fresh h = omega arith
parts_held i names hosts functions (x ∷ xs) made fresh h =
    let g = s.one_part x fresh in
    let a = parts_held i names hosts functions xs (made ++ g.made ∷ []) g.fresh (right _ _ h) in let b = flat_one i part_holds made g.made in
    let c = part_held i names hosts functions x fresh (left _ _ h) in let d = count_more i (part_holds x) (flat_map part_holds xs) in omega arith

-- ## The core

functions_length : (fs made : List CoreFunction) (fresh : Fresh) → length (s.all_functions fs made fresh).made ≡ length made + length fs
functions_length [] made fresh = omega arith
functions_length (f ∷ fs) made fresh = let g = s.one_function f fresh in let a = functions_length fs (made ++ g.made ∷ []) g.fresh in let b = length-append made (g.made ∷ []) in omega arith

-- at most once: what is there is declared once before the first slot, and a slot behind
at_most_once : (i lo hi c d : ℕ) → c ≤ 1 → (lo ≤ i → c ≡ 0) → Between i lo hi d → c + d ≤ 1
at_most_once i lo hi c d once none b = by_side (nat_lt i lo) refl
  where
    by_side : (e : Bool) → nat_lt i lo ≡ e → c + d ≤ 1
    by_side true e = let a = b.before (ltb-true i lo e) in omega arith
    by_side false e = let a = none (ltb-false i lo e) in let o = b.once in omega arith

pub yields_keep_law : YieldsKeepLaw
yields_keep_law hosts core h apart =
    let names = size core.fresh in let functions = length core.functions in
    let fs = s.all_functions core.functions [] core.fresh in let ps = s.all_parts core.parts [] fs.fresh in let top = size ps.fresh in
    let grows = functions_grow core.functions [] core.fresh in let more = parts_grow core.parts [] fs.fresh in
    let many : functions ≡ length fs.made = (let a = functions_length core.functions [] core.fresh in omega arith) in
    let after = s.with_yields_flat core in (
      functions_kept names hosts 0 top core.functions [] core.fresh h.0 apart.0 (omega arith) more refl refl,
      subst (λ n. list_all (lawful.part_lawful top hosts n) ps.made ≡ true) many (parts_kept names hosts functions top core.parts [] fs.fresh h.1 apart.1 grows (omega arith) refl),
      subst (λ n. list_all (λ i. nat_lt i n) core.order ≡ true) (sym (yields_keep core).parts) h.2,
      all_differ_by (lawful.declarations after) (λ i.
          let once = each_once (lawful.declarations core) h.3 i in
          let a = count_more i (flat_map function_declares core.functions) (flat_map part_declares core.parts) in
          let b = count_more i (flat_map function_declares fs.made) (flat_map part_declares ps.made) in
          let c = functions_counted i names hosts 0 core.functions [] core.fresh h.0 in let d = parts_counted i names hosts functions core.parts [] fs.fresh h.1 in
          let e = c.sum in let g = d.sum in
          let both = between_both i names (size fs.fresh) top c.slots d.slots grows more c.between d.between in
          let k = at_most_once i names top (count i (lawful.declarations core)) (c.slots + d.slots) once
          (λ l. let x = functions_none i names hosts 0 core.functions l h.0 in let y = parts_none i names hosts functions core.parts l h.1 in omega arith) both in omega arith),
      all_differ_by (lawful.held after) (λ i.
          let once = each_once (lawful.held core) h.4 i in
          let a = count_more i (flat_map function_holds core.functions) (flat_map part_holds core.parts) in
          let b = count_more i (flat_map function_holds fs.made) (flat_map part_holds ps.made) in
          let c = functions_held i names hosts 0 core.functions [] core.fresh h.0 in let d = parts_held i names hosts functions core.parts [] fs.fresh h.1 in omega arith),
    )
