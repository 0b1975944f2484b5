-- A lawful core is lawful where generators become machines, if yields are flat and states can be numbered.
use Rattle.std.specs.List.{list_all, flat_map}
use Rattle.std.proofs.Common.{◌≡◌, ℕ, zero, suc, ◌+◌, ◌≤◌, ◌<◌, Bool, true, false, not, ◌||◌, ◌&&◌, cond, nat_eq, nat_lt, List, [], ◌∷◌, ◌++◌, length, length-append, None, refl, sym, ap, arith, subst, ◌∙◌}
use Rattle.std.proofs.lemmas.Bool.{false≢true, leb-true, ltb-true, lt-ltb, ltb-false, eqb-true, eq-eqb}
use Rattle.core_ast.specs.declared.naming.Fresh.{Fresh}
use Rattle.core_ast.specs.declared.parts.Constant.TheVariants.{Undefined}
use Rattle.core_ast.specs.declared.parts.Label.{Label}
use Rattle.core_ast.specs.declared.parts.Var.{Var}
use Rattle.core_ast.specs.declared.tree.CoreStat.{CoreStat}
use Rattle.core_ast.specs.declared.tree.CoreLink.TheOpen as layer
use Rattle.core_ast.specs.declared.tree.CoreStat.TheVariants as stat
use Rattle.core_ast.specs.declared.whole.CoreFunction.{CoreFunction}
use Rattle.core_ast.specs.declared.whole.CorePart.{CorePart}
use Rattle.core_ast.specs.Lawful as lawful
use Rattle.core_ast.specs.Lawful.{Round, all_differ, declared_in, has_number, held_in, is_generator, number_of, numbers, own_names, resumed}
use Rattle.core_ast.specs.Made.{undefined}
use Rattle.core_ast.specs.Mentions.{function_mentions}
use Rattle.pass_rules.specs.declared.state_rules.states.Machine.{Machine}
use Rattle.pass_rules.specs.declared.state_rules.states.Registers.{Registers}
use Rattle.pass_rules.specs.state_rules.States as s
use Rattle.pass_rules.specs.Scopes.{without_scopes}
use Rattle.pass_rules.specs.yield_rules.Yields.{Made, with_yields_flat}
use Rattle.pass_rules.specs.pass_laws.Laws.{YieldsAreOut}
use Rattle.pass_rules.specs.pass_laws.Levels.{function_within, lawful_inside, lawful_outside, nothing, stats_within, unscoped, yielding}
use Rattle.pass_rules.proofs.pass_laws.Distinct.{count, count_more, each_once, all_differ_by}
use Rattle.pass_rules.proofs.pass_laws.Scopes.{scopes_out}
use Rattle.pass_rules.proofs.pass_laws.Starts.{lawful_core}
use Rattle.pass_rules.proofs.pass_laws.Within.{left, right, both}
use Rattle.pass_rules.proofs.pass_laws.Yields.{yields_out}
use Rattle.lawful_passes.specs.Laws.{AllKeepLaw, MachinesKeepLaw}
use Rattle.lawful_passes.specs.States.{has_few_states, stats_states}
use Rattle.lawful_passes.specs.Told as t
use Rattle.lawful_passes.proofs.Bodies.{body_holds}
use Rattle.lawful_passes.proofs.Far.{constant_is, rolled_is}
use Rattle.lawful_passes.proofs.Growing.{At, Holds, Known, VarsBelow, begins_holds, ends_holds, fit, pair_drawn, pair_size, size, vars_rise}
use Rattle.lawful_passes.proofs.Inside.{flat}
use Rattle.lawful_passes.proofs.Kept.{all_both, all_left, all_raised, all_right, flat_one, function_declares, function_holds, functions_none, functions_one, numbers_more, part_declares, part_holds, parts_none, vars_numbers}
use Rattle.lawful_passes.proofs.Labels.{has_left, has_right, or_first}
use Rattle.lawful_passes.proofs.MachineWeights.{generator_below, names_marks, upto}
use Rattle.lawful_passes.proofs.Mentioned.{function_labels, label_below}
use Rattle.lawful_passes.proofs.Raised.{cases_raised, scoped_raised, stats_raised}
use Rattle.lawful_passes.proofs.Rebound.{renamed}
use Rattle.lawful_passes.proofs.Scoping.{both_keep_law}
use Rattle.lawful_passes.proofs.StatesScoped.{states_stay_few}
use Rattle.lawful_passes.proofs.Stepping.{guarded_step_is, last_row_is, making_are, unwinds_are}
use Rattle.lawful_passes.proofs.Tallies.{declaring, function_declared, function_holding, holding, one_by, one_of}

-- ## A generator's machine

-- the round of the step's statements
abbrev stepping : ℕ → ℕ → ℕ → Label → Round
stepping names hosts number turn = lawful.in_loop (turn ∷ []) (lawful.round_function names hosts number false)

abbrev last : Fresh → ℕ
last fresh = size (s.after_registers fresh)

last_size : (fresh : Fresh) → last fresh ≡ size fresh + 7
last_size fresh =
    let f2 = s.after_pair fresh in let f4 = s.after_pair f2 in let f6 = s.after_pair f4 in
    let a = pair_size fresh in let b = pair_size f2 in let c = pair_size f4 in let d = length-append f6.hints (None ∷ []) in omega arith

registers_known : (fresh : Fresh) (turn : Label) → Known (last fresh) (s.registers fresh turn)
registers_known fresh turn =
    let f2 = s.after_pair fresh in let f4 = s.after_pair f2 in let f6 = s.after_pair f4 in
    let l = last_size fresh in let a = pair_size fresh in let b = pair_size f2 in let c = pair_size f4 in
    let d = pair_drawn fresh in let e = pair_drawn f2 in let f = pair_drawn f4 in
    let d0 = d.0 in let d1 = d.1 in let e0 = e.0 in let e1 = e.1 in let f0 = f.0 in let f1 = f.1 in
    record { resumed_kind = omega arith; resumed_value = omega arith; ending_kind = omega arith; ending_value = omega arith; state = omega arith; region = omega arith; thrown = omega arith }

one_label : (l turn : Label) → lawful.has_label l (turn ∷ []) ≡ true → l.0 ≡ turn.0
one_label l turn h = by_two (nat_eq l.0 turn.0) refl h
  where
    by_two : (c : Bool) → nat_eq l.0 turn.0 ≡ c → (c || false) ≡ true → l.0 ≡ turn.0
    by_two true d e = eqb-true l.0 turn.0 d
    by_two false d e = absurd (false≢true e)

own_label : (turn : Label) → lawful.has_label turn (turn ∷ []) ≡ true
own_label turn = or_first _ _ (eq-eqb turn.0 turn.0 refl)

at_first : (names hosts number : ℕ) (yields : Bool) (fresh : Fresh) (turn : Label) → names ≤ size fresh → At (last fresh) (lawful.round_function names hosts number yields) (stepping 0 hosts number turn) (s.outermost (s.registers fresh turn))
at_first names hosts number yields fresh turn l = record {
  hosts = refl;
  functions = refl;
  names = let a = last_size fresh in omega arith;
  registers = registers_known fresh turn;
  returns = refl;
  turn = own_label turn;
  only = λ k e. one_label k turn e;
  sub = λ k e. absurd (false≢true e);
  region = omega arith;
  targets = refl;
  covers = λ k e. absurd (false≢true e);
}

started_holds : (names hosts number : ℕ) (fresh : Fresh) (turn : Label) → names ≤ size fresh → Holds (stepping 0 hosts number turn) (last fresh) 1 (s.started (s.registers fresh turn) (s.after_registers fresh))
started_holds names hosts number fresh turn l =
    let g = s.registers fresh turn in let k = registers_known fresh turn in let r = stepping 0 hosts number turn in
    let below = λ (x : Var) (h : x.0 < last fresh). lt-ltb x.0 (last fresh) h in
    record {
      states = refl;
      stats = refl;
      rows = both (last_row_is (renamed (last fresh) r) g (fit (last fresh) (lawful.round_function names hosts number false) r (s.outermost g) (at_first names hosts number false fresh turn l) (last fresh) (omega arith))) refl;
      here = omega arith;
      next = omega arith;
      regions = omega arith;
      names = omega arith;
      locals = both (below g.ending.kind k.ending_kind) (both (below g.ending.value k.ending_value) (both (below g.state k.state) (both (below g.region k.region) refl)));
    }

machine_holds : (names hosts number : ℕ) (yields : Bool) (fresh : Fresh) (turn : Label) (body : List CoreStat) → names ≤ size fresh → ((i : ℕ) → has_number i (t.stats_told body).labels ≡ true → i < turn.0) → stats_within body flat ≡ true
    → lawful.stats_lawful body (lawful.round_function names hosts number yields) ≡ true → lawful.is_safe (stats_states body) ≡ true → Holds (stepping 0 hosts number turn) (last fresh) (1 + stats_states body) (s.machine (s.registers fresh turn) body (s.after_registers fresh))
machine_holds names hosts number yields fresh turn body l u w h few =
    let g = s.registers fresh turn in let p = s.outermost g in let r = stepping 0 hosts number turn in let base = last fresh in let a = at_first names hosts number yields fresh turn l in
    let c = leb-true (stats_states body) 9007199254740991 few in
    begins_holds r base (1 + stats_states body) 0 _ (omega arith)
    (ends_holds r base (1 + stats_states body) _ _ (λ b j. unwinds_are (renamed b r) p 2 undefined (fit base (lawful.round_function names hosts number yields) r p a b j) refl (constant_is (renamed b r) Undefined refl))
    (body_holds body base (lawful.round_function names hosts number yields) r p a u w h 1 _ (omega arith) (started_holds names hosts number fresh turn l)))

-- ## Functions

-- what a function becomes: no name fewer, and lawful for all names
record FunctionIs (hosts number : ℕ) (fresh : Fresh) (m : Made CoreFunction) : Type 0 where
  grows : size fresh ≤ size m.fresh
  lawful : (top : ℕ) → size m.fresh ≤ top → lawful.function_lawful top hosts number m.made ≡ true

-- what a lawful function is
record Parted (names hosts number : ℕ) (f : CoreFunction) : Type 0 where
  own : list_all (λ n. nat_lt n names) (own_names f ++ numbers f.cells) ≡ true
  differ : all_differ (numbers f.parameters) ≡ true
  declared : lawful.is_empty f.declared ≡ true
  setup : lawful.stats_lawful f.setup (lawful.round_function names hosts number false) ≡ true
  body : lawful.stats_lawful f.body (lawful.round_function names hosts number (is_generator f.kind)) ≡ true
  step : lawful.stats_lawful f.step (lawful.round_function names hosts number false) ≡ true

all_six : (a b c d e f : Bool) → a ≡ true → b ≡ true → c ≡ true → d ≡ true → e ≡ true → f ≡ true → (a && b && c && d && e && f) ≡ true
all_six a b c d e f h i j k l m = both (both (both (both (both h i) j) k) l) m

of_six : (a b c d e f : Bool) → (a && b && c && d && e && f) ≡ true → (a ≡ true) × (b ≡ true) × (c ≡ true) × (d ≡ true) × (e ≡ true) × (f ≡ true)
of_six a b c d e f h =
    let five = left (a && b && c && d && e) f h in let four = left (a && b && c && d) e five in let three = left (a && b && c) d four in let two = left (a && b) c three in
    (left a b two, right a b two, right (a && b) c three, right (a && b && c) d four, right (a && b && c && d) e five, right (a && b && c && d && e) f h)

parted : (names hosts number : ℕ) (f : CoreFunction) → lawful.function_lawful names hosts number f ≡ true → Parted names hosts number f
parted names hosts number f h =
    let q = of_six (list_all (λ n. nat_lt n names) (own_names f ++ numbers f.cells)) (all_differ (numbers f.parameters)) (lawful.is_empty f.declared) (lawful.stats_lawful f.setup (lawful.round_function names hosts number false))
    (lawful.stats_lawful f.body (lawful.round_function names hosts number (is_generator f.kind))) (lawful.stats_lawful f.step (lawful.round_function names hosts number false)) h in
    record { own = q.0; differ = q.1; declared = q.2; setup = q.3; body = q.4; step = q.5 }

joined : (names hosts number : ℕ) (f : CoreFunction) → Parted names hosts number f → lawful.function_lawful names hosts number f ≡ true
joined names hosts number f q = all_six (list_all (λ n. nat_lt n names) (own_names f ++ numbers f.cells)) (all_differ (numbers f.parameters)) (lawful.is_empty f.declared) (lawful.stats_lawful f.setup (lawful.round_function names hosts number false))
    (lawful.stats_lawful f.body (lawful.round_function names hosts number (is_generator f.kind))) (lawful.stats_lawful f.step (lawful.round_function names hosts number false)) q.own q.differ q.declared q.setup q.body q.step

function_raised : (names hosts number top : ℕ) (f : CoreFunction) → names ≤ top → lawful.function_lawful names hosts number f ≡ true → lawful.function_lawful top hosts number f ≡ true
function_raised names hosts number top f l h =
    let q = parted names hosts number f h in
    joined top hosts number f (record {
      own = all_raised names top (own_names f ++ numbers f.cells) l q.own;
      differ = q.differ;
      declared = q.declared;
      setup = stats_raised top f.setup (lawful.round_function names hosts number false) l q.setup;
      body = stats_raised top f.body (lawful.round_function names hosts number (is_generator f.kind)) l q.body;
      step = stats_raised top f.step (lawful.round_function names hosts number false) l q.step;
    })

own_below : (top : ℕ) (f : CoreFunction) (g : Registers) (m : Machine) → nat_lt g.resumption.kind.0 top ≡ true → nat_lt g.resumption.value.0 top ≡ true → VarsBelow top m.locals → list_all (λ i. nat_lt i top) (own_names f ++ numbers f.cells) ≡ true
    → list_all (λ i. nat_lt i top) (own_names (s.with_machine f g m) ++ numbers f.cells) ≡ true
own_below top f g m j k d h =
    let front = (number_of f.own ++ numbers f.parameters) ++ number_of f.arguments in let ls = numbers f.locals in let rs = resumed f.resumption in
    let own = all_left top (own_names f) (numbers f.cells) h in let locals = all_left top (front ++ ls) rs own in
    all_both top (own_names (s.with_machine f g m)) (numbers f.cells)
    (all_both top (front ++ numbers (f.locals ++ m.locals)) _
    (all_both top front (numbers (f.locals ++ m.locals)) (all_left top front ls locals) (subst (λ ns. list_all (λ i. nat_lt i top) ns ≡ true) (sym (numbers_more f.locals m.locals)) (all_both top ls (numbers m.locals) (all_right top front ls locals) (vars_numbers top m.locals d))))
    (both j (both k refl)))
    (all_right top (own_names f) (numbers f.cells) h)

generator_is : (names hosts number : ℕ) (f : CoreFunction) (fresh : Fresh) → lawful.function_lawful names hosts number f ≡ true → stats_within f.body flat ≡ true → lawful.is_safe (stats_states f.body) ≡ true → names ≤ size fresh → FunctionIs hosts number fresh (s.generator f fresh)
generator_is names hosts number f fresh h w few l =
    let turn = s.turn_label f in let g = s.registers fresh turn in let m = s.machine g f.body (s.after_registers fresh) in let r = stepping 0 hosts number turn in
    let q = parted names hosts number f h in
    let u = t.stats_told f.setup in let v = t.stats_told f.body in let x = t.stats_told f.step in
    let under = λ (i : ℕ) (e : has_number i v.labels ≡ true). label_below (function_mentions f).labels 0 i (ap (has_number i) (function_labels f) ∙ has_left i (u.labels ++ v.labels) x.labels (has_right i u.labels v.labels e)) in
    let k = machine_holds names hosts number (is_generator f.kind) fresh turn f.body l under w q.body few in
    let base = last fresh in let c = last_size fresh in let n = k.names in
    record {
      grows = omega arith;
      lawful = λ top j.
          let fits = fit base (lawful.round_function names hosts number false) r (s.outermost g) (at_first names hosts number false fresh turn l) top (omega arith) in
          let step_body = s.guarded_step g m.rows m.states ∷ [] in
          joined top hosts number (s.with_machine f g m) (record {
            own = own_below top f g m fits.resumed_kind fits.resumed_value (vars_rise (size m.fresh) top m.locals j k.locals) (all_raised names top (own_names f ++ numbers f.cells) (omega arith) q.own);
            differ = q.differ;
            declared = q.declared;
            setup = stats_raised top f.setup (lawful.round_function names hosts number false) (omega arith) q.setup;
            body = making_are (lawful.round_function top hosts number (is_generator f.kind)) g fits.ending_kind fits.state fits.region refl;
            step = both (rolled_is (lawful.round_function top hosts number false) _ (layer.Loop (turn ∷ []) None None step_body) (stat.rolls-Loop (turn ∷ []) None None step_body)
                (both refl (both (guarded_step_is (renamed top r) g m.rows m.states fits (cases_raised top m.rows (renamed (size m.fresh) r) j k.rows) (cases_raised top m.states (renamed (size m.fresh) r) j k.states)) refl))) refl;
          });
    }

function_is : (names hosts number : ℕ) (f : CoreFunction) (fresh : Fresh) → lawful.function_lawful names hosts number f ≡ true → function_within (yielding nothing) nothing f ≡ true → has_few_states f ≡ true → names ≤ size fresh → FunctionIs hosts number fresh (s.one_function f fresh)
function_is names hosts number f fresh h w few l = by_kind (is_generator f.kind) (right _ _ (left _ _ w)) few
  where
    by_kind : (b : Bool) → stats_within f.body (cond b (yielding nothing) nothing) ≡ true → (not b || lawful.is_safe (stats_states f.body)) ≡ true → FunctionIs hosts number fresh (cond b (s.generator f fresh) (record { made = f; fresh = fresh }))
    by_kind true i k = generator_is names hosts number f fresh h i k l
    by_kind false i k = record { grows = omega arith; lawful = λ top j. function_raised names hosts number top f (omega arith) h }

record FunctionsAre (hosts : ℕ) (fresh : Fresh) (made : List CoreFunction) (m : Made (List CoreFunction)) : Type 0 where
  grows : size fresh ≤ size m.fresh
  lawful : (top : ℕ) → size m.fresh ≤ top → lawful.functions_lawful top hosts 0 made ≡ true → lawful.functions_lawful top hosts 0 m.made ≡ true

functions_are : (names hosts number : ℕ) (fs made : List CoreFunction) (fresh : Fresh) → lawful.functions_lawful names hosts number fs ≡ true → list_all (function_within (yielding nothing) nothing) fs ≡ true → list_all has_few_states fs ≡ true → names ≤ size fresh → length made ≡ number
    → FunctionsAre hosts fresh made (s.all_functions fs made fresh)
functions_are names hosts number [] made fresh h w few l e = record { grows = omega arith; lawful = λ top j k. k }
functions_are names hosts number (f ∷ fs) made fresh h w few l e =
    let g = s.one_function f fresh in
    let one = function_is names hosts number f fresh (left _ _ h) (left _ _ w) (left _ _ few) l in let grows = one.grows in
    let rest = functions_are names hosts (number + 1) fs (made ++ g.made ∷ []) g.fresh (right _ _ h) (right _ _ w) (right _ _ few) (omega arith) (let a = length-append made (g.made ∷ []) in omega arith) in let more = rest.grows in
    record {
      grows = omega arith;
      lawful = λ top j k. rest.lawful top j (functions_one top hosts 0 made g.made k (subst (λ n. lawful.function_lawful top hosts n g.made ≡ true) (let a : number ≡ 0 + length made = omega arith in a) (one.lawful top (omega arith))));
    }

-- ## Parts

part_raised : (names hosts functions top : ℕ) (x : CorePart) → names ≤ top → lawful.part_lawful names hosts functions x ≡ true → lawful.part_lawful top hosts functions x ≡ true
part_raised names hosts functions top x l h =
    let r = lawful.round_part names hosts functions in
    both (both (scoped_raised top x.names r l (left _ _ (left _ _ h))) (stats_raised top x.instantiate r l (right _ _ (left _ _ h)))) (stats_raised top x.body r l (right _ _ h))

parts_raised : (names hosts functions top : ℕ) (xs : List CorePart) → names ≤ top → list_all (lawful.part_lawful names hosts functions) xs ≡ true → list_all (lawful.part_lawful top hosts functions) xs ≡ true
parts_raised names hosts functions top [] l h = refl
parts_raised names hosts functions top (x ∷ xs) l h = both (part_raised names hosts functions top x l (left _ _ h)) (parts_raised names hosts functions top xs l (right _ _ h))

-- ## How often a name is declared, and a function held

names_count : (i : ℕ) (xs : List Var) → count i (numbers xs) ≡ names_marks (declaring i) xs
names_count i [] = refl
names_count i (x ∷ xs) = ap (λ n. one_of i x.0 + n) (names_count i xs)

own_count : (i : ℕ) (f : CoreFunction) → count i (own_names f) ≡ count i ((number_of f.own ++ numbers f.parameters) ++ number_of f.arguments) + count i (numbers f.locals) + count i (resumed f.resumption)
own_count i f =
    let front = (number_of f.own ++ numbers f.parameters) ++ number_of f.arguments in
    let a = count_more i (front ++ numbers f.locals) (resumed f.resumption) in let b = count_more i front (numbers f.locals) in omega arith

generator_counted : (i : ℕ) (f : CoreFunction) (fresh : Fresh) → count i (function_declares (s.generator f fresh).made) + upto (declaring i) (size fresh) ≤ count i (function_declares f) + upto (declaring i) (size (s.generator f fresh).fresh)
generator_counted i f fresh =
    let r = s.registers fresh (s.turn_label f) in let m = s.machine r f.body (s.after_registers fresh) in let g = s.with_machine f r m in
    let a = count_more i (own_names g) (declared_in (function_mentions g)) in let b = count_more i (own_names f) (declared_in (function_mentions f)) in
    let c = own_count i g in let d = own_count i f in
    let e = function_declared i g in let h = function_declared i f in
    let j = ap (count i) (numbers_more f.locals m.locals) in let k = count_more i (numbers f.locals) (numbers m.locals) in let n = names_count i m.locals in
    let q : count i (r.resumption.kind.0 ∷ r.resumption.value.0 ∷ []) ≡ one_of i r.resumption.kind.0 + (one_of i r.resumption.value.0 + 0) = refl in
    let w = generator_below (declaring i) f fresh in omega arith

function_counted : (i : ℕ) (f : CoreFunction) (fresh : Fresh) → count i (function_declares (s.one_function f fresh).made) + upto (declaring i) (size fresh) ≤ count i (function_declares f) + upto (declaring i) (size (s.one_function f fresh).fresh)
function_counted i f fresh = by_kind (is_generator f.kind)
  where
    by_kind : (b : Bool) → let m = cond b (s.generator f fresh) (record { made = f; fresh = fresh }) in count i (function_declares m.made) + upto (declaring i) (size fresh) ≤ count i (function_declares f) + upto (declaring i) (size m.fresh)
    by_kind true = generator_counted i f fresh
    by_kind false = omega arith

functions_counted : (i : ℕ) (fs made : List CoreFunction) (fresh : Fresh)
    → count i (flat_map function_declares (s.all_functions fs made fresh).made) + upto (declaring i) (size fresh) ≤ count i (flat_map function_declares made) + count i (flat_map function_declares fs) + upto (declaring i) (size (s.all_functions fs made fresh).fresh)
functions_counted i [] made fresh = omega arith
functions_counted i (f ∷ fs) made fresh =
    let g = s.one_function f fresh in
    let a = functions_counted i fs (made ++ g.made ∷ []) g.fresh in let b = flat_one i function_declares made g.made in let c = function_counted i f fresh in let d = count_more i (function_declares f) (flat_map function_declares fs) in omega arith

upto_nothing : (i n : ℕ) → upto (holding i) n ≡ 0
upto_nothing i zero = refl
upto_nothing i (suc n) = let a = upto_nothing i n in omega arith

function_held : (i : ℕ) (f : CoreFunction) (fresh : Fresh) → count i (function_holds (s.one_function f fresh).made) ≤ count i (function_holds f)
function_held i f fresh = by_kind (is_generator f.kind)
  where
    by_kind : (b : Bool) → count i (function_holds (cond b (s.generator f fresh) (record { made = f; fresh = fresh })).made) ≤ count i (function_holds f)
    by_kind true =
        let m = s.generator f fresh in
        let a = function_holding i m.made in let b = function_holding i f in let w = generator_below (holding i) f fresh in let c = upto_nothing i (size fresh) in let d = upto_nothing i (size m.fresh) in omega arith
    by_kind false = omega arith

functions_held : (i : ℕ) (fs made : List CoreFunction) (fresh : Fresh) → count i (flat_map function_holds (s.all_functions fs made fresh).made) ≤ count i (flat_map function_holds made) + count i (flat_map function_holds fs)
functions_held i [] made fresh = omega arith
functions_held i (f ∷ fs) made fresh =
    let g = s.one_function f fresh in
    let a = functions_held i fs (made ++ g.made ∷ []) g.fresh in let b = flat_one i function_holds made g.made in let c = function_held i f fresh in let d = count_more i (function_holds f) (flat_map function_holds fs) in omega arith

-- of the names up to one, each stands once
record Upto (i n : ℕ) : Type 0 where
  once : upto (declaring i) n ≤ 1
  before : i < n → upto (declaring i) n ≡ 1
  behind : n ≤ i → upto (declaring i) n ≡ 0

apart_less : (i n : ℕ) → nat_eq i n ≡ false → i ≤ n → i < n
apart_less i n e l = by_side (nat_lt i n) refl
  where
    by_side : (b : Bool) → nat_lt i n ≡ b → i < n
    by_side true k = ltb-true i n k
    by_side false k = let a = ltb-false i n k in absurd (false≢true (sym e ∙ eq-eqb i n (omega arith)))

upto_next : (i n : ℕ) (b : Bool) → nat_eq i n ≡ b → one_of i n ≡ one_by b → Upto i n → Upto i (suc n)
upto_next i n true e o h =
    let d = eqb-true i n e in let a = h.behind (omega arith) in
    record { once = omega arith; before = λ l. omega arith; behind = λ l. (let z : ⊥ = omega arith in absurd z) }
upto_next i n false e o h = record {
  once = let a = h.once in omega arith;
  before = λ l. (let a = h.before (apart_less i n e (omega arith)) in omega arith);
  behind = λ l. (let a = h.behind (omega arith) in omega arith);
}

upto_is : (i n : ℕ) → Upto i n
upto_is i zero = record { once = omega arith; before = λ l. (let z : ⊥ = omega arith in absurd z); behind = λ l. refl }
upto_is i (suc n) = upto_next i n (nat_eq i n) refl refl (upto_is i n)

-- ## The core

functions_length : (fs made : List CoreFunction) (fresh : Fresh) → length (s.all_functions fs made fresh).made ≡ length made + length fs
functions_length [] made fresh = omega arith
functions_length (f ∷ fs) made fresh = let g = s.one_function f fresh in let a = functions_length fs (made ++ g.made ∷ []) g.fresh in let b = length-append made (g.made ∷ []) in omega arith

-- what is declared once at most is so behind
at_most_once : (i first top c d : ℕ) → first ≤ top → c ≤ 1 → (first ≤ i → c ≡ 0) → d + upto (declaring i) first ≤ c + upto (declaring i) top → d ≤ 1
at_most_once i first top c d l once none e = by_side (nat_lt i first) refl
  where
    by_side : (b : Bool) → nat_lt i first ≡ b → d ≤ 1
    by_side true k = let a = (upto_is i first).before (ltb-true i first k) in let b = (upto_is i top).once in omega arith
    by_side false k = let a = none (ltb-false i first k) in let b = (upto_is i top).once in omega arith

pub machines_keep_law : MachinesKeepLaw
machines_keep_law hosts core h w few =
    let names = size core.fresh in let functions = length core.functions in
    let fs = s.all_functions core.functions [] core.fresh in let top = size fs.fresh in
    let are = functions_are names hosts 0 core.functions [] core.fresh h.0 w.0 few (omega arith) refl in let grows = are.grows in
    let many : functions ≡ length fs.made = (let a = functions_length core.functions [] core.fresh in omega arith) in
    let after = s.with_machines core in (
      are.lawful top (omega arith) refl,
      subst (λ n. list_all (lawful.part_lawful top hosts n) core.parts ≡ true) many (parts_raised names hosts functions top core.parts grows h.1),
      h.2,
      all_differ_by (lawful.declarations after) (λ i.
          let once = each_once (lawful.declarations core) h.3 i in
          let a = count_more i (flat_map function_declares core.functions) (flat_map part_declares core.parts) in
          let b = count_more i (flat_map function_declares fs.made) (flat_map part_declares core.parts) in
          let c = functions_counted i core.functions [] core.fresh in
          at_most_once i names top (count i (lawful.declarations core)) (count i (lawful.declarations after)) grows once
          (λ l. let x = functions_none i names hosts 0 core.functions l h.0 in let y = parts_none i names hosts functions core.parts l h.1 in omega arith) (omega arith)),
      all_differ_by (lawful.held after) (λ i.
          let once = each_once (lawful.held core) h.4 i in
          let a = count_more i (flat_map function_holds core.functions) (flat_map part_holds core.parts) in
          let b = count_more i (flat_map function_holds fs.made) (flat_map part_holds core.parts) in
          let c = functions_held i core.functions [] core.fresh in omega arith),
    )

yields_are_out : YieldsAreOut
yields_are_out core h = yields_out (unscoped lawful_inside) (unscoped lawful_outside) (without_scopes core) (scopes_out lawful_inside lawful_outside core (lawful_core core h))

pub all_keep_law : AllKeepLaw
all_keep_law hosts core h such apart few = machines_keep_law hosts (with_yields_flat (without_scopes core)) (both_keep_law hosts core h such apart) (yields_are_out core (hosts, h)) (states_stay_few core few)
