-- Behind a call what is left to declare is right: its context is one more, of an activation of its own, which may declare what the function does.
use Rattle.std.proofs.Common.{◌≡◌, ◌≤◌, ◌<◌, ◌+◌, ℕ, Bool, true, false, ◌&&◌, ◌||◌, List, [], ◌∷◌, ◌++◌, Option, None, Some, length, nat_eq, nat_lt, slice_get, refl, sym, ap, arith, subst, ◌∙◌}
use Rattle.std.specs.Prelude.{if◌then◌else◌}
use Rattle.std.proofs.lemmas.Bool.{eqb-true}
use Rattle.runs.specs.Run.{Goes}
use Rattle.es_calls.specs.Making.{arguments_heap}
use Rattle.es_realm.specs.declared.edition.Edition.TheVariants.{Sixth}
use Rattle.es_value.specs.declared.value.Value.{Value}
use Rattle.core_ast.specs.Lawful.{is_generator}
use Rattle.core_ast.specs.declared.parts.Var.{Var}
use Rattle.core_ast.specs.declared.tree.CoreStat.{CoreStat}
use Rattle.core_ast.specs.declared.whole.Core.{Core}
use Rattle.core_ast.specs.declared.whole.CoreFunction.{CoreFunction}
use Rattle.core_ast.specs.declared.whole.CoreKind.{CoreKind}
use Rattle.core_ast.specs.declared.whole.CoreKind.TheVariants as kind
use Rattle.core_ast.specs.declared.whole.Resumption.{Resumption as Names}
use Rattle.core_meaning.specs.Calls.{with_arguments}
use Rattle.core_meaning.specs.Functions.{entered, entered_by}
use Rattle.core_meaning.specs.Generators.{body_by, run_body}
use Rattle.core_meaning.specs.Marks.{AtStart, AtYield, Completed, CoreNext, CoreState, Executing, Generator, KeptCell, Mark, Own}
use Rattle.core_meaning.specs.Modules.{core_step}
use Rattle.core_meaning.specs.Names.{Resolved, initialize_found, initialized, resolve}
use Rattle.core_meaning.specs.Rows.{controls, or_else, place_of, with_control, with_heap}
use Rattle.core_meaning.specs.State.{Call, Calls, Closure, CoreValue, Environment, Run}
use Rattle.cells_keep_runs.specs.Alike.{Config}
use Rattle.cells_keep_runs.specs.Called.{bindings_of}
use Rattle.cells_keep_runs.specs.Counted.{AllFits, Contexts1, Limit, NextFits, bottom, counted, generator_counted, in_frames, total, with_control as with_code}
use Rattle.cells_keep_runs.specs.Declares.{declares}
use Rattle.cells_keep_runs.specs.Entering.{AllEndBelow, AllGeneratorsEndBelow, StateEndsBelow, entered as entered_once, is_this}
use Rattle.cells_keep_runs.specs.Entries.{call_seat}
use Rattle.cells_keep_runs.specs.MayBeFlattened.{Whole}
use Rattle.cells_keep_runs.specs.Memory.{Seat, Seats}
use Rattle.cells_keep_runs.specs.Places.{Below}
use Rattle.cells_keep_runs.specs.Ready.{ClosureCall}
use Rattle.cells_keep_runs.specs.Recorded.{inner}
use Rattle.cells_keep_runs.specs.Rounds.{activation_at, grouped, grouped_in, home_in}
use Rattle.cells_keep_runs.proofs.Called.{calls_step, within_is}
use Rattle.cells_keep_runs.proofs.Declares.{declares_measures}
use Rattle.cells_keep_runs.proofs.Recounted.{records_counted}
use Rattle.cells_keep_runs.proofs.Renewed.{got_last}
use Rattle.cells_keep_runs.proofs.Rounds.{home_stays}
use Rattle.scopes_keep_runs.specs.Counts.{AllCounts, Single, ahead_least, declared_in, is_blocked, left_in, limit_with}
use Rattle.scopes_keep_runs.proofs.Fresh.{all_away, differs, elsewhere, group_is, none_entered_in, past_modules}
use Rattle.scopes_keep_runs.proofs.Limits.{Elsewhere, entered_same, one_more, this_is}
use Rattle.scopes_keep_runs.proofs.Small.{home_more, left_most}

-- ---- a call leaves the bodies of modules that are ahead

abbrev Keeps1 : List (List CoreStat) → CoreNext → Type 0
Keeps1 a (Goes s) = s.state.ahead ≡ a
Keeps1 a next = ⊥

module _ (a : List (List CoreStat)) where
  found_ahead : (x : Var) (v : CoreValue Mark) (st : CoreState) (o : Option (Resolved Mark)) → st.ahead ≡ a → (initialize_found x v st o).ahead ≡ a
  found_ahead x v st None is = is
  found_ahead x v st (Some r) is = is

  arguments_ahead : (o : Option Var) (args : List Value) (st : CoreState) → st.ahead ≡ a → (with_arguments Sixth o args st).ahead ≡ a
  unfolding initialized
  arguments_ahead None args st is = is
  arguments_ahead (Some x) args st is = found_ahead x _ (with_heap (arguments_heap Sixth st.heap args) st) (resolve (with_heap (arguments_heap Sixth st.heap args) st) x) is

  body_ahead : (f : CoreFunction) (st : CoreState) (o : Option Names) → st.ahead ≡ a → Keeps1 a (body_by f st o)
  body_ahead f st None is = is
  body_ahead f st (Some names) is = is

  run_ahead : (f : CoreFunction) (st : CoreState) (is : Bool) → st.ahead ≡ a → Keeps1 a (if is then body_by f st f.resumption else controls (Run (f.setup ++ f.body)) st)
  run_ahead f st true is = body_ahead f st f.resumption is
  run_ahead f st false is = is

  entered_ahead : (c : Closure Own) (now : Call) (st : CoreState) (k : CoreKind) → st.ahead ≡ a → (entered_by c now st k).state.ahead ≡ a
  entered_ahead c now st kind.Arrow is = is
  entered_ahead c now st k is = is

pub call_ahead : (core : Core) (c : Call) (s : CoreState) (r : ClosureCall core c s) (v : Config) → r.function.declared ≡ [] → core_step core (with_control (Calls c) s) ≡ Goes v → v.state.ahead ≡ s.ahead
call_ahead core c s r v undeclared is =
    let f = r.function in
    let a = r.closure in
    let inside : CoreState = record (entered a f c s).state {
      records = s.records ++ bindings_of f a c s ∷ [];
      callers = s.context ∷ s.callers;
      context = record { environment = length s.records ∷ a.environment; receiver = c.receiver; site = or_else c.site (place_of s); own = (entered a f c s).own; frames = [] };
    } in
    let source : core_step core (with_control (Calls c) s) ≡ run_body f (with_arguments Sixth f.arguments c.args inside) =
    calls_step core c s r.id r.number a f r.object r.class_is r.closure_at r.function_is ∙ ap (λ u. run_body f u) (within_is core f a c s undeclared) in
    subst (λ m. Keeps1 s.ahead m) (sym source ∙ is)
    (run_ahead s.ahead f (with_arguments Sixth f.arguments c.args inside) (is_generator f.kind) (arguments_ahead s.ahead f.arguments c.args inside (entered_ahead s.ahead a c s f.kind refl)))

-- ---- contexts that don't count

this_not : (o : Option ℕ) (a : ℕ) → (o ≡ Some a → ⊥) → is_this o a ≡ false
this_not None a other = refl
this_not (Some b) a other = by_same (nat_eq b a) refl
  where
    by_same : (c : Bool) → nat_eq b a ≡ c → c ≡ false
    by_same true is = absurd (other (ap (λ i. Some i) (eqb-true b a is)))
    by_same false is = refl

and_false : (b : Bool) → b && false ≡ false
and_false true = refl
and_false false = refl

or_both : (b c : Bool) → b ≡ false → c ≡ false → b || c ≡ false
or_both false c h k = k
or_both true c h k = cc

module _ (core : Core) (whole : Whole) (seats : Seats) (s : CoreState) (c : Call) (r : ClosureCall core c s) (undeclared : r.function.declared ≡ []) (h : ℕ) (locals has : List Var) (cells : List KeptCell)
    (homes : (n : ℕ) (here : Seat) → slice_get seats n ≡ Some here → here.home < h) (long : length seats ≡ length s.records) (ends : StateEndsBelow (length seats) s)
    (counts : AllCounts core whole seats (with_control (Calls c) s)) where
  abbrev new : Seat
  new = call_seat h locals has cells

  abbrev seats2 : Seats
  seats2 = seats ++ new ∷ []

  abbrev act : ℕ
  act = grouped whole h

  abbrev before : Config
  before = with_control (Calls c) s

  abbrev env : Environment
  env = inner s r.closure.environment

  -- ---- the limits with the new seat

  entered_is : (b : ℕ) (x : Var) → entered_once whole seats2 b x ≡ entered_once whole seats b x
  entered_is b x = entered_same whole seats new b x (and_false (nat_eq (grouped whole h) b))

  blocked_same : (x : Var) (n b : ℕ) → is_blocked whole seats2 x n b ≡ is_blocked whole seats x n b
  blocked_same x n b = ap (λ e. e || (nat_lt b whole.modules && nat_lt 0 n)) (entered_is b x)

  left_same : (x : Var) (n : ℕ) (o : Option ℕ) → left_in whole seats2 x n o ≡ left_in whole seats x n o
  left_same x n None = refl
  left_same x n (Some b) = ap (λ c. if c then 0 else 1) (blocked_same x n b)

  same_act : (e : Environment) → Below (length seats) e → activation_at whole seats2 e ≡ activation_at whole seats e
  same_act e below = ap (λ o. grouped_in whole o) (home_stays seats new e below)

  away : Elsewhere whole seats act s
  away = all_away whole seats h homes counts.homes s

  fits_before : (x : Var) (n a : ℕ) → AllFits (declares x) (limit_with whole seats x n a) before → AllFits (declares x) (limit_with whole seats2 x n a) before
  fits_before x n a (others, code) =
      let e = bottom s.context.environment s.context.frames in
      let k = with_code (declares x) (Calls c) (in_frames (declares x) s.context.frames) in
      let here : k ≤ left_in whole seats x n (activation_at whole seats e) = code in
      let most : left_in whole seats2 x n (activation_at whole seats2 e) ≡ left_in whole seats x n (activation_at whole seats e) =
      left_same x n (activation_at whole seats2 e) ∙ ap (λ o. left_in whole seats x n o) (same_act e ends.0) in
      let now : k ≤ left_in whole seats2 x n (activation_at whole seats2 e) = omega arith in
      let zero_more : 0 + k ≤ left_in whole seats x n (activation_at whole seats e) = omega arith in
      one_more whole (declares x) seats new (left_in whole seats x n) (left_in whole seats2 x n) a (λ o other. (let same = left_same x n o in omega arith)) before 0 ends away now (others, zero_more)

  -- ---- the new context

  last : slice_get seats2 (length s.records) ≡ Some new
  last = subst (λ n. slice_get seats2 n ≡ Some new) long (got_last seats new)

  env_act : activation_at whole seats2 env ≡ Some act
  env_act = ap (λ o. grouped_in whole (home_in o)) last

  free : (x : Var) (n : ℕ) → is_blocked whole seats2 x n act ≡ false
  free x n =
      or_both (entered_once whole seats2 act x) (nat_lt act whole.modules && nat_lt 0 n)
      (entered_is act x ∙ none_entered_in whole act x seats (differs whole seats h homes counts.homes))
      (ap (λ b. b && nat_lt 0 n) (ap (λ i. nat_lt i whole.modules) (group_is whole seats h homes counts.homes) ∙ past_modules whole seats h homes counts.homes))

  most_is : (x : Var) (n a : ℕ) → (limit_with whole seats2 x n a).most env ≡ 1
  most_is x n a = ap (λ o. left_in whole seats2 x n o) env_act ∙ ap (λ b. if b then 0 else 1) (free x n)

  -- ---- contexts before

  module _ (x : Var) (n : ℕ) where
    abbrev lim : Limit
    lim = limit_with whole seats2 x n act

    none_at : (e : Environment) → Below (length seats) e → lim.counts e ≡ 0
    none_at e below =
        ap (λ b. if b then 1 else 0) (ap (λ o. is_this o act) (same_act e below) ∙ this_not (activation_at whole seats e) act (elsewhere whole seats h homes counts.homes e))

    contexts_none : (ks : Contexts1) → AllEndBelow (length seats) ks → total (counted lim) ks ≡ 0
    contexts_none [] below = refl
    contexts_none (k ∷ ks) (here, below) =
        let one : counted lim k ≡ 0 = none_at (bottom k.environment k.frames) here in
        let rest : total (counted lim) ks ≡ 0 = contexts_none ks below in
        omega arith

    generators_none : (gs : List Generator) → AllGeneratorsEndBelow (length seats) gs → total (generator_counted lim) gs ≡ 0
    generators_none [] below = refl
    generators_none (AtStart k ∷ gs) (here, below) =
        let one : generator_counted lim (AtStart k) ≡ 0 = none_at (bottom k.environment k.frames) here in
        let rest : total (generator_counted lim) gs ≡ 0 = generators_none gs below in
        omega arith
    generators_none (AtYield k ∷ gs) (here, below) =
        let one : generator_counted lim (AtYield k) ≡ 0 = none_at (bottom k.environment k.frames) here in
        let rest : total (generator_counted lim) gs ≡ 0 = generators_none gs below in
        omega arith
    generators_none (Executing ∷ gs) (here, below) = let rest : total (generator_counted lim) gs ≡ 0 = generators_none gs below in omega arith
    generators_none (Completed ∷ gs) (here, below) = let rest : total (generator_counted lim) gs ≡ 0 = generators_none gs below in omega arith

  counts_one : (x : Var) (n a : ℕ) → AllFits (declares x) (limit_with whole seats2 x n a) before
      → (limit_with whole seats2 x n a).counts env + (counted (limit_with whole seats2 x n a) s.context + (total (counted (limit_with whole seats2 x n a)) s.callers + total (generator_counted (limit_with whole seats2 x n a)) s.store.generators)) ≤ 1
  counts_one x n a fits = by_act (nat_eq act a) refl
    where
      by_act : (b : Bool) → nat_eq act a ≡ b
          → (limit_with whole seats2 x n a).counts env + (counted (limit_with whole seats2 x n a) s.context + (total (counted (limit_with whole seats2 x n a)) s.callers + total (generator_counted (limit_with whole seats2 x n a)) s.store.generators)) ≤ 1
      by_act false is =
          let none : (limit_with whole seats2 x n a).counts env ≡ 0 = ap (λ o. if is_this o a then 1 else 0) env_act ∙ ap (λ b. if b then 1 else 0) is in
          let sum : counted (limit_with whole seats2 x n a) s.context + (total (counted (limit_with whole seats2 x n a)) s.callers + total (generator_counted (limit_with whole seats2 x n a)) s.store.generators) ≤ 1 = fits.0.2 in
          omega arith
      by_act true is =
          let same : act ≡ a = eqb-true act a is in
          let one : (limit_with whole seats2 x n act).counts env ≡ 1 = ap (λ o. if is_this o act then 1 else 0) env_act ∙ ap (λ b. if b then 1 else 0) (this_is (Some act) act refl) in
          let here : counted (limit_with whole seats2 x n act) s.context ≡ 0 = none_at x n (bottom s.context.environment s.context.frames) ends.0 in
          let callers : total (counted (limit_with whole seats2 x n act)) s.callers ≡ 0 = contexts_none x n s.callers ends.1 in
          let generators : total (generator_counted (limit_with whole seats2 x n act)) s.store.generators ≡ 0 = generators_none x n s.store.generators ends.2 in
          let all : (limit_with whole seats2 x n act).counts env + (counted (limit_with whole seats2 x n act) s.context + (total (counted (limit_with whole seats2 x n act)) s.callers + total (generator_counted (limit_with whole seats2 x n act)) s.store.generators)) ≤ 1 =
          omega arith in
          subst (λ b. (limit_with whole seats2 x n b).counts env + (counted (limit_with whole seats2 x n b) s.context + (total (counted (limit_with whole seats2 x n b)) s.callers + total (generator_counted (limit_with whole seats2 x n b)) s.store.generators)) ≤ 1)
          same all

  fits_behind : (x : Var) → Single core x → (n a : ℕ) → AllFits (declares x) (limit_with whole seats x n a) before → NextFits (declares x) (limit_with whole seats2 x n a) (core_step core before)
  fits_behind x single n a fits =
      let lim2 = limit_with whole seats2 x n a in
      let fits2 = fits_before x n a fits in
      let small : (declares x).stats r.function.setup + (declares x).stats r.function.body ≤ 1 = single.functions r.closure.function r.function r.function_is in
      let may : (declares x).stats r.function.setup + (declares x).stats r.function.body ≤ lim2.most env = subst (λ m. (declares x).stats r.function.setup + (declares x).stats r.function.body ≤ m) (sym (most_is x n a)) small in
      (records_counted (declares x) lim2 (declares_measures x) (left_most whole seats2 x n a)).calls core s c r undeclared may (counts_one x n a fits2) fits2

  -- ---- all of it

  pub call_counts : (v : Config) → core_step core before ≡ Goes v → AllCounts core whole seats2 v
  call_counts v is =
      let ahead : v.state.ahead ≡ s.ahead = call_ahead core c s r v undeclared is in
      record {
        names = λ x single. record {
          ahead = subst (λ bs. declared_in x bs ≤ ahead_least whole seats2 x) (sym ahead)
              (subst (λ b. declared_in x s.ahead ≤ (if nat_lt 0 whole.modules && b then 0 else 1)) (sym (entered_is 0 x)) (counts.names x single).ahead);
          fits = λ a. subst (λ bs. AllFits (declares x) (limit_with whole seats2 x (declared_in x bs) a) v) (sym ahead)
              (subst (λ m. NextFits (declares x) (limit_with whole seats2 x (declared_in x s.ahead) a) m) is (fits_behind x single (declared_in x s.ahead) a ((counts.names x single).fits a)));
        };
        homes = λ i less. home_more seats new i (counts.homes i less);
      }
