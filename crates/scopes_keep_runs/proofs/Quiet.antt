-- A step that makes no record leaves what is left to declare.
use Rattle.std.proofs.Common.{◌≡◌, ◌⊎◌, ◌≤◌, ◌<◌, ◌+◌, inl, inr, ℕ, Bool, true, false, ◌&&◌, ◌||◌, List, [], ◌∷◌, Option, None, Some, length, nat_lt, slice_get, refl, sym, ap, arith, subst, ◌∙◌}
use Rattle.std.specs.Prelude.{if◌then◌else◌}
use Rattle.std.proofs.lemmas.Bool.{lt-ltb, ltb-false, ltb-true}
use Rattle.runs.specs.Run.{Asks, Goes}
use Rattle.es_outside.specs.declared.events.Event.{Event}
use Rattle.es_outside.specs.declared.host.Reply.{Reply}
use Rattle.es_value.specs.declared.value.ObjId.{ObjId}
use Rattle.es_value.specs.declared.value.Value.{Value}
use Rattle.es_value.specs.declared.value.Value.TheVariants as value
use Rattle.es_heap.specs.Heaps.{object_at}
use Rattle.es_heap.specs.declared.class.Class.{Class}
use Rattle.es_heap.specs.declared.class.Class.TheVariants as class
use Rattle.core_ast.specs.declared.parts.CoreHead.{CoreHead}
use Rattle.core_ast.specs.declared.parts.CoreHead.TheVariants as head
use Rattle.core_ast.specs.declared.parts.Var.{Var}
use Rattle.core_ast.specs.declared.tree.CoreCase.{CoreCase}
use Rattle.core_ast.specs.declared.tree.CoreExpr.{CoreExpr, out-CoreExpr}
use Rattle.core_ast.specs.declared.tree.CoreLink.{CoreLink}
use Rattle.core_ast.specs.declared.tree.CoreLink.TheOpen as layer
use Rattle.core_ast.specs.declared.tree.CoreLink.TheOpen.{CoreStat-F}
use Rattle.core_ast.specs.declared.tree.CoreStat.{CoreStat, out-CoreStat}
use Rattle.core_ast.specs.declared.whole.Core.{Core}
use Rattle.core_ast.specs.declared.whole.CoreFunction.{CoreFunction}
use Rattle.core_ast.specs.declared.whole.CorePart.{CorePart}
use Rattle.core_meaning.specs.Calls.{call_class, call_value, enter}
use Rattle.core_meaning.specs.Expressions.{function_at}
use Rattle.core_meaning.specs.Marks.{CoreNext, CoreState, CoreWork, Mark, Own}
use Rattle.core_meaning.specs.Modules.{core_step, numbers_from, rows}
use Rattle.core_meaning.specs.Rows.{with_control, with_option}
use Rattle.core_meaning.specs.State.{Begin, Call, Calls, Catching, Closure, Completion, Control, Done, Frame, Gives, Go, Hand, Jumps, Returns, Run, Throws, Turn}
use Rattle.core_meaning.specs.Step.{hand, next_body, returned, step}
use Rattle.cells_keep_runs.specs.Alike.{Config}
use Rattle.cells_keep_runs.specs.Counted.{AllFits, Contexts1, NextFits}
use Rattle.cells_keep_runs.specs.Declares.{declares}
use Rattle.cells_keep_runs.specs.Entering.{entered}
use Rattle.cells_keep_runs.specs.Floors.{Bottom, FramesAt}
use Rattle.cells_keep_runs.specs.KeptFound.{naming}
use Rattle.cells_keep_runs.specs.MayBeFlattened.{Whole, whole_of}
use Rattle.cells_keep_runs.specs.Memory.{Seats}
use Rattle.cells_keep_runs.specs.Placing.{HandPlain, HeadPlain, ListPlain, MakesNoRecord, StatPlain}
use Rattle.cells_keep_runs.specs.Ready.{ClosureCall}
use Rattle.cells_keep_runs.specs.Rounds.{activation_at, grouped, grouped_in, home_in}
use Rattle.cells_keep_runs.specs.Turned.{CallsNoClosure, IsNoClosure}
use Rattle.cells_keep_runs.proofs.Counting.{steps_fit}
use Rattle.cells_keep_runs.proofs.Declares.{declares_measures}
use Rattle.cells_keep_runs.proofs.Lasting.{HandMakes, HeadMakes, ListMakes, MakesRecord, StatMakes}
use Rattle.cells_keep_runs.proofs.Recounted.{records_counted}
use Rattle.cells_keep_runs.proofs.GoingOn.{Exactly, bound_in}
use Rattle.scopes_keep_runs.specs.Counts.{AllCounts, CountsOf, HasHome, Single, ahead_least, declared_in, left_in, limit_with}
use Rattle.scopes_keep_runs.specs.Instance.{ends_of, known_of}
use Rattle.scopes_keep_runs.proofs.Instance.{At}
use Rattle.scopes_keep_runs.proofs.Stay.{standing_at}
use Rattle.scopes_keep_runs.proofs.Ahead.{ahead_stays}
use Rattle.scopes_keep_runs.proofs.AheadActs.{NextKeeps}
use Rattle.scopes_keep_runs.proofs.Limits.{more_left}
use Rattle.scopes_keep_runs.proofs.Small.{left_most}

-- ---- what a step is that makes no record: plain, or behind it comes the next body of a module; or it leaves

-- no code waits in the outermost context, whose statements have ended
pub record AtEnd (s : Config) : Type 0 where
  pub control : s.control ≡ Hand Done
  pub frames : s.state.context.frames ≡ []
  pub callers : s.state.callers ≡ []

head_plain : (h : CoreHead) → (HeadMakes h → ⊥) → HeadPlain h
head_plain (head.Copy xs) none = absurd (none tt)
head_plain h none = tt

stat_plain : (y : CoreStat-F CoreLink CoreStat CoreCase CoreExpr) → (StatMakes y → ⊥) → StatPlain y
stat_plain (layer.Scoped names body) none = absurd (none tt)
stat_plain y none = tt

list_plain : (xs : List CoreStat) → (ListMakes xs → ⊥) → ListPlain xs
list_plain [] none = tt
list_plain (x ∷ xs) none = stat_plain (out-CoreStat x) none

-- the frames and the callers of the end of a run
pub data HandKind (c : Completion Mark) (fs : List (Frame Mark CoreWork)) (ks : Contexts1) : Type 0 where
  hand_plain : HandPlain c fs ks → HandKind c fs ks
  hand_ends : c ≡ Done → fs ≡ [] → ks ≡ [] → HandKind c fs ks

hand_kind : (c : Completion Mark) (fs : List (Frame Mark CoreWork)) (ks : Contexts1) → (HandMakes c fs → ⊥) → HandKind c fs ks
hand_kind (Throws v) [] ks none = hand_plain tt
hand_kind (Throws v) (Catching x names handler ∷ fs) ks none = absurd (none tt)
hand_kind (Throws v) (f ∷ fs) ks none = hand_plain tt
hand_kind Done [] [] none = hand_ends refl refl refl
hand_kind Done [] (k ∷ ks) none = hand_plain tt
hand_kind Done (f ∷ fs) ks none = hand_plain tt
hand_kind (Gives v) fs ks none = hand_plain tt
hand_kind (Returns v) fs ks none = hand_plain tt
hand_kind (Jumps goes_on label) fs ks none = hand_plain tt

-- what a call does that enters no closure of the program
abbrev pub Left : CoreNext → Type 0
Left (Goes s) = ⊥
Left (Asks e follow) = ⊥
Left n = Unit {0}

pub data Kind (core : Core) (s : CoreState) (c : Control Mark) : Type 0 where
  plain : MakesNoRecord s c → Kind core s c
  at_end : AtEnd (with_control c s) → Kind core s c
  it_leaves : Left (core_step core (with_control c s)) → Kind core s c

module _ (core : Core) (s : CoreState) where
  function_kind : (c : Call) (id : ObjId) (n : ℕ) (a : Closure Own) (o : Option CoreFunction) → c.function ≡ value.Object id → (object_at s.heap id).class ≡ class.Function n → slice_get s.closures n ≡ Some a → function_at core a.function ≡ o
      → (ClosureCall core c s → ⊥) → o ≡ None
  function_kind c id n a None object is at there none = refl
  function_kind c id n a (Some f) object is at there none = absurd (none (record { closure = a; function = f; id = id; number = n; object = object; class_is = is; closure_at = at; function_is = there }))

  none_left : {A : Type 0} (o : Option A) (f : A → CoreNext) → o ≡ None → Left (with_option o s f)
  none_left o f is = subst (λ q. Left (with_option q s f)) (sym is) tt

  closure_left : (c : Call) (id : ObjId) (n : ℕ) (o : Option (Closure Own)) → c.function ≡ value.Object id → (object_at s.heap id).class ≡ class.Function n → slice_get s.closures n ≡ o → (ClosureCall core c s → ⊥)
      → Left (with_option (slice_get s.closures n) s (λ a. enter (rows core) core a c s))
  closure_left c id n None object is at none = none_left (slice_get s.closures n) (λ a. enter (rows core) core a c s) at
  closure_left c id n (Some a) object is at none =
      subst (λ q. Left (with_option q s (λ b. enter (rows core) core b c s))) (sym at) (none_left (function_at core a.function) _ (function_kind c id n a (function_at core a.function) object is at refl none))

  class_kind : (c : Call) (id : ObjId) (k : Class) → c.function ≡ value.Object id → (object_at s.heap id).class ≡ k → (ClosureCall core c s → ⊥) → IsNoClosure k ⊎ Left (call_class (rows core) core c s k)
  unfolding call_class
  class_kind c id (class.Function n) object is none = inr (closure_left c id n (slice_get s.closures n) object is refl none)
  class_kind c id k object is none = inl tt

  call_kind : (c : Call) (v : Value) → c.function ≡ v → (ClosureCall core c s → ⊥) → CallsNoClosure s.heap v ⊎ Left (call_value (rows core) core c s v)
  call_kind c (value.Object id) is none = class_kind c id (object_at s.heap id).class is refl none
  call_kind c v is none = inl tt

  calls_kind : (c : Call) → (ClosureCall core c s → ⊥) → Kind core s (Calls c)
  unfolding step
  calls_kind c none = by_kind (call_kind c c.function refl none)
    where
      by_kind : CallsNoClosure s.heap c.function ⊎ Left (call_value (rows core) core c s c.function) → Kind core s (Calls c)
      by_kind (inl away) = plain away
      by_kind (inr left) = it_leaves left

  hand_by : (c : Completion Mark) → HandKind c s.context.frames s.callers → Kind core s (Hand c)
  hand_by c (hand_plain is) = plain is
  hand_by c (hand_ends is frames callers) = at_end (record { control = ap (λ d. Hand d) is; frames = frames; callers = callers })

  pub kind_of : (c : Control Mark) → (MakesRecord core s c → ⊥) → Kind core s c
  kind_of (Begin x) none = plain (head_plain (out-CoreExpr x).head none)
  kind_of (Go c links) none = plain tt
  kind_of (Run xs) none = plain (list_plain xs none)
  kind_of (Turn site c) none = plain tt
  kind_of (Calls c) none = calls_kind c none
  kind_of (Hand c) none = hand_by c (hand_kind c s.context.frames s.callers none)

-- ---- the next body of a module

body_is : (core : Core) (s : CoreState) (b : List CoreStat) (bs : List (List CoreStat)) → s.context.frames ≡ [] → s.callers ≡ [] → s.ahead ≡ b ∷ bs
    → core_step core (with_control (Hand Done) s) ≡ Goes (with_control (Run b) (record s { ahead = bs }))
unfolding step hand
body_is core s b bs frames callers ahead =
    ap (λ fs. hand (rows core) core s Done fs) frames ∙ ap (λ ks. returned s Done ks) callers ∙ ap (λ xs. next_body s xs) ahead

run_ends : (core : Core) (s : CoreState) → s.context.frames ≡ [] → s.callers ≡ [] → s.ahead ≡ [] → core_step core (with_control (Hand Done) s) ≡ next_body s []
unfolding step hand
run_ends core s frames callers ahead =
    ap (λ fs. hand (rows core) core s Done fs) frames ∙ ap (λ ks. returned s Done ks) callers ∙ ap (λ xs. next_body s xs) ahead

-- what is left where less is ahead
less_blocked : (e m : Bool) (n n2 : ℕ) → n2 ≤ n → (if e || (m && nat_lt 0 n) then 0 else 1) ≤ (if e || (m && nat_lt 0 n2) then 0 else 1)
less_blocked true m n n2 h = omega arith
less_blocked false false n n2 h = omega arith
less_blocked false true n n2 h = by_value (nat_lt 0 n) (nat_lt 0 n2) refl refl
  where
    by_value : (b c : Bool) → nat_lt 0 n ≡ b → nat_lt 0 n2 ≡ c → (if b then 0 else 1) ≤ (if c then 0 else 1)
    by_value true c is is2 = omega arith
    by_value false true is is2 = let p : 0 < n2 = ltb-true 0 n2 is2 in let q : n ≤ 0 = ltb-false 0 n is in absurd (omega arith)
    by_value false false is is2 = omega arith

less_left : (whole : Whole) (seats : Seats) (x : Var) (n n2 : ℕ) → n2 ≤ n → (o : Option ℕ) → left_in whole seats x n o ≤ left_in whole seats x n2 o
less_left whole seats x n n2 h None = omega arith
less_left whole seats x n n2 h (Some a) = less_blocked (entered whole seats a x) (nat_lt a whole.modules) n n2 h

-- so much may a body declare that is begun
body_fits : (e m : Bool) (b n : ℕ) → m ≡ true → b + n ≤ (if m && e then 0 else 1) → b ≤ (if e || (m && nat_lt 0 n) then 0 else 1)
body_fits e false b n is h = cc
body_fits true true b n is h = omega arith
body_fits false true b n is h = by_value (nat_lt 0 n) refl
  where
    by_value : (c : Bool) → nat_lt 0 n ≡ c → b ≤ (if c then 0 else 1)
    by_value true is2 = let p : 0 < n = ltb-true 0 n is2 in omega arith
    by_value false is2 = omega arith

fewer_ahead : (m e : Bool) (b n : ℕ) → b + n ≤ (if m && e then 0 else 1) → n ≤ (if m && e then 0 else 1)
fewer_ahead m e b n h = omega arith

module _ (core : Core) (whole : Whole) (seats : Seats) (s : Config) (counts : AllCounts core whole seats s) where
  -- ---- a plain step

  plain_of : (n : CoreNext) (y : Var) (a : List (List CoreStat)) (all : (i : ℕ) → NextFits (declares y) (limit_with whole seats y (declared_in y a) i) n) → NextKeeps a n → (v : Config) → n ≡ Goes v → declared_in y a ≤ ahead_least whole seats y → CountsOf whole seats y v
  plain_of n y a all keeps v is least =
      let same : v.state.ahead ≡ a = subst (λ z. NextKeeps a z) is keeps in
      record {
        ahead = subst (λ z. declared_in y z ≤ ahead_least whole seats y) (sym same) least;
        fits = λ i. subst (λ z. AllFits (declares y) (limit_with whole seats y (declared_in y z) i) v) (sym same) (subst (λ z. NextFits (declares y) (limit_with whole seats y (declared_in y a) i) z) is (all i));
      }

  fits_plain : MakesNoRecord s.state s.control → (y : Var) → Single core y → (i : ℕ) → NextFits (declares y) (limit_with whole seats y (declared_in y s.state.ahead) i) (core_step core s)
  fits_plain is y one i =
      let n = declared_in y s.state.ahead in
      steps_fit (declares y) (limit_with whole seats y n i) (declares_measures y) (left_most whole seats y n i) core s is ((counts.names y one).fits i)

  goes_plain : MakesNoRecord s.state s.control → (v : Config) → core_step core s ≡ Goes v → AllCounts core whole seats v
  goes_plain is v step = record {
    names = λ y one. plain_of (core_step core s) y s.state.ahead (fits_plain is y one) (ahead_stays s.state.ahead core s is refl) v step (counts.names y one).ahead;
    homes = counts.homes;
  }

  asks_plain : MakesNoRecord s.state s.control → (e : Event) (follow : Reply → Config) (reply : Reply) → core_step core s ≡ Asks e follow → AllCounts core whole seats (follow reply)
  asks_plain is e follow reply step = record {
    names = λ y one. (
        let a = s.state.ahead in
        let keeps : NextKeeps a (Asks e follow) = subst (λ z. NextKeeps a z) step (ahead_stays a core s is refl) in
        let same : (follow reply).state.ahead ≡ a = keeps reply in
        record {
          ahead = subst (λ z. declared_in y z ≤ ahead_least whole seats y) (sym same) (counts.names y one).ahead;
          fits = λ i. subst (λ z. AllFits (declares y) (limit_with whole seats y (declared_in y z) i) (follow reply)) (sym same)
              (asked_fits y i (subst (λ z. NextFits (declares y) (limit_with whole seats y (declared_in y a) i) z) step (fits_plain is y one i)));
        });
    homes = counts.homes;
  }
    where
      asked_fits : (y : Var) (i : ℕ) → NextFits (declares y) (limit_with whole seats y (declared_in y s.state.ahead) i) (Asks e follow) → AllFits (declares y) (limit_with whole seats y (declared_in y s.state.ahead) i) (follow reply)
      asked_fits y i all = all reply

  -- ---- the next body

  module _ (ends : AtEnd s) (b : List CoreStat) (bs : List (List CoreStat)) (ahead : s.state.ahead ≡ b ∷ bs)
      (outer : (whole.modules ≡ 0 → activation_at whole seats s.state.context.environment ≡ None) × (0 < whole.modules → activation_at whole seats s.state.context.environment ≡ Some 0)) where
    abbrev next : Config
    next = with_control (Run b) (record s.state { ahead = bs })

    at_done : s ≡ with_control (Hand Done) s.state
    at_done = ap (λ c. with_control c s.state) ends.control

    pub body_step : core_step core s ≡ Goes next
    body_step = ap (λ z. core_step core z) at_done ∙ body_is core s.state b bs ends.frames ends.callers ahead

    body_counts : (y : Var) → Single core y → CountsOf whole seats y next
    body_counts y one =
        let n = declared_in y s.state.ahead in
        let n2 = declared_in y bs in
        let here : CountsOf whole seats y s = counts.names y one in
        let sum : n ≡ (declares y).stats b + n2 = ap (λ z. declared_in y z) ahead in
        let least : (declares y).stats b + n2 ≤ ahead_least whole seats y = subst (λ i. i ≤ ahead_least whole seats y) sum here.ahead in
        let fewer : n2 ≤ n = omega arith in
        record {
          ahead = fewer_ahead (nat_lt 0 whole.modules) (entered whole seats 0 y) ((declares y).stats b) n2 least;
          fits = λ i. (
              let lim = limit_with whole seats y n2 i in
              let uses = records_counted (declares y) lim (declares_measures y) (left_most whole seats y n2 i) in
              let more : AllFits (declares y) lim s = more_left whole (declares y) seats (left_in whole seats y n) (left_in whole seats y n2) i (less_left whole seats y n n2 fewer) s (here.fits i) in
              let done : AllFits (declares y) lim (with_control (Hand Done) s.state) = subst (λ z. AllFits (declares y) lim z) at_done more in
              subst (λ z. NextFits (declares y) lim z) (body_is core s.state b bs ends.frames ends.callers ahead)
              (uses.bodies core s.state b bs ends.frames ends.callers ahead (may_begin y n2 least) done));
        }
      where
        may_begin : (z : Var) (m : ℕ) → (declares z).stats b + m ≤ ahead_least whole seats z → (declares z).stats b ≤ left_in whole seats z m (activation_at whole seats s.state.context.environment)
        may_begin z m h = by_modules (nat_lt 0 whole.modules) refl
          where
            by_modules : (some : Bool) → nat_lt 0 whole.modules ≡ some → (declares z).stats b ≤ left_in whole seats z m (activation_at whole seats s.state.context.environment)
            by_modules true is =
                subst (λ o. (declares z).stats b ≤ left_in whole seats z m o) (sym (outer.1 (ltb-true 0 whole.modules is)))
                (body_fits (entered whole seats 0 z) (nat_lt 0 whole.modules) ((declares z).stats b) m is h)
            by_modules false is =
                let none : whole.modules ≤ 0 = ltb-false 0 whole.modules is in
                let zero_is : whole.modules ≡ 0 = omega arith in
                let one : (declares z).stats b + m ≤ 1 = subst (λ c. (declares z).stats b + m ≤ (if c && entered whole seats 0 z then 0 else 1)) is h in
                subst (λ o. (declares z).stats b ≤ left_in whole seats z m o) (sym (outer.0 zero_is)) (omega arith)

    pub next_counts : AllCounts core whole seats next
    next_counts = record { names = body_counts; homes = counts.homes }

-- ---- of a core

abbrev NoneGoes : CoreNext → Type 0
NoneGoes (Goes s) = ⊥
NoneGoes n = Unit {0}

abbrev NoneAsks : CoreNext → Type 0
NoneAsks (Asks e follow) = ⊥
NoneAsks n = Unit {0}

module _ (core : Core) (fixed : Var → Bool) (seats : Seats) (s : Config) (at : At core fixed seats s) (counts : AllCounts core (whole_of core) seats s) where
  -- the outermost context ends where bodies of modules run
  ends_here : AtEnd s → s.state.context.environment ≡ ends_of core
  ends_here ends =
      let K = standing_at core (known_of core) (ends_of core) (naming core fixed) seats (bound_in s) (Exactly (bound_in s)) in
      let frames : FramesAt K (Bottom K s.state.callers) s.state.context.environment [] = subst (λ fs. FramesAt K (Bottom K s.state.callers) s.state.context.environment fs) ends.frames at.0.0.0 in
      let out : Bottom K [] s.state.context.environment = subst (λ ks. Bottom K ks s.state.context.environment) ends.callers frames in
      out.0

  no_modules : (ps : List CorePart) → length ps ≡ 0 → activation_at (whole_of core) seats (numbers_from 0 ps) ≡ None
  no_modules [] is = refl
  no_modules (p ∷ ps) is = absurd (omega arith)

  some_modules : (ps : List CorePart) → 0 < length ps → HasHome seats 0 → nat_lt 0 (whole_of core).modules ≡ true → activation_at (whole_of core) seats (numbers_from 0 ps) ≡ Some 0
  some_modules [] less home is = absurd (omega arith)
  some_modules (p ∷ ps) less home is =
      ap (λ o. grouped_in (whole_of core) (home_in o)) home.seated ∙ ap (λ h. Some (grouped (whole_of core) h)) home.home ∙ ap (λ b. Some (if b then 0 else 0)) is

  outer_here : AtEnd s → ((whole_of core).modules ≡ 0 → activation_at (whole_of core) seats s.state.context.environment ≡ None) × (0 < (whole_of core).modules → activation_at (whole_of core) seats s.state.context.environment ≡ Some 0)
  outer_here ends =
      let is = ends_here ends in (
        λ none. ap (λ e. activation_at (whole_of core) seats e) is ∙ no_modules core.parts none,
        λ some. ap (λ e. activation_at (whole_of core) seats e) is ∙ some_modules core.parts some (counts.homes 0 some) (lt-ltb 0 (length core.parts) some),
      )

  ended : AtEnd s → s.state.ahead ≡ [] → core_step core s ≡ next_body s.state []
  ended ends none = ap (λ c. core_step core (with_control c s.state)) ends.control ∙ run_ends core s.state ends.frames ends.callers none

  -- Steps that make no record leave what is left to declare,
  pub counts_quiet : (v : Config) → core_step core s ≡ Goes v → (MakesRecord core s.state s.control → ⊥) → AllCounts core (whole_of core) seats v
  counts_quiet v step none = by_kind (kind_of core s.state s.control none)
    where
      by_ahead : AtEnd s → (a : List (List CoreStat)) → s.state.ahead ≡ a → AllCounts core (whole_of core) seats v
      by_ahead ends [] is = absurd (subst (λ z. NoneGoes z) (sym (ended ends is) ∙ step) tt)
      by_ahead ends (b ∷ bs) is =
          let there : core_step core s ≡ Goes (with_control (Run b) (record s.state { ahead = bs })) = body_step core (whole_of core) seats s counts ends b bs is (outer_here ends) in
          let same : Goes (with_control (Run b) (record s.state { ahead = bs })) ≡ Goes v = sym there ∙ step in
          let is2 : with_control (Run b) (record s.state { ahead = bs }) ≡ v = cc in
          subst (λ z. AllCounts core (whole_of core) seats z) is2 (next_counts core (whole_of core) seats s counts ends b bs is (outer_here ends))

      by_kind : Kind core s.state s.control → AllCounts core (whole_of core) seats v
      by_kind (plain is) = goes_plain core (whole_of core) seats s counts is v step
      by_kind (at_end ends) = by_ahead ends s.state.ahead refl
      by_kind (it_leaves left) = absurd (subst (λ z. Left z) step left)

  -- and so do those that ask.
  pub counts_asked : (e : Event) (follow : Reply → Config) (reply : Reply) → core_step core s ≡ Asks e follow → (MakesRecord core s.state s.control → ⊥) → AllCounts core (whole_of core) seats (follow reply)
  counts_asked e follow reply step none = by_kind (kind_of core s.state s.control none)
    where
      by_ahead : AtEnd s → (a : List (List CoreStat)) → s.state.ahead ≡ a → AllCounts core (whole_of core) seats (follow reply)
      by_ahead ends [] is = absurd (subst (λ z. NoneAsks z) (sym (ended ends is) ∙ step) tt)
      by_ahead ends (b ∷ bs) is = absurd (subst (λ z. NoneAsks z) (sym (body_step core (whole_of core) seats s counts ends b bs is (outer_here ends)) ∙ step) tt)

      by_kind : Kind core s.state s.control → AllCounts core (whole_of core) seats (follow reply)
      by_kind (plain is) = asks_plain core (whole_of core) seats s counts is e follow reply step
      by_kind (at_end ends) = by_ahead ends s.state.ahead refl
      by_kind (it_leaves left) = absurd (subst (λ z. Left z) step left)
