-- Behind a scope or a handler that is entered: what is left to declare is right with the new record, no record of its activation has a name of it that
-- is declared once, and all other contexts are of other activations.
use Rattle.std.proofs.Common.{◌≡◌, ◌≤◌, ◌+◌, ℕ, Bool, true, false, ◌&&◌, ◌||◌, List, [], ◌∷◌, ◌++◌, Option, None, Some, length, nat_eq, nat_lt, slice_get, refl, sym, ap, arith, subst, ◌∙◌}
use Rattle.std.specs.Prelude.{if◌then◌else◌}
use Rattle.std.proofs.lemmas.Bool.{and_parts, eq-eqb, eqb-true, ltb-false}
use Rattle.core_ast.specs.declared.parts.ScopedName.{ScopedName}
use Rattle.core_ast.specs.declared.parts.Var.{Var}
use Rattle.core_ast.specs.declared.tree.CoreStat.{CoreStat}
use Rattle.core_meaning.specs.State.{Environment, Run}
use Rattle.pass_rules.specs.Cells.{is_among}
use Rattle.pass_rules.specs.Scopes.{vars}
use Rattle.cells_keep_runs.specs.Alike.{Config}
use Rattle.cells_keep_runs.specs.Counted.{AllFits, Limit, bottom, counted, going, in_frames, with_control as with_code}
use Rattle.cells_keep_runs.specs.Declares.{among_names, declares}
use Rattle.cells_keep_runs.specs.Entering.{StateEndsBelow, entered, is_this}
use Rattle.cells_keep_runs.specs.MayBeFlattened.{Whole}
use Rattle.cells_keep_runs.specs.Memory.{Seat, Seats, is_scoped}
use Rattle.cells_keep_runs.specs.Recounted.{AllHave}
use Rattle.cells_keep_runs.specs.Rounds.{activation_at, grouped, grouped_in}
use Rattle.cells_keep_runs.proofs.Rounds.{home_stays}
use Rattle.cells_keep_runs.proofs.Writes.{differ}
use Rattle.scopes_keep_runs.specs.Counts.{ahead_least, is_blocked, left_in, limit_with}
use Rattle.scopes_keep_runs.proofs.Limits.{Elsewhere, entered_more, entered_same, names_count, none_of, one_more, others_elsewhere}

-- ---- choices

unblocked : (b : Bool) (n w : ℕ) → 1 ≤ n → n + w ≤ (if b then 0 else 1) → b ≡ false
unblocked true n w one h = absurd (omega arith)
unblocked false n w one h = refl

pub or_first : (a b : Bool) → a || b ≡ false → a ≡ false
or_first true b h = absurd (differ true refl h)
or_first false b h = refl

pub or_second : (a b : Bool) → a || b ≡ false → b ≡ false
or_second true b h = absurd (differ true refl h)
or_second false b h = h

code_now : (k w : ℕ) (e s m : Bool) → (s ≡ true → 1 ≤ k) → k + w ≤ (if e || m then 0 else 1) → w ≤ (if (e || ((true && s) || false)) || m then 0 else 1)
code_now k w true s m some h = omega arith
code_now k w false true true some h = omega arith
code_now k w false true false some h = let one : 1 ≤ k = some refl in omega arith
code_now k w false false true some h = omega arith
code_now k w false false false some h = omega arith

least_now : (m e e2 : Bool) (n : ℕ) → n ≤ (if m && e then 0 else 1) → (m ≡ true → n ≤ 0) → n ≤ (if m && e2 then 0 else 1)
least_now true e e2 n h none = let z : n ≤ 0 = none refl in by_value e2 z
  where
    by_value : (b : Bool) → n ≤ 0 → n ≤ (if true && b then 0 else 1)
    by_value true z = z
    by_value false z = omega arith
least_now false e e2 n h none = h

second_true : (m e : Bool) → m && e ≡ false → m ≡ true → e ≡ false
second_true true e h is = h
second_true false e h is = cc

-- ---- of a name

module _ (whole : Whole) (seats : Seats) (new : Seat) (names : List ScopedName) (v : Config) (stats : List CoreStat) (runs : v.control ≡ Run stats) (named : new.scoped ≡ vars names)
    (act_is : activation_at whole seats (bottom v.state.context.environment v.state.context.frames) ≡ Some (grouped whole new.home)) (ends : StateEndsBelow (length seats) v.state)
    (x : Var) (n : ℕ) (has : (a : ℕ) → AllHave (declares x) (limit_with whole seats x n a) (among_names x names) v) where
  abbrev act : ℕ
  act = grouped whole new.home

  abbrev seats2 : Seats
  seats2 = seats ++ new ∷ []

  abbrev end_of : Environment
  end_of = bottom v.state.context.environment v.state.context.frames

  abbrev lim : Limit
  lim = limit_with whole seats x n act

  abbrev code : ℕ
  code = with_code (declares x) v.control (in_frames (declares x) v.state.context.frames)

  running : (i : ℕ) → going v.control v.state.context.frames i ≡ i
  running i = ap (λ c. going c v.state.context.frames i) runs

  pub elsewhere : Elsewhere whole seats act v.state
  elsewhere =
      let mine : counted lim v.state.context ≡ 1 = ap (λ o. if is_this o act then 1 else 0) act_is ∙ ap (λ b. if b then 1 else 0) (eq-eqb act act refl) in
      let same : going v.control v.state.context.frames (counted lim v.state.context) ≡ counted lim v.state.context = running (counted lim v.state.context) in
      let least : 1 ≤ going v.control v.state.context.frames (counted lim v.state.context) = omega arith in
      others_elsewhere whole seats (left_in whole seats x n) act (declares x) (going v.control v.state.context.frames (counted lim v.state.context)) v.state least (has act).0

  before : among_names x names + code ≤ (if is_blocked whole seats x n act then 0 else 1)
  before = subst (λ o. among_names x names + code ≤ left_in whole seats x n o) act_is (has act).1

  free : is_among x (vars names) ≡ true → is_blocked whole seats x n act ≡ false
  free among = unblocked (is_blocked whole seats x n act) (among_names x names) code (names_count x names among) before

  -- no record of the same home has the name
  pub none_before : is_among x (vars names) ≡ true → (i : ℕ) (here : Seat) → slice_get seats i ≡ Some here → new.home ≡ here.home → is_scoped here x ≡ false
  none_before among i here got home =
      none_of whole seats act x i here (or_first (entered whole seats act x) (nat_lt act whole.modules && nat_lt 0 n) (free among)) got (ap (λ h. grouped whole h) (sym home))

  -- ---- with the new record

  differs : (b : ℕ) → (Some b ≡ Some act → ⊥) → nat_eq act b ≡ false
  differs b other = by_same (nat_eq act b) refl
    where
      by_same : (c : Bool) → nat_eq act b ≡ c → c ≡ false
      by_same true is = absurd (other (ap (λ i. Some i) (sym (eqb-true act b is))))
      by_same false is = refl

  blocked_same : (b : ℕ) → (Some b ≡ Some act → ⊥) → is_blocked whole seats2 x n b ≡ is_blocked whole seats x n b
  blocked_same b other = ap (λ e. e || (nat_lt b whole.modules && nat_lt 0 n)) (entered_same whole seats new b x (ap (λ c. c && is_scoped new x) (differs b other)))

  less : (o : Option ℕ) → (o ≡ Some act → ⊥) → left_in whole seats x n o ≤ left_in whole seats2 x n o
  less None other = omega arith
  less (Some b) other = let same : left_in whole seats2 x n (Some b) ≡ left_in whole seats x n (Some b) = ap (λ c. if c then 0 else 1) (blocked_same b other) in omega arith

  blocked_now : is_blocked whole seats2 x n act ≡ (entered whole seats act x || ((true && is_scoped new x) || false)) || (nat_lt act whole.modules && nat_lt 0 n)
  blocked_now =
      ap (λ e. e || (nat_lt act whole.modules && nat_lt 0 n))
      (entered_more whole seats new act x ∙ ap (λ b. entered whole seats act x || ((b && is_scoped new x) || false)) (eq-eqb act act refl))

  some : is_scoped new x ≡ true → 1 ≤ among_names x names
  some scoped = names_count x names (ap (λ ys. is_among x ys) (sym named) ∙ scoped)

  now : (a : ℕ) → code ≤ (limit_with whole seats2 x n a).most end_of
  now a =
      let here : activation_at whole seats2 end_of ≡ Some act = ap (λ o. grouped_in whole o) (home_stays seats new end_of ends.0) ∙ act_is in
      let most : (limit_with whole seats2 x n a).most end_of ≡ (if (entered whole seats act x || ((true && is_scoped new x) || false)) || (nat_lt act whole.modules && nat_lt 0 n) then 0 else 1) =
      ap (λ o. left_in whole seats2 x n o) here ∙ ap (λ c. if c then 0 else 1) blocked_now in
      subst (λ i. code ≤ i) (sym most) (code_now (among_names x names) code (entered whole seats act x) (is_scoped new x) (nat_lt act whole.modules && nat_lt 0 n) some before)

  pub fits_entered : (a : ℕ) → AllFits (declares x) (limit_with whole seats2 x n a) v
  fits_entered a = one_more whole (declares x) seats new (left_in whole seats x n) (left_in whole seats2 x n) a less v (among_names x names) ends elsewhere (now a) (has a)

  pub ahead_entered : n ≤ ahead_least whole seats x → n ≤ ahead_least whole seats2 x
  ahead_entered h = by_value (nat_eq act 0 && is_scoped new x) refl
    where
      none : nat_eq act 0 && is_scoped new x ≡ true → nat_lt 0 whole.modules ≡ true → n ≤ 0
      none is some_module =
          let both = and_parts (nat_eq act 0) (is_scoped new x) is in
          let unblocked_here : is_blocked whole seats x n act ≡ false = free (ap (λ ys. is_among x ys) (sym named) ∙ both.1) in
          let last : nat_lt act whole.modules && nat_lt 0 n ≡ false = or_second (entered whole seats act x) (nat_lt act whole.modules && nat_lt 0 n) unblocked_here in
          let at_zero : nat_lt 0 whole.modules && nat_lt 0 n ≡ false = subst (λ i. nat_lt i whole.modules && nat_lt 0 n ≡ false) (eqb-true act 0 both.0) last in
          ltb-false 0 n (second_true (nat_lt 0 whole.modules) (nat_lt 0 n) at_zero some_module)

      by_value : (b : Bool) → nat_eq act 0 && is_scoped new x ≡ b → n ≤ ahead_least whole seats2 x
      by_value true is = least_now (nat_lt 0 whole.modules) (entered whole seats 0 x) (entered whole seats2 0 x) n h (none is)
      by_value false is = subst (λ e. n ≤ (if nat_lt 0 whole.modules && e then 0 else 1)) (sym (entered_same whole seats new 0 x is)) h
