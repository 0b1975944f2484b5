-- What comes once in its activation.
use Rattle.std.proofs.Common.{◌≡◌, ◌≤◌, ◌+◌, ℕ, zero, suc, Bool, true, false, ◌&&◌, ◌||◌, List, [], ◌∷◌, ◌++◌, Option, None, Some, length, nat_eq, slice_get, refl, sym, ap, arith, subst, ◌∙◌}
use Rattle.std.specs.Prelude.{if◌then◌else◌}
use Rattle.std.proofs.lemmas.Bool.{eq-eqb, eqb-true}
use Rattle.core_ast.specs.declared.parts.ScopedName.{ScopedName}
use Rattle.core_ast.specs.declared.parts.Var.{Var}
use Rattle.core_ast.specs.declared.tree.CoreStat.{CoreStat}
use Rattle.core_meaning.specs.Marks.{AtStart, AtYield, Completed, Executing, Generator}
use Rattle.core_meaning.specs.State.{Environment, Run}
use Rattle.pass_rules.specs.Cells.{is_among}
use Rattle.pass_rules.specs.Scopes.{vars}
use Rattle.cells_keep_runs.specs.Alike.{Config}
use Rattle.cells_keep_runs.specs.Counted.{AllFit, AllGeneratorsFit, Contexts1, GeneratorFits, Limit, bottom, counted, generator_counted, going, in_frames, total, with_control as with_code}
use Rattle.cells_keep_runs.specs.Declares.{among_names, declares}
use Rattle.cells_keep_runs.specs.Entering.{AllElsewhere, AllEndBelow, AllGeneratorsElsewhere, AllGeneratorsEndBelow, GeneratorElsewhere, GeneratorEndsBelow, NamesComeOnce, NoneCounts, NoneEntered, OnceEntered, OnceStays, OthersAreElsewhere, entered, entered_in, is_this, limit_of}
use Rattle.cells_keep_runs.specs.MayBeFlattened.{Whole}
use Rattle.cells_keep_runs.specs.Memory.{Seat, Seats, is_scoped}
use Rattle.cells_keep_runs.specs.Places.{Below}
use Rattle.cells_keep_runs.specs.Recounted.{AllHave}
use Rattle.cells_keep_runs.specs.Rounds.{activation_at, grouped, grouped_in, home_in}
use Rattle.cells_keep_runs.proofs.Rounds.{home_stays}
use Rattle.cells_keep_runs.proofs.Writes.{differ, one_value}

-- ---- the records of an activation

none_of : (whole : Whole) (seats : Seats) (a : ℕ) (x : Var) (n : ℕ) (here : Seat) → entered whole seats a x ≡ false → slice_get seats n ≡ Some here → grouped whole here.home ≡ a → is_scoped here x ≡ false
none_of whole [] a x n here none got homes = cc
none_of whole (seat ∷ seats) a x zero here none got homes =
    let same : seat ≡ here = one_value (Some seat) seat here refl got in
    let is : nat_eq (grouped whole seat.home) a ≡ true = eq-eqb (grouped whole seat.home) a (ap (λ s. grouped whole s.home) same ∙ homes) in
    ap (λ s. is_scoped s x) (sym same) ∙ first_of (nat_eq (grouped whole seat.home) a) (is_scoped seat x) (entered whole seats a x) is none
  where
    first_of : (b c d : Bool) → b ≡ true → (b && c) || d ≡ false → c ≡ false
    first_of true true d is h = absurd (differ true refl h)
    first_of true false d is h = refl
    first_of false c d is h = absurd (differ true refl (sym is))
none_of whole (seat ∷ seats) a x (suc n) here none got homes = none_of whole seats a x n here (rest_of (nat_eq (grouped whole seat.home) a && is_scoped seat x) (entered whole seats a x) none) got homes
  where
    rest_of : (b c : Bool) → b || c ≡ false → c ≡ false
    rest_of true c h = absurd (differ true refl h)
    rest_of false c h = h

or_none : (b c : Bool) → c ≡ false → b || c ≡ b
or_none true c h = refl
or_none false c h = h

or_assoc : (a b c : Bool) → a || (b || c) ≡ (a || b) || c
or_assoc true b c = refl
or_assoc false b c = refl

entered_more : (whole : Whole) (seats : Seats) (new : Seat) (a : ℕ) (x : Var) → entered whole (seats ++ new ∷ []) a x ≡ entered whole seats a x || ((nat_eq (grouped whole new.home) a && is_scoped new x) || false)
entered_more whole [] new a x = refl
entered_more whole (seat ∷ seats) new a x =
    ap (λ b. (nat_eq (grouped whole seat.home) a && is_scoped seat x) || b) (entered_more whole seats new a x)
    ∙ or_assoc (nat_eq (grouped whole seat.home) a && is_scoped seat x) (entered whole seats a x) ((nat_eq (grouped whole new.home) a && is_scoped new x) || false)

-- where the new record isn't of the activation, or hasn't the name
entered_same : (whole : Whole) (seats : Seats) (new : Seat) (a : ℕ) (x : Var) → nat_eq (grouped whole new.home) a && is_scoped new x ≡ false → entered whole (seats ++ new ∷ []) a x ≡ entered whole seats a x
entered_same whole seats new a x none =
    entered_more whole seats new a x ∙ ap (λ b. entered whole seats a x || (b || false)) none ∙ or_none (entered whole seats a x) false refl

one_more : (b : Bool) (n : ℕ) → b ≡ true → 1 ≤ (if b then 1 else 0) + n
one_more true n is = omega arith
one_more false n is = absurd (differ true refl (sym is))

names_count : (x : Var) (names : List ScopedName) → is_among x (vars names) ≡ true → 1 ≤ among_names x names
names_count x [] among = cc
names_count x (n ∷ names) among = by_name (nat_eq n.var.0 x.0) among (λ further. names_count x names further)
  where
    by_name : (b : Bool) → b || is_among x (vars names) ≡ true → (is_among x (vars names) ≡ true → 1 ≤ among_names x names) → 1 ≤ (if b then 1 else 0) + among_names x names
    by_name true here on = omega arith
    by_name false here on = let h : 1 ≤ among_names x names = on here in omega arith

-- nothing may be declared that is entered
none_left : (b : Bool) (n : ℕ) → 1 + n ≤ (if b then 0 else 1) → b ≡ false
none_left true n h = absurd (omega arith)
none_left false n h = refl

pub none_entered : NoneEntered
none_entered whole seats names s h act all x n here unshared is among got homes =
    let a = grouped whole h in
    let here_is : AllHave (declares x) (limit_of whole seats x a) (among_names x names) s = all x a unshared is in
    let count : 1 ≤ among_names x names = names_count x names among in
    let most = (limit_of whole seats x a).most (bottom s.state.context.environment s.state.context.frames) in
    let code = with_code (declares x) s.control (in_frames (declares x) s.state.context.frames) in
    let less : among_names x names + code ≤ most = here_is.1 in
    let most_is : most ≡ (if entered whole seats a x then 0 else 1) = ap (λ o. if entered_in whole seats o x then 0 else 1) act in
    let one : 1 + 0 ≤ (if entered whole seats a x then 0 else 1) = omega arith in
    none_of whole seats a x n here (none_left (entered whole seats a x) 0 one) got (ap (λ k. grouped whole k) homes)

-- ---- behind the new record

module _ (whole : Whole) (seats : Seats) (new : Seat) (x : Var) where
  abbrev seats2 : Seats
  seats2 = seats ++ new ∷ []

  abbrev act : ℕ
  act = grouped whole new.home

  activation_stays : (e : Environment) → Below (length seats) e → activation_at whole seats2 e ≡ activation_at whole seats e
  activation_stays e below = ap (λ o. grouped_in whole o) (home_stays seats new e below)

  -- a context of another activation may declare as much
  most_in : (o : Option ℕ) → is_this o act ≡ false → entered_in whole seats2 o x ≡ entered_in whole seats o x
  most_in None other = refl
  most_in (Some b) other = entered_same whole seats new b x (ap (λ c. c && is_scoped new x) (turned act b other))
    where
      turned : (p q : ℕ) → nat_eq q p ≡ false → nat_eq p q ≡ false
      turned p q is = by_same (nat_eq p q) refl
        where
          by_same : (b2 : Bool) → nat_eq p q ≡ b2 → b2 ≡ false
          by_same true e = absurd (differ (nat_eq q p) (eq-eqb q p (sym (eqb-true p q e))) is)
          by_same false e = refl

  most_same : (a : ℕ) (e : Environment) → Below (length seats) e → is_this (activation_at whole seats e) act ≡ false → (limit_of whole seats2 x a).most e ≡ (limit_of whole seats x a).most e
  most_same a e below other =
      ap (λ o. if entered_in whole seats2 o x then 0 else 1) (activation_stays e below) ∙ ap (λ b. if b then 0 else 1) (most_in (activation_at whole seats e) other)

  count_same : (a : ℕ) (e : Environment) → Below (length seats) e → (limit_of whole seats2 x a).counts e ≡ (limit_of whole seats x a).counts e
  count_same a e below = ap (λ o. if is_this o a then 1 else 0) (activation_stays e below)

  -- it counts nothing in another activation
  not_this : (b : Bool) → (if b then 1 else 0) ≤ 0 → b ≡ false
  not_this true h = absurd (omega arith)
  not_this false h = refl

  contexts_fit : (a : ℕ) (ks : Contexts1) → AllEndBelow (length seats) ks → total (counted (limit_of whole seats x act)) ks ≤ 0 → AllFit (declares x) (limit_of whole seats x a) ks → AllFit (declares x) (limit_of whole seats2 x a) ks
  contexts_fit a [] below none all = tt
  contexts_fit a (k ∷ ks) (here, below) none (fits, all) =
      let e = bottom k.environment k.frames in
      let c : counted (limit_of whole seats x act) k + total (counted (limit_of whole seats x act)) ks ≤ 0 = none in
      let one : (if is_this (activation_at whole seats e) act then 1 else 0) ≤ 0 = omega arith in
      (subst (λ n. in_frames (declares x) k.frames ≤ n) (sym (most_same a e here (not_this (is_this (activation_at whole seats e) act) one))) fits, contexts_fit a ks below (omega arith) all)

  generator_fits : (a : ℕ) (g : Generator) → GeneratorEndsBelow (length seats) g → generator_counted (limit_of whole seats x act) g ≤ 0 → GeneratorFits (declares x) (limit_of whole seats x a) g → GeneratorFits (declares x) (limit_of whole seats2 x a) g
  generator_fits a (AtStart k) below none fits =
      let e = bottom k.environment k.frames in
      subst (λ n. in_frames (declares x) k.frames ≤ n) (sym (most_same a e below (not_this (is_this (activation_at whole seats e) act) none))) fits
  generator_fits a (AtYield k) below none fits =
      let e = bottom k.environment k.frames in
      subst (λ n. in_frames (declares x) k.frames ≤ n) (sym (most_same a e below (not_this (is_this (activation_at whole seats e) act) none))) fits
  generator_fits a Executing below none fits = tt
  generator_fits a Completed below none fits = tt

  generators_fit : (a : ℕ) (gs : List Generator) → AllGeneratorsEndBelow (length seats) gs → total (generator_counted (limit_of whole seats x act)) gs ≤ 0 → AllGeneratorsFit (declares x) (limit_of whole seats x a) gs
      → AllGeneratorsFit (declares x) (limit_of whole seats2 x a) gs
  generators_fit a [] below none all = tt
  generators_fit a (g ∷ gs) (here, below) none (fits, all) =
      let c : generator_counted (limit_of whole seats x act) g + total (generator_counted (limit_of whole seats x act)) gs ≤ 0 = none in
      (generator_fits a g here (omega arith) fits, generators_fit a gs below (omega arith) all)

  counts_same : (a : ℕ) (ks : Contexts1) → AllEndBelow (length seats) ks → total (counted (limit_of whole seats2 x a)) ks ≡ total (counted (limit_of whole seats x a)) ks
  counts_same a [] below = refl
  counts_same a (k ∷ ks) (here, below) =
      let h : counted (limit_of whole seats2 x a) k ≡ counted (limit_of whole seats x a) k = count_same a (bottom k.environment k.frames) here in
      let t : total (counted (limit_of whole seats2 x a)) ks ≡ total (counted (limit_of whole seats x a)) ks = counts_same a ks below in
      omega arith

  generator_same : (a : ℕ) (g : Generator) → GeneratorEndsBelow (length seats) g → generator_counted (limit_of whole seats2 x a) g ≡ generator_counted (limit_of whole seats x a) g
  generator_same a (AtStart k) below = count_same a (bottom k.environment k.frames) below
  generator_same a (AtYield k) below = count_same a (bottom k.environment k.frames) below
  generator_same a Executing below = refl
  generator_same a Completed below = refl

  generators_same : (a : ℕ) (gs : List Generator) → AllGeneratorsEndBelow (length seats) gs → total (generator_counted (limit_of whole seats2 x a)) gs ≡ total (generator_counted (limit_of whole seats x a)) gs
  generators_same a [] below = refl
  generators_same a (g ∷ gs) (here, below) =
      let h : generator_counted (limit_of whole seats2 x a) g ≡ generator_counted (limit_of whole seats x a) g = generator_same a g here in
      let t : total (generator_counted (limit_of whole seats2 x a)) gs ≡ total (generator_counted (limit_of whole seats x a)) gs = generators_same a gs below in
      omega arith

  -- ---- where the new record hasn't the name

  module _ (away : is_scoped new x ≡ false) where
    and_none : (b : Bool) → b && is_scoped new x ≡ false
    and_none true = away
    and_none false = refl

    same_in : (o : Option ℕ) → entered_in whole seats2 o x ≡ entered_in whole seats o x
    same_in None = refl
    same_in (Some b) = entered_same whole seats new b x (and_none (nat_eq (grouped whole new.home) b))

    most_stays : (a : ℕ) (e : Environment) → Below (length seats) e → (limit_of whole seats2 x a).most e ≡ (limit_of whole seats x a).most e
    most_stays a e below = ap (λ o. if entered_in whole seats2 o x then 0 else 1) (activation_stays e below) ∙ ap (λ b. if b then 0 else 1) (same_in (activation_at whole seats e))

    contexts_stay : (a : ℕ) (ks : Contexts1) → AllEndBelow (length seats) ks → AllFit (declares x) (limit_of whole seats x a) ks → AllFit (declares x) (limit_of whole seats2 x a) ks
    contexts_stay a [] below all = tt
    contexts_stay a (k ∷ ks) (here, below) (fits, all) =
        (subst (λ n. in_frames (declares x) k.frames ≤ n) (sym (most_stays a (bottom k.environment k.frames) here)) fits, contexts_stay a ks below all)

    generator_stays : (a : ℕ) (g : Generator) → GeneratorEndsBelow (length seats) g → GeneratorFits (declares x) (limit_of whole seats x a) g → GeneratorFits (declares x) (limit_of whole seats2 x a) g
    generator_stays a (AtStart k) below fits = subst (λ n. in_frames (declares x) k.frames ≤ n) (sym (most_stays a (bottom k.environment k.frames) below)) fits
    generator_stays a (AtYield k) below fits = subst (λ n. in_frames (declares x) k.frames ≤ n) (sym (most_stays a (bottom k.environment k.frames) below)) fits
    generator_stays a Executing below fits = tt
    generator_stays a Completed below fits = tt

    generators_stay : (a : ℕ) (gs : List Generator) → AllGeneratorsEndBelow (length seats) gs → AllGeneratorsFit (declares x) (limit_of whole seats x a) gs → AllGeneratorsFit (declares x) (limit_of whole seats2 x a) gs
    generators_stay a [] below all = tt
    generators_stay a (g ∷ gs) (here, below) (fits, all) = (generator_stays a g here fits, generators_stay a gs below all)

  -- ---- the present context

  most_here : (n w : ℕ) (e2 : Bool) (scoped : Bool) → is_scoped new x ≡ scoped → (scoped ≡ true → 1 ≤ n) → n + w ≤ (if e2 then 0 else 1) → w ≤ (if e2 || ((true && scoped) || false) then 0 else 1)
  most_here n w true scoped is some h = omega arith
  most_here n w false true is some h = let k : 1 ≤ n = some refl in omega arith
  most_here n w false false is some h = omega arith

  -- a context that returns counts no more
  going_by : (c : Config) (n m : ℕ) → n ≡ m → going c.control c.state.context.frames n ≡ going c.control c.state.context.frames m
  going_by c n m is = ap (λ k. going c.control c.state.context.frames k) is

running : (s : Config) (stats : List CoreStat) (n : ℕ) → s.control ≡ Run stats → going s.control s.state.context.frames n ≡ n
running s stats n is = ap (λ c. going c s.state.context.frames n) is

pub once_entered : OnceEntered
once_entered whole seats new names s stats runs named act_is (here, callers, gens) all x a unshared is =
    let st = s.state in
    let e = bottom st.context.environment st.context.frames in
    let act1 = grouped whole new.home in
    let seats3 : Seats = seats ++ new ∷ [] in
    let lim : Limit = limit_of whole seats x a in
    let lim1 : Limit = limit_of whole seats x act1 in
    let lim2 : Limit = limit_of whole seats3 x a in
    let now : AllHave (declares x) lim (among_names x names) s = all x a unshared is in
    let of_act : AllHave (declares x) lim1 (among_names x names) s = all x act1 unshared is in
    -- the present context is of the new record's activation, so that no other is
    let mine : counted lim1 st.context ≡ 1 = ap (λ o. if is_this o act1 then 1 else 0) act_is ∙ ap (λ b. if b then 1 else 0) (eq-eqb act1 act1 refl) in
    let going1 : going s.control st.context.frames (counted lim1 st.context) ≡ counted lim1 st.context = running s stats (counted lim1 st.context) runs in
    let sum1 : going s.control st.context.frames (counted lim1 st.context) + (total (counted lim1) st.callers + total (generator_counted lim1) st.store.generators) ≤ 1 = of_act.0.2 in
    let no_callers : total (counted lim1) st.callers ≤ 0 = omega arith in
    let no_gens : total (generator_counted lim1) st.store.generators ≤ 0 = omega arith in
    -- as many of each activation
    let going2 : going s.control st.context.frames (counted lim2 st.context) ≡ going s.control st.context.frames (counted lim st.context) =
    ap (λ n. going s.control st.context.frames n) (count_same whole seats new x a e here) in
    let callers2 : total (counted lim2) st.callers ≡ total (counted lim) st.callers = counts_same whole seats new x a st.callers callers in
    let gens2 : total (generator_counted lim2) st.store.generators ≡ total (generator_counted lim) st.store.generators = generators_same whole seats new x a st.store.generators gens in
    let sum : going s.control st.context.frames (counted lim st.context) + (total (counted lim) st.callers + total (generator_counted lim) st.store.generators) ≤ 1 = now.0.2 in
    -- what the present context may declare
    let code = with_code (declares x) s.control (in_frames (declares x) st.context.frames) in
    let most1 : lim.most e ≡ (if entered whole seats act1 x then 0 else 1) = ap (λ o. if entered_in whole seats o x then 0 else 1) act_is in
    let most2 : lim2.most e ≡ (if entered whole seats act1 x || ((true && is_scoped new x) || false) then 0 else 1) =
    ap (λ o. if entered_in whole seats3 o x then 0 else 1) (activation_stays whole seats new x e here ∙ act_is)
    ∙ ap (λ b. if b then 0 else 1) (entered_more whole seats new act1 x ∙ ap (λ b. entered whole seats act1 x || ((b && is_scoped new x) || false)) (eq-eqb act1 act1 refl)) in
    let some : is_scoped new x ≡ true → 1 ≤ among_names x names = λ scoped. names_count x names (ap (λ ys. is_among x ys) (sym named) ∙ scoped) in
    let before : among_names x names + code ≤ (if entered whole seats act1 x then 0 else 1) = subst (λ n. among_names x names + code ≤ n) most1 now.1 in
    let after : code ≤ (if entered whole seats act1 x || ((true && is_scoped new x) || false) then 0 else 1) =
    most_here whole seats new x (among_names x names) code (entered whole seats act1 x) (is_scoped new x) refl some before in
    ((contexts_fit whole seats new x a st.callers callers no_callers now.0.0, generators_fit whole seats new x a st.store.generators gens no_gens now.0.1, omega arith), subst (λ n. code ≤ n) (sym most2) after)

-- ---- where the new record has no such name

once_stays : OnceStays
once_stays whole seats new x a s away (here, callers, gens) ((fit, fit2, sum), code) =
    let st = s.state in
    let e = bottom st.context.environment st.context.frames in
    let lim : Limit = limit_of whole seats x a in
    let lim2 : Limit = limit_of whole (seats ++ new ∷ []) x a in
    let going2 : going s.control st.context.frames (counted lim2 st.context) ≡ going s.control st.context.frames (counted lim st.context) =
    ap (λ n. going s.control st.context.frames n) (count_same whole seats new x a e here) in
    let callers2 : total (counted lim2) st.callers ≡ total (counted lim) st.callers = counts_same whole seats new x a st.callers callers in
    let gens2 : total (generator_counted lim2) st.store.generators ≡ total (generator_counted lim) st.store.generators = generators_same whole seats new x a st.store.generators gens in
    let sum1 : going s.control st.context.frames (counted lim st.context) + (total (counted lim) st.callers + total (generator_counted lim) st.store.generators) ≤ 1 = sum in (
      (contexts_stay whole seats new x away a st.callers callers fit, generators_stay whole seats new x away a st.store.generators gens fit2, omega arith),
      subst (λ n. with_code (declares x) s.control (in_frames (declares x) st.context.frames) ≤ n) (sym (most_stays whole seats new x away a e here)) code,
    )

-- ---- contexts of other activations

this_is : (o : Option ℕ) (a : ℕ) → o ≡ Some a → is_this o a ≡ true
this_is o a is = ap (λ p. is_this p a) is ∙ eq-eqb a a refl

one_not : (b : Bool) → (if b then 1 else 0) ≤ 0 → b ≡ true → ⊥
one_not true h is = absurd (omega arith)
one_not false h is = differ false is refl

not_here : (o : Option ℕ) (a : ℕ) → (if is_this o a then 1 else 0) ≤ 0 → o ≡ Some a → ⊥
not_here o a none is = one_not (is_this o a) none (this_is o a is)

all_elsewhere : (whole : Whole) (seats : Seats) (x : Var) (a : ℕ) (ks : Contexts1) → total (counted (limit_of whole seats x a)) ks ≤ 0 → AllElsewhere whole seats a ks
all_elsewhere whole seats x a [] none = tt
all_elsewhere whole seats x a (k ∷ ks) none =
    let c : counted (limit_of whole seats x a) k + total (counted (limit_of whole seats x a)) ks ≤ 0 = none in
    let one : (if is_this (activation_at whole seats (bottom k.environment k.frames)) a then 1 else 0) ≤ 0 = omega arith in
    (not_here (activation_at whole seats (bottom k.environment k.frames)) a one, all_elsewhere whole seats x a ks (omega arith))

generator_elsewhere : (whole : Whole) (seats : Seats) (x : Var) (a : ℕ) (g : Generator) → generator_counted (limit_of whole seats x a) g ≤ 0 → GeneratorElsewhere whole seats a g
generator_elsewhere whole seats x a (AtStart k) none = not_here (activation_at whole seats (bottom k.environment k.frames)) a none
generator_elsewhere whole seats x a (AtYield k) none = not_here (activation_at whole seats (bottom k.environment k.frames)) a none
generator_elsewhere whole seats x a Executing none = tt
generator_elsewhere whole seats x a Completed none = tt

generators_elsewhere : (whole : Whole) (seats : Seats) (x : Var) (a : ℕ) (gs : List Generator) → total (generator_counted (limit_of whole seats x a)) gs ≤ 0 → AllGeneratorsElsewhere whole seats a gs
generators_elsewhere whole seats x a [] none = tt
generators_elsewhere whole seats x a (g ∷ gs) none =
    let c : generator_counted (limit_of whole seats x a) g + total (generator_counted (limit_of whole seats x a)) gs ≤ 0 = none in
    (generator_elsewhere whole seats x a g (omega arith), generators_elsewhere whole seats x a gs (omega arith))

others_elsewhere : OthersAreElsewhere
others_elsewhere whole seats x a st act (fit, fit2, sum) =
    let mine : counted (limit_of whole seats x a) st.context ≡ 1 = ap (λ b. if b then 1 else 0) (this_is (activation_at whole seats (bottom st.context.environment st.context.frames)) a act) in
    let sum1 : counted (limit_of whole seats x a) st.context + (total (counted (limit_of whole seats x a)) st.callers + total (generator_counted (limit_of whole seats x a)) st.store.generators) ≤ 1 = sum in
    (all_elsewhere whole seats x a st.callers (omega arith), generators_elsewhere whole seats x a st.store.generators (omega arith))

-- an activation of which no record is
none_here : (whole : Whole) (seats : Seats) (a : ℕ) → ((n : ℕ) (here : Seat) → slice_get seats n ≡ Some here → grouped whole here.home ≡ a → ⊥) → (e : Environment) → is_this (activation_at whole seats e) a ≡ false
none_here whole seats a away [] = refl
none_here whole seats a away (n ∷ e) = by_seat (slice_get seats n) refl
  where
    by_home : (here : Seat) → slice_get seats n ≡ Some here → (b : Bool) → nat_eq (grouped whole here.home) a ≡ b → b ≡ false
    by_home here got false is = refl
    by_home here got true is = absurd (away n here got (eqb-true (grouped whole here.home) a is))

    by_seat : (o : Option Seat) → slice_get seats n ≡ o → is_this (grouped_in whole (home_in o)) a ≡ false
    by_seat None got = refl
    by_seat (Some here) got = by_home here got (nat_eq (grouped whole here.home) a) refl

counts_none : (whole : Whole) (seats : Seats) (x : Var) (a : ℕ) (away : (n : ℕ) (here : Seat) → slice_get seats n ≡ Some here → grouped whole here.home ≡ a → ⊥) (ks : Contexts1) → total (counted (limit_of whole seats x a)) ks ≡ 0
counts_none whole seats x a away [] = refl
counts_none whole seats x a away (k ∷ ks) =
    let h : counted (limit_of whole seats x a) k ≡ 0 = ap (λ b. if b then 1 else 0) (none_here whole seats a away (bottom k.environment k.frames)) in
    let t : total (counted (limit_of whole seats x a)) ks ≡ 0 = counts_none whole seats x a away ks in
    omega arith

generator_none : (whole : Whole) (seats : Seats) (x : Var) (a : ℕ) (away : (n : ℕ) (here : Seat) → slice_get seats n ≡ Some here → grouped whole here.home ≡ a → ⊥) (g : Generator) → generator_counted (limit_of whole seats x a) g ≡ 0
generator_none whole seats x a away (AtStart k) = ap (λ b. if b then 1 else 0) (none_here whole seats a away (bottom k.environment k.frames))
generator_none whole seats x a away (AtYield k) = ap (λ b. if b then 1 else 0) (none_here whole seats a away (bottom k.environment k.frames))
generator_none whole seats x a away Executing = refl
generator_none whole seats x a away Completed = refl

generators_none : (whole : Whole) (seats : Seats) (x : Var) (a : ℕ) (away : (n : ℕ) (here : Seat) → slice_get seats n ≡ Some here → grouped whole here.home ≡ a → ⊥) (gs : List Generator)
    → total (generator_counted (limit_of whole seats x a)) gs ≡ 0
generators_none whole seats x a away [] = refl
generators_none whole seats x a away (g ∷ gs) =
    let h : generator_counted (limit_of whole seats x a) g ≡ 0 = generator_none whole seats x a away g in
    let t : total (generator_counted (limit_of whole seats x a)) gs ≡ 0 = generators_none whole seats x a away gs in
    omega arith

none_counts : NoneCounts
none_counts whole seats x a ks gs away = (counts_none whole seats x a away ks, generators_none whole seats x a away gs)

pub names_once : NamesComeOnce
names_once = record { none = none_entered; entered = once_entered; stays = once_stays; elsewhere = others_elsewhere; counts = none_counts }
