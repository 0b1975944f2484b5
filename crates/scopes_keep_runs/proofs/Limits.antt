-- What is left to declare where there is a record more: contexts of other activations may declare as much as before.
use Rattle.std.proofs.Common.{◌≡◌, ◌≤◌, ◌+◌, ℕ, zero, suc, Bool, true, false, ◌&&◌, ◌||◌, List, [], ◌∷◌, ◌++◌, Option, Some, length, nat_eq, slice_get, refl, sym, ap, arith, subst, ◌∙◌}
use Rattle.std.specs.Prelude.{if◌then◌else◌}
use Rattle.std.proofs.lemmas.Bool.{eq-eqb}
use Rattle.core_ast.specs.declared.parts.ScopedName.{ScopedName}
use Rattle.core_ast.specs.declared.parts.Var.{Var}
use Rattle.core_meaning.specs.Marks.{AtStart, AtYield, Completed, CoreState, Executing, Generator}
use Rattle.core_meaning.specs.State.{Environment}
use Rattle.pass_rules.specs.Cells.{is_among}
use Rattle.pass_rules.specs.Scopes.{vars}
use Rattle.cells_keep_runs.specs.Alike.{Config}
use Rattle.cells_keep_runs.specs.Counted.{AllFit, AllFits, AllGeneratorsFit, Contexts1, GeneratorFits, Limit, Measure, OthersFit, bottom, counted, generator_counted, going, in_frames, total, with_control as with_code}
use Rattle.cells_keep_runs.specs.Declares.{among_names}
use Rattle.cells_keep_runs.specs.Entering.{AllElsewhere, AllEndBelow, AllGeneratorsElsewhere, AllGeneratorsEndBelow, GeneratorElsewhere, GeneratorEndsBelow, StateEndsBelow, entered, is_this}
use Rattle.cells_keep_runs.specs.MayBeFlattened.{Whole}
use Rattle.cells_keep_runs.specs.Memory.{Seat, Seats, is_scoped}
use Rattle.cells_keep_runs.specs.Places.{Below}
use Rattle.cells_keep_runs.specs.Recounted.{AllHave}
use Rattle.cells_keep_runs.specs.Rounds.{activation_at, grouped, grouped_in}
use Rattle.cells_keep_runs.proofs.Rounds.{home_stays}
use Rattle.cells_keep_runs.proofs.Writes.{differ, one_value}
use Rattle.scopes_keep_runs.specs.Counts.{limit_by}

-- ---- contexts of other activations

pub this_is : (o : Option ℕ) (a : ℕ) → o ≡ Some a → is_this o a ≡ true
this_is o a is = ap (λ p. is_this p a) is ∙ eq-eqb a a refl

one_not : (b : Bool) → (if b then 1 else 0) ≤ 0 → b ≡ true → ⊥
one_not true h is = absurd (omega arith)
one_not false h is = differ false is refl

not_here : (o : Option ℕ) (a : ℕ) → (if is_this o a then 1 else 0) ≤ 0 → o ≡ Some a → ⊥
not_here o a none is = one_not (is_this o a) none (this_is o a is)

-- the contexts of an activation that isn't the present one
abbrev pub Elsewhere : Whole → Seats → ℕ → CoreState → Type 0
Elsewhere whole seats a st = AllElsewhere whole seats a st.callers × AllGeneratorsElsewhere whole seats a st.store.generators

module _ (whole : Whole) (seats : Seats) (left : Option ℕ → ℕ) (a : ℕ) where
  abbrev lim : Limit
  lim = limit_by whole seats left a

  all_elsewhere : (ks : Contexts1) → total (counted lim) ks ≤ 0 → AllElsewhere whole seats a ks
  all_elsewhere [] none = tt
  all_elsewhere (k ∷ ks) none =
      let c : counted lim k + total (counted lim) ks ≤ 0 = none in
      let one : (if is_this (activation_at whole seats (bottom k.environment k.frames)) a then 1 else 0) ≤ 0 = omega arith in
      (not_here (activation_at whole seats (bottom k.environment k.frames)) a one, all_elsewhere ks (omega arith))

  generator_elsewhere : (g : Generator) → generator_counted lim g ≤ 0 → GeneratorElsewhere whole seats a g
  generator_elsewhere (AtStart k) none = not_here (activation_at whole seats (bottom k.environment k.frames)) a none
  generator_elsewhere (AtYield k) none = not_here (activation_at whole seats (bottom k.environment k.frames)) a none
  generator_elsewhere Executing none = tt
  generator_elsewhere Completed none = tt

  generators_elsewhere : (gs : List Generator) → total (generator_counted lim) gs ≤ 0 → AllGeneratorsElsewhere whole seats a gs
  generators_elsewhere [] none = tt
  generators_elsewhere (g ∷ gs) none =
      let c : generator_counted lim g + total (generator_counted lim) gs ≤ 0 = none in
      (generator_elsewhere g (omega arith), generators_elsewhere gs (omega arith))

  -- Where the present context counts, all others are of other activations.
  pub others_elsewhere : (m : Measure) (n : ℕ) (st : CoreState) → 1 ≤ n → OthersFit m lim n st → Elsewhere whole seats a st
  others_elsewhere m n st one (fit, fit2, sum) =
      let all : n + (total (counted lim) st.callers + total (generator_counted lim) st.store.generators) ≤ 1 = sum in
      (all_elsewhere st.callers (omega arith), generators_elsewhere st.store.generators (omega arith))

-- ---- the same seats, where as much is left at least

module _ (whole : Whole) (m : Measure) (seats : Seats) (left left2 : Option ℕ → ℕ) (a : ℕ) (less : (o : Option ℕ) → left o ≤ left2 o) where
  abbrev lim1 : Limit
  lim1 = limit_by whole seats left a

  abbrev lim2 : Limit
  lim2 = limit_by whole seats left2 a

  fit_more : (n : ℕ) (e : Environment) → n ≤ lim1.most e → n ≤ lim2.most e
  fit_more n e fits = let h : left (activation_at whole seats e) ≤ left2 (activation_at whole seats e) = less (activation_at whole seats e) in omega arith

  contexts_more : (ks : Contexts1) → AllFit m lim1 ks → AllFit m lim2 ks
  contexts_more [] all = tt
  contexts_more (k ∷ ks) (fits, all) = (fit_more (in_frames m k.frames) (bottom k.environment k.frames) fits, contexts_more ks all)

  generator_more : (g : Generator) → GeneratorFits m lim1 g → GeneratorFits m lim2 g
  generator_more (AtStart k) fits = fit_more (in_frames m k.frames) (bottom k.environment k.frames) fits
  generator_more (AtYield k) fits = fit_more (in_frames m k.frames) (bottom k.environment k.frames) fits
  generator_more Executing fits = tt
  generator_more Completed fits = tt

  generators_more : (gs : List Generator) → AllGeneratorsFit m lim1 gs → AllGeneratorsFit m lim2 gs
  generators_more [] all = tt
  generators_more (g ∷ gs) (fits, all) = (generator_more g fits, generators_more gs all)

  same_counts : (ks : Contexts1) → total (counted lim2) ks ≡ total (counted lim1) ks
  same_counts [] = refl
  same_counts (k ∷ ks) = ap (λ n. counted lim1 k + n) (same_counts ks)

  same_count : (g : Generator) → generator_counted lim2 g ≡ generator_counted lim1 g
  same_count (AtStart k) = refl
  same_count (AtYield k) = refl
  same_count Executing = refl
  same_count Completed = refl

  same_generators : (gs : List Generator) → total (generator_counted lim2) gs ≡ total (generator_counted lim1) gs
  same_generators [] = refl
  same_generators (g ∷ gs) =
      let h : generator_counted lim2 g ≡ generator_counted lim1 g = same_count g in
      let k : total (generator_counted lim2) gs ≡ total (generator_counted lim1) gs = same_generators gs in
      omega arith

  pub more_left : (s : Config) → AllFits m lim1 s → AllFits m lim2 s
  more_left s ((fit, fit2, sum), code) =
      let st = s.state in
      let n = going s.control st.context.frames (counted lim1 st.context) in
      let all : n + (total (counted lim1) st.callers + total (generator_counted lim1) st.store.generators) ≤ 1 = sum in
      let h : total (counted lim2) st.callers ≡ total (counted lim1) st.callers = same_counts st.callers in
      let k : total (generator_counted lim2) st.store.generators ≡ total (generator_counted lim1) st.store.generators = same_generators st.store.generators in
      let all2 : n + (total (counted lim2) st.callers + total (generator_counted lim2) st.store.generators) ≤ 1 = omega arith in
      ((contexts_more st.callers fit, generators_more st.store.generators fit2, all2), fit_more (with_code m s.control (in_frames m st.context.frames)) (bottom st.context.environment st.context.frames) code)

-- ---- one record more

module _ (whole : Whole) (m : Measure) (seats : Seats) (new : Seat) (left left2 : Option ℕ → ℕ) (a : ℕ) where
  abbrev seats2 : Seats
  seats2 = seats ++ new ∷ []

  abbrev act : ℕ
  act = grouped whole new.home

  abbrev old : Limit
  old = limit_by whole seats left a

  abbrev next : Limit
  next = limit_by whole seats2 left2 a

  -- other activations have as much left
  abbrev Less : Type 0
  Less = (o : Option ℕ) → (o ≡ Some act → ⊥) → left o ≤ left2 o

  activation_stays : (e : Environment) → Below (length seats) e → activation_at whole seats2 e ≡ activation_at whole seats e
  activation_stays e below = ap (λ o. grouped_in whole o) (home_stays seats new e below)

  fits_yet : Less → (n : ℕ) (e : Environment) → Below (length seats) e → (activation_at whole seats e ≡ Some act → ⊥) → n ≤ old.most e → n ≤ next.most e
  fits_yet less n e below other fits =
      let h : left (activation_at whole seats e) ≤ left2 (activation_at whole seats e) = less (activation_at whole seats e) other in
      let k : n ≤ left2 (activation_at whole seats e) = omega arith in
      subst (λ o. n ≤ left2 o) (sym (activation_stays e below)) k

  count_stays : (e : Environment) → Below (length seats) e → next.counts e ≡ old.counts e
  count_stays e below = ap (λ o. if is_this o a then 1 else 0) (activation_stays e below)

  contexts_yet : Less → (ks : Contexts1) → AllEndBelow (length seats) ks → AllElsewhere whole seats act ks → AllFit m old ks → AllFit m next ks
  contexts_yet less [] below away all = tt
  contexts_yet less (k ∷ ks) (here, below) (other, away) (fits, all) =
      (fits_yet less (in_frames m k.frames) (bottom k.environment k.frames) here other fits, contexts_yet less ks below away all)

  generator_yet : Less → (g : Generator) → GeneratorEndsBelow (length seats) g → GeneratorElsewhere whole seats act g → GeneratorFits m old g → GeneratorFits m next g
  generator_yet less (AtStart k) below other fits = fits_yet less (in_frames m k.frames) (bottom k.environment k.frames) below other fits
  generator_yet less (AtYield k) below other fits = fits_yet less (in_frames m k.frames) (bottom k.environment k.frames) below other fits
  generator_yet less Executing below other fits = tt
  generator_yet less Completed below other fits = tt

  generators_yet : Less → (gs : List Generator) → AllGeneratorsEndBelow (length seats) gs → AllGeneratorsElsewhere whole seats act gs → AllGeneratorsFit m old gs → AllGeneratorsFit m next gs
  generators_yet less [] below away all = tt
  generators_yet less (g ∷ gs) (here, below) (other, away) (fits, all) = (generator_yet less g here other fits, generators_yet less gs below away all)

  counts_stay : (ks : Contexts1) → AllEndBelow (length seats) ks → total (counted next) ks ≡ total (counted old) ks
  counts_stay [] below = refl
  counts_stay (k ∷ ks) (here, below) =
      let h : counted next k ≡ counted old k = count_stays (bottom k.environment k.frames) here in
      let t : total (counted next) ks ≡ total (counted old) ks = counts_stay ks below in
      omega arith

  generator_stays : (g : Generator) → GeneratorEndsBelow (length seats) g → generator_counted next g ≡ generator_counted old g
  generator_stays (AtStart k) below = count_stays (bottom k.environment k.frames) below
  generator_stays (AtYield k) below = count_stays (bottom k.environment k.frames) below
  generator_stays Executing below = refl
  generator_stays Completed below = refl

  generators_stay : (gs : List Generator) → AllGeneratorsEndBelow (length seats) gs → total (generator_counted next) gs ≡ total (generator_counted old) gs
  generators_stay [] below = refl
  generators_stay (g ∷ gs) (here, below) =
      let h : generator_counted next g ≡ generator_counted old g = generator_stays g here in
      let t : total (generator_counted next) gs ≡ total (generator_counted old) gs = generators_stay gs below in
      omega arith

  -- All fits with the new record, if the present code does and all others are of other activations.
  pub one_more : Less → (s : Config) (n : ℕ) → StateEndsBelow (length seats) s.state → Elsewhere whole seats act s.state
      → with_code m s.control (in_frames m s.state.context.frames) ≤ next.most (bottom s.state.context.environment s.state.context.frames)
      → AllHave m old n s → AllFits m next s
  one_more less s n (here, callers, gens) (away, away2) code ((fit, fit2, sum), before) =
      let st = s.state in
      let g = going s.control st.context.frames (counted old st.context) in
      let h : going s.control st.context.frames (counted next st.context) ≡ g = ap (λ k. going s.control st.context.frames k) (count_stays (bottom st.context.environment st.context.frames) here) in
      let k : total (counted next) st.callers ≡ total (counted old) st.callers = counts_stay st.callers callers in
      let l : total (generator_counted next) st.store.generators ≡ total (generator_counted old) st.store.generators = generators_stay st.store.generators gens in
      let all : g + (total (counted old) st.callers + total (generator_counted old) st.store.generators) ≤ 1 = sum in
      ((contexts_yet less st.callers callers away fit, generators_yet less st.store.generators gens away2 fit2, omega arith), code)

-- ---- the records of an activation

or_none : (b c : Bool) → c ≡ false → b || c ≡ b
or_none true c h = refl
or_none false c h = h

or_assoc : (a b c : Bool) → a || (b || c) ≡ (a || b) || c
or_assoc true b c = refl
or_assoc false b c = refl

pub none_of : (whole : Whole) (seats : Seats) (a : ℕ) (x : Var) (n : ℕ) (here : Seat) → entered whole seats a x ≡ false → slice_get seats n ≡ Some here → grouped whole here.home ≡ a → is_scoped here x ≡ false
none_of whole [] a x n here none got homes = cc
none_of whole (seat ∷ seats) a x zero here none got homes =
    let same : seat ≡ here = one_value (Some seat) seat here refl got in
    let is : nat_eq (grouped whole seat.home) a ≡ true = eq-eqb (grouped whole seat.home) a (ap (λ s. grouped whole s.home) same ∙ homes) in
    ap (λ s. is_scoped s x) (sym same) ∙ first_of (nat_eq (grouped whole seat.home) a) (is_scoped seat x) (entered whole seats a x) is none
  where
    first_of : (b c d : Bool) → b ≡ true → (b && c) || d ≡ false → c ≡ false
    first_of true true d is h = absurd (differ true refl h)
    first_of true false d is h = refl
    first_of false c d is h = absurd (differ true refl (sym is))
none_of whole (seat ∷ seats) a x (suc n) here none got homes = none_of whole seats a x n here (rest_of (nat_eq (grouped whole seat.home) a && is_scoped seat x) (entered whole seats a x) none) got homes
  where
    rest_of : (b c : Bool) → b || c ≡ false → c ≡ false
    rest_of true c h = absurd (differ true refl h)
    rest_of false c h = h

pub entered_more : (whole : Whole) (seats : Seats) (new : Seat) (a : ℕ) (x : Var) → entered whole (seats ++ new ∷ []) a x ≡ entered whole seats a x || ((nat_eq (grouped whole new.home) a && is_scoped new x) || false)
entered_more whole [] new a x = refl
entered_more whole (seat ∷ seats) new a x =
    ap (λ b. (nat_eq (grouped whole seat.home) a && is_scoped seat x) || b) (entered_more whole seats new a x)
    ∙ or_assoc (nat_eq (grouped whole seat.home) a && is_scoped seat x) (entered whole seats a x) ((nat_eq (grouped whole new.home) a && is_scoped new x) || false)

-- where the new record isn't of the activation, or hasn't the name
pub entered_same : (whole : Whole) (seats : Seats) (new : Seat) (a : ℕ) (x : Var) → nat_eq (grouped whole new.home) a && is_scoped new x ≡ false → entered whole (seats ++ new ∷ []) a x ≡ entered whole seats a x
entered_same whole seats new a x none =
    entered_more whole seats new a x ∙ ap (λ b. entered whole seats a x || (b || false)) none ∙ or_none (entered whole seats a x) false refl

-- a record that has it says so
pub entered_at : (whole : Whole) (seats : Seats) (a : ℕ) (x : Var) (n : ℕ) (here : Seat) → slice_get seats n ≡ Some here → grouped whole here.home ≡ a → is_scoped here x ≡ true → entered whole seats a x ≡ true
entered_at whole seats a x n here got homes scoped = by_value (entered whole seats a x) refl
  where
    by_value : (b : Bool) → entered whole seats a x ≡ b → b ≡ true
    by_value true is = refl
    by_value false is = absurd (differ (is_scoped here x) scoped (none_of whole seats a x n here is got homes))

pub names_count : (x : Var) (names : List ScopedName) → is_among x (vars names) ≡ true → 1 ≤ among_names x names
names_count x [] among = cc
names_count x (n ∷ names) among = by_name (nat_eq n.var.0 x.0) among (λ further. names_count x names further)
  where
    by_name : (b : Bool) → b || is_among x (vars names) ≡ true → (is_among x (vars names) ≡ true → 1 ≤ among_names x names) → 1 ≤ (if b then 1 else 0) + among_names x names
    by_name true here on = omega arith
    by_name false here on = let h : 1 ≤ among_names x names = on here in omega arith
