use Rattle.std.proofs.Common.{◌≡◌, ◌≤◌, ◌+◌, ◌-◌, ◌∙◌, ℕ, List, Option, None, Some, take, drop, length, sym, ap, subst, w64, arith, length-drop}
use Rattle.std.proofs.lemmas.Int.{to_z_pos}
use Rattle.std.proofs.lemmas.List.{take_rest, drop-drop, length-take}
use Rattle.memchr.specs.Find.{FindsNeedle}
use Rattle.es_sequence_functions.specs.Strings.{search_from}
use Rattle.es_sequence_functions.proofs.SearchLemmas.{search_from-front, search_from-on, search_from-whole, search_from-nowhere}
use Rattle.es_sequence_functions.proofs.search.index_in.Goals as goal

-- what was found in a stretch of what is left
stretch_of : (us s : List ℕ) (from stretch : ℕ) (found r : Option ℕ) → found ≡ r → FindsNeedle (take (from + stretch - from) (drop from us)) s 0 found → FindsNeedle (take stretch (drop from us)) s 0 r
stretch_of us s from stretch found r e h =
    let n : from + stretch - from ≡ stretch = omega arith in
    subst (λ (m : ℕ). FindsNeedle (take m (drop from us)) s 0 r) n (subst (λ (o : Option ℕ). FindsNeedle (take (from + stretch - from) (drop from us)) s 0 o) e h)

-- and in all of it
rest_of : (us s : List ℕ) (from : ℕ) (found r : Option ℕ) → found ≡ r → FindsNeedle (take (length us - from) (drop from us)) s 0 found → FindsNeedle (drop from us) s 0 r
rest_of us s from found r e h =
    subst (λ (l : List ℕ). FindsNeedle l s 0 r) (take_rest us from) (subst (λ (o : Option ℕ). FindsNeedle (take (length us - from) (drop from us)) s 0 o) e h)

pub returns-in-Some : goal.returns-in-Some
returns-in-Some c =
    let rest = drop c.loop.from c.args.units.now in
    let left = length-drop c.loop.from c.args.units.now in
    let front = stretch_of c.args.units.now c.args.search.now c.loop.from c.loop.stretch _ (Some c.in-Some.at) c.in-Some.is c.in_ok-at.ensures in
    let short : c.loop.stretch ≤ length rest = omega (arith, left, c.if-stretch-units.false) in
    let fits = front.1.fits in
    let part = length-take c.loop.stretch rest in
    to_z_pos w64 _ (omega (arith, fits, part, left))
    ∙ sym (search_from-front c.loop.from c.loop.stretch c.in-Some.at rest c.args.search.now short front) ∙ c.loop.invariant.on

pub loop-preserved : goal.loop-preserved
loop-preserved c =
    let rest = drop c.loop.from c.args.units.now in
    let left = length-drop c.loop.from c.args.units.now in
    let step = c.loop.stretch - length c.args.search.now in
    let nowhere = stretch_of c.args.units.now c.args.search.now c.loop.from c.loop.stretch _ None c.in_default.is c.in_ok-at.ensures in
    let short : c.loop.stretch ≤ length rest = omega (arith, left, c.if-stretch-units.false) in
    record {
      within = omega (arith, c.if-stretch-units.false);
      on = ap (λ (l : List ℕ). search_from (c.loop.from + step) l c.args.search.now) (sym (drop-drop step c.loop.from c.args.units.now))
          ∙ sym (search_from-on c.loop.from c.loop.stretch step rest c.args.search.now short (omega (arith, c.if-search-stretch.false)) nowhere) ∙ c.loop.invariant.on;
    }

pub returns-in-None : goal.returns-in-None
returns-in-None c =
    let nowhere = rest_of c.args.units.now c.args.search.now c.loop.from _ None c.in-None.is c.in_ok-find.ensures in
    sym (search_from-nowhere c.loop.from (drop c.loop.from c.args.units.now) c.args.search.now nowhere) ∙ c.loop.invariant.on

pub returns-in-Some-2 : goal.returns-in-Some-2
returns-in-Some-2 c =
    let rest = drop c.loop.from c.args.units.now in
    let left = length-drop c.loop.from c.args.units.now in
    let found = rest_of c.args.units.now c.args.search.now c.loop.from _ (Some c.in-Some-2.at) c.in-Some-2.is c.in_ok-find.ensures in
    let fits = found.1.fits in
    to_z_pos w64 _ (omega (arith, fits, left))
    ∙ sym (search_from-whole c.loop.from c.in-Some-2.at rest c.args.search.now found) ∙ c.loop.invariant.on
