-- The relation of a run that inserts semicolons to one over the filled tokens, at each choice.
use Rattle.std.proofs.Common.{◌≡◌, ℕ, zero, Bool, true, false, List, [], ◌∷◌, ◌++◌, Option, Some, None, refl, sym, ap, subst, ◌∙◌}
use Rattle.std.proofs.lemmas.Bool.{false≢true}
use Rattle.std.specs.Prelude.{is_some}
use Rattle.es_text.specs.declared.Span.{Span}
use Rattle.es6_lexer.specs.declared.token.Punctuator.{Punctuator as Mark}
use Rattle.es6_lexer.specs.Punctuators.{spelling}
use Rattle.es6_ast.specs.declared.settings.Stop.TheVariants.{Depth}
use Rattle.es6_ast.specs.Tokens.{Filled, IsMark, begin_of, end_of}
use Rattle.es6_reading.specs.Parser.{Input, Outcome, Took, Parser, after, ◌>>=◌, on, on_taken, choose, next_is, if_next, take_as, fails, returns, made, refused, is_mark, kept_if, mark, next_mark, from, Inner, on_group, group}
use Rattle.es6_reading.specs.Words.{is_arrow}
use Rattle.es6_reading.specs.Parts.{on_opening}
use Rattle.es6_reading.proofs.Posts.{Holds, took, fault, of_took, bind, weaken, Taken, taken, Misses, on-holds, choose-holds, if-holds, take-holds, refused-holds}
use Rattle.es6_reading.proofs.Derived.{Next, next, on-mark}
use Rattle.es6_reading.proofs.Meanings.{bytes_eq-refl}
use Rattle.es6_reading.proofs.Follows.{semi, SameHead, nothing, same, Near, near_end, near_same, near_semi, Never, Dead, MayInsert, before_line, not-before-arrow, Gaps, stop, keep, insert, FollowedBy, Followed, FirmBy, same-followed, same-followed-by, taken-followed, taken-firm, returns-followed, near, bind-followed, bind-firm, stands-less}

abbrev pub Runs : {A : Type 0} → (ℕ → Parser A) → Parser A → Input → Type 0
Runs p' p s = Holds (Followed p' s) (p s)

-- ## Taking a token

pub on-missed : {A B : Type 0} (test : Filled → Option B) (semi-misses : (d : Bool) (at : ℕ) → test (semi d at) ≡ None) (p : B → Parser A) (q : Parser A) (last : ℕ) {ts us : List Filled} → Near ts us → Misses test ts
    → on test p q (record { tokens = us; last = last }) ≡ q (record { tokens = us; last = last })
on-missed test sm p q last near_end m = refl
on-missed test sm p q last (near_same {t = t} {us = us}) m = ap (λ o. on_taken o t us p q (record { tokens = t ∷ us; last = last })) m
on-missed test sm p q last (near_semi {us = us} d at h) m = ap (λ o. on_taken o (semi d at) us p q (record { tokens = semi d at ∷ us; last = last })) (sm d at)

pub on-hit : {A B : Type 0} {stands : List Filled → List Filled → Type 0} (test : Filled → Option B) (p : ℕ → B → Parser A) (q : ℕ → Parser A) {s c d : Input} {x : B} {y : A} → Taken test s x c → FollowedBy stands (λ l. p l x) c y d → FollowedBy stands (λ l. on test (p l) (q l)) s y d
on-hit test p q {d = d} {x = x} {y = y} (taken {t = t} {ts = ts} {last = last} e) r = taken-followed _ _ t ts last d y (λ l us. ap (λ o. on_taken o t us (p l) (q l) (record { tokens = t ∷ us; last = last })) e) r

pub on-follows : {A B : Type 0} (test : Filled → Option B) (semi-misses : (d : Bool) (at : ℕ) → test (semi d at) ≡ None) (p : B → Parser A) (p' : ℕ → B → Parser A) (q : Parser A) (q' : ℕ → Parser A) (s : Input)
    → ((x : B) (c : Input) → Taken test s x c → Holds (Followed (λ l. p' l x) c) (p x c)) → (Misses test s.tokens → Holds (Followed q' s) (q s)) → Holds (Followed (λ l. on test (p' l) (q' l)) s) (on test p q s)
on-follows test sm p p' q q' s f g = on-holds test p q s
    (λ x c h. weaken (f x c h) (λ y d r. on-hit test p' q' h r))
    (λ m. weaken (g m) (λ y d r. same-followed _ _ s d y (λ l us n. on-missed test sm (p' l) (q' l) s.last n m) r))

pub take-follows : {B : Type 0} (test : Filled → Option B) (semi-misses : (d : Bool) (at : ℕ) → test (semi d at) ≡ None) (s : Input) → Holds (Followed (λ l. take_as test) s) (take_as test s)
take-follows test sm s = on-follows test sm _ _ _ _ s (λ x c h. took (returns-followed x c)) (λ m. refused-holds s)

pub mark-follows : (p : Mark) (s : Input) → Runs (λ l. take_as (mark p)) (take_as (mark p)) s
mark-follows p s = take-follows (mark p) (λ d at. refl) s

-- ## Looking at a token

pub near-next : (test : Filled → Bool) (v : Bool) (semi-is : (d : Bool) (at : ℕ) → test (semi d at) ≡ v) {ts us : List Filled} → Near ts us → next_is test ts ≡ v → next_is test us ≡ v
near-next test v sm near_end h = h
near-next test v sm near_same h = h
near-next test v sm (near_semi d at k) h = sm d at

pub choose-follows : {A : Type 0} (v : Bool) (p : Parser A) (p' : ℕ → Parser A) (q : Parser A) (q' : ℕ → Parser A) (s : Input) → (v ≡ true → Holds (Followed p' s) (p s)) → (v ≡ false → Holds (Followed q' s) (q s)) → Holds (Followed (λ l. choose v (p' l) (q' l)) s) (choose v p q s)
choose-follows true p p' q q' s f g = f refl
choose-follows false p p' q q' s f g = g refl

-- what begins with no inserted semicolon
abbrev pub StopsAtSemi : {A : Type 0} → (ℕ → Parser A) → Type 0
StopsAtSemi p = (l : ℕ) (d : Bool) (at : ℕ) (us : List Filled) (last : ℕ) → Never (p l (record { tokens = semi d at ∷ us; last = last }))

pub stopped : {A B : Type 0} {o : Outcome A} (q : A → Parser B) → Never o → Never (after o q)
stopped q h = bind h (λ x c n. absurd n)

gaps-headed : (d e : List Filled → List Filled → Type 0) (last : ℕ) (t : Filled) {before ts us filled : List Filled} → ((before ts : List Filled) → d (t ∷ before) ts → e (t ∷ before) ts) → Gaps d last (t ∷ before) ts us filled → Gaps e last (t ∷ before) ts us filled
gaps-headed d e last t f stop = stop
gaps-headed d e last t f (keep g) = keep (gaps-headed d e last t f g)
gaps-headed d e last t {before = before} {ts = ts} f (insert b at is m n g) = insert b at is (f before ts m) n (gaps-headed d e last t f g)

pub never-took : {A : Type 0} (o : Outcome A) (x : A) (c : Input) → o ≡ Took x c → Never o → ⊥
never-took o x c e h = of_took {Q = λ y d. ⊥} (subst (λ o'. Never o') e h)

near-refl : (ts : List Filled) → Near ts ts
near-refl [] = near_end
near-refl (t ∷ ts) = near_same

unfilled : {d : List Filled → List Filled → Type 0} {last : ℕ} {ts us : List Filled} → Gaps d last [] ts us [] → ts ≡ us
unfilled stop = refl

-- before the `=>` of an arrow function no semicolon stands
arrow-next : {ts us : List Filled} → Near ts us → next_is is_arrow ts ≡ true → SameHead ts us
arrow-next near_end h = absurd (false≢true h)
arrow-next near_same h = same
arrow-next (near_semi d at k) h = absurd (false≢true (sym k ∙ h))

same-run : {A : Type 0} (p q : Parser A) (t : Filled) (last : ℕ) → ((us : List Filled) → p (record { tokens = t ∷ us; last = last }) ≡ q (record { tokens = t ∷ us; last = last }))
    → {ts us : List Filled} → SameHead (t ∷ ts) us → p (record { tokens = us; last = last }) ≡ q (record { tokens = us; last = last })
same-run p q t last h (same {us = us}) = h us

-- a reader that does the same where the next token is this one, and of which one stops at a semicolon
pub firm-followed : {A : Type 0} (p q : ℕ → Parser A) (t : Filled) (ts : List Filled) (last : ℕ) (c : Input) (x : A) → StopsAtSemi q → ((l : ℕ) (us : List Filled) → p l (record { tokens = t ∷ us; last = last }) ≡ q l (record { tokens = t ∷ us; last = last }))
    → Followed q (record { tokens = t ∷ ts; last = last }) x c → Followed p (record { tokens = t ∷ ts; last = last }) x c
firm-followed {A = A} p q t ts last c x stops h r = build c.tokens r.filled r.ends r.gaps r.run refl
  where
    Result : Type 0
    Result = Followed p (record { tokens = t ∷ ts; last = last }) x c

    Run : List Filled → List Filled → Type 0
    Run us filled = (l : ℕ) (rest : List Filled) → Near us rest → q l (record { tokens = filled ++ rest; last = last }) ≡ Took x (record { tokens = rest; last = c.last })

    none : (v : Bool) → next_is is_arrow (t ∷ ts) ≡ v → c.last ≡ last → Run (t ∷ ts) [] → t ∷ ts ≡ c.tokens → Result
    none true a ends run e = record {
      filled = [];
      ends = ends;
      gaps = subst (λ vs. Gaps (Dead p last) last [] (t ∷ ts) vs []) e stop;
      run = λ l rest k. let n = subst (λ vs. Near vs rest) (sym e) k in same-run (p l) (q l) t last (h l) {ts = ts} (arrow-next n a) ∙ run l rest n;
    }
    none false a ends run e = absurd (never-took _ x _ (run zero (semi false 0 ∷ []) (near_semi false 0 a)) (stops zero false 0 [] last))

    build : (us : List Filled) (filled : List Filled) → c.last ≡ end_of last filled → Gaps (Dead q last) last [] (t ∷ ts) us filled → Run us filled → us ≡ c.tokens → Result
    build us [] ends gaps run e = let u = unfilled gaps in none (next_is is_arrow (t ∷ ts)) refl ends (subst (λ vs. Run vs []) (sym u) run) (u ∙ e)
    build us (u ∷ filled) ends (insert b at is m n g) run e = absurd (never-took _ x _ (run zero us (near-refl us)) (stops zero b at (filled ++ us) last))
    build us (u ∷ filled) ends (keep g) run e = record {
      filled = t ∷ filled;
      ends = ends;
      gaps = subst (λ vs. Gaps (Dead p last) last [] (t ∷ ts) vs (t ∷ filled)) e (keep (gaps-headed (Dead q last) (Dead p last) last t (λ before vs m l rest k. subst (λ o. Never o) (sym (h l (before ++ rest))) (m l rest k)) g));
      run = λ l rest k. h l (filled ++ rest) ∙ run l rest (subst (λ vs. Near vs rest) (sym e) k);
    }

pub if-value : {A : Type 0} (test : Filled → Bool) (p q : Parser A) (v : Bool) (ts : List Filled) (last : ℕ) → next_is test ts ≡ v → if_next test p q (record { tokens = ts; last = last }) ≡ choose v p q (record { tokens = ts; last = last })
if-value test p q v ts last e = ap (λ w. choose w p q (record { tokens = ts; last = last })) e

pub true-firm : {A : Type 0} (test : Filled → Bool) (p q : ℕ → Parser A) (s c : Input) (x : A) → StopsAtSemi p → next_is test s.tokens ≡ true → Followed p s x c → Followed (λ l. if_next test (p l) (q l)) s x c
true-firm {A = A} test p q s c x stops h r = at s.tokens s.last h r
  where
    at : (ts : List Filled) (last : ℕ) → next_is test ts ≡ true → Followed p (record { tokens = ts; last = last }) x c → Followed (λ l. if_next test (p l) (q l)) (record { tokens = ts; last = last }) x c
    at [] last h r = absurd (false≢true h)
    at (t ∷ ts) last h r = firm-followed _ p t ts last c x stops (λ l us. if-value test (p l) (q l) true (t ∷ us) last h) r

empty-firm : {A : Type 0} (q : ℕ → Parser A) (last end : ℕ) (x : A) → StopsAtSemi q → (us filled : List Filled) → Gaps (Dead q last) last [] [] us filled
    → ((l : ℕ) (rest : List Filled) → Near us rest → q l (record { tokens = filled ++ rest; last = last }) ≡ Took x (record { tokens = rest; last = end })) → ⊥
empty-firm q last end x stops us [] gaps run = never-took _ x _ (run zero (semi false 0 ∷ []) (near_semi false 0 (sym (ap (λ ts. next_is is_arrow ts) (unfilled gaps))))) (stops zero false 0 [] last)
empty-firm q last end x stops us (u ∷ filled) (insert b a is m n g) run = never-took _ x _ (run zero us (near-refl us)) (stops zero b a (filled ++ us) last)

false-firm : {A : Type 0} (test : Filled → Bool) (p q : ℕ → Parser A) (s c : Input) (x : A) → StopsAtSemi q → next_is test s.tokens ≡ false → Followed q s x c → Followed (λ l. if_next test (p l) (q l)) s x c
false-firm {A = A} test p q s c x stops h r = at s.tokens s.last h r
  where
    at : (ts : List Filled) (last : ℕ) → next_is test ts ≡ false → Followed q (record { tokens = ts; last = last }) x c → Followed (λ l. if_next test (p l) (q l)) (record { tokens = ts; last = last }) x c
    at [] last h r = absurd (empty-firm q last c.last x stops c.tokens r.filled r.gaps r.run)
    at (t ∷ ts) last h r = firm-followed _ q t ts last c x stops (λ l us. if-value test (p l) (q l) false (t ∷ us) last h) r

-- a test that no semicolon passes, before a reader that begins with none
pub if-follows : {A : Type 0} (test : Filled → Bool) (semi-fails : (d : Bool) (at : ℕ) → test (semi d at) ≡ false) (p : Parser A) (p' : ℕ → Parser A) (q : Parser A) (q' : ℕ → Parser A) (s : Input) → StopsAtSemi p'
    → (next_is test s.tokens ≡ true → Holds (Followed p' s) (p s)) → (next_is test s.tokens ≡ false → Holds (Followed q' s) (q s)) → Holds (Followed (λ l. if_next test (p' l) (q' l)) s) (if_next test p q s)
if-follows test sm p p' q q' s stops f g = if-holds test p q s
    (λ h. weaken (f h) (λ y d r. true-firm test p' q' s d y stops h r))
    (λ h. weaken (g h) (λ y d r. same-followed _ _ s d y (λ l us n. if-value test (p' l) (q' l) false us s.last (near-next test false sm n h)) r))

no-arrow-behind : {b : Bool} {ts : List Filled} → MayInsert b [] ts → next_is is_arrow ts ≡ false
no-arrow-behind (before_line m) = not-before-arrow _ m

-- a reader that does the same where the next token is this `=>`, before which no semicolon goes in
arrow-followed : {A : Type 0} (p q : ℕ → Parser A) (t : Filled) (ts : List Filled) (last : ℕ) (c : Input) (x : A) → is_arrow t ≡ true → ((l : ℕ) (us : List Filled) → p l (record { tokens = t ∷ us; last = last }) ≡ q l (record { tokens = t ∷ us; last = last }))
    → Followed q (record { tokens = t ∷ ts; last = last }) x c → Followed p (record { tokens = t ∷ ts; last = last }) x c
arrow-followed {A = A} p q t ts last c x a h r = build c.tokens r.filled r.ends r.gaps r.run refl
  where
    Run : List Filled → List Filled → Type 0
    Run us filled = (l : ℕ) (rest : List Filled) → Near us rest → q l (record { tokens = filled ++ rest; last = last }) ≡ Took x (record { tokens = rest; last = c.last })

    none : c.last ≡ last → Run (t ∷ ts) [] → t ∷ ts ≡ c.tokens → Followed p (record { tokens = t ∷ ts; last = last }) x c
    none ends run e = record {
      filled = [];
      ends = ends;
      gaps = subst (λ vs. Gaps (Dead p last) last [] (t ∷ ts) vs []) e stop;
      run = λ l rest k. let n = subst (λ vs. Near vs rest) (sym e) k in same-run (p l) (q l) t last (h l) {ts = ts} (arrow-next n a) ∙ run l rest n;
    }

    build : (us : List Filled) (filled : List Filled) → c.last ≡ end_of last filled → Gaps (Dead q last) last [] (t ∷ ts) us filled → Run us filled → us ≡ c.tokens → Followed p (record { tokens = t ∷ ts; last = last }) x c
    build us [] ends gaps run e = let u = unfilled gaps in none ends (subst (λ vs. Run vs []) (sym u) run) (u ∙ e)
    build us (u ∷ filled) ends (insert b at is m n g) run e = absurd (false≢true (sym (no-arrow-behind n) ∙ a))
    build us (u ∷ filled) ends (keep g) run e = record {
      filled = t ∷ filled;
      ends = ends;
      gaps = subst (λ vs. Gaps (Dead p last) last [] (t ∷ ts) vs (t ∷ filled)) e (keep (gaps-headed (Dead q last) (Dead p last) last t (λ before vs m l rest k. subst (λ o. Never o) (sym (h l (before ++ rest))) (m l rest k)) g));
      run = λ l rest k. h l (filled ++ rest) ∙ run l rest (subst (λ vs. Near vs rest) (sym e) k);
    }

arrow-taken : {A : Type 0} (p q : ℕ → Parser A) (s c : Input) (x : A) → next_is is_arrow s.tokens ≡ true → Followed p s x c → Followed (λ l. if_next is_arrow (p l) (q l)) s x c
arrow-taken {A = A} p q s c x h r = at s.tokens s.last h r
  where
    at : (ts : List Filled) (last : ℕ) → next_is is_arrow ts ≡ true → Followed p (record { tokens = ts; last = last }) x c → Followed (λ l. if_next is_arrow (p l) (q l)) (record { tokens = ts; last = last }) x c
    at [] last h r = absurd (false≢true h)
    at (t ∷ ts) last h r = arrow-followed _ p t ts last c x h (λ l us. if-value is_arrow (p l) (q l) true (t ∷ us) last h) r

-- what is read where an `=>` comes next, and else
pub before-arrow-follows : {A : Type 0} (p : Parser A) (p' : ℕ → Parser A) (q : Parser A) (q' : ℕ → Parser A) (s : Input)
    → (next_is is_arrow s.tokens ≡ true → Holds (Followed p' s) (p s)) → (next_is is_arrow s.tokens ≡ false → Holds (Followed q' s) (q s)) → Holds (Followed (λ l. if_next is_arrow (p' l) (q' l)) s) (if_next is_arrow p q s)
before-arrow-follows p p' q q' s f g = if-holds is_arrow p q s
    (λ h. weaken (f h) (λ y d r. arrow-taken p' q' s d y h r))
    (λ h. weaken (g h) (λ y d r. same-followed _ _ s d y (λ l us n. if-value is_arrow (p' l) (q' l) false us s.last (near-next is_arrow false (λ d at. refl) n h)) r))

-- a test that each semicolon passes, and else a reader that begins with none
pub if-semi-follows : {A : Type 0} (test : Filled → Bool) (semi-passes : (d : Bool) (at : ℕ) → test (semi d at) ≡ true) (p : Parser A) (p' : ℕ → Parser A) (q : Parser A) (q' : ℕ → Parser A) (s : Input) → StopsAtSemi q'
    → (next_is test s.tokens ≡ true → Holds (Followed p' s) (p s)) → (next_is test s.tokens ≡ false → Holds (Followed q' s) (q s)) → Holds (Followed (λ l. if_next test (p' l) (q' l)) s) (if_next test p q s)
if-semi-follows test sm p p' q q' s stops f g = if-holds test p q s
    (λ h. weaken (f h) (λ y d r. same-followed _ _ s d y (λ l us n. if-value test (p' l) (q' l) true us s.last (near-next test true sm n h)) r))
    (λ h. weaken (g h) (λ y d r. false-firm test p' q' s d y stops h r))

-- what takes nothing before an `=>`
pub if-arrow-follows : {A : Type 0} (value : Input → A) (s : Input) → ((ts us : List Filled) (last : ℕ) → value (record { tokens = ts; last = last }) ≡ value (record { tokens = us; last = last }))
    → Holds (Followed (λ l. if_next is_arrow (λ c. Took (value c) c) refused) s) (if_next is_arrow (λ c. Took (value c) c) refused s)
if-arrow-follows {A = A} value s same_value = if-holds is_arrow (λ c. Took (value c) c) refused s (λ h. took (record { filled = []; ends = refl; gaps = stop; run = λ l rest k. here h rest (arrow-next k h) })) (λ h. refused-holds s)
  where
    here : next_is is_arrow s.tokens ≡ true → (rest : List Filled) → SameHead s.tokens rest → if_next is_arrow (λ c. Took (value c) c) refused (record { tokens = rest; last = s.last }) ≡ Took (value s) (record { tokens = rest; last = s.last })
    here h rest k = if-value is_arrow (λ c. Took (value c) c) refused true rest s.last (next-same k ∙ h) ∙ ap (λ x. Took x (record { tokens = rest; last = s.last })) (same_value rest s.tokens s.last)
      where
        next-same : {ts us : List Filled} → SameHead ts us → next_is is_arrow us ≡ next_is is_arrow ts
        next-same nothing = refl
        next-same same = refl

-- ## Groups and places

group-takes : {A : Type 0} (i : Inner) (p : Mark) (inside otherwise : Parser A) (t : Filled) (us : List Filled) (last : ℕ) → is_mark p t.kind ≡ true → i.may_open ≡ true
    → on_group i p inside otherwise (record { tokens = t ∷ us; last = last }) ≡ inside (record { tokens = us; last = t.span.end })
group-takes i p inside otherwise t us last e m =
    ap (λ v. choose v (choose i.may_open (on (mark p) (λ u. inside) otherwise) (fails Depth)) otherwise (record { tokens = t ∷ us; last = last })) e
    ∙ ap (λ v. choose v (on (mark p) (λ u. inside) otherwise) (fails Depth) (record { tokens = t ∷ us; last = last })) m
    ∙ ap (λ v. on_taken (kept_if v t) t us (λ u. inside) otherwise (record { tokens = t ∷ us; last = last })) e

group-skips : {A : Type 0} (i : Inner) (p : Mark) (inside otherwise : Parser A) (us : List Filled) (last : ℕ) → next_is (next_mark p) us ≡ false
    → on_group i p inside otherwise (record { tokens = us; last = last }) ≡ otherwise (record { tokens = us; last = last })
group-skips i p inside otherwise us last e = if-value (next_mark p) _ otherwise false us last e

is-own-mark : (p : Mark) (t : Filled) → IsMark p t → is_mark p t.kind ≡ true
is-own-mark p t e = rw e (bytes_eq-refl (spelling p))

group-hit : {A : Type 0} (i : ℕ → Inner) (p : Mark) (inside otherwise : ℕ → Parser A) {s c d : Input} {y : A} → ((l : ℕ) → (i l).may_open ≡ true) → Next (IsMark p) s c → Followed inside c y d → Followed (λ l. on_group (i l) p (inside l) (otherwise l)) s y d
group-hit i p inside otherwise {d = d} {y = y} o (next {t = t} {ts = ts} {last = last} e) r = taken-followed _ _ t ts last d y (λ l us. group-takes (i l) p (inside l) (otherwise l) t us last (is-own-mark p t e) (o l)) r

group-firm : {A : Type 0} {stands : List Filled → List Filled → Type 0} (i : ℕ → Inner) (p : Mark) (inside otherwise : ℕ → Parser A) {s c d : Input} {y : A} → ((l : ℕ) → (i l).may_open ≡ true) → Next (IsMark p) s c → FollowedBy stands inside c y d → FirmBy stands (λ l. on_group (i l) p (inside l) (otherwise l)) s y d
group-firm i p inside otherwise {d = d} {y = y} o (next {t = t} {ts = ts} {last = last} e) r = taken-firm _ _ t ts last d y (λ l us. group-takes (i l) p (inside l) (otherwise l) t us last (is-own-mark p t e) (o l)) r

pub group-follows : {A : Type 0} (i : Inner) (i' : ℕ → Inner) (p : Mark) (inside : Parser A) (inside' : ℕ → Parser A) (otherwise : Parser A) (otherwise' : ℕ → Parser A) (s : Input) → (i.may_open ≡ true → (l : ℕ) → (i' l).may_open ≡ true)
    → ((c : Input) → Holds (Followed inside' c) (inside c)) → (next_is (next_mark p) s.tokens ≡ false → Holds (Followed otherwise' s) (otherwise s)) → Holds (Followed (λ l. on_group (i' l) p (inside' l) (otherwise' l)) s) (on_group i p inside otherwise s)
group-follows {A = A} i i' p inside inside' otherwise otherwise' s opens f g =
    if-holds _ _ _ s (λ h. choose-holds _ _ i.may_open s (λ o. on-mark p _ _ s (λ t c n. weaken (f c) (λ y d r. group-hit i' p inside' otherwise' (opens o) n r)) missed) (λ o. fault)) missed
  where
    missed : next_is (next_mark p) s.tokens ≡ false → Holds (Followed (λ l. on_group (i' l) p (inside' l) (otherwise' l)) s) (otherwise s)
    missed m = weaken (g m) (λ y d r. same-followed _ _ s d y (λ l us n. group-skips (i' l) p (inside' l) (otherwise' l) us s.last (near-next (next_mark p) false (λ e at. refl) n m)) r)

-- where it may be opened, the test before the token is taken changes nothing
opening-is : {A B : Type 0} (i : Inner) (test : Filled → Option B) (inside : B → Parser A) (otherwise : Parser A) (ts : List Filled) (last : ℕ) → i.may_open ≡ true
    → on_opening i test inside otherwise (record { tokens = ts; last = last }) ≡ on test inside otherwise (record { tokens = ts; last = last })
opening-is i test inside otherwise [] last m = refl
opening-is {A = A} {B = B} i test inside otherwise (t ∷ ts) last m = at (test t) refl
  where
    c : Input
    c = record { tokens = t ∷ ts; last = last }

    at : (o : Option B) → test t ≡ o → on_opening i test inside otherwise c ≡ on test inside otherwise c
    at (Some x) e = ap (λ o. choose (is_some o) (choose i.may_open (on test inside otherwise) (fails Depth)) otherwise c) e ∙ ap (λ v. choose v (on test inside otherwise) (fails Depth) c) m
    at None e = ap (λ o. choose (is_some o) (choose i.may_open (on test inside otherwise) (fails Depth)) otherwise c) e ∙ sym (ap (λ o. on_taken o t ts inside otherwise c) e)

-- a token that no semicolon is and that opens a construct
pub opening-follows : {A B : Type 0} (i : Inner) (i' : ℕ → Inner) (test : Filled → Option B) (semi-misses : (d : Bool) (at : ℕ) → test (semi d at) ≡ None) (inside : B → Parser A) (inside' : ℕ → B → Parser A) (otherwise : Parser A) (otherwise' : ℕ → Parser A) (s : Input)
    → (i.may_open ≡ true → (l : ℕ) → (i' l).may_open ≡ true) → ((x : B) (c : Input) → Taken test s x c → Holds (Followed (λ l. inside' l x) c) (inside x c)) → Holds (Followed otherwise' s) (otherwise s)
    → Holds (Followed (λ l. on_opening (i' l) test (inside' l) (otherwise' l)) s) (on_opening i test inside otherwise s)
opening-follows i i' test sm inside inside' otherwise otherwise' s opens f g = if-holds _ _ _ s
    (λ h. choose-holds _ _ i.may_open s (λ o. weaken (on-follows test sm inside inside' otherwise otherwise' s f (λ m. g)) (λ y d r. same-followed _ _ s d y (λ l us n. opening-is (i' l) test (inside' l) (otherwise' l) us s.last (opens o l)) r)) (λ o. fault))
    (λ h. weaken g (λ y d r. same-followed _ _ s d y (λ l us n. if-value (λ t. is_some (test t)) _ (otherwise' l) false us s.last (near-next (λ t. is_some (test t)) false (λ e at. ap (λ o. is_some o) (sm e at)) n h)) r))

-- a group and nothing else
pub only-group-follows : {A : Type 0} (i : Inner) (i' : ℕ → Inner) (p : Mark) (inside : Parser A) (inside' : ℕ → Parser A) (s : Input) → (i.may_open ≡ true → (l : ℕ) → (i' l).may_open ≡ true)
    → ((c : Input) → Holds (Followed inside' c) (inside c)) → Holds (Followed (λ l. group (i' l) p (inside' l)) s) (group i p inside s)
only-group-follows i i' p inside inside' s opens f = group-follows i i' p inside inside' refused (λ l. refused) s opens f (λ m. refused-holds s)

-- such a group, which ends with its last token
pub whole-group-follows : {A : Type 0} {stands : List Filled → List Filled → Type 0} (i : Inner) (i' : ℕ → Inner) (p : Mark) (inside : Parser A) (inside' : ℕ → Parser A) (s : Input) → (i.may_open ≡ true → (l : ℕ) → (i' l).may_open ≡ true)
    → ((c : Input) → Holds (FollowedBy stands inside' c) (inside c)) → Holds (FirmBy stands (λ l. group (i' l) p (inside' l)) s) (group i p inside s)
whole-group-follows {A = A} {stands = stands} i i' p inside inside' s opens f =
    if-holds _ _ _ s (λ h. choose-holds _ _ i.may_open s (λ o. on-mark p _ _ s (λ t c n. weaken (f c) (λ y d r. group-firm i' p inside' (λ l. refused) (opens o) n r)) (λ m. refused-holds s)) (λ o. fault)) (λ m. refused-holds s)

-- where the place of the begin counts nothing before a semicolon
abbrev pub PlaceFree : {A : Type 0} → (ℕ → ℕ → Parser A) → Type 0
PlaceFree p = (l place place' : ℕ) (d : Bool) (at : ℕ) (us : List Filled) (last : ℕ) → p l place (record { tokens = semi d at ∷ us; last = last }) ≡ p l place' (record { tokens = semi d at ∷ us; last = last })

from-near : {A : Type 0} (p : ℕ → ℕ → Parser A) → PlaceFree p → (l last : ℕ) {ts us : List Filled} → Near ts us → from (p l) (record { tokens = us; last = last }) ≡ p l (begin_of ts) (record { tokens = us; last = last })
from-near p free l last near_end = refl
from-near p free l last near_same = refl
from-near p free l last (near_semi {ts = ts} {us = us} d at h) = free l at (begin_of ts) d at us last

pub from-follows : {A : Type 0} (p : ℕ → Parser A) (p' : ℕ → ℕ → Parser A) (s : Input) → PlaceFree p' → Holds (Followed (λ l. p' l (begin_of s.tokens)) s) (p (begin_of s.tokens) s) → Holds (Followed (λ l. from (p' l)) s) (from p s)
from-follows p p' s free h = weaken h (λ y d r. same-followed _ _ s d y (λ l us n. from-near p' free l s.last n) r)

from-firm-followed : {A : Type 0} (p : ℕ → ℕ → Parser A) (s c : Input) (x : A) → ((place : ℕ) → StopsAtSemi (λ l. p l place)) → Followed (λ l. p l (begin_of s.tokens)) s x c → Followed (λ l. from (p l)) s x c
from-firm-followed {A = A} p s c x stops r = at s.tokens s.last r
  where
    at : (ts : List Filled) (last : ℕ) → Followed (λ l. p l (begin_of ts)) (record { tokens = ts; last = last }) x c → Followed (λ l. from (p l)) (record { tokens = ts; last = last }) x c
    at [] last r = absurd (empty-firm (λ l. p l 0) last c.last x (stops 0) c.tokens r.filled r.gaps r.run)
    at (t ∷ ts) last r = firm-followed (λ l. from (p l)) (λ l. p l t.span.begin) t ts last c x (stops t.span.begin) (λ l us. refl) r

-- a reader that begins with no semicolon, at the begin of the next token
pub from-firm : {A : Type 0} (p : ℕ → Parser A) (p' : ℕ → ℕ → Parser A) (s : Input) → ((place : ℕ) → StopsAtSemi (λ l. p' l place)) → Holds (Followed (λ l. p' l (begin_of s.tokens)) s) (p (begin_of s.tokens) s) → Holds (Followed (λ l. from (p' l)) s) (from p s)
from-firm p p' s stops h = weaken h (λ y d r. from-firm-followed p' s d y stops r)

-- a value that hangs on the end of the last token alone
pub made-follows : {A : Type 0} (v : Input → A) (s : Input) → ((ts us : List Filled) (last : ℕ) → v (record { tokens = ts; last = last }) ≡ v (record { tokens = us; last = last })) → Holds (Followed (λ l c. Took (v c) c) s) (Took (v s) s)
made-follows v s h = took (record { filled = []; ends = refl; gaps = stop; run = λ l rest k. ap (λ x. Took x (record { tokens = rest; last = s.last })) (h rest s.tokens s.last) })

pub made-at-follows : {A : Type 0} (at : ℕ) (make : Span → A) (s : Input) → Runs (λ l. made at make) (made at make) s
made-at-follows at make s = made-follows (λ c. make (record { begin = at; end = c.last })) s (λ _ _ _. refl)

pub returns-follows : {A : Type 0} (x : A) (s : Input) → Holds (Followed (λ l. returns x) s) (returns x s)
returns-follows x s = took (returns-followed x s)

-- the same family, spelled otherwise
pub spelled-follows : {A : Type 0} (p q : ℕ → Parser A) (s : Input) {o : Outcome A} → ((l : ℕ) → p l ≡ q l) → Holds (Followed q s) o → Holds (Followed p s) o
spelled-follows p q s h k = weaken k (λ y d r. same-followed p q s d y (λ l us n. ap (λ f. f (record { tokens = us; last = s.last })) (h l)) r)

-- ## Readers that take the next token

pub firm-same : {A : Type 0} {stands : List Filled → List Filled → Type 0} (p q : ℕ → Parser A) (s c : Input) (x : A) (r : FirmBy stands q s x c) → ((l : ℕ) (us : List Filled) → p l (record { tokens = r.first ∷ us; last = s.last }) ≡ q l (record { tokens = r.first ∷ us; last = s.last })) → FirmBy stands p s x c
firm-same p q s c x r h = record {
  first = r.first;
  more = r.more;
  all = r.all;
  filled = r.filled;
  ends = r.ends;
  gaps = gaps-headed (Dead q s.last) (Dead p s.last) s.last r.first (λ before vs m l rest k. subst (λ o. Never o) (sym (h l (before ++ rest))) (m l rest k)) r.gaps;
  run = λ l rest k. h l (r.filled ++ rest) ∙ r.run l rest k;
}

pub firm-followed-by : {A : Type 0} {stands : List Filled → List Filled → Type 0} {p : ℕ → Parser A} {s c : Input} {x : A} → FirmBy stands p s x c → FollowedBy stands p s x c
firm-followed-by {stands = stands} {p = p} {s = s} {c = c} r = record {
  filled = r.first ∷ r.filled;
  ends = r.ends;
  gaps = subst (λ ts. Gaps (Dead p s.last) s.last [] ts c.tokens (r.first ∷ r.filled)) (sym r.all) (keep r.gaps);
  run = r.run;
}

pub hit-firm : {A B : Type 0} {stands : List Filled → List Filled → Type 0} (test : Filled → Option B) (p : ℕ → B → Parser A) (q : ℕ → Parser A) {s c d : Input} {x : B} {y : A} → Taken test s x c → FollowedBy stands (λ l. p l x) c y d → FirmBy stands (λ l. on test (p l) (q l)) s y d
hit-firm test p q {d = d} {x = x} {y = y} (taken {t = t} {ts = ts} {last = last} e) r = taken-firm _ _ t ts last d y (λ l us. ap (λ o. on_taken o t us (p l) (q l) (record { tokens = t ∷ us; last = last })) e) r

missed-at : {B : Type 0} (test : Filled → Option B) (first : Filled) (more ts : List Filled) → ts ≡ first ∷ more → Misses test ts → test first ≡ None
missed-at test first more ts e m = subst (λ us. Misses test us) e m

pub on-firm : {A B : Type 0} {stands : List Filled → List Filled → Type 0} (test : Filled → Option B) (p : B → Parser A) (p' : ℕ → B → Parser A) (q : Parser A) (q' : ℕ → Parser A) (s : Input)
    → ((x : B) (c : Input) → Taken test s x c → Holds (FollowedBy stands (λ l. p' l x) c) (p x c)) → (Misses test s.tokens → Holds (FirmBy stands q' s) (q s)) → Holds (FirmBy stands (λ l. on test (p' l) (q' l)) s) (on test p q s)
on-firm test p p' q q' s f g = on-holds test p q s
    (λ x c h. weaken (f x c h) (λ y d r. hit-firm test p' q' h r))
    (λ m. weaken (g m) (λ y d r. firm-same _ q' s d y r (λ l us. ap (λ o. on_taken o r.first us (p' l) (q' l) (record { tokens = r.first ∷ us; last = s.last })) (missed-at test r.first r.more s.tokens r.all m))))

take-then : {A B : Type 0} {stands : List Filled → List Filled → Type 0} (test : Filled → Option B) (q : ℕ → B → Parser A) {s c d : Input} {x : B} {y : A} → Taken test s x c → FollowedBy stands (λ l. q l x) c y d → FirmBy stands (λ l. ◌>>=◌ (take_as test) (q l)) s y d
take-then test q {d = d} {x = x} {y = y} (taken {t = t} {ts = ts} {last = last} e) r =
    taken-firm _ _ t ts last d y (λ l us. ap (λ o. after (on_taken o t us (λ z. returns z) refused (record { tokens = t ∷ us; last = last })) (q l)) e) r

-- a token, and what goes on from it
pub take-firm : {A B : Type 0} {stands : List Filled → List Filled → Type 0} (test : Filled → Option B) (q : B → Parser A) (q' : ℕ → B → Parser A) (s : Input)
    → ((x : B) (c : Input) → Holds (FollowedBy stands (λ l. q' l x) c) (q x c)) → Holds (FirmBy stands (λ l. ◌>>=◌ (take_as test) (q' l)) s) (after (take_as test s) q)
take-firm test q q' s f = bind (take-holds s) (λ x c h. weaken (f x c) (λ y d r. take-then test q' h r))

-- ## Where the same token comes next

pub strictly : {A : Type 0} {p : ℕ → Parser A} {s : Input} {o : Outcome A} → Holds (Followed p s) o → Holds (FollowedBy SameHead p s) o
strictly h = weaken h (λ y d r. stands-less {more = Near} (λ ts us k. near k) r)

-- one reader after another that follows only so, if the second takes the next token
pub strict-then-firm : {A B : Type 0} (stands : List Filled → List Filled → Type 0) (p : Outcome A) (p' : ℕ → Parser A) (q : A → Parser B) (q' : ℕ → A → Parser B) (s : Input)
    → Holds (FollowedBy SameHead p' s) p → ((x : A) (c : Input) → Holds (FirmBy stands (λ l. q' l x) c) (q x c)) → Holds (FollowedBy stands (λ l. ◌>>=◌ (p' l) (q' l)) s) (after p q)
strict-then-firm stands p p' q q' s h f = bind h (λ x b r. weaken (f x b) (λ y c r'. bind-firm stands p' q' s b c x y r r'))

pub then-strict : {A B : Type 0} (p : Outcome A) (p' : ℕ → Parser A) (q : A → Parser B) (q' : ℕ → A → Parser B) (s : Input)
    → Holds (Followed p' s) p → ((x : A) (c : Input) → Holds (FollowedBy SameHead (λ l. q' l x) c) (q x c)) → Holds (FollowedBy SameHead (λ l. ◌>>=◌ (p' l) (q' l)) s) (after p q)
then-strict p p' q q' s h f = bind h (λ x b r. weaken (f x b) (λ y c r'. bind-followed SameHead (λ ts us k. near k) p' q' s b c x y r r'))

pub on-strict : {A B : Type 0} (test : Filled → Option B) (semi-misses : (d : Bool) (at : ℕ) → test (semi d at) ≡ None) (p : B → Parser A) (p' : ℕ → B → Parser A) (q : Parser A) (q' : ℕ → Parser A) (s : Input)
    → ((x : B) (c : Input) → Taken test s x c → Holds (FollowedBy SameHead (λ l. p' l x) c) (p x c)) → (Misses test s.tokens → Holds (FollowedBy SameHead q' s) (q s)) → Holds (FollowedBy SameHead (λ l. on test (p' l) (q' l)) s) (on test p q s)
on-strict test sm p p' q q' s f g = on-holds test p q s
    (λ x c h. weaken (f x c h) (λ y d r. on-hit test p' q' h r))
    (λ m. weaken (g m) (λ y d r. same-followed-by SameHead (λ ts us k. near k) _ _ s d y (λ l us n. on-missed test sm (p' l) (q' l) s.last n m) r))

pub from-strict : {A : Type 0} (p : ℕ → Parser A) (p' : ℕ → ℕ → Parser A) (s : Input) → PlaceFree p' → Holds (FollowedBy SameHead (λ l. p' l (begin_of s.tokens)) s) (p (begin_of s.tokens) s) → Holds (FollowedBy SameHead (λ l. from (p' l)) s) (from p s)
from-strict p p' s free h = weaken h (λ y d r. same-followed-by SameHead (λ ts us k. near k) _ _ s d y (λ l us n. from-near p' free l s.last n) r)
