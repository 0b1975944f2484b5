-- The relation of a run that inserts semicolons to one over the filled tokens, at each choice and at a semicolon.
use Rattle.std.proofs.Common.{◌≡◌, ℕ, zero, Bool, true, false, List, [], ◌∷◌, ◌++◌, Option, None, refl, sym, ap, subst, ◌∙◌}
use Rattle.std.proofs.lemmas.Bool.{false≢true, true≢false}
use Rattle.es5_ast.specs.Lexical.{Token5}
use Rattle.es5_ast.specs.Grammar.{begin_of, end_of, ends, is_mark, IsMark}
use Rattle.es5_reading.specs.Parser.{Input5, Stop5, Syntax, Depth, Outcome5, Took, Parser, on, on_taken, choose, next_is, if_next, take_as, fails, returns, kept_if, mark, next_mark, from, Inner5, on_group, is_insertable, inserts, ending, semicolon}
use Rattle.es5_reading.proofs.Posts.{Holds, took, fault, of_took, weaken, Taken, taken, Misses, on-holds, choose-holds, if-holds}
use Rattle.es5_reading.proofs.Derived.{Next, next, group-holds}
use Rattle.es5_reading.proofs.Meanings.{bytes_eq-refl}
use Rattle.es5_reading.proofs.Follows.{plus, semi, SameHead, nothing, same, Near, near_end, near_same, near_semi, Never, Dead, Gaps, stop, keep, insert, Followed, same-followed, taken-followed, returns-followed}

-- ## Taking a token

on-missed : {A B : Type 0} (test : Token5 → Option B) (semi-misses : (b e : ℕ) (a : Bool) → test (semi b e a) ≡ None) (p : B → Parser A) (q : Parser A) (last : ℕ) {ts us : List Token5} → Near ts us → Misses test ts
    → on test p q (record { tokens = us; last = last }) ≡ q (record { tokens = us; last = last })
on-missed test sm p q last near_end m = refl
on-missed test sm p q last (near_same {t = t} {us = us}) m = ap (λ o. on_taken o t us p q (record { tokens = t ∷ us; last = last })) m
on-missed test sm p q last (near_semi {us = us} b e a) m = ap (λ o. on_taken o (semi b e a) us p q (record { tokens = semi b e a ∷ us; last = last })) (sm b e a)

on-hit : {A B : Type 0} (test : Token5 → Option B) (p : ℕ → B → Parser A) (q : ℕ → Parser A) {s c d : Input5} {x : B} {y : A} → Taken test s x c → Followed (λ l. p l x) c y d → Followed (λ l. on test (p l) (q l)) s y d
on-hit test p q {d = d} {x = x} {y = y} (taken {t = t} {ts = ts} {last = last} e) r = taken-followed _ _ t ts last d y (λ l us. ap (λ o. on_taken o t us (p l) (q l) (record { tokens = t ∷ us; last = last })) e) r

pub on-follows : {A B : Type 0} (test : Token5 → Option B) (semi-misses : (b e : ℕ) (a : Bool) → test (semi b e a) ≡ None) (p : B → Parser A) (p' : ℕ → B → Parser A) (q : Parser A) (q' : ℕ → Parser A) (s : Input5)
    → ((x : B) (c : Input5) → Taken test s x c → Holds (Followed (λ l. p' l x) c) (p x c)) → (Misses test s.tokens → Holds (Followed q' s) (q s)) → Holds (Followed (λ l. on test (p' l) (q' l)) s) (on test p q s)
on-follows test sm p p' q q' s f g = on-holds test p q s
    (λ x c h. weaken (f x c h) (λ y d r. on-hit test p' q' h r))
    (λ m. weaken (g m) (λ y d r. same-followed _ _ s d y (λ l us n. on-missed test sm (p' l) (q' l) s.last n m) r))

pub take-follows : {B : Type 0} (test : Token5 → Option B) (semi-misses : (b e : ℕ) (a : Bool) → test (semi b e a) ≡ None) (s : Input5) → Holds (Followed (λ l. take_as test) s) (take_as test s)
take-follows test sm s = on-follows test sm _ _ _ _ s (λ x c h. took (returns-followed x c)) (λ m. fault)

-- ## Looking at a token

pub near-next : (test : Token5 → Bool) (v : Bool) (semi-is : (b e : ℕ) (a : Bool) → test (semi b e a) ≡ v) {ts us : List Token5} → Near ts us → next_is test ts ≡ v → next_is test us ≡ v
near-next test v sm near_end h = h
near-next test v sm near_same h = h
near-next test v sm (near_semi b e a) h = sm b e a

pub choose-follows : {A : Type 0} (v : Bool) (p : Parser A) (p' : ℕ → Parser A) (q : Parser A) (q' : ℕ → Parser A) (s : Input5) → (v ≡ true → Holds (Followed p' s) (p s)) → (v ≡ false → Holds (Followed q' s) (q s)) → Holds (Followed (λ l. choose v (p' l) (q' l)) s) (choose v p q s)
choose-follows true p p' q q' s f g = f refl
choose-follows false p p' q q' s f g = g refl

-- what begins with no semicolon
abbrev pub StopsAtSemi : {A : Type 0} → (ℕ → Parser A) → Type 0
StopsAtSemi p = (l : ℕ) (b e : ℕ) (a : Bool) (us : List Token5) (last : ℕ) → Never (p l (record { tokens = semi b e a ∷ us; last = last }))

gaps-headed : (d e : List Token5 → List Token5 → Type 0) (last : ℕ) (t : Token5) {before ts us filled : List Token5} → ((before ts : List Token5) → d (t ∷ before) ts → e (t ∷ before) ts) → Gaps d last (t ∷ before) ts us filled → Gaps e last (t ∷ before) ts us filled
gaps-headed d e last t f stop = stop
gaps-headed d e last t f (keep g) = keep (gaps-headed d e last t f g)
gaps-headed d e last t {before = before} {ts = ts} f (insert at is m n g) = insert at is (f before ts m) n (gaps-headed d e last t f g)

never-took : {A : Type 0} (o : Outcome5 A) (x : A) (c : Input5) → o ≡ Took x c → Never o → ⊥
never-took o x c e h = of_took {Q = λ y d. ⊥} (subst (λ o'. Never o') e h)

near-refl : (ts : List Token5) → Near ts ts
near-refl [] = near_end
near-refl (t ∷ ts) = near_same

-- a reader that does the same where the next token is this one, and of which one stops at a semicolon
firm-followed : {A : Type 0} (p q : ℕ → Parser A) (t : Token5) (ts : List Token5) (last : ℕ) (c : Input5) (x : A) → StopsAtSemi q → ((l : ℕ) (us : List Token5) → p l (record { tokens = t ∷ us; last = last }) ≡ q l (record { tokens = t ∷ us; last = last }))
    → Followed q (record { tokens = t ∷ ts; last = last }) x c → Followed p (record { tokens = t ∷ ts; last = last }) x c
firm-followed {A = A} p q t ts last c x stops h r = build c.tokens r.filled r.ends r.gaps r.run refl
  where
    build : (us : List Token5) (filled : List Token5) → c.last ≡ end_of last filled → Gaps (Dead q last) last [] (t ∷ ts) us filled
        → ((l : ℕ) (rest : List Token5) → Near us rest → q l (record { tokens = filled ++ rest; last = last }) ≡ Took x (record { tokens = rest; last = c.last })) → us ≡ c.tokens → Followed p (record { tokens = t ∷ ts; last = last }) x c
    build us [] ends gaps run e = absurd (never-took _ x _ (run zero (semi 0 0 false ∷ []) (near_semi 0 0 false)) (stops zero 0 0 false [] last))
    build us (u ∷ filled) ends (insert at is m n g) run e = absurd (never-took _ x _ (run zero us (near-refl us)) (stops zero at at false (filled ++ us) last))
    build us (u ∷ filled) ends (keep g) run e = record {
      filled = t ∷ filled;
      ends = ends;
      gaps = subst (λ vs. Gaps (Dead p last) last [] (t ∷ ts) vs (t ∷ filled)) e (keep (gaps-headed (Dead q last) (Dead p last) last t (λ before vs m l rest k. subst (λ o. Never o) (sym (h l (before ++ rest))) (m l rest k)) g));
      run = λ l rest k. h l (filled ++ rest) ∙ run l rest (subst (λ vs. Near vs rest) (sym e) k);
    }

if-value : {A : Type 0} (test : Token5 → Bool) (p q : Parser A) (v : Bool) (ts : List Token5) (last : ℕ) → next_is test ts ≡ v → if_next test p q (record { tokens = ts; last = last }) ≡ choose v p q (record { tokens = ts; last = last })
if-value test p q v ts last e = ap (λ w. choose w p q (record { tokens = ts; last = last })) e

true-firm : {A : Type 0} (test : Token5 → Bool) (p q : ℕ → Parser A) (s c : Input5) (x : A) → StopsAtSemi p → next_is test s.tokens ≡ true → Followed p s x c → Followed (λ l. if_next test (p l) (q l)) s x c
true-firm {A = A} test p q s c x stops h r = at s.tokens s.last h r
  where
    at : (ts : List Token5) (last : ℕ) → next_is test ts ≡ true → Followed p (record { tokens = ts; last = last }) x c → Followed (λ l. if_next test (p l) (q l)) (record { tokens = ts; last = last }) x c
    at [] last h r = absurd (false≢true h)
    at (t ∷ ts) last h r = firm-followed _ p t ts last c x stops (λ l us. if-value test (p l) (q l) true (t ∷ us) last h) r

empty-firm : {A : Type 0} (q : ℕ → Parser A) (last end : ℕ) (x : A) → StopsAtSemi q → (us filled : List Token5) → Gaps (Dead q last) last [] [] us filled
    → ((l : ℕ) (rest : List Token5) → Near us rest → q l (record { tokens = filled ++ rest; last = last }) ≡ Took x (record { tokens = rest; last = end })) → ⊥
empty-firm q last end x stops us [] gaps run = never-took _ x _ (run zero (semi 0 0 false ∷ []) (near_semi 0 0 false)) (stops zero 0 0 false [] last)
empty-firm q last end x stops us (u ∷ filled) (insert a is m n g) run = never-took _ x _ (run zero us (near-refl us)) (stops zero a a false (filled ++ us) last)

false-firm : {A : Type 0} (test : Token5 → Bool) (p q : ℕ → Parser A) (s c : Input5) (x : A) → StopsAtSemi q → next_is test s.tokens ≡ false → Followed q s x c → Followed (λ l. if_next test (p l) (q l)) s x c
false-firm {A = A} test p q s c x stops h r = at s.tokens s.last h r
  where
    at : (ts : List Token5) (last : ℕ) → next_is test ts ≡ false → Followed q (record { tokens = ts; last = last }) x c → Followed (λ l. if_next test (p l) (q l)) (record { tokens = ts; last = last }) x c
    at [] last h r = absurd (empty-firm q last c.last x stops c.tokens r.filled r.gaps r.run)
    at (t ∷ ts) last h r = firm-followed _ q t ts last c x stops (λ l us. if-value test (p l) (q l) false (t ∷ us) last h) r

-- a test that no semicolon passes, before a reader that begins with none
pub if-follows : {A : Type 0} (test : Token5 → Bool) (semi-fails : (b e : ℕ) (a : Bool) → test (semi b e a) ≡ false) (p : Parser A) (p' : ℕ → Parser A) (q : Parser A) (q' : ℕ → Parser A) (s : Input5) → StopsAtSemi p'
    → (next_is test s.tokens ≡ true → Holds (Followed p' s) (p s)) → (next_is test s.tokens ≡ false → Holds (Followed q' s) (q s)) → Holds (Followed (λ l. if_next test (p' l) (q' l)) s) (if_next test p q s)
if-follows test sm p p' q q' s stops f g = if-holds test p q s
    (λ h. weaken (f h) (λ y d r. true-firm test p' q' s d y stops h r))
    (λ h. weaken (g h) (λ y d r. same-followed _ _ s d y (λ l us n. if-value test (p' l) (q' l) false us s.last (near-next test false sm n h)) r))

-- a test that each semicolon passes, and else a reader that begins with none
pub if-semi-follows : {A : Type 0} (test : Token5 → Bool) (semi-passes : (b e : ℕ) (a : Bool) → test (semi b e a) ≡ true) (p : Parser A) (p' : ℕ → Parser A) (q : Parser A) (q' : ℕ → Parser A) (s : Input5) → StopsAtSemi q'
    → (next_is test s.tokens ≡ true → Holds (Followed p' s) (p s)) → (next_is test s.tokens ≡ false → Holds (Followed q' s) (q s)) → Holds (Followed (λ l. if_next test (p' l) (q' l)) s) (if_next test p q s)
if-semi-follows test sm p p' q q' s stops f g = if-holds test p q s
    (λ h. weaken (f h) (λ y d r. same-followed _ _ s d y (λ l us n. if-value test (p' l) (q' l) true us s.last (near-next test true sm n h)) r))
    (λ h. weaken (g h) (λ y d r. false-firm test p' q' s d y stops h r))

-- ## Groups and places

group-takes : {A : Type 0} (i : Inner5) (p : List ℕ) (inside otherwise : Parser A) (t : Token5) (us : List Token5) (last : ℕ) → is_mark p t.kind ≡ true → i.may_open ≡ true
    → on_group i p inside otherwise (record { tokens = t ∷ us; last = last }) ≡ inside (record { tokens = us; last = t.end })
group-takes i p inside otherwise t us last e m =
    ap (λ v. choose v (choose i.may_open (on (mark p) (λ u. inside) otherwise) (fails Depth)) otherwise (record { tokens = t ∷ us; last = last })) e
    ∙ ap (λ v. choose v (on (mark p) (λ u. inside) otherwise) (fails Depth) (record { tokens = t ∷ us; last = last })) m
    ∙ ap (λ v. on_taken (kept_if v t) t us (λ u. inside) otherwise (record { tokens = t ∷ us; last = last })) e

group-skips : {A : Type 0} (i : Inner5) (p : List ℕ) (inside otherwise : Parser A) (us : List Token5) (last : ℕ) → next_is (next_mark p) us ≡ false
    → on_group i p inside otherwise (record { tokens = us; last = last }) ≡ otherwise (record { tokens = us; last = last })
group-skips i p inside otherwise us last e = if-value (next_mark p) _ otherwise false us last e

group-hit : {A : Type 0} (i : ℕ → Inner5) (p : List ℕ) (inside otherwise : ℕ → Parser A) {s c d : Input5} {y : A} → ((l : ℕ) → (i l).may_open ≡ true) → Next (IsMark p) s c → Followed inside c y d → Followed (λ l. on_group (i l) p (inside l) (otherwise l)) s y d
group-hit i p inside otherwise {d = d} {y = y} o (next {t = t} {ts = ts} {last = last} e) r = taken-followed _ _ t ts last d y (λ l us. group-takes (i l) p (inside l) (otherwise l) t us last is (o l)) r
  where
    is : is_mark p t.kind ≡ true
    is = rw e (bytes_eq-refl p)

pub group-follows : {A : Type 0} (i : Inner5) (i' : ℕ → Inner5) (p : List ℕ) (inside : Parser A) (inside' : ℕ → Parser A) (otherwise : Parser A) (otherwise' : ℕ → Parser A) (s : Input5) → (i.may_open ≡ true → (l : ℕ) → (i' l).may_open ≡ true)
    → (i.may_open ≡ true → (c : Input5) → Holds (Followed inside' c) (inside c)) → (next_is (next_mark p) s.tokens ≡ false → Holds (Followed otherwise' s) (otherwise s)) → Holds (Followed (λ l. on_group (i' l) p (inside' l) (otherwise' l)) s) (on_group i p inside otherwise s)
group-follows i i' p inside inside' otherwise otherwise' s opens f g = group-holds i p inside otherwise s
    (λ o c n. weaken (f o c) (λ y d r. group-hit i' p inside' otherwise' (opens o) n r))
    (λ m. weaken (g m) (λ y d r. same-followed _ _ s d y (λ l us n. group-skips (i' l) p (inside' l) (otherwise' l) us s.last (near-next (next_mark p) false (λ b e a. refl) n m)) r))

-- where the place of the begin counts nothing before a semicolon
abbrev pub PlaceFree : {A : Type 0} → (ℕ → ℕ → Parser A) → Type 0
PlaceFree p = (l at at' b e : ℕ) (a : Bool) (us : List Token5) (last : ℕ) → p l at (record { tokens = semi b e a ∷ us; last = last }) ≡ p l at' (record { tokens = semi b e a ∷ us; last = last })

from-near : {A : Type 0} (p : ℕ → ℕ → Parser A) → PlaceFree p → (l last : ℕ) {ts us : List Token5} → Near ts us → from (p l) (record { tokens = us; last = last }) ≡ p l (begin_of ts) (record { tokens = us; last = last })
from-near p free l last near_end = refl
from-near p free l last near_same = refl
from-near p free l last (near_semi {ts = ts} {us = us} b e a) = free l b (begin_of ts) b e a us last

pub from-follows : {A : Type 0} (p : ℕ → Parser A) (p' : ℕ → ℕ → Parser A) (s : Input5) → PlaceFree p' → Holds (Followed (λ l. p' l (begin_of s.tokens)) s) (p (begin_of s.tokens) s) → Holds (Followed (λ l. from (p' l)) s) (from p s)
from-follows p p' s free h = weaken h (λ y d r. same-followed _ _ s d y (λ l us n. from-near p' free l s.last n) r)

-- a value that hangs on the end of the last token alone
pub made-follows : {A : Type 0} (v : Input5 → A) (s : Input5) → ((ts us : List Token5) (last : ℕ) → v (record { tokens = ts; last = last }) ≡ v (record { tokens = us; last = last })) → Holds (Followed (λ l c. Took (v c) c) s) (Took (v s) s)
made-follows v s h = took (record { filled = []; ends = refl; gaps = stop; run = λ l rest k. ap (λ x. Took x (record { tokens = rest; last = s.last })) (h rest s.tokens s.last) })

pub returns-follows : {A : Type 0} (x : A) (s : Input5) → Holds (Followed (λ l. returns x) s) (returns x s)
returns-follows x s = took (returns-followed x s)

-- the same family, spelled otherwise
pub spelled-follows : {A : Type 0} (p q : ℕ → Parser A) (s : Input5) {o : Outcome5 A} → ((l : ℕ) → p l ≡ q l) → Holds (Followed q s) o → Holds (Followed p s) o
spelled-follows p q s h k = weaken k (λ y d r. same-followed p q s d y (λ l us n. ap (λ f. f (record { tokens = us; last = s.last })) (h l)) r)

-- ## Semicolons

-- The readers for one construct deeper, that insert and that do not.
pub record Follows (i : Inner5) (i' : ℕ → Inner5) : Type 0 where
  pub plain : (l : ℕ) → (i' l).inserting ≡ false
  pub fuel : (l : ℕ) → (i' l).fuel ≡ plus i.fuel l
  pub opens : i.may_open ≡ true → (l : ℕ) → (i' l).may_open ≡ true
  pub sequence : (k : Bool) (s : Input5) → Holds (Followed (λ l. (i' l).sequence k) s) (i.sequence k s)
  pub assignment : (k : Bool) (s : Input5) → Holds (Followed (λ l. (i' l).assignment k) s) (i.assignment k s)
  pub unary : (s : Input5) → Holds (Followed (λ l. (i' l).unary) s) (i.unary s)
  pub callee : (s : Input5) → Holds (Followed (λ l. (i' l).callee) s) (i.callee s)
  pub property : (s : Input5) → Holds (Followed (λ l. (i' l).property) s) (i.property s)
  pub declared : (k : Bool) (s : Input5) → Holds (Followed (λ l. (i' l).declared k) s) (i.declared k s)
  pub statement : (inside top : Bool) (s : Input5) → Holds (Followed (λ l. (i' l).statement inside top) s) (i.statement inside top s)
  pub statement_stops : (inside top : Bool) → StopsAtSemi (λ l. (i' l).statement inside top)

pub semicolon-none : (i : Inner5) (ts : List Token5) (last : ℕ) → i.inserting ≡ false → Misses ending ts → Never (semicolon i (record { tokens = ts; last = last }))
unfolding semicolon
semicolon-none i [] last e m = choose-holds inserts (fails Syntax) i.inserting (record { tokens = []; last = last }) (λ h. absurd (true≢false (sym h ∙ e))) (λ h. fault)
semicolon-none i (t ∷ ts) last e m = subst (λ o. Never (on_taken o t ts (λ u. returns tt) (choose i.inserting inserts (fails Syntax)) (record { tokens = t ∷ ts; last = last }))) (sym m)
    (choose-holds inserts (fails Syntax) i.inserting (record { tokens = t ∷ ts; last = last }) (λ h. absurd (true≢false (sym h ∙ e))) (λ h. fault))

misses-same : {ts us : List Token5} → SameHead ts us → Misses ending ts → Misses ending us
misses-same nothing m = m
misses-same same m = m

semicolon-put : (i' : ℕ → Inner5) (s : Input5) → ((l : ℕ) → (i' l).inserting ≡ false) → Misses ending s.tokens → is_insertable s.tokens ≡ true → Followed (λ l. semicolon (i' l)) s tt s
unfolding semicolon
semicolon-put i' s plain m n = record {
  filled = semi s.last s.last false ∷ [];
  ends = refl;
  gaps = insert s.last refl (λ l rest h. semicolon-none (i' l) rest s.last (plain l) (misses-same h m)) n stop;
  run = λ l rest h. refl;
}

pub semicolon-follows : (i : Inner5) (i' : ℕ → Inner5) (f : Follows i i') (s : Input5) → Holds (Followed (λ l. semicolon (i' l)) s) (semicolon i s)
unfolding semicolon
semicolon-follows i i' f s = on-holds ending _ _ s
    (λ u c h. took (on-hit ending (λ l u. returns tt) (λ l. choose (i' l).inserting inserts (fails Syntax)) h (returns-followed tt c)))
    (λ m. choose-holds inserts (fails Syntax) i.inserting s
    (λ h. choose-holds (returns tt) (fails Syntax) (is_insertable s.tokens) s (λ n. took (semicolon-put i' s f.plain m n)) (λ n. fault))
    (λ h. fault))

-- a test before which nothing is read, and else a reader that begins with no semicolon
pub unless-follows : {A : Type 0} (test : Token5 → Bool) (stop_ : Stop5) (q : Parser A) (q' : ℕ → Parser A) (s : Input5) → StopsAtSemi q' → (next_is test s.tokens ≡ false → Holds (Followed q' s) (q s)) → Holds (Followed (λ l. if_next test (fails stop_) (q' l)) s) (if_next test (fails stop_) q s)
unless-follows test stop_ q q' s stops g = if-holds test (fails stop_) q s (λ h. fault) (λ h. weaken (g h) (λ y d r. false-firm test (λ l. fails stop_) q' s d y stops h r))
