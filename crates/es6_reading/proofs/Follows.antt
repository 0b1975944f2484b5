-- When a run that inserts semicolons is a run over the tokens with the semicolons put in, of the same reader without
-- insertion. The reader without insertion is a family, in which more constructs may open and loops have more turns.
use Rattle.std.proofs.Common.{◌≡◌, ℕ, zero, suc, Bool, true, false, ◌&&◌, ◌||◌, not, List, [], ◌∷◌, ◌++◌, refl, sym, ap, subst, ◌∙◌, append_assoc}
use Rattle.std.proofs.lemmas.Bool.{false≢true}
use Rattle.es6_lexer.specs.declared.token.TokenKind.TheVariants as kinds
use Rattle.es6_lexer.specs.declared.token.Punctuator.TheVariants as marks
use Rattle.es6_ast.specs.Tokens.{Filling, Read, Inserted, Filled, end_of}
use Rattle.es6_reading.specs.Parser.{Input, Outcome, Took, Parser, after, ◌>>=◌, next_is, is_mark, ends_block, is_insertable}
use Rattle.es6_reading.specs.Words.{is_arrow}
use Rattle.es6_reading.proofs.Posts.{Holds, bind, weaken}
use Rattle.es6_reading.proofs.Spans.{end-append}

-- the sum, by recursion on the first number
abbrev pub plus : ℕ → ℕ → ℕ
plus zero l = l
plus (suc n) l = suc (plus n l)

abbrev pub semi : Bool → ℕ → Filled
semi do_while at = record { kind = Inserted do_while; span = record { begin = at; end = at }; newline = false }

-- ## Next tokens

pub data SameHead : List Filled → List Filled → Type 0 where
  nothing : SameHead [] []
  same : {t : Filled} {ts us : List Filled} → SameHead (t ∷ ts) (t ∷ us)

-- the same next token, or an inserted semicolon, which stands before no `=>` of an arrow function
pub data Near : List Filled → List Filled → Type 0 where
  near_end : Near [] []
  near_same : {t : Filled} {ts us : List Filled} → Near (t ∷ ts) (t ∷ us)
  near_semi : {ts us : List Filled} (d : Bool) (at : ℕ) → next_is is_arrow ts ≡ false → Near ts (semi d at ∷ us)

-- any tokens at all
abbrev pub Whatever : List Filled → List Filled → Type 0
Whatever ts us = Unit {0}

pub near : {ts us : List Filled} → SameHead ts us → Near ts us
near nothing = near_end
near same = near_same

near-head : {all xs : List Filled} {u : Filled} (ys : List Filled) → Near all (u ∷ xs) → Near all (u ∷ ys)
near-head ys near_same = near_same
near-head ys (near_semi d at h) = near_semi d at h

same-refl : (ts : List Filled) → SameHead ts ts
same-refl [] = nothing
same-refl (t ∷ ts) = same

-- ## Insertions

abbrev pub Never : {A : Type 0} → Outcome A → Type 0
Never o = Holds (λ x c. ⊥) o

-- the reader goes on with no tokens that begin as these, after those before
abbrev pub Dead : {A : Type 0} → (ℕ → Parser A) → ℕ → List Filled → List Filled → Type 0
Dead p last before ts = (l : ℕ) (rest : List Filled) → SameHead ts rest → Never (p l (record { tokens = before ++ rest; last = last }))

-- Where a semicolon may go in, of either kind. One that ends a do-while stands after other tokens.
pub data MayInsert : Bool → List Filled → List Filled → Type 0 where
  before_line : {before ts : List Filled} → is_insertable ts ≡ true → MayInsert false before ts
  after_do_while : {u t : Filled} {before ts : List Filled} → MayInsert true (u ∷ before) (t ∷ ts)

-- Which tokens come of those from one place to another, after those before, if a semicolon goes in only where it is dead.
pub data Gaps (dead : List Filled → List Filled → Type 0) (last : ℕ) : List Filled → List Filled → List Filled → List Filled → Type 0 where
  stop : {before ts : List Filled} → Gaps dead last before ts ts []
  keep : {before ts us filled : List Filled} {t : Filled} → Gaps dead last (before ++ t ∷ []) ts us filled → Gaps dead last before (t ∷ ts) us (t ∷ filled)
  insert : {before ts us filled : List Filled} (d : Bool) (at : ℕ) → at ≡ end_of last before → dead before ts → MayInsert d before ts → Gaps dead last (before ++ semi d at ∷ []) ts us filled → Gaps dead last before ts us (semi d at ∷ filled)

-- The run with insertion is one without over the filled tokens, with any rest that stands so to the tokens left.
pub record FollowedBy {A : Type 0} (stands : List Filled → List Filled → Type 0) (p : ℕ → Parser A) (s : Input) (x : A) (c : Input) : Type 0 where
  pub filled : List Filled
  pub ends : c.last ≡ end_of s.last filled
  pub gaps : Gaps (Dead p s.last) s.last [] s.tokens c.tokens filled
  pub run : (l : ℕ) (rest : List Filled) → stands c.tokens rest → p l (record { tokens = filled ++ rest; last = s.last }) ≡ Took x (record { tokens = rest; last = c.last })

abbrev pub Followed : {A : Type 0} → (ℕ → Parser A) → Input → A → Input → Type 0
Followed p s x c = FollowedBy Near p s x c

pub stands-less : {A : Type 0} {more less : List Filled → List Filled → Type 0} {p : ℕ → Parser A} {s c : Input} {x : A} → ((ts us : List Filled) → less ts us → more ts us) → FollowedBy more p s x c → FollowedBy less p s x c
stands-less f r = record { filled = r.filled; ends = r.ends; gaps = r.gaps; run = λ l rest h. r.run l rest (f _ rest h) }

-- what tokens after those before are, seen from the begin
abbrev Seen : List Filled → List Filled → List Filled → Type 0
Seen all before ts = (rest : List Filled) → SameHead ts rest → Near all (before ++ rest)

or-arrow : (line arrow : Bool) (k : Filling) → (line || ends_block k) ≡ true → is_mark marks.Arrow k ≡ arrow → (arrow && not line) ≡ false
or-arrow true true k h e = refl
or-arrow true false k h e = refl
or-arrow false false k h e = refl
or-arrow false true (Inserted d) h e = absurd (false≢true h)
or-arrow false true (Read (kinds.Punctuator marks.RightBrace)) h e = absurd (false≢true e)
or-arrow false true (Read kinds.End) h e = absurd (false≢true e)
or-arrow false true (Read k) h e = absurd (false≢true h)

-- no semicolon goes in before the `=>` of an arrow function
pub not-before-arrow : (ts : List Filled) → is_insertable ts ≡ true → next_is is_arrow ts ≡ false
not-before-arrow [] h = refl
not-before-arrow (t ∷ ts) h = or-arrow t.newline (is_mark marks.Arrow t.kind) t.kind h refl

seen-semi : (all before ts : List Filled) (d : Bool) (at : ℕ) → MayInsert d before ts → Seen all before ts → (rest : List Filled) → Near all (before ++ semi d at ∷ rest)
seen-semi all [] ts d at (before_line m) h rest = near_semi false at (arrowless all ts (h ts (same-refl ts)) (not-before-arrow ts m))
  where
    arrowless : (all ts : List Filled) → Near all ts → next_is is_arrow ts ≡ false → next_is is_arrow all ≡ false
    arrowless all ts near_end m = m
    arrowless all ts near_same m = m
    arrowless all ts (near_semi d at k) m = k
seen-semi all (u ∷ before) ts d at m h rest = near-head (before ++ semi d at ∷ rest) (h ts (same-refl ts))

gaps-map : (all : List Filled) (d e : List Filled → List Filled → Type 0) (last : ℕ) {before ts us filled : List Filled} → ((before ts : List Filled) → Seen all before ts → d before ts → e before ts)
    → Gaps d last before ts us filled → Seen all before ts → Gaps e last before ts us filled
gaps-map all d e last f stop h = stop
gaps-map all d e last {before = before} f (keep {t = t} g) h = keep (gaps-map all d e last f g (λ rest k. subst (λ us. Near all us) (sym (append_assoc before (t ∷ []) rest)) (h (t ∷ rest) same)))
gaps-map all d e last {before = before} {ts = ts} f (insert b at is k m g) h = insert b at is (f before ts h k) m
    (gaps-map all d e last f g (λ rest k. subst (λ us. Near all us) (sym (append_assoc before (semi b at ∷ []) rest)) (seen-semi all before ts b at m h rest)))

pub gaps-each : {d e : List Filled → List Filled → Type 0} {last : ℕ} {before ts us filled : List Filled} → ((before ts : List Filled) → d before ts → e before ts) → Gaps d last before ts us filled → Gaps e last before ts us filled
gaps-each f stop = stop
gaps-each f (keep g) = keep (gaps-each f g)
gaps-each f (insert b at is m n g) = insert b at is (f _ _ m) n (gaps-each f g)

seen-start : (ts : List Filled) → Seen ts [] ts
seen-start ts rest h = near h

pub append-nil : (xs : List Filled) → xs ++ [] ≡ xs
append-nil [] = refl
append-nil (x ∷ xs) = ap (λ ys. x ∷ ys) (append-nil xs)

pub gaps-append : (d : List Filled → List Filled → Type 0) (last : ℕ) {before ts us vs filled more : List Filled} → Gaps d last before ts us filled → Gaps d last (before ++ filled) us vs more → Gaps d last before ts vs (filled ++ more)
gaps-append d last {before = before} {us = us} {vs = vs} {more = more} stop k = subst (λ b. Gaps d last b us vs more) (append-nil before) k
gaps-append d last {before = before} {us = us} {vs = vs} {more = more} (keep {filled = filled} {t = t} g) k = keep (gaps-append d last g (subst (λ b. Gaps d last b us vs more) (sym (append_assoc before (t ∷ []) filled)) k))
gaps-append d last {before = before} {us = us} {vs = vs} {more = more} (insert {filled = filled} b at is m n g) k = insert b at is m n (gaps-append d last g (subst (λ xs. Gaps d last xs us vs more) (sym (append_assoc before (semi b at ∷ []) filled)) k))

may-after : {b : Bool} (front before ts : List Filled) → MayInsert b before ts → MayInsert b (front ++ before) ts
may-after front before ts (before_line h) = before_line h
may-after [] before ts after_do_while = after_do_while
may-after (t ∷ front) before ts after_do_while = after_do_while

pub gaps-shift : (d e : List Filled → List Filled → Type 0) (from_ to_ : ℕ) (front : List Filled) {before ts us filled : List Filled} → from_ ≡ end_of to_ front → ((before ts : List Filled) → d before ts → e (front ++ before) ts)
    → Gaps d from_ before ts us filled → Gaps e to_ (front ++ before) ts us filled
gaps-shift d e from_ to_ front h f stop = stop
gaps-shift d e from_ to_ front {before = before} h f (keep {ts = ts} {us = us} {filled = filled} {t = t} g) = keep (subst (λ b. Gaps e to_ b ts us filled) (sym (append_assoc front before (t ∷ []))) (gaps-shift d e from_ to_ front h f g))
gaps-shift d e from_ to_ front {before = before} h f (insert {ts = ts} {us = us} {filled = filled} b at is m n g) =
    insert b at (is ∙ ap (λ k. end_of k before) h ∙ sym (end-append to_ front before)) (f before ts m) (may-after front before ts n)
    (subst (λ xs. Gaps e to_ xs ts us filled) (sym (append_assoc front before (semi b at ∷ []))) (gaps-shift d e from_ to_ front h f g))

-- what is filled begins as the tokens do, or with a semicolon
pub near-through : {d : List Filled → List Filled → Type 0} {last : ℕ} {ts us filled : List Filled} (rest : List Filled) → Gaps d last [] ts us filled → Near us rest → Near ts (filled ++ rest)
near-through rest stop h = h
near-through rest (keep g) h = near_same
near-through rest (insert b at is m (before_line n) g) h = near_semi false at (not-before-arrow _ n)

-- ## One reader after another

pub bind-followed : {A B : Type 0} (stands : List Filled → List Filled → Type 0) (nears : (ts us : List Filled) → stands ts us → Near ts us) (p : ℕ → Parser A) (q : ℕ → A → Parser B) (s b c : Input) (x : A) (y : B)
    → Followed p s x b → FollowedBy stands (λ l. q l x) b y c → FollowedBy stands (λ l. ◌>>=◌ (p l) (q l)) s y c
bind-followed stands nears p q s b c x y r r' = record {
  filled = r.filled ++ r'.filled;
  ends = r'.ends ∙ ap (λ n. end_of n r'.filled) r.ends ∙ sym (end-append s.last r.filled r'.filled);
  gaps = gaps-append (Dead (λ l. ◌>>=◌ (p l) (q l)) s.last) s.last
      (gaps-each (λ before ts dead l rest h. bind (dead l rest h) (λ z d e. absurd e)) r.gaps)
      (subst (λ front. Gaps (Dead (λ l. ◌>>=◌ (p l) (q l)) s.last) s.last front b.tokens c.tokens r'.filled) (append-nil r.filled)
      (gaps-shift (SeenDead) (Dead (λ l. ◌>>=◌ (p l) (q l)) s.last) b.last s.last r.filled r.ends later (gaps-map b.tokens (Dead (λ l. q l x) b.last) SeenDead b.last (λ before ts seen dead. (seen, dead)) r'.gaps (seen-start b.tokens))));
  run = λ l rest h. ap (λ ts. after (p l (record { tokens = ts; last = s.last })) (q l)) (append_assoc r.filled r'.filled rest)
      ∙ ap (λ o. after o (q l)) (r.run l (r'.filled ++ rest) (near-through rest r'.gaps (nears c.tokens rest h))) ∙ r'.run l rest h;
}
  where
    SeenDead : List Filled → List Filled → Type 0
    SeenDead before ts = Seen b.tokens before ts × Dead (λ l. q l x) b.last before ts

    later : (before ts : List Filled) → SeenDead before ts → Dead (λ l. ◌>>=◌ (p l) (q l)) s.last (r.filled ++ before) ts
    later before ts (seen, dead) l rest h = subst (λ us. Never (after (p l (record { tokens = us; last = s.last })) (q l))) (sym (append_assoc r.filled before rest))
        (subst (λ o. Never (after o (q l))) (sym (r.run l (before ++ rest) (seen rest h))) (dead l rest h))

pub bind-follows : {A B : Type 0} (p : Outcome A) (p' : ℕ → Parser A) (q : A → Parser B) (q' : ℕ → A → Parser B) (s : Input)
    → Holds (Followed p' s) p → ((x : A) (c : Input) → Holds (Followed (λ l. q' l x) c) (q x c)) → Holds (Followed (λ l. ◌>>=◌ (p' l) (q' l)) s) (after p q)
bind-follows p p' q q' s h f = bind h (λ x b r. weaken (f x b) (λ y c r'. bind-followed Near (λ ts us k. k) p' q' s b c x y r r'))

pub returns-followed : {A : Type 0} (x : A) (s : Input) → Followed (λ l. λ c. Took x c) s x s
returns-followed x s = record { filled = []; ends = refl; gaps = stop; run = λ l rest h. refl }

-- ## Choices

-- readers that do the same wherever the next token is the same or a semicolon
pub same-followed-by : {A : Type 0} (stands : List Filled → List Filled → Type 0) (nears : (ts us : List Filled) → stands ts us → Near ts us) (p q : ℕ → Parser A) (s c : Input) (x : A)
    → ((l : ℕ) (ts : List Filled) → Near s.tokens ts → p l (record { tokens = ts; last = s.last }) ≡ q l (record { tokens = ts; last = s.last })) → FollowedBy stands q s x c → FollowedBy stands p s x c
same-followed-by stands nears p q s c x h r = record {
  filled = r.filled;
  ends = r.ends;
  gaps = gaps-map s.tokens (Dead q s.last) (Dead p s.last) s.last (λ before ts seen dead. moved-dead before ts seen dead) r.gaps (seen-start s.tokens);
  run = λ l rest k. h l (r.filled ++ rest) (near-through rest r.gaps (nears c.tokens rest k)) ∙ r.run l rest k;
}
  where
    moved-dead : (before ts : List Filled) → Seen s.tokens before ts → Dead q s.last before ts → Dead p s.last before ts
    moved-dead before ts seen dead l rest k = subst (λ o. Never o) (sym (h l (before ++ rest) (seen rest k))) (dead l rest k)

pub same-followed : {A : Type 0} (p q : ℕ → Parser A) (s c : Input) (x : A) → ((l : ℕ) (ts : List Filled) → Near s.tokens ts → p l (record { tokens = ts; last = s.last }) ≡ q l (record { tokens = ts; last = s.last })) → Followed q s x c → Followed p s x c
same-followed p q s c x h r = same-followed-by Near (λ ts us k. k) p q s c x h r

-- a token, and then a reader
pub taken-followed : {A : Type 0} {stands : List Filled → List Filled → Type 0} (p q : ℕ → Parser A) (t : Filled) (ts : List Filled) (last : ℕ) (c : Input) (x : A) → ((l : ℕ) (us : List Filled) → p l (record { tokens = t ∷ us; last = last }) ≡ q l (record { tokens = us; last = t.span.end }))
    → FollowedBy stands q (record { tokens = ts; last = t.span.end }) x c → FollowedBy stands p (record { tokens = t ∷ ts; last = last }) x c
taken-followed p q t ts last c x h r = record {
  filled = t ∷ r.filled;
  ends = r.ends;
  gaps = keep (gaps-shift (Dead q t.span.end) (Dead p last) t.span.end last (t ∷ []) refl (λ before us dead l rest k. subst (λ o. Never o) (sym (h l (before ++ rest))) (dead l rest k)) r.gaps);
  run = λ l rest k. h l (r.filled ++ rest) ∙ r.run l rest k;
}

-- ## A reader that takes the next token

-- The next token is kept, and the run goes on from it.
pub record FirmBy {A : Type 0} (stands : List Filled → List Filled → Type 0) (p : ℕ → Parser A) (s : Input) (x : A) (c : Input) : Type 0 where
  pub first : Filled
  pub more : List Filled
  pub all : s.tokens ≡ first ∷ more
  pub filled : List Filled
  pub ends : c.last ≡ end_of first.span.end filled
  pub gaps : Gaps (Dead p s.last) s.last (first ∷ []) more c.tokens filled
  pub run : (l : ℕ) (rest : List Filled) → stands c.tokens rest → p l (record { tokens = first ∷ filled ++ rest; last = s.last }) ≡ Took x (record { tokens = rest; last = c.last })

pub taken-firm : {A : Type 0} {stands : List Filled → List Filled → Type 0} (p q : ℕ → Parser A) (t : Filled) (ts : List Filled) (last : ℕ) (c : Input) (x : A) → ((l : ℕ) (us : List Filled) → p l (record { tokens = t ∷ us; last = last }) ≡ q l (record { tokens = us; last = t.span.end }))
    → FollowedBy stands q (record { tokens = ts; last = t.span.end }) x c → FirmBy stands p (record { tokens = t ∷ ts; last = last }) x c
taken-firm p q t ts last c x h r = record {
  first = t;
  more = ts;
  all = refl;
  filled = r.filled;
  ends = r.ends;
  gaps = gaps-shift (Dead q t.span.end) (Dead p last) t.span.end last (t ∷ []) refl (λ before us dead l rest k. subst (λ o. Never o) (sym (h l (before ++ rest))) (dead l rest k)) r.gaps;
  run = λ l rest k. h l (r.filled ++ rest) ∙ r.run l rest k;
}

-- one reader after another that follows only where the same token comes next, if the second takes that token
pub bind-firm : {A B : Type 0} (stands : List Filled → List Filled → Type 0) (p : ℕ → Parser A) (q : ℕ → A → Parser B) (s b c : Input) (x : A) (y : B)
    → FollowedBy SameHead p s x b → FirmBy stands (λ l. q l x) b y c → FollowedBy stands (λ l. ◌>>=◌ (p l) (q l)) s y c
bind-firm {B = B} stands p q s b c x y r r' = record {
  filled = r.filled ++ r'.first ∷ r'.filled;
  ends = r'.ends ∙ sym (end-append s.last r.filled (r'.first ∷ r'.filled));
  gaps = gaps-append (Dead (λ l. ◌>>=◌ (p l) (q l)) s.last) s.last
      (gaps-each (λ before ts dead l rest h. bind (dead l rest h) (λ z d e. absurd e)) r.gaps)
      (subst (λ ts. Gaps (Dead (λ l. ◌>>=◌ (p l) (q l)) s.last) s.last r.filled ts c.tokens (r'.first ∷ r'.filled)) (sym r'.all)
      (keep (gaps-headed-shift r'.gaps)));
  run = λ l rest h. ap (λ ts. after (p l (record { tokens = ts; last = s.last })) (q l)) (append_assoc r.filled (r'.first ∷ r'.filled) rest)
      ∙ ap (λ o. after o (q l)) (r.run l (r'.first ∷ r'.filled ++ rest) (subst (λ ts. SameHead ts (r'.first ∷ r'.filled ++ rest)) (sym r'.all) same)) ∙ r'.run l rest h;
}
  where
    later : (before ts : List Filled) → Dead (λ l. q l x) b.last (r'.first ∷ before) ts → Dead (λ l. ◌>>=◌ (p l) (q l)) s.last (r.filled ++ r'.first ∷ before) ts
    later before ts dead l rest h = subst (λ us. Never (after (p l (record { tokens = us; last = s.last })) (q l))) (sym (append_assoc r.filled (r'.first ∷ before) rest))
        (subst (λ o. Never (after o (q l))) (sym (r.run l (r'.first ∷ before ++ rest) (subst (λ us. SameHead us (r'.first ∷ before ++ rest)) (sym r'.all) same))) (dead l rest h))

    gaps-headed-shift : {before ts us filled : List Filled} → Gaps (Dead (λ l. q l x) b.last) b.last (r'.first ∷ before) ts us filled → Gaps (Dead (λ l. ◌>>=◌ (p l) (q l)) s.last) s.last (r.filled ++ r'.first ∷ before) ts us filled
    gaps-headed-shift stop = stop
    gaps-headed-shift {before = before} (keep {ts = ts} {us = us} {filled = filled} {t = t} g) =
        keep (subst (λ xs. Gaps (Dead (λ l. ◌>>=◌ (p l) (q l)) s.last) s.last xs ts us filled) (sym (append_assoc r.filled (r'.first ∷ before) (t ∷ []))) (gaps-headed-shift g))
    gaps-headed-shift {before = before} (insert {ts = ts} {us = us} {filled = filled} d at is m n g) =
        insert d at (is ∙ sym (end-append s.last r.filled (r'.first ∷ before))) (later before ts m) (may-after r.filled (r'.first ∷ before) ts n)
        (subst (λ xs. Gaps (Dead (λ l. ◌>>=◌ (p l) (q l)) s.last) s.last xs ts us filled) (sym (append_assoc r.filled (r'.first ∷ before) (semi d at ∷ []))) (gaps-headed-shift g))
