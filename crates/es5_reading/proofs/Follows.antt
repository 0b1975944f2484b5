-- When a run that inserts semicolons is a run over the tokens with the semicolons put in, of the same reader without
-- insertion. The reader without insertion is a family, in which more constructs may open and loops have more turns.
use Rattle.std.proofs.Common.{◌≡◌, ℕ, zero, suc, Bool, true, false, List, [], ◌∷◌, ◌++◌, refl, sym, ap, subst, ◌∙◌, append_assoc}
use Rattle.es5_ast.specs.Lexical.{Token5, Inserted}
use Rattle.es5_ast.specs.Grammar.{end_of}
use Rattle.es5_reading.specs.Parser.{Input5, Outcome5, Took, Parser, after, ◌>>=◌, is_insertable}
use Rattle.es5_reading.proofs.Posts.{Holds, bind, weaken}
use Rattle.es5_reading.proofs.Spans.{end-append}

-- the sum, by recursion on the first number
abbrev pub plus : ℕ → ℕ → ℕ
plus zero l = l
plus (suc n) l = suc (plus n l)

abbrev pub semi : ℕ → ℕ → Bool → Token5
semi begin end line = record { begin = begin; end = end; after_line = line; kind = Inserted }

-- ## Next tokens

pub data SameHead : List Token5 → List Token5 → Type 0 where
  nothing : SameHead [] []
  same : {t : Token5} {ts us : List Token5} → SameHead (t ∷ ts) (t ∷ us)

-- the same next token, or an inserted semicolon
pub data Near : List Token5 → List Token5 → Type 0 where
  near_end : Near [] []
  near_same : {t : Token5} {ts us : List Token5} → Near (t ∷ ts) (t ∷ us)
  near_semi : {ts us : List Token5} (begin end : ℕ) (line : Bool) → Near ts (semi begin end line ∷ us)

pub near : {ts us : List Token5} → SameHead ts us → Near ts us
near nothing = near_end
near same = near_same

near-head : {all xs : List Token5} {u : Token5} (ys : List Token5) → Near all (u ∷ xs) → Near all (u ∷ ys)
near-head ys near_same = near_same
near-head ys (near_semi b e l) = near_semi b e l

same-refl : (ts : List Token5) → SameHead ts ts
same-refl [] = nothing
same-refl (t ∷ ts) = same

-- ## Insertions

abbrev pub Never : {A : Type 0} → Outcome5 A → Type 0
Never o = Holds (λ x c. ⊥) o

-- the reader goes on with no tokens that begin as these, after those before
abbrev pub Dead : {A : Type 0} → (ℕ → Parser A) → ℕ → List Token5 → List Token5 → Type 0
Dead p last before ts = (l : ℕ) (rest : List Token5) → SameHead ts rest → Never (p l (record { tokens = before ++ rest; last = last }))

-- Which tokens come of those from one place to another, after those before, if a semicolon goes in only where it is dead.
pub data Gaps (dead : List Token5 → List Token5 → Type 0) (last : ℕ) : List Token5 → List Token5 → List Token5 → List Token5 → Type 0 where
  stop : {before ts : List Token5} → Gaps dead last before ts ts []
  keep : {before ts us filled : List Token5} {t : Token5} → Gaps dead last (before ++ t ∷ []) ts us filled → Gaps dead last before (t ∷ ts) us (t ∷ filled)
  insert : {before ts us filled : List Token5} (at : ℕ) → at ≡ end_of last before → dead before ts → is_insertable ts ≡ true → Gaps dead last (before ++ semi at at false ∷ []) ts us filled → Gaps dead last before ts us (semi at at false ∷ filled)

-- The run with insertion is one without over the filled tokens, with any rest that stands so to the tokens left.
pub record FollowedBy {A : Type 0} (stands : List Token5 → List Token5 → Type 0) (p : ℕ → Parser A) (s : Input5) (x : A) (c : Input5) : Type 0 where
  pub filled : List Token5
  pub ends : c.last ≡ end_of s.last filled
  pub gaps : Gaps (Dead p s.last) s.last [] s.tokens c.tokens filled
  pub run : (l : ℕ) (rest : List Token5) → stands c.tokens rest → p l (record { tokens = filled ++ rest; last = s.last }) ≡ Took x (record { tokens = rest; last = c.last })

abbrev pub Followed : {A : Type 0} → (ℕ → Parser A) → Input5 → A → Input5 → Type 0
Followed p s x c = FollowedBy Near p s x c

-- what tokens after those before are, seen from the begin
abbrev Seen : List Token5 → List Token5 → List Token5 → Type 0
Seen all before ts = (rest : List Token5) → SameHead ts rest → Near all (before ++ rest)

seen-semi : (all before ts : List Token5) (b e : ℕ) (a : Bool) → Seen all before ts → (rest : List Token5) → Near all (before ++ semi b e a ∷ rest)
seen-semi all [] ts b e a h rest = near_semi b e a
seen-semi all (u ∷ before) ts b e a h rest = near-head (before ++ semi b e a ∷ rest) (h ts (same-refl ts))

gaps-map : (all : List Token5) (d e : List Token5 → List Token5 → Type 0) (last : ℕ) {before ts us filled : List Token5} → ((before ts : List Token5) → Seen all before ts → d before ts → e before ts)
    → Gaps d last before ts us filled → Seen all before ts → Gaps e last before ts us filled
gaps-map all d e last f stop h = stop
gaps-map all d e last {before = before} f (keep {t = t} g) h = keep (gaps-map all d e last f g (λ rest k. subst (λ us. Near all us) (sym (append_assoc before (t ∷ []) rest)) (h (t ∷ rest) same)))
gaps-map all d e last {before = before} {ts = ts} f (insert at is k m g) h = insert at is (f before ts h k) m
    (gaps-map all d e last f g (λ rest k. subst (λ us. Near all us) (sym (append_assoc before (semi at at false ∷ []) rest)) (seen-semi all before ts at at false h rest)))

pub gaps-each : {d e : List Token5 → List Token5 → Type 0} {last : ℕ} {before ts us filled : List Token5} → ((before ts : List Token5) → d before ts → e before ts) → Gaps d last before ts us filled → Gaps e last before ts us filled
gaps-each f stop = stop
gaps-each f (keep g) = keep (gaps-each f g)
gaps-each f (insert at is m n g) = insert at is (f _ _ m) n (gaps-each f g)

seen-start : (ts : List Token5) → Seen ts [] ts
seen-start ts rest h = near h

gaps-append : (d : List Token5 → List Token5 → Type 0) (last : ℕ) {before ts us vs filled more : List Token5} → Gaps d last before ts us filled → Gaps d last (before ++ filled) us vs more → Gaps d last before ts vs (filled ++ more)
gaps-append d last {before = before} {us = us} {vs = vs} {more = more} stop k = subst (λ b. Gaps d last b us vs more) (append-nil before) k
  where
    append-nil : (xs : List Token5) → xs ++ [] ≡ xs
    append-nil [] = refl
    append-nil (x ∷ xs) = ap (λ ys. x ∷ ys) (append-nil xs)
gaps-append d last {before = before} {us = us} {vs = vs} {more = more} (keep {filled = filled} {t = t} g) k = keep (gaps-append d last g (subst (λ b. Gaps d last b us vs more) (sym (append_assoc before (t ∷ []) filled)) k))
gaps-append d last {before = before} {us = us} {vs = vs} {more = more} (insert {filled = filled} at is m n g) k = insert at is m n (gaps-append d last g (subst (λ b. Gaps d last b us vs more) (sym (append_assoc before (semi at at false ∷ []) filled)) k))

gaps-shift : (d e : List Token5 → List Token5 → Type 0) (from_ to_ : ℕ) (front : List Token5) {before ts us filled : List Token5} → from_ ≡ end_of to_ front → ((before ts : List Token5) → d before ts → e (front ++ before) ts)
    → Gaps d from_ before ts us filled → Gaps e to_ (front ++ before) ts us filled
gaps-shift d e from_ to_ front h f stop = stop
gaps-shift d e from_ to_ front {before = before} h f (keep {ts = ts} {us = us} {filled = filled} {t = t} g) = keep (subst (λ b. Gaps e to_ b ts us filled) (sym (append_assoc front before (t ∷ []))) (gaps-shift d e from_ to_ front h f g))
gaps-shift d e from_ to_ front {before = before} h f (insert {ts = ts} {us = us} {filled = filled} at is m n g) =
    insert at (is ∙ ap (λ k. end_of k before) h ∙ sym (end-append to_ front before)) (f before ts m) n
    (subst (λ b. Gaps e to_ b ts us filled) (sym (append_assoc front before (semi at at false ∷ []))) (gaps-shift d e from_ to_ front h f g))

-- what is filled begins as the tokens do, or with a semicolon
near-through : {d : List Token5 → List Token5 → Type 0} {last : ℕ} {before ts us filled : List Token5} (rest : List Token5) → Gaps d last before ts us filled → Near us rest → Near ts (filled ++ rest)
near-through rest stop h = h
near-through rest (keep g) h = near_same
near-through rest (insert at is m n g) h = near_semi at at false

-- ## One reader after another

pub bind-followed : {A B : Type 0} (stands : List Token5 → List Token5 → Type 0) (nears : (ts us : List Token5) → stands ts us → Near ts us) (p : ℕ → Parser A) (q : ℕ → A → Parser B) (s b c : Input5) (x : A) (y : B)
    → Followed p s x b → FollowedBy stands (λ l. q l x) b y c → FollowedBy stands (λ l. ◌>>=◌ (p l) (q l)) s y c
bind-followed stands nears p q s b c x y r r' = record {
  filled = r.filled ++ r'.filled;
  ends = r'.ends ∙ ap (λ n. end_of n r'.filled) r.ends ∙ sym (end-append s.last r.filled r'.filled);
  gaps = gaps-append (Dead (λ l. ◌>>=◌ (p l) (q l)) s.last) s.last
      (gaps-map s.tokens (Dead p s.last) (Dead (λ l. ◌>>=◌ (p l) (q l)) s.last) s.last (λ before ts seen dead l rest h. bind (dead l rest h) (λ z d e. absurd e)) r.gaps (seen-start s.tokens))
      (subst (λ front. Gaps (Dead (λ l. ◌>>=◌ (p l) (q l)) s.last) s.last front b.tokens c.tokens r'.filled) (append-nil r.filled)
      (gaps-shift (SeenDead) (Dead (λ l. ◌>>=◌ (p l) (q l)) s.last) b.last s.last r.filled r.ends later (gaps-map b.tokens (Dead (λ l. q l x) b.last) SeenDead b.last (λ before ts seen dead. (seen, dead)) r'.gaps (seen-start b.tokens))));
  run = λ l rest h. ap (λ ts. after (p l (record { tokens = ts; last = s.last })) (q l)) (append_assoc r.filled r'.filled rest)
      ∙ ap (λ o. after o (q l)) (r.run l (r'.filled ++ rest) (near-through rest r'.gaps (nears c.tokens rest h))) ∙ r'.run l rest h;
}
  where
    append-nil : (xs : List Token5) → xs ++ [] ≡ xs
    append-nil [] = refl
    append-nil (z ∷ xs) = ap (λ ys. z ∷ ys) (append-nil xs)

    SeenDead : List Token5 → List Token5 → Type 0
    SeenDead before ts = Seen b.tokens before ts × Dead (λ l. q l x) b.last before ts

    later : (before ts : List Token5) → SeenDead before ts → Dead (λ l. ◌>>=◌ (p l) (q l)) s.last (r.filled ++ before) ts
    later before ts (seen, dead) l rest h = subst (λ us. Never (after (p l (record { tokens = us; last = s.last })) (q l))) (sym (append_assoc r.filled before rest))
        (subst (λ o. Never (after o (q l))) (sym (r.run l (before ++ rest) (seen rest h))) (dead l rest h))

pub bind-follows : {A B : Type 0} (p : Outcome5 A) (p' : ℕ → Parser A) (q : A → Parser B) (q' : ℕ → A → Parser B) (s : Input5)
    → Holds (Followed p' s) p → ((x : A) (c : Input5) → Holds (Followed (λ l. q' l x) c) (q x c)) → Holds (Followed (λ l. ◌>>=◌ (p' l) (q' l)) s) (after p q)
bind-follows p p' q q' s h f = bind h (λ x b r. weaken (f x b) (λ y c r'. bind-followed Near (λ ts us k. k) p' q' s b c x y r r'))

pub returns-followed : {A : Type 0} (x : A) (s : Input5) → Followed (λ l. λ c. Took x c) s x s
returns-followed x s = record { filled = []; ends = refl; gaps = stop; run = λ l rest h. refl }

-- ## Choices

-- readers that do the same wherever the next token is the same or a semicolon
pub same-followed-by : {A : Type 0} (stands : List Token5 → List Token5 → Type 0) (nears : (ts us : List Token5) → stands ts us → Near ts us) (p q : ℕ → Parser A) (s c : Input5) (x : A)
    → ((l : ℕ) (ts : List Token5) → Near s.tokens ts → p l (record { tokens = ts; last = s.last }) ≡ q l (record { tokens = ts; last = s.last })) → FollowedBy stands q s x c → FollowedBy stands p s x c
same-followed-by stands nears p q s c x h r = record {
  filled = r.filled;
  ends = r.ends;
  gaps = gaps-map s.tokens (Dead q s.last) (Dead p s.last) s.last (λ before ts seen dead. moved-dead before ts seen dead) r.gaps (seen-start s.tokens);
  run = λ l rest k. h l (r.filled ++ rest) (near-through rest r.gaps (nears c.tokens rest k)) ∙ r.run l rest k;
}
  where
    moved-dead : (before ts : List Token5) → Seen s.tokens before ts → Dead q s.last before ts → Dead p s.last before ts
    moved-dead before ts seen dead l rest k = subst (λ o. Never o) (sym (h l (before ++ rest) (seen rest k))) (dead l rest k)

pub same-followed : {A : Type 0} (p q : ℕ → Parser A) (s c : Input5) (x : A) → ((l : ℕ) (ts : List Token5) → Near s.tokens ts → p l (record { tokens = ts; last = s.last }) ≡ q l (record { tokens = ts; last = s.last })) → Followed q s x c → Followed p s x c
same-followed p q s c x h r = same-followed-by Near (λ ts us k. k) p q s c x h r

-- a token, and then a reader
pub taken-followed : {A : Type 0} (p q : ℕ → Parser A) (t : Token5) (ts : List Token5) (last : ℕ) (c : Input5) (x : A) → ((l : ℕ) (us : List Token5) → p l (record { tokens = t ∷ us; last = last }) ≡ q l (record { tokens = us; last = t.end }))
    → Followed q (record { tokens = ts; last = t.end }) x c → Followed p (record { tokens = t ∷ ts; last = last }) x c
taken-followed p q t ts last c x h r = record {
  filled = t ∷ r.filled;
  ends = r.ends;
  gaps = keep (gaps-shift (Dead q t.end) (Dead p last) t.end last (t ∷ []) refl (λ before us dead l rest k. subst (λ o. Never o) (sym (h l (before ++ rest))) (dead l rest k)) r.gaps);
  run = λ l rest k. h l (r.filled ++ rest) ∙ r.run l rest k;
}
