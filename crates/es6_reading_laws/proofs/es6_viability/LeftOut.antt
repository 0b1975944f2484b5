-- A reader takes tokens that are filled, with semicolons put in where nothing goes on that it reads, also without these semicolons.
-- What goes on is what a reader without insertion reads whole.
use Rattle.std.proofs.Common.{◌≡◌, ◌∙◌, ℕ, zero, suc, ◌+◌, ◌≤◌, ◌<◌, arith, Bool, true, false, Option, List, [], ◌∷◌, ◌++◌, map, length, refl, sym, ap, subst, append_assoc}
use Rattle.std.proofs.lemmas.Bool.{false≢true}
use Rattle.std.proofs.lemmas.List.{append-nil}
use Rattle.es6_lexer.specs.declared.token.Token.{Token}
use Rattle.es6_lexer.specs.declared.token.TokenKind.{TokenKind}
use Rattle.es6_ast.specs.Semicolons as semicolons'
use Rattle.es6_ast.specs.Semicolons.{Begins, Fills, inserted, may_precede}
use Rattle.es6_ast.specs.Tokens.{Filled, Read, Inserted, read, end_of}
use Rattle.es6_ast.specs.declared.settings.Stop.{Stop}
use Rattle.es6_reading.specs.Parser.{Input, Outcome, Took, Fault, Parser}
use Rattle.es6_reading.proofs.Follows.{plus, semi, SameHead, same}
use Rattle.es6_reading.proofs.LocalReaders.{gain}
use Rattle.es6_reading.proofs.Locality.{Local, LocalOf, Modes, took_so, stops_so, too_deep, too_long, not_inserted, same_mode}
use Rattle.es6_reading_laws.proofs.es6_viability.Viable.{left, fills, Any, Half, stands, some, beyond, gives_up, run_of}
use Rattle.es6_reading_laws.proofs.es6_viability.Readers.{lasting}
use Rattle.es6_reading_laws.proofs.es6_viability.Beside.{Gap, Loss, BesideBy, Rows, here, later, Agree, took_all, joined, first_stops, aside, lost, Elsewhere, early, beyond}
use Rattle.es6_reading_laws.proofs.es6_viability.BesideStatements.{no-slack}

-- ## Lists

tail-of : {t u : Filled} {ts us : List Filled} → t ∷ ts ≡ u ∷ us → ts ≡ us
tail-of e = cc

head-of : {t u : Filled} {ts us : List Filled} → t ∷ ts ≡ u ∷ us → t ≡ u
head-of e = cc

not-cons : {t : Filled} {ts : List Filled} → t ∷ ts ≡ [] → ⊥
not-cons e = absurd (cc)

never-nil : (before : List Filled) (t : Filled) → before ++ t ∷ [] ≡ [] → ⊥
never-nil [] t e = not-cons e
never-nil (u ∷ before) t e = not-cons e

length-of : (front us : List Filled) → length (front ++ us) ≡ length front + length us
length-of [] us = omega arith
length-of (t ∷ front) us = step (length (front ++ us)) (length front) (length us) (length-of front us)
  where
    step : (a b c : ℕ) → a ≡ b + c → suc a ≡ suc b + c
    step a b c e = omega arith

less-same : (a b : ℕ) → a < b → a ≡ b → ⊥
less-same a b h e = omega arith

less-more : (a b c : ℕ) → a < c → a ≡ suc b + c → ⊥
less-more a b c h e = omega arith

record Inside_ (before front tail us : List Filled) : Type 0 where
  pub first : Filled
  pub more : List Filled
  pub whole : before ≡ front ++ first ∷ more
  pub left_ : us ≡ first ∷ more ++ tail

ends-before : (before front tail us : List Filled) → before ++ tail ≡ front ++ us → length tail < length us → Inside_ before front tail us
ends-before [] [] tail us e h = absurd (less-same (length tail) (length us) h (ap length e))
ends-before [] (t ∷ front) tail us e h = absurd (less-more (length tail) (length front) (length us) h (ap length e ∙ ap (λ n. suc n) (length-of front us) ∙ step (length front) (length us)))
  where
    step : (a b : ℕ) → suc (a + b) ≡ suc a + b
    step a b = omega arith
ends-before (t ∷ before) [] tail us e h = record { first = t; more = before; whole = refl; left_ = sym e }
ends-before (t ∷ before) (u ∷ front) tail us e h =
    let r = ends-before before front tail us (tail-of e) h in
    record { first = r.first; more = r.more; whole = ap (λ ts. t ∷ ts) r.whole ∙ ap (λ v. v ∷ front ++ r.first ∷ r.more) (head-of e); left_ = r.left_ }

rows-after : (g : Gap) (before : List Filled) (last : ℕ) → g.at ≡ end_of last before → Rows g last (before ++ semi g.do_while g.at ∷ g.next ∷ g.behind) (before ++ g.next ∷ g.behind)
rows-after g [] last e = subst (λ n. Rows g n (semi g.do_while g.at ∷ g.next ∷ g.behind) (g.next ∷ g.behind)) e here
rows-after g (t ∷ before) last e = later (rows-after g before t.span.end e)

never-both : {A : Type 0} {x : A} {c : Input} {stop : Stop} {ts : List Filled} (o : Outcome A) → o ≡ Took x c → o ≡ Fault stop ts → ⊥
never-both o h k = absurd (cc)

pub plus-zero : (n : ℕ) → plus n zero ≡ n
plus-zero zero = refl
plus-zero (suc n) = ap (λ m. suc m) (plus-zero n)

same-from : {ts : List Filled} (u : Filled) (us more : List Filled) → ts ≡ u ∷ us → SameHead ts (u ∷ us ++ more)
same-from u us more e = subst (λ vs. SameHead vs (u ∷ us ++ more)) (sym e) same

-- ## Tokens of a text have no inserted semicolon among them

kind-of : {t u : Filled} {ts us : List Filled} → t ∷ ts ≡ u ∷ us → t.kind ≡ u.kind
kind-of e = cc

never-read : {d : Bool} {at : ℕ} {us : List Filled} (rest : List Token) → semi d at ∷ us ≡ map read rest → ⊥
never-read [] e = not-cons e
never-read (t ∷ rest) e = unlike (kind-of e)
  where
    unlike : {d : Bool} {k : TokenKind} → Inserted d ≡ Read k → ⊥
    unlike k = absurd (cc)

no-row : {g : Gap} {last : ℕ} {ts us : List Filled} (rest : List Token) → Rows g last ts us → ts ≡ map read rest → ⊥
no-row rest here e = never-read rest e
no-row [] (later w) e = not-cons e
no-row (t ∷ rest) (later w) e = no-row rest w (tail-of e)

tokens-of : {A : Type 0} {x y : A} {s c : Input} → Took x s ≡ Took y c → s.tokens ≡ c.tokens
tokens-of h = cc

taken-of : {A : Type 0} {g : Gap} {b : Option Loss} {x : A} {c : Input} {o o' o'' : Outcome A} (rest : List Token) → Agree g b o o' o'' → (Elsewhere g o'' → ⊥) → o ≡ Took x c → c.tokens ≡ map read rest → o' ≡ Took x c
taken-of rest (took_all {s = s} s') n h e = absurd (no-row rest s'.rows (tokens-of h ∙ e))
taken-of rest joined n h e = h
taken-of rest first_stops n h e = absurd (cc)
taken-of rest (aside w) n h e = absurd (n w)
taken-of rest (lost k) n h e = absurd (never-read rest (tokens-of h ∙ e))

-- A reader, by whether it inserts semicolons, how many turns a loop has, and how many constructs may open.
module _ {A : Type 0} (p : Bool → ℕ → ℕ → Parser A) (Full : List Filled → Type 0)
    (local : (g a b : Bool) (fuel room l : ℕ) → Modes (gain l g) a b → (s : Input) → Local (gain l g) (p a fuel room) (p b (plus fuel l) (plus room l)) s)
    {b : Option Loss} (across : (g : Gap) (fuel room : ℕ) (s : Input) → BesideBy b g (p true fuel room) (p false fuel (suc room)) s)
    {F : A → List Filled → Type 0} (viable : (fuel room : ℕ) (s : Input) → Half (lasting false fuel) F Any (run_of (p false (suc fuel) (plus (suc room) 3)) s.last) s.tokens (p false fuel (suc room) s))
    (ends : (x : A) → F x []) (full : (fuel room : ℕ) (us : List Filled) (x : A) (last : ℕ) → p false fuel room (record { tokens = us; last = 0 }) ≡ Took x (record { tokens = []; last = last }) → Full us) where
  abbrev run : Bool → ℕ → ℕ → List Filled → Outcome A
  run mode fuel room us = p mode fuel room (record { tokens = us; last = 0 })

  module _ (fuel room : ℕ) where
    abbrev plain : List Filled → Outcome A
    plain us = run false fuel (suc room) us

    abbrev grown_ : List Filled → Outcome A
    grown_ us = run false (plus fuel zero) (plus (suc room) zero) us

    here-only : (row : List Filled) → LocalOf (gain zero false) grown_ row (plain row)
    here-only row = local false false false fuel (suc room) zero same_mode (record { tokens = row; last = 0 })

    same-run : (us : List Filled) → plain us ≡ grown_ us
    same-run us = sym (ap (λ n. run false n (plus (suc room) zero) us) (plus-zero fuel) ∙ ap (λ n. run false fuel n us) (plus-zero (suc room)))

    -- a fault stands there whatever follows
    record Stands (row us : List Filled) (stop : Stop) : Type 0 where
      pub front : List Filled
      pub whole : row ≡ front ++ us
      pub stands_ : (rest : List Filled) → SameHead us rest → plain (front ++ rest) ≡ Fault stop rest

    fault-stands : (row us : List Filled) (stop : Stop) → plain row ≡ Fault stop us → Stands row us stop
    fault-stands row us stop h = by (here-only row) h
      where
        stop-of : {a b : Stop} {vs ws : List Filled} → ◌≡◌ {A = Outcome A} (Fault a vs) (Fault b ws) → a ≡ b
        stop-of e = cc

        never : {m : A} {c : Input} {b : Stop} {ws : List Filled} → ◌≡◌ {A = Outcome A} (Took m c) (Fault b ws) → ⊥
        never e = absurd (cc)

        by : {o : Outcome A} → LocalOf (gain zero false) grown_ row o → o ≡ Fault stop us → Stands row us stop
        by (took_so front e r) k = absurd (never k)
        by (stops_so front e r) k = record {
          front = front;
          whole = e ∙ ap (λ vs. front ++ vs) (ap left k);
          stands_ = λ rest w. same-run (front ++ rest) ∙ r rest (subst (λ vs. SameHead vs rest) (sym (ap left k)) w) ∙ ap (λ a. Fault a rest) (stop-of k);
        }
        by (too_deep m) k = absurd (no-slack m)
        by (too_long m) k = absurd (no-slack m)
        by (not_inserted m) k = absurd (false≢true m)

    -- what is left of tokens is left of more, with those
    left-stays : (row : List Filled) (u : Filled) (us more : List Filled) → left (plain row) ≡ u ∷ us → left (plain (row ++ more)) ≡ u ∷ us ++ more
    left-stays row u us more h = by (here-only row) h
      where
        onto : (front vs : List Filled) → row ≡ front ++ vs → vs ≡ u ∷ us → row ++ more ≡ front ++ (u ∷ us ++ more)
        onto front vs e k = ap (λ ws. ws ++ more) (e ∙ ap (λ ws. front ++ ws) k) ∙ append_assoc front (u ∷ us) more

        by : {o : Outcome A} → LocalOf (gain zero false) grown_ row o → left o ≡ u ∷ us → left (plain (row ++ more)) ≡ u ∷ us ++ more
        by (took_so {c = c} front e r) k = ap (λ ws. left (plain ws)) (onto front c.tokens e k) ∙ ap left (same-run (front ++ (u ∷ us ++ more)) ∙ r (u ∷ us ++ more) (same-from u us more k))
        by (stops_so {us = vs} front e r) k = ap (λ ws. left (plain ws)) (onto front vs e k) ∙ ap left (same-run (front ++ (u ∷ us ++ more)) ∙ r (u ∷ us ++ more) (same-from u us more k))
        by (too_deep m) k = absurd (no-slack m)
        by (too_long m) k = absurd (no-slack m)
        by (not_inserted m) k = absurd (false≢true m)

    module _ (before : List Filled) (t : Token) (ts : List Token) (dead : Begins Full (before ++ read t ∷ []) → ⊥) (turns : suc (suc (length (before ++ read t ∷ []))) ≤ fuel) where
      abbrev behind : List Filled
      behind = map read ts

      abbrev short : List Filled
      short = before ++ read t ∷ []

      long-is : before ++ read t ∷ behind ≡ short ++ behind
      long-is = sym (append_assoc before (read t ∷ []) behind)

      too-long : (a b : ℕ) → suc (a + b) ≤ b → ⊥
      too-long a b h = omega arith

      -- where a reader goes past the token, it takes it if nothing follows
      all-taken : length (left (plain (before ++ read t ∷ behind))) ≤ length behind → left (plain short) ≡ []
      all-taken h = by (left (plain short)) refl
        where
          by : (vs : List Filled) → left (plain short) ≡ vs → vs ≡ []
          by [] e = refl
          by (u ∷ us) e =
              let l : left (plain (before ++ read t ∷ behind)) ≡ u ∷ us ++ behind = ap (λ ws. left (plain ws)) long-is ∙ left-stays short u us behind e in
              absurd (too-long (length us) (length behind) (subst (λ n. n ≤ length behind) (ap length l ∙ ap (λ n. suc n) (length-of us behind)) h))

      -- it can't, for nothing goes on
      completed : {o : Outcome A} → left o ≡ [] → Half (lasting false fuel) F Any (run false (suc fuel) (plus (suc room) 3)) short o → ⊥
      completed n (stands e k) = never-nil before (read t) (e ∙ n)
      completed n (some u front e k filled) =
          let whole : short ≡ u ∷ front = e ∙ ap (λ us. (u ∷ front) ++ us) n ∙ append-nil (u ∷ front) in
          let more = filled 0 in
          let row : short ++ (fills 0 more.more ++ []) ≡ (u ∷ front) ++ (fills 0 more.more ++ []) = ap (λ us. us ++ (fills 0 more.more ++ [])) whole in
          dead (fills 0 more.more ++ [], full (suc fuel) (plus (suc room) 3) (short ++ (fills 0 more.more ++ [])) more.value more.last (ap (run false (suc fuel) (plus (suc room) 3)) row ∙ more.reads [] (ends more.value) tt))
      completed n (beyond front e z more) = absurd (cc)
      completed n (gives_up a) = few (length short) fuel turns (a refl)
        where
          few : (n m : ℕ) → suc (suc n) ≤ m → m ≤ suc n → ⊥
          few n m h k = omega arith

      no-beyond : length (left (plain (before ++ read t ∷ behind))) ≤ length behind → ⊥
      no-beyond h = completed (all-taken h) (viable fuel room (record { tokens = short; last = 0 }))

      -- nor does it stop before, since it reads the row with the semicolon
      no-early : (row : List Filled) (x : A) (c : Input) (d : Filled) (more us : List Filled) (stop : Stop) → row ≡ before ++ d ∷ more → plain row ≡ Took x c → plain (before ++ read t ∷ behind) ≡ Fault stop us → suc (length behind) < length us → ⊥
      no-early row x c d more us stop e h k l =
          let s = fault-stands (before ++ read t ∷ behind) us stop k in
          let r = ends-before before s.front (read t ∷ behind) us s.whole l in
          let at : before ++ d ∷ more ≡ s.front ++ (r.first ∷ r.more ++ d ∷ more) = ap (λ vs. vs ++ d ∷ more) r.whole ∙ append_assoc s.front (r.first ∷ r.more) (d ∷ more) in
          never-both (plain row) h (ap plain (e ∙ at) ∙ s.stands_ (r.first ∷ r.more ++ d ∷ more) (subst (λ vs. SameHead vs (r.first ∷ r.more ++ d ∷ more)) (sym r.left_) same))

      no-aside : (g : Gap) → g.behind ≡ behind → (row : List Filled) (x : A) (c : Input) (d : Filled) (more : List Filled) → row ≡ before ++ d ∷ more → plain row ≡ Took x c → Elsewhere g (plain (before ++ read t ∷ behind)) → ⊥
      no-aside g q row x c d more e h w = by w refl
        where
          by : {o : Outcome A} → Elsewhere g o → plain (before ++ read t ∷ behind) ≡ o → ⊥
          by (early {stop = stop} {us = us} l) k = no-early row x c d more us stop e h k (subst (λ vs. suc (length vs) < length us) q l)
          by (beyond l) k = no-beyond (subst (λ vs. length (left (plain (before ++ read t ∷ behind))) ≤ length vs) q (subst (λ o. length (left o) ≤ length g.behind) (sym k) l))

  -- ## All of them left out, the last first

  module _ (fuel room : ℕ) (row : List Filled) (x : A) (c after : Input) (h : plain fuel room row ≡ Took x after) (rest : List Token) (ended : c.tokens ≡ map read rest) where
    abbrev Reads : List Filled → Type 0
    Reads us = run true fuel room us ≡ Took x c

    one-left-out : (d : Bool) (before : List Filled) (t : Token) (ts : List Token) (more : List Filled) → (Begins Full (before ++ read t ∷ []) → ⊥) → may_precede d t ≡ true → suc (suc (length (before ++ read t ∷ []))) ≤ fuel → row ≡ before ++ inserted d before ∷ more
        → Reads (before ++ inserted d before ∷ read t ∷ map read ts) → Reads (before ++ read t ∷ map read ts)
    one-left-out d before t ts more dead line turns e r =
        let g : Gap = record { do_while = d; at = end_of 0 before; next = read t; behind = map read ts; line = λ k. subst (λ v. may_precede v t ≡ true) k line } in
        let one : List Filled = before ++ inserted d before ∷ read t ∷ map read ts in
        taken-of rest ((across g fuel room (record { tokens = one; last = 0 })).across (record { row = before ++ read t ∷ map read ts; rows = rows-after g before 0 refl }))
        (no-aside fuel room before t ts dead turns g refl row x after (inserted d before) more e h) r ended

    one-more : (before : List Filled) (t : Filled) (ts : List Filled) → Reads ((before ++ t ∷ []) ++ ts) → Reads (before ++ t ∷ ts)
    one-more before t ts r = subst (λ us. Reads us) (append_assoc before (t ∷ []) ts) r

    one-back : (before : List Filled) (t : Filled) (ts : List Filled) → row ≡ before ++ t ∷ ts → row ≡ (before ++ t ∷ []) ++ ts
    one-back before t ts e = e ∙ sym (append_assoc before (t ∷ []) ts)

    -- with turns for as many tokens as are filled, and one more that is tried
    pub all-left-out : {before filled : List Filled} {tokens : List Token} → Fills Full before tokens filled rest → suc (suc (length row)) ≤ fuel → row ≡ before ++ (filled ++ map read rest) → Reads row → Reads (before ++ map read tokens)
    all-left-out semicolons'.done turns e r = subst (λ us. Reads us) e r
    all-left-out (semicolons'.keeps {before = before} {filled = filled} {t = t} {ts = ts} g) turns e r = one-more before (read t) (map read ts) (all-left-out g turns (one-back before (read t) (filled ++ map read rest) e) r)
    all-left-out (semicolons'.inserts {before = before} {filled = filled} {t = t} {ts = ts} d dead line g) turns e r =
        one-left-out d before t ts (filled ++ map read rest) dead line (enough before (read t) (inserted d before) (filled ++ map read rest) e turns) e (one-more before (inserted d before) (read t ∷ map read ts) (all-left-out g turns (one-back before (inserted d before) (filled ++ map read rest) e) r))
      where
        enough : (before : List Filled) (t u : Filled) (filled : List Filled) → row ≡ before ++ u ∷ filled → suc (suc (length row)) ≤ fuel → suc (suc (length (before ++ t ∷ []))) ≤ fuel
        enough before t u filled e l = by (length (before ++ t ∷ [])) (length before) (length row) (length filled) fuel (length-of before (t ∷ [])) (ap length e ∙ length-of before (u ∷ filled)) l
          where
            by : (n a m b f : ℕ) → n ≡ a + 1 → m ≡ a + suc b → suc (suc m) ≤ f → suc (suc n) ≤ f
            by n a m b f p q l = omega arith
