-- A construct is open at each token from its first one to its last, as the tokens of a text stand.
use Rattle.std.proofs.Common.{◌≡◌, ℕ, suc, ◌+◌, ◌-◌, ◌≤◌, ◌<◌, Bool, true, false, ◌&&◌, not, nat_le, ◌==◌, List, [], ◌∷◌, ◌++◌, length, take, refl, sym, ap, subst, ◌∙◌, append_assoc, arith}
use Rattle.std.specs.Prelude.{codes, cond, count_by}
use Rattle.std.proofs.lemmas.Bool.{eq-eqb, eqb-true, leb-true}
use Rattle.std.proofs.lemmas.List.{length-append}
use Rattle.std.proofs.lemmas.List.Recursion.{is_count_by}
use Rattle.std.proofs.Math.Seq.{take-append_seam}
use Rattle.es_text.specs.declared.Span.{Span}
use Rattle.es5_ast.specs.Lexical.{Token5}
use Rattle.es5_ast.specs.Grammar.{is_mark, begin_of, end_of, across}
use Rattle.es5_ast.specs.Depth.{opens_group, groups_behind, open_groups, is_unended, is_open_at}
use Rattle.es5_ast.specs.Dead.{AreInOrder}
use Rattle.es5_reading_laws.proofs.Segments.{groups, Segment}

-- ## Tokens in order

abbrev Each : (Token5 → Type 0) → List Token5 → Type 0
Each P [] = Unit {0}
Each P (t ∷ ts) = P t × Each P ts

abbrev ButLast : (Token5 → Type 0) → List Token5 → Type 0
ButLast P [] = Unit {0}
ButLast P (t ∷ []) = Unit {0}
ButLast P (t ∷ u ∷ ts) = P t × ButLast P (u ∷ ts)

-- a token that ends before another begins
abbrev Ahead : ℕ → Token5 → Type 0
Ahead at t = (t.begin < t.end) × (t.end ≤ at)

le-trans : (a b c : ℕ) → a ≤ b → b ≤ c → a ≤ c
le-trans a b c h k = omega arith

drop-order : (xs ys : List Token5) → AreInOrder (xs ++ ys) → AreInOrder ys
drop-order [] ys o = o
drop-order (x ∷ xs) ys o = drop-order xs ys o.2

front-order : (xs ys : List Token5) → AreInOrder (xs ++ ys) → AreInOrder xs
front-order [] ys o = tt
front-order (x ∷ []) ys o = (o.0, tt, tt)
front-order (x ∷ z ∷ xs) ys o = (o.0, o.1, front-order (z ∷ xs) ys o.2)

ahead : (p : List Token5) (t : Token5) (r : List Token5) → AreInOrder (p ++ t ∷ r) → Each (Ahead t.begin) p
ahead [] t r o = tt
ahead (u ∷ []) t r o = ((o.0, o.1), tt)
ahead (u ∷ v ∷ p) t r o =
    let more = ahead (v ∷ p) t r o.2 in
    ((o.0, by u.end v.begin v.end t.begin o.1 more.0.0 more.0.1), more)
  where
    by : (a b c d : ℕ) → a ≤ b → b < c → c ≤ d → a ≤ d
    by a b c d h k l = omega arith

end-grows : (x : Token5) (xs : List Token5) → AreInOrder (x ∷ xs) → x.end ≤ end_of x.end xs
end-grows x [] o = omega arith
end-grows x (y ∷ ys) o = by x.end y.begin y.end (end_of y.end ys) o.1 o.2.0 (end-grows y ys o.2)
  where
    by : (a b c d : ℕ) → a ≤ b → b < c → c ≤ d → a ≤ d
    by a b c d h k l = omega arith

-- each token but the last one of the first list ends before the end of both lists
before-end : (at : ℕ) (xs ys : List Token5) → AreInOrder (xs ++ ys) → ButLast (λ t. t.end < end_of at (xs ++ ys)) xs
before-end at [] ys o = tt
before-end at (x ∷ []) ys o = tt
before-end at (x ∷ y ∷ xs) ys o = (by x.end y.begin y.end (end_of y.end (xs ++ ys)) o.1 o.2.0 (end-grows y (xs ++ ys) o.2), before-end x.end (y ∷ xs) ys o.2)
  where
    by : (a b c d : ℕ) → a ≤ b → b < c → c ≤ d → a < d
    by a b c d h k l = omega arith

-- ## Open

not-le : (a b : ℕ) → b < a → nat_le a b ≡ false
not-le a b h = by (nat_le a b) refl
  where
    by : (t : Bool) → nat_le a b ≡ t → t ≡ false
    by false e = refl
    by true e = absurd (none (leb-true a b e))
      where
        none : a ≤ b → ⊥
        none k = omega arith

and-not : (a b c : Bool) → b ≡ false → c ≡ true → (not (a && b) && c) ≡ true
and-not true b c h k = rw (h, k) refl
and-not false b c h k = k

unended : (end o : ℕ) (xs : List Token5) → ButLast (λ t. t.end < end) xs → is_unended end o xs ≡ true
unended end o [] b = refl
unended end o (t ∷ []) b = refl
unended end o (t ∷ u ∷ ts) b = and-not (groups_behind o t == 0) (nat_le end t.end) (is_unended end (groups_behind o t) (u ∷ ts)) (not-le end t.end b.0) (unended end (groups_behind o t) (u ∷ ts) b.1)

-- tokens that end before the construct's end, before those that do so but for the last one
with-run : (end : ℕ) (run : List Token5) (t : Token5) (ts : List Token5) → Each (λ u. u.end < end) run → ButLast (λ u. u.end < end) (t ∷ ts) → ButLast (λ u. u.end < end) (run ++ t ∷ ts)
with-run end [] t ts e b = b
with-run end (u ∷ []) t ts e b = (e.0, b)
with-run end (u ∷ v ∷ run) t ts e b = (e.0, with-run end (v ∷ run) t ts e.1 b)

run-grows : (P : Token5 → Type 0) (b : Bool) (run : List Token5) (u : Token5) → Each P run → P u → Each P (cond b (run ++ u ∷ []) [])
run-grows P true run u e p = snoc run e
  where
    snoc : (xs : List Token5) → Each P xs → Each P (xs ++ u ∷ [])
    snoc [] e = (p, tt)
    snoc (x ∷ xs) e = (e.0, snoc xs e.1)
run-grows P false run u e p = tt

not-same : (a b : ℕ) → a < b → (a == b) ≡ false
not-same a b h = by (a == b) refl
  where
    by : (t : Bool) → (a == b) ≡ t → t ≡ false
    by false e = refl
    by true e = absurd (none (eqb-true a b e))
      where
        none : a ≡ b → ⊥
        none k = omega arith

found : (span : Span) (p run : List Token5) (t : Token5) (c : List Token5) → t.begin ≡ span.begin → t.begin < span.end → Each (Ahead t.begin) p → Each (λ u. u.end < span.end) run → ButLast (λ u. u.end < span.end) (t ∷ c)
    → is_open_at span run (p ++ t ∷ c) ≡ true
found span [] run t c e l a r b = ap (λ x. cond x (is_unended span.end 0 (run ++ t ∷ c)) (is_open_at span (cond (is_mark (codes "(") t.kind) (run ++ t ∷ []) []) c)) (eq-eqb t.begin span.begin e)
    ∙ unended span.end 0 (run ++ t ∷ c) (with-run span.end run t c r b)
found span (u ∷ p) run t c e l a r b =
    ap (λ x. cond x (is_unended span.end 0 (run ++ u ∷ (p ++ t ∷ c))) (is_open_at span (cond (is_mark (codes "(") u.kind) (run ++ u ∷ []) []) (p ++ t ∷ c))) (not-same u.begin span.begin (by u.begin u.end t.begin span.begin a.0.0 a.0.1 e))
    ∙ found span p (cond (is_mark (codes "(") u.kind) (run ++ u ∷ []) []) t c e l a.1 (run-grows (λ z. z.end < span.end) (is_mark (codes "(") u.kind) run u r (less u.end t.begin span.end a.0.1 l)) b
  where
    by : (a b c d : ℕ) → a < b → b ≤ c → c ≡ d → a < d
    by a b c d h k e = omega arith

    less : (a b c : ℕ) → a ≤ b → b < c → a < c
    less a b c h k = omega arith

-- two ways to part a list, of which the second part is the shorter one in the second way
record Parted (p ts front b : List Token5) : Type 0 where
  middle : List Token5
  behind : ts ≡ middle ++ b
  before : front ≡ p ++ middle

parted : (p ts front b : List Token5) → p ++ ts ≡ front ++ b → length b ≤ length ts → Parted p ts front b
parted [] ts front b e h = record { middle = front; behind = e; before = refl }
parted (x ∷ p) ts [] b e h = absurd (none (length p) (length ts) (length b) (sym (length-append p ts)) (ap length e) h)
  where
    none : (a n m : ℕ) → a + n ≡ length (p ++ ts) → suc (length (p ++ ts)) ≡ m → m ≤ n → ⊥
    none a n m i j k = omega arith
parted (x ∷ p) ts (y ∷ front) b e h =
    let tails : p ++ ts ≡ front ++ b = cc in
    let heads : x ≡ y = cc in
    let r = parted p ts front b tails h in
    record { middle = r.middle; behind = r.behind; before = ap (λ z. z ∷ front) (sym heads) ∙ ap (λ z. x ∷ z) r.before }

segment-end : (ts seg us : List Token5) → ts ≡ seg ++ us → (across ts us).end ≡ end_of 0 seg
segment-end ts seg us e = ap (λ xs. end_of 0 (take (length xs - length us) xs)) e
    ∙ ap (λ n. end_of 0 (take n (seg ++ us))) (ap (λ m. m - length us) (length-append seg us) ∙ difference (length seg) (length us))
    ∙ ap (λ xs. end_of 0 xs) (take-append_seam seg us)
  where
    difference : (a b : ℕ) → (a + b) - b ≡ a
    difference a b = omega arith

-- A place in the tokens: the tokens before it, itself, and those behind it.
pub open-at : (all p ts us : List Token5) → AreInOrder all → all ≡ p ++ ts → (s : Segment ts us) (span : Span) → span ≡ across ts us → (q : List Token5) (t : Token5) (b : List Token5) → all ≡ q ++ t ∷ b → length b < length ts → length us ≤ length b
    → is_open_at span [] (q ++ t ∷ []) ≡ true
open-at all p ts us o i s span e q t b j h k =
    let w = parted p ts (q ++ t ∷ []) b (sym i ∙ j ∙ sym (append_assoc q (t ∷ []) b)) (less (length b) (length ts) h) in
    by w.middle w.behind w.before
  where
    less : (a b : ℕ) → a < b → a ≤ b
    less a b h = omega arith

    whole : (x : Token5) (c : List Token5) → ts ≡ (x ∷ c) ++ b → (d : List Token5) → s.tokens ≡ (x ∷ c) ++ d → is_open_at span [] (p ++ x ∷ c) ≡ true
    whole x c f d f' =
        let order : AreInOrder (p ++ ((x ∷ c) ++ b)) = subst (λ z. AreInOrder (p ++ z)) f (subst AreInOrder i o) in
        let part : AreInOrder ((x ∷ c) ++ d) = subst AreInOrder f' (front-order s.tokens us (subst AreInOrder s.is (drop-order p ts (subst AreInOrder i o)))) in
        let begin : x.begin ≡ span.begin = ap (λ z. begin_of z) (sym f) ∙ ap (λ z. z.begin) (sym e) in
        let end : span.end ≡ end_of 0 ((x ∷ c) ++ d) = ap (λ z. z.end) e ∙ segment-end ts s.tokens us s.is ∙ ap (λ z. end_of 0 z) f' in
        found span p [] x c begin (subst (λ n. x.begin < n) (sym end) (lt-le x.begin x.end (end_of x.end (c ++ d)) part.0 (end-grows x (c ++ d) part)))
        (ahead p x (c ++ b) order) tt (subst (λ n. ButLast (λ u. u.end < n) (x ∷ c)) (sym end) (before-end 0 (x ∷ c) d part))
      where
        lt-le : (a b c : ℕ) → a < b → b ≤ c → a < c
        lt-le a b c h k = omega arith

    -- the segment holds the tokens up to the place
    held : (m : List Token5) → ts ≡ m ++ b → (d : List Token5) × (s.tokens ≡ m ++ d)
    held m f =
        let r = parted m b s.tokens us (sym f ∙ s.is) k in
        (r.middle, r.before)

    by : (m : List Token5) → ts ≡ m ++ b → q ++ t ∷ [] ≡ p ++ m → is_open_at span [] (q ++ t ∷ []) ≡ true
    by [] f g' = absurd (none (length ts) (length b) (ap length f) h)
      where
        none : (a b : ℕ) → a ≡ b → b < a → ⊥
        none a b e h = omega arith
    by (x ∷ c) f g' = let d = held (x ∷ c) f in ap (λ z. is_open_at span [] z) g' ∙ whole x c f d.0 d.1

-- ## Counts

abbrev pub tally : (Span → Bool) → List Span → ℕ
tally p [] = 0
tally p (x ∷ xs) = cond (p x) (1 + tally p xs) (tally p xs)

pub tally-is : (p : Span → Bool) (xs : List Span) → tally p xs ≡ count_by p xs
tally-is p xs = is_count_by (tally p) p refl (λ x ys. refl) xs

pub tally-append : (p : Span → Bool) (xs ys : List Span) → tally p (xs ++ ys) ≡ tally p xs + tally p ys
tally-append p [] ys = none (tally p ys)
  where
    none : (n : ℕ) → n ≡ 0 + n
    none n = omega arith
tally-append p (x ∷ xs) ys = by (p x) (tally p (xs ++ ys)) (tally p xs) (tally p ys) (tally-append p xs ys)
  where
    by : (t : Bool) (n a b : ℕ) → n ≡ a + b → cond t (1 + n) n ≡ cond t (1 + a) a + b
    by true n a b e = omega arith
    by false n a b e = e

pub open-groups : (o : ℕ) (q : List Token5) (t : Token5) → open_groups o (q ++ t ∷ []) ≡ groups o q + opens_group t.kind
open-groups o [] t = refl
open-groups o (u ∷ []) t = refl
open-groups o (u ∷ v ∷ q) t = open-groups (groups_behind o u) (v ∷ q) t
