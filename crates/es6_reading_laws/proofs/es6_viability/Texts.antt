-- Tokens of a text: they stand one behind the other, and so many groups are open at each of them.
use Rattle.std.specs.Prelude.{cond}
use Rattle.std.proofs.Common.{◌≡◌, ◌∙◌, ℕ, suc, ◌+◌, ◌-◌, ◌≤◌, Bool, true, false, List, [], ◌∷◌, ◌++◌, length, map, Some, None, ap, sym, refl, subst, arith}
use Rattle.std.proofs.lemmas.Bool.{true≢false}
use Rattle.es6_lexer.specs.declared.token.Token.{Token}
use Rattle.es6_lexer.specs.declared.token.TokenKind.{TokenKind}
use Rattle.es6_lexer.specs.declared.token.TokenKind.TheVariants.{End}
use Rattle.es6_ast.specs.declared.module.Item.{Item}
use Rattle.es6_ast.specs.declared.module.Module.{Module}
use Rattle.es6_ast.specs.Dead.{AreInOrder}
use Rattle.es6_ast.specs.Depth.{begin_of_last, closes_group, open_groups, opens_group}
use Rattle.es6_ast.specs.Tokens.{Filled, Read, read}
use Rattle.es6_reading.specs.Modules as m6
use Rattle.es6_reading.specs.Modules.{end_at, is_end, is_end_kind, readers, whole_module}
use Rattle.es6_reading.specs.Parser.{Input, Outcome, Took, Fault, Parser, Inner, after, next_is}
use Rattle.es6_reading.proofs.Ordered.{Behind}
use Rattle.es6_reading.proofs.Places.{Rest, all, less as further_on, Leaves, took_rest}
use Rattle.es6_reading.proofs.PlacesOfModules as places
use Rattle.es6_reading.proofs.PlacesOfModules.{placed}
use Rattle.es6_reading.proofs.Posts.{Holds, took, fault, of_took, bind, weaken, Taken, taken, take-holds, if-holds, refused-holds}
use Rattle.es6_reading.proofs.Shallow.{opens_of, closes_of, Sorted}
use Rattle.es6_reading.proofs.ShallowModules.{EndsIn, ends_in, longer}
use Rattle.es6_reading_laws.specs.es6_viability.TooDeep.{AreOfText}
use Rattle.es6_reading_laws.proofs.es6_viability.Deep.{Stands, start, further}

-- ## Tokens of a text

pub tail-of : {t u : Filled} {ts us : List Filled} → t ∷ ts ≡ u ∷ us → ts ≡ us
tail-of e = cc

pub head-of : {t u : Filled} {ts us : List Filled} → t ∷ ts ≡ u ∷ us → t ≡ u
head-of e = cc

end-is : (t : Token) → t.kind ≡ End → is_end (read t) ≡ true
end-is t e = ap (λ k. is_end_kind (Read k)) e

sorted-of : (last : ℕ) (before : List Token) (end : Token) → end.kind ≡ End → Behind last (before ++ end ∷ []) → AreInOrder (before ++ end ∷ []) → Sorted last (map read (before ++ end ∷ []))
sorted-of last [] end e b o = (b, λ h. absurd (true≢false (sym (end-is end e) ∙ h)), tt)
sorted-of last (t ∷ []) end e b o = (b, λ h. o.0.0, sorted-of t.span.end [] end e o.0.1 o.1)
sorted-of last (t ∷ u ∷ before) end e b o = (b, λ h. o.0.0, sorted-of t.span.end (u ∷ before) end e o.0.1 o.1)

behind-none : (tokens : List Token) → Behind 0 tokens
behind-none [] = tt
behind-none (t ∷ ts) = omega arith

pub sorted : (tokens : List Token) → AreOfText tokens → Sorted 0 (map read tokens)
sorted tokens a = subst (λ ts. Sorted 0 (map read ts)) (sym a.whole) (sorted-of 0 a.before a.last a.ends (behind-none (a.before ++ a.last ∷ [])) (subst (λ ts. AreInOrder ts) a.whole a.placed))

-- ## Tokens that a module is read of

later : {ts us : List Filled} → Rest ts us → EndsIn us → EndsIn ts
later all h = h
later (further_on r) h = longer _ (later r h)

nothing-more : (ts : List Filled) → next_is (λ t. true) ts ≡ false → ts ≡ []
nothing-more [] e = refl
nothing-more (t ∷ ts) e = absurd (true≢false e)

end-of : {c d : Input} {t : Filled} → Taken end_at c t d → d.tokens ≡ [] → EndsIn c.tokens
end-of (taken {t = t} {x = x} e) h = rw h (ends_in t (by (is_end t) refl e))
  where
    by : (b : Bool) → is_end t ≡ b → cond b (Some t) None ≡ Some x → is_end t ≡ true
    by true h k = h
    by false h k = absurd (cc)

ends-of : {ts : List Filled} (o : Outcome (List Item)) (q : List Item → Parser Module) → Leaves ts o → ((xs : List Item) (c : Input) → Holds (λ m d. EndsIn c.tokens) (q xs c)) → Holds (λ m d. EndsIn ts) (after o q)
ends-of (Took xs c) q (took_rest r) f = weaken (f xs c) (λ m d h. later r h)
ends-of (Fault stop us) q l f = fault

whole-ends : (i : Inner) (s : Input) → Leaves s.tokens (m6.items i i.fuel s) → Holds (λ m d. EndsIn s.tokens) (whole_module i s)
unfolding whole_module
whole-ends i s l = ends-of (m6.items i i.fuel s) _ l (λ xs c. bind (take-holds c) λ t d k. if-holds _ _ _ d (λ e. refused-holds d) (λ e. took (end-of k (nothing-more d.tokens e))))

record EndsWith (tokens : List Token) : Type 0 where
  before : List Token
  last : Token
  whole : tokens ≡ before ++ last ∷ []
  ends : last.kind ≡ End

kind-of : (k : TokenKind) → is_end_kind (Read k) ≡ true → k ≡ End
kind-of End h = refl
kind-of k h = absurd (cc)

ends-with : (tokens : List Token) {ts : List Filled} → EndsIn ts → ts ≡ map read tokens → EndsWith tokens
ends-with [] (ends_in t e) k = absurd (cc)
ends-with [] (longer t h) k = absurd (cc)
ends-with (u ∷ []) (ends_in t e) k = record { before = []; last = u; whole = refl; ends = kind-of u.kind (ap is_end (sym (head-of k)) ∙ e) }
ends-with (u ∷ v ∷ tokens) (ends_in t e) k = absurd (cc)
ends-with (u ∷ tokens) (longer t h) k =
    let r = ends-with tokens h (tail-of k) in
    record { before = u ∷ r.before; last = r.last; whole = ap (λ ts. u ∷ ts) r.whole; ends = r.ends }

-- tokens in order of which a module is read are those of a text
pub text-of : (fuel room : ℕ) (tokens : List Token) (m : Module) (after : Input) → whole_module (readers true fuel room) (record { tokens = map read tokens; last = 0 }) ≡ Took m after → AreInOrder tokens → AreOfText tokens
text-of fuel room tokens m after e order =
    let i : Inner = readers true fuel room in
    let s : Input = record { tokens = map read tokens; last = 0 } in
    let r = ends-with tokens (of_took {Q = λ x d. EndsIn (map read tokens)} {x = m} {c = after} (subst (λ o. Holds (λ x d. EndsIn (map read tokens)) o) e (whole-ends i s (places.items i (placed true fuel room) i.fuel s)))) refl in
    record { before = r.before; last = r.last; whole = r.whole; ends = r.ends; placed = order }

-- ## Groups

-- how many are open, from the first token on
pub data Forth : ℕ → List Filled → ℕ → List Filled → Type 0 where
  stay : {g : ℕ} {ts : List Filled} → Forth g ts g ts
  step : {g k n : ℕ} {t : Filled} {ts us : List Filled} → g + opens_of t.kind ≡ k + closes_of t.kind → Forth k ts n us → Forth g (t ∷ ts) n us

forth-more : {g n k : ℕ} {all ts : List Filled} {t : Filled} → Forth g all n (t ∷ ts) → n + opens_of t.kind ≡ k + closes_of t.kind → Forth g all k ts
forth-more stay e = step e stay
forth-more (step u w) e = step u (forth-more w e)

pub forth : {all ts : List Filled} {n : ℕ} → Stands all n ts → Forth 0 all n ts
forth start = stay
forth (further w e) = forth-more (forth w) e

low : (n : ℕ) → n ≤ n
low n = omega arith

up : (a b : ℕ) → a ≤ b → a ≤ suc b
up a b h = omega arith

forth-length : {g n : ℕ} {ts us : List Filled} → Forth g ts n us → length us ≤ length ts
forth-length {ts = ts} stay = low (length ts)
forth-length (step {ts = ts} {us = us} e w) = up (length us) (length ts) (forth-length w)

never-longer : (t : Filled) (us ts : List Filled) → ts ≡ us → length (t ∷ us) ≤ length ts → ⊥
never-longer t us ts e h = too-long (length us) (subst (λ vs. length (t ∷ us) ≤ length vs) e h)
  where
    too-long : (n : ℕ) → suc n ≤ n → ⊥
    too-long n h = omega arith

pub length-more : (front : List Token) (us : List Filled) → length us ≤ length (map read front ++ us)
length-more [] us = low (length us)
length-more (t ∷ front) us = up (length us) (length (map read front ++ us)) (length-more front us)

never-shorter : (u : Token) (front : List Token) (t : Filled) (us vs : List Filled) → vs ≡ read u ∷ (map read front ++ t ∷ us) → vs ≡ t ∷ us → ⊥
never-shorter u front t us vs e k = too-long (length us) (length (map read front ++ t ∷ us)) (length-more front (t ∷ us)) (ap length (sym k ∙ e))
  where
    too-long : (a b : ℕ) → suc a ≤ b → suc a ≡ suc b → ⊥
    too-long a b h e = omega arith

pub groups-of : {g n : ℕ} {ts vs : List Filled} → Forth g ts n vs → (front : List Token) (t : Token) (us : List Filled) → ts ≡ map read front ++ read t ∷ us → vs ≡ read t ∷ us → open_groups g (front ++ t ∷ []) ≡ n + opens_group t.kind
groups-of stay [] t us e k = refl
groups-of (step {ts = ts} {us = vs} p w) [] t us e k = absurd (never-longer (read t) us ts (tail-of e) (subst (λ ws. length ws ≤ length ts) k (forth-length w)))
groups-of (stay {ts = ts}) (u ∷ front) t us e k = absurd (never-shorter u front (read t) us ts e k)
groups-of {g = g} (step {k = k} {t = v} {ts = ts} p w) (u ∷ front) t us e q = on front (groups-of w front t us (tail-of e) q)
  where
    exact : g + opens_group u.kind - closes_group u.kind ≡ k
    exact = by (ap (λ x. g + opens_of x.kind) (sym (head-of e)) ∙ p ∙ ap (λ x. k + closes_of x.kind) (head-of e))
      where
        by : g + opens_group u.kind ≡ k + closes_group u.kind → g + opens_group u.kind - closes_group u.kind ≡ k
        by h = omega (arith, h)

    on : (front : List Token) {m : ℕ} → open_groups k (front ++ t ∷ []) ≡ m → open_groups g (u ∷ front ++ t ∷ []) ≡ m
    on [] h = ap (λ n. open_groups n (t ∷ [])) exact ∙ h
    on (x ∷ xs) h = ap (λ n. open_groups n (x ∷ xs ++ t ∷ [])) exact ∙ h

pub begin-last : (front : List Token) (t : Token) → begin_of_last (front ++ t ∷ []) ≡ t.span.begin
begin-last [] t = refl
begin-last (u ∷ []) t = refl
begin-last (u ∷ v ∷ front) t = begin-last (v ∷ front) t
