-- At each token of a module that is read, at most 256 of its constructs are open.
use Rattle.std.proofs.Common.{◌≡◌, ◌∙◌, ℕ, zero, suc, ◌+◌, ◌-◌, ◌<◌, ◌≤◌, Bool, true, false, cond, List, [], ◌∷◌, length, map, take, Some, None, ap, sym, refl, subst, arith}
use Rattle.std.proofs.lemmas.Bool.{true≢false}
use Rattle.es6_lexer.specs.declared.token.Token.{Token}
use Rattle.es6_lexer.specs.declared.token.TokenKind.TheVariants as kinds
use Rattle.es6_ast.specs.declared.module.Item.{Item}
use Rattle.es6_ast.specs.declared.module.Module.{Module}
use Rattle.es6_ast.specs.Tokens.{Filling, Read, Filled, read}
use Rattle.es6_ast.specs.Dead.{AreInOrder}
use Rattle.es6_ast.specs.Depth.{joined, item_spans, module_spans, opens_group, closes_group, open_groups, open_constructs, begin_of_last}
use Rattle.es6_reading.specs.Parser.{Input, Outcome, Took, Fault, Parser, Inner, after, next_is}
use Rattle.es6_reading.specs.Modules as m6
use Rattle.es6_reading.specs.Modules.{is_end, is_end_kind, end_at, most_open}
use Rattle.es6_reading.specs.Laws.{AreShallow}
use Rattle.es6_reading.proofs.Posts.{Holds, took, fault, of_took, bind, weaken, Taken, taken, take-holds, if-holds, refused-holds}
use Rattle.es6_reading.proofs.Places.{Rest, all, less as further, Leaves, took_rest}
use Rattle.es6_reading.proofs.PlacesOfModules.{placed}
use Rattle.es6_reading.proofs.PlacesOfModules as places
use Rattle.es6_reading.proofs.SpanCounts.{around, around-is, around-append, sum_of}
use Rattle.es6_reading.proofs.Shallow.{opens_of, closes_of, Sorted, Walk, stay, step, At, Ready}
use Rattle.es6_reading.proofs.ShallowParts.{Shallow}
use Rattle.es6_reading.proofs.ShallowItems.{shallow, in_item, items}
use Rattle.es6_reading.proofs.Ordered.{Behind}

-- ## The end of the text stands last

pub data EndsIn : List Filled → Type 0 where
  ends_in : (t : Filled) → is_end t ≡ true → EndsIn (t ∷ [])
  longer : (t : Filled) {ts : List Filled} → EndsIn ts → EndsIn (t ∷ ts)

later : {ts us : List Filled} → Rest ts us → EndsIn us → EndsIn ts
later all h = h
later (further r) h = longer _ (later r h)

end-is : (t u : Filled) → end_at t ≡ Some u → is_end t ≡ true
end-is t u e = by-kind (is_end t) refl e
  where
    by-kind : (b : Bool) → is_end t ≡ b → cond b (Some t) None ≡ Some u → is_end t ≡ true
    by-kind true h k = h
    by-kind false h k = absurd (cc)

nothing-more : (ts : List Filled) → next_is (λ t. true) ts ≡ false → ts ≡ []
nothing-more [] e = refl
nothing-more (t ∷ ts) e = absurd (true≢false e)

-- the tokens after the items, and the module that these are
pub data Whole (room : ℕ) (s : Input) (m : Module) : Type 0 where
  whole : {t : Filled} {last : ℕ} → is_end t ≡ true → At room s 0 0 (record { tokens = t ∷ []; last = last }) (sum_of in_item m.items) → Whole room s m

end-of : {c d : Input} {t : Filled} → Taken end_at c t d → d.tokens ≡ [] → EndsIn c.tokens
end-of (taken {t = t} {x = x} e) h = rw h (ends_in t (end-is t x e))

whole-of : {room : ℕ} {s c d : Input} {t : Filled} {m : Module} → At room s 0 0 c (sum_of in_item m.items) → Taken end_at c t d → d.tokens ≡ [] → Whole room s m
whole-of {room = room} {s = s} {m = m} a (taken {t = t} {ts = ts} {last = last} {x = x} e) h =
    whole (end-is t x e) (subst (λ us. At room s 0 0 (record { tokens = t ∷ us; last = last }) (sum_of in_item m.items)) h a)

ends-of : {ts : List Filled} (o : Outcome (List Item)) (q : List Item → Parser Module) → Leaves ts o → ((xs : List Item) (c : Input) → Holds (λ m d. EndsIn c.tokens) (q xs c)) → Holds (λ m d. EndsIn ts) (after o q)
ends-of (Took xs c) q (took_rest r) f = weaken (f xs c) (λ m d h. later r h)
ends-of (Fault stop us) q l f = fault

whole-ends : (i : Inner) (s : Input) → Leaves s.tokens (m6.items i i.fuel s) → Holds (λ m d. EndsIn s.tokens) (m6.whole_module i s)
unfolding m6.whole_module
whole-ends i s l = ends-of (m6.items i i.fuel s) _ l (λ xs c. bind (take-holds c) λ t d k. if-holds _ _ _ d (λ e. refused-holds d) (λ e. took (end-of k (nothing-more d.tokens e))))

whole-holds : (i : Inner) (room : ℕ) (h : Shallow i room) (s : Input) → Ready room 0 s → Holds (λ m d. Whole room s m) (m6.whole_module i s)
unfolding m6.whole_module
whole-holds i room h s r = bind (items i room h i.fuel s r) λ xs c a. bind (take-holds c) λ t d k. if-holds _ _ _ d (λ e. refused-holds d) (λ e. took (whole-of a k (nothing-more d.tokens e)))

-- ## Tokens in order

no-end : {ts : List Filled} → EndsIn ts → ts ≡ [] → ⊥
no-end (ends_in t e) h = absurd (cc)
no-end (longer t h) k = absurd (cc)

end-alone : {t : Filled} → EndsIn (t ∷ []) → is_end t ≡ true
end-alone (ends_in t e) = e
end-alone (longer t h) = absurd (no-end h refl)

end-after : {t u : Filled} {ts : List Filled} → EndsIn (t ∷ u ∷ ts) → EndsIn (u ∷ ts)
end-after (longer t h) = h

sorted-from : (last : ℕ) (tokens : List Token) → Behind last tokens → AreInOrder tokens → EndsIn (map read tokens) → Sorted last (map read tokens)
sorted-from last [] b o e = tt
sorted-from last (t ∷ []) b o e = (b, λ h. absurd (true≢false (sym (end-alone e) ∙ h)), tt)
sorted-from last (t ∷ u ∷ ts) b o e = (b, λ h. o.0.0, sorted-from t.span.end (u ∷ ts) o.0.1 o.1 (end-after e))

behind-none : (tokens : List Token) → Behind 0 tokens
behind-none [] = tt
behind-none (t ∷ ts) = omega arith

-- ## At each token

pub data View (room : ℕ) (D : ℕ → ℕ) (low high : ℕ) (g : ℕ) (t : Filled) (ts : List Filled) (h : ℕ) (us : List Filled) : Type 0 where
  last_one : us ≡ t ∷ ts → g ≡ h → View room D low high g t ts h us
  one_of : (k : ℕ) → g + opens_of t.kind + D t.span.begin ≤ room → g + opens_of t.kind ≡ k + closes_of t.kind → Walk room D low high k ts h us → View room D low high g t ts h us

view : {room low high : ℕ} {D : ℕ → ℕ} {g h : ℕ} {t : Filled} {ts us : List Filled} → Walk room D low high g (t ∷ ts) h us → View room D low high g t ts h us
view stay = last_one refl refl
view (step {k = k} l m b e w) = one_of k b e w

end-opens : (k : Filling) → is_end_kind k ≡ true → opens_of k ≡ 0
end-opens (Read kinds.End) h = refl
end-opens k h = absurd (cc)

head-is : {t u : Filled} {ts us : List Filled} → t ∷ ts ≡ u ∷ us → (t ≡ u) × (ts ≡ us)
head-is h = (cc, cc)

module _ (room : ℕ) (D : ℕ → ℕ) (low high h : ℕ) (last : Filled) (ends : is_end last ≡ true) (fits : h ≤ room) (none : D last.span.begin ≡ 0) where
  at-first : {g : ℕ} {t : Filled} {ts : List Filled} → View room D low high g t ts h (last ∷ []) → g + opens_of t.kind + D t.span.begin ≤ room
  at-first (one_of k b e w) = b
  at-first {g = g} {t = t} (last_one e f) =
      let same : last ≡ t = (head-is e).0 in
      let opens = end-opens t.kind (ap is_end (sym same) ∙ ends) in
      let spans : D t.span.begin ≡ 0 = ap (λ u. D u.span.begin) (sym same) ∙ none in
      omega (arith, f, fits, opens, spans)

  after-first : (g : ℕ) (t u : Token) (us ts : List Token) → View room D low high g (read t) (map read (u ∷ ts)) h (last ∷ []) → ((k : ℕ) → Walk room D low high k (map read (u ∷ ts)) h (last ∷ []) → open_groups k (u ∷ us) + D (begin_of_last (u ∷ us)) ≤ room)
      → open_groups g (t ∷ u ∷ us) + D (begin_of_last (t ∷ u ∷ us)) ≤ room
  after-first g t u us ts (last_one e f) ih = absurd (cc)
  after-first g t u us ts (one_of k b e w) ih =
      let same : g + opens_group t.kind - closes_group t.kind ≡ k = omega (arith, e) in
      rw same (ih k w)

  bounded : (g : ℕ) (tokens : List Token) → Walk room D low high g (map read tokens) h (last ∷ []) → (p : ℕ) → p < length tokens → open_groups g (take (suc p) tokens) + D (begin_of_last (take (suc p) tokens)) ≤ room
  bounded g [] w p l = absurd (omega (arith, l))
  bounded g (t ∷ []) w zero l = at-first (view w)
  bounded g (t ∷ []) w (suc p) l = absurd (omega (arith, l))
  bounded g (t ∷ u ∷ ts) w zero l = at-first (view w)
  bounded g (t ∷ u ∷ ts) w (suc p) l = after-first g t u (take p ts) ts (view w) (λ k v. bounded k (u ∷ ts) v p (omega (arith, l)))

-- ## Modules

spans-are : (xs : List Item) (at : ℕ) → around (joined item_spans xs) at ≡ sum_of in_item xs at
spans-are [] at = refl
spans-are (x ∷ xs) at = omega (arith, around-append (item_spans x) (joined item_spans xs) at, spans-are xs at)

at-each : {room : ℕ} (tokens : List Token) (m : Module) → Whole room (record { tokens = map read tokens; last = 0 }) m → (p : ℕ) → p < length tokens → open_constructs (take (p + 1) tokens) m ≤ room
at-each {room = room} tokens m (whole {t = t} {last = last} e a) p l =
    let next : p + 1 ≡ suc p = omega arith in
    let bound = bounded room (sum_of in_item m.items) 0 last 0 t e (omega arith) (a.behind t.span.begin a.sorted.0) 0 tokens a.walk p l in
    let place = begin_of_last (take (suc p) tokens) in
    rw next (omega (arith, bound, around-is (module_spans m) place, spans-are m.items place))

pub depth : AreShallow
unfolding m6.read_module
depth fuel tokens m c order e =
    let i = m6.readers true fuel most_open in
    let s : Input = record { tokens = map read tokens; last = 0 } in
    let ends = of_took (subst (λ o. Holds (λ x d. EndsIn (map read tokens)) o) e (whole-ends i s (places.items i (placed true fuel most_open) i.fuel s))) in
    let ready : Ready most_open 0 s = record { sorted = sorted-from 0 tokens (behind-none tokens) order ends; fits = omega arith } in
    at-each tokens m (of_took (subst (λ o. Holds (λ x d. Whole most_open s x) o) e (whole-holds i most_open (shallow true fuel most_open) s ready)))
