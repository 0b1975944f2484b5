-- The properties of object patterns that are derived are read exactly so, if their parts are.
use Rattle.std.proofs.Common.{◌≡◌, ℕ, Bool, true, false, List, [], ◌∷◌, Some, None, refl, sym, ap, subst, ◌∙◌}
use Rattle.es6_lexer.specs.declared.token.Punctuator.TheVariants as marks
use Rattle.es6_ast.specs.declared.tree.Identifier.{Identifier}
use Rattle.es6_ast.specs.declared.tree.Expression.{Expression}
use Rattle.es6_ast.specs.declared.tree.Pattern.{Pattern}
use Rattle.es6_ast.specs.declared.tree.Pattern.TheVariants as pattern
use Rattle.es6_ast.specs.declared.tree.ObjectPart.{ObjectPart}
use Rattle.es6_ast.specs.declared.tree.ObjectPart.TheVariants.{NamedPart, KeyedPart}
use Rattle.es6_ast.specs.declared.tree.Part.{Part, roll-Part}
use Rattle.es6_ast.specs.declared.tree.Key.{Key}
use Rattle.es6_ast.specs.declared.tree.Key.TheVariants.{WordKey}
use Rattle.es6_ast.specs.declared.settings.Flags.{Flags}
use Rattle.es6_ast.specs.Tokens.{Filled, IsWord, IsMark, begin_of, across, is_identifier}
use Rattle.es6_ast.specs.Grammar as g
use Rattle.es6_ast.specs.Grammar.{with_in, name_target, name_alone, IsName}
use Rattle.es6_reading.specs.Parser.{mark, next_mark, Inner}
use Rattle.es6_reading.specs.Words.{name_if, free_name}
use Rattle.es6_reading.specs.Parts.{object_parts, binding_pattern, binding, one_part, keyed_part, named_part, one_object_part}
use Rattle.es6_reading.specs.Modules.{readers}
use Rattle.es6_reading.proofs.Posts.{Misses}
use Rattle.es6_reading.proofs.Meanings.{is-mark-true}
use Rattle.es6_reading.proofs.Spans.{Moves, ◌⟫◌, span-across}
use Rattle.es6_reading.proofs.Derived.{one}
use Rattle.es6_reading.proofs.Reading.{Eventually, always, then_, both, pair, deeper, turn, begin}
use Rattle.es6_reading.proofs.Exactly.{Exactly, ReadsExactly, done, and_then, later, hit, miss, take, group-in, group-out, mark-hit}
use Rattle.es6_reading.proofs.CompleteTokens.{at-kind, brace-begins}
use Rattle.es6_reading.proofs.CompleteImports.{R, at-fuel, opened, mark-no-mark, word-no-mark}
use Rattle.es6_reading.proofs.CompleteClaims.{Claim}
use Rattle.es6_reading.proofs.CompleteObjects.{PropertyEnd, comma_end, brace_end, property-ends}
use Rattle.es6_reading.proofs.CompleteKeys.{KeyClaim, word_claim, text_claim, integer_claim, computed_claim, key-no-mark, key-exact}
use Rattle.es6_reading.proofs.CompleteFunctions.{ParameterClaim}
use Rattle.es6_reading.proofs.CompleteBindings.{Like, TargetClaim, PartClaim, open-like, open-part}

-- ## Keyed parts

pub key-like : (f h : Flags) {ts us : List Filled} {k : Key} → Like h f → KeyClaim f ts k us → KeyClaim h ts k us
key-like f h l (word_claim word w e) = word_claim word w e
key-like f h l (text_claim units t e) = text_claim units t e
key-like f h l (integer_claim value t e) = integer_claim value t e
key-like f h l (computed_claim {c = c} {ts = ts} {us = us} {value = value} p d q e) = computed_claim p (subst (λ v. Claim v 1 ts (c ∷ us) value) (sym l) d) q e

pub record ObjectPartClaim (f : Flags) (ts us : List Filled) (e : ObjectPart) : Type 0 where
  pub no_brace : Misses (mark marks.RightBrace) ts
  pub reads : PropertyEnd us → (h : Flags) → Like h f → Eventually (λ t k r. ReadsExactly (one_object_part (R k r) h) e ts us)

end-no-colon : {us : List Filled} → PropertyEnd us → Misses (mark marks.Colon) us
end-no-colon (comma_end {t = t} p) = mark-no-mark marks.Colon marks.Comma t p refl
end-no-colon (brace_end {t = t} p) = mark-no-mark marks.Colon marks.RightBrace t p refl

end-no-assign : {us : List Filled} → PropertyEnd us → Misses (mark marks.Assign) us
end-no-assign (comma_end {t = t} p) = mark-no-mark marks.Assign marks.Comma t p refl
end-no-assign (brace_end {t = t} p) = mark-no-mark marks.Assign marks.RightBrace t p refl

is-free : (name : List ℕ) (t : Filled) → IsWord name t → is_identifier name ≡ true → free_name t ≡ Some name
is-free name t w i = at-kind (λ u. free_name u ≡ Some name) t _ w (ap (λ b. name_if b name) i)

pub named-claim : (f : Flags) {ts us : List Filled} {n : Identifier} {e : ObjectPart} → IsName ts n us → e ≡ NamedPart (name_alone n) → ObjectPartClaim f ts us e
unfolding one_object_part named_part
named-claim f {us = us} (g.name {t = t} word w i j) e = record {
  no_brace = word-no-mark marks.RightBrace word t w;
  reads = λ p h l. always (λ n k r last. hit free_name _ _ t word us last (is-free word t w i) (miss (mark marks.Colon) _ _ us t.span.end (end-no-colon p)
      (miss (mark marks.Assign) _ _ us t.span.end (end-no-assign p) (done (ap (λ m. NamedPart (name_alone m)) (sym j) ∙ sym e) one))));
}

pub named-default-claim : (f : Flags) {m : Filled} {ts us vs : List Filled} {n : Identifier} {value : Expression} {e : ObjectPart} → IsName ts n (m ∷ us) → IsMark marks.Assign m → Claim (with_in f) 1 us vs value → e ≡ NamedPart (roll-Part (record { span = across ts vs; pattern = name_target n; default = Some value })) → ObjectPartClaim f ts vs e
unfolding one_object_part named_part
named-default-claim f {m = m} {us = us} {vs = vs} {value = value} (g.name {t = t} word w i j) p c e = record {
  no_brace = word-no-mark marks.RightBrace word t w;
  reads = λ q h l. then_ (open-like f h l c (property-ends (with_in f) q)) (λ n k r z last. hit free_name _ _ t word (m ∷ us) last (is-free word t w i) (miss (mark marks.Colon) _ _ (m ∷ us) t.span.end (mark-no-mark marks.Colon marks.Assign m p refl)
      (hit (mark marks.Assign) _ _ m m us t.span.end (mark-hit marks.Assign m p) (and_then _ (later (one ⟫ one) (z m.span.end)) (λ end mv.
      done (ap (λ s. NamedPart (roll-Part (record { span = s; pattern = name_target (record { span = t.span; name = word }); default = Some value }))) (span-across mv)
      ∙ ap (λ z. NamedPart (roll-Part (record { span = across (t ∷ m ∷ us) vs; pattern = name_target z; default = Some value }))) (sym j) ∙ sym e) mv)))));
}

-- a part after the colon that follows the key
after-colon : (i : Inner) (h : Flags) {ts us vs : List Filled} {k : Key} {q : Part} {e : ObjectPart} (last end : ℕ) → Moves (record { tokens = ts; last = last }) (record { tokens = us; last = end }) → ReadsExactly (one_part i h) q us vs → e ≡ KeyedPart (across ts vs) k q
    → Exactly e (record { tokens = ts; last = last }) vs (keyed_part i h (begin_of ts) k (record { tokens = us; last = end }))
unfolding keyed_part
after-colon i h {k = k} {q = q} last end mv y e = and_then _ (later mv (y end)) (λ end' mv'. done (ap (λ s. KeyedPart s k q) (span-across mv') ∙ sym e) mv')

abbrev KeyedRead : Flags → List Filled → ObjectPart → List Filled → Type 0
KeyedRead h ts e vs = Eventually (λ t k r. ReadsExactly (one_object_part (R k r) h) e ts vs)

OnePartRead : Flags → Part → List Filled → List Filled → Type 0
OnePartRead h q us vs = Eventually (λ t k r. ReadsExactly (one_part (R k r) h) q us vs)

other-keyed : (f h : Flags) (q : Part) {c : Filled} {ts us vs : List Filled} {k : Key} {e : ObjectPart} → Like h f → KeyClaim f ts k (c ∷ us) → Misses free_name ts → IsMark marks.Colon c → OnePartRead h q us vs → e ≡ KeyedPart (across ts vs) k q → KeyedRead h ts e vs
unfolding one_object_part OnePartRead
other-keyed f h q {c = c} {ts = ts} {us = us} {vs = vs} {e = e} l d m p y j = both (key-exact (key-like f h l d)) y (λ n k r z w last. miss free_name _ _ ts last m (and_then _ (z last) (λ end mv.
    take (mark marks.Colon) _ c c us end (mark-hit marks.Colon c p) (after-colon (R k r) h last c.span.end (mv ⟫ one) w j))))

word-keyed : (f h : Flags) (q : Part) {t c : Filled} {us vs : List Filled} {k : Key} {e : ObjectPart} (word : List ℕ) → Like h f → IsWord word t → k ≡ WordKey t.span word → IsMark marks.Colon c → OnePartRead h q us vs → e ≡ KeyedPart (across (t ∷ c ∷ us) vs) k q → KeyedRead h (t ∷ c ∷ us) e vs
unfolding one_object_part OnePartRead
word-keyed f h q {t = t} {c = c} {us = us} {vs = vs} {e = e} word l w i p y j = by (is_identifier word) refl
  where
    by : (b : Bool) → is_identifier word ≡ b → KeyedRead h (t ∷ c ∷ us) e vs
    by true o = then_ y (λ n k r z last. hit free_name _ _ t word (c ∷ us) last (is-free word t w o) (hit (mark marks.Colon) _ _ c c us t.span.end (mark-hit marks.Colon c p)
        (after-colon (R k r) h last c.span.end (one ⟫ one) z (j ∙ ap (λ m. KeyedPart (across (t ∷ c ∷ us) vs) m q) i))))
    by false o = other-keyed f h q l (word_claim word w i) (at-kind (λ u. free_name u ≡ None) t _ w (ap (λ b. name_if b word) o)) p y j

key-keyed : (f h : Flags) (q : Part) {c : Filled} {ts us vs : List Filled} {k : Key} {e : ObjectPart} → Like h f → KeyClaim f ts k (c ∷ us) → IsMark marks.Colon c → OnePartRead h q us vs → e ≡ KeyedPart (across ts vs) k q → KeyedRead h ts e vs
key-keyed f h q l (word_claim word w i) p y j = word-keyed f h q word l w i p y j
key-keyed f h q l (text_claim {t = t} units x i) p y j = other-keyed f h q l (text_claim {t = t} units x i) (at-kind (λ u. free_name u ≡ None) t _ x refl) p y j
key-keyed f h q l (integer_claim {t = t} value x i) p y j = other-keyed f h q l (integer_claim {t = t} value x i) (at-kind (λ u. free_name u ≡ None) t _ x refl) p y j
key-keyed f h q l (computed_claim {o = o} x d z i) p y j = other-keyed f h q l (computed_claim {o = o} x d z i) (at-kind (λ u. free_name u ≡ None) o _ x refl) p y j

pub keyed-claim : (f : Flags) {c : Filled} {ts us vs : List Filled} {k : Key} {q : Part} {e : ObjectPart} → KeyClaim f ts k (c ∷ us) → IsMark marks.Colon c → PartClaim f us vs q → e ≡ KeyedPart (across ts vs) k q → ObjectPartClaim f ts vs e
unfolding OnePartRead
keyed-claim f {q = q} d p a e = record { no_brace = (key-no-mark d).0; reads = λ b h l. key-keyed f h q l d p (a.reads (property-ends (with_in f) b) h l) e }

-- ## Object patterns

-- the properties of an object pattern, and the closing brace
abbrev pub ObjectPartsRead : Flags → List Filled → List ObjectPart → List Filled → Type 0
ObjectPartsRead f ts es us = (h : Flags) → Like h f → Eventually (λ t k r. ReadsExactly (object_parts (R k r) h t) es ts us)

open-object-part : {f : Flags} {ts us : List Filled} {e : ObjectPart} → ObjectPartClaim f ts us e → PropertyEnd us → (h : Flags) → Like h f → Eventually (λ t k r. ReadsExactly ((R k r).object_part h) e ts us)
unfolding readers
open-object-part c p h l = deeper (c.reads p h l) (λ t k r y. y)

pub object-none : (f : Flags) {c : Filled} {us : List Filled} → IsMark marks.RightBrace c → ObjectPartsRead f (c ∷ us) [] us
unfolding object_parts
object-none f {c = c} {us = us} p h l = turn (always {P = λ t k r. Unit {0}} (λ t k r. tt)) (λ t k r _ last. hit (mark marks.RightBrace) _ _ c c us last (mark-hit marks.RightBrace c p) (done refl one))

pub object-last : (f : Flags) {c : Filled} {ts us : List Filled} {e : ObjectPart} → ObjectPartClaim f ts (c ∷ us) e → IsMark marks.RightBrace c → ObjectPartsRead f ts (e ∷ []) us
unfolding object_parts
object-last f {c = c} {ts = ts} {us = us} d p h l = turn (open-object-part d (brace_end p) h l) (λ t k r y last. miss (mark marks.RightBrace) _ _ ts last d.no_brace (and_then _ (y last) (λ end mv. miss (mark marks.Comma) _ _ (c ∷ us) end (mark-no-mark marks.Comma marks.RightBrace c p refl)
    (take (mark marks.RightBrace) _ c c us end (mark-hit marks.RightBrace c p) (done refl (mv ⟫ one))))))

pub object-next : (f : Flags) {c : Filled} {ts us vs : List Filled} {e : ObjectPart} {es : List ObjectPart} → ObjectPartClaim f ts (c ∷ us) e → IsMark marks.Comma c → ObjectPartsRead f us es vs → ObjectPartsRead f ts (e ∷ es) vs
unfolding object_parts
object-next f {c = c} {ts = ts} {us = us} d p rest h l = turn (pair (open-object-part d (comma_end p) h l) (rest h l)) (λ t k r y last. miss (mark marks.RightBrace) _ _ ts last d.no_brace (and_then _ (y.0 last) (λ end mv. hit (mark marks.Comma) _ _ c c us end (mark-hit marks.Comma c p)
    (and_then _ (later (mv ⟫ one) (y.1 c.span.end)) (λ end' mv'. done refl mv')))))

pub object-target : (f : Flags) {t : Filled} {ts us : List Filled} {es : List ObjectPart} {y : Pattern} → IsMark marks.LeftBrace t → ObjectPartsRead (with_in f) ts es us → y ≡ pattern.ObjectPattern (across (t ∷ ts) us) es → TargetClaim f (t ∷ ts) us y
unfolding binding binding_pattern
object-target f {t = t} {ts = ts} {us = us} {es = es} p d e = record {
  begins = brace-begins t p;
  reads = λ h l. both opened (begin (d h l) (λ n k r y. at-fuel (λ j. object_parts (R k r) h j) es ts us k r y)) (λ n k r o y last. miss free_name _ _ (t ∷ ts) last (at-kind (λ u. free_name u ≡ None) t _ p refl)
      (group-out (R k r) marks.LeftBracket _ _ (t ∷ ts) last (at-kind (λ u. next_mark marks.LeftBracket u ≡ false) t _ p refl)
      (group-in (R k r) marks.LeftBrace _ _ t ts last (is-mark-true marks.LeftBrace t p) o (and_then _ (later one (y t.span.end)) (λ end mv. done (ap (λ s. pattern.ObjectPattern s es) (span-across mv) ∙ sym e) mv)))));
}

-- ## Parameters (14.1)

-- a part that is a parameter of a function
pub parameter-claim : (f : Flags) {ts us : List Filled} {q : Part} → PartClaim (with_in f) ts us q → ParameterClaim (with_in f) ts us q
parameter-claim f c = record { begins = c.begins; reads = λ e. open-part c e (with_in f) refl }
