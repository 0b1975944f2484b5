-- Object literals that are derived are read exactly so, if their properties are.
use Rattle.std.proofs.Common.{◌≡◌, ℕ, Bool, true, false, ◌||◌, List, [], ◌∷◌, Option, Some, None, refl, sym, ap, subst, ◌∙◌, arith}
use Rattle.es6_lexer.specs.declared.token.Punctuator.TheVariants as marks
use Rattle.es6_ast.specs.declared.tree.Expression.{Expression}
use Rattle.es6_ast.specs.declared.tree.Expression.TheVariants as expr
use Rattle.es6_ast.specs.declared.tree.Identifier.{Identifier}
use Rattle.es6_ast.specs.declared.tree.Property.{Property}
use Rattle.es6_ast.specs.declared.tree.Property.TheVariants as property
use Rattle.es6_ast.specs.declared.settings.Flags.{Flags}
use Rattle.es6_ast.specs.declared.settings.Role.{Role}
use Rattle.es6_ast.specs.declared.settings.Shape.TheVariants.{LeftHandSide}
use Rattle.es6_ast.specs.Tokens.{Filled, IsWord, IsMark, across, is_identifier}
use Rattle.es6_ast.specs.Grammar as g
use Rattle.es6_ast.specs.Grammar.{with_in, IsName}
use Rattle.es6_reading.specs.Parser.{Input, Parser, on, on_taken, next_is, mark, next_mark, Inner}
use Rattle.es6_reading.specs.Words.{name_if, free_name, any_name_in, accessor_at, accessor_name}
use Rattle.es6_reading.specs.Modules.{readers}
use Rattle.es6_reading.specs.Expressions.{properties, bracketed, composed, primary, head, shorthand, after_name, ends_name, after_accessor_word, one_property}
use Rattle.es6_reading.proofs.Posts.{Misses}
use Rattle.es6_reading.proofs.Meanings.{is-mark-true, some_same, accessor-means}
use Rattle.es6_reading.proofs.Spans.{◌⟫◌, span-across}
use Rattle.es6_reading.proofs.Derived.{one}
use Rattle.es6_reading.proofs.Reading.{Eventually, always, then_, both, pair, turn, begin, deeper}
use Rattle.es6_reading.proofs.Exactly.{Exactly, ReadsExactly, equal, done, and_then, later, hit, miss, take, if-yes, if-no, group-in, group-out, mark-hit}
use Rattle.es6_reading.proofs.CompleteTokens.{at-kind, brace-begins, closes-up, closes-brace, ends-yield, brace-ends-yield}
use Rattle.es6_reading.proofs.CompleteImports.{R, at-fuel, opened, mark-no-mark, word-no-mark}
use Rattle.es6_reading.proofs.CompleteLevels.{reading}
use Rattle.es6_reading.proofs.CompleteClaims.{Claim, claim-primary, open-assignment}
use Rattle.es6_reading.proofs.CompleteLists.{Ends, ends-comma}

-- ## What follows a property

pub data PropertyEnd : List Filled → Type 0 where
  comma_end : {t : Filled} {ts : List Filled} → IsMark marks.Comma t → PropertyEnd (t ∷ ts)
  brace_end : {t : Filled} {ts : List Filled} → IsMark marks.RightBrace t → PropertyEnd (t ∷ ts)

pub property-ends : (f : Flags) {us : List Filled} → PropertyEnd us → Ends f us
property-ends f (comma_end {t = t} {ts = ts} h) = ends-comma f ts t h
property-ends f (brace_end {t = t} {ts = ts} h) = record { closes = closes-up f 0 1 (t ∷ ts) (omega arith) (closes-brace f ts t h); yields = ends-yield 1 t ts (brace-ends-yield t h) }

end-ends-name : {us : List Filled} → PropertyEnd us → next_is ends_name us ≡ true
end-ends-name (comma_end {t = t} {ts = ts} h) = at-kind (λ u. ends_name u ≡ true) t _ h refl
end-ends-name (brace_end {t = t} {ts = ts} h) = at-kind (λ u. ends_name u ≡ true) t _ h refl

end-no-value : {us : List Filled} → PropertyEnd us → next_is (λ t. next_mark marks.Colon t || next_mark marks.LeftParenthesis t) us ≡ false
end-no-value (comma_end {t = t} {ts = ts} h) = at-kind (λ u. (next_mark marks.Colon u || next_mark marks.LeftParenthesis u) ≡ false) t _ h refl
end-no-value (brace_end {t = t} {ts = ts} h) = at-kind (λ u. (next_mark marks.Colon u || next_mark marks.LeftParenthesis u) ≡ false) t _ h refl

end-no-assign : {us : List Filled} → PropertyEnd us → Misses (mark marks.Assign) us
end-no-assign (comma_end {t = t} {ts = ts} h) = mark-no-mark marks.Assign marks.Comma t h refl
end-no-assign (brace_end {t = t} {ts = ts} h) = mark-no-mark marks.Assign marks.RightBrace t h refl

-- ## Properties that begin with a name

pub either-taken : {A B : Type 0} {x : A} {s : Input} {us : List Filled} (test : Filled → Option B) (p : B → Parser A) (q : Parser A) (t : Filled) (ts : List Filled) (last : ℕ) → ((b : B) → test t ≡ Some b → Exactly x s us (p b (record { tokens = ts; last = t.span.end })))
    → (test t ≡ None → Exactly x s us (q (record { tokens = t ∷ ts; last = last }))) → Exactly x s us (on test p q (record { tokens = t ∷ ts; last = last }))
either-taken {B = B} {x = x} {s = s} {us = us} test p q t ts last f g = by (test t) refl
  where
    by : (o : Option B) → test t ≡ o → Exactly x s us (on_taken o t ts p q (record { tokens = t ∷ ts; last = last }))
    by (Some b) e = f b e
    by None e = g e

pub accessor-is : (word : List ℕ) (setter : Bool) (t : Filled) → IsWord word t → accessor_at t ≡ Some setter → word ≡ accessor_name setter
accessor-is word setter t w e = some_same (sym (ap any_name_in w) ∙ ap any_name_in (accessor-means setter t e))

pub name-exact : {x : Property} {s : Input} {us : List Filled} (i : Inner) (f : Flags) (t : Filled) (ts : List Filled) (word : List ℕ) (last : ℕ) → IsWord word t → is_identifier word ≡ true → next_is ends_name ts ≡ true
    → Exactly x s us (after_name i f t.span.begin (record { span = t.span; name = word }) (record { tokens = ts; last = t.span.end })) → Exactly x s us (one_property i f (record { tokens = t ∷ ts; last = last }))
unfolding one_property after_accessor_word
name-exact {x = x} {s = s} {us = us} i f t ts word last w h n y = miss (mark marks.Star) _ _ (t ∷ ts) last (word-no-mark marks.Star word t w) (either-taken accessor_at _ _ t ts last
    (λ setter e. if-yes ends_name _ _ ts t.span.end n (subst (λ v. Exactly x s us (after_name i f t.span.begin (record { span = t.span; name = v }) (record { tokens = ts; last = t.span.end }))) (accessor-is word setter t w e) y))
    (λ e. hit free_name _ _ t word ts last (at-kind (λ u. free_name u ≡ Some word) t _ w (ap (λ b. name_if b word) h)) y))

pub record PropertyClaim (f : Flags) (ts us : List Filled) (q : Property) : Type 0 where
  pub no_brace : Misses (mark marks.RightBrace) ts
  pub reads : PropertyEnd us → Eventually (λ t k r. ReadsExactly (one_property (R k r) f) q ts us)

pub shorthand-claim : (f : Flags) {ts us : List Filled} {n : Identifier} {q : Property} → IsName ts n us → q ≡ property.Shorthand n.span n.name → PropertyClaim f ts us q
unfolding after_name shorthand
shorthand-claim f {us = us} (g.name {t = t} word w i j) e = record {
  no_brace = word-no-mark marks.RightBrace word t w;
  reads = λ h. always (λ n k r last. name-exact (R k r) f t us word last w i (end-ends-name h) (if-no (λ u. next_mark marks.Colon u || next_mark marks.LeftParenthesis u) _ _ us t.span.end (end-no-value h)
      (miss (mark marks.Assign) _ _ us t.span.end (end-no-assign h) (done (sym (e ∙ ap (λ m. property.Shorthand m.span m.name) j)) one))));
}

pub initialized-claim : (f : Flags) {m : Filled} {ts us vs : List Filled} {n : Identifier} {value : Expression} {q : Property} → IsName ts n (m ∷ us) → IsMark marks.Assign m → Claim (with_in f) 1 us vs value → q ≡ property.Initialized (across ts vs) n m.span value → PropertyClaim f ts vs q
unfolding after_name shorthand
initialized-claim f {m = m} {us = us} {vs = vs} {value = value} (g.name {t = t} word w i j) p c e = record {
  no_brace = word-no-mark marks.RightBrace word t w;
  reads = λ h. let d = property-ends (with_in f) h in then_ (open-assignment c d.closes d.yields) (λ n k r y last. name-exact (R k r) f t (m ∷ us) word last w i (at-kind (λ u. ends_name u ≡ true) m _ p refl)
      (if-no (λ u. next_mark marks.Colon u || next_mark marks.LeftParenthesis u) _ _ (m ∷ us) t.span.end (at-kind (λ u. (next_mark marks.Colon u || next_mark marks.LeftParenthesis u) ≡ false) m _ p refl)
      (hit (mark marks.Assign) _ _ m m us t.span.end (mark-hit marks.Assign m p) (and_then _ (later (one ⟫ one) (y m.span.end)) (λ end mv.
      done (ap (λ s. property.Initialized s (record { span = t.span; name = word }) m.span value) (span-across mv) ∙ ap (λ z. property.Initialized (across (t ∷ m ∷ us) vs) z m.span value) (sym j) ∙ sym e) mv)))));
}

-- ## Object literals

abbrev pub PropertiesRead : Flags → List Filled → List Property → List Filled → Type 0
PropertiesRead f ts qs us = Eventually (λ t k r. ReadsExactly (properties (R k r) f t) qs ts us)

open-property : {f : Flags} {ts us : List Filled} {q : Property} → PropertyClaim f ts us q → PropertyEnd us → Eventually (λ t k r. ReadsExactly ((R k r).property f) q ts us)
unfolding readers
open-property c h = deeper (c.reads h) (λ t k r y. y)

pub properties-none : (f : Flags) {c : Filled} {us : List Filled} → IsMark marks.RightBrace c → PropertiesRead f (c ∷ us) [] us
unfolding properties
properties-none f {c = c} {us = us} h = turn (always {P = λ t k r. Unit {0}} (λ t k r. tt)) (λ t k r _ last. hit (mark marks.RightBrace) _ _ c c us last (mark-hit marks.RightBrace c h) (done refl one))

pub properties-last : (f : Flags) {c : Filled} {ts us : List Filled} {q : Property} → PropertyClaim f ts (c ∷ us) q → IsMark marks.RightBrace c → PropertiesRead f ts (q ∷ []) us
unfolding properties
properties-last f {c = c} {ts = ts} {us = us} d h = turn (open-property d (brace_end h)) (λ t k r y last. miss (mark marks.RightBrace) _ _ ts last d.no_brace (and_then _ (y last) (λ end mv. miss (mark marks.Comma) _ _ (c ∷ us) end (mark-no-mark marks.Comma marks.RightBrace c h refl)
    (take (mark marks.RightBrace) _ c c us end (mark-hit marks.RightBrace c h) (done refl (mv ⟫ one))))))

pub properties-next : (f : Flags) {c : Filled} {ts us vs : List Filled} {q : Property} {qs : List Property} → PropertyClaim f ts (c ∷ us) q → IsMark marks.Comma c → PropertiesRead f us qs vs → PropertiesRead f ts (q ∷ qs) vs
unfolding properties
properties-next f {c = c} {ts = ts} {us = us} d h rest = turn (pair (open-property d (comma_end h)) rest) (λ t k r y last. miss (mark marks.RightBrace) _ _ ts last d.no_brace (and_then _ (y.0 last) (λ end mv. hit (mark marks.Comma) _ _ c c us end (mark-hit marks.Comma c h)
    (and_then _ (later (mv ⟫ one) (y.1 c.span.end)) (λ end' mv'. done refl mv')))))

brace-head : (i : Inner) (f : Flags) (role : Role) (t : Filled) (ts : List Filled) (last : ℕ) → IsMark marks.LeftBrace t → head i f role t.span.begin (record { tokens = t ∷ ts; last = last }) ≡ bracketed i f role t.span.begin (record { tokens = t ∷ ts; last = last })
unfolding head primary composed
brace-head i f role t ts last p = at-kind (λ u. head i f role u.span.begin (record { tokens = u ∷ ts; last = last }) ≡ bracketed i f role u.span.begin (record { tokens = u ∷ ts; last = last })) t _ p refl

pub object-claim : (f : Flags) {t : Filled} {ts us : List Filled} {qs : List Property} {x : Expression} → IsMark marks.LeftBrace t → PropertiesRead f ts qs us → x ≡ expr.ObjectList (across (t ∷ ts) us) qs → Claim f 19 (t ∷ ts) us x
unfolding bracketed
object-claim f {t = t} {ts = ts} {us = us} {qs = qs} {x = x} p h e = claim-primary f (t ∷ ts) us x LeftHandSide refl (brace-begins t p) (λ role. both opened (begin h (λ n k r z. at-fuel (λ j. properties (R k r) f j) qs ts us k r z)) (λ n k r o z last.
    equal (brace-head (R k r) f role t ts last p) (group-out (R k r) marks.LeftBracket _ _ (t ∷ ts) last (at-kind (λ u. next_mark marks.LeftBracket u ≡ false) t _ p refl) (group-in (R k r) marks.LeftBrace _ _ t ts last (is-mark-true marks.LeftBrace t p) o
    (and_then _ (later one (z t.span.end)) (λ end mv. done (ap (λ w. reading w LeftHandSide) (ap (λ s. expr.ObjectList s qs) (span-across mv) ∙ sym e)) mv))))))
