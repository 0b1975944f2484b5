-- Patterns that bind that are derived are read exactly so, if their parts are.
use Rattle.std.proofs.Common.{◌≡◌, true, List, [], ◌∷◌, Some, None, refl, sym, ap, subst, ◌∙◌, arith}
use Rattle.es6_lexer.specs.declared.token.Punctuator.TheVariants as marks
use Rattle.es6_ast.specs.declared.tree.Identifier.{Identifier}
use Rattle.es6_ast.specs.declared.tree.Expression.{Expression}
use Rattle.es6_ast.specs.declared.tree.Pattern.{Pattern}
use Rattle.es6_ast.specs.declared.tree.Pattern.TheVariants as pattern
use Rattle.es6_ast.specs.declared.tree.ArrayPart.{ArrayPart}
use Rattle.es6_ast.specs.declared.tree.ArrayPart.TheVariants.{SkippedPart, SinglePart, RestPart}
use Rattle.es6_ast.specs.declared.tree.Part.{Part, roll-Part}
use Rattle.es6_ast.specs.declared.settings.Flags.{Flags}
use Rattle.es6_ast.specs.Tokens.{Filled, IsMark, across}
use Rattle.es6_ast.specs.Grammar as g
use Rattle.es6_ast.specs.Grammar.{with_in, name_target, IsName}
use Rattle.es6_reading.specs.Parser.{next_is, mark}
use Rattle.es6_reading.specs.Words.{free_name, begins_operand}
use Rattle.es6_reading.specs.Parts.{rest_part, array_parts, binding_pattern, binding, initialized, one_part}
use Rattle.es6_reading.specs.Modules.{readers}
use Rattle.es6_reading.proofs.Posts.{Misses}
use Rattle.es6_reading.proofs.Meanings.{is-mark-true}
use Rattle.es6_reading.proofs.Spans.{◌⟫◌, span-across}
use Rattle.es6_reading.proofs.Derived.{one}
use Rattle.es6_reading.proofs.Reading.{Eventually, always, then_, both, pair, deeper, turn, begin}
use Rattle.es6_reading.proofs.Exactly.{ReadsExactly, done, and_then, later, hit, miss, take, group-in, mark-hit}
use Rattle.es6_reading.proofs.CompleteTokens.{at-kind, name-begins, bracket-begins}
use Rattle.es6_reading.proofs.CompleteImports.{R, at-fuel, opened, mark-no-mark, identifier-exact}
use Rattle.es6_reading.proofs.CompleteClaims.{Claim, unary-if-operand, expression-if-unary, begins-no-square, begins-no-comma, begins-no-ellipsis, open-assignment}
use Rattle.es6_reading.proofs.CompleteLists.{Ends, ends-comma, ends-square}
use Rattle.es6_reading.proofs.CompleteStatements.{BindingRead, name-binding, no-equals}

-- In brackets and braces `in` is an operator, so that patterns are read the same by flags with it and without it.
abbrev pub Like : Flags → Flags → Type 0
Like h f = with_in h ≡ with_in f

-- ## Targets

pub record TargetClaim (f : Flags) (ts us : List Filled) (y : Pattern) : Type 0 where
  pub begins : next_is begins_operand ts ≡ true
  pub reads : (h : Flags) → Like h f → BindingRead h ts y us

pub operand-first : (f : Flags) (ts : List Filled) → next_is begins_operand ts ≡ true → (Misses (mark marks.RightBracket) ts) × (Misses (mark marks.Comma) ts) × (Misses (mark marks.Ellipsis) ts)
operand-first f ts o = let b = expression-if-unary f ts (unary-if-operand ts o) in (begins-no-square f ts b, begins-no-comma f ts b, begins-no-ellipsis f ts b)

pub name-target : (f : Flags) {ts us : List Filled} {n : Identifier} {y : Pattern} → IsName ts n us → y ≡ name_target n → TargetClaim f ts us y
name-target f (g.name {t = t} {ts = ts} word w i j) e = record { begins = name-begins word t w i; reads = λ h l. always (λ n k r. name-binding (R k r) h (g.name {t = t} {ts = ts} word w i j) e) }

-- the parts of an array pattern, and the closing bracket
abbrev pub ArrayPartsRead : Flags → List Filled → List ArrayPart → List Filled → Type 0
ArrayPartsRead f ts es us = (h : Flags) → Like h f → Eventually (λ t k r. ReadsExactly (array_parts (R k r) h t) es ts us)

pub array-target : (f : Flags) {t : Filled} {ts us : List Filled} {es : List ArrayPart} {y : Pattern} → IsMark marks.LeftBracket t → ArrayPartsRead (with_in f) ts es us → y ≡ pattern.ArrayPattern (across (t ∷ ts) us) es → TargetClaim f (t ∷ ts) us y
unfolding binding binding_pattern
array-target f {t = t} {ts = ts} {us = us} {es = es} p d e = record {
  begins = bracket-begins t p;
  reads = λ h l. both opened (begin (d h l) (λ n k r y. at-fuel (λ j. array_parts (R k r) h j) es ts us k r y)) (λ n k r o y last. miss free_name _ _ (t ∷ ts) last (at-kind (λ u. free_name u ≡ None) t _ p refl)
      (group-in (R k r) marks.LeftBracket _ _ t ts last (is-mark-true marks.LeftBracket t p) o (and_then _ (later one (y t.span.end)) (λ end mv. done (ap (λ s. pattern.ArrayPattern s es) (span-across mv) ∙ sym e) mv))));
}

-- ## Parts

pub record PartClaim (f : Flags) (ts us : List Filled) (q : Part) : Type 0 where
  pub begins : next_is begins_operand ts ≡ true
  pub reads : Ends (with_in f) us → (h : Flags) → Like h f → Eventually (λ t k r. ReadsExactly (one_part (R k r) h) q ts us)

pub part-alone : (f : Flags) {ts us : List Filled} {y : Pattern} {q : Part} → TargetClaim f ts us y → q ≡ roll-Part (record { span = across ts us; pattern = y; default = None }) → PartClaim f ts us q
unfolding one_part initialized
part-alone f {us = us} {y = y} d e = record {
  begins = d.begins;
  reads = λ c h l. then_ (d.reads h l) (λ t k r z last. and_then _ (z last) (λ end mv. miss (mark marks.Assign) _ _ us end (no-equals us (c.closes.assigns (omega arith))) (done (ap (λ s. roll-Part (record { span = s; pattern = y; default = None })) (span-across mv) ∙ sym e) mv)));
}

pub open-like : (f h : Flags) {ts us : List Filled} {x : Expression} → Like h f → (c : Claim (with_in f) 1 ts us x) → Ends (with_in f) us → Eventually (λ t k r. ReadsExactly ((R k r).assignment (with_in h)) (record { value = x; shape = c.shape }) ts us)
open-like f h {ts = ts} {us = us} {x = x} l c e = subst (λ v. Eventually (λ t k r. ReadsExactly ((R k r).assignment v) (record { value = x; shape = c.shape }) ts us)) (sym l) (open-assignment c e.closes e.yields)

pub part-with-default : (f : Flags) {m : Filled} {ts us vs : List Filled} {y : Pattern} {value : Expression} {q : Part} → TargetClaim f ts (m ∷ us) y → IsMark marks.Assign m → Claim (with_in f) 1 us vs value → q ≡ roll-Part (record { span = across ts vs; pattern = y; default = Some value }) → PartClaim f ts vs q
unfolding one_part initialized
part-with-default f {m = m} {us = us} {y = y} {value = value} d p c e = record {
  begins = d.begins;
  reads = λ a h l. both (d.reads h l) (open-like f h l c a) (λ t k r z w last. and_then _ (z last) (λ end mv. hit (mark marks.Assign) _ _ m m us end (mark-hit marks.Assign m p)
      (and_then _ (later (mv ⟫ one) (w m.span.end)) (λ end' mv'. done (ap (λ s. roll-Part (record { span = s; pattern = y; default = Some value })) (span-across mv') ∙ sym e) mv'))));
}

pub open-part : {f : Flags} {ts us : List Filled} {q : Part} → PartClaim f ts us q → Ends (with_in f) us → (h : Flags) → Like h f → Eventually (λ t k r. ReadsExactly ((R k r).part h) q ts us)
unfolding readers
open-part c e h l = deeper (c.reads e h l) (λ t k r y. y)

-- ## The parts of array patterns

pub array-none : (f : Flags) {c : Filled} {us : List Filled} → IsMark marks.RightBracket c → ArrayPartsRead f (c ∷ us) [] us
unfolding array_parts
array-none f {c = c} {us = us} p h l = turn (always {P = λ t k r. Unit {0}} (λ t k r. tt)) (λ t k r _ last. hit (mark marks.RightBracket) _ _ c c us last (mark-hit marks.RightBracket c p) (done refl one))

pub array-skipped : (f : Flags) {c : Filled} {ts us : List Filled} {e : ArrayPart} {es : List ArrayPart} → IsMark marks.Comma c → e ≡ SkippedPart → ArrayPartsRead f ts es us → ArrayPartsRead f (c ∷ ts) (e ∷ es) us
unfolding array_parts
array-skipped f {c = c} {ts = ts} {es = es} p e d h l = turn (d h l) (λ t k r y last. miss (mark marks.RightBracket) _ _ (c ∷ ts) last (mark-no-mark marks.RightBracket marks.Comma c p refl)
    (hit (mark marks.Comma) _ _ c c ts last (mark-hit marks.Comma c p) (and_then _ (later one (y c.span.end)) (λ end mv. done (ap (λ z. z ∷ es) (sym e)) mv))))

pub array-rest : (f : Flags) {t c : Filled} {ts us : List Filled} {n : Identifier} {y : Pattern} {e : ArrayPart} → IsMark marks.Ellipsis t → IsName ts n (c ∷ us) → y ≡ name_target n → IsMark marks.RightBracket c → e ≡ RestPart (across (t ∷ ts) (c ∷ us)) y → ArrayPartsRead f (t ∷ ts) (e ∷ []) us
unfolding array_parts rest_part
array-rest f {t = t} {c = c} {ts = ts} {us = us} {n = n} p d j q e h l = turn (always {P = λ t k r. Unit {0}} (λ t k r. tt)) (λ i k r _ last.
    miss (mark marks.RightBracket) _ _ (t ∷ ts) last (mark-no-mark marks.RightBracket marks.Ellipsis t p refl) (miss (mark marks.Comma) _ _ (t ∷ ts) last (mark-no-mark marks.Comma marks.Ellipsis t p refl)
    (hit (mark marks.Ellipsis) _ _ t t ts last (mark-hit marks.Ellipsis t p) (and_then _ (later one (identifier-exact d t.span.end)) (λ end mv. take (mark marks.RightBracket) _ c c us end (mark-hit marks.RightBracket c q)
    (done (ap (λ z. z ∷ []) (ap (λ s. RestPart s (name_target n)) (span-across mv) ∙ ap (λ z. RestPart (across (t ∷ ts) (c ∷ us)) z) (sym j) ∙ sym e)) (mv ⟫ one)))))))

pub array-last : (f : Flags) {c : Filled} {ts us : List Filled} {q : Part} {e : ArrayPart} → PartClaim f ts (c ∷ us) q → IsMark marks.RightBracket c → e ≡ SinglePart q → ArrayPartsRead f ts (e ∷ []) us
unfolding array_parts
array-last f {c = c} {ts = ts} {us = us} d p e h l = let o = operand-first f ts d.begins in turn (open-part d (ends-square (with_in f) us c p) h l) (λ t k r y last.
    miss (mark marks.RightBracket) _ _ ts last o.0 (miss (mark marks.Comma) _ _ ts last o.1 (miss (mark marks.Ellipsis) _ _ ts last o.2
    (and_then _ (y last) (λ end mv. miss (mark marks.Comma) _ _ (c ∷ us) end (mark-no-mark marks.Comma marks.RightBracket c p refl) (take (mark marks.RightBracket) _ c c us end (mark-hit marks.RightBracket c p) (done (ap (λ z. z ∷ []) (sym e)) (mv ⟫ one))))))))

pub array-next : (f : Flags) {c : Filled} {ts us vs : List Filled} {q : Part} {e : ArrayPart} {es : List ArrayPart} → PartClaim f ts (c ∷ us) q → IsMark marks.Comma c → e ≡ SinglePart q → ArrayPartsRead f us es vs → ArrayPartsRead f ts (e ∷ es) vs
unfolding array_parts
array-next f {c = c} {ts = ts} {us = us} {es = es} d p e rest h l = let o = operand-first f ts d.begins in turn (pair (open-part d (ends-comma (with_in f) us c p) h l) (rest h l)) (λ t k r y last.
    miss (mark marks.RightBracket) _ _ ts last o.0 (miss (mark marks.Comma) _ _ ts last o.1 (miss (mark marks.Ellipsis) _ _ ts last o.2
    (and_then _ (y.0 last) (λ end mv. hit (mark marks.Comma) _ _ c c us end (mark-hit marks.Comma c p) (and_then _ (later (mv ⟫ one) (y.1 c.span.end)) (λ end' mv'. done (ap (λ z. z ∷ es) (sym e)) mv')))))))
