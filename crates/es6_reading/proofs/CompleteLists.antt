-- Elements, arguments and templates that are derived are read exactly so, if their parts are.
use Rattle.std.proofs.Common.{◌≡◌, ℕ, Bool, true, false, List, [], ◌∷◌, None, refl, sym, ap, subst, ◌∙◌, arith}
use Rattle.std.specs.Prelude.{is_some}
use Rattle.es6_lexer.specs.declared.token.TokenKind.TheVariants as kinds
use Rattle.es6_lexer.specs.declared.token.Punctuator.TheVariants as marks
use Rattle.es6_ast.specs.declared.tree.Expression.{Expression}
use Rattle.es6_ast.specs.declared.tree.Element.{Element}
use Rattle.es6_ast.specs.declared.tree.Element.TheVariants.{Hole, Present}
use Rattle.es6_ast.specs.declared.tree.Argument.{Argument}
use Rattle.es6_ast.specs.declared.tree.Argument.TheVariants.{Single, Spread}
use Rattle.es6_ast.specs.declared.tree.Template.{Template, roll-Template}
use Rattle.es6_ast.specs.declared.tree.TemplatePart.{TemplatePart, roll-TemplatePart}
use Rattle.es6_ast.specs.declared.settings.Flags.{Flags}
use Rattle.es6_ast.specs.Tokens.{Filled, Read, IsMark, begin_of, across}
use Rattle.es6_ast.specs.Grammar.{with_in}
use Rattle.es6_reading.specs.Parser.{Input, Parser, mark}
use Rattle.es6_reading.specs.Words.{stretch_at, stretch_in}
use Rattle.es6_reading.specs.Parts.{template_parts, parted_template, on_template}
use Rattle.es6_reading.specs.Expressions.{argument, Listing, elements, more_arguments, arguments}
use Rattle.es6_reading.proofs.Posts.{Misses}
use Rattle.es6_reading.proofs.Spans.{Moves, ◌⟫◌, span-across}
use Rattle.es6_reading.proofs.Derived.{one}
use Rattle.es6_reading.proofs.Reading.{Eventually, always, then_, both, pair, turn, begin}
use Rattle.es6_reading.proofs.Exactly.{Exactly, ReadsExactly, done, and_then, later, hit, miss, take, if-yes, chosen, mark-hit}
use Rattle.es6_reading.proofs.CompleteTokens.{Closes, EndsYield, closes-comma, closes-close, closes-square, closes-stretch, closes-up, comma-ends-yield, close-ends-yield, square-ends-yield, stretch-ends-yield, ends-yield}
use Rattle.es6_reading.proofs.CompleteImports.{R, at-fuel, opened, mark-no-mark}
use Rattle.es6_reading.proofs.CompleteClaims.{Claim, begins-no-close, begins-no-square, begins-no-comma, begins-no-ellipsis, open-assignment, open-sequence}

-- ## Arguments and elements

-- before what ends an assignment
pub record Ends (f : Flags) (us : List Filled) : Type 0 where
  pub closes : Closes f 1 us
  pub yields : EndsYield 1 us

pub ends-comma : (f : Flags) (us : List Filled) (c : Filled) → IsMark marks.Comma c → Ends f (c ∷ us)
ends-comma f us c h = record { closes = closes-comma f us c h; yields = ends-yield 1 c us (comma-ends-yield c h) }

pub ends-close : (f : Flags) (us : List Filled) (c : Filled) → IsMark marks.RightParenthesis c → Ends f (c ∷ us)
ends-close f us c h = record { closes = closes-up f 0 1 (c ∷ us) (omega arith) (closes-close f us c h); yields = ends-yield 1 c us (close-ends-yield c h) }

pub ends-square : (f : Flags) (us : List Filled) (c : Filled) → IsMark marks.RightBracket c → Ends f (c ∷ us)
ends-square f us c h = record { closes = closes-up f 0 1 (c ∷ us) (omega arith) (closes-square f us c h); yields = ends-yield 1 c us (square-ends-yield c h) }

pub record ArgumentClaim (f : Flags) (ts us : List Filled) (a : Argument) : Type 0 where
  pub no_close : Misses (mark marks.RightParenthesis) ts
  pub no_square : Misses (mark marks.RightBracket) ts
  pub no_comma : Misses (mark marks.Comma) ts
  pub reads : Ends (with_in f) us → Eventually (λ t k r. ReadsExactly (argument (R k r) f) a ts us)

pub single-claim : (f : Flags) {ts us : List Filled} {x : Expression} {a : Argument} → Claim (with_in f) 1 ts us x → a ≡ Single x → ArgumentClaim f ts us a
unfolding argument
single-claim f {ts = ts} c e = record {
  no_close = begins-no-close (with_in f) ts c.begins;
  no_square = begins-no-square (with_in f) ts c.begins;
  no_comma = begins-no-comma (with_in f) ts c.begins;
  reads = λ h. then_ (open-assignment c h.closes h.yields) (λ t k r y last. miss (mark marks.Ellipsis) _ _ ts last (begins-no-ellipsis (with_in f) ts c.begins) (and_then _ (y last) (λ end mv. done (sym e) mv)));
}

pub spread-claim : (f : Flags) {t : Filled} {ts us : List Filled} {x : Expression} {a : Argument} → IsMark marks.Ellipsis t → Claim (with_in f) 1 ts us x → a ≡ Spread (across (t ∷ ts) us) x → ArgumentClaim f (t ∷ ts) us a
unfolding argument
spread-claim f {t = t} {ts = ts} {x = x} p c e = record {
  no_close = mark-no-mark marks.RightParenthesis marks.Ellipsis t p refl;
  no_square = mark-no-mark marks.RightBracket marks.Ellipsis t p refl;
  no_comma = mark-no-mark marks.Comma marks.Ellipsis t p refl;
  reads = λ h. then_ (open-assignment c h.closes h.yields) (λ n k r y last. hit (mark marks.Ellipsis) _ _ t t ts last (mark-hit marks.Ellipsis t p)
      (and_then _ (later one (y t.span.end)) (λ end mv. done (ap (λ z. Spread z x) (span-across mv) ∙ sym e) mv)));
}

abbrev pub listing : List Element → Bool → Listing
listing es comma = record { elements = es; ends_in_comma = comma }

abbrev pub ElementsRead : Flags → Bool → List Filled → List Element → List Filled → Type 0
ElementsRead f c ts es us = Eventually (λ t k r. ReadsExactly (elements (R k r) f t) (listing es c) ts us)

pub elements-none : (f : Flags) {c : Filled} {us : List Filled} → IsMark marks.RightBracket c → ElementsRead f false (c ∷ us) [] us
unfolding elements
elements-none f {c = c} {us = us} h = turn (always {P = λ t k r. Unit {0}} (λ t k r. tt)) (λ t k r _ last. hit (mark marks.RightBracket) _ _ c c us last (mark-hit marks.RightBracket c h) (done refl one))

pub elements-hole : (f : Flags) {b : Bool} {c : Filled} {ts us : List Filled} {e : Element} {es : List Element} → IsMark marks.Comma c → e ≡ Hole → ElementsRead f b ts es us → ElementsRead f b (c ∷ ts) (e ∷ es) us
unfolding elements
elements-hole f {b = b} {c = c} {ts = ts} {es = es} h e d = turn d (λ t k r y last. miss (mark marks.RightBracket) _ _ (c ∷ ts) last (mark-no-mark marks.RightBracket marks.Comma c h refl)
    (hit (mark marks.Comma) _ _ c c ts last (mark-hit marks.Comma c h) (and_then _ (later one (y c.span.end)) (λ end mv. done (ap (λ z. listing (z ∷ es) b) (sym e)) mv))))

pub elements-last : (f : Flags) {c : Filled} {ts us : List Filled} {e : Element} {a : Argument} → ArgumentClaim f ts (c ∷ us) a → IsMark marks.RightBracket c → e ≡ Present a → ElementsRead f false ts (e ∷ []) us
unfolding elements
elements-last f {c = c} {ts = ts} {us = us} x h e = turn (x.reads (ends-square (with_in f) us c h)) (λ t k r y last. miss (mark marks.RightBracket) _ _ ts last x.no_square (miss (mark marks.Comma) _ _ ts last x.no_comma
    (and_then _ (y last) (λ end mv. miss (mark marks.Comma) _ _ (c ∷ us) end (mark-no-mark marks.Comma marks.RightBracket c h refl) (take (mark marks.RightBracket) _ c c us end (mark-hit marks.RightBracket c h) (done (ap (λ z. listing (z ∷ []) false) (sym e)) (mv ⟫ one)))))))

pub elements-comma : (f : Flags) {c m : Filled} {ts us : List Filled} {e : Element} {a : Argument} → ArgumentClaim f ts (m ∷ c ∷ us) a → IsMark marks.Comma m → IsMark marks.RightBracket c → e ≡ Present a → ElementsRead f true ts (e ∷ []) us
unfolding elements
elements-comma f {c = c} {m = m} {ts = ts} {us = us} x p h e = turn (x.reads (ends-comma (with_in f) (c ∷ us) m p)) (λ t k r y last. miss (mark marks.RightBracket) _ _ ts last x.no_square (miss (mark marks.Comma) _ _ ts last x.no_comma
    (and_then _ (y last) (λ end mv. hit (mark marks.Comma) _ _ m m (c ∷ us) end (mark-hit marks.Comma m p) (hit (mark marks.RightBracket) _ _ c c us m.span.end (mark-hit marks.RightBracket c h) (done (ap (λ z. listing (z ∷ []) true) (sym e)) ((mv ⟫ one) ⟫ one)))))))

-- tokens that don't close at once
pub elements-next : (f : Flags) {b : Bool} {m : Filled} {ts us vs : List Filled} {e d : Element} {es : List Element} {a : Argument} → ArgumentClaim f ts (m ∷ us) a → IsMark marks.Comma m → e ≡ Present a → Misses (mark marks.RightBracket) us → ElementsRead f b us (d ∷ es) vs → ElementsRead f b ts (e ∷ d ∷ es) vs
unfolding elements
elements-next f {b = b} {m = m} {ts = ts} {us = us} {d = d} {es = es} x p e n rest = turn (pair (x.reads (ends-comma (with_in f) us m p)) rest) (λ t k r y last. miss (mark marks.RightBracket) _ _ ts last x.no_square (miss (mark marks.Comma) _ _ ts last x.no_comma
    (and_then _ (y.0 last) (λ end mv. hit (mark marks.Comma) _ _ m m us end (mark-hit marks.Comma m p) (miss (mark marks.RightBracket) _ _ us m.span.end n
    (and_then _ (later (mv ⟫ one) (y.1 m.span.end)) (λ end' mv'. done (ap (λ z. listing (z ∷ d ∷ es) b) (sym e)) mv')))))))

-- ## Arguments in parentheses

-- after a comma
pub record MoreClaim (f : Flags) (ts : List Filled) (as_ : List Argument) (us : List Filled) : Type 0 where
  pub no_close : Misses (mark marks.RightParenthesis) ts
  pub reads : Eventually (λ t k r. ReadsExactly (more_arguments (R k r) f t) as_ ts us)

pub more-last : (f : Flags) {c : Filled} {ts us : List Filled} {a : Argument} → ArgumentClaim f ts (c ∷ us) a → IsMark marks.RightParenthesis c → MoreClaim f ts (a ∷ []) us
unfolding more_arguments
more-last f {c = c} {ts = ts} {us = us} x h = record {
  no_close = x.no_close;
  reads = turn (x.reads (ends-close (with_in f) us c h)) (λ t k r y last. and_then _ (y last) (λ end mv. miss (mark marks.Comma) _ _ (c ∷ us) end (mark-no-mark marks.Comma marks.RightParenthesis c h refl)
      (take (mark marks.RightParenthesis) _ c c us end (mark-hit marks.RightParenthesis c h) (done refl (mv ⟫ one)))));
}

pub more-next : (f : Flags) {m : Filled} {ts us vs : List Filled} {a : Argument} {as_ : List Argument} → ArgumentClaim f ts (m ∷ us) a → IsMark marks.Comma m → MoreClaim f us as_ vs → MoreClaim f ts (a ∷ as_) vs
unfolding more_arguments
more-next f {m = m} {ts = ts} {us = us} x p rest = record {
  no_close = x.no_close;
  reads = turn (pair (x.reads (ends-comma (with_in f) us m p)) rest.reads) (λ t k r y last. and_then _ (y.0 last) (λ end mv. hit (mark marks.Comma) _ _ m m us end (mark-hit marks.Comma m p)
      (and_then _ (later (mv ⟫ one) (y.1 m.span.end)) (λ end' mv'. done refl mv'))));
}

abbrev pub ArgumentsRead : Flags → List Filled → List Argument → List Filled → Type 0
ArgumentsRead f ts as_ us = Eventually (λ t k r. ReadsExactly (arguments (R k r) f) as_ ts us)

pub arguments-none : (f : Flags) {c : Filled} {us : List Filled} → IsMark marks.RightParenthesis c → ArgumentsRead f (c ∷ us) [] us
unfolding arguments
arguments-none f {c = c} {us = us} h = always (λ t k r last. hit (mark marks.RightParenthesis) _ _ c c us last (mark-hit marks.RightParenthesis c h) (done refl one))

pub arguments-some : (f : Flags) {ts us : List Filled} {as_ : List Argument} → MoreClaim f ts as_ us → ArgumentsRead f ts as_ us
unfolding arguments
arguments-some f {ts = ts} {us = us} {as_ = as_} x = begin x.reads (λ t k r y last. miss (mark marks.RightParenthesis) _ _ ts last x.no_close (at-fuel (λ n. more_arguments (R k r) f n) as_ ts us k r y last))

-- ## Templates

stretch-hit : (first last : Bool) (cooked raw : List ℕ) (t : Filled) → t.kind ≡ Read (kinds.Template cooked raw first last) → stretch_at first last t ≡ stretch_in first last t.span (Read (kinds.Template cooked raw first last))
stretch-hit first last cooked raw t e = ap (λ k. stretch_in first last t.span k) e

abbrev PartsRead : Flags → List Filled → List TemplatePart → List Filled → Type 0
PartsRead f ts ms us = Eventually (λ t k r. ReadsExactly (template_parts (R k r) f t) ms ts us)

pub template-last : (f : Flags) {t : Filled} {ts us : List Filled} {x : Expression} (cooked raw : List ℕ) {m : TemplatePart} → Claim (with_in f) 0 ts (t ∷ us) x → t.kind ≡ Read (kinds.Template cooked raw false true) → m ≡ roll-TemplatePart (record { value = x; after = record { span = t.span; cooked = cooked; raw = raw } }) → PartsRead f ts (m ∷ []) us
unfolding template_parts
template-last f {t = t} {ts = ts} {us = us} cooked raw c h e = turn (open-sequence c (closes-stretch (with_in f) cooked raw true us t h) (ends-yield 0 t us (stretch-ends-yield cooked raw true t h))) (λ n k r y last.
    and_then _ (y last) (λ end mv. hit (stretch_at false true) _ _ t _ us end (stretch-hit false true cooked raw t h) (done (ap (λ z. z ∷ []) (sym e)) (mv ⟫ one))))

pub template-next : (f : Flags) {t : Filled} {ts us vs : List Filled} {x : Expression} (cooked raw : List ℕ) {m : TemplatePart} {ms : List TemplatePart} → Claim (with_in f) 0 ts (t ∷ us) x → t.kind ≡ Read (kinds.Template cooked raw false false) → m ≡ roll-TemplatePart (record { value = x; after = record { span = t.span; cooked = cooked; raw = raw } }) → PartsRead f us ms vs → PartsRead f ts (m ∷ ms) vs
unfolding template_parts
template-next f {t = t} {ts = ts} {us = us} cooked raw {ms = ms} c h e rest = turn (pair (open-sequence c (closes-stretch (with_in f) cooked raw false us t h) (ends-yield 0 t us (stretch-ends-yield cooked raw false t h))) rest) (λ n k r y last.
    and_then _ (y.0 last) (λ end mv. miss (stretch_at false true) _ _ (t ∷ us) end (stretch-hit' t h) (take (stretch_at false false) _ t _ us end (stretch-hit false false cooked raw t h)
    (and_then _ (later (mv ⟫ one) (y.1 t.span.end)) (λ end' mv'. done (ap (λ z. z ∷ ms) (sym e)) mv')))))
  where
    stretch-hit' : (t : Filled) → t.kind ≡ Read (kinds.Template cooked raw false false) → stretch_at false true t ≡ None
    stretch-hit' t h = ap (λ k. stretch_in false true t.span k) h

-- a template: one stretch, or the first of more
pub data TemplateClaim (f : Flags) : List Filled → Template → List Filled → Type 0 where
  whole_claim : {t : Filled} {ts : List Filled} {m : Template} (cooked raw : List ℕ) → t.kind ≡ Read (kinds.Template cooked raw true true) → m ≡ roll-Template (record { span = t.span; first = record { span = t.span; cooked = cooked; raw = raw }; rest = [] }) → TemplateClaim f (t ∷ ts) m ts
  parted_claim : {t : Filled} {ts us : List Filled} {m : Template} {ms : List TemplatePart} (cooked raw : List ℕ) → t.kind ≡ Read (kinds.Template cooked raw true false) → m ≡ roll-Template (record { span = across (t ∷ ts) us; first = record { span = t.span; cooked = cooked; raw = raw }; rest = ms }) → Eventually (λ n k r. ReadsExactly (template_parts (R k r) f n) ms ts us) → TemplateClaim f (t ∷ ts) m us

as-value : {A B : Type 0} {x : B} {s c : Input} {us : List Filled} {y z : A} (p : A → Parser B) → y ≡ z → Exactly x s us (p z c) → Exactly x s us (p y c)
as-value {x = x} {s = s} {c = c} {us = us} p e h = subst (λ w. Exactly x s us (p w c)) (sym e) h

-- what reads a template, goes on by it, and gives this
abbrev pub TemplateThen : {A : Type 0} → Flags → Template → A → List Filled → List Filled → List Filled → ℕ → ℕ → ℕ → Type 0
TemplateThen {A = A} f m x ts us vs t k r = (p : Template → Parser A) (q : Parser A) (last : ℕ) → ((end : ℕ) → Moves (record { tokens = ts; last = last }) (record { tokens = us; last = end }) → Exactly x (record { tokens = ts; last = last }) vs (p m (record { tokens = us; last = end })))
    → Exactly x (record { tokens = ts; last = last }) vs (on_template (R k r) f (begin_of ts) p q (record { tokens = ts; last = last }))

pub template-reads : {A : Type 0} {f : Flags} {ts us vs : List Filled} {m : Template} (x : A) → TemplateClaim f ts m us → Eventually (TemplateThen f m x ts us vs)
unfolding parted_template
template-reads x (whole_claim {t = t} {ts = ts} cooked raw h e) = always (λ n k r p q last go. hit (stretch_at true true) _ _ t _ ts last (stretch-hit true true cooked raw t h) (as-value p (sym e) (go t.span.end one)))
template-reads {f = f} x (parted_claim {t = t} {ts = ts} {us = us} {ms = ms} cooked raw h e rest) = both opened (begin rest (λ n k r y. at-fuel (λ j. template_parts (R k r) f j) ms ts us k r y)) (λ n k r o y p q last go.
    miss (stretch_at true true) _ _ (t ∷ ts) last (ap (λ j. stretch_in true true t.span j) h) (if-yes (λ u. is_some (stretch_at true false u)) _ _ (t ∷ ts) last (ap (λ j. is_some (stretch_in true false t.span j)) h)
    (chosen (R k r).may_open _ _ _ o (hit (stretch_at true false) _ _ t _ ts last (stretch-hit true false cooked raw t h) (and_then _ (and_then _ (later one (y t.span.end)) (λ end mv. done (ap (λ z. roll-Template (record { span = z; first = record { span = t.span; cooked = cooked; raw = raw }; rest = ms })) (span-across mv) ∙ sym e) mv)) go)))))
