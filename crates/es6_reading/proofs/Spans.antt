-- Which tokens a reader took, and the span that they have.
use Rattle.std.proofs.Common.{◌≡◌, ℕ, ◌+◌, ◌-◌, List, [], ◌∷◌, ◌++◌, Option, length, take, refl, sym, ap, ◌∙◌, append_assoc, arith}
use Rattle.std.proofs.lemmas.List.{length-append}
use Rattle.std.proofs.Math.Seq.{take-append_seam}
use Rattle.es_text.specs.declared.Span.{Span}
use Rattle.es6_ast.specs.Tokens.{Filled, begin_of, end_of, across}
use Rattle.es6_reading.specs.Parser.{Input}
use Rattle.es6_reading.proofs.Posts.{Taken, taken}

-- the reader took these tokens, of which there may be none
pub record Goes (s c : Input) : Type 0 where
  pub tokens : List Filled
  pub all : s.tokens ≡ tokens ++ c.tokens
  pub end : c.last ≡ end_of s.last tokens

-- the reader took at least one token
pub record Moves (s c : Input) : Type 0 where
  pub first : Filled
  pub tokens : List Filled
  pub all : s.tokens ≡ first ∷ tokens ++ c.tokens
  pub end : c.last ≡ end_of first.span.end tokens

pub end-append : (at : ℕ) (ts us : List Filled) → end_of at (ts ++ us) ≡ end_of (end_of at ts) us
end-append at [] us = refl
end-append at (t ∷ ts) us = end-append t.span.end ts us

pub stays : (s : Input) → Goes s s
stays s = record { tokens = []; all = refl; end = refl }

pub goes : {s c : Input} → Moves s c → Goes s c
goes m = record { tokens = m.first ∷ m.tokens; all = m.all; end = m.end }

pub moved : {B : Type 0} {test : Filled → Option B} {s c : Input} {x : B} → Taken test s x c → Moves s c
moved (taken {t = t} e) = record { first = t; tokens = []; all = refl; end = refl }

pub goes-on : {s c d : Input} → Goes s c → Goes c d → Goes s d
goes-on {s = s} {c = c} {d = d} a b = record {
  tokens = a.tokens ++ b.tokens;
  all = a.all ∙ ap (λ ts. a.tokens ++ ts) b.all ∙ sym (append_assoc a.tokens b.tokens d.tokens);
  end = b.end ∙ ap (λ n. end_of n b.tokens) a.end ∙ sym (end-append s.last a.tokens b.tokens);
}

pub then-goes : {s c d : Input} → Moves s c → Goes c d → Moves s d
then-goes {s = s} {c = c} {d = d} a b = record {
  first = a.first;
  tokens = a.tokens ++ b.tokens;
  all = a.all ∙ ap (λ ts. a.first ∷ a.tokens ++ ts) b.all ∙ ap (λ ts. a.first ∷ ts) (sym (append_assoc a.tokens b.tokens d.tokens));
  end = b.end ∙ ap (λ n. end_of n b.tokens) a.end ∙ sym (end-append a.first.span.end a.tokens b.tokens);
}

infixl 60 ◌⟫◌
pub ◌⟫◌ : {s c d : Input} → Moves s c → Moves c d → Moves s d
a ⟫ b = then-goes a (goes b)

taken-front : (t : Filled) (ts us all : List Filled) → all ≡ t ∷ ts ++ us → take (length all - length us) all ≡ t ∷ ts
taken-front t ts us all e = rw e
    (ap (λ n. take n ((t ∷ ts) ++ us)) (ap (λ m. m - length us) (length-append (t ∷ ts) us) ∙ difference (length (t ∷ ts)) (length us)) ∙ take-append_seam (t ∷ ts) us)
  where
    difference : (a b : ℕ) → (a + b) - b ≡ a
    difference a b = omega arith

-- the span from the first token that was taken to the end of the last one
pub span-across : {s c : Input} → Moves s c → ◌≡◌ {A = Span} (record { begin = begin_of s.tokens; end = c.last }) (across s.tokens c.tokens)
span-across {s = s} {c = c} m = ap (λ n. record { begin = begin_of s.tokens; end = n }) (m.end ∙ ap (λ ts. end_of 0 ts) (sym (taken-front m.first m.tokens c.tokens s.tokens m.all)))
