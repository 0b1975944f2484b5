-- What the model does at the next token, by what the cursor answers.
use Rattle.std.proofs.Common.{◌≡◌, ℕ, Bool, true, false, ◌&&◌, not, List, [], ◌∷◌, Option, Some, None, refl, sym, ◌∙◌, ap, cond}
use Rattle.es_text.specs.declared.Span.{Span}
use Rattle.es6_lexer.specs.declared.token.Punctuator.{Punctuator as Mark}
use Rattle.es6_lexer.specs.declared.token.Punctuator.TheVariants as marks
use Rattle.es6_ast.specs.declared.tree.Key.{Key}
use Rattle.es6_ast.specs.declared.settings.Stop.{Stop}
use Rattle.es6_ast.specs.Tokens.{Filling, Filled, begin_of}
use Rattle.es6_ast.specs.Grammar.{ends}
use Rattle.es6_reading.specs.Parser.{Input, Outcome, Took, Fault, Parser, stop_at, stop_in, refused, next_is, returns, on, on_taken, take_as, is_mark, mark, word, ending, kept_if, next_mark, next_word, after, choose, made}
use Rattle.es6_reading.specs.Words.{key_at, is_arrow, arrow_at}
use Rattle.es6_reading.specs.Parts.{key_of}
use Rattle.es6_reading.specs.Expressions.{star_at}
use Rattle.es6_reading.specs.Modules.{is_end, end_at}
use Rattle.es6_cursor.specs.Keys.{placed_key_at}
use Rattle.es6_cursor.specs.Takes.{next_of, Takes, TakesAs, known_as, place_of, span_if}

-- ## Tokens that a test knows

module _ {A : Type 0} (test : Filled → Bool) (r q : Parser A) where
  kept_on : (c d : Input) → Takes test c true d → on (λ t. kept_if (test t) t) (λ _. r) q c ≡ r d
  kept_on c d h = at c.tokens c.last h.known ∙ ap r (sym h.input)
    where
      at : (ts : List Filled) (last : ℕ) → true ≡ next_is test ts → on (λ t. kept_if (test t) t) (λ _. r) q (record { tokens = ts; last = last }) ≡ r (next_of ts (record { tokens = ts; last = last }))
      at [] last e = absurd (cc)
      at (t ∷ ts) last e = ap (λ b. on_taken (kept_if b t) t ts (λ _. r) q (record { tokens = t ∷ ts; last = last })) (sym e)

  kept_off : (c d : Input) → Takes test c false d → on (λ t. kept_if (test t) t) (λ _. r) q c ≡ q d
  kept_off c d h = at c.tokens c.last h.known ∙ ap q (sym h.input)
    where
      at : (ts : List Filled) (last : ℕ) → false ≡ next_is test ts → on (λ t. kept_if (test t) t) (λ _. r) q (record { tokens = ts; last = last }) ≡ q (record { tokens = ts; last = last })
      at [] last e = refl
      at (t ∷ ts) last e = ap (λ b. on_taken (kept_if b t) t ts (λ _. r) q (record { tokens = t ∷ ts; last = last })) (sym e)

module _ (test : Filled → Bool) where
  kept_took : (c d : Input) → Takes test c true d → (t : Filled) × (take_as (λ t. kept_if (test t) t) c ≡ Took t d)
  kept_took c d h = at c.tokens c.last d h.known h.input
    where
      at : (ts : List Filled) (last : ℕ) (d : Input) → true ≡ next_is test ts → d ≡ next_of ts (record { tokens = ts; last = last }) → (t : Filled) × (take_as (λ t. kept_if (test t) t) (record { tokens = ts; last = last }) ≡ Took t d)
      at [] last d e f = absurd (cc)
      at (t ∷ ts) last d e f = (t, ap (λ b. on_taken (kept_if b t) t ts (λ x. returns x) refused (record { tokens = t ∷ ts; last = last })) (sym e) ∙ ap (λ i. Took t i) (sym f))

  kept_missed : (c d : Input) → Takes test c false d → take_as (λ t. kept_if (test t) t) c ≡ refused d
  kept_missed c d h = at c.tokens c.last h.known ∙ ap refused (sym h.input)
    where
      at : (ts : List Filled) (last : ℕ) → false ≡ next_is test ts → take_as (λ t. kept_if (test t) t) (record { tokens = ts; last = last }) ≡ refused (record { tokens = ts; last = last })
      at [] last e = refl
      at (t ∷ ts) last e = ap (λ b. on_taken (kept_if b t) t ts (λ x. returns x) refused (record { tokens = t ∷ ts; last = last })) (sym e)

pub on_mark : {A : Type 0} (p : Mark) (r q : Parser A) (c d : Input) → Takes (next_mark p) c true d → on (mark p) (λ _. r) q c ≡ r d
on_mark p r q c d h = kept_on (next_mark p) r q c d h

pub off_mark : {A : Type 0} (p : Mark) (r q : Parser A) (c d : Input) → Takes (next_mark p) c false d → on (mark p) (λ _. r) q c ≡ q d
off_mark p r q c d h = kept_off (next_mark p) r q c d h

pub on_word : {A : Type 0} (w : List ℕ) (r q : Parser A) (c d : Input) → Takes (next_word w) c true d → on (word w) (λ _. r) q c ≡ r d
on_word w r q c d h = kept_on (next_word w) r q c d h

pub off_word : {A : Type 0} (w : List ℕ) (r q : Parser A) (c d : Input) → Takes (next_word w) c false d → on (word w) (λ _. r) q c ≡ q d
off_word w r q c d h = kept_off (next_word w) r q c d h

pub on_end : {A : Type 0} (do_while : Bool) (r q : Parser A) (c d : Input) → Takes (λ t. ends do_while t.kind) c true d → on (ending do_while) (λ _. r) q c ≡ r d
on_end do_while r q c d h = kept_on (λ t. ends do_while t.kind) r q c d h

pub off_end : {A : Type 0} (do_while : Bool) (r q : Parser A) (c d : Input) → Takes (λ t. ends do_while t.kind) c false d → on (ending do_while) (λ _. r) q c ≡ q d
off_end do_while r q c d h = kept_off (λ t. ends do_while t.kind) r q c d h

pub took_mark : (p : Mark) (c d : Input) → Takes (next_mark p) c true d → (t : Filled) × (take_as (mark p) c ≡ Took t d)
took_mark p c d h = kept_took (next_mark p) c d h

pub missed_mark : (p : Mark) (c d : Input) → Takes (next_mark p) c false d → take_as (mark p) c ≡ refused d
missed_mark p c d h = kept_missed (next_mark p) c d h

pub took_word : (w : List ℕ) (c d : Input) → Takes (next_word w) c true d → (t : Filled) × (take_as (word w) c ≡ Took t d)
took_word w c d h = kept_took (next_word w) c d h

pub missed_word : (w : List ℕ) (c d : Input) → Takes (next_word w) c false d → take_as (word w) c ≡ refused d
missed_word w c d h = kept_missed (next_word w) c d h

pub refused_stops : {A : Type 0} (c : Input) (s : Stop) → s ≡ stop_at stop_in c.tokens → refused {A = A} c ≡ Fault s c.tokens
unfolding refused
refused_stops c s h = ap (λ x. Fault x c.tokens) (sym h)

-- ## Other ways to write such a test

module _ {A : Type 0} (test : Filled → Bool) (taken : Filled → Option Filled) (same : (t : Filled) → taken t ≡ kept_if (test t) t) (r q : Parser A) where
  as_kept : (c : Input) → on taken (λ _. r) q c ≡ on (λ t. kept_if (test t) t) (λ _. r) q c
  as_kept c = at c.tokens c.last
    where
      at : (ts : List Filled) (last : ℕ) → on taken (λ _. r) q (record { tokens = ts; last = last }) ≡ on (λ t. kept_if (test t) t) (λ _. r) q (record { tokens = ts; last = last })
      at [] last = refl
      at (t ∷ ts) last = ap (λ o. on_taken o t ts (λ _. r) q (record { tokens = t ∷ ts; last = last })) (same t)

arrow_kept : (t : Filled) → arrow_at t ≡ kept_if (is_arrow t) t
arrow_kept t = at (is_mark marks.Arrow t.kind) t.newline refl refl
  where
    at : (a n : Bool) → is_mark marks.Arrow t.kind ≡ a → t.newline ≡ n → arrow_at t ≡ kept_if (is_arrow t) t
    at true true e f = rw (e, f) refl
    at true false e f = rw (e, f) refl
    at false true e f = rw (e, f) refl
    at false false e f = rw (e, f) refl

pub on_arrow : {A : Type 0} (r q : Parser A) (c d : Input) → Takes is_arrow c true d → on arrow_at (λ _. r) q c ≡ r d
on_arrow r q c d h = as_kept is_arrow arrow_at arrow_kept r q c ∙ kept_on is_arrow r q c d h

pub off_arrow : {A : Type 0} (r q : Parser A) (c d : Input) → Takes is_arrow c false d → on arrow_at (λ _. r) q c ≡ q d
off_arrow r q c d h = as_kept is_arrow arrow_at arrow_kept r q c ∙ kept_off is_arrow r q c d h

star_kept : (t : Filled) → star_at t ≡ kept_if (is_mark marks.Star t.kind && not t.newline) t
star_kept t = at (is_mark marks.Star t.kind) t.newline refl refl
  where
    at : (a n : Bool) → is_mark marks.Star t.kind ≡ a → t.newline ≡ n → star_at t ≡ kept_if (is_mark marks.Star t.kind && not t.newline) t
    at true true e f = rw (e, f) refl
    at true false e f = rw (e, f) refl
    at false true e f = rw (e, f) refl
    at false false e f = rw (e, f) refl

pub on_star : {A : Type 0} (r q : Parser A) (c d : Input) → Takes (λ t. is_mark marks.Star t.kind && not t.newline) c true d → on star_at (λ _. r) q c ≡ r d
on_star r q c d h = as_kept (λ t. is_mark marks.Star t.kind && not t.newline) star_at star_kept r q c ∙ kept_on (λ t. is_mark marks.Star t.kind && not t.newline) r q c d h

pub off_star : {A : Type 0} (r q : Parser A) (c d : Input) → Takes (λ t. is_mark marks.Star t.kind && not t.newline) c false d → on star_at (λ _. r) q c ≡ q d
off_star r q c d h = as_kept (λ t. is_mark marks.Star t.kind && not t.newline) star_at star_kept r q c ∙ kept_off (λ t. is_mark marks.Star t.kind && not t.newline) r q c d h

-- ## Tokens whose place is kept

module _ {A : Type 0} (test : Filled → Bool) (f : Span → Parser A) (q : Parser A) where
  placed_on : (c d : Input) (span : Span) → TakesAs (place_of test) c (Some span) d → on (λ t. kept_if (test t) t) (λ t. f t.span) q c ≡ f span d
  placed_on c d span h = at c.tokens c.last h.known ∙ ap (f span) (sym h.input)
    where
      found : (t : Filled) (ts : List Filled) (last : ℕ) (b : Bool) → Some span ≡ span_if b t.span → on_taken (kept_if b t) t ts (λ t. f t.span) q (record { tokens = t ∷ ts; last = last }) ≡ f span (record { tokens = ts; last = t.span.end })
      found t ts last true e =
          let g : span ≡ t.span = cc in
          ap (λ s. f s (record { tokens = ts; last = t.span.end })) (sym g)
      found t ts last false e = absurd (cc)

      at : (ts : List Filled) (last : ℕ) → Some span ≡ known_as (place_of test) ts → on (λ t. kept_if (test t) t) (λ t. f t.span) q (record { tokens = ts; last = last }) ≡ f span (next_of ts (record { tokens = ts; last = last }))
      at [] last e = absurd (cc)
      at (t ∷ ts) last e = found t ts last (test t) e

  placed_off : (c d : Input) → TakesAs (place_of test) c None d → on (λ t. kept_if (test t) t) (λ t. f t.span) q c ≡ q d
  placed_off c d h = at c.tokens c.last h.known ∙ ap q (sym h.input)
    where
      missed : (t : Filled) (ts : List Filled) (last : ℕ) (b : Bool) → None ≡ span_if b t.span → on_taken (kept_if b t) t ts (λ t. f t.span) q (record { tokens = t ∷ ts; last = last }) ≡ q (record { tokens = t ∷ ts; last = last })
      missed t ts last true e = absurd (cc)
      missed t ts last false e = refl

      at : (ts : List Filled) (last : ℕ) → None ≡ known_as (place_of test) ts → on (λ t. kept_if (test t) t) (λ t. f t.span) q (record { tokens = ts; last = last }) ≡ q (record { tokens = ts; last = last })
      at [] last e = refl
      at (t ∷ ts) last e = missed t ts last (test t) e

pub on_mark_at : {A : Type 0} (p : Mark) (f : Span → Parser A) (q : Parser A) (c d : Input) (span : Span) → TakesAs (place_of (next_mark p)) c (Some span) d → on (mark p) (λ t. f t.span) q c ≡ f span d
on_mark_at p f q c d span h = placed_on (next_mark p) f q c d span h

pub off_mark_at : {A : Type 0} (p : Mark) (f : Span → Parser A) (q : Parser A) (c d : Input) → TakesAs (place_of (next_mark p)) c None d → on (mark p) (λ t. f t.span) q c ≡ q d
off_mark_at p f q c d h = placed_off (next_mark p) f q c d h

pub on_word_at : {A : Type 0} (w : List ℕ) (f : Span → Parser A) (q : Parser A) (c d : Input) (span : Span) → TakesAs (place_of (next_word w)) c (Some span) d → on (word w) (λ t. f t.span) q c ≡ f span d
on_word_at w f q c d span h = placed_on (next_word w) f q c d span h

pub off_word_at : {A : Type 0} (w : List ℕ) (f : Span → Parser A) (q : Parser A) (c d : Input) → TakesAs (place_of (next_word w)) c None d → on (word w) (λ t. f t.span) q c ≡ q d
off_word_at w f q c d h = placed_off (next_word w) f q c d h

-- ## Tokens that stand for something

pub on_as : {A B : Type 0} (test : Filled → Option B) (f : B → Parser A) (q : Parser A) (c d : Input) (x : B) → TakesAs test c (Some x) d → on test f q c ≡ f x d
on_as {A = A} {B = B} test f q c d x h = at c.tokens c.last h.known ∙ ap (f x) (sym h.input)
  where
    at : (ts : List Filled) (last : ℕ) → Some x ≡ known_as test ts → on test f q (record { tokens = ts; last = last }) ≡ f x (next_of ts (record { tokens = ts; last = last }))
    at [] last e = absurd (cc)
    at (t ∷ ts) last e = ap (λ o. on_taken o t ts f q (record { tokens = t ∷ ts; last = last })) (sym e)

pub off_as : {A B : Type 0} (test : Filled → Option B) (f : B → Parser A) (q : Parser A) (c d : Input) → TakesAs test c None d → on test f q c ≡ q d
off_as {A = A} {B = B} test f q c d h = at c.tokens c.last h.known ∙ ap q (sym h.input)
  where
    at : (ts : List Filled) (last : ℕ) → None ≡ known_as test ts → on test f q (record { tokens = ts; last = last }) ≡ q (record { tokens = ts; last = last })
    at [] last e = refl
    at (t ∷ ts) last e = ap (λ o. on_taken o t ts f q (record { tokens = t ∷ ts; last = last })) (sym e)

-- ## Tests without a token taken

pub chose : {A : Type 0} (b : Bool) (p q : Parser A) (c : Input) → b ≡ true → choose b p q c ≡ p c
chose true p q c h = refl
chose false p q c h = absurd (cc)

pub passed_by : {A : Type 0} (b : Bool) (p q : Parser A) (c : Input) → b ≡ false → choose b p q c ≡ q c
passed_by true p q c h = absurd (cc)
passed_by false p q c h = refl

pub ruleset choices = (on_mark, off_mark, on_word, off_word, on_as, off_as, chose, passed_by)
