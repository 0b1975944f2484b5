-- What no reader makes of a token at a break: where something may go on, it doesn't go on with that.
use Rattle.std.proofs.Common.{◌≡◌, ℕ, Bool, true, false, ◌||◌, not, List, [], ◌∷◌, Option, Some, None, refl, sym, ap, subst}
use Rattle.std.specs.Prelude.{is_some}
use Rattle.es_text.specs.declared.Span.{Span}
use Rattle.es6_lexer.specs.declared.token.Token.{Token}
use Rattle.es6_lexer.specs.declared.token.TokenKind.{TokenKind}
use Rattle.es6_lexer.specs.declared.token.TokenKind.TheVariants as kinds
use Rattle.es6_lexer.specs.declared.token.Punctuator.{Punctuator as Mark}
use Rattle.es6_lexer.specs.declared.token.Punctuator.TheVariants as marks
use Rattle.es6_ast.specs.declared.settings.Flags.{Flags}
use Rattle.es6_ast.specs.Tokens.{Filling, Read, Filled, is_word, read}
use Rattle.es6_ast.specs.Grammar.{ends}
use Rattle.es6_reading.specs.Parser.{is_mark, kept_if, mark, next_mark, word, next_word, ends_block, ending}
use Rattle.es6_reading.specs.Words.{after_at, assign_at, binary_at, is_arrow, stretch_at}
use Rattle.es6_reading.specs.Expressions.{star_at, ends_yield}
use Rattle.es6_reading.specs.Statements.{label_at, goes_on}
use Rattle.es6_reading.proofs.CompleteTokens.{mark-miss, word-miss}
use Rattle.es6_reading.proofs.Follows.{not-before-arrow}
use Rattle.es6_reading.proofs.Meanings.{mark-is, word-is, assign-means, binary-means, stretch-means}
use Rattle.es6_reading_laws.specs.Breaks.{GoesOn, operator, assignment, tagged, semicolon, IsBreak}

pub record Quiet (t : Filled) : Type 0 where
  pub line : (t.newline || ends_block t.kind) ≡ true
  pub plain : (k : TokenKind) → GoesOn k → t.kind ≡ Read k → ⊥
  pub ends_none : (d : Bool) → ends d t.kind ≡ false

none-if : {A : Type 0} (o : Option A) → ((x : A) → o ≡ Some x → ⊥) → o ≡ None
none-if None f = refl
none-if (Some x) f = absurd (f x refl)

false-if : (b : Bool) → (b ≡ true → ⊥) → b ≡ false
false-if false f = refl
false-if true f = absurd (f refl)

module _ (t : Filled) (q : Quiet t) where
  pub no-mark : (p : Mark) → GoesOn (kinds.Punctuator p) → next_mark p t ≡ false
  no-mark p g = false-if (is_mark p t.kind) (λ e. q.plain _ g (mark-is p t.kind e))

  pub no-word : (w : List ℕ) → GoesOn (kinds.Word w) → next_word w t ≡ false
  no-word w g = false-if (is_word w t.kind) (λ e. q.plain _ g (word-is w t.kind e))

  pub mark-misses : (p : Mark) → GoesOn (kinds.Punctuator p) → mark p t ≡ None
  mark-misses p g = mark-miss p t (no-mark p g)

  pub word-misses : (w : List ℕ) → GoesOn (kinds.Word w) → word w t ≡ None
  word-misses w g = word-miss w t (no-word w g)

  pub binary-misses : (f : Flags) (level : ℕ) → binary_at f level t ≡ None
  binary-misses f level = none-if (binary_at f level t) (λ op e. q.plain _ (operator op) (binary-means f level op t e).0)

  pub assign-misses : assign_at t ≡ None
  assign-misses = none-if (assign_at t) (λ op e. q.plain _ (assignment op) (assign-means op t e))

  pub stretch-misses : (last : Bool) → stretch_at true last t ≡ None
  stretch-misses last = none-if (stretch_at true last t) (λ s e. q.plain _ (tagged s.cooked s.raw last) (stretch-means true last s t e).0)

  pub no-stretch : (last : Bool) → is_some (stretch_at true last t) ≡ false
  no-stretch last = ap (λ o. is_some o) (stretch-misses last)

  pub ending-misses : (d : Bool) → ending d t ≡ None
  ending-misses d = ap (λ b. kept_if b t) (q.ends_none d)

  pub arrow-misses : is_arrow t ≡ false
  arrow-misses = not-before-arrow (t ∷ []) q.line

-- what holds of each token that begins a line, and of `}` and the end
on-line : (P : Filled → Type 0) → ((k : Filling) (span : Span) → P (record { kind = k; span = span; newline = true })) → ((span : Span) → P (record { kind = Read (kinds.Punctuator marks.RightBrace); span = span; newline = false }))
    → ((span : Span) → P (record { kind = Read kinds.End; span = span; newline = false })) → (t : Filled) → (t.newline || ends_block t.kind) ≡ true → P t
on-line P first brace last t h = by t.newline t.kind t.span h
  where
    by : (newline : Bool) (k : Filling) (span : Span) → (newline || ends_block k) ≡ true → P (record { kind = k; span = span; newline = newline })
    by true k span h = first k span
    by false (Read (kinds.Punctuator marks.RightBrace)) span h = brace span
    by false (Read kinds.End) span h = last span
    by false k span h = absurd (cc)

pub after-misses : (t : Filled) → Quiet t → after_at t ≡ None
after-misses t q = on-line (λ u. after_at u ≡ None) (λ k span. refl) (λ span. refl) (λ span. refl) t q.line

pub label-misses : (t : Filled) → Quiet t → label_at t ≡ None
label-misses t q = on-line (λ u. label_at u ≡ None) (λ k span. refl) (λ span. refl) (λ span. refl) t q.line

pub star-misses : (t : Filled) → Quiet t → star_at t ≡ None
star-misses t q = on-line (λ u. star_at u ≡ None) (λ k span. refl) (λ span. refl) (λ span. refl) t q.line

pub value-misses : (t : Filled) → Quiet t → goes_on t ≡ false
value-misses t q = on-line (λ u. goes_on u ≡ false) (λ k span. refl) (λ span. refl) (λ span. refl) t q.line

pub yield-misses : (t : Filled) → Quiet t → not (ends_yield t) ≡ false
unfolding ends_yield
yield-misses t q = on-line (λ u. not (ends_yield u) ≡ false) (λ k span. refl) (λ span. refl) (λ span. refl) t q.line

-- a token of the text at a break
semicolon-alone : (d : Bool) (k : TokenKind) → (k ≡ kinds.Punctuator marks.Semicolon → ⊥) → ends d (Read k) ≡ false
semicolon-alone d (kinds.Punctuator marks.Semicolon) n = absurd (n refl)
semicolon-alone d k n = refl

of-read : {a b : TokenKind} → Read a ≡ Read b → a ≡ b
of-read e = cc

pub quiet : (t : Token) → IsBreak t → Quiet (read t)
quiet t b = record {
  line = b.ends;
  plain = λ k g e. b.plain (subst (λ l. GoesOn l) (sym (of-read e)) g);
  ends_none = λ d. semicolon-alone d t.kind (λ e. b.plain (subst (λ l. GoesOn l) (sym e) semicolon));
}
