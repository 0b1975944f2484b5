-- Names of properties where they stand (ECMA-262, 6th edition, 12.2.6).
use Rattle.std.proofs.Common.{◌≡◌, ℕ, false, List, [], ◌∷◌, Option, Some, None, refl, sym, ap, ◌∙◌}
use Rattle.es_text.specs.declared.Span.{Span}
use Rattle.es6_lexer.specs.declared.token.TokenKind.TheVariants as kinds
use Rattle.es6_lexer.specs.declared.token.NumberToken.TheVariants.{Whole}
use Rattle.es6_lexer.specs.declared.token.Punctuator.TheVariants as marks
use Rattle.es6_ast.specs.declared.tree.Key.{Key}
use Rattle.es6_ast.specs.declared.settings.Flags.{Flags}
use Rattle.es6_ast.specs.declared.settings.Stop.{Stop}
use Rattle.es6_ast.specs.Tokens.{Filling, Read, Filled, begin_of}
use Rattle.es6_reading.specs.Parser.{Input, Inner, Took, Fault, Parser, no_number, number_stop_in, stop_at, on, on_taken, on_group, made, returns}
use Rattle.es6_reading.specs.Words.{KeyToken, key_in, key_at}
use Rattle.es6_reading.specs.Parts.{key, key_of, computed_key}
use Rattle.es6_cursor.specs.Keys.{placed_key_in, placed_key_at}
use Rattle.es6_cursor.specs.Takes.{TakesAs, next_of, known_as}
use Rattle.es6_cursor.specs.Reads.{Halts}
use Rattle.es6_cursor.specs.declared.halt.Halt.{Halt}
use Rattle.es6_cursor.specs.declared.halt.Halt.TheVariants.{Stopped, OutOfMemory}
use Rattle.es6_cursor.specs.Groups.{Enters}
use Rattle.es6_cursor.proofs.Groups.{off_open, shut_open}

placed_of : Span → Option KeyToken → Option Key
placed_of span (Some k) = Some (key_of span k)
placed_of span None = None

placed : (span : Span) (k : Filling) → placed_key_in span k ≡ placed_of span (key_in k)
unfolding placed_of
placed span (Read (kinds.Word name)) = refl
placed span (Read (kinds.Text units)) = refl
placed span (Read (kinds.Number (Whole value))) = refl
placed span _ = refl

module _ (q : Parser Key) where
  taken : (t : Filled) (ts : List Filled) (last : ℕ) (k : Key) (o : Option KeyToken) → Some k ≡ placed_of t.span o → on_taken o t ts (λ k. made t.span.begin (λ span. key_of span k)) q (record { tokens = t ∷ ts; last = last }) ≡ Took k (record { tokens = ts; last = t.span.end })
  unfolding placed_of
  taken t ts last k (Some x) e =
      let g : k ≡ key_of t.span x = cc in
      ap (λ y. Took y (record { tokens = ts; last = t.span.end })) (sym g)
  taken t ts last k None e = absurd (cc)

  missed : (t : Filled) (ts : List Filled) (last : ℕ) (o : Option KeyToken) → None ≡ placed_of t.span o → on_taken o t ts (λ k. made t.span.begin (λ span. key_of span k)) q (record { tokens = t ∷ ts; last = last }) ≡ q (record { tokens = t ∷ ts; last = last })
  unfolding placed_of
  missed t ts last (Some x) e = absurd (cc)
  missed t ts last None e = refl

  placed_on : (c d : Input) (k : Key) → TakesAs placed_key_at c (Some k) d → on key_at (λ k. made (begin_of c.tokens) (λ span. key_of span k)) q c ≡ Took k d
  placed_on c d k h = at c.tokens c.last h.known ∙ ap (Took k) (sym h.input)
    where
      at : (ts : List Filled) (last : ℕ) → Some k ≡ known_as placed_key_at ts → on key_at (λ k. made (begin_of ts) (λ span. key_of span k)) q (record { tokens = ts; last = last }) ≡ Took k (next_of ts (record { tokens = ts; last = last }))
      at [] last e = absurd (cc)
      at (t ∷ ts) last e = taken t ts last k (key_in t.kind) (e ∙ placed t.span t.kind)

  placed_off : (c d : Input) → TakesAs placed_key_at c None d → on key_at (λ k. made (begin_of c.tokens) (λ span. key_of span k)) q c ≡ q d
  placed_off c d h = at c.tokens c.last h.known ∙ ap q (sym h.input)
    where
      at : (ts : List Filled) (last : ℕ) → None ≡ known_as placed_key_at ts → on key_at (λ k. made (begin_of ts) (λ span. key_of span k)) q (record { tokens = ts; last = last }) ≡ q (record { tokens = ts; last = last })
      at [] last e = refl
      at (t ∷ ts) last e = missed t ts last (key_in t.kind) (e ∙ placed t.span t.kind)

pub on_key : (i : Inner) (f : Flags) (c d : Input) (k : Key) → TakesAs placed_key_at c (Some k) d → key i f c ≡ Took k d
unfolding key
on_key i f c d k h = placed_on _ c d k h

pub off_key : (i : Inner) (f : Flags) (c d : Input) → TakesAs placed_key_at c None d → key i f c ≡ on_group i marks.LeftBracket (computed_key i f (begin_of c.tokens)) no_number d
unfolding key
off_key i f c d h = placed_off _ c d h

-- where no construct may open at the bracket
pub shut_key : (i : Inner) (f : Flags) (c d : Input) (halt : Halt) (ts : List Filled) → TakesAs placed_key_at c None d → Halts (on_group i marks.LeftBracket (returns (tt {0})) (returns (tt {0})) d) halt ts → Halts (key i f c) halt ts
shut_key i f c d (Stopped stop) ts h shut = off_key i f c d h ∙ shut_open i marks.LeftBracket _ _ d stop ts shut
shut_key i f c d OutOfMemory ts h shut = tt

-- where nothing is a name of a property
pub no_key : (i : Inner) (f : Flags) (c d g : Input) (stop : Stop) → TakesAs placed_key_at c None d → Enters i marks.LeftBracket d false g → stop ≡ stop_at number_stop_in g.tokens → key i f c ≡ Fault stop g.tokens
unfolding no_number
no_key i f c d g stop h shut e = off_key i f c d h ∙ off_open i marks.LeftBracket (computed_key i f (begin_of c.tokens)) no_number d g shut ∙ ap (λ s. Fault s g.tokens) (sym e)
