-- What the model does at the next token, by what the cursor answers.
use Rattle.std.proofs.Common.{◌≡◌, ℕ, Bool, true, false, List, [], ◌∷◌, Option, Some, None, refl, sym, ◌∙◌, ap}
use Rattle.es5_ast.specs.Lexical.{Token5}
use Rattle.es5_reading.specs.Parser.{Input5, Outcome5, Took, Fault, Syntax, Parser, next_is, returns, fails, on, on_taken, take_as, mark, word, ending, kept_if, next_mark, next_word, after, choose}
use Rattle.es5_ast.specs.Grammar.{ends}
use Rattle.es5_cursor.specs.Takes.{next_of, Takes, TakesAs, known_as}

-- ## Tokens that a test knows

module _ {A : Type 0} (test : Token5 → Bool) (r q : Parser A) where
  kept_on : (c d : Input5) → Takes test c true d → on (λ t. kept_if (test t) t) (λ _. r) q c ≡ r d
  kept_on c d h = at c.tokens c.last h.known ∙ ap r (sym h.input)
    where
      at : (ts : List Token5) (last : ℕ) → true ≡ next_is test ts → on (λ t. kept_if (test t) t) (λ _. r) q (record { tokens = ts; last = last }) ≡ r (next_of ts (record { tokens = ts; last = last }))
      at [] last e = absurd (cc)
      at (t ∷ ts) last e = ap (λ b. on_taken (kept_if b t) t ts (λ _. r) q (record { tokens = t ∷ ts; last = last })) (sym e)

  kept_off : (c d : Input5) → Takes test c false d → on (λ t. kept_if (test t) t) (λ _. r) q c ≡ q d
  kept_off c d h = at c.tokens c.last h.known ∙ ap q (sym h.input)
    where
      at : (ts : List Token5) (last : ℕ) → false ≡ next_is test ts → on (λ t. kept_if (test t) t) (λ _. r) q (record { tokens = ts; last = last }) ≡ q (record { tokens = ts; last = last })
      at [] last e = refl
      at (t ∷ ts) last e = ap (λ b. on_taken (kept_if b t) t ts (λ _. r) q (record { tokens = t ∷ ts; last = last })) (sym e)

module _ (test : Token5 → Bool) where
  kept_took : (c d : Input5) → Takes test c true d → (t : Token5) × (take_as (λ t. kept_if (test t) t) c ≡ Took t d)
  kept_took c d h = at c.tokens c.last d h.known h.input
    where
      at : (ts : List Token5) (last : ℕ) (d : Input5) → true ≡ next_is test ts → d ≡ next_of ts (record { tokens = ts; last = last }) → (t : Token5) × (take_as (λ t. kept_if (test t) t) (record { tokens = ts; last = last }) ≡ Took t d)
      at [] last d e f = absurd (cc)
      at (t ∷ ts) last d e f = (t, ap (λ b. on_taken (kept_if b t) t ts (λ x. returns x) (fails Syntax) (record { tokens = t ∷ ts; last = last })) (sym e) ∙ ap (λ i. Took t i) (sym f))

  kept_missed : (c d : Input5) → Takes test c false d → take_as (λ t. kept_if (test t) t) c ≡ Fault Syntax d.tokens
  kept_missed c d h = at c.tokens c.last h.known ∙ ap (λ e. Fault Syntax e.tokens) (sym h.input)
    where
      at : (ts : List Token5) (last : ℕ) → false ≡ next_is test ts → take_as (λ t. kept_if (test t) t) (record { tokens = ts; last = last }) ≡ Fault Syntax ts
      at [] last e = refl
      at (t ∷ ts) last e = ap (λ b. on_taken (kept_if b t) t ts (λ x. returns x) (fails Syntax) (record { tokens = t ∷ ts; last = last })) (sym e)

pub on_mark : {A : Type 0} (p : List ℕ) (r q : Parser A) (c d : Input5) → Takes (next_mark p) c true d → on (mark p) (λ _. r) q c ≡ r d
on_mark p r q c d h = kept_on (next_mark p) r q c d h

pub off_mark : {A : Type 0} (p : List ℕ) (r q : Parser A) (c d : Input5) → Takes (next_mark p) c false d → on (mark p) (λ _. r) q c ≡ q d
off_mark p r q c d h = kept_off (next_mark p) r q c d h

pub on_word : {A : Type 0} (w : List ℕ) (r q : Parser A) (c d : Input5) → Takes (next_word w) c true d → on (word w) (λ _. r) q c ≡ r d
on_word w r q c d h = kept_on (next_word w) r q c d h

pub off_word : {A : Type 0} (w : List ℕ) (r q : Parser A) (c d : Input5) → Takes (next_word w) c false d → on (word w) (λ _. r) q c ≡ q d
off_word w r q c d h = kept_off (next_word w) r q c d h

pub on_end : {A : Type 0} (r q : Parser A) (c d : Input5) → Takes (λ t. ends t.kind) c true d → on ending (λ _. r) q c ≡ r d
on_end r q c d h = kept_on (λ t. ends t.kind) r q c d h

pub off_end : {A : Type 0} (r q : Parser A) (c d : Input5) → Takes (λ t. ends t.kind) c false d → on ending (λ _. r) q c ≡ q d
off_end r q c d h = kept_off (λ t. ends t.kind) r q c d h

pub took_mark : (p : List ℕ) (c d : Input5) → Takes (next_mark p) c true d → (t : Token5) × (take_as (mark p) c ≡ Took t d)
took_mark p c d h = kept_took (next_mark p) c d h

pub missed_mark : (p : List ℕ) (c d : Input5) → Takes (next_mark p) c false d → take_as (mark p) c ≡ Fault Syntax d.tokens
missed_mark p c d h = kept_missed (next_mark p) c d h

pub took_word : (w : List ℕ) (c d : Input5) → Takes (next_word w) c true d → (t : Token5) × (take_as (word w) c ≡ Took t d)
took_word w c d h = kept_took (next_word w) c d h

pub missed_word : (w : List ℕ) (c d : Input5) → Takes (next_word w) c false d → take_as (word w) c ≡ Fault Syntax d.tokens
missed_word w c d h = kept_missed (next_word w) c d h

-- ## Tokens that stand for something

pub on_as : {A B : Type 0} (test : Token5 → Option B) (f : B → Parser A) (q : Parser A) (c d : Input5) (x : B) → TakesAs test c (Some x) d → on test f q c ≡ f x d
on_as {A = A} {B = B} test f q c d x h = at c.tokens c.last h.known ∙ ap (f x) (sym h.input)
  where
    at : (ts : List Token5) (last : ℕ) → Some x ≡ known_as test ts → on test f q (record { tokens = ts; last = last }) ≡ f x (next_of ts (record { tokens = ts; last = last }))
    at [] last e = absurd (cc)
    at (t ∷ ts) last e = ap (λ o. on_taken o t ts f q (record { tokens = t ∷ ts; last = last })) (sym e)

pub off_as : {A B : Type 0} (test : Token5 → Option B) (f : B → Parser A) (q : Parser A) (c d : Input5) → TakesAs test c None d → on test f q c ≡ q d
off_as {A = A} {B = B} test f q c d h = at c.tokens c.last h.known ∙ ap q (sym h.input)
  where
    at : (ts : List Token5) (last : ℕ) → None ≡ known_as test ts → on test f q (record { tokens = ts; last = last }) ≡ q (record { tokens = ts; last = last })
    at [] last e = refl
    at (t ∷ ts) last e = ap (λ o. on_taken o t ts f q (record { tokens = t ∷ ts; last = last })) (sym e)

-- ## Tests without a token taken

pub chose : {A : Type 0} (b : Bool) (p q : Parser A) (c : Input5) → b ≡ true → choose b p q c ≡ p c
chose true p q c h = refl
chose false p q c h = absurd (cc)

pub passed_by : {A : Type 0} (b : Bool) (p q : Parser A) (c : Input5) → b ≡ false → choose b p q c ≡ q c
passed_by true p q c h = absurd (cc)
passed_by false p q c h = refl

pub ruleset choices = (on_mark, off_mark, on_word, off_word, on_as, off_as, chose, passed_by)
