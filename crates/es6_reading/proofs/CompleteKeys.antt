-- Properties with keys, and methods, that are derived are read exactly so, if their parts are.
use Rattle.std.proofs.Common.{◌≡◌, ℕ, Bool, true, false, ◌||◌, List, ◌∷◌, Option, Some, None, refl, sym, ap, subst, ◌∙◌, arith}
use Rattle.std.proofs.lemmas.Bool.{false≢true}
use Rattle.std.specs.Prelude.{ℤ}
use Rattle.es_outside.specs.HostNames.{reserved_words}
use Rattle.es6_lexer.specs.declared.token.TokenKind.TheVariants as kinds
use Rattle.es6_lexer.specs.declared.token.NumberToken.TheVariants.{Whole}
use Rattle.es6_lexer.specs.declared.token.Punctuator.TheVariants as marks
use Rattle.es6_ast.specs.declared.operators.MethodKind.{MethodKind}
use Rattle.es6_ast.specs.declared.operators.MethodKind.TheVariants.{PlainMethod, GeneratorMethod}
use Rattle.es6_ast.specs.declared.tree.Expression.{Expression}
use Rattle.es6_ast.specs.declared.tree.Key.{Key}
use Rattle.es6_ast.specs.declared.tree.Key.TheVariants.{WordKey, TextKey, IntegerKey, ComputedKey}
use Rattle.es6_ast.specs.declared.tree.Method.{Method}
use Rattle.es6_ast.specs.declared.tree.Parameter.{Parameter}
use Rattle.es6_ast.specs.declared.tree.Property.{Property}
use Rattle.es6_ast.specs.declared.tree.Property.TheVariants as property
use Rattle.es6_ast.specs.declared.tree.Statement.{Statement}
use Rattle.es6_ast.specs.declared.settings.Flags.{Flags}
use Rattle.es6_ast.specs.Tokens.{Filled, Read, IsWord, IsMark, begin_of, across, is_identifier}
use Rattle.es6_ast.specs.Grammar.{with_in, method_of}
use Rattle.es6_reading.specs.Parser.{next_is, mark, next_mark, Inner}
use Rattle.es6_reading.specs.Words.{name_if, free_name, WordToken, TextToken, IntegerToken, key_in, key_at, accessor_at, accessor_name}
use Rattle.es6_reading.specs.Parts.{key, computed_key, signature, method_after_key, generator_method}
use Rattle.es6_reading.specs.Expressions.{value_of_key, method_of_key, after_key, after_name, ends_name, one_property}
use Rattle.es6_reading.proofs.Posts.{Misses}
use Rattle.es6_reading.proofs.Meanings.{is-mark-true}
use Rattle.es6_reading.proofs.Spans.{Moves, ◌⟫◌, span-across}
use Rattle.es6_reading.proofs.Derived.{one}
use Rattle.es6_reading.proofs.Reading.{Eventually, always, then_, both}
use Rattle.es6_reading.proofs.Exactly.{Exactly, ReadsExactly, done, and_then, later, hit, miss, take, if-yes, group-in, mark-hit}
use Rattle.es6_reading.proofs.CompleteTokens.{at-kind}
use Rattle.es6_reading.proofs.CompleteImports.{R, opened, mark-no-mark, word-no-mark}
use Rattle.es6_reading.proofs.CompleteLevels.{assignment_level}
use Rattle.es6_reading.proofs.CompleteClaims.{Claim, open-assignment}
use Rattle.es6_reading.proofs.CompleteLists.{ends-square}
use Rattle.es6_reading.proofs.CompleteObjects.{accessor-is, name-exact, property-ends, PropertyClaim}

-- ## Keys

pub data KeyClaim (f : Flags) : List Filled → Key → List Filled → Type 0 where
  word_claim : {t : Filled} {ts : List Filled} {k : Key} (word : List ℕ) → IsWord word t → k ≡ WordKey t.span word → KeyClaim f (t ∷ ts) k ts
  text_claim : {t : Filled} {ts : List Filled} {k : Key} (units : List ℕ) → t.kind ≡ Read (kinds.Text units) → k ≡ TextKey t.span units → KeyClaim f (t ∷ ts) k ts
  integer_claim : {t : Filled} {ts : List Filled} {k : Key} (value : ℤ) → t.kind ≡ Read (kinds.Number (Whole value)) → k ≡ IntegerKey t.span value → KeyClaim f (t ∷ ts) k ts
  computed_claim : {o c : Filled} {ts us : List Filled} {k : Key} {value : Expression} → IsMark marks.LeftBracket o → Claim (with_in f) 1 ts (c ∷ us) value → IsMark marks.RightBracket c → k ≡ ComputedKey (across (o ∷ ts) us) value → KeyClaim f (o ∷ ts) k us

pub key-no-mark : {f : Flags} {ts us : List Filled} {k : Key} → KeyClaim f ts k us → Misses (mark marks.RightBrace) ts × Misses (mark marks.Star) ts
key-no-mark (word_claim {t = t} word w e) = (word-no-mark marks.RightBrace word t w, word-no-mark marks.Star word t w)
key-no-mark (text_claim {t = t} units h e) = (at-kind (λ u. mark marks.RightBrace u ≡ None) t _ h refl, at-kind (λ u. mark marks.Star u ≡ None) t _ h refl)
key-no-mark (integer_claim {t = t} value h e) = (at-kind (λ u. mark marks.RightBrace u ≡ None) t _ h refl, at-kind (λ u. mark marks.Star u ≡ None) t _ h refl)
key-no-mark (computed_claim {o = o} p d q e) = (mark-no-mark marks.RightBrace marks.LeftBracket o p refl, mark-no-mark marks.Star marks.LeftBracket o p refl)

pub key-exact : {f : Flags} {ts us : List Filled} {k : Key} → KeyClaim f ts k us → Eventually (λ n k' r. ReadsExactly (key (R k' r) f) k ts us)
unfolding key computed_key
key-exact (word_claim {t = t} {ts = ts} word w e) = always (λ n k r last. hit key_at _ _ t (WordToken word) ts last (ap key_in w) (done (sym e) one))
key-exact (text_claim {t = t} {ts = ts} units h e) = always (λ n k r last. hit key_at _ _ t (TextToken units) ts last (ap key_in h) (done (sym e) one))
key-exact (integer_claim {t = t} {ts = ts} value h e) = always (λ n k r last. hit key_at _ _ t (IntegerToken value) ts last (ap key_in h) (done (sym e) one))
key-exact {f = f} (computed_claim {o = o} {c = c} {ts = ts} {us = us} {value = value} p d q e) = both opened (let x = ends-square (with_in f) us c q in open-assignment d x.closes x.yields) (λ n k r m y last.
    miss key_at _ _ (o ∷ ts) last (at-kind (λ u. key_at u ≡ None) o _ p refl) (group-in (R k r) marks.LeftBracket _ _ o ts last (is-mark-true marks.LeftBracket o p) m
    (and_then _ (later one (y o.span.end)) (λ end mv. take (mark marks.RightBracket) _ c c us end (mark-hit marks.RightBracket c q) (done (ap (λ s. ComputedKey s value) (span-across (mv ⟫ one)) ∙ sym e) (mv ⟫ one))))))

-- ## What begins with a key

-- what goes on from the key gives this
abbrev KeyThen : Flags → List Filled → Key → List Filled → ℕ → ℕ → ℕ → Type 0
KeyThen f ts k us n k' r = (x : Property) (vs : List Filled) (last : ℕ) → ((end : ℕ) → Moves (record { tokens = ts; last = last }) (record { tokens = us; last = end }) → Exactly x (record { tokens = ts; last = last }) vs (after_key (R k' r) f (begin_of ts) k (record { tokens = us; last = end })))
    → Exactly x (record { tokens = ts; last = last }) vs (one_property (R k' r) f (record { tokens = ts; last = last }))

other-key : {f : Flags} {ts us : List Filled} {k : Key} → KeyClaim f ts k us → Misses accessor_at ts → Misses free_name ts → Eventually (KeyThen f ts k us)
unfolding one_property
other-key {ts = ts} d a b = then_ (key-exact d) (λ n k r y x vs last go. miss (mark marks.Star) _ _ ts last (key-no-mark d).1 (miss accessor_at _ _ ts last a (miss free_name _ _ ts last b (and_then _ (y last) go))))

own-accessor : (setter : Bool) → is_identifier (accessor_name setter) ≡ true
unfolding reserved_words
own-accessor true = refl
own-accessor false = refl

abbrev goes_on : Filled → Bool
goes_on t = next_mark marks.Colon t || next_mark marks.LeftParenthesis t

word-key : (f : Flags) (word : List ℕ) {t : Filled} {us : List Filled} {k : Key} → IsWord word t → k ≡ WordKey t.span word → next_is goes_on us ≡ true → next_is ends_name us ≡ true → Eventually (KeyThen f (t ∷ us) k us)
unfolding after_name
word-key f word {t = t} {us = us} {k = k} w e h n = by (is_identifier word) refl
  where
    no-accessor : is_identifier word ≡ false → (o : Option Bool) → accessor_at t ≡ o → accessor_at t ≡ None
    no-accessor i None a = a
    no-accessor i (Some setter) a = absurd (false≢true (sym i ∙ ap is_identifier (accessor-is word setter t w a) ∙ own-accessor setter))

    by : (b : Bool) → is_identifier word ≡ b → Eventually (KeyThen f (t ∷ us) k us)
    by true i = always (λ m k' r x vs last go. name-exact (R k' r) f t us word last w i n (if-yes goes_on _ _ us t.span.end h
        (subst (λ z. Exactly x (record { tokens = t ∷ us; last = last }) vs (after_key (R k' r) f t.span.begin z (record { tokens = us; last = t.span.end }))) e (go t.span.end one))))
    by false i = other-key (word_claim word w e) (no-accessor i (accessor_at t) refl) (at-kind (λ u. free_name u ≡ None) t _ w (ap (λ b. name_if b word) i))

key-then : (f : Flags) {ts us : List Filled} {k : Key} → KeyClaim f ts k us → next_is goes_on us ≡ true → next_is ends_name us ≡ true → Eventually (KeyThen f ts k us)
key-then f (word_claim {t = t} word w e) h n = word-key f word w e h n
key-then f (text_claim {t = t} units p e) h n = other-key (text_claim units p e) (at-kind (λ u. accessor_at u ≡ None) t _ p refl) (at-kind (λ u. free_name u ≡ None) t _ p refl)
key-then f (integer_claim {t = t} value p e) h n = other-key (integer_claim value p e) (at-kind (λ u. accessor_at u ≡ None) t _ p refl) (at-kind (λ u. free_name u ≡ None) t _ p refl)
key-then f (computed_claim {o = o} p d q e) h n = other-key (computed_claim p d q e) (at-kind (λ u. accessor_at u ≡ None) o _ p refl) (at-kind (λ u. free_name u ≡ None) o _ p refl)

pub plain-claim : (f : Flags) {c : Filled} {ts us vs : List Filled} {k : Key} {value : Expression} {q : Property} → KeyClaim f ts k (c ∷ us) → IsMark marks.Colon c → Claim (with_in f) 1 us vs value → q ≡ property.Plain (across ts vs) k value → PropertyClaim f ts vs q
unfolding after_key value_of_key
plain-claim f {c = c} {us = us} {vs = vs} {k = k} {value = value} {q = q} d p v e = record {
  no_brace = (key-no-mark d).0;
  reads = λ h. let x = property-ends (with_in f) h in both (key-then f d (at-kind (λ u. goes_on u ≡ true) c _ p refl) (at-kind (λ u. ends_name u ≡ true) c _ p refl)) (v.levels 1 assignment_level (omega arith) x.closes x.yields) (λ n k' r a z last.
      a q vs last (λ end mv. hit (mark marks.Colon) _ _ c c us end (mark-hit marks.Colon c p) (and_then _ (later (mv ⟫ one) (z c.span.end)) (λ end' mv'. done (ap (λ s. property.Plain s k value) (span-across mv') ∙ sym e) mv'))));
}

-- ## Methods

-- parameters in parentheses and a body in braces, which are read
pub record SignatureClaim (generator : Bool) (ts us : List Filled) (parameters : List Parameter) (body : List Statement) : Type 0 where
  pub open_ : Filled
  pub tokens : List Filled
  pub first : ts ≡ open_ ∷ tokens
  pub parenthesis : IsMark marks.LeftParenthesis open_
  pub reads : Eventually (λ t k r. ReadsExactly (signature (R k r) generator) (record { parameters = parameters; body = body }) ts us)

-- what follows a method's key
pub method-tail : (i : Inner) (kind : MethodKind) (generator : Bool) (k : Key) {ts us vs : List Filled} {parameters : List Parameter} {body : List Statement} {m : Method} (last end : ℕ) → Moves (record { tokens = ts; last = last }) (record { tokens = us; last = end })
    → ReadsExactly (signature i generator) (record { parameters = parameters; body = body }) us vs → m ≡ method_of (across ts vs) kind k (across us vs) parameters body → Exactly m (record { tokens = ts; last = last }) vs (method_after_key i kind generator (begin_of ts) k (record { tokens = us; last = end }))
unfolding method_after_key
method-tail i kind generator k {ts = ts} {us = us} {vs = vs} {parameters = parameters} {body = body} last end mv y e = later mv (and_then _ (y end) (λ end' mv'.
    done (ap (λ s. method_of s kind k (record { begin = begin_of us; end = end' }) parameters body) (span-across (mv ⟫ mv')) ∙ ap (λ s. method_of (across ts vs) kind k s parameters body) (span-across mv') ∙ sym e) mv'))

opens-signature : {generator : Bool} {us vs : List Filled} {parameters : List Parameter} {body : List Statement} → SignatureClaim generator us vs parameters body → (Misses (mark marks.Colon) us) × (next_is goes_on us ≡ true) × (next_is ends_name us ≡ true)
opens-signature s = (
  subst (λ z. Misses (mark marks.Colon) z) (sym s.first) (mark-no-mark marks.Colon marks.LeftParenthesis s.open_ s.parenthesis refl),
  subst (λ z. next_is goes_on z ≡ true) (sym s.first) (at-kind (λ u. goes_on u ≡ true) s.open_ _ s.parenthesis refl),
  subst (λ z. next_is ends_name z ≡ true) (sym s.first) (at-kind (λ u. ends_name u ≡ true) s.open_ _ s.parenthesis refl),
)

pub method-claim : (f : Flags) {ts us vs : List Filled} {k : Key} {parameters : List Parameter} {body : List Statement} {m : Method} {q : Property} → KeyClaim f ts k us → SignatureClaim false us vs parameters body → m ≡ method_of (across ts vs) PlainMethod k (across us vs) parameters body → q ≡ property.Defined m → PropertyClaim f ts vs q
unfolding after_key method_of_key
method-claim f {us = us} {vs = vs} {k = k} {q = q} d s e e' = record {
  no_brace = (key-no-mark d).0;
  reads = λ h. let o = opens-signature s in both (key-then f d o.1 o.2) s.reads (λ n k' r a z last. a q vs last (λ end mv. miss (mark marks.Colon) _ _ us end o.0
      (and_then _ (method-tail (R k' r) PlainMethod false k last end mv z e) (λ end' mv'. done (sym e') mv'))));
}

pub generator-claim : (f : Flags) {c : Filled} {ts us vs : List Filled} {k : Key} {parameters : List Parameter} {body : List Statement} {m : Method} {q : Property} → IsMark marks.Star c → KeyClaim f ts k us → SignatureClaim true us vs parameters body → m ≡ method_of (across (c ∷ ts) vs) GeneratorMethod k (across us vs) parameters body → q ≡ property.Defined m → PropertyClaim f (c ∷ ts) vs q
unfolding one_property generator_method
generator-claim f {c = c} {ts = ts} {k = k} p d s e e' = record {
  no_brace = mark-no-mark marks.RightBrace marks.Star c p refl;
  reads = λ h. both (key-exact d) s.reads (λ n k' r a z last. hit (mark marks.Star) _ _ c c ts last (mark-hit marks.Star c p) (and_then _ (and_then _ (later one (a c.span.end)) (λ end mv. method-tail (R k' r) GeneratorMethod true k last end mv z e)) (λ end' mv'. done (sym e') mv')));
}
