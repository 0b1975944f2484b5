-- Methods and accessors that are derived are read exactly so, in object literals and in classes, if their parts are.
use Rattle.std.proofs.Common.{◌≡◌, ℕ, Bool, true, false, List, [], ◌∷◌, Some, None, refl, sym, ap, subst, ◌∙◌}
use Rattle.std.specs.Prelude.{codes}
use Rattle.es6_lexer.specs.declared.token.Punctuator.TheVariants as marks
use Rattle.es6_ast.specs.declared.operators.MethodKind.TheVariants.{PlainMethod, GeneratorMethod}
use Rattle.es6_ast.specs.declared.tree.Key.{Key}
use Rattle.es6_ast.specs.declared.tree.Key.TheVariants.{WordKey}
use Rattle.es6_ast.specs.declared.tree.Method.{Method}
use Rattle.es6_ast.specs.declared.tree.Parameter.{Parameter}
use Rattle.es6_ast.specs.declared.tree.Parameter.TheVariants.{SingleParameter}
use Rattle.es6_ast.specs.declared.tree.Part.{Part}
use Rattle.es6_ast.specs.declared.tree.Property.{Property}
use Rattle.es6_ast.specs.declared.tree.Property.TheVariants as property
use Rattle.es6_ast.specs.declared.tree.Statement.{Statement}
use Rattle.es6_ast.specs.declared.settings.Flags.{Flags}
use Rattle.es6_ast.specs.Tokens.{Filled, IsWord, IsMark, begin_of, across, is_word}
use Rattle.es6_ast.specs.Grammar.{of_function, method_of}
use Rattle.es6_reading.specs.Parser.{next_is, mark, word, next_mark, group}
use Rattle.es6_reading.specs.Words.{any_name_in, accessor_in, accessor_at, accessor_name}
use Rattle.es6_reading.specs.Parts.{no_parameter, one_parameter, accessor_parameters, accessor_kind, accessor, generator_method, method_after_accessor_word, method, member_of, member_after_static, one_member}
use Rattle.es6_reading.specs.Expressions.{ends_name, after_accessor_word, one_property}
use Rattle.es6_reading.proofs.Posts.{Misses}
use Rattle.es6_reading.proofs.Meanings.{is-mark-true, some_same, word-means}
use Rattle.es6_reading.proofs.Spans.{◌⟫◌, span-across}
use Rattle.es6_reading.proofs.Derived.{one}
use Rattle.es6_reading.proofs.Reading.{Eventually, then_, both, pair}
use Rattle.es6_reading.proofs.Exactly.{Exactly, ReadsExactly, done, and_then, later, hit, miss, take, if-yes, if-no, group-in, mark-hit, word-hit}
use Rattle.es6_reading.proofs.CompleteTokens.{at-kind, word-miss}
use Rattle.es6_reading.proofs.CompleteImports.{R, opened, mark-no-mark, word-no-mark, word-no-word}
use Rattle.es6_reading.proofs.CompleteLists.{ends-close}
use Rattle.es6_reading.proofs.CompleteObjects.{either-taken, accessor-is, PropertyClaim}
use Rattle.es6_reading.proofs.CompleteKeys.{KeyClaim, word_claim, text_claim, integer_claim, computed_claim, key-no-mark, key-exact, SignatureClaim, method-tail, method-claim, generator-claim}
use Rattle.es6_reading.proofs.CompleteFunctions.{ParameterClaim, BodyRead}

-- ## Accessors

-- the parameters of an accessor in parentheses, and its body, which are read
pub record AccessorClaim (setter : Bool) (ts us : List Filled) (es : List Parameter) (body : List Statement) : Type 0 where
  pub middle : List Filled
  pub parameters : Eventually (λ n k r. ReadsExactly (group (R k r) marks.LeftParenthesis (accessor_parameters (R k r) setter)) es ts middle)
  pub body_reads : BodyRead false middle body us

pub getter-tail : {o c : Filled} {us vs : List Filled} {body : List Statement} → IsMark marks.LeftParenthesis o → IsMark marks.RightParenthesis c → BodyRead false us body vs → AccessorClaim false (o ∷ c ∷ us) vs [] body
unfolding accessor_parameters no_parameter
getter-tail {o = o} {c = c} {us = us} p q b = record {
  middle = us;
  parameters = then_ opened (λ n k r m last. group-in (R k r) marks.LeftParenthesis _ _ o (c ∷ us) last (is-mark-true marks.LeftParenthesis o p) m (take (mark marks.RightParenthesis) _ c c us o.span.end (mark-hit marks.RightParenthesis c q) (done refl (one ⟫ one))));
  body_reads = b;
}

pub setter-tail : {o c : Filled} {ts us vs : List Filled} {q : Part} {e : Parameter} {body : List Statement} → IsMark marks.LeftParenthesis o → ParameterClaim (of_function false) ts (c ∷ us) q → IsMark marks.RightParenthesis c → e ≡ SingleParameter q → BodyRead false us body vs → AccessorClaim true (o ∷ ts) vs (e ∷ []) body
unfolding accessor_parameters one_parameter
setter-tail {o = o} {c = c} {ts = ts} {us = us} p d q e b = record {
  middle = us;
  parameters = both opened (d.reads (ends-close (of_function false) us c q)) (λ n k r m y last. group-in (R k r) marks.LeftParenthesis _ _ o ts last (is-mark-true marks.LeftParenthesis o p) m (and_then _ (later one (y o.span.end)) (λ end mv.
      take (mark marks.RightParenthesis) _ c c us end (mark-hit marks.RightParenthesis c q) (done (ap (λ z. z ∷ []) (sym e)) (mv ⟫ one)))));
  body_reads = b;
}

-- what follows `get` or `set`, which is the first token
AccessorReads : Flags → Bool → Filled → List Filled → Method → List Filled → ℕ → ℕ → ℕ → Type 0
AccessorReads f setter t ts m us n k r = (last : ℕ) → Exactly m (record { tokens = t ∷ ts; last = last }) us (accessor (R k r) f t.span.begin setter (record { tokens = ts; last = t.span.end }))

accessor-reads : (f : Flags) (setter : Bool) (t : Filled) {ts us vs : List Filled} {k : Key} {es : List Parameter} {body : List Statement} {m : Method} → KeyClaim f ts k us → AccessorClaim setter us vs es body → m ≡ method_of (across (t ∷ ts) vs) (accessor_kind setter) k (across us vs) es body → Eventually (AccessorReads f setter t ts m vs)
unfolding accessor AccessorReads
accessor-reads f setter t {ts = ts} {us = us} {vs = vs} {k = k} {es = es} {body = body} d a e = both (key-exact d) (pair a.parameters a.body_reads) (λ n k' r y z last. and_then _ (later one (y t.span.end)) (λ end mv.
    later mv (and_then _ (z.0 end) (λ end' mv'. and_then _ (later mv' (z.1 end')) (λ end'' mv''.
    done (ap (λ s. method_of s (accessor_kind setter) k (record { begin = begin_of us; end = end'' }) es body) (span-across (mv ⟫ mv'')) ∙ ap (λ s. method_of (across (t ∷ ts) vs) (accessor_kind setter) k s es body) (span-across mv'') ∙ sym e) mv'')))))

-- a key is not what ends a name
key-first : {f : Flags} {ts us : List Filled} {k : Key} → KeyClaim f ts k us → (next_is ends_name ts ≡ false) × (next_is (next_mark marks.LeftParenthesis) ts ≡ false) × (Misses (mark marks.Semicolon) ts)
key-first (word_claim {t = t} word w e) = (at-kind (λ u. ends_name u ≡ false) t _ w refl, at-kind (λ u. next_mark marks.LeftParenthesis u ≡ false) t _ w refl, word-no-mark marks.Semicolon word t w)
key-first (text_claim {t = t} units h e) = (at-kind (λ u. ends_name u ≡ false) t _ h refl, at-kind (λ u. next_mark marks.LeftParenthesis u ≡ false) t _ h refl, at-kind (λ u. mark marks.Semicolon u ≡ None) t _ h refl)
key-first (integer_claim {t = t} value h e) = (at-kind (λ u. ends_name u ≡ false) t _ h refl, at-kind (λ u. next_mark marks.LeftParenthesis u ≡ false) t _ h refl, at-kind (λ u. mark marks.Semicolon u ≡ None) t _ h refl)
key-first (computed_claim {o = o} p d q e) = (at-kind (λ u. ends_name u ≡ false) o _ p refl, at-kind (λ u. next_mark marks.LeftParenthesis u ≡ false) o _ p refl, mark-no-mark marks.Semicolon marks.LeftBracket o p refl)

accessor-hit : (setter : Bool) (t : Filled) → IsWord (accessor_name setter) t → accessor_at t ≡ Some setter
accessor-hit true t w = ap accessor_in w
accessor-hit false t w = ap accessor_in w

accessor-property : (f : Flags) (setter : Bool) {t : Filled} {ts us vs : List Filled} {k : Key} {es : List Parameter} {body : List Statement} {m : Method} {q : Property} → IsWord (accessor_name setter) t → KeyClaim f ts k us → AccessorClaim setter us vs es body
    → m ≡ method_of (across (t ∷ ts) vs) (accessor_kind setter) k (across us vs) es body → q ≡ property.Defined m → PropertyClaim f (t ∷ ts) vs q
unfolding one_property after_accessor_word AccessorReads
accessor-property f setter {t = t} {ts = ts} w d a e e' = record {
  no_brace = word-no-mark marks.RightBrace (accessor_name setter) t w;
  reads = λ h. then_ (accessor-reads f setter t d a e) (λ n k r y last. miss (mark marks.Star) _ _ (t ∷ ts) last (word-no-mark marks.Star (accessor_name setter) t w) (hit accessor_at _ _ t setter ts last (accessor-hit setter t w)
      (if-no ends_name _ _ ts t.span.end (key-first d).0 (and_then _ (y last) (λ end mv. done (sym e') mv)))));
}

-- ## Methods of classes

pub record MethodClaim (f : Flags) (ts us : List Filled) (m : Method) : Type 0 where
  pub no_brace : Misses (mark marks.RightBrace) ts
  pub no_semicolon : Misses (mark marks.Semicolon) ts
  pub no_parenthesis : next_is (next_mark marks.LeftParenthesis) ts ≡ false
  pub reads : Eventually (λ n k r. ReadsExactly (method (R k r) f) m ts us)
  -- as a member that is not static
  pub member : Eventually (λ n k r. ReadsExactly (one_member (R k r) f) (member_of false m (across ts us)) ts us)
  -- as a property of an object literal
  pub property : (q : Property) → q ≡ property.Defined m → PropertyClaim f ts us q

-- a member that begins with no `static`
plain-member : (f : Flags) {ts us : List Filled} {m : Method} → Misses (word (codes "static")) ts → Eventually (λ n k r. ReadsExactly (method (R k r) f) m ts us) → Eventually (λ n k r. ReadsExactly (one_member (R k r) f) (member_of false m (across ts us)) ts us)
unfolding one_member
plain-member f {ts = ts} {m = m} h y = then_ y (λ n k r z last. miss (word (codes "static")) _ _ ts last h (and_then _ (z last) (λ end mv. done (ap (λ s. member_of false m s) (span-across mv)) mv)))

pub accessor-method : (f : Flags) (setter : Bool) {t : Filled} {ts us vs : List Filled} {k : Key} {es : List Parameter} {body : List Statement} {m : Method} → IsWord (accessor_name setter) t → KeyClaim f ts k us → AccessorClaim setter us vs es body → m ≡ method_of (across (t ∷ ts) vs) (accessor_kind setter) k (across us vs) es body → MethodClaim f (t ∷ ts) vs m
unfolding method method_after_accessor_word AccessorReads
accessor-method f setter {t = t} {ts = ts} {vs = vs} {m = m} w d a e = record {
  no_brace = word-no-mark marks.RightBrace (accessor_name setter) t w;
  no_semicolon = word-no-mark marks.Semicolon (accessor_name setter) t w;
  no_parenthesis = at-kind (λ u. next_mark marks.LeftParenthesis u ≡ false) t _ w refl;
  reads = all;
  member = plain-member f (no-static setter w) all;
  property = λ q e'. accessor-property f setter w d a e e';
}
  where
    no-static : (setter : Bool) → IsWord (accessor_name setter) t → word (codes "static") t ≡ None
    no-static true w = word-no-word (codes "static") (codes "set") t w refl
    no-static false w = word-no-word (codes "static") (codes "get") t w refl

    all : Eventually (λ n k r. ReadsExactly (method (R k r) f) m (t ∷ ts) vs)
    all = then_ (accessor-reads f setter t d a e) (λ n k r y last. miss (mark marks.Star) _ _ (t ∷ ts) last (word-no-mark marks.Star (accessor_name setter) t w) (hit accessor_at _ _ t setter ts last (accessor-hit setter t w)
        (if-no (next_mark marks.LeftParenthesis) _ _ ts t.span.end (key-first d).1 (y last))))

pub generator-method : (f : Flags) {c : Filled} {ts us vs : List Filled} {k : Key} {es : List Parameter} {body : List Statement} {m : Method} → IsMark marks.Star c → KeyClaim f ts k us → SignatureClaim true us vs es body → m ≡ method_of (across (c ∷ ts) vs) GeneratorMethod k (across us vs) es body → MethodClaim f (c ∷ ts) vs m
unfolding method generator_method
generator-method f {c = c} {ts = ts} {vs = vs} {k = k} {m = m} p d s e = record {
  no_brace = mark-no-mark marks.RightBrace marks.Star c p refl;
  no_semicolon = mark-no-mark marks.Semicolon marks.Star c p refl;
  no_parenthesis = at-kind (λ u. next_mark marks.LeftParenthesis u ≡ false) c _ p refl;
  reads = all;
  member = plain-member f (word-miss (codes "static") c (at-kind (λ u. is_word (codes "static") u.kind ≡ false) c _ p refl)) all;
  property = λ q e'. generator-claim f p d s e e';
}
  where
    all : Eventually (λ n k r. ReadsExactly (method (R k r) f) m (c ∷ ts) vs)
    all = both (key-exact d) s.reads (λ n k' r a z last. hit (mark marks.Star) _ _ c c ts last (mark-hit marks.Star c p) (and_then _ (later one (a c.span.end)) (λ end mv. method-tail (R k' r) GeneratorMethod true k last end mv z e)))

signature-opens : {generator : Bool} {us vs : List Filled} {es : List Parameter} {body : List Statement} → SignatureClaim generator us vs es body → next_is (next_mark marks.LeftParenthesis) us ≡ true
signature-opens s = subst (λ z. next_is (next_mark marks.LeftParenthesis) z ≡ true) (sym s.first) (is-mark-true marks.LeftParenthesis s.open_ s.parenthesis)

static-is : (w : List ℕ) (t u : Filled) → IsWord w t → word (codes "static") t ≡ Some u → w ≡ codes "static"
static-is w t u i h = some_same (sym (ap any_name_in i) ∙ ap any_name_in (word-means (codes "static") t u h).0)

-- a method whose name is a word, which may be `get`, `set` or `static`
word-method : (f : Flags) (w : List ℕ) {t : Filled} {us vs : List Filled} {k : Key} {es : List Parameter} {body : List Statement} {m : Method} → IsWord w t → k ≡ WordKey t.span w → SignatureClaim false us vs es body → m ≡ method_of (across (t ∷ us) vs) PlainMethod k (across us vs) es body → MethodClaim f (t ∷ us) vs m
unfolding method method_after_accessor_word one_member member_after_static
word-method f w {t = t} {us = us} {vs = vs} {k = k} {es = es} {body = body} {m = m} i j s e = record {
  no_brace = word-no-mark marks.RightBrace w t i;
  no_semicolon = word-no-mark marks.Semicolon w t i;
  no_parenthesis = at-kind (λ u. next_mark marks.LeftParenthesis u ≡ false) t _ i refl;
  reads = all;
  member = both all s.reads (λ n k' r y z last. either-taken (word (codes "static")) _ _ t us last
      (λ u h. if-yes (next_mark marks.LeftParenthesis) _ _ us t.span.end (signature-opens s) (and_then _ (method-tail (R k' r) PlainMethod false _ last t.span.end one z (named (codes "static") (static-is w t u i h))) (λ end mv. done (ap (λ p. member_of false m p) (span-across mv)) mv)))
      (λ h. and_then _ (y last) (λ end mv. done (ap (λ p. member_of false m p) (span-across mv)) mv)));
  property = λ q e'. method-claim f (word_claim w i j) s e e';
}
  where
    named : (v : List ℕ) → w ≡ v → m ≡ method_of (across (t ∷ us) vs) PlainMethod (WordKey t.span v) (across us vs) es body
    named v h = e ∙ ap (λ z. method_of (across (t ∷ us) vs) PlainMethod z (across us vs) es body) (j ∙ ap (λ x. WordKey t.span x) h)

    all : Eventually (λ n k r. ReadsExactly (method (R k r) f) m (t ∷ us) vs)
    all = both (key-exact {f = f} (word_claim {t = t} {ts = us} w i j)) s.reads (λ n k' r y z last. miss (mark marks.Star) _ _ (t ∷ us) last (word-no-mark marks.Star w t i) (either-taken accessor_at _ _ t us last
        (λ setter h. if-yes (next_mark marks.LeftParenthesis) _ _ us t.span.end (signature-opens s) (method-tail (R k' r) PlainMethod false _ last t.span.end one z (named (accessor_name setter) (accessor-is w setter t i h))))
        (λ h. and_then _ (y last) (λ end mv. method-tail (R k' r) PlainMethod false k last end mv z e))))

other-method : (f : Flags) {ts us vs : List Filled} {k : Key} {es : List Parameter} {body : List Statement} {m : Method} → KeyClaim f ts k us → Misses accessor_at ts → Misses (word (codes "static")) ts → SignatureClaim false us vs es body → m ≡ method_of (across ts vs) PlainMethod k (across us vs) es body → MethodClaim f ts vs m
unfolding method
other-method f {ts = ts} {vs = vs} {k = k} {m = m} d a b s e = record {
  no_brace = (key-no-mark d).0;
  no_semicolon = (key-first d).2;
  no_parenthesis = (key-first d).1;
  reads = all;
  member = plain-member f b all;
  property = λ q e'. method-claim f d s e e';
}
  where
    all : Eventually (λ n k r. ReadsExactly (method (R k r) f) m ts vs)
    all = both (key-exact d) s.reads (λ n k' r y z last. miss (mark marks.Star) _ _ ts last (key-no-mark d).1 (miss accessor_at _ _ ts last a (and_then _ (y last) (λ end mv. method-tail (R k' r) PlainMethod false k last end mv z e))))

pub plain-method : (f : Flags) {ts us vs : List Filled} {k : Key} {es : List Parameter} {body : List Statement} {m : Method} → KeyClaim f ts k us → SignatureClaim false us vs es body → m ≡ method_of (across ts vs) PlainMethod k (across us vs) es body → MethodClaim f ts vs m
plain-method f (word_claim word w j) s e = word-method f word w j s e
plain-method f (text_claim {t = t} units p j) s e = other-method f (text_claim units p j) (at-kind (λ u. accessor_at u ≡ None) t _ p refl) (at-kind (λ u. word (codes "static") u ≡ None) t _ p refl) s e
plain-method f (integer_claim {t = t} value p j) s e = other-method f (integer_claim value p j) (at-kind (λ u. accessor_at u ≡ None) t _ p refl) (at-kind (λ u. word (codes "static") u ≡ None) t _ p refl) s e
plain-method f (computed_claim {o = o} p d q j) s e = other-method f (computed_claim p d q j) (at-kind (λ u. accessor_at u ≡ None) o _ p refl) (at-kind (λ u. word (codes "static") u ≡ None) o _ p refl) s e

-- ## Static members

-- what `static` is before
pub static-member : (f : Flags) {t : Filled} {ts us : List Filled} {m : Method} → IsWord (codes "static") t → MethodClaim f ts us m → Eventually (λ n k r. ReadsExactly (one_member (R k r) f) (member_of true m (across (t ∷ ts) us)) (t ∷ ts) us)
unfolding one_member member_after_static
static-member f {t = t} {ts = ts} {m = m} w c = then_ c.reads (λ n k r y last. hit (word (codes "static")) _ _ t t ts last (word-hit (codes "static") t w) (if-no (next_mark marks.LeftParenthesis) _ _ ts t.span.end c.no_parenthesis
    (and_then _ (later one (y t.span.end)) (λ end mv. done (ap (λ s. member_of true m s) (span-across mv)) mv))))
