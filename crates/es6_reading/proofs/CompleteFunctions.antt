-- Functions, with their parameters and bodies, that are derived are read exactly so, if their parts are.
use Rattle.std.proofs.Common.{◌≡◌, ℕ, Bool, true, false, List, [], ◌∷◌, Option, Some, None, refl, sym, ap, subst, ◌∙◌}
use Rattle.std.specs.Prelude.{codes}
use Rattle.es6_lexer.specs.declared.token.Punctuator.TheVariants as marks
use Rattle.es6_ast.specs.declared.tree.Function.{Function, roll-Function}
use Rattle.es6_ast.specs.declared.tree.Identifier.{Identifier}
use Rattle.es6_ast.specs.declared.tree.Parameter.{Parameter}
use Rattle.es6_ast.specs.declared.tree.Parameter.TheVariants.{SingleParameter, RestParameter}
use Rattle.es6_ast.specs.declared.tree.Part.{Part}
use Rattle.es6_ast.specs.declared.tree.Statement.{Statement}
use Rattle.es6_ast.specs.declared.settings.Flags.{Flags}
use Rattle.es6_ast.specs.Tokens.{Filled, IsWord, IsMark, across}
use Rattle.es6_ast.specs.Grammar as g
use Rattle.es6_ast.specs.Grammar.{of_function, name_target, IsName, IsStar}
use Rattle.es6_reading.specs.Parser.{Took, Parser, after, on_taken, next_is, mark, next_mark, Inner}
use Rattle.es6_reading.specs.Words.{begins_operand}
use Rattle.es6_reading.specs.Parts.{rest_parameter, more_parameters, parameters, statements, function_body, signature, star, rest_of_function, named_function, function_after_word}
use Rattle.es6_reading.proofs.Posts.{Misses}
use Rattle.es6_reading.proofs.Meanings.{is-mark-true}
use Rattle.es6_reading.proofs.Spans.{Moves, ◌⟫◌, span-across}
use Rattle.es6_reading.proofs.Derived.{one}
use Rattle.es6_reading.proofs.Reading.{Eventually, always, then_, both, pair, turn, begin, on-miss-is}
use Rattle.es6_reading.proofs.Exactly.{Exactly, ReadsExactly, done, and_then, later, hit, miss, take, if-yes, if-no, either-choice, group-in, known, mark-hit}
use Rattle.es6_reading.proofs.CompleteTokens.{at-kind}
use Rattle.es6_reading.proofs.CompleteImports.{R, at-fuel, opened, mark-no-mark, word-no-mark, identifier-exact}
use Rattle.es6_reading.proofs.CompleteClaims.{unary-if-operand, expression-if-unary, begins-no-close, begins-no-ellipsis}
use Rattle.es6_reading.proofs.CompleteLists.{Ends, ends-comma, ends-close}
use Rattle.es6_reading.proofs.CompleteKeys.{SignatureClaim}
use Rattle.es6_reading.proofs.CompleteStatements.{StatementsRead}
use Rattle.es6_reading.proofs.CompleteDeclarations.{FunctionRead}

-- ## Parameters (14.1)

-- a part that is a parameter, or the only one
pub record ParameterClaim (f : Flags) (ts us : List Filled) (q : Part) : Type 0 where
  pub begins : next_is begins_operand ts ≡ true
  pub reads : Ends f us → Eventually (λ n k r. ReadsExactly ((R k r).part f) q ts us)

parameter-first : (f : Flags) {ts us : List Filled} {q : Part} → ParameterClaim f ts us q → (Misses (mark marks.RightParenthesis) ts) × (Misses (mark marks.Ellipsis) ts)
parameter-first f {ts = ts} c = let b = expression-if-unary f ts (unary-if-operand ts c.begins) in (begins-no-close f ts b, begins-no-ellipsis f ts b)

-- the parameters after the opening parenthesis or a comma, and the closing parenthesis
pub record MoreParametersClaim (f : Flags) (ts : List Filled) (es : List Parameter) (us : List Filled) : Type 0 where
  pub no_close : Misses (mark marks.RightParenthesis) ts
  pub reads : Eventually (λ t k r. ReadsExactly (more_parameters (R k r) f t) es ts us)

pub parameters-rest : (f : Flags) {t c : Filled} {ts us : List Filled} {n : Identifier} {e : Parameter} → IsMark marks.Ellipsis t → IsName ts n (c ∷ us) → IsMark marks.RightParenthesis c → e ≡ RestParameter (across (t ∷ ts) (c ∷ us)) (name_target n) → MoreParametersClaim f (t ∷ ts) (e ∷ []) us
unfolding more_parameters rest_parameter
parameters-rest f {t = t} {c = c} {ts = ts} {us = us} {n = n} p d q e = record {
  no_close = mark-no-mark marks.RightParenthesis marks.Ellipsis t p refl;
  reads = turn (always {P = λ n k r. Unit {0}} (λ n k r. tt)) (λ j k r _ last. hit (mark marks.Ellipsis) _ _ t t ts last (mark-hit marks.Ellipsis t p) (and_then _ (and_then _ (later one (identifier-exact d t.span.end)) (λ end mv.
      take (mark marks.RightParenthesis) _ c c us end (mark-hit marks.RightParenthesis c q) (done (ap (λ s. RestParameter s (name_target n)) (span-across mv) ∙ sym e) (mv ⟫ one)))) (λ end mv. done refl mv)));
}

pub parameters-last : (f : Flags) {c : Filled} {ts us : List Filled} {q : Part} {e : Parameter} → ParameterClaim f ts (c ∷ us) q → IsMark marks.RightParenthesis c → e ≡ SingleParameter q → MoreParametersClaim f ts (e ∷ []) us
unfolding more_parameters
parameters-last f {c = c} {ts = ts} {us = us} d p e = record {
  no_close = (parameter-first f d).0;
  reads = turn (d.reads (ends-close f us c p)) (λ n k r y last. miss (mark marks.Ellipsis) _ _ ts last (parameter-first f d).1 (and_then _ (y last) (λ end mv. miss (mark marks.Comma) _ _ (c ∷ us) end (mark-no-mark marks.Comma marks.RightParenthesis c p refl)
      (take (mark marks.RightParenthesis) _ c c us end (mark-hit marks.RightParenthesis c p) (done (ap (λ z. z ∷ []) (sym e)) (mv ⟫ one))))));
}

pub parameters-next : (f : Flags) {m : Filled} {ts us vs : List Filled} {q : Part} {e : Parameter} {es : List Parameter} → ParameterClaim f ts (m ∷ us) q → IsMark marks.Comma m → e ≡ SingleParameter q → MoreParametersClaim f us es vs → MoreParametersClaim f ts (e ∷ es) vs
unfolding more_parameters
parameters-next f {m = m} {ts = ts} {us = us} {es = es} d p e rest = record {
  no_close = (parameter-first f d).0;
  reads = turn (pair (d.reads (ends-comma f us m p)) rest.reads) (λ n k r y last. miss (mark marks.Ellipsis) _ _ ts last (parameter-first f d).1 (and_then _ (y.0 last) (λ end mv. hit (mark marks.Comma) _ _ m m us end (mark-hit marks.Comma m p)
      (and_then _ (later (mv ⟫ one) (y.1 m.span.end)) (λ end' mv'. done (ap (λ z. z ∷ es) (sym e)) mv')))));
}

abbrev pub ParametersRead : Flags → List Filled → List Parameter → List Filled → Type 0
ParametersRead f ts es us = Eventually (λ n k r. ReadsExactly (parameters (R k r) f) es ts us)

pub parameters-none : (f : Flags) {c : Filled} {us : List Filled} → IsMark marks.RightParenthesis c → ParametersRead f (c ∷ us) [] us
unfolding parameters
parameters-none f {c = c} {us = us} p = always (λ n k r last. hit (mark marks.RightParenthesis) _ _ c c us last (mark-hit marks.RightParenthesis c p) (done refl one))

pub parameters-some : (f : Flags) {ts us : List Filled} {es : List Parameter} → MoreParametersClaim f ts es us → ParametersRead f ts es us
unfolding parameters
parameters-some f {ts = ts} {us = us} {es = es} c = begin c.reads (λ n k r y last. miss (mark marks.RightParenthesis) _ _ ts last c.no_close (at-fuel (λ j. more_parameters (R k r) f j) es ts us k r y last))

-- ## Signatures

-- a body in braces
abbrev pub BodyRead : Bool → List Filled → List Statement → List Filled → Type 0
BodyRead generator ts body us = Eventually (λ n k r. ReadsExactly (function_body (R k r) generator) body ts us)

pub body-reads : (generator : Bool) {b : Filled} {ts us : List Filled} {body : List Statement} → IsMark marks.LeftBrace b → StatementsRead (of_function generator) ts body us → BodyRead generator (b ∷ ts) body us
unfolding function_body
body-reads generator {b = b} {ts = ts} {us = us} {body = body} p d = both opened (begin d (λ n k r y. at-fuel (λ j. statements (R k r) (of_function generator) j) body ts us k r y)) (λ n k r o y last. group-in (R k r) marks.LeftBrace _ _ b ts last (is-mark-true marks.LeftBrace b p) o (later one (y b.span.end)))

pub signature-claim : (generator : Bool) {o b : Filled} {ts us vs : List Filled} {es : List Parameter} {body : List Statement} → IsMark marks.LeftParenthesis o → ParametersRead (of_function generator) ts es (b ∷ us) → IsMark marks.LeftBrace b → StatementsRead (of_function generator) us body vs → SignatureClaim generator (o ∷ ts) vs es body
unfolding signature
signature-claim generator {o = o} {ts = ts} p d q ss = record {
  open_ = o;
  tokens = ts;
  first = refl;
  parenthesis = p;
  reads = both opened (pair d (body-reads generator q ss)) (λ n k r m y last. and_then _ (group-in (R k r) marks.LeftParenthesis _ _ o ts last (is-mark-true marks.LeftParenthesis o p) m (later one (y.0 o.span.end))) (λ end mv. and_then _ (later mv (y.1 end)) (λ end' mv'. done refl mv')));
}

-- ## Functions (14.1, 14.4)

-- a function that begins with its word
pub data FunctionClaim (lacks : Bool) : List Filled → Function → List Filled → Type 0 where
  function_read : {t : Filled} {ts us : List Filled} {h : Function} → IsWord (codes "function") t → FunctionRead lacks t ts h us → FunctionClaim lacks (t ∷ ts) h us

abbrev a_function : Filled → List Filled → List Filled → Bool → Option Identifier → List Parameter → List Statement → Function
a_function t ts us generator name es body = roll-Function (record { span = across (t ∷ ts) us; is_generator = generator; name = name; parameters = es; body = body })

-- what was read up to the signature, which follows
signature-then : (i : Inner) (generator : Bool) (name : Option Identifier) {t : Filled} {ts us vs : List Filled} {es : List Parameter} {body : List Statement} {h : Function} (last end : ℕ) → Moves (record { tokens = t ∷ ts; last = last }) (record { tokens = us; last = end })
    → ReadsExactly (signature i generator) (record { parameters = es; body = body }) us vs → h ≡ a_function t ts vs generator name es body → Exactly h (record { tokens = t ∷ ts; last = last }) vs (rest_of_function i t.span.begin generator name (record { tokens = us; last = end }))
unfolding rest_of_function
signature-then i generator name {es = es} {body = body} last end mv y e = later mv (and_then _ (y end) (λ end' mv'. done (ap (λ s. roll-Function (record { span = s; is_generator = generator; name = name; parameters = es; body = body })) (span-across (mv ⟫ mv')) ∙ sym e) mv'))

-- the mark of a generator, or none, and what goes on from it
star-then : {h : Function} {generator : Bool} {t : Filled} {ts us vs : List Filled} (q : Bool → Parser Function) (last : ℕ) → IsStar generator ts us → Misses (mark marks.Star) us → ((end : ℕ) → Moves (record { tokens = t ∷ ts; last = last }) (record { tokens = us; last = end }) → Exactly h (record { tokens = t ∷ ts; last = last }) vs (q generator (record { tokens = us; last = end })))
    → Exactly h (record { tokens = t ∷ ts; last = last }) vs (after (star (record { tokens = ts; last = t.span.end })) q)
unfolding star
star-then {t = t} {us = us} q last g.no_star m go = known q (on-miss-is (mark marks.Star) _ _ us t.span.end m) (go t.span.end one)
star-then {t = t} {us = us} q last (g.star {t = s} p) m go = known q (ap (λ o. on_taken o s us (λ u c. Took true c) (λ c. Took false c) (record { tokens = s ∷ us; last = t.span.end })) (mark-hit marks.Star s p)) (go s.span.end (one ⟫ one))

name-no-star : {ts us : List Filled} {n : Identifier} → IsName ts n us → (Misses (mark marks.Star) ts) × (next_is (next_mark marks.LeftParenthesis) ts ≡ false)
name-no-star (g.name {t = t} word w i e) = (word-no-mark marks.Star word t w, at-kind (λ u. next_mark marks.LeftParenthesis u ≡ false) t _ w refl)

pub function-named : (lacks : Bool) {generator : Bool} {t : Filled} {ts us vs ws : List Filled} {n : Identifier} {es : List Parameter} {body : List Statement} {h : Function} → IsStar generator ts us → IsName us n vs → SignatureClaim generator vs ws es body → h ≡ a_function t ts ws generator (Some n) es body → FunctionRead lacks t ts h ws
unfolding function_after_word named_function
function-named lacks {generator = generator} {t = t} {ts = ts} {us = us} {n = n} {h = h} s d c e = then_ c.reads (λ j k r y last. star-then _ last s (name-no-star d).0 (λ end mv.
    let rest = and_then _ (later mv (identifier-exact d end)) (λ end' mv'. signature-then (R k r) generator (Some n) last end' mv' y e) in
    either-choice lacks _ _ (record { tokens = us; last = end }) (λ l. if-no (next_mark marks.LeftParenthesis) _ _ us end (name-no-star d).1 rest) (λ l. rest)))

signature-first : {generator : Bool} {ts us : List Filled} {es : List Parameter} {body : List Statement} → SignatureClaim generator ts us es body → (Misses (mark marks.Star) ts) × (next_is (next_mark marks.LeftParenthesis) ts ≡ true)
signature-first c = (subst (λ z. Misses (mark marks.Star) z) (sym c.first) (mark-no-mark marks.Star marks.LeftParenthesis c.open_ c.parenthesis refl), subst (λ z. next_is (next_mark marks.LeftParenthesis) z ≡ true) (sym c.first) (is-mark-true marks.LeftParenthesis c.open_ c.parenthesis))

pub function-unnamed : {generator : Bool} {t : Filled} {ts us vs : List Filled} {es : List Parameter} {body : List Statement} {h : Function} → IsStar generator ts us → SignatureClaim generator us vs es body → h ≡ a_function t ts vs generator None es body → FunctionRead true t ts h vs
unfolding function_after_word
function-unnamed {generator = generator} {us = us} s c e = then_ c.reads (λ j k r y last. star-then _ last s (signature-first c).0 (λ end mv. if-yes (next_mark marks.LeftParenthesis) _ _ us end (signature-first c).1 (signature-then (R k r) generator None last end mv y e)))
