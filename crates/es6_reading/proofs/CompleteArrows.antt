-- What is derived as parameters before an arrow is read as a name, a group or parentheses that are refined to them, if its parts
-- are read as they are derived.
use Rattle.std.proofs.Common.{◌≡◌, ℕ, ◌≤◌, true, List, [], ◌∷◌, ◌++◌, Some, None, refl, sym, ap, ◌∙◌, arith}
use Rattle.es_text.specs.declared.Span.{Span}
use Rattle.es6_lexer.specs.declared.token.Punctuator.TheVariants as marks
use Rattle.es6_ast.specs.declared.tree.Identifier.{Identifier}
use Rattle.es6_ast.specs.declared.tree.Expression.{Expression, out-Expression}
use Rattle.es6_ast.specs.declared.tree.Expression.TheVariants as expr
use Rattle.es6_ast.specs.declared.tree.Parameter.{Parameter}
use Rattle.es6_ast.specs.declared.tree.Parameter.TheVariants.{SingleParameter, RestParameter}
use Rattle.es6_ast.specs.declared.tree.Part.{Part}
use Rattle.es6_ast.specs.declared.settings.Flags.{Flags}
use Rattle.es6_ast.specs.declared.settings.Role.TheVariants.{Leading}
use Rattle.es6_ast.specs.declared.settings.Shape.{Shape}
use Rattle.es6_ast.specs.declared.settings.Shape.TheVariants.{Bare, Grouped}
use Rattle.es6_ast.specs.Tokens.{Filled, IsMark, IsOnLine, across}
use Rattle.es6_ast.specs.Grammar.{name_target, name_alone, IsName}
use Rattle.es6_reading.specs.Parser.{next_is}
use Rattle.es6_reading.specs.Words.{begins_operand}
use Rattle.es6_reading.specs.Refine.{Fits, refined_map, refine_part, parameters_of, parts_of, refine_parameters}
use Rattle.es6_reading.specs.Expressions.{sequenced, parameters_before}
use Rattle.es6_reading.proofs.RefineParameters.{IsNoSequence, one-alone}
use Rattle.es6_reading.proofs.Enough.{Sure, sure-then, sure-both, map-refined, cons-refined}
use Rattle.es6_reading.proofs.CompleteTokens.{parenthesis-begins}
use Rattle.es6_reading.proofs.CompleteLevels.{reading, HeadReads, head-chain, chain-update, update-power, no-unary, power-conditional}
use Rattle.es6_reading.proofs.CompleteClaims.{unary-if-operand, stops-if}
use Rattle.es6_reading.proofs.CompleteAssignments.{ParametersClaim}
use Rattle.es6_reading.proofs.CompleteGroups.{HeldClaim, held-one, held-next, group-heads}
use Rattle.es6_reading.proofs.CompleteCovers.{BeforeRestClaim, before-rest-one, before-rest-next, empty_claim, rest_claim, held_claim, cover-claim}
use Rattle.es6_reading.proofs.CompleteDeclarations.{bare-head, name-operand}
use Rattle.es6_reading.proofs.CompletePatterns.{PartRead}

-- ## Parts that commas separate

single-sure : (f : Flags) {ts us : List Filled} {q : Part} {e : Parameter} → (x : PartRead true f ts us q) → e ≡ SingleParameter q → Sure (λ n. refined_map SingleParameter (refine_part n x.value)) e
unfolding refine_part
single-sure f x k = sure-then (x.sure true (λ e. e)) (λ n i. map-refined SingleParameter i k)

-- after the opening parenthesis
pub data ListRead (f : Flags) : List Filled → List Parameter → List Filled → Type 0 where
  empty_list : {close : Filled} {ts : List Filled} → IsMark marks.RightParenthesis close → ListRead f (close ∷ ts) [] ts
  rest_alone : {t close : Filled} {ts us : List Filled} {e : Parameter} (n : Identifier) → IsMark marks.Ellipsis t → IsName ts n (close ∷ us) → IsMark marks.RightParenthesis close → e ≡ RestParameter (across (t ∷ ts) (close ∷ us)) (name_target n) → ListRead f (t ∷ ts) (e ∷ []) us
  held_list : {close : Filled} {ts us : List Filled} {es : List Parameter} (first : Expression) (more : List Expression) → HeldClaim f ts (close ∷ us) first more → IsNoSequence (out-Expression first) → IsMark marks.RightParenthesis close → Sure (λ n. parameters_of n (first ∷ more)) es → ListRead f ts es us
  held_and_rest : {m t close : Filled} {ts us vs : List Filled} {ds es : List Parameter} (first : Expression) (more : List Expression) (n : Identifier) (e : Parameter) → BeforeRestClaim f ts m (t ∷ us) first more → IsNoSequence (out-Expression first) → IsMark marks.Ellipsis t → IsName us n (close ∷ vs) → IsMark marks.RightParenthesis close
      → e ≡ RestParameter (across (t ∷ us) (close ∷ vs)) (name_target n) → Sure (λ n. parameters_of n (first ∷ more)) es → ds ≡ es ++ e ∷ [] → ListRead f ts ds vs

pub last-list : (f : Flags) {close : Filled} {ts us : List Filled} {q : Part} {e : Parameter} → PartRead true f ts (close ∷ us) q → IsMark marks.RightParenthesis close → e ≡ SingleParameter q → ListRead f ts (e ∷ []) us
last-list f x h k = held_list x.value [] (held-one f x.claim h) x.no_sequence h (sure-then (single-sure f x k) (λ n i. cons-refined i refl))

pub next-list : (f : Flags) {comma : Filled} {ts us vs : List Filled} {q : Part} {e d : Parameter} {es : List Parameter} → PartRead true f ts (comma ∷ us) q → IsMark marks.Comma comma → e ≡ SingleParameter q → ListRead f us (d ∷ es) vs → ListRead f ts (e ∷ d ∷ es) vs
next-list f {e = e} x m k (rest_alone {e = r} n p d q i) = held_and_rest x.value [] n r (before-rest-one f x.claim m p) x.no_sequence p d q i (sure-then (single-sure f x k) (λ n j. cons-refined j refl)) refl
next-list f {e = e} x m k (held_list first more c o h s) = held_list x.value (first ∷ more) (held-next f x.claim m c) x.no_sequence h (sure-both (single-sure f x k) s (λ n i j. cons-refined i j))
next-list f {e = e} x m k (held_and_rest first more n r c o p d q i s j) = held_and_rest x.value (first ∷ more) n r (before-rest-next f x.claim m c) x.no_sequence p d q i (sure-both (single-sure f x k) s (λ n i j. cons-refined i j)) (ap (λ ys. e ∷ ys) j)

-- ## What stands before an arrow

heads-claim : (f : Flags) (shape : Shape) {ts us : List Filled} {x : Expression} {es : List Parameter} → next_is begins_operand ts ≡ true → HeadReads f Leading (reading x shape) ts us → (enough : ℕ) → ((n : ℕ) → enough ≤ n → parameters_before n shape x ≡ Fits es) → ParametersClaim f ts us es
heads-claim f shape {ts = ts} {us = us} {x = x} o h enough becomes = record {
  value = x;
  shape = shape;
  begins = unary-if-operand ts o;
  reads = λ c. power-conditional f (reading x shape) ts us (update-power f Leading (reading x shape) ts us
      (chain-update f Leading (reading x shape) ts us (head-chain f Leading (reading x shape) ts us h (stops-if f 2 us (omega arith) c)) o (c.after (omega arith))) (no-unary ts o) (c.raised (omega arith))) c;
  enough = enough;
  becomes = becomes;
}

pub name-parameter : (f : Flags) {ts us : List Filled} {n : Identifier} {e : Parameter} → IsName ts n us → e ≡ SingleParameter (name_alone n) → ParametersClaim f ts us (e ∷ [])
unfolding refine_parameters
name-parameter f d k = heads-claim f Bare (name-operand d) (bare-head f Leading d) 0 (λ m l. rw (k, expr.outs-Name) refl)

sequenced-parts : (first : Expression) (more : List Expression) (span : Span) → IsNoSequence (out-Expression first) → parts_of (sequenced first more span) ≡ first ∷ more
sequenced-parts first [] span h = one-alone first (out-Expression first) h
sequenced-parts first (y ∷ rest) span h = rw expr.outs-Sequence refl

group-parameters : (n : ℕ) (span : Span) (held : Expression) (xs : List Expression) → parts_of held ≡ xs → refine_parameters n (expr.Group span held) ≡ parameters_of n xs
unfolding refine_parameters
group-parameters n span held xs h = rw expr.outs-Group (ap (λ ys. parameters_of n ys) h)

empty-parameters : (n : ℕ) (span : Span) → refine_parameters n (expr.Cover span None None) ≡ Fits []
unfolding refine_parameters
empty-parameters n span = rw expr.outs-Cover refl

rest-parameters : (n : ℕ) (span inner : Span) (name : Identifier) → refine_parameters n (expr.Cover span None (Some (record { span = inner; name = name }))) ≡ Fits (RestParameter inner (name_target name) ∷ [])
unfolding refine_parameters
rest-parameters n span inner name = rw expr.outs-Cover refl

held-parameters : (n : ℕ) (span inner : Span) (held : Expression) (xs : List Expression) (name : Identifier) (es : List Parameter) → parts_of held ≡ xs → parameters_of n xs ≡ Fits es
    → refine_parameters n (expr.Cover span (Some held) (Some (record { span = inner; name = name }))) ≡ Fits (es ++ RestParameter inner (name_target name) ∷ [])
unfolding refine_parameters
held-parameters n span inner held xs name es h k = rw (expr.outs-Cover, h, k) refl

pub list-parameters : (f : Flags) {o a : Filled} {ts us : List Filled} {es : List Parameter} → IsMark marks.LeftParenthesis o → ListRead f ts es (a ∷ us) → IsMark marks.Arrow a → IsOnLine a → ParametersClaim f (o ∷ ts) (a ∷ us) es
list-parameters f {o = o} p (empty_list {close = c} q) h l = cover-claim f (empty_claim (record { begin = 0; end = 0 }) p q refl) h l 0 (λ n m. empty-parameters n _)
list-parameters f {o = o} p (rest_alone n r d q k) h l = cover-claim f (rest_claim (record { begin = 0; end = 0 }) p r d q refl) h l 0 (λ i m. rest-parameters i _ _ n ∙ ap (λ z. Fits (z ∷ [])) (sym k))
list-parameters f {o = o} {a = a} {us = us} p (held_list {close = c} {ts = ts} first more d n q s) h l =
    let span = across ts (c ∷ a ∷ us) in
    heads-claim f Grouped (parenthesis-begins o p) (group-heads f p d q refl refl Leading) s.enough (λ i m. group-parameters i _ (sequenced first more span) (first ∷ more) (sequenced-parts first more span n) ∙ s.refined i m)
list-parameters f {o = o} {es = ds} p (held_and_rest {m = c} {t = t} {ts = ts} {us = vs} {es = es} first more n e d w r nm q k s j) h l =
    let span = across ts (c ∷ t ∷ vs) in
    cover-claim f (held_claim (record { begin = 0; end = 0 }) p d refl (sequenced-parts first more span w) r nm q refl) h l s.enough
    (λ i m. held-parameters i _ _ (sequenced first more span) (first ∷ more) n es (sequenced-parts first more span w) (s.refined i m) ∙ ap (λ z. Fits (es ++ z ∷ [])) (sym k) ∙ ap Fits (sym j))
