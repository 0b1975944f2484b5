-- The tokens of a name or of parentheses spell the parameters that they are refined to.
use Rattle.std.proofs.Common.{◌≡◌, ℕ, true, List, [], ◌∷◌, ◌++◌, refl, subst, append-nil}
use Rattle.es6_lexer.specs.declared.token.Punctuator.TheVariants as mark
use Rattle.es6_ast.specs.declared.tree.Expression.{Expression, out-Expression}
use Rattle.es6_ast.specs.declared.tree.Expression.TheVariants as expr
use Rattle.es6_ast.specs.declared.tree.Parameter.{Parameter}
use Rattle.es6_ast.specs.declared.tree.Parameter.TheVariants.{SingleParameter}
use Rattle.es6_ast.specs.declared.tree.Part.{Part}
use Rattle.es6_ast.specs.declared.tree.Argument.TheOpen as layer
use Rattle.es6_ast.specs.declared.tree.Argument.TheOpen.{Expression-F}
use Rattle.es6_ast.specs.declared.settings.Flags.{Flags}
use Rattle.es6_ast.specs.Tokens.{Filled, IsMark}
use Rattle.es6_ast.specs.Grammar as g
use Rattle.es6_ast.specs.Grammar.{with_in, level_sequence, level_assignment, name_target, IsName, IsExpression, IsPart, AreMore, AreParameters, AreArrowParameters}
use Rattle.es6_ast.specs.Spans.{Open}
use Rattle.es6_reading.specs.Refine.{refined_map, refine_part, parameters_of, parts_in, parts_of, rest_parameter, parameters_in, refine_parameters}
use Rattle.es6_reading.specs.Refinements.{IfFits, fits, misfits, IsCover, empty_cover, rest_cover, held_cover}
use Rattle.es6_reading.proofs.Refines.{map-fits, weaken-fits, cons-fits}
use Rattle.es6_reading.proofs.RefineViews.{IsAccess, IsAnother, View, a_name, an_array, an_object, an_access, a_group, an_assignment, a_sequence, another}
use Rattle.es6_reading.proofs.RefineBinds.{view-of}
use Rattle.es6_reading.proofs.RefineTargets.{parts}

pub one-part : (n : ℕ) (f : Flags) {least : ℕ} {ts us : List Filled} (x : Expression) → IsExpression (with_in f) least ts x us → IfFits (λ q. IsPart (with_in f) true ts q us) (refine_part n x)
unfolding refine_part
one-part n f x d = parts true n f _ _ _ x d

-- what follows a parameter: the closing parenthesis, or a comma and more parameters
data Follow (f : Flags) : List Filled → List Parameter → List Filled → Type 0 where
  closed : {close : Filled} {ts : List Filled} → IsMark mark.RightParenthesis close → Follow f (close ∷ ts) [] ts
  go_on : {comma : Filled} {ts us : List Filled} {e : Parameter} {es : List Parameter} → IsMark mark.Comma comma → AreParameters f ts (e ∷ es) us → Follow f (comma ∷ ts) (e ∷ es) us

one-more : {f : Flags} {ts us vs : List Filled} {q : Part} {es : List Parameter} → IsPart f true ts q us → Follow f us es vs → AreParameters f ts (SingleParameter q ∷ es) vs
one-more {q = q} p (closed h) = g.last_parameter q _ p h refl
one-more {q = q} p (go_on {e = e} {es = es} m d) = g.next_parameter q _ e es p m refl d

-- a parameter and those after it
data Leads (f : Flags) : List Filled → Parameter → List Filled → Type 0 where
  leads : {ts us : List Filled} {q : Part} → IsPart f true ts q us → Leads f ts (SingleParameter q) us

lead-fits : (n : ℕ) (f : Flags) {least : ℕ} {ts us : List Filled} (x : Expression) → IsExpression (with_in f) least ts x us → IfFits (λ e. Leads (with_in f) ts e us) (refined_map SingleParameter (refine_part n x))
lead-fits n f x d = map-fits SingleParameter (one-part n f x d) (λ q p. leads p)

lead-on : {f : Flags} {ts us vs : List Filled} {e : Parameter} {es : List Parameter} → Leads f ts e us → Follow f us es vs → AreParameters f ts (e ∷ es) vs
lead-on (leads p) h = one-more p h

more-fit : (n : ℕ) (f : Flags) {ts us vs : List Filled} {xs : List Expression} {tail : List Parameter} → AreMore (with_in f) ts xs us → Follow (with_in f) us tail vs → IfFits (λ es. Follow (with_in f) ts (es ++ tail) vs) (parameters_of n xs)
more-fit n f g.no_more_parts h = fits h
more-fit n f (g.one_more_part y rest m d ds) h = cons-fits (lead-fits n f y d) (more-fit n f ds h) (λ e es p k. go_on m (lead-on p k))

-- the parts that commas separate, of which there may be one alone
data Listed (f : Flags) : List Filled → List Expression → List Filled → Type 0 where
  listed : {ts us vs : List Filled} {least : ℕ} (x : Expression) (xs : List Expression) → IsExpression f least ts x us → AreMore f us xs vs → Listed f ts (x ∷ xs) vs

abbrev pub IsNoSequence : Open Expression-F → Type 0
IsNoSequence (layer.Sequence span first rest) = ⊥
IsNoSequence _ = Unit {0}

pub one-alone : (x : Expression) (l : Open Expression-F) → IsNoSequence l → parts_in x l ≡ x ∷ []
one-alone x (layer.Sequence span first rest) h = absurd h
one-alone x l h = refl

no-sequence-if-access : (l : Open Expression-F) → IsAccess l → IsNoSequence l
no-sequence-if-access (layer.Sequence span first rest) h = h
no-sequence-if-access l h = tt

no-sequence-if-another : (l : Open Expression-F) → IsAnother l → IsNoSequence l
no-sequence-if-another (layer.Sequence span first rest) h = h
no-sequence-if-another l h = tt

listed-alone : {f : Flags} {least : ℕ} {ts us : List Filled} (x : Expression) → IsExpression f least ts x us → IsNoSequence (out-Expression x) → Listed f ts (parts_of x) us
listed-alone x d h = rw (one-alone x (out-Expression x) h) (listed x [] d g.no_more_parts)

listed-by-view : {f : Flags} {least : ℕ} {ts us : List Filled} (x : Expression) → IsExpression f least ts x us → View f ts x us → Listed f ts (parts_of x) us
listed-by-view x d (a_name m d' e) = listed-alone x d (rw (e, expr.outs-Name) tt)
listed-by-view x d (an_array elements m ds e) = listed-alone x d (rw (e, expr.outs-ArrayList) tt)
listed-by-view x d (an_object properties m ds e) = listed-alone x d (rw (e, expr.outs-ObjectList) tt)
listed-by-view x d (an_access c s a) = listed-alone x d (no-sequence-if-access (out-Expression x) a)
listed-by-view x d (a_group held p c q e) = listed-alone x d (rw (e, expr.outs-Group) tt)
listed-by-view x d (an_assignment operator target value c k v e) = listed-alone x d (rw (e, expr.outs-Assign) tt)
listed-by-view x d (a_sequence first y rest c cs e) = rw (e, expr.outs-Sequence) (listed first (y ∷ rest) c cs)
listed-by-view x d (another a) = listed-alone x d (no-sequence-if-another (out-Expression x) a)

held-fits : (n : ℕ) (f : Flags) {ts us vs : List Filled} {xs : List Expression} {tail : List Parameter} → Listed (with_in f) ts xs us → Follow (with_in f) us tail vs → IfFits (λ es. AreParameters (with_in f) ts (es ++ tail) vs) (parameters_of n xs)
held-fits n f (listed x xs d ds) h = cons-fits (lead-fits n f x d) (more-fit n f ds h) (λ e es p k. lead-on p k)

no-parameters : {Q : List Parameter → Type 0} (n : ℕ) (l : Open Expression-F) → IsAnother l → IfFits Q (parameters_in n l)
no-parameters n (layer.Name span name) h = absurd h
no-parameters n (layer.Group span held) h = absurd h
no-parameters n (layer.Cover span held rest) h = absurd h
no-parameters n l h = misfits

no-parameters-if-access : {Q : List Parameter → Type 0} (n : ℕ) (l : Open Expression-F) → IsAccess l → IfFits Q (parameters_in n l)
no-parameters-if-access n (layer.Name span name) h = absurd h
no-parameters-if-access n (layer.Group span held) h = absurd h
no-parameters-if-access n (layer.Cover span held rest) h = absurd h
no-parameters-if-access n l h = misfits

without-tail : {f : Flags} {ts us : List Filled} (es : List Parameter) → AreParameters f ts (es ++ []) us → AreParameters f ts es us
without-tail {f = f} {ts = ts} {us = us} es h = subst (λ ys. AreParameters f ts ys us) (append-nil es) h

parameters-by-view : (n : ℕ) (f : Flags) {ts us : List Filled} (x : Expression) → View f ts x us → IfFits (λ es. AreArrowParameters f ts es us) (parameters_in n (out-Expression x))
parameters-by-view n f x (a_name m d e) = rw (e, expr.outs-Name) (fits (g.one_name m _ d refl))
parameters-by-view n f x (an_array elements m ds e) = rw (e, expr.outs-ArrayList) misfits
parameters-by-view n f x (an_object properties m ds e) = rw (e, expr.outs-ObjectList) misfits
parameters-by-view n f x (an_access c s a) = no-parameters-if-access n (out-Expression x) a
parameters-by-view n f x (a_group held p c q e) = rw (e, expr.outs-Group) (weaken-fits (held-fits n f (listed-by-view held c (view-of c)) (closed q)) (λ es h. g.parenthesized es p (without-tail es h)))
parameters-by-view n f x (an_assignment operator target value c k v e) = rw (e, expr.outs-Assign) misfits
parameters-by-view n f x (a_sequence first y rest c cs e) = rw (e, expr.outs-Sequence) misfits
parameters-by-view n f x (another a) = no-parameters n (out-Expression x) a

pub parameters : (n : ℕ) (f : Flags) (least : ℕ) (ts us : List Filled) (x : Expression) → IsExpression f least ts x us → IfFits (λ es. AreArrowParameters f ts es us) (refine_parameters n x)
unfolding refine_parameters
parameters n f least ts us x d = parameters-by-view n f x (view-of d)

pub covered : (n : ℕ) (f : Flags) (ts us : List Filled) (x : Expression) → IsCover f ts x us → IfFits (λ es. AreArrowParameters f ts es us) (refine_parameters n x)
unfolding refine_parameters
covered n f ts us x (empty_cover span x' p q e) = rw (e, expr.outs-Cover) (fits (g.parenthesized [] p (g.no_parameter q)))
covered n f ts us x (rest_cover span m x' p r d q e) = rw (e, expr.outs-Cover) (fits (g.parenthesized _ p (g.rest_parameter m _ r d q refl)))
covered n f ts us x (held_cover span held m x' p c k r d q e) = rw (e, expr.outs-Cover) (map-fits (λ es. es ++ rest_parameter _ ∷ []) (held-fits n f (listed-by-view held c (view-of c)) (go_on k (g.rest_parameter m _ r d q refl))) (λ es h. g.parenthesized _ p h))
