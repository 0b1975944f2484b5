-- What is spelled as parameters of an arrow is spelled as a name or a group, too, or as parentheses that only such parameters
-- have, and that is refined to them.
use Rattle.std.proofs.Common.{◌≡◌, ◌⊎◌, inl, inr, true, List, [], ◌∷◌, ◌++◌, Some, None, refl, ap, arith}
use Rattle.es6_lexer.specs.declared.token.Punctuator.TheVariants as mark
use Rattle.es6_ast.specs.declared.tree.Identifier.{Identifier}
use Rattle.es6_ast.specs.declared.tree.Expression.{Expression, out-Expression}
use Rattle.es6_ast.specs.declared.tree.Expression.TheVariants as expr
use Rattle.es6_ast.specs.declared.tree.Parameter.{Parameter}
use Rattle.es6_ast.specs.declared.tree.Parameter.TheVariants.{SingleParameter, RestParameter}
use Rattle.es6_ast.specs.declared.tree.Part.{Part}
use Rattle.es6_ast.specs.declared.settings.Flags.{Flags}
use Rattle.es6_ast.specs.Tokens.{Filled, IsMark, across}
use Rattle.es6_ast.specs.Grammar as g
use Rattle.es6_ast.specs.Grammar.{with_in, level_sequence, level_assignment, level_primary, name_target, IsName, IsExpression, AreMore, AreParameters, AreArrowParameters}
use Rattle.es6_reading.specs.Refine.{refined_map, refine_part, parameters_of, parts_of, refine_parameters}
use Rattle.es6_reading.specs.Refinements.{IsCover, empty_cover, rest_cover, held_cover, ComesFrom}
use Rattle.es6_reading.proofs.RefineParameters.{IsNoSequence, one-alone}
use Rattle.es6_reading.proofs.Enough.{Sure, sure-then, sure-both, map-refined, cons-refined}
use Rattle.es6_reading.proofs.Covers.{lower, PartFrom, part-from}

-- ## Lists of expressions

-- a part as a single parameter
single-refined : {f : Flags} {ts us : List Filled} {q : Part} {e : Parameter} → (x : PartFrom true f ts us q) → e ≡ SingleParameter q → Sure (λ n. refined_map SingleParameter (refine_part n x.value)) e
unfolding refine_part
single-refined x k = sure-then x.sure (λ n i. map-refined SingleParameter i k)

-- expressions that commas separate, and parameters
record ListFrom (f : Flags) (ts us : List Filled) (es : List Parameter) : Type 0 where
  first : Expression
  more : List Expression
  middle : List Filled
  derived : IsExpression f level_assignment ts first middle
  no_sequence : IsNoSequence (out-Expression first)
  rest : AreMore f middle more us
  sure : Sure (λ n. parameters_of n (first ∷ more)) es

list-one : {f : Flags} {ts us : List Filled} {q : Part} {e : Parameter} → PartFrom true f ts us q → e ≡ SingleParameter q → ListFrom (with_in f) ts us (e ∷ [])
list-one {us = us} x k = record { first = x.value; more = []; middle = us; derived = x.derived; no_sequence = x.no_sequence; rest = g.no_more_parts; sure = sure-then (single-refined x k) (λ n i. cons-refined i refl) }

list-more : {f : Flags} {comma : Filled} {ts us vs : List Filled} {q : Part} {e : Parameter} {es : List Parameter} → PartFrom true f ts (comma ∷ us) q → IsMark mark.Comma comma → e ≡ SingleParameter q → ListFrom (with_in f) us vs es → ListFrom (with_in f) ts vs (e ∷ es)
list-more {comma = comma} {us = us} x m k xs = record {
  first = x.value;
  more = xs.first ∷ xs.more;
  middle = comma ∷ us;
  derived = x.derived;
  no_sequence = x.no_sequence;
  rest = g.one_more_part xs.first xs.more m xs.derived xs.rest;
  sure = sure-both (single-refined x k) xs.sure (λ n i j. cons-refined i j);
}

-- the whole list as one expression
record HeldFrom (f : Flags) (ts us : List Filled) (es : List Parameter) : Type 0 where
  value : Expression
  derived : IsExpression f level_sequence ts value us
  sure : Sure (λ n. parameters_of n (parts_of value)) es

hold : {f : Flags} {ts us vs : List Filled} {es : List Parameter} (first : Expression) (more : List Expression) → IsExpression f level_assignment ts first us → IsNoSequence (out-Expression first) → AreMore f us more vs → Sure (λ n. parameters_of n (first ∷ more)) es → HeldFrom f ts vs es
hold first [] d h g.no_more_parts s = record { value = first; derived = lower (omega arith) d; sure = rw (one-alone first (out-Expression first) h) s }
hold {ts = ts} {vs = vs} first (y ∷ rest) d h ds s = record { value = expr.Sequence (across ts vs) first (y ∷ rest); derived = g.at_level level_sequence _ (omega arith) (g.sequence first y rest _ d ds refl); sure = rw expr.outs-Sequence s }

held-from : {f : Flags} {ts us : List Filled} {es : List Parameter} → ListFrom f ts us es → HeldFrom f ts us es
held-from l = hold l.first l.more l.derived l.no_sequence l.rest l.sure

-- ## Parameters

data ParametersFrom (f : Flags) : List Filled → List Parameter → List Filled → Type 0 where
  nothing_from : {close : Filled} {ts : List Filled} → IsMark mark.RightParenthesis close → ParametersFrom f (close ∷ ts) [] ts
  rest_from : {t close : Filled} {ts us : List Filled} {e : Parameter} (n : Identifier) → IsMark mark.Ellipsis t → IsName ts n (close ∷ us) → IsMark mark.RightParenthesis close → e ≡ RestParameter (across (t ∷ ts) (close ∷ us)) (name_target n) → ParametersFrom f (t ∷ ts) (e ∷ []) us
  list_from : {close : Filled} {ts us : List Filled} {e : Parameter} {es : List Parameter} → ListFrom f ts (close ∷ us) (e ∷ es) → IsMark mark.RightParenthesis close → ParametersFrom f ts (e ∷ es) us
  list_and_rest_from : {comma t close : Filled} {ts us vs : List Filled} {d : Parameter} {ds es : List Parameter} (e : Parameter) (n : Identifier) → ListFrom f ts (comma ∷ t ∷ us) es → IsMark mark.Comma comma → IsMark mark.Ellipsis t → IsName us n (close ∷ vs) → IsMark mark.RightParenthesis close
      → e ≡ RestParameter (across (t ∷ us) (close ∷ vs)) (name_target n) → d ∷ ds ≡ es ++ e ∷ [] → ParametersFrom f ts (d ∷ ds) vs

more-from : {f : Flags} {comma : Filled} {ts us vs : List Filled} {q : Part} {e d : Parameter} {es : List Parameter} → PartFrom true f ts (comma ∷ us) q → IsMark mark.Comma comma → e ≡ SingleParameter q → ParametersFrom (with_in f) us (d ∷ es) vs → ParametersFrom (with_in f) ts (e ∷ d ∷ es) vs
more-from x m k (rest_from {e = r} n p d q i) = list_and_rest_from r n (list-one x k) m p d q i refl
more-from x m k (list_from l q) = list_from (list-more x m k l) q
more-from {e = e} x m k (list_and_rest_from r n l c p d q i j) = list_and_rest_from r n (list-more x m k l) c p d q i (ap (λ ys. e ∷ ys) j)

parameters-from : (f : Flags) {ts us : List Filled} {es : List Parameter} → AreParameters (with_in f) ts es us → ParametersFrom (with_in f) ts es us
parameters-from f (g.no_parameter h) = nothing_from h
parameters-from f (g.rest_parameter n e p d q k) = rest_from n p d q k
parameters-from f (g.last_parameter q e d h k) = list_from (list-one (part-from true f d) k) h
parameters-from f (g.next_parameter q e d es p m k ds) = more-from (part-from true f p) m k (parameters-from f ds)

-- ## Arrow parameters

abbrev ArrowFrom : Flags → List Filled → List Filled → List Parameter → Type 0
ArrowFrom f ts us es = ComesFrom (λ x. IsExpression f level_primary ts x us ⊎ IsCover f ts x us) refine_parameters es

name-parameter : {f : Flags} {ts us : List Filled} {n : Identifier} {e : Parameter} → IsName ts n us → e ≡ SingleParameter (g.name_alone n) → ArrowFrom f ts us (e ∷ [])
unfolding refine_parameters
name-parameter {n = n} d k = record { value = expr.Name n.span n.name; spelled = inl (g.at_level level_primary _ (omega arith) (g.reference n _ d refl)); enough = 0; becomes = λ m l. rw (k, expr.outs-Name) refl }

group-parameters : {f : Flags} {open_ close : Filled} {ts us : List Filled} {es : List Parameter} → IsMark mark.LeftParenthesis open_ → HeldFrom (with_in f) ts (close ∷ us) es → IsMark mark.RightParenthesis close → ArrowFrom f (open_ ∷ ts) us es
unfolding refine_parameters
group-parameters {open_ = o} {ts = ts} {us = us} p h q = record {
  value = expr.Group (across (o ∷ ts) us) h.value;
  spelled = inl (g.at_level level_primary _ (omega arith) (g.group h.value _ p h.derived q refl));
  enough = h.sure.enough;
  becomes = λ n l. rw expr.outs-Group (h.sure.refined n l);
}

rest-parameters : {f : Flags} {open_ comma t close : Filled} {ts us vs : List Filled} {e : Parameter} {es : List Parameter} {n : Identifier} → IsMark mark.LeftParenthesis open_ → HeldFrom (with_in f) ts (comma ∷ t ∷ us) es → IsMark mark.Comma comma → IsMark mark.Ellipsis t → IsName us n (close ∷ vs) → IsMark mark.RightParenthesis close
    → e ≡ RestParameter (across (t ∷ us) (close ∷ vs)) (name_target n) → ArrowFrom f (open_ ∷ ts) vs (es ++ e ∷ [])
unfolding refine_parameters
rest-parameters {open_ = o} {t = t} {close = close} {ts = ts} {us = us} {vs = vs} {es = es} {n = n} p h m r d q k = record {
  value = expr.Cover (across (o ∷ ts) vs) (Some h.value) (Some (record { span = across (t ∷ us) (close ∷ vs); name = n }));
  spelled = inr (held_cover _ h.value n _ p h.derived m r d q refl);
  enough = h.sure.enough;
  becomes = λ i l. rw expr.outs-Cover (map-refined (λ ys. ys ++ RestParameter (across (t ∷ us) (close ∷ vs)) (name_target n) ∷ []) (h.sure.refined i l) (ap (λ e. es ++ e ∷ []) k));
}

from-parameters : {f : Flags} {open_ : Filled} {ts us : List Filled} {es : List Parameter} → IsMark mark.LeftParenthesis open_ → ParametersFrom (with_in f) ts es us → ArrowFrom f (open_ ∷ ts) us es
unfolding refine_parameters
from-parameters {open_ = o} p (nothing_from {close = close} {ts = ts} q) = record { value = expr.Cover (across (o ∷ close ∷ ts) ts) None None; spelled = inr (empty_cover _ _ p q refl); enough = 0; becomes = λ n l. rw expr.outs-Cover refl }
from-parameters {open_ = o} p (rest_from {t = t} {close = close} {ts = ts} {us = us} n r d q k) = record {
  value = expr.Cover (across (o ∷ t ∷ ts) us) None (Some (record { span = across (t ∷ ts) (close ∷ us); name = n }));
  spelled = inr (rest_cover _ n _ p r d q refl);
  enough = 0;
  becomes = λ m l. rw (k, expr.outs-Cover) refl;
}
from-parameters p (list_from l q) = group-parameters p (held-from l) q
from-parameters p (list_and_rest_from e n l m r d q k j) = rw j (rest-parameters p (held-from l) m r d q k)

pub arrow-from : (f : Flags) (ts us : List Filled) (es : List Parameter) → AreArrowParameters f ts es us → ComesFrom (λ x. IsExpression f level_primary ts x us ⊎ IsCover f ts x us) refine_parameters es
arrow-from f ts us es (g.one_name n e d k) = name-parameter d k
arrow-from f ts us es (g.parenthesized es' p d) = from-parameters p (parameters-from f d)
