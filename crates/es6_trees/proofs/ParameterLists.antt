-- Parameters that are built, one at a time.
use Rattle.std.proofs.Common.{◌≡◌, ℕ, ◌+◌, true, List, [], ◌∷◌, ◌++◌, reverse, Option, Some, None, sym, ap, subst, ◌∙◌}
use Rattle.es_text.specs.declared.Span.{Span}
use Rattle.es6_ast.specs.declared.tree.Expression.{Expression, out-Expression}
use Rattle.es6_ast.specs.declared.tree.Expression.TheVariants as expr
use Rattle.es6_ast.specs.declared.tree.Part.{Part}
use Rattle.es6_ast.specs.declared.tree.Parameter.{Parameter}
use Rattle.es6_ast.specs.declared.tree.Parameter.TheVariants.{SingleParameter}
use Rattle.es6_ast.specs.declared.tree.Rest.{Rest}
use Rattle.es6_ast.specs.declared.tree.Argument.TheOpen as layer
use Rattle.es6_ast.specs.Grammar.{name_alone}
use Rattle.es6_reading.specs.Refine.{refine_part, parameters_in, parts_of, refine_parameters, rest_parameter}
use Rattle.es6_trees.specs.Built.{Becomes, fits_so, IsPartOf, IsParameterOf, AreParametersOf, IsRestedOf, rest_alone, rest_after}
use Rattle.es6_trees.proofs.Becoming.{becomes-map, becomes-cons, layer-of}
use Rattle.es6_trees.proofs.Putting.{Added, added}
use Rattle.es6_trees.proofs.Taking.{back_first}

pub single_parameter_is : {n : ℕ} {x : Expression} {q : Part} → IsPartOf n x q → IsParameterOf n x (SingleParameter q)
single_parameter_is h = record { becomes = becomes-map SingleParameter (h.becomes true) }

pub no_parameters : (n : ℕ) → AreParametersOf n [] []
no_parameters n = record { becomes = fits_so }

pub more_parameters : {n : ℕ} {x : Expression} {xs : List Expression} {e : Parameter} {es : List Parameter} → IsParameterOf n x e → AreParametersOf n xs es → AreParametersOf n (x ∷ xs) (e ∷ es)
unfolding refine_part
more_parameters h hs = record { becomes = becomes-cons h.becomes hs.becomes }

-- the first is added to the others, which were taken from their end
pub first_and_more : (n : ℕ) (x : Expression) (xs : List Expression) (back more all : List Parameter) → AreParametersOf n xs (reverse back) → Added (IsParameterOf n x) back more → all ≡ reverse more → AreParametersOf n (x ∷ xs) all
first_and_more n x xs back more all hs (added e h m) k =
    subst (λ es. AreParametersOf n (x ∷ xs) es) (back_first back e ∙ sym (ap reverse m) ∙ sym k) (more_parameters h hs)

-- ## Names and parentheses

pub one_name_is : (n : ℕ) {x : Expression} {span : Span} {name : List ℕ} → x ≡ expr.Name span name → Becomes (refine_parameters n x) (SingleParameter (name_alone (record { span = span; name = name })) ∷ [])
unfolding refine_parameters
one_name_is n {x = x} {span = span} {name = name} e =
    let o : out-Expression x ≡ layer.Name span name = layer-of e (expr.outs-Name span name) in
    rw o fits_so

pub group_is : (n : ℕ) {x : Expression} (held : Expression) {span : Span} {es : List Parameter} → x ≡ expr.Group span held → AreParametersOf n (parts_of held) es → Becomes (refine_parameters n x) es
unfolding refine_parameters
group_is n {x = x} held {span = span} e h =
    let o : out-Expression x ≡ layer.Group span held = layer-of e (expr.outs-Group span held) in
    rw o h.becomes

pub cover_is : (n : ℕ) {x : Expression} {span : Span} (held : Option Expression) (rest : Option Rest) {es : List Parameter} → x ≡ expr.Cover span held rest → Becomes (parameters_in n (layer.Cover span held rest)) es → Becomes (refine_parameters n x) es
unfolding refine_parameters
cover_is n {x = x} {span = span} held rest e h =
    let o : out-Expression x ≡ layer.Cover span held rest = layer-of e (expr.outs-Cover span held rest) in
    rw o h

pub rested_is : (n : ℕ) (span : Span) (held : Option Expression) (last : Option Rest) (rest : Rest) (es : List Parameter) → last ≡ Some rest → IsRestedOf n held rest es → Becomes (parameters_in n (layer.Cover span held last)) es
rested_is n span held last rest es s (rest_alone e k) = rw (s, e, k) fits_so
rested_is n span held last rest es s (rest_after x ds e h k) = rw (s, e, k) (becomes-map (λ ys. ys ++ rest_parameter rest ∷ []) h.becomes)

pub bare_is : (n : ℕ) (span : Span) (held : Option Expression) (last : Option Rest) (es : List Parameter) → last ≡ None → held ≡ None → es ≡ [] → Becomes (parameters_in n (layer.Cover span held last)) es
bare_is n span held last es s e k = rw (s, e, k) fits_so
