-- What is built of expressions, put together along their parts.
use Rattle.std.proofs.Common.{◌≡◌, ℕ, zero, suc, Bool, true, false, List, [], ◌∷◌, Some, None, refl, sym, ap, subst, ◌∙◌}
use Rattle.std.proofs.lemmas.Bool.{true≢false}
use Rattle.es_text.specs.declared.Span.{Span}
use Rattle.es6_ast.specs.declared.operators.AssignOperator.TheVariants as assign
use Rattle.es6_ast.specs.declared.tree.Expression.{Expression, out-Expression}
use Rattle.es6_ast.specs.declared.tree.Expression.TheVariants as expr
use Rattle.es6_ast.specs.declared.tree.Pattern.{Pattern, out-Pattern}
use Rattle.es6_ast.specs.declared.tree.Pattern.TheVariants as pattern
use Rattle.es6_ast.specs.declared.tree.Part.{Part}
use Rattle.es6_ast.specs.declared.tree.ArrayPart.{ArrayPart}
use Rattle.es6_ast.specs.declared.tree.ArrayPart.TheVariants.{SkippedPart, SinglePart, RestPart}
use Rattle.es6_ast.specs.declared.tree.ObjectPart.{ObjectPart}
use Rattle.es6_ast.specs.declared.tree.ObjectPart.TheVariants.{NamedPart, KeyedPart}
use Rattle.es6_ast.specs.declared.tree.Element.{Element, out-Element}
use Rattle.es6_ast.specs.declared.tree.Element.TheVariants as element
use Rattle.es6_ast.specs.declared.tree.Argument.TheVariants as argument
use Rattle.es6_ast.specs.declared.tree.Property.{Property}
use Rattle.es6_ast.specs.declared.tree.Property.TheVariants as property
use Rattle.es6_ast.specs.declared.tree.Key.{Key}
use Rattle.es6_ast.specs.declared.tree.Argument.TheOpen as layer
use Rattle.es6_ast.specs.declared.tree.Argument.TheOpen.{Expression-F, Pattern-F}
use Rattle.es6_ast.specs.declared.tree.Identifier.{Identifier}
use Rattle.es6_ast.specs.Grammar.{name_alone, name_target}
use Rattle.es6_ast.specs.Spans.{Open, span_of}
use Rattle.es6_reading.specs.Refine.{Refined, Fits, Misfit, TooNested, refined_map, refined_cons, fits_if, is_name_in, is_name, begin_of_expression, bound, alone, binds_names, made_part, target_of_default, part_in, rest_of, is_last, element_part, target_in, refine}
use Rattle.es6_trees.specs.Built.{Becomes, fits_so, misfits, too_nested, HasNoDefault, IsPatternOf, IsPartOf, IsTargetOf, IsArrayPartOf, AreArrayPartsOf, IsObjectPartOf, AreObjectPartsOf}
use Rattle.es6_refine.specs.Fitting.{part_of}

pub becomes-map : {A B : Type 0} {r : Refined A} {x : A} (f : A → B) → Becomes r x → Becomes (refined_map f r) (f x)
becomes-map f fits_so = fits_so
becomes-map f misfits = misfits
becomes-map f too_nested = too_nested

pub becomes-cons : {A : Type 0} {r : Refined A} {rs : Refined (List A)} {x : A} {xs : List A} → Becomes r x → Becomes rs xs → Becomes (refined_cons r rs) (x ∷ xs)
becomes-cons fits_so h = becomes-map _ h
becomes-cons misfits h = misfits
becomes-cons too_nested h = too_nested

-- whatever it is made of
pub becomes-always : {A B : Type 0} (r : Refined A) (y : B) → Becomes (refined_map (λ u. y) r) y
becomes-always (Fits x) y = fits_so
becomes-always (Misfit at) y = misfits
becomes-always TooNested y = too_nested

becomes-if : {A : Type 0} (b : Bool) (at : ℕ) (x y : A) → (b ≡ true → y ≡ x) → Becomes (refined_map (λ u. x) (fits_if b at)) y
becomes-if true at x y h = rw (h refl) fits_so
becomes-if false at x y h = misfits

pub layer-of : {x y : Expression} {l : Open Expression-F} → ◌≡◌ {A = Expression} x y → out-Expression y ≡ l → out-Expression x ≡ l
layer-of e o = ap out-Expression e ∙ o

no-name : (x : Expression) {l : Open Expression-F} → out-Expression x ≡ l → is_name_in l ≡ false → is_name x ≡ true → ⊥
no-name x o h k = true≢false (sym k ∙ ap is_name_in o ∙ h)

-- ## Literals, and expressions by themselves

pub array_pattern_is : (d n : ℕ) {x : Expression} {span : Span} {elements : List Element} {comma : Bool} {parts : List ArrayPart} → d ≡ suc n → x ≡ expr.ArrayList span elements comma → AreArrayPartsOf n elements parts
    → IsPatternOf d x (pattern.ArrayPattern span parts)
array_pattern_is d n {x = x} {span = span} {elements = elements} {comma = comma} deep e h =
    let o : out-Expression x ≡ layer.ArrayList span elements comma = layer-of e (expr.outs-ArrayList span elements comma) in
    record { becomes = λ b. rw (deep, o) (becomes-map (pattern.ArrayPattern span) (h.becomes b comma)); named = λ k. absurd (no-name x o refl k) }

pub object_pattern_is : (d n : ℕ) {x : Expression} {span : Span} {properties : List Property} {parts : List ObjectPart} → d ≡ suc n → x ≡ expr.ObjectList span properties → AreObjectPartsOf n properties parts
    → IsPatternOf d x (pattern.ObjectPattern span parts)
object_pattern_is d n {x = x} {span = span} {properties = properties} deep e h =
    let o : out-Expression x ≡ layer.ObjectList span properties = layer-of e (expr.outs-ObjectList span properties) in
    record { becomes = λ b. rw (deep, o) (becomes-map (pattern.ObjectPattern span) (h.becomes b)); named = λ k. absurd (no-name x o refl k) }

-- no array or object literal
abbrev pub IsAlone : Open Expression-F → Type 0
IsAlone (layer.ArrayList span elements comma) = ⊥
IsAlone (layer.ObjectList span properties) = ⊥
IsAlone _ = Unit {0}

target-alone : (b : Bool) (n : ℕ) (t : Expression → Refined Pattern) (p : Expression → Refined Part) (x : Expression) (l : Open Expression-F) → IsAlone l → target_in b n t p x l ≡ alone b n x
target-alone b n t p x (layer.ArrayList span elements comma) h = absurd h
target-alone b n t p x (layer.ObjectList span properties) h = absurd h
target-alone b n t p x l h = refl

becomes-alone : (b : Bool) (n : ℕ) (x : Expression) → Becomes (alone b n x) (pattern.Target x)
becomes-alone true n x = becomes-always (bound x) (pattern.Target x)
becomes-alone false n x = becomes-always _ (pattern.Target x)

pub alone_pattern_is : (d n : ℕ) (x : Expression) (p : Pattern) → d ≡ suc n → IsAlone (out-Expression x) → p ≡ pattern.Target x → IsPatternOf d x p
alone_pattern_is d n x p deep h e = record {
  becomes = λ b. rw (deep, e, target-alone b n (refine b n) (part_of b n) x (out-Expression x) h) (becomes-alone b n x);
  named = λ k. e;
}

-- ## Before a default

pub target_is : (n : ℕ) {p q : Pattern} {x : Expression} → p ≡ pattern.Target x → IsPatternOf n x q → IsTargetOf n p q
target_is n {p = p} {q = q} {x = x} e h =
    let o : out-Pattern p ≡ layer.Target x = ap out-Pattern e ∙ pattern.outs-Target x in
    record { becomes = at n h o }
  where
    at : (n : ℕ) → IsPatternOf n x q → out-Pattern p ≡ layer.Target x → (b : Bool) → Becomes (target_of_default b n (refine b n) p (out-Pattern p)) q
    at n h o false = rw o (h.becomes false)
    at zero h o true = too_nested
    at (suc n) h o true = rw o (becomes-if (is_name x) (begin_of_expression x) p q (λ k. h.named k ∙ sym e))

-- no expression
abbrev pub IsLiteral : Open Pattern-F → Type 0
IsLiteral (layer.Target x) = ⊥
IsLiteral _ = Unit {0}

itself-by : (b : Bool) (n : ℕ) (t : Expression → Refined Pattern) (p : Pattern) (l : Open Pattern-F) → IsLiteral l → Becomes (target_of_default b n t p l) p
itself-by true n t p l h = becomes-always (binds_names n p) p
itself-by false n t p (layer.Target x) h = absurd h
itself-by false n t p l h = fits_so

pub literal_is : (n : ℕ) (p : Pattern) → IsLiteral (out-Pattern p) → IsTargetOf n p p
literal_is n p h = record { becomes = λ b. itself-by b n (refine b n) p (out-Pattern p) h }

-- ## Parts

pub defaulted_is : {n : ℕ} {x : Expression} {span : Span} {target q : Pattern} (value : Expression) → x ≡ expr.Assign span assign.Assign target value → IsTargetOf n target q → IsPartOf n x (made_part span (Some value) q)
defaulted_is {n = n} {x = x} {span = span} {target = target} value e h =
    let o : out-Expression x ≡ layer.Assign span assign.Assign target value = layer-of e (expr.outs-Assign span assign.Assign target value) in
    record { becomes = λ b. rw o (becomes-map (made_part span (Some value)) (h.becomes b)) }

part-alone : (b : Bool) (n : ℕ) (t : Expression → Refined Pattern) (x : Expression) (l : Open Expression-F) → HasNoDefault l → part_in b n t x l ≡ refined_map (made_part (span_of x) None) (t x)
part-alone b n t x (layer.Assign span assign.Assign target value) h = absurd h
part-alone b n t x l h = refl

pub single_part_is : (n : ℕ) {x : Expression} {p : Pattern} → HasNoDefault (out-Expression x) → IsPatternOf n x p → IsPartOf n x (made_part (span_of x) None p)
single_part_is n {x = x} h k = record { becomes = λ b. rw (part-alone b n (refine b n) x (out-Expression x) h) (becomes-map (made_part (span_of x) None) (k.becomes b)) }

pub alone_part_is : (n : ℕ) (x y : Expression) (span : Span) (p : Pattern) → (◌≡◌ {A = Expression} x y) × HasNoDefault (out-Expression x) → ◌≡◌ {A = Span} span (span_of y) → IsPatternOf n y p → IsPartOf n x (made_part span None p)
alone_part_is n x y span p h s k =
    rw s (subst (λ z. IsPartOf n x (made_part (span_of z) None p)) h.0 (single_part_is n h.1 (subst (λ z. IsPatternOf n z p) (sym h.0) k)))

-- ## Elements

pub hole_is : (n : ℕ) {e : Element} → e ≡ element.Hole → IsArrayPartOf n e SkippedPart
hole_is n k = record { becomes = λ b may_rest. rw (k, element.outs-Hole) fits_so }

pub single_is : {n : ℕ} {e : Element} {x : Expression} {q : Part} → e ≡ element.Present (argument.Single x) → IsPartOf n x q → IsArrayPartOf n e (SinglePart q)
single_is k h = record { becomes = λ b may_rest. rw (k, element.outs-Present, argument.outs-Single) (becomes-map SinglePart (h.becomes b)) }

rest-of : (b : Bool) {n : ℕ} {x : Expression} {p : Pattern} → IsPatternOf n x p → Becomes (rest_of b (refine b n) x) p
rest-of true {x = x} {p = p} h = becomes-if (is_name x) (begin_of_expression x) (pattern.Target x) p h.named
rest-of false h = h.becomes false

pub spread_is : {n : ℕ} {e : Element} {span : Span} {x : Expression} {p : Pattern} → e ≡ element.Present (argument.Spread span x) → IsPatternOf n x p → IsArrayPartOf n e (RestPart span p)
spread_is {n = n} {e = e} {span = span} {x = x} {p = p} k h = record { becomes = λ b may_rest. at b may_rest }
  where
    at : (b may_rest : Bool) → Becomes (element_part b may_rest (refine b n) (part_of b n) (out-Element e)) (RestPart span p)
    at b true = rw (k, element.outs-Present, argument.outs-Spread) (becomes-map (RestPart span) (rest-of b h))
    at b false = rw (k, element.outs-Present, argument.outs-Spread) misfits

pub no_array_parts : (n : ℕ) → AreArrayPartsOf n [] []
no_array_parts n = record { becomes = λ b comma. fits_so }

pub more_array_parts : {n : ℕ} {e : Element} {es : List Element} {a : ArrayPart} {parts : List ArrayPart} → IsArrayPartOf n e a → AreArrayPartsOf n es parts → AreArrayPartsOf n (e ∷ es) (a ∷ parts)
more_array_parts {es = es} h hs = record { becomes = λ b comma. becomes-cons (h.becomes b (is_last es comma)) (hs.becomes b comma) }

-- ## Properties

pub keyed_is : {n : ℕ} {p : Property} (span : Span) (key : Key) {x : Expression} {q : Part} → p ≡ property.Plain span key x → IsPartOf n x q → IsObjectPartOf n p (KeyedPart span key q)
keyed_is span key k h = record { becomes = λ b. rw (k, property.outs-Plain) (becomes-map (KeyedPart span key) (h.becomes b)) }

pub shorthand_is : (n : ℕ) {p : Property} {span : Span} {name : List ℕ} → p ≡ property.Shorthand span name → IsObjectPartOf n p (NamedPart (name_alone (record { span = span; name = name })))
shorthand_is n k = record { becomes = λ b. rw (k, property.outs-Shorthand) fits_so }

pub initialized_is : (n : ℕ) {p : Property} {span equals : Span} {name : Identifier} (x : Expression) → p ≡ property.Initialized span name equals x → IsObjectPartOf n p (NamedPart (made_part span (Some x) (name_target name)))
initialized_is n x k = record { becomes = λ b. rw (k, property.outs-Initialized) fits_so }

pub no_object_parts : (n : ℕ) → AreObjectPartsOf n [] []
no_object_parts n = record { becomes = λ b. fits_so }

pub more_object_parts : {n : ℕ} {p : Property} {ps : List Property} {o : ObjectPart} {parts : List ObjectPart} → IsObjectPartOf n p o → AreObjectPartsOf n ps parts → AreObjectPartsOf n (p ∷ ps) (o ∷ parts)
more_object_parts h hs = record { becomes = λ b. becomes-cons (h.becomes b) (hs.becomes b) }
