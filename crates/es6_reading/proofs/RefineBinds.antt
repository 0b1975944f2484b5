-- A pattern that is assigned and has names for all its targets binds, too.
use Rattle.std.proofs.Common.{◌≡◌, ℕ, zero, suc, true, false, List, refl, sym, ap, ◌∙◌}
use Rattle.std.proofs.lemmas.Bool.{true≢false}
use Rattle.es6_ast.specs.declared.tree.Identifier.{Identifier}
use Rattle.es6_ast.specs.declared.tree.Expression.{Expression, out-Expression}
use Rattle.es6_ast.specs.declared.tree.Expression.TheVariants as expr
use Rattle.es6_ast.specs.declared.tree.Pattern.{Pattern, out-Pattern}
use Rattle.es6_ast.specs.declared.tree.Pattern.TheVariants as pattern
use Rattle.es6_ast.specs.declared.tree.ArrayPart.{ArrayPart, out-ArrayPart}
use Rattle.es6_ast.specs.declared.tree.ArrayPart.TheVariants as array_part
use Rattle.es6_ast.specs.declared.tree.ObjectPart.{ObjectPart, out-ObjectPart}
use Rattle.es6_ast.specs.declared.tree.ObjectPart.TheVariants as object_part
use Rattle.es6_ast.specs.declared.tree.Part.{Part}
use Rattle.es6_ast.specs.declared.tree.Argument.TheOpen as layer
use Rattle.es6_ast.specs.declared.tree.Argument.TheOpen.{Expression-F, Pattern-F}
use Rattle.es6_ast.specs.declared.settings.Flags.{Flags}
use Rattle.es6_ast.specs.Tokens.{Filled}
use Rattle.es6_ast.specs.Grammar as g
use Rattle.es6_ast.specs.Grammar.{with_in, IsName, IsExpression, IsTarget, IsPattern, IsPart, IsRest, AreArrayParts, AreObjectParts, IsObjectPart}
use Rattle.es6_ast.specs.Spans.{Open}
use Rattle.es6_reading.specs.Refine.{Fits, is_name_in, is_name, begin_of_expression, bound, rest_binds, array_part_binds, object_part_binds, all_bind, binds_names}
use Rattle.es6_reading.specs.Refinements.{IfFits, fits, misfits, too_nested}
use Rattle.es6_reading.proofs.Refines.{weaken-fits, then-fits, if-fits}
use Rattle.es6_reading.proofs.RefineViews.{IsAccess, IsAnother, View, a_name, an_array, an_object, an_access, a_group, an_assignment, a_sequence, another, view}

pub view-of : {f : Flags} {least : ℕ} {ts us : List Filled} {x : Expression} → IsExpression f least ts x us → View f ts x us
view-of (g.at_level level x h d) = view d

-- ## Names

pub data Named : List Filled → Expression → List Filled → Type 0 where
  named : {ts us : List Filled} {x : Expression} (n : Identifier) → IsName ts n us → x ≡ expr.Name n.span n.name → Named ts x us

no-name : {x y : Expression} {l : Open Expression-F} → x ≡ y → out-Expression y ≡ l → is_name_in l ≡ false → is_name x ≡ true → ⊥
no-name {x = x} e o h k = true≢false (sym k ∙ rw (e, o) h)

access-no-name : (l : Open Expression-F) → IsAccess l → is_name_in l ≡ true → ⊥
access-no-name (layer.Name span name) h k = h
access-no-name l h k = absurd (cc)

another-no-name : (l : Open Expression-F) → IsAnother l → is_name_in l ≡ true → ⊥
another-no-name (layer.Name span name) h k = h
another-no-name l h k = absurd (cc)

named-if : {f : Flags} {ts us : List Filled} {x : Expression} → View f ts x us → is_name x ≡ true → Named ts x us
named-if (a_name n d e) h = named n d e
named-if (an_array elements m d e) h = absurd (no-name e (expr.outs-ArrayList _ _ _) refl h)
named-if (an_object properties m d e) h = absurd (no-name e (expr.outs-ObjectList _ _) refl h)
named-if {x = x} (an_access d s a) h = absurd (access-no-name (out-Expression x) a h)
named-if (a_group held p d q e) h = absurd (no-name e (expr.outs-Group _ _) refl h)
named-if (an_assignment operator target value d k v e) h = absurd (no-name e (expr.outs-Assign _ _ _ _) refl h)
named-if (a_sequence first y rest d ds e) h = absurd (no-name e (expr.outs-Sequence _ _ _) refl h)
named-if {x = x} (another a) h = absurd (another-no-name (out-Expression x) a h)

pub bound-name : {f : Flags} {least : ℕ} {ts us : List Filled} {x : Expression} → IsExpression f least ts x us → IfFits (λ u. Named ts x us) (bound x)
bound-name {x = x} d = if-fits (is_name x) (begin_of_expression x) (named-if (view-of d))

-- ## Parts

abbrev pub Binds : ℕ → Type 0
Binds n = (f : Flags) (ts us : List Filled) (p : Pattern) → IsTarget f false ts p us → IfFits (λ u. IsTarget f true ts p us) (binds_names n p)

nothing-more : IfFits (λ (u : Unit {0}). Unit {0}) (Fits tt)
nothing-more = fits tt

part-binds : (n : ℕ) (ih : Binds n) {f : Flags} {ts us : List Filled} {q : Part} → IsPart f false ts q us → IfFits (λ u. IsPart f true ts q us) (binds_names n q.pattern)
part-binds n ih (g.part_alone x q d e) = rw e (weaken-fits (ih _ _ _ x d) (λ u h. g.part_alone x _ h refl))
part-binds n ih (g.part_with_default x value q d m v e) = rw e (weaken-fits (ih _ _ _ x d) (λ u h. g.part_with_default x value _ h m v refl))

pub bound-rest : {ts us : List Filled} {f : Flags} {x : Expression} {p : Pattern} → p ≡ pattern.Target x → Named ts x us → IsRest f true ts p us
bound-rest e (named n d k) = g.bound_rest n _ d (e ∙ ap pattern.Target k)

rest-binds : {f : Flags} {ts us : List Filled} {p : Pattern} → IsRest f false ts p us → IfFits (λ u. IsRest f true ts p us) (rest_binds (out-Pattern p))
rest-binds (g.assigned_rest x (g.simple_target y p d s e)) = rw (e, pattern.outs-Target) (weaken-fits (bound-name d) (λ u h. bound-rest refl h))
rest-binds (g.assigned_rest x (g.nested_pattern p (g.array_pattern parts p' m ds e))) = rw (e, pattern.outs-ArrayPattern) misfits
rest-binds (g.assigned_rest x (g.nested_pattern p (g.object_pattern parts p' m ds e))) = rw (e, pattern.outs-ObjectPattern) misfits

array-parts-bind : (n : ℕ) (ih : Binds n) {f : Flags} {ts us : List Filled} {parts : List ArrayPart} → AreArrayParts f false ts parts us → IfFits (λ u. AreArrayParts f true ts parts us) (all_bind (λ e. array_part_binds (binds_names n) (out-ArrayPart e)) parts)
array-parts-bind n ih (g.no_array_part h) = fits (g.no_array_part h)
array-parts-bind n ih (g.skipped_part e es m k d) = then-fits (skipped k) (array-parts-bind n ih d) (λ u v h h'. g.skipped_part e es m k h')
  where
    skipped : {e : ArrayPart} → e ≡ array_part.SkippedPart → IfFits (λ u. Unit {0}) (array_part_binds (binds_names n) (out-ArrayPart e))
    skipped k = rw (k, array_part.outs-SkippedPart) (fits tt)
array-parts-bind n ih (g.rest_part x e m d h k) = rw (k, array_part.outs-RestPart) (then-fits (rest-binds d) nothing-more (λ u v r h'. g.rest_part x _ m r h refl))
array-parts-bind n ih (g.last_array_part q e d h k) = rw (k, array_part.outs-SinglePart) (then-fits (part-binds n ih d) nothing-more (λ u v r h'. g.last_array_part q _ r h refl))
array-parts-bind n ih (g.next_array_part q e es d m k ds) = rw (k, array_part.outs-SinglePart) (then-fits (part-binds n ih d) (array-parts-bind n ih ds) (λ u v r h'. g.next_array_part q _ es r m refl h'))

object-part-binds : (n : ℕ) (ih : Binds n) {f : Flags} {ts us : List Filled} {e : ObjectPart} → IsObjectPart f false ts e us → IfFits (λ u. IsObjectPart f true ts e us) (object_part_binds (binds_names n) (out-ObjectPart e))
object-part-binds n ih (g.named_part m e d k) = rw (k, object_part.outs-NamedPart) (fits (g.named_part m _ d refl))
object-part-binds n ih (g.named_part_with_default m value e d h v k) = rw (k, object_part.outs-NamedPart) (fits (g.named_part_with_default m value _ d h v refl))
object-part-binds n ih (g.keyed_part key q e d h p k) = rw (k, object_part.outs-KeyedPart) (weaken-fits (part-binds n ih p) (λ u r. g.keyed_part key q _ d h r refl))

object-parts-bind : (n : ℕ) (ih : Binds n) {f : Flags} {ts us : List Filled} {parts : List ObjectPart} → AreObjectParts f false ts parts us → IfFits (λ u. AreObjectParts f true ts parts us) (all_bind (λ e. object_part_binds (binds_names n) (out-ObjectPart e)) parts)
object-parts-bind n ih (g.no_object_part h) = fits (g.no_object_part h)
object-parts-bind n ih (g.last_object_part e d h) = then-fits (object-part-binds n ih d) nothing-more (λ u v r h'. g.last_object_part e r h)
object-parts-bind n ih (g.next_object_part e es d m ds) = then-fits (object-part-binds n ih d) (object-parts-bind n ih ds) (λ u v r h'. g.next_object_part e es r m h')

-- ## Targets

pub bound-target : {ts us : List Filled} {f : Flags} {x : Expression} {p : Pattern} → p ≡ pattern.Target x → Named ts x us → IsTarget f true ts p us
bound-target e (named n d k) = g.bound_name n _ d (e ∙ ap pattern.Target k)

pub binds : (n : ℕ) → Binds n
binds zero f ts us p d = too_nested
binds (suc n) f ts us p (g.simple_target y p' d s e) = rw (e, pattern.outs-Target) (weaken-fits (bound-name d) (λ u h. bound-target refl h))
binds (suc n) f ts us p (g.nested_pattern p' (g.array_pattern parts p'' m ds e)) = rw (e, pattern.outs-ArrayPattern) (weaken-fits (array-parts-bind n (binds n) ds) (λ u h. g.nested_pattern _ (g.array_pattern parts _ m h refl)))
binds (suc n) f ts us p (g.nested_pattern p' (g.object_pattern parts p'' m ds e)) = rw (e, pattern.outs-ObjectPattern) (weaken-fits (object-parts-bind n (binds n) ds) (λ u h. g.nested_pattern _ (g.object_pattern parts _ m h refl)))
