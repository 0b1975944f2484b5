-- The tokens of an expression spell the target, and the part, that it is refined to.
use Rattle.std.proofs.Common.{◌≡◌, ℕ, zero, suc, Bool, true, false, List, [], ◌∷◌, Some, None, refl, ap, ◌∙◌, ◌-◌, length, take, arith}
use Rattle.es6_lexer.specs.declared.token.Punctuator.TheVariants as mark
use Rattle.es6_ast.specs.declared.operators.AssignOperator.{AssignOperator}
use Rattle.es6_ast.specs.declared.operators.AssignOperator.TheVariants as assign
use Rattle.es6_ast.specs.declared.tree.Identifier.{Identifier}
use Rattle.es6_ast.specs.declared.tree.Expression.{Expression, out-Expression}
use Rattle.es6_ast.specs.declared.tree.Expression.TheVariants as expr
use Rattle.es6_ast.specs.declared.tree.Pattern.{Pattern, out-Pattern}
use Rattle.es6_ast.specs.declared.tree.Pattern.TheVariants as pattern
use Rattle.es6_ast.specs.declared.tree.ArrayPart.{ArrayPart}
use Rattle.es6_ast.specs.declared.tree.ArrayPart.TheVariants.{SkippedPart, SinglePart, RestPart}
use Rattle.es6_ast.specs.declared.tree.ObjectPart.TheVariants.{KeyedPart}
use Rattle.es6_ast.specs.declared.tree.Element.{Element}
use Rattle.es6_ast.specs.declared.tree.Element.TheVariants as element
use Rattle.es6_ast.specs.declared.tree.Argument.{Argument, out-Argument}
use Rattle.es6_ast.specs.declared.tree.Argument.TheVariants as argument
use Rattle.es6_ast.specs.declared.tree.Property.{Property, out-Property}
use Rattle.es6_ast.specs.declared.tree.Property.TheVariants as property
use Rattle.es6_ast.specs.declared.tree.Key.{Key}
use Rattle.es6_ast.specs.declared.tree.Part.{Part}
use Rattle.es6_ast.specs.declared.tree.Argument.TheOpen as layer
use Rattle.es6_ast.specs.declared.tree.Argument.TheOpen.{Expression-F}
use Rattle.es6_ast.specs.declared.settings.Flags.{Flags}
use Rattle.es6_ast.specs.Tokens.{Read, Filled, IsMark, end_of, across}
use Rattle.es6_ast.specs.Targets.{is_simple}
use Rattle.es6_ast.specs.Grammar as g
use Rattle.es6_ast.specs.Grammar.{with_in, level_assignment, level_left_hand_side, level_primary, assign_kind, IsName, IsExpression, IsAssigned, IsTarget, IsPart, IsRest, IsKey, IsArgument, IsProperty, IsObjectPart, AreElements, AreProperties, AreArrayParts, AreObjectParts}
use Rattle.es6_ast.specs.Spans.{Open, span_in, span_of}
use Rattle.es6_reading.specs.Refine.{Refined, Fits, refined_map, fits_if, is_name_in, simple_in, alone, made_part, target_of_default, part_in, rest_of, argument_part, array_parts_of, property_part, object_parts_of, target_in, refine, binds_names}
use Rattle.es6_reading.specs.Refinements.{IfFits, fits, misfits, too_nested}
use Rattle.es6_reading.proofs.Refines.{map-fits, weaken-fits, cons-fits}
use Rattle.es6_reading.proofs.RefineViews.{IsAccess, IsAnother, View, a_name, an_array, an_object, an_access, a_group, an_assignment, a_sequence, another}
use Rattle.es6_reading.proofs.RefineBinds.{view-of, bound-name, bound-rest, bound-target, binds}
use Rattle.es6_reading.proofs.RefineTargetOf.{Decides, it_is, it_is_not, unknown, simple-decides}

abbrev pub Targets : Bool → ℕ → Type 0
Targets b n = (f : Flags) (least : ℕ) (ts us : List Filled) (x : Expression) → IsExpression f least ts x us → IfFits (λ p. IsTarget f b ts p us) (refine b n x)

abbrev pub reads_part : Bool → ℕ → Expression → Refined Part
reads_part b n x = part_in b n (refine b n) x (out-Expression x)

abbrev pub Parts : Bool → ℕ → Type 0
Parts b n = (f : Flags) (least : ℕ) (ts us : List Filled) (x : Expression) → IsExpression (with_in f) least ts x us → IfFits (λ q. IsPart (with_in f) b ts q us) (reads_part b n x)

-- ## What fits nowhere

abbrev IsNever : Open Expression-F → Type 0
IsNever (layer.Name span name) = ⊥
IsNever (layer.ArrayList span elements comma) = ⊥
IsNever (layer.ObjectList span properties) = ⊥
IsNever (layer.Chain span head links) = ⊥
IsNever (layer.SuperMember span name) = ⊥
IsNever (layer.SuperIndex span index) = ⊥
IsNever (layer.Group span held) = ⊥
IsNever _ = Unit {0}

never-if-another : (l : Open Expression-F) → IsAnother l → IsNever l
never-if-another (layer.Name span name) h = h
never-if-another (layer.ArrayList span elements comma) h = h
never-if-another (layer.ObjectList span properties) h = h
never-if-another (layer.Chain span head links) h = h
never-if-another (layer.SuperMember span name) h = h
never-if-another (layer.SuperIndex span index) h = h
never-if-another (layer.Group span held) h = h
never-if-another l h = tt

never-bound : {A : Type 0} {Q : A → Type 0} (k : Unit {0} → A) (l : Open Expression-F) → IsNever l → IfFits Q (refined_map k (fits_if (is_name_in l) (span_in l).begin))
never-bound k (layer.Name span name) h = absurd h
never-bound k l h = misfits

never-simple : {A : Type 0} {Q : A → Type 0} (k : Unit {0} → A) (s : Expression → Refined (Unit {0})) (l : Open Expression-F) → IsNever l → IfFits Q (refined_map k (simple_in s l))
never-simple k s (layer.Name span name) h = absurd h
never-simple k s (layer.Chain span head links) h = absurd h
never-simple k s (layer.SuperMember span name) h = absurd h
never-simple k s (layer.SuperIndex span index) h = absurd h
never-simple k s (layer.Group span held) h = absurd h
never-simple k s l h = misfits

never-alone : {Q : Pattern → Type 0} (b : Bool) (n : ℕ) (x : Expression) → IsNever (out-Expression x) → IfFits Q (alone b n x)
never-alone true n x h = never-bound (λ u. pattern.Target x) (out-Expression x) h
never-alone false zero x h = too_nested
never-alone false (suc n) x h = never-simple (λ u. pattern.Target x) _ (out-Expression x) h

-- literals apart, an expression is a target by itself
abbrev pub IsAlone : Open Expression-F → Type 0
IsAlone (layer.ArrayList span elements comma) = ⊥
IsAlone (layer.ObjectList span properties) = ⊥
IsAlone _ = Unit {0}

pub target-alone : (b : Bool) (n : ℕ) (t : Expression → Refined Pattern) (p : Expression → Refined Part) (x : Expression) (l : Open Expression-F) → IsAlone l → target_in b n t p x l ≡ alone b n x
target-alone b n t p x (layer.ArrayList span elements comma) h = absurd h
target-alone b n t p x (layer.ObjectList span properties) h = absurd h
target-alone b n t p x l h = refl

alone-if-never : (l : Open Expression-F) → IsNever l → IsAlone l
alone-if-never (layer.ArrayList span elements comma) h = h
alone-if-never (layer.ObjectList span properties) h = h
alone-if-never l h = tt

alone-if-access : (l : Open Expression-F) → IsAccess l → IsAlone l
alone-if-access (layer.ArrayList span elements comma) h = h
alone-if-access (layer.ObjectList span properties) h = h
alone-if-access l h = tt

refine-alone : (b : Bool) (n : ℕ) {Q : Pattern → Type 0} (x : Expression) → IsAlone (out-Expression x) → IfFits Q (alone b n x) → IfFits Q (refine b (suc n) x)
refine-alone b n x h k = rw (target-alone b n _ _ x (out-Expression x) h) k

never : {Q : Pattern → Type 0} (b : Bool) (n : ℕ) (x : Expression) → IsNever (out-Expression x) → IfFits Q (refine b n x)
never b zero x h = too_nested
never b (suc n) x h = refine-alone b n x (alone-if-never (out-Expression x) h) (never-alone b n x h)

-- ## Expressions by themselves, and before a default

simple-alone : {f : Flags} {ts us : List Filled} {x : Expression} {r : Refined (Unit {0})} → IsExpression f level_left_hand_side ts x us → Decides (is_simple x) r → IfFits (λ p. IsTarget f false ts p us) (refined_map (λ u. pattern.Target x) r)
simple-alone {x = x} d (it_is h) = fits (g.simple_target x _ d h refl)
simple-alone d (it_is_not h) = misfits
simple-alone d unknown = too_nested

pub alone-fits : (b : Bool) (n : ℕ) {f : Flags} {ts us : List Filled} (x : Expression) → IsExpression f level_left_hand_side ts x us → IfFits (λ p. IsTarget f b ts p us) (alone b n x)
alone-fits true n x d = map-fits (λ u. pattern.Target x) (bound-name d) (λ u h. bound-target refl h)
alone-fits false n x d = simple-alone d (simple-decides n x)

assigned-binds : (n : ℕ) {f : Flags} {ts us : List Filled} (p : Pattern) → IsAssigned f assign.Assign ts p us → IfFits (λ u. IsTarget f true ts p us) (binds_names n p)
assigned-binds n p (g.assigned_pattern x d) = binds n _ _ _ p (g.nested_pattern x d)
assigned-binds zero p (g.assigned_target y x d h e) = too_nested
assigned-binds (suc n) p (g.assigned_target y x d h e) = rw (e, pattern.outs-Target) (weaken-fits (bound-name d) (λ u k. bound-target refl k))
assigned-binds n p (g.updated_target operator y x h d e) = absurd (cc)

default-fits : (b : Bool) (n : ℕ) → Targets b n → {f : Flags} {ts us : List Filled} (p : Pattern) → IsAssigned f assign.Assign ts p us → IfFits (λ r. IsTarget f b ts r us) (target_of_default b n (refine b n) p (out-Pattern p))
default-fits true n ih p d = map-fits (λ u. p) (assigned-binds n p d) (λ u h. h)
default-fits false n ih p (g.assigned_pattern x (g.array_pattern parts x' m ds e)) = rw (e, pattern.outs-ArrayPattern) (fits (g.nested_pattern _ (g.array_pattern parts _ m ds refl)))
default-fits false n ih p (g.assigned_pattern x (g.object_pattern parts x' m ds e)) = rw (e, pattern.outs-ObjectPattern) (fits (g.nested_pattern _ (g.object_pattern parts _ m ds refl)))
default-fits false n ih p (g.assigned_target y x d h e) = rw (e, pattern.outs-Target) (ih _ _ _ _ y d)
default-fits false n ih p (g.updated_target operator y x h d e) = absurd (cc)

-- ## Parts

-- assignments apart, an expression is a part without a default
abbrev pub HasNoDefault : Open Expression-F → Type 0
HasNoDefault (layer.Assign span operator target value) = ⊥
HasNoDefault _ = Unit {0}

pub part-alone : (b : Bool) (n : ℕ) (t : Expression → Refined Pattern) (x : Expression) (l : Open Expression-F) → HasNoDefault l → part_in b n t x l ≡ refined_map (made_part (span_of x) None) (t x)
part-alone b n t x (layer.Assign span operator target value) h = absurd h
part-alone b n t x l h = refl

no-default-if-access : (l : Open Expression-F) → IsAccess l → HasNoDefault l
no-default-if-access (layer.Assign span operator target value) h = h
no-default-if-access l h = tt

no-default-if-another : (l : Open Expression-F) → IsAnother l → HasNoDefault l
no-default-if-another (layer.Assign span operator target value) h = h
no-default-if-another l h = tt

part-of-target : (b : Bool) (n : ℕ) {f : Flags} {ts us : List Filled} (x : Expression) → HasNoDefault (out-Expression x) → span_of x ≡ across ts us → IfFits (λ p. IsTarget f b ts p us) (refine b n x) → IfFits (λ q. IsPart f b ts q us) (reads_part b n x)
part-of-target b n x h s d = rw (part-alone b n (refine b n) x (out-Expression x) h) (map-fits (made_part (span_of x) None) d (λ p k. g.part_alone p _ k (rw s refl)))

part-never : (b : Bool) (n : ℕ) {Q : Part → Type 0} (x : Expression) → HasNoDefault (out-Expression x) → IsNever (out-Expression x) → IfFits Q (reads_part b n x)
part-never b n x h k = rw (part-alone b n (refine b n) x (out-Expression x) h) (map-fits (made_part (span_of x) None) (never {Q = λ p. ⊥} b n x k) (λ p u. absurd u))

assignment-part : (b : Bool) (n : ℕ) → Targets b n → (operator : AssignOperator) (f : Flags) {t : Filled} {ts us vs : List Filled} {target : Pattern} {value : Expression} (x : Expression) → IsAssigned (with_in f) operator ts target (t ∷ us) → t.kind ≡ Read (assign_kind operator) → IsExpression (with_in f) level_assignment us value vs → out-Expression x ≡ layer.Assign (across ts vs) operator target value
    → IfFits (λ q. IsPart (with_in f) b ts q vs) (part_in b n (refine b n) x (layer.Assign (across ts vs) operator target value))
assignment-part b n ih assign.Assign f {target = target} {value = value} x d k v o = map-fits (made_part _ (Some value)) (default-fits b n ih target d) (λ p h. g.part_with_default p value _ h k v refl)
assignment-part b n ih operator f x d k v o = map-fits (made_part (span_of x) None) (never {Q = λ p. ⊥} b n x (rw o tt)) (λ p u. absurd u)

layer-of : {x y : Expression} {l : Open Expression-F} → x ≡ y → out-Expression y ≡ l → out-Expression x ≡ l
layer-of e o = ap out-Expression e ∙ o

pub token-across : (t : Filled) (ts : List Filled) → t.span ≡ across (t ∷ ts) ts
token-across t ts = ap (λ n. record { begin = t.span.begin; end = end_of 0 (take n (t ∷ ts)) }) one-more
  where
    one-more : 1 ≡ length (t ∷ ts) - length ts
    one-more = omega arith

pub name-across : {ts us : List Filled} {n : Identifier} → IsName ts n us → n.span ≡ across ts us
name-across (g.name {t = t} {ts = ts} word w i k) = rw k (token-across t ts)

part-by-view : (b : Bool) (n : ℕ) → Targets b n → (f : Flags) {ts us : List Filled} (x : Expression) → View (with_in f) ts x us → IfFits (λ p. IsTarget (with_in f) b ts p us) (refine b n x) → IfFits (λ q. IsPart (with_in f) b ts q us) (reads_part b n x)
part-by-view b n ih f x (a_name m d' e) d = part-of-target b n x (rw (e, expr.outs-Name) tt) (rw (e, expr.outs-Name) (name-across d')) d
part-by-view b n ih f x (an_array elements m ds e) d = part-of-target b n x (rw (e, expr.outs-ArrayList) tt) (rw (e, expr.outs-ArrayList) refl) d
part-by-view b n ih f x (an_object properties m ds e) d = part-of-target b n x (rw (e, expr.outs-ObjectList) tt) (rw (e, expr.outs-ObjectList) refl) d
part-by-view b n ih f x (an_access c s a) d = part-of-target b n x (no-default-if-access (out-Expression x) a) s d
part-by-view b n ih f x (a_group held p c q e) d = part-of-target b n x (rw (e, expr.outs-Group) tt) (rw (e, expr.outs-Group) refl) d
part-by-view b n ih f x (an_assignment operator target value c k v e) d = rw (layer-of e (expr.outs-Assign _ _ _ _)) (assignment-part b n ih operator f x c k v (layer-of e (expr.outs-Assign _ _ _ _)))
part-by-view b n ih f x (a_sequence first y rest c cs e) d = part-never b n x (rw (e, expr.outs-Sequence) tt) (rw (e, expr.outs-Sequence) tt)
part-by-view b n ih f x (another a) d = part-never b n x (no-default-if-another (out-Expression x) a) (never-if-another (out-Expression x) a)

pub parts-of : (b : Bool) (n : ℕ) → Targets b n → Parts b n
parts-of b n ih f least ts us x d = part-by-view b n ih f x (view-of d) (ih _ least ts us x d)

-- ## Elements

rest-fits : (b : Bool) (n : ℕ) → Targets b n → {f : Flags} {least : ℕ} {ts us : List Filled} (x : Expression) → IsExpression f least ts x us → IfFits (λ p. IsRest f b ts p us) (rest_of b (refine b n) x)
rest-fits true n ih x d = map-fits (λ u. pattern.Target x) (bound-name d) (λ u h. bound-rest refl h)
rest-fits false n ih x d = weaken-fits (ih _ _ _ _ x d) (λ p h. g.assigned_rest p h)

last-argument : (b : Bool) (n : ℕ) → Targets b n → {f : Flags} {close : Filled} {ts us : List Filled} {a : Argument} → IsArgument f ts a (close ∷ us) → IsMark mark.RightBracket close
    → IfFits (λ e. AreArrayParts (with_in f) b ts (e ∷ []) us) (argument_part b true (refine b n) (reads_part b n) (out-Argument a))
last-argument b n ih {f = f} (g.single_argument x a d e) h = rw (e, argument.outs-Single) (map-fits SinglePart (parts-of b n ih f _ _ _ x d) (λ q p. g.last_array_part q _ p h refl))
last-argument b n ih (g.spread_argument x a m d e) h = rw (e, argument.outs-Spread) (map-fits (RestPart _) (rest-fits b n ih x d) (λ p r. g.rest_part p _ m r h refl))

-- a single part that others follow
data Singled (f : Flags) (b : Bool) : List Filled → ArrayPart → List Filled → Type 0 where
  singled : {ts us : List Filled} {e : ArrayPart} (q : Part) → IsPart f b ts q us → e ≡ SinglePart q → Singled f b ts e us

inner-argument : (b : Bool) (n : ℕ) → Targets b n → {f : Flags} {ts us : List Filled} {a : Argument} → IsArgument f ts a us → IfFits (λ e. Singled (with_in f) b ts e us) (argument_part b false (refine b n) (reads_part b n) (out-Argument a))
inner-argument b n ih {f = f} (g.single_argument x a d e) = rw (e, argument.outs-Single) (map-fits SinglePart (parts-of b n ih f _ _ _ x d) (λ q p. singled q p refl))
inner-argument b n ih (g.spread_argument x a m d e) = rw (e, argument.outs-Spread) misfits

next-part : {f : Flags} {b : Bool} {comma : Filled} {ts us vs : List Filled} {e : ArrayPart} {es : List ArrayPart} → Singled f b ts e (comma ∷ us) → IsMark mark.Comma comma → AreArrayParts f b us es vs → AreArrayParts f b ts (e ∷ es) vs
next-part (singled q p k) m ds = g.next_array_part q _ _ p m k ds

no-part : {A : Type 0} → IfFits (λ (xs : List A). xs ≡ []) (Fits [])
no-part = fits refl

skipped : IfFits (λ e. e ≡ SkippedPart) (Fits SkippedPart)
skipped = fits refl

elements-fit : (b : Bool) (n : ℕ) → Targets b n → {f : Flags} {comma : Bool} {ts us : List Filled} {elements : List Element} → AreElements f comma ts elements us
    → IfFits (λ parts. AreArrayParts (with_in f) b ts parts us) (array_parts_of b comma (refine b n) (reads_part b n) elements)
elements-fit b n ih (g.no_element h) = fits (g.no_array_part h)
elements-fit b n ih (g.hole e es m k ds) = rw (k, element.outs-Hole) (cons-fits skipped (elements-fit b n ih ds) (λ x xs s h. g.skipped_part x xs m s h))
elements-fit b n ih (g.last_element e a d h k) = rw (k, element.outs-Present) (cons-fits (last-argument b n ih d h) no-part (λ x xs p s. rw s p))
elements-fit b n ih (g.comma_element e a d m h k) = rw (k, element.outs-Present) (cons-fits (inner-argument b n ih d) no-part (λ x xs p s. rw s (next-part p m (g.no_array_part h))))
elements-fit b n ih (g.next_element e e' es a d m k ds) = rw (k, element.outs-Present) (cons-fits (inner-argument b n ih d) (elements-fit b n ih ds) (λ x xs p h. next-part p m h))

-- ## Properties

key-in : {f : Flags} {ts us : List Filled} {k : Key} → IsKey f ts k us → IsKey (with_in f) ts k us
key-in (g.word_key word k h e) = g.word_key word k h e
key-in (g.text_key units k h e) = g.text_key units k h e
key-in (g.integer_key value k h e) = g.integer_key value k h e
key-in (g.computed_key value k p d q e) = g.computed_key value k p d q e

property-fits : (b : Bool) (n : ℕ) → Targets b n → {f : Flags} {ts us : List Filled} {q : Property} → IsProperty f ts q us → IfFits (λ e. IsObjectPart (with_in f) b ts e us) (property_part (reads_part b n) (out-Property q))
property-fits b n ih {f = f} (g.plain_property k x q dk m d e) = rw (e, property.outs-Plain) (map-fits (KeyedPart _ k) (parts-of b n ih f _ _ _ x d) (λ r p. g.keyed_part k r _ (key-in dk) m p refl))
property-fits b n ih (g.shorthand_property m q d e) = rw (e, property.outs-Shorthand) (fits (g.named_part m _ d refl))
property-fits b n ih (g.initialized_property m x q d h v e) = rw (e, property.outs-Initialized) (fits (g.named_part_with_default m x _ d h v refl))
property-fits b n ih (g.method_property m q d e) = rw (e, property.outs-Defined) misfits

properties-fit : (b : Bool) (n : ℕ) → Targets b n → {f : Flags} {ts us : List Filled} {qs : List Property} → AreProperties f ts qs us → IfFits (λ parts. AreObjectParts (with_in f) b ts parts us) (object_parts_of (reads_part b n) qs)
properties-fit b n ih (g.no_property h) = fits (g.no_object_part h)
properties-fit b n ih (g.last_property q d h) = cons-fits (property-fits b n ih d) no-part (λ x xs p s. rw s (g.last_object_part x p h))
properties-fit b n ih (g.next_property q qs d m ds) = cons-fits (property-fits b n ih d) (properties-fit b n ih ds) (λ x xs p h. g.next_object_part x xs p m h)

-- ## Targets

target-by-view : (b : Bool) (n : ℕ) → Targets b n → {f : Flags} {ts us : List Filled} (x : Expression) → View f ts x us → IfFits (λ p. IsTarget f b ts p us) (refine b (suc n) x)
target-by-view b n ih x (a_name m d e) = refine-alone b n x (rw (e, expr.outs-Name) tt) (alone-fits b n x (g.at_level level_primary x (omega arith) (g.reference m x d e)))
target-by-view b n ih x (an_array elements m ds e) = rw (e, expr.outs-ArrayList) (map-fits (pattern.ArrayPattern _) (elements-fit b n ih ds) (λ parts h. g.nested_pattern _ (g.array_pattern parts _ m h refl)))
target-by-view b n ih x (an_object properties m ds e) = rw (e, expr.outs-ObjectList) (map-fits (pattern.ObjectPattern _) (properties-fit b n ih ds) (λ parts h. g.nested_pattern _ (g.object_pattern parts _ m h refl)))
target-by-view b n ih x (an_access d s a) = refine-alone b n x (alone-if-access (out-Expression x) a) (alone-fits b n x d)
target-by-view b n ih x (a_group held p d q e) = refine-alone b n x (rw (e, expr.outs-Group) tt) (alone-fits b n x (g.at_level level_primary x (omega arith) (g.group held x p d q e)))
target-by-view b n ih x (an_assignment operator target value d k v e) = never b (suc n) x (rw (e, expr.outs-Assign) tt)
target-by-view b n ih x (a_sequence first y rest d ds e) = never b (suc n) x (rw (e, expr.outs-Sequence) tt)
target-by-view b n ih x (another a) = never b (suc n) x (never-if-another (out-Expression x) a)

pub targets : (b : Bool) (n : ℕ) → Targets b n
targets b zero f least ts us x d = too_nested
targets b (suc n) f least ts us x d = target-by-view b n (targets b n) x (view-of d)

pub parts : (b : Bool) (n : ℕ) → Parts b n
parts b n = parts-of b n (targets b n)
