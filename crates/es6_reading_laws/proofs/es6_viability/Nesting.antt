-- An expression has to be looked into no deeper than there are tokens from its first one on, to know what it is as a target.
use Rattle.std.proofs.Common.{◌≡◌, ◌∙◌, ℕ, zero, suc, ◌+◌, ◌≤◌, ◌<◌, arith, Bool, true, false, List, [], ◌∷◌, length, map, Some, None, ap}
use Rattle.std.proofs.lemmas.List.{length-append}
use Rattle.es_text.specs.declared.Span.{Span}
use Rattle.es6_ast.specs.declared.operators.AssignOperator.{AssignOperator}
use Rattle.es6_ast.specs.declared.operators.AssignOperator.TheVariants as assign
use Rattle.es6_ast.specs.declared.tree.Expression.{Expression, out-Expression}
use Rattle.es6_ast.specs.declared.tree.Expression.TheVariants as expr
use Rattle.es6_ast.specs.declared.tree.Pattern.{Pattern, out-Pattern}
use Rattle.es6_ast.specs.declared.tree.Pattern.TheVariants as pattern
use Rattle.es6_ast.specs.declared.tree.ArrayPart.TheVariants.{SkippedPart, SinglePart, RestPart}
use Rattle.es6_ast.specs.declared.tree.ObjectPart.TheVariants.{KeyedPart}
use Rattle.es6_ast.specs.declared.tree.Element.{Element}
use Rattle.es6_ast.specs.declared.tree.Element.TheVariants as element
use Rattle.es6_ast.specs.declared.tree.Argument.{Argument, out-Argument}
use Rattle.es6_ast.specs.declared.tree.Argument.TheVariants as argument
use Rattle.es6_ast.specs.declared.tree.Identifier.{Identifier}
use Rattle.es6_ast.specs.declared.tree.Key.{Key}
use Rattle.es6_ast.specs.declared.tree.Property.{Property, out-Property}
use Rattle.es6_ast.specs.declared.tree.Property.TheVariants as property
use Rattle.es6_ast.specs.declared.tree.Argument.TheOpen as layer
use Rattle.es6_ast.specs.declared.tree.Argument.TheOpen.{Expression-F}
use Rattle.es6_ast.specs.declared.settings.Flags.{Flags}
use Rattle.es6_ast.specs.Tokens.{Filled}
use Rattle.es6_ast.specs.Grammar as g
use Rattle.es6_ast.specs.Grammar.{with_in, level_assignment, IsName, IsExpression, IsAssigned, IsArgument, IsKey, IsProperty, AreElements, AreProperties}
use Rattle.es6_ast.specs.Spans.{Open, span_of}
use Rattle.es6_reading.specs.Parser.{Input, Outcome}
use Rattle.es6_reading.specs.Refine.{Refined, Fits, Misfit, TooNested, fits_if, held_at, is_access, simple, simple_in, made_part, target_of_default, is_last, part_in, argument_part, array_parts_of, property_part, object_parts_of, refine, refine_pattern, else_itself, target_before}
use Rattle.es6_ast.specs.Targets.{ends_in_access}
use Rattle.es6_reading.proofs.CompleteClaims.{open-assignment}
use Rattle.es6_reading.proofs.CompleteLists.{Ends, ends-comma, ends-square}
use Rattle.es6_reading.proofs.Completeness.{expression-read}
use Rattle.es6_reading.proofs.Enough.{Settled, settled-map, settled-cons}
use Rattle.es6_reading.proofs.Exactly.{Exactly, exactly}
use Rattle.es6_reading.proofs.RefineBinds.{view-of}
use Rattle.es6_reading.proofs.RefineTargets.{reads_part, IsAlone, HasNoDefault, target-alone, part-alone}
use Rattle.es6_reading.proofs.RefineViews.{IsAccess, IsAnother, View, a_name, an_array, an_object, an_access, a_group, an_assignment, a_sequence, another}
use Rattle.es6_reading.proofs.Spans.{Moves}

-- ## Tokens that are left

low : (n : ℕ) → n ≤ n
low n = omega arith

none-below : (n : ℕ) → suc n ≤ zero → ⊥
none-below n l = omega arith

less-one : (a b : ℕ) → suc a ≤ suc b → a ≤ b
less-one a b l = omega arith

up-one : (a b : ℕ) → a < b → a < suc b
up-one a b l = omega arith

last-one : (n : ℕ) → n < suc n
last-one n = omega arith

within : (a b n : ℕ) → a < b → suc (suc b) ≤ n → suc (suc a) ≤ n
within a b n h l = omega arith

within-one : (a b n : ℕ) → suc a < b → suc (suc b) ≤ n → suc (suc a) ≤ n
within-one a b n h l = omega arith

within-two : (a n : ℕ) → suc (suc (suc a)) ≤ n → suc (suc a) ≤ n
within-two a n l = omega arith

moved-less : {s c : Input} → Moves s c → length c.tokens < length s.tokens
moved-less {s = s} {c = c} m = by (length s.tokens) (length m.tokens) (length c.tokens) (ap length m.all ∙ ap (λ n. suc n) (length-append m.tokens c.tokens))
  where
    by : (n a b : ℕ) → n ≡ suc (a + b) → b < n
    by n a b e = omega arith

exact-less : {A : Type 0} {x : A} {s : Input} {us : List Filled} {o : Outcome A} → Exactly x s us o → length us < length s.tokens
exact-less (exactly m) = moved-less m

assignment-less : {f : Flags} {ts us : List Filled} {x : Expression} → IsExpression f level_assignment ts x us → Ends f us → length us < length ts
assignment-less d k =
    let c = expression-read d in
    let r = open-assignment c k.closes k.yields in
    exact-less (r.reads r.bound r.bound r.bound (low r.bound) (low r.bound) (low r.bound) 0)

argument-less : {f : Flags} {ts us : List Filled} {a : Argument} → IsArgument f ts a us → Ends (with_in f) us → length us < length ts
argument-less (g.single_argument y a d e) k = assignment-less d k
argument-less {us = us} (g.spread_argument {ts = ts} y a m d e) k = up-one (length us) (length ts) (assignment-less d k)

name-less : {ts us : List Filled} {n : Identifier} → IsName ts n us → length us < length ts
name-less {us = us} (g.name word w i k) = last-one (length us)

key-less : {f : Flags} {ts us : List Filled} {k : Key} → IsKey f ts k us → length us < length ts
key-less {us = us} (g.word_key word k h e) = last-one (length us)
key-less {us = us} (g.text_key units k h e) = last-one (length us)
key-less {us = us} (g.integer_key value k h e) = last-one (length us)
key-less {us = us} (g.computed_key {f = f} {close = close} {ts = ts} value k p d q e) = by (length us) (length ts) (assignment-less d (ends-square (with_in f) us close q))
  where
    by : (a b : ℕ) → suc a < b → a < suc b
    by a b l = omega arith

-- after two parts and a token between them
after-two : (a b c : ℕ) → a < b → suc b < c → a < c
after-two a b c h k = omega arith

-- ## Simple targets

settled-if : (b : Bool) (at : ℕ) → Settled (fits_if b at)
settled-if true at = tt
settled-if false at = tt

settled-held : (r : Refined (Unit {0})) (at : ℕ) → Settled r → Settled (held_at at r)
settled-held (Fits u) at h = tt
settled-held (Misfit place) at h = tt
settled-held TooNested at h = h

settled-access : (s : Expression → Refined (Unit {0})) (l : Open Expression-F) → IsAccess l → Settled (simple_in s l)
settled-access s (layer.Chain span head links) h = settled-if (ends_in_access (map is_access links)) span.begin
settled-access s (layer.Group span held) h = absurd h
settled-access s l h = tt

settled-another : (s : Expression → Refined (Unit {0})) (l : Open Expression-F) → IsAnother l → Settled (simple_in s l)
settled-another s (layer.Chain span head links) h = absurd h
settled-another s (layer.Group span held) h = absurd h
settled-another s l h = tt

abbrev Simples : ℕ → Type 0
Simples n = (f : Flags) (least : ℕ) (ts us : List Filled) (x : Expression) → IsExpression f least ts x us → suc (length ts) ≤ n → Settled (simple n x)

simple-by-view : (n : ℕ) → Simples n → {f : Flags} {ts us : List Filled} (x : Expression) → View f ts x us → length ts ≤ n → Settled (simple (suc n) x)
simple-by-view n ih x (a_name m d e) l = rw (e, expr.outs-Name) tt
simple-by-view n ih x (an_array elements m d e) l = rw (e, expr.outs-ArrayList) tt
simple-by-view n ih x (an_object properties m d e) l = rw (e, expr.outs-ObjectList) tt
simple-by-view n ih x (an_access d s a) l = settled-access (simple n) (out-Expression x) a
simple-by-view n ih x (a_group held p d q e) l = rw (e, expr.outs-Group) (settled-held (simple n held) _ (ih _ _ _ _ held d l))
simple-by-view n ih x (an_assignment operator target value d k v e) l = rw (e, expr.outs-Assign) tt
simple-by-view n ih x (a_sequence first y rest d ds e) l = rw (e, expr.outs-Sequence) tt
simple-by-view n ih x (another a) l = settled-another (simple n) (out-Expression x) a

simples : (n : ℕ) → Simples n
simples zero f least ts us x d l = absurd (none-below (length ts) l)
simples (suc n) f least ts us x d l = simple-by-view n (simples n) x (view-of d) (less-one (length ts) n l)

-- ## Parts

abbrev Targets : ℕ → Type 0
Targets n = (f : Flags) (least : ℕ) (ts us : List Filled) (x : Expression) → IsExpression f least ts x us → suc (suc (length ts)) ≤ n → Settled (refine false n x)

no-default-if-access : (l : Open Expression-F) → IsAccess l → HasNoDefault l
no-default-if-access (layer.Assign span operator target value) h = h
no-default-if-access l h = tt

no-default-if-another : (l : Open Expression-F) → IsAnother l → HasNoDefault l
no-default-if-another (layer.Assign span operator target value) h = h
no-default-if-another l h = tt

part-of-target : (n : ℕ) (x : Expression) → HasNoDefault (out-Expression x) → Settled (refine false n x) → Settled (reads_part false n x)
part-of-target n x h s = rw (part-alone false n (refine false n) x (out-Expression x) h) (settled-map (made_part (span_of x) None) (refine false n x) s)

default-settles : (n : ℕ) → Targets n → {f : Flags} {ts us : List Filled} (op : AssignOperator) (p : Pattern) → IsAssigned f op ts p us → suc (suc (length ts)) ≤ n → Settled (target_of_default false n (refine false n) p (out-Pattern p))
default-settles n ih op p (g.assigned_pattern x (g.array_pattern parts x' h d e)) l = rw (e, pattern.outs-ArrayPattern) tt
default-settles n ih op p (g.assigned_pattern x (g.object_pattern parts x' h d e)) l = rw (e, pattern.outs-ObjectPattern) tt
default-settles n ih op p (g.assigned_target y x d h e) l = rw (e, pattern.outs-Target) (ih _ _ _ _ y d l)
default-settles n ih op p (g.updated_target op' y x h d e) l = rw (e, pattern.outs-Target) (ih _ _ _ _ y d l)

-- any other operator makes no default
default-part : (op : AssignOperator) (n : ℕ) (x : Expression) (span : Span) (p : Pattern) (value : Expression) → Settled (target_of_default false n (refine false n) p (out-Pattern p)) → Settled (refine false n x) → Settled (part_in false n (refine false n) x (layer.Assign span op p value))
default-part assign.Assign n x span p value s t = settled-map (made_part span (Some value)) _ s
default-part op n x span p value s t = settled-map (made_part (span_of x) None) _ t

layer-of : {x y : Expression} {l : Open Expression-F} → x ≡ y → out-Expression y ≡ l → out-Expression x ≡ l
layer-of e o = ap out-Expression e ∙ o

part-by-view : (n : ℕ) → Targets n → {f : Flags} {ts us : List Filled} (x : Expression) → View f ts x us → suc (suc (length ts)) ≤ n → Settled (refine false n x) → Settled (reads_part false n x)
part-by-view n ih x (a_name m d e) l s = part-of-target n x (rw (e, expr.outs-Name) tt) s
part-by-view n ih x (an_array elements m d e) l s = part-of-target n x (rw (e, expr.outs-ArrayList) tt) s
part-by-view n ih x (an_object properties m d e) l s = part-of-target n x (rw (e, expr.outs-ObjectList) tt) s
part-by-view n ih x (an_access d s a) l t = part-of-target n x (no-default-if-access (out-Expression x) a) t
part-by-view n ih x (a_group held p d q e) l s = part-of-target n x (rw (e, expr.outs-Group) tt) s
part-by-view n ih x (an_assignment operator target value d k v e) l s = rw (layer-of e (expr.outs-Assign _ _ _ _)) (default-part operator n x _ target value (default-settles n ih operator target d l) s)
part-by-view n ih x (a_sequence first y rest d ds e) l s = part-of-target n x (rw (e, expr.outs-Sequence) tt) s
part-by-view n ih x (another a) l s = part-of-target n x (no-default-if-another (out-Expression x) a) s

part-settles : (n : ℕ) → Targets n → {f : Flags} {least : ℕ} {ts us : List Filled} (x : Expression) → IsExpression f least ts x us → suc (suc (length ts)) ≤ n → Settled (reads_part false n x)
part-settles n ih x d l = part-by-view n ih x (view-of d) l (ih _ _ _ _ x d l)

-- ## Elements and properties

argument-settles : (n : ℕ) → Targets n → {f : Flags} {ts us : List Filled} {a : Argument} → IsArgument f ts a us → suc (suc (length ts)) ≤ n → (may_rest : Bool) → Settled (argument_part false may_rest (refine false n) (reads_part false n) (out-Argument a))
argument-settles n ih (g.single_argument y a d e) l may_rest = rw (e, argument.outs-Single) (settled-map SinglePart _ (part-settles n ih y d l))
argument-settles n ih (g.spread_argument {ts = ts} y a m d e) l true = rw (e, argument.outs-Spread) (settled-map (RestPart _) _ (ih _ _ _ _ y d (within-two (length ts) n l)))
argument-settles n ih (g.spread_argument y a m d e) l false = rw (e, argument.outs-Spread) tt

elements-settle : (n : ℕ) → Targets n → (comma : Bool) {f : Flags} {c : Bool} {ts us : List Filled} {es : List Element} → AreElements f c ts es us → suc (suc (length ts)) ≤ n → Settled (array_parts_of false comma (refine false n) (reads_part false n) es)
elements-settle n ih comma (g.no_element h) l = tt
elements-settle n ih comma (g.hole {ts = ts} e es m k ds) l = rw (k, element.outs-Hole) (settled-map (λ ys. SkippedPart ∷ ys) _ (elements-settle n ih comma ds (within-two (length ts) n l)))
elements-settle n ih comma (g.last_element e a d h k) l = rw (k, element.outs-Present) (settled-cons _ _ (argument-settles n ih d l (is_last {A = Element} [] comma)) tt)
elements-settle n ih comma (g.comma_element e a d m h k) l = rw (k, element.outs-Present) (settled-cons _ _ (argument-settles n ih d l (is_last {A = Element} [] comma)) tt)
elements-settle n ih comma (g.next_element {f = f} {comma = t} {ts = ts} {us = us} e e' es a d m k ds) l = rw (k, element.outs-Present)
    (settled-cons _ _ (argument-settles n ih d l (is_last (e' ∷ es) comma)) (elements-settle n ih comma ds (within-one (length us) (length ts) n (argument-less d (ends-comma (with_in f) us t m)) l)))

property-settles : (n : ℕ) → Targets n → {f : Flags} {ts us : List Filled} {q : Property} → IsProperty f ts q us → suc (suc (length ts)) ≤ n → Settled (property_part (reads_part false n) (out-Property q))
property-settles n ih (g.plain_property {ts = ts} {us = us} k y q dk m d e) l = rw (e, property.outs-Plain) (settled-map (KeyedPart _ k) _ (part-settles n ih y d (within-one (length us) (length ts) n (key-less dk) l)))
property-settles n ih (g.shorthand_property m q d e) l = rw (e, property.outs-Shorthand) tt
property-settles n ih (g.initialized_property m y q d h v e) l = rw (e, property.outs-Initialized) tt
property-settles n ih (g.method_property m q d e) l = rw (e, property.outs-Defined) tt

properties-settle : (n : ℕ) → Targets n → {f : Flags} {ts us : List Filled} {qs : List Property} → AreProperties f ts qs us → suc (suc (length ts)) ≤ n → Settled (object_parts_of (reads_part false n) qs)
properties-settle n ih (g.no_property h) l = tt
properties-settle n ih (g.last_property q d h) l = settled-cons _ _ (property-settles n ih d l) tt
properties-settle n ih (g.next_property {f = f} {comma = t} {us = vs} q qs (g.plain_property {ts = ts} {us = us} k y q' dk m d e) m' ds) l =
    settled-cons _ _ (property-settles n ih {f = f} (g.plain_property k y q' dk m d e) l) (properties-settle n ih ds (within (length vs) (length ts) n (by (length vs) (length us) (length ts) (assignment-less d (ends-comma (with_in f) vs t m')) (key-less dk)) l))
  where
    by : (a b c : ℕ) → suc a < b → suc b < c → a < c
    by a b c h k = omega arith
properties-settle n ih (g.next_property {f = f} {us = us} q qs (g.shorthand_property {ts = ts} m q' d e) m' ds) l = settled-cons _ _ (property-settles n ih {f = f} (g.shorthand_property m q' d e) l) (properties-settle n ih ds (within-one (length us) (length ts) n (name-less d) l))
properties-settle n ih (g.next_property {f = f} {comma = t} {us = vs} q qs (g.initialized_property {ts = ts} {us = us} m y q' d h v e) m' ds) l =
    settled-cons _ _ (property-settles n ih {f = f} (g.initialized_property m y q' d h v e) l) (properties-settle n ih ds (within (length vs) (length ts) n (by (length vs) (length us) (length ts) (assignment-less v (ends-comma (with_in f) vs t m')) (name-less d)) l))
  where
    by : (a b c : ℕ) → suc a < b → suc b < c → a < c
    by a b c h k = omega arith
properties-settle n ih (g.next_property q qs (g.method_property m q' d e) m' ds) l = rw (e, property.outs-Defined) tt

-- ## Targets

alone-if-access : (l : Open Expression-F) → IsAccess l → IsAlone l
alone-if-access (layer.ArrayList span elements comma) h = h
alone-if-access (layer.ObjectList span properties) h = h
alone-if-access l h = tt

alone-if-another : (l : Open Expression-F) → IsAnother l → IsAlone l
alone-if-another (layer.ArrayList span elements comma) h = h
alone-if-another (layer.ObjectList span properties) h = h
alone-if-another l h = tt

settled-alone : (n : ℕ) (x : Expression) → IsAlone (out-Expression x) → Settled (simple n x) → Settled (refine false (suc n) x)
settled-alone n x h s = rw (target-alone false n (refine false n) (reads_part false n) x (out-Expression x) h) (settled-map (λ u. pattern.Target x) (simple n x) s)

target-by-view : (n : ℕ) → Targets n → {f : Flags} {ts us : List Filled} (x : Expression) → View f ts x us → suc (length ts) ≤ n → Settled (simple n x) → Settled (refine false (suc n) x)
target-by-view n ih x (a_name m d e) l s = settled-alone n x (rw (e, expr.outs-Name) tt) s
target-by-view n ih x (an_array elements m d e) l s = rw (e, expr.outs-ArrayList) (settled-map (pattern.ArrayPattern _) _ (elements-settle n ih _ d l))
target-by-view n ih x (an_object properties m d e) l s = rw (e, expr.outs-ObjectList) (settled-map (pattern.ObjectPattern _) _ (properties-settle n ih d l))
target-by-view n ih x (an_access d k a) l s = settled-alone n x (alone-if-access (out-Expression x) a) s
target-by-view n ih x (a_group held p d q e) l s = settled-alone n x (rw (e, expr.outs-Group) tt) s
target-by-view n ih x (an_assignment operator target value d k v e) l s = settled-alone n x (rw (e, expr.outs-Assign) tt) s
target-by-view n ih x (a_sequence first y rest d ds e) l s = settled-alone n x (rw (e, expr.outs-Sequence) tt) s
target-by-view n ih x (another a) l s = settled-alone n x (alone-if-another (out-Expression x) a) s

targets : (n : ℕ) → Targets n
targets zero f least ts us x d l = absurd (none-below (suc (length ts)) l)
targets (suc n) f least ts us x d l = target-by-view n (targets n) x (view-of d) (less-one (suc (length ts)) n l) (simples n f least ts us x d (less-one (suc (length ts)) n l))

-- a left-hand side isn't nested too far to be a target
pub never-nested : {f : Flags} {least : ℕ} {ts us : List Filled} {x : Expression} → IsExpression f least ts x us → (n : ℕ) (op : AssignOperator) → suc (suc (length ts)) ≤ n → target_before n op x ≡ TooNested → ⊥
unfolding target_before refine_pattern
never-nested {x = x} d n assign.Assign l e = by (refine false n x) (targets n _ _ _ _ x d l) e
  where
    by : (r : Refined Pattern) → Settled r → else_itself x r ≡ TooNested → ⊥
    by (Fits p) s k = absurd (cc)
    by (Misfit at) s k = absurd (cc)
    by TooNested s k = s
never-nested d n op l e = absurd (cc)

-- so it has more tokens than its nesting is looked at
pub deep-has-tokens : {f : Flags} {least : ℕ} {ts us : List Filled} {x : Expression} → IsExpression f least ts x us → (n : ℕ) (op : AssignOperator) → target_before n op x ≡ TooNested → n ≤ suc (length ts)
deep-has-tokens {ts = ts} d n op e = by n (length ts) (λ l. never-nested d n op l e)
  where
    by : (n m : ℕ) → (suc (suc m) ≤ n → ⊥) → n ≤ suc m
    by zero m h = omega arith
    by (suc zero) m h = omega arith
    by (suc (suc n)) zero h = absurd (h (start n))
      where
        start : (n : ℕ) → 2 ≤ suc (suc n)
        start n = omega arith
    by (suc (suc n)) (suc m) h = up n m (by (suc n) m (λ l. h (more n m l)))
      where
        more : (n m : ℕ) → suc (suc m) ≤ suc n → suc (suc (suc m)) ≤ suc (suc n)
        more n m l = omega arith

        up : (n m : ℕ) → suc n ≤ suc m → suc (suc n) ≤ suc (suc m)
        up n m l = omega arith
