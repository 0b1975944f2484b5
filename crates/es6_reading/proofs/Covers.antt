-- What is spelled as a target or a part of a pattern is spelled as an expression, too, which is refined to it.
use Rattle.std.proofs.Common.{◌≡◌, ℕ, ◌≤◌, Bool, true, false, ◌&&◌, List, [], ◌∷◌, Some, None, refl, sym, ap, ◌∙◌, arith}
use Rattle.std.specs.Prelude.{is_none}
use Rattle.es6_lexer.specs.declared.token.Punctuator.TheVariants as mark
use Rattle.es6_ast.specs.declared.operators.AssignOperator.TheVariants as assign
use Rattle.es6_ast.specs.declared.tree.Identifier.{Identifier}
use Rattle.es6_ast.specs.declared.tree.Expression.{Expression, out-Expression}
use Rattle.es6_ast.specs.declared.tree.Expression.TheVariants as expr
use Rattle.es6_ast.specs.declared.tree.Pattern.{Pattern, out-Pattern}
use Rattle.es6_ast.specs.declared.tree.Pattern.TheVariants as pattern
use Rattle.es6_ast.specs.declared.tree.ArrayPart.{ArrayPart}
use Rattle.es6_ast.specs.declared.tree.ArrayPart.TheVariants.{SkippedPart, SinglePart, RestPart}
use Rattle.es6_ast.specs.declared.tree.ObjectPart.{ObjectPart}
use Rattle.es6_ast.specs.declared.tree.ObjectPart.TheVariants.{KeyedPart}
use Rattle.es6_ast.specs.declared.tree.Element.{Element}
use Rattle.es6_ast.specs.declared.tree.Element.TheVariants as element
use Rattle.es6_ast.specs.declared.tree.Argument.{Argument}
use Rattle.es6_ast.specs.declared.tree.Argument.TheVariants as argument
use Rattle.es6_ast.specs.declared.tree.Property.{Property, out-Property}
use Rattle.es6_ast.specs.declared.tree.Property.TheVariants as property
use Rattle.es6_ast.specs.declared.tree.Key.{Key}
use Rattle.es6_ast.specs.declared.tree.Part.{Part}
use Rattle.es6_ast.specs.declared.settings.Flags.{Flags}
use Rattle.es6_ast.specs.Tokens.{Filled, IsMark, across}
use Rattle.es6_ast.specs.Targets.{is_simple, is_pattern, misfit}
use Rattle.es6_ast.specs.Grammar as g
use Rattle.es6_ast.specs.Grammar.{with_in, level_assignment, level_left_hand_side, level_primary, IsName, IsExpression, IsAssigned, IsTarget, IsPattern, IsPart, IsRest, IsKey, IsArgument, IsProperty, IsObjectPart, AreElements, AreProperties, AreArrayParts, AreObjectParts}
use Rattle.es6_ast.specs.Spans.{span_of}
use Rattle.es6_reading.specs.Refine.{Refined, Fits, bound, is_name, made_part, target_of_default, rest_of, array_parts_of, property_part, object_parts_of, refine}
use Rattle.es6_reading.proofs.RefineTargetOf.{simple-is-no-literal}
use Rattle.es6_reading.proofs.RefineTargets.{HasNoDefault, reads_part, target-alone, part-alone, name-across}
use Rattle.es6_reading.proofs.RefineParameters.{IsNoSequence}
use Rattle.es6_reading.proofs.Enough.{Sure, sure-now, sure-next, sure-then, sure-both, sure-within, map-refined, cons-refined}
use Rattle.es6_reading.proofs.CoverBinds.{name-expression, free-target, names-bound}
use Rattle.es6_reading.proofs.CoverSimple.{simple-sure, simple-is-alone, simple-has-no-default, simple-is-no-sequence, simple-span}

pub lower : {f : Flags} {high least : ℕ} {ts us : List Filled} {x : Expression} → least ≤ high → IsExpression f high ts x us → IsExpression f least ts x us
lower h (g.at_level level x k d) = g.at_level level x (through h k) d
  where
    through : {a b c : ℕ} → a ≤ b → b ≤ c → a ≤ c
    through h k = omega arith

-- ## What expressions are found

-- a target
pub record TargetFrom (b : Bool) (f : Flags) (ts us : List Filled) (p : Pattern) : Type 0 where
  pub value : Expression
  pub derived : IsExpression f level_left_hand_side ts value us
  pub span : span_of value ≡ across ts us
  pub no_default : HasNoDefault (out-Expression value)
  pub no_sequence : IsNoSequence (out-Expression value)
  pub sure : Sure (λ n. refine b n value) p

-- a part
pub record PartFrom (b : Bool) (f : Flags) (ts us : List Filled) (q : Part) : Type 0 where
  pub value : Expression
  pub derived : IsExpression (with_in f) level_assignment ts value us
  pub no_sequence : IsNoSequence (out-Expression value)
  pub sure : Sure (λ n. reads_part b n value) q

-- the parts of an array pattern
record ElementsFrom (b : Bool) (f : Flags) (ts us : List Filled) (parts : List ArrayPart) : Type 0 where
  comma : Bool
  elements : List Element
  derived : AreElements f comma ts elements us
  sure : Sure (λ n. array_parts_of b comma (refine b n) (reads_part b n) elements) parts

record RestFrom (b : Bool) (f : Flags) (ts us : List Filled) (p : Pattern) : Type 0 where
  value : Expression
  derived : IsExpression f level_left_hand_side ts value us
  sure : Sure (λ n. rest_of b (refine b n) value) p

-- the parts of an object pattern
record PropertiesFrom (b : Bool) (f : Flags) (ts us : List Filled) (parts : List ObjectPart) : Type 0 where
  properties : List Property
  derived : AreProperties f ts properties us
  sure : Sure (λ n. object_parts_of (reads_part b n) properties) parts

record PropertyFrom (b : Bool) (f : Flags) (ts us : List Filled) (e : ObjectPart) : Type 0 where
  value : Property
  derived : IsProperty f ts value us
  sure : Sure (λ n. property_part (reads_part b n) (out-Property value)) e

-- ## Targets by themselves

pub name-is-bound : (n : Identifier) → bound (expr.Name n.span n.name) ≡ Fits tt
name-is-bound n = rw (bound, is_name, expr.outs-Name) refl

name-from : {f : Flags} {ts us : List Filled} {n : Identifier} {p : Pattern} → IsName ts n us → p ≡ pattern.Target (expr.Name n.span n.name) → TargetFrom true f ts us p
name-from {n = n} d e = record {
  value = expr.Name n.span n.name;
  derived = name-expression d;
  span = rw expr.outs-Name (name-across d);
  no_default = rw expr.outs-Name tt;
  no_sequence = rw expr.outs-Name tt;
  sure = sure-next (λ m. rw (e, expr.outs-Name) (map-refined (λ u. pattern.Target (expr.Name n.span n.name)) (name-is-bound n) refl));
}

pub simple-refined : {f : Flags} {ts us : List Filled} {p : Pattern} {y : Expression} → IsExpression f level_left_hand_side ts y us → is_simple y ≡ true → p ≡ pattern.Target y → Sure (λ n. refine false n y) p
simple-refined {y = y} d s e = sure-within (simple-sure d s) (λ n k. target-alone false n _ _ y (out-Expression y) (simple-is-alone y s) ∙ map-refined (λ u. pattern.Target y) k e)

simple-from : {f : Flags} {ts us : List Filled} {p : Pattern} {y : Expression} → IsExpression f level_left_hand_side ts y us → is_simple y ≡ true → p ≡ pattern.Target y → TargetFrom false f ts us p
simple-from {y = y} d s e = record {
  value = y;
  derived = d;
  span = simple-span d s;
  no_default = simple-has-no-default y s;
  no_sequence = simple-is-no-sequence y s;
  sure = simple-refined d s e;
}

array-from : {b : Bool} {f : Flags} {t : Filled} {ts us : List Filled} {parts : List ArrayPart} {p : Pattern} → IsMark mark.LeftBracket t → ElementsFrom b f ts us parts → p ≡ pattern.ArrayPattern (across (t ∷ ts) us) parts → TargetFrom b f (t ∷ ts) us p
array-from {t = t} {ts = ts} {us = us} h xs e = record {
  value = expr.ArrayList (across (t ∷ ts) us) xs.elements xs.comma;
  derived = g.at_level level_primary _ (omega arith) (g.array xs.elements _ h xs.derived refl);
  span = rw expr.outs-ArrayList refl;
  no_default = rw expr.outs-ArrayList tt;
  no_sequence = rw expr.outs-ArrayList tt;
  sure = sure-within xs.sure (λ n k. rw expr.outs-ArrayList (map-refined (pattern.ArrayPattern (across (t ∷ ts) us)) k e));
}

object-from : {b : Bool} {f : Flags} {t : Filled} {ts us : List Filled} {parts : List ObjectPart} {p : Pattern} → IsMark mark.LeftBrace t → PropertiesFrom b f ts us parts → p ≡ pattern.ObjectPattern (across (t ∷ ts) us) parts → TargetFrom b f (t ∷ ts) us p
object-from {t = t} {ts = ts} {us = us} h xs e = record {
  value = expr.ObjectList (across (t ∷ ts) us) xs.properties;
  derived = g.at_level level_primary _ (omega arith) (g.object xs.properties _ h xs.derived refl);
  span = rw expr.outs-ObjectList refl;
  no_default = rw expr.outs-ObjectList tt;
  no_sequence = rw expr.outs-ObjectList tt;
  sure = sure-within xs.sure (λ n k. rw expr.outs-ObjectList (map-refined (pattern.ObjectPattern (across (t ∷ ts) us)) k e));
}

-- ## Parts

pub no-pattern : (y : Expression) → is_simple y ≡ true → is_pattern y ≡ false
no-pattern y s = ap (λ l. l && is_none (misfit y)) (simple-is-no-literal y s)

pub assigned-target : {f : Flags} {ts us : List Filled} {p : Pattern} → IsTarget f false ts p us → IsAssigned f assign.Assign ts p us
assigned-target (g.simple_target y x d s e) = g.assigned_target y x d (no-pattern y s) e
assigned-target (g.nested_pattern x d) = g.assigned_pattern x d

free : (b : Bool) {f : Flags} {ts us : List Filled} {p : Pattern} → IsTarget f b ts p us → IsTarget f false ts p us
free true d = free-target d
free false d = d

-- before a default the target stays what it is
pub default-sure : (b : Bool) {f : Flags} {ts us : List Filled} {p : Pattern} → IsTarget f b ts p us → Sure (λ n. target_of_default b n (refine b n) p (out-Pattern p)) p
default-sure true {p = p} d = sure-then (names-bound d) (λ n k. map-refined (λ u. p) k refl)
default-sure false (g.simple_target y x d s e) = sure-then (simple-refined d s e) (λ n k. rw (e, pattern.outs-Target) (k ∙ ap Fits e))
default-sure false (g.nested_pattern x (g.array_pattern parts x' h d e)) = sure-now (λ n. rw (e, pattern.outs-ArrayPattern) refl)
default-sure false (g.nested_pattern x (g.object_pattern parts x' h d e)) = sure-now (λ n. rw (e, pattern.outs-ObjectPattern) refl)

alone-from : {b : Bool} {f : Flags} {ts us : List Filled} {p : Pattern} {q : Part} → TargetFrom b (with_in f) ts us p → q ≡ made_part (across ts us) None p → PartFrom b f ts us q
alone-from {b = b} {p = p} t e = record {
  value = t.value;
  derived = lower (omega arith) t.derived;
  no_sequence = t.no_sequence;
  sure = sure-then t.sure (λ n k. part-alone b n (refine b n) t.value (out-Expression t.value) t.no_default ∙ map-refined (made_part (span_of t.value) None) k (e ∙ ap (λ s. made_part s None p) (sym t.span)));
}

default-from : {b : Bool} {f : Flags} {equals : Filled} {ts us vs : List Filled} {p : Pattern} {value : Expression} {q : Part} → IsTarget (with_in f) b ts p (equals ∷ us) → IsMark mark.Assign equals → IsExpression (with_in f) level_assignment us value vs → q ≡ made_part (across ts vs) (Some value) p → PartFrom b f ts vs q
default-from {b = b} {ts = ts} {vs = vs} {p = p} {value = value} d h v e = record {
  value = expr.Assign (across ts vs) assign.Assign p value;
  derived = g.at_level level_assignment _ (omega arith) (g.assignment assign.Assign p value _ (assigned-target (free b d)) h v refl);
  no_sequence = rw expr.outs-Assign tt;
  sure = sure-then (default-sure b d) (λ n k. rw expr.outs-Assign (map-refined (made_part (across ts vs) (Some value)) k e));
}

-- ## Elements

-- an element and those after it: a comma after the last one is no hole
record Joined (f : Flags) (ts us : List Filled) (a : Argument) (comma : Bool) (elements : List Element) : Type 0 where
  ends : Bool
  derived : AreElements f ends ts (element.Present a ∷ elements) us
  same : (b : Bool) (t : Expression → Refined Pattern) (p : Expression → Refined Part) → array_parts_of b ends t p elements ≡ array_parts_of b comma t p elements

join : {f : Flags} {c : Bool} {comma : Filled} {ts us vs : List Filled} {a : Argument} {elements : List Element} → IsArgument f ts a (comma ∷ us) → IsMark mark.Comma comma → AreElements f c us elements vs → Joined f ts vs a c elements
join {a = a} d m (g.no_element h) = record { ends = true; derived = g.comma_element _ a d m h refl; same = λ b t p. refl }
join {c = c} {a = a} d m (g.hole e es h k ds) = record { ends = c; derived = g.next_element _ e es a d m refl (g.hole e es h k ds); same = λ b t p. refl }
join {a = a} d m (g.last_element e a' d' h k) = record { ends = false; derived = g.next_element _ e [] a d m refl (g.last_element e a' d' h k); same = λ b t p. refl }
join {a = a} d m (g.comma_element e a' d' m' h k) = record { ends = true; derived = g.next_element _ e [] a d m refl (g.comma_element e a' d' m' h k); same = λ b t p. refl }
join {c = c} {a = a} d m (g.next_element e e' es a' d' m' k ds) = record { ends = c; derived = g.next_element _ e (e' ∷ es) a d m refl (g.next_element e e' es a' d' m' k ds); same = λ b t p. refl }

single-argument : {b : Bool} {f : Flags} {ts us : List Filled} {q : Part} → (x : PartFrom b f ts us q) → IsArgument f ts (argument.Single x.value) us
single-argument x = g.single_argument x.value _ x.derived refl

skipped-from : {b : Bool} {f : Flags} {comma : Filled} {ts us : List Filled} {e : ArrayPart} {es : List ArrayPart} → IsMark mark.Comma comma → e ≡ SkippedPart → ElementsFrom b f ts us es → ElementsFrom b f (comma ∷ ts) us (e ∷ es)
skipped-from h k r = record {
  comma = r.comma;
  elements = element.Hole ∷ r.elements;
  derived = g.hole _ r.elements h refl r.derived;
  sure = sure-then r.sure (λ n j. rw element.outs-Hole (cons-refined (ap Fits (sym k)) j));
}

last-from : {b : Bool} {f : Flags} {close : Filled} {ts us : List Filled} {q : Part} {e : ArrayPart} → PartFrom b f ts (close ∷ us) q → IsMark mark.RightBracket close → e ≡ SinglePart q → ElementsFrom b f ts us (e ∷ [])
last-from x h k = record {
  comma = false;
  elements = element.Present (argument.Single x.value) ∷ [];
  derived = g.last_element _ _ (single-argument x) h refl;
  sure = sure-then x.sure (λ n j. rw (element.outs-Present, argument.outs-Single) (cons-refined (map-refined SinglePart j k) refl));
}

next-from : {b : Bool} {f : Flags} {comma : Filled} {ts us vs : List Filled} {q : Part} {e : ArrayPart} {es : List ArrayPart} → PartFrom b f ts (comma ∷ us) q → IsMark mark.Comma comma → e ≡ SinglePart q → ElementsFrom b f us vs es → ElementsFrom b f ts vs (e ∷ es)
next-from {b = b} x m k r =
    let j = join (single-argument x) m r.derived in
    record {
      comma = j.ends;
      elements = element.Present (argument.Single x.value) ∷ r.elements;
      derived = j.derived;
      sure = sure-both x.sure r.sure (λ n i i'. rw (element.outs-Present, argument.outs-Single) (cons-refined (map-refined SinglePart i k) (j.same b _ _ ∙ i')));
    }

rest-from : {b : Bool} {f : Flags} {t close : Filled} {ts us : List Filled} {p : Pattern} {e : ArrayPart} → IsMark mark.Ellipsis t → RestFrom b (with_in f) ts (close ∷ us) p → IsMark mark.RightBracket close → e ≡ RestPart (across (t ∷ ts) (close ∷ us)) p → ElementsFrom b f (t ∷ ts) us (e ∷ [])
rest-from {t = t} {close = close} {ts = ts} {us = us} h x k q = record {
  comma = false;
  elements = element.Present (argument.Spread (across (t ∷ ts) (close ∷ us)) x.value) ∷ [];
  derived = g.last_element _ _ (g.spread_argument x.value _ h (lower (omega arith) x.derived) refl) k refl;
  sure = sure-then x.sure (λ n j. rw (element.outs-Present, argument.outs-Spread) (cons-refined (map-refined (RestPart (across (t ∷ ts) (close ∷ us))) j q) refl));
}

-- ## Properties

key-out : {f : Flags} {ts us : List Filled} {k : Key} → IsKey (with_in f) ts k us → IsKey f ts k us
key-out (g.word_key word k h e) = g.word_key word k h e
key-out (g.text_key units k h e) = g.text_key units k h e
key-out (g.integer_key value k h e) = g.integer_key value k h e
key-out (g.computed_key value k p d q e) = g.computed_key value k p d q e

keyed-from : {b : Bool} {f : Flags} {colon : Filled} {ts us vs : List Filled} {k : Key} {q : Part} {e : ObjectPart} → IsKey (with_in f) ts k (colon ∷ us) → IsMark mark.Colon colon → PartFrom b f us vs q → e ≡ KeyedPart (across ts vs) k q → PropertyFrom b f ts vs e
keyed-from {ts = ts} {vs = vs} {k = k} d h x i = record {
  value = property.Plain (across ts vs) k x.value;
  derived = g.plain_property k x.value _ (key-out d) h x.derived refl;
  sure = sure-then x.sure (λ n j. rw property.outs-Plain (map-refined (KeyedPart (across ts vs) k) j i));
}

-- ## All together

mutual
  pub target-from : (b : Bool) (f : Flags) {ts us : List Filled} {p : Pattern} → IsTarget f b ts p us → TargetFrom b f ts us p
  target-from b f (g.bound_name n x d e) = name-from d e
  target-from b f (g.simple_target y x d s e) = simple-from d s e
  target-from b f (g.nested_pattern x (g.array_pattern parts x' h d e)) = array-from h (elements-from b f d) e
  target-from b f (g.nested_pattern x (g.object_pattern parts x' h d e)) = object-from h (properties-from b f d) e

  pub part-from : (b : Bool) (f : Flags) {ts us : List Filled} {q : Part} → IsPart (with_in f) b ts q us → PartFrom b f ts us q
  part-from b f (g.part_alone x q d e) = alone-from (target-from b (with_in f) d) e
  part-from b f (g.part_with_default x value q d h v e) = default-from d h v e

  elements-from : (b : Bool) (f : Flags) {ts us : List Filled} {parts : List ArrayPart} → AreArrayParts (with_in f) b ts parts us → ElementsFrom b f ts us parts
  elements-from b f (g.no_array_part h) = record { comma = false; elements = []; derived = g.no_element h; sure = sure-now (λ n. refl) }
  elements-from b f (g.skipped_part e es h k d) = skipped-from h k (elements-from b f d)
  elements-from b f (g.rest_part x e h d k q) = rest-from h (rest-of-from b (with_in f) d) k q
  elements-from b f (g.last_array_part q e d h k) = last-from (part-from b f d) h k
  elements-from b f (g.next_array_part q e es d m k ds) = next-from (part-from b f d) m k (elements-from b f ds)

  rest-of-from : (b : Bool) (f : Flags) {ts us : List Filled} {p : Pattern} → IsRest f b ts p us → RestFrom b f ts us p
  rest-of-from b f (g.bound_rest n x d e) = record { value = expr.Name n.span n.name; derived = name-expression d; sure = sure-now (λ m. rw e (map-refined (λ u. pattern.Target (expr.Name n.span n.name)) (name-is-bound n) refl)) }
  rest-of-from b f (g.assigned_rest x d) = let t = target-from false f d in record { value = t.value; derived = t.derived; sure = t.sure }

  properties-from : (b : Bool) (f : Flags) {ts us : List Filled} {parts : List ObjectPart} → AreObjectParts (with_in f) b ts parts us → PropertiesFrom b f ts us parts
  properties-from b f (g.no_object_part h) = record { properties = []; derived = g.no_property h; sure = sure-now (λ n. refl) }
  properties-from b f (g.last_object_part e d h) = let x = property-from b f d in record { properties = x.value ∷ []; derived = g.last_property x.value x.derived h; sure = sure-then x.sure (λ n k. cons-refined k refl) }
  properties-from b f (g.next_object_part e es d m ds) = let x = property-from b f d in let xs = properties-from b f ds in record { properties = x.value ∷ xs.properties; derived = g.next_property x.value xs.properties x.derived m xs.derived; sure = sure-both x.sure xs.sure (λ n k j. cons-refined k j) }

  property-from : (b : Bool) (f : Flags) {ts us : List Filled} {e : ObjectPart} → IsObjectPart (with_in f) b ts e us → PropertyFrom b f ts us e
  property-from b f (g.named_part n e d k) = record { value = property.Shorthand n.span n.name; derived = g.shorthand_property n _ d refl; sure = sure-now (λ m. rw (k, property.outs-Shorthand) refl) }
  property-from b f (g.named_part_with_default {equals = equals} {ts = ts} {vs = vs} n value e d h v k) = record { value = property.Initialized (across ts vs) n equals.span value; derived = g.initialized_property n value _ d h v refl; sure = sure-now (λ m. rw (k, property.outs-Initialized) refl) }
  property-from b f (g.keyed_part k q e d h p i) = keyed-from d h (part-from b f p) i
