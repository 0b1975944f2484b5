-- What is derived as a pattern, or as parameters, is read as an expression that is refined to it, if its parts are read as they
-- are derived.
use Rattle.std.proofs.Common.{◌≡◌, ℕ, ◌≤◌, Bool, true, false, List, [], ◌∷◌, Some, None, refl, sym, ap, ◌∙◌, arith}
use Rattle.std.proofs.lemmas.Bool.{false≢true}
use Rattle.es6_lexer.specs.declared.token.Punctuator.TheVariants as marks
use Rattle.es6_ast.specs.declared.operators.AssignOperator.TheVariants as assign
use Rattle.es6_ast.specs.declared.tree.Identifier.{Identifier}
use Rattle.es6_ast.specs.declared.tree.Expression.{Expression, out-Expression}
use Rattle.es6_ast.specs.declared.tree.Expression.TheVariants as expr
use Rattle.es6_ast.specs.declared.tree.Pattern.{Pattern}
use Rattle.es6_ast.specs.declared.tree.Pattern.TheVariants as pattern
use Rattle.es6_ast.specs.declared.tree.ArrayPart.{ArrayPart}
use Rattle.es6_ast.specs.declared.tree.ArrayPart.TheVariants.{SkippedPart, SinglePart, RestPart}
use Rattle.es6_ast.specs.declared.tree.ObjectPart.{ObjectPart}
use Rattle.es6_ast.specs.declared.tree.ObjectPart.TheVariants.{NamedPart, KeyedPart}
use Rattle.es6_ast.specs.declared.tree.Element.{Element}
use Rattle.es6_ast.specs.declared.tree.Element.TheVariants as element
use Rattle.es6_ast.specs.declared.tree.Argument.TheVariants as argument
use Rattle.es6_ast.specs.declared.tree.Property.{Property, out-Property}
use Rattle.es6_ast.specs.declared.tree.Property.TheVariants as property
use Rattle.es6_ast.specs.declared.tree.Key.{Key}
use Rattle.es6_ast.specs.declared.tree.Part.{Part}
use Rattle.es6_ast.specs.declared.settings.Flags.{Flags}
use Rattle.es6_ast.specs.Tokens.{Filled, IsMark, across}
use Rattle.es6_ast.specs.Targets.{is_simple}
use Rattle.es6_ast.specs.Grammar.{with_in, level_left_hand_side, name_target, name_alone, IsName, IsExpression, IsTarget}
use Rattle.es6_reading.specs.Parser.{mark}
use Rattle.es6_ast.specs.Spans.{span_of}
use Rattle.es6_reading.specs.Refine.{Fits, made_part, rest_of, else_itself, array_parts_of, property_part, object_parts_of, refine, refine_pattern, target_before}
use Rattle.es6_reading.proofs.Posts.{Misses}
use Rattle.es6_reading.proofs.RefineTargets.{HasNoDefault, reads_part, part-alone, name-across}
use Rattle.es6_reading.proofs.RefineParameters.{IsNoSequence}
use Rattle.es6_reading.proofs.Enough.{Sure, sure-now, sure-next, sure-then, sure-both, sure-within, map-refined, cons-refined}
use Rattle.es6_reading.proofs.CoverBinds.{name-expression, name-is-simple, free-target}
use Rattle.es6_reading.proofs.CoverSimple.{simple-has-no-default, simple-is-no-sequence, simple-span}
use Rattle.es6_reading.proofs.Covers.{name-is-bound, simple-refined, default-sure}
use Rattle.es6_reading.proofs.CompleteImports.{mark-no-mark}
use Rattle.es6_reading.proofs.CompleteClaims.{Claim, claim-down, begins-no-square}
use Rattle.es6_reading.proofs.CompleteLists.{single-claim, spread-claim, ElementsRead, elements-none, elements-hole, elements-last, elements-comma, elements-next}
use Rattle.es6_reading.proofs.CompletePrimary.{name-claim, array-claim}
use Rattle.es6_reading.proofs.CompleteAssignments.{assignment-claim}
use Rattle.es6_reading.proofs.CompleteObjects.{PropertyClaim, shorthand-claim, initialized-claim, PropertiesRead, properties-none, properties-last, properties-next, object-claim}
use Rattle.es6_reading.proofs.CompleteKeys.{KeyClaim, plain-claim}
use Rattle.es6_reading.proofs.CompleteParameters.{key-like}

-- The way of refining is that of the pattern: what binds may also be assigned.
abbrev pub Within : Bool → Bool → Type 0
Within c b = c ≡ true → b ≡ true

assigned-only : {A : Type 0} → Within true false → A
assigned-only w = absurd (false≢true (w refl))

pub freely : {b : Bool} → Within false b
freely e = absurd (false≢true e)

-- ## Targets

pub record TargetRead (b : Bool) (f : Flags) (ts us : List Filled) (p : Pattern) : Type 0 where
  pub value : Expression
  pub claim : Claim f 16 ts us value
  pub span : span_of value ≡ across ts us
  pub no_default : HasNoDefault (out-Expression value)
  pub no_sequence : IsNoSequence (out-Expression value)
  pub sure : (c : Bool) → Within c b → Sure (λ n. refine c n value) p

left : (f : Flags) {ts us : List Filled} {x : Expression} → Claim f 19 ts us x → Claim f 16 ts us x
left f {ts = ts} {us = us} {x = x} c = claim-down f 16 19 ts us x (omega arith) c

name-sure : (f : Flags) {ts us : List Filled} {n : Identifier} {p : Pattern} → IsName ts n us → p ≡ name_target n → (c : Bool) → Sure (λ m. refine c m (expr.Name n.span n.name)) p
name-sure f {n = n} d e true = sure-next (λ m. rw (e, expr.outs-Name) (map-refined (λ u. pattern.Target (expr.Name n.span n.name)) (name-is-bound n) refl))
name-sure f {n = n} d e false = simple-refined (name-expression {f = f} d) (name-is-simple n) e

pub name-target-read : (b : Bool) (f : Flags) {ts us : List Filled} {n : Identifier} {p : Pattern} → IsName ts n us → p ≡ name_target n → TargetRead b f ts us p
name-target-read b f {n = n} d e = record {
  value = expr.Name n.span n.name;
  claim = left f (name-claim f d refl);
  span = rw expr.outs-Name (name-across d);
  no_default = rw expr.outs-Name tt;
  no_sequence = rw expr.outs-Name tt;
  sure = λ c w. name-sure f d e c;
}

pub simple-target-read : (f : Flags) {ts us : List Filled} {p : Pattern} {y : Expression} → IsExpression f level_left_hand_side ts y us → Claim f 16 ts us y → is_simple y ≡ true → p ≡ pattern.Target y → TargetRead false f ts us p
simple-target-read f {us = us} {p = p} {y = y} d k s e = record {
  value = y;
  claim = k;
  span = simple-span d s;
  no_default = simple-has-no-default y s;
  no_sequence = simple-is-no-sequence y s;
  sure = at;
}
  where
    at : (c : Bool) → Within c false → Sure (λ n. refine c n y) p
    at true w = assigned-only w
    at false w = simple-refined d s e

-- ## Parts

pub record PartRead (b : Bool) (f : Flags) (ts us : List Filled) (q : Part) : Type 0 where
  pub value : Expression
  pub claim : Claim (with_in f) 1 ts us value
  pub no_sequence : IsNoSequence (out-Expression value)
  pub sure : (c : Bool) → Within c b → Sure (λ n. reads_part c n value) q

pub part-alone-read : (b : Bool) (f : Flags) {ts us : List Filled} {p : Pattern} {q : Part} → TargetRead b (with_in f) ts us p → q ≡ made_part (across ts us) None p → PartRead b f ts us q
part-alone-read b f {ts = ts} {us = us} {p = p} t e = record {
  value = t.value;
  claim = claim-down (with_in f) 1 16 ts us t.value (omega arith) t.claim;
  no_sequence = t.no_sequence;
  sure = λ c w. sure-then (t.sure c w) (λ n k. part-alone c n (refine c n) t.value (out-Expression t.value) t.no_default ∙ map-refined (made_part (span_of t.value) None) k (e ∙ ap (λ s. made_part s None p) (sym t.span)));
}

freed : (b c : Bool) {f : Flags} {ts us : List Filled} {p : Pattern} → Within c b → IsTarget f b ts p us → IsTarget f c ts p us
freed true true w d = d
freed true false w d = free-target d
freed false true w d = assigned-only w
freed false false w d = d

pub assigned-before : {f : Flags} {b : Bool} {ts us : List Filled} {p : Pattern} (t : TargetRead b f ts us p) → (n : ℕ) → (t.sure false freely).enough ≤ n → target_before n assign.Assign t.value ≡ Fits p
unfolding target_before refine_pattern
assigned-before t n l = ap (λ r. else_itself t.value r) ((t.sure false freely).refined n l)

pub part-with-default-read : (b : Bool) (f : Flags) {equals : Filled} {ts us vs : List Filled} {p : Pattern} {value : Expression} {q : Part} → IsTarget (with_in f) b ts p (equals ∷ us) → TargetRead b (with_in f) ts (equals ∷ us) p → IsMark marks.Assign equals → Claim (with_in f) 1 us vs value → q ≡ made_part (across ts vs) (Some value) p → PartRead b f ts vs q
part-with-default-read b f {ts = ts} {vs = vs} {p = p} {value = value} d t h v e = record {
  value = expr.Assign (across ts vs) assign.Assign p value;
  claim = assignment-claim (with_in f) assign.Assign t.claim (t.sure false freely).enough (assigned-before t) h v refl;
  no_sequence = rw expr.outs-Assign tt;
  sure = λ c w. sure-then (default-sure c (freed b c w d)) (λ n k. rw expr.outs-Assign (map-refined (made_part (across ts vs) (Some value)) k e));
}

-- ## Array patterns

-- no parts, or elements that don't close at once
pub data PartsRead (b : Bool) (f : Flags) : List Filled → List ArrayPart → List Filled → Type 0 where
  no_parts : {close : Filled} {ts : List Filled} → IsMark marks.RightBracket close → PartsRead b f (close ∷ ts) [] ts
  some_parts : {ts us : List Filled} {parts : List ArrayPart} (comma : Bool) (d : Element) (es : List Element) → Misses (mark marks.RightBracket) ts → ElementsRead f comma ts (d ∷ es) us → ((c : Bool) → Within c b → Sure (λ n. array_parts_of c comma (refine c n) (reads_part c n) (d ∷ es)) parts) → PartsRead b f ts parts us

pub skipped-read : (b : Bool) (f : Flags) {comma : Filled} {ts us : List Filled} {e : ArrayPart} {es : List ArrayPart} → IsMark marks.Comma comma → e ≡ SkippedPart → PartsRead b f ts es us → PartsRead b f (comma ∷ ts) (e ∷ es) us
skipped-read b f {comma = t} h k (no_parts q) = some_parts false element.Hole [] (mark-no-mark marks.RightBracket marks.Comma t h refl) (elements-hole f h refl (elements-none f q)) (λ c w. sure-now (λ n. rw element.outs-Hole (cons-refined (ap Fits (sym k)) refl)))
skipped-read b f {comma = t} h k (some_parts comma d es m y s) = some_parts comma element.Hole (d ∷ es) (mark-no-mark marks.RightBracket marks.Comma t h refl) (elements-hole f h refl y) (λ c w. sure-then (s c w) (λ n j. rw element.outs-Hole (cons-refined (ap Fits (sym k)) j)))

pub last-part-read : (b : Bool) (f : Flags) {close : Filled} {ts us : List Filled} {q : Part} {e : ArrayPart} → PartRead b f ts (close ∷ us) q → IsMark marks.RightBracket close → e ≡ SinglePart q → PartsRead b f ts (e ∷ []) us
last-part-read b f {ts = ts} x h k = some_parts false (element.Present (argument.Single x.value)) [] (begins-no-square (with_in f) ts x.claim.begins) (elements-last f (single-claim f x.claim refl) h refl)
    (λ c w. sure-then (x.sure c w) (λ n j. rw (element.outs-Present, argument.outs-Single) (cons-refined (map-refined SinglePart j k) refl)))

pub next-part-read : (b : Bool) (f : Flags) {comma : Filled} {ts us vs : List Filled} {q : Part} {e : ArrayPart} {es : List ArrayPart} → PartRead b f ts (comma ∷ us) q → IsMark marks.Comma comma → e ≡ SinglePart q → PartsRead b f us es vs → PartsRead b f ts (e ∷ es) vs
next-part-read b f {ts = ts} x m k (no_parts h) = some_parts true (element.Present (argument.Single x.value)) [] (begins-no-square (with_in f) ts x.claim.begins) (elements-comma f (single-claim f x.claim refl) m h refl)
    (λ c w. sure-then (x.sure c w) (λ n j. rw (element.outs-Present, argument.outs-Single) (cons-refined (map-refined SinglePart j k) refl)))
next-part-read b f {ts = ts} x m k (some_parts comma d es n y s) = some_parts comma (element.Present (argument.Single x.value)) (d ∷ es) (begins-no-square (with_in f) ts x.claim.begins) (elements-next f (single-claim f x.claim refl) m refl n y)
    (λ c w. sure-both (x.sure c w) (s c w) (λ i j j'. rw (element.outs-Present, argument.outs-Single) (cons-refined (map-refined SinglePart j k) j')))

-- what follows the `...` of a rest
pub record RestRead (b : Bool) (f : Flags) (ts us : List Filled) (p : Pattern) : Type 0 where
  pub value : Expression
  pub claim : Claim f 16 ts us value
  pub sure : (c : Bool) → Within c b → Sure (λ n. rest_of c (refine c n) value) p

pub bound-rest-read : (b : Bool) (f : Flags) {ts us : List Filled} {n : Identifier} {p : Pattern} → IsName ts n us → p ≡ name_target n → RestRead b f ts us p
bound-rest-read b f {n = n} {p = p} d e = record { value = expr.Name n.span n.name; claim = left f (name-claim f d refl); sure = at }
  where
    at : (c : Bool) → Within c b → Sure (λ m. rest_of c (refine c m) (expr.Name n.span n.name)) p
    at true w = sure-now (λ m. rw e (map-refined (λ u. pattern.Target (expr.Name n.span n.name)) (name-is-bound n) refl))
    at false w = name-sure f d e false

pub assigned-rest-read : (f : Flags) {ts us : List Filled} {p : Pattern} → TargetRead false f ts us p → RestRead false f ts us p
assigned-rest-read f {p = p} t = record { value = t.value; claim = t.claim; sure = at }
  where
    at : (c : Bool) → Within c false → Sure (λ m. rest_of c (refine c m) t.value) p
    at true w = assigned-only w
    at false w = t.sure false w

pub rest-part-read : (b : Bool) (f : Flags) {t close : Filled} {ts us : List Filled} {p : Pattern} {e : ArrayPart} → IsMark marks.Ellipsis t → RestRead b (with_in f) ts (close ∷ us) p → IsMark marks.RightBracket close → e ≡ RestPart (across (t ∷ ts) (close ∷ us)) p → PartsRead b f (t ∷ ts) (e ∷ []) us
rest-part-read b f {t = t} {close = close} {ts = ts} {us = us} h x k q = some_parts false (element.Present (argument.Spread (across (t ∷ ts) (close ∷ us)) x.value)) [] (mark-no-mark marks.RightBracket marks.Ellipsis t h refl)
    (elements-last f (spread-claim f h (claim-down (with_in f) 1 16 ts (close ∷ us) x.value (omega arith) x.claim) refl) k refl)
    (λ c w. sure-then (x.sure c w) (λ n j. rw (element.outs-Present, argument.outs-Spread) (cons-refined (map-refined (RestPart (across (t ∷ ts) (close ∷ us))) j q) refl)))

array-target-with : (b : Bool) (f : Flags) (comma : Bool) (elements : List Element) {t : Filled} {ts us : List Filled} {parts : List ArrayPart} {p : Pattern} → IsMark marks.LeftBracket t → ElementsRead f comma ts elements us → ((c : Bool) → Within c b → Sure (λ n. array_parts_of c comma (refine c n) (reads_part c n) elements) parts)
    → p ≡ pattern.ArrayPattern (across (t ∷ ts) us) parts → TargetRead b f (t ∷ ts) us p
array-target-with b f comma elements {t = t} {ts = ts} {us = us} h y s e = record {
  value = expr.ArrayList (across (t ∷ ts) us) elements comma;
  claim = left f (array-claim f h y refl);
  span = rw expr.outs-ArrayList refl;
  no_default = rw expr.outs-ArrayList tt;
  no_sequence = rw expr.outs-ArrayList tt;
  sure = λ c w. sure-within (s c w) (λ n k. rw expr.outs-ArrayList (map-refined (pattern.ArrayPattern (across (t ∷ ts) us)) k e));
}

pub array-target-read : (b : Bool) (f : Flags) {t : Filled} {ts us : List Filled} {parts : List ArrayPart} {p : Pattern} → IsMark marks.LeftBracket t → PartsRead b f ts parts us → p ≡ pattern.ArrayPattern (across (t ∷ ts) us) parts → TargetRead b f (t ∷ ts) us p
array-target-read b f h (no_parts q) e = array-target-with b f false [] h (elements-none f q) (λ c w. sure-now (λ n. refl)) e
array-target-read b f h (some_parts comma d es m y s) e = array-target-with b f comma (d ∷ es) h y s e

-- ## Object patterns

pub record PropertyRead (b : Bool) (f : Flags) (ts us : List Filled) (e : ObjectPart) : Type 0 where
  pub value : Property
  pub claim : PropertyClaim f ts us value
  pub sure : (c : Bool) → Within c b → Sure (λ n. property_part (reads_part c n) (out-Property value)) e

pub record ObjectRead (b : Bool) (f : Flags) (ts us : List Filled) (parts : List ObjectPart) : Type 0 where
  pub properties : List Property
  pub reads : PropertiesRead f ts properties us
  pub sure : (c : Bool) → Within c b → Sure (λ n. object_parts_of (reads_part c n) properties) parts

pub named-read : (b : Bool) (f : Flags) {ts us : List Filled} {n : Identifier} {e : ObjectPart} → IsName ts n us → e ≡ NamedPart (name_alone n) → PropertyRead b f ts us e
named-read b f {n = n} d k = record { value = property.Shorthand n.span n.name; claim = shorthand-claim f d refl; sure = λ c w. sure-now (λ m. rw (k, property.outs-Shorthand) refl) }

pub named-default-read : (b : Bool) (f : Flags) {equals : Filled} {ts us vs : List Filled} {n : Identifier} {value : Expression} {e : ObjectPart} → IsName ts n (equals ∷ us) → IsMark marks.Assign equals → Claim (with_in f) 1 us vs value → e ≡ NamedPart (made_part (across ts vs) (Some value) (name_target n)) → PropertyRead b f ts vs e
named-default-read b f {equals = equals} {ts = ts} {vs = vs} {n = n} {value = value} d h v k = record {
  value = property.Initialized (across ts vs) n equals.span value;
  claim = initialized-claim f d h v refl;
  sure = λ c w. sure-now (λ m. rw (k, property.outs-Initialized) refl);
}

pub keyed-read : (b : Bool) (f : Flags) {colon : Filled} {ts us vs : List Filled} {k : Key} {q : Part} {e : ObjectPart} → KeyClaim (with_in f) ts k (colon ∷ us) → IsMark marks.Colon colon → PartRead b f us vs q → e ≡ KeyedPart (across ts vs) k q → PropertyRead b f ts vs e
keyed-read b f {ts = ts} {vs = vs} {k = k} d h x i = record {
  value = property.Plain (across ts vs) k x.value;
  claim = plain-claim f (key-like (with_in f) f refl d) h x.claim refl;
  sure = λ c w. sure-then (x.sure c w) (λ n j. rw property.outs-Plain (map-refined (KeyedPart (across ts vs) k) j i));
}

pub no-properties-read : (b : Bool) (f : Flags) {close : Filled} {ts : List Filled} → IsMark marks.RightBrace close → ObjectRead b f (close ∷ ts) ts []
no-properties-read b f h = record { properties = []; reads = properties-none f h; sure = λ c w. sure-now (λ n. refl) }

pub last-property-read : (b : Bool) (f : Flags) {close : Filled} {ts us : List Filled} {e : ObjectPart} → PropertyRead b f ts (close ∷ us) e → IsMark marks.RightBrace close → ObjectRead b f ts us (e ∷ [])
last-property-read b f x h = record { properties = x.value ∷ []; reads = properties-last f x.claim h; sure = λ c w. sure-then (x.sure c w) (λ n k. cons-refined k refl) }

pub next-property-read : (b : Bool) (f : Flags) {comma : Filled} {ts us vs : List Filled} {e : ObjectPart} {es : List ObjectPart} → PropertyRead b f ts (comma ∷ us) e → IsMark marks.Comma comma → ObjectRead b f us vs es → ObjectRead b f ts vs (e ∷ es)
next-property-read b f x h xs = record { properties = x.value ∷ xs.properties; reads = properties-next f x.claim h xs.reads; sure = λ c w. sure-both (x.sure c w) (xs.sure c w) (λ n k j. cons-refined k j) }

pub object-target-read : (b : Bool) (f : Flags) {t : Filled} {ts us : List Filled} {parts : List ObjectPart} {p : Pattern} → IsMark marks.LeftBrace t → ObjectRead b f ts us parts → p ≡ pattern.ObjectPattern (across (t ∷ ts) us) parts → TargetRead b f (t ∷ ts) us p
object-target-read b f {t = t} {ts = ts} {us = us} h xs e = record {
  value = expr.ObjectList (across (t ∷ ts) us) xs.properties;
  claim = left f (object-claim f h xs.reads refl);
  span = rw expr.outs-ObjectList refl;
  no_default = rw expr.outs-ObjectList tt;
  no_sequence = rw expr.outs-ObjectList tt;
  sure = λ c w. sure-within (xs.sure c w) (λ n k. rw expr.outs-ObjectList (map-refined (pattern.ObjectPattern (across (t ∷ ts) us)) k e));
}
