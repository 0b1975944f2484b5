-- Whatever is derived is refined, or found to be none, once it is looked into deep enough.
use Rattle.std.proofs.Common.{◌≡◌, ℕ, Bool, true, false, List, [], ◌∷◌, Some, None, ap, ◌∙◌}
use Rattle.es_text.specs.declared.Span.{Span}
use Rattle.es6_ast.specs.declared.operators.AssignOperator.{AssignOperator}
use Rattle.es6_ast.specs.declared.operators.AssignOperator.TheVariants as assign
use Rattle.es6_ast.specs.declared.tree.Expression.{Expression, out-Expression}
use Rattle.es6_ast.specs.declared.tree.Expression.TheVariants as expr
use Rattle.es6_ast.specs.declared.tree.Pattern.{Pattern, out-Pattern}
use Rattle.es6_ast.specs.declared.tree.Pattern.TheVariants as pattern
use Rattle.es6_ast.specs.declared.tree.ArrayPart.TheVariants.{SkippedPart, SinglePart, RestPart}
use Rattle.es6_ast.specs.declared.tree.ObjectPart.TheVariants.{KeyedPart}
use Rattle.es6_ast.specs.declared.tree.Element.{Element}
use Rattle.es6_ast.specs.declared.tree.Element.TheVariants as element
use Rattle.es6_ast.specs.declared.tree.Argument.{Argument, out-Argument}
use Rattle.es6_ast.specs.declared.tree.Argument.TheVariants as argument
use Rattle.es6_ast.specs.declared.tree.Property.{Property, out-Property}
use Rattle.es6_ast.specs.declared.tree.Property.TheVariants as property
use Rattle.es6_ast.specs.declared.tree.Argument.TheOpen as layer
use Rattle.es6_ast.specs.declared.tree.Argument.TheOpen.{Expression-F}
use Rattle.es6_ast.specs.declared.settings.Flags.{Flags}
use Rattle.es6_ast.specs.Tokens.{Filled}
use Rattle.es6_ast.specs.Grammar as g
use Rattle.es6_ast.specs.Grammar.{IsExpression, IsNode, IsAssigned, IsArgument, IsProperty, AreElements, AreProperties}
use Rattle.es6_ast.specs.Spans.{Open, span_of}
use Rattle.es6_reading.specs.Refine.{simple, made_part, target_of_default, is_last, part_in, argument_part, array_parts_of, property_part, object_parts_of, refine}
use Rattle.es6_reading.proofs.RefineTargets.{reads_part, IsAlone, HasNoDefault, target-alone, part-alone}
use Rattle.es6_reading.proofs.Enough.{Settled, Settles, settles-now, settles-then, settles-both, settles-within, settled-map, settled-cons}
use Rattle.es6_reading.proofs.CoverSimple.{Deep, deep-node}

-- as a target, and as a part
record Whole (x : Expression) : Type 0 where
  target : Settles (λ n. refine false n x)
  part : Settles (λ n. reads_part false n x)

part-of-target : (x : Expression) → HasNoDefault (out-Expression x) → Settles (λ n. refine false n x) → Settles (λ n. reads_part false n x)
part-of-target x h s = settles-then s (λ n k. rw (part-alone false n (refine false n) x (out-Expression x) h) (settled-map (made_part (span_of x) None) (refine false n x) k))

target-of-alone : (x : Expression) → IsAlone (out-Expression x) → Deep x → Settles (λ n. refine false n x)
target-of-alone x h s = settles-within s (λ n k. rw (target-alone false n (refine false n) (reads_part false n) x (out-Expression x) h) (settled-map (λ u. pattern.Target x) (simple n x) k))

other : {x y : Expression} {l : Open Expression-F} → ◌≡◌ {A = Expression} x y → out-Expression y ≡ l → IsAlone l → HasNoDefault l → Deep x → Whole x
other {x = x} e o h k s =
    let t = target-of-alone x (rw (e, o) h) s in
    record { target = t; part = part-of-target x (rw (e, o) k) t }

abbrev ElementsSettle : List Element → Type 0
ElementsSettle es = (comma : Bool) → Settles (λ n. array_parts_of false comma (refine false n) (reads_part false n) es)

abbrev PropertiesSettle : List Property → Type 0
PropertiesSettle qs = Settles (λ n. object_parts_of (reads_part false n) qs)

array-whole : {x : Expression} {span : Span} {comma : Bool} (elements : List Element) → x ≡ expr.ArrayList span elements comma → ElementsSettle elements → Whole x
array-whole {x = x} {span = span} {comma = comma} elements e s =
    let t : Settles (λ n. refine false n x) = settles-within (s comma) (λ n k. rw (e, expr.outs-ArrayList) (settled-map (pattern.ArrayPattern span) _ k)) in
    record { target = t; part = part-of-target x (rw (e, expr.outs-ArrayList) tt) t }

object-whole : {x : Expression} {span : Span} (properties : List Property) → x ≡ expr.ObjectList span properties → PropertiesSettle properties → Whole x
object-whole {x = x} {span = span} properties e s =
    let t : Settles (λ n. refine false n x) = settles-within s (λ n k. rw (e, expr.outs-ObjectList) (settled-map (pattern.ObjectPattern span) _ k)) in
    record { target = t; part = part-of-target x (rw (e, expr.outs-ObjectList) tt) t }

-- any other operator makes no default
default-part : (op : AssignOperator) (n : ℕ) (x : Expression) (span : Span) (p : Pattern) (value : Expression) → Settled (target_of_default false n (refine false n) p (out-Pattern p)) → Settled (refine false n x) → Settled (part_in false n (refine false n) x (layer.Assign span op p value))
default-part assign.Assign n x span p value s t = settled-map (made_part span (Some value)) _ s
default-part op n x span p value s t = settled-map (made_part (span_of x) None) _ t

assignment-whole : {x : Expression} {span : Span} (p : Pattern) (value : Expression) (op : AssignOperator) → x ≡ expr.Assign span op p value → Settles (λ n. target_of_default false n (refine false n) p (out-Pattern p)) → Deep x → Whole x
assignment-whole {x = x} {span = span} p value op e s k =
    let t = target-of-alone x (rw (e, expr.outs-Assign) tt) k in
    let o : out-Expression x ≡ layer.Assign span op p value = ap out-Expression e ∙ expr.outs-Assign span op p value in
    record { target = t; part = settles-both s t (λ n a b. rw o (default-part op n x span p value a b)) }

mutual
  whole : {f : Flags} {least : ℕ} {ts us : List Filled} {x : Expression} → IsExpression f least ts x us → Whole x
  whole (g.at_level level x h d) = whole-node d (deep-node d)

  whole-node : {f : Flags} {level : ℕ} {ts us : List Filled} {x : Expression} → IsNode f level ts x us → Deep x → Whole x
  whole-node (g.array elements x h d e) deep_ = array-whole elements e (elements-settle d)
  whole-node (g.object properties x h d e) deep_ = object-whole properties e (properties-settle d)
  whole-node (g.assignment op target value x d k d' e) deep_ = assignment-whole target value op e (default-settles op d) deep_
  whole-node (g.group held x p d q e) deep_ = other e (expr.outs-Group _ _) tt tt deep_
  whole-node (g.this x h e) deep_ = other e (expr.outs-This _) tt tt deep_
  whole-node (g.reference n x d e) deep_ = other e (expr.outs-Name _ _) tt tt deep_
  whole-node (g.literal value x h e) deep_ = other e (expr.outs-Literal _ _) tt tt deep_
  whole-node (g.template m x d e) deep_ = other e (expr.outs-Template _) tt tt deep_
  whole-node (g.function f x d e) deep_ = other e (expr.outs-Function _) tt tt deep_
  whole-node (g.class c x d e) deep_ = other e (expr.outs-Class _) tt tt deep_
  whole-node (g.super_member n x w h d e) deep_ = other e (expr.outs-SuperMember _ _) tt tt deep_
  whole-node (g.super_index y x w p d q e) deep_ = other e (expr.outs-SuperIndex _ _) tt tt deep_
  whole-node (g.new_target x w h u e) deep_ = other e (expr.outs-NewTarget _) tt tt deep_
  whole-node (g.new_call callee arguments x w d p ds e) deep_ = other e (expr.outs-New _ _ _) tt tt deep_
  whole-node (g.new_bare callee x w d e) deep_ = other e (expr.outs-New _ _ _) tt tt deep_
  whole-node (g.super_call_alone x (g.super_call arguments x' w p d e)) deep_ = other e (expr.outs-SuperCall _ _) tt tt deep_
  whole-node (g.chain head l links x d ds e) deep_ = other e (expr.outs-Chain _ _ _) tt tt deep_
  whole-node (g.super_chain head l links x d ds e) deep_ = other e (expr.outs-Chain _ _ _) tt tt deep_
  whole-node (g.update_after op target x b d k h e) deep_ = other e (expr.outs-Update _ _ _) tt tt deep_
  whole-node (g.update_before op target x b k d e) deep_ = other e (expr.outs-Update _ _ _) tt tt deep_
  whole-node (g.unary op operand x k d e) deep_ = other e (expr.outs-Unary _ _ _) tt tt deep_
  whole-node (g.power base exponent x d h d' e) deep_ = other e (expr.outs-Power _ _ _) tt tt deep_
  whole-node (g.binary_chain first o rest x d ds e) deep_ = other e (expr.outs-Binary _ _ _) tt tt deep_
  whole-node (g.conditional test y z x d h d' k d'' e) deep_ = other e (expr.outs-Conditional _ _ _ _) tt tt deep_
  whole-node (g.arrow parameters body x d h l d' e) deep_ = other e (expr.outs-Arrow _) tt tt deep_
  whole-node (g.yield x h w e) deep_ = other e (expr.outs-Yield _ None) tt tt deep_
  whole-node (g.yield_value value x h w l d e) deep_ = other e (expr.outs-Yield _ (Some value)) tt tt deep_
  whole-node (g.delegate value x h w s l d e) deep_ = other e (expr.outs-Delegate _ _) tt tt deep_
  whole-node (g.sequence first y rest x d ds e) deep_ = other e (expr.outs-Sequence _ _ _) tt tt deep_

  default-settles : {f : Flags} (op : AssignOperator) {ts us : List Filled} {p : Pattern} → IsAssigned f op ts p us → Settles (λ n. target_of_default false n (refine false n) p (out-Pattern p))
  default-settles op (g.assigned_pattern x (g.array_pattern parts x' h d e)) = settles-now (λ n. rw (e, pattern.outs-ArrayPattern) tt)
  default-settles op (g.assigned_pattern x (g.object_pattern parts x' h d e)) = settles-now (λ n. rw (e, pattern.outs-ObjectPattern) tt)
  default-settles op (g.assigned_target y x d h e) = settles-then (whole d).target (λ n k. rw (e, pattern.outs-Target) k)
  default-settles op (g.updated_target op' y x h d e) = settles-then (whole d).target (λ n k. rw (e, pattern.outs-Target) k)

  elements-settle : {f : Flags} {c : Bool} {ts us : List Filled} {es : List Element} → AreElements f c ts es us → ElementsSettle es
  elements-settle (g.no_element h) comma = settles-now (λ n. tt)
  elements-settle (g.hole e es m k ds) comma = settles-then (elements-settle ds comma) (λ n s. rw (k, element.outs-Hole) (settled-map (λ ys. SkippedPart ∷ ys) _ s))
  elements-settle (g.last_element e a d h k) comma = settles-then (argument-settles d (is_last {A = Element} [] comma)) (λ n s. rw (k, element.outs-Present) (settled-cons _ _ s tt))
  elements-settle (g.comma_element e a d m h k) comma = settles-then (argument-settles d (is_last {A = Element} [] comma)) (λ n s. rw (k, element.outs-Present) (settled-cons _ _ s tt))
  elements-settle (g.next_element e e' es a d m k ds) comma = settles-both (argument-settles d (is_last (e' ∷ es) comma)) (elements-settle ds comma) (λ n s s'. rw (k, element.outs-Present) (settled-cons _ _ s s'))

  argument-settles : {f : Flags} {ts us : List Filled} {a : Argument} → IsArgument f ts a us → (may_rest : Bool) → Settles (λ n. argument_part false may_rest (refine false n) (reads_part false n) (out-Argument a))
  argument-settles (g.single_argument y a d e) may_rest = settles-then (whole d).part (λ n s. rw (e, argument.outs-Single) (settled-map SinglePart _ s))
  argument-settles (g.spread_argument y a m d e) true = settles-then (whole d).target (λ n s. rw (e, argument.outs-Spread) (settled-map (RestPart _) _ s))
  argument-settles (g.spread_argument y a m d e) false = settles-now (λ n. rw (e, argument.outs-Spread) tt)

  properties-settle : {f : Flags} {ts us : List Filled} {qs : List Property} → AreProperties f ts qs us → PropertiesSettle qs
  properties-settle (g.no_property h) = settles-now (λ n. tt)
  properties-settle (g.last_property q d h) = settles-then (property-settles d) (λ n s. settled-cons _ _ s tt)
  properties-settle (g.next_property q qs d m ds) = settles-both (property-settles d) (properties-settle ds) (λ n s s'. settled-cons _ _ s s')

  property-settles : {f : Flags} {ts us : List Filled} {q : Property} → IsProperty f ts q us → Settles (λ n. property_part (reads_part false n) (out-Property q))
  property-settles (g.plain_property k y q dk m d e) = settles-then (whole d).part (λ n s. rw (e, property.outs-Plain) (settled-map (KeyedPart _ k) _ s))
  property-settles (g.shorthand_property m q d e) = settles-now (λ n. rw (e, property.outs-Shorthand) tt)
  property-settles (g.initialized_property m y q d h v e) = settles-now (λ n. rw (e, property.outs-Initialized) tt)
  property-settles (g.method_property m q d e) = settles-now (λ n. rw (e, property.outs-Defined) tt)

pub target-settles : {f : Flags} {least : ℕ} {ts us : List Filled} {x : Expression} → IsExpression f least ts x us → Settles (λ n. refine false n x)
target-settles d = (whole d).target
