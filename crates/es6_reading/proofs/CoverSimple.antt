-- A simple target is refined to itself once its groups are looked into, and is no pattern, assignment or sequence.
use Rattle.std.proofs.Common.{◌≡◌, ℕ, Bool, true, false, List, Some, None, map, refl, sym, ap, ◌∙◌}
use Rattle.std.proofs.lemmas.Bool.{false≢true}
use Rattle.es6_ast.specs.declared.tree.Expression.{Expression, out-Expression}
use Rattle.es6_ast.specs.declared.tree.Expression.TheVariants as expr
use Rattle.es6_ast.specs.declared.tree.Argument.TheOpen as layer
use Rattle.es6_ast.specs.declared.tree.Argument.TheOpen.{Expression-F}
use Rattle.es6_ast.specs.declared.settings.Flags.{Flags}
use Rattle.es6_ast.specs.Tokens.{Filled, across}
use Rattle.es6_ast.specs.Targets.{is_simple, no_target, ends_in_access}
use Rattle.es6_ast.specs.Grammar as g
use Rattle.es6_ast.specs.Grammar.{IsExpression, IsNode}
use Rattle.es6_ast.proofs.TargetLaws.{pattern_misfit}
use Rattle.es6_ast.specs.Spans.{Open, span_of}
use Rattle.es6_reading.specs.Refine.{Refined, Fits, Misfit, TooNested, fits_if, is_access, held_at, simple, simple_in}
use Rattle.es6_reading.proofs.RefineViews.{IsAnother, View, a_name, an_array, an_object, an_access, a_group, an_assignment, a_sequence, another}
use Rattle.es6_reading.proofs.RefineBinds.{view-of}
use Rattle.es6_reading.proofs.RefineTargetOf.{layer_target, as_target-is, Decides, it_is, it_is_not, unknown, simple-decides, not-by-default}
use Rattle.es6_reading.proofs.RefineTargets.{IsAlone, HasNoDefault, name-across}
use Rattle.es6_reading.proofs.RefineParameters.{IsNoSequence}
use Rattle.es6_reading.proofs.Enough.{Sure, Settled, Settles, settles-next, settles-within}

-- ## Deep enough

settled-if : (b : Bool) (at : ℕ) → Settled (fits_if b at)
settled-if true at = tt
settled-if false at = tt

settled-held : (r : Refined (Unit {0})) (at : ℕ) → Settled r → Settled (held_at at r)
settled-held (Fits u) at h = tt
settled-held (Misfit place) at h = tt
settled-held TooNested at h = h

abbrev IsNoGroup : Open Expression-F → Type 0
IsNoGroup (layer.Group span held) = ⊥
IsNoGroup _ = Unit {0}

settled-layer : (s : Expression → Refined (Unit {0})) (l : Open Expression-F) → IsNoGroup l → Settled (simple_in s l)
settled-layer s (layer.Chain span head links) h = settled-if (ends_in_access (map is_access links)) span.begin
settled-layer s (layer.Group span held) h = absurd h
settled-layer s l h = tt

abbrev pub Deep : Expression → Type 0
Deep x = Settles (λ n. simple n x)

shallow : {x y : Expression} {l : Open Expression-F} → ◌≡◌ {A = Expression} x y → out-Expression y ≡ l → IsNoGroup l → Deep x
shallow e o h = settles-next (λ n. rw (e, o) (settled-layer (simple n) _ h))

mutual
  pub deep : {f : Flags} {least : ℕ} {ts us : List Filled} {x : Expression} → IsExpression f least ts x us → Deep x
  deep (g.at_level level x h d) = deep-node d

  pub deep-node : {f : Flags} {level : ℕ} {ts us : List Filled} {x : Expression} → IsNode f level ts x us → Deep x
  deep-node (g.group held x p d q e) = settles-within (deep d) (λ n s. rw (e, expr.outs-Group) (settled-held (simple n held) _ s))
  deep-node (g.this x h e) = shallow e (expr.outs-This _) tt
  deep-node (g.reference n x d e) = shallow e (expr.outs-Name _ _) tt
  deep-node (g.literal value x h e) = shallow e (expr.outs-Literal _ _) tt
  deep-node (g.array elements x h d e) = shallow e (expr.outs-ArrayList _ _ _) tt
  deep-node (g.object properties x h d e) = shallow e (expr.outs-ObjectList _ _) tt
  deep-node (g.template m x d e) = shallow e (expr.outs-Template _) tt
  deep-node (g.function f x d e) = shallow e (expr.outs-Function _) tt
  deep-node (g.class c x d e) = shallow e (expr.outs-Class _) tt
  deep-node (g.super_member n x w h d e) = shallow e (expr.outs-SuperMember _ _) tt
  deep-node (g.super_index y x w p d q e) = shallow e (expr.outs-SuperIndex _ _) tt
  deep-node (g.new_target x w h u e) = shallow e (expr.outs-NewTarget _) tt
  deep-node (g.new_call callee arguments x w d p ds e) = shallow e (expr.outs-New _ _ _) tt
  deep-node (g.new_bare callee x w d e) = shallow e (expr.outs-New _ _ _) tt
  deep-node (g.super_call_alone x (g.super_call arguments x' w p d e)) = shallow e (expr.outs-SuperCall _ _) tt
  deep-node (g.chain head l links x d ds e) = shallow e (expr.outs-Chain _ _ _) tt
  deep-node (g.super_chain head l links x d ds e) = shallow e (expr.outs-Chain _ _ _) tt
  deep-node (g.update_after op target x b d k h e) = shallow e (expr.outs-Update _ _ _) tt
  deep-node (g.update_before op target x b k d e) = shallow e (expr.outs-Update _ _ _) tt
  deep-node (g.unary op operand x k d e) = shallow e (expr.outs-Unary _ _ _) tt
  deep-node (g.power base exponent x d h d' e) = shallow e (expr.outs-Power _ _ _) tt
  deep-node (g.binary_chain first o rest x d ds e) = shallow e (expr.outs-Binary _ _ _) tt
  deep-node (g.conditional test y z x d h d' k d'' e) = shallow e (expr.outs-Conditional _ _ _ _) tt
  deep-node (g.assignment op target value x d k d' e) = shallow e (expr.outs-Assign _ _ _ _) tt
  deep-node (g.arrow parameters body x d h l d' e) = shallow e (expr.outs-Arrow _) tt
  deep-node (g.yield x h w e) = shallow e (expr.outs-Yield _ None) tt
  deep-node (g.yield_value value x h w l d e) = shallow e (expr.outs-Yield _ (Some value)) tt
  deep-node (g.delegate value x h w s l d e) = shallow e (expr.outs-Delegate _ _) tt
  deep-node (g.sequence first y rest x d ds e) = shallow e (expr.outs-Sequence _ _ _) tt

decided : {b : Bool} {r : Refined (Unit {0})} → Decides b r → b ≡ true → Settled r → r ≡ Fits tt
decided (it_is h) k s = refl
decided (it_is_not h) k s = absurd (false≢true (sym h ∙ k))
decided unknown k s = absurd s

pub simple-sure : {f : Flags} {least : ℕ} {ts us : List Filled} {x : Expression} → IsExpression f least ts x us → is_simple x ≡ true → Sure (λ n. simple n x) tt
simple-sure {x = x} d h = record { enough = (deep d).enough; refined = λ n l. decided (simple-decides n x) h ((deep d).settled n l) }

-- ## What a simple target is not

alone-layer : (l : Open Expression-F) → (layer_target l).simple ≡ true → IsAlone l
alone-layer (layer.ArrayList span elements comma) h = absurd (cc)
alone-layer (layer.ObjectList span properties) h = absurd (cc)
alone-layer l h = tt

no-default-layer : (l : Open Expression-F) → (layer_target l).simple ≡ true → HasNoDefault l
no-default-layer (layer.Assign span operator target value) h = absurd (false≢true (sym (not-by-default operator (no_target span.begin) (pattern_misfit target) refl) ∙ h))
no-default-layer l h = tt

no-sequence-layer : (l : Open Expression-F) → (layer_target l).simple ≡ true → IsNoSequence l
no-sequence-layer (layer.Sequence span first rest) h = absurd (cc)
no-sequence-layer l h = tt

another-layer : (l : Open Expression-F) → IsAnother l → (layer_target l).simple ≡ true → ⊥
another-layer (layer.Name span name) a h = a
another-layer (layer.ArrayList span elements comma) a h = a
another-layer (layer.ObjectList span properties) a h = a
another-layer (layer.Chain span head links) a h = a
another-layer (layer.SuperMember span name) a h = a
another-layer (layer.SuperIndex span index) a h = a
another-layer (layer.Group span held) a h = a
another-layer (layer.Assign span operator target value) a h = a
another-layer (layer.Sequence span first rest) a h = a
another-layer (layer.Cover span held rest) a h = a
another-layer l a h = false≢true h

layer-simple : (x : Expression) → is_simple x ≡ true → (layer_target (out-Expression x)).simple ≡ true
layer-simple x h = ap (λ a. a.simple) (sym (as_target-is x)) ∙ h

pub simple-is-alone : (x : Expression) → is_simple x ≡ true → IsAlone (out-Expression x)
simple-is-alone x h = alone-layer (out-Expression x) (layer-simple x h)

pub simple-has-no-default : (x : Expression) → is_simple x ≡ true → HasNoDefault (out-Expression x)
simple-has-no-default x h = no-default-layer (out-Expression x) (layer-simple x h)

pub simple-is-no-sequence : (x : Expression) → is_simple x ≡ true → IsNoSequence (out-Expression x)
simple-is-no-sequence x h = no-sequence-layer (out-Expression x) (layer-simple x h)

span-by-view : {f : Flags} {ts us : List Filled} (x : Expression) → View f ts x us → (layer_target (out-Expression x)).simple ≡ true → span_of x ≡ across ts us
span-by-view x (a_name n d e) h = rw (e, expr.outs-Name) (name-across d)
span-by-view x (an_array elements m ds e) h = rw (e, expr.outs-ArrayList) refl
span-by-view x (an_object properties m ds e) h = rw (e, expr.outs-ObjectList) refl
span-by-view x (an_access c s a) h = s
span-by-view x (a_group held p c q e) h = rw (e, expr.outs-Group) refl
span-by-view x (an_assignment operator target value c k v e) h = rw (e, expr.outs-Assign) refl
span-by-view x (a_sequence first y rest c cs e) h = rw (e, expr.outs-Sequence) refl
span-by-view x (another a) h = absurd (another-layer (out-Expression x) a h)

pub simple-span : {f : Flags} {least : ℕ} {ts us : List Filled} {x : Expression} → IsExpression f least ts x us → is_simple x ≡ true → span_of x ≡ across ts us
simple-span {x = x} d h = span-by-view x (view-of d) (layer-simple x h)
