-- What an expression that is derived is, as far as patterns and parameters are made of it.
use Rattle.std.proofs.Common.{◌≡◌, ℕ, ◌≤◌, Bool, true, false, List, ◌∷◌, Some, None, refl, ap, ◌∙◌, arith}
use Rattle.es6_lexer.specs.declared.token.Punctuator.TheVariants as mark
use Rattle.es6_ast.specs.declared.operators.AssignOperator.{AssignOperator}
use Rattle.es6_ast.specs.declared.tree.Identifier.{Identifier}
use Rattle.es6_ast.specs.declared.tree.Expression.{Expression, out-Expression}
use Rattle.es6_ast.specs.declared.tree.Expression.TheVariants as expr
use Rattle.es6_ast.specs.declared.tree.Element.{Element}
use Rattle.es6_ast.specs.declared.tree.Property.{Property}
use Rattle.es6_ast.specs.declared.tree.Pattern.{Pattern}
use Rattle.es6_ast.specs.declared.tree.Argument.TheOpen as layer
use Rattle.es6_ast.specs.declared.tree.Argument.TheOpen.{Expression-F}
use Rattle.es6_ast.specs.declared.settings.Flags.{Flags}
use Rattle.es6_ast.specs.Tokens.{Read, Filled, IsMark, across}
use Rattle.es6_ast.specs.Grammar as g
use Rattle.es6_ast.specs.Grammar.{with_in, level_sequence, level_assignment, level_left_hand_side, level_call, level_member, level_primary, chain_level, assign_kind, IsName, IsExpression, IsNode, IsSuperCall, AreElements, AreProperties, IsAssigned, AreMore}
use Rattle.es6_ast.specs.Spans.{Open, span_of}

-- accesses, of which no pattern or group is made
abbrev pub IsAccess : Open Expression-F → Type 0
IsAccess (layer.Chain span head links) = Unit {0}
IsAccess (layer.SuperMember span name) = Unit {0}
IsAccess (layer.SuperIndex span index) = Unit {0}
IsAccess _ = ⊥

-- what is no part of a pattern, and no parameter
abbrev pub IsAnother : Open Expression-F → Type 0
IsAnother (layer.Name span name) = ⊥
IsAnother (layer.ArrayList span elements comma) = ⊥
IsAnother (layer.ObjectList span properties) = ⊥
IsAnother (layer.Chain span head links) = ⊥
IsAnother (layer.SuperMember span name) = ⊥
IsAnother (layer.SuperIndex span index) = ⊥
IsAnother (layer.Group span held) = ⊥
IsAnother (layer.Assign span operator target value) = ⊥
IsAnother (layer.Sequence span first rest) = ⊥
IsAnother (layer.Cover span held rest) = ⊥
IsAnother _ = Unit {0}

pub data View (f : Flags) : List Filled → Expression → List Filled → Type 0 where
  a_name : {ts us : List Filled} {x : Expression} (n : Identifier) → IsName ts n us → x ≡ expr.Name n.span n.name → View f ts x us
  an_array : {comma : Bool} {t : Filled} {ts us : List Filled} {x : Expression} (elements : List Element) → IsMark mark.LeftBracket t → AreElements f comma ts elements us → x ≡ expr.ArrayList (across (t ∷ ts) us) elements comma → View f (t ∷ ts) x us
  an_object : {t : Filled} {ts us : List Filled} {x : Expression} (properties : List Property) → IsMark mark.LeftBrace t → AreProperties f ts properties us → x ≡ expr.ObjectList (across (t ∷ ts) us) properties → View f (t ∷ ts) x us
  an_access : {ts us : List Filled} {x : Expression} → IsExpression f level_left_hand_side ts x us → span_of x ≡ across ts us → IsAccess (out-Expression x) → View f ts x us
  a_group : {open_ close : Filled} {ts us : List Filled} {x : Expression} (held : Expression) → IsMark mark.LeftParenthesis open_ → IsExpression (with_in f) level_sequence ts held (close ∷ us) → IsMark mark.RightParenthesis close → x ≡ expr.Group (across (open_ ∷ ts) us) held → View f (open_ ∷ ts) x us
  an_assignment : {t : Filled} {ts us vs : List Filled} {x : Expression} (operator : AssignOperator) (target : Pattern) (value : Expression) → IsAssigned f operator ts target (t ∷ us) → t.kind ≡ Read (assign_kind operator) → IsExpression f level_assignment us value vs → x ≡ expr.Assign (across ts vs) operator target value → View f ts x vs
  a_sequence : {ts us vs : List Filled} {x : Expression} (first y : Expression) (rest : List Expression) → IsExpression f level_assignment ts first us → AreMore f us (y ∷ rest) vs → x ≡ expr.Sequence (across ts vs) first (y ∷ rest) → View f ts x vs
  another : {ts us : List Filled} {x : Expression} → IsAnother (out-Expression x) → View f ts x us

-- ## Layers

another-of : {f : Flags} {ts us : List Filled} {x y : Expression} {l : Open Expression-F} → x ≡ y → out-Expression y ≡ l → IsAnother l → View f ts x us
another-of {x = x} {y = y} e o h = another (rw (e, o) h)

access-of : {f : Flags} {ts us : List Filled} {x y : Expression} {l : Open Expression-F} → x ≡ y → out-Expression y ≡ l → IsAccess l → span_of y ≡ across ts us → IsExpression f level_left_hand_side ts x us → View f ts x us
access-of {x = x} {y = y} e o h s d = an_access d (ap span_of e ∙ s) (rw (e, o) h)

chain-level-is : (calls : Bool) → level_left_hand_side ≤ chain_level calls
chain-level-is true = omega arith
chain-level-is false = omega arith

super-call-view : {f : Flags} {ts us : List Filled} {x : Expression} → IsSuperCall f ts x us → View f ts x us
super-call-view (g.super_call arguments x w p d e) = another-of e (expr.outs-SuperCall _ _) tt

pub view : {f : Flags} {level : ℕ} {ts us : List Filled} {x : Expression} → IsNode f level ts x us → View f ts x us
view (g.this x h e) = another-of e (expr.outs-This _) tt
view (g.reference n x d e) = a_name n d e
view (g.literal value x h e) = another-of e (expr.outs-Literal _ _) tt
view (g.array elements x h d e) = an_array elements h d e
view (g.object properties x h d e) = an_object properties h d e
view (g.template m x d e) = another-of e (expr.outs-Template _) tt
view (g.group held x p d q e) = a_group held p d q e
view (g.function f x d e) = another-of e (expr.outs-Function _) tt
view (g.class c x d e) = another-of e (expr.outs-Class _) tt
view (g.super_member n x w h d e) = access-of e (expr.outs-SuperMember _ _) tt (rw expr.outs-SuperMember refl) (g.at_level level_primary x (omega arith) (g.super_member n x w h d e))
view (g.super_index y x w p d q e) = access-of e (expr.outs-SuperIndex _ _) tt (rw expr.outs-SuperIndex refl) (g.at_level level_primary x (omega arith) (g.super_index y x w p d q e))
view (g.new_target x w h u e) = another-of e (expr.outs-NewTarget _) tt
view (g.new_call callee arguments x w d p ds e) = another-of e (expr.outs-New _ _ _) tt
view (g.new_bare callee x w d e) = another-of e (expr.outs-New _ _ _) tt
view (g.super_call_alone x d) = super-call-view d
view (g.chain {calls = calls} head l links x d ds e) = access-of e (expr.outs-Chain _ _ _) tt (rw expr.outs-Chain refl) (g.at_level (chain_level calls) x (chain-level-is calls) (g.chain head l links x d ds e))
view (g.super_chain head l links x d ds e) = access-of e (expr.outs-Chain _ _ _) tt (rw expr.outs-Chain refl) (g.at_level level_call x (omega arith) (g.super_chain head l links x d ds e))
view (g.update_after op target x b d k h e) = another-of e (expr.outs-Update _ _ _) tt
view (g.update_before op target x b k d e) = another-of e (expr.outs-Update _ _ _) tt
view (g.unary op operand x k d e) = another-of e (expr.outs-Unary _ _ _) tt
view (g.power base exponent x d h d' e) = another-of e (expr.outs-Power _ _ _) tt
view (g.binary_chain first o rest x d ds e) = another-of e (expr.outs-Binary _ _ _) tt
view (g.conditional test y z x d h d' k d'' e) = another-of e (expr.outs-Conditional _ _ _ _) tt
view (g.assignment op target value x d k d' e) = an_assignment op target value d k d' e
view (g.arrow parameters body x d h l d' e) = another-of e (expr.outs-Arrow _) tt
view (g.yield x h w e) = another-of e (expr.outs-Yield _ None) tt
view (g.yield_value value x h w l d e) = another-of e (expr.outs-Yield _ (Some value)) tt
view (g.delegate value x h w s l d e) = another-of e (expr.outs-Delegate _ _) tt
view (g.sequence first y rest x d ds e) = a_sequence first y rest d ds e
