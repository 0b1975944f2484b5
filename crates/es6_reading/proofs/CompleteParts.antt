-- Expressions that commas separate: as one expression, in a group, and before a rest.
use Rattle.std.proofs.Common.{◌≡◌, ℕ, ◌≤◌, List, [], ◌∷◌, Some, refl, arith}
use Rattle.es_text.specs.declared.Span.{Span}
use Rattle.es6_lexer.specs.declared.token.Punctuator.TheVariants as marks
use Rattle.es6_ast.specs.declared.tree.Expression.{Expression, out-Expression}
use Rattle.es6_ast.specs.declared.tree.Expression.TheVariants as expr
use Rattle.es6_ast.specs.declared.tree.Identifier.{Identifier}
use Rattle.es6_ast.specs.declared.settings.Flags.{Flags}
use Rattle.es6_ast.specs.Tokens.{Filled, IsMark, across}
use Rattle.es6_ast.specs.Grammar as g
use Rattle.es6_ast.specs.Grammar.{with_in, IsName, IsNode, IsSuperCall}
use Rattle.es6_reading.specs.Refine.{parts_of}
use Rattle.es6_reading.specs.Expressions.{sequenced}
use Rattle.es6_reading.proofs.RefineParameters.{IsNoSequence, one-alone}
use Rattle.es6_reading.proofs.CompleteClaims.{Claim, claim-down}
use Rattle.es6_reading.proofs.CompleteOperators.{MoreClaim, more-last, more-next, sequence-claim}
use Rattle.es6_reading.proofs.CompleteGroups.{HeldClaim, held-one, held-next, group-claim}
use Rattle.es6_reading.proofs.CompleteCovers.{BeforeRestClaim, before-rest-one, before-rest-next, CoverClaim, held_claim}

-- ## An expression above the commas is no sequence

no-such-level : 1 ≤ 0 → ⊥
no-such-level l = omega arith

super-call-is-no-sequence : {f : Flags} {ts us : List Filled} {x : Expression} → IsSuperCall f ts x us → IsNoSequence (out-Expression x)
super-call-is-no-sequence (g.super_call as_ x w p d e) = rw (e, expr.outs-SuperCall) tt

above-is-no-sequence : {f : Flags} {level : ℕ} {ts us : List Filled} {x : Expression} → 1 ≤ level → IsNode f level ts x us → IsNoSequence (out-Expression x)
above-is-no-sequence l (g.this x w e) = rw (e, expr.outs-This) tt
above-is-no-sequence l (g.reference n x d e) = rw (e, expr.outs-Name) tt
above-is-no-sequence l (g.literal value x h e) = rw (e, expr.outs-Literal) tt
above-is-no-sequence l (g.array elements x p d e) = rw (e, expr.outs-ArrayList) tt
above-is-no-sequence l (g.object properties x p d e) = rw (e, expr.outs-ObjectList) tt
above-is-no-sequence l (g.template m x d e) = rw (e, expr.outs-Template) tt
above-is-no-sequence l (g.group held x p d q e) = rw (e, expr.outs-Group) tt
above-is-no-sequence l (g.function h x d e) = rw (e, expr.outs-Function) tt
above-is-no-sequence l (g.class c x d e) = rw (e, expr.outs-Class) tt
above-is-no-sequence l (g.super_member n x w p d e) = rw (e, expr.outs-SuperMember) tt
above-is-no-sequence l (g.super_index index x w p d q e) = rw (e, expr.outs-SuperIndex) tt
above-is-no-sequence l (g.new_target x w p v e) = rw (e, expr.outs-NewTarget) tt
above-is-no-sequence l (g.new_call callee as_ x w d p ds e) = rw (e, expr.outs-New) tt
above-is-no-sequence l (g.new_bare callee x w d e) = rw (e, expr.outs-New) tt
above-is-no-sequence l (g.super_call_alone x d) = super-call-is-no-sequence d
above-is-no-sequence l (g.chain first k links x d ds e) = rw (e, expr.outs-Chain) tt
above-is-no-sequence l (g.super_chain first k links x d ds e) = rw (e, expr.outs-Chain) tt
above-is-no-sequence l (g.update_after op target x b d h o e) = rw (e, expr.outs-Update) tt
above-is-no-sequence l (g.update_before op target x b h d e) = rw (e, expr.outs-Update) tt
above-is-no-sequence l (g.unary op operand x h d e) = rw (e, expr.outs-Unary) tt
above-is-no-sequence l (g.power base exponent x d p d' e) = rw (e, expr.outs-Power) tt
above-is-no-sequence l (g.binary_chain first o rest x d ds e) = rw (e, expr.outs-Binary) tt
above-is-no-sequence l (g.conditional test yes_ no_ x d q d' c d'' e) = rw (e, expr.outs-Conditional) tt
above-is-no-sequence l (g.assignment op target value x d h d' e) = rw (e, expr.outs-Assign) tt
above-is-no-sequence l (g.arrow parameters body x d h o d' e) = rw (e, expr.outs-Arrow) tt
above-is-no-sequence l (g.yield x y w e) = rw (e, expr.outs-Yield) tt
above-is-no-sequence l (g.yield_value value x y w o d e) = rw (e, expr.outs-Yield) tt
above-is-no-sequence l (g.delegate value x y w p o d e) = rw (e, expr.outs-Delegate) tt
above-is-no-sequence l (g.sequence first y rest x d ds e) = absurd (no-such-level l)

pub alone-in-parts : {f : Flags} {level : ℕ} {ts us : List Filled} {x : Expression} → 1 ≤ level → IsNode f level ts x us → parts_of x ≡ x ∷ []
alone-in-parts {x = x} l d = one-alone x (out-Expression x) (above-is-no-sequence l d)

-- ## Parts that are read

pub data PartsClaim (f : Flags) : List Filled → Expression → List Expression → List Filled → Type 0 where
  last_part : {ts us : List Filled} {x : Expression} → Claim f 1 ts us x → PartsClaim f ts x [] us
  next_part : {m : Filled} {ts us vs : List Filled} {x first : Expression} {more : List Expression} → Claim f 1 ts (m ∷ us) x → IsMark marks.Comma m → PartsClaim f us first more vs → PartsClaim f ts x (first ∷ more) vs

more-parts : {f : Flags} {m : Filled} {ts us : List Filled} {first : Expression} {more : List Expression} → IsMark marks.Comma m → PartsClaim f ts first more us → MoreClaim f (m ∷ ts) us (first ∷ more)
more-parts {f = f} h (last_part c) = more-last f h c
more-parts {f = f} h (next_part c m rest) = more-next f h c (more-parts m rest)

pub held-parts : (f : Flags) {c : Filled} {ts us : List Filled} {first : Expression} {more : List Expression} → PartsClaim (with_in f) ts first more (c ∷ us) → IsMark marks.RightParenthesis c → HeldClaim f ts (c ∷ us) first more
held-parts f (last_part c) h = held-one f c h
held-parts f (next_part c m rest) h = held-next f c m (held-parts f rest h)

pub parts-before-rest : (f : Flags) {m d : Filled} {ts us : List Filled} {first : Expression} {more : List Expression} → PartsClaim (with_in f) ts first more (m ∷ d ∷ us) → IsMark marks.Comma m → IsMark marks.Ellipsis d → BeforeRestClaim f ts m (d ∷ us) first more
parts-before-rest f (last_part c) h k = before-rest-one f c h k
parts-before-rest f (next_part c m rest) h k = before-rest-next f c m (parts-before-rest f rest h k)

-- an expression as such parts, of which there may be one alone
pub record SplitClaim (f : Flags) (ts us : List Filled) (x : Expression) : Type 0 where
  pub first : Expression
  pub more : List Expression
  pub parts : PartsClaim f ts first more us
  pub whole : x ≡ sequenced first more (across ts us)
  pub split : parts_of x ≡ first ∷ more
  pub claim : Claim f 0 ts us x

pub split-alone : (f : Flags) {level : ℕ} {ts us : List Filled} {x : Expression} → 1 ≤ level → IsNode f level ts x us → Claim f level ts us x → SplitClaim f ts us x
split-alone f {level = level} {ts = ts} {us = us} {x = x} l d c = record {
  first = x;
  more = [];
  parts = last_part (claim-down f 1 level ts us x l c);
  whole = refl;
  split = alone-in-parts l d;
  claim = claim-down f 0 level ts us x (omega arith) c;
}

split-whole : (x first y : Expression) (rest : List Expression) (ts us : List Filled) → x ≡ expr.Sequence (across ts us) first (y ∷ rest) → parts_of x ≡ first ∷ y ∷ rest
split-whole x first y rest ts us e = rw (e, expr.outs-Sequence) refl

sequence-parts : (f : Flags) {ts us : List Filled} {first y x : Expression} {rest : List Expression} → PartsClaim f ts first (y ∷ rest) us → x ≡ expr.Sequence (across ts us) first (y ∷ rest) → Claim f 0 ts us x
sequence-parts f (next_part c m rest) e = sequence-claim f c (more-parts m rest) e

pub split-sequence : (f : Flags) {ts us : List Filled} {first y x : Expression} {rest : List Expression} → PartsClaim f ts first (y ∷ rest) us → x ≡ expr.Sequence (across ts us) first (y ∷ rest) → SplitClaim f ts us x
split-sequence f {ts = ts} {us = us} {first = first} {y = y} {x = x} {rest = rest} d e = record {
  first = first;
  more = y ∷ rest;
  parts = d;
  whole = e;
  split = split-whole x first y rest ts us e;
  claim = sequence-parts f d e;
}

pub group-of : (f : Flags) {o c : Filled} {ts us : List Filled} {held x : Expression} → IsMark marks.LeftParenthesis o → SplitClaim (with_in f) ts (c ∷ us) held → IsMark marks.RightParenthesis c → x ≡ expr.Group (across (o ∷ ts) us) held → Claim f 19 (o ∷ ts) us x
group-of f p s q e = group-claim f p (held-parts f s.parts q) q s.whole e

pub cover-of : (f : Flags) {o m d c : Filled} {ts us vs : List Filled} {n : Identifier} {held x : Expression} (span : Span) → IsMark marks.LeftParenthesis o → SplitClaim (with_in f) ts (m ∷ d ∷ us) held → IsMark marks.Comma m → IsMark marks.Ellipsis d → IsName us n (c ∷ vs) → IsMark marks.RightParenthesis c
    → x ≡ expr.Cover span (Some held) (Some (record { span = across (d ∷ us) (c ∷ vs); name = n })) → CoverClaim f (o ∷ ts) x vs
cover-of f span p s m d nm q e = held_claim span p (parts-before-rest f s.parts m d) s.whole s.split d nm q e
