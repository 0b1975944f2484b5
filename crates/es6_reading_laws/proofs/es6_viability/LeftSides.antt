-- What the readers below assignment give as the left side of one is derived as a left-hand-side expression.
use Rattle.std.proofs.Common.{◌≡◌, ℕ, zero, suc, ◌+◌, true, List, [], ◌∷◌}
use Rattle.es_text.specs.declared.Span.{Span}
use Rattle.es6_lexer.specs.declared.token.Punctuator.TheVariants as marks
use Rattle.es6_ast.specs.declared.operators.UnaryOperator.{UnaryOperator}
use Rattle.es6_ast.specs.declared.settings.Flags.{Flags}
use Rattle.es6_ast.specs.declared.settings.Role.{Role}
use Rattle.es6_ast.specs.declared.settings.Role.TheVariants.{Leading, Among}
use Rattle.es6_ast.specs.declared.tree.Operand.{Operand}
use Rattle.es6_ast.specs.Grammar.{with_in, level_left_hand_side, IsExpression}
use Rattle.es6_reading.specs.Parser.{Input, Parser, take_as, mark, is_left, Reading, Inner}
use Rattle.es6_reading.specs.Words.{unary_at, before_at, after_at, binary_at}
use Rattle.es6_reading.specs.Expressions as e
use Rattle.es6_reading.proofs.Derived.{Sound}
use Rattle.es6_reading.proofs.Posts.{Holds, took, fault, any, bind, on-holds}
use Rattle.es6_reading.proofs.SoundChains.{sound-chain}

abbrev pub LeftIn : Flags → Input → Reading → Input → Type 0
LeftIn f s x c = is_left x.shape ≡ true → IsExpression f level_left_hand_side s.tokens x.value c.tokens

-- where there are no operators, nothing is taken
data Stays : Input → List Operand → Input → Type 0 where
  none : {s : Input} → Stays s [] s
  some : {s c : Input} {o : Operand} {os : List Operand} → Stays s (o ∷ os) c

operands-stay : (p : Parser Reading) (f : Flags) (level n : ℕ) (s : Input) → Holds (Stays s) (e.operands p f level n s)
unfolding e.operands
operands-stay p f level zero s = fault
operands-stay p f level (suc n) s = on-holds (binary_at f level) _ _ s (λ op a t. bind (any (p a)) (λ x b u. bind (any (e.operands p f level n b)) (λ os c v. took some))) (λ m. took none)

operated-left : (f : Flags) (s b c : Input) (x : Reading) {os : List Operand} (span : Span) → LeftIn f s x b → Stays b os c → LeftIn f s (e.operated x os span) c
operated-left f s b c x span r none = r
operated-left f s b c x span r some = λ k. absurd (cc)

module _ (i : Inner) (sound : Sound i) (f : Flags) where
  prefixed : (at : ℕ) (op : UnaryOperator) (s a : Input) → Holds (LeftIn f s) (e.prefixed i f at op a)
  unfolding e.prefixed
  prefixed at op s a = bind (any (i.unary f a)) (λ x c u. took (λ k. absurd (cc)))

  postfix : (role : Role) (s : Input) → Holds (LeftIn f s) (e.postfix i f role s)
  unfolding e.postfix
  postfix role s = bind (sound-chain i sound f role s) (λ x a r. on-holds after_at _ _ a (λ op c t. took (λ k. absurd (cc))) (λ m. took r.left_side))

  update : (role : Role) (s : Input) → Holds (LeftIn f s) (e.update i f role s)
  unfolding e.update e.updated
  update role s = on-holds before_at _ _ s (λ op a t. bind (any (i.unary f a)) (λ x c u. took (λ k. absurd (cc)))) (λ m. postfix role s)

  power : (role : Role) (s : Input) → Holds (LeftIn f s) (e.power i f role s)
  unfolding e.power e.raised
  power role s = on-holds unary_at _ _ s (λ op a t. prefixed _ op s a)
      (λ m. bind (update role s) (λ x a r. on-holds (mark marks.StarStar) _ _ a (λ t b k. bind (any (i.power f b)) (λ y c u. took (λ k. absurd (cc)))) (λ n. took r)))

  binary_ : (role : Role) (up level : ℕ) (s : Input) → Holds (LeftIn f s) (e.binary_from i f role up level s)
  unfolding e.binary_from
  binary_ role zero level s = power role s
  binary_ role (suc up) level s = bind (binary_ role up (level + 1) s) (λ x b r. bind (operands-stay (e.binary_from i f Among up (level + 1)) f level i.fuel b) (λ os c k. took (operated-left f s b c x _ r k)))

  pub conditional : (s : Input) → Holds (LeftIn f s) (e.conditional i f s)
  unfolding e.conditional e.branches
  conditional s = bind (binary_ Leading 10 3 s) (λ x a r. on-holds (mark marks.Question) _ _ a
      (λ t b k. bind (any (i.assignment (with_in f) b)) (λ y c u. bind (any (take_as (mark marks.Colon) c)) (λ v d w. bind (any (i.assignment f d)) (λ z o q. took (λ k. absurd (cc)))))) (λ m. took r))
