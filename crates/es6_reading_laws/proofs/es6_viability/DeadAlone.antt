-- No expression, and no statement or declaration, goes on with the token at which a reader of it stops.
use Rattle.std.proofs.Common.{◌≡◌, ◌∙◌, zero, true, false, List, [], ◌∷◌, ◌++◌, map, ap, sym, subst}
use Rattle.std.proofs.lemmas.List.{append-nil, map-append}
use Rattle.es6_lexer.specs.declared.token.Token.{Token}
use Rattle.es6_ast.specs.declared.settings.Stand.TheVariants.{Listed}
use Rattle.es6_ast.specs.declared.settings.Stop.{Stop}
use Rattle.es6_ast.specs.declared.tree.Statement.{Statement}
use Rattle.es6_ast.specs.Tokens.{Filled, read}
use Rattle.es6_reading.specs.Expressions.{sequence}
use Rattle.es6_reading.specs.Laws.{IsFinal}
use Rattle.es6_reading.specs.Modules.{readers}
use Rattle.es6_reading.specs.Parser.{Input, Fault, Parser, Reading}
use Rattle.es6_reading.specs.Statements.{statement}
use Rattle.es6_reading.proofs.Follows.{plus, same}
use Rattle.es6_reading.proofs.LocalExpressions as x'
use Rattle.es6_reading.proofs.LocalModules as m'
use Rattle.es6_reading.proofs.LocalReaders.{gain, grown}
use Rattle.es6_reading.proofs.Locality.{Local, same_mode}
use Rattle.es6_reading_laws.specs.Fronts.{Settles, too_deep, too_long}
use Rattle.es6_reading_laws.specs.es6_viability.Fronts.{BeginWithExpression, BeginWithStatement, NoneGoesOn, NoExpressionGoesOn, NoStatementGoesOn}
use Rattle.es6_reading_laws.proofs.es6_viability.DeepLaws.{moves, same-readers}
use Rattle.es6_reading_laws.proofs.es6_viability.Fronts.{spelled-expressions, spelled-statements}

not-final : {A B : Type 0} {made : A → B} {x : B} {us ts : List Filled} {stop : Stop} → Settles made x us (Fault stop ts) → IsFinal stop → ⊥
not-final too_deep f = f
not-final too_long f = f

module _ {A B : Type 0} (p p0 : Parser A) (same-run : (c : Input) → p0 c ≡ p c) (local : (s : Input) → Local (gain zero false) p p0 s) (made : A → B) (Spell : List Token → B → Type 0)
    (settles : (tokens : List Token) (x : B) → Spell tokens x → (us : List Filled) × Settles made x us (p (record { tokens = map read tokens; last = 0 }))) where
  stopped : (tokens : List Token) (stop : Stop) (ts : List Filled) → p (record { tokens = map read tokens; last = 0 }) ≡ Fault stop ts → IsFinal stop → (x : B) → Spell tokens x → ⊥
  stopped tokens stop ts h final x s = (let r = settles tokens x s in not-final (subst (λ o. Settles made x r.0 o) h r.1) final)

  none-goes-on : (front rest : List Token) (stop : Stop) → p (record { tokens = map read (front ++ rest); last = 0 }) ≡ Fault stop (map read rest) → IsFinal stop → NoneGoesOn Spell front rest
  none-goes-on front [] stop h final = stopped front stop [] (ap (λ ts. p (record { tokens = map read ts; last = 0 })) (sym (append-nil front)) ∙ h) final
  none-goes-on front (t ∷ ts) stop h final = λ others. stopped (front ++ t ∷ others) stop (map read (t ∷ others))
      (ap (λ us. p (record { tokens = us; last = 0 })) (map-append read front (t ∷ others))
      ∙ moves p p0 same-run local (map read front) (map read (t ∷ ts)) stop (ap (λ us. p (record { tokens = us; last = 0 })) (sym (map-append read front (t ∷ ts))) ∙ h) (map read (t ∷ others)) same)
      final

pub no-expression-goes-on : NoExpressionGoesOn
no-expression-goes-on fuel room f = none-goes-on (sequence (readers true fuel room) f) (sequence (readers true (plus fuel zero) (plus room zero)) f) (λ c. same-readers fuel room zero (λ i. sequence i f) c)
    (λ s. x'.sequence (readers true fuel room) (readers true (plus fuel zero) (plus room zero)) (grown false true true fuel room zero same_mode) f s)
    (λ (r : Reading). r.value) (BeginWithExpression f) (λ tokens x d. (map read d.0, spelled-expressions fuel room f tokens d.0 x d.1))

pub no-statement-goes-on : NoStatementGoesOn
no-statement-goes-on fuel room f = none-goes-on (statement (readers true fuel room) f Listed) (statement (readers true (plus fuel zero) (plus room zero)) f Listed) (λ c. same-readers fuel room zero (λ i. statement i f Listed) c)
    (λ s. m'.statement (readers true fuel room) (readers true (plus fuel zero) (plus room zero)) (grown false true true fuel room zero same_mode) f Listed s)
    (λ (s : Statement). s) (BeginWithStatement f) (λ tokens x d. (map read d.0, spelled-statements fuel room f tokens d.0 x d.1))
