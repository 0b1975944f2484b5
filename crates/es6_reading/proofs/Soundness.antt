-- What the readers tied into one another give is derived: without inserted semicolons.
use Rattle.std.proofs.Common.{ℕ, zero, suc, Bool, false, refl, subst}
use Rattle.es6_ast.specs.declared.tree.Statement.{Statement}
use Rattle.es6_ast.specs.declared.settings.Flags.{Flags}
use Rattle.es6_ast.specs.declared.settings.Stand.{Stand}
use Rattle.es6_ast.specs.Tokens.{Filled}
use Rattle.es6_reading.specs.Parser.{Input, Reading, Inner}
use Rattle.es6_reading.specs.Expressions.{expression_at_limit, operand_at_limit}
use Rattle.es6_reading.specs.Statements.{statement_at_limit}
use Rattle.es6_reading.specs.Modules.{readers}
use Rattle.es6_reading.specs.Laws.{IsSound}
use Rattle.es6_reading.proofs.Posts.{Holds, fault, of_took, if-holds, no-expression-holds, no-number-holds}
use Rattle.es6_reading.proofs.Derived.{Sound}
use Rattle.es6_reading.proofs.SoundPatterns.{sound-binding, sound-initialized, sound-part, sound-object-part}
use Rattle.es6_reading.proofs.SoundFunctions.{sound-block, sound-member}
use Rattle.es6_reading.proofs.SoundChains.{sound-heritage-chain, sound-callee}
use Rattle.es6_reading.proofs.SoundLevels.{sound-unary, sound-power, sound-assignment, sound-sequence}
use Rattle.es6_reading.proofs.SoundProperties.{sound-property}
use Rattle.es6_reading.proofs.SoundDeclarations.{sound-statement}
use Rattle.es6_reading.proofs.SoundModules.{ModuleOf, sound-module}

-- ## Where no construct may open any more, nothing is read

expression-stops : {Q : Reading → Input → Type 0} (test : Filled → Bool) (s : Input) → Holds Q (expression_at_limit test s)
unfolding expression_at_limit
expression-stops test s = if-holds _ _ _ s (λ h. fault) (λ h. no-expression-holds s)

operand-stops : {Q : Reading → Input → Type 0} (s : Input) → Holds Q (operand_at_limit s)
unfolding operand_at_limit
operand-stops s = if-holds _ _ _ s (λ h. fault) (λ h. no-number-holds s)

statement-stops : {Q : Statement → Input → Type 0} (f : Flags) (stand : Stand) (s : Input) → Holds Q (statement_at_limit f stand s)
unfolding statement_at_limit
statement-stops f stand s = if-holds _ _ _ s (λ h. fault) (λ h. if-holds _ _ _ s (λ h. fault) (λ h. no-expression-holds s))

pub sound-readers : (fuel room : ℕ) → Sound (readers false fuel room)
unfolding readers
sound-readers fuel zero = record {
  plain = refl;
  sequence = λ f s. expression-stops _ s;
  assignment = λ f s. expression-stops _ s;
  power = λ f s. expression-stops _ s;
  unary = λ f s. expression-stops _ s;
  callee = λ f s. operand-stops s;
  heritage = λ f s. operand-stops s;
  block = λ f s. fault;
  property = λ f s. fault;
  target = λ f s. fault;
  part = λ f s. fault;
  object_part = λ f s. fault;
  variable = λ f s. fault;
  member = λ f s. fault;
  statement = λ f stand s. statement-stops f stand s;
}
sound-readers fuel (suc room) =
    let i : Inner = readers false fuel room in
    let deeper = sound-readers fuel room in
    record {
      plain = refl;
      sequence = sound-sequence i deeper;
      assignment = sound-assignment i deeper;
      power = sound-power i deeper;
      unary = sound-unary i deeper;
      callee = sound-callee i deeper;
      heritage = sound-heritage-chain i deeper;
      block = sound-block i deeper;
      property = sound-property i deeper;
      target = sound-binding i deeper;
      part = sound-part i deeper;
      object_part = sound-object-part i deeper;
      variable = λ f s. sound-initialized i deeper f f s;
      member = sound-member i deeper;
      statement = sound-statement i deeper;
    }

pub soundness : IsSound
soundness fuel room tokens last m c e = (of_took (subst (λ o. Holds (ModuleOf (record { tokens = tokens; last = last })) o) e (sound-module (readers false fuel room) (sound-readers fuel room) (record { tokens = tokens; last = last })))).1
