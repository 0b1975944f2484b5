-- What the readers tied into one another give is derived, with at most so many constructs open: without inserted semicolons.
use Rattle.std.proofs.Common.{◌≡◌, ℕ, zero, suc, Bool, true, false, List, [], ◌∷◌, refl, subst}
use Rattle.std.proofs.lemmas.Bool.{false≢true, true≢false}
use Rattle.es5_ast.specs.declared.tree.Stat5.{Stat5}
use Rattle.es5_ast.specs.Lexical.{Token5}
use Rattle.es5_ast.specs.Grammar as g
use Rattle.es5_ast.specs.Grammar.{Mode5, Exact, IsProgram}
use Rattle.es5_ast.specs.Within.{ProgramWithin}
use Rattle.es5_reading.specs.Parser.{Input5, next_is, Read5, Inner5}
use Rattle.es5_reading.specs.Expressions.{expression_at_limit, callee_at_limit, no_expression}
use Rattle.es5_reading.specs.Statements.{statement_at_limit}
use Rattle.es5_reading.specs.Programs.{readers, program}
use Rattle.es5_reading.specs.Laws.{IsSound}
use Rattle.es5_reading.proofs.Posts.{Holds, took, fault, of_took, bind, weaken, if-holds}
use Rattle.es5_reading.proofs.Derived.{ReadIn, ReadOpen}
use Rattle.es5_reading.proofs.SoundParts.{Sound}
use Rattle.es5_reading.proofs.SoundOperators.{sound-chain}
use Rattle.es5_reading.proofs.SoundLevels.{sound-sequence, sound-assignment, sound-unary, sound-property, callee-open}
use Rattle.es5_reading.proofs.SoundStatements.{sound-declared}
use Rattle.es5_reading.proofs.SoundCompound.{sound-statement}

no-expression : {Q : Read5 → Input5 → Type 0} (s : Input5) → Holds Q (no_expression s)
unfolding no_expression
no-expression s = if-holds _ _ _ s (λ h. fault) (λ h. fault)

expression-stops : {Q : Read5 → Input5 → Type 0} (s : Input5) → Holds Q (expression_at_limit s)
unfolding expression_at_limit
expression-stops s = if-holds _ _ _ s (λ h. fault) (λ h. no-expression s)

callee-stops : {Q : Read5 → Input5 → Type 0} (s : Input5) → Holds Q (callee_at_limit s)
unfolding callee_at_limit
callee-stops s = if-holds _ _ _ s (λ h. fault) (λ h. no-expression s)

statement-stops : {Q : Stat5 → Input5 → Type 0} (inside : Bool) (s : Input5) → Holds Q (statement_at_limit inside s)
unfolding statement_at_limit
statement-stops inside s = if-holds _ _ _ s (λ h. fault) (λ h. if-holds _ _ _ s (λ h. fault) (λ h. if-holds _ _ _ s (λ h. fault) (λ h. if-holds _ _ _ s (λ h. fault) (λ h. fault))))

open-read : (n : ℕ) (k : Bool) (least : ℕ) (s : Input5) (x : Read5) (c : Input5) → ReadIn n k least s x c → ReadOpen (suc n) k least s x c
open-read n k least s x c r = record { moves = r.moves; derived = r.derived }

pub sound-readers : (fuel room : ℕ) → Sound (readers false fuel room) room
unfolding readers
sound-readers fuel zero = record {
  plain = refl;
  opens = λ h. absurd (false≢true h);
  sequence = λ k s. expression-stops s;
  assignment = λ k s. expression-stops s;
  unary = λ s. expression-stops s;
  callee = λ s. callee-stops s;
  property = λ s. fault;
  declared = λ k s. fault;
  statement = λ inside top s. statement-stops inside s;
}
sound-readers fuel (suc room) =
    let deeper = sound-readers fuel room in
    record {
      plain = refl;
      opens = λ h. tt;
      sequence = λ k s. weaken (sound-sequence (readers false fuel room) room deeper k s) (λ x c r. open-read room k 0 s x c r);
      assignment = λ k s. weaken (sound-assignment (readers false fuel room) room deeper k s) (λ x c r. open-read room k 1 s x c r);
      unary = λ s. weaken (sound-unary (readers false fuel room) room deeper false s) (λ x c r. open-read room false 13 s x c r);
      callee = λ s. weaken (sound-chain (readers false fuel room) room deeper false s) (λ x c r. callee-open room x r);
      property = λ s. sound-property (readers false fuel room) room deeper s;
      declared = λ k s. sound-declared (readers false fuel room) room deeper k s;
      statement = λ inside top s. sound-statement (readers false fuel room) room deeper inside top s;
    }

abbrev ProgramOf : ℕ → Input5 → List Stat5 → Input5 → Type 0
ProgramOf n s xs c = (c.tokens ≡ []) × (d : IsProgram Exact s.tokens xs) × ProgramWithin d n

at-end : (n : ℕ) (s : Input5) → next_is (λ t. true) s.tokens ≡ false → ProgramOf n s [] s
at-end n s h = ended s.tokens h
  where
    ended : (ts : List Token5) → next_is (λ t. true) ts ≡ false → (ts ≡ []) × (d : IsProgram Exact ts []) × ProgramWithin d n
    ended [] h = (refl, g.no_more, tt)
    ended (t ∷ ts) h = absurd (true≢false h)

sound-program : (i : Inner5) (n : ℕ) (sound : Sound i n) (turns : ℕ) (s : Input5) → Holds (ProgramOf n s) (program i turns s)
unfolding program
sound-program i n sound zero s = fault
sound-program i n sound (suc turns) s = if-holds _ _ _ s
    (λ h. bind (sound-statement i n sound false true s) λ x a d. bind (sound-program i n sound turns a) λ xs c ds. took (ds.0, g.one_more d.1 ds.1, (d.2, ds.2)))
    (λ h. took (at-end n s h))

pub soundness : IsSound
soundness fuel room tokens last statements c e =
    let h = of_took (subst (λ o. Holds (ProgramOf room (record { tokens = tokens; last = last })) o) e (sound-program (readers false fuel room) room (sound-readers fuel room) fuel (record { tokens = tokens; last = last }))) in
    (h.1, h.2)
