-- One turn of the list of each `else` behind a condition (ECMA-262, 6th edition, 13.6).
use Rattle.std.proofs.Common.{◌≡◌, ℕ, ◌+◌, ◌-◌, ◌<◌, List, [], ◌∷◌, ◌++◌, Option, Some, None, refl, sym, ap, ◌∙◌, append_assoc, append-nil}
use Rattle.std.specs.Prelude.{codes}
use Rattle.es6_ast.specs.declared.settings.Flags.{Flags}
use Rattle.es6_ast.specs.declared.settings.Stand.TheVariants.{Under}
use Rattle.es6_ast.specs.declared.settings.Stop.TheVariants.{Endless}
use Rattle.es6_ast.specs.Tokens.{Filled}
use Rattle.es6_ast.specs.declared.tree.Condition.{Condition}
use Rattle.es6_ast.specs.declared.tree.Statement.{Statement}
use Rattle.es6_reading.specs.Parser.{Input, Inner, Outcome, Parser, Took, Fault, after, returns, on, if_next, word, next_is, next_word}
use Rattle.es6_reading.specs.Statements.{condition, otherwise, with_condition, Otherwise}
use Rattle.es6_cursor.specs.declared.halt.Halt.{Halt}
use Rattle.es6_cursor.specs.declared.halt.Halt.TheVariants.{Stopped, OutOfMemory}
use Rattle.es6_cursor.specs.Readers.{turns}
use Rattle.es6_cursor.specs.Reads.{Halts}
use Rattle.es6_cursor.proofs.Loops.{turn, then}
use Rattle.es6_read_statements.proofs.Follows.{after_after, after_choice, after_on, halted, halts_as}
use Rattle.es6_read_statements.specs.declared.conditions.Alternative.{Alternative}
use Rattle.es6_read_statements.specs.declared.conditions.Alternative.TheVariants as alternative
use Rattle.es6_read_statements.specs.Enclosed.{one_alternative}
use Rattle.es6_read_statements.specs.Variables.{before_more}

-- what follows an alternative
by_alternative : Inner → Flags → ℕ → Alternative Condition Statement → Parser Otherwise
by_alternative i f m (alternative.More x) = λ d. after (otherwise i f m d) (λ r. returns (with_condition x r))
by_alternative i f m (alternative.Last s) = returns (record { more = []; last = Some s })
by_alternative i f m alternative.Nothing = returns (record { more = []; last = None })

otherwise_turn : (i : Inner) (f : Flags) (n : ℕ) (c : Input) → n < turns → otherwise i f (turns - n) c ≡ after (one_alternative i f c) (by_alternative i f (turns - (n + 1)))
unfolding otherwise one_alternative by_alternative
otherwise_turn i f n c h = ap (λ m. otherwise i f m c) (turn n h) ∙ after_on k (word (codes "else")) _ _ _ _ c
    (λ t d. after_choice k (next_is (next_word (codes "if")) d.tokens) _ _ _ _ d (after_after (condition i f d) (λ x. returns (alternative.More x)) k) (after_after (i.statement f Under d) (λ s. returns (alternative.Last s)) k)) refl
  where
    k : Alternative Condition Statement → Parser Otherwise
    k = by_alternative i f (turns - (n + 1))

all_more : (r : Outcome Otherwise) → before_more [] r ≡ r
all_more (Took r c) = refl
all_more (Fault stop ts) = refl

one_more : (front : List Condition) (x : Condition) (o : Outcome Otherwise) → before_more front (after o (λ r. returns (with_condition x r))) ≡ before_more (front ++ x ∷ []) o
one_more front x (Took r c) = ap (λ l. Took (record { more = l; last = r.last }) c) (sym (append_assoc front (x ∷ []) r.more))
one_more front x (Fault stop ts) = refl

no_more_of : (front : List Condition) (last : Option Statement) (c : Input) → before_more front (Took (record { more = []; last = last }) c) ≡ Took (record { more = front; last = last }) c
no_more_of front last c = ap (λ l. Took (record { more = l; last = last }) c) (append-nil front)

halted_more : (front : List Condition) (o : Outcome Otherwise) (halt : Halt) (ts : List Filled) → Halts o halt ts → Halts (before_more front o) halt ts
halted_more front o (Stopped stop) ts h = ap (before_more front) h
halted_more front o OutOfMemory ts h = tt

pub otherwise_begin : (i : Inner) (f : Flags) (n : ℕ) (c : Input) → otherwise i f n c ≡ before_more [] (otherwise i f n c)
otherwise_begin i f n c = sym (all_more (otherwise i f n c))

pub otherwise_none : (i : Inner) (f : Flags) (n : ℕ) (front : List Condition) (c d : Input) → n < turns → one_alternative i f c ≡ Took alternative.Nothing d
    → before_more front (otherwise i f (turns - n) c) ≡ Took (record { more = front; last = None }) d
unfolding by_alternative
otherwise_none i f n front c d lt read = ap (before_more front) (otherwise_turn i f n c lt ∙ then (by_alternative i f (turns - (n + 1))) read) ∙ no_more_of front None d

pub otherwise_last : (i : Inner) (f : Flags) (n : ℕ) (front : List Condition) (c d : Input) (s : Statement) → n < turns → one_alternative i f c ≡ Took (alternative.Last s) d
    → before_more front (otherwise i f (turns - n) c) ≡ Took (record { more = front; last = Some s }) d
unfolding by_alternative
otherwise_last i f n front c d s lt read = ap (before_more front) (otherwise_turn i f n c lt ∙ then (by_alternative i f (turns - (n + 1))) read) ∙ no_more_of front (Some s) d

pub otherwise_more : (i : Inner) (f : Flags) (n : ℕ) (front : List Condition) (c d : Input) (x : Condition) → n < turns → one_alternative i f c ≡ Took (alternative.More x) d
    → before_more front (otherwise i f (turns - n) c) ≡ before_more (front ++ x ∷ []) (otherwise i f (turns - (n + 1)) d)
unfolding by_alternative
otherwise_more i f n front c d x lt read = ap (before_more front) (otherwise_turn i f n c lt ∙ then (by_alternative i f (turns - (n + 1))) read) ∙ one_more front x (otherwise i f (turns - (n + 1)) d)

pub otherwise_halts : (i : Inner) (f : Flags) (n : ℕ) (front : List Condition) (c : Input) (halt : Halt) (ts : List Filled) → n < turns → Halts (one_alternative i f c) halt ts
    → Halts (before_more front (otherwise i f (turns - n) c)) halt ts
otherwise_halts i f n front c halt ts lt read = halts_as halt ts (ap (before_more front) (otherwise_turn i f n c lt)) (halted_more front (after (one_alternative i f c) (by_alternative i f (turns - (n + 1)))) halt ts (halted (one_alternative i f c) (by_alternative i f (turns - (n + 1))) halt ts read))

pub otherwise_endless : (i : Inner) (f : Flags) (n : ℕ) (front : List Condition) (c : Input) → turns - n ≡ 0 → before_more front (otherwise i f (turns - n) c) ≡ Fault Endless c.tokens
unfolding otherwise
otherwise_endless i f n front c h = ap (λ m. before_more front (otherwise i f m c)) h

pub ruleset otherwise_turns = (otherwise_begin, otherwise_none, otherwise_last, otherwise_more, otherwise_halts, otherwise_endless)
