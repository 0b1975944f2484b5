-- One turn of the parts of a group (ECMA-262, 6th edition, 12.2.10).
use Rattle.std.proofs.Common.{◌≡◌, ℕ, ◌+◌, ◌-◌, ◌<◌, ◌≤◌, Bool, true, false, ◌&&◌, List, [], ◌∷◌, ◌++◌, refl, sym, ap, ◌∙◌, append_assoc, arith}
use Rattle.es6_lexer.specs.declared.token.Punctuator.TheVariants as marks
use Rattle.es6_ast.specs.declared.tree.Expression.{Expression}
use Rattle.es6_ast.specs.declared.settings.Flags.{Flags}
use Rattle.es6_ast.specs.declared.settings.Role.{Role}
use Rattle.es6_ast.specs.declared.settings.Stop.{Stop}
use Rattle.es6_ast.specs.declared.settings.Stop.TheVariants.{Endless}
use Rattle.es6_ast.specs.Settings.{is_leading}
use Rattle.es6_ast.specs.Tokens.{Filled}
use Rattle.es6_ast.specs.Grammar.{with_in}
use Rattle.es6_reading.specs.Parser.{Input, Inner, Outcome, Took, Fault, Parser, Reading, after, returns, on, if_next, mark, next_is, next_mark}
use Rattle.es6_reading.specs.Expressions.{Held, held_alone, held_first, held_parts}
use Rattle.es6_cursor.specs.Readers.{inner, turns}
use Rattle.es6_cursor.specs.Takes.{Takes}
use Rattle.es6_cursor.specs.Reads.{Halts}
use Rattle.es6_cursor.specs.declared.halt.Halt.{Halt}
use Rattle.es6_cursor.specs.declared.halt.Halt.TheVariants.{Stopped, OutOfMemory}
use Rattle.es6_cursor.proofs.Choices.{on_mark, off_mark, chose, passed_by}
use Rattle.es6_cursor.proofs.Loops.{turns_is, turn, no_turn, then}
use Rattle.es6_cursor.proofs.Rooms.{fuel_turns}
use Rattle.es6_read_primaries.specs.Lists.{joined, before_held}
use Rattle.es6_read_primaries.proofs.Follows.{halts}

-- ## Parts before others

joined_more : (front : List Expression) (x : Expression) (h : Held) → joined front (held_first x h) ≡ joined (front ++ x ∷ []) h
joined_more [] x h = refl
joined_more (y ∷ ys) x h = ap (λ l. record { first = y; more = l; end = h.end; before_rest = h.before_rest }) (sym (append_assoc ys (x ∷ []) (h.first ∷ h.more)))

held_more_before : (front : List Expression) (x : Expression) (o : Outcome Held) → before_held front (after o (λ h. returns (held_first x h))) ≡ before_held (front ++ x ∷ []) o
held_more_before front x (Took h c) = ap (λ j. Took j c) (joined_more front x h)
held_more_before front x (Fault stop ts) = refl

pub none_held : (o : Outcome Held) → before_held [] o ≡ o
none_held (Took h c) = refl
none_held (Fault stop ts) = refl

-- ## A turn

-- a rest stands only where parameters may
led : (b : Bool) (ts : List Filled) → next_is (λ t. b && next_mark marks.Ellipsis t) ts ≡ (b && next_is (next_mark marks.Ellipsis) ts)
led true [] = refl
led false [] = refl
led b (t ∷ ts) = refl

-- behind a comma, and after a part, which ends at the place
abbrev next_parts : Inner → Flags → Role → ℕ → Reading → Parser Held
next_parts i f role m x d = after (held_parts i f role m d) (λ h. returns (held_first x.value h))

abbrev behind_comma : Inner → Flags → Role → ℕ → Reading → ℕ → Parser Held
behind_comma i f role m x last = if_next (λ t. is_leading role && next_mark marks.Ellipsis t) (returns (held_alone x.value last true)) (next_parts i f role m x)

after_part : Inner → Flags → Role → ℕ → Reading → Parser Held
after_part i f role m x c = on (mark marks.Comma) (λ _. behind_comma i f role m x c.last) (returns (held_alone x.value c.last false)) c

held_turn : (i : Inner) (f : Flags) (role : Role) (n : ℕ) (c : Input) → n < turns → held_parts i f role (turns - n) c ≡ after (i.assignment (with_in f) c) (after_part i f role (turns - (n + 1)))
unfolding held_parts after_part
held_turn i f role n c h = ap (λ m. held_parts i f role m c) (turn n h)

held_comma : (i : Inner) (f : Flags) (role : Role) (m : ℕ) (x : Reading) (d e : Input) → Takes (next_mark marks.Comma) d true e → after_part i f role m x d ≡ behind_comma i f role m x d.last e
unfolding after_part
held_comma i f role m x d e comma = on_mark marks.Comma (behind_comma i f role m x d.last) (returns (held_alone x.value d.last false)) d e comma

module _ (i : Inner) (f : Flags) (role : Role) (n : ℕ) (front : List Expression) (c : Input) where
  pub held_more : (d e : Input) (x : Reading) → n < turns → i.assignment (with_in f) c ≡ Took x d → Takes (next_mark marks.Comma) d true e → (is_leading role && next_is (next_mark marks.Ellipsis) e.tokens) ≡ false
      → before_held front (held_parts i f role (turns - n) c) ≡ before_held (front ++ x.value ∷ []) (held_parts i f role (turns - (n + 1)) e)
  held_more d e x lt read comma none =
      ap (before_held front) (held_turn i f role n c lt ∙ then (after_part i f role (turns - (n + 1))) read ∙ held_comma i f role (turns - (n + 1)) x d e comma ∙ passed_by (next_is (λ t. is_leading role && next_mark marks.Ellipsis t) e.tokens) (returns (held_alone x.value d.last true)) (next_parts i f role (turns - (n + 1)) x) e (led (is_leading role) e.tokens ∙ none)) ∙ held_more_before front x.value (held_parts i f role (turns - (n + 1)) e)

  pub held_rest : (d e : Input) (x : Reading) → n < turns → i.assignment (with_in f) c ≡ Took x d → Takes (next_mark marks.Comma) d true e → (is_leading role && next_is (next_mark marks.Ellipsis) e.tokens) ≡ true
      → before_held front (held_parts i f role (turns - n) c) ≡ Took (joined front (held_alone x.value d.last true)) e
  held_rest d e x lt read comma found = ap (before_held front) (held_turn i f role n c lt ∙ then (after_part i f role (turns - (n + 1))) read ∙ held_comma i f role (turns - (n + 1)) x d e comma ∙ chose (next_is (λ t. is_leading role && next_mark marks.Ellipsis t) e.tokens) (returns (held_alone x.value d.last true)) (next_parts i f role (turns - (n + 1)) x) e (led (is_leading role) e.tokens ∙ found))

  pub held_last : (d e : Input) (x : Reading) → n < turns → i.assignment (with_in f) c ≡ Took x d → Takes (next_mark marks.Comma) d false e
      → before_held front (held_parts i f role (turns - n) c) ≡ Took (joined front (held_alone x.value d.last false)) e
  unfolding after_part
  held_last d e x lt read none = ap (before_held front) (held_turn i f role n c lt ∙ then (after_part i f role (turns - (n + 1))) read ∙ off_mark marks.Comma (behind_comma i f role (turns - (n + 1)) x d.last) (returns (held_alone x.value d.last false)) d e none)

  pub held_fault : (stop : Stop) (ts : List Filled) → n < turns → i.assignment (with_in f) c ≡ Fault stop ts → before_held front (held_parts i f role (turns - n) c) ≡ Fault stop ts
  held_fault stop ts lt read = ap (before_held front) (held_turn i f role n c lt ∙ halts (after_part i f role (turns - (n + 1))) read)

  pub held_halts : (halt : Halt) (ts : List Filled) → n < turns → Halts (i.assignment (with_in f) c) halt ts → Halts (before_held front (held_parts i f role (turns - n) c)) halt ts
  held_halts (Stopped stop) ts lt read = held_fault stop ts lt read
  held_halts OutOfMemory ts lt read = tt

  pub held_endless : turns ≤ n → before_held front (held_parts i f role (turns - n) c) ≡ Fault Endless c.tokens
  unfolding held_parts
  held_endless h = ap (λ m. before_held front (held_parts i f role m c)) (no_turn n h)

-- ## The first part

module _ (room : ℕ) (f : Flags) (role : Role) (c : Input) where
  at_first : held_parts (inner room) f role (inner room).fuel c ≡ before_held [] (held_parts (inner room) f role (turns - 0) c)
  at_first =
      let e : (inner room).fuel ≡ turns - 0 = omega (arith, fuel_turns room) in
      ap (λ m. held_parts (inner room) f role m c) e ∙ sym (none_held (held_parts (inner room) f role (turns - 0) c))

  pub first_more : (d e : Input) (x : Reading) → (inner room).assignment (with_in f) c ≡ Took x d → Takes (next_mark marks.Comma) d true e → (is_leading role && next_is (next_mark marks.Ellipsis) e.tokens) ≡ false
      → held_parts (inner room) f role (inner room).fuel c ≡ before_held (x.value ∷ []) (held_parts (inner room) f role (turns - 1) e)
  first_more d e x read comma none = at_first ∙ held_more (inner room) f role 0 [] c d e x (omega (arith, turns_is)) read comma none

  pub first_rest : (d e : Input) (x : Reading) → (inner room).assignment (with_in f) c ≡ Took x d → Takes (next_mark marks.Comma) d true e → (is_leading role && next_is (next_mark marks.Ellipsis) e.tokens) ≡ true
      → held_parts (inner room) f role (inner room).fuel c ≡ Took (held_alone x.value d.last true) e
  first_rest d e x read comma found = at_first ∙ held_rest (inner room) f role 0 [] c d e x (omega (arith, turns_is)) read comma found

  pub first_last : (d e : Input) (x : Reading) → (inner room).assignment (with_in f) c ≡ Took x d → Takes (next_mark marks.Comma) d false e
      → held_parts (inner room) f role (inner room).fuel c ≡ Took (held_alone x.value d.last false) e
  first_last d e x read none = at_first ∙ held_last (inner room) f role 0 [] c d e x (omega (arith, turns_is)) read none

  pub first_halts : (halt : Halt) (ts : List Filled) → Halts ((inner room).assignment (with_in f) c) halt ts → Halts (held_parts (inner room) f role (inner room).fuel c) halt ts
  first_halts (Stopped stop) ts read = at_first ∙ held_fault (inner room) f role 0 [] c stop ts (omega (arith, turns_is)) read
  first_halts OutOfMemory ts read = tt

-- what the reader's proof goes by
pub ruleset held_turns = (held_more, held_rest, held_last, held_fault, held_endless)
