-- One turn of the values of a template (ECMA-262, 6th edition, 12.2.9).
use Rattle.std.proofs.Common.{◌≡◌, ℕ, ◌+◌, ◌-◌, ◌<◌, ◌≤◌, true, false, List, [], ◌∷◌, ◌++◌, Some, None, ap, ◌∙◌}
use Rattle.es6_ast.specs.declared.tree.Stretch.{Stretch}
use Rattle.es6_ast.specs.declared.tree.TemplatePart.{TemplatePart}
use Rattle.es6_ast.specs.declared.settings.Flags.{Flags}
use Rattle.es6_ast.specs.declared.settings.Stop.{Stop}
use Rattle.es6_ast.specs.declared.settings.Stop.TheVariants.{Endless}
use Rattle.es6_ast.specs.Tokens.{Filled}
use Rattle.es6_ast.specs.Grammar.{with_in}
use Rattle.es6_reading.specs.Parser.{Input, Inner, Took, Fault, Parser, Reading, after, returns, on, take_as}
use Rattle.es6_reading.specs.Words.{stretch_at}
use Rattle.es6_reading.specs.Parts.{template_part, template_parts}
use Rattle.es6_cursor.specs.Readers.{turns, before}
use Rattle.es6_cursor.specs.Reads.{Halts}
use Rattle.es6_cursor.specs.declared.halt.Halt.{Halt}
use Rattle.es6_cursor.specs.declared.halt.Halt.TheVariants.{Stopped, OutOfMemory}
use Rattle.es6_cursor.specs.Takes.{TakesAs}
use Rattle.es6_cursor.proofs.Choices.{on_as, off_as}
use Rattle.es6_cursor.proofs.Loops.{turn, no_turn, one_before, then}
use Rattle.es6_read_primaries.proofs.Follows.{halts}

-- after a value: the last stretch, or another one and what comes of the rest
after_value : Inner → Flags → ℕ → Reading → Parser (List TemplatePart)
after_value i f m x = on (stretch_at false true) (λ s. returns (template_part x.value s ∷ [])) (λ c. after (take_as (stretch_at false false) c) (λ s d. after (template_parts i f m d) (λ ps. returns (template_part x.value s ∷ ps))))

template_turn : (i : Inner) (f : Flags) (n : ℕ) (c : Input) → n < turns → template_parts i f (turns - n) c ≡ after (i.sequence (with_in f) c) (after_value i f (turns - (n + 1)))
unfolding template_parts after_value
template_turn i f n c h = ap (λ m. template_parts i f m c) (turn n h)

module _ (i : Inner) (f : Flags) (n : ℕ) (front : List TemplatePart) (c : Input) where
  pub template_more : (d e g : Input) (x : Reading) (s : Stretch) → n < turns → i.sequence (with_in f) c ≡ Took x d → TakesAs (stretch_at false true) d None e → take_as (stretch_at false false) e ≡ Took s g
      → before front (template_parts i f (turns - n) c) ≡ before (front ++ template_part x.value s ∷ []) (template_parts i f (turns - (n + 1)) g)
  unfolding after_value
  template_more d e g x s lt read none taken =
      ap (before front) (template_turn i f n c lt ∙ then _ read ∙ off_as _ _ _ d e none ∙ then _ taken) ∙ one_before front (template_part x.value s) (template_parts i f (turns - (n + 1)) g)

  pub template_last : (d e : Input) (x : Reading) (s : Stretch) → n < turns → i.sequence (with_in f) c ≡ Took x d → TakesAs (stretch_at false true) d (Some s) e
      → before front (template_parts i f (turns - n) c) ≡ Took (front ++ template_part x.value s ∷ []) e
  unfolding after_value
  template_last d e x s lt read taken = ap (before front) (template_turn i f n c lt ∙ then _ read ∙ on_as _ _ _ d e s taken)

  pub template_value_fault : (stop : Stop) (ts : List Filled) → n < turns → i.sequence (with_in f) c ≡ Fault stop ts → before front (template_parts i f (turns - n) c) ≡ Fault stop ts
  template_value_fault stop ts lt read = ap (before front) (template_turn i f n c lt ∙ halts _ read)

  pub template_stretch_fault : (d e : Input) (x : Reading) (stop : Stop) (ts : List Filled) → n < turns → i.sequence (with_in f) c ≡ Took x d → TakesAs (stretch_at false true) d None e → take_as (stretch_at false false) e ≡ Fault stop ts
      → before front (template_parts i f (turns - n) c) ≡ Fault stop ts
  unfolding after_value
  template_stretch_fault d e x stop ts lt read none taken = ap (before front) (template_turn i f n c lt ∙ then _ read ∙ off_as _ _ _ d e none ∙ halts _ taken)

  pub template_value_halts : (halt : Halt) (ts : List Filled) → n < turns → Halts (i.sequence (with_in f) c) halt ts → Halts (before front (template_parts i f (turns - n) c)) halt ts
  template_value_halts (Stopped stop) ts lt read = template_value_fault stop ts lt read
  template_value_halts OutOfMemory ts lt read = tt

  pub template_stretch_halts : (d e : Input) (x : Reading) (halt : Halt) (ts : List Filled) → n < turns → i.sequence (with_in f) c ≡ Took x d → TakesAs (stretch_at false true) d None e → Halts (take_as (stretch_at false false) e) halt ts
      → Halts (before front (template_parts i f (turns - n) c)) halt ts
  template_stretch_halts d e x (Stopped stop) ts lt read none taken = template_stretch_fault d e x stop ts lt read none taken
  template_stretch_halts d e x OutOfMemory ts lt read none taken = tt

  pub template_endless : turns ≤ n → before front (template_parts i f (turns - n) c) ≡ Fault Endless c.tokens
  unfolding template_parts
  template_endless h = ap (λ m. before front (template_parts i f m c)) (no_turn n h)

pub ruleset template_turns = (template_more, template_last, template_value_fault, template_stretch_fault, template_endless)
