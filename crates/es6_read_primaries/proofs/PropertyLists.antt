-- One turn of the list of an object literal's properties (ECMA-262, 6th edition, 12.2.6).
use Rattle.std.proofs.Common.{◌≡◌, true, false, ℕ, ◌+◌, ◌-◌, ◌<◌, List, [], ◌∷◌, ◌++◌, ap, ◌∙◌}
use Rattle.es6_lexer.specs.declared.token.Punctuator.TheVariants as marks
use Rattle.es6_ast.specs.declared.tree.Property.{Property}
use Rattle.es6_ast.specs.declared.settings.Flags.{Flags}
use Rattle.es6_reading.specs.Parser.{Input, Inner, Took, after, returns, on, take_as, mark, next_mark}
use Rattle.es6_reading.specs.Expressions.{properties}
use Rattle.es6_cursor.specs.Readers.{turns, before}
use Rattle.es6_cursor.specs.Takes.{Takes}
use Rattle.es6_cursor.proofs.Choices.{on_mark, off_mark}
use Rattle.es6_cursor.proofs.Loops.{turn, one_before, ended, then}

pub properties_turn : (i : Inner) (f : Flags) (n : ℕ) (c : Input) → n < turns → properties i f (turns - n) c ≡ on (mark marks.RightBrace) (λ _. returns []) (λ d. after (i.property f d) (λ x. on (mark marks.Comma) (λ _ e. after (properties i f (turns - (n + 1)) e) (λ xs. returns (x ∷ xs))) (λ e. after (take_as (mark marks.RightBrace) e) (λ _. returns (x ∷ []))))) c
unfolding properties
properties_turn i f n c h = ap (λ m. properties i f m c) (turn n h)

pub properties_more : (i : Inner) (f : Flags) (n : ℕ) (front : List Property) (c d e g : Input) (x : Property) → n < turns → Takes (next_mark marks.RightBrace) c false d → i.property f d ≡ Took x e → Takes (next_mark marks.Comma) e true g → before front (properties i f (turns - n) c) ≡ before (front ++ x ∷ []) (properties i f (turns - (n + 1)) g)
properties_more i f n front c d e g x lt none read comma = ap (before front) (properties_turn i f n c lt ∙ off_mark marks.RightBrace _ _ c d none ∙ then _ read ∙ on_mark marks.Comma _ _ e g comma) ∙ one_before front x (properties i f (turns - (n + 1)) g)

pub properties_end : (i : Inner) (f : Flags) (n : ℕ) (front : List Property) (c d : Input) → n < turns → Takes (next_mark marks.RightBrace) c true d → before front (properties i f (turns - n) c) ≡ Took front d
properties_end i f n front c d lt taken = ended front (properties_turn i f n c lt ∙ on_mark marks.RightBrace _ _ c d taken)
