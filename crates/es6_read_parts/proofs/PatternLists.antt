-- One turn of each list of a pattern that binds (ECMA-262, 6th edition, 13.3.3).
use Rattle.std.proofs.Common.{◌≡◌, true, false, ℕ, ◌+◌, ◌-◌, ◌<◌, List, [], ◌∷◌, ◌++◌, ap, ◌∙◌}
use Rattle.es6_lexer.specs.declared.token.Punctuator.TheVariants as marks
use Rattle.es6_ast.specs.declared.tree.ArrayPart.{ArrayPart}
use Rattle.es6_ast.specs.declared.tree.ArrayPart.TheVariants.{SkippedPart, SinglePart}
use Rattle.es6_ast.specs.declared.tree.ObjectPart.{ObjectPart}
use Rattle.es6_ast.specs.declared.tree.Part.{Part}
use Rattle.es6_ast.specs.declared.settings.Flags.{Flags}
use Rattle.es6_ast.specs.Tokens.{Filled, begin_of}
use Rattle.es6_reading.specs.Parser.{Input, Inner, Took, after, returns, on, take_as, mark, next_mark}
use Rattle.es6_reading.specs.Parts.{array_parts, object_parts, rest_part}
use Rattle.es6_cursor.specs.Readers.{turns, before}
use Rattle.es6_cursor.specs.Takes.{Takes}
use Rattle.es6_cursor.specs.Reads.{Halts}
use Rattle.es6_cursor.specs.declared.halt.Halt.{Halt}
use Rattle.es6_cursor.specs.declared.halt.Halt.TheVariants.{Stopped, OutOfMemory}
use Rattle.es6_cursor.proofs.Choices.{on_mark, off_mark}
use Rattle.es6_cursor.proofs.Loops.{turn, one_before, ended, then}

-- ## Array patterns

pub array_turn : (i : Inner) (f : Flags) (n : ℕ) (c : Input) → n < turns → array_parts i f (turns - n) c
    ≡ on (mark marks.RightBracket) (λ _. returns []) (on (mark marks.Comma) (λ _ d. after (array_parts i f (turns - (n + 1)) d) (λ es. returns (SkippedPart ∷ es))) (on (mark marks.Ellipsis) (λ _. rest_part (begin_of c.tokens))
    (λ d. after (i.part f d) (λ q. on (mark marks.Comma) (λ _ e. after (array_parts i f (turns - (n + 1)) e) (λ es. returns (SinglePart q ∷ es))) (λ e. after (take_as (mark marks.RightBracket) e) (λ _. returns (SinglePart q ∷ []))))))) c
unfolding array_parts
array_turn i f n c h = ap (λ m. array_parts i f m c) (turn n h)

pub array_end : (i : Inner) (f : Flags) (n : ℕ) (front : List ArrayPart) (c d : Input) → n < turns → Takes (next_mark marks.RightBracket) c true d → before front (array_parts i f (turns - n) c) ≡ Took front d
array_end i f n front c d lt taken = ended front (array_turn i f n c lt ∙ on_mark marks.RightBracket (returns []) _ c d taken)

pub array_skipped : (i : Inner) (f : Flags) (n : ℕ) (front : List ArrayPart) (c d e : Input) → n < turns → Takes (next_mark marks.RightBracket) c false d → Takes (next_mark marks.Comma) d true e
    → before front (array_parts i f (turns - n) c) ≡ before (front ++ SkippedPart ∷ []) (array_parts i f (turns - (n + 1)) e)
array_skipped i f n front c d e lt none comma = ap (before front) (array_turn i f n c lt ∙ off_mark marks.RightBracket (returns []) _ c d none ∙ on_mark marks.Comma (λ x. after (array_parts i f (turns - (n + 1)) x) (λ es. returns (SkippedPart ∷ es))) _ d e comma) ∙ one_before front SkippedPart (array_parts i f (turns - (n + 1)) e)

pub array_rested : (i : Inner) (f : Flags) (n : ℕ) (front : List ArrayPart) (c d e g : Input) → n < turns → Takes (next_mark marks.RightBracket) c false d → Takes (next_mark marks.Comma) d false e → Takes (next_mark marks.Ellipsis) e true g
    → before front (array_parts i f (turns - n) c) ≡ before front (rest_part (begin_of c.tokens) g)
array_rested i f n front c d e g lt none hole dots = ap (before front) (array_turn i f n c lt ∙ off_mark marks.RightBracket (returns []) _ c d none ∙ off_mark marks.Comma (λ x. after (array_parts i f (turns - (n + 1)) x) (λ es. returns (SkippedPart ∷ es))) _ d e hole ∙ on_mark marks.Ellipsis (rest_part (begin_of c.tokens)) _ e g dots)

-- what is read of an element, and behind it
pub array_element : (i : Inner) (f : Flags) (n : ℕ) (front : List ArrayPart) (c d e g : Input) → n < turns → Takes (next_mark marks.RightBracket) c false d → Takes (next_mark marks.Comma) d false e → Takes (next_mark marks.Ellipsis) e false g
    → before front (array_parts i f (turns - n) c) ≡ before front (after (i.part f g) (λ q. on (mark marks.Comma) (λ _ e. after (array_parts i f (turns - (n + 1)) e) (λ es. returns (SinglePart q ∷ es))) (λ e. after (take_as (mark marks.RightBracket) e) (λ _. returns (SinglePart q ∷ [])))))
array_element i f n front c d e g lt none hole dots = ap (before front) (array_turn i f n c lt ∙ off_mark marks.RightBracket (returns []) _ c d none ∙ off_mark marks.Comma (λ x. after (array_parts i f (turns - (n + 1)) x) (λ es. returns (SkippedPart ∷ es))) _ d e hole ∙ off_mark marks.Ellipsis (rest_part (begin_of c.tokens)) _ e g dots)

pub array_more : (i : Inner) (f : Flags) (n : ℕ) (front : List ArrayPart) (c d e g h k : Input) (q : Part) → n < turns → Takes (next_mark marks.RightBracket) c false d → Takes (next_mark marks.Comma) d false e → Takes (next_mark marks.Ellipsis) e false g
    → i.part f g ≡ Took q h → Takes (next_mark marks.Comma) h true k → before front (array_parts i f (turns - n) c) ≡ before (front ++ SinglePart q ∷ []) (array_parts i f (turns - (n + 1)) k)
array_more i f n front c d e g h k q lt none hole dots read comma = array_element i f n front c d e g lt none hole dots ∙ ap (before front) (then _ read ∙ on_mark marks.Comma (λ x. after (array_parts i f (turns - (n + 1)) x) (λ es. returns (SinglePart q ∷ es))) _ h k comma) ∙ one_before front (SinglePart q) (array_parts i f (turns - (n + 1)) k)

pub array_last : (i : Inner) (f : Flags) (n : ℕ) (front : List ArrayPart) (c d e g h k : Input) (q : Part) → n < turns → Takes (next_mark marks.RightBracket) c false d → Takes (next_mark marks.Comma) d false e → Takes (next_mark marks.Ellipsis) e false g
    → i.part f g ≡ Took q h → Takes (next_mark marks.Comma) h false k → before front (array_parts i f (turns - n) c) ≡ before front (after (take_as (mark marks.RightBracket) k) (λ _. returns (SinglePart q ∷ [])))
array_last i f n front c d e g h k q lt none hole dots read comma = array_element i f n front c d e g lt none hole dots ∙ ap (before front) (then _ read ∙ off_mark marks.Comma (λ x. after (array_parts i f (turns - (n + 1)) x) (λ es. returns (SinglePart q ∷ es))) _ h k comma)

-- what comes of the bracket behind the last element
pub last_took : (i : Inner) (f : Flags) (n : ℕ) (front : List ArrayPart) (c d e g h k m : Input) (q : Part) (u : Filled) → n < turns → Takes (next_mark marks.RightBracket) c false d → Takes (next_mark marks.Comma) d false e → Takes (next_mark marks.Ellipsis) e false g
    → i.part f g ≡ Took q h → Takes (next_mark marks.Comma) h false k → take_as (mark marks.RightBracket) k ≡ Took u m → before front (array_parts i f (turns - n) c) ≡ Took (front ++ SinglePart q ∷ []) m
last_took i f n front c d e g h k m q u lt none hole dots read comma closed = array_last i f n front c d e g h k q lt none hole dots read comma ∙ ap (λ o. before front (after o (λ _. returns (SinglePart q ∷ [])))) closed

pub last_halts : (i : Inner) (f : Flags) (n : ℕ) (front : List ArrayPart) (c d e g h k : Input) (q : Part) (halt : Halt) (ts : List Filled) → n < turns → Takes (next_mark marks.RightBracket) c false d → Takes (next_mark marks.Comma) d false e → Takes (next_mark marks.Ellipsis) e false g
    → i.part f g ≡ Took q h → Takes (next_mark marks.Comma) h false k → Halts (take_as (mark marks.RightBracket) k) halt ts → Halts (before front (array_parts i f (turns - n) c)) halt ts
last_halts i f n front c d e g h k q (Stopped stop) ts lt none hole dots read comma closed = array_last i f n front c d e g h k q lt none hole dots read comma ∙ ap (λ o. before front (after o (λ _. returns (SinglePart q ∷ [])))) closed
last_halts i f n front c d e g h k q OutOfMemory ts lt none hole dots read comma closed = tt

pub ruleset array_turns = (array_end, array_skipped, array_rested, array_element, array_more, array_last)

-- ## Object patterns

pub object_turn : (i : Inner) (f : Flags) (n : ℕ) (c : Input) → n < turns → object_parts i f (turns - n) c
    ≡ on (mark marks.RightBrace) (λ _. returns []) (λ d. after (i.object_part f d) (λ x. on (mark marks.Comma) (λ _ e. after (object_parts i f (turns - (n + 1)) e) (λ xs. returns (x ∷ xs))) (λ e. after (take_as (mark marks.RightBrace) e) (λ _. returns (x ∷ []))))) c
unfolding object_parts
object_turn i f n c h = ap (λ m. object_parts i f m c) (turn n h)

pub object_end : (i : Inner) (f : Flags) (n : ℕ) (front : List ObjectPart) (c d : Input) → n < turns → Takes (next_mark marks.RightBrace) c true d → before front (object_parts i f (turns - n) c) ≡ Took front d
object_end i f n front c d lt taken = ended front (object_turn i f n c lt ∙ on_mark marks.RightBrace (returns []) _ c d taken)

-- what is read of a property, and behind it
pub object_property : (i : Inner) (f : Flags) (n : ℕ) (front : List ObjectPart) (c d : Input) → n < turns → Takes (next_mark marks.RightBrace) c false d
    → before front (object_parts i f (turns - n) c) ≡ before front (after (i.object_part f d) (λ x. on (mark marks.Comma) (λ _ e. after (object_parts i f (turns - (n + 1)) e) (λ xs. returns (x ∷ xs))) (λ e. after (take_as (mark marks.RightBrace) e) (λ _. returns (x ∷ [])))))
object_property i f n front c d lt none = ap (before front) (object_turn i f n c lt ∙ off_mark marks.RightBrace (returns []) _ c d none)

pub object_more : (i : Inner) (f : Flags) (n : ℕ) (front : List ObjectPart) (c d e g : Input) (x : ObjectPart) → n < turns → Takes (next_mark marks.RightBrace) c false d → i.object_part f d ≡ Took x e → Takes (next_mark marks.Comma) e true g
    → before front (object_parts i f (turns - n) c) ≡ before (front ++ x ∷ []) (object_parts i f (turns - (n + 1)) g)
object_more i f n front c d e g x lt none read comma = object_property i f n front c d lt none ∙ ap (before front) (then _ read ∙ on_mark marks.Comma (λ y. after (object_parts i f (turns - (n + 1)) y) (λ xs. returns (x ∷ xs))) _ e g comma) ∙ one_before front x (object_parts i f (turns - (n + 1)) g)

pub object_last : (i : Inner) (f : Flags) (n : ℕ) (front : List ObjectPart) (c d e g : Input) (x : ObjectPart) → n < turns → Takes (next_mark marks.RightBrace) c false d → i.object_part f d ≡ Took x e → Takes (next_mark marks.Comma) e false g
    → before front (object_parts i f (turns - n) c) ≡ before front (after (take_as (mark marks.RightBrace) g) (λ _. returns (x ∷ [])))
object_last i f n front c d e g x lt none read comma = object_property i f n front c d lt none ∙ ap (before front) (then _ read ∙ off_mark marks.Comma (λ y. after (object_parts i f (turns - (n + 1)) y) (λ xs. returns (x ∷ xs))) _ e g comma)

pub object_took : (i : Inner) (f : Flags) (n : ℕ) (front : List ObjectPart) (c d e g h : Input) (x : ObjectPart) (u : Filled) → n < turns → Takes (next_mark marks.RightBrace) c false d → i.object_part f d ≡ Took x e → Takes (next_mark marks.Comma) e false g
    → take_as (mark marks.RightBrace) g ≡ Took u h → before front (object_parts i f (turns - n) c) ≡ Took (front ++ x ∷ []) h
object_took i f n front c d e g h x u lt none read comma closed = object_last i f n front c d e g x lt none read comma ∙ ap (λ o. before front (after o (λ _. returns (x ∷ [])))) closed

pub ruleset object_turns = (object_end, object_property, object_more, object_last)
