-- One turn of each list of parts of functions and classes (ECMA-262, 6th edition, 14).
use Rattle.std.proofs.Common.{◌≡◌, ℕ, ◌+◌, ◌-◌, ◌<◌, true, false, List, [], ◌∷◌, ◌++◌, ap, ◌∙◌}
use Rattle.es6_ast.specs.declared.settings.Flags.{Flags}
use Rattle.es6_ast.specs.declared.settings.Stand.TheVariants.{Listed}
use Rattle.es6_ast.specs.Tokens.{Filled, begin_of}
use Rattle.es6_reading.specs.Parser.{Input, Inner, Took, after, returns, on, take_as, mark, next_mark}
use Rattle.es6_reading.specs.Parts.{members, more_parameters, statements}
use Rattle.es6_read_parts.specs.Patterns.{last_parameter}
use Rattle.es6_cursor.specs.Readers.{turns, before}
use Rattle.es6_cursor.specs.Reads.{Halts}
use Rattle.es6_cursor.specs.declared.halt.Halt.{Halt}
use Rattle.es6_cursor.specs.declared.halt.Halt.TheVariants.{Stopped, OutOfMemory}
use Rattle.es6_cursor.specs.Takes.{Takes}
use Rattle.es6_cursor.proofs.Choices.{on_mark, off_mark}
use Rattle.es6_cursor.proofs.Loops.{turn, one_before, then, ended}
use Rattle.es6_ast.specs.declared.tree.ClassMember.{ClassMember}
use Rattle.es6_ast.specs.declared.tree.Parameter.{Parameter}
use Rattle.es6_ast.specs.declared.tree.Parameter.TheVariants.{SingleParameter}
use Rattle.es6_ast.specs.declared.tree.Part.{Part}
use Rattle.es6_ast.specs.declared.tree.Statement.{Statement}
use Rattle.es6_lexer.specs.declared.token.Punctuator.TheVariants as marks

-- ## Parameters (14.1)

pub parameter_turn : (i : Inner) (f : Flags) (n : ℕ) (c : Input) → n < turns → more_parameters i f (turns - n) c
    ≡ on (mark marks.Ellipsis) (λ _. last_parameter (begin_of c.tokens))
    (λ d. after (i.part f d) (λ q. on (mark marks.Comma) (λ _ e. after (more_parameters i f (turns - (n + 1)) e) (λ es. returns (SingleParameter q ∷ es))) (λ e. after (take_as (mark marks.RightParenthesis) e) (λ _. returns (SingleParameter q ∷ []))))) c
unfolding more_parameters last_parameter
parameter_turn i f n c h = ap (λ m. more_parameters i f m c) (turn n h)

pub parameter_rested : (i : Inner) (f : Flags) (n : ℕ) (front : List Parameter) (c d : Input) → n < turns → Takes (next_mark marks.Ellipsis) c true d
    → before front (more_parameters i f (turns - n) c) ≡ before front (last_parameter (begin_of c.tokens) d)
parameter_rested i f n front c d lt dots = ap (before front) (parameter_turn i f n c lt ∙ on_mark marks.Ellipsis (last_parameter (begin_of c.tokens)) _ c d dots)

-- what is read of a parameter, and behind it
pub parameter_single : (i : Inner) (f : Flags) (n : ℕ) (front : List Parameter) (c d : Input) → n < turns → Takes (next_mark marks.Ellipsis) c false d
    → before front (more_parameters i f (turns - n) c) ≡ before front (after (i.part f d) (λ q. on (mark marks.Comma) (λ _ e. after (more_parameters i f (turns - (n + 1)) e) (λ es. returns (SingleParameter q ∷ es))) (λ e. after (take_as (mark marks.RightParenthesis) e) (λ _. returns (SingleParameter q ∷ [])))))
parameter_single i f n front c d lt none = ap (before front) (parameter_turn i f n c lt ∙ off_mark marks.Ellipsis (last_parameter (begin_of c.tokens)) _ c d none)

pub parameter_more : (i : Inner) (f : Flags) (n : ℕ) (front : List Parameter) (c d e g : Input) (q : Part) → n < turns → Takes (next_mark marks.Ellipsis) c false d → i.part f d ≡ Took q e → Takes (next_mark marks.Comma) e true g
    → before front (more_parameters i f (turns - n) c) ≡ before (front ++ SingleParameter q ∷ []) (more_parameters i f (turns - (n + 1)) g)
parameter_more i f n front c d e g q lt none read comma = parameter_single i f n front c d lt none ∙ ap (before front) (then _ read ∙ on_mark marks.Comma (λ x. after (more_parameters i f (turns - (n + 1)) x) (λ es. returns (SingleParameter q ∷ es))) _ e g comma) ∙ one_before front (SingleParameter q) (more_parameters i f (turns - (n + 1)) g)

pub parameter_last : (i : Inner) (f : Flags) (n : ℕ) (front : List Parameter) (c d e g : Input) (q : Part) → n < turns → Takes (next_mark marks.Ellipsis) c false d → i.part f d ≡ Took q e → Takes (next_mark marks.Comma) e false g
    → before front (more_parameters i f (turns - n) c) ≡ before front (after (take_as (mark marks.RightParenthesis) g) (λ _. returns (SingleParameter q ∷ [])))
parameter_last i f n front c d e g q lt none read comma = parameter_single i f n front c d lt none ∙ ap (before front) (then _ read ∙ off_mark marks.Comma (λ x. after (more_parameters i f (turns - (n + 1)) x) (λ es. returns (SingleParameter q ∷ es))) _ e g comma)

-- what comes of the parenthesis behind the last parameter
pub parameter_took : (i : Inner) (f : Flags) (n : ℕ) (front : List Parameter) (c d e g h : Input) (q : Part) (u : Filled) → n < turns → Takes (next_mark marks.Ellipsis) c false d → i.part f d ≡ Took q e → Takes (next_mark marks.Comma) e false g
    → take_as (mark marks.RightParenthesis) g ≡ Took u h → before front (more_parameters i f (turns - n) c) ≡ Took (front ++ SingleParameter q ∷ []) h
parameter_took i f n front c d e g h q u lt none read comma closed = parameter_last i f n front c d e g q lt none read comma ∙ ap (λ o. before front (after o (λ _. returns (SingleParameter q ∷ [])))) closed

pub parameter_halts : (i : Inner) (f : Flags) (n : ℕ) (front : List Parameter) (c d e g : Input) (q : Part) (halt : Halt) (ts : List Filled) → n < turns → Takes (next_mark marks.Ellipsis) c false d → i.part f d ≡ Took q e → Takes (next_mark marks.Comma) e false g
    → Halts (take_as (mark marks.RightParenthesis) g) halt ts → Halts (before front (more_parameters i f (turns - n) c)) halt ts
parameter_halts i f n front c d e g q (Stopped stop) ts lt none read comma closed = parameter_last i f n front c d e g q lt none read comma ∙ ap (λ o. before front (after o (λ _. returns (SingleParameter q ∷ [])))) closed
parameter_halts i f n front c d e g q OutOfMemory ts lt none read comma closed = tt

pub ruleset parameter_turns = (parameter_rested, parameter_single, parameter_more, parameter_last)

-- ## Statements (13.2)

pub statement_turn : (i : Inner) (f : Flags) (n : ℕ) (c : Input) → n < turns → statements i f (turns - n) c
    ≡ on (mark marks.RightBrace) (λ _. returns []) (λ d. after (i.statement f Listed d) (λ s e. after (statements i f (turns - (n + 1)) e) (λ ss. returns (s ∷ ss)))) c
unfolding statements
statement_turn i f n c h = ap (λ m. statements i f m c) (turn n h)

pub statement_end : (i : Inner) (f : Flags) (n : ℕ) (front : List Statement) (c d : Input) → n < turns → Takes (next_mark marks.RightBrace) c true d → before front (statements i f (turns - n) c) ≡ Took front d
statement_end i f n front c d lt taken = ended front (statement_turn i f n c lt ∙ on_mark marks.RightBrace (returns []) _ c d taken)

pub statement_next : (i : Inner) (f : Flags) (n : ℕ) (front : List Statement) (c d : Input) → n < turns → Takes (next_mark marks.RightBrace) c false d
    → before front (statements i f (turns - n) c) ≡ before front (after (i.statement f Listed d) (λ s e. after (statements i f (turns - (n + 1)) e) (λ ss. returns (s ∷ ss))))
statement_next i f n front c d lt none = ap (before front) (statement_turn i f n c lt ∙ off_mark marks.RightBrace (returns []) _ c d none)

pub statement_more : (i : Inner) (f : Flags) (n : ℕ) (front : List Statement) (c d e : Input) (s : Statement) → n < turns → Takes (next_mark marks.RightBrace) c false d → i.statement f Listed d ≡ Took s e
    → before front (statements i f (turns - n) c) ≡ before (front ++ s ∷ []) (statements i f (turns - (n + 1)) e)
statement_more i f n front c d e s lt none read = statement_next i f n front c d lt none ∙ ap (before front) (then _ read) ∙ one_before front s (statements i f (turns - (n + 1)) e)

pub ruleset statement_turns = (statement_end, statement_next, statement_more)

-- ## Members of classes (14.5)

pub member_turn : (i : Inner) (f : Flags) (n : ℕ) (c : Input) → n < turns → members i f (turns - n) c
    ≡ on (mark marks.RightBrace) (λ _. returns []) (on (mark marks.Semicolon) (λ _. members i f (turns - (n + 1))) (λ d. after (i.member f d) (λ m e. after (members i f (turns - (n + 1)) e) (λ ms. returns (m ∷ ms))))) c
unfolding members
member_turn i f n c h = ap (λ m. members i f m c) (turn n h)

pub member_end : (i : Inner) (f : Flags) (n : ℕ) (front : List ClassMember) (c d : Input) → n < turns → Takes (next_mark marks.RightBrace) c true d → before front (members i f (turns - n) c) ≡ Took front d
member_end i f n front c d lt taken = ended front (member_turn i f n c lt ∙ on_mark marks.RightBrace (returns []) _ c d taken)

pub member_skipped : (i : Inner) (f : Flags) (n : ℕ) (front : List ClassMember) (c d e : Input) → n < turns → Takes (next_mark marks.RightBrace) c false d → Takes (next_mark marks.Semicolon) d true e
    → before front (members i f (turns - n) c) ≡ before front (members i f (turns - (n + 1)) e)
member_skipped i f n front c d e lt none semicolon = ap (before front) (member_turn i f n c lt ∙ off_mark marks.RightBrace (returns []) _ c d none ∙ on_mark marks.Semicolon (members i f (turns - (n + 1))) _ d e semicolon)

pub member_next : (i : Inner) (f : Flags) (n : ℕ) (front : List ClassMember) (c d e : Input) → n < turns → Takes (next_mark marks.RightBrace) c false d → Takes (next_mark marks.Semicolon) d false e
    → before front (members i f (turns - n) c) ≡ before front (after (i.member f e) (λ m g. after (members i f (turns - (n + 1)) g) (λ ms. returns (m ∷ ms))))
member_next i f n front c d e lt none semicolon = ap (before front) (member_turn i f n c lt ∙ off_mark marks.RightBrace (returns []) _ c d none ∙ off_mark marks.Semicolon (members i f (turns - (n + 1))) _ d e semicolon)

pub member_more : (i : Inner) (f : Flags) (n : ℕ) (front : List ClassMember) (c d e g : Input) (m : ClassMember) → n < turns → Takes (next_mark marks.RightBrace) c false d → Takes (next_mark marks.Semicolon) d false e → i.member f e ≡ Took m g
    → before front (members i f (turns - n) c) ≡ before (front ++ m ∷ []) (members i f (turns - (n + 1)) g)
member_more i f n front c d e g m lt none semicolon read = member_next i f n front c d e lt none semicolon ∙ ap (before front) (then _ read) ∙ one_before front m (members i f (turns - (n + 1)) g)

pub ruleset member_turns = (member_end, member_skipped, member_next, member_more)
