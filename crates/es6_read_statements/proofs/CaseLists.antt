-- One turn of each list of a switch (ECMA-262, 6th edition, 13.12).
use Rattle.std.proofs.Common.{◌≡◌, ℕ, Bool, true, false, ◌+◌, ◌-◌, ◌<◌, List, [], ◌∷◌, ◌++◌, refl, ap, ◌∙◌}
use Rattle.std.specs.Prelude.{codes}
use Rattle.es6_ast.specs.declared.settings.Flags.{Flags}
use Rattle.es6_ast.specs.declared.settings.Stand.TheVariants.{Listed}
use Rattle.es6_ast.specs.declared.settings.Stop.TheVariants.{Endless}
use Rattle.es6_ast.specs.Tokens.{Filled, begin_of}
use Rattle.es6_ast.specs.declared.tree.Case.{Case}
use Rattle.es6_ast.specs.declared.tree.Statement.{Statement}
use Rattle.es6_lexer.specs.declared.token.Punctuator.TheVariants as marks
use Rattle.es6_reading.specs.Parser.{Input, Inner, Outcome, Took, Fault, Parser, after, returns, refused, on, choose, if_next, mark, word, next_is, next_mark}
use Rattle.es6_reading.specs.Statements.{ends_case, in_case, cases, case_clause, default_clause}
use Rattle.es6_cursor.specs.declared.halt.Halt.{Halt}
use Rattle.es6_cursor.specs.declared.halt.Halt.TheVariants.{Stopped, OutOfMemory}
use Rattle.es6_cursor.specs.Reads.{Halts}
use Rattle.es6_cursor.specs.Takes.{Takes}
use Rattle.es6_cursor.specs.Readers.{turns, before}
use Rattle.es6_cursor.proofs.Choices.{on_mark, off_mark, chose, passed_by}
use Rattle.es6_cursor.proofs.Loops.{turn, one_before, then, ended}
use Rattle.es6_read_statements.proofs.Follows.{after_after, after_choice, after_on, halted, halts_as}
use Rattle.es6_read_statements.specs.declared.cases.Clause.{Clause}
use Rattle.es6_read_statements.specs.Enclosed.{one_clause}

-- ## The statements of a clause

pub in_case_turn : (i : Inner) (f : Flags) (n : ℕ) (c : Input) → n < turns → in_case i f (turns - n) c ≡ if_next ends_case (returns []) (λ d. after (i.statement f Listed d) (λ s e. after (in_case i f (turns - (n + 1)) e) (λ ss. returns (s ∷ ss)))) c
unfolding in_case
in_case_turn i f n c h = ap (λ m. in_case i f m c) (turn n h)

pub in_case_more : (i : Inner) (f : Flags) (n : ℕ) (front : List Statement) (c d : Input) (s : Statement) → n < turns → next_is ends_case c.tokens ≡ false → i.statement f Listed c ≡ Took s d
    → before front (in_case i f (turns - n) c) ≡ before (front ++ s ∷ []) (in_case i f (turns - (n + 1)) d)
in_case_more i f n front c d s lt none read = ap (before front) (in_case_turn i f n c lt ∙ passed_by _ _ _ c none ∙ then _ read) ∙ one_before front s (in_case i f (turns - (n + 1)) d)

pub in_case_end : (i : Inner) (f : Flags) (n : ℕ) (front : List Statement) (c : Input) → n < turns → next_is ends_case c.tokens ≡ true → before front (in_case i f (turns - n) c) ≡ Took front c
in_case_end i f n front c lt h = ended front (in_case_turn i f n c lt ∙ chose _ _ _ c h)

-- ## Clauses

-- what follows a clause: those that are left
by_clause : Inner → Flags → ℕ → Clause Case → Parser (List Case)
by_clause i f m x = λ d. after (cases i f x.may_default m d) (λ xs. returns (x.case ∷ xs))

-- after the word of a clause, and where none stands
abbrev after_case : Inner → Flags → Bool → ℕ → ℕ → Parser (List Case)
after_case i f may m at d = after (case_clause i f at d) (λ x e. after (cases i f may m e) (λ xs. returns (x ∷ xs)))

abbrev after_default : Inner → Flags → ℕ → ℕ → Parser (List Case)
after_default i f m at d = after (default_clause i f at d) (λ x e. after (cases i f false m e) (λ xs. returns (x ∷ xs)))

abbrev no_case : Inner → Flags → Bool → ℕ → ℕ → Parser (List Case)
no_case i f may m at = choose may (on (word (codes "default")) (λ _. after_default i f m at) refused) refused

abbrev clauses : Inner → Flags → Bool → ℕ → ℕ → Parser (List Case)
clauses i f may m at = on (word (codes "case")) (λ _. after_case i f may m at) (no_case i f may m at)

none_left : (k : Clause Case → Parser (List Case)) (c : Input) → refused c ≡ after (refused c) k
unfolding refused
none_left k c = refl

by_one : (i : Inner) (f : Flags) (may : Bool) (m at : ℕ) (d : Input) → clauses i f may m at d ≡ after (one_clause i f may at d) (by_clause i f m)
unfolding one_clause by_clause
by_one i f may m at d = after_on k (word (codes "case")) _ _ _ _ d
    (λ t e. after_after (case_clause i f at e) (λ x. returns (record { case = x; may_default = may })) k)
    (after_choice k may _ _ _ _ d
    (after_on k (word (codes "default")) _ _ _ _ d (λ t e. after_after (default_clause i f at e) (λ x. returns (record { case = x; may_default = false })) k) (none_left k d))
    (none_left k d))
  where
    k : Clause Case → Parser (List Case)
    k = by_clause i f m

cases_turn : (i : Inner) (f : Flags) (may : Bool) (n : ℕ) (c : Input) → n < turns → cases i f may (turns - n) c ≡ on (mark marks.RightBrace) (λ _. returns []) (clauses i f may (turns - (n + 1)) (begin_of c.tokens)) c
unfolding cases
cases_turn i f may n c h = ap (λ m. cases i f may m c) (turn n h)

pub cases_end : (i : Inner) (f : Flags) (may : Bool) (n : ℕ) (front : List Case) (c d : Input) → n < turns → Takes (next_mark marks.RightBrace) c true d → before front (cases i f may (turns - n) c) ≡ Took front d
cases_end i f may n front c d lt h = ended front (cases_turn i f may n c lt ∙ on_mark marks.RightBrace (returns []) (clauses i f may (turns - (n + 1)) (begin_of c.tokens)) c d h)

-- the clauses that are left
left : (i : Inner) (f : Flags) (may : Bool) (n : ℕ) (c d : Input) → n < turns → Takes (next_mark marks.RightBrace) c false d → cases i f may (turns - n) c ≡ after (one_clause i f may (begin_of c.tokens) d) (by_clause i f (turns - (n + 1)))
left i f may n c d lt open_ = cases_turn i f may n c lt ∙ off_mark marks.RightBrace (returns []) (clauses i f may (turns - (n + 1)) (begin_of c.tokens)) c d open_ ∙ by_one i f may (turns - (n + 1)) (begin_of c.tokens) d

pub cases_more : (i : Inner) (f : Flags) (may next : Bool) (n : ℕ) (front : List Case) (c d e : Input) (x : Case) → n < turns → Takes (next_mark marks.RightBrace) c false d → one_clause i f may (begin_of c.tokens) d ≡ Took (record { case = x; may_default = next }) e
    → before front (cases i f may (turns - n) c) ≡ before (front ++ x ∷ []) (cases i f next (turns - (n + 1)) e)
unfolding by_clause
cases_more i f may next n front c d e x lt open_ read = ap (before front) (left i f may n c d lt open_ ∙ then (by_clause i f (turns - (n + 1))) read) ∙ one_before front x (cases i f next (turns - (n + 1)) e)

halted_before : (front : List Case) (o : Outcome (List Case)) (halt : Halt) (ts : List Filled) → Halts o halt ts → Halts (before front o) halt ts
halted_before front o (Stopped stop) ts h = ap (before front) h
halted_before front o OutOfMemory ts h = tt

pub cases_halt : (i : Inner) (f : Flags) (may : Bool) (n : ℕ) (front : List Case) (c d : Input) (halt : Halt) (ts : List Filled) → n < turns → Takes (next_mark marks.RightBrace) c false d → Halts (one_clause i f may (begin_of c.tokens) d) halt ts
    → Halts (before front (cases i f may (turns - n) c)) halt ts
cases_halt i f may n front c d halt ts lt open_ read = halts_as halt ts (ap (before front) (left i f may n c d lt open_)) (halted_before front (after (one_clause i f may (begin_of c.tokens) d) (by_clause i f (turns - (n + 1)))) halt ts (halted (one_clause i f may (begin_of c.tokens) d) (by_clause i f (turns - (n + 1))) halt ts read))

pub cases_endless : (i : Inner) (f : Flags) (may : Bool) (n : ℕ) (front : List Case) (c : Input) → turns - n ≡ 0 → before front (cases i f may (turns - n) c) ≡ Fault Endless c.tokens
unfolding cases
cases_endless i f may n front c h = ap (λ m. before front (cases i f may m c)) h

pub ruleset cases_turns = (cases_end, cases_more, cases_halt, cases_endless)
