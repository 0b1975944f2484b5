-- One turn of each list of statements and their parts.
use Rattle.std.proofs.Common.{◌≡◌, ℕ, Bool, true, false, ◌+◌, ◌-◌, ◌<◌, List, [], ◌∷◌, ◌++◌, Option, Some, None, refl, sym, ap, ◌∙◌, append_assoc, append-nil}
use Rattle.std.specs.Prelude.{codes}
use Rattle.es5_ast.specs.Lexical.{Token5}
use Rattle.es5_ast.specs.Grammar.{begin_of}
use Rattle.es5_ast.specs.declared.tree.Declared5.{Declared5}
use Rattle.es5_ast.specs.declared.tree.Condition5.{Condition5}
use Rattle.es5_ast.specs.declared.tree.Case5.{Case5}
use Rattle.es5_ast.specs.declared.tree.Stat5.{Stat5}
use Rattle.es5_reading.specs.Parser.{Input5, Inner5, Outcome5, Stop5, Took, Fault, Syntax, Endless, Parser, after, returns, fails, on, choose, if_next, mark, word, next_is, next_mark, next_word}
use Rattle.es5_reading.specs.Statements.{declared_list, condition, otherwise, with_condition, Otherwise5, ends_case, in_case, cases, case_clause, default_clause}
use Rattle.es5_cursor.specs.Takes.{Takes}
use Rattle.es5_cursor.proofs.Choices.{on_mark, off_mark, on_word, off_word, chose, passed_by}
use Rattle.es5_cursor.specs.Readers.{turns, before}
use Rattle.es5_read_statements.specs.Parts.{before_more}
use Rattle.es5_cursor.proofs.Loops.{turn, one_before, then, no_turn, turns_is}

halts : {A B : Type 0} {o : Outcome5 A} (q : A → Parser B) {stop : Stop5} {ts : List Token5} → o ≡ Fault stop ts → after o q ≡ Fault stop ts
halts q read = ap (λ o. after o q) read

-- ## Variables (ECMA-262, 5.1 edition, 12.2)

pub declared_turn : (one : Parser Declared5) (n : ℕ) (c : Input5) → n < turns → declared_list one (turns - n) c ≡ after (one c) (λ d. on (mark (codes ",")) (λ _ e. after (declared_list one (turns - (n + 1)) e) (λ ds. returns (d ∷ ds))) (returns (d ∷ [])))
unfolding declared_list
declared_turn one n c h = ap (λ m. declared_list one m c) (turn n h)

pub declared_more : (one : Parser Declared5) (n : ℕ) (front : List Declared5) (c d e : Input5) (x : Declared5) → n < turns → one c ≡ Took x d → Takes (next_mark (codes ",")) d true e
    → before front (declared_list one (turns - n) c) ≡ before (front ++ x ∷ []) (declared_list one (turns - (n + 1)) e)
declared_more one n front c d e x lt read taken = ap (before front) (declared_turn one n c lt ∙ then _ read ∙ on_mark _ _ _ d e taken) ∙ one_before front x (declared_list one (turns - (n + 1)) e)

pub declared_last : (one : Parser Declared5) (n : ℕ) (front : List Declared5) (c d e : Input5) (x : Declared5) → n < turns → one c ≡ Took x d → Takes (next_mark (codes ",")) d false e
    → before front (declared_list one (turns - n) c) ≡ Took (front ++ x ∷ []) e
declared_last one n front c d e x lt read none = ap (before front) (declared_turn one n c lt ∙ then _ read ∙ off_mark _ _ _ d e none)

pub declared_fault : (one : Parser Declared5) (n : ℕ) (front : List Declared5) (c : Input5) (stop : Stop5) (ts : List Token5) → n < turns → one c ≡ Fault stop ts → before front (declared_list one (turns - n) c) ≡ Fault stop ts
declared_fault one n front c stop ts lt read = ap (before front) (declared_turn one n c lt ∙ halts _ read)

-- ## Conditions (12.5)

otherwise_turn : (i : Inner5) (inside : Bool) (n : ℕ) (c : Input5) → n < turns → otherwise i inside (turns - n) c
    ≡ on (word (codes "else")) (λ _. if_next (next_word (codes "if")) (λ d. after (condition i inside d) (λ x e. after (otherwise i inside (turns - (n + 1)) e) (λ r. returns (with_condition x r)))) (λ d. after (i.statement inside false d) (λ s. returns (record { more = []; last = Some s }))))
    (returns (record { more = []; last = None })) c
unfolding otherwise
otherwise_turn i inside n c h = ap (λ m. otherwise i inside m c) (turn n h)

all_more : (r : Outcome5 Otherwise5) → before_more [] r ≡ r
all_more (Took r c) = refl
all_more (Fault stop ts) = refl

pub otherwise_begin : (i : Inner5) (inside : Bool) (n : ℕ) (c : Input5) → otherwise i inside n c ≡ before_more [] (otherwise i inside n c)
otherwise_begin i inside n c = sym (all_more (otherwise i inside n c))

one_more : (front : List Condition5) (x : Condition5) (o : Outcome5 Otherwise5) → before_more front (after o (λ r. returns (with_condition x r))) ≡ before_more (front ++ x ∷ []) o
one_more front x (Took r c) = ap (λ l. Took (record { more = l; last = r.last }) c) (sym (append_assoc front (x ∷ []) r.more))
one_more front x (Fault stop ts) = refl

no_more_of : (front : List Condition5) (last : Option Stat5) (c : Input5) → before_more front (Took (record { more = []; last = last }) c) ≡ Took (record { more = front; last = last }) c
no_more_of front last c = ap (λ l. Took (record { more = l; last = last }) c) (append-nil front)

pub otherwise_none : (i : Inner5) (inside : Bool) (n : ℕ) (front : List Condition5) (c d : Input5) → n < turns → Takes (next_word (codes "else")) c false d
    → before_more front (otherwise i inside (turns - n) c) ≡ Took (record { more = front; last = None }) d
otherwise_none i inside n front c d lt none = ap (before_more front) (otherwise_turn i inside n c lt ∙ off_word _ _ _ c d none) ∙ no_more_of front None d

pub otherwise_last : (i : Inner5) (inside : Bool) (n : ℕ) (front : List Condition5) (c d e : Input5) (s : Stat5) → n < turns → Takes (next_word (codes "else")) c true d → next_is (next_word (codes "if")) d.tokens ≡ false → i.statement inside false d ≡ Took s e
    → before_more front (otherwise i inside (turns - n) c) ≡ Took (record { more = front; last = Some s }) e
otherwise_last i inside n front c d e s lt taken none read = ap (before_more front) (otherwise_turn i inside n c lt ∙ on_word _ _ _ c d taken ∙ passed_by _ _ _ d none ∙ then _ read) ∙ no_more_of front (Some s) e

pub otherwise_last_fault : (i : Inner5) (inside : Bool) (n : ℕ) (front : List Condition5) (c d : Input5) (stop : Stop5) (ts : List Token5) → n < turns → Takes (next_word (codes "else")) c true d → next_is (next_word (codes "if")) d.tokens ≡ false → i.statement inside false d ≡ Fault stop ts
    → before_more front (otherwise i inside (turns - n) c) ≡ Fault stop ts
otherwise_last_fault i inside n front c d stop ts lt taken none read = ap (before_more front) (otherwise_turn i inside n c lt ∙ on_word _ _ _ c d taken ∙ passed_by _ _ _ d none ∙ halts _ read)

pub otherwise_more : (i : Inner5) (inside : Bool) (n : ℕ) (front : List Condition5) (c d e : Input5) (x : Condition5) → n < turns → Takes (next_word (codes "else")) c true d → next_is (next_word (codes "if")) d.tokens ≡ true → condition i inside d ≡ Took x e
    → before_more front (otherwise i inside (turns - n) c) ≡ before_more (front ++ x ∷ []) (otherwise i inside (turns - (n + 1)) e)
otherwise_more i inside n front c d e x lt taken found read = ap (before_more front) (otherwise_turn i inside n c lt ∙ on_word _ _ _ c d taken ∙ chose _ _ _ d found ∙ then _ read) ∙ one_more front x (otherwise i inside (turns - (n + 1)) e)

pub otherwise_more_fault : (i : Inner5) (inside : Bool) (n : ℕ) (front : List Condition5) (c d : Input5) (stop : Stop5) (ts : List Token5) → n < turns → Takes (next_word (codes "else")) c true d → next_is (next_word (codes "if")) d.tokens ≡ true → condition i inside d ≡ Fault stop ts
    → before_more front (otherwise i inside (turns - n) c) ≡ Fault stop ts
otherwise_more_fault i inside n front c d stop ts lt taken found read = ap (before_more front) (otherwise_turn i inside n c lt ∙ on_word _ _ _ c d taken ∙ chose _ _ _ d found ∙ halts _ read)

pub otherwise_endless : (i : Inner5) (inside : Bool) (n : ℕ) (front : List Condition5) (c : Input5) → turns - n ≡ 0 → before_more front (otherwise i inside (turns - n) c) ≡ Fault Endless c.tokens
unfolding otherwise
otherwise_endless i inside n front c h = ap (λ m. before_more front (otherwise i inside m c)) h

-- ## Clauses of a switch (12.11)

pub in_case_turn : (i : Inner5) (inside : Bool) (n : ℕ) (c : Input5) → n < turns → in_case i inside (turns - n) c ≡ if_next ends_case (returns []) (λ d. after (i.statement inside false d) (λ s e. after (in_case i inside (turns - (n + 1)) e) (λ ss. returns (s ∷ ss)))) c
unfolding in_case
in_case_turn i inside n c h = ap (λ m. in_case i inside m c) (turn n h)

pub in_case_more : (i : Inner5) (inside : Bool) (n : ℕ) (front : List Stat5) (c d : Input5) (s : Stat5) → n < turns → next_is ends_case c.tokens ≡ false → i.statement inside false c ≡ Took s d
    → before front (in_case i inside (turns - n) c) ≡ before (front ++ s ∷ []) (in_case i inside (turns - (n + 1)) d)
in_case_more i inside n front c d s lt none read = ap (before front) (in_case_turn i inside n c lt ∙ passed_by _ _ _ c none ∙ then _ read) ∙ one_before front s (in_case i inside (turns - (n + 1)) d)

pub cases_turn : (i : Inner5) (inside may : Bool) (n : ℕ) (c : Input5) → n < turns → cases i inside may (turns - n) c
    ≡ on (mark (codes "}")) (λ _. returns []) (on (word (codes "case")) (λ _ d. after (case_clause i inside (begin_of c.tokens) d) (λ x e. after (cases i inside may (turns - (n + 1)) e) (λ xs. returns (x ∷ xs))))
    (choose may (on (word (codes "default")) (λ _ d. after (default_clause i inside (begin_of c.tokens) d) (λ x e. after (cases i inside false (turns - (n + 1)) e) (λ xs. returns (x ∷ xs)))) (fails Syntax)) (fails Syntax))) c
unfolding cases
cases_turn i inside may n c h = ap (λ m. cases i inside may m c) (turn n h)

pub case_more : (i : Inner5) (inside may : Bool) (n : ℕ) (front : List Case5) (c d e k : Input5) (x : Case5) → n < turns → Takes (next_mark (codes "}")) c false d → Takes (next_word (codes "case")) d true e → case_clause i inside (begin_of c.tokens) e ≡ Took x k
    → before front (cases i inside may (turns - n) c) ≡ before (front ++ x ∷ []) (cases i inside may (turns - (n + 1)) k)
case_more i inside may n front c d e k x lt open_ taken read = ap (before front) (cases_turn i inside may n c lt ∙ off_mark _ _ _ c d open_ ∙ on_word _ _ _ d e taken ∙ then _ read) ∙ one_before front x (cases i inside may (turns - (n + 1)) k)

pub default_more : (i : Inner5) (inside may : Bool) (n : ℕ) (front : List Case5) (c d e k l : Input5) (x : Case5) → n < turns → Takes (next_mark (codes "}")) c false d → Takes (next_word (codes "case")) d false e → may ≡ true → Takes (next_word (codes "default")) e true k → default_clause i inside (begin_of c.tokens) k ≡ Took x l
    → before front (cases i inside may (turns - n) c) ≡ before (front ++ x ∷ []) (cases i inside false (turns - (n + 1)) l)
default_more i inside may n front c d e k l x lt open_ none allowed taken read =
    ap (before front) (cases_turn i inside may n c lt ∙ off_mark _ _ _ c d open_ ∙ off_word _ _ _ d e none ∙ chose _ _ _ e allowed ∙ on_word _ _ _ e k taken ∙ then _ read) ∙ one_before front x (cases i inside false (turns - (n + 1)) l)
