-- A run of the whole reader with insertion is one without insertion over the filled tokens, and each semicolon is put in where
-- nothing goes on.
use Rattle.std.proofs.Common.{◌≡◌, ℕ, zero, suc, Bool, true, false, List, [], ◌∷◌, refl, sym, ap, subst, ◌∙◌}
use Rattle.std.proofs.lemmas.Bool.{false≢true}
use Rattle.std.specs.Prelude.{codes}
use Rattle.es5_ast.specs.declared.tree.Stat5.{Stat5}
use Rattle.es5_ast.specs.declared.tree.Stat5.TheVariants as stat
use Rattle.es5_ast.specs.Lexical.{Token5}
use Rattle.es5_ast.specs.Grammar.{begin_of}
use Rattle.es5_reading.specs.Parser.{Input5, Syntax, Took, Fault, Parser, after, ◌>>=◌, on, choose, next_is, if_next, returns, mark, word, next_mark, next_word, made, Read5, Inner5}
use Rattle.es5_reading.specs.Expressions.{expression_at_limit, callee_at_limit, no_expression}
use Rattle.es5_reading.specs.Statements.{block, condition, block_statement, if_statement, var_statement, label_or_end, label_of, expression_statement, plain_statement, jump_statement, compound_statement, statement, statement_at_limit}
use Rattle.es5_reading.specs.Programs.{readers, program}
use Rattle.es5_reading.proofs.Posts.{Holds, took, fault, bind, if-holds}
use Rattle.es5_reading.proofs.Follows.{plus, semi, SameHead, Near, near_same, near_semi, near, Never, stop, gaps-each, FollowedBy, bind-follows, bind-followed, same-followed-by}
use Rattle.es5_reading.proofs.FollowChoices.{on-follows, StopsAtSemi, if-follows, from-follows, made-follows, returns-follows, Follows}
use Rattle.es5_reading.proofs.FollowExpressions.{Runs}
use Rattle.es5_reading.proofs.FollowOperators.{at_semi, sequence-semi, follow-assignment, follow-sequence, follow-unary, follow-chain, follow-property}
use Rattle.es5_reading.proofs.FollowStatements.{follow-block, follow-declared, follow-var, follow-if, follow-compound}

-- ## Statements

plain-semi : (i : Inner5) (inside top : Bool) (at b e : ℕ) (a : Bool) (us : List Token5) (last : ℕ) → plain_statement i inside top at (at_semi b e a us last) ≡ Fault Syntax (semi b e a ∷ us)
unfolding plain_statement expression_statement
plain-semi i inside top at b e a us last = ap (λ o. after o (λ x. label_or_end i inside at (label_of x.shape x.value) x.value)) (sequence-semi i false b e a us last)

compound-semi : (i : Inner5) (inside top : Bool) (at b e : ℕ) (a : Bool) (us : List Token5) (last : ℕ) → compound_statement i inside top at (at_semi b e a us last) ≡ Fault Syntax (semi b e a ∷ us)
unfolding compound_statement jump_statement
compound-semi i true top at b e a us last = plain-semi i true top at b e a us last
compound-semi i false top at b e a us last = plain-semi i false top at b e a us last

abbrev statement_from : Inner5 → Bool → Bool → ℕ → Parser Stat5
statement_from i inside top at = if_next (next_mark (codes "{")) (block_statement i inside) (if_next (next_word (codes "if")) (if_statement i inside at)
    (on (mark (codes ";")) (λ _. made at (λ span. stat.Empty span)) (on (word (codes "var")) (λ _. var_statement i at) (compound_statement i inside top at))))

statement-from-semi : (i : Inner5) (inside top : Bool) (at b e : ℕ) (a : Bool) (us : List Token5) (last : ℕ) → statement_from i inside top at (at_semi b e a us last) ≡ Fault Syntax (semi b e a ∷ us)
statement-from-semi i inside top at b e a us last = compound-semi i inside top at b e a us last

pub statement-semi : (i : Inner5) (inside top : Bool) (b e : ℕ) (a : Bool) (us : List Token5) (last : ℕ) → statement i inside top (at_semi b e a us last) ≡ Fault Syntax (semi b e a ∷ us)
unfolding statement
statement-semi i inside top b e a us last = statement-from-semi i inside top b b e a us last

block-stops : (i' : ℕ → Inner5) (inside : Bool) → StopsAtSemi (λ l. block_statement (i' l) inside)
unfolding block_statement block
block-stops i' inside l b e a us last = fault

if-stops : (i' : ℕ → Inner5) (inside : Bool) (at : ℕ) → StopsAtSemi (λ l. if_statement (i' l) inside at)
unfolding if_statement condition
if-stops i' inside at l b e a us last = fault

follow-block-statement : (i : Inner5) (i' : ℕ → Inner5) (f : Follows i i') (inside : Bool) (s : Input5) → Runs (λ l. block_statement (i' l) inside) (block_statement i inside) s
unfolding block_statement
follow-block-statement i i' f inside s = bind-follows _ _ _ _ s (follow-block i i' f inside s) (λ x c. returns-follows _ c)

follow-statement : (i : Inner5) (i' : ℕ → Inner5) (f : Follows i i') (inside top : Bool) (s : Input5) → Runs (λ l. statement (i' l) inside top) (statement i inside top) s
unfolding statement
follow-statement i i' f inside top s = from-follows (statement_from i inside top) (λ l. statement_from (i' l) inside top) s (λ l at at' b e a us last. statement-from-semi (i' l) inside top at b e a us last ∙ sym (statement-from-semi (i' l) inside top at' b e a us last))
    (if-follows (next_mark (codes "{")) (λ b e a. refl) _ _ _ _ s (block-stops i' inside) (λ h. follow-block-statement i i' f inside s)
    (λ h. if-follows (next_word (codes "if")) (λ b e a. refl) _ _ _ _ s (if-stops i' inside (begin_of s.tokens)) (λ k. follow-if i i' f inside (begin_of s.tokens) s)
    (λ k. on-follows (mark (codes ";")) (λ b e a. refl) _ _ _ _ s (λ t c n. made-follows _ c (λ _ _ _. refl))
    (λ m. on-follows (word (codes "var")) (λ b e a. refl) _ _ _ _ s (λ t c n. follow-var i i' f (begin_of s.tokens) c) (λ m. follow-compound i i' f inside top (begin_of s.tokens) s)))))

-- ## The readers tied into one another

no-expression : {Q : Read5 → Input5 → Type 0} (s : Input5) → Holds Q (no_expression s)
unfolding no_expression
no-expression s = if-holds _ _ _ s (λ h. fault) (λ h. fault)

expression-stops : {Q : Read5 → Input5 → Type 0} (s : Input5) → Holds Q (expression_at_limit s)
unfolding expression_at_limit
expression-stops s = if-holds _ _ _ s (λ h. fault) (λ h. no-expression s)

callee-stops : {Q : Read5 → Input5 → Type 0} (s : Input5) → Holds Q (callee_at_limit s)
unfolding callee_at_limit
callee-stops s = if-holds _ _ _ s (λ h. fault) (λ h. no-expression s)

statement-stops : {Q : Stat5 → Input5 → Type 0} (inside : Bool) (s : Input5) → Holds Q (statement_at_limit inside s)
unfolding statement_at_limit
statement-stops inside s = if-holds _ _ _ s (λ h. fault) (λ h. if-holds _ _ _ s (λ h. fault) (λ h. if-holds _ _ _ s (λ h. fault) (λ h. if-holds _ _ _ s (λ h. fault) (λ h. fault))))

pub readers-inserting : (mode : Bool) (fuel room : ℕ) → (readers mode fuel room).inserting ≡ mode
unfolding readers
readers-inserting mode fuel zero = refl
readers-inserting mode fuel (suc room) = refl

pub readers-fuel : (mode : Bool) (fuel room : ℕ) → (readers mode fuel room).fuel ≡ fuel
unfolding readers
readers-fuel mode fuel zero = refl
readers-fuel mode fuel (suc room) = refl

readers-stop : (mode : Bool) (fuel room : ℕ) (inside top : Bool) (b e : ℕ) (a : Bool) (us : List Token5) (last : ℕ) → Never ((readers mode fuel room).statement inside top (at_semi b e a us last))
unfolding readers
readers-stop mode fuel zero inside top b e a us last = statement-stops inside (at_semi b e a us last)
readers-stop mode fuel (suc room) inside top b e a us last = subst (λ o. Never o) (sym (statement-semi (readers mode fuel room) inside top b e a us last)) fault

abbrev pub plain_readers : ℕ → ℕ → ℕ → Inner5
plain_readers fuel room l = readers false (plus fuel l) (plus room l)

pub readers-follow : (fuel room : ℕ) → Follows (readers true fuel room) (plain_readers fuel room)
unfolding readers
readers-follow fuel zero = record {
  plain = λ l. readers-inserting false (plus fuel l) l;
  fuel = λ l. readers-fuel false (plus fuel l) l;
  opens = λ h. absurd (false≢true h);
  sequence = λ k s. expression-stops s;
  assignment = λ k s. expression-stops s;
  unary = λ s. expression-stops s;
  callee = λ s. callee-stops s;
  property = λ s. fault;
  declared = λ k s. fault;
  statement = λ inside top s. statement-stops inside s;
  statement_stops = λ inside top l b e a us last. readers-stop false (plus fuel l) l inside top b e a us last;
}
readers-follow fuel (suc room) =
    let deeper = readers-follow fuel room in
    record {
      plain = λ l. refl;
      fuel = λ l. refl;
      opens = λ h l. refl;
      sequence = λ k s. follow-sequence (readers true fuel room) (plain_readers fuel room) deeper k s;
      assignment = λ k s. follow-assignment (readers true fuel room) (plain_readers fuel room) deeper k s;
      unary = λ s. follow-unary (readers true fuel room) (plain_readers fuel room) deeper s;
      callee = λ s. follow-chain (readers true fuel room) (plain_readers fuel room) deeper false s;
      property = λ s. follow-property (readers true fuel room) (plain_readers fuel room) deeper s;
      declared = λ k s. follow-declared (readers true fuel room) (plain_readers fuel room) deeper k s;
      statement = λ inside top s. follow-statement (readers true fuel room) (plain_readers fuel room) deeper inside top s;
      statement_stops = λ inside top l b e a us last. readers-stop false (plus fuel l) (suc (plus room l)) inside top b e a us last;
    }

-- ## Programs

pub same-near : (ts us : List Token5) → SameHead ts us → Near ts us
same-near ts us h = near h

program-none : (i' : ℕ → Inner5) (turns : ℕ) (last : ℕ) → FollowedBy SameHead (λ l. program (i' l) (plus (suc turns) l)) (record { tokens = []; last = last }) [] (record { tokens = []; last = last })
unfolding program
program-none i' turns last = record { filled = []; ends = refl; gaps = stop; run = λ l rest h. ended l rest h }
  where
    ended : (l : ℕ) (rest : List Token5) → SameHead [] rest → program (i' l) (plus (suc turns) l) (record { tokens = rest; last = last }) ≡ Took [] (record { tokens = rest; last = last })
    ended l [] h = refl
    ended l (u ∷ us) h = elim h [ ]

some-next : (t : Token5) (ts us : List Token5) → Near (t ∷ ts) us → next_is (λ u. true) us ≡ true
some-next t ts us near_same = refl
some-next t ts us (near_semi b e a) = refl

pub follow-program : (i : Inner5) (i' : ℕ → Inner5) (f : Follows i i') (turns : ℕ) (s : Input5) → Holds (λ xs c. (c.tokens ≡ []) × FollowedBy SameHead (λ l. program (i' l) (plus turns l)) s xs c) (program i turns s)
unfolding program
follow-program i i' f zero s = fault
follow-program i i' f (suc turns) s = at s.tokens s.last (λ b. follow-program i i' f turns b)
  where
    after_statement : ℕ → Stat5 → Parser (List Stat5)
    after_statement l x = ◌>>=◌ (program (i' l) (plus turns l)) (λ xs. returns (x ∷ xs))

    value : (t : Token5) (ts us : List Token5) (l last : ℕ) → Near (t ∷ ts) us → program (i' l) (plus (suc turns) l) (record { tokens = us; last = last }) ≡ ◌>>=◌ (statement (i' l) false true) (after_statement l) (record { tokens = us; last = last })
    value t ts us l last n = ap (λ v. choose v (◌>>=◌ (statement (i' l) false true) (after_statement l)) (returns []) (record { tokens = us; last = last })) (some-next t ts us n)

    push : (x : Stat5) (xs : List Stat5) (b c : Input5) → FollowedBy SameHead (λ l. program (i' l) (plus turns l)) b xs c → FollowedBy SameHead (λ l. after_statement l x) b (x ∷ xs) c
    push x xs b c r = record {
      filled = r.filled;
      ends = r.ends;
      gaps = gaps-each (λ before ts dead l rest h. bind (dead l rest h) (λ y d e. absurd e)) r.gaps;
      run = λ l rest h. ap (λ o. after o (λ ys. returns (x ∷ ys))) (r.run l rest h);
    }

    at : (ts : List Token5) (last : ℕ) → ((b : Input5) → Holds (λ xs c. (c.tokens ≡ []) × FollowedBy SameHead (λ l. program (i' l) (plus turns l)) b xs c) (program i turns b)) → Holds (λ xs c. (c.tokens ≡ []) × FollowedBy SameHead (λ l. program (i' l) (plus (suc turns) l)) (record { tokens = ts; last = last }) xs c) (program i (suc turns) (record { tokens = ts; last = last }))
    at [] last more = took (refl, program-none i' turns last)
    at (t ∷ ts) last more = bind (follow-statement i i' f false true (record { tokens = t ∷ ts; last = last })) λ x b r. bind (more b) λ xs c r'.
        took (
          r'.0,
          same-followed-by SameHead same-near _ _ (record { tokens = t ∷ ts; last = last }) c (x ∷ xs) (λ l us n. value t ts us l last n)
              (bind-followed SameHead same-near (λ l. statement (i' l) false true) after_statement (record { tokens = t ∷ ts; last = last }) b c x (x ∷ xs) r (push x xs b c r'.1)),
        )
