-- The readers tied into one another, of tokens of which one is exchanged, side by side with those of which the loops have more turns.
use Rattle.std.specs.Prelude.{codes, pos, not, ◌||◌, ◌&&◌}
use Rattle.std.proofs.Common.{◌≡◌, ◌∙◌, inr, ℕ, zero, suc, ◌≤◌, Bool, true, false, List, [], ◌∷◌, ◌++◌, length, refl, sym, ap, subst}
use Rattle.std.proofs.lemmas.Bool.{false≢true}
use Rattle.es_text.specs.declared.Span.{Span}
use Rattle.es_outside.specs.HostNames.{reserved_words}
use Rattle.es6_lexer.specs.declared.token.TokenKind.{TokenKind}
use Rattle.es6_lexer.specs.declared.token.TokenKind.TheVariants.{Word, Punctuator, Number}
use Rattle.es6_lexer.specs.declared.token.NumberToken.TheVariants.{Whole, TooLarge, Marked}
use Rattle.es6_lexer.specs.declared.token.Punctuator.TheVariants as marks
use Rattle.es6_ast.specs.declared.operators.AssignOperator.TheVariants as assign
use Rattle.es6_ast.specs.declared.settings.Flags.{Flags}
use Rattle.es6_ast.specs.declared.settings.Role.TheVariants.{Among, Heritage, Callee}
use Rattle.es6_ast.specs.declared.settings.Stand.{Stand}
use Rattle.es6_ast.specs.declared.settings.Stand.TheVariants.{Listed, Under, Labelled}
use Rattle.es6_ast.specs.declared.settings.Stop.{Stop}
use Rattle.es6_ast.specs.declared.settings.Stop.TheVariants.{Depth, Outside, Syntax}
use Rattle.es6_ast.specs.declared.tree.Statement.{Statement}
use Rattle.es6_ast.specs.Tokens.{Filled}
use Rattle.es6_ast.specs.Grammar.{level_sequence}
use Rattle.es6_reading.specs.Parser.{Input, Outcome, Took, Fault, Parser, Reading, Inner, fails, after, choose, if_next, on, word, next_word, no_number, no_expression}
use Rattle.es6_reading.specs.Refine.{TooNested, target_before}
use Rattle.es6_reading.specs.Words.{begins_expression, begins_unary, begins_operand, operand_words, unary_operators}
use Rattle.es6_reading.specs.Parts as t6
use Rattle.es6_reading.specs.Expressions as e6
use Rattle.es6_reading.specs.Statements as s6
use Rattle.es6_reading.specs.Modules.{readers}
use Rattle.es6_reading.proofs.Derived.{ReadWhole}
use Rattle.es6_reading.proofs.Follows.{plus, FollowedBy, Near, SameHead, near, nothing, same}
use Rattle.es6_reading.proofs.Insertion.{plain_readers, readers-follow}
use Rattle.es6_reading.proofs.LocalLimits.{sequence-limit}
use Rattle.es6_reading.proofs.Posts.{Holds, of_took}
use Rattle.es6_reading.proofs.Soundness.{sound-readers}
use Rattle.es6_reading_laws.proofs.es6_viability.Nesting.{never-nested}
use Rattle.es6_reading_laws.proofs.es6_outside_laws.Exchanged.{Exchange, for_in, slash, slash_assign, marked, too_large, with_, Lock, Place, at_kind, it, one_of, two_of, input, none, left, Any, Over, Rel, before, here, outside, stuck, passed, Keeps, easier, stopped}
use Rattle.es6_reading_laws.proofs.es6_outside_laws.Tests.{place, each}
use Rattle.es6_reading_laws.proofs.es6_outside_laws.ExchangedParts.{halts, Pairs, block, binding, one-part, object-part, initialized, member}
use Rattle.es6_reading_laws.proofs.es6_outside_laws.ExchangedExpressions.{sequence, assignment, power, unary, chain, property_}
use Rattle.es6_reading_laws.proofs.es6_outside_laws.ExchangedStatements.{statement}

-- ## Where no construct may open any more

abbrev Says : Bool → (Filled → Bool) → TokenKind → Type 0
Says b test k = (s : Span) (n : Bool) → test (at_kind s n k) ≡ b

and-false : (b : Bool) → (b && false) ≡ false
and-false true = refl
and-false false = refl

module _ (test : Filled → Bool) where
  record Begins : Type 0 where
    in_ : Says false test (Word (codes "in"))
    from : Says true test (Word (codes "from"))
    begins_slash : Says false test (Punctuator marks.Slash)
    begins_slash_assign : Says false test (Punctuator marks.SlashAssign)
    begins_marked : Says false test (Number Marked)
    large : Says false test (Number TooLarge)
    zero_ : Says true test (Number (Whole (pos 0)))
    begins_with : Says false test (Word (codes "with"))

-- a reader that stops for depth where the test knows the token
module _ {A : Type 0} (test : Filled → Bool) (q : Parser A) where
  limited : Parser A
  limited = if_next test (fails Depth) q

  -- at a token alone
  abbrev At : Filled → ℕ → Outcome A
  At t last = limited (input (t ∷ []) last)

  abbrev Reports : TokenKind → Stop → Type 0
  Reports k stop = (s : Span) (n : Bool) (last : ℕ) → q (input (at_kind s n k ∷ []) last) ≡ Fault stop (at_kind s n k ∷ [])

  known : (t : Filled) (last : ℕ) → test t ≡ true → At t last ≡ Fault Depth (t ∷ [])
  unfolding limited
  known t last h = ap (λ y. choose y (fails Depth) q (input (t ∷ []) last)) h

  unknown : {k : TokenKind} {stop : Stop} → Says false test k → Reports k stop → (s : Span) (n : Bool) (last : ℕ) → At (at_kind s n k) last ≡ Fault stop (at_kind s n k ∷ [])
  unfolding limited
  unknown {k = k} h r s n last = ap (λ y. choose y (fails Depth) q (input (at_kind s n k ∷ []) last)) (h s n) ∙ r s n last

  abbrev RelAt : Place → ℕ → Type 0
  RelAt e last = Rel e Any (λ l. At (one_of e) last) (λ l. At (two_of e) last) (At (it e) last)

  -- it tells of what is outside the profile, where something begins with the other token
  reports : {k one two : TokenKind} {rule : ℕ} (x : Exchange k one two rule false) → Says false test k → Reports k (Outside rule) → Says true test one → (s : Span) (n : Bool) (last : ℕ) → RelAt (place x s n) last
  reports {one = one} {two = two} x h r y s n last = subst (λ o. Rel (place x s n) Any (λ l. At (at_kind s n one) last) (λ l. At (at_kind s n two) last) o) (sym (unknown h r s n last)) (here (outside (0, λ l m. inr (known (at_kind s n one) last (y s n))) (λ z. absurd (false≢true z))))

  -- or it doesn't, where nothing does
  refuses : {k one two : TokenKind} {rule : ℕ} (x : Exchange k one two rule false) → Says false test k → Reports k Syntax → Says false test one → Reports one Syntax → (s : Span) (n : Bool) (last : ℕ) → RelAt (place x s n) last
  refuses {one = one} {two = two} x h r y z s n last = subst (λ o. Rel (place x s n) Any (λ l. At (at_kind s n one) last) (λ l. At (at_kind s n two) last) o) (sym (unknown h r s n last)) (here (stuck (λ k. absurd (cc)) (λ l. (Syntax, unknown y z s n last, tt))))

  refuses-in : Says false test (Word (codes "in")) → Reports (Word (codes "in")) Syntax → Says true test (Word (codes "from")) → (s : Span) (n : Bool) (last : ℕ) → RelAt (place for_in s n) last
  refuses-in h r y s n last = subst (λ o. Rel (place for_in s n) Any (λ l. At (at_kind s n (Word (codes "of"))) last) (λ l. At (at_kind s n (Word (codes "from"))) last) o) (sym (unknown h r s n last)) (here (passed (λ k. absurd (cc)) refl (0, λ l m. inr (known (at_kind s n (Word (codes "from"))) last (y s n)))))

  at-limit : {e : Place} → ((t : Filled) (ts : List Filled) (last : ℕ) → (stop : Stop) × (q (input (t ∷ ts) last) ≡ Fault stop (t ∷ ts))) → ((last : ℕ) → q (none last) ≡ Fault Syntax []) → ((last : ℕ) → RelAt e last) → Keeps e limited (λ l. limited)
  unfolding limited
  at-limit {e = e} stops ends th = record {
    onward = record { more = λ ts us vs t m last. by t m last (test t); there = λ c last. th last; first = λ last. ap left (ends last) };
    second = λ l last. subst (λ o. Over Any o) (sym (ends last)) stopped;
  }
    where
      by : {ts us vs : List Filled} (t : Filled) → Lock e ts us vs → (last : ℕ) (y : Bool) → Rel e Any (λ l. choose y (fails Depth) q (input (t ∷ us) last)) (λ l. choose y (fails Depth) q (input (t ∷ vs) last)) (choose y (fails Depth) q (input (t ∷ ts) last))
      by t m last true = before m
      by {ts = ts} {us = us} {vs = vs} t m last false = subst (λ o. Rel e Any (λ l. q (input (t ∷ us) last)) (λ l. q (input (t ∷ vs) last)) o) (sym (stops t ts last).1) (before m)

-- where no statement begins
no_statement : Parser Statement
no_statement = if_next (next_word (codes "with")) (fails (Outside 5)) no_expression

statement-stops : (t : Filled) (ts : List Filled) (last : ℕ) → (stop : Stop) × (no_statement (input (t ∷ ts) last) ≡ Fault stop (t ∷ ts))
unfolding no_statement no_expression
statement-stops t ts last = by (next_word (codes "with") t)
  where
    by : (y : Bool) → (stop : Stop) × (choose {A = Statement} y (fails (Outside 5)) no_expression (input (t ∷ ts) last) ≡ Fault stop (t ∷ ts))
    by true = (Outside 5, refl)
    by false = (_, refl)

module _ {e : Place} (test : Filled → Bool) (b : Begins test) where
  expression-limit : Says true test (Punctuator marks.Exclamation) → Says false test (Word (codes "debugger")) → Keeps e (e6.expression_at_limit test) (λ l. e6.expression_at_limit test)
  unfolding e6.expression_at_limit no_expression limited
  expression-limit not_ debugger = at-limit test no_expression (λ t ts last. (_, refl)) (λ last. refl) (λ last. each (λ e. RelAt test no_expression e last)
      (λ s n. refuses-in test no_expression b.in_ (λ s n last. refl) b.from s n last)
      (λ s n. reports test no_expression slash b.begins_slash (λ s n last. refl) not_ s n last) (λ s n. reports test no_expression slash_assign b.begins_slash_assign (λ s n last. refl) not_ s n last)
      (λ s n. reports test no_expression marked b.begins_marked (λ s n last. refl) b.zero_ s n last) (λ s n. reports test no_expression too_large b.large (λ s n last. refl) b.zero_ s n last)
      (λ s n. refuses test no_expression with_ b.begins_with (λ s n last. refl) debugger (λ s n last. refl) s n last) e)

  operand-limit : Says false test (Punctuator marks.Exclamation) → Says false test (Word (codes "debugger")) → Keeps e {A = Reading} (if_next test (fails Depth) no_number) (λ l. if_next test (fails Depth) no_number)
  unfolding no_number limited
  operand-limit not_ debugger = at-limit test no_number (λ t ts last. (_, refl)) (λ last. refl) (λ last. each (λ e. RelAt test no_number e last)
      (λ s n. refuses-in test no_number b.in_ (λ s n last. refl) b.from s n last)
      (λ s n. refuses test no_number slash b.begins_slash (λ s n last. refl) not_ (λ s n last. refl) s n last) (λ s n. refuses test no_number slash_assign b.begins_slash_assign (λ s n last. refl) not_ (λ s n last. refl) s n last)
      (λ s n. reports test no_number marked b.begins_marked (λ s n last. refl) b.zero_ s n last) (λ s n. reports test no_number too_large b.large (λ s n last. refl) b.zero_ s n last)
      (λ s n. refuses test no_number with_ b.begins_with (λ s n last. refl) debugger (λ s n last. refl) s n last) e)

  statement-limit : Says true test (Punctuator marks.Exclamation) → Says true test (Word (codes "debugger")) → Keeps e {A = Statement} (if_next test (fails Depth) (if_next (next_word (codes "with")) (fails (Outside 5)) no_expression)) (λ l. if_next test (fails Depth) (if_next (next_word (codes "with")) (fails (Outside 5)) no_expression))
  unfolding no_statement no_expression limited
  statement-limit not_ debugger = at-limit test no_statement statement-stops (λ last. refl) (λ last. each (λ e. RelAt test no_statement e last)
      (λ s n. refuses-in test no_statement b.in_ (λ s n last. refl) b.from s n last)
      (λ s n. reports test no_statement slash b.begins_slash (λ s n last. refl) not_ s n last) (λ s n. reports test no_statement slash_assign b.begins_slash_assign (λ s n last. refl) not_ s n last)
      (λ s n. reports test no_statement marked b.begins_marked (λ s n last. refl) b.zero_ s n last) (λ s n. reports test no_statement too_large b.large (λ s n last. refl) b.zero_ s n last)
      (λ s n. reports test no_statement with_ b.begins_with (λ s n last. refl) debugger s n last) e)

-- ## What begins so

operands : Begins begins_operand
unfolding begins_operand operand_words reserved_words
operands = record { in_ = λ s n. refl; from = λ s n. refl; begins_slash = λ s n. refl; begins_slash_assign = λ s n. refl; begins_marked = λ s n. refl; large = λ s n. refl; zero_ = λ s n. refl; begins_with = λ s n. refl }

operand-not : (s : Span) (n : Bool) → begins_operand (at_kind s n (Punctuator marks.Exclamation)) ≡ false
unfolding begins_operand operand_words reserved_words
operand-not s n = refl

operand-debugger : (s : Span) (n : Bool) → begins_operand (at_kind s n (Word (codes "debugger"))) ≡ false
unfolding begins_operand operand_words reserved_words
operand-debugger s n = refl

unaries : Begins begins_unary
unfolding begins_unary begins_operand operand_words reserved_words unary_operators
unaries = record { in_ = λ s n. refl; from = λ s n. refl; begins_slash = λ s n. refl; begins_slash_assign = λ s n. refl; begins_marked = λ s n. refl; large = λ s n. refl; zero_ = λ s n. refl; begins_with = λ s n. refl }

unary-not : (s : Span) (n : Bool) → begins_unary (at_kind s n (Punctuator marks.Exclamation)) ≡ true
unfolding begins_unary begins_operand operand_words reserved_words unary_operators
unary-not s n = refl

unary-debugger : (s : Span) (n : Bool) → begins_unary (at_kind s n (Word (codes "debugger"))) ≡ false
unfolding begins_unary begins_operand operand_words reserved_words unary_operators
unary-debugger s n = refl

module _ (f : Flags) where
  expressions : Begins (begins_expression f)
  unfolding begins_expression begins_unary begins_operand operand_words reserved_words unary_operators
  expressions = record { in_ = λ s n. and-false f.has_yield; from = λ s n. refl; begins_slash = λ s n. and-false f.has_yield; begins_slash_assign = λ s n. and-false f.has_yield; begins_marked = λ s n. and-false f.has_yield; large = λ s n. and-false f.has_yield; zero_ = λ s n. refl; begins_with = λ s n. and-false f.has_yield }

  expression-not : (s : Span) (n : Bool) → begins_expression f (at_kind s n (Punctuator marks.Exclamation)) ≡ true
  unfolding begins_expression begins_unary begins_operand operand_words reserved_words unary_operators
  expression-not s n = refl

  expression-debugger : (s : Span) (n : Bool) → begins_expression f (at_kind s n (Word (codes "debugger"))) ≡ false
  unfolding begins_expression begins_unary begins_operand operand_words reserved_words unary_operators
  expression-debugger s n = and-false f.has_yield

  -- where no expression begins
  none-there : (a x m : Bool) → x ≡ false → ((a && false) || (x && m)) ≡ false
  none-there true x m h = ap (λ x. x && m) h
  none-there false x m h = ap (λ x. x && m) h

  some-there : (a : Bool) → ((a && false) || true) ≡ true
  some-there true = refl
  some-there false = refl

  statements : (stand : Stand) → Begins (s6.begins_statement f stand)
  unfolding s6.begins_statement s6.statement_words
  statements stand = record {
    in_ = λ s n. none-there f.has_return (begins_expression f (at_kind s n (Word (codes "in")))) _ (expressions.in_ s n);
    from = λ s n. may stand (Word (codes "from")) s n (expressions.from s n) refl refl;
    begins_slash = λ s n. none-there f.has_return (begins_expression f (at_kind s n (Punctuator marks.Slash))) _ (expressions.begins_slash s n);
    begins_slash_assign = λ s n. none-there f.has_return (begins_expression f (at_kind s n (Punctuator marks.SlashAssign))) _ (expressions.begins_slash_assign s n);
    begins_marked = λ s n. none-there f.has_return (begins_expression f (at_kind s n (Number Marked))) _ (expressions.begins_marked s n);
    large = λ s n. none-there f.has_return (begins_expression f (at_kind s n (Number TooLarge))) _ (expressions.large s n);
    zero_ = λ s n. may stand (Number (Whole (pos 0))) s n (expressions.zero_ s n) refl refl;
    begins_with = λ s n. none-there f.has_return (begins_expression f (at_kind s n (Word (codes "with")))) _ (expressions.begins_with s n);
  }
    where
      may : (stand : Stand) (k : TokenKind) (s : Span) (n : Bool) → begins_expression f (at_kind s n k) ≡ true → next_word (codes "function") (at_kind s n k) ≡ false → next_word (codes "class") (at_kind s n k) ≡ false → ((f.has_return && false) || (begins_expression f (at_kind s n k) && s6.may_declare stand (at_kind s n k))) ≡ true
      may Listed k s n h a b = ap (λ x. (f.has_return && false) || (x && true)) h ∙ some-there f.has_return
      may Under k s n h a b = ap (λ x. (f.has_return && false) || (x && not (next_word (codes "function") (at_kind s n k) || next_word (codes "class") (at_kind s n k)))) h ∙ ap (λ y. (f.has_return && false) || not (y || next_word (codes "class") (at_kind s n k))) a ∙ ap (λ y. (f.has_return && false) || not y) b ∙ some-there f.has_return
      may Labelled k s n h a b = ap (λ x. (f.has_return && false) || (x && not (next_word (codes "class") (at_kind s n k)))) h ∙ ap (λ y. (f.has_return && false) || not y) b ∙ some-there f.has_return

  statement-not : (stand : Stand) (s : Span) (n : Bool) → s6.begins_statement f stand (at_kind s n (Punctuator marks.Exclamation)) ≡ true
  unfolding s6.begins_statement s6.statement_words
  statement-not Listed s n = ap (λ x. (f.has_return && false) || (x && true)) (expression-not s n) ∙ some-there f.has_return
  statement-not Under s n = ap (λ x. (f.has_return && false) || (x && true)) (expression-not s n) ∙ some-there f.has_return
  statement-not Labelled s n = ap (λ x. (f.has_return && false) || (x && true)) (expression-not s n) ∙ some-there f.has_return

  statement-debugger : (stand : Stand) (s : Span) (n : Bool) → s6.begins_statement f stand (at_kind s n (Word (codes "debugger"))) ≡ true
  unfolding s6.begins_statement s6.statement_words
  statement-debugger stand s n = refl

-- ## All readers

statement-none : (i : Inner) (f : Flags) (stand : Stand) (last : ℕ) → s6.statement i f stand (none last) ≡ Fault Syntax []
unfolding s6.statement s6.compound_statement s6.jump_statement s6.plain_statement s6.expression_statement no_expression
statement-none i f stand last = by f.has_return stand
  where
    plain : s6.plain_statement i f 0 (none last) ≡ Fault Syntax []
    plain = ap (λ o. after o (λ x. s6.label_or_end i f 0 (s6.label_of x.shape x.value) x.value)) (sequence-limit i f [] last refl)

    by : (b : Bool) (stand : Stand) → choose b (on (word (codes "return")) (λ t. s6.return_statement i f 0) (s6.on_more i f stand 0 (s6.plain_statement i f 0))) (s6.on_more i f stand 0 (s6.plain_statement i f 0)) (none last) ≡ Fault Syntax []
    by true Listed = plain
    by true Under = plain
    by true Labelled = plain
    by false Listed = plain
    by false Under = plain
    by false Labelled = plain

same-self : (ts : List Filled) → SameHead ts ts
same-self [] = nothing
same-self (t ∷ ts) = same

-- what is read is nested no deeper than there are tokens, with the semicolons put in
nested : (fuel room : ℕ) (f : Flags) (s c : Input) (x : Reading) → (readers true fuel room).sequence f s ≡ Took x c → (b : ℕ) × ((n : ℕ) → b ≤ n → target_before n assign.Assign x.value ≡ TooNested → ⊥)
nested fuel room f s c x y =
    let r : FollowedBy Near (λ l. (plain_readers fuel room l).sequence f) s x c = of_took (subst (λ o. Holds (FollowedBy Near (λ l. (plain_readers fuel room l).sequence f) s) o) y ((readers-follow fuel room).sequence f s)) in
    let d : ReadWhole f level_sequence (input (r.filled ++ c.tokens) s.last) x (input c.tokens c.last) = of_took (subst (λ o. Holds (ReadWhole f level_sequence (input (r.filled ++ c.tokens) s.last)) o) (r.run 0 c.tokens (near (same-self c.tokens))) ((sound-readers (plus fuel 0) (plus room 0)).sequence f (input (r.filled ++ c.tokens) s.last))) in
    (suc (suc (length (r.filled ++ c.tokens))), λ n m. never-nested d.derived n assign.Assign m)

module _ (e : Place) (fuel : ℕ) where
  pub pairs : (room : ℕ) → Pairs e (readers true fuel room) (λ l. readers true (plus fuel (suc l)) room)
  unfolding readers e6.operand_at_limit s6.statement_at_limit e6.expression_at_limit no_expression t6.one_member t6.method t6.key no_number
  pairs zero = record {
    inserting = refl;
    mode = λ l. refl;
    opens = λ l. refl;
    fuel = λ l. refl;
    sequence = λ f. expression-limit (begins_expression f) (expressions f) (expression-not f) (expression-debugger f);
    assignment = λ f. expression-limit (begins_expression f) (expressions f) (expression-not f) (expression-debugger f);
    power = λ f. expression-limit begins_unary unaries unary-not unary-debugger;
    unary = λ f. expression-limit begins_unary unaries unary-not unary-debugger;
    callee = λ f. operand-limit begins_operand operands operand-not operand-debugger;
    heritage = λ f. operand-limit begins_operand operands operand-not operand-debugger;
    block = λ f. halts Depth (λ k. k) (λ k. absurd (cc));
    property = λ f. halts Depth (λ k. k) (λ k. absurd (cc));
    target = λ f. halts Depth (λ k. k) (λ k. absurd (cc));
    part = λ f. halts Depth (λ k. k) (λ k. absurd (cc));
    object_part = λ f. halts Depth (λ k. k) (λ k. absurd (cc));
    variable = λ f. halts Depth (λ k. k) (λ k. absurd (cc));
    member = λ f. halts Depth (λ k. k) (λ k. absurd (cc));
    statement = λ f stand. statement-limit (s6.begins_statement f stand) (statements f stand) (statement-not f stand) (statement-debugger f stand);
    sequence_ends = λ f l last. (Syntax, refl, λ k. absurd (cc));
    member_ends = λ f l last. (Depth, refl, λ k. absurd (cc));
    statement_ends = λ f stand l last. (Syntax, refl, λ k. absurd (cc));
    nests = λ f s c x y. nested fuel zero f s c x y;
  }
  pairs (suc room) =
      let i : Inner = readers true fuel room in
      let j : ℕ → Inner = λ l. readers true (plus fuel (suc l)) room in
      let h : Pairs e i j = pairs room in
      record {
        inserting = refl;
        mode = λ l. refl;
        opens = λ l. refl;
        fuel = λ l. refl;
        sequence = sequence h;
        assignment = assignment h;
        power = λ f. power h f Among refl;
        unary = unary h;
        callee = λ f. easier (λ c m. refl) (chain h f Callee);
        heritage = λ f. easier (λ c m. refl) (chain h f Heritage);
        block = block h;
        property = property_ h;
        target = binding h;
        part = one-part h;
        object_part = object-part h;
        variable = λ f. initialized h f f;
        member = member h;
        statement = statement h;
        sequence_ends = λ f l last. (Syntax, sequence-limit (j l) f [] last refl, λ k. absurd (cc));
        member_ends = λ f l last. (Syntax, refl, λ k. absurd (cc));
        statement_ends = λ f stand l last. (Syntax, statement-none (j l) f stand last, λ k. absurd (cc));
        nests = λ f s c x y. nested fuel (suc room) f s c x y;
      }
