-- A script that is read begins with the directive of strict code, and a semicolon ends it.
use Rattle.std.proofs.Common.{◌≡◌, ℕ, zero, suc, ◌+◌, ◌≤◌, Bool, true, false, ◌&&◌, ◌||◌, cond, List, [], ◌∷◌, Option, Some, None, refl, sym, ap, subst, arith, eqb-true}
use Rattle.std.proofs.lemmas.Bool.{false≢true, true≢false}
use Rattle.std.specs.Prelude.{codes, ◌==◌}
use Rattle.es5_ast.specs.declared.tree.Stat5.{Stat5}
use Rattle.es5_ast.specs.declared.tree.Expr5.{Expr5}
use Rattle.es5_ast.specs.declared.tree.Expr5.TheVariants as expr
use Rattle.es5_ast.specs.declared.operators.Literal5.TheVariants as literals
use Rattle.es5_ast.specs.declared.tree.Identifier5.{Identifier5}
use Rattle.es5_ast.specs.Lexical.{Token5, Kind5, Word, Integer, Text, Punctuator, Inserted}
use Rattle.es5_ast.specs.Grammar.{is_mark, ends, binary_kind, across}
use Rattle.es5_ast.specs.Script.{IsStrict}
use Rattle.es5_reading.specs.Parser.{Input5, Stop5, Syntax, Outcome5, Took, after, ending, kept_if, Read5, Inner5}
use Rattle.es5_reading.specs.Expressions.{is_some, look_up, binary_operators, operator_of_level, assign_at, after_at, left, sequence}
use Rattle.es5_reading.specs.Statements.{label_of, label_or_end, expression_end, expression_statement, plain_statement, jump_statement, compound_statement, statement}
use Rattle.es5_ast.specs.Depth.{most_open}
use Rattle.es5_reading.specs.Programs.{readers, program, is_text, is_directive, continues, second_fault, directive_fault, unless_fault, script}
use Rattle.es5_reading.specs.Laws.{ScriptReading5, IsScript}
use Rattle.es5_reading.proofs.Posts.{fault, of_took, bind, Misses}
use Rattle.es5_reading.proofs.Meanings.{same_bytes, or_false}
use Rattle.es5_reading.proofs.Follows.{plus, semi, Never, Dead, Gaps, stop, keep, insert}
use Rattle.es5_reading.proofs.FollowChoices.{semicolon-none}
use Rattle.es5_reading.proofs.Insertion.{plain_readers, statement-semi, readers-inserting}
use Rattle.es5_reading.proofs.Reading.{ReadsOf, reads_, Reads, Eventually}
use Rattle.es5_reading.proofs.CompleteTokens.{at-kind, Closes, mark-miss}
use Rattle.es5_reading.proofs.CompleteLevels.{R}
use Rattle.es5_reading.proofs.CompleteExpressions.{literal-sequence}
use Rattle.es5_reading.proofs.Filled.{plain_program, followed-program, derived-of, gaps-fill, plus-more, append-nil, same-end}

-- ## The directive

and_cases : (a b : Bool) → (a && b) ≡ true → (a ≡ true) × (b ≡ true)
and_cases true b h = (refl, h)
and_cases false b h = absurd (false≢true h)

text-is : (units : List ℕ) (k : Kind5) → is_text units k ≡ true → k ≡ Text units
text-is units (Text other) h = ap (λ us. Text us) (same_bytes other units h)
text-is units (Word name) h = absurd (false≢true h)
text-is units (Integer n) h = absurd (false≢true h)
text-is units (Punctuator p) h = absurd (false≢true h)
text-is units Inserted h = absurd (false≢true h)

directive-is : (t : Token5) → is_directive t ≡ true → (t.kind ≡ Text (codes "use strict")) × (t.end ≡ t.begin + 12)
directive-is t h = let e = and_cases (is_text (codes "use strict") t.kind) (t.end == t.begin + 12) h in (text-is (codes "use strict") t.kind e.0, eqb-true t.end (t.begin + 12) e.1)

none-of : {A : Type 0} (o : Option A) → is_some o ≡ false → o ≡ None
none-of None h = refl
none-of (Some x) h = absurd (true≢false h)

-- what goes on with no literal closes an expression that is one
closes-continues : (u : Token5) (us : List Token5) → continues u ≡ false → Closes false 0 (u ∷ us)
unfolding continues
closes-continues u us h =
    let k = u.kind in
    let dot = is_mark (codes ".") k in
    let bracket = is_mark (codes "[") k in
    let paren = is_mark (codes "(") k in
    let question = is_mark (codes "?") k in
    let comma = is_mark (codes ",") k in
    let operator = is_some (look_up binary_kind binary_operators k) in
    let assigns = is_some (assign_at u) in
    let after_ = is_some (after_at u) in
    let h7 = or_false (dot || bracket || paren || question || comma || operator || assigns) after_ h in
    let h6 = or_false (dot || bracket || paren || question || comma || operator) assigns h7.0 in
    let h5 = or_false (dot || bracket || paren || question || comma) operator h6.0 in
    let h4 = or_false (dot || bracket || paren || question) comma h5.0 in
    let h3 = or_false (dot || bracket || paren) question h4.0 in
    let h2 = or_false (dot || bracket) paren h3.0 in
    let h1 = or_false dot bracket h2.0 in
    record {
      dot = h1.0;
      bracket = h1.1;
      paren = λ l. h2.1;
      after = λ l. none-of (after_at u) h7.1;
      operator = λ level l m. ap (λ o. operator_of_level false level o) (none-of (look_up binary_kind binary_operators k) h5.1);
      question = λ l. mark-miss (codes "?") u h3.1;
      assigns = λ l. none-of (assign_at u) h6.1;
      comma = λ l. mark-miss (codes ",") u h4.1;
    }

closes-nothing : Closes false 0 []
closes-nothing = record { dot = refl; bracket = refl; paren = λ l. refl; after = λ l. tt; operator = λ level l m. tt; question = λ l. tt; assigns = λ l. tt; comma = λ l. tt }

-- ## The literal is read alone

-- a literal that nothing goes on with is read alone
text-sequence : (units : List ℕ) (t : Token5) (us : List Token5) → t.kind ≡ Text units → Closes false 0 us → Eventually 0 (λ n f r. Reads (sequence (R f r) false) (left (expr.Literal (across (t ∷ us) us) (literals.Text units))) (t ∷ us) us)
text-sequence units t us e c = literal-sequence (literals.Text units) t us e c

text-statement : (units : List ℕ) (i : Inner5) (t : Token5) (us : List Token5) (last : ℕ) → t.kind ≡ Text units → statement i false true (record { tokens = t ∷ us; last = last }) ≡ expression_statement i false t.begin (record { tokens = t ∷ us; last = last })
unfolding statement compound_statement jump_statement plain_statement
text-statement units i t us last e = at-kind (λ u. statement i false true (record { tokens = u ∷ us; last = last }) ≡ expression_statement i false u.begin (record { tokens = u ∷ us; last = last })) t (Text units) e refl

end-stops : (i : Inner5) (at : ℕ) (o : Option Identifier5) (x : Read5) (us : List Token5) (last : ℕ) → i.inserting ≡ false → Misses ending us → o ≡ None → Never (label_or_end i false at o x.value (record { tokens = us; last = last }))
unfolding expression_end
end-stops i at None x us last p m e = bind (semicolon-none i us last p m) (λ u c n. absurd n)
end-stops i at (Some y) x us last p m e = absurd (cc)

text-stops : (i : Inner5) (at : ℕ) (x : Expr5) (us : List Token5) {M : Input5 → Type 0} {o : Outcome5 Read5} → i.inserting ≡ false → Misses ending us → ReadsOf M (left x) us o → Never (after o (λ y. label_or_end i false at (label_of y.shape y.value) y.value))
text-stops i at x us p m (reads_ {end = end} h) = end-stops i at None (left x) us end p m refl

program-stops : (i : Inner5) (turns : ℕ) (t : Token5) (us : List Token5) (last : ℕ) → Never (statement i false true (record { tokens = t ∷ us; last = last })) → Never (program i turns (record { tokens = t ∷ us; last = last }))
unfolding program
program-stops i zero t us last h = fault
program-stops i (suc turns) t us last h = bind h (λ x c n. absurd n)

nothing : (n : ℕ) → 0 ≤ n
nothing n = omega arith

-- a directive that nothing goes on with and no semicolon ends is no program
directive-stops : (fuel room : ℕ) (units : List ℕ) (t : Token5) (us : List Token5) → t.kind ≡ Text units → Closes false 0 us → Misses ending us → (l : ℕ) × Never (plain_program fuel room l (record { tokens = t ∷ us; last = 0 }))
unfolding expression_statement
directive-stops fuel room units t us e c m =
    let s = text-sequence units t us e c in
    let l = s.bound in (
      l,
      program-stops (plain_readers fuel room l) (plus fuel l) t us 0 (subst (λ o. Never o) (sym (text-statement units (plain_readers fuel room l) t us 0 e))
          (text-stops (plain_readers fuel room l) t.begin (expr.Literal (across (t ∷ us) us) (literals.Text units)) us (readers-inserting false (plus fuel l) (plus room l)) m (s.reads (plus fuel l) (plus fuel l) (plus room l) (plus-more fuel l) (plus-more fuel l) (nothing (plus room l)) 0))),
    )

-- ## The tokens that are filled

never-took : {A : Type 0} (o : Outcome5 A) (x : A) (c : Input5) → o ≡ Took x c → Never o → ⊥
never-took o x c e h = of_took {Q = λ y d. ⊥} (subst (λ o'. Never o') e h)

ending-miss : (u : Token5) → ends u.kind ≡ false → ending u ≡ None
ending-miss u h = at (ends u.kind) h
  where
    at : (b : Bool) → b ≡ false → kept_if b u ≡ None
    at true h = absurd (true≢false h)
    at false h = refl

strict-of : (directive end : Token5) (rest : List Token5) → is_directive directive ≡ true → ends end.kind ≡ true → IsStrict (directive ∷ end ∷ rest)
strict-of directive end rest h e = record { directive = directive; end = end; rest = rest; first = refl; text = (directive-is directive h).0; plain = (directive-is directive h).1; ends = e }

abbrev Runs : ℕ → ℕ → List Token5 → List Stat5 → ℕ → Type 0
Runs fuel room filled xs end = (l : ℕ) → plain_program fuel room l (record { tokens = filled; last = 0 }) ≡ Took xs (record { tokens = []; last = end })

second-strict : (fuel room : ℕ) (t u : Token5) (rest : List Token5) (xs : List Stat5) (end : ℕ) → is_directive t ≡ true → continues u ≡ false → Runs fuel room (t ∷ u ∷ rest) xs end → IsStrict (t ∷ u ∷ rest)
second-strict fuel room t u rest xs end h c run = at (ends u.kind) refl
  where
    at : (b : Bool) → ends u.kind ≡ b → IsStrict (t ∷ u ∷ rest)
    at true e = strict-of t u rest h e
    at false e = let s = directive-stops fuel room (codes "use strict") t (u ∷ rest) (directive-is t h).0 (closes-continues u rest c) (ending-miss u e) in absurd (never-took _ xs _ (run s.0) s.1)

second-none : (u : Token5) (us : List Token5) → second_fault (u ∷ us) ≡ None → continues u ≡ false
second-none u us h = at (continues u) h
  where
    at : (b : Bool) → ◌≡◌ {A = Option (Stop5 × List Token5)} (cond b (Some (Syntax, u ∷ us)) None) None → b ≡ false
    at true h = absurd (cc)
    at false h = refl

after-directive : (fuel room : ℕ) (t : Token5) (ts us rest : List Token5) (xs : List Stat5) (end : ℕ) → is_directive t ≡ true → second_fault ts ≡ None → Gaps (Dead (plain_program fuel room) 0) 0 (t ∷ []) ts us rest → us ≡ [] → Runs fuel room (t ∷ rest) xs end → IsStrict (t ∷ rest)
after-directive fuel room t ts us [] xs end h s g e run =
    let k = directive-stops fuel room (codes "use strict") t [] (directive-is t h).0 closes-nothing tt in absurd (never-took _ xs _ (run k.0) k.1)
after-directive fuel room t ts us (u ∷ rest) xs end h s (insert at is dead n g) e run = strict-of t (semi at at false) rest h refl
after-directive fuel room t (u ∷ ts) us (v ∷ rest) xs end h s (keep g) e run = second-strict fuel room t u rest xs end h (second-none u ts s) run

semi-stops : (fuel room l at : ℕ) (us : List Token5) → Never (plain_program fuel room l (record { tokens = semi at at false ∷ us; last = 0 }))
semi-stops fuel room l at us = program-stops (plain_readers fuel room l) (plus fuel l) (semi at at false) us 0 (subst (λ o. Never o) (sym (statement-semi (plain_readers fuel room l) false true at at false us 0)) fault)

nothing-filled : {d : List Token5 → List Token5 → Type 0} {before ts us : List Token5} → Gaps d 0 before ts us [] → us ≡ [] → ts ≡ []
nothing-filled stop e = e

not-nil : {t : Token5} {ts : List Token5} → t ∷ ts ≡ [] → ⊥
not-nil e = absurd (cc)

strict-filled : (fuel room : ℕ) (t : Token5) (ts us all : List Token5) (xs : List Stat5) (end : ℕ) → is_directive t ≡ true → second_fault ts ≡ None → Gaps (Dead (plain_program fuel room) 0) 0 [] (t ∷ ts) us all → us ≡ [] → Runs fuel room all xs end → IsStrict all
strict-filled fuel room t ts us [] xs end h s g e run = absurd (not-nil (nothing-filled g e))
strict-filled fuel room t ts us (u ∷ rest) xs end h s (insert at is dead n g) e run = absurd (never-took _ xs _ (run zero) (semi-stops fuel room zero at rest))
strict-filled fuel room t ts us (u ∷ rest) xs end h s (keep g) e run = after-directive fuel room t ts us rest xs end h s g e run

-- ## Scripts

unless-took : (o : Option (Stop5 × List Token5)) (p : Outcome5 (List Stat5)) (xs : List Stat5) (c : Input5) → unless_fault o p ≡ Took xs c → (o ≡ None) × (p ≡ Took xs c)
unless-took None p xs c e = (refl, e)
unless-took (Some x) p xs c e = absurd (cc)

cond-none : (b : Bool) (o : Option (Stop5 × List Token5)) (x : Stop5 × List Token5) → cond b o (Some x) ≡ None → (b ≡ true) × (o ≡ None)
cond-none true o x h = (refl, h)
cond-none false o x h = absurd (cc)

of-tokens : (fuel : ℕ) (tokens : List Token5) (statements : List Stat5) (after_ : Input5) → directive_fault tokens ≡ None → program (readers true fuel most_open) fuel (record { tokens = tokens; last = 0 }) ≡ Took statements after_
    → ScriptReading5 tokens statements
of-tokens fuel [] statements after_ d e = absurd (cc)
of-tokens fuel (t ∷ ts) statements after_ d e =
    let h = cond-none (is_directive t) (second_fault ts) _ d in
    let r = followed-program fuel most_open (t ∷ ts) statements after_ e in
    let p = derived-of fuel most_open (t ∷ ts) statements after_ r in
    record {
      filled = r.1.filled;
      fills = gaps-fill fuel most_open r.1.gaps r.0;
      strict = strict-filled fuel most_open t ts after_.tokens r.1.filled statements after_.last h.0 h.1 r.1.gaps r.0
          (λ l. subst (λ us. plain_program fuel most_open l (record { tokens = us; last = 0 }) ≡ Took statements (record { tokens = []; last = after_.last })) (append-nil r.1.filled) (r.1.run l [] (same-end after_.tokens r.0)));
      derived = p.0;
      within = p.1;
    }

pub scripts : IsScript
unfolding script
scripts fuel tokens statements after_ e =
    let u = unless-took (directive_fault tokens) _ statements after_ e in
    of-tokens fuel tokens statements after_ u.0 u.1
