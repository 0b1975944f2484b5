-- Each production of statements is read, if its parts are.
use Rattle.std.proofs.Common.{◌≡◌, ◌⊎◌, inl, inr, ℕ, suc, Bool, true, false, ◌||◌, cond, List, [], ◌∷◌, Option, Some, None, refl, sym, ap, subst, ◌∙◌, arith}
use Rattle.std.proofs.lemmas.Bool.{false≢true}
use Rattle.std.specs.Prelude.{codes}
use Rattle.es_text.specs.declared.Span.{Span}
use Rattle.es5_ast.specs.declared.tree.Identifier5.{Identifier5}
use Rattle.es5_ast.specs.declared.tree.Expr5.{Expr5}
use Rattle.es5_ast.specs.declared.tree.Stat5.{Stat5}
use Rattle.es5_ast.specs.declared.tree.Stat5.TheVariants as stat
use Rattle.es5_ast.specs.declared.tree.Function5.{Function5}
use Rattle.es5_ast.specs.declared.tree.Block5.{Block5, roll-Block5}
use Rattle.es5_ast.specs.declared.tree.Declared5.{Declared5, roll-Declared5}
use Rattle.es5_ast.specs.declared.tree.Condition5.{Condition5, roll-Condition5}
use Rattle.es5_ast.specs.Lexical.{Token5, Kind5, Word, Integer, Text, Punctuator, Inserted}
use Rattle.es5_ast.specs.Grammar.{Exact, IsIdentifier, IsMark, IsWord, IsEnd, is_mark, is_word, begins, ends, across}
use Rattle.es5_ast.specs.Within.{Opens}
use Rattle.es5_reading.specs.Parser.{Parser, next_is, kept_if, take_as, mark, word, next_mark, next_word, ending, semicolon, Inner5}
use Rattle.es5_reading.specs.Expressions.{statements, assign_at, assign_operators}
use Rattle.es5_reading.specs.Statements.{block, initialized, one_declared, declared_list, var_statement, parenthesized, condition, otherwise, if_statement, do_statement, while_statement, for_statement, continue_statement, break_statement, return_statement, throw_statement, is_inserted, ends_case, switch_statement, try_statement, debugger_statement, declaration, plain_statement, jump_statement, compound_statement, block_statement, statement}
use Rattle.es5_reading.specs.Programs.{readers}
use Rattle.es5_reading.proofs.Posts.{Misses}
use Rattle.es5_reading.proofs.Meanings.{same_bytes, or_false}
use Rattle.es5_reading.proofs.Spans.{Moves, ◌⟫◌, stays, then-goes}
use Rattle.es5_reading.proofs.Derived.{one}
use Rattle.es5_reading.proofs.Reading.{ReadsOf, reads_, Reads, Passes, reads-as, done, passes-of, placed, bind-reads, on-hit, on-miss, take-hit, if-true, if-false, group-hit, Eventually, always, then_, both, pair, deeper, inside_, turn, once, begin}
use Rattle.es5_reading.proofs.CompleteTokens.{at-kind, Closes, closes-up, mark-miss, word-miss, closes-close, closes-comma, closes-end}
use Rattle.es5_reading.proofs.CompleteLevels.{R, at-fuel, at-fuel', Claim}
use Rattle.es5_reading.proofs.CompleteParts.{is-mark-true, is-word-true, mark-hit, word-hit, take-mark, identifier-reads, opened, open-assignment, open-sequence, StatsRead, FunctionClaim, named_claim}

-- no `finally` comes next
abbrev pub Quiet : List Token5 → Type 0
Quiet us = Misses (word (codes "finally")) us

pub record StatClaim (n : ℕ) (inside top : Bool) (ts : List Token5) (x : Stat5) (us : List Token5) : Type 0 where
  pub first : next_is ends_case ts ≡ false
  pub quiet : Quiet ts
  pub reads : Quiet us → Eventually n (λ n f r. Reads (statement (R f r) inside top) x ts us)

pub quiet-kind : (t : Token5) (ts : List Token5) (k : Kind5) → t.kind ≡ k → is_word (codes "finally") k ≡ false → Quiet (t ∷ ts)
quiet-kind t ts k e h = word-miss (codes "finally") t (subst (λ j. is_word (codes "finally") j ≡ false) (sym e) h)

pub open-statement : {n : ℕ} (inside top : Bool) (ts us : List Token5) {x : Stat5} → StatClaim n inside top ts x us → Quiet us → Eventually (suc n) (λ n f r. Reads ((R f r).statement inside top) x ts us)
unfolding readers
open-statement inside top ts us c q = deeper (c.reads q) (λ n f r x. x)

pub ending-hit : (t : Token5) → IsEnd t → ending t ≡ Some t
ending-hit t h = kept (ends t.kind) h
  where
    kept : (b : Bool) → b ≡ true → kept_if b t ≡ Some t
    kept true h = refl
    kept false h = absurd (false≢true h)

pub semicolon-reads : (i : Inner5) (t : Token5) (us : List Token5) (last : ℕ) → IsEnd t → ReadsOf (λ c. Moves (record { tokens = t ∷ us; last = last }) c) tt us (semicolon i (record { tokens = t ∷ us; last = last }))
unfolding semicolon
semicolon-reads i t us last h = on-hit ending _ _ t t us last (ending-hit t h) (reads_ one)

pub take-word : (w : List ℕ) (t : Token5) (ts : List Token5) (last : ℕ) → IsWord w t → ReadsOf (λ c. Moves (record { tokens = t ∷ ts; last = last }) c) t ts (take_as (word w) (record { tokens = t ∷ ts; last = last }))
take-word w t ts last e = take-hit (word w) t t ts last (word-hit w t e)

-- a token of an inserted or written semicolon
pub end-none : {A : Type 0} (test : Kind5 → Option A) (k : Kind5) → ends k ≡ true → test (Punctuator (codes ";")) ≡ None → test Inserted ≡ None → test k ≡ None
end-none test (Word w) h a b = absurd (false≢true h)
end-none test (Integer n) h a b = absurd (false≢true h)
end-none test (Text us) h a b = absurd (false≢true h)
end-none test (Punctuator p) h a b = subst (λ q. test (Punctuator q) ≡ None) (sym (same_bytes p (codes ";") h)) a
end-none test Inserted h a b = b

pub end-false : (test : Kind5 → Bool) (k : Kind5) → ends k ≡ true → test (Punctuator (codes ";")) ≡ false → test Inserted ≡ false → test k ≡ false
end-false test (Word w) h a b = absurd (false≢true h)
end-false test (Integer n) h a b = absurd (false≢true h)
end-false test (Text us) h a b = absurd (false≢true h)
end-false test (Punctuator p) h a b = subst (λ q. test (Punctuator q) ≡ false) (sym (same_bytes p (codes ";") h)) a
end-false test Inserted h a b = b

-- ## Statements with a word of their own

-- what follows the word
abbrev pub AfterWord : ℕ → (Inner5 → ℕ → Parser Stat5) → Token5 → List Token5 → Stat5 → List Token5 → Type 0
AfterWord n p w ts x us = Eventually n (λ n f r. (last : ℕ) → ReadsOf (λ c. Moves (record { tokens = w ∷ ts; last = last }) c) x us (p (R f r) w.begin (record { tokens = ts; last = w.end })))

word-claim : {n : ℕ} (inside top : Bool) (p : Inner5 → ℕ → Parser Stat5) (t : Token5) (ts us : List Token5) {x : Stat5} → next_is ends_case (t ∷ ts) ≡ false → Quiet (t ∷ ts)
    → ((i : Inner5) (last : ℕ) → statement i inside top (record { tokens = t ∷ ts; last = last }) ≡ p i t.begin (record { tokens = ts; last = t.end })) → (Quiet us → AfterWord n p t ts x us) → StatClaim n inside top (t ∷ ts) x us
word-claim inside top p t ts us h q e a = record { first = h; quiet = q; reads = λ k. then_ (a k) (λ n f r y last. reads-as (e (R f r) last) (y last)) }

pub var-claim : {n : ℕ} (inside top : Bool) (t : Token5) (ts us : List Token5) {x : Stat5} → IsWord (codes "var") t → (Quiet us → AfterWord n (λ i at. var_statement i at) t ts x us) → StatClaim n inside top (t ∷ ts) x us
unfolding statement compound_statement jump_statement
var-claim inside top t ts us e a = word-claim inside top (λ i at. var_statement i at) t ts us (at-kind (λ u. next_is ends_case (u ∷ ts) ≡ false) t (Word (codes "var")) e refl) (quiet-kind t ts (Word (codes "var")) e refl)
    (λ i last. at-kind (λ u. statement i inside top (record { tokens = u ∷ ts; last = last }) ≡ var_statement i u.begin (record { tokens = ts; last = u.end })) t (Word (codes "var")) e refl) a

pub do-claim : {n : ℕ} (inside top : Bool) (t : Token5) (ts us : List Token5) {x : Stat5} → IsWord (codes "do") t → (Quiet us → AfterWord n (λ i at. do_statement i inside at) t ts x us) → StatClaim n inside top (t ∷ ts) x us
unfolding statement compound_statement jump_statement
do-claim inside top t ts us e a = word-claim inside top (λ i at. do_statement i inside at) t ts us (at-kind (λ u. next_is ends_case (u ∷ ts) ≡ false) t (Word (codes "do")) e refl) (quiet-kind t ts (Word (codes "do")) e refl)
    (λ i last. at-kind (λ u. statement i inside top (record { tokens = u ∷ ts; last = last }) ≡ do_statement i inside u.begin (record { tokens = ts; last = u.end })) t (Word (codes "do")) e refl) a

pub while-claim : {n : ℕ} (inside top : Bool) (t : Token5) (ts us : List Token5) {x : Stat5} → IsWord (codes "while") t → (Quiet us → AfterWord n (λ i at. while_statement i inside at) t ts x us) → StatClaim n inside top (t ∷ ts) x us
unfolding statement compound_statement jump_statement
while-claim inside top t ts us e a = word-claim inside top (λ i at. while_statement i inside at) t ts us (at-kind (λ u. next_is ends_case (u ∷ ts) ≡ false) t (Word (codes "while")) e refl) (quiet-kind t ts (Word (codes "while")) e refl)
    (λ i last. at-kind (λ u. statement i inside top (record { tokens = u ∷ ts; last = last }) ≡ while_statement i inside u.begin (record { tokens = ts; last = u.end })) t (Word (codes "while")) e refl) a

pub for-claim : {n : ℕ} (inside top : Bool) (t : Token5) (ts us : List Token5) {x : Stat5} → IsWord (codes "for") t → (Quiet us → AfterWord n (λ i at. for_statement i inside at) t ts x us) → StatClaim n inside top (t ∷ ts) x us
unfolding statement compound_statement jump_statement
for-claim inside top t ts us e a = word-claim inside top (λ i at. for_statement i inside at) t ts us (at-kind (λ u. next_is ends_case (u ∷ ts) ≡ false) t (Word (codes "for")) e refl) (quiet-kind t ts (Word (codes "for")) e refl)
    (λ i last. at-kind (λ u. statement i inside top (record { tokens = u ∷ ts; last = last }) ≡ for_statement i inside u.begin (record { tokens = ts; last = u.end })) t (Word (codes "for")) e refl) a

pub switch-claim : {n : ℕ} (inside top : Bool) (t : Token5) (ts us : List Token5) {x : Stat5} → IsWord (codes "switch") t → (Quiet us → AfterWord n (λ i at. switch_statement i inside at) t ts x us) → StatClaim n inside top (t ∷ ts) x us
unfolding statement compound_statement jump_statement
switch-claim inside top t ts us e a = word-claim inside top (λ i at. switch_statement i inside at) t ts us (at-kind (λ u. next_is ends_case (u ∷ ts) ≡ false) t (Word (codes "switch")) e refl) (quiet-kind t ts (Word (codes "switch")) e refl)
    (λ i last. at-kind (λ u. statement i inside top (record { tokens = u ∷ ts; last = last }) ≡ switch_statement i inside u.begin (record { tokens = ts; last = u.end })) t (Word (codes "switch")) e refl) a

pub try-claim : {n : ℕ} (inside top : Bool) (t : Token5) (ts us : List Token5) {x : Stat5} → IsWord (codes "try") t → (Quiet us → AfterWord n (λ i at. try_statement i inside at) t ts x us) → StatClaim n inside top (t ∷ ts) x us
unfolding statement compound_statement jump_statement
try-claim inside top t ts us e a = word-claim inside top (λ i at. try_statement i inside at) t ts us (at-kind (λ u. next_is ends_case (u ∷ ts) ≡ false) t (Word (codes "try")) e refl) (quiet-kind t ts (Word (codes "try")) e refl)
    (λ i last. at-kind (λ u. statement i inside top (record { tokens = u ∷ ts; last = last }) ≡ try_statement i inside u.begin (record { tokens = ts; last = u.end })) t (Word (codes "try")) e refl) a

pub continue-claim : {n : ℕ} (inside top : Bool) (t : Token5) (ts us : List Token5) {x : Stat5} → IsWord (codes "continue") t → (Quiet us → AfterWord n (λ i at. continue_statement i at) t ts x us) → StatClaim n inside top (t ∷ ts) x us
unfolding statement compound_statement jump_statement
continue-claim inside top t ts us e a = word-claim inside top (λ i at. continue_statement i at) t ts us (at-kind (λ u. next_is ends_case (u ∷ ts) ≡ false) t (Word (codes "continue")) e refl) (quiet-kind t ts (Word (codes "continue")) e refl)
    (λ i last. at-kind (λ u. statement i inside top (record { tokens = u ∷ ts; last = last }) ≡ continue_statement i u.begin (record { tokens = ts; last = u.end })) t (Word (codes "continue")) e refl) a

pub break-claim : {n : ℕ} (inside top : Bool) (t : Token5) (ts us : List Token5) {x : Stat5} → IsWord (codes "break") t → (Quiet us → AfterWord n (λ i at. break_statement i at) t ts x us) → StatClaim n inside top (t ∷ ts) x us
unfolding statement compound_statement jump_statement
break-claim inside top t ts us e a = word-claim inside top (λ i at. break_statement i at) t ts us (at-kind (λ u. next_is ends_case (u ∷ ts) ≡ false) t (Word (codes "break")) e refl) (quiet-kind t ts (Word (codes "break")) e refl)
    (λ i last. at-kind (λ u. statement i inside top (record { tokens = u ∷ ts; last = last }) ≡ break_statement i u.begin (record { tokens = ts; last = u.end })) t (Word (codes "break")) e refl) a

pub throw-claim : {n : ℕ} (inside top : Bool) (t : Token5) (ts us : List Token5) {x : Stat5} → IsWord (codes "throw") t → (Quiet us → AfterWord n (λ i at. throw_statement i at) t ts x us) → StatClaim n inside top (t ∷ ts) x us
unfolding statement compound_statement jump_statement
throw-claim inside top t ts us e a = word-claim inside top (λ i at. throw_statement i at) t ts us (at-kind (λ u. next_is ends_case (u ∷ ts) ≡ false) t (Word (codes "throw")) e refl) (quiet-kind t ts (Word (codes "throw")) e refl)
    (λ i last. at-kind (λ u. statement i inside top (record { tokens = u ∷ ts; last = last }) ≡ throw_statement i u.begin (record { tokens = ts; last = u.end })) t (Word (codes "throw")) e refl) a

pub debugger-claim : {n : ℕ} (inside top : Bool) (t : Token5) (ts us : List Token5) {x : Stat5} → IsWord (codes "debugger") t → (Quiet us → AfterWord n (λ i at. debugger_statement i at) t ts x us) → StatClaim n inside top (t ∷ ts) x us
unfolding statement compound_statement jump_statement
debugger-claim inside top t ts us e a = word-claim inside top (λ i at. debugger_statement i at) t ts us (at-kind (λ u. next_is ends_case (u ∷ ts) ≡ false) t (Word (codes "debugger")) e refl) (quiet-kind t ts (Word (codes "debugger")) e refl)
    (λ i last. at-kind (λ u. statement i inside top (record { tokens = u ∷ ts; last = last }) ≡ debugger_statement i u.begin (record { tokens = ts; last = u.end })) t (Word (codes "debugger")) e refl) a

pub return-claim : {n : ℕ} (top : Bool) (t : Token5) (ts us : List Token5) {x : Stat5} → IsWord (codes "return") t → (Quiet us → AfterWord n (λ i at. return_statement i at) t ts x us) → StatClaim n true top (t ∷ ts) x us
unfolding statement compound_statement jump_statement
return-claim top t ts us e a = word-claim true top (λ i at. return_statement i at) t ts us (at-kind (λ u. next_is ends_case (u ∷ ts) ≡ false) t (Word (codes "return")) e refl) (quiet-kind t ts (Word (codes "return")) e refl)
    (λ i last. at-kind (λ u. statement i true top (record { tokens = u ∷ ts; last = last }) ≡ return_statement i u.begin (record { tokens = ts; last = u.end })) t (Word (codes "return")) e refl) a

function-word : (inside : Bool) (i : Inner5) (t : Token5) (ts : List Token5) (last : ℕ) → IsWord (codes "function") t → statement i inside true (record { tokens = t ∷ ts; last = last }) ≡ declaration i t.begin (record { tokens = ts; last = t.end })
unfolding statement compound_statement jump_statement plain_statement
function-word true i t ts last e = at-kind (λ u. statement i true true (record { tokens = u ∷ ts; last = last }) ≡ declaration i u.begin (record { tokens = ts; last = u.end })) t (Word (codes "function")) e refl
function-word false i t ts last e = at-kind (λ u. statement i false true (record { tokens = u ∷ ts; last = last }) ≡ declaration i u.begin (record { tokens = ts; last = u.end })) t (Word (codes "function")) e refl

pub declaration-claim : {n : ℕ} (inside : Bool) {ts us : List Token5} {s : Stat5} (x : Identifier5) (g : Function5) → s ≡ stat.FunctionDeclaration g → FunctionClaim n ts (Some x) g us → StatClaim n inside true ts s us
unfolding declaration
declaration-claim inside x g e (named_claim {t = t} {ts = ts} {us = us} {vs = vs} _ w d p q h) = word-claim inside true (λ i at. declaration i at) t ts vs (at-kind (λ u. next_is ends_case (u ∷ ts) ≡ false) t (Word (codes "function")) w refl) (quiet-kind t ts (Word (codes "function")) w refl)
    (λ i last. function-word inside i t ts last w) (λ k. then_ h (λ n f r y last. bind-reads _ (d t.end) (λ j m. bind-reads _ (y (record { tokens = t ∷ ts; last = last }) j (Some x) (one ⟫ m)) (λ i m'. done (ap (λ z. stat.FunctionDeclaration z) (sym q) ∙ sym e) m'))))

-- ## Blocks

pub record BlockClaim (n : ℕ) (inside : Bool) (ts : List Token5) (x : Block5) (us : List Token5) : Type 0 where
  pub brace : next_is (next_mark (codes "{")) ts ≡ true
  pub first : next_is ends_case ts ≡ false
  pub quiet : Quiet ts
  pub reads : Eventually n (λ n f r. Reads (block (R f r) inside) x ts us)

abbrev block_of : Span → List Stat5 → Block5
block_of span xs = roll-Block5 (record { span = span; statements = xs })

pub block-claim : (n : ℕ) (inside : Bool) (t : Token5) (ts us : List Token5) {x : Block5} (xs : List Stat5) {span : Span} → x ≡ block_of span xs → span ≡ across (t ∷ ts) us → IsMark (codes "{") t → Opens n (λ m. StatsRead m inside false ts xs us) → BlockClaim n inside (t ∷ ts) x us
unfolding block
block-claim n inside t ts us xs e v p h = record {
  brace = is-mark-true (codes "{") t p;
  first = at-kind (λ u. next_is ends_case (u ∷ ts) ≡ false) t (Punctuator (codes "{")) p refl;
  quiet = quiet-kind t ts (Punctuator (codes "{")) p refl;
  reads = inside_ n h (λ l y. both opened (begin y (λ n f r z. at-fuel (λ m. statements (R f r) inside false m) xs ts us f r z)) (λ n f r o z last. group-hit (R f r) _ _ _ t ts last (is-mark-true (codes "{") t p) o
      (bind-reads _ (z t.end) (λ j m. done (placed (λ q. block_of q xs) (one {last = last} ⟫ m) e v) (one ⟫ m)))));
}

pub block-stat : {n : ℕ} (inside top : Bool) (ts us : List Token5) {s : Stat5} (b : Block5) → s ≡ stat.Block b → BlockClaim n inside ts b us → StatClaim n inside top ts s us
unfolding statement block_statement
block-stat inside top ts us b e c = record { first = c.first; quiet = c.quiet; reads = λ q. then_ c.reads (λ n f r x last. if-true _ _ _ ts last c.brace (bind-reads _ (x last) (λ j m. done (sym e) m))) }

pub stats-none : {n : ℕ} (inside top : Bool) (c : Token5) (us : List Token5) → IsMark (codes "}") c → StatsRead n inside top (c ∷ us) [] us
unfolding statements
stats-none inside top c us p = once (λ n f r last. on-hit (mark (codes "}")) _ _ c c us last (mark-hit (codes "}") c p) (reads_ one))

pub case-no-brace : (ts : List Token5) → next_is ends_case ts ≡ false → Misses (mark (codes "}")) ts
case-no-brace [] h = tt
case-no-brace (t ∷ ts) h = mark-miss (codes "}") t (or_false (is_word (codes "case") t.kind || is_word (codes "default") t.kind) (is_mark (codes "}") t.kind)
    (or_false ((is_word (codes "case") t.kind || is_word (codes "default") t.kind) || is_mark (codes "}") t.kind) (is_inserted t.kind) h).0).1

pub stats-next : {n : ℕ} (inside top : Bool) (ts us vs : List Token5) {x : Stat5} {xs : List Stat5} → StatClaim n inside top ts x us → Quiet us → StatsRead n inside top us xs vs → StatsRead n inside top ts (x ∷ xs) vs
unfolding statements
stats-next inside top ts us vs x q h = turn (pair (open-statement inside top ts us x q) h) (λ n f r y last. on-miss (mark (codes "}")) _ _ ts last (case-no-brace ts x.first)
    (bind-reads _ (y.0 last) (λ j m. bind-reads _ (y.1 j) (λ i m'. reads_ (m ⟫ m')))))

-- ## Variables

none-found : {A : Type 0} (b : Bool) (x : A) (o : Option A) → cond b (Some x) o ≡ None → b ≡ false
none-found true x o h = absurd (cc)
none-found false x o h = refl

no-equals : (us : List Token5) → Misses assign_at us → Misses (mark (codes "=")) us
unfolding assign_operators
no-equals [] h = tt
no-equals (t ∷ ts) h = mark-miss (codes "=") t (none-found (is_mark (codes "=") t.kind) _ _ h)

-- a variable, before what goes on with no assignment
abbrev pub DeclaredClaim : ℕ → Bool → List Token5 → Declared5 → List Token5 → Type 0
DeclaredClaim n k ts d us = Closes k 1 us → Eventually n (λ n f r. Reads (one_declared (R f r) k) d ts us)

abbrev declared_of : Span → Identifier5 → Option Expr5 → Declared5
declared_of span name init = roll-Declared5 (record { span = span; name = name; init = init })

pub uninitialized-claim : {n : ℕ} (k : Bool) (ts us : List Token5) {y : Declared5} (x : Identifier5) {span : Span} → y ≡ declared_of span x None → span ≡ across ts us → IsIdentifier Exact ts x us → DeclaredClaim n k ts y us
unfolding one_declared
uninitialized-claim k ts us x e v d c = always (λ n f r last. bind-reads _ (identifier-reads d last) (λ j m. on-miss (mark (codes "=")) _ _ us j (no-equals us (c.assigns (omega arith))) (done (placed (λ z. declared_of z x None) m e v) m)))

pub initialized-claim : (n : ℕ) (k : Bool) (ts : List Token5) (q : Token5) (us vs : List Token5) {y : Declared5} (x : Identifier5) (init : Expr5) {span : Span} → y ≡ declared_of span x (Some init) → span ≡ across ts vs → IsIdentifier Exact ts x (q ∷ us) → IsMark (codes "=") q → Opens n (λ m. Claim m k 1 us init vs) → DeclaredClaim n k ts y vs
unfolding one_declared initialized
initialized-claim n k ts q us vs x init e v d p h c = inside_ n h (λ l y. then_ (open-assignment k us vs y c) (λ n f r z last. bind-reads _ (identifier-reads d last) (λ j m. on-hit (mark (codes "=")) _ _ q q us j (mark-hit (codes "=") q p)
    (bind-reads _ (z q.end) (λ i m'. done (placed (λ w. declared_of w x (Some init)) (m ⟫ one ⟫ m') e v) (m ⟫ one ⟫ m'))))))

pub data DeclaredItems (n : ℕ) (k : Bool) : List Token5 → List Declared5 → List Token5 → Type 0 where
  item_last : {ts us : List Token5} {d : Declared5} → DeclaredClaim n k ts d us → DeclaredItems n k ts (d ∷ []) us
  item_next : {c : Token5} {ts us vs : List Token5} {d : Declared5} {ds : List Declared5} → DeclaredClaim n k ts d (c ∷ us) → IsMark (codes ",") c → DeclaredItems n k us ds vs → DeclaredItems n k ts (d ∷ ds) vs

pub list-reads : {n l : ℕ} (k : Bool) (q : ℕ → ℕ → Parser Declared5) → ((ts : List Token5) (d : Declared5) (us : List Token5) → Eventually n (λ n f r. Reads (one_declared (R f r) k) d ts us) → Eventually l (λ n f r. Reads (q f r) d ts us)) → {ts us : List Token5} {ds : List Declared5} → DeclaredItems n k ts ds us → Closes k 1 us → Misses (mark (codes ",")) us
    → Eventually l (λ n f r. Reads (declared_list (q f r) n) ds ts us)
unfolding declared_list
list-reads k q g (item_last {ts = ts} {us = us} {d = x} d) c m = turn (g ts x us (d c)) (λ n f r y last. bind-reads _ (y last) (λ j v. on-miss (mark (codes ",")) _ _ us j m (reads_ v)))
list-reads k q g (item_next {c = t} {ts = ts} {us = us} {vs = vs} {d = x} d p ds) c m = turn (pair (g ts x (t ∷ us) (d (closes-comma k us t p))) (list-reads k q g ds c m)) (λ n f r y last. bind-reads _ (y.0 last) (λ j v. on-hit (mark (codes ",")) _ _ t t us j (mark-hit (codes ",") t p) (bind-reads _ (y.1 t.end) (λ i v'. reads_ (v ⟫ one ⟫ v')))))

end-comma : (t : Token5) → IsEnd t → mark (codes ",") t ≡ None
end-comma t h = mark-miss (codes ",") t (end-false (is_mark (codes ",")) t.kind h refl refl)

pub var-reads : {n : ℕ} (w : Token5) (ts : List Token5) (e : Token5) (us : List Token5) {x : Stat5} (ds : List Declared5) {span : Span} → x ≡ stat.Var span ds → span ≡ across (w ∷ ts) us → DeclaredItems n false ts ds (e ∷ us) → IsEnd e → AfterWord n (λ i at. var_statement i at) w ts x us
unfolding var_statement
var-reads w ts e us ds e' v d h = begin (list-reads false (λ f r. one_declared (R f r) false) (λ vs y ws x. x) d (closes-up false 0 1 (e ∷ us) (omega arith) (closes-end false us e h)) (end-comma e h)) (λ n f r x last.
    bind-reads _ (at-fuel (λ m. declared_list (one_declared (R f r) false) m) ds ts (e ∷ us) f r x w.end) (λ j m. bind-reads _ (semicolon-reads (R f r) e us j h) (λ i m'. done (placed (λ z. stat.Var z ds) (one {last = last} ⟫ m ⟫ m') e' v) (one ⟫ m ⟫ m'))))

-- ## If

pub paren-reads : (n : ℕ) (o : Token5) (ts : List Token5) (c : Token5) (us : List Token5) {x : Expr5} → IsMark (codes "(") o → Opens n (λ m. Claim m false 0 ts x (c ∷ us)) → IsMark (codes ")") c → Eventually n (λ n f r. Reads (parenthesized (R f r)) x (o ∷ ts) us)
unfolding parenthesized
paren-reads n o ts c us p h q = inside_ n h (λ l x. both opened (open-sequence false ts (c ∷ us) x (closes-close false us c q)) (λ n f r a y last. group-hit (R f r) _ _ _ o ts last (is-mark-true (codes "(") o p) a
    (bind-reads _ (y o.end) (λ j m. bind-reads _ (take-mark (codes ")") c us j q) (λ i m'. reads_ (one ⟫ m ⟫ m'))))))

pub record ConditionClaim (n : ℕ) (inside : Bool) (ts : List Token5) (x : Condition5) (us : List Token5) : Type 0 where
  pub begins_if : (t : Token5) × (vs : List Token5) × (ts ≡ t ∷ vs) × IsWord (codes "if") t
  pub reads : Quiet us → Eventually n (λ n f r. Reads (condition (R f r) inside) x ts us)

abbrev condition_of : Span → Expr5 → Stat5 → Condition5
condition_of span test body = roll-Condition5 (record { span = span; test = test; body = body })

pub condition-claim : (n : ℕ) (inside : Bool) (t o : Token5) (ts : List Token5) (c : Token5) (us vs : List Token5) {y : Condition5} (test : Expr5) (body : Stat5) {span : Span} → y ≡ condition_of span test body → span ≡ across (t ∷ o ∷ ts) vs → IsWord (codes "if") t → IsMark (codes "(") o → Opens n (λ m. Claim m false 0 ts test (c ∷ us)) → IsMark (codes ")") c → Opens n (λ m. StatClaim m inside false us body vs) → ConditionClaim n inside (t ∷ o ∷ ts) y vs
unfolding condition
condition-claim n inside t o ts c us vs test body e v w p x q s = record {
  begins_if = (t, o ∷ ts, refl, w);
  reads = λ k. both (paren-reads n o ts c us p x q) (inside_ n s (λ l y. open-statement inside false us vs y k)) (λ n f r y z last.
      bind-reads _ (take-word (codes "if") t (o ∷ ts) last w) (λ u m. bind-reads _ (y u) (λ j m'. bind-reads _ (z j) (λ i a. done (placed (λ b. condition_of b test body) (m ⟫ m' ⟫ a) e v) (m ⟫ m' ⟫ a)))));
}

if-next : {n : ℕ} {inside : Bool} {ts us : List Token5} {x : Condition5} → ConditionClaim n inside ts x us → next_is (next_word (codes "if")) ts ≡ true
if-next c = subst (λ vs. next_is (next_word (codes "if")) vs ≡ true) (sym c.begins_if.2) (is-word-true (codes "if") c.begins_if.0 c.begins_if.3)

abbrev pub OtherwiseRead : ℕ → Bool → List Token5 → List Condition5 → Option Stat5 → List Token5 → Type 0
OtherwiseRead n inside ts more last us = Eventually n (λ n f r. Passes (otherwise (R f r) inside n) (record { more = more; last = last }) ts us)

-- a condition and each `else` after it
pub data IfClaim (n : ℕ) (inside : Bool) : List Token5 → Condition5 → List Condition5 → Option Stat5 → List Token5 → Type 0 where
  if_claim : {ts us vs : List Token5} {x : Condition5} {more : List Condition5} {last : Option Stat5} → ConditionClaim n inside ts x us → Quiet us ⊎ (us ≡ vs) → (Quiet vs → OtherwiseRead n inside us more last vs) → IfClaim n inside ts x more last vs

no-else-misses : (us : List Token5) → begins (is_word (codes "else")) us ≡ false → Misses (word (codes "else")) us
no-else-misses [] h = tt
no-else-misses (t ∷ ts) h = word-miss (codes "else") t h

pub no-else : {n : ℕ} (inside : Bool) (ts us : List Token5) {x : Condition5} → ConditionClaim n inside ts x us → begins (is_word (codes "else")) us ≡ false → IfClaim n inside ts x [] None us
unfolding otherwise
no-else inside ts us c h = if_claim c (inr refl) (λ q. once (λ n f r last. on-miss (word (codes "else")) _ _ us last (no-else-misses us h) (reads_ (stays _))))

quiet-else : (e : Token5) (us : List Token5) → IsWord (codes "else") e → Quiet (e ∷ us)
quiet-else e us w = quiet-kind e us (Word (codes "else")) w refl

no-if : (us : List Token5) → begins (is_word (codes "if")) us ≡ false → next_is (next_word (codes "if")) us ≡ false
no-if [] h = refl
no-if (t ∷ ts) h = h

pub last-else : (n : ℕ) (inside : Bool) (ts : List Token5) (e : Token5) (us vs : List Token5) {x : Condition5} {s : Stat5} → ConditionClaim n inside ts x (e ∷ us) → IsWord (codes "else") e → begins (is_word (codes "if")) us ≡ false → Opens n (λ m. StatClaim m inside false us s vs) → IfClaim n inside ts x [] (Some s) vs
unfolding otherwise
last-else n inside ts e us vs c w h s = if_claim c (inl (quiet-else e us w)) (λ q. turn (inside_ n s (λ l y. open-statement inside false us vs y q)) (λ n f r x last. passes-of (on-hit (word (codes "else")) _ _ e e us last (word-hit (codes "else") e w)
    (if-false _ _ _ us e.end (no-if us h) (bind-reads _ (x e.end) (λ j m. reads_ (one ⟫ m)))))))

pub else-if : {n : ℕ} (inside : Bool) (ts : List Token5) (e : Token5) (us vs : List Token5) {x y : Condition5} {more : List Condition5} {last : Option Stat5} → ConditionClaim n inside ts x (e ∷ us) → IsWord (codes "else") e → IfClaim n inside us y more last vs → IfClaim n inside ts x (y ∷ more) last vs
unfolding otherwise
else-if inside ts e us vs c w (if_claim {us = ws} d k o) = if_claim c (inl (quiet-else e us w)) (λ q. turn (pair (d.reads (middle k q)) (o q)) (λ n f r x last. passes-of (on-hit (word (codes "else")) _ _ e e us last (word-hit (codes "else") e w)
    (if-true _ _ _ us e.end (if-next d) (bind-reads _ (x.0 e.end) (λ j m. bind-reads _ (x.1 j) (λ i g. reads_ (then-goes (one ⟫ m) g))))))))
  where
    middle : Quiet ws ⊎ (ws ≡ vs) → Quiet vs → Quiet ws
    middle (inl h) q = h
    middle (inr h) q = subst (λ zs. Quiet zs) (sym h) q

pub if-claim : {n : ℕ} (inside top : Bool) {ts us : List Token5} {s : Stat5} (x : Condition5) (more : List Condition5) (last : Option Stat5) {span : Span} → s ≡ stat.If span x more last → span ≡ across ts us → IfClaim n inside ts x more last us → StatClaim n inside top ts s us
unfolding statement if_statement
if-claim inside top x more last_ e v (if_claim {ts = ts} {us = us} {vs = vs} c k o) = record {
  first = subst (λ zs. next_is ends_case zs ≡ false) (sym c.begins_if.2) (at-kind (λ u. next_is ends_case (u ∷ c.begins_if.1) ≡ false) c.begins_if.0 (Word (codes "if")) c.begins_if.3 refl);
  quiet = subst (λ zs. Quiet zs) (sym c.begins_if.2) (quiet-kind c.begins_if.0 c.begins_if.1 (Word (codes "if")) c.begins_if.3 refl);
  reads = λ q. both (c.reads (middle k q)) (begin (o q) (λ n f r y. at-fuel' (λ m. otherwise (R f r) inside m) (record { more = more; last = last_ }) us vs f r y)) (λ n f r y z last.
      if-false _ _ _ ts last no-brace (if-true _ _ _ ts last (if-next c) (bind-reads _ (y last) (λ j m. bind-reads _ (z j) (λ i g. done (placed (λ b. stat.If b x more last_) (then-goes m g) e v) (then-goes m g))))));
}
  where
    middle : Quiet us ⊎ (us ≡ vs) → Quiet vs → Quiet us
    middle (inl h) q = h
    middle (inr h) q = subst (λ zs. Quiet zs) (sym h) q

    no-brace : next_is (next_mark (codes "{")) ts ≡ false
    no-brace = subst (λ zs. next_is (next_mark (codes "{")) zs ≡ false) (sym c.begins_if.2) (subst (λ k. is_mark (codes "{") k ≡ false) (sym c.begins_if.3) refl)
