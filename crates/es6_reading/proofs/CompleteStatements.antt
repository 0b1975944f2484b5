-- Each production of statements that is derived is read exactly so, if its parts are.
use Rattle.std.proofs.Common.{◌≡◌, ◌⊎◌, inl, inr, ℕ, Bool, true, false, ◌||◌, cond, List, [], ◌∷◌, Option, Some, None, refl, sym, ap, subst, ◌∙◌, arith}
use Rattle.std.proofs.lemmas.Bool.{false≢true}
use Rattle.std.specs.Prelude.{codes}
use Rattle.es6_lexer.specs.declared.token.TokenKind.TheVariants as kinds
use Rattle.es6_lexer.specs.declared.token.Punctuator.TheVariants as marks
use Rattle.es6_ast.specs.declared.operators.VariableKind.{VariableKind}
use Rattle.es6_ast.specs.declared.operators.VariableKind.TheVariants.{Var}
use Rattle.es6_ast.specs.declared.tree.Identifier.{Identifier}
use Rattle.es6_ast.specs.declared.tree.Expression.{Expression}
use Rattle.es6_ast.specs.declared.tree.Statement.{Statement}
use Rattle.es6_ast.specs.declared.tree.Statement.TheVariants as stat
use denote.Hole.Carrier as carrier
use Rattle.es6_ast.specs.declared.tree.Pattern as pat
use Rattle.es6_ast.specs.declared.tree.Pattern.{Pattern}
use Rattle.es6_ast.specs.declared.tree.Block.{Block, roll-Block}
use Rattle.es6_ast.specs.declared.tree.Condition.{Condition, roll-Condition}
use Rattle.es6_ast.specs.declared.tree.Part.{Part, roll-Part}
use Rattle.es6_ast.specs.declared.settings.Flags.{Flags}
use Rattle.es6_ast.specs.declared.settings.Stand.{Stand}
use Rattle.es6_ast.specs.declared.settings.Stand.TheVariants.{Listed, Under}
use Rattle.es6_ast.specs.Tokens.{Filling, Read, Inserted, Filled, IsWord, IsMark, is_word, across}
use Rattle.es6_ast.specs.Grammar as g
use Rattle.es6_ast.specs.Grammar.{with_in, IsEnd, ends, name_target, name_alone, IsName, NotWord}
use Rattle.es6_reading.specs.Parser.{Parser, next_is, is_mark, mark, word, next_mark, next_word, Inner}
use Rattle.es6_reading.specs.Words.{name_if, free_name, assign_at, assign_operators}
use Rattle.es6_reading.specs.Parts.{binding, initialized, block, statements}
use Rattle.es6_reading.specs.Expressions.{ends_yield}
use Rattle.es6_reading.specs.Statements.{is_whole, one_variable, variables, variables_statement, parenthesized, condition, Otherwise, otherwise, if_statement, do_statement, while_statement, for_statement, continue_statement, break_statement, return_statement, throw_statement, is_inserted, ends_case, switch_statement, try_statement, debugger_statement, jump_statement, compound_statement, block_statement, statement}
use Rattle.es6_reading.specs.Modules.{readers, is_end_kind}
use Rattle.es6_reading.proofs.Posts.{Misses}
use Rattle.es6_reading.proofs.Meanings.{or_false, is-mark-true}
use Rattle.es6_reading.proofs.Spans.{◌⟫◌, span-across}
use Rattle.es6_reading.proofs.Derived.{one}
use Rattle.es6_reading.proofs.RefineTargets.{name-across}
use Rattle.es6_reading.proofs.Reading.{on-miss-is, Eventually, always, then_, both, pair, deeper, turn, begin}
use Rattle.es6_reading.proofs.Exactly.{Exactly, ReadsExactly, ReadsOnward, equal, done, and_then, and_on, later, hit, miss, take, if-yes, if-no, chosen, group-in, nothing-taken, onward-of, mark-hit, word-hit, is-word-true, end-semicolon}
use Rattle.es6_reading.proofs.CompleteTokens.{at-kind, mark-miss, word-miss, EndsYield, closes-up, closes-close, closes-end, close-ends-yield, semicolon-ends-yield, inserted-ends-yield, ends-yield}
use Rattle.es6_reading.proofs.CompleteImports.{R, readers-fuel, at-fuel, opened}
use Rattle.es6_reading.proofs.CompleteClaims.{Claim, open-assignment, open-sequence}
use Rattle.es6_reading.proofs.CompleteLists.{Ends, ends-comma}

-- no `finally` comes next
abbrev pub Quiet : List Filled → Type 0
Quiet us = Misses (word (codes "finally")) us

-- what begins an item that is no statement, or ends the items
abbrev pub begins_item : Filled → Bool
begins_item t = is_word (codes "import") t.kind || is_word (codes "export") t.kind || is_end_kind t.kind

pub record StatementClaim (f : Flags) (stand : Stand) (ts us : List Filled) (x : Statement) : Type 0 where
  pub first : next_is ends_case ts ≡ false
  pub no_item : next_is begins_item ts ≡ false
  pub quiet : Quiet ts
  pub reads : Quiet us → Eventually (λ n k r. ReadsExactly (statement (R k r) f stand) x ts us)

pub quiet-kind : (t : Filled) (ts : List Filled) (k : Filling) → t.kind ≡ k → is_word (codes "finally") k ≡ false → Quiet (t ∷ ts)
quiet-kind t ts k e h = word-miss (codes "finally") t (subst (λ j. is_word (codes "finally") j ≡ false) (sym e) h)

pub open-statement : {f : Flags} {stand : Stand} {ts us : List Filled} {x : Statement} → StatementClaim f stand ts us x → Quiet us → Eventually (λ n k r. ReadsExactly ((R k r).statement f stand) x ts us)
unfolding readers
open-statement c q = deeper (c.reads q) (λ n k r y. y)

pub end-yields : (level : ℕ) (us : List Filled) (t : Filled) → IsEnd t → EndsYield level (t ∷ us)
end-yields level us t h = ends-yield level t us (at t.kind refl h)
  where
    at : (k : Filling) → t.kind ≡ k → ends false k ≡ true → ends_yield t ≡ true
    at (Inserted d) e h = inserted-ends-yield d t e
    at (Read (kinds.Punctuator marks.Semicolon)) e h = semicolon-ends-yield t e
    at (Read k) e h = absurd (false≢true h)

pub end-ends : (f : Flags) (us : List Filled) (t : Filled) → IsEnd t → Ends f (t ∷ us)
end-ends f us t h = record { closes = closes-up f 0 1 (t ∷ us) (omega arith) (closes-end f us t h); yields = end-yields 1 us t h }

-- a test that is false of a semicolon, written or inserted
pub end-false : (test : Filling → Bool) (k : Filling) → ends false k ≡ true → test (Read (kinds.Punctuator marks.Semicolon)) ≡ false → ((d : Bool) → test (Inserted d) ≡ false) → test k ≡ false
end-false test (Inserted d) h a b = b d
end-false test (Read (kinds.Punctuator marks.Semicolon)) h a b = a
end-false test (Read k) h a b = absurd (false≢true h)

-- ## Statements with a word of their own

-- what follows the word, which is the first token
abbrev pub AfterWord : (Inner → ℕ → Parser Statement) → Filled → List Filled → Statement → List Filled → Type 0
AfterWord p t ts x us = Eventually (λ n k r. (last : ℕ) → Exactly x (record { tokens = t ∷ ts; last = last }) us (p (R k r) t.span.begin (record { tokens = ts; last = t.span.end })))

abbrev pub told : List ℕ → Filled → Filled
told v t = record { kind = Read (kinds.Word v); span = t.span; newline = t.newline }

pub word-claim : (f : Flags) (stand : Stand) (p : Inner → ℕ → Parser Statement) {t : Filled} {ts us : List Filled} {x : Statement} (v : List ℕ) → IsWord v t → ends_case (told v t) ≡ false → begins_item (told v t) ≡ false → is_word (codes "finally") (Read (kinds.Word v)) ≡ false
    → ((i : Inner) (last : ℕ) → statement i f stand (record { tokens = told v t ∷ ts; last = last }) ≡ p i t.span.begin (record { tokens = ts; last = t.span.end })) → (Quiet us → AfterWord p t ts x us) → StatementClaim f stand (t ∷ ts) us x
word-claim f stand p {t = t} {ts = ts} v w h m q e a = record {
  first = at-kind (λ u. ends_case u ≡ false) t _ w h;
  no_item = at-kind (λ u. begins_item u ≡ false) t _ w m;
  quiet = quiet-kind t ts _ w q;
  reads = λ l. then_ (a l) (λ n k r y last. equal (at-kind (λ u. statement (R k r) f stand (record { tokens = u ∷ ts; last = last }) ≡ p (R k r) u.span.begin (record { tokens = ts; last = u.span.end })) t _ w (e (R k r) last)) (y last));
}

pub var-claim : (f : Flags) (stand : Stand) {t : Filled} {ts us : List Filled} {x : Statement} → IsWord (codes "var") t → (Quiet us → AfterWord (λ i at. variables_statement i f at Var) t ts x us) → StatementClaim f stand (t ∷ ts) us x
unfolding statement
var-claim f stand w a = word-claim f stand (λ i at. variables_statement i f at Var) (codes "var") w refl refl refl (λ i last. refl) a

pub do-claim : (f : Flags) (stand : Stand) {t : Filled} {ts us : List Filled} {x : Statement} → IsWord (codes "do") t → (Quiet us → AfterWord (λ i at. do_statement i f at) t ts x us) → StatementClaim f stand (t ∷ ts) us x
unfolding statement compound_statement
do-claim f stand w a = word-claim f stand (λ i at. do_statement i f at) (codes "do") w refl refl refl (λ i last. refl) a

pub while-claim : (f : Flags) (stand : Stand) {t : Filled} {ts us : List Filled} {x : Statement} → IsWord (codes "while") t → (Quiet us → AfterWord (λ i at. while_statement i f at) t ts x us) → StatementClaim f stand (t ∷ ts) us x
unfolding statement compound_statement
while-claim f stand w a = word-claim f stand (λ i at. while_statement i f at) (codes "while") w refl refl refl (λ i last. refl) a

pub for-claim : (f : Flags) (stand : Stand) {t : Filled} {ts us : List Filled} {x : Statement} → IsWord (codes "for") t → (Quiet us → AfterWord (λ i at. for_statement i f at) t ts x us) → StatementClaim f stand (t ∷ ts) us x
unfolding statement compound_statement
for-claim f stand w a = word-claim f stand (λ i at. for_statement i f at) (codes "for") w refl refl refl (λ i last. refl) a

pub switch-claim : (f : Flags) (stand : Stand) {t : Filled} {ts us : List Filled} {x : Statement} → IsWord (codes "switch") t → (Quiet us → AfterWord (λ i at. switch_statement i f at) t ts x us) → StatementClaim f stand (t ∷ ts) us x
unfolding statement compound_statement
switch-claim f stand w a = word-claim f stand (λ i at. switch_statement i f at) (codes "switch") w refl refl refl (λ i last. refl) a

pub try-claim : (f : Flags) (stand : Stand) {t : Filled} {ts us : List Filled} {x : Statement} → IsWord (codes "try") t → (Quiet us → AfterWord (λ i at. try_statement i f at) t ts x us) → StatementClaim f stand (t ∷ ts) us x
unfolding statement compound_statement
try-claim f stand w a = word-claim f stand (λ i at. try_statement i f at) (codes "try") w refl refl refl (λ i last. refl) a

pub continue-claim : (f : Flags) (stand : Stand) {t : Filled} {ts us : List Filled} {x : Statement} → IsWord (codes "continue") t → (Quiet us → AfterWord (λ i at. continue_statement i at) t ts x us) → StatementClaim f stand (t ∷ ts) us x
unfolding statement compound_statement jump_statement
continue-claim f stand w a = word-claim f stand (λ i at. continue_statement i at) (codes "continue") w refl refl refl (λ i last. refl) a

pub break-claim : (f : Flags) (stand : Stand) {t : Filled} {ts us : List Filled} {x : Statement} → IsWord (codes "break") t → (Quiet us → AfterWord (λ i at. break_statement i at) t ts x us) → StatementClaim f stand (t ∷ ts) us x
unfolding statement compound_statement jump_statement
break-claim f stand w a = word-claim f stand (λ i at. break_statement i at) (codes "break") w refl refl refl (λ i last. refl) a

pub throw-claim : (f : Flags) (stand : Stand) {t : Filled} {ts us : List Filled} {x : Statement} → IsWord (codes "throw") t → (Quiet us → AfterWord (λ i at. throw_statement i f at) t ts x us) → StatementClaim f stand (t ∷ ts) us x
unfolding statement compound_statement jump_statement
throw-claim f stand w a = word-claim f stand (λ i at. throw_statement i f at) (codes "throw") w refl refl refl (λ i last. refl) a

pub debugger-claim : (f : Flags) (stand : Stand) {t : Filled} {ts us : List Filled} {x : Statement} → IsWord (codes "debugger") t → (Quiet us → AfterWord (λ i at. debugger_statement i at) t ts x us) → StatementClaim f stand (t ∷ ts) us x
unfolding statement compound_statement jump_statement
debugger-claim f stand w a = word-claim f stand (λ i at. debugger_statement i at) (codes "debugger") w refl refl refl (λ i last. refl) a

pub return-claim : (f : Flags) (stand : Stand) {t : Filled} {ts us : List Filled} {x : Statement} → f.has_return ≡ true → IsWord (codes "return") t → (Quiet us → AfterWord (λ i at. return_statement i f at) t ts x us) → StatementClaim f stand (t ∷ ts) us x
unfolding statement compound_statement jump_statement
return-claim f stand h w a = word-claim f stand (λ i at. return_statement i f at) (codes "return") w refl refl refl (λ i last. rw h refl) a

-- ## Blocks

abbrev pub StatementsRead : Flags → List Filled → List Statement → List Filled → Type 0
StatementsRead f ts xs us = Eventually (λ n k r. ReadsExactly (statements (R k r) f n) xs ts us)

pub record BlockClaim (f : Flags) (ts us : List Filled) (b : Block) : Type 0 where
  pub brace : next_is (next_mark marks.LeftBrace) ts ≡ true
  pub first : next_is ends_case ts ≡ false
  pub no_item : next_is begins_item ts ≡ false
  pub quiet : Quiet ts
  pub reads : Eventually (λ n k r. ReadsExactly (block (R k r) f) b ts us)

pub block-claim : (f : Flags) {t : Filled} {ts us : List Filled} {body : List Statement} {b : Block} → IsMark marks.LeftBrace t → StatementsRead f ts body us → b ≡ roll-Block (record { span = across (t ∷ ts) us; statements = body }) → BlockClaim f (t ∷ ts) us b
unfolding block
block-claim f {t = t} {ts = ts} {us = us} {body = body} p h e = record {
  brace = is-mark-true marks.LeftBrace t p;
  first = at-kind (λ u. ends_case u ≡ false) t _ p refl;
  no_item = at-kind (λ u. begins_item u ≡ false) t _ p refl;
  quiet = quiet-kind t ts _ p refl;
  reads = both opened (begin h (λ n k r y. at-fuel (λ m. statements (R k r) f m) body ts us k r y)) (λ n k r o y last. group-in (R k r) marks.LeftBrace _ _ t ts last (is-mark-true marks.LeftBrace t p) o
      (and_then _ (later one (y t.span.end)) (λ end mv. done (ap (λ s. roll-Block (record { span = s; statements = body })) (span-across mv) ∙ sym e) mv)));
}

pub block-statement : (f : Flags) (stand : Stand) {ts us : List Filled} {b : Block} {x : Statement} → BlockClaim f ts us b → x ≡ stat.Block b → StatementClaim f stand ts us x
unfolding statement block_statement
block-statement f stand {ts = ts} c e = record { first = c.first; no_item = c.no_item; quiet = c.quiet; reads = λ q. then_ c.reads (λ n k r y last. if-yes (next_mark marks.LeftBrace) _ _ ts last c.brace (and_then _ (y last) (λ end mv. done (sym e) mv))) }

pub statements-none : (f : Flags) {c : Filled} {us : List Filled} → IsMark marks.RightBrace c → StatementsRead f (c ∷ us) [] us
unfolding statements
statements-none f {c = c} {us = us} p = turn (always {P = λ n k r. Unit {0}} (λ n k r. tt)) (λ n k r _ last. hit (mark marks.RightBrace) _ _ c c us last (mark-hit marks.RightBrace c p) (done refl one))

case-no-brace : (ts : List Filled) → next_is ends_case ts ≡ false → Misses (mark marks.RightBrace) ts
case-no-brace [] h = tt
case-no-brace (t ∷ ts) h = mark-miss marks.RightBrace t (or_false (is_word (codes "case") t.kind || is_word (codes "default") t.kind) (is_mark marks.RightBrace t.kind)
    (or_false ((is_word (codes "case") t.kind || is_word (codes "default") t.kind) || is_mark marks.RightBrace t.kind) (is_inserted t.kind) h).0).1

pub statements-next : (f : Flags) {ts us vs : List Filled} {x : Statement} {xs : List Statement} → StatementClaim f Listed ts us x → Quiet us → StatementsRead f us xs vs → StatementsRead f ts (x ∷ xs) vs
unfolding statements
statements-next f {ts = ts} c q h = turn (pair (open-statement c q) h) (λ n k r y last. miss (mark marks.RightBrace) _ _ ts last (case-no-brace ts c.first)
    (and_then _ (y.0 last) (λ end mv. and_then _ (later mv (y.1 end)) (λ end' mv'. done refl mv'))))

-- ## Variables

-- what is bound
abbrev pub BindingRead : Flags → List Filled → Pattern → List Filled → Type 0
BindingRead f ts y us = Eventually (λ n k r. ReadsExactly (binding (R k r) f) y ts us)

pub name-binding : (i : Inner) (f : Flags) {ts us : List Filled} {n : Identifier} {y : Pattern} → IsName ts n us → y ≡ name_target n → ReadsExactly (binding i f) y ts us
unfolding binding
name-binding i f (g.name {t = t} {ts = ts} name w h k) e last = hit free_name _ _ t name ts last (at-kind (λ u. free_name u ≡ Some name) t _ w (ap (λ b. name_if b name) h)) (done (ap (λ m. name_target m) (sym k) ∙ sym e) one)

none-found : {A : Type 0} (b : Bool) (x : A) (o : Option A) → cond b (Some x) o ≡ None → b ≡ false
none-found true x o h = absurd (cc)
none-found false x o h = refl

pub no-equals : (us : List Filled) → Misses assign_at us → Misses (mark marks.Assign) us
unfolding assign_operators
no-equals [] h = tt
no-equals (t ∷ ts) h = mark-miss marks.Assign t (none-found (is_mark marks.Assign t.kind) _ _ h)

pub record VariableClaim (f : Flags) (ts us : List Filled) (q : Part) : Type 0 where
  pub whole : is_whole q ≡ true
  pub reads : Ends f us → Eventually (λ n k r. ReadsExactly (initialized (R k r) f f) q ts us)

name-whole : (n : Identifier) → is_whole (name_alone n) ≡ true
unfolding pat.out-Pattern carrier.out
name-whole n = refl

pub bare-claim : (f : Flags) {ts us : List Filled} {n : Identifier} {q : Part} → IsName ts n us → q ≡ name_alone n → VariableClaim f ts us q
unfolding initialized
bare-claim f {us = us} {n = n} d e = record {
  whole = ap (λ r. is_whole r) e ∙ name-whole n;
  reads = λ h. always (λ m k r last. and_then _ (name-binding (R k r) f d refl last) (λ end mv. miss (mark marks.Assign) _ _ us end (no-equals us (h.closes.assigns (omega arith)))
      (done (ap (λ s. roll-Part (record { span = s; pattern = name_target n; default = None })) (span-across mv ∙ sym (name-across d)) ∙ sym e) mv)));
}

pub initialized-claim : (f : Flags) {equals : Filled} {ts us vs : List Filled} {y : Pattern} {value : Expression} {q : Part} → BindingRead f ts y (equals ∷ us) → IsMark marks.Assign equals → Claim f 1 us vs value → q ≡ roll-Part (record { span = across ts vs; pattern = y; default = Some value }) → VariableClaim f ts vs q
unfolding initialized
initialized-claim f {equals = u} {us = us} {y = p} {value = value} b a c e = record {
  whole = ap (λ r. is_whole r) e;
  reads = λ h. both b (open-assignment c h.closes h.yields) (λ m k r y z last. and_then _ (y last) (λ end mv. hit (mark marks.Assign) _ _ u u us end (mark-hit marks.Assign u a)
      (and_then _ (later (mv ⟫ one) (z u.span.end)) (λ end' mv'. done (ap (λ s. roll-Part (record { span = s; pattern = p; default = Some value })) (span-across mv') ∙ sym e) mv'))));
}

pub data VariableItems (f : Flags) : List Filled → List Part → List Filled → Type 0 where
  item_last : {ts us : List Filled} {q : Part} → VariableClaim f ts us q → VariableItems f ts (q ∷ []) us
  item_next : {c : Filled} {ts us vs : List Filled} {q : Part} {qs : List Part} → VariableClaim f ts (c ∷ us) q → IsMark marks.Comma c → VariableItems f us qs vs → VariableItems f ts (q ∷ qs) vs

whole-reads : (p : Parser Part) (q : Part) (ts us : List Filled) → is_whole q ≡ true → ReadsExactly p q ts us → ReadsExactly (one_variable p) q ts us
unfolding one_variable
whole-reads p q ts us h y last = and_then _ (y last) (λ end mv. chosen (is_whole q) _ _ _ h (done refl mv))

-- variables, by the reader for one
pub list-reads : (f : Flags) (p : ℕ → ℕ → Parser Part) → ((ts us : List Filled) (q : Part) → Eventually (λ n k r. ReadsExactly (initialized (R k r) f f) q ts us) → Eventually (λ n k r. ReadsExactly (p k r) q ts us)) → {ts us : List Filled} {qs : List Part} → VariableItems f ts qs us → Ends f us → Misses (mark marks.Comma) us
    → Eventually (λ n k r. ReadsExactly (variables (p k r) n) qs ts us)
unfolding variables
list-reads f p lift (item_last {ts = ts} {us = us} {q = q} d) c m = turn (lift ts us q (d.reads c)) (λ n k r y last. and_then _ (whole-reads (p k r) q ts us d.whole y last) (λ end mv. miss (mark marks.Comma) _ _ us end m (done refl mv)))
list-reads f p lift (item_next {c = t} {ts = ts} {us = us} {q = q} d a ds) c m = turn (pair (lift ts (t ∷ us) q (d.reads (ends-comma f us t a))) (list-reads f p lift ds c m)) (λ n k r y last.
    and_then _ (whole-reads (p k r) q ts (t ∷ us) d.whole y.0 last) (λ end mv. hit (mark marks.Comma) _ _ t t us end (mark-hit marks.Comma t a) (and_then _ (later (mv ⟫ one) (y.1 t.span.end)) (λ end' mv'. done refl mv'))))

pub variables-reads : (f : Flags) (kind : VariableKind) {t e : Filled} {ts us : List Filled} {qs : List Part} {x : Statement} → VariableItems f ts qs (e ∷ us) → IsEnd e → x ≡ stat.Variables (across (t ∷ ts) us) kind qs → AfterWord (λ i at. variables_statement i f at kind) t ts x us
unfolding variables_statement
variables-reads f kind {e = e} {ts = ts} {us = us} {qs = qs} d h q = begin (list-reads f (λ k r. initialized (R k r) f f) (λ vs ws r y. y) d (end-ends f us e h) (mark-miss marks.Comma e (end-false (is_mark marks.Comma) e.kind h refl (λ b. refl)))) (λ n k r y last.
    and_then _ (later one (at-fuel (λ m. variables (initialized (R k r) f f) m) qs ts (e ∷ us) k r y _)) (λ end mv. end-semicolon (R k r) _ e us end h (done (ap (λ s. stat.Variables s kind qs) (span-across (mv ⟫ one)) ∙ sym q) (mv ⟫ one))))

-- ## If

pub paren-reads : (f : Flags) {o c : Filled} {ts us : List Filled} {x : Expression} → IsMark marks.LeftParenthesis o → Claim (with_in f) 0 ts (c ∷ us) x → IsMark marks.RightParenthesis c → Eventually (λ n k r. ReadsExactly (parenthesized (R k r) f) x (o ∷ ts) us)
unfolding parenthesized
paren-reads f {o = o} {c = c} {ts = ts} {us = us} p x q = both opened (open-sequence x (closes-close (with_in f) us c q) (ends-yield 0 c us (close-ends-yield c q))) (λ n k r a y last. group-in (R k r) marks.LeftParenthesis _ _ o ts last (is-mark-true marks.LeftParenthesis o p) a
    (and_then _ (later one (y o.span.end)) (λ end mv. take (mark marks.RightParenthesis) _ c c us end (mark-hit marks.RightParenthesis c q) (done refl (mv ⟫ one)))))

pub record ConditionClaim (f : Flags) (ts us : List Filled) (c : Condition) : Type 0 where
  pub token : Filled
  pub after_if : List Filled
  pub all : ts ≡ token ∷ after_if
  pub if_word : IsWord (codes "if") token
  pub reads : Quiet us → Eventually (λ n k r. ReadsExactly (condition (R k r) f) c ts us)

pub condition-claim : (f : Flags) {t o c : Filled} {ts us vs : List Filled} {test : Expression} {body : Statement} {x : Condition} → IsWord (codes "if") t → IsMark marks.LeftParenthesis o → Claim (with_in f) 0 ts (c ∷ us) test → IsMark marks.RightParenthesis c → StatementClaim f Under us vs body
    → x ≡ roll-Condition (record { span = across (t ∷ o ∷ ts) vs; test = test; body = body }) → ConditionClaim f (t ∷ o ∷ ts) vs x
unfolding condition
condition-claim f {t = t} {o = o} {ts = ts} {test = test} {body = body} w p x q s e = record {
  token = t;
  after_if = o ∷ ts;
  all = refl;
  if_word = w;
  reads = λ l. both (paren-reads f p x q) (open-statement s l) (λ n k r y z last. take (word (codes "if")) _ t t (o ∷ ts) last (word-hit (codes "if") t w) (and_then _ (later one (y t.span.end)) (λ end mv. and_then _ (later mv (z end)) (λ end' mv'.
      done (ap (λ v. roll-Condition (record { span = v; test = test; body = body })) (span-across mv') ∙ sym e) mv'))));
}

if-next : {f : Flags} {ts us : List Filled} {c : Condition} → ConditionClaim f ts us c → next_is (next_word (codes "if")) ts ≡ true
if-next c = subst (λ vs. next_is (next_word (codes "if")) vs ≡ true) (sym c.all) (is-word-true (codes "if") c.token c.if_word)

abbrev rest_of_if : List Condition → Option Statement → Otherwise
rest_of_if more last = record { more = more; last = last }

abbrev pub OtherwiseRead : Flags → List Filled → List Condition → Option Statement → List Filled → Type 0
OtherwiseRead f ts more last us = Eventually (λ n k r. ReadsOnward (otherwise (R k r) f n) (rest_of_if more last) ts us)

-- a condition and each `else` after it
pub data IfClaim (f : Flags) : List Filled → Condition → List Condition → Option Statement → List Filled → Type 0 where
  if_claim : {ts us vs : List Filled} {c : Condition} {more : List Condition} {last : Option Statement} → ConditionClaim f ts us c → Quiet us ⊎ (us ≡ vs) → (Quiet vs → OtherwiseRead f us more last vs) → IfClaim f ts c more last vs

pub misses-word : (w : List ℕ) (us : List Filled) → NotWord w us → Misses (word w) us
misses-word w [] h = tt
misses-word w (t ∷ ts) h = word-miss w t h

pub no-next-word : (w : List ℕ) (us : List Filled) → NotWord w us → next_is (next_word w) us ≡ false
no-next-word w [] h = refl
no-next-word w (t ∷ ts) h = h

pub no-else : (f : Flags) {ts us : List Filled} {c : Condition} → ConditionClaim f ts us c → NotWord (codes "else") us → IfClaim f ts c [] None us
unfolding otherwise
no-else f {us = us} c h = if_claim c (inr refl) (λ q. turn (always {P = λ n k r. Unit {0}} (λ n k r. tt)) (λ n k r _ last. nothing-taken (on-miss-is (word (codes "else")) _ _ us last (misses-word (codes "else") us h))))

pub last-else : (f : Flags) {e : Filled} {ts us vs : List Filled} {c : Condition} {s : Statement} → ConditionClaim f ts (e ∷ us) c → IsWord (codes "else") e → NotWord (codes "if") us → StatementClaim f Under us vs s → IfClaim f ts c [] (Some s) vs
unfolding otherwise
last-else f {e = e} {us = us} c w h s = if_claim c (inl (quiet-kind e us _ w refl)) (λ q. turn (open-statement s q) (λ n k r y last. onward-of (hit (word (codes "else")) _ _ e e us last (word-hit (codes "else") e w)
    (if-no (next_word (codes "if")) _ _ us e.span.end (no-next-word (codes "if") us h) (and_then _ (later one (y e.span.end)) (λ end mv. done refl mv))))))

middle : {us vs : List Filled} → Quiet us ⊎ (us ≡ vs) → Quiet vs → Quiet us
middle (inl h) q = h
middle (inr h) q = subst (λ zs. Quiet zs) (sym h) q

pub else-if : (f : Flags) {e : Filled} {ts us vs : List Filled} {c d : Condition} {more : List Condition} {last : Option Statement} → ConditionClaim f ts (e ∷ us) c → IsWord (codes "else") e → IfClaim f us d more last vs → IfClaim f ts c (d ∷ more) last vs
unfolding otherwise
else-if f {e = e} {us = us} c w (if_claim {us = ws} d l o) = if_claim c (inl (quiet-kind e us _ w refl)) (λ q. turn (pair (d.reads (middle l q)) (o q)) (λ n k r y last. onward-of (hit (word (codes "else")) _ _ e e us last (word-hit (codes "else") e w)
    (if-yes (next_word (codes "if")) _ _ us e.span.end (if-next d) (and_then _ (later one (y.0 e.span.end)) (λ end mv. and_on _ mv (y.1 end) (λ end' mv'. done refl mv')))))))

all-turns : (f : Flags) (more : List Condition) (final : Option Statement) (us vs : List Filled) (k r : ℕ) → ReadsOnward (otherwise (R k r) f k) (rest_of_if more final) us vs → ReadsOnward (otherwise (R k r) f (R k r).fuel) (rest_of_if more final) us vs
all-turns f more final us vs k r h = subst (λ n. ReadsOnward (otherwise (R k r) f n) (rest_of_if more final) us vs) (sym (readers-fuel k r)) h

pub if-claim : (f : Flags) (stand : Stand) {ts us : List Filled} {c : Condition} {more : List Condition} {final : Option Statement} {x : Statement} → IfClaim f ts c more final us → x ≡ stat.If (across ts us) c more final → StatementClaim f stand ts us x
unfolding statement if_statement
if-claim f stand (if_claim {ts = ts} {us = us} {vs = vs} {c = b} {more = more} {last = final} c l o) e = record {
  first = subst (λ zs. next_is ends_case zs ≡ false) (sym c.all) (at-kind (λ u. ends_case u ≡ false) c.token _ c.if_word refl);
  no_item = subst (λ zs. next_is begins_item zs ≡ false) (sym c.all) (at-kind (λ u. begins_item u ≡ false) c.token _ c.if_word refl);
  quiet = subst (λ zs. Quiet zs) (sym c.all) (quiet-kind c.token c.after_if _ c.if_word refl);
  reads = λ q. both (c.reads (middle l q)) (begin (o q) (λ n k r y. all-turns f more final us vs k r y)) (λ n k r y z last. if-no (next_mark marks.LeftBrace) _ _ ts last no-brace (if-yes (next_word (codes "if")) _ _ ts last (if-next c)
      (and_then _ (y last) (λ end mv. and_on _ mv (z end) (λ end' mv'. done (ap (λ s. stat.If s b more final) (span-across mv') ∙ sym e) mv')))));
}
  where
    no-brace : next_is (next_mark marks.LeftBrace) ts ≡ false
    no-brace = subst (λ zs. next_is (next_mark marks.LeftBrace) zs ≡ false) (sym c.all) (at-kind (λ u. next_mark marks.LeftBrace u ≡ false) c.token _ c.if_word refl)
