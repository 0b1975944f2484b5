-- Loops, jumps, switches, tries, labels and expressions are read, if their parts are.
use Rattle.std.proofs.Common.{◌≡◌, ℕ, suc, ◌≤◌, Bool, true, false, ◌&&◌, ◌||◌, not, List, [], ◌∷◌, Option, Some, None, refl, sym, ap, subst, ◌∙◌, arith}
use Rattle.std.proofs.lemmas.Bool.{false≢true, true≢false}
use Rattle.std.specs.Prelude.{codes}
use Rattle.std.specs.Str.{bytes_eq}
use Rattle.es_text.specs.declared.Span.{Span}
use Rattle.es5_ast.specs.declared.tree.Identifier5.{Identifier5}
use Rattle.es5_ast.specs.declared.tree.Expr5 as x5
use Rattle.es5_ast.specs.declared.tree.Expr5.{Expr5}
use Rattle.es5_ast.specs.declared.tree.Expr5.TheVariants as expr
use Rattle.es5_ast.specs.declared.tree.Stat5.{Stat5}
use Rattle.es5_ast.specs.declared.tree.Stat5.TheVariants as stat
use Rattle.es5_ast.specs.declared.tree.ForFirst5.{ForFirst5}
use Rattle.es5_ast.specs.declared.tree.ForFirst5.TheVariants as for_first
use Rattle.es5_ast.specs.declared.tree.Declared5.{Declared5}
use Rattle.es5_ast.specs.declared.tree.Case5.{Case5, roll-Case5}
use Rattle.es5_ast.specs.declared.tree.Catch5.{Catch5, roll-Catch5}
use Rattle.es5_ast.specs.declared.tree.Block5.{Block5}
use denote.Hole.Carrier as carrier
use Rattle.es5_ast.specs.Lexical.{Token5, Kind5, Word, Integer, Text, Punctuator, Inserted, is_one_of, reserved_words}
use Rattle.es5_ast.specs.Grammar as g
use Rattle.es5_ast.specs.Grammar.{Mode5, Exact, IsIdentifier, IsMark, IsWord, IsEnd, IsOnLine, AreCases, is_mark, is_word, is_identifier, begins, ends, begin_of, across}
use Rattle.es5_ast.specs.Within.{Opens}
use Rattle.es5_reading.specs.Parser.{◌>>=◌, Input5, Outcome5, Took, Outside, returns, fails, take_as, next_is, mark, word, next_mark, next_word, Bare, is_left, Inner5}
use Rattle.es5_reading.specs.Expressions.{name_if, free_name, free_name_in}
use Rattle.es5_reading.specs.Statements.{one_declared, declared_list, do_statement, while_statement, after_first_declared, for_var, for_expression, for_first_part, optional, for_header, for_statement, label_if, label_at, label_of, optional_label, continue_statement, break_statement, goes_on, returned, return_statement, begins_line, throw_statement, is_inserted, ends_case, in_case, case_clause, default_clause, cases, switch_statement, catch_parameter, handler, after_handler, only_finally, try_statement, debugger_statement, expression_end, labelled, label_or_end, expression_statement, plain_statement, jump_statement, compound_statement, statement}
use Rattle.es5_reading.specs.Programs.{readers, program}
use Rattle.es5_reading.proofs.Posts.{Misses}
use Rattle.es5_reading.proofs.Meanings.{same_bytes}
use Rattle.es5_reading.proofs.Spans.{Moves, Goes, ◌⟫◌, stays, then-goes}
use Rattle.es5_reading.proofs.Derived.{one}
use Rattle.es5_reading.proofs.Reading.{ReadsOf, reads_, Reads, Passes, reads-as, done, passes-of, later, placed, bind-reads, on-hit, on-miss, if-true, if-false, choose-either, group-hit, Eventually, always, then_, both, pair, deeper, inside_, turn, once, begin}
use Rattle.es5_reading.proofs.CompleteTokens.{at-kind, is-false, operand_words, operand_marks, prefix_words, prefix_marks, operand_name, First, first_operand, BeginsFirst, begins_first_at, first-no-word, first-no-mark, not-reserved, Closes, closes-up, mark-miss, word-miss, closes-colon, closes-close, closes-comma, closes-end, closes-semicolon}
use Rattle.es5_reading.proofs.CompleteLevels.{R, at-fuel, at-fuel', sequence_level, Claim}
use Rattle.es5_reading.proofs.CompleteParts.{is-mark-true, is-word-true, mark-hit, word-hit, mark-other, take-mark, first-misses, identifier_of, identifier-reads, opened, open-sequence}
use Rattle.es5_reading.proofs.CompleteExpressions.{name-sequence}
use Rattle.es5_reading.proofs.CompleteStatements.{Quiet, StatClaim, quiet-kind, open-statement, semicolon-reads, take-word, end-none, end-false, AfterWord, BlockClaim, DeclaredClaim, DeclaredItems, item_last, item_next, list-reads, paren-reads}

-- ## Loops

pub do-reads : (n : ℕ) (inside : Bool) (d : Token5) (ts : List Token5) (w o : Token5) (us : List Token5) (c e : Token5) (vs : List Token5) {y : Stat5} (s : Stat5) (x : Expr5) {span : Span} → y ≡ stat.DoWhile span s x → span ≡ across (d ∷ ts) vs → Opens n (λ m. StatClaim m inside false ts s (w ∷ o ∷ us)) → IsWord (codes "while") w → IsMark (codes "(") o → Opens n (λ m. Claim m false 0 us x (c ∷ e ∷ vs)) → IsMark (codes ")") c → IsEnd e → AfterWord n (λ i at. do_statement i inside at) d ts y vs
unfolding do_statement
do-reads n inside d ts w o us c e vs s x e' v h u p k q a = both (inside_ n h (λ l y. open-statement inside false ts (w ∷ o ∷ us) y (quiet-kind w (o ∷ us) (Word (codes "while")) u refl))) (paren-reads n o us c (e ∷ vs) p k q) (λ n f r y z last.
    bind-reads _ (y d.end) (λ j m. bind-reads _ (take-word (codes "while") w (o ∷ us) j u) (λ j1 m1. bind-reads _ (z j1) (λ j2 m2. bind-reads _ (semicolon-reads (R f r) e vs j2 a) (λ j3 m3.
    done (placed (λ b. stat.DoWhile b s x) (one {last = last} ⟫ m ⟫ m1 ⟫ m2 ⟫ m3) e' v) (one ⟫ m ⟫ m1 ⟫ m2 ⟫ m3))))))

pub while-reads : (n : ℕ) (inside : Bool) (d o : Token5) (ts : List Token5) (c : Token5) (us vs : List Token5) {y : Stat5} (x : Expr5) (s : Stat5) {span : Span} → y ≡ stat.While span x s → span ≡ across (d ∷ o ∷ ts) vs → IsMark (codes "(") o → Opens n (λ m. Claim m false 0 ts x (c ∷ us)) → IsMark (codes ")") c → Opens n (λ m. StatClaim m inside false us s vs) → Quiet vs → AfterWord n (λ i at. while_statement i inside at) d (o ∷ ts) y vs
unfolding while_statement
while-reads n inside d o ts c us vs x s e v p h q b k = both (paren-reads n o ts c us p h q) (inside_ n b (λ l y. open-statement inside false us vs y k)) (λ n f r y z last.
    bind-reads _ (y d.end) (λ j m. bind-reads _ (z j) (λ i m'. done (placed (λ b. stat.While b x s) (one {last = last} ⟫ m ⟫ m') e v) (one ⟫ m ⟫ m'))))

-- inside one construct more
abbrev pub FirstRead : ℕ → List Token5 → ForFirst5 → List Token5 → Type 0
FirstRead n ts x us = Eventually (suc n) (λ n f r. Reads (for_first_part (R f r)) x ts us)

pub first-nothing : {n : ℕ} (e : Token5) (us : List Token5) → IsMark (codes ";") e → FirstRead n (e ∷ us) for_first.NoFirst us
unfolding for_first_part
first-nothing e us p = always (λ n f r last. on-hit (mark (codes ";")) _ _ e e us last (mark-hit (codes ";") e p) (reads_ one))

open-declared : {n : ℕ} (k : Bool) (ts : List Token5) (d : Declared5) (us : List Token5) → Eventually n (λ n f r. Reads (one_declared (R f r) k) d ts us) → Eventually (suc n) (λ n f r. Reads ((R f r).declared k) d ts us)
unfolding readers
open-declared k ts d us h = deeper h (λ n f r x. x)

mark-no-word : (w p : List ℕ) (t : Token5) → IsMark p t → is_word w t.kind ≡ false
mark-no-word w p t e = subst (λ k. is_word w k ≡ false) (sym e) refl

semicolon-one : (e : Token5) (us : List Token5) → IsMark (codes ";") e → Closes true 1 (e ∷ us)
semicolon-one e us p = closes-up true 0 1 (e ∷ us) (omega arith) (closes-semicolon true us e p)

var-no-semi : (v : Token5) → IsWord (codes "var") v → mark (codes ";") v ≡ None
var-no-semi v w = mark-miss (codes ";") v (subst (λ k. is_mark (codes ";") k ≡ false) (sym w) refl)

first-var-last : {n : ℕ} (v : Token5) (ts : List Token5) (e : Token5) (us : List Token5) (d : Declared5) → IsWord (codes "var") v → DeclaredClaim n true ts d (e ∷ us) → IsMark (codes ";") e → FirstRead n (v ∷ ts) (for_first.FirstVar (d ∷ [])) us
unfolding for_first_part for_var after_first_declared
first-var-last v ts e us d w x p = then_ (open-declared true ts d (e ∷ us) (x (semicolon-one e us p))) (λ n f r y last.
    on-miss (mark (codes ";")) _ _ (v ∷ ts) last (var-no-semi v w) (on-hit (word (codes "var")) _ _ v v ts last (word-hit (codes "var") v w)
    (bind-reads _ (y v.end) (λ j m. if-false (next_word (codes "in")) (fails (Outside 3)) (after_first_declared (R f r) d) (e ∷ us) j (mark-no-word (codes "in") (codes ";") e p)
    (on-miss (mark (codes ",")) _ _ (e ∷ us) j (mark-other (codes ",") (codes ";") e refl p) (bind-reads _ (take-mark (codes ";") e us j p) (λ i m'. reads_ (one ⟫ m ⟫ m'))))))))

first-var-more : {n : ℕ} (v : Token5) (ts : List Token5) (c : Token5) (cs : List Token5) (e : Token5) (us : List Token5) (d : Declared5) (ds : List Declared5) → IsWord (codes "var") v → DeclaredClaim n true ts d (c ∷ cs) → IsMark (codes ",") c → DeclaredItems n true cs ds (e ∷ us) → IsMark (codes ";") e → FirstRead n (v ∷ ts) (for_first.FirstVar (d ∷ ds)) us
unfolding for_first_part for_var after_first_declared
first-var-more v ts c cs e us d ds w x k h p = both (open-declared true ts d (c ∷ cs) (x (closes-comma true cs c k)))
    (begin (list-reads true (λ f r. (R f r).declared true) (λ zs y ws a. open-declared true zs y ws a) h (semicolon-one e us p) (mark-other (codes ",") (codes ";") e refl p))
    (λ n f r y. at-fuel (λ m. declared_list ((R f r).declared true) m) ds cs (e ∷ us) f r y)) (λ n f r y y' last.
    on-miss (mark (codes ";")) _ _ (v ∷ ts) last (var-no-semi v w) (on-hit (word (codes "var")) _ _ v v ts last (word-hit (codes "var") v w)
    (bind-reads _ (y v.end) (λ j m. if-false (next_word (codes "in")) (fails (Outside 3)) (after_first_declared (R f r) d) (c ∷ cs) j (mark-no-word (codes "in") (codes ",") c k)
    (on-hit (mark (codes ",")) _ _ c c cs j (mark-hit (codes ",") c k) (bind-reads _ (y' c.end) (λ i m'. bind-reads _ (take-mark (codes ";") e us i p) (λ i' m''. reads_ (one ⟫ m ⟫ one ⟫ m' ⟫ m'')))))))))

first-items : {n : ℕ} (v : Token5) (ts bs : List Token5) (e : Token5) (us : List Token5) (ds : List Declared5) → IsWord (codes "var") v → DeclaredItems n true ts ds bs → bs ≡ e ∷ us → IsMark (codes ";") e → FirstRead n (v ∷ ts) (for_first.FirstVar ds) us
first-items {n = n} v ts bs e us _ w (item_last {d = d} x) q p = first-var-last v ts e us d w (subst (λ zs. DeclaredClaim n true ts d zs) q x) p
first-items {n = n} v ts bs e us _ w (item_next {c = c} {us = cs} {d = d} {ds = ds} x k h) q p = first-var-more v ts c cs e us d ds w x k (subst (λ zs. DeclaredItems n true cs ds zs) q h) p

pub first-var : {n : ℕ} (v : Token5) (ts : List Token5) (e : Token5) (us : List Token5) {x : ForFirst5} (ds : List Declared5) → x ≡ for_first.FirstVar ds → IsWord (codes "var") v → DeclaredItems n true ts ds (e ∷ us) → IsMark (codes ";") e → FirstRead n (v ∷ ts) x us
first-var {n = n} v ts e us ds q w d p = subst (λ x. FirstRead n (v ∷ ts) x us) (sym q) (first-items v ts (e ∷ us) e us ds w d refl p)

and-false : (x y : Bool) → y ≡ false → (x && y) ≡ false
and-false true y h = h
and-false false y h = refl

first-no-var : (ts : List Token5) → BeginsFirst ts → Misses (word (codes "var")) ts
unfolding operand_words prefix_words reserved_words
first-no-var ts (begins_first_at {t = t} h) = word-miss (codes "var") t (first-no-word (codes "var") t.kind refl refl refl h)

pub first-expression : {n : ℕ} (ts : List Token5) (e : Token5) (us : List Token5) {y : ForFirst5} (x : Expr5) → y ≡ for_first.FirstExpression x → Claim n true 0 ts x (e ∷ us) → IsMark (codes ";") e → FirstRead n ts y us
unfolding for_first_part for_expression operand_marks prefix_marks
first-expression ts e us x q c p = then_ (open-sequence true ts (e ∷ us) c (closes-semicolon true us e p)) (λ n f r y last.
    on-miss (mark (codes ";")) _ _ ts last (first-misses (codes ";") ts refl refl c.first) (on-miss (word (codes "var")) _ _ ts last (first-no-var ts c.first)
    (bind-reads _ (y last) (λ j m. if-false (λ u. is_left c.shape && is_word (codes "in") u.kind) (fails (Outside 3)) (◌>>=◌ (take_as (mark (codes ";"))) (λ u. returns (for_first.FirstExpression x))) (e ∷ us) j (and-false (is_left c.shape) (is_word (codes "in") e.kind) (mark-no-word (codes "in") (codes ";") e p))
    (bind-reads _ (take-mark (codes ";") e us j p) (λ i m'. done (sym q) (m ⟫ m')))))))

pub data OptionalClaim (n : ℕ) : List Token5 → Option Expr5 → List Token5 → Type 0 where
  absent_claim : {ts : List Token5} → OptionalClaim n ts None ts
  present_claim : {ts us : List Token5} {x : Expr5} → Claim n false 0 ts x us → OptionalClaim n ts (Some x) us

optional-reads : {n : ℕ} (p : List ℕ) (ts vs : List Token5) (t : Token5) (us : List Token5) (x : Option Expr5) → is_one_of p operand_marks ≡ false → is_one_of p prefix_marks ≡ false → OptionalClaim n ts x vs → vs ≡ t ∷ us → IsMark p t → Closes false 0 (t ∷ us) → Eventually (suc n) (λ n f r. Reads (optional (R f r) p) x ts us)
unfolding optional
optional-reads {n = n} p ts vs t us _ a b absent_claim e q c = subst (λ zs. Eventually (suc n) (λ n f r. Reads (optional (R f r) p) None zs us)) (sym e) (always (λ n f r last. on-hit (mark p) _ _ t t us last (mark-hit p t q) (reads_ one)))
optional-reads {n = n} p ts vs t us _ a b (present_claim {x = x} h) e q c = at (subst (λ zs. Claim n false 0 ts x zs) e h)
  where
    at : Claim n false 0 ts x (t ∷ us) → Eventually (suc n) (λ n f r. Reads (optional (R f r) p) (Some x) ts us)
    at k = then_ (open-sequence false ts (t ∷ us) k c) (λ n f r y last.
        on-miss (mark p) _ _ ts last (first-misses p ts a b k.first) (bind-reads _ (y last) (λ j m. bind-reads _ (take-mark p t us j q) (λ i m'. reads_ (m ⟫ m')))))

-- what stands in a for header
pub record HeaderClaim (n : ℕ) (ts : List Token5) (first : ForFirst5) (us : List Token5) (e : Token5) (test : Option Expr5) (vs : List Token5) (c : Token5) (update : Option Expr5) (ws : List Token5) : Type 0 where
  pub first_part : FirstRead n ts first us
  pub test_part : OptionalClaim n us test (e ∷ vs)
  pub update_part : OptionalClaim n vs update (c ∷ ws)

pub for-reads : (n : ℕ) (inside : Bool) (d o : Token5) (ts us : List Token5) (e : Token5) (vs : List Token5) (c : Token5) (ws xs : List Token5) {y : Stat5} (first : ForFirst5) (test update : Option Expr5) (s : Stat5) {span : Span} → y ≡ stat.For span first test update s → span ≡ across (d ∷ o ∷ ts) xs → IsMark (codes "(") o → IsMark (codes ";") e → IsMark (codes ")") c → Opens n (λ m. HeaderClaim m ts first us e test vs c update ws) → Opens n (λ m. StatClaim m inside false ws s xs) → Quiet xs
    → AfterWord n (λ i at. for_statement i inside at) d (o ∷ ts) y xs
unfolding for_statement for_header operand_marks prefix_marks
for-reads n inside d o ts us e vs c ws xs first test update s e' v p q a h b k = both (inside_ n h (λ l z. pair opened (pair z.first_part (pair (optional-reads (codes ";") us (e ∷ vs) e vs test refl refl z.test_part refl q (closes-semicolon false vs e q)) (optional-reads (codes ")") vs (c ∷ ws) c ws update refl refl z.update_part refl a (closes-close false ws c a))))))
    (inside_ n b (λ l z. open-statement inside false ws xs z k)) (λ n f r x y last.
    bind-reads {x = record { first = first; test = test; update = update }} {M = λ i. Moves (record { tokens = o ∷ ts; last = d.end }) i} _ (group-hit (R f r) _ _ _ o ts d.end (is-mark-true (codes "(") o p) x.0 (bind-reads _ (x.1.0 o.end) (λ j m. bind-reads _ (x.1.1.0 j) (λ j1 m1. bind-reads _ (x.1.1.1 j1) (λ j2 m2. reads_ (one ⟫ m ⟫ m1 ⟫ m2))))))
    (λ j m. bind-reads _ (y j) (λ i m'. done (placed (λ z. stat.For z first test update s) (one {last = last} ⟫ m ⟫ m') e' v) (one ⟫ m ⟫ m'))))

-- ## Jumps

abbrev pub LabelRead : List Token5 → Option Identifier5 → List Token5 → Type 0
LabelRead ts x us = Passes optional_label x ts us

no-label-kind : (a : Bool) (t : Token5) → free_name t ≡ None → label_if a (free_name t) ≡ None
no-label-kind true t h = refl
no-label-kind false t h = h

pub no-label-reads : (e : Token5) (us : List Token5) → IsEnd e → LabelRead (e ∷ us) None (e ∷ us)
unfolding optional_label
no-label-reads e us h last = on-miss label_at _ _ (e ∷ us) last (no-label-kind e.after_line e (end-none free_name_in e.kind h refl refl)) (reads_ (stays _))

label-if-false : (a : Bool) (o : Option (List ℕ)) → a ≡ false → label_if a o ≡ o
label-if-false true o h = absurd (true≢false h)
label-if-false false o h = refl

label-token : (t : Token5) (name : List ℕ) → t.after_line ≡ false → IsWord name t → is_identifier name ≡ true → label_at t ≡ Some name
label-token t name a e h = label-if-false t.after_line (free_name t) a ∙ at-kind (λ u. free_name u ≡ Some name) t (Word name) e (ap (λ b. name_if b name) h)

pub label-reads : {ts us : List Token5} {x : Identifier5} → IsOnLine ts → IsIdentifier Exact ts x us → LabelRead ts (Some x) us
unfolding optional_label
label-reads {us = us} {x = x} a d last = subst (λ vs. ReadsOf (λ c. Goes (record { tokens = vs; last = last }) c) (Some x) us (optional_label (record { tokens = vs; last = last }))) (sym d.first)
    (passes-of (on-hit label_at _ _ d.token x.name us last (label-token d.token x.name (subst (λ vs. IsOnLine vs) d.first a) d.word d.free) (done (ap (λ z. Some z) (placed (λ z. identifier_of z x.name) (one {t = d.token} {ts = us} {last = last}) refl (subst (λ vs. x.span ≡ across vs us) d.first d.spans))) one)))

pub continue-reads : {n : ℕ} (w : Token5) (ts : List Token5) (e : Token5) (us : List Token5) {x : Stat5} (l : Option Identifier5) {span : Span} → x ≡ stat.Continue span l → span ≡ across (w ∷ ts) us → LabelRead ts l (e ∷ us) → IsEnd e → AfterWord n (λ i at. continue_statement i at) w ts x us
unfolding continue_statement
continue-reads w ts e us l e' v h q = always (λ n f r last. bind-reads _ (h w.end) (λ j m. bind-reads _ (semicolon-reads (R f r) e us j q) (λ i m'. done (placed (λ z. stat.Continue z l) (then-goes (one {last = last}) m ⟫ m') e' v) (then-goes one m ⟫ m'))))

pub break-reads : {n : ℕ} (w : Token5) (ts : List Token5) (e : Token5) (us : List Token5) {x : Stat5} (l : Option Identifier5) {span : Span} → x ≡ stat.Break span l → span ≡ across (w ∷ ts) us → LabelRead ts l (e ∷ us) → IsEnd e → AfterWord n (λ i at. break_statement i at) w ts x us
unfolding break_statement
break-reads w ts e us l e' v h q = always (λ n f r last. bind-reads _ (h w.end) (λ j m. bind-reads _ (semicolon-reads (R f r) e us j q) (λ i m'. done (placed (λ z. stat.Break z l) (then-goes (one {last = last}) m ⟫ m') e' v) (then-goes one m ⟫ m'))))

goes-not : (a b c : Bool) → b ≡ true → not (a || b || c) ≡ false
goes-not true b c h = refl
goes-not false b c h = rw h refl

first-no-end : (k : Kind5) → First k → ends k ≡ false
unfolding operand_marks prefix_marks
first-no-end (Word w) h = refl
first-no-end (Integer n) h = refl
first-no-end (Text us) h = refl
first-no-end (Punctuator p) h = first-no-mark (codes ";") (Punctuator p) refl refl h
first-no-end Inserted h = elim (none h) [ ]
  where
    none : First Inserted → ⊥
    none (first_operand o) = elim o [ ]

goes-first : (ts : List Token5) → IsOnLine ts → BeginsFirst ts → next_is goes_on ts ≡ true
unfolding operand_marks prefix_marks
goes-first ts a (begins_first_at {t = t} h) = rw (a, first-no-end t.kind h, first-no-mark (codes "}") t.kind refl refl h) refl

pub data ReturnedClaim (n : ℕ) : List Token5 → Option Expr5 → List Token5 → Type 0 where
  nothing_returned : {ts : List Token5} → ReturnedClaim n ts None ts
  value_returned_ : {ts us : List Token5} {x : Expr5} → IsOnLine ts → Claim n false 0 ts x us → ReturnedClaim n ts (Some x) us

returned-reads : {n : ℕ} (ts vs : List Token5) (e : Token5) (us : List Token5) {x : Option Expr5} → ReturnedClaim n ts x vs → vs ≡ e ∷ us → IsEnd e → Eventually n (λ n f r. Passes (returned (R f r)) x ts (e ∷ us))
unfolding returned
returned-reads {n = n} ts vs e us nothing_returned q h = subst (λ zs. Eventually n (λ n f r. Passes (returned (R f r)) None zs (e ∷ us))) (sym q)
    (always (λ n f r last. if-false goes_on _ _ (e ∷ us) last (goes-not e.after_line (ends e.kind) (is_mark (codes "}") e.kind) h) (reads_ (stays _))))
returned-reads {n = n} ts vs e us (value_returned_ {x = x} a c) q h = at (subst (λ zs. Claim n false 0 ts x zs) q c)
  where
    at : Claim n false 0 ts x (e ∷ us) → Eventually n (λ n f r. Passes (returned (R f r)) (Some x) ts (e ∷ us))
    at k = then_ (k.levels 0 sequence_level (omega arith) (closes-end false us e h)) (λ n f r y last.
        passes-of (if-true goes_on _ _ ts last (goes-first ts a k.first) (bind-reads _ (y last) (λ j m. reads_ m))))

pub return-reads : {n : ℕ} (w : Token5) (ts : List Token5) (e : Token5) (us : List Token5) {y : Stat5} (x : Option Expr5) {span : Span} → y ≡ stat.Return span x → span ≡ across (w ∷ ts) us → ReturnedClaim n ts x (e ∷ us) → IsEnd e → AfterWord n (λ i at. return_statement i at) w ts y us
unfolding return_statement
return-reads w ts e us x e' v c h = then_ (returned-reads ts (e ∷ us) e us c refl h) (λ n f r y last. bind-reads _ (y w.end) (λ j m. bind-reads _ (semicolon-reads (R f r) e us j h) (λ i m'. done (placed (λ z. stat.Return z x) (then-goes (one {last = last}) m ⟫ m') e' v) (then-goes one m ⟫ m'))))

no-line : (ts : List Token5) → IsOnLine ts → next_is begins_line ts ≡ false
no-line [] a = refl
no-line (t ∷ ts) a = a

pub throw-reads : {n : ℕ} (w : Token5) (ts : List Token5) (e : Token5) (us : List Token5) {y : Stat5} (x : Expr5) {span : Span} → y ≡ stat.Throw span x → span ≡ across (w ∷ ts) us → IsOnLine ts → Claim n false 0 ts x (e ∷ us) → IsEnd e → AfterWord n (λ i at. throw_statement i at) w ts y us
unfolding throw_statement
throw-reads w ts e us x e' v a c h = then_ (c.levels 0 sequence_level (omega arith) (closes-end false us e h)) (λ n f r y last. if-false _ _ _ ts w.end (no-line ts a)
    (bind-reads _ (y w.end) (λ j m. bind-reads _ (semicolon-reads (R f r) e us j h) (λ i m'. done (placed (λ z. stat.Throw z x) (one {last = last} ⟫ m ⟫ m') e' v) (one ⟫ m ⟫ m')))))

pub debugger-reads : {n : ℕ} (w e : Token5) (us : List Token5) {y : Stat5} {span : Span} → y ≡ stat.Debugger span → span ≡ across (w ∷ e ∷ us) us → IsEnd e → AfterWord n (λ i at. debugger_statement i at) w (e ∷ us) y us
unfolding debugger_statement
debugger-reads w e us e' v h = always (λ n f r last. bind-reads _ (semicolon-reads (R f r) e us w.end h) (λ j m. done (placed (λ z. stat.Debugger z) (one {last = last} ⟫ m) e' v) (one ⟫ m)))

-- ## Switch

-- inside one construct more
abbrev pub InCaseRead : ℕ → Bool → List Token5 → List Stat5 → List Token5 → Type 0
InCaseRead n inside ts xs us = next_is ends_case us ≡ true → Eventually (suc n) (λ n f r. Passes (in_case (R f r) inside n) xs ts us)

pub in-case-none : {n : ℕ} (inside : Bool) (us : List Token5) → InCaseRead n inside us [] us
unfolding in_case
in-case-none inside us e = once (λ n f r last. if-true _ _ _ us last e (reads_ (stays _)))

pub in-case-next : {n : ℕ} (inside : Bool) (ts us vs : List Token5) {x : Stat5} {xs : List Stat5} → StatClaim n inside false ts x us → (next_is ends_case vs ≡ true → Quiet us) → InCaseRead n inside us xs vs → InCaseRead n inside ts (x ∷ xs) vs
unfolding in_case
in-case-next inside ts us vs x q h e = turn (pair (open-statement inside false ts us x (q e)) (h e)) (λ n f r y last. passes-of (if-false _ _ _ ts last x.first (bind-reads _ (y.0 last) (λ j m. bind-reads _ (y.1 j) (λ i m'. reads_ (then-goes m m'))))))

case-quiet : (t : Token5) (ts : List Token5) → next_is ends_case (t ∷ ts) ≡ true → Quiet (t ∷ ts)
case-quiet t ts h = word-miss (codes "finally") t (is-false (is_word (codes "finally") t.kind) (λ e. no-finally t.kind e h))
  where
    no-finally : (k : Kind5) → is_word (codes "finally") k ≡ true → (is_word (codes "case") k || is_word (codes "default") k || is_mark (codes "}") k || is_inserted k) ≡ true → ⊥
    no-finally (Word w) e g = absurd (false≢true (subst (λ v. (bytes_eq v (codes "case") || bytes_eq v (codes "default") || false || false) ≡ true) (same_bytes w (codes "finally") e) g))
    no-finally (Integer n) e g = absurd (false≢true e)
    no-finally (Text us) e g = absurd (false≢true e)
    no-finally (Punctuator p) e g = absurd (false≢true e)
    no-finally Inserted e g = absurd (false≢true e)

pub ends-quiet : (us : List Token5) → next_is ends_case us ≡ true → Quiet us
ends-quiet [] h = tt
ends-quiet (t ∷ ts) h = case-quiet t ts h

abbrev pub CasesRead : ℕ → Bool → Bool → List Token5 → List Case5 → List Token5 → Type 0
CasesRead n inside may ts xs us = Eventually (suc n) (λ n f r. Reads (cases (R f r) inside may n) xs ts us)

pub cases-none : {n : ℕ} (inside may : Bool) (c : Token5) (us : List Token5) → IsMark (codes "}") c → CasesRead n inside may (c ∷ us) [] us
unfolding cases
cases-none inside may c us p = once (λ n f r last. on-hit (mark (codes "}")) _ _ c c us last (mark-hit (codes "}") c p) (reads_ one))

abbrev case_of : Span → Option Expr5 → List Stat5 → Case5
case_of span test body = roll-Case5 (record { span = span; test = test; body = body })

pub case-reads : {n : ℕ} (inside may : Bool) (w : Token5) (ts : List Token5) (c : Token5) (us vs xs : List Token5) {y : Case5} {ys : List Case5} (x : Expr5) (ss : List Stat5) {span : Span} → y ≡ case_of span (Some x) ss → span ≡ across (w ∷ ts) vs → IsWord (codes "case") w → Claim n false 0 ts x (c ∷ us) → IsMark (codes ":") c → InCaseRead n inside us ss vs → next_is ends_case vs ≡ true → CasesRead n inside may vs ys xs → CasesRead n inside may (w ∷ ts) (y ∷ ys) xs
unfolding cases case_clause
case-reads inside may w ts c us vs xs {y = y'} x ss e' v u z p h e k = turn (pair (pair (open-sequence false ts (c ∷ us) z (closes-colon false us c p)) (begin {Q = λ n f r. Passes (in_case (R f r) inside (R f r).fuel) ss us vs} (h e) (λ n f r y. at-fuel' (λ m. in_case (R f r) inside m) ss us vs f r y))) k) (λ n f r y last.
    on-miss (mark (codes "}")) _ _ (w ∷ ts) last (mark-miss (codes "}") w (subst (λ j. is_mark (codes "}") j ≡ false) (sym u) refl)) (on-hit (word (codes "case")) _ _ w w ts last (word-hit (codes "case") w u)
    (bind-reads {x = y'} {M = λ i. Moves (record { tokens = w ∷ ts; last = last }) i} _ (bind-reads _ (y.0.0 w.end) (λ j m. bind-reads _ (take-mark (codes ":") c us j p) (λ j1 m1. bind-reads _ (y.0.1 j1) (λ j2 m2.
    done (placed (λ q. case_of q (Some x) ss) (then-goes (one {last = last} ⟫ m ⟫ m1) m2) e' v) (then-goes (one ⟫ m ⟫ m1) m2))))) (λ j m. bind-reads _ (y.1 j) (λ i m'. reads_ (m ⟫ m'))))))

pub default-reads : {n : ℕ} (inside : Bool) (w c : Token5) (us vs xs : List Token5) {y : Case5} {ys : List Case5} (ss : List Stat5) {span : Span} → y ≡ case_of span None ss → span ≡ across (w ∷ c ∷ us) vs → IsWord (codes "default") w → IsMark (codes ":") c → InCaseRead n inside us ss vs → next_is ends_case vs ≡ true → CasesRead n inside false vs ys xs → CasesRead n inside true (w ∷ c ∷ us) (y ∷ ys) xs
unfolding cases default_clause
default-reads inside w c us vs xs {y = y'} ss e' v u p h e k = turn (pair (begin {Q = λ n f r. Passes (in_case (R f r) inside (R f r).fuel) ss us vs} (h e) (λ n f r y. at-fuel' (λ m. in_case (R f r) inside m) ss us vs f r y)) k) (λ n f r y last.
    on-miss (mark (codes "}")) _ _ (w ∷ c ∷ us) last (mark-miss (codes "}") w (subst (λ j. is_mark (codes "}") j ≡ false) (sym u) refl)) (on-miss (word (codes "case")) _ _ (w ∷ c ∷ us) last (word-miss (codes "case") w (subst (λ j. is_word (codes "case") j ≡ false) (sym u) refl))
    (on-hit (word (codes "default")) _ _ w w (c ∷ us) last (word-hit (codes "default") w u)
    (bind-reads {x = y'} {M = λ i. Moves (record { tokens = w ∷ c ∷ us; last = last }) i} _ (bind-reads _ (take-mark (codes ":") c us w.end p) (λ j1 m1. bind-reads _ (y.0 j1) (λ j2 m2.
    done (placed (λ q. case_of q None ss) (then-goes (one {last = last} ⟫ m1) m2) e' v) (then-goes (one ⟫ m1) m2)))) (λ j m. bind-reads _ (y.1 j) (λ i m'. reads_ (m ⟫ m')))))))

pub cases-begin : {mode : Mode5} {inside may : Bool} {ts us : List Token5} {xs : _} → AreCases mode inside may ts xs us → next_is ends_case ts ≡ true
cases-begin (g.no_case {close = t} {ts = ts} p) = at-kind (λ u. next_is ends_case (u ∷ ts) ≡ true) t (Punctuator (codes "}")) p refl
cases-begin (g.case_clause {t = t} {ts = ts} _ _ _ _ _ w _ _ _ _) = at-kind (λ u. next_is ends_case (u ∷ ts) ≡ true) t (Word (codes "case")) w refl
cases-begin (g.default_clause {t = t} {colon = c} {ts = ts} _ _ _ _ w _ _ _) = at-kind (λ u. next_is ends_case (u ∷ c ∷ ts) ≡ true) t (Word (codes "default")) w refl

pub switch-reads : (n : ℕ) (inside : Bool) (w o : Token5) (ts : List Token5) (c b : Token5) (us vs : List Token5) {y : Stat5} (x : Expr5) (cs : List Case5) {span : Span} → y ≡ stat.Switch span x cs → span ≡ across (w ∷ o ∷ ts) vs → IsMark (codes "(") o → Opens n (λ m. Claim m false 0 ts x (c ∷ b ∷ us)) → IsMark (codes ")") c → IsMark (codes "{") b → Opens n (λ m. CasesRead m inside true us cs vs) → AfterWord n (λ i at. switch_statement i inside at) w (o ∷ ts) y vs
unfolding switch_statement
switch-reads n inside w o ts c b us vs x cs e v p h q s k = both (paren-reads n o ts c (b ∷ us) p h q) (inside_ n k (λ l a. pair opened (begin a (λ n f r y. at-fuel (λ m. cases (R f r) inside true m) cs us vs f r y)))) (λ n f r y z last.
    bind-reads _ (y w.end) (λ j m. bind-reads _ (group-hit (R f r) _ _ _ b us j (is-mark-true (codes "{") b s) z.0 (later one (z.1 b.end))) (λ i m'. done (placed (λ q'. stat.Switch q' x cs) (one {last = last} ⟫ m ⟫ m') e v) (one ⟫ m ⟫ m'))))

-- ## Try

pub record CatchClaim (n : ℕ) (inside : Bool) (ts : List Token5) (x : Catch5) (us : List Token5) : Type 0 where
  pub begins_catch : next_is (next_word (codes "catch")) ts ≡ true
  pub quiet : Quiet ts
  pub reads : Eventually n (λ n f r. Reads (handler (R f r) inside) x ts us)

abbrev catch_of : Span → Identifier5 → Block5 → Catch5
catch_of span x b = roll-Catch5 (record { span = span; parameter = x; body = b })

pub catch-claim : (n : ℕ) (inside : Bool) (t o : Token5) (ts : List Token5) (c : Token5) (us vs : List Token5) {y : Catch5} (x : Identifier5) (b : Block5) {span : Span} → y ≡ catch_of span x b → span ≡ across (t ∷ o ∷ ts) vs → IsWord (codes "catch") t → IsMark (codes "(") o → Opens n (λ m. Unit {0}) → IsIdentifier Exact ts x (c ∷ us) → IsMark (codes ")") c → BlockClaim n inside us b vs → CatchClaim n inside (t ∷ o ∷ ts) y vs
unfolding handler catch_parameter
catch-claim n inside t o ts c us vs x b e v w p h d q k = record {
  begins_catch = is-word-true (codes "catch") t w;
  quiet = quiet-kind t (o ∷ ts) (Word (codes "catch")) w refl;
  reads = both (inside_ n h (λ l u. opened)) k.reads (λ n f r a y last. bind-reads _ (take-word (codes "catch") t (o ∷ ts) last w) (λ j m. bind-reads {x = x} {M = λ i. Moves (record { tokens = o ∷ ts; last = j }) i} _ (group-hit (R f r) _ _ _ o ts j (is-mark-true (codes "(") o p) a
      (bind-reads _ (identifier-reads d o.end) (λ j1 m1. bind-reads _ (take-mark (codes ")") c us j1 q) (λ j2 m2. reads_ (one ⟫ m1 ⟫ m2))))) (λ j1 m1. bind-reads _ (y j1) (λ j2 m2. done (placed (λ z. catch_of z x b) (m ⟫ m1 ⟫ m2) e v) (m ⟫ m1 ⟫ m2)))));
}

pub try-catch-reads : {n : ℕ} (inside : Bool) (w : Token5) (ts us vs : List Token5) {y : Stat5} (b : Block5) (c : Catch5) {span : Span} → y ≡ stat.Try span b (Some c) None → span ≡ across (w ∷ ts) vs → BlockClaim n inside ts b us → CatchClaim n inside us c vs → Quiet vs → AfterWord n (λ i at. try_statement i inside at) w ts y vs
unfolding try_statement after_handler
try-catch-reads inside w ts us vs b c e v h k q = both h.reads k.reads (λ n f r x y last. bind-reads _ (x w.end) (λ j m. if-true _ _ _ us j k.begins_catch (bind-reads _ (y j) (λ i m'. on-miss (word (codes "finally")) _ _ vs i q
    (done (placed (λ z. stat.Try z b (Some c) None) (one {last = last} ⟫ m ⟫ m') e v) (one ⟫ m ⟫ m'))))))

pub try-finally-reads : {n : ℕ} (inside : Bool) (w : Token5) (ts : List Token5) (f : Token5) (us vs : List Token5) {y : Stat5} (b last_ : Block5) {span : Span} → y ≡ stat.Try span b None (Some last_) → span ≡ across (w ∷ ts) vs → BlockClaim n inside ts b (f ∷ us) → IsWord (codes "finally") f → BlockClaim n inside us last_ vs → AfterWord n (λ i at. try_statement i inside at) w ts y vs
unfolding try_statement only_finally
try-finally-reads inside w ts g us vs b last_ e v h u d = both h.reads d.reads (λ n f r x y last. bind-reads _ (x w.end) (λ j m. if-false (next_word (codes "catch")) (◌>>=◌ (handler (R f r) inside) (λ h. after_handler (R f r) inside w.begin b h)) (only_finally (R f r) inside w.begin b) (g ∷ us) j (subst (λ k. is_word (codes "catch") k ≡ false) (sym u) refl)
    (bind-reads _ (take-word (codes "finally") g us j u) (λ j1 m1. bind-reads _ (y j1) (λ j2 m2. done (placed (λ z. stat.Try z b None (Some last_)) (one {last = last} ⟫ m ⟫ m1 ⟫ m2) e v) (one ⟫ m ⟫ m1 ⟫ m2))))))

pub try-both-reads : {n : ℕ} (inside : Bool) (w : Token5) (ts us : List Token5) (f : Token5) (vs xs : List Token5) {y : Stat5} (b : Block5) (c : Catch5) (last_ : Block5) {span : Span} → y ≡ stat.Try span b (Some c) (Some last_) → span ≡ across (w ∷ ts) xs → BlockClaim n inside ts b us → CatchClaim n inside us c (f ∷ vs) → IsWord (codes "finally") f → BlockClaim n inside vs last_ xs → AfterWord n (λ i at. try_statement i inside at) w ts y xs
unfolding try_statement after_handler
try-both-reads inside w ts us g vs xs b c last_ e v h k u d = both h.reads (pair k.reads d.reads) (λ n f r x y last. bind-reads _ (x w.end) (λ j m. if-true _ _ _ us j k.begins_catch (bind-reads _ (y.0 j) (λ j1 m1.
    on-hit (word (codes "finally")) _ _ g g vs j1 (word-hit (codes "finally") g u) (bind-reads _ (y.1 g.end) (λ j2 m2. done (placed (λ z. stat.Try z b (Some c) (Some last_)) (one {last = last} ⟫ m ⟫ m1 ⟫ one ⟫ m2) e v) (one ⟫ m ⟫ m1 ⟫ one ⟫ m2)))))))

-- ## Empty statements, expressions and labels

pub empty-claim : {n : ℕ} (inside top : Bool) (t : Token5) (ts : List Token5) {x : Stat5} {span : Span} → x ≡ stat.Empty span → span ≡ across (t ∷ ts) ts → IsMark (codes ";") t → StatClaim n inside top (t ∷ ts) x ts
unfolding statement
empty-claim inside top t ts {x = x} e v p = record {
  first = at-kind (λ u. next_is ends_case (u ∷ ts) ≡ false) t (Punctuator (codes ";")) p refl;
  quiet = quiet-kind t ts (Punctuator (codes ";")) p refl;
  reads = λ q. always (λ n f r last. reads-as (at-kind (λ u. statement (R f r) inside top (record { tokens = u ∷ ts; last = last }) ≡ Took (stat.Empty (record { begin = u.begin; end = u.end })) (record { tokens = ts; last = u.end })) t (Punctuator (codes ";")) p refl)
      (done (placed (λ z. stat.Empty z) (one {t = t} {ts = ts} {last = last}) e v) one));
}

first-no-inserted : (k : Kind5) → First k → is_inserted k ≡ false
first-no-inserted (Word w) h = refl
first-no-inserted (Integer n) h = refl
first-no-inserted (Text us) h = refl
first-no-inserted (Punctuator p) h = refl
first-no-inserted Inserted h = elim (none h) [ ]
  where
    none : First Inserted → ⊥
    none (first_operand o) = elim o [ ]

first-no-case : (ts : List Token5) → BeginsFirst ts → next_is ends_case ts ≡ false
unfolding operand_words prefix_words operand_marks prefix_marks reserved_words
first-no-case ts (begins_first_at {t = t} h) = rw (first-no-word (codes "case") t.kind refl refl refl h, first-no-word (codes "default") t.kind refl refl refl h, first-no-mark (codes "}") t.kind refl refl h, first-no-inserted t.kind h) refl

first-no-finally : (ts : List Token5) → BeginsFirst ts → Quiet ts
unfolding operand_words prefix_words reserved_words
first-no-finally ts (begins_first_at {t = t} h) = word-miss (codes "finally") t (first-no-word (codes "finally") t.kind refl refl refl h)

abbrev Keyword : List ℕ → Type 0
Keyword v = (is_one_of v reserved_words ≡ true) × (is_one_of v operand_words ≡ false) × (is_one_of v prefix_words ≡ false)

no-keyword : (v : List ℕ) (ts : List Token5) → Keyword v → BeginsFirst ts → next_is (next_word v) ts ≡ false
no-keyword v ts k (begins_first_at {t = t} h) = first-no-word v t.kind k.0 k.1 k.2 h

misses-keyword : (v : List ℕ) (ts : List Token5) → Keyword v → BeginsFirst ts → Misses (word v) ts
misses-keyword v ts k (begins_first_at {t = t} h) = word-miss v t (first-no-word v t.kind k.0 k.1 k.2 h)

plain-first : {M : Input5 → Type 0} {x : Stat5} (inside top : Bool) (us : List Token5) (i : Inner5) (at : ℕ) (ts : List Token5) (last : ℕ) → BeginsFirst ts → next_is (next_word (codes "function")) ts ≡ false
    → ReadsOf M x us (expression_statement i inside at (record { tokens = ts; last = last })) → ReadsOf M x us (plain_statement i inside top at (record { tokens = ts; last = last }))
unfolding plain_statement operand_words prefix_words reserved_words
plain-first inside top us i at ts last h f x = if-false _ _ _ ts last f (if-false _ _ _ ts last (no-keyword (codes "with") ts (refl, refl, refl) h) x)

jump-first : {M : Input5 → Type 0} {x : Stat5} (inside top : Bool) (us : List Token5) (i : Inner5) (at : ℕ) (ts : List Token5) (last : ℕ) → BeginsFirst ts → next_is (next_word (codes "function")) ts ≡ false
    → ReadsOf M x us (expression_statement i inside at (record { tokens = ts; last = last })) → ReadsOf M x us (jump_statement i inside top at (record { tokens = ts; last = last }))
unfolding jump_statement operand_words prefix_words reserved_words
jump-first inside top us i at ts last h f x =
    on-miss (word (codes "continue")) _ _ ts last (misses-keyword (codes "continue") ts (refl, refl, refl) h) (on-miss (word (codes "break")) _ _ ts last (misses-keyword (codes "break") ts (refl, refl, refl) h)
    (on-miss (word (codes "throw")) _ _ ts last (misses-keyword (codes "throw") ts (refl, refl, refl) h) (on-miss (word (codes "debugger")) _ _ ts last (misses-keyword (codes "debugger") ts (refl, refl, refl) h)
    (choose-either inside _ _ (record { tokens = ts; last = last }) (λ e. on-miss (word (codes "return")) _ _ ts last (misses-keyword (codes "return") ts (refl, refl, refl) h) (plain-first inside top us i at ts last h f x)) (λ e. plain-first inside top us i at ts last h f x)))))

compound-first : {M : Input5 → Type 0} {x : Stat5} (inside top : Bool) (us : List Token5) (i : Inner5) (at : ℕ) (ts : List Token5) (last : ℕ) → BeginsFirst ts → next_is (next_word (codes "function")) ts ≡ false
    → ReadsOf M x us (expression_statement i inside at (record { tokens = ts; last = last })) → ReadsOf M x us (compound_statement i inside top at (record { tokens = ts; last = last }))
unfolding compound_statement operand_words prefix_words reserved_words
compound-first inside top us i at ts last h f x =
    on-miss (word (codes "do")) _ _ ts last (misses-keyword (codes "do") ts (refl, refl, refl) h) (on-miss (word (codes "while")) _ _ ts last (misses-keyword (codes "while") ts (refl, refl, refl) h)
    (on-miss (word (codes "for")) _ _ ts last (misses-keyword (codes "for") ts (refl, refl, refl) h) (on-miss (word (codes "switch")) _ _ ts last (misses-keyword (codes "switch") ts (refl, refl, refl) h)
    (on-miss (word (codes "try")) _ _ ts last (misses-keyword (codes "try") ts (refl, refl, refl) h) (jump-first inside top us i at ts last h f x)))))

-- a statement that begins with the first token of an expression is read as one
first-statement : {M : Input5 → Type 0} {x : Stat5} (inside top : Bool) (us : List Token5) (i : Inner5) (ts : List Token5) (last : ℕ) → BeginsFirst ts → next_is (next_mark (codes "{")) ts ≡ false → next_is (next_word (codes "function")) ts ≡ false
    → ReadsOf M x us (expression_statement i inside (begin_of ts) (record { tokens = ts; last = last })) → ReadsOf M x us (statement i inside top (record { tokens = ts; last = last }))
unfolding statement operand_words prefix_words operand_marks prefix_marks reserved_words
first-statement inside top us i ts last h brace function x =
    if-false _ _ _ ts last brace (if-false _ _ _ ts last (no-keyword (codes "if") ts (refl, refl, refl) h) (on-miss (mark (codes ";")) _ _ ts last (first-misses (codes ";") ts refl refl h)
    (on-miss (word (codes "var")) _ _ ts last (misses-keyword (codes "var") ts (refl, refl, refl) h) (compound-first inside top us i (begin_of ts) ts last h function x))))

end-or-label : (i : Inner5) (inside : Bool) (s : Input5) (o : Option Identifier5) (x : Expr5) (e : Token5) (us : List Token5) (last : ℕ) {y : Stat5} {span : Span} → y ≡ stat.Expression span x → span ≡ across s.tokens us → Moves s (record { tokens = e ∷ us; last = last }) → IsEnd e → ReadsOf (λ c. Moves s c) y us (label_or_end i inside (begin_of s.tokens) o x (record { tokens = e ∷ us; last = last }))
unfolding expression_end
end-or-label i inside s (Some z) x e us last q v m h = on-miss (mark (codes ":")) _ _ (e ∷ us) last (mark-miss (codes ":") e (end-false (is_mark (codes ":")) e.kind h refl refl)) (bind-reads _ (semicolon-reads i e us last h) (λ j m'. done (placed (λ b. stat.Expression b x) (m ⟫ m') q v) (m ⟫ m')))
end-or-label i inside s None x e us last q v m h = bind-reads _ (semicolon-reads i e us last h) (λ j m'. done (placed (λ b. stat.Expression b x) (m ⟫ m') q v) (m ⟫ m'))

next-mark-of : (p : List ℕ) (ts : List Token5) → begins (is_mark p) ts ≡ false → next_is (next_mark p) ts ≡ false
next-mark-of p [] h = refl
next-mark-of p (t ∷ ts) h = h

next-word-of : (w : List ℕ) (ts : List Token5) → begins (is_word w) ts ≡ false → next_is (next_word w) ts ≡ false
next-word-of w [] h = refl
next-word-of w (t ∷ ts) h = h

pub expression-claim : {n : ℕ} (inside top : Bool) (ts : List Token5) (e : Token5) (us : List Token5) {y : Stat5} (x : Expr5) {span : Span} → y ≡ stat.Expression span x → span ≡ across ts us → begins (is_mark (codes "{")) ts ≡ false → begins (is_word (codes "function")) ts ≡ false → Claim n false 0 ts x (e ∷ us) → IsEnd e → StatClaim n inside top ts y us
unfolding expression_statement
expression-claim inside top ts e us x q v b f c h = record {
  first = first-no-case ts c.first;
  quiet = first-no-finally ts c.first;
  reads = λ k. then_ (c.levels 0 sequence_level (omega arith) (closes-end false us e h)) (λ n f' r y last. first-statement inside top us (R f' r) ts last c.first (next-mark-of (codes "{") ts b) (next-word-of (codes "function") ts f)
      (bind-reads _ (y last) (λ j m. end-or-label (R f' r) inside (record { tokens = ts; last = last }) (label_of c.shape x) x e us j q v m h)));
}

name-labelled : (span : Span) (name : List ℕ) → label_of Bare (expr.Name span name) ≡ Some (identifier_of span name)
unfolding x5.out-Expr5 carrier.out
name-labelled span name = refl

label-then : (i : Inner5) (inside : Bool) (s : Input5) (o : Option Identifier5) (label : Identifier5) (x : Expr5) (c : Token5) (us vs : List Token5) (last : ℕ) {y : Stat5} (body : Stat5) {span : Span} → y ≡ stat.Labelled span label body → span ≡ across s.tokens vs → o ≡ Some label → Moves s (record { tokens = c ∷ us; last = last }) → IsMark (codes ":") c → Reads (i.statement inside false) body us vs → ReadsOf (λ d. Moves s d) y vs (label_or_end i inside (begin_of s.tokens) o x (record { tokens = c ∷ us; last = last }))
unfolding labelled
label-then i inside s o label x c us vs last {y = y} body q v e m p h = subst (λ z. ReadsOf (λ d. Moves s d) y vs (label_or_end i inside (begin_of s.tokens) z x (record { tokens = c ∷ us; last = last }))) (sym e)
    (on-hit (mark (codes ":")) _ _ c c us last (mark-hit (codes ":") c p) (bind-reads _ (h c.end) (λ j m'. done (placed (λ b. stat.Labelled b label body) (m ⟫ one ⟫ m') q v) (m ⟫ one ⟫ m'))))

pub labelled-claim : (n : ℕ) (inside top : Bool) (ts : List Token5) (c : Token5) (us vs : List Token5) {y : Stat5} (x : Identifier5) (s : Stat5) {span : Span} → y ≡ stat.Labelled span x s → span ≡ across ts vs → IsIdentifier Exact ts x (c ∷ us) → IsMark (codes ":") c → Opens n (λ m. StatClaim m inside false us s vs) → StatClaim n inside top ts y vs
unfolding expression_statement reserved_words
labelled-claim n inside top ts c us vs {y = y} x s {span = span} e v d p h = subst (λ zs. StatClaim n inside top zs y vs) (sym d.first) (record {
  first = first-no-case (d.token ∷ c ∷ us) begins_;
  quiet = first-no-finally (d.token ∷ c ∷ us) begins_;
  reads = λ q. both (name-sequence x.name d.token (c ∷ us) d.word d.free (closes-colon false us c p)) (inside_ n h (λ l a. open-statement inside false us vs a q)) (λ n f r a z last. first-statement inside top vs (R f r) (d.token ∷ c ∷ us) last begins_
      (subst (λ k. is_mark (codes "{") k ≡ false) (sym d.word) refl) (subst (λ k. is_word (codes "function") k ≡ false) (sym d.word) (not-reserved x.name (codes "function") d.free refl))
      (bind-reads _ (a last) (λ j m. label-then (R f r) inside (record { tokens = d.token ∷ c ∷ us; last = last }) _ x _ c us vs j s e (subst (λ zs. span ≡ across zs vs) d.first v) (name-labelled (across (d.token ∷ c ∷ us) (c ∷ us)) x.name ∙ ap (λ w. Some (identifier_of w x.name)) (sym placed_)) m p z)));
})
  where
    begins_ : BeginsFirst (d.token ∷ c ∷ us)
    begins_ = begins_first_at (subst (λ k. First k) (sym d.word) (first_operand (operand_name d.free)))

    placed_ : x.span ≡ across (d.token ∷ c ∷ us) (c ∷ us)
    placed_ = subst (λ zs. x.span ≡ across zs (c ∷ us)) d.first d.spans

-- ## Programs

abbrev pub ProgramRead : ℕ → List Token5 → List Stat5 → Type 0
ProgramRead n ts xs = Eventually n (λ n f r. Passes (program (R f r) n) xs ts [])

pub program-none : {n : ℕ} → ProgramRead n [] []
unfolding program
program-none = once (λ n f r last. reads_ (stays _))

-- a statement takes a token
moves-nowhere : {A : Type 0} {x : A} {us : List Token5} {last : ℕ} {o : Outcome5 A} → ReadsOf (λ c. Moves (record { tokens = []; last = last }) c) x us o → ⊥
moves-nowhere (reads_ m) = nothing m.all
  where
    nothing : {t : Token5} {ts : List Token5} → [] ≡ t ∷ ts → ⊥
    nothing e = cc

begins-nowhere : {n : ℕ} {x : Stat5} {us : List Token5} → Eventually n (λ n f r. Reads (statement (R f r) false true) x [] us) → ⊥
begins-nowhere {n = n} h = moves-nowhere (h.reads h.bound h.bound n (self h.bound) (self h.bound) (self n) 0)
  where
    self : (n : ℕ) → n ≤ n
    self n = omega arith

pub program-next : {n : ℕ} (ts us : List Token5) {x : Stat5} {xs : List Stat5} → StatClaim n false true ts x us → Quiet us → ProgramRead n us xs → ProgramRead n ts (x ∷ xs)
unfolding program
program-next [] us x q h = absurd (begins-nowhere (x.reads q))
program-next (t ∷ ts) us x q h = turn (pair (x.reads q) h) (λ n f r y last. passes-of (bind-reads _ (y.0 last) (λ j m. bind-reads _ (y.1 j) (λ i m'. reads_ (then-goes m m')))))
