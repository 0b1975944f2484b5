-- Switch and try statements that are derived are read exactly so, if their parts are.
use Rattle.std.proofs.Common.{◌≡◌, ℕ, Bool, true, false, ◌||◌, List, [], ◌∷◌, Some, None, refl, sym, ap, subst, ◌∙◌}
use Rattle.std.proofs.lemmas.Bool.{false≢true}
use Rattle.std.specs.Prelude.{codes}
use Rattle.std.specs.Str.{bytes_eq}
use Rattle.es6_lexer.specs.declared.token.TokenKind.TheVariants as kinds
use Rattle.es6_lexer.specs.declared.token.Punctuator.TheVariants as marks
use Rattle.es6_ast.specs.declared.tree.Expression.{Expression}
use Rattle.es6_ast.specs.declared.tree.Statement.{Statement}
use Rattle.es6_ast.specs.declared.tree.Statement.TheVariants as stat
use Rattle.es6_ast.specs.declared.tree.Pattern.{Pattern}
use Rattle.es6_ast.specs.declared.tree.Block.{Block}
use Rattle.es6_ast.specs.declared.tree.Case.{Case, roll-Case}
use Rattle.es6_ast.specs.declared.tree.Catch.{Catch, roll-Catch}
use Rattle.es6_ast.specs.declared.settings.Flags.{Flags}
use Rattle.es6_ast.specs.declared.settings.Stand.TheVariants.{Listed}
use Rattle.es6_ast.specs.Tokens.{Filling, Read, Inserted, Filled, IsWord, IsMark, is_word, across}
use Rattle.es6_ast.specs.Grammar as g
use Rattle.es6_ast.specs.Grammar.{with_in, AreCases}
use Rattle.es6_reading.specs.Parser.{Parser, choose, if_next, next_is, is_mark, mark, word, next_word}
use Rattle.es6_reading.specs.Statements.{is_inserted, ends_case, in_case, case_clause, default_clause, cases, switch_statement, catch_parameter, handler, after_handler, only_finally, try_statement}
use Rattle.es6_reading.specs.Modules.{readers}
use Rattle.es6_reading.proofs.Meanings.{same_bytes, is-mark-true}
use Rattle.es6_reading.proofs.Spans.{◌⟫◌, span-across}
use Rattle.es6_reading.proofs.Derived.{one}
use Rattle.es6_reading.proofs.Reading.{Eventually, always, both, pair, deeper, turn, begin}
use Rattle.es6_reading.proofs.Exactly.{ReadsExactly, ReadsOnward, done, and_then, and_on, later, hit, miss, take, if-yes, if-no, group-in, nothing-taken, onward-of, mark-hit, word-hit, is-word-true}
use Rattle.es6_reading.proofs.CompleteTokens.{at-kind, is-false, word-miss, closes-colon, colon-ends-yield, ends-yield}
use Rattle.es6_reading.proofs.CompleteImports.{R, readers-fuel, at-fuel, opened, word-no-mark, word-no-word}
use Rattle.es6_reading.proofs.CompleteClaims.{Claim, open-sequence}
use Rattle.es6_reading.proofs.CompleteStatements.{Quiet, quiet-kind, StatementClaim, open-statement, AfterWord, BlockClaim, BindingRead, paren-reads}

-- ## Switch (13.12)

abbrev pub InCaseRead : Flags → List Filled → List Statement → List Filled → Type 0
InCaseRead f ts ss us = next_is ends_case us ≡ true → Eventually (λ n k r. ReadsOnward (in_case (R k r) f n) ss ts us)

pub if-is-yes : {A : Type 0} (test : Filled → Bool) (p q : Parser A) (ts : List Filled) (last : ℕ) → next_is test ts ≡ true → if_next test p q (record { tokens = ts; last = last }) ≡ p (record { tokens = ts; last = last })
if-is-yes test p q ts last e = ap (λ w. choose w p q (record { tokens = ts; last = last })) e

pub in-case-none : (f : Flags) (us : List Filled) → InCaseRead f us [] us
unfolding in_case
in-case-none f us e = turn (always {P = λ n k r. Unit {0}} (λ n k r. tt)) (λ n k r _ last. nothing-taken (if-is-yes ends_case _ _ us last e))

pub in-case-next : (f : Flags) {ts us vs : List Filled} {s : Statement} {ss : List Statement} → StatementClaim f Listed ts us s → (next_is ends_case vs ≡ true → Quiet us) → InCaseRead f us ss vs → InCaseRead f ts (s ∷ ss) vs
unfolding in_case
in-case-next f {ts = ts} c q h e = turn (pair (open-statement c (q e)) (h e)) (λ n k r y last. onward-of (if-no ends_case _ _ ts last c.first (and_then _ (y.0 last) (λ end mv. and_on _ mv (y.1 end) (λ end' mv'. done refl mv')))))

case-quiet : (t : Filled) (ts : List Filled) → next_is ends_case (t ∷ ts) ≡ true → Quiet (t ∷ ts)
case-quiet t ts h = word-miss (codes "finally") t (is-false (is_word (codes "finally") t.kind) (λ e. no-finally t.kind e h))
  where
    no-finally : (k : Filling) → is_word (codes "finally") k ≡ true → (is_word (codes "case") k || is_word (codes "default") k || is_mark marks.RightBrace k || is_inserted k) ≡ true → ⊥
    no-finally (Read (kinds.Word w)) e h = absurd (false≢true (subst (λ v. (bytes_eq v (codes "case") || bytes_eq v (codes "default") || false || false) ≡ true) (same_bytes w (codes "finally") e) h))
    no-finally (Read k) e h = absurd (false≢true e)
    no-finally (Inserted d) e h = absurd (false≢true e)

pub ends-quiet : (us : List Filled) → next_is ends_case us ≡ true → Quiet us
ends-quiet [] h = tt
ends-quiet (t ∷ ts) h = case-quiet t ts h

abbrev pub CasesRead : Flags → Bool → List Filled → List Case → List Filled → Type 0
CasesRead f may ts cs us = Eventually (λ n k r. ReadsExactly (cases (R k r) f may n) cs ts us)

pub cases-none : (f : Flags) (may : Bool) {c : Filled} {us : List Filled} → IsMark marks.RightBrace c → CasesRead f may (c ∷ us) [] us
unfolding cases
cases-none f may {c = c} {us = us} p = turn (always {P = λ n k r. Unit {0}} (λ n k r. tt)) (λ n k r _ last. hit (mark marks.RightBrace) _ _ c c us last (mark-hit marks.RightBrace c p) (done refl one))

all-turns : (f : Flags) (ss : List Statement) (us vs : List Filled) (k r : ℕ) → ReadsOnward (in_case (R k r) f k) ss us vs → ReadsOnward (in_case (R k r) f (R k r).fuel) ss us vs
all-turns f ss us vs k r h = subst (λ n. ReadsOnward (in_case (R k r) f n) ss us vs) (sym (readers-fuel k r)) h

in-case-begins : (f : Flags) {us vs : List Filled} {ss : List Statement} → InCaseRead f us ss vs → next_is ends_case vs ≡ true → Eventually (λ n k r. ReadsOnward (in_case (R k r) f (R k r).fuel) ss us vs)
in-case-begins f {us = us} {vs = vs} {ss = ss} h e = begin (h e) (λ n k r y. all-turns f ss us vs k r y)

pub case-reads : (f : Flags) (may : Bool) {w c : Filled} {ts us vs ws : List Filled} {test : Expression} {ss : List Statement} {x : Case} {cs : List Case} → IsWord (codes "case") w → Claim (with_in f) 0 ts (c ∷ us) test → IsMark marks.Colon c → InCaseRead f us ss vs → next_is ends_case vs ≡ true
    → x ≡ roll-Case (record { span = across (w ∷ ts) vs; test = Some test; body = ss }) → CasesRead f may vs cs ws → CasesRead f may (w ∷ ts) (x ∷ cs) ws
unfolding cases case_clause
case-reads f may {w = w} {c = c} {ts = ts} {us = us} {vs = vs} {test = test} {ss = ss} u y p h e q m = turn (pair (pair (open-sequence y (closes-colon (with_in f) us c p) (ends-yield 0 c us (colon-ends-yield c p))) (in-case-begins f h e)) m) (λ n k r z last.
    miss (mark marks.RightBrace) _ _ (w ∷ ts) last (word-no-mark marks.RightBrace (codes "case") w u) (hit (word (codes "case")) _ _ w w ts last (word-hit (codes "case") w u)
    (and_then _ (and_then _ (later one (z.0.0 w.span.end)) (λ end mv. take (mark marks.Colon) _ c c us end (mark-hit marks.Colon c p) (and_on _ (mv ⟫ one) (z.0.1 c.span.end) (λ end' mv'.
    done (ap (λ s. roll-Case (record { span = s; test = Some test; body = ss })) (span-across mv') ∙ sym q) mv')))) (λ end mv. and_then _ (later mv (z.1 end)) (λ end' mv'. done refl mv')))))

pub default-reads : (f : Flags) {w c : Filled} {us vs ws : List Filled} {ss : List Statement} {x : Case} {cs : List Case} → IsWord (codes "default") w → IsMark marks.Colon c → InCaseRead f us ss vs → next_is ends_case vs ≡ true
    → x ≡ roll-Case (record { span = across (w ∷ c ∷ us) vs; test = None; body = ss }) → CasesRead f false vs cs ws → CasesRead f true (w ∷ c ∷ us) (x ∷ cs) ws
unfolding cases default_clause
default-reads f {w = w} {c = c} {us = us} {vs = vs} {ss = ss} u p h e q m = turn (pair (in-case-begins f h e) m) (λ n k r z last.
    miss (mark marks.RightBrace) _ _ (w ∷ c ∷ us) last (word-no-mark marks.RightBrace (codes "default") w u) (miss (word (codes "case")) _ _ (w ∷ c ∷ us) last (word-no-word (codes "case") (codes "default") w u refl) (hit (word (codes "default")) _ _ w w (c ∷ us) last (word-hit (codes "default") w u)
    (and_then _ (take (mark marks.Colon) _ c c us w.span.end (mark-hit marks.Colon c p) (and_on _ (one ⟫ one) (z.0 c.span.end) (λ end' mv'.
    done (ap (λ s. roll-Case (record { span = s; test = None; body = ss })) (span-across mv') ∙ sym q) mv'))) (λ end mv. and_then _ (later mv (z.1 end)) (λ end' mv'. done refl mv'))))))

pub cases-begin : {f : Flags} {may : Bool} {ts us : List Filled} {cs : List Case} → AreCases f may ts cs us → next_is ends_case ts ≡ true
cases-begin (g.no_case {close = t} p) = at-kind (λ u. ends_case u ≡ true) t _ p refl
cases-begin (g.case_clause {t = t} _ _ _ _ w _ _ _ _ _) = at-kind (λ u. ends_case u ≡ true) t _ w refl
cases-begin (g.default_clause {t = t} _ _ _ w _ _ _ _) = at-kind (λ u. ends_case u ≡ true) t _ w refl

pub switch-reads : (f : Flags) {t o c b : Filled} {ts us vs : List Filled} {subject : Expression} {cs : List Case} {x : Statement} → IsMark marks.LeftParenthesis o → Claim (with_in f) 0 ts (c ∷ b ∷ us) subject → IsMark marks.RightParenthesis c → IsMark marks.LeftBrace b → CasesRead f true us cs vs
    → x ≡ stat.Switch (across (t ∷ o ∷ ts) vs) subject cs → AfterWord (λ i at. switch_statement i f at) t (o ∷ ts) x vs
unfolding switch_statement
switch-reads f {t = t} {b = b} {us = us} {vs = vs} {subject = subject} {cs = cs} p y q s m e = both (pair opened (paren-reads f p y q)) (begin m (λ n k r z. at-fuel (λ j. cases (R k r) f true j) cs us vs k r z)) (λ n k r a z last.
    and_then _ (later one (a.1 t.span.end)) (λ end mv. and_then _ (group-in (R k r) marks.LeftBrace _ _ b us end (is-mark-true marks.LeftBrace b s) a.0 (later (mv ⟫ one) (z b.span.end))) (λ end' mv'.
    done (ap (λ v. stat.Switch v subject cs) (span-across mv') ∙ sym e) mv')))

-- ## Try (13.15)

pub record CatchClaim (f : Flags) (ts us : List Filled) (c : Catch) : Type 0 where
  pub begins_catch : next_is (next_word (codes "catch")) ts ≡ true
  pub quiet : Quiet ts
  pub reads : Eventually (λ n k r. ReadsExactly (handler (R k r) f) c ts us)

open-target : (f : Flags) {ts us : List Filled} {y : Pattern} → BindingRead f ts y us → Eventually (λ n k r. ReadsExactly ((R k r).target f) y ts us)
unfolding readers
open-target f h = deeper h (λ n k r z. z)

pub catch-claim : (f : Flags) {t o c : Filled} {ts us vs : List Filled} {y : Pattern} {b : Block} {x : Catch} → IsWord (codes "catch") t → IsMark marks.LeftParenthesis o → BindingRead (with_in f) ts y (c ∷ us) → IsMark marks.RightParenthesis c → BlockClaim f us vs b
    → x ≡ roll-Catch (record { span = across (t ∷ o ∷ ts) vs; parameter = y; body = b }) → CatchClaim f (t ∷ o ∷ ts) vs x
unfolding handler catch_parameter
catch-claim f {t = t} {o = o} {c = c} {ts = ts} {us = us} {y = y} {b = b} w p d q h e = record {
  begins_catch = is-word-true (codes "catch") t w;
  quiet = quiet-kind t (o ∷ ts) _ w refl;
  reads = both (pair opened (open-target (with_in f) d)) h.reads (λ n k r a z last. take (word (codes "catch")) _ t t (o ∷ ts) last (word-hit (codes "catch") t w)
      (and_then _ (group-in (R k r) marks.LeftParenthesis _ _ o ts t.span.end (is-mark-true marks.LeftParenthesis o p) a.0 (and_then _ (later (one ⟫ one) (a.1 o.span.end)) (λ end mv. take (mark marks.RightParenthesis) _ c c us end (mark-hit marks.RightParenthesis c q) (done refl (mv ⟫ one)))))
      (λ end mv. and_then _ (later mv (z end)) (λ end' mv'. done (ap (λ s. roll-Catch (record { span = s; parameter = y; body = b })) (span-across mv') ∙ sym e) mv'))));
}

pub try-catch-reads : (f : Flags) {t : Filled} {ts us vs : List Filled} {b : Block} {c : Catch} {x : Statement} → BlockClaim f ts us b → CatchClaim f us vs c → x ≡ stat.Try (across (t ∷ ts) vs) b (Some c) None → Quiet vs → AfterWord (λ i at. try_statement i f at) t ts x vs
unfolding try_statement after_handler
try-catch-reads f {t = t} {us = us} {vs = vs} {b = b} {c = c} h d e q = both h.reads d.reads (λ n k r y z last. and_then _ (later one (y t.span.end)) (λ end mv. if-yes (next_word (codes "catch")) _ _ us end d.begins_catch
    (and_then _ (later mv (z end)) (λ end' mv'. miss (word (codes "finally")) _ _ vs end' q (done (ap (λ s. stat.Try s b (Some c) None) (span-across mv') ∙ sym e) mv')))))

pub try-finally-reads : (f : Flags) {t w : Filled} {ts us vs : List Filled} {b l : Block} {x : Statement} → BlockClaim f ts (w ∷ us) b → IsWord (codes "finally") w → BlockClaim f us vs l → x ≡ stat.Try (across (t ∷ ts) vs) b None (Some l) → AfterWord (λ i at. try_statement i f at) t ts x vs
unfolding try_statement only_finally
try-finally-reads f {t = t} {w = w} {us = us} {b = b} {l = l} h u d e = both h.reads d.reads (λ n k r y z last. and_then _ (later one (y t.span.end)) (λ end mv. if-no (next_word (codes "catch")) _ _ (w ∷ us) end (at-kind (λ v. next_word (codes "catch") v ≡ false) w _ u refl)
    (take (word (codes "finally")) _ w w us end (word-hit (codes "finally") w u) (and_then _ (later (mv ⟫ one) (z w.span.end)) (λ end' mv'. done (ap (λ s. stat.Try s b None (Some l)) (span-across mv') ∙ sym e) mv')))))

pub try-both-reads : (f : Flags) {t w : Filled} {ts us vs ws : List Filled} {b l : Block} {c : Catch} {x : Statement} → BlockClaim f ts us b → CatchClaim f us (w ∷ vs) c → IsWord (codes "finally") w → BlockClaim f vs ws l → x ≡ stat.Try (across (t ∷ ts) ws) b (Some c) (Some l) → AfterWord (λ i at. try_statement i f at) t ts x ws
unfolding try_statement after_handler
try-both-reads f {t = t} {w = w} {us = us} {vs = vs} {b = b} {l = l} {c = c} h d u m e = both h.reads (pair d.reads m.reads) (λ n k r y z last. and_then _ (later one (y t.span.end)) (λ end mv. if-yes (next_word (codes "catch")) _ _ us end d.begins_catch
    (and_then _ (later mv (z.0 end)) (λ end' mv'. hit (word (codes "finally")) _ _ w w vs end' (word-hit (codes "finally") w u) (and_then _ (later (mv' ⟫ one) (z.1 w.span.end)) (λ end'' mv''. done (ap (λ s. stat.Try s b (Some c) (Some l)) (span-across mv'') ∙ sym e) mv''))))))
