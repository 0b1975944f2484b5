-- Loops and jumps that are derived are read exactly so, if their parts are.
use Rattle.std.proofs.Common.{◌≡◌, ℕ, Bool, true, false, ◌&&◌, ◌||◌, not, List, ◌∷◌, Option, Some, None, refl, sym, ap, subst, ◌∙◌, arith}
use Rattle.std.proofs.lemmas.Bool.{false≢true, true≢false}
use Rattle.std.specs.Prelude.{codes}
use Rattle.es_outside.specs.HostNames.{reserved_words}
use Rattle.es6_lexer.specs.declared.token.TokenKind.TheVariants as kinds
use Rattle.es6_lexer.specs.declared.token.Punctuator.TheVariants as marks
use Rattle.es6_ast.specs.declared.tree.Identifier.{Identifier}
use Rattle.es6_ast.specs.declared.tree.Expression.{Expression}
use Rattle.es6_ast.specs.declared.tree.Statement.{Statement}
use Rattle.es6_ast.specs.declared.tree.Statement.TheVariants as stat
use Rattle.es6_ast.specs.declared.settings.Flags.{Flags}
use Rattle.es6_ast.specs.declared.settings.Stand.TheVariants.{Under}
use Rattle.es6_ast.specs.Tokens.{Filling, Read, Inserted, Filled, IsWord, IsMark, IsOnLine, across, is_identifier}
use Rattle.es6_ast.specs.Grammar as g
use Rattle.es6_ast.specs.Grammar.{with_in, IsEnd, IsDoWhileEnd, ends, IsName, IsLabel}
use Rattle.es6_reading.specs.Parser.{word, ends_block, Inner, inserts_anywhere, refused, choose, on_taken, kept_if, after, Took, Parser, semicolon_of_do_while}
use Rattle.es6_reading.specs.Words.{name_if, free_name, free_name_in, unary_operators, operand_words, begins_operand, begins_unary, begins_expression}
use Rattle.es6_reading.specs.Statements.{do_statement, while_statement, label_if, label_at, optional_label, continue_statement, break_statement, is_inserted, goes_on, returned, return_statement, begins_line, throw_statement, debugger_statement}
use Rattle.es6_reading.proofs.Spans.{◌⟫◌, span-across}
use Rattle.es6_reading.proofs.Derived.{one}
use Rattle.es6_reading.proofs.Reading.{on-miss-is, always, then_, both}
use Rattle.es6_reading.proofs.Exactly.{Exactly, ReadsOnward, equal, done, and_then, and_on, later, hit, take, if-yes, if-no, nothing-taken, onward-of, word-hit, end-semicolon}
use Rattle.es6_reading.proofs.CompleteTokens.{at-kind, is-false, closes-end}
use Rattle.es6_reading.proofs.CompleteImports.{R}
use Rattle.es6_reading.proofs.CompleteLevels.{sequence_level}
use Rattle.es6_reading.proofs.CompleteClaims.{Claim}
use Rattle.es6_reading.proofs.CompleteStatements.{Quiet, quiet-kind, StatementClaim, open-statement, end-yields, AfterWord, paren-reads}

-- ## Loops with a test

end-do-while : {x : Statement} {s : _} {us : List Filled} (i : Inner) (q : Unit {0} → Parser Statement) (t : Filled) (ts : List Filled) (last : ℕ) → IsDoWhileEnd t → Exactly x s us (q tt (record { tokens = ts; last = t.span.end })) → Exactly x s us (after (semicolon_of_do_while i (record { tokens = t ∷ ts; last = last })) q)
unfolding semicolon_of_do_while
end-do-while i q t ts last h r = equal (ap (λ o. after o q) (ap (λ b. on_taken (kept_if b t) t ts (λ u c. Took tt c) (choose i.inserting inserts_anywhere refused) (record { tokens = t ∷ ts; last = last })) h)) r

pub do-reads : (f : Flags) {t w o c e : Filled} {ts us vs : List Filled} {body x : Statement} {test : Expression} → StatementClaim f Under ts (w ∷ o ∷ us) body → IsWord (codes "while") w → IsMark marks.LeftParenthesis o → Claim (with_in f) 0 us (c ∷ e ∷ vs) test → IsMark marks.RightParenthesis c → IsDoWhileEnd e
    → x ≡ stat.DoWhile (across (t ∷ ts) vs) body test → AfterWord (λ i at. do_statement i f at) t ts x vs
unfolding do_statement
do-reads f {t = t} {w = w} {o = o} {e = e} {us = us} {vs = vs} {body = body} {test = test} s u p y q h k = both (open-statement s (quiet-kind w (o ∷ us) _ u refl)) (paren-reads f p y q) (λ n k' r z z' last.
    and_then _ (later one (z t.span.end)) (λ end mv. take (word (codes "while")) _ w w (o ∷ us) end (word-hit (codes "while") w u) (and_then _ (later (mv ⟫ one) (z' w.span.end)) (λ end' mv'.
    end-do-while (R k' r) _ e vs end' h (done (ap (λ v. stat.DoWhile v body test) (span-across (mv' ⟫ one)) ∙ sym k) (mv' ⟫ one))))))

pub while-reads : (f : Flags) {t o c : Filled} {ts us vs : List Filled} {test : Expression} {body x : Statement} → IsMark marks.LeftParenthesis o → Claim (with_in f) 0 ts (c ∷ us) test → IsMark marks.RightParenthesis c → StatementClaim f Under us vs body
    → x ≡ stat.While (across (t ∷ o ∷ ts) vs) test body → Quiet vs → AfterWord (λ i at. while_statement i f at) t (o ∷ ts) x vs
unfolding while_statement
while-reads f {t = t} {test = test} {body = body} p y q s k l = both (paren-reads f p y q) (open-statement s l) (λ n k' r z z' last. and_then _ (later one (z t.span.end)) (λ end mv. and_then _ (later mv (z' end)) (λ end' mv'.
    done (ap (λ v. stat.While v test body) (span-across mv') ∙ sym k) mv')))

-- ## Labels

abbrev pub LabelRead : List Filled → Option Identifier → List Filled → Type 0
LabelRead ts label us = ReadsOnward optional_label label ts us

no-label-here : (a : Bool) (o : Option (List ℕ)) → o ≡ None → label_if a o ≡ None
no-label-here true o h = refl
no-label-here false o h = h

end-no-name : (k : Filling) → ends false k ≡ true → free_name_in k ≡ None
end-no-name (Inserted d) h = refl
end-no-name (Read (kinds.Word name)) h = absurd (false≢true h)
end-no-name (Read k) h = refl

label-if-false : (a : Bool) (o : Option (List ℕ)) → a ≡ false → label_if a o ≡ o
label-if-false true o h = absurd (true≢false h)
label-if-false false o h = refl

label-token : (t : Filled) (name : List ℕ) → IsOnLine t → IsWord name t → is_identifier name ≡ true → label_at t ≡ Some name
label-token t name a w h = label-if-false t.newline (free_name t) a ∙ at-kind (λ u. free_name u ≡ Some name) t _ w (ap (λ b. name_if b name) h)

no-label-reads : {e : Filled} {us : List Filled} → IsEnd e → LabelRead (e ∷ us) None (e ∷ us)
unfolding optional_label
no-label-reads {e = e} {us = us} h last = nothing-taken (on-miss-is label_at _ _ (e ∷ us) last (no-label-here e.newline (free_name e) (end-no-name e.kind h)))

name-label-reads : {t : Filled} {ts us : List Filled} {n : Identifier} → IsOnLine t → IsName (t ∷ ts) n us → LabelRead (t ∷ ts) (Some n) us
unfolding optional_label
name-label-reads {t = t} {ts = ts} a (g.name name w h k) last = onward-of (hit label_at _ _ t name ts last (label-token t name a w h) (done (ap (λ m. Some m) (sym k)) one))

pub label-of : {e : Filled} {ts bs us : List Filled} {label : Option Identifier} → IsLabel ts label bs → bs ≡ e ∷ us → IsEnd e → LabelRead ts label (e ∷ us)
label-of {e = e} {us = us} g.no_label q h = subst (λ zs. LabelRead zs None (e ∷ us)) (sym q) (no-label-reads h)
label-of {ts = ts} (g.label n a d) q h = subst (λ zs. LabelRead ts (Some n) zs) q (name-label-reads a d)

pub continue-reads : {t e : Filled} {ts us : List Filled} {label : Option Identifier} {x : Statement} → LabelRead ts label (e ∷ us) → IsEnd e → x ≡ stat.Continue (across (t ∷ ts) us) label → AfterWord (λ i at. continue_statement i at) t ts x us
unfolding continue_statement
continue-reads {t = t} {e = e} {us = us} {label = label} l h k = always (λ n k' r last. and_on _ one (l t.span.end) (λ end mv. end-semicolon (R k' r) _ e us end h (done (ap (λ v. stat.Continue v label) (span-across (mv ⟫ one)) ∙ sym k) (mv ⟫ one))))

pub break-reads : {t e : Filled} {ts us : List Filled} {label : Option Identifier} {x : Statement} → LabelRead ts label (e ∷ us) → IsEnd e → x ≡ stat.Break (across (t ∷ ts) us) label → AfterWord (λ i at. break_statement i at) t ts x us
unfolding break_statement
break-reads {t = t} {e = e} {us = us} {label = label} l h k = always (λ n k' r last. and_on _ one (l t.span.end) (λ end mv. end-semicolon (R k' r) _ e us end h (done (ap (λ v. stat.Break v label) (span-across (mv ⟫ one)) ∙ sym k) (mv ⟫ one))))

-- ## Values that are returned or thrown

goes-not : (a b c d : Bool) → b ≡ true → not (a || b || c || d) ≡ false
goes-not true b c d h = refl
goes-not false b c d h = rw h refl

pub return-bare-reads : (f : Flags) {t e : Filled} {ts : List Filled} {x : Statement} → IsEnd e → x ≡ stat.Return (across (t ∷ e ∷ ts) ts) None → AfterWord (λ i at. return_statement i f at) t (e ∷ ts) x ts
unfolding return_statement returned
return-bare-reads f {t = t} {e = e} {ts = ts} h k = always (λ n k' r last. and_then _ (if-no goes_on _ _ (e ∷ ts) t.span.end (goes-not e.newline (ends false e.kind) (ends_block e.kind) (is_inserted e.kind) h) (done refl one)) (λ end mv.
    end-semicolon (R k' r) _ e ts end h (done (ap (λ v. stat.Return v None) (span-across (mv ⟫ one)) ∙ sym k) (mv ⟫ one))))

pub begins-no-end : (f : Flags) (t : Filled) → begins_expression f t ≡ true → (ends false t.kind || ends_block t.kind || is_inserted t.kind) ≡ false
unfolding begins_expression begins_unary begins_operand reserved_words operand_words unary_operators
begins-no-end f t h = is-false (ends false t.kind || ends_block t.kind || is_inserted t.kind) (λ e. at t.kind refl e)
  where
    and-no : (b : Bool) → (b && false) ≡ false
    and-no true = refl
    and-no false = refl

    none : (k : Filling) → t.kind ≡ k → begins_expression f (record { kind = k; span = t.span; newline = t.newline }) ≡ false → ⊥
    none k e n = false≢true (sym n ∙ subst (λ j. begins_expression f (record { kind = j; span = t.span; newline = t.newline }) ≡ true) e h)

    at : (k : Filling) → t.kind ≡ k → (ends false k || ends_block k || is_inserted k) ≡ true → ⊥
    at (Inserted d) e n = none (Inserted d) e (and-no f.has_yield)
    at (Read (kinds.Punctuator marks.Semicolon)) e n = none _ e (and-no f.has_yield)
    at (Read (kinds.Punctuator marks.RightBrace)) e n = none _ e (and-no f.has_yield)
    at (Read kinds.End) e n = none _ e (and-no f.has_yield)
    at (Read k) e n = false≢true n

goes-first : (f : Flags) (t : Filled) → IsOnLine t → begins_expression f t ≡ true → goes_on t ≡ true
goes-first f t a h = rw a (ap not (begins-no-end f t h))

pub return-value-reads : (f : Flags) {t u e : Filled} {ts us : List Filled} {value : Expression} {x : Statement} → IsOnLine u → Claim (with_in f) 0 (u ∷ ts) (e ∷ us) value → IsEnd e → x ≡ stat.Return (across (t ∷ u ∷ ts) us) (Some value) → AfterWord (λ i at. return_statement i f at) t (u ∷ ts) x us
unfolding return_statement returned
return-value-reads f {t = t} {u = u} {e = e} {ts = ts} {us = us} {value = value} a c h k = then_ (c.levels 0 sequence_level (omega arith) (closes-end (with_in f) us e h) (end-yields 0 us e h)) (λ n k' r z last.
    and_then _ (if-yes goes_on _ _ (u ∷ ts) t.span.end (goes-first (with_in f) u a c.begins) (and_then _ (later one (z t.span.end)) (λ end mv. done refl mv))) (λ end mv.
    end-semicolon (R k' r) _ e us end h (done (ap (λ v. stat.Return v (Some value)) (span-across (mv ⟫ one)) ∙ sym k) (mv ⟫ one))))

pub throw-reads : (f : Flags) {t u e : Filled} {ts us : List Filled} {value : Expression} {x : Statement} → IsOnLine u → Claim (with_in f) 0 (u ∷ ts) (e ∷ us) value → IsEnd e → x ≡ stat.Throw (across (t ∷ u ∷ ts) us) value → AfterWord (λ i at. throw_statement i f at) t (u ∷ ts) x us
unfolding throw_statement
throw-reads f {t = t} {u = u} {e = e} {ts = ts} {us = us} {value = value} a c h k = then_ (c.levels 0 sequence_level (omega arith) (closes-end (with_in f) us e h) (end-yields 0 us e h)) (λ n k' r z last.
    if-no begins_line _ _ (u ∷ ts) t.span.end a (and_then _ (later one (z t.span.end)) (λ end mv. end-semicolon (R k' r) _ e us end h (done (ap (λ v. stat.Throw v value) (span-across (mv ⟫ one)) ∙ sym k) (mv ⟫ one)))))

pub debugger-reads : {t e : Filled} {ts : List Filled} {x : Statement} → IsEnd e → x ≡ stat.Debugger (across (t ∷ e ∷ ts) ts) → AfterWord (λ i at. debugger_statement i at) t (e ∷ ts) x ts
unfolding debugger_statement
debugger-reads {t = t} {e = e} {ts = ts} h k = always (λ n k' r last. end-semicolon (R k' r) _ e ts t.span.end h (done (ap (λ v. stat.Debugger v) (span-across (one {t = t} {ts = e ∷ ts} {last = last} ⟫ one)) ∙ sym k) (one ⟫ one)))
