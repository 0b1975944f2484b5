-- Expression statements, labels and declarations that are derived are read exactly so, if their parts are.
use Rattle.std.proofs.Common.{◌≡◌, ℕ, Bool, true, false, ◌&&◌, ◌||◌, List, [], ◌∷◌, Option, Some, None, refl, sym, ap, ◌∙◌, arith}
use Rattle.std.specs.Prelude.{codes}
use Rattle.es_outside.specs.HostNames.{reserved_words}
use Rattle.es6_lexer.specs.declared.token.TokenKind.TheVariants as kinds
use Rattle.es6_lexer.specs.declared.token.Punctuator.TheVariants as marks
use Rattle.es6_ast.specs.declared.tree.Identifier.{Identifier}
use Rattle.es6_ast.specs.declared.tree.Expression.{Expression}
use Rattle.es6_ast.specs.declared.tree.Statement.{Statement}
use Rattle.es6_ast.specs.declared.tree.Statement.TheVariants as stat
use Rattle.es6_ast.specs.declared.settings.Flags.{Flags}
use Rattle.es6_ast.specs.declared.settings.Stand.{Stand}
use Rattle.es6_ast.specs.declared.settings.Stand.TheVariants.{Listed, Under, Labelled}
use Rattle.es6_ast.specs.Tokens.{Filling, Read, Inserted, Filled, IsMark, is_word, is_left_brace, across, begin_of}
use Rattle.es6_ast.specs.Grammar.{IsEnd, ends, NotBrace, NotWord}
use Rattle.es6_reading.specs.Parser.{Input, Parser, next_is, is_mark, mark, word, next_mark, next_word, Inner, ends_block}
use Rattle.es6_reading.specs.Words.{lexical_kind_at, unary_operators, operand_words, begins_operand, begins_unary, begins_expression}
use Rattle.es6_reading.specs.Statements.{is_inserted, ends_case, expression_end, label_of, label_or_end, expression_statement, on_more, begins_declaration, plain_statement, jump_statement, compound_statement, statement}
use Rattle.es6_reading.specs.Modules.{is_end_kind}
use Rattle.es6_reading.proofs.Posts.{Misses}
use Rattle.es6_reading.proofs.Meanings.{or_false}
use Rattle.es6_reading.proofs.Spans.{◌⟫◌, span-across}
use Rattle.es6_reading.proofs.Derived.{one}
use Rattle.es6_reading.proofs.Reading.{Eventually, always, then_}
use Rattle.es6_reading.proofs.Exactly.{Exactly, ReadsExactly, done, and_then, miss, if-no, either-choice, end-semicolon}
use Rattle.es6_reading.proofs.CompleteTokens.{at-kind, no-word, cond-false, mark-miss, word-miss, closes-end}
use Rattle.es6_reading.proofs.CompleteImports.{R}
use Rattle.es6_reading.proofs.CompleteLevels.{sequence_level}
use Rattle.es6_reading.proofs.CompleteClaims.{Claim, begins-no-semicolon, begins-no-brace}
use Rattle.es6_reading.proofs.CompleteStatements.{Quiet, StatementClaim, begins_item, end-false, end-yields, told, no-next-word}
use Rattle.es6_reading.proofs.CompleteLoops.{begins-no-end}

-- ## What begins with an expression

-- a word that begins no expression
abbrev pub Keyword : List ℕ → Type 0
Keyword w = ((t : Filled) → begins_unary (told w t) ≡ false) × (is_word (codes "yield") (Read (kinds.Word w)) ≡ false)

and-no : (b : Bool) → (b && false) ≡ false
and-no true = refl
and-no false = refl

pub no-keyword : (f : Flags) (w : List ℕ) (ts : List Filled) → Keyword w → next_is (begins_expression f) ts ≡ true → next_is (next_word w) ts ≡ false
unfolding begins_expression
no-keyword f w [] k h = refl
no-keyword f w (t ∷ ts) k h = no-word (begins_expression f) w t h (ap (λ b. b || (f.has_yield && is_word (codes "yield") (Read (kinds.Word w)))) (k.0 t) ∙ ap (λ b. f.has_yield && b) k.1 ∙ and-no f.has_yield)

next-misses : (w : List ℕ) (ts : List Filled) → next_is (next_word w) ts ≡ false → Misses (word w) ts
next-misses w [] h = tt
next-misses w (t ∷ ts) h = word-miss w t h

misses-keyword : (f : Flags) (w : List ℕ) (ts : List Filled) → Keyword w → next_is (begins_expression f) ts ≡ true → Misses (word w) ts
misses-keyword f w ts k h = next-misses w ts (no-keyword f w ts k h)

lexical-missed : (ts : List Filled) → next_is (next_word (codes "let")) ts ≡ false → next_is (next_word (codes "const")) ts ≡ false → Misses lexical_kind_at ts
lexical-missed [] a b = tt
lexical-missed (t ∷ ts) a b = cond-false (is_word (codes "let") t.kind) _ _ a ∙ cond-false (is_word (codes "const") t.kind) _ _ b

-- tokens that begin an expression statement
pub record Plain (f : Flags) (ts : List Filled) : Type 0 where
  pub begins_ : next_is (begins_expression f) ts ≡ true
  pub no_brace : next_is (next_mark marks.LeftBrace) ts ≡ false
  pub no_function : next_is (next_word (codes "function")) ts ≡ false
  pub no_class : next_is (next_word (codes "class")) ts ≡ false

no-declaration : (ts : List Filled) → next_is (next_word (codes "function")) ts ≡ false → next_is (next_word (codes "class")) ts ≡ false → next_is begins_declaration ts ≡ false
no-declaration [] a b = refl
no-declaration (t ∷ ts) a b = rw a b

plain-first : {x : Statement} {s : Input} {us : List Filled} (f : Flags) (i : Inner) (at : ℕ) (ts : List Filled) (last : ℕ) → Plain f ts → Exactly x s us (expression_statement i f at (record { tokens = ts; last = last })) → Exactly x s us (plain_statement i f at (record { tokens = ts; last = last }))
unfolding plain_statement begins_unary begins_operand reserved_words operand_words unary_operators
plain-first f i at ts last p y = if-no (next_word (codes "with")) _ _ ts last (no-keyword f (codes "with") ts ((λ t. refl), refl) p.begins_) (if-no begins_declaration _ _ ts last (no-declaration ts p.no_function p.no_class) y)

more-first : {x : Statement} {s : Input} {us : List Filled} (f : Flags) (i : Inner) (stand : Stand) (at : ℕ) (q : Parser Statement) (ts : List Filled) (last : ℕ) → Plain f ts → Exactly x s us (q (record { tokens = ts; last = last })) → Exactly x s us (on_more i f stand at q (record { tokens = ts; last = last }))
unfolding begins_unary begins_operand reserved_words operand_words unary_operators
more-first f i Listed at q ts last p y = miss (word (codes "function")) _ _ ts last (next-misses (codes "function") ts p.no_function) (miss (word (codes "class")) _ _ ts last (next-misses (codes "class") ts p.no_class)
    (miss lexical_kind_at _ _ ts last (lexical-missed ts (no-keyword f (codes "let") ts ((λ t. refl), refl) p.begins_) (no-keyword f (codes "const") ts ((λ t. refl), refl) p.begins_)) y))
more-first f i Under at q ts last p y = y
more-first f i Labelled at q ts last p y = miss (word (codes "function")) _ _ ts last (next-misses (codes "function") ts p.no_function) y

jump-first : {x : Statement} {s : Input} {us : List Filled} (f : Flags) (i : Inner) (stand : Stand) (at : ℕ) (ts : List Filled) (last : ℕ) → Plain f ts → Exactly x s us (expression_statement i f at (record { tokens = ts; last = last })) → Exactly x s us (jump_statement i f stand at (record { tokens = ts; last = last }))
unfolding jump_statement begins_unary begins_operand reserved_words operand_words unary_operators
jump-first f i stand at ts last p y =
    miss (word (codes "continue")) _ _ ts last (misses-keyword f (codes "continue") ts ((λ t. refl), refl) p.begins_) (miss (word (codes "break")) _ _ ts last (misses-keyword f (codes "break") ts ((λ t. refl), refl) p.begins_)
    (miss (word (codes "throw")) _ _ ts last (misses-keyword f (codes "throw") ts ((λ t. refl), refl) p.begins_) (miss (word (codes "debugger")) _ _ ts last (misses-keyword f (codes "debugger") ts ((λ t. refl), refl) p.begins_)
    (either-choice f.has_return _ _ (record { tokens = ts; last = last }) (λ e. miss (word (codes "return")) _ _ ts last (misses-keyword f (codes "return") ts ((λ t. refl), refl) p.begins_) (more-first f i stand at _ ts last p (plain-first f i at ts last p y)))
    (λ e. more-first f i stand at _ ts last p (plain-first f i at ts last p y))))))

compound-first : {x : Statement} {s : Input} {us : List Filled} (f : Flags) (i : Inner) (stand : Stand) (at : ℕ) (ts : List Filled) (last : ℕ) → Plain f ts → Exactly x s us (expression_statement i f at (record { tokens = ts; last = last })) → Exactly x s us (compound_statement i f stand at (record { tokens = ts; last = last }))
unfolding compound_statement begins_unary begins_operand reserved_words operand_words unary_operators
compound-first f i stand at ts last p y =
    miss (word (codes "do")) _ _ ts last (misses-keyword f (codes "do") ts ((λ t. refl), refl) p.begins_) (miss (word (codes "while")) _ _ ts last (misses-keyword f (codes "while") ts ((λ t. refl), refl) p.begins_)
    (miss (word (codes "for")) _ _ ts last (misses-keyword f (codes "for") ts ((λ t. refl), refl) p.begins_) (miss (word (codes "switch")) _ _ ts last (misses-keyword f (codes "switch") ts ((λ t. refl), refl) p.begins_)
    (miss (word (codes "try")) _ _ ts last (misses-keyword f (codes "try") ts ((λ t. refl), refl) p.begins_) (jump-first f i stand at ts last p y)))))

-- a statement that begins with the first token of an expression is read as one
first-statement : {x : Statement} {s : Input} {us : List Filled} (f : Flags) (i : Inner) (stand : Stand) (ts : List Filled) (last : ℕ) → Plain f ts → Exactly x s us (expression_statement i f (begin_of ts) (record { tokens = ts; last = last })) → Exactly x s us (statement i f stand (record { tokens = ts; last = last }))
unfolding statement begins_unary begins_operand reserved_words operand_words unary_operators
first-statement f i stand ts last p y =
    if-no (next_mark marks.LeftBrace) _ _ ts last p.no_brace (if-no (next_word (codes "if")) _ _ ts last (no-keyword f (codes "if") ts ((λ t. refl), refl) p.begins_) (miss (mark marks.Semicolon) _ _ ts last (begins-no-semicolon f ts p.begins_)
    (miss (word (codes "var")) _ _ ts last (misses-keyword f (codes "var") ts ((λ t. refl), refl) p.begins_) (compound-first f i stand (begin_of ts) ts last p y))))

brace-missed : (ts : List Filled) → Misses (mark marks.RightBrace) ts → next_is (next_mark marks.RightBrace) ts ≡ false
brace-missed [] h = refl
brace-missed (t ∷ ts) h = by (is_mark marks.RightBrace t.kind) refl
  where
    by : (b : Bool) → is_mark marks.RightBrace t.kind ≡ b → is_mark marks.RightBrace t.kind ≡ false
    by false e = e
    by true e = absurd (cc)

no-end-kind : (k : Filling) → ends_block k ≡ false → is_end_kind k ≡ false
no-end-kind (Inserted d) h = refl
no-end-kind (Read kinds.End) h = absurd (cc)
no-end-kind (Read k) h = refl

plain-no-case : (f : Flags) (ts : List Filled) → next_is (begins_expression f) ts ≡ true → next_is ends_case ts ≡ false
unfolding begins_unary begins_operand reserved_words operand_words unary_operators
plain-no-case f [] h = refl
plain-no-case f (t ∷ ts) h = rw (no-keyword f (codes "case") (t ∷ ts) ((λ u. refl), refl) h, no-keyword f (codes "default") (t ∷ ts) ((λ u. refl), refl) h, brace-missed (t ∷ ts) (begins-no-brace f (t ∷ ts) h))
    (or_false (ends false t.kind || ends_block t.kind) (is_inserted t.kind) (begins-no-end f t h)).1

plain-no-item : (f : Flags) (ts : List Filled) → next_is (begins_expression f) ts ≡ true → next_is begins_item ts ≡ false
unfolding begins_unary begins_operand reserved_words operand_words unary_operators
plain-no-item f [] h = refl
plain-no-item f (t ∷ ts) h = rw (no-keyword f (codes "import") (t ∷ ts) ((λ u. refl), refl) h, no-keyword f (codes "export") (t ∷ ts) ((λ u. refl), refl) h)
    (no-end-kind t.kind (or_false (ends false t.kind) (ends_block t.kind) (or_false (ends false t.kind || ends_block t.kind) (is_inserted t.kind) (begins-no-end f t h)).0).1)

plain-quiet : (f : Flags) (ts : List Filled) → next_is (begins_expression f) ts ≡ true → Quiet ts
unfolding begins_unary begins_operand reserved_words operand_words unary_operators
plain-quiet f ts h = misses-keyword f (codes "finally") ts ((λ t. refl), refl) h

pub plain-claim : (f : Flags) (stand : Stand) {ts us : List Filled} {x : Statement} → Plain f ts → (Quiet us → Eventually (λ n k r. ReadsExactly (expression_statement (R k r) f (begin_of ts)) x ts us)) → StatementClaim f stand ts us x
plain-claim f stand {ts = ts} p h = record {
  first = plain-no-case f ts p.begins_;
  no_item = plain-no-item f ts p.begins_;
  quiet = plain-quiet f ts p.begins_;
  reads = λ q. then_ (h q) (λ n k r y last. first-statement f (R k r) stand ts last p (y last));
}

-- ## Expression statements

end-or-label : {x : Statement} {s : Input} {vs : List Filled} (i : Inner) (f : Flags) (at : ℕ) (o : Option Identifier) (y : Expression) (e : Filled) (us : List Filled) (last : ℕ) → IsEnd e → Exactly x s vs (expression_end i at y (record { tokens = e ∷ us; last = last })) → Exactly x s vs (label_or_end i f at o y (record { tokens = e ∷ us; last = last }))
end-or-label i f at (Some label) y e us last h r = miss (mark marks.Colon) _ _ (e ∷ us) last (mark-miss marks.Colon e (end-false (is_mark marks.Colon) e.kind h refl (λ b. refl))) r
end-or-label i f at None y e us last h r = r

pub left-brace : (ts : List Filled) → NotBrace ts → next_is (next_mark marks.LeftBrace) ts ≡ false
left-brace [] h = refl
left-brace (t ∷ ts) h = at t.kind h
  where
    at : (k : Filling) → is_left_brace k ≡ false → is_mark marks.LeftBrace k ≡ false
    at (Read (kinds.Punctuator p)) h = by p h
      where
        by : (p : _) → is_left_brace (Read (kinds.Punctuator p)) ≡ false → is_mark marks.LeftBrace (Read (kinds.Punctuator p)) ≡ false
        by marks.LeftBrace h = absurd (cc)
        by p h = refl
    at k h = refl

pub expression-claim : (f : Flags) (stand : Stand) {e : Filled} {ts us : List Filled} {y : Expression} {x : Statement} → NotBrace ts → NotWord (codes "function") ts → NotWord (codes "class") ts → Claim f 0 ts (e ∷ us) y → IsEnd e → x ≡ stat.Expression (across ts us) y → StatementClaim f stand ts us x
unfolding expression_statement expression_end
expression-claim f stand {e = e} {ts = ts} {us = us} {y = y} a b d c h q = plain-claim f stand (record { begins_ = c.begins; no_brace = left-brace ts a; no_function = no-next-word (codes "function") ts b; no_class = no-next-word (codes "class") ts d })
    (λ l. then_ (c.levels 0 sequence_level (omega arith) (closes-end f us e h) (end-yields 0 us e h)) (λ n k r z last. and_then _ (z last) (λ end mv. end-or-label (R k r) f (begin_of ts) (label_of c.shape y) y e us end h
    (end-semicolon (R k r) _ e us end h (done (ap (λ v. stat.Expression v y) (span-across (mv ⟫ one)) ∙ sym q) (mv ⟫ one))))))

-- ## Empty statements

pub empty-claim : (f : Flags) (stand : Stand) {t : Filled} {ts : List Filled} {x : Statement} → IsMark marks.Semicolon t → x ≡ stat.Empty t.span → StatementClaim f stand (t ∷ ts) ts x
unfolding statement
empty-claim f stand {t = t} {ts = ts} {x = x} p e = record {
  first = at-kind (λ u. ends_case u ≡ false) t _ p refl;
  no_item = at-kind (λ u. begins_item u ≡ false) t _ p refl;
  quiet = word-miss (codes "finally") t (at-kind (λ u. is_word (codes "finally") u.kind ≡ false) t _ p refl);
  reads = λ q. always (λ n k r last. at-kind (λ u. Exactly x (record { tokens = u ∷ ts; last = last }) ts (statement (R k r) f stand (record { tokens = u ∷ ts; last = last }))) t _ p (done (sym e) one));
}
