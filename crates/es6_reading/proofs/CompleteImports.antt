-- Imports that are derived are read exactly so.
use Rattle.std.proofs.Common.{◌≡◌, ℕ, zero, suc, ◌≤◌, true, false, List, ◌∷◌, Option, Some, None, refl, sym, ap, subst, ◌∙◌, arith}
use Rattle.std.specs.Prelude.{codes, is_some}
use Rattle.es6_lexer.specs.declared.token.TokenKind.TheVariants as kinds
use Rattle.es6_lexer.specs.declared.token.Punctuator.{Punctuator as Mark}
use Rattle.es6_lexer.specs.declared.token.Punctuator.TheVariants as marks
use Rattle.es6_ast.specs.declared.tree.Identifier.{Identifier}
use Rattle.es6_ast.specs.declared.module.Item.{Item}
use Rattle.es6_ast.specs.declared.module.Item.TheVariants as item
use Rattle.es6_ast.specs.declared.module.Specifier.{Specifier}
use Rattle.es6_ast.specs.declared.module.ImportedNames.{ImportedNames}
use Rattle.es6_ast.specs.declared.module.ImportedNames.TheVariants.{NoNames}
use Rattle.es6_ast.specs.declared.module.ImportName.{ImportName}
use Rattle.es6_ast.specs.Tokens.{Filled, Read, IsWord, IsMark, across, is_word, is_identifier}
use Rattle.es6_ast.specs.Grammar as g
use Rattle.es6_ast.specs.Grammar.{IsEnd, IsName, IsAnyName}
use Rattle.es6_ast.specs.Modules as m
use Rattle.es6_ast.specs.Modules.{IsSpecifier, IsFrom, IsImport, AreImports, AreNames, IsClause}
use Rattle.es6_reading.specs.Parser.{Parser, next_is, is_mark, mark, word, Inner}
use Rattle.es6_reading.specs.Words.{name_if, any_name, any_name_in, free_name, text_in, text_at}
use Rattle.es6_reading.specs.Parts.{identifier, name_of_any_kind}
use Rattle.es6_reading.specs.Modules.{readers, specifier, from_clause, import_of, one_import, imports, namespace, imported_names, rest_of_import, default_import, import_alone, begins_names, import_item}
use Rattle.es6_reading.proofs.Posts.{Misses}
use Rattle.es6_reading.proofs.Meanings.{is-mark-true}
use Rattle.es6_reading.proofs.Spans.{Moves, ◌⟫◌, span-across}
use Rattle.es6_reading.proofs.Derived.{one}
use Rattle.es6_reading.proofs.RefineTargets.{name-across, token-across}
use Rattle.es6_reading.proofs.Reading.{Eventually, always, then_, both, turn, begin}
use Rattle.es6_reading.proofs.CompleteTokens.{at-kind, mark-miss, word-miss}
use Rattle.es6_reading.proofs.Exactly.{Exactly, ReadsExactly, done, and_then, later, hit, miss, take, if-yes, if-no, chosen, group-in, mark-hit, word-hit, end-semicolon}

-- ## Readers of enough turns, in which enough constructs may open

abbrev pub R : ℕ → ℕ → Inner
R f r = readers false f r

pub readers-fuel : (f r : ℕ) → (R f r).fuel ≡ f
unfolding readers
readers-fuel f zero = refl
readers-fuel f (suc r) = refl

-- the turns that a reader begins with are all that there are
pub at-fuel : {A : Type 0} (loop : ℕ → Parser A) (x : A) (ts us : List Filled) (f r : ℕ) → ReadsExactly (loop f) x ts us → ReadsExactly (loop (R f r).fuel) x ts us
at-fuel loop x ts us f r h = subst (λ n. ReadsExactly (loop n) x ts us) (sym (readers-fuel f r)) h

pub opened : Eventually (λ t f r. (R f r).may_open ≡ true)
unfolding readers
opened = record { bound = 1; reads = λ t f r a b c. at f r c }
  where
    none : 1 ≤ zero → ⊥
    none l = omega arith

    at : (f r : ℕ) → 1 ≤ r → (R f r).may_open ≡ true
    at f zero l = absurd (none l)
    at f (suc r) l = refl

-- ## Single tokens

pub mark-no-mark : (p q : Mark) (t : Filled) → IsMark q t → is_mark p (Read (kinds.Punctuator q)) ≡ false → mark p t ≡ None
mark-no-mark p q t e h = mark-miss p t (at-kind (λ u. is_mark p u.kind ≡ false) t _ e h)

pub mark-no-word : (w : List ℕ) (q : Mark) (t : Filled) → IsMark q t → word w t ≡ None
mark-no-word w q t e = word-miss w t (at-kind (λ u. is_word w u.kind ≡ false) t _ e refl)

pub word-no-mark : (p : Mark) (v : List ℕ) (t : Filled) → IsWord v t → mark p t ≡ None
word-no-mark p v t e = mark-miss p t (at-kind (λ u. is_mark p u.kind ≡ false) t _ e refl)

pub word-no-word : (w v : List ℕ) (t : Filled) → IsWord v t → is_word w (Read (kinds.Word v)) ≡ false → word w t ≡ None
word-no-word w v t e h = word-miss w t (at-kind (λ u. is_word w u.kind ≡ false) t _ e h)

-- ## Names

pub any-of-name : {ts us : List Filled} {n : Identifier} → IsName ts n us → IsAnyName ts n us
any-of-name (g.name word w i k) = g.any_name word w k

pub any-across : {ts us : List Filled} {n : Identifier} → IsAnyName ts n us → n.span ≡ across ts us
any-across (g.any_name {t = t} {ts = ts} word w k) = ap (λ n. n.span) k ∙ token-across t ts

pub is-own : {ts us : List Filled} {n : Identifier} → IsName ts n us → is_identifier n.name ≡ true
is-own (g.name word w i k) = ap (λ n. is_identifier n.name) k ∙ i

pub any-begins : {ts us : List Filled} {n : Identifier} (p : Mark) → IsAnyName ts n us → Misses (mark p) ts
any-begins p (g.any_name {t = t} word w k) = word-no-mark p word t w

pub identifier-exact : {ts us : List Filled} {n : Identifier} → IsName ts n us → ReadsExactly identifier n ts us
unfolding identifier
identifier-exact (g.name {t = t} {ts = ts} name w i k) last = take free_name _ t name ts last (at-kind (λ u. free_name u ≡ Some name) t _ w (ap (λ b. name_if b name) i)) (done (sym k) one)

pub any-exact : {ts us : List Filled} {n : Identifier} → IsAnyName ts n us → ReadsExactly name_of_any_kind n ts us
unfolding name_of_any_kind
any-exact (g.any_name {t = t} {ts = ts} name w k) last = take any_name _ t name ts last (ap any_name_in w) (done (sym k) one)

-- ## The module that is named

pub specifier-exact : {ts us : List Filled} {x : Specifier} → IsSpecifier ts x us → ReadsExactly specifier x ts us
unfolding specifier
specifier-exact (m.specifier {t = t} {ts = ts} units x e k) last = take text_at _ t units ts last (ap text_in e) (done (sym k) one)

pub from-exact : {ts us : List Filled} {x : Specifier} (i : Inner) → IsFrom ts x us → ReadsExactly (from_clause i) x ts us
unfolding from_clause
from-exact i (m.from {t = t} {end = e} {ts = ts} {us = us} x w d h) last = take (word (codes "from")) _ t t ts last (word-hit (codes "from") t w) (and_then _ (later one (specifier-exact d t.span.end)) (λ n mv. end-semicolon i _ e us n h (done refl (mv ⟫ one))))

pub from-begins : {ts us : List Filled} {x : Specifier} (p : Mark) → IsFrom ts x us → Misses (mark p) ts
from-begins p (m.from {t = t} x w d h) = word-no-mark p (codes "from") t w

-- ## Imported names

import-begins : {ts us : List Filled} {x : ImportName} (p : Mark) → IsImport ts x us → Misses (mark p) ts
import-begins p (m.plain_import n x d e) = any-begins p (any-of-name d)
import-begins p (m.renamed_import n n' x d w d' e) = any-begins p d

one-import-exact : {ts us : List Filled} {x : ImportName} → IsImport ts x us → Misses (word (codes "as")) us → ReadsExactly one_import x ts us
unfolding one_import
one-import-exact {us = us} (m.plain_import n x d e) h last = and_then _ (any-exact (any-of-name d) last) (λ end mv. miss (word (codes "as")) _ _ us end h
    (chosen (is_identifier n.name) _ _ _ (is-own d) (done (ap (λ z. import_of n n z) (span-across mv ∙ sym (name-across d)) ∙ sym e) mv)))
one-import-exact (m.renamed_import {t = t} {us = us} n n' x d w d' e) h last = and_then _ (any-exact d last) (λ end mv. hit (word (codes "as")) _ _ t t us end (word-hit (codes "as") t w)
    (and_then _ (later (mv ⟫ one) (identifier-exact d' t.span.end)) (λ end' mv'. done (ap (λ z. import_of n n' z) (span-across mv') ∙ sym e) mv')))

abbrev ImportsRead : List Filled → List ImportName → List Filled → Type 0
ImportsRead ts ns us = Eventually (λ t f r. ReadsExactly (imports t) ns ts us)

imports-exact : {ts us : List Filled} {ns : List ImportName} → AreImports ts ns us → ImportsRead ts ns us
unfolding imports
imports-exact (m.no_import {close = c} {ts = ts} h) = turn (always {P = λ t f r. Unit {0}} (λ t f r. tt)) (λ t f r _ last. hit (mark marks.RightBrace) _ _ c c ts last (mark-hit marks.RightBrace c h) (done refl one))
imports-exact (m.last_import {close = c} {ts = ts} {us = us} n d h) = turn (always {P = λ t f r. Unit {0}} (λ t f r. tt)) (λ t f r _ last. miss (mark marks.RightBrace) _ _ ts last (import-begins marks.RightBrace d)
    (and_then _ (one-import-exact d (mark-no-word (codes "as") marks.RightBrace c h) last) (λ end mv. miss (mark marks.Comma) _ _ (c ∷ us) end (mark-no-mark marks.Comma marks.RightBrace c h refl)
    (take (mark marks.RightBrace) _ c c us end (mark-hit marks.RightBrace c h) (done refl (mv ⟫ one))))))
imports-exact (m.next_import {comma = c} {ts = ts} {us = us} n ns d h ds) = turn (imports-exact ds) (λ t f r rest last. miss (mark marks.RightBrace) _ _ ts last (import-begins marks.RightBrace d)
    (and_then _ (one-import-exact d (mark-no-word (codes "as") marks.Comma c h) last) (λ end mv. hit (mark marks.Comma) _ _ c c us end (mark-hit marks.Comma c h)
    (and_then _ (later (mv ⟫ one) (rest c.span.end)) (λ end' mv'. done refl mv')))))

abbrev NamesRead : List Filled → ImportedNames → List Filled → Type 0
NamesRead ts x us = Eventually (λ t f r. ReadsExactly (imported_names (R f r)) x ts us)

names-exact : {ts us : List Filled} {x : ImportedNames} → AreNames ts x us → NamesRead ts x us
unfolding imported_names namespace
names-exact (m.namespace {star = s} {t = t} {ts = ts} n x p w d e) = always (λ k f r last. hit (mark marks.Star) _ _ s s (t ∷ ts) last (mark-hit marks.Star s p)
    (take (word (codes "as")) _ t t ts s.span.end (word-hit (codes "as") t w) (and_then _ (later (one ⟫ one) (identifier-exact d t.span.end)) (λ end mv. done (sym e) mv))))
names-exact (m.listed {open_ = o} {ts = ts} {us = us} ns x p ds e) = both opened (begin (imports-exact ds) (λ t f r y. at-fuel (λ n. imports n) ns ts us f r y)) (λ k f r a y last.
    miss (mark marks.Star) _ _ (o ∷ ts) last (mark-no-mark marks.Star marks.LeftBrace o p refl)
    (group-in (R f r) marks.LeftBrace _ _ o ts last (is-mark-true marks.LeftBrace o p) a (and_then _ (later one (y o.span.end)) (λ end mv. done (sym e) mv))))

-- ## Import declarations

-- what follows the word `import`, which is the first token
abbrev pub ItemRead : (Inner → ℕ → Parser Item) → Filled → List Filled → Item → List Filled → Type 0
ItemRead p t ts x us = Eventually (λ k f r. (last : ℕ) → Exactly x (record { tokens = t ∷ ts; last = last }) us (p (R f r) t.span.begin (record { tokens = ts; last = t.span.end })))

rest-exact : (i : Inner) (t : Filled) (ts : List Filled) (last : ℕ) (default_ : Option Identifier) (names : ImportedNames) {us vs : List Filled} {n : ℕ} {s : Specifier} {x : Item} → IsFrom us s vs → x ≡ item.Import (across (t ∷ ts) vs) default_ names s
    → Moves (record { tokens = t ∷ ts; last = last }) (record { tokens = us; last = n }) → Exactly x (record { tokens = t ∷ ts; last = last }) vs (rest_of_import i t.span.begin default_ names (record { tokens = us; last = n }))
unfolding rest_of_import
rest-exact i t ts last default_ names {n = n} {s = s} d e mv = and_then _ (later mv (from-exact i d n)) (λ end mv'. done (ap (λ z. item.Import z default_ names s) (span-across mv') ∙ sym e) mv')

pub alone-exact : {t end : Filled} {ts us : List Filled} {s : Specifier} {x : Item} → IsSpecifier ts s (end ∷ us) → IsEnd end → x ≡ item.Import (across (t ∷ ts) us) None NoNames s → ItemRead import_item t ts x us
unfolding import_item import_alone
alone-exact {t = t} {end = end} {us = us} {s = s} (m.specifier {t = u} units x k i) h e = always (λ n f r last.
    if-yes (λ v. is_some (text_at v)) (import_alone (R f r) t.span.begin) _ (u ∷ end ∷ us) t.span.end (ap (λ j. is_some (text_in j)) k)
    (and_then _ (later one (specifier-exact (m.specifier {t = u} {ts = end ∷ us} units x k i) t.span.end)) (λ n mv. end-semicolon (R f r) _ end us n h
    (done (ap (λ z. item.Import z None NoNames s) (span-across (mv ⟫ one)) ∙ sym e) (mv ⟫ one)))))

name-no-text : {ts us : List Filled} {n : Identifier} → IsName ts n us → next_is (λ t. is_some (text_at t)) ts ≡ false
name-no-text (g.name {t = t} word w i k) = ap (λ j. is_some (text_in j)) w

name-no-names : {ts us : List Filled} {n : Identifier} → IsName ts n us → next_is begins_names ts ≡ false
name-no-names (g.name {t = t} word w i k) = at-kind (λ u. begins_names u ≡ false) t _ w refl

names-no-text : {ts us : List Filled} {x : ImportedNames} → AreNames ts x us → next_is (λ t. is_some (text_at t)) ts ≡ false
names-no-text (m.namespace n x p w d e) = ap (λ j. is_some (text_in j)) p
names-no-text (m.listed ns x p d e) = ap (λ j. is_some (text_in j)) p

names-begin : {ts us : List Filled} {x : ImportedNames} → AreNames ts x us → next_is begins_names ts ≡ true
names-begin (m.namespace {star = s} n x p w d e) = at-kind (λ u. begins_names u ≡ true) s _ p refl
names-begin (m.listed {open_ = o} ns x p d e) = at-kind (λ u. begins_names u ≡ true) o _ p refl

pub clause-exact : {t : Filled} {ts us vs : List Filled} {default_ : Option Identifier} {names : ImportedNames} {s : Specifier} {x : Item} → IsClause ts default_ names us → IsFrom us s vs → x ≡ item.Import (across (t ∷ ts) vs) default_ names s → ItemRead import_item t ts x vs
unfolding import_item default_import
clause-exact {t = t} {ts = ts} {us = us} (m.default_alone n d) fr e = always (λ k f r last.
    if-no _ _ _ ts t.span.end (name-no-text d) (if-no _ _ _ ts t.span.end (name-no-names d)
    (and_then _ (later one (identifier-exact d t.span.end)) (λ end mv. miss (mark marks.Comma) _ _ us end (from-begins marks.Comma fr) (rest-exact (R f r) t ts last (Some n) NoNames fr e mv)))))
clause-exact {t = t} {ts = ts} (m.names_alone names d) fr e = then_ (names-exact d) (λ k f r y last.
    if-no _ _ _ ts t.span.end (names-no-text d) (if-yes _ _ _ ts t.span.end (names-begin d)
    (and_then _ (later one (y t.span.end)) (λ end mv. rest-exact (R f r) t ts last None names fr e mv))))
clause-exact {t = t} {ts = ts} (m.default_and_names {comma = c} {us = us} n names d h ds) fr e = then_ (names-exact ds) (λ k f r y last.
    if-no _ _ _ ts t.span.end (name-no-text d) (if-no _ _ _ ts t.span.end (name-no-names d)
    (and_then _ (later one (identifier-exact d t.span.end)) (λ end mv. hit (mark marks.Comma) _ _ c c us end (mark-hit marks.Comma c h)
    (and_then _ (later (mv ⟫ one) (y c.span.end)) (λ end' mv'. rest-exact (R f r) t ts last (Some n) names fr e mv'))))))
