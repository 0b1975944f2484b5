-- Primary expressions, accesses and calls that are derived are read exactly so, if their parts are.
use Rattle.std.proofs.Common.{◌≡◌, ℕ, Bool, true, false, List, ◌∷◌, Some, None, refl, sym, ap, ◌∙◌}
use Rattle.std.specs.Prelude.{codes, is_some}
use Rattle.es_outside.specs.HostNames.{reserved_words}
use Rattle.es6_lexer.specs.declared.token.TokenKind.TheVariants as kinds
use Rattle.es6_lexer.specs.declared.token.Punctuator.TheVariants as marks
use Rattle.es6_ast.specs.declared.operators.Literal.{Literal}
use Rattle.es6_ast.specs.declared.operators.Literal.TheVariants as literals
use Rattle.es6_ast.specs.declared.tree.Identifier.{Identifier}
use Rattle.es6_ast.specs.declared.tree.Expression.{Expression}
use Rattle.es6_ast.specs.declared.tree.Expression.TheVariants as expr
use Rattle.es6_ast.specs.declared.tree.Element.{Element}
use Rattle.es6_ast.specs.declared.settings.Flags.{Flags}
use Rattle.es6_ast.specs.declared.settings.Role.{Role}
use Rattle.es6_ast.specs.declared.settings.Shape.TheVariants.{Bare, LeftHandSide}
use Rattle.es6_ast.specs.Tokens.{Filled, Read, IsWord, IsMark, across, is_identifier}
use Rattle.es6_ast.specs.Grammar as g
use Rattle.es6_ast.specs.Grammar.{with_in, literal_kind, IsName, IsAnyName}
use Rattle.es6_reading.specs.Parser.{mark, word, Inner}
use Rattle.es6_reading.specs.Words.{name_if, free_name}
use Rattle.es6_reading.specs.Expressions.{elements, bracketed, composed, primary, after_super, head}
use Rattle.es6_reading.proofs.Spans.{◌⟫◌, span-across}
use Rattle.es6_reading.proofs.Derived.{one}
use Rattle.es6_reading.proofs.Reading.{always, both, begin}
use Rattle.es6_reading.proofs.Exactly.{Exactly, equal, done, and_then, later, hit, miss, group-in, mark-hit, word-hit}
use Rattle.es6_reading.proofs.Meanings.{is-mark-true}
use Rattle.es6_reading.proofs.CompleteTokens.{at-kind, no-word, word-miss, name-begins, literal-begins, this-begins, super-begins, bracket-begins}
use Rattle.es6_reading.proofs.CompleteImports.{R, at-fuel, opened, word-no-word, any-exact}
use Rattle.es6_reading.proofs.CompleteLevels.{reading, HeadReads}
use Rattle.es6_reading.proofs.CompleteClaims.{Claim, claim-primary}
use Rattle.es6_reading.proofs.CompleteLists.{ElementsRead, listing}

-- ## Names and literals

pub this-claim : (f : Flags) {t : Filled} {ts : List Filled} {x : Expression} → IsWord (codes "this") t → x ≡ expr.This t.span → Claim f 19 (t ∷ ts) ts x
unfolding head primary
this-claim f {t = t} {ts = ts} {x = x} w e = claim-primary f (t ∷ ts) ts x LeftHandSide refl (this-begins t w) (λ role. always (λ n k r last.
    at-kind (λ u. Exactly (reading x LeftHandSide) (record { tokens = u ∷ ts; last = last }) ts (head (R k r) f role u.span.begin (record { tokens = u ∷ ts; last = last }))) t (Read (kinds.Word (codes "this"))) w
    (done (ap (λ z. reading z LeftHandSide) (sym e)) one)))

is-free : (name : List ℕ) (t : Filled) → IsWord name t → is_identifier name ≡ true → free_name t ≡ Some name
is-free name t w i = at-kind (λ u. free_name u ≡ Some name) t _ w (ap (λ b. name_if b name) i)

pub name-claim : (f : Flags) {ts us : List Filled} {n : Identifier} {x : Expression} → IsName ts n us → x ≡ expr.Name n.span n.name → Claim f 19 ts us x
unfolding head primary reserved_words
name-claim f {x = x} (g.name {t = t} {ts = ts} name w i j) e = claim-primary f (t ∷ ts) ts x Bare refl (name-begins name t w i) (λ role. always (λ n k r last.
    miss (word (codes "new")) _ _ (t ∷ ts) last (other (codes "new") refl) (miss (word (codes "super")) _ _ (t ∷ ts) last (other (codes "super") refl) (miss (word (codes "this")) _ _ (t ∷ ts) last (other (codes "this") refl)
    (hit free_name _ _ t name ts last (is-free name t w i) (done (ap (λ z. reading z Bare) (sym (e ∙ ap (λ m. expr.Name m.span m.name) j))) one))))))
  where
    other : (v : List ℕ) → is_some (free_name (record { kind = Read (kinds.Word v); span = t.span; newline = t.newline })) ≡ false → word v t ≡ None
    other v h = word-miss v t (no-word (λ u. is_some (free_name u)) v t (ap (λ o. is_some o) (is-free name t w i)) h)

literal-head : (f : Flags) (role : Role) (value : Literal) {t : Filled} {ts : List Filled} {x : Expression} → t.kind ≡ Read (literal_kind value) → x ≡ expr.Literal t.span value → HeadReads f role (reading x LeftHandSide) (t ∷ ts) ts
unfolding head primary reserved_words
literal-head f role literals.Null {t = t} {ts = ts} {x = x} h e = always (λ n k r last. at-kind (λ u. Exactly (reading x LeftHandSide) (record { tokens = u ∷ ts; last = last }) ts (head (R k r) f role u.span.begin (record { tokens = u ∷ ts; last = last }))) t _ h (done (ap (λ z. reading z LeftHandSide) (sym e)) one))
literal-head f role (literals.Truth true) {t = t} {ts = ts} {x = x} h e = always (λ n k r last. at-kind (λ u. Exactly (reading x LeftHandSide) (record { tokens = u ∷ ts; last = last }) ts (head (R k r) f role u.span.begin (record { tokens = u ∷ ts; last = last }))) t _ h (done (ap (λ z. reading z LeftHandSide) (sym e)) one))
literal-head f role (literals.Truth false) {t = t} {ts = ts} {x = x} h e = always (λ n k r last. at-kind (λ u. Exactly (reading x LeftHandSide) (record { tokens = u ∷ ts; last = last }) ts (head (R k r) f role u.span.begin (record { tokens = u ∷ ts; last = last }))) t _ h (done (ap (λ z. reading z LeftHandSide) (sym e)) one))
literal-head f role (literals.Integer value) {t = t} {ts = ts} {x = x} h e = always (λ n k r last. at-kind (λ u. Exactly (reading x LeftHandSide) (record { tokens = u ∷ ts; last = last }) ts (head (R k r) f role u.span.begin (record { tokens = u ∷ ts; last = last }))) t _ h (done (ap (λ z. reading z LeftHandSide) (sym e)) one))
literal-head f role (literals.Text units) {t = t} {ts = ts} {x = x} h e = always (λ n k r last. at-kind (λ u. Exactly (reading x LeftHandSide) (record { tokens = u ∷ ts; last = last }) ts (head (R k r) f role u.span.begin (record { tokens = u ∷ ts; last = last }))) t _ h (done (ap (λ z. reading z LeftHandSide) (sym e)) one))

pub literal-claim : (f : Flags) {t : Filled} {ts : List Filled} {x : Expression} (value : Literal) → t.kind ≡ Read (literal_kind value) → x ≡ expr.Literal t.span value → Claim f 19 (t ∷ ts) ts x
literal-claim f {t = t} {ts = ts} {x = x} value h e = claim-primary f (t ∷ ts) ts x LeftHandSide refl (literal-begins value t h) (λ role. literal-head f role value h e)

-- ## Array literals

square-head : (i : Inner) (f : Flags) (role : Role) (t : Filled) (ts : List Filled) (last : ℕ) → IsMark marks.LeftBracket t → head i f role t.span.begin (record { tokens = t ∷ ts; last = last }) ≡ bracketed i f role t.span.begin (record { tokens = t ∷ ts; last = last })
unfolding head primary composed
square-head i f role t ts last p = at-kind (λ u. head i f role u.span.begin (record { tokens = u ∷ ts; last = last }) ≡ bracketed i f role u.span.begin (record { tokens = u ∷ ts; last = last })) t _ p refl

pub array-claim : (f : Flags) {comma : Bool} {t : Filled} {ts us : List Filled} {es : List Element} {x : Expression} → IsMark marks.LeftBracket t → ElementsRead f comma ts es us → x ≡ expr.ArrayList (across (t ∷ ts) us) es comma → Claim f 19 (t ∷ ts) us x
unfolding bracketed
array-claim f {comma = comma} {t = t} {ts = ts} {us = us} {es = es} {x = x} p h e = claim-primary f (t ∷ ts) us x LeftHandSide refl (bracket-begins t p) (λ role. both opened (begin h (λ n k r z. at-fuel (λ j. elements (R k r) f j) (listing es comma) ts us k r z)) (λ n k r o z last.
    equal (square-head (R k r) f role t ts last p) (group-in (R k r) marks.LeftBracket _ _ t ts last (is-mark-true marks.LeftBracket t p) o (and_then _ (later one (z t.span.end)) (λ end mv.
    done (ap (λ w. reading w LeftHandSide) (ap (λ s. expr.ArrayList s es comma) (span-across mv) ∙ sym e)) mv)))))

-- ## `super` and `new.target`

pub super-member-claim : (f : Flags) {t dot : Filled} {ts us : List Filled} {n : Identifier} {x : Expression} → IsWord (codes "super") t → IsMark marks.Dot dot → IsAnyName ts n us → x ≡ expr.SuperMember (across (t ∷ dot ∷ ts) us) n → Claim f 19 (t ∷ dot ∷ ts) us x
unfolding head after_super
super-member-claim f {t = t} {dot = dot} {ts = ts} {us = us} {n = n} {x = x} w p d e = claim-primary f (t ∷ dot ∷ ts) us x LeftHandSide refl (super-begins t w) (λ role. always (λ j k r last.
    miss (word (codes "new")) _ _ (t ∷ dot ∷ ts) last (word-no-word (codes "new") (codes "super") t w refl) (hit (word (codes "super")) _ _ t t (dot ∷ ts) last (word-hit (codes "super") t w) (hit (mark marks.Dot) _ _ dot dot ts t.span.end (mark-hit marks.Dot dot p)
    (and_then _ (later (one ⟫ one) (any-exact d dot.span.end)) (λ end mv. done (ap (λ z. reading z LeftHandSide) (ap (λ s. expr.SuperMember s n) (span-across mv) ∙ sym e)) mv))))))
