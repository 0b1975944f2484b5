-- Classes that are derived are read exactly so, if their heritage and methods are.
use Rattle.std.proofs.Common.{◌≡◌, ℕ, Bool, true, false, ◌||◌, List, [], ◌∷◌, Option, Some, None, refl, sym, ap, subst, ◌∙◌, arith}
use Rattle.std.specs.Prelude.{codes, is_some}
use Rattle.es_outside.specs.HostNames.{reserved_words}
use Rattle.es6_lexer.specs.declared.token.Punctuator.TheVariants as marks
use Rattle.es6_ast.specs.declared.tree.Class.{Class, roll-Class}
use Rattle.es6_ast.specs.declared.tree.ClassMember.{ClassMember, roll-ClassMember}
use Rattle.es6_ast.specs.declared.tree.Expression.{Expression}
use Rattle.es6_ast.specs.declared.tree.Identifier.{Identifier}
use Rattle.es6_ast.specs.declared.tree.Method.{Method}
use Rattle.es6_ast.specs.declared.settings.Flags.{Flags}
use Rattle.es6_ast.specs.declared.settings.Role.TheVariants.{Heritage}
use Rattle.es6_ast.specs.Tokens.{Filled, IsWord, IsMark, across, is_identifier}
use Rattle.es6_ast.specs.Grammar as g
use Rattle.es6_ast.specs.Grammar.{IsName}
use Rattle.es6_reading.specs.Parser.{next_is, mark, word, next_mark}
use Rattle.es6_reading.specs.Words.{name_if, free_name}
use Rattle.es6_reading.specs.Parts.{one_member, members, heritage, rest_of_class, named_class, begins_class_tail, class_after_word}
use Rattle.es6_reading.specs.Modules.{readers}
use Rattle.es6_reading.proofs.Posts.{Misses}
use Rattle.es6_reading.proofs.Meanings.{is-mark-true}
use Rattle.es6_reading.proofs.Spans.{Moves, ◌⟫◌, span-across}
use Rattle.es6_reading.proofs.Derived.{one}
use Rattle.es6_reading.proofs.Reading.{Eventually, always, then_, both, pair, deeper, turn, begin, on-miss-is}
use Rattle.es6_reading.proofs.Exactly.{Exactly, ReadsExactly, done, and_then, later, hit, miss, if-yes, if-no, either-choice, group-in, known, mark-hit, word-hit}
use Rattle.es6_reading.proofs.CompleteTokens.{at-kind, no-word, closes-body}
use Rattle.es6_reading.proofs.CompleteImports.{R, at-fuel, opened, mark-no-mark, mark-no-word, word-no-mark, identifier-exact}
use Rattle.es6_reading.proofs.CompleteClaims.{Claim, stops-if, open-heritage}
use Rattle.es6_reading.proofs.CompleteDeclarations.{ClassRead}
use Rattle.es6_reading.proofs.CompleteMethods.{MethodClaim, static-member}

-- ## Members (14.5)

abbrev pub MembersRead : Flags → List Filled → List ClassMember → List Filled → Type 0
MembersRead f ts ms us = Eventually (λ n k r. ReadsExactly (members (R k r) f n) ms ts us)

pub members-none : (f : Flags) {c : Filled} {us : List Filled} → IsMark marks.RightBrace c → MembersRead f (c ∷ us) [] us
unfolding members
members-none f {c = c} {us = us} p = turn (always {P = λ n k r. Unit {0}} (λ n k r. tt)) (λ n k r _ last. hit (mark marks.RightBrace) _ _ c c us last (mark-hit marks.RightBrace c p) (done refl one))

pub members-semicolon : (f : Flags) {s : Filled} {ts us : List Filled} {ms : List ClassMember} → IsMark marks.Semicolon s → MembersRead f ts ms us → MembersRead f (s ∷ ts) ms us
unfolding members
members-semicolon f {s = s} {ts = ts} p rest = turn rest (λ n k r y last. miss (mark marks.RightBrace) _ _ (s ∷ ts) last (mark-no-mark marks.RightBrace marks.Semicolon s p refl) (hit (mark marks.Semicolon) _ _ s s ts last (mark-hit marks.Semicolon s p) (later one (y s.span.end))))

open-member : (f : Flags) {ts us : List Filled} {c : ClassMember} → Eventually (λ n k r. ReadsExactly (one_member (R k r) f) c ts us) → Eventually (λ n k r. ReadsExactly ((R k r).member f) c ts us)
unfolding readers
open-member f h = deeper h (λ n k r y. y)

member-then : (f : Flags) {ts us vs : List Filled} {c : ClassMember} {ms : List ClassMember} → Misses (mark marks.RightBrace) ts → Misses (mark marks.Semicolon) ts → Eventually (λ n k r. ReadsExactly (one_member (R k r) f) c ts us) → MembersRead f us ms vs → MembersRead f ts (c ∷ ms) vs
unfolding members
member-then f {ts = ts} a b h rest = turn (pair (open-member f h) rest) (λ n k r y last. miss (mark marks.RightBrace) _ _ ts last a (miss (mark marks.Semicolon) _ _ ts last b (and_then _ (y.0 last) (λ end mv. and_then _ (later mv (y.1 end)) (λ end' mv'. done refl mv')))))

as-member : (f : Flags) {ts us : List Filled} {c d : ClassMember} → c ≡ d → Eventually (λ n k r. ReadsExactly (one_member (R k r) f) d ts us) → Eventually (λ n k r. ReadsExactly (one_member (R k r) f) c ts us)
as-member f {ts = ts} {us = us} e h = subst (λ m. Eventually (λ n k r. ReadsExactly (one_member (R k r) f) m ts us)) (sym e) h

pub members-instance : (f : Flags) {ts us vs : List Filled} {m : Method} {c : ClassMember} {ms : List ClassMember} → MethodClaim f ts us m → c ≡ roll-ClassMember (record { span = across ts us; is_static = false; method = m }) → MembersRead f us ms vs → MembersRead f ts (c ∷ ms) vs
members-instance f d e rest = member-then f d.no_brace d.no_semicolon (as-member f e d.member) rest

pub members-static : (f : Flags) {t : Filled} {ts us vs : List Filled} {m : Method} {c : ClassMember} {ms : List ClassMember} → IsWord (codes "static") t → MethodClaim f ts us m → c ≡ roll-ClassMember (record { span = across (t ∷ ts) us; is_static = true; method = m }) → MembersRead f us ms vs → MembersRead f (t ∷ ts) (c ∷ ms) vs
members-static f {t = t} w d e rest = member-then f (word-no-mark marks.RightBrace (codes "static") t w) (word-no-mark marks.Semicolon (codes "static") t w) (as-member f e (static-member f w d)) rest

-- ## What follows the name of a class

abbrev a_class : Filled → List Filled → List Filled → Option Identifier → Option Expression → List ClassMember → Class
a_class t ts us name h ms = roll-Class (record { span = across (t ∷ ts) us; name = name; heritage = h; members = ms })

-- from the word of the class, which is the first token
unfoldable pub TailReads : Flags → List Filled → Option Expression → List ClassMember → List Filled → ℕ → ℕ → ℕ → Type 0
TailReads f us h ms vs n k r = (name : Option Identifier) (t : Filled) (ts : List Filled) (c : Class) (last end : ℕ) → Moves (record { tokens = t ∷ ts; last = last }) (record { tokens = us; last = end }) → c ≡ a_class t ts vs name h ms → Exactly c (record { tokens = t ∷ ts; last = last }) vs (rest_of_class (R k r) f t.span.begin name (record { tokens = us; last = end }))

pub record ClassTailClaim (f : Flags) (ts us : List Filled) (h : Option Expression) (ms : List ClassMember) : Type 0 where
  pub tail : next_is begins_class_tail ts ≡ true
  pub reads : Eventually (TailReads f ts h ms us)

members-at : (f : Flags) {ts us : List Filled} {ms : List ClassMember} → MembersRead f ts ms us → Eventually (λ n k r. ReadsExactly (members (R k r) f (R k r).fuel) ms ts us)
members-at f {ts = ts} {us = us} {ms = ms} d = begin d (λ n k r y. at-fuel (λ j. members (R k r) f j) ms ts us k r y)

pub base-class : (f : Flags) {o : Filled} {ts us : List Filled} {ms : List ClassMember} → IsMark marks.LeftBrace o → MembersRead f ts ms us → ClassTailClaim f (o ∷ ts) us None ms
unfolding rest_of_class heritage TailReads
base-class f {o = o} {ts = ts} {ms = ms} p d = record {
  tail = at-kind (λ u. begins_class_tail u ≡ true) o _ p refl;
  reads = both opened (members-at f d) (λ n k r m y name t ws c last end mv e. known _ (on-miss-is (word (codes "extends")) _ _ (o ∷ ts) end (mark-no-word (codes "extends") marks.LeftBrace o p)) (and_then _ (group-in (R k r) marks.LeftBrace _ _ o ts end (is-mark-true marks.LeftBrace o p) m (later (mv ⟫ one) (y o.span.end)))
      (λ end' mv'. done (ap (λ s. roll-Class (record { span = s; name = name; heritage = None; members = ms })) (span-across mv') ∙ sym e) mv')));
}

pub derived-class : (f : Flags) {x o : Filled} {ts us vs : List Filled} {h : Expression} {ms : List ClassMember} → IsWord (codes "extends") x → Claim f 16 ts (o ∷ us) h → IsMark marks.LeftBrace o → MembersRead f us ms vs → ClassTailClaim f (x ∷ ts) vs (Some h) ms
unfolding rest_of_class heritage TailReads
derived-class f {x = x} {o = o} {ts = ts} {us = us} {h = h} {ms = ms} w c p d = record {
  tail = at-kind (λ u. begins_class_tail u ≡ true) x _ w refl;
  reads = both opened (pair (open-heritage f (c.chains (omega arith) (stops-if f 0 (o ∷ us) (omega arith) (closes-body f us o p)) Heritage refl)) (members-at f d)) (λ n k r m y name t ws b last end mv e.
      and_then _ (hit (word (codes "extends")) _ _ x x ts end (word-hit (codes "extends") x w) (and_then _ (later (mv ⟫ one) (y.0 x.span.end)) (λ end' mv'. done refl mv'))) (λ end' mv'.
      and_then _ (group-in (R k r) marks.LeftBrace _ _ o us end' (is-mark-true marks.LeftBrace o p) m (later (mv' ⟫ one) (y.1 o.span.end))) (λ end'' mv''. done (ap (λ s. roll-Class (record { span = s; name = name; heritage = Some h; members = ms })) (span-across mv'') ∙ sym e) mv'')));
}

-- ## Classes

-- a class that begins with its word
pub data ClassClaim (f : Flags) (lacks : Bool) : List Filled → Class → List Filled → Type 0 where
  class_read : {t : Filled} {ts us : List Filled} {c : Class} → IsWord (codes "class") t → ClassRead f lacks t ts c us → ClassClaim f lacks (t ∷ ts) c us

is-free : (name : List ℕ) (t : Filled) → IsWord name t → is_identifier name ≡ true → free_name t ≡ Some name
is-free name t w i = at-kind (λ u. free_name u ≡ Some name) t _ w (ap (λ b. name_if b name) i)

name-no-tail : {ts us : List Filled} {n : Identifier} → IsName ts n us → next_is begins_class_tail ts ≡ false
unfolding reserved_words
name-no-tail (g.name {t = t} word w i e) = two (next_mark marks.LeftBrace t) _ (at-kind (λ u. next_mark marks.LeftBrace u ≡ false) t _ w refl) (no-word (λ u. is_some (free_name u)) (codes "extends") t (ap (λ o. is_some o) (is-free word t w i)) refl)
  where
    two : (a b : Bool) → a ≡ false → b ≡ false → (a || b) ≡ false
    two a b h k = rw (h, k) refl

pub class-named : (f : Flags) (lacks : Bool) {t : Filled} {ts us vs : List Filled} {n : Identifier} {h : Option Expression} {ms : List ClassMember} {c : Class} → IsName ts n us → ClassTailClaim f us vs h ms → c ≡ a_class t ts vs (Some n) h ms → ClassRead f lacks t ts c vs
unfolding class_after_word named_class TailReads
class-named f lacks {t = t} {ts = ts} {n = n} {c = c} d k e = then_ k.reads (λ j k' r y last.
    let rest = and_then _ (later one (identifier-exact d t.span.end)) (λ end mv. y (Some n) t ts c last end mv e) in
    either-choice lacks _ _ (record { tokens = ts; last = t.span.end }) (λ l. if-no begins_class_tail _ _ ts t.span.end (name-no-tail d) rest) (λ l. rest))

pub class-unnamed : (f : Flags) {t : Filled} {ts us : List Filled} {h : Option Expression} {ms : List ClassMember} {c : Class} → ClassTailClaim f ts us h ms → c ≡ a_class t ts us None h ms → ClassRead f true t ts c us
unfolding class_after_word TailReads
class-unnamed f {t = t} {ts = ts} {c = c} k e = then_ k.reads (λ j k' r y last. if-yes begins_class_tail _ _ ts t.span.end k.tail (y None t ts c last t.span.end one e))
