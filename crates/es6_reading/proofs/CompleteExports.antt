-- Exports of names that are derived are read exactly so, and with them every import and every export of names.
use Rattle.std.proofs.Common.{◌≡◌, ℕ, Bool, true, false, ◌&&◌, List, ◌∷◌, Some, None, refl, sym, ap, subst, ◌∙◌}
use Rattle.std.proofs.lemmas.Bool.{false≢true}
use Rattle.std.specs.Prelude.{codes}
use Rattle.es6_lexer.specs.declared.token.TokenKind.TheVariants as kinds
use Rattle.es6_lexer.specs.declared.token.Punctuator.{Punctuator as Mark}
use Rattle.es6_lexer.specs.declared.token.Punctuator.TheVariants as marks
use Rattle.es6_ast.specs.declared.tree.Identifier.{Identifier}
use Rattle.es6_ast.specs.declared.module.Item.{Item}
use Rattle.es6_ast.specs.declared.module.Item.TheVariants as item
use Rattle.es6_ast.specs.declared.module.Specifier.{Specifier}
use Rattle.es6_ast.specs.declared.module.ExportName.{ExportName}
use Rattle.es6_ast.specs.Tokens.{Filling, Filled, Read, IsWord, IsMark, across, is_word, is_identifier}
use Rattle.es6_ast.specs.Grammar.{IsEnd, IsAnyName, ends}
use Rattle.es6_ast.specs.Modules as m
use Rattle.es6_ast.specs.Modules.{IsFrom, IsExported, IsExport, AreExports, IsItem}
use Rattle.es6_reading.specs.Parser.{Outcome, Took, next_is, mark, word, next_word, Inner}
use Rattle.es6_reading.specs.Modules.{export_of, one_export, exports, are_own, own_names, export_names, export_all, export_item, import_item, one_item}
use Rattle.es6_reading.specs.Laws.{IsLink, LinksAreRead}
use Rattle.es6_reading.proofs.Posts.{Misses}
use Rattle.es6_reading.proofs.Meanings.{is-mark-true}
use Rattle.es6_reading.proofs.Spans.{◌⟫◌, span-across}
use Rattle.es6_reading.proofs.Derived.{one}
use Rattle.es6_reading.proofs.Reading.{Eventually, always, then_, both, turn, begin}
use Rattle.es6_reading.proofs.CompleteTokens.{at-kind}
use Rattle.es6_reading.proofs.Exactly.{Exactly, exactly, ReadsExactly, equal, done, and_then, later, hit, miss, take, if-yes, if-no, chosen, group-in, mark-hit, word-hit, is-word-true, end-semicolon}
use Rattle.es6_reading.proofs.CompleteImports.{R, at-fuel, opened, mark-no-mark, mark-no-word, word-no-word, any-of-name, any-across, is-own, any-begins, any-exact, from-exact, ItemRead, alone-exact, clause-exact}

-- ## Exported names

any-exported : {others : Bool} {ts us : List Filled} {n : Identifier} → IsExported others ts n us → IsAnyName ts n us
any-exported (m.own_name n d) = any-of-name d
any-exported (m.others_name n d) = d

one-export-exact : {others : Bool} {ts us : List Filled} {x : ExportName} → IsExport others ts x us → Misses (word (codes "as")) us → ReadsExactly one_export x ts us
unfolding one_export
one-export-exact {us = us} (m.plain_export n x d e) h last = and_then _ (any-exact (any-exported d) last) (λ end mv. miss (word (codes "as")) _ _ us end h
    (done (ap (λ z. export_of n n z) (span-across mv ∙ sym (any-across (any-exported d))) ∙ sym e) mv))
one-export-exact (m.renamed_export {t = t} {us = us} n n' x d w d' e) h last = and_then _ (any-exact (any-exported d) last) (λ end mv. hit (word (codes "as")) _ _ t t us end (word-hit (codes "as") t w)
    (and_then _ (later (mv ⟫ one) (any-exact d' t.span.end)) (λ end' mv'. done (ap (λ z. export_of n n' z) (span-across mv') ∙ sym e) mv')))

export-begins : {others : Bool} {ts us : List Filled} {x : ExportName} (p : Mark) → IsExport others ts x us → Misses (mark p) ts
export-begins p (m.plain_export n x d e) = any-begins p (any-exported d)
export-begins p (m.renamed_export n n' x d w d' e) = any-begins p (any-exported d)

abbrev ExportsRead : List Filled → List ExportName → List Filled → Type 0
ExportsRead ts ns us = Eventually (λ t f r. ReadsExactly (exports t) ns ts us)

exports-exact : {others : Bool} {ts us : List Filled} {ns : List ExportName} → AreExports others ts ns us → ExportsRead ts ns us
unfolding exports
exports-exact (m.no_export {close = c} {ts = ts} h) = turn (always {P = λ t f r. Unit {0}} (λ t f r. tt)) (λ t f r _ last. hit (mark marks.RightBrace) _ _ c c ts last (mark-hit marks.RightBrace c h) (done refl one))
exports-exact (m.last_export {close = c} {ts = ts} {us = us} n d h) = turn (always {P = λ t f r. Unit {0}} (λ t f r. tt)) (λ t f r _ last. miss (mark marks.RightBrace) _ _ ts last (export-begins marks.RightBrace d)
    (and_then _ (one-export-exact d (mark-no-word (codes "as") marks.RightBrace c h) last) (λ end mv. miss (mark marks.Comma) _ _ (c ∷ us) end (mark-no-mark marks.Comma marks.RightBrace c h refl)
    (take (mark marks.RightBrace) _ c c us end (mark-hit marks.RightBrace c h) (done refl (mv ⟫ one))))))
exports-exact (m.next_export {comma = c} {ts = ts} {us = us} n ns d h ds) = turn (exports-exact ds) (λ t f r rest last. miss (mark marks.RightBrace) _ _ ts last (export-begins marks.RightBrace d)
    (and_then _ (one-export-exact d (mark-no-word (codes "as") marks.Comma c h) last) (λ end mv. hit (mark marks.Comma) _ _ c c us end (mark-hit marks.Comma c h)
    (and_then _ (later (mv ⟫ one) (rest c.span.end)) (λ end' mv'. done refl mv')))))

own-export : {ts us : List Filled} {x : ExportName} → IsExport false ts x us → is_identifier x.local.name ≡ true
own-export (m.plain_export n x (m.own_name n' d) e) = ap (λ y. is_identifier y.local.name) e ∙ is-own d
own-export (m.renamed_export n n' x (m.own_name n'' d) w d' e) = ap (λ y. is_identifier y.local.name) e ∙ is-own d

own-exports : {ts us : List Filled} {ns : List ExportName} → AreExports false ts ns us → are_own ns ≡ true
own-exports (m.no_export h) = refl
own-exports (m.last_export n d h) = ap (λ b. b && true) (own-export d)
own-exports (m.next_export n ns d h ds) = ap (λ b. b && are_own ns) (own-export d) ∙ own-exports ds

-- ## Export declarations

export-mark : (i : Inner) (u : Filled) (us : List Filled) (at last : ℕ) → IsMark marks.LeftBrace u → export_item i at (record { tokens = u ∷ us; last = last }) ≡ export_names i at (record { tokens = u ∷ us; last = last })
unfolding export_item
export-mark i u us at last p = at-kind (λ v. export_item i at (record { tokens = v ∷ us; last = last }) ≡ export_names i at (record { tokens = v ∷ us; last = last })) u _ p refl

pub export-all-exact : {t star : Filled} {ts us : List Filled} {s : Specifier} {x : Item} → IsMark marks.Star star → IsFrom ts s us → x ≡ item.ExportAll (across (t ∷ star ∷ ts) us) s → ItemRead export_item t (star ∷ ts) x us
unfolding export_item export_all
export-all-exact {t = t} {star = star} {ts = ts} {s = s} p fr e = always (λ k f r last. hit (mark marks.Star) _ _ star star ts t.span.end (mark-hit marks.Star star p)
    (and_then _ (later (one ⟫ one) (from-exact (R f r) fr star.span.end)) (λ end mv. done (ap (λ z. item.ExportAll z s) (span-across mv) ∙ sym e) mv)))

from-word : {ts us : List Filled} {s : Specifier} → IsFrom ts s us → next_is (next_word (codes "from")) ts ≡ true
from-word (m.from {t = t} x w d h) = is-word-true (codes "from") t w

end-no-word : (w : List ℕ) (k : Filling) → ends false k ≡ true → is_word w k ≡ false
end-no-word w (Read (kinds.Word v)) h = absurd (false≢true h)
end-no-word w k h = refl

brace-held : {ts us : List Filled} {others : Bool} {ns : List ExportName} → AreExports others ts ns us → Eventually (λ k f r. ReadsExactly (exports (R f r).fuel) ns ts us)
brace-held {ts = ts} {us = us} {ns = ns} ds = begin (exports-exact ds) (λ t f r y. at-fuel (λ n. exports n) ns ts us f r y)

pub export-from-exact : {t open_ : Filled} {ts us vs : List Filled} {ns : List ExportName} {s : Specifier} {x : Item} → IsMark marks.LeftBrace open_ → AreExports true ts ns us → IsFrom us s vs → x ≡ item.ExportNames (across (t ∷ open_ ∷ ts) vs) ns (Some s) → ItemRead export_item t (open_ ∷ ts) x vs
unfolding export_names
export-from-exact {t = t} {open_ = o} {ts = ts} {us = us} {ns = ns} {s = s} {x = x} p ds fr e = both opened (brace-held ds) (λ k f r a y last. equal (export-mark (R f r) o ts t.span.begin t.span.end p)
    (and_then _ (group-in (R f r) marks.LeftBrace _ _ o ts t.span.end (is-mark-true marks.LeftBrace o p) a (later (one ⟫ one) (y o.span.end))) (λ end mv. if-yes _ _ _ us end (from-word fr)
    (and_then _ (later mv (from-exact (R f r) fr end)) (λ end' mv'. done (ap (λ z. item.ExportNames z ns (Some s)) (span-across mv') ∙ sym e) mv')))))

pub export-names-exact : {t open_ end : Filled} {ts us : List Filled} {ns : List ExportName} {x : Item} → IsMark marks.LeftBrace open_ → AreExports false ts ns (end ∷ us) → IsEnd end → x ≡ item.ExportNames (across (t ∷ open_ ∷ ts) us) ns None → ItemRead export_item t (open_ ∷ ts) x us
unfolding export_names own_names
export-names-exact {t = t} {open_ = o} {end = d} {ts = ts} {us = us} {ns = ns} {x = x} p ds h e = both opened (brace-held ds) (λ k f r a y last. equal (export-mark (R f r) o ts t.span.begin t.span.end p)
    (and_then _ (group-in (R f r) marks.LeftBrace _ _ o ts t.span.end (is-mark-true marks.LeftBrace o p) a (later (one ⟫ one) (y o.span.end))) (λ end mv. if-no (next_word (codes "from")) _ _ (d ∷ us) end (end-no-word (codes "from") d.kind h)
    (chosen (are_own ns) _ _ _ (own-exports ds) (end-semicolon (R f r) _ d us end h (done (ap (λ z. item.ExportNames z ns None) (span-across (mv ⟫ one)) ∙ sym e) (mv ⟫ one)))))))

-- ## Items

abbrev LinkRead : List Filled → Item → List Filled → Type 0
LinkRead ts x us = Eventually (λ k f r. ReadsExactly (one_item (R f r)) x ts us)

import-word : {t : Filled} {ts us : List Filled} {x : Item} → IsWord (codes "import") t → ItemRead import_item t ts x us → LinkRead (t ∷ ts) x us
unfolding one_item
import-word {t = t} {ts = ts} w h = then_ h (λ k f r y last. hit (word (codes "import")) _ _ t t ts last (word-hit (codes "import") t w) (y last))

export-word : {t : Filled} {ts us : List Filled} {x : Item} → IsWord (codes "export") t → ItemRead export_item t ts x us → LinkRead (t ∷ ts) x us
unfolding one_item
export-word {t = t} {ts = ts} w h = then_ h (λ k f r y last. miss (word (codes "import")) _ _ (t ∷ ts) last (word-no-word (codes "import") (codes "export") t w refl) (hit (word (codes "export")) _ _ t t ts last (word-hit (codes "export") t w) (y last)))

link-read : {ts us : List Filled} {x : Item} → IsItem ts x us → IsLink x → LinkRead ts x us
link-read (m.import_alone s x w d h e) l = import-word w (alone-exact d h e)
link-read (m.import_from default_ names s x w d fr e) l = import-word w (clause-exact d fr e)
link-read (m.export_all s x w p fr e) l = export-word w (export-all-exact p fr e)
link-read (m.export_from ns s x w p d fr e) l = export-word w (export-from-exact p d fr e)
link-read (m.export_names ns x w p d h e) l = export-word w (export-names-exact p d h e)
link-read (m.export_variables span parts x w d e) l = absurd (subst (λ y. IsLink y) e l)
link-read (m.export_declaration s x w d e) l = absurd (subst (λ y. IsLink y) e l)
link-read (m.default_function g x w d h e) l = absurd (subst (λ y. IsLink y) e l)
link-read (m.default_class c x w d h e) l = absurd (subst (λ y. IsLink y) e l)
link-read (m.default_value y x w d n n' v h e) l = absurd (subst (λ z. IsLink z) e l)
link-read (m.statement_item s x d e) l = absurd (subst (λ y. IsLink y) e l)

taken : {A : Type 0} {x : A} {s : _} {us : List Filled} {o : Outcome A} → Exactly x s us o → (end : ℕ) × (o ≡ Took x (record { tokens = us; last = end }))
taken (exactly {end = end} mv) = (end, refl)

pub links-are-read : LinksAreRead
links-are-read tokens us x d l = let h = link-read d l in (h.bound, λ fuel room last a b. taken (h.reads fuel fuel room a a b last))
