use Rattle.std.proofs.Common.{◌≡◌, List, ℕ, Bool, false, true≢false, [], None, cond, codes, map, sym, ap, ◌∙◌, subst, inl, inr}
use Rattle.std.specs.Prelude.{IsTrue}
use Rattle.std.specs.Str.{bytes_eq}
use Rattle.std.specs.Cmp.Lexicographic.{bytes_decides}
use Rattle.std.proofs.lemmas.Bool.{cases_Bool}
use Rattle.module_endings.specs.declared.place.Home.{Home}
use Rattle.module_endings.specs.declared.place.Place.{Place}
use Rattle.module_endings.specs.Ends.{first_source, module_nexts}
use Rattle.module_endings.specs.Places.{at_place}
use Rattle.module_endings.specs.Webs.{Linked}
use Rattle.module_endings.proofs.cover.cover_entry.Goals as goal

differs : (name word : List ℕ) → (name ≡ word → ⊥) → bytes_eq name word ≡ false
differs name word apart = elim (cases_Bool (bytes_eq name word)) [ inl same ↦ absurd (apart ((bytes_decides name word).0 same)) | inr other ↦ other ]

never : (b : Bool) → IsTrue b → b ≡ false → ⊥
never b t e = true≢false (sym t ∙ e)

pub returns-in_ok-cover_stars-in-None-clause-linked : goal.returns-in_ok-cover_stars-in-None-clause-linked
returns-in_ok-cover_stars-in-None-clause-linked c = λ indexed.
    let summary = c.args.entry.now.summary.now in
    let name : List ℕ = c.args.name.now in
    let ps : List Place = map (λ home. at_place home name) summary.stars in
    let none : first_source summary.exports name ≡ None = ap (λ n. first_source summary.exports n) (sym c.bytes.ensures) ∙ sym (c.in-None.ensures summary.exports indexed) in
    let other : bytes_eq name (codes "default") ≡ false = differs name (codes "default") (λ e. never c.is.result (c.is.ensures.1 e) c.if-is.false) in
    let nexts : module_nexts summary name (first_source summary.exports name) ≡ ps = ap (λ o. module_nexts summary name o) none ∙ ap (λ b. cond b [] ps) other in
    let P : List Place → Type 0 = λ z. Linked c.args.at z c.args.web.now c.cover_stars.new.web in
    let Q : List Home → Type 0 = λ hs. Linked c.args.at (map (λ home. at_place home name) hs) c.args.web.now c.cover_stars.new.web in
    subst P (sym nexts) (subst Q c.as_slice.ensures c.in_ok-cover_stars-in-None.ensures)
