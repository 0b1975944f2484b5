use Rattle.std.proofs.Common.{◌≡◌, Bool, true, false, refl, sym, ◌∙◌, subst}
use Rattle.std.specs.Prelude.{MatchBool}
use Rattle.es6_ast.specs.declared.graph.EndOf.{EndOf}
use Rattle.module_endings.specs.declared.place.Place.{Place}
use Rattle.module_endings.specs.declared.web.Web.{Web}
use Rattle.module_endings.specs.Ends.{IsEnding, nexts}
use Rattle.module_endings.specs.Webs.{Linked}
use Rattle.module_endings.proofs.Covering.{an_end, covers-from, no_end}
use Rattle.module_endings.proofs.Gets.{one-there}
use Rattle.module_endings.proofs.cover.cover.Goals as goal
use Rattle.module_endings.proofs.cover.cover.Goals.{then-is_end+in_ok-push, else-is_end}

ended : (b : Bool) (P Q : Type 0) → MatchBool b P Q → b ≡ true → P
ended true P Q h e = h
ended false P Q h e = absurd (cc)

not-ended : (b : Bool) (P Q : Type 0) → MatchBool b P Q → b ≡ false → Q
not-ended true P Q h e = absurd (cc)
not-ended false P Q h e = h

pub returns-clause-covers : goal.returns-clause-covers
returns-clause-covers c = λ modules x are there.
    let hosts = c.args.hosts.now in
    let old = c.args.web.now in
    let is : c.in_ok-place.place ≡ x = c.in_ok-place.ensures ∙ one-there old.places.keys c.args.at c.in-Some.place.now x (sym c.in-Some.ensures.key) there in
    let P : Place → Type 0 = λ z. Linked c.args.at (nexts modules z) c.if-is_end.web c.cover_nexts.new.web in
    let Q : Place → Type 0 = λ z. MatchBool c.is_end.result ((end : EndOf) × IsEnding hosts z end) ((end : EndOf) → IsEnding hosts z end → ⊥) in
    let linked : Linked c.args.at (nexts modules x) c.if-is_end.web c.cover_nexts.new.web = subst P is (c.in_ok-cover_nexts.ensures.linked modules are) in
    let known : MatchBool c.is_end.result ((end : EndOf) × IsEnding hosts x end) ((end : EndOf) → IsEnding hosts x end → ⊥) = subst Q is c.is_end.ensures in
    elim c.if-is_end.branch [
      | then-is_end+in_ok-push w ↦
          (let end = ended c.is_end.result ((end : EndOf) × IsEnding hosts x end) ((end : EndOf) → IsEnding hosts x end → ⊥) known w.if-is_end.true in
          let P3 : Web → Type 0 = λ z. Linked c.args.at (nexts modules x) z c.cover_nexts.new.web in
          covers-from modules hosts c.args.at x old _ c.cover_nexts.new.web (an_end end.0 end.1 w.in_ok-push.ensures.ok) refl refl (subst P3 w.web-is linked))
      | else-is_end w ↦
          (let none = not-ended c.is_end.result ((end : EndOf) × IsEnding hosts x end) ((end : EndOf) → IsEnding hosts x end → ⊥) known w.if-is_end.false in
          let P3 : Web → Type 0 = λ z. Linked c.args.at (nexts modules x) z c.cover_nexts.new.web in
          covers-from modules hosts c.args.at x old old c.cover_nexts.new.web (no_end none refl) refl refl (subst P3 w.web-is linked))
    ]
