-- All that stands at a place is added, place by place.
use Rattle.std.proofs.Common.{◌≡◌, ℕ, ◌+◌, ◌<◌, ◌≤◌, List, [], ◌∷◌, ◌++◌, length, get_or, Some, sym, ap, ◌∙◌, subst, inl, inr, arith, ◌⊎◌}
use Rattle.std.specs.Prelude.{slice_get}
use Rattle.std.specs.List.{Contains}
use Rattle.std.proofs.lemmas.Bool.{cases_lt}
use Rattle.std.proofs.lemmas.List.Elements.{Contains-push, Contains-push_cases, Contains-append_left}
use Rattle.std.proofs.lemmas.Option.{slice_get-get_or, slice_get_within}
use Rattle.es6_ast.specs.declared.graph.EndOf.{EndOf}
use Rattle.module_flows.specs.Flows.{users_of}
use Rattle.module_endings.specs.declared.place.Place.{Place}
use Rattle.module_endings.specs.declared.summary.Summary.{Summary}
use Rattle.module_endings.specs.declared.wanted.Wanted.{Wanted}
use Rattle.module_endings.specs.declared.web.Web.{Web}
use Rattle.module_endings.specs.Ends.{IsEnding, nexts}
use Rattle.module_endings.specs.Webs.{AreWanted, CoveredTo, CoversAt, IsCovered, IsTrue, Linked, uses}
use Rattle.module_endings.proofs.Gets.{contains-same, none-contained, one-there}

-- whether a place is an end, and is noted as one
pub data IsNoted (hosts : List (List ℕ)) (at : ℕ) (x : Place) (old new : List ℕ) : Type 0 where
  an_end : (end : EndOf) → IsEnding hosts x end → new ≡ old ++ at ∷ [] → IsNoted hosts at x old new
  no_end : ((end : EndOf) → IsEnding hosts x end → ⊥) → new ≡ old → IsNoted hosts at x old new

noted-stay : {hosts : List (List ℕ)} {at : ℕ} {x : Place} {old new : List ℕ} → IsNoted hosts at x old new → (k : ℕ) → Contains old k → Contains new k
noted-stay {at = at} {old = old} {new = new} (an_end end is e) k c = contains-same (old ++ at ∷ []) new k (sym e) (Contains-append_left old (at ∷ []) k c)
noted-stay {old = old} {new = new} (no_end none e) k c = contains-same old new k (sym e) c

noted-added : {hosts : List (List ℕ)} {at : ℕ} {x : Place} {old new : List ℕ} → IsNoted hosts at x old new → (k : ℕ) → Contains new k
    → Contains old k ⊎ ((k ≡ at) × ((end : EndOf) × IsEnding hosts x end))
noted-added {at = at} {old = old} {new = new} (an_end end is e) k c = elim (Contains-push_cases old at k (contains-same new (old ++ at ∷ []) k e c)) [
  | inl before ↦ inl before
  | inr same ↦ inr (sym same, (end, is))
]
noted-added {old = old} {new = new} (no_end none e) k c = inl (contains-same new old k e c)

noted-all : {hosts : List (List ℕ)} {at : ℕ} {x : Place} {old new : List ℕ} → IsNoted hosts at x old new → (end : EndOf) → IsEnding hosts x end → Contains new at
noted-all {at = at} {old = old} {new = new} (an_end other is e) end here = contains-same (old ++ at ∷ []) new at (sym e) (Contains-push old at)
noted-all (no_end none e) end here = absurd (none end here)

-- a place is covered where its end is noted and one goes on from it
pub covers-from : (modules : List Summary) (hosts : List (List ℕ)) (at : ℕ) (x : Place) (old mid new : Web) → IsNoted hosts at x old.ends mid.ends
    → mid.places.keys ≡ old.places.keys → mid.users.items ≡ old.users.items → Linked at (nexts modules x) mid new → CoversAt modules hosts at x old new
covers-from modules hosts at x old mid new noted places users linked =
    let same_users : (k : ℕ) → uses mid k ≡ uses old k = λ k. ap (λ z. users_of z k) users in
    record {
      size = linked.size;
      kept = λ k y e. linked.kept k y (ap (λ z. slice_get z k) places ∙ e);
      stays = λ k v c. linked.stays k v (contains-same (uses old k) (uses mid k) v (sym (same_users k)) c);
      added = λ k v c. elim (linked.added k v c) [
        | inl before ↦ inl (contains-same (uses mid k) (uses old k) v (same_users k) before)
        | inr more ↦ inr more
      ];
      ends_stay = λ k c. contains-same mid.ends new.ends k (sym linked.ends) (noted-stay noted k c);
      ends_added = λ k c. noted-added noted k (contains-same new.ends mid.ends k linked.ends c);
      covered = record {
        goes = linked.goes;
        ends = λ end is. contains-same mid.ends new.ends at (sym linked.ends) (noted-all noted end is);
      };
    }

-- nothing is covered at first, and all that is said is so
pub covered-none : (modules : List Summary) (hosts : List (List ℕ)) (w : Web) → IsTrue modules hosts w → CoveredTo modules hosts 0 w w
covered-none modules hosts w is = record {
  said = is;
  kept = λ k y e. e;
  covered = λ k x below. absurd (omega arith);
}

-- a web in which places are wanted says nothing yet
pub true-wanted : (modules : List Summary) (hosts : List (List ℕ)) (ps : List Place) (wanted : Wanted) → AreWanted ps wanted → IsTrue modules hosts wanted.web
true-wanted modules hosts ps wanted are = record {
  size = are.size;
  users = λ k v c. absurd (none-contained v (contains-same (uses wanted.web k) [] v (are.users k) c));
  ends = λ k c. absurd (none-contained k (contains-same wanted.web.ends [] k are.ends c));
}

-- one place more is covered
pub covered-more : (modules : List Summary) (hosts : List (List ℕ)) (at : ℕ) (x : Place) (first old new : Web) → CoveredTo modules hosts at first old
    → slice_get old.places.keys at ≡ Some x → CoversAt modules hosts at x old new → CoveredTo modules hosts (at + 1) first new
covered-more modules hosts at x first old new before here covers = record {
  said = record {
    size = covers.size;
    users = λ k v c. elim (covers.added k v c) [
      | inl known ↦ (let was = before.said.users k v known in (was.0, was.1, (covers.kept v was.0 was.2.0, covers.kept k was.1 was.2.1, was.2.2)))
      | inr more ↦ (x, more.1.0, (ap (λ z. slice_get new.places.keys z) more.0 ∙ covers.kept at x here, more.1.2, more.1.1))
    ];
    ends = λ k c. elim (covers.ends_added k c) [
      | inl known ↦ (let was = before.said.ends k known in (was.0, was.1, (covers.kept k was.0 was.2.0, was.2.1)))
      | inr more ↦ (x, more.1.0, (ap (λ z. slice_get new.places.keys z) more.0 ∙ covers.kept at x here, more.1.1))
    ];
  };
  kept = λ k y e. covers.kept k y (before.kept k y e);
  covered = λ k y below e. elim (cases_lt k at) [
    | inl less ↦ earlier k y less e
    | inr not_less ↦ (let same : at ≡ k = omega arith in
        let P : Place → Type 0 = λ z. IsCovered modules hosts new at z in
        let Q : ℕ → Type 0 = λ z. IsCovered modules hosts new z y in
        subst Q same (subst P (one-there new.places.keys at x y (covers.kept at x here) (ap (λ z. slice_get new.places.keys z) same ∙ e)) covers.covered))
  ];
}
  where
    earlier : (k : ℕ) (y : Place) → k < at → slice_get new.places.keys k ≡ Some y → IsCovered modules hosts new k y
    earlier k y less e =
        let inside : k < length old.places.keys = omega (arith, slice_get_within old.places.keys at x here) in
        let was : slice_get old.places.keys k ≡ Some (get_or old.places.keys k y) = slice_get-get_or old.places.keys k y inside in
        let same : get_or old.places.keys k y ≡ y = one-there new.places.keys k (get_or old.places.keys k y) y (covers.kept k (get_or old.places.keys k y) was) e in
        let known : IsCovered modules hosts old k y = before.covered k y less (was ∙ ap (λ z. Some z) same) in
        record {
          goes = λ z c. (let on = known.goes z c in (on.0, covers.kept on.0 z on.1, covers.stays on.0 k on.2));
          ends = λ end is. covers.ends_stay k (known.ends end is);
        }

-- each place is covered once there is none past those that are
pub covered-all : (modules : List Summary) (hosts : List (List ℕ)) (at : ℕ) (first w : Web) → CoveredTo modules hosts at first w → length w.places.keys ≤ at
    → CoveredTo modules hosts (length w.places.keys) first w
covered-all modules hosts at first w before past = record {
  said = before.said;
  kept = before.kept;
  covered = λ k x below e. before.covered k x (omega arith) e;
}
