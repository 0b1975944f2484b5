-- Steps from a place are noted.
use Rattle.std.proofs.Common.{◌≡◌, ℕ, ◌<◌, List, [], ◌∷◌, ◌++◌, length, Some, refl, sym, ap, ◌∙◌, inl, inr, arith, ◌⊎◌}
use Rattle.std.specs.Prelude.{slice_get, slice_set}
use Rattle.std.specs.List.{Contains}
use Rattle.std.proofs.lemmas.List.{length-set, get_or-set_same}
use Rattle.std.proofs.lemmas.List.Elements.{Contains-push, Contains-push_cases, Contains-append_left, Contains-append_right, Contains-append_cases}
use Rattle.std.proofs.lemmas.Option.{slice_get_within}
use Rattle.module_flows.specs.Flows.{users_of}
use Rattle.module_endings.specs.declared.place.Place.{Place}
use Rattle.module_endings.specs.declared.web.Web.{Web}
use Rattle.module_endings.specs.Webs.{GoesTo, IsSized, Linked, Placed, uses}
use Rattle.module_endings.proofs.Gets.{contains-same, none-contained, one-contained, users-set}

-- one step more is noted
pub linked-one : (user : ℕ) (p : Place) (at : ℕ) (old mid new : Web) → Placed p at old mid → new.places.keys ≡ mid.places.keys
    → new.users.items ≡ slice_set mid.users.items at (users_of mid.users.items at ++ user ∷ []) → new.ends ≡ mid.ends → Linked user (p ∷ []) old new
linked-one user p at old mid new placed places users ends =
    let more : List ℕ = users_of mid.users.items at ++ user ∷ [] in
    let below : at < length mid.places.keys = slice_get_within mid.places.keys at p placed.there in
    let inside : at < length mid.users.items = omega (arith, placed.size, below) in
    let there : slice_get new.places.keys at ≡ Some p = ap (λ z. slice_get z at) places ∙ placed.there in
    let at_one : (k : ℕ) → ((k ≡ at) × (uses new k ≡ uses mid k ++ user ∷ [])) ⊎ (uses new k ≡ uses mid k) = λ k.
    elim (users-set mid.users.items at user k inside) [
      | inl q ↦ inl (q.0, ap (λ z. users_of z k) users ∙ q.1)
      | inr e ↦ inr (ap (λ z. users_of z k) users ∙ e)
    ] in
    let used : uses new at ≡ more = ap (λ z. users_of z at) users ∙ get_or-set_same mid.users.items at more [] inside in
    record {
      size = ap length users ∙ length-set mid.users.items at more ∙ placed.size ∙ sym (ap length places);
      kept = λ k x e. ap (λ z. slice_get z k) places ∙ placed.kept k x e;
      goes = λ q c. (at, there ∙ ap (λ z. Some z) (one-contained p q c), contains-same more (uses new at) user (sym used) (Contains-push (users_of mid.users.items at) user));
      stays = λ k v c.
          let before : Contains (uses mid k) v = contains-same (uses old k) (uses mid k) v (sym (placed.users k)) c in
          elim (at_one k) [
            | inl q ↦ contains-same (uses mid k ++ user ∷ []) (uses new k) v (sym q.1) (Contains-append_left (uses mid k) (user ∷ []) v before)
            | inr e ↦ contains-same (uses mid k) (uses new k) v (sym e) before
          ];
      added = λ k v c. elim (at_one k) [
        | inl q ↦ elim (Contains-push_cases (uses mid k) user v (contains-same (uses new k) (uses mid k ++ user ∷ []) v q.1 c)) [
          | inl before ↦ inl (contains-same (uses mid k) (uses old k) v (placed.users k) before)
          | inr e ↦ inr (sym e, (p, Contains-push [] p, ap (λ z. slice_get new.places.keys z) q.0 ∙ there))
        ]
        | inr e ↦ inl (contains-same (uses mid k) (uses old k) v (placed.users k) (contains-same (uses new k) (uses mid k) v e c))
      ];
      ends = ends ∙ placed.ends;
    }

pub linked-nil : (user : ℕ) (w : Web) → IsSized w → Linked user [] w w
linked-nil user w sized = record {
  size = sized;
  kept = λ k x e. e;
  goes = λ q c. absurd (none-contained q c);
  stays = λ k v c. c;
  added = λ k v c. inl c;
  ends = refl;
}

goes-on : (user : ℕ) (p : Place) (ps : List Place) (b c : Web) → Linked user ps b c → (at : ℕ) → GoesTo b at p → GoesTo c at p
goes-on user p ps b c linked at goes = (goes.0, linked.kept goes.0 p goes.1, linked.stays goes.0 at goes.2)

-- one place more to which one goes on
pub linked-then : (user : ℕ) (ps : List Place) (q : Place) (a b c : Web) → Linked user ps a b → Linked user (q ∷ []) b c → Linked user (ps ++ q ∷ []) a c
linked-then user ps q a b c first second = record {
  size = second.size;
  kept = λ k x e. second.kept k x (first.kept k x e);
  goes = λ p h. elim (Contains-append_cases ps (q ∷ []) p h) [
    | inl left ↦ goes-on user p (q ∷ []) b c second user (first.goes p left)
    | inr right ↦ second.goes p right
  ];
  stays = λ k v h. second.stays k v (first.stays k v h);
  added = λ k v h. elim (second.added k v h) [
    | inl before ↦ elim (first.added k v before) [
      | inl old ↦ inl old
      | inr new ↦ inr (new.0, (new.1.0, Contains-append_left ps (q ∷ []) new.1.0 new.1.1, second.kept k new.1.0 new.1.2))
    ]
    | inr new ↦ inr (new.0, (new.1.0, Contains-append_right ps (q ∷ []) new.1.0 new.1.1, new.1.2))
  ];
  ends = second.ends ∙ first.ends;
}
