-- What holds while what is found flows on, and what it says at the end.
use Rattle.std.proofs.Common.{◌≡◌, ℕ, zero, suc, ◌<◌, List, [], ◌∷◌, ◌++◌, length, map, refl, sym, ap, ◌∙◌, subst, inl, inr, ◌⊎◌}
use Rattle.std.specs.List.{All, Contains}
use Rattle.std.proofs.lemmas.Bool.{cases_lt}
use Rattle.std.proofs.lemmas.List.{get_or_past, length-map}
use Rattle.std.proofs.lemmas.List.Elements.{All-nil, Contains-push, Contains-push_cases, Contains-append_left}
use Rattle.module_flows.specs.declared.found.Found.{Found}
use Rattle.module_flows.specs.declared.found.Found.TheVariants.{Nothing, One, Several}
use Rattle.module_flows.specs.declared.flow.Flow.{Flow}
use Rattle.module_flows.specs.Flows.{Reaches, itself, by_use, IsRight, AreRight, found_at, users_of}
use Rattle.module_flows.specs.Steps.{Covers, Below, Spreads, IsSound, Holds}
use Rattle.module_flows.proofs.Joins.{Below-covers, Below-trans, IsSound-joined}
use Rattle.module_flows.proofs.Spread.{grows, none-contained, one-contained}

-- what is reached from a node is reached from one that uses it
IsSound-used : (users : List (List ℕ)) (ends : List ℕ) (node user : ℕ) (a : Found) → Contains (users_of users node) user → IsSound users ends node a → IsSound users ends user a
IsSound-used users ends node user Nothing c h = tt
IsSound-used users ends node user (One x) c h = by_use node c h
IsSound-used users ends node user Several c h = (h.0, h.1, (by_use node c h.2.0, by_use node c h.2.1, h.2.2))

-- where what is found at a node is found at one that uses it, it still is, or has to flow on
still-flows : (nodes : List ℕ) (value : Found) (s next : Flow) (node user : ℕ) → Spreads nodes value s next → Below (found_at s.found node) (found_at s.found user)
    → Below (found_at next.found node) (found_at next.found user) ⊎ Contains next.todo node
still-flows nodes value s next node user spread below = elim (spread.marked node) [
  | inl same ↦ inl (let P : Found → Type 0 = λ z. Below z (found_at next.found user) in
      subst P (sym same) (Below-trans (found_at s.found node) (found_at s.found user) (found_at next.found user) below (grows spread user)))
  | inr marked ↦ inr marked
]

sound-step : (users : List (List ℕ)) (ends nodes : List ℕ) (value : Found) (s next : Flow) → Spreads nodes value s next
    → ((n : ℕ) → IsSound users ends n (found_at s.found n)) → ((n : ℕ) → Contains nodes n → IsSound users ends n value)
    → (n : ℕ) → IsSound users ends n (found_at next.found n)
sound-step users ends nodes value s next spread old more n =
    let P : Found → Type 0 = λ z. IsSound users ends n z in
    elim (spread.values n) [
      | inl e ↦ subst P (sym e) (old n)
      | inr p ↦ subst P (sym p.1) (IsSound-joined users ends n (found_at s.found n) value (old n) (more n p.0))
    ]

nothing-at : (users : List (List ℕ)) (n : ℕ) → found_at (map (λ list. Nothing) users) n ≡ Nothing
nothing-at [] n = refl
nothing-at (list ∷ users) zero = refl
nothing-at (list ∷ users) (suc n) = nothing-at users n

-- before anything is found
pub holds-none : (users : List (List ℕ)) (ends : List ℕ) (found : List Found) (todo : List ℕ) → found ≡ map (λ list. Nothing) users → todo ≡ []
    → Holds users ends [] (record { found = found; todo = todo })
holds-none users ends found todo is none =
    let at : (n : ℕ) → found_at found n ≡ Nothing = λ n. ap (λ f. found_at f n) is ∙ nothing-at users n in
    record {
      size = ap length is ∙ length-map users (λ list. Nothing);
      todo = λ n h. absurd (none-contained n (let P : List ℕ → Type 0 = λ z. Contains z n in subst P none h));
      sound = λ n. let P : Found → Type 0 = λ z. IsSound users ends n z in subst P (sym (at n)) tt;
      begins = λ n h. absurd (none-contained n h);
      flows = λ user n c. inl (let P : Found → Type 0 = λ z. Below z (found_at found user) in subst P (sym (at n)) tt);
    }

-- each node that uses a node is one
pub all-users : (P : ℕ → Type 0) (users : List (List ℕ)) (node : ℕ) → All (λ list. All P list) users → All P (users_of users node)
all-users P users node all = elim (cases_lt node (length users)) [
  | inl inside ↦ all node [] inside
  | inr past ↦ let Q : List ℕ → Type 0 = λ z. All P z in subst Q (sym (get_or_past users node [] past)) (All-nil P)
]

-- one end more begins to flow
pub holds-begin : (users : List (List ℕ)) (ends begun : List ℕ) (end : ℕ) (s next : Flow) → Holds users ends begun s → Contains ends end → end < length users
    → Spreads (end ∷ []) (One end) s next → Holds users ends (begun ++ end ∷ []) next
holds-begin users ends begun end s next holds is_end inside spread = record {
  size = spread.size ∙ holds.size;
  todo = λ n h. elim (spread.within n h) [
    | inl old ↦ holds.todo n old
    | inr new ↦ let P : ℕ → Type 0 = λ z. z < length users in subst P (one-contained end n new) inside
  ];
  sound = sound-step users ends (end ∷ []) (One end) s next spread holds.sound
      (λ n c. let P : ℕ → Type 0 = λ z. Reaches users ends z end in subst P (one-contained end n c) (itself is_end));
  begins = λ n h. elim (Contains-push_cases begun end n h) [
    | inl old ↦ Below-covers (found_at s.found n) (found_at next.found n) n (holds.begins n old) (grows spread n)
    | inr e ↦ let P : ℕ → Type 0 = λ z. Covers (found_at next.found z) z in subst P e (spread.covers end (Contains-push [] end))
  ];
  flows = λ user n c. elim (holds.flows user n c) [
    | inl below ↦ still-flows (end ∷ []) (One end) s next n user spread below
    | inr todo ↦ inr (spread.kept n todo)
  ];
}

-- what is found at a node that was still to do flows on to those that use it
pub holds-step : (users : List (List ℕ)) (ends begun : List ℕ) (s next : Flow) (rest : List ℕ) (node : ℕ) → Holds users ends begun s → s.todo ≡ rest ++ node ∷ []
    → ((n : ℕ) → Contains (users_of users node) n → n < length users)
    → Spreads (users_of users node) (found_at s.found node) (record { found = s.found; todo = rest }) next → Holds users ends begun next
holds-step users ends begun s next rest node holds last inside spread =
    let middle : Flow = record { found = s.found; todo = rest } in
    let nodes : List ℕ = users_of users node in
    let value : Found = found_at s.found node in
    record {
      size = spread.size ∙ holds.size;
      todo = λ n h. elim (spread.within n h) [
        | inl old ↦ holds.todo n (let P : List ℕ → Type 0 = λ z. Contains z n in subst P (sym last) (Contains-append_left rest (node ∷ []) n old))
        | inr new ↦ inside n new
      ];
      sound = sound-step users ends nodes value middle next spread holds.sound (λ n c. IsSound-used users ends node n value c (holds.sound node));
      begins = λ n h. Below-covers (found_at s.found n) (found_at next.found n) n (holds.begins n h) (grows spread n);
      flows = λ user n c. elim (holds.flows user n c) [
        | inl below ↦ still-flows nodes value middle next n user spread below
        | inr todo ↦ elim (Contains-push_cases rest node n (let P : List ℕ → Type 0 = λ z. Contains z n in subst P last todo)) [
          | inl old ↦ inr (spread.kept n old)
          | inr e ↦ from_node user n e c
        ]
      ];
    }
  where
    from_node : (user n : ℕ) → node ≡ n → Contains (users_of users n) user → Below (found_at next.found n) (found_at next.found user) ⊎ Contains next.todo n
    from_node user n e c =
        let C : ℕ → Type 0 = λ z. Contains (users_of users z) user in
        let covered : Below (found_at s.found node) (found_at next.found user) = spread.covers user (subst C (sym e) c) in
        elim (spread.marked n) [
          | inl same ↦ inl (let P : Found → Type 0 = λ z. Below z (found_at next.found user) in subst P (ap (λ z. found_at s.found z) e ∙ sym same) covered)
          | inr marked ↦ inr marked
        ]

covers-all : (users : List (List ℕ)) (ends : List ℕ) (s : Flow) → Holds users ends ends s → s.todo ≡ [] → {n end : ℕ} → Reaches users ends n end → Covers (found_at s.found n) end
covers-all users ends s holds done (itself {end = x} c) = holds.begins x c
covers-all users ends s holds done (by_use {user = user} {end = x} node c r) =
    let rest : Covers (found_at s.found node) x = covers-all users ends s holds done r in
    elim (holds.flows user node c) [
      | inl below ↦ Below-covers (found_at s.found node) (found_at s.found user) x rest below
      | inr todo ↦ absurd (none-contained node (let P : List ℕ → Type 0 = λ z. Contains z node in subst P done todo))
    ]

right-found : (users : List (List ℕ)) (ends : List ℕ) (n : ℕ) (a : Found) → IsSound users ends n a → ((end : ℕ) → Reaches users ends n end → Covers a end) → IsRight users ends n a
right-found users ends n Nothing sound covers = covers
right-found users ends n (One x) sound covers = (sound, λ other r. sym (covers other r))
right-found users ends n Several sound covers = sound

-- once nothing has to flow on
pub right-at_end : (users : List (List ℕ)) (ends : List ℕ) (s : Flow) → Holds users ends ends s → s.todo ≡ [] → AreRight users ends s.found
right-at_end users ends s holds done = record {
  size = holds.size;
  right = λ n. right-found users ends n (found_at s.found n) (holds.sound n) (λ end r. covers-all users ends s holds done r);
}
