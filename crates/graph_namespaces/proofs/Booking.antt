-- Entries under the units of their names.
use denote.Ref.{Bor}
use Rattle.std.proofs.Common.{◌≡◌, ℕ, zero, suc, ◌+◌, ◌<◌, ◌⊎◌, Bool, true, false, cond, List, [], ◌∷◌, length, map, Option, Some, None, Vec, refl, sym, ap, ◌∙◌, subst, inl, inr, arith}
use Rattle.std.specs.Prelude.{slice_get, slice_index_or, AllPairs}
use Rattle.std.specs.BTreeMap.{insert_entry, is_at}
use Rattle.std.specs.Cmp.Lexicographic.{slice_cmp}
use Rattle.std.specs.List.{Contains}
use Rattle.std.specs.List.Sorted.{IsStrictlySortedBy}
use Rattle.std.specs.Map.{keys_of, lookup, values_of}
use Rattle.std.specs.Option.{option_copied}
use Rattle.std.specs.Ordering.{is_eq, is_lt, match_ordering, nat_cmp}
use Rattle.std.specs.declared.cmp.Ordering.{Ordering}
use Rattle.std.specs.declared.cmp.Ordering.TheVariants.{Less, Equal, Greater}
use Rattle.std.proofs.lemmas.Bool.{cases_lt}
use Rattle.std.proofs.lemmas.List.Elements.{All-from_recursion, Contains-append_cases, Contains-append_left, Contains-append_right}
use Rattle.std.proofs.lemmas.Option.{slice_get_within}
use Rattle.es6_ast.specs.declared.graph.EndOf.TheVariants.{Local, Host}
use Rattle.module_endings.specs.declared.answers.Outcome.{Outcome}
use Rattle.module_endings.specs.declared.answers.Outcome.TheVariants.{Unresolved, Ambiguous, Ends as EndsAt}
use Rattle.module_endings.specs.declared.place.Place.{Place}
use Rattle.module_endings.proofs.Gets.{contains-get, contains-one, get-contains, none-contained, one-contained, one-there, some-same}
use Rattle.module_lowering.specs.declared.meaning.Entry.{Entry}
use Rattle.module_lowering.specs.Names.{units_of}
use Rattle.module_lowering.specs.Namespaces.{IsBefore}
use Rattle.graph_namespaces.specs.Entries.{Adds, AddsOutcome, IsFrom, IsPicked, Row, entry_at}

abbrev pub by_units : {Y : Type 0} → Vec ℕ Y → Vec ℕ Y → Ordering
by_units x y = slice_cmp nat_cmp x.items y.items

-- nothing is looked up
pub not-there : (o : Option (Bor Entry)) (r : Option Entry) → ((x : Bor Entry) → o ≡ Some x → ⊥) → option_copied o ≡ r → r ≡ None
not-there None r none e = sym e
not-there (Some x) r none e = absurd (none x refl)

record Inserted {Y : Type 0} (k : Vec ℕ Y) (v : Entry) (old new : List (Row Y)) : Type 0 where
  stays : (r : Row Y) → Contains old r → Contains new r
  there : Contains new (k, v)
  added : (r : Row Y) → Contains new r → Contains old r ⊎ (r ≡ (k, v))

module _ {Y : Type 0} where
  first-or-rest : (e r : Row Y) (es : List (Row Y)) → Contains (e ∷ es) r → (e ≡ r) ⊎ Contains es r
  first-or-rest e r es c = elim (Contains-append_cases (e ∷ []) es r c) [ inl one ↦ inl (one-contained e r one) | inr rest ↦ inr rest ]

  at-first : (e r : Row Y) (es : List (Row Y)) → e ≡ r → Contains (e ∷ es) r
  at-first e r es is = Contains-append_left (e ∷ []) es r (contains-one e r is)

  at-rest : (e r : Row Y) (es : List (Row Y)) → Contains es r → Contains (e ∷ es) r
  at-rest e r es c = Contains-append_right (e ∷ []) es r c

  -- a new key goes to its place
  inserted : (k : Vec ℕ Y) (v : Entry) (es : List (Row Y)) → lookup (is_at (by_units k)) es ≡ None → Inserted k v es (insert_entry by_units es k v)
  inserted k v [] none = record { stays = λ r c. absurd (none-contained r c); there = contains-one (k, v) (k, v) refl; added = λ r c. inr (sym (one-contained (k, v) r c)) }
  inserted k v (e ∷ es) none = by (by_units k e.0) refl (inserted k v es)
    where
      low : List (Row Y)
      low = (k, v) ∷ e ∷ es

      same : List (Row Y)
      same = (e.0, v) ∷ es

      high : List (Row Y)
      high = e ∷ insert_entry by_units es k v

      by : (o : Ordering) → by_units k e.0 ≡ o → (lookup (is_at (by_units k)) es ≡ None → Inserted k v es (insert_entry by_units es k v)) → Inserted k v (e ∷ es) (match_ordering (by_units k e.0) low same high)
      by Less is rest = subst (Inserted k v (e ∷ es)) (sym (ap (λ o. match_ordering o low same high) is)) (record {
        stays = λ r c. at-rest (k, v) r (e ∷ es) c;
        there = at-first (k, v) (k, v) (e ∷ es) refl;
        added = λ r c. elim (first-or-rest (k, v) r (e ∷ es) c) [ inl one ↦ inr (sym one) | inr old ↦ inl old ];
      })
      by Equal is rest = let bad : Some e.1 ≡ None = sym (ap (λ o. cond (is_eq o) (Some e.1) (lookup (is_at (by_units k)) es)) is) ∙ none in absurd (cc)
      by Greater is rest =
          let absent : lookup (is_at (by_units k)) es ≡ None = sym (ap (λ o. cond (is_eq o) (Some e.1) (lookup (is_at (by_units k)) es)) is) ∙ none in
          let made = rest absent in
          subst (Inserted k v (e ∷ es)) (sym (ap (λ o. match_ordering o low same high) is)) (record {
            stays = λ r c. elim (first-or-rest e r es c) [ inl one ↦ at-first e r (insert_entry by_units es k v) one | inr old ↦ at-rest e r (insert_entry by_units es k v) (made.stays r old) ];
            there = at-rest e (k, v) (insert_entry by_units es k v) made.there;
            added = λ r c. elim (first-or-rest e r (insert_entry by_units es k v) c) [
              | inl one ↦ inl (at-first e r es one)
              | inr new ↦ elim (made.added r new) [ inl old ↦ inl (at-rest e r es old) | inr is_new ↦ inr is_new ]
            ];
          })

  -- an entry under a new key
  pub adds-new : (entry : Entry) (key : Vec ℕ Y) (us : List ℕ) (old new : List (Row Y)) → key.items ≡ units_of entry.name → us ≡ key.items → lookup (λ x. is_eq (slice_cmp nat_cmp us x.items)) old ≡ None
      → new ≡ insert_entry by_units old key entry → Adds entry old new
  adds-new entry key us old new spelled same absent is =
      let here : lookup (is_at (by_units key)) old ≡ None = subst (λ q. lookup (λ x. is_eq (slice_cmp nat_cmp q x.items)) old ≡ None) same absent in
      let made : Inserted key entry old new = subst (Inserted key entry old) (sym is) (inserted key entry old here) in
      record {
        stays = made.stays;
        there = ((key, entry), made.there, refl);
        added = λ r c. elim (made.added r c) [ inl before ↦ inl before | inr one ↦ inr (ap (λ z. z.0.items) one ∙ spelled, ap (λ z. z.1) one) ];
      }

  -- what is looked up stands there
  looked-up : (test : Vec ℕ Y → Bool) (es : List (Row Y)) (v : Entry) → lookup test es ≡ Some v → (r : Row Y) × Contains es r × (r.1 ≡ v)
  looked-up test [] v e = absurd (cc)
  looked-up test (x ∷ es) v e = by (test x.0) refl (looked-up test es v)
    where
      by : (b : Bool) → test x.0 ≡ b → (lookup test es ≡ Some v → (r : Row Y) × Contains es r × (r.1 ≡ v)) → (r : Row Y) × Contains (x ∷ es) r × (r.1 ≡ v)
      by true is rest = (x, at-first x x es refl, some-same (sym (ap (λ b. cond b (Some x.1) (lookup test es)) is) ∙ e))
      by false is rest = let found = rest (sym (ap (λ b. cond b (Some x.1) (lookup test es)) is) ∙ e) in (found.0, at-rest x found.0 es found.1, found.2)

  -- an entry of its name is there
  pub adds-known : (entry known : Entry) (test : Vec ℕ Y → Bool) (old : List (Row Y)) → lookup test old ≡ Some known → known.name ≡ entry.name → Adds entry old old
  adds-known entry known test old found same =
      let at = looked-up test old known found in
      record { stays = λ r c. c; there = (at.0, at.1, ap (λ z. z.name) at.2 ∙ same); added = λ r c. inl c }

  -- the values of ordered keys are in order
  key-at : (es : List (Row Y)) (j : ℕ) (r : Row Y) (d : Vec ℕ Y) → slice_get es j ≡ Some r → slice_index_or (keys_of es) j d ≡ r.0
  key-at [] j r d e = absurd (cc)
  key-at (x ∷ es) zero r d e = ap (λ z. z.0) (some-same e)
  key-at (x ∷ es) (suc j) r d e = key-at es j r d e

  value-at : (es : List (Row Y)) (j : ℕ) (r : Row Y) (d : Entry) → slice_get es j ≡ Some r → slice_index_or (values_of es) j d ≡ r.1
  value-at [] j r d e = absurd (cc)
  value-at (x ∷ es) zero r d e = ap (λ z. z.1) (some-same e)
  value-at (x ∷ es) (suc j) r d e = value-at es j r d e

  row-at : (es : List (Row Y)) (j : ℕ) → j < length (values_of es) → (r : Row Y) × (slice_get es j ≡ Some r) × (j < length (keys_of es))
  row-at [] j l = absurd (omega (arith, l))
  row-at (x ∷ es) zero l = (x, refl, omega arith)
  row-at (x ∷ es) (suc j) l = let rest = row-at es j (omega (arith, l)) in (rest.0, rest.1, omega (arith, rest.2))

  before : (a b : Row Y) → a.0.items ≡ units_of a.1.name → b.0.items ≡ units_of b.1.name → by_units a.0 b.0 ≡ Less → IsBefore a.1 b.1
  before a b spelled-a spelled-b less =
      ap (λ us. is_lt (slice_cmp nat_cmp us (units_of b.1.name))) (sym spelled-a) ∙ ap (λ us. is_lt (slice_cmp nat_cmp a.0.items us)) (sym spelled-b) ∙ ap is_lt less

  pub in-order : (es : List (Row Y)) → IsStrictlySortedBy by_units (keys_of es) → ((r : Row Y) → Contains es r → r.0.items ≡ units_of r.1.name) → AllPairs IsBefore (values_of es)
  unfolding IsStrictlySortedBy
  in-order [] sorted spelled i j d l m = absurd (omega (arith, m))
  in-order (e ∷ es) sorted spelled zero zero d l m = absurd (omega (arith, l))
  in-order (e ∷ es) sorted spelled zero (suc j) d l m =
      let r = row-at es j (omega (arith, m)) in
      let less : by_units e.0 (slice_index_or (keys_of es) j e.0) ≡ Less = All-from_recursion (λ y. by_units e.0 y ≡ Less) (keys_of es) sorted.0 j e.0 r.2 in
      let here : by_units e.0 r.0.0 ≡ Less = subst (λ y. by_units e.0 y ≡ Less) (key-at es j r.0 e.0 r.1) less in
      let is : IsBefore e.1 r.0.1 = before e r.0 (spelled e (at-first e e es refl)) (spelled r.0 (at-rest e r.0 es (contains-get es j r.0 r.1))) here in
      subst (IsBefore e.1) (sym (value-at es j r.0 d r.1)) is
  in-order (e ∷ es) sorted spelled (suc i) zero d l m = absurd (omega (arith, l))
  in-order (e ∷ es) sorted spelled (suc i) (suc j) d l m = in-order es sorted.1 (λ r c. spelled r (at-rest e r es c)) i j d (omega (arith, l)) (omega (arith, m))

  -- the entries of the first outcomes
  pub record BookTo (ps : List Place) (outcomes : List Outcome) (i : ℕ) (rows : List (Row Y)) : Type 0 where
    pub spelled : (r : Row Y) → Contains rows r → r.0.items ≡ units_of r.1.name
    pub from : (r : Row Y) → Contains rows r → IsFrom ps outcomes r.1
    pub all : (k : ℕ) (p : Place) (home : ℕ) (local : List ℕ) → k < i → slice_get ps k ≡ Some p → slice_get outcomes k ≡ Some (EndsAt (Local home local)) → (r : Row Y) × Contains rows r × (r.1.name ≡ p.name)

  pub book-none : (ps : List Place) (outcomes : List Outcome) (rows : List (Row Y)) → rows ≡ [] → BookTo ps outcomes 0 rows
  book-none ps outcomes rows none = record {
    spelled = λ r c. absurd (none-contained r (subst (λ z. Contains z r) none c));
    from = λ r c. absurd (none-contained r (subst (λ z. Contains z r) none c));
    all = λ k p home local l. absurd (omega (arith, l));
  }

  -- an outcome that is no binding adds nothing
  book-skipped : (ps : List Place) (outcomes : List Outcome) (i : ℕ) (o : Outcome) (old new : List (Row Y)) → slice_get outcomes i ≡ Some o → ((home : ℕ) (local : List ℕ) → o ≡ EndsAt (Local home local) → ⊥) → new ≡ old
      → BookTo ps outcomes i old → BookTo ps outcomes (i + 1) new
  book-skipped ps outcomes i o old new at other is to = subst (BookTo ps outcomes (i + 1)) (sym is) (record {
    spelled = to.spelled;
    from = to.from;
    all = λ k p home local l e f. elim (cases_lt k i) [
      | inl early ↦ to.all k p home local early e f
      | inr late ↦ (let same : k ≡ i = omega (arith, l, late) in absurd (other home local (one-there outcomes i o (EndsAt (Local home local)) at (subst (λ n. slice_get outcomes n ≡ Some (EndsAt (Local home local))) same f))))
    ];
  })

  book-added : (ps : List Place) (outcomes : List Outcome) (i : ℕ) (q : Place) (home : ℕ) (local : List ℕ) (old new : List (Row Y)) → slice_get ps i ≡ Some q → slice_get outcomes i ≡ Some (EndsAt (Local home local))
      → Adds (entry_at q home local) old new → BookTo ps outcomes i old → BookTo ps outcomes (i + 1) new
  book-added ps outcomes i q home local old new there at adds to = record {
    spelled = λ r c. elim (adds.added r c) [ inl before ↦ to.spelled r before | inr one ↦ one.0 ∙ ap (λ z. units_of z.name) (sym one.1) ];
    from = λ r c. elim (adds.added r c) [
      | inl before ↦ to.from r before
      | inr one ↦ subst (IsFrom ps outcomes) (sym one.1) (record { at = i; place = q; asked = there; answered = at; named = refl })
    ];
    all = λ k p h l less e f. elim (cases_lt k i) [
      | inl early ↦ (let r = to.all k p h l early e f in (r.0, adds.stays r.0 r.1, r.2))
      | inr late ↦
          (let same : k ≡ i = omega (arith, less, late) in
          let is : q ≡ p = one-there ps i q p there (subst (λ n. slice_get ps n ≡ Some p) same e) in
          (adds.there.0, adds.there.1, adds.there.2 ∙ ap (λ z. z.name) is))
    ];
  }

  pub book-more : (ps : List Place) (outcomes : List Outcome) (i : ℕ) (q : Place) (o : Outcome) (old new : List (Row Y)) → slice_get ps i ≡ Some q → slice_get outcomes i ≡ Some o → AddsOutcome q o old new
      → BookTo ps outcomes i old → BookTo ps outcomes (i + 1) new
  book-more ps outcomes i q Unresolved old new there at is to = book-skipped ps outcomes i Unresolved old new at (λ home local e. absurd (cc)) is to
  book-more ps outcomes i q Ambiguous old new there at is to = book-skipped ps outcomes i Ambiguous old new at (λ home local e. absurd (cc)) is to
  book-more ps outcomes i q (EndsAt (Host index)) old new there at is to = book-skipped ps outcomes i (EndsAt (Host index)) old new at (λ home local e. absurd (cc)) is to
  book-more ps outcomes i q (EndsAt (Local home local)) old new there at adds to = book-added ps outcomes i q home local old new there at adds to

  name-there : (xs : List (Row Y)) (k : ℕ) (z : Row Y) → slice_get xs k ≡ Some z → slice_get (map (λ x. x.name) (values_of xs)) k ≡ Some z.1.name
  name-there [] k z e = absurd (cc)
  name-there (x ∷ xs) zero z e = ap (λ w. Some w.1.name) (some-same e)
  name-there (x ∷ xs) (suc k) z e = name-there xs k z e

  value-there : (rows : List (Row Y)) (r : Row Y) → Contains rows r → Contains (map (λ e. e.name) (values_of rows)) r.1.name
  value-there rows r c = let at = get-contains rows r c in contains-get (map (λ x. x.name) (values_of rows)) at.0 r.1.name (name-there rows at.0 r at.1)

  row-of : (rows : List (Row Y)) (k : ℕ) (e : Entry) → slice_get (values_of rows) k ≡ Some e → (r : Row Y) × (slice_get rows k ≡ Some r) × (r.1 ≡ e)
  row-of [] k e h = absurd (cc)
  row-of (x ∷ rows) zero e h = (x, refl, some-same h)
  row-of (x ∷ rows) (suc k) e h = row-of rows k e h

  -- a book with all its entries in order
  pub picked : (ps : List Place) (outcomes : List Outcome) (i : ℕ) (rows : List (Row Y)) (es : List Entry) → length outcomes < i + 1 → IsStrictlySortedBy by_units (keys_of rows) → BookTo ps outcomes i rows → es ≡ values_of rows → IsPicked ps outcomes es
  picked ps outcomes i rows es over sorted to is = subst (IsPicked ps outcomes) (sym is) (record {
    ordered = in-order rows sorted to.spelled;
    from = λ e c. (
        let at = get-contains (values_of rows) e c in
        let r = row-of rows at.0 e at.1 in
        subst (IsFrom ps outcomes) r.2 (to.from r.0 (contains-get rows at.0 r.0 r.1)));
    all = λ k p home local e f. (
        let inside : k < length outcomes = slice_get_within outcomes k (EndsAt (Local home local)) f in
        let r = to.all k p home local (omega (arith, inside, over)) e f in
        subst (Contains (map (λ x. x.name) (values_of rows))) r.2 (value-there rows r.0 r.1));
  })
