-- What is found at each name, as a name is pushed on a stack of declared names and taken off again.
use Rattle.std.proofs.Common.{◌≡◌, ℕ, ◌+◌, ◌-◌, ◌<◌, Bool, true, false, cond, List, [], ◌∷◌, ◌++◌, length, drop, map, reverse, unwrap_or, Option, Some, None, Result, OnOk, OnErr, Ok, Err, refl, sym, ap, subst, ◌∙◌, inl, inr, arith}
use Rattle.std.specs.Str.{bytes_eq}
use Rattle.std.specs.Cmp.Lexicographic.{bytes_decides, nat_list_eq_equiv}
use Rattle.std.specs.Map.{lookup, IsKeyTest, AreApart, KeepsOthers}
use Rattle.std.specs.HashMap.{UpdatesBy, get_by}
use Rattle.std.proofs.lemmas.Bool.{cases_Bool, cond-true, cond-false}
use Rattle.std.proofs.lemmas.List.{reverse-append, length-drop, drop-drop}
use Rattle.es6_static_semantics.specs.Outside.{Known, declared_as}
use Rattle.module_scopes.specs.declared.environment.Declared.{Declared}
use Rattle.module_scopes.specs.Lookup.{AgreeWith, Innermost, Key, declaration, is_name}

-- ---- the map

other_entries : {K X : Type 0} (eq : K → K → Bool) (test : K → Bool) (old new : List (K × X)) → KeepsOthers eq test old new → (other : K → Bool) → IsKeyTest eq other → AreApart test other → lookup other new ≡ lookup other old
unfolding KeepsOthers
other_entries eq test old new h = h

apart : (key q : List ℕ) → bytes_eq key q ≡ false → (k : Key) → is_name key k ≡ true → is_name q k ≡ false
apart key q n k y = nat_list_eq_equiv.symm q k.items ∙ sym (nat_list_eq_equiv.congr key k.items q y) ∙ n

-- what is found at a name after a change at another
pub get_by-updates : (key : List ℕ) (m n : Innermost) (w : Option (Option Bool)) → UpdatesBy (λ x y. bytes_eq x.items y.items) (is_name key) m n w → (q : List ℕ) → get_by (is_name q) n ≡ cond (bytes_eq key q) w (get_by (is_name q) m)
get_by-updates key m n w h q =
    elim (cases_Bool (bytes_eq key q)) [
      | inl y ↦ subst (λ l. get_by (is_name l) n ≡ w) ((bytes_decides key q).0 y) h.1 ∙ sym (cond-true (bytes_eq key q) w (get_by (is_name q) m) y)
      | inr e ↦ other_entries _ _ _ _ h.3 _ (λ x y. nat_list_eq_equiv.congr q x.items y.items) (apart key q e) ∙ sym (cond-false (bytes_eq key q) w (get_by (is_name q) m) e)
    ]

pub unwrap_or-cond : (b : Bool) (x : Option Bool) (found : Option (Option Bool)) → unwrap_or (cond b (Some x) found) None ≡ cond b x (unwrap_or found None)
unwrap_or-cond true x found = refl
unwrap_or-cond false x found = refl

-- ---- the stack

-- after a name is pushed
pub pushed : (found new : List ℕ → Option Bool) (stack : List Declared) (d : Declared) → AgreeWith found (reverse stack) → d.outer ≡ found d.name.items
    → ((name : List ℕ) → new name ≡ cond (bytes_eq d.name.items name) (Some d.is_host) (found name)) → AgreeWith new (reverse (stack ++ d ∷ []))
pushed found new stack d h outer e =
    let more : AgreeWith new (d ∷ reverse stack) = record {
      innermost = λ name. e name ∙ ap (cond (bytes_eq d.name.items name) (Some d.is_host)) (h.innermost name);
      outer = (outer ∙ h.innermost d.name.items, h.outer);
    } in
    subst (λ ds. AgreeWith new ds) (sym (reverse-append stack (d ∷ []))) more

on_top : (found : List ℕ → Option Bool) (stack rest : List Declared) (d : Declared) → AgreeWith found (reverse stack) → stack ≡ rest ++ d ∷ [] → AgreeWith found (d ∷ reverse rest)
on_top found stack rest d h e = subst (λ ds. AgreeWith found ds) (ap reverse e ∙ reverse-append rest (d ∷ [])) h

-- a name that is on top is found
pub found_on_top : (found : List ℕ → Option Bool) (stack rest : List Declared) (d : Declared) → AgreeWith found (reverse stack) → stack ≡ rest ++ d ∷ [] → found d.name.items ≡ Some d.is_host
found_on_top found stack rest d h e =
    let name = d.name.items in
    (on_top found stack rest d h e).innermost name
    ∙ cond-true (bytes_eq name name) (Some d.is_host) (declared_as name (map declaration (reverse rest))) ((bytes_decides name name).1 refl)

-- after it is taken off
pub popped : (found new : List ℕ → Option Bool) (stack rest : List Declared) (d : Declared) → AgreeWith found (reverse stack) → stack ≡ rest ++ d ∷ []
    → ((name : List ℕ) → new name ≡ cond (bytes_eq d.name.items name) d.outer (found name)) → AgreeWith new (reverse rest)
popped found new stack rest d h e same =
    let top = on_top found stack rest d h e in
    let below : List Known = map declaration (reverse rest) in
    record {
      innermost = λ name. elim (cases_Bool (bytes_eq d.name.items name)) [
        | inl y ↦
            same name ∙ cond-true (bytes_eq d.name.items name) d.outer (found name) y ∙ top.outer.0 ∙ ap (λ n. declared_as n below) ((bytes_decides d.name.items name).0 y)
        | inr n ↦
            same name ∙ cond-false (bytes_eq d.name.items name) d.outer (found name) n ∙ top.innermost name
            ∙ cond-false (bytes_eq d.name.items name) (Some d.is_host) (declared_as name below) n
      ];
      outer = top.outer.1;
    }

-- a fact of the good outcome holds where the bad one can't be
pub holds_unless : {T E : Type 0} (r : Result T E) (P : Type 0) (found : Option Bool) (b : Bool) → OnOk r P → OnErr r (found ≡ None) → found ≡ Some b → P
holds_unless (Ok x) P found b h none some = h
holds_unless (Err e) P found b h none some = absurd (cc)

pub drop-pop : {X : Type 0} (s : List X) (mark : ℕ) → mark < length s → drop (length (drop 1 s) - mark) (drop 1 s) ≡ drop (length s - mark) s
drop-pop s mark h =
    let n : 1 + (length (drop 1 s) - mark) ≡ length s - mark = omega (arith, length-drop 1 s) in
    drop-drop (length (drop 1 s) - mark) 1 s ∙ ap (λ k. drop k s) n
