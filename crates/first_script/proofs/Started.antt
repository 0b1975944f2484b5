-- The module instantiated and the script entered are states that belong together.
use Rattle.std.proofs.Common.{◌≡◌, ℕ, ◌+◌, Bool, true, false, ◌||◌, List, [], ◌∷◌, ◌++◌, Option, Some, None, cond, map, refl, sym, ◌∙◌, ap, subst, ◌⊎◌, inl, inr}
use Rattle.std.specs.Str.{bytes_eq}
use Rattle.std.specs.List.{position_from}
use Rattle.shared_meaning.specs.Ending.{DoesTheSame, SameCall}
use Rattle.es_outside.specs.declared.primitive.Primitive.TheVariants as prim
use Rattle.first_trees.specs.declared.Module.{Module}
use Rattle.first_trees.specs.declared.Item.{Item}
use Rattle.first_trees.specs.declared.Item.TheVariants as item
use Rattle.first_target.specs.declared.Stat5.{Stat5}
use Rattle.first_target.specs.Names.{known_globals}
use Rattle.first_forms.specs.Names.{is_one_of}
use Rattle.first_forms.specs.WellFormed.{AreImports, AreItems, AreModuleItems, IsWellFormed}
use Rattle.meaning6.specs.State as six
use Rattle.meaning6.specs.Step as step6
use Rattle.first_target.specs.State as five
use Rattle.first_target.specs.Step as step5
use Rattle.runs.proofs.Simulated.{simulated}
use Rattle.first_script.proofs.Names.{same_names, bytes_eq-refl, bytes_eq-false, name_cases, bool_cases, true_not_false, or_cases}
use Rattle.first_script.proofs.Lowered.{LowersItems, no_items, low_declaration, low_statement, LowersModule, low_import, low_plain}
use Rattle.first_script.proofs.Scopes.{HasHost, Agrees}
use Rattle.first_script.proofs.Related.{directive, Related, directive_done, import_next, starts, rank, simulates}

-- no declared name becomes a host's name or a known global
pub record IsFresh (suffix : List ℕ) (hosts : List (List ℕ)) : Type 0 where
  pub no_host : (x f : List ℕ) → is_one_of f hosts ≡ true → x ++ suffix ≡ f → ⊥
  pub no_global : (x : List ℕ) → is_one_of (x ++ suffix) known_globals ≡ false

-- a test of a name among names is a test of the first and of the others
among_others : (f h : List ℕ) (hs : List (List ℕ)) → is_one_of f (h ∷ hs) ≡ true → bytes_eq h f ≡ false → is_one_of f hs ≡ true
among_others f h hs m differs = by_case (or_cases (bytes_eq f h) (is_one_of f hs) m)
  where
    by_case : (bytes_eq f h ≡ true) ⊎ (is_one_of f hs ≡ true) → is_one_of f hs ≡ true
    by_case (inl e) = absurd (true_not_false (bytes_eq h f) (ap (λ n. bytes_eq h n) (same_names f h e) ∙ bytes_eq-refl h) differs)
    by_case (inr e) = e

-- the number of a host among the hosts is the number of its global function
pub record IsNumbered (n : ℕ) (hosts : List (List ℕ)) (f : List ℕ) : Type 0 where
  pub host : ℕ
  pub source : position_from (λ (h : List ℕ). bytes_eq h f) n hosts ≡ Some host
  pub target : five.value_in (step5.host_entries n hosts) f ≡ Some (five.HostFunction host)

numbered : (n : ℕ) (hosts : List (List ℕ)) (f : List ℕ) → is_one_of f hosts ≡ true → IsNumbered n hosts f
numbered n [] f m = absurd (true_not_false false m refl)
numbered n (h ∷ hs) f m = by_name (name_cases h f) (λ differs. numbered (n + 1) hs f (among_others f h hs m differs))
  where
    by_name : (h ≡ f) ⊎ (bytes_eq h f ≡ false) → (bytes_eq h f ≡ false → IsNumbered (n + 1) hs f) → IsNumbered n (h ∷ hs) f
    by_name (inl e) later =
        let same : bytes_eq h f ≡ true = ap (λ x. bytes_eq h x) (sym e) ∙ bytes_eq-refl h in
        record {
          host = n;
          source = ap (λ b. cond b (Some n) (position_from (λ (x : List ℕ). bytes_eq x f) (n + 1) hs)) same;
          target = ap (λ b. cond b (Some (five.HostFunction n)) (five.value_in (step5.host_entries (n + 1) hs) f)) same;
        }
    by_name (inr differs) later =
        let rest = later differs in
        record {
          host = rest.host;
          source = ap (λ b. cond b (Some n) (position_from (λ (x : List ℕ). bytes_eq x f) (n + 1) hs)) differs ∙ rest.source;
          target = ap (λ b. cond b (Some (five.HostFunction n)) (five.value_in (step5.host_entries (n + 1) hs) f)) differs ∙ rest.target;
        }

-- a name that no host has names no global function
unnumbered : (n : ℕ) (hosts : List (List ℕ)) (f : List ℕ) → is_one_of f hosts ≡ false → five.value_in (step5.host_entries n hosts) f ≡ None
unnumbered n [] f m = refl
unnumbered n (h ∷ hs) f m =
    let differs : bytes_eq h f ≡ false = bytes_eq-false h f (λ e. true_not_false (is_one_of f (h ∷ hs)) (ap (λ b. b || is_one_of f hs) (ap (λ x. bytes_eq f x) e ∙ bytes_eq-refl f)) m) in
    ap (λ b. cond b (Some (five.HostFunction n)) (five.value_in (step5.host_entries (n + 1) hs) f)) differs ∙ unnumbered (n + 1) hs f (later (bytes_eq f h) (is_one_of f hs) m)
  where
    later : (a b : Bool) → (a || b) ≡ false → b ≡ false
    later true b e = absurd (true_not_false true refl e)
    later false b e = e

-- the entries of an import bind each name to its host
imported_entry : (hosts names : List (List ℕ)) (rest : List six.Entry) (f : List ℕ) → is_one_of f names ≡ true → six.binding_in (map (step6.import_entry hosts) names ++ rest) f ≡ Some (step6.import_binding (position_from (λ (h : List ℕ). bytes_eq h f) 0 hosts))
imported_entry hosts [] rest f m = absurd (true_not_false false m refl)
imported_entry hosts (n ∷ names) rest f m = by_name (name_cases n f) (λ differs. imported_entry hosts names rest f (among_others f n names m differs))
  where
    binding_of : List ℕ → six.Binding
    binding_of x = step6.import_binding (position_from (λ (h : List ℕ). bytes_eq h x) 0 hosts)

    by_name : (n ≡ f) ⊎ (bytes_eq n f ≡ false) → (bytes_eq n f ≡ false → six.binding_in (map (step6.import_entry hosts) names ++ rest) f ≡ Some (step6.import_binding (position_from (λ (h : List ℕ). bytes_eq h f) 0 hosts))) → six.binding_in (map (step6.import_entry hosts) (n ∷ names) ++ rest) f ≡ Some (step6.import_binding (position_from (λ (h : List ℕ). bytes_eq h f) 0 hosts))
    by_name (inl e) later =
        let same : bytes_eq n f ≡ true = ap (λ x. bytes_eq n x) (sym e) ∙ bytes_eq-refl n in
        ap (λ b. cond b (Some (step6.import_binding (position_from (λ (h : List ℕ). bytes_eq h n) 0 hosts))) (six.binding_in (map (step6.import_entry hosts) names ++ rest) f)) same ∙ ap (λ x. Some (step6.import_binding (position_from (λ (h : List ℕ). bytes_eq h x) 0 hosts))) e
    by_name (inr differs) later =
        ap (λ b. cond b (Some (step6.import_binding (position_from (λ (h : List ℕ). bytes_eq h n) 0 hosts))) (six.binding_in (map (step6.import_entry hosts) names ++ rest) f)) differs ∙ later differs

-- each imported name is a host's
imported_hosts : (hosts done names : List (List ℕ)) → AreImports hosts done names → (f : List ℕ) → is_one_of f names ≡ true → is_one_of f hosts ≡ true
imported_hosts hosts done [] i f m = absurd (true_not_false false m refl)
imported_hosts hosts done (n ∷ names) i f m = by_name (name_cases n f) (λ differs. imported_hosts hosts (done ++ n ∷ []) names i.1 f (among_others f n names m differs))
  where
    by_name : (n ≡ f) ⊎ (bytes_eq n f ≡ false) → (bytes_eq n f ≡ false → is_one_of f hosts ≡ true) → is_one_of f hosts ≡ true
    by_name (inl e) later = subst (λ x. is_one_of x hosts ≡ true) e (i.0).host
    by_name (inr differs) later = later differs

module _ (suffix : List ℕ) (hosts : List (List ℕ)) (fresh : IsFresh suffix hosts) where
  no_such_host : (x : List ℕ) → is_one_of (x ++ suffix) hosts ≡ false
  no_such_host x = by_case (bool_cases (is_one_of (x ++ suffix) hosts))
    where
      by_case : (is_one_of (x ++ suffix) hosts ≡ true) ⊎ (is_one_of (x ++ suffix) hosts ≡ false) → is_one_of (x ++ suffix) hosts ≡ false
      by_case (inl e) = absurd (fresh.no_host x (x ++ suffix) e refl)
      by_case (inr e) = e

  -- the script declares no name of a host or of a known global
  no_clash : (items : List Item) (stats : List Stat5) → LowersItems suffix items stats → step5.first_clash (step5.host_entries 0 hosts) stats ≡ None
  no_clash items stats no_items = refl
  no_clash items stats (low_declaration {at5 = at5} {name = x} {items = rest} {stats = stats'} l li) =
      ap (λ b. cond (b || step5.is_host (five.value_in (step5.host_entries 0 hosts) (x ++ suffix))) (Some at5) (step5.first_clash (step5.host_entries 0 hosts) stats')) (fresh.no_global x)
      ∙ ap (λ o. cond (step5.is_host o) (Some at5) (step5.first_clash (step5.host_entries 0 hosts) stats')) (unnumbered 0 hosts (x ++ suffix) (no_such_host x))
      ∙ no_clash rest stats' li
  no_clash items stats (low_statement {items = rest} {stats = stats'} l li) = no_clash rest stats' li

  -- what has a binding keeps it when names are declared
  still_bound : (entries : List five.Entry5) (name f : List ℕ) (v : five.Value5) (o : Option five.Value5) → five.value_in entries name ≡ o → five.value_in entries f ≡ Some v → five.value_in (step5.with_var entries name o) f ≡ Some v
  still_bound entries name f v (Some w) is h = h
  still_bound entries name f v None is h = by_name (name_cases name f)
    where
      by_name : (name ≡ f) ⊎ (bytes_eq name f ≡ false) → five.value_in (step5.with_var entries name None) f ≡ Some v
      by_name (inl e) = absurd (let none : Some v ≡ None = sym h ∙ ap (λ n. five.value_in entries n) (sym e) ∙ is in cc)
      by_name (inr differs) = ap (λ b. cond b (Some (five.PrimitiveValue prim.Undefined)) (five.value_in entries f)) differs ∙ h

  past_vars : (names : List (List ℕ)) (entries : List five.Entry5) (f : List ℕ) (v : five.Value5) → five.value_in entries f ≡ Some v → five.value_in (step5.with_vars entries names) f ≡ Some v
  past_vars [] entries f v h = h
  past_vars (n ∷ names) entries f v h = past_vars names (step5.with_var entries n (five.value_in entries n)) f v (still_bound entries n f v (five.value_in entries n) refl h)

  -- at the start the records agree in the scope of the import
  agrees_at_start : (names : List (List ℕ)) (items : List Item) (stats : List Stat5) → AreImports hosts [] names → LowersItems suffix items stats → Agrees suffix (record { imported = names; declared = [] }) (step6.module_entries hosts (item.Import names ∷ items)) (step5.with_vars (step5.host_entries 0 hosts) (step5.var_names stats))
  agrees_at_start names items stats i li = record {
    values = λ name h. absurd (true_not_false false h refl);
    hosts = λ f h. has_host f h (numbered 0 hosts f (imported_hosts hosts [] names i f h));
    apart = λ x f h. fresh.no_host x f (imported_hosts hosts [] names i f h);
  }
    where
      has_host : (f : List ℕ) → is_one_of f names ≡ true → IsNumbered 0 hosts f → HasHost (step6.module_entries hosts (item.Import names ∷ items)) (step5.with_vars (step5.host_entries 0 hosts) (step5.var_names stats)) f
      has_host f h n = record {
        host = n.host;
        source = imported_entry hosts names (step6.module_entries hosts items) f h ∙ ap (λ o. Some (step6.import_binding o)) n.source;
        target = past_vars (step5.var_names stats) (step5.host_entries 0 hosts) f (five.HostFunction n.host) n.target;
      }

  agrees_without_import : (entries : List six.Entry) (entries5 : List five.Entry5) → Agrees suffix (record { imported = []; declared = [] }) entries entries5
  agrees_without_import entries entries5 = record {
    values = λ name h. absurd (true_not_false false h refl);
    hosts = λ f h. absurd (true_not_false false h refl);
    apart = λ x f h. absurd (true_not_false false h refl);
  }

  plain_items : (items : List Item) (stats : List Stat5) → LowersItems suffix items stats → AreModuleItems hosts items → AreItems (record { imported = []; declared = [] }) items
  plain_items items stats no_items i = i
  plain_items items stats (low_declaration l li) i = i
  plain_items items stats (low_statement l li) i = i

  started : (items : List Item) (stats : List Stat5) (at : ℕ) → AreModuleItems hosts items → LowersModule suffix items stats → Related suffix (step6.start6 hosts (record { items = items })) (step5.start5 hosts (record { statements = directive at ∷ stats }))
  started items stats at i (low_import {names = []} l) = absurd i
  started items stats at i (low_import {names = n ∷ names} {items = rest} l) =
      starts hosts (item.Import (n ∷ names) ∷ rest) stats at (no_clash rest stats l)
      (import_next {names = n ∷ names} (agrees_at_start (n ∷ names) rest stats i.0 l) i.1 l)
  started items stats at i (low_plain l) =
      starts hosts items stats at (no_clash items stats l) (directive_done (agrees_without_import _ _) (plain_items items stats l i) l)

  -- the script does what the module means
  pub does_the_same : (m : Module) (stats : List Stat5) (at : ℕ) → IsWellFormed hosts m → LowersModule suffix m.items stats → DoesTheSame (step6.run6 hosts m) (step5.run5 hosts (record { statements = directive at ∷ stats }))
  does_the_same m stats at i l =
      simulated step6.step6 step5.step5 (Related suffix) SameCall (rank suffix) (simulates suffix) (step6.start6 hosts m) (step5.start5 hosts (record { statements = directive at ∷ stats })) (started m.items stats at i l)
