-- The names that hosts are given may be names in a script, each once.
use Rattle.std.specs.List.{list_all}
use Rattle.std.specs.Str.{bytes_eq}
use Rattle.std.specs.Cmp.Lexicographic.{bytes_decides}
use Rattle.std.proofs.Common.{◌≡◌, ℕ, zero, suc, ◌<◌, true, false, not, ◌||◌, length, List, [], ◌∷◌, refl, ap, arith, ◌∙◌}
use Rattle.es_outside.specs.HostNames.{is_host_name}
use Rattle.es_outside.specs.NamedList.{name_at}
use Rattle.es5_ast.specs.Lexical.{is_one_of}
use Rattle.pass_rules.proofs.pass_laws.Within.{both}
use Rattle.lawful_passes.proofs.Labels.{no_by}
use Rattle.emission_laws.specs.Laws.{names_differ}
use Rattle.printable_scripts.specs.Laws.{HostNamesAreHosts}

all_named : (ns : List (List ℕ)) → ((k : ℕ) → k < length ns → is_host_name (name_at ns k) ≡ true) → list_all is_host_name ns ≡ true
all_named [] f = refl
all_named (n ∷ ns) f = both (f zero (omega arith)) (all_named ns (λ k l. f (suc k) (omega (arith, l))))

none_is : (n : List ℕ) (ns : List (List ℕ)) → ((k : ℕ) → k < length ns → n ≡ name_at ns k → ⊥) → is_one_of n ns ≡ false
none_is n [] f = refl
none_is n (m ∷ ns) f =
    let h = no_by (bytes_eq n m) (λ a. f zero (omega arith) ((bytes_decides n m).0 a)) in
    ap (λ b. b || is_one_of n ns) h ∙ none_is n ns (λ k l. f (suc k) (omega (arith, l)))

all_differ : (ns : List (List ℕ)) → ((j k : ℕ) → j < k → k < length ns → name_at ns j ≡ name_at ns k → ⊥) → names_differ ns ≡ true
all_differ [] f = refl
all_differ (n ∷ ns) f = both (ap not (none_is n ns (λ k l. f zero (suc k) (omega arith) (omega (arith, l))))) (all_differ ns (λ j k l m. f (suc j) (suc k) (omega (arith, l)) (omega (arith, m))))

pub host_names_are_hosts : HostNamesAreHosts
host_names_are_hosts hosts h = record { named = all_named hosts h.lawful; differ = all_differ hosts (λ j k l m e. h.distinct k m j l e) }
