-- That what is emitted may be printed.
use Rattle.std.specs.Prelude.{◌≡◌, ℕ, Bool, true, ◌&&◌, not, length, List, [], ◌∷◌, map}
use Rattle.std.specs.List.{list_all}
use Rattle.core_ast.specs.declared.whole.Core.{Core}
use Rattle.core_ast.specs.Lawful.{IsLawfulFor}
use Rattle.es_outside.specs.HostNames.{is_host_name}
use Rattle.es5_ast.specs.declared.tree.Stat5.{Stat5}
use Rattle.es5_ast.specs.Early.{joined, of_function, stat_pairs}
use Rattle.es5_ast.specs.Lexical.{is_one_of}
use Rattle.es5_printable.specs.Printable.{is_printable, stat_fit, stats_fit}
use Rattle.emission_rules.specs.Functions.{emitted}
use Rattle.emission_laws.specs.Writable.{IsWritableWith}

abbrev pub names_differ : List (List ℕ) → Bool
names_differ [] = true
names_differ (n ∷ ns) = not (is_one_of n ns) && names_differ ns

-- names that hosts may have, each once
pub record AreHosts (hosts : List (List ℕ)) : Type 0 where
  pub named : list_all is_host_name hosts ≡ true
  pub differ : names_differ hosts ≡ true

-- statements that may be printed in the body of a function
pub record MayStandInside (statements : List Stat5) : Type 0 where
  pub fit : stats_fit true true (map stat_fit statements) ≡ true
  pub legal : joined (λ s. stat_pairs s (of_function true)) statements ≡ []

-- The script of a lawful core whose texts, keys, cases and cells can be written may be printed, whatever its scopes, yields and
-- primitives, if its helpers may.
abbrev pub EmittedArePrintable : Type 0
EmittedArePrintable = (core : Core) (hosts : List (List ℕ)) (helpers : List Stat5)
    → IsLawfulFor (length hosts) core → IsWritableWith (length hosts) core → AreHosts hosts → MayStandInside helpers
    → is_printable (emitted core hosts helpers) ≡ true
