-- A finding as the program has it, and as the definitions of modules have it.
use Rattle.std.specs.Prelude.{Option, List, fold}
use Rattle.early_findings.specs.declared.finding.Finding.{Finding}
use Rattle.es6_static_semantics.specs.Findings.{Pair, earlier}

abbrev pub pair_of : Finding → Pair
pair_of f = record { rule = f.rule; at = f.at }

-- the one that comes first of these and of what was the first before
abbrev pub least_with : Option Pair → List Pair → Option Pair
least_with least pairs = fold earlier least pairs
