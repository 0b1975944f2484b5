-- A pair as the program has it, and as the definition of scripts has it.
use Rattle.std.specs.Prelude.{Option, List, fold}
use Rattle.es5_early.specs.declared.pair.Rule.{Rule}
use Rattle.es5_early.specs.declared.pair.Rule.TheVariants.{Early, Outside}
use Rattle.es5_early.specs.declared.pair.Pair.{Pair}
use Rattle.es5_ast.specs.Early.{Rule5, F, V, Pair5, earlier}

abbrev pub rule_of : Rule → Rule5
rule_of (Early number) = F number
rule_of (Outside number) = V number

abbrev pub pair_of : Pair → Pair5
pair_of p = record { rule = rule_of p.rule; at = p.at }

-- the one that comes first of these and of what was the first before
abbrev pub least_with : Option Pair5 → List Pair5 → Option Pair5
least_with least pairs = fold earlier least pairs
