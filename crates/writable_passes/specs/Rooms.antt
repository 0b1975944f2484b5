-- Whether the labels that the passes make, and the names, can be written.
use Rattle.std.specs.Prelude.{ℕ, ◌+◌, Bool, not, ◌||◌, nat_lt, length, IsTrue}
use Rattle.std.specs.List.{list_all}
use Rattle.core_ast.specs.declared.whole.Core.{Core}
use Rattle.core_ast.specs.declared.whole.CoreFunction.{CoreFunction}
use Rattle.core_ast.specs.declared.whole.CorePart.{CorePart}
use Rattle.core_ast.specs.Lawful.{is_generator}
use Rattle.core_ast.specs.Mentions.{function_mentions, part_mentions}
use Rattle.emission_laws.specs.Writable.{label_fits}
use Rattle.lawful_passes.specs.StatesBefore.{stats_states}
use Rattle.pass_rules.specs.state_rules.States.{turn_label}
use Rattle.pass_rules.specs.yield_rules.Yields.{label_behind}

-- The first label behind those in a function and those that the flattening of yields may make there: a node under a label that is made
-- counts as a state, at least.
abbrev pub function_behind : CoreFunction → ℕ
function_behind f =
    label_behind (function_mentions f).labels 0 + (stats_states f.setup + stats_states f.body + stats_states f.step)

abbrev pub part_behind : CorePart → ℕ
part_behind p = label_behind (part_mentions p).labels 0 + (stats_states p.instantiate + stats_states p.body)

abbrev pub fits : ℕ → Bool
fits label = nat_lt label 18446744073709551616

abbrev pub LabelsHaveRoom : Core → Type 0
LabelsHaveRoom core =
    IsTrue (list_all (λ f. fits (function_behind f)) core.functions)
    × IsTrue (list_all (λ p. fits (part_behind p)) core.parts)

-- the label of the turns of a generator's machine
abbrev pub turn_fits : CoreFunction → Bool
turn_fits f = not (is_generator f.kind) || label_fits (turn_label f)

abbrev pub TurnsFit : Core → Type 0
TurnsFit core = IsTrue (list_all turn_fits core.functions)

-- names, and as many hosts, are told apart by numbers of 64 bits
abbrev pub NamesFit : ℕ → Core → Type 0
NamesFit hosts core = IsTrue (nat_lt (length core.fresh.hints + hosts) 18446744073709551616)
