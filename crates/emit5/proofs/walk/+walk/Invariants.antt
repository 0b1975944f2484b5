use Rattle.std.proofs.Common.{◌≡◌, drop, map}
use Rattle.emission_rules.specs.Emission.{case_emitted, stat_emitted}
use Rattle.emission_rules.specs.Scenes.{in_turn, threaded}
use Rattle.emit5.proofs.walk.+walk.Given as goal

abbrev pub invariant-cases-loop-one : goal.invariant-cases-loop-one
invariant-cases-loop-one l =
    in_turn (map case_emitted (drop l.one-index l.source)) l.made.items l.scene
    ≡ in_turn (map case_emitted l.source) l.initial.made.items l.initial.scene

abbrev pub invariant-stats-loop-one : goal.invariant-stats-loop-one
invariant-stats-loop-one l =
    threaded (map stat_emitted (drop l.one-index l.source)) l.out l.scene
    ≡ threaded (map stat_emitted l.source) l.initial.out l.initial.scene
