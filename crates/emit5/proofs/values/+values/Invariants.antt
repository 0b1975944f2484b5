use Rattle.std.proofs.Common.{◌≡◌, drop, map}
use Rattle.emission_rules.specs.Emission.{expr_emitted, link_emitted}
use Rattle.emission_rules.specs.Scenes.{in_turn, threaded}
use Rattle.emit5.proofs.values.+values.Given as goal

abbrev pub invariant-links-loop-one : goal.invariant-links-loop-one
invariant-links-loop-one l =
    threaded (map link_emitted (drop l.one-index l.source)) l.current l.scene
    ≡ threaded (map link_emitted l.source) l.initial.current l.initial.scene

abbrev pub invariant-exprs-loop-one : goal.invariant-exprs-loop-one
invariant-exprs-loop-one l =
    in_turn (map expr_emitted (drop l.one-index l.source)) l.made l.scene
    ≡ in_turn (map expr_emitted l.source) l.initial.made l.initial.scene
