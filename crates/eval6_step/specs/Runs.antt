-- What a run stands for.
use Rattle.std.specs.Prelude.{◌≡◌}
use Rattle.program_runs.specs.Positions.{Position}
use Rattle.run_parts.specs.declared.stage.Stage.{Stage}
use Rattle.run_parts.specs.declared.stage.Stage.TheVariants.{Goes, Lost}
use Rattle.source_meaning.specs.State.{Configuration, Control, Work}
use Rattle.eval6_step.specs.Stages.{position_at}
use Rattle.eval6_step.specs.declared.run6.Run6.{Run6}

abbrev pub stage_of : {W : Type 0} → Run6 W → Stage Control
stage_of run = run.stage

-- where it stands in the machine of source_meaning
abbrev pub position_of : {W : Type 0} → (W → Work) → Run6 W → Position Configuration
position_of seen run = position_at seen run.state run.stage

-- a run that doesn't go on is as it was, unless memory was wanting
abbrev pub StaysAt : {W : Type 0} → Stage Control → Run6 W → Run6 W → Stage Control → Type 0
StaysAt (Goes control) before after stage = Unit {0}
StaysAt other before after Lost = Unit {0}
StaysAt other before after stage = (stage ≡ other) × (after.state ≡ before.state)

abbrev pub Stays : {W : Type 0} → Run6 W → Run6 W → Type 0
Stays before after = StaysAt before.stage before after after.stage
