-- What a step answers that leads to where a run stands.
use Rattle.es_outside.specs.declared.events.Step.{Step}
use Rattle.es_outside.specs.declared.events.Step.TheVariants as status
use Rattle.run_parts.specs.declared.stage.Stage.{Stage}
use Rattle.run_parts.specs.declared.stage.Stage.TheVariants.{Awaits, Goes, Lost, Over}

abbrev pub status_of : {C : Type 0} → Stage C → Step
status_of (Goes control) = status.Running
status_of (Awaits event) = status.Asks event
status_of (Over ending) = status.Is ending
status_of Lost = status.OutOfMemory
