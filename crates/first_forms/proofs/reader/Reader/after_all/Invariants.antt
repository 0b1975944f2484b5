use Rattle.std.proofs.Common.{◌≡◌, Some, take}
use Rattle.first_forms.specs.Reading.{run, start}
use Rattle.first_forms.specs.declared.reader.State.TheVariants as state
use Rattle.first_forms.proofs.reader.Reader.after_all.Given as goal

abbrev pub invariant-loop-token : goal.invariant-loop-token
invariant-loop-token l = run (start l.hosts) state.Start (take l.token-index l.tokens) ≡ Some (l.reader, l.state)
