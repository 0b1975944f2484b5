-- Where the run of a graph stands, whose pending work is takers.
use Rattle.eval6_step.specs.Runs.{position_of}
use Rattle.eval6_step.specs.declared.run6.Run6.{Run6}
use Rattle.program_runs.specs.Positions.{Position}
use Rattle.source_meaning.specs.State.{Configuration}
use Rattle.source_takers.specs.declared.takers.Taker.{Taker}
use Rattle.source_works.specs.Seen.{seen_of}
use Rattle.source_works.specs.declared.pending.Pending.{Pending}

abbrev pub stands : Run6 (Pending Taker) → Position Configuration
stands run = position_of (seen_of (λ taker. taker)) run
