-- What is read as it is.
use Rattle.std.proofs.Common.{◌≡◌}
use Rattle.std.specs.Prelude.{Result, Ok, Err}
use Rattle.es6_reading.specs.Parser.{Input, Outcome}
use Rattle.es6_cursor.specs.declared.halt.Halt.{Halt}
use Rattle.es6_cursor.specs.Reads.{Reads, ReadsAs}

pub reads_same : {A : Type 0} (o : Outcome A) (r : Result A Halt) (c : Input) → ReadsAs (λ x. x) o r c → Reads o r c
reads_same o (Ok x) c h = h
reads_same o (Err halt) c h = h

pub reads_as : {A : Type 0} (o : Outcome A) (r : Result A Halt) (c : Input) → Reads o r c → ReadsAs (λ x. x) o r c
reads_as o (Ok x) c h = h
reads_as o (Err halt) c h = h
