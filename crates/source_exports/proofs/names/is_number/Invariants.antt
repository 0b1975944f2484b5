use Rattle.std.proofs.Common.{◌≡◌, drop}
use Rattle.source_meaning.specs.Modules.{is_number}
use Rattle.source_exports.proofs.names.is_number.Given as goal

abbrev pub invariant-loop-one : goal.invariant-loop-one
invariant-loop-one l = is_number l.number (drop l.one-index l.numbers) ≡ is_number l.number l.numbers
