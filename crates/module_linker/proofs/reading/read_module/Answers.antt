use Rattle.std.proofs.Common.{rules, chars}
use Rattle.module_linker.specs.module_checks.Faults.{IsPlaced}
use Rattle.module_linker.specs.module_checks.Reading.{IsLexed}
use Rattle.module_linker.proofs.module_checks.Refused.{no_module}
use Rattle.module_linker.proofs.reading.read_module.Goals as goal

pub returns-in-Err-clause-fault : goal.returns-in-Err-clause-fault
returns-in-Err-clause-fault c =
    let lexed : IsLexed c.args.bytes.now c.as_slice.result.now = search rules in
    let placed : IsPlaced (chars c.args.bytes.now) c.in-Err.fault c.unparsed.result = search rules in
    no_module c.args.bytes.now c.as_slice.result.now c.in-Err.fault lexed c.in-Err.ensures.fault c.in-Err.ensures.read c.unparsed.result placed
