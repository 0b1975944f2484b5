use Rattle.std.proofs.Common.{arith}
use Rattle.pass_rules.specs.Scopes.{without_scopes}
use Rattle.pass_rules.specs.yield_rules.Yields.{with_yields_flat}
use Rattle.pass_rules.specs.pass_laws.Marks.{AllMakeNoMarks}
use Rattle.pass_rules.proofs.pass_laws.FlatCores.{scopes_keep_law}
use Rattle.pass_rules.proofs.pass_laws.FlatMarks.{scopes_keep_marks}
use Rattle.pass_rules.proofs.pass_laws.MachineMarks.{machines_make_no_marks}
use Rattle.pass_rules.proofs.pass_laws.YieldMarksOut.{yields_keep_marks}
use Rattle.pass_rules.proofs.pass_laws.marks_of_calls_are_kept.Goals as goal

all_make_no_marks : AllMakeNoMarks
all_make_no_marks such core h u =
    let flat = without_scopes core in
    let a = machines_make_no_marks such (with_yields_flat flat) in
    let b = yields_keep_marks such flat (h.0, scopes_keep_law h.0 core h.1 u) in
    let d = scopes_keep_marks such core h in omega arith

pub returns : goal.returns
returns c = record { scopes = scopes_keep_marks; yields = yields_keep_marks; machines = machines_make_no_marks; all = all_make_no_marks }
