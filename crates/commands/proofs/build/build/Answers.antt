use Rattle.std.proofs.Common.{◌∙◌, sym}
use Rattle.es_outside.specs.HostList.{names}
use Rattle.commands.proofs.Outcomes.{built_at, built_of}
use Rattle.commands.proofs.build.build.Goals as goal

pub script_of_entry-requires : goal.script_of_entry-requires
script_of_entry-requires g c =
    built_at c.in_ok-host_names.host_names c.as_slice.result.now (g.F.Files.files c.args.files.now) (g.F.Files.files c.checked.new.files) c.args.path.now c.in_ok-compiled.compiled
    (c.as_slice.ensures.value ∙ c.in_ok-names.ensures ∙ sym c.in_ok-host_names.ensures) c.in_ok-compiled.ensures.kept c.in_ok-compiled.ensures.made

pub returns-clause-built : goal.returns-clause-built
returns-clause-built g c =
    built_of (names c.args.hosts.now) c.as_slice.result.now (g.F.Files.files c.args.files.now) (g.F.Files.files c.checked.new.files) c.args.path.now
    (g.F.Files.faults c.args.files.now) (g.F.Files.faults c.checked.new.files) (g.F.Files.faults c.script_of_entry.new.files) c.script_of_entry.result
    (c.as_slice.ensures.value ∙ c.in_ok-names.ensures) c.in_ok-compiled.ensures.kept c.in_ok-compiled.ensures.no_fall c.script_of_entry.ensures.built
