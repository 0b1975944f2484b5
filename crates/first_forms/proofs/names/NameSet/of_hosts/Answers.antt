use Rattle.std.proofs.Common.{get_or, sym, ap, ◌∙◌}
use Rattle.first_forms.specs.Reading.{with_host}
use Rattle.first_forms.proofs.NameSets.{importable-more, importable-none}
use Rattle.first_forms.proofs.names.NameSet.of_hosts.Goals as goal

pub loop-host-init : goal.loop-host-init
loop-host-init c = c.new-names.ensures ∙ sym importable-none

pub loop-host-preserved : goal.loop-host-preserved
loop-host-preserved c =
    c.in_ok-insert_host.ensures ∙ ap (λ n. with_host c.loop-host.names n) (c.bytes.ensures ∙ c.host-item.is) ∙ ap (λ ns. with_host ns (get_or c.args.hosts.now c.loop-host.host-index c.host-item.result)) c.loop-host.invariant
    ∙ sym (importable-more c.args.hosts.now c.loop-host.host-index c.host-item.result c.loop-host-test.true)
