use Rattle.std.proofs.Common.{◌≤◌, length, take, drop, arith, rules}
use Rattle.std.proofs.lemmas.List.{take_rest}
use Rattle.es_outside.specs.Sinks.{Adds}
use Rattle.es_outside.proofs.SinkLemmas.{Adds-further}
use Rattle.es_outside.proofs.sink.write_all.Goals as goal

pub loop-count-preserved : goal.loop-count-preserved
loop-count-preserved g c =
    let more : Adds (take c.in_ok-count.field-0 (drop c.loop-count.count c.args.bytes.now)) (g.S.Sink.bytes c.loop-count.sink) (g.S.Sink.bytes c.write.new.self)
    = rw (c.in_ok-count.was, take_rest) at c.write.ensures.added in
    let fits : c.in_ok-count.field-0 ≤ length (drop c.loop-count.count c.args.bytes.now) = (rw (c.in_ok-count.was, take_rest) at c.write.ensures.taken).1 in
    record {
      within = grind (arith, fits);
      added = Adds-further _ _ _ _ _ _ c.loop-count.invariant.added more;
      no_fall = search rules;
    }
