use Rattle.es_outside.proofs.FileLemmas.{file_of-put}
use Rattle.es_outside.proofs.memory_files.MemoryFiles.new.Goals as goal

pub loop-path-preserved-in_ok-insert : goal.loop-path-preserved-in_ok-insert
loop-path-preserved-in_ok-insert c = file_of-put c.loop-path.yielded (c.in-Some.path, c.in-Some.bytes) c.loop-path.files c.insert.new.self
    (rw c.in_ok-insert.was at c.insert.ensures.updates) c.loop-path.invariant

pub loop-path-preserved : goal.loop-path-preserved
loop-path-preserved c = file_of-put c.loop-path.yielded (c.in-Some.path, c.in-Some.bytes) c.loop-path.files c.insert.new.self
    (rw c.in_ok-insert.was at c.insert.ensures.updates) c.loop-path.invariant
