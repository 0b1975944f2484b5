use Rattle.std.proofs.Common.{None}
use Rattle.edited_files.proofs.EditLemmas.{edit_at-put}
use Rattle.edited_files.proofs.edited_files.EditedFiles.drop_path.Goals as goal

pub returns-clause-dropped : goal.returns-clause-dropped
returns-clause-dropped g c = edit_at-put c.args.path None c.args.self.now.edits c.insert.new.self (rw c.in_ok-insert.was at c.insert.ensures.updates)
