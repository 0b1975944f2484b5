use Rattle.std.proofs.Common.{Some}
use Rattle.edited_files.proofs.EditLemmas.{edit_at-put}
use Rattle.edited_files.proofs.edited_files.EditedFiles.put.Goals as goal

pub returns-clause-put : goal.returns-clause-put
returns-clause-put g c = edit_at-put c.args.path (Some c.args.bytes) c.args.self.now.edits c.insert.new.self (rw c.in_ok-insert.was at c.insert.ensures.updates)
