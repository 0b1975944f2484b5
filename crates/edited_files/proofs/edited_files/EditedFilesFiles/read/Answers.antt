use Rattle.edited_files.proofs.edited_files.EditedFilesFiles.read.Goals as goal

pub returns-in-Some-Some-clause-failed : goal.returns-in-Some-Some-clause-failed
returns-in-Some-Some-clause-failed g c = λ failed. absurd (c.front.ensures.never_fails failed)
